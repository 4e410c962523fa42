-- What the searches along the order of ends find for one field version is how far back a window must reach for it to offend.
use mathlib.Core.Path.{◌≡◌, refl, sym, ◌∙◌, ap}
use mathlib.Core.Logic.{⊎_elim}
use mathlib.Core.Bool.{Bool, true, false, ◌&&◌, ◌||◌, not, cond, and_assoc}
use mathlib.Core.List.{List}
use Prim.Native.Nat.{ℕ, ◌+◌, ◌-◌, ◌≤◌, ◌<◌}
use native.Mathlib.Omega.{arith}
use lib.IntN.{ℤ, pos, ◌-ℤ◌}
use lib.Signed.{mag}
use lib.Dec.{leb, ltb, eqb}
use lib.ListN.{length, get_or}
use borrow.Author.Tests.{ltb-true, lt-ltb, eq-eqb, ne_eqb, eqb-true, eqb-false, le-leb, lt-leb, leb-true, not-true}
use Rattle.meaning.specs.declared.Rule.{Rule}
use Rattle.meaning.specs.Block.{limit}
use Rattle.meaning.specs.Walk.{any}
use Rattle.meaning.specs.Document.{Doc, number_of}
use Rattle.meaning.specs.Select.{is_nil, is_number, within}
use Rattle.meaning.specs.Window.{under, follows, jumps}
use Rattle.meaning.proofs.Basics.{went, le_or_lt, clear, never, tests_same, and_l, and_r, both, or_cases, or_l, or_r}
use Rattle.meaning.proofs.Walks.{any_none, any_false, any_some, any-true}
use Rattle.meaning.proofs.Says.{says}
use Rattle.meaning.proofs.Selects.{version-here}
use Rattle.columns.specs.Judgeable.{Judgeable}
use Rattle.columns.proofs.Along.{past-low, past-in}
use Rattle.prepare.specs.Rows.{KnownOnly}
use Rattle.groups.specs.Groups.{in_group}
use Rattle.groups.specs.Classes.{class_at}
use Rattle.groups.proofs.Gathering.{class-here}
use Rattle.steps.specs.Greatest.{Chain, greater}
use Rattle.steps.specs.Reaching.{always, wrong_after, Reaches}
use Rattle.steps.specs.Stacks.{Latest}
use Rattle.steps.specs.Levels.{level_of, bound_of, Placed, place_level}
use Rattle.steps.specs.Sweeping.{Sweepable, Sought}
use Rattle.steps.specs.Places.{Closing, Threaded, Settled, group_at, end_at, settled_as}
use Rattle.steps.proofs.Grouping.{group_version}
use Rattle.steps.proofs.Windowed.{under-ever, number-ever}
use Rattle.steps.proofs.Stacking.{past-out}
use Rattle.steps.proofs.Raising.{wrong-levels}
use Rattle.steps.proofs.Reached.{chosen, reach-none, reach-text, wrong-number}

-- t is one past the last place below s with a wrong step
pub record Turn (own wrong : ℕ → Bool) (s t : ℕ) : Type 0 where
  pub low : t ≤ s
  pub mine : 0 < t → own (t - 1) ≡ true
  pub hit : 0 < t → wrong (t - 1) ≡ true
  pub none : (i : ℕ) → t ≤ i → i < s → own i ≡ true → wrong i ≡ true → ⊥

-- it is the later of the last from which the step is too high, and the last from which it is too low
turn_later : (own wrong : ℕ → Bool) (f g : ℕ → ℕ) (p q s x y : ℕ) → ((i : ℕ) → i < s → wrong i ≡ (ltb (f i) p || ltb (g i) q))
    → Latest own f p s x → Latest own g q s y → Turn own wrong s (greater x y)
turn_later own wrong f g p q s x y each a b =
    ⊎_elim
    (λ (t : ltb x y ≡ true).
    let l = ltb-true x y t in
    rw t
    (record {
      low = b.low;
      mine = b.passed;
      hit = λ h. each (y - 1) (omega (arith, b.low)) ∙ or_r (ltb (f (y - 1)) p) (ltb (g (y - 1)) q) (lt-ltb (g (y - 1)) q (b.under h));
      none = λ i h k. not_here i (omega arith) h k;
    }))
    (λ (t : ltb x y ≡ false).
    let l : y ≤ x = simp says at t in
    rw t
    (record {
      low = a.low;
      mine = a.passed;
      hit = λ h. each (x - 1) (omega (arith, a.low)) ∙ or_l (ltb (f (x - 1)) p) (ltb (g (x - 1)) q) (lt-ltb (f (x - 1)) p (a.under h));
      none = λ i h k. not_here i h (omega arith) k;
    }))
    (went (ltb x y))
  where
    not_here : (i : ℕ) → x ≤ i → y ≤ i → i < s → own i ≡ true → wrong i ≡ true → ⊥
    not_here i h k l m w =
        ⊎_elim
        (λ e. omega (arith, ltb-true (f i) p e, a.none i h l m))
        (λ e. omega (arith, ltb-true (g i) q e, b.none i k l m))
        (or_cases (ltb (f i) p) (ltb (g i) q) (sym (each i l) ∙ w))

module _ (doc : Doc) (r : Rule) (vkinds : List ℕ) (values : List ℤ) (begins ends keys groups closes : List ℕ)
    (c : Closing doc r vkinds values begins ends keys groups closes) (ok : Judgeable doc) where
  -- the record at a place
  abbrev there : ℕ → ℕ
  there j = get_or closes j 0

  abbrev level : ℕ → ℕ → ℕ
  level which = place_level which vkinds values begins ends closes

  level-ends : (j : ℕ) → level 0 j ≡ doc.end (there j)
  unfolding place_level level_of
  level-ends j = c.periods.end.at (there j)

  level-begins : (j : ℕ) → level 1 j ≡ 65535 - doc.begin (there j)
  unfolding place_level level_of
  level-begins j = ap (λ b. 65535 - b) (c.periods.begin.at (there j))

  -- no later place has an earlier end
  rises : (i j : ℕ) → i ≤ j → j < length closes → doc.end (there i) ≤ doc.end (there j)
  rises i j h l =
      ⊎_elim
      (λ (e : j ≤ i). let q : i ≡ j = omega arith in rw q (omega arith))
      (λ (e : i < j). c.order.rising i j e l)
      (le_or_lt j i)

  -- f is a number of an item number n, whose field versions are chained along the order; s is one past the last place of those that end by its begin
  module _ (n f past s : ℕ) (prior : List ℕ) (z low high : ℤ) (ch : Chain (group_at doc r closes n) (length closes) past prior)
      (l : Latest (group_at doc r closes n) (level 0) (bound_of 0 z low high (get_or begins f 0)) past s) where
    abbrev own : ℕ → Bool
    own = group_at doc r closes n

    -- a step from the record at a place is wrong
    abbrev wrong : ℕ → Bool
    wrong i = is_number doc (there i) && not (within r (doc.value f -ℤ doc.value (there i)))

    bound_day : bound_of 0 z low high (get_or begins f 0) ≡ doc.begin f + 1
    unfolding bound_of
    bound_day = ap (λ b. b + 1) (c.periods.begin.at f)

    within-order : s ≤ length closes
    within-order = omega (arith, l.low, ch.last_is, past-low own (length closes))

    ended : (j : ℕ) → j < s → doc.end (there j) ≤ doc.begin f
    ended j h = omega (arith, l.under (omega arith), level-ends (s - 1), bound_day, rises j (s - 1) (omega arith) (omega (arith, within-order)))

    -- whoever ends by the begin of f stands before s
    place_of : (g : ℕ) → in_group doc r n g ≡ true → doc.end g ≤ doc.begin f → (j : ℕ) × (j < s) × (there j ≡ g)
    place_of g m e =
        let w = c.order.stands g (group_version doc r n g m) in
        let j = w.0 in
        let mine : own j ≡ true = ap (in_group doc r n) w.2 ∙ m in
        ⊎_elim
        (λ (h : s ≤ j). absurd (⊎_elim
        (λ (k : past ≤ j). clear mine (past-out own (length closes) j (omega (arith, ch.last_is)) w.1))
        (λ (k : j < past). omega (arith, l.none j h k mine, level-ends j, bound_day, ap doc.end w.2))
        (le_or_lt past j)))
        (λ (h : j < s). (j, h, w.2))
        (le_or_lt s j)

    module _ (known : KnownOnly doc r) (t until w reach : ℕ) (turn : Turn own wrong s t) (until-is : until ≡ end_at ends closes t)
        (p : Latest own (level 1) (bound_of 1 z low high until) s w) (reach-is : reach ≡ cond (eqb w 0) until 0) where
      until_none : t ≡ 0 → until ≡ 0
      unfolding end_at
      until_none e = until-is ∙ rw (eq-eqb t 0 e)

      until-some : 0 < t → until ≡ doc.end (there (t - 1))
      unfolding end_at
      until-some h = let e : t ≡ 0 → ⊥ = λ q. omega arith in until-is ∙ rw (ne_eqb t 0 e) (c.periods.end.at (there (t - 1)))

      bound_until : bound_of 1 z low high until ≡ 65536 - until
      unfolding bound_of
      bound_until = refl

      -- no place was found: nothing of the item number lies from `until` to f
      unparted : w ≡ 0 → (h : ℕ) → in_group doc r n h ≡ true → doc.end h ≤ doc.begin f → until ≤ doc.begin h → ⊥
      unparted e h m b u =
          let k = place_of h m b in
          let d = ok.dated h (version-here doc h (group_version doc r n h m)) in
          omega (arith, p.none k.0 (omega arith) k.1 (ap (in_group doc r n) k.2 ∙ m), level-begins k.0, bound_until, ap doc.begin k.2, d.0)

      -- a place was found: who stands there lies between
      parts : 0 < w → (until ≤ doc.begin (there (w - 1))) × (doc.end (there (w - 1)) ≤ doc.begin f) × (in_group doc r n (there (w - 1)) ≡ true)
      parts h =
          let m = p.passed h in
          let d = ok.dated (there (w - 1)) (version-here doc (there (w - 1)) (group_version doc r n (there (w - 1)) m)) in
          (omega (arith, p.under h, level-begins (w - 1), bound_until, d.0), ended (w - 1) (omega (arith, p.low)), m)

      -- h lies wholly between g and f
      abbrev between : ℕ → ℕ → Bool
      between g h = leb (doc.end g) (doc.begin h) && leb (doc.end h) (doc.begin f) && under doc always r n h && not (is_nil doc h)

      -- g jumps to f, and ends after day a
      abbrev jumped : ℕ → ℕ → Bool
      jumped a g = jumps doc always r n f g && ltb a (doc.end g)

      -- where a reach was found, who stands there jumps to f
      found : (a : ℕ) → ltb a reach ≡ true → any (jumped a) 0 doc.size ≡ true
      unfolding jumps follows
      found a e =
          let free : w ≡ 0
          = ⊎_elim (λ y. eqb-true w 0 y) (λ z. let q : reach ≡ 0 = reach-is ∙ rw z in absurd (omega (arith, ltb-true a reach e))) (went (eqb w 0)) in
          let all : reach ≡ until = reach-is ∙ rw (eq-eqb w 0 free) in
          let late : a < until = omega (arith, ltb-true a reach e) in
          let some : 0 < t = ⊎_elim (λ (y : t ≤ 0). absurd (omega (arith, until_none (omega arith)))) (λ y. y) (le_or_lt t 0) in
          let g = there (t - 1) in
          let m = turn.mine some in
          let hit = turn.hit some in
          let same = until-some some in
          let quiet : any (between g) 0 doc.size ≡ false
          = any_none (between g) 0 doc.size
          (λ h _ _. never (between g h)
          (λ b.
          let q = simp says at b in
          unparted free h (sym (under-ever doc r ok known n h) ∙ both (under doc always r n h) (not (is_nil doc h)) q.0.1 (simp says q.1)) q.0.0.1 (omega (arith, q.0.0.0)))) in
          let there-under : under doc always r n g ≡ true = and_l (under doc always r n g) (not (is_nil doc g)) (under-ever doc r ok known n g ∙ m) in
          let ends : leb (doc.end g) (doc.begin f) ≡ true = le-leb (doc.end g) (doc.begin f) (ended (t - 1) (omega (arith, turn.low))) in
          let out : not (within r (doc.value f -ℤ doc.value g)) ≡ true = and_r (is_number doc g) _ hit in
          let number : is_number doc g ≡ true = and_l (is_number doc g) _ hit in
          any_some (jumped a) 0 doc.size g
          (record {
            from = omega arith;
            below = omega (arith, version-here doc g (group_version doc r n g m));
            passes = rw (out, number, ends, there-under, quiet) (lt-ltb a (doc.end g) (omega arith));
          })

      -- where g jumps to f, no later wrong step is parted from f, so the reach is at least the end of g
      meant : (a : ℕ) → any (jumped a) 0 doc.size ≡ true → ltb a reach ≡ true
      unfolding jumps follows
      meant a e =
          let k = any-true (jumped a) 0 doc.size e in
          let g = k.0 in
          let both-pass = k.1.passes in
          let late : a < doc.end g = ltb-true a (doc.end g) (and_r (jumps doc always r n f g) (ltb a (doc.end g)) both-pass) in
          let jump : not (within r (doc.value f -ℤ doc.value g)) && (is_number doc g && leb (doc.end g) (doc.begin f) && under doc always r n g && not (any (between g) 0 doc.size)) ≡ true
          = and_l (jumps doc always r n f g) (ltb a (doc.end g)) both-pass in
          let out = and_l (not (within r (doc.value f -ℤ doc.value g))) _ jump in
          let follow = and_r (not (within r (doc.value f -ℤ doc.value g))) _ jump in
          let near = and_l (is_number doc g && leb (doc.end g) (doc.begin f) && under doc always r n g) _ follow in
          let quiet : any (between g) 0 doc.size ≡ false = not-true (any (between g) 0 doc.size) (and_r (is_number doc g && leb (doc.end g) (doc.begin f) && under doc always r n g) _ follow) in
          let first = and_l (is_number doc g && leb (doc.end g) (doc.begin f)) _ near in
          let number = and_l (is_number doc g) _ first in
          let m : in_group doc r n g ≡ true = sym (number-ever doc r ok known n g number) ∙ and_r (is_number doc g && leb (doc.end g) (doc.begin f)) _ near in
          let ends = leb-true (doc.end g) (doc.begin f) (and_r (is_number doc g) _ first) in
          let j = place_of g m ends in
          let step : wrong j.0 ≡ true = rw j.2 (both (is_number doc g) _ number out) in
          let before : j.0 < t = ⊎_elim (λ (h : t ≤ j.0). absurd (turn.none j.0 h j.1 (ap (in_group doc r n) j.2 ∙ m) step)) (λ h. h) (le_or_lt t j.0) in
          let same = until-some (omega arith) in
          let far : doc.end g ≤ until = omega (arith, rises j.0 (t - 1) (omega arith) (omega (arith, turn.low, within-order)), ap doc.end j.2) in
          let free : w ≡ 0
          = ⊎_elim
          (λ (h : w ≤ 0). omega arith)
          (λ (h : 0 < w).
          let q = parts h in
          let i = there (w - 1) in
          let near-both = both (leb (doc.end g) (doc.begin i)) (leb (doc.end i) (doc.begin f)) (le-leb (doc.end g) (doc.begin i) (omega (arith, q.0))) (le-leb (doc.end i) (doc.begin f) q.1) in
          let lies : between g i ≡ true
          = and_assoc (leb (doc.end g) (doc.begin i) && leb (doc.end i) (doc.begin f)) (under doc always r n i) (not (is_nil doc i))
          ∙ both (leb (doc.end g) (doc.begin i) && leb (doc.end i) (doc.begin f)) (under doc always r n i && not (is_nil doc i)) near-both (under-ever doc r ok known n i ∙ q.2) in
          absurd (clear lies (any_false (between g) 0 doc.size quiet i (omega arith) (omega (arith, version-here doc i (group_version doc r n i q.2))))))
          (le_or_lt w 0) in
          let all : reach ≡ until = reach-is ∙ rw (eq-eqb w 0 free) in
          lt-ltb a reach (omega arith)

      pub reach-settled : (a : ℕ) → ltb a reach ≡ any (jumped a) 0 doc.size
      reach-settled a = tests_same (ltb a reach) (any (jumped a) 0 doc.size) (found a) (meant a)

module _ (doc : Doc) (r : Rule) (vkinds : List ℕ) (values : List ℤ) (begins ends keys groups closes : List ℕ)
    (c : Closing doc r vkinds values begins ends keys groups closes) (ok : Judgeable doc) where
  -- every place holds a record
  pub closing_placed : Placed doc.size closes
  closing_placed = record { few = c.few; here = λ j h. version-here doc (get_or closes j 0) (c.order.version j h) }

  pub kinds-placed : Placed (length vkinds) closes
  kinds-placed = rw c.vkind.size closing_placed

  -- the columns have an entry for each record, of which there are few
  pub closing_rooms : (length vkinds ≤ limit) × (length vkinds ≤ length keys) × (length vkinds ≤ length groups)
  closing_rooms = let n = c.vkind.size in (omega (arith, ok.few), omega (arith, c.rows.room), omega (arith, c.classes.room))

  -- the last place of a class is one of the order
  pub past-within : (last prior past : List ℕ) → Threaded (length vkinds) keys groups closes last prior
      → ((f : ℕ) → f < length vkinds → get_or past f 0 ≡ get_or last (class_at groups (length vkinds) (get_or keys f 0)) 0) → (f : ℕ) → f < doc.size → get_or past f 0 ≤ length closes
  past-within last prior past t e f h = omega (arith, e f (omega (arith, c.vkind.size)), t.low (class_at groups (length vkinds) (get_or keys f 0)))

  -- the columns are as the searches ask
  pub closing_sweepable : (prior start days : List ℕ) → length prior ≡ limit → doc.size ≤ length start → doc.size ≤ length days
      → ((f : ℕ) → f < doc.size → get_or start f 0 ≤ length closes) → Sweepable vkinds values begins ends closes prior start days
  closing_sweepable prior start days p s d l =
      let n = c.value.size in
      record {
        few = omega (arith, ok.few);
        vkind = c.vkind.size ∙ sym n;
        begin = c.periods.begin.size ∙ sym n;
        end = c.periods.end.size ∙ sym n;
        placed = rw n closing_placed;
        prior_room = omega (arith, c.few);
        start_room = omega arith;
        days_room = omega arith;
        start_low = λ f h. l f (omega arith);
      }

  module _ (known : KnownOnly doc r) (low high : ℤ) (lo : low ≡ r.low) (hi : high ≡ r.high) (fl : mag low < 2147483648) (fh : mag high < 2147483648)
      (last prior past start out : List ℕ) (thread : Threaded (length vkinds) keys groups closes last prior)
      (pasts : (f : ℕ) → f < length vkinds → get_or past f 0 ≡ get_or last (class_at groups (length vkinds) (get_or keys f 0)) 0)
      (starts : Sought 0 vkinds values begins ends closes prior past begins low high start) (s : Settled vkinds values begins ends keys closes prior start low high out) where
    -- the reach of f, a number with the key v
    module _ (f : ℕ) (h : f < doc.size) (v : ℕ) (is : v ≡ get_or keys f 0) (row : v < doc.size) (number : get_or vkinds f 0 ≡ 1) where
      in_kinds : f < length vkinds
      in_kinds = omega (arith, c.vkind.size)

      in_values : f < length values
      in_values = omega (arith, c.value.size)

      abbrev mine : ℕ → Bool
      mine = group_at doc r closes (number_of doc v)

      along : Chain mine (length closes) (get_or past f 0) prior
      along =
          let e : get_or past f 0 ≡ get_or last (get_or groups v 0) 0
          = pasts f in_kinds ∙ ap (λ k. get_or last k 0) (sym (class-here groups (length vkinds) (get_or keys f 0) v is (omega (arith, c.vkind.size)))) in
          rw e (thread.chain doc r (sym c.vkind.size) c.rows c.classes v (chosen doc r vkinds keys c.vkind c.rows f in_kinds v is (omega (arith, c.vkind.size))))

      past-mine : 0 < get_or past f 0 → mine (get_or past f 0 - 1) ≡ true
      past-mine p = let e = along.last_is in ap (λ x. mine (x - 1)) e ∙ past-in mine (length closes) (omega arith)

      begun : Latest mine (place_level 0 vkinds values begins ends closes) (bound_of 0 (get_or values f (pos 0)) low high (get_or begins f 0)) (get_or past f 0) (get_or start f 0)
      begun = starts.found f in_values mine (get_or past f 0) along past-mine

      -- a step is wrong where its level lies below one of the bounds
      told : (i : ℕ) → i < get_or start f 0
          → is_number doc (get_or closes i 0) && not (within r (doc.value f -ℤ doc.value (get_or closes i 0)))
          ≡ (ltb (place_level 2 vkinds values begins ends closes i) (bound_of 2 (get_or values f (pos 0)) low high (get_or begins f 0))
          || ltb (place_level 3 vkinds values begins ends closes i) (bound_of 3 (get_or values f (pos 0)) low high (get_or begins f 0)))
      unfolding place_level is_number within
      told i l =
          let p = get_or closes i 0 in
          rw (← c.vkind.at p, ← c.value.at p, ← c.value.at f, ← lo, ← hi)
          (wrong-levels (get_or vkinds p 0) (get_or values p (pos 0)) (get_or values f (pos 0)) low high (get_or begins p 0) (get_or ends p 0) (get_or begins f 0)
          (starts.small_there i (omega (arith, begun.low, along.last_is, past-low mine (length closes)))) (starts.small f in_values) fl fh)

      settled : (a : ℕ) → ltb a (get_or out f 0) ≡ wrong_after doc r f a
      unfolding settled_as
      settled a =
          let turn = turn_later mine _ _ _ _ _ _ _ _ told (s.aboves.found f in_values mine (get_or past f 0) along begun.passed) (s.beneaths.found f in_values mine (get_or past f 0) along begun.passed) in
          let part = s.partings.found f in_values mine (get_or past f 0) along begun.passed in
          let e : get_or out f 0 ≡ cond (eqb (get_or s.parting f 0) 0) (get_or s.until f 0) 0
          = s.answer f in_values ∙ rw (lt-leb (length values) (get_or keys f 0) (omega (arith, c.value.size)), eq-eqb (get_or vkinds f 0) 1 number) in
          reach-settled doc r vkinds values begins ends keys groups closes c ok (number_of doc v) f (get_or past f 0) (get_or start f 0) prior (get_or values f (pos 0)) low high along begun known
          _ (get_or s.until f 0) (get_or s.parting f 0) (get_or out f 0) turn (s.untils f in_values) part e a
          ∙ sym (wrong-number doc r vkinds keys c.vkind c.rows f in_kinds v is (omega (arith, c.vkind.size)) number a)

    -- the reach of every record
    pub swept_reaches : Reaches doc r out
    unfolding settled_as
    swept_reaches =
        record {
          room = omega (arith, s.room, ok.few);
          above = λ f a h l.
              let v = get_or keys f 0 in
              let e = s.answer f (omega (arith, c.value.size)) in
              ⊎_elim
              (λ (y : doc.size ≤ v).
              let q : get_or out f 0 ≡ 0 = e ∙ rw (le-leb (length values) v (omega (arith, c.value.size))) in
              rw q (reach-none doc r vkinds keys c.vkind c.rows f (omega (arith, c.vkind.size)) v refl (omega (arith, c.vkind.size)) a))
              (λ (y : v < doc.size).
              ⊎_elim
              (λ (k : eqb (get_or vkinds f 0) 1 ≡ true). settled f h v refl y (eqb-true (get_or vkinds f 0) 1 k) a)
              (λ (k : eqb (get_or vkinds f 0) 1 ≡ false).
              let q : get_or out f 0 ≡ 65535 = e ∙ rw (lt-leb (length values) v (omega (arith, c.value.size)), k) in
              rw q (reach-text doc r vkinds keys c.vkind c.rows f (omega (arith, c.vkind.size)) v refl (omega (arith, c.vkind.size)) (eqb-false (get_or vkinds f 0) 1 k) 65535 (omega arith) a l))
              (went (eqb (get_or vkinds f 0) 1)))
              (le_or_lt doc.size v);
        }
