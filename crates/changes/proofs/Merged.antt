-- The walk along two orders: what each look answers, what the next position of an order gives, and that the next day found is the next change day.
use mathlib.Core.Path.{◌≡◌, sym, ap, ◌∙◌}
use mathlib.Core.Logic.{◌⊎◌, inl, inr, ⊎_elim}
use mathlib.Core.Bool.{Bool, true, false, ◌&&◌, ◌||◌, not}
use mathlib.Core.List.{List}
use Prim.Native.Nat.{ℕ, ◌+◌, ◌≤◌, ◌<◌}
use Rattle.std.specs.Prelude.{min}
use native.Mathlib.Nat.{eq-or-lt_of_le}
use native.Mathlib.Omega.{arith}
use lib.Dec.{ltb}
use lib.ListN.{length, get_or}
use borrow.Author.Tests.{ltb-true, ltb-false, eq-eqb, ne_eqb, not-true, not-false}
use Rattle.meaning.specs.declared.Rule.{Rule}
use Rattle.meaning.specs.Document.{Doc, is_version}
use Rattle.meaning.specs.Rules.{is_reference}
use Rattle.meaning.specs.Select.{reads_own, reads}
use Rattle.meaning.specs.Day.{is_change}
use Rattle.meaning.proofs.Basics.{le_or_lt, clear, never, and_l, and_r, and_same}
use Rattle.meaning.proofs.Says.{and_fails}
use Rattle.meaning.proofs.Selects.{version-here, reads-version}
use Rattle.meaning.proofs.Changes.{change_why, why_change}
use Rattle.columns.specs.Lent.{Lends, Periods}
use Rattle.marks.specs.Marks.{marked, Marks, after}
use Rattle.marks.proofs.After.{Next, after_is, after-end}
use Rattle.changes.specs.Merging.{Sorted, Walkable, read_by, turns_after, Turn, DayAt, Merges, Passed, Come}

-- what a walk is given, put together
pub merges : (doc : Doc) (q r : Rule) {opens closes begins ends own : List ℕ} {reference : Bool} {referred : List ℕ}
    → Periods doc begins ends → Sorted doc doc.begin opens → Sorted doc doc.end closes → Marks (reads_own doc r) doc.size own
    → reference ≡ is_reference r → (reference ≡ true → Marks (reads_own doc q) doc.size referred)
    → Merges doc q r opens closes begins ends own reference referred
merges doc q r p a b own ref referred =
    record { periods = p; by_begin = a; by_end = b; own_read = own; refers = ref; referred_read = referred }

-- an order of the versions goes over a column of the document, with marks for its records
pub walkable : {doc : Doc} {day : ℕ → ℕ} {order days own referred : List ℕ} → Sorted doc day order → Lends doc.size day 0 days
    → doc.size ≤ length own → doc.size ≤ length referred → Walkable order days own referred
walkable {doc} {day} {order} s w a b =
    record {
      small = λ j h. omega (arith, version-here doc (get_or order j 0) (s.version j h), w.size);
      own_room = omega (arith, w.size);
      referred_room = omega (arith, w.size);
    }

-- whether record x is read: by its own mark, or by the other one for a reference
module _ (own : List ℕ) (reference : Bool) (referred : List ℕ) (x : ℕ) where
  pub read-own : get_or own x 0 ≡ 1 → true ≡ read_by own reference referred x
  unfolding read_by
  read-own e = rw (eq-eqb (get_or own x 0) 1 e)

  pub read_none : (get_or own x 0 ≡ 1 → ⊥) → not reference ≡ true → false ≡ read_by own reference referred x
  unfolding read_by
  read_none n e = rw (ne_eqb (get_or own x 0) 1 n, not-true reference e)

  pub read-other : (get_or own x 0 ≡ 1 → ⊥) → not reference ≡ false → marked referred x ≡ read_by own reference referred x
  unfolding read_by
  read-other n e = rw (ne_eqb (get_or own x 0) 1 n, not-false reference e)

  -- whether it turns after a day
  module _ (days : List ℕ) (day : ℕ) (read : Bool) (e : read ≡ read_by own reference referred x) where
    pub later-unread : not read ≡ true → false ≡ turns_after days own reference referred day x
    unfolding turns_after
    later-unread n = rw (sym e ∙ not-true read n)

    pub later-read : not read ≡ false → ltb day (get_or days x 0) ≡ turns_after days own reference referred day x
    unfolding turns_after
    later-read n = rw (sym e ∙ not-false read n)

-- the answer for the record of a position
pub told : (days own : List ℕ) (reference : Bool) (referred : List ℕ) (day : ℕ) {x y : ℕ} {is b : Bool}
    → is ≡ turns_after days own reference referred day x → x ≡ y → is ≡ b → turns_after days own reference referred day y ≡ b
told days own reference referred day e p t = rw (sym p) (sym e ∙ t)

-- the next number that passes, from any number on
module _ (f : ℕ → Bool) (n : ℕ) where
  pub after-most : (i : ℕ) → after f i n ≤ n
  after-most i = ⊎_elim (λ h. (after_is f n i h).to) (λ h. omega (arith, after-end f n i (omega arith))) (le_or_lt i n)

  pub after-before : (i k : ℕ) → i ≤ k → k < after f i n → f k ≡ false
  after-before i k a b =
      ⊎_elim
      (λ h. (after_is f n i h).before k a b)
      (λ h. absurd (omega (arith, after-end f n i (omega arith))))
      (le_or_lt i n)

  pub after-passes : (i : ℕ) → after f i n < n → f (after f i n) ≡ true
  after-passes i l =
      ⊎_elim
      (λ h. (after_is f n i h).passes l)
      (λ h. absurd (omega (arith, after-end f n i (omega arith))))
      (le_or_lt i n)

  -- there is one next number
  pub next_one : (i v : ℕ) → i ≤ n → Next f n i v → v ≡ after f i n
  next_one i v h w =
      let u = after f i n in
      let x = after_is f n i h in
      let under : v < u → ⊥ = λ l. clear (w.passes (omega (arith, x.to))) (x.before v w.from l) in
      let over : u < v → ⊥ = λ l. clear (x.passes (omega (arith, w.to))) (w.before u x.from l) in
      omega arith

-- what the next position of an order gives: before it nothing that is read turns after `day`, and `found`, if it is not `none`, is the
-- first day after `day` on which a version that is read turns
record Ahead (read : ℕ → Bool) (column : ℕ → ℕ) (order : List ℕ) (day i none found : ℕ) : Type 0 where
  passed : Passed read column order i day
  soonest : (x : ℕ) → read x ≡ true → day < column x → found ≤ column x
  turning : (found ≡ none) ⊎ ((x : ℕ) × (read x ≡ true) × (column x ≡ found))

module _ (read : ℕ → Bool) (column : ℕ → ℕ) (order : List ℕ) (day : ℕ) (later : ℕ → Bool)
    (tells : (k : ℕ) → k < length order → later k ≡ (read (get_or order k 0) && ltb day (column (get_or order k 0))))
    (from : ℕ) (p : Passed read column order from day) (i : ℕ) (here : i ≡ after later from (length order)) where
  passed_on : Passed read column order i day
  passed_on k l y =
      ⊎_elim
      (λ a.
      let e = after-before later (length order) from k a (rw here at l) in
      let h = after-most later (length order) from in
      ltb-false day (column (get_or order k 0)) ((and_fails _ _).0 (sym (tells k (omega arith)) ∙ e) y))
      (λ b. p k b y)
      (le_or_lt from k)

  module _ (doc : Doc) (s : Sorted doc column order) (versions : (x : ℕ) → read x ≡ true → is_version doc x ≡ true) (days : List ℕ) (none found : ℕ)
      (at : (x : ℕ) → get_or days x 0 ≡ column x) (w : DayAt order days i none found) where
    soonest_here : (x : ℕ) → read x ≡ true → day < column x → found ≤ column x
    soonest_here x y l =
        let z = s.stands x (versions x y) in
        let j = z.0 in
        let e = ap column z.2 in
        let met : j < i → ⊥ = λ b. let c = passed_on j b (rw z.2 y) in omega arith in
        let low : i ≤ j = omega arith in
        let f = w.there (omega (arith, z.1)) ∙ at (get_or order i 0) in
        ⊎_elim
        (λ same. let g = ap (λ k. column (get_or order k 0)) same in omega arith)
        (λ lt. omega (arith, s.rising i j lt z.1))
        (eq-or-lt_of_le low)

    turning_here : (found ≡ none) ⊎ ((x : ℕ) × (read x ≡ true) × (column x ≡ found))
    turning_here =
        ⊎_elim
        (λ b. inl (w.beyond b))
        (λ l.
        let x = get_or order i 0 in
        let t = sym (tells i l) ∙ ap later here ∙ after-passes later (length order) from (rw here at l) in
        inr (x, and_l (read x) _ t, sym (w.there l ∙ at x)))
        (le_or_lt (length order) i)

    ahead_here : Ahead read column order day i none found
    ahead_here = record { passed = passed_on; soonest = soonest_here; turning = turning_here }

-- whatever the orders hold, the day found lies after the one before
pub later-found : {order days own : List ℕ} {reference : Bool} {referred : List ℕ} {day past from i found : ℕ}
    → Turn order days own reference referred day from i → DayAt order days i past found → day < past → day < found
unfolding turns_after
later-found {order} {days} {own} {reference} {referred} {day} {past} {from} {i} n w h =
    let f : ℕ → Bool = λ k. turns_after days own reference referred day (get_or order k 0) in
    let e = n.here in
    ⊎_elim
    (λ b. omega (arith, w.beyond b))
    (λ l.
    let t = ap f e ∙ after-passes f (length order) from (rw e at l) in
    omega (arith, ltb-true day (get_or days (get_or order i 0) 0) (and_r (read_by own reference referred (get_or order i 0)) _ t), w.there l))
    (le_or_lt (length order) i)

-- of two days and the end, the least
pub later-day : {day past opened closed turned v : ℕ} → turned ≡ min opened closed → v ≡ min turned past → day < past → day < opened → day < closed
    → (day < v) × (v ≤ past)
later-day t u l a b = (omega arith, omega arith)

-- the lesser of two is one of them
one-of : {r : ℕ} (a b : ℕ) → r ≡ min a b → (r ≡ a) ⊎ (r ≡ b)
one-of a b e = ⊎_elim (λ h. inl (omega arith)) (λ h. inr (omega arith)) (le_or_lt a b)

module _ (doc : Doc) (q r : Rule) {opens closes begins ends own : List ℕ} {reference : Bool} {referred : List ℕ}
    (m : Merges doc q r opens closes begins ends own reference referred) where
  -- the marks tell what is read
  read_same : (x : ℕ) → x < doc.size → read_by own reference referred x ≡ reads doc q r x
  unfolding read_by reads
  read_same x h =
      ap (λ b. b || (reference && marked referred x)) (m.own_read.mark x h)
      ∙ ap (λ b. reads_own doc r x || b)
      (and_same reference (marked referred x) (reads_own doc q x) (λ t. (m.referred_read t).mark x h) ∙ ap (λ b. b && reads_own doc q x) m.refers)

  ahead : {order : List ℕ} (column : ℕ → ℕ) {days : List ℕ} {day from i none found : ℕ} → Sorted doc column order → ((x : ℕ) → get_or days x 0 ≡ column x)
      → Passed (reads doc q r) column order from day → Turn order days own reference referred day from i → DayAt order days i none found
      → Ahead (reads doc q r) column order day i none found
  unfolding turns_after
  ahead {order} column {days} {day} {from} {i} {none} {found} s at p n w =
      ahead_here (reads doc q r) column order day (λ k. turns_after days own reference referred day (get_or order k 0))
      (λ k h. let x = get_or order k 0 in
      ap (λ b. b && ltb day (get_or days x 0)) (read_same x (version-here doc x (s.version k h))) ∙ ap (λ d. reads doc q r x && ltb day d) (at x))
      from p i n.here doc s (reads-version doc q r) days none found at w

  module _ {begun ended day past : ℕ} (w : Come doc q r opens closes begun ended day) (l : day < past) {i j opened closed turned v : ℕ}
      (ni : Turn opens begins own reference referred day begun i) (nj : Turn closes ends own reference referred day ended j)
      (a : DayAt opens begins i past opened) (b : DayAt closes ends j past closed) (t : turned ≡ min opened closed) (u : v ≡ min turned past) where
    opening : Ahead (reads doc q r) doc.begin opens day i past opened
    opening = ahead doc.begin m.by_begin m.periods.begin.at w.begins ni a

    closing : Ahead (reads doc q r) doc.end closes day j past closed
    closing = ahead doc.end m.by_end m.periods.end.at w.ends nj b

    on : (day < v) × (v ≤ past)
    on = later-day t u l (later-found ni a l) (later-found nj b l)

    -- the walk has come to the day found
    pub come_on : Come doc q r opens closes i j v
    come_on =
        record {
          since = omega (arith, w.since, on.0);
          begins = λ k h y. omega (arith, opening.passed k h y, on.0);
          ends = λ k h y. omega (arith, closing.passed k h y, on.0);
        }

    -- no change day lies between
    none_between : (k : ℕ) → day + 1 ≤ k → k < v → is_change doc q r k ≡ false
    none_between k low high =
        never (is_change doc q r k)
        (λ y.
        ⊎_elim
        (λ e. omega (arith, e, w.since))
        (λ z.
        ⊎_elim
        (λ e. omega (arith, opening.soonest z.0 z.1 (omega (arith, e)), e))
        (λ e. omega (arith, closing.soonest z.0 z.1 (omega (arith, e)), e))
        z.2)
        (change_why doc q r k y))

    -- the day found is one
    found-change : v < past → is_change doc q r v ≡ true
    found-change h =
        ⊎_elim
        (λ e.
        ⊎_elim
        (λ f. ⊎_elim (λ g. absurd (omega arith)) (λ z. why_change doc q r v (inr (z.0, z.1, inl (z.2 ∙ sym (e ∙ f))))) opening.turning)
        (λ f. ⊎_elim (λ g. absurd (omega arith)) (λ z. why_change doc q r v (inr (z.0, z.1, inr (z.2 ∙ sym (e ∙ f))))) closing.turning)
        (one-of opened closed t))
        (λ e. absurd (omega arith))
        (one-of turned past u)

    pub next-found : v ≡ after (is_change doc q r) (day + 1) past
    next-found =
        next_one (is_change doc q r) past (day + 1) v (omega arith)
        (record { from = omega (arith, on.0); to = on.1; before = none_between; passes = found-change })
