-- How records get their classes: one record, the next of a chain, a chain to its end, and all keys.
use mathlib.Core.Path.{◌≡◌, refl, sym, ◌∙◌, ap}
use mathlib.Core.Bool.{Bool, true, false, ◌&&◌}
use mathlib.Core.Logic.{⊎_elim}
use mathlib.Core.List.{List}
use Prim.Native.Nat.{ℕ, zero, suc, ◌+◌, ◌-◌, ◌≤◌, ◌<◌}
use native.Mathlib.Omega.{arith}
use lib.Dec.{eqb}
use lib.ListN.{length, set, take, replicate, get_or-replicate, length-take, length-replicate}
use lib.Seq.{get_or-set_same, get_or-set_other}
use Rattle.std.proofs.lemmas.Bool.{cases_eq}
use Rattle.meaning.specs.Block.{limit}
use Rattle.meaning.proofs.Basics.{went, clear, le_or_lt}
use Rattle.meaning.proofs.Says.{says}
use Rattle.columns.specs.Chains.{past_last, keyed, Chained}
use Rattle.columns.proofs.Along.{past-low, past-in}
use Rattle.crowds.specs.Crowds.{at}
use Rattle.distinct.specs.Classes.{Pairs, has_key, Linked, Classed, Done, Stand}

-- record y has the key and the value of x
abbrev pub alike : List ℕ → List ℕ → ℕ → ℕ → Bool
alike keys reps y x = eqb (at keys y) (at keys x) && eqb (at reps y) (at reps x)

-- record x, whose value is v, and y, at which the value was last seen
module _ (keys reps : List ℕ) (n x : ℕ) (whose : List ℕ) (v : ℕ) (ev : v ≡ at reps x) (y : ℕ) (ey : y ≡ at whose v) where
  pub classed_seen : y < n → alike keys reps y x ≡ true → Classed keys reps n x whose whose (at whose v)
  classed_seen h t =
      let w = simp says at t in
      record {
        low = omega arith;
        key = ap (at keys) (sym ey) ∙ w.0;
        rep = ap (at reps) (sym ey) ∙ w.1;
        held = ap (at whose) (sym ev);
        others = λ c q. refl;
        found = λ z l e a b. ap (at whose) ev ∙ e;
      }

  pub classed_new : (y < n → alike keys reps y x ≡ false) → x < n → v < length whose → Classed keys reps n x whose (set whose v x) x
  classed_new f h room =
      record {
        low = h;
        key = refl;
        rep = refl;
        held = ap (at (set whose v x)) (sym ev) ∙ get_or-set_same whose v x 0 room;
        others = λ c q. get_or-set_other whose v c x 0 (λ e. q (e ∙ ev));
        found = λ z l e a b.
            let q : y ≡ z = ey ∙ ap (at whose) ev ∙ e in
            absurd (clear (simp says (ap (at keys) q ∙ a, ap (at reps) q ∙ b)) (f (omega arith)));
      }

-- what lies between the last that passes and the end does not pass
pub past-none : (m : ℕ → Bool) (t z : ℕ) → past_last m t ≤ z → z < t → m z ≡ false
unfolding past_last
past-none m zero z h l = absurd (omega arith)
past-none m (suc t) z h l =
    ⊎_elim
    (λ y. absurd (omega (arith, rw y at h)))
    (λ no. ⊎_elim (λ (e : z ≡ t). ap m e ∙ no) (λ e. past-none m t z (rw no at h) (omega arith)) (cases_eq z t))
    (went (m t))

-- the walk along the chain of key k has come to `past`
module _ (keys reps : List ℕ) (n k past : ℕ) (whose pair : List ℕ) (s : Stand keys reps n k past whose pair) where
  -- past records of other keys
  pub stand_down : (next : ℕ) → next ≡ past_last (has_key keys k) past → Stand keys reps n k next whose pair
  stand_down next e =
      let none : (x : ℕ) → next ≤ x → x < past → at keys x ≡ k → ⊥
      = λ x a b q. clear (simp says q) (past-none (has_key keys k) past x (omega arith) b) in
      let up : (x : ℕ) → at keys x ≡ k → next ≤ x → past ≤ x = λ x q l. ⊎_elim (λ h. h) (λ h. absurd (none x l h q)) (le_or_lt past x) in
      let done : (x : ℕ) → Done keys k next x → Done keys k past x = λ x d. record { key = d.key; from = λ q. up x q (d.from q) } in
      record {
        none = s.none;
        low = λ x h d. s.low x h (done x d);
        key = λ x h d. s.key x h (done x d);
        rep = λ x h d. s.rep x h (done x d);
        same = λ x y h l d f. s.same x y h l (done x d) (done y f);
        held = λ x h q l. s.held x h q (up x q l);
      }

  -- to the end of the chain
  pub stand_end : past ≤ 0 → Stand keys reps n (k + 1) n whose pair
  stand_end z =
      let done : (x : ℕ) → x < n → Done keys (k + 1) n x → Done keys k past x
      = λ x h d. record {
        key = ⊎_elim (λ l. l) (λ l. let q : at keys x ≡ k + 1 = omega (arith, d.key) in absurd (omega (arith, d.from q))) (le_or_lt (at keys x) k);
        from = λ q. omega arith;
      } in
      record {
        none = s.none;
        low = λ x h d. s.low x h (done x h d);
        key = λ x h d. s.key x h (done x h d);
        rep = λ x h d. s.rep x h (done x h d);
        same = λ x y h l d f. s.same x y h l (done x h d) (done y l f);
        held = λ x h q l. absurd (omega arith);
      }

  -- by record x, which has the key
  module _ (x : ℕ) (ex : x + 1 ≡ past) (xn : x < n) (kn : k < n) (xk : at keys x ≡ k) (whose' : List ℕ) (r : ℕ) (c : Classed keys reps n x whose whose' r) (room : x < length pair) where
    pair' : List ℕ
    pair' = set pair x r

    own : at pair' x ≡ r
    unfolding pair'
    own = get_or-set_same pair x r 0 room

    other : (z : ℕ) → (z ≡ x → ⊥) → at pair' z ≡ at pair z
    unfolding pair'
    other z q = get_or-set_other pair x z r 0 q

    older : (z : ℕ) → (z ≡ x → ⊥) → Done keys k x z → Done keys k past z
    older z q d = record { key = d.key; from = λ e. let l = d.from e in omega arith }

    -- a record of the key and of the value of x that is done has the class of x
    met : (y : ℕ) → y < n → at keys y ≡ k → past ≤ y → at reps y ≡ at reps x → at pair y ≡ r
    met y h q l e =
        let d : Done keys k past y = record { key = omega arith; from = λ p. l } in
        sym (c.found (at pair y) (s.low y h d) (ap (at whose) (sym e) ∙ s.held y h q l) (s.key y h d ∙ q ∙ sym xk) (s.rep y h d ∙ e))

    met_done : (y : ℕ) → y < n → (y ≡ x → ⊥) → Done keys k x y → at keys y ≡ at keys x → at reps y ≡ at reps x → at pair' y ≡ at pair' x
    met_done y h q d e f =
        let o = older y q d in
        let ek : at keys y ≡ k = e ∙ xk in
        other y q ∙ met y h ek (o.from ek) f ∙ sym own

    pub stand_more : Stand keys reps n k x whose' (set pair x r)
    unfolding pair'
    stand_more =
        record {
          none = λ z h l. let q : z ≡ x → ⊥ = λ e. omega (arith, ap (at keys) e) in other z q ∙ s.none z h l;
          low = λ z h d. ⊎_elim
              (λ (e : z ≡ x). rw (e, own) c.low)
              (λ q. rw (other z q) (s.low z h (older z q d)))
              (cases_eq z x);
          key = λ z h d. ⊎_elim
              (λ (e : z ≡ x). rw (e, own) c.key)
              (λ q. rw (other z q) (s.key z h (older z q d)))
              (cases_eq z x);
          rep = λ z h d. ⊎_elim
              (λ (e : z ≡ x). rw (e, own) c.rep)
              (λ q. rw (other z q) (s.rep z h (older z q d)))
              (cases_eq z x);
          same = λ z y h l d f a b. ⊎_elim
              (λ (e : z ≡ x). ⊎_elim
              (λ (g : y ≡ x). ap (at pair') (e ∙ sym g))
              (λ g. ap (at pair') e ∙ sym (met_done y l g f (sym a ∙ ap (at keys) e) (sym b ∙ ap (at reps) e)))
              (cases_eq y x))
              (λ q. ⊎_elim
              (λ (g : y ≡ x). met_done z h q d (a ∙ ap (at keys) g) (b ∙ ap (at reps) g) ∙ ap (at pair') (sym g))
              (λ g. other z q ∙ s.same z y h l (older z q d) (older y g f) a b ∙ sym (other y g))
              (cases_eq y x))
              (cases_eq z x);
          held = λ z h q l. ⊎_elim
              (λ (e : z ≡ x). ap (at whose') (ap (at reps) e) ∙ c.held ∙ sym own ∙ ap (at pair') (sym e))
              (λ g.
              let up : past ≤ z = omega arith in
              ⊎_elim
              (λ (e : at reps z ≡ at reps x). ap (at whose') e ∙ c.held ∙ sym (met z h q up e) ∙ sym (other z g))
              (λ e. c.others (at reps z) e ∙ s.held z h q up ∙ sym (other z g))
              (cases_eq (at reps z) (at reps x)))
              (cases_eq z x);
        }

-- none has a class yet
pub stand_none : (keys reps : List ℕ) (n : ℕ) (whose pair : List ℕ) → pair ≡ replicate (length pair) limit → n ≤ length pair → Stand keys reps n 0 n whose pair
stand_none keys reps n whose pair e room =
    let early : (x : ℕ) → x < n → Done keys 0 n x → ⊥ = λ x h d. let z : at keys x ≡ 0 = omega (arith, d.key) in omega (arith, d.from z) in
    record {
      none = λ x h l. ap (λ p. at p x) e ∙ get_or-replicate (length pair) x limit 0 (omega arith);
      low = λ x h d. absurd (early x h d);
      key = λ x h d. absurd (early x h d);
      rep = λ x h d. absurd (early x h d);
      same = λ x y h l d. absurd (early x h d);
      held = λ x h q l. absurd (omega arith);
    }

-- all have theirs
pub stand_all : (keys reps : List ℕ) (n k : ℕ) (whose pair : List ℕ) → Stand keys reps n k n whose pair → n ≤ k → n ≤ length pair → Pairs keys reps n pair
stand_all keys reps n k whose pair s l room =
    let done : (x : ℕ) → at keys x < n → Done keys k n x = λ x h. record { key = omega arith; from = λ q. absurd (omega arith) } in
    record {
      room = room;
      none = s.none;
      low = λ x h a. s.low x h (done x a);
      same = λ x y h g a e f. s.same x y h g (done x a) (done y (omega arith)) e f;
      one_key = λ x y h g a b e. sym (s.key x h (done x a)) ∙ ap (at keys) e ∙ s.key y g (done y b);
      one_rep = λ x y h g a b e. sym (s.rep x h (done x a)) ∙ ap (at reps) e ∙ s.rep y g (done y b);
    }

-- tests that agree have the same last number
past-alike : (f g : ℕ → Bool) → ((r : ℕ) → f r ≡ g r) → (t : ℕ) → past_last f t ≡ past_last g t
unfolding past_last
past-alike f g h zero = refl
past-alike f g h (suc t) = let e = past-alike f g h t in let q = h t in rw (q, e)

-- records chained by their keys, all being of one kind
linked : (kinds keys : List ℕ) (n : ℕ) (last lower : List ℕ) → ((r : ℕ) → at kinds r ≡ 0) → n ≤ limit → Chained limit kinds keys 0 n last lower → Linked keys n last lower
linked kinds keys n last lower z few c =
    let one : (k r : ℕ) → keyed kinds keys 0 k r ≡ has_key keys k r = λ k r. rw (z r) in
    record {
      in_last = omega (arith, c.last_room);
      in_lower = omega (arith, c.lower_room);
      ends = λ k h. c.ends k (omega arith) ∙ past-alike (keyed kinds keys 0 k) (has_key keys k) (one k) n;
      steps = λ x h l.
          let k = at keys x in
          c.steps k x (omega arith) h (one k x ∙ simp says refl) ∙ past-alike (keyed kinds keys 0 k) (has_key keys k) (one k) x;
    }

-- kinds that were never set
abbrev pub unset : ℕ → ℕ → List ℕ
unset l m = take {A = ℕ} m (replicate l 0)

zero_at : (l m r : ℕ) → at (unset l m) r ≡ 0
zero_at zero zero r = refl
zero_at zero (suc m) r = refl
zero_at (suc l) zero r = refl
zero_at (suc l) (suc m) zero = refl
zero_at (suc l) (suc m) (suc r) = zero_at l m r

pub linked_all : (l : ℕ) (keys : List ℕ) (n : ℕ) (last lower : List ℕ) → n ≤ limit → n ≤ l →
    Chained limit (unset l n) keys 0 (length (unset l n)) last lower → Linked keys n last lower
linked_all l keys n last lower few room c =
    let kinds = unset l n in
    let e : length kinds ≡ n = simp (length-take, length-replicate) (omega arith) in
    linked kinds keys n last lower (zero_at l n) few (rw e at c)

-- the walk along the chain of key k is at the record below `past`, or at its end
pub record OnChain (keys : List ℕ) (n k past : ℕ) : Type 0 where
  pub low : past ≤ n
  pub member : 0 < past → at keys (past - 1) ≡ k

pub on_chain : (keys : List ℕ) (n k t past : ℕ) → past ≡ past_last (has_key keys k) t → t ≤ n → OnChain keys n k past
on_chain keys n k t past e h =
    rw e (record { low = omega (arith, past-low (has_key keys k) t); member = λ l. simp says at (past-in (has_key keys k) t l) })

-- the next of the chain after record x
module _ {keys : List ℕ} {n : ℕ} {last lower : List ℕ} (c : Linked keys n last lower) (x k next : ℕ) (h : x < n) (kn : k < n) (e : at keys x ≡ k) (q : next ≡ at lower x) where
  pub chain_next : next ≡ past_last (has_key keys k) x
  chain_next = q ∙ c.steps x h (omega arith) ∙ ap (λ j. past_last (has_key keys j) x) e

  pub chain-less : next ≤ x
  chain-less = omega (arith, chain_next, past-low (has_key keys k) x)
