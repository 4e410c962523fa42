-- How the places are given along the order: one record, and all of them.
use mathlib.Core.Path.{◌≡◌, refl, sym, ◌∙◌, ap}
use mathlib.Core.Bool.{Bool, false, ◌&&◌, ◌||◌}
use mathlib.Core.Logic.{⊎_elim}
use mathlib.Core.List.{List}
use Prim.Native.Nat.{ℕ, zero, suc, ◌+◌, ◌≤◌, ◌<◌, max}
use native.Mathlib.Omega.{arith}
use lib.Dec.{eqb, ltb}
use lib.ListN.{length, set, replicate, get_or-replicate}
use lib.Seq.{get_or-set_same, get_or-set_other}
use Rattle.std.proofs.lemmas.Bool.{cases_eq}
use Rattle.meaning.specs.Walk.{any}
use Rattle.meaning.proofs.Basics.{went, clear, le_or_lt}
use Rattle.meaning.proofs.Says.{says}
use Rattle.meaning.proofs.Walks.{any-true, any_false}
use Rattle.crowds.specs.Crowds.{at, Ordered}
use Rattle.crowds.specs.Tallies.{by}
use Rattle.distinct.specs.Shifts.{Holder, CountsOnce, Unmoved, Placed}

-- record x gets its place
module _ (c a b n x : ℕ) (top first : List ℕ) (room : x < length first) where
  -- its own, since it has no class
  pub placed-alone : (k : ℕ) → k ≡ c → n ≤ k → Placed c a b n x top first top (set first x a) false
  placed-alone k ek h =
      let new = get_or-set_same first x a 0 room in
      record {
        others = λ y q. get_or-set_other first x y a 0 q;
        begins = omega (arith, new);
        after = λ l. absurd (omega arith);
        least = λ p l f. omega (arith, new);
        stays = λ e. new;
        no_lower = λ d. omega arith;
        risen = λ l. absurd (omega arith);
        no_higher = λ d p l f. l;
      }

  -- the later one of its own and of the top of its class, which rises to its end
  pub placed-after : (k t f : ℕ) → k ≡ c → k < n → k < length top → t ≡ max (at top k) b → f ≡ max a (at top k) →
      Placed c a b n x top first (set top k t) (set first x f) (ltb a (at top k))
  placed-after k t f ek kn kt lt lf =
      let new = get_or-set_same first x f 0 room in
      let newt = get_or-set_same top k t 0 kt in
      let ec : at top c ≡ at top k = ap (at top) (sym ek) in
      let et : at (set top k t) c ≡ t = ap (at (set top k t)) (sym ek) ∙ newt in
      record {
        others = λ y q. get_or-set_other first x y f 0 q;
        begins = omega (arith, new);
        after = λ l. omega (arith, new);
        least = λ p l g. omega (arith, new, g (omega arith));
        stays = λ e. let h = simp says at e in omega (arith, new, h);
        no_lower = λ d. ⊎_elim
            (λ (e : d ≡ k). rw (e, newt) (omega arith))
            (λ q. rw (get_or-set_other top k d t 0 q) (omega arith))
            (cases_eq d k);
        risen = λ l. omega arith;
        no_higher = λ d p l g. ⊎_elim
            (λ (e : d ≡ k). let l' : at top k ≤ p = rw e at l in rw (e, newt) (omega (arith, g (e ∙ ek))))
            (λ q. rw (get_or-set_other top k d t 0 q) l)
            (cases_eq d k);
      }

module _ (order pairs lo hi : List ℕ) (n : ℕ) where
  -- the first i records of the order have their places, and the top of a class is the latest end of those of it
  pub record Run (i : ℕ) (top first : List ℕ) : Type 0 where
    pub begun : (j : ℕ) → j < i → by order lo j ≤ at first (at order j)
    pub after : (l j : ℕ) → l < j → j < i → by order pairs l ≡ by order pairs j → by order pairs j < n → by order hi l ≤ at first (at order j)
    pub least : (j p : ℕ) → j < i → by order lo j ≤ p → ((l : ℕ) → l < j → by order pairs l ≡ by order pairs j → by order hi l ≤ p) → at first (at order j) ≤ p
    pub tops : (j c : ℕ) → j < i → by order pairs j ≡ c → c < n → by order hi j ≤ at top c
    pub no_higher : (c p : ℕ) → c < n → ((j : ℕ) → j < i → by order pairs j ≡ c → by order hi j ≤ p) → at top c ≤ p

  -- they count from their own first places on
  pub record Still (i : ℕ) (first : List ℕ) : Type 0 where
    pub same : (j : ℕ) → j < i → at first (at order j) ≡ by order lo j

  pub run_none : (top first : List ℕ) → top ≡ replicate (length top) 0 → n ≤ length top → Run 0 top first
  run_none top first e room =
      record {
        begun = λ j h. absurd (omega arith);
        after = λ l j g h. absurd (omega arith);
        least = λ j p h. absurd (omega arith);
        tops = λ j c h. absurd (omega arith);
        no_higher = λ c p h f. let z : at top c ≡ 0 = ap (λ t. at t c) e ∙ get_or-replicate (length top) c 0 0 (omega arith) in omega arith;
      }

  pub still_none : (first : List ℕ) → Still 0 first
  still_none first = record { same = λ j h. absurd (omega arith) }

  module _ (o : Ordered order lo pairs n) where
    -- record x, the next of the order
    module _ (i : ℕ) (top first : List ℕ) (s : Run i top first) (im : i < length order) (x : ℕ) (ex : x ≡ at order i)
        (top' first' : List ℕ) (moved : Bool) (d : Placed (at pairs x) (at lo x) (at hi x) n x top first top' first' moved) where
      -- the places given before stay
      kept : (j : ℕ) → j < i → at first' (at order j) ≡ at first (at order j)
      kept j h = d.others (at order j) (λ e. omega (arith, o.once j (omega arith), o.once i im, ap o.place (e ∙ ex)))

      -- at position i stands x
      at_i : (column : List ℕ) (j : ℕ) → j ≡ i → by order column j ≡ at column x
      at_i column j e = ap (by order column) e ∙ ap (at column) (sym ex)

      first-i : (j : ℕ) → j ≡ i → at first' (at order j) ≡ at first' x
      first-i j e = ap (λ u. at first' (at order u)) e ∙ ap (at first') (sym ex)

      pub run_more : Run (i + 1) top' first'
      run_more =
          record {
            begun = λ j h. ⊎_elim
                (λ (e : j ≡ i). omega (arith, at_i lo j e, first-i j e, d.begins))
                (λ q. rw (kept j (omega arith)) (s.begun j (omega arith)))
                (cases_eq j i);
            after = λ l j g h e c. ⊎_elim
                (λ (q : j ≡ i).
                let ec : at pairs x < n = omega (arith, at_i pairs j q) in
                omega (arith, first-i j q, d.after ec, s.tops l (at pairs x) (omega arith) (e ∙ at_i pairs j q) ec))
                (λ q. rw (kept j (omega arith)) (s.after l j g (omega arith) e c))
                (cases_eq j i);
            least = λ j p h a f. ⊎_elim
                (λ (q : j ≡ i).
                omega (
                  arith,
                  first-i j q,
                  d.least p (omega (arith, at_i lo j q))
                      (λ c. s.no_higher (at pairs x) p c (λ l g e. f l (omega arith) (e ∙ sym (at_i pairs j q)))),
                ))
                (λ q. rw (kept j (omega arith)) (s.least j p (omega arith) a f))
                (cases_eq j i);
            tops = λ j c h e l. ⊎_elim
                (λ (q : j ≡ i).
                let ec : at pairs x ≡ c = sym (at_i pairs j q) ∙ e in
                omega (arith, at_i hi j q, d.risen (omega arith), ap (at top') ec))
                (λ q. omega (arith, s.tops j c (omega arith) e l, d.no_lower c))
                (cases_eq j i);
            no_higher = λ c p h f.
                d.no_higher c p (s.no_higher c p h (λ j l. f j (omega arith)))
                (λ e. omega (arith, at_i hi i refl, f i (omega arith) (at_i pairs i refl ∙ sym e)));
          }

      pub still_more : (r : Bool) → (r ≡ false → Still i first) → (r || moved) ≡ false → Still (i + 1) first'
      still_more r f e =
          let w = simp says at e in
          record {
            same = λ j h. ⊎_elim
                (λ (q : j ≡ i). first-i j q ∙ d.stays w.1 ∙ sym (at_i lo j q))
                (λ q. kept j (omega arith) ∙ (f w.0).same j (omega arith))
                (cases_eq j i);
          }

    -- at the end
    module _ (i : ℕ) (top first : List ℕ) (s : Run i top first) (end : length order ≤ i) where
      -- the first of a class that has not ended by p counts at p
      holder : (t j c p : ℕ) → j < t → j < length order → c < n → by order pairs j ≡ c → by order lo j ≤ p → p < by order hi j → Holder pairs first hi n c p
      holder zero j c p h m cn e a b = absurd (omega arith)
      holder (suc t) j c p h m cn e a b =
          let f : ℕ → Bool = λ l. eqb (by order pairs l) c && ltb p (by order hi l) in
          ⊎_elim
          (λ y.
          let k = any-true f 0 j y in
          let l = k.0 in
          let w = simp says at k.1.passes in
          let less : l < j = omega (arith, k.1.below) in
          holder t l c p (omega arith) (omega arith) cn w.0 (omega (arith, o.rising l j less m)) w.1)
          (λ z.
          let none = any_false f 0 j z in
          record {
            who = at order j;
            here = o.covered j m;
            class = e;
            from = s.least j p (omega arith) a
                (λ l g q. ⊎_elim (λ r. r) (λ r. absurd (clear (simp says (q ∙ e, r)) (none l (omega arith) (omega arith)))) (le_or_lt (by order hi l) p));
            to = b;
          })
          (went (any f 0 j))

      pub run-all : n ≤ length first → CountsOnce pairs lo hi n first
      run-all room =
          record {
            room = room;
            no_sooner = λ x h c. let w = o.all x h c in omega (arith, ap (at lo) w.1, ap (at first) w.1, s.begun (o.place x) (omega arith));
            some = λ x p h c a b.
                let w = o.all x h c in
                holder (suc (o.place x)) (o.place x) (at pairs x) p (omega arith) w.0 c (ap (at pairs) w.1) (omega (arith, ap (at lo) w.1)) (omega (arith, ap (at hi) w.1));
            once = λ x y p h g c e a b a' b'.
                let v = o.all x h c in
                let c' : at pairs y < n = omega arith in
                let w = o.all y g c' in
                let j = o.place x in
                let l = o.place y in
                let ej : by order pairs j ≡ at pairs x = ap (at pairs) v.1 in
                let el : by order pairs l ≡ at pairs y = ap (at pairs) w.1 in
                ⊎_elim
                (λ (q : j ≡ l). sym v.1 ∙ ap (at order) q ∙ w.1)
                (λ q. ⊎_elim
                (λ u. absurd (omega (arith, ap (at hi) w.1, ap (at first) v.1, s.after l j (omega arith) (omega arith) (el ∙ sym e ∙ sym ej) (omega arith))))
                (λ u. absurd (omega (arith, ap (at hi) v.1, ap (at first) w.1, s.after j l u (omega arith) (ej ∙ e ∙ sym el) (omega arith))))
                (le_or_lt l j))
                (cases_eq j l);
          }

      pub still_all : Still i first → Unmoved order lo first
      still_all f = record { same = λ j h. f.same j (omega arith) }
