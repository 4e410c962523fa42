-- How the pass over crowds goes on: how many records of a key have begun and not ended, and how many were ever present together.
use mathlib.Core.Path.{◌≡◌, sym, ◌∙◌, ap}
use mathlib.Core.Bool.{Bool, true, false, ◌&&◌}
use mathlib.Core.Logic.{◌⊎◌, inl, inr, ⊎_elim}
use mathlib.Core.List.{List}
use Prim.Native.Nat.{ℕ, ◌+◌, ◌≤◌, ◌<◌}
use native.Mathlib.Omega.{arith}
use native.Mathlib.Nat.{eq-or-lt_of_le}
use lib.Dec.{eqb, leb, ltb}
use lib.ListN.{length, set}
use lib.Seq.{get_or-set_same, get_or-set_other}
use Rattle.meaning.specs.Walk.{count}
use Rattle.meaning.proofs.Basics.{went, never, clear, both, and_l, and_r, le_or_lt}
use Rattle.meaning.proofs.Says.{says}
use Rattle.crowds.specs.Crowds.{at, keyed_at, present, ByMany, Ordered}
use Rattle.crowds.specs.Tallies.{by, Cleared, Falls, Ended}
use Rattle.passes.proofs.Crowding.{count_most}
use Rattle.crowds.proofs.Counts.{count_none, count-mono, count-strict, count-one_more}

module _ (opens closes keys lo hi : List ℕ) (n most : ℕ) (o : Ordered opens lo keys n) (c : Ordered closes hi keys n) where
  -- record y is among the first i that open
  abbrev begun : ℕ → ℕ → Bool
  begun i y = ltb (o.place y) i

  -- it has key k, is present somewhere, and is not among the first j that close
  abbrev lasting : ℕ → ℕ → ℕ → Bool
  lasting k j y = eqb (at keys y) k && ltb (at lo y) (at hi y) && leb j (c.place y)

  -- and it has begun
  abbrev under-way : ℕ → ℕ → ℕ → ℕ → Bool
  under-way k i j y = lasting k j y && begun i y

  -- it has key k, is present at p, and has begun
  abbrev here : ℕ → ℕ → ℕ → ℕ → Bool
  here k p i y = keyed_at keys lo hi k p y && begun i y

  -- i have begun, j have ended
  pub record Counted (i j : ℕ) (tally : List ℕ) : Type 0 where
    -- the tally of a key is no less than how many of it are under way
    pub enough : (k : ℕ) → k < n → count (under-way k i j) 0 n ≤ at tally k
    -- and no more than have begun at all
    pub small : (k : ℕ) → k < n → at tally k ≤ count (begun i) 0 n
    -- those ended have ended by all that is to come
    pub ended : (v u : ℕ) → v < j → i ≤ u → u < length opens → by closes hi v ≤ by opens lo u
    -- of those begun no more than `most` of one key are present together
    pub quiet : (k p : ℕ) → k < n → count (here k p i) 0 n ≤ most

  -- one of the first i + 1 is one of the first i, or the last of them
  newest : (y i : ℕ) → y < n → at keys y < n → begun (i + 1) y ≡ true → (begun i y ≡ true) ⊎ (at opens i ≡ y)
  newest y i h l b =
      let b' = simp says at b in
      ⊎_elim
      (λ z. let e : i ≡ o.place y = omega arith in inr (ap (at opens) e ∙ (o.all y h l).1))
      (λ z. inl (simp says z))
      (le_or_lt i (o.place y))

  -- what has begun stays so
  later : (y i : ℕ) → begun i y ≡ true → begun (i + 1) y ≡ true
  later y i b = let b' = simp says at b in simp says (omega arith)

  -- before the first record, with clear tallies
  pub counted_none : (tally : List ℕ) → Cleared tally n → Counted 0 0 tally
  counted_none tally z =
      record {
        enough = λ k h. omega (arith, count_none (under-way k 0 0) 0 n (λ y a b. never (under-way k 0 0 y) (λ t. omega (arith, (simp says at t).1))));
        small = λ k h. omega (arith, z.zero_at k h);
        ended = λ v u h. absurd (omega arith);
        quiet = λ k p h. omega (arith, count_none (here k p 0) 0 n (λ y a b. never (here k p 0 y) (λ t. omega (arith, (simp says at t).1))));
      }

  -- every record of a key below n that is present at p has begun, where those to come begin later
  all-begun : (k p i : ℕ) → k < n → ((u : ℕ) → i ≤ u → u < length opens → p < by opens lo u) → present keys lo hi n k p ≤ count (here k p i) 0 n
  all-begun k p i h to-come =
      count-mono (keyed_at keys lo hi k p) (here k p i) 0 n
      (λ y a b t.
      let w = simp says at t in
      let key : at keys y ≡ k = w.0 in
      let stands = o.all y (omega arith) (omega arith) in
      let there : by opens lo (o.place y) ≡ at lo y = ap (at lo) stands.1 in
      let b' : begun i y ≡ true = simp says
      (⊎_elim
      (λ z. absurd (omega (arith, to-come (o.place y) z stands.0, w.1.0)))
      (λ z. z)
      (le_or_lt i (o.place y))) in
      rw (t, b'))

  module _ (i j : ℕ) (tally : List ℕ) (s : Counted i j tally) where
    -- all have begun, and there was no crowd
    pub counted-end : length opens ≤ i → (D : ℕ) → ByMany keys lo hi n most D
    unfolding ByMany
    counted-end e D k p h m = absurd (omega (arith, all-begun k p i h (λ u a b. absurd (omega arith)), s.quiet k p h))

    -- the next record is x
    module _ (im : i < length opens) (x : ℕ) (ex : x ≡ at opens i) where
      -- x is one of the n, and stands at position i: it has not begun, and is the next to
      x_fits : x < n
      x_fits = rw ex (o.covered i im)

      x_place : o.place x ≡ i
      x_place = ap o.place ex ∙ o.once i im

      x_new : begun i x ≡ false
      x_new = simp says (omega (arith, x_place))

      x_next : begun (i + 1) x ≡ true
      x_next = simp says (omega (arith, x_place))

      -- what is to come begins no earlier than x
      from-x : (u : ℕ) → i ≤ u → u < length opens → at lo x ≤ by opens lo u
      from-x u a b =
          let lo_x : at lo x ≡ by opens lo i = ap (at lo) ex in
          ⊎_elim
          (λ e. let q : by opens lo i ≡ by opens lo u = ap (by opens lo) e in omega arith)
          (λ l. omega (arith, o.rising i u l b))
          (eq-or-lt_of_le a)

      -- so the place of x is no later than any crowd
      pub counted-hit : ByMany keys lo hi n most (at lo x)
      unfolding ByMany
      counted-hit k p h m =
          ⊎_elim
          (λ l. l)
          (λ l. absurd (omega (arith, all-begun k p i h (λ u a b. omega (arith, from-x u a b)), s.quiet k p h)))
          (le_or_lt (at lo x) p)

      -- with x, one more passes a test for keys below n, or none if x does not
      module _ (f : ℕ → Bool) (keyed : (y : ℕ) → f y ≡ true → at keys y < n) where
        old : (y : ℕ) → y < n → f y && begun (i + 1) y ≡ true → (x ≡ y → ⊥) → f y && begun i y ≡ true
        old y h t other =
            let passes = and_l (f y) (begun (i + 1) y) t in
            ⊎_elim
            (λ z. both (f y) (begun i y) passes z)
            (λ z. absurd (other (ex ∙ z)))
            (newest y i h (keyed y passes) (and_r (f y) (begun (i + 1) y) t))

        with_x : count (λ y. f y && begun (i + 1) y) 0 n ≤ count (λ y. f y && begun i y) 0 n + 1
        with_x = count-one_more (λ y. f y && begun i y) (λ y. f y && begun (i + 1) y) x 0 n (λ y a b. old y (omega arith))

        without_x : f x ≡ false → count (λ y. f y && begun (i + 1) y) 0 n ≤ count (λ y. f y && begun i y) 0 n
        without_x e =
            count-mono (λ y. f y && begun (i + 1) y) (λ y. f y && begun i y) 0 n
            (λ y a b t. old y (omega arith) t (λ q. clear (and_l (f y) (begun (i + 1) y) t) (ap f (sym q) ∙ e)))

      -- two tests for keys below n
      lasting_key : (k j : ℕ) → k < n → (y : ℕ) → lasting k j y ≡ true → at keys y < n
      lasting_key k j h y t = let w = simp says at t in omega (arith, w.0.0)

      keyed-key : (k p : ℕ) → k < n → (y : ℕ) → keyed_at keys lo hi k p y ≡ true → at keys y < n
      keyed-key k p h y t = let w = simp says at t in omega (arith, w.0)

      -- one more has begun with x
      more_begun : count (begun i) 0 n + 1 ≤ count (begun (i + 1)) 0 n
      more_begun = count-strict (begun i) (begun (i + 1)) x 0 n (omega arith) (omega (arith, x_fits)) x_new x_next (λ y a b t. later y i t)

      -- a tally has room for one more
      pub counted-fits : (k : ℕ) → k < n → at tally k + 1 ≤ n
      counted-fits k h = omega (arith, s.small k h, more_begun, count_most (begun (i + 1)) 0 n)

      -- x is passed over: it has no key, or is never present
      pub counted_skip : (k : ℕ) → k ≡ at keys x → ltb (at lo x) (at hi x) && ltb k n ≡ false → Counted (i + 1) j tally
      counted_skip k ek e =
          let f = simp says at e in
          record {
            enough = λ c h.
                let out = never (lasting c j x) (λ t. let w = simp says at t in omega (arith, w.0.0, f w.0.1)) in
                omega (arith, without_x (lasting c j) (lasting_key c j h) out, s.enough c h);
            small = λ c h. omega (arith, s.small c h, more_begun);
            ended = λ v u h a b. s.ended v u h (omega arith) b;
            quiet = λ c p h.
                let out = never (keyed_at keys lo hi c p x) (λ t. let w = simp says at t in omega (arith, w.0, f (omega (arith, w.1)))) in
                omega (arith, without_x (keyed_at keys lo hi c p) (keyed-key c p h) out, s.quiet c p h);
          }

      -- x makes no crowd
      pub counted-more : (k : ℕ) → k ≡ at keys x → ltb (at lo x) (at hi x) && ltb k n ≡ true → n ≤ length tally → at tally k < most → Counted (i + 1) j (set tally k (at tally k + 1))
      counted-more k ek e wide few =
          let g = simp says at e in
          let room : k < length tally = omega (arith, g.1) in
          record {
            enough = λ d h. ⊎_elim
                (λ z.
                let q = simp says at z in
                rw (q, get_or-set_same tally k (at tally k + 1) 0 room)
                (omega (arith, with_x (lasting k j) (lasting_key k j g.1), s.enough k g.1)))
                (λ z.
                let q = simp says at z in
                let out = never (lasting d j x) (λ t. let w = simp says at t in q (sym (ek ∙ w.0.0))) in
                rw (get_or-set_other tally k d (at tally k + 1) 0 q)
                (omega (arith, without_x (lasting d j) (lasting_key d j h) out, s.enough d h)))
                (went (eqb d k));
            small = λ d h. ⊎_elim
                (λ z. let q = simp says at z in rw (q, get_or-set_same tally k (at tally k + 1) 0 room) (omega (arith, s.small k g.1, more_begun)))
                (λ z. let q = simp says at z in rw (get_or-set_other tally k d (at tally k + 1) 0 q) (omega (arith, s.small d h, more_begun)))
                (went (eqb d k));
            ended = λ v u h a b. s.ended v u h (omega arith) b;
            quiet = λ d p h. ⊎_elim
                (λ t.
                let w = simp says at t in
                let q : d ≡ k = sym (ek ∙ w.0) in
                let same : at tally d ≡ at tally k = ap (at tally) q in
                -- of those begun, the ones present with x are under way
                let held = count-mono (here d p i) (under-way d i j) 0 n
                (λ y a b r.
                let v = simp says at r in
                let key : at keys y ≡ d = v.0.0 in
                let stands = c.all y (omega arith) (omega arith) in
                let hi_y : by closes hi (c.place y) ≡ at hi y = ap (at hi) stands.1 in
                let lo_x : at lo x ≡ by opens lo i = ap (at lo) ex in
                let left : j ≤ c.place y = ⊎_elim
                (λ l. l)
                (λ l. absurd (omega (arith, s.ended (c.place y) i l (omega arith) im, v.0.1, w.1)))
                (le_or_lt j (c.place y)) in
                simp says (((v.0.0, omega (arith, v.0.1)), left), v.1)) in
                omega (arith, with_x (keyed_at keys lo hi d p) (keyed-key d p h), s.enough d h))
                (λ t. omega (arith, without_x (keyed_at keys lo hi d p) (keyed-key d p h) t, s.quiet d p h))
                (went (keyed_at keys lo hi d p x));
          }

      -- those under way fall by one past an end that lies by x
      falls : Falls closes keys lo hi n (at lo x) (λ v k. count (under-way k i v) 0 n)
      falls =
          let fewer : (v k y : ℕ) → under-way k i (v + 1) y ≡ true → under-way k i v y ≡ true
          = λ v k y t. let w = simp says at t in simp says ((w.0.0, omega (arith, w.0.1)), w.1) in
          record {
            same = λ v k h l. count-mono (under-way k i (v + 1)) (under-way k i v) 0 n (λ y a b. fewer v k y);
            less = λ v k h l early some key.
                let y = at closes v in
                let stands = o.all y (c.covered v h) (omega arith) in
                let there : by opens lo (o.place y) ≡ at lo y = ap (at lo) stands.1 in
                let last = c.once v h in
                let before : o.place y < i
                = ⊎_elim
                (λ z. absurd (omega (arith, from-x (o.place y) z stands.0)))
                (λ z. z)
                (le_or_lt i (o.place y)) in
                count-strict (under-way k i (v + 1)) (under-way k i v) y 0 n (omega arith) (omega (arith, c.covered v h))
                (never (under-way k i (v + 1) y) (λ t. let w = simp says at t in omega (arith, w.0.1)))
                (simp says (((key, some), omega arith), before))
                (λ u a b. fewer v k u);
          }

      -- a stretch of ends up to x
      pub counted-ends : (r : ℕ) (tally' : List ℕ) → Ended closes keys lo hi n (at lo x) j r tally tally' → Counted i r tally'
      counted-ends r tally' e =
          record {
            enough = e.enough (λ v k. count (under-way k i v) 0 n) falls s.enough;
            small = λ k h. omega (arith, e.no_more k, s.small k h);
            ended = λ v u h a b. ⊎_elim
                (λ l. omega (arith, e.by_then v l h, from-x u a b))
                (λ l. s.ended v u l a b)
                (le_or_lt j v);
            quiet = s.quiet;
          }
