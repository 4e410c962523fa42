-- How the pass over levels goes on: those under way are as many as the tallies say, and present at every place up to the next begin or end.
use mathlib.Core.Path.{◌≡◌, sym, ◌∙◌, ap}
use mathlib.Core.Bool.{Bool, true, ◌&&◌}
use mathlib.Core.Logic.{◌⊎◌, inl, inr, ⊎_elim}
use mathlib.Core.List.{List}
use Prim.Native.Nat.{ℕ, ◌+◌, ◌≤◌, ◌<◌}
use native.Mathlib.Omega.{arith}
use native.Mathlib.Nat.{eq-or-lt_of_le}
use lib.Dec.{eqb, leb, ltb}
use lib.ListN.{length}
use Rattle.meaning.specs.Walk.{count}
use Rattle.meaning.proofs.Basics.{went, never, le_or_lt}
use Rattle.meaning.proofs.Says.{says}
use Rattle.crowds.specs.Crowds.{at, keyed_at, present, Ordered}
use Rattle.crowds.specs.Tallies.{by, Cleared}
use Rattle.crowds.specs.Levels.{Levels, Takes, Joins, Joined, Leaves, Left}
use Rattle.passes.proofs.Crowding.{count_most}
use Rattle.crowds.proofs.Counts.{count-mono, count-strict, count-one_more}

-- what stands from position i of an order on lies no earlier than what stands at i
pub from-there : {order column keys : List ℕ} {n : ℕ} → Ordered order column keys n → (i u : ℕ) → i ≤ u → u < length order → by order column i ≤ by order column u
from-there {order} {column} o i u a b =
    ⊎_elim
    (λ e. let q : by order column i ≡ by order column u = ap (by order column) e in omega arith)
    (λ l. o.rising i u l b)
    (eq-or-lt_of_le a)

module _ (opens closes keys lo hi : List ℕ) (n least : ℕ) (o : Ordered opens lo keys n) (c : Ordered closes hi keys n) where
  -- record y has key k, is present somewhere, is among the first i that open, and not among the first j that close
  abbrev under-way : ℕ → ℕ → ℕ → ℕ → Bool
  under-way k i j y = eqb (at keys y) k && ltb (at lo y) (at hi y) && ltb (o.place y) i && leb j (c.place y)

  -- place p parts the begins and ends that were met, i and j of them, from those to come
  pub record Parts (i j p : ℕ) : Type 0 where
    pub opened : (u : ℕ) → u < i → u < length opens → by opens lo u ≤ p
    pub closed : (v : ℕ) → v < j → v < length closes → by closes hi v ≤ p
    pub to_open : (u : ℕ) → i ≤ u → u < length opens → p ≤ by opens lo u
    pub to_close : (v : ℕ) → j ≤ v → v < length closes → p ≤ by closes hi v

  -- x opened key k, of which enough have been present at each place since, up to p
  pub record Opener (k p x : ℕ) : Type 0 where
    pub fits : x < n
    pub key : at keys x ≡ k
    pub since : (q : ℕ) → at lo x ≤ q → q < p → least ≤ present keys lo hi n k q

  -- i have begun, j have ended, up to place p
  pub record Level (i j p : ℕ) (tally opener until : List ℕ) : Type 0 where
    pub parts : Parts i j p
    pub most : (k : ℕ) → k < n → at tally k ≤ count (under-way k i j) 0 n
    pub opener_is : (k : ℕ) → k < n → least ≤ at tally k → Opener k p (at opener k)
    pub levels : Levels keys lo hi n least until

  -- before the first record, with clear tallies, and nobody told anything
  pub level-none : 1 ≤ least → (tally opener until : List ℕ) → Cleared tally n → Cleared until n → Level 0 0 0 tally opener until
  level-none some tally opener until z w =
      record {
        parts = record { opened = λ u a b. absurd (omega arith); closed = λ v a b. absurd (omega arith); to_open = λ u a b. omega arith; to_close = λ v a b. omega arith };
        most = λ k h. omega (arith, z.zero_at k h);
        opener_is = λ k h l. absurd (omega (arith, z.zero_at k h));
        levels = record { held = λ x p h a b. absurd (omega (arith, w.zero_at x h)) };
      }

  module _ (i j p : ℕ) (tally opener until : List ℕ) (s : Level i j p tally opener until) where
    -- those under way are present from p up to the next end
    quiet : (k q : ℕ) → k < n → p ≤ q → ((v : ℕ) → j ≤ v → v < length closes → q < by closes hi v) → count (under-way k i j) 0 n ≤ present keys lo hi n k q
    quiet k q h a to-come =
        count-mono (under-way k i j) (keyed_at keys lo hi k q) 0 n
        (λ y _ b t.
        let w = simp says at t in
        let key : at keys y ≡ k = w.0.0.0 in
        let begins = o.all y (omega arith) (omega arith) in
        let ends = c.all y (omega arith) (omega arith) in
        let lo-y : by opens lo (o.place y) ≡ at lo y = ap (at lo) begins.1 in
        let hi_y : by closes hi (c.place y) ≡ at hi y = ap (at hi) ends.1 in
        let from : at lo y ≤ q = omega (arith, s.parts.opened (o.place y) w.0.1 begins.0) in
        let to : q < at hi y = omega (arith, to-come (c.place y) w.1 ends.0) in
        simp says (key, (from, to)))

    -- so a key that is open stays so up to the next begin or end, at q
    module _ (q : ℕ) (later : p ≤ q) (before-end : (v : ℕ) → j ≤ v → v < length closes → q ≤ by closes hi v) where
      opener_on : (k : ℕ) → k < n → least ≤ at tally k → Opener k q (at opener k)
      opener_on k h l =
          let old = s.opener_is k h l in
          record {
            fits = old.fits;
            key = old.key;
            since = λ r a b. ⊎_elim
                (λ z. omega (arith, s.most k h, quiet k r h z (λ v e f. omega (arith, before-end v e f))))
                (λ z. old.since r a z)
                (le_or_lt p r);
          }

    -- the next begin is that of x, before the next end
    module _ (im : i < length opens) (jm : j < length closes) (x : ℕ) (ex : x ≡ at opens i) (soon : by opens lo i < by closes hi j) where
      lo_x : by opens lo i ≡ at lo x
      lo_x = ap (at lo) (sym ex)

      x_fits : x < n
      x_fits = rw ex (o.covered i im)

      x_place : o.place x ≡ i
      x_place = ap o.place ex ∙ o.once i im

      join_later : p ≤ at lo x
      join_later = omega (arith, lo_x, s.parts.to_open i (omega arith) im)

      join_before : (v : ℕ) → j ≤ v → v < length closes → at lo x ≤ by closes hi v
      join_before v a b = omega (arith, lo_x, from-there c j v a b)

      join_parts : Parts (i + 1) j (at lo x)
      join_parts =
          record {
            opened = λ u a b. ⊎_elim
                (λ e. let same : by opens lo u ≡ by opens lo i = ap (by opens lo) e in omega (arith, lo_x))
                (λ l. omega (arith, s.parts.opened u l b, join_later))
                (eq_or_less u i a);
            closed = λ v a b. omega (arith, s.parts.closed v a b, join_later);
            to_open = λ u a b. omega (arith, lo_x, from-there o i u (omega arith) b);
            to_close = join_before;
          }
        where
          eq_or_less : (u i : ℕ) → u < i + 1 → (u ≡ i) ⊎ (u < i)
          eq_or_less u i h = ⊎_elim (λ l. inl (omega arith)) (λ l. inr l) (le_or_lt i u)

      -- those under way still are
      still : (k y : ℕ) → under-way k i j y ≡ true → under-way k (i + 1) j y ≡ true
      still k y t = let w = simp says at t in simp says (((w.0.0.0, w.0.0.1), omega (arith, w.0.1)), w.1)

      -- and x is too, if it takes part
      one_more : (k : ℕ) → k < n → Takes keys lo hi x k → count (under-way k i j) 0 n + 1 ≤ count (under-way k (i + 1) j) 0 n
      one_more k h takes =
          let ends = c.all x x_fits (omega (arith, takes.key)) in
          let hi-x : by closes hi (c.place x) ≡ at hi x = ap (at hi) ends.1 in
          let left : j ≤ c.place x = ⊎_elim
          (λ l. l)
          (λ l. absurd (omega (arith, s.parts.closed (c.place x) l ends.0, join_later, takes.some)))
          (le_or_lt j (c.place x)) in
          let next : o.place x < i + 1 = omega (arith, x_place) in
          count-strict (under-way k i j) (under-way k (i + 1) j) x 0 n (omega arith) (omega (arith, x_fits))
          (never (under-way k i j x) (λ t. let w = simp says at t in omega (arith, w.0.1, x_place)))
          (simp says (((takes.key, takes.some), next), left))
          (λ y a b. still k y)

      -- its tally can rise
      pub level-joins : Joins keys lo hi n x tally
      level-joins =
          record {
            fits = x_fits;
            rises = λ k h t. omega (arith, s.most k h, one_more k h t, count_most (under-way k (i + 1) j) 0 n);
          }

      -- x joined
      pub level-joined : (tally' opener' : List ℕ) → Joined keys lo hi least x tally opener tally' opener' → Level (i + 1) j (at lo x) tally' opener' until
      level-joined tally' opener' e =
          record {
            parts = join_parts;
            most = λ k h. ⊎_elim
                (λ z. omega (arith, s.most k h, count-mono (under-way k i j) (under-way k (i + 1) j) 0 n (λ y a b. still k y)))
                (λ z. omega (arith, s.most k h, one_more k h z.0))
                (e.risen k);
            opener_is = λ k h l. ⊎_elim
                (λ z. rw z.1 (opener_on (at lo x) join_later join_before k h z.0))
                (λ z. rw z.1 (record { fits = x_fits; key = z.0; since = λ q a b. absurd (omega arith) }))
                (e.opened k l);
            levels = s.levels;
          }

    -- the next end is that of y, and no begin comes before it
    module _ (jm : j < length closes) (y : ℕ) (ey : y ≡ at closes j) (soon : i < length opens → by closes hi j ≤ by opens lo i) where
      hi_y : by closes hi j ≡ at hi y
      hi_y = ap (at hi) (sym ey)

      y_fits : y < n
      y_fits = rw ey (c.covered j jm)

      leave_later : p ≤ at hi y
      leave_later = omega (arith, hi_y, s.parts.to_close j (omega arith) jm)

      leave_before : (v : ℕ) → j ≤ v → v < length closes → at hi y ≤ by closes hi v
      leave_before v a b = omega (arith, hi_y, from-there c j v a b)

      leave_parts : Parts i (j + 1) (at hi y)
      leave_parts =
          record {
            opened = λ u a b. omega (arith, s.parts.opened u a b, leave_later);
            closed = λ v a b. omega (arith, hi_y, from-there c v j (omega arith) jm);
            to_open = λ u a b. omega (arith, hi_y, from-there o i u a b, soon (omega arith));
            to_close = λ v a b. leave_before v (omega arith) b;
          }

      -- whoever was under way still is, but for y
      others : (k z : ℕ) → k < n → z < n → under-way k i j z ≡ true → (y ≡ z → ⊥) → under-way k i (j + 1) z ≡ true
      others k z h l t other =
          let w = simp says at t in
          let ends = c.all z l (omega (arith, w.0.0.0)) in
          let past : j + 1 ≤ c.place z = ⊎_elim
          (λ e. absurd (other (ey ∙ ap (at closes) e ∙ ends.1)))
          (λ g. omega arith)
          (eq-or-lt_of_le w.1) in
          simp says (w.0, past)

      -- so one fewer at most is
      one_fewer : (k : ℕ) → k < n → count (under-way k i j) 0 n ≤ count (under-way k i (j + 1)) 0 n + 1
      one_fewer k h = count-one_more (under-way k i (j + 1)) (under-way k i j) y 0 n (λ z a b t. others k z h (omega arith) t)

      -- and none, if y does not take part
      no_fewer : (k : ℕ) → k < n → (Takes keys lo hi y k → ⊥) → count (under-way k i j) 0 n ≤ count (under-way k i (j + 1)) 0 n
      no_fewer k h out =
          count-mono (under-way k i j) (under-way k i (j + 1)) 0 n
          (λ z a b t. others k z h (omega arith) t
          (λ e.
          let w = simp says at t in
          let key : at keys y ≡ at keys z = ap (at keys) e in
          let from : at lo y ≡ at lo z = ap (at lo) e in
          let to : at hi y ≡ at hi z = ap (at hi) e in
          out (record { key = key ∙ w.0.0.0; some = omega (arith, w.0.0.1) })))

      -- the opener of its key is one of the n
      pub level-leaves : Leaves keys n least y tally opener
      level-leaves = record { fits = y_fits; opened = λ k h e l. (s.opener_is k h l).fits }

      -- y left
      pub level-left : (tally' until' : List ℕ) → Left keys lo hi n least y tally opener until tally' until' → Level i (j + 1) (at hi y) tally' opener until'
      level-left tally' until' e =
          record {
            parts = leave_parts;
            most = λ k h. takes_or_not k h;
            opener_is = λ k h l. opener_on (at hi y) leave_later leave_before k h (omega (arith, e.no_more k));
            levels = record {
              held = λ x q h a b. ⊎_elim
                  (λ z. s.levels.held x q h a (omega arith))
                  (λ z.
                  let k = z.0 in
                  let found = opener_on (at hi y) leave_later leave_before k z.1 z.2 in
                  let same : at opener k ≡ x = z.3 in
                  let key : at keys x ≡ k = ap (at keys) (sym same) ∙ found.key in
                  let from : at lo x ≡ at lo (at opener k) = ap (at lo) (sym same) in
                  rw key (found.since q (omega arith) (omega (arith, z.4))))
                  (e.told x);
            };
          }
        where
          takes_or_not : (k : ℕ) → k < n → at tally' k ≤ count (under-way k i (j + 1)) 0 n
          takes_or_not k h =
              ⊎_elim
              (λ t.
              let w = simp says at t in
              omega (arith, e.taken k h (record { key = w.0; some = w.1 }), s.most k h, one_fewer k h))
              (λ t.
              let out : Takes keys lo hi y k → ⊥ = λ g. let w = simp says at t in omega (arith, w g.key, g.some) in
              omega (arith, e.no_more k, s.most k h, no_fewer k h out))
              (went (eqb (at keys y) k && ltb (at lo y) (at hi y)))

    -- whichever way it ended
    pub level-end : Levels keys lo hi n least until
    level-end = s.levels
