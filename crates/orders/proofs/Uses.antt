-- What a walk along an order makes of it. A member is done at i if it stands before i.
use Rattle.std.proofs.Common.{◌≡◌, ℕ, ◌+◌, ◌<◌, ◌≤◌, Bool, true, ◌⊎◌, List, get_or, sym, ap, ◌∙◌, inl, inr, ⊎_elim, arith}
use Rattle.meaning.proofs.Basics.{le_or_lt}
use Rattle.orders.specs.Order.{InOrder}

module _ (member : ℕ → Bool) (column order : List ℕ) (m : ℕ) (r : InOrder member column order m) where
  -- each of the first m is a member
  pub member-at : (i : ℕ) → i < m → member (get_or order i 0) ≡ true
  member-at i h = (r.once i h).0

  -- every member stands in it
  pub stands : (x : ℕ) → member x ≡ true → ((i : ℕ) × (i < m) × (get_or order i 0 ≡ x))
  stands x h = (r.place x, (r.all x h).0, (r.all x h).1)

  -- no number stands twice
  pub apart : (i j : ℕ) → i < m → j < m → get_or order i 0 ≡ get_or order j 0 → i ≡ j
  apart i j a b e = sym (r.once i a).1 ∙ ap r.place e ∙ (r.once j b).1

  -- a step adds the one who stands there alone
  pub step : (i x : ℕ) → member x ≡ true → r.place x < i + 1 → (r.place x < i) ⊎ (x ≡ get_or order i 0)
  step i x h l = ⊎_elim
      (λ a. let e : r.place x ≡ i = omega arith in inr (sym (r.all x h).1 ∙ ap (λ k. get_or order k 0) e))
      inl
      (le_or_lt i (r.place x))

  -- a column that rises with this one on the members
  module _ (other : ℕ → ℕ) (f : (x y : ℕ) → member x ≡ true → member y ≡ true → get_or column x 0 ≤ get_or column y 0 → other x ≤ other y) where
    -- the list rises by it too
    pub rising-by : (i j : ℕ) → i ≤ j → j < m → other (get_or order i 0) ≤ other (get_or order j 0)
    rising-by i j h l = ⊎_elim
        (λ a. let e : i ≡ j = omega arith in rw e (omega arith))
        (λ a. f _ _ (member-at i (omega arith)) (member-at j l) (r.rising i j a l))
        (le_or_lt j i)

    -- a member that is not done is not below the next one
    pub later-by : (i x : ℕ) → member x ≡ true → i ≤ r.place x → other (get_or order i 0) ≤ other x
    later-by i x h l = let a = r.all x h in rw a.1 at (rising-by i (r.place x) l a.0)

    -- nor is one that is done above it
    pub earlier_by : (i x : ℕ) → i < m → member x ≡ true → r.place x < i → other x ≤ other (get_or order i 0)
    earlier_by i x b h l = rw (r.all x h).1 at (rising-by (r.place x) i (omega arith) b)
