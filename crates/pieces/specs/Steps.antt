-- The steps from records along an order to their stretches. By row: top, the latest end met; who, the record that has it; second, the latest end of another.
use Rattle.std.specs.Prelude.{◌≡◌, List, ◌⊎◌, ℕ, ◌≤◌, ◌<◌, length}
use Rattle.passes.specs.Passes.{at}

-- record x, which ends at b, was taken into row k
pub record Ranked (k x b : ℕ) (top who second top' who' second' : List ℕ) : Type 0 where
  -- no top falls, and that of the row is no earlier than b
  pub risen : (c : ℕ) → at top c ≤ at top' c
  pub ended : b ≤ at top' k
  -- who has the top of a row is who had it, or x
  pub held : (c : ℕ) → ((at who' c ≡ at who c) × (at top' c ≡ at top c)) ⊎ ((c ≡ k) × (at who' c ≡ x) × (at top' c ≡ b))
  -- another one has ended by the second of its row, and so has x if it does not have the top
  pub others : (c y e : ℕ) → e ≤ at top c → ((y ≡ at who c → ⊥) → e ≤ at second c) → (y ≡ at who' c → ⊥) → e ≤ at second' c
  pub own : (x ≡ at who' k → ⊥) → b ≤ at second' k

-- place p lies on the stretch of record x, which stands below i: s, of the same row, is present there, and of those up to x no other
pub record Early (order key lo hi : List ℕ) (i x s p : ℕ) : Type 0 where
  pub place : ℕ
  pub below : place < i
  pub found : at order place ≡ x
  pub holder : ℕ
  pub by_then : holder ≤ place
  pub names : at order holder ≡ s
  pub of : at key s ≡ at key x
  pub from : at lo s ≤ p
  pub to : p < at hi s
  pub only : (v : ℕ) → v ≤ place → at key (at order v) ≡ at key x → p < at hi (at order v) → at order v ≡ s

-- the stretches of the records below position i of the order, as if none came after
pub record Drawn (order key lo hi : List ℕ) (n i : ℕ) (from to sole : List ℕ) : Type 0 where
  pub begun : (u : ℕ) → u < i → at lo (at order u) ≤ at from (at order u)
  -- only a record in a row has a stretch
  pub rows : (x p : ℕ) → x < n → p < at to x → at key x < n
  pub early : (x p : ℕ) → x < n → at from x ≤ p → p < at to x → Early order key lo hi i x (at sole x) p

-- no stretch was made longer, and each ends by the begin of any that comes after it in its row
pub record Cut (order key lo : List ℕ) (n : ℕ) (to to' : List ℕ) : Type 0 where
  pub sooner : (x : ℕ) → at to' x ≤ at to x
  pub ends : (u v : ℕ) → u < v → v < length order → at key (at order u) < n → at key (at order v) ≡ at key (at order u) → at to' (at order u) ≤ at lo (at order v)
