-- What a lent column holds after it was filled from the front, and what filling asks for.
use Rattle.std.specs.Prelude.{◌≡◌, List, ◌++◌, ℕ, ◌+◌, ◌*◌, ◌≤◌, drop}
use Rattle.meaning.specs.Walk.{listed}
use Rattle.meaning.specs.Block.{blocks}

-- n entries by f, and the rest as it was
unfoldable pub filled : {A : Type 0} → (ℕ → A) → ℕ → List A → List A
filled f n old = listed f 0 n ++ drop n old

-- m entries more by f, from the i-th on, where those before are by f, whatever the column held
abbrev pub Grows : {A : Type 0} → (ℕ → A) → ℕ → ℕ → List A → List A → Type 0
Grows {A} f i m before after = (old : List A) → before ≡ filled f i old → after ≡ filled f (i + m) old

-- n records lie in the image, a field of this width lies in a record, and the column has room
pub record Fillable (image : List ℕ) (n offset width room : ℕ) : Type 0 where
  pub inside : n ≤ 25 * blocks image
  pub in_record : offset + width ≤ 20
  pub fits : n ≤ room

-- n records lie in the image, and each of the eight columns has room for them
pub record Roomy (image : List ℕ) (n a b c d e f g h : ℕ) : Type 0 where
  pub inside : n ≤ 25 * blocks image
  pub kind : n ≤ a
  pub vkind : n ≤ b
  pub name : n ≤ c
  pub parent : n ≤ d
  pub begin : n ≤ e
  pub end : n ≤ f
  pub value : n ≤ g
  pub item : n ≤ h
