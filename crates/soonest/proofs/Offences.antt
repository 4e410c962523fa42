-- What an offence comes to, presence being p: the premises of the passes that look for it.
use mathlib.Core.Path.{◌≡◌}
use mathlib.Core.Logic.{◌⊎◌, ⊎_elim}
use mathlib.Core.Bool.{Bool, true, false, ◌&&◌, ◌||◌}
use Prim.Native.Nat.{ℕ, ◌+◌, ◌<◌}
use native.Mathlib.Omega.{arith}
use borrow.Author.Tests.{eq-eqb}
use Rattle.meaning.specs.declared.Rule.{Rule}
use Rattle.meaning.specs.Document.{Doc}
use Rattle.meaning.specs.Rules.{is_key, is_reference}
use Rattle.meaning.specs.Select.{selected, is_nil, same_value, present, gives, has_nil}
use Rattle.meaning.proofs.Basics.{both, or_l, or_r}
use Rattle.meaning.proofs.Walks.{any_some}
use Rattle.prepare.specs.Rows.{in_row}
use Rattle.prepare.specs.Spoiling.{spoils}

-- v is selected and present, and nothing of its row is
pub record Lacks (doc : Doc) (p : ℕ → Bool) (r : Rule) : Type 0 where
  pub v : ℕ
  pub chosen : selected doc r v ≡ true
  pub here : p v ≡ true
  pub none : (f : ℕ) → in_row doc r v f ≡ true → p f ≡ true → ⊥

-- two of one row are present
pub record Twice (doc : Doc) (p : ℕ → Bool) (r : Rule) : Type 0 where
  pub v : ℕ
  pub f : ℕ
  pub g : ℕ
  pub apart : f ≡ g → ⊥
  pub first : in_row doc r v f ≡ true
  pub second : in_row doc r v g ≡ true
  pub first_here : p f ≡ true
  pub second_here : p g ≡ true

-- two present ones of rows of different owners have one value; `owner` tells a row's owner: itself, or its item number
pub record Shared (doc : Doc) (p : ℕ → Bool) (r : Rule) (owner : ℕ → ℕ) : Type 0 where
  pub u : ℕ
  pub v : ℕ
  pub f : ℕ
  pub g : ℕ
  pub apart : owner u ≡ owner v → ⊥
  pub first : in_row doc r u f ≡ true
  pub second : in_row doc r v g ≡ true
  pub first_here : p f ≡ true
  pub second_here : p g ≡ true
  pub same : same_value doc f g ≡ true

-- a present one has a value, no nil, that no present one in a row of the other rule has
pub record Unheld (doc : Doc) (p : ℕ → Bool) (r q : Rule) : Type 0 where
  pub v : ℕ
  pub f : ℕ
  pub known : is_nil doc f ≡ false
  pub in-row : in_row doc r v f ≡ true
  pub here : p f ≡ true
  pub none : (u g : ℕ) → in_row doc q u g ≡ true → p g ≡ true → same_value doc f g ≡ true → ⊥

-- a present one has a value, no nil, that no present one which is alone in a row of the other rule has
pub record Unmatched (doc : Doc) (p : ℕ → Bool) (r q : Rule) : Type 0 where
  pub v : ℕ
  pub f : ℕ
  pub known : is_nil doc f ≡ false
  pub in-row : in_row doc r v f ≡ true
  pub here : p f ≡ true
  pub none : (u g : ℕ) → in_row doc q u g ≡ true → p g ≡ true → same_value doc f g ≡ true → ((h : ℕ) → in_row doc q u h ≡ true → p h ≡ true → h ≡ g) → ⊥

-- one of a row is present
pub record Some (doc : Doc) (p : ℕ → Bool) (r : Rule) : Type 0 where
  pub v : ℕ
  pub f : ℕ
  pub in-row : in_row doc r v f ≡ true
  pub here : p f ≡ true

-- a nil that a version gives is one of its values
pub nil_given : (doc : Doc) (p : ℕ → Bool) (r : Rule) (v f : ℕ) → f < 0 + doc.size → gives doc p r v f ≡ true → is_nil doc f ≡ true → has_nil doc p r v ≡ true
unfolding has_nil
nil_given doc p r v f h e n = any_some _ 0 doc.size f (record { from = omega arith; below = h; passes = both (gives doc p r v f) (is_nil doc f) e n })

-- and spoils a key and a reference
pub spoilt_by : (doc : Doc) (p : ℕ → Bool) (r : Rule) (v : ℕ) → (r.kind ≡ 1) ⊎ (r.kind ≡ 3) → present doc p r v ≡ true → has_nil doc p r v ≡ true → spoils doc p r v ≡ true
unfolding spoils
spoilt_by doc p r v kind here nil =
    both (is_key r || is_reference r) (present doc p r v && has_nil doc p r v)
    (⊎_elim (λ k. or_l (is_key r) (is_reference r) (eq-eqb r.kind 1 k)) (λ k. or_r (is_key r) (is_reference r) (eq-eqb r.kind 3 k)) kind)
    (both (present doc p r v) (has_nil doc p r v) here nil)
