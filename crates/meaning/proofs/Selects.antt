-- What a rule selects and reads: every selected or read record is a version of the document.
use mathlib.Core.Path.{◌≡◌, sym, ◌∙◌}
use mathlib.Core.Logic.{⊎_elim}
use mathlib.Core.Bool.{Bool, true, ◌&&◌}
use Prim.Native.Nat.{ℕ, ◌<◌}
use native.Mathlib.Omega.{arith}
use lib.Dec.{eqb}
use borrow.Author.Tests.{eqb-true}
use Rattle.meaning.specs.declared.Rule.{Rule}
use Rattle.meaning.specs.Walk.{any}
use Rattle.meaning.specs.Document.{Doc, is_version, above}
use Rattle.meaning.specs.Rules.{is_reference}
use Rattle.meaning.specs.Select.{path_to, selected, field_of, reads_own, reads}
use Rattle.meaning.proofs.Basics.{went, le_or_lt, and_l, and_r, or_cases, or_l, or_r, both}
use Rattle.meaning.proofs.Walks.{any_some, any-true}

-- a version stands below the count
pub version-here : (doc : Doc) (v : ℕ) → is_version doc v ≡ true → v < doc.size
version-here doc v e =
    ⊎_elim
    (λ past. absurd (omega (arith, eqb-true (doc.kind v) 2 e, doc.past v past)))
    (λ h. h)
    (le_or_lt doc.size v)

module _ (doc : Doc) (r : Rule) where
  pub selected-version : (v : ℕ) → selected doc r v ≡ true → is_version doc v ≡ true
  unfolding selected
  selected-version v e = and_l (is_version doc v) (path_to doc r r.steps v) e

  pub selected-here : (v : ℕ) → selected doc r v ≡ true → v < doc.size
  selected-here v e = version-here doc v (selected-version v e)

  pub field_version : (v f : ℕ) → selected doc r v ≡ true → field_of doc r v f ≡ true → is_version doc f ≡ true
  unfolding field_of
  field_version v f s e =
      let a = is_version doc f in
      let b = eqb (doc.name (doc.parent f)) r.field in
      let c = eqb (above doc f) v in
      ⊎_elim
      (λ z. rw (eqb-true f v (rw z at e)) (selected-version v s))
      (λ z. and_l a b (and_l (a && b) c (rw z at e)))
      (went (eqb r.field 0))

  -- a field version belongs to one version only
  pub one-holder : (u v f : ℕ) → field_of doc r u f ≡ true → field_of doc r v f ≡ true → u ≡ v
  unfolding field_of
  one-holder u v f a b =
      let m = is_version doc f && eqb (doc.name (doc.parent f)) r.field in
      ⊎_elim
      (λ z. sym (eqb-true f u (rw z at a)) ∙ eqb-true f v (rw z at b))
      (λ z. sym (eqb-true (above doc f) u (and_r m (eqb (above doc f) u) (rw z at a))) ∙ eqb-true (above doc f) v (and_r m (eqb (above doc f) v) (rw z at b)))
      (went (eqb r.field 0))

  -- a selected version is read, and so is each field version of one
  pub selected-read : (v : ℕ) → selected doc r v ≡ true → reads_own doc r v ≡ true
  unfolding reads_own
  selected-read v e = or_l (selected doc r v) _ e

  pub field_read : (v f : ℕ) → selected doc r v ≡ true → field_of doc r v f ≡ true → reads_own doc r f ≡ true
  unfolding reads_own
  field_read v f s e =
      or_r (selected doc r f) _
      (any_some (λ u. field_of doc r u f && selected doc r u) 0 doc.size v
      (record { from = omega arith; below = omega (arith, selected-here v s); passes = both (field_of doc r v f) (selected doc r v) e s }))

  pub read-version : (i : ℕ) → reads_own doc r i ≡ true → is_version doc i ≡ true
  unfolding reads_own
  read-version i e =
      let g : ℕ → Bool = λ u. field_of doc r u i && selected doc r u in
      ⊎_elim
      (λ s. selected-version i s)
      (λ b. let w = any-true g 0 doc.size b in
      let u = w.0 in
      field_version u i (and_r (field_of doc r u i) (selected doc r u) w.1.passes) (and_l (field_of doc r u i) (selected doc r u) w.1.passes))
      (or_cases (selected doc r i) (any g 0 doc.size) e)

module _ (doc : Doc) (q r : Rule) where
  -- what the rule reads by itself, and what it reads of the rule referred to
  pub reads-own_lem : (i : ℕ) → reads_own doc r i ≡ true → reads doc q r i ≡ true
  unfolding reads
  reads-own_lem i e = or_l (reads_own doc r i) _ e

  pub reads-referred : (i : ℕ) → is_reference r ≡ true → reads_own doc q i ≡ true → reads doc q r i ≡ true
  unfolding reads
  reads-referred i k e = or_r (reads_own doc r i) _ (both (is_reference r) (reads_own doc q i) k e)

  pub reads-version : (i : ℕ) → reads doc q r i ≡ true → is_version doc i ≡ true
  unfolding reads
  reads-version i e =
      ⊎_elim
      (λ o. read-version doc r i o)
      (λ b. read-version doc q i (and_r (is_reference r) (reads_own doc q i) b))
      (or_cases (reads_own doc r i) (is_reference r && reads_own doc q i) e)
