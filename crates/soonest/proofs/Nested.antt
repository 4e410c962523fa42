-- A row's version is present where one of the row is: each stands in it, and lasts no longer.
use mathlib.Core.Path.{◌≡◌, sym, ◌∙◌, ap}
use mathlib.Core.Logic.{⊎_elim}
use mathlib.Core.Bool.{Bool, true}
use Prim.Native.Nat.{ℕ, ◌≤◌}
use native.Mathlib.Omega.{arith}
use lib.Dec.{eqb}
use borrow.Author.Tests.{eqb-true, eq-eqb}
use Rattle.meaning.specs.declared.Rule.{Rule}
use Rattle.meaning.specs.Document.{Doc, is_version, above}
use Rattle.meaning.specs.Select.{field_of}
use Rattle.meaning.specs.Day.{alive, present_on}
use Rattle.meaning.specs.Window.{Window, meets}
use Rattle.meaning.proofs.Basics.{went}
use Rattle.meaning.proofs.Says.{says}
use Rattle.meaning.proofs.Selects.{selected-here}
use Rattle.columns.specs.Judgeable.{Judgeable}
use Rattle.prepare.specs.Rows.{in_row}

-- presence p goes up from each of a row to its version
abbrev pub Nested : Doc → (ℕ → Bool) → Rule → Type 0
Nested doc p r = (v f : ℕ) → in_row doc r v f ≡ true → p f ≡ true → p v ≡ true

-- presence p goes from a version to each that lasts as long or longer
abbrev pub Lasting : Doc → (ℕ → Bool) → Type 0
Lasting doc p = (f v : ℕ) → is_version doc v ≡ true → doc.begin v ≤ doc.begin f → doc.end f ≤ doc.end v → p f ≡ true → p v ≡ true

module _ (doc : Doc) (judgeable : Judgeable doc) where
  -- in a document that can be judged each of a row lasts no longer than its version
  pub nested : (p : ℕ → Bool) → Lasting doc p → (r : Rule) → Nested doc p r
  unfolding in_row field_of
  nested p lasting r v f e m =
      let t = simp says at e in
      ⊎_elim
      (λ z. rw (eqb-true f v (rw z at t.0.1)) at m)
      (λ z.
      let w = simp says at (rw z at t.0.1) in
      let here = selected-here doc r v t.0.0 in
      let up : above doc f ≡ v = w.1 in
      let some : doc.parent f ≡ 0 → ⊥ = λ q. omega (arith, ap doc.parent q, judgeable.top) in
      let over = (judgeable.seated f w.0.0).over (omega arith) in
      rw up at (lasting f (above doc f) (eq-eqb (doc.kind (above doc f)) 2 over.version) over.from over.to m))
      (went (eqb r.field 0))

  -- presence on a day, by a version's own period
  pub alive-nested : (d : ℕ) (r : Rule) → Nested doc (alive doc d) r
  unfolding alive
  alive-nested d r = nested (alive doc d) (λ f v k b t e. let m = simp says at e in simp says ((eqb-true (doc.kind v) 2 k, omega arith), omega arith)) r

  -- presence on a day
  pub present-nested : (d : ℕ) (r : Rule) → Nested doc (present_on doc d) r
  present-nested d r v f i e = judgeable.present d v ∙ alive-nested d r v f i (sym (judgeable.present d f) ∙ e)

  -- presence in a window
  pub meets-nested : (w : Window) (r : Rule) → Nested doc (meets doc w) r
  unfolding meets
  meets-nested w r = nested (meets doc w) (λ f v k b t e. let m = simp says at e in simp says ((eqb-true (doc.kind v) 2 k, omega arith), omega arith)) r
