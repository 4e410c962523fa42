-- The field versions under an item number: in a window they are those of the group that meet it, for a field version lies within its selected version.
use mathlib.Core.Path.{◌≡◌, refl, sym, ◌∙◌, ap}
use mathlib.Core.Logic.{⊎_elim}
use mathlib.Core.Bool.{Bool, true, false, ◌&&◌, not, and-true, and-false}
use Prim.Native.Nat.{ℕ, ◌≤◌, ◌<◌}
use native.Mathlib.Omega.{arith}
use lib.Dec.{eqb}
use borrow.Author.Tests.{eqb-true}
use Rattle.meaning.specs.declared.Rule.{Rule}
use Rattle.meaning.specs.Walk.{any}
use Rattle.meaning.specs.Document.{Doc, is_version, number_of, above}
use Rattle.meaning.specs.Select.{selected, field_of, is_nil, present, gives}
use Rattle.meaning.specs.Window.{Window, meets, under}
use Rattle.meaning.proofs.Basics.{went, tests_same}
use Rattle.meaning.proofs.Walks.{any_none, any_same, any-true}
use Rattle.meaning.proofs.Says.{says}
use Rattle.meaning.proofs.Selects.{selected-version, selected-here, field_version}
use Rattle.columns.specs.Judgeable.{Judgeable}
use Rattle.prepare.specs.Rows.{KnownOnly, in_row}
use Rattle.groups.specs.Groups.{in_group}

-- a test that hangs on no number, out of a walk
pub any-and : (t : ℕ → Bool) (b : Bool) (n : ℕ) → any (λ k. t k && b) 0 n ≡ (any t 0 n && b)
any-and t true n = any_same (λ k. t k && true) t 0 n (λ k a l. and-true (t k)) ∙ sym (and-true (any t 0 n))
any-and t false n = any_none (λ k. t k && false) 0 n (λ k a l. and-false (t k)) ∙ sym (and-false (any t 0 n))

module _ (doc : Doc) (r : Rule) where
  pub row-version : (v f : ℕ) → in_row doc r v f ≡ true → is_version doc f ≡ true
  unfolding in_row
  row-version v f e = let s = simp says at e in field_version doc r v f s.0.0 s.0.1

  pub group_version : (n f : ℕ) → in_group doc r n f ≡ true → is_version doc f ≡ true
  unfolding in_group
  group_version n f e = let k = any-true (λ v. in_row doc r v f && eqb (number_of doc v) n) 0 doc.size e in row-version k.0 f (simp says at k.1.passes).0

  pub row-selected : (v f : ℕ) → in_row doc r v f ≡ true → selected doc r v ≡ true
  unfolding in_row
  row-selected v f e = (simp says at e).0.0

  -- where the selected version of each present field version is present
  module _ (known : KnownOnly doc r) (p : ℕ → Bool) (held : (v f : ℕ) → in_row doc r v f ≡ true → p f ≡ true → p v ≡ true) where
    pub row-present : (v f : ℕ) → present doc p r v && gives doc p r v f && not (is_nil doc f) ≡ (in_row doc r v f && p f)
    unfolding present gives in_row
    row-present v f =
        tests_same (present doc p r v && gives doc p r v f && not (is_nil doc f)) (in_row doc r v f && p f)
        (λ e. let s = simp says at e in rw (known f) (simp says (((s.0.0.0, s.0.1.0.0), (s.0.1.1, s.1)), s.0.1.0.1)))
        (λ e.
        let s = simp says at e in
        let w = simp says at (sym (known f) ∙ s.0.1) in
        simp says (((s.0.0.0, held v f (simp says s.0) s.1), ((s.0.0.1, s.1), w.0)), w.1))

    pub under-group : (n f : ℕ) → under doc p r n f && not (is_nil doc f) ≡ (in_group doc r n f && p f)
    unfolding under in_group
    under-group n f =
        sym (any-and (λ v. present doc p r v && gives doc p r v f && eqb (number_of doc v) n) (not (is_nil doc f)) doc.size)
        ∙ any_same _ (λ v. (in_row doc r v f && eqb (number_of doc v) n) && p f) 0 doc.size
        (λ v a l.
        turn (present doc p r v && gives doc p r v f) (eqb (number_of doc v) n) (not (is_nil doc f))
        ∙ ap (λ b. b && eqb (number_of doc v) n) (row-present v f) ∙ turn (in_row doc r v f) (p f) (eqb (number_of doc v) n))
        ∙ any-and (λ v. in_row doc r v f && eqb (number_of doc v) n) (p f) doc.size
      where
        turn : (a b c : Bool) → (a && b) && c ≡ ((a && c) && b)
        turn false b c = refl
        turn true true c = sym (and-true c)
        turn true false c = sym (and-false c)

-- a document that can be judged
module _ (doc : Doc) (r : Rule) (ok : Judgeable doc) where
  -- a version has a period
  pub lasting : (v : ℕ) → is_version doc v ≡ true → doc.begin v < doc.end v
  lasting v e = (ok.seated v (eqb-true (doc.kind v) 2 e)).lasts

  -- a field version lies within its selected version
  within-row : (v f : ℕ) → in_row doc r v f ≡ true → (doc.begin v ≤ doc.begin f) × (doc.end f ≤ doc.end v)
  unfolding in_row field_of
  within-row v f e =
      let s = simp says at e in
      let here : v < doc.size = selected-here doc r v s.0.0 in
      ⊎_elim
      (λ (y : eqb r.field 0 ≡ true). let q : f ≡ v = eqb-true f v (rw y at s.0.1) in rw q (omega arith, omega arith))
      (λ z.
      let t = simp says at (rw z at s.0.1) in
      let up : above doc f ≡ v = t.1 in
      let not_root : doc.parent f ≡ 0 → ⊥ = λ q. omega (arith, ap doc.parent q, ok.top) in
      let w = (ok.seated f t.0.0).over (omega arith) in
      rw (sym up) (w.from, w.to))
      (went (eqb r.field 0))

  -- so it meets no window that the selected version does not meet
  pub meets-row : (w : Window) (v f : ℕ) → in_row doc r v f ≡ true → meets doc w f ≡ true → meets doc w v ≡ true
  unfolding meets
  meets-row w v f e t =
      let s = simp says at t in
      let i = within-row v f e in
      let k : is_version doc v ≡ true = selected-version doc r v (row-selected doc r v f e) in
      simp says ((simp says at k, omega (arith, i.0)), omega (arith, i.1))
