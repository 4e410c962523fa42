-- What the quick `slice` asks of the columns of an image, and that the versions alive, stored, are the slice. Over plain variables: what each call gave, with what it ensures.
use mathlib.Core.Path.{◌≡◌, sym, ap, ◌∙◌}
use mathlib.Core.List.{List}
use Prim.Native.Nat.{ℕ, ◌-◌, ◌≤◌}
use lib.ListN.{length, take}
use Rattle.std.specs.Prelude.{Result, Ok}
use Rattle.meaning.specs.declared.Refusal.{Refusal}
use Rattle.meaning.specs.Reading.{Accepted}
use Rattle.meaning.specs.Walk.{pick}
use Rattle.meaning.specs.Document.{Doc}
use Rattle.meaning.specs.Nodes.{doc_of}
use Rattle.meaning.specs.Day.{alive}
use Rattle.meaning.specs.Answer.{storing, lent_after}
use Rattle.meaning.proofs.Slices.{slice-alive}
use Rattle.meaning.specs.Block.{limit}
use native.Mathlib.Omega.{arith}
use Rattle.columns.specs.Lent.{Lends, Periods, PeriodsOf, FrontOf, AllOf, WholeOf}
use Rattle.columns.specs.declared.Records.{Records}
use Rattle.columns.proofs.Fronted.{whole_front}
use Rattle.lists.specs.Lending.{LivingIn, PeriodsFront}
use Rattle.columns.specs.declared.Columns.{Columns}
use Rattle.nodes.specs.Unpacking.{Unpacks}
use Rattle.nodes.proofs.Held.{held-image, whole-held}
use Rattle.opening.specs.Promises.{SlicePromise}
use Rattle.opening.proofs.Opens.{fronts}
use Rattle.opening.proofs.Slicing.{slice-listed}

module _ (image : List ℕ) (day : ℕ) (lent : List ℕ) {c : Columns} (u : Unpacks image c) {n : ℕ} (r : c.loaded ≡ Ok n) where
  pub slice-few : n ≤ limit
  slice-few = (held-image image u.answer r).few

  -- each column that is read goes as far as the document
  pub slice-fronts : (n ≤ limit) × (n ≤ length c.kind) × (n ≤ length c.begin) × (n ≤ length c.end)
  slice-fronts = let f = fronts u r in (slice-few, f.kind, f.begin, f.end)

  -- what was stored for every document that some columns hold is the slice, where they hold the image's
  module _ {kinds begins ends : List ℕ} (t : Lends (doc_of image).size (doc_of image).kind 0 kinds) (w : Periods (doc_of image) begins ends) where
    stored : day ≤ 36524 → {y : Result ℕ Refusal} {out : List ℕ}
        → ((doc : Doc) → Lends doc.size doc.kind 0 kinds → Periods doc begins ends → y ≡ storing Accepted (pick (alive doc day) 0 doc.size) lent)
        → ((doc : Doc) → Lends doc.size doc.kind 0 kinds → Periods doc begins ends → out ≡ lent_after y (pick (alive doc day) 0 doc.size) lent)
        → SlicePromise image day lent y out
    stored l {y} {out} p q =
        let doc = doc_of image in
        let s = slice-alive doc (whole-held image u r).judgeable.present day in
        slice-listed image day lent u r l
        (p doc t w ∙ ap (λ (list : List ℕ). storing Accepted list lent) (sym s))
        (q doc t w ∙ ap (λ (list : List ℕ). lent_after y list lent) (sym s))

  -- over columns that are lent whole, and that go on past the document
  module _ {all : Records} (e : AllOf c all) where
    pub slice-fronts_lent : (n ≤ limit) × (n ≤ length all.kind.now) × (n ≤ length all.begin.now) × (n ≤ length all.end.now)
    slice-fronts_lent = rw (e.kind, e.begin, e.end) slice-fronts

    pub slice-stored_lent : day ≤ 36524 → {y : Result ℕ Refusal} {out : List ℕ}
        → ((doc : Doc) → Lends doc.size doc.kind 0 (take (n - 0) all.kind.now) → PeriodsFront doc n all → y ≡ storing Accepted (pick (alive doc day) 0 doc.size) lent)
        → ((doc : Doc) → Lends doc.size doc.kind 0 (take (n - 0) all.kind.now) → PeriodsFront doc n all → out ≡ lent_after y (pick (alive doc day) 0 doc.size) lent)
        → SlicePromise image day lent y out
    slice-stored_lent l = let w = whole-held image u r in rw (e.kind, e.begin, e.end) (stored w.tree.kind w.periods l)

  -- over columns that are cut where the document ends
  module _ {front : Records} (p : FrontOf n c front) where
    whole : WholeOf (doc_of image) front
    whole = whole_front p (whole-held image u r)

    pub slice-living : LivingIn front limit
    slice-living =
        let w = whole in
        record { begin = w.periods.begin.size ∙ sym w.tree.kind.size; end = w.periods.end.size ∙ sym w.tree.kind.size; fits = omega (arith, w.tree.kind.size, w.judgeable.few) }

    pub slice-stored : day ≤ 36524 → {y : Result ℕ Refusal} {out : List ℕ}
        → ((doc : Doc) → Lends doc.size doc.kind 0 front.kind.now → PeriodsOf doc front → y ≡ storing Accepted (pick (alive doc day) 0 doc.size) lent)
        → ((doc : Doc) → Lends doc.size doc.kind 0 front.kind.now → PeriodsOf doc front → out ≡ lent_after y (pick (alive doc day) 0 doc.size) lent)
        → SlicePromise image day lent y out
    slice-stored = stored whole.tree.kind whole.periods
