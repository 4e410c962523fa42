-- Opened images whose columns were surveyed are such as rules are judged on.
use Rattle.std.proofs.Common.{◌≡◌, refl, ℕ, List}
use native.Mathlib.Nat.{sub-zero}
use Rattle.std.specs.Prelude.{Ok}
use Rattle.meaning.specs.Document.{Doc}
use Rattle.columns.specs.declared.Columns.{Columns}
use Rattle.columns.specs.declared.Records.{Records}
use Rattle.columns.specs.Lent.{ValuesOf, PeriodsOf, NumbersOf, FrontOf, AllOf}
use Rattle.columns.proofs.Fronted.{whole_front}
use Rattle.survey.specs.Surveyed.{Surveyed}
use Rattle.opening.specs.Opening.{Opens}
use Rattle.opening.proofs.Opens.{accepted-both, open_fronts}
use Rattle.bank.specs.Opening.{Open}

module _ {nodes : List ℕ} (rules : List ℕ) {c : Columns} (o : Opens nodes rules c) {n : ℕ} (r : c.loaded ≡ Ok n) where
  -- what a survey of every document in the front is, it is of this one
  pub opened : {front : Records} → FrontOf n c front → {all : Records} → AllOf c all → {reps groups opens closes : List ℕ} {many : ℕ}
      → ((doc : Doc) → ValuesOf doc front → PeriodsOf doc front → NumbersOf doc front → Surveyed doc front.begin.now front.end.now reps groups opens closes many)
      → Open nodes rules n all.kind.now all.vkind.now all.name.now all.parent.now all.begin.now all.end.now all.value.now all.item.now reps groups opens closes many
  opened p e s =
      let f = open_fronts rules o r in
      let w = whole_front p f.whole in
      rw (e.kind, e.vkind, e.name, e.parent, e.begin, e.end, e.value, e.item) (record {
        accepted = (accepted-both rules o r).0;
        table = (accepted-both rules o r).1;
        fronts = f;
        document = refl;
        surveyed = rw (sub-zero n) (rw (p.begin, p.end) at (s f.doc w.values_held w.periods w.numbers));
      })
