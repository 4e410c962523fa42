-- The verdict from the walk: no version offends at a place before the soonest one, nor from there on up to where the walk stopped.
use mathlib.Core.Path.{◌≡◌, sym, ◌∙◌}
use mathlib.Core.Logic.{⊎_elim}
use mathlib.Core.Bool.{true, false≢true}
use Prim.Native.Nat.{ℕ, ◌+◌, ◌≤◌, ◌<◌}
use native.Mathlib.Omega.{arith}
use borrow.Author.Tests.{eqb-true, eq-eqb}
use Rattle.std.specs.Prelude.{None}
use Rattle.meaning.specs.declared.Verdict.TheVariants.{Holds, Fails}
use Rattle.meaning.specs.declared.Rule.{Rule}
use Rattle.meaning.specs.Document.{Doc}
use Rattle.meaning.specs.Rules.{is_sequenced, rule_fields}
use Rattle.meaning.specs.Answer.{judged}
use Rattle.meaning.proofs.Basics.{went, le_or_lt}
use Rattle.meaning.proofs.Walks.{first-none}
use Rattle.columns.specs.Judgeable.{Judgeable}
use Rattle.places.specs.declared.Places.{Places}
use Rattle.places.specs.declared.Place.{Place}
use Rattle.places.specs.Placing.{window_at, Counted, Placed}
use Rattle.soonest.specs.Soon.{offends_at, Soon}
use Rattle.judging.specs.Stopping.{offender_at, Clear, Offended}
use Rattle.judging.specs.Tally.{count_of}
use Rattle.judging.proofs.Modes.{judged-days, judged-windows}
use Rattle.judging.proofs.DayVerdict.{fails_on, holds_on}
use Rattle.judging.proofs.WindowVerdict.{fails_in, holds-in}

module _ (doc : Doc) (q r : Rule) (at : Places) (k : ℕ) (soon : Soon doc q r at k) where
  before : (i : ℕ) → i < at.count → i < k → offender_at doc q r (window_at at i) ≡ None
  unfolding offender_at Soon
  before i h l = first-none (offends_at doc (window_at at i) q r) 0 doc.size (λ v a b. soon i v h l)

  -- no place below the one where the walk stopped has an offender
  all-clear : {j : ℕ} → Clear doc q r at k j → j ≤ at.count → (i : ℕ) → i < j → offender_at doc q r (window_at at i) ≡ None
  all-clear c most i h = ⊎_elim (λ l. c.none i l h) (λ l. before i (omega arith) l) (le_or_lt k i)

  module _ (ok : Judgeable doc) (fits : rule_fields r ≡ true) (placed : Placed r at) (counted : Counted at) where
    pub fails_there : {here : Place} {v n : ℕ} → Offended doc q r at k here v → n ≡ count_of doc q r (here.number + 1) here.to → Fails here.from v n ≡ judged doc q r
    fails_there {here} {v} {n} o p =
        let j = here.number in
        let s = o.stands in
        let none = all-clear o.clear (omega (arith, s.inside)) in
        let e : n ≡ count_of doc q r (j + 1) _ = rw s.to at p in
        rw s.from
        (⊎_elim
        (λ t. fails_on doc q r at ok t placed counted j (omega (arith, s.inside)) none s.inside _ o.lowest e ∙ judged-days doc q r (eqb-true r.windowed 0 t))
        (λ t. fails_in fits t placed counted doc q j s.inside none _ o.lowest e ∙ judged-windows doc q r (λ w. false≢true (sym t ∙ eq-eqb r.windowed 0 w)))
        (went (is_sequenced r)))

    pub holds-all : {n : ℕ} → Clear doc q r at k at.count → n ≡ count_of doc q r at.count at.close → Holds n ≡ judged doc q r
    holds-all {n} c p =
        let none = all-clear c (omega arith) in
        ⊎_elim
        (λ t. holds_on doc q r at ok t placed counted at.count (omega arith) none (omega arith) _ p ∙ judged-days doc q r (eqb-true r.windowed 0 t))
        (λ t. holds-in fits t placed counted doc q none _ p ∙ judged-windows doc q r (λ w. false≢true (sym t ∙ eq-eqb r.windowed 0 w)))
        (went (is_sequenced r))
