-- The verdict on sequenced rules alone (02, request 3): where the rule is sequenced the verdict, else refused as its change days are.
use Rattle.std.specs.Prelude.{Ok}
use mathlib.Core.Path.{◌≡◌, ap}
use mathlib.Core.Bool.{true, and-true}
use mathlib.Core.List.{List}
use Prim.Native.Nat.{ℕ}
use Rattle.meaning.specs.Reading.{Reading, Accepted, Refused}
use Rattle.meaning.specs.declared.Verdict.{Verdict}
use Rattle.meaning.specs.Nodes.{doc_of}
use Rattle.meaning.specs.Rules.{is_sequenced, rule_at, rules_of}
use Rattle.meaning.specs.Day.{on_days}
use Rattle.meaning.specs.Answer.{referred_by, judged, verdict_after, read_verdict, verdict, read_changes, sequenced_verdict}

module _ (nodes rules : List ℕ) (k : ℕ) where
  -- the verdict over every day on rule k
  abbrev every_day : Verdict
  every_day = on_days (doc_of nodes) (referred_by (rules_of rules) k) (rule_at (rules_of rules) k)

  -- refused as the reading is, ..
  pub sequenced-refused : {a b : ℕ} → read_changes nodes rules k ≡ Refused a b → sequenced_verdict nodes rules k ≡ Refused a b
  unfolding sequenced_verdict
  sequenced-refused e = ap (λ (x : Reading). verdict_after x every_day) e

  -- .. else the verdict over every day
  pub sequenced-days : read_changes nodes rules k ≡ Accepted → sequenced_verdict nodes rules k ≡ Ok (on_days (doc_of nodes) (referred_by (rules_of rules) k) (rule_at (rules_of rules) k))
  unfolding sequenced_verdict
  sequenced-days e = ap (λ (x : Reading). verdict_after x every_day) e

  -- so a sequenced rule's verdict is the verdict, be the images what they may
  pub sequenced-same : is_sequenced (rule_at (rules_of rules) k) ≡ true → sequenced_verdict nodes rules k ≡ verdict nodes rules k
  unfolding sequenced_verdict verdict read_changes read_verdict judged
  sequenced-same s = rw (s, and-true)
