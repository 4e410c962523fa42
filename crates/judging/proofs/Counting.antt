-- The count that a verdict tells, by the rule's mode.
use mathlib.Core.Path.{◌≡◌}
use mathlib.Core.Bool.{true, false}
use Prim.Native.Nat.{ℕ, ◌-◌}
use lib.ListN.{length}
use Rattle.meaning.specs.declared.Rule.{Rule}
use Rattle.meaning.specs.Walk.{pick}
use Rattle.meaning.specs.Document.{Doc}
use Rattle.meaning.specs.Rules.{is_sequenced}
use Rattle.meaning.specs.Day.{is_change}
use Rattle.judging.specs.Tally.{count_of}

module _ (doc : Doc) (q r : Rule) (windows past : ℕ) where
  pub counts-days : {n : ℕ} → is_sequenced r ≡ true → n ≡ length (pick (is_change doc q r) r.begin (past - r.begin)) → n ≡ count_of doc q r windows past
  unfolding count_of
  counts-days s e = rw s e

  pub counts-windows : is_sequenced r ≡ false → windows ≡ count_of doc q r windows past
  unfolding count_of
  counts-windows s = rw s
