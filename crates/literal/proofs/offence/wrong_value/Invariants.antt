-- `literal::offence::wrong_value` meets its contract: no record below f gives a wrong value.
use mathlib.Core.Path.{◌≡◌}
use mathlib.Core.Bool.{Bool, false}
use Prim.Native.Nat.{ℕ}
use Rattle.meaning.specs.Document.{Doc}
use Rattle.meaning.specs.Walk.{any}
use Rattle.literal.specs.Laid.{LaidIn, ValuedBy}
use Rattle.literal.specs.Wrong.{gives_wrong}
use Rattle.literal.proofs.offence.wrong_value.Given as goal

abbrev pub invariant-loop-f : goal.invariant-loop-f
invariant-loop-f l = (doc : Doc) (p : ℕ → Bool) → LaidIn doc p l.records l.asked.present.now → ValuedBy doc l.records → any (gives_wrong doc p l.asked.rule l.v) 0 l.f ≡ false
