-- What is found of a rule, with how many places were looked into: the verdict in it, of which alone something is promised.
use Rattle.std.specs.Prelude.{Result, Ok, Err}
use Rattle.meaning.specs.declared.Refusal.{Refusal}
use Rattle.meaning.specs.declared.Verdict.{Verdict}
use Rattle.judging.specs.declared.Judged.{Judged}

abbrev pub verdict_in : Result Judged Refusal → Result Verdict Refusal
verdict_in (Ok found) = Ok found.verdict
verdict_in (Err why) = Err why
