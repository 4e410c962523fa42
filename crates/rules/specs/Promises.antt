-- What reading a rule image promises of its answer x: that of the meaning, told by 01's number and values.
use Rattle.std.specs.Prelude.{◌≡◌, List, ℕ}
use Rattle.meaning.specs.Reading.{Reading}
use Rattle.meaning.specs.Rules.{read_rules}
use Rattle.meaning.specs.Answer.{tell_reading}

abbrev pub RulesPromise : List ℕ → Reading → Type 0
RulesPromise image x = tell_reading x ≡ tell_reading (read_rules image)
