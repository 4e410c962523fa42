-- What comes of one record's bytes: a rule's numbers apart from its path, or the number of a refusal; and that as a reading of the table.
use Rattle.std.specs.Prelude.{cond, List, ℕ, Result, Ok, Err}
use Rattle.meaning.specs.declared.Rule.{Rule}
use Rattle.meaning.specs.Reading.{Reading, Accepted, Refused}
use Rattle.meaning.specs.Rules.{rule_in, spare_in, rule_fields}
use Rattle.rules.specs.declared.decode.Numbers.{Numbers}

-- a rule without its path
abbrev pub numbers_of : Rule → Numbers
numbers_of r =
    record { kind = r.kind; windowed = r.windowed; steps = r.steps; distinct = r.distinct; field = r.field; referred = r.referred; low = r.low; high = r.high; begin = r.begin; end = r.end; span = r.span; unit = r.unit; slide = r.slide }

-- the tests of one record's bytes, in their order
unfoldable pub decoded_in : List ℕ → Result Numbers ℕ
decoded_in s = cond (spare_in s) (cond (rule_fields (rule_in s)) (Ok (numbers_of (rule_in s))) (Err 25)) (Err 24)

-- a decoded record as a reading of the table, at its number
abbrev pub said : Result Numbers ℕ → ℕ → Reading
said (Ok x) k = Accepted
said (Err number) k = Refused number k
