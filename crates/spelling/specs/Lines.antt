-- The lines of a report (MEANING 15): one space parts the fields, and a line feed ends each.
use Rattle.meaning.specs.declared.Refusal.{Refusal}
use Rattle.std.specs.Prelude.{List, ◌++◌, ℕ, Err, Ok, Result}
use Rattle.meaning.specs.declared.Verdict.{Verdict}
use Rattle.meaning.specs.declared.Verdict.TheVariants.{Holds, Fails}
use Rattle.spelling.specs.Spelled.{word, decimal, spaced}

-- what stands after a rule's number: the verdict, the day and the record (dashes where the rule holds), and the count
unfoldable pub told : Result Verdict Refusal → List ℕ
told (Ok (Holds count)) = word " holds - -" ++ spaced count
told (Ok (Fails day offender count)) = word " fails" ++ spaced day ++ spaced offender ++ spaced count
told (Err why) = word " refused" ++ spaced why.number ++ spaced why.place

unfoldable pub rule_line : ℕ → Result Verdict Refusal → List ℕ
rule_line k found = decimal k ++ told found ++ word "\n"

unfoldable pub header : List ℕ
header = word "rule verdict day record looked\n"

unfoldable pub refused_line : ℕ → ℕ → List ℕ
refused_line number place = word "refused" ++ spaced number ++ spaced place ++ word "\n"

-- the line of a file that cannot be read, by its name
unfoldable pub unreadable_line : List ℕ → List ℕ
unreadable_line name = word "unreadable " ++ name ++ word "\n"
