-- How long the lines of a report can be.
use Rattle.meaning.specs.declared.Refusal.{Refusal}
use Rattle.std.specs.Prelude.{Err, Ok, Result}
use mathlib.Core.List.{List, ◌++◌}
use Prim.Native.Nat.{ℕ, ◌+◌, ◌≤◌}
use native.Mathlib.Omega.{arith}
use lib.ListN.{length, length-append}
use Rattle.meaning.specs.declared.Verdict.{Verdict}
use Rattle.meaning.specs.declared.Verdict.TheVariants.{Holds, Fails}
use Rattle.spelling.specs.Spelled.{word, decimal, spaced}
use Rattle.spelling.specs.Lines.{told, rule_line, refused_line}
use Rattle.spelling.proofs.Numerals.{short}

-- how long a line can be: numbers have at most twenty digits
next-room : (a : List ℕ) {m : ℕ} → length a ≤ m → (n : ℕ) → length (a ++ spaced n) ≤ m + 21
next-room a h n = omega (arith, length-append a (spaced n), short n)

end_room : (a : List ℕ) {m : ℕ} → length a ≤ m → length (a ++ word "\n") ≤ m + 1
unfolding word
end_room a h = omega (arith, length-append a (word "\n"))

told-room : (x : Result Verdict Refusal) → length (told x) ≤ 69
unfolding told word
told-room (Ok (Holds n)) = next-room (word " holds - -") {m = 48} (omega arith) n
told-room (Ok (Fails d v n)) = next-room (word " fails" ++ spaced d ++ spaced v) (next-room (word " fails" ++ spaced d) (next-room (word " fails") {m = 6} (omega arith) d) v) n
told-room (Err why) = next-room (word " refused" ++ spaced why.number) (next-room (word " refused") {m = 27} (omega arith) why.number) why.place

pub line-room : (k : ℕ) (x : Result Verdict Refusal) → length (rule_line k x) ≤ 90
unfolding rule_line
line-room k x = end_room (decimal k ++ told x) {m = 89} (omega (arith, length-append (decimal k) (told x), short k, told-room x))

pub refused_room : (a b : ℕ) → length (refused_line a b) ≤ 50
unfolding refused_line word
refused_room a b = end_room (word "refused" ++ spaced a ++ spaced b) (next-room (word "refused" ++ spaced a) (next-room (word "refused") {m = 7} (omega arith) a) b)
