-- The numbers of a path put one after the other, and the line on an answer.
use Rattle.std.specs.Prelude.{Ok, Result}
use mathlib.Core.Path.{◌≡◌, refl, ap, ◌∙◌}
use mathlib.Core.List.{List, [], ◌∷◌, ◌++◌, append_assoc, append-nil}
use Prim.Native.Nat.{ℕ, ◌+◌, ◌≤◌, ◌<◌}
use native.Mathlib.Numerals.{add-one}
use lib.ListN.{length, take, get_or}
use lib.Seq.{length-sets, take-suc, take_all}
use Rattle.spelling.specs.Spelled.{word, spaced}
use Rattle.spelling.specs.Lines.{refused_line}
use Rattle.spelling.specs.Puts.{Puts}
use Rattle.spelling.proofs.Pieces.{puts_none, puts_as, puts_then}
use Rattle.selectors.specs.Told.{spaced_all, selector_line}
use Rattle.meaning.specs.declared.Refusal.{Refusal}
use Rattle.meaning.specs.Reading.{Refused}

-- numbers behind numbers are spaced behind them
pub spaced-append : (a b : List ℕ) → spaced_all (a ++ b) ≡ spaced_all a ++ spaced_all b
unfolding spaced_all
spaced-append [] b = refl
spaced-append (x ∷ a) b = rw (spaced-append a b, append_assoc)

-- the first k numbers of a path were put
pub record Pathing (before : List ℕ) (at : ℕ) (path after : List ℕ) (to k : ℕ) : Type 0 where
  pub size : length after ≡ length before
  pub puts : Puts before at (spaced_all (take k path)) after to

-- none was put yet
pub pathing_none : (line : List ℕ) (at : ℕ) (path : List ℕ) → Pathing line at path line at 0
unfolding spaced_all
pathing_none line at path = record { size = refl; puts = puts_none line at }

module _ {before : List ℕ} {at : ℕ} {path after : List ℕ} {to k : ℕ} (p : Pathing before at path after to k) where
  -- the next number is put behind those before it
  pub pathing_more : {next : List ℕ} {r : ℕ} → k < length path → Puts after to (spaced (get_or path k 0)) next r → Pathing before at path next r (k + 1)
  unfolding spaced_all
  pathing_more h q =
      let e : spaced_all (take k path) ++ spaced (get_or path k 0) ≡ spaced_all (take (k + 1) path) = rw (add-one, take-suc path k 0 h, spaced-append, append-nil) in
      record { size = ap length q.text ∙ length-sets after to (spaced (get_or path k 0)) ∙ p.size; puts = puts_as (puts_then p.puts q) e }

  -- all are put
  pub pathing_all : length path ≤ k → Puts before at (spaced_all path) after to
  pathing_all h = puts_as p.puts (ap spaced_all (take_all k path h))

module _ (path : List ℕ) {before after : List ℕ} {r : ℕ} {answer : Result ℕ Refusal} where
  -- the words, the numbers and the length of a path are the line on it
  pub path-line : {n : ℕ} → Puts before 0 (word "path" ++ spaced_all path ++ word " length" ++ spaced n ++ word "\n") after r → answer ≡ Ok n → Puts before 0 (selector_line answer path) after r
  unfolding selector_line
  path-line p e = rw e p

  -- the line of a refusal is the line on it
  pub refused_line_lem : {number place : ℕ} → Puts before 0 (refused_line number place) after r → answer ≡ Refused number place → Puts before 0 (selector_line answer path) after r
  unfolding selector_line
  refused_line_lem p e = rw e p
