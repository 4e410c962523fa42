-- Examples of reading a selector: the answer worked out from the definitions and the scan, which is what comes, and that it is the expected one.
use mathlib.Core.Path.{◌≡◌, refl}
use mathlib.Core.List.{List, [], ◌∷◌, ◌++◌, map}
use Prim.Native.Nat.{ℕ}
use Prim.Native.String.{String}
use lib.ListN.{length}
use Rattle.std.specs.Prelude.{Some, None, Ok}
use Rattle.meaning.specs.Walk.{first, Found}
use Rattle.spelling.specs.Spelled.{word}
use Rattle.meaning.specs.Reading.{Refused}
use Rattle.selectors.specs.declared.Selector.{Selector}
use Rattle.selectors.specs.Parts.{up_to, later, each, same}
use Rattle.selectors.specs.Profile.{is_letter, is_first, is_inner, is_name, is_star, is_step, steps, in_profile}
use Rattle.selectors.specs.Dictionary.{spelt, is_number, is_pair, is_entry, number_of, lines, has, number_in, good_line, first_bad_line}
use Rattle.selectors.specs.Selecting.{is_known, step_number, unknown_from, path_of, no_path, outside, unsound, unknown, path, SelectorPromise}
use Rattle.selectors.specs.Scan.{after, left_after, scan}
use Rattle.selectors.proofs.Profiles.{Right, scan-right}
use Rattle.selectors.proofs.Unique.{selector_of}

-- the answer of three tests, each the place at which it stops or that it passes
abbrev pub threefold : Found → Found → Found → ℕ → List ℕ → Selector
threefold (Some p) bad lost n numbers = selector_of (Refused 27 p) no_path
threefold None (Some k) lost n numbers = selector_of (Refused 31 k) no_path
threefold None None (Some p) n numbers = selector_of (Refused 28 p) no_path
threefold None None None n numbers = selector_of (Ok n) numbers

-- the answer on a text and a dictionary, worked out
unfoldable pub worked_out : List ℕ → List ℕ → Selector
worked_out text d = threefold (scan 0 8 0 text) (first_bad_line d) (unknown_from (lines d) 0 (steps text)) (length (steps text)) (path_of (lines d) (steps text))

-- SOMETHING COMES of every text and every dictionary, and it is what is worked out
pub comes-worked_out : (text d : List ℕ) → SelectorPromise text d (worked_out text d)
unfolding worked_out
comes-worked_out text d = go (scan 0 8 0 text) (first_bad_line d) (unknown_from (lines d) 0 (steps text)) (scan-right text) refl refl
  where
    go : (p k u : Found) → Right text p → first_bad_line d ≡ k → unknown_from (lines d) 0 (steps text) ≡ u
        → SelectorPromise text d (threefold p k u (length (steps text)) (path_of (lines d) (steps text)))
    go (Some p) k u r e f = outside p r refl refl
    go None (Some k) u r e f = unsound k r e refl refl
    go None None (Some p) r e f = unknown p r e f refl refl
    go None None None r e f = path r e f refl refl

-- an example: a text, a dictionary and what comes of them
pub record Example : Type 0 where
  pub text : String
  pub dictionary : String
  pub result : Selector

-- a path of as many steps, by its eight numbers
abbrev pub leads : String → String → ℕ → List ℕ → Example
leads text d n numbers = record { text = text; dictionary = d; result = selector_of (Ok n) numbers }

-- a refusal, by its number and its place
abbrev pub stops : String → String → ℕ → ℕ → Example
stops text d x p = record { text = text; dictionary = d; result = selector_of (Refused x p) no_path }

-- the names of the example bank
pub bank : String
bank = "bank 1\nmixer 2\nserial 3\nloss 4\n"

-- a path of names; of eight stars by no name at all; one of star and name; the largest number; two names of one number; a name that begins another; letters of either case
pub accepted : List Example
accepted =
    leads "bank/mixer" bank 2 (1 ∷ 2 ∷ 0 ∷ 0 ∷ 0 ∷ 0 ∷ 0 ∷ 0 ∷ [])
    ∷ leads "*/*/*/*/*/*/*/*" "" 8 (65535 ∷ 65535 ∷ 65535 ∷ 65535 ∷ 65535 ∷ 65535 ∷ 65535 ∷ 65535 ∷ [])
    ∷ leads "*" "" 1 (65535 ∷ 0 ∷ 0 ∷ 0 ∷ 0 ∷ 0 ∷ 0 ∷ 0 ∷ [])
    ∷ leads "*/loss" bank 2 (65535 ∷ 4 ∷ 0 ∷ 0 ∷ 0 ∷ 0 ∷ 0 ∷ 0 ∷ [])
    ∷ leads "_/b-2" "_ 65534\nb-2 65534\n" 2 (65534 ∷ 65534 ∷ 0 ∷ 0 ∷ 0 ∷ 0 ∷ 0 ∷ 0 ∷ [])
    ∷ leads "a/ab" "ab 7\na 9\n" 2 (9 ∷ 7 ∷ 0 ∷ 0 ∷ 0 ∷ 0 ∷ 0 ∷ 0 ∷ [])
    ∷ leads "Loss" "loss 1\nLoss 2\n" 1 (2 ∷ 0 ∷ 0 ∷ 0 ∷ 0 ∷ 0 ∷ 0 ∷ 0 ∷ [])
    ∷ []

-- 27: no text; a slash at the end, at the front and twice; a digit first; a byte within a name and behind a star; `.`, `|` and a line feed; the slash of a ninth step, also ahead of something bad; ahead of 31 and 28
pub outsiders : List Example
outsiders =
    stops "" bank 27 0 ∷ stops "bank/" bank 27 5 ∷ stops "/bank" bank 27 0 ∷ stops "bank//mixer" bank 27 5
    ∷ stops "7up" bank 27 0 ∷ stops "bank/2" bank 27 5 ∷ stops "ba nk" bank 27 2 ∷ stops "*a" bank 27 1 ∷ stops "**" bank 27 1
    ∷ stops "." bank 27 0 ∷ stops "bank|mixer" bank 27 4 ∷ stops "bank\n" bank 27 4 ∷ stops "-a" bank 27 0
    ∷ stops "*/*/*/*/*/*/*/*/*" bank 27 15 ∷ stops "*/*/*/*/*/*/*/*/" bank 27 15 ∷ stops "lost/?" "x" 27 5
    ∷ []

-- 31: no line feed; an empty line; two spaces; no number; a leading zero; 0; too large; a sign; something behind the number; a bad name; a name twice; where the text has stars alone; ahead of 28
pub unsounds : List Example
unsounds =
    stops "*" "bank 1\nmixer 2" 31 1 ∷ stops "*" "\n" 31 0 ∷ stops "bank" "bank  1\n" 31 0 ∷ stops "bank" "bank \n" 31 0 ∷ stops "bank" "bank\n" 31 0
    ∷ stops "bank" "bank 01\n" 31 0 ∷ stops "bank" "bank 0\n" 31 0 ∷ stops "bank" "bank 65535\n" 31 0 ∷ stops "bank" "bank +1\n" 31 0 ∷ stops "bank" "bank 1 \n" 31 0
    ∷ stops "bank" "2bank 1\n" 31 0 ∷ stops "bank" " 1\n" 31 0 ∷ stops "bank" "bank 1\nmixer 2\nbank 1\n" 31 2 ∷ stops "lost" "bank 1\nbank 2\n" 31 1 ∷ stops "a" "a 1\nb 2\n\nc 3\n" 31 2
    ∷ []

-- 28: no dictionary; the first unknown name, and where it starts; the beginning of a name, and more than one; another case
pub lost : List Example
lost =
    stops "bank" "" 28 0 ∷ stops "*/bank/lost/gone" bank 28 7 ∷ stops "bank/mix" bank 28 5 ∷ stops "mixers" bank 28 0 ∷ stops "bank/Loss" bank 28 5
    ∷ []

-- EACH EXAMPLE is worked out as it is told
pub examples : map (λ (e : Example). worked_out (word e.text) (word e.dictionary)) (accepted ++ outsiders ++ unsounds ++ lost) ≡ map (λ (e : Example). e.result) (accepted ++ outsiders ++ unsounds ++ lost)
unfolding accepted bank outsiders unsounds lost worked_out word scan after left_after is_letter is_first is_inner is_name is_star is_step in_profile up_to later each same spelt is_number is_pair is_entry number_of lines has number_in good_line first_bad_line first is_known step_number unknown_from path_of
examples = refl
