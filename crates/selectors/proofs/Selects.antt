-- From what the parts of the reading answer to what comes of a text and a dictionary: a text outside the profile, a bad line, steps looked up.
use mathlib.Core.Path.{◌≡◌, refl, ap}
use mathlib.Core.Bool.{true, not}
use mathlib.Core.List.{List, []}
use Prim.Native.Nat.{ℕ, zero, suc, ◌≤◌, ◌<◌}
use native.Mathlib.Omega.{arith}
use borrow.Author.Tests.{lt-ltb, not-false}
use lib.ListN.{length, take}
use Rattle.meaning.specs.Walk.{on_found, Found}
use Rattle.meaning.proofs.Basics.{and_l}
use Rattle.meaning.proofs.Walks.{first-nothing}
use Rattle.meaning.specs.Reading.{Refused}
use Rattle.selectors.specs.declared.Selector.{Selector}
use Rattle.std.specs.Prelude.{Ok, Err, Some, None}
use Rattle.typed.specs.declared.BadLine.{BadLine}
use Rattle.selectors.specs.Parts.{parts, each}
use Rattle.selectors.specs.Profile.{steps, in_profile}
use Rattle.selectors.specs.Dictionary.{is_entry, name_of, ended, line_of, lines, has, good_line, first_bad_line}
use Rattle.selectors.specs.Selecting.{unknown_from, path_of, no_path, tell_selected, outside, unsound, unknown, path, SelectorPromise}
use Rattle.selectors.specs.Scan.{scan}
use Rattle.selectors.specs.Lining.{bad_at, Entries, checked}
use Rattle.selectors.specs.Walking.{LooksUp}
use Rattle.selectors.proofs.Names.{each_more}
use Rattle.selectors.proofs.Profiles.{Right, scan-right}

-- what the scan answers is so
right-at : (text : List ℕ) {r : Found} → r ≡ scan 0 8 0 text → Right text r
right-at text e = rw e (scan-right text)

-- a text that the scan stops in
pub comes-outside : (text d : List ℕ) {p : ℕ} {found : Found} {r : Selector} → found ≡ scan 0 8 0 text → found ≡ Some p → r.answer ≡ Refused 27 p → r.path ≡ no_path
    → SelectorPromise text d r
comes-outside text d {p} e f a b = outside p (rw f at (right-at text e)) (ap tell_selected a) b

-- a text that the scan goes through
pub in_profile_lem : (text : List ℕ) {found : Found} → found ≡ scan 0 8 0 text → found ≡ None → in_profile text ≡ true
in_profile_lem text e f = rw f at (right-at text e)

-- a dictionary with a bad line
bad-line : (f : Found) (n : ℕ) {b : BadLine} → on_found f bad_at (Ok n) ≡ Err b → f ≡ Some b.line
bad-line (Some j) n {b} e = let same : ◌≡◌ {A = BadLine} (record { line = j }) b = cc in ap (λ (x : BadLine). Some x.line) same
bad-line None n e = let wrong : ◌≡◌ {A = ℕ} 0 1 = cc in absurd (omega arith)

pub comes-unsound : (text d : List ℕ) {bad : BadLine} {r : Selector} → in_profile text ≡ true → checked d ≡ Err bad → r.answer ≡ Refused 31 bad.line → r.path ≡ no_path → SelectorPromise text d r
unfolding checked
comes-unsound text d {bad} i e a b = unsound bad.line i (bad-line (first_bad_line d) (ended d) e) (ap tell_selected a) b

-- a dictionary without one
sound-lines : (f : Found) {n k : ℕ} → on_found f bad_at (Ok n) ≡ Ok k → (f ≡ None) × (n ≡ k)
sound-lines (Some j) e = let wrong : ◌≡◌ {A = ℕ} 0 1 = cc in absurd (omega arith)
sound-lines None e = (refl, cc)

pub sound-all : (d : List ℕ) {n : ℕ} → checked d ≡ Ok n → (first_bad_line d ≡ None) × (ended d ≡ n)
unfolding checked
sound-all d e = sound-lines (first_bad_line d) e

-- where no line is bad every line is good
pub every_good : (d : List ℕ) → first_bad_line d ≡ None → (k : ℕ) → k ≤ ended d → good_line d k ≡ true
unfolding first_bad_line
every_good d e k h = not-false (good_line d k) (first-nothing (λ j. not (good_line d j)) 0 (suc (ended d)) e k (omega arith) (omega arith))

-- a good line that a line feed ends is an entry
good_entry : (d : List ℕ) (k : ℕ) → k < ended d → good_line d k ≡ true → is_entry (line_of d k) ≡ true
unfolding good_line
good_entry d k h e =
    and_l (is_entry (line_of d k)) (not (has (take k (parts 10 d)) (name_of (line_of d k)))) (rw (lt-ltb k (ended d) h) at e)

-- where no line is bad all are entries
pub all-entries : (d : List ℕ) → first_bad_line d ≡ None → Entries d (ended d)
unfolding each
all-entries d e = record { many = omega arith; sound = front (ended d) (omega arith) }
  where
    front : (n : ℕ) → n ≤ ended d → each is_entry (take n (parts 10 d)) ≡ true
    front zero h = refl
    front (suc n) h = each_more is_entry (parts 10 d) n [] (omega arith) (front n (omega arith)) (good_entry d n h (every_good d e n (omega arith)))

-- the steps looked up in these lines
module _ (text d : List ℕ) (r : Selector) (inside : in_profile text ≡ true) (sound : first_bad_line d ≡ None) where
  looked : (u : Found) → unknown_from (lines d) 0 (steps text) ≡ u → r.answer ≡ on_found u (Refused 28) (Ok (length (steps text)))
      → r.path ≡ on_found u (λ p. no_path) (path_of (lines d) (steps text)) → SelectorPromise text d r
  looked (Some p) e a b = unknown p inside sound e (ap tell_selected a) b
  looked None e a b = path inside sound e (ap tell_selected a) b

  pub comes-looked : {n : ℕ} → ended d ≡ n → LooksUp text (take n (parts 10 d)) r → SelectorPromise text d r
  unfolding lines
  comes-looked e f = looked (unknown_from (lines d) 0 (steps text)) refl (rw e f.answer) (rw e f.path)
