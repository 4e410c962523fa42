-- What an answer says of a text and a dictionary: what a path comes of, and the ground of each refusal.
use mathlib.Core.Path.{◌≡◌, refl, sym, ap, ◌∙◌}
use mathlib.Core.Logic.{⊎_elim}
use mathlib.Core.Bool.{true, false, not}
use mathlib.Core.List.{List, [], ◌∷◌}
use Prim.Native.Nat.{ℕ, suc, ◌+◌, ◌≤◌, ◌<◌}
use native.Mathlib.Omega.{arith}
use borrow.Author.Tests.{not-true, not-false}
use lib.ListN.{length}
use Rattle.std.specs.Prelude.{Some, None, Ok}
use Rattle.meaning.specs.Answer.{Told}
use Rattle.meaning.proofs.Basics.{went, and_l, and_r}
use Rattle.meaning.proofs.Walks.{first_found}
use Rattle.meaning.specs.Reading.{Refused}
use Rattle.selectors.specs.Parts.{each}
use Rattle.selectors.specs.Profile.{steps, in_profile, Outside}
use Rattle.selectors.specs.Dictionary.{ended, lines, good_line, first_bad_line}
use Rattle.selectors.specs.Selecting.{is_known, unknown_from, path_of, no_path, tell_selected, Comes, outside, unsound, unknown, path}

-- where no step is unknown each is known
pub known_each : (ls : List (List ℕ)) (at : ℕ) (ss : List (List ℕ)) → unknown_from ls at ss ≡ None → each (is_known ls) ss ≡ true
unfolding unknown_from each
known_each ls at [] e = refl
known_each ls at (s ∷ ss) e =
    ⊎_elim
    (λ t. rw t (known_each ls (at + length s + 1) ss (rw t at e)))
    (λ t. let lost : Some at ≡ None = rw t at e in let wrong : ◌≡◌ {A = ℕ} 0 1 = cc in absurd (omega arith))
    (went (is_known ls s))

-- and the other way round
pub each-known : (ls : List (List ℕ)) (at : ℕ) (ss : List (List ℕ)) → each (is_known ls) ss ≡ true → unknown_from ls at ss ≡ None
unfolding unknown_from each
each-known ls at [] e = refl
each-known ls at (s ∷ ss) e =
    rw (and_l (is_known ls s) (each (is_known ls) ss) e) (each-known ls (at + length s + 1) ss (and_r (is_known ls s) (each (is_known ls) ss) e))

-- what is accepted: a text of the profile, with a dictionary that has no bad line and each name
pub record Accepts (text d : List ℕ) : Type 0 where
  pub inside : in_profile text ≡ true
  pub sound : first_bad_line d ≡ None
  pub known : each (is_known (lines d)) (steps text) ≡ true

-- a path's numbers are not a refusal's
apart : (n x i : ℕ) → tell_selected (Ok n) ≡ tell_selected (Refused x i) → ⊥
unfolding tell_selected
apart n x i e = let wrong : ◌≡◌ {A = ℕ} 0 2 = ap (λ (t : Told). t.outcome) e in omega arith

-- what a path says of a text and a dictionary
pub record Reads (text d : List ℕ) (n : ℕ) (numbers : List ℕ) : Type 0 where
  pub accepts : Accepts text d
  pub many : n ≡ length (steps text)
  pub path : numbers ≡ path_of (lines d) (steps text)

-- a path comes of what is accepted, and is its steps' numbers
pub reads : {text d : List ℕ} {n : ℕ} {t : Told} {numbers : List ℕ} → Comes text d t numbers → t ≡ tell_selected (Ok n) → Reads text d n numbers
unfolding tell_selected
reads {text} {d} {n} (outside p a e f) g = absurd (apart n 27 p (sym g ∙ e))
reads {text} {d} {n} (unsound k i a e f) g = absurd (apart n 31 k (sym g ∙ e))
reads {text} {d} {n} (unknown p i s a e f) g = absurd (apart n 28 p (sym g ∙ e))
reads {text} {d} {n} (path i s a e f) g =
    record {
      accepts = record { inside = i; sound = s; known = known_each (lines d) 0 (steps text) a };
      many = ap (λ (t : Told). t.count) (sym g ∙ e);
      path = f;
    }

-- the first bad line of a dictionary: it is bad, and none above it is
pub record FirstBad (d : List ℕ) (k : ℕ) : Type 0 where
  pub line : k ≤ ended d
  pub bad : good_line d k ≡ false
  pub above : (j : ℕ) → j < k → good_line d j ≡ true

-- what is found is that line
first-bad : (d : List ℕ) (k : ℕ) → first_bad_line d ≡ Some k → FirstBad d k
unfolding first_bad_line
first-bad d k e =
    let found = first_found (λ j. not (good_line d j)) 0 (suc (ended d)) k e in
    record { line = omega (arith, found.below); bad = not-true (good_line d k) found.passes; above = λ j h. not-false (good_line d j) (found.before j (omega arith) h) }

-- what a refusal says of a text and a dictionary, by its number
pub data Refuses (text d : List ℕ) (x i : ℕ) : Type 0 where
  outside_at : x ≡ 27 → Outside text i → Refuses text d x i
  unsound_at : x ≡ 31 → in_profile text ≡ true → FirstBad d i → Refuses text d x i
  unknown_at : x ≡ 28 → in_profile text ≡ true → first_bad_line d ≡ None → unknown_from (lines d) 0 (steps text) ≡ Some i → Refuses text d x i

-- a refusal has its ground, and no path
pub refuses : {text d : List ℕ} {x i : ℕ} {t : Told} {numbers : List ℕ} → Comes text d t numbers → t ≡ tell_selected (Refused x i) → Refuses text d x i × (numbers ≡ no_path)
unfolding tell_selected
refuses {text} {d} {x} {i} (outside p a e f) g =
    let number : x ≡ 27 = ap (λ (t : Told). t.number) (sym g ∙ e) in
    let place : p ≡ i = ap (λ (t : Told). t.place) (sym e ∙ g) in
    (outside_at number (rw place at a), f)
refuses {text} {d} {x} {i} (unsound k h a e f) g =
    let number : x ≡ 31 = ap (λ (t : Told). t.number) (sym g ∙ e) in
    let place : k ≡ i = ap (λ (t : Told). t.place) (sym e ∙ g) in
    (unsound_at number h (rw place at (first-bad d k a)), f)
refuses {text} {d} {x} {i} (unknown p h s a e f) g =
    let number : x ≡ 28 = ap (λ (t : Told). t.number) (sym g ∙ e) in
    let place : p ≡ i = ap (λ (t : Told). t.place) (sym e ∙ g) in
    (unknown_at number h s (rw place at a), f)
refuses {text} {d} {x} {i} (path h s a e f) g = absurd (apart (length (steps text)) x i (sym e ∙ g))
