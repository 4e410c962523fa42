-- WHAT IS PROVED OF READING A SELECTOR, for every text, every dictionary and every result that the promise of `read_selector` allows.
use Rattle.std.specs.Prelude.{Ok}
use mathlib.Core.Path.{◌≡◌, refl, ap, ◌∙◌}
use mathlib.Core.Logic.{◌↔◌}
use mathlib.Core.Bool.{true}
use mathlib.Core.List.{List}
use Prim.Native.Nat.{ℕ}
use native.Mathlib.Omega.{arith}
use lib.ListN.{length}
use Rattle.meaning.specs.declared.Rule.{Rule}
use Rattle.meaning.specs.Rules.{path_fits}
use Rattle.meaning.specs.Reading.{Refused}
use Rattle.selectors.specs.declared.Selector.{Selector}
use Rattle.selectors.specs.Profile.{steps, in_profile, Outside}
use Rattle.selectors.specs.Dictionary.{lines}
use Rattle.selectors.specs.Selecting.{no_path, tell_selected, path, SelectorPromise}
use Rattle.selectors.specs.Scan.{scan}
use Rattle.selectors.proofs.Profiles as profiles
use Rattle.selectors.proofs.Filling.{few-steps}
use Rattle.selectors.proofs.Selects.{all-entries}
use Rattle.selectors.proofs.Unique as unique
use Rattle.selectors.proofs.Joining as joining
use Rattle.selectors.proofs.Joining.{Joined}
use Rattle.selectors.proofs.Grounds.{each-known, Accepts, Reads, reads, Refuses, refuses}
use Rattle.selectors.proofs.RulePaths.{path-fits_lem}

-- two results are equal
pub one-result : {text d : List ℕ} (r s : Selector) → SelectorPromise text d r → SelectorPromise text d s → r ≡ s
one-result = unique.selector_unique

-- a text is in the profile exactly when it is one to eight steps joined by slashes
pub profile_joined : (text : List ℕ) → (in_profile text ≡ true) ↔ Joined text
profile_joined = joining.profile_joined

-- what the scan answers is right: outside the profile at that place, by the request's own sentence, or in it; and 27 has no other place
pub scan-right : (text : List ℕ) → profiles.Right text (scan 0 8 0 text)
scan-right = profiles.scan-right

pub one_place : {text : List ℕ} {p q : ℕ} → Outside text p → Outside text q → p ≡ q
one_place = unique.outside-unique

module _ {text d : List ℕ} (r : Selector) (p : SelectorPromise text d r) where
  -- WHAT COMES BACK is the path of the steps, and how many there are
  pub path-back : {n : ℕ} → r.answer ≡ Ok n → Reads text d n r.path
  path-back e = reads p (ap tell_selected e)

  -- ACCEPTED EXACTLY WHEN the text is in the profile, the dictionary is sound and has each name
  pub accepted-exactly : ((n : ℕ) × (r.answer ≡ Ok n)) ↔ Accepts text d
  accepted-exactly = (λ e. (path-back e.1).accepts, back)
    where
      back : Accepts text d → (n : ℕ) × (r.answer ≡ Ok n)
      back a =
          let told = path a.inside a.sound (each-known (lines d) 0 (steps text) a.known) refl refl in
          (length (steps text), unique.told-unique r.answer (Ok (length (steps text))) (unique.comes-unique p told).0)

  -- A REFUSAL has its ground by its number, an unsound dictionary its first bad line for a place, and no path stands beside it
  pub refused_exactly : {x i : ℕ} → r.answer ≡ Refused x i → Refuses text d x i × (r.path ≡ no_path)
  refused_exactly e = refuses p (ap tell_selected e)

  -- A RULE RECORD with the path and the length that come back passes the path test of 25
  pub rule_path : {n : ℕ} → r.answer ≡ Ok n → (rule : Rule) → rule.path ≡ r.path → rule.steps ≡ n → path_fits rule ≡ true
  unfolding lines
  rule_path e rule f g =
      let b = path-back e in
      path-fits_lem (lines d) (all-entries d b.accepts.sound).sound (steps text) b.accepts.known (omega arith) (few-steps text b.accepts.inside) rule (f ∙ b.path) (g ∙ b.many)
