-- How far back a window must reach for a field version to offend a datatype rule, and what that is worked out from.
use Rattle.std.specs.Prelude.{◌≡◌, Bool, true, ◌&&◌, ◌||◌, not, List, ℕ, ◌≤◌, ◌<◌, ltb, length, get_or}
use Rattle.meaning.specs.declared.Rule.{Rule}
use Rattle.meaning.specs.Walk.{any}
use Rattle.meaning.specs.Document.{Doc, number_of}
use Rattle.meaning.specs.Select.{is_number}
use Rattle.meaning.specs.Window.{jumps}
use Rattle.prepare.specs.Rows.{in_row}

-- everything is present: what holds of no window in particular
abbrev pub always : ℕ → Bool
always v = true

-- f, of item number n, is no number, or follows with a wrong step one that ends after day a
unfoldable pub wrong_under : Doc → Rule → ℕ → ℕ → ℕ → Bool
wrong_under doc r f a n = not (is_number doc f) || any (λ g. jumps doc always r n f g && ltb a (doc.end g)) 0 doc.size

-- so for the item number in whose row f is
unfoldable pub wrong_after : Doc → Rule → ℕ → ℕ → Bool
wrong_after doc r f a = any (λ v. in_row doc r v f && wrong_under doc r f a (number_of doc v)) 0 doc.size

-- entry f is above a, the first day of a window, exactly where f is wrong in it
pub record Reaches (doc : Doc) (r : Rule) (reach : List ℕ) : Type 0 where
  pub room : doc.size ≤ length reach
  pub above : (f a : ℕ) → f < doc.size → a ≤ 36524 → ltb a (get_or reach f 0) ≡ wrong_after doc r f a

-- by the lists, record f shares a day with the window from..to and its reach lies after the first day
abbrev pub stepped : List ℕ → List ℕ → List ℕ → ℕ → ℕ → ℕ → Bool
stepped begins ends reach from to f = ltb (get_or begins f 0) to && ltb from (get_or ends f 0) && ltb from (get_or reach f 0)
