-- What a nil does to a rule that takes none, by itself: the rest of what the rule asks is looked at without it.
use Rattle.std.specs.Prelude.{◌≡◌, Bool, ◌&&◌, ◌||◌, ℕ}
use Rattle.meaning.specs.declared.Rule.{Rule}
use Rattle.meaning.specs.Walk.{first, Found}
use Rattle.meaning.specs.Document.{Doc}
use Rattle.meaning.specs.Rules.{is_key, is_reference}
use Rattle.meaning.specs.Select.{present, has_nil}
use Rattle.meaning.specs.Day.{offends}
use Rattle.meaning.specs.Window.{Window, meets, offends_in}

-- version v is selected and present, has a nil, and the rule takes none: it is a key or a reference
unfoldable pub spoils : Doc → (ℕ → Bool) → Rule → ℕ → Bool
spoils doc p r v = (is_key r || is_reference r) && (present doc p r v && has_nil doc p r v)

-- x is the lowest record that passes some test, and what passes it, with what a nil spoils, is all that offends
pub record Aside (doc : Doc) (p : ℕ → Bool) (r : Rule) (offends : ℕ → Bool) (x : Found) : Type 0 where
  pub test : ℕ → Bool
  pub lowest : x ≡ first test 0 doc.size
  pub told : (v : ℕ) → offends v ≡ (test v || spoils doc p r v)

-- the lowest offender as on a day, nils aside, presence being p
abbrev pub AsideOn : Doc → (ℕ → Bool) → Rule → Rule → Found → Type 0
AsideOn doc p q r x = Aside doc p r (offends doc p q r) x

-- the lowest offender of a window, nils aside
abbrev pub AsideIn : Doc → Window → Rule → Rule → Found → Type 0
AsideIn doc w q r x = Aside doc (meets doc w) r (offends_in doc (meets doc w) w q r) x
