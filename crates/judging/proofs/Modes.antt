-- The verdict on days or in windows is the verdict, by the rule's mode.
use mathlib.Core.Path.{◌≡◌}
use borrow.Author.Tests.{eq-eqb, ne_eqb}
use Rattle.meaning.specs.declared.Rule.{Rule}
use Rattle.meaning.specs.Document.{Doc}
use Rattle.meaning.specs.Day.{on_days}
use Rattle.meaning.specs.Window.{in_windows}
use Rattle.meaning.specs.Answer.{judged}

module _ (doc : Doc) (q r : Rule) where
  pub judged-days : r.windowed ≡ 0 → on_days doc q r ≡ judged doc q r
  unfolding judged
  judged-days e = let s = eq-eqb r.windowed 0 e in rw s

  pub judged-windows : (r.windowed ≡ 0 → ⊥) → in_windows doc q r ≡ judged doc q r
  unfolding judged
  judged-windows n = let s = ne_eqb r.windowed 0 n in rw s
