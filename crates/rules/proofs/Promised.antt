-- What reading a rule image promises, told by 01's number and values, is what the image's reading is.
use mathlib.Core.Path.{◌≡◌, sym, ◌∙◌}
use mathlib.Core.List.{List}
use Prim.Native.Nat.{ℕ}
use Rattle.meaning.specs.Reading.{Reading}
use Rattle.meaning.specs.Rules.{read_rules}
use Rattle.meaning.proofs.Unique.{reading_unique}
use Rattle.rules.specs.Promises.{RulesPromise}

-- an answer as it came, and what it promises
pub read_as : (image : List ℕ) {x y : Reading} → x ≡ y → RulesPromise image x → read_rules image ≡ y
read_as image {x} e told = sym (reading_unique x (read_rules image) told) ∙ e
