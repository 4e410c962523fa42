-- What a datatype forbids of one field version.
use Rattle.std.specs.Prelude.{Bool, ◌&&◌, ◌||◌, not, ℕ}
use Rattle.meaning.specs.declared.Rule.{Rule}
use Rattle.meaning.specs.Document.{Doc}
use Rattle.meaning.specs.Select.{is_nil, is_number, within, gives}

-- f gives v a value that is neither a nil nor a number within the bounds
unfoldable pub gives_wrong : Doc → (ℕ → Bool) → Rule → ℕ → ℕ → Bool
gives_wrong doc p r v f = gives doc p r v f && not (is_nil doc f || (is_number doc f && within r (doc.value f)))
