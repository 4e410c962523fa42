-- What was written of a text's records is the image of those that it lists.
use Rattle.std.proofs.Common.{◌≡◌, ℕ, List, take, sym, ◌∙◌}
use Rattle.std.specs.Prelude.{Ok, Result}
use Rattle.meaning.specs.declared.Refusal.{Refusal}
use Rattle.meaning.specs.Nodes.{image_of}
use Rattle.typed.specs.declared.TypedRecords.{TypedRecords}
use Rattle.typed.specs.Listing.{text_of}
use Rattle.typed.specs.Entered.{columns_of, Reads}
use Rattle.typed.proofs.Theorems.{image-listed}
use Rattle.bankwrite.specs.Written.{Writes}

pub image-kept : {text : List ℕ} {x : TypedRecords} {n b : ℕ} {before after : List ℕ} {r : Result ℕ Refusal} → Reads text x → x.answer ≡ Ok n → Writes n (columns_of x) before r after → r ≡ Ok b
    → take b after ≡ image_of (text_of text).listed
image-kept {text} {x} {before = before} p e w q = rw w.image (image-listed text x p e before (sym w.answer ∙ q))
