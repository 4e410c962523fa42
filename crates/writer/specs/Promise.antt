-- What the call `write_nodes` promises of its answer x and of the lent image `after`wards: those of the meaning, told by 01's number and values.
use Rattle.std.specs.Prelude.{◌≡◌, List, ℕ, Result}
use Rattle.meaning.specs.declared.Refusal.{Refusal}
use Rattle.meaning.specs.Lent.{Lent}
use Rattle.meaning.specs.Answer.{tell_output, write_answer, write_image}

abbrev pub WritePromise : ℕ → Lent → List ℕ → Result ℕ Refusal → List ℕ → Type 0
WritePromise n c image x after = (tell_output x ≡ tell_output (write_answer n c image)) × (after ≡ write_image n c image)
