-- What comes of a reading (MEANING 13): accepted, or refused with a number and a place.
use Rattle.std.specs.Prelude.{ℕ, Result, Ok, Err, ⊤}
use Rattle.meaning.specs.declared.Refusal.{Refusal}

abbrev pub Reading : Type 0
Reading = Result ⊤ Refusal

pattern abbrev pub Accepted : Reading
Accepted = Ok _

-- refused, where an answer of any type was asked for
abbrev pub Refused : {A : Type 0} → ℕ → ℕ → Result A Refusal
Refused number place = Err (record { number = number; place = place })
