-- What reading into a buffer promises: a count that was read is within the buffer.
use Rattle.std.specs.Prelude.{ℕ, ◌≤◌, Result, Ok, Err}
use Rattle.files.specs.declared.Unreadable.{Unreadable}

abbrev pub Within : Result ℕ Unreadable → ℕ → Type 0
Within (Ok n) room = n ≤ room
Within (Err _) room = Unit {0}
