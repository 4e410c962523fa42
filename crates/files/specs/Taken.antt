-- What reading into a buffer takes from a reader, of the bytes that it is known to have left.
use Rattle.std.specs.Prelude.{◌≡◌, ℕ, ◌<◌, List, length, take, Option, Result, Ok, Err}
use Rattle.std.specs.Io.KnownBytes.{Consumes, Keeps, IsAtEnd}
use Rattle.files.specs.declared.Unreadable.{Unreadable}

-- one read: its bytes are the next ones, and none come, though there is room, only at the end; a read that fails takes none
abbrev pub TakenOnce : Option (List ℕ) → Option (List ℕ) → Result ℕ Unreadable → List ℕ → Type 0
TakenOnce old new (Ok n) buf = Consumes old new (take n buf) × (n ≡ 0 → 0 < length buf → IsAtEnd new)
TakenOnce old new (Err _) buf = Keeps old new

-- as much as the buffer holds: its bytes are the next ones, and there are fewer than it holds only at the end
abbrev pub TakenAll : Option (List ℕ) → Option (List ℕ) → Result ℕ Unreadable → List ℕ → Type 0
TakenAll old new (Ok n) buf = Consumes old new (take n buf) × (n < length buf → IsAtEnd new)
TakenAll old new (Err _) buf = Unit {0}
