-- `document::records::read_records` meets its contract. The invariant: every record below i was accepted, and `deep` holds their depths.
-- Assumes nothing.
use Prim.Native.Nat.{◌≤◌}
use mathlib.Core.Path.{◌≡◌}
use lib.ListN.{length}
use Rattle.document.specs.Columns.{doc_in}
use Rattle.document.proofs.Seen.{Seen}
use Rattle.document.proofs.records.read_records.Given as goal

abbrev pub invariant-loop-i : goal.invariant-loop-i
invariant-loop-i l = (length l.deep ≡ length l.initial.deep) × (length l.records.kind.now ≤ length l.deep) × Seen (doc_in l.records l.spare) l.deep l.i
