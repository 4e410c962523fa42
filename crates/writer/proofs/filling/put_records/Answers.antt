-- `writer::filling::put_records` meets its contract: after each turn the bytes of one record more stand behind the header.
use mathlib.Core.Path.{◌≡◌, ap}
use Prim.Native.Nat.{ℕ}
use native.Mathlib.Omega.{arith}
use Rattle.meaning.specs.Walk.{listed}
use Rattle.meaning.specs.Block.{joined}
use Rattle.meaning.specs.Nodes.{node_bytes}
use Rattle.writer.specs.Filling.{bytes_from}
use Rattle.document.specs.Front.{held}
use Rattle.writer.proofs.Puts.{put_as}
use Rattle.writer.proofs.Fillings.{bytes-twenty, joined-none, joined-put}
use Rattle.writer.proofs.filling.put_records.Goals as goal

pub loop-k-init : goal.loop-k-init
loop-k-init c = joined-none 20 _ (λ k. bytes-twenty _)

pub loop-k-preserved : goal.loop-k-preserved
loop-k-preserved c =
    joined-put 20 (bytes_from (held c.args.records) c.args.first) (λ k. bytes-twenty _) c.loop-k.invariant c.put_record.ensures (ap node_bytes c.node_at.ensures)

pub returns : goal.returns
returns c =
    let l = c.loop-k in
    let all : l.k ≡ c.args.m = omega arith in
    put_as l.invariant (ap (λ (n : ℕ). joined (listed (bytes_from (held c.args.records) c.args.first) 0 n)) all)
