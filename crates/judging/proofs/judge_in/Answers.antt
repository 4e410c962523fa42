-- `judging::judge_in` meets its contract: what the rules pick out is what the verdict is found by.
use borrow.Author.Tests.{eqb-true, eq-eqb}
use Rattle.changes.proofs.Spans.{steps-few}
use Rattle.judging.proofs.Gathering.{roomy, picked_alone, picked_both}
use Rattle.judging.proofs.judge_in.Goals as goal

pub sift-requires : goal.sift-requires
sift-requires g c =
    let p = c.requires in
    let room = roomy p.2.0 in
    let k = p.3.1.known in
    (steps-few _ p.0, room.in_chosen, room.in_rows, room.in_reads, (p.3.0, k.tree, k.values_held, k.judgeable))

pub judge_found-requires : goal.judge_found-requires
judge_found-requires g c =
    let p = c.requires in
    let d = p.3 in
    let k = d.1.known in
    (p.0, p.1, (d.0, d.1, picked_alone {q = c.args.q} (λ e. c.if-r-ne3.true (eqb-true _ 3 e)) (c.sift.ensures d.0 k.tree k.values_held)))

pub returns-then-r-ne3 : goal.returns-then-r-ne3
returns-then-r-ne3 g c =
    λ doc p s.
    c.judge_found.ensures doc p s (picked_alone {q = c.args.q} (λ e. c.if-r-ne3.true (eqb-true _ 3 e)) (c.sift.ensures doc s.known.tree s.known.values_held))

pub sift-requires-2 : goal.sift-requires-2
sift-requires-2 g c =
    let p = c.requires in
    let room = roomy p.2.0 in
    let k = p.3.1.known in
    (steps-few _ (p.1 (eq-eqb _ 3 c.if-r-ne3.false)).0, room.in_left, room.in_others, room.in_helds, (p.3.0, k.tree, k.values_held, k.judgeable))

pub judge_found-requires-2 : goal.judge_found-requires-2
judge_found-requires-2 g c =
    let p = c.requires in
    let d = p.3 in
    let k = d.1.known in
    (p.0, p.1, (d.0, d.1, picked_both (c.sift.ensures d.0 k.tree k.values_held) (c.sift-2.ensures d.0 k.tree k.values_held)))

pub returns : goal.returns
returns g c =
    λ doc p s.
    let k = s.known in
    c.judge_found-2.ensures doc p s (picked_both (c.sift.ensures doc k.tree k.values_held) (c.sift-2.ensures doc k.tree k.values_held))
