-- `prepare::rows::key` meets its contract, at each of its four answers.
use Rattle.prepare.proofs.Keying.{key-unwanted, key-unheld, key-held, key-unchosen}
use Rattle.std.proofs.Common.{ap, not}
use Rattle.prepare.proofs.rows.key.Goals as goal

pub returns-then-not-wanted : goal.returns-then-not-wanted
returns-then-not-wanted c = let p = c.requires in λ doc rule all m h w. key-unwanted doc rule _ all p.1 _ _ m h _ p.0 _ w (ap not c.if-not-wanted.true)

pub returns-then-n-v : goal.returns-then-n-v
returns-then-n-v c =
    let p = c.requires in
    λ doc rule all m h w. key-unheld doc rule _ all p.1 _ _ m h _ p.0 _ w (ap not c.if-not-wanted.false) _ c.index-v.ensures c.if-n-v.true

pub returns-then-chosen-v-eq1 : goal.returns-then-chosen-v-eq1
returns-then-chosen-v-eq1 c =
    let p = c.requires in
    λ doc rule all m h w. key-held doc rule _ all p.1 _ _ m h _ p.0 _ w (ap not c.if-not-wanted.false) _ c.index-v.ensures c.if-n-v.false c.if-chosen-v-eq1.true

pub returns : goal.returns
returns c =
    let p = c.requires in
    λ doc rule all m h w. key-unchosen doc rule _ all p.1 _ _ m h _ p.0 _ w (ap not c.if-not-wanted.false) _ c.index-v.ensures c.if-n-v.false c.if-chosen-v-eq1.false
