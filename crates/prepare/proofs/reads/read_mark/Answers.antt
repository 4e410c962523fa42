-- `prepare::reads::read_mark` meets its contract, at each of its three answers.
use Rattle.prepare.proofs.Choosing.{reads-selected, reads-holder, reads_none}
use Rattle.prepare.proofs.reads.read_mark.Goals as goal

pub returns-then-chosen-i-eq1 : goal.returns-then-chosen-i-eq1
returns-then-chosen-i-eq1 c = λ doc rule all m h. reads-selected doc rule _ all _ _ m h _ c.requires.0 c.if-chosen-i-eq1.true

pub returns-then-v-n : goal.returns-then-v-n
returns-then-v-n c =
    λ doc rule all m h. reads-holder doc rule _ all _ _ m h _ c.requires.0 c.if-chosen-i-eq1.false _ c.index-v.ensures c.if-v-n.true

pub returns : goal.returns
returns c =
    λ doc rule all m h. reads_none doc rule _ all _ _ m h _ c.requires.0 c.if-chosen-i-eq1.false _ c.index-v.ensures c.if-v-n.false
