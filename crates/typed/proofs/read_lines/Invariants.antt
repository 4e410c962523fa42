-- `typed::read_lines` meets its contract. The invariant: the records of the lines that were read stand in the columns, and what is left is read from here.
use Rattle.meaning.specs.Lent.{lent}
use Rattle.typed.proofs.Filling.{Filling}
use Rattle.typed.proofs.read_lines.Given as goal

abbrev pub invariant-loop-i : goal.invariant-loop-i
invariant-loop-i l = Filling l.text l.from l.count (lent l.initial.kind l.initial.vkind l.initial.name l.initial.parent l.initial.begin l.initial.end l.initial.value l.initial.item) (lent l.kind l.vkind l.name l.parent l.begin l.end l.value l.item) l.at l.i
