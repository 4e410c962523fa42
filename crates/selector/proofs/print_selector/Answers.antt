-- `print_selector` writes the line on the text and the dictionary: the buffer has room for it.
use Rattle.std.proofs.Common.{rules, arith, ◌∙◌}
use Rattle.std.proofs.Math.Nat.{le_trans}
use Rattle.spelling.proofs.Pieces.{puts_whole}
use Rattle.selectors.proofs.Rooms.{selector_room}
use Rattle.selector.proofs.print_selector.Goals as goal

pub write_selector-requires : goal.write_selector-requires
write_selector-requires g c =
    let comes = c.read_selector-selector.ensures in
    record {
      answer = _;
      numbers = _;
      comes = comes;
      line = c.front.ensures ∙ puts_whole c.put_selector-end.ensures (le_trans (selector_room _ comes (search rules) (λ k. search rules)) (omega arith));
    }
