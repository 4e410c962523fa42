-- `changes::merging::next_change` meets its contract: the lesser of the two days found is the next change day.
use Rattle.changes.proofs.Merged.{later-found, later-day, come_on, next-found}
use Rattle.changes.proofs.merging.next_change.Goals as goal

pub returns : goal.returns
returns c =
    let i = c.next_turn-begun.ensures in
    let j = c.next_turn-ended.ensures in
    let a = c.day_at-opened.ensures in
    let b = c.day_at-closed.ensures in
    let t = c.min-turned.ensures in
    let u = c.min.ensures in record {
      later = λ l. later-day t u l (later-found i a l) (later-found j b l);
      next = λ doc q r m w l. (come_on doc q r m w l i j a b t u, next-found doc q r m w l i j a b t u);
    }
