-- `judging::walking::spoilt_at` meets its contract: a key and a reference are spoilt where there is a nil, other rules nowhere.
use mathlib.Core.Path.{sym}
use borrow.Author.Tests.{not-false}
use Rattle.day.proofs.Settling.{lent_rows}
use Rattle.prepare.proofs.Valued.{low-wants}
use Rattle.soonest.proofs.Spoiling.{nil_kind}
use Rattle.judging.proofs.Lower.{never_spoilt, spoilt_by_nil}
use Rattle.std.proofs.Common.{ap, not}
use Rattle.judging.proofs.walking.spoilt_at.Goals as goal

pub returns-then-not-r : goal.returns-then-not-r
returns-then-not-r c = λ doc at rows s there. never_spoilt doc _ _ c.if-not-r.true

pub nil_in-requires : goal.nil_in-requires
nil_in-requires c =
    let p = c.requires in
    (p.0, _, record { rows = lent_rows c.from.ensures p.1; periods = p.2.periods; represents = p.2.represents }, p.2.vkind, p.2.few)

pub returns : goal.returns
returns c =
    let e = (ap not c.if-not-r.false) in
    λ doc at rows s there.
    spoilt_by_nil doc _ _ (not-false _ e)
    (c.nil_in.ensures doc _ _ (record { rows = lent_rows c.from.ensures rows; periods = s.periods; represents = s.represents }) s.vkind (λ f. low-wants doc _ f (nil_kind _ e)) (sym there.from) (sym there.to))
