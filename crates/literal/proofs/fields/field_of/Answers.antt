-- `literal::fields::field_of` meets its contract, at each of its three answers.
use Rattle.literal.proofs.Fielding.{item-here, field_self, field_no_version, field_above}
use borrow.Author.Rules.{rules}
use Rattle.literal.proofs.fields.field_of.Goals as goal

pub returns-then-field-eq0 : goal.returns-then-field-eq0
returns-then-field-eq0 c = λ doc r t w. field_self _ _ _ doc r t _ w _ _ c.if-field-eq0.true

pub returns-then-records-f-ne2 : goal.returns-then-records-f-ne2
returns-then-records-f-ne2 c = λ doc r t w. field_no_version _ _ _ doc r t _ w _ _ c.if-field-eq0.false c.if-records-f-ne2.true

pub offset_bounds-records-item : goal.offset_bounds-records-item
offset_bounds-records-item c = search (rules, item-here _ _ _ c.requires.1 _ _ c.if-records-f-ne2.false c.index-item.ensures)

pub bounds-records-item : goal.bounds-records-item
bounds-records-item c = search (rules, item-here _ _ _ c.requires.1 _ _ c.if-records-f-ne2.false c.index-item.ensures)

pub offset_bounds-records-item-2 : goal.offset_bounds-records-item-2
offset_bounds-records-item-2 c = search (rules, item-here _ _ _ c.requires.1 _ _ c.if-records-f-ne2.false c.index-item.ensures)

pub bounds-records-item-2 : goal.bounds-records-item-2
bounds-records-item-2 c = search (rules, item-here _ _ _ c.requires.1 _ _ c.if-records-f-ne2.false c.index-item.ensures)

pub returns : goal.returns
returns c =
    λ doc r t w. field_above _ _ _ doc r t _ w _ _ c.if-field-eq0.false c.if-records-f-ne2.false _ c.index-item.ensures _ c.index.ensures
