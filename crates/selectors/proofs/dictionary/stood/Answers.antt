-- `selectors::dictionary::stood` meets its contract.
use mathlib.Core.Path.{sym, ◌∙◌}
use Rattle.selectors.proofs.Sieves.{stood_apart, stood_known, stood_new, took_apart, took_held, took_put, of-class_lem, off_class}
use Rattle.selectors.proofs.dictionary.stood.Goals as goal

pub returns-then-key-classes : goal.returns-then-key-classes
returns-then-key-classes c =
    let apart = off_class _ _ _ c.key_of-key.ensures c.if-key-classes.true in
    record {
      again = stood_apart _ c.requires.0 apart;
      took = took_apart apart;
    }

pub returns-then-holds : goal.returns-then-holds
returns-then-holds c =
    record {
      again = stood_known _ c.requires.0 (of-class_lem _ _ _ c.key_of-key.ensures c.if-key-classes.false) c.number_in.ensures;
      took = took_held c.key_of-key.ensures (sym c.holds.ensures ∙ c.if-holds.true);
    }

pub returns : goal.returns
returns c =
    let key = c.key_of-key.ensures in
    record {
      again = stood_new _ c.requires.0 (of-class_lem _ _ _ c.key_of-key.ensures c.if-key-classes.false) key (sym c.holds.ensures ∙ c.if-holds.false);
      took = took_put _ c.requires.0.room key c.put.ensures;
    }
