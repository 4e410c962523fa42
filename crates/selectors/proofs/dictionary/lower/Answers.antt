-- `selectors::dictionary::lower` meets its contract.
use Rattle.selectors.proofs.Classes.{lower-lone, lower-less, lower-more}
use Rattle.selectors.proofs.dictionary.lower.Goals as goal

pub returns-in_default-b : goal.returns-in_default-b
returns-in_default-b c = lower-lone c.in-Err.is c.in_default-b.is

pub returns-then-i-j : goal.returns-then-i-j
returns-then-i-j c = lower-less c.in-Err.is c.in-Err-b.is c.if-i-j.true

pub returns : goal.returns
returns c = lower-more c.in-Err.is c.in-Err-b.is c.if-i-j.false
