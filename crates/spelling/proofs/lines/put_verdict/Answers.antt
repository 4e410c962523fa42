-- `spelling::lines::put_verdict` meets its contract: each arm spells its own verdict.
use Rattle.std.proofs.Common.{◌≡◌, sym, ap, rules, Ok}
use Rattle.meaning.specs.declared.Verdict.TheVariants.{Holds, Fails}
use Rattle.spelling.specs.Spelled.{word}
use Rattle.spelling.proofs.Pieces.{puts_as, puts_then}
use Rattle.spelling.specs.Lines.{told}
use Rattle.spelling.proofs.lines.put_verdict.Goals as goal

pub returns-in-Ok-Holds : goal.returns-in-Ok-Holds
unfolding told word
returns-in-Ok-Holds c =
    let found : c.args.found ≡ Ok (Holds c.in-Ok-Holds.count) = search (rules, c.in-Ok-Holds.is, c.in-Ok-Holds.field-0-is) in
    puts_as (puts_then c.put-word.ensures c.put_next.ensures) (sym (ap told found))

pub returns-in-Ok-Fails : goal.returns-in-Ok-Fails
unfolding told word
returns-in-Ok-Fails c =
    let v = c.in-Ok-Fails in
    let found : c.args.found ≡ Ok (Fails v.day v.record v.count) = search (rules, v.is, v.field-0-is) in
    puts_as
    (puts_then (puts_then (puts_then c.put-word-in-Ok-Fails.ensures c.put_next-first.ensures) c.put_next-second.ensures) c.put_next-in-Ok-Fails.ensures)
    (sym (ap told found))

pub returns-in-Err : goal.returns-in-Err
unfolding told word
returns-in-Err c = puts_as (puts_then (puts_then c.put-word-in-Err.ensures c.put_next-first-in-Err.ensures) c.put_next-in-Err.ensures) (sym (ap told c.in-Err.is))
