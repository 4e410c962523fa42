-- `rules::read_records` meets its contract. The invariant: the records from k on give the answer on them all, and of those below k the columns hold what they say.
use mathlib.Core.Path.{refl, ap, ◌∙◌}
use native.Mathlib.Nat.{sub-zero}
use borrow.Author.Rules.{rules}
use lib.ListN.{length-set}
use Rattle.meaning.specs.Rules.{rules_of}
use Rattle.rules.specs.declared.decode.Numbers.{Numbers}
use Rattle.rules.proofs.Walked.{earliest-ends}
use Rattle.rules.proofs.Tables.{row}
use Rattle.rules.proofs.Columns.{kept-none, kept_on, kept-all}
use Rattle.rules.proofs.Answers.{tells, decodes, decodes_as, stops}
use Rattle.rules.proofs.read_records.Goals as goal

pub loop-k-init : goal.loop-k-init
loop-k-init c = (refl, refl, rw sub-zero, kept-none _ _ _)

pub record_in-requires : goal.record_in-requires
record_in-requires c = row c.requires.0 c.loop-k-test.true

pub returns-in-Err-clause-answer : goal.returns-in-Err-clause-answer
returns-in-Err-clause-answer c =
    stops c.args.image.now c.args.n c.loop-k.k c.requires.0 c.loop-k-test.true c.record_in.ensures.bytes c.decode.ensures c.in-Err.is ∙ c.loop-k.invariant.2

pub loop-k-preserved : goal.loop-k-preserved
loop-k-preserved c =
    let inv = c.loop-k.invariant in
    let test = c.loop-k-test.true in
    let sound = c.in-Ok.is in
    let numbers = decodes_as c.args.image.now c.args.n c.loop-k.k c.requires.0 test c.record_in.ensures.bytes c.decode.ensures sound in (
      simp length-set inv.0,
      simp length-set inv.1,
      decodes c.args.image.now c.args.n c.loop-k.k c.requires.0 test c.record_in.ensures.bytes c.decode.ensures sound ∙ inv.2,
      kept_on (rules_of c.args.image.now) c.loop-k.k inv.3 (search rules) (search rules) (ap (λ (x : Numbers). x.kind) numbers) (ap (λ (x : Numbers). x.referred) numbers),
    )

pub returns : goal.returns
returns c =
    record {
      answer = earliest-ends (tells c.args.image.now) c.args.n c.loop-k.k c.loop-k-test.false ∙ c.loop-k.invariant.2;
      kept = λ e. kept-all (rules_of c.args.image.now) c.args.n c.loop-k.auto.k-end c.loop-k-test.false c.loop-k.invariant.3;
    }
