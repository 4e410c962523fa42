-- `rules::read_rules` meets its contract: the first of the three passes that refuses, and none.
use Rattle.std.proofs.Common.{◌≡◌, sym, ◌∙◌, subst, rules}
use Rattle.rules.specs.Promises.{RulesPromise}
use Rattle.rules.proofs.Columns.{refers-by}
use Rattle.rules.proofs.Answers.{bad-blocks, bad-record, all_read}
use Rattle.rules.proofs.read_rules.Goals as goal

pub returns-in_err-rule_blocks : goal.returns-in_err-rule_blocks
returns-in_err-rule_blocks c =
    let same : c.from_residual.result ≡ c.rule_blocks.result = search (rules, c.from_residual.ensures, c.in_err-rule_blocks.was) in
    subst (λ x. RulesPromise c.args.image.now x) (sym same) (bad-blocks _ c.rule_blocks.ensures c.in_err-rule_blocks.was)

pub table_size-n-requires : goal.table_size-n-requires
table_size-n-requires c = sym c.rule_blocks.ensures ∙ c.in_ok-rule_blocks.was

pub returns-in_err-read_records : goal.returns-in_err-read_records
returns-in_err-read_records c =
    let same : c.from_residual-in_err-read_records.result ≡ c.read_records.result = search (rules, c.from_residual-in_err-read_records.ensures, c.in_err-read_records.was) in
    subst (λ x. RulesPromise c.args.image.now x) (sym same) (bad-record _ c.rule_blocks.ensures c.in_ok-rule_blocks.was c.table_size-n.ensures.count c.read_records.ensures.answer c.in_err-read_records.was)

pub returns : goal.returns
returns c =
    let count = c.table_size-n.ensures.count in
    let accepted = c.in_ok-read_records.was in
    all_read _ c.rule_blocks.ensures c.in_ok-rule_blocks.was count c.read_records.ensures.answer accepted
    (refers-by _ count (c.read_records.ensures.kept accepted) c.read_references.ensures)
