-- The pinned examples in one list and one statement: what the definitions answer to each is what documents 01 and 02 say.
use mathlib.Core.Path.{◌≡◌}
use mathlib.Core.List.{List, map, ◌++◌}
use Rattle.meaning.proofs.Pinning.{Pin, given, wanted, Right, ◌also◌}
use Rattle.meaning.proofs.PinnedNodes.{node_blocks, node-blocks, node_records, node-records, node_trees, node-trees}
use Rattle.meaning.proofs.PinnedRules.{on_lone, rule_blocks, rule-blocks, rule_shapes, rule-shapes, rule_numbers, rule-numbers, rule_orders, rule-orders, rule_calls, rule-calls}
use Rattle.meaning.proofs.PinnedDays.{on_deep, paths, paths_right, on_shelf, day_values, day-values, day_lists, day-lists, day_signs, day-signs}
use Rattle.meaning.proofs.PinnedWindows.{on_meter, spans, spans_right, on_holders, window_values, window-values, window_steps, window-steps}
use Rattle.meaning.proofs.PinnedShortened.{spared, asks_now, spared_now}
use Rattle.meaning.proofs.PinnedNils.{on_unknown, nil_days, nil-days, nil_windows, nil-windows, nil_steps, nil-steps}

-- node images and rule images refused, then verdicts and lists of sequenced rules, then verdicts of non-sequenced ones, then both with nils
unfoldable pub pinned : List Pin
pinned =
    node_blocks ++ node_records ++ node_trees
    ++ on_lone rule_blocks ++ on_lone rule_shapes ++ on_lone rule_numbers ++ on_lone rule_orders ++ rule_calls
    ++ on_deep paths ++ on_shelf day_values ++ on_shelf day_lists ++ day_signs
    ++ on_meter spans ++ on_meter (map asks_now spared) ++ on_holders window_values ++ window_steps
    ++ on_unknown nil_days ++ on_unknown nil_windows ++ nil_steps

all_right : Right pinned
unfolding pinned
all_right =
    node-blocks also node-records also node-trees
    also rule-blocks also rule-shapes also rule-numbers also rule-orders also rule-calls
    also paths_right also day-values also day-lists also day-signs
    also spans_right also spared_now also window-values also window-steps
    also nil-days also nil-windows also nil-steps

-- each example carries its two images, its question and the answer it is to have
pub pinned_examples : given pinned ≡ wanted pinned
pinned_examples = all_right.each
