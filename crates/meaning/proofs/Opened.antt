-- One name that unfolds every definition an example computes with: a proof says `unfolding opened`.
use Rattle.calendar.specs.Gregorian.{leap, year_lengths, month_length, month_day, month_start, month_from, month_on}
use Rattle.meaning.specs.Walk.{any, count, pick, first, listed, place}
use Rattle.meaning.specs.Bytes.{signed}
use Rattle.meaning.specs.Order.{earliest, in_order}
use Rattle.meaning.specs.Block.{check_from, check, all_zero, check_fits, header_fits, rest_zero, read_block, size_fits, image_tests, records, record_of, blocks_for, share, blocks_of}
use Rattle.meaning.specs.Document.{of_nodes, version_of}
use Rattle.meaning.specs.Nodes.{node_in, nodes_of, doc_of, item_fields, version_fields, node_fields, parent_fits, items_up, depth, read_record, early, leaves, misplaced, share_day, overlap, clash, clashes, whole_from, whole, document_tests, accept, read_nodes, image_of}
use Rattle.meaning.specs.Lent.{nodes_lent, read_lent}
use Rattle.meaning.specs.Rules.{by_kind, rule_in, spare_in, path_fits, distinct_fits, field_fits, referred_fits, bounds_fit, window_fits, rule_fields, rules_of, read_rule, refers_well, table_tests, read_rules}
use Rattle.meaning.specs.Select.{path_to, selected, field_of, reads_own, reads, valued, is_nil, is_number, same_value, within, present, gives, has_nil, has}
use Rattle.meaning.specs.Day.{alive, reached, present_on, slice, values, shares_only, taken, key, unique, reference, cardinality, datatype, breaks, offends, offender, is_change, change_days, first_failing, on_days}
use Rattle.meaning.specs.Window.{shortened, meets, valueless, shares, shared_in, key_in, reference_in, under, counts, cardinality_in, follows, jumps, datatype_in, breaks_in, offends_in, offender_in, windows_from, windows_by, windows, judge, in_windows}
use Rattle.meaning.specs.Answer.{judged, read_verdict, verdict, storing, read_slice, slice_answer, slice_lent, read_changes, changes_of, changes_answer, changes_lent, sequenced_verdict, read_write, write_answer, write_image, tell_verdict, tell_listed, tell_reading, tell_output}
use Rattle.meaning.proofs.Over.{over}
use Rattle.meaning.proofs.Hops.{elem, nearer, next_in, hops, marks, change_by, hop_days}
use Rattle.meaning.proofs.Decoded.{decoded_answer}
use Rattle.meaning.proofs.Pinning.{read_answer}
use Rattle.meaning.proofs.Asking.{answer, quick_days, quick_judged, quick_verdict, quick_changes, quick_answer}

unfoldable pub opened : Unit {0}
unfolding by_kind leap year_lengths month_length month_day month_start month_from month_on any count pick first listed place signed earliest in_order check_from check all_zero check_fits header_fits rest_zero read_block size_fits image_tests records record_of blocks_for share blocks_of of_nodes version_of node_in nodes_of doc_of item_fields version_fields node_fields parent_fits items_up depth read_record early leaves misplaced share_day overlap clash clashes whole_from whole document_tests accept read_nodes image_of nodes_lent read_lent rule_in spare_in path_fits distinct_fits field_fits referred_fits bounds_fit window_fits rule_fields rules_of read_rule refers_well table_tests read_rules path_to selected field_of reads_own reads valued is_nil is_number same_value within present gives has_nil has alive reached present_on slice values shares_only taken key unique reference cardinality datatype breaks offends offender is_change change_days first_failing on_days shortened meets valueless shares shared_in key_in reference_in under counts cardinality_in follows jumps datatype_in breaks_in offends_in offender_in windows_from windows_by windows judge in_windows judged read_verdict verdict storing read_slice slice_answer slice_lent read_changes changes_of changes_answer changes_lent sequenced_verdict read_write write_answer write_image tell_verdict tell_listed tell_reading tell_output over elem nearer next_in hops marks change_by hop_days decoded_answer read_answer answer quick_days quick_judged quick_verdict quick_changes quick_answer
opened = tt
