-- `lists::slices::slice_columns` meets its contract: the versions alive are marked, and the marked ones stored.
use Rattle.marks.proofs.Listing.{picked_all}
use Rattle.lists.proofs.Marking.{answer-of, lent_of}
use Rattle.meaning.specs.Day.{alive}
use Rattle.lists.proofs.slices.slice_columns.Goals as goal

pub returns : goal.returns
returns c =
    let a = c.mark_alive in
    let s = c.store_marked in
    let lent = c.args.out.now in record {
      answer = λ doc t w. answer-of _ _ lent (picked_all (alive doc _) doc.size _ _ (a.ensures doc t w) t.size) s.ensures.answer;
      lent = λ doc t w. lent_of _ _ lent (picked_all (alive doc _) doc.size _ _ (a.ensures doc t w) t.size) s.result _ s.ensures.lent;
    }
