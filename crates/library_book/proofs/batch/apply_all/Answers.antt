use Rattle.std.proofs.Common.{◌<◌, length, arith}
use Rattle.library_book.proofs.Asking.{asked_more, rest_more}
use Rattle.library_book.proofs.batch.apply_all.Goals as goal

pub loop-i-preserved : goal.loop-i-preserved
loop-i-preserved c =
    let i = c.loop-i.i in
    let there : i < length c.args.asks.now = omega (arith, c.loop-i-test.true, c.min-count.ensures) in
    let room : i < length c.args.replies.now = omega (arith, c.loop-i-test.true, c.min-count.ensures) in
    let kept : i < length c.loop-i.replies = omega (arith, room, c.loop-i.auto.replies) in
    record {
      asked = λ s book.
          let was = c.loop-i.invariant.asked s book in
          asked_more s _ c.args.asks.now i _ _ _ _ _ c.loop-i.replies c.apply.result there kept was (c.apply.ensures.book s was.book) (c.apply.ensures.answer s was.book);
      rest = rest_more c.loop-i.replies c.args.replies.now i c.apply.result kept room c.loop-i.invariant.rest;
    }
