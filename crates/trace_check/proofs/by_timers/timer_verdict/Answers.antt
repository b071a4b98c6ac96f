use Rattle.trace_check.proofs.TimedLemmas.{agreeing, differing, timed}
use Rattle.trace_check.proofs.by_timers.timer_verdict.Goals as goal

-- the play of what was gathered, judged
pub returns : goal.returns
returns c =
    let played = c.in_ok-timed.timed in
    let told = c.in_ok-timed.ensures in
    let judged = c.in_ok-judged.ensures in
    let so = timed c.compared_verdict.result c.args.options.now c.args.gathering.now played.setup played.start played.lines c.in_ok-judged.judged
    c.compared_verdict.ensures judged.judged judged.observed told.lines told.domain told.sums told.unknown told.setup in record {
      timed = agreeing c.compared_verdict.result c.args.options.now c.args.gathering.now so;
      differs = differing c.compared_verdict.result c.args.options.now c.args.gathering.now so;
    }
