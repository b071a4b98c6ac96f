use Rattle.std.proofs.Common.{Bool, ap}
use Rattle.check_record.specs.Playing.{lines_in}
use Rattle.check_record.specs.Seen.{shown_in, timed_in}
use Rattle.check_record.specs.Timed.{Timed}
use Rattle.check_record.proofs.ShownLemmas.{alike, on_ok, one_more}
use Rattle.check_record.proofs.gathering.Gathering.take_probe.Goals as goal

-- the line is one more, by each part of what is shown
pub returns-clause-shown : goal.returns-clause-shown
unfolding shown_in
returns-clause-shown c =
    let before : Timed = timed_in c.args.self.now in
    on_ok c.take.result (λ lines some dequeues timers.
    alike _ _ _ _ _ _ _ _ _ (one_more (lines_in c.args.self.now.probes) (lines_in c.take.new.self) c.args.line.now lines) dequeues timers
    (ap (λ (b : Bool). record before { probed = b }) some))
    c.take.ensures.lines c.take.ensures.some c.take.ensures.dequeues c.take.ensures.timers
