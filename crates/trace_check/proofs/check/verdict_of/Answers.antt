use Rattle.std.proofs.Common.{◌≡◌, Bool, true, false, subst}
use Rattle.trace_file.specs.Reading.{IsSoOf}
use Rattle.check_record.specs.Reading.{HasShown}
use Rattle.check_record.specs.Seen.{shown_in}
use Rattle.trace_check.specs.Timed.{shows_states}
use Rattle.trace_check.proofs.TimedLemmas.{of_unequal, timed_by}
use Rattle.trace_check.proofs.VerdictLemmas.{explained, of_equal}
use Rattle.trace_check.proofs.check.verdict_of.Goals as goal

pub returns : goal.returns
returns g c =
    let made = c.in_ok-gathering.gathering in
    let options = c.args.options.now in
    let beside = shows_states c.args.wanted in
    let shown = subst (λ (b : Bool). IsSoOf g.O.Fn c.args.opens.now g.N.Fn c.args.read.now c.args.wanted.path.now (HasShown options b (shown_in made)))
    c.shows.ensures c.in_ok-gathering.ensures.shown in
    let ended = c.in_ok-gathering.ensures.ended in record {
      agrees = of_equal c.verdict_on.result _ _ c.verdict_on.ensures.agrees
          (explained g.O.Fn c.args.opens.now g.N.Fn c.args.read.now c.args.wanted.path.now options beside made shown ended);
      timed = of_equal c.verdict_on.result _ _ c.verdict_on.ensures.timed
          (timed_by g.O.Fn c.args.opens.now g.N.Fn c.args.read.now c.args.wanted.path.now options beside made true shown);
      differs = of_unequal c.verdict_on.result _ _ c.verdict_on.ensures.differs
          (timed_by g.O.Fn c.args.opens.now g.N.Fn c.args.read.now c.args.wanted.path.now options beside made false shown);
    }
