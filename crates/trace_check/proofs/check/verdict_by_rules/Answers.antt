use Rattle.std.proofs.Common.{◌≡◌, true, false}
use Rattle.trace_check.specs.Timed.{is_by_timers}
use Rattle.trace_check.proofs.TimedLemmas.{not_timed, where_some}
use Rattle.trace_check.proofs.check.verdict_by_rules.Goals as goal

-- by probes
pub returns-in-Some-clause-timed : goal.returns-in-Some-clause-timed
returns-in-Some-clause-timed c =
    let by = where_some c.in_ok-verdict.field-0 c.in-Some.verdict (is_by_timers c.args.options.now c.args.gathering.now ≡ false) c.in-Some.is
    c.in_ok-verdict.ensures.timers in
    λ agrees. not_timed c.args.options.now c.args.gathering.now true by

pub returns-in-Some-clause-differs : goal.returns-in-Some-clause-differs
returns-in-Some-clause-differs c =
    let by = where_some c.in_ok-verdict.field-0 c.in-Some.verdict (is_by_timers c.args.options.now c.args.gathering.now ≡ false) c.in-Some.is
    c.in_ok-verdict.ensures.timers in
    λ differs. not_timed c.args.options.now c.args.gathering.now false by
