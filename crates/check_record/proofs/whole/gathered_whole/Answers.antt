use Rattle.std.proofs.Common.{◌≡◌, subst, sym}
use Rattle.trace_file.specs.Reading.{IsSoOf}
use Rattle.check_record.specs.Reading.{HasShown}
use Rattle.check_record.specs.Shown.{Shown}
use Rattle.check_record.proofs.whole.gathered_whole.Goals as goal

-- src/whole.rt:55:9
pub returns-then-branch-clause-shown : goal.returns-then-branch-clause-shown
returns-then-branch-clause-shown g c =
    subst (λ (s : Shown). IsSoOf g.O.Fn c.args.opens.now g.N.Fn c.args.read.now c.args.request.path.now (HasShown c.args.options.now c.args.request.keeps_timers s))
    (sym (c.in_ok-end_probes.ensures.shown c.if-branch.true)) c.in_ok-gathering.ensures

-- src/whole.rt:52:1
pub returns-then-branch-2-clause-shown : goal.returns-then-branch-2-clause-shown
returns-then-branch-2-clause-shown g c =
    subst (λ (s : Shown). IsSoOf g.O.Fn c.args.opens.now g.N.Fn c.args.read.now c.args.request.path.now (HasShown c.args.options.now c.args.request.keeps_timers s))
    (sym (c.in_ok-end_probes-2.ensures.shown c.if-branch-2.true)) c.in_ok-gathering-2.ensures
