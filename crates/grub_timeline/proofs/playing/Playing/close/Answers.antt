use Rattle.std.proofs.Common.{◌≡◌, length, ap, sym, subst, ◌∙◌}
use Rattle.grub_timeline.specs.TimeLines.{AreWithin, IsTimeLine, PlayState}
use Rattle.grub_timeline.proofs.Ending.{time_line_of}
use Rattle.grub_timeline.proofs.Left.{no_head}
use Rattle.grub_timeline.proofs.Merging.{played_of}
use Rattle.grub_timeline.proofs.Moments.{moments_rise}
use Rattle.grub_timeline.proofs.OneFile.{one_run}
use Rattle.grub_timeline.proofs.Only.{only_one}
use Rattle.grub_timeline.proofs.playing.Playing.close.Goals as goal

pub returns-clause-time_line : goal.returns-clause-time_line
returns-clause-time_line c =
    let x = c.self.inside in let mid = c.self.invariant.midway in let closing = c.fill_readings.new.readings.items in
    let played = played_of x.plan.now x.player x.done.items mid (no_head x.plan.now.scripts x.done.items mid.one_each (ap (λ (w : PlayState). w.left) c.self.view_is ∙ c.requires.over)) in
    subst (λ (w : PlayState). IsTimeLine w.plan w.told closing) c.self.view_is (time_line_of x.plan.now x.player closing played c.fill_readings.ensures)

pub returns-clause-only : goal.returns-clause-only
returns-clause-only c = only_one c.args.self.plan c.args.self.told c.fill_readings.new.readings.items (returns-clause-time_line c)

pub returns-clause-moments : goal.returns-clause-moments
returns-clause-moments c = moments_rise c.args.self.plan c.args.self.told c.fill_readings.new.readings.items (returns-clause-time_line c)

pub returns-clause-one_file : goal.returns-clause-one_file
returns-clause-one_file c = λ one.
    let x = c.self.inside in let mid = c.self.invariant.midway in
    let plan = ap (λ (w : PlayState). w.plan) c.self.view_is in
    let within : AreWithin c.args.self.plan.setup c.args.self.told =
    subst (λ (w : PlayState). AreWithin w.plan.setup w.told) c.self.view_is (subst (λ s. AreWithin s x.player.told.items) mid.setup mid.playing.told.within) in
    let queues : length c.args.self.plan.setup.queues ≡ length c.args.self.plan.scripts = subst (λ (w : PlayState). length w.plan.setup.queues ≡ length w.plan.scripts) c.self.view_is (sym c.files.ensures.limits.each) in
    one_run c.args.self.plan c.args.self.told c.fill_readings.new.readings.items (queues ∙ one) one (returns-clause-time_line c) within
