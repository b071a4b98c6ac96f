use Rattle.check_settings.proofs.HeadLemmas.{pushed}
use Rattle.check_settings.proofs.head.push_range.Goals as goal

pub loop-cpu-preserved : goal.loop-cpu-preserved
loop-cpu-preserved c =
    pushed c.loop-cpu.cpus.items c.push.new.self.items c.loop-cpu.cpu c.saturating_add-cpu-end.result _ c.in_ok-push.ensures.items c.loop-cpu-test.true c.loop-cpu.invariant
