use denote.Param.Send.{sendable}
use Rattle.std.proofs.Common.{rules}
use Rattle.grub_timeline.proofs.Sending.{Playing-send}
use Rattle.grub_views.proofs.beside.play_beside.Goals as goal

pub returns-then-entries-lt-MANY_LINES : goal.returns-then-entries-lt-MANY_LINES
returns-then-entries-lt-MANY_LINES g c = let e = c.play_on.ensures in record {
  work = c.work-done.ensures;
  plan = e.plan;
  told = e.told;
  fewer = e.fewer;
  over = e.over;
  none = e.none;
  within = e.within;
  legal = e.legal;
  answered = e.answered;
  most = e.most;
  few = e.few;
}

pub join_mut-requires-send-F : goal.join_mut-requires-send-F
join_mut-requires-send-F g c κs within = search (sendable, Playing-send) depth 40

pub returns : goal.returns
returns g c = record {
  work = c.join_mut.ensures.1;
  plan = search rules;
  told = search rules;
  fewer = search rules;
  over = search rules;
  none = search rules;
  within = search rules;
  legal = search rules;
  answered = search rules;
  most = search rules;
  few = search rules;
}
