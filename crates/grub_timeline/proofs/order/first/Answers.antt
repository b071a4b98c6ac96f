use Rattle.std.proofs.Common.{◌+◌, ap, sym, ◌∙◌, subst, arith}
use Rattle.grub_timeline.specs.inside.Merge.{IsLeader, leader_of}
use Rattle.grub_timeline.proofs.Sooner.{leader_next, leads_all, leads_now}
use Rattle.grub_timeline.proofs.order.first.Goals as goal

pub loop-r-preserved : goal.loop-r-preserved
loop-r-preserved c =
    let scripts = c.args.plan.now.scripts in let done = c.args.done.now in let n = c.loop-r.r in let lead = c.loop-r.lead in let was = c.loop-r.invariant in
    record {
      leads = subst (IsLeader scripts done (n + 1)) (sym (c.leader-lead.ensures.value ∙ ap (leader_of lead n) c.head.ensures)) (leader_next scripts done n lead was.before was.leads);
      before = c.leader-lead.ensures.before;
    }

pub returns-clause-none : goal.returns-clause-none
returns-clause-none c =
    let over = c.loop-r-test.false in let within = c.loop-r.auto.r-end in let count = c.files-r-end.ensures.count in
    leads_all c.args.plan.now.scripts c.args.done.now c.loop-r.r c.loop-r.lead (omega (arith, over, within, count)) c.loop-r.invariant.leads

pub returns-clause-next : goal.returns-clause-next
returns-clause-next c = leads_now c.args.plan.now.scripts c.args.done.now c.loop-r.r c.loop-r.lead c.loop-r.invariant.before c.loop-r.invariant.leads
