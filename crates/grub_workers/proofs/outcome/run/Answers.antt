use Rattle.std.proofs.Common.{length, sym, ap, refl, ◌∙◌}
use Rattle.grub_workers.proofs.ClosingOwners.{all_of, run_of}
use Rattle.grub_workers.proofs.OneFile.{alone_of_run, charges_of_run, only_run, tasks_of_run}
use Rattle.grub_workers.proofs.OwnReports.{answered_own, only_own, whole_own}
use Rattle.grub_workers.proofs.outcome.run.Goals as goal

pub run_scoped-requires-clause-fresh : goal.run_scoped-requires-clause-fresh
run_scoped-requires-clause-fresh g c κs κ = c.in-Ok.ensures.opened.new

pub close-requires : goal.close-requires
close-requires g c = all_of c.in-Ok.shared c.args.tries c.args.plan.now.scripts c.in_ok-done.done.passes.items c.in_ok-done.done.reports.items c.in_ok-done.ensures

pub returns-in-Ok-close-clause-run : goal.returns-in-Ok-close-clause-run
returns-in-Ok-close-clause-run g c =
    let o = c.in-Ok.ensures.opened in let plan = c.args.plan.now in let done = c.in_ok-done.done in
    let setup = o.setup ∙ c.setup.ensures.setup in
    run_of c.in-Ok.shared c.args.tries plan.scripts done.passes.items done.reports.items c.in_ok-done.ensures c.in-Ok-close.closing.items c.in-Ok-close.ensures.closed (o.passes ∙ c.files.ensures.count)
    plan refl (sym setup) (c.setup.ensures.limits.each ∙ ap (λ k. length k.queues) (sym setup))

pub returns-in-Ok-close-clause-tasks : goal.returns-in-Ok-close-clause-tasks
returns-in-Ok-close-clause-tasks g c = tasks_of_run c.args.plan.now c.args.tries c.in_ok-done.done.reports.items c.in-Ok-close.closing.items (returns-in-Ok-close-clause-run g c)

pub returns-in-Ok-close-clause-charges : goal.returns-in-Ok-close-clause-charges
returns-in-Ok-close-clause-charges g c = charges_of_run c.args.plan.now c.args.tries c.in_ok-done.done.reports.items c.in-Ok-close.closing.items (returns-in-Ok-close-clause-run g c)

pub returns-in-Ok-close-clause-alone : goal.returns-in-Ok-close-clause-alone
returns-in-Ok-close-clause-alone g c one some = alone_of_run c.args.plan.now c.args.tries c.in_ok-done.done.reports.items c.in-Ok-close.closing.items one some (returns-in-Ok-close-clause-run g c)

pub returns-in-Ok-close-clause-same : goal.returns-in-Ok-close-clause-same
returns-in-Ok-close-clause-same g c one some = only_run c.args.plan.now c.args.tries c.in_ok-done.done.reports.items c.in-Ok-close.closing.items one some (returns-in-Ok-close-clause-run g c)

pub returns-in-Ok-close-clause-apart : goal.returns-in-Ok-close-clause-apart
returns-in-Ok-close-clause-apart g c some =
    let plan = c.args.plan.now in let reports = c.in_ok-done.done.reports.items in let closing = c.in-Ok-close.closing.items in
    let is_run = returns-in-Ok-close-clause-run g c in record {
      answered = λ i apart. answered_own plan c.args.tries reports closing is_run i apart some;
      only = λ i low apart. only_own plan c.args.tries reports closing some is_run i low apart;
      whole = λ apart. whole_own plan c.args.tries reports closing some is_run apart;
    }
