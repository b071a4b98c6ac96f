use Rattle.std.proofs.Common.{◌∙◌}
use Rattle.std.proofs.lemmas.List.Elements.{All-get_or}
use Rattle.grub_timeline.specs.Fitting.{IsToldIn}
use Rattle.grub_views.proofs.Counting.{task_there}
use Rattle.grub_views.proofs.sums.count_all.Goals as goal

pub count_task-requires-clause-there : goal.count_task-requires-clause-there
count_task-requires-clause-there c =
    task_there c.args.book.now.setup c.loop-x.book.records _ c.step_after-step.result _
    (All-get_or (IsToldIn c.args.book.now.setup) c.args.told.now c.loop-x.x-index _ c.loop-x-test.true c.requires.fits)
    (rw c.loop-x.invariant.setup at c.step_after-step.ensures.value) (c.loop-x.invariant.tasks ∙ c.requires.tasks)

pub loop-x-preserved : goal.loop-x-preserved
loop-x-preserved c = record {
  setup = c.step_after-step.ensures.setup ∙ c.loop-x.invariant.setup;
  tasks = c.count_task.ensures.len ∙ c.loop-x.invariant.tasks;
  queues = c.count_queues.ensures.len ∙ c.loop-x.invariant.queues;
  tallies = c.count_task.ensures.within c.loop-x.x-index c.loop-x.invariant.tallies;
  meters = c.count_queues.ensures.within c.loop-x.x-index c.loop-x.invariant.meters;
}
