use Rattle.size_jobs.specs.Taking.{tasks_of}
use Rattle.size_report.specs.Options.{said_by}
use Rattle.size_report.specs.inside.Sections.{sections_in}
use Rattle.size_report.proofs.AnswerLemmas.{task_more}
use Rattle.size_report.proofs.sections.sections_of.Goals as goal

pub loop-asked-preserved : goal.loop-asked-preserved
loop-asked-preserved c =
    task_more (said_by c.args.options.now) (tasks_of c.args.record.now.tasks) c.deref-asked-items.result.now c.loop-asked.asked-index _ (sections_in c.loop-asked.sections) (sections_in c.put_task.new.sections) c.loop-asked-test.true c.loop-asked.invariant c.in_ok-put_task.ensures
