use Rattle.std.proofs.lemmas.Result.{on_ok_weaker}
use Rattle.trace_fields.specs.Shown.{shown_text}
use Rattle.size_jobs.proofs.TaskLemmas.{all_told}
use Rattle.size_jobs.proofs.tasks.JobTasks.take.Goals as goal

-- src/tasks.rt:103:5
pub returns : goal.returns
returns c =
    on_ok_weaker c.name.result
    (λ named. all_told (shown_text c.args.shown.now) c.args.told c.args.self.now c.take_step.new.self c.name.new.self c.in_ok-take_step.ensures.tasks c.in_ok-take_step.ensures.named c.name.ensures.tasks named)
    c.name.ensures.named
