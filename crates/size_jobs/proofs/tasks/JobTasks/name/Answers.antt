use Rattle.std.proofs.Common.{rules}
use Rattle.trace_fields.specs.Shown.{shown_text}
use Rattle.size_jobs.proofs.NameLemmas.{one_named}
use Rattle.size_jobs.proofs.tasks.JobTasks.name.Goals as goal

-- src/tasks.rt:63:5
pub returns-in_ok-insert-clause-named : goal.returns-in_ok-insert-clause-named
returns-in_ok-insert-clause-named c =
    one_named c.args.self.now.named c.insert.new.self c.in_ok-comm.comm (shown_text c.args.shown.now) (search rules) (search rules) c.in_ok-insert.ensures.updates
