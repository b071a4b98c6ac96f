use Rattle.std.proofs.Common.{◌∙◌, refl, string_bytes}
use Rattle.std.proofs.lemmas.Iterator.Adapters.{YieldsList-from_vec}
use Rattle.std.proofs.lemmas.Iterator.Consumers.{YieldsList-end}
use Rattle.grub_trace.proofs.TaskLemmas.{same_names_push, same_names_all}
use Rattle.grub_trace.proofs.read.names.Goals as goal

pub loop-task-preserved : goal.loop-task-preserved
loop-task-preserved c = same_names_push string_bytes (λ t. string_bytes t.name) _ _ _ c.in-Some.task.name c.in-Some.task refl c.loop-task.invariant c.in_ok-push.ensures.items

pub returns-clause-names : goal.returns-clause-names
returns-clause-names c =
    let made = c.into_iter-task-iterator.ensures.into_iter_gives in
    let all = YieldsList-end (YieldsList-from_vec {s = c.into_iter-task-iterator.result} _ made.0 (made.1 ∙ c.args.tasks.ok.0)) c.loop-task.yielded c.loop-task.task-iterator c.loop-task.yielded_by _ c.next.new.self c.in-None.is c.next.ensures.steps in
    same_names_all string_bytes (λ t. string_bytes t.name) _ c.loop-task.yielded _ c.loop-task.invariant all.0
