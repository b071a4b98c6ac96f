use Rattle.std.proofs.Common.{List, Some, refl, sym, ap, ◌∙◌, arith}
use Rattle.convert_facts.specs.Given.{Task, changed_at, disowned, index_of}
use Rattle.convert_facts.specs.Keeping.{given_text, tasks_text}
use Rattle.convert_facts.proofs.GivenLemmas.{changed_map, changed_where_some}
use Rattle.convert_facts.proofs.tasks.GivenTasks.arm.Goals as goal

pub returns-in-Some-clause-tasks : goal.returns-in-Some-clause-tasks
returns-in-Some-clause-tasks c =
    changed_map given_text (λ t. record t { timer = Some c.args.timer }) c.disown.new.self.given.items c.in-Some.i _ c.index_mut.result.now (omega (arith, c.in-Some.ensures.bound, c.disown.new.self.given.ok.0)) c.index_mut.ensures.value refl
    ∙ (ap (λ (ts : List Task). changed_at c.in-Some.i (λ t. record t { timer = Some c.args.timer }) ts) c.disown.ensures
    ∙ sym (changed_where_some (index_of (disowned c.args.timer (tasks_text c.args.self.now)) c.args.pid) c.in-Some.i (λ t. record t { timer = Some c.args.timer }) (disowned c.args.timer (tasks_text c.args.self.now)) (ap (λ (ts : List Task). index_of ts c.args.pid) (sym c.disown.ensures) ∙ (sym c.index_of-index.ensures.index ∙ c.in-Some.is))))
