use Rattle.std.proofs.Common.{None, refl, sym, ◌∙◌, arith}
use Rattle.convert_facts.specs.Given.{index_of_timer}
use Rattle.convert_facts.specs.Keeping.{given_text, tasks_text}
use Rattle.convert_facts.proofs.GivenLemmas.{changed_map, changed_where_some}
use Rattle.convert_facts.proofs.tasks.GivenTasks.disown.Goals as goal

pub returns-in-Some : goal.returns-in-Some
returns-in-Some c =
    changed_map given_text (λ t. record t { timer = None }) c.args.self.now.given.items c.in-Some.i _ c.index_mut.result.now (omega (arith, c.in-Some.ensures.bound, c.args.self.now.given.ok.0)) c.index_mut.ensures.value refl
    ∙ sym (changed_where_some (index_of_timer (tasks_text c.args.self.now) c.args.timer) c.in-Some.i (λ t. record t { timer = None }) (tasks_text c.args.self.now) (sym c.index_of_timer.ensures.index ∙ c.in-Some.is))
