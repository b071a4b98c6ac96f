use Rattle.std.proofs.Common.{refl, ◌∙◌, arith}
use Rattle.convert_facts.specs.Keeping.{given_text, tasks_text}
use Rattle.convert_facts.proofs.GivenLemmas.{changed_map, unchanged}
use Rattle.convert_facts.proofs.tasks.GivenTasks.show.Goals as goal

pub returns-then-is_some-clause-tasks : goal.returns-then-is_some-clause-tasks
returns-then-is_some-clause-tasks c =
    changed_map given_text (λ t. t) c.settle-index.new.self.given.items c.in-Some.i _ c.index_mut-given.result.now (omega (arith, c.in-Some.ensures.bound, c.settle-index.new.self.given.ok.0)) c.index_mut-given.ensures.value refl
    ∙ (unchanged c.in-Some.i (tasks_text c.settle-index.new.self) ∙ c.settle-index.ensures.tasks)

pub returns-clause-tasks : goal.returns-clause-tasks
returns-clause-tasks c =
    changed_map given_text (λ t. t) c.settle-index.new.self.given.items c.in-Some.i _ c.index_mut-given.result.now (omega (arith, c.in-Some.ensures.bound, c.settle-index.new.self.given.ok.0)) c.index_mut-given.ensures.value refl
    ∙ (unchanged c.in-Some.i (tasks_text c.settle-index.new.self) ∙ c.settle-index.ensures.tasks)
