use Rattle.std.proofs.Common.{Some, None, is_some, refl, sym, ap, ◌∙◌, arith}
use Rattle.convert_facts.specs.Given.{index_of, index_of_comm}
use Rattle.convert_facts.specs.Keeping.{given_text, tasks_text}
use Rattle.convert_facts.proofs.GivenLemmas.{changed_map, settled_first, settled_second}
use Rattle.convert_facts.proofs.tasks.GivenTasks.settle.Goals as goal

pub returns-then-is_some-clause-tasks : goal.returns-then-is_some-clause-tasks
returns-then-is_some-clause-tasks c =
    changed_map given_text (λ t. record t { sought = None }) c.args.self.now.given.items c.in-Some.i _ c.index_mut-given.result.now (omega (arith, c.in-Some.ensures.bound, c.args.self.now.given.ok.0)) c.index_mut-given.ensures.value refl
    ∙ sym (settled_second (index_of (tasks_text c.args.self.now) c.args.shown.now.pid) (index_of_comm (tasks_text c.args.self.now) c.args.shown.now.comm.now) c.in-Some.i c.args.shown.now.pid (tasks_text c.args.self.now) (ap is_some (sym c.index_of-index.ensures.index) ∙ (sym c.is_some.ensures ∙ c.if-is_some.true)) (sym c.index_of_comm.ensures.index ∙ c.in-Some.is))

pub returns-clause-tasks : goal.returns-clause-tasks
returns-clause-tasks c =
    changed_map given_text (λ t. record t { sought = None; pid = Some c.args.shown.now.pid }) c.args.self.now.given.items c.in-Some.i _ c.index_mut-given.result.now (omega (arith, c.in-Some.ensures.bound, c.args.self.now.given.ok.0)) c.index_mut-given.ensures.value refl
    ∙ sym (settled_first (index_of (tasks_text c.args.self.now) c.args.shown.now.pid) (index_of_comm (tasks_text c.args.self.now) c.args.shown.now.comm.now) c.in-Some.i c.args.shown.now.pid (tasks_text c.args.self.now) (ap is_some (sym c.index_of-index.ensures.index) ∙ (sym c.is_some.ensures ∙ c.if-is_some.false)) (sym c.index_of_comm.ensures.index ∙ c.in-Some.is))
