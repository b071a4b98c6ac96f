use Rattle.std.proofs.Common.{ap, ◌∙◌, List}
use Rattle.std.specs.List.{position}
use Rattle.convert_facts.specs.declared.given.GivenTask.{GivenTask}
use Rattle.convert_facts.specs.Given.{has_timer}
use Rattle.convert_facts.specs.Keeping.{given_text}
use Rattle.convert_facts.proofs.GivenLemmas.{position_map}
use Rattle.convert_facts.proofs.tasks.GivenTasks.index_of_timer.Goals as goal

pub returns-clause-index : goal.returns-clause-index
returns-clause-index c =
    c.place_of_timer.ensures ∙ (ap (λ (xs : List GivenTask). position (λ g. has_timer c.args.timer (given_text g)) xs) c.deref.ensures.value ∙ position_map (has_timer c.args.timer) given_text c.args.self.now.given.items)
