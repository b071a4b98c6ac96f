use Rattle.std.proofs.Common.{ap, ◌∙◌, List}
use Rattle.std.specs.List.{position}
use Rattle.convert_facts.specs.declared.given.GivenTask.{GivenTask}
use Rattle.convert_facts.specs.Given.{has_pid}
use Rattle.convert_facts.specs.Keeping.{given_text}
use Rattle.convert_facts.proofs.GivenLemmas.{position_map}
use Rattle.convert_facts.proofs.tasks.GivenTasks.index_of.Goals as goal

pub returns-clause-index : goal.returns-clause-index
returns-clause-index c =
    c.place_of_pid.ensures ∙ (ap (λ (xs : List GivenTask). position (λ g. has_pid c.args.pid (given_text g)) xs) c.deref.ensures.value ∙ position_map (has_pid c.args.pid) given_text c.args.self.now.given.items)
