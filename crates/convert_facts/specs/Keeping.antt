-- What the code holds of a trace, in the words of the definitions.
use Rattle.std.specs.Prelude.{List, map, option_map}
use Rattle.convert_facts.specs.Given.{Task}
use Rattle.convert_facts.specs.Reading.{Gathered}
use Rattle.convert_facts.specs.declared.fact_lines.FactLines.{FactLines}
use Rattle.convert_facts.specs.declared.given.GivenTask.{GivenTask}
use Rattle.convert_facts.specs.declared.tasks.GivenTasks.{GivenTasks}

abbrev pub given_text : GivenTask → Task
given_text given =
    record { sought = option_map (λ v. v.items) given.sought; pid = given.pid; timer = given.timer }

abbrev pub tasks_text : GivenTasks → List Task
tasks_text tasks = map given_text tasks.given.items

abbrev pub gathered_text : FactLines → Gathered
gathered_text lines =
    record { cpus = lines.cpus; processors = lines.processors; greatest_cpu = lines.greatest_cpu; tasks = tasks_text lines.keeper.tasks }
