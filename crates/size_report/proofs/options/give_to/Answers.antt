use Rattle.std.proofs.Common.{[], None}
use Rattle.size_report.proofs.OptionLemmas.{given_at, none_waits}
use Rattle.size_report.specs.declared.options.AskedTask.{AskedTask}
use Rattle.size_report.proofs.options.give_to.Goals as goal

nobody : AskedTask
nobody = record { name = record { ref_ptr = (0, 0); now = [] }; period = None; runtime = None; within = None }

pub returns-in_default-clause-given : goal.returns-in_default-clause-given
returns-in_default-clause-given c = none_waits c.args.name.now c.args.within c.args.tasks.now nobody c.in_default.ensures.value

pub returns-clause-given : goal.returns-clause-given
returns-clause-given c = given_at c.args.name.now c.args.within c.args.tasks.now _ c.in-Some.i c.in-Some.ensures.value
