-- What an option gives to a task stands above what a note tells of its reservation.
use Rattle.std.specs.Prelude.{Option, Some}
use Rattle.trace_data.specs.declared.note.Policy.{Policy}
use Rattle.trace_data.specs.declared.note.Policy.TheVariants as policy
use Rattle.trace_data.specs.declared.quantities.Parameters.{Parameters}

abbrev pub policy_above_of : Policy → Option Parameters → Policy
policy_above_of (policy.Deadline told) (Some given) = policy.Deadline given
policy_above_of p given = p
