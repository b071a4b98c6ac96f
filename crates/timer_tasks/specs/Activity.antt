-- Where a task's bandwidth is, and what is known of its budget.
use Rattle.std.specs.Prelude.{Bool, true, false}
use Rattle.timer_tasks.specs.declared.activity.Activity.{Activity}
use Rattle.timer_tasks.specs.declared.activity.Activity.TheVariants.{Contending}
use Rattle.timer_tasks.specs.declared.activity.Knowledge.{Knowledge}
use Rattle.timer_tasks.specs.declared.activity.Knowledge.TheVariants.{Known, Unseen}

abbrev pub is_awake_of : Activity → Bool
is_awake_of Contending = true
is_awake_of _ = false

abbrev pub is_known_of : Knowledge → Bool
is_known_of Known = true
is_known_of _ = false

abbrev pub is_unseen_of : Knowledge → Bool
is_unseen_of Unseen = true
is_unseen_of _ = false
