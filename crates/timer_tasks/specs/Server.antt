-- The fair server of a runqueue: dl_server_start, dl_server_timer, __pick_task_dl, dl_server_stop, inactive_task_timer.
use Rattle.std.specs.Prelude.{Bool, true, false}
use Rattle.timer_tasks.specs.declared.server.ServerState.{ServerState}
use Rattle.timer_tasks.specs.declared.server.ServerState.TheVariants.{Stopped, Fired, Stopping}

abbrev pub is_stopped_of : ServerState → Bool
is_stopped_of Stopped = true
is_stopped_of _ = false

-- its timer fires
abbrev pub after_fire_of : ServerState → ServerState
after_fire_of Stopped = Stopped
after_fire_of _ = Fired

-- it is picked and has no task
abbrev pub after_idle_of : ServerState → ServerState
after_idle_of Fired = Stopped
after_idle_of s = s

-- its 0-lag timer fires
abbrev pub after_lag_of : ServerState → ServerState
after_lag_of Stopping = Stopped
after_lag_of s = s

-- a fair task wakes
abbrev pub after_wake_of : ServerState → ServerState
after_wake_of Stopped = Fired
after_wake_of s = s

-- its timer is cancelled, where it stops with its last task
abbrev pub after_cancel_of : ServerState → ServerState
after_cancel_of Stopping = Stopping
after_cancel_of _ = Stopped
