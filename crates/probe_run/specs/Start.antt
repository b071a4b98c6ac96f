-- What is known before the first line.
use Rattle.std.specs.Prelude.{ℕ, Some, None, List, [], map}
use Rattle.probe_run.specs.declared.rules.RunStart.{RunStart}
use Rattle.probe_run.specs.declared.rules.StartBw.{StartBw}
use Rattle.probe_run.specs.declared.sums.Runqueue.{Runqueue}
use Rattle.probe_run.specs.State.{State}

-- this_bw with which a runqueue begins
abbrev pub start_runqueue : ℕ → StartBw → Runqueue
start_runqueue until s = record { cpu = s.cpu; this_bw = Some s.this_bw; running_bw = None; extra_bw = None; open_until = until }

abbrev pub start_of : RunStart → State
start_of start = record {
  actors = [];
  tasks = λ pid. None;
  servers = λ cpu. None;
  timers = λ address. None;
  runqueues = map (start_runqueue start.amid_until) start.starts.items;
  domains = [];
  processors = start.processors.items;
  pending = [];
  claims = [];
  open_dequeues = [];
  early = [];
  timers_to_arm = [];
  older_dequeues = [];
  wrote = [];
  now = 0;
  open_until = start.amid_until;
  amid_until = start.amid_until;
  first = None;
}
