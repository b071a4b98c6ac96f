-- What a run holds, as a state.
use Rattle.std.specs.Prelude.{nat_eq}
use Rattle.std.specs.HashMap.{get}
use Rattle.probe_run.specs.declared.run.Run.{Run}
use Rattle.probe_run.specs.State.{State}

abbrev pub state_of : Run → State
state_of r = record {
  actors = r.actors.items;
  tasks = get nat_eq r.tasks;
  servers = get nat_eq r.servers;
  timers = get nat_eq r.timers;
  runqueues = r.runqueues.items;
  domains = r.domains.items;
  processors = r.processors.items;
  pending = r.pending.items;
  claims = r.claims.items;
  open_dequeues = r.open_dequeues.items;
  early = r.early.items;
  timers_to_arm = r.timers_to_arm.items;
  older_dequeues = r.older_dequeues.items;
  wrote = r.wrote.items;
  now = r.moment;
  open_until = r.open_until;
  amid_until = r.amid_until;
  first = r.findings.first;
}
