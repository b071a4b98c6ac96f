-- Memory that a table may be opened for.
use Rattle.std.proofs.Common.{◌<◌, ◌≤◌, List, length, arith}
use Rattle.std.proofs.lemmas.List.{get_or-map, length-map}
use Rattle.grub_book.specs.Machine.{IsMachine}
use Rattle.grub_book.specs.declared.setup.TheConstants.{QUEUES_MAX, TASKS_MAX}
use Rattle.library_book.specs.Memory.{params_of, constants_of, machine_of}
use Rattle.library_book.specs.Limits.{AreConstants, AreReservations}
use Rattle.library_book.specs.declared.memory.NdTask.{NdTask}
use Rattle.library_book.specs.declared.memory.NdRunqueue.{NdRunqueue}

abbrev no_queue : NdRunqueue
no_queue = record { umax = 0; uextra = 0; running_bw = 0; this_bw = 0 }

abbrev no_task : NdTask
no_task = record { runtime = 0; period = 0; budget = 0; deadline = 0; count = 0; state = 0; queue = 0 }

pub IsMachine-made : (tasks : List NdTask) (queues : List NdRunqueue) → 1 ≤ length queues → length queues ≤ QUEUES_MAX → length tasks ≤ TASKS_MAX → AreConstants queues → AreReservations tasks → IsMachine (machine_of tasks queues)
IsMachine-made tasks queues some queues_most tasks_most capacities reservations =
    record {
      queues_some = omega (arith, some, length-map queues constants_of);
      queues_most = omega (arith, queues_most, length-map queues constants_of);
      tasks_most = omega (arith, tasks_most, length-map tasks params_of);
      capacities = λ r inside. let here : r < length queues = omega (arith, inside, length-map queues constants_of) in rw (get_or-map constants_of queues r no_queue _ here) (capacities r no_queue here);
      reservations = λ t inside. let here : t < length tasks = omega (arith, inside, length-map tasks params_of) in rw (get_or-map params_of tasks t no_task _ here) (reservations t no_task here);
    }
