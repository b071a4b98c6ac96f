-- The plain numbers of the arithmetic, what they stand for, and the number of what is wrong with them.
use Rattle.std.specs.Prelude.{ℕ, ◌==◌, ◌||◌, nat_lt, is_none, if◌then◌else◌}
use Rattle.grub_book.specs.Bandwidth.{Reservation, Capacity, bandwidth_of}
use Rattle.grub_book.specs.Server.{depleted_of}
use Rattle.grub_book.specs.declared.server.Server.{Server}
use Rattle.grub_book.specs.declared.server.TheConstants.{MOMENT_MAX}
use Rattle.grub_book.specs.declared.event.Reading.{Reading}
use Rattle.grub_book.specs.declared.params.TheConstants.{PERIOD_MAX}
use Rattle.grub_book.specs.declared.queue.TheConstants.{BW_UNIT}
use Rattle.library_book.specs.declared.codes.TheConstants.{DONE, PERIOD_OUT_OF_RANGE, RUNTIME_OUT_OF_RANGE, TOO_SMALL, UMAX_OUT_OF_RANGE, UEXTRA_OUT_OF_RANGE, BUDGET_OUT_OF_RANGE, MOMENT_OUT_OF_RANGE, RUNNING_OUT_OF_RANGE, DEADLINE_OVERFLOW}
use Rattle.library_book.specs.declared.numbers.NdParams.{NdParams}
use Rattle.library_book.specs.declared.numbers.NdCapacity.{NdCapacity}
use Rattle.library_book.specs.declared.numbers.NdServer.{NdServer}
use Rattle.library_book.specs.declared.numbers.NdReading.{NdReading}

abbrev pub reservation_of : NdParams → Reservation
reservation_of p = record { runtime = p.runtime; period = p.period }

abbrev pub capacity_of : NdCapacity → Capacity
capacity_of c = record { most = c.umax; extra = c.uextra }

-- 0 for a reservation that is admitted, else the first of 1, 2 and 3 that holds
abbrev pub reservation_fault : Reservation → ℕ
reservation_fault p =
    if p.period == 0 || nat_lt PERIOD_MAX p.period then PERIOD_OUT_OF_RANGE
    else (if p.runtime == 0 || nat_lt p.period p.runtime then RUNTIME_OUT_OF_RANGE
    else (if bandwidth_of p == 0 then TOO_SMALL
    else DONE))

-- 0 for constants of a runqueue that are admitted, else the first of 4 and 5 that holds
abbrev pub constants_fault : Capacity → ℕ
constants_fault c =
    if c.most == 0 || nat_lt BW_UNIT c.most then UMAX_OUT_OF_RANGE
    else (if nat_lt c.most c.extra then UEXTRA_OUT_OF_RANGE
    else DONE)

abbrev pub reading_of_numbers : NdReading → Reading
reading_of_numbers x = record { running = x.running_bw; this = x.this_bw }

abbrev pub server_of : NdServer → Server
server_of s = record { q = s.budget; d = s.deadline }

-- the budget is not 1 to the runtime
abbrev pub budget_fault : Server → Reservation → ℕ
budget_fault s p = if s.q == 0 || nat_lt p.runtime s.q then BUDGET_OUT_OF_RANGE else DONE

-- the first of two faults
abbrev pub or_else : ℕ → ℕ → ℕ
or_else first second = if first == DONE then second else first

-- 0 for a server of an admitted reservation, else the first of 1, 2, 3 and 60 that holds
abbrev pub server_fault : Server → Reservation → ℕ
server_fault s p = or_else (reservation_fault p) (budget_fault s p)

-- and then 61 for a moment out of range
abbrev pub wake_fault : Server → Reservation → ℕ → ℕ
wake_fault s p m = or_else (server_fault s p) (if nat_lt MOMENT_MAX m then MOMENT_OUT_OF_RANGE else DONE)

-- 0 for constants and a reading that a charge may be made of, else the first of 4, 5 and 62 that holds
abbrev pub charge_fault : Capacity → Reading → ℕ
charge_fault c now = or_else (constants_fault c) (if nat_lt now.this now.running then RUNNING_OUT_OF_RANGE else DONE)

-- 0 for a server that can be depleted so, else the first of 1, 2, 3, 60 and 21 that holds
abbrev pub deplete_fault : Server → Reservation → ℕ → ℕ
deplete_fault s p dq = or_else (server_fault s p) (if is_none (depleted_of s p dq) then DEADLINE_OVERFLOW else DONE)
