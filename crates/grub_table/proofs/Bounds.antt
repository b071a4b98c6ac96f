-- Words have at most 64 bits, and the values of a sound book have words.
use Rattle.std.proofs.Common.{ℕ, ◌^◌, ◌<◌, ◌≤◌, Bool, length, arith, le_trans}
use Rattle.grub_book.specs.declared.rules.TheConstants.{COUNT_MAX}
use Rattle.grub_book.specs.Bandwidth.{Reservation, IsReservation, IsCapacity}
use Rattle.grub_book.specs.declared.server.Server.{Server}
use Rattle.grub_book.specs.Machine.{Machine, IsMachine, queue_at}
use Rattle.grub_book.specs.Sums.{Records, reading_of}
use Rattle.grub_book.specs.Sound.{IsKept, IsSound, IsThere}
use Rattle.grub_book.specs.declared.event.Reading.{Reading}
use Rattle.grub_book.specs.declared.place.Place.{Place}
use Rattle.grub_book.specs.declared.place.Place.TheVariants.{Away, Gone, On}
use Rattle.grub_book.specs.declared.place.Record.{Record}
use Rattle.grub_book.proofs.Tallies.{running_le_this}
use Rattle.grub_table.specs.Words.{queue_word, server_word, params_word, task_word, QueueFits, ServerFits, PlaceFits}
use Rattle.grub_table.proofs.Tasks.{state_code-lt, claim_bit-lt, queue_code-lt}

pub queue_word-lt : (now : Reading) → QueueFits now → queue_word now < 2 ^ 64
unfolding queue_word
queue_word-lt now fits = let h = fits.running in let k = fits.this in omega arith

pub server_word-lt : (s : Server) → ServerFits s → s.d < 2 ^ 32 → server_word s < 2 ^ 64
unfolding server_word
server_word-lt s fits deadline = let h = fits.most in omega arith

pub params_word-lt : (p : Reservation) → IsReservation p → params_word p < 2 ^ 64
unfolding params_word
params_word-lt p is = let h = is.runtime.1 in let k = is.period.1 in omega arith

pub task_word-lt : (place : Place) (count : ℕ) (claimed : Bool) → PlaceFits place → count ≤ COUNT_MAX → task_word place count claimed < 2 ^ 36
unfolding task_word
task_word-lt place count claimed fits most =
    let s = state_code-lt place in
    let c = claim_bit-lt claimed in
    let q = queue_code-lt place fits in
    omega arith

pub QueueFits-sound : (s : Machine) (book : Records) (r : ℕ) → IsSound s book → r < length s.queues → IsCapacity (queue_at s r) → QueueFits (reading_of book r)
QueueFits-sound s book r sound within capacity = record { running = running_le_this book r; this = le_trans (sound.admitted r within) capacity.most.1 }

there_fits : (s : Machine) (place : Place) → IsMachine s → IsThere s place → PlaceFits place
there_fits s Away machine there = tt
there_fits s Gone machine there = tt
there_fits s (On r state) machine there = let h = machine.queues_most in omega arith

pub PlaceFits-kept : (s : Machine) (x : Record) → IsMachine s → IsKept s x → PlaceFits x.place
PlaceFits-kept s x machine kept = there_fits s x.place machine kept.there

pub ServerFits-kept : (s : Machine) (x : Record) → IsKept s x → ServerFits x.server × (x.server.d < 2 ^ 32)
ServerFits-kept s x kept =
    let f = kept.server.fits in
    let h = f.most in
    let k = kept.reservation.runtime.1 in
    let l = kept.reservation.period.1 in
    (record { some = f.some; most = omega arith }, kept.server.deadline)
