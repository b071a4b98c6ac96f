use Rattle.std.proofs.Common.{◌<◌, ◌≤◌, length, slice_index_or, sym, subst, arith}
use Rattle.std.proofs.lemmas.List.Elements.{All-from_get_or}
use Rattle.grub_book.specs.History.{book_of}
use Rattle.grub_book.specs.Machine.{Machine, queue_at}
use Rattle.grub_book.specs.declared.event.Reading.{Reading}
use Rattle.grub_book.proofs.Tallies.{running_le_this}
use Rattle.grub_table.proofs.Moves.{sound}
use Rattle.grub_table.proofs.laws.closing_readings_are_sound.Goals as goal

pub returns-clause-running : goal.returns-clause-running
returns-clause-running c = λ s ps last closed.
    let none : Reading = record { running = 0; this = 0 } in
    All-from_get_or (λ (x : Reading). x.running ≤ x.this) last none
    (λ r low. let there : r < length s.terms.setup.queues = omega (arith, low, closed.readings.one_each) in
    subst (λ (x : Reading). x.running ≤ x.this) (sym (closed.readings.value r none there)) (running_le_this (book_of s.terms.setup closed.history) r))

pub returns-clause-admitted : goal.returns-clause-admitted
returns-clause-admitted c = λ s ps last m r d closed is low.
    let there : r < length s.terms.setup.queues = omega (arith, low, closed.readings.one_each) in
    let at_end = subst (λ (x : Reading). x.this ≤ (queue_at s.terms.setup r).most) (sym (closed.readings.value r d there)) ((sound s.terms closed.history s.limited closed.is_history).admitted r there) in
    subst (λ (m : Machine). (slice_index_or last r d).this ≤ (queue_at m r).most) is at_end
