use Rattle.std.proofs.Common.{◌≡◌, None, ◌∙◌}
use Rattle.grub_book.specs.Sums.{record_at}
use Rattle.grub_book.specs.Sound.{IsThere}
use Rattle.grub_book.specs.Step.{refused}
use Rattle.grub_book.proofs.Soundness.{asked_of, moved_from, runqueue_there, sound_moved, step_from}
use Rattle.book_tests.proofs.plain.PlainBook.apply.Goals as goal

pub queue-requires : goal.queue-requires
queue-requires c =
    let s = c.self.inside.setup.now in
    let held : c.record_of-held.result ≡ record_at c.self.inside.records.items c.args.t = cc in
    let asked = asked_of _ _ c.args.t c.args.op c.self.view_is c.requires.task c.requires.fits in
    let there : IsThere s c.record_of-held.result.place = rw held ((c.self.invariant.sound.kept c.args.t asked.0).there) in
    rw c.runqueue-r.ensures (runqueue_there s c.record_of-held.result.place c.args.op c.self.invariant.machine.queues_some there asked.1)

pub invariant_of-self : goal.invariant_of-self
invariant_of-self c =
    let s = c.self.inside.setup.now in
    let book = c.self.inside.records.items in
    let held : c.record_of-held.result ≡ record_at c.self.inside.records.items c.args.t = cc in
    let free : refused (record_at c.self.inside.records.items c.args.t).place (record_at c.self.inside.records.items c.args.t).count c.args.op ≡ None = cc in
    let asked = asked_of _ _ c.args.t c.args.op c.self.view_is c.requires.task c.requires.fits in
    let now = rw c.deref-2.ensures.value at c.tally-reading.ensures.value in
    let is = c.settle-next.ensures ∙ moved_from s book c.args.t c.args.op c.record_of-held.result c.runqueue-r.result c.queue.result c.tally-reading.result held c.runqueue-r.ensures c.queue.ensures.value now in
    record { machine = c.self.invariant.machine; sound = rw is (sound_moved s book c.args.t c.args.op c.self.invariant.sound asked.0 asked.1 free) }

pub returns-clause-step : goal.returns-clause-step
returns-clause-step c =
    let s = c.self.inside.setup.now in
    let book = c.self.inside.records.items in
    let held : c.record_of-held.result ≡ record_at c.self.inside.records.items c.args.t = cc in
    let free : refused (record_at c.self.inside.records.items c.args.t).place (record_at c.self.inside.records.items c.args.t).count c.args.op ≡ None = cc in
    let now = rw c.deref-2.ensures.value at c.tally-reading.ensures.value in
    let is = c.settle-next.ensures ∙ moved_from s book c.args.t c.args.op c.record_of-held.result c.runqueue-r.result c.queue.result c.tally-reading.result held c.runqueue-r.ensures c.queue.ensures.value now in
    step_from _ _ c.args.t c.args.op _ c.self.view_is free is
