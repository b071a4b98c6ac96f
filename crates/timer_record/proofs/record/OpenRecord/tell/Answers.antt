use Rattle.std.proofs.Common.{◌≡◌, ℕ, ◌+◌, List, drop, slice_get, sym, ap, ◌∙◌}
use Rattle.timer_record.specs.declared.lines.TaskNote.{TaskNote}
use Rattle.timer_record.specs.Kept.{Kept, kept_of}
use Rattle.timer_record.specs.Records.{come_in, come_until, told_in}
use Rattle.timer_record.proofs.ComingLemmas.{come_step, come_stop}
use Rattle.timer_record.proofs.record.OpenRecord.tell.Goals as goal

pub loop-i-preserved : goal.loop-i-preserved
unfolding come_in
loop-i-preserved c =
    let old : Kept = kept_of c.loop-i.self in
    let is = c.in_ok-come_to.ensures in
    let notes : c.come_to.new.self.notes.items ≡ c.loop-i.self.notes.items = ap (λ (k : Kept). k.notes) is in
    let next : c.loop-i.i + 1 ≡ old.come + 1 = ap (λ (n : ℕ). n + 1) (sym c.loop-i.invariant.come) in
    let step = come_step c.args.at c.loop-i.self.notes.items c.loop-i.i c.in-Some.told old (c.loop-i.i + 1) (sym (c.in-Some.ensures ∙ ap (λ (xs : List TaskNote). slice_get xs c.loop-i.i) c.deref.ensures.value)) (sym c.is_due.ensures ∙ c.if-not-is_due.false) next in
    record {
      come = ap (λ (k : Kept). k.come) is;
      notes = notes ∙ c.loop-i.invariant.notes;
      rest = ap (λ (k : Kept). come_until c.args.at (drop (c.loop-i.i + 1) k.notes) k) is ∙ sym step ∙ c.loop-i.invariant.rest;
    }

pub returns-then-not-is_due : goal.returns-then-not-is_due
unfolding told_in
returns-then-not-is_due c =
    let stop = come_stop c.args.at c.loop-i.self.notes.items c.loop-i.i c.in-Some.told (kept_of c.loop-i.self) (sym (c.in-Some.ensures ∙ ap (λ (xs : List TaskNote). slice_get xs c.loop-i.i) c.deref.ensures.value)) (sym c.is_due.ensures ∙ c.if-not-is_due.true) in
    sym stop ∙ c.loop-i.invariant.rest
