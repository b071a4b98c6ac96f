use Rattle.std.proofs.Common.{◌≡◌, drop}
use Rattle.timer_record.specs.Kept.{kept_of}
use Rattle.timer_record.specs.Records.{come_until}
use Rattle.timer_record.proofs.record.OpenRecord.tell.Given as goal

-- the notes that are still to come make of the record what all make
abbrev pub invariant-loop-i : goal.invariant-loop-i
invariant-loop-i l = record {
  come : l.self.come ≡ l.i;
  notes : l.self.notes.items ≡ l.initial.self.notes.items;
  rest : come_until l.at (drop l.i l.self.notes.items) (kept_of l.self)
      ≡ come_until l.at (drop l.initial.self.come l.initial.self.notes.items) (kept_of l.initial.self);
}
