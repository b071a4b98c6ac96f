use Rattle.std.proofs.Common.{◌≡◌, drop}
use Rattle.std.specs.List.{fold}
use Rattle.timer_record.specs.Records.{withdrawn}
use Rattle.timer_record.proofs.record.withdraw_all.Given as goal

-- the notes that are left make what all make
abbrev pub invariant-loop-note : goal.invariant-loop-note
invariant-loop-note l = fold withdrawn l.tasks.items (drop l.note-index l.told) ≡ fold withdrawn l.initial.tasks.items l.told
