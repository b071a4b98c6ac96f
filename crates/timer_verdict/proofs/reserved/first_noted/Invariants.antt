use Rattle.std.proofs.Common.{◌≡◌, drop, None}
use Rattle.std.specs.List.{fold}
use Rattle.timer_verdict.specs.Speed.{with_first}
use Rattle.timer_verdict.proofs.reserved.first_noted.Given as goal

-- the notes that are left find what all find
abbrev pub invariant-loop-note : goal.invariant-loop-note
invariant-loop-note l = fold (with_first l.task) l.found (drop l.note-index l.told) ≡ fold (with_first l.task) None l.told
