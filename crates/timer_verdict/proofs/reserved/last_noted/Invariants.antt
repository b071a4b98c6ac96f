use Rattle.std.proofs.Common.{◌≡◌, drop}
use Rattle.std.specs.List.{fold}
use Rattle.timer_verdict.specs.Speed.{with_last}
use Rattle.timer_verdict.proofs.reserved.last_noted.Given as goal

-- the notes that are left find what all find
abbrev pub invariant-loop-note : goal.invariant-loop-note
invariant-loop-note l = fold (with_last l.task l.at) l.found (drop l.note-index l.told) ≡ fold (with_last l.task l.at) l.fn.before l.told
