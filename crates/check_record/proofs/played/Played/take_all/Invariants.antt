use Rattle.std.proofs.Common.{◌≡◌, ◌++◌, drop}
use Rattle.check_record.proofs.played.Played.take_all.Given as goal

-- the lines that were played, and those that are left
abbrev pub invariant-loop-line : goal.invariant-loop-line
invariant-loop-line l = l.self.player.lines ++ drop l.line-index l.lines ≡ l.initial.self.player.lines ++ l.lines
