use Rattle.std.proofs.Common.{◌≡◌, drop}
use Rattle.kernel_rules.specs.Releases.{last_from}
use Rattle.kernel_rules.proofs.release.last_from.Given as goal

-- the answer is that of the rows that are left
abbrev pub invariant-loop-row : goal.invariant-loop-row
invariant-loop-row l = last_from l.kernel l.found (drop l.row-index l.rows) ≡ last_from l.kernel l.fn.first l.rows
