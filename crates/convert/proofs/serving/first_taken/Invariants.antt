use Rattle.std.proofs.Common.{take, map}
use Rattle.std.specs.Prelude.{string_bytes}
use Rattle.convert.specs.Serving.{AreFree}
use Rattle.convert.proofs.serving.first_taken.Given as goal

abbrev pub invariant-loop-i : goal.invariant-loop-i
invariant-loop-i g l = AreFree g.X.Fn l.exists (map string_bytes (take l.i l.paths))
