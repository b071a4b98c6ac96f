use Rattle.std.proofs.Common.{take, map}
use Rattle.std.specs.Prelude.{string_bytes}
use Rattle.grub_plan.specs.Contents.{contents}
use Rattle.convert.specs.Serving.{AreMade}
use Rattle.convert.proofs.serving.write_files.Given as goal

abbrev pub invariant-loop-i : goal.invariant-loop-i
invariant-loop-i g l = AreMade g.M.Fn l.make (map string_bytes (take l.i l.paths)) (contents (take l.i l.files))
