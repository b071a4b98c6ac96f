use Rattle.std.proofs.Common.{arith}
use Rattle.grub_wheel.proofs.Marks.{set_here, set_others}
use Rattle.grub_wheel.proofs.used.mark.Goals as goal

pub returns-clause-here : goal.returns-clause-here
returns-clause-here c = set_here c.args.used.now c.args.slot (omega arith) c.requires

pub returns-clause-others : goal.returns-clause-others
returns-clause-others c = λ r lt ne. set_others c.args.used.now c.args.slot (omega arith) c.requires r ne
