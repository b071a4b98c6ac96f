use Rattle.std.proofs.Common.{refl}
use Rattle.grub_plan.specs.declared.line.Act.TheVariants as act
use Rattle.grub_trace.proofs.LineLemmas.{plain_takes}
use Rattle.grub_trace.proofs.body.take_act.Goals as goal

pub returns-in-Join : goal.returns-in-Join
returns-in-Join c = rw (c.take_moment.ensures, c.in-Join.is) (plain_takes c.args.version c.args.last c.args.at.now (act.Join c.in-Join.name) refl)

pub returns-in-Wake : goal.returns-in-Wake
returns-in-Wake c = rw (c.take_moment-in-Wake.ensures, c.in-Wake.is) (plain_takes c.args.version c.args.last c.args.at.now (act.Wake c.in-Wake.name) refl)

pub returns-in-Block : goal.returns-in-Block
returns-in-Block c = rw (c.take_moment-in-Block.ensures, c.in-Block.is) (plain_takes c.args.version c.args.last c.args.at.now (act.Block c.in-Block.name) refl)

pub returns-in-Leave : goal.returns-in-Leave
returns-in-Leave c = rw (c.take_moment-in-Leave.ensures, c.in-Leave.is) (plain_takes c.args.version c.args.last c.args.at.now (act.Leave c.in-Leave.name) refl)

pub returns-in-Exit : goal.returns-in-Exit
returns-in-Exit c = rw (c.take_moment-in-Exit.ensures, c.in-Exit.is) (plain_takes c.args.version c.args.last c.args.at.now (act.Exit c.in-Exit.name) refl)

pub returns-in-Read : goal.returns-in-Read
returns-in-Read c = rw (c.take_moment-in-Read.ensures, c.in-Read.is) (plain_takes c.args.version c.args.last c.args.at.now act.Read refl)
