use Rattle.grub_book.proofs.rules.settle.Goals as goal

pub returns-in-Wake : goal.returns-in-Wake
returns-in-Wake c = rw c.in-Wake.is (c.settle_wake.ensures c.args.queue c.args.reading)

pub returns-in-Block : goal.returns-in-Block
returns-in-Block c = rw c.in-Block.is (c.settle_block.ensures c.args.queue c.args.reading)

pub returns-in-Charge : goal.returns-in-Charge
returns-in-Charge c = rw c.in-Charge.is (c.settle_charge.ensures 0)
