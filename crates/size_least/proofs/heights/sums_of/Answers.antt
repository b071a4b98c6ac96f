use Rattle.std.proofs.Common.{sym, ◌∙◌, append-nil, arith}
use Rattle.size_least.proofs.Rise.{sums-end}
use Rattle.size_least.proofs.heights.sums_of.Goals as goal

pub returns : goal.returns
returns c =
    let none = sums-end c.args.heights.now c.args.more.now c.loop-i.i (omega (arith, c.loop-i-test.false, c.min-count.ensures)) in
    let whole = rw none at c.loop-i.invariant in
    sym (append-nil c.loop-i.sums.items) ∙ whole
