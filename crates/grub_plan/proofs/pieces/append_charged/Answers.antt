use Rattle.std.specs.Prelude.{codes, decimal}
use Rattle.grub_plan.proofs.Joins.{charged}
use Rattle.grub_plan.proofs.pieces.append_charged.Goals as goal

pub returns-clause-text : goal.returns-clause-text
returns-clause-text c =
    rw (c.append_pair.ensures.text, c.append_number-2.ensures.text, c.append_number.ensures.text, c.from.ensures)
    (charged c.args.out.now.items (codes "charged dq=") (decimal c.args.dq) (codes " k=") (decimal c.args.k) (codes " ") (codes "q=") (decimal c.args.q) (codes " d=") (decimal c.args.d))
