use Rattle.std.proofs.Common.{sym, ◌∙◌}
use Rattle.trace_lines.proofs.LossLemmas.{nothing_lost}
use Rattle.trace_lines.proofs.line.tells_loss.Goals as goal

pub returns-in-None : goal.returns-in-None
returns-in-None c = sym (nothing_lost c.args.line.now (sym c.is_comment.ensures ∙ c.if-is_comment.false) (sym c.capital_l_in.ensures ∙ c.in-None.is))
