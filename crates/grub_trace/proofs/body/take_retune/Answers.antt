use Rattle.std.proofs.Common.{sym, ◌∙◌, ap}
use Rattle.std.proofs.lemmas.Result.{err_from_is_err_and}
use Rattle.grub_trace.specs.Tree.{may_retune}
use Rattle.grub_trace.proofs.LineLemmas.{retune_stops}
use Rattle.grub_trace.proofs.body.take_retune.Goals as goal

pub returns-in_err-m : goal.returns-in_err-m
returns-in_err-m c =
    let p = err_from_is_err_and c.from_residual.result c.from_residual.ensures.1 in
    λ r version last. rw (p.1, p.2) (retune_stops c.in_err-m.field-0.0 r c.args.at.now c.args.name.now c.args.runtime.now c.args.period.now (ap may_retune version ∙ sym c.may_retune.ensures ∙ c.if-not-may_retune.false) c.in_err-m.ensures)
