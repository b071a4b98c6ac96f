use Rattle.std.proofs.lemmas.Result.{err_from_is_err_and}
use Rattle.grub_trace.proofs.LineLemmas.{run_stops}
use Rattle.grub_trace.proofs.body.take_run.Goals as goal

pub returns-in_err-m : goal.returns-in_err-m
returns-in_err-m c =
    let p = err_from_is_err_and c.from_residual.result c.from_residual.ensures.1 in
    λ version r is last. rw (p.1, p.2) (run_stops c.in_err-m.field-0.0 r c.args.at.now c.args.name.now c.args.span.now c.in_err-m.ensures)
