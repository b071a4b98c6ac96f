use Rattle.std.proofs.Common.{Some, refl, sym, ap, ◌∙◌}
use Rattle.trace_lines.proofs.fixed.woken_with.Goals as goal

pub returns-in_err-cpu : goal.returns-in_err-cpu
returns-in_err-cpu c = rw (c.from_residual-in_err-cpu.ensures, sym c.class_field.ensures ∙ c.in_ok-class.was, sym c.cpu_field.ensures ∙ c.in_err-cpu.was) refl

pub returns : goal.returns
returns c = rw (sym c.class_field.ensures ∙ c.in_ok-class.was, sym c.cpu_field.ensures ∙ c.in_ok-cpu.was, ← c.is_deadline.ensures) (ap (λ n. Some n) c.naming.ensures)
