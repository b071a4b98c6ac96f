use Rattle.std.proofs.Common.{refl, sym, ◌∙◌}
use Rattle.trace_lines.proofs.fixed.switched_from.Goals as goal

pub returns-in_err-stop : goal.returns-in_err-stop
returns-in_err-stop c = rw (c.from_residual-in_err-stop.ensures, sym c.class_field.ensures ∙ c.in_ok-class.was, sym c.stop_in.ensures ∙ c.in_err-stop.was) refl

pub returns : goal.returns
returns c = rw (sym c.class_field.ensures ∙ c.in_ok-class.was, sym c.stop_in.ensures ∙ c.in_ok-stop.was) c.switched_to.ensures
