use Rattle.std.proofs.Common.{sym, ap, ◌∙◌, refl}
use Rattle.std.specs.Prelude.{option_map}
use Rattle.trace_fields.specs.Words.{text_of}
use Rattle.trace_lines.proofs.fixed.stop_in.Goals as goal

pub returns-in_err-state : goal.returns-in_err-state
returns-in_err-state c = rw (c.from_residual.ensures, sym c.value_of.ensures ∙ ap (option_map text_of) c.in_err-state.was) refl

pub returns : goal.returns
returns c = rw (sym c.value_of.ensures ∙ ap (option_map text_of) c.in_ok-state.was) c.stop_of.ensures
