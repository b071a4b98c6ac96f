use Rattle.std.proofs.Common.{◌++◌, ap, ◌∙◌, refl}
use Rattle.size_report.specs.Answers.{command_text}
use Rattle.size_report.proofs.sections.put_proposed.Goals as goal

pub returns : goal.returns
returns c = record {
  lead = c.args.lead.now;
  one = record { comm = c.in_ok-from_slice.field-0; runtime = c.args.runtime; period = c.args.period };
  text = c.in_ok-put_command.ensures ∙ ap (λ t. t ++ command_text c.args.runtime c.args.period c.args.found.pid) c.in_ok-extend_from_slice.ensures.items;
  proposals = c.in_ok-push.ensures.items;
  named = c.in_ok-from_slice.ensures.items ∙ c.deref.ensures.value;
  runs = refl;
  each = refl;
}
