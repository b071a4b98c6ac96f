-- The texts that the slices of what a line tells point to.
use Rattle.std.specs.Prelude.{ℕ, List, Option, option_map}
use Rattle.std.specs.Borrow.{Bor}
use Rattle.trace_fields.specs.Words.{text_of}
use Rattle.trace_fields.specs.Shown.{shown_text}
use Rattle.trace_lines.specs.Scheduled.{scheduled_text}
use Rattle.trace_lines.specs.declared.line.ToldLine.{ToldLine}

abbrev pub maybe_text : Option (Bor (List ℕ)) → Option (List ℕ)
maybe_text text = option_map text_of text

abbrev pub told_text : ToldLine (Bor (List ℕ)) → ToldLine (List ℕ)
told_text told = record {
  line = told.line;
  shown = option_map shown_text told.shown;
  domain = maybe_text told.domain;
  release = maybe_text told.release;
  lost = told.lost;
  processors = told.processors;
  warning = maybe_text told.warning;
  governor = maybe_text told.governor;
  change = told.change;
  scheduled = option_map scheduled_text told.scheduled;
}
