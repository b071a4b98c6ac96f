-- What a line says, by the texts that the slices of the code point to.
use Rattle.std.specs.Prelude.{ℕ, List, Option, option_map}
use Rattle.std.specs.Borrow.{Bor}
use Rattle.trace_fields.specs.declared.shown.Shown.{Shown}
use Rattle.trace_fields.specs.Shown.{shown_text}
use Rattle.convert_facts.specs.declared.report.EventReport.{EventReport}

abbrev pub maybe_shown : Option (Shown (Bor (List ℕ))) → Option (Shown (List ℕ))
maybe_shown shown = option_map shown_text shown

abbrev pub report_text : EventReport (Bor (List ℕ)) → EventReport (List ℕ)
report_text report =
    record { at = report.at; cpu = report.cpu; pid = report.pid; event = report.event; shown = maybe_shown report.shown }
