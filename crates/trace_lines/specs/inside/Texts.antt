-- The texts that the slices of the code point to.
use Rattle.std.specs.Prelude.{ℕ, List, option_map}
use Rattle.std.specs.Borrow.{Bor}
use Rattle.trace_fields.specs.Shown.{shown_text}
use Rattle.trace_lines.specs.declared.fixed.Named.{Named}
use Rattle.trace_lines.specs.declared.note.Noted.{Noted}
use Rattle.trace_lines.specs.declared.note.Noted.TheVariants.{Quiet, Head, Task, Other, Lost, Warning, Governor}
use Rattle.trace_lines.specs.Scheduled.{scheduled_text}
use Rattle.trace_lines.specs.ToldTexts.{maybe_text}

abbrev pub named_text : Named (Bor (List ℕ)) → Named (List ℕ)
named_text named = record { said = named.said; shown = option_map shown_text named.shown; scheduled = option_map scheduled_text named.scheduled }

abbrev pub noted_text : Noted (Bor (List ℕ)) → Noted (List ℕ)
noted_text Quiet = Quiet
noted_text (Head note domain release) = Head note (maybe_text domain) (maybe_text release)
noted_text (Task note pid comm) = Task note pid comm.now
noted_text (Other note) = Other note
noted_text (Lost lost) = Lost lost
noted_text (Warning text) = Warning text.now
noted_text (Governor text) = Governor text.now
