use Rattle.std.proofs.Common.{ap}
use Rattle.trace_data.specs.declared.probe.Probe.TheVariants.{Updated}
use Rattle.trace_data.specs.declared.probe.Ran.TheVariants.{Span}
use Rattle.text_bytes.specs.Lines.{words_of}
use Rattle.trace_probes.proofs.TakenLemmas.{shows_taken}
use Rattle.trace_probes.specs.Shown.{upd_span_fields}
use Rattle.trace_probes.specs.Tables.{signed_at, unsigned_at, updated_by}
use Rattle.trace_probes.specs.declared.field.Field.TheVariants.{DeltaExec, MaxBw}
use Rattle.trace_probes.proofs.shown.show_updated_by_span.Goals as goal

pub returns : goal.returns
returns c = shows_taken upd_span_fields _ _ (words_of c.args.text.now) (λ v. Updated (updated_by v (Span (signed_at DeltaExec v) (unsigned_at MaxBw v)))) _ _ _ c.in_ok-take.was c.take.ensures c.none-values.ensures (ap Updated c.updated_by_span.ensures)
