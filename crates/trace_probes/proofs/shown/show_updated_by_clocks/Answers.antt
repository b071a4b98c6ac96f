use Rattle.std.proofs.Common.{ap}
use Rattle.trace_data.specs.declared.probe.Probe.TheVariants.{Updated}
use Rattle.trace_data.specs.declared.probe.Ran.TheVariants.{Clocks}
use Rattle.text_bytes.specs.Lines.{words_of}
use Rattle.trace_probes.proofs.TakenLemmas.{shows_taken}
use Rattle.trace_probes.specs.Shown.{upd_clocks_fields}
use Rattle.trace_probes.specs.Tables.{shown_at, unsigned_at, updated_by}
use Rattle.trace_probes.specs.declared.field.Field.TheVariants.{ClockTask, Entity, ExecStart, MaxBwShown}
use Rattle.trace_probes.proofs.shown.show_updated_by_clocks.Goals as goal

pub returns : goal.returns
returns c = shows_taken upd_clocks_fields _ _ (words_of c.args.text.now) (λ v. Updated (updated_by v (Clocks (unsigned_at ClockTask v) (unsigned_at ExecStart v) (unsigned_at Entity v) (shown_at MaxBwShown v)))) _ _ _ c.in_ok-take.was c.take.ensures c.none-values.ensures (ap Updated c.updated_by_clocks.ensures)
