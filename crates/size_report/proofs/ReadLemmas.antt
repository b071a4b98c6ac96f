-- What a trace tells of jobs, by what its lines come to.
use Rattle.std.proofs.Common.{◌≡◌, ℕ, List, Option, None, sym, ap, ◌∙◌, subst}
use Rattle.text_bytes.specs.Source.{Opener, Reader}
use Rattle.trace_file.specs.Reading.{ComesTo, IsSoOf, flaw_at}
use Rattle.trace_file.proofs.SoLemmas.{so_by}
use Rattle.trace_lines.specs.declared.reader.Halt.{Halt}
use Rattle.size_jobs.specs.Lines.{Jobs, jobs_at_first, jobs_step}
use Rattle.size_jobs.specs.Told.{IsTold, Tells}
use Rattle.size_jobs.specs.declared.lines.JobRecord.{JobRecord}

told_at : (seen : Jobs) (halt : Option Halt) (told : JobRecord) → flaw_at halt ≡ None → Tells seen told → (text : List ℕ) → ComesTo jobs_step jobs_at_first halt seen text → IsTold told text
told_at seen halt told flaw tells text come = record {
  whole = ap flaw_at come.halts ∙ flaw;
  tells = subst (λ (j : Jobs). Tells j told) (sym come.comes) tells;
}

told_by : (start seen : Jobs) (halt : Option Halt) (told : JobRecord) → start ≡ jobs_at_first → flaw_at halt ≡ None → Tells seen told → (text : List ℕ) → ComesTo jobs_step start halt seen text → IsTold told text
told_by start seen halt told first flaw tells text come =
    told_at seen halt told flaw tells text (subst (λ (s : Jobs). ComesTo jobs_step s halt seen text) first come)

module _ {O N D : Type 0} (o : Opener O D) (opener : O) (g : Reader N D) (read : N) (name : List ℕ) where
  pub record_told : (start seen : Jobs) (halt : Option Halt) (told : JobRecord) → start ≡ jobs_at_first → flaw_at halt ≡ None → Tells seen told → IsSoOf o opener g read name (ComesTo jobs_step start halt seen) → IsSoOf o opener g read name (IsTold told)
  record_told start seen halt told first flaw tells so =
      so_by o opener g read (ComesTo jobs_step start halt seen) (IsTold told) name (told_by start seen halt told first flaw tells) so
