-- A trace that was read whole.
use Rattle.std.proofs.Common.{◌≡◌, ℕ, List, Option, Ok, Err, Result, OnOk, refl, sym, ap, subst, ◌∙◌}
use Rattle.text_bytes.specs.Source.{Opener, Reader}
use Rattle.trace_file.specs.Reading.{ComesTo, IsSoOf}
use Rattle.trace_file.proofs.SoLemmas.{so_by}
use Rattle.trace_lines.specs.declared.reader.Halt.{Halt}
use Rattle.trace_options.specs.declared.fault.Fault.{Fault}
use Rattle.check_record.specs.Reading.{HasShownFrom, ended_by}
use Rattle.check_record.specs.Shown.{Shown, with_line}

whole_by : (start seen : Shown) (halt : Option Halt) → ended_by halt ≡ Ok tt → (text : List ℕ)
    → ComesTo with_line start halt seen text → HasShownFrom start seen text
whole_by start seen halt ended text comes = (ap ended_by comes.halts ∙ ended, comes.comes)

ok_by : (r : Result (Unit {0}) Fault) (P : Type 0) → (r ≡ Ok tt → P) → OnOk r P
ok_by (Ok u) P h = h refl
ok_by (Err e) P h = tt

module _ {O N D : Type 0} (o : Opener O D) (opener : O) (g : Reader N D) (read : N) (name : List ℕ) where
  pub was_read : (start seen : Shown) (halt : Option Halt) (r : Result (Unit {0}) Fault) → r ≡ ended_by halt
      → IsSoOf o opener g read name (ComesTo with_line start halt seen) → OnOk r (IsSoOf o opener g read name (HasShownFrom start seen))
  was_read start seen halt r is so =
      ok_by r (IsSoOf o opener g read name (HasShownFrom start seen))
      (λ ok. so_by o opener g read (ComesTo with_line start halt seen) (HasShownFrom start seen) name (whole_by start seen halt (sym is ∙ ok)) so)
