-- A verdict that agrees, and what was read.
use Rattle.std.proofs.Common.{◌≡◌, ℕ, Bool, false, List, Result, Ok, Err, IfOk, IsOkAnd, IsTrue}
use Rattle.text_bytes.specs.Source.{Opener, Reader}
use Rattle.trace_file.specs.Reading.{IsSoOf}
use Rattle.trace_file.proofs.SoLemmas.{so_by}
use Rattle.trace_options.specs.declared.options.CheckOptions.{CheckOptions}
use Rattle.trace_options.specs.declared.fault.Fault.{Fault}
use Rattle.check_record.specs.Explains.{IsAgreedBy}
use Rattle.check_record.specs.Reading.{HasShown}
use Rattle.check_record.specs.Seen.{IsEnded, NothingDiffers, shown_in}
use Rattle.check_record.proofs.AgreedLemmas.{agreed}
use Rattle.check_record.specs.declared.gathering.Gathering.{Gathering}
use Rattle.trace_check.specs.declared.check.Verdict.{Verdict}

-- what is so of a verdict that agrees, where there is one
pub of_agreed : (r : Result Verdict Fault) (P : Type 0) → IfOk r (λ (v : Verdict). IsTrue v.agrees → IsTrue v.keeps_laws → P)
    → IsOkAnd r (λ (v : Verdict). IsTrue v.agrees) → IsOkAnd r (λ (v : Verdict). IsTrue v.keeps_laws) → P
of_agreed (Ok v) P so agrees kept = so agrees kept
of_agreed (Err e) P so agrees kept = absurd agrees

-- what is so of one that differs
pub of_differing : (r : Result Verdict Fault) (P : Type 0) → IfOk r (λ (v : Verdict). v.agrees ≡ false → P) → IsOkAnd r (λ (v : Verdict). v.agrees ≡ false) → P
of_differing (Ok v) P so differs = so differs
of_differing (Err e) P so differs = absurd differs

-- what follows where nothing differs
pub of_equal : (r : Result Verdict Fault) (E P : Type 0) → IfOk r (λ (v : Verdict). IsTrue v.agrees → IsTrue v.keeps_laws → E)
    → (E → P) → IfOk r (λ (v : Verdict). IsTrue v.agrees → IsTrue v.keeps_laws → P)
of_equal (Ok v) E P so to = λ agrees kept. to (so agrees kept)
of_equal (Err e) E P so to = so

module _ {O N D : Type 0} (o : Opener O D) (opener : O) (g : Reader N D) (read : N) (name : List ℕ) where
  pub explained : (options : CheckOptions) (beside : Bool) (gathering : Gathering)
      → IsSoOf o opener g read name (HasShown options beside (shown_in gathering)) → IsEnded options gathering → NothingDiffers options gathering
      → IsSoOf o opener g read name (IsAgreedBy options beside)
  explained options beside gathering so ended equal =
      so_by o opener g read (HasShown options beside (shown_in gathering)) (IsAgreedBy options beside) name
      (agreed options gathering beside ended equal) so
