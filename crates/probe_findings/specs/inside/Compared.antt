-- Laws that a record can break though each of its values follows from the one before.
use Rattle.std.specs.Prelude.{ℕ, ℤ, Bool, false, not, ◌&&◌, ◌==◌, if◌then◌else◌}
use Rattle.probe_findings.specs.Ratio.{greatest_ratio, is_ratio}
use Rattle.probe_findings.specs.declared.words.ProbedLine.{ProbedLine}
use Rattle.probe_findings.specs.declared.words.Comparison.{Comparison}
use Rattle.probe_findings.specs.declared.words.Subject.TheVariants.{Runqueue}
use Rattle.probe_findings.specs.declared.words.ExactValue.TheVariants.{Unsigned, Signed, AtMost}
use Rattle.probe_findings.specs.declared.words.Quantity.TheVariants.{ThisBw, BwRatio, MaxBw, ClockLag}

-- max_bw and bw_ratio of a CPU, where the test of admissions has this limit
abbrev pub ratio_compared : ProbedLine → ℕ → ℕ → ℕ → Bool → ℕ → Comparison
ratio_compared place cpu max_bw bw_ratio is_limit limit =
    if is_ratio max_bw bw_ratio && not is_limit
    then record { place = place; subject = Runqueue cpu; quantity = MaxBw; rules = Unsigned limit; kernel = Unsigned max_bw; is_equal = false }
    else record {
      place = place;
      subject = Runqueue cpu;
      quantity = BwRatio;
      rules = Unsigned (greatest_ratio max_bw);
      kernel = Unsigned bw_ratio;
      is_equal = is_ratio max_bw bw_ratio;
    }

-- a wake: one is told as late where the law is broken
abbrev pub wake_compared : ProbedLine → ℕ → ℤ → Bool → Comparison
wake_compared place cpu behind is_equal = record {
  place = place;
  subject = Runqueue cpu;
  quantity = ClockLag;
  rules = AtMost 100000;
  kernel = Signed behind;
  is_equal = is_equal;
}

-- this_bw of the first line of a CPU
abbrev pub start_compared : ProbedLine → ℕ → ℕ → ℕ → Comparison
start_compared place cpu rules this_bw = record {
  place = place;
  subject = Runqueue cpu;
  quantity = ThisBw;
  rules = Unsigned rules;
  kernel = Unsigned this_bw;
  is_equal = rules == this_bw;
}
