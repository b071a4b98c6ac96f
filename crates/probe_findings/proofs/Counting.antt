-- A comparison that differs is seen in the counts.
use Rattle.std.proofs.Common.{arith, rules, ◌≡◌, ℕ, ◌+◌, ◌-◌, ◌^◌, ◌<◌, ◌==◌, min, Bool, true, false, ◌&&◌, Option, Some, None, refl, if◌then◌else◌}
use Rattle.std.specs.Prelude.{is_none}
use Rattle.std.proofs.Math.Nat.{le-min}
use Rattle.probe_findings.specs.declared.words.QuantityKind.{QuantityKind}
use Rattle.probe_findings.specs.declared.words.QuantityKind.TheVariants.{Budget, Deadline, Flags, Parameters, ThisBw, RunningBw, ExtraBw, TotalBw, ZeroLag, ZeroLagMoment, Timers, Capacities, Addresses, Choices, Laws}
use Rattle.probe_findings.specs.declared.counts.KindCounts.{KindCounts}
use Rattle.probe_findings.specs.declared.words.Deviation.{Deviation}
use Rattle.probe_findings.specs.Tallies.{counted_of, differing, none_differs}
use Rattle.probe_findings.specs.Firsts.{first_with}

some : (n : ℕ) → 0 < min (n + 1) (2 ^ 64 - 1)
some n = le-min (omega arith) (omega arith)

not_zero : (n : ℕ) → 0 < n → (n == 0) ≡ false
not_zero n h = search (rules, h)

differs : (c : KindCounts) (k : QuantityKind) → none_differs (counted_of c k false) ≡ false
differs c Budget = not_zero (differing (counted_of c Budget false)) (omega (arith, some c.budget.differ))
differs c Deadline = not_zero (differing (counted_of c Deadline false)) (omega (arith, some c.deadline.differ))
differs c Flags = not_zero (differing (counted_of c Flags false)) (omega (arith, some c.flags.differ))
differs c Parameters = not_zero (differing (counted_of c Parameters false)) (omega (arith, some c.parameters.differ))
differs c ThisBw = not_zero (differing (counted_of c ThisBw false)) (omega (arith, some c.this_bw.differ))
differs c RunningBw = not_zero (differing (counted_of c RunningBw false)) (omega (arith, some c.running_bw.differ))
differs c ExtraBw = not_zero (differing (counted_of c ExtraBw false)) (omega (arith, some c.extra_bw.differ))
differs c ZeroLag = not_zero (differing (counted_of c ZeroLag false)) (omega (arith, some c.zero_lag.differ))
differs c ZeroLagMoment = not_zero (differing (counted_of c ZeroLagMoment false)) (omega (arith, some c.zero_lag_moment.differ))
differs c Timers = not_zero (differing (counted_of c Timers false)) (omega (arith, some c.timers.differ))
differs c TotalBw = not_zero (differing (counted_of c TotalBw false)) (omega (arith, some c.total_bw.differ))
differs c Capacities = not_zero (differing (counted_of c Capacities false)) (omega (arith, some c.capacities.differ))
differs c Addresses = not_zero (differing (counted_of c Addresses false)) (omega (arith, some c.addresses.differ))
differs c Choices = not_zero (differing (counted_of c Choices false)) (omega (arith, some c.choices.differ))
differs c Laws = not_zero (differing (counted_of c Laws false)) (omega (arith, some c.laws.differ))

pub equal : (c : KindCounts) (k : QuantityKind) → none_differs (counted_of c k true) ≡ none_differs c
equal c Budget = refl
equal c Deadline = refl
equal c Flags = refl
equal c Parameters = refl
equal c ThisBw = refl
equal c RunningBw = refl
equal c ExtraBw = refl
equal c ZeroLag = refl
equal c ZeroLagMoment = refl
equal c Timers = refl
equal c TotalBw = refl
equal c Capacities = refl
equal c Addresses = refl
equal c Choices = refl
equal c Laws = refl

pub counting : (c : KindCounts) (k : QuantityKind) (b : Bool) → none_differs (counted_of c k b) ≡ (b && none_differs c)
counting c k true = equal c k
counting c k false = differs c k

found_by : (b : Bool) (d : Deviation) → is_none (if b then None else Some d) ≡ b
found_by true d = refl
found_by false d = refl

with_one : (found : Option Deviation) (d : Deviation) → is_none (first_with found d) ≡ (d.comparison.is_equal && is_none found)
with_one None d = elim d.comparison.is_equal as (λ b. is_none (if b then None else Some d) ≡ (b && true)) [ true ↦ refl | false ↦ refl ]
with_one (Some first) d = elim d.comparison.is_equal as (λ b. false ≡ (b && false)) [ true ↦ refl | false ↦ refl ]

-- the first deviation is none exactly where none differs, also after one comparison more
pub still_told : (found : Option Deviation) (d : Deviation) (c : KindCounts) (k : QuantityKind) → is_none found ≡ none_differs c
    → is_none (first_with found d) ≡ none_differs (counted_of c k d.comparison.is_equal)
still_told found d c k h = rw (with_one found d) (rw (counting c k d.comparison.is_equal) (rw h refl))
