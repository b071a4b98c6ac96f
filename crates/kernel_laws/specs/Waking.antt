-- How the test of a wake rounds: dl_entity_overflow drops ten bits of each factor, the documentation none.
use Rattle.std.specs.Prelude.{ℕ, pos, ◌≡◌, ◌+◌, ◌*◌, ◌^◌, ◌<◌, ◌≤◌, true, false}
use Rattle.trace_data.specs.declared.quantities.Donor.{Donor}
use Rattle.kernel_rules.specs.declared.charge.ChargeLaw.TheVariants.{LinuxFrom65, Documentation}
use Rattle.kernel_rules.specs.Budget.{overflows_by}

-- a budget, a span to the deadline and a reservation, each below 18 minutes
pub record IsBelow18Minutes (by : Donor) (budget span : ℕ) : Type 0 where
  pub budget_is : budget < 2 ^ 40
  pub span_is : span < 2 ^ 40
  pub runtime_is : by.dl_runtime < 2 ^ 40
  pub deadline_is : by.dl_deadline < 2 ^ 40

-- the budget fits the span by this much: both keep it
abbrev pub FitsWell : Donor → ℕ → ℕ → Type 0
FitsWell by budget span = budget * by.dl_deadline + 1024 * (span + by.dl_runtime) ≤ span * by.dl_runtime

-- the budget is above what the span gives by this much: both renew it
abbrev pub IsWellAbove : Donor → ℕ → ℕ → Type 0
IsWellAbove by budget span = span * by.dl_runtime + 1024 * (budget + by.dl_deadline) + 2 ^ 20 ≤ budget * by.dl_deadline

-- beside these two, which lie close about the border, the kernel's test and the exact one answer alike
pub record AnswersAlike (by : Donor) (budget span : ℕ) : Type 0 where
  pub kept : FitsWell by budget span
      → (overflows_by LinuxFrom65 by (pos budget) span ≡ false) × (overflows_by Documentation by (pos budget) span ≡ false)
  pub renewed : IsWellAbove by budget span
      → (overflows_by LinuxFrom65 by (pos budget) span ≡ true) × (overflows_by Documentation by (pos budget) span ≡ true)
