-- A task has run: update_curr_dl_se, after the charge.
use Rattle.std.specs.Prelude.{ℕ, pos, int_le, Bool, true, false, not, ◌&&◌, ◌||◌, if◌then◌else◌, is_none}
use Rattle.kernel_rules.specs.declared.entity.Entity.{Entity}
use Rattle.kernel_rules.specs.Budget.{timer_is_ahead}
use Rattle.kernel_rules.specs.declared.runs.Spent.{Spent}
use Rattle.kernel_rules.specs.declared.runs.Spent.TheVariants.{RunsOn, Throttled, Yielded}
use Rattle.kernel_rules.specs.declared.runs.Spending.{Spending}

unfoldable pub is_spent : Entity → Bool → Spent
is_spent e has_run =
    if not has_run && not e.budget.is_yielded then RunsOn
    else (if int_le e.budget.runtime (pos 0) then Throttled
    else (if e.budget.is_yielded then Yielded else RunsOn))

unfoldable pub throttled_of : Entity → Bool → Entity
throttled_of e starts = record e {
  budget = record e.budget { is_throttled = true };
  is_in_tree = false;
  has_deadline_timer = e.has_deadline_timer || starts;
}

-- throttled, and its timer waits for the next period; else it is enqueued again
abbrev pub throttling_of : Entity → ℕ → Spent → Spending
throttling_of e clock spent =
    let waits = is_none e.donor && timer_is_ahead e clock in
    record { entity = throttled_of e waits; spent = spent; starts_timer = waits && not e.has_deadline_timer; is_enqueued_again = not waits }

abbrev pub spending_by : Entity → ℕ → Spent → Spending
spending_by e clock RunsOn = record { entity = e; spent = RunsOn; starts_timer = false; is_enqueued_again = false }
spending_by e clock Throttled = throttling_of e clock Throttled
spending_by e clock Yielded = throttling_of e clock Yielded

unfoldable pub spending_of : Entity → ℕ → Bool → Spending
spending_of e clock has_run = spending_by e clock (is_spent e has_run)
