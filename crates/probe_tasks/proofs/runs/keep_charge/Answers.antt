use Rattle.std.proofs.Common.{◌≡◌, Bool, ap, ◌∙◌}
use Rattle.kernel_rules.specs.declared.entity.Entity.{Entity}
use Rattle.kernel_rules.specs.declared.runs.Spending.{Spending}
use Rattle.kernel_rules.specs.Spend.{spending_of}
use Rattle.probe_run.specs.Runs.{state_of}
use Rattle.probe_run.specs.State.{State, keep_at}
use Rattle.probe_run.specs.Sums.{start_timer_in}
use Rattle.probe_run.specs.Begin.{sums_read, await_enqueue}
use Rattle.probe_run.specs.declared.actor.Actor.{Actor}
use Rattle.probe_tasks.specs.Runs.{charged_by, claim_later, has_run}
use Rattle.probe_tasks.proofs.runs.keep_charge.Goals as goal

pub returns-clause-state : goal.returns-clause-state
returns-clause-state c = λ plain whole.
    let t = c.args.rules in let q = c.args.charge in let u = q.line in let p = q.place in let s = state_of c.args.run.now in
    let b = c.shown_charge-shown.result in let d = c.spend_by-done.result in
    let K : State → Actor → Spending → State = λ r a e. await_enqueue (start_timer_in t (keep_at r q.number (record a { entity = e.entity })) p q.number e.starts_timer) p.cpu e.is_enqueued_again in
    let R : State → State = λ r. claim_later (sums_read r p u.cpu u.sums) p u.cpu q.choice.extra_bw in
    c.in_ok-keep_spent.ensures.state
    ∙ ap (λ r. K r b d) (c.in_ok-read_and_claim.ensures.state whole ∙ ap R c.note_spent.ensures)
    ∙ ap (λ e. K (R s) b e) (c.spend_by-done.ensures.unchanged plain ∙ ap (λ (h : Bool). spending_of c.with_charge-charged.result u.clock h) c.ran.ensures
    ∙ ap (λ (e : Entity). spending_of e u.clock (has_run u)) (c.with_charge-charged.ensures plain))
    ∙ ap (λ (a : Actor). K (R s) a (spending_of (charged_by t s a.entity u q.choice) u.clock (has_run u))) c.shown_charge-shown.ensures
