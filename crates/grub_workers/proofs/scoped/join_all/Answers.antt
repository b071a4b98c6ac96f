use Rattle.std.proofs.Common.{◌≡◌, ℕ, ◌+◌, vec_len, rules, arith}
use Rattle.grub_table.specs.declared.pass.Pass.{Pass}
use Rattle.grub_plan.specs.declared.entry.Report.{Report}
use Rattle.grub_plan.specs.Plans.{script_at}
use Rattle.grub_workers.specs.inside.Handles.{Handle, IsOf}
use Rattle.grub_workers.specs.inside.Working.{IsWorked}
use Rattle.grub_workers.proofs.ListsGoneThrough.{shifted, taken, grown_both}
use Rattle.grub_workers.proofs.scoped.join_all.Goals as goal

-- The handle that was joined stood first among the rest, so its promise is that of the next worker.
pub loop-handle-preserved-in-Ok-push-2 : goal.loop-handle-preserved-in-Ok-push-2
loop-handle-preserved-in-Ok-push-2 g c =
    let inv = c.loop-handle.invariant in let step = c.in-Some.ensures.steps in let done = vec_len c.loop-handle.passes in
    let e = c.push.ensures in
    let e2 = c.push-in-Ok.ensures in
    let scripts = c.args._plan.now.scripts in let s = c.args._table.now in let tries = c.args._tries in
    let Of : ℕ → Handle → Type 0 = λ i h. IsOf s tries scripts i h.promise in
    let Did : ℕ → Pass → Report → Type 0 = λ i p r. IsWorked s tries i (script_at scripts i) p r.entries.items in
    let len : vec_len c.push.new.self ≡ done + 1 = search rules in
    let len2 : vec_len c.push-in-Ok.new.self ≡ vec_len c.loop-handle.reports + 1 = search rules in (
      omega (arith, len, len2, inv.0),
      omega (arith, len, step.1, inv.1, e.capacity),
      omega (arith, len, step.1, inv.2, e2.capacity),
      (λ well. let h = inv.3 well in omega (arith, len, step.1, h)),
      (λ well k d low. shifted Of _ _ _ _ done k d step.0 len (inv.4 well (k + 1) d (omega (arith, low, step.1)))),
      λ well.
          let mine : IsOf s tries scripts done c.in-Some.handle.promise = taken Of _ _ _ done step.0 (inv.4 well 0 c.in-Some.handle (omega (arith, step.1))) in
          let next : Did done c.in-Ok.worked.pass c.in-Ok.worked.report = rw (← mine.script, ← mine.number, ← mine.table, ← mine.tries_are) c.in-Ok.ensures in
          grown_both Did c.in-Ok.worked.pass c.in-Ok.worked.report c.loop-handle.passes.items c.push.new.self.items c.loop-handle.reports.items c.push-in-Ok.new.self.items (vec_len c.push.new.self) done len e.by_index.0 (λ d. e.by_index.1 d (search rules))
          (λ j d lt. e2.by_index.0 j d (omega (arith, lt, inv.0))) (λ d. rw (← inv.0) (e2.by_index.1 d (search rules))) (inv.5 well) next,
    )

pub returns-in-None-fault : goal.returns-in-None-fault
returns-in-None-fault g c =
    let well = c.in-None-fault.is in
    let inv = c.loop-handle.invariant in let n = inv.3 well in let none = c.in-None.ensures.steps in
    let len = c.loop-handle.passes.ok in let len2 = c.loop-handle.reports.ok in
    record { passes_len = search rules; reports_len = search rules; each = λ i p r low. inv.5 well i p r (omega (arith, low, n, none.0)) }
