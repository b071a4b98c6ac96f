use Rattle.std.proofs.Common.{◌≡◌, ℕ, ◌+◌, [], vec_len, rules, arith, ap, sym, ◌∙◌}
use Rattle.std.proofs.lemmas.Option.{get_or_from_slice_get}
use Rattle.grub_table.specs.declared.pass.Pass.{Pass}
use Rattle.grub_table.specs.Calls.{IsNew}
use Rattle.grub_workers.specs.declared.work.WorkOf.{WorkOf}
use Rattle.grub_plan.specs.Plans.{script_at}
use Rattle.grub_workers.specs.inside.Handles.{Handle, IsOf}
use Rattle.grub_workers.proofs.ListsGoneThrough.{shifted, taken, grown}
use Rattle.grub_workers.proofs.scoped.start_all.Goals as goal

-- The pass that was taken stood first among the rest, so its worker is the next one.
pub loop-pass-preserved : goal.loop-pass-preserved
loop-pass-preserved g c =
    let inv = c.loop-pass.invariant in let step = c.in-Some.ensures.steps in let done = vec_len c.loop-pass.handles in
    let pushed = c.push in let e = c.push.ensures in
    let scripts = c.args.work.plan.now.scripts in let s = c.args.work.table.now in
    let Fresh : ℕ → Pass → Type 0 = λ i p. IsNew s i p in
    let Of : ℕ → Handle → Type 0 = λ i h. IsOf s c.args.work.attempts.tries scripts i h.promise in
    let mine : IsNew s done c.in-Some.pass = taken Fresh _ _ _ done step.0 (inv.3 0 c.in-Some.pass (omega (arith, step.1))) in
    let len : vec_len pushed.new.self ≡ done + 1 = search rules in
    let number = c.number-number.ensures ∙ mine.number in let promise = c.in-Ok-handle.ensures.ok in
    let script : c.script-script.result.now ≡ script_at scripts done = sym (get_or_from_slice_get scripts c.number-number.result c.script-script.result.now [] c.script-script.ensures.script) ∙ ap (script_at scripts) number in
    let to : c.in-Ok-handle.handle.promise ≡ record { table = c.args.work.table; number = c.number-number.result; script = c.script-script.result; tries = c.args.work.attempts.tries } = search rules in
    let next : IsOf s c.args.work.attempts.tries scripts done c.in-Ok-handle.handle.promise = record {
      table = ap (λ (w : WorkOf). w.table.now) to;
      tries_are = ap (λ (w : WorkOf). w.tries) to;
      number = ap (λ (w : WorkOf). w.number) to ∙ number;
      script = ap (λ (w : WorkOf). w.script.now) to ∙ script;
    } in (
      omega (arith, len, step.1, inv.0),
      omega (arith, inv.1, e.capacity),
      inv.2,
      (λ k d low. shifted Fresh _ _ _ _ done k d step.0 len (inv.3 (k + 1) d (omega (arith, low, step.1)))),
      grown Of _ _ _ _ done len e.by_index.0 (λ d. e.by_index.1 d (search rules)) inv.4 next,
    )
