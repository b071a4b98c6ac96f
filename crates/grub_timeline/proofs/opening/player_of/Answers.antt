use Rattle.std.proofs.Common.{◌≤◌, ◌++◌, ℕ, List, length, get_or, arith, sym, ap, ◌∙◌, subst, append-nil}
use Rattle.std.proofs.lemmas.List.{get_or-replicate, length-replicate}
use Rattle.grub_book.specs.Machine.{Machine}
use Rattle.grub_timeline.specs.declared.log.Log.{Log}
use Rattle.grub_timeline.proofs.Beginning.{playing_first}
use Rattle.grub_timeline.proofs.opening.player_of.Goals as goal

pub returns-clause-playing : goal.returns-clause-playing
returns-clause-playing c =
    let all = c.in_ok-armers.ensures.items_if_clones_equal (λ y h. h) in let start = c.of-start.result in let chunk = c.in_ok-chunk.chunk in let w = c.in_ok-wheel.wheel in
    let s = c.setup-setup.result.now in let count = c.task_count-tasks.ensures.value in let places = c.in_ok-wheel.ensures.places in
    playing_first (record { book = c.in-Ok.book; told = c.new-told.result; start = start; chunk = chunk; wheel = w; armers = c.in_ok-armers.armers }) s
    (sym (ap (λ l. start.value.items ++ l) c.in_ok-chunk.ensures.items ∙ append-nil start.value.items ∙ ap (λ (x : Log). x.items) c.of-start.ensures))
    (omega (arith, count, places)) c.in-Ok.ensures c.new-told.ensures c.in_ok-wheel.ensures.timers
    (subst (λ (k : Machine). 1 ≤ length k.queues) (sym c.setup-setup.ensures.setup) c.setup-setup.ensures.limits.setup.queues_some)
    (ap length all ∙ length-replicate {A = ℕ} c.task_count-tasks.result 0 ∙ count) (λ t d low. ap (λ (l : List ℕ). get_or l t d) all ∙ get_or-replicate {A = ℕ} c.task_count-tasks.result t 0 d (omega (arith, count, low)))
