use Rattle.std.proofs.Common.{◌≡◌, true, false, get_or, rules, sym, ap, ◌∙◌, arith}
use Rattle.grub_book.specs.Rebase.{holds_back}
use Rattle.library_book.specs.Memory.{record_of, records_of}
use Rattle.library_book.specs.declared.asked.NdReply.{NdReply}
use Rattle.library_book.specs.inside.Moves.{no_task}
use Rattle.library_book.proofs.Rebases.{answer_held, answer_free, can_stand, few_tasks, none_held, task_here, task_more}
use Rattle.library_book.proofs.rebasing.foreseen_rebase.Goals as goal

pub returns-then-tasks-gt-FLAT_TASKS_MAX : goal.returns-then-tasks-gt-FLAT_TASKS_MAX
returns-then-tasks-gt-FLAT_TASKS_MAX c =
    λ s queues book. let few = few_tasks s c.args.tasks.now queues book in absurd (omega (arith, few))

pub returns-in_default : goal.returns-in_default
returns-in_default c =
    λ s queues book. absurd (c.in_default.ensures.none (search rules) (can_stand s c.args.tasks.now queues book c.loop-t.t _ c.loop-t-test.true))

pub returns-then-holds_back : goal.returns-then-holds_back
returns-then-holds_back c =
    λ s queues book.
    let tasks = c.args.tasks.now in
    let i = c.loop-t.t in
    let held : holds_back c.args.by (record_of (get_or tasks i no_task)) ≡ true = ap (holds_back c.args.by) (sym c.in-Some.ensures.some.0) ∙ sym c.holds_back.ensures ∙ c.if-holds_back.true in
    let first = task_here c.args.by tasks i no_task c.loop-t-test.true c.loop-t.invariant held in
    ap (λ (r : NdReply). record r { number = i }) c.plain_reply-then-holds_back.ensures ∙ sym (ap (λ z. z.1) (answer_held c.args.by (records_of tasks) i first))

pub loop-t-preserved : goal.loop-t-preserved
loop-t-preserved c =
    let tasks = c.args.tasks.now in
    let i = c.loop-t.t in
    let free : holds_back c.args.by (record_of (get_or tasks i no_task)) ≡ false = ap (holds_back c.args.by) (sym c.in-Some.ensures.some.0) ∙ sym c.holds_back.ensures ∙ c.if-holds_back.false in
    task_more c.args.by tasks i no_task c.loop-t-test.true c.loop-t.invariant free

pub returns : goal.returns
returns c =
    λ s queues book.
    let tasks = c.args.tasks.now in
    let none = none_held c.args.by tasks c.loop-t.t c.loop-t-test.false c.loop-t.invariant in
    c.plain_reply-2.ensures ∙ sym (ap (λ z. z.1) (answer_free c.args.by (records_of tasks) none))
