use Rattle.grub_table.proofs.TaskTurns.{load_task_allowed}
use Rattle.grub_table.proofs.shared.Shared.load_task.Goals as goal

pub load-requires-clause-allowed : goal.load-requires-clause-allowed
load-requires-clause-allowed g c = load_task_allowed c.args.self.now c.args.seated.now c.requires.seat c.requires.free c.args.t _ c.requires.task c.task_word_at-at.ensures.value _ g.J.Asked.note.op (λ i. record { task = c.requires.note i; op = g.J.Asked.note.op }) c.requires.op
