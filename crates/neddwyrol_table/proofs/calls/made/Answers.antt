use Rattle.std.proofs.Common.{refl}
use Rattle.grub_table.specs.declared.answer.Started.TheVariants as started
use Rattle.grub_table.specs.declared.answer.Finished.TheVariants as finished
use Rattle.neddwyrol_table.proofs.Calling.{called_answered, called_busy, called_done, called_lost, called_with}
use Rattle.neddwyrol_table.proofs.calls.made.Goals as goal

pub returns-in-Answered-clause-called : goal.returns-in-Answered-clause-called
returns-in-Answered-clause-called c =
    let a = c.args in let i = c.in-Answered in
    called_with a.shared.now a.pass a.t a.op a.tries _ _ i.pass c.reply_of.ensures
    (called_answered a.shared.now a.pass a.t a.op a.tries (started.Answered i.pass i.reply) i.ensures.started i.ensures.brief i.pass i.reply refl)

pub returns-in-Busy-clause-called : goal.returns-in-Busy-clause-called
returns-in-Busy-clause-called c =
    let a = c.args in let i = c.in-Busy in
    called_with a.shared.now a.pass a.t a.op a.tries _ _ i.pass c.plain_reply.ensures
    (called_busy a.shared.now a.pass a.t a.op a.tries (started.Busy i.pass i.field-1) i.ensures.started i.ensures.brief i.pass i.field-1 refl)

pub returns-in-Done-clause-called : goal.returns-in-Done-clause-called
returns-in-Done-clause-called c =
    let a = c.args in let h = c.in-Held in let i = c.in-Done in
    called_with a.shared.now a.pass a.t a.op a.tries _ _ i.pass c.reply_of-in-Done.ensures
    (called_done a.shared.now a.pass a.t a.op a.tries (started.Held h.claim) h.ensures.started h.ensures.brief h.claim refl (finished.Done i.pass i.reply) i.ensures.finished i.ensures.within i.pass i.reply refl)

pub returns-in-Held-finish-clause-called : goal.returns-in-Held-finish-clause-called
returns-in-Held-finish-clause-called c =
    let a = c.args in let h = c.in-Held in let i = c.in-Held-finish in
    called_with a.shared.now a.pass a.t a.op a.tries _ _ c.cancel.result c.plain_reply-in-Held-finish.ensures
    (called_lost a.shared.now a.pass a.t a.op a.tries (started.Held h.claim) h.ensures.started h.ensures.brief h.claim refl (finished.Held i.claim) i.ensures.finished i.ensures.within i.claim c.cancel.result refl c.cancel.ensures.cancelled)
