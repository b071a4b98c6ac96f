use Rattle.std.proofs.Common.{◌==◌, sym, ap, ◌∙◌}
use Rattle.grub_table.specs.Words.{queue_word, QueueFits}
use Rattle.grub_table.proofs.Halves.{same_queue}
use Rattle.grub_table.specs.inside.Tellings.{ChangedQueue}
use Rattle.grub_table.proofs.Between.{queue_told, value_told}
use Rattle.grub_table.proofs.ClaimTurns.{change_queue_allowed}
use Rattle.grub_table.proofs.shared.Shared.change_queue.Goals as goal

pub exchange-found-requires-clause-allowed : goal.exchange-found-requires-clause-allowed
exchange-found-requires-clause-allowed c =
    let r = c.requires.held in
    change_queue_allowed c.args.self.now c.args.seated.now r.0 _ _ _ r.3 c.args.r _ _ c.args.old c.queue_word_at.ensures r.4.0 c.pack_queue-loaded.ensures c.requires.old (c.pack_queue.ensures ∙ ap queue_word r.4.1)

pub returns-clause-told : goal.returns-clause-told
returns-clause-told c = value_told queue_word QueueFits (λ now. ChangedQueue c.args.r now (c.exchange-found.result == c.pack_queue-loaded.result)) same_queue _ _ _ _ _ (queue_told _ c.args.r _ _ _ _ c.exchange-found.ensures.told c.queue_word_at.ensures) c.requires.old (sym c.pack_queue-loaded.ensures)
