use Rattle.grub_table.specs.Words.{queue_word, QueueFits}
use Rattle.grub_table.proofs.Found.{none_from_found}
use Rattle.grub_table.proofs.Halves.{reading, queue_word-made, reading-halves, halves_found, halves_not_found}
use Rattle.grub_table.proofs.queue.unpack_queue.Goals as goal

pub returns-then-queue_fits-clause-found : goal.returns-then-queue_fits-clause-found
returns-then-queue_fits-clause-found c =
    halves_found QueueFits queue_word reading queue_word-made reading-halves c.args.word _ _ c.halves-running.ensures.low c.halves-running.ensures.high (c.queue_fits.ensures.0 c.if-queue_fits.true)

pub returns-then-queue_fits-clause-none : goal.returns-then-queue_fits-clause-none
returns-then-queue_fits-clause-none c =
    none_from_found QueueFits queue_word c.args.word _ (returns-then-queue_fits-clause-found c)

pub returns-else-queue_fits-clause-found : goal.returns-else-queue_fits-clause-found
returns-else-queue_fits-clause-found c =
    halves_not_found QueueFits queue_word reading queue_word-made reading-halves c.args.word _ _ c.halves-running.ensures.low c.halves-running.ensures.high (λ fits. let yes = c.queue_fits.ensures.1 fits in cc)

pub returns-else-queue_fits-clause-none : goal.returns-else-queue_fits-clause-none
returns-else-queue_fits-clause-none c =
    none_from_found QueueFits queue_word c.args.word _ (returns-else-queue_fits-clause-found c)
