use Rattle.grub_table.specs.Words.{queue_word, QueueFits}
use Rattle.grub_table.proofs.Halves.{same_queue}
use Rattle.grub_table.specs.inside.Tellings.{SawReading}
use Rattle.grub_table.proofs.Between.{queue_told, value_told}
use Rattle.grub_table.proofs.TaskTurns.{look_allowed}
use Rattle.grub_table.proofs.shared.Shared.look.Goals as goal

pub load-word-requires-clause-allowed : goal.load-word-requires-clause-allowed
load-word-requires-clause-allowed c = look_allowed c.args.self.now c.args.seated.now c.requires.seat c.args.r _ c.requires.queue c.queue_word_at.ensures

pub reading_in-requires : goal.reading_in-requires
reading_in-requires c = let o = c.load-word.ensures.told.of c.args.r c.queue_word_at.ensures in (o.0, o.1, o.2)

pub returns-clause-told : goal.returns-clause-told
returns-clause-told c = value_told queue_word QueueFits (SawReading c.args.r) same_queue _ _ _ _ _ (queue_told _ c.args.r _ _ _ _ c.load-word.ensures.told c.queue_word_at.ensures) c.reading_in.ensures.fits c.reading_in.ensures.word
