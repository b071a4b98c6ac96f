use Rattle.grub_table.proofs.Bounds.{QueueFits-sound, PlaceFits-kept, ServerFits-kept}
use Rattle.grub_table.proofs.word_laws.sound_books_have_words.Goals as goal

pub returns-clause-queue : goal.returns-clause-queue
returns-clause-queue c = QueueFits-sound

pub returns-clause-place : goal.returns-clause-place
returns-clause-place c = PlaceFits-kept

pub returns-clause-server : goal.returns-clause-server
returns-clause-server c = ServerFits-kept
