use Rattle.grub_table.proofs.Bounds.{queue_word-lt, server_word-lt, params_word-lt, task_word-lt}
use Rattle.grub_table.proofs.word_laws.words_have_64_bits.Goals as goal

pub returns-clause-queue : goal.returns-clause-queue
returns-clause-queue c = queue_word-lt

pub returns-clause-server : goal.returns-clause-server
returns-clause-server c = server_word-lt

pub returns-clause-params : goal.returns-clause-params
returns-clause-params c = params_word-lt

pub returns-clause-task : goal.returns-clause-task
returns-clause-task c = task_word-lt
