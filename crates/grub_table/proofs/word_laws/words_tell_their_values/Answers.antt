use Rattle.grub_table.proofs.Halves.{same_queue, same_server, same_params}
use Rattle.grub_table.proofs.Tasks.{same_fields}
use Rattle.grub_table.proofs.word_laws.words_tell_their_values.Goals as goal

pub returns-clause-queue : goal.returns-clause-queue
returns-clause-queue c = same_queue

pub returns-clause-server : goal.returns-clause-server
returns-clause-server c = same_server

pub returns-clause-params : goal.returns-clause-params
returns-clause-params c = same_params

pub returns-clause-task : goal.returns-clause-task
returns-clause-task c = same_fields
