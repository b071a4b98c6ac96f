use Rattle.grub_table.proofs.Tasks.{task_word-claimed, claim_test, claims_apart}
use Rattle.grub_table.proofs.word_laws.claims_are_one_bit.Goals as goal

pub returns-clause-set : goal.returns-clause-set
returns-clause-set c = task_word-claimed

pub returns-clause-test : goal.returns-clause-test
returns-clause-test c = claim_test

pub returns-clause-apart : goal.returns-clause-apart
returns-clause-apart c = claims_apart
