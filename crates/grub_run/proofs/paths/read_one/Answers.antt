use Rattle.std.proofs.Common.{rules}
use Rattle.grub_run.proofs.FilesLemmas.{opened_whole}
use Rattle.grub_run.proofs.paths.read_one.Goals as goal

pub returns-in-Ok-clause-opened : goal.returns-in-Ok-clause-opened
returns-in-Ok-clause-opened g c = opened_whole _ _ _ _ c.in-Ok.bytes.items (search rules) c.in-Ok.ensures.whole
