use Rattle.grub_trace.proofs.LineLemmas.{same_error}
use Rattle.grub_run.proofs.FilesLemmas.{count_told}
use Rattle.grub_run.proofs.paths.check_paths.Goals as goal

pub returns-clause-fault : goal.returns-clause-fault
returns-clause-fault g c =
    let (files, hold) = c.in_ok-read_each.ensures.files in
    let told = c.in-Err.ensures in
    count_told _ _ _ c.args.paths.now files c.in-Err.fault c.placed.result (λ h. same_error {X = Unit {0}} _ _ (told.many h)) (λ h. same_error {X = Unit {0}} _ _ (told.nothing h)) told.exact hold c.placed.ensures
