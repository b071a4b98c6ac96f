use Rattle.grub_run.proofs.FilesLemmas.{fault_told, handed_on}
use Rattle.grub_run.proofs.PlacedLemmas.{not_of_reading}
use Rattle.grub_run.proofs.printing.print_reports.Goals as goal

pub returns-in_err-files-clause-beginning : goal.returns-in_err-files-clause-beginning
returns-in_err-files-clause-beginning g c = handed_on _ _ c.from_residual-in_err-files.ensures.1 (λ wrote. absurd (not_of_reading _ _ c.in_err-files.ensures.reading wrote))

pub returns-in_err-check_paths-clause-beginning : goal.returns-in_err-check_paths-clause-beginning
returns-in_err-check_paths-clause-beginning g c = handed_on _ _ c.from_residual.ensures.1 (λ wrote. absurd (not_of_reading _ _ c.in_err-check_paths.ensures.reading wrote))

pub returns-in-Err-clause-fault : goal.returns-in-Err-clause-fault
returns-in-Err-clause-fault g c = fault_told _ _ _ _ _ c.in-Err.fault c.placed.result c.in_ok-files.ensures.files c.in-Err.ensures.fault c.placed.ensures
