use Rattle.grub_run.proofs.OneFile.{run_as_played}
use Rattle.grub_run.proofs.laws.one_file_is_played_as_it_runs.Goals as goal

pub returns : goal.returns
returns c = run_as_played
