use Rattle.grub_plan.specs.Contents.{contents}
use Rattle.grub_trace.proofs.ReadLaws.{plan_or_fault}
use Rattle.grub_trace.proofs.read.read_files_by_threads.Goals as goal

pub returns : goal.returns
returns g c = plan_or_fault (contents c.args.files.now) c.plan_by_threads.result c.plan_by_threads.ensures
