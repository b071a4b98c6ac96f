-- A fault of a run is none of reading.
use Rattle.std.proofs.Common.{◌≡◌}
use Rattle.grub_run.specs.declared.grub_fault.GrubFault.{GrubFault}
use Rattle.grub_run.specs.declared.program_fault.ProgramFault.{ProgramFault}
use Rattle.grub_run.specs.declared.program_fault.ProgramFault.TheVariants as faults
use Rattle.grub_run.specs.inside.Telling.{IsOfReading}

pub not_of_reading : (r : ProgramFault) (fault : GrubFault) → IsOfReading r → r ≡ faults.Run fault → ⊥
not_of_reading r fault reading is = rw is at reading
