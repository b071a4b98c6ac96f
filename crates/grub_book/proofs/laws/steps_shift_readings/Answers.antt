use Rattle.grub_book.proofs.Totals.{step_shifts}
use Rattle.grub_book.proofs.laws.steps_shift_readings.Goals as goal

pub returns : goal.returns
returns c = step_shifts
