use Rattle.grub_table.proofs.Growths.{learns_known, learns_none, learns_twice}
use Rattle.grub_table.proofs.laws.passes_learn_on.Goals as goal

pub returns-clause-nothing : goal.returns-clause-nothing
returns-clause-nothing c = learns_none

pub returns-clause-twice : goal.returns-clause-twice
returns-clause-twice c = learns_twice

pub returns-clause-events : goal.returns-clause-events
returns-clause-events c = λ x y h ms a m g k. (learns_known x y h ms a m g k).0

pub returns-clause-marks : goal.returns-clause-marks
returns-clause-marks c = λ x y h ms a m g k. (learns_known x y h ms a m g k).1
