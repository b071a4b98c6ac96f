use Rattle.grub_table.specs.Calls.{IsLost, IsWithin}
use Rattle.grub_table.specs.declared.answer.Finished.TheVariants.{Held}
use Rattle.grub_table.proofs.shared.Shared.try_on.Given as goal

abbrev pub invariant-loop : goal.invariant-loop
invariant-loop l = record {
  lost : IsLost l.self l.initial.claim l.counter l.claim;
  made : IsWithin l.initial.claim l.counter (Held l.claim);
}
