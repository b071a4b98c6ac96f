use Rattle.grub_table.proofs.shared.Shared.start.Given as goal

abbrev pub ghosts-look_at_task : goal.ghosts-look_at_task
ghosts-look_at_task a = record { note = record { task = a.t; op = a.op } }
