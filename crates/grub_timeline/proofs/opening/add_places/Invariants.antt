use Rattle.std.proofs.Common.{◌≡◌, ◌+◌}
use Rattle.grub_timeline.proofs.opening.add_places.Given as goal

abbrev pub invariant-loop : goal.invariant-loop
invariant-loop l = l.wheel ≡ record l.initial.wheel { spare = l.initial.wheel.spare + l.counter }
