use Rattle.std.proofs.Common.{◌≡◌, map, string_bytes}
use Rattle.grub_trace.proofs.read.names.Given as goal

abbrev pub invariant-loop-task : goal.invariant-loop-task
invariant-loop-task l = map string_bytes l.names.items ≡ map (λ t. string_bytes t.name) l.yielded
