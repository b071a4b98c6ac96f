use Rattle.std.proofs.Common.{map, take}
use Rattle.grubtrace.specs.CommandLine.{option}
use Rattle.grubtrace.specs.inside.Arguments.{Adds}
use Rattle.grubtrace.proofs.plain.with_options.Given as goal

abbrev pub invariant-loop-it : goal.invariant-loop-it
invariant-loop-it l = Adds (map (λ o. option o.name.now) (take l.it-index l.options)) l.initial.command l.command
