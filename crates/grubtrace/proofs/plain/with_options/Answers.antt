use Rattle.std.proofs.Common.{subst}
use Rattle.grubtrace.proofs.AddingLemmas.{adds_more, more_taken}
use Rattle.grubtrace.specs.CommandLine.{option}
use Rattle.grubtrace.specs.inside.Arguments.{Adds}
use Rattle.grubtrace.proofs.plain.with_options.Goals as goal

pub loop-it-preserved : goal.loop-it-preserved
loop-it-preserved c =
    let more = adds_more c.loop-it.invariant c.in_ok-command.ensures c.option.ensures in
    subst (λ l. Adds l c.args.command c.in_ok-command.command) (more_taken (λ o. option o.name.now) c.args.options.now c.loop-it.it-index _ c.loop-it-test.true) more
