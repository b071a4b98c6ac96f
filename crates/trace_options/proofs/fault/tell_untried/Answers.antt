use Rattle.std.proofs.Common.{◌++◌}
use Rattle.std.specs.Prelude.{codes}
use Rattle.trace_options.specs.Messages.{untried_place}
use Rattle.trace_options.proofs.MessageLemmas.{wrote_on}
use Rattle.trace_options.proofs.fault.tell_untried.Goals as goal

pub returns : goal.returns
returns g c =
    let writer = g.E.Write.contents in
    wrote_on c.writeln.result (writer c.args.to.now) (writer c.write.new.self) (writer c.writeln.new.self) (untried_place c.args.path.now c.args.kernel c.args.differ) (c.args.tried.now ++ codes "\n") c.in_ok-write.ensures.bytes c.writeln.ensures.bytes
