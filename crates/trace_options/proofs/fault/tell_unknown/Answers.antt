use Rattle.std.proofs.Common.{◌++◌}
use Rattle.std.specs.Prelude.{codes, decimal}
use Rattle.trace_options.specs.Messages.{line_place}
use Rattle.trace_options.proofs.MessageLemmas.{wrote_on}
use Rattle.trace_options.proofs.fault.tell_unknown.Goals as goal

pub returns : goal.returns
returns g c =
    let writer = g.E.Write.contents in
    let comm = c.args.comm.now in
    let pid = codes " (pid " ++ (decimal c.args.pid ++ codes ")\n") in
    let place = line_place c.args.path.now c.args.line ++ codes "50 UnknownTask " in
    let written = wrote_on c.writeln.result (writer c.tell_at.new.to) (writer c.write_all.new.self) (writer c.writeln.new.self) comm pid c.in_ok-write_all.ensures.bytes c.writeln.ensures.bytes in
    wrote_on c.writeln.result (writer c.args.to.now) (writer c.tell_at.new.to) (writer c.writeln.new.self) place (comm ++ pid) c.in_ok-tell_at.ensures written
