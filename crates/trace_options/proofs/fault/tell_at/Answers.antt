use Rattle.trace_options.specs.Messages.{line_place}
use Rattle.trace_options.proofs.MessageLemmas.{wrote_on}
use Rattle.trace_options.proofs.fault.tell_at.Goals as goal

pub returns : goal.returns
returns g c =
    let writer = g.E.Write.contents in
    wrote_on c.write_all.result (writer c.args.to.now) (writer c.write.new.self) (writer c.write_all.new.self) (line_place c.args.path.now c.args.line) c.args.what.now c.in_ok-write.ensures.bytes c.write_all.ensures.bytes
