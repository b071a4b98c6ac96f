use Rattle.check_record.specs.Seen.{shown_in}
use Rattle.check_record.proofs.ReadLemmas.{was_read}
use Rattle.check_record.proofs.reading.read_trace.Goals as goal

pub returns-in-Ok : goal.returns-in-Ok
returns-in-Ok g c =
    was_read g.O.Fn c.args.opens.now g.N.Fn c.args.read.now c.args.path.now (shown_in c.args.gathering.now) (shown_in c.read_lines.new.lines)
    c.in-Ok.halt c.end_of.result c.end_of.ensures c.in-Ok.ensures
