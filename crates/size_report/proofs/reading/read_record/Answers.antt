use Rattle.size_report.proofs.ReadLemmas.{record_told}
use Rattle.size_jobs.specs.Lines.{jobs_of}
use Rattle.size_report.proofs.reading.read_record.Goals as goal

pub returns-in-Ok : goal.returns-in-Ok
returns-in-Ok g c =
    record_told g.O.Fn c.args.source.now.open g.N.Fn c.args.source.now.read c.args.path.now (jobs_of c.new-lines.result) (jobs_of c.read_lines.new.lines) c.in-Ok.halt c.in_ok-record-in-Ok.record c.new-lines.ensures c.in_ok-record-in-Ok.ensures.flaw c.in_ok-record-in-Ok.ensures.told c.in-Ok.ensures
