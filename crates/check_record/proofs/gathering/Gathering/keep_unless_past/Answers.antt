use Rattle.check_record.specs.Timed.{event_of}
use Rattle.check_record.proofs.PastLemmas.{else_kept, past_stays}
use Rattle.check_record.proofs.gathering.Gathering.keep_unless_past.Goals as goal

pub returns-then-is_past : goal.returns-then-is_past
returns-then-is_past c = past_stays c.args.self.now (event_of c.args.read c.args.fixed) c.is_past.result c.is_past.ensures c.if-is_past.true

pub returns : goal.returns
returns c = else_kept c.keep.result c.args.self.now _ (event_of c.args.read c.args.fixed) c.is_past.result c.is_past.ensures c.if-is_past.false c.keep.ensures
