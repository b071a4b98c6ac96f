use Rattle.std.proofs.Common.{◌≡◌, subst}
use Rattle.trace_file.specs.Reading.{IsSoOf}
use Rattle.check_record.specs.Reading.{HasShownFrom}
use Rattle.check_record.specs.Seen.{shown_in}
use Rattle.check_record.specs.Shown.{Shown}
use Rattle.check_record.proofs.whole.gathered.Goals as goal

-- nothing was read before
pub returns-in-Ok : goal.returns-in-Ok
returns-in-Ok g c =
    subst (λ (s : Shown). IsSoOf g.O.Fn c.args.opens.now g.N.Fn c.args.read.now c.args.request.path.now (HasShownFrom s (shown_in c.read_trace.new.gathering)))
    c.in_ok-gathering.ensures c.in-Ok.ensures
