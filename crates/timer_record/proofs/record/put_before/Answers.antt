use Rattle.std.proofs.Common.{ap, ◌∙◌, arith}
use Rattle.timer_record.specs.Kept.{with_before}
use Rattle.timer_record.proofs.BeforeLemmas.{before_set}
use Rattle.timer_record.proofs.record.put_before.Goals as goal

pub returns : goal.returns
returns c =
    before_set c.make_place.new.before.items c.args.cpu c.args.told (omega (arith, c.make_place.new.before.ok.0, c.in_ok-make_place.ensures.room))
    ∙ ap (with_before c.args.cpu c.args.told) c.in_ok-make_place.ensures.same
