use Rattle.timer_record.proofs.FirstLemmas.{kept_of_none, none_in}
use Rattle.timer_record.proofs.record.OpenRecord.new.Goals as goal

pub returns : goal.returns
returns c =
    kept_of_none c.args.keeps_idle c.args.keeps_cancels c.new.result.items c.new-2.result.items c.new-3.result.items c.new-4.result.items c.new-5.result.items c.new-6.result.items
    _ _ _ c.new-7.result.items c.new-11.result.items
    c.new.ensures.items c.new-2.ensures.items c.new-3.ensures.items c.new-4.ensures.items c.new-5.ensures.items c.new-6.ensures.items
    (none_in c.new-8.result c.new-8.ensures.empty) (none_in c.new-9.result c.new-9.ensures.empty) (none_in c.new-10.result c.new-10.ensures.empty)
    c.new-7.ensures.items c.new-11.ensures.items
