use Rattle.std.proofs.Common.{refl}
use Rattle.grub_book.specs.declared.op.Op.TheVariants.{Leave}
use Rattle.grub_plan.specs.declared.entry.Ask.TheVariants.{Call}
use Rattle.grub_timeline.specs.inside.TimeLines.{told_of}
use Rattle.grub_timeline.proofs.GoesOn.{goes_on, goes_twice}
use Rattle.grub_timeline.proofs.Plays.{plays_twice}
use Rattle.grub_timeline.proofs.line.follow.Goals as goal

-- the task left, and then it joined where it had
pub returns-in-Wake-Replied-Elsewhere-clause-goes_on : goal.returns-in-Wake-Replied-Elsewhere-clause-goes_on
returns-in-Wake-Replied-Elsewhere-clause-goes_on c =
    let a = c.args in let wake = c.in-Wake-Replied-Elsewhere in let old = a.player.now.told.items in let left = c.call-left.new.player.told.items in
    goes_twice a.r old left c.join_here.new.player.told.items (goes_on a.r old left (told_of a.r a.m (Call wake.t Leave) c.call-left.result) refl c.call-left.ensures.list) c.join_here.ensures.goes_on

pub returns-in-Wake-Replied-Elsewhere-clause-plays : goal.returns-in-Wake-Replied-Elsewhere-clause-plays
returns-in-Wake-Replied-Elsewhere-clause-plays c = plays_twice _ _ _ _ _ c.call-left.ensures.plays c.join_here.ensures.plays
