use Rattle.std.proofs.Common.{arith}
use Rattle.grub_timeline.specs.TimeLines.{entries_of}
use Rattle.grub_timeline.proofs.Entries.{few_armed}
use Rattle.grub_timeline.proofs.Lining.{placed_asked}
use Rattle.grub_timeline.proofs.Plays.{plays_twice}
use Rattle.grub_timeline.proofs.line.ask_line.Goals as goal

-- at most one timer a task is due
pub ask_due-requires-clause-room : goal.ask_due-requires-clause-room
ask_due-requires-clause-room c =
    let few = few_armed _ (entries_of c.args.player.now.told.items) _ c.requires.playing.kept in let room = c.requires.room in
    omega (arith, few, room)

pub ask-requires-clause-room : goal.ask-requires-clause-room
ask-requires-clause-room c =
    let few = few_armed _ (entries_of c.args.player.now.told.items) _ c.requires.playing.kept in let room = c.requires.room in
    let most = c.ask_due.ensures.most in let same = c.ask_due.ensures.plays.room in
    omega (arith, few, room, most, same)

pub returns-clause-plays : goal.returns-clause-plays
returns-clause-plays c = plays_twice _ _ _ _ _ c.ask_due.ensures.plays c.ask.ensures.plays

pub returns-clause-asked : goal.returns-clause-asked
returns-clause-asked c =
    let p = c.args.placed in
    placed_asked p c.args.player.now.told.items c.ask_due.new.player.told.items c.ask.new.player.told.items c.ask_due.ensures.asked c.ask_due.ensures.goes_on c.ask.ensures.line c.ask.ensures.goes_on
