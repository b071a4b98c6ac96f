use Rattle.grub_timeline.specs.TimeLines.{entries_of}
use Rattle.grub_timeline.proofs.Lining.{called, called_of, looked, looked_of}
use Rattle.grub_timeline.proofs.GoesOn.{goes_twice}
use Rattle.grub_timeline.proofs.Plays.{plays_twice}
use Rattle.grub_timeline.proofs.line.ask.Goals as goal

pub returns-in-None-clause-line : goal.returns-in-None-clause-line
returns-in-None-clause-line c =
    let a = c.args in looked a.r a.line a.player.now.told.items c.look.new.player.told.items c.in-None.ensures c.look.ensures.looked

pub returns-in-None-clause-goes_on : goal.returns-in-None-clause-goes_on
returns-in-None-clause-goes_on c = let a = c.args in looked_of a.r a.line.m a.player.now.told.items c.look.new.player.told.items c.look.ensures.looked

pub returns-in-Some-clause-plays : goal.returns-in-Some-clause-plays
returns-in-Some-clause-plays c = plays_twice _ _ _ _ _ c.call-answer.ensures.plays c.follow.ensures.plays

pub returns-in-Some-clause-line : goal.returns-in-Some-clause-line
returns-in-Some-clause-line c =
    let a = c.args in let some = c.in-Some in let answer = c.call-answer in
    called a.r a.line some.t some.op answer.result a.player.now.told.items answer.new.player.told.items (entries_of c.follow.new.player.told.items) some.ensures answer.ensures.list c.follow.ensures.follows

pub returns-in-Some-clause-goes_on : goal.returns-in-Some-clause-goes_on
returns-in-Some-clause-goes_on c =
    let a = c.args in let some = c.in-Some in let answer = c.call-answer in let old = a.player.now.told.items in let asked = answer.new.player.told.items in
    goes_twice a.r old asked c.follow.new.player.told.items (called_of a.r a.line some.t some.op answer.result old asked some.ensures answer.ensures.list) c.follow.ensures.goes_on
