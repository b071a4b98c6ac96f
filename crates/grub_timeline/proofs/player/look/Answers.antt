use Rattle.std.proofs.Common.{◌≡◌, ◌++◌, ◌∷◌, [], rules, ap, refl, ◌∙◌}
use Rattle.grub_plan.specs.declared.entry.Ask.TheVariants.{Read}
use Rattle.grub_plan.specs.declared.entry.Answer.TheVariants.{Seen}
use Rattle.grub_plan.proofs.Kept.{kept_look}
use Rattle.grub_timeline.specs.TimeLines.{entries_of}
use Rattle.grub_timeline.specs.inside.TimeLines.{told_of}
use Rattle.grub_timeline.proofs.Arming.{armers_look}
use Rattle.grub_timeline.proofs.Entries.{chunk_more, entries_more, known_look}
use Rattle.grub_timeline.proofs.player.look.Goals as goal

pub returns-clause-plays : goal.returns-clause-plays
returns-clause-plays c =
    let a = c.args in let was = c.requires.playing in let reading = c.read-reading.result in let old = a.player.now.told.items in let new = c.and-player.result.items in
    let told : new ≡ old ++ told_of a.r a.m Read (Seen reading) ∷ [] = search rules in
    let list = ap entries_of told ∙ entries_more old (told_of a.r a.m Read (Seen reading)) in
    record {
      playing = record {
        chunk = chunk_more a.player.now.start.value.items _ a.player.now.chunk.items old c.push_reserved.new.self.items new _ refl was.chunk (search rules) told;
        places = was.places;
        told = known_look a.player.now.book.setup a.player.now.book.records old new a.r a.m reading was.told c.requires.queue c.read-reading.ensures.value told;
        kept = kept_look a.player.now.book.setup a.m reading (entries_of old) (entries_of new) a.player.now.wheel.timers was.kept list;
        armers = armers_look a.player.now.book.setup a.m (Seen reading) (entries_of old) (entries_of new) a.player.now.armers.items was.armers list;
      };
      setup = refl;
      last = c.requires.last;
      start = refl;
      room = search rules;
    }

pub returns-clause-looked : goal.returns-clause-looked
returns-clause-looked c = record { reading = c.read-reading.result; list = search rules }
