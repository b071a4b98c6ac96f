use Rattle.std.proofs.Common.{List, ℕ, length, arith, ap, sym, ◌∙◌, subst}
use Rattle.grub_book.specs.Machine.{Machine}
use Rattle.grub_wheel.specs.TimerBag.{TimerBag, WheelState}
use Rattle.grub_plan.specs.declared.entry.Ask.TheVariants.{Call}
use Rattle.grub_plan.specs.Timers.{touch_of_call}
use Rattle.grub_plan.specs.Keeping.{IsTouched, places_of}
use Rattle.grub_plan.specs.inside.Keeping.{IsKept}
use Rattle.grub_plan.proofs.Kept.{kept_call}
use Rattle.grub_timeline.specs.TimeLines.{entries_of}
use Rattle.grub_timeline.specs.inside.TimeLines.{told_of}
use Rattle.grub_timeline.specs.inside.Playing.{AreArmers, waits_of}
use Rattle.grub_timeline.proofs.Arming.{armers_call}
use Rattle.grub_timeline.proofs.Entries.{chunk_more, entries_more, room_for_one}
use Rattle.grub_timeline.proofs.player.call.Goals as goal

-- An entry was put, which leaves the timers, and then the answer touched them.
pub returns-clause-plays : goal.returns-clause-plays
returns-clause-plays c =
    let a = c.args in let next = c.put-answer.new.player in let answer = c.put-answer.result in let old = a.player.now.told.items in let put = c.put-answer.ensures in
    let same = ap (λ (w : WheelState). w.timers) c.put-answer.ensures.wheel in
    let touched = subst (λ (timers : TimerBag). IsTouched timers c.keep.new.wheel.timers a.t (touch_of_call a.op answer)) same c.keep.ensures.touched in
    let list = ap entries_of put.list ∙ entries_more old (told_of a.r a.m (Call a.t a.op) answer) in
    let noted = c.note.ensures ∙ ap (λ (l : List ℕ). waits_of l a.t a.r answer) c.put-answer.ensures.armers in
    record {
      playing = record {
        chunk = chunk_more a.player.now.start.value.items _ a.player.now.chunk.items old next.chunk.items next.told.items _ put.start c.requires.playing.chunk put.chunk put.list;
        places = let places = c.requires.playing.places in let setup = ap (λ (s : Machine). length s.tasks) put.setup in let same = ap places_of put.wheel in let kept = c.keep.ensures.places in omega (arith, places, setup, same, kept);
        told = put.told;
        kept = subst (λ (s : Machine). IsKept s (entries_of next.told.items) c.keep.new.wheel.timers) (sym put.setup)
            (kept_call a.player.now.book.setup a.m a.t a.op answer (entries_of old) (entries_of next.told.items) a.player.now.wheel.timers c.keep.new.wheel.timers c.requires.playing.kept c.requires.task list touched);
        armers = subst (λ (k : List ℕ). AreArmers next.book.setup (entries_of next.told.items) k) (sym noted)
            (subst (λ (s : Machine). AreArmers s (entries_of next.told.items) (waits_of a.player.now.armers.items a.t a.r answer)) (sym put.setup)
            (armers_call a.player.now.book.setup a.r a.m a.t a.op answer (entries_of old) (entries_of next.told.items) a.player.now.armers.items c.requires.playing.armers c.requires.task c.requires.queue c.requires.block put.waits list));
      };
      setup = put.setup;
      last = c.keep.ensures.last ∙ ap (λ (w : WheelState). w.last) put.wheel ∙ c.requires.last;
      start = put.start;
      room = put.room;
    }

-- of the places for the timers of all tasks and one more, one is spare
pub keep-requires-clause-room : goal.keep-requires-clause-room
keep-requires-clause-room c = λ block. room_for_one _ (entries_of c.args.player.now.told.items) _ c.requires.playing.kept c.requires.playing.places _ c.put-answer.ensures.wheel
