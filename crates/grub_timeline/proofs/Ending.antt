-- All lines were asked.
use Rattle.std.proofs.Common.{◌≡◌, ℕ, ◌<◌, List, length, sym, ap, ◌∙◌, subst, arith}
use Rattle.std.proofs.lemmas.Option.{get_or_from_slice_get, slice_get_within}
use Rattle.grub_book.specs.Machine.{Machine}
use Rattle.grub_book.specs.Sums.{Records, reading_of}
use Rattle.grub_book.specs.History.{IsLegal, book_of}
use Rattle.grub_book.specs.declared.event.Event.{Event}
use Rattle.grub_book.specs.declared.event.Reading.{Reading}
use Rattle.grub_plan.specs.Plans.{PlanView, IsAskOf}
use Rattle.grub_plan.proofs.Parts.{all_right}
use Rattle.grub_timeline.specs.declared.told.ToldEntry.{ToldEntry}
use Rattle.grub_timeline.specs.declared.player.Player.{Player}
use Rattle.grub_timeline.specs.TimeLines.{AreClosing, AreWithin, IsTimeLine, history_of}
use Rattle.grub_timeline.specs.inside.Merge.{IsMidway}
use Rattle.grub_timeline.specs.inside.Playing.{AreReadings, IsPlayed}

closes : (s : Machine) (history : List Event) (records : Records) (closing : List Reading) → records ≡ book_of s history → AreReadings (length s.queues) records closing → AreClosing s history closing
closes s history records closing is all = record {
  one_each = all.one_each;
  readings = λ r reading there.
      let many = all.one_each in let low = slice_get_within closing r reading there in
      sym (get_or_from_slice_get closing r reading reading there) ∙ all.each r reading (omega (arith, many, low)) ∙ ap (λ b. reading_of b r) is;
}

pub time_line_of : (plan : PlanView) (p : Player) (closing : List Reading) → IsPlayed plan p → AreReadings (length p.book.setup.queues) p.book.records closing → IsTimeLine plan p.told.items closing
time_line_of plan p closing played all = record {
  order = played.order;
  sorted = played.sorted;
  asked = played.asked;
  answered = played.known.answered;
  legal = subst (λ (s : Machine). IsLegal s (history_of p.told.items)) played.setup played.known.legal;
  closes = subst (λ (s : Machine). AreClosing s (history_of p.told.items) closing) played.setup (closes p.book.setup (history_of p.told.items) p.book.records closing played.known.book all);
}

-- the latest entries are of runqueues and tasks that are there
pub within_chunk : (plan : PlanView) (p : Player) (done : List ℕ) → IsMidway plan p done → AreWithin plan.setup p.chunk.items
within_chunk plan p done mid =
    all_right (λ (x : ToldEntry). (x.runqueue < length plan.setup.queues) × IsAskOf (length plan.setup.tasks) x.entry.ask) p.start.value.items p.chunk.items
    (subst (λ (told : List ToldEntry). AreWithin plan.setup told) mid.playing.chunk (subst (λ (s : Machine). AreWithin s p.told.items) mid.setup mid.playing.told.within))
