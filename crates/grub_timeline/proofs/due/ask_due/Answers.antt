use Rattle.std.proofs.Common.{◌≡◌, ◌≤◌, ◌+◌, ◌++◌, ◌∷◌, [], Some, ℕ, List, length, arith, refl, rules, sym, ap, ◌∙◌, subst}
use Rattle.std.proofs.lemmas.Fn.{FoldsTo-push}
use Rattle.grub_book.specs.Machine.{Machine}
use Rattle.grub_book.specs.declared.op.Op.TheVariants as ops
use Rattle.grub_wheel.specs.TimerBag.{WheelState}
use Rattle.grub_plan.specs.declared.entry.Ask.TheVariants.{Call}
use Rattle.grub_plan.specs.Asked.{AsksTimer}
use Rattle.grub_plan.specs.Keeping.{places_of}
use Rattle.grub_plan.specs.inside.Keeping.{IsKept}
use Rattle.grub_plan.proofs.Alarms.{len_some, len_taken, next_due, none_due, places_due, touched_removed}
use Rattle.grub_plan.proofs.Kept.{kept_call}
use Rattle.grub_timeline.specs.TimeLines.{armer, entries_of}
use Rattle.grub_timeline.specs.inside.TimeLines.{told_of}
use Rattle.grub_timeline.specs.inside.Playing.{AreArmers}
use Rattle.grub_timeline.proofs.Arming.{armers_timer}
use Rattle.grub_timeline.proofs.Entries.{chunk_more, entries_more}
use Rattle.grub_timeline.proofs.GoesOn.{goes_nowhere, goes_on, goes_twice}
use Rattle.grub_timeline.proofs.due.ask_due.Goals as goal

pub loop-timer-smaller : goal.loop-timer-smaller
loop-timer-smaller c =
    let some = c.in-Some.ensures in let old = c.loop-timer.player.wheel.timers in
    let is = ap (λ (w : WheelState). w.timers) (c.put.ensures.wheel ∙ some.taken) in
    len_taken old c.put.new.player.wheel.timers c.in-Some.timer some.armed is

pub loop-timer-init : goal.loop-timer-init
loop-timer-init c = (c.requires.playing, c.requires.not_past, refl, ([], refl), (λ r. goes_nowhere r _ _ refl), refl, omega arith, refl)

-- The timer that was taken out is the next one of those that the entries leave.
pub loop-timer-preserved : goal.loop-timer-preserved
loop-timer-preserved c =
    let inv = c.loop-timer.invariant in let some = c.in-Some.ensures in let x = c.in-Some.timer in
    let before = c.loop-timer.player in let next = c.put.new.player in let put = c.put.ensures in let kept = inv.0.kept in
    let op = ops.Timer x.ticket x.z in let answer = c.put.result in
    let old = entries_of before.told.items in let new = entries_of next.told.items in
    let told = told_of c.index-r.result.now x.z (Call x.t op) answer in
    let list = ap entries_of put.list ∙ entries_more before.told.items told in
    let is = ap (λ (w : WheelState). w.timers) (c.put.ensures.wheel ∙ some.taken) in
    let last : next.wheel.last ≡ Some c.args.m = ap (λ (w : WheelState). w.last) (c.put.ensures.wheel ∙ some.taken) in
    let due = next_due before.wheel.timers old c.args.m x kept.armed_are some.armed some.due some.least in
    let low = kept.tasks x.t _ due.armed in
    let armed_by : told.runqueue ≡ armer old x.t = c.index-r.ensures ∙ inv.0.armers.each x.t c.index-r.result.now low in (
      record {
        chunk = chunk_more before.start.value.items _ before.chunk.items before.told.items next.chunk.items next.told.items _ put.start inv.0.chunk put.chunk put.list;
        places = let places = inv.0.places in let setup = ap (λ (s : Machine). length s.tasks) put.setup in let same = ap places_of c.put.ensures.wheel in let kept = places_due before.wheel _ _ x some.armed some.taken in omega (arith, places, setup, same, kept);
        told = put.told;
        kept = subst (λ (s : Machine). IsKept s new next.wheel.timers) (sym put.setup)
            (kept_call before.book.setup x.z x.t op answer old new before.wheel.timers next.wheel.timers kept low list (touched_removed before.wheel.timers next.wheel.timers x.t is));
        armers = subst (λ (k : List ℕ). AreArmers next.book.setup new k) (sym c.put.ensures.armers)
            (subst (λ (s : Machine). AreArmers s new before.armers.items) (sym put.setup) (armers_timer before.book.setup x.z x.t x.ticket x.z answer old new before.armers.items inv.0.armers list));
      },
      (λ k at. let same : Some c.args.m ≡ Some k = sym last ∙ at in grind rules),
      put.setup ∙ inv.2,
      (
        inv.3.0 ++ x ∷ [],
        FoldsTo-push (AsksTimer c.args.m) _ inv.3.0 old x _ inv.3.1 (record { next = due; asks = record { answer = _; list = list } }),
      ),
      (λ r. goes_twice r c.args.player.now.told.items before.told.items next.told.items (inv.4 r) (goes_on r before.told.items next.told.items told armed_by put.list)),
      put.start ∙ inv.5,
      let most = inv.6 in let fewer = len_taken before.wheel.timers next.wheel.timers x some.armed is in let one = put.one in omega (arith, most, fewer, one),
      put.room ∙ inv.7,
    )

-- A wheel with no timer that is due by a moment has no timer taken.
pub returns-clause-plays : goal.returns-clause-plays
returns-clause-plays c =
    let inv = c.loop-timer.invariant in let before = c.loop-timer.player in let is = c.in_default.ensures.kept in
    record {
      playing = record {
        chunk = inv.0.chunk;
        places = subst (λ (w : WheelState). length before.book.setup.tasks + 1 ≤ places_of w) (sym is) inv.0.places;
        told = inv.0.told;
        kept = subst (λ (w : WheelState). IsKept before.book.setup (entries_of before.told.items) w.timers) (sym is) inv.0.kept;
        armers = inv.0.armers;
      };
      setup = inv.2;
      last = ap (λ (w : WheelState). w.last) is;
      start = inv.5;
      room = inv.7;
    }

pub returns-clause-asked : goal.returns-clause-asked
returns-clause-asked c =
    let inv = c.loop-timer.invariant in let before = c.loop-timer.player in
    record {
      timers = inv.3.0;
      each = inv.3.1;
      none = none_due before.wheel.timers (entries_of before.told.items) c.args.m inv.0.kept.armed_are c.in_default.ensures.none;
    }

pub put-requires-clause-room : goal.put-requires-clause-room
put-requires-clause-room c =
    let inv = c.loop-timer.invariant in let some = c.in-Some.ensures in
    let most = inv.6 in let same = inv.7 in let room = c.requires.room in let one = len_some c.loop-timer.player.wheel.timers c.in-Some.timer.t _ some.armed in
    omega (arith, most, same, room, one)
