use Rattle.std.proofs.Common.{◌≤◌, ◌+◌, List, All, length, subst, sym}
use Rattle.std.proofs.lemmas.List.{take_all}
use Rattle.std.proofs.lemmas.List.Elements.{All-get_or}
use Rattle.grub_views.specs.declared.usage.Meter.{Meter}
use Rattle.grub_views.specs.inside.Within.{IsMeterWithin}
use Rattle.grub_views.proofs.Counting.{left_more, next_is, over_within}
use Rattle.grub_views.proofs.sums.count_queues.Goals as goal

pub and-requires : goal.and-requires
and-requires c =
    let room = c.requires.room in (
      room.0,
      room.1,
      subst (IsMeterWithin room.0)
          (sym (next_is c.args.meters.now c.loop-meter.meters c.loop-meter.meter-index _ c.loop-meter-test.true c.loop-meter.auto.meters c.loop-meter.invariant.left))
          (All-get_or (IsMeterWithin room.0) c.args.meters.now c.loop-meter.meter-index _ c.loop-meter-test.true room.2),
    )

pub loop-meter-preserved : goal.loop-meter-preserved
loop-meter-preserved c = record {
  left = left_more c.args.meters.now c.loop-meter.meters c.loop-meter.meter-index c.and.result c.and.result c.loop-meter-test.true c.loop-meter.auto.meters c.loop-meter.invariant.left;
  within = λ n all. over_within (IsMeterWithin n) (IsMeterWithin (n + 1)) c.args.meters.now c.loop-meter.meters c.loop-meter.meter-index _ c.and.result c.loop-meter-test.true c.loop-meter.auto.meters
      c.loop-meter.invariant.left (c.and.ensures.within n) (c.loop-meter.invariant.within n) all;
}

pub returns-clause-within : goal.returns-clause-within
returns-clause-within c = λ n all.
    let past : length c.loop-meter.meters ≤ c.loop-meter.meter-index = subst (λ k. k ≤ c.loop-meter.meter-index) (sym c.loop-meter.auto.meters) c.loop-meter-test.false in
    subst (λ (ys : List Meter). All (IsMeterWithin (n + 1)) ys) (take_all c.loop-meter.meter-index c.loop-meter.meters past) (c.loop-meter.invariant.within n all)
