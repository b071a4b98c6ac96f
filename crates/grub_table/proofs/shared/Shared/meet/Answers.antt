use Rattle.std.proofs.Common.{[], ◌∷◌, ap, ◌∙◌, arith}
use Rattle.grub_table.specs.Calls.{share_of}
use Rattle.grub_table.specs.inside.Trails.{known}
use Rattle.grub_table.proofs.Moves.{join_allowed, compare_allowed, split_allowed_as}
use Rattle.grub_table.proofs.Meets.{both_seen, met, marked_met, together}
use Rattle.grub_table.proofs.shared.Shared.meet.Goals as goal

pub join_seat-requires : goal.join_seat-requires
join_seat-requires c =
    let self = c.args.self.now in
    let words = self.words in
    let some = self.limited.queues_some in
    (c.requires.second.seat.home, c.requires.first.seat.home, ap (λ m. m.1) c.args.first.seated.single, omega (arith, words, some), join_allowed _ _ _ _ _)

pub load-requires : goal.load-requires
load-requires c =
    let self = c.args.self.now in
    let words = self.words in
    let some = self.limited.queues_some in
    (c.join_seat.ensures.home ∙ c.requires.second.seat.home, omega (arith, words, some), compare_allowed _ _ _ _ (known c.join_seat.new.seat.me))

pub split_seat-one-requires : goal.split_seat-one-requires
split_seat-one-requires c =
    let self = c.args.self.now in
    let words = self.words in
    let some = self.limited.queues_some in
    let first = c.args.first in
    let second = c.args.second in
    let whole = both_seen first second c.join_seat.new.seat c.join_seat.ensures.both c.load.new.seat c.load.ensures.told.0 c.load.ensures.made in (
      c.load.ensures.home ∙ c.join_seat.ensures.home ∙ c.requires.second.seat.home,
      omega (arith, words, some),
      split_allowed_as _ _ _ (share_of first) (share_of second ∷ []) whole,
    )

pub returns-clause-met : goal.returns-clause-met
returns-clause-met c = met _ _ (together c.args.first c.args.second c.join_seat.new.seat c.join_seat.ensures.both c.load.new.seat c.load.ensures.told.0 c.load.ensures.made c.load.ensures.told.1 _ _ c.split_seat-one.ensures.right c.split_seat-one.ensures.left)

pub returns-clause-marks : goal.returns-clause-marks
returns-clause-marks c = marked_met _ _ (together c.args.first c.args.second c.join_seat.new.seat c.join_seat.ensures.both c.load.new.seat c.load.ensures.told.0 c.load.ensures.made c.load.ensures.told.1 _ _ c.split_seat-one.ensures.right c.split_seat-one.ensures.left)
