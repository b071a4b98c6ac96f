use Rattle.std.proofs.Common.{rules, ◌≡◌, ◌<◌, ◌++◌, [], length, map, ap, sym, ◌∙◌, arith, length-set, append-nil, Some}
use Rattle.std.proofs.lemmas.List.Elements.{All-pop}
use Rattle.grub_table.specs.Calls.{IsPassOf, share_of}
use Rattle.grub_table.specs.Layout.{queue_word_at}
use Rattle.grub_table.proofs.Moves.{join_allowed}
use Rattle.grub_table.proofs.Closings.{shares_popped, shares_left, get_at, is_reading_of, read_more, word_fits, closes}
use Rattle.grub_table.proofs.shared.Shared.end.Goals as goal

pub loop-pass-init : goal.loop-pass-init
loop-pass-init c =
    let p = c.in-Some.last in
    let popped = All-pop (IsPassOf c.args.self) c.args.passes.items c.pop.new.self.items (Some p) c.in-Some.ensures.items c.requires.of in record {
      table = popped.1.seat.home;
      empty = ap (λ m. m.1) p.seated.single;
      of = popped.0;
      all = ap (λ m. map share_of c.pop.new.self.items ++ m.0.view.shares) p.seated.single ∙ shares_popped c.args.passes.items c.pop.new.self.items p [] c.in-Some.ensures.items ∙ append-nil _;
    }

pub join_seat-requires : goal.join_seat-requires
join_seat-requires c =
    let p = c.in-Some-pop.pass in
    let i = c.loop-pass.invariant in
    let words = c.args.self.words in
    let some = c.args.self.limited.queues_some in
    let popped = All-pop (IsPassOf c.args.self) c.loop-pass.passes.items c.pop-in-loop-pass.new.self.items (Some p) c.in-Some-pop.ensures.items i.of in
    (i.table, popped.1.seat.home, ap (λ m. m.1) p.seated.single, omega (arith, words, some), join_allowed _ _ _ _ _)

pub loop-pass-preserved : goal.loop-pass-preserved
loop-pass-preserved c =
    let p = c.in-Some-pop.pass in
    let i = c.loop-pass.invariant in
    let rest = c.pop-in-loop-pass.new.self.items in
    let popped = All-pop (IsPassOf c.args.self) c.loop-pass.passes.items rest (Some p) c.in-Some-pop.ensures.items i.of in
    record {
      table = c.join_seat.ensures.home ∙ i.table;
      empty = ap (λ m. m.1) c.join_seat.ensures.both ∙ i.empty;
      of = popped.0;
      all = ap (λ m. map share_of rest ++ m.0.view.shares) c.join_seat.ensures.both ∙ ap (λ m. map share_of rest ++ (m.0.view.shares ++ c.loop-pass.seat.me.0.view.shares)) p.seated.single
          ∙ shares_popped c.loop-pass.passes.items rest p c.loop-pass.seat.me.0.view.shares c.in-Some-pop.ensures.items ∙ i.all;
    }

pub reading_in-requires : goal.reading_in-requires
reading_in-requires c =
    let f = c.close_with-closed.ensures.values.2 in
    let i = c.loop-pass.invariant in
    let d = c.in_default-pop.ensures in
    let none : length c.loop-pass.passes.items ≡ 0 = search rules in
    let room = c.requires.room in
    let w = word_fits c.args.self f.0 c.loop-pass.seat.id c.loop-pass.seat.me.0.view c.args.passes.items _ c.args.readings.items f.1.0 f.1.1 (shares_left _ _ c.loop-pass.passes.items none i.all) f.2 c.requires.all c.loop-r.r (omega arith) in
    (w.0, w.1, sym w.2 ∙ get_at c.close_with-closed.result.words.items (queue_word_at c.loop-r.r) c.word.result c.word.ensures)

pub loop-r-preserved : goal.loop-r-preserved
loop-r-preserved c =
    let i = c.loop-r.invariant in
    let room = i.room in
    let lt : c.loop-r.r < length c.loop-r.readings.items = omega arith in record {
      room = length-set _ _ _ ∙ i.room;
      done = read_more _ _ _ _ lt (is_reading_of _ _ _ _ c.word.ensures c.reading_in.ensures.fits c.reading_in.ensures.word) i.done;
    }

pub returns : goal.returns
returns c =
    let f = c.close_with-closed.ensures.values.2 in
    let i = c.loop-pass.invariant in
    let d = c.in_default-pop.ensures in
    let none : length c.loop-pass.passes.items ≡ 0 = search rules in
    let room = c.loop-r.invariant.room in
    closes c.args.self f.0 c.loop-pass.seat.id c.loop-pass.seat.me.0.view c.args.passes.items _ c.loop-r.readings.items f.1.0 f.1.1 (shares_left _ _ c.loop-pass.passes.items none i.all) f.2 c.requires.all
    (room ∙ c.requires.room) (λ r d lt. c.loop-r.invariant.done r d (omega arith))
