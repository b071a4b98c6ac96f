use Rattle.std.proofs.Common.{◌+◌, [], ◌∷◌, ap, sym, subst, ◌∙◌, ◌<◌, arith, length}
use Rattle.std.proofs.lemmas.List.{length_push}
use Rattle.std.proofs.lemmas.List.Elements.{All-nil}
use Rattle.grub_book.specs.History.{pass_of}
use Rattle.grub_table.specs.declared.view.View.{View}
use Rattle.grub_table.specs.Calls.{AreNew}
use Rattle.grub_table.specs.Histories.{IsHistory}
use Rattle.grub_table.specs.Marks.{AreLawful}
use Rattle.grub_table.proofs.Marks.{lawful_none}
use Rattle.grub_table.specs.declared.view.Access.TheVariants.{Load}
use Rattle.grub_table.specs.inside.Trails.{head_made}
use Rattle.grub_table.specs.inside.Trails.{each_after, known, trail}
use Rattle.grub_table.specs.Views.{first_of}
use Rattle.grub_table.specs.inside.Views.{view, alone, only_first, without_first}
use Rattle.grub_table.proofs.Moves.{split_allowed_as}
use Rattle.grub_table.proofs.Counts.{length_tails, only_one}
use Rattle.grub_table.proofs.Openings.{fresh_next, new_more}
use Rattle.grub_table.proofs.opening.dealt.Goals as goal

pub split_seat-one-requires : goal.split_seat-one-requires
split_seat-one-requires c =
    let s = c.args.shared.now in
    let i = c.loop-number.invariant in
    let some = s.limited.queues_some in
    let words = s.words in
    let whole = ap (λ m. m.0) i.left ∙ ap view (fresh_next s.terms c.loop-number.number s.terms.passes c.loop-number-test.true) in
    (i.table, omega (arith, words, some), split_allowed_as _ _ _ _ _ whole)

pub invariant_of-seated : goal.invariant_of-seated
invariant_of-seated c =
    let s = c.args.shared.now in
    let whole = ap (λ m. m.0) c.loop-number.invariant.left ∙ ap view (fresh_next s.terms c.loop-number.number s.terms.passes c.loop-number-test.true) in
    let one = ap known c.split_seat-one.ensures.right ∙ ap (λ (v : View). (only_first v, [])) whole in
    let each = c.loop-number.invariant.each in
    let many = ap (λ (v : View). length v.shares) whole in
    let made = ap (λ m. m.0.made) c.split_seat-one.ensures.right ∙ ap (λ ms. each_after ms (Load 0)) (only_one _ (omega (arith, each, many))) in
    let lists = made ∙ sym (ap (λ ms. head_made ms ∷ []) made) in
    let views = one ∙ ap (λ m. (alone (first_of m.0), [])) (sym one) in
    record { single = λ k. (trail (views k).0 (lists k), (views k).1); numbered = ap (λ m. (first_of m.0).number) one }

pub invariant_of-push : goal.invariant_of-push
invariant_of-push c =
    let s = c.args.shared.now in
    let whole = ap (λ m. m.0) c.loop-number.invariant.left ∙ ap view (fresh_next s.terms c.loop-number.number s.terms.passes c.loop-number-test.true) in
    record { free = ap (λ m. (first_of m.0).hold) (ap known c.split_seat-one.ensures.right ∙ ap (λ (v : View). (only_first v, [])) whole) }

pub loop-number-preserved : goal.loop-number-preserved
loop-number-preserved c =
    let s = c.args.shared.now in
    let T = s.terms in
    let i = c.loop-number.invariant in
    let whole = ap (λ m. m.0) i.left ∙ ap view (fresh_next T c.loop-number.number T.passes c.loop-number-test.true) in
    let one = ap known c.split_seat-one.ensures.right ∙ ap (λ (v : View). (only_first v, [])) whole in
    let no_event = ap (λ m. (first_of m.0).seen) one in
    let no_mark = ap (λ m. (first_of m.0).marks) one in
    let count = i.count in
    record {
      table = c.split_seat-one.ensures.home ∙ i.table;
      left = ap known c.split_seat-one.ensures.left ∙ (λ k. (without_first (whole k), (i.left k).1));
      each = ap (λ m. length m.0.made) c.split_seat-one.ensures.left ∙ length_tails _ _ i.each ∙ sym (ap (λ m. length m.0.view.shares) c.split_seat-one.ensures.left);
      count = ap length c.in_ok-push.ensures.items ∙ length_push _ _ ∙ ap (λ n. n + 1) i.count;
      new = subst (AreNew s) (sym c.in_ok-push.ensures.items)
          (new_more s c.loop-number.passes.items _ i.new (record {
            of = record {
              seat = record { home = c.split_seat-one.ensures.other ∙ i.table; terms = ap (λ m. (first_of m.0).terms) one };
              history = subst (IsHistory T) (sym no_event) (record { legal = tt; numbers = All-nil (λ e. pass_of e < T.passes) });
              lawful = subst (AreLawful T.passes) (sym no_mark) (lawful_none T.passes);
            };
            number = omega (arith, count);
            seen = no_event;
            marks = no_mark;
          }));
    }
