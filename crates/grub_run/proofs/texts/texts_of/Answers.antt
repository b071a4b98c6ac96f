use Rattle.std.proofs.Common.{◌≡◌, ◌∙◌, ℕ, sym, refl, get_or, subst, ◌<◌, ◌≤◌, length}
use Rattle.std.proofs.lemmas.List.{get_or_default, take_all}
use Rattle.grub_book.specs.declared.event.Reading.{Reading}
use Rattle.grub_run.proofs.TextLemmas.{texts_next}
use Rattle.grub_run.proofs.texts.texts_of.Goals as goal

pub loop-r-preserved : goal.loop-r-preserved
loop-r-preserved c =
    let names = c.args.plan.now.names in
    let x = c.index-reports-r.result in
    let closing : Reading = get_or c.args.closing.now c.loop-r.r (record { running = 0; this = 0 }) in
    let there : get_or c.args.reports.now c.loop-r.r x ≡ x = sym c.index-reports-r.is in
    let below : c.loop-r.r < length c.args.closing.now = subst (λ (n : ℕ). c.loop-r.r < n) c.requires.one_each c.loop-r-test.true in
    let same : get_or c.args.closing.now c.loop-r.r closing ≡ closing = get_or_default c.args.closing.now c.loop-r.r closing (record { running = 0; this = 0 }) below in
    rw (c.in_ok-extend_from_slice.ensures.items, c.deref.ensures.value, c.in_ok-one.ensures, c.loop-r.invariant)
    (texts_next names c.args.reports.now c.args.closing.now c.loop-r.r x closing c.requires.one_each c.loop-r-test.true there same)

pub returns : goal.returns
returns c =
    let ended : length c.args.closing.now ≤ c.loop-r.r = subst (λ (n : ℕ). n ≤ c.loop-r.r) c.requires.one_each c.loop-r-test.false in
    c.loop-r.invariant ∙ rw (take_all c.loop-r.r c.args.reports.now c.loop-r-test.false, take_all c.loop-r.r c.args.closing.now ended) refl
