use Rattle.std.proofs.Common.{◌≡◌, ◌++◌, ◌∙◌, [], List, ℕ, ap, sym, refl, get_or, take, subst, append-nil, ◌<◌, ◌≤◌, length}
use Rattle.std.proofs.lemmas.List.{get_or_default, take_all}
use Rattle.std.specs.Io.KnownBytes.{Appends}
use Rattle.grub_book.specs.declared.event.Reading.{Reading}
use Rattle.grub_plan.specs.Texts.{report_text}
use Rattle.text_bytes.specs.Writing.{HandsOn}
use Rattle.text_bytes.proofs.Handing.{hands_both, hands_none, hands_through, part_after, on_err}
use Rattle.grub_run.specs.Written.{texts_from}
use Rattle.grub_run.proofs.Known.{flushed, on_ok, prefix_flushed, prefix_of}
use Rattle.grub_run.proofs.TextLemmas.{texts_next, texts_front, texts_before}
use Rattle.grub_run.proofs.by_threads.write_reports.Goals as goal

pub loop-r-init : goal.loop-r-init
loop-r-init g c = record { room = c.requires.room; so_far = rw c.requires.empty (hands_none (g.W.Write.contents c.args.out.now) []) }

pub returns-in_err-write_report-clause-part : goal.returns-in_err-write_report-clause-part
returns-in_err-write_report-clause-part g c =
    let names = c.args.plan.now.names in
    let x = c.index-reports-r.result in
    let closing : Reading = get_or c.args.closing.now c.loop-r.r (record { running = 0; this = 0 }) in
    let there : get_or c.args.reports.now c.loop-r.r x ≡ x = sym c.index-reports-r.is in
    let below : c.loop-r.r < length c.args.closing.now = subst (λ (n : ℕ). c.loop-r.r < n) c.requires.one_each c.loop-r-test.true in
    let same : get_or c.args.closing.now c.loop-r.r closing ≡ closing = get_or_default c.args.closing.now c.loop-r.r closing (record { running = 0; this = 0 }) below in
    let so_far = texts_from names 0 (take c.loop-r.r c.args.reports.now) (take c.loop-r.r c.args.closing.now) in
    let text = report_text names c.loop-r.r x.entries.items closing in
    let a = g.W.Write.contents c.args.out.now in
    let b = g.W.Write.contents c.loop-r.out in
    let d = g.W.Write.contents c.write_report.new.out in
    let more = texts_before names c.args.reports.now c.args.closing.now c.loop-r.r x closing c.requires.one_each c.loop-r-test.true there same in
    on_err c.from_residual.result
    (prefix_of a d (so_far ++ text) more.0 (texts_from names 0 c.args.reports.now c.args.closing.now) (part_after a b d [] so_far c.loop-r.room.buffer.items text c.loop-r.invariant.so_far c.in_err-write_report.ensures.part) more.1)

pub loop-r-preserved : goal.loop-r-preserved
loop-r-preserved g c =
    let names = c.args.plan.now.names in
    let x = c.index-reports-r.result in
    let closing : Reading = get_or c.args.closing.now c.loop-r.r (record { running = 0; this = 0 }) in
    let there : get_or c.args.reports.now c.loop-r.r x ≡ x = sym c.index-reports-r.is in
    let below : c.loop-r.r < length c.args.closing.now = subst (λ (n : ℕ). c.loop-r.r < n) c.requires.one_each c.loop-r-test.true in
    let same : get_or c.args.closing.now c.loop-r.r closing ≡ closing = get_or_default c.args.closing.now c.loop-r.r closing (record { running = 0; this = 0 }) below in
    let so_far = texts_from names 0 (take c.loop-r.r c.args.reports.now) (take c.loop-r.r c.args.closing.now) in
    let text = report_text names c.loop-r.r x.entries.items closing in
    let a = g.W.Write.contents c.args.out.now in
    let b = g.W.Write.contents c.loop-r.out in
    let d = g.W.Write.contents c.write_report.new.out in
    record {
      room = c.in_ok-write_report.ensures.room;
      so_far = subst (λ (t : List ℕ). HandsOn a d [] t c.write_report.new.room.buffer.items) (texts_next names c.args.reports.now c.args.closing.now c.loop-r.r x closing c.requires.one_each c.loop-r-test.true there same)
          (hands_both a b d [] so_far c.loop-r.room.buffer.items text c.write_report.new.room.buffer.items c.loop-r.invariant.so_far c.in_ok-write_report.ensures.whole);
    }

pub returns-in_err-write_buffer-clause-part : goal.returns-in_err-write_buffer-clause-part
returns-in_err-write_buffer-clause-part g c =
    let names = c.args.plan.now.names in
    let so_far = texts_from names 0 (take c.loop-r.r c.args.reports.now) (take c.loop-r.r c.args.closing.now) in
    let more = texts_front names 0 c.loop-r.r c.args.reports.now c.args.closing.now in
    let a = g.W.Write.contents c.args.out.now in
    let b = g.W.Write.contents c.loop-r.out in
    let d = g.W.Write.contents c.write_buffer.new.out in
    on_err c.from_residual-in_err-write_buffer.result
    (prefix_of a d (so_far ++ []) more.0 (texts_from names 0 c.args.reports.now c.args.closing.now) (part_after a b d [] so_far c.loop-r.room.buffer.items [] c.loop-r.invariant.so_far c.in_err-write_buffer.ensures.part) (more.1 ∙ ap (λ (t : List ℕ). t ++ more.0) (sym (append-nil so_far))))

pub returns : goal.returns
returns g c =
    let so_far = texts_from c.args.plan.now.names 0 (take c.loop-r.r c.args.reports.now) (take c.loop-r.r c.args.closing.now) in
    let text = texts_from c.args.plan.now.names 0 c.args.reports.now c.args.closing.now in
    let a = g.W.Write.contents c.args.out.now in
    let b = g.W.Write.contents c.loop-r.out in
    let d = g.W.Write.contents c.write_buffer.new.out in
    let e = g.W.Write.contents c.flush.new.self in
    let ended : length c.args.closing.now ≤ c.loop-r.r = subst (λ (n : ℕ). n ≤ c.loop-r.r) c.requires.one_each c.loop-r-test.false in
    let whole : so_far ≡ text = rw (take_all c.loop-r.r c.args.reports.now c.loop-r-test.false, take_all c.loop-r.r c.args.closing.now ended) refl in
    let written = subst (λ (t : List ℕ). Appends a d t) whole (hands_through a b d so_far c.loop-r.room.buffer.items c.loop-r.invariant.so_far c.in_ok-write_buffer.ensures.whole) in
    record {
      whole = on_ok c.flush.result (flushed a d e text written c.flush.ensures.bytes);
      part = on_err c.flush.result (prefix_flushed a d e text written c.flush.ensures.bytes);
    }
