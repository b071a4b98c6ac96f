use Rattle.std.proofs.Common.{◌∙◌, ap, refl, rules, sym}
use Rattle.grub_trace.specs.Faults.{last_of}
use Rattle.std.proofs.lemmas.Result.{err_from_is_err_and}
use Rattle.grub_trace.specs.declared.fault.TraceFault.TheVariants as fault
use Rattle.grub_trace.specs.inside.Reading.{Read, at_line, declarations, of_file, line_view}
use Rattle.grub_trace.proofs.Elsewhere.{front_below}
use Rattle.grub_trace.proofs.LineLemmas.{ends_short, ends_whole, stops, placed_err, placed_ok}
use Rattle.grub_trace.proofs.ScriptLaws.{says_next, says_none}
use Rattle.grub_trace.proofs.body.read_lines.Goals as goal

pub loop-text-init : goal.loop-text-init
loop-text-init c = says_none c.args.head.now.version c.args.tasks.now c.in_ok-with_capacity.field-0.items c.args.head.now.first c.args.head.now.below.now c.in_ok-with_capacity.ensures.items c.requires.head.below

pub returns-in_err-said : goal.returns-in_err-said
returns-in_err-said c =
    let on = c.loop-text.invariant in
    let r : Read = record { version = c.args.head.now.version; declared = declarations c.args.tasks.now; happenings = on.happenings } in
    let last = rw c.deref.ensures.value at c.last-last.ensures in
    let p = err_from_is_err_and c.from_residual-in_err-said.result c.from_residual-in_err-said.ensures.1 in
    let m = placed_err c.take_line.result c.args.head.now.file c.loop-text.line c.in_err-said.field-0.0 (λ k h. search rules) c.in_err-said.ensures.cases in
    let taken = (rw m.1 at c.take_line.ensures) r refl (ap last_of on.script.times ∙ sym last) (λ is. on.below (front_below c.loop-text.rest.now c.in-Some.text.now c.in-Some.after.now c.in-Some.ensures.parts is)) in
    rw (p.1, p.2, m.2) (stops (fault.At m.0 c.args.head.now.file c.loop-text.line) c.args.head.now.file r c.loop-text.line c.loop-text.rest.now c.in-Some.text.now c.in-Some.after.now _ c.in-Some.ensures.parts (ap (λ x. of_file c.args.head.now.file (at_line c.loop-text.line x)) taken) on.so_far)

pub loop-text-preserved : goal.loop-text-preserved
loop-text-preserved c =
    let on = c.loop-text.invariant in
    let r : Read = record { version = c.args.head.now.version; declared = declarations c.args.tasks.now; happenings = on.happenings } in
    let last = rw c.deref.ensures.value at c.last-last.ensures in
    let taken = (rw (placed_ok c.take_line.result c.in_ok-said.said c.in_ok-said.ensures.cases) at c.take_line.ensures) r refl (ap last_of on.script.times ∙ sym last) (λ is. on.below (front_below c.loop-text.rest.now c.in-Some.text.now c.in-Some.after.now c.in-Some.ensures.parts is)) in
    says_next c.args.head.now.version c.args.tasks.now c.loop-text.script.lines.items c.say.new.script.lines.items c.loop-text.script.unknown c.say.new.script.unknown c.loop-text.line c.loop-text.rest.now c.in-Some.text.now c.in-Some.after.now c.args.head.now.first c.args.head.now.below.now (line_view c.in_ok-said.said) on
    c.in-Some.ensures.parts c.in-Some.ensures.len taken (c.in_ok-say.ensures c.args.head.now.first on.happenings on.place on.script)

pub returns-then-not-is_empty : goal.returns-then-not-is_empty
returns-then-not-is_empty c =
    let on = c.loop-text.invariant in
    rw c.fault.ensures (ap (of_file c.args.head.now.file) (ends_short (record { version = c.args.head.now.version; declared = declarations c.args.tasks.now; happenings = on.happenings }) c.loop-text.line c.loop-text.rest.now _ c.in_default.ensures.parts (sym c.is_empty.ensures ∙ c.if-not-is_empty.true) on.so_far))

pub returns : goal.returns
returns c =
    let on = c.loop-text.invariant in
    let r : Read = record { version = c.args.head.now.version; declared = declarations c.args.tasks.now; happenings = on.happenings } in
    (r, ap (of_file c.args.head.now.file) (ends_whole r c.loop-text.line c.loop-text.rest.now _ c.in_default.ensures.parts (sym c.is_empty.ensures ∙ c.if-not-is_empty.false) on.so_far), on.script)
