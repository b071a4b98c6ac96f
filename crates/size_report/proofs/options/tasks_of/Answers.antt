use Rattle.std.proofs.Common.{◌≡◌, ◌++◌, ◌∷◌, [], Err, sym, ap, ◌∙◌, map, drop, List, rules, ◌+◌}
use Rattle.std.specs.List.{list_any}
use Rattle.trace_fields.specs.Words.{text_of}
use Rattle.size_report.specs.Options.{asked_task, fault_by, tasks_on}
use Rattle.size_report.specs.declared.options.AskedTask.{AskedTask}
use Rattle.size_report.specs.inside.Texts.{is_named}
use Rattle.size_report.proofs.OptionLemmas.{first_time, second_time}
use Rattle.size_report.proofs.options.tasks_of.Goals as goal

pub returns-then-is_named : goal.returns-then-is_named
returns-then-is_named c =
    let words = c.args.words.now in
    let i = c.loop-word.word-index in
    let before = ap (list_any (is_named c.in-Some.task.name.now)) (sym c.deref.ensures.value) ∙ sym c.is_named.ensures ∙ c.if-is_named.true in
    let value = ap fault_by c.fault-then-is_named.ensures in
    sym (sym c.loop-word.invariant
    ∙ second_time c.loop-word.tasks.items words i _ c.in-Some.task c.loop-word-test.true c.in-Some.ensures before
    ∙ ap Err (sym value))

pub loop-word-preserved : goal.loop-word-preserved
loop-word-preserved c =
    let words = c.args.words.now in
    let i = c.loop-word.word-index in
    let new = ap (list_any (is_named c.in-Some.task.name.now)) (sym c.deref.ensures.value) ∙ sym c.is_named.ensures ∙ c.if-is_named.false in
    let pushed : c.push.new.self.items ≡ c.loop-word.tasks.items ++ c.in-Some.task ∷ [] = search rules in
    ap (λ (given : List AskedTask). tasks_on (map asked_task given) (map text_of (drop (i + 1) words))) pushed
    ∙ sym (first_time c.loop-word.tasks.items words i _ c.in-Some.task c.loop-word-test.true c.in-Some.ensures new)
    ∙ c.loop-word.invariant
