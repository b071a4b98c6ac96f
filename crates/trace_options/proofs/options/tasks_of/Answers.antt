use Rattle.std.proofs.Common.{◌≡◌, ◌++◌, ◌∷◌, [], Err, sym, ap, ◌∙◌, map, drop, List, rules, ◌+◌}
use Rattle.std.specs.List.{list_any}
use Rattle.trace_fields.specs.Words.{text_of}
use Rattle.trace_options.specs.Settings.{given_task, tasks_on, wrong_by}
use Rattle.trace_options.specs.declared.options.TaskOption.{TaskOption}
use Rattle.trace_options.specs.inside.Texts.{is_named}
use Rattle.trace_options.proofs.TaskLemmas.{first_time, second_time}
use Rattle.trace_options.proofs.options.tasks_of.Goals as goal

pub returns-then-has_name : goal.returns-then-has_name
returns-then-has_name c =
    let words = c.args.words.now in
    let i = c.loop-word.word-index in
    let before = ap (list_any (is_named c.in-Some.task.name.now)) (sym c.deref.ensures.value) ∙ sym c.has_name.ensures ∙ c.if-has_name.true in
    let value = ap wrong_by c.wrong-then-has_name.ensures in
    sym (sym c.loop-word.invariant
    ∙ second_time c.loop-word.tasks.items words i _ c.in-Some.task c.loop-word-test.true c.in-Some.ensures before
    ∙ ap Err (sym value))

pub loop-word-preserved : goal.loop-word-preserved
loop-word-preserved c =
    let words = c.args.words.now in
    let i = c.loop-word.word-index in
    let new = ap (list_any (is_named c.in-Some.task.name.now)) (sym c.deref.ensures.value) ∙ sym c.has_name.ensures ∙ c.if-has_name.false in
    let pushed : c.push.new.self.items ≡ c.loop-word.tasks.items ++ c.in-Some.task ∷ [] = search rules in
    ap (λ (given : List TaskOption). tasks_on (map given_task given) (map text_of (drop (i + 1) words))) pushed
    ∙ sym (first_time c.loop-word.tasks.items words i _ c.in-Some.task c.loop-word-test.true c.in-Some.ensures new)
    ∙ c.loop-word.invariant
