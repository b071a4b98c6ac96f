use Rattle.std.proofs.Common.{rules, ◌≡◌, ◌++◌, [], Ok, length, take, drop, map, sym, ap, ◌∙◌}
use Rattle.std.proofs.Math.Seq.{take-append_seam}
use Rattle.trace_fields.specs.Words.{text_of}
use Rattle.trace_options.specs.Settings.{and_then}
use Rattle.size_report.specs.Options.{asked_task, said_with, tasks_on, withins_on}
use Rattle.size_report.proofs.options.size_options_of.Goals as goal

pub returns-in-Ok-give_withins : goal.returns-in-Ok-give_withins
returns-in-Ok-give_withins c =
    let words = c.args.words in
    let new = c.give_withins.new.tasks in
    let made : tasks_on [] (map text_of words.tasks.now) ≡ Ok (map asked_task c.in-Ok.tasks.items) = search rules in
    let given : withins_on (map asked_task c.in-Ok.tasks.items) (map text_of words.withins.now) ≡ Ok _ = ap (λ tasks. withins_on (map asked_task tasks) (map text_of words.withins.now)) (sym c.deref_mut.ensures.value) ∙ sym c.in-Ok-give_withins.ensures.given in
    let size : c.in-Ok.tasks.len ≡ length new = search rules in
    let whole = ap (λ n. take n (new ++ drop (length new) c.in-Ok.tasks.items)) size ∙ take-append_seam new (drop (length new) c.in-Ok.tasks.items) in
    c.said_with.ensures ∙ ap (λ tasks. said_with words (map asked_task tasks)) whole ∙ sym (ap (and_then (said_with words)) (ap (and_then (λ asked. withins_on asked (map text_of words.withins.now))) made ∙ given))
