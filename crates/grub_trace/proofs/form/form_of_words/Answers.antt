use Rattle.std.proofs.Common.{ap, rules, sym, ◌∙◌}
use Rattle.grub_trace.specs.Forms.{shape_of}
use Rattle.grub_trace.proofs.FormLemmas.{few_words, three_words, four_words, five_words, six_words, many_words}
use Rattle.grub_trace.proofs.form.form_of_words.Goals.{in_default-via-then-words-lt3, in_default-via-else-words-lt3+else-words-lt4+else-words-lt5+else-words-lt6+else-words-lt7}
use Rattle.grub_trace.proofs.form.form_of_words.Goals as goal

pub returns-in-len3 : goal.returns-in-len3
returns-in-len3 c = c.queue_or_read.ensures ∙ ap shape_of (sym (three_words (λ w. w.now) c.args.words.now _ c.in-len3.len_at_least c.in-len3.len_below))

pub returns-in-len4 : goal.returns-in-len4
returns-in-len4 c = c.task_or_act.ensures ∙ ap shape_of (sym (four_words (λ w. w.now) c.args.words.now _ c.in-len4.len_at_least c.in-len4.len_below))

pub returns-in-len5 : goal.returns-in-len5
returns-in-len5 c = c.run_of.ensures ∙ ap shape_of (sym (five_words (λ w. w.now) c.args.words.now _ c.in-len5.len_at_least c.in-len5.len_below))

pub returns-in-len6 : goal.returns-in-len6
returns-in-len6 c = c.retune_of.ensures ∙ ap shape_of (sym (six_words (λ w. w.now) c.args.words.now _ c.in-len6.len_at_least c.in-len6.len_below))

pub returns-in_default : goal.returns-in_default
returns-in_default c =
    elim c.in_default.branch [
      | in_default-via-then-words-lt3 w ↦ sym (few_words (λ w. w.now) c.args.words.now (search rules))
      | in_default-via-else-words-lt3+else-words-lt4+else-words-lt5+else-words-lt6+else-words-lt7 w ↦ sym (many_words (λ w. w.now) c.args.words.now (search rules))
    ]
