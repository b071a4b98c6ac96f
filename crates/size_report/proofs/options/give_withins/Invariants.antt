use Rattle.std.proofs.Common.{◌≡◌, map, drop, length}
use Rattle.trace_fields.specs.Words.{text_of}
use Rattle.size_report.specs.Options.{asked_task, withins_on}
use Rattle.size_report.proofs.options.give_withins.Given as goal

abbrev pub invariant-loop-word : goal.invariant-loop-word
invariant-loop-word l = (withins_on (map asked_task l.tasks) (map text_of (drop l.word-index l.words)) ≡ withins_on (map asked_task l.fn.tasks) (map text_of l.words)) × (length l.tasks ≡ length l.fn.tasks)
