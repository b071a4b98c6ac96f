use Rattle.std.proofs.Common.{ap, sym, ◌∙◌}
use Rattle.trace_probes.specs.Fields.{next_value}
use Rattle.trace_probes.specs.inside.Texts.{words_left}
use Rattle.trace_probes.proofs.WordLemmas.{next_begun}
use Rattle.trace_probes.proofs.values.next_value.Goals as goal

pub returns-then-has_key : goal.returns-then-has_key
returns-then-has_key c =
    next_begun c.args.field c.key_of-key.result.now c.in-Some.text.now c.kind_of.result _ c.has_key.result c.key_of-key.ensures c.kind_of.ensures c.has_key.ensures.is c.if-has_key.true c.front_value.ensures ∙ (ap (λ l. next_value c.args.field (words_left l)) (sym c.in-Some.is) ∙ c.loop-left.invariant)
