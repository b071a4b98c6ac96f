use Rattle.std.proofs.Common.{ap, sym, ◌∙◌}
use Rattle.trace_probes.specs.Fields.{has_field}
use Rattle.trace_probes.specs.inside.Texts.{words_left}
use Rattle.trace_probes.proofs.WordLemmas.{has_begun}
use Rattle.trace_probes.proofs.values.has_field.Goals as goal

pub returns-then-has_key : goal.returns-then-has_key
returns-then-has_key c =
    has_begun c.args.field c.key_of-key.result.now c.in-Some.text.now c.has_key.result c.key_of-key.ensures c.has_key.ensures.is c.if-has_key.true ∙ (ap (λ l. has_field c.args.field (words_left l)) (sym c.in-Some.is) ∙ c.loop-left.invariant)
