use Rattle.std.proofs.Common.{sym, ◌∙◌, true, false, length, arith}
use Rattle.text_bytes.specs.Lines.{is_space}
use Rattle.trace_fields.proofs.WordLemmas.{left_sum, none_of, place_none, place_step}
use Rattle.text_bytes.proofs.Splits.{none_at, some_at}
use Rattle.trace_fields.proofs.field.place_of.Goals as goal

pub returns-in_default-clause-place : goal.returns-in_default-clause-place
returns-in_default-clause-place c =
    sym (place_none c.loop-space.from c.args.key.now c.loop-space.rest.now (let h = none_at is_space c.loop-space.rest.now (sym c.space_in.ensures ∙ none_of c.space_in.result c.in_default.not-Some) in omega (arith, h))) ∙ c.loop-space.invariant.0

pub returns-then-begins-clause-place : goal.returns-then-begins-clause-place
returns-then-begins-clause-place c =
    sym (place_step c.loop-space.from c.args.key.now c.loop-space.rest.now c.in-Some.space true (sym c.space_in.ensures ∙ c.in-Some.is) (sym c.if-begins.true ∙ c.begins.ensures)) ∙ c.loop-space.invariant.0

pub loop-space-preserved : goal.loop-space-preserved
loop-space-preserved c = (
  sym (place_step c.loop-space.from c.args.key.now c.loop-space.rest.now c.in-Some.space false (sym c.space_in.ensures ∙ c.in-Some.is) (sym c.if-begins.false ∙ c.begins.ensures)) ∙ c.loop-space.invariant.0,
  left_sum c.loop-space.from c.in-Some.space (length c.args.text.now) c.loop-space.rest.now (some_at is_space c.loop-space.rest.now c.in-Some.space (sym c.space_in.ensures ∙ c.in-Some.is)).0 c.loop-space.invariant.1,
)
