use Rattle.std.proofs.Common.{sym, ◌∙◌, not, ap, drop, length, ℕ, rules, arith}
use Rattle.std.proofs.lemmas.List.{drop_all, take_rest}
use Rattle.text_bytes.specs.Lines.{is_space}
use Rattle.text_bytes.proofs.Splits.{none_at, some_at}
use Rattle.trace_fields.proofs.spaces.without_spaces.Goals as goal

pub returns-in-None : goal.returns-in-None
returns-in-None c =
    take_rest c.args.text.now (length c.args.text.now) ∙ (drop_all (length c.args.text.now) c.args.text.now (search rules)
    ∙ sym (drop_all _ c.args.text.now (let h = none_at (λ b. not (is_space b)) c.args.text.now (sym c.other_in.ensures ∙ c.in-None.is) in omega (arith, h))))

pub returns-in-Some : goal.returns-in-Some
returns-in-Some c =
    take_rest c.args.text.now c.in-Some.i ∙ ap (λ (k : ℕ). drop k c.args.text.now) (some_at (λ b. not (is_space b)) c.args.text.now c.in-Some.i (sym c.other_in.ensures ∙ c.in-Some.is)).1
