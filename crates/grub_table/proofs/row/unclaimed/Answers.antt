use Rattle.std.proofs.Common.{◌≡◌, Bool, true, false, Option, Some, None, refl, sym, ◌∙◌, ap}
use Rattle.grub_table.specs.declared.task.TaskWord.{TaskWord}
use Rattle.grub_table.proofs.row.unclaimed.Goals as goal

claimed_in : Option TaskWord → Bool
claimed_in None = false
claimed_in (Some w) = w.claimed

not_both : (o : Option TaskWord) (a b : TaskWord) → o ≡ Some a → o ≡ Some b → a.claimed ≡ true → b.claimed ≡ false → ⊥
unfolding claimed_in
not_both o a b is other on off = let same : a.claimed ≡ b.claimed = ap claimed_in (sym is ∙ other) in let both : true ≡ false = sym on ∙ same ∙ off in cc

pub returns-in_default-clause-none : goal.returns-in_default-clause-none
returns-in_default-clause-none c = λ _ p n fits few is.
    let w : TaskWord = record { place = p; claimed = false; count = n } in
    c.in_default.not-Some w ((c.unpack_task.ensures.found w).1 (record { place = fits; count = few }, is))

pub returns-then-shown-clause-none : goal.returns-then-shown-clause-none
returns-then-shown-clause-none c = λ _ p n fits few is.
    let w : TaskWord = record { place = p; claimed = false; count = n } in
    not_both c.unpack_task.result c.in-Some.shown w c.in-Some.is ((c.unpack_task.ensures.found w).1 (record { place = fits; count = few }, is)) c.if-shown.true refl
