-- The front of a room that reads fill piece by piece.
use Rattle.std.proofs.Common.{◌≡◌, ◌∙◌, ap, sym, ℕ, List, ◌+◌, ◌++◌, ◌≤◌, length, take, Ok, Err, IfOk}
use Rattle.std.proofs.lemmas.List.{length-take-le, take-append-le}
use Rattle.std.proofs.Math.Seq.{take-append-add}
use Rattle.std.specs.declared.result.Result.{Result}

-- the bytes before, and those of the piece behind them
pub front_filled : (a n : ℕ) (xs ys rest : List ℕ) → a ≤ length xs → n ≤ length ys → take (a + n) (take a xs ++ (ys ++ rest)) ≡ take a xs ++ take n ys
front_filled a n xs ys rest within fits =
    ap (λ m. take (m + n) (take a xs ++ (ys ++ rest))) (sym (length-take-le a xs within)) ∙ (take-append-add (take a xs) (ys ++ rest) n ∙ ap (λ zs. take a xs ++ zs) (take-append-le n ys rest fits))

-- two facts of a value, joined
pub of_both : {T E : Type 0} (r : Result T E) (P Q R : T → Type 0) → ((x : T) → P x → Q x → R x) → IfOk r P → IfOk r Q → IfOk r R
of_both (Ok x) P Q R join p q = join x p q
of_both (Err e) P Q R join p q = tt
