-- A loop that writes a function of each element in its place.
use Rattle.std.proofs.Common.{◌≡◌, ℕ, ◌+◌, ◌<◌, ◌≤◌, List, ◌++◌, length, get_or, set, map, take, drop, ap, ◌∙◌, sym, subst}
use Rattle.std.proofs.lemmas.List.{append-nil, drop_all, get_or_default, take_all}
use Rattle.std.proofs.lemmas.List.Edits.{map_over_more}

pub over_more : {X : Type 0} (f : X → X) (xs ys : List X) (i : ℕ) (d y : X) → i < length xs → length ys ≡ length xs → ys ≡ map f (take i xs) ++ drop i xs → y ≡ f (get_or ys i d)
    → set ys i y ≡ map f (take (i + 1) xs) ++ drop (i + 1) xs
over_more f xs ys i d y below long is y_is =
    let under : i < length ys = subst (λ n. i < n) (sym long) below in
    ap (set ys i) y_is ∙ map_over_more f xs ys i (get_or ys i d) below is (get_or_default ys i d (get_or ys i d) under)

pub over_all : {X : Type 0} (f : X → X) (xs ys : List X) (i : ℕ) → length xs ≤ i → ys ≡ map f (take i xs) ++ drop i xs → ys ≡ map f xs
over_all f xs ys i past is = is ∙ rw (take_all i xs past, drop_all i xs past) (append-nil (map f xs))
