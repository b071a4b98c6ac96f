-- Passes that are gathered are of one table.
use Rattle.std.proofs.Common.{◌≡◌, List, [], ◌∷◌, ◌++◌, subst, sym}
use Rattle.std.proofs.lemmas.List.Elements.{All-append, All-push}
use Rattle.std.specs.List.{All}

pub all_gathered : {X : Type 0} (P : X → Type 0) (xs ys zs : List X) (y : X) → zs ≡ xs ++ (ys ++ y ∷ []) → All P xs → All P ys → P y → All P zs
all_gathered P xs ys zs y is a b c = subst (All P) (sym is) (All-append P xs (ys ++ y ∷ []) a (All-push P ys y b c))
