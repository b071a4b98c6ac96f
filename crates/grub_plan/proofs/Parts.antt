-- What holds of each element of a list holds of each of a part.
use Rattle.std.proofs.Common.{List, ◌++◌, length, subst}
use Rattle.std.specs.List.{All}
use Rattle.std.proofs.lemmas.List.Elements.{All-take, All-drop}
use Rattle.std.proofs.Math.Seq.{take-append_seam, drop-append_seam}

pub all_left : {X : Type 0} (P : X → Type 0) (xs ys : List X) → All P (xs ++ ys) → All P xs
all_left P xs ys a = subst (All P) (take-append_seam xs ys) (All-take P (length xs) (xs ++ ys) a)

pub all_right : {X : Type 0} (P : X → Type 0) (xs ys : List X) → All P (xs ++ ys) → All P ys
all_right P xs ys a = subst (All P) (drop-append_seam xs ys) (All-drop P (length xs) (xs ++ ys) a)
