-- Files that are made one after another.
use Rattle.std.proofs.Common.{◌≡◌, ◌<◌, ◌+◌, ◌∙◌, ap, arith, sym, subst, refl, ℕ, zero, suc, List, [], ◌∷◌, ◌++◌, get_or, length, map, take}
use Rattle.std.specs.Prelude.{All}
use Rattle.std.specs.List.{AllZip}
use Rattle.std.proofs.lemmas.List.{length-append, map_more}
use Rattle.std.proofs.lemmas.List.Elements.{All-push}
use Rattle.std.proofs.lemmas.Slice.Zip.{all_zipped_more}
use Rattle.convert.specs.Serving.{event_paths}
use Rattle.trace_options.specs.Messages.{event_path}

-- one element more
pub all_next : {A B : Type 0} (P : B → Type 0) (f : A → B) (xs : List A) (i : ℕ) (x : A) → i < length xs → x ≡ get_or xs i x → All P (map f (take i xs)) → P (f x) → All P (map f (take (i + 1) xs))
all_next P f xs i x below is all one = subst (All P) (sym (map_more f xs i x below)) (All-push P (map f (take i xs)) (f (get_or xs i x)) all (subst (λ y. P (f y)) is one))

pub both_next : {A B C E : Type 0} (R : B → E → Type 0) (f : A → B) (h : C → E) (xs : List A) (ys : List C) (i : ℕ) (x : A) (y : C) → i < length xs → i < length ys → x ≡ get_or xs i x → y ≡ get_or ys i y
    → AllZip R (map f (take i xs)) (map h (take i ys)) → R (f x) (h y) → AllZip R (map f (take (i + 1) xs)) (map h (take (i + 1) ys))
both_next R f h xs ys i x y below_x below_y is_x is_y all one =
    subst (λ bs. AllZip R bs (map h (take (i + 1) ys))) (sym (map_more f xs i x below_x))
    (subst (AllZip R (map f (take i xs) ++ f (get_or xs i x) ∷ [])) (sym (map_more h ys i y below_y))
    (all_zipped_more R (map f (take i xs)) (map h (take i ys)) (f (get_or xs i x)) (h (get_or ys i y)) all
    (subst (λ z. R (f (get_or xs i x)) (h z)) is_y (subst (λ z. R (f z) (h y)) is_x one))))

-- there are as many paths as runqueues
pub count_of_paths : (prefix : List ℕ) (n : ℕ) → length (event_paths prefix n) ≡ n
count_of_paths prefix zero = refl
count_of_paths prefix (suc r) = length-append (event_paths prefix r) (event_path prefix r ∷ []) ∙ omega (arith, count_of_paths prefix r)
