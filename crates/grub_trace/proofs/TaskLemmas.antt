-- Tasks by their names.
use Rattle.std.proofs.Common.{◌≡◌, ℕ, suc, ◌+◌, Bool, true, false, cond, List, [], ◌∷◌, ◌++◌, length, map, get_or, take, ◌<◌, ◌≤◌, Option, Some, None, option_map, refl, ap, ◌∙◌, sym, arith, subst}
use Rattle.std.specs.Prelude.{string_bytes}
use Rattle.std.proofs.lemmas.List.{map_push, map-id, length-map, take_all, take_more}
use Rattle.std.specs.Str.{bytes_eq, IsUtf8}
use Rattle.std.proofs.lemmas.Str.{IsUtf8-string_bytes}
use Rattle.grub_trace.specs.Tree.{Declaration, names_of}
use Rattle.grub_trace.specs.inside.Reading.{task_view}
use Rattle.grub_trace.specs.declared.tasks.Task.{Task}
use Rattle.std.specs.Cmp.Lexicographic.{bytes_decides}
use Rattle.grub_trace.specs.Naming.{task_of}

none_at : (b : Bool) (o : Option ℕ) → cond b (Some 0) (option_map (λ i. i + 1) o) ≡ None → (b ≡ false) × (o ≡ None)
none_at true o e = absurd cc
none_at false None e = (refl, refl)
none_at false (Some i) e = absurd cc

moved : (b : Bool) (n : ℕ) (o : Option ℕ) → option_map (λ i. i + 1) (cond b (Some n) o) ≡ cond b (Some (suc n)) (option_map (λ i. i + 1) o)
moved true n o = ap Some (omega arith)
moved false n o = refl

pub task_of-push : (names : List (List ℕ)) (n q : List ℕ) → task_of names n ≡ None → task_of (names ++ n ∷ []) q ≡ cond (bytes_eq n q) (Some (length names)) (task_of names q)
task_of-push [] n q h = refl
task_of-push (x ∷ xs) n q h =
    let k = none_at (bytes_eq x n) (task_of xs n) h in
    let at : (b d : Bool) → bytes_eq x q ≡ b → bytes_eq n q ≡ d → cond b (Some 0) (option_map (λ i. i + 1) (task_of (xs ++ n ∷ []) q)) ≡ cond d (Some (suc (length xs))) (cond b (Some 0) (option_map (λ i. i + 1) (task_of xs q)))
    = λ (b d : Bool). elim b as (λ b. bytes_eq x q ≡ b → bytes_eq n q ≡ d → cond b (Some 0) (option_map (λ i. i + 1) (task_of (xs ++ n ∷ []) q)) ≡ cond d (Some (suc (length xs))) (cond b (Some 0) (option_map (λ i. i + 1) (task_of xs q)))) [
      | true ↦ elim d as (λ d. bytes_eq x q ≡ true → bytes_eq n q ≡ d → Some 0 ≡ cond d (Some (suc (length xs))) (Some 0)) [
        | true ↦ λ xq nq. absurd (differs xq nq k.0)
        | false ↦ λ xq nq. refl
      ]
      | false ↦ λ xq nq. ap (option_map (λ i. i + 1)) (task_of-push xs n q k.1) ∙ moved (bytes_eq n q) (length xs) (task_of xs q) ∙ ap (λ (b : Bool). cond b (Some (suc (length xs))) (option_map (λ i. i + 1) (task_of xs q))) nq
    ] in
    at (bytes_eq x q) (bytes_eq n q) refl refl
  where
    differs : bytes_eq x q ≡ true → bytes_eq n q ≡ true → bytes_eq x n ≡ false → ⊥
    differs xq nq xn = let same : x ≡ n = (bytes_decides x q).0 xq ∙ sym ((bytes_decides n q).0 nq) in let yes : bytes_eq x n ≡ true = (bytes_decides x n).1 same in cc

pub names-push : (ts : List Task) (t : Task) → names_of (map task_view (ts ++ t ∷ [])) ≡ names_of (map task_view ts) ++ string_bytes t.name ∷ []
names-push ts t = ap (λ (ds : List Declaration). names_of ds) (map_push task_view ts t) ∙ map_push (λ (d : Declaration). d.name) (map task_view ts) (task_view t)

pub length-names : (ts : List Task) → length (names_of (map task_view ts)) ≡ length ts
length-names ts = length-map (map task_view ts) (λ (d : Declaration). d.name) ∙ length-map ts task_view

-- what an index finds, after the next task was put there
pub index_push : (ts : List Task) (t : Task) (n q : List ℕ) (k : ℕ) (now before : Option ℕ) → string_bytes t.name ≡ n → task_of (names_of (map task_view ts)) n ≡ None → k ≡ length ts
    → before ≡ task_of (names_of (map task_view ts)) q → now ≡ cond (bytes_eq n q) (Some k) before → now ≡ task_of (names_of (map task_view (ts ++ t ∷ []))) q
index_push ts t n q k now before name fresh len was is =
    let same : k ≡ length (names_of (map task_view ts)) = omega (arith, len, length-names ts) in
    rw (names-push ts t, name, task_of-push (names_of (map task_view ts)) n q fresh, ← same, ← was) is

-- each name is text, so what is no text is no task's name
pub not_text : (ts : List Task) (q : List ℕ) → (IsUtf8 q → ⊥) → task_of (names_of (map task_view ts)) q ≡ None
not_text [] q h = refl
not_text (t ∷ ts) q h =
    let go : (b : Bool) → bytes_eq (string_bytes t.name) q ≡ b → cond b (Some 0) (option_map (λ i. i + 1) (task_of (names_of (map task_view ts)) q)) ≡ None
    = λ (b : Bool). elim b as (λ b. bytes_eq (string_bytes t.name) q ≡ b → cond b (Some 0) (option_map (λ i. i + 1) (task_of (names_of (map task_view ts)) q)) ≡ None) [
      | true ↦ λ e. absurd (h (subst IsUtf8 ((bytes_decides (string_bytes t.name) q).0 e) (IsUtf8-string_bytes t.name)))
      | false ↦ λ e. ap (option_map (λ i. i + 1)) (not_text ts q h)
    ] in
    go (bytes_eq (string_bytes t.name) q) refl

-- ---- lists that have the same names

pub same_names_push : {X Y : Type 0} (f : X → List ℕ) (g : Y → List ℕ) (xs more : List X) (ys : List Y) (x : X) (y : Y) → f x ≡ g y → map f xs ≡ map g ys → more ≡ xs ++ x ∷ [] → map f more ≡ map g (ys ++ y ∷ [])
same_names_push f g xs more ys x y one so_far is =
    ap (map f) is ∙ map_push f xs x ∙ ap (λ (ns : List (List ℕ)). ns ++ f x ∷ []) so_far ∙ ap (λ (n : List ℕ). map g ys ++ n ∷ []) one ∙ sym (map_push g ys y)

pub same_names_all : {X Y : Type 0} (f : X → List ℕ) (g : Y → List ℕ) (xs : List X) (ys zs : List Y) → map f xs ≡ map g ys → map (λ y. y) ys ≡ zs → map f xs ≡ map g zs
same_names_all f g xs ys zs so_far all = so_far ∙ ap (map g) (sym (map-id ys) ∙ all)

-- ---- a list of what each element has

pub mapped_next : {X Y : Type 0} (f : X → Y) (xs : List X) (i : ℕ) (x : X) (ys more : List Y) → i < length xs → x ≡ get_or xs i x → ys ≡ map f (take i xs) → more ≡ ys ++ f x ∷ [] → more ≡ map f (take (i + 1) xs)
mapped_next f xs i x ys more lt is so_far pushed =
    let front : take (i + 1) xs ≡ take i xs ++ x ∷ [] = take_more xs i x lt ∙ ap (λ y. take i xs ++ y ∷ []) (sym is) in
    pushed ∙ ap (λ zs. zs ++ f x ∷ []) so_far ∙ sym (ap (map f) front ∙ map_push f (take i xs) x)

pub mapped_all : {X Y : Type 0} (f : X → Y) (xs : List X) (i : ℕ) (ys : List Y) → length xs ≤ i → ys ≡ map f (take i xs) → ys ≡ map f xs
mapped_all f xs i ys le so_far = so_far ∙ ap (map f) (take_all i xs le)
