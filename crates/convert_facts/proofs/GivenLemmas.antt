-- Lists of the given tasks, seen by their texts.
use Rattle.std.proofs.Common.{◌≡◌, ℕ, zero, suc, ◌+◌, ◌<◌, Bool, true, false, not, cond, ltb, List, [], ◌∷◌, length, map, set, get_or, Option, Some, None, is_some, refl, sym, ap, ◌∙◌, arith}
use Rattle.std.specs.List.{position, position_or_len, prefix_len}
use Rattle.std.proofs.lemmas.List.{length-map}
use Rattle.convert_facts.specs.Given.{Task, changed_at, changed_where, settled_by}

prefix_map : {X Y : Type 0} (p : Y → Bool) (f : X → Y) (xs : List X) → prefix_len p (map f xs) ≡ prefix_len (λ x. p (f x)) xs
prefix_map p f [] = refl
prefix_map p f (x ∷ xs) = ap (λ (n : ℕ). cond (p (f x)) (1 + n) 0) (prefix_map p f xs)

-- a place in a list of views is a place in the list
pub position_map : {X Y : Type 0} (p : Y → Bool) (f : X → Y) (xs : List X) → position (λ x. p (f x)) xs ≡ position p (map f xs)
position_map p f xs =
    sym (ap (λ (n : ℕ). cond (ltb n (length (map f xs))) (Some n) None) (prefix_map (λ y. not (p y)) f xs)
    ∙ ap (λ (n : ℕ). cond (ltb (position_or_len (λ x. p (f x)) xs) n) (Some (position_or_len (λ x. p (f x)) xs)) None) (length-map xs f))

-- a write to one element, seen by views
pub changed_map : {X Y : Type 0} (f : X → Y) (g : Y → Y) (xs : List X) (i : ℕ) (y d : X) → i < length xs → d ≡ get_or xs i d → f y ≡ g (f d) → map f (set xs i y) ≡ changed_at i g (map f xs)
changed_map f g [] i y d lt is e = absurd (omega arith)
changed_map f g (x ∷ xs) zero y d lt is e = ap (λ z. z ∷ map f xs) (e ∙ ap (λ z. g (f z)) is)
changed_map f g (x ∷ xs) (suc i) y d lt is e = ap (λ zs. f x ∷ zs) (changed_map f g xs i y d (omega arith) is e)

pub changed_where_some : {X : Type 0} (o : Option ℕ) (i : ℕ) (f : X → X) (xs : List X) → o ≡ Some i → changed_where o f xs ≡ changed_at i f xs
changed_where_some o i f xs e = ap (λ (q : Option ℕ). changed_where q f xs) e

-- the comm was that of a task whose pid is known
pub settled_second : (o c : Option ℕ) (i n : ℕ) (tasks : List Task) → is_some o ≡ true → c ≡ Some i → settled_by o c n tasks ≡ changed_at i (λ t. record t { sought = None }) tasks
settled_second None c i n tasks known is = absurd cc
settled_second (Some k) c i n tasks known is = rw is refl

-- the comm is that of a task whose pid was not known
pub settled_first : (o c : Option ℕ) (i n : ℕ) (tasks : List Task) → is_some o ≡ false → c ≡ Some i → settled_by o c n tasks ≡ changed_at i (λ t. record t { sought = None; pid = Some n }) tasks
settled_first None c i n tasks known is = rw is refl
settled_first (Some k) c i n tasks known is = absurd cc

-- a change of one element to itself
pub unchanged : {X : Type 0} (i : ℕ) (xs : List X) → changed_at i (λ x. x) xs ≡ xs
unchanged i [] = refl
unchanged zero (x ∷ xs) = refl
unchanged (suc i) (x ∷ xs) = ap (λ ys. x ∷ ys) (unchanged i xs)
