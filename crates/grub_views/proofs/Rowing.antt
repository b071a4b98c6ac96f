-- The text of a row.
use Rattle.std.proofs.Common.{◌≡◌, ℕ, List, [], ◌∷◌, ◌++◌, append_assoc, append-nil, ap, ◌∙◌, sym}
use Rattle.std.specs.Prelude.{codes}
use Rattle.std.specs.List.{flat_map, join_with_byte}
use Rattle.std.proofs.lemmas.Grind.{flat_map-append}
use Rattle.grub_views.specs.Rows.{row}

-- fields, each after a tab
abbrev pub tabbed : List (List ℕ) → List ℕ
tabbed fields = flat_map (λ (f : List ℕ). 9 ∷ f) fields

pub join_tabbed : (a : List ℕ) (more : List (List ℕ)) → join_with_byte 9 (a ∷ more) ≡ a ++ tabbed more
join_tabbed a [] = sym (append-nil a)
join_tabbed a (b ∷ more) = ap (λ (x : List ℕ). a ++ 9 ∷ x) (join_tabbed b more)

regroup : (o a p n x y l : List ℕ) → ((((o ++ (a ++ p)) ++ n) ++ x) ++ y) ++ l ≡ o ++ ((a ++ ((p ++ n) ++ (x ++ (y ++ [])))) ++ l)
regroup o a p n x y l = simp (append_assoc, append-nil)

pub whole_row : (o a : List ℕ) (more numbers : List (List ℕ)) (r t : List ℕ)
    → ((((o ++ join_with_byte 9 (a ∷ more)) ++ tabbed numbers) ++ (codes "\t" ++ r)) ++ (codes "\t" ++ t)) ++ codes "\n"
    ≡ o ++ row ((a ∷ more) ++ numbers ++ r ∷ t ∷ [])
whole_row o a more numbers r t =
    let f = λ (f : List ℕ). 9 ∷ f in
    let front = join_tabbed a more in
    let all = join_tabbed a (more ++ numbers ++ r ∷ t ∷ []) in
    let parts : tabbed (more ++ numbers ++ r ∷ t ∷ []) ≡ (tabbed more ++ tabbed numbers) ++ ((9 ∷ r) ++ ((9 ∷ t) ++ []))
    = flat_map-append f (more ++ numbers) (r ∷ t ∷ []) ∙ ap (λ (x : List ℕ). x ++ ((9 ∷ r) ++ ((9 ∷ t) ++ []))) (flat_map-append f more numbers) in
    ap (λ (x : List ℕ). ((((o ++ x) ++ tabbed numbers) ++ (9 ∷ r)) ++ (9 ∷ t)) ++ codes "\n") front
    ∙ regroup o a (tabbed more) (tabbed numbers) (9 ∷ r) (9 ∷ t) (codes "\n")
    ∙ sym (ap (λ (x : List ℕ). o ++ (x ++ codes "\n")) (all ∙ ap (λ (x : List ℕ). a ++ x) parts))
