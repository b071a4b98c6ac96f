-- The words of a form, and the line that they make.
use Rattle.std.proofs.Common.{map, ◌≤◌, ◌≡◌, ℕ, ◌^◌, ◌<◌, Bool, true, false, not, ◌&&◌, ◌||◌, cond, eqb, ◌⊎◌, inl, inr, List, [], ◌∷◌, length, get_or, Option, Some, None, option_map, refl, ap, ◌∙◌, sym, arith, subst}
use Rattle.std.proofs.lemmas.Option.{cond_some}
use Rattle.std.proofs.lemmas.Bool.{and_parts}
use Rattle.std.specs.Prelude.{codes, decimal, IfSome}
use Rattle.std.specs.Str.{bytes_eq}
use Rattle.std.specs.Char.{is_ascii_digit}
use Rattle.std.specs.List.{list_all}
use Rattle.std.specs.Cmp.Lexicographic.{bytes_decides}
use Rattle.std.proofs.lemmas.Bool.Decides.{nat_tests}
use Rattle.std.proofs.lemmas.Fmt.{decimal-digits_value}
use Rattle.grub_trace.specs.declared.version.Version.{Version}
use Rattle.grub_trace.specs.declared.version.Version.TheVariants.{One, Two}
use Rattle.grub_plan.specs.declared.line.Act.{Act}
use Rattle.grub_plan.specs.declared.line.Act.TheVariants as act
use Rattle.grub_trace.specs.declared.form.Form as coded
use Rattle.grub_plan.specs.Names.{is_name}
use Rattle.grub_trace.specs.Tree.{act_words, header}
use Rattle.grub_trace.specs.Forms.{Form, queue, task, at_moment, form_of, shape_of, is_filled, act_of, version_of, is_number}
use Rattle.text_bytes.specs.Digits.{value}
use Rattle.grub_trace.specs.inside.Faults.{is_act_named, is_named}
use Rattle.grub_trace.specs.inside.Reading.{form_view}
use Rattle.text_bytes.proofs.Digits.{numerals}

abbrev pub form_words : Form → List (List ℕ)
form_words (queue a b) = codes "queue" ∷ a ∷ b ∷ []
form_words (task n q p) = codes "task" ∷ n ∷ q ∷ p ∷ []
form_words (at_moment m a) = codes "at" ∷ m ∷ act_words (λ w. w) a

abbrev pub IsForm : List (List ℕ) → Form → Type 0
IsForm ws f = (ws ≡ form_words f) × (is_named f ≡ true)

-- the act that a verb and a name make
abbrev IsActOf : List ℕ → List ℕ → Act (List ℕ) (List ℕ) → Type 0
IsActOf w n a = (w ∷ n ∷ [] ≡ act_words (λ w. w) a) × (is_name n ≡ true → is_act_named a ≡ true)

pick : (b : Bool) (x : Act (List ℕ) (List ℕ)) (o : Option (Act (List ℕ) (List ℕ))) (a : Act (List ℕ) (List ℕ)) → cond b (Some x) o ≡ Some a → ((b ≡ true) × (x ≡ a)) ⊎ (o ≡ Some a)
pick true x o a e = inl (refl, cc)
pick false x o a e = inr e

verb : (w k n : List ℕ) (x a : Act (List ℕ) (List ℕ)) → k ∷ n ∷ [] ≡ act_words (λ w. w) x → (is_name n ≡ true → is_act_named x ≡ true) → (bytes_eq w k ≡ true) × (x ≡ a) → IsActOf w n a
verb w k n x a words named h = subst (IsActOf w n) h.1 (ap (λ (u : List ℕ). u ∷ n ∷ []) ((bytes_decides w k).0 h.0) ∙ words, named)

act_is : (w n : List ℕ) (a : Act (List ℕ) (List ℕ)) → act_of w n ≡ Some a → IsActOf w n a
act_is w n a e =
    elim (pick (bytes_eq w (codes "join")) (act.Join n) _ a e) [
      | inl h ↦ verb w (codes "join") n (act.Join n) a refl (λ is. is) h
      | inr e ↦ elim (pick (bytes_eq w (codes "wake")) (act.Wake n) _ a e) [
        | inl h ↦ verb w (codes "wake") n (act.Wake n) a refl (λ is. is) h
        | inr e ↦ elim (pick (bytes_eq w (codes "block")) (act.Block n) _ a e) [
          | inl h ↦ verb w (codes "block") n (act.Block n) a refl (λ is. is) h
          | inr e ↦ elim (pick (bytes_eq w (codes "leave")) (act.Leave n) _ a e) [
            | inl h ↦ verb w (codes "leave") n (act.Leave n) a refl (λ is. is) h
            | inr e ↦ elim (pick (bytes_eq w (codes "exit")) (act.Exit n) None a e) [
              | inl h ↦ verb w (codes "exit") n (act.Exit n) a refl (λ is. is) h
              | inr e ↦ absurd cc
            ]
          ]
        ]
      ]
    ]

some_form : (x y : Form) → Some x ≡ Some y → x ≡ y
some_form x y e = cc

mapped : (g : Act (List ℕ) (List ℕ) → Form) (o : Option (Act (List ℕ) (List ℕ))) (f : Form) → option_map g o ≡ Some f → (a : Act (List ℕ) (List ℕ)) × (o ≡ Some a) × (g a ≡ f)
mapped g None f e = absurd cc
mapped g (Some a) f e = (a, refl, some_form (g a) f e)

three : (t u : Bool) (x y f : Form) → cond t (Some x) (cond u (Some y) None) ≡ Some f → ((t ≡ true) × (x ≡ f)) ⊎ ((u ≡ true) × (y ≡ f))
three true u x y f e = inl (refl, cc)
three false true x y f e = inr (refl, cc)
three false false x y f e = absurd cc

four : (t u : Bool) (x : Form) (o : Option Form) (f : Form) → cond t (Some x) (cond u o None) ≡ Some f → ((t ≡ true) × (x ≡ f)) ⊎ ((u ≡ true) × (o ≡ Some f))
four true u x o f e = inl (refl, cc)
four false true x o f e = inr (refl, e)
four false false x o f e = absurd cc

shape_is : (ws : List (List ℕ)) (f : Form) → shape_of ws ≡ Some f → IsForm ws f
shape_is [] f e = absurd cc
shape_is (k ∷ []) f e = absurd cc
shape_is (k ∷ a ∷ []) f e = absurd cc
shape_is (k ∷ a ∷ b ∷ []) f e =
    elim (three (bytes_eq k (codes "queue")) (bytes_eq k (codes "at") && bytes_eq b (codes "read")) (queue a b) (at_moment a act.Read) f e) [
      | inl h ↦ subst (IsForm (k ∷ a ∷ b ∷ [])) h.1 (ap (λ (w : List ℕ). w ∷ a ∷ b ∷ []) ((bytes_decides k (codes "queue")).0 h.0), refl)
      | inr h ↦ let p = and_parts (bytes_eq k (codes "at")) (bytes_eq b (codes "read")) h.0 in
          subst (IsForm (k ∷ a ∷ b ∷ [])) h.1
          (ap (λ (w : List ℕ). w ∷ a ∷ b ∷ []) ((bytes_decides k (codes "at")).0 p.0) ∙ ap (λ (w : List ℕ). codes "at" ∷ a ∷ w ∷ []) ((bytes_decides b (codes "read")).0 p.1), refl)
    ]
shape_is (k ∷ a ∷ b ∷ c ∷ []) f e =
    elim (four (bytes_eq k (codes "task") && is_name a) (bytes_eq k (codes "at") && is_name c) (task a b c) (option_map (at_moment a) (act_of b c)) f e) [
      | inl h ↦ let p = and_parts (bytes_eq k (codes "task")) (is_name a) h.0 in
          subst (IsForm (k ∷ a ∷ b ∷ c ∷ [])) h.1 (ap (λ (w : List ℕ). w ∷ a ∷ b ∷ c ∷ []) ((bytes_decides k (codes "task")).0 p.0), p.1)
      | inr h ↦ let p = and_parts (bytes_eq k (codes "at")) (is_name c) h.0 in
          let v = mapped (at_moment a) (act_of b c) f h.1 in
          let is = act_is b c v.0 v.1 in
          subst (IsForm (k ∷ a ∷ b ∷ c ∷ [])) v.2
          (ap (λ (w : List ℕ). w ∷ a ∷ b ∷ c ∷ []) ((bytes_decides k (codes "at")).0 p.0) ∙ ap (λ (ws : List (List ℕ)). codes "at" ∷ a ∷ ws) is.0, is.1 p.1)
    ]
shape_is (k ∷ a ∷ b ∷ c ∷ d ∷ []) f e =
    let h = cond_some (bytes_eq k (codes "at") && bytes_eq b (codes "run") && is_name c) (at_moment a (act.Run c d)) f e in
    let p = and_parts (bytes_eq k (codes "at") && bytes_eq b (codes "run")) (is_name c) h.0 in
    let q = and_parts (bytes_eq k (codes "at")) (bytes_eq b (codes "run")) p.0 in
    subst (IsForm (k ∷ a ∷ b ∷ c ∷ d ∷ [])) h.1
    (ap (λ (w : List ℕ). w ∷ a ∷ b ∷ c ∷ d ∷ []) ((bytes_decides k (codes "at")).0 q.0) ∙ ap (λ (w : List ℕ). codes "at" ∷ a ∷ w ∷ c ∷ d ∷ []) ((bytes_decides b (codes "run")).0 q.1), p.1)
shape_is (k ∷ a ∷ b ∷ c ∷ d ∷ x ∷ []) f e =
    let h = cond_some (bytes_eq k (codes "at") && bytes_eq b (codes "retune") && is_name c) (at_moment a (act.Retune c d x)) f e in
    let p = and_parts (bytes_eq k (codes "at") && bytes_eq b (codes "retune")) (is_name c) h.0 in
    let q = and_parts (bytes_eq k (codes "at")) (bytes_eq b (codes "retune")) p.0 in
    subst (IsForm (k ∷ a ∷ b ∷ c ∷ d ∷ x ∷ [])) h.1
    (ap (λ (w : List ℕ). w ∷ a ∷ b ∷ c ∷ d ∷ x ∷ []) ((bytes_decides k (codes "at")).0 q.0) ∙ ap (λ (w : List ℕ). codes "at" ∷ a ∷ w ∷ c ∷ d ∷ x ∷ []) ((bytes_decides b (codes "retune")).0 q.1), p.1)
shape_is (k ∷ a ∷ b ∷ c ∷ d ∷ x ∷ y ∷ ys) f e = absurd cc

-- words with a form are filled, and have its shape
filled : (b : Bool) (o : Option Form) (f : Form) → cond b o None ≡ Some f → (b ≡ true) × (o ≡ Some f)
filled true o f e = (refl, e)
filled false o f e = absurd cc

pub form_is : (ws : List (List ℕ)) (f : Form) → form_of ws ≡ Some f → IsForm ws f
form_is ws f e = shape_is ws f (filled (list_all is_filled ws) (shape_of ws) f e).1

pub form_named : (o : Option coded.Form) (ws : List (List ℕ)) → option_map form_view o ≡ form_of ws → IfSome o (λ f. is_named (form_view f) ≡ true)
form_named None ws e = tt
form_named (Some f) ws e = (form_is ws (form_view f) (sym e)).1

-- filled words have the form of their shape
pub form_again : (ws : List (List ℕ)) → list_all is_filled ws ≡ true → form_of ws ≡ shape_of ws
form_again ws h = ap (λ (b : Bool). cond b (shape_of ws) None) h

pub no_shape : (ws : List (List ℕ)) → shape_of ws ≡ None → form_of ws ≡ None
no_shape ws h = go (list_all is_filled ws) (shape_of ws) h
  where
    go : (b : Bool) (o : Option Form) → o ≡ None → cond b o None ≡ None
    go true o h = h
    go false o h = refl

-- ---- words of no shape, as slices have them

pub few_words : {X : Type 0} (f : X → List ℕ) (ws : List X) → length ws < 3 → shape_of (map f ws) ≡ None
few_words f [] h = refl
few_words f (a ∷ []) h = refl
few_words f (a ∷ b ∷ []) h = refl
few_words f (a ∷ b ∷ c ∷ ws) h = absurd (omega arith)

pub many_words : {X : Type 0} (f : X → List ℕ) (ws : List X) → 6 < length ws → shape_of (map f ws) ≡ None
many_words f [] h = absurd (omega arith)
many_words f (a ∷ []) h = absurd (omega arith)
many_words f (a ∷ b ∷ []) h = absurd (omega arith)
many_words f (a ∷ b ∷ c ∷ []) h = absurd (omega arith)
many_words f (a ∷ b ∷ c ∷ d ∷ []) h = absurd (omega arith)
many_words f (a ∷ b ∷ c ∷ d ∷ e ∷ []) h = absurd (omega arith)
many_words f (a ∷ b ∷ c ∷ d ∷ e ∷ g ∷ []) h = absurd (omega arith)
many_words f (a ∷ b ∷ c ∷ d ∷ e ∷ g ∷ i ∷ ws) h = refl

-- ---- words by their number

pub three_words : {X : Type 0} (f : X → List ℕ) (ws : List X) (d : X) → 3 ≤ length ws → length ws < 4 → map f ws ≡ f (get_or ws 0 d) ∷ f (get_or ws 1 d) ∷ f (get_or ws 2 d) ∷ []
three_words f [] d m l = absurd (omega arith)
three_words f (a ∷ []) d m l = absurd (omega arith)
three_words f (a ∷ b ∷ []) d m l = absurd (omega arith)
three_words f (a ∷ b ∷ c ∷ []) d m l = refl
three_words f (a ∷ b ∷ c ∷ e ∷ ws) d m l = absurd (omega arith)

pub four_words : {X : Type 0} (f : X → List ℕ) (ws : List X) (d : X) → 4 ≤ length ws → length ws < 5 → map f ws ≡ f (get_or ws 0 d) ∷ f (get_or ws 1 d) ∷ f (get_or ws 2 d) ∷ f (get_or ws 3 d) ∷ []
four_words f [] d m l = absurd (omega arith)
four_words f (a ∷ []) d m l = absurd (omega arith)
four_words f (a ∷ b ∷ []) d m l = absurd (omega arith)
four_words f (a ∷ b ∷ c ∷ []) d m l = absurd (omega arith)
four_words f (a ∷ b ∷ c ∷ e ∷ []) d m l = refl
four_words f (a ∷ b ∷ c ∷ e ∷ g ∷ ws) d m l = absurd (omega arith)

pub five_words : {X : Type 0} (f : X → List ℕ) (ws : List X) (d : X) → 5 ≤ length ws → length ws < 6 → map f ws ≡ f (get_or ws 0 d) ∷ f (get_or ws 1 d) ∷ f (get_or ws 2 d) ∷ f (get_or ws 3 d) ∷ f (get_or ws 4 d) ∷ []
five_words f [] d m l = absurd (omega arith)
five_words f (a ∷ []) d m l = absurd (omega arith)
five_words f (a ∷ b ∷ []) d m l = absurd (omega arith)
five_words f (a ∷ b ∷ c ∷ []) d m l = absurd (omega arith)
five_words f (a ∷ b ∷ c ∷ e ∷ []) d m l = absurd (omega arith)
five_words f (a ∷ b ∷ c ∷ e ∷ g ∷ []) d m l = refl
five_words f (a ∷ b ∷ c ∷ e ∷ g ∷ h ∷ ws) d m l = absurd (omega arith)

pub six_words : {X : Type 0} (f : X → List ℕ) (ws : List X) (d : X) → 6 ≤ length ws → length ws < 7 → map f ws ≡ f (get_or ws 0 d) ∷ f (get_or ws 1 d) ∷ f (get_or ws 2 d) ∷ f (get_or ws 3 d) ∷ f (get_or ws 4 d) ∷ f (get_or ws 5 d) ∷ []
six_words f [] d m l = absurd (omega arith)
six_words f (a ∷ []) d m l = absurd (omega arith)
six_words f (a ∷ b ∷ []) d m l = absurd (omega arith)
six_words f (a ∷ b ∷ c ∷ []) d m l = absurd (omega arith)
six_words f (a ∷ b ∷ c ∷ e ∷ []) d m l = absurd (omega arith)
six_words f (a ∷ b ∷ c ∷ e ∷ g ∷ []) d m l = absurd (omega arith)
six_words f (a ∷ b ∷ c ∷ e ∷ g ∷ h ∷ []) d m l = refl
six_words f (a ∷ b ∷ c ∷ e ∷ g ∷ h ∷ i ∷ ws) d m l = absurd (omega arith)

-- ---- the first line

version_from : (a b : Bool) (v : Version) → cond a (Some One) (cond b (Some Two) None) ≡ Some v → ((a ≡ true) × (One ≡ v)) ⊎ ((b ≡ true) × (Two ≡ v))
version_from true b v e = inl (refl, cc)
version_from false true v e = inr (refl, cc)
version_from false false v e = absurd cc

pub version_is : (l : List ℕ) (v : Version) → version_of l ≡ Some v → l ≡ header v
version_is l v e =
    elim (version_from (bytes_eq l (header One)) (bytes_eq l (header Two)) v e) [
      | inl h ↦ (bytes_decides l (header One)).0 h.0 ∙ ap header h.1
      | inr h ↦ (bytes_decides l (header Two)).0 h.0 ∙ ap header h.1
    ]

pub version_again : (v : Version) → version_of (header v) ≡ Some v
version_again One = refl
version_again Two = refl

-- ---- numbers

digits_part : (w : List ℕ) → is_number w ≡ true → list_all is_ascii_digit w ≡ true
digits_part [] h = absurd cc
digits_part (c ∷ cs) h = (and_parts (list_all is_ascii_digit (c ∷ cs)) (not (eqb c 48) || eqb (length cs) 0) h).0

some_part : (w : List ℕ) → is_number w ≡ true → 0 < length w
some_part [] h = absurd cc
some_part (c ∷ cs) h = omega arith

lone_zero : (w : List ℕ) → is_number w ≡ true → get_or w 0 0 ≡ 48 → length w ≡ 1
lone_zero [] h z = absurd cc
lone_zero (c ∷ cs) h z = let p = (and_parts (list_all is_ascii_digit (c ∷ cs)) (not (eqb c 48) || eqb (length cs) 0) h).1 in grind (arith, nat_tests)

-- the one spelling of a number
pub number_is : (w : List ℕ) → is_number w ≡ true → value w < 2 ^ 64 → decimal (value w) ≡ w
number_is w h lt = decimal-digits_value numerals w (digits_part w h) (some_part w h) (lone_zero w h) lt
