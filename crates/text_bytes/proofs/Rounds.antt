-- Parts of lines, one after the other.
use Rattle.std.proofs.Common.{◌≡◌, ℕ, suc, ◌+◌, ◌-◌, ◌*◌, ◌<◌, ◌≤◌, List, [], ◌∷◌, ◌++◌, length, take, drop, get_or, Option, Some, None, refl, sym, ap, ◌∙◌, arith, append-nil, subst, drop-drop}
use Rattle.std.proofs.Math.Seq.{take-add}
use Rattle.std.proofs.lemmas.Grind.{common_steps, flat_map-append}
use Rattle.std.proofs.lemmas.List.{take-append-drop}
use Rattle.std.specs.List.{flat_map}
use Rattle.text_bytes.specs.Writing.{HandsOn, HandsPart}
use Rattle.text_bytes.proofs.Handing.{hands_both, part_after, part_longer}

-- what is put together of the texts of parts is the text of all
pub parts_text : {X B : Type 0} (line : X → List ℕ) (text : B → List ℕ) (size : ℕ) (bs : List B) (xs : List X)
    → ((i : ℕ) (d : B) → i < length bs → text (get_or bs i d) ≡ flat_map line (take size (drop (i * size) xs))) → length xs ≤ length bs * size
    → flat_map text bs ≡ flat_map line xs
parts_text line text size [] [] each few = refl
parts_text line text size [] (x ∷ xs) each few = absurd (omega arith)
parts_text line text size (b ∷ bs) xs each few =
    let shift : (i : ℕ) → drop (suc i * size) xs ≡ drop (i * size) (drop size xs) = λ i. ap (λ n. drop n xs) (omega arith) ∙ sym (drop-drop (i * size) size xs) in
    let none : 0 * size ≡ 0 = omega arith in
    let first : text b ≡ flat_map line (take size xs) = each 0 b (omega arith) ∙ ap (λ n. flat_map line (take size (drop n xs))) none in
    let fewer : length (drop size xs) ≤ length bs * size = grind (arith, common_steps) in
    let rest : flat_map text bs ≡ flat_map line (drop size xs) =
    parts_text line text size bs (drop size xs) (λ i d below. each (suc i) d (omega arith) ∙ ap (λ ys. flat_map line (take size ys)) (shift i)) fewer in
    ap (λ t. t ++ flat_map text bs) first ∙ ap (λ t. flat_map line (take size xs) ++ t) rest
    ∙ sym (flat_map-append line (take size xs) (drop size xs)) ∙ ap (flat_map line) (take-append-drop size xs)

-- the lines up to a place, and those of the part that follows
pub lines_next : {X : Type 0} (line : X → List ℕ) (xs : List X) (at end : ℕ) → at ≤ end
    → flat_map line (take at xs) ++ flat_map line (take (end - at) (drop at xs)) ≡ flat_map line (take end xs)
lines_next line xs at end le =
    let sum : at + (end - at) ≡ end = omega arith in
    sym (flat_map-append line (take at xs) (take (end - at) (drop at xs))) ∙ ap (flat_map line) (sym (take-add at (end - at) xs) ∙ ap (λ n. take n xs) sum)

-- the lines of a round that was written, after those before it
pub hands_round : {X : Type 0} (line : X → List ℕ) (a b c : Option (List ℕ)) (xs part : List X) (at end : ℕ) → at ≤ end → part ≡ take (end - at) (drop at xs)
    → HandsOn a b [] (flat_map line (take at xs)) [] → HandsOn b c [] (flat_map line part) [] → HandsOn a c [] (flat_map line (take end xs)) []
hands_round line a b c xs part at end le is h k =
    subst (λ t. HandsOn a c [] t []) (ap (λ p. flat_map line (take at xs) ++ flat_map line p) is ∙ lines_next line xs at end le)
    (hands_both a b c [] (flat_map line (take at xs)) [] (flat_map line part) [] h k)

-- a round that stopped
pub part_round : {X : Type 0} (line : X → List ℕ) (a b c : Option (List ℕ)) (xs part : List X) (at end : ℕ) → at ≤ end → part ≡ take (end - at) (drop at xs)
    → HandsOn a b [] (flat_map line (take at xs)) [] → HandsPart b c [] (flat_map line part) → HandsPart a c [] (flat_map line xs)
part_round line a b c xs part at end le is h k =
    let so_far : HandsPart a c [] (flat_map line (take end xs)) =
    subst (λ t. HandsPart a c [] t) (ap (λ p. flat_map line (take at xs) ++ flat_map line p) is ∙ lines_next line xs at end le)
    (part_after a b c [] (flat_map line (take at xs)) [] (flat_map line part) h k) in
    subst (λ t. HandsPart a c [] t) (sym (flat_map-append line (take end xs) (drop end xs)) ∙ ap (flat_map line) (take-append-drop end xs))
    (part_longer a c [] (flat_map line (take end xs)) (flat_map line (drop end xs)) so_far)

-- bytes that a writer is handed by themselves
pub hands_bytes : (a b : Option (List ℕ)) (bytes left : List ℕ) → HandsOn a b bytes [] left → HandsOn a b [] bytes left
hands_bytes None b bytes left h = tt
hands_bytes (Some xs) None bytes left h = absurd h
hands_bytes (Some xs) (Some ys) bytes left h = (h.0, h.1, sym (append-nil bytes) ∙ h.2)

pub part_bytes : (a b : Option (List ℕ)) (bytes : List ℕ) → HandsPart a b bytes [] → HandsPart a b [] bytes
part_bytes a b bytes h = (h.0, hands_bytes a b bytes h.0 h.1)
