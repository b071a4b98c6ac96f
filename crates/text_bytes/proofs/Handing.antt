-- Texts that are handed on, one after the other.
use Rattle.std.proofs.Common.{◌≡◌, ℕ, ◌+◌, List, [], ◌∷◌, ◌++◌, length, take, drop, Option, Some, None, sym, ap, ◌∙◌, append_assoc}
use Rattle.std.proofs.Common.{◌<◌, get_or, Result, Ok, Err, subst}
use Rattle.std.specs.Prelude.{OnErr}
use Rattle.std.proofs.lemmas.List.{take_more, take-append-drop}
use Rattle.std.specs.List.{flat_map}
use Rattle.std.specs.Io.KnownBytes.{Appends, Keeps}
use Rattle.std.proofs.lemmas.Grind.{flat_map-append}
use Rattle.std.proofs.lemmas.List.{append-nil}
use Rattle.std.proofs.Math.Seq.{take-add}
use Rattle.text_bytes.specs.Writing.{HandsOn, HandsPart}

-- two writes, one after the other
pub appends_more : (a b c : Option (List ℕ)) (text : List ℕ) (m n : ℕ) → Appends a b (take m text) → Appends b c (take n (drop m text)) → Appends a c (take (m + n) text)
appends_more None b c text m n h k = tt
appends_more (Some xs) None c text m n h k = absurd h
appends_more (Some xs) (Some ys) None text m n h k = absurd k
appends_more (Some xs) (Some ys) (Some zs) text m n h k =
    k ∙ (ap (λ l. l ++ take n (drop m text)) h ∙ (append_assoc xs (take m text) (take n (drop m text)) ∙ ap (λ l. xs ++ l) (sym (take-add m n text))))

-- nothing was handed on yet
pub hands_none : (a : Option (List ℕ)) (kept : List ℕ) → HandsOn a a kept [] kept
hands_none None kept = tt
hands_none (Some xs) kept = ([], sym (append-nil xs), append-nil kept)

-- a beginning of what was kept
pub hands_front : (a b : Option (List ℕ)) (kept : List ℕ) (m : ℕ) → Appends a b (take m kept) → HandsOn a b kept [] (drop m kept)
hands_front None b kept m h = tt
hands_front (Some xs) None kept m h = absurd h
hands_front (Some xs) (Some ys) kept m h = (take m kept, h, append-nil kept ∙ sym (take-append-drop m kept))

-- what comes to the text comes to what is left
pub hands_more : (a b : Option (List ℕ)) (kept text left more : List ℕ) → HandsOn a b kept text left → HandsOn a b kept (text ++ more) (left ++ more)
hands_more None b kept text left more h = tt
hands_more (Some xs) None kept text left more h = absurd h
hands_more (Some xs) (Some ys) kept text left more h =
    (h.0, h.1, sym (append_assoc kept text more) ∙ ap (λ l. l ++ more) h.2 ∙ append_assoc h.0 left more)

-- one text after the other
pub hands_both : (a b c : Option (List ℕ)) (kept text left more rest : List ℕ) → HandsOn a b kept text left → HandsOn b c left more rest → HandsOn a c kept (text ++ more) rest
hands_both None b c kept text left more rest h k = tt
hands_both (Some xs) None c kept text left more rest h k = absurd h
hands_both (Some xs) (Some ys) None kept text left more rest h k = absurd k
hands_both (Some xs) (Some ys) (Some zs) kept text left more rest h k = (
  h.0 ++ k.0,
  k.1 ∙ ap (λ l. l ++ k.0) h.1 ∙ append_assoc xs h.0 k.0,
  sym (append_assoc kept text more) ∙ ap (λ l. l ++ more) h.2 ∙ append_assoc h.0 left more ∙ ap (λ l. h.0 ++ l) k.2 ∙ sym (append_assoc h.0 k.0 rest),
)

-- the buffer was handed on, and then a text was put into it
pub hands_put : (a b : Option (List ℕ)) (kept left text new : List ℕ) → HandsOn a b kept [] left → new ≡ left ++ text → HandsOn a b kept text new
hands_put a b kept left text new h is = subst_new (hands_more a b kept [] left text h)
  where
    subst_new : HandsOn a b kept ([] ++ text) (left ++ text) → HandsOn a b kept text new
    subst_new k = rw is k

-- a beginning of what was kept is one of it and a text
pub hands_soon : (a b : Option (List ℕ)) (kept text : List ℕ) → HandsPart a b kept [] → HandsPart a b kept text
hands_soon a b kept text h = (h.0 ++ text, hands_more a b kept [] h.0 text h.1)

-- a write that failed left what the writer holds
pub part_kept : (a b c : Option (List ℕ)) (kept : List ℕ) (m : ℕ) → Appends a b (take m kept) → Keeps b c → HandsPart a c kept []
part_kept None b c kept m h k = (drop m kept, tt)
part_kept (Some xs) None c kept m h k = absurd h
part_kept (Some xs) (Some ys) None kept m h k = absurd k
part_kept (Some xs) (Some ys) (Some zs) kept m h k = (drop m kept, hands_front (Some xs) (Some zs) kept m (k ∙ h))

-- a write that took nothing too
pub part_nothing : (a b c : Option (List ℕ)) (kept rest : List ℕ) (m n : ℕ) → Appends a b (take m kept) → n ≡ 0 → Appends b c (take n rest) → HandsPart a c kept []
part_nothing None b c kept rest m n h z k = (drop m kept, tt)
part_nothing (Some xs) None c kept rest m n h z k = absurd h
part_nothing (Some xs) (Some ys) None kept rest m n h z k = absurd k
part_nothing (Some xs) (Some ys) (Some zs) kept rest m n h z k =
    let same : zs ≡ ys = k ∙ ap (λ i. ys ++ take i rest) z ∙ append-nil ys in
    (drop m kept, hands_front (Some xs) (Some zs) kept m (same ∙ h))

-- two parts, of which the second stops
pub part_after : (a b c : Option (List ℕ)) (kept text left more : List ℕ) → HandsOn a b kept text left → HandsPart b c left more → HandsPart a c kept (text ++ more)
part_after a b c kept text left more h k = (k.0, hands_both a b c kept text left more k.0 h k.1)

-- a part of a text is one of a longer text
pub part_longer : (a b : Option (List ℕ)) (kept text more : List ℕ) → HandsPart a b kept text → HandsPart a b kept (text ++ more)
part_longer a b kept text more h = (h.0 ++ more, hands_more a b kept text h.0 more h.1)

-- what holds, holds of an error
pub on_err : {U E P : Type 0} (r : Result U E) → P → OnErr r P
on_err (Ok u) p = tt
on_err (Err e) p = p

-- all that was kept is gone
pub hands_all : (a b : Option (List ℕ)) (text : List ℕ) → HandsOn a b [] text [] → Appends a b text
hands_all None b text h = tt
hands_all (Some xs) None text h = absurd h
hands_all (Some xs) (Some ys) text h = h.1 ∙ ap (λ l. xs ++ l) (sym (append-nil h.0) ∙ sym h.2)

-- a text through an empty buffer that is written at the end
pub hands_through : (a b c : Option (List ℕ)) (text left : List ℕ) → HandsOn a b [] text left → HandsOn b c left [] [] → Appends a c text
hands_through a b c text left h k = subst (λ t. Appends a c t) (append-nil text) (hands_all a c (text ++ []) (hands_both a b c [] text left [] [] h k))

-- ---- the entries of a report, one after the other

pub entries_next : {X : Type 0} (f : X → List ℕ) (xs : List X) (i : ℕ) (d : X) → i < length xs → flat_map f (take (i + 1) xs) ≡ flat_map f (take i xs) ++ f (get_or xs i d)
entries_next f xs i d lt =
    ap (flat_map f) (take_more xs i d lt) ∙ flat_map-append f (take i xs) (get_or xs i d ∷ []) ∙ ap (λ l. flat_map f (take i xs) ++ l) (append-nil (f (get_or xs i d)))

pub hands_entries : {X : Type 0} (f : X → List ℕ) (a b c : Option (List ℕ)) (kept left rest : List ℕ) (xs : List X) (i : ℕ) (d : X) → i < length xs → HandsOn a b kept (flat_map f (take i xs)) left → HandsOn b c left (f (get_or xs i d)) rest
    → HandsOn a c kept (flat_map f (take (i + 1) xs)) rest
hands_entries f a b c kept left rest xs i d lt h k =
    subst (λ t. HandsOn a c kept t rest) (sym (entries_next f xs i d lt)) (hands_both a b c kept (flat_map f (take i xs)) left (f (get_or xs i d)) rest h k)

pub part_entries : {X : Type 0} (f : X → List ℕ) (a b c : Option (List ℕ)) (kept left : List ℕ) (xs : List X) (i : ℕ) (d : X) → i < length xs → HandsOn a b kept (flat_map f (take i xs)) left → HandsPart b c left (f (get_or xs i d))
    → HandsPart a c kept (flat_map f xs)
part_entries f a b c kept left xs i d lt h k =
    let rest = flat_map f (drop (i + 1) xs) in
    let so_far = part_after a b c kept (flat_map f (take i xs)) left (f (get_or xs i d)) h k in
    let whole : (flat_map f (take i xs) ++ f (get_or xs i d)) ++ rest ≡ flat_map f xs =
    ap (λ l. l ++ rest) (sym (entries_next f xs i d lt)) ∙ sym (flat_map-append f (take (i + 1) xs) (drop (i + 1) xs)) ∙ ap (flat_map f) (take-append-drop (i + 1) xs) in
    subst (λ t. HandsPart a c kept t) whole (part_longer a c kept (flat_map f (take i xs) ++ f (get_or xs i d)) rest so_far)
