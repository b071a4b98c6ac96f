-- A text that is handed on piece by piece: what was done of it, and what is left.
use Rattle.std.proofs.Common.{◌≡◌, ℕ, List, [], ◌++◌, ◌∙◌, ap, sym, subst, append_assoc, append-nil, Option}
use Rattle.text_bytes.specs.Writing.{HandsOn, HandsPart}
use Rattle.text_bytes.proofs.Handing.{part_after, part_longer}

pub piece_left : (done text after rest whole : List ℕ) → done ++ rest ≡ whole → rest ≡ text ++ after → (done ++ text) ++ after ≡ whole
piece_left done text after rest whole is cut = append_assoc done text after ∙ ap (λ (l : List ℕ). done ++ l) (sym cut) ∙ is

-- a piece of which only a part was handed on
pub part_piece : (a b c : Option (List ℕ)) (kept done left text after rest whole : List ℕ) → HandsOn a b kept done left → HandsPart b c left text
    → done ++ rest ≡ whole → rest ≡ text ++ after → HandsPart a c kept whole
part_piece a b c kept done left text after rest whole h k is cut =
    subst (λ (t : List ℕ). HandsPart a c kept t) (piece_left done text after rest whole is cut) (part_longer a c kept (done ++ text) after (part_after a b c kept done left text h k))

-- nothing is left
pub hands_end : (a b : Option (List ℕ)) (kept done left rest whole : List ℕ) → HandsOn a b kept done left → done ++ rest ≡ whole → rest ≡ [] → HandsOn a b kept whole left
hands_end a b kept done left rest whole h is none =
    subst (λ (t : List ℕ). HandsOn a b kept t left) (sym (append-nil done) ∙ ap (λ (l : List ℕ). done ++ l) (sym none) ∙ is) h

-- what was handed on, under other names
pub hands_same : (a b c : Option (List ℕ)) (kept text left rest : List ℕ) → b ≡ c → left ≡ rest → HandsOn a c kept text rest → HandsOn a b kept text left
hands_same a b c kept text left rest now is h = rw (now, is) h
