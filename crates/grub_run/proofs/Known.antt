-- What a writer holds after the reports went to it.
use Rattle.std.proofs.Common.{◌≡◌, ℕ, ◌++◌, List, [], take, append_assoc, append-nil, ap, ◌∙◌, sym, Option, Some, None, length, Result, Ok, Err}
use Rattle.std.proofs.Math.Seq.{take-append_seam, take-length}
use Rattle.std.specs.Prelude.{OnOk}
use Rattle.std.specs.Io.KnownBytes.{Appends, Keeps}
use Rattle.text_bytes.specs.Writing.{HandsPart}
use Rattle.grub_run.specs.Written.{AppendsPrefix}

-- a beginning of a beginning
pub prefix_of : (a b : Option (List ℕ)) (text rest whole : List ℕ) → HandsPart a b [] text → whole ≡ text ++ rest → AppendsPrefix a b whole
prefix_of None b text rest whole h is = (0, tt)
prefix_of (Some xs) None text rest whole h is = absurd (h.1)
prefix_of (Some xs) (Some ys) text rest whole h is =
    let told = h.1.0 in
    let all : whole ≡ told ++ (h.0 ++ rest) = is ∙ ap (λ l. l ++ rest) h.1.2 ∙ append_assoc told h.0 rest in
    (length told, h.1.1 ∙ ap (λ l. xs ++ l) (sym (ap (take (length told)) all ∙ take-append_seam told (h.0 ++ rest))))

-- a beginning of a text that was handed over whole
pub handed_part : (a b : Option (List ℕ)) (text : List ℕ) → HandsPart a b text [] → AppendsPrefix a b text
handed_part None b text h = (0, tt)
handed_part (Some xs) None text h = absurd (h.1)
handed_part (Some xs) (Some ys) text h =
    let told = h.1.0 in
    let all : text ≡ told ++ h.0 = sym (append-nil text) ∙ h.1.2 in
    (length told, h.1.1 ∙ ap (λ l. xs ++ l) (sym (ap (take (length told)) all ∙ take-append_seam told h.0)))

-- all of it, and a flush that failed
pub prefix_flushed : (a b c : Option (List ℕ)) (text : List ℕ) → Appends a b text → Keeps b c → AppendsPrefix a c text
prefix_flushed None b c text h k = (0, tt)
prefix_flushed (Some xs) None c text h k = absurd h
prefix_flushed (Some xs) (Some ys) None text h k = absurd k
prefix_flushed (Some xs) (Some ys) (Some zs) text h k = (length text, k ∙ h ∙ ap (λ l. xs ++ l) (sym (take-length text)))

-- all of it, and a flush
pub flushed : (a b c : Option (List ℕ)) (text : List ℕ) → Appends a b text → Keeps b c → Appends a c text
flushed None b c text h k = tt
flushed (Some xs) None c text h k = absurd h
flushed (Some xs) (Some ys) None text h k = absurd k
flushed (Some xs) (Some ys) (Some zs) text h k = k ∙ h

-- what holds, holds of a success
pub on_ok : {U E P : Type 0} (r : Result U E) → P → OnOk r P
on_ok (Ok u) p = p
on_ok (Err e) p = tt
