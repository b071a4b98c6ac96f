-- What a writer holds after a text was written and flushed.
use Rattle.std.proofs.Common.{◌≡◌, refl, ℕ, List, ◌∙◌, Option, Some, None, Result, Ok, Err, false, subst}
use Rattle.std.proofs.lemmas.Bool.{both_ways}
use Rattle.std.specs.Prelude.{OnOk, is_err}
use Rattle.std.specs.Io.KnownBytes.{Appends, Keeps}

flushed : (a b c : Option (List ℕ)) (text : List ℕ) → Appends a b text → Keeps b c → Appends a c text
flushed None b c text h k = tt
flushed (Some xs) None c text h k = absurd h
flushed (Some xs) (Some ys) None text h k = absurd k
flushed (Some xs) (Some ys) (Some zs) text h k = k ∙ h

of_ok : {U E P : Type 0} (r : Result U E) → is_err r ≡ false → OnOk r P → P
of_ok (Ok u) is p = p
of_ok (Err e) is p = absurd (both_ways _ is refl)

pub printed : {U E : Type 0} (r : Result U E) (a b c : Option (List ℕ)) (text whole : List ℕ) → is_err r ≡ false → OnOk r (Appends a b text) → text ≡ whole → Keeps b c → Appends a c whole
printed r a b c text whole is wrote same kept = flushed a b c whole (subst (Appends a b) same (of_ok r is wrote)) kept
