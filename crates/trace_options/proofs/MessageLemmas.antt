-- Texts that are written one after another.
use Rattle.std.proofs.Common.{◌≡◌, ℕ, List, ◌++◌, Option, OnOk, Result, Ok, Err, sym, subst, append_assoc}
use Rattle.std.proofs.KnownBytes.{Appends-trans}
use Rattle.std.specs.Io.KnownBytes.{Appends}

-- a text behind one that was written
pub wrote_on : {T E : Type 0} (r : Result T E) (a b c : Option (List ℕ)) (first second : List ℕ) → Appends a b first → OnOk r (Appends b c second) → OnOk r (Appends a c (first ++ second))
wrote_on (Ok x) a b c first second h k = Appends-trans a b c first second h k
wrote_on (Err x) a b c first second h k = tt

-- a text that is the one that was written
pub told : {T E : Type 0} (r : Result T E) (a b : Option (List ℕ)) (text written : List ℕ) → text ≡ written → OnOk r (Appends a b written) → OnOk r (Appends a b text)
told r a b text written same h = subst (λ l. OnOk r (Appends a b l)) (sym same) h

-- a text, grouped as it is said and as it is written
pub of_seven : (a b c d e f g : List ℕ) → a ++ ((b ++ c ++ d ++ e) ++ f) ++ g ≡ a ++ (b ++ (c ++ (d ++ (e ++ (f ++ g)))))
of_seven a b c d e f g = simp append_assoc
