-- The files that the words name.
use Rattle.std.proofs.Common.{◌≡◌, ◌∙◌, ℕ, List, [], codes, map, unwrap_or, Option, Some, None, option_map, Bor, refl}
use Rattle.clap.proofs.WalkLemmas.{raw_values-rows}
use Rattle.clap.specs.Words.{matched_of, raw_values, rows_of}
use Rattle.clap.specs.declared.parser.matches.Found.{Found}
use Rattle.grubrun.specs.inside.Files.{names_among}
use Rattle.grub_run.specs.Faults.{names_of}

-- the values that were found, or none
pub names_found : (o : Option (Bor (List (Bor (List ℕ))))) (d r : Bor (List (Bor (List ℕ)))) (named : Option (List (List ℕ))) → r ≡ unwrap_or o d → d.now ≡ []
    → option_map (λ s. map (λ v. v.now) s.now) o ≡ named → map (λ v. v.now) r.now ≡ unwrap_or named []
names_found None d r named is empty found = rw (← found) (rw is (rw empty refl))
names_found (Some s) d r named is empty found = rw (← found) (rw is refl)

-- the values of the argument for files are the names among the values of all arguments
pub paths_are_names : (f : Found) (o : Option (Bor (List (Bor (List ℕ))))) (d r : Bor (List (Bor (List ℕ)))) → r ≡ unwrap_or o d → d.now ≡ []
    → option_map (λ s. map (λ v. v.now) s.now) o ≡ option_map raw_values (matched_of f (codes "FILE")) → names_of r.now ≡ names_among (rows_of f)
paths_are_names f o d r is empty found = names_found o d r _ is empty (found ∙ raw_values-rows f (codes "FILE"))
