-- What is found first in a list of comparisons.
use Rattle.std.proofs.Common.{◌≡◌, Bool, true, false, Some, None, List, [], ◌∷◌, ◌++◌, refl, if◌then◌else◌, ◌&&◌}
use Rattle.std.specs.Prelude.{is_none}
use Rattle.probe_findings.specs.declared.words.Deviation.{Deviation}
use Rattle.probe_findings.specs.Firsts.{first_from, all_equal}

first_stays : (d : Deviation) (ds : List Deviation) → first_from (Some d) ds ≡ Some d
first_stays d [] = refl
first_stays d (e ∷ es) = first_stays d es

pub none_where_all_equal : (ds : List Deviation) → is_none (first_from None ds) ≡ all_equal ds
none_where_all_equal [] = refl
none_where_all_equal (d ∷ ds) =
    elim d.comparison.is_equal as (λ b. is_none (first_from (if b then None else Some d) ds) ≡ (b && all_equal ds))
    [ true ↦ none_where_all_equal ds | false ↦ rw (first_stays d ds) refl ]

found_by : (b : Bool) (d : Deviation) (back : List Deviation) → b ≡ false → first_from (if b then None else Some d) back ≡ Some d
found_by true d back e = cc
found_by false d back e = first_stays d back

front_by : (b c : Bool) → (b && c) ≡ true → b ≡ true
front_by true c e = refl
front_by false c e = cc

rest_by : (b c : Bool) → (b && c) ≡ true → c ≡ true
rest_by true c e = e
rest_by false c e = cc

pub found_is_first : (front back : List Deviation) (d : Deviation) → all_equal front ≡ true → d.comparison.is_equal ≡ false
    → first_from None (front ++ d ∷ back) ≡ Some d
found_is_first [] back d equal differs = found_by d.comparison.is_equal d back differs
found_is_first (e ∷ es) back d equal differs =
    let here : e.comparison.is_equal ≡ true = front_by _ _ equal in
    let behind : all_equal es ≡ true = rest_by _ _ equal in
    rw here (found_is_first es back d behind differs)
