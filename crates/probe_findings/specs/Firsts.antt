-- The first comparison that differs.
use Rattle.std.specs.Prelude.{◌≡◌, Bool, true, false, ◌&&◌, if◌then◌else◌, Option, Some, None, is_none, List, [], ◌∷◌, ◌++◌}
use Rattle.probe_findings.specs.declared.words.Deviation.{Deviation}

-- the first stays; else it is this one, where it differs
abbrev pub first_with : Option Deviation → Deviation → Option Deviation
first_with (Some first) d = Some first
first_with None d = if d.comparison.is_equal then None else Some d

-- the first of a list, begun with what was found before
abbrev pub first_from : Option Deviation → List Deviation → Option Deviation
first_from found [] = found
first_from found (d ∷ ds) = first_from (first_with found d) ds

abbrev pub all_equal : List Deviation → Bool
all_equal [] = true
all_equal (d ∷ ds) = d.comparison.is_equal && all_equal ds

-- none is found exactly where all comparisons are equal
abbrev pub NoneWhereAllAreEqual : Type 0
NoneWhereAllAreEqual = (ds : List Deviation) → is_none (first_from None ds) ≡ all_equal ds

-- what is found is the first that is not equal
abbrev pub FoundIsFirst : Type 0
FoundIsFirst = (front back : List Deviation) (d : Deviation) → all_equal front ≡ true → d.comparison.is_equal ≡ false
    → first_from None (front ++ d ∷ back) ≡ Some d
