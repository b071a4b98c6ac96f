-- How far values spread. Of an even count the median is the upper one of the two in the middle.
use Rattle.std.specs.Prelude.{ℕ, ◌≡◌, ◌-◌, ◌/◌, List, length, slice_get, Some}
use Rattle.law_findings.specs.declared.words.Spread.{Spread}

-- of values in their order
pub record IsSpread (s : Spread) (values : List ℕ) : Type 0 where
  pub count : s.count ≡ length values
  pub median : slice_get values (length values / 2) ≡ Some s.median
  pub most : slice_get values (length values - 1) ≡ Some s.most
