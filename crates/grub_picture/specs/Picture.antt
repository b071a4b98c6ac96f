-- The picture of a time line.
use Rattle.std.specs.Prelude.{◌≡◌, ℕ, List, ◌++◌, codes, fold}
use Rattle.grub_timeline.specs.declared.told.ToldEntry.{ToldEntry}

-- the moment of the last entry
abbrev pub last_moment : List ToldEntry → ℕ
last_moment told = fold (λ (m : ℕ) (x : ToldEntry). x.entry.m) 0 told

-- one element of SVG
abbrev pub IsDocument : List ℕ → Type 0
IsDocument text = (inner : List ℕ) × (text ≡ codes "<svg " ++ inner ++ codes "</svg>\n")
