-- What a read puts behind bytes that were read before.
use Rattle.std.specs.Prelude.{◌≡◌, ℕ, List, ◌++◌, length}
use Rattle.text_bytes.specs.Source.{Gives, Reader}

module _ {N D : Type 0} (g : Reader N D) (read : N) where
  -- a read may give so many bytes, and they stand behind these now
  abbrev pub GivesBehind : D → List ℕ → ℕ → List ℕ → D → Type 0
  GivesBehind file before count now after = (piece : List ℕ) × Gives g read file piece after × (length piece ≡ count) × (now ≡ before ++ piece)
