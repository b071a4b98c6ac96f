-- What follows for a trace from what is so of its text.
use Rattle.std.proofs.Common.{inl, inr, ℕ, List, ◌++◌}
use Rattle.text_bytes.specs.Source.{Opener, Reader}
use Rattle.trace_file.specs.Reading.{IsSoIn, IsSoOf}

module _ {N D : Type 0} (g : Reader N D) (read : N) where
  pub so_in_by : (P Q : List ℕ → Type 0) (file : D) → ((text : List ℕ) → P text → Q text) → IsSoIn g read file P → IsSoIn g read file Q
  so_in_by P Q file tells (text, after, inl (whole, so)) = (text, after, inl (whole, tells text so))
  so_in_by P Q file tells (text, after, inr (part, so)) = (text, after, inr (part, λ more. tells (text ++ more) (so more)))

module _ {O N D : Type 0} (o : Opener O D) (opener : O) (g : Reader N D) (read : N) where
  pub so_by : (P Q : List ℕ → Type 0) (name : List ℕ) → ((text : List ℕ) → P text → Q text) → IsSoOf o opener g read name P → IsSoOf o opener g read name Q
  so_by P Q name tells (file, opened, so) = (file, opened, so_in_by g read P Q file tells so)
