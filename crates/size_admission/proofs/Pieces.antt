-- Pieces that are put behind a text one after another.
use Rattle.std.proofs.Common.{◌≡◌, ℕ, List, ◌++◌, append_assoc, ap, ◌∙◌}

-- a piece, and what follows it
pub behind : (o a b p q : List ℕ) → p ≡ o ++ a → q ≡ p ++ b → q ≡ o ++ (a ++ b)
behind o a b p q first rest = rest ∙ ap (λ t. t ++ b) first ∙ append_assoc o a b
