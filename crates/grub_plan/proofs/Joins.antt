-- Texts, one after the other.
use Rattle.std.proofs.Common.{◌≡◌, ℕ, List, ◌++◌, append_assoc}

pub charged : (o a d b k s e q f g : List ℕ) → ((o ++ (a ++ d)) ++ (b ++ k)) ++ ((s ++ e) ++ q ++ f ++ g) ≡ o ++ ((a ++ d ++ b ++ k ++ s) ++ e ++ q ++ f ++ g)
charged o a d b k s e q f g = simp append_assoc
