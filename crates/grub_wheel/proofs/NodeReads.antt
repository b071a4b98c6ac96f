-- What is read of a list, and of one that went through a loan.
use Rattle.std.proofs.Common.{◌≡◌, ◌≢◌, ℕ, ◌<◌, ◌++◌, false, List, length, take, drop, get_or, ap, ◌∙◌, sym, subst}
use Rattle.std.proofs.Math.Seq.{take-append_seam}
use Rattle.std.proofs.lemmas.Bool.{both_ways}
use Rattle.std.proofs.lemmas.List.{get_or_default}
use Rattle.grub_wheel.specs.declared.node.Node.{Node}
use Rattle.grub_wheel.specs.inside.Nodes.{free_node, node_at, Armed}

-- what is armed stands elsewhere
pub not_armed : (ns : List Node) (i : ℕ) → (node_at ns i).armed ≡ false → (j : ℕ) → Armed ns j → j ≢ i
not_armed ns i off j a e = both_ways (node_at ns i).armed off (subst (Armed ns) e a)

pub node_read : (ns : List Node) (i : ℕ) (n : Node) → i < length ns → n ≡ get_or ns i n → node_at ns i ≡ n
node_read ns i n lt e = get_or_default ns i free_node n lt ∙ sym e

-- a vector whose slice was lent as a whole
pub lent_back : {A : Type 0} (n : ℕ) (xs ys : List A) → length xs ≡ n → take n (xs ++ drop (length xs) ys) ≡ xs
lent_back n xs ys e = ap (λ (k : ℕ). take k (xs ++ drop (length xs) ys)) (sym e) ∙ take-append_seam xs (drop (length xs) ys)
