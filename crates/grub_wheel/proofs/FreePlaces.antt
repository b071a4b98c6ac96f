-- The list of free places, and how many nodes are armed.
use Rattle.std.proofs.Common.{◌≡◌, ◌≢◌, ℕ, suc, ◌+◌, ◌<◌, ◌≤◌, ◌⊎◌, inl, inr, Bool, true, false, cond, List, [], ◌∷◌, length, set, Option, Some, None, refl, ap, ◌∙◌, sym, arith, subst, get_or-set_same, get_or-set_other, length-set}
use Rattle.std.proofs.lemmas.Option.{same_Some}
use Rattle.std.specs.List.{AllByRecursion}
use Rattle.std.proofs.lemmas.List.Sums.{sum_by-set, sum_by-cons}
use Rattle.grub_wheel.specs.declared.node.Node.{Node}
use Rattle.grub_wheel.specs.inside.Nodes.{free_node, node_at, Armed, links, AreOthersKept, AreFree, armed_count, one_if_armed}
use Rattle.std.proofs.lemmas.Bool.{cases_eq}
use Rattle.grub_wheel.proofs.NodeReads.{not_armed}

-- the first of the free places, and the rest
pub record IsFreeHead (ns : List Node) (spare i : ℕ) : Type 0 where
  pub within : i < length ns
  pub off : (node_at ns i).armed ≡ false
  pub rest : List ℕ
  pub others : AllByRecursion (λ j. j ≢ i) rest
  pub linked : AreFree ns rest (links ns i)
  pub room : length rest + 1 ≡ spare

pub free_head : (ns : List Node) (places : List ℕ) (free : Option ℕ) (spare i : ℕ) → AreFree ns places free → length places ≡ spare → free ≡ Some i → IsFreeHead ns spare i
free_head ns [] free spare i f room is = absurd (let x = sym f ∙ is in cc)
free_head ns (j ∷ js) free spare i f room is =
    subst (IsFreeHead ns spare) (same_Some j i (sym f.0 ∙ is)) (record { within = f.1; off = f.2; rest = js; others = f.3; linked = f.4; room = omega arith })

pub some_free : (ns : List Node) (places : List ℕ) (free : Option ℕ) (spare : ℕ) → AreFree ns places free → length places ≡ spare → 1 ≤ spare → free ≢ None
some_free ns [] free spare f room some is = absurd (omega arith)
some_free ns (j ∷ js) free spare f room some is = absurd (let x = sym f.0 ∙ is in cc)

pub free_kept : (ns ms : List Node) (i : ℕ) → AreOthersKept ns ms i → (places : List ℕ) (at : Option ℕ) → AllByRecursion (λ j. j ≢ i) places → AreFree ns places at → AreFree ms places at
free_kept ns ms i others [] at ne f = f
free_kept ns ms i others (j ∷ js) at ne f = (
  f.0,
  let s = others.size in let w = f.1 in omega arith,
  (others.kept j ne.0).armed ∙ f.2,
  f.3,
  subst (AreFree ms js) (sym (others.free j ne.0 f.2)) (free_kept ns ms i others js (links ns j) ne.1 f.4),
)

-- an armed node is no free place
pub none_armed : (ns : List Node) (i : ℕ) → Armed ns i → (places : List ℕ) (at : Option ℕ) → AreFree ns places at → AllByRecursion (λ j. j ≢ i) places
none_armed ns i a [] at f = tt
none_armed ns i a (j ∷ js) at f = (λ e. not_armed ns j f.2 i a (sym e), none_armed ns i a js (links ns j) f.4)

-- ---- how many are armed

pub one_armed : (n : Node) → n.armed ≡ true → one_if_armed n ≡ 1
one_armed n e = ap (λ (b : Bool). cond b 1 0) e

pub none_if_free : (n : Node) → n.armed ≡ false → one_if_armed n ≡ 0
none_if_free n e = ap (λ (b : Bool). cond b 1 0) e

armed_count-same : (ns ms : List Node) → length ms ≡ length ns → ((j : ℕ) → (node_at ms j).armed ≡ (node_at ns j).armed) → armed_count ms ≡ armed_count ns
armed_count-same [] [] len same = refl
armed_count-same [] (m ∷ ms) len same = absurd (omega arith)
armed_count-same (n ∷ ns) [] len same = absurd (omega arith)
armed_count-same (n ∷ ns) (m ∷ ms) len same =
    let a : one_if_armed m ≡ one_if_armed n = ap (λ (b : Bool). cond b 1 0) (same 0) in
    let b : armed_count ms ≡ armed_count ns = armed_count-same ns ms (omega arith) (λ j. same (suc j)) in
    sum_by-cons one_if_armed m ms ∙ added_up (one_if_armed m) (one_if_armed n) (armed_count ms) (armed_count ns) a b ∙ sym (sum_by-cons one_if_armed n ns)
  where
    added_up : (a b c d : ℕ) → a ≡ b → c ≡ d → a + c ≡ b + d
    added_up a b c d e f = omega arith

pub armed_count-others : (ns ms : List Node) (i : ℕ) → i < length ns → AreOthersKept ns ms i → armed_count ms + one_if_armed (node_at ns i) ≡ armed_count ns + one_if_armed (node_at ms i)
armed_count-others ns ms i lt others =
    let s : armed_count (set ns i (node_at ms i)) + one_if_armed (node_at ns i) ≡ armed_count ns + one_if_armed (node_at ms i) = sum_by-set one_if_armed ns i (node_at ms i) free_node lt in
    let l : length ms ≡ length (set ns i (node_at ms i)) = others.size ∙ sym (length-set ns i (node_at ms i)) in
    let c : armed_count ms ≡ armed_count (set ns i (node_at ms i)) = armed_count-same (set ns i (node_at ms i)) ms l (λ j. at j (cases_eq j i)) in
    omega arith
  where
    at : (j : ℕ) → (j ≡ i) ⊎ (j ≢ i) → (node_at ms j).armed ≡ (node_at (set ns i (node_at ms i)) j).armed
    at j (inl e) = subst (λ (k : ℕ). (node_at ms k).armed ≡ (node_at (set ns i (node_at ms i)) k).armed) (sym e) (sym (ap (λ (n : Node). n.armed) (get_or-set_same ns i (node_at ms i) free_node lt)))
    at j (inr ne) = (others.kept j ne).armed ∙ sym (ap (λ (n : Node). n.armed) (get_or-set_other ns i j (node_at ms i) free_node ne))
