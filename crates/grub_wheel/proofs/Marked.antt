-- The map of tasks with a timer stays right.
use Rattle.std.proofs.Common.{◌≡◌, ◌≢◌, ◌⊎◌, inl, inr, ℕ, ◌<◌, false, List, ap, ◌∙◌, sym, subst}
use Rattle.std.proofs.lemmas.Bool.{cases_eq}
use Rattle.grub_wheel.specs.declared.node.Node.{Node}
use Rattle.grub_wheel.specs.declared.timer.Timer.{Timer}
use Rattle.grub_wheel.specs.inside.Nodes.{Armed, AreOthersKept, IsArmedNode, node_at, tasks}
use Rattle.grub_wheel.specs.inside.Used.{AreMarked, mark_of}
use Rattle.grub_wheel.proofs.NodeReads.{not_armed}
use Rattle.grub_wheel.proofs.Apart.{Apart}

-- the map says the same of all tasks but t
abbrev pub AreSameBut : ℕ → List ℕ → List ℕ → Type 0
AreSameBut t us vs = (r : ℕ) → r < 256 → r ≢ t → mark_of vs r ≡ mark_of us r

still : (us vs : List ℕ) (ns ms : List Node) (j t : ℕ) → AreMarked us ns → AreSameBut t us vs → Armed ns j → tasks ms j ≡ tasks ns j → tasks ns j ≢ t → tasks ms j < 256 → mark_of vs (tasks ms j) ≡ 1
still us vs ns ms j t marked same a task other low =
    let l : tasks ns j < 256 = subst (λ k. k < 256) task low in ap (mark_of vs) task ∙ same (tasks ns j) l other ∙ marked j a l

pub put_marked : (us vs : List ℕ) (ns ms : List Node) (i : ℕ) (x : Timer) → AreMarked us ns → AreOthersKept ns ms i → IsArmedNode (node_at ms i) x → ((j : ℕ) → Armed ns j → tasks ns j ≢ x.t)
    → (x.t < 256 → mark_of vs x.t ≡ 1) → AreSameBut x.t us vs → AreMarked vs ms
put_marked us vs ns ms i x marked others is none here same j a low = go (cases_eq j i)
  where
    go : (j ≡ i) ⊎ (j ≢ i) → mark_of vs (tasks ms j) ≡ 1
    go (inl e) =
        let t : tasks ms j ≡ x.t = ap (tasks ms) e ∙ ap (λ (y : Timer). y.t) is.timer in
        ap (mark_of vs) t ∙ here (subst (λ k. k < 256) t low)
    go (inr ne) =
        let k = others.kept j ne in let b = sym k.armed ∙ a in
        still us vs ns ms j x.t marked same b (ap (λ (y : Timer). y.t) k.timer) (none j b) low

pub take_marked : (us vs : List ℕ) (ns ms : List Node) (i t : ℕ) → AreMarked us ns → AreOthersKept ns ms i → (node_at ms i).armed ≡ false → Apart ns → Armed ns i → tasks ns i ≡ t → AreSameBut t us vs → AreMarked vs ms
take_marked us vs ns ms i t marked others off apart armed task same j a low =
    let ne = not_armed ms i off j a in
    let k = others.kept j ne in let b = sym k.armed ∙ a in
    still us vs ns ms j t marked same b (ap (λ (y : Timer). y.t) k.timer) (λ is. ne (apart j i b armed (is ∙ sym task))) low

pub marked_as : (us : List ℕ) (ns ms : List Node) → ms ≡ ns → AreMarked us ns → AreMarked us ms
marked_as us ns ms e marked = subst (AreMarked us) (sym e) marked
