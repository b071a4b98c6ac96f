-- Nodes of different tasks, and what they have for a task.
use Rattle.std.proofs.Common.{◌≡◌, ◌≢◌, ℕ, zero, suc, ◌<◌, ◌⊎◌, inl, inr, Bool, true, false, cond, eqb, List, [], ◌∷◌, Option, Some, None, refl, ap, ◌∙◌, sym, arith}
use Rattle.std.proofs.lemmas.Option.{same_Some}
use Rattle.std.proofs.lemmas.Bool.{eqb-true, cases_eq}
use Rattle.std.proofs.lemmas.Bool.Decides.{nat_tests}
use Rattle.std.specs.FinMap as map
use Rattle.grub_wheel.specs.declared.timer.Timer.{Timer}
use Rattle.grub_wheel.specs.declared.node.Node.{Node}
use Rattle.grub_wheel.specs.inside.Nodes.{node_at, Armed, tasks, keys, timers_of, AreInSlots, AreOthersKept, IsArmedNode}
use Rattle.grub_wheel.proofs.NodeReads.{not_armed}
use Rattle.grub_wheel.proofs.Keys.{key_tasks}
use Rattle.grub_wheel.proofs.Looks.{look, bag_of, bag-insert, bag-remove}

abbrev pub Apart : List Node → Type 0
Apart ns = (i j : ℕ) → Armed ns i → Armed ns j → tasks ns i ≡ tasks ns j → i ≡ j

pub keys_apart : (ns : List Node) (hs : List (Option ℕ)) → AreInSlots ns hs → (a b : ℕ) → Armed ns a → Armed ns b → keys ns a ≡ keys ns b → a ≡ b
keys_apart ns hs h a b p q e =
    h.apart a b p q (key_tasks (node_at ns a).timer.z (tasks ns a) (node_at ns b).timer.z (tasks ns b) (h.narrow a p) (h.narrow b q) e)

abbrev pub pair_at : List Node → ℕ → ℕ × ℕ
pair_at ns i = ((node_at ns i).timer.z, (node_at ns i).timer.ticket)

-- ---- what nodes have for a task

-- the node of what nodes have for a task
pub record IsEntry (ns : List Node) (q : ℕ) (p : ℕ × ℕ) : Type 0 where
  pub at : ℕ
  pub armed : Armed ns at
  pub task : tasks ns at ≡ q
  pub pair : p ≡ pair_at ns at

further : (n : Node) (ns : List Node) (q : ℕ) (p : ℕ × ℕ) → IsEntry ns q p → IsEntry (n ∷ ns) q p
further n ns q p e = record { at = suc e.at; armed = e.armed; task = e.task; pair = e.pair }

pub look_at : (ns : List Node) (q : ℕ) (p : ℕ × ℕ) → look (timers_of ns) q ≡ Some p → IsEntry ns q p
look_at [] q p h = absurd cc
look_at (n ∷ ns) q p h = go n.armed refl (eqb q n.timer.t) refl h (look_at ns q p)
  where
    go : (b : Bool) → n.armed ≡ b → (d : Bool) → eqb q n.timer.t ≡ d → look (cond b (n.timer ∷ timers_of ns) (timers_of ns)) q ≡ Some p → (look (timers_of ns) q ≡ Some p → IsEntry ns q p) → IsEntry (n ∷ ns) q p
    go true a true e h ih =
        let f : Some (n.timer.z, n.timer.ticket) ≡ Some p = sym (ap (λ (b : Bool). cond b (Some (n.timer.z, n.timer.ticket)) (look (timers_of ns) q)) e) ∙ h in
        record { at = 0; armed = a; task = sym (eqb-true q n.timer.t e); pair = sym (same_Some _ _ f) }
    go true a false e h ih = further n ns q p (ih (sym (ap (λ (b : Bool). cond b (Some (n.timer.z, n.timer.ticket)) (look (timers_of ns) q)) e) ∙ h))
    go false a d e h ih = further n ns q p (ih h)

pub look_has : (ns : List Node) (i q : ℕ) → Armed ns i → tasks ns i ≡ q → look (timers_of ns) q ≢ None
look_has [] i q a t h = absurd cc
look_has (n ∷ ns) zero q a t h = go n.armed a (eqb q n.timer.t) refl h
  where
    go : (b : Bool) → b ≡ true → (d : Bool) → eqb q n.timer.t ≡ d → look (cond b (n.timer ∷ timers_of ns) (timers_of ns)) q ≡ None → ⊥
    go true a true e h = let f = sym (ap (λ (b : Bool). cond b (Some (n.timer.z, n.timer.ticket)) (look (timers_of ns) q)) e) ∙ h in absurd cc
    go true a false e h = absurd (grind (arith, nat_tests))
    go false a d e h = absurd cc
look_has (n ∷ ns) (suc i) q a t h = go n.armed (eqb q n.timer.t) refl h (look_has ns i q a t)
  where
    go : (b d : Bool) → eqb q n.timer.t ≡ d → look (cond b (n.timer ∷ timers_of ns) (timers_of ns)) q ≡ None → (look (timers_of ns) q ≢ None) → ⊥
    go true true e h ih = let f = sym (ap (λ (b : Bool). cond b (Some (n.timer.z, n.timer.ticket)) (look (timers_of ns) q)) e) ∙ h in absurd cc
    go true false e h ih = ih (sym (ap (λ (b : Bool). cond b (Some (n.timer.z, n.timer.ticket)) (look (timers_of ns) q)) e) ∙ h)
    go false d e h ih = ih h

pub look_not : (ns : List Node) (q : ℕ) → ((i : ℕ) → Armed ns i → tasks ns i ≢ q) → look (timers_of ns) q ≡ None
look_not ns q h = go (look (timers_of ns) q) refl
  where
    go : (o : Option (ℕ × ℕ)) → look (timers_of ns) q ≡ o → o ≡ None
    go None e = refl
    go (Some p) e = let k = look_at ns q p e in absurd (h k.at k.armed k.task)

pub look_is : (ns : List Node) (i q : ℕ) → Apart ns → Armed ns i → tasks ns i ≡ q → look (timers_of ns) q ≡ Some (pair_at ns i)
look_is ns i q apart a t = go (look (timers_of ns) q) refl
  where
    go : (o : Option (ℕ × ℕ)) → look (timers_of ns) q ≡ o → o ≡ Some (pair_at ns i)
    go None e = absurd (look_has ns i q a t e)
    go (Some p) e = let k = look_at ns q p e in ap Some (k.pair ∙ ap (pair_at ns) (apart k.at i k.armed a (k.task ∙ sym t)))

-- two lists with the same armed timers of a task
pub same_look : (ns ms : List Node) (q : ℕ) → Apart ns
    → ((j : ℕ) → Armed ns j → tasks ns j ≡ q → Armed ms j × (tasks ms j ≡ q))
    → ((j : ℕ) → Armed ms j → tasks ms j ≡ q → Armed ns j × ((node_at ms j).timer ≡ (node_at ns j).timer))
    → look (timers_of ms) q ≡ look (timers_of ns) q
same_look ns ms q apart to from = go (look (timers_of ms) q) refl
  where
    go : (o : Option (ℕ × ℕ)) → look (timers_of ms) q ≡ o → o ≡ look (timers_of ns) q
    go None e = sym (look_not ns q (λ j a t. let b = to j a t in look_has ms j q b.0 b.1 e))
    go (Some p) e =
        let k = look_at ms q p e in
        let b = from k.at k.armed k.task in
        ap Some (k.pair ∙ ap (λ (x : Timer). (x.z, x.ticket)) b.1) ∙ sym (look_is ns k.at q apart b.0 (sym (ap (λ (x : Timer). x.t) b.1) ∙ k.task))

by_task : (q t : ℕ) (P : Bool → Type 0) → (q ≡ t → P true) → (q ≢ t → P false) → P (eqb q t)
by_task q t P f g = go (eqb q t) refl
  where
    go : (b : Bool) → eqb q t ≡ b → P b
    go true e = f (eqb-true q t e)
    go false e = g (λ h. absurd (grind (arith, nat_tests)))

-- ---- one node more, and one less

module _ (ns ms : List Node) (i : ℕ) (others : AreOthersKept ns ms i) where
  armed_to : (j : ℕ) → j ≢ i → Armed ns j → Armed ms j
  armed_to j ne a = (others.kept j ne).armed ∙ a

  armed_from : (j : ℕ) → j ≢ i → Armed ms j → Armed ns j
  armed_from j ne a = sym (others.kept j ne).armed ∙ a

  task_is : (j : ℕ) → j ≢ i → tasks ms j ≡ tasks ns j
  task_is j ne = ap (λ (x : Timer). x.t) (others.kept j ne).timer

  module _ (x : Timer) (here : IsArmedNode (node_at ms i) x) (other : (j : ℕ) → Armed ns j → tasks ns j ≢ x.t) where
    task_here : tasks ms i ≡ x.t
    task_here = ap (λ (y : Timer). y.t) here.timer

    pub apart_put : Apart ns → Apart ms
    apart_put apart j k a b t = go (cases_eq j i) (cases_eq k i)
      where
        go : (j ≡ i) ⊎ (j ≢ i) → (k ≡ i) ⊎ (k ≢ i) → j ≡ k
        go (inl e) (inl f) = e ∙ sym f
        go (inl e) (inr f) = absurd (other k (armed_from k f b) (sym (task_is k f) ∙ sym t ∙ ap (tasks ms) e ∙ task_here))
        go (inr e) (inl f) = absurd (other j (armed_from j e a) (sym (task_is j e) ∙ t ∙ ap (tasks ms) f ∙ task_here))
        go (inr e) (inr f) = apart j k (armed_from j e a) (armed_from k f b) (sym (task_is j e) ∙ t ∙ task_is k f)

    pub narrow_put : x.t < 4294967296 → ((j : ℕ) → Armed ns j → tasks ns j < 4294967296) → (j : ℕ) → Armed ms j → tasks ms j < 4294967296
    narrow_put lt narrow j a = go (cases_eq j i)
      where
        go : (j ≡ i) ⊎ (j ≢ i) → tasks ms j < 4294967296
        go (inl e) = let t = ap (tasks ms) e ∙ task_here in omega arith
        go (inr ne) = let t = task_is j ne in let n = narrow j (armed_from j ne a) in omega arith

    pub bag_put : Apart ns → (node_at ns i).armed ≡ false → bag_of (timers_of ms) ≡ map.insert (bag_of (timers_of ns)) x.t (x.z, x.ticket)
    bag_put apart free = bag-insert (timers_of ns) (timers_of ms) x (λ q. by_task q x.t (λ b. look (timers_of ms) q ≡ cond b (Some (x.z, x.ticket)) (look (timers_of ns) q)) (at_task q) (at_other q))
      where
        at_task : (q : ℕ) → q ≡ x.t → look (timers_of ms) q ≡ Some (x.z, x.ticket)
        at_task q e = look_is ms i q (apart_put apart) here.armed (task_here ∙ sym e) ∙ ap (λ (y : Timer). Some (y.z, y.ticket)) here.timer

        at_other : (q : ℕ) → q ≢ x.t → look (timers_of ms) q ≡ look (timers_of ns) q
        at_other q ne = same_look ns ms q apart
            (λ j a t. let was = not_armed ns i free j a in (armed_to j was a, task_is j was ∙ t))
            (λ j a t. let nj : j ≢ i = λ e. ne (sym t ∙ ap (tasks ms) e ∙ task_here) in (armed_from j nj a, (others.kept j nj).timer))

  module _ (off : (node_at ms i).armed ≡ false) where
    gone : (j : ℕ) → Armed ms j → j ≢ i
    gone = not_armed ms i off

    pub apart_take : Apart ns → Apart ms
    apart_take apart j k a b t = apart j k (armed_from j (gone j a) a) (armed_from k (gone k b) b) (sym (task_is j (gone j a)) ∙ t ∙ task_is k (gone k b))

    pub narrow_take : ((j : ℕ) → Armed ns j → tasks ns j < 4294967296) → (j : ℕ) → Armed ms j → tasks ms j < 4294967296
    narrow_take narrow j a = let t = task_is j (gone j a) in let n = narrow j (armed_from j (gone j a) a) in omega arith

    pub bag_take : (t : ℕ) → Apart ns → Armed ns i → tasks ns i ≡ t → bag_of (timers_of ms) ≡ map.remove (bag_of (timers_of ns)) t
    bag_take t apart armed task = bag-remove (timers_of ns) (timers_of ms) t (λ q. by_task q t (λ b. look (timers_of ms) q ≡ cond b None (look (timers_of ns) q)) (at_task q) (at_other q))
      where
        at_task : (q : ℕ) → q ≡ t → look (timers_of ms) q ≡ None
        at_task q e = look_not ms q (λ j a u. gone j a (apart j i (armed_from j (gone j a) a) armed (sym (task_is j (gone j a)) ∙ u ∙ e ∙ sym task)))

        at_other : (q : ℕ) → q ≢ t → look (timers_of ms) q ≡ look (timers_of ns) q
        at_other q ne = same_look ns ms q apart
            (λ j a u. let nj : j ≢ i = λ e. ne (sym u ∙ ap (tasks ns) e ∙ task) in (armed_to j nj a, task_is j nj ∙ u))
            (λ j a u. (armed_from j (gone j a) a, (others.kept j (gone j a)).timer))
