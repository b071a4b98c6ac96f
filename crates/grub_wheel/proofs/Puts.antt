-- Lists of nodes where a node is put into its slot, or taken out.
use Rattle.std.proofs.Common.{◌≡◌, ◌≢◌, ℕ, ◌%◌, ◌<◌, true, false, List, length, set, Option, Some, None, refl, ap, ◌∙◌, sym, arith, subst, get_or-set_same, get_or-set_other, length-set}
use Rattle.std.proofs.lemmas.Bool.{both_ways}
use Rattle.std.specs.Prelude.{MatchOption}
use Rattle.grub_wheel.specs.declared.timer.Timer.{Timer}
use Rattle.grub_wheel.specs.declared.node.Node.{Node}
use Rattle.grub_wheel.specs.inside.Nodes.{free_node, node_at, Armed, key_of, slot_of, keys, slots, links, head_of, tasks, AreInSlots, AreChained, IsLastOf, IsPointed, IsRelinked, AreOthersKept, IsArmedNode}
use Rattle.grub_wheel.proofs.NodeReads.{not_armed}
use Rattle.grub_wheel.proofs.Keys.{key_tasks}
use Rattle.grub_wheel.proofs.Apart.{keys_apart, apart_put, narrow_put, apart_take, narrow_take}
use Rattle.grub_wheel.proofs.Links.{IsSame, IsAdded, IsLinkedIn, IsPassedOver, add_chained, take_chained}

slot_low : (z : ℕ) → z % 256 < 256
slot_low z = omega arith

module _ (ns ms : List Node) (hs gs : List (Option ℕ)) (i : ℕ) (ch : AreChained ns hs) (within : i < length ns)
    (distinct : (a b : ℕ) → Armed ns a → Armed ns b → keys ns a ≡ keys ns b → a ≡ b) where
  -- ---- the new node is set, and then linked

  module _ (x : Timer) (to : Option ℕ) (free : (node_at ns i).armed ≡ false) (apart : (j : ℕ) → Armed ns j → keys ns j ≡ key_of x → ⊥) where
    abbrev New : Node
    New = record { timer = x; armed = true; next = to }

    abbrev Mid : List Node
    Mid = set ns i New

    mid_here : node_at Mid i ≡ New
    mid_here = get_or-set_same ns i New free_node within

    mid_other : (j : ℕ) → j ≢ i → node_at Mid j ≡ node_at ns j
    mid_other j ne = get_or-set_other ns i j New free_node ne

    module _ (before : Option ℕ) (p : IsPointed Mid ms hs gs (slot_of x) before (Some i)) where
      timer_here : (node_at ms i).timer ≡ x
      timer_here = (p.kept i).timer ∙ ap (λ (n : Node). n.timer) mid_here

      armed_as : (j : ℕ) → j ≢ i → (node_at ms j).armed ≡ (node_at ns j).armed
      armed_as j ne = (p.kept j).armed ∙ ap (λ (n : Node). n.armed) (mid_other j ne)

      same : (j : ℕ) → j ≢ i → Armed ns j → IsSame (Armed ns) (Armed ms) (keys ns) (keys ms) (slots ns) (slots ms) j
      same j ne o =
          let t = (p.kept j).timer ∙ ap (λ (n : Node). n.timer) (mid_other j ne) in
          record { old = o; new = armed_as j ne ∙ o; key = ap key_of t; slot = ap slot_of t }

      added : IsLinkedIn (links ns) (links ms) (head_of hs) (head_of gs) (slot_of x) i before
          → IsAdded (Armed ns) (Armed ms) (keys ns) (keys ms) (slots ns) (slots ms) (links ns) (links ms) (head_of hs) (head_of gs) (slot_of x) before i
      added linked = record {
        fresh = λ a. both_ways (node_at ns i).armed free a;
        here = (p.kept i).armed ∙ ap (λ (n : Node). n.armed) mid_here;
        place = ap slot_of timer_here;
        kept = λ j a. same j (not_armed ns i free j a) a;
        old = λ j a ne. same j ne (sym (armed_as j ne) ∙ a);
        linked = linked;
        others = p.others;
      }

    linked_in : (before : Option ℕ) → IsLastOf ns (slot_of x) (key_of x) before → MatchOption before (to ≡ head_of hs (slot_of x)) (λ b. to ≡ links ns b)
        → IsRelinked Mid ms hs gs (slot_of x) before (Some i) → IsLinkedIn (links ns) (links ms) (head_of hs) (head_of gs) (slot_of x) i before
    linked_in None last is r = (r.1 i ∙ ap (λ (n : Node). n.next) mid_here ∙ is, r.0, λ j ne. r.1 j ∙ ap (λ (n : Node). n.next) (mid_other j ne))
    linked_in (Some b) last is r =
        (r.2 i (λ e. not_armed ns i free b last.armed (sym e)) ∙ ap (λ (n : Node). n.next) mid_here ∙ is, r.0, r.1, λ j ne nb. r.2 j nb ∙ ap (λ (n : Node). n.next) (mid_other j ne))

    put_here : (before : Option ℕ) → IsPointed Mid ms hs gs (slot_of x) before (Some i) → IsArmedNode (node_at ms i) x
    put_here before p = record { armed = (p.kept i).armed ∙ ap (λ (n : Node). n.armed) mid_here; timer = timer_here before p }

    free_linked : (before : Option ℕ) → IsLastOf ns (slot_of x) (key_of x) before → IsRelinked Mid ms hs gs (slot_of x) before (Some i) → (j : ℕ) → (node_at ns j).armed ≡ false → links ms j ≡ links Mid j
    free_linked None last r j off = r.1 j
    free_linked (Some b) last r j off = r.2 j (λ e. not_armed ns j off b last.armed (sym e))

    put_others : (before : Option ℕ) → IsLastOf ns (slot_of x) (key_of x) before → IsPointed Mid ms hs gs (slot_of x) before (Some i) → AreOthersKept ns ms i
    put_others before last p = record {
      size = p.size ∙ length-set ns i New;
      kept = λ j ne. record { timer = (p.kept j).timer ∙ ap (λ (n : Node). n.timer) (mid_other j ne); armed = armed_as before p j ne };
      free = λ j ne off. free_linked before last p.linked j off ∙ ap (λ (n : Node). n.next) (mid_other j ne);
    }

    put_chained : (before : Option ℕ) → IsLastOf ns (slot_of x) (key_of x) before → MatchOption before (to ≡ head_of hs (slot_of x)) (λ b. to ≡ links ns b)
        → IsPointed (set ns i (record { timer = x; armed = true; next = to })) ms hs gs (slot_of x) before (Some i) → AreChained ms gs
    put_chained before last is p =
        let k : key_of x ≡ keys ms i = sym (ap key_of (timer_here before p)) in
        add_chained (Armed ns) (Armed ms) (keys ns) (keys ms) (slots ns) (slots ms) (links ns) (links ms) (head_of hs) (head_of gs) (slot_of x) i
        distinct ch (slot_low x.z) before (added before p (linked_in before last is p.linked)) (λ j a e. apart j a (e ∙ sym k)) (subst (λ (q : ℕ). IsLastOf ns (slot_of x) q before) k last)

  -- ---- the node is passed over, and then made free

  module _ (armed : Armed ns i) (n : Node) (off : n.armed ≡ false) (before : Option ℕ) (p : IsPointed ns ms hs gs (slots ns i) before (links ns i)) where
    abbrev End : List Node
    End = set ms i n

    within_mid : i < length ms
    within_mid = let s = p.size in omega arith

    end_here : node_at End i ≡ n
    end_here = get_or-set_same ms i n free_node within_mid

    end_other : (j : ℕ) → j ≢ i → node_at End j ≡ node_at ms j
    end_other j ne = get_or-set_other ms i j n free_node ne

    end_armed : (j : ℕ) → j ≢ i → (node_at End j).armed ≡ (node_at ns j).armed
    end_armed j ne = ap (λ (m : Node). m.armed) (end_other j ne) ∙ (p.kept j).armed

    end_next : (j : ℕ) → j ≢ i → links End j ≡ links ms j
    end_next j ne = ap (λ (m : Node). m.next) (end_other j ne)

    end_same : (j : ℕ) → j ≢ i → Armed ns j → IsSame (Armed ns) (Armed End) (keys ns) (keys End) (slots ns) (slots End) j
    end_same j ne o =
        let t = ap (λ (m : Node). m.timer) (end_other j ne) ∙ (p.kept j).timer in
        record { old = o; new = end_armed j ne ∙ o; key = ap key_of t; slot = ap slot_of t }

    gone : (j : ℕ) → Armed End j → j ≢ i
    gone = not_armed End i (ap (λ (m : Node). m.armed) end_here ∙ off)

    passed_over : (before : Option ℕ) → IsLastOf ns (slots ns i) (keys ns i) before → IsRelinked ns ms hs gs (slots ns i) before (links ns i)
        → IsPassedOver (links ns) (links End) (head_of hs) (head_of gs) (slots ns i) i before
    passed_over None last r = (r.0, λ j ne. end_next j ne ∙ r.1 j)
    passed_over (Some b) last r =
        let nb : b ≢ i = λ e. let l = last.below in let q = ap (keys ns) e in absurd (omega arith) in
        (end_next b nb ∙ r.0, r.1, λ j ne bj. end_next j ne ∙ r.2 j bj)

    end_linked : (before : Option ℕ) → IsLastOf ns (slots ns i) (keys ns i) before → IsRelinked ns ms hs gs (slots ns i) before (links ns i) → (j : ℕ) → (node_at ns j).armed ≡ false → links ms j ≡ links ns j
    end_linked None last r j free = r.1 j
    end_linked (Some b) last r j free = r.2 j (λ e. not_armed ns j free b last.armed (sym e))

    take_others : IsLastOf ns (slots ns i) (keys ns i) before → AreOthersKept ns End i
    take_others last = record {
      size = length-set ms i n ∙ p.size;
      kept = λ j ne. record { timer = ap (λ (m : Node). m.timer) (end_other j ne) ∙ (p.kept j).timer; armed = end_armed j ne };
      free = λ j ne free. end_next j ne ∙ end_linked before last p.linked j free;
    }

    taken_out : IsLastOf ns (slots ns i) (keys ns i) before → AreChained (set ms i n) gs
    taken_out last =
        take_chained (Armed ns) (Armed End) (keys ns) (keys End) (slots ns) (slots End) (links ns) (links End) (head_of hs) (head_of gs) (slots ns i) i
        distinct ch (slot_low (node_at ns i).timer.z) before
        (record {
          gone = λ a. gone i a refl;
          was = armed;
          place = refl;
          kept = λ j a ne. end_same j ne a;
          old = λ j a. let ne = gone j a in end_same j ne (sym (end_armed j ne) ∙ a);
          linked = passed_over before last p.linked;
          others = p.others;
        })
        last

-- ---- with the slot as the code has it

module _ (ns ms : List Node) (hs gs : List (Option ℕ)) (i s : ℕ) (before : Option ℕ) (h : AreInSlots ns hs) (within : i < length ns) (len : length gs ≡ length hs) where
  pub put_sound : (x : Timer) (to : Option ℕ) → s ≡ slot_of x → (node_at ns i).armed ≡ false → ((j : ℕ) → Armed ns j → tasks ns j ≢ x.t) → x.t < 4294967296
      → IsLastOf ns s (key_of x) before → MatchOption before (to ≡ head_of hs s) (λ b. to ≡ links ns b)
      → IsPointed (set ns i (record { timer = x; armed = true; next = to })) ms hs gs s before (Some i) → AreInSlots ms gs × AreOthersKept ns ms i × IsArmedNode (node_at ms i) x
  put_sound x to e free other lt last is p =
      let apart = keys_apart ns hs h in
      let fresh = λ (j : ℕ) (a : Armed ns j) (k : keys ns j ≡ key_of x). other j a (key_tasks (node_at ns j).timer.z (tasks ns j) x.z x.t (h.narrow j a) lt k) in
      let l = subst (λ (r : ℕ). IsLastOf ns r (key_of x) before) e last in
      let t = subst (λ (r : ℕ). MatchOption before (to ≡ head_of hs r) (λ b. to ≡ links ns b)) e is in
      let q = subst (λ (r : ℕ). IsPointed (set ns i (record { timer = x; armed = true; next = to })) ms hs gs r before (Some i)) e p in
      let others = put_others ns ms hs gs i h.chained within apart x to free fresh before l q in
      let here = put_here ns ms hs gs i h.chained within apart x to free fresh before q in (
        record {
          count = len ∙ h.count;
          chained = put_chained ns ms hs gs i h.chained within apart x to free fresh before l t q;
          apart = apart_put ns ms i others x here other h.apart;
          narrow = narrow_put ns ms i others x here other lt h.narrow;
        },
        others,
        here,
      )

  pub take_sound : (n : Node) → n.armed ≡ false → s ≡ slots ns i → Armed ns i
      → IsLastOf ns s (keys ns i) before → IsPointed ns ms hs gs s before (links ns i) → AreInSlots (set ms i n) gs × AreOthersKept ns (set ms i n) i × (node_at (set ms i n) i ≡ n)
  take_sound n off e armed last p =
      let apart = keys_apart ns hs h in
      let q = subst (λ (r : ℕ). IsPointed ns ms hs gs r before (links ns i)) e p in
      let l = subst (λ (r : ℕ). IsLastOf ns r (keys ns i) before) e last in
      let others = take_others ns ms hs gs i h.chained within apart armed n off before q l in
      let here = end_here ns ms hs gs i h.chained within apart armed n off before q in
      let gone = ap (λ (m : Node). m.armed) here ∙ off in (
        record {
          count = len ∙ h.count;
          chained = taken_out ns ms hs gs i h.chained within apart armed n off before q l;
          apart = apart_take ns (set ms i n) i others gone h.apart;
          narrow = narrow_take ns (set ms i n) i others gone h.narrow;
        },
        others,
        here,
      )
