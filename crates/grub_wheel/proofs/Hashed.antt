-- What the fields of a hashed wheel become.
use Rattle.std.proofs.Common.{◌≡◌, ◌≢◌, ℕ, ◌+◌, ◌-◌, ◌<◌, ◌≤◌, ◌⊎◌, inl, inr, false, List, [], ◌∷◌, ◌++◌, length, Option, Some, None, refl, ap, ◌∙◌, sym, arith, subst}
use Rattle.std.specs.Prelude.{sum_by, replicate}
use Rattle.std.specs.List.{AllByRecursion}
use Rattle.std.proofs.lemmas.List.Sums.{sum_by-cons, sum_by-append}
use Rattle.std.proofs.Math.ListN.{get_or-append}
use Rattle.std.proofs.Math.Seq.{get_or-append_seam}
use Rattle.std.proofs.lemmas.List.{length-append, get_or-replicate, length-replicate}
use Rattle.grub_wheel.specs.declared.timer.Timer.{Timer}
use Rattle.grub_wheel.specs.declared.node.Node.{Node}
use Rattle.grub_wheel.specs.inside.Firsts.{IsFirst, Behind}
use Rattle.grub_wheel.specs.inside.Nodes.{free_node, node_at, Armed, timers_of, key_of, slot_of, keys, slots, moments, links, tasks, head_of, AreInSlots, AreChained, AreOthersKept, IsArmedNode, IsFreed, AreFree, armed_count, one_if_armed, IsHashed}
use Rattle.std.proofs.lemmas.Bool.{cases_eq, cases_lt, both_ways}
use Rattle.grub_wheel.proofs.NodeReads.{not_armed}
use Rattle.grub_wheel.proofs.Links.{IsSame, first_as, behind_as, behind_to}
use Rattle.grub_wheel.proofs.Looks.{bag_of, bag-same}
use Rattle.grub_wheel.specs.TimerBag.{WheelState}
use Rattle.grub_wheel.specs.inside.Used.{AreMarked, IsMapped, mark_of}
use Rattle.std.specs.FinMap as map
use Rattle.grub_wheel.proofs.Views.{state_of, looks}
use Rattle.grub_wheel.proofs.Apart.{Apart, same_look, look_has}
use Rattle.grub_wheel.proofs.FreePlaces.{free_head, free_kept, none_armed, one_armed, none_if_free, armed_count-others}
use Rattle.grub_wheel.proofs.Scans.{armed_within}

-- ---- no timer yet

no_head : (hs : List (Option ℕ)) → hs ≡ replicate 256 None → (s : ℕ) → s < 256 → head_of hs s ≡ None
no_head hs e s lt = ap (λ (xs : List (Option ℕ)). head_of xs s) e ∙ get_or-replicate 256 s None None lt

none_in : (i : ℕ) → Armed [] i → ⊥
none_in i a = absurd cc

fresh_sound : (hs : List (Option ℕ)) → hs ≡ replicate 256 None → AreInSlots [] hs
fresh_sound hs e = record {
  count = ap (λ (xs : List (Option ℕ)). length xs) e ∙ length-replicate {A = Option ℕ} 256 None;
  chained = record {
    heads = λ s lt. subst (λ (o : Option ℕ). IsFirst (Armed []) (keys []) (λ i. slots [] i ≡ s) o) (sym (no_head hs e s lt)) (λ i a p. none_in i a);
    nexts = λ i a. absurd (none_in i a);
  };
  apart = λ i j a b t. absurd (none_in i a);
  narrow = λ i a. absurd (none_in i a);
}

pub fresh_hashed : (ns : List Node) (hs : List (Option ℕ)) → ns ≡ [] → hs ≡ replicate 256 None → IsHashed ns hs None 0 0
fresh_hashed ns hs e f = subst (λ (xs : List Node). IsHashed xs hs None 0 0) (sym e)
    (record { sound = fresh_sound hs f; places = []; linked = refl; room = refl; count = refl; after = λ i a. absurd (none_in i a) })

pub fresh_mapped : (us : List ℕ) (hs : List (Option ℕ)) → hs ≡ replicate 256 None → IsMapped us hs
fresh_mapped us hs e s lt some = absurd (some (no_head hs e s lt))

pub fresh_marked : (us : List ℕ) (ns : List Node) → ns ≡ [] → AreMarked us ns
fresh_marked us ns e i a low = absurd (none_in i (subst (λ (xs : List Node). Armed xs i) e a))

-- ---- a timer more, and a timer less

pub put_hashed : (ns ms : List Node) (hs gs : List (Option ℕ)) (free : Option ℕ) (i spare from f : ℕ) (x : Timer) → IsHashed ns hs free spare from → free ≡ Some i
    → AreInSlots ms gs → IsArmedNode (node_at ms i) x → AreOthersKept ns ms i → f ≤ from → f ≤ x.z → IsHashed ms gs (links ns i) (spare - 1) f
put_hashed ns ms hs gs free i spare from f x h is sound here others lower later =
    let head = free_head ns h.places free spare i h.linked h.room is in
    record {
      sound = sound;
      places = head.rest;
      linked = free_kept ns ms i others head.rest (links ns i) head.others head.linked;
      room = let r = head.room in omega arith;
      count =
          let c = armed_count-others ns ms i head.within others in
          let a = none_if_free (node_at ns i) head.off in
          let b = one_armed (node_at ms i) here.armed in
          let r = head.room in let q = others.size in let k = h.count in
          omega arith;
      after = λ j a. after j a (cases_eq j i);
    }
  where
    after : (j : ℕ) → Armed ms j → (j ≡ i) ⊎ (j ≢ i) → f ≤ moments ms j
    after j a (inl e) = let t : moments ms j ≡ x.z = ap (moments ms) e ∙ ap (λ (y : Timer). y.z) here.timer in omega arith
    after j a (inr ne) = let k = others.kept j ne in let n = h.after j (sym k.armed ∙ a) in let t = ap (λ (y : Timer). y.z) k.timer in omega arith

pub take_hashed : (ns ms : List Node) (hs gs : List (Option ℕ)) (free : Option ℕ) (i spare from : ℕ) → IsHashed ns hs free spare from → i < length ns → Armed ns i
    → AreInSlots ms gs → IsFreed (node_at ms i) free → AreOthersKept ns ms i → IsHashed ms gs (Some i) (spare + 1) from
take_hashed ns ms hs gs free i spare from h within armed sound here others = record {
  sound = sound;
  places = i ∷ h.places;
  linked =
      let ne = none_armed ns i armed h.places free h.linked in
      (refl, let s = others.size in omega arith, here.armed, ne, subst (AreFree ms h.places) (sym here.next) (free_kept ns ms i others h.places free ne h.linked));
  room = let r = h.room in omega arith;
  count =
      let c = armed_count-others ns ms i within others in
      let a = one_armed (node_at ns i) armed in
      let b = none_if_free (node_at ms i) here.armed in
      let s = others.size in let k = h.count in omega arith;
  after = λ j a. let k = others.kept j (not_armed ms i here.armed j a) in let n = h.after j (sym k.armed ∙ a) in let t = ap (λ (y : Timer). y.z) k.timer in omega arith;
}

-- once nothing armed is before f
pub moved_on : (ns : List Node) (hs : List (Option ℕ)) (free : Option ℕ) (spare from f : ℕ) → IsHashed ns hs free spare from → ((j : ℕ) → Armed ns j → f ≤ moments ns j) → IsHashed ns hs free spare f
moved_on ns hs free spare from f h after =
    record { sound = h.sound; places = h.places; linked = h.linked; room = h.room; count = h.count; after = after }

-- ---- a place more

module _ (ns : List Node) (n : Node) (off : n.armed ≡ false) where
  abbrev More : List Node
  More = ns ++ n ∷ []

  more_length : length More ≡ length ns + 1
  more_length = length-append ns (n ∷ [])

  more_at : (j : ℕ) → j < length ns → node_at More j ≡ node_at ns j
  more_at j lt = get_or-append ns (n ∷ []) free_node j lt

  more_end : node_at More (length ns) ≡ n
  more_end = get_or-append_seam ns n [] free_node

  more_within : (j : ℕ) → Armed More j → j < length ns
  more_within j a = go (cases_lt j (length ns)) (cases_eq j (length ns))
    where
      go : (j < length ns) ⊎ (length ns ≤ j) → (j ≡ length ns) ⊎ (j ≢ length ns) → j < length ns
      go (inl l) o = l
      go (inr l) (inl e) = absurd (both_ways (node_at More j).armed (ap (λ (k : ℕ). (node_at More k).armed) e ∙ ap (λ (m : Node). m.armed) more_end ∙ off) a)
      go (inr l) (inr ne) = let w = armed_within More j a in let k = more_length in absurd (omega arith)

  armed_was : (j : ℕ) → Armed More j → Armed ns j
  armed_was j a = sym (ap (λ (m : Node). m.armed) (more_at j (more_within j a))) ∙ a

  armed_is : (j : ℕ) → Armed ns j → Armed More j
  armed_is j a = ap (λ (m : Node). m.armed) (more_at j (armed_within ns j a)) ∙ a

  timer_is : (j : ℕ) → Armed ns j → (node_at More j).timer ≡ (node_at ns j).timer
  timer_is j a = ap (λ (m : Node). m.timer) (more_at j (armed_within ns j a))

  task_is : (j : ℕ) → Armed ns j → tasks More j ≡ tasks ns j
  task_is j a = ap (λ (x : Timer). x.t) (timer_is j a)

  same : (j : ℕ) → Armed ns j → IsSame (Armed ns) (Armed More) (keys ns) (keys More) (slots ns) (slots More) j
  same j a = record { old = a; new = armed_is j a; key = ap key_of (timer_is j a); slot = ap slot_of (timer_is j a) }

  abbrev Next : ℕ → Option ℕ → Type 0
  Next i k = IsFirst (Armed More) (keys More) (Behind (keys More) (slots More) i) k

  more_chained : (hs : List (Option ℕ)) → AreChained ns hs → AreChained More hs
  more_chained hs ch = record {
    heads = λ s lt. first_as (Armed ns) (Armed More) (keys ns) (keys More) (slots ns) (slots More) (λ j. slots ns j ≡ s) (λ j. slots More j ≡ s) (head_of hs s) (ch.heads s lt)
        (λ j a p. let c = same j (armed_was j a) in (c, sym c.slot ∙ p))
        (λ h is f. let c = same h f.armed in (c, c.slot ∙ f.meets));
    nexts = λ i a. let b = armed_was i a in
        subst (Next i) (sym (ap (λ (m : Node). m.next) (more_at i (armed_within ns i b))))
        (first_as (Armed ns) (Armed More) (keys ns) (keys More) (slots ns) (slots More) (Behind (keys ns) (slots ns) i) (Behind (keys More) (slots More) i) (links ns i) (ch.nexts i b)
        (λ j q p. let c = same j (armed_was j q) in (c, behind_as (Armed ns) (Armed More) (keys ns) (keys More) (slots ns) (slots More) i j (same i b) c p))
        (λ h is f. let c = same h f.armed in (c, behind_to (Armed ns) (Armed More) (keys ns) (keys More) (slots ns) (slots More) i h (same i b) c f.meets)));
  }

  more_sound : (hs : List (Option ℕ)) → AreInSlots ns hs → AreInSlots More hs
  more_sound hs h = record {
    count = h.count;
    chained = more_chained hs h.chained;
    apart = λ i j a b t. let p = armed_was i a in let q = armed_was j b in h.apart i j p q (sym (task_is i p) ∙ t ∙ task_is j q);
    narrow = λ i a. let p = armed_was i a in let l = h.narrow i p in let t = task_is i p in omega arith;
  }

  -- the free places stand as they did
  more_free : (places : List ℕ) (at : Option ℕ) → AreFree ns places at → AreFree More places at
  more_free [] at f = f
  more_free (j ∷ js) at f =
      let w = f.1 in let k = more_length in
      (f.0, omega (arith, w, k), ap (λ (m : Node). m.armed) (more_at j w) ∙ f.2, f.3, subst (AreFree More js) (sym (ap (λ (m : Node). m.next) (more_at j w))) (more_free js (links ns j) f.4))

  none_at_end : (places : List ℕ) (at : Option ℕ) → AreFree ns places at → AllByRecursion (λ j. j ≢ length ns) places
  none_at_end [] at f = tt
  none_at_end (j ∷ js) at f = (λ e. let w = f.1 in absurd (omega (arith, w, e)), none_at_end js (links ns j) f.4)

  more_hashed : (hs : List (Option ℕ)) (free : Option ℕ) (spare from : ℕ) → IsHashed ns hs free spare from → n.next ≡ free → IsHashed More hs (Some (length ns)) (spare + 1) from
  more_hashed hs free spare from h end = record {
    sound = more_sound hs h.sound;
    places = length ns ∷ h.places;
    linked = (
      refl,
      let k = more_length in omega (arith, k),
      ap (λ (m : Node). m.armed) more_end ∙ off,
      none_at_end h.places free h.linked,
      subst (AreFree More h.places) (sym (ap (λ (m : Node). m.next) more_end ∙ end)) (more_free h.places free h.linked),
    );
    room = let r = h.room in omega (arith, r);
    count = counted;
    after = λ i a. let p = armed_was i a in let l = h.after i p in let t = ap (λ (x : Timer). x.z) (timer_is i p) in omega arith;
  }
    where
      counted : spare + 1 + armed_count More ≡ length More
      counted =
          let a = sum_by-append one_if_armed ns (n ∷ []) in
          let b = sum_by-cons one_if_armed n [] in
          let c = none_if_free n off in
          let d : sum_by one_if_armed [] ≡ 0 = refl in
          let k = more_length in let e = h.count in
          omega arith

  more_marked : (us : List ℕ) → AreMarked us ns → AreMarked us More
  more_marked us marked i a low = let p = armed_was i a in let t = task_is i p in ap (mark_of us) t ∙ marked i p (subst (λ k. k < 256) t low)

  more_bag : Apart ns → bag_of (timers_of More) ≡ bag_of (timers_of ns)
  more_bag apart = bag-same (timers_of ns) (timers_of More) (λ q. same_look ns More q apart
      (λ j a t. (armed_is j a, task_is j a ∙ t))
      (λ j a t. let p = armed_was j a in (p, timer_is j p)))

-- a free place before the others
abbrev pub free_before : Option ℕ → Node
free_before free = record free_node { next = free }

pub free_more : (ns ms : List Node) (hs : List (Option ℕ)) (free : Option ℕ) (spare place from : ℕ) → IsHashed ns hs free spare from → ms ≡ ns ++ free_before free ∷ [] → place ≡ length ns → IsHashed ms hs (Some place) (spare + 1) from
free_more ns ms hs free spare place from h e p =
    let m = more_hashed ns (free_before free) refl hs free spare from h refl in
    subst (λ (k : ℕ). IsHashed ms hs (Some k) (spare + 1) from) (sym p) (subst (λ (xs : List Node). IsHashed xs hs (Some (length ns)) (spare + 1) from) (sym e) m)

pub marked_more : (us : List ℕ) (ns ms : List Node) (free : Option ℕ) → AreMarked us ns → ms ≡ ns ++ free_before free ∷ [] → AreMarked us ms
marked_more us ns ms free marked e = subst (AreMarked us) (sym e) (more_marked ns (free_before free) refl us marked)

pub bag-free_more : (ns ms : List Node) (free : Option ℕ) → Apart ns → ms ≡ ns ++ free_before free ∷ [] → bag_of (timers_of ms) ≡ bag_of (timers_of ns)
bag-free_more ns ms free apart e = ap (λ (xs : List Node). bag_of (timers_of xs)) e ∙ more_bag ns (free_before free) refl apart

-- ---- the fields as the code leaves them

pub hashed_as : (ns ms : List Node) (hs gs : List (Option ℕ)) (free to : Option ℕ) (s from : ℕ) → ms ≡ ns → gs ≡ hs → to ≡ free → IsHashed ns hs free s from → IsHashed ms gs to s from
hashed_as ns ms hs gs free to s from a b c h =
    subst (λ (xs : List Node). IsHashed xs gs to s from) (sym a) (subst (λ (ys : List (Option ℕ)). IsHashed ns ys to s from) (sym b) (subst (λ (o : Option ℕ). IsHashed ns hs o s from) (sym c) h))

pub mapped_as : (us : List ℕ) (hs gs : List (Option ℕ)) → gs ≡ hs → IsMapped us hs → IsMapped us gs
mapped_as us hs gs e h = subst (IsMapped us) (sym e) h

pub no_task : (ns ds : List Node) (s : ℕ) (l : Option ℕ) (w : WheelState) (t : ℕ) → state_of (timers_of ns) s l ≡ w → ds ≡ ns → map.get w.timers t ≡ None → (j : ℕ) → Armed ds j → tasks ds j ≢ t
no_task ns ds s l w t e d n = subst (λ (xs : List Node). (j : ℕ) → Armed xs j → tasks xs j ≢ t) (sym d) (λ j a u. look_has ns j t a u (sym (looks (timers_of ns) s l w t e) ∙ n))
