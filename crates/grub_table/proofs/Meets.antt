-- Two beginnings of one history, or of one list of marks.
use Rattle.std.proofs.Common.{◌≡◌, ◌⊎◌, ℕ, List, [], ◌∷◌, ◌++◌, length, filter, sym, refl, ap, subst, ◌∙◌, ⊎_elim, inl, inr, arith, append-nil, append_assoc, length-append, ◌==◌}
use Rattle.std.proofs.lemmas.List.{nil_from_length}
use Rattle.std.proofs.lemmas.List.Elements.{filter-append}
use mathlib.Core.List.{IsPrefix}
use Rattle.grub_book.specs.History.{pass_of}
use Rattle.grub_table.specs.declared.pass.Pass.{Pass}
use Rattle.grub_table.specs.declared.view.Share.{Share}
use Rattle.grub_table.specs.declared.view.Access.TheVariants.{Load}
use Rattle.grub_table.specs.declared.view.Note.{Note}
use Rattle.grub_table.specs.declared.view.Trail.{Trail}
use Rattle.grub_table.specs.declared.view.View.{View}
use Rattle.grub_table.specs.Accesses.{meeting_loads}
use Rattle.grub_table.specs.Calls.{accesses, share_of}
use Rattle.grub_table.specs.Knowing.{GoesOn}
use Rattle.grub_table.specs.Marks.{marker_of}
use Rattle.grub_table.specs.inside.Trails.{Accesses}
use Rattle.grub_table.specs.inside.Trails.{each_after, joined, known, left_trail, lone, right_trail, trail}
use Rattle.grub_table.specs.Views.{first_of}
use Rattle.grub_table.specs.inside.Views.{StandTogether, view}
use Rattle.atomic_table.specs.Table.{Me}
use Rattle.atomic_table.specs.declared.shared.Seat.{Seat}

-- of two beginnings of one list, one is a beginning of the other
compared : {A : Type 0} (a b r s : List A) → a ++ r ≡ b ++ s → IsPrefix a b ⊎ IsPrefix b a
compared {A} [] b r s e = inl (b, refl)
compared {A} (x ∷ a) [] r s e = inr (x ∷ a, refl)
compared {A} (x ∷ a) (y ∷ b) r s e = let same : x ≡ y = cc in ⊎_elim
    (λ (t : IsPrefix a b). inl (t.0, (λ i. same i ∷ t.1 i)))
    (λ (t : IsPrefix b a). inr (t.0, (λ i. sym same i ∷ t.1 i)))
    (compared a b r s cc)

pub either_first : {A : Type 0} (h a b : List A) → IsPrefix a h → IsPrefix b h → IsPrefix a b ⊎ IsPrefix b a
either_first h a b s t = compared a b s.0 t.0 (s.1 ∙ sym t.1)

-- what goes on to the whole list with nothing of i does so to each list between
between : {A : Type 0} (by : A → ℕ) (i : ℕ) (h a b : List A) → IsPrefix b h → IsPrefix a b → GoesOn by i a h [] → GoesOn by i a b []
between {A} by i h a b hb ba g =
    let own : List A → List A = filter (λ x. by x == i) in
    let whole : own h ≡ own b ++ own hb.0 = ap own (sym hb.1) ∙ filter-append (λ x. by x == i) b hb.0 in
    let part : own b ≡ own a ++ own ba.0 = ap own (sym ba.1) ∙ filter-append (λ x. by x == i) a ba.0 in
    let same : own h ≡ own a = g.own ∙ append-nil (own a) in
    let none : length (own ba.0) ≡ 0 = omega (arith, ap length whole, ap length part, ap length same, length-append (own b) (own hb.0), length-append (own a) (own ba.0)) in
    record { starts = ba; own = part ∙ ap (λ l. own a ++ l) (nil_from_length (own ba.0) none) }

-- of two beginnings of one list, one goes on to the other
met_in : {A : Type 0} (by : A → ℕ) (i j : ℕ) (h a b : List A) → GoesOn by i a h [] → GoesOn by j b h [] → GoesOn by i a b [] ⊎ GoesOn by j b a []
met_in by i j h a b f g = ⊎_elim
    (λ (s : IsPrefix a b). inl (between by i h a b g.starts s f))
    (λ (s : IsPrefix b a). inr (between by j h b a f.starts s g))
    (either_first h a b f.starts g.starts)

-- two passes that stand together
module _ (x y : Share) (t : StandTogether (x ∷ y ∷ [])) where
  pub met : GoesOn pass_of x.number x.seen y.seen [] ⊎ GoesOn pass_of y.number y.seen x.seen []
  met = met_in pass_of x.number y.number t.history x.seen y.seen t.known.0.seen t.known.1.0.seen

  pub marked_met : GoesOn marker_of x.number x.marks y.marks [] ⊎ GoesOn marker_of y.number y.marks x.marks []
  marked_met = met_in marker_of x.number y.number t.marks x.marks y.marks t.marked.0 t.marked.1.0

-- the trails of two passes that meet: joined, looking, and each with a seat of its own again
module _ (p q : Pass) (j : Seat Note Trail) (joins : j.me ≡ (joined q.seated.seat.me.0 p.seated.seat.me.0, q.seated.seat.me.1)) where
  abbrev both : View
  both = view (share_of p ∷ share_of q ∷ [])

  abbrev lists : List Accesses
  lists = (accesses p ++ Load 0 ∷ []) ∷ (accesses q ++ Load 0 ∷ []) ∷ []

  join_is : j.me ≡ (trail both lists, [])
  join_is = joins ∙ (λ i. (joined (q.seated.single i).0 (p.seated.single i).0, (q.seated.single i).1))

  pub both_known : j.me.0.view ≡ both
  both_known = ap (λ m. m.0.view) join_is

  module _ (l : Seat Note Trail) (sees : known l.me ≡ known j.me) (made : l.me.0.made ≡ each_after j.me.0.made (Load 0)) where
    load_is : l.me ≡ (trail both (each_after lists (Load 0)), [])
    load_is =
        let what : known l.me ≡ (both, []) = sees ∙ ap known join_is in
        let how : l.me.0.made ≡ each_after lists (Load 0) = made ∙ ap (λ m. each_after m.0.made (Load 0)) join_is in
        λ i. (trail (what i).0 (how i), (what i).1)

    pub both_seen : l.me.0.view ≡ both
    both_seen = ap (λ m. m.0.view) load_is

    three : (made : Accesses) → ((made ++ Load 0 ∷ []) ++ Load 0 ∷ []) ++ Load 0 ∷ [] ≡ made ++ meeting_loads
    three made = append_assoc (made ++ Load 0 ∷ []) (Load 0 ∷ []) (Load 0 ∷ []) ∙ append_assoc made (Load 0 ∷ []) (Load 0 ∷ Load 0 ∷ [])

    pub right_is : (m : Me Note Trail) → m ≡ (right_trail l.me.0, []) → m ≡ (lone (share_of p) (accesses p ++ meeting_loads), [])
    right_is m is = is ∙ ap (λ m. (right_trail m.0, [])) load_is ∙ ap (λ made. (lone (share_of p) made, [])) (three (accesses p))

    pub left_is : (m : Me Note Trail) → m ≡ (left_trail l.me.0, l.me.1) → m ≡ (lone (share_of q) (accesses q ++ meeting_loads), [])
    left_is m is = is ∙ ap (λ m. (left_trail m.0, m.1)) load_is ∙ ap (λ made. (lone (share_of q) made, [])) (three (accesses q))

    -- what the look found of the whole seat holds of the two
    pub together : StandTogether j.me.0.view.shares → (one other : Me Note Trail) → one ≡ (right_trail l.me.0, []) → other ≡ (left_trail l.me.0, l.me.1) → StandTogether (first_of one.0.view ∷ first_of other.0.view ∷ [])
    together stand one other a b = subst (λ (v : View × View). StandTogether (first_of v.0 ∷ first_of v.1 ∷ [])) (λ k. (sym (ap (λ m. m.0.view) (right_is one a)) k, sym (ap (λ m. m.0.view) (left_is other b)) k))
        (subst (λ (v : View). StandTogether v.shares) both_known stand)
