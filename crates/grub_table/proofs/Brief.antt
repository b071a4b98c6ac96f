-- How many accesses the steps of a call make together.
use Rattle.std.proofs.Common.{◌≡◌, ◌≢◌, ℕ, zero, suc, ◌+◌, ◌-◌, ◌*◌, ◌<◌, ◌≤◌, Bool, true, false, cond, List, [], ◌∷◌, ◌++◌, length, Some, sym, refl, ap, ◌∙◌, subst, ⊎_elim, arith, append_assoc, length-append, eqb, eq-eqb}
use Rattle.std.proofs.lemmas.List.Sums.{sum_by-append}
use Rattle.std.proofs.lemmas.Bool.{ne_eqb}
use Rattle.grub_book.specs.Bandwidth.{Reservation}
use Rattle.grub_book.specs.declared.place.Record.{Record}
use Rattle.grub_book.specs.declared.reply.Reply.{Reply}
use Rattle.std.specs.Prelude.{◌&&◌}
use Rattle.grub_table.specs.declared.view.Access.{Access}
use Rattle.grub_table.specs.declared.view.Access.TheVariants.{Load, Store, Exchange}
use Rattle.grub_table.specs.Accesses.{is_exchange_of, exchanges_of, lost_tries, FinishesBriefly, StartsBriefly}
use Rattle.grub_table.specs.inside.Brief.{changed_server, changed_store, TriesOnce}
use Rattle.std.proofs.lemmas.Bool.{both_ways}

exchanges_more : (w : ℕ) (xs ys : List Access) → exchanges_of w (xs ++ ys) ≡ exchanges_of w xs + exchanges_of w ys
exchanges_more w xs ys = sum_by-append (λ x. cond (is_exchange_of w x) 1 0) xs ys

-- an access of the word itself counts, and one of another word does not
counts_one : (w : ℕ) → ◌≡◌ {A = ℕ} (cond (eqb w w) 1 0) 1
counts_one w = ap (λ b. cond b 1 0) (eq-eqb w w refl)

counts_none : (v w : ℕ) → v ≢ w → ◌≡◌ {A = ℕ} (cond (eqb v w) 1 0) 0
counts_none v w other = ap (λ b. cond b 1 0) (ne_eqb v w other)

-- ---- the last stores
abbrev stored_if : ℕ → ℕ → Bool → List Access
stored_if p t same = cond same [] (Store p ∷ []) ++ Store t ∷ []

stored_quiet : (w p t : ℕ) (same : Bool) → exchanges_of w (stored_if p t same) ≡ 0
stored_quiet w p t true = refl
stored_quiet w p t false = refl

stored_few : (p t : ℕ) (same : Bool) → length (stored_if p t same) ≤ 2
stored_few p t true = omega arith
stored_few p t false = omega arith

-- ---- a call that is made
-- with these accesses, and then the last stores
module _ (w p t : ℕ) (held next : Reservation) (before mid after : List Access) (first : List Access) (to_mid : mid ≡ before ++ first) (to_after : after ≡ mid ++ changed_store p held next ++ Store t ∷ []) where
  abbrev last : List Access
  last = changed_store p held next ++ Store t ∷ []

  made_briefly : (tries : ℕ) (sum : Bool) → exchanges_of w first ≤ tries → (sum ≡ false → exchanges_of w first ≡ 0) → length first ≤ 2 * exchanges_of w first + 2 → FinishesBriefly w tries sum before after
  made_briefly tries sum tried quiet few =
      let same : Bool = eqb next.runtime held.runtime && eqb next.period held.period in
      let none = stored_quiet w p t same in
      let most = stored_few p t same in
      let all : exchanges_of w (first ++ last) ≡ exchanges_of w first = omega (arith, exchanges_more w first last, none) in
      record {
        made = first ++ last;
        grown = to_after ∙ append_assoc mid (changed_store p held next) (Store t ∷ []) ∙ ap (λ l. l ++ last) to_mid ∙ append_assoc before first last;
        tried = omega (arith, all, tried);
        quiet = λ is. all ∙ quiet is;
        few = omega (arith, all, few, most, length-append first last);
      }

-- after the event the server word v is stored, or stays
abbrev kept_or : ℕ → Bool → List Access
kept_or v same = cond same [] (Store v ∷ [])

kept_quiet : (w v : ℕ) (same : Bool) → exchanges_of w (kept_or v same) ≡ 0
kept_quiet w v true = refl
kept_quiet w v false = refl

kept_few : (v : ℕ) (same : Bool) → length (kept_or v same) ≤ 1
kept_few v true = omega arith
kept_few v false = omega arith

-- by a try
pub made_by_try : (w v p t : ℕ) (held next : Record) (sum : Bool) (q : Record × Reply) (before one two after : List Access) → TriesOnce w sum (Some q) before one → two ≡ one ++ changed_server v held.server next.server → after ≡ two ++ changed_store p held.params next.params ++ Store t ∷ []
    → FinishesBriefly w 1 sum before after
made_by_try w v p t held next sum q before one two after try to_two to_after =
    let same : Bool = eqb next.server.q held.server.q && eqb next.server.d held.server.d in
    let rest = kept_or v same in
    let none = kept_quiet w v same in
    let most = kept_few v same in
    ⊎_elim
    (λ (at_load : one ≡ before ++ Load w ∷ []).
    let here : two ≡ before ++ (Load w ∷ rest) = to_two ∙ ap (λ l. l ++ rest) at_load ∙ append_assoc before (Load w ∷ []) rest in
    let count : exchanges_of w (Load w ∷ rest) ≡ 0 = omega (arith, none) in
    made_briefly w p t held.params next.params before two after (Load w ∷ rest) here to_after 1 sum (omega (arith, count)) (λ _. count) (omega (arith, count, most)))
    (λ (won : (one ≡ before ++ Load w ∷ Exchange w true ∷ []) × (sum ≡ true)).
    let here : two ≡ before ++ (Load w ∷ Exchange w true ∷ rest) = to_two ∙ ap (λ l. l ++ rest) won.0 ∙ append_assoc before (Load w ∷ Exchange w true ∷ []) rest in
    let one_here : exchanges_of w (Load w ∷ Exchange w true ∷ []) ≡ 1 = omega (arith, counts_one w) in
    let count : exchanges_of w (Load w ∷ Exchange w true ∷ rest) ≡ 1 = exchanges_more w (Load w ∷ Exchange w true ∷ []) rest ∙ omega (arith, one_here, none) in
    made_briefly w p t held.params next.params before two after (Load w ∷ Exchange w true ∷ rest) here to_after 1 sum (omega (arith, count)) (λ off. absurd (both_ways _ off won.1)) (omega (arith, count, most)))
    try

-- by a store
pub made_by_store : (w v p t : ℕ) (held next : Reservation) (tries : ℕ) (sum : Bool) (before mid after : List Access) → mid ≡ before ++ Store v ∷ [] → after ≡ mid ++ changed_store p held next ++ Store t ∷ [] → FinishesBriefly w tries sum before after
made_by_store w v p t held next tries sum before mid after is to_after = made_briefly w p t held next before mid after (Store v ∷ []) is to_after tries sum (omega arith) (λ _. refl) (omega arith)

-- ---- lost tries
lost_next : (w n : ℕ) → lost_tries w (suc n) ≡ lost_tries w n ++ Load w ∷ Exchange w false ∷ []
lost_next w zero = refl
lost_next w (suc n) = ap (λ l. Load w ∷ Exchange w false ∷ l) (lost_next w n)

lost_exchanges : (w n : ℕ) → exchanges_of w (lost_tries w n) ≡ n
lost_exchanges w zero = refl
lost_exchanges w (suc n) = omega (arith, exchanges_more w (Load w ∷ Exchange w false ∷ []) (lost_tries w n), counts_one w, lost_exchanges w n)

lost_length : (w n : ℕ) → length (lost_tries w n) ≡ 2 * n
lost_length w zero = refl
lost_length w (suc n) = let rest = lost_length w n in omega arith

pub lost_more : (w v n : ℕ) (before mid after : List Access) → v ≡ w → mid ≡ before ++ lost_tries w n → after ≡ mid ++ lost_tries v 1 → after ≡ before ++ lost_tries w (n + 1)
lost_more w v n before mid after same one two =
    let next : n + 1 ≡ suc n = omega arith in
    two ∙ ap (λ u. mid ++ lost_tries u 1) same ∙ ap (λ l. l ++ lost_tries w 1) one ∙ append_assoc before (lost_tries w n) (lost_tries w 1) ∙ ap (λ l. before ++ l) (sym (lost_next w n)) ∙ ap (λ m. before ++ lost_tries w m) (sym next)

-- a call that is made after lost tries
pub lost_then : (w v n tries : ℕ) (sum on : Bool) (before mid after : List Access) → v ≡ w → mid ≡ before ++ lost_tries w n → n < tries → sum ≡ true → FinishesBriefly v 1 on mid after → FinishesBriefly w tries sum before after
lost_then w v n tries sum on before mid after same one lt is f' =
    let f : FinishesBriefly w 1 on mid after = subst (λ u. FinishesBriefly u 1 on mid after) same f' in
    let tried = f.tried in
    let few = f.few in
    let all : exchanges_of w (lost_tries w n ++ f.made) ≡ n + exchanges_of w f.made = omega (arith, exchanges_more w (lost_tries w n) f.made, lost_exchanges w n) in
    record {
      made = lost_tries w n ++ f.made;
      grown = f.grown ∙ ap (λ l. l ++ f.made) one ∙ append_assoc before (lost_tries w n) f.made;
      tried = omega (arith, all, tried, lt);
      quiet = λ off. absurd (both_ways _ off is);
      few = omega (arith, all, few, length-append (lost_tries w n) f.made, lost_length w n);
    }

-- a call that is made by the tries that are left after lost ones
pub lost_on : (w v n tries : ℕ) (sum on : Bool) (before mid after : List Access) → v ≡ w → mid ≡ before ++ lost_tries w n → n ≤ tries → sum ≡ true → FinishesBriefly v (tries - n) on mid after → FinishesBriefly w tries sum before after
lost_on w v n tries sum on before mid after same one le is f' =
    let f : FinishesBriefly w (tries - n) on mid after = subst (λ u. FinishesBriefly u (tries - n) on mid after) same f' in
    let tried = f.tried in
    let few = f.few in
    let all : exchanges_of w (lost_tries w n ++ f.made) ≡ n + exchanges_of w f.made = omega (arith, exchanges_more w (lost_tries w n) f.made, lost_exchanges w n) in
    record {
      made = lost_tries w n ++ f.made;
      grown = f.grown ∙ ap (λ l. l ++ f.made) one ∙ append_assoc before (lost_tries w n) f.made;
      tried = omega (arith, all, tried, le);
      quiet = λ off. absurd (both_ways _ off is);
      few = omega (arith, all, few, length-append (lost_tries w n) f.made, lost_length w n);
    }

-- ---- the start of a call
-- that ends at the load of the task's word
pub starts_at_load : (w : ℕ) (before after : List Access) → after ≡ before ++ Load w ∷ [] → StartsBriefly w before after
starts_at_load w before after is = record { made = Load w ∷ []; grown = is; load = omega (arith, counts_one w); exchange = omega arith; few = omega arith }

two_and : (w : ℕ) (won : Bool) (before one two : List Access) → one ≡ before ++ Load w ∷ [] → two ≡ one ++ Exchange w won ∷ [] → two ≡ before ++ Load w ∷ Exchange w won ∷ []
two_and w won before one two a b = b ∙ ap (λ l. l ++ Exchange w won ∷ []) a ∙ append_assoc before (Load w ∷ []) (Exchange w won ∷ [])

-- at an exchange of it that is lost
pub starts_lost : (w : ℕ) (won : Bool) (before one two : List Access) → one ≡ before ++ Load w ∷ [] → two ≡ one ++ Exchange w won ∷ [] → StartsBriefly w before two
starts_lost w won before one two a b = record { made = Load w ∷ Exchange w won ∷ []; grown = two_and w won before one two a b; load = omega (arith, counts_one w); exchange = omega (arith, counts_one w); few = omega arith }

-- with the claim
pub starts_held : (w p s : ℕ) (won : Bool) (before one two three : List Access) → one ≡ before ++ Load w ∷ [] → two ≡ one ++ Exchange w won ∷ [] → three ≡ two ++ Load p ∷ Load s ∷ [] → p ≡ w + 2 → s ≡ w + 1 → StartsBriefly w before three
starts_held w p s won before one two three a b c at_p at_s =
    let not_p = counts_none p w (λ same. omega (arith, same, at_p)) in
    let not_s = counts_none s w (λ same. omega (arith, same, at_s)) in
    record {
      made = Load w ∷ Exchange w won ∷ Load p ∷ Load s ∷ [];
      grown = c ∙ ap (λ l. l ++ Load p ∷ Load s ∷ []) (two_and w won before one two a b) ∙ append_assoc before (Load w ∷ Exchange w won ∷ []) (Load p ∷ Load s ∷ []);
      load = omega (arith, counts_one w, not_p, not_s);
      exchange = omega (arith, counts_one w);
      few = omega arith;
    }

-- that is early
pub starts_early : (w p s : ℕ) (held : Reservation) (won : Bool) (before one two three after : List Access) → one ≡ before ++ Load w ∷ [] → two ≡ one ++ Exchange w won ∷ [] → three ≡ two ++ Load p ∷ Load s ∷ [] → after ≡ three ++ changed_store p held held ++ Store w ∷ [] → p ≡ w + 2 → s ≡ w + 1 → StartsBriefly w before after
starts_early w p s held won before one two three after a b c d at_p at_s =
    let not_p = counts_none p w (λ same. omega (arith, same, at_p)) in
    let not_s = counts_none s w (λ same. omega (arith, same, at_s)) in
    record {
      made = Load w ∷ Exchange w won ∷ Load p ∷ Load s ∷ Store w ∷ [];
      grown = d ∙ append_assoc three (changed_store p held held) (Store w ∷ []) ∙ ap (λ same. three ++ stored_if p w same) (λ i. eq-eqb held.runtime held.runtime refl i && eq-eqb held.period held.period refl i) ∙ ap (λ l. l ++ Store w ∷ []) (c ∙ ap (λ l. l ++ Load p ∷ Load s ∷ []) (two_and w won before one two a b) ∙ append_assoc before (Load w ∷ Exchange w won ∷ []) (Load p ∷ Load s ∷ []))
          ∙ append_assoc before (Load w ∷ Exchange w won ∷ Load p ∷ Load s ∷ []) (Store w ∷ []);
      load = omega (arith, counts_one w, not_p, not_s);
      exchange = omega (arith, counts_one w);
      few = omega arith;
    }
