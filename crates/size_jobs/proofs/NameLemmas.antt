-- A name more in a map from comms to pids, by its bytes.
use Rattle.std.proofs.Common.{◌≡◌, ℕ, Bool, true, false, cond, List, Option, Some, None, refl, sym, ap, ◌∙◌, ⊎_elim}
use Rattle.std.proofs.lemmas.Bool.{cases_Bool, cond-true, cond-false}
use Rattle.std.proofs.Math.Path.{fun_ext}
use Rattle.std.specs.Cmp.Lexicographic.{bytes_decides, nat_list_eq_equiv}
use Rattle.std.specs.HashMap.{HashMap, UpdatesBy, get_by}
use Rattle.std.specs.Map.{KeepsOthers}
use Rattle.std.specs.Option.{option_or}
use Rattle.std.specs.Str.{bytes_eq}
use Rattle.std.specs.declared.vec.Vec.{Vec}
use Rattle.trace_fields.specs.declared.shown.Shown.{Shown}
use Rattle.size_jobs.specs.Taking.{named_with}

or_none : (o : Option ℕ) → o ≡ option_or o None
or_none None = refl
or_none (Some n) = refl

apart : (key c k : List ℕ) → bytes_eq c key ≡ false → bytes_eq key k ≡ true → bytes_eq c k ≡ false
apart key c k other is = nat_list_eq_equiv.symm c k ∙ sym (nat_list_eq_equiv.congr key k c is) ∙ nat_list_eq_equiv.symm key c ∙ other

abbrev same : {Y : Type 0} → Vec ℕ Y → Vec ℕ Y → Bool
same x y = bytes_eq x.items y.items

module _ {S Y : Type 0} where
  abbrev names : HashMap (Vec ℕ Y) ℕ S → List ℕ → Option ℕ
  names m = λ c. get_by (λ k. bytes_eq c k.items) m

  others : (m n : HashMap (Vec ℕ Y) ℕ S) (key : Vec ℕ Y) → KeepsOthers same (same key) m.entries n.entries → (c : List ℕ) → bytes_eq c key.items ≡ false → names n c ≡ names m c
  unfolding KeepsOthers
  others m n key keeps c other = keeps (λ k. bytes_eq c k.items) (λ x y. nat_list_eq_equiv.congr c x.items y.items) (λ k is. apart key.items c k.items other is)

  module _ (m n : HashMap (Vec ℕ Y) ℕ S) (key : Vec ℕ Y) (task : Shown (List ℕ)) (is : key.items ≡ task.comm) (free : names m task.comm ≡ None) (put : UpdatesBy same (same key) m n (Some task.pid)) where
    here : (c : List ℕ) → bytes_eq c task.comm ≡ true → names n c ≡ named_with task (names m) c
    here c eq =
        let text : c ≡ task.comm = (bytes_decides c task.comm).0 eq in
        ap (names n) (text ∙ sym is) ∙ put.1
        ∙ sym (ap (λ o. option_or o (cond (bytes_eq c task.comm) (Some task.pid) None)) (ap (names m) text ∙ free) ∙ cond-true (bytes_eq c task.comm) (Some task.pid) None eq)

    there : (c : List ℕ) → bytes_eq c task.comm ≡ false → names n c ≡ named_with task (names m) c
    there c other =
        others m n key put.3 c (ap (bytes_eq c) is ∙ other) ∙ or_none (names m c)
        ∙ sym (ap (option_or (names m c)) (cond-false (bytes_eq c task.comm) (Some task.pid) None other))

    pub one_named : names n ≡ named_with task (names m)
    one_named = fun_ext (λ c. ⊎_elim (here c) (there c) (cases_Bool (bytes_eq c task.comm)))
