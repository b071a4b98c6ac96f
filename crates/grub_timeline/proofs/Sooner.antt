-- The file whose line is next of all files.
use Rattle.std.proofs.Common.{◌≡◌, ◌≢◌, ℕ, ◌+◌, ◌<◌, ◌≤◌, Bool, true, false, cond, min, nat_lt, List, [], length, get_or, set, Option, Some, None, refl, sym, ap, ◌∙◌, subst, ⊎_elim, inl, inr, arith, below_more, get_or-set_other}
use Rattle.std.specs.Prelude.{IfSome, MatchOption, slice_get}
use Rattle.std.specs.Option.{IsSomeAnd}
use Rattle.std.proofs.lemmas.Bool.{ltb-true, ltb-false}
use Rattle.std.proofs.lemmas.List.{get_or_past}
use Rattle.std.proofs.lemmas.Option.{same_Some}
use mathlib.Core.Logic.{dite}
use native.Mathlib.Decide.{ℕ_discrete}
use Rattle.grub_plan.specs.Plans.{Line, script_at}
use Rattle.grub_timeline.specs.declared.order.Lead.{Lead}
use Rattle.grub_timeline.specs.declared.order.PlacedLine.{PlacedLine}
use Rattle.grub_timeline.specs.Order.{IsNotLater}
use Rattle.grub_timeline.specs.inside.Merge.{IsAhead, IsBefore, IsBehind, IsFirst, IsLeader, IsNext, NoHead, head_at, leader_of, placed}

pub not_later-refl : (p : PlacedLine) → IsNotLater p p
not_later-refl p = inr (refl, omega arith)

pub not_later-trans : (p q x : PlacedLine) → IsNotLater p q → IsNotLater q x → IsNotLater p x
not_later-trans p q x a b = ⊎_elim
    (λ (h : p.line.m < q.line.m). ⊎_elim (λ (k : q.line.m < x.line.m). inl (omega arith)) (λ (k : (q.line.m ≡ x.line.m) × (q.runqueue ≤ x.runqueue)). let same = k.0 in inl (omega (arith, h, same))) b)
    (λ (h : (p.line.m ≡ q.line.m) × (p.runqueue ≤ q.runqueue)). ⊎_elim (λ (k : q.line.m < x.line.m). let same = h.0 in inl (omega (arith, k, same)))
    (λ (k : (q.line.m ≡ x.line.m) × (q.runqueue ≤ x.runqueue)). let low = h.1 in let high = k.1 in inr (h.0 ∙ k.0, omega (arith, low, high))) b)
    a

-- ---- which lines come behind
-- a file leads until an earlier moment
behind_less : (lead : Lead) (until r m : ℕ) → until ≤ lead.until → IsBehind lead r m → IsBehind (record lead { until = until }) r m
behind_less lead until r m less behind = ⊎_elim
    (λ (h : lead.until ≤ m). inl (omega (arith, h, less)))
    (λ (h : (lead.until ≤ m + 1) × (lead.runqueue < r)). let late = h.0 in inr (omega (arith, late, less), h.1))
    behind

-- what comes behind all lines of a file comes behind those of one that is sooner
behind_sooner : (lead : Lead) (n k r m : ℕ) → IsBefore lead → IsBehind lead r m → IsBehind (record { runqueue = n; moment = k; until = lead.moment }) r m
behind_sooner lead n k r m before behind = ⊎_elim
    (λ (h : lead.until ≤ m). inl (omega (arith, h, before)))
    (λ (h : (lead.until ≤ m + 1) × (lead.runqueue < r)). let late = h.0 in inl (omega (arith, late, before)))
    behind

behind_not_later : (lead : Lead) (first line : Line) (r : ℕ) → first.m < lead.until → IsBehind lead r line.m → IsNotLater (placed lead.runqueue first) (placed r line)
behind_not_later lead first line r soon behind = ⊎_elim
    (λ (h : lead.until ≤ line.m). inl (omega (arith, h, soon)))
    (λ (h : (lead.until ≤ line.m + 1) × (lead.runqueue < r)). let late = h.0 in let low = h.1 in dite (ℕ_discrete first.m line.m) (λ same. inr (same, omega (arith, low))) (λ other. inl (omega (arith, late, soon, other))))
    behind

module _ (scripts : List (List Line)) (done : List ℕ) where
  abbrev Behind : Lead → ℕ → Type 0
  Behind lead r = (line : Line) → r ≢ lead.runqueue → head_at scripts done r ≡ Some line → IsBehind lead r line.m

  with_head : (n : ℕ) (lead : Option Lead) (o : Option Line) → head_at scripts done n ≡ o → IfSome lead IsBefore → IsLeader scripts done n lead → IsLeader scripts done (n + 1) (leader_of lead n o)
  with_head n None None is before l = below_more (λ r. head_at scripts done r ≡ None) n l is
  with_head n (Some lead) None is before l = let low = l.within in record {
    within = omega (arith, low);
    line = l.line;
    head = l.head;
    moment = l.moment;
    others = below_more (Behind lead) n l.others (λ line ne at. let bad : None ≡ Some line = sym is ∙ at in absurd (cc));
  }
  with_head n None (Some first) is before l = record {
    within = omega arith;
    line = first;
    head = is;
    moment = refl;
    others = below_more (Behind (record { runqueue = n; moment = first.m; until = 18446744073709551615 })) n
        (λ r low line ne at. let bad : None ≡ Some line = sym (l r low) ∙ at in absurd (cc)) (λ line ne at. absurd (ne refl));
  }
  with_head n (Some lead) (Some first) is before l = go (nat_lt first.m lead.moment) refl
    where
      go : (b : Bool) → nat_lt first.m lead.moment ≡ b
          → IsLeader scripts done (n + 1) (cond b (Some (record { runqueue = n; moment = first.m; until = lead.moment })) (Some (record lead { until = min lead.until (first.m + 1) })))
      go true lt = record {
        within = omega arith;
        line = first;
        head = is;
        moment = refl;
        others = below_more (Behind (record { runqueue = n; moment = first.m; until = lead.moment })) n
            (λ r low line ne at. dite (ℕ_discrete r lead.runqueue)
            (λ same. let own : l.line ≡ line = same_Some l.line line (sym l.head ∙ ap (λ k. head_at scripts done k) (sym same) ∙ at) in inl (subst (λ (x : Line). lead.moment ≤ x.m) own (let m = l.moment in omega (arith, m))))
            (λ other. behind_sooner lead n first.m r line.m before (l.others r low line other at)))
            (λ line ne at. absurd (ne refl));
      }
      go false ge = let low = l.within in record {
        within = omega (arith, low);
        line = l.line;
        head = l.head;
        moment = l.moment;
        others = below_more (Behind (record lead { until = min lead.until (first.m + 1) })) n
            (λ r below line ne at. behind_less lead (min lead.until (first.m + 1)) r line.m (omega arith) (l.others r below line ne at))
            (λ line ne at. subst (λ (x : Line). IsBehind (record lead { until = min lead.until (first.m + 1) }) n x.m) (same_Some first line (sym is ∙ at)) (inr (omega arith, l.within)));
      }

  pub leader_next : (n : ℕ) (lead : Option Lead) → IfSome lead IsBefore → IsLeader scripts done n lead → IsLeader scripts done (n + 1) (leader_of lead n (head_at scripts done n))
  leader_next n lead before l = with_head n lead (head_at scripts done n) refl before l

  -- a file that is not there has no line
  pub head_within : (r : ℕ) (line : Line) → head_at scripts done r ≡ Some line → r < length scripts
  head_within r line at = go (nat_lt r (length scripts)) refl
    where
      go : (b : Bool) → nat_lt r (length scripts) ≡ b → r < length scripts
      go true lt = ltb-true r (length scripts) lt
      go false ge =
          let none : head_at scripts done r ≡ None = ap (λ s. slice_get s (get_or done r 0)) (get_or_past scripts r [] (ltb-false r (length scripts) ge)) in
          let bad : None ≡ Some line = sym none ∙ at in absurd (cc)

  no_head : (n : ℕ) → n ≡ length scripts → ((r : ℕ) → r < n → head_at scripts done r ≡ None) → NoHead scripts done
  no_head n all f r = go (head_at scripts done r) refl
    where
      go : (o : Option Line) → head_at scripts done r ≡ o → head_at scripts done r ≡ None
      go None is = is
      go (Some line) is = f r (subst (λ k. r < k) (sym all) (head_within r line is))

  pub leads_all : (n : ℕ) (lead : Option Lead) → n ≡ length scripts → IsLeader scripts done n lead → MatchOption lead (NoHead scripts done) (IsAhead scripts done)
  leads_all n None all l = no_head n all l
  leads_all n (Some lead) all l = λ r line ne at. l.others r (subst (λ k. r < k) (sym all) (head_within r line at)) line ne at

  pub leads_now : (n : ℕ) (lead : Option Lead) → IfSome lead IsBefore → IsLeader scripts done n lead → IfSome lead (IsNext scripts done)
  leads_now n None before l = tt
  leads_now n (Some lead) before l = let m = l.moment in subst (λ o. IsSomeAnd o (λ (x : Line). x.m < lead.until)) (sym l.head) (omega (arith, m, before))

  -- the next line of the file that leads is the next of all files
  pub first_of : (lead : Lead) (line : Line) → IsAhead scripts done lead → head_at scripts done lead.runqueue ≡ Some line → IsNext scripts done lead → IsFirst scripts done (placed lead.runqueue line)
  first_of lead line ahead at next = record {
    head = at;
    least = λ r other there. dite (ℕ_discrete r lead.runqueue)
        (λ same. let own : line ≡ other = same_Some line other (sym at ∙ ap (λ k. head_at scripts done k) (sym same) ∙ there) in subst (λ x. IsNotLater (placed lead.runqueue line) (placed r x)) own (inr (refl, omega (arith, same))))
        (λ ne. behind_not_later lead line other r soon (ahead r other ne there));
  }
    where
      soon : line.m < lead.until
      soon = subst (λ o. IsSomeAnd o (λ (x : Line). x.m < lead.until)) at next

  -- it leads on when a line of it is done
  pub ahead_next : (lead : Lead) (k : ℕ) → IsAhead scripts done lead → IsAhead scripts (set done lead.runqueue k) lead
  ahead_next lead k ahead r line ne at = ahead r line ne (ap (λ n. slice_get (script_at scripts r) n) (sym (get_or-set_other done lead.runqueue r k 0 ne)) ∙ at)
