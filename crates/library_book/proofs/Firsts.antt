-- The first task, along a loop.
use Rattle.std.proofs.Common.{◌≡◌, ℕ, ◌+◌, ◌<◌, ◌≤◌, inl, inr, Bool, cond, List, length, get_or, Option, Some, None, IfSome, MatchOption, sym, ap, subst, ◌∙◌, arith}
use Rattle.std.proofs.lemmas.Bool.{cases_lt, le-ltb, lt-ltb}
use Rattle.std.proofs.lemmas.List.{get_or_default}
use Rattle.library_book.specs.First.{IsFirst, HasNone}
use Rattle.library_book.specs.inside.Better.{better_of}
use Rattle.library_book.specs.declared.memory.NdTask.{NdTask}
use Rattle.library_book.proofs.Faults.{each_more}

-- task t leads those before the i-th
pub record Leads (moment : NdTask → Option ℕ) (tasks : List NdTask) (i t m : ℕ) : Type 0 where
  pub there : t < i
  pub moment_is : (d : NdTask) → moment (get_or tasks t d) ≡ Some m
  pub least : (k : ℕ) (d : NdTask) → k < i → IfSome (moment (get_or tasks k d)) (λ n. m ≤ n)
  pub first : (k : ℕ) (d : NdTask) → k < t → IfSome (moment (get_or tasks k d)) (λ n. m < n)

abbrev pub SoFar : (NdTask → Option ℕ) → List NdTask → ℕ → Option (ℕ × ℕ) → Type 0
SoFar moment tasks i best = MatchOption best ((k : ℕ) (d : NdTask) → k < i → moment (get_or tasks k d) ≡ None) (λ b. Leads moment tasks i b.0 b.1)

weaker : (o : Option ℕ) (a b : ℕ) → a < b → IfSome o (λ n. b ≤ n) → IfSome o (λ n. a ≤ n)
weaker None a b less h = h
weaker (Some n) a b less h = omega (arith, less, h)

before : (o : Option ℕ) (a b : ℕ) → a < b → IfSome o (λ n. b ≤ n) → IfSome o (λ n. a < n)
before None a b less h = h
before (Some n) a b less h = omega (arith, less, h)

of_none : (o : Option ℕ) (P : ℕ → Type 0) → o ≡ None → IfSome o P
of_none o P is = subst (λ (z : Option ℕ). IfSome z P) (sym is) tt

module _ (moment : NdTask → Option ℕ) (tasks : List NdTask) (i : ℕ) (e : NdTask) (there : i < length tasks) where
  at : (mo : Option ℕ) → moment (get_or tasks i e) ≡ mo → (d : NdTask) → moment (get_or tasks i d) ≡ mo
  at mo is d = ap moment (get_or_default tasks i d e there) ∙ is

  leads_new : (m : ℕ) → moment (get_or tasks i e) ≡ Some m → ((k : ℕ) (d : NdTask) → k < i → IfSome (moment (get_or tasks k d)) (λ n. m ≤ n)) → ((k : ℕ) (d : NdTask) → k < i → IfSome (moment (get_or tasks k d)) (λ n. m < n))
      → Leads moment tasks (i + 1) i m
  leads_new m is least first =
      record {
        there = omega arith;
        moment_is = at (Some m) is;
        least = each_more (λ k (x : NdTask). IfSome (moment x) (λ n. m ≤ n)) tasks i e there least (subst (λ (o : Option ℕ). IfSome o (λ n. m ≤ n)) (sym is) (omega arith));
        first = first;
      }

  leads_old : (t m : ℕ) → Leads moment tasks i t m → IfSome (moment (get_or tasks i e)) (λ n. m ≤ n) → Leads moment tasks (i + 1) t m
  leads_old t m was here =
      record {
        there = let h = was.there in omega (arith, h);
        moment_is = was.moment_is;
        least = each_more (λ k (x : NdTask). IfSome (moment x) (λ n. m ≤ n)) tasks i e there was.least here;
        first = was.first;
      }

  pub so_far_more : (best : Option (ℕ × ℕ)) (mo : Option ℕ) → SoFar moment tasks i best → moment (get_or tasks i e) ≡ mo → SoFar moment tasks (i + 1) (better_of best i mo)
  so_far_more None None was is = each_more (λ k (x : NdTask). moment x ≡ None) tasks i e there was is
  so_far_more (Some b) None was is = leads_old b.0 b.1 was (of_none (moment (get_or tasks i e)) (λ n. b.1 ≤ n) is)
  so_far_more None (Some m) was is = leads_new m is (λ k d less. of_none _ (λ n. m ≤ n) (was k d less)) (λ k d less. of_none _ (λ n. m < n) (was k d less))
  so_far_more (Some b) (Some m) was is =
      elim (cases_lt m b.1) [
        | inl less ↦
            subst (λ (c : Bool). SoFar moment tasks (i + 1) (cond c (Some (i, m)) (Some b))) (sym (lt-ltb m b.1 less))
            (leads_new m is (λ k d h. weaker _ m b.1 less (was.least k d h)) (λ k d h. before _ m b.1 less (was.least k d h)))
        | inr more ↦
            subst (λ (c : Bool). SoFar moment tasks (i + 1) (cond c (Some (i, m)) (Some b))) (sym (le-ltb m b.1 more))
            (leads_old b.0 b.1 was (subst (λ (o : Option ℕ). IfSome o (λ n. b.1 ≤ n)) (sym is) more))
      ]

-- at the end
pub so_far_all : (moment : NdTask → Option ℕ) (tasks : List NdTask) (i : ℕ) (best : Option (ℕ × ℕ)) → i ≡ length tasks → SoFar moment tasks i best → MatchOption best (HasNone moment tasks) (λ b. IsFirst moment tasks b.0 b.1)
so_far_all moment tasks i None all was = λ k d here. was k d (omega (arith, here, all))
so_far_all moment tasks i (Some b) all was =
    record {
      there = let h = was.there in omega (arith, h, all);
      moment_is = was.moment_is;
      least = λ k d here. was.least k d (omega (arith, here, all));
      first = was.first;
    }
