-- What reading files answers is their plan or their first fault, from what the reader as a function gives.
use Rattle.std.proofs.Common.{◌≡◌, ℕ, List, Result, Ok, Err, IfOk, sym, ◌∙◌, refl, ap}
use Rattle.grub_trace.proofs.LineLemmas.{same_error, same_value}
use Rattle.std.specs.Prelude.{IfErr, MatchResult}
use Rattle.grub_trace.specs.declared.fault.TraceFault.{TraceFault}
use Rattle.grub_trace.specs.declared.fault.TraceFault.TheVariants as trace
use Rattle.grub_trace.specs.Tree.{Tree}
use Rattle.grub_plan.specs.Plans.{PlanView}
use Rattle.grub_trace.specs.Naming.{plan_of}
use Rattle.grub_trace.specs.Meaning.{Reads}
use Rattle.grub_trace.specs.FirstFault.{IsTraceFault, IsFault, IsOnly}
use Rattle.grub_trace.proofs.FaultsAreGiven.{plan_fault_again}
use Rattle.grub_trace.specs.inside.Reading.{AnswersAs, plan_from}
use Rattle.grub_trace.specs.declared.fault.Kind.{Kind}
use Rattle.grub_trace.proofs.PlanLaws.{plan_read, plan_fault}
use Rattle.grub_trace.proofs.TreesAreRead.{plan_again}
use Rattle.grub_plan.specs.Limits.{PlanFits}
use Rattle.grub_trace.specs.PlanOrFault.{IsPlanOrFault}
use Rattle.grub_trace.specs.inside.Planning.{IsPlanned}
use Rattle.grub_trace.proofs.LimitLaws.{plan_from_fits}
use Rattle.grub_trace.proofs.OpeningFaults.{opening_if}

found : (files : List (List ℕ)) (r : Result PlanView TraceFault) → AnswersAs r (λ p. p) (plan_from files) → IfOk r (λ p. (trees : List Tree) × Reads files trees × (p ≡ plan_of trees))
found files (Ok p) h = plan_read files p h
found files (Err e) h = tt

keeps_limits : (files : List (List ℕ)) (r : Result PlanView TraceFault) → AnswersAs r (λ p. p) (plan_from files) → IfOk r PlanFits
keeps_limits files (Ok p) h = plan_from_fits files p h
keeps_limits files (Err e) h = tt

fault_is : (files : List (List ℕ)) (r : Result PlanView TraceFault) → AnswersAs r (λ p. p) (plan_from files) → IfErr r (IsTraceFault files)
fault_is files (Ok p) h = tt
fault_is files (Err trace.NoMemory) h = tt
fault_is files (Err (trace.At k f n)) h = plan_fault files k f n h

read_if : (files : List (List ℕ)) (r : Result PlanView TraceFault) → AnswersAs r (λ p. p) (plan_from files) → (trees : List Tree) → Reads files trees → MatchResult r (λ p. p ≡ plan_of trees) (λ e. e ≡ trace.NoMemory)
read_if files (Ok p) h trees is = same_value {E = Kind × ℕ × ℕ} p (plan_of trees) (sym h ∙ plan_again files trees is)
read_if files (Err trace.NoMemory) h trees is = refl
read_if files (Err (trace.At k f n)) h trees is = absurd (let e : ◌≡◌ {A = Result PlanView (Kind × ℕ × ℕ)} (Ok (plan_of trees)) (Err (k, f, n)) = sym (plan_again files trees is) ∙ h in cc)

fault_if : (files : List (List ℕ)) (r : Result PlanView TraceFault) → AnswersAs r (λ p. p) (plan_from files) → (k : Kind) (f n : ℕ) → IsFault files k f n → MatchResult r (λ _. ⊥) (λ e. IsOnly e k f n)
fault_if files (Ok p) h k f n is = absurd (let e : ◌≡◌ {A = Result PlanView (Kind × ℕ × ℕ)} (Ok p) (Err (k, f, n)) = sym h ∙ plan_fault_again files k f n is in cc)
fault_if files (Err trace.NoMemory) h k f n is = tt
fault_if files (Err (trace.At j g m)) h k f n is =
    let p = same_error {X = PlanView} (j, g, m) (k, f, n) (sym h ∙ plan_fault_again files k f n is) in
    (ap (λ (x : Kind × ℕ × ℕ). x.0) p, ap (λ (x : Kind × ℕ × ℕ). x.1) p, ap (λ (x : Kind × ℕ × ℕ). x.2) p)

pub plan_or_fault : (files : List (List ℕ)) (r : Result PlanView TraceFault) → IsPlanned files r → IsPlanOrFault files r
plan_or_fault files r is = record {
  read = found files r is.answers;
  only = read_if files r is.answers;
  limits = keeps_limits files r is.answers;
  fault = fault_is files r is.answers;
  answered = fault_if files r is.answers;
  many = is.many;
  nothing = is.nothing;
  opening = opening_if files r is.opening;
}
