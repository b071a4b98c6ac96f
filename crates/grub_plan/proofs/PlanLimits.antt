-- Parts of a plan keep their limits.
use Rattle.std.proofs.Common.{◌≡◌, ℕ, List, length, true, Some, subst}
use Rattle.std.specs.Prelude.{slice_get}
use Rattle.std.specs.List.{AllByRecursion}
use Rattle.std.proofs.lemmas.List.Elements.{All-from_recursion, All-get_or}
use Rattle.std.proofs.lemmas.Option.{get_or_from_slice_get, slice_get_within}
use Rattle.grub_plan.specs.Plans.{Line, PlanView}
use Rattle.grub_plan.specs.Names.{is_name}
use Rattle.grub_plan.specs.Limits.{PlanFits, ScriptFits}

found_in : {X : Type 0} (P : X → Type 0) (xs : List X) (i : ℕ) (x : X) → AllByRecursion P xs → slice_get xs i ≡ Some x → P x
found_in P xs i x all at = subst P (get_or_from_slice_get xs i x x at) (All-get_or P xs i x (slice_get_within xs i x at) (All-from_recursion P xs all))

pub script_fits : (p v : PlanView) (r : ℕ) (s : List Line) → PlanFits p → p ≡ v → slice_get v.scripts r ≡ Some s → ScriptFits (length v.setup.tasks) 0 s
script_fits p v r s fits is e = found_in (ScriptFits (length v.setup.tasks) 0) v.scripts r s (subst PlanFits is fits).scripts e

pub name_fits : (p v : PlanView) (t : ℕ) (n : List ℕ) → PlanFits p → p ≡ v → slice_get v.names t ≡ Some n → is_name n ≡ true
name_fits p v t n fits is e = found_in (λ name. is_name name ≡ true) v.names t n (subst PlanFits is fits).names e
