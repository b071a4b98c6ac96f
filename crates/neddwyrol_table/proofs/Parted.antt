-- A pass that was taken out again.
use Rattle.std.proofs.Common.{◌≡◌, Result, Ok, IfOk, subst}
use Rattle.std.specs.Global.{Global}
use Rattle.std_alloc.specs.declared.boxed.Box.{Box}
use Rattle.neddwyrol_table.specs.declared.held.Held.{Held}
use Rattle.neddwyrol_table.specs.Ended.{IsPartedInto}

pub parted_where_ok : {B : Type 0} (now : Held) {before first : Held} {r : Result (Box Held Global) B} {part : Box Held Global}
    → before ≡ first → r ≡ Ok part → IfOk r (λ b. IsPartedInto before now b.value) → IsPartedInto first now part.value
parted_where_ok now {before} {first} {r} {part} same is told =
    subst (λ h. IsPartedInto h now part.value) same (subst (λ r. IfOk r (λ b. IsPartedInto before now b.value)) is told)
