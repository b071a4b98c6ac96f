-- The two charges of one run.
use Rattle.std.proofs.Common.{◌≡◌, ℕ, ◌+◌, ◌-◌, ◌≤◌, ◌==◌, Bool, true, false, nat_lt, if◌then◌else◌, arith, rules, refl}
use Rattle.kernel_rules.specs.declared.charge.ChargeLaw.TheVariants.{LinuxFrom65, Documentation}
use Rattle.kernel_rules.specs.declared.charge.Charge.{Charge}
use Rattle.kernel_rules.specs.declared.charge.Charge.TheVariants.{InFull, ByItsBandwidth, ByWhatIsLeft}
use Rattle.kernel_rules.specs.declared.charge.ChargedRunqueue.{ChargedRunqueue}
use Rattle.kernel_rules.specs.declared.entity.Entity.{Entity}
use Rattle.kernel_rules.specs.Clock.{plus, less}
use Rattle.kernel_rules.specs.Charge.{charging_of, rate_of, cost_by, cost_of, inactive_of}
use Rattle.kernel_laws.specs.Rounding.{ratio_for, IsOrdinary, rate_for, RateIsBetween, ChargesNoMore, ChargesHardlyLess, ChargesAlike}
use Rattle.kernel_laws.specs.inside.Charges.{kernel_charge, exact_charge}
use Rattle.kernel_laws.proofs.RoundingLemmas.{never_more, hardly_less, alike}
use Rattle.kernel_laws.proofs.CostLemmas.{kernel_is, exact_is, less_is, plus_is}

kernel_by : (e : Entity) (r : ChargedRunqueue) (nanos : ℕ) → IsOrdinary e r nanos → (c : Charge) → (c ≡ InFull → ⊥) → rate_of LinuxFrom65 e r c ≤ r.max_bw
    → cost_by LinuxFrom65 e r nanos c ≡ kernel_charge nanos (rate_of LinuxFrom65 e r c) (ratio_for r.max_bw)
kernel_by e r nanos o InFull bad h = absurd (bad refl)
kernel_by e r nanos o ByItsBandwidth bad h = rw o.ratio (kernel_is nanos _ r.max_bw o.some h o.most o.short)
kernel_by e r nanos o ByWhatIsLeft bad h = rw o.ratio (kernel_is nanos _ r.max_bw o.some h o.most o.short)

exact_by : (e : Entity) (r : ChargedRunqueue) (nanos : ℕ) → IsOrdinary e r nanos → (c : Charge) → (c ≡ InFull → ⊥) → rate_of LinuxFrom65 e r c ≤ r.max_bw
    → cost_by Documentation e r nanos c ≡ exact_charge nanos (rate_of LinuxFrom65 e r c) r.max_bw
exact_by e r nanos o InFull bad h = absurd (bad refl)
exact_by e r nanos o ByItsBandwidth bad h =
    let z : (r.max_bw == 0) ≡ false = search (rules, o.some) in
    rw z (exact_is nanos _ r.max_bw h o.most o.short)
exact_by e r nanos o ByWhatIsLeft bad h =
    let z : (r.max_bw == 0) ≡ false = search (rules, o.some) in
    rw z (exact_is nanos _ r.max_bw h o.most o.short)

not_full : (e : Entity) (r : ChargedRunqueue) (nanos : ℕ) → IsOrdinary e r nanos → charging_of LinuxFrom65 e r ≡ InFull → ⊥
unfolding charging_of
not_full e r nanos o =
    let q = o.reclaims in
    rw o.reclaims (elim (nat_lt (less r.max_bw e.dl_bw) (plus (inactive_of r) r.sums.extra_bw))
    as (λ b. (if b then ByItsBandwidth else ByWhatIsLeft) ≡ InFull → ⊥) [ true ↦ λ h. cc | false ↦ λ h. cc ])

rate_is : (e : Entity) (r : ChargedRunqueue) (nanos : ℕ) → IsOrdinary e r nanos → (b : Bool)
    → nat_lt (less r.max_bw e.dl_bw) (plus (inactive_of r) r.sums.extra_bw) ≡ b
    → rate_of LinuxFrom65 e r (if b then ByItsBandwidth else ByWhatIsLeft) ≤ r.max_bw
rate_is e r nanos o true h = o.own
rate_is e r nanos o false h =
    let i : inactive_of r ≡ r.sums.this_bw - r.sums.running_bw = less_is r.sums.this_bw r.sums.running_bw o.active o.present in
    let a : less r.max_bw e.dl_bw ≡ r.max_bw - e.dl_bw = less_is r.max_bw e.dl_bw o.own (omega (arith, o.most)) in
    let p : plus (inactive_of r) r.sums.extra_bw ≡ inactive_of r + r.sums.extra_bw = plus_is (inactive_of r) r.sums.extra_bw (omega (arith, i, o.inactive, o.extra, o.most)) in
    let n : inactive_of r + r.sums.extra_bw ≤ r.max_bw - e.dl_bw = grind (arith, h, a, p) in
    let j : inactive_of r ≤ r.max_bw = omega arith in
    let k : less r.max_bw (inactive_of r) ≡ r.max_bw - inactive_of r = less_is r.max_bw (inactive_of r) j (omega (arith, o.most)) in
    let l : less (r.max_bw - inactive_of r) r.sums.extra_bw ≡ r.max_bw - inactive_of r - r.sums.extra_bw
    = less_is (r.max_bw - inactive_of r) r.sums.extra_bw (omega arith) (omega (arith, o.most)) in
    rw k (rw l (omega arith))

rate_small : (e : Entity) (r : ChargedRunqueue) (nanos : ℕ) → IsOrdinary e r nanos → rate_for e r ≤ r.max_bw
unfolding charging_of
rate_small e r nanos o = rw o.reclaims (rate_is e r nanos o _ refl)

rate_least : (e : Entity) (r : ChargedRunqueue) (nanos : ℕ) → IsOrdinary e r nanos → (b : Bool)
    → nat_lt (less r.max_bw e.dl_bw) (plus (inactive_of r) r.sums.extra_bw) ≡ b
    → e.dl_bw ≤ rate_of LinuxFrom65 e r (if b then ByItsBandwidth else ByWhatIsLeft)
rate_least e r nanos o true h = omega arith
rate_least e r nanos o false h =
    let i : inactive_of r ≡ r.sums.this_bw - r.sums.running_bw = less_is r.sums.this_bw r.sums.running_bw o.active o.present in
    let a : less r.max_bw e.dl_bw ≡ r.max_bw - e.dl_bw = less_is r.max_bw e.dl_bw o.own (omega (arith, o.most)) in
    let p : plus (inactive_of r) r.sums.extra_bw ≡ inactive_of r + r.sums.extra_bw = plus_is (inactive_of r) r.sums.extra_bw (omega (arith, i, o.inactive, o.extra, o.most)) in
    let n : inactive_of r + r.sums.extra_bw ≤ r.max_bw - e.dl_bw = grind (arith, h, a, p) in
    let j : inactive_of r ≤ r.max_bw = omega arith in
    let k : less r.max_bw (inactive_of r) ≡ r.max_bw - inactive_of r = less_is r.max_bw (inactive_of r) j (omega (arith, o.most)) in
    let l : less (r.max_bw - inactive_of r) r.sums.extra_bw ≡ r.max_bw - inactive_of r - r.sums.extra_bw
    = less_is (r.max_bw - inactive_of r) r.sums.extra_bw (omega arith) (omega (arith, o.most)) in
    rw k (rw l (omega (arith, n, o.own)))

rate_enough : (e : Entity) (r : ChargedRunqueue) (nanos : ℕ) → IsOrdinary e r nanos → e.dl_bw ≤ rate_for e r
unfolding charging_of
rate_enough e r nanos o = rw o.reclaims (rate_least e r nanos o _ refl)

pub rate_between : (e : Entity) (r : ChargedRunqueue) (nanos : ℕ) → IsOrdinary e r nanos → RateIsBetween e r
rate_between e r nanos o = record { least = rate_enough e r nanos o; most = rate_small e r nanos o }

kernel_cost : (e : Entity) (r : ChargedRunqueue) (nanos : ℕ) → IsOrdinary e r nanos
    → cost_of LinuxFrom65 e r nanos ≡ kernel_charge nanos (rate_for e r) (ratio_for r.max_bw)
unfolding cost_of
kernel_cost e r nanos o = kernel_by e r nanos o (charging_of LinuxFrom65 e r) (not_full e r nanos o) (rate_small e r nanos o)

same_charge : (e : Entity) (r : ChargedRunqueue) → charging_of Documentation e r ≡ charging_of LinuxFrom65 e r
unfolding charging_of
same_charge e r = refl

exact_cost : (e : Entity) (r : ChargedRunqueue) (nanos : ℕ) → IsOrdinary e r nanos
    → cost_of Documentation e r nanos ≡ exact_charge nanos (rate_for e r) r.max_bw
unfolding cost_of
exact_cost e r nanos o =
    rw (same_charge e r) (exact_by e r nanos o (charging_of LinuxFrom65 e r) (not_full e r nanos o) (rate_small e r nanos o))

pub charges_no_more : (e : Entity) (r : ChargedRunqueue) (nanos : ℕ) → IsOrdinary e r nanos → ChargesNoMore e r nanos
charges_no_more e r nanos o =
    rw (kernel_cost e r nanos o) (rw (exact_cost e r nanos o) (never_more nanos (rate_for e r) r.max_bw o.some))

pub charges_hardly_less : (e : Entity) (r : ChargedRunqueue) (nanos : ℕ) → IsOrdinary e r nanos → ChargesHardlyLess e r nanos
charges_hardly_less e r nanos o =
    let h = hardly_less nanos (rate_for e r) r.max_bw o.some in
    rw (kernel_cost e r nanos o) (rw (exact_cost e r nanos o) (omega (arith, h)))

pub charges_alike : (e : Entity) (r : ChargedRunqueue) (nanos : ℕ) → IsOrdinary e r nanos → ChargesAlike e r nanos
charges_alike e r nanos o all =
    rw (kernel_cost e r nanos o) (rw (exact_cost e r nanos o) (alike nanos (rate_for e r) r.max_bw all))
