-- The test of a wake without its last ten bits.
use Rattle.std.proofs.Common.{◌≡◌, ℕ, zero, suc, ◌+◌, ◌-◌, ◌*◌, ◌/◌, ◌^◌, ◌<◌, ◌≤◌, true, false, ◌&&◌, arith, rules, refl}
use Rattle.std.proofs.Math.Nat.{div-mul-le_self, lt-div-mul-add}
use Rattle.std.proofs.Math.Dec.{ltb}
use Rattle.std.proofs.lemmas.Bool.{le-ltb, lt-ltb}
use Rattle.std.proofs.lemmas.Nat.{mul-le}
use Rattle.trace_data.specs.declared.quantities.Donor.{Donor}
use Rattle.kernel_rules.specs.Clock.{less, times, comes_before}
use Rattle.kernel_laws.specs.Waking.{IsBelow18Minutes, AnswersAlike}
use Rattle.kernel_laws.proofs.CostLemmas.{times_is, less_is}

low : (x : ℕ) → x / 1024 * 1024 ≤ x
low x = div-mul-le_self x 1024

high : (x : ℕ) → x ≤ x / 1024 * 1024 + 1023
high x = let h : x < x / 1024 * 1024 + 1024 = lt-div-mul-add (omega arith) in omega arith

below : (x y : ℕ) → (x / 1024) * (y / 1024) * 1048576 ≤ x * y
below x y =
    let h : x / 1024 * 1024 * (y / 1024 * 1024) ≤ x * y = mul-le (x / 1024 * 1024) (y / 1024 * 1024) x y (low x) (low y) in
    omega arith

above : (x y : ℕ) → x * y ≤ (x / 1024 * 1024 + 1023) * (y / 1024 * 1024 + 1023)
above x y = mul-le x y (x / 1024 * 1024 + 1023) (y / 1024 * 1024 + 1023) (high x) (high y)

fits : (x y n l : ℕ) → n * l + 1024 * (x + y) ≤ x * y → (l / 1024) * (n / 1024) ≤ (x / 1024) * (y / 1024)
fits x y n l h = omega (arith, below l n, above x y, low x, low y)

exceeds : (x y n l : ℕ) → x * y + 1024 * (n + l) + 1048576 ≤ n * l → (x / 1024) * (y / 1024) < (l / 1024) * (n / 1024)
exceeds x y n l h = omega (arith, below x y, above l n, low l, low n)

small : (x y : ℕ) → x < 2 ^ 40 → y < 2 ^ 40 → (x / 1024) * (y / 1024) < 2 ^ 62
small x y h k =
    let a : x / 1024 ≤ 1073741824 = omega arith in
    let b : y / 1024 ≤ 1073741824 = omega arith in
    let c : (x / 1024) * (y / 1024) ≤ 1073741824 * 1073741824 = mul-le (x / 1024) (y / 1024) 1073741824 1073741824 a b in
    omega arith

is_not_before : (a b : ℕ) → b ≤ a → a < 2 ^ 62 → comes_before a b ≡ false
is_not_before a b h k =
    let e : less a b ≡ a - b = less_is a b h (omega arith) in
    let f : ltb (a - b) (2 ^ 63) ≡ true = search (rules, h, k) in
    let g : ltb (a - b) 0 ≡ false = le-ltb (a - b) 0 (omega arith) in
    rw e (rw f g)

is_before : (a b : ℕ) → a < b → b < 2 ^ 62 → comes_before a b ≡ true
is_before a b h k =
    let e : less a b ≡ a + (2 ^ 64 - b) = omega arith in
    let f : ltb (a + (2 ^ 64 - b)) (2 ^ 63) ≡ false = search (rules, h, k) in
    rw e (rw f refl)

exact_kept : (a b : ℕ) → (n : ℕ) → b ≤ a → (ltb 0 n && ltb a b) ≡ false
exact_kept a b n h =
    let f : ltb a b ≡ false = le-ltb a b h in
    rw f (elim (ltb 0 n) as (λ v. (v && false) ≡ false) [ true ↦ refl | false ↦ refl ])

some : (n l : ℕ) → 1048576 ≤ n * l → 0 < n
some zero l h = absurd (omega arith)
some (suc n) l h = omega arith

exact_renewed : (a l n : ℕ) → a + 1048576 ≤ n * l → (ltb 0 n && ltb a (n * l)) ≡ true
exact_renewed a l n h =
    let f : ltb a (n * l) ≡ true = lt-ltb a (n * l) (omega arith) in
    let g : ltb 0 n ≡ true = lt-ltb 0 n (some n l (omega arith)) in
    rw f (rw g refl)

pub answers_alike : (by : Donor) (budget span : ℕ) → IsBelow18Minutes by budget span → AnswersAlike by budget span
answers_alike by n x o =
    let t : times (x / 2 ^ 10) (by.dl_runtime / 2 ^ 10) ≡ (x / 1024) * (by.dl_runtime / 1024)
    = times_is (x / 1024) (by.dl_runtime / 1024) (omega (arith, small x by.dl_runtime o.span_is o.runtime_is)) in
    let s : times (by.dl_deadline / 2 ^ 10) (n / 2 ^ 10) ≡ (by.dl_deadline / 1024) * (n / 1024)
    = times_is (by.dl_deadline / 1024) (n / 1024) (omega (arith, small by.dl_deadline n o.deadline_is o.budget_is)) in
    record {
      kept = λ h. (rw t (rw s (is_not_before _ _ (fits x by.dl_runtime n by.dl_deadline h) (small x by.dl_runtime o.span_is o.runtime_is))), exact_kept (x * by.dl_runtime) (n * by.dl_deadline) n (omega arith));
      renewed = λ h. (rw t (rw s (is_before _ _ (exceeds x by.dl_runtime n by.dl_deadline h) (small by.dl_deadline n o.deadline_is o.budget_is))), exact_renewed (x * by.dl_runtime) by.dl_deadline n (omega arith));
    }
