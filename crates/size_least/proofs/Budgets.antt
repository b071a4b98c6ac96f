-- How many budgets work takes, and how long.
use Rattle.std.proofs.Common.{◌≡◌, ℕ, ◌+◌, ◌-◌, ◌*◌, ◌/◌, ◌%◌, ◌<◌, ◌≤◌, inl, inr, arith}
use Rattle.std.proofs.lemmas.Nat.{mul-le, mod_below, div-add-mod'}
use Rattle.std.proofs.lemmas.Grind.{div_ceil_times}
use Rattle.std.proofs.lemmas.Bool.{cases_lt}
use Rattle.size_least.specs.Span.{budgets_of}

pub budgets-enough : (work runtime : ℕ) → 0 < runtime → work ≤ budgets_of work runtime * runtime
unfolding budgets_of
budgets-enough work runtime some = (div_ceil_times work runtime some).0

pub budgets-few : (work runtime : ℕ) → 0 < runtime → budgets_of work runtime * runtime < work + runtime
unfolding budgets_of
budgets-few work runtime some = (div_ceil_times work runtime some).1

-- budgets that are enough are as many or more
pub budgets-le : (work runtime k : ℕ) → 0 < runtime → work ≤ k * runtime → budgets_of work runtime ≤ k
budgets-le work runtime k some h =
    elim (cases_lt k (budgets_of work runtime)) [
      | inl lt ↦ let times : (k + 1) * runtime ≤ budgets_of work runtime * runtime = mul-le (k + 1) runtime (budgets_of work runtime) runtime (omega arith) (omega arith) in
          let few = budgets-few work runtime some in
          absurd (omega arith)
      | inr le ↦ le
    ]

-- the count that is enough and no more
pub budgets-is : (work runtime k : ℕ) → 0 < runtime → work ≤ k * runtime → k * runtime < work + runtime → budgets_of work runtime ≡ k
budgets-is work runtime k some enough few =
    let below = budgets-le work runtime k some enough in
    elim (cases_lt (budgets_of work runtime) k) [
      | inl lt ↦ let times : (budgets_of work runtime + 1) * runtime ≤ k * runtime = mul-le (budgets_of work runtime + 1) runtime k runtime (omega arith) (omega arith) in
          let all = budgets-enough work runtime some in
          absurd (omega arith)
      | inr le ↦ omega arith
    ]

pub budgets-zero : (runtime : ℕ) → 0 < runtime → budgets_of 0 runtime ≡ 0
budgets-zero runtime some = budgets-is 0 runtime 0 some (omega arith) (omega arith)

-- more work takes as many budgets or more
pub budgets-grow : (a b runtime : ℕ) → 0 < runtime → a ≤ b → budgets_of a runtime ≤ budgets_of b runtime
budgets-grow a b runtime some le =
    let all = budgets-enough b runtime some in
    budgets-le a runtime (budgets_of b runtime) some (omega arith)

-- a greater runtime takes as many budgets or fewer
pub budgets-fall : (work q r : ℕ) → 0 < q → q ≤ r → budgets_of work r ≤ budgets_of work q
budgets-fall work q r some le =
    let all = budgets-enough work q some in
    let times = mul-le (budgets_of work q) q (budgets_of work q) r (omega arith) le in
    budgets-le work r (budgets_of work q) (omega arith) (omega arith)

-- work that is begun in a budget of which something is left goes on as if it had been one
pub budgets-ahead : (c w left runtime : ℕ) → 0 < runtime
    → budgets_of (c + w - left) runtime ≡ budgets_of (c - left) runtime + budgets_of (w - (left + budgets_of (c - left) runtime * runtime - c)) runtime
budgets-ahead c w left runtime some =
    let k = budgets_of (c - left) runtime in
    let enough : c - left ≤ k * runtime = budgets-enough (c - left) runtime some in
    let few : k * runtime < (c - left) + runtime = budgets-few (c - left) runtime some in
    let l = left + k * runtime - c in
    let x = budgets_of (w - l) runtime in
    let enough' : w - l ≤ x * runtime = budgets-enough (w - l) runtime some in
    let few' : x * runtime < (w - l) + runtime = budgets-few (w - l) runtime some in
    elim (cases_lt l w) [
      | inl lt ↦ elim (cases_lt left c) [
        | inl beyond ↦ budgets-is (c + w - left) runtime (k + x) some (omega arith) (omega arith)
        | inr within ↦ let none : k ≡ 0 = (let zero_work : c - left ≡ 0 = omega arith in rw zero_work (budgets-zero runtime some)) in
            let times : k * runtime ≡ 0 = rw none (omega arith) in
            budgets-is (c + w - left) runtime (k + x) some (omega arith) (omega arith)
      ]
      | inr le ↦ let none : x ≡ 0 = (let zero_work : w - l ≡ 0 = omega arith in rw zero_work (budgets-zero runtime some)) in
          let times : x * runtime ≡ 0 = rw none (omega arith) in
          elim (cases_lt left c) [
            | inl beyond ↦ budgets-is (c + w - left) runtime (k + x) some (omega arith) (omega arith)
            | inr within ↦ let none' : k ≡ 0 = (let zero_work : c - left ≡ 0 = omega arith in rw zero_work (budgets-zero runtime some)) in
                let times' : k * runtime ≡ 0 = rw none' (omega arith) in
                budgets-is (c + w - left) runtime (k + x) some (omega arith) (omega arith)
          ]
    ]

-- what is left of the last budget, by the remainder
pub rest_of : (work runtime : ℕ) → 0 < runtime → work % runtime ≡ 0 → 0 ≡ budgets_of work runtime * runtime - work
rest_of work runtime some none =
    let parts = div-add-mod' work runtime in
    let is = budgets-is work runtime (work / runtime) some (omega arith) (omega arith) in
    rw is (omega arith)

pub rest_over : (work runtime : ℕ) → 0 < runtime → 0 < work % runtime → runtime - work % runtime ≡ budgets_of work runtime * runtime - work
rest_over work runtime some over =
    let parts = div-add-mod' work runtime in
    let below = mod_below work runtime some in
    let is = budgets-is work runtime (work / runtime + 1) some (omega arith) (omega arith) in
    rw is (omega arith)

-- one budget more where work is left
pub budgets-renewed : (work runtime : ℕ) → 0 < runtime → 0 < work → budgets_of work runtime ≡ budgets_of (work - runtime) runtime + 1
budgets-renewed work runtime some left =
    let k = budgets_of (work - runtime) runtime in
    let enough : work - runtime ≤ k * runtime = budgets-enough (work - runtime) runtime some in
    let few : k * runtime < (work - runtime) + runtime = budgets-few (work - runtime) runtime some in
    elim (cases_lt runtime work) [
      | inl more ↦ budgets-is work runtime (k + 1) some (omega arith) (omega arith)
      | inr within ↦ let none : k ≡ 0 = (let zero_work : work - runtime ≡ 0 = omega arith in rw zero_work (budgets-zero runtime some)) in
          let times : k * runtime ≡ 0 = rw none (omega arith) in
          budgets-is work runtime (k + 1) some (omega arith) (omega arith)
    ]

-- whole budgets of work take as many
pub budgets-whole : (whole runtime used left w : ℕ) → 0 < runtime → used ≤ left → left < used + runtime
    → budgets_of (whole * runtime + used + w - left) runtime ≡ whole + budgets_of (w - (left - used)) runtime
budgets-whole whole runtime used left w some has less =
    let k = budgets_of (w - (left - used)) runtime in
    let enough : w - (left - used) ≤ k * runtime = budgets-enough (w - (left - used)) runtime some in
    let few : k * runtime < (w - (left - used)) + runtime = budgets-few (w - (left - used)) runtime some in
    elim (cases_lt w (left - used)) [
      | inl within ↦ let none : k ≡ 0 = (let zero_work : w - (left - used) ≡ 0 = omega arith in rw zero_work (budgets-zero runtime some)) in
          let times : k * runtime ≡ 0 = rw none (omega arith) in
          budgets-is (whole * runtime + used + w - left) runtime (whole + k) some (omega arith) (omega arith)
      | inr beyond ↦ budgets-is (whole * runtime + used + w - left) runtime (whole + k) some (omega arith) (omega arith)
    ]

pub budgets-at_least : (whole runtime w left : ℕ) → 0 < runtime → left < runtime → whole ≤ budgets_of (whole * runtime + w - left) runtime
budgets-at_least whole runtime w left some less =
    let k = budgets_of (whole * runtime + w - left) runtime in
    let enough : whole * runtime + w - left ≤ k * runtime = budgets-enough (whole * runtime + w - left) runtime some in
    elim (cases_lt k whole) [
      | inl few ↦ let times : (k + 1) * runtime ≤ whole * runtime = mul-le (k + 1) runtime whole runtime (omega arith) (omega arith) in
          absurd (omega arith)
      | inr le ↦ le
    ]
