-- The law of ratios: max_bw and bw_ratio of a CPU come from one runtime and period (init_dl_rq_bw_ratio, to_ratio).
use Rattle.std.specs.Prelude.{ℕ, ◌+◌, ◌*◌, ◌/◌, ◌^◌, ◌≤◌, ◌<◌, ◌≡◌, Bool, true, ◌&&◌, ◌||◌, ◌==◌, nat_le, if◌then◌else◌}

-- max_bw is a runtime by a period in units of 2^-20, rounded down; bw_ratio is the period by the runtime in units of 2^-8, rounded down
abbrev pub is_ratio : ℕ → ℕ → Bool
is_ratio max_bw bw_ratio =
    if max_bw == 0 then (bw_ratio == 0) || nat_le (2 ^ 28) bw_ratio
    else (if nat_le (2 ^ 20) max_bw then bw_ratio == 256
    else nat_le (2 ^ 28 / (max_bw + 1)) bw_ratio && nat_le bw_ratio (2 ^ 28 / max_bw))

-- the greatest bw_ratio that a max_bw may have
abbrev pub greatest_ratio : ℕ → ℕ
greatest_ratio max_bw = if max_bw == 0 then 0 else (if nat_le (2 ^ 20) max_bw then 256 else 2 ^ 28 / max_bw)

-- to_ratio of a runtime in a period
abbrev pub max_bw_by : ℕ → ℕ → ℕ
max_bw_by runtime period = runtime * 2 ^ 20 / period

-- the inverse, without its last twelve bits
abbrev pub bw_ratio_by : ℕ → ℕ → ℕ
bw_ratio_by runtime period = period * 2 ^ 20 / runtime / 2 ^ 12

-- each runtime within a period gives a pair that the law takes
abbrev pub EachPairIsTaken : Type 0
EachPairIsTaken = (runtime period : ℕ) → 0 < runtime → runtime ≤ period → is_ratio (max_bw_by runtime period) (bw_ratio_by runtime period) ≡ true
