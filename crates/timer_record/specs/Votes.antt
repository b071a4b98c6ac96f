-- A majority vote in one pass (Boyer and Moore): where a candidate has more than half of the votes, it is the winner.
use Rattle.std.specs.Prelude.{ℕ, Bool, ◌+◌, ◌-◌, ◌^◌, ◌==◌, min, if◌then◌else◌, Option, Some, None}
use Rattle.timer_record.specs.declared.vote.Vote.{Vote}

abbrev pub no_vote : Vote
no_vote = record { candidate = 0; lead = 0 }

-- one more for a candidate
abbrev pub voted : Vote → ℕ → Vote
voted v c =
    if v.lead == 0 then record { candidate = c; lead = 1 }
    else (if v.candidate == c then record { candidate = c; lead = min (v.lead + 1) (2 ^ 32 - 1) }
    else record { candidate = v.candidate; lead = v.lead - 1 })

abbrev pub winner_of : Vote → Option ℕ
winner_of v = if v.lead == 0 then None else Some v.candidate

abbrev pub voted_by : Vote → Option ℕ → Vote
voted_by v (Some c) = voted v c
voted_by v None = v

-- a count with one more where that is so
abbrev pub more_of : ℕ → Bool → ℕ
more_of n b = if b then min (n + 1) (2 ^ 64 - 1) else n
