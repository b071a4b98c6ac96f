-- When the kernel took a change that a note tells of, and the clock of a wake.
use Rattle.std.specs.Prelude.{ℕ, ◌+◌, ◌-◌, ◌^◌, Bool, true, false, not, ◌&&◌, ◌||◌, nat_lt, min, if◌then◌else◌, Option, Some, None, is_none}
use Rattle.trace_data.specs.declared.fixed.Stop.{Stop}
use Rattle.trace_data.specs.declared.fixed.Stop.TheVariants.{Ends}
use Rattle.timer_record.specs.declared.moment.Passing.{Passing}
use Rattle.timer_record.specs.declared.moment.TheConstants.{CALL, FIRST_CALL, LAG, WAKE}

abbrev pub passing_at_first : Passing
passing_at_first = record { charged = None; is_calling = false; within_call = None; earlier_in_call = None; has_note = false; noted = 0; is_deadline = false; has_ended = false; woken = None }

abbrev pub or_of : Option ℕ → Option ℕ → Option ℕ
or_of (Some a) b = Some a
or_of None b = b

-- a charge; one after sys_enter_sched_setattr may be that of the change
abbrev pub charged_of : Passing → ℕ → Passing
charged_of p at =
    let charged = record p { charged = Some at; woken = None } in
    if p.is_calling then record charged { within_call = Some at; earlier_in_call = p.within_call } else charged

-- switched out as one of the class: that charge was the class's, and the change came with the one before
abbrev pub in_class_of : Passing → Passing
in_class_of p =
    if p.is_calling && not p.is_deadline then record p { is_calling = false; within_call = or_of p.earlier_in_call p.within_call } else p

-- X or Z
abbrev pub ends_of : Stop → Bool
ends_of Ends = true
ends_of _ = false

-- switched out, as one of the class or not
abbrev pub switched_of : Passing → Bool → Stop → Passing
switched_of p deadline stop = record (if deadline then in_class_of p else p) { has_ended = ends_of stop }

-- it has ended, or left the class
abbrev pub is_gone_of : Passing → Bool
is_gone_of p = p.has_ended || not p.is_deadline

-- its notes put it outside the class, and no call of it is at work
abbrev pub is_outside_of : Passing → Bool
is_outside_of p = p.has_note && not p.is_deadline && not p.is_calling && is_none p.within_call

abbrev pub returned_of : Passing → Passing
returned_of p = record p { is_calling = false }

abbrev pub calling_of : Passing → Passing
calling_of p = record p { is_calling = true; within_call = None; earlier_in_call = None }

abbrev pub told_of : Passing → Bool → ℕ → Passing
told_of p deadline moment = record p { within_call = None; has_note = true; noted = moment; is_deadline = deadline }

abbrev pub near_of : Option ℕ → ℕ → ℕ → Option ℕ
near_of (Some charge) note span = if nat_lt (note - charge) span then Some charge else None
near_of None note span = None

abbrev pub within_of : Passing → ℕ → Bool → Option ℕ
within_of p note itself =
    let near = near_of p.charged note (if p.has_note then CALL else FIRST_CALL) in
    if itself then or_of p.within_call near else near

abbrev pub just_after : Option ℕ → ℕ → ℕ
just_after (Some charge) note = min (charge + 1) (2 ^ 64 - 1)
just_after None note = note - LAG

-- just after the charge within the call, or a little before the note
abbrev pub change_of : Passing → ℕ → Bool → ℕ
change_of p note itself = just_after (within_of p note itself) note

-- a run that began less than 0.1 ms before the line of the wake began with the wake
abbrev pub wake_clock_of : ℕ → ℕ → ℕ → ℕ
wake_clock_of woken charged nanos =
    if nat_lt (charged - nanos) woken && nat_lt (woken - (charged - nanos)) WAKE then charged - nanos else woken
