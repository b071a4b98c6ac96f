-- What is kept of a record only grows, by a line at most for each line: a note leaves it as it is.
use Rattle.std.proofs.Common.{◌≡◌, ℕ, ◌+◌, ◌-◌, ◌≤◌, Bool, true, false, not, ◌&&◌, ◌||◌, ◌==◌, if◌then◌else◌, List, [], ◌∷◌, length, drop, slice_get, Option, Some, None, is_none, unwrap_or, refl, ap, ◌∙◌, arith, length-append, length-set}
use Rattle.trace_data.specs.declared.fixed.Fixed.{Fixed}
use Rattle.trace_data.specs.declared.fixed.Fixed.TheVariants as said
use Rattle.trace_data.specs.declared.fixed.Stop.{Stop}
use Rattle.trace_data.specs.declared.fixed.TimerFunction.{TimerFunction}
use Rattle.trace_data.specs.declared.fixed.TimerFunction.TheVariants.{ZeroLag, Replenish, Other}
use Rattle.timer_record.specs.declared.before.Before.{Before}
use Rattle.timer_record.specs.declared.before.Before.TheVariants as before
use Rattle.timer_record.specs.declared.event.KeptEvent.{KeptEvent}
use Rattle.timer_record.specs.declared.event.KeptEvent.TheVariants.{Idles, Woken, OtherWoken, Migrated, Ran, Switched, ZeroLagStarted, ReplenishStarted, Cancelled, ZeroLagFired, ReplenishFired}
use Rattle.timer_record.specs.declared.event.KeptLine.{KeptLine}
use Rattle.timer_record.specs.declared.lines.TaskNote.{TaskNote}
use Rattle.timer_record.specs.declared.moment.Passing.{Passing}
use Rattle.timer_record.specs.declared.record.KeptPlace.{KeptPlace}
use Rattle.timer_record.specs.declared.record.TimerPlace.{TimerPlace}
use Rattle.timer_record.specs.Kept.{Kept, before_is, changed_by, counted, handed_by, handed_in, handed_to, is_left_at, keeps, place_in, placed_by, placed_in, with_address, with_passing, with_timer}
use Rattle.timer_record.specs.Passing.{called_in, cancelled_at, cancelled_in, charged_before, charged_by, charged_in, claimed_by, clocked_by, clocked_of, fired_of, idled_in, idles_already, is_deadline_at, lag_started_at, lag_started_in, lagged_by, met_by, met_in, migrated_by, moved_in, out_in, passed_in, passing_by, ran_by, ran_in, replenish_started_at, replenish_started_in, returned_in, run_kept, started_at, started_in, suspected_by, suspected_in, switched_at, told_by_charge, woken_as, woken_behind, woken_by, woken_in}
use Rattle.timer_record.specs.Records.{EventLine, begun_in, come_in, come_until, is_due, kept_with, place_of, told_in}
use Rattle.timer_record.specs.Timers.{started_after, with_line_of, with_start_of, with_wake_of}
use Rattle.timer_record.specs.Moments.{calling_of, returned_of, switched_of}

come_keeps : (x : TaskNote) (k : Kept) → (come_in x k).kept ≡ k.kept
unfolding come_in
come_keeps x k = refl

until_keeps_by : (at : ℕ) (xs : List TaskNote) (k m : Kept) (b : Bool) → (come_until at xs m).kept ≡ m.kept → m.kept ≡ k.kept → (if b then come_until at xs m else k).kept ≡ k.kept
until_keeps_by at xs k m true rest same = rest ∙ same
until_keeps_by at xs k m false rest same = refl

pub until_keeps : (at : ℕ) (xs : List TaskNote) (k : Kept) → (come_until at xs k).kept ≡ k.kept
until_keeps at [] k = refl
until_keeps at (x ∷ xs) k =
    let m : Kept = come_in x (record k { come = k.come + 1 }) in
    until_keeps_by at xs k m (is_due at x) (until_keeps at xs m) (come_keeps x (record k { come = k.come + 1 }))

-- at most one line more than so many
abbrev AtMostOne : ℕ → Kept → Type 0
AtMostOne n k = length k.kept ≤ n + 1

abbrev Has : ℕ → Kept → Type 0
Has n k = length k.kept ≡ n

keeps_one : (n : ℕ) (place : KeptPlace) (event : KeptEvent) (k : Kept) → Has n k → AtMostOne n (keeps place event k)
keeps_one n place event k has =
    let x : KeptLine = record { line = place.line; at = place.at; cpu = place.cpu; is_idle = place.is_idle; event = event } in
    omega (arith, length-append k.kept (x ∷ []))

none_more : (n : ℕ) (k : Kept) → Has n k → AtMostOne n k
none_more n k has = omega arith

if_one : (n : ℕ) (b : Bool) (k m : Kept) → AtMostOne n k → AtMostOne n m → AtMostOne n (if b then k else m)
if_one n true k m one other = one
if_one n false k m one other = other

if_has : (n : ℕ) (b : Bool) (k m : Kept) → Has n k → Has n m → Has n (if b then k else m)
if_has n true k m one other = one
if_has n false k m one other = other

idled_one : (n : ℕ) (place : KeptPlace) (k : Kept) → Has n k → AtMostOne n (idled_in place k)
unfolding idled_in
idled_one n place k has = if_one n (k.wants_idle && place.is_idle && not (idles_already place.cpu k.kept)) (keeps place Idles k) k (keeps_one n place Idles k has) (none_more n k has)

-- what changes no kept line
before_has : (n cpu : ℕ) (b : Before) (k : Kept) → Has n k → Has n (before_is cpu b k)
unfolding before_is
before_has n cpu b k has = has

passing_has : (n : ℕ) (o : Option ℕ) (f : Passing → Passing) (k : Kept) → Has n k → Has n (passing_by o f k)
passing_has n (Some t) f k has = has
passing_has n None f k has = has

placed_has_by : (n : ℕ) (o : Option TimerPlace) (a : ℕ) (k : Kept) → Has n k → Has n (placed_by o a k)
placed_has_by n (Some t) a k has = has
placed_has_by n None a k has = has

placed_has : (n a : ℕ) (k : Kept) → Has n k → Has n (placed_in a k)
unfolding placed_in
placed_has n a k has = placed_has_by n (k.places a) a k has

handed_has_by : (n : ℕ) (b : Bool) (a : ℕ) (there : TimerPlace) (k : Kept) → Has n k → Has n (handed_by b a there k)
handed_has_by n true a there k has = has
handed_has_by n false a there k has = has

handed_has : (n a : ℕ) (there : TimerPlace) (k : Kept) → Has n k → Has n (handed_in a there k)
unfolding handed_in
handed_has n a there k has = handed_has_by n (is_left_at there.timer k) a there k has

claimed_has : (n : ℕ) (b : Before) (t : ℕ) (k : Kept) → Has n k → Has n (claimed_by b t k)
claimed_has n (before.Started timer) t k has = if_has n (is_deadline_at t k) (with_timer (λ x. with_wake_of x t) timer k) k has has
claimed_has n (before.Charged task) t k has = has
claimed_has n before.Nothing t k has = has

met_has_by : (n : ℕ) (o : Option ℕ) (line pid : ℕ) (k : Kept) → Has n k → Has n (met_by o line pid k)
met_has_by n (Some f) line pid k has = has
met_has_by n None line pid k has = has

met_has : (n line pid : ℕ) (k : Kept) → Has n k → Has n (met_in line pid k)
unfolding met_in
met_has n line pid k has = met_has_by n (k.strangers pid) line pid k has

suspected_has_by : (n : ℕ) (o : Option ℕ) (pid : ℕ) (k : Kept) → Has n k → Has n (suspected_by o pid k)
suspected_has_by n (Some l) pid k has = has
suspected_has_by n None pid k has = has

suspected_has : (n pid : ℕ) (k : Kept) → Has n k → Has n (suspected_in pid k)
unfolding suspected_in
suspected_has n pid k has = suspected_has_by n (k.strangers pid) pid k has

lagged_has : (n : ℕ) (o : Option ℕ) (pid timer : ℕ) (k : Kept) → Has n k → Has n (lagged_by o pid timer k)
lagged_has n (Some t) pid timer k has = has
lagged_has n None pid timer k has = suspected_has n pid k has

-- the clock of a wake may change
changed_length_by : (o : Option KeptLine) (f : KeptLine → KeptLine) (i : ℕ) (xs : List KeptLine) → length (changed_by o f i xs) ≡ length xs
changed_length_by (Some x) f i xs = length-set xs i (f x)
changed_length_by None f i xs = refl

clocked_length : (o : Option ℕ) (at nanos : ℕ) (xs : List KeptLine) → length (clocked_by o at nanos xs) ≡ length xs
clocked_length (Some w) at nanos xs = changed_length_by (slice_get xs w) (clocked_of at nanos) w xs
clocked_length None at nanos xs = refl

charged_has_by : (n : ℕ) (o : Option Passing) (t at nanos : ℕ) (k : Kept) → Has n k → Has n (charged_by o t at nanos k)
charged_has_by n (Some p) t at nanos k has = clocked_length p.woken at nanos k.kept ∙ has
charged_has_by n None t at nanos k has = has

charged_has : (n t at nanos : ℕ) (k : Kept) → Has n k → Has n (charged_in t at nanos k)
unfolding charged_in
charged_has n t at nanos k has = charged_has_by n (slice_get k.passing t) t at nanos k has

-- each event
woken_one_by : (n : ℕ) (o : Option ℕ) (place : KeptPlace) (pid : ℕ) (deadline : Bool) (cpu : ℕ) (b : Before) (k : Kept) → Has n k → AtMostOne n (woken_by o place pid deadline cpu b k)
unfolding woken_as
woken_one_by n None place pid deadline cpu b k has =
    if_one n deadline (idled_in place (met_in place.line pid k)) (keeps place (OtherWoken cpu) k) (idled_one n place (met_in place.line pid k) (met_has n place.line pid k has)) (keeps_one n place (OtherWoken cpu) k has)
woken_one_by n (Some t) place pid deadline cpu b k has =
    let m : Kept = claimed_by b t k in
    let same : Has n m = claimed_has n b t k has in
    if_one n deadline (woken_as place t cpu m) (keeps place (OtherWoken cpu) m)
    (keeps_one n place (Woken t cpu place.at) (with_passing (λ p. record p { woken = Some (length m.kept) }) t m) same) (keeps_one n place (OtherWoken cpu) m same)

woken_one : (n : ℕ) (place : KeptPlace) (pid : ℕ) (deadline : Bool) (cpu : ℕ) (k : Kept) → Has n k → AtMostOne n (woken_in place pid deadline cpu k)
unfolding woken_behind
woken_one n place pid deadline cpu k has =
    let m : Kept = before_is place.cpu before.Nothing k in
    woken_one_by n (m.numbers pid) place pid deadline cpu (k.before place.cpu) m (before_has n place.cpu before.Nothing k has)

moved_one_by : (n : ℕ) (o : Option ℕ) (place : KeptPlace) (deadline : Bool) (cpu : ℕ) (k : Kept) → Has n k → AtMostOne n (migrated_by o place deadline cpu k)
moved_one_by n (Some t) place deadline cpu k has = if_one n deadline (keeps place (Migrated t cpu) k) (idled_in place k) (keeps_one n place (Migrated t cpu) k has) (idled_one n place k has)
moved_one_by n None place deadline cpu k has = idled_one n place k has

moved_one : (n : ℕ) (place : KeptPlace) (pid : ℕ) (deadline : Bool) (cpu : ℕ) (k : Kept) → Has n k → AtMostOne n (moved_in place pid deadline cpu k)
unfolding moved_in
moved_one n place pid deadline cpu k has = moved_one_by n (k.numbers pid) place deadline cpu k has

ran_one_by : (n : ℕ) (o : Option ℕ) (place : KeptPlace) (nanos : ℕ) (k : Kept) → Has n k → AtMostOne n (ran_by o place nanos k)
unfolding run_kept
ran_one_by n None place nanos k has = idled_one n place (before_is place.cpu before.Nothing k) (before_has n place.cpu before.Nothing k has)
ran_one_by n (Some t) place nanos k has =
    let m : Kept = charged_in t place.at nanos k in
    let b : Before = told_by_charge t (is_deadline_at t m) in
    keeps_one n place (Ran t nanos) (before_is place.cpu b m) (before_has n place.cpu b m (charged_has n t place.at nanos k has))

ran_one : (n : ℕ) (place : KeptPlace) (pid nanos : ℕ) (k : Kept) → Has n k → AtMostOne n (ran_in place pid nanos k)
unfolding ran_in
ran_one n place pid nanos k has = ran_one_by n (k.numbers pid) place nanos k has

switched_one : (n : ℕ) (place : KeptPlace) (pid : ℕ) (deadline : Bool) (stop : Stop) (idle : Bool) (k : Kept) → Has n k → AtMostOne n (switched_at place pid deadline stop idle k)
unfolding switched_at
switched_one n place pid deadline stop idle k has =
    let number : Option ℕ = k.numbers pid in
    let m : Kept = out_in number deadline stop k in
    let same : Has n m = passing_has n number (λ p. switched_of p deadline stop) k has in
    if_one n (is_none number && not (deadline && idle)) (idled_in place m) (keeps place (Switched number deadline stop idle) m) (idled_one n place m same) (keeps_one n place (Switched number deadline stop idle) m same)

lag_one : (n : ℕ) (place : KeptPlace) (pid address expires : ℕ) (k : Kept) → Has n k → AtMostOne n (lag_started_in place pid address expires k)
unfolding lag_started_in lag_started_at
lag_one n place pid address expires k has =
    let m : Kept = placed_in address k in let timer : ℕ = (place_in address k).timer in
    keeps_one n place (ZeroLagStarted timer (m.numbers pid) expires) (lagged_by (m.numbers pid) pid timer m) (lagged_has n (m.numbers pid) pid timer m (placed_has n address k has))

replenish_one : (n : ℕ) (place : KeptPlace) (address expires : ℕ) (k : Kept) → Has n k → AtMostOne n (replenish_started_in place address expires k)
unfolding replenish_started_in started_at replenish_started_at
replenish_one n place address expires k has =
    let p : Kept = placed_in address k in let first : TimerPlace = place_in address k in
    let m : Kept = handed_in address first p in let there : TimerPlace = handed_to first p in
    let charged : Option ℕ = charged_before (m.before place.cpu) in
    let t : Kept = with_timer (λ x. started_after x charged) there.timer (with_address (λ x. with_start_of x place.cpu (expires - place.at) charged) there.address m) in
    keeps_one n place (ReplenishStarted there.timer expires) (before_is place.cpu (before.Started there.timer) t)
    (before_has n place.cpu (before.Started there.timer) t (handed_has n address first p (placed_has n address k has)))

cancelled_one : (n : ℕ) (place : KeptPlace) (address : ℕ) (k : Kept) → Has n k → AtMostOne n (cancelled_in place address k)
unfolding cancelled_in cancelled_at
cancelled_one n place address k has =
    let m : Kept = placed_in address k in let there : TimerPlace = place_in address k in
    let t : Kept = with_address with_line_of there.address m in
    let same : Has n t = placed_has n address k has in
    if_one n m.wants_cancels (keeps place (Cancelled there.timer) t) t (keeps_one n place (Cancelled there.timer) t same) (none_more n t same)

fired_one : (n : ℕ) (place : KeptPlace) (address : ℕ) (f : TimerFunction) (k : Kept) → Has n k → AtMostOne n (fired_of place address f k)
unfolding fired_of
fired_one n place address ZeroLag k has =
    let there : TimerPlace = place_in address k in
    keeps_one n place (ZeroLagFired there.timer) (with_address with_line_of there.address (placed_in address k)) (placed_has n address k has)
fired_one n place address Replenish k has =
    let there : TimerPlace = place_in address k in
    keeps_one n place (ReplenishFired there.timer) (with_address with_line_of there.address (placed_in address k)) (placed_has n address k has)
fired_one n place address Other k has = none_more n k has

started_one : (n : ℕ) (place : KeptPlace) (pid timer : ℕ) (f : TimerFunction) (expires : ℕ) (k : Kept) → Has n k → AtMostOne n (started_in place pid timer f expires k)
started_one n place pid timer ZeroLag expires k has = lag_one n place pid timer expires (before_is place.cpu before.Nothing k) (before_has n place.cpu before.Nothing k has)
started_one n place pid timer Replenish expires k has = replenish_one n place timer expires k has
started_one n place pid timer Other expires k has = none_more n (before_is place.cpu before.Nothing k) (before_has n place.cpu before.Nothing k has)

passed_one : (n : ℕ) (place : KeptPlace) (pid : ℕ) (fixed : Fixed) (k : Kept) → Has n k → AtMostOne n (passed_in place pid fixed k)
passed_one n place pid (said.Woken woken deadline cpu) k has = woken_one n place woken deadline cpu k has
passed_one n place pid (said.Migrated moved deadline cpu) k has = moved_one n place moved deadline cpu (before_is place.cpu before.Nothing k) (before_has n place.cpu before.Nothing k has)
passed_one n place pid (said.Ran charged nanos) k has = ran_one n place charged nanos k has
passed_one n place pid (said.Switched stopped deadline stop next next_deadline) k has =
    switched_one n (record place { is_idle = place.is_idle || (stopped == 0) }) stopped deadline stop (next == 0) (before_is place.cpu before.Nothing k) (before_has n place.cpu before.Nothing k has)
passed_one n place pid (said.TimerStarted timer f expires) k has = started_one n place pid timer f expires k has
passed_one n place pid (said.TimerCancelled timer) k has = cancelled_one n place timer k has
passed_one n place pid (said.TimerFired timer f tick now) k has = fired_one n place timer f (before_is place.cpu before.Nothing k) (before_has n place.cpu before.Nothing k has)
passed_one n place pid said.PolicyCalled k has = none_more n (before_is place.cpu before.Nothing (called_in pid k)) (before_has n place.cpu before.Nothing (called_in pid k) (passing_has n (k.numbers pid) calling_of k has))
passed_one n place pid said.PolicyReturned k has = none_more n (before_is place.cpu before.Nothing (returned_in pid k)) (before_has n place.cpu before.Nothing (returned_in pid k) (passing_has n (k.numbers pid) returned_of k has))

-- a line adds at most one to those that are kept
pub with_one_more : (e : EventLine) (k : Kept) → length (kept_with e k).kept ≤ length k.kept + 1
unfolding kept_with begun_in told_in
with_one_more e k =
    let m : Kept = record k { begins = Some (unwrap_or k.begins e.at); ends = e.at; count = counted k.count } in
    passed_one (length k.kept) (place_of e) e.pid e.fixed (come_until e.at (drop m.come m.notes) m) (ap length (until_keeps e.at (drop m.come m.notes) m))
