-- Lines of timers behind the first line of a probe.
use Rattle.std.proofs.Common.{◌≡◌, Bool, true, false, Result, OnOk, refl, sym, ◌∙◌}
use Rattle.std.proofs.lemmas.Result.{on_ok_weaker}
use Rattle.timer_record.specs.Records.{EventLine}
use Rattle.check_record.specs.Seen.{shown_in, timed_in}
use Rattle.check_record.specs.Shown.{Shown, retimed}
use Rattle.check_record.specs.Timed.{event_kept, is_past, kept_unless_past}
use Rattle.check_record.specs.declared.gathering.Gathering.{Gathering}

stays_by : (s : Shown) (e : EventLine) → is_past s.timed ≡ true → s ≡ retimed (kept_unless_past e) s
unfolding kept_unless_past
stays_by s e p = rw p refl

pub past_stays : (g : Gathering) (e : EventLine) (b : Bool) → b ≡ is_past (timed_in g) → b ≡ true → shown_in g ≡ retimed (kept_unless_past e) (shown_in g)
unfolding shown_in
past_stays g e b is past = stays_by (shown_in g) e (sym is ∙ past)

kept_by : (s n : Shown) (e : EventLine) → is_past s.timed ≡ false → n ≡ retimed (event_kept e) s → n ≡ retimed (kept_unless_past e) s
unfolding kept_unless_past
kept_by s n e p kept = rw p kept

pub else_kept : {E T : Type 0} (r : Result T E) (g : Gathering) (n : Shown) (e : EventLine) (b : Bool) → b ≡ is_past (timed_in g) → b ≡ false
    → OnOk r (n ≡ retimed (event_kept e) (shown_in g)) → OnOk r (n ≡ retimed (kept_unless_past e) (shown_in g))
unfolding shown_in
else_kept r g n e b is past kept = on_ok_weaker r (kept_by (shown_in g) n e (sym is ∙ past)) kept
