use Rattle.std.proofs.Common.{refl, sym, ap, ◌∙◌, ◌≡◌, ◌≢◌, ℕ, ◌<◌, false, Option, Some, None, Ok, [], ◌∷◌, length, subst, inl, inr, ⊎_elim}
use Rattle.grub_table.specs.Words.{task_word, PlaceFits}
use Rattle.grub_table.proofs.Brief.{starts_at_load, starts_lost, starts_held, starts_early}
use Rattle.grub_book.specs.Op.{IsOp}
use Rattle.grub_book.specs.Sound.{IsKept}
use Rattle.grub_book.specs.Step.{early, refused}
use Rattle.grub_book.specs.declared.event.Event.TheVariants.{Call}
use Rattle.grub_book.specs.declared.op.Op.{Op}
use Rattle.grub_book.specs.declared.place.Record.{Record}
use Rattle.grub_book.specs.declared.reply.Reply.{Reply}
use Rattle.grub_book.proofs.Claims.{refused_outside}
use Rattle.grub_book.proofs.Histories.{starts_whole}
use Rattle.grub_table.specs.declared.task.TaskWord.{TaskWord}
use Rattle.grub_table.specs.declared.claim.Claim.{Claim}
use Rattle.grub_table.specs.declared.pass.Pass.{Pass}
use Rattle.grub_table.specs.declared.shared.Shared.{Shared}
use Rattle.grub_table.specs.declared.seated.Seated.{Seated}
use Rattle.grub_table.specs.declared.answer.Sighting.TheVariants.{Changed}
use Rattle.grub_table.specs.declared.view.Hold.TheVariants.{Free, Undecided, Decided}
use Rattle.grub_table.specs.declared.view.Mark.TheVariants.{Taken, Given}
use Rattle.grub_table.specs.declared.view.Share.{Share}
use Rattle.grub_table.specs.declared.view.Terms.{Terms}
use Rattle.grub_table.specs.inside.Between.{HoldsFor, HoldsMade, Tells, SawTask, SawRecord}
use Rattle.grub_table.specs.Calls.{share_on, share_of, marks, ComesFrom, number_of, IsAnswered, IsTaken, IsBusy, IsSighting, marks_of_call, seen}
use Rattle.grub_table.specs.Histories.{record_in}
use Rattle.grub_table.specs.Knowing.{GoesOn, Learns}
use Rattle.grub_table.specs.Layout.{shown}
use Rattle.grub_table.specs.inside.Layout.{stored_of}
use Rattle.grub_table.specs.Marks.{marker_of}
use Rattle.grub_table.specs.inside.Tellings.{Grows, Finishes, MarksGo, Sees, Calls, CallsIf, DecidesIf, IsOthers, TookClaim, Gives}
use Rattle.grub_table.proofs.Growths.{sees_after, calls_after, marks_both}
use Rattle.grub_table.proofs.Starts.{outside_marks, outside_soon, early_is, word_says}
use Rattle.grub_table.proofs.shared.Shared.start.Goals as goal

-- ---- the returns of `start`
module _ (s : Shared) (p : Pass) (t : ℕ) (op : Op) where
  abbrev T : Terms
  T = s.terms

  abbrev i : ℕ
  i = number_of p

  abbrev x : Share
  x = share_of p

  -- what the task's word says decides the call
  answered : (q : Pass) (w : TaskWord) (reply : Reply) → Tells s (SawTask t op (Ok w)) p.seated q.seated → refused w.place w.count op ≡ Some reply → IsAnswered s p t op q reply
  answered q w reply told is =
      let outside = refused_outside w.place w.count op reply is in
      let f : Calls T x t op reply (share_of q) = subst (λ o. CallsIf o T x t op (share_of q)) is told.of.2.3 in
      record {
        of = record { seat = told.seat; history = f.0; lawful = told.of.1.0 };
        learns = record { number = told.number; seen = f.1; marked = subst (λ l. GoesOn marker_of i (marks p) (marks q) l) (sym (outside_marks i t reply outside)) told.of.1.1 };
        last = f.2;
        soon = outside_soon reply outside;
      }

  -- the seat after the load of the word, and after the try to take the task
  module _ (w : TaskWord) (unclaimed : w.claimed ≡ false) (one : Seated) (looked : Tells s (SawTask t op (Ok w)) p.seated one) (o : Option Reply) (refuses : o ≡ refused w.place w.count op) (none : o ≡ None) (old found : ℕ) (packs : old ≡ task_word w.place w.count w.claimed) (two : Seated) (took : Tells s (TookClaim (record { task = t; op = op }) (task_word w.place w.count false) found) one two) where
    abbrev x1 : Share
    x1 = share_on one

    abbrev x2 : Share
    x2 = share_on two

    free : refused w.place w.count op ≡ None
    free = sym refuses ∙ none

    was : old ≡ task_word w.place w.count false
    was = packs ∙ ap (task_word w.place w.count) unclaimed

    grows1 : Grows T i x.seen x1.seen
    grows1 = subst (λ o. CallsIf o T x t op x1) free looked.of.2.3

    number1 : x1.number ≡ i
    number1 = looked.number

    grows2 : Grows T i x1.seen x2.seen
    grows2 = subst (λ n. Grows T n x1.seen x2.seen) number1 took.of.0

    grows : Grows T i x.seen x2.seen
    grows = sees_after T x x1 x2 number1 grows1 took.of.0

    marked1 : MarksGo T.passes i x.marks x1.marks []
    marked1 = looked.of.1

    loaded_is : old ≡ shown (record_in T x1.seen t) false
    loaded_is = was ∙ (λ k. task_word (looked.of.2.0 k) (looked.of.2.1 k) false)

    number2 : x2.number ≡ i
    number2 = took.number ∙ number1

    -- the word had changed
    busy_changed : (q : Pass) → q.seated ≡ two → found ≢ old → IsBusy s p t q (Changed old found)
    busy_changed q seat other =
        let miss = took.of.2 (λ e. other (e ∙ sym was)) in
        let marked2 = subst (λ n. MarksGo T.passes n x1.marks x2.marks []) number1 miss.1 in
        let marked = marks_both T.passes i x.marks x1.marks x2.marks [] [] marked1 marked2 in
        let sight : IsSighting T i t x.seen x2.seen x2.marks (Changed old found) = record {
          differ = other;
          at_load = x1.seen;
          not_before = grows1.1.starts;
          known_then = grows2.1.starts;
          loaded_word = loaded_is;
          found_word = ⊎_elim
              (λ (o : IsOthers T x1.number t found x2). let c = subst (λ n. IsOthers T n t found x2) number1 o in inl (record { was = c.0; held = c.1 }))
              (λ (f : found ≡ shown (record_in T x2.seen t) false). inr (x2.seen, grows2.1.starts, starts_whole x2.seen, f))
              miss.2;
        } in
        record {
          of = subst (ComesFrom s) (sym seat) (record { seat = took.seat; history = grows.0; lawful = marked.0 });
          learns = subst (λ (z : Seated). Learns x (share_on z) [] []) (sym seat) (record { number = number2; seen = grows.1; marked = marked.1 });
          sight = subst (λ (z : Seated). IsSighting T i t x.seen (share_on z).seen (share_on z).marks (Changed old found)) (sym seat) sight;
        }

    free_changed : x.hold ≡ Free → found ≢ old → x2.hold ≡ Free
    free_changed none other = (took.of.2 (λ e. other (e ∙ sym was))).0 ∙ looked.of.0 ∙ none

    -- the task is taken
    module _ (hit : found ≡ old) (fits : PlaceFits w.place) (lt : t < length T.setup.tasks) (is_op : IsOp T.setup op) where
      abbrev taken : Record
      taken = (took.of.1 (hit ∙ was)).0

      says : (w.place ≡ taken.place) × (w.count ≡ taken.count)
      says = let h = took.of.1 (hit ∙ was) in word_says s w taken fits h.3 h.2

      unrefused : refused taken.place taken.count op ≡ None
      unrefused = (λ k. refused (sym says.0 k) (sym says.1 k) op) ∙ free

      holds : HoldsFor s two t op taken
      holds = let h = took.of.1 (hit ∙ was) in record { seat_of = took.seat; hold = h.1; task = lt; op = is_op; kept = h.3; unrefused = unrefused }

      to_load : (asked : Op) × (rec : Record) × HoldsFor s two t asked rec × ((w.place ≡ rec.place) × (w.count ≡ rec.count))
      to_load = (op, taken, holds, (says.0, says.1))

      marked2 : MarksGo T.passes i x.marks x2.marks (Taken i t ∷ [])
      marked2 = let h = took.of.1 (hit ∙ was) in marks_both T.passes i x.marks x1.marks x2.marks [] (Taken i t ∷ []) marked1 (subst (λ n. MarksGo T.passes n x1.marks x2.marks (Taken n t ∷ [])) number1 h.5)

      -- the record is loaded
      module _ (held : Record) (three : Seated) (saw : Tells s (SawRecord held) two three) where
        abbrev x3 : Share
        x3 = share_on three

        abbrev known : (held ≡ taken) × (x3.marks ≡ x2.marks) × (record_in T x3.seen t ≡ taken) × DecidesIf (early taken op) T x2 t op taken x3
        known = saw.of t op taken holds.hold

        kept : IsKept T.setup held
        kept = subst (IsKept T.setup) (sym known.0) holds.kept

        number3 : x3.number ≡ i
        number3 = saw.number ∙ number2

        marked3 : MarksGo T.passes i x.marks x3.marks (Taken i t ∷ [])
        marked3 = subst (λ l. MarksGo T.passes i x.marks l (Taken i t ∷ [])) (sym known.1) marked2

        undecided : early held op ≡ None → Sees T x2 x3 × (x3.hold ≡ Undecided t op taken)
        undecided late = subst (λ o. DecidesIf o T x2 t op taken x3) (ap (λ z. early z op) (sym known.0) ∙ late) known.3

        decided : (reply : Reply) → early held op ≡ Some reply → Calls T x2 t op reply x3 × (x3.hold ≡ Decided t taken taken (stored_of taken))
        decided reply is = subst (λ o. DecidesIf o T x2 t op taken x3) (ap (λ z. early z op) (sym known.0) ∙ is) known.3

        claim_holds : early held op ≡ None → x3.hold ≡ Undecided t op held
        claim_holds late = (undecided late).1 ∙ ap (Undecided t op) (sym known.0)

        is_taken : (c : Claim) → c.seated ≡ three → c.task ≡ t → c.op ≡ op → c.held ≡ held → early held op ≡ None → IsTaken s p t op c
        is_taken c seat at asked has late =
            let grows' = sees_after T x x2 x3 number2 grows (undecided late).0 in
            record {
              of = record {
                of = subst (ComesFrom s) (sym seat) (record { seat = saw.seat; history = grows'.0; lawful = marked3.0 });
                task = subst (λ u. u < length T.setup.tasks) (sym at) lt;
                op = subst (IsOp T.setup) (sym asked) is_op;
                held = (λ k. record_in T (share_on (seat k)).seen (at k)) ∙ known.2 ∙ sym known.0 ∙ sym has;
                kept = subst (IsKept T.setup) (sym has) kept;
                unrefused = (λ k. let r : Record = (has ∙ known.0) k in refused r.place r.count (asked k)) ∙ unrefused;
                timely = (λ k. early (has k) (asked k)) ∙ late;
              };
              task = at;
              op = asked;
              learns = subst (λ (z : Seated). Learns x (share_on z) [] (Taken i t ∷ [])) (sym seat) (record { number = number3; seen = grows'.1; marked = marked3.1 });
            }

        made_early : (reply : Reply) → early held op ≡ Some reply → HoldsMade s three t held (stored_of held)
        made_early reply is = record {
          seat_of = saw.seat;
          task = lt;
          hold = (taken, (decided reply is).1 ∙ ap (λ z. Decided t taken z (stored_of z)) (sym known.0));
        }

        answered_early : (reply : Reply) → early held op ≡ Some reply → (q : Pass) → seen q ≡ x3.seen → Tells s (Gives t) three q.seated → IsAnswered s p t op q reply
        answered_early reply is q same l =
            let z = early_is held op reply is in
            let f = subst (λ h. Finishes T i x.seen (Call i t op reply) h) (sym same) (calls_after T x x2 x3 t op reply number2 grows (decided reply is).0) in
            let gave = subst (λ n. MarksGo T.passes n x3.marks (marks q) (Given n t ∷ [])) number3 l.of.1 in
            let marked = marks_both T.passes i x.marks x3.marks (marks q) (Taken i t ∷ []) (Given i t ∷ []) marked3 gave in
            record {
              of = record { seat = l.seat; history = f.0; lawful = marked.0 };
              learns = record { number = l.number ∙ number3; seen = f.1; marked = subst (λ r. GoesOn marker_of i x.marks (marks q) (marks_of_call i t r)) (sym z.1) marked.1 };
              last = f.2;
              soon = λ _. z;
            }

-- ---- the answers
pub look_at_task-requires-clause-seat : goal.look_at_task-requires-clause-seat
look_at_task-requires-clause-seat c = c.requires.of.seat

pub look_at_task-requires-clause-free : goal.look_at_task-requires-clause-free
look_at_task-requires-clause-free c = c.args.pass.free

pub look_at_task-requires-clause-note : goal.look_at_task-requires-clause-note
look_at_task-requires-clause-note c = refl

pub returns-in-Err-clause-brief : goal.returns-in-Err-clause-brief
returns-in-Err-clause-brief c = starts_at_load _ _ _ c.in-Err.ensures.made

pub returns-in-Some-clause-brief : goal.returns-in-Some-clause-brief
returns-in-Some-clause-brief c = starts_at_load _ _ _ c.in-Ok.ensures.made

pub returns-then-found-loaded-clause-brief : goal.returns-then-found-loaded-clause-brief
returns-then-found-loaded-clause-brief c = starts_lost _ _ _ _ _ c.in-Ok.ensures.made c.take_claim-found.ensures.made

pub returns-clause-brief : goal.returns-clause-brief
returns-clause-brief c = starts_held _ _ _ _ _ _ _ _ c.in-Ok.ensures.made c.take_claim-found.ensures.made c.load_record-held.ensures.made refl refl

pub take_claim-found-requires-clause-seat : goal.take_claim-found-requires-clause-seat
take_claim-found-requires-clause-seat c = c.in-Ok.ensures.told.seat

pub take_claim-found-requires-clause-free : goal.take_claim-found-requires-clause-free
take_claim-found-requires-clause-free c = c.in-Ok.ensures.told.of.0 ∙ c.args.pass.free

pub take_claim-found-requires-clause-fits : goal.take_claim-found-requires-clause-fits
take_claim-found-requires-clause-fits c = c.in-Ok.ensures.free.0

pub take_claim-found-requires-clause-word : goal.take_claim-found-requires-clause-word
take_claim-found-requires-clause-word c = c.pack_task-loaded.ensures ∙ ap (task_word c.in-Ok.shown.place c.in-Ok.shown.count) c.in-Ok.ensures.free.1

pub returns-in-Some-clause-started : goal.returns-in-Some-clause-started
returns-in-Some-clause-started c = answered c.args.self.now c.args.pass c.args.t c.args.op _ c.in-Ok.shown c.in-Some.reply c.in-Ok.ensures.told (sym c.refusal.ensures ∙ c.in-Some.is)

pub invariant_of-result-then-found-loaded : goal.invariant_of-result-then-found-loaded
invariant_of-result-then-found-loaded c =
    record {
      free = free_changed c.args.self.now c.args.pass c.args.t c.args.op c.in-Ok.shown c.in-Ok.ensures.free.1 c.look_at_task.new.seated c.in-Ok.ensures.told _ c.refusal.ensures c.in_default.is c.pack_task-loaded.result c.take_claim-found.result c.pack_task-loaded.ensures c.take_claim-found.new.seated c.take_claim-found.ensures.told c.args.pass.free c.if-found-loaded.true;
    }

pub returns-then-found-loaded-clause-started : goal.returns-then-found-loaded-clause-started
returns-then-found-loaded-clause-started c =
    busy_changed c.args.self.now c.args.pass c.args.t c.args.op c.in-Ok.shown c.in-Ok.ensures.free.1 c.look_at_task.new.seated c.in-Ok.ensures.told _ c.refusal.ensures c.in_default.is c.pack_task-loaded.result c.take_claim-found.result c.pack_task-loaded.ensures c.take_claim-found.new.seated c.take_claim-found.ensures.told _ refl c.if-found-loaded.true

pub load_record-held-requires : goal.load_record-held-requires
load_record-held-requires c =
    to_load c.args.self.now c.args.pass c.args.t c.args.op c.in-Ok.shown c.in-Ok.ensures.free.1 c.look_at_task.new.seated c.in-Ok.ensures.told _ c.refusal.ensures c.in_default.is c.pack_task-loaded.result c.take_claim-found.result c.pack_task-loaded.ensures c.take_claim-found.new.seated c.take_claim-found.ensures.told c.if-found-loaded.false c.in-Ok.ensures.free.0.place c.requires.task c.requires.op

pub early-requires : goal.early-requires
early-requires c =
    (kept c.args.self.now c.args.pass c.args.t c.args.op c.in-Ok.shown c.in-Ok.ensures.free.1 c.look_at_task.new.seated c.in-Ok.ensures.told _ c.refusal.ensures c.in_default.is c.pack_task-loaded.result c.take_claim-found.result c.pack_task-loaded.ensures c.take_claim-found.new.seated c.take_claim-found.ensures.told c.if-found-loaded.false c.in-Ok.ensures.free.0.place c.requires.task c.requires.op c.load_record-held.result c.load_record-held.new.seated c.load_record-held.ensures.told).server.fits

pub hand_back-pass-requires-clause-held : goal.hand_back-pass-requires-clause-held
hand_back-pass-requires-clause-held c =
    made_early c.args.self.now c.args.pass c.args.t c.args.op c.in-Ok.shown c.in-Ok.ensures.free.1 c.look_at_task.new.seated c.in-Ok.ensures.told _ c.refusal.ensures c.in_default.is c.pack_task-loaded.result c.take_claim-found.result c.pack_task-loaded.ensures c.take_claim-found.new.seated c.take_claim-found.ensures.told c.if-found-loaded.false c.in-Ok.ensures.free.0.place c.requires.task c.requires.op c.load_record-held.result c.load_record-held.new.seated c.load_record-held.ensures.told c.in-Some-early.reply (sym c.early.ensures ∙ c.in-Some-early.is)

pub hand_back-pass-requires-clause-kept : goal.hand_back-pass-requires-clause-kept
hand_back-pass-requires-clause-kept c =
    kept c.args.self.now c.args.pass c.args.t c.args.op c.in-Ok.shown c.in-Ok.ensures.free.1 c.look_at_task.new.seated c.in-Ok.ensures.told _ c.refusal.ensures c.in_default.is c.pack_task-loaded.result c.take_claim-found.result c.pack_task-loaded.ensures c.take_claim-found.new.seated c.take_claim-found.ensures.told c.if-found-loaded.false c.in-Ok.ensures.free.0.place c.requires.task c.requires.op c.load_record-held.result c.load_record-held.new.seated c.load_record-held.ensures.told

pub returns-in-Some-early-clause-started : goal.returns-in-Some-early-clause-started
returns-in-Some-early-clause-started c =
    answered_early c.args.self.now c.args.pass c.args.t c.args.op c.in-Ok.shown c.in-Ok.ensures.free.1 c.look_at_task.new.seated c.in-Ok.ensures.told _ c.refusal.ensures c.in_default.is c.pack_task-loaded.result c.take_claim-found.result c.pack_task-loaded.ensures c.take_claim-found.new.seated c.take_claim-found.ensures.told c.if-found-loaded.false c.in-Ok.ensures.free.0.place c.requires.task c.requires.op c.load_record-held.result c.load_record-held.new.seated c.load_record-held.ensures.told c.in-Some-early.reply (sym c.early.ensures ∙ c.in-Some-early.is) _ c.hand_back-pass.ensures.seen c.hand_back-pass.ensures.told

pub invariant_of-result-2 : goal.invariant_of-result-2
invariant_of-result-2 c =
    record {
      holds = claim_holds c.args.self.now c.args.pass c.args.t c.args.op c.in-Ok.shown c.in-Ok.ensures.free.1 c.look_at_task.new.seated c.in-Ok.ensures.told _ c.refusal.ensures c.in_default.is c.pack_task-loaded.result c.take_claim-found.result c.pack_task-loaded.ensures c.take_claim-found.new.seated c.take_claim-found.ensures.told c.if-found-loaded.false c.in-Ok.ensures.free.0.place c.requires.task c.requires.op c.load_record-held.result c.load_record-held.new.seated c.load_record-held.ensures.told (sym c.early.ensures ∙ c.in_default-early.is);
    }

pub returns-clause-started : goal.returns-clause-started
returns-clause-started c =
    is_taken c.args.self.now c.args.pass c.args.t c.args.op c.in-Ok.shown c.in-Ok.ensures.free.1 c.look_at_task.new.seated c.in-Ok.ensures.told _ c.refusal.ensures c.in_default.is c.pack_task-loaded.result c.take_claim-found.result c.pack_task-loaded.ensures c.take_claim-found.new.seated c.take_claim-found.ensures.told c.if-found-loaded.false c.in-Ok.ensures.free.0.place c.requires.task c.requires.op c.load_record-held.result c.load_record-held.new.seated c.load_record-held.ensures.told _ refl refl refl refl (sym c.early.ensures ∙ c.in_default-early.is)

pub returns-in-Some-early-clause-brief : goal.returns-in-Some-early-clause-brief
returns-in-Some-early-clause-brief c = starts_early _ _ _ c.load_record-held.result.params _ _ _ _ _ _ c.in-Ok.ensures.made c.take_claim-found.ensures.made c.load_record-held.ensures.made c.hand_back-pass.ensures.made refl refl
