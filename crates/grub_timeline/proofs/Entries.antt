-- One more entry of a player.
use Rattle.std.proofs.Common.{◌≡◌, ℕ, ◌+◌, ◌<◌, ◌≤◌, List, [], ◌∷◌, ◌++◌, Option, Some, None, length, refl, sym, ap, ◌∙◌, subst, arith, append_assoc}
use Rattle.std.specs.FinMap as map
use Rattle.std.proofs.lemmas.Grind.{common_steps}
use Rattle.std.proofs.lemmas.List.Elements.{All-push}
use Rattle.grub_book.specs.Machine.{Machine}
use Rattle.grub_book.specs.Sums.{Records, reading_of}
use Rattle.grub_book.specs.Step.{step}
use Rattle.grub_book.specs.Op.{IsOp}
use Rattle.grub_book.specs.History.{IsLegal, book_of}
use Rattle.grub_book.specs.declared.op.Op.{Op}
use Rattle.grub_book.specs.declared.reply.Reply.{Reply}
use Rattle.grub_book.specs.declared.event.Reading.{Reading}
use Rattle.grub_book.specs.declared.event.Event.{Event}
use Rattle.grub_book.specs.declared.event.Event.TheVariants as events
use Rattle.grub_book.proofs.Histories.{book_push, legal_push}
use Rattle.grub_plan.specs.declared.entry.Ask.TheVariants.{Call, Read}
use Rattle.grub_plan.specs.declared.entry.Answer.TheVariants.{Replied, Seen}
use Rattle.grub_plan.specs.Plans.{IsAskOf}
use Rattle.grub_plan.specs.Answers.{IsAnswered, event_told}
use Rattle.grub_plan.specs.declared.entry.Entry.{Entry}
use Rattle.grub_wheel.specs.TimerBag.{TimerBag, WheelState}
use Rattle.grub_plan.specs.Keeping.{places_of}
use Rattle.grub_plan.specs.inside.Keeping.{IsKept}
use Rattle.grub_plan.proofs.Alarms.{few_timers}
use Rattle.grub_timeline.specs.declared.told.ToldEntry.{ToldEntry}
use Rattle.grub_timeline.specs.TimeLines.{AreAnswered, AreWithin, entries_of, history_of}
use Rattle.grub_timeline.specs.inside.TimeLines.{told_of}
use Rattle.grub_timeline.specs.inside.Playing.{IsKnown}

pub entries_more : (xs : List ToldEntry) (x : ToldEntry) → entries_of (xs ++ x ∷ []) ≡ entries_of xs ++ x.entry ∷ []
entries_more xs x = grind (arith, common_steps)

pub history_more : (xs : List ToldEntry) (x : ToldEntry) → history_of (xs ++ x ∷ []) ≡ history_of xs ++ event_told x.runqueue x.entry.ask x.entry.answer
history_more xs x = grind (arith, common_steps)

known_event : (s : Machine) (was now : Records) (old new : List ToldEntry) (x : ToldEntry) (e : Event) → IsKnown s was old → new ≡ old ++ x ∷ [] → event_told x.runqueue x.entry.ask x.entry.answer ≡ e ∷ []
    → IsAnswered x.entry.ask x.entry.answer → x.runqueue < length s.queues → IsAskOf (length s.tasks) x.entry.ask
    → (IsLegal s (history_of old) → IsLegal s (history_of old ++ e ∷ [])) → now ≡ book_of s (history_of old ++ e ∷ []) → IsKnown s now new
known_event s was now old new x e known list is answered queue task goes then =
    let more : history_of new ≡ history_of old ++ e ∷ [] = ap history_of list ∙ history_more old x ∙ ap (λ es. history_of old ++ es) is in record {
      legal = subst (IsLegal s) (sym more) (goes known.legal);
      book = then ∙ ap (book_of s) (sym more);
      answered = subst AreAnswered (sym list) (All-push (λ (k : ToldEntry). IsAnswered k.entry.ask k.entry.answer) old x known.answered answered);
      within = subst (AreWithin s) (sym list) (All-push (λ (k : ToldEntry). (k.runqueue < length s.queues) × IsAskOf (length s.tasks) k.entry.ask) old x known.within (queue, task));
    }

-- a call that the book answered
pub known_call : (s : Machine) (was now : Records) (old new : List ToldEntry) (r m t : ℕ) (op : Op) (reply : Reply) → IsKnown s was old → r < length s.queues → t < length s.tasks → IsOp s op → (now, reply) ≡ step s was t op
    → new ≡ old ++ told_of r m (Call t op) (Replied reply) ∷ [] → IsKnown s now new
known_call s was now old new r m t op reply known queue task fits is list =
    let h = history_of old in
    let at : (now, reply) ≡ step s (book_of s h) t op = is ∙ ap (λ b. step s b t op) known.book in
    known_event s was now old new (told_of r m (Call t op) (Replied reply)) (events.Call r t op reply) known list refl tt queue task
    (λ legal. legal_push s h (events.Call r t op reply) legal (task, fits, sym (ap (λ p. p.1) at)))
    (ap (λ p. p.0) at ∙ sym (book_push s h (events.Call r t op reply)))

-- a reading of the book
pub known_look : (s : Machine) (book : Records) (old new : List ToldEntry) (r m : ℕ) (reading : Reading) → IsKnown s book old → r < length s.queues → reading ≡ reading_of book r → new ≡ old ++ told_of r m Read (Seen reading) ∷ [] → IsKnown s book new
known_look s book old new r m reading known queue is list =
    let h = history_of old in
    known_event s book book old new (told_of r m Read (Seen reading)) (events.Look r r reading) known list refl tt queue tt
    (λ legal. legal_push s h (events.Look r r reading) legal (queue, sym (is ∙ ap (λ b. reading_of b r) known.book)))
    (known.book ∙ sym (book_push s h (events.Look r r reading)))

-- one more of the latest entries
pub chunk_more : (start then was old now new : List ToldEntry) (x : ToldEntry) → then ≡ start → old ≡ start ++ was → now ≡ was ++ x ∷ [] → new ≡ old ++ x ∷ [] → new ≡ then ++ now
chunk_more start then was old now new x same tied more list = list ∙ ap (λ l. l ++ x ∷ []) tied ∙ append_assoc start was (x ∷ []) ∙ ap (λ l. start ++ l) (sym more) ∙ ap (λ l. l ++ now) (sym same)

-- ---- the places of the timers
pub few_armed : (s : Machine) (entries : List Entry) (timers : TimerBag) → IsKept s entries timers → map.len timers ≤ length s.tasks
few_armed s entries timers kept = few_timers (length s.tasks) timers (λ t past. none t past (map.get timers t) refl)
  where
    none : (t : ℕ) → length s.tasks ≤ t → (o : Option (ℕ × ℕ)) → map.get timers t ≡ o → map.get timers t ≡ None
    none t past None is = is
    none t past (Some p) is =
        let low = kept.tasks t _ (sym (kept.armed_are t) ∙ is) in
        absurd (omega (arith, past, low))

pub room_for_one : (s : Machine) (entries : List Entry) (w : WheelState) → IsKept s entries w.timers → length s.tasks + 1 ≤ places_of w → (now : WheelState) → now ≡ w → 1 ≤ now.spare
room_for_one s entries w kept places now same =
    let few = few_armed s entries w.timers kept in let spare = ap (λ (v : WheelState). v.spare) same in
    omega (arith, few, places, spare)
