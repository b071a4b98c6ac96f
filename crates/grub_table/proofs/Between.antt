-- From what the single steps tell to what is known between the steps of a call.
use Rattle.std.proofs.Common.{◌≡◌, ℕ, ◌<◌, [], ◌∷◌, ◌++◌, length, ap, sym, ◌∙◌, subst, arith}
use Rattle.grub_book.specs.declared.event.Reading.{Reading}
use Rattle.grub_book.specs.declared.place.Record.{Record}
use Rattle.grub_table.specs.Words.{QueueFits}
use Rattle.atomic_table.specs.declared.shared.Seat.{Seat}
use Rattle.grub_table.specs.declared.shared.Shared.{Shared}
use Rattle.grub_table.specs.declared.seated.Seated.{Seated}
use Rattle.grub_table.specs.declared.view.Note.{Note}
use Rattle.grub_table.specs.declared.view.Access.{Access}
use Rattle.grub_table.specs.declared.view.Share.{Share}
use Rattle.grub_table.specs.declared.view.Terms.{Terms}
use Rattle.grub_table.specs.Calls.{share_on, made_on, IsSeatOf}
use Rattle.grub_table.specs.inside.Between.{Tells}
use Rattle.grub_table.specs.Layout.{queue_word_at}
use Rattle.grub_table.specs.inside.Tellings.{Turns, Of, OfQueue, IsReadingFor}
use Rattle.grub_table.specs.declared.view.Trail.{Trail}
use Rattle.grub_table.specs.Trails.{first_made}
use Rattle.grub_table.specs.inside.Trails.{head_made}
use Rattle.grub_table.specs.inside.Trails.{each_after, known, lone, trail}
use Rattle.grub_table.specs.Views.{first_of}
use Rattle.grub_table.specs.inside.Views.{alone}

-- the seat that a step leaves is of the same pass, which has made one access more
module _ (old : Seated) (new : Seat Note Trail) (a : Access) (made : new.me.0.made ≡ each_after old.seat.me.0.made a) where
  made_after : new.me.0.made ≡ (made_on old ++ a ∷ []) ∷ []
  made_after = made ∙ ap (λ m. each_after m.0.made a) old.single

  pub made_more : first_made new.me.0 ≡ made_on old ++ a ∷ []
  made_more = ap head_made made_after

  pub still_single : (P : Terms → Share → Share → Type 0) → Turns {S = Note} P (known old.seat.me) (known new.me) → new.me ≡ (lone (first_of new.me.0.view) (first_made new.me.0), [])
  still_single P t =
      let lists : new.me.0.made ≡ first_made new.me.0 ∷ [] = made_after ∙ sym (ap (λ l. head_made l ∷ []) made_after) in
      let views : known new.me ≡ (alone (first_of new.me.0.view), []) = t.single ∙ ap (λ m. (alone (first_of new.me.0.view), m.1)) old.single in
      λ i. (trail (views i).0 (lists i), (views i).1)

-- what a step tells, in terms of the table's own setup
pub tells_of : (s : Shared) (P : Terms → Share → Share → Type 0) (old new : Seated) → IsSeatOf s old → new.seat.table_id ≡ old.seat.table_id → Turns {S = Note} P (known old.seat.me) (known new.seat.me) → Tells s P old new
tells_of s P old new is same t = record {
  seat = record { home = same ∙ is.home; terms = t.terms ∙ is.terms };
  number = t.number;
  of = subst (λ (T : Terms). P T (share_on old) (share_on new)) is.terms t.told;
}

pub tells_as : (s : Shared) (P Q : Terms → Share → Share → Type 0) (old new : Seated) → Tells s P old new → Q s.terms (share_on old) (share_on new) → Tells s Q old new
tells_as s P Q old new t q = record { seat = t.seat; number = t.number; of = q }

-- what is told of the value in the word that was found
pub value_told : {V : Type 0} (word : V → ℕ) (fits : V → Type 0) (saw : V → Terms → Share → Share → Type 0) → ((a b : V) → fits a → fits b → word a ≡ word b → a ≡ b) → (s : Shared) (v : V) (found : ℕ) (old new : Seated) → Tells s (Of word fits saw found) old new → fits v → word v ≡ found
    → Tells s (saw v) old new
value_told word fits saw one s v found old new told is at =
    let o = told.of in
    tells_as s (Of word fits saw found) (saw v) old new told (subst (λ u. saw u s.terms (share_on old) (share_on new)) (one o.0 v o.1 is (o.2 ∙ sym at)) o.3)

-- what is told of the runqueue whose word it is
pub queue_told : (s : Shared) (r word : ℕ) (P : ℕ → Terms → Share → Share → Type 0) (old new : Seated) → Tells s (OfQueue word P) old new → word ≡ queue_word_at r → Tells s (P r) old new
queue_told s r word P old new told at = tells_as s (OfQueue word P) (P r) old new told (told.of r at)

-- the reading that a claim finds has a word
pub reading_fits_for : (s : Shared) (rec : Record) (r : ℕ) (now : Reading) → r < length s.terms.setup.queues → IsReadingFor s.terms r rec now → QueueFits now
reading_fits_for s rec r now lt is =
    let most = (s.limited.capacities r lt).most.1 in
    let this = is.this in
    record { running = is.running; this = omega arith }
