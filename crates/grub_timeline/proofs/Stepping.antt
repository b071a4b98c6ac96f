-- One step more.
use Rattle.std.proofs.Common.{◌≡◌, ℕ, ◌+◌, ◌<◌, List, [], ◌∷◌, ◌++◌, length, get_or, drop, Some, refl, ◌∙◌, add-one, append_assoc}
use Rattle.std.proofs.Math.Seq.{drop-cons}
use Rattle.grub_book.specs.Machine.{Machine}
use Rattle.grub_book.specs.Sums.{Records, record_at, reading_of}
use Rattle.grub_book.specs.Step.{step}
use Rattle.grub_book.specs.declared.event.Reading.{Reading}
use Rattle.grub_book.specs.declared.op.Op.{Op}
use Rattle.grub_book.specs.declared.place.Record.{Record}
use Rattle.grub_plan.specs.declared.entry.Ask.TheVariants.{Call}
use Rattle.grub_timeline.specs.declared.told.ToldEntry.{ToldEntry}
use Rattle.std.proofs.lemmas.List.Elements.{All-head, All-tail, All-cons, All-from_recursion}
use Rattle.std.specs.List.{All}
use Rattle.grub_timeline.specs.Past.{book_past}
use Rattle.grub_timeline.specs.Replay.{book_after, queue_or, step_of, steps_from}
use Rattle.grub_timeline.specs.declared.book_steps.Step.{Step}

-- a call, by what was kept of its task before and after
pub call_step : (s : Machine) (book then : Records) (x : ToldEntry) (t : ℕ) (op : Op) (before now : Record) (inner queue : ℕ) (reading : Reading)
    → x.entry.ask ≡ Call t op → then ≡ (step s book t op).0 → before ≡ record_at book t → now ≡ record_at then t
    → inner ≡ queue_or before.place x.runqueue → queue ≡ queue_or now.place inner → reading ≡ reading_of then queue
    → record { told = x; change = Some (record { task = t; server = before.server; place = now.place }); queue = queue; reading = reading } ≡ step_of s book x
call_step s book then x t op before now inner queue reading ask then_is before_is now_is inner_is queue_is reading_is =
    rw (ask, reading_is, queue_is, inner_is, now_is, before_is, then_is) refl

-- what is done and what is left, after one entry more
pub next_step : (s : Machine) (book then : Records) (told : List ToldEntry) (i : ℕ) (x : ToldEntry) (done : List Step) (made : Step)
    → i < length told → get_or told i x ≡ x → made ≡ step_of s book x → then ≡ book_after s book x.entry.ask
    → (done ++ made ∷ []) ++ steps_from s then (drop (i + 1) told) ≡ done ++ steps_from s book (drop i told)
next_step s book then told i x done made below item made_is then_is =
    let whole : drop i told ≡ x ∷ drop (i + 1) told = drop-cons told i x below ∙ rw (item, add-one) refl in
    rw (whole, made_is, then_is) (append_assoc done (step_of s book x ∷ []) (steps_from s (book_after s book x.entry.ask) (drop (i + 1) told)))

-- what holds of each entry holds of each step's
pub steps_hold : (P : ToldEntry → Type 0) (s : Machine) (book : Records) (told : List ToldEntry) → All P told → All (λ (x : Step). P x.told) (steps_from s book told)
steps_hold P s book [] all = All-from_recursion (λ (x : Step). P x.told) [] tt
steps_hold P s book (x ∷ told) all =
    All-cons (λ (x : Step). P x.told) (step_of s book x) (steps_from s (book_after s book x.entry.ask) told) (All-head P x told all)
    (steps_hold P s (book_after s book x.entry.ask) told (All-tail P x told all))

-- the book after what is left, less one
pub past_left : (s : Machine) (book then : Records) (i : ℕ) (told : List ToldEntry) (d : ToldEntry) → i < length told
    → then ≡ book_after s book (get_or told i d).entry.ask
    → book_past s then (drop (i + 1) told) ≡ book_past s book (drop i told)
past_left s book then i told d below then_is =
    let whole : drop i told ≡ get_or told i d ∷ drop (i + 1) told = drop-cons told i d below ∙ rw add-one refl in
    rw (whole, then_is) refl
