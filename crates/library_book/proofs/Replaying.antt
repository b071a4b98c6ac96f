-- A recorded history, replayed event by event.
use Rattle.std.proofs.Common.{◌≡◌, ℕ, ◌+◌, ◌<◌, ◌++◌, ◌∷◌, [], List, length, get_or, take, sym, ap, subst, ◌∙◌}
use Rattle.std.proofs.lemmas.List.{take_more}
use Rattle.std.proofs.lemmas.List.Sums.{fold_push}
use Rattle.grub_book.specs.Machine.{Machine}
use Rattle.grub_book.specs.Sums.{Records}
use Rattle.library_book.specs.Memory.{records_of, IsBook}
use Rattle.library_book.specs.Recorded.{IsOfBook, IsRecordedFrom, book_after, book_recorded}
use Rattle.library_book.specs.declared.asked.NdEvent.{NdEvent}
use Rattle.library_book.specs.declared.memory.NdTask.{NdTask}
use Rattle.library_book.specs.declared.memory.NdRunqueue.{NdRunqueue}

-- the memory is the book after these events, which are the book's
pub record Replayed (s : Machine) (start : Records) (xs : List NdEvent) (tasks : List NdTask) (queues : List NdRunqueue) : Type 0 where
  pub book : IsBook s tasks queues
  pub legal : IsRecordedFrom s start xs
  pub records : records_of tasks ≡ book_recorded s start xs

recorded_push : (s : Machine) (start : Records) (xs : List NdEvent) (x : NdEvent) → IsRecordedFrom s start xs → IsOfBook s (book_recorded s start xs) x → IsRecordedFrom s start (xs ++ x ∷ [])
recorded_push s start [] x all one = (one, tt)
recorded_push s start (y ∷ xs) x all one = (all.0, recorded_push s (book_after s start y) xs x all.1 one)

recorded_last : (s : Machine) (start : Records) (xs : List NdEvent) (x : NdEvent) → IsRecordedFrom s start (xs ++ x ∷ []) → IsOfBook s (book_recorded s start xs) x
recorded_last s start [] x all = all.0
recorded_last s start (y ∷ xs) x all = recorded_last s (book_after s start y) xs x all.1

module _ (s : Machine) (start : Records) (xs : List NdEvent) (i : ℕ) (d : NdEvent) (there : i < length xs) (was : List NdTask) (queues : List NdRunqueue) (so_far : Replayed s start (take i xs) was queues) where
  next : take (i + 1) xs ≡ take i xs ++ get_or xs i d ∷ []
  next = take_more xs i d there

  -- an event that is the book's
  pub replayed_more : (now : List NdTask) (later : List NdRunqueue) → IsBook s now later → IsOfBook s (records_of was) (get_or xs i d) → records_of now ≡ book_after s (records_of was) (get_or xs i d)
      → Replayed s start (take (i + 1) xs) now later
  replayed_more now later book is then_is =
      record {
        book = book;
        legal = subst (IsRecordedFrom s start) (sym next) (recorded_push s start (take i xs) (get_or xs i d) so_far.legal (subst (λ (b : Records). IsOfBook s b (get_or xs i d)) so_far.records is));
        records = then_is ∙ ap (λ (b : Records). book_after s b (get_or xs i d)) so_far.records ∙ sym (fold_push (book_after s) start (take i xs) (get_or xs i d)) ∙ sym (ap (book_recorded s start) next);
      }

  -- and one that is not
  pub replayed_no_more : ¬ IsOfBook s (records_of was) (get_or xs i d) → ¬ IsRecordedFrom s start (take (i + 1) xs)
  replayed_no_more wrong recorded =
      let last = recorded_last s start (take i xs) (get_or xs i d) (subst (IsRecordedFrom s start) next recorded) in
      wrong (subst (λ (b : Records). IsOfBook s b (get_or xs i d)) (sym so_far.records) last)
