-- Ops that were asked one after another.
use Rattle.std.proofs.Common.{◌≡◌, ℕ, ◌+◌, ◌<◌, ◌++◌, ◌∷◌, [], List, length, get_or, set, take, drop, sym, ap, refl, ◌∙◌, arith}
use Rattle.std.proofs.lemmas.List.{take_more, take_more_set, drop-set-lt, drop_more}
use Rattle.std.proofs.lemmas.List.Sums.{fold_push}
use Rattle.grub_book.specs.Machine.{Machine}
use Rattle.grub_book.specs.Sums.{Records}
use Rattle.library_book.specs.Memory.{records_of, IsBook}
use Rattle.library_book.specs.Answer.{answer}
use Rattle.library_book.specs.Batch.{answered, answered_all, replies_to}
use Rattle.library_book.specs.declared.asked.NdAsk.{NdAsk}
use Rattle.library_book.specs.declared.asked.NdReply.{NdReply}
use Rattle.library_book.specs.declared.memory.NdTask.{NdTask}
use Rattle.library_book.specs.declared.memory.NdRunqueue.{NdRunqueue}

-- the memory is the book after these asks, and these are the replies
pub record Asked (s : Machine) (start : Records) (asks : List NdAsk) (tasks : List NdTask) (queues : List NdRunqueue) (given : List NdReply) : Type 0 where
  pub book : IsBook s tasks queues
  pub records : records_of tasks ≡ answered_all s start asks
  pub replies : given ≡ replies_to s start asks

replies_push : (s : Machine) (start : Records) (asks : List NdAsk) (ask : NdAsk) → replies_to s start (asks ++ ask ∷ []) ≡ replies_to s start asks ++ (answer s (answered_all s start asks) ask.task ask.op).1 ∷ []
replies_push s start [] ask = refl
replies_push s start (first ∷ asks) ask = ap (λ rs. (answer s start first.task first.op).1 ∷ rs) (replies_push s (answered s start first) asks ask)

-- one more
pub asked_more : (s : Machine) (start : Records) (asks : List NdAsk) (i : ℕ) (d : NdAsk) (was now : List NdTask) (queues after : List NdRunqueue) (replies : List NdReply) (reply : NdReply)
    → i < length asks → i < length replies → Asked s start (take i asks) was queues (take i replies) → IsBook s now after
    → (records_of now, reply) ≡ answer s (records_of was) (get_or asks i d).task (get_or asks i d).op
    → Asked s start (take (i + 1) asks) now after (take (i + 1) (set replies i reply))
asked_more s start asks i d was now queues after replies reply there room before book is =
    let ask = get_or asks i d in
    let so_far = answered_all s start (take i asks) in
    let outcome : (records_of now, reply) ≡ answer s so_far ask.task ask.op = is ∙ ap (λ (b : Records). answer s b ask.task ask.op) before.records in
    let next : take (i + 1) asks ≡ take i asks ++ ask ∷ [] = take_more asks i d there in
    record {
      book = book;
      records = ap (λ p. p.0) outcome ∙ sym (fold_push (answered s) start (take i asks) ask) ∙ ap (answered_all s start) (sym next);
      replies =
          take_more_set replies i reply room ∙ ap (λ rs. rs ++ reply ∷ []) before.replies ∙ ap (λ r. replies_to s start (take i asks) ++ r ∷ []) (ap (λ p. p.1) outcome)
          ∙ sym (replies_push s start (take i asks) ask) ∙ ap (replies_to s start) (sym next);
    }

-- what is past the next place stays
pub rest_more : (replies old : List NdReply) (i : ℕ) (reply : NdReply) → i < length replies → i < length old → drop i replies ≡ drop i old → drop (i + 1) (set replies i reply) ≡ drop (i + 1) old
rest_more replies old i reply there room same =
    let a : drop i replies ≡ get_or replies i reply ∷ drop (i + 1) replies = drop_more replies i reply there in
    let b : drop i old ≡ get_or old i reply ∷ drop (i + 1) old = drop_more old i reply room in
    let both : get_or replies i reply ∷ drop (i + 1) replies ≡ get_or old i reply ∷ drop (i + 1) old = sym a ∙ same ∙ b in
    drop-set-lt (i + 1) replies i reply (omega arith) ∙ ap (λ (xs : List NdReply). drop 1 xs) both
