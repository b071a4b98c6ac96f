-- The answers of `start`, `finish` and `cancel`, put together to one call.
use Rattle.std.proofs.Common.{◌≡◌, ℕ, ◌<◌, ◌⊎◌, length, Some, refl, sym, subst, arith}
use Rattle.grub_book.specs.declared.op.Op.{Op}
use Rattle.grub_book.specs.declared.reply.Reply.{Reply}
use Rattle.grub_book.specs.Op.{IsOp}
use Rattle.library_book.specs.Asked.{op_of, plain_reply, reply_of}
use Rattle.library_book.specs.declared.asked.NdOp.{NdOp}
use Rattle.library_book.specs.declared.asked.NdReply.{NdReply}
use Rattle.grub_table.specs.Accesses.{StartsBriefly}
use Rattle.grub_table.specs.Calls.{terms, IsStarted, IsFinished, IsWithin, IsCancelled, accesses, started_accesses}
use Rattle.grub_table.specs.Layout.{task_word_at}
use Rattle.grub_table.specs.declared.answer.Sighting.{Sighting}
use Rattle.grub_table.specs.declared.answer.Started.{Started}
use Rattle.grub_table.specs.declared.answer.Started.TheVariants as started
use Rattle.grub_table.specs.declared.answer.Finished.{Finished}
use Rattle.grub_table.specs.declared.answer.Finished.TheVariants as finished
use Rattle.grub_table.specs.declared.claim.Claim.{Claim}
use Rattle.grub_table.specs.declared.pass.Pass.{Pass}
use Rattle.grub_table.specs.declared.shared.Shared.{Shared}
use Rattle.neddwyrol_table.specs.Called.{EndsBy, GoesBy, WasAsked, WasCalled, WasCalledBy, table_of}
use Rattle.neddwyrol_table.specs.inside.Answered.{AnswersAsk, AnswersOp, IsMadeBy, IsNotMadeBy}
use Rattle.neddwyrol_table.specs.declared.calls.TheConstants.{BUSY, LOST}
use Rattle.neddwyrol_table.specs.declared.held.Kept.{Kept}

module _ (s : Shared) (p : Pass) (t : ℕ) (it : Op) (tries : ℕ) (b : Started) (begun : IsStarted s p t it b) (brief : StartsBriefly (task_word_at (terms s).setup t) (accesses p) (started_accesses b)) where
  pub called_answered : (q : Pass) (x : Reply) → b ≡ started.Answered q x → WasCalled s p t it tries (reply_of x) q
  called_answered q x is = (b, begun, brief, subst (λ (z : Started). GoesBy s tries z (reply_of x) q) (sym is) (refl, refl))

  pub called_busy : (q : Pass) (x : Sighting) → b ≡ started.Busy q x → WasCalled s p t it tries (plain_reply BUSY) q
  called_busy q x is = (b, begun, brief, subst (λ (z : Started). GoesBy s tries z (plain_reply BUSY) q) (sym is) (refl, refl))

  module _ (c : Claim) (is : b ≡ started.Held c) (f : Finished) (ended : IsFinished s c tries f) (within : IsWithin c tries f) where
    pub called_done : (q : Pass) (x : Reply) → f ≡ finished.Done q x → WasCalled s p t it tries (reply_of x) q
    called_done q x done =
        let ends : EndsBy s f (reply_of x) q = subst (λ (z : Finished). EndsBy s z (reply_of x) q) (sym done) (refl, refl) in
        (b, begun, brief, subst (λ (z : Started). GoesBy s tries z (reply_of x) q) (sym is) (f, ended, within, ends))

    pub called_lost : (d : Claim) (q : Pass) → f ≡ finished.Held d → IsCancelled s d q → WasCalled s p t it tries (plain_reply LOST) q
    called_lost d q lost back =
        let ends : EndsBy s f (plain_reply LOST) q = subst (λ (z : Finished). EndsBy s z (plain_reply LOST) q) (sym lost) (refl, back) in
        (b, begun, brief, subst (λ (z : Started). GoesBy s tries z (plain_reply LOST) q) (sym is) (f, ended, within, ends))

-- the call with a reply is that with the same one by another name
pub called_with : (s : Shared) (p : Pass) (t : ℕ) (it : Op) (tries : ℕ) (reply other : NdReply) (q : Pass) → reply ≡ other → WasCalled s p t it tries other q → WasCalled s p t it tries reply q
called_with s p t it tries reply other q is = subst (λ (z : NdReply). WasCalled s p t it tries z q) (sym is)

-- what the op of plain numbers is answered is what these are
pub answers_ask : (s : Shared) (t : ℕ) (op : NdOp) (tries : ℕ) (reply : NdReply) (p q : Pass) (found : Op) → t < length (terms s).setup.tasks → op_of op ≡ Some found
    → AnswersOp s t found tries reply p q → AnswersAsk s t op tries reply p q
answers_ask s t op tries reply p q found here is a =
    let same : (it : Op) → op_of op ≡ Some it → found ≡ it = λ it asked. cc in
    let fits : (it : Op) → op_of op ≡ Some it → IsOp (terms s).setup it → IsOp (terms s).setup found = λ it asked. subst (λ (o : Op). IsOp (terms s).setup o) (sym (same it asked)) in
    record {
      made = λ it _ asked ok. subst (λ (o : Op). IsMadeBy t o reply p q ⊎ IsNotMadeBy reply p q) (same it asked) (a.made (fits it asked ok));
      called = λ it _ asked ok. subst (λ (o : Op). WasCalled s p t o tries reply q) (same it asked) (a.called (fits it asked ok));
      no_task = λ none. absurd (omega (arith, here, none));
      no_op = λ _ none. a.no_op (none found is);
    }

-- what a pass was answered is what the handle was that keeps it
module _ (s : Shared) (p q : Pass) (k l : Kept) (t : ℕ) (op : NdOp) (tries : ℕ) (reply : NdReply) (home : s ≡ table_of k) (before : p ≡ k.pass) (after : q ≡ l.pass) (told : AnswersAsk s t op tries reply p q) where
  by_handle : AnswersAsk (table_of k) t op tries reply k.pass l.pass
  by_handle =
      let at_home : AnswersAsk (table_of k) t op tries reply p q = subst (λ (z : Shared). AnswersAsk z t op tries reply p q) home told in
      let first : AnswersAsk (table_of k) t op tries reply k.pass q = subst (λ (z : Pass). AnswersAsk (table_of k) t op tries reply z q) before at_home in
      subst (λ (z : Pass). AnswersAsk (table_of k) t op tries reply k.pass z) after first

  pub asked_by_handle : WasAsked t op reply k l
  asked_by_handle = record { asked = by_handle.made; no_task = by_handle.no_task; no_op = by_handle.no_op }

  pub called_by_handle : WasCalledBy t op tries reply k l
  called_by_handle = by_handle.called
