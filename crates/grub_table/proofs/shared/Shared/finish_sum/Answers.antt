use Rattle.std.proofs.Common.{◌≡◌, ℕ, suc, ◌+◌, ◌-◌, ◌<◌, ◌++◌, ap, subst, ◌∙◌, append_assoc, arith}
use Rattle.grub_book.specs.Step.{runqueue_of}
use Rattle.grub_book.specs.declared.op.Op.{Op}
use Rattle.grub_book.specs.declared.place.Record.{Record}
use Rattle.grub_table.specs.declared.claim.Claim.{Claim}
use Rattle.grub_table.specs.declared.shared.Shared.{Shared}
use Rattle.grub_table.specs.declared.answer.Finished.{Finished}
use Rattle.grub_table.specs.declared.answer.Finished.TheVariants.{Done, Held}
use Rattle.grub_table.specs.Accesses.{lost_tries}
use Rattle.grub_table.specs.Calls.{claim_accesses, claim_queue, IsFinished, IsLost, IsWithin}
use Rattle.grub_table.specs.Layout.{queue_word_at}
use Rattle.grub_table.proofs.Brief.{lost_on}
use Rattle.grub_table.proofs.Tries.{tried_more}
use Rattle.grub_table.proofs.shared.Shared.finish_sum.Goals as goal

-- ---- one that is lost, and then so many
module _ (s : Shared) (c d : Claim) (n : ℕ) (some : 0 < n) (lost : IsLost s c 1 d) (one : IsWithin c 1 (Held d)) where
  whole : 1 + (n - 1) ≡ n
  whole = omega (arith, some)

  more_finished : (r : Finished) → IsFinished s d (n - 1) r → IsFinished s c n r
  more_finished r f = subst (λ k. IsFinished s c k r) whole (tried_more s c d 1 (n - 1) r lost f)

  queue : queue_word_at (claim_queue d) ≡ queue_word_at (claim_queue c)
  queue = ap (λ (p : Record × Op). queue_word_at (runqueue_of p.0.place p.1)) (λ k. (lost.still.held k, lost.still.op k))

  more_within : (r : Finished) → IsWithin d (n - 1) r → IsWithin c n r
  more_within (Done q reply) w = lost_on (queue_word_at (claim_queue c)) (queue_word_at (claim_queue d)) 1 n _ _ _ _ _ queue one (omega (arith, some)) lost.sum w
  more_within (Held e) w =
      w ∙ ap (λ u. claim_accesses d ++ lost_tries u (n - 1)) queue ∙ ap (λ l. l ++ lost_tries (queue_word_at (claim_queue c)) (n - 1)) one
      ∙ append_assoc (claim_accesses c) (lost_tries (queue_word_at (claim_queue c)) 1) (lost_tries (queue_word_at (claim_queue c)) (n - 1))
      ∙ ap (λ k. claim_accesses c ++ lost_tries (queue_word_at (claim_queue c)) k) (suc_of n some)
    where
      suc_of : (n : ℕ) → 0 < n → suc (n - 1) ≡ n
      suc_of n some = omega (arith, some)

-- ---- the answers
pub returns-in-Held-clause-finished : goal.returns-in-Held-clause-finished
returns-in-Held-clause-finished c =
    let left = c.if-tries-eq0.false in
    more_finished c.args.self.now c.args.claim c.in-Held.back c.args.tries (omega (arith, left)) c.in-Held.ensures.finished c.in-Held.ensures.within c.try_on.result c.try_on.ensures.finished

pub returns-in-Held-clause-within : goal.returns-in-Held-clause-within
returns-in-Held-clause-within c =
    let left = c.if-tries-eq0.false in
    more_within c.args.self.now c.args.claim c.in-Held.back c.args.tries (omega (arith, left)) c.in-Held.ensures.finished c.in-Held.ensures.within c.try_on.result c.try_on.ensures.within
