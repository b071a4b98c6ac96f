-- One round of an ask.
use Rattle.std.proofs.Common.{◌≡◌, ℕ, ◌+◌, true, false, cond, None, List, [], ◌∷◌, ◌++◌, sym, ap, ◌∙◌, subst, ⊎_elim, inl, inr, append-nil}
use mathlib.Core.List.{IsPrefix}
use Rattle.grub_book.specs.Step.{changes_sum, refused, runqueue_of}
use Rattle.grub_book.specs.Sums.{record_at}
use Rattle.grub_book.specs.History.{HasChanged, book_of, calls_of, pass_of, IsLegal}
use Rattle.grub_book.specs.declared.op.Op.{Op}
use Rattle.grub_book.specs.declared.place.Record.{Record}
use Rattle.grub_book.specs.declared.reply.Reply.{Reply}
use Rattle.grub_book.specs.declared.reply.Reply.TheVariants as replies
use Rattle.grub_book.specs.declared.event.Event.{Event}
use Rattle.grub_book.specs.declared.event.Event.TheVariants as events
use Rattle.grub_book.proofs.Histories.{legal_last}
use Rattle.grub_table.specs.declared.view.Mark.{Mark}
use Rattle.grub_table.specs.declared.view.Mark.TheVariants.{Taken, Given}
use Rattle.grub_table.specs.declared.view.Share.{Share}
use Rattle.grub_table.specs.declared.view.Terms.{Terms}
use Rattle.grub_table.specs.declared.pass.Pass.{Pass}
use Rattle.grub_table.specs.declared.claim.Claim.{Claim}
use Rattle.grub_table.specs.declared.shared.Shared.{Shared}
use Rattle.grub_table.specs.declared.answer.Sighting.{Sighting}
use Rattle.grub_table.specs.declared.answer.Sighting.TheVariants.{Claimed, Changed}
use Rattle.grub_table.specs.Layout.{shown}
use Rattle.grub_table.specs.Histories.{IsHistory, EndsWith, record_in}
use Rattle.grub_table.specs.Knowing.{GoesOn, Learns}
use Rattle.grub_table.specs.Calls.{IsTaken, IsBusy, IsDone, IsLost, IsCancelled, IsSighting, IsClaimedSighting, number_of, share_of, claim_share, claim_queue, claim_changes_sum, seen, marks, marks_of_call}
use Rattle.grub_plan.specs.declared.entry.Ask.TheVariants.{Call}
use Rattle.grub_plan.specs.declared.entry.Answer.TheVariants.{Replied, Lost}
use Rattle.grub_workers.specs.declared.asking.AskTurn.{AskTurn}
use Rattle.grub_workers.specs.declared.asking.AskTurn.TheVariants as turns
use Rattle.grub_workers.specs.inside.Evidence.{ShowsHolder}
use Rattle.grub_plan.specs.Keeping.{IsBlockBefore, WaitsRightly}
use Rattle.grub_workers.specs.inside.Working.{IsAsked, machine}
use Rattle.grub_workers.proofs.Others.{calls_between, held_else}
use Rattle.grub_workers.proofs.BetweenRounds.{HasLost, IsFree, IsTurn}
use Rattle.grub_plan.proofs.Waits.{waits_step}

-- ---- what a busy call saw
claimed_shows : (T : Terms) (i t : ℕ) (after : List Event) (known : List Mark) (word : ℕ) → IsClaimedSighting T i t after known word → ShowsHolder i t after known
claimed_shows T i t after known word k = inr (held_else i t known k.held.0 k.held.1 k.held.2)

sight_shows : (T : Terms) (i t : ℕ) (before after : List Event) (known : List Mark) (sighting : Sighting) → IsHistory T after → GoesOn pass_of i before after [] → IsSighting T i t before after known sighting → ShowsHolder i t after known
sight_shows T i t before after known (Claimed word) is g k = claimed_shows T i t after known word k
sight_shows T i t before after known (Changed loaded found) is g k = ⊎_elim
    (λ (h : IsClaimedSighting T i t after known found). claimed_shows T i t after known found h)
    (λ (h : (b : List Event) × IsPrefix k.at_load b × IsPrefix b after × (found ≡ shown (record_in T b t) false)).
    inl (calls_between T.setup i t before after k.at_load h.0 is.legal g.starts (g.own ∙ append-nil (calls_of i before)) k.not_before h.1 h.2
    (λ (same : record_in T k.at_load t ≡ record_in T h.0 t). k.differ (h.3 ∙ ap (λ (x : Record). shown x false) (sym same) ∙ sym k.loaded_word))))
    k.found_word

-- only a block waits, since the history is legal
waits_last : (T : Terms) (i t : ℕ) (op : Op) (reply : Reply) (h : List Event) → IsHistory T h → EndsWith h (events.Call i t op reply) → (ticket z : ℕ) → reply ≡ replies.Waiting ticket z → IsBlockBefore z op
waits_last T i t op reply h is l ticket z e =
    let last = legal_last T.setup l.0 (events.Call i t op reply) (subst (λ k. IsLegal T.setup k) l.1 is.legal) in
    waits_step T.setup (book_of T.setup l.0) t op ticket z (last.2 ∙ e)

-- calls one after another, as the table's law says
abbrev pub TwiceLearned : Type 0
TwiceLearned = (x y z : Share) (a b : List Event) (m n : List Mark) → Learns x y a m → Learns y z b n → Learns x z (a ++ b) (m ++ n)

module _ (learns_twice : TwiceLearned) (s : Shared) (p : Pass) (t : ℕ) (asked : Op) where
  -- ---- after a busy round
  pub busy_round : (round : ℕ) (now q : Pass) (sighting : Sighting) → IsFree s round p t now → IsBusy s now t q sighting → IsFree s (round + 1) p t q
  busy_round round now q sighting a b =
      let g = subst (λ n. GoesOn pass_of n (seen now) (seen q) []) a.learns.number b.learns.seen in
      let sight = subst (λ n. IsSighting s.terms n t (seen now) (seen q) (marks q) sighting) a.learns.number b.sight in record {
        of = b.of;
        learns = learns_twice (share_of p) (share_of now) (share_of q) [] [] [] [] a.learns b.learns;
        busy = λ _. sight_shows s.terms (number_of p) t (seen now) (seen q) (marks q) sighting b.of.history g sight;
      }

  -- ---- a round that took the task
  pub taken_round : (round : ℕ) (now : Pass) (c : Claim) → IsFree s round p t now → IsTaken s now t asked c → IsTaken s p t asked c
  taken_round round now c a b = record {
    of = b.of;
    task = b.task;
    op = b.op;
    learns = learns_twice (share_of p) (share_of now) (claim_share c) [] [] [] (Taken (number_of p) t ∷ []) a.learns (subst (λ n. Learns (share_of now) (claim_share c) [] (Taken n t ∷ [])) a.learns.number b.learns);
  }

  -- it holds the task for its tries, by the claim that it took now, or that the last round left it
  pub holds_taken : (tries round : ℕ) (turn : AskTurn) (now : Pass) (c d : Claim) → turn ≡ turns.Free now → IsTurn s tries round p t asked turn → IsTaken s now t asked c → d ≡ c → IsTaken s p t asked d
  holds_taken tries round turn now c d is was taken same = subst (IsTaken s p t asked) (sym same) (taken_round round now c (subst (IsTurn s tries round p t asked) is was) taken)

  pub holds_left : (tries round : ℕ) (turn : AskTurn) (c d : Claim) → turn ≡ turns.Held c → IsTurn s tries round p t asked turn → d ≡ c → IsTaken s p t asked d
  holds_left tries round turn c d is was same =
      let lost : HasLost s tries p t asked c = subst (IsTurn s tries round p t asked) is was in
      subst (IsTaken s p t asked) (sym same) lost.holding

  -- ---- a round whose tries were lost
  pub lost_round : (tries : ℕ) (c d : Claim) → IsTaken s p t asked c → IsLost s c tries d → HasLost s tries p t asked d
  lost_round tries c d a b =
      let g = subst (λ n. GoesOn pass_of n (claim_share c).seen (claim_share d).seen []) a.learns.number b.learns.seen in
      let same : claim_changes_sum c ≡ claim_changes_sum d = ap (λ (k : Record × Op). changes_sum k.0 k.1) (λ j. (sym b.still.held j, sym b.still.op j)) in
      let queue : claim_queue c ≡ claim_queue d = ap (λ (k : Record × Op). runqueue_of k.0.place k.1) (λ j. (sym b.still.held j, sym b.still.op j)) in record {
        holding = record {
          of = b.still.of;
          task = b.still.task ∙ a.task;
          op = b.still.op ∙ a.op;
          learns = learns_twice (share_of p) (claim_share c) (claim_share d) [] [] (Taken (number_of p) t ∷ []) [] a.learns b.learns;
        };
        sum = sym same ∙ b.sum;
        earlier = (claim_share c).seen;
        none_own = g.own ∙ append-nil (calls_of (number_of p) (claim_share c).seen);
        changes = subst (λ r. HasChanged (machine s) r (claim_share c).seen (claim_share d).seen tries) queue b.changes;
      }

  -- ---- a round that made the call
  pub done_round : (tries tried : ℕ) (c : Claim) (q : Pass) (reply : Reply) → IsTaken s p t asked c → IsDone s c tried q reply → IsAsked s tries p (Call t asked) q (Replied reply)
  done_round tries tried c q reply a b =
      let i = number_of p in
      let made = subst (λ (k : ℕ × ℕ × Op). Learns (claim_share c) (share_of q) (events.Call k.0 k.1 k.2 reply ∷ []) (Given k.0 k.1 ∷ [])) (λ j. (a.learns.number j, a.task j, a.op j)) b.learns in
      let on : marks_of_call i t reply ≡ Taken i t ∷ Given i t ∷ [] = ap (λ k. cond k (Taken i t ∷ Given i t ∷ []) []) b.claimed in record {
        of = b.of;
        learns = subst (λ ms. Learns (share_of p) (share_of q) (events.Call i t asked reply ∷ []) ms) (sym on)
            (learns_twice (share_of p) (claim_share c) (share_of q) [] (events.Call i t asked reply ∷ []) (Taken i t ∷ []) (Given i t ∷ []) a.learns made);
        backed = tt;
      }

  pub done_waits : (tried : ℕ) (c : Claim) (q : Pass) (reply : Reply) → IsTaken s p t asked c → IsDone s c tried q reply → WaitsRightly asked (Replied reply)
  done_waits tried c q reply a b ticket z is =
      let same : reply ≡ replies.Waiting ticket z = cc in
      subst (IsBlockBefore z) a.op (waits_last s.terms (claim_share c).number c.task c.op reply (seen q) b.of.history (b.before.0, b.before.1) ticket z same)

  -- ---- after the last round

  pub gave_up_lost : (tries : ℕ) (c : Claim) (q : Pass) → HasLost s tries p t asked c → IsCancelled s c q → IsAsked s tries p (Call t asked) q Lost
  gave_up_lost tries c q a b =
      let h = a.holding in
      let gave = subst (λ (k : ℕ × ℕ). Learns (claim_share c) (share_of q) [] (Given k.0 k.1 ∷ [])) (λ j. (h.learns.number j, h.task j)) b.learns in
      let found : record_at (book_of (machine s) (claim_share c).seen) t ≡ c.held = ap (record_in s.terms (claim_share c).seen) (sym h.task) ∙ h.of.held in
      let asks : c.op ≡ asked = h.op in record {
        of = b.of;
        learns = learns_twice (share_of p) (claim_share c) (share_of q) [] [] (Taken (number_of p) t ∷ []) (Given (number_of p) t ∷ []) h.learns gave;
        backed = record {
          point = (claim_share c).seen;
          in_history = b.learns.seen.starts;
          x = c.held;
          found = found;
          unrefused = subst (λ o. refused c.held.place c.held.count o ≡ None) asks h.of.unrefused;
          would_change = subst (λ o. changes_sum c.held o ≡ true) asks a.sum;
          earlier = a.earlier;
          none_own = a.none_own;
          changes = subst (λ o. HasChanged (machine s) (runqueue_of c.held.place o) a.earlier (claim_share c).seen tries) asks a.changes;
        };
      }
