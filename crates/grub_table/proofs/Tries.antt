-- What the steps of a call under a claim tell together.
use Rattle.std.proofs.Common.{◌≡◌, ℕ, ◌+◌, ◌<◌, ◌≤◌, Bool, true, false, List, [], ◌∷◌, length, sym, refl, ap, ◌∙◌, subst, arith, Option, Some, None}
use Rattle.std.proofs.lemmas.Bool.{both_ways}
use Rattle.grub_book.specs.Bandwidth.{Capacity, bandwidth_of}
use Rattle.grub_book.specs.Server.{charge_of, depleted_of}
use Rattle.grub_book.specs.declared.server.Server.{Server}
use Rattle.grub_book.specs.Op.{IsOp}
use Rattle.grub_book.specs.History.{HasChanged, pass_of}
use Rattle.grub_book.specs.Sound.{IsKept}
use Rattle.grub_book.specs.Step.{early, refused, settled, charged, changes_sum, is_under_claim, runqueue_of, LooksAtQueue}
use Rattle.grub_book.specs.declared.event.Event.TheVariants.{Call}
use Rattle.grub_book.specs.declared.event.Reading.{Reading}
use Rattle.grub_book.specs.declared.op.Op.{Op}
use Rattle.grub_book.specs.declared.op.Op.TheVariants.{Join, Wake, Block, Leave, Timer, Exit, Charge, Retune}
use Rattle.grub_book.specs.declared.place.Record.{Record}
use Rattle.grub_book.specs.declared.reply.Reply.{Reply}
use Rattle.grub_book.proofs.Changes.{changed_none, changed_more}
use Rattle.grub_book.proofs.Histories.{starts_whole}
use Rattle.grub_table.specs.declared.claim.Claim.{Claim}
use Rattle.grub_table.specs.declared.pass.Pass.{Pass}
use Rattle.grub_table.specs.declared.shared.Shared.{Shared}
use Rattle.grub_table.specs.declared.seated.Seated.{Seated}
use Rattle.grub_table.specs.declared.answer.Finished.{Finished}
use Rattle.grub_table.specs.declared.answer.Finished.TheVariants.{Done, Held}
use Rattle.grub_table.specs.declared.view.Mark.{Mark}
use Rattle.grub_table.specs.declared.view.Mark.TheVariants.{Given}
use Rattle.grub_table.specs.declared.view.Share.{Share}
use Rattle.grub_table.specs.declared.view.Stored.{Stored}
use Rattle.grub_table.specs.inside.Between.{HoldsFor, HoldsMade, Tells}
use Rattle.grub_table.specs.Calls.{seen, marks, share_on, share_of, ComesFrom, claim_share, claim_queue, claim_changes_sum, IsClaimOf, IsDone, IsLost, IsFinished}
use Rattle.grub_table.specs.Histories.{WasBefore, record_in}
use Rattle.grub_table.specs.Knowing.{GoesOn, Learns}
use Rattle.grub_table.specs.inside.Layout.{stored_of}
use Rattle.grub_table.specs.Marks.{AreLawful, marker_of}
use Rattle.grub_table.specs.inside.Tellings.{is_decided_at_load, Finishes, MarksGo, Calls, Gives}
use Rattle.grub_table.specs.inside.Tries.{is_charge, Tried}
use Rattle.grub_table.proofs.Growths.{goes_none, learns_none, learns_twice}

-- ---- the ops
or_charge : (b : Bool) → (b ≡ false → false ≡ true) → b ≡ true
or_charge true f = refl
or_charge false f = let g = f refl in absurd cc

-- a charge is decided at the load of the runqueue's word
charge_decided : (x : Record) (dq : ℕ) (o : Option (ℕ × Server)) → is_decided_at_load (charged x dq o).1 ≡ true
charge_decided x dq None = refl
charge_decided x dq (Some (k, s)) = refl

pub lost_changes : (queue : Capacity) (now : Reading) (x : Record) (op : Op) → (changes_sum x op ≡ false → is_charge op ≡ true) → is_decided_at_load (settled x queue now op).1 ≡ false → changes_sum x op ≡ true
lost_changes queue now x (Charge r dt) about off = let dq = charge_of dt (bandwidth_of x.params) queue now.running now.this in absurd (both_ways _ off (charge_decided x dq (depleted_of x.server x.params dq)))
lost_changes queue now x (Join r m) about off = refl
lost_changes queue now x Leave about off = refl
lost_changes queue now x (Timer ticket m) about off = refl
lost_changes queue now x (Wake r m) about off = or_charge (changes_sum x (Wake r m)) about
lost_changes queue now x (Block r m) about off = or_charge (changes_sum x (Block r m)) about
lost_changes queue now x (Retune q p) about off = or_charge (changes_sum x (Retune q p)) about
lost_changes queue now x Exit about off = or_charge (changes_sum x Exit) about

-- an op that changes no sum, and is no charge, looks at no runqueue
pub quiet_blind : (x : Record) (op : Op) → changes_sum x op ≡ false → is_charge op ≡ false → ¬ LooksAtQueue x.place op
quiet_blind x (Join r m) quiet off looks = absurd cc
quiet_blind x (Wake r m) quiet off looks = looks
quiet_blind x (Block r m) quiet off looks = looks
quiet_blind x (Charge r dt) quiet off looks = absurd cc
quiet_blind x Leave quiet off looks = looks
quiet_blind x (Timer ticket m) quiet off looks = looks
quiet_blind x (Retune q p) quiet off looks = both_ways _ quiet looks
quiet_blind x Exit quiet off looks = looks

-- ---- claims
pub claim_holds : (s : Shared) (c : Claim) → IsClaimOf s c → HoldsFor s c.seated c.task c.op c.held
claim_holds s c is = record {
  seat_of = is.of.seat;
  hold = c.holds;
  task = is.task;
  op = is.op;
  kept = is.kept;
  unrefused = is.unrefused;
}

-- ---- the ends of calls
-- the claim's call is made with this outcome, and these words of its task are stored
pub record IsMade (s : Shared) (c : Claim) (p : Record × Reply) (stored : Stored) (mid : Seated) : Type 0 where
  pub holds : HoldsMade s mid c.task p.0 stored
  pub number : (share_on mid).number ≡ (claim_share c).number
  pub marks : (share_on mid).marks ≡ (claim_share c).marks
  pub calls : Calls s.terms (claim_share c) c.task c.op p.1 (share_on mid)
  pub was : WasBefore s.terms c.task c.held (Call (claim_share c).number c.task c.op p.1) (share_on mid).seen
  pub kept : IsKept s.terms.setup p.0
  pub claimed : is_under_claim p.1 ≡ true

module _ (s : Shared) (c : Claim) (is : IsClaimOf s c) where
  abbrev mine : Share
  mine = claim_share c

  -- by a try
  pub tried : (p : Record × Reply) (mid : Seated) → Tells s (Tried (claim_queue c) (Some p)) c.seated mid → IsMade s c p (stored_of c.held) mid
  tried p mid tells =
      let w = tells.of c.task c.op c.held c.holds in record {
        holds = record { seat_of = tells.seat; task = is.task; hold = (c.held, w.1.0.1) };
        number = tells.number;
        marks = w.0;
        calls = w.1.0.0;
        was = w.1.0.2;
        kept = w.1.1;
        claimed = w.1.2;
      }

  -- and then the task is given back
  pub done : (p : Record × Reply) (stored : Stored) (mid : Seated) → IsMade s c p stored mid → (tries : ℕ) (q : Pass) → seen q ≡ (share_on mid).seen → Tells s (Gives c.task) mid q.seated → (claim_changes_sum c ≡ true → 1 ≤ tries) → IsDone s c tries q p.1
  done p stored mid made tries q same gives tried =
      let f : Finishes s.terms mine.number mine.seen (Call mine.number c.task c.op p.1) (seen q) = subst (λ h. Finishes s.terms mine.number mine.seen (Call mine.number c.task c.op p.1) h) (sym same) made.calls in
      let g : MarksGo s.terms.passes mine.number mine.marks (marks q) (Given mine.number c.task ∷ []) =
      subst (λ (m : ℕ × List Mark). MarksGo s.terms.passes m.0 m.1 (marks q) (Given m.0 c.task ∷ [])) (λ i. (made.number i, made.marks i)) gives.of.1 in
      record {
        of = record { seat = gives.seat; history = f.0; lawful = g.0 };
        learns = record { number = gives.number ∙ made.number; seen = f.1; marked = g.1 };
        before = subst (λ h. WasBefore s.terms c.task c.held (Call mine.number c.task c.op p.1) h) (sym same) made.was;
        claimed = made.claimed;
        tried = tried;
      }

  -- an exchange was lost
  pub lost : (mid : Seated) (d : Claim) → d.seated ≡ mid → d.task ≡ c.task → d.op ≡ c.op → d.held ≡ c.held → Tells s (Tried (claim_queue c) None) c.seated mid → IsLost s c 1 d
  lost mid d seat_is task_is op_is held_is tells =
      let y : Share = share_on mid in
      let w = tells.of c.task c.op c.held c.holds in
      let same : (claim_share d).marks ≡ mine.marks = ap (λ (u : Seated). (share_on u).marks) seat_is ∙ w.0 in
      let number : (claim_share d).number ≡ mine.number = ap (λ (u : Seated). (share_on u).number) seat_is ∙ tells.number in
      record {
        still = record {
          of = record {
            of = subst (ComesFrom s) (sym seat_is) (record { seat = tells.seat; history = w.1.0.0; lawful = subst (AreLawful s.terms.passes) (sym w.0) is.of.lawful });
            task = subst (λ t. t < length s.terms.setup.tasks) (sym task_is) is.task;
            op = subst (IsOp s.terms.setup) (sym op_is) is.op;
            held = ap (λ (p : Seated × ℕ). record_in s.terms (share_on p.0).seen p.1) (λ i. (seat_is i, task_is i)) ∙ w.1.2 ∙ sym held_is;
            kept = subst (IsKept s.terms.setup) (sym held_is) is.kept;
            unrefused = ap (λ (p : Record × Op). refused p.0.place p.0.count p.1) (λ i. (held_is i, op_is i)) ∙ is.unrefused;
            timely = ap (λ (p : Record × Op). early p.0 p.1) (λ i. (held_is i, op_is i)) ∙ is.timely;
          };
          task = task_is;
          op = op_is;
          held = held_is;
          marks = same;
        };
        learns = record {
          number = number;
          seen = subst (λ (u : Seated). GoesOn pass_of mine.number mine.seen (share_on u).seen []) (sym seat_is) w.1.0.1;
          marked = subst (λ ms. GoesOn marker_of mine.number mine.marks ms []) (sym same) (goes_none marker_of mine.number mine.marks);
        };
        sum = w.1.4;
        changes = subst (λ (u : Seated). HasChanged s.terms.setup (claim_queue c) mine.seen (share_on u).seen 1) (sym seat_is) w.1.3;
      }

  pub lost_none : claim_changes_sum c ≡ true → IsLost s c 0 c
  lost_none sum = record {
    still = record { of = is; task = refl; op = refl; held = refl; marks = refl };
    learns = learns_none mine;
    sum = sum;
    changes = changed_none s.terms.setup (claim_queue c) mine.seen mine.seen (starts_whole mine.seen);
  }

-- ---- tries, one after another
lost_done : (s : Shared) (c d : Claim) (n m : ℕ) (q : Pass) (reply : Reply) → IsLost s c n d → IsDone s d m q reply → IsDone s c (n + m) q reply
lost_done s c d n m q reply a b =
    let same = a.still in record {
      of = b.of;
      learns = learns_twice (claim_share c) (claim_share d) (share_of q) [] (Call (claim_share c).number c.task c.op reply ∷ []) [] (Given (claim_share c).number c.task ∷ []) a.learns
          (subst (λ (p : ℕ × ℕ × Op). Learns (claim_share d) (share_of q) (Call p.0 p.1 p.2 reply ∷ []) (Given p.0 p.1 ∷ [])) (λ i. (a.learns.number i, same.task i, same.op i)) b.learns);
      before = subst (λ (p : ℕ × ℕ × Op × Record). WasBefore s.terms p.1 p.3 (Call p.0 p.1 p.2 reply) (seen q)) (λ i. (a.learns.number i, same.task i, same.op i, same.held i)) b.before;
      claimed = b.claimed;
      tried = λ sum. let one = b.tried (ap (λ (p : Record × Op). changes_sum p.0 p.1) (λ i. (same.held i, same.op i)) ∙ sum) in omega (arith, one);
    }

lost_lost : (s : Shared) (c d e : Claim) (n m : ℕ) → IsLost s c n d → IsLost s d m e → IsLost s c (n + m) e
lost_lost s c d e n m a b =
    let x = a.still in
    let y = b.still in record {
      still = record { of = y.of; task = y.task ∙ x.task; op = y.op ∙ x.op; held = y.held ∙ x.held; marks = y.marks ∙ x.marks };
      learns = learns_twice (claim_share c) (claim_share d) (claim_share e) [] [] [] [] a.learns b.learns;
      sum = a.sum;
      changes = changed_more s.terms.setup (claim_queue c) (claim_share c).seen (claim_share d).seen (claim_share e).seen n m a.changes
          (subst (λ (p : Record × Op). HasChanged s.terms.setup (runqueue_of p.0.place p.1) (claim_share d).seen (claim_share e).seen m) (λ i. (x.held i, x.op i)) b.changes);
    }

pub tried_more : (s : Shared) (c d : Claim) (n m : ℕ) (r : Finished) → IsLost s c n d → IsFinished s d m r → IsFinished s c (n + m) r
tried_more s c d n m (Done q reply) a b = lost_done s c d n m q reply a b
tried_more s c d n m (Held e) a b = lost_lost s c d e n m a b
