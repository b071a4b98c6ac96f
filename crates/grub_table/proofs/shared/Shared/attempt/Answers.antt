use Rattle.std.proofs.Common.{ℕ, ◌≤◌, sym, refl, subst, ◌∙◌, arith}
use Rattle.grub_book.specs.declared.place.Record.{Record}
use Rattle.grub_book.specs.declared.event.Event.{Event}
use Rattle.grub_book.specs.declared.event.Event.TheVariants.{Call}
use Rattle.grub_book.specs.declared.reply.Reply.{Reply}
use Rattle.grub_table.proofs.Bounds.{ServerFits-kept}
use Rattle.grub_table.specs.declared.claim.Claim.{Claim}
use Rattle.grub_table.specs.declared.shared.Shared.{Shared}
use Rattle.grub_table.specs.declared.seated.Seated.{Seated}
use Rattle.grub_table.specs.declared.view.Stored.{Stored}
use Rattle.grub_table.specs.Calls.{claim_share}
use Rattle.grub_table.specs.Histories.{WasBefore}
use Rattle.grub_table.specs.inside.Between.{HoldsMade, Tells}
use Rattle.grub_table.specs.inside.Tellings.{Finishes}
use Rattle.grub_table.specs.inside.Tries.{KnowsNoMore}
use Rattle.grub_table.specs.Layout.{task_word_at}
use Rattle.grub_table.specs.inside.Layout.{server_word_at, params_word_at}
use Rattle.grub_table.proofs.Brief.{made_by_try}
use Rattle.grub_table.proofs.Tries.{IsMade, done, lost, tried}
use Rattle.grub_table.proofs.shared.Shared.attempt.Goals as goal

-- the server's word is stored after the event, where it changes
stored_server : (s : Shared) (c : Claim) (p : Record × Reply) (stored now : Stored) (old new : Seated) → IsMade s c p stored old → Tells s KnowsNoMore old new → HoldsMade s new c.task p.0 now → IsMade s c p now new
stored_server s c p stored now old new made told holds =
    let x = claim_share c in
    let e : Event = Call x.number c.task c.op p.1 in record {
      holds = holds;
      number = told.number ∙ made.number;
      marks = told.of.1 ∙ made.marks;
      calls = subst (Finishes s.terms x.number x.seen e) (sym told.of.0) made.calls;
      was = subst (WasBefore s.terms c.task c.held e) (sym told.of.0) made.was;
      kept = made.kept;
      claimed = made.claimed;
    }

-- ---- the answers
pub invariant_of-result : goal.invariant_of-result
invariant_of-result c =
    let q = c.args.claim in
    let tells = c.in_default.ensures.told in
    record { holds = (tells.of q.task q.op q.held q.holds).1.1 ∙ q.holds }

pub returns-in_default-clause-finished : goal.returns-in_default-clause-finished
returns-in_default-clause-finished c = lost c.args.self.now c.args.claim c.requires.of c.decide.new.seated _ refl refl refl refl c.in_default.ensures.told

pub store_changed_server-requires-clause-held : goal.store_changed_server-requires-clause-held
store_changed_server-requires-clause-held c = (tried c.args.self.now c.args.claim c.requires.of (c.in-Some.next, c.in-Some.reply) c.decide.new.seated c.in-Some.ensures.told).holds

pub store_changed_server-requires-clause-fits : goal.store_changed_server-requires-clause-fits
store_changed_server-requires-clause-fits c =
    let made = tried c.args.self.now c.args.claim c.requires.of (c.in-Some.next, c.in-Some.reply) c.decide.new.seated c.in-Some.ensures.told in
    (ServerFits-kept _ _ made.kept).0

pub hand_back-pass-requires-clause-held : goal.hand_back-pass-requires-clause-held
hand_back-pass-requires-clause-held c = c.store_changed_server.ensures.stored

pub hand_back-pass-requires-clause-kept : goal.hand_back-pass-requires-clause-kept
hand_back-pass-requires-clause-kept c = (tried c.args.self.now c.args.claim c.requires.of (c.in-Some.next, c.in-Some.reply) c.decide.new.seated c.in-Some.ensures.told).kept

pub returns-clause-finished : goal.returns-clause-finished
returns-clause-finished c =
    let made = tried c.args.self.now c.args.claim c.requires.of (c.in-Some.next, c.in-Some.reply) c.decide.new.seated c.in-Some.ensures.told in
    let stored = stored_server c.args.self.now c.args.claim _ _ _ c.decide.new.seated c.store_changed_server.new.seated made c.store_changed_server.ensures.knows c.store_changed_server.ensures.stored in
    done c.args.self.now c.args.claim c.requires.of _ _ c.store_changed_server.new.seated stored 1 _ c.hand_back-pass.ensures.seen c.hand_back-pass.ensures.told (λ _. one)
  where
    one : 1 ≤ 1
    one = omega arith

pub returns-clause-within : goal.returns-clause-within
returns-clause-within c =
    let task = c.args.claim.task in
    let setup = c.args.self.now.terms.setup in
    made_by_try _ (server_word_at setup task) (params_word_at setup task) (task_word_at setup task) c.args.claim.held c.in-Some.next _ (c.in-Some.next, c.in-Some.reply) _ _ _ _ c.in-Some.ensures.made c.store_changed_server.ensures.made c.hand_back-pass.ensures.made
