use Rattle.std.proofs.Common.{◌≡◌, false, sym, ap, ◌∙◌, subst}
use Rattle.std.proofs.lemmas.Bool.{both_ways}
use Rattle.grub_book.specs.Bandwidth.{Capacity}
use Rattle.grub_book.specs.Sound.{IsKept}
use Rattle.grub_book.specs.Step.{settled, is_under_claim}
use Rattle.grub_book.specs.declared.event.Reading.{Reading}
use Rattle.grub_book.specs.declared.place.Record.{Record}
use Rattle.grub_book.specs.declared.reply.Reply.{Reply}
use Rattle.grub_book.proofs.Claims.{settled_under}
use Rattle.grub_book.proofs.Refusals.{settled_alike}
use Rattle.grub_book.proofs.Soundness.{kept_settled}
use Rattle.grub_table.specs.Words.{server_word, params_word}
use Rattle.grub_table.proofs.Bounds.{ServerFits-kept}
use Rattle.grub_table.specs.declared.claim.Claim.{Claim}
use Rattle.grub_table.specs.declared.shared.Shared.{Shared}
use Rattle.grub_table.specs.declared.seated.Seated.{Seated}
use Rattle.grub_table.specs.inside.Between.{Tells}
use Rattle.grub_table.specs.Calls.{share_on, claim_share, claim_changes_sum, IsClaimOf}
use Rattle.grub_table.specs.inside.Tellings.{settled_quietly, Decides, SettledServer}
use Rattle.grub_table.specs.inside.Tries.{is_charge, half_stored}
use Rattle.grub_table.specs.Layout.{task_word_at}
use Rattle.grub_table.specs.inside.Layout.{params_word_at}
use Rattle.grub_table.proofs.Brief.{made_by_store}
use Rattle.grub_table.proofs.Tries.{quiet_blind, claim_holds, IsMade, done}
use Rattle.grub_table.proofs.shared.Shared.finish_quiet.Goals as goal

next_kept : (s : Shared) (c : Claim) (is : IsClaimOf s c) (queue : Capacity) (now : Reading) (p : Record × Reply) → p ≡ settled c.held queue now c.op → IsKept s.terms.setup p.0
next_kept s c is queue now p settles = subst (λ (q : Record × Reply). IsKept s.terms.setup q.0) (sym settles) (kept_settled s.terms.setup queue now c.held c.op is.op is.unrefused is.kept)

-- the call is made by the store of the server word
quietly : (s : Shared) (c : Claim) (is : IsClaimOf s c) (mid : Seated) (queue : Capacity) (now : Reading) (p : Record × Reply) → p ≡ settled c.held queue now c.op → claim_changes_sum c ≡ false → is_charge c.op ≡ false → Tells s (SettledServer (server_word p.0.server)) c.seated mid
    → IsMade s c p (half_stored c.held p.0) mid
quietly s c is mid queue now p settles quiet blind tells =
    let same : p ≡ settled_quietly c.held c.op = settles ∙ settled_alike c.held c.op queue (record { most = 1; extra = 0 }) now (record { running = 0; this = 0 }) (λ looks. absurd (quiet_blind c.held c.op quiet blind looks)) in
    let w = tells.of c.task c.op c.held c.holds in
    let d : Decides s.terms (claim_share c) c.task c.op c.held p (half_stored c.held p.0) (share_on mid) =
    subst (λ (q : Record × Reply). Decides s.terms (claim_share c) c.task c.op c.held q (record { server = server_word p.0.server; params = params_word c.held.params }) (share_on mid)) (sym same) w.1 in
    record {
      holds = record { seat_of = tells.seat; task = is.task; hold = (c.held, d.1) };
      number = tells.number;
      marks = w.0;
      calls = d.0;
      was = d.2;
      kept = next_kept s c is queue now p settles;
      claimed = ap (λ (q : Record × Reply). is_under_claim q.1) settles ∙ settled_under queue now c.held c.op;
    }

abbrev unseen : Reading
unseen = record { running = 0; this = 0 }

-- ---- the answers
pub queue-requires : goal.queue-requires
queue-requires c = c.args.self.now.limited.queues_some

pub settle-reply-requires-clause-not_refused : goal.settle-reply-requires-clause-not_refused
settle-reply-requires-clause-not_refused c = c.requires.of.unrefused

pub settle-reply-requires-clause-fits : goal.settle-reply-requires-clause-fits
settle-reply-requires-clause-fits c = c.requires.of.kept.server.fits

pub settle-reply-requires-clause-count : goal.settle-reply-requires-clause-count
settle-reply-requires-clause-count c = c.requires.of.kept.count

pub settle-reply-requires-clause-fits_a_setup : goal.settle-reply-requires-clause-fits_a_setup
settle-reply-requires-clause-fits_a_setup c = (c.args.self.now.terms.setup, c.requires.of.op)

pub settle_server-requires-clause-held : goal.settle_server-requires-clause-held
settle_server-requires-clause-held c =
    let claim = c.args.claim in
    (claim.op, claim.held, claim_holds c.args.self.now claim c.requires.of, (c.requires.sum, quiet_blind claim.held claim.op c.requires.sum c.requires.charge))

pub settle_server-requires-clause-fits : goal.settle_server-requires-clause-fits
settle_server-requires-clause-fits c = (ServerFits-kept _ _ (next_kept c.args.self.now c.args.claim c.requires.of c.queue.result unseen c.settle-reply.result c.settle-reply.ensures)).0

pub hand_back-pass-requires-clause-held : goal.hand_back-pass-requires-clause-held
hand_back-pass-requires-clause-held c = (quietly c.args.self.now c.args.claim c.requires.of c.settle_server.new.seated c.queue.result unseen c.settle-reply.result c.settle-reply.ensures c.requires.sum c.requires.charge c.settle_server.ensures.told).holds

pub hand_back-pass-requires-clause-kept : goal.hand_back-pass-requires-clause-kept
hand_back-pass-requires-clause-kept c = (quietly c.args.self.now c.args.claim c.requires.of c.settle_server.new.seated c.queue.result unseen c.settle-reply.result c.settle-reply.ensures c.requires.sum c.requires.charge c.settle_server.ensures.told).kept

pub returns-clause-finished : goal.returns-clause-finished
returns-clause-finished c tries =
    let made = quietly c.args.self.now c.args.claim c.requires.of c.settle_server.new.seated c.queue.result unseen c.settle-reply.result c.settle-reply.ensures c.requires.sum c.requires.charge c.settle_server.ensures.told in
    done c.args.self.now c.args.claim c.requires.of _ _ c.settle_server.new.seated made tries _ c.hand_back-pass.ensures.seen c.hand_back-pass.ensures.told (λ sum. absurd (both_ways _ c.requires.sum sum))

pub returns-clause-within : goal.returns-clause-within
returns-clause-within c tries =
    let task = c.args.claim.task in
    let setup = c.args.self.now.terms.setup in
    made_by_store _ _ (params_word_at setup task) (task_word_at setup task) c.args.claim.held.params c.settle-reply.result.0.params tries _ _ _ _ c.settle_server.ensures.made c.hand_back-pass.ensures.made
