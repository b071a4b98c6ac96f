use Rattle.grub_table.specs.declared.claim.Claim.{Claim}
use Rattle.grub_table.specs.declared.pass.Pass.{Pass}
use Rattle.grub_table.specs.declared.shared.Shared.{Shared}
use Rattle.grub_table.specs.inside.Between.{Tells}
use Rattle.grub_table.specs.inside.Tellings.{GaveUp}
use Rattle.grub_table.specs.Calls.{IsCancelled}
use Rattle.grub_table.proofs.Tries.{claim_holds}
use Rattle.grub_table.proofs.shared.Shared.cancel.Goals as goal

-- the call is not made, and the task is given back
cancelled : (s : Shared) (c : Claim) (q : Pass) → Tells s GaveUp c.seated q.seated → IsCancelled s c q
cancelled s c q told =
    let w = told.of c.task c.op c.held c.holds in record {
      of = record { seat = told.seat; history = w.0.0; lawful = w.1.1.0 };
      learns = record { number = told.number; seen = w.0.1; marked = w.1.1.1 };
    }

-- ---- the answers
pub give_up-requires : goal.give_up-requires
give_up-requires c = (c.args.claim.op, claim_holds c.args.self.now c.args.claim c.requires)

pub returns-clause-cancelled : goal.returns-clause-cancelled
returns-clause-cancelled c = cancelled c.args.self.now c.args.claim _ c.give_up.ensures.told
