use Rattle.std.proofs.Common.{subst}
use Rattle.grub_table.specs.inside.Between.{Tells}
use Rattle.grub_table.specs.inside.Tellings.{SettledServer}
use Rattle.grub_table.proofs.ClaimTurns.{settle_server_allowed}
use Rattle.grub_table.proofs.shared.Shared.settle_server.Goals as goal

pub store-requires-clause-allowed : goal.store-requires-clause-allowed
store-requires-clause-allowed c = settle_server_allowed c.args.self.now c.args.seated.now c.args.t _ _ _ c.requires.held.2 _ c.server_word_at-at.ensures.value c.requires.held.3.0 c.requires.held.3.1

pub returns-clause-told : goal.returns-clause-told
returns-clause-told c = subst (λ n. Tells c.args.self.now (SettledServer n) c.args.seated.now c.store.new.seated) c.pack_server.ensures c.store.ensures.told
