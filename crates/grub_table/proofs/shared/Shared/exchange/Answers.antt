use Rattle.std.proofs.Common.{◌==◌, ◌∙◌}
use Rattle.grub_table.specs.declared.view.Access.TheVariants.{Exchange}
use Rattle.grub_table.proofs.Between.{made_more, still_single, tells_of}
use Rattle.grub_table.proofs.shared.Shared.exchange.Goals as goal

pub compare_exchange-requires : goal.compare_exchange-requires
compare_exchange-requires g c = (c.requires.of.home, c.requires.allowed.0, c.requires.allowed.1)

pub invariant_of-seated : goal.invariant_of-seated
invariant_of-seated g c = record {
  single = still_single c.args.seated.now c.compare_exchange.new.seat (Exchange c.args.word (c.compare_exchange.result == c.args.old)) c.compare_exchange.ensures.made _ c.compare_exchange.ensures.told;
  numbered = c.compare_exchange.ensures.told.number ∙ c.args.seated.now.numbered;
}

pub returns-clause-told : goal.returns-clause-told
returns-clause-told g c = tells_of c.args.self.now _ c.args.seated.now _ c.requires.of c.compare_exchange.ensures.home c.compare_exchange.ensures.told

pub returns-clause-made : goal.returns-clause-made
returns-clause-made g c = made_more c.args.seated.now c.compare_exchange.new.seat (Exchange c.args.word (c.compare_exchange.result == c.args.old)) c.compare_exchange.ensures.made
