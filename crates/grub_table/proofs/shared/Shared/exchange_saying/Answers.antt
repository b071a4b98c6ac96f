use Rattle.std.proofs.Common.{◌==◌, ◌∙◌}
use Rattle.grub_table.specs.declared.view.Access.TheVariants.{Exchange}
use Rattle.grub_table.proofs.Between.{made_more, still_single, tells_of}
use Rattle.grub_table.proofs.shared.Shared.exchange_saying.Goals as goal

pub compare_exchange_with-requires : goal.compare_exchange_with-requires
compare_exchange_with-requires g c = (c.requires.of.home, c.requires.allowed.0, c.requires.allowed.1)

pub invariant_of-seated : goal.invariant_of-seated
invariant_of-seated g c = record {
  single = still_single c.args.seated.now c.compare_exchange_with.new.seat (Exchange c.args.word (c.compare_exchange_with.result == c.args.old)) c.compare_exchange_with.ensures.made _ c.compare_exchange_with.ensures.told;
  numbered = c.compare_exchange_with.ensures.told.number ∙ c.args.seated.now.numbered;
}

pub returns-clause-told : goal.returns-clause-told
returns-clause-told g c = tells_of c.args.self.now _ c.args.seated.now _ c.requires.of c.compare_exchange_with.ensures.home c.compare_exchange_with.ensures.told

pub returns-clause-made : goal.returns-clause-made
returns-clause-made g c = made_more c.args.seated.now c.compare_exchange_with.new.seat (Exchange c.args.word (c.compare_exchange_with.result == c.args.old)) c.compare_exchange_with.ensures.made
