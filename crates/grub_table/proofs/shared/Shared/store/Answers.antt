use Rattle.std.proofs.Common.{◌∙◌}
use Rattle.grub_table.specs.declared.view.Access.TheVariants.{Store}
use Rattle.grub_table.proofs.Between.{made_more, still_single, tells_of}
use Rattle.grub_table.proofs.shared.Shared.store.Goals as goal

pub store-requires : goal.store-requires
store-requires g c = (c.requires.of.home, c.requires.allowed.0, c.requires.allowed.1)

pub invariant_of-seated : goal.invariant_of-seated
invariant_of-seated g c = record {
  single = still_single c.args.seated.now c.store.new.seat (Store c.args.word) c.store.ensures.made _ c.store.ensures.told;
  numbered = c.store.ensures.told.number ∙ c.args.seated.now.numbered;
}

pub returns-clause-told : goal.returns-clause-told
returns-clause-told g c = tells_of c.args.self.now _ c.args.seated.now _ c.requires.of c.store.ensures.home c.store.ensures.told

pub returns-clause-made : goal.returns-clause-made
returns-clause-made g c = made_more c.args.seated.now c.store.new.seat (Store c.args.word) c.store.ensures.made
