use Rattle.std.proofs.Common.{◌∙◌}
use Rattle.grub_table.specs.declared.view.Access.TheVariants.{Load}
use Rattle.grub_table.proofs.Between.{made_more, still_single, tells_of}
use Rattle.grub_table.proofs.shared.Shared.load.Goals as goal

pub load-requires : goal.load-requires
load-requires g c = (c.requires.of.home, c.requires.allowed.0, c.requires.allowed.1)

pub invariant_of-seated : goal.invariant_of-seated
invariant_of-seated g c = record {
  single = still_single c.args.seated.now c.load.new.seat (Load c.args.word) c.load.ensures.made _ c.load.ensures.told;
  numbered = c.load.ensures.told.number ∙ c.args.seated.now.numbered;
}

pub returns-clause-told : goal.returns-clause-told
returns-clause-told g c = tells_of c.args.self.now _ c.args.seated.now _ c.requires.of c.load.ensures.home c.load.ensures.told

pub returns-clause-made : goal.returns-clause-made
returns-clause-made g c = made_more c.args.seated.now c.load.new.seat (Load c.args.word) c.load.ensures.made
