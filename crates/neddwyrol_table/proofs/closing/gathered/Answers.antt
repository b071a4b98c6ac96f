use Rattle.std.proofs.Common.{rules, ◌≡◌, [], ◌∷◌, ◌++◌, subst}
use Rattle.std.specs.List.{All}
use Rattle.grub_table.specs.Calls.{IsPassOf}
use Rattle.grub_table.specs.declared.shared.Shared.{Shared}
use Rattle.neddwyrol_table.specs.Called.{table_of}
use Rattle.neddwyrol_table.proofs.Gathering.{all_gathered}
use Rattle.neddwyrol_table.proofs.closing.gathered.Goals as goal

pub returns-in-None-clause-well : goal.returns-in-None-clause-well
returns-in-None-clause-well c =
    let told : c.taken_in.new.all.items ≡ c.args.kept.gathered.items ++ (c.args.other.gathered.items ++ c.args.other.pass ∷ []) = search rules in
    let own = c.requires.well.0 in
    let beside = c.requires.well.1 in (
      record {
        of = own.of;
        all = all_gathered (IsPassOf (table_of c.args.kept)) _ _ _ _ told own.all (subst (λ (s : Shared). All (IsPassOf s) c.args.other.gathered.items) c.requires.table beside.all) (subst (λ (s : Shared). IsPassOf s c.args.other.pass) c.requires.table beside.of);
      },
      tt,
    )
