use Rattle.std.proofs.Common.{rules, ◌≡◌}
use Rattle.library_book.specs.declared.codes.TheConstants.{DONE}
use Rattle.neddwyrol_table.proofs.handled.part_of.Goals as goal

pub returns-then-part_into-eq-DONE-clause-done : goal.returns-then-part_into-eq-DONE-clause-done
returns-then-part_into-eq-DONE-clause-done c =
    let done : c.part_into.result ≡ DONE = search rules in
    c.part_into.ensures.done done
