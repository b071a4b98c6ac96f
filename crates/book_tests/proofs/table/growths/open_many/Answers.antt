use Rattle.std.proofs.Common.{Result, Ok, Err, IfOk, Vec, Global}
use Rattle.std.specs.List.{All}
use Rattle.grub_book.specs.Machine.{Machine}
use Rattle.grub_table.specs.declared.pass.Pass.{Pass}
use Rattle.grub_table.specs.declared.shared.Shared.{Shared}
use Rattle.grub_table.specs.declared.fault.OpenFault.{OpenFault}
use Rattle.grub_table.specs.Calls.{IsOpened, IsPassOf}
use Rattle.book_tests.proofs.table.growths.open_many.Goals as goal

opened_all : (m : Machine) (r : Result (Shared × Vec Pass Global) OpenFault) → IfOk r (λ x. IsOpened x.0 x.1.items m 5) → IfOk r (λ x. All (IsPassOf x.0) x.1.items)
opened_all m (Ok x) o = o.of
opened_all m (Err e) o = tt

pub returns : goal.returns
returns c = opened_all c.args.setup.now c.open.result c.open.ensures.opened
