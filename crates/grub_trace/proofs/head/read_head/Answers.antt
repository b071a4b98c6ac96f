use Rattle.std.proofs.Common.{ap, sym, ◌∙◌}
use Rattle.grub_trace.specs.inside.Reading.{declarations, of_file}
use Rattle.grub_trace.proofs.HeadLaws.{gives_first}
use Rattle.grub_trace.proofs.LineLemmas.{header_err, first_known}
use Rattle.grub_trace.specs.declared.fault.Kind.TheVariants.{BadHeader}
use Rattle.grub_trace.proofs.OpeningFaults.{opening_is}
use Rattle.grub_trace.proofs.head.read_head.Goals as goal

pub returns-in_default-version_of-clause-gives : goal.returns-in_default-version_of-clause-gives
returns-in_default-version_of-clause-gives c = rw c.fault-in_default-version_of.ensures (ap (of_file c.args.file) (header_err (declarations c.args.tasks.now) c.args.bytes.now c.in-Some.line.now c.in-Some.rest.now c.in-Some.ensures.parts (sym c.in_default-version_of.ensures)))

pub returns-clause-gives : goal.returns-clause-gives
returns-clause-gives c = gives_first c.read_second.result c.args.file c.in-Some-version_of.version (declarations c.args.tasks.now) (declarations c.read_second.new.tasks) c.args.bytes.now c.in-Some.line.now c.in-Some.rest.now c.in-Some.ensures.parts (sym c.in-Some-version_of.ensures) c.read_second.ensures.gives

pub returns-in_default-version_of-clause-opening : goal.returns-in_default-version_of-clause-opening
returns-in_default-version_of-clause-opening c = rw c.fault-in_default-version_of.ensures (opening_is BadHeader c.args.file 1 _ (ap (of_file c.args.file) (header_err (declarations c.args.tasks.now) c.args.bytes.now c.in-Some.line.now c.in-Some.rest.now c.in-Some.ensures.parts (sym c.in_default-version_of.ensures))))

pub returns-clause-opening : goal.returns-clause-opening
returns-clause-opening c = λ k n le e. c.read_second.ensures.opening k n le (sym (ap (of_file c.args.file) (first_known c.in-Some-version_of.version (declarations c.args.tasks.now) c.args.bytes.now c.in-Some.line.now c.in-Some.rest.now c.in-Some.ensures.parts (sym c.in-Some-version_of.ensures))) ∙ e)
