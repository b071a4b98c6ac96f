use Rattle.std.proofs.Common.{ap}
use Rattle.std.specs.Prelude.{codes}
use Rattle.trace_options.specs.Messages.{fault_line}
use Rattle.trace_options.proofs.MessageLemmas.{told}
use Rattle.trace_options.proofs.fault.Fault.tell.Goals as goal

pub returns-in-Write : goal.returns-in-Write
returns-in-Write g c =
    let writer = g.E.Write.contents in
    told c.write_all.result (writer c.args.to.now) (writer c.write_all.new.self) (fault_line c.args.path.now c.args.self.now) (codes "grubtrace: 45 WriteFault\n")
    (ap (fault_line c.args.path.now) c.in-Write.is) c.write_all.ensures.bytes

pub returns-in-NoMemory : goal.returns-in-NoMemory
returns-in-NoMemory g c =
    let writer = g.E.Write.contents in
    told c.write_all-in-NoMemory.result (writer c.args.to.now) (writer c.write_all-in-NoMemory.new.self) (fault_line c.args.path.now c.args.self.now) (codes "grubtrace: 47 NoMemory\n")
    (ap (fault_line c.args.path.now) c.in-NoMemory.is) c.write_all-in-NoMemory.ensures.bytes

pub returns-in-NoText : goal.returns-in-NoText
returns-in-NoText g c =
    let writer = g.E.Write.contents in
    told c.write_all-in-NoText.result (writer c.args.to.now) (writer c.write_all-in-NoText.new.self) (fault_line c.args.path.now c.args.self.now) (codes "grubtrace: 48 NoMemory\n")
    (ap (fault_line c.args.path.now) c.in-NoText.is) c.write_all-in-NoText.ensures.bytes
