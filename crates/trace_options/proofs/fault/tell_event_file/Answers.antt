use Rattle.std.proofs.Common.{◌++◌}
use Rattle.std.specs.Prelude.{codes, decimal}
use Rattle.trace_options.specs.Messages.{event_file_line}
use Rattle.trace_options.proofs.MessageLemmas.{of_seven, told}
use Rattle.trace_options.proofs.fault.tell_event_file.Goals as goal

pub returns : goal.returns
returns g c =
    let writer = g.E.Write.contents in
    let prefix = c.args.prefix.now in
    let r = c.args.runqueue in
    told c.writeln.result (writer c.args.to.now) (writer c.writeln.new.self) (event_file_line prefix r) (codes "grubtrace: " ++ (prefix ++ (codes ".cpu" ++ (decimal r ++ codes ".grub: 56 FileExists\n"))))
    (of_seven (codes "grubtrace: ") prefix (codes ".cpu") (decimal r) (codes ".grub") (codes ": ") (codes "56 FileExists\n")) c.writeln.ensures.bytes
