use Rattle.std.proofs.Common.{codes, decimal, ◌*◌, ◌++◌}
use Rattle.size_admission.specs.Texts.{percent_text}
use Rattle.size_admission.proofs.Pieces.{behind}
use Rattle.size_admission.proofs.proposals.put_admits.Goals as goal

pub returns : goal.returns
returns c =
    let n = c.args.machine.processors in
    let o = c.args.out.now.items in
    let a = codes " % of a processor; " in
    let b = codes " processors admit " in
    let p = percent_text (c.args.machine.most * n) in
    let first = behind o a (decimal n) c.put_text.new.out.items c.put_count.new.out.items c.in_ok-put_text.ensures c.in_ok-put_count.ensures in
    let second = behind o (a ++ decimal n) b c.put_count.new.out.items c.put_text-2.new.out.items first c.in_ok-put_text-2.ensures in
    let third = behind o (a ++ decimal n ++ b) p c.put_text-2.new.out.items c.put_share.new.out.items second c.in_ok-put_share.ensures in
    behind o (a ++ decimal n ++ b ++ p) (codes " %") c.put_share.new.out.items c.put_text-3.new.out.items third c.in_ok-put_text-3.ensures
