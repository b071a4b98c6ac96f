use Rattle.std.proofs.Common.{◌++◌, codes}
use Rattle.size_admission.specs.Texts.{admission_text, in_time_text}
use Rattle.size_admission.specs.Told.{all_text}
use Rattle.size_admission.proofs.Pieces.{behind}
use Rattle.size_admission.proofs.proposals.put_all.Goals as goal

pub returns : goal.returns
unfolding all_text
returns c =
    let o = c.args.out.now.items in
    let m = c.args.machine in
    let all = c.args.all.now in
    let head = codes "\nall proposals\n" in
    let rows = c.args.rows.now in
    let admits = admission_text all.sum m in
    let keeps = in_time_text all.sum all.greatest m in
    let first = behind o head rows c.put_text.new.out.items c.extend_from_slice.new.self.items c.in_ok-put_text.ensures c.in_ok-extend_from_slice.ensures.items in
    let second = behind o (head ++ rows) admits c.extend_from_slice.new.self.items c.put_admission.new.out.items first c.in_ok-put_admission.ensures in
    let third = behind o (head ++ rows ++ admits) keeps c.put_admission.new.out.items c.put_in_time.new.out.items second c.in_ok-put_in_time.ensures in
    behind o (head ++ rows ++ admits ++ keeps) c.args.placed.now c.put_in_time.new.out.items c.extend_from_slice-2.new.self.items third c.in_ok-extend_from_slice-2.ensures.items
