use Rattle.std.proofs.Common.{◌≡◌, ◌++◌, List, ℕ, Bool, codes, ap, ◌∙◌, if◌then◌else◌}
use Rattle.size_admission.specs.Texts.{admission_text, admits, admits_text, less_text, percent_text}
use Rattle.size_admission.proofs.Pieces.{behind}
use Rattle.size_admission.proofs.proposals.put_admission.Goals as goal

abbrev words : Bool → List ℕ
words holds = if holds then codes ": admitted\n" else codes ": refused, EBUSY\n"

pub returns : goal.returns
unfolding admission_text
returns c =
    let o = c.args.out.now.items in
    let m = c.args.machine in
    let s = percent_text c.args.sum in
    let end = c.put_either.new.out.items in
    let holds = admits c.args.sum m in
    let either : end ≡ c.put_less.new.out.items ++ words holds = c.in_ok-put_either.ensures ∙ ap (λ b. c.put_less.new.out.items ++ words b) c.is_admitted-holds.ensures.value in
    let first = behind o (codes "  ") s c.put_text.new.out.items c.put_percent.new.out.items c.in_ok-put_text.ensures c.in_ok-put_percent.ensures in
    let second = behind o (codes "  " ++ s) (admits_text m) c.put_percent.new.out.items c.put_admits.new.out.items first c.in_ok-put_admits.ensures in
    let third = behind o (codes "  " ++ s ++ admits_text m) (less_text m) c.put_admits.new.out.items c.put_less.new.out.items second c.in_ok-put_less.ensures in
    behind o (codes "  " ++ s ++ admits_text m ++ less_text m) (words holds) c.put_less.new.out.items end third either
