use Rattle.std.proofs.Common.{◌≡◌, ◌++◌, List, ℕ, Bool, codes, ap, ◌∙◌, if◌then◌else◌}
use Rattle.size_admission.specs.Texts.{in_time_text, keeps, together_text, bound_text}
use Rattle.size_admission.proofs.Pieces.{behind}
use Rattle.size_admission.proofs.proposals.put_in_time.Goals as goal

abbrev front : Bool → List ℕ
front holds = if holds then codes "  in time on " else codes "  late by a bounded time, maybe, on "

abbrev sign : Bool → List ℕ
sign holds = if holds then codes " <= " else codes " > "

pub returns : goal.returns
unfolding in_time_text
returns c =
    let o = c.args.out.now.items in
    let m = c.args.machine in
    let t = together_text c.args.sum m in
    let holds = keeps c.args.sum c.args.greatest m in
    let value = c.is_in_time-holds.ensures.value in
    let begin : c.put_either.new.out.items ≡ o ++ front holds = c.in_ok-put_either.ensures ∙ ap (λ b. o ++ front b) value in
    let signs : c.put_either-2.new.out.items ≡ c.put_together.new.out.items ++ sign holds = c.in_ok-put_either-2.ensures ∙ ap (λ b. c.put_together.new.out.items ++ sign b) value in
    let first = behind o (front holds) t c.put_either.new.out.items c.put_together.new.out.items begin c.in_ok-put_together.ensures in
    let second = behind o (front holds ++ t) (sign holds) c.put_together.new.out.items c.put_either-2.new.out.items first signs in
    behind o (front holds ++ t ++ sign holds) (bound_text c.args.greatest m) c.put_either-2.new.out.items c.put_bound.new.out.items second c.in_ok-put_bound.ensures
