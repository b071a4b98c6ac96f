use Rattle.std.proofs.Common.{◌++◌, ◌∙◌, [], ap, sym, refl, append_assoc, append-nil}
use Rattle.grub_views.proofs.rest.play_out.Goals as goal

pub loop-init : goal.loop-init
loop-init c = (refl, ([], sym (append-nil _)))

pub loop-preserved : goal.loop-preserved
loop-preserved c =
    let inv = c.loop.invariant in let e = c.play_on.ensures in let more = inv.1.0 in let chunk = c.play_on.new.self.chunk in
    (e.plan ∙ inv.0, (more ++ chunk, e.told ∙ ap (λ l. l ++ chunk) inv.1.1 ∙ append_assoc _ more chunk))
