use Rattle.std.proofs.Common.{◌≡◌, List, ℕ, [], rules, get_or, subst, sym, ap, ◌∙◌}
use Rattle.text_bytes.specs.Writing.{HandsPart}
use Rattle.text_bytes.proofs.Handing.{part_entries, on_err}
use Rattle.text_bytes.proofs.Rounds.{part_bytes}
use Rattle.text_bytes.proofs.blocks.write_blocks.Goals as goal

pub returns-in_err-write_bytes-clause-part : goal.returns-in_err-write_bytes-clause-part
returns-in_err-write_bytes-clause-part g c =
    let x = c.block-item.result in
    let i = c.loop-block.block-index in
    let there : get_or c.args.blocks.now i x ≡ x = search rules in
    let a = g.W.Write.contents c.args.out.now in
    let b = g.W.Write.contents c.loop-block.out in
    let d = g.W.Write.contents c.write_bytes.new.out in
    let same : c.deref.result.now ≡ (get_or c.args.blocks.now i x).items = c.deref.ensures.value ∙ ap (λ v. v.items) (sym there) in
    on_err c.from_residual.result
    (part_entries (λ v. v.items) a b d [] [] c.args.blocks.now i x c.loop-block-test.true c.loop-block.invariant
    (subst (λ (t : List ℕ). HandsPart b d [] t) same (part_bytes b d c.deref.result.now c.in_err-write_bytes.ensures.part)))
