use Rattle.std.proofs.Common.{◌≡◌, ◌≤◌, ◌*◌, List, ℕ, [], arith, rules, subst, length, OnOk, OnErr, ap, ◌∙◌}
use Rattle.std.proofs.lemmas.Grind.{common_steps}
use Rattle.std.specs.List.{flat_map}
use Rattle.text_bytes.specs.Writing.{HandsOn, HandsPart}
use Rattle.text_bytes.proofs.Rounds.{parts_text}
use Rattle.text_bytes.proofs.blocks.Blocks.write_round.Goals as goal
use Rattle.text_bytes.proofs.blocks.Blocks.write_round.Goals.{After-write_blocks}

-- what the blocks are, put together
put_together : (g : _) (c : After-write_blocks g) → flat_map (λ b. b.items) c.deref.result.now ≡ flat_map (g.L.LineOf.line c.args.lines.now) c.args.items.now
put_together g c =
    let done = c.make_blocks.new.blocks in
    let size = c.div_ceil.result in
    let four : length done ≡ 4 = search rules in
    let same : c.deref.result.now ≡ done = grind (arith, common_steps) in
    let few : length c.args.items.now ≤ length done * size = grind (arith, common_steps) in
    ap (flat_map (λ b. b.items)) same
    ∙ parts_text (g.L.LineOf.line c.args.lines.now) (λ b. b.items) size done c.args.items.now (λ i d below. c.make_blocks.ensures.text i d (search rules)) few

pub returns-clause-whole : goal.returns-clause-whole
returns-clause-whole g c =
    subst (λ (t : List ℕ). OnOk c.write_blocks.result (HandsOn (g.W.Write.contents c.args.out.now) (g.W.Write.contents c.write_blocks.new.out) [] t [])) (put_together g c) c.write_blocks.ensures.whole

pub returns-clause-part : goal.returns-clause-part
returns-clause-part g c =
    subst (λ (t : List ℕ). OnErr c.write_blocks.result (HandsPart (g.W.Write.contents c.args.out.now) (g.W.Write.contents c.write_blocks.new.out) [] t)) (put_together g c) c.write_blocks.ensures.part
