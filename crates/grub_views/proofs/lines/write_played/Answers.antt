use Rattle.std.proofs.Common.{◌≡◌, ◌++◌, ◌∙◌, ap, sym, subst, rules}
use Rattle.std.specs.List.{flat_map}
use Rattle.std.proofs.lemmas.Grind.{flat_map-append}
use Rattle.grub_plan.specs.Plans.{PlanView}
use Rattle.text_bytes.specs.Writing.{HandsOn, HandsPart}
use Rattle.text_bytes.proofs.Handing.{hands_both}
use Rattle.grub_timeline.specs.TimeLines.{AreWithin}
use Rattle.grub_views.specs.Lines.{told_line}
use Rattle.grub_views.proofs.Chunking.{told_out}
use Rattle.grub_views.proofs.Handing.{hands_same, part_piece}
use Rattle.grub_views.proofs.lines.write_played.Goals as goal

-- a part of the lines of the latest entries, which the rest of the time line follows
pub returns-in-Err-clause-part : goal.returns-in-Err-clause-part
returns-in-Err-clause-part g c =
    let line = told_line c.args.plan.now.names in let inv = c.loop-more.invariant in let p = c.play_beside-goes_on in
    let a = g.W.Write.contents c.args.out.now in
    let b = g.W.Write.contents c.loop-more.out in
    let d = g.W.Write.contents p.new.work.2.now in
    let latest = c.loop-more.playing.chunk in let rest = p.new.playing.chunk ++ c.play_out.ensures.told.0 in
    let is : c.as_slice-told.result.now ≡ latest = search rules in
    let was : p.new.playing.told ≡ (inv.before ++ latest) ++ p.new.playing.chunk = rw (c.exchange.ensures.told, inv.told) at p.ensures.told in
    let all : c.play_out.new.playing.told ≡ inv.before ++ (latest ++ rest) = told_out inv.before latest p.new.playing.chunk c.play_out.ensures.told.0 p.new.playing.told c.play_out.new.playing.told was c.play_out.ensures.told.1 in
    let part : HandsPart b d c.loop-more.room.buffer.items (flat_map line latest) = rw (c.in-Err.is, is) at p.ensures.work.met.1.1.0 in
    let whole : flat_map line inv.before ++ flat_map line (latest ++ rest) ≡ flat_map line c.play_out.new.playing.told = sym (ap (flat_map line) all ∙ flat_map-append line inv.before (latest ++ rest)) in
    subst (λ w. HandsPart a (g.W.Write.contents w) c.args.room.now.buffer.items (flat_map line c.play_out.new.playing.told)) (sym (search rules))
    (part_piece a b d c.args.room.now.buffer.items (flat_map line inv.before) c.loop-more.room.buffer.items (flat_map line latest) (flat_map line rest) (flat_map line (latest ++ rest)) (flat_map line c.play_out.new.playing.told)
    inv.so_far part whole (flat_map-append line latest rest))

pub loop-more-preserved : goal.loop-more-preserved
loop-more-preserved g c =
    let line = told_line c.args.plan.now.names in let inv = c.loop-more.invariant in let p = c.play_beside-goes_on in
    let a = g.W.Write.contents c.args.out.now in
    let b = g.W.Write.contents c.loop-more.out in
    let d = g.W.Write.contents p.new.work.2.now in
    let latest = c.loop-more.playing.chunk in
    let slice : c.as_slice-told.result.now ≡ latest = search rules in
    let was : p.new.playing.told ≡ (inv.before ++ latest) ++ p.new.playing.chunk = rw (c.exchange.ensures.told, inv.told) at p.ensures.told in
    let is : p.new.playing.plan ≡ c.args.plan.now = p.ensures.plan ∙ c.exchange.ensures.plan ∙ inv.plan in
    let within : AreWithin c.args.plan.now.setup p.new.playing.chunk = subst (λ (v : PlanView). AreWithin v.setup p.new.playing.chunk) is p.ensures.within in
    let more : HandsOn b d c.loop-more.room.buffer.items (flat_map line latest) p.new.work.0.now.buffer.items = rw (c.in_default.is, slice) at p.ensures.work.met.1.0 in
    let done : HandsOn a d c.args.room.now.buffer.items (flat_map line (inv.before ++ latest)) p.new.work.0.now.buffer.items =
    rw (flat_map-append line inv.before latest) (hands_both a b d c.args.room.now.buffer.items (flat_map line inv.before) c.loop-more.room.buffer.items (flat_map line latest) p.new.work.0.now.buffer.items inv.so_far more) in
    record {
      plan = is;
      latest = search rules;
      room = search rules;
      over = p.ensures.over;
      none = p.ensures.none;
      within = within;
      before = inv.before ++ latest;
      told = was;
      so_far = hands_same a _ d c.args.room.now.buffer.items (flat_map line (inv.before ++ latest)) _ p.new.work.0.now.buffer.items (search rules) (search rules) done;
    }
