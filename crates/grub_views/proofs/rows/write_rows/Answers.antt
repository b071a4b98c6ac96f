use Rattle.std.proofs.Common.{◌≡◌, ◌++◌, ◌∙◌, [], List, ◌<◌, length, ap, sym, subst, rules, vec_capacity}
use Rattle.std.specs.List.{flat_map}
use Rattle.std.proofs.lemmas.List.Elements.{All-nil}
use Rattle.grub_book.specs.Sums.{opening_book}
use Rattle.grub_plan.specs.Plans.{PlanView, IsAskOf}
use Rattle.text_bytes.specs.Writing.{HandsOn, HandsPart}
use Rattle.text_bytes.proofs.Handing.{hands_both, hands_none}
use Rattle.grub_timeline.specs.TimeLines.{AreWithin}
use Rattle.grub_timeline.specs.declared.told.ToldEntry.{ToldEntry}
use Rattle.grub_timeline.specs.Replay.{steps_from, steps_of}
use Rattle.grub_views.specs.Rows.{step_row}
use Rattle.grub_timeline.specs.Past.{book_past}
use Rattle.grub_views.proofs.Chunking.{chunk_viewable, past_more, rows_more, rows_then, told_out, within_more}
use Rattle.grub_views.proofs.Handing.{hands_same, part_piece}
use Rattle.grub_views.proofs.rows.write_rows.Goals as goal

pub loop-more-init : goal.loop-more-init
unfolding steps_of
loop-more-init g c =
    let e = c.play_on-more.ensures in let s = c.args.plan.now.setup in let chunk = c.play_on-more.new.self.chunk in
    let is = e.plan ∙ c.requires.plan in
    let told : c.play_on-more.new.self.told ≡ chunk = e.told ∙ ap (λ (xs : List ToldEntry). xs ++ chunk) c.requires.nothing in
    let none : AreWithin s [] = All-nil (λ (x : ToldEntry). (x.runqueue < length s.queues) × IsAskOf (length s.tasks) x.entry.ask) in
    record {
      plan = is;
      latest = c.requires.latest;
      room = c.requires.room;
      steps = rw e.most c.requires.steps;
      waiting = c.requires.waiting;
      few = e.few;
      over = e.over;
      none = e.none;
      within = rw told (subst (λ (p : PlanView). AreWithin p.setup chunk) is e.within);
      viewable = chunk_viewable c.args.plan.now c.play_on-more.new.self.plan [] chunk c.play_on-more.new.self.told is told e.legal e.answered none e.within;
      setup = c.requires.setup;
      before = [];
      told = told;
      book = c.requires.book;
      so_far = hands_none (g.W.Write.contents c.args.out.now) c.args.room.now.buffer.items;
    }

-- a part of the rows of the latest entries, which the rest of the time line follows
pub returns-in-Err-clause-part : goal.returns-in-Err-clause-part
returns-in-Err-clause-part g c =
    let inv = c.loop-more.invariant in let p = c.play_beside-goes_on in let s = c.args.plan.now.setup in let names = c.args.plan.now.names in let row = step_row names in
    let a = g.W.Write.contents c.args.out.now in
    let b = g.W.Write.contents c.loop-more.out in
    let d = g.W.Write.contents p.new.work.3.now in
    let latest = c.loop-more.playing.chunk in let rest = p.new.playing.chunk ++ c.play_out.ensures.told.0 in
    let is : c.exchange.new.other.items ≡ latest = c.exchange.ensures.chunk in
    let was : p.new.playing.told ≡ (inv.before ++ latest) ++ p.new.playing.chunk = rw (c.exchange.ensures.told, inv.told) at p.ensures.told in
    let all : c.play_out.new.playing.told ≡ inv.before ++ (latest ++ rest) = told_out inv.before latest p.new.playing.chunk c.play_out.ensures.told.0 p.new.playing.told c.play_out.new.playing.told was c.play_out.ensures.told.1 in
    let begun = book_past s (opening_book s) inv.before in
    let done = flat_map row (steps_of s inv.before) in let mine = flat_map row (steps_from s begun latest) in
    let text = flat_map row (steps_of s c.play_out.new.playing.told) in let left = flat_map row (steps_from s begun (latest ++ rest)) in
    let part : HandsPart b d c.loop-more.room.buffer.items mine = rw (c.in-Err.is, is, inv.book) at p.ensures.work.met.1.1.1.1.1.1.0 in
    let whole : done ++ left ≡ text = sym (ap (λ (xs : List ToldEntry). flat_map row (steps_of s xs)) all ∙ rows_more names s inv.before (latest ++ rest)) in
    subst (λ w. HandsPart a (g.W.Write.contents w) c.args.room.now.buffer.items text) (sym (search rules))
    (part_piece a b d c.args.room.now.buffer.items done c.loop-more.room.buffer.items mine (flat_map row (steps_from s (book_past s begun latest) rest)) left text inv.so_far part whole (rows_then names s begun latest rest))

-- the rows of the latest entries follow those of the entries before
pub loop-more-preserved : goal.loop-more-preserved
loop-more-preserved g c =
    let inv = c.loop-more.invariant in let p = c.play_beside-goes_on in let s = c.args.plan.now.setup in let names = c.args.plan.now.names in let row = step_row names in
    let a = g.W.Write.contents c.args.out.now in
    let b = g.W.Write.contents c.loop-more.out in
    let d = g.W.Write.contents p.new.work.3.now in
    let latest = c.loop-more.playing.chunk in let next = p.new.playing.chunk in let did = p.ensures.work.met.1 in
    let is_latest : c.exchange.new.other.items ≡ latest = c.exchange.ensures.chunk in
    let was : p.new.playing.told ≡ (inv.before ++ latest) ++ next = rw (c.exchange.ensures.told, inv.told) at p.ensures.told in
    let is : p.new.playing.plan ≡ c.args.plan.now = p.ensures.plan ∙ c.exchange.ensures.plan ∙ inv.plan in
    let before : AreWithin s (inv.before ++ latest) = rw inv.told at inv.within in
    let within : AreWithin s next = subst (λ (v : PlanView). AreWithin v.setup next) is p.ensures.within in
    let begun = book_past s (opening_book s) inv.before in
    let more : HandsOn b d c.loop-more.room.buffer.items (flat_map row (steps_from s begun latest)) p.new.work.1.now.buffer.items = rw (c.in_default.is, is_latest, inv.book) at did.1.1.1.1.0 in
    let done : HandsOn a d c.args.room.now.buffer.items (flat_map row (steps_of s (inv.before ++ latest))) p.new.work.1.now.buffer.items =
    rw (rows_more names s inv.before latest)
    (hands_both a b d c.args.room.now.buffer.items (flat_map row (steps_of s inv.before)) c.loop-more.room.buffer.items (flat_map row (steps_from s begun latest)) p.new.work.1.now.buffer.items inv.so_far more) in
    let records : p.new.work.0.now.book.records ≡ book_past s (opening_book s) (inv.before ++ latest) = rw (past_more s (opening_book s) inv.before latest) (rw (is_latest, inv.book) at did.1.0) in
    let room : vec_capacity p.new.work.0.now.steps ≡ vec_capacity c.loop-more.maker.steps = did.1.1.0 in
    record {
      plan = is;
      latest = search rules;
      room = search rules;
      steps = search rules;
      waiting = search rules;
      few = p.ensures.few;
      over = p.ensures.over;
      none = p.ensures.none;
      within = rw was (within_more s (inv.before ++ latest) next before within);
      viewable = chunk_viewable c.args.plan.now p.new.playing.plan (inv.before ++ latest) next p.new.playing.told is was p.ensures.legal p.ensures.answered before p.ensures.within;
      setup = search rules;
      before = inv.before ++ latest;
      told = was;
      book = (search rules) ∙ records;
      so_far = hands_same a _ d c.args.room.now.buffer.items (flat_map row (steps_of s (inv.before ++ latest))) _ p.new.work.1.now.buffer.items (search rules) (search rules) done;
    }
