use Rattle.std.proofs.Common.{◌≡◌, ℕ, Option, Some, None, ◌∙◌}
use Rattle.grub_book.specs.Bandwidth.{Reservation}
use Rattle.grub_book.specs.declared.server.Server.{Server}
use Rattle.grub_book.specs.Step.{early}
use Rattle.grub_book.specs.declared.op.Op.{Op}
use Rattle.grub_book.specs.declared.place.Record.{Record}
use Rattle.grub_book.specs.declared.reply.Reply.{Reply}
use Rattle.grub_book.specs.declared.place.Place.{Place}
use Rattle.grub_table.specs.declared.task.TaskWord.{TaskWord}
use Rattle.grub_table.specs.declared.shared.Shared.{Shared}
use Rattle.grub_table.specs.declared.seated.Seated.{Seated}
use Rattle.grub_table.specs.declared.view.Share.{Share}
use Rattle.grub_table.specs.declared.view.Terms.{Terms}
use Rattle.grub_table.specs.inside.Between.{HoldsFor, Tells, SawRecord}
use Rattle.grub_table.specs.Calls.{share_on}
use Rattle.grub_table.specs.Histories.{record_in}
use Rattle.grub_table.specs.inside.Tellings.{Sees, DecidesIf, SawParams, SawServer}
use Rattle.grub_table.proofs.Growths.{sees_after, calls_after}
use Rattle.grub_table.proofs.Turns.{under}
use Rattle.grub_table.proofs.shared.Shared.load_record.Goals as goal

-- ---- the record of a task that was taken
same_record : (x : Record) (p : Place) (n : ℕ) (server : Server) (params : Reservation) → p ≡ x.place → n ≡ x.count → server ≡ x.server → params ≡ x.params → let y : Record = record { place = p; count = n; server = server; params = params } in y ≡ x
same_record x p n server params a b c d = λ i. record { place = a i; count = b i; server = c i; params = d i }

module _ (s : Shared) (old mid new : Seated) (t : ℕ) (op : Op) (rec : Record) (h : HoldsFor s old t op rec) (params : Reservation) (server : Server) (one : Tells s (SawParams params) old mid) (two : Tells s (SawServer server) mid new) where
  saw_record : (w : TaskWord) → w.place ≡ rec.place → w.count ≡ rec.count → let found : Record = record { place = w.place; count = w.count; server = server; params = params } in Tells s (SawRecord found) old new
  saw_record w place count =
      let x : Share = share_on old in
      let x1 : Share = share_on mid in
      let y : Share = share_on new in
      let a = one.of t op rec h.hold in
      let b = two.of t op rec (a.1 ∙ h.hold) in
      let found : Record = record { place = w.place; count = w.count; server = server; params = params } in
      let number = one.number in
      let more = decides_more s.terms x x1 y t op rec (early rec op) number a.3 b.3 in
      record {
        seat = two.seat;
        number = two.number ∙ one.number;
        of = under x.hold t op rec (λ t op rec. (found ≡ rec) × (y.marks ≡ x.marks) × (record_in s.terms y.seen t ≡ rec) × DecidesIf (early rec op) s.terms x t op rec y) h.hold
            (same_record rec w.place w.count server params place count b.0 a.0, b.1 ∙ a.2, b.2, more);
      }
    where
      decides_more : (T : Terms) (x x1 y : Share) (t : ℕ) (op : Op) (rec : Record) (o : Option Reply) → x1.number ≡ x.number → Sees T x x1 → DecidesIf o T x1 t op rec y → DecidesIf o T x t op rec y
      decides_more T x x1 y t op rec None same sees d = (sees_after T x x1 y same sees d.0, d.1)
      decides_more T x x1 y t op rec (Some reply) same sees d = (calls_after T x x1 y t op reply same sees d.0, d.1)

-- ---- the answers
pub returns-clause-told : goal.returns-clause-told
returns-clause-told c =
    let r = c.requires in
    saw_record c.args.self.now c.args.seated.now c.load_params-params.new.seated c.load_server-server.new.seated c.args.t r.0 r.1 r.2 c.load_params-params.result c.load_server-server.result c.load_params-params.ensures.told c.load_server-server.ensures.told c.args.shown r.3.0 r.3.1
