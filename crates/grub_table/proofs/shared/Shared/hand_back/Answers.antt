use Rattle.std.proofs.Common.{◌≡◌, ℕ, List, [], ◌∷◌, ◌∙◌, subst}
use Rattle.grub_book.specs.declared.place.Record.{Record}
use Rattle.grub_table.specs.declared.shared.Shared.{Shared}
use Rattle.grub_table.specs.declared.seated.Seated.{Seated}
use Rattle.grub_table.specs.declared.view.Mark.{Mark}
use Rattle.grub_table.specs.declared.view.Mark.TheVariants.{Given}
use Rattle.grub_table.specs.declared.view.Stored.{Stored}
use Rattle.grub_table.specs.inside.Between.{HoldsMade, Tells}
use Rattle.grub_table.specs.Calls.{share_on}
use Rattle.grub_table.specs.inside.Tellings.{MarksGo, Gives, GaveBack}
use Rattle.grub_table.specs.inside.Tries.{KnowsNoMore}
use Rattle.grub_table.proofs.shared.Shared.hand_back.Goals as goal

-- the parameter word is stored, and then the task is given back
module _ (s : Shared) (t : ℕ) (now : Record) (stored : Stored) (old mid new : Seated) (knows : Tells s KnowsNoMore old mid) (h : HoldsMade s mid t now stored) (gave : Tells s GaveBack mid new) where
  gave_it : ((share_on new).seen ≡ (share_on mid).seen) × Gives t s.terms (share_on mid) (share_on new)
  gave_it = gave.of t h.hold.0 now stored h.hold.1

  same_seen : (share_on new).seen ≡ (share_on old).seen
  same_seen = gave_it.0 ∙ knows.of.0

  gives : Tells s (Gives t) old new
  gives = record {
    seat = gave.seat;
    number = gave.number ∙ knows.number;
    of = (gave_it.1.0, subst (λ (p : ℕ × List Mark). MarksGo s.terms.passes p.0 p.1 (share_on new).marks (Given p.0 t ∷ [])) (λ i. (knows.number i, knows.of.1 i)) gave_it.1.1);
  }

-- ---- the answers
pub returns-clause-told : goal.returns-clause-told
returns-clause-told c = gives c.args.self.now c.args.task c.args.next.now _ c.args.seated c.store_changed.new.seated _ c.store_changed.ensures.knows c.store_changed.ensures.stored c.give_back.ensures.told

pub returns-clause-seen : goal.returns-clause-seen
returns-clause-seen c = same_seen c.args.self.now c.args.task c.args.next.now _ c.args.seated c.store_changed.new.seated _ c.store_changed.ensures.knows c.store_changed.ensures.stored c.give_back.ensures.told
