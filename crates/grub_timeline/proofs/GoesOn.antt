-- Entries that go on.
use Rattle.std.proofs.Common.{◌≡◌, ℕ, List, [], ◌∷◌, ◌++◌, sym, ap, ◌∙◌, subst, append_assoc, append-nil}
use Rattle.grub_timeline.specs.declared.told.ToldEntry.{ToldEntry}
use Rattle.grub_timeline.specs.TimeLines.{AreOf, asker, entries_of}
use Rattle.grub_timeline.specs.inside.Playing.{GoesOnOf}

pub goes_nowhere : (r : ℕ) (before after : List ToldEntry) → after ≡ before → GoesOnOf r before after
goes_nowhere r before after same = record { more = []; list = same ∙ sym (append-nil before); runqueues = tt }

pub goes_on : (r : ℕ) (before after : List ToldEntry) (x : ToldEntry) → x.runqueue ≡ asker r (entries_of before) x.entry.ask → after ≡ before ++ x ∷ [] → GoesOnOf r before after
goes_on r before after x is list = record { more = x ∷ []; list = list; runqueues = (is, tt) }

of_append : (r : ℕ) (before more rest : List ToldEntry) → AreOf r before more → AreOf r (before ++ more) rest → AreOf r before (more ++ rest)
of_append r before [] rest a b = subst (λ l. AreOf r l rest) (append-nil before) b
of_append r before (x ∷ more) rest a b = (a.0, of_append r (before ++ x ∷ []) more rest a.1 (subst (λ l. AreOf r l rest) (sym (append_assoc before (x ∷ []) more)) b))

pub goes_twice : (r : ℕ) (before between after : List ToldEntry) → GoesOnOf r before between → GoesOnOf r between after → GoesOnOf r before after
goes_twice r before between after a b = record {
  more = a.more ++ b.more;
  list = b.list ∙ ap (λ l. l ++ b.more) a.list ∙ append_assoc before a.more b.more;
  runqueues = of_append r before a.more b.more a.runqueues (subst (λ l. AreOf r l b.more) a.list b.runqueues);
}
