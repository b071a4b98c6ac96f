-- A player that has asked nothing yet.
use Rattle.std.proofs.Common.{◌≡◌, ℕ, ◌+◌, ◌<◌, ◌≤◌, [], Bool, true, false, nat_lt, length, get_or, List, replicate, refl, sym, ap, ◌∙◌, subst, arith}
use Rattle.std.proofs.lemmas.List.Elements.{All-nil}
use Rattle.std.proofs.lemmas.Bool.{ltb-true, ltb-false}
use Rattle.std.proofs.lemmas.List.{get_or-replicate, get_or_past, length-replicate}
use Rattle.std.specs.FinMap as map
use Rattle.grub_book.specs.Machine.{Machine}
use Rattle.grub_book.specs.Sums.{opening_book}
use Rattle.grub_book.specs.Sound.{Standing}
use Rattle.grub_plan.specs.Plans.{IsAskOf}
use Rattle.grub_plan.specs.Answers.{IsAnswered}
use Rattle.grub_plan.specs.Keeping.{places_of}
use Rattle.grub_plan.proofs.Kept.{kept_nothing}
use Rattle.grub_timeline.specs.declared.told.ToldEntry.{ToldEntry}
use Rattle.grub_timeline.specs.declared.player.Player.{Player}
use Rattle.grub_timeline.specs.TimeLines.{armer, entries_of}
use Rattle.grub_timeline.specs.inside.Merge.{AreNone}
use Rattle.grub_timeline.specs.inside.Playing.{AreArmers, IsChunk, IsKnown, IsPlaying}

abbrev zeros : ℕ → List ℕ
zeros k = replicate {A = ℕ} k 0

pub none_done : (n k : ℕ) (done : List ℕ) → done ≡ zeros k → k ≡ n → AreNone n done
none_done n k done is all = record { one_each = ap length is ∙ length-replicate {A = ℕ} k 0 ∙ all; none = λ r. ap (λ (l : List ℕ). get_or l r 0) is ∙ at r (nat_lt r k) refl }
  where
    at : (r : ℕ) (b : Bool) → nat_lt r k ≡ b → get_or (zeros k) r 0 ≡ 0
    at r true lt = get_or-replicate {A = ℕ} k r 0 0 (ltb-true r k lt)
    at r false ge = let high = ltb-false r k ge in let long = length-replicate {A = ℕ} k 0 in get_or_past (zeros k) r 0 (omega (arith, high, long))

known_nothing : (s : Machine) → IsKnown s (opening_book s) []
known_nothing s = record {
  legal = tt;
  book = refl;
  answered = All-nil (λ (k : ToldEntry). IsAnswered k.entry.ask k.entry.answer);
  within = All-nil (λ (k : ToldEntry). (k.runqueue < length s.queues) × IsAskOf (length s.tasks) k.entry.ask);
}

pub playing_first : (p : Player) (s : Machine) → IsChunk p → length s.tasks + 1 ≤ places_of p.wheel → p.book ≡ record { setup = s; records = opening_book s } → p.told.items ≡ [] → p.wheel.timers ≡ map.empty → 1 ≤ length s.queues → length p.armers.items ≡ length s.tasks
    → ((t d : ℕ) → t < length s.tasks → get_or p.armers.items t d ≡ 0) → IsPlaying p
playing_first p s chunk places opens none empty some many zeros =
    let setup : p.book.setup ≡ s = ap (λ (b : Standing). b.setup) opens in record {
      chunk = chunk;
      places = let same = ap (λ (k : Machine). length k.tasks) setup in omega (arith, places, same);
      told = subst (λ (told : List ToldEntry). IsKnown p.book.setup p.book.records told) (sym none) (subst (λ (b : Standing). IsKnown b.setup b.records []) (sym opens) (known_nothing s));
      kept = kept_nothing p.book.setup (entries_of p.told.items) p.wheel.timers (ap entries_of none) empty;
      armers = subst (λ (k : Machine). AreArmers k (entries_of p.told.items) p.armers.items) (sym setup) (record {
        one_each = many;
        each = λ t d low. zeros t d low ∙ sym (ap (λ told. armer (entries_of told) t) none);
        there = λ t. subst (λ n. n < length s.queues) (sym (ap (λ told. armer (entries_of told) t) none)) (omega (arith, some));
      });
    }
