-- What makes a step allowed: whatever the table is, the rule goes on, and the pass is told.
use Rattle.std.proofs.Common.{◌≡◌, ℕ, ◌+◌, ◌<◌, length, get_or, sym, refl, ap, ◌∙◌, subst, arith}
use mathlib.Core.Option.{some}
use lib.ListN.{get_elem?}
use Rattle.atomic_table.specs.Table.{State, keeps, stepped}
use Rattle.grub_book.specs.Op.{IsOp}
use Rattle.grub_book.specs.declared.op.Op.{Op}
use Rattle.grub_table.specs.declared.shared.Shared.{Shared}
use Rattle.grub_table.specs.declared.seated.Seated.{Seated}
use Rattle.grub_table.specs.declared.view.Note.{Note}
use Rattle.grub_table.specs.declared.view.Share.{Share}
use Rattle.grub_table.specs.declared.view.Terms.{Terms}
use Rattle.grub_table.specs.declared.view.View.{View}
use Rattle.grub_table.specs.Calls.{share_on, IsSeatOf}
use Rattle.grub_table.specs.Layout.{queue_word_at, task_word_at}
use Rattle.grub_table.specs.inside.Between.{IsAllowed}
use Rattle.grub_table.specs.inside.Rule.{Kept}
use Rattle.grub_table.specs.inside.Tellings.{Turns, OfQueue}
use Rattle.grub_table.specs.inside.Views.{alone, holding}
use Rattle.grub_table.proofs.Turns.{Out}

module _ (s : Shared) (seat : Seated) (is : IsSeatOf s seat) where
  abbrev x : Share
  x = share_on seat

  abbrev T : Terms
  T = s.terms

  -- the rule is of the terms that the pass knows
  abbrev key : Terms
  key = s.table.inner.shared.key

  of_key : x.terms ≡ key
  of_key = is.terms ∙ sym s.kept

  -- what a step does to each state that the rule allows
  abbrev Goes : ℕ → (ℕ → ℕ) → (ℕ → Terms → Share → Share → Type 0) → Type 0
  Goes i f P = (st : State Note View) (k : Kept x.terms st) → get_elem? st.views seat.seat.id ≡ some (alone x) → Out x st seat.seat.id seat.seat.me.1 i (f (get_or st.words i 0)) (P (get_or st.words i 0))

  allowed : (i : ℕ) (f : ℕ → ℕ) (P : ℕ → Terms → Share → Share → Type 0) → i < s.table.inner.shared.table_id.words → Goes i f P → IsAllowed s seat i f P
  allowed i f P within goes = (
    within,
    λ st k _ at _.
        let mine = ap (λ m. m.0.view) seat.single in
        let o = goes st (subst (λ (U : Terms). Kept U st) (sym of_key) k) (at ∙ ap some mine) in (
          alone (holding x o.0 o.1 o.2),
          keeps,
          tt,
          subst (λ (U : Terms). Kept U (stepped st i (f (get_or st.words i 0)) seat.seat.id seat.seat.me.1 (alone (holding x o.0 o.1 o.2)) keeps)) of_key o.3,
          subst (λ (v : View). Turns (P (get_or st.words i 0)) (v, seat.seat.me.1) (alone (holding x o.0 o.1 o.2), seat.seat.me.1)) (sym mine) (record { single = refl; terms = refl; number = refl; told = o.4 }),
        ),
  )

  -- the same at a word that is known by its place in the table's own setup
  pub allowed_at : (g : Terms → ℕ) (j : ℕ) (f : ℕ → ℕ) (P : ℕ → Terms → Share → Share → Type 0) → j ≡ g T → j < s.table.inner.shared.table_id.words → Goes (g x.terms) f P → IsAllowed s seat j f P
  allowed_at g j f P e within goes =
      let own : j ≡ g x.terms = e ∙ ap g (sym is.terms) in
      subst (λ w. IsAllowed s seat w f P) (sym own) (allowed (g x.terms) f P (subst (λ w. w < s.table.inner.shared.table_id.words) own within) goes)

  pub own_task : (t : ℕ) → t < length T.setup.tasks → t < length x.terms.setup.tasks
  own_task t lt = subst (λ (U : Terms). t < length U.setup.tasks) (sym is.terms) lt

  pub own_op : (op : Op) → IsOp T.setup op → IsOp x.terms.setup op
  own_op op fits = subst (λ (U : Terms). IsOp U.setup op) (sym is.terms) fits

  pub own_queue : (r : ℕ) → r < length T.setup.queues → r < length x.terms.setup.queues
  own_queue r lt = subst (λ (U : Terms). r < length U.setup.queues) (sym is.terms) lt

  pub task_within : (t j k : ℕ) → t < length T.setup.tasks → k < 3 → j ≡ task_word_at T.setup t + k → j < s.table.inner.shared.table_id.words
  task_within t j k lt small e = let words = s.words in omega (arith, words, lt, small, e)

  pub queue_within : (r j : ℕ) → r < length T.setup.queues → j ≡ queue_word_at r → j < s.table.inner.shared.table_id.words
  queue_within r j lt e = let words = s.words in omega (arith, words, lt, e)

  -- what is told of a runqueue is told of the one whose word it is
  pub queue_told : (r : ℕ) (P : ℕ → Terms → Share → Share → Type 0) (U : Terms) (y : Share) (j : ℕ) → j ≡ queue_word_at r → P r U x y → OfQueue j P U x y
  queue_told r P U y j e told = λ q eq. subst (λ m. P m U x y) (same r q (sym e ∙ eq)) told
    where
      same : (p q : ℕ) → queue_word_at p ≡ queue_word_at q → p ≡ q
      same p q e = omega arith
