-- The word of a task tells its place, its claim bit and its count.
use Rattle.std.proofs.Common.{◌≡◌, ◌≢◌, ◌+◌, ℕ, zero, suc, ◌/◌, ◌%◌, ◌^◌, ◌<◌, ◌≤◌, ◌↔◌, Bool, true, false, IsTrue, Some, None, nat_eq, refl, arith, ap, sym, ◌∙◌}
use mir.Val.{bool_byte}
use Rattle.grub_book.specs.declared.rules.TheConstants.{COUNT_MAX}
use Rattle.grub_book.specs.declared.place.State.TheVariants.{Contending, NonContending, Inactive}
use Rattle.grub_book.specs.declared.place.Place.{Place}
use Rattle.grub_book.specs.declared.place.Place.TheVariants.{Away, Gone, On}
use Rattle.grub_table.specs.declared.task.TaskWord.{TaskWord}
use Rattle.grub_table.specs.Words.{state_code, claim_bit, queue_code, task_word, PlaceFits, TaskFits}
use Rattle.grub_table.proofs.Found.{found_some, found_none}

pub state_code-lt : (place : Place) → state_code place < 5
state_code-lt Away = omega arith
state_code-lt (On r Contending) = omega arith
state_code-lt (On r NonContending) = omega arith
state_code-lt (On r Inactive) = omega arith
state_code-lt Gone = omega arith

pub queue_code-lt : (place : Place) → PlaceFits place → queue_code place < 64
queue_code-lt Away fits = omega arith
queue_code-lt (On r state) fits = fits
queue_code-lt Gone fits = omega arith

pub claim_bit-lt : (claimed : Bool) → claim_bit claimed < 2
claim_bit-lt false = omega arith
claim_bit-lt true = omega arith

same_claim : (a b : Bool) → claim_bit a ≡ claim_bit b → a ≡ b
same_claim false false e = refl
same_claim true true e = refl
same_claim false true e = absurd (omega arith)
same_claim true false e = absurd (omega arith)

-- the place of two codes
abbrev place_from : ℕ → ℕ → Place
place_from zero r = Away
place_from (suc zero) r = On r Contending
place_from (suc (suc zero)) r = On r NonContending
place_from (suc (suc (suc zero))) r = On r Inactive
place_from (suc (suc (suc (suc n)))) r = Gone

place_from-codes : (place : Place) → place_from (state_code place) (queue_code place) ≡ place
place_from-codes Away = refl
place_from-codes (On r Contending) = refl
place_from-codes (On r NonContending) = refl
place_from-codes (On r Inactive) = refl
place_from-codes Gone = refl

same_place : (a b : Place) → state_code a ≡ state_code b → queue_code a ≡ queue_code b → a ≡ b
same_place a b e f = let h = place_from-codes a in let k = place_from-codes b in cc

module _ (place : Place) (count : ℕ) (claimed : Bool) where
  -- the fields of a task's word
  pub state_of_word : task_word place count claimed / 2 ^ 0 % 2 ^ 3 ≡ state_code place
  unfolding task_word
  state_of_word = let h = state_code-lt place in let k = claim_bit-lt claimed in omega arith

  pub claim_of_word : task_word place count claimed / 2 ^ 3 % 2 ^ 1 ≡ claim_bit claimed
  unfolding task_word
  claim_of_word = let h = state_code-lt place in let k = claim_bit-lt claimed in omega arith

  pub queue_of_word : PlaceFits place → task_word place count claimed / 2 ^ 4 % 2 ^ 8 ≡ queue_code place
  unfolding task_word
  queue_of_word fits = let h = state_code-lt place in let k = claim_bit-lt claimed in let q = queue_code-lt place fits in omega arith

  pub count_of_word : PlaceFits place → task_word place count claimed / 2 ^ 12 ≡ count
  unfolding task_word
  count_of_word fits = let h = state_code-lt place in let k = claim_bit-lt claimed in let q = queue_code-lt place fits in omega arith

-- words of fitting places tell all fields
pub same_fields : (p q : Place) (m n : ℕ) (a b : Bool) → PlaceFits p → PlaceFits q → task_word p m a ≡ task_word q n b → (p ≡ q) × (m ≡ n) × (a ≡ b)
same_fields p q m n a b f g e =
    let s : state_code p ≡ state_code q = omega (arith, state_of_word p m a, state_of_word q n b) in
    let r : queue_code p ≡ queue_code q = omega (arith, queue_of_word p m a f, queue_of_word q n b g) in
    let c : claim_bit a ≡ claim_bit b = omega (arith, claim_of_word p m a, claim_of_word q n b) in
    let k : m ≡ n = omega (arith, count_of_word p m a f, count_of_word q n b g) in
    (same_place p q s r, k, same_claim a b c)

-- a word of these fields is that of the task
pub task_word-fields : (word : ℕ) (place : Place) (claimed : Bool) → state_code place ≡ word / 2 ^ 0 % 2 ^ 3 → queue_code place ≡ word / 2 ^ 4 % 2 ^ 8 → claim_bit claimed ≡ word / 2 ^ 3 % 2 ^ 1 → task_word place (word / 2 ^ 12) claimed ≡ word
unfolding task_word
task_word-fields word place claimed s r c = omega arith

abbrev task : Place → ℕ → Bool → TaskWord
task place count claimed = record { place = place; count = count; claimed = claimed }

same_task_word : (t u : TaskWord) → t.place ≡ u.place → t.count ≡ u.count → t.claimed ≡ u.claimed → t ≡ u
same_task_word t u e f g = let same : task t.place t.count t.claimed ≡ task u.place u.count u.claimed = cc in same

abbrev pub word_of : TaskWord → ℕ
word_of t = task_word t.place t.count t.claimed

-- two tasks with one word are one
pub same_task : (t u : TaskWord) → TaskFits t → TaskFits u → word_of t ≡ word_of u → t ≡ u
same_task t u f g e =
    let s = same_fields t.place u.place t.count u.count t.claimed u.claimed f.place g.place e in
    same_task_word t u s.0 s.1 s.2

-- the claim bit as the code converts it
pub bool_byte-claim_bit : (claimed : Bool) → bool_byte claimed ≡ claim_bit claimed
bool_byte-claim_bit false = refl
bool_byte-claim_bit true = refl

claim_bit-eq : (n : ℕ) → n < 2 → claim_bit (nat_eq n 1) ≡ n
claim_bit-eq zero h = refl
claim_bit-eq (suc zero) h = refl
claim_bit-eq (suc (suc n)) h = absurd (omega arith)

module _ (word : ℕ) where
  -- a word with a higher count, or with fields of no place, is no task's
  pub task_not_counted : COUNT_MAX < word / 2 ^ 12 → (t : TaskWord) → (None ≡ Some t) ↔ (TaskFits t × (word_of t ≡ word))
  task_not_counted more = found_none TaskFits word_of word
      (λ t fits e. let k = count_of_word t.place t.count t.claimed fits.place in let h = fits.count in let l = ap (λ w. w / 2 ^ 12) e in omega arith)

  pub task_not_placed : ((place : Place) → PlaceFits place → state_code place ≡ word / 2 ^ 0 % 2 ^ 3 → queue_code place ≡ word / 2 ^ 4 % 2 ^ 8 → ⊥) → (t : TaskWord) → (None ≡ Some t) ↔ (TaskFits t × (word_of t ≡ word))
  task_not_placed never = found_none TaskFits word_of word
      (λ t fits e. never t.place fits.place
      (sym (state_of_word t.place t.count t.claimed) ∙ ap (λ w. w / 2 ^ 0 % 2 ^ 3) e)
      (sym (queue_of_word t.place t.count t.claimed fits.place) ∙ ap (λ w. w / 2 ^ 4 % 2 ^ 8) e))

  pub task_found : (place : Place) (claim : ℕ) → PlaceFits place → state_code place ≡ word / 2 ^ 0 % 2 ^ 3 → queue_code place ≡ word / 2 ^ 4 % 2 ^ 8 → claim ≡ word / 2 ^ 3 % 2 ^ 1 → word / 2 ^ 12 ≤ COUNT_MAX → (t : TaskWord) → (Some (record { place = place; count = word / 2 ^ 12; claimed = nat_eq claim 1 }) ≡ Some t) ↔ (TaskFits t × (word_of t ≡ word))
  task_found place claim fits s q c most =
      let v : TaskWord = record { place = place; count = word / 2 ^ 12; claimed = nat_eq claim 1 } in
      let f : TaskFits v = record { place = fits; count = most } in
      let b : claim_bit (nat_eq claim 1) ≡ word / 2 ^ 3 % 2 ^ 1 = claim_bit-eq claim (omega arith) ∙ c in
      let e : word_of v ≡ word = task_word-fields word place (nat_eq claim 1) s q b in
      found_some TaskFits word_of word v f e (λ u g h. same_task u v g f (h ∙ sym e))

-- a claim adds bit 3
pub task_word-claimed : (place : Place) (count : ℕ) → task_word place count true ≡ task_word place count false + 2 ^ 3
unfolding task_word
task_word-claimed place count = omega arith

pub claim_test : (place : Place) (count : ℕ) (claimed : Bool) → IsTrue claimed ↔ (task_word place count claimed / 2 ^ 3 % 2 ≡ 1)
claim_test place count true = (λ _. claim_of_word place count true, λ _. refl)
claim_test place count false = (λ h. absurd cc, λ h. let k = claim_of_word place count false in absurd (omega arith))

pub claims_apart : (p q : Place) (m n : ℕ) → task_word p m true ≢ task_word q n false
claims_apart p q m n e = let h = claim_of_word p m true in let k = claim_of_word q n false in let l = ap (λ w. w / 2 ^ 3 % 2 ^ 1) e in omega arith
