-- A word of two halves tells the one value that has it.
use Rattle.std.proofs.Common.{◌≡◌, ℕ, ◌+◌, ◌*◌, ◌/◌, ◌%◌, ◌^◌, ◌↔◌, ◌∙◌, Some, None, Result, Ok, Err, IfOk, IsOk, arith, refl, subst, sym}
use Rattle.std.specs.Result.{result_ok}
use Rattle.grub_book.specs.Bandwidth.{Reservation, IsReservation}
use Rattle.grub_book.specs.declared.server.Server.{Server}
use Rattle.grub_book.specs.declared.event.Reading.{Reading}
use Rattle.grub_table.specs.Words.{queue_word, server_word, params_word, QueueFits, ServerFits}
use Rattle.grub_table.proofs.Found.{found_some, found_none}

-- a kind of value, made of the halves of its word
module _ {V : Type 0} (Fits : V → Type 0) (word_of : V → ℕ) (made_of : ℕ → ℕ → V) (word_of-made : (low high : ℕ) → word_of (made_of low high) ≡ low + 2 ^ 32 * high) (made_of-halves : (v : V) → Fits v → made_of (word_of v % 2 ^ 32) (word_of v / 2 ^ 32) ≡ v) where
  same_value : (a b : V) → Fits a → Fits b → word_of a ≡ word_of b → a ≡ b
  same_value a b f g e = let h = made_of-halves a f in let k = made_of-halves b g in cc

  module _ (word low high : ℕ) (is_low : low ≡ word % 2 ^ 32) (is_high : high ≡ word / 2 ^ 32) where
    only_value : (v : V) → Fits v → word_of v ≡ word → v ≡ made_of low high
    only_value v fits e = let h = made_of-halves v fits in cc

    pub halves_found : Fits (made_of low high) → (v : V) → (Some (made_of low high) ≡ Some v) ↔ (Fits v × (word_of v ≡ word))
    halves_found fits = let both : low + 2 ^ 32 * high ≡ word = omega arith in found_some Fits word_of word _ fits (word_of-made low high ∙ both) only_value

    pub halves_not_found : (Fits (made_of low high) → ⊥) → (v : V) → (None ≡ Some v) ↔ (Fits v × (word_of v ≡ word))
    halves_not_found never = found_none Fits word_of word (λ v fits e. never (subst Fits (only_value v fits e) fits))

    -- what a constructor that checks makes of the halves
    pub halves_checked : {E : Type 0} (r : Result V E) → IfOk r (λ v. v ≡ made_of low high) → (IsOk r ↔ Fits (made_of low high)) → (v : V) → (result_ok r ≡ Some v) ↔ (Fits v × (word_of v ≡ word))
    halves_checked (Ok p) same accepted = subst (λ q. (v : V) → (Some q ≡ Some v) ↔ (Fits v × (word_of v ≡ word))) (sym same) (halves_found (accepted.0 refl))
    halves_checked (Err e) same accepted = halves_not_found (λ fits. let h = accepted.1 fits in absurd cc)

abbrev pub reading : ℕ → ℕ → Reading
reading running this = record { running = running; this = this }

abbrev pub server : ℕ → ℕ → Server
server q d = record { q = q; d = d }

abbrev pub reservation : ℕ → ℕ → Reservation
reservation runtime period = record { runtime = runtime; period = period }

pub queue_word-made : (low high : ℕ) → queue_word (reading low high) ≡ low + 2 ^ 32 * high
unfolding queue_word
queue_word-made low high = refl

pub server_word-made : (low high : ℕ) → server_word (server low high) ≡ low + 2 ^ 32 * high
unfolding server_word
server_word-made low high = refl

pub params_word-made : (low high : ℕ) → params_word (reservation low high) ≡ low + 2 ^ 32 * high
unfolding params_word
params_word-made low high = refl

pub reading-halves : (now : Reading) → QueueFits now → reading (queue_word now % 2 ^ 32) (queue_word now / 2 ^ 32) ≡ now
unfolding queue_word
reading-halves now fits =
    let h = fits.running in
    let k = fits.this in
    let low : queue_word now % 2 ^ 32 ≡ now.running = omega arith in
    let high : queue_word now / 2 ^ 32 ≡ now.this = omega arith in
    let same : reading (queue_word now % 2 ^ 32) (queue_word now / 2 ^ 32) ≡ reading now.running now.this = cc in
    same

pub server-halves : (s : Server) → ServerFits s → server (server_word s % 2 ^ 32) (server_word s / 2 ^ 32) ≡ s
unfolding server_word
server-halves s fits =
    let h = fits.most in
    let low : server_word s % 2 ^ 32 ≡ s.q = omega arith in
    let high : server_word s / 2 ^ 32 ≡ s.d = omega arith in
    let same : server (server_word s % 2 ^ 32) (server_word s / 2 ^ 32) ≡ server s.q s.d = cc in
    same

pub reservation-halves : (p : Reservation) → IsReservation p → reservation (params_word p % 2 ^ 32) (params_word p / 2 ^ 32) ≡ p
unfolding params_word
reservation-halves p is =
    let h = is.runtime.1 in
    let k = is.period.1 in
    let low : params_word p % 2 ^ 32 ≡ p.runtime = omega arith in
    let high : params_word p / 2 ^ 32 ≡ p.period = omega arith in
    let same : reservation (params_word p % 2 ^ 32) (params_word p / 2 ^ 32) ≡ reservation p.runtime p.period = cc in
    same

-- two values of a kind that have one word are one
pub same_queue : (a b : Reading) → QueueFits a → QueueFits b → queue_word a ≡ queue_word b → a ≡ b
same_queue = same_value QueueFits queue_word reading queue_word-made reading-halves

pub same_server : (a b : Server) → ServerFits a → ServerFits b → server_word a ≡ server_word b → a ≡ b
same_server = same_value ServerFits server_word server server_word-made server-halves

pub same_params : (a b : Reservation) → IsReservation a → IsReservation b → params_word a ≡ params_word b → a ≡ b
same_params = same_value IsReservation params_word reservation params_word-made reservation-halves
