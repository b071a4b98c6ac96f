-- A book whose origin was moved: the first task that holds it back, along a loop; and what stays.
use Rattle.std.proofs.Common.{◌≡◌, ℕ, ◌+◌, ◌<◌, ◌≤◌, Bool, true, false, cond, List, [], ◌∷◌, length, get_or, drop, map, Option, Some, None, nat_lt, ◌↔◌, min, refl, sym, ap, ◌∙◌, arith}
use Rattle.std.specs.List.{position_from}
use Rattle.std.proofs.lemmas.Bool.{ltb-true, ltb-false}
use Rattle.std.proofs.lemmas.List.{at_drop_more, at_drop_all, get_or-map, length-map}
use Rattle.std.proofs.lemmas.List.Sums.{sum_by-cons}
use Rattle.grub_book.specs.Machine.{Machine}
use Rattle.grub_book.specs.Sums.{Records, record_at, share_of, bandwidth_where, is_on, is_active_on, reading_of}
use Rattle.grub_book.specs.Sound.{IsKept, IsSound, Standing}
use Rattle.grub_book.specs.Rebase.{bound_of, is_before, holds_back, rebased, book_rebased}
use Rattle.grub_book.specs.inside.Standings.{IsTotalled, AllFit, lesser_of}
use Rattle.grub_book.specs.declared.place.Place.{Place}
use Rattle.grub_book.specs.declared.place.Record.{Record}
use Rattle.grub_book.specs.declared.event.Reading.{Reading}
use Rattle.grub_book.proofs.Totals.{same_sums}

-- those before this place let the origin move
abbrev pub NoneBefore : {A : Type 0} → (A → Bool) → List A → ℕ → Type 0
NoneBefore test xs i = position_from test i (drop i xs) ≡ position_from test 0 xs

pub none_more : {A : Type 0} (test : A → Bool) (xs : List A) (i : ℕ) (d : A) → i < length xs → NoneBefore test xs i → test (get_or xs i d) ≡ false → NoneBefore test xs (i + 1)
none_more test xs i d there was out =
    let skip = ap (λ b. cond b (Some i) (position_from test (i + 1) (drop (i + 1) xs))) out in
    sym (at_drop_more (position_from test i) xs i d there ∙ skip) ∙ was

pub first_here : {A : Type 0} (test : A → Bool) (xs : List A) (i : ℕ) (d : A) → i < length xs → NoneBefore test xs i → test (get_or xs i d) ≡ true → Some i ≡ position_from test 0 xs
first_here test xs i d there was held =
    let stop = ap (λ b. cond b (Some i) (position_from test (i + 1) (drop (i + 1) xs))) held in
    sym (at_drop_more (position_from test i) xs i d there ∙ stop) ∙ was

pub none_at_all : {A : Type 0} (test : A → Bool) (xs : List A) (i : ℕ) → length xs ≤ i → NoneBefore test xs i → None ≡ position_from test 0 xs
none_at_all test xs i past was = sym (at_drop_all (position_from test i) xs i past) ∙ was

-- what a task adds stays
shares : (passes : Place → Bool) (by : ℕ) (book : Records) → bandwidth_where passes (book_rebased by book) ≡ bandwidth_where passes book
shares passes by [] = refl
shares passes by (x ∷ book) =
    let share = share_of passes in
    omega (arith, sum_by-cons share (rebased by x) (map (rebased by) book), sum_by-cons share x book, shares passes by book)

pub reading_rebased : (by : ℕ) (book : Records) (r : ℕ) → reading_of (book_rebased by book) r ≡ reading_of book r
reading_rebased by book r = same_sums _ _ _ _ (shares (is_active_on r) by book) (shares (is_on r) by book)

kept_rebased : (s : Machine) (by : ℕ) (x : Record) → IsKept s x → IsKept s (rebased by x)
kept_rebased s by x kept =
    let d = kept.server.deadline in
    let count = kept.count in
    record {
      reservation = kept.reservation;
      server = record { fits = record { some = kept.server.fits.some; most = kept.server.fits.most }; deadline = omega (arith, d) };
      count = omega (arith, count);
      there = kept.there;
    }

-- the record of a task
pub record_rebased : (by : ℕ) (book : Records) (t : ℕ) → t < length book → record_at (book_rebased by book) t ≡ rebased by (record_at book t)
record_rebased by book t here = get_or-map (rebased by) book t _ _ here

pub sound_rebased : (s : Machine) (by : ℕ) (book : Records) → IsSound s book → IsSound s (book_rebased by book)
sound_rebased s by book sound = record {
  one_each = length-map book (rebased by) ∙ sound.one_each;
  kept = λ t here.
      let there : t < length book = omega (arith, here, sound.one_each) in
      rw (record_rebased by book t there) (kept_rebased s by (record_at book t) (sound.kept t here));
  admitted = λ r there. rw (shares (is_on r) by book) (sound.admitted r there);
}

-- what a book keeps
pub totalled_rebased : (b : Standing) (by : ℕ) (readings : List Reading) → IsTotalled b readings → IsTotalled (record { setup = b.setup; records = book_rebased by b.records }) readings
totalled_rebased b by readings was =
    record {
      standing = record { machine = was.standing.machine; sound = sound_rebased b.setup by b.records was.standing.sound };
      one_each = was.one_each;
      totals = λ r d there. was.totals r d there ∙ sym (reading_rebased by b.records r);
    }

pub all_fit : (b : Standing) (readings : List Reading) → IsTotalled b readings → AllFit b.records
all_fit b readings was t here =
    let sound = was.standing.sound in
    (sound.kept t (omega (arith, here, sound.one_each))).server.fits

-- no task from this place on holds the origin back, and the limit so far does not
abbrev pub AreFree : ℕ → Records → ℕ → ℕ → Type 0
AreFree by book i least = (by ≤ least) × (position_from (holds_back by) i (drop i book) ≡ None)

abbrev free_next : ℕ → ℕ → ℕ → Option ℕ → Option ℕ → Type 0
free_next by i least o rest = (by ≤ least) × (cond (is_before o by) (Some i) rest ≡ None)

-- the moment of one task, and then those of the rest
free_some : (b : Bool) (by i least m : ℕ) (rest : Option ℕ) → nat_lt m by ≡ b → ((by ≤ least) × (cond b (Some i) rest ≡ None)) ↔ ((by ≤ min least m) × (rest ≡ None))
free_some true by i least m rest e = (λ h. absurd cc, λ h. let less = ltb-true m by e in let g = h.0 in absurd (omega (arith, less, g)))
free_some false by i least m rest e = let more = ltb-false m by e in (λ h. let g = h.0 in (omega (arith, more, g), h.1), λ h. let g = h.0 in (omega (arith, more, g), h.1))

free_one : (by i least : ℕ) (o rest : Option ℕ) → free_next by i least o rest ↔ ((by ≤ lesser_of least o) × (rest ≡ None))
free_one by i least None rest = (λ h. h, λ h. h)
free_one by i least (Some m) rest = free_some (nat_lt m by) by i least m rest refl

pub free_more : (by : ℕ) (book : Records) (i least : ℕ) (d : Record) → i < length book → AreFree by book i least ↔ AreFree by book (i + 1) (lesser_of least (bound_of (get_or book i d)))
free_more by book i least d there =
    let one = free_one by i least (bound_of (get_or book i d)) (position_from (holds_back by) (i + 1) (drop (i + 1) book)) in
    let is = at_drop_more (position_from (holds_back by) i) book i d there in
    (λ h. one.0 (h.0, sym is ∙ h.1), λ h. let back = one.1 h in (back.0, is ∙ back.1))
