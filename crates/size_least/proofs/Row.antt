-- Renewals in a row: what holds of the order in which they stand.
use Rattle.std.proofs.Common.{◌≡◌, ℕ, ◌+◌, ◌-◌, ◌%◌, ◌<◌, ◌≤◌, min, Bool, true, false, ◌||◌, ◌&&◌, ◌==◌, cond, nat_le, nat_lt, List, [], ◌∷◌, ◌++◌, map, length, get_or, inl, inr, refl, sym, ap, ◌∙◌, arith}
use Rattle.std.proofs.lemmas.Bool.{le-leb, lt-leb, lt-ltb, le-ltb, cases_lt, cases_Bool}
use Rattle.size_least.specs.inside.Queue.{told, after_first, passed, turned, last_of, latest_of, HasRoom, CanPass}
use Rattle.size_least.specs.inside.Walk.{covers, has_less, is_over, joined, remembered, Rises, AreBelow, IsRow, AreWithin, IsKept}
use Rattle.size_least.specs.declared.renewal.Renewal.{Renewal}

pub renewal_is : (f g l m : ℕ) → f ≡ g → l ≡ m → let x : Renewal = record { finish = f; left = l } in let y : Renewal = record { finish = g; left = m } in x ≡ y
renewal_is f g l m e d = rw (e, d) refl

-- clocks that wrap go on with what is below the greatest number
clock_on : (k c t : ℕ) → (k + c) % 18446744073709551616 + t < 18446744073709551616 → (k + (c + t) % 18446744073709551616) % 18446744073709551616 ≡ (k + c) % 18446744073709551616 + t
clock_on k c t h = omega arith

clock_back : (k c t : ℕ) → t < 18446744073709551616 → t ≤ (k + c) % 18446744073709551616 → (k + (c + (18446744073709551616 - t)) % 18446744073709551616) % 18446744073709551616 ≡ (k + c) % 18446744073709551616 - t
clock_back k c t small h = omega arith

cons_is : (x y : Renewal) (xs ys : List Renewal) → x ≡ y → xs ≡ ys → x ∷ xs ≡ y ∷ ys
cons_is x y xs ys e f = rw (e, f) refl

pub told-passed : (later more time used : ℕ) (rs : List Renewal) → used < 18446744073709551616 → CanPass time used (map (told later more) rs)
    → map (told ((later + time) % 18446744073709551616) ((more + (18446744073709551616 - used)) % 18446744073709551616)) rs ≡ map (passed time used) (map (told later more) rs)
told-passed later more time used [] small h = refl
told-passed later more time used (r ∷ rs) small h =
    let head = renewal_is _ _ _ _ (clock_on r.finish later time h.0) (clock_back r.left more used small h.1) in
    cons_is _ _ _ _ head (told-passed later more time used rs small h.2)

pub told-on : (later more later' more' time used : ℕ) (es rs : List Renewal) → map (told later more) es ≡ rs → later' ≡ (later + time) % 18446744073709551616 → more' ≡ (more + (18446744073709551616 - used)) % 18446744073709551616
    → used < 18446744073709551616 → CanPass time used rs → map (told later' more') es ≡ map (passed time used) rs
told-on later more later' more' time used es rs view is is' small can =
    let can' : CanPass time used (map (told later more) es) = rw view can in
    rw (is, is', ← view) (told-passed later more time used es small can')

last-told : (later more : ℕ) (e : Renewal) (es : List Renewal) → last_of (told later more e) (map (told later more) es) ≡ told later more (last_of e es)
last-told later more e [] = refl
last-told later more e (x ∷ es) = last-told later more x es

last-at : (e : Renewal) (es : List Renewal) (d : Renewal) → get_or (e ∷ es) (length es) d ≡ last_of e es
last-at e [] d = refl
last-at e (x ∷ es) d = last-at x es d

-- the last of those that are kept tells when the last is done
pub latest-told : (later more n : ℕ) (es rs : List Renewal) (x : Renewal) → map (told later more) es ≡ rs → length es ≡ n → 0 < n → x ≡ get_or es (n - 1) x → (x.finish + later) % 18446744073709551616 ≡ latest_of rs
latest-told later more n [] rs x view long some is = absurd (omega arith)
latest-told later more n (e ∷ es) rs x view long some is =
    let at : n - 1 ≡ length es = omega arith in
    let last : x ≡ last_of e es = is ∙ ap (λ k. get_or (e ∷ es) k x) at ∙ last-at e es x in
    rw (← view) (ap (λ (r : Renewal). (r.finish + later) % 18446744073709551616) last ∙ ap (λ (r : Renewal). r.finish) (sym (last-told later more e es)))

-- the order
pub AreBelow-more : (f l f' l' : ℕ) (rs : List Renewal) → AreBelow f l rs → f ≤ f' → l ≤ l' → AreBelow f' l' rs
AreBelow-more f l f' l' [] h le le' = tt
AreBelow-more f l f' l' (r ∷ rs) h le le' = (omega arith, omega arith, AreBelow-more f l f' l' rs h.2 le le')

AreBelow-append : (f l : ℕ) (rs : List Renewal) (x : Renewal) → AreBelow f l rs → x.finish ≤ f → x.left ≤ l → AreBelow f l (rs ++ x ∷ [])
AreBelow-append f l [] x h le le' = (le, le', tt)
AreBelow-append f l (r ∷ rs) x h le le' = (h.0, h.1, AreBelow-append f l rs x h.2 le le')

Rises-append : (f l : ℕ) (rs : List Renewal) (x : Renewal) → Rises f l rs → AreBelow x.finish x.left rs → f ≤ x.finish → l ≤ x.left → Rises f l (rs ++ x ∷ [])
Rises-append f l [] x h below le le' = (le, le', tt)
Rises-append f l (r ∷ rs) x h below le le' = (h.0, h.1, Rises-append r.finish r.left rs x h.2 below.2 below.0 below.1)

IsRow-rest : (gap q : ℕ) (r : Renewal) (rs : List Renewal) → IsRow gap q (r ∷ rs) → IsRow gap q rs
IsRow-rest gap q r [] h = tt
IsRow-rest gap q r (s ∷ rs) h = (h.0.2, AreBelow-more (r.finish + gap) (r.left + q) (s.finish + gap) (s.left + q) rs h.1.2 (let le : r.finish ≤ s.finish = h.0.0 in omega arith) (let le : r.left ≤ s.left = h.0.1 in omega arith))

pub IsRow-turned : (gap q : ℕ) (rs : List Renewal) → IsRow gap q rs → IsRow gap q (turned gap q rs)
IsRow-turned gap q [] h = tt
IsRow-turned gap q (r ∷ []) h = (tt, tt)
IsRow-turned gap q (r ∷ s ∷ rs) h =
    let x : Renewal = record { finish = r.finish + gap; left = r.left + q } in
    let later : r.finish ≤ s.finish = h.0.0 in
    let more : r.left ≤ s.left = h.0.1 in (
      Rises-append s.finish s.left rs x h.0.2 h.1.2 h.1.0 h.1.1,
      AreBelow-append (s.finish + gap) (s.left + q) rs x (AreBelow-more (r.finish + gap) (r.left + q) (s.finish + gap) (s.left + q) rs h.1.2 (omega arith) (omega arith)) (omega arith) (omega arith),
    )

pub first-last : (r : Renewal) (rs : List Renewal) → Rises r.finish r.left rs → r.finish ≤ (last_of r rs).finish
first-last r [] h = omega arith
first-last r (s ∷ rs) h = let rest = first-last s rs h.2 in let le : r.finish ≤ s.finish = h.0 in omega arith

AreBelow-last : (q f l : ℕ) (r : Renewal) (rs : List Renewal) → Rises r.finish r.left rs → (last_of r rs).finish ≤ f → AreWithin q rs → q ≤ l → AreBelow f l rs
AreBelow-last q f l r [] h le within le' = tt
AreBelow-last q f l r (s ∷ rs) h le within le' =
    let last = first-last s rs h.2 in
    let less : s.left < q = within.0 in
    (omega arith, omega arith, AreBelow-last q f l s rs h.2 le within.1 le')

IsKept-rest : (gap q : ℕ) (r : Renewal) (rs : List Renewal) → IsKept gap q (r ∷ rs) → IsKept gap q rs
IsKept-rest gap q r rs h = record { row = IsRow-rest gap q r rs h.row; within = h.within.1 }

pub IsKept-remembered : (gap q release : ℕ) (rs : List Renewal) → IsKept gap q rs → IsKept gap q (remembered release rs)
IsKept-remembered gap q release [] h = h
IsKept-remembered gap q release (r ∷ rs) h =
    elim (nat_le r.finish release) as (λ b. IsKept gap q (cond b (remembered release rs) (r ∷ rs))) [
      | true ↦ IsKept-remembered gap q release rs (IsKept-rest gap q r rs h)
      | false ↦ h
    ]

-- the first is not done by a release
abbrev IsAfter : ℕ → List Renewal → Type 0
IsAfter release [] = Unit {0}
IsAfter release (r ∷ rs) = release < r.finish

IsAfter-remembered : (release : ℕ) (rs : List Renewal) → IsAfter release (remembered release rs)
IsAfter-remembered release [] = tt
IsAfter-remembered release (r ∷ rs) =
    elim (cases_lt release r.finish) [
      | inl after ↦ rw (lt-leb r.finish release after) after
      | inr over ↦ rw (le-leb r.finish release over) (IsAfter-remembered release rs)
    ]

or_right : (x y : Bool) → (x || y) ≡ false → y ≡ false
or_right true y e = absurd cc
or_right false y e = e

far : (a b : ℕ) → nat_le a b ≡ false → b < a
far a b e = elim (cases_lt b a) [ inl lt ↦ lt | inr le ↦ (let is : nat_le a b ≡ true = le-leb a b le in absurd cc) ]

IsKept-joined_on : (gap q release : ℕ) (rs : List Renewal) → 0 < q → IsKept gap q rs → IsAfter release rs → covers gap release rs ≡ false → IsKept gap q (record { finish = release; left = 0 } ∷ rs)
IsKept-joined_on gap q release [] some h after apart = record { row = (tt, tt); within = (some, tt) }
IsKept-joined_on gap q release (r ∷ rs) some h after apart =
    let late : (last_of r rs).finish < min (release + gap) 18446744073709551615 = far _ _ (or_right ((r.left == 0) && nat_le release r.finish) _ apart) in
    let last = first-last r rs h.row.0 in
    let less : r.left < q = h.within.0 in
    record {
      row = ((omega arith, omega arith, h.row.0), (omega arith, omega arith, AreBelow-last q (release + gap) (0 + q) r rs h.row.0 (omega arith) h.within.1 (omega arith)));
      within = (some, h.within);
    }

pub IsKept-joined : (gap q release : ℕ) (rs : List Renewal) → 0 < q → IsKept gap q rs → IsKept gap q (joined gap release (remembered release rs))
IsKept-joined gap q release rs some h =
    let old = remembered release rs in
    let kept = IsKept-remembered gap q release rs h in
    elim (cases_Bool (covers gap release old)) [
      | inl covered ↦ rw covered kept
      | inr apart ↦ rw apart (IsKept-joined_on gap q release old some kept (IsAfter-remembered release rs) apart)
    ]

pub some-joined : (gap release : ℕ) (rs : List Renewal) → 0 < length (joined gap release rs)
some-joined gap release [] = omega arith
some-joined gap release (r ∷ rs) =
    elim (covers gap release (r ∷ rs)) as (λ b. 0 < length (cond b (r ∷ rs) (record { finish = release; left = 0 } ∷ r ∷ rs))) [ true ↦ omega arith | false ↦ omega arith ]

-- Renewals of which some were turned: of a row that ended by `latest`, each with less left than the runtime.
abbrev pub AreTurned : ℕ → ℕ → ℕ → ℕ → List Renewal → Type 0
AreTurned gap q latest used [] = Unit {0}
AreTurned gap q latest used (r ∷ rs) = (r.left < q → r.finish ≤ latest) × (r.finish ≤ latest + gap) × (r.left < used + q) × AreTurned gap q latest used rs

AreTurned-none_on : (gap q latest used : ℕ) (r : Renewal) (rs : List Renewal) → Rises r.finish r.left rs → AreWithin q (r ∷ rs) → (last_of r rs).finish ≤ latest → AreTurned gap q latest used (r ∷ rs)
AreTurned-none_on gap q latest used r [] rises within le =
    let less : r.left < q = within.0 in (λ h. le, omega arith, omega arith, tt)
AreTurned-none_on gap q latest used r (s ∷ rs) rises within le =
    let less : r.left < q = within.0 in
    let last = first-last r (s ∷ rs) rises in
    (λ h. omega arith, omega arith, omega arith, AreTurned-none_on gap q latest used s rs rises.2 within.1 le)

pub AreTurned-none : (gap q used : ℕ) (rs : List Renewal) → IsKept gap q rs → AreTurned gap q (latest_of rs) used rs
AreTurned-none gap q used [] h = tt
AreTurned-none gap q used (r ∷ rs) h = AreTurned-none_on gap q (last_of r rs).finish used r rs h.row.0 h.within (omega arith)

AreTurned-append : (gap q latest used : ℕ) (rs : List Renewal) (x : Renewal) → AreTurned gap q latest used rs → q ≤ x.left → x.finish ≤ latest + gap → x.left < used + q → AreTurned gap q latest used (rs ++ x ∷ [])
AreTurned-append gap q latest used [] x h le le' less = (λ lt. absurd (omega arith), le', less, tt)
AreTurned-append gap q latest used (r ∷ rs) x h le le' less = (h.0, h.1, h.2, AreTurned-append gap q latest used rs x h.3 le le' less)

below : (a b : ℕ) → nat_lt a b ≡ true → a < b
below a b e = elim (cases_lt a b) [ inl lt ↦ lt | inr le ↦ (let is : nat_lt a b ≡ false = le-ltb a b le in absurd cc) ]

above : (a b : ℕ) → nat_lt a b ≡ false → b ≤ a
above a b e = elim (cases_lt a b) [ inl lt ↦ (let is : nat_lt a b ≡ true = lt-ltb a b lt in absurd cc) | inr le ↦ le ]

first_has_less : (used : ℕ) (r : Renewal) → nat_lt r.left used ≡ true → r.left < used
first_has_less used r e = below _ _ e

pub AreTurned-turned : (gap q latest used : ℕ) (rs : List Renewal) → used < q → has_less used rs ≡ true → AreTurned gap q latest used rs → AreTurned gap q latest used (turned gap q rs)
AreTurned-turned gap q latest used [] fits less h = tt
AreTurned-turned gap q latest used (r ∷ rs) fits less h =
    let few = first_has_less used r less in
    let early = h.0 (omega arith) in
    AreTurned-append gap q latest used rs (record { finish = r.finish + gap; left = r.left + q }) h.3 (omega arith) (omega arith) (omega arith)

pub room-turned : (gap q latest used : ℕ) (rs : List Renewal) → used < q → q < 4294967296 → latest + gap < 18446744073709551616 → has_less used rs ≡ true → AreTurned gap q latest used rs → HasRoom gap q rs
room-turned gap q latest used [] under small fits less h = tt
room-turned gap q latest used (r ∷ rs) under small fits less h =
    let few = first_has_less used r less in
    let early = h.0 (omega arith) in
    (omega arith, omega arith)

-- how many have less left
abbrev pub less_count : ℕ → List Renewal → ℕ
less_count used [] = 0
less_count used (r ∷ rs) = cond (nat_lt r.left used) 1 0 + less_count used rs

less_count-append : (used : ℕ) (rs : List Renewal) (x : Renewal) → used ≤ x.left → less_count used (rs ++ x ∷ []) ≡ less_count used rs
less_count-append used [] x le = rw (le-ltb x.left used le) refl
less_count-append used (r ∷ rs) x le = ap (λ n. cond (nat_lt r.left used) 1 0 + n) (less_count-append used rs x le)

pub less_count-turned : (gap q used : ℕ) (rs : List Renewal) → used < q → has_less used rs ≡ true → less_count used (turned gap q rs) < less_count used rs
less_count-turned gap q used [] fits less = absurd cc
less_count-turned gap q used (r ∷ rs) fits less =
    let has : nat_lt r.left used ≡ true = less in
    let same = less_count-append used rs (record { finish = r.finish + gap; left = r.left + q }) (omega arith) in
    rw has (omega arith)

-- where the first has as much left, each has
rises-used : (used f l : ℕ) (rs : List Renewal) → Rises f l rs → used ≤ l → (time latest gap q : ℕ) → AreTurned gap q latest used rs → latest + gap + time < 18446744073709551616 → CanPass time used rs
rises-used used f l [] rises le time latest gap q h fits = tt
rises-used used f l (r ∷ rs) rises le time latest gap q h fits =
    let more : l ≤ r.left = rises.1 in
    let late : r.finish ≤ latest + gap = h.1 in
    (omega arith, omega arith, rises-used used r.finish r.left rs rises.2 (omega arith) time latest gap q h.3 fits)

pub can-pass : (gap q latest used time : ℕ) (rs : List Renewal) → IsRow gap q rs → has_less used rs ≡ false → AreTurned gap q latest used rs → latest + gap + time < 18446744073709551616 → CanPass time used rs
can-pass gap q latest used time [] row enough h fits = tt
can-pass gap q latest used time (r ∷ rs) row enough h fits =
    let has : used ≤ r.left = above _ _ enough in
    let late : r.finish ≤ latest + gap = h.1 in
    (omega arith, has, rises-used used r.finish r.left rs row.0 has time latest gap q h.3 fits)

Rises-passed : (time used f l : ℕ) (rs : List Renewal) → Rises f l rs → Rises (f + time) (l - used) (map (passed time used) rs)
Rises-passed time used f l [] h = tt
Rises-passed time used f l (r ∷ rs) h =
    let le : f ≤ r.finish = h.0 in let le' : l ≤ r.left = h.1 in
    (omega arith, omega arith, Rises-passed time used r.finish r.left rs h.2)

AreBelow-passed : (time used f l f' l' : ℕ) (rs : List Renewal) → AreBelow f l rs → f + time ≤ f' → l - used ≤ l' → AreBelow f' l' (map (passed time used) rs)
AreBelow-passed time used f l f' l' [] h le le' = tt
AreBelow-passed time used f l f' l' (r ∷ rs) h le le' =
    let at : r.finish ≤ f = h.0 in let at' : r.left ≤ l = h.1 in
    (omega arith, omega arith, AreBelow-passed time used f l f' l' rs h.2 le le')

AreWithin-passed : (gap q latest used time : ℕ) (rs : List Renewal) → AreTurned gap q latest used rs → CanPass time used rs → AreWithin q (map (passed time used) rs)
AreWithin-passed gap q latest used time [] h can = tt
AreWithin-passed gap q latest used time (r ∷ rs) h can =
    let less : r.left < used + q = h.2 in let has : used ≤ r.left = can.1 in
    (omega arith, AreWithin-passed gap q latest used time rs h.3 can.2)

IsRow-passed : (gap q time used : ℕ) (rs : List Renewal) → IsRow gap q rs → IsRow gap q (map (passed time used) rs)
IsRow-passed gap q time used [] h = tt
IsRow-passed gap q time used (r ∷ rs) h = (
  Rises-passed time used r.finish r.left rs h.0,
  AreBelow-passed time used (r.finish + gap) (r.left + q) (r.finish + time + gap) (r.left - used + q) rs h.1 (omega arith) (omega arith),
)

pub IsKept-passed : (gap q latest used time : ℕ) (rs : List Renewal) → IsRow gap q rs → AreTurned gap q latest used rs → CanPass time used rs → IsKept gap q (map (passed time used) rs)
IsKept-passed gap q latest used time rs row h can = record { row = IsRow-passed gap q time used rs row; within = AreWithin-passed gap q latest used time rs h can }

-- letting the first go while it is over
pub forget-next : (release : ℕ) (rs rs' start : List Renewal) → is_over release rs ≡ true → rs' ≡ after_first rs → remembered release rs ≡ start → remembered release rs' ≡ start
forget-next release [] rs' start over is h = absurd cc
forget-next release (r ∷ rs) rs' start over is h = let past : nat_le r.finish release ≡ true = over in rw is (rw past at h)

pub forget-shorter : (release : ℕ) (rs rs' : List Renewal) → is_over release rs ≡ true → rs' ≡ after_first rs → length rs' < length rs
forget-shorter release [] rs' over is = absurd cc
forget-shorter release (r ∷ rs) rs' over is = rw is (omega arith)

pub forget-end : (release : ℕ) (rs start : List Renewal) → is_over release rs ≡ false → remembered release rs ≡ start → rs ≡ start
forget-end release [] start over h = h
forget-end release (r ∷ rs) start over h = let past : nat_le r.finish release ≡ false = over in rw past at h
