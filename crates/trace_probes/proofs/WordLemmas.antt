-- Words that are read from the front of a text on.
use Rattle.std.proofs.Common.{◌≡◌, ℕ, suc, ◌+◌, ◌-◌, ◌*◌, ◌^◌, ◌<◌, ◌≤◌, Bool, true, false, not, ◌&&◌, cond, nat_eq, List, [], ◌∷◌, length, take, drop, get_or, codes, Option, Some, None, option_map, refl, sym, ◌∙◌, ap, arith, subst}
use Rattle.std.specs.List.{onto_first, position_or_len}
use Rattle.std.specs.Str.{bytes_eq}
use Rattle.std.specs.Char.{digit_value}
use Rattle.std.proofs.lemmas.Bool.{eqb-true, false_from_ne_true}
use Rattle.text_bytes.specs.Lines.{is_space, word_of, words_of}
use Rattle.std.proofs.lemmas.List.{take_rest}
use Rattle.std.proofs.lemmas.Grind.{common_steps}
use Rattle.text_bytes.proofs.Splits.{has_part}
use Rattle.trace_fields.specs.Numbers.{after}
use Rattle.trace_probes.specs.Numerals.{digits_from, positive, pushed, signed, unsigned}
use Rattle.trace_probes.specs.Fields.{has_field, key_of, kind_of, next_value, value_of}
use Rattle.trace_probes.specs.declared.field.Field.{Field}
use Rattle.trace_probes.specs.declared.field.Field.TheVariants.{Pid, Cpu, Flags, Clock, Runtime, Deadline, Throttled, Yielded, NonContending, DlRuntime, DlDeadline, DlPeriod, SchedFlags, OnRq, NormalPrio, Entity, ServedBy, DonorRuntime, DonorDeadline, DonorPeriod, ThisBw, RunningBw, ExtraBw, MaxBw, BwRatio, DeltaExec, ClockTask, ExecStart, State, Current, PolicyBefore, PolicyWanted, Delayed, TotalBw, DomainBw, Timer, FromNow, Expires, Function, Server, FairTasks, Earliest, Active, IsServer, MaxBwShown, FrequencyScale, CpuScale, TimerServedBy, RootDomain, Write}
use Rattle.trace_probes.specs.declared.field.FieldKind.{FieldKind}
use Rattle.trace_probes.specs.declared.value.FieldValue.{FieldValue}
use Rattle.trace_probes.specs.inside.Texts.{behind_word, plain}

false_true : false ≡ true → ⊥
false_true e = cc

-- the first word of a text that begins with a space, and of one that does not
pub word_space : (x : ℕ) (xs : List ℕ) → is_space x ≡ true → word_of (x ∷ xs) ≡ []
word_space x xs e = rw e refl

take_more : (n x : ℕ) (xs : List ℕ) → take (1 + n) (x ∷ xs) ≡ x ∷ take n xs
take_more n x xs = let same : 1 + n ≡ suc n = omega arith in rw same refl

pub word_step : (x : ℕ) (xs : List ℕ) → is_space x ≡ false → word_of (x ∷ xs) ≡ x ∷ word_of xs
word_step x xs e = rw e (take_more (position_or_len is_space xs) x xs)

-- the words behind it
pub behind_space : (x : ℕ) (xs : List ℕ) → is_space x ≡ true → behind_word (x ∷ xs) ≡ words_of xs
behind_space x xs e = rw e refl

pub behind_step : (x : ℕ) (xs : List ℕ) → is_space x ≡ false → behind_word (x ∷ xs) ≡ behind_word xs
behind_step x xs e = let k = has_part is_space xs in rw (e, k.2) refl

first : (a b : Bool) → (a && b) ≡ true → a ≡ true
first true b e = refl
first false b e = e

second : (a b : Bool) → (a && b) ≡ true → b ≡ true
second true b e = e
second false b e = absurd cc

true_not : (b : Bool) → not b ≡ true → b ≡ false
true_not true e = absurd cc
true_not false e = refl

-- a space is no byte of a key
differ : (x c : ℕ) → is_space x ≡ true → not (is_space c) ≡ true → nat_eq x c ≡ false
differ x c e h = false_from_ne_true (nat_eq x c) (λ t. false_true (sym (true_not (is_space c) h) ∙ (sym (ap is_space (eqb-true x c t)) ∙ e)))

-- a key without spaces stands at the front of a text where it stands at the front of its first word
pub front_same : (key text : List ℕ) → plain key ≡ true → bytes_eq (take (length key) (word_of text)) key ≡ bytes_eq (take (length key) text) key
front_same [] text h = refl
front_same (c ∷ cs) [] h = refl
front_same (c ∷ cs) (x ∷ xs) h = go (is_space x) refl (front_same cs xs (second (not (is_space c)) (plain cs) h))
  where
    go : (b : Bool) → is_space x ≡ b → bytes_eq (take (length cs) (word_of xs)) cs ≡ bytes_eq (take (length cs) xs) cs → bytes_eq (take (suc (length cs)) (word_of (x ∷ xs))) (c ∷ cs) ≡ (nat_eq x c && bytes_eq (take (length cs) xs) cs)
    go true e ih = rw (word_space x xs e, differ x c e (first (not (is_space c)) (plain cs) h)) refl
    go false e ih = rw (word_step x xs e, ih) refl

-- what follows it
pub front_word : (key text : List ℕ) → plain key ≡ true → bytes_eq (take (length key) text) key ≡ true → drop (length key) (word_of text) ≡ word_of (drop (length key) text)
front_word [] text h e = refl
front_word (c ∷ cs) [] h e = absurd cc
front_word (c ∷ cs) (x ∷ xs) h e = go (is_space x) refl (front_word cs xs (second (not (is_space c)) (plain cs) h) (second (nat_eq x c) (bytes_eq (take (length cs) xs) cs) e))
  where
    go : (b : Bool) → is_space x ≡ b → drop (length cs) (word_of xs) ≡ word_of (drop (length cs) xs) → drop (suc (length cs)) (word_of (x ∷ xs)) ≡ word_of (drop (length cs) xs)
    go true s ih = absurd (false_true (sym (differ x c s (first (not (is_space c)) (plain cs) h)) ∙ first (nat_eq x c) (bytes_eq (take (length cs) xs) cs) e))
    go false s ih = rw (word_step x xs s) ih

pub front_behind : (key text : List ℕ) → plain key ≡ true → bytes_eq (take (length key) text) key ≡ true → behind_word text ≡ behind_word (drop (length key) text)
front_behind [] text h e = refl
front_behind (c ∷ cs) [] h e = absurd cc
front_behind (c ∷ cs) (x ∷ xs) h e = go (is_space x) refl (front_behind cs xs (second (not (is_space c)) (plain cs) h) (second (nat_eq x c) (bytes_eq (take (length cs) xs) cs) e))
  where
    go : (b : Bool) → is_space x ≡ b → behind_word xs ≡ behind_word (drop (length cs) xs) → behind_word (x ∷ xs) ≡ behind_word (drop (length cs) xs)
    go true s ih = absurd (false_true (sym (differ x c s (first (not (is_space c)) (plain cs) h)) ∙ first (nat_eq x c) (bytes_eq (take (length cs) xs) cs) e))
    go false s ih = behind_step x xs s ∙ ih

pub after_none : (key text : List ℕ) → plain key ≡ true → bytes_eq (take (length key) text) key ≡ false → after key (word_of text) ≡ None
after_none key text h e = rw (front_same key text h, e) refl

pub after_some : (key text : List ℕ) → plain key ≡ true → bytes_eq (take (length key) text) key ≡ true → after key (word_of text) ≡ Some (word_of (drop (length key) text))
after_some key text h e = rw (front_same key text h, e, front_word key text h e) refl

-- a text is its first word and those behind it
pub words_are : (text : List ℕ) → words_of text ≡ word_of text ∷ behind_word text
words_are [] = refl
words_are (x ∷ xs) = go (is_space x) refl (words_are xs)
  where
    go : (b : Bool) → is_space x ≡ b → words_of xs ≡ word_of xs ∷ behind_word xs → words_of (x ∷ xs) ≡ word_of (x ∷ xs) ∷ behind_word (x ∷ xs)
    go true e ih = rw (word_space x xs e, e) refl
    go false e ih = let k = ap (onto_first x) ih in rw (word_step x xs e, behind_step x xs e, e) k

-- a digit is no space
pub digit_plain : (x : ℕ) → digit_value x < 10 → is_space x ≡ false
digit_plain x h = false_from_ne_true (is_space x) (λ t. absurd (let few : digit_value 32 < 10 = subst (λ (n : ℕ). digit_value n < 10) (eqb-true x 32 t) h in omega (arith, few)))

pub pushed_few : (v x : ℕ) → digit_value x < 10 → v < 1844674407370955161 → pushed 10 v x ≡ Some (v * 10 + digit_value x)
pushed_few v x h few = grind (arith, common_steps, h, few)

pub digit_step : (v x : ℕ) (xs : List ℕ) → digit_value x < 10 → v < 1844674407370955161 → digits_from 10 v (word_of (x ∷ xs)) ≡ digits_from 10 (v * 10 + digit_value x) (word_of xs)
digit_step v x xs h few = rw (word_step x xs (digit_plain x h), pushed_few v x h few) refl

pub digit_behind : (x : ℕ) (xs : List ℕ) → digit_value x < 10 → behind_word (x ∷ xs) ≡ behind_word xs
digit_behind x xs h = behind_step x xs (digit_plain x h)

pub digit_word : (x : ℕ) (xs : List ℕ) → digit_value x < 10 → (nat_eq (length (word_of (x ∷ xs))) 0) ≡ false
digit_word x xs h = rw (word_step x xs (digit_plain x h)) (false_from_ne_true (nat_eq (suc (length (word_of xs))) 0) (λ t. (let none : suc (length (word_of xs)) ≡ 0 = eqb-true (suc (length (word_of xs))) 0 t in omega (arith, none))))

-- a word of digits is no hexadecimal number
hex : (c d : ℕ) (r : List ℕ) (n : ℕ) → digits_from 10 0 (c ∷ d ∷ r) ≡ Some n → (nat_eq c 48 && (nat_eq d 120 && true)) ≡ false
hex c d r n e = false_from_ne_true (nat_eq c 48 && (nat_eq d 120 && true)) (λ t. hex_at c d (eqb-true c 48 (first (nat_eq c 48) (nat_eq d 120 && true) t)) (eqb-true d 120 (first (nat_eq d 120) true (second (nat_eq c 48) (nat_eq d 120 && true) t))) e)
  where
    hex_at : (c d : ℕ) → c ≡ 48 → d ≡ 120 → digits_from 10 0 (c ∷ d ∷ r) ≡ Some n → ⊥
    hex_at c d a b f = (let g : digits_from 10 0 (48 ∷ 120 ∷ r) ≡ Some n = subst (λ (k : ℕ). digits_from 10 0 (48 ∷ k ∷ r) ≡ Some n) b (subst (λ (k : ℕ). digits_from 10 0 (k ∷ d ∷ r) ≡ Some n) a f) in cc)

short_hex : (c : ℕ) → (nat_eq c 48 && false) ≡ false
short_hex c = go (nat_eq c 48)
  where
    go : (b : Bool) → (b && false) ≡ false
    go true = refl
    go false = refl

pub unsigned_is : (w : List ℕ) (n : ℕ) → nat_eq (length w) 0 ≡ false → digits_from 10 0 w ≡ Some n → unsigned w ≡ Some n
unsigned_is [] n h e = absurd cc
unsigned_is (c ∷ []) n h e = rw (short_hex c) e
unsigned_is (c ∷ d ∷ r) n h e = rw (hex c d r n e, h) e

-- one digit more
pub digit_more : (v d : ℕ) (xs : List ℕ) → 1 ≤ length xs → d ≡ digit_value (get_or xs 0 0) → d < 10 → v < 1844674407370955161 → (digits_from 10 v (word_of xs) ≡ digits_from 10 (v * 10 + d) (word_of (take (length xs - 1) (drop 1 xs)))) × (behind_word xs ≡ behind_word (take (length xs - 1) (drop 1 xs)))
digit_more v d [] some is h few = absurd (omega (arith, some))
digit_more v d (x ∷ xs) some is h few =
    let small : digit_value x < 10 = subst (λ (n : ℕ). n < 10) is h in
    rw (take_rest (x ∷ xs) 1, is) (digit_step v x xs small few, digit_behind x xs small)

-- no key has a space
key_plain : (field : Field) → plain (key_of field) ≡ true
key_plain Pid = refl
key_plain Cpu = refl
key_plain Flags = refl
key_plain Clock = refl
key_plain Runtime = refl
key_plain Deadline = refl
key_plain Throttled = refl
key_plain Yielded = refl
key_plain NonContending = refl
key_plain DlRuntime = refl
key_plain DlDeadline = refl
key_plain DlPeriod = refl
key_plain SchedFlags = refl
key_plain OnRq = refl
key_plain NormalPrio = refl
key_plain Entity = refl
key_plain ServedBy = refl
key_plain DonorRuntime = refl
key_plain DonorDeadline = refl
key_plain DonorPeriod = refl
key_plain ThisBw = refl
key_plain RunningBw = refl
key_plain ExtraBw = refl
key_plain MaxBw = refl
key_plain BwRatio = refl
key_plain DeltaExec = refl
key_plain ClockTask = refl
key_plain ExecStart = refl
key_plain State = refl
key_plain Current = refl
key_plain PolicyBefore = refl
key_plain PolicyWanted = refl
key_plain Delayed = refl
key_plain TotalBw = refl
key_plain DomainBw = refl
key_plain Timer = refl
key_plain FromNow = refl
key_plain Expires = refl
key_plain Function = refl
key_plain Server = refl
key_plain FairTasks = refl
key_plain Earliest = refl
key_plain Active = refl
key_plain IsServer = refl
key_plain MaxBwShown = refl
key_plain FrequencyScale = refl
key_plain CpuScale = refl
key_plain TimerServedBy = refl
key_plain RootDomain = refl
key_plain Write = refl

-- a field whose key stands at the front of a text, and one whose key does not
pub next_here : (field : Field) (text : List ℕ) (r : Option (FieldValue × List (List ℕ))) → bytes_eq (take (length (key_of field)) text) (key_of field) ≡ true → r ≡ option_map (λ v. (v, behind_word (drop (length (key_of field)) text))) (value_of (kind_of field) (word_of (drop (length (key_of field)) text))) → r ≡ next_value field (words_of text)
next_here field text r is e = rw (words_are text, after_some (key_of field) text (key_plain field) is, front_behind (key_of field) text (key_plain field) is) e

pub next_later : (field : Field) (text : List ℕ) → bytes_eq (take (length (key_of field)) text) (key_of field) ≡ false → next_value field (words_of text) ≡ next_value field (behind_word text)
next_later field text is = rw (words_are text, after_none (key_of field) text (key_plain field) is) refl

pub next_begun : (field : Field) (key text : List ℕ) (kind : FieldKind) (r : Option (FieldValue × List (List ℕ))) (b : Bool) → key ≡ key_of field → kind ≡ kind_of field → b ≡ bytes_eq (take (length key) text) key → b ≡ true → r ≡ option_map (λ v. (v, behind_word (take (length text - length key) (drop (length key) text)))) (value_of kind (word_of (take (length text - length key) (drop (length key) text)))) → r ≡ next_value field (words_of text)
next_begun field key text kind r b at of is holds e =
    let begun : bytes_eq (take (length (key_of field)) text) (key_of field) ≡ true = subst (λ (k : List ℕ). bytes_eq (take (length k) text) k ≡ true) at (sym is ∙ holds) in
    let by_key : r ≡ option_map (λ v. (v, behind_word (take (length text - length (key_of field)) (drop (length (key_of field)) text)))) (value_of kind (word_of (take (length text - length (key_of field)) (drop (length (key_of field)) text)))) = subst (λ (k : List ℕ). r ≡ option_map (λ v. (v, behind_word (take (length text - length k) (drop (length k) text)))) (value_of kind (word_of (take (length text - length k) (drop (length k) text))))) at e in
    let rest : r ≡ option_map (λ v. (v, behind_word (drop (length (key_of field)) text))) (value_of kind (word_of (drop (length (key_of field)) text))) = subst (λ (t : List ℕ). r ≡ option_map (λ v. (v, behind_word t)) (value_of kind (word_of t))) (take_rest text (length (key_of field))) by_key in
    next_here field text r begun (subst (λ (k : FieldKind). r ≡ option_map (λ v. (v, behind_word (drop (length (key_of field)) text))) (value_of k (word_of (drop (length (key_of field)) text)))) of rest)

pub has_later : (field : Field) (text : List ℕ) → bytes_eq (take (length (key_of field)) text) (key_of field) ≡ false → has_field field (words_of text) ≡ has_field field (behind_word text)
has_later field text is = rw (words_are text, after_none (key_of field) text (key_plain field) is) refl

pub has_begun : (field : Field) (key text : List ℕ) (b : Bool) → key ≡ key_of field → b ≡ bytes_eq (take (length key) text) key → b ≡ true → true ≡ has_field field (words_of text)
has_begun field key text b at is holds =
    let begun : bytes_eq (take (length (key_of field)) text) (key_of field) ≡ true = subst (λ (k : List ℕ). bytes_eq (take (length k) text) k ≡ true) at (sym is ∙ holds) in
    rw (words_are text, after_some (key_of field) text (key_plain field) begun) refl

-- nor is it a number below 0
minus : (c : ℕ) (r : List ℕ) (n : ℕ) → digits_from 10 0 (c ∷ r) ≡ Some n → (nat_eq c 45 && true) ≡ false
minus c r n e = false_from_ne_true (nat_eq c 45 && true) (λ t. (let g : digits_from 10 0 (45 ∷ r) ≡ Some n = subst (λ (k : ℕ). digits_from 10 0 (k ∷ r) ≡ Some n) (eqb-true c 45 (first (nat_eq c 45) true t)) e in cc))

pub signed_is : (w : List ℕ) (n : ℕ) → nat_eq (length w) 0 ≡ false → digits_from 10 0 w ≡ Some n → signed w ≡ positive n
signed_is [] n h e = absurd cc
signed_is (c ∷ r) n h e = rw (minus c r n e, unsigned_is (c ∷ r) n h e) refl
