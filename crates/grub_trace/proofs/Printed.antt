-- A printed line is read again.
use Rattle.std.proofs.Common.{◌≡◌, ℕ, zero, suc, ◌^◌, ◌<◌, Bool, true, false, not, ◌&&◌, ◌||◌, cond, eqb, List, [], ◌∷◌, ◌++◌, length, get_or, Option, Some, None, Ok, option_map, refl, ap, ◌∙◌, arith, rules}
use Rattle.std.proofs.lemmas.Bool.{and_parts, le-leb, ne_eqb}
use Rattle.std.specs.Prelude.{bytes_eq, codes, decimal, slice_index_or, nat_le}
use Rattle.std.specs.Char.{is_ascii_digit}
use Rattle.std.specs.List.{list_all, join_with_byte, AllByRecursion}
use Rattle.std.proofs.lemmas.List.Splits.{slice_split_at, slice_split_none}
use Rattle.std.proofs.lemmas.List.Elements.{All-from_recursion}
use Rattle.std.proofs.lemmas.List.{length-map}
use Rattle.std.proofs.lemmas.Bool.Decides.{nat_tests}
use Rattle.std.proofs.lemmas.Bool.{lt-ltb, eqb-true}
use Rattle.std.proofs.lemmas.Fmt.{digits_decimal, digits_value-decimal, decimal_nonempty, first_decimal, decimal_digit}
use Rattle.grub_book.specs.Bandwidth.{Reservation, Capacity, IsCapacity}
use Rattle.grub_trace.proofs.LimitTests.{reservation_test, capacity_test}
use Rattle.grub_trace.specs.declared.version.Version.{Version}
use Rattle.grub_trace.specs.declared.fault.Kind.{Kind}
use Rattle.grub_trace.specs.declared.fault.Kind.TheVariants.{MissingQueue}
use Rattle.grub_plan.specs.declared.line.Act.{Act}
use Rattle.grub_plan.specs.declared.line.Act.TheVariants as act
use Rattle.grub_plan.specs.Names.{is_name, is_name_byte}
use Rattle.grub_trace.specs.Tree.{Declaration, Happening, act_words, queue_words, is_moment, names_of}
use Rattle.grub_trace.specs.Faults.{form_fault, last_of, queue_fault, queue_form_fault, is_allowed, is_in_range, is_fresh, is_timely}
use Rattle.grub_trace.specs.Forms.{Form, queue, task, at_moment, form_of, is_filled, act_of, is_number, numbers_of}
use Rattle.text_bytes.specs.Lines.{words_of}
use Rattle.text_bytes.specs.Digits.{value}
use Rattle.grub_trace.specs.inside.Reading.{Read, act_map, take_line, take_option, ok_unless, adds, declares, says, times_of, read_queue, queue_of}
use Rattle.grub_trace.specs.Meaning.{IsAct, IsHappeningFrom, IsDeclaration}
use Rattle.grub_trace.specs.inside.Tree.{declaration_line, happening_line}
use Rattle.text_bytes.proofs.Digits.{numerals}
use Rattle.grub_trace.proofs.FormLemmas.{form_again}
use Rattle.grub_trace.proofs.LineMeaning.{small_period, small_moment, small_span}

-- each byte is above the space
abbrev pub IsPlain : List ℕ → Type 0
IsPlain w = AllByRecursion (λ b. 32 < b) w

digit_above : (b : ℕ) → is_ascii_digit b ≡ true → 32 < b
digit_above b h = grind (arith, nat_tests)

digits_plain : (w : List ℕ) → list_all is_ascii_digit w ≡ true → IsPlain w
digits_plain [] h = tt
digits_plain (b ∷ bs) h = let p = and_parts (is_ascii_digit b) (list_all is_ascii_digit bs) h in (digit_above b p.0, digits_plain bs p.1)

name_above : (b : ℕ) → is_name_byte b ≡ true → 32 < b
name_above b h = grind (arith, nat_tests)

name_bytes_plain : (w : List ℕ) → list_all is_name_byte w ≡ true → IsPlain w
name_bytes_plain [] h = tt
name_bytes_plain (b ∷ bs) h = let p = and_parts (is_name_byte b) (list_all is_name_byte bs) h in (name_above b p.0, name_bytes_plain bs p.1)

name_plain : (w : List ℕ) → is_name w ≡ true → IsPlain w
name_plain w h = name_bytes_plain w (and_parts (not (eqb (length w) 0) && nat_le (length w) 16) (list_all is_name_byte w) h).1

decimal_plain : (n : ℕ) → n < 2 ^ 64 → IsPlain (decimal n)
decimal_plain n h = digits_plain (decimal n) (digits_decimal numerals n h)

-- ---- numbers

number_from : (w : List ℕ) → list_all is_ascii_digit w ≡ true → 0 < length w → (get_or w 0 0 ≡ 48 → length w ≡ 1) → is_number w ≡ true
number_from [] digits some lone = absurd (omega arith)
number_from (c ∷ cs) digits some lone =
    let go : (b : Bool) → eqb c 48 ≡ b → (not b || eqb (length cs) 0) ≡ true
    = λ (b : Bool). elim b as (λ b. eqb c 48 ≡ b → (not b || eqb (length cs) 0) ≡ true) [
      | true ↦ λ is. let one = lone (eqb-true c 48 is) in let none : length cs ≡ 0 = omega arith in rw none refl
      | false ↦ λ is. refl
    ] in
    rw (digits, go (eqb c 48) refl) refl

pub number_again : (n : ℕ) → n < 2 ^ 64 → is_number (decimal n) ≡ true
number_again n h = number_from (decimal n) (digits_decimal numerals n h) (decimal_nonempty n h) (lone n h)
  where
    lone : (n : ℕ) → n < 2 ^ 64 → get_or (decimal n) 0 0 ≡ 48 → length (decimal n) ≡ 1
    lone zero h e = ap length (decimal_digit 0 (omega arith))
    lone (suc n) h e = absurd (let f = first_decimal (suc n) (omega arith) h in omega arith)

pub value_again : (n : ℕ) → n < 2 ^ 64 → value (decimal n) ≡ n
value_again n h = digits_value-decimal numerals n h

-- ---- words

not_space : (w : List ℕ) → IsPlain w → AllByRecursion (λ b. eqb b 32 ≡ false) w
not_space [] h = tt
not_space (b ∷ bs) h = (let above = h.0 in grind (arith, nat_tests), not_space bs h.1)

abbrev ArePlain : List (List ℕ) → Type 0
ArePlain ws = AllByRecursion IsPlain ws

pub words_again : (w : List ℕ) (ws : List (List ℕ)) → IsPlain w → ArePlain ws → words_of (join_with_byte 32 (w ∷ ws)) ≡ w ∷ ws
words_again w [] p ps = slice_split_none (λ b. eqb b 32) w (All-from_recursion (λ b. eqb b 32 ≡ false) w (not_space w p))
words_again w (v ∷ vs) p ps =
    slice_split_at (λ b. eqb b 32) w 32 (join_with_byte 32 (v ∷ vs)) (All-from_recursion (λ b. eqb b 32 ≡ false) w (not_space w p)) refl
    ∙ ap (λ (x : List (List ℕ)). w ∷ x) (words_again v vs ps.0 ps.1)

-- no byte of a line ends it
abbrev pub IsOneLine : List ℕ → Type 0
IsOneLine l = AllByRecursion (λ b. eqb b 10 ≡ false) l

plain_line : (w more : List ℕ) → IsPlain w → IsOneLine more → IsOneLine (w ++ more)
plain_line [] more h m = m
plain_line (b ∷ bs) more h m = (let above = h.0 in grind (arith, nat_tests), plain_line bs more h.1 m)

one_word : (w : List ℕ) → IsPlain w → IsOneLine w
one_word [] h = tt
one_word (b ∷ bs) h = (let above = h.0 in grind (arith, nat_tests), one_word bs h.1)

pub join_line : (w : List ℕ) (ws : List (List ℕ)) → IsPlain w → ArePlain ws → IsOneLine (join_with_byte 32 (w ∷ ws))
join_line w [] p ps = one_word w p
join_line w (v ∷ vs) p ps = plain_line w (32 ∷ join_with_byte 32 (v ∷ vs)) p (refl, join_line v vs ps.0 ps.1)

-- ---- lines

keyword_task : IsPlain (codes "task")
keyword_task = search rules

keyword_at : IsPlain (codes "at")
keyword_at = search rules

keyword_run : IsPlain (codes "run")
keyword_run = search rules

keyword_retune : IsPlain (codes "retune")
keyword_retune = search rules

keyword_read : IsPlain (codes "read")
keyword_read = search rules

keyword_queue : IsPlain (codes "queue")
keyword_queue = search rules

-- a form that passes the five tests
pub no_fault : (version : Version) (names : List (List ℕ)) (moments : List ℕ) (f : Form) → is_allowed version moments f ≡ true → list_all is_number (numbers_of f) ≡ true → is_in_range (length names) f ≡ true → is_fresh names f ≡ true → is_timely moments f ≡ true → form_fault version names moments f ≡ None
no_fault version names moments f a b c d e = rw (a, b, c, d, e) refl

both_numbers : (m n : ℕ) → m < 2 ^ 64 → n < 2 ^ 64 → list_all is_number (decimal m ∷ decimal n ∷ []) ≡ true
both_numbers m n h k = rw (number_again m h, number_again n k) refl

three_numbers : (k m n : ℕ) → k < 2 ^ 64 → m < 2 ^ 64 → n < 2 ^ 64 → list_all is_number (decimal k ∷ decimal m ∷ decimal n ∷ []) ≡ true
three_numbers k m n f g h = rw (number_again k f, number_again m g, number_again n h) refl

one_number : (m : ℕ) → m < 2 ^ 64 → list_all is_number (decimal m ∷ []) ≡ true
one_number m h = rw (number_again m h) refl

taken_form : (r : Read) (line : List ℕ) (f : Form) → form_of (words_of line) ≡ Some f → form_fault r.version (names_of r.declared) (times_of r.happenings) f ≡ None → take_line r line ≡ Ok (adds f r)
taken_form r line f is none = ap (take_option r) is ∙ ap (λ (o : Option Kind). ok_unless o (adds f r)) none

filled_cons : (c : ℕ) (cs : List ℕ) → is_filled (c ∷ cs) ≡ true
filled_cons c cs = ap not (ne_eqb (length (c ∷ cs)) 0 (λ e. cc))

name_filled : (w : List ℕ) → is_name w ≡ true → is_filled w ≡ true
name_filled [] h = absurd cc
name_filled (c ∷ cs) h = filled_cons c cs

number_filled : (w : List ℕ) → is_number w ≡ true → is_filled w ≡ true
number_filled [] h = absurd cc
number_filled (c ∷ cs) h = filled_cons c cs

decimal_filled : (n : ℕ) → n < 2 ^ 64 → is_filled (decimal n) ≡ true
decimal_filled n h = number_filled (decimal n) (number_again n h)

task_form : (n q p : List ℕ) → is_name n ≡ true → is_filled q ≡ true → is_filled p ≡ true → form_of (codes "task" ∷ n ∷ q ∷ p ∷ []) ≡ Some (task n q p)
task_form n q p h fq fp =
    form_again (codes "task" ∷ n ∷ q ∷ p ∷ []) (rw (name_filled n h, fq, fp) refl)
    ∙ ap (λ (b : Bool). cond b (Some (task n q p)) (cond false (option_map (at_moment n) (act_of q p)) None)) h

verb_form : (m n k : List ℕ) (a : Act (List ℕ) (List ℕ)) → act_of k n ≡ Some a → is_filled k ≡ true → is_filled m ≡ true → is_name n ≡ true → form_of (codes "at" ∷ m ∷ k ∷ n ∷ []) ≡ Some (at_moment m a)
verb_form m n k a is fk fm h =
    form_again (codes "at" ∷ m ∷ k ∷ n ∷ []) (rw (fm, fk, name_filled n h) refl)
    ∙ ap (λ (b : Bool). cond b (option_map (at_moment m) (act_of k n)) None) h ∙ ap (option_map (at_moment m)) is

run_form : (m n d : List ℕ) → is_filled m ≡ true → is_name n ≡ true → is_filled d ≡ true → form_of (codes "at" ∷ m ∷ codes "run" ∷ n ∷ d ∷ []) ≡ Some (at_moment m (act.Run n d))
run_form m n d fm h fd =
    form_again (codes "at" ∷ m ∷ codes "run" ∷ n ∷ d ∷ []) (rw (fm, name_filled n h, fd) refl)
    ∙ ap (λ (b : Bool). cond b (Some (at_moment m (act.Run n d))) None) h

retune_form : (m n q p : List ℕ) → is_filled m ≡ true → is_name n ≡ true → is_filled q ≡ true → is_filled p ≡ true → form_of (codes "at" ∷ m ∷ codes "retune" ∷ n ∷ q ∷ p ∷ []) ≡ Some (at_moment m (act.Retune n q p))
retune_form m n q p fm h fq fp =
    form_again (codes "at" ∷ m ∷ codes "retune" ∷ n ∷ q ∷ p ∷ []) (rw (fm, name_filled n h, fq, fp) refl)
    ∙ ap (λ (b : Bool). cond b (Some (at_moment m (act.Retune n q p))) None) h

read_form : (m : List ℕ) → is_filled m ≡ true → form_of (codes "at" ∷ m ∷ codes "read" ∷ []) ≡ Some (at_moment m act.Read)
read_form m fm = form_again (codes "at" ∷ m ∷ codes "read" ∷ []) (rw fm refl)

queue_form : (u x : List ℕ) → is_filled u ≡ true → is_filled x ≡ true → form_of (codes "queue" ∷ u ∷ x ∷ []) ≡ Some (queue u x)
queue_form u x fu fx = form_again (codes "queue" ∷ u ∷ x ∷ []) (rw (fu, fx) refl)

pub declaration_again : (r : Read) (d : Declaration) → IsDeclaration (names_of r.declared) d → length r.happenings ≡ 0 → take_line r (declaration_line d) ≡ Ok (declares d r)
declaration_again r d is first =
    let small = small_period d.params is.fits in
    let f : Form = task d.name (decimal d.params.runtime) (decimal d.params.period) in
    let words = words_again (codes "task") (d.name ∷ decimal d.params.runtime ∷ decimal d.params.period ∷ []) keyword_task (name_plain d.name is.name, (decimal_plain d.params.runtime small.0, (decimal_plain d.params.period small.1, tt))) in
    let range : is_in_range (length (names_of r.declared)) f ≡ true = rw (value_again d.params.runtime small.0, value_again d.params.period small.1, lt-ltb (length (names_of r.declared)) 256 is.few) (reservation_test d.params is.fits) in
    let allowed : is_allowed r.version (times_of r.happenings) f ≡ true = rw (length-map r.happenings (λ h. h.m), first) refl in
    let fresh : is_fresh (names_of r.declared) f ≡ true = rw is.fresh refl in
    taken_form r (declaration_line d) f (ap form_of words ∙ task_form d.name (decimal d.params.runtime) (decimal d.params.period) is.name (decimal_filled d.params.runtime small.0) (decimal_filled d.params.period small.1))
    (no_fault r.version (names_of r.declared) (times_of r.happenings) f allowed (both_numbers d.params.runtime d.params.period small.0 small.1) range fresh refl)
    ∙ ap (λ (q : ℕ). Ok (declares (record { name = d.name; params = record { runtime = q; period = value (decimal d.params.period) } }) r)) (value_again d.params.runtime small.0)
    ∙ ap (λ (p : ℕ). Ok (declares (record { name = d.name; params = record { runtime = d.params.runtime; period = p } }) r)) (value_again d.params.period small.1)

words_plain : (version : Version) (a : Act (List ℕ) ℕ) → IsAct version a → ArePlain (act_words decimal a)
words_plain version (act.Join n) is = (search rules, (name_plain n is, tt))
words_plain version (act.Wake n) is = (search rules, (name_plain n is, tt))
words_plain version (act.Block n) is = (search rules, (name_plain n is, tt))
words_plain version (act.Leave n) is = (search rules, (name_plain n is, tt))
words_plain version (act.Exit n) is = (search rules, (name_plain n is, tt))
words_plain version (act.Run n d) is = (keyword_run, (name_plain n is.0, (decimal_plain d (small_span d is.1), tt)))
words_plain version (act.Retune n q p) is =
    let small = small_period (record { runtime = q; period = p }) is.1 in
    (keyword_retune, (name_plain n is.0, (decimal_plain q small.0, (decimal_plain p small.1, tt))))
words_plain version act.Read is = (keyword_read, tt)

-- an act that is printed at a moment has its form, which passes the tests
record IsPrinted (version : Version) (moments : List ℕ) (declared m : ℕ) (a : Act (List ℕ) ℕ) : Type 0 where
  pub form : form_of (codes "at" ∷ decimal m ∷ act_words decimal a) ≡ Some (at_moment (decimal m) (act_map (λ n. n) decimal a))
  pub allowed : is_allowed version moments (at_moment (decimal m) (act_map (λ n. n) decimal a)) ≡ true
  pub spelled : list_all is_number (numbers_of (at_moment (decimal m) (act_map (λ n. n) decimal a))) ≡ true
  pub in_range : is_in_range declared (at_moment (decimal m) (act_map (λ n. n) decimal a)) ≡ true
  pub values : act_map (λ n. n) value (act_map (λ n. n) decimal a) ≡ a

act_printed : (version : Version) (moments : List ℕ) (declared m : ℕ) (a : Act (List ℕ) ℕ) → m < 2 ^ 64 → is_moment (value (decimal m)) ≡ true → IsAct version a → IsPrinted version moments declared m a
act_printed version moments declared m (act.Join n) small within is =
    record { form = verb_form (decimal m) n (codes "join") (act.Join n) refl refl (decimal_filled m small) is; allowed = refl; spelled = one_number m small; in_range = within; values = refl }
act_printed version moments declared m (act.Wake n) small within is =
    record { form = verb_form (decimal m) n (codes "wake") (act.Wake n) refl refl (decimal_filled m small) is; allowed = refl; spelled = one_number m small; in_range = within; values = refl }
act_printed version moments declared m (act.Block n) small within is =
    record { form = verb_form (decimal m) n (codes "block") (act.Block n) refl refl (decimal_filled m small) is; allowed = refl; spelled = one_number m small; in_range = within; values = refl }
act_printed version moments declared m (act.Leave n) small within is =
    record { form = verb_form (decimal m) n (codes "leave") (act.Leave n) refl refl (decimal_filled m small) is; allowed = refl; spelled = one_number m small; in_range = within; values = refl }
act_printed version moments declared m (act.Exit n) small within is =
    record { form = verb_form (decimal m) n (codes "exit") (act.Exit n) refl refl (decimal_filled m small) is; allowed = refl; spelled = one_number m small; in_range = within; values = refl }
act_printed version moments declared m (act.Run n d) small within is =
    let short = small_span d is.1 in
    record {
      form = run_form (decimal m) n (decimal d) (decimal_filled m small) is.0 (decimal_filled d short);
      allowed = refl;
      spelled = both_numbers m d small short;
      in_range = rw (within, value_again d short) is.1;
      values = ap (λ (s : ℕ). act.Run n s) (value_again d short);
    }
act_printed version moments declared m (act.Retune n q p) small within is =
    let x : Reservation = record { runtime = q; period = p } in
    let fits = small_period x is.1 in
    record {
      form = retune_form (decimal m) n (decimal q) (decimal p) (decimal_filled m small) is.0 (decimal_filled q fits.0) (decimal_filled p fits.1);
      allowed = is.2;
      spelled = three_numbers m q p small fits.0 fits.1;
      in_range = rw (within, value_again q fits.0, value_again p fits.1) (reservation_test x is.1);
      values = ap (λ (u : ℕ). act.Retune n u (value (decimal p))) (value_again q fits.0) ∙ ap (λ (u : ℕ). act.Retune n q u) (value_again p fits.1);
    }
act_printed version moments declared m act.Read small within is =
    record { form = read_form (decimal m) (decimal_filled m small); allowed = refl; spelled = one_number m small; in_range = within; values = refl }

pub happening_again : (r : Read) (h : Happening) → IsHappeningFrom r.version (last_of (times_of r.happenings)) h → take_line r (happening_line h) ≡ Ok (says h r)
happening_again r h is =
    let small = small_moment h.m is.within in
    let f : Form = at_moment (decimal h.m) (act_map (λ n. n) decimal h.act) in
    let within : is_moment (value (decimal h.m)) ≡ true = rw (value_again h.m small) is.within in
    let p = act_printed r.version (times_of r.happenings) (length (names_of r.declared)) h.m h.act small within is.act in
    let words = words_again (codes "at") (decimal h.m ∷ act_words decimal h.act) keyword_at (decimal_plain h.m small, words_plain r.version h.act is.act) in
    taken_form r (happening_line h) f (ap form_of words ∙ p.form)
    (no_fault r.version (names_of r.declared) (times_of r.happenings) f p.allowed p.spelled p.in_range refl (rw (value_again h.m small) (le-leb (last_of (times_of r.happenings)) h.m is.after)))
    ∙ ap (λ (m : ℕ). Ok (says (record { m = m; act = act_map (λ n. n) value (act_map (λ n. n) decimal h.act) }) r)) (value_again h.m small)
    ∙ ap (λ (a : Act (List ℕ) ℕ). Ok (says (record { m = h.m; act = a }) r)) p.values

pub queue_again : (c : Capacity) → c.most < 2 ^ 64 → c.extra < 2 ^ 64 → IsCapacity c → read_queue (join_with_byte 32 (queue_words c)) ≡ Ok c
queue_again c hu hx fits =
    let u = c.most in
    let x = c.extra in
    let words = words_again (codes "queue") (decimal u ∷ decimal x ∷ []) keyword_queue (decimal_plain u hu, (decimal_plain x hx, tt)) in
    let form : form_of (words_of (join_with_byte 32 (queue_words c))) ≡ Some (queue (decimal u) (decimal x)) = ap form_of words ∙ queue_form (decimal u) (decimal x) (decimal_filled u hu) (decimal_filled x hx) in
    let right : queue_form_fault (Some (queue (decimal u) (decimal x))) ≡ None = rw (number_again u hu, number_again x hx, value_again u hu, value_again x hx, capacity_test c fits) refl in
    let none : queue_fault (join_with_byte 32 (queue_words c)) ≡ None =
    ap (λ (ws : List (List ℕ)). cond (not (bytes_eq (slice_index_or ws 0 []) (codes "queue"))) (Some MissingQueue) (queue_form_fault (form_of ws))) words
    ∙ ap queue_form_fault (queue_form (decimal u) (decimal x) (decimal_filled u hu) (decimal_filled x hx)) ∙ right in
    ap (λ (o : Option Kind). ok_unless o (queue_of (form_of (words_of (join_with_byte 32 (queue_words c)))))) none
    ∙ ap (λ (o : Option Form). Ok (queue_of o)) form
    ∙ ap (λ (n : ℕ). Ok (record { most = n; extra = value (decimal x) })) (value_again u hu)
    ∙ ap (λ (n : ℕ). Ok (record { most = u; extra = n })) (value_again x hx)

pub declaration_one_line : (names : List (List ℕ)) (d : Declaration) → IsDeclaration names d → IsOneLine (declaration_line d)
declaration_one_line names d is =
    let small = small_period d.params is.fits in
    join_line (codes "task") (d.name ∷ decimal d.params.runtime ∷ decimal d.params.period ∷ []) keyword_task (name_plain d.name is.name, (decimal_plain d.params.runtime small.0, (decimal_plain d.params.period small.1, tt)))

pub happening_one_line : (version : Version) (low : ℕ) (h : Happening) → IsHappeningFrom version low h → IsOneLine (happening_line h)
happening_one_line version low h is = join_line (codes "at") (decimal h.m ∷ act_words decimal h.act) keyword_at (decimal_plain h.m (small_moment h.m is.within), words_plain version h.act is.act)

pub queue_one_line : (c : Capacity) → c.most < 2 ^ 64 → c.extra < 2 ^ 64 → IsOneLine (join_with_byte 32 (queue_words c))
queue_one_line c hu hx = join_line (codes "queue") (decimal c.most ∷ decimal c.extra ∷ []) keyword_queue (decimal_plain c.most hu, (decimal_plain c.extra hx, tt))
