-- What a line that was taken means.
use Rattle.std.proofs.Common.{◌≡◌, ℕ, ◌^◌, ◌<◌, true, ◌⊎◌, inl, inr, List, [], ◌∷◌, length, None, Ok, refl, ap, ◌∙◌, sym, arith}
use Rattle.std.specs.Prelude.{codes, decimal, nat_lt}
use Rattle.std.specs.List.{list_all, join_with_byte}
use Rattle.std.proofs.lemmas.List.Splits.{join_with_byte-slice_split}
use Rattle.std.proofs.lemmas.List.{length-map}
use Rattle.std.proofs.lemmas.Bool.Decides.{nat_tests}
use Rattle.std.proofs.lemmas.Bool.{and_parts, eqb-true, leb-true, ltb-true}
use Rattle.grub_book.specs.Bandwidth.{Reservation, IsReservation, reservation_fits}
use Rattle.grub_trace.proofs.LimitTests.{reservation_is}
use Rattle.grub_trace.specs.declared.version.Version.{Version}
use Rattle.grub_trace.specs.declared.fault.Kind.TheVariants.{BadLine, BadNumber, OutOfRange, DuplicateTask, MomentGoesBack}
use Rattle.grub_plan.specs.declared.line.Act.{Act}
use Rattle.grub_plan.specs.declared.line.Act.TheVariants as act
use Rattle.grub_trace.specs.Tree.{Declaration, Happening, act_words, is_moment, is_span, names_of}
use Rattle.grub_trace.specs.Faults.{form_fault, last_of, is_allowed, is_in_range, is_fresh, is_timely}
use Rattle.grub_trace.specs.Forms.{Form, queue, task, at_moment, is_number, numbers_of, reservation_value}
use Rattle.text_bytes.specs.Lines.{words_of}
use Rattle.text_bytes.specs.Digits.{value}
use Rattle.grub_trace.specs.Naming.{task_of}
use Rattle.grub_trace.specs.inside.Faults.{is_act_named, is_named}
use Rattle.grub_trace.specs.inside.Reading.{Read, act_map, take_line, declares, says, adds, times_of}
use Rattle.grub_trace.specs.Meaning.{IsAct, IsHappeningFrom, IsDeclaration}
use Rattle.grub_trace.specs.inside.Tree.{declaration_line, happening_line}
use Rattle.grub_trace.proofs.FormLemmas.{form_is, form_words, number_is}
use Rattle.grub_trace.proofs.LineLemmas.{taken, none_if, no_task}

pub record Declares (r : Read) (line : List ℕ) (s : Read) : Type 0 where
  pub declaration : Declaration
  pub is : IsDeclaration (names_of r.declared) declaration
  pub spelled : line ≡ declaration_line declaration
  pub first : length r.happenings ≡ 0
  pub added : declares declaration r ≡ s

pub record Says (r : Read) (line : List ℕ) (s : Read) : Type 0 where
  pub happening : Happening
  pub is : IsHappeningFrom r.version (last_of (times_of r.happenings)) happening
  pub spelled : line ≡ happening_line happening
  pub added : says happening r ≡ s

-- the tests that a form without a fault passes
pub record Passes (version : Version) (names : List (List ℕ)) (moments : List ℕ) (f : Form) : Type 0 where
  pub allowed : is_allowed version moments f ≡ true
  pub spelled : list_all is_number (numbers_of f) ≡ true
  pub in_range : is_in_range (length names) f ≡ true
  pub fresh : is_fresh names f ≡ true
  pub timely : is_timely moments f ≡ true

pub passes : (version : Version) (names : List (List ℕ)) (moments : List ℕ) (f : Form) → form_fault version names moments f ≡ None → Passes version names moments f
passes version names moments f e =
    let a = none_if (is_allowed version moments f) BadLine _ e in
    let b = none_if (list_all is_number (numbers_of f)) BadNumber _ a.1 in
    let c = none_if (is_in_range (length names) f) OutOfRange _ b.1 in
    let d = none_if (is_fresh names f) DuplicateTask _ c.1 in
    let g = none_if (is_timely moments f) MomentGoesBack _ d.1 in
    record { allowed = a.0; spelled = b.0; in_range = c.0; fresh = d.0; timely = g.0 }

pub small_period : (p : Reservation) → IsReservation p → (p.runtime < 2 ^ 64) × (p.period < 2 ^ 64)
small_period p is = (omega (arith, is.runtime.1, is.period.1), omega (arith, is.period.1))

pub small_moment : (m : ℕ) → is_moment m ≡ true → m < 2 ^ 64
small_moment m h = grind (arith, nat_tests)

pub small_span : (n : ℕ) → is_span n ≡ true → n < 2 ^ 64
small_span n h = grind (arith, nat_tests)

one : (w : List ℕ) → list_all is_number (w ∷ []) ≡ true → is_number w ≡ true
one w h = (and_parts (is_number w) true h).0

pub two : (v w : List ℕ) → list_all is_number (v ∷ w ∷ []) ≡ true → (is_number v ≡ true) × (is_number w ≡ true)
two v w h = let p = and_parts (is_number v) (list_all is_number (w ∷ [])) h in (p.0, one w p.1)

three : (u v w : List ℕ) → list_all is_number (u ∷ v ∷ w ∷ []) ≡ true → (is_number u ≡ true) × (is_number v ≡ true) × (is_number w ≡ true)
three u v w h = let p = and_parts (is_number u) (list_all is_number (v ∷ w ∷ [])) h in let q = two v w p.1 in (p.0, q.0, q.1)

-- an act that passes the tests, once its numbers are read
pub record Means (version : Version) (m : List ℕ) (a : Act (List ℕ) (List ℕ)) : Type 0 where
  pub moment : is_number m ≡ true
  pub within : is_moment (value m) ≡ true
  pub act : IsAct version (act_map (λ n. n) value a)
  pub words : act_words (λ w. w) a ≡ act_words decimal (act_map (λ n. n) value a)

act_means : (version : Version) (names : List (List ℕ)) (moments m : List ℕ) (a : Act (List ℕ) (List ℕ)) → is_act_named a ≡ true → Passes version names moments (at_moment m a) → Means version m a
act_means version names moments m (act.Join n) name t = record { moment = one m t.spelled; within = t.in_range; act = name; words = refl }
act_means version names moments m (act.Wake n) name t = record { moment = one m t.spelled; within = t.in_range; act = name; words = refl }
act_means version names moments m (act.Block n) name t = record { moment = one m t.spelled; within = t.in_range; act = name; words = refl }
act_means version names moments m (act.Leave n) name t = record { moment = one m t.spelled; within = t.in_range; act = name; words = refl }
act_means version names moments m (act.Exit n) name t = record { moment = one m t.spelled; within = t.in_range; act = name; words = refl }
act_means version names moments m (act.Run n d) name t =
    let w = two m d t.spelled in
    let x = and_parts (is_moment (value m)) (is_span (value d)) t.in_range in
    record { moment = w.0; within = x.0; act = (name, x.1); words = ap (λ (u : List ℕ). codes "run" ∷ n ∷ u ∷ []) (sym (number_is d w.1 (small_span (value d) x.1))) }
act_means version names moments m (act.Retune n q p) name t =
    let w = three m q p t.spelled in
    let x = and_parts (is_moment (value m)) (reservation_fits (reservation_value q p)) t.in_range in
    let fits = reservation_is (reservation_value q p) x.1 in
    let small = small_period (reservation_value q p) fits in
    record {
      moment = w.0;
      within = x.0;
      act = (name, fits, t.allowed);
      words = ap (λ (u : List ℕ). codes "retune" ∷ n ∷ u ∷ p ∷ []) (sym (number_is q w.1 small.0))
          ∙ ap (λ (u : List ℕ). codes "retune" ∷ n ∷ decimal (value q) ∷ u ∷ []) (sym (number_is p w.2 small.1));
    }
act_means version names moments m act.Read name t = record { moment = one m t.spelled; within = t.in_range; act = tt; words = refl }

pub form_means : (r s : Read) (line : List ℕ) (f : Form) → line ≡ join_with_byte 32 (form_words f) → is_named f ≡ true → Passes r.version (names_of r.declared) (times_of r.happenings) f → adds f r ≡ s → Declares r line s ⊎ Says r line s
form_means r s line (queue a b) is name p e = absurd (let h = p.allowed in cc)
form_means r s line (task n q p) is name t e =
    let w = two q p t.spelled in
    let x = and_parts (nat_lt (length (names_of r.declared)) 256) (reservation_fits (reservation_value q p)) t.in_range in
    let fits = reservation_is (reservation_value q p) x.1 in
    let small = small_period (reservation_value q p) fits in
    inl (record {
      declaration = record { name = n; params = reservation_value q p };
      is = record { name = name; fits = fits; few = ltb-true _ _ x.0; fresh = no_task (task_of (names_of r.declared) n) t.fresh };
      spelled = is ∙ ap (λ (u : List ℕ). join_with_byte 32 (codes "task" ∷ n ∷ u ∷ p ∷ [])) (sym (number_is q w.0 small.0))
          ∙ ap (λ (u : List ℕ). join_with_byte 32 (codes "task" ∷ n ∷ decimal (value q) ∷ u ∷ [])) (sym (number_is p w.1 small.1));
      first = sym (length-map r.happenings (λ h. h.m)) ∙ eqb-true _ _ t.allowed;
      added = e;
    })
form_means r s line (at_moment m a) is name t e =
    let h = act_means r.version (names_of r.declared) (times_of r.happenings) m a name t in
    inr (record {
      happening = record { m = value m; act = act_map (λ n. n) value a };
      is = record { after = leb-true _ _ t.timely; within = h.within; act = h.act };
      spelled = is ∙ ap (λ (u : List ℕ). join_with_byte 32 (codes "at" ∷ u ∷ act_words (λ w. w) a)) (sym (number_is m h.moment (small_moment (value m) h.within)))
          ∙ ap (λ (ws : List (List ℕ)). join_with_byte 32 (codes "at" ∷ decimal (value m) ∷ ws)) h.words;
      added = e;
    })

pub line_means : (r s : Read) (line : List ℕ) → take_line r line ≡ Ok s → Declares r line s ⊎ Says r line s
line_means r s line e =
    let t = taken r s line e in
    let h = form_is (words_of line) t.0 t.1 in
    form_means r s line t.0 (sym (join_with_byte-slice_split 32 line) ∙ ap (join_with_byte 32) h.0) h.1 (passes r.version (names_of r.declared) (times_of r.happenings) t.0 t.2) t.3
