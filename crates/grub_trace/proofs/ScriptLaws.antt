-- The script that lines are, one after the other.
use Rattle.std.proofs.Common.{◌≡◌, ℕ, false, true, subst, suc, ◌+◌, ◌<◌, ◌≤◌, List, [], ◌∷◌, ◌++◌, length, Option, Some, None, Result, Ok, Err, refl, sym, ap, ◌∙◌, arith}
use Rattle.std.specs.Prelude.{option_map}
use Rattle.std.specs.Option.{option_or}
use Rattle.std.proofs.lemmas.List.{length_push, map_push}
use Rattle.grub_plan.specs.declared.line.Act.{Act}
use Rattle.grub_plan.specs.declared.line.Act.TheVariants as act
use Rattle.grub_trace.specs.declared.version.Version.{Version}
use Rattle.grub_trace.specs.declared.tasks.Tasks.{Tasks}
use Rattle.text_bytes.specs.Lines.{parts_of}
use Rattle.grub_trace.specs.Naming.{act_in, line_in}
use Rattle.grub_plan.specs.Plans.{Line}
use Rattle.grub_trace.specs.Tree.{Happening, names_of}
use Rattle.grub_trace.specs.inside.Forms.{begins_with_task}
use Rattle.grub_trace.specs.inside.Lines.{IsScript, script_in}
use Rattle.grub_trace.specs.inside.Reading.{Read, declarations, opened, option_or_err, read_lines, says, script_from, take_line, ◌>>=◌}
use Rattle.grub_trace.proofs.LineLemmas.{goes_on}

-- what was said so far, and what is still read
pub record SaysOn (version : Version) (tasks : Tasks) (lines : List Line) (unknown : Option ℕ) (number : ℕ) (rest : List ℕ) (first : ℕ) (text : List ℕ) : Type 0 where
  pub happenings : List Happening
  pub script : IsScript (names_of (declarations tasks)) first happenings lines unknown
  pub so_far : read_lines (record { version = version; declared = declarations tasks; happenings = happenings }) number (parts_of rest) ≡ read_lines (opened version (declarations tasks)) first (parts_of text)
  pub count : number + length rest ≤ first + length text
  pub place : number ≡ first + length happenings
  pub below : begins_with_task (parts_of rest) ≡ true → 0 < length happenings

script_push : (names : List (List ℕ)) (hs : List Happening) (h : Happening) (done : List Line) (n : ℕ) → script_from names done n (hs ++ h ∷ []) ≡ (script_from names done n hs >>= λ ls. option_or_err (n + length hs) (line_in names h) >>= λ l. Ok (ls ++ l ∷ []))
unfolding script_from
script_push names [] h done n = ap (λ (k : ℕ). option_or_err k (line_in names h) >>= λ l. Ok (done ++ l ∷ [])) (omega arith)
script_push names (g ∷ hs) h done n = go (option_or_err n (line_in names g)) (λ l. script_push names hs h (done ++ l ∷ []) (n + 1))
  where
    go : (r : Result Line ℕ) → ((l : Line) → script_from names (done ++ l ∷ []) (n + 1) (hs ++ h ∷ []) ≡ (script_from names (done ++ l ∷ []) (n + 1) hs >>= λ ls. option_or_err (n + 1 + length hs) (line_in names h) >>= λ l. Ok (ls ++ l ∷ [])))
        → (r >>= λ l. script_from names (done ++ l ∷ []) (n + 1) (hs ++ h ∷ [])) ≡ ((r >>= λ l. script_from names (done ++ l ∷ []) (n + 1) hs) >>= λ ls. option_or_err (n + suc (length hs)) (line_in names h) >>= λ l. Ok (ls ++ l ∷ []))
    go (Err e) rest = refl
    go (Ok l) rest = rest l ∙ ap (λ (k : ℕ). script_from names (done ++ l ∷ []) (n + 1) hs >>= λ ls. option_or_err k (line_in names h) >>= λ l. Ok (ls ++ l ∷ [])) (omega arith)

pub script_none : (names : List (List ℕ)) (first : ℕ) → IsScript names first [] [] None
unfolding script_from
script_none names first = record { times = refl; script = refl }

-- one line more, whose task is declared
pub script_known : (names : List (List ℕ)) (first : ℕ) (h : Happening) (hs : List Happening) (lines : List Line) (unknown : Option ℕ) (a : Act ℕ ℕ) → Some a ≡ act_in names h.act → IsScript names first hs lines unknown
    → IsScript names first (hs ++ h ∷ []) (lines ++ record { m = h.m; act = a } ∷ []) unknown
script_known names first h hs lines unknown a is on = record {
  times = map_push (λ h. h.m) hs h ∙ ap (λ ts. ts ++ h.m ∷ []) on.times ∙ sym (map_push (λ l. l.m) lines (record { m = h.m; act = a }));
  script = script_push names hs h [] first ∙ ap (λ r. r >>= λ ls. option_or_err (first + length hs) (line_in names h) >>= λ l. Ok (ls ++ l ∷ [])) on.script ∙ go unknown;
}
  where
    go : (u : Option ℕ) → (script_in lines u >>= λ ls. option_or_err (first + length hs) (line_in names h) >>= λ l. Ok (ls ++ l ∷ [])) ≡ script_in (lines ++ record { m = h.m; act = a } ∷ []) u
    go None = ap (λ (o : Option (Act ℕ ℕ)). option_or_err (first + length hs) (option_map (λ a. record { m = h.m; act = a }) o) >>= λ l. Ok (lines ++ l ∷ [])) (sym is)
    go (Some n) = refl

-- and one whose task is not
pub script_unknown : (names : List (List ℕ)) (first number : ℕ) (h : Happening) (hs : List Happening) (lines : List Line) (unknown : Option ℕ) → None ≡ act_in names h.act → number ≡ first + length hs → IsScript names first hs lines unknown
    → IsScript names first (hs ++ h ∷ []) (lines ++ record { m = h.m; act = act.Read } ∷ []) (option_or unknown (Some number))
script_unknown names first number h hs lines unknown is place on = record {
  times = map_push (λ h. h.m) hs h ∙ ap (λ ts. ts ++ h.m ∷ []) on.times ∙ sym (map_push (λ l. l.m) lines (record { m = h.m; act = act.Read }));
  script = script_push names hs h [] first ∙ ap (λ r. r >>= λ ls. option_or_err (first + length hs) (line_in names h) >>= λ l. Ok (ls ++ l ∷ [])) on.script ∙ go unknown;
}
  where
    go : (u : Option ℕ) → (script_in lines u >>= λ ls. option_or_err (first + length hs) (line_in names h) >>= λ l. Ok (ls ++ l ∷ [])) ≡ script_in (lines ++ record { m = h.m; act = act.Read } ∷ []) (option_or u (Some number))
    go None = ap (λ (o : Option (Act ℕ ℕ)). option_or_err (first + length hs) (option_map (λ a. record { m = h.m; act = a }) o) >>= λ l. Ok (lines ++ l ∷ [])) (sym is) ∙ ap Err (sym place)
    go (Some n) = refl

-- before the first line
pub says_none : (version : Version) (tasks : Tasks) (lines : List Line) (first : ℕ) (text : List ℕ) → lines ≡ [] → begins_with_task (parts_of text) ≡ false → SaysOn version tasks lines None first text first text
says_none version tasks lines first text none below = record {
  happenings = [];
  script = subst (λ ls. IsScript (names_of (declarations tasks)) first [] ls None) (sym none) (script_none (names_of (declarations tasks)) first);
  so_far = refl;
  count = omega arith;
  place = omega arith;
  below = λ task. absurd (let x = sym task ∙ below in cc);
}

-- the next line
pub says_next : (version : Version) (tasks : Tasks) (lines more : List Line) (unknown now : Option ℕ) (number : ℕ) (rest line after : List ℕ) (first : ℕ) (text : List ℕ) (h : Happening) → (on : SaysOn version tasks lines unknown number rest first text)
    → parts_of rest ≡ line ∷ parts_of after → length after < length rest
    → take_line (record { version = version; declared = declarations tasks; happenings = on.happenings }) line ≡ Ok (says h (record { version = version; declared = declarations tasks; happenings = on.happenings }))
    → IsScript (names_of (declarations tasks)) first (on.happenings ++ h ∷ []) more now → SaysOn version tasks more now (number + 1) after first text
says_next version tasks lines more unknown now number rest line after first text h on parts shorter taken script =
    let r : Read = record { version = version; declared = declarations tasks; happenings = on.happenings } in
    let longer = length_push on.happenings h in
    record {
      happenings = on.happenings ++ h ∷ [];
      script = script;
      so_far = goes_on r (says h r) number rest line after _ parts taken on.so_far;
      count = omega (arith, on.count, shorter);
      place = omega (arith, on.place, longer);
      below = λ _. omega (arith, longer);
    }
