-- What the status tells of the words, from what it tells where they are right, and where they are not.
use Rattle.std.proofs.Common.{◌≡◌, ◌⊎◌, ◌∙◌, ℕ, ◌≤◌, List, [], Option, Some, None, ap, arith, inl, inr, refl, subst, sym}
use Rattle.clap.specs.Kinds.{IsAmong}
use Rattle.clap.specs.Words.{Row, Text, fault_of, matches_of}
use Rattle.clap.specs.declared.error.kind.ErrorKind.{ErrorKind}
use Rattle.clap.specs.declared.error.kind.ErrorKind.TheVariants as kinds
use Rattle.text_bytes.specs.declared.files.Source.{Source}
use Rattle.text_bytes.specs.Source.{Opener, Reader}
use Rattle.grub_run.specs.Written.{Begins, IsOutput, Writes}
use Rattle.grub_run.specs.Shown.{IsShown}
use Rattle.grub_run.specs.declared.view.FileView.{FileView as Shown}
use Rattle.grub_run.specs.Faults as faults
use Rattle.grub_run.specs.Faults.{HasFileFault, Whole}
use Rattle.grubrun.specs.CommandLine.{ReadsNumber, TriesNamed, command_line, files_named, view_named}
use Rattle.grubrun.specs.inside.Files.{names_among}
use Rattle.grubrun.specs.Statuses.{AsksFor, HasNoSpan, IsWanted, PrintsAsked}
use Rattle.grubrun.specs.Views.{IsMistake, IsRefused, Wants, wanted_of}
use Rattle.grubrun.specs.declared.view.Wanted.{Wanted}
use Rattle.grubrun.specs.declared.view.Wanted.TheVariants.{Reports, View, NoView, NoPicture, EmptySpan}
use Rattle.grubrun.specs.inside.Statuses.{IsServed, PrintsKind}

-- ---- words ask for one thing
one_number : (bits : ℕ) (o : Option Text) (a b : Option ℕ) → ReadsNumber bits o a → ReadsNumber bits o b → a ≡ b
one_number bits None a b p q = p ∙ sym q
one_number bits (Some t) (Some n) (Some m) p q = ap Some (p.1 ∙ sym q.1)
one_number bits (Some t) (Some n) None p q = absurd (q p.0)
one_number bits (Some t) None (Some m) p q = absurd (p q.0)
one_number bits (Some t) None None p q = refl

wants_one : (words : List Text) (a b : Wanted) → Wants words a → Wants words b → a ≡ b
wants_one words a b p q =
    let from = one_number 32 _ p.from q.from p.begins q.begins in
    let to = one_number 32 _ p.to q.to p.ends q.ends in
    p.is ∙ ap (λ (z : Option ℕ × Option ℕ). wanted_of (view_named words) z.0 z.1) (λ i. (from i, to i)) ∙ sym q.is

-- of what there is nothing of, nothing is written
writes_none : (old new : Option (List ℕ)) (wanted : Wanted) (tries : ℕ) (files : List (List ℕ)) → IsMistake wanted → Writes (IsWanted wanted tries) old new files → ⊥
writes_none old new Reports tries files mistake writes = mistake
writes_none old new (View view) tries files mistake writes = mistake
writes_none old new NoView tries files mistake writes = writes.1
writes_none old new NoPicture tries files mistake writes = writes.1
writes_none old new (EmptySpan from to) tries files mistake writes = writes.1

module _ {O N D X : Type 0} (o : Opener O D) (g : Reader N D) (source : Source O N) (contents : X → Option (List ℕ)) (old new : X) where
  -- ---- right words
  abbrev Served : Wanted → ℕ → List (List ℕ) → ℕ → Type 0
  Served wanted tries names n = IsServed o g source contents old new wanted tries names n

  pub reports_served : (wanted : Wanted) (tries : ℕ) (paths names : List (List ℕ)) (n : ℕ) → wanted ≡ Reports → paths ≡ names → (n ≡ 0) ⊎ (n ≡ 1) ⊎ (n ≡ 3) → (n ≡ 0 → Whole o g source (Writes (IsOutput tries) (contents old) (contents new)) paths)
      → (n ≡ 1 → HasFileFault o g source paths) → (n ≡ 1 → new ≡ old) → (n ≡ 3 → (new ≡ old) ⊎ Whole o g source (Begins (IsOutput tries) (contents old) (contents new)) paths) → Served wanted tries names n
  reports_served wanted tries paths names n is same status done file nothing failed =
      subst (λ w. Served w tries names n) (sym is) (subst (λ l. Served Reports tries l n) same (record {
        most = omega arith;
        done = done;
        file = file;
        usage = λ wrong. absurd (omega (arith, status, wrong));
        nothing = λ either. elim either [
          | inl one ↦ nothing one
          | inr two ↦ absurd (omega (arith, status, two))
        ];
        failed = failed;
      }))

  pub view_served : (wanted : Wanted) (view : Shown) (tries : ℕ) (paths names : List (List ℕ)) (n : ℕ) → wanted ≡ View view → paths ≡ names → (n ≡ 0) ⊎ (n ≡ 1) ⊎ (n ≡ 2) ⊎ (n ≡ 3) → (n ≡ 0 → Whole o g source (Writes (IsShown view) (contents old) (contents new)) paths)
      → (n ≡ 1 → HasFileFault o g source paths) → (n ≡ 2 → Whole o g source (faults.HasNoSpan view) paths) → ((n ≡ 1) ⊎ (n ≡ 2) → new ≡ old) → (n ≡ 3 → (new ≡ old) ⊎ Whole o g source (Begins (IsShown view) (contents old) (contents new)) paths) → Served wanted tries names n
  view_served wanted view tries paths names n is same status done file usage nothing failed =
      subst (λ w. Served w tries names n) (sym is) (subst (λ l. Served (View view) tries l n) same (record {
        most = omega arith;
        done = done;
        file = file;
        usage = λ wrong. inr (usage wrong);
        nothing = nothing;
        failed = failed;
      }))

  pub mistake_served : (wanted wish : Wanted) (tries : ℕ) (names : List (List ℕ)) (n : ℕ) → wanted ≡ wish → IsMistake wish → n ≡ 2 → new ≡ old → Served wanted tries names n
  mistake_served wanted wish tries names n is mistake two same = record {
    most = omega arith;
    done = λ zero. absurd (omega (arith, zero, two));
    file = λ one. absurd (omega (arith, one, two));
    usage = λ _. inl (subst IsMistake (sym is) mistake);
    nothing = λ _. same;
    failed = λ three. absurd (omega (arith, three, two));
  }

  module _ (words : List Text) (wanted : Wanted) (wants : Wants words wanted) (tries : ℕ) (named : TriesNamed words tries) (rows : List Row) (matches : rows ≡ matches_of command_line words) (n : ℕ) (is_served : Served wanted tries (names_among rows) n) where
    served : Served wanted tries (files_named words) n
    served = subst (λ r. Served wanted tries (names_among r) n) matches is_served

    asks : (P : Wanted → ℕ → List (List ℕ) → Type 0) → Whole o g source (P wanted tries) (files_named words) → AsksFor o g source P words
    asks P says = record { wanted = wanted; wants = wants; tries = tries; named = named; says = says }

    pub right_file : n ≡ 1 → HasFileFault o g source (files_named words)
    right_file is = served.file is

    pub right_usage : n ≡ 2 → IsRefused words ⊎ AsksFor o g source HasNoSpan words
    right_usage is = elim (served.usage is) [
      | inl mistake ↦ inl (inr (wanted, wants, mistake))
      | inr says ↦ inr (asks HasNoSpan says)
    ]

    pub right_done : n ≡ 0 → IsRefused words ⊎ AsksFor o g source (λ wanted tries. Writes (IsWanted wanted tries) (contents old) (contents new)) words
    right_done is = inr (asks (λ wanted tries. Writes (IsWanted wanted tries) (contents old) (contents new)) (served.done is))

    pub right_failed : n ≡ 3 → IsRefused words ⊎ (new ≡ old) ⊎ AsksFor o g source (λ wanted tries. Begins (IsWanted wanted tries) (contents old) (contents new)) words
    right_failed is = elim (served.failed is) [
      | inl same ↦ inr (inl same)
      | inr says ↦ inr (inr (asks (λ wanted tries. Begins (IsWanted wanted tries) (contents old) (contents new)) says))
    ]

    pub right_help : fault_of command_line words ≡ [] → IsRefused words → n ≡ 0 → PrintsAsked words (contents old) (contents new)
    right_help none refused is = elim refused [
      | inl fault ↦ absurd (fault none)
      | inr h ↦ absurd (writes_none _ _ wanted tries _ (subst IsMistake (wants_one words h.0 wanted h.1 wants) h.2) (served.done is).says)
    ]

-- ---- words that are refused
module _ (words : List Text) (kind : ErrorKind) (has : (kind ≡ kinds.OutOfMemory) ⊎ IsAmong kind (fault_of command_line words)) {X : Type 0} (old new : X) (n : ℕ) (memory : kind ≡ kinds.OutOfMemory → (n ≡ 3) × (new ≡ old)) where
  among_refused : IsAmong kind (fault_of command_line words) → IsRefused words
  among_refused among = inl (λ none. subst (IsAmong kind) none among)

  among_else : n ≤ 2 → IsAmong kind (fault_of command_line words)
  among_else few = elim has [
    | inl out ↦ let three = (memory out).0 in absurd (omega (arith, three, few))
    | inr among ↦ among
  ]

  pub wrong_usage : n ≡ 2 → IsRefused words
  wrong_usage two = among_refused (among_else (omega arith))

  pub wrong_done : n ≡ 0 → IsRefused words
  wrong_done zero = among_refused (among_else (omega arith))

  pub wrong_failed : {A : Type 0} → IsRefused words ⊎ (new ≡ old) ⊎ A
  wrong_failed = elim has [
    | inl out ↦ inr (inl (memory out).1)
    | inr among ↦ inl (among_refused among)
  ]

  pub wrong_help : (before after : Option (List ℕ)) → n ≡ 0 → PrintsKind kind before after → PrintsAsked words before after
  wrong_help before after zero prints =
      let among = among_else (omega arith) in
      elim prints [
        | inl help ↦ inl (subst (λ k. IsAmong k (fault_of command_line words)) help.0 among, help.1)
        | inr version ↦ inr (subst (λ k. IsAmong k (fault_of command_line words)) version.0 among, version.1)
      ]

-- and the status is of no file
pub wrong_most : (n : ℕ) → (n ≡ 0) ⊎ (n ≡ 2) ⊎ (n ≡ 3) → n ≤ 3
wrong_most n status = omega arith

pub wrong_file : {A : Type 0} (n : ℕ) → (n ≡ 0) ⊎ (n ≡ 2) ⊎ (n ≡ 3) → n ≡ 1 → A
wrong_file n status one = absurd (omega arith)

pub wrong_nothing : {A : Type 0} (n : ℕ) → (n ≡ 0) ⊎ (n ≡ 2) ⊎ (n ≡ 3) → (n ≡ 2 → A) → (n ≡ 1) ⊎ (n ≡ 2) → A
wrong_nothing n status nothing either = elim either [
  | inl one ↦ wrong_file n status one
  | inr two ↦ nothing two
]
