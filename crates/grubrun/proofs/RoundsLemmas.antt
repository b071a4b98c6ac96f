-- The rounds that a parse reads are at least 1.
use Rattle.std.proofs.Common.{◌≡◌, ◌∙◌, ◌<◌, ℕ, true, false, List, [], ◌∷◌, length, Option, Some, None, option_map, ap, refl, sym, subst, inl, inr, arith, codes, ◌||◌}
use Rattle.std.specs.Prelude.{slice_get, pos, unwrap_or}
use Rattle.std.specs.List.{All, slice_index_or}
use Rattle.std.specs.Borrow.{Bor}
use Rattle.std.specs.Str.{bytes_eq}
use Rattle.std.proofs.lemmas.Bool.{cases_lt}
use Rattle.std.proofs.lemmas.List.Elements.{All-nil, All-push}
use Rattle.std.proofs.lemmas.Slice.Eq.{bytes_eq-Decides}
use Rattle.clap.specs.Facts.{args_of, groups_of, Entry, EntryPasses, PassesArg, HasReading, parser_of, parser_of_value}
use Rattle.clap.specs.Built.{AddsArg, BuildsTo, IsAuto, IsParsedFrom, IsPlainArg}
use Rattle.clap.specs.Matches.{found_of, matched_of, one_text}
use Rattle.clap.specs.Words.{App, Rule, rule_of, with_rule}
use Rattle.clap.specs.Values.{Accepts, IsSignedIn, read_as, reading_of}
use Rattle.clap.specs.Lexer.{without_minus}
use Rattle.clap.proofs.CallerLemmas.{added_plain, entry_by_id}
use Rattle.clap.specs.declared.builder.arg.Arg.{Arg}
use Rattle.clap.specs.declared.builder.command.Command.{Command}
use Rattle.clap.specs.declared.builder.command.Command.TheViews.{out-Command}
use Rattle.clap.specs.declared.builder.value_parser.ValueParser.{ValueParser}
use Rattle.clap.specs.declared.builder.value_parser.Reading.{Reading}
use Rattle.clap.specs.declared.parser.matches.ArgMatches.{ArgMatches}
use Rattle.clap.specs.declared.parser.matches.MatchedArg.{MatchedArg}
use Rattle.grubrun.specs.inside.Rounds.{IsCommand, IsOf, TakesRounds, rounds_id, rounds_parser}
use Rattle.grubrun.proofs.CommandLemmas.{line_more}

All-get_at : {X : Type 0} (P : X → Type 0) (xs : List X) (k : ℕ) (x : X) → k < length xs → slice_index_or xs k x ≡ x → All P xs → P x
All-get_at P xs k x below at all = subst P at (all k x below)

abbrev Parses : Arg → Type 0
Parses a = bytes_eq a.id.now rounds_id ≡ true → a.value_parser ≡ Some rounds_parser

-- an argument that building adds is not that of the rounds
not_auto : (a : Arg) → IsAuto a → bytes_eq a.id.now rounds_id ≡ true → ⊥
not_auto a (inl h) same = let bad : bytes_eq (codes "help") rounds_id ≡ true = rw h at same in cc
not_auto a (inr h) same = let bad : bytes_eq (codes "version") rounds_id ≡ true = rw h at same in cc

-- what building keeps of them
built_parses : (old built : Command) → BuildsTo old built → All Parses (args_of old) → All Parses (args_of built)
built_parses old built from all = λ k d lt same. elim (cases_lt k (length (args_of old))) [
  | inl under ↦
      let rules = (from.kept k d under).1 in
      rules.parser rounds_parser (all k d under (rw (← rules.id) same))
  | inr over ↦ absurd (not_auto (slice_index_or (args_of built) k d) (from.extra k d over lt) same)
]

-- a value of the rounds is a number in their range, and is read as one
parser_is : (a : Arg) → Parses a → bytes_eq a.id.now rounds_id ≡ true → parser_of a ≡ rounds_parser
parser_is a parses same = ap parser_of_value (parses same)

accepted_in : (a : Arg) (v : List ℕ) → parser_of a ≡ rounds_parser → Accepts a.ignore_case (parser_of a) v → IsSignedIn (pos 1) (pos 65535) v
accepted_in a v is accepts = let P : ValueParser → Type 0 = λ q. Accepts a.ignore_case q v in subst P is accepts

value_in : (c : Command) (v : List ℕ) → All Parses (args_of c) → PassesArg c rounds_id v → IsSignedIn (pos 1) (pos 65535) v
value_in c v all (k, a, below, at, (same, accepts)) =
    let parses : Parses a = All-get_at Parses (args_of c) k a below at all in
    accepted_in a v (parser_is a parses same) accepts

reading_in : (c : Command) (r : Reading) → All Parses (args_of c) → HasReading c rounds_id r → r ≡ reading_of rounds_parser
reading_in c r all (k, a, below, at, (same, is)) =
    let parses : Parses a = All-get_at Parses (args_of c) k a below at all in
    sym is ∙ ap reading_of (parser_is a parses same)

-- ---- the command, argument by argument

pub takes_none : (c : Command) → args_of c ≡ [] → groups_of c ≡ [] → (out-Command c).has_globals ≡ false → TakesRounds c
takes_none c args groups local = record {
  plain = (subst (All IsPlainArg) (sym args) (All-nil IsPlainArg), groups);
  local = local;
  parser = subst (All Parses) (sym args) (All-nil Parses);
}

takes_more : (old new : Command) (id : List ℕ) (a : Arg) → AddsArg old a new → TakesRounds old → IsOf id a → Parses a → TakesRounds new
takes_more old new id a added takes is parses = record {
  plain = added_plain old new a added takes.plain is.plain;
  local = added.globals ∙ (ap (λ b. b || a.global) takes.local ∙ ap (λ b. false || b) is.local);
  parser = subst (All Parses) (sym added.args) (All-push Parses (args_of old) added.arg takes.parser (λ same. added.rules.parser rounds_parser (parses (rw (← added.rules.id) same))));
}

other_parses : (id : List ℕ) (a : Arg) → IsOf id a → bytes_eq id rounds_id ≡ false → Parses a
other_parses id a is differs = λ same. let bad : bytes_eq id rounds_id ≡ true = rw is.id_is at same in let no : false ≡ true = sym differs ∙ bad in cc

-- a command is one of a longer line with one argument more
command_more : (old new : Command) (id : List ℕ) (a : Arg) (app : App) (rule : Rule) → AddsArg old a new → IsCommand app old → IsOf id a → Parses a → rule_of a ≡ rule → IsCommand (with_rule app rule) new
command_more old new id a app rule added is of parses ruled = record { rounds = takes_more old new id a added is.rounds of parses; line = line_more old new a app rule added of.local is.line ruled }

pub with_rounds : (old new : Command) (a : Arg) (app : App) (rule : Rule) → AddsArg old a new → IsCommand app old → IsOf rounds_id a → a.value_parser ≡ Some rounds_parser → rule_of a ≡ rule → IsCommand (with_rule app rule) new
with_rounds old new a app rule added is of parser ruled = command_more old new rounds_id a app rule added is of (λ same. parser) ruled

pub with_other : (old new : Command) (id : List ℕ) (a : Arg) (app : App) (rule : Rule) → bytes_eq id rounds_id ≡ false → AddsArg old a new → IsCommand app old → IsOf id a → rule_of a ≡ rule → IsCommand (with_rule app rule) new
with_other old new id a app rule differs added is of ruled = command_more old new id a app rule added is of (other_parses id a of differs) ruled

-- ---- what is read after a parse

-- what the first value of an entry gives
abbrev IsRead : List ℕ → Type 0
IsRead t = (w : List ℕ) × (t ≡ without_minus w) × IsSignedIn (pos 1) (pos 65535) w

first_read : (c : Command) (x : MatchedArg) (t : List ℕ) (vs : List (Bor (List ℕ))) → All Parses (args_of c) → All (λ v. PassesArg c rounds_id v.now) vs
    → x.reading ≡ reading_of rounds_parser → option_map (λ s. read_as x.reading s.now) (slice_get vs 0) ≡ Some t → IsRead t
first_read c x t [] all pass reading is = cc
first_read c x t (v ∷ vs) all pass reading is =
    let first : PassesArg c rounds_id v.now = pass 0 v (omega arith) in
    let same : read_as x.reading v.now ≡ t = ap (λ o. unwrap_or o t) is in
    let how : read_as x.reading v.now ≡ without_minus v.now = ap (λ h. read_as h v.now) reading in
    (v.now, sym same ∙ how, value_in c v.now all first)

entry_read : (c : Command) (x : MatchedArg) (t : List ℕ) (e : Entry) → All Parses (args_of c) → groups_of c ≡ [] → e.1 ≡ x → bytes_eq e.0.now rounds_id ≡ true → EntryPasses c e
    → option_map (λ s. read_as x.reading s.now) (slice_get x.vals.items 0) ≡ Some t → IsRead t
entry_read c x t e all none same key pass is =
    let id : e.0.now ≡ rounds_id = (bytes_eq-Decides e.0.now rounds_id).0 key in
    let no_group : e.1.is_group ≡ true → ⊥ = λ g. elim (pass.3 g) [
      | inl empty ↦ let bad : rounds_id ≡ [] = sym id ∙ empty in cc
      | inr lots ↦ let bad : 0 < 0 = rw none at lots in absurd (omega arith)
    ] in
    let values : All (λ v. PassesArg c rounds_id v.now) x.vals.items = elim pass.0 [
      | inl g ↦ absurd (no_group g)
      | inr vals ↦ subst (λ (w : List ℕ). All (λ v. PassesArg c w v.now) x.vals.items) id (rw same at vals)
    ] in
    let reading : x.reading ≡ reading_of rounds_parser = elim pass.4 [
      | inl g ↦ absurd (no_group g)
      | inr h ↦ ap (λ (y : MatchedArg). y.reading) (sym same) ∙ reading_in c e.1.reading all (subst (λ (w : List ℕ). HasReading c w e.1.reading) id h)
    ] in
    first_read c x t x.vals.items all values reading is

pub rounds_read : (c : Command) (m : ArgMatches) (p : IsParsedFrom c m) → TakesRounds c → (t : List ℕ) → one_text (found_of m) rounds_id ≡ Some t → IsRead t
rounds_read c m p takes t is = go (matched_of (found_of m) rounds_id) refl
  where
    go : (o : Option MatchedArg) → matched_of (found_of m) rounds_id ≡ o → IsRead t
    go None none = let bad : None ≡ Some t = rw none at is in cc
    go (Some x) found =
        let got = entry_by_id (EntryPasses p.built) (found_of m).entries.items rounds_id x (p.parsed (p.from.globals ∙ takes.local)).values found in
        entry_read p.built x t got.0 (built_parses c p.built p.from takes.parser) (p.from.plain takes.plain).1 got.1 got.2 got.3 (rw found at is)
