use Rattle.std.proofs.Common.{◌≡◌, ◌≤◌, ◌∙◌, ap, subst, sym, map, string_bytes, true, ℕ, List, Option, Some, None, IfSome, arith, refl}
use Rattle.std.proofs.lemmas.Result.{IfOk-from_err}
use Rattle.std.specs.Str.Parse.{ParsesUnsigned, ExplainsUnsignedError, HasUnsignedDigitsIfOk}
use Rattle.clap.specs.Matches.{found_of, one_text}
use Rattle.clap.specs.Words.{app_of, fault_of, is_simple, is_simple_and_free, matches_of}
use Rattle.clap.specs.Kinds.{HasKind}
use Rattle.clap.proofs.CallerReads.{signed_reads}
use Rattle.grubrun.specs.inside.Rounds.{rounds_id}
use Rattle.grubrun.proofs.CommandLemmas.{fails_again, fails_memory, number_read}
use Rattle.grubrun.proofs.RoundsLemmas.{rounds_read}
use Rattle.grubrun.proofs.command.parse.Goals as goal

pub returns-clause-rounds : goal.returns-clause-rounds
returns-clause-rounds c =
    let m = c.in_ok-matches.matches in
    let r = c.get_one-rounds.result in
    go (one_text (found_of m) rounds_id) refl
  where
    go : (o : Option (List ℕ)) → one_text (found_of c.in_ok-matches.matches) rounds_id ≡ o → IfSome c.get_one-rounds.result (λ n. 1 ≤ n)
    go None none = rw (c.get_one-rounds.ensures.none none) tt
    go (Some t) some =
        let read = rounds_read c.in_ok-command.field-0 c.in_ok-matches.matches c.in_ok-matches.ensures.parsed c.in_ok-command.ensures.rounds t some in
        let one = c.get_one-rounds.ensures.value t some in
        let got = signed_reads _ (λ bs r. ParsesUnsigned 16 10 bs r × ExplainsUnsignedError 10 bs r × HasUnsignedDigitsIfOk bs r) 16 1 65535 read.0 c.get_one-rounds.result (rw read.1 at one) (λ u x g. g.0) (omega arith) read.2 in
        rw got.1 got.2

pub returns-clause-number : goal.returns-clause-number
returns-clause-number c =
    number_read _ (λ bs r. ParsesUnsigned 16 10 bs r × ExplainsUnsignedError 10 bs r × HasUnsignedDigitsIfOk bs r) 16 (found_of c.in_ok-matches.matches) rounds_id c.get_one-rounds.result
    c.get_one-rounds.ensures.none c.get_one-rounds.ensures.value (λ u x g. g.0)

pub returns-clause-matches : goal.returns-clause-matches
returns-clause-matches c =
    let line = c.in_ok-command.ensures.line in
    let simple : is_simple (app_of c.in_ok-command.field-0) ≡ true = ap is_simple line in
    (c.in_ok-matches.ensures.matches simple).0 ∙ ap (λ a. matches_of a (map string_bytes c.args.words.now)) line

pub returns-in_err-matches-clause-faults : goal.returns-in_err-matches-clause-faults
returns-in_err-matches-clause-faults c =
    let line = c.in_ok-command.ensures.line in
    let kinds = c.in_err-matches.ensures.kinds (ap is_simple_and_free line) in
    fails_again _ c.in_err-matches.field-0.0 _ (subst (λ a. HasKind (fault_of a (map string_bytes c.args.words.now)) c.in_err-matches.field-0.0) line kinds) c.from_residual-in_err-matches.ensures.1

pub returns-in_err-command-clause-rounds : goal.returns-in_err-command-clause-rounds
returns-in_err-command-clause-rounds c = IfOk-from_err _ _ c.from_residual.ensures.0

pub returns-in_err-command-clause-number : goal.returns-in_err-command-clause-number
returns-in_err-command-clause-number c = IfOk-from_err _ _ c.from_residual.ensures.0

pub returns-in_err-command-clause-matches : goal.returns-in_err-command-clause-matches
returns-in_err-command-clause-matches c = IfOk-from_err _ _ c.from_residual.ensures.0

pub returns-in_err-matches-clause-rounds : goal.returns-in_err-matches-clause-rounds
returns-in_err-matches-clause-rounds c = IfOk-from_err _ _ c.from_residual-in_err-matches.ensures.0

pub returns-in_err-matches-clause-number : goal.returns-in_err-matches-clause-number
returns-in_err-matches-clause-number c = IfOk-from_err _ _ c.from_residual-in_err-matches.ensures.0

pub returns-in_err-matches-clause-matches : goal.returns-in_err-matches-clause-matches
returns-in_err-matches-clause-matches c = IfOk-from_err _ _ c.from_residual-in_err-matches.ensures.0

pub returns-in_err-command-clause-faults : goal.returns-in_err-command-clause-faults
returns-in_err-command-clause-faults c = fails_memory _ _ c.from_residual.ensures.1

pub returns-clause-faults : goal.returns-clause-faults
returns-clause-faults c =
    let line = c.in_ok-command.ensures.line in
    ap (λ a. fault_of a (map string_bytes c.args.words.now)) (sym line) ∙ c.in_ok-matches.ensures.kinds (ap is_simple_and_free line)
