-- What a player has taken, from call to call.
use Rattle.std.proofs.Common.{◌≡◌, refl, sym, ◌∙◌, ap, subst, Bool, true, false, Option, Some, None, List, [], ◌∷◌, ◌++◌, append_assoc, append-nil}
use Rattle.probe_run.specs.declared.rules.PlayRules.{PlayRules}
use Rattle.probe_run.specs.State.{State}
use Rattle.probe_run.specs.Runs.{state_of}
use Rattle.probe_run.specs.Counting.{Holds}
use Rattle.probe_explain.specs.declared.search.ProbeLine.{ProbeLine}
use Rattle.probe_explain.specs.declared.play.Play.{Play}
use Rattle.probe_explain.specs.Explained.{Leads, IsPlain, IsExplained, IsExplainedSoFar}
use Rattle.probe_explain.specs.inside.Playing.{IsPlayed, come_to, HasTaken, TakesNothing, TakesLine, Finishes}
use Rattle.probe_explain.proofs.Moves.{none_played, played_on}
use Rattle.probe_explain.proofs.Prefixes.{prefix_explained}

pub begins : (p : Play) (start : State) → p.waiting.items ≡ [] → come_to p ≡ start → HasTaken p p.rules start []
unfolding HasTaken
begins p start none here =
    let F : State → Type 0 = λ s. IsPlayed p.rules start [] s in
    (refl, [], sym none, subst F (sym here) (none_played p.rules start))

pub same : (p : Play) → TakesNothing p p
unfolding TakesNothing
same p t start ls h = h

pub one_then : (a b c : Play) → TakesNothing a b → TakesNothing b c → TakesNothing a c
unfolding TakesNothing
one_then a b c one other t start ls h = other t start ls (one t start ls h)

pub line_then : (a b c : Play) (l : ProbeLine) → TakesLine a l b → TakesNothing b c → TakesLine a l c
unfolding TakesNothing TakesLine
line_then a b c l one other t start ls h = other t start (ls ++ l ∷ []) (one t start ls h)

pub then_finishes : (a b c : Play) → TakesNothing a b → Finishes b c → Finishes a c
unfolding TakesNothing Finishes
then_finishes a b c one other t start ls h = other t start ls (one t start ls h)

-- a line more waits
pub pushed : (old new : Play) (l : ProbeLine) → new.rules ≡ old.rules → come_to new ≡ come_to old
    → new.waiting.items ≡ old.waiting.items ++ l ∷ [] → TakesLine old l new
unfolding HasTaken TakesLine
pushed old new l by here more t start ls h =
    let F : State → Type 0 = λ s. IsPlayed t start h.1 s in
    let split : ls ++ l ∷ [] ≡ h.1 ++ new.waiting.items =
    ap (λ xs. xs ++ l ∷ []) h.2 ∙ (append_assoc h.1 old.waiting.items (l ∷ []) ∙ ap (λ xs. h.1 ++ xs) (sym more)) in
    (by ∙ h.0, h.1, split, subst F (sym here) h.3)

-- the run and the lines are the same
pub alike : (old new : Play) → new.rules ≡ old.rules → new.waiting.items ≡ old.waiting.items → come_to new ≡ come_to old → TakesNothing old new
unfolding HasTaken TakesNothing
alike old new by kept here t start ls h =
    let F : State → Type 0 = λ s. IsPlayed t start h.1 s in
    (by ∙ h.0, h.1, h.2 ∙ ap (λ xs. h.1 ++ xs) (sym kept), subst F (sym here) h.3)

-- moves were made
pub moved : (old new : Play) → new.rules ≡ old.rules → new.waiting.items ≡ old.waiting.items
    → IsPlayed old.rules (come_to old) [] (come_to new) → TakesNothing old new
unfolding HasTaken TakesNothing
moved old new by kept goes t start ls h =
    let F : PlayRules → Type 0 = λ u. IsPlayed u (come_to old) [] (come_to new) in
    let on : IsPlayed t start (h.1 ++ []) (come_to new) = played_on t start (come_to old) (come_to new) h.1 [] h.3 (subst F h.0 goes) in
    (by ∙ h.0, h.1 ++ [], h.2 ∙ (ap (λ xs. xs ++ old.waiting.items) (sym (append-nil h.1)) ∙ ap (λ xs. (h.1 ++ []) ++ xs) (sym kept)), on)

-- the first line that waited was played
pub popped : (old new : Play) (next : ProbeLine) → new.rules ≡ old.rules → old.waiting.items ≡ next ∷ new.waiting.items
    → IsPlayed old.rules (come_to old) (next ∷ []) (come_to new) → TakesNothing old new
unfolding HasTaken TakesNothing
popped old new next by first goes t start ls h =
    let F : PlayRules → Type 0 = λ u. IsPlayed u (come_to old) (next ∷ []) (come_to new) in
    let on : IsPlayed t start (h.1 ++ next ∷ []) (come_to new) = played_on t start (come_to old) (come_to new) h.1 (next ∷ []) h.3 (subst F h.0 goes) in
    (by ∙ h.0, h.1 ++ next ∷ [], h.2 ∙ (ap (λ xs. h.1 ++ xs) first ∙ sym (append_assoc h.1 (next ∷ []) new.waiting.items)), on)

-- no line waits, and what was read has had its point
pub ended : (p : Play) → p.waiting.items ≡ [] → (come_to p).claims ≡ [] → Finishes p p
unfolding HasTaken Finishes IsPlayed
ended p none met t start ls h plain e =
    let done = h.3 plain e in
    let all : h.1 ≡ ls = sym (h.2 ∙ (ap (λ xs. h.1 ++ xs) none ∙ append-nil h.1)) in
    let F : List ProbeLine → Type 0 = λ xs. Leads t start xs (come_to p) in
    (come_to p, subst F all done.1, met)

-- a deviation was counted
pub refused : (old new : Play) → Holds (come_to old) false (come_to new) → Finishes old new
unfolding Finishes
refused old new h t start ls taken plain e = let behind = h e in cc

-- and nothing was taken
pub refused_same : (old new : Play) → new.rules ≡ old.rules → new.waiting.items ≡ old.waiting.items
    → Holds (come_to old) false (come_to new) → TakesNothing old new
unfolding HasTaken TakesNothing IsPlayed
refused_same old new by kept h t start ls taken =
    (by ∙ taken.0, taken.1, taken.2 ∙ ap (λ xs. taken.1 ++ xs) (sym kept), λ plain e. let behind = h e in cc)

-- all lines of a play that is over
pub explained_all : (old new : Play) → Finishes old new → (t : PlayRules) (start : State) (ls : List ProbeLine) → HasTaken old t start ls
    → IsPlain t → (come_to new).first ≡ None → IsExplained t start ls
unfolding Finishes
explained_all old new all t start ls h = all t start ls h

-- the same lines, of a play that took no other
pub taken_still : (old new : Play) → TakesNothing old new → (t : PlayRules) (start : State) (ls : List ProbeLine) → HasTaken old t start ls → HasTaken new t start ls
unfolding TakesNothing
taken_still old new same t start ls h = same t start ls h

-- and one line more
pub taken_more : (old new : Play) (l : ProbeLine) → TakesLine old l new → (t : PlayRules) (start : State) (ls : List ProbeLine) → HasTaken old t start ls
    → HasTaken new t start (ls ++ l ∷ [])
unfolding TakesLine
taken_more old new l one t start ls h = one t start ls h

-- what is explained is explained so far at each of its lines
pub so_far : (t : PlayRules) (start : State) (all ls more : List ProbeLine) → IsExplained t start all → all ≡ ls ++ more → IsExplainedSoFar t start ls
so_far t start all ls more h e = prefix_explained t start ls more (subst (λ xs. IsExplained t start xs) e h)
