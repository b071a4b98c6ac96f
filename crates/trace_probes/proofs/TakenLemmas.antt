-- What a line shows whose fields were all taken.
use Rattle.std.proofs.Common.{◌≡◌, ℕ, List, Option, Some, option_map, ap, ◌∙◌, subst}
use Rattle.trace_probes.specs.Fields.{values_with}
use Rattle.trace_probes.specs.Shown.{shows}
use Rattle.trace_probes.specs.Tables.{no_values}
use Rattle.trace_probes.specs.declared.field.Field.{Field}
use Rattle.trace_probes.specs.declared.value.FieldValue.{FieldValue}

pub shows_taken : {A B : Type 0} (fields : List Field) (items given : List FieldValue) (words : List (List ℕ)) (show : List FieldValue → A) (shown : A) (u : B) (result : Option B) → result ≡ Some u → option_map (λ _. items) result ≡ values_with fields given words → given ≡ no_values → shown ≡ show items → Some shown ≡ shows fields show words
shows_taken fields items given words show shown u result is taken none e =
    let found : Some items ≡ values_with fields given words = subst (λ r. option_map (λ _. items) r ≡ values_with fields given words) is taken in
    let all : Some items ≡ values_with fields no_values words = subst (λ (g : List FieldValue). Some items ≡ values_with fields g words) none found in
    ap (λ s. Some s) e ∙ ap (option_map show) all
