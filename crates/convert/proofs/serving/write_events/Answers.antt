use Rattle.std.proofs.Common.{◌≡◌, ◌∙◌, ap, length, map, refl, rules, subst, sym, vec_len, List, ℕ}
use Rattle.std.proofs.lemmas.List.{length-map}
use Rattle.std.proofs.lemmas.Result.{on_ok_weaker}
use Rattle.std.specs.Prelude.{string_bytes}
use Rattle.grub_plan.specs.Contents.{contents}
use Rattle.convert.specs.Serving.{AreFree, AreMade, event_paths}
use Rattle.convert.proofs.ServingLemmas.{count_of_paths}
use Rattle.convert.proofs.serving.write_events.Goals as goal

pub write_files-requires-clause-same : goal.write_files-requires-clause-same
write_files-requires-clause-same g c =
    let long : vec_len c.in-Ok.files ≡ length c.in-Ok.files.items = search rules in
    let paths = sym (length-map c.in-Ok-paths_of.paths.items string_bytes) ∙ ap length c.in-Ok-paths_of.ensures ∙ count_of_paths c.args.prefix.now c.len.result in
    ap length c.deref-2.ensures.value ∙ paths ∙ c.len.ensures ∙ long ∙ sym (ap length c.deref-3.ensures.value)

pub returns : goal.returns
returns g c =
    let long : vec_len c.in-Ok.files ≡ length c.in-Ok.files.items = search rules in
    let files = contents c.in-Ok.files.items in
    let prefix = c.args.prefix.now in
    let count : c.len.result ≡ length files = c.len.ensures ∙ long ∙ sym (length-map c.in-Ok.files.items (λ v. v.items)) in
    let looked = ap (map string_bytes) c.deref.ensures.value ∙ c.in-Ok-paths_of.ensures ∙ ap (event_paths prefix) count in
    let made_at = ap (map string_bytes) c.deref-2.ensures.value ∙ c.in-Ok-paths_of.ensures ∙ ap (event_paths prefix) count in
    on_ok_weaker c.write_files.result (λ made. record {
      files = files;
      free = subst (AreFree g.X.Fn c.args.target.now.exists) looked (c.in_default-first_taken.ensures refl);
      made = subst (λ (paths : List (List ℕ)). AreMade g.M.Fn c.args.target.now.make paths files) made_at (subst (λ (bytes : List (List ℕ)). AreMade g.M.Fn c.args.target.now.make (map string_bytes c.deref-2.result.now) bytes) (ap contents c.deref-3.ensures.value) made);
    }) c.write_files.ensures
