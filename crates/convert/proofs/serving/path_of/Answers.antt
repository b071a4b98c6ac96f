use Rattle.std.proofs.Common.{◌≡◌, ◌++◌, ◌∙◌, append_assoc, string_bytes}
use Rattle.std.specs.Prelude.{codes, decimal}
use Rattle.std.proofs.lemmas.Result.{IfOk-weaker}
use Rattle.trace_options.specs.Messages.{event_path}
use Rattle.convert.proofs.serving.path_of.Goals as goal

pub returns : goal.returns
returns c =
    let prefix = c.args.prefix.now in
    let r = c.args.runqueue in
    let text : prefix ++ (codes ".cpu" ++ (decimal r ++ codes ".grub")) ≡ event_path prefix r = simp append_assoc in
    IfOk-weaker c.format.result (λ path. string_bytes path ≡ prefix ++ (codes ".cpu" ++ (decimal r ++ codes ".grub"))) (λ path. string_bytes path ≡ event_path prefix r) (λ path wrote. wrote ∙ text) c.format.ensures.ok
