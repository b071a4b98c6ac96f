use Rattle.std.proofs.Common.{◌≡◌, option_map, rules}
use Rattle.grub_trace.specs.Forms.{form_of}
use Rattle.text_bytes.specs.Lines.{words_of}
use Rattle.grub_trace.specs.inside.Reading.{form_view}
use Rattle.grub_trace.proofs.FormLemmas.{form_named}
use Rattle.grub_trace.proofs.form.form_of.Goals as goal

pub returns-clause-named : goal.returns-clause-named
returns-clause-named c =
    let form : option_map form_view c.form_of_words.result ≡ form_of (words_of c.args.line.now) = search rules in
    form_named c.form_of_words.result (words_of c.args.line.now) form
