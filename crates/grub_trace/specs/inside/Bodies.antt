-- What stands below heads.
use Rattle.std.specs.Prelude.{All, List, []}
use Rattle.grub_trace.specs.declared.below.Below.{Below}
use Rattle.grub_trace.specs.declared.raw.Head.{Head}
use Rattle.grub_trace.specs.declared.tasks.Tasks.{Tasks}
use Rattle.grub_trace.specs.inside.Heads.{IsHead, read_body}
use Rattle.grub_trace.specs.inside.Lines.{GivesBody}

abbrev pub head_above : Below → Head
head_above b = b.head

abbrev pub HaveHeads : List Below → Type 0
HaveHeads bs = All (λ b. IsHead b.head) bs

abbrev pub IsRead : Tasks → Below → Type 0
IsRead t b = GivesBody b.file t (read_body [] b.head)

abbrev pub AreRead : Tasks → List Below → Type 0
AreRead t bs = All (IsRead t) bs
