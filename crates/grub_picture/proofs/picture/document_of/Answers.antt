use Rattle.std.proofs.Common.{append_assoc}
use Rattle.std.specs.Prelude.{codes}
use Rattle.grub_picture.proofs.picture.document_of.Goals as goal

pub returns-clause-document : goal.returns-clause-document
returns-clause-document c =
    (c.args.inner.now, rw (c.in_ok-extend_from_slice-2.ensures.items, c.in_ok-extend_from_slice.ensures.items, c.in_ok-text.ensures.items) (append_assoc (codes "<svg ") c.args.inner.now (codes "</svg>\n")))
