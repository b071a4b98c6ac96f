-- The lines of a tree without the byte that ends each, and what its tasks reserve.
use Rattle.std.specs.Prelude.{ℕ, List, map}
use Rattle.std.specs.List.{join_with_byte}
use Rattle.grub_book.specs.Bandwidth.{Reservation}
use Rattle.grub_trace.specs.Tree.{Declaration, Happening, declaration_words, happening_words}

abbrev pub declaration_line : Declaration → List ℕ
declaration_line d = join_with_byte 32 (declaration_words d)

abbrev pub happening_line : Happening → List ℕ
happening_line m = join_with_byte 32 (happening_words m)

abbrev pub params_of : List Declaration → List Reservation
params_of ds = map (λ d. d.params) ds
