-- The lines that are left, less one.
use Rattle.std.proofs.Common.{◌≡◌, ℕ, ◌+◌, ◌<◌, List, ◌++◌, length, get_or, drop, ap}
use Rattle.std.proofs.lemmas.List.{drop_more}
use Rattle.grub_book.specs.declared.event.Reading.{Reading}
use Rattle.grub_views.specs.Lines.{close_line, close_lines}

pub close_left : (k i : ℕ) (xs : List Reading) (d : Reading) → i < length xs → close_lines k (drop i xs) ≡ close_line k (get_or xs i d) ++ close_lines (k + 1) (drop (i + 1) xs)
close_left k i xs d below = ap (close_lines k) (drop_more xs i d below)
