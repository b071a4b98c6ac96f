-- The number of the first fault, along a loop.
use Rattle.std.proofs.Common.{◌≡◌, ◌≢◌, ℕ, ◌+◌, ◌<◌, ◌≤◌, ◌==◌, List, length, get_or, drop, cond, sym, ap, ◌∙◌}
use Rattle.std.proofs.lemmas.Bool.{ne_eqb}
use Rattle.std.proofs.lemmas.List.{at_drop_more, at_drop_all}
use Rattle.grub_book.specs.Sums.{Records}
use Rattle.library_book.specs.Audit.{sum_fault}
use Rattle.library_book.specs.Located.{first_at, first_sum}
use Rattle.library_book.specs.declared.memory.NdRunqueue.{NdRunqueue}

-- those before this place have no fault
abbrev pub NoneBefore : {A : Type 0} → (A → ℕ) → List A → ℕ → Type 0
NoneBefore fault xs i = first_at fault i (drop i xs) ≡ first_at fault 0 xs

pub none_more : {A : Type 0} (fault : A → ℕ) (xs : List A) (i : ℕ) (d : A) → i < length xs → NoneBefore fault xs i → fault (get_or xs i d) ≡ 0 → NoneBefore fault xs (i + 1)
none_more fault xs i d there was zero =
    let skip = ap (λ n. cond (n == 0) (first_at fault (i + 1) (drop (i + 1) xs)) i) zero in
    sym (at_drop_more (first_at fault i) xs i d there ∙ skip) ∙ was

pub first_here : {A : Type 0} (fault : A → ℕ) (xs : List A) (i : ℕ) (d : A) → i < length xs → NoneBefore fault xs i → fault (get_or xs i d) ≢ 0 → i ≡ first_at fault 0 xs
first_here fault xs i d there was ne =
    let stop = ap (λ c. cond c (first_at fault (i + 1) (drop (i + 1) xs)) i) (ne_eqb (fault (get_or xs i d)) 0 ne) in
    sym (at_drop_more (first_at fault i) xs i d there ∙ stop) ∙ was

pub none_at_all : {A : Type 0} (fault : A → ℕ) (xs : List A) (i : ℕ) → length xs ≤ i → NoneBefore fault xs i → i ≡ first_at fault 0 xs
none_at_all fault xs i past was = sym (at_drop_all (first_at fault i) xs i past) ∙ was

abbrev pub NoSumBefore : Records → List NdRunqueue → ℕ → Type 0
NoSumBefore book queues i = first_sum book i (drop i queues) ≡ first_sum book 0 queues

pub no_sum_more : (book : Records) (queues : List NdRunqueue) (i : ℕ) (d : NdRunqueue) → i < length queues → NoSumBefore book queues i → sum_fault book i (get_or queues i d) ≡ 0 → NoSumBefore book queues (i + 1)
no_sum_more book queues i d there was zero =
    let skip = ap (λ n. cond (n == 0) (first_sum book (i + 1) (drop (i + 1) queues)) i) zero in
    sym (at_drop_more (first_sum book i) queues i d there ∙ skip) ∙ was

pub first_sum_here : (book : Records) (queues : List NdRunqueue) (i : ℕ) (d : NdRunqueue) → i < length queues → NoSumBefore book queues i → sum_fault book i (get_or queues i d) ≢ 0 → i ≡ first_sum book 0 queues
first_sum_here book queues i d there was ne =
    let stop = ap (λ c. cond c (first_sum book (i + 1) (drop (i + 1) queues)) i) (ne_eqb (sum_fault book i (get_or queues i d)) 0 ne) in
    sym (at_drop_more (first_sum book i) queues i d there ∙ stop) ∙ was

pub no_sum_at_all : (book : Records) (queues : List NdRunqueue) (i : ℕ) → length queues ≤ i → NoSumBefore book queues i → i ≡ first_sum book 0 queues
no_sum_at_all book queues i past was = sym (at_drop_all (first_sum book i) queues i past) ∙ was
