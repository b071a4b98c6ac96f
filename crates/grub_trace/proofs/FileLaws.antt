-- The two laws of reading a file: what is read is the text of a tree, and a fault is the first one.
use Rattle.grub_trace.specs.Meaning.{IsTree}
use Rattle.std.proofs.Common.{◌≡◌, ℕ, ◌+◌, ◌-◌, ◌^◌, ◌<◌, Bool, true, false, cond, eqb, ◌⊎◌, inl, inr, List, [], ◌∷◌, ◌++◌, length, map, Option, Some, None, Result, Ok, Err, refl, ap, ◌∙◌, sym, arith, subst, append_assoc}
use Rattle.std.specs.Prelude.{bytes_eq, codes, decimal, slice_index_or}
use Rattle.std.specs.List.{join_with_byte, flat_map, list_all}
use Rattle.std.proofs.lemmas.List.{append-nil, length-append, length-map, map-append}
use Rattle.grub_trace.specs.inside.Reading.{times_of}
use Rattle.grub_trace.specs.Faults.{line_fault, queue_fault, queue_form_fault}
use Rattle.grub_trace.specs.Forms.{Form, queue, task, at_moment, form_of, version_of, is_number, capacity_value}
use Rattle.text_bytes.specs.Lines.{is_end, words_of, parts_of}
use Rattle.text_bytes.specs.Digits.{value}
use Rattle.text_bytes.proofs.Splits.{has_part}
use Rattle.std.proofs.lemmas.List.Splits.{join_with_byte-slice_split}
use Rattle.grub_book.specs.Bandwidth.{Capacity, IsCapacity, capacity_fits}
use Rattle.grub_trace.proofs.LimitTests.{capacity_is}
use Rattle.grub_trace.specs.declared.version.Version.{Version}
use Rattle.grub_trace.specs.declared.fault.Kind.{Kind}
use Rattle.grub_trace.specs.declared.fault.Kind.TheVariants.{CutShort, BadHeader, MissingQueue, BadNumber, OutOfRange}
use Rattle.grub_trace.specs.Tree.{Declaration, Tree, text, line, header, head_text, queue_words, declaration_words, happening_words, names_of}
use Rattle.grub_trace.specs.FirstFault.{front_fault, LineFault, QueueFault, FileFault}
use Rattle.grub_trace.specs.inside.Tree.{declaration_line, happening_line}
use Rattle.grub_trace.specs.inside.Reading.{Read, FileRead, read_file, read_first, read_as, read_second, file_from, opened, read_lines, read_queue, queue_of, at_line, ◌>>=◌}
use Rattle.grub_trace.proofs.FormLemmas.{form_is, number_is, version_is}
use Rattle.grub_trace.proofs.LineLemmas.{bind_err, bind_ok, at_line_ok, none_if, same_error, unless_err, unless_ok}
use Rattle.grub_trace.proofs.LineMeaning.{two}
use Rattle.grub_trace.proofs.LinesInTurn.{ended, printed, broke, Printed, Follows, Tail}
use Rattle.grub_trace.proofs.FileMeaning.{front, fronts, ended_lines, lines_append, declared_text, said_text}

-- ---- the runqueue's line

pub record IsQueueLine (l : List ℕ) (q : Capacity) : Type 0 where
  pub spelled : l ≡ join_with_byte 32 (queue_words q)
  pub fits : IsCapacity q

pub small_queue : (c : Capacity) → IsCapacity c → (c.most < 2 ^ 64) × (c.extra < 2 ^ 64)
small_queue c is = (omega (arith, is.most.1), omega (arith, is.most.1, is.extra))

queue_form : (l : List ℕ) (o : Option Form) (q : Capacity) → form_of (words_of l) ≡ o → queue_form_fault o ≡ None → queue_of o ≡ q → IsQueueLine l q
queue_form l None q is none e = absurd cc
queue_form l (Some (task n r p)) q is none e = absurd cc
queue_form l (Some (at_moment m act)) q is none e = absurd cc
queue_form l (Some (queue a b)) q is none e =
    let x = none_if (list_all is_number (a ∷ b ∷ [])) BadNumber _ none in
    let y = none_if (capacity_fits (capacity_value a b)) OutOfRange _ x.1 in
    let fits = capacity_is (capacity_value a b) y.0 in
    let w = two a b x.0 in
    let small = small_queue (capacity_value a b) fits in
    let f = form_is (words_of l) (queue a b) is in
    subst (IsQueueLine l) e (record {
      spelled = sym (join_with_byte-slice_split 32 l) ∙ ap (join_with_byte 32) f.0
          ∙ ap (λ (u : List ℕ). join_with_byte 32 (codes "queue" ∷ u ∷ b ∷ [])) (sym (number_is a w.0 small.0))
          ∙ ap (λ (u : List ℕ). join_with_byte 32 (codes "queue" ∷ decimal (value a) ∷ u ∷ [])) (sym (number_is b w.1 small.1));
      fits = fits;
    })

pub queue_line : (l : List ℕ) (q : Capacity) → read_queue l ≡ Ok q → IsQueueLine l q
queue_line l q e =
    let u = unless_ok (queue_fault l) (queue_of (form_of (words_of l))) q e in
    let v = none_if (bytes_eq (slice_index_or (words_of l) 0 []) (codes "queue")) MissingQueue _ u.0 in
    queue_form l (form_of (words_of l)) q refl v.1 u.1

-- ---- the first two lines

header_is : (version : Version) (bytes l rest : List ℕ) → version_of l ≡ Some version → bytes ≡ l ++ 10 ∷ rest → bytes ≡ header version ++ 10 ∷ rest
header_is version bytes l rest h e = e ∙ ap (λ (x : List ℕ). x ++ 10 ∷ rest) (version_is l version h)

head_is : (version : Version) (bytes rest l after : List ℕ) (q : Capacity) → bytes ≡ header version ++ 10 ∷ rest → IsQueueLine l q → rest ≡ l ++ 10 ∷ after → bytes ≡ head_text version q ++ after
head_is version bytes rest l after q e is f =
    e ∙ ap (λ (x : List ℕ). header version ++ 10 ∷ x) (f ∙ ap (λ (x : List ℕ). x ++ 10 ∷ after) is.spelled ∙ sym (append_assoc (join_with_byte 32 (queue_words q)) (10 ∷ []) after))
    ∙ sym (append_assoc (header version) (10 ∷ line (queue_words q)) after)

empty_parts : (bytes : List ℕ) → parts_of bytes ≡ [] ∷ [] → bytes ≡ []
empty_parts bytes e = sym (join_with_byte-slice_split 10 bytes) ∙ ap (join_with_byte 10) e

-- the tree of a head and of the lines that were read after it
abbrev tree_of : Capacity → (r s : Read) → (ls : List (List ℕ)) → Printed r ls s → Tree
tree_of q r s ls p = record { version = r.version; queue = q; tasks = p.tasks; happenings = p.happenings }

text_is : (q : Capacity) (r s : Read) (ls : List (List ℕ)) (p : Printed r ls s) → text (tree_of q r s ls p) ≡ head_text r.version q ++ ended_lines ls
unfolding text
text_is q r s ls p =
    let e : ended_lines ls ≡ flat_map (λ d. line (declaration_words d)) p.tasks ++ flat_map (λ m. line (happening_words m)) p.happenings
    = ap ended_lines p.lines_are ∙ lines_append (map declaration_line p.tasks) (map happening_line p.happenings) ∙ ap (λ (x : List ℕ). x ++ ended_lines (map happening_line p.happenings)) (declared_text p.tasks) ∙ ap (λ (x : List ℕ). flat_map (λ d. line (declaration_words d)) p.tasks ++ x) (said_text p.happenings) in
    ap (λ (x : List ℕ). head_text r.version q ++ x) (sym e)

-- ---- what is read

pub record FileIs (ds : List Declaration) (bytes : List ℕ) (r : FileRead) : Type 0 where
  pub tree : Tree
  pub is : IsTree (names_of ds) tree
  pub whole : bytes ≡ text tree
  pub queue_is : r.queue ≡ tree.queue
  pub declared_is : r.declared ≡ ds ++ tree.tasks
  pub happenings_are : r.happenings ≡ tree.happenings
  pub first_is : r.first ≡ 3 + length tree.tasks

some_parts : (x : List ℕ) (xs : List (List ℕ)) → 0 < length (x ∷ xs)
some_parts x xs = omega arith

file_end : (version : Version) (ds : List Declaration) (bytes rest after l t : List ℕ) (more : List (List ℕ)) (q : Capacity) (r : Read) → bytes ≡ header version ++ 10 ∷ rest → IsQueueLine l q → rest ≡ l ++ 10 ∷ after → parts_of after ≡ t ∷ more
    → read_lines (opened version ds) 3 (t ∷ more) ≡ Ok r → FileIs ds bytes (file_from q (3 + (length r.declared - length ds)) r)
file_end version ds bytes rest after l t more q r e is f parts read =
    let x = ended (t ∷ more) (opened version ds) r 3 (some_parts t more) read in
    let p = printed x.lines (opened version ds) r x.follows in
    let g = fronts x.lines after [] [] (parts ∙ x.whole) in
    let nothing : g.rest ≡ [] = empty_parts g.rest g.parts_are in
    let body : after ≡ ended_lines x.lines = g.whole ∙ ap (λ (y : List ℕ). ended_lines x.lines ++ y) nothing ∙ append-nil (ended_lines x.lines) in
    record {
      tree = tree_of q (opened version ds) r x.lines p;
      is = record { queue = is.fits; tasks = p.good; happenings = p.on };
      whole = head_is version bytes rest l after q e is f ∙ ap (λ (y : List ℕ). head_text version q ++ y) body ∙ sym (text_is q (opened version ds) r x.lines p);
      queue_is = refl;
      declared_is = p.declared_is;
      happenings_are = p.happenings_are;
      first_is = omega (arith, ap length p.declared_is ∙ length-append ds p.tasks);
    }

read_as_known : (o : Option Version) (ds : List Declaration) (parts : List (List ℕ)) (r : FileRead) → read_as o ds parts ≡ Ok r → (version : Version) × (o ≡ Some version) × (read_second version ds parts ≡ Ok r)
read_as_known None ds parts r e = absurd cc
read_as_known (Some version) ds parts r e = (version, refl, e)

abbrev fine : FileRead → Result FileRead (Kind × ℕ)
fine x = Ok x

ok_same : (x y : FileRead) → fine x ≡ fine y → x ≡ y
ok_same x y e = cc

second_read : (version : Version) (ds : List Declaration) (bytes rest : List ℕ) (parts : List (List ℕ)) (r : FileRead) → bytes ≡ header version ++ 10 ∷ rest → parts_of rest ≡ parts → read_second version ds parts ≡ Ok r → FileIs ds bytes r
unfolding read_second
second_read version ds bytes rest [] r e p h = absurd cc
second_read version ds bytes rest (l ∷ []) r e p h = absurd cc
second_read version ds bytes rest (l ∷ t ∷ more) r e p h =
    let a = bind_ok (at_line 2 (read_queue l)) (λ q. read_lines (opened version ds) 3 (t ∷ more) >>= λ r. Ok (file_from q (3 + (length r.declared - length ds)) r)) r h in
    let b = bind_ok (read_lines (opened version ds) 3 (t ∷ more)) (λ r. Ok (file_from a.0 (3 + (length r.declared - length ds)) r)) r a.2 in
    let f = front rest l t more p in
    let made : FileRead = file_from a.0 (3 + (length b.0.declared - length ds)) b.0 in
    subst (FileIs ds bytes) (ok_same made r b.2) (file_end version ds bytes rest f.rest l t more a.0 b.0 e (queue_line l a.0 (at_line_ok 2 (read_queue l) a.0 a.1)) f.whole f.parts_are b.1)

first_read : (ds : List Declaration) (bytes : List ℕ) (parts : List (List ℕ)) (r : FileRead) → parts_of bytes ≡ parts → read_first ds parts ≡ Ok r → FileIs ds bytes r
unfolding read_first
first_read ds bytes [] r p h = absurd cc
first_read ds bytes (l ∷ []) r p h = absurd cc
first_read ds bytes (l ∷ t ∷ more) r p h =
    let c = read_as_known (version_of l) ds (t ∷ more) r h in
    let f = front bytes l t more p in
    second_read c.0 ds bytes f.rest (t ∷ more) r (header_is c.0 bytes l f.rest c.1 f.whole) f.parts_are c.2

-- what is read is the text of a tree
pub file_read : (ds : List Declaration) (bytes : List ℕ) (r : FileRead) → read_file ds bytes ≡ Ok r → FileIs ds bytes r
unfolding read_file
file_read ds bytes r h = first_read ds bytes (parts_of bytes) r refl h

-- ---- what is wrong

at_line_err : {X : Type 0} (n m : ℕ) (r : Result X Kind) (k : Kind) → at_line n r ≡ Err (k, m) → (r ≡ Err k) × (m ≡ n)
at_line_err n m (Ok x) k e = absurd cc
at_line_err {X} n m (Err j) k e =
    let p = same_error {X = X} (j, n) (k, m) e in
    (ap (λ (x : Kind × ℕ). Err x.0) p, sym (ap (λ (x : Kind × ℕ). x.1) p))

tail_fault : (u : List ℕ) (us : List (List ℕ)) (s : Read) (k : Kind) → Tail (u ∷ us) s k → front_fault CutShort (line_fault s.version (names_of s.declared) (times_of s.happenings)) (u ∷ us) ≡ Some k
tail_fault u [] s k h = go (eqb (length u) 0)
  where
    go : (b : Bool) → Some (cond b CutShort CutShort) ≡ Some k
    go true = ap Some (sym h.1)
    go false = ap Some (sym h.1)
tail_fault u (v ∷ us) s k h = h

tail_some : (u : List ℕ) (us : List (List ℕ)) (s : Read) (k : Kind) (rest : List ℕ) → Tail (u ∷ us) s k → parts_of rest ≡ u ∷ us → 0 < length rest
tail_some u us s k (b ∷ rest) h p = omega arith
tail_some [] [] s k [] h p = h.0
tail_some (b ∷ u) us s k [] h p = absurd cc
tail_some [] (v ∷ us) s k [] h p = absurd cc

fault_after : (version : Version) (ds : List Declaration) (bytes rest after l t : List ℕ) (more tail : List (List ℕ)) (q : Capacity) (k : Kind) (n : ℕ) (s : Read) (ls : List (List ℕ)) → bytes ≡ header version ++ 10 ∷ rest → IsQueueLine l q → rest ≡ l ++ 10 ∷ after → parts_of after ≡ t ∷ more
    → Follows (opened version ds) ls s → t ∷ more ≡ ls ++ tail → n ≡ 3 + length ls → Tail tail s k → LineFault (names_of ds) bytes k n
fault_after version ds bytes rest after l t more [] q k n s ls e is f parts follows whole number h = absurd h
fault_after version ds bytes rest after l t more (u ∷ us) q k n s ls e is f parts follows whole number h =
    let p = printed ls (opened version ds) s follows in
    let g = fronts ls after u us (parts ∙ whole) in
    let tree = tree_of q (opened version ds) s ls p in
    let names : names_of s.declared ≡ names_of ds ++ names_of p.tasks = ap names_of p.declared_is ∙ map-append (λ (d : Declaration). d.name) ds p.tasks in
    let times : times_of s.happenings ≡ map (λ h. h.m) p.happenings = ap times_of p.happenings_are in
    let count = ap length p.lines_are ∙ length-append (map declaration_line p.tasks) (map happening_line p.happenings) in
    record {
      tree = tree;
      rest = g.rest;
      is = record { queue = is.fits; tasks = p.good; happenings = p.on };
      front = head_is version bytes rest l after q e is f ∙ ap (λ (y : List ℕ). head_text version q ++ y) g.whole ∙ sym (append_assoc (head_text version q) (ended_lines ls) g.rest) ∙ ap (λ (y : List ℕ). y ++ g.rest) (sym (text_is q (opened version ds) s ls p));
      more = tail_some u us s k g.rest h g.parts_are;
      number = omega (arith, number, count, length-map p.tasks declaration_line, length-map p.happenings happening_line);
      fault = ap (λ (ps : List (List ℕ)). front_fault CutShort (line_fault version (names_of ds ++ names_of p.tasks) (map (λ h. h.m) p.happenings)) ps) g.parts_are
          ∙ ap (λ (ns : List (List ℕ)). front_fault CutShort (line_fault version ns (map (λ h. h.m) p.happenings)) (u ∷ us)) (sym names)
          ∙ ap (λ (ts : List ℕ). front_fault CutShort (line_fault version (names_of s.declared) ts) (u ∷ us)) (sym times)
          ∙ ap (λ (v : Version). front_fault CutShort (line_fault v (names_of s.declared) (times_of s.happenings)) (u ∷ us)) (sym p.version_is)
          ∙ tail_fault u us s k h;
    }

second_fault : (version : Version) (ds : List Declaration) (bytes rest : List ℕ) (parts : List (List ℕ)) (k : Kind) (n : ℕ) → bytes ≡ header version ++ 10 ∷ rest → parts_of rest ≡ parts → read_second version ds parts ≡ Err (k, n) → QueueFault bytes k n ⊎ LineFault (names_of ds) bytes k n
unfolding read_second
second_fault version ds bytes rest [] k n e p h = absurd (let w = has_part is_end rest in let x : [] ≡ w.0 ∷ w.1 = sym p ∙ w.2 in cc)
second_fault version ds bytes rest (l ∷ []) k n e p h =
    let x = same_error {X = FileRead} (cond (eqb (length l) 0) MissingQueue CutShort, 2) (k, n) h in
    inl (record { version = version; rest = rest; number = sym (ap (λ (y : Kind × ℕ). y.1) x); front = e; fault = rw p (ap (λ (y : Kind × ℕ). Some y.0) x) })
second_fault version ds bytes rest (l ∷ t ∷ more) k n e p h =
    elim (bind_err (at_line 2 (read_queue l)) (λ q. read_lines (opened version ds) 3 (t ∷ more) >>= λ r. Ok (file_from q (3 + (length r.declared - length ds)) r)) (k, n) h) [
      | inl a ↦ let x = at_line_err 2 n (read_queue l) k a in
          inl (record { version = version; rest = rest; number = x.1; front = e; fault = rw p (unless_err (queue_fault l) (queue_of (form_of (words_of l))) k x.0) })
      | inr a ↦ elim (bind_err (read_lines (opened version ds) 3 (t ∷ more)) (λ r. Ok (file_from a.0 (3 + (length r.declared - length ds)) r)) (k, n) a.2) [
        | inl b ↦ let x = broke (t ∷ more) (opened version ds) 3 n k b in
            let f = front rest l t more p in
            inr (fault_after version ds bytes rest f.rest l t more x.tail a.0 k n x.state x.lines e (queue_line l a.0 (at_line_ok 2 (read_queue l) a.0 a.1)) f.whole f.parts_are x.follows x.whole x.number x.fault)
        | inr b ↦ absurd (not_both b.0 a.0 b.2)
      ]
    ]
  where
    not_both : (r : Read) (q : Capacity) → ◌≡◌ {A = Result FileRead (Kind × ℕ)} (Ok (file_from q (3 + (length r.declared - length ds)) r)) (Err (k, n)) → ⊥
    not_both r q e = cc

first_fault : (ds : List Declaration) (bytes : List ℕ) (parts : List (List ℕ)) (k : Kind) (n : ℕ) → parts_of bytes ≡ parts → read_first ds parts ≡ Err (k, n) → FileFault (names_of ds) bytes k n
unfolding read_first
first_fault ds bytes [] k n p h = absurd (let w = has_part is_end bytes in let x : [] ≡ w.0 ∷ w.1 = sym p ∙ w.2 in cc)
first_fault ds bytes (l ∷ []) k n p h =
    let x = same_error {X = FileRead} (cond (eqb (length l) 0) BadHeader CutShort, 1) (k, n) h in
    inl (sym (ap (λ (y : Kind × ℕ). y.1) x), rw p (ap (λ (y : Kind × ℕ). Some y.0) x))
first_fault ds bytes (l ∷ t ∷ more) k n p h = go (version_of l) refl h
  where
    go : (o : Option Version) → version_of l ≡ o → read_as o ds (t ∷ more) ≡ Err (k, n) → FileFault (names_of ds) bytes k n
    go None is h =
        let x = same_error {X = FileRead} (BadHeader, 1) (k, n) h in
        inl (sym (ap (λ (y : Kind × ℕ). y.1) x), rw (p, is) (ap (λ (y : Kind × ℕ). Some y.0) x))
    go (Some version) is h =
        let f = front bytes l t more p in
        elim (second_fault version ds bytes f.rest (t ∷ more) k n (header_is version bytes l f.rest is f.whole) f.parts_are h) [
          | inl x ↦ inr (inl x)
          | inr x ↦ inr (inr x)
        ]

-- a fault is the first one
pub file_fault : (ds : List Declaration) (bytes : List ℕ) (k : Kind) (n : ℕ) → read_file ds bytes ≡ Err (k, n) → FileFault (names_of ds) bytes k n
unfolding read_file
file_fault ds bytes k n h = first_fault ds bytes (parts_of bytes) k n refl h
