-- Reading heads first, and then what stands below each, is reading one file after the other.
use Rattle.std.proofs.Common.{◌≡◌, ℕ, false, ◌+◌, ◌-◌, ◌<◌, ◌≤◌, List, [], ◌∷◌, ◌++◌, All, length, get_or, map, drop, Option, Some, None, Result, Ok, Err, IfOk, refl, sym, ap, ◌∙◌, arith, cond, subst}
use Rattle.std.specs.Result.{is_err, is_ok}
use Rattle.std.specs.Global.{Vec}
use Rattle.std.proofs.lemmas.List.{drop_all, length_push}
use Rattle.std.proofs.lemmas.List.Elements.{All-cons, All-get_or, All-head, All-nil, All-push, All-same, All-tail}
use Rattle.grub_book.specs.Bandwidth.{Capacity}
use Rattle.grub_trace.specs.declared.version.Version.{Version}
use Rattle.grub_trace.specs.declared.fault.Kind.{Kind}
use Rattle.grub_trace.specs.declared.fault.TraceFault.{TraceFault}
use Rattle.grub_trace.specs.declared.below.Below.{Below}
use Rattle.grub_trace.specs.declared.raw.Head.{Head}
use Rattle.grub_trace.specs.declared.raw.RawFile.{RawFile}
use Rattle.grub_trace.specs.declared.tasks.Tasks.{Tasks}
use Rattle.grub_plan.specs.Contents.{contents}
use Rattle.grub_trace.specs.Tree.{Declaration, names_of}
use Rattle.grub_trace.specs.Faults.{form_fault}
use Rattle.grub_trace.specs.Forms.{form_of, reservation_value, task, version_of}
use Rattle.text_bytes.specs.Lines.{parts_of, words_of}
use Rattle.grub_trace.specs.inside.Bodies.{AreRead, HaveHeads, IsRead, head_above}
use Rattle.grub_trace.specs.inside.Lines.{AreBodies}
use Rattle.grub_trace.specs.inside.Heads.{EndsAs, GiveTogether, GivesHead, GivesTasks, IsHead, bodies_from, body_from, lines_below, read_body}
use Rattle.grub_trace.specs.inside.Reading.{AllRead, Body, Faults, FileRead, IsIndexed, Read, adds, declarations, file_from, of_file, opened, read_file, read_from, read_lines, read_queue, read_second, take_form, take_line, take_option, with_file, ◌>>=◌}
use Rattle.grub_trace.proofs.FilesInTurn.{bodies_and, drop_item, faults_then, files_done, files_stop}
use Rattle.grub_trace.proofs.Elsewhere.{body_elsewhere, head_elsewhere, redeclare, with_tasks}
use Rattle.grub_trace.proofs.LineLemmas.{first_known, goes_on, second_stops, second_then, unless_ok}

-- ---- one step after another

bind_assoc : {A B C E : Type 0} (m : Result A E) (f : A → Result B E) (g : B → Result C E) → (m >>= f >>= g) ≡ (m >>= λ x. f x >>= g)
bind_assoc (Ok x) f g = refl
bind_assoc (Err e) f g = refl

bind_ext : {A B E : Type 0} (m : Result A E) (f g : A → Result B E) → ((x : A) → f x ≡ g x) → (m >>= f) ≡ (m >>= g)
bind_ext (Ok x) f g same = same x
bind_ext (Err e) f g same = refl

pub pushed : {U E X : Type 0} (r : Result U E) (new more same : X) → is_err r ≡ false → new ≡ cond (is_ok r) more same → new ≡ more
pushed (Ok u) new more same is e = e
pushed (Err e) new more same is p = absurd cc

-- ---- the task lines of a file

-- the tasks so far, and what is still read
pub record TasksOn (version : Version) (old : List Declaration) (tasks : Tasks) (first : ℕ) (rest text : List ℕ) : Type 0 where
  pub indexed : IsIndexed tasks
  pub so_far : read_lines (opened version (declarations tasks)) first (parts_of rest) ≡ read_lines (opened version old) 3 (parts_of text)
  pub count : first + length rest ≤ 3 + length text
  pub number : first + length old ≡ 3 + length (declarations tasks)
  pub third : 3 ≤ first

pub tasks_next : (version : Version) (old : List Declaration) (a b : Tasks) (first : ℕ) (rest text line after n q p : List ℕ) → parts_of rest ≡ line ∷ parts_of after → length after < length rest → Some (task n q p) ≡ form_of (words_of line)
    → take_form (opened version (declarations a)) (task n q p) ≡ Ok (opened version (declarations b)) → IsIndexed b → TasksOn version old a first rest text → TasksOn version old b (first + 1) after text
tasks_next version old a b first rest text line after n q p parts shorter form takes indexed on =
    let taking : take_line (opened version (declarations a)) line ≡ Ok (opened version (declarations b)) = ap (take_option (opened version (declarations a))) (sym form) ∙ takes in
    let added = (unless_ok (form_fault version (names_of (declarations a)) [] (task n q p)) (adds (task n q p) (opened version (declarations a))) (opened version (declarations b)) takes).1 in
    let one : length (declarations b) ≡ length (declarations a) + 1 = sym (ap (λ (r : Read). length r.declared) added) ∙ length_push (declarations a) (record { name = n; params = reservation_value q p }) in
    record {
      indexed = indexed;
      so_far = goes_on (opened version (declarations a)) (opened version (declarations b)) first rest line after _ parts taking on.so_far;
      count = omega (arith, on.count, shorter);
      number = omega (arith, on.number, one);
      third = omega (arith, on.third);
    }

-- the lines below the tasks, after the second line
pub gives_second : (r : Result Head TraceFault) (f : ℕ) (version : Version) (queue : Capacity) (old new : List Declaration) (text line rest : List ℕ) → parts_of text ≡ line ∷ parts_of rest → read_queue line ≡ Ok queue
    → IfOk r IsHead → GivesTasks r f version queue old new (parts_of rest) → GivesHead r f new (read_second version old (parts_of text))
gives_second (Err e) f version queue old new text line rest parts is head gives = second_stops e f version old text line rest queue parts is gives
gives_second (Ok h) f version queue old new text line rest parts is head gives =
    let lines : read_lines (opened version old) 3 (parts_of rest) ≡ lines_below new h = sym gives.3 ∙ ap (λ (v : Version). read_lines (opened v new) h.first (parts_of h.below.now)) (sym gives.0) in
    second_then version old text line rest queue parts is
    ∙ ap (λ (x : Result Read (Kind × ℕ)). x >>= λ r. Ok (file_from queue (3 + (length r.declared - length old)) r)) (lines ∙ head_elsewhere new h head)
    ∙ same (lines_below [] h)
    ∙ ap (λ (x : Result Read (Kind × ℕ)). x >>= λ r. Ok (file_from h.queue h.first r)) (sym (head_elsewhere new h head))
  where
    same : (x : Result Read (Kind × ℕ)) → (with_tasks new x >>= λ r. Ok (file_from queue (3 + (length r.declared - length old)) r)) ≡ (with_tasks new x >>= λ r. Ok (file_from h.queue h.first r))
    same (Err e) = refl
    same (Ok r) =
        let number : 3 + (length new - length old) ≡ h.first = omega (arith, gives.2, head.third) in
        ap (λ (n : ℕ). Ok (file_from queue n (redeclare new r))) number ∙ ap (λ (q : Capacity). Ok (file_from q h.first (redeclare new r))) (sym gives.1)

pub gives_first : (r : Result Head TraceFault) (f : ℕ) (version : Version) (old new : List Declaration) (text line rest : List ℕ) → parts_of text ≡ line ∷ parts_of rest → version_of line ≡ Some version
    → GivesHead r f new (read_second version old (parts_of rest)) → GivesHead r f new (read_file old text)
gives_first r f version old new text line rest parts known h = subst (λ (x : Result FileRead (Kind × ℕ)). GivesHead r f new x) (sym (first_known version old text line rest parts known)) h

-- what stands below a head, with whatever tasks it was read
pub body_stops : (e : TraceFault) (ds : List Declaration) (h : Head) → IsHead h → Faults e (of_file h.file (lines_below ds h)) → Faults e (read_body [] h)
body_stops e ds h is stops = subst (Faults e) (body_elsewhere ds h is) (faults_then e (of_file h.file (lines_below ds h)) (λ r. Ok (body_from h r)) stops)

pub body_gives : (ds : List Declaration) (h : Head) (r : Read) → IsHead h → of_file h.file (lines_below ds h) ≡ Ok r → read_body [] h ≡ Ok (body_from h r)
body_gives ds h r is gives = sym (body_elsewhere ds h is) ∙ ap (λ (x : Result Read (Kind × ℕ × ℕ)). x >>= λ r. Ok (body_from h r)) gives

-- ---- heads, one after the other

-- the heads so far, and the files that are left
pub record HeadsOn (tasks : Tasks) (hs : List Head) (file : ℕ) (files : List (Vec ℕ)) : Type 0 where
  pub indexed : IsIndexed tasks
  pub heads : All IsHead hs
  pub count : length hs ≡ file
  pub so_far : read_from (record { declared = []; files = [] }) 0 (contents files) ≡ (bodies_from [] hs >>= λ bs. read_from (record { declared = declarations tasks; files = bs }) file (contents (drop file files)))

pub none_before : (hs : List Head) (k : List Body → Result AllRead (Kind × ℕ × ℕ)) → length hs ≡ 0 → (bodies_from [] hs >>= k) ≡ k []
unfolding bodies_from
none_before [] k none = refl
none_before (h ∷ hs) k none = absurd (omega (arith, none))

pub heads_none : (tasks : Tasks) (hs : List Head) (files : List (Vec ℕ)) → declarations tasks ≡ [] → hs ≡ [] → IsIndexed tasks → HeadsOn tasks hs 0 files
heads_none tasks hs files none empty indexed = record {
  indexed = indexed;
  heads = All-same IsHead hs [] empty (All-nil IsHead);
  count = ap length empty;
  so_far = ap (λ (ds : List Declaration). read_from (record { declared = ds; files = [] }) 0 (contents files)) (sym none) ∙ sym (none_before hs _ (ap length empty));
}

-- what stands below one head more
bodies_push : (hs : List Head) (h : Head) (done : List Body) → bodies_from done (hs ++ h ∷ []) ≡ (bodies_from done hs >>= λ bs. read_body [] h >>= λ b. Ok (bs ++ b ∷ []))
unfolding bodies_from
bodies_push [] h done = refl
bodies_push (g ∷ hs) h done =
    bind_ext (read_body [] g) _ _ (λ b. bodies_push hs h (done ++ b ∷ [])) ∙ sym (bind_assoc (read_body [] g) (λ b. bodies_from (done ++ b ∷ []) hs) (λ bs. read_body [] h >>= λ b. Ok (bs ++ b ∷ [])))

bodies_then : (hs : List Head) (h : Head) (k : List Body → Result AllRead (Kind × ℕ × ℕ)) → (bodies_from [] (hs ++ h ∷ []) >>= k) ≡ (bodies_from [] hs >>= λ bs. read_body [] h >>= λ b. k (bs ++ b ∷ []))
bodies_then hs h k =
    let one : (bs : List Body) → Result (List Body) (Kind × ℕ × ℕ) = λ bs. read_body [] h >>= λ b. Ok (bs ++ b ∷ []) in
    ap (λ (x : Result (List Body) (Kind × ℕ × ℕ)). x >>= k) (bodies_push hs h []) ∙ bind_assoc (bodies_from [] hs) one k
    ∙ bind_ext (bodies_from [] hs) (λ bs. one bs >>= k) (λ bs. read_body [] h >>= λ b. k (bs ++ b ∷ [])) (λ bs. bind_assoc (read_body [] h) (λ b. Ok (bs ++ b ∷ [])) k)

-- a file whose head was read
file_step : (ds more : List Declaration) (h : Head) (f : ℕ) (bytes : List ℕ) (rest : List (List ℕ)) (bs : List Body) → IsHead h → h.file ≡ f → GivesHead (Ok h) f more (read_file ds bytes)
    → read_from (record { declared = ds; files = bs }) f (bytes ∷ rest) ≡ (read_body [] h >>= λ b. read_from (record { declared = more; files = bs ++ b ∷ [] }) (f + 1) rest)
unfolding read_from
file_step ds more h f bytes rest bs head place gives =
    ap (λ (x : Result FileRead (Kind × ℕ)). of_file f x >>= λ r. read_from (with_file (record { declared = ds; files = bs }) r) (f + 1) rest)
    (gives ∙ ap (λ (x : Result Read (Kind × ℕ)). x >>= λ r. Ok (file_from h.queue h.first r)) (head_elsewhere more h head))
    ∙ go (lines_below [] h) ∙ ap (λ (g : ℕ). of_file g (lines_below [] h) >>= (λ r. Ok (body_from h r)) >>= λ b. read_from (record { declared = more; files = bs ++ b ∷ [] }) (f + 1) rest) (sym place)
  where
    go : (x : Result Read (Kind × ℕ)) → (of_file f (with_tasks more x >>= λ r. Ok (file_from h.queue h.first r)) >>= λ r. read_from (with_file (record { declared = ds; files = bs }) r) (f + 1) rest)
        ≡ (of_file f x >>= (λ r. Ok (body_from h r)) >>= λ b. read_from (record { declared = more; files = bs ++ b ∷ [] }) (f + 1) rest)
    go (Ok r) = refl
    go (Err e) = refl

pub heads_next : (a b : Tasks) (hs : List Head) (h : Head) (f : ℕ) (files : List (Vec ℕ)) (bytes : Vec ℕ) → f < length files → bytes ≡ get_or files f bytes → IsHead h → h.file ≡ f → IsIndexed b → GivesHead (Ok h) f (declarations b) (read_file (declarations a) bytes.items)
    → HeadsOn a hs f files → HeadsOn b (hs ++ h ∷ []) (f + 1) files
heads_next a b hs h f files bytes lt item head place indexed gives on =
    let next : List Body → Result AllRead (Kind × ℕ × ℕ) = λ bs. read_from (record { declared = declarations b; files = bs }) (f + 1) (contents (drop (f + 1) files)) in
    let step : (bs : List Body) → read_from (record { declared = declarations a; files = bs }) f (contents (drop f files)) ≡ (read_body [] h >>= λ b. next (bs ++ b ∷ [])) =
    λ bs. ap (λ (vs : List (Vec ℕ)). read_from (record { declared = declarations a; files = bs }) f (contents vs)) (drop_item files f bytes lt item)
    ∙ file_step (declarations a) (declarations b) h f bytes.items (contents (drop (f + 1) files)) bs head place gives in
    record {
      indexed = indexed;
      heads = All-push IsHead hs h on.heads head;
      count = omega (arith, length_push hs h, on.count);
      so_far = on.so_far ∙ bind_ext (bodies_from [] hs) _ (λ bs. read_body [] h >>= λ b. next (bs ++ b ∷ [])) step ∙ sym (bodies_then hs h next);
    }

-- a head that is wrong
pub heads_stop : (e : TraceFault) (ds : List Declaration) (a : Tasks) (hs : List Head) (f : ℕ) (files : List (Vec ℕ)) (bytes : Vec ℕ) → f < length files → bytes ≡ get_or files f bytes → Faults e (of_file f (read_file (declarations a) bytes.items))
    → HeadsOn a hs f files → GiveTogether ds hs (Some e) (read_from (record { declared = []; files = [] }) 0 (contents files))
heads_stop e ds a hs f files bytes lt item stops on = record {
  end = λ bs. read_from (record { declared = declarations a; files = bs }) f (contents (drop f files));
  end_is = λ bs. files_stop e (record { declared = declarations a; files = bs }) f files bytes _ lt item stops refl;
  total_is = on.so_far;
}

-- the first of all
pub first_stop : (e : TraceFault) (a : Tasks) (hs : List Head) (f : ℕ) (files : List (Vec ℕ)) (bytes : Vec ℕ) → f ≡ 0 → f < length files → bytes ≡ get_or files f bytes → Faults e (of_file f (read_file (declarations a) bytes.items))
    → HeadsOn a hs f files → Faults e (read_from (record { declared = []; files = [] }) 0 (contents files))
first_stop e a hs f files bytes zero lt item stops on = files_stop e (record { declared = declarations a; files = [] }) f files bytes _ lt item stops (sym (none_before hs _ (omega (arith, on.count, zero))) ∙ sym on.so_far)

-- all heads
pub heads_done : (a : Tasks) (hs : List Head) (f : ℕ) (files : List (Vec ℕ)) → length files ≤ f → HeadsOn a hs f files → GiveTogether (declarations a) hs None (read_from (record { declared = []; files = [] }) 0 (contents files))
heads_done a hs f files le on = record {
  end = λ bs. read_from (record { declared = declarations a; files = bs }) f (contents (drop f files));
  end_is = λ bs. files_done (record { declared = declarations a; files = bs }) f files _ le refl;
  total_is = on.so_far;
}

-- ---- what stands below them

pub have_heads : (bs : List Below) → All IsHead (map head_above bs) → HaveHeads bs
have_heads [] all = All-nil (λ b. IsHead b.head)
have_heads (b ∷ bs) all = All-cons (λ b. IsHead b.head) b bs (All-head IsHead b.head (map head_above bs) all) (have_heads bs (All-tail IsHead b.head (map head_above bs) all))

-- so many files were collected, and what is left is still to come
pub record CollectsOn (t : Tasks) (files : List RawFile) (yielded bodies : List Below) : Type 0 where
  pub done : List Body
  pub are : AreBodies t done files
  pub so_far : bodies_from done (map head_above (drop (length yielded) bodies)) ≡ bodies_from [] (map head_above bodies)

pub collects_none : (t : Tasks) (files : List RawFile) (bodies : List Below) → files ≡ [] → CollectsOn t files [] bodies
collects_none t files bodies none = record { done = []; are = subst (AreBodies t []) (sym none) tt; so_far = refl }

-- what was read of one head
read_one : (t : Tasks) (bodies : List Below) (body : Below) (n : ℕ) → n < length bodies → body ≡ get_or bodies n body → AreRead t bodies → IsRead t body
read_one t bodies body n lt item are = subst (IsRead t) (sym item) (All-get_or (IsRead t) bodies n body lt are)

-- the bodies from one on
from_here : (t : Tasks) (files : List RawFile) (yielded bodies : List Below) (body : Below) → length yielded < length bodies → body ≡ get_or bodies (length yielded) body → (on : CollectsOn t files yielded bodies)
    → (read_body [] body.head >>= λ b. bodies_from (on.done ++ b ∷ []) (map head_above (drop (length yielded + 1) bodies))) ≡ bodies_from [] (map head_above bodies)
unfolding bodies_from
from_here t files yielded bodies body lt item on = ap (λ (xs : List Below). bodies_from on.done (map head_above xs)) (sym (drop_item bodies (length yielded) body lt item)) ∙ on.so_far

pub collects_next : (t : Tasks) (files : List RawFile) (yielded bodies : List Below) (file : RawFile) (body : Below) → length yielded < length bodies → body ≡ get_or bodies (length yielded) body → body.file ≡ Ok file
    → AreRead t bodies → CollectsOn t files yielded bodies → CollectsOn t (files ++ file ∷ []) (yielded ++ body ∷ []) bodies
collects_next t files yielded bodies file body lt item is are on =
    let read = rw is at (read_one t bodies body (length yielded) lt item are) in
    record {
      done = on.done ++ read.0 ∷ [];
      are = bodies_and t on.done files read.0 file on.are read.2;
      so_far = ap (λ k. bodies_from (on.done ++ read.0 ∷ []) (map head_above (drop k bodies))) (length_push yielded body)
          ∙ sym (ap (λ (x : Result Body (Kind × ℕ × ℕ)). x >>= λ b. bodies_from (on.done ++ b ∷ []) (map head_above (drop (length yielded + 1) bodies))) read.1) ∙ from_here t files yielded bodies body lt item on;
    }

pub collects_stop : (e : TraceFault) (t : Tasks) (ds : List Declaration) (files : List RawFile) (yielded bodies : List Below) (body : Below) (fault : Option TraceFault) (total : Result AllRead (Kind × ℕ × ℕ)) → length yielded < length bodies
    → body ≡ get_or bodies (length yielded) body → body.file ≡ Err e → AreRead t bodies → GiveTogether ds (map head_above bodies) fault total → CollectsOn t files yielded bodies → Faults e total
collects_stop e t ds files yielded bodies body fault total lt item is are together on =
    let read = rw is at (read_one t bodies body (length yielded) lt item are) in
    subst (Faults e) (sym together.total_is)
    (faults_then e (bodies_from [] (map head_above bodies)) together.end (subst (Faults e) (from_here t files yielded bodies body lt item on) (faults_then e (read_body [] body.head) _ read)))

-- all of them
pub collects_all : (t : Tasks) (ds : List Declaration) (files : List RawFile) (yielded bodies : List Below) (fault : Option TraceFault) (total : Result AllRead (Kind × ℕ × ℕ)) → length bodies ≤ length yielded
    → GiveTogether ds (map head_above bodies) fault total → (on : CollectsOn t files yielded bodies) → EndsAs fault ds on.done total
unfolding bodies_from
collects_all t ds files yielded bodies fault total le together on =
    let none : drop (length yielded) bodies ≡ [] = drop_all (length yielded) bodies le in
    let bodies_are : bodies_from [] (map head_above bodies) ≡ Ok on.done = sym on.so_far ∙ ap (λ (xs : List Below). bodies_from on.done (map head_above xs)) none in
    let is : total ≡ together.end on.done = together.total_is ∙ ap (λ (x : Result (List Body) (Kind × ℕ × ℕ)). x >>= together.end) bodies_are in
    subst (λ x. EndsAs fault ds on.done x) (sym is) (together.end_is on.done)
