-- What a list of timers has for a task, and the map that it makes.
use Rattle.std.proofs.Common.{◌≡◌, ℕ, Bool, cond, eqb, List, [], ◌∷◌, Option, Some, None, refl, ap, ◌∙◌, sym}
use Rattle.std.specs.Ordering.{nat_cmp}
use Rattle.std.specs.Cmp.{nat_cmp_total, unsigned_tied}
use Rattle.std.specs.FinMap as map
use Rattle.grub_wheel.specs.declared.timer.Timer.{Timer}
use Rattle.grub_wheel.specs.inside.Order.{entries_of}
use Rattle.grub_wheel.specs.TimerBag.{TimerBag}

abbrev pub look : List Timer → ℕ → Option (ℕ × ℕ)
look [] q = None
look (x ∷ xs) q = cond (eqb q x.t) (Some (x.z, x.ticket)) (look xs q)

abbrev pub bag_of : List Timer → TimerBag
bag_of xs = map.from_entries (entries_of xs)

find_look : (xs : List Timer) (q : ℕ) → map.find nat_cmp q (entries_of xs) ≡ look xs q
find_look [] q = refl
find_look (x ∷ xs) q = ap (λ (b : Bool). cond b (Some (x.z, x.ticket)) (map.find nat_cmp q (entries_of xs))) (unsigned_tied q x.t) ∙ ap (cond (eqb q x.t) (Some (x.z, x.ticket))) (find_look xs q)

pub get_look : (xs : List Timer) (q : ℕ) → map.get (bag_of xs) q ≡ look xs q
get_look xs q = map.get-from_entries nat_cmp_total (entries_of xs) q ∙ find_look xs q

pub bag-same : (xs ys : List Timer) → ((q : ℕ) → look ys q ≡ look xs q) → bag_of ys ≡ bag_of xs
bag-same xs ys same = map.same_map nat_cmp_total map.nat_cmp-IsAntisymmetric _ _ (λ q. get_look ys q ∙ same q ∙ sym (get_look xs q))

pub bag-insert : (xs ys : List Timer) (x : Timer) → ((q : ℕ) → look ys q ≡ cond (eqb q x.t) (Some (x.z, x.ticket)) (look xs q)) → bag_of ys ≡ map.insert (bag_of xs) x.t (x.z, x.ticket)
bag-insert xs ys x more = map.same_map nat_cmp_total map.nat_cmp-IsAntisymmetric _ _ (λ q.
    get_look ys q ∙ more q
    ∙ sym (map.get-insert nat_cmp_total (bag_of xs) x.t (x.z, x.ticket) q ∙ ap (λ (b : Bool). cond b (Some (x.z, x.ticket)) (map.get (bag_of xs) q)) (unsigned_tied q x.t) ∙ ap (cond (eqb q x.t) (Some (x.z, x.ticket))) (get_look xs q)))

pub bag-remove : (xs ys : List Timer) (t : ℕ) → ((q : ℕ) → look ys q ≡ cond (eqb q t) None (look xs q)) → bag_of ys ≡ map.remove (bag_of xs) t
bag-remove xs ys t less = map.same_map nat_cmp_total map.nat_cmp-IsAntisymmetric _ _ (λ q.
    get_look ys q ∙ less q
    ∙ sym (map.get-remove nat_cmp_total (bag_of xs) t q ∙ ap (λ (b : Bool). cond b None (map.get (bag_of xs) q)) (unsigned_tied q t) ∙ ap (cond (eqb q t) None) (get_look xs q)))
