-- What the tests of limits say.
use Rattle.std.proofs.Common.{◌≡◌, true, ◌&&◌, refl}
use Rattle.std.proofs.lemmas.Bool.{and_parts, le-leb, leb-true}
use Rattle.std.specs.Prelude.{nat_le}
use Rattle.grub_book.specs.declared.queue.TheConstants.{BW_UNIT}
use Rattle.grub_book.specs.declared.params.TheConstants.{PERIOD_MAX}
use Rattle.grub_book.specs.Bandwidth.{Reservation, Capacity, IsReservation, IsCapacity, bandwidth_of, reservation_fits, capacity_fits}

pub capacity_is : (c : Capacity) → capacity_fits c ≡ true → IsCapacity c
capacity_is c h =
    let x = and_parts (nat_le 1 c.most && nat_le c.most BW_UNIT) (nat_le c.extra c.most) h in
    let y = and_parts (nat_le 1 c.most) (nat_le c.most BW_UNIT) x.0 in
    record { most = (leb-true _ _ y.0, leb-true _ _ y.1); extra = leb-true _ _ x.1 }

pub capacity_test : (c : Capacity) → IsCapacity c → capacity_fits c ≡ true
capacity_test c is = rw (le-leb _ _ is.most.0, le-leb _ _ is.most.1, le-leb _ _ is.extra) refl

pub reservation_is : (p : Reservation) → reservation_fits p ≡ true → IsReservation p
reservation_is p h =
    let a = and_parts (nat_le 1 p.period && nat_le p.period PERIOD_MAX && nat_le 1 p.runtime && nat_le p.runtime p.period) (nat_le 1 (bandwidth_of p)) h in
    let b = and_parts (nat_le 1 p.period && nat_le p.period PERIOD_MAX && nat_le 1 p.runtime) (nat_le p.runtime p.period) a.0 in
    let d = and_parts (nat_le 1 p.period && nat_le p.period PERIOD_MAX) (nat_le 1 p.runtime) b.0 in
    let e = and_parts (nat_le 1 p.period) (nat_le p.period PERIOD_MAX) d.0 in
    record { period = (leb-true _ _ e.0, leb-true _ _ e.1); runtime = (leb-true _ _ d.1, leb-true _ _ b.1); bandwidth = leb-true _ _ a.1 }

pub reservation_test : (p : Reservation) → IsReservation p → reservation_fits p ≡ true
reservation_test p is = rw (le-leb _ _ is.period.0, le-leb _ _ is.period.1, le-leb _ _ is.runtime.0, le-leb _ _ is.runtime.1, le-leb _ _ is.bandwidth) refl
