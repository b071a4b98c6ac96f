-- A handle that is empty leads to nothing.
use Rattle.std.proofs.Common.{◌≡◌, ◌⊎◌, inl, inr, subst}
use denote.RawPtr.{Ptr, null_ptr, InBlock}

pub nowhere : (p : Ptr) → p ≡ null_ptr → InBlock p → ⊥
nowhere p empty there = subst InBlock empty there

pub not_both : (p q : Ptr) → (p ≡ null_ptr) ⊎ (q ≡ null_ptr) → InBlock p → InBlock q → ⊥
not_both p q (inl empty) one other = nowhere p empty one
not_both p q (inr empty) one other = nowhere q empty other
