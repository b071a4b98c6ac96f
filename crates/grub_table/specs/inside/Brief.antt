-- What is counted between the steps of a call.
use Rattle.std.specs.Prelude.{Bool, true, false, ◌≡◌, ◌==◌, ◌&&◌, ◌⊎◌, ℕ, List, [], ◌∷◌, ◌++◌, Option, Some, None, if◌then◌else◌}
use Rattle.grub_book.specs.Bandwidth.{Reservation}
use Rattle.grub_book.specs.declared.server.Server.{Server}
use Rattle.grub_book.specs.declared.place.Record.{Record}
use Rattle.grub_book.specs.declared.reply.Reply.{Reply}
use Rattle.grub_table.specs.declared.view.Access.{Access}
use Rattle.grub_table.specs.declared.view.Access.TheVariants.{Load, Store, Exchange}

-- a try at the runqueue's word w: the call is made at the load, or at an exchange where a sum changes, or the exchange is lost
abbrev pub TriesOnce : ℕ → Bool → Option (Record × Reply) → List Access → List Access → Type 0
TriesOnce w sum None before after = after ≡ before ++ Load w ∷ Exchange w false ∷ []
TriesOnce w sum (Some p) before after = (after ≡ before ++ Load w ∷ []) ⊎ ((after ≡ before ++ Load w ∷ Exchange w true ∷ []) × (sum ≡ true))

-- the store of the server word v, where the server changes
abbrev pub changed_server : ℕ → Server → Server → List Access
changed_server v before now = if now.q == before.q && now.d == before.d then [] else Store v ∷ []

-- the store of the parameter word p, where the reservation changes
abbrev pub changed_store : ℕ → Reservation → Reservation → List Access
changed_store p before now = if now.runtime == before.runtime && now.period == before.period then [] else Store p ∷ []
