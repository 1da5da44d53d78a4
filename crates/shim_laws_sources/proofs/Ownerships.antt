-- The ownerships of locations: what excludes what, and cases of them.
use Rattle.std.proofs.Common.{◌≡◌, ◌⊎◌, inl, inr, refl}
use Rattle.shim_process.specs.Locations.{Ownership, Own, Lent, Copy}
use Rattle.shim_process.specs.Sound.{IsOwned}

pub own_not_copy : {A : Type 0} (m : Ownership) → m ≡ Own → m ≡ Copy → A
own_not_copy m a b = absurd cc

pub own_not_lent : {A : Type 0} (m : Ownership) → m ≡ Own → m ≡ Lent → A
own_not_lent m a b = absurd cc

pub copy_not_lent : {A : Type 0} (m : Ownership) → m ≡ Copy → m ≡ Lent → A
copy_not_lent m a b = absurd cc

-- the channel's own variable is here or with a child
pub own_or_lent : (m : Ownership) → IsOwned m → (m ≡ Own) ⊎ (m ≡ Lent)
own_or_lent Own h = inl refl
own_or_lent Lent h = inr refl
own_or_lent Copy h = absurd h

-- what holds of the channel's own variable and of a copy holds of any
pub by_ownership : (P : Ownership → Type 0) (m : Ownership) → (IsOwned m → P m) → (m ≡ Copy → P m) → P m
by_ownership P Own f g = f tt
by_ownership P Lent f g = f tt
by_ownership P Copy f g = g refl
