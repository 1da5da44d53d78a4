-- Events that are taken out of the list of the enabled ones.
use Rattle.std.proofs.Common.{◌≡◌, ◌≢◌, ◌<◌, ℕ, zero, suc, Option, Some, None, List, [], ◌∷◌, map, inl, inr, refl, sym, ap, arith}
use Rattle.std.specs.Prelude.{length}
use lib.ListN.{get_or}
use Rattle.shim_local.specs.Process.{Ops}
use Rattle.shim_semantics.specs.Listing.{AreEnabled}
use Rattle.shim_base.specs.Lists.{IsAmong}
use Rattle.shim_semantics.specs.Trees.{Tree, Event, after, IsQuiescent}
use Rattle.shim_base.proofs.Facts.{none_some}

-- what has a number in a list is among it
pub among_at : {A B : Type 0} (f : A → B) (xs : List A) (i : ℕ) (x : A) → i < length xs → x ≡ get_or xs i x → IsAmong (f x) (map f xs)
among_at f [] i x b e = absurd (omega (arith, b))
among_at f (y ∷ ys) zero x b e = inl (ap f e)
among_at f (y ∷ ys) (suc i) x b e = inr (among_at f ys i x (omega (arith, b)) e)

none_there : {A : Type 0} (x : Option A) → (x ≢ None → ⊥) → x ≡ None
none_there None h = refl
none_there (Some a) h = absurd (h (λ e. none_some a (sym e)))

-- where no event is listed, none is enabled
pub none_enabled : {S A : Type 0} (o : Ops S) (t : Tree S) (f : A → Event) (xs : List A) → AreEnabled o t (map f xs) → length xs ≡ 0 → IsQuiescent o t
none_enabled o t f [] are empty e = none_there (after o e t) (are e).1
none_enabled o t f (x ∷ xs) are empty e = absurd (omega (arith, empty))
