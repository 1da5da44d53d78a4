-- A process below the root of a sound tree shares those channels of other processes that it was given.
use Rattle.std.proofs.Common.{◌≡◌, ℕ, Some, List, [], ◌∷◌, ◌++◌, sym, ◌∙◌}
use Rattle.shim_base.specs.Paths.{Path}
use Rattle.shim_local.specs.Process.{Ops}
use Rattle.shim_local.specs.Laws.{LocalLaws}
use Rattle.shim_semantics.specs.Nodes.{state}
use Rattle.shim_semantics.specs.Places.{branches}
use Rattle.shim_semantics.specs.Laws.{ChildrenShareGiven}
use Rattle.shim_semantics.proofs.Replaced.{sound_at, state_sound}
use Rattle.shim_semantics.proofs.Routes.{at_path}

-- a path that leads on is no root's
leads_on : (p r : Path) (b : ℕ) (q : List ℕ) → branches r ≡ b ∷ q → p ++ r ≡ [] → ⊥
leads_on [] [] b q e f = absurd cc
leads_on [] (x ∷ r) b q e f = absurd cc
leads_on (y ∷ p) r b q e f = absurd cc

pub children_share_given : {S : Type 0} (o : Ops S) → LocalLaws o → ChildrenShareGiven o
children_share_given o law t sound b q k c there other =
    let path = at_path o t.root k (b ∷ q) sound.below there in
    law.given_shared (state k) c (state_sound o k (sound_at o (b ∷ q) t.root k sound.below there)) (λ e. leads_on (o.path (state t.root)) path.0 b q path.2 (sym path.1 ∙ e)) other
