-- Children of a process that are moved before they are given back.
use Rattle.std.specs.Prelude.{◌≡◌, ◌<◌, List, [], ◌∷◌, length, slice_index_or, slice_set}
use Rattle.std.proofs.Common.{subst, arith}
use Rattle.shim_local.specs.Process.{Ops}
use Rattle.shim_local.specs.Laws.{LocalLaws, Moved}

-- One call of the first child leaves them the children of their parent.
pub first_moved : {S : Type 0} (o : Ops S) → LocalLaws o → (parent k m : S) (children : List S) → 0 < length children → k ≡ slice_index_or children 0 k → o.sound k → Moved o k m
    → o.born parent children → o.born parent (slice_set children 0 m)
first_moved o laws parent k m [] some is sound moved born = absurd (let none : 0 < 0 = some in omega (arith, none))
first_moved o laws parent k m (x ∷ children) some is sound moved born =
    laws.born_moved parent x m [] children (subst o.sound is sound) born (subst (λ s. Moved o s m) is moved)
