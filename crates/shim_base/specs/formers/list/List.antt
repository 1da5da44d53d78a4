-- How a `List` stores its elements, so that a recursive type may go through it: a list of elements and nothing else, in their order.
use mathlib.Core.Path.{◌≡◌, refl, sym}
use mathlib.Core.List.{List as ListOf, []}
use mathlib.Core.Former as former
use mathlib.Core.Former.{Former, this}
use base.Stored.{code_map}
use denote.RattleType.{RattleType}
use denote.HoleLaws.{Alike}
use denote.HolePlaces.{Recodes, struct_places, laid}
use denote.Hole.Carrier.{listed, list-listed}
use denote.Hole.Fix.{over}
use denote.Param.Weighed.{Weighed, w_list}
use denote.Model.Placed.{view_places}
use Rattle.std.specs.formers.vec.Vec as vec
use Rattle.std.specs.declared.alloc.Global.{Global}
use Rattle.std.specs.contracts.alloc.Global as global
use Rattle.std.specs.contracts.impls.GlobalAllocator.TheImpl as allocator
use Rattle.shim_base.specs.declared.list.List.TheInside.{Inside}
use Rattle.shim_base.specs.declared.list.List.TheView as seen
use Rattle.shim_base.specs.contracts.list.List as row
use Rattle.shim_base.specs.contracts.list.List.TheInside as inside

-- what contracts see is the list itself, so its shape is its length
abbrev pub the_former : Former {0} → Former {0}
the_former g = former.list g

-- the elements of a list, in their order: the list itself
abbrev pub the_items : (X : Type 0) → ListOf X → ListOf X
the_items X xs = xs

pub the_items_listed : (X : Type 0) (xs : ListOf X) → listed _ (former.children (the_former this) X xs) ≡ the_items X xs
the_items_listed X xs = list-listed X xs

-- an empty list holds no element, which ends the recursion
pub the_empty : ListOf ⊥
the_empty = []

abbrev pub the_weighed : {g : Former {0}} → Weighed g → Weighed (the_former g)
the_weighed w = w_list w

-- the one field, whose elements are those of its `Vec`
abbrev vec_field : Former {0}
vec_field = former.via (vec.the_former this Global) Inside (λ X it. it.items) (λ X v. record { items = v }) (λ X it. refl) (λ X v. refl)

module _ (from to : RattleType) (h : from.Denot → to.Denot) where
  -- lists at two types of elements that lie alike lie alike
  pub the_places : Alike from to h → Alike (row.the_row from) (row.the_row to) ((the_former this).map from.Denot to.Denot h)
  the_places alike =
      let at_vec = laid _ _ _ (vec.the_places global.the_row allocator.ghosts from to h alike) in
      view_places vec_field (former.list this) seen.view (λ X Y k xs. refl) (λ X xs. refl) from.Denot to.Denot h
      (row.the_row from).coded (row.the_row to).coded (seen.invariant from.Denot) (seen.invariant to.Denot)
      (λ xs p q. refl) (λ xs p q. refl) (λ xs p. tt) (λ xs p. tt) (over (inside.the_row from)) (over (inside.the_row to))
      (struct_places (inside.the_type from) (inside.the_type to) (vec.mapped h, tt) _ (λ d. refl) refl (at_vec, tt))

  pub the_codes_placed : Recodes from to h → Recodes (row.the_row from) (row.the_row to) ((the_former this).map from.Denot to.Denot h)
  the_codes_placed same xs = sym (code_map from.coded.code to.coded.code h (λ x. sym (same x)) xs)
