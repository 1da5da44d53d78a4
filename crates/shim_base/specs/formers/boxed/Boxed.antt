-- How a `Boxed` stores its content, so that a recursive type may go through it: after a pointer, and seen as itself.
use mathlib.Core.Path.{refl}
use mathlib.Core.Former as former
use mathlib.Core.Former.{Former, this}
use base.Stored.{gnil}
use base.Fml.{ftrue}
use denote.RattleType.{RattleType}
use denote.Memory.{part_of}
use denote.RawPtr.{Ptr}
use denote.Sharing.{nothing}
use denote.HoleLaws.{Alike}
use denote.HolePlaces.{Recodes, struct_places, laid, one_value}
use denote.Hole.Fix.{over}
use denote.Param.Weighed.{Weighed}
use denote.Model.Placed.{view_places}
use Rattle.std.specs.declared.boxed.Box.{Box}
use Rattle.std.specs.contracts.boxed.Box as std_box
use Rattle.std.specs.declared.alloc.Global.{Global}
use Rattle.std.specs.contracts.alloc.Global as global
use Rattle.std.specs.contracts.impls.GlobalAllocator.TheImpl as allocator
use Rattle.shim_base.specs.declared.boxed.Boxed.TheInside.{Inside}
use Rattle.shim_base.specs.declared.boxed.Boxed.TheView as seen
use Rattle.shim_base.specs.contracts.boxed.Boxed as row
use Rattle.shim_base.specs.contracts.boxed.Boxed.TheInside as inside

-- what contracts see is the content
abbrev pub the_former : Former {0} → Former {0}
the_former g = g

abbrev pub the_weighed : {g : Former {0}} → Weighed g → Weighed (the_former g)
the_weighed w = w

-- the box with another content
abbrev refilled : {X Y : Type 0} → Box X Global → Y → Box Y Global
refilled b y = record { ptr = b.ptr; alloc = b.alloc; value = y }

-- the one field: a pointer with its allocator, and the content
abbrev box_field : Former {0}
box_field = former.via (former.pair (former.const (Ptr × Global)) this) Inside
    (λ X it. ((it.inner.ptr, it.inner.alloc), it.inner.value))
    (λ X parts. record { inner = record { ptr = parts.0.0; alloc = parts.0.1; value = parts.1 } }) (λ X it. refl) (λ X parts. refl)

abbrev box_at : RattleType → RattleType
box_at content = std_box.the_row content global.the_row allocator.ghosts

module _ (from to : RattleType) (h : from.Denot → to.Denot) where
  -- std's boxes at two types of contents that lie alike lie alike
  boxes_alike : Alike from to h → Alike (box_at from) (box_at to) (λ b. refilled b (h b.value))
  unfolding part_of
  boxes_alike alike = record {
    mir_same = λ i. (box_at (one_value from (alike.mir_same i) (λ _. ftrue) (λ _ _. nothing) gnil)).mir;
    own_same = λ b i. (box_at (one_value from (alike.mir_same i) (alike.own_same b.value i) (alike.shr_same b.value i) gnil)).own_val (refilled b tt);
    shr_same = λ b i. (box_at (one_value from (alike.mir_same i) (alike.own_same b.value i) (alike.shr_same b.value i) gnil)).shr_at (refilled b tt);
  }

  pub the_places : Alike from to h → Alike (row.the_row from) (row.the_row to) ((the_former this).map from.Denot to.Denot h)
  the_places alike =
      view_places box_field this seen.view (λ X Y k x. refl) (λ X x. refl) from.Denot to.Denot h
      (row.the_row from).coded (row.the_row to).coded (seen.invariant from.Denot) (seen.invariant to.Denot)
      (λ x p q. refl) (λ x p q. refl) (λ x p. tt) (λ x p. tt) (over (inside.the_row from)) (over (inside.the_row to))
      (struct_places (inside.the_type from) (inside.the_type to) ((λ b. refilled b (h b.value)), tt) _ (λ d. refl) refl (laid _ _ _ (boxes_alike alike), tt))

  pub the_codes_placed : Recodes from to h → Recodes (row.the_row from) (row.the_row to) ((the_former this).map from.Denot to.Denot h)
  the_codes_placed same x = same x
