-- Cases of tests that are joined, and of what is there by a test.
use Rattle.std.proofs.Common.{◌≡◌, Option, Some, None, sym}
use Rattle.shim_semantics.specs.Nodes.{or_else}
use Rattle.shim_base.proofs.Facts.{none_some}

pub or_else_none : {A : Type 0} (x y : Option A) → x ≡ None → y ≡ None → or_else x y ≡ None
or_else_none (Some x) y e f = none_some x (sym e)
or_else_none None y e f = f
