-- The exceptions of handlers are those of their places.
use Rattle.std.proofs.Common.{◌≡◌, List, [], ◌∷◌, map, refl, ap}
use Rattle.shim_units.specs.declared.unit.UStmt.{UStmt}
use Rattle.shim_process.specs.StatementViews as views
use Rattle.shim_walk_frames.specs.declared.handler.Handler.{Handler}
use Rattle.shim_walk_frames.specs.FrameViews.{exception_place_of}
use Rattle.shim_walk.specs.StatementContexts.{exceptions_of}

pub same_exceptions : (body : List UStmt) (places : List Handler) → exceptions_of places ≡ views.exceptions_of (map (exception_place_of body) places)
same_exceptions body [] = refl
same_exceptions body (a ∷ places) = ap (λ es. a.exception ∷ es) (same_exceptions body places)
