-- The floors of a process's frames.
use Rattle.std.proofs.Common.{◌≡◌, ◌∙◌, ℕ, ◌≤◌, inl, inr, List, [], ◌∷◌, sym, arith}
use Rattle.shim_units.specs.declared.form.Form.{Form}
use Rattle.shim_process.specs.LocalState.{Frame}
use Rattle.shim_process.specs.FittingFrames.{FramesFit}
use Rattle.shim_laws_sources.specs.Anchored.{IsFloor}

pub same_floors : (bound : ℕ) (f g : Frame) (cs : List Frame) → g.floor ≡ f.floor → IsFloor bound f cs → IsFloor bound g cs
same_floors bound f g [] e h = h ∙ sym e
same_floors bound f g (c ∷ cs) e (inl h) = inl (h ∙ sym e)
same_floors bound f g (c ∷ cs) e (inr h) = inr h

-- each floor is at most the innermost one
pub floors_below : (program : Form) (kept bound : ℕ) (f : Frame) (cs : List Frame) → FramesFit program kept f cs → IsFloor bound f cs → bound ≤ f.floor
floors_below program kept bound f [] h e = omega (arith, e)
floors_below program kept bound f (c ∷ cs) h (inl e) = omega (arith, e)
floors_below program kept bound f (c ∷ cs) h (inr e) =
    let w : bound ≤ c.floor = floors_below program kept bound c cs h.3 e in
    let v : c.floor ≤ f.floor = h.2 in
    omega (arith, w, v)
