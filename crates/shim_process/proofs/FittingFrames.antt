-- The frames of a process stay fit where one goes on.
use Rattle.std.proofs.Common.{◌≡◌, ◌∙◌, ℕ, ◌-◌, ◌≤◌, false, List, [], ◌∷◌, length, take, Option, Some, None, refl, sym, ap, subst}
use Rattle.shim_base.specs.Paths.{Path}
use Rattle.shim_units.specs.declared.form.Form.{Form}
use Rattle.shim_process.specs.LocalState.{Frame, ExceptionPlace, unit_at}
use Rattle.shim_process.specs.Todo.{Item, Do, Leave, Successor, Second, followed}
use Rattle.shim_process.specs.Ends.{without_last, past_ends, went}
use Rattle.shim_process.specs.Steps.{installed}
use Rattle.shim_process.specs.Unwinding.{handling}
use Rattle.shim_process.specs.declared.handler_variable.HandlerVariable.{HandlerVariable}
use Rattle.shim_process.specs.FittingFrames.{ItemsFit, VariableFits, PlacesFit, SlotsFit, FrameFits, FramesFit, of_child, parameters}
use Rattle.shim_process.proofs.FittingItems.{followed_fits, places_take, places_more}

-- the second frame is of the same unit with the same slots, and fits
pub record GoesOn (program : Form) (kept : ℕ) (f g : Frame) : Type 0 where
  pub unit : g.unit ≡ f.unit
  pub floor : g.floor ≡ f.floor
  pub fit : FrameFits program kept g

past_fits : (program : Form) (kept : ℕ) (k : List Item) (places : List ExceptionPlace) (f : Frame) → SlotsFit program kept f → ItemsFit program (unit_at program f.unit) k → PlacesFit program (unit_at program f.unit) places
    → GoesOn program kept f (past_ends k places f)
past_fits program kept [] places f s h g = record { unit = refl; floor = refl; fit = record { todo = tt; places = g; slots = s } }
past_fits program kept (Leave ∷ k) places f s h g = past_fits program kept k (without_last places) f s h (places_take program (unit_at program f.unit) (length places - 1) places g)
past_fits program kept (Do n st ∷ k) places f s h g = record { unit = refl; floor = refl; fit = record { todo = h; places = g; slots = s } }

again : (program : Form) (kept : ℕ) (f h g : Frame) → h.unit ≡ f.unit → h.floor ≡ f.floor → GoesOn program kept h g → GoesOn program kept f g
again program kept f h g unit floor w = record { unit = w.unit ∙ unit; floor = w.floor ∙ floor; fit = w.fit }

pub went_fits : (program : Form) (kept : ℕ) (successor : Successor) (f : Frame) → FrameFits program kept f → GoesOn program kept f (went successor f)
unfolding went
went_fits program kept successor f h =
    again program kept f (record f { halfway = false }) (went successor f) refl refl
    (past_fits program kept (followed successor f.todo) f.places (record f { halfway = false }) h.slots (followed_fits program (unit_at program f.unit) successor f.todo h.todo) h.places)

pub handling_fits : (program : Form) (kept : ℕ) (o : Option ExceptionPlace) (i : ℕ) (f : Frame) → FrameFits program kept f → ((e : ExceptionPlace) → o ≡ Some e → ItemsFit program (unit_at program f.unit) e.todo)
    → GoesOn program kept f (handling o i f)
handling_fits program kept None i f h there = record { unit = refl; floor = refl; fit = h }
handling_fits program kept (Some e) i f h there =
    let f2 : Frame = record f { todo = e.todo; places = take i f.places } in
    again program kept f f2 (went Second f2) refl refl
    (went_fits program kept Second f2 (record { todo = there e refl; places = places_take program (unit_at program f.unit) i f.places h.places; slots = h.slots }))

pub installed_fits : (program : Form) (kept : ℕ) (x name : ℕ) (y : Option HandlerVariable) (f : Frame) → VariableFits (unit_at program f.unit) y → FrameFits program kept f → FrameFits program kept (installed x name y f)
installed_fits program kept x name y f own h = record { todo = h.todo; places = places_more program (unit_at program f.unit) f.places _ h.places (h.todo, own, tt); slots = h.slots }

-- the innermost frame, among all

pub inner_fits : (program : Form) (kept : ℕ) (f : Frame) (cs : List Frame) → FramesFit program kept f cs → FrameFits program kept f
inner_fits program kept f [] h = h
inner_fits program kept f (c ∷ cs) h = h.0

pub frames_fit : (program : Form) (kept : ℕ) (f g : Frame) (cs : List Frame) → FramesFit program kept f cs → GoesOn program kept f g → FramesFit program kept g cs
frames_fit program kept f g [] h w = w.fit
frames_fit program kept f g (c ∷ cs) h w = (w.fit, subst (λ (n : ℕ). kept ≤ n) (sym w.floor) h.1, subst (λ (n : ℕ). c.floor ≤ n) (sym w.floor) h.2, h.3)

pub same_parameters : (path : Path) (program : Form) (f g : Frame) (cs : List Frame) → g.unit ≡ f.unit → parameters path program g cs ≡ parameters path program f cs
same_parameters path program f g [] e = ap (λ (n : ℕ). of_child path (length (unit_at program n).params)) e
same_parameters path program f g (c ∷ cs) e = refl
