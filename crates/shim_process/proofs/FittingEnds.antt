-- The frames of a process fit its locations where a unit is left or a throw is caught, and its parameters stay on their channels.
use Rattle.std.proofs.Common.{◌≡◌, ◌∙◌, ℕ, ℤ, ◌-◌, ◌<◌, ◌≤◌, List, [], ◌∷◌, length, take, Option, Some, None, nat_lt, refl, sym, subst, arith}
use Rattle.std.specs.Prelude.{slice_get, slice_set}
use Rattle.shim_base.specs.Paths.{Path}
use Rattle.shim_units.specs.declared.form.Form.{Form}
use Rattle.shim_process.specs.Locations.{Location, Locations, channel_at}
use Rattle.shim_process.specs.Todo.{Successor, On}
use Rattle.shim_process.specs.LocalState.{LocalState, Frame, ExceptionPlace, unit_at, number_of}
use Rattle.shim_process.specs.declared.handler_variable.HandlerVariable.{HandlerVariable}
use Rattle.shim_process.specs.Ends.{went, is_over, settled, gone}
use Rattle.shim_process.specs.Unwinding.{handling, caught_location, taking, catching, unwound, unwind}
use Rattle.shim_process.specs.FittingFrames.{VariableFits, FrameFits, FramesFit, parameters, parameters_of, Fitting, IsFitting}
use Rattle.shim_process.proofs.PlaceChannels.{length_taken, taken_channel, length_put, other_channel}
use Rattle.shim_process.proofs.FittingItems.{place_at, variable_at}
use Rattle.shim_process.proofs.FittingFrames.{GoesOn, went_fits, handling_fits, inner_fits, frames_fit, same_parameters}
use Rattle.shim_base.proofs.Facts.{choose}

-- the second state is that of the same process, later: it has its parameters on their channels
pub record HasParameters (l m : LocalState) : Type 0 where
  pub many : parameters_of m ≡ parameters_of l
  pub channels : (n : ℕ) → n < parameters_of l → channel_at m.locations n ≡ channel_at l.locations n

-- and its frames fit
abbrev pub GoesFitting : LocalState → LocalState → Type 0
GoesFitting l m = IsFitting m × HasParameters l m

pub same_fitting : (l : LocalState) → HasParameters l l
same_fitting l = record { many = refl; channels = λ n h. refl }

pub both_fitting : (l m k : LocalState) → HasParameters l m → HasParameters m k → HasParameters l k
both_fitting l m k f g = record {
  many = g.many ∙ f.many;
  channels = λ n h. g.channels n (subst (λ (i : ℕ). n < i) (sym f.many) h) ∙ f.channels n h;
}

pub then_fitting : (l m k : LocalState) → HasParameters l m → GoesFitting m k → GoesFitting l k
then_fitting l m k f g = (g.0, both_fitting l m k f g.1)

-- another state of the innermost unit
pub fitting_on : (path : Path) (program : Form) (f g : Frame) (cs : List Frame) (xs : Locations) → Fitting path program f cs xs → GoesOn program (parameters path program f cs) f g → Fitting path program g cs xs
fitting_on path program f g cs xs h w =
    let many : parameters path program g cs ≡ parameters path program f cs = same_parameters path program f g cs w.unit in
    record {
      uses = h.uses;
      fit = subst (λ (n : ℕ). FramesFit program n g cs) (sym many) (frames_fit program (parameters path program f cs) f g cs h.fit w);
      long = subst (λ (n : ℕ). n ≤ length xs) (sym many) h.long;
      floor = subst (λ (n : ℕ). n ≤ length xs) (sym w.floor) h.floor;
    }

-- the innermost unit is left, with its locations
pub fitting_left : (path : Path) (program : Form) (f c : Frame) (cs : List Frame) (xs : Locations) → Fitting path program f (c ∷ cs) xs → Fitting path program c cs (take f.floor xs)
fitting_left path program f c cs xs h =
    let many : length (take f.floor xs) ≡ f.floor = length_taken f.floor xs h.floor in
    record {
      uses = h.uses;
      fit = h.fit.3;
      long = subst (λ (n : ℕ). parameters path program c cs ≤ n) (sym many) h.fit.1;
      floor = subst (λ (n : ℕ). c.floor ≤ n) (sym many) h.fit.2;
    }

-- other locations, as many
pub fitting_over : (path : Path) (program : Form) (f : Frame) (cs : List Frame) (xs ys : Locations) → length ys ≡ length xs → Fitting path program f cs xs → Fitting path program f cs ys
fitting_over path program f cs xs ys long h = record {
  uses = h.uses;
  fit = h.fit;
  long = subst (λ (n : ℕ). parameters path program f cs ≤ n) (sym long) h.long;
  floor = subst (λ (n : ℕ). f.floor ≤ n) (sym long) h.floor;
}

left_parameters : (l : LocalState) (f c g : Frame) (cs : List Frame) → g.unit ≡ c.unit → parameters l.path l.program f (c ∷ cs) ≤ f.floor
    → HasParameters (record l { frame = f; callers = c ∷ cs }) (record l { locations = take f.floor l.locations; frame = g; callers = cs })
left_parameters l f c g cs unit long = record {
  many = same_parameters l.path l.program c g cs unit;
  channels = λ n h. taken_channel f.floor l.locations n (omega (arith, h, long));
}

-- where nothing is left in the innermost unit it is left, and those that wait go on
pub settled_fitting : (cs : List Frame) (f : Frame) (l : LocalState) → Fitting l.path l.program f cs l.locations → GoesFitting (record l { frame = f; callers = cs }) (settled cs f l)
settled_fitting [] f l h = (h, same_fitting (record l { frame = f; callers = [] }))
settled_fitting (c ∷ cs) f l h =
    let out : LocalState = record l { locations = take f.floor l.locations } in
    let left : Fitting l.path l.program c cs (take f.floor l.locations) = fitting_left l.path l.program f c cs l.locations h in
    let w : GoesOn l.program (parameters l.path l.program c cs) c (went On c) = went_fits l.program (parameters l.path l.program c cs) On c (inner_fits l.program (parameters l.path l.program c cs) c cs left.fit) in
    choose (λ (z : LocalState). GoesFitting (record l { frame = f; callers = c ∷ cs }) z) (is_over f.todo) (settled cs (went On c) out) (record l { frame = f; callers = c ∷ cs })
    (then_fitting (record l { frame = f; callers = c ∷ cs }) (record out { frame = went On c; callers = cs }) (settled cs (went On c) out)
    (left_parameters l f c (went On c) cs w.unit h.fit.1)
    (settled_fitting cs (went On c) out (fitting_on l.path l.program c (went On c) cs (take f.floor l.locations) left w)))
    (h, same_fitting (record l { frame = f; callers = c ∷ cs }))

-- the innermost unit on, with its slots
pub frame_parameters : (l : LocalState) (g : Frame) → g.unit ≡ l.frame.unit → HasParameters l (record l { frame = g })
frame_parameters l g unit = record { many = same_parameters l.path l.program l.frame g l.callers unit; channels = λ n h. refl }

pub frame_fitting : (l : LocalState) (g : Frame) → IsFitting l → GoesOn l.program (parameters_of l) l.frame g → GoesFitting l (record l { frame = g })
frame_fitting l g h w = (fitting_on l.path l.program l.frame g l.callers l.locations h w, frame_parameters l g w.unit)

pub gone_fitting : (successor : Successor) (l : LocalState) → IsFitting l → GoesFitting l (gone successor l)
unfolding gone
gone_fitting successor l h =
    let w : GoesOn l.program (parameters_of l) l.frame (went successor l.frame) = went_fits l.program (parameters_of l) successor l.frame (inner_fits l.program (parameters_of l) l.frame l.callers h.fit) in
    then_fitting l (record l { frame = went successor l.frame }) (settled l.callers (went successor l.frame) l) (frame_parameters l (went successor l.frame) w.unit)
    (settled_fitting l.callers (went successor l.frame) l (fitting_on l.path l.program l.frame (went successor l.frame) l.callers l.locations h w))

handled : (l : LocalState) (f : Frame) (cs : List Frame) (i : ℕ) → Fitting l.path l.program f cs l.locations → GoesOn l.program (parameters l.path l.program f cs) f (handling (slice_get f.places i) i f)
handled l f cs i h =
    let inner : FrameFits l.program (parameters l.path l.program f cs) f = inner_fits l.program (parameters l.path l.program f cs) f cs h.fit in
    handling_fits l.program (parameters l.path l.program f cs) (slice_get f.places i) i f inner (λ e is. place_at l.program (unit_at l.program f.unit) f.places i e inner.places is)

-- a location of the frame's own is set, which none of the parameters has
pub not_there : (k n bound : ℕ) → bound ≤ k → n < bound → k ≡ n → ⊥
not_there k n bound a b e = omega (arith, a, b, e)

-- the process with the location that a handler's variable gets
pub taking_fitting : (o : Option HandlerVariable) (v : ℤ) (l : LocalState) (f : Frame) (cs : List Frame) → VariableFits (unit_at l.program f.unit) o → Fitting l.path l.program f cs l.locations
    → GoesFitting (record l { frame = f; callers = cs }) (record (taking o v f l) { frame = f; callers = cs })
taking_fitting None v l f cs own h = (h, same_fitting (record l { frame = f; callers = cs }))
taking_fitting (Some y) v l f cs own h =
    let k : ℕ = number_of f.slots y.slot in
    let new : Option Location = Some (caught_location y.channel v) in
    let inner : FrameFits l.program (parameters l.path l.program f cs) f = inner_fits l.program (parameters l.path l.program f cs) f cs h.fit in
    let at : (f.floor ≤ number_of f.slots y.slot) × (parameters l.path l.program f cs ≤ number_of f.slots y.slot) = inner.slots y.slot own in (
      fitting_over l.path l.program f cs l.locations (slice_set l.locations k new) (length_put l.locations k new) h,
      record { many = refl; channels = λ n below. other_channel l.locations k n new (not_there k n (parameters l.path l.program f cs) at.1 below) },
    )

catching_fitting : (o : Option ExceptionPlace) (v : ℤ) (l : LocalState) (f : Frame) (cs : List Frame) → ((e : ExceptionPlace) → o ≡ Some e → VariableFits (unit_at l.program f.unit) e.variable)
    → Fitting l.path l.program f cs l.locations → GoesFitting (record l { frame = f; callers = cs }) (record (catching o v f l) { frame = f; callers = cs })
catching_fitting None v l f cs own h = (h, same_fitting (record l { frame = f; callers = cs }))
catching_fitting (Some e) v l f cs own h = taking_fitting e.variable v l f cs (own e refl) h

-- the states around a handler's variable are of the same process
abbrev pub Around : LocalState → LocalState → Type 0
Around l k = (k.path ≡ l.path) × (k.program ≡ l.program)

taking_around : (o : Option HandlerVariable) (v : ℤ) (f : Frame) (l : LocalState) → Around l (taking o v f l)
taking_around None v f l = (refl, refl)
taking_around (Some y) v f l = (refl, refl)

pub catching_around : (o : Option ExceptionPlace) (v : ℤ) (f : Frame) (l : LocalState) → Around l (catching o v f l)
catching_around None v f l = (refl, refl)
catching_around (Some e) v f l = taking_around e.variable v f l

-- on with the handler, from the state with its variable
on_handler : (k : LocalState) (f g : Frame) (cs : List Frame) → Fitting k.path k.program f cs k.locations → GoesOn k.program (parameters k.path k.program f cs) f g → GoesFitting (record k { frame = f; callers = cs }) (settled cs g k)
on_handler k f g cs h w =
    then_fitting (record k { frame = f; callers = cs }) (record k { frame = g; callers = cs }) (settled cs g k) (frame_parameters (record k { frame = f; callers = cs }) g w.unit)
    (settled_fitting cs g k (fitting_on k.path k.program f g cs k.locations h w))

stopped : (l : LocalState) (f : Frame) (cs : List Frame) (i : ℕ) (v : ℤ) → Fitting l.path l.program f cs l.locations
    → GoesFitting (record l { frame = f; callers = cs }) (settled cs (handling (slice_get f.places i) i f) (catching (slice_get f.places i) v f l))
stopped l f cs i v h =
    let o : Option ExceptionPlace = slice_get f.places i in
    let k : LocalState = catching o v f l in
    let inner : FrameFits l.program (parameters l.path l.program f cs) f = inner_fits l.program (parameters l.path l.program f cs) f cs h.fit in
    let c : GoesFitting (record l { frame = f; callers = cs }) (record k { frame = f; callers = cs }) =
    catching_fitting o v l f cs (λ e is. variable_at l.program (unit_at l.program f.unit) f.places i e inner.places is) h in
    let on : GoesOn k.program (parameters k.path k.program f cs) f (handling o i f) =
    subst (λ (z : Form). GoesOn z (parameters k.path z f cs) f (handling o i f)) (sym (catching_around o v f l).1)
    (subst (λ (z : Path). GoesOn l.program (parameters z l.program f cs) f (handling o i f)) (sym (catching_around o v f l).0) (handled l f cs i h)) in
    then_fitting (record l { frame = f; callers = cs }) (record k { frame = f; callers = cs }) (settled cs (handling o i f) k) c.1 (on_handler k f (handling o i f) cs c.0 on)

unwound_fitting : (cs : List Frame) (f : Frame) (n : ℕ) (v : ℤ) (l : LocalState) → Fitting l.path l.program f cs l.locations → GoesFitting (record l { frame = f; callers = cs }) (unwound cs f n v l)
unwound_fitting [] f n v l h = stopped l f [] (n - f.outer) v h
unwound_fitting (c ∷ cs) f n v l h =
    let o : Option ExceptionPlace = slice_get f.places (n - f.outer) in
    let out : LocalState = record l { locations = take f.floor l.locations } in
    choose (λ (z : LocalState). GoesFitting (record l { frame = f; callers = c ∷ cs }) z) (nat_lt n f.outer) (unwound cs c n v out) (settled (c ∷ cs) (handling o (n - f.outer) f) (catching o v f l))
    (then_fitting (record l { frame = f; callers = c ∷ cs }) (record out { frame = c; callers = cs }) (unwound cs c n v out)
    (left_parameters l f c c cs refl h.fit.1)
    (unwound_fitting cs c n v out (fitting_left l.path l.program f c cs l.locations h)))
    (stopped l f (c ∷ cs) (n - f.outer) v h)

pub unwind_fitting : (l : LocalState) (label : ℕ) (v : ℤ) → IsFitting l → GoesFitting l (unwind l label v)
unfolding unwind
unwind_fitting l label v h = unwound_fitting l.callers l.frame (label - l.base) v l h
