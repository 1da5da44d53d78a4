-- The units that a process is in have their labels, wherever one goes on or is left.
use Rattle.std.proofs.Common.{◌≡◌, ℕ, ◌+◌, ◌-◌, ℤ, false, List, [], ◌∷◌, length, take, Option, Some, None, nat_lt, refl, sym, subst}
use Rattle.std.specs.Prelude.{slice_get}
use Rattle.shim_units.specs.declared.form.Form.{Form}
use Rattle.shim_process.specs.Todo.{Item, Do, Leave, Successor, On, Second, followed}
use Rattle.shim_process.specs.declared.handler_variable.HandlerVariable.{HandlerVariable}
use Rattle.shim_process.specs.LocalState.{LocalState, Frame, ExceptionPlace, unit_at}
use Rattle.shim_process.specs.Ends.{without_last, past_ends, went, is_over, settled, gone}
use Rattle.shim_process.specs.Unwinding.{handling, taking, catching, unwound, unwind}
use Rattle.shim_base.proofs.Facts.{choose}
use Rattle.shim_laws_stops.specs.InForce.{AllInForce}
use Rattle.shim_laws_stops.specs.FrameLabels.{ItemsThrow, PlacesThrow, AreLabels, FrameLabels, StackLabels, HasLabels}
use Rattle.shim_laws_stops.proofs.ThrowItems.{on_throws, second_throws, places_taken}

-- the second frame is of a unit entered where the first one was, and has what it needs
pub record GoesOn (program : Form) (f g : Frame) : Type 0 where
  pub outer : g.outer ≡ f.outer
  pub labels : FrameLabels program g

-- the unit has a label for each exception that it is given
pub record Given (program : Form) (f : Frame) : Type 0 where
  pub many : length f.labels ≡ (unit_at program f.unit).throws
  pub labels : AreLabels f.labels

pub given_of : (program : Form) (f : Frame) → FrameLabels program f → Given program f
given_of program f h = record { many = h.many; labels = h.labels }

pub past_labels : (program : Form) (k : List Item) (places : List ExceptionPlace) (f : Frame) → Given program f → ItemsThrow program (unit_at program f.unit).throws places k → PlacesThrow program (unit_at program f.unit).throws places
    → GoesOn program f (past_ends k places f)
past_labels program [] places f g h p = record { outer = refl; labels = record { todo = tt; places = p; many = g.many; labels = g.labels } }
past_labels program (Leave ∷ k) places f g h p = past_labels program k (without_last places) f g h (places_taken program (unit_at program f.unit).throws places (length places - 1) p)
past_labels program (Do n s ∷ k) places f g h p = record { outer = refl; labels = record { todo = h; places = p; many = g.many; labels = g.labels } }

pub went_labels : (program : Form) (successor : Successor) (f : Frame) → Given program f → ItemsThrow program (unit_at program f.unit).throws f.places (followed successor f.todo) → PlacesThrow program (unit_at program f.unit).throws f.places
    → GoesOn program f (went successor f)
unfolding went
went_labels program successor f g h p =
    let w = past_labels program (followed successor f.todo) f.places (record f { halfway = false }) (record { many = g.many; labels = g.labels }) h p in
    record { outer = w.outer; labels = w.labels }

pub went_on_labels : (program : Form) (f : Frame) → FrameLabels program f → GoesOn program f (went On f)
went_on_labels program f h = went_labels program On f (given_of program f h) (on_throws program (unit_at program f.unit).throws f.places f.todo h.todo) h.places

pub handling_labels : (program : Form) (i : ℕ) (f : Frame) (o : Option ExceptionPlace) → slice_get f.places i ≡ o → FrameLabels program f → GoesOn program f (handling o i f)
handling_labels program i f None is h = record { outer = refl; labels = h }
handling_labels program i f (Some e) is h =
    let given : ℕ = (unit_at program f.unit).throws in
    let g : Frame = record f { todo = e.todo; places = take i f.places } in
    let w = went_labels program Second g (record { many = h.many; labels = h.labels }) (second_throws program given (take i f.places) e.todo (h.places i e is)) (places_taken program given f.places i h.places) in
    record { outer = w.outer; labels = w.labels }

-- the units that wait for one that was entered with so many places in force
abbrev pub Waiting : Form → ℕ → List Frame → Type 0
Waiting program outer [] = outer ≡ 0
Waiting program outer (c ∷ cs) = (outer ≡ c.outer + length c.places) × StackLabels program c cs

pub inner_labels : (program : Form) (f : Frame) (cs : List Frame) → StackLabels program f cs → FrameLabels program f
inner_labels program f [] h = h.0
inner_labels program f (c ∷ cs) h = h.0

pub waiting : (program : Form) (f : Frame) (cs : List Frame) → StackLabels program f cs → Waiting program f.outer cs
waiting program f [] h = h.1
waiting program f (c ∷ cs) h = (h.1, h.2)

pub framed : (program : Form) (f : Frame) (cs : List Frame) → FrameLabels program f → Waiting program f.outer cs → StackLabels program f cs
framed program f [] h w = (h, w)
framed program f (c ∷ cs) h w = (h, w.0, w.1)

pub frames_on : (program : Form) (f g : Frame) (cs : List Frame) → Waiting program f.outer cs → GoesOn program f g → StackLabels program g cs
frames_on program f g cs h w = framed program g cs w.labels (subst (λ n. Waiting program n cs) (sym w.outer) h)

-- a later state of the same process, with its labels
pub record Moves (l m : LocalState) : Type 0 where
  pub labels : HasLabels m
  pub base : m.base ≡ l.base
  pub program : m.program ≡ l.program

pub moves_none : (l : LocalState) → HasLabels l → Moves l l
moves_none l h = record { labels = h; base = refl; program = refl }

pub settled_moves : (cs : List Frame) (f : Frame) (l : LocalState) → AllInForce l.program → StackLabels l.program f cs → Moves l (settled cs f l)
settled_moves [] f l units h = record { labels = record { units = units; frames = h }; base = refl; program = refl }
settled_moves (c ∷ cs) f l units h =
    let out : LocalState = record l { locations = take f.floor l.locations } in
    let w : GoesOn l.program c (went On c) = went_on_labels l.program c (inner_labels l.program c cs h.2) in
    let rest : Moves out (settled cs (went On c) out) = settled_moves cs (went On c) out units (frames_on l.program c (went On c) cs (waiting l.program c cs h.2) w) in
    choose (λ (z : LocalState). Moves l z) (is_over f.todo) (settled cs (went On c) out) (record l { frame = f; callers = c ∷ cs })
    (record { labels = rest.labels; base = rest.base; program = rest.program })
    (record { labels = record { units = units; frames = h }; base = refl; program = refl })

pub gone_moves : (successor : Successor) (l : LocalState) → AllInForce l.program → Given l.program l.frame → ItemsThrow l.program (unit_at l.program l.frame.unit).throws l.frame.places (followed successor l.frame.todo)
    → PlacesThrow l.program (unit_at l.program l.frame.unit).throws l.frame.places → Waiting l.program l.frame.outer l.callers → Moves l (gone successor l)
unfolding gone
gone_moves successor l units g h p w =
    settled_moves l.callers (went successor l.frame) l units (frames_on l.program l.frame (went successor l.frame) l.callers w (went_labels l.program successor l.frame g h p))

-- after the statement
pub gone_on_moves : (l : LocalState) → HasLabels l → Moves l (gone On l)
gone_on_moves l h =
    let f : FrameLabels l.program l.frame = inner_labels l.program l.frame l.callers h.frames in
    gone_moves On l h.units (given_of l.program l.frame f) (on_throws l.program (unit_at l.program l.frame.unit).throws l.frame.places l.frame.todo f.todo) f.places (waiting l.program l.frame l.callers h.frames)

taken_moves : (y : Option HandlerVariable) (v : ℤ) (f g : Frame) (cs : List Frame) (l : LocalState) → AllInForce l.program → StackLabels l.program g cs → Moves l (settled cs g (taking y v f l))
taken_moves None v f g cs l units h = settled_moves cs g l units h
taken_moves (Some y) v f g cs l units h =
    let m : LocalState = taking (Some y) v f l in
    let w : Moves m (settled cs g m) = settled_moves cs g m units h in
    record { labels = w.labels; base = w.base; program = w.program }

caught_moves : (o : Option ExceptionPlace) (v : ℤ) (f g : Frame) (cs : List Frame) (l : LocalState) → AllInForce l.program → StackLabels l.program g cs → Moves l (settled cs g (catching o v f l))
caught_moves None v f g cs l units h = settled_moves cs g l units h
caught_moves (Some p) v f g cs l units h = taken_moves p.variable v f g cs l units h

handled : (cs : List Frame) (f : Frame) (i : ℕ) (v : ℤ) (l : LocalState) → AllInForce l.program → StackLabels l.program f cs → Moves l (settled cs (handling (slice_get f.places i) i f) (catching (slice_get f.places i) v f l))
handled cs f i v l units h =
    let g : Frame = handling (slice_get f.places i) i f in
    caught_moves (slice_get f.places i) v f g cs l units (frames_on l.program f g cs (waiting l.program f cs h) (handling_labels l.program i f (slice_get f.places i) refl (inner_labels l.program f cs h)))

unwound_moves : (cs : List Frame) (f : Frame) (n : ℕ) (v : ℤ) (l : LocalState) → AllInForce l.program → StackLabels l.program f cs → Moves l (unwound cs f n v l)
unwound_moves [] f n v l units h = handled [] f (n - f.outer) v l units h
unwound_moves (c ∷ cs) f n v l units h =
    let o : Option ExceptionPlace = slice_get f.places (n - f.outer) in
    let g : Frame = handling o (n - f.outer) f in
    let out : LocalState = record l { locations = take f.floor l.locations } in
    let rest : Moves out (unwound cs c n v out) = unwound_moves cs c n v out units h.2 in
    choose (λ (z : LocalState). Moves l z) (nat_lt n f.outer) (unwound cs c n v out) (settled (c ∷ cs) g (catching o v f l))
    (record { labels = rest.labels; base = rest.base; program = rest.program })
    (handled (c ∷ cs) f (n - f.outer) v l units h)

pub unwind_moves : (l : LocalState) (label : ℕ) (v : ℤ) → HasLabels l → Moves l (unwind l label v)
unfolding unwind
unwind_moves l label v h = unwound_moves l.callers l.frame (label - l.base) v l h.units h.frames
