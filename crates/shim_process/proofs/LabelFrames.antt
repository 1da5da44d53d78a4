-- The labels that units were given, and what the ends of units leave.
use Rattle.std.proofs.Common.{◌≡◌, ℕ, zero, suc, ◌+◌, ◌-◌, ◌<◌, ◌≤◌, false, List, [], ◌∷◌, length, take, Option, Some, None, nat_eq, cond, refl, sym, subst, arith}
use Rattle.std.proofs.lemmas.List.{length-map}
use Rattle.std.specs.Prelude.{slice_get}
use Rattle.shim_base.specs.declared.operators.Trap.{Trap}
use Rattle.shim_process.specs.Locations.{Location, at_number}
use Rattle.shim_process.specs.Todo.{Item, Do, Leave, Successor, On, Second, followed}
use Rattle.shim_process.specs.LocalState.{LocalState, Frame, ExceptionPlace, number_or_any, number_of, handlers, trapped}
use Rattle.shim_process.specs.StatementViews.{statement_view, exceptions_of, label_among, label_of, passed_labels}
use Rattle.shim_process.specs.Ends.{without_last, past_ends, went, is_over, settled, gone}
use Rattle.shim_process.specs.Steps.{half}
use Rattle.shim_process.specs.Unwinding.{handling}
use Rattle.shim_process.specs.Sound.{LabelsBelow, FramesBelow, PlacesGrow, places_inward, Sound}
use Rattle.shim_process.proofs.PlaceLocations.{at_take}
use Rattle.shim_process.proofs.GrowingPlaces.{without_these, went_grow}
use Rattle.shim_base.proofs.Facts.{choose}

-- a unit's labels, and its first exception place, are what they were
abbrev pub IsAlike : Frame → Frame → Type 0
IsAlike f g = (g.labels ≡ f.labels) × (g.outer ≡ f.outer)

past_alike : (k : List Item) (places : List ExceptionPlace) (f : Frame) → IsAlike f (past_ends k places f)
past_alike [] places f = (refl, refl)
past_alike (Leave ∷ k) places f = past_alike k (without_last places) f
past_alike (Do n s ∷ k) places f = (refl, refl)

went_alike : (successor : Successor) (f : Frame) → IsAlike f (went successor f)
unfolding went
went_alike successor f = past_alike (followed successor f.todo) f.places (record f { halfway = false })

pub handling_alike : (o : Option ExceptionPlace) (i : ℕ) (f : Frame) → IsAlike f (handling o i f)
handling_alike None i f = (refl, refl)
handling_alike (Some p) i f = went_alike Second (record f { todo = p.todo; places = take i f.places })

-- so they stay below
pub below_alike : (b : ℕ) (f g : Frame) (fs : List Frame) → IsAlike f g → FramesBelow b (f ∷ fs) → FramesBelow b (g ∷ fs)
below_alike b f g fs same h = (subst (λ k. LabelsBelow (b + k) g.labels) (sym same.1) (subst (LabelsBelow (b + f.outer)) (sym same.0) h.0), h.1)

-- What holds of a process's frames: the labels are below those of the places in force, counted from this base, and the variables of handlers grow inwards.
pub record FramesHold (b : ℕ) (l : LocalState) (fs : List Frame) : Type 0 where
  pub below : FramesBelow b fs
  pub grow : PlacesGrow l.path l.untaken l.made fs

-- The second state is the first one with units left, or on in one of its units.
pub record HasExited (b : ℕ) (l m : LocalState) : Type 0 where
  pub path : m.path ≡ l.path
  pub base : m.base ≡ l.base
  pub made : m.made ≡ l.made
  pub untaken : m.untaken ≡ l.untaken
  pub given : m.given ≡ l.given
  pub output : m.holds_output ≡ l.holds_output
  pub at : (n : ℕ) (x : Location) → at_number m.locations n ≡ Some x → at_number l.locations n ≡ Some x
  pub labels : FramesBelow b (m.frame ∷ m.callers)
  pub places : PlacesGrow l.path l.untaken l.made (m.frame ∷ m.callers)

after_take : (b k : ℕ) (l m : LocalState) → HasExited b (record l { locations = take k l.locations }) m → HasExited b l m
after_take b k l m h = record {
  path = h.path;
  base = h.base;
  made = h.made;
  untaken = h.untaken;
  given = h.given;
  output = h.output;
  at = λ n x e. at_take l.locations k n x (h.at n x e);
  labels = h.labels;
  places = h.places;
}

-- the innermost frame on
pub holds_went : (b : ℕ) (l : LocalState) (successor : Successor) (f : Frame) (fs : List Frame) → FramesHold b l (f ∷ fs) → FramesHold b l (went successor f ∷ fs)
holds_went b l successor f fs h = record {
  below = below_alike b f (went successor f) fs (went_alike successor f) h.below;
  grow = went_grow l.path l.untaken l.made successor f (places_inward fs) h.grow;
}

-- and left
pub holds_left : (b : ℕ) (l : LocalState) (f : Frame) (fs : List Frame) → FramesHold b l (f ∷ fs) → FramesHold b l fs
holds_left b l f fs h = record { below = h.below.1; grow = without_these l.path l.untaken l.made f.places (places_inward fs) h.grow }

-- with another unit and other callers
pub placed_left : (b : ℕ) (l : LocalState) (f : Frame) (fs : List Frame) → FramesHold b l (f ∷ fs) → HasExited b l (record l { frame = f; callers = fs })
placed_left b l f fs h = record { path = refl; base = refl; made = refl; untaken = refl; given = refl; output = refl; at = λ n x e. e; labels = h.below; places = h.grow }

pub settled_left : (b : ℕ) (fs : List Frame) (f : Frame) (l : LocalState) → FramesHold b l (f ∷ fs) → HasExited b l (settled fs f l)
settled_left b [] f l h = placed_left b l f [] h
settled_left b (c ∷ cs) f l h =
    let out : LocalState = record l { locations = take f.floor l.locations } in
    let k = holds_went b l On c cs (holds_left b l f (c ∷ cs) h) in
    choose (HasExited b l) (is_over f.todo) (settled cs (went On c) out) (record l { frame = f; callers = c ∷ cs })
    (after_take b f.floor l (settled cs (went On c) out) (settled_left b cs (went On c) out (record { below = k.below; grow = k.grow })))
    (placed_left b l f (c ∷ cs) h)

pub gone_left : (b : ℕ) (successor : Successor) (l : LocalState) → FramesHold b l (l.frame ∷ l.callers) → HasExited b l (gone successor l)
unfolding gone
gone_left b successor l h = settled_left b l.callers (went successor l.frame) l (holds_went b l successor l.frame l.callers h)

-- halfway through a statement
pub half_left : (b : ℕ) (l : LocalState) → FramesHold b l (l.frame ∷ l.callers) → HasExited b l (record l { frame = half l.frame })
half_left b l h = record { path = refl; base = refl; made = refl; untaken = refl; given = refl; output = refl; at = λ n x e. e; labels = h.below; places = h.grow }

pub trapped_left : (b : ℕ) (kind : Trap) (line : ℕ) (l : LocalState) → FramesHold b l (l.frame ∷ l.callers) → HasExited b l (trapped kind line l)
trapped_left b kind line l h = record { path = refl; base = refl; made = refl; untaken = refl; given = refl; output = refl; at = λ n x e. e; labels = h.below; places = h.grow }

pub none_left : (b : ℕ) (l : LocalState) → FramesHold b l (l.frame ∷ l.callers) → HasExited b l l
none_left b l h = record { path = refl; base = refl; made = refl; untaken = refl; given = refl; output = refl; at = λ n x e. e; labels = h.below; places = h.grow }

-- what holds of the frames of a sound process
pub sound_frames : (l : LocalState) → Sound l → FramesHold l.base l (l.frame ∷ l.callers)
sound_frames l s = record { below = s.labels; grow = s.places }

among_below : (bound x first : ℕ) (exceptions : List ℕ) (given : ℕ) → first + length exceptions ≤ bound → given < bound → label_among x first exceptions given < bound
among_below bound x first [] given most below = below
among_below bound x first (e ∷ es) given most below =
    among_below bound x (first + 1) es (cond (nat_eq e x) first given) (omega (arith, most))
    (choose (λ g. g < bound) (nat_eq e x) first given (omega (arith, most)) below)

number_below : (bound : ℕ) (labels : List ℕ) (x : ℕ) → 0 < bound → LabelsBelow bound labels → number_or_any (slice_get labels x) < bound
number_below bound [] x some h = some
number_below bound (y ∷ ys) zero some h = h.0
number_below bound (y ∷ ys) (suc x) some h = number_below bound ys x some h.1

given_below : (bound : ℕ) (labels : List ℕ) (x : ℕ) → 0 < bound → LabelsBelow bound labels → number_of labels x < bound
unfolding number_of
given_below bound labels x some h = number_below bound labels x some h

-- the label of an exception is that of a place in force, or of one around the process
pub label_below : (l : LocalState) (x : ℕ) → Sound l → label_of (statement_view l) x < handlers l
label_below l x s =
    let least = s.base in
    let given = given_below (l.base + l.frame.outer) l.frame.labels x (omega (arith, least)) s.labels.0 in
    let many : length (exceptions_of l.frame.places) ≡ length l.frame.places = length-map l.frame.places (λ (p : ExceptionPlace). p.exception) in
    among_below (handlers l) x (l.base + l.frame.outer) (exceptions_of l.frame.places) (number_of l.frame.labels x) (omega (arith, many)) (omega (arith, given))

pub passed_below : (l : LocalState) (xs : List ℕ) → Sound l → LabelsBelow (handlers l) (passed_labels (statement_view l) xs)
passed_below l [] s = tt
passed_below l (x ∷ xs) s = (label_below l x s, passed_below l xs s)
