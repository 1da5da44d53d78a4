-- What the ends of units leave of a process has what it had.
use Rattle.std.proofs.Common.{◌≡◌, ◌∙◌, ℕ, ◌<◌, ◌≤◌, inl, inr, List, [], ◌∷◌, take, refl, sym, subst, arith}
use Rattle.shim_base.specs.Paths.{Path, Channel}
use Rattle.shim_units.specs.declared.form.Form.{Form}
use Rattle.shim_process.specs.Locations.{Locations}
use Rattle.shim_process.specs.Todo.{Successor, On}
use Rattle.shim_process.specs.LocalState.{LocalState, Frame}
use Rattle.shim_process.specs.Ends.{went, is_over, settled, gone}
use Rattle.shim_process.proofs.PlaceLocations.{at_take}
use Rattle.shim_process.specs.FittingFrames.{parameters, parameters_of}
use Rattle.shim_laws_sources.specs.Anchored.{IsFloor, Anchor, Anchored, NoneLent, IsAnchoredWhole, Stays}
use Rattle.shim_laws_sources.proofs.AtPlaces.{take_below, at_taken}
use Rattle.shim_process.proofs.FittingEnds.{fitting_on, fitting_left}
use Rattle.shim_process.proofs.FittingFrames.{GoesOn, went_fits, inner_fits, same_parameters}
use Rattle.shim_laws_sources.proofs.Floors.{same_floors}
use Rattle.shim_base.proofs.Facts.{choose}

-- a state that is whole, of the same process
abbrev pub Moves : LocalState → LocalState → Type 0
Moves l m = IsAnchoredWhole m × Stays l m

pub stays_same : (l : LocalState) → Stays l l
stays_same l = record { path = refl; given = refl; many = refl; owned = λ n c h w. w }

pub stays_both : (l m n : LocalState) → Stays l m → Stays m n → Stays l n
stays_both l m n f g = record {
  path = g.path ∙ f.path;
  given = g.given ∙ f.given;
  many = g.many ∙ f.many;
  owned = λ j c h w. g.owned j c (subst (λ (k : ℕ). j < k) (sym f.many) h) (f.owned j c h w);
}

pub moves_on : (l m n : LocalState) → Stays l m → Moves m n → Moves l n
moves_on l m n f g = (g.0, stays_both l m n f g.1)

same_anchor : (f g : Frame) (cs : List Frame) (xs : Locations) (m : ℕ) (c : Channel) → g.floor ≡ f.floor → Anchor f cs xs m c → Anchor g cs xs m c
same_anchor f g cs xs m c e a = record { number = a.number; owned = a.owned; bound = a.bound; floor = same_floors a.bound f g cs e a.floor; before = a.before; behind = a.behind }

-- another state of the innermost unit
pub anchored_on : (path : Path) (program : Form) (f g : Frame) (cs : List Frame) (xs : Locations) → Anchored path program f cs xs → GoesOn program (parameters path program f cs) f g → Anchored path program g cs xs
anchored_on path program f g cs xs h w = record {
  fitting = fitting_on path program f g cs xs h.fitting w;
  anchors = λ m x e ownership home. same_anchor f g cs xs m x.channel.channel w.floor (h.anchors m x e ownership home);
}

left_anchor : (f c : Frame) (cs : List Frame) (xs : Locations) (m : ℕ) (d : Channel) → m < f.floor → Anchor f (c ∷ cs) xs m d → Anchor c cs (take f.floor xs) m d
left_anchor f c cs xs m d below a =
    let before = a.before in
    let behind = a.behind in
    record {
      number = a.number;
      owned = record { place = a.owned.place; at = at_taken f.floor xs a.number a.owned.place (omega (arith, before, behind, below)) a.owned.at; owned = a.owned.owned; on = a.owned.on };
      bound = a.bound;
      floor = outer a.bound a.floor behind;
      before = before;
      behind = behind;
    }
  where
    outer : (bound : ℕ) → IsFloor bound f (c ∷ cs) → bound ≤ m → IsFloor bound c cs
    outer bound (inl e) h = absurd (omega (arith, e, h, below))
    outer bound (inr e) h = e

-- the innermost unit is left, with its locations
pub anchored_left : (path : Path) (program : Form) (f c : Frame) (cs : List Frame) (xs : Locations) → Anchored path program f (c ∷ cs) xs → Anchored path program c cs (take f.floor xs)
anchored_left path program f c cs xs h = record {
  fitting = fitting_left path program f c cs xs h.fitting;
  anchors = λ m x e ownership home. left_anchor f c cs xs m x.channel.channel (take_below f.floor xs m x e) (h.anchors m x (at_take xs f.floor m x e) ownership home);
}

pub left_stays : (l : LocalState) (f c g : Frame) (cs : List Frame) → g.unit ≡ c.unit → parameters l.path l.program f (c ∷ cs) ≤ f.floor
    → Stays (record l { frame = f; callers = c ∷ cs }) (record l { locations = take f.floor l.locations; frame = g; callers = cs })
left_stays l f c g cs unit long = record {
  path = refl;
  given = refl;
  many = same_parameters l.path l.program c g cs unit;
  owned = λ n d h w. record { place = w.place; at = at_taken f.floor l.locations n w.place (omega (arith, h, long)) w.at; owned = w.owned; on = w.on };
}

pub none_taken : (k : ℕ) (xs : Locations) → NoneLent xs → NoneLent (take k xs)
none_taken k xs h = λ n x e lent. h n x (at_take xs k n x e) lent

pub settled_whole : (cs : List Frame) (f : Frame) (l : LocalState) → Anchored l.path l.program f cs l.locations → NoneLent l.locations → Moves (record l { frame = f; callers = cs }) (settled cs f l)
settled_whole [] f l h none = ((h, none), stays_same (record l { frame = f; callers = [] }))
settled_whole (c ∷ cs) f l h none =
    let out : LocalState = record l { locations = take f.floor l.locations } in
    let left : Anchored l.path l.program c cs (take f.floor l.locations) = anchored_left l.path l.program f c cs l.locations h in
    let w : GoesOn l.program (parameters l.path l.program c cs) c (went On c) = went_fits l.program (parameters l.path l.program c cs) On c (inner_fits l.program (parameters l.path l.program c cs) c cs left.fitting.fit) in
    choose (λ (z : LocalState). Moves (record l { frame = f; callers = c ∷ cs }) z) (is_over f.todo) (settled cs (went On c) out) (record l { frame = f; callers = c ∷ cs })
    (moves_on (record l { frame = f; callers = c ∷ cs }) (record out { frame = went On c; callers = cs }) (settled cs (went On c) out)
    (left_stays l f c (went On c) cs w.unit h.fitting.fit.1)
    (settled_whole cs (went On c) out (anchored_on l.path l.program c (went On c) cs (take f.floor l.locations) left w) (none_taken f.floor l.locations none)))
    ((h, none), stays_same (record l { frame = f; callers = c ∷ cs }))

-- the innermost unit on, with its slots
pub frame_stays : (l : LocalState) (g : Frame) → g.unit ≡ l.frame.unit → Stays l (record l { frame = g })
frame_stays l g unit = record { path = refl; given = refl; many = same_parameters l.path l.program l.frame g l.callers unit; owned = λ n c h w. w }

pub gone_whole : (successor : Successor) (l : LocalState) → IsAnchoredWhole l → Moves l (gone successor l)
unfolding gone
gone_whole successor l h =
    let w : GoesOn l.program (parameters_of l) l.frame (went successor l.frame) = went_fits l.program (parameters_of l) successor l.frame (inner_fits l.program (parameters_of l) l.frame l.callers h.0.fitting.fit) in
    moves_on l (record l { frame = went successor l.frame }) (settled l.callers (went successor l.frame) l) (frame_stays l (went successor l.frame) w.unit)
    (settled_whole l.callers (went successor l.frame) l (anchored_on l.path l.program l.frame (went successor l.frame) l.callers l.locations h.0 w) h.1)
