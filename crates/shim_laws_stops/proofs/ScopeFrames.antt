-- The units that a process is in have the locations of what they name, wherever one goes on or is left, and whatever is stored.
use Rattle.std.proofs.Common.{◌≡◌, ◌∙◌, ◌≤◌, ◌<◌, inl, inr, ℕ, zero, suc, ◌-◌, ℤ, true, false, List, [], ◌∷◌, length, take, Option, Some, None, nat_lt, refl, sym, ap, subst, arith}
use Rattle.std.specs.Prelude.{slice_get, slice_set}
use Rattle.std.proofs.lemmas.Bool.Decides.{eqb_tells}
use Rattle.shim_units.specs.declared.form.Form.{Form}
use Rattle.shim_units.specs.declared.unit.Unit.{Unit as UnitOf}
use Rattle.shim_process.specs.declared.handler_variable.HandlerVariable.{HandlerVariable}
use Rattle.shim_units.specs.Own.{some_slot}
use Rattle.shim_process.specs.Locations.{Location, Locations, at_number}
use Rattle.shim_process.specs.Todo.{Item, Do, Leave, Successor, On, Second, followed}
use Rattle.shim_process.specs.LocalState.{LocalState, Frame, ExceptionPlace, unit_at, number_of, location_of}
use Rattle.shim_process.specs.Ends.{without_last, past_ends, went, is_over, settled, gone}
use Rattle.shim_process.specs.Unwinding.{handling, caught_location, taking, catching, unwound, unwind}
use Rattle.shim_process.proofs.PlaceChannels.{length_put}
use Rattle.shim_process.proofs.PlaceLocations.{at_take}
use Rattle.shim_process.specs.FittingFrames.{VariableFits, FrameFits}
use Rattle.shim_process.specs.OwnSlots.{is_own_slot, UsesOwnSlots}
use Rattle.shim_laws_sources.proofs.AtPlaces.{take_below, at_taken, still_at, put_at, Onward}
use Rattle.shim_process.proofs.FittingFrames.{went_fits}
use Rattle.shim_process.proofs.FittingItems as fitting_items
use Rattle.shim_base.proofs.Facts.{choose}
use Rattle.shim_laws_stops.specs.InScope.{AllInScope}
use Rattle.shim_laws_stops.specs.FrameLocations.{HasLocation, ItemsScoped, next_declares, slot_taken, PlacesScoped, FrameScoped, FramesScoped, HasLocations}
use Rattle.shim_laws_stops.specs.Named.{IsThere}
use Rattle.shim_laws_stops.proofs.Among.{Among, none_among, among_cases}
use Rattle.shim_laws_stops.proofs.ScopeItems.{more_known, on_scoped, second_scoped, places_taken, place_at, places_known}

-- locations

-- the second ones are as many, and none is lost
pub record Covers (xs ys : Locations) : Type 0 where
  pub long : length ys ≡ length xs
  pub there : (n : ℕ) (x : Location) → at_number xs n ≡ Some x → IsThere (at_number ys n)

pub covers_onward : (xs ys : Locations) → Onward xs ys → Covers xs ys
covers_onward xs ys o = record { long = o.long; there = λ n x e. let w = o.ahead n x e in (w.place, w.at) }

pub covers_set : (xs : Locations) (k : ℕ) (o : Option Location) → ((x : Location) → at_number xs k ≡ Some x → IsThere o) → Covers xs (slice_set xs k o)
covers_set xs k o f = record {
  long = length_put xs k o;
  there = λ n x e. elim (eqb_tells k n) [
    | inl same ↦
        let here : at_number xs k ≡ Some x = ap (at_number xs) same.1 ∙ e in
        let w = f x here in
        (w.0, ap (at_number (slice_set xs k o)) (sym same.1) ∙ ap (λ z. at_number (slice_set xs k z) k) w.1 ∙ put_at xs k x w.0 here)
    | inr other ↦ (x, still_at o xs k n x other.1 e)
  ];
}

pub set_there : (xs : Locations) (k : ℕ) (x : Location) → k < length xs → at_number (slice_set xs k (Some x)) k ≡ Some x
unfolding at_number
set_there [] k x h = absurd (omega (arith, h))
set_there (y ∷ xs) zero x h = refl
set_there (y ∷ xs) (suc k) x h = set_there xs k x (omega (arith, h))

taken_long : (k : ℕ) (xs ys : Locations) → length ys ≡ length xs → length (take k ys) ≡ length (take k xs)
taken_long zero xs ys e = refl
taken_long (suc k) [] [] e = refl
taken_long (suc k) [] (y ∷ ys) e = absurd (omega (arith, e))
taken_long (suc k) (x ∷ xs) [] e = absurd (omega (arith, e))
taken_long (suc k) (x ∷ xs) (y ∷ ys) e = let w = taken_long k xs ys (omega (arith, e)) in omega (arith, w)

pub covers_taken : (k : ℕ) (xs ys : Locations) → Covers xs ys → Covers (take k xs) (take k ys)
covers_taken k xs ys c = record {
  long = taken_long k xs ys c.long;
  there = λ n x e.
      let w = c.there n x (at_take xs k n x e) in
      (w.0, at_taken k ys n w.0 (take_below k xs n x e) w.1);
}

pub has_covered : (u : UnitOf) (xs ys : Locations) (slots : List ℕ) (x : ℕ) → Covers xs ys → HasLocation u xs slots x → HasLocation u ys slots x
has_covered u xs ys slots x c h number = let w = h number in c.there (number_of slots x) w.0 w.1

-- one frame

pub frame_covered : (program : Form) (xs ys : Locations) (f : Frame) → Covers xs ys → FrameScoped program xs f → FrameScoped program ys f
frame_covered program xs ys f c h =
    let u : UnitOf = unit_at program f.unit in
    let has : (x : ℕ) → HasLocation (unit_at program f.unit) xs f.slots x → HasLocation (unit_at program f.unit) ys f.slots x = λ x g. has_covered (unit_at program f.unit) xs ys f.slots x c g in
    record {
      fit = h.fit;
      slots = h.slots;
      todo = more_known program u (HasLocation u xs f.slots) (HasLocation u ys f.slots) [] [] f.todo has (λ x a. none_among x a) h.todo;
      places = places_known program u (HasLocation u xs f.slots) (HasLocation u ys f.slots) f.places has h.places;
      room = λ x own. let k = h.room x own in let long = c.long in omega (arith, k, long);
    }

pub frames_covered : (program : Form) (xs ys : Locations) (f : Frame) (cs : List Frame) → Covers xs ys → FramesScoped program xs f cs → FramesScoped program ys f cs
frames_covered program xs ys f [] c h = frame_covered program xs ys f c h
frames_covered program xs ys f (d ∷ ds) c h =
    let low = h.1 in
    let long = c.long in
    (frame_covered program xs ys f c h.0, omega (arith, low, long), h.2, frames_covered program (take f.floor xs) (take f.floor ys) d ds (covers_taken f.floor xs ys c) h.3)

-- the second frame is of the same unit with the same locations, and names what has its location
pub record GoesOn (program : Form) (xs : Locations) (f g : Frame) : Type 0 where
  pub floor : g.floor ≡ f.floor
  pub scoped : FrameScoped program xs g

-- all but what is to be done
pub record Rest (program : Form) (xs : Locations) (f : Frame) : Type 0 where
  pub slots : length f.slots ≡ length (unit_at program f.unit).slots
  pub places : PlacesScoped program (unit_at program f.unit) (HasLocation (unit_at program f.unit) xs f.slots) f.places
  pub room : (x : ℕ) → is_own_slot (unit_at program f.unit) x ≡ true → number_of f.slots x < length xs

past_scoped : (program : Form) (xs : Locations) (k : List Item) (places : List ExceptionPlace) (f : Frame) → FrameFits program 0 (past_ends k places f) → length f.slots ≡ length (unit_at program f.unit).slots
    → ItemsScoped program (unit_at program f.unit) (HasLocation (unit_at program f.unit) xs f.slots) [] k → PlacesScoped program (unit_at program f.unit) (HasLocation (unit_at program f.unit) xs f.slots) places
    → ((x : ℕ) → is_own_slot (unit_at program f.unit) x ≡ true → number_of f.slots x < length xs) → GoesOn program xs f (past_ends k places f)
past_scoped program xs [] places f fit many h p room = record { floor = refl; scoped = record { fit = fit; slots = many; todo = tt; places = p; room = room } }
past_scoped program xs (Leave ∷ k) places f fit many h p room =
    past_scoped program xs k (without_last places) f fit many h (places_taken program (unit_at program f.unit) (HasLocation (unit_at program f.unit) xs f.slots) (length places - 1) places p) room
past_scoped program xs (Do n s ∷ k) places f fit many h p room = record { floor = refl; scoped = record { fit = fit; slots = many; todo = h; places = p; room = room } }

pub went_scoped : (program : Form) (xs : Locations) (successor : Successor) (f : Frame) → FrameFits program 0 f → Rest program xs f
    → ItemsScoped program (unit_at program f.unit) (HasLocation (unit_at program f.unit) xs f.slots) [] (followed successor f.todo) → GoesOn program xs f (went successor f)
unfolding went
went_scoped program xs successor f fit rest h =
    let w = past_scoped program xs (followed successor f.todo) f.places (record f { halfway = false }) (went_fits program 0 successor f fit).fit rest.slots h rest.places rest.room in
    record { floor = w.floor; scoped = w.scoped }

pub rest_of : (program : Form) (xs : Locations) (f : Frame) → FrameScoped program xs f → Rest program xs f
rest_of program xs f h = record { slots = h.slots; places = h.places; room = h.room }

pub went_on_scoped : (program : Form) (xs : Locations) (f : Frame) → FrameScoped program xs f → next_declares program (unit_at program f.unit) f.todo ≡ [] → GoesOn program xs f (went On f)
went_on_scoped program xs f h none =
    went_scoped program xs On f h.fit (rest_of program xs f h) (on_scoped program (unit_at program f.unit) (HasLocation (unit_at program f.unit) xs f.slots) f.todo none h.todo)

-- the slot of the variable of this place's handler
abbrev pub place_takes : Option ExceptionPlace → Option ℕ
place_takes None = None
place_takes (Some e) = slot_taken e.variable

pub handling_scoped : (program : Form) (xs : Locations) (i : ℕ) (f : Frame) (o : Option ExceptionPlace) → slice_get f.places i ≡ o → ((x : ℕ) → Among (some_slot (place_takes o)) x → HasLocation (unit_at program f.unit) xs f.slots x) → FrameScoped program xs f
    → GoesOn program xs f (handling o i f)
handling_scoped program xs i f None is taken h = record { floor = refl; scoped = h }
handling_scoped program xs i f (Some e) is taken h =
    let u : UnitOf = unit_at program f.unit in
    let Has : ℕ → Type 0 = HasLocation u xs f.slots in
    let g : Frame = record f { todo = e.todo; places = take i f.places } in
    let at = place_at program (unit_at program f.unit) (HasLocation (unit_at program f.unit) xs f.slots) f.places i e h.places is in
    let fit : FrameFits program 0 (record f { todo = e.todo; places = take i f.places }) = record {
      todo = fitting_items.place_at program (unit_at program f.unit) f.places i e h.fit.places is;
      places = fitting_items.places_take program (unit_at program f.unit) i f.places h.fit.places;
      slots = h.fit.slots;
    } in
    let w = went_scoped program xs Second g fit (record { slots = h.slots; places = places_taken program (unit_at program f.unit) (HasLocation (unit_at program f.unit) xs f.slots) i f.places h.places; room = h.room })
    (second_scoped program (unit_at program f.unit) (HasLocation (unit_at program f.unit) xs f.slots) e.todo (λ x a. taken x (subst (λ y. Among (some_slot y) x) at.2 a)) at.1 at.0) in
    record { floor = w.floor; scoped = w.scoped }

-- the units that wait for one with this floor
abbrev pub Waiting : Form → Locations → ℕ → List Frame → Type 0
Waiting program xs floor [] = Unit {0}
Waiting program xs floor (c ∷ cs) = (floor ≤ length xs) × (next_declares program (unit_at program c.unit) c.todo ≡ []) × FramesScoped program (take floor xs) c cs

pub inner_scoped : (program : Form) (xs : Locations) (f : Frame) (cs : List Frame) → FramesScoped program xs f cs → FrameScoped program xs f
inner_scoped program xs f [] h = h
inner_scoped program xs f (c ∷ cs) h = h.0

pub waiting : (program : Form) (xs : Locations) (f : Frame) (cs : List Frame) → FramesScoped program xs f cs → Waiting program xs f.floor cs
waiting program xs f [] h = tt
waiting program xs f (c ∷ cs) h = (h.1, h.2, h.3)

pub framed : (program : Form) (xs : Locations) (f : Frame) (cs : List Frame) → FrameScoped program xs f → Waiting program xs f.floor cs → FramesScoped program xs f cs
framed program xs f [] h w = h
framed program xs f (c ∷ cs) h w = (h, w.0, w.1, w.2)

pub frames_on : (program : Form) (xs : Locations) (f g : Frame) (cs : List Frame) → Waiting program xs f.floor cs → GoesOn program xs f g → FramesScoped program xs g cs
frames_on program xs f g cs h w = framed program xs g cs w.scoped (subst (λ n. Waiting program xs n cs) (sym w.floor) h)

-- the process

pub settled_has : (cs : List Frame) (f : Frame) (l : LocalState) → UsesOwnSlots l.program → AllInScope l.program → FramesScoped l.program l.locations f cs → HasLocations (settled cs f l)
settled_has [] f l own units h = record { own = own; units = units; frames = h }
settled_has (c ∷ cs) f l own units h =
    let ys : Locations = take f.floor l.locations in
    let out : LocalState = record l { locations = take f.floor l.locations } in
    let w : GoesOn l.program (take f.floor l.locations) c (went On c) = went_on_scoped l.program (take f.floor l.locations) c (inner_scoped l.program (take f.floor l.locations) c cs h.3) h.2 in
    choose HasLocations (is_over f.todo) (settled cs (went On c) out) (record l { frame = f; callers = c ∷ cs })
    (settled_has cs (went On c) out own units (frames_on l.program (take f.floor l.locations) c (went On c) cs (waiting l.program (take f.floor l.locations) c cs h.3) w))
    (record { own = own; units = units; frames = h })

pub gone_has : (successor : Successor) (l : LocalState) → UsesOwnSlots l.program → AllInScope l.program → FrameFits l.program 0 l.frame → Rest l.program l.locations l.frame
    → ItemsScoped l.program (unit_at l.program l.frame.unit) (HasLocation (unit_at l.program l.frame.unit) l.locations l.frame.slots) [] (followed successor l.frame.todo) → Waiting l.program l.locations l.frame.floor l.callers → HasLocations (gone successor l)
unfolding gone
gone_has successor l own units fit rest h w =
    settled_has l.callers (went successor l.frame) l own units (frames_on l.program l.locations l.frame (went successor l.frame) l.callers w (went_scoped l.program l.locations successor l.frame fit rest h))

-- the unit goes on with a handler, whose variable has its location
goes_handled : (cs : List Frame) (f : Frame) (i : ℕ) (o : Option ExceptionPlace) (l : LocalState) → slice_get f.places i ≡ o → UsesOwnSlots l.program → AllInScope l.program
    → ((x : ℕ) → Among (some_slot (place_takes o)) x → HasLocation (unit_at l.program f.unit) l.locations f.slots x) → FramesScoped l.program l.locations f cs → HasLocations (settled cs (handling o i f) l)
goes_handled cs f i o l is own units taken h =
    let g : Frame = handling o i f in
    settled_has cs g l own units (frames_on l.program l.locations f g cs (waiting l.program l.locations f cs h) (handling_scoped l.program l.locations i f o is taken (inner_scoped l.program l.locations f cs h)))

-- the location that a handler's variable gets
took : (cs : List Frame) (f : Frame) (i : ℕ) (e : ExceptionPlace) (y : Option HandlerVariable) (v : ℤ) (l : LocalState) → slice_get f.places i ≡ Some e → e.variable ≡ y → UsesOwnSlots l.program → AllInScope l.program → FramesScoped l.program l.locations f cs
    → HasLocations (settled cs (handling (Some e) i f) (taking y v f l))
took cs f i e None v l is none own units h = goes_handled cs f i (Some e) l is own units (λ x a. none_among x (subst (λ z. Among (some_slot (slot_taken z)) x) none a)) h
took cs f i e (Some y) v l is same own units h =
    let m : LocalState = taking (Some y) v f l in
    let u : UnitOf = unit_at l.program f.unit in
    let place : ℕ = number_of f.slots y.slot in
    let new : Location = caught_location y.channel v in
    let ys : Locations = slice_set l.locations (number_of f.slots y.slot) (Some (caught_location y.channel v)) in
    let inner : FrameScoped l.program l.locations f = inner_scoped l.program l.locations f cs h in
    let mine : is_own_slot (unit_at l.program f.unit) y.slot ≡ true = subst (VariableFits (unit_at l.program f.unit)) same (fitting_items.variable_at l.program (unit_at l.program f.unit) f.places i e inner.fit.places is) in
    let c : Covers l.locations (slice_set l.locations (number_of f.slots y.slot) (Some (caught_location y.channel v))) = covers_set l.locations (number_of f.slots y.slot) (Some (caught_location y.channel v)) (λ x a. (caught_location y.channel v, refl)) in
    goes_handled cs f i (Some e) m is own units
    (λ x a number. elim (among_cases y.slot [] x (subst (λ z. Among (some_slot (slot_taken z)) x) same a)) [
      | inl here ↦ subst (λ z. IsThere (location_of ys f.slots z)) here (new, set_there l.locations place new (inner.room y.slot mine))
      | inr b ↦ none_among x b
    ])
    (frames_covered l.program l.locations ys f cs c h)

handled : (cs : List Frame) (f : Frame) (i : ℕ) (o : Option ExceptionPlace) (v : ℤ) (l : LocalState) → slice_get f.places i ≡ o → UsesOwnSlots l.program → AllInScope l.program → FramesScoped l.program l.locations f cs
    → HasLocations (settled cs (handling o i f) (catching o v f l))
handled cs f i None v l is own units h = goes_handled cs f i None l is own units (λ x a. none_among x a) h
handled cs f i (Some e) v l is own units h = took cs f i e e.variable v l is refl own units h

unwound_has : (cs : List Frame) (f : Frame) (n : ℕ) (v : ℤ) (l : LocalState) → UsesOwnSlots l.program → AllInScope l.program → FramesScoped l.program l.locations f cs → HasLocations (unwound cs f n v l)
unwound_has [] f n v l own units h = handled [] f (n - f.outer) (slice_get f.places (n - f.outer)) v l refl own units h
unwound_has (c ∷ cs) f n v l own units h =
    let o : Option ExceptionPlace = slice_get f.places (n - f.outer) in
    let g : Frame = handling o (n - f.outer) f in
    let out : LocalState = record l { locations = take f.floor l.locations } in
    choose HasLocations (nat_lt n f.outer) (unwound cs c n v out) (settled (c ∷ cs) g (catching o v f l))
    (unwound_has cs c n v out own units h.3)
    (handled (c ∷ cs) f (n - f.outer) (slice_get f.places (n - f.outer)) v l refl own units h)

pub unwind_has : (l : LocalState) (label : ℕ) (v : ℤ) → HasLocations l → HasLocations (unwind l label v)
unfolding unwind
unwind_has l label v h = unwound_has l.callers l.frame (label - l.base) v l h.own h.units h.frames
