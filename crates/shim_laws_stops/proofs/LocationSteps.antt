-- A process has the locations of what it names after each of its steps that isn't a fork.
use Rattle.std.proofs.Common.{◌≡◌, ◌∙◌, inl, inr, ℕ, ◌+◌, ℤ, pos, Bool, true, ◌&&◌, ◌||◌, List, [], ◌∷◌, ◌++◌, length, take, Option, Some, None, Result, Ok, Err, cond, refl, sym, ap, subst, arith, length-append}
use Rattle.std.proofs.lemmas.Bool.{and_parts}
use Rattle.std.proofs.lemmas.List.{take-append-le, take_all}
use Rattle.shim_base.specs.declared.types.Ty.{Ty}
use Rattle.shim_base.specs.declared.operators.Trap.{Trap}
use Rattle.shim_base.specs.declared.operators.Trap.TheVariants.{Depth}
use Rattle.shim_base.specs.Operators.{is_zero}
use Rattle.shim_base.specs.Value.{stored}
use Rattle.shim_local.specs.Process.{Trapped as TrappedFork}
use Rattle.shim_units.specs.declared.form.Form.{Form}
use Rattle.shim_units.specs.declared.unit.Unit.{Unit as UnitOf}
use Rattle.shim_units.specs.declared.unit.UCall.{UCall}
use Rattle.shim_units.specs.declared.unit.UStmt.{UStmt}
use Rattle.shim_units.specs.declared.unit.UWhat.{UWhat, UWhat-F, out-UWhat}
use Rattle.shim_units.specs.Own.{some_slot}
use Rattle.shim_units.specs.Numbering as numbering
use Rattle.shim_process.specs.Values.{Value, value}
use Rattle.shim_process.specs.declared.handler_variable.HandlerVariable.{HandlerVariable}
use Rattle.shim_process.specs.Locations.{Location, Locations, at_number, store_at, with_value}
use Rattle.shim_process.specs.Todo.{Item, Do, Leave, Successor, On, First, Second, items_all, follow_what, followed, next_stmt}
use Rattle.shim_process.specs.LocalState.{LocalState, Frame, ExceptionPlace, unit_at, number_of, env_of, is_full, is_deep, trapped}
use Rattle.shim_process.specs.StatementViews.{statement_view, unit_in, passed_labels}
use Rattle.shim_process.specs.Arguments.{Argument, arguments, entered, call_slots, call_locations, declared_slots, empties, new_location}
use Rattle.shim_process.specs.Ends.{gone}
use Rattle.shim_process.specs.Forks.{fork}
use Rattle.shim_process.specs.Steps.{Action, Go, Store, StoreFirst, Make, Read, Enter, Install, Trapped, Wait, action, limited, value_or, try_name, what_action, stmt_action, next_action, line_of, stored_in, made_in, read_in, next_byte, half, installed, variable_in, installing, pushed, called, done, quiet}
use Rattle.shim_process.specs.Stops.{put_value, after_put, put, thrown_value, after_throw, throw_evaluated, what_receive, stmt_receive, receive}
use Rattle.shim_process.proofs.CallKeeps.{fork_trapped}
use Rattle.shim_process.specs.OwnSlots.{is_own_slot, is_own_variable, has_arguments, all_fit}
use Rattle.shim_process.specs.FittingFrames.{ItemsFit}
use Rattle.shim_laws_sources.proofs.AtPlaces.{at_before}
use Rattle.shim_process.proofs.CallSlots.{called_slot, given_many}
use Rattle.shim_process.proofs.FittingFrames.{installed_fits}
use Rattle.shim_process.proofs.FittingItems.{fits_layer, fits_out}
use Rattle.shim_base.proofs.Facts.{choose, first_holds, second_holds}
use Rattle.shim_laws_stops.specs.InScope.{reads_right, option_right, all_scoped, arguments_right, references, distinct, call_right, Scoped, scoped}
use Rattle.shim_laws_stops.specs.FrameLocations.{HasLocation, scoped_kind, item_right, ItemsScoped, next_declares, slot_taken, what_takes, next_takes, FrameScoped, FramesScoped, HasLocations}
use Rattle.shim_laws_stops.specs.Named.{IsThere}
use Rattle.shim_laws_stops.proofs.Among.{Among, none_among, among_cases}
use Rattle.shim_laws_stops.proofs.ThrowItems.{goes_on}
use Rattle.shim_laws_stops.proofs.ScopeItems.{scoped_out, more_known, body_scoped, places_more}
use Rattle.shim_laws_stops.proofs.ScopeFrames.{Rest, Covers, covers_set, set_there, has_covered, frames_covered, rest_of, went_on_scoped, inner_scoped, waiting, framed, frames_on, settled_has, gone_has}
use Rattle.shim_laws_stops.proofs.ScopeEntries.{GivenThere, given_there, has_behind, has_less, call_params, call_room, call_many, empties_many, entered_scoped}

-- what is asked of the locations of the unit in which the process is
abbrev pub Has : LocalState → ℕ → Type 0
Has l = HasLocation (unit_at l.program l.frame.unit) l.locations l.frame.slots

abbrev unit_of : LocalState → UnitOf
unit_of l = unit_at l.program l.frame.unit

-- what a statement asks for leaves of the unit what names what has its location, where the statement declares this; after it comes what this function says
abbrev ActionScoped : LocalState → List ℕ → Option ℕ → (Successor → List Item) → Action → Type 0
ActionScoped l top taken next (Go successor) = ItemsScoped l.program (unit_of l) (Has l) [] (next successor)
ActionScoped l top taken next (Store x v) = top ≡ []
ActionScoped l top taken next (StoreFirst x v) = Unit {0}
ActionScoped l top taken next (Make t x v) = (top ≡ x ∷ []) × (is_own_slot (unit_of l) x ≡ true)
ActionScoped l top taken next (Read x) = top ≡ []
ActionScoped l top taken next (Enter unit given labels) = (top ≡ []) × GivenThere l.locations (unit_at l.program unit).params given × (length given ≡ length (unit_at l.program unit).params)
ActionScoped l top taken next (Install x name y) = (top ≡ []) × (taken ≡ y) × (is_own_variable (unit_of l) y ≡ true) × ItemsScoped l.program (unit_of l) (Has l) [] (next First)
ActionScoped l top taken next (Trapped t) = Unit {0}
ActionScoped l top taken next Wait = Unit {0}

action_scoped : {A : Type 0} (l : LocalState) (top : List ℕ) (taken : Option ℕ) (next : Successor → List Item) (f : A → Action) (r : Result A Trap) → ((v : A) → r ≡ Ok v → ActionScoped l top taken next (f v)) → ActionScoped l top taken next (action f r)
action_scoped l top taken next f (Ok v) h = h v refl
action_scoped l top taken next f (Err t) h = tt

limited_scoped : (l : LocalState) (top : List ℕ) (taken : Option ℕ) (next : Successor → List Item) (over : Bool) (d : Action) → ActionScoped l top taken next d → ActionScoped l top taken next (limited over d)
limited_scoped l top taken next over d h = choose (ActionScoped l top taken next) over (Trapped Depth) d tt h

abbrev behind : UWhat-F UWhat UStmt → ℕ → UStmt → List Item → Successor → List Item
behind w n s k successor = follow_what w successor n s k

-- the arguments of a call are there, and as many as the parameters
call_given : (l : LocalState) (c : UCall) (given : List Argument) (xs : List ℕ) → ((x : ℕ) → Among xs x → Has l x) → call_right l.program (unit_of l) xs c ≡ true → has_arguments l.program c ≡ true → arguments l.locations l.frame.slots (unit_in (statement_view l) c.unit).params c.args ≡ Ok given
    → GivenThere l.locations (unit_at l.program c.unit).params given × (length given ≡ length (unit_at l.program c.unit).params)
unfolding unit_at
call_given l c given xs has right suit e = (
  given_there (unit_of l) l.locations l.frame.slots xs has (unit_at l.program c.unit).params c.args given e (and_parts (arguments_right (unit_of l) xs (unit_at l.program c.unit).params c.args) (distinct (references c.args)) right).0,
  given_many l.program l.locations l.frame.slots c given suit e,
)

module _ (l : LocalState) where
  abbrev kind : UWhat-F UWhat UStmt → List ℕ
  kind w = (scoped_kind l.program (unit_of l) w).declares

  what_asks : (w : UWhat-F UWhat UStmt) (n : ℕ) (s : UStmt) (k : List Item) (xs : List ℕ) → item_right l.program (unit_of l) w xs ≡ true → ((x : ℕ) → Among xs x → Has l x) → fits_layer l.program (unit_of l) w ≡ true
      → ItemsScoped l.program (unit_of l) (Has l) [] (Do n s ∷ k) → ItemsScoped l.program (unit_of l) (Has l) (kind w ++ []) k → ActionScoped l (kind w) (what_takes w) (behind w n s k) (what_action w (statement_view l))
  what_asks (UWhat-F.Declare t x e) n s k xs h has fit self rest =
      let w = UWhat-F.Declare t x e in
      action_scoped l (x ∷ []) None (behind w n s k) (λ v. limited (is_full l) (Make t x v)) (value_or (pos 0) e (env_of l.locations l.frame.slots)) (λ v is. limited_scoped l (x ∷ []) None (behind w n s k) (is_full l) (Make t x v) (refl, fit))
  what_asks (UWhat-F.Assign x e) n s k xs h has fit self rest = action_scoped l [] None (behind (UWhat-F.Assign x e) n s k) (Store x) (value e (env_of l.locations l.frame.slots)) (λ v is. refl)
  what_asks (UWhat-F.NextAssign x e) n s k xs h has fit self rest =
      let w = UWhat-F.NextAssign x e in
      choose (ActionScoped l [] None (behind w n s k)) l.frame.halfway Wait (action (StoreFirst x) (value e (env_of l.locations l.frame.slots))) tt (action_scoped l [] None (behind w n s k) (StoreFirst x) (value e (env_of l.locations l.frame.slots)) (λ v is. tt))
  what_asks (UWhat-F.AssignNext x y) n s k xs h has fit self rest =
      choose (ActionScoped l [] None (behind (UWhat-F.AssignNext x y) n s k)) l.frame.halfway (Store x (env_of l.locations l.frame.slots y)) Wait refl tt
  what_asks (UWhat-F.Get x i) n s k xs h has fit self rest = refl
  what_asks (UWhat-F.If e a b) n s k xs h has fit self rest =
      let next : Successor → List Item = behind (UWhat-F.If e a b) n s k in
      let w = and_parts (all_scoped l.program (unit_of l) a xs) (all_scoped l.program (unit_of l) b xs) (second_holds (reads_right (unit_of l) xs e) (all_scoped l.program (unit_of l) a xs && all_scoped l.program (unit_of l) b xs) h) in
      action_scoped l [] None next (λ v. Go (cond (is_zero v) Second First)) (value e (env_of l.locations l.frame.slots))
      (λ v is. choose (λ (z : Successor). ItemsScoped l.program (unit_of l) (Has l) [] (next z)) (is_zero v) Second First
      (body_scoped l.program (unit_of l) (Has l) b (n + 1 + numbering.size_all a) xs [] k w.1 (λ x i. inl (has x i)) rest)
      (body_scoped l.program (unit_of l) (Has l) a (n + 1) xs [] k w.0 (λ x i. inl (has x i)) rest))
  what_asks (UWhat-F.While e a) n s k xs h has fit self rest =
      let next : Successor → List Item = behind (UWhat-F.While e a) n s k in
      action_scoped l [] None next (λ v. Go (cond (is_zero v) On First)) (value e (env_of l.locations l.frame.slots))
      (λ v is. choose (λ (z : Successor). ItemsScoped l.program (unit_of l) (Has l) [] (next z)) (is_zero v) On First rest
      (body_scoped l.program (unit_of l) (Has l) a (n + 1) xs [] (Do n s ∷ k) (second_holds (reads_right (unit_of l) xs e) (all_scoped l.program (unit_of l) a xs) h) (λ x i. inl (has x i)) self))
  what_asks (UWhat-F.For a e st b) n s k xs h has fit self rest =
      let next : Successor → List Item = behind (UWhat-F.For a e st b) n s k in
      let w = and_parts (all_scoped l.program (unit_of l) st xs) (all_scoped l.program (unit_of l) b xs) (second_holds (option_right (unit_of l) xs e) (all_scoped l.program (unit_of l) st xs && all_scoped l.program (unit_of l) b xs) h) in
      action_scoped l [] None next (λ v. Go (cond (is_zero v) On First)) (value_or (pos 1) e (env_of l.locations l.frame.slots))
      (λ v is. choose (λ (z : Successor). ItemsScoped l.program (unit_of l) (Has l) [] (next z)) (is_zero v) On First rest
      (body_scoped l.program (unit_of l) (Has l) b (n + 1) xs [] (items_all st (n + 1 + numbering.size_all b) ++ Do n s ∷ k) w.1 (λ x i. inl (has x i))
      (body_scoped l.program (unit_of l) (Has l) st (n + 1 + numbering.size_all b) xs [] (Do n s ∷ k) w.0 (λ x i. inl (has x i)) self)))
  what_asks (UWhat-F.Call c) n s k xs h has fit self rest =
      let w = UWhat-F.Call c in
      action_scoped l [] None (behind w n s k) (λ given. limited (is_deep l || is_full l) (Enter c.unit given (passed_labels (statement_view l) c.throws)))
      (arguments l.locations l.frame.slots (unit_in (statement_view l) c.unit).params c.args)
      (λ given is. limited_scoped l [] None (behind w n s k) (is_deep l || is_full l) (Enter c.unit given (passed_labels (statement_view l) c.throws)) (let g = call_given l c given xs has h fit is in (refl, g.0, g.1)))
  what_asks (UWhat-F.Try a x y b) n s k xs h has fit self rest =
      let w = UWhat-F.Try a x y b in
      let own = second_holds (all_fit l.program (unit_of l) a) (is_own_variable (unit_of l) y && all_fit l.program (unit_of l) b) fit in
      limited_scoped l [] y (behind w n s k) (is_full l) (Install x (try_name (unit_in (statement_view l) l.frame.unit) x) y) (
        refl,
        refl,
        first_holds (is_own_variable (unit_of l) y) (all_fit l.program (unit_of l) b) own,
        body_scoped l.program (unit_of l) (Has l) a (n + 1) xs [] (Leave ∷ k) (and_parts (all_scoped l.program (unit_of l) a xs) (all_scoped l.program (unit_of l) b (some_slot y ++ xs)) h).0 (λ z i. inl (has z i)) rest,
      )
  what_asks (UWhat-F.Next x) n s k xs h has fit self rest = tt
  what_asks (UWhat-F.Put o e) n s k xs h has fit self rest = tt
  what_asks (UWhat-F.Block a) n s k xs h has fit self rest = tt
  what_asks (UWhat-F.Throw x e) n s k xs h has fit self rest = tt
  what_asks (UWhat-F.Par bs) n s k xs h has fit self rest = tt

  item_asks : (todo : List Item) → ItemsFit l.program (unit_of l) todo → ItemsScoped l.program (unit_of l) (Has l) [] todo
      → ActionScoped l (next_declares l.program (unit_of l) todo) (next_takes todo) (λ successor. followed successor todo) (stmt_action (next_stmt todo) (statement_view l))
  item_asks [] fit h = tt
  item_asks (Leave ∷ k) fit h = tt
  item_asks (Do n s ∷ k) fit h =
      let same : scoped l.program (unit_of l) s ≡ scoped_kind l.program (unit_of l) (out-UWhat s.what) = scoped_out l.program (unit_of l) s in
      subst (λ (c : Scoped). ActionScoped l c.declares (what_takes (out-UWhat s.what)) (λ successor. followed successor (Do n s ∷ k)) (what_action (out-UWhat s.what) (statement_view l))) (sym same)
      (what_asks (out-UWhat s.what) n s k h.0.slots h.0.right (λ x a. elim (h.0.known x a) [ inl b ↦ b | inr b ↦ none_among x b ]) (sym (fits_out l.program (unit_of l) s) ∙ fit.0) h
      (subst (λ (c : Scoped). ItemsScoped l.program (unit_of l) (Has l) (c.declares ++ []) k) same h.1))

next_asks : (l : LocalState) → HasLocations l → ActionScoped l (next_declares l.program (unit_of l) l.frame.todo) (next_takes l.frame.todo) (λ successor. followed successor l.frame.todo) (next_action l)
unfolding next_action
next_asks l h =
    let f : FrameScoped l.program l.locations l.frame = inner_scoped l.program l.locations l.frame l.callers h.frames in
    item_asks l l.frame.todo f.fit.todo f.todo

-- each step

-- other locations, of which none is lost
pub covered_has : (l : LocalState) (ys : Locations) → Covers l.locations ys → HasLocations l → HasLocations (record l { locations = ys })
covered_has l ys c h = record { own = h.own; units = h.units; frames = frames_covered l.program l.locations ys l.frame l.callers c h.frames }

value_there : (v : ℤ) (o : Option Location) (x : Location) → o ≡ Some x → IsThere (with_value v o)
value_there v None x e = absurd (cc e)
value_there v (Some y) x e = (record y { value = stored y.ty v }, refl)

pub stored_covers : (x : ℕ) (v : ℤ) (l : LocalState) → Covers l.locations (stored_in x v l).locations
unfolding store_at
stored_covers x v l = covers_set l.locations (number_of l.frame.slots x) (with_value v (at_number l.locations (number_of l.frame.slots x))) (λ y e. value_there v (at_number l.locations (number_of l.frame.slots x)) y e)

pub stored_has : (x : ℕ) (v : ℤ) (l : LocalState) → HasLocations l → HasLocations (stored_in x v l)
stored_has x v l h = covered_has l (stored_in x v l).locations (stored_covers x v l) h

pub gone_on_has : (l : LocalState) → HasLocations l → next_declares l.program (unit_of l) l.frame.todo ≡ [] → HasLocations (gone On l)
unfolding gone
gone_on_has l h none =
    let f : FrameScoped l.program l.locations l.frame = inner_scoped l.program l.locations l.frame l.callers h.frames in
    settled_has l.callers _ l h.own h.units (frames_on l.program l.locations l.frame _ l.callers (waiting l.program l.locations l.frame l.callers h.frames) (went_on_scoped l.program l.locations l.frame f none))

half_has : (l : LocalState) → HasLocations l → HasLocations (record l { frame = half l.frame })
half_has l h =
    let f : FrameScoped l.program l.locations l.frame = inner_scoped l.program l.locations l.frame l.callers h.frames in
    let g : FrameScoped l.program l.locations (half l.frame) = record { fit = record { todo = f.fit.todo; places = f.fit.places; slots = f.fit.slots }; slots = f.slots; todo = f.todo; places = f.places; room = f.room } in
    record { own = h.own; units = h.units; frames = framed l.program l.locations (half l.frame) l.callers g (waiting l.program l.locations l.frame l.callers h.frames) }

trapped_has : (kind : Trap) (line : ℕ) (l : LocalState) → HasLocations l → HasLocations (trapped kind line l)
trapped_has kind line l h = record { own = h.own; units = h.units; frames = h.frames }

-- a declaration gives its variable a location

declared_on : (program : Form) (u : UnitOf) (A B : ℕ → Type 0) (x : ℕ) (todo : List Item) → next_declares program u todo ≡ x ∷ [] → ((y : ℕ) → A y → B y) → B x → ItemsScoped program u A [] todo → ItemsScoped program u B [] (followed On todo)
declared_on program u A B x [] top f here h = tt
declared_on program u A B x (Leave ∷ k) top f here h = absurd (cc top)
declared_on program u A B x (Do n s ∷ k) top f here h =
    subst (ItemsScoped program u B []) (sym (goes_on program 0 (out-UWhat s.what) n s k))
    (more_known program u A B (x ∷ []) [] k f (λ y a. elim (among_cases x [] y a) [ inl same ↦ inl (subst B same here) | inr b ↦ none_among y b ]) (subst (λ t. ItemsScoped program u A (t ++ []) k) top h.1))

made_has : (t : Ty) (x : ℕ) (v : ℤ) (l : LocalState) → HasLocations l → next_declares l.program (unit_of l) l.frame.todo ≡ x ∷ [] → is_own_slot (unit_of l) x ≡ true → HasLocations (gone On (made_in t x v l))
made_has t x v l h top own =
    let m : LocalState = made_in t x v l in
    let place : ℕ = number_of l.frame.slots x in
    let new : Location = new_location l.path l.made (number_of (unit_at l.program l.frame.unit).slot_names x) t v in
    let c : Covers l.locations (made_in t x v l).locations = covers_set l.locations (number_of l.frame.slots x) (Some (new_location l.path l.made (number_of (unit_at l.program l.frame.unit).slot_names x) t v)) (λ y e. (new, refl)) in
    let f : FrameScoped l.program l.locations l.frame = inner_scoped l.program l.locations l.frame l.callers h.frames in
    let later = covered_has l (made_in t x v l).locations c h in
    let g : FrameScoped l.program (made_in t x v l).locations l.frame = inner_scoped l.program (made_in t x v l).locations l.frame l.callers later.frames in
    gone_has On m h.own h.units g.fit (rest_of l.program (made_in t x v l).locations l.frame g)
    (declared_on l.program (unit_of l) (Has l) (HasLocation (unit_of l) (made_in t x v l).locations l.frame.slots) x l.frame.todo top (λ y k. has_covered (unit_of l) l.locations (made_in t x v l).locations l.frame.slots y c k)
    (λ number. (new, set_there l.locations place new (f.room x own))) f.todo)
    (waiting l.program (made_in t x v l).locations l.frame l.callers later.frames)

-- a unit is entered

called_has : (unit : ℕ) (given : List Argument) (labels : List ℕ) (l : LocalState) → HasLocations l → next_declares l.program (unit_of l) l.frame.todo ≡ [] → GivenThere l.locations (unit_at l.program unit).params given → length given ≡ length (unit_at l.program unit).params
    → HasLocations (called unit given labels l)
unfolding called pushed
called_has unit given labels l h none there many =
    let m : LocalState = pushed unit given labels l in
    let u : UnitOf = unit_at l.program unit in
    let xs : Locations = l.locations in
    let passed : Locations = call_locations l.path l.locations l.made given in
    let more : Locations = call_locations l.path l.locations l.made given ++ empties (declared_slots (unit_at l.program unit)) in
    let ys : Locations = l.locations ++ (call_locations l.path l.locations l.made given ++ empties (declared_slots (unit_at l.program unit))) in
    let slots : List ℕ = call_slots (length l.locations) given (declared_slots (unit_at l.program unit)) in
    let f : Frame = entered u unit slots labels (length l.locations) (l.frame.outer + length l.frame.places) in
    let long : length ys ≡ length xs + (length passed + length (declared_slots u)) =
    length-append xs more ∙ ap (λ n. length xs + n) (length-append passed (empties (declared_slots u)) ∙ ap (λ n. length passed + n) (empties_many (declared_slots u))) in
    let params = call_params (length l.locations) xs ys l.path l.made (unit_at l.program unit).params given (declared_slots (unit_at l.program unit)) there (λ n x e. at_before xs more n x e)
    (has_less ys (length xs) passed (empties (declared_slots u)) (has_behind xs more)) in
    let front : take (length l.locations) (l.locations ++ (call_locations l.path l.locations l.made given ++ empties (declared_slots (unit_at l.program unit)))) ≡ l.locations = take-append-le (length xs) xs more (omega arith) ∙ take_all (length xs) xs (omega arith) in
    settled_has (l.frame ∷ l.callers) f m h.own h.units (
      entered_scoped l.program unit ys slots labels (length l.locations) (l.frame.outer + length l.frame.places) h.own h.units (call_many (length l.locations) given l.program unit h.units many) params
          (λ x own. (called_slot (length xs) u given x many own, let k = call_room (length xs) l.path xs l.made given u x many own in omega (arith, k, long))),
      omega (arith, long),
      none,
      subst (λ zs. FramesScoped l.program zs l.frame l.callers) (sym front) h.frames,
    )

-- a place comes into force, with this variable
installed_rest : (program : Form) (xs : Locations) (x name : ℕ) (z : Option HandlerVariable) (f : Frame) → FrameScoped program xs f → next_declares program (unit_at program f.unit) f.todo ≡ [] → next_takes f.todo ≡ slot_taken z → Rest program xs (installed x name z f)
installed_rest program xs x name z f h none taken =
    let e : ExceptionPlace = record { exception = x; name = name; line = line_of f.todo; variable = z; todo = f.todo } in
    record { slots = h.slots; places = places_more program (unit_at program f.unit) (HasLocation (unit_at program f.unit) xs f.slots) f.places e h.places h.todo none taken; room = h.room }

installed_has : (x name : ℕ) (y : Option ℕ) (l : LocalState) → HasLocations l → next_declares l.program (unit_of l) l.frame.todo ≡ [] → next_takes l.frame.todo ≡ y → is_own_variable (unit_of l) y ≡ true → ItemsScoped l.program (unit_of l) (Has l) [] (followed First l.frame.todo)
    → HasLocations (gone First (installing x name y l))
installed_has x name None l h none taken own next =
    let f : FrameScoped l.program l.locations l.frame = inner_scoped l.program l.locations l.frame l.callers h.frames in
    let k : LocalState = installing x name None l in
    gone_has First k h.own h.units (installed_fits l.program 0 x name None l.frame tt f.fit) (installed_rest l.program l.locations x name None l.frame f none taken) next (waiting l.program l.locations l.frame l.callers h.frames)
installed_has x name (Some y) l h none taken own next =
    let f : FrameScoped l.program l.locations l.frame = inner_scoped l.program l.locations l.frame l.callers h.frames in
    let k : LocalState = installing x name (Some y) l in
    let z : Option HandlerVariable = Some (variable_in y l) in
    gone_has First k h.own h.units (installed_fits l.program 0 x name z l.frame own f.fit) (installed_rest l.program l.locations x name z l.frame f none taken) next (waiting l.program l.locations l.frame l.callers h.frames)

done_has : (d : Action) (l : LocalState) → HasLocations l → ActionScoped l (next_declares l.program (unit_of l) l.frame.todo) (next_takes l.frame.todo) (λ successor. followed successor l.frame.todo) d → HasLocations (done d l)
done_has (Go successor) l h next =
    let f : FrameScoped l.program l.locations l.frame = inner_scoped l.program l.locations l.frame l.callers h.frames in
    gone_has successor l h.own h.units f.fit (rest_of l.program l.locations l.frame f) next (waiting l.program l.locations l.frame l.callers h.frames)
done_has (Store x v) l h none = gone_on_has (stored_in x v l) (stored_has x v l h) none
done_has (StoreFirst x v) l h next = half_has (stored_in x v l) (stored_has x v l h)
done_has (Make t x v) l h (top, own) = made_has t x v l h top own
done_has (Read x) l h none =
    let w = stored_has x (next_byte l.input_at l.input) l h in
    gone_on_has (read_in x l) (record { own = w.own; units = w.units; frames = w.frames }) none
done_has (Enter unit given labels) l h (none, there, many) = called_has unit given labels l h none there many
done_has (Install x name y) l h (none, taken, own, next) = installed_has x name y l h none taken own next
done_has (Trapped t) l h next = trapped_has t (line_of l.frame.todo) l h
done_has Wait l h next = h

pub quiet_has : (l : LocalState) → HasLocations l → HasLocations (quiet l)
unfolding quiet
quiet_has l h = done_has (next_action l) l h (next_asks l h)

-- a throw

after_throw_has : (r : Value) (l : LocalState) → HasLocations l → HasLocations (after_throw r l)
after_throw_has (Ok v) l h = h
after_throw_has (Err t) l h = trapped_has t (line_of l.frame.todo) l h

pub thrown_has : (l : LocalState) → HasLocations l → HasLocations (throw_evaluated l)
unfolding throw_evaluated
thrown_has l h = after_throw_has (thrown_value l) l h

-- a rendezvous

-- what such a statement declares
stmt_none : (l : LocalState) (n : ℕ) (s : UStmt) (k : List Item) (w : UWhat-F UWhat UStmt) → out-UWhat s.what ≡ w → (scoped_kind l.program (unit_of l) w).declares ≡ [] → next_declares l.program (unit_of l) (Do n s ∷ k) ≡ []
stmt_none l n s k w is none = ap (λ (c : Scoped). c.declares) (scoped_out l.program (unit_of l) s) ∙ ap (λ z. (scoped_kind l.program (unit_of l) z).declares) is ∙ none

what_receives : (w : UWhat-F UWhat UStmt) (v : ℤ) (l : LocalState) → HasLocations l → ((scoped_kind l.program (unit_of l) w).declares ≡ [] → next_declares l.program (unit_of l) l.frame.todo ≡ []) → HasLocations (what_receive w v l)
what_receives (UWhat-F.Next x) v l h none = gone_on_has (stored_in x v l) (stored_has x v l h) (none refl)
what_receives (UWhat-F.NextAssign x e) v l h none = gone_on_has (stored_in x v l) (stored_has x v l h) (none refl)
what_receives (UWhat-F.AssignNext x y) v l h none = half_has (stored_in y v l) (stored_has y v l h)
what_receives _ v l h none = h

items_receive : (todo : List Item) (v : ℤ) (l : LocalState) → l.frame.todo ≡ todo → HasLocations l → HasLocations (stmt_receive (next_stmt todo) v l)
items_receive [] v l is h = h
items_receive (Leave ∷ k) v l is h = h
items_receive (Do n s ∷ k) v l is h =
    what_receives (out-UWhat s.what) v l h (λ none. ap (next_declares l.program (unit_of l)) is ∙ stmt_none l n s k (out-UWhat s.what) refl none)

pub receive_has : (l : LocalState) (v : ℤ) → HasLocations l → HasLocations (receive l v)
unfolding receive
receive_has l v h = items_receive l.frame.todo v l refl h

-- a put, at one

after_put_has : (r : Value) (l : LocalState) → next_declares l.program (unit_of l) l.frame.todo ≡ [] → HasLocations l → HasLocations (after_put r l)
after_put_has (Ok v) l none h = gone_on_has l h none
after_put_has (Err t) l none h = trapped_has t (line_of l.frame.todo) l h

pub put_has : (l : LocalState) → next_declares l.program (unit_of l) l.frame.todo ≡ [] → HasLocations l → HasLocations (put l)
unfolding put
put_has l none h = after_put_has (put_value l) l none h

pub fork_trapped_has : (l m : LocalState) → fork l ≡ TrappedFork m → HasLocations l → HasLocations m
fork_trapped_has l m e h = let w = fork_trapped l m e in subst HasLocations (sym w.2) (trapped_has w.0 w.1 l h)
