-- A process has its labels after each of its steps that isn't a fork.
use Rattle.std.proofs.Common.{◌≡◌, ◌∙◌, ◌≤◌, ℕ, ◌+◌, ℤ, pos, Bool, true, ◌&&◌, ◌||◌, inl, List, [], ◌∷◌, ◌++◌, length, Option, Some, None, Result, Ok, Err, cond, refl, sym, subst}
use Rattle.std.proofs.lemmas.List.{append-nil}
use Rattle.shim_base.specs.declared.operators.Trap.{Trap}
use Rattle.shim_base.specs.declared.operators.Trap.TheVariants.{Depth}
use Rattle.shim_base.specs.Operators.{is_zero}
use Rattle.shim_local.specs.Process.{Trapped as TrappedFork}
use Rattle.shim_units.specs.declared.unit.Unit.{Unit as UnitOf}
use Rattle.shim_units.specs.declared.unit.UStmt.{UStmt}
use Rattle.shim_units.specs.declared.unit.UWhat.{UWhat, UWhat-F, out-UWhat}
use Rattle.shim_units.specs.Units.{upto}
use Rattle.shim_units.specs.Numbering as numbering
use Rattle.shim_process.specs.Values.{Value, value}
use Rattle.shim_process.specs.Todo.{Item, Do, Leave, Successor, On, First, Second, items_all, follow_what, followed, next_stmt}
use Rattle.shim_process.specs.LocalState.{LocalState, Frame, ExceptionPlace, unit_at, env_of, is_full, is_deep, trapped}
use Rattle.shim_process.specs.StatementViews.{statement_view, unit_in, passed_labels}
use Rattle.shim_process.specs.Arguments.{Argument, arguments, entered, call_slots, declared_slots}
use Rattle.shim_process.specs.Ends.{gone, settled}
use Rattle.shim_process.specs.Forks.{fork}
use Rattle.shim_process.specs.Steps.{Action, Go, Store, StoreFirst, Make, Read, Enter, Install, Trapped, Wait, action, limited, value_or, try_name, what_action, stmt_action, next_action, line_of, stored_in, made_in, read_in, half, variable_in, installing, pushed, called, done, quiet}
use Rattle.shim_process.specs.Stops.{put_value, after_put, put, thrown_value, after_throw, throw_evaluated, what_receive, stmt_receive, receive}
use Rattle.shim_process.proofs.CallKeeps.{fork_trapped}
use Rattle.shim_base.proofs.Facts.{choose, second_holds}
use Rattle.shim_laws_stops.specs.InForce.{all_throw, AllInForce}
use Rattle.shim_laws_stops.specs.FrameLabels.{AreInScope, ThrowsKnown, ItemsThrow, FrameLabels, HasLabels}
use Rattle.shim_laws_stops.proofs.Among.{under_upto}
use Rattle.shim_laws_stops.proofs.ThrowItems.{throws_layer, throws_out, body_throws, first_of_if, first_of_for, first_of_try, places_more}
use Rattle.shim_laws_stops.proofs.FrameSteps.{Given, given_of, inner_labels, waiting, framed, Moves, moves_none, settled_moves, gone_moves, gone_on_moves}
use Rattle.shim_laws_stops.proofs.KnownLabels.{PassesOn, passes_on}

-- what a statement asks for leaves of the unit what throws what is known; after it comes what this function says
abbrev ActionThrows : LocalState → (Successor → List Item) → Action → Type 0
ActionThrows l next (Go successor) = ItemsThrow l.program (unit_at l.program l.frame.unit).throws l.frame.places (next successor)
ActionThrows l next (Enter unit given labels) = PassesOn l.program unit labels
ActionThrows l next (Install x name y) = (e : ExceptionPlace) → e.exception ≡ x → ItemsThrow l.program (unit_at l.program l.frame.unit).throws (l.frame.places ++ e ∷ []) (next First)
ActionThrows l next _ = Unit {0}

action_throws : {A : Type 0} (l : LocalState) (next : Successor → List Item) (f : A → Action) (r : Result A Trap) → ((v : A) → ActionThrows l next (f v)) → ActionThrows l next (action f r)
action_throws l next f (Ok v) h = h v
action_throws l next f (Err t) h = tt

limited_throws : (l : LocalState) (next : Successor → List Item) (over : Bool) (d : Action) → ActionThrows l next d → ActionThrows l next (limited over d)
limited_throws l next over d h = choose (ActionThrows l next) over (Trapped Depth) d tt h

abbrev behind : UWhat-F UWhat UStmt → ℕ → UStmt → List Item → Successor → List Item
behind w n s k successor = follow_what w successor n s k

module _ (l : LocalState) (least : 1 ≤ l.base) (g : Given l.program l.frame) where
  abbrev given : ℕ
  given = (unit_at l.program l.frame.unit).throws

  abbrev places : List ExceptionPlace
  places = l.frame.places

  what_asks : (w : UWhat-F UWhat UStmt) (n : ℕ) (s : UStmt) (k : List Item) (xs : List ℕ) → throws_layer l.program w xs ≡ true → AreInScope given places xs → ThrowsKnown l.program given places s → ItemsThrow l.program given places k
      → ActionThrows l (behind w n s k) (what_action w (statement_view l))
  what_asks (UWhat-F.Declare t x e) n s k xs h known own rest =
      action_throws l (behind (UWhat-F.Declare t x e) n s k) (λ v. limited (is_full l) (Make t x v)) (value_or (pos 0) e (env_of l.locations l.frame.slots)) (λ v. limited_throws l (behind (UWhat-F.Declare t x e) n s k) (is_full l) (Make t x v) tt)
  what_asks (UWhat-F.Assign x e) n s k xs h known own rest = action_throws l (behind (UWhat-F.Assign x e) n s k) (Store x) (value e (env_of l.locations l.frame.slots)) (λ v. tt)
  what_asks (UWhat-F.NextAssign x e) n s k xs h known own rest =
      choose (ActionThrows l (behind (UWhat-F.NextAssign x e) n s k)) l.frame.halfway Wait (action (StoreFirst x) (value e (env_of l.locations l.frame.slots))) tt (action_throws l (behind (UWhat-F.NextAssign x e) n s k) (StoreFirst x) (value e (env_of l.locations l.frame.slots)) (λ v. tt))
  what_asks (UWhat-F.AssignNext x y) n s k xs h known own rest = choose (ActionThrows l (behind (UWhat-F.AssignNext x y) n s k)) l.frame.halfway (Store x (env_of l.locations l.frame.slots y)) Wait tt tt
  what_asks (UWhat-F.If e a b) n s k xs h known own rest =
      let next : Successor → List Item = behind (UWhat-F.If e a b) n s k in
      action_throws l next (λ v. Go (cond (is_zero v) Second First)) (value e (env_of l.locations l.frame.slots))
      (λ v. choose (λ (z : Successor). ItemsThrow l.program given places (next z)) (is_zero v) Second First
      (body_throws l.program given b (n + 1 + numbering.size_all a) xs places k (second_holds (all_throw l.program a xs) (all_throw l.program b xs) h) known rest)
      (first_of_if l.program given places a b n k xs h known rest))
  what_asks (UWhat-F.While e a) n s k xs h known own rest =
      let next : Successor → List Item = behind (UWhat-F.While e a) n s k in
      action_throws l next (λ v. Go (cond (is_zero v) On First)) (value e (env_of l.locations l.frame.slots))
      (λ v. choose (λ (z : Successor). ItemsThrow l.program given places (next z)) (is_zero v) On First rest
      (body_throws l.program given a (n + 1) xs places (Do n s ∷ k) h known (own, rest)))
  what_asks (UWhat-F.For a e st b) n s k xs h known own rest =
      let next : Successor → List Item = behind (UWhat-F.For a e st b) n s k in
      action_throws l next (λ v. Go (cond (is_zero v) On First)) (value_or (pos 1) e (env_of l.locations l.frame.slots))
      (λ v. choose (λ (z : Successor). ItemsThrow l.program given places (next z)) (is_zero v) On First rest
      (first_of_for l.program given places a st b n s k xs h known (own, rest)))
  what_asks (UWhat-F.Call c) n s k xs h known own rest =
      action_throws l (behind (UWhat-F.Call c) n s k) (λ given. limited (is_deep l || is_full l) (Enter c.unit given (passed_labels (statement_view l) c.throws)))
      (arguments l.locations l.frame.slots (unit_in (statement_view l) c.unit).params c.args)
      (λ v. limited_throws l (behind (UWhat-F.Call c) n s k) (is_deep l || is_full l) (Enter c.unit v (passed_labels (statement_view l) c.throws)) (passes_on l given xs c least g.many g.labels known h))
  what_asks (UWhat-F.Try a x y b) n s k xs h known own rest =
      limited_throws l (behind (UWhat-F.Try a x y b) n s k) (is_full l) (Install x (try_name (unit_in (statement_view l) l.frame.unit) x) y)
      (λ e is. first_of_try l.program given places e a b n k xs (subst (λ z. (all_throw l.program a (z ∷ xs) && all_throw l.program b xs) ≡ true) (sym is) h) known rest)
  what_asks _ n s k xs h known own rest = tt

  item_asks : (todo : List Item) → ItemsThrow l.program given places todo → ActionThrows l (λ successor. followed successor todo) (stmt_action (next_stmt todo) (statement_view l))
  item_asks [] h = tt
  item_asks (Leave ∷ k) h = tt
  item_asks (Do n s ∷ k) h = what_asks (out-UWhat s.what) n s k h.0.exceptions (sym (throws_out l.program s h.0.exceptions) ∙ h.0.right) h.0.known h.0 h.1

next_asks : (l : LocalState) → 1 ≤ l.base → HasLabels l → ActionThrows l (λ successor. followed successor l.frame.todo) (next_action l)
unfolding next_action
next_asks l least h =
    let f : FrameLabels l.program l.frame = inner_labels l.program l.frame l.callers h.frames in
    item_asks l least (given_of l.program l.frame f) l.frame.todo f.todo

-- each step

pub again : (l k m : LocalState) → k.base ≡ l.base → k.program ≡ l.program → Moves k m → Moves l m
again l k m base program w = record { labels = w.labels; base = w.base ∙ base; program = w.program ∙ program }

half_labels : (l : LocalState) → HasLabels l → HasLabels (record l { frame = half l.frame })
half_labels l h =
    let f : FrameLabels l.program l.frame = inner_labels l.program l.frame l.callers h.frames in
    record { units = h.units; frames = framed l.program (half l.frame) l.callers (record { todo = f.todo; places = f.places; many = f.many; labels = f.labels }) (waiting l.program l.frame l.callers h.frames) }

-- a unit at its first statement, with these labels
pub entered_labels : (l : LocalState) (unit : ℕ) (slots labels : List ℕ) (floor outer : ℕ) → AllInForce l.program → PassesOn l.program unit labels → FrameLabels l.program (entered (unit_at l.program unit) unit slots labels floor outer)
entered_labels l unit slots labels floor outer units p =
    let u : UnitOf = unit_at l.program unit in
    record {
      todo = subst (ItemsThrow l.program u.throws []) (append-nil (items_all u.body 0)) (body_throws l.program u.throws u.body 0 (upto u.throws) [] [] (units unit) (λ x a. inl (under_upto u.throws x a)) tt);
      places = λ i e is. absurd (cc is);
      many = p.many;
      labels = p.labels;
    }

called_moves : (unit : ℕ) (given : List Argument) (labels : List ℕ) (l : LocalState) → HasLabels l → PassesOn l.program unit labels → Moves l (called unit given labels l)
unfolding called pushed
called_moves unit given labels l h p =
    let m : LocalState = pushed unit given labels l in
    let u : UnitOf = unit_at l.program unit in
    let f : Frame = entered u unit (call_slots (length l.locations) given (declared_slots u)) labels (length l.locations) (l.frame.outer + length l.frame.places) in
    let w : Moves m (settled (l.frame ∷ l.callers) f m) =
    settled_moves (l.frame ∷ l.callers) f m h.units (entered_labels l unit (call_slots (length l.locations) given (declared_slots u)) labels (length l.locations) (l.frame.outer + length l.frame.places) h.units p, refl, h.frames) in
    again l m (settled (l.frame ∷ l.callers) f m) refl refl w

installed_moves : (x name : ℕ) (y : Option ℕ) (l : LocalState) → HasLabels l → ((e : ExceptionPlace) → e.exception ≡ x → ItemsThrow l.program (unit_at l.program l.frame.unit).throws (l.frame.places ++ e ∷ []) (followed First l.frame.todo))
    → Moves l (gone First (installing x name y l))
installed_moves x name None l h next =
    let given : ℕ = (unit_at l.program l.frame.unit).throws in
    let f : FrameLabels l.program l.frame = inner_labels l.program l.frame l.callers h.frames in
    let e : ExceptionPlace = record { exception = x; name = name; line = line_of l.frame.todo; variable = None; todo = l.frame.todo } in
    let k : LocalState = installing x name None l in
    again l k (gone First k) refl refl
    (gone_moves First k h.units (record { many = f.many; labels = f.labels }) (next e refl) (places_more l.program given l.frame.places e f.places f.todo) (waiting l.program l.frame l.callers h.frames))
installed_moves x name (Some y) l h next =
    let given : ℕ = (unit_at l.program l.frame.unit).throws in
    let f : FrameLabels l.program l.frame = inner_labels l.program l.frame l.callers h.frames in
    let e : ExceptionPlace = record { exception = x; name = name; line = line_of l.frame.todo; variable = Some (variable_in y l); todo = l.frame.todo } in
    let k : LocalState = installing x name (Some y) l in
    again l k (gone First k) refl refl
    (gone_moves First k h.units (record { many = f.many; labels = f.labels }) (next e refl) (places_more l.program given l.frame.places e f.places f.todo) (waiting l.program l.frame l.callers h.frames))

done_moves : (d : Action) (l : LocalState) → HasLabels l → ActionThrows l (λ successor. followed successor l.frame.todo) d → Moves l (done d l)
done_moves (Go successor) l h next =
    let f : FrameLabels l.program l.frame = inner_labels l.program l.frame l.callers h.frames in
    gone_moves successor l h.units (given_of l.program l.frame f) next f.places (waiting l.program l.frame l.callers h.frames)
done_moves (Store x v) l h next = again l (stored_in x v l) (gone On (stored_in x v l)) refl refl (gone_on_moves (stored_in x v l) (record { units = h.units; frames = h.frames }))
done_moves (StoreFirst x v) l h next = record { labels = half_labels (stored_in x v l) (record { units = h.units; frames = h.frames }); base = refl; program = refl }
done_moves (Make t x v) l h next = again l (made_in t x v l) (gone On (made_in t x v l)) refl refl (gone_on_moves (made_in t x v l) (record { units = h.units; frames = h.frames }))
done_moves (Read x) l h next = again l (read_in x l) (gone On (read_in x l)) refl refl (gone_on_moves (read_in x l) (record { units = h.units; frames = h.frames }))
done_moves (Enter unit given labels) l h next = called_moves unit given labels l h next
done_moves (Install x name y) l h next = installed_moves x name y l h next
done_moves (Trapped t) l h next = record { labels = record { units = h.units; frames = h.frames }; base = refl; program = refl }
done_moves Wait l h next = moves_none l h

pub quiet_moves : (l : LocalState) → 1 ≤ l.base → HasLabels l → Moves l (quiet l)
unfolding quiet
quiet_moves l least h = done_moves (next_action l) l h (next_asks l least h)

trapped_moves : (kind : Trap) (line : ℕ) (l : LocalState) → HasLabels l → Moves l (trapped kind line l)
trapped_moves kind line l h = record { labels = record { units = h.units; frames = h.frames }; base = refl; program = refl }

after_put_moves : (r : Value) (l : LocalState) → HasLabels l → Moves l (after_put r l)
after_put_moves (Ok v) l h = gone_on_moves l h
after_put_moves (Err t) l h = trapped_moves t (line_of l.frame.todo) l h

pub put_moves : (l : LocalState) → HasLabels l → Moves l (put l)
unfolding put
put_moves l h = after_put_moves (put_value l) l h

after_throw_moves : (r : Value) (l : LocalState) → HasLabels l → Moves l (after_throw r l)
after_throw_moves (Ok v) l h = moves_none l h
after_throw_moves (Err t) l h = trapped_moves t (line_of l.frame.todo) l h

pub thrown_moves : (l : LocalState) → HasLabels l → Moves l (throw_evaluated l)
unfolding throw_evaluated
thrown_moves l h = after_throw_moves (thrown_value l) l h

what_moves : (w : UWhat-F UWhat UStmt) (v : ℤ) (l : LocalState) → HasLabels l → Moves l (what_receive w v l)
what_moves (UWhat-F.Next x) v l h = again l (stored_in x v l) (gone On (stored_in x v l)) refl refl (gone_on_moves (stored_in x v l) (record { units = h.units; frames = h.frames }))
what_moves (UWhat-F.NextAssign x e) v l h = again l (stored_in x v l) (gone On (stored_in x v l)) refl refl (gone_on_moves (stored_in x v l) (record { units = h.units; frames = h.frames }))
what_moves (UWhat-F.AssignNext x y) v l h = record { labels = half_labels (stored_in y v l) (record { units = h.units; frames = h.frames }); base = refl; program = refl }
what_moves _ v l h = moves_none l h

stmt_moves : (o : Option UStmt) (v : ℤ) (l : LocalState) → HasLabels l → Moves l (stmt_receive o v l)
stmt_moves None v l h = moves_none l h
stmt_moves (Some stmt) v l h = what_moves (out-UWhat stmt.what) v l h

pub receive_moves : (l : LocalState) (v : ℤ) → HasLabels l → Moves l (receive l v)
unfolding receive
receive_moves l v h = stmt_moves (next_stmt l.frame.todo) v l h

pub fork_trapped_moves : (l m : LocalState) → fork l ≡ TrappedFork m → HasLabels l → Moves l m
fork_trapped_moves l m e h = let w = fork_trapped l m e in subst (λ (z : LocalState). Moves l z) (sym w.2) (trapped_moves w.0 w.1 l h)
