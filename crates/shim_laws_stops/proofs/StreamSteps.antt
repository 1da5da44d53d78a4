-- A stream stays with a process after each of its steps that isn't a fork, and so do the units that take it.
use Rattle.std.proofs.Common.{◌≡◌, ◌∙◌, ℕ, ◌-◌, ℤ, pos, Bool, true, false, ◌||◌, List, [], ◌∷◌, take, map, Option, Some, None, Result, Ok, Err, cond, nat_lt, refl, sym, ap, subst}
use Rattle.std.specs.Prelude.{slice_get}
use Rattle.shim_base.specs.declared.operators.Trap.{Trap}
use Rattle.shim_base.specs.declared.operators.Trap.TheVariants.{Depth}
use Rattle.shim_base.specs.Operators.{is_zero}
use Rattle.shim_local.specs.Process.{Trapped as TrappedFork}
use Rattle.shim_units.specs.declared.form.Form.{Form}
use Rattle.shim_units.specs.declared.unit.UStmt.{UStmt}
use Rattle.shim_units.specs.declared.unit.UWhat.{UWhat, UWhat-F, out-UWhat}
use Rattle.shim_process.specs.Values.{Value, value}
use Rattle.shim_process.specs.Todo.{Item, Do, Leave, Successor, On, First, Second, followed, next_stmt}
use Rattle.shim_process.specs.declared.handler_variable.HandlerVariable.{HandlerVariable}
use Rattle.shim_process.specs.LocalState.{LocalState, Frame, ExceptionPlace, unit_at, env_of, is_full, is_deep}
use Rattle.shim_process.specs.StatementViews.{statement_view, unit_in, passed_labels}
use Rattle.shim_process.specs.Arguments.{Argument, arguments}
use Rattle.shim_process.specs.Ends.{without_last, past_ends, went, is_over, settled, gone}
use Rattle.shim_process.specs.Unwinding.{handling, taking, catching, unwound, unwind}
use Rattle.shim_process.specs.Forks.{fork}
use Rattle.shim_process.specs.Steps.{Action, Go, Store, StoreFirst, Make, Read, Enter, Install, Trapped, Wait, action, limited, value_or, try_name, what_action, stmt_action, next_action, stored_in, made_in, read_on, read_in, installing, pushed, called, done, quiet}
use Rattle.shim_process.specs.Stops.{put_value, after_put, put, thrown_value, after_throw, throw_evaluated, what_receive, stmt_receive, receive}
use Rattle.shim_process.proofs.CallKeeps.{fork_trapped}
use Rattle.shim_base.proofs.Facts.{choose}
use Rattle.shim_laws_stops.specs.InScope.{AllInScope}
use Rattle.shim_laws_stops.specs.FrameLocations.{item_right, ItemsScoped, FrameScoped, HasLocations}
use Rattle.shim_laws_stops.specs.StreamHolders.{Stream, TheInput, TheOutput, holds_stream, has_stream, takes, HasOneSlot, UnitsTake, waiting_units, last_unit, first_unit, IsTaking, HoldsStream}
use Rattle.shim_laws_stops.proofs.LocationSteps.{Has}
use Rattle.shim_laws_stops.proofs.StreamUnits.{Hands, call_hands}
use Rattle.shim_laws_stops.proofs.ScopeFrames.{inner_scoped}

abbrev pub units_of : List Frame → List ℕ
units_of cs = map (λ (f : Frame). f.unit) cs

past_unit : (k : List Item) (places : List ExceptionPlace) (f : Frame) → (past_ends k places f).unit ≡ f.unit
past_unit [] places f = refl
past_unit (Leave ∷ k) places f = past_unit k (without_last places) f
past_unit (Do n s ∷ k) places f = refl

went_unit : (successor : Successor) (f : Frame) → (went successor f).unit ≡ f.unit
unfolding went
went_unit successor f = past_unit (followed successor f.todo) f.places (record f { halfway = false })

handling_unit : (o : Option ExceptionPlace) (i : ℕ) (f : Frame) → (handling o i f).unit ≡ f.unit
handling_unit None i f = refl
handling_unit (Some e) i f = went_unit Second (record f { todo = e.todo; places = take i f.places })

-- who reads on has the stream as before
read_keeps : (stream : Stream) (at : Option ℕ) (input : List ℕ) (holds : Bool) → holds_stream stream (read_on at input) holds ≡ holds_stream stream at holds
read_keeps TheInput None input holds = refl
read_keeps TheInput (Some n) input holds = refl
read_keeps TheOutput at input holds = refl

module _ (stream : Stream) where
  pub head_one : (program : Form) (n : ℕ) (ms : List ℕ) → UnitsTake stream program n ms → HasOneSlot stream (unit_at program n)
  head_one program n [] h = h
  head_one program n (m ∷ ms) h = h.0

  -- where a unit takes the stream the one that the process entered first does
  pub takes_first : (program : Form) (n : ℕ) (ms : List ℕ) → UnitsTake stream program n ms → takes stream program n ≡ true → takes stream program (last_unit n ms) ≡ true
  takes_first program n [] h t = t
  takes_first program n (m ∷ ms) h t = takes_first program m ms h.2 (h.1 t)

  -- A later state of a process, of which this unit is the innermost and those wait for it: it has the stream as before, and units that take it as they should.
  pub record Moved (l : LocalState) (n : ℕ) (ms : List ℕ) (m : LocalState) : Type 0 where
    pub taking : IsTaking stream m
    pub holds : has_stream stream m ≡ has_stream stream l
    pub first : first_unit m ≡ last_unit n ms
    pub program : m.program ≡ l.program

  abbrev pub Moves : LocalState → LocalState → Type 0
  Moves l m = Moved l l.frame.unit (waiting_units l) m

  pub settled_moves : (cs : List Frame) (f : Frame) (l : LocalState) → UnitsTake stream l.program f.unit (units_of cs) → Moved l f.unit (units_of cs) (settled cs f l)
  settled_moves [] f l h = record { taking = h; holds = refl; first = refl; program = refl }
  settled_moves (c ∷ cs) f l h =
      let out : LocalState = record l { locations = take f.floor l.locations } in
      let same : (went On c).unit ≡ c.unit = went_unit On c in
      let rest : Moved out (went On c).unit (units_of cs) (settled cs (went On c) out) = settled_moves cs (went On c) out (subst (λ n. UnitsTake stream l.program n (units_of cs)) (sym same) h.2) in
      choose (λ (z : LocalState). Moved l f.unit (units_of (c ∷ cs)) z) (is_over f.todo) (settled cs (went On c) out) (record l { frame = f; callers = c ∷ cs })
      (record { taking = rest.taking; holds = rest.holds; first = rest.first ∙ ap (λ n. last_unit n (units_of cs)) same; program = rest.program })
      (record { taking = h; holds = refl; first = refl; program = refl })

  same_moved : (l m : LocalState) (n k : ℕ) (ms : List ℕ) → k ≡ n → Moved l k ms m → Moved l n ms m
  same_moved l m n k ms e w = record { taking = w.taking; holds = w.holds; first = w.first ∙ ap (λ i. last_unit i ms) e; program = w.program }

  pub gone_moves : (successor : Successor) (l : LocalState) → IsTaking stream l → Moves l (gone successor l)
  unfolding gone
  gone_moves successor l h =
      let same = went_unit successor l.frame in
      same_moved l (settled l.callers (went successor l.frame) l) l.frame.unit (went successor l.frame).unit (waiting_units l) same
      (settled_moves l.callers (went successor l.frame) l (subst (λ n. UnitsTake stream l.program n (waiting_units l)) (sym same) h))

  taken_moves : (y : Option HandlerVariable) (v : ℤ) (f g : Frame) (cs : List Frame) (l : LocalState) → UnitsTake stream l.program g.unit (units_of cs) → Moved l g.unit (units_of cs) (settled cs g (taking y v f l))
  taken_moves None v f g cs l h = settled_moves cs g l h
  taken_moves (Some y) v f g cs l h =
      let m : LocalState = taking (Some y) v f l in
      let w : Moved m g.unit (units_of cs) (settled cs g m) = settled_moves cs g m h in
      record { taking = w.taking; holds = w.holds; first = w.first; program = w.program }

  caught_moves : (o : Option ExceptionPlace) (v : ℤ) (f g : Frame) (cs : List Frame) (l : LocalState) → UnitsTake stream l.program g.unit (units_of cs) → Moved l g.unit (units_of cs) (settled cs g (catching o v f l))
  caught_moves None v f g cs l h = settled_moves cs g l h
  caught_moves (Some p) v f g cs l h = taken_moves p.variable v f g cs l h

  handled : (cs : List Frame) (f : Frame) (i : ℕ) (v : ℤ) (l : LocalState) → UnitsTake stream l.program f.unit (units_of cs) → Moved l f.unit (units_of cs) (settled cs (handling (slice_get f.places i) i f) (catching (slice_get f.places i) v f l))
  handled cs f i v l h =
      let g : Frame = handling (slice_get f.places i) i f in
      let same = handling_unit (slice_get f.places i) i f in
      same_moved l (settled cs g (catching (slice_get f.places i) v f l)) f.unit g.unit (units_of cs) same
      (caught_moves (slice_get f.places i) v f g cs l (subst (λ n. UnitsTake stream l.program n (units_of cs)) (sym same) h))

  unwound_moves : (cs : List Frame) (f : Frame) (n : ℕ) (v : ℤ) (l : LocalState) → UnitsTake stream l.program f.unit (units_of cs) → Moved l f.unit (units_of cs) (unwound cs f n v l)
  unwound_moves [] f n v l h = handled [] f (n - f.outer) v l h
  unwound_moves (c ∷ cs) f n v l h =
      let o : Option ExceptionPlace = slice_get f.places (n - f.outer) in
      let g : Frame = handling o (n - f.outer) f in
      let out : LocalState = record l { locations = take f.floor l.locations } in
      let rest : Moved out c.unit (units_of cs) (unwound cs c n v out) = unwound_moves cs c n v out h.2 in
      choose (λ (z : LocalState). Moved l f.unit (units_of (c ∷ cs)) z) (nat_lt n f.outer) (unwound cs c n v out) (settled (c ∷ cs) g (catching o v f l))
      (record { taking = rest.taking; holds = rest.holds; first = rest.first; program = rest.program })
      (handled (c ∷ cs) f (n - f.outer) v l h)

  pub unwind_moves : (l : LocalState) (label : ℕ) (v : ℤ) → IsTaking stream l → Moves l (unwind l label v)
  unfolding unwind
  unwind_moves l label v h = unwound_moves l.callers l.frame (label - l.base) v l h

  -- quiet steps

  -- a unit that is entered takes the stream where the one that calls it does
  abbrev ActionHands : LocalState → Action → Type 0
  ActionHands l (Enter unit given labels) = Hands stream l.program l.frame.unit unit
  ActionHands l _ = Unit {0}

  action_hands : {A : Type 0} (l : LocalState) (f : A → Action) (r : Result A Trap) → ((v : A) → ActionHands l (f v)) → ActionHands l (action f r)
  action_hands l f (Ok v) h = h v
  action_hands l f (Err t) h = tt

  limited_hands : (l : LocalState) (over : Bool) (d : Action) → ActionHands l d → ActionHands l (limited over d)
  limited_hands l over d h = choose (ActionHands l) over (Trapped Depth) d tt h

  what_hands : (w : UWhat-F UWhat UStmt) (l : LocalState) (xs : List ℕ) → AllInScope l.program → HasOneSlot stream (unit_at l.program l.frame.unit) → item_right l.program (unit_at l.program l.frame.unit) w xs ≡ true → ActionHands l (what_action w (statement_view l))
  what_hands (UWhat-F.Declare t x e) l xs units one h = action_hands l (λ v. limited (is_full l) (Make t x v)) (value_or (pos 0) e (env_of l.locations l.frame.slots)) (λ v. limited_hands l (is_full l) (Make t x v) tt)
  what_hands (UWhat-F.Assign x e) l xs units one h = action_hands l (Store x) (value e (env_of l.locations l.frame.slots)) (λ v. tt)
  what_hands (UWhat-F.NextAssign x e) l xs units one h =
      choose (ActionHands l) l.frame.halfway Wait (action (StoreFirst x) (value e (env_of l.locations l.frame.slots))) tt (action_hands l (StoreFirst x) (value e (env_of l.locations l.frame.slots)) (λ v. tt))
  what_hands (UWhat-F.AssignNext x y) l xs units one h = choose (ActionHands l) l.frame.halfway (Store x (env_of l.locations l.frame.slots y)) Wait tt tt
  what_hands (UWhat-F.If e a b) l xs units one h = action_hands l (λ v. Go (cond (is_zero v) Second First)) (value e (env_of l.locations l.frame.slots)) (λ v. tt)
  what_hands (UWhat-F.While e a) l xs units one h = action_hands l (λ v. Go (cond (is_zero v) On First)) (value e (env_of l.locations l.frame.slots)) (λ v. tt)
  what_hands (UWhat-F.For a e st b) l xs units one h = action_hands l (λ v. Go (cond (is_zero v) On First)) (value_or (pos 1) e (env_of l.locations l.frame.slots)) (λ v. tt)
  what_hands (UWhat-F.Call c) l xs units one h =
      action_hands l (λ given. limited (is_deep l || is_full l) (Enter c.unit given (passed_labels (statement_view l) c.throws))) (arguments l.locations l.frame.slots (unit_in (statement_view l) c.unit).params c.args)
      (λ given. limited_hands l (is_deep l || is_full l) (Enter c.unit given (passed_labels (statement_view l) c.throws)) (call_hands stream l.program l.frame.unit xs c units one h))
  what_hands (UWhat-F.Try a x y b) l xs units one h = limited_hands l (is_full l) (Install x (try_name (unit_in (statement_view l) l.frame.unit) x) y) tt
  what_hands _ l xs units one h = tt

  item_hands : (todo : List Item) (l : LocalState) → AllInScope l.program → HasOneSlot stream (unit_at l.program l.frame.unit) → ItemsScoped l.program (unit_at l.program l.frame.unit) (Has l) [] todo → ActionHands l (stmt_action (next_stmt todo) (statement_view l))
  item_hands [] l units one h = tt
  item_hands (Leave ∷ k) l units one h = tt
  item_hands (Do n s ∷ k) l units one h = what_hands (out-UWhat s.what) l h.0.slots units one h.0.right

  next_hands : (l : LocalState) → HasLocations l → IsTaking stream l → ActionHands l (next_action l)
  unfolding next_action
  next_hands l h t =
      let f : FrameScoped l.program l.locations l.frame = inner_scoped l.program l.locations l.frame l.callers h.frames in
      item_hands l.frame.todo l h.units (head_one l.program l.frame.unit (waiting_units l) t) f.todo

  moves_none : (l : LocalState) → IsTaking stream l → Moves l l
  moves_none l h = record { taking = h; holds = refl; first = refl; program = refl }

  -- another state of the same units with the same stream goes on
  again : (l k m : LocalState) → has_stream stream k ≡ has_stream stream l → k.program ≡ l.program → k.frame.unit ≡ l.frame.unit → waiting_units k ≡ waiting_units l → Moves k m → Moves l m
  again l k m holds program unit units w = record { taking = w.taking; holds = w.holds ∙ holds; first = w.first ∙ (λ i. last_unit (unit i) (units i)); program = w.program ∙ program }

  called_moves : (unit : ℕ) (given : List Argument) (labels : List ℕ) (l : LocalState) → IsTaking stream l → Hands stream l.program l.frame.unit unit → Moves l (called unit given labels l)
  unfolding called pushed
  called_moves unit given labels l h hands =
      let m : LocalState = pushed unit given labels l in
      let w = settled_moves (l.frame ∷ l.callers) m.frame m (hands.one, hands.takes_too, h) in
      record { taking = w.taking; holds = w.holds; first = w.first; program = w.program }

  done_moves : (d : Action) (l : LocalState) → IsTaking stream l → ActionHands l d → Moves l (done d l)
  done_moves (Go successor) l h n = gone_moves successor l h
  done_moves (Store x v) l h n = again l (stored_in x v l) (gone On (stored_in x v l)) refl refl refl refl (gone_moves On (stored_in x v l) h)
  done_moves (StoreFirst x v) l h n = record { taking = h; holds = refl; first = refl; program = refl }
  done_moves (Make t x v) l h n = again l (made_in t x v l) (gone On (made_in t x v l)) refl refl refl refl (gone_moves On (made_in t x v l) h)
  done_moves (Read x) l h n = again l (read_in x l) (gone On (read_in x l)) (read_keeps stream l.input_at l.input l.holds_output) refl refl refl (gone_moves On (read_in x l) h)
  done_moves (Enter unit given labels) l h n = called_moves unit given labels l h n
  done_moves (Install x name None) l h n = let k : LocalState = installing x name None l in again l k (gone First k) refl refl refl refl (gone_moves First k h)
  done_moves (Install x name (Some y)) l h n = let k : LocalState = installing x name (Some y) l in again l k (gone First k) refl refl refl refl (gone_moves First k h)
  done_moves (Trapped t) l h n = record { taking = h; holds = refl; first = refl; program = refl }
  done_moves Wait l h n = moves_none l h

  pub quiet_moves : (l : LocalState) → HasLocations l → IsTaking stream l → Moves l (quiet l)
  unfolding quiet
  quiet_moves l h t = done_moves (next_action l) l t (next_hands l h t)

  after_put_moves : (r : Value) (l : LocalState) → IsTaking stream l → Moves l (after_put r l)
  after_put_moves (Ok v) l h = gone_moves On l h
  after_put_moves (Err t) l h = record { taking = h; holds = refl; first = refl; program = refl }

  pub put_moves : (l : LocalState) → IsTaking stream l → Moves l (put l)
  unfolding put
  put_moves l h = after_put_moves (put_value l) l h

  after_throw_moves : (r : Value) (l : LocalState) → IsTaking stream l → Moves l (after_throw r l)
  after_throw_moves (Ok v) l h = moves_none l h
  after_throw_moves (Err t) l h = record { taking = h; holds = refl; first = refl; program = refl }

  pub thrown_moves : (l : LocalState) → IsTaking stream l → Moves l (throw_evaluated l)
  unfolding throw_evaluated
  thrown_moves l h = after_throw_moves (thrown_value l) l h

  what_moves : (w : UWhat-F UWhat UStmt) (v : ℤ) (l : LocalState) → IsTaking stream l → Moves l (what_receive w v l)
  what_moves (UWhat-F.Next x) v l h = again l (stored_in x v l) (gone On (stored_in x v l)) refl refl refl refl (gone_moves On (stored_in x v l) h)
  what_moves (UWhat-F.NextAssign x e) v l h = again l (stored_in x v l) (gone On (stored_in x v l)) refl refl refl refl (gone_moves On (stored_in x v l) h)
  what_moves (UWhat-F.AssignNext x y) v l h = record { taking = h; holds = refl; first = refl; program = refl }
  what_moves _ v l h = moves_none l h

  stmt_moves : (o : Option UStmt) (v : ℤ) (l : LocalState) → IsTaking stream l → Moves l (stmt_receive o v l)
  stmt_moves None v l h = moves_none l h
  stmt_moves (Some stmt) v l h = what_moves (out-UWhat stmt.what) v l h

  pub receive_moves : (l : LocalState) (v : ℤ) → IsTaking stream l → Moves l (receive l v)
  unfolding receive
  receive_moves l v h = stmt_moves (next_stmt l.frame.todo) v l h

  pub fork_trapped_moves : (l m : LocalState) → fork l ≡ TrappedFork m → IsTaking stream l → Moves l m
  fork_trapped_moves l m e h = let w = fork_trapped l m e in subst (λ (z : LocalState). Moves l z) (sym w.2) (record { taking = h; holds = refl; first = refl; program = refl })

  -- so a process that has the stream where it should has it later

  pub holds_later : (l m : LocalState) → HoldsStream stream l → HasLocations m → Moves l m → HoldsStream stream m
  holds_later l m h named w = record {
    named = named;
    taking = w.taking;
    holds = λ t. w.holds ∙ h.holds ((λ i. takes stream (sym w.program i) (sym w.first i)) ∙ t);
  }
