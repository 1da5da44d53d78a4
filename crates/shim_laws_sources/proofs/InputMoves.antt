-- Whether a process has the input, before and after each of its calls.
use Rattle.std.proofs.Common.{◌≡◌, ◌∙◌, ℕ, ◌-◌, ℤ, Bool, true, ◌⊎◌, inl, inr, List, [], ◌∷◌, take, Option, Some, None, Ok, Err, nat_lt, refl, sym, ap}
use Rattle.std.specs.Prelude.{slice_get}
use Rattle.shim_local.specs.Process.{Trapped as TrappedFork}
use Rattle.shim_local.specs.Laws.{AnyOf}
use Rattle.shim_units.specs.declared.unit.UStmt.{UStmt}
use Rattle.shim_units.specs.declared.unit.UWhat.{UWhat, UWhat-F, out-UWhat}
use Rattle.shim_process.specs.Values.{Value}
use Rattle.shim_process.specs.Todo.{Successor, On, First, next_stmt}
use Rattle.shim_process.specs.declared.handler_variable.HandlerVariable.{HandlerVariable}
use Rattle.shim_process.specs.LocalState.{LocalState, Frame, ExceptionPlace}
use Rattle.shim_process.specs.Arguments.{Argument}
use Rattle.shim_process.specs.Ends.{went, is_over, settled, gone}
use Rattle.shim_process.specs.Forks.{fork, some_or, input_back, joined, join}
use Rattle.shim_process.specs.Steps.{Action, Go, Store, StoreFirst, Make, Read, Enter, Install, Trapped, Wait, next_action, stored_in, made_in, read_on, read_in, installing, pushed, called, done, quiet}
use Rattle.shim_process.specs.Stops.{put_value, after_put, put, thrown_value, after_throw, throw_evaluated, what_receive, stmt_receive, receive}
use Rattle.shim_process.specs.Unwinding.{handling, taking, catching, unwound, unwind}
use Rattle.shim_process.proofs.CallKeeps.{fork_trapped}
use Rattle.shim_laws_sources.specs.Sources.{is_place, holds_input}
use Rattle.shim_base.proofs.Facts.{choose}

settled_input : (cs : List Frame) (f : Frame) (l : LocalState) → (settled cs f l).input_at ≡ l.input_at
settled_input [] f l = refl
settled_input (c ∷ cs) f l =
    let out : LocalState = record l { locations = take f.floor l.locations } in
    choose (λ (z : LocalState). z.input_at ≡ l.input_at) (is_over f.todo) (settled cs (went On c) out) (record l { frame = f; callers = c ∷ cs }) (settled_input cs (went On c) out) refl

gone_input : (successor : Successor) (l : LocalState) → (gone successor l).input_at ≡ l.input_at
unfolding gone
gone_input successor l = settled_input l.callers (went successor l.frame) l

taking_input : (o : Option HandlerVariable) (v : ℤ) (f : Frame) (l : LocalState) → (taking o v f l).input_at ≡ l.input_at
taking_input None v f l = refl
taking_input (Some y) v f l = refl

catching_input : (o : Option ExceptionPlace) (v : ℤ) (f : Frame) (l : LocalState) → (catching o v f l).input_at ≡ l.input_at
catching_input None v f l = refl
catching_input (Some p) v f l = taking_input p.variable v f l

unwound_input : (cs : List Frame) (f : Frame) (n : ℕ) (v : ℤ) (l : LocalState) → (unwound cs f n v l).input_at ≡ l.input_at
unwound_input [] f n v l = catching_input (slice_get f.places (n - f.outer)) v f l
unwound_input (c ∷ cs) f n v l =
    let o : Option ExceptionPlace = slice_get f.places (n - f.outer) in
    let g : Frame = handling o (n - f.outer) f in
    let out : LocalState = record l { locations = take f.floor l.locations } in
    choose (λ (z : LocalState). z.input_at ≡ l.input_at) (nat_lt n f.outer) (unwound cs c n v out) (settled (c ∷ cs) g (catching o v f l)) (unwound_input cs c n v out)
    (settled_input (c ∷ cs) g (catching o v f l) ∙ catching_input o v f l)

-- to read on doesn't lose it
read_place : (at : Option ℕ) (input : List ℕ) → is_place (read_on at input) ≡ is_place at
read_place None input = refl
read_place (Some n) input = refl

called_input : (unit : ℕ) (given : List Argument) (labels : List ℕ) (l : LocalState) → (called unit given labels l).input_at ≡ l.input_at
unfolding called pushed
called_input unit given labels l = let m : LocalState = pushed unit given labels l in settled_input m.callers m.frame m

installing_input : (x name : ℕ) (y : Option ℕ) (l : LocalState) → (installing x name y l).input_at ≡ l.input_at
installing_input x name None l = refl
installing_input x name (Some y) l = refl

done_input : (d : Action) (l : LocalState) → holds_input (done d l) ≡ holds_input l
done_input (Go successor) l = ap is_place (gone_input successor l)
done_input (Store x v) l = ap is_place (gone_input On (stored_in x v l))
done_input (StoreFirst x v) l = refl
done_input (Make t x v) l = ap is_place (gone_input On (made_in t x v l))
done_input (Read x) l = ap is_place (gone_input On (read_in x l)) ∙ read_place l.input_at l.input
done_input (Enter unit given labels) l = ap is_place (called_input unit given labels l)
done_input (Install x name y) l = ap is_place (gone_input First (installing x name y l) ∙ installing_input x name y l)
done_input (Trapped t) l = refl
done_input Wait l = refl

pub quiet_input : (l : LocalState) → holds_input (quiet l) ≡ holds_input l
unfolding quiet
quiet_input l = done_input (next_action l) l

after_put_input : (r : Value) (l : LocalState) → holds_input (after_put r l) ≡ holds_input l
after_put_input (Ok v) l = ap is_place (gone_input On l)
after_put_input (Err t) l = refl

pub put_input : (l : LocalState) → holds_input (put l) ≡ holds_input l
unfolding put
put_input l = after_put_input (put_value l) l

what_input : (w : UWhat-F UWhat UStmt) (v : ℤ) (l : LocalState) → holds_input (what_receive w v l) ≡ holds_input l
what_input (UWhat-F.Next x) v l = ap is_place (gone_input On (stored_in x v l))
what_input (UWhat-F.NextAssign x e) v l = ap is_place (gone_input On (stored_in x v l))
what_input (UWhat-F.AssignNext x y) v l = refl
what_input _ v l = refl

stmt_input : (o : Option UStmt) (v : ℤ) (l : LocalState) → holds_input (stmt_receive o v l) ≡ holds_input l
stmt_input None v l = refl
stmt_input (Some stmt) v l = what_input (out-UWhat stmt.what) v l

pub receive_input : (l : LocalState) (v : ℤ) → holds_input (receive l v) ≡ holds_input l
unfolding receive
receive_input l v = stmt_input (next_stmt l.frame.todo) v l

after_throw_input : (r : Value) (l : LocalState) → holds_input (after_throw r l) ≡ holds_input l
after_throw_input (Ok v) l = refl
after_throw_input (Err t) l = refl

pub thrown_input : (l : LocalState) → holds_input (throw_evaluated l) ≡ holds_input l
unfolding throw_evaluated
thrown_input l = after_throw_input (thrown_value l) l

pub unwind_input : (l : LocalState) (label : ℕ) (v : ℤ) → holds_input (unwind l label v) ≡ holds_input l
unfolding unwind
unwind_input l label v = ap is_place (unwound_input l.callers l.frame (label - l.base) v l)

-- a fork that traps
pub trapped_input : (l m : LocalState) → fork l ≡ TrappedFork m → holds_input m ≡ holds_input l
trapped_input l m e = let w = fork_trapped l m e in ap (λ (z : LocalState). holds_input z) w.2

-- what comes back at a join was with the process or with a child
one_back : (o at : Option ℕ) → is_place (some_or o at) ≡ true → (is_place at ≡ true) ⊎ (is_place o ≡ true)
one_back None at e = inl e
one_back (Some n) at e = inr refl

all_back : (ks : List LocalState) (at : Option ℕ) → is_place (input_back ks at) ≡ true → (is_place at ≡ true) ⊎ AnyOf (λ (k : LocalState). holds_input k ≡ true) ks
all_back [] at e = inl e
all_back (k ∷ ks) at e = elim (all_back ks (some_or k.input_at at) e) [
  | inl h ↦ elim (one_back k.input_at at h) [ inl first ↦ inl first | inr second ↦ inr (inl second) ]
  | inr h ↦ inr (inr h)
]

pub join_input : (l : LocalState) (ks : List LocalState) (goes_on : Bool) → holds_input (join l ks goes_on) ≡ true → (holds_input l ≡ true) ⊎ AnyOf (λ (k : LocalState). holds_input k ≡ true) ks
unfolding join
join_input l ks goes_on e =
    let same : (join l ks goes_on).input_at ≡ input_back ks l.input_at =
    choose (λ (z : LocalState). z.input_at ≡ input_back ks l.input_at) goes_on (gone On (joined l ks)) (joined l ks) (gone_input On (joined l ks)) refl in
    all_back ks l.input_at (ap is_place (sym same) ∙ e)
