-- What stands after a fork: the parent and the children.
use Rattle.std.proofs.Common.{◌≡◌, ℕ, ◌+◌, Bool, true, false, ◌||◌, cond, List, [], ◌∷◌, Option, Some, None, Result, Ok, Err, refl, ◌∙◌}
use Rattle.shim_base.specs.declared.operators.Trap.{Trap}
use Rattle.shim_base.specs.declared.operators.Trap.TheVariants.{Depth}
use Rattle.shim_local.specs.Process.{AtQuiet, AtFork, Parted, Trapped}
use Rattle.shim_local.specs.Laws.{AllOf, Forks}
use Rattle.shim_units.specs.declared.unit.UBranch.{UBranch}
use Rattle.shim_units.specs.declared.unit.UStmt.{UStmt}
use Rattle.shim_units.specs.declared.unit.UWhat.{UWhat, UWhat-F, out-UWhat}
use Rattle.shim_process.specs.Locations.{Location}
use Rattle.shim_process.specs.LocalState.{LocalState, TrappedAt, location_of, is_full, trapped}
use Rattle.shim_process.specs.StatementViews.{StatementView, statement_view}
use Rattle.shim_process.specs.Todo.{next_stmt}
use Rattle.shim_process.specs.Arguments.{Argument}
use Rattle.shim_process.specs.Steps.{line_of}
use Rattle.shim_process.specs.Stops.{at_next, at_put, what_stop, stmt_stop, stop_or, stop}
use Rattle.shim_process.specs.Forks.{what_branches, stmt_branches, item_branches, all_arguments, child, children_from, lending, parent, is_far, fork_result, fork}
use Rattle.shim_process.specs.Ops.{process_ops}
use Rattle.shim_process.proofs.ForkLending.{Suit, all_suit}

-- the parent and the children of a fork that parted
pub record Parts (l p : LocalState) (ks : List LocalState) : Type 0 where
  pub given : List (List Argument)
  pub computed : all_arguments l (item_branches l.frame.todo) ≡ Ok given
  pub suit : Suit l.frame.slots l.program (item_branches l.frame.todo) given
  pub parent_is : p ≡ parent l (item_branches l.frame.todo)
  pub children_are : ks ≡ children_from l 0 (item_branches l.frame.todo) given
  pub at : stop l ≡ AtFork

pub first_part : (m p : LocalState) (ns ks : List LocalState) → Parted m ns ≡ Parted p ks → p ≡ m
first_part m p ns ks e = cc

pub second_part : (m p : LocalState) (ns ks : List LocalState) → Parted m ns ≡ Parted p ks → ks ≡ ns
second_part m p ns ks e = cc

pub trapped_parts : {A : Type 0} (m p : LocalState) (ks : List LocalState) → Trapped m ≡ Parted p ks → A
trapped_parts m p ks e = absurd cc

pub of_refusal : (l p : LocalState) (ks : List LocalState) (given : List (List Argument)) (bs : List UBranch) (refused : Bool)
    → cond refused (Trapped (trapped Depth (line_of l.frame.todo) l)) (Parted (parent l bs) (children_from l 0 bs given)) ≡ Parted p ks → Parted (parent l bs) (children_from l 0 bs given) ≡ Parted p ks
of_refusal l p ks given bs true e = trapped_parts (trapped Depth (line_of l.frame.todo) l) p ks e
of_refusal l p ks given bs false e = e

of_arguments : (l p : LocalState) (ks : List LocalState) (bs : List UBranch) (r : Result (List (List Argument)) Trap) → fork_result r l bs ≡ Parted p ks
    → (given : List (List Argument)) × (r ≡ Ok given) × (p ≡ parent l bs) × (ks ≡ children_from l 0 bs given)
of_arguments l p ks bs (Ok given) e =
    let h = of_refusal l p ks given bs (is_far l || is_full l) e in
    (given, refl, first_part (parent l bs) p (children_from l 0 bs given) ks h, second_part (parent l bs) p (children_from l 0 bs given) ks h)
of_arguments l p ks bs (Err t) e = trapped_parts (trapped t (line_of l.frame.todo) l) p ks e

fork_parts : (l p : LocalState) (ks : List LocalState) → fork l ≡ Parted p ks
    → (given : List (List Argument)) × (all_arguments l (item_branches l.frame.todo) ≡ Ok given) × (p ≡ parent l (item_branches l.frame.todo)) × (ks ≡ children_from l 0 (item_branches l.frame.todo) given)
unfolding fork
fork_parts l p ks e = of_arguments l p ks (item_branches l.frame.todo) (all_arguments l (item_branches l.frame.todo)) e

pub parts_of : (l p : LocalState) (ks : List LocalState) → Forks process_ops l p ks → Parts l p ks
parts_of l p ks h =
    let w = fork_parts l p ks h.1 in
    record {
      given = w.0;
      computed = w.1;
      suit = all_suit l (item_branches l.frame.todo) w.0 w.1;
      parent_is = w.2;
      children_are = w.3;
      at = h.0;
    }

-- at what the parent stands

next_not_fork : {A : Type 0} (o : Option Location) → at_next o ≡ AtFork → A
next_not_fork None e = absurd cc
next_not_fork (Some x) e = absurd cc

put_not_fork : {A : Type 0} (b : Bool) → at_put b ≡ AtFork → A
put_not_fork true e = absurd cc
put_not_fork false e = absurd cc

next_or_quiet : {A : Type 0} (b : Bool) (o : Option Location) → cond b (at_next o) AtQuiet ≡ AtFork → A
next_or_quiet true o e = next_not_fork o e
next_or_quiet false o e = absurd cc

quiet_or_next : {A : Type 0} (b : Bool) (o : Option Location) → cond b AtQuiet (at_next o) ≡ AtFork → A
quiet_or_next true o e = absurd cc
quiet_or_next false o e = next_not_fork o e

still_there : (w : UWhat-F UWhat UStmt) (s t : StatementView) → what_stop w s ≡ AtFork → what_stop w t ≡ AtFork
still_there (UWhat-F.Next x) s t e = next_not_fork (location_of s.locations s.slots x) e
still_there (UWhat-F.NextAssign x v) s t e = next_or_quiet s.halfway (location_of s.locations s.slots x) e
still_there (UWhat-F.AssignNext x y) s t e = quiet_or_next s.halfway (location_of s.locations s.slots y) e
still_there (UWhat-F.Put o v) s t e = put_not_fork s.holds_output e
still_there (UWhat-F.Throw x v) s t e = absurd cc
still_there (UWhat-F.Par bs) s t e = e
still_there _ s t e = absurd cc

still_at_stmt : (o : Option UStmt) (s t : StatementView) → stmt_stop o s ≡ AtFork → stmt_stop o t ≡ AtFork
still_at_stmt None s t e = absurd cc
still_at_stmt (Some stmt) s t e = still_there (out-UWhat stmt.what) s t e

still_at : (trap : Option TrappedAt) (o : Option UStmt) (s t : StatementView) → stop_or trap (stmt_stop o s) ≡ AtFork → stop_or trap (stmt_stop o t) ≡ AtFork
still_at None o s t e = still_at_stmt o s t e
still_at (Some trap) o s t e = absurd cc

pub parent_stands : (l m : LocalState) → m.trap ≡ l.trap → m.frame ≡ l.frame → stop l ≡ AtFork → stop m ≡ AtFork
unfolding stop
parent_stands l m traps frames e =
    (λ i. stop_or (traps i) (stmt_stop (next_stmt (frames i).todo) (statement_view m)))
    ∙ still_at l.trap (next_stmt l.frame.todo) (statement_view l) (statement_view m) e

-- a process stands at a fork of some branches

what_some : (w : UWhat-F UWhat UStmt) (s : StatementView) → what_stop w s ≡ AtFork → what_branches w ≡ [] → ⊥
what_some (UWhat-F.Next x) s e h = next_not_fork (location_of s.locations s.slots x) e
what_some (UWhat-F.NextAssign x v) s e h = next_or_quiet s.halfway (location_of s.locations s.slots x) e
what_some (UWhat-F.AssignNext x y) s e h = quiet_or_next s.halfway (location_of s.locations s.slots y) e
what_some (UWhat-F.Put o v) s e h = put_not_fork s.holds_output e
what_some (UWhat-F.Throw x v) s e h = cc
what_some (UWhat-F.Par []) s e h = cc
what_some (UWhat-F.Par (b ∷ bs)) s e h = cc
what_some _ s e h = cc

stmt_some : (o : Option UStmt) (s : StatementView) → stmt_stop o s ≡ AtFork → stmt_branches o ≡ [] → ⊥
stmt_some None s e h = cc
stmt_some (Some stmt) s e h = what_some (out-UWhat stmt.what) s e h

stop_some : (trap : Option TrappedAt) (o : Option UStmt) (s : StatementView) → stop_or trap (stmt_stop o s) ≡ AtFork → stmt_branches o ≡ [] → ⊥
stop_some None o s e h = stmt_some o s e h
stop_some (Some trap) o s e h = cc

pub branches_there : (l : LocalState) → stop l ≡ AtFork → item_branches l.frame.todo ≡ [] → ⊥
unfolding stop
branches_there l e h = stop_some l.trap (next_stmt l.frame.todo) (statement_view l) e h

-- a fact of each child
pub each_child : (P I : LocalState → Type 0) → ((l : LocalState) (b : UBranch) → I l → I (lending l b)) → ((l : LocalState) (i : ℕ) (b : UBranch) (given : List Argument) → I l → P (child l i b given))
    → (l : LocalState) (i : ℕ) (bs : List UBranch) (given : List (List Argument)) → I l → AllOf P (children_from l i bs given)
each_child P I on one l i [] given h = tt
each_child P I on one l i (b ∷ bs) [] h = tt
each_child P I on one l i (b ∷ bs) (g ∷ gs) h = (one l i b g h, each_child P I on one (lending l b) (i + 1) bs gs (on l b h))
