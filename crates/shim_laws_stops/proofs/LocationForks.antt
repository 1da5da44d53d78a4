-- The processes of a tree have the locations of what they name, through each event.
use Rattle.std.proofs.Common.{◌≡◌, ◌∙◌, ◌≤◌, ◌<◌, inl, inr, ℕ, zero, suc, ◌+◌, ◌-◌, Bool, true, false, List, [], ◌∷◌, ◌++◌, length, Option, Some, None, Ok, refl, sym, ap, subst, arith, length-append}
use Rattle.std.proofs.lemmas.Bool.{and_parts}
use Rattle.std.proofs.lemmas.List.{length-drop}
use Rattle.shim_base.specs.Paths.{Path}
use Rattle.shim_local.specs.Process.{StopView, AtPut, AtFork}
use Rattle.shim_local.specs.Laws.{Forks}
use Rattle.shim_semantics.specs.Nodes.{Node, Nodes, Live, Forked, Ended, Dead, no_node, node_and, all_live, states}
use Rattle.shim_semantics.specs.Places.{at, child_at}
use Rattle.shim_units.specs.declared.form.Form.{Form}
use Rattle.shim_units.specs.declared.unit.Unit.{Unit as UnitOf}
use Rattle.shim_units.specs.declared.unit.UBranch.{UBranch}
use Rattle.shim_units.specs.declared.unit.UStmt.{UStmt}
use Rattle.shim_units.specs.declared.unit.UWhat.{UWhat, UWhat-F, out-UWhat}
use Rattle.shim_process.specs.Locations.{Locations, at_number}
use Rattle.shim_process.specs.Arguments.{Argument, on_value, arguments, branch_locations, declared_slots, empties, numbers_from}
use Rattle.shim_process.specs.Ends.{gone}
use Rattle.shim_process.specs.Forks.{what_branches, item_branches, all_arguments, child, children_from, lending, all_lending, parent, joined, join}
use Rattle.shim_process.specs.LocalState.{LocalState, TrappedAt, unit_at, number_of}
use Rattle.shim_process.specs.Ops.{process_ops}
use Rattle.shim_process.specs.StatementViews.{statement_view, passed_labels}
use Rattle.shim_process.specs.Stops.{what_stop, stmt_stop, stop_or, stop}
use Rattle.shim_process.specs.Todo.{Item, Do, Leave, On, next_stmt}
use Rattle.shim_process.proofs.ForkLending.{from_value, ok_same}
use Rattle.shim_process.specs.OwnSlots as own
use Rattle.shim_process.specs.OwnSlots.{has_arguments}
use Rattle.shim_laws_sources.proofs.Along.{behind, Relates}
use Rattle.shim_process.proofs.CallSlots.{own_slot, from_number, given_many}
use Rattle.shim_process.proofs.ChildChannels.{branch_length}
use Rattle.shim_process.proofs.ForkArguments.{branches_suit}
use Rattle.shim_process.proofs.ForkParts.{Parts, parts_of}
use Rattle.shim_laws_sources.proofs.LendingPlaces.{lent_onward}
use Rattle.shim_laws_sources.proofs.WholeJoins.{all_onward}
use Rattle.shim_base.proofs.Facts.{choose, some_same, none_some}
use Rattle.shim_laws_stops.specs.InScope.{arguments_right, references, distinct, call_right, all_calls_right, are_some, branches_apart, slots_right, Scoped, all_scoped}
use Rattle.shim_laws_stops.specs.FrameLocations.{scoped_kind, item_right, ItemScoped, ItemsScoped, next_declares, FrameScoped, HasLocations}
use Rattle.shim_laws_stops.proofs.Among.{Among, none_among}
use Rattle.shim_laws_stops.proofs.ScopeItems.{scoped_out}
use Rattle.shim_laws_stops.proofs.ScopeFrames.{Covers, covers_onward, inner_scoped, unwind_has}
use Rattle.shim_laws_stops.proofs.ScopeEntries.{GivenThere, given_covered, given_there, HasFrom, has_less, branch_params, empties_many, numbers_many, params_fit, entered_scoped}
use Rattle.shim_laws_stops.proofs.ScopeUnits.{get_below}
use Rattle.shim_laws_stops.proofs.LocationSteps.{Has, covered_has, gone_on_has, quiet_has, put_has, thrown_has, receive_has, fork_trapped_has}

-- each process of the tree has the locations of what it names
abbrev mutual
  pub AllHave : Node LocalState → Type 0
  AllHave (Live l) = HasLocations l
  AllHave (Ended l) = HasLocations l
  AllHave (Dead l x) = HasLocations l
  AllHave (Forked l ks) = HasLocations l × EachHas ks

  pub EachHas : Nodes LocalState → Type 0
  EachHas no_node = Unit {0}
  EachHas (node_and k ks) = AllHave k × EachHas ks

-- where a process stands at a put or at a fork, nothing is declared

waits : StopView → Bool
waits AtPut = true
waits AtFork = true
waits _ = false

module _ (l : LocalState) where
  abbrev u : UnitOf
  u = unit_at l.program l.frame.unit

  what_none : (w : UWhat-F UWhat UStmt) → waits (what_stop w (statement_view l)) ≡ true → (scoped_kind l.program u w).declares ≡ []
  unfolding waits
  what_none (UWhat-F.Declare t x e) h = absurd (cc h)
  what_none (UWhat-F.Assign x e) h = refl
  what_none (UWhat-F.Next x) h = refl
  what_none (UWhat-F.NextAssign x e) h = refl
  what_none (UWhat-F.AssignNext x y) h = refl
  what_none (UWhat-F.Get x i) h = refl
  what_none (UWhat-F.Put o e) h = refl
  what_none (UWhat-F.If e a b) h = refl
  what_none (UWhat-F.While e a) h = refl
  what_none (UWhat-F.For a e st b) h = refl
  what_none (UWhat-F.Block a) h = refl
  what_none (UWhat-F.Call c) h = refl
  what_none (UWhat-F.Try a x y b) h = refl
  what_none (UWhat-F.Throw x e) h = refl
  what_none (UWhat-F.Par bs) h = refl

  items_none : (todo : List Item) → waits (stmt_stop (next_stmt todo) (statement_view l)) ≡ true → next_declares l.program u todo ≡ []
  items_none [] h = refl
  items_none (Leave ∷ k) h = refl
  items_none (Do n s ∷ k) h = ap (λ (c : Scoped). c.declares) (scoped_out l.program u s) ∙ what_none (out-UWhat s.what) h

  trap_none : (t : Option TrappedAt) → waits (stop_or t (stmt_stop (next_stmt l.frame.todo) (statement_view l))) ≡ true → next_declares l.program u l.frame.todo ≡ []
  unfolding waits
  trap_none None h = items_none l.frame.todo h
  trap_none (Some t) h = absurd (cc h)

  stop_none : (v : StopView) → waits v ≡ true → stop l ≡ v → next_declares l.program u l.frame.todo ≡ []
  unfolding stop
  stop_none v h e = trap_none l.trap (ap waits e ∙ h)

  pub fork_none : stop l ≡ AtFork → next_declares l.program u l.frame.todo ≡ []
  unfolding waits
  fork_none e = stop_none AtFork refl e

  pub put_none : stop l ≡ AtPut → next_declares l.program u l.frame.todo ≡ []
  unfolding waits
  put_none e = stop_none AtPut refl e

-- a child

abbrev below : LocalState → ℕ → Path
below l i = l.path ++ (l.forks, i) ∷ []

child_has : (l : LocalState) (i : ℕ) (b : UBranch) (given : List Argument) → HasLocations l → GivenThere l.locations (unit_at l.program b.call.unit).params given → length given ≡ length (unit_at l.program b.call.unit).params → HasLocations (child l i b given)
child_has l i b given h there many =
    let v : UnitOf = unit_at l.program b.call.unit in
    let passed : Locations = branch_locations (below l i) l.locations 0 given in
    let ys : Locations = branch_locations (below l i) l.locations 0 given ++ empties (declared_slots (unit_at l.program b.call.unit)) in
    let right = and_parts (slots_right v.params v.slots) (all_scoped l.program v v.body _) (h.units b.call.unit) in
    let enough : length v.params ≤ length v.slots = params_fit v.params v.slots right.0 in
    let from : HasFrom (branch_locations (below l i) l.locations 0 given ++ empties (declared_slots (unit_at l.program b.call.unit))) 0 (branch_locations (below l i) l.locations 0 given) =
    has_less ys 0 passed (empties (declared_slots v)) (λ j x e. ap (at_number ys) (let same : 0 + j ≡ j = omega arith in same) ∙ e) in
    let number : (x : ℕ) → x < length v.slots → number_of (numbers_from 0 v.slots) x ≡ 0 + x = λ x low. from_number 0 v.slots x low in
    let long : length ys ≡ length given + length (declared_slots v) =
    length-append passed (empties (declared_slots v)) ∙ ap (λ n. n + length (empties (declared_slots v))) (branch_length (below l i) l.locations 0 given) ∙ ap (λ n. length given + n) (empties_many (declared_slots v)) in
    let own : length (declared_slots v) ≡ length v.slots - length v.params = length-drop (length v.params) v.slots in
    record {
      own = h.own;
      units = h.units;
      frames = entered_scoped l.program b.call.unit ys (numbers_from 0 v.slots) (passed_labels (statement_view l) b.call.throws) 0 0 h.own h.units (numbers_many 0 v.slots)
          (λ j p e n.
          let k = branch_params (below l i) l.locations ys 0 0 v.params given there from j p e n in
          let low = get_below v.params j p e in
          (k.0, ap (at_number ys) (number j (omega (arith, low, enough))) ∙ k.1))
          (λ x o.
          let w = own_slot v x o in
          let low = w.1 in
          let e = number x w.1 in
          (omega arith, omega (arith, e, low, long, own, many, enough)));
    }

-- the arguments of all branches

abbrev pub AllGiven : Form → Locations → List UBranch → List (List Argument) → Type 0
AllGiven program xs [] given = Unit {0}
AllGiven program xs (b ∷ bs) [] = Unit {0}
AllGiven program xs (b ∷ bs) (g ∷ gs) = GivenThere xs (unit_at program b.call.unit).params g × (length g ≡ length (unit_at program b.call.unit).params) × AllGiven program xs bs gs

all_given_covered : (program : Form) (xs ys : Locations) (bs : List UBranch) (given : List (List Argument)) → Covers xs ys → AllGiven program xs bs given → AllGiven program ys bs given
all_given_covered program xs ys [] given c h = tt
all_given_covered program xs ys (b ∷ bs) [] c h = tt
all_given_covered program xs ys (b ∷ bs) (g ∷ gs) c h = (given_covered xs ys (unit_at program b.call.unit).params g c h.0, h.1, all_given_covered program xs ys bs gs c h.2)

all_given : (l : LocalState) (xs : List ℕ) (bs : List UBranch) (given : List (List Argument)) → ((x : ℕ) → Among xs x → Has l x) → all_calls_right l.program (unit_at l.program l.frame.unit) xs bs ≡ true → own.all_suit l.program bs ≡ true → all_arguments l bs ≡ Ok given
    → AllGiven l.program l.locations bs given
all_given l xs [] given has right suit e = tt
all_given l xs (b ∷ bs) given has right suit e =
    let u : UnitOf = unit_at l.program l.frame.unit in
    let w = from_value (λ one. on_value (λ others. Ok (one ∷ others)) (all_arguments l bs)) (arguments l.locations l.frame.slots (unit_at l.program b.call.unit).params b.call.args) given e in
    let o = from_value (λ others. Ok (w.0 ∷ others)) (all_arguments l bs) given w.2 in
    let s = and_parts (has_arguments l.program b.call) (own.all_suit l.program bs) suit in
    let r = and_parts (call_right l.program u xs b.call) (all_calls_right l.program u xs bs) right in
    let a = and_parts (arguments_right u xs (unit_at l.program b.call.unit).params b.call.args) (distinct (references b.call.args)) r.0 in
    subst (AllGiven l.program l.locations (b ∷ bs)) (ok_same (w.0 ∷ o.0) given o.2) (
      given_there u l.locations l.frame.slots xs has (unit_at l.program b.call.unit).params b.call.args w.0 w.1 a.0,
      given_many l.program l.locations l.frame.slots b.call w.0 s.0 w.1,
      all_given l xs bs o.0 has r.1 s.1 o.1,
    )

-- what is lent stays where it is

lending_covers : (l : LocalState) (b : UBranch) → Covers l.locations (lending l b).locations
lending_covers l b = covers_onward l.locations (lending l b).locations (lent_onward l.frame.slots (unit_at l.program b.call.unit).params b.call.args l.locations)

lending_has : (l : LocalState) (b : UBranch) → HasLocations l → HasLocations (lending l b)
lending_has l b h = let w = covered_has l (lending l b).locations (lending_covers l b) h in record { own = w.own; units = w.units; frames = w.frames }

all_lending_has : (l : LocalState) (bs : List UBranch) → HasLocations l → HasLocations (all_lending l bs)
all_lending_has l [] h = h
all_lending_has l (b ∷ bs) h = all_lending_has (lending l b) bs (lending_has l b h)

children_have : (l : LocalState) (i : ℕ) (bs : List UBranch) (given : List (List Argument)) → HasLocations l → AllGiven l.program l.locations bs given → EachHas (all_live (children_from l i bs given))
children_have l i [] given h all = tt
children_have l i (b ∷ bs) [] h all = tt
children_have l i (b ∷ bs) (g ∷ gs) h all =
    (child_has l i b g h all.0 all.1, children_have (lending l b) (i + 1) bs gs (lending_has l b h) (all_given_covered l.program l.locations (lending l b).locations bs gs (lending_covers l b) all.2))

-- the branches of a fork name what has its location
record BranchesRight (l : LocalState) (bs : List UBranch) : Type 0 where
  slots : List ℕ
  has : (x : ℕ) → Among slots x → Has l x
  right : all_calls_right l.program (unit_at l.program l.frame.unit) slots bs ≡ true

what_branches_right : (l : LocalState) (w : UWhat-F UWhat UStmt) (xs : List ℕ) → ((x : ℕ) → Among xs x → Has l x) → item_right l.program (unit_at l.program l.frame.unit) w xs ≡ true → BranchesRight l (what_branches w)
what_branches_right l (UWhat-F.Par bs) xs has h =
    let u : UnitOf = unit_at l.program l.frame.unit in
    record { slots = xs; has = has; right = (and_parts (branches_apart bs) (all_calls_right l.program u xs bs) (and_parts (are_some bs) _ h).1).1 }
what_branches_right l _ xs has h = record { slots = []; has = λ x a. none_among x a; right = refl }

no_branches_right : (l : LocalState) → BranchesRight l []
no_branches_right l = record { slots = []; has = λ x a. none_among x a; right = refl }

pub known_here : (l : LocalState) (s : UStmt) → (h : ItemScoped l.program (unit_at l.program l.frame.unit) (Has l) [] s) → (x : ℕ) → Among h.slots x → Has l x
known_here l s h x a = elim (h.known x a) [ inl b ↦ b | inr b ↦ none_among x b ]

items_branches_right : (l : LocalState) (todo : List Item) → ItemsScoped l.program (unit_at l.program l.frame.unit) (Has l) [] todo → BranchesRight l (item_branches todo)
items_branches_right l [] h = no_branches_right l
items_branches_right l (Leave ∷ k) h = no_branches_right l
items_branches_right l (Do n s ∷ k) h = what_branches_right l (out-UWhat s.what) h.0.slots (known_here l s h.0) h.0.right

pub forks_have : (l p : LocalState) (ks : List LocalState) → HasLocations l → Forks process_ops l p ks → HasLocations p × EachHas (all_live ks)
forks_have l p ks h at =
    let bs : List UBranch = item_branches l.frame.todo in
    let w : Parts l p ks = parts_of l p ks at in
    let f : FrameScoped l.program l.locations l.frame = inner_scoped l.program l.locations l.frame l.callers h.frames in
    let r = items_branches_right l l.frame.todo f.todo in
    let suit = branches_suit l.program (unit_at l.program l.frame.unit) l.frame.todo f.fit.todo in
    let given = all_given l r.slots bs w.given r.has r.right suit w.computed in
    let kept = all_lending_has l bs h in
    let after : HasLocations (parent l (item_branches l.frame.todo)) = record { own = kept.own; units = kept.units; frames = kept.frames } in
    (subst HasLocations (sym w.parent_is) after, subst (λ (js : List LocalState). EachHas (all_live js)) (sym w.children_are) (children_have l 0 bs w.given h given))

pub join_has : (l : LocalState) (ks : List LocalState) (goes_on : Bool) → stop l ≡ AtFork → HasLocations l → HasLocations (join l ks goes_on)
unfolding join
join_has l ks goes_on e h =
    let c : Covers l.locations (joined l ks).locations = covers_onward l.locations (joined l ks).locations (all_onward l.frame.slots (item_branches l.frame.todo) ks l.locations) in
    let w = covered_has l (joined l ks).locations c h in
    let back : HasLocations (joined l ks) = record { own = w.own; units = w.units; frames = w.frames } in
    choose HasLocations goes_on (gone On (joined l ks)) (joined l ks) (gone_on_has (joined l ks) back (fork_none l e)) back

-- where the first tree has it the second one has it
abbrev pub KeepsLocations : Node LocalState → Node LocalState → Type 0
KeepsLocations n m = AllHave n → AllHave m

one_changes : (ns : List (Node LocalState)) (k m : Node LocalState) (ks : Nodes LocalState) → KeepsLocations k m → EachHas (behind ns (node_and k ks)) → EachHas (behind ns (node_and m ks))
one_changes [] k m ks r h = (r h.0, h.1)
one_changes (x ∷ ns) k m ks r h = (h.0, one_changes ns k m ks r h.1)

pub locations_relate : Relates process_ops KeepsLocations
locations_relate = record {
  same = λ n h. h;
  both = λ a b c f g h. g (f h);
  within = λ l ns k m ks r h. (h.0, one_changes ns k m ks r h.1);
  quiet = λ l s at h. quiet_has l h;
  puts = λ l s at h. put_has l (put_none l at) h;
  receives = λ l v s h. receive_has l v h;
  throws = λ l s h. thrown_has l h;
  unwinds = λ l x v s h. unwind_has l x v h;
  forks = λ l p ks s at h. forks_have l p ks h at;
  traps = λ l m s at e h. fork_trapped_has l m e h;
  ends = λ l h. h;
  dies = λ l x h. h;
  joins = λ l ks goes_on s all born done h. join_has l (states ks) goes_on born.stops_at_fork h.0;
}

-- the process to which branches lead, among those of the tree
mutual
  pub live_has : (q : List ℕ) (n : Node LocalState) (l : LocalState) → AllHave n → at q n ≡ Some (Live l) → HasLocations l
  live_has [] n l h e = subst AllHave (some_same n (Live l) e) h
  live_has (i ∷ q) (Live m) l h e = none_some (Live l) e
  live_has (i ∷ q) (Ended m) l h e = none_some (Live l) e
  live_has (i ∷ q) (Dead m x) l h e = none_some (Live l) e
  live_has (i ∷ q) (Forked m ks) l h e = child_live_has i q ks l h.1 e

  child_live_has : (i : ℕ) (q : List ℕ) (ks : Nodes LocalState) (l : LocalState) → EachHas ks → child_at i q ks ≡ Some (Live l) → HasLocations l
  child_live_has i q no_node l h e = none_some (Live l) e
  child_live_has zero q (node_and k ks) l h e = live_has q k l h.0 e
  child_live_has (suc i) q (node_and k ks) l h e = child_live_has i q ks l h.1 e
