-- The processes of a tree have their labels, through each event.
use Rattle.std.proofs.Common.{◌≡◌, ◌∙◌, ◌≤◌, ℕ, zero, suc, ◌+◌, Bool, true, List, [], ◌∷◌, Some, refl, sym, subst}
use Rattle.std.proofs.lemmas.Bool.{and_parts}
use Rattle.shim_local.specs.Laws.{Forks}
use Rattle.shim_semantics.specs.Nodes.{Node, Nodes, Live, Forked, Ended, Dead, no_node, node_and, all_live, state, states}
use Rattle.shim_semantics.specs.Places.{at, child_at}
use Rattle.shim_units.specs.declared.unit.UBranch.{UBranch}
use Rattle.shim_units.specs.declared.unit.UStmt.{UStmt}
use Rattle.shim_units.specs.declared.unit.UWhat.{UWhat, UWhat-F, out-UWhat}
use Rattle.shim_process.specs.Arguments.{Argument}
use Rattle.shim_process.specs.Ends.{gone}
use Rattle.shim_process.specs.Forks.{what_branches, item_branches, child, children_from, lending, all_lending, parent, joined, join}
use Rattle.shim_process.specs.LocalState.{LocalState, unit_at}
use Rattle.shim_process.specs.Ops.{process_ops}
use Rattle.shim_process.specs.StatementViews.{statement_view, passed_labels}
use Rattle.shim_process.specs.Todo.{Item, Do, Leave, On}
use Rattle.shim_process.proofs.ForkParts.{Parts, parts_of}
use Rattle.shim_laws_sources.proofs.Along.{behind, Relates}
use Rattle.shim_base.proofs.Facts.{choose, some_same, none_some}
use Rattle.shim_laws_stops.specs.InForce.{hands_on, all_hand_on}
use Rattle.shim_laws_stops.specs.FrameLabels.{AreInScope, ItemsThrow, FrameLabels, HasLabels}
use Rattle.shim_laws_stops.proofs.ThrowItems.{throws_layer, throws_out}
use Rattle.shim_laws_stops.proofs.FrameSteps.{inner_labels, Moves, moves_none, gone_on_moves, unwind_moves}
use Rattle.shim_laws_stops.proofs.KnownLabels.{passes_on}
use Rattle.shim_laws_stops.proofs.LabelSteps.{again, entered_labels, quiet_moves, put_moves, thrown_moves, receive_moves, fork_trapped_moves}

-- each process of the tree has its labels
abbrev mutual
  pub AllHaveLabels : Node LocalState → Type 0
  AllHaveLabels (Live l) = HasLabels l
  AllHaveLabels (Ended l) = HasLabels l
  AllHaveLabels (Dead l x) = HasLabels l
  AllHaveLabels (Forked l ks) = HasLabels l × EachHasLabels ks

  pub EachHasLabels : Nodes LocalState → Type 0
  EachHasLabels no_node = Unit {0}
  EachHasLabels (node_and k ks) = AllHaveLabels k × EachHasLabels ks

-- the branches of a fork hand on what is known there
record HandOnKnown (l : LocalState) (bs : List UBranch) : Type 0 where
  exceptions : List ℕ
  known : AreInScope (unit_at l.program l.frame.unit).throws l.frame.places exceptions
  right : all_hand_on l.program bs exceptions ≡ true

what_hands_on : (l : LocalState) (w : UWhat-F UWhat UStmt) (xs : List ℕ) → AreInScope (unit_at l.program l.frame.unit).throws l.frame.places xs → throws_layer l.program w xs ≡ true → HandOnKnown l (what_branches w)
what_hands_on l (UWhat-F.Par bs) xs known h = record { exceptions = xs; known = known; right = h }
what_hands_on l _ xs known h = record { exceptions = xs; known = known; right = refl }

none_handed : (l : LocalState) → HandOnKnown l []
none_handed l = record { exceptions = []; known = λ x a. absurd (cc a); right = refl }

items_hand_on : (l : LocalState) (todo : List Item) → ItemsThrow l.program (unit_at l.program l.frame.unit).throws l.frame.places todo → HandOnKnown l (item_branches todo)
items_hand_on l [] h = none_handed l
items_hand_on l (Leave ∷ k) h = none_handed l
items_hand_on l (Do n s ∷ k) h = what_hands_on l (out-UWhat s.what) h.0.exceptions h.0.known (sym (throws_out l.program s h.0.exceptions) ∙ h.0.right)

child_labels : (l : LocalState) (i : ℕ) (b : UBranch) (given : List Argument) (xs : List ℕ) → 1 ≤ l.base → HasLabels l → AreInScope (unit_at l.program l.frame.unit).throws l.frame.places xs → hands_on l.program b.call xs ≡ true → HasLabels (child l i b given)
child_labels l i b given xs least h known right =
    let f : FrameLabels l.program l.frame = inner_labels l.program l.frame l.callers h.frames in
    let p = passes_on l (unit_at l.program l.frame.unit).throws xs b.call least f.many f.labels known right in
    record { units = h.units; frames = (entered_labels l b.call.unit (child l i b given).frame.slots (passed_labels (statement_view l) b.call.throws) 0 0 h.units p, refl) }

children_labels : (l : LocalState) (i : ℕ) (bs : List UBranch) (given : List (List Argument)) (xs : List ℕ) → 1 ≤ l.base → HasLabels l → AreInScope (unit_at l.program l.frame.unit).throws l.frame.places xs → all_hand_on l.program bs xs ≡ true
    → EachHasLabels (all_live (children_from l i bs given))
children_labels l i [] given xs least h known right = tt
children_labels l i (b ∷ bs) [] xs least h known right = tt
children_labels l i (b ∷ bs) (g ∷ gs) xs least h known right =
    let w = and_parts (hands_on l.program b.call xs) (all_hand_on l.program bs xs) right in
    (child_labels l i b g xs least h known w.0, children_labels (lending l b) (i + 1) bs gs xs least (record { units = h.units; frames = h.frames }) known w.1)

lending_moves : (l : LocalState) (bs : List UBranch) → HasLabels l → Moves l (all_lending l bs)
lending_moves l [] h = moves_none l h
lending_moves l (b ∷ bs) h = again l (lending l b) (all_lending (lending l b) bs) refl refl (lending_moves (lending l b) bs (record { units = h.units; frames = h.frames }))

parent_moves : (l : LocalState) (bs : List UBranch) → HasLabels l → Moves l (parent l bs)
parent_moves l bs h =
    let w = lending_moves l bs h in
    record { labels = record { units = w.labels.units; frames = w.labels.frames }; base = w.base; program = w.program }

-- the second process is the first one, later
abbrev pub IsLater : LocalState → LocalState → Type 0
IsLater l m = (m.base ≡ l.base) × (m.program ≡ l.program)

-- where the first tree has its labels the second one has them, and its root is that of the first, later
abbrev pub KeepsLabels : Node LocalState → Node LocalState → Type 0
KeepsLabels n m = AllHaveLabels n → AllHaveLabels m × IsLater (state n) (state m)

moved : (l m : LocalState) → Moves l m → HasLabels m × IsLater l m
moved l m w = (w.labels, (w.base, w.program))

forks_labels : (l p : LocalState) (ks : List LocalState) → 1 ≤ l.base → HasLabels l → Forks process_ops l p ks → (HasLabels p × EachHasLabels (all_live ks)) × IsLater l p
forks_labels l p ks least h at =
    let w : Parts l p ks = parts_of l p ks at in
    let bs : List UBranch = item_branches l.frame.todo in
    let f : FrameLabels l.program l.frame = inner_labels l.program l.frame l.callers h.frames in
    let known = items_hand_on l l.frame.todo f.todo in
    let moves : Moves l p = subst (Moves l) (sym w.parent_is) (parent_moves l bs h) in
    let kids : EachHasLabels (all_live ks) = subst (λ (js : List LocalState). EachHasLabels (all_live js)) (sym w.children_are) (children_labels l 0 bs w.given known.exceptions least h known.known known.right) in
    ((moves.labels, kids), (moves.base, moves.program))

join_moves : (l : LocalState) (ks : List LocalState) (goes_on : Bool) → HasLabels l → Moves l (join l ks goes_on)
unfolding join
join_moves l ks goes_on h =
    let back : HasLabels (joined l ks) = record { units = h.units; frames = h.frames } in
    choose (λ (z : LocalState). Moves l z) goes_on (gone On (joined l ks)) (joined l ks)
    (again l (joined l ks) (gone On (joined l ks)) refl refl (gone_on_moves (joined l ks) back))
    (record { labels = back; base = refl; program = refl })

-- the children, of which one changes
one_changes : (ns : List (Node LocalState)) (k m : Node LocalState) (ks : Nodes LocalState) → KeepsLabels k m → EachHasLabels (behind ns (node_and k ks)) → EachHasLabels (behind ns (node_and m ks))
one_changes [] k m ks r h = ((r h.0).0, h.1)
one_changes (x ∷ ns) k m ks r h = (h.0, one_changes ns k m ks r h.1)

pub labels_relate : Relates process_ops KeepsLabels
labels_relate = record {
  same = λ n h. (h, (refl, refl));
  both = λ a b c f g h. let w = f h in let v = g w.0 in (v.0, (v.1.0 ∙ w.1.0, v.1.1 ∙ w.1.1));
  within = λ l ns k m ks r h. ((h.0, one_changes ns k m ks r h.1), (refl, refl));
  quiet = λ l s at h. moved l _ (quiet_moves l s.base h);
  puts = λ l s at h. moved l _ (put_moves l h);
  receives = λ l v s h. moved l _ (receive_moves l v h);
  throws = λ l s h. moved l _ (thrown_moves l h);
  unwinds = λ l x v s h. moved l _ (unwind_moves l x v h);
  forks = λ l p ks s at h. forks_labels l p ks s.base h at;
  traps = λ l m s at e h. moved l m (fork_trapped_moves l m e h);
  ends = λ l h. (h, (refl, refl));
  dies = λ l x h. (h, (refl, refl));
  joins = λ l ks goes_on s all born done h. moved l _ (join_moves l (states ks) goes_on h.0);
}

-- the process to which branches lead, among those of the tree
mutual
  pub live_has_labels : (q : List ℕ) (n : Node LocalState) (l : LocalState) → AllHaveLabels n → at q n ≡ Some (Live l) → HasLabels l
  live_has_labels [] n l h e = subst AllHaveLabels (some_same n (Live l) e) h
  live_has_labels (i ∷ q) (Live m) l h e = none_some (Live l) e
  live_has_labels (i ∷ q) (Ended m) l h e = none_some (Live l) e
  live_has_labels (i ∷ q) (Dead m x) l h e = none_some (Live l) e
  live_has_labels (i ∷ q) (Forked m ks) l h e = child_has_labels i q ks l h.1 e

  child_has_labels : (i : ℕ) (q : List ℕ) (ks : Nodes LocalState) (l : LocalState) → EachHasLabels ks → child_at i q ks ≡ Some (Live l) → HasLabels l
  child_has_labels i q no_node l h e = none_some (Live l) e
  child_has_labels zero q (node_and k ks) l h e = live_has_labels q k l h.0 e
  child_has_labels (suc i) q (node_and k ks) l h e = child_has_labels i q ks l h.1 e
