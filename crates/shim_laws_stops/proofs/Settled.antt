-- No process is in a unit in which nothing is left to do while another one waits, through each event.
use Rattle.std.proofs.Common.{◌≡◌, ◌∙◌, ℕ, zero, suc, ◌+◌, ◌-◌, ℤ, Bool, true, false, List, [], ◌∷◌, ◌++◌, take, map, Option, Some, None, Ok, Err, cond, nat_lt, refl, sym, ap, subst}
use Rattle.std.specs.Prelude.{slice_get}
use Rattle.shim_local.specs.Process.{Trapped as TrappedFork}
use Rattle.shim_local.specs.Laws.{AllOf, Forks}
use Rattle.shim_semantics.specs.Nodes.{Node, Nodes, Live, Forked, Ended, Dead, no_node, node_and, all_live, states}
use Rattle.shim_semantics.specs.Places.{at, child_at}
use Rattle.shim_units.specs.declared.unit.UBranch.{UBranch}
use Rattle.shim_units.specs.declared.unit.UStmt.{UStmt, ind-UStmt, roll-UStmt}
use Rattle.shim_units.specs.declared.unit.UWhat.{UWhat, UWhat-F, out-UWhat, roll-UWhat, map-UWhat}
use Rattle.shim_units.specs.Numbering as numbering
use Rattle.shim_process.specs.Arguments.{Argument}
use Rattle.shim_process.specs.Values.{Value}
use Rattle.shim_process.specs.Todo.{Item, Do, Leave, Successor, On, First, Second, what_items, items, items_all, followed, next_stmt}
use Rattle.shim_process.specs.LocalState.{LocalState, Frame, ExceptionPlace, trapped, unit_at}
use Rattle.shim_process.specs.Ends.{without_last, past_ends, went, is_over, settled, gone}
use Rattle.shim_process.specs.Unwinding.{handling, catching, unwound, unwind}
use Rattle.shim_process.specs.Forks.{item_branches, child, children_from, all_lending, parent, fork, joined, join}
use Rattle.shim_process.specs.Ops.{process_ops}
use Rattle.shim_process.specs.Steps.{Action, Go, Store, StoreFirst, Make, Read, Enter, Install, Trapped, Wait, next_action, line_of, stored_in, made_in, read_in, half, installing, pushed, called, done, quiet}
use Rattle.shim_process.specs.Stops.{put_value, after_put, put, thrown_value, after_throw, throw_evaluated, what_receive, stmt_receive, receive}
use Rattle.shim_process.proofs.CallKeeps.{fork_trapped}
use Rattle.shim_process.proofs.ForkLending.{lends_all, Lends}
use Rattle.shim_process.proofs.ForkParts.{Parts, parts_of, each_child}
use Rattle.shim_process.proofs.TodoItems.{items_what, items_roll, line_of as in_line}
use Rattle.shim_laws_sources.proofs.Along.{behind, Relates}
use Rattle.shim_base.proofs.Facts.{choose, some_same, none_some}
use Rattle.shim_laws_stops.specs.SettledFrames.{StartsRight, AllStartRight, IsSettled, AllSettled, EachSettled}

-- what is to be done for statements begins with no end of a `try`

both_start : (j k : List Item) → StartsRight j → StartsRight k → StartsRight (j ++ k)
both_start [] k f g = g
both_start (Leave ∷ j) k f g = f
both_start (Do n s ∷ j) k f g = tt

abbrev Good : UStmt → Type 0
Good s = (n : ℕ) → StartsRight (items s n)

abbrev AllGood : List UStmt → Type 0
AllGood [] = Unit {0}
AllGood (s ∷ ss) = Good s × AllGood ss

all_start : (ss : List UStmt) → AllGood ss → (n : ℕ) → StartsRight (items_all ss n)
all_start [] good n = tt
all_start (s ∷ ss) good n = both_start (items s n) (items_all ss (n + numbering.size_of s)) (good.0 n) (all_start ss good.1 (n + numbering.size_of s))

abbrev WhatGood : UWhat → Type 0
WhatGood w = (l : ℕ) → Good (in_line l w)

abbrev Such : Type 0
Such = (s : UStmt) × Good s

abbrev SuchWhat : Type 0
SuchWhat = (w : UWhat) × WhatGood w

abbrev bare : UWhat-F SuchWhat Such → UWhat-F UWhat UStmt
bare = map-UWhat SuchWhat Such UWhat UStmt (λ e. e.0) (λ e. e.0)

abbrev plain : List Such → List UStmt
plain y = map (λ e. e.0) y

all_good : (y : List Such) → AllGood (plain y)
all_good [] = tt
all_good (e ∷ es) = (e.1, all_good es)

by_kind : (l : ℕ) (x : UWhat-F UWhat UStmt) → ((n : ℕ) → StartsRight (what_items (map-UWhat UWhat UStmt _ _ (λ y. (y, items_what y)) (λ y. (y, items y)) x) (in_line l (roll-UWhat x)) n)) → Good (in_line l (roll-UWhat x))
by_kind l x h n = subst StartsRight (sym (ap (λ f. f n) (items_roll l x))) (h n)

good_cases : (y : UWhat-F SuchWhat Such) → WhatGood (roll-UWhat (bare y))
good_cases (UWhat-F.Block a) l = by_kind l (bare (UWhat-F.Block a)) (λ n. all_start (plain a) (all_good a) n)
good_cases (UWhat-F.For a e st b) l = by_kind l (bare (UWhat-F.For a e st b)) (λ n. both_start (items_all (plain a) n) (Do _ _ ∷ []) (all_start (plain a) (all_good a) n) tt)
good_cases (UWhat-F.Declare t v e) l = by_kind l (bare (UWhat-F.Declare t v e)) (λ n. tt)
good_cases (UWhat-F.Assign v e) l = by_kind l (bare (UWhat-F.Assign v e)) (λ n. tt)
good_cases (UWhat-F.Next v) l = by_kind l (bare (UWhat-F.Next v)) (λ n. tt)
good_cases (UWhat-F.NextAssign v e) l = by_kind l (bare (UWhat-F.NextAssign v e)) (λ n. tt)
good_cases (UWhat-F.AssignNext v w) l = by_kind l (bare (UWhat-F.AssignNext v w)) (λ n. tt)
good_cases (UWhat-F.Get v w) l = by_kind l (bare (UWhat-F.Get v w)) (λ n. tt)
good_cases (UWhat-F.Put v e) l = by_kind l (bare (UWhat-F.Put v e)) (λ n. tt)
good_cases (UWhat-F.If e a b) l = by_kind l (bare (UWhat-F.If e a b)) (λ n. tt)
good_cases (UWhat-F.While e a) l = by_kind l (bare (UWhat-F.While e a)) (λ n. tt)
good_cases (UWhat-F.Call v) l = by_kind l (bare (UWhat-F.Call v)) (λ n. tt)
good_cases (UWhat-F.Try a t v b) l = by_kind l (bare (UWhat-F.Try a t v b)) (λ n. tt)
good_cases (UWhat-F.Throw v e) l = by_kind l (bare (UWhat-F.Throw v e)) (λ n. tt)
good_cases (UWhat-F.Par v) l = by_kind l (bare (UWhat-F.Par v)) (λ n. tt)

good : (s : UStmt) → Good s
good = ind-UStmt WhatGood Good
    (λ x y is. subst (λ z. WhatGood (roll-UWhat z)) is (good_cases y))
    (λ x y is. subst (λ z. Good (roll-UStmt z)) is (y.what.1 y.line))

every_good : (ss : List UStmt) → AllGood ss
every_good [] = tt
every_good (s ∷ ss) = (good s, every_good ss)

pub body_starts : (ss : List UStmt) (n : ℕ) → StartsRight (items_all ss n)
body_starts ss n = all_start ss (every_good ss) n

-- after the ends that follow

past_starts : (k : List Item) (places : List ExceptionPlace) (f : Frame) → StartsRight (past_ends k places f).todo
past_starts [] places f = tt
past_starts (Leave ∷ k) places f = past_starts k (without_last places) f
past_starts (Do n s ∷ k) places f = tt

went_starts : (successor : Successor) (f : Frame) → StartsRight (went successor f).todo
unfolding went
went_starts successor f = past_starts (followed successor f.todo) f.places (record f { halfway = false })

handling_starts : (o : Option ExceptionPlace) (i : ℕ) (f : Frame) → StartsRight f.todo → StartsRight (handling o i f).todo
handling_starts None i f h = h
handling_starts (Some e) i f h = went_starts Second (record f { todo = e.todo; places = take i f.places })

not_over : (todo : List Item) → is_over todo ≡ false → todo ≡ [] → ⊥
not_over [] h e = cc h
not_over (i ∷ k) h e = cc e

by_over : (b : Bool) (f : Frame) (cs : List Frame) (l m : LocalState) → is_over f.todo ≡ b → AllStartRight (f ∷ cs) → IsSettled m → IsSettled (cond b m (record l { frame = f; callers = cs }))
by_over true f cs l m e h s = s
by_over false f cs l m e h s = record { starts = h; left = λ none. absurd (not_over f.todo e none) }

settled_is : (cs : List Frame) (f : Frame) (l : LocalState) → AllStartRight (f ∷ cs) → IsSettled (settled cs f l)
settled_is [] f l h = record { starts = h; left = λ e. refl }
settled_is (c ∷ cs) f l h =
    let out : LocalState = record l { locations = take f.floor l.locations } in
    by_over (is_over f.todo) f (c ∷ cs) l (settled cs (went On c) out) refl h (settled_is cs (went On c) out (went_starts On c, h.1.1))

gone_is : (successor : Successor) (l : LocalState) → IsSettled l → IsSettled (gone successor l)
unfolding gone
gone_is successor l h = settled_is l.callers (went successor l.frame) l (went_starts successor l.frame, h.starts.1)

unwound_is : (cs : List Frame) (f : Frame) (n : ℕ) (v : ℤ) (l : LocalState) → AllStartRight (f ∷ cs) → IsSettled (unwound cs f n v l)
unwound_is [] f n v l h =
    settled_is [] (handling (slice_get f.places (n - f.outer)) (n - f.outer) f) (catching (slice_get f.places (n - f.outer)) v f l) (handling_starts (slice_get f.places (n - f.outer)) (n - f.outer) f h.0, tt)
unwound_is (c ∷ cs) f n v l h =
    let g : Frame = handling (slice_get f.places (n - f.outer)) (n - f.outer) f in
    let m : LocalState = catching (slice_get f.places (n - f.outer)) v f l in
    let out : LocalState = record l { locations = take f.floor l.locations } in
    choose IsSettled (nat_lt n f.outer) (unwound cs c n v out) (settled (c ∷ cs) g m) (unwound_is cs c n v out h.1)
    (settled_is (c ∷ cs) g m (handling_starts (slice_get f.places (n - f.outer)) (n - f.outer) f h.0, h.1))

unwind_is : (l : LocalState) (label : ℕ) (v : ℤ) → IsSettled l → IsSettled (unwind l label v)
unfolding unwind
unwind_is l label v h = unwound_is l.callers l.frame (label - l.base) v l h.starts

called_is : (unit : ℕ) (given : List Argument) (labels : List ℕ) (l : LocalState) → IsSettled l → IsSettled (called unit given labels l)
unfolding called pushed
called_is unit given labels l h =
    let m : LocalState = pushed unit given labels l in
    settled_is m.callers m.frame m (body_starts (unit_at l.program unit).body 0, h.starts)

-- another state of the same units
same_units : (l m : LocalState) → m.frame.todo ≡ l.frame.todo → m.callers ≡ l.callers → IsSettled l → IsSettled m
same_units l m todo callers h = record {
  starts = (subst StartsRight (sym todo) h.starts.0, subst AllStartRight (sym callers) h.starts.1);
  left = λ e. callers ∙ h.left (sym todo ∙ e);
}

done_is : (d : Action) (l : LocalState) → IsSettled l → IsSettled (done d l)
done_is (Go successor) l h = gone_is successor l h
done_is (Store x v) l h = gone_is On (stored_in x v l) (same_units l (stored_in x v l) refl refl h)
done_is (StoreFirst x v) l h = same_units l (record (stored_in x v l) { frame = half l.frame }) refl refl h
done_is (Make t x v) l h = gone_is On (made_in t x v l) (same_units l (made_in t x v l) refl refl h)
done_is (Read x) l h = gone_is On (read_in x l) (same_units l (read_in x l) refl refl h)
done_is (Enter unit given labels) l h = called_is unit given labels l h
done_is (Install x name None) l h = let k : LocalState = installing x name None l in gone_is First k (same_units l k refl refl h)
done_is (Install x name (Some y)) l h = let k : LocalState = installing x name (Some y) l in gone_is First k (same_units l k refl refl h)
done_is (Trapped t) l h = same_units l (trapped t (line_of l.frame.todo) l) refl refl h
done_is Wait l h = h

quiet_is : (l : LocalState) → IsSettled l → IsSettled (quiet l)
unfolding quiet
quiet_is l h = done_is (next_action l) l h

after_put_is : (r : Value) (l : LocalState) → IsSettled l → IsSettled (after_put r l)
after_put_is (Ok v) l h = gone_is On l h
after_put_is (Err t) l h = same_units l (trapped t (line_of l.frame.todo) l) refl refl h

put_is : (l : LocalState) → IsSettled l → IsSettled (put l)
unfolding put
put_is l h = after_put_is (put_value l) l h

after_throw_is : (r : Value) (l : LocalState) → IsSettled l → IsSettled (after_throw r l)
after_throw_is (Ok v) l h = h
after_throw_is (Err t) l h = same_units l (trapped t (line_of l.frame.todo) l) refl refl h

thrown_is : (l : LocalState) → IsSettled l → IsSettled (throw_evaluated l)
unfolding throw_evaluated
thrown_is l h = after_throw_is (thrown_value l) l h

what_is : (w : UWhat-F UWhat UStmt) (v : ℤ) (l : LocalState) → IsSettled l → IsSettled (what_receive w v l)
what_is (UWhat-F.Next x) v l h = gone_is On (stored_in x v l) (same_units l (stored_in x v l) refl refl h)
what_is (UWhat-F.NextAssign x e) v l h = gone_is On (stored_in x v l) (same_units l (stored_in x v l) refl refl h)
what_is (UWhat-F.AssignNext x y) v l h = same_units l (record (stored_in y v l) { frame = half l.frame }) refl refl h
what_is _ v l h = h

stmt_is : (o : Option UStmt) (v : ℤ) (l : LocalState) → IsSettled l → IsSettled (stmt_receive o v l)
stmt_is None v l h = h
stmt_is (Some stmt) v l h = what_is (out-UWhat stmt.what) v l h

receive_is : (l : LocalState) (v : ℤ) → IsSettled l → IsSettled (receive l v)
unfolding receive
receive_is l v h = stmt_is (next_stmt l.frame.todo) v l h

fork_trapped_is : (l m : LocalState) → fork l ≡ TrappedFork m → IsSettled l → IsSettled m
fork_trapped_is l m e h = let w = fork_trapped l m e in subst IsSettled (sym w.2) (same_units l (trapped w.0 w.1 l) refl refl h)

-- a process that begins
pub begins_settled : (l : LocalState) (ss : List UStmt) → l.frame.todo ≡ items_all ss 0 → l.callers ≡ [] → IsSettled l
begins_settled l ss todo callers = record {
  starts = (subst StartsRight (sym todo) (body_starts ss 0), subst AllStartRight (sym callers) tt);
  left = λ e. callers;
}

each_settled : (ks : List LocalState) → AllOf IsSettled ks → EachSettled (all_live ks)
each_settled [] h = tt
each_settled (k ∷ ks) h = (h.0, each_settled ks h.1)

forks_are : (l p : LocalState) (ks : List LocalState) → IsSettled l → Forks process_ops l p ks → IsSettled p × EachSettled (all_live ks)
forks_are l p ks h at =
    let w : Parts l p ks = parts_of l p ks at in
    let bs : List UBranch = item_branches l.frame.todo in
    let lends : Lends l (all_lending l bs) = lends_all l bs in
    let kids : AllOf IsSettled (children_from l 0 (item_branches l.frame.todo) w.given) =
    each_child IsSettled (λ m. Unit {0}) (λ m b k. tt) (λ m i b g k. begins_settled (child m i b g) (unit_at m.program b.call.unit).body refl refl) l 0 bs w.given tt in (
      subst IsSettled (sym w.parent_is) (same_units l (parent l bs) (ap (λ (f : Frame). f.todo) lends.frame) lends.callers h),
      subst (λ (js : List LocalState). EachSettled (all_live js)) (sym w.children_are) (each_settled (children_from l 0 bs w.given) kids),
    )

join_is : (l : LocalState) (ks : List LocalState) (goes_on : Bool) → IsSettled l → IsSettled (join l ks goes_on)
unfolding join
join_is l ks goes_on h =
    let back : IsSettled (joined l ks) = same_units l (joined l ks) refl refl h in
    choose IsSettled goes_on (gone On (joined l ks)) (joined l ks) (gone_is On (joined l ks) back) back

abbrev pub KeepsSettled : Node LocalState → Node LocalState → Type 0
KeepsSettled n m = AllSettled n → AllSettled m

one_changes : (ns : List (Node LocalState)) (k m : Node LocalState) (ks : Nodes LocalState) → KeepsSettled k m → EachSettled (behind ns (node_and k ks)) → EachSettled (behind ns (node_and m ks))
one_changes [] k m ks r h = (r h.0, h.1)
one_changes (x ∷ ns) k m ks r h = (h.0, one_changes ns k m ks r h.1)

pub settled_relates : Relates process_ops KeepsSettled
settled_relates = record {
  same = λ n h. h;
  both = λ a b c f g h. g (f h);
  within = λ l ns k m ks r h. (h.0, one_changes ns k m ks r h.1);
  quiet = λ l s at h. quiet_is l h;
  puts = λ l s at h. put_is l h;
  receives = λ l v s h. receive_is l v h;
  throws = λ l s h. thrown_is l h;
  unwinds = λ l x v s h. unwind_is l x v h;
  forks = λ l p ks s at h. forks_are l p ks h at;
  traps = λ l m s at e h. fork_trapped_is l m e h;
  ends = λ l h. h;
  dies = λ l x h. h;
  joins = λ l ks goes_on s all born done h. join_is l (states ks) goes_on h.0;
}

mutual
  pub live_settled : (q : List ℕ) (n : Node LocalState) (l : LocalState) → AllSettled n → at q n ≡ Some (Live l) → IsSettled l
  live_settled [] n l h e = subst AllSettled (some_same n (Live l) e) h
  live_settled (i ∷ q) (Live m) l h e = none_some (Live l) e
  live_settled (i ∷ q) (Ended m) l h e = none_some (Live l) e
  live_settled (i ∷ q) (Dead m x) l h e = none_some (Live l) e
  live_settled (i ∷ q) (Forked m ks) l h e = child_live_settled i q ks l h.1 e

  child_live_settled : (i : ℕ) (q : List ℕ) (ks : Nodes LocalState) (l : LocalState) → EachSettled ks → child_at i q ks ≡ Some (Live l) → IsSettled l
  child_live_settled i q no_node l h e = none_some (Live l) e
  child_live_settled zero q (node_and k ks) l h e = live_settled q k l h.0 e
  child_live_settled (suc i) q (node_and k ks) l h e = child_live_settled i q ks l h.1 e
