-- A stream stays with those who take it, through each event of a tree.
use Rattle.std.proofs.Common.{◌≡◌, ◌∙◌, ◌⊎◌, inl, inr, ℕ, zero, suc, ◌+◌, Bool, true, false, ◌&&◌, ◌||◌, cond, List, [], ◌∷◌, Option, Some, None, refl, sym, ap, subst}
use Rattle.std.proofs.lemmas.Bool.{and_parts, true≢false}
use Rattle.shim_local.specs.Process.{AtFork}
use Rattle.shim_local.specs.Laws.{AllOf, Forks}
use Rattle.shim_semantics.specs.Nodes.{Node, Nodes, Live, Forked, Ended, Dead, no_node, node_and, all_done, all_live, state, states}
use Rattle.shim_semantics.specs.Places.{at, child_at}
use Rattle.shim_scopes.specs.declared.tree.UParam.{UParam}
use Rattle.shim_units.specs.declared.form.Form.{Form}
use Rattle.shim_units.specs.declared.unit.Unit.{Unit as UnitOf}
use Rattle.shim_units.specs.declared.unit.UBranch.{UBranch}
use Rattle.shim_units.specs.declared.unit.UStmt.{UStmt}
use Rattle.shim_units.specs.declared.unit.UWhat.{UWhat, UWhat-F, out-UWhat}
use Rattle.shim_process.specs.Arguments.{Argument}
use Rattle.shim_process.specs.Ends.{gone}
use Rattle.shim_process.specs.Forks.{takes_input, takes_output, what_branches, item_branches, child, children_from, lending, all_lending, parent, some_or, input_back, output_back, joined, join}
use Rattle.shim_process.specs.LocalState.{LocalState, unit_at}
use Rattle.shim_process.specs.Ops.{process_ops}
use Rattle.shim_process.specs.Stops.{stop}
use Rattle.shim_process.specs.Todo.{Item, Do, Leave, On}
use Rattle.shim_process.proofs.ForkLending.{Suit}
use Rattle.shim_process.proofs.ForkParts.{Parts, parts_of}
use Rattle.shim_laws_sources.proofs.Along.{behind, Relates}
use Rattle.shim_base.proofs.Facts.{choose, some_same, none_some, both_hold, true_or_false, or_left, or_right}
use Rattle.shim_laws_stops.specs.InScope.{call_right, all_calls_right, are_some, branches_apart, AllInScope}
use Rattle.shim_laws_stops.specs.FrameLocations.{item_right, ItemsScoped, FrameScoped, HasLocations}
use Rattle.shim_laws_stops.specs.StreamHolders.{Stream, TheInput, TheOutput, takes_stream, holds_stream, has_stream, takes, HasOneSlot, waiting_units, first_unit, IsTaking, HoldsStream, OneTakes, LendsStream, HasStream, EachHasStream}
use Rattle.shim_laws_stops.proofs.LocationForks.{EachHas, put_none, forks_have, join_has}
use Rattle.shim_laws_stops.proofs.LocationSteps.{Has, quiet_has, put_has, thrown_has, receive_has, fork_trapped_has}
use Rattle.shim_laws_stops.proofs.StreamSteps.{head_one, takes_first, Moves, gone_moves, unwind_moves, quiet_moves, put_moves, thrown_moves, receive_moves, fork_trapped_moves, holds_later}
use Rattle.shim_laws_stops.proofs.StreamUnits.{Hands, call_hands, NoneTakes, OneAtMost, one_at_most}
use Rattle.shim_laws_stops.proofs.ScopeFrames.{inner_scoped, unwind_has}

states_live : (ks : List LocalState) → states (all_live ks) ≡ ks
states_live [] = refl
states_live (k ∷ ks) = ap (λ z. k ∷ z) (states_live ks)

-- the process is the first one, later
abbrev pub IsLater : LocalState → LocalState → Type 0
IsLater l m = (first_unit m ≡ first_unit l) × (m.program ≡ l.program)

-- of each stream: what a branch that doesn't take it leaves, what one that takes it gets, and what comes back

kept_by : {A : Type 0} (b : Bool) (x y : A) → b ≡ false → cond b x y ≡ y
kept_by true x y e = absurd (cc e)
kept_by false x y e = refl

left_held : (stream : Stream) (ps : List UParam) (at : Option ℕ) (holds : Bool) → takes_stream stream ps ≡ false → holds_stream stream (cond (takes_input ps) None at) (cond (takes_output ps) false holds) ≡ holds_stream stream at holds
left_held TheInput ps at holds e = ap (λ (o : Option ℕ). holds_stream TheInput o holds) (kept_by (takes_input ps) None at e)
left_held TheOutput ps at holds e = kept_by (takes_output ps) false holds e

there_by : {A : Type 0} (b : Bool) (x y : A) → b ≡ true → cond b x y ≡ x
there_by true x y e = refl
there_by false x y e = absurd (cc e)

got_held : (stream : Stream) (ps : List UParam) (at : Option ℕ) (holds : Bool) → takes_stream stream ps ≡ true → holds_stream stream at holds ≡ true → holds_stream stream (cond (takes_input ps) at None) (takes_output ps && holds) ≡ true
got_held TheInput ps at holds t h = ap (λ (o : Option ℕ). holds_stream TheInput o holds) (there_by (takes_input ps) at None t) ∙ h
got_held TheOutput ps at holds t h = both_hold (takes_output ps) holds t h

more_held : (stream : Stream) (own at : Option ℕ) (has holds : Bool) → holds_stream stream at holds ≡ true → holds_stream stream (some_or own at) (has || holds) ≡ true
more_held TheInput None at has holds h = h
more_held TheInput (Some n) at has holds h = refl
more_held TheOutput own at has holds h = or_right has holds h

own_held : (stream : Stream) (own at : Option ℕ) (has holds : Bool) → holds_stream stream own has ≡ true → holds_stream stream (some_or own at) (has || holds) ≡ true
own_held TheInput None at has holds h = absurd (cc h)
own_held TheInput (Some n) at has holds h = refl
own_held TheOutput own at has holds h = or_left has holds h

pub begun_held : (stream : Stream) (ps : List UParam) → takes_stream stream ps ≡ true → holds_stream stream (cond (takes_input ps) (Some 0) None) (takes_output ps) ≡ true
begun_held TheInput ps t = ap (λ (o : Option ℕ). holds_stream TheInput o true) (there_by (takes_input ps) (Some 0) None t)
begun_held TheOutput ps t = t

module _ (stream : Stream) where
  -- what the branches of the fork hand on

  record BranchesHand (program : Form) (from : ℕ) (bs : List UBranch) : Type 0 where
    one : OneAtMost stream program bs
    each : AllOf (λ (b : UBranch). Hands stream program from b.call.unit) bs

  each_hands : (program : Form) (from : ℕ) (xs : List ℕ) (bs : List UBranch) → AllInScope program → HasOneSlot stream (unit_at program from) → all_calls_right program (unit_at program from) xs bs ≡ true → AllOf (λ (b : UBranch). Hands stream program from b.call.unit) bs
  each_hands program from xs [] units one h = tt
  each_hands program from xs (b ∷ bs) units one h =
      let w = and_parts (call_right program (unit_at program from) xs b.call) (all_calls_right program (unit_at program from) xs bs) h in
      (call_hands stream program from xs b.call units one w.0, each_hands program from xs bs units one w.1)

  none_hand : (program : Form) (from : ℕ) → BranchesHand program from []
  none_hand program from = record { one = tt; each = tt }

  what_branches_hand : (program : Form) (from : ℕ) (w : UWhat-F UWhat UStmt) (xs : List ℕ) → AllInScope program → HasOneSlot stream (unit_at program from) → item_right program (unit_at program from) w xs ≡ true → BranchesHand program from (what_branches w)
  what_branches_hand program from (UWhat-F.Par bs) xs units one h =
      let u : UnitOf = unit_at program from in
      let w = and_parts (branches_apart bs) (all_calls_right program u xs bs) (and_parts (are_some bs) _ h).1 in
      record { one = one_at_most stream program u xs bs one w.0 w.1; each = each_hands program from xs bs units one w.1 }
  what_branches_hand program from _ xs units one h = none_hand program from

  items_hand : (l : LocalState) (todo : List Item) → AllInScope l.program → HasOneSlot stream (unit_at l.program l.frame.unit) → ItemsScoped l.program (unit_at l.program l.frame.unit) (Has l) [] todo → BranchesHand l.program l.frame.unit (item_branches todo)
  items_hand l [] units one h = none_hand l.program l.frame.unit
  items_hand l (Leave ∷ k) units one h = none_hand l.program l.frame.unit
  items_hand l (Do n s ∷ k) units one h = what_branches_hand l.program l.frame.unit (out-UWhat s.what) h.0.slots units one h.0.right

  -- who has the stream while the children are made

  lending_keeps : (l : LocalState) (b : UBranch) → takes stream l.program b.call.unit ≡ false → has_stream stream (lending l b) ≡ has_stream stream l
  lending_keeps l b e = left_held stream (unit_at l.program b.call.unit).params l.input_at l.holds_output e

  -- the process has it, or none of these branches takes it
  abbrev IsReady : LocalState → List UBranch → Type 0
  IsReady l bs = (has_stream stream l ≡ true) ⊎ NoneTakes stream l.program bs

  ready_next : (l : LocalState) (b : UBranch) (bs : List UBranch) → OneAtMost stream l.program (b ∷ bs) → IsReady l (b ∷ bs) → IsReady (lending l b) bs
  ready_next l b bs one (inr none) = inr none.1
  ready_next l b bs one (inl holds) = elim (true_or_false (takes stream l.program b.call.unit)) [
    | inl t ↦ inr (one.0 t)
    | inr f ↦ inl (lending_keeps l b f ∙ holds)
  ]

  child_holds : (l : LocalState) (i : ℕ) (b : UBranch) (bs : List UBranch) (given : List Argument) → Hands stream l.program l.frame.unit b.call.unit → IsReady l (b ∷ bs) → HasLocations (child l i b given) → HoldsStream stream (child l i b given)
  child_holds l i b bs given hands ready named = record {
    named = named;
    taking = hands.one;
    holds = λ t. elim ready [
      | inl holds ↦ got_held stream (unit_at l.program b.call.unit).params l.input_at l.holds_output t holds
      | inr none ↦ absurd (none.0 t)
    ];
  }

  children_hold : (l : LocalState) (i : ℕ) (bs : List UBranch) (given : List (List Argument)) → OneAtMost stream l.program bs → AllOf (λ (b : UBranch). Hands stream l.program l.frame.unit b.call.unit) bs → IsReady l bs → EachHas (all_live (children_from l i bs given)) → EachHasStream stream (all_live (children_from l i bs given))
  children_hold l i [] given one each ready h = tt
  children_hold l i (b ∷ bs) [] one each ready h = tt
  children_hold l i (b ∷ bs) (g ∷ gs) one each ready h =
      (child_holds l i b bs g each.0 ready h.0, children_hold (lending l b) (i + 1) bs gs one.1 each.1 (ready_next l b bs one ready) h.1)

  -- the process keeps it, or one of them has it
  after_fork : (l : LocalState) (i : ℕ) (bs : List UBranch) (given : List (List Argument)) → Suit l.frame.slots l.program bs given → has_stream stream l ≡ true → (has_stream stream (all_lending l bs) ≡ true) ⊎ OneTakes stream l.program bs (children_from l i bs given)
  after_fork l i [] given suit holds = inl holds
  after_fork l i (b ∷ bs) [] suit holds = absurd suit
  after_fork l i (b ∷ bs) (g ∷ gs) suit holds = elim (true_or_false (takes stream l.program b.call.unit)) [
    | inl t ↦ inr (inl (refl, refl, t))
    | inr f ↦ elim (after_fork (lending l b) (i + 1) bs gs suit.1 (lending_keeps l b f ∙ holds)) [ inl k ↦ inl k | inr k ↦ inr (inr k) ]
  ]

  -- what is lent changes no unit
  record SameUnits (l m : LocalState) : Type 0 where
    taking : IsTaking stream m
    first : first_unit m ≡ first_unit l
    program : m.program ≡ l.program
    todo : m.frame.todo ≡ l.frame.todo

  lending_same : (l : LocalState) (bs : List UBranch) → IsTaking stream l → SameUnits l (all_lending l bs)
  lending_same l [] h = record { taking = h; first = refl; program = refl; todo = refl }
  lending_same l (b ∷ bs) h = let w = lending_same (lending l b) bs h in record { taking = w.taking; first = w.first; program = w.program; todo = w.todo }

  none_without : (program : Form) (from : ℕ) (bs : List UBranch) → AllOf (λ (b : UBranch). Hands stream program from b.call.unit) bs → (takes stream program from ≡ true → ⊥) → NoneTakes stream program bs
  none_without program from [] each f = tt
  none_without program from (b ∷ bs) each f = (λ t. f (each.0.takes_too t), none_without program from bs each.1 f)

  is_ready : (l : LocalState) (bs : List UBranch) → HoldsStream stream l → AllOf (λ (b : UBranch). Hands stream l.program l.frame.unit b.call.unit) bs → IsReady l bs
  is_ready l bs h each = elim (true_or_false (has_stream stream l)) [
    | inl holds ↦ inl holds
    | inr none ↦ inr (none_without l.program l.frame.unit bs each (λ t. true≢false (sym (h.holds (takes_first stream l.program l.frame.unit (waiting_units l) h.taking t)) ∙ none)))
  ]

  forks_hold : (l p : LocalState) (ks : List LocalState) → HoldsStream stream l → Forks process_ops l p ks → HasStream stream (Forked p (all_live ks)) × IsLater l p
  forks_hold l p ks h at =
      let w : Parts l p ks = parts_of l p ks at in
      let bs : List UBranch = item_branches l.frame.todo in
      let kids : List LocalState = children_from l 0 (item_branches l.frame.todo) w.given in
      let f : FrameScoped l.program l.locations l.frame = inner_scoped l.program l.locations l.frame l.callers h.named.frames in
      let hands = items_hand l l.frame.todo h.named.units (head_one stream l.program l.frame.unit (waiting_units l) h.taking) f.todo in
      let both = forks_have l p ks h.named at in
      let ready = is_ready l bs h hands.each in
      let same = lending_same l bs h.taking in
      let named : HasLocations (parent l (item_branches l.frame.todo)) = subst HasLocations w.parent_is both.0 in
      let named_kids : EachHas (all_live (children_from l 0 (item_branches l.frame.todo) w.given)) = subst (λ (js : List LocalState). EachHas (all_live js)) w.children_are both.1 in
      let lends : LendsStream stream (parent l (item_branches l.frame.todo)) (states (all_live (children_from l 0 (item_branches l.frame.todo) w.given))) = record {
        named = named;
        taking = same.taking;
        holds = λ t. elim (after_fork l 0 bs w.given w.suit (h.holds ((λ i. takes stream (sym same.program i) (sym same.first i)) ∙ t))) [
          | inl k ↦ inl k
          | inr k ↦
              inr (subst (λ js. OneTakes stream (parent l bs).program (item_branches (parent l bs).frame.todo) js) (sym (states_live kids))
              (subst (λ (todo : List Item). OneTakes stream (parent l bs).program (item_branches todo) kids) (sym same.todo) (subst (λ (q : Form). OneTakes stream q bs kids) (sym same.program) k)))
        ];
      } in
      let whole : HasStream stream (Forked (parent l (item_branches l.frame.todo)) (all_live (children_from l 0 (item_branches l.frame.todo) w.given))) = (lends, children_hold l 0 bs w.given hands.one hands.each ready named_kids) in (
        subst (λ (q : LocalState). HasStream stream (Forked q (all_live ks))) (sym w.parent_is) (subst (λ (js : List LocalState). HasStream stream (Forked (parent l (item_branches l.frame.todo)) (all_live js))) (sym w.children_are) whole),
        subst (IsLater l) (sym w.parent_is) (same.first, same.program),
      )

  -- what comes back

  -- the stream is back with these children, by what the process itself has
  abbrev comes_back : List LocalState → Option ℕ → Bool → Bool
  comes_back ks at holds = holds_stream stream (input_back ks at) (output_back ks holds)

  back_more : (ks : List LocalState) (at : Option ℕ) (holds : Bool) → holds_stream stream at holds ≡ true → comes_back ks at holds ≡ true
  back_more [] at holds e = e
  back_more (k ∷ ks) at holds e = back_more ks (some_or k.input_at at) (k.holds_output || holds) (more_held stream k.input_at at k.holds_output holds e)

  back_one : (program : Form) (bs : List UBranch) (ks : List LocalState) (at : Option ℕ) (holds : Bool) → AllOf (HoldsStream stream) ks → OneTakes stream program bs ks → comes_back ks at holds ≡ true
  back_one program [] ks at holds all g = absurd g
  back_one program (b ∷ bs) [] at holds all g = absurd g
  back_one program (b ∷ bs) (k ∷ ks) at holds all (inl g) =
      let t : takes stream k.program (first_unit k) ≡ true = (λ i. takes stream (g.1 i) (g.0 i)) ∙ g.2 in
      back_more ks (some_or k.input_at at) (k.holds_output || holds) (own_held stream k.input_at at k.holds_output holds (all.0.holds t))
  back_one program (b ∷ bs) (k ∷ ks) at holds all (inr g) = back_one program bs ks (some_or k.input_at at) (k.holds_output || holds) all.1 g

  done_hold : (ks : Nodes LocalState) → all_done ks ≡ true → EachHasStream stream ks → AllOf (HoldsStream stream) (states ks)
  done_hold no_node e h = tt
  done_hold (node_and (Live l) ks) e h = absurd (cc e)
  done_hold (node_and (Forked l js) ks) e h = absurd (cc e)
  done_hold (node_and (Ended l) ks) e h = (h.0, done_hold ks e h.1)
  done_hold (node_and (Dead l x) ks) e h = (h.0, done_hold ks e h.1)

  join_holds : (l : LocalState) (ks : List LocalState) (goes_on : Bool) → stop l ≡ AtFork → LendsStream stream l ks → AllOf (HoldsStream stream) ks → HoldsStream stream (join l ks goes_on) × IsLater l (join l ks goes_on)
  unfolding join
  join_holds l ks goes_on e h all =
      let back : takes stream l.program (first_unit l) ≡ true → has_stream stream (joined l ks) ≡ true = λ t. elim (h.holds t) [
        | inl holds ↦ back_more ks l.input_at l.holds_output holds
        | inr one ↦ back_one l.program (item_branches l.frame.todo) ks l.input_at l.holds_output all one
      ] in
      let stays : HoldsStream stream (joined l ks) × IsLater l (joined l ks) = (record { named = join_has l ks false e h.named; taking = h.taking; holds = back }, (refl, refl)) in
      let w = gone_moves stream On (joined l ks) h.taking in
      choose (λ (z : LocalState). HoldsStream stream z × IsLater l z) goes_on (gone On (joined l ks)) (joined l ks)
      (holds_later stream (joined l ks) (gone On (joined l ks)) stays.0 (join_has l ks true e h.named) w, (w.first, w.program))
      stays

  -- where the first tree has it so the second one has it so

  abbrev pub KeepsStream : Node LocalState → Node LocalState → Type 0
  KeepsStream n m = HasStream stream n → HasStream stream m × IsLater (state n) (state m)

  moved : (l m : LocalState) → HoldsStream stream l → HasLocations m → Moves stream l m → HoldsStream stream m × IsLater l m
  moved l m h named w = (holds_later stream l m h named w, (w.first, w.program))

  one_later : (program : Form) (bs : List UBranch) (ns : List (Node LocalState)) (k m : Node LocalState) (ks : Nodes LocalState) → IsLater (state k) (state m) → OneTakes stream program bs (states (behind ns (node_and k ks))) → OneTakes stream program bs (states (behind ns (node_and m ks)))
  one_later program [] ns k m ks s g = absurd g
  one_later program (b ∷ bs) [] k m ks s (inl g) = inl (s.0 ∙ g.0, s.1 ∙ g.1, g.2)
  one_later program (b ∷ bs) [] k m ks s (inr g) = inr g
  one_later program (b ∷ bs) (x ∷ ns) k m ks s (inl g) = inl g
  one_later program (b ∷ bs) (x ∷ ns) k m ks s (inr g) = inr (one_later program bs ns k m ks s g)

  children_later : (ns : List (Node LocalState)) (k m : Node LocalState) (ks : Nodes LocalState) → KeepsStream k m → EachHasStream stream (behind ns (node_and k ks)) → EachHasStream stream (behind ns (node_and m ks)) × IsLater (state k) (state m)
  children_later [] k m ks r h = let w = r h.0 in ((w.0, h.1), w.1)
  children_later (x ∷ ns) k m ks r h = let w = children_later ns k m ks r h.1 in ((h.0, w.0), w.1)

  within_stream : (l : LocalState) (ns : List (Node LocalState)) (k m : Node LocalState) (ks : Nodes LocalState) → KeepsStream k m → KeepsStream (Forked l (behind ns (node_and k ks))) (Forked l (behind ns (node_and m ks)))
  within_stream l ns k m ks r h =
      let lends : LendsStream stream l (states (behind ns (node_and k ks))) = h.0 in
      let w = children_later ns k m ks r h.1 in (
        (
          record {
            named = lends.named;
            taking = lends.taking;
            holds = λ t. elim (lends.holds t) [ inl here ↦ inl here | inr g ↦ inr (one_later l.program (item_branches l.frame.todo) ns k m ks w.1 g) ];
          },
          w.0,
        ),
        (refl, refl),
      )

  pub stream_relates : Relates process_ops KeepsStream
  stream_relates = record {
    same = λ n h. (h, (refl, refl));
    both = λ a b c f g h. let w = f h in let v = g w.0 in (v.0, (v.1.0 ∙ w.1.0, v.1.1 ∙ w.1.1));
    within = within_stream;
    quiet = λ l s at h. moved l _ h (quiet_has l h.named) (quiet_moves stream l h.named h.taking);
    puts = λ l s at h. moved l _ h (put_has l (put_none l at) h.named) (put_moves stream l h.taking);
    receives = λ l v s h. moved l _ h (receive_has l v h.named) (receive_moves stream l v h.taking);
    throws = λ l s h. moved l _ h (thrown_has l h.named) (thrown_moves stream l h.taking);
    unwinds = λ l x v s h. moved l _ h (unwind_has l x v h.named) (unwind_moves stream l x v h.taking);
    forks = λ l p ks s at h. forks_hold l p ks h at;
    traps = λ l m s at e h. moved l m h (fork_trapped_has l m e h.named) (fork_trapped_moves stream l m e h.taking);
    ends = λ l h. (h, (refl, refl));
    dies = λ l x h. (h, (refl, refl));
    joins = λ l ks goes_on s all born done h. join_holds l (states ks) goes_on born.stops_at_fork h.0 (done_hold ks done h.1);
  }

  -- the process to which branches lead, among those of the tree
  mutual
    pub live_holds : (q : List ℕ) (n : Node LocalState) (l : LocalState) → HasStream stream n → at q n ≡ Some (Live l) → HoldsStream stream l
    live_holds [] n l h e = subst (HasStream stream) (some_same n (Live l) e) h
    live_holds (i ∷ q) (Live m) l h e = none_some (Live l) e
    live_holds (i ∷ q) (Ended m) l h e = none_some (Live l) e
    live_holds (i ∷ q) (Dead m x) l h e = none_some (Live l) e
    live_holds (i ∷ q) (Forked m ks) l h e = child_live_holds i q ks l h.1 e

    child_live_holds : (i : ℕ) (q : List ℕ) (ks : Nodes LocalState) (l : LocalState) → EachHasStream stream ks → child_at i q ks ≡ Some (Live l) → HoldsStream stream l
    child_live_holds i q no_node l h e = none_some (Live l) e
    child_live_holds zero q (node_and k ks) l h e = live_holds q k l h.0 e
    child_live_holds (suc i) q (node_and k ks) l h e = child_live_holds i q ks l h.1 e
