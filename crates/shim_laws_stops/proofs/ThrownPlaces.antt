-- In a tree whose processes have their labels each exception that is thrown has a place.
use Rattle.std.proofs.Common.{◌≡◌, ◌∙◌, ◌≤◌, ◌<◌, ◌⊎◌, inl, inr, ℕ, zero, suc, ◌+◌, ◌-◌, Bool, true, false, List, [], ◌∷◌, ◌++◌, length, Option, Some, None, cond, nat_lt, refl, sym, ap, subst, arith}
use Rattle.std.specs.Prelude.{slice_get}
use Rattle.std.proofs.lemmas.Bool.{cases_Bool, ltb-true}
use Rattle.shim_local.specs.Process.{StopView, AtQuiet, AtThrow}
use Rattle.shim_semantics.specs.Nodes.{Node, Nodes, Live, Forked, Ended, Dead, no_node, node_and, state}
use Rattle.shim_semantics.specs.Places.{at, child_at, SoundBelow, SoundChildren}
use Rattle.shim_units.specs.declared.form.Form.{Form}
use Rattle.shim_units.specs.declared.unit.UBranch.{UBranch}
use Rattle.shim_units.specs.declared.unit.UStmt.{UStmt}
use Rattle.shim_units.specs.declared.unit.UWhat.{UWhat, UWhat-F, out-UWhat}
use Rattle.shim_process.specs.Locations.{Location}
use Rattle.shim_process.specs.LocalState.{LocalState, Frame, ExceptionPlace, TrappedAt, unit_at, location_of, handlers}
use Rattle.shim_process.specs.Ops.{process_ops}
use Rattle.shim_process.specs.StatementViews.{statement_view}
use Rattle.shim_process.specs.Stops.{at_next, at_put, at_fork, what_stop, stmt_stop, stop_or, stop}
use Rattle.shim_process.specs.Todo.{Item, Do, Leave, next_stmt}
use Rattle.shim_process.specs.Unwinding.{exception_place_in}
use Rattle.shim_process.specs.Sound.{Sound}
use Rattle.shim_base.proofs.Facts.{choose, some_same, none_some}
use Rattle.shim_laws_stops.specs.FrameLabels.{AreInScope, ItemsThrow, FrameLabels, StackLabels, HasLabels}
use Rattle.shim_laws_stops.specs.Thrown.{HasPlace}
use Rattle.shim_laws_stops.proofs.ThrowItems.{throws_layer, throws_out}
use Rattle.shim_laws_stops.proofs.FrameSteps.{Given, given_of, inner_labels}
use Rattle.shim_laws_stops.proofs.KnownLabels.{known_there}
use Rattle.shim_laws_stops.proofs.LabelForks.{AllHaveLabels, EachHasLabels}

-- the places in force are numbered without a gap

in_list : (es : List ExceptionPlace) (i : ℕ) → i < length es → (e : ExceptionPlace) × (slice_get es i ≡ Some e)
in_list [] i h = absurd (omega (arith, h))
in_list (e ∷ es) zero h = (e, refl)
in_list (e ∷ es) (suc i) h = in_list es i (omega (arith, h))

place_there : (program : Form) (f : Frame) (n : ℕ) (cs : List Frame) → StackLabels program f cs → n < f.outer + length f.places → (e : ExceptionPlace) × (exception_place_in f n cs ≡ Some e)
place_there program f n [] h below = let none = h.1 in in_list f.places (n - f.outer) (omega (arith, below, none))
place_there program f n (c ∷ cs) h below = elim (cases_Bool (nat_lt n f.outer)) [
  | inl low ↦
      let less : n < f.outer = ltb-true n f.outer low in
      let outer : f.outer ≡ c.outer + length c.places = h.1 in
      let w = place_there program c n cs h.2 (omega (arith, less, outer)) in
      (w.0, ap (λ b. cond b (exception_place_in c n cs) (slice_get f.places (n - f.outer))) low ∙ w.1)
  | inr high ↦
      let w = in_list f.places (n - f.outer) (least n f.outer (length f.places) below high) in
      (w.0, ap (λ b. cond b (exception_place_in c n cs) (slice_get f.places (n - f.outer))) high ∙ w.1)
]
  where
    least : (n outer many : ℕ) → n < outer + many → nat_lt n outer ≡ false → n - outer < many
    least n outer many below high = omega (arith, below, not_less n outer high)
      where
        not_less : (n outer : ℕ) → nat_lt n outer ≡ false → outer ≤ n
        not_less n outer high = grind (arith, high)

pub own_place : (l : LocalState) (label : ℕ) → HasLabels l → l.base ≤ label → label < handlers l → HasPlace l label
own_place l label h own below =
    let w = place_there l.program l.frame (label - l.base) l.callers h.frames (omega (arith, own, below)) in
    record { own = own; place = w.0; there = w.1 }

-- no label that is thrown is that of the program's end

abbrev ThrowsLeast : StopView → Type 0
ThrowsLeast (AtThrow label) = 1 ≤ label
ThrowsLeast _ = Unit {0}

next_least : (o : Option Location) → ThrowsLeast (at_next o)
next_least None = tt
next_least (Some x) = tt

put_least : (b : Bool) → ThrowsLeast (at_put b)
put_least true = tt
put_least false = tt

fork_least : (bs : List UBranch) → ThrowsLeast (at_fork bs)
fork_least [] = tt
fork_least (b ∷ bs) = tt

module _ (l : LocalState) (least : 1 ≤ l.base) (g : Given l.program l.frame) where
  abbrev given : ℕ
  given = (unit_at l.program l.frame.unit).throws

  what_least : (w : UWhat-F UWhat UStmt) (xs : List ℕ) → AreInScope given l.frame.places xs → throws_layer l.program w xs ≡ true → ThrowsLeast (what_stop w (statement_view l))
  what_least (UWhat-F.Next x) xs known h = next_least (location_of l.locations l.frame.slots x)
  what_least (UWhat-F.NextAssign x e) xs known h = choose ThrowsLeast l.frame.halfway (at_next (location_of l.locations l.frame.slots x)) AtQuiet (next_least (location_of l.locations l.frame.slots x)) tt
  what_least (UWhat-F.AssignNext x y) xs known h = choose ThrowsLeast l.frame.halfway AtQuiet (at_next (location_of l.locations l.frame.slots y)) tt (next_least (location_of l.locations l.frame.slots y))
  what_least (UWhat-F.Put o e) xs known h = put_least l.holds_output
  what_least (UWhat-F.Throw x e) xs known h = known_there l given xs x least g.many g.labels known h
  what_least (UWhat-F.Par bs) xs known h = fork_least bs
  what_least _ xs known h = tt

  item_least : (todo : List Item) → ItemsThrow l.program given l.frame.places todo → ThrowsLeast (stmt_stop (next_stmt todo) (statement_view l))
  item_least [] h = tt
  item_least (Leave ∷ k) h = tt
  item_least (Do n s ∷ k) h = what_least (out-UWhat s.what) h.0.exceptions h.0.known (sym (throws_out l.program s h.0.exceptions) ∙ h.0.right)

or_least : (t : Option TrappedAt) (s : StopView) → ThrowsLeast s → ThrowsLeast (stop_or t s)
or_least None s h = h
or_least (Some t) s h = tt

stop_least : (l : LocalState) → 1 ≤ l.base → HasLabels l → ThrowsLeast (stop l)
unfolding stop
stop_least l least h =
    let f : FrameLabels l.program l.frame = inner_labels l.program l.frame l.callers h.frames in
    or_least l.trap (stmt_stop (next_stmt l.frame.todo) (statement_view l)) (item_least l least (given_of l.program l.frame f) l.frame.todo f.todo)

pub thrown_least : (l : LocalState) (label : ℕ) → Sound l → HasLabels l → stop l ≡ AtThrow label → 1 ≤ label
thrown_least l label s h e = subst ThrowsLeast e (stop_least l s.base h)

-- from the process up to the root

-- below this node, on the way along these branches, a process has the place, or the label is one of those around the node
pub record OnWay (n : Node LocalState) (q : List ℕ) (label : ℕ) : Type 0 where
  pub front : List ℕ
  pub rest : List ℕ
  pub whole : front ++ rest ≡ q
  pub process : Node LocalState
  pub at_front : at front n ≡ Some process
  pub place : HasPlace (state process) label

-- the same among some children
record AmongChildren (ks : Nodes LocalState) (i : ℕ) (q : List ℕ) (label : ℕ) : Type 0 where
  front : List ℕ
  rest : List ℕ
  whole : front ++ rest ≡ q
  process : Node LocalState
  at_front : child_at i front ks ≡ Some process
  place : HasPlace (state process) label

here : (n : Node LocalState) (q : List ℕ) (label : ℕ) → HasLabels (state n) → label < handlers (state n) → OnWay n q label ⊎ (label < (state n).base)
here n q label h below = elim (cases_Bool (nat_lt label (state n).base)) [
  | inl low ↦ inr (ltb-true label (state n).base low)
  | inr high ↦ inl (record { front = []; rest = q; whole = refl; process = n; at_front = refl; place = own_place (state n) label h (not_less label (state n).base high) below })
]
  where
    not_less : (n outer : ℕ) → nat_lt n outer ≡ false → outer ≤ n
    not_less n outer high = grind (arith, high)

mutual
  pub on_way : (q : List ℕ) (n : Node LocalState) (l : LocalState) (label : ℕ) → AllHaveLabels n → SoundBelow process_ops n → at q n ≡ Some (Live l) → label < handlers l → OnWay n q label ⊎ (label < (state n).base)
  on_way [] (Live m) l label h s e below = let same : Live m ≡ Live l = some_same (Live m) (Live l) e in here (Live m) [] label h (subst (λ (z : Node LocalState). label < handlers (state z)) (sym same) below)
  on_way [] (Forked m ks) l label h s e below = let same : Forked m ks ≡ Live l = some_same (Forked m ks) (Live l) e in here (Forked m ks) [] label h.0 (subst (λ (z : Node LocalState). label < handlers (state z)) (sym same) below)
  on_way [] (Ended m) l label h s e below = let same : Ended m ≡ Live l = some_same (Ended m) (Live l) e in here (Ended m) [] label h (subst (λ (z : Node LocalState). label < handlers (state z)) (sym same) below)
  on_way [] (Dead m x) l label h s e below = let same : Dead m x ≡ Live l = some_same (Dead m x) (Live l) e in here (Dead m x) [] label h (subst (λ (z : Node LocalState). label < handlers (state z)) (sym same) below)
  on_way (i ∷ q) (Live m) l label h s e below = none_some (Live l) e
  on_way (i ∷ q) (Ended m) l label h s e below = none_some (Live l) e
  on_way (i ∷ q) (Dead m x) l label h s e below = none_some (Live l) e
  on_way (i ∷ q) (Forked m ks) l label h s e below = elim (among_children m s.number 0 ks i q l label h.1 s.children e below) [
    | inl w ↦ inl (record { front = i ∷ w.front; rest = w.rest; whole = ap (λ r. i ∷ r) w.whole; process = w.process; at_front = w.at_front; place = w.place })
    | inr up ↦ here (Forked m ks) (i ∷ q) label h.0 up
  ]

  among_children : (m : LocalState) (f j : ℕ) (ks : Nodes LocalState) (i : ℕ) (q : List ℕ) (l : LocalState) (label : ℕ) → EachHasLabels ks → SoundChildren process_ops m f j ks → child_at i q ks ≡ Some (Live l) → label < handlers l
      → AmongChildren ks i q label ⊎ (label < handlers m)
  among_children m f j no_node i q l label h s e below = none_some (Live l) e
  among_children m f j (node_and k ks) zero q l label h s e below = elim (on_way q k l label h.0 s.1 e below) [
    | inl w ↦ inl (record { front = w.front; rest = w.rest; whole = w.whole; process = w.process; at_front = w.at_front; place = w.place })
    | inr up ↦ inr (subst (λ b. label < b) s.0.base up)
  ]
  among_children m f j (node_and k ks) (suc i) q l label h s e below = elim (among_children m f (j + 1) ks i q l label h.1 s.2 e below) [
    | inl w ↦ inl (record { front = w.front; rest = w.rest; whole = w.whole; process = w.process; at_front = w.at_front; place = w.place })
    | inr up ↦ inr up
  ]
