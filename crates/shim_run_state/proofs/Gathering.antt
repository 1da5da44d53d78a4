-- Who waits, gathered record by record in the order of the tree.
use Rattle.std.proofs.Common.{◌≡◌, ◌≢◌, ◌≤◌, ◌<◌, ◌+◌, ◌-◌, ℕ, zero, suc, Option, Some, None, refl, sym, ap, ◌∙◌, arith}
use Rattle.std.specs.Prelude.{slice_get}
use Rattle.std.specs.FinMap as finite
use Rattle.shim_base.specs.Paths.{NamedChannel, path_order}
use Rattle.shim_base.proofs.Facts.{some_same, none_some}
use Rattle.shim_local.specs.Process.{Ops}
use Rattle.shim_semantics.specs.Nodes.{Node, Nodes, Live, Forked, Ended, Dead, Death, no_node, node_and}
use Rattle.shim_semantics.specs.Endings.{waiting, all_waiting}
use Rattle.shim_run_log.specs.Waits.{with_waits}
use Rattle.shim_run_log.proofs.WaitsAdded.{with_both}
use Rattle.shim_laws_table.specs.NodeStatus.{lives, forks, ends, dies}
use Rattle.shim_laws_table.specs.Agrees.{RecordView, free, used}
use Rattle.std.specs.Option.{option_map}
use Rattle.shim_records.specs.Pairs.{status_view, record_view}
use Rattle.shim_records.specs.declared.record.Record.{Record}
use Rattle.shim_records.specs.declared.record.Status.TheVariants as code
use Rattle.shim_records.proofs.Representing.{map_get}
use Rattle.shim_laws_table.specs.RepresentedTree.{node_of, node_in, nodes_from, node_in_front, fork_over}
use Rattle.shim_laws_table_events.specs.keeping.Tables.{TableView, views}
use Rattle.shim_run_state.specs.Gathering.{AddsWaits}

Map : Type 0
Map = finite.FinMap path_order NamedChannel

pub positive : (n : ℕ) → n ≢ 0 → n ≡ suc (n - 1)
positive zero h = absurd (h refl)
positive (suc n) h = omega arith

-- what a record says
pub said_lives : (r : Record) → r.status ≡ code.Live → record_view r ≡ used r.first lives
said_lives r e = ap (status_view r.first) e

pub said_free : (r : Record) → r.status ≡ code.Free → record_view r ≡ free
said_free r e = ap (status_view r.first) e

pub said_ended : (r : Record) → r.status ≡ code.Ended → record_view r ≡ used r.first ends
said_ended r e = ap (status_view r.first) e

pub said_dead : (r : Record) (x : Death) → r.status ≡ code.Dead x → record_view r ≡ used r.first (dies x)
said_dead r x e = ap (status_view r.first) e

pub said_forked : (r : Record) (n : ℕ) → r.status ≡ code.Forked n → record_view r ≡ used r.first (forks n)
said_forked r n e = ap (status_view r.first) e

module _ {S : Type 0} (o : Ops S) (v : TableView S) where
  pub said : (number : ℕ) (r : Record) (x : RecordView) → slice_get v.records number ≡ Some r → record_view r ≡ x → slice_get (views v) number ≡ Some x
  said number r x e f = map_get record_view v.records number ∙ (ap (option_map record_view) e ∙ ap Some f)

  abbrev pub levels_of : ℕ → ℕ → Option (Node S)
  levels_of m = node_of v.states (views v) m

  -- what a record says is the node
  by_record : (levels m number : ℕ) (s : Option S) (x : Option RecordView) → levels ≡ suc m → slice_get v.states number ≡ s → slice_get (views v) number ≡ x → levels_of levels number ≡ node_in (levels_of m) s x
  by_record levels m number s x e f g = ap (λ z. levels_of z number) e ∙ (λ t. node_in (levels_of m) (f t) (g t))

  -- no state, no record
  pub no_state : (levels m number : ℕ) (w : finite.FinMap path_order NamedChannel) → levels ≡ suc m → slice_get v.states number ≡ None → AddsWaits o v levels number w w
  no_state levels m number w e f n is = on (slice_get (views v) number) refl
    where
      on : (x : Option RecordView) → slice_get (views v) number ≡ x → w ≡ with_waits w (waiting o n)
      on None g = none_some n (sym (by_record levels m number None None e f g) ∙ is)
      on (Some y) g = none_some n (sym (by_record levels m number None (Some y) e f g) ∙ is)

  pub no_record : (levels m number : ℕ) (s : S) (w : finite.FinMap path_order NamedChannel) → levels ≡ suc m → slice_get v.states number ≡ Some s → slice_get (views v) number ≡ None → AddsWaits o v levels number w w
  no_record levels m number s w e f g n is = none_some n (sym (by_record levels m number (Some s) None e f g) ∙ is)

  module _ (m : ℕ) where
    -- so many children of a fork were gathered
    abbrev pub Gathered : ℕ → ℕ → ℕ → finite.FinMap path_order NamedChannel → finite.FinMap path_order NamedChannel → Type 0
    Gathered first count b w now = (ks : Nodes S) → nodes_from (levels_of m) first count ≡ Some ks → (js : Nodes S) × (nodes_from (levels_of m) (first + b) (count - b) ≡ Some js) × (with_waits now (all_waiting o js) ≡ with_waits w (all_waiting o ks))

    pub none_yet : (first count : ℕ) (w : finite.FinMap path_order NamedChannel) → Gathered first count 0 w w
    none_yet first count w ks h = (ks, (λ t. nodes_from (levels_of m) (at_first t) (all_left t)) ∙ h, refl)
      where
        at_first : first + 0 ≡ first
        at_first = omega arith

        all_left : count - 0 ≡ count
        all_left = omega arith

    in_front : (k : Option (Node S)) (ks : Option (Nodes S)) (js : Nodes S) → node_in_front k ks ≡ Some js → (n : Node S) × (ns : Nodes S) × (k ≡ Some n) × (ks ≡ Some ns) × (js ≡ node_and n ns)
    in_front (Some n) (Some ns) js h = (n, ns, refl, refl, sym (some_same (node_and n ns) js h))
    in_front (Some n) None js h = none_some js h
    in_front None (Some ns) js h = none_some js h
    in_front None None js h = none_some js h

    pub one_more : (first count b : ℕ) (w now next : finite.FinMap path_order NamedChannel) → b < count → Gathered first count b w now → AddsWaits o v m (first + b) now next → Gathered first count (b + 1) w next
    one_more first count b w now next less so_far got ks h =
        let x = so_far ks h in
        let split : nodes_from (levels_of m) (first + b) (suc (count - (b + 1))) ≡ Some x.0 = ap (nodes_from (levels_of m) (first + b)) (sym left) ∙ x.1 in
        let y = in_front (levels_of m (first + b)) (nodes_from (levels_of m) (first + b + 1) (count - (b + 1))) x.0 split in
        let one = got y.0 y.2 in (
          y.1,
          ap (λ z. nodes_from (levels_of m) z (count - (b + 1))) along ∙ y.3,
          ap (λ z. with_waits z (all_waiting o y.1)) one ∙ (sym (with_both now (waiting o y.0) (all_waiting o y.1)) ∙ (ap (λ z. with_waits now (all_waiting o z)) (sym y.4) ∙ x.2)),
        )
      where
        left : count - b ≡ suc (count - (b + 1))
        left = omega (arith, less)

        along : first + (b + 1) ≡ first + b + 1
        along = omega arith

  module _ (levels m number : ℕ) (s : S) (e : levels ≡ suc m) (f : slice_get v.states number ≡ Some s) where
    node_is : (x : RecordView) (n k : Node S) → slice_get (views v) number ≡ Some x → levels_of levels number ≡ Some n → node_in (levels_of m) (Some s) (Some x) ≡ Some k → n ≡ k
    node_is x n k g is h = some_same n k (sym is ∙ (by_record levels m number (Some s) (Some x) e f g ∙ h))

    pub it_lives : (first : ℕ) (w w' : finite.FinMap path_order NamedChannel) → slice_get (views v) number ≡ Some (used first lives) → w' ≡ with_waits w (waiting o (Live s)) → AddsWaits o v levels number w w'
    it_lives first w w' g is n got = is ∙ ap (λ z. with_waits w (waiting o z)) (sym (node_is (used first lives) n (Live s) g got refl))

    pub it_ended : (first : ℕ) (w : finite.FinMap path_order NamedChannel) → slice_get (views v) number ≡ Some (used first ends) → AddsWaits o v levels number w w
    it_ended first w g n got = ap (λ z. with_waits w (waiting o z)) (sym (node_is (used first ends) n (Ended s) g got refl))

    pub it_died : (first : ℕ) (d : _) (w : finite.FinMap path_order NamedChannel) → slice_get (views v) number ≡ Some (used first (dies d)) → AddsWaits o v levels number w w
    it_died first d w g n got = ap (λ z. with_waits w (waiting o z)) (sym (node_is (used first (dies d)) n (Dead s d) g got refl))

    pub it_is_free : (w : finite.FinMap path_order NamedChannel) → slice_get (views v) number ≡ Some free → AddsWaits o v levels number w w
    it_is_free w g n got = none_some n (sym (by_record levels m number (Some s) (Some free) e f g) ∙ got)

    forked : (x : Option (Nodes S)) (n : Node S) → fork_over s x ≡ Some n → (ks : Nodes S) × (x ≡ Some ks) × (n ≡ Forked s ks)
    forked None n h = none_some n h
    forked (Some ks) n h = (ks, refl, sym (some_same (Forked s ks) n h))

    pub all_gathered : (first count b : ℕ) (w now : finite.FinMap path_order NamedChannel) → slice_get (views v) number ≡ Some (used first (forks count)) → count ≤ b → Gathered m first count b w now → AddsWaits o v levels number w now
    all_gathered first count b w now g past so_far n got =
        let y = forked (nodes_from (levels_of m) first count) n (sym (by_record levels m number (Some s) (Some (used first (forks count))) e f g) ∙ got) in
        let x = so_far y.0 y.1 in
        let none : x.0 ≡ no_node = some_same x.0 no_node (sym x.1 ∙ ap (nodes_from (levels_of m) (first + b)) nothing_left) in
        ap (λ z. with_waits now (all_waiting o z)) (sym none) ∙ (x.2 ∙ ap (λ z. with_waits w (waiting o z)) (sym y.2))
      where
        nothing_left : count - b ≡ 0
        nothing_left = omega (arith, past)
