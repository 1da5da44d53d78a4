-- A close of a fork: what its parts ask for, and that the tree moves by it.
use Rattle.std.proofs.Common.{◌≡◌, ◌≢◌, ◌<◌, ◌≤◌, ◌+◌, ◌⊎◌, inl, inr, ℕ, false, Option, Some, List, map, take, length, get_or, slice_set, refl, sym, ap, subst, ◌∙◌, arith}
use Rattle.std.specs.Prelude.{slice_get}
use Rattle.std.specs.Option.{option_map}
use Rattle.std.proofs.lemmas.List.{length-set}
use Rattle.std.proofs.lemmas.Option.{slice_get_within}
use Rattle.shim_base.proofs.Facts.{some_same}
use Rattle.shim_local.specs.Process.{Ops}
use Rattle.shim_local.specs.Laws.{LocalLaws}
use Rattle.shim_semantics.specs.Nodes.{Death, state}
use Rattle.shim_semantics.specs.Acts.{Acted, closed}
use Rattle.shim_semantics.specs.Trees.{Close}
use Rattle.shim_laws_table.specs.NodeStatus.{forks, process_status}
use Rattle.shim_laws_table.specs.Agrees.{free as unused_so, used, Has}
use Rattle.shim_laws_table.proofs.Hanging.{tree_of}
use Rattle.shim_laws_table.specs.Changes.{HasClosed, segment, prevailing_among}
use Rattle.shim_records.specs.Acted.{process_status_of, AllUpdated}
use Rattle.shim_records.specs.Pairs.{fork_size, record_view, status_view}
use Rattle.shim_records.specs.declared.record.Record.{Record}
use Rattle.shim_records.specs.declared.record.Status.{Status}
use Rattle.shim_records.specs.declared.record.Status.TheVariants as code
use Rattle.shim_records.proofs.Representing.{map_get}
use Rattle.shim_records.proofs.Stepping.{set_there}
use Rattle.shim_laws_table_events.specs.keeping.Tables.{TableView, TableInvariant, HasTableInvariant}
use Rattle.shim_laws_table_events.specs.keeping.Moves.{Performs}
use Rattle.shim_laws_table_events.proofs.queues.PairsFound.{record_of}
use Rattle.shim_laws_table_events.specs.closes.Closing.{RecordWithoutStatus, without_status, AreFreed, HasCome, CountsOffIfOver, RecomputedIf}
use Rattle.shim_laws_table_events.proofs.closes.Closed.{behind as behind_close, given_few}
use Rattle.shim_laws_table_events.proofs.closes.Closes.{close_preserves, views_stay}
use Rattle.shim_laws_table_events.proofs.closes.Cuts.{cut, closed_cut}
use Rattle.shim_laws_table_events.proofs.closes.Saying.{map_length, said_alike}
use Rattle.shim_laws_table_events.proofs.closes.ClosedFork.{born, below, within, apart}
use Rattle.shim_process_table.specs.Closing.{CanClose, close_effects, ClosedAs, acted_by, status_by_close, ClosesAt, ClosesRecord}
use Rattle.shim_process_table.specs.declared.acting.Thrown.TheVariants as thrown
use Rattle.shim_process_table.specs.declared.closing.CloseOutcome.{CloseOutcome}
use Rattle.shim_process_table.specs.declared.closing.CloseOutcome.TheVariants.{GoesOn, Threw}
use Rattle.shim_process_table.proofs.ClosingTakes.{read_there}
use Rattle.shim_process_table.specs.Lookups.{IsInUse}
use Rattle.shim_process_table.specs.Touching.{ChangesOnlyAbove, ChangesOnlyRecords}
use Rattle.shim_process_table.proofs.TouchingCloses.{closes_touch}
use Rattle.shim_process_table.proofs.TouchingCuts.{cut_touched}

-- what a record of a fork says
forked_says : (f g n : ℕ) (s : Status) → status_view f s ≡ used g (forks n) → (f ≡ g) × (fork_size s ≡ n)
forked_says f g n code.Free e = absurd cc
forked_says f g n code.Live e = absurd cc
forked_says f g n (code.Forked m) e = (cc, cc)
forked_says f g n code.Ended e = absurd cc
forked_says f g n (code.Dead x) e = absurd cc

-- and what is read of it
pub children_read : {S : Type 0} (v : TableView S) (i f n : ℕ) (l : S) (r : Record) (k : ℕ) → Has v.states (map record_view v.records) i f l (forks n) → r ≡ get_or v.records i r → k ≡ fork_size r.status → (r.first ≡ f) × (k ≡ n)
children_read v i f n l r k has read is =
    let w = record_of v.records i f (forks n) has.view_is in
    let same : r ≡ w.0 = read_there v.records i r w.0 (slice_get_within v.records i w.0 w.1) read w.1 in
    let so : record_view w.0 ≡ used f (forks n) = some_same (record_view w.0) (used f (forks n)) (sym (map_get record_view v.records i ∙ ap (option_map record_view) w.1) ∙ has.view_is) in
    let fork_is = forked_says w.0.first f n w.0.status so in
    (ap (λ (z : Record). z.first) same ∙ fork_is.0, is ∙ (ap (λ (z : Record). fork_size z.status) same ∙ fork_is.1))

acted_state : {S : Type 0} (outcome : CloseOutcome) (s : S) → state (acted_by outcome s).node ≡ s
acted_state GoesOn s = refl
acted_state (Threw (thrown.Caught name line)) s = refl
acted_state (Threw (thrown.Died d)) s = refl
acted_state (Threw thrown.Trapped) s = refl

acted_status : {S : Type 0} (outcome : CloseOutcome) (s : S) → process_status (acted_by outcome s).node ≡ status_by_close outcome
acted_status GoesOn s = refl
acted_status (Threw (thrown.Caught name line)) s = refl
acted_status (Threw (thrown.Died d)) s = refl
acted_status (Threw thrown.Trapped) s = refl

acted_effects : {S : Type 0} (outcome : CloseOutcome) (s : S) → (acted_by outcome s).effects ≡ close_effects outcome
acted_effects GoesOn s = refl
acted_effects (Threw (thrown.Caught name line)) s = refl
acted_effects (Threw (thrown.Died d)) s = refl
acted_effects (Threw thrown.Trapped) s = refl

came_to : {S : Type 0} (outcome : CloseOutcome) (s : S) → ClosedAs outcome (process_status (acted_by outcome s).node)
came_to GoesOn s = refl
came_to (Threw (thrown.Caught name line)) s = refl
came_to (Threw (thrown.Died d)) s = refl
came_to (Threw thrown.Trapped) s = refl

pub freed_long : (g n : ℕ) (before behind : List Record) → AreFreed g n before behind → length behind ≡ length before
freed_long g n before behind h = sym (map_length without_status behind) ∙ (ap length h.beside ∙ map_length without_status before)

module _ {S : Type 0} (states : List S) (rs : List Record) (number : ℕ) (done : CanClose (record { states = states; records = rs }) number) where
  -- its number is that of a record and of a state
  pub record_there : number < length rs
  record_there = slice_get_within rs number done.said done.there

  pub state_there : number < length states
  state_there = slice_get_within states number done.process done.forked.state_is

  -- the record that was read says which are its children
  pub forked_so : (r p : Record) (n : ℕ) → r ≡ get_or rs number r → p ≡ get_or rs number p → n ≡ fork_size p.status → Has states (map record_view rs) number r.first done.process (forks n)
  forked_so r p n is_r is_p is_n =
      let so : record_view done.said ≡ used done.first (forks done.many) = some_same (record_view done.said) (used done.first (forks done.many)) (sym (map_get record_view rs number ∙ ap (option_map record_view) done.there) ∙ done.forked.view_is) in
      let fork_is = forked_says done.said.first done.first done.many done.said.status so in
      let first : r.first ≡ done.first = ap (λ (z : Record). z.first) (read_there rs number r done.said record_there is_r done.there) ∙ fork_is.0 in
      let many : n ≡ done.many = is_n ∙ (ap (λ (z : Record). fork_size z.status) (read_there rs number p done.said record_there is_p done.there) ∙ fork_is.1) in
      subst (λ z. Has states (map record_view rs) number z done.process (forks n)) (sym first) (subst (λ z. Has states (map record_view rs) number done.first done.process (forks z)) (sym many) done.forked)

module _ {S : Type 0} (o : Ops S) (law : LocalLaws o) (states : List S) (rs : List Record) (number : ℕ) (kept : HasTableInvariant o (record { states = states; records = rs })) (done : CanClose (record { states = states; records = rs }) number) (first count : ℕ)
    (has : Has states (map record_view rs) number first done.process (forks count)) where
  -- ---- what is asked for

  pub is_apart : (number < first) ⊎ (first + count ≤ number)
  is_apart = apart o law kept.0 states rs kept.1 number first count done.process kept.2 has

  pub states_within : first + count ≤ length states
  states_within = within o law kept.0 states rs kept.1 number first count done.process kept.2 has

  pub records_within : first + count ≤ length rs
  records_within = let w = states_within in let same = kept.2.beside in omega (arith, w, same)

  pub are_born : (l : S) → slice_get states number ≡ Some l → o.born l (segment first count states)
  are_born l e = subst (λ z. o.born z (segment first count states)) (some_same done.process l (sym done.forked.state_is ∙ e)) (born o law kept.0 states rs kept.1 number first count done.process kept.2 has)

  pub is_below : (label : Option Death) → label ≡ prevailing_among (segment first count (map record_view rs)) → (l : S) (x : Death) → slice_get states number ≡ Some l → label ≡ Some x → x.label < o.handlers (o.join l (segment first count states) false)
  is_below label read l x e f =
      subst (λ z. x.label < o.handlers (o.join z (segment first count states) false)) (some_same done.process l (sym done.forked.state_is ∙ e))
      (below o law kept.0 states rs kept.1 number first count done.process kept.2 has x (sym read ∙ f))

  -- ---- what came of it

  module _ (label : Option Death) (outcome : CloseOutcome) (now : List S) (read : label ≡ prevailing_among (segment first count (map record_view rs)))
      (taken : (l : S) → slice_get states number ≡ Some l → (s : S) × (now ≡ slice_set states number s) × (acted_by outcome s ≡ closed o l (segment first count states) label)) where
    last : (s : S) × (now ≡ slice_set states number s) × (acted_by outcome s ≡ closed o done.process (segment first count states) label)
    last = taken done.process done.forked.state_is

    abbrev a : Acted S
    a = acted_by outcome last.0

    is : a ≡ closed o done.process (segment first count states) (prevailing_among (segment first count (map record_view rs)))
    is = last.2 ∙ ap (closed o done.process (segment first count states)) read

    state_is : state a.node ≡ last.0
    state_is = acted_state outcome last.0

    set : now ≡ slice_set states number (state a.node)
    set = last.1 ∙ ap (slice_set states number) (sym state_is)

    its : (s : S) → slice_get now number ≡ Some s → s ≡ state a.node
    its s e = some_same s (state a.node) (sym e ∙ (ap (λ z. slice_get z number) set ∙ set_there states number done.process (state a.node) done.forked.state_is))

    pub few : (s : S) → slice_get now number ≡ Some s → length (o.given s) ≤ 18446744073709551615
    few s e = subst (λ z. length (o.given z) ≤ 18446744073709551615) (sym (its s e)) (given_few o law kept.0 (tree_of o kept.1) states rs number first count done.process done.said a kept.2 has done.there done.none_goes is)

    pub still_there : number < length now
    still_there = let w = state_there states rs number done in let long = ap length set ∙ length-set states number (state a.node) in omega (arith, w, long)

    module _ (freed behind : List Record) (status : Status) (end : ℕ) (free : AreFreed first count rs freed) (status_is : process_status_of status ≡ status_by_close outcome)
        (settled : ClosesRecord o now number status label freed behind) (unused : (i : ℕ) (r : Record) → end ≤ i → slice_get behind i ≡ Some r → record_view r ≡ unused_so) where
      same_status : process_status_of status ≡ process_status a.node
      same_status = status_is ∙ sym (acted_status outcome last.0)

      same_state : settled.process ≡ state a.node
      same_state = its settled.process settled.state_is

      same_beside : without_status settled.was ≡ without_status done.said
      same_beside = some_same (without_status settled.was) (without_status done.said) (sym (ap (option_map without_status) settled.there) ∙ (said_alike without_status rs freed free.beside number ∙ ap (option_map without_status) done.there))

      come : HasCome done.said settled.is (process_status a.node)
      come = record {
        first = settled.come.first;
        view_is = subst (λ z. record_view settled.is ≡ used settled.come.first z) same_status settled.come.view_is;
        parent = settled.come.parent ∙ ap (λ (z : RecordWithoutStatus). z.parent) same_beside;
        path = settled.come.path ∙ ap (λ (z : RecordWithoutStatus). z.path) same_beside;
        no_pairs = settled.come.no_pairs;
      }

      leaves : CountsOffIfOver (process_status a.node) number (slice_set freed number settled.is) settled.left
      leaves = subst (λ z. CountsOffIfOver z number (slice_set freed number settled.is) settled.left) same_status settled.leaves

      walked : AllUpdated o (state a.node) (process_status a.node) 4294967295 number settled.left settled.between
      walked = subst (λ z. AllUpdated o z (process_status a.node) 4294967295 number settled.left settled.between) same_state (subst (λ z. AllUpdated o settled.process z 4294967295 number settled.left settled.between) same_status settled.walked)

      again : RecomputedIf (prevailing_among (segment first count (map record_view rs))) o (slice_set states number (state a.node)) (state a.node) 4294967295 number settled.between behind
      again = subst (λ z. RecomputedIf (prevailing_among (segment first count (map record_view rs))) o z (state a.node) 4294967295 number settled.between behind) set
          (subst (λ z. RecomputedIf z o now (state a.node) 4294967295 number settled.between behind) read (subst (λ z. RecomputedIf label o now z 4294967295 number settled.between behind) same_state settled.again))

      abbrev After : TableView S
      After = record { states = take end now; records = take end behind }

      pub moves : Performs o (Close (o.path done.process)) (record { states = states; records = rs }) After
      moves rp t was =
          let w = close_preserves o law rp t states rs freed settled.left settled.between behind number first count done.process done.said settled.is a was has done.there done.none_goes is free come leaves walked again in
          (w.0, w.1, subst (λ z. TableInvariant o rp (record { states = take end z; records = take end behind }) w.0.root) (sym set) (cut o rp w.0.root (slice_set states number (state a.node)) behind end w.2 unused))

      pub still_kept : HasTableInvariant o After
      still_kept = let w = moves kept.0 (tree_of o kept.1) kept.2 in (kept.0, w.0.root, w.2)

      closes : HasClosed states (slice_set states number (state a.node)) (map record_view rs) (map record_view behind) number first count (state a.node) (process_status a.node)
      closes =
          subst (λ z. HasClosed states (slice_set states number (state a.node)) (map record_view rs) z number first count (state a.node) (process_status a.node))
          (sym (views_stay o (slice_set states number (state a.node)) (state a.node) (process_status a.node) 4294967295 number (slice_set freed number settled.is) settled.left settled.between behind (prevailing_among (segment first count (map record_view rs))) leaves walked again))
          (behind_close o law kept.0 (tree_of o kept.1) states rs number first count done.process done.said a kept.2 has done.there done.none_goes is freed settled.is free come).closes

      touches : (m : ℕ) → ChangesOnlyRecords m number freed behind → ChangesOnlyAbove m number (record { states = states; records = rs }) After
      touches m moved =
          let w = close_preserves o law kept.0 (tree_of o kept.1) states rs freed settled.left settled.between behind number first count done.process done.said settled.is a kept.2 has done.there done.none_goes is free come leaves walked again in
          let now : TableView S = record { states = slice_set states number (state a.node); records = behind } in
          let mine : IsInUse now number = (closes.first, state a.node, process_status a.node, closes.parent) in
          subst (λ z. ChangesOnlyAbove m number (record { states = states; records = rs }) (record { states = take end z; records = take end behind })) (sym set)
          (cut_touched o now end unused m number (record { states = states; records = rs }) (kept.0, w.0.root, w.2) mine (closes_touch states rs freed behind m number first count (state a.node) free moved))

      path : o.path (state a.node) ≡ o.path done.process
      path =
          let b = behind_close o law kept.0 (tree_of o kept.1) states rs number first count done.process done.said a kept.2 has done.there done.none_goes is freed settled.is free come in
          sym (b.fits settled.is settled.is (set_there freed number settled.was settled.is settled.there) refl).path ∙ (come.path ∙ (kept.2.fit number first done.process (forks count) done.said has done.there).path)

      is_no_child : (b : ℕ) → b < count → number ≢ first + b
      is_no_child b less e = elim is_apart [ inl w ↦ absurd (omega (arith, w, e)) | inr w ↦ absurd (omega (arith, w, e, less)) ]

      pub closes_here : (m : ℕ) → ChangesOnlyRecords m number freed behind → ClosesAt o m number outcome (record { states = states; records = rs }) After
      closes_here m moved = record {
        first = first;
        many = count;
        process = done.process;
        forked = has;
        left = a;
        does = is;
        path = path;
        apart = is_no_child;
        effects_are = acted_effects outcome last.0;
        came = came_to outcome last.0;
        becomes = subst (λ z. HasClosed states (take end z) (map record_view rs) (map record_view (take end behind)) number first count (state a.node) (process_status a.node)) (sym set)
            (closed_cut (slice_set states number (state a.node)) behind end unused states (map record_view rs) number first count (state a.node) (process_status a.node) closes);
        moves = moves;
        touches = touches m moved;
      }
