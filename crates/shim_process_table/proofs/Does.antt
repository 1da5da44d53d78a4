-- What one live process did by itself in place, as an event of the tree that is shown.
use Rattle.std.proofs.Common.{◌≡◌, ◌≤◌, ◌<◌, ℕ, zero, suc, ◌+◌, ℤ, true, false, cond, ltb, Option, Some, None, List, [], ◌∷◌, length, get_or, slice_set, refl, sym, ap, subst, ◌∙◌}
use Rattle.std.specs.Prelude.{slice_get}
use Rattle.std.proofs.lemmas.Option.{slice_get_read, slice_get_within}
use Rattle.shim_base.proofs.Facts.{some_same}
use Rattle.shim_local.specs.Process.{Ops, StopView, AtPut, AtThrow}
use Rattle.shim_local.specs.Laws.{LocalLaws}
use Rattle.shim_semantics.specs.Nodes.{Live, Dead, Death, death_with, handed, goes, state}
use Rattle.shim_semantics.specs.Acts.{Acted, Effects, nothing, putting, catch_logged, throwing, act_live}
use Rattle.shim_semantics.specs.Acts as act
use Rattle.shim_semantics.specs.Places.{at}
use Rattle.shim_semantics.proofs.Replaced.{sound_at}
use Rattle.shim_laws_table.specs.NodeStatus.{ProcessStatus, lives, place}
use Rattle.shim_laws_table.specs.Agrees.{used}
use Rattle.shim_laws_table.proofs.SameTrees.{seen_live}
use Rattle.shim_laws_table.proofs.Hanging.{tree_of}
use Rattle.shim_records.specs.Pairs.{record_view}
use Rattle.shim_records.specs.Acted.{process_status_of}
use Rattle.shim_records.specs.declared.record.Record.{Record}
use Rattle.shim_records.specs.declared.record.Status.{Status}
use Rattle.shim_records.proofs.Representing.{map_get}
use Rattle.shim_laws_table_events.specs.keeping.Tables.{TableView, HasProcessState, HasTableInvariant}
use Rattle.shim_laws_table_events.specs.keeping.Moves.{Performs}
use Rattle.shim_laws_table_events.specs.keeping.Propagating.{PropagatesStop}
use Rattle.shim_laws_table_events.specs.keeping.Acting.{event_at_stop, left_by, Terminates}
use Rattle.shim_laws_table_events.proofs.keeping.Acts.{lives_on}
use Rattle.shim_laws_table_events.proofs.keeping.Moved.{from_map}
use Rattle.shim_laws_table_events.proofs.keeping.Gone.{exit_preserves}
use Rattle.shim_laws_table_events.proofs.keeping.Marks.{left_status, changed_then}
use Rattle.shim_process_table.specs.Stepping.{LivesAt, HasBecome}
use Rattle.shim_process_table.specs.Acting.{ActsAlone, status_by_throw, throw_effects, thrown_by}
use Rattle.shim_process_table.specs.declared.acting.Thrown.{Thrown}
use Rattle.shim_process_table.specs.declared.acting.Thrown.TheVariants as thrown
use Rattle.shim_process_table.specs.Touching.{ChangesOnlyRecords, StopReadies}
use Rattle.shim_process_table.proofs.HereSteps.{read_set, has_become}
use Rattle.shim_process_table.proofs.Readied.{touches_requeue, arrival_readies}
use Rattle.shim_process_table.proofs.TouchingOwn.{records_touched}

module _ {S : Type 0} (o : Ops S) where
  -- ---- what is known of a live process before anything is done

  module _ (states : List S) (rs : List Record) (x : ℕ) (stop : StopView) (l : S) (here : LivesAt o (record { states = states; records = rs }) x stop) (read : l ≡ get_or states x l) where
    is : slice_get states x ≡ Some l
    is = slice_get_read states (length states) x l refl (slice_get_within states x here.1 here.2.state_is) read

    pub its : HasProcessState (record { states = states; records = rs }) x here.0 l lives
    its = record { state_is = is; view_is = here.2.view_is }

    pub stop_was : o.stop l ≡ stop
    stop_was = ap o.stop (some_same l here.1 (sym is ∙ here.2.state_is)) ∙ here.3

  -- one state is there, however often it is read
  pub one_read : (states : List S) (rs : List Record) (x : ℕ) (stop : StopView) (l m : S) → LivesAt o (record { states = states; records = rs }) x stop → l ≡ get_or states x l → m ≡ get_or states x m → l ≡ m
  one_read states rs x stop l m here read again = some_same l m (sym (is states rs x stop l here read) ∙ is states rs x stop m here again)

  -- its record
  pub record_there : (states : List S) (rs : List Record) (x : ℕ) (stop : StopView) → LivesAt o (record { states = states; records = rs }) x stop → (r : Record) × (slice_get rs x ≡ Some r)
  record_there states rs x stop here = let w = from_map record_view (slice_get rs x) (used here.0 lives) (sym (map_get record_view rs x) ∙ here.2.view_is) in (w.0, w.1)

  pub inside_states : (states : List S) (rs : List Record) (x : ℕ) (stop : StopView) → LivesAt o (record { states = states; records = rs }) x stop → x < length states
  inside_states states rs x stop here = slice_get_within states x here.1 here.2.state_is

  -- it is sound, and wasn't given too much
  pub is_sound : (states : List S) (rs : List Record) (x f : ℕ) (l : S) → HasTableInvariant o (record { states = states; records = rs }) → HasProcessState (record { states = states; records = rs }) x f l lives → o.sound l
  is_sound states rs x f l kept has = sound_at o (place o kept.0 l) kept.1 (Live l) kept.2.represents.sound.below (seen_live (at (place o kept.0 l) kept.1) l (kept.2.represents.agrees.shown x f l lives has))

  pub few_given : (states : List S) (rs : List Record) (x f : ℕ) (l : S) → HasTableInvariant o (record { states = states; records = rs }) → HasProcessState (record { states = states; records = rs }) x f l lives → length (o.given l) ≤ 18446744073709551615
  few_given states rs x f l kept has =
      let w = from_map record_view (slice_get rs x) (used f lives) (sym (map_get record_view rs x) ∙ has.view_is) in
      (kept.2.fit x f l lives w.0 has w.1).few

  -- ---- what it does

  pub puts : (l s : S) (byte : Option ℕ) → byte ≡ o.byte l → s ≡ o.put l → act_live o l AtPut ≡ Some (record { node = Live s; effects = putting byte })
  puts l s byte effects_are next = λ i. let a : Acted S = record { node = Live (sym next i); effects = putting (sym effects_are i) } in Some a

  -- a throw of a process: who dies is as it was
  dies_itself : (l s : S) (d e : Death) → thrown_by (thrown.Died d) s ≡ act.thrown o l e → s ≡ l
  dies_itself l s d e h =
      let dies : Acted S = record { node = Dead l e; effects = nothing } in
      let goes_on : Acted S = record { node = Live (o.unwind l e.label (handed e.given)); effects = catch_logged (o.handler l e.label) } in
      elim (ltb e.label (o.base l)) as (λ b. thrown_by (thrown.Died d) s ≡ cond b dies goes_on → s ≡ l) [ true ↦ λ z. ap (λ (w : Acted S). state w.node) z | false ↦ λ z. absurd (cc (ap (λ (w : Acted S). w.node) z)) ] h

  died_same : (l s : S) (d : Death) (label : ℕ) (r : Option ℤ) → thrown_by (thrown.Died d) s ≡ throwing o l label r → s ≡ l
  died_same l s d label None h = absurd (cc (ap (λ (w : Acted S). w.node) h))
  died_same l s d label (Some v) h = dies_itself l s d (death_with label v) h

  pub throw_dies : (l s : S) (d : Death) (label : ℕ) → thrown_by (thrown.Died d) s ≡ throwing o l label (o.number l) → (s ≡ l) × (act_live o l (AtThrow label) ≡ Some (record { node = Dead l d; effects = nothing }))
  throw_dies l s d label h =
      let same = died_same l s d label (o.number l) h in
      (same, ap Some (sym h ∙ ap (thrown_by (thrown.Died d)) same))

  -- who lives on does so as it is then
  pub throw_lives : (l s : S) (t : Thrown) (label : ℕ) → status_by_throw t ≡ lives → thrown_by t s ≡ throwing o l label (o.number l) → act_live o l (AtThrow label) ≡ Some (record { node = Live s; effects = throw_effects t })
  throw_lives l s (thrown.Caught name line) label e h = ap Some (sym h)
  throw_lives l s (thrown.Died d) label e h = absurd cc
  throw_lives l s thrown.Trapped label e h = ap Some (sym h)

  pub lives_by : (t : Thrown) → ((d : Death) → t ≡ thrown.Died d → ⊥) → status_by_throw t ≡ lives
  lives_by (thrown.Caught name line) n = refl
  lives_by (thrown.Died d) n = absurd (n d refl)
  lives_by thrown.Trapped n = refl

  -- an item in its own place
  pub set_same : {A : Type 0} (xs : List A) (i : ℕ) (x : A) → slice_get xs i ≡ Some x → slice_set xs i x ≡ xs
  set_same [] i x e = refl
  set_same (y ∷ xs) zero x e = ap (λ z. z ∷ xs) (sym (some_same y x e))
  set_same (y ∷ xs) (suc i) x e = ap (λ z. y ∷ z) (set_same xs i x e)

  -- ---- what was done

  -- the records still show a tree
  pub still_kept : (n x : ℕ) (stop : StopView) (k : ProcessStatus) (effects : Effects) (before behind : TableView S) → ActsAlone o n x stop k effects before behind → HasTableInvariant o before → HasTableInvariant o behind
  still_kept n x stop k effects before behind did h = let w = did.moves h.0 (tree_of o h.1) h.2 in (h.0, w.0.root, w.2)

  module _ (law : LocalLaws o) (states : List S) (rs behind : List Record) (x : ℕ) (stop : StopView) (effects : Effects) (l : S) (here : LivesAt o (record { states = states; records = rs }) x stop) (read : l ≡ get_or states x l) where
    has : HasProcessState (record { states = states; records = rs }) x here.0 l lives
    has = its states rs x stop l here read

    stop_is : o.stop l ≡ stop
    stop_is = stop_was states rs x stop l here read

    -- it is there, as it is read then
    pub lives_then : (s now : S) → now ≡ get_or (slice_set states x s) x now → PropagatesStop o now 4294967295 x rs behind → (f : ℕ) × HasProcessState (record { states = slice_set states x s; records = behind }) x f now lives
    lives_then s now read_then came =
        let is = read_set states x l s now has.state_is read_then in
        let b = has_become o states rs behind x here.0 l s has (subst (λ z. PropagatesStop o z 4294967295 x rs behind) is came) in
        (b.first, subst (λ z. HasProcessState (record { states = slice_set states x s; records = behind }) x b.first z lives) (sym is) b.mine)

    -- it lives on
    pub lives_here : (n : ℕ) (s now : S) → now ≡ get_or (slice_set states x s) x now → PropagatesStop o now 4294967295 x rs behind → StopReadies o now n x rs behind → act_live o l stop ≡ Some (record { node = Live s; effects = effects })
        → ActsAlone o n x stop lives effects (record { states = states; records = rs }) (record { states = slice_set states x s; records = behind })
    lives_here n s now read_then came readies does =
        let propagates = subst (λ z. PropagatesStop o z 4294967295 x rs behind) (read_set states x l s now has.state_is read_then) came in
        let b = has_become o states rs behind x here.0 l s has propagates in
        record {
          first = here.0;
          process = l;
          has = has;
          stop_was = stop_is;
          left = Live s;
          does = does;
          came = refl;
          becomes = b;
          moves = subst (λ z. Performs o (event_at_stop z (o.path l)) (record { states = states; records = rs }) (record { states = slice_set states x s; records = behind })) stop_is
              (lives_on o law states rs behind x here.0 l s effects has (ap (act_live o l) stop_is ∙ does) propagates);
          newly_ready = arrival_readies o n x b.first states rs behind s b.mine (subst (λ z. StopReadies o z n x rs behind) (read_set states x l s now has.state_is read_then) readies);
        }

    module _ (n : ℕ) (k : Status) (gone : goes (left_by l k) ≡ false) (leaves : Terminates o l k 4294967295 x rs behind) (touches : ChangesOnlyRecords n x rs behind) where
      -- it ends or dies
      pub leaves_here : act_live o l stop ≡ Some (record { node = left_by l k; effects = effects }) → ActsAlone o (n + 1) x stop (process_status_of k) effects (record { states = states; records = rs }) (record { states = states; records = behind })
      leaves_here does = record {
        first = here.0;
        process = l;
        has = has;
        stop_was = stop_is;
        left = left_by l k;
        does = does;
        came = left_status l k gone;
        becomes = subst (λ z. HasBecome x (state (left_by l k)) z (record { states = states; records = rs }) (record { states = states; records = behind })) (left_status l k gone) (changed_then o states rs behind l k x here.0 has leaves gone);
        moves = subst (λ z. Performs o (event_at_stop z (o.path l)) (record { states = states; records = rs }) (record { states = states; records = behind })) stop_is
            (exit_preserves o law states rs behind x here.0 l k effects has (ap (act_live o l) stop_is ∙ does) gone leaves);
        newly_ready = touches_requeue o n x (record { states = states; records = rs }) (record { states = states; records = behind }) (records_touched n x states rs behind touches);
      }
