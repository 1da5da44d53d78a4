-- What quiet steps in place are to the tree.
use Rattle.std.proofs.Common.{◌≡◌, ◌≢◌, ◌<◌, ℕ, Bool, true, false, Some, List, [], ◌∷◌, ◌++◌, length, map, get_or, slice_set, refl, sym, ap, subst, ◌∙◌}
use Rattle.std.specs.Prelude.{slice_get}
use Rattle.std.specs.Option.{option_map}
use Rattle.std.proofs.lemmas.Option.{slice_get_read, slice_get_within}
use Rattle.std.proofs.lemmas.List.{length-set}
use Rattle.shim_base.proofs.Facts.{some_same}
use Rattle.shim_local.specs.Process.{Ops, StopView, AtQuiet}
use Rattle.shim_local.specs.Laws.{LocalLaws}
use Rattle.shim_local.specs.Quiets.{QuietSteps}
use Rattle.shim_laws_table.specs.NodeStatus.{lives}
use Rattle.shim_laws_table.specs.Agrees.{used}
use Rattle.shim_laws_table.specs.Changes.{HasChanged}
use Rattle.shim_laws_table.proofs.Hanging.{tree_of}
use Rattle.shim_records.specs.Pairs.{record_view, status_view, rest_of}
use Rattle.shim_records.specs.declared.record.Record.{Record}
use Rattle.shim_records.specs.declared.record.Status.{Status}
use Rattle.shim_records.specs.declared.record.Status.TheVariants as code
use Rattle.shim_records.proofs.Stepping.{set_there, set_elsewhere}
use Rattle.shim_records.proofs.Representing.{map_get}
use Rattle.shim_records.proofs.ReadOff.{same_views}
use Rattle.shim_laws_table_events.specs.keeping.Tables.{TableView, HasProcessState, HasTableInvariant}
use Rattle.shim_laws_table_events.specs.keeping.Moves.{PerformsQuiet}
use Rattle.shim_laws_table_events.specs.keeping.Propagating.{PropagatesStop, nowhere, there}
use Rattle.shim_laws_table_events.proofs.keeping.Steps.{advanced}
use Rattle.shim_process_table.specs.Touching.{ReadiesAbove, StopReadies}
use Rattle.shim_process_table.proofs.Readied.{arrival_readies}
use Rattle.shim_process_table.specs.Stepping.{HasBecome, LivesAt, IsLive, IsBeforeQuiet, StepsAt, QuietlyReaches, is_live}

-- one value after none
pub one_pushed : {A : Type 0} (new old : List A) (x : A) → new ≡ old ++ x ∷ [] → old ≡ [] → new ≡ x ∷ []
one_pushed new old x e none = e ∙ ap (λ z. z ++ x ∷ []) none

-- what stands where another value was put
pub read_set : {A : Type 0} (xs : List A) (i : ℕ) (x y z : A) → slice_get xs i ≡ Some x → z ≡ get_or (slice_set xs i y) i z → z ≡ y
read_set xs i x y z e h = some_same z y (sym (slice_get_read (slice_set xs i y) (length (slice_set xs i y)) i z refl within h) ∙ set_there xs i x y e)
  where
    within : i < length (slice_set xs i y)
    within = subst (λ n. i < n) (sym (length-set xs i y)) (slice_get_within xs i x e)

live_view : (f : ℕ) (k : Status) → is_live k ≡ true → status_view f k ≡ used f lives
live_view f code.Free e = absurd cc
live_view f code.Live e = refl
live_view f (code.Forked n) e = absurd cc
live_view f code.Ended e = absurd cc
live_view f (code.Dead x) e = absurd cc

no_longer_lives : (f g : ℕ) (k : Status) → is_live k ≡ false → status_view f k ≡ used g lives → ⊥
no_longer_lives f g code.Free e h = absurd cc
no_longer_lives f g code.Live e h = absurd cc
no_longer_lives f g (code.Forked n) e h = absurd cc
no_longer_lives f g code.Ended e h = absurd cc
no_longer_lives f g (code.Dead x) e h = absurd cc

-- what a record says of its process
pub is_alive : {S : Type 0} (v : TableView S) (i : ℕ) (l : S) (r : Record) → slice_get v.states i ≡ Some l → slice_get v.records i ≡ Some r → IsLive i v (is_live r.status)
is_alive {S} v i l r state record_is = on (is_live r.status) refl
  where
    says : slice_get (map record_view v.records) i ≡ Some (record_view r)
    says = map_get record_view v.records i ∙ ap (option_map record_view) record_is

    on : (b : Bool) → is_live r.status ≡ b → IsLive i v b
    on true e = (r.first, l, record { state_is = state; view_is = says ∙ ap Some (live_view r.first r.status e) })
    on false e = λ f s has. no_longer_lives r.first f r.status e (some_same (record_view r) (used f lives) (sym says ∙ has.view_is))

-- what is read of the state of a live process
pub state_read : {S : Type 0} (v : TableView S) (i : ℕ) (l : S) → IsLive i v true → l ≡ get_or v.states i l → slice_get v.states i ≡ Some l
state_read v i l here read = slice_get_read v.states (length v.states) i l refl (slice_get_within v.states i here.1 here.2.state_is) read

module _ {S : Type 0} (o : Ops S) where
  pub lives_at_stop : (v : TableView S) (i : ℕ) (l : S) (stop : StopView) → IsLive i v true → l ≡ get_or v.states i l → stop ≡ o.stop l → LivesAt o v i stop
  lives_at_stop v i l stop here read e = (here.0, l, record { state_is = state_read v i l here read; view_is = here.2.view_is }, sym e)

  pub before_quiet : (v : TableView S) (i : ℕ) (l : S) (b : Bool) → IsLive i v true → l ≡ get_or v.states i l → (b ≡ true → o.stop l ≡ AtQuiet) → (b ≡ false → o.stop l ≢ AtQuiet) → IsBeforeQuiet o i v b
  before_quiet v i l true here read quiet other = lives_at_stop v i l AtQuiet here read (sym (quiet refl))
  before_quiet v i l false here read quiet other = λ f s has e. other refl (ap o.stop (some_same l s (sym (state_read v i l here read) ∙ has.state_is)) ∙ e)

  -- one process alone is there
  pub no_longer_quiet : (v : TableView S) (i f : ℕ) (l : S) → HasProcessState v i f l lives → o.stop l ≢ AtQuiet → IsBeforeQuiet o i v false
  no_longer_quiet v i f l has other g s h e = other (ap o.stop (some_same l s (sym has.state_is ∙ h.state_is)) ∙ e)

  -- beside the counts the records say what they did
  pub rest_arrived : (s : S) (n x : ℕ) (before behind : List Record) → PropagatesStop o s n x before behind → map rest_of behind ≡ map rest_of before
  rest_arrived s n x before behind (nowhere e same) = ap (map rest_of) same
  rest_arrived s n x before behind (there d was is e u v updated) = updated.1.rest

  module _ (states : List S) (rs behind : List Record) (x f : ℕ) (l s : S) (has : HasProcessState (record { states = states; records = rs }) x f l lives) (propagates : PropagatesStop o s 4294967295 x rs behind) where
    -- another state is in the record of a live process
    pub has_become : HasBecome x s lives (record { states = states; records = rs }) (record { states = slice_set states x s; records = behind })
    has_become = subst (λ z. HasChanged states (slice_set states x s) (map record_view rs) z x s lives) (sym (same_views rs behind (rest_arrived s 4294967295 x rs behind propagates))) (record {
      first = f;
      mine = record { state_is = set_there states x l s has.state_is; view_is = has.view_is };
      others = λ j d t k n h. record { state_is = set_elsewhere states x j s n ∙ h.state_is; view_is = h.view_is };
      only = λ j d t k n h. record { state_is = sym (set_elsewhere states x j s n) ∙ h.state_is; view_is = h.view_is };
    })

  module _ (law : LocalLaws o) (states : List S) (rs behind : List Record) (x n : ℕ) (l last now : S) (before : IsBeforeQuiet o x (record { states = states; records = rs }) true) (read : l ≡ get_or states x l) (taken : QuietSteps o n l last)
      (read_then : now ≡ get_or (slice_set states x last) x now) (came : PropagatesStop o now 4294967295 x rs behind) where
    is : slice_get states x ≡ Some l
    is = slice_get_read states (length states) x l refl (slice_get_within states x before.1 before.2.state_is) read

    its : HasProcessState (record { states = states; records = rs }) x before.0 l lives
    its = record { state_is = is; view_is = before.2.view_is }

    stop : o.stop l ≡ AtQuiet
    stop = ap o.stop (some_same l before.1 (sym is ∙ before.2.state_is)) ∙ before.3

    pub propagates : PropagatesStop o last 4294967295 x rs behind
    propagates = subst (λ z. PropagatesStop o z 4294967295 x rs behind) (read_set states x l last now is read_then) came

    advances : PerformsQuiet o (o.path l) n (record { states = states; records = rs }) (record { states = slice_set states x last; records = behind })
    advances rp t kept = advanced o law rp t states rs behind n x before.0 l last kept its stop taken propagates

    -- it is there, as it is read then
    pub lives_then : (f : ℕ) × HasProcessState (record { states = slice_set states x last; records = behind }) x f now lives
    lives_then =
        let b = has_become states rs behind x before.0 l last its propagates in
        (b.first, subst (λ z. HasProcessState (record { states = slice_set states x last; records = behind }) x b.first z lives) (sym (read_set states x l last now is read_then)) b.mine)

    -- and by no other record more can happen, but by so many forks above
    pub readies_here : (m : ℕ) → StopReadies o now m x rs behind → ReadiesAbove o m x (record { states = states; records = rs }) (record { states = slice_set states x last; records = behind })
    readies_here m readies =
        let b = has_become states rs behind x before.0 l last its propagates in
        arrival_readies o m x b.first states rs behind last b.mine (subst (λ z. StopReadies o z m x rs behind) (read_set states x l last now is read_then) readies)

    pub steps_here : StepsAt o x n (record { states = states; records = rs }) (record { states = slice_set states x last; records = behind })
    steps_here = record {
      first = before.0;
      process = l;
      last = last;
      has = its;
      stop_was = stop;
      chain = taken;
      becomes = has_become states rs behind x before.0 l last its propagates;
      advances = advances;
    }

    pub still_kept : HasTableInvariant o (record { states = states; records = rs }) → HasTableInvariant o (record { states = slice_set states x last; records = behind })
    still_kept h = let w = advances h.0 (tree_of o h.1) h.2 in (h.0, w.0.root, w.2)

    pub other_stop : o.stop last ≢ AtQuiet → IsBeforeQuiet o x (record { states = slice_set states x last; records = behind }) false
    other_stop other = let b = has_become states rs behind x before.0 l last its propagates in no_longer_quiet (record { states = slice_set states x last; records = behind }) x b.first last b.mine other

  -- the same where they were done elsewhere
  module _ (law : LocalLaws o) (states : List S) (rs behind : List Record) (x n : ℕ) (last now : S) (comes : QuietlyReaches o (record { states = states; records = rs }) x n last) (read_then : now ≡ get_or (slice_set states x last) x now)
      (came : PropagatesStop o now 4294967295 x rs behind) where
    pub arrives_elsewhere : PropagatesStop o last 4294967295 x rs behind
    arrives_elsewhere = subst (λ z. PropagatesStop o z 4294967295 x rs behind) (read_set states x comes.process last now comes.has.state_is read_then) came

    moves_on : PerformsQuiet o (o.path comes.process) n (record { states = states; records = rs }) (record { states = slice_set states x last; records = behind })
    moves_on rp t kept = advanced o law rp t states rs behind n x comes.first comes.process last kept comes.has comes.stop_is comes.chain arrives_elsewhere

    pub lives_elsewhere : (f : ℕ) × HasProcessState (record { states = slice_set states x last; records = behind }) x f now lives
    lives_elsewhere =
        let b = has_become states rs behind x comes.first comes.process last comes.has arrives_elsewhere in
        (b.first, subst (λ z. HasProcessState (record { states = slice_set states x last; records = behind }) x b.first z lives) (sym (read_set states x comes.process last now comes.has.state_is read_then)) b.mine)

    pub readies_elsewhere : (m : ℕ) → StopReadies o now m x rs behind → ReadiesAbove o m x (record { states = states; records = rs }) (record { states = slice_set states x last; records = behind })
    readies_elsewhere m readies =
        let b = has_become states rs behind x comes.first comes.process last comes.has arrives_elsewhere in
        arrival_readies o m x b.first states rs behind last b.mine (subst (λ z. StopReadies o z m x rs behind) (read_set states x comes.process last now comes.has.state_is read_then) readies)

    pub steps_elsewhere : StepsAt o x n (record { states = states; records = rs }) (record { states = slice_set states x last; records = behind })
    steps_elsewhere = record {
      first = comes.first;
      process = comes.process;
      last = last;
      has = comes.has;
      stop_was = comes.stop_is;
      chain = comes.chain;
      becomes = has_become states rs behind x comes.first comes.process last comes.has arrives_elsewhere;
      advances = moves_on;
    }

    pub kept_elsewhere : HasTableInvariant o (record { states = states; records = rs }) → HasTableInvariant o (record { states = slice_set states x last; records = behind })
    kept_elsewhere h = let w = moves_on h.0 (tree_of o h.1) h.2 in (h.0, w.0.root, w.2)
