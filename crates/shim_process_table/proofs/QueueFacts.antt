-- In which list a process belongs.
use Rattle.std.proofs.Common.{◌≡◌, ◌≢◌, ◌⊎◌, ℕ, false, Some, length, get_or, inl, inr, refl, sym, ap, ◌∙◌}
use Rattle.std.specs.Prelude.{slice_get}
use Rattle.std.specs.Option.{option_map}
use Rattle.std.proofs.lemmas.Option.{slice_get_read, slice_get_within}
use Rattle.shim_base.proofs.Facts.{some_same}
use Rattle.shim_base.specs.Paths.{NamedChannel}
use Rattle.shim_local.specs.Process.{Ops, AtQuiet, AtNext}
use Rattle.shim_semantics.specs.Nodes.{Death}
use Rattle.shim_laws_table.specs.NodeStatus.{lives, dies}
use Rattle.shim_laws_table.specs.Agrees.{used as used_by}
use Rattle.shim_records.specs.Pairs.{record_view, status_view}
use Rattle.shim_records.specs.declared.record.Record.{Record}
use Rattle.shim_records.specs.declared.record.Status.{Status}
use Rattle.shim_records.specs.declared.record.Status.TheVariants as code
use Rattle.shim_records.proofs.Representing.{map_get}
use Rattle.shim_laws_table_events.specs.keeping.Tables.{TableView, HasProcessState}
use Rattle.shim_laws_table_events.specs.queues.RecordDecisions.{HasNothingDue, has_died}
use Rattle.shim_laws_table_events.proofs.queues.PairsFound.{record_of}
use Rattle.shim_process_table.specs.Lookups.{IsInUse}
use Rattle.shim_process_table.specs.Stepping.{IsBeforeQuiet}
use Rattle.shim_process_table.proofs.DueFacts.{at_rest, live_process}

-- what came of it isn't that it lives
not_alive : {B : Type 0} (f g : ℕ) (k : Status) → (k ≢ code.Live) → status_view f k ≡ used_by g lives → B
not_alive f g code.Free other e = absurd cc
not_alive f g code.Live other e = absurd (other refl)
not_alive f g (code.Forked n) other e = absurd cc
not_alive f g code.Ended other e = absurd cc
not_alive f g (code.Dead x) other e = absurd cc

-- at a channel no quiet step comes next
pub next_alone : (d : NamedChannel) → AtNext d ≢ AtQuiet
next_alone d e = absurd cc

module _ {S : Type 0} (o : Ops S) (v : TableView S) (i : ℕ) where
  -- a live process is at one thing alone
  pub not_at_quiet : (f : ℕ) (l : S) → HasProcessState v i f l lives → o.stop l ≢ AtQuiet → IsBeforeQuiet o i v false
  not_at_quiet f l has other g s h e = other (ap o.stop (some_same l s (sym has.state_is ∙ h.state_is)) ∙ e)

  -- one that has died belongs in no list
  pub died_nowhere : (f : ℕ) (l : S) (d : Death) → HasProcessState v i f l (dies d) → HasNothingDue o v i × IsBeforeQuiet o i v false
  died_nowhere f l d has = (has_died f l d has, λ g m lived stop. absurd (let e = sym has.view_is ∙ lived.view_is in cc))

  -- ---- by its record

  module _ (used : IsInUse v i) (r : Record) (read : r ≡ get_or v.records i r) where
    there : slice_get v.records i ≡ Some r
    there = let w = record_of v.records i used.0 used.2 used.3.view_is in slice_get_read v.records (length v.records) i r refl (slice_get_within v.records i w.0 w.1) read

    -- who doesn't live is before nothing
    lives_not : r.status ≢ code.Live → IsBeforeQuiet o i v false
    lives_not other f l has e = not_alive r.first f r.status other (some_same (record_view r) (used_by f lives) (sym (map_get record_view v.records i ∙ ap (option_map record_view) there) ∙ has.view_is))

    pub is_fork : (n : ℕ) → r.status ≡ code.Forked n → IsBeforeQuiet o i v false
    is_fork n e = lives_not (λ h. forked_alone n (sym e ∙ h))
      where
        forked_alone : (n : ℕ) → code.Forked n ≢ code.Live
        forked_alone n e = absurd cc

    pub rests : (r.status ≡ code.Free) ⊎ ((r.status ≡ code.Ended) ⊎ ((x : Death) × (r.status ≡ code.Dead x))) → HasNothingDue o v i × IsBeforeQuiet o i v false
    rests h = (at_rest o v i r (slice_get_within v.states i used.1 used.3.state_is) there h, lives_not (at_rest_alone r.status h))
      where
        at_rest_alone : (k : Status) → (k ≡ code.Free) ⊎ ((k ≡ code.Ended) ⊎ ((x : Death) × (k ≡ code.Dead x))) → k ≢ code.Live
        at_rest_alone k (inl e) f = absurd (cc)
        at_rest_alone k (inr (inl e)) f = absurd (cc)
        at_rest_alone k (inr (inr (x, e))) f = absurd (cc)

    pub lives_there : (l : S) → l ≡ get_or v.states i l → r.status ≡ code.Live → HasProcessState v i r.first l lives
    lives_there l is going = live_process o v i l r (slice_get_read v.states (length v.states) i l refl (slice_get_within v.states i used.1 used.3.state_is) is) there going
