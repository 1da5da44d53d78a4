-- Children that are ready on a channel, as the code finds them.
use Rattle.std.proofs.Common.{◌≡◌, ◌<◌, ◌≤◌, ℕ, ◌+◌, true, false, Option, Some, None, List, get_or, inl, inr, refl, sym, ap, ◌∙◌, arith}
use Rattle.std.specs.Prelude.{slice_get}
use Rattle.std.specs.Option.{option_map}
use Rattle.shim_base.specs.Paths.{Channel}
use Rattle.shim_local.specs.Process.{Ops}
use Rattle.shim_semantics.proofs.HowMany.{clash}
use Rattle.shim_laws_table.specs.NodeStatus.{ProcessStatus}
use Rattle.shim_laws_table.specs.Agrees.{RecordView, free, used}
use Rattle.shim_laws_table.specs.Counts.{Tally, tally_ready}
use Rattle.shim_records.specs.Pairs.{counts_ready, tally, counts_in, pair_index, tally_for}
use Rattle.shim_records.specs.declared.pair.Pair.{Pair}
use Rattle.shim_records.specs.declared.record.Record.{Record}
use Rattle.shim_records.proofs.Walked.{last_or_before}
use Rattle.shim_records.proofs.Pairing.{put_there, no_place}
use Rattle.shim_laws_table_events.specs.keeping.Tables.{TableView, HasProcessState, views}
use Rattle.shim_laws_table_events.specs.queues.RecordDecisions.{ready_by, IsReady, HasNoPairDue}
use Rattle.shim_process_table.specs.Due.{ready_record, ready_at, DoomedAmong}

module _ {S : Type 0} (o : Ops S) (c : Channel) where
  who_by : (x : Option S) (w : Option RecordView) (y : Option Tally) → ready_record o c x w y ≡ true → (f : ℕ) × (s : S) × (k : ProcessStatus) × (x ≡ Some s) × (w ≡ Some (used f k)) × (ready_by o c s k y ≡ true)
  who_by None w y e = absurd cc
  who_by (Some s) None y e = absurd cc
  who_by (Some s) (Some free) y e = absurd cc
  who_by (Some s) (Some (used f k)) y e = (f, s, k, refl, refl, e)

  module _ (v : TableView S) (j : ℕ) where
    -- of a process in use it is whether that is ready
    pub is_ready : (f : ℕ) (k : S) (x : ProcessStatus) → HasProcessState v j f k x → ready_at o c v.states v.records j ≡ ready_by o c k x (counts_in c v.records j)
    is_ready f k x has = ap (λ z. ready_record o c z (slice_get (views v) j) (counts_in c v.records j)) has.state_is ∙ ap (λ z. ready_record o c (Some k) z (counts_in c v.records j)) has.view_is

    -- and where it holds there is one
    pub who_is_ready : ready_at o c v.states v.records j ≡ true → (f : ℕ) × (k : S) × (x : ProcessStatus) × HasProcessState v j f k x × IsReady o v c j k x
    who_is_ready e = let w = who_by (slice_get v.states j) (slice_get (views v) j) (counts_in c v.records j) e in (w.0, w.1, w.2, record { state_is = w.3; view_is = w.4 }, w.5)

  -- ---- the first of them

  -- none of the first ones, from a number on
  abbrev pub NoneBefore : List S → List Record → ℕ → ℕ → Type 0
  NoneBefore states rs g i = (b : ℕ) → b < i → ready_at o c states rs (g + b) ≡ false

  module _ (states : List S) (rs : List Record) (g : ℕ) where
    pub none_at_first : NoneBefore states rs g 0
    none_at_first b less = absurd (omega (arith, less))

    pub nor_the_next : (i : ℕ) → NoneBefore states rs g i → ready_at o c states rs (g + i) ≡ false → NoneBefore states rs g (i + 1)
    nor_the_next i none e b less = elim (last_or_before b i less) [ inl w ↦ none b w | inr w ↦ ap (λ z. ready_at o c states rs (g + z)) w ∙ e ]

    pub none_at_all : (i n : ℕ) → n ≤ i → NoneBefore states rs g i → NoneBefore states rs g n
    none_at_all i n past none b less = none b (omega (arith, past, less))

-- by a pair without a rendezvous and without a doomed child nothing can happen
pub idle_pair : {S : Type 0} (o : Ops S) (v : TableView S) (l : S) (g n : ℕ) (y : Pair) → (o.path l ≡ y.chan.channel.home → tally_ready (tally y) ≡ false) → DoomedAmong o v.states v.records l g n y None → HasNoPairDue o v l g n y
idle_pair o v l g n y meets dooms = record {
  meets_not = meets;
  poisons_not = λ low b f k x less has ready_on. clash (ready_at o y.chan.channel v.states v.records (g + b)) (is_ready o y.chan.channel v (g + b) f k x has ∙ ready_on) (dooms low b less);
}

-- ---- a fork's counts for a channel

pub all_by_place : (c : Channel) (ps : List Pair) (i : ℕ) (p : Pair) → pair_index c ps ≡ Some i → p ≡ get_or ps i p → tally_ready (tally p) ≡ counts_ready (tally_for c ps)
all_by_place c ps i p e g = sym (ap (λ z. counts_ready (option_map tally z)) (put_there c ps i p p e g refl refl).found)

pub none_by_place : (c : Channel) (ps : List Pair) → pair_index c ps ≡ None → false ≡ counts_ready (tally_for c ps)
none_by_place c ps e = sym (ap counts_ready (no_place c ps e))
