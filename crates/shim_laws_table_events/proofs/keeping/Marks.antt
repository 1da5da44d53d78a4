-- The record of a process that has ended or died says what came of it, and no other record says anything else of its process.
use Rattle.std.proofs.Common.{◌≡◌, ◌≢◌, ℕ, true, false, Some, List, map, refl, sym, ap, subst, ◌∙◌}
use Rattle.std.specs.Prelude.{slice_get, slice_set}
use Rattle.std.specs.Option.{option_map}
use Rattle.shim_local.specs.Process.{Ops}
use Rattle.shim_semantics.specs.Nodes.{state, goes}
use Rattle.shim_laws_table.specs.NodeStatus.{lives, process_status, is_leaf}
use Rattle.shim_laws_table.specs.Agrees.{used, Has}
use Rattle.shim_laws_table.specs.Changes.{HasChanged}
use Rattle.shim_laws_table.specs.Sufficing.{leaf_status}
use Rattle.shim_records.specs.Pairs.{record_view, rest_of}
use Rattle.shim_records.specs.Acted.{process_status_of, acting}
use Rattle.shim_records.specs.declared.record.Record.{Record}
use Rattle.shim_records.specs.declared.record.Status.{Status}
use Rattle.shim_records.specs.declared.record.Status.TheVariants as code
use Rattle.shim_records.proofs.Stepping.{set_there, set_elsewhere}
use Rattle.shim_records.proofs.Representing.{map_get}
use Rattle.shim_records.proofs.ReadOff.{same_views}
use Rattle.shim_records.proofs.ManyPropagations as ways
use Rattle.shim_records.proofs.AllLowered as labels_above
use Rattle.shim_laws_table_events.specs.keeping.Acting.{left_by, with_status, TakesIn, Terminates}
use Rattle.shim_laws_table_events.proofs.keeping.OneLess.{left_views}

pub left_state : {S : Type 0} (l : S) (k : Status) → state (left_by l k) ≡ l
left_state l code.Free = refl
left_state l code.Live = refl
left_state l (code.Forked n) = refl
left_state l code.Ended = refl
left_state l (code.Dead y) = refl

pub left_leaf : {S : Type 0} (l : S) (k : Status) → is_leaf (left_by l k) ≡ true
left_leaf l code.Free = refl
left_leaf l code.Live = refl
left_leaf l (code.Forked n) = refl
left_leaf l code.Ended = refl
left_leaf l (code.Dead y) = refl

pub left_status : {S : Type 0} (l : S) (k : Status) → goes (left_by l k) ≡ false → process_status (left_by l k) ≡ process_status_of k
left_status l code.Free e = absurd cc
left_status l code.Live e = absurd cc
left_status l (code.Forked n) e = absurd cc
left_status l code.Ended e = refl
left_status l (code.Dead y) e = refl

pub view_with_status : {S : Type 0} (l : S) (k : Status) → goes (left_by l k) ≡ false → (r : Record) → record_view (with_status k r) ≡ used r.first (process_status_of k)
view_with_status l code.Free e r = absurd cc
view_with_status l code.Live e r = absurd cc
view_with_status l (code.Forked n) e r = absurd cc
view_with_status l code.Ended e r = refl
view_with_status l (code.Dead y) e r = refl

-- the labels are taken in, and the records say all else as before
pub rest_taken : {S : Type 0} (o : Ops S) (s : S) (k : Status) (n x : ℕ) (before behind : List Record) → TakesIn o s k n x before behind → map rest_of behind ≡ map rest_of before
rest_taken o s (code.Dead d) n x before behind h = labels_above.rest_same d.label n x h.is_lowered
rest_taken o s code.Ended n x before behind h = ap (map rest_of) h
rest_taken o s code.Free n x before behind h = ap (map rest_of) h
rest_taken o s code.Live n x before behind h = ap (map rest_of) h
rest_taken o s (code.Forked m) n x before behind h = ap (map rest_of) h

module _ {S : Type 0} (o : Ops S) (states : List S) (rs behind : List Record) (l : S) (k : Status) (x f : ℕ) (has : Has states (map record_view rs) x f l lives) (leaves : Terminates o l k 4294967295 x rs behind) (gone : goes (left_by l k) ≡ false) where
  abbrev was : Record
  was = leaves.was

  abbrev ms : List Record
  ms = slice_set rs x (with_status k was)

  elsewhere : (j : ℕ) → j ≢ x → slice_get (map record_view ms) j ≡ slice_get (map record_view rs) j
  elsewhere j n = map_get record_view ms j ∙ (ap (option_map record_view) (set_elsewhere rs x j (with_status k was) n) ∙ sym (map_get record_view rs j))

  pub mine : Has states (map record_view ms) x was.first l (process_status_of k)
  mine = record { state_is = has.state_is; view_is = map_get record_view ms x ∙ (ap (option_map record_view) (set_there rs x was (with_status k was) leaves.there) ∙ ap Some (view_with_status l k gone was)) }

  pub changed : HasChanged states states (map record_view rs) (map record_view ms) x l (process_status_of k)
  changed = record {
    first = was.first;
    mine = mine;
    others = λ j d t h n p. record { state_is = p.state_is; view_is = elsewhere j n ∙ p.view_is };
    only = λ j d t h n p. record { state_is = p.state_is; view_is = sym (elsewhere j n) ∙ p.view_is };
  }

  pub change : HasChanged states states (map record_view rs) (map record_view ms) x (state (left_by l k)) (process_status (left_by l k))
  change =
      subst (λ z. HasChanged states states (map record_view rs) (map record_view ms) x z (process_status (left_by l k))) (sym (left_state l k))
      (subst (HasChanged states states (map record_view rs) (map record_view ms) x l) (sym (left_status l k gone)) changed)

  -- what is brought up to date above changes nothing of that
  end_views : map record_view behind ≡ map record_view ms
  end_views =
      left_views x leaves.counted behind leaves.left
      ∙ (same_views leaves.labelled leaves.counted (ways.rest_same (acting o l) (λ c. leaf_status o c l (process_status_of k)) 4294967295 x leaves.updated.updated)
      ∙ same_views ms leaves.labelled (rest_taken o l k 4294967295 x ms leaves.labelled leaves.takes))

  pub changed_then : HasChanged states states (map record_view rs) (map record_view behind) x (state (left_by l k)) (process_status (left_by l k))
  changed_then = subst (λ z. HasChanged states states (map record_view rs) z x (state (left_by l k)) (process_status (left_by l k))) (sym end_views) change
