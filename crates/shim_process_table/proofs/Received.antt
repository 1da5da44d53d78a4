-- One process has received: what has become of it, and what is as it was.
use Rattle.std.proofs.Common.{◌≡◌, ℕ, ℤ, true, Some, List, slice_set, get_or, refl, sym, ap, subst, ◌∙◌}
use Rattle.std.specs.Prelude.{slice_get}
use Rattle.shim_base.specs.Paths.{Channel}
use Rattle.shim_local.specs.Process.{Ops}
use Rattle.shim_local.specs.Laws.{LocalLaws, by_call, by_receive}
use Rattle.shim_laws_table.specs.NodeStatus.{lives}
use Rattle.shim_records.specs.declared.record.Record.{Record}
use Rattle.shim_records.proofs.ReadOff.{same_views}
use Rattle.shim_records.proofs.Stepping.{set_there, set_elsewhere}
use Rattle.shim_laws_table_events.specs.keeping.Tables.{TableView, HasProcessState, HasTableInvariant, views}
use Rattle.shim_laws_table_events.specs.meetings.Receiving.{MovesOn}
use Rattle.shim_laws_table_events.proofs.meetings.Receives.{moves_on_rest}
use Rattle.shim_process_table.specs.Queue.{QueueIs}
use Rattle.shim_process_table.specs.Meeting.{WaitsAt, HasReceived}
use Rattle.shim_process_table.specs.Stepping.{HasBecome}
use Rattle.shim_process_table.specs.Touching.{ReadiesAbove, MoveReadies}
use Rattle.shim_process_table.specs.declared.propagating.Requeue.{Requeue}
use Rattle.shim_process_table.proofs.HereMeets.{same, now_is}
use Rattle.shim_process_table.proofs.Does.{is_sound}
use Rattle.shim_process_table.proofs.Readied.{moving_wakes}

module _ {S : Type 0} (o : Ops S) (c : Channel) (law : LocalLaws o) (v : ℤ) (states : List S) (rs behind : List Record) (x : ℕ) (l last now : S) (before : WaitsAt o c x (record { states = states; records = rs }) true) (read : l ≡ get_or states x l) (is_last : last ≡ o.receive l v)
    (read_then : now ≡ get_or (slice_set states x last) x now) (moves : MovesOn o now c 4294967295 x rs behind) where
  abbrev here : TableView S
  here = record { states = states; records = rs }

  abbrev there : TableView S
  there = record { states = slice_set states x last; records = behind }

  stay : views there ≡ views here
  stay = same_views rs behind (moves_on_rest moves)

  last_is : last ≡ o.receive before.1 v
  last_is = is_last ∙ ap (λ z. o.receive z v) (same o c law v states rs behind x l last now before read is_last read_then moves)

  mine : HasProcessState there x before.0 (o.receive before.1 v) lives
  mine = record { state_is = set_there states x before.1 last before.3.state_is ∙ ap Some last_is; view_is = ap (λ z. slice_get z x) stay ∙ before.3.view_is }

  becomes : HasBecome x (o.receive before.1 v) lives here there
  becomes = record {
    first = before.0;
    mine = mine;
    others = λ j g t k far h. record { state_is = set_elsewhere states x j last far ∙ h.state_is; view_is = ap (λ z. slice_get z j) stay ∙ h.view_is };
    only = λ j g t k far h. record { state_is = sym (set_elsewhere states x j last far) ∙ h.state_is; view_is = sym (ap (λ z. slice_get z j) stay) ∙ h.view_is };
  }

  module _ (kept : HasTableInvariant o (record { states = states; records = rs })) where
    path : o.path last ≡ o.path before.1
    path = ap o.path last_is ∙ law.moved_path before.1 (o.receive before.1 v) (is_sound o states rs x before.0 before.1 kept before.3) (by_call (by_receive before.2 v before.4 refl))

    newly_ready : (n : ℕ) → MoveReadies o now c n x rs behind → ReadiesAbove o n x (record { states = states; records = rs }) (record { states = slice_set states x last; records = behind })
    newly_ready n readies =
        moving_wakes o n x before.0 states rs behind last (subst (λ z. HasProcessState there x before.0 z lives) (sym last_is) mine) before.0 before.1 before.2 c before.3 before.4 before.5 path
        (subst (λ z. MoveReadies o z c n x rs behind) (now_is o c law v states rs behind x l last now before read is_last read_then moves ∙ sym last_is) readies)

    pub has_received : (to_requeue : Requeue) → MoveReadies o now c to_requeue.forks x rs behind → ((w : TableView S) (i f : ℕ) → HasProcessState w i f now lives → QueueIs o w i to_requeue.queue)
        → HasReceived o c v x to_requeue (record { states = states; records = rs }) (record { states = slice_set states x last; records = behind })
    has_received to_requeue readies queue = record {
      first = before.0;
      process = before.1;
      chan = before.2;
      has = before.3;
      stop_was = before.4;
      is_channel = before.5;
      becomes = becomes;
      newly_ready = newly_ready to_requeue.forks readies;
      queue = queue there x before.0 (subst (λ z. HasProcessState there x before.0 z lives) (sym (now_is o c law v states rs behind x l last now before read is_last read_then moves)) mine);
    }
