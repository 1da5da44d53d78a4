-- A rendezvous in place: one process receives, and then all.
use Rattle.std.proofs.Common.{◌≡◌, ◌≤◌, ℕ, zero, suc, ◌+◌, Bool, true, false, Option, Some, None, List, [], ◌∷◌, drop, length, get_or, slice_set, refl, sym, ap, subst, ◌∙◌, arith}
use Rattle.std.specs.Prelude.{ℤ, slice_get}
use Rattle.std.proofs.lemmas.List.{drop_all}
use Rattle.std.proofs.lemmas.Option.{slice_get_read, slice_get_within}
use Rattle.shim_base.specs.Paths.{Channel, NamedChannel, same_channel}
use Rattle.shim_base.proofs.Facts.{some_same, none_some}
use Rattle.shim_base.proofs.SamePaths.{same_channel_is, same_channel_refl}
use Rattle.shim_local.specs.Process.{Ops, AtNext}
use Rattle.shim_local.specs.Laws.{LocalLaws}
use Rattle.shim_semantics.specs.Nodes.{is_next}
use Rattle.shim_laws_schedules.proofs.Unshared.{stands_at}
use Rattle.shim_laws_table.specs.Counts.{Tally, going_child_status}
use Rattle.shim_laws_table.specs.Updating.{UpdatedAbove, at_top, no_counts, stays}
use Rattle.shim_records.specs.Pairs.{child_status_of, up_in, counts_in}
use Rattle.shim_records.specs.Ways.{IsUpdatedAbove}
use Rattle.shim_records.specs.declared.pair.ChildStatus.{ChildStatus}
use Rattle.shim_records.specs.declared.record.Record.{Record}
use Rattle.shim_laws_table_events.specs.keeping.Tables.{TableView, HasTableInvariant}
use Rattle.shim_laws_table_events.specs.meetings.Receiving.{no_other, other, MovesOn}
use Rattle.shim_laws_table_events.specs.meetings.Meetings.{ReceivesOne, received, ReceiveAll, none_left, one_more}
use Rattle.shim_laws_table_events.proofs.meetings.Meets.{one_keeps}
use Rattle.shim_process_table.specs.Stepping.{IsLive}
use Rattle.shim_process_table.specs.Meeting.{WaitsAt, LeavesChannel}
use Rattle.shim_process_table.proofs.HereSteps.{read_set}

-- the first of what is left of a list
pub drop_first : {A : Type 0} (xs : List A) (i : ℕ) (x : A) → slice_get xs i ≡ Some x → drop i xs ≡ x ∷ drop (i + 1) xs
drop_first [] i x e = none_some x e
drop_first (y ∷ xs) zero x e = ap (λ z. z ∷ xs) (some_same y x e)
drop_first (y ∷ xs) (suc i) x e = drop_first xs i x e ∙ ap (λ z. x ∷ drop z (y ∷ xs)) (next i)
  where
    next : (i : ℕ) → suc (i + 1) ≡ suc i + 1
    next i = omega arith

pub none_left_over : {A : Type 0} (xs : List A) (i : ℕ) → length xs ≤ i → drop i xs ≡ []
none_left_over xs i past = drop_all i xs past

-- the two channels change places
same_both : (c d : Channel) → same_channel c d ≡ same_channel d c
same_both c d = on (same_channel c d) refl (same_channel d c) refl
  where
    on : (x : Bool) → same_channel c d ≡ x → (y : Bool) → same_channel d c ≡ y → same_channel c d ≡ same_channel d c
    on true e y f = e ∙ sym (ap (λ z. same_channel z c) (sym (same_channel_is c d e)) ∙ same_channel_refl c)
    on false e true f = ap (λ z. same_channel z d) (sym (same_channel_is d c f)) ∙ (same_channel_refl d ∙ sym f)
    on false e false f = e ∙ sym f

-- the same is read of it as before, so that no counts have to move
as_read : (c : Channel) (n x : ℕ) (r : ChildStatus) (rs : List Record) → IsUpdatedAbove c n x r r rs rs
as_read c n x r rs = (way (up_in rs x) refl, record { rest = refl; elsewhere = λ d other i. refl; labels = λ d i. refl })
  where
    counted : (j : ℕ) → up_in rs x ≡ Some j → (y : Option Tally) → counts_in c rs j ≡ y → UpdatedAbove (up_in rs) 4294967295 n (counts_in c rs) x (child_status_of r) (child_status_of r) (counts_in c rs)
    counted j e None none = no_counts n (counts_in c rs) x j (child_status_of r) (child_status_of r) e none
    counted j e (Some y) is = stays n (counts_in c rs) (counts_in c rs) x j (child_status_of r) (child_status_of r) y y e (record { old = is; new = is; moved = λ can. record { going = refl; not_ready = refl; dead = refl }; others = λ i far. refl }) refl

    way : (u : Option ℕ) → up_in rs x ≡ u → UpdatedAbove (up_in rs) 4294967295 n (counts_in c rs) x (child_status_of r) (child_status_of r) (counts_in c rs)
    way None e = at_top n (counts_in c rs) x (child_status_of r) (child_status_of r) e
    way (Some j) e = counted j e (counts_in c rs j) refl

module _ {S : Type 0} (o : Ops S) (s : S) (c : Channel) (n x : ℕ) where
  -- a process that has received is at the channel again
  pub stays_there : (d : NamedChannel) (rs : List Record) → o.stop s ≡ AtNext d → true ≡ same_channel c d.channel → MovesOn o s c n x rs rs
  stays_there d rs stop same = record {
    between = rs;
    was = ready;
    is = ready;
    status_was = refl;
    status_is = ap going_child_status (same ∙ (same_both c d.channel ∙ sym (ap (λ z. is_next z c) stop)));
    left = as_read c n x ready rs;
    came = no_other (λ e far. ap (λ z. is_next z e) stop ∙ (ap (λ z. same_channel z e) (sym (same_channel_is c d.channel (sym same))) ∙ far)) refl;
  }
    where
      ready : ChildStatus
      ready = record { going = true; ready_on = true; dead_on = false }

  -- at another one
  pub at_other_channel : (d : NamedChannel) (was is : ChildStatus) (before between behind : List Record) → o.stop s ≡ AtNext d → false ≡ same_channel c d.channel → LeavesChannel c n x before between
      → child_status_of was ≡ going_child_status false → child_status_of is ≡ going_child_status true → IsUpdatedAbove d.channel n x was is between behind → MovesOn o s c n x before behind
  at_other_channel d was is before between behind stop far off u v way = record {
    between = between;
    was = off.0;
    is = off.1;
    status_was = off.2;
    status_is = off.3 ∙ ap going_child_status (far ∙ (same_both c d.channel ∙ sym (ap (λ z. is_next z c) stop)));
    left = off.4;
    came = other d was is stop (sym far) u v way;
  }

module _ {S : Type 0} (o : Ops S) (c : Channel) where
  pub waits : (v : TableView S) (i : ℕ) (l : S) (b : Bool) → IsLive i v true → l ≡ get_or v.states i l → b ≡ is_next (o.stop l) c → WaitsAt o c i v b
  waits v i l b live read next = on b next
    where
      same : l ≡ live.1
      same = some_same l live.1 (sym (slice_get_read v.states (length v.states) i l refl (slice_get_within v.states i live.1 live.2.state_is) read) ∙ live.2.state_is)

      on : (b : Bool) → b ≡ is_next (o.stop l) c → WaitsAt o c i v b
      on true e = let d = stands_at (o.stop live.1) c (sym (e ∙ ap (λ z. is_next (o.stop z) c) same)) in (live.0, live.1, d.0, live.2, d.1, d.2)
      on false e = λ f s has. ap (λ z. is_next (o.stop z) c) (some_same s live.1 (sym has.state_is ∙ live.2.state_is) ∙ sym same) ∙ sym e

  pub nobody_waits : (v : TableView S) (i : ℕ) → IsLive i v false → WaitsAt o c i v false
  nobody_waits v i dead f s has = absurd (dead f s has)

  module _ (law : LocalLaws o) (v : ℤ) (states : List S) (rs behind : List Record) (x : ℕ) (l last now : S) (before : WaitsAt o c x (record { states = states; records = rs }) true) (read : l ≡ get_or states x l) (is_last : last ≡ o.receive l v)
      (read_then : now ≡ get_or (slice_set states x last) x now) (moves : MovesOn o now c 4294967295 x rs behind) where
    is : slice_get states x ≡ Some l
    is = slice_get_read states (length states) x l refl (slice_get_within states x before.1 before.3.state_is) read

    pub same : l ≡ before.1
    same = some_same l before.1 (sym is ∙ before.3.state_is)

    pub now_is : now ≡ o.receive before.1 v
    now_is = read_set states x l last now is read_then ∙ (is_last ∙ ap (λ z. o.receive z v) same)

    pub receives_one : ReceivesOne o c v x (record { states = states; records = rs }) (record { states = slice_set states x last; records = behind })
    receives_one =
        received before.0 before.1 before.2 before.3 before.4 before.5 (ap (slice_set states x) (is_last ∙ ap (λ z. o.receive z v) same))
        (subst (λ z. MovesOn o (o.receive before.1 v) z 4294967295 x rs behind) (sym before.5) (subst (λ z. MovesOn o z c 4294967295 x rs behind) now_is moves))

    pub still_kept : HasTableInvariant o (record { states = states; records = rs }) → HasTableInvariant o (record { states = slice_set states x last; records = behind })
    still_kept h = let w = one_keeps o law c v h.0 x (record { states = states; records = rs }) (record { states = slice_set states x last; records = behind }) h.1 receives_one h.2 in (h.0, w.0, w.1)

  -- ---- all of them

  -- what the rest receives from here, all receive from the start
  abbrev pub ReceivedSoFar : ℤ → List ℕ → ℕ → TableView S → TableView S → Type 0
  ReceivedSoFar v numbers place start now = (end : TableView S) → ReceiveAll o c v (drop place numbers) now end → ReceiveAll o c v numbers start end

  pub one_received : (v : ℤ) (numbers : List ℕ) (place i : ℕ) (start now behind : TableView S) → slice_get numbers place ≡ Some i → ReceivesOne o c v i now behind → ReceivedSoFar v numbers place start now → ReceivedSoFar v numbers (place + 1) start behind
  one_received v numbers place i start now behind e first so end rest = so end (subst (λ z. ReceiveAll o c v z now end) (sym (drop_first numbers place i e)) (one_more i (drop (place + 1) numbers) now behind end first rest))

  pub all_received : (v : ℤ) (numbers : List ℕ) (place : ℕ) (start now : TableView S) → length numbers ≤ place → ReceivedSoFar v numbers place start now → ReceiveAll o c v numbers start now
  all_received v numbers place start now past so = so now (subst (λ z. ReceiveAll o c v z now now) (sym (none_left_over numbers place past)) (none_left now))
