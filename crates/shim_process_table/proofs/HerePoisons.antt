-- A poison in place: one process dies, and then all.
use Rattle.std.proofs.Common.{◌≡◌, ◌<◌, ◌≤◌, ℕ, ◌+◌, Bool, true, false, Some, List, map, drop, length, get_or, slice_set, refl, sym, subst, ◌∙◌}
use Rattle.std.specs.Prelude.{slice_get}
use Rattle.std.proofs.lemmas.Option.{slice_get_read, slice_get_within}
use Rattle.shim_base.specs.Paths.{Channel}
use Rattle.shim_base.proofs.Facts.{some_same}
use Rattle.shim_local.specs.Process.{Ops}
use Rattle.shim_local.specs.Laws.{LocalLaws}
use Rattle.shim_laws_table.specs.NodeStatus.{lives}
use Rattle.shim_laws_table.specs.Agrees.{used}
use Rattle.shim_laws_table.proofs.OneChange.{one_state}
use Rattle.shim_records.specs.Pairs.{record_view}
use Rattle.shim_records.specs.Killed.{IsKilled}
use Rattle.shim_records.specs.Died.{IsTaken}
use Rattle.shim_records.specs.CountingOff.{HasCountedOff}
use Rattle.shim_records.specs.declared.record.Record.{Record}
use Rattle.shim_records.proofs.Representing.{map_get}
use Rattle.shim_semantics.specs.Trees.{Poison}
use Rattle.shim_laws_table_events.specs.keeping.Moves.{Performs}
use Rattle.shim_laws_table_events.specs.keeping.Tables.{TableView, HasProcessState, HasTableInvariant}
use Rattle.shim_laws_table_events.specs.meetings.Dying.{dead_record, DiesAt}
use Rattle.shim_laws_table_events.specs.meetings.Sharers.{ListsSharers}
use Rattle.shim_laws_table_events.specs.meetings.Poisons.{DiesOne, was_killed, AllDie, none_left, one_more, AllDied}
use Rattle.shim_laws_table_events.proofs.keeping.Moved.{from_map}
use Rattle.shim_laws_table_events.proofs.meetings.Poisoned.{one_keeps, poison_preserves}
use Rattle.shim_process_table.specs.Stepping.{IsLive}
use Rattle.shim_process_table.specs.Poisoning.{IsKilledBy, CanPoison, PoisonsAt}
use Rattle.shim_process_table.proofs.HereMeets.{drop_first, none_left_over}

module _ {S : Type 0} (o : Ops S) (label : ℕ) where
  pub is_killed_there : (v : TableView S) (i : ℕ) (l : S) (b : Bool) → IsLive i v true → l ≡ get_or v.states i l → (b ≡ true → label < o.base l) → (b ≡ false → label < o.base l → ⊥) → IsKilledBy o label i v b
  is_killed_there v i l b live read below above = on b below above
    where
      same : l ≡ live.1
      same = some_same l live.1 (sym (slice_get_read v.states (length v.states) i l refl (slice_get_within v.states i live.1 live.2.state_is) read) ∙ live.2.state_is)

      on : (b : Bool) → (b ≡ true → label < o.base l) → (b ≡ false → label < o.base l → ⊥) → IsKilledBy o label i v b
      on true below above = (live.0, live.1, live.2, subst (λ z. label < o.base z) same (below refl))
      on false below above = λ f s has low. above refl (subst (λ z. label < o.base z) (some_same s live.1 (sym has.state_is ∙ live.2.state_is) ∙ sym same) low)

  module _ (states : List S) (rs : List Record) (x : ℕ) (l : S) (r : Record) (before : IsKilledBy o label x (record { states = states; records = rs }) true) (read : r ≡ get_or rs x r) (read_state : l ≡ get_or states x l) where
    its : HasProcessState (record { states = states; records = rs }) x before.0 before.1 lives
    its = before.2

    there : slice_get rs x ≡ Some r
    there =
        let w = from_map record_view (slice_get rs x) (used before.0 lives) (sym (map_get record_view rs x) ∙ before.2.view_is) in
        slice_get_read rs (length rs) x r refl (slice_get_within rs x w.0 w.1) read

    same : l ≡ before.1
    same = some_same l before.1 (sym (slice_get_read states (length states) x l refl (slice_get_within states x before.1 before.2.state_is) read_state) ∙ before.2.state_is)

    pub few_given : HasTableInvariant o (record { states = states; records = rs }) → length (o.given l) ≤ 18446744073709551615
    few_given h = subst (λ z. length (o.given z) ≤ 18446744073709551615) (sym same) (h.2.fit x before.0 before.1 lives r its there).few

    module _ (counted labelled behind : List Record) (killed : IsKilled o l 4294967295 x (slice_set rs x (dead_record r label)) counted) (taken : IsTaken o l label 4294967295 x counted labelled) (left : HasCountedOff x labelled behind) where
      pub dies_one : DiesOne o label x (record { states = states; records = rs }) (record { states = states; records = behind })
      dies_one = was_killed before.0 before.1 its before.3 refl (subst (λ z. DiesAt o z label 4294967295 x rs behind) same (record { old_record = r; there = there; counted = counted; labelled = labelled; killed = killed; taken = taken; left = left }))

      pub still_kept : LocalLaws o → HasTableInvariant o (record { states = states; records = rs }) → HasTableInvariant o (record { states = states; records = behind })
      still_kept law h = let w = one_keeps o label x (record { states = states; records = rs }) (record { states = states; records = behind }) law h.0 h.1 h.2 dies_one in (h.0, w.0, w.1)

  -- ---- all of them

  -- what the rest does from here, all do from the start
  abbrev pub KilledSoFar : List ℕ → ℕ → TableView S → TableView S → Type 0
  KilledSoFar numbers place start now = (end : TableView S) → AllDie o label (drop place numbers) now end → AllDie o label numbers start end

  pub one_killed : (numbers : List ℕ) (place i : ℕ) (start now behind : TableView S) → slice_get numbers place ≡ Some i → DiesOne o label i now behind → KilledSoFar numbers place start now → KilledSoFar numbers (place + 1) start behind
  one_killed numbers place i start now behind e first so end rest = so end (subst (λ z. AllDie o label z now end) (sym (drop_first numbers place i e)) (one_more i (drop (place + 1) numbers) now behind end first rest))

  pub each_killed : (numbers : List ℕ) (place : ℕ) (start now : TableView S) → length numbers ≤ place → KilledSoFar numbers place start now → AllDie o label numbers start now
  each_killed numbers place start now past so = so now (subst (λ z. AllDie o label z now now) (sym (none_left_over numbers place past)) (none_left now))

  -- ---- the child's poison

  pub poisons_here : LocalLaws o → (c : Channel) (i : ℕ) (numbers : List ℕ) (before behind : TableView S) → CanPoison o c label i before → ListsSharers o before c i numbers → AllDie o label numbers before behind → PoisonsAt o c i before behind
  poisons_here law c i numbers before behind can lists all f k x has rp t kept =
      let same : can.child ≡ k = one_state before.states (map record_view before.records) i can.is_child.own_first f can.child k can.is_child.status x can.is_child.has has in
      subst (λ z. Performs o (Poison (o.path z) c) before behind) same ((poison_preserves o law before behind c i label can.child can.parent numbers can.is_child can.is_label can.enabled lists all).0) rp t kept

  pub died_here : LocalLaws o → (c : Channel) (i : ℕ) (numbers : List ℕ) (before behind : TableView S) → CanPoison o c label i before → ListsSharers o before c i numbers → AllDie o label numbers before behind → AllDied o c label i before behind
  died_here law c i numbers before behind can lists all = (poison_preserves o law before behind c i label can.child can.parent numbers can.is_child can.is_label can.enabled lists all).1
