-- The name that a channel's first rendezvous brings, number by number.
use Rattle.std.proofs.Common.{◌≡◌, ◌≤◌, ℕ, ◌+◌, Bool, true, false, Option, Some, None, List, drop, length, get_or, refl, sym, ap, subst, ◌∙◌}
use Rattle.std.specs.Prelude.{slice_get, cond}
use Rattle.std.proofs.lemmas.Option.{slice_get_read, slice_get_within}
use Rattle.shim_base.specs.Paths.{Channel, NamedChannel, same_channel}
use Rattle.shim_base.proofs.Facts.{some_same, none_some, cond_some}
use Rattle.shim_base.proofs.SamePaths.{same_channel_is}
use Rattle.shim_local.specs.Process.{Ops, StopView, AtQuiet, AtNext, AtPut, AtFork, AtFinish, AtThrow, AtTrap}
use Rattle.shim_semantics.specs.Nodes.{is_next, next_channel, name_for}
use Rattle.shim_laws_table_events.specs.keeping.Tables.{TableView}
use Rattle.shim_laws_table_events.specs.meetings.Names.{IsFirstName, nobody, later, first}
use Rattle.shim_process_table.specs.Stepping.{IsLive}
use Rattle.shim_process_table.specs.Naming.{NamesIt, IsChannelName}
use Rattle.shim_process_table.proofs.HereMeets.{drop_first, none_left_over}

not_next : (s : StopView) (c : Channel) → name_for c (next_channel s) ≡ None → is_next s c ≡ false
not_next (AtNext d) c e = on (same_channel d.channel c) e
  where
    on : (b : Bool) → cond b (Some d.name) None ≡ None → b ≡ false
    on true h = absurd cc
    on false h = refl
not_next AtQuiet c e = refl
not_next AtPut c e = refl
not_next AtFork c e = refl
not_next AtFinish c e = refl
not_next (AtThrow label) c e = refl
not_next (AtTrap kind line) c e = refl

by_name : (s : StopView) (c : Channel) (n : ℕ) → name_for c (next_channel s) ≡ Some n → (d : NamedChannel) × (s ≡ AtNext d) × (d.channel ≡ c) × (n ≡ d.name)
by_name (AtNext d) c n e = let w = cond_some (same_channel d.channel c) d.name n e in (d, refl, same_channel_is d.channel c w.0, sym w.1)
by_name AtQuiet c n e = none_some n e
by_name AtPut c n e = none_some n e
by_name AtFork c n e = none_some n e
by_name AtFinish c n e = none_some n e
by_name (AtThrow label) c n e = none_some n e
by_name (AtTrap kind line) c n e = none_some n e

module _ {S : Type 0} (o : Ops S) (c : Channel) where
  pub names_it : (v : TableView S) (i : ℕ) (l : S) (x : Option ℕ) → IsLive i v true → l ≡ get_or v.states i l → x ≡ name_for c (next_channel (o.stop l)) → NamesIt o c i v x
  names_it v i l x live read is = on x is
    where
      same : l ≡ live.1
      same = some_same l live.1 (sym (slice_get_read v.states (length v.states) i l refl (slice_get_within v.states i live.1 live.2.state_is) read) ∙ live.2.state_is)

      on : (x : Option ℕ) → x ≡ name_for c (next_channel (o.stop l)) → NamesIt o c i v x
      on None e = λ f s has. ap (λ z. is_next (o.stop z) c) (some_same s live.1 (sym has.state_is ∙ live.2.state_is) ∙ sym same) ∙ not_next (o.stop l) c (sym e)
      on (Some n) e = let w = by_name (o.stop live.1) c n (ap (λ z. name_for c (next_channel (o.stop z))) (sym same) ∙ sym e) in (live.0, live.1, w.0, live.2, w.1, w.2, w.3)

  -- the first name of the rest is that of all
  abbrev pub NameOfRest : TableView S → List ℕ → ℕ → Type 0
  NameOfRest v numbers place = (x : Option ℕ) → IsFirstName o v c (drop place numbers) x → IsFirstName o v c numbers x

  pub another : (v : TableView S) (numbers : List ℕ) (place i : ℕ) → slice_get numbers place ≡ Some i → NamesIt o c i v None → NameOfRest v numbers place → NameOfRest v numbers (place + 1)
  another v numbers place i e none so x rest = so x (subst (λ z. IsFirstName o v c z x) (sym (drop_first numbers place i e)) (later i (drop (place + 1) numbers) x none rest))

  pub this_one : (v : TableView S) (numbers : List ℕ) (place i n : ℕ) → slice_get numbers place ≡ Some i → NamesIt o c i v (Some n) → NameOfRest v numbers place → IsChannelName o v c numbers n
  this_one v numbers place i n e its so = (
    Some its.2.name,
    so (Some its.2.name) (subst (λ z. IsFirstName o v c z (Some its.2.name)) (sym (drop_first numbers place i e)) (first i its.0 its.1 its.2 (drop (place + 1) numbers) its.3 its.4 its.5)),
    its.6,
  )

  pub no_name : (v : TableView S) (numbers : List ℕ) (place : ℕ) → length numbers ≤ place → NameOfRest v numbers place → IsChannelName o v c numbers 0
  no_name v numbers place past so = (None, so None (subst (λ z. IsFirstName o v c z None) (sym (none_left_over numbers place past)) nobody), refl)
