-- The histories in the order in which they are listed.
use Rattle.std.specs.Prelude.{◌≡◌, ◌<◌, ℕ, Some, List, [], ◌∷◌, length, map, slice_get, unwrap_or}
use Rattle.std.proofs.Common.{refl, sym, ap, ◌∙◌, zero, suc}
use Rattle.std.specs.List.{AllByRecursion}
use Rattle.std.specs.List.Sorted.{IsStrictlySortedBy}
use Rattle.std.specs.declared.cmp.Ordering.{Ordering}
use Rattle.std.specs.declared.cmp.Ordering.TheVariants.{Less}
use Rattle.std.specs.BTreeMap.{BTreeMap, IsOrdered}
use Rattle.std.specs.FinMap.{entries}
use Rattle.std.specs.Map.{keys_of, values_of}
use Rattle.std.proofs.lemmas.Option.{none-some, same_Some}
use Rattle.std.proofs.lemmas.Map.Entries.{btree_map_get_place}
use Rattle.shim_base.specs.Paths.{Channel, NamedChannel, channel_order}
use Rattle.shim_base.specs.PathLaws.{channel_order_total, named_order_total}
use Rattle.shim_local.specs.declared.History.{History}
use Rattle.shim_semantics.specs.Endings.{history_of}
use Rattle.shim_semantics.specs.Trees.{Met}
use Rattle.shim_run_log.specs.Maps.{IsNumbered, history_channel, histories_of, met_at}
use Rattle.shim_run_log.proofs.Mapped.{entries_of}
use Rattle.shim_run_log.proofs.Numbered.{kept_at, history_is, within}

-- the order of the keys
abbrev named_order : NamedChannel → NamedChannel → Ordering
named_order a b = channel_order a.channel b.channel

-- a channel with what is kept at its number
abbrev pub met_by : List History → NamedChannel × ℕ → Channel × Met
met_by kept e = (e.0.channel, met_at kept e.1)

below_channels : (kept : List History) (k : NamedChannel) (es : List (NamedChannel × ℕ)) → AllByRecursion (λ y. named_order k y ≡ Less) (keys_of es) → AllByRecursion (λ y. channel_order k.channel y ≡ Less) (keys_of (map (met_by kept) es))
below_channels kept k [] h = tt
below_channels kept k (e ∷ es) h = (h.0, below_channels kept k es h.1)

sorted_channels : (kept : List History) (es : List (NamedChannel × ℕ)) → IsStrictlySortedBy named_order (keys_of es) → IsStrictlySortedBy channel_order (keys_of (map (met_by kept) es))
unfolding IsStrictlySortedBy
sorted_channels kept [] h = tt
sorted_channels kept (e ∷ es) h = (below_channels kept e.0 es h.0, sorted_channels kept es h.1)

pub in_order : (numbers : BTreeMap NamedChannel ℕ) (kept : List History) → IsOrdered named_order numbers → entries (histories_of numbers kept) ≡ map (met_by kept) numbers.entries
in_order numbers kept h = entries_of channel_order_total (map (met_by kept) numbers.entries) (sorted_channels kept numbers.entries h)

-- each of these entries has the number of its channel's history
abbrev pub EachLeads : List History → List (NamedChannel × ℕ) → Type 0
EachLeads kept es = (place : ℕ) (k : NamedChannel) (i : ℕ) → slice_get es place ≡ Some (k, i) → history_channel kept i ≡ Some k.channel

pub each_leads : (numbers : BTreeMap NamedChannel ℕ) (kept : List History) → IsNumbered numbers kept → IsOrdered named_order numbers → EachLeads kept numbers.entries
each_leads numbers kept numbered ordered place k i e = (numbered k.channel i).0 (btree_map_get_place named_order_total numbers place k i ordered e)

-- what is listed for a number
abbrev pub history_at : List History → ℕ → History
history_at kept i = unwrap_or (slice_get kept i) (record { chan = record { channel = record { home = []; serial = 0 }; name = 0 }; values = [] })

pub history_there : (kept : List History) (i : ℕ) (h : History) → slice_get kept i ≡ Some h → history_at kept i ≡ h
history_there kept i h e = ap (λ o. unwrap_or o (record { chan = record { channel = record { home = []; serial = 0 }; name = 0 }; values = [] })) e

history_of_met : (kept : List History) (k : NamedChannel) (i : ℕ) → history_channel kept i ≡ Some k.channel → history_of (k.channel, met_at kept i) ≡ history_at kept i
history_of_met kept k i at =
    let h = kept_at kept i k.channel at in
    sym (history_is kept i h.0 k.channel h.1 at) ∙ sym (history_there kept i h.0 h.1)

pub histories_of_each : (kept : List History) (es : List (NamedChannel × ℕ)) → EachLeads kept es → map history_of (map (met_by kept) es) ≡ map (history_at kept) (values_of es)
histories_of_each kept [] h = refl
histories_of_each kept (e ∷ es) h = λ i. history_of_met kept e.0 e.1 (h zero e.0 e.1 refl) i ∷ histories_of_each kept es (λ place. h (suc place)) i

-- there is a history of each of these numbers
abbrev pub EachWithin : List History → List ℕ → Type 0
EachWithin kept is = (place i : ℕ) → slice_get is place ≡ Some i → i < length kept

pub each_within : (kept : List History) (es : List (NamedChannel × ℕ)) → EachLeads kept es → EachWithin kept (values_of es)
each_within kept [] h place i is = absurd (none-some i is)
each_within kept (e ∷ es) h zero i is = within kept i e.0.channel (ap (history_channel kept) (sym (same_Some e.1 i is)) ∙ h zero e.0 e.1 refl)
each_within kept (e ∷ es) h (suc place) i is = each_within kept es (λ p. h (suc p)) place i is
