-- The maps of the code, as the finite maps that they mean.
use Rattle.std.specs.Prelude.{◌≡◌, ◌≢◌, ◌↔◌, ℕ, Option, Some, List, [], map, slice_get, unwrap_or, Bool, not, eqb}
use Rattle.std.specs.Option.{option_map}
use Rattle.std.specs.FinMap as finite
use Rattle.std.specs.BTreeMap.{BTreeMap, get_by}
use Rattle.shim_base.specs.Paths.{Path, Channel, NamedChannel, path_order, channel_order}
use Rattle.shim_local.specs.declared.History.{History}
use Rattle.shim_local.specs.declared.LogWhat.{LogWhat}
use Rattle.shim_semantics.specs.Trees.{Met}

-- what was logged, by process
abbrev pub logs_in : BTreeMap Path (List LogWhat) → finite.FinMap path_order (List LogWhat)
logs_in m = finite.from_entries m.entries

-- what is kept of the channel of a history: the name by which it is printed, and the values
abbrev pub met_of : History → Met
met_of h = record { name = h.chan.name; values = h.values }

-- the same of the history of this number; name 0 and no values if there is none
abbrev pub met_at : List History → ℕ → Met
met_at kept i = unwrap_or (option_map met_of (slice_get kept i)) (record { name = 0; values = [] })

-- the channel of the history of this number, if there is one
abbrev pub history_channel : List History → ℕ → Option Channel
history_channel kept i = option_map (λ h. h.chan.channel) (slice_get kept i)

-- the number that is at the channel
abbrev pub number_in : BTreeMap NamedChannel ℕ → Channel → Option ℕ
number_in numbers c = get_by (λ k. channel_order c k.channel) numbers

-- what the rendezvous on each channel gave
abbrev pub histories_of : BTreeMap NamedChannel ℕ → List History → finite.FinMap channel_order Met
histories_of numbers kept = finite.from_entries (map (λ e. (e.0.channel, met_at kept e.1)) numbers.entries)

-- at each channel stands the number of its history, and each history has its number there
abbrev pub IsNumbered : BTreeMap NamedChannel ℕ → List History → Type 0
IsNumbered numbers kept = (c : Channel) (i : ℕ) → (number_in numbers c ≡ Some i) ↔ (history_channel kept i ≡ Some c)

-- no channel has an entry without a value
abbrev pub AllHaveValues : finite.FinMap channel_order Met → Type 0
AllHaveValues m = (c : Channel) (h : Met) → finite.get m c ≡ Some h → h.values ≢ []

-- the number at each channel is that of its history, and no channel has a history without values
pub record IsHistoryIndex (numbers : BTreeMap NamedChannel ℕ) (kept : List History) : Type 0 where
  pub numbered : IsNumbered numbers kept
  pub filled : AllHaveValues (histories_of numbers kept)

-- who waits, by path, and at which channel
abbrev pub waits_in : BTreeMap Path NamedChannel → finite.FinMap path_order NamedChannel
waits_in m = finite.from_entries m.entries

-- the count of own steps of each process, by path
abbrev pub counts_of : BTreeMap Path ℕ → finite.FinMap path_order ℕ
counts_of m = finite.from_entries m.entries

-- the count beside this path isn't 0: its process did a step of its own
abbrev pub has_stepped : Path × ℕ → Bool
has_stepped e = not (eqb e.1 0)
