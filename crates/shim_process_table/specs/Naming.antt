-- The name that a process has for a channel, and the first one among several.
use Rattle.std.specs.Prelude.{◌≡◌, ℕ, false, Option, Some, None, List, unwrap_or}
use Rattle.shim_base.specs.Paths.{Channel, NamedChannel}
use Rattle.shim_local.specs.Process.{Ops, AtNext}
use Rattle.shim_semantics.specs.Nodes.{is_next}
use Rattle.shim_laws_table.specs.NodeStatus.{lives}
use Rattle.shim_laws_table_events.specs.keeping.Tables.{TableView, HasProcessState}
use Rattle.shim_laws_table_events.specs.meetings.Names.{IsFirstName}

-- the name that the process with this number has for the channel, if it lives and is at a `next` of it
abbrev pub NamesIt : {S : Type 0} → Ops S → Channel → ℕ → TableView S → Option ℕ → Type 0
NamesIt {S} o c i v None = (f : ℕ) (l : S) → HasProcessState v i f l lives → is_next (o.stop l) c ≡ false
NamesIt {S} o c i v (Some n) = (f : ℕ) × (l : S) × (d : NamedChannel) × HasProcessState v i f l lives × (o.stop l ≡ AtNext d) × (d.channel ≡ c) × (n ≡ d.name)

-- Of the processes with these numbers, the first that lives and is at the channel has the name n for it. If none is, n is 0.
abbrev pub IsChannelName : {S : Type 0} → Ops S → TableView S → Channel → List ℕ → ℕ → Type 0
IsChannelName o v c numbers n = (x : Option ℕ) × IsFirstName o v c numbers x × (n ≡ unwrap_or x 0)
