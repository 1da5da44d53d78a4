-- The name that a channel's first rendezvous brings, found among those that share the channel.
use Rattle.std.specs.Prelude.{◌≡◌, ℕ, false, Option, Some, None, List, [], ◌∷◌, unwrap_or}
use Rattle.shim_base.specs.Paths.{Path, Channel, NamedChannel}
use Rattle.shim_local.specs.Process.{Ops, AtNext}
use Rattle.shim_semantics.specs.Nodes.{Node, is_next, first_name}
use Rattle.shim_semantics.specs.Trees.{Meet}
use Rattle.shim_laws_table.specs.NodeStatus.{lives}
use Rattle.shim_laws_table_events.specs.keeping.Tables.{TableView, HasProcessState, TableInvariant}
use Rattle.shim_laws_table_events.specs.meetings.Sharers.{ListsSharers}
use Rattle.shim_laws_table_events.specs.meetings.Meetings.{IsEnabled, Declares}

-- the first of these that lives and is at the channel has this name for it; or none of them lives and is there
pub data IsFirstName {S : Type 0} (o : Ops S) (v : TableView S) (c : Channel) : List ℕ → Option ℕ → Type 0 where
  nobody : IsFirstName o v c [] None
  later : (i : ℕ) (is : List ℕ) (x : Option ℕ) → ((f : ℕ) (l : S) → HasProcessState v i f l lives → is_next (o.stop l) c ≡ false) → IsFirstName o v c is x → IsFirstName o v c (i ∷ is) x
  first : (i f : ℕ) (l : S) (d : NamedChannel) (is : List ℕ) → HasProcessState v i f l lives → o.stop l ≡ AtNext d → d.channel ≡ c → IsFirstName o v c (i ∷ is) (Some d.name)

-- a rendezvous of the channel brings this name, if it is the first one
abbrev pub HasName : {S : Type 0} → Ops S → TableView S → Channel → ℕ → Type 0
HasName {S} o v c n = (rp : Path) (root : Node S) → TableInvariant o rp v root → n ≡ unwrap_or (first_name o c root) 0

-- Where a rendezvous is enabled, the first name among all that share the channel at and below its home is the one that it brings.
abbrev pub NamesFound : {S : Type 0} → Ops S → Type 0
NamesFound {S} o = (v : TableView S) (c : Channel) (i : ℕ) (numbers : List ℕ) (x : Option ℕ) → Declares o v i c → IsEnabled o (Meet c) v → ListsSharers o v c i numbers → IsFirstName o v c numbers x → HasName o v c (unwrap_or x 0)
