-- What records keep where one process receives, and where one dies.
use Rattle.std.specs.Prelude.{◌≡◌, ◌<◌, ℕ, ℤ, List, slice_set}
use Rattle.shim_base.specs.Paths.{Path, NamedChannel}
use Rattle.shim_local.specs.Process.{Ops, AtNext}
use Rattle.shim_semantics.specs.Nodes.{Node, Live, Dead, death}
use Rattle.shim_laws_table.specs.NodeStatus.{lives, place}
use Rattle.shim_laws_table.specs.Places.{IsReplaced}
use Rattle.shim_records.specs.declared.record.Record.{Record}
use Rattle.shim_laws_table_events.specs.keeping.Tables.{HasProcessState, TableInvariant}
use Rattle.shim_laws_table_events.specs.meetings.Receiving.{MovesOn}
use Rattle.shim_laws_table_events.specs.meetings.Dying.{DiesAt}

-- A live process that is at a channel receives there, and the records move on with it: they keep all that they kept, of the tree in which it has received.
abbrev pub ReceivePreserves : {S : Type 0} → Ops S → Type 0
ReceivePreserves {S} o = (rp : Path) (root : Node S) (states : List S) (rs after : List Record) (x f : ℕ) (l : S) (d : NamedChannel) (v : ℤ) → TableInvariant o rp (record { states = states; records = rs }) root → HasProcessState (record { states = states; records = rs }) x f l lives
    → o.stop l ≡ AtNext d → MovesOn o (o.receive l v) d.channel 4294967295 x rs after
    → (new : Node S) × IsReplaced (place o rp l) (Live l) (Live (o.receive l v)) root new × TableInvariant o rp (record { states = slice_set states x (o.receive l v); records = after }) new

-- A live process dies of an exception for which it has no handler, whatever it is at, and the records change with it: they keep all that they kept, of the tree in which it is dead.
abbrev pub DeathPreserves : {S : Type 0} → Ops S → Type 0
DeathPreserves {S} o = (rp : Path) (root : Node S) (states : List S) (rs after : List Record) (x f label : ℕ) (l : S) → TableInvariant o rp (record { states = states; records = rs }) root → HasProcessState (record { states = states; records = rs }) x f l lives
    → label < o.base l → DiesAt o l label 4294967295 x rs after
    → (new : Node S) × IsReplaced (place o rp l) (Live l) (Dead l (death label)) root new × TableInvariant o rp (record { states = states; records = after }) new
