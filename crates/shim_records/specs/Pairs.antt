-- Records as lists of what they say: their statuses, parents, and counts for a channel.
use Rattle.std.specs.declared.cmp.Ordering.TheVariants.{Less}
use Rattle.std.specs.Prelude.{ℕ, suc, Bool, false, Option, Some, None, List, [], ◌∷◌, cond, slice_get, ◌≡◌, ◌<◌, map}
use Rattle.std.specs.Option.{option_map}
use Rattle.shim_base.specs.Paths.{Path, Channel, same_channel, channel_order}
use Rattle.shim_laws_table.specs.NodeStatus.{lives, forks, ends, dies}
use Rattle.shim_laws_table.specs.Agrees.{RecordView, free, used}
use Rattle.shim_laws_table.specs.Counts.{Tally, ChildStatus as Read, tally_ready}
use Rattle.shim_records.specs.declared.pair.Pair.{Pair}
use Rattle.shim_records.specs.declared.pair.ChildStatus.{ChildStatus}
use Rattle.shim_records.specs.declared.pair.Sharing.{Sharing}
use Rattle.shim_records.specs.declared.record.Record.{Record}
use Rattle.shim_records.specs.declared.record.Status.{Status}
use Rattle.shim_records.specs.declared.record.Status.TheVariants as code

-- the counts of a pair
abbrev pub tally : Pair → Tally
tally p = record { going = p.going; not_ready = p.not_ready; dead = p.dead }

-- a child's status of the code, as the laws have it
abbrev pub child_status_of : ChildStatus → Read
child_status_of r = record { going = r.going; ready_on = r.ready_on; dead_on = r.dead_on }

-- the channels of the pairs
abbrev pub chans_of : List Pair → List Channel
chans_of ps = map (λ p. p.chan.channel) ps

-- these channels are in order, each once
pub record IsOrdered (cs : List Channel) : Type 0 where
  pub order : (i j : ℕ) (a b : Channel) → i < j → slice_get cs i ≡ Some a → slice_get cs j ≡ Some b → channel_order a b ≡ Less

-- the place of the first pair of the channel, if there is one
abbrev pub pair_index : Channel → List Pair → Option ℕ
pair_index c [] = None
pair_index c (p ∷ ps) = cond (same_channel p.chan.channel c) (Some 0) (option_map suc (pair_index c ps))

-- the first pair of the channel, if there is one
abbrev pub pair_of : Channel → List Pair → Option Pair
pair_of c [] = None
pair_of c (p ∷ ps) = cond (same_channel p.chan.channel c) (Some p) (pair_of c ps)

-- the counts that these pairs have for the channel
abbrev pub tally_for : Channel → List Pair → Option Tally
tally_for c ps = option_map tally (pair_of c ps)

-- the counts that a record has for the channel, if there is the record
abbrev pub counts_at : Channel → Option Record → Option Tally
counts_at c None = None
counts_at c (Some r) = tally_for c r.pairs.items

-- the counts that the records have for the channel
abbrev pub counts_in : Channel → List Record → ℕ → Option Tally
counts_in c rs i = counts_at c (slice_get rs i)

-- there are counts, and a fork with these counts is ready
abbrev pub counts_ready : Option Tally → Bool
counts_ready None = false
counts_ready (Some y) = tally_ready y

-- the label of a pair, where there is the pair
abbrev pub min_label_of : Option Pair → Option ℕ
min_label_of None = None
min_label_of (Some p) = p.min_dead_label

-- the least label that a record has for the channel, if there is the record
abbrev pub min_label_at : Channel → Option Record → Option ℕ
min_label_at c None = None
min_label_at c (Some r) = min_label_of (pair_of c r.pairs.items)

-- the least labels that the records have for the channel
abbrev pub min_labels_in : Channel → List Record → ℕ → Option ℕ
min_labels_in c rs i = min_label_at c (slice_get rs i)

-- the number of the process whose fork made that of the record, if there is the record
abbrev pub up_at : Option Record → Option ℕ
up_at None = None
up_at (Some r) = r.parent

-- the number of the process whose fork made that of the record i, if there is the record
abbrev pub up_in : List Record → ℕ → Option ℕ
up_in rs i = up_at (slice_get rs i)

-- what a record with this status says, where f is the number of the first child
abbrev pub status_view : ℕ → Status → RecordView
status_view f code.Free = free
status_view f code.Live = used f lives
status_view f (code.Forked n) = used f (forks n)
status_view f code.Ended = used f ends
status_view f (code.Dead d) = used f (dies d)

-- into how many a process has forked whose record has this status; 0 if it hasn't
abbrev pub fork_size : Status → ℕ
fork_size code.Free = 0
fork_size code.Live = 0
fork_size (code.Forked n) = n
fork_size code.Ended = 0
fork_size (code.Dead x) = 0

-- what the record says of its process
abbrev pub record_view : Record → RecordView
record_view r = status_view r.first r.status

-- what a pair knows of its channel, whatever its children do
pub record KnownPair : Type 0 where
  pub chan : Channel
  pub sharing : Sharing

-- what this pair knows
abbrev pub known_by : Pair → KnownPair
known_by p = record { chan = p.chan.channel; sharing = p.sharing }

-- what these pairs know
abbrev pub known_of : List Pair → List KnownPair
known_of ps = map known_by ps

-- what the first of these that is of the channel knows of who shares it, if there is one
abbrev pub known_for : Channel → List KnownPair → Option Sharing
known_for c [] = None
known_for c (p ∷ ps) = cond (same_channel p.chan c) (Some p.sharing) (known_for c ps)

-- what a record knows of the channel, if there is the record
abbrev pub known_at : Channel → Option Record → Option Sharing
known_at c None = None
known_at c (Some r) = known_for c (known_of r.pairs.items)

-- what the records know of the channel
abbrev pub known_in : Channel → List Record → ℕ → Option Sharing
known_in c rs i = known_at c (slice_get rs i)

-- a record without the counts and the labels of its pairs
pub record UncountedRecord : Type 0 where
  pub status : Status
  pub first : ℕ
  pub parent : Option ℕ
  pub path : Path
  pub going_children : ℕ
  pub chans : List Channel
  pub known : List KnownPair

-- what the record says without the counts and the labels of its pairs
abbrev pub rest_of : Record → UncountedRecord
rest_of r = record { status = r.status; first = r.first; parent = r.parent; path = r.path; going_children = r.going_children; chans = chans_of r.pairs.items; known = known_of r.pairs.items }

-- the pairs of each record are in order
abbrev pub AreOrdered : List Record → Type 0
AreOrdered rs = (i : ℕ) (r : Record) → slice_get rs i ≡ Some r → IsOrdered (chans_of r.pairs.items)
