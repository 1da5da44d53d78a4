-- The pairs of a new fork: one for each channel that it shares and gave to a child.
use Rattle.std.specs.Prelude.{◌≡◌, ◌≢◌, ◌≤◌, ◌<◌, ◌↔◌, ◌-◌, length, ℕ, Bool, true, false, Option, Some, None, List, [], ◌∷◌, ◌++◌, cond, map, slice_get}
use Rattle.std.specs.Ordering.{is_lt}
use Rattle.shim_base.specs.Paths.{Channel, NamedChannel, channel_order}
use Rattle.shim_local.specs.Process.{Ops}
use Rattle.shim_local.specs.Laws.{AnyOf, IsGiven}
use Rattle.shim_laws_table.specs.Counts.{Tally, fresh_tally}
use Rattle.shim_records.specs.Members.{IsAmong}
use Rattle.shim_records.specs.Pairs.{tally, chans_of, IsOrdered, pair_of, tally_for, min_label_of, known_of, known_for}
use Rattle.shim_records.specs.declared.pair.Pair.{Pair}
use Rattle.shim_records.specs.declared.pair.Sharing.{Sharing}

-- those of these channels that the process shares
abbrev pub shared_of : {S : Type 0} → Ops S → S → List NamedChannel → List NamedChannel
shared_of o p [] = []
shared_of o p (d ∷ ds) = cond (o.shares p d.channel) (d ∷ shared_of o p ds) (shared_of o p ds)

-- the channels that these children were given and the process shares, child after child
abbrev pub shared_given : {S : Type 0} → Ops S → S → List S → List NamedChannel
shared_given o p [] = []
shared_given o p (k ∷ ks) = shared_of o p (o.given k) ++ shared_given o p ks

-- the channels without their names
abbrev pub channels : List NamedChannel → List Channel
channels ds = map (λ d. d.channel) ds

-- none of these is less than the one before it
abbrev pub RisesFrom : Channel → List Channel → Type 0
RisesFrom a [] = Unit {0}
RisesFrom a (c ∷ cs) = (is_lt (channel_order c a) ≡ false) × RisesFrom c cs

-- they are in order, some perhaps several times
abbrev pub Rises : List Channel → Type 0
Rises [] = Unit {0}
Rises (c ∷ cs) = RisesFrom c cs

-- there is no pair, or the channel comes after that of the pair
abbrev pub is_after : Option Pair → Channel → Bool
is_after None c = true
is_after (Some p) c = is_lt (channel_order p.chan.channel c)

-- there is no pair, or the channel comes after that of the last one
abbrev pub comes_after : List Pair → Channel → Bool
comes_after ps c = is_after (slice_get ps (length ps - 1)) c

-- Of new children: if there is any, `last` is a child's branch. Each that shares the channel has a branch from `first` to `last`. If one shares and carries it, `source` is the branch of one that carries it. If none carries it, `source` is no child's branch.
pub record FreshSharing {S : Type 0} (o : Ops S) (c : Channel) (ks : List S) (k : Sharing) : Type 0 where
  pub within : (b : ℕ) (s : S) → slice_get ks b ≡ Some s → k.last < length ks
  pub between : (b : ℕ) (s : S) → slice_get ks b ≡ Some s → o.shares s c ≡ true → (k.first ≤ b) × (b ≤ k.last)
  pub carrier : (b : ℕ) (s : S) → slice_get ks b ≡ Some s → o.shares s c ≡ true → o.carries s c ≡ true → (t : S) × (slice_get ks k.source ≡ Some t) × (o.carries t c ≡ true)
  pub nobody : ((b : ℕ) (s : S) → slice_get ks b ≡ Some s → o.carries s c ≡ false) → length ks ≤ k.source

-- What is known of the sharing after the first i children: `between` and `carrier` concern these alone. If none of all children carries the channel, `source` is at least 4,294,967,295.
pub record SharingSoFar {S : Type 0} (o : Ops S) (c : Channel) (ks : List S) (i : ℕ) (k : Sharing) : Type 0 where
  pub last : k.last ≤ i - 1
  pub between : (b : ℕ) (s : S) → b < i → slice_get ks b ≡ Some s → o.shares s c ≡ true → (k.first ≤ b) × (b ≤ k.last)
  pub carrier : (b : ℕ) (s : S) → b < i → slice_get ks b ≡ Some s → o.shares s c ≡ true → o.carries s c ≡ true → (t : S) × (slice_get ks k.source ≡ Some t) × (o.carries t c ≡ true)
  pub nobody : ((b : ℕ) (s : S) → slice_get ks b ≡ Some s → o.carries s c ≡ false) → 4294967295 ≤ k.source

-- How a look at the child of the branch b changes what is known of the sharing. The child doesn't share the channel, or shares it without carrying it, or carries it.
pub data LooksAt {S : Type 0} (o : Ops S) (c : Channel) (b : ℕ) (s : S) (before after : Sharing) : Type 0 where
  unshared : o.shares s c ≡ false → after ≡ before → LooksAt o c b s before after
  shares : after.first ≤ b → after.first ≤ before.first → after.last ≡ b → o.carries s c ≡ false → after.source ≡ before.source → LooksAt o c b s before after
  takes : after.first ≤ b → after.first ≤ before.first → after.last ≡ b → o.carries s c ≡ true → after.source ≡ b → LooksAt o c b s before after

-- a pair of the channel is added after the others, unless the channel doesn't come after that of the last pair
pub data IsOneMore {S : Type 0} (o : Ops S) (ks : List S) (c : Channel) (before after : List Pair) : Type 0 where
  skipped : comes_after before c ≡ false → after ≡ before → IsOneMore o ks c before after
  added : (p : Pair) → comes_after before c ≡ true → after ≡ before ++ p ∷ [] → p.chan.channel ≡ c → tally p ≡ fresh_tally o c ks → p.min_dead_label ≡ None → FreshSharing o c ks p.sharing → IsOneMore o ks c before after

-- one pair for each of these channels, in order, with the counts of new children
pub record IsPaired {S : Type 0} (o : Ops S) (ks : List S) (cs : List Channel) (pairs : List Pair) : Type 0 where
  pub ordered : IsOrdered (chans_of pairs)
  pub right : (i : ℕ) (p : Pair) → slice_get pairs i ≡ Some p → (tally p ≡ fresh_tally o p.chan.channel ks) × (p.min_dead_label ≡ None) × FreshSharing o p.chan.channel ks p.sharing
  pub there : (c : Channel) → IsAmong c (chans_of pairs) ↔ IsAmong c cs

-- the pairs of the fork that made these children
pub record FreshPairs {S : Type 0} (o : Ops S) (p : S) (ks : List S) (pairs : List Pair) : Type 0 where
  pub ordered : IsOrdered (chans_of pairs)
  pub right : (c : Channel) (y : Tally) → tally_for c pairs ≡ Some y → y ≡ fresh_tally o c ks
  pub there : (c : Channel) → (tally_for c pairs ≢ None) ↔ ((o.shares p c ≡ true) × AnyOf (λ k. IsGiven o k c) ks)
  pub unlabelled : (c : Channel) → min_label_of (pair_of c pairs) ≡ None
  pub known : (c : Channel) (k : Sharing) → known_for c (known_of pairs) ≡ Some k → FreshSharing o c ks k
