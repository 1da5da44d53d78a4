-- How the records change with an event: relations between the records before it and those after it. Each relation names the records that change, and leaves all others in use as they were.
use Rattle.std.specs.Prelude.{◌≡◌, ◌≢◌, ◌⊎◌, ℕ, ℤ, ◌+◌, ◌-◌, ◌<◌, true, Option, Some, None, List, [], ◌∷◌, ◌++◌, length, slice_get, take, drop}
use Rattle.shim_base.specs.Paths.{Path, Channel}
use Rattle.shim_local.specs.Process.{Ops, Parted, AtFork}
use Rattle.shim_local.specs.Quiets.{QuietSteps}
use Rattle.shim_semantics.specs.Nodes.{Node, Nodes, Forked, Death, death, state, states, prevailing, prevailing_death, source, value_of}
use Rattle.shim_semantics.specs.Acts.{Acted, act_live, closed}
use Rattle.shim_semantics.specs.Places.{at}
use Rattle.shim_semantics.specs.Quiets.{Advances}
use Rattle.shim_semantics.specs.Trees.{Tree, Event, Own, Meet, Poison, Close, after}
use Rattle.shim_laws_table.specs.NodeStatus.{ProcessStatus, lives, forks, ends, dies, process_status, is_leaf, place, how_many_nodes}
use Rattle.shim_laws_table.specs.Agrees.{RecordView, free, used, Has, Agrees, Represents}
use Rattle.shim_laws_table.specs.Places.{IsReplaced, IsBy, got, killed}

-- The record i has the state s and the status k afterwards. No other record has changed.
pub record HasChanged {S : Type 0} (before after : List S) (old_views views : List RecordView) (i : ℕ) (s : S) (k : ProcessStatus) : Type 0 where
  pub first : ℕ
  pub mine : Has after views i first s k
  pub others : (j d : ℕ) (t : S) (x : ProcessStatus) → j ≢ i → Has before old_views j d t x → Has after views j d t x
  pub only : (j d : ℕ) (t : S) (x : ProcessStatus) → j ≢ i → Has after views j d t x → Has before old_views j d t x

-- the record i, of a process that forked, has its new state and its children, which have the records from g on; no other record has changed
pub record HasForked {S : Type 0} (before after : List S) (old_views views : List RecordView) (i g : ℕ) (p : S) (ks : List S) : Type 0 where
  pub parent : Has after views i g p (forks (length ks))
  pub born : (b : ℕ) (k : S) → slice_get ks b ≡ Some k → (d : ℕ) × Has after views (g + b) d k lives
  pub others : (j d : ℕ) (t : S) (x : ProcessStatus) → j ≢ i → Has before old_views j d t x → Has after views j d t x
  pub only : (j d : ℕ) (t : S) (x : ProcessStatus) → Has after views j d t x
      → ((j ≡ i) × (t ≡ p) × (x ≡ forks (length ks))) ⊎ (((b : ℕ) × (slice_get ks b ≡ Some t) × (j ≡ g + b) × (x ≡ lives)) ⊎ ((j ≢ i) × Has before old_views j d t x))

-- The record i, of a process whose fork closed, has the state s and the status k afterwards. The records of its n children, from g on, are free. No other record has changed.
pub record HasClosed {S : Type 0} (before after : List S) (old_views views : List RecordView) (i g n : ℕ) (s : S) (k : ProcessStatus) : Type 0 where
  pub first : ℕ
  pub parent : Has after views i first s k
  pub others : (j d : ℕ) (t : S) (x : ProcessStatus) → j ≢ i → ((b : ℕ) → b < n → j ≢ g + b) → Has before old_views j d t x → Has after views j d t x
  pub only : (j d : ℕ) (t : S) (x : ProcessStatus) → Has after views j d t x
      → ((j ≡ i) × (t ≡ s) × (x ≡ k)) ⊎ ((j ≢ i) × ((b : ℕ) → b < n → j ≢ g + b) × Has before old_views j d t x)

-- each live process that is at c has received the value, and nothing else has changed
pub record HaveReceived {S : Type 0} (o : Ops S) (c : Channel) (v : ℤ) (views : List RecordView) (before after : List S) : Type 0 where
  pub gets : (i f : ℕ) (s : S) (k : ProcessStatus) → Has before views i f s k → slice_get after i ≡ Some (got o c v k s)
  pub had : (i : ℕ) (s : S) → slice_get after i ≡ Some s → (r : S) × (slice_get before i ≡ Some r)

-- Each live process at or below the place q that shares c has died the death d. No other status has changed.
pub record HaveDied {S : Type 0} (o : Ops S) (rp : Path) (q : List ℕ) (c : Channel) (d : Death) (states : List S) (old_views views : List RecordView) : Type 0 where
  pub below : (i f : ℕ) (s : S) (k : ProcessStatus) (r : List ℕ) → Has states old_views i f s k → place o rp s ≡ q ++ r → slice_get views i ≡ Some (used f (killed o c d s k))
  pub aside : (i f : ℕ) (s : S) (k : ProcessStatus) → Has states old_views i f s k → ((r : List ℕ) → place o rp s ≢ q ++ r) → slice_get views i ≡ Some (used f k)
  pub had : (i f : ℕ) (k : ProcessStatus) → slice_get views i ≡ Some (used f k) → (h : ProcessStatus) × (slice_get old_views i ≡ Some (used f h))

-- The prevailing death of a record and of the records after it: if the process of the record died, the death of the outermost exception prevails.
abbrev pub prevailing_with : RecordView → Option Death → Option Death
prevailing_with free d = d
prevailing_with (used f lives) d = d
prevailing_with (used f (forks n)) d = d
prevailing_with (used f ends) d = d
prevailing_with (used f (dies e)) d = prevailing e d

-- the prevailing death among these records
abbrev pub prevailing_among : List RecordView → Option Death
prevailing_among [] = None
prevailing_among (x ∷ xs) = prevailing_with x (prevailing_among xs)

-- the first n elements from the place g on, or fewer where the list ends before
abbrev pub segment : {A : Type 0} → ℕ → ℕ → List A → List A
segment g n xs = take n (drop g xs)

-- Records represent a tree and change as an event changes them. Then they represent the tree after the event.
pub record EventsPreserve {S : Type 0} (o : Ops S) : Type 0 where
  -- a live process's own step that makes no children, or its end
  pub stepped : (rp : Path) (before behind : List S) (old_views views : List RecordView) (t u : Tree S) (e : Event) (i f : ℕ) (l : S) (a : Acted S)
      → Represents o rp before old_views t.root → Has before old_views i f l lives → IsBy (o.path l) e → after o e t ≡ Some u → act_live o l (o.stop l) ≡ Some a → is_leaf a.node ≡ true
      → HasChanged before behind old_views views i (state a.node) (process_status a.node) → Represents o rp behind views u.root
  -- n quiet steps of a live process
  pub advanced : (rp : Path) (before behind : List S) (old_views views : List RecordView) (t u : Tree S) (i f n : ℕ) (l last : S)
      → Represents o rp before old_views t.root → Has before old_views i f l lives → QuietSteps o n l last → Advances o (o.path l) n t u
      → HasChanged before behind old_views views i last lives → Represents o rp behind views u.root
  pub forked : (rp : Path) (before behind : List S) (old_views views : List RecordView) (t u : Tree S) (i f g : ℕ) (l p : S) (ks : List S)
      → Represents o rp before old_views t.root → Has before old_views i f l lives → after o (Own (o.path l)) t ≡ Some u → o.stop l ≡ AtFork → o.fork l ≡ Parted p ks
      → HasForked before behind old_views views i g p ks → Represents o rp behind views u.root
  pub closed : (rp : Path) (before behind : List S) (old_views views : List RecordView) (t u : Tree S) (i g n : ℕ) (l : S) (a : Acted S)
      → Represents o rp before old_views t.root → Has before old_views i g l (forks n) → after o (Close (o.path l)) t ≡ Some u → a ≡ closed o l (segment g n before) (prevailing_among (segment g n old_views))
      → HasClosed before behind old_views views i g n (state a.node) (process_status a.node) → Represents o rp behind views u.root
  pub met : (rp : Path) (before behind : List S) (views : List RecordView) (t u : Tree S) (c : Channel) (v : ℤ)
      → Represents o rp before views t.root → after o (Meet c) t ≡ Some u → v ≡ value_of o c (source o c t.root) → HaveReceived o c v views before behind → Represents o rp behind views u.root
  pub poisoned : (rp : Path) (states : List S) (old_views views : List RecordView) (t u : Tree S) (c : Channel) (i f g b n : ℕ) (l k : S) (x : ProcessStatus)
      → Represents o rp states old_views t.root → Has states old_views i g l (forks n) → b < n → Has states old_views (g + b) f k x → after o (Poison (o.path k) c) t ≡ Some u
      → HaveDied o rp (place o rp k) c (death (o.handlers l - 1)) states old_views views → Represents o rp states views u.root

-- The states and the records of a fork's children lie together in both lists, from the number g on. The number of children, their states and their prevailing death are read off there.
abbrev pub ChildrenAreRepresented : {S : Type 0} → Ops S → Type 0
ChildrenAreRepresented {S} o = (rp : Path) (states' : List S) (views : List RecordView) (root : Node S) (i g n : ℕ) (l : S) (ks : Nodes S)
    → Agrees o rp states' views root → Has states' views i g l (forks n) → at (place o rp l) root ≡ Some (Forked l ks)
    → (how_many_nodes ks ≡ n) × (states ks ≡ segment g n states') × (prevailing_death ks ≡ prevailing_among (segment g n views))

-- One record gets another state of the same path, or another status, neither with children: the records agree with the tree in which the node at its place is changed.
abbrev pub OneChangeIsRepresented : {S : Type 0} → Ops S → Type 0
OneChangeIsRepresented {S} o = (rp : Path) (before behind : List S) (old_views views : List RecordView) (old new m a : Node S) (i f : ℕ)
    → Agrees o rp before old_views old → Has before old_views i f (state m) (process_status m) → is_leaf m ≡ true → is_leaf a ≡ true → o.path (state a) ≡ o.path (state m)
    → IsReplaced (place o rp (state m)) m a old new → HasChanged before behind old_views views i (state a) (process_status a) → Agrees o rp behind views new
