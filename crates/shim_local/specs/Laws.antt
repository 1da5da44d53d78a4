-- The laws that each kind of process meets (`LocalLaws`), and the relations between states by which they are stated.
use Rattle.std.specs.Prelude.{◌≡◌, ◌≢◌, ◌<◌, ◌≤◌, ◌⊎◌, ◌↔◌, ℕ, suc, ℤ, ◌+◌, Bool, true, false, List, [], ◌∷◌, ◌++◌, Some, None, if◌then◌else◌, slice_get}
use Rattle.shim_base.specs.declared.operators.Trap.{Trap}
use Rattle.shim_base.specs.Paths.{Path, Channel, NamedChannel}
use Rattle.shim_local.specs.Process.{Ops, Parted, Trapped, AtQuiet, AtNext, AtPut, AtFork, AtThrow, AtTrap}

-- it holds of each of these
abbrev pub AllOf : {S : Type 0} → (S → Type 0) → List S → Type 0
AllOf P [] = Unit {0}
AllOf P (k ∷ ks) = P k × AllOf P ks

-- it holds of one of these
abbrev pub AnyOf : {S : Type 0} → (S → Type 0) → List S → Type 0
AnyOf P [] = ⊥
AnyOf P (k ∷ ks) = P k ⊎ AnyOf P ks

-- of how many of these it is true
abbrev pub how_many : {S : Type 0} → (S → Bool) → List S → ℕ
how_many f [] = 0
how_many f (k ∷ ks) = if f k then suc (how_many f ks) else how_many f ks

-- The second state is the first after its `put`, after its rendezvous with some value, or after the computing of the number that it throws.
pub data Called {S : Type 0} (o : Ops S) (l m : S) : Type 0 where
  by_put : o.stop l ≡ AtPut → m ≡ o.put l → Called o l m
  by_receive : (c : NamedChannel) (v : ℤ) → o.stop l ≡ AtNext c → m ≡ o.receive l v → Called o l m
  by_thrown : (label : ℕ) → o.stop l ≡ AtThrow label → m ≡ o.thrown l → Called o l m

-- the second state is the first after it caught an exception with some number, of the label of one of its own exception places
pub data Unwound {S : Type 0} (o : Ops S) (l m : S) : Type 0 where
  by_label : (label : ℕ) (v : ℤ) → o.base l ≤ label → label < o.handlers l → m ≡ o.unwind l label v → Unwound o l m

-- The second state is the first after one call: a quiet step, a `put`, a rendezvous, the computing of a thrown number, a catch, a fork or its trap, or a join.
pub data Moved {S : Type 0} (o : Ops S) (l m : S) : Type 0 where
  by_quiet : o.stop l ≡ AtQuiet → m ≡ o.quiet l → Moved o l m
  by_call : Called o l m → Moved o l m
  by_unwind : Unwound o l m → Moved o l m
  by_fork : (children : List S) → o.stop l ≡ AtFork → o.fork l ≡ Parted m children → Moved o l m
  by_trap : o.stop l ≡ AtFork → o.fork l ≡ Trapped m → Moved o l m
  by_join : (children : List S) (goes_on : Bool) → AllOf o.sound children → o.born l children → m ≡ o.join l children goes_on → Moved o l m

-- the state l is at a fork, which leaves the parent p and makes the children ks
abbrev pub Forks : {S : Type 0} → Ops S → S → S → List S → Type 0
Forks o l p ks = (o.stop l ≡ AtFork) × (o.fork l ≡ Parted p ks)

-- Each of these processes has this base, and the path of a child of the process with path p, by its fork of number f. The first is in branch i, and each other one in the branch after that of its predecessor.
abbrev pub AreChildren : {S : Type 0} → Ops S → Path → ℕ → ℕ → ℕ → List S → Type 0
AreChildren o p base f i [] = Unit {0}
AreChildren o p base f i (k ∷ ks) = (o.path k ≡ p ++ (f, i) ∷ []) × (o.base k ≡ base) × AreChildren o p base f (i + 1) ks

-- the stop of the process is a trap, of some kind and in some line
abbrev pub IsTrapped : {S : Type 0} → Ops S → S → Type 0
IsTrapped o l = (kind : Trap) × (line : ℕ) × (o.stop l ≡ AtTrap kind line)

-- the channel is one of those that the fork which made the process gave it
abbrev pub IsGiven : {S : Type 0} → Ops S → S → Channel → Type 0
IsGiven o l c = (at : ℕ) × (d : NamedChannel) × (slice_get (o.given l) at ≡ Some d) × (d.channel ≡ c)

-- the process carries the channel only where it did before, or where the channel is one of its own that it didn't share before
abbrev pub CarriesNoMore : {S : Type 0} → Ops S → S → S → Channel → Type 0
CarriesNoMore o l m c = o.carries m c ≡ true → (o.carries l c ≡ true) ⊎ ((c.home ≡ o.path l) × (o.shares l c ≡ false))

-- the laws of a kind of process: what each call keeps and changes, what children a fork makes, and who shares, carries and holds what
pub record LocalLaws {S : Type 0} (o : Ops S) : Type 0 where
  -- each call keeps a state sound, and the children of a fork are sound
  pub moved_sound : (l m : S) → o.sound l → Moved o l m → o.sound m
  pub fork_sound : (l p : S) (ks : List S) → o.sound l → Forks o l p ks → AllOf o.sound ks
  -- no call changes the path, the base or the given channels of a process
  pub moved_path : (l m : S) → o.sound l → Moved o l m → o.path m ≡ o.path l
  pub moved_base : (l m : S) → o.sound l → Moved o l m → o.base m ≡ o.base l
  pub moved_given : (l m : S) → o.sound l → Moved o l m → o.given m ≡ o.given l
  -- A root was given no channels. Any other process shares a channel of another process exactly where it was given that.
  pub root_given : (l : S) → o.sound l → o.path l ≡ [] → o.given l ≡ []
  pub given_shared : (l : S) (c : Channel) → o.sound l → o.path l ≢ [] → c.home ≢ o.path l → (o.shares l c ≡ true) ↔ IsGiven o l c
  -- At least one exception place is in force around a process, and no fewer with its own. A fork, its trap, and a join that stays at the fork leave the number of places in force as it is.
  pub base_least : (l : S) → o.sound l → 1 ≤ o.base l
  pub base_most : (l : S) → o.sound l → o.base l ≤ o.handlers l
  pub fork_handlers : (l p : S) (ks : List S) → o.sound l → Forks o l p ks → o.handlers p ≡ o.handlers l
  pub fork_trap_handlers : (l m : S) → o.sound l → o.stop l ≡ AtFork → o.fork l ≡ Trapped m → o.handlers m ≡ o.handlers l
  pub join_handlers : (l : S) (ks : List S) → o.sound l → AllOf o.sound ks → o.born l ks → o.handlers (o.join l ks false) ≡ o.handlers l
  -- a process shares the channel of its `next` and each channel that it carries, has the output at a `put`, and throws only what is in force
  pub next_shares : (l : S) (c : NamedChannel) → o.sound l → o.stop l ≡ AtNext c → o.shares l c.channel ≡ true
  pub carries_shares : (l : S) (c : Channel) → o.sound l → o.carries l c ≡ true → o.shares l c ≡ true
  pub put_holds : (l : S) → o.sound l → o.stop l ≡ AtPut → o.holds_output l ≡ true
  pub throw_below : (l : S) (x : ℕ) → o.sound l → o.stop l ≡ AtThrow x → x < o.handlers l
  -- a put or a fork that traps leaves its process trapped, and a put that puts a byte doesn't
  pub put_traps : (l : S) → o.sound l → o.stop l ≡ AtPut → o.byte l ≡ None → IsTrapped o (o.put l)
  pub put_goes : (l : S) (b : ℕ) → o.sound l → o.stop l ≡ AtPut → o.byte l ≡ Some b → IsTrapped o (o.put l) → ⊥
  pub fork_traps : (l m : S) → o.sound l → o.stop l ≡ AtFork → o.fork l ≡ Trapped m → IsTrapped o m
  -- computing the number of a throw changes nothing if there is one, and else leaves the process trapped
  pub thrown_same : (l : S) (x : ℕ) (v : ℤ) → o.sound l → o.stop l ≡ AtThrow x → o.number l ≡ Some v → o.thrown l ≡ l
  pub throw_traps : (l : S) (x : ℕ) → o.sound l → o.stop l ≡ AtThrow x → o.number l ≡ None → IsTrapped o (o.thrown l)
  -- Which channels a process shares: a quiet step and a catch keep each channel, and add only channels whose home is the process. No other call changes which channels a process shares.
  pub quiet_shares : (l : S) (c : Channel) → o.sound l → o.stop l ≡ AtQuiet → o.shares l c ≡ true → o.shares (o.quiet l) c ≡ true
  pub quiet_adds : (l : S) (c : Channel) → o.sound l → o.stop l ≡ AtQuiet → o.shares l c ≡ false → o.shares (o.quiet l) c ≡ true → c.home ≡ o.path l
  pub call_shares : (l m : S) (c : Channel) → o.sound l → Called o l m → o.shares m c ≡ o.shares l c
  pub unwind_shares : (l m : S) (c : Channel) → o.sound l → Unwound o l m → o.shares l c ≡ true → o.shares m c ≡ true
  pub unwind_adds : (l m : S) (c : Channel) → o.sound l → Unwound o l m → o.shares l c ≡ false → o.shares m c ≡ true → c.home ≡ o.path l
  pub fork_shares : (l p : S) (ks : List S) (c : Channel) → o.sound l → Forks o l p ks → o.shares p c ≡ o.shares l c
  pub fork_trap_shares : (l m : S) (c : Channel) → o.sound l → o.stop l ≡ AtFork → o.fork l ≡ Trapped m → o.shares m c ≡ o.shares l c
  pub join_shares : (l : S) (ks : List S) (goes_on : Bool) (c : Channel) → o.sound l → AllOf o.sound ks → o.born l ks → o.shares (o.join l ks goes_on) c ≡ o.shares l c
  -- A fork has at least one child. Each child has the path of its branch of that fork. The base of each child is the number of exception places in force in the parent. A child shares only channels that the parent shares or whose home is the child, and exactly those that it was given.
  pub fork_some : (l p : S) (ks : List S) → o.sound l → Forks o l p ks → ks ≢ []
  pub fork_children : (l p : S) (ks : List S) → o.sound l → Forks o l p ks → (f : ℕ) × AreChildren o (o.path l) (o.handlers l) f 0 ks
  pub children_share : (l p : S) (ks : List S) (c : Channel) → o.sound l → Forks o l p ks → AllOf (λ k. o.shares k c ≡ true → (o.shares l c ≡ true) ⊎ (c.home ≡ o.path k)) ks
  pub children_given : (l p : S) (ks : List S) (c : Channel) → o.sound l → Forks o l p ks → AllOf (λ k. (o.shares k c ≡ true) ↔ IsGiven o k c) ks
  -- The children that a fork makes are `born` of its parent, with the paths and the base of children. They stay born of it after each call of one of them.
  pub fork_born : (l p : S) (ks : List S) → o.sound l → Forks o l p ks → o.born p ks
  pub born_children : (l : S) (ks : List S) → o.born l ks → (f : ℕ) × AreChildren o (o.path l) (o.handlers l) f 0 ks
  pub born_moved : (l k m : S) (before after : List S) → o.sound k → o.born l (before ++ k ∷ after) → Moved o k m → o.born l (before ++ m ∷ after)
  -- If a process carries a channel at a fork, exactly one of the parent and the children carries it after the fork. The same holds of the output. Besides, a child may carry only a channel whose home is the child. Neither the parent nor a process that trapped at the fork gains a channel or the output.
  pub fork_hands_on : (l p : S) (ks : List S) (c : Channel) → o.sound l → Forks o l p ks → o.carries l c ≡ true → how_many (λ s. o.carries s c) (p ∷ ks) ≡ 1
  pub fork_hands_output : (l p : S) (ks : List S) → o.sound l → Forks o l p ks → o.holds_output l ≡ true → how_many o.holds_output (p ∷ ks) ≡ 1
  pub children_carry : (l p : S) (ks : List S) (c : Channel) → o.sound l → Forks o l p ks → AllOf (λ k. o.carries k c ≡ true → (o.carries l c ≡ true) ⊎ (c.home ≡ o.path k)) ks
  pub children_hold : (l p : S) (ks : List S) → o.sound l → Forks o l p ks → AllOf (λ k. o.holds_output k ≡ true → o.holds_output l ≡ true) ks
  pub fork_carries : (l p : S) (ks : List S) (c : Channel) → o.sound l → Forks o l p ks → o.carries p c ≡ true → o.carries l c ≡ true
  pub fork_holds : (l p : S) (ks : List S) → o.sound l → Forks o l p ks → o.holds_output p ≡ true → o.holds_output l ≡ true
  pub fork_trap_carries : (l m : S) (c : Channel) → o.sound l → o.stop l ≡ AtFork → o.fork l ≡ Trapped m → o.carries m c ≡ true → o.carries l c ≡ true
  pub fork_trap_holds : (l m : S) → o.sound l → o.stop l ≡ AtFork → o.fork l ≡ Trapped m → o.holds_output m ≡ true → o.holds_output l ≡ true
  -- After a join the parent carries a channel, or holds the output, only if it or one of its children did before.
  pub join_carries : (l : S) (ks : List S) (goes_on : Bool) (c : Channel) → o.sound l → AllOf o.sound ks → o.born l ks → o.carries (o.join l ks goes_on) c ≡ true
      → (o.carries l c ≡ true) ⊎ AnyOf (λ k. o.carries k c ≡ true) ks
  pub join_holds : (l : S) (ks : List S) (goes_on : Bool) → o.sound l → AllOf o.sound ks → o.born l ks → o.holds_output (o.join l ks goes_on) ≡ true
      → (o.holds_output l ≡ true) ⊎ AnyOf (λ k. o.holds_output k ≡ true) ks
  -- No other call gives a process the output. None makes a process carry a channel but as `CarriesNoMore` allows.
  pub quiet_carries : (l : S) (c : Channel) → o.sound l → o.stop l ≡ AtQuiet → CarriesNoMore o l (o.quiet l) c
  pub call_carries : (l m : S) (c : Channel) → o.sound l → Called o l m → CarriesNoMore o l m c
  pub unwind_carries : (l m : S) (c : Channel) → o.sound l → Unwound o l m → CarriesNoMore o l m c
  pub quiet_holds : (l : S) → o.sound l → o.stop l ≡ AtQuiet → o.holds_output (o.quiet l) ≡ true → o.holds_output l ≡ true
  pub call_holds : (l m : S) → o.sound l → Called o l m → o.holds_output m ≡ true → o.holds_output l ≡ true
  pub unwind_holds : (l m : S) → o.sound l → Unwound o l m → o.holds_output m ≡ true → o.holds_output l ≡ true
