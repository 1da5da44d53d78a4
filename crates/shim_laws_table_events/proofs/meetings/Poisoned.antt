-- All that live and share a channel at and below a child have died one after the other: the tree has moved by its poison.
use Rattle.std.proofs.Common.{◌≡◌, ◌≢◌, ◌<◌, ◌≤◌, ℕ, ◌+◌, ◌-◌, true, false, cond, Some, List, [], ◌∷◌, ◌++◌, map, inl, inr, refl, sym, ap, subst, ◌∙◌, arith}
use Rattle.std.specs.Prelude.{slice_get}
use Rattle.std.proofs.lemmas.List.{append_assoc}
use Rattle.shim_base.specs.Paths.{Path, Channel}
use Rattle.shim_base.proofs.Facts.{some_same, true_or_false}
use Rattle.shim_local.specs.Process.{Ops}
use Rattle.shim_local.specs.Laws.{LocalLaws}
use Rattle.shim_semantics.specs.Nodes.{Node, Nodes, Forked, death, state, ready}
use Rattle.shim_semantics.specs.Places.{at, child_at}
use Rattle.shim_semantics.specs.Trees.{Tree, Poison, after}
use Rattle.shim_semantics.proofs.Replaced.{sound_at}
use Rattle.shim_semantics.proofs.HowMany.{clash}
use Rattle.shim_laws_schedules.specs.Waiting.{has_sharer}
use Rattle.shim_laws_schedules.proofs.Homes.{unshared_is_unshared, ready_has_sharer}
use Rattle.shim_laws_schedules.proofs.Unshared.{is_unshared_still}
use Rattle.shim_laws_table.specs.NodeStatus.{ProcessStatus, lives, forks, ends, dies, place}
use Rattle.shim_laws_table.specs.Agrees.{RecordView, free, used, Represents}
use Rattle.shim_laws_table.specs.Places.{killed}
use Rattle.shim_laws_table.specs.Changes.{HaveDied}
use Rattle.shim_laws_table.specs.Dooms.{min_dead_label_among, is_below}
use Rattle.shim_laws_table.proofs.Aside.{at_split}
use Rattle.shim_laws_table.proofs.SameTrees.{same_or_not, seen_fork}
use Rattle.shim_laws_table.proofs.OneChange.{one_state}
use Rattle.shim_laws_table.proofs.OneTree.{one_tree}
use Rattle.shim_laws_table.proofs.Shown.{events_preserve}
use Rattle.shim_laws_table.proofs.Singles.{single_changes_are_represented}
use Rattle.shim_laws_table.proofs.MinLabels.{child_sound, shared_not_below}
use Rattle.shim_laws_table.proofs.CanHappen.{enabled_by_records}
use Rattle.shim_laws_table.proofs.Hanging.{tree_of}
use Rattle.shim_records.specs.Members.{IsAmong}
use Rattle.shim_records.specs.Pairs.{record_view}
use Rattle.shim_records.proofs.Stepping.{set_there, set_elsewhere}
use Rattle.shim_laws_table_events.specs.keeping.Tables.{TableView, HasProcessState, TableInvariant}
use Rattle.shim_laws_table_events.proofs.keeping.Steps.{some_of}
use Rattle.shim_laws_table_events.specs.meetings.Sharers.{AreSharers, ListsSharers}
use Rattle.shim_laws_table_events.specs.meetings.Dying.{DiesAt}
use Rattle.shim_laws_table_events.specs.meetings.Poisons.{DiesOne, survived, was_killed, AllDie, none_left, one_more, IsChildOf, PoisonPreserves}
use Rattle.shim_laws_table_events.specs.meetings.Meetings.{IsEnabled}
use Rattle.shim_laws_table_events.proofs.meetings.Among.{none_among, among_later, among_split, AreDistinct, distinct}
use Rattle.shim_laws_table_events.proofs.meetings.AtHome.{node_at}
use Rattle.shim_laws_table_events.proofs.meetings.Dies.{death_preserves, views_now}

used_so : (f g : ℕ) (k h : ProcessStatus) → used f k ≡ used g h → (f ≡ g) × (k ≡ h)
used_so f g k h e = (ap (first_of f) e, ap (status_is k) e)
  where
    first_of : ℕ → RecordView → ℕ
    first_of d free = d
    first_of d (used f k) = f

    status_is : ProcessStatus → RecordView → ProcessStatus
    status_is d free = d
    status_is d (used f k) = k

module _ {S : Type 0} (o : Ops S) (label : ℕ) where
  abbrev views : TableView S → List RecordView
  views w = map record_view w.records

  -- what came of a process that lived and died so, or of one that didn't live
  abbrev killed_to : ProcessStatus → ProcessStatus
  killed_to lives = dies (death label)
  killed_to (forks n) = forks n
  killed_to ends = ends
  killed_to (dies d) = dies d

  -- ---- one of them

  module _ (i : ℕ) (before behind : TableView S) where
    one_states : DiesOne o label i before behind → behind.states ≡ before.states
    one_states (survived none same) = ap (λ z. z.states) same
    one_states (was_killed f l has low states is_killed) = states

    one_untouched : (j : ℕ) → DiesOne o label i before behind → j ≢ i → slice_get (views behind) j ≡ slice_get (views before) j
    one_untouched j (survived none same) far = ap (λ z. slice_get (views z) j) same
    one_untouched j (was_killed f l has low states is_killed) far =
        ap (λ z. slice_get z j) (views_now o before.states before.records behind.records i f label l has is_killed) ∙ set_elsewhere (views before) i j (used f (dies (death label))) far

    still : (k : ProcessStatus) → (k ≡ lives → ⊥) → killed_to k ≡ k
    still lives h = absurd (h refl)
    still (forks n) h = refl
    still ends h = refl
    still (dies d) h = refl

    one_dies : ((f : ℕ) (l : S) → HasProcessState before i f l lives → label < o.base l) → (f : ℕ) (s : S) (k : ProcessStatus) → DiesOne o label i before behind → HasProcessState before i f s k → slice_get (views behind) i ≡ Some (used f (killed_to k))
    one_dies less f s k (survived none same) has =
        ap (λ z. slice_get (views z) i) same ∙ (has.view_is ∙ ap (λ z. Some (used f z)) (sym (still k (λ e. let now = subst (HasProcessState before i f s) e has in none f s now (less f s now)))))
    one_dies less f s k (was_killed g l mine low states is_killed) has =
        let same = used_so f g k lives (some_same (used f k) (used g lives) (sym has.view_is ∙ mine.view_is)) in
        ap (λ z. slice_get z i) (views_now o before.states before.records behind.records i g label l mine is_killed)
        ∙ (set_there (views before) i (used g lives) (used g (dies (death label))) mine.view_is ∙ (λ j. Some (used (sym same.0 j) (killed_to (sym same.1 j)))))

    killed_view : (g : ℕ) (l : S) → HasProcessState before i g l lives → DiesAt o l label 4294967295 i before.records behind.records → slice_get (views behind) i ≡ Some (used g (dies (death label)))
    killed_view g l mine is_killed =
        ap (λ z. slice_get z i) (views_now o before.states before.records behind.records i g label l mine is_killed) ∙ set_there (views before) i (used g lives) (used g (dies (death label))) mine.view_is

    one_had : (j f : ℕ) (k : ProcessStatus) → DiesOne o label i before behind → slice_get (views behind) j ≡ Some (used f k) → (h : ProcessStatus) × (slice_get (views before) j ≡ Some (used f h))
    one_had j f k (survived none same) e = (k, ap (λ z. slice_get (views z) j) (sym same) ∙ e)
    one_had j f k (was_killed g l mine low states is_killed) e = elim (same_or_not j i) [
      | inl w ↦
          let now = killed_view g l mine is_killed in
          let same = used_so f g k (dies (death label)) (some_same (used f k) (used g (dies (death label))) (sym e ∙ (ap (slice_get (views behind)) w ∙ now))) in
          (lives, ap (slice_get (views before)) w ∙ (mine.view_is ∙ ap (λ z. Some (used z lives)) (sym same.0)))
      | inr w ↦ (k, sym (one_untouched j (was_killed g l mine low states is_killed) w) ∙ e)
    ]

    -- who lives behind it lived before
    one_lived : ((f : ℕ) (l : S) → HasProcessState before i f l lives → label < o.base l) → (j f : ℕ) (l : S) → DiesOne o label i before behind → HasProcessState behind j f l lives → HasProcessState before j f l lives
    one_lived less j f l is_killed has = elim (same_or_not j i) [
      | inl w ↦
          let was = one_had j f lives is_killed has.view_is in
          let its : HasProcessState before j f l was.0 = record { state_is = ap (λ z. slice_get z j) (sym (one_states is_killed)) ∙ has.state_is; view_is = was.1 } in
          let now : slice_get (views behind) j ≡ Some (used f (killed_to was.0)) = ap (slice_get (views behind)) w ∙ one_dies less f l was.0 is_killed (subst (λ z. HasProcessState before z f l was.0) w its) in
          let same = used_so f f lives (killed_to was.0) (some_same (used f lives) (used f (killed_to was.0)) (sym has.view_is ∙ now)) in
          absurd (no_more was.0 (sym same.1))
      | inr w ↦ record { state_is = ap (λ z. slice_get z j) (sym (one_states is_killed)) ∙ has.state_is; view_is = sym (one_untouched j is_killed w) ∙ has.view_is }
    ]
      where
        no_more : (k : ProcessStatus) → killed_to k ≡ lives → ⊥
        no_more lives e = cc
        no_more (forks n) e = cc
        no_more ends e = cc
        no_more (dies d) e = cc

    pub one_keeps : LocalLaws o → (rp : Path) (root : Node S) → TableInvariant o rp before root → DiesOne o label i before behind → (new : Node S) × TableInvariant o rp behind new
    one_keeps law rp root kept (survived none same) = (root, subst (λ z. TableInvariant o rp z root) (sym same) kept)
    one_keeps law rp root kept (was_killed f l has low states is_killed) =
        let w = death_preserves o law rp root before.states before.records behind.records i f label l kept has low is_killed in
        (w.0, subst (λ z. TableInvariant o rp (record { states = z; records = behind.records }) w.0) (sym states) w.2)

  -- ---- all of them

  abbrev AllLess : TableView S → List ℕ → Type 0
  AllLess w numbers = (i : ℕ) → IsAmong i numbers → (f : ℕ) (l : S) → HasProcessState w i f l lives → label < o.base l

  pub record AreKilled (rp : Path) (numbers : List ℕ) (before behind : TableView S) : Type 0 where
    pub states : behind.states ≡ before.states
    pub root : Node S
    pub keeps : TableInvariant o rp behind root
    pub untouched : (j : ℕ) → (IsAmong j numbers → ⊥) → slice_get (views behind) j ≡ slice_get (views before) j
    pub is_killed : (j f : ℕ) (s : S) (k : ProcessStatus) → HasProcessState before j f s k → IsAmong j numbers → slice_get (views behind) j ≡ Some (used f (killed_to k))
    pub had : (j f : ℕ) (k : ProcessStatus) → slice_get (views behind) j ≡ Some (used f k) → (h : ProcessStatus) × (slice_get (views before) j ≡ Some (used f h))

  all_die : {numbers : List ℕ} {before behind : TableView S} → LocalLaws o → (rp : Path) (root : Node S) → AllDie o label numbers before behind → AreDistinct numbers → TableInvariant o rp before root → AllLess before numbers → AreKilled rp numbers before behind
  all_die law rp root (none_left w) apart kept less = record { states = refl; root = root; keeps = kept; untouched = λ j out. refl; is_killed = λ j f s k has g. none_among j g; had = λ j f k e. (k, e) }
  all_die law rp root (one_more i is before between behind first more) apart kept less = joined (all_die law rp next.0 more apart.1 next.1 (λ j g f l has. less j (among_later j i is g) f l (one_lived i before between here j f l first has)))
    where
      here : (f : ℕ) (l : S) → HasProcessState before i f l lives → label < o.base l
      here f l has = less i (0, refl) f l has

      next : (new : Node S) × TableInvariant o rp between new
      next = one_keeps i before between law rp root kept first

      joined : AreKilled rp is between behind → AreKilled rp (i ∷ is) before behind
      joined w = record {
        states = w.states ∙ one_states i before between first;
        root = w.root;
        keeps = w.keeps;
        untouched = λ j out. w.untouched j (λ g. out (among_later j i is g)) ∙ one_untouched i before between j first (λ e. out (0, ap Some (sym e)));
        is_killed = λ j f s k has g. elim (same_or_not j i) [
          | inl e ↦ w.untouched j (λ h. apart.0 j h (sym e)) ∙ (ap (slice_get (views between)) e ∙ one_dies i before between here f s k first (subst (λ z. HasProcessState before z f s k) e has))
          | inr n ↦ elim (among_split j i is g) [
            | inl e ↦ absurd (n (sym e))
            | inr h ↦ w.is_killed j f s k (record { state_is = ap (λ z. slice_get z j) (one_states i before between first) ∙ has.state_is; view_is = one_untouched i before between j first n ∙ has.view_is }) h
          ]
        ];
        had = λ j f k e. let h = w.had j f k e in one_had i before between j f h.0 first h.1;
      }

module _ {S : Type 0} (o : Ops S) (law : LocalLaws o) (before behind : TableView S) (c : Channel) (i label : ℕ) (k l : S) (numbers : List ℕ) (child : IsChildOf before i k l) (is_label : label ≡ o.handlers l - 1) (enabled : IsEnabled o (Poison (o.path k) c) before)
    (lists : ListsSharers o before c i numbers) (all : AllDie o label numbers before behind) (rp : Path) (t : Tree S) (kept : TableInvariant o rp before t.root) where
  can : (u : Tree S) × (after o (Poison (o.path k) c) t ≡ Some u)
  can = some_of (after o (Poison (o.path k) c) t) (enabled rp t kept)

  fork : (ks : Nodes S) × (at (place o rp l) t.root ≡ Some (Forked l ks))
  fork = let w = seen_fork (at (place o rp l) t.root) l child.many (kept.represents.agrees.shown child.parent child.first l (forks child.many) child.fork) in (w.0, w.1)

  its : HasProcessState before (child.first + child.branch) child.own_first k child.status
  its = subst (λ z. HasProcessState before z child.own_first k child.status) child.mine child.has

  -- its place
  its_place : place o rp k ≡ place o rp l ++ child.branch ∷ []
  its_place =
      let z = kept.represents.agrees.below child.parent child.first child.many l child.fork child.branch child.within in
      ap (place o rp) (one_state before.states (map record_view before.records) (child.first + child.branch) child.own_first z.0 k z.1 child.status z.2 its z.3) ∙ z.4

  node : (n : Node S) × (at (place o rp k) t.root ≡ Some n) × (state n ≡ k)
  node = node_at o rp before.states (map record_view before.records) t.root kept.represents i child.own_first k child.status child.has

  at_branch : child_at child.branch [] fork.0 ≡ Some node.0
  at_branch = sym (at_split (place o rp l) (child.branch ∷ []) t.root (Forked l fork.0) fork.1) ∙ (ap (λ z. at z t.root) (sym its_place) ∙ node.1)

  can_poison_is : (o.shares l c ≡ true) × (ready o c node.0 ≡ true) × (is_below (min_dead_label_among o c fork.0) (o.handlers l) ≡ true)
  can_poison_is = ((enabled_by_records o law).poisons rp before.states (map record_view before.records) t c child.parent child.first child.many child.branch child.own_first l k child.status fork.0 node.0 kept.represents child.fork its child.within fork.1 at_branch).0 (enabled rp t kept)

  shares : o.shares k c ≡ true
  shares = elim (true_or_false (o.shares k c)) [
    | inl e ↦ e
    | inr e ↦
        let sound = sound_at o (place o rp l) t.root (Forked l fork.0) kept.represents.sound.below fork.1 in
        let w = child_sound o l sound.number 0 child.branch fork.0 node.0 sound.children at_branch in
        let quiet = unshared_is_unshared o c node.0 w.0 (ap (λ z. o.shares z c) node.2 ∙ e) (λ r h. shared_not_below o t.root (place o rp l) (Forked l fork.0) c kept.represents.sound fork.1 can_poison_is.0 (sound.number, w.1) r (h ∙ w.2 r)) in
        clash (has_sharer o c node.0) (ready_has_sharer o law c node.0 w.0 can_poison_is.1) (is_unshared_still o c node.0 quiet)
  ]

  are : AreSharers o rp before c (place o rp k) numbers
  are = lists rp t.root child.own_first k child.status kept child.has shares

  -- none of them has a handler for it
  below_base : (j : ℕ) → IsAmong j numbers → (f : ℕ) (s : S) → HasProcessState before j f s lives → label < o.base s
  below_base j g f s has =
      let from = are.only j g in
      let m = node_at o rp before.states (map record_view before.records) t.root kept.represents j f s lives has in
      let same : from.state ≡ s = one_state before.states (map record_view before.records) j from.first f from.state s from.status lives from.has has in
      let there : at (place o rp l ++ child.branch ∷ from.further) t.root ≡ Some m.0 = ap (λ z. at z t.root) (sym (append_assoc (place o rp l) (child.branch ∷ []) from.further) ∙ (ap (λ z. z ++ from.further) (sym its_place) ∙ (sym from.is_there ∙ ap (place o rp) same))) ∙ m.1 in
      let handled = (single_changes_are_represented o law).handled t.root m.0 (place o rp l) l fork.0 child.branch from.further kept.represents.sound fork.1 (sym (at_split (place o rp l) (child.branch ∷ from.further) t.root (Forked l fork.0) fork.1) ∙ there) in
      let sound = sound_at o (place o rp l) t.root (Forked l fork.0) kept.represents.sound.below fork.1 in
      less_than label (o.handlers l) (o.base l) (o.base s) is_label (law.base_least l sound.sound) (law.base_most l sound.sound) (subst (λ z. o.handlers l ≤ o.base z) m.2 handled)
    where
      less_than : (x h b y : ℕ) → x ≡ h - 1 → 1 ≤ b → b ≤ h → h ≤ y → x < y
      less_than x h b y e f g w = omega (arith, e, f, g, w)

  as_dead : AreKilled o label rp numbers before behind
  as_dead = all_die o label law rp t.root all (distinct o rp before c (place o rp k) numbers are) kept below_base

  killed_so : (x : ProcessStatus) (s : S) → o.shares s c ≡ true → killed_to o label x ≡ killed o c (death label) s x
  killed_so lives s e = sym (ap (λ b. cond b (dies (death label)) lives) e)
  killed_so (forks n) s e = refl
  killed_so ends s e = refl
  killed_so (dies d) s e = refl

  survives_so : (x : ProcessStatus) (s : S) → o.shares s c ≡ false → x ≡ killed o c (death label) s x
  survives_so lives s e = sym (ap (λ b. cond b (dies (death label)) lives) e)
  survives_so (forks n) s e = refl
  survives_so ends s e = refl
  survives_so (dies d) s e = refl

  from_there : (j f : ℕ) (s : S) (x : ProcessStatus) (r : List ℕ) → HasProcessState before j f s x → place o rp s ≡ place o rp k ++ r → o.shares s c ≡ true → IsAmong j numbers
  from_there j f s x r has there e = are.all j (record { first = f; state = s; status = x; has = has; shares = e; further = r; is_there = there })

  have : HaveDied o rp (place o rp k) c (death label) before.states (map record_view before.records) (map record_view behind.records)
  have = record {
    below = λ j f s x r has there. elim (true_or_false (o.shares s c)) [
      | inl e ↦ as_dead.is_killed j f s x has (from_there j f s x r has there e) ∙ ap (λ z. Some (used f z)) (killed_so x s e)
      | inr e ↦
          as_dead.untouched j (λ g. let w = are.only j g in clash (o.shares s c) (ap (λ z. o.shares z c) (one_state before.states (map record_view before.records) j f w.first s w.state x w.status has w.has) ∙ w.shares) e)
          ∙ (has.view_is ∙ ap (λ z. Some (used f z)) (survives_so x s e))
    ];
    aside = λ j f s x has far. as_dead.untouched j (λ g. let w = are.only j g in far w.further (ap (place o rp) (one_state before.states (map record_view before.records) j f w.first s w.state x w.status has w.has) ∙ w.is_there)) ∙ has.view_is;
    had = as_dead.had;
  }

  shown : Represents o rp before.states (map record_view behind.records) can.0.root
  shown = (events_preserve o law).poisoned rp before.states (map record_view before.records) (map record_view behind.records) t can.0 c child.parent child.own_first child.first child.branch child.many l k child.status kept.represents child.fork child.within its can.1
      (subst (λ z. HaveDied o rp (place o rp k) c (death z) before.states (map record_view before.records) (map record_view behind.records)) is_label have)

  same : as_dead.root ≡ can.0.root
  same = one_tree o rp before.states (map record_view behind.records) as_dead.root can.0.root shown.rooted (subst (λ z. Represents o rp z (map record_view behind.records) as_dead.root) as_dead.states as_dead.keeps.represents).agrees shown.agrees

  moved : (u : Tree S) × (after o (Poison (o.path k) c) t ≡ Some u) × TableInvariant o rp behind u.root
  moved = (can.0, can.1, subst (TableInvariant o rp behind) same as_dead.keeps)

  died_so : (f : ℕ) (s : S) (x : ProcessStatus) → HasProcessState before i f s x → (behind.states ≡ before.states) × HaveDied o rp (place o rp s) c (death label) before.states (map record_view before.records) (map record_view behind.records)
  died_so f s x has = (
    as_dead.states,
    subst (λ z. HaveDied o rp (place o rp z) c (death label) before.states (map record_view before.records) (map record_view behind.records)) (one_state before.states (map record_view before.records) i child.own_first f k s child.status x child.has has) have,
  )

pub poison_preserves : {S : Type 0} (o : Ops S) → LocalLaws o → PoisonPreserves o
poison_preserves o law before behind c i label k l numbers child is_label enabled lists all = (
  (λ rp t kept. moved o law before behind c i label k l numbers child is_label enabled lists all rp t kept),
  (λ rp root f s x kept has. died_so o law before behind c i label k l numbers child is_label enabled lists all rp (tree_of o root) kept f s x has),
)
