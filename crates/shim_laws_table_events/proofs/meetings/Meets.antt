-- All that share a channel have received one after the other: the tree has moved by the rendezvous.
use Rattle.std.proofs.Common.{◌≡◌, ◌≢◌, ◌⊎◌, ℕ, true, false, cond, Some, List, map, inl, inr, refl, sym, ap, subst, ◌∙◌}
use Rattle.std.specs.Prelude.{ℤ, slice_get}
use Rattle.shim_base.specs.Paths.{Path, Channel, same_channel}
use Rattle.shim_base.proofs.Facts.{true_or_false}
use Rattle.shim_base.proofs.SamePaths.{same_channel_refl}
use Rattle.shim_local.specs.Process.{Ops}
use Rattle.shim_local.specs.Laws.{LocalLaws}
use Rattle.shim_semantics.specs.Nodes.{Node, Live, is_next, source, value_of}
use Rattle.shim_semantics.specs.Places.{at, meets}
use Rattle.shim_semantics.specs.Trees.{Tree, Meet, met, after}
use Rattle.shim_semantics.proofs.Replaced.{sound_at}
use Rattle.shim_laws_schedules.proofs.Unshared.{stands_shares}
use Rattle.shim_laws_table.specs.NodeStatus.{ProcessStatus, lives, forks, ends, dies, place}
use Rattle.shim_laws_table.specs.Agrees.{RecordView, Represents}
use Rattle.shim_laws_table.specs.Places.{got}
use Rattle.shim_laws_table.specs.Changes.{HaveReceived}
use Rattle.shim_laws_table.proofs.SameTrees.{same_or_not, seen_live}
use Rattle.shim_laws_table.proofs.OneChange.{one_state, one_status}
use Rattle.shim_laws_table.proofs.OneTree.{one_tree}
use Rattle.shim_laws_table.proofs.Shown.{events_preserve}
use Rattle.shim_laws_table.proofs.Hanging.{tree_of}
use Rattle.shim_records.specs.Members.{IsAmong}
use Rattle.shim_records.specs.Pairs.{record_view}
use Rattle.shim_records.proofs.Stepping.{set_there, set_elsewhere}
use Rattle.shim_records.proofs.ReadOff.{same_views}
use Rattle.shim_laws_table_events.specs.keeping.Tables.{TableView, HasProcessState, TableInvariant}
use Rattle.shim_laws_table_events.specs.meetings.Sharers.{AreSharers, ListsSharers, AreReceivers, ListsReceivers}
use Rattle.shim_laws_table_events.specs.meetings.Meetings.{ReceivesOne, not_at_channel, received, ReceiveAll, none_left, one_more, IsEnabled, Declares, HasValue, MeetingPreserves, SharersReceive}
use Rattle.shim_laws_table_events.proofs.meetings.Among.{none_among, among_later, among_split, among_or_not, AreDistinct, distinct}
use Rattle.shim_laws_table_events.proofs.meetings.AtHome.{below_home, home_shares, can_meet}
use Rattle.shim_laws_table_events.proofs.meetings.Receives.{receive_preserves, moves_on_rest}

module _ {S : Type 0} (o : Ops S) (law : LocalLaws o) (c : Channel) (v : ℤ) where
  abbrev views : TableView S → List RecordView
  views w = map record_view w.records

  -- ---- one of them

  one_views : (i : ℕ) (before behind : TableView S) → ReceivesOne o c v i before behind → views behind ≡ views before
  one_views i before behind (not_at_channel none same) = ap views same
  one_views i before behind (received f l d has stop is states moves) = same_views before.records behind.records (moves_on_rest moves)

  pub one_keeps : (rp : Path) (i : ℕ) (before behind : TableView S) (root : Node S) → ReceivesOne o c v i before behind → TableInvariant o rp before root → (new : Node S) × TableInvariant o rp behind new
  one_keeps rp i before behind root (not_at_channel none same) kept = (root, subst (λ z. TableInvariant o rp z root) (sym same) kept)
  one_keeps rp i before behind root (received f l d has stop is states moves) kept =
      let w = receive_preserves o law rp root before.states before.records behind.records i f l d v kept has stop moves in
      (w.0, subst (λ z. TableInvariant o rp (record { states = z; records = behind.records }) w.0) (sym states) w.2)

  one_untouched : (i j : ℕ) (before behind : TableView S) → ReceivesOne o c v i before behind → j ≢ i → slice_get behind.states j ≡ slice_get before.states j
  one_untouched i j before behind (not_at_channel none same) far = ap (λ z. slice_get z.states j) same
  one_untouched i j before behind (received f l d has stop is states moves) far = ap (λ z. slice_get z j) states ∙ set_elsewhere before.states i j (o.receive l v) far

  got_none : (k : ProcessStatus) (s : S) → (k ≡ lives → is_next (o.stop s) c ≡ false) → got o c v k s ≡ s
  got_none lives s h = ap (λ b. cond b (o.receive s v) s) (h refl)
  got_none (forks n) s h = refl
  got_none ends s h = refl
  got_none (dies d) s h = refl

  one_gets : (i f : ℕ) (s : S) (k : ProcessStatus) (before behind : TableView S) → ReceivesOne o c v i before behind → HasProcessState before i f s k → slice_get behind.states i ≡ Some (got o c v k s)
  one_gets i f s k before behind (not_at_channel none same) has =
      ap (λ z. slice_get z.states i) same ∙ (has.state_is ∙ ap Some (sym (got_none k s (λ e. none f s (subst (HasProcessState before i f s) e has)))))
  one_gets i f s k before behind (received g l d mine stop is states moves) has =
      let is_l = one_state before.states (views before) i f g s l k lives has mine in
      let is_live = one_status before.states (views before) i f g s l k lives has mine in
      let next : is_next (o.stop l) c ≡ true = ap (λ z. is_next z c) stop ∙ (ap (same_channel d.channel) (sym is) ∙ same_channel_refl d.channel) in
      ap (λ z. slice_get z i) states ∙ (set_there before.states i l (o.receive l v) mine.state_is ∙ ap Some (sym (ap (λ b. cond b (o.receive l v) l) next)) ∙ (λ j. Some (got o c v (sym is_live j) (sym is_l j))))

  one_had : (i j : ℕ) (s : S) (before behind : TableView S) → ReceivesOne o c v i before behind → slice_get behind.states j ≡ Some s → (r : S) × (slice_get before.states j ≡ Some r)
  one_had i j s before behind (not_at_channel none same) e = (s, ap (λ z. slice_get z.states j) (sym same) ∙ e)
  one_had i j s before behind (received f l d has stop is states moves) e = elim (same_or_not j i) [
    | inl w ↦ (l, ap (slice_get before.states) w ∙ has.state_is)
    | inr w ↦ (s, sym (set_elsewhere before.states i j (o.receive l v) w) ∙ (ap (λ z. slice_get z j) (sym states) ∙ e))
  ]

  -- ---- all of them

  all_views : {numbers : List ℕ} {before behind : TableView S} → ReceiveAll o c v numbers before behind → views behind ≡ views before
  all_views (none_left w) = refl
  all_views (one_more i is before between behind first more) = all_views more ∙ one_views i before between first

  all_keep : {numbers : List ℕ} {before behind : TableView S} (rp : Path) (root : Node S) → ReceiveAll o c v numbers before behind → TableInvariant o rp before root → (new : Node S) × TableInvariant o rp behind new
  all_keep rp root (none_left w) kept = (root, kept)
  all_keep rp root (one_more i is before between behind first more) kept = let w = one_keeps rp i before between root first kept in all_keep rp w.0 more w.1

  untouched : {numbers : List ℕ} {before behind : TableView S} (j : ℕ) → ReceiveAll o c v numbers before behind → (IsAmong j numbers → ⊥) → slice_get behind.states j ≡ slice_get before.states j
  untouched j (none_left w) out = refl
  untouched j (one_more i is before between behind first more) out =
      untouched j more (λ g. out (among_later j i is g)) ∙ one_untouched i j before between first (λ e. out (0, ap Some (sym e)))

  all_get : {numbers : List ℕ} {before behind : TableView S} (j f : ℕ) (s : S) (k : ProcessStatus) → ReceiveAll o c v numbers before behind → AreDistinct numbers → HasProcessState before j f s k → IsAmong j numbers → slice_get behind.states j ≡ Some (got o c v k s)
  all_get j f s k (none_left w) apart has g = none_among j g
  all_get j f s k (one_more i is before between behind first more) apart has g = on (same_or_not j i) (λ h. all_get j f s k more apart.1 h)
    where
      on : (j ≡ i) ⊎ (j ≢ i) → (HasProcessState between j f s k → IsAmong j is → slice_get behind.states j ≡ Some (got o c v k s)) → slice_get behind.states j ≡ Some (got o c v k s)
      on (inl w) ih = untouched j more (λ h. apart.0 j h (sym w)) ∙ (ap (slice_get between.states) w ∙ one_gets i f s k before between first (subst (λ z. HasProcessState before z f s k) w has))
      on (inr n) ih = elim (among_split j i is g) [
        | inl e ↦ absurd (n (sym e))
        | inr h ↦ ih (record { state_is = one_untouched i j before between first n ∙ has.state_is; view_is = ap (λ z. slice_get z j) (one_views i before between first) ∙ has.view_is }) h
      ]

  all_had : {numbers : List ℕ} {before behind : TableView S} (j : ℕ) (s : S) → ReceiveAll o c v numbers before behind → slice_get behind.states j ≡ Some s → (r : S) × (slice_get before.states j ≡ Some r)
  all_had j s (none_left w) e = (s, e)
  all_had j s (one_more i is before between behind first more) e = let w = all_had j s more e in one_had i j w.0 before between first w.1

-- all that share the channel are receivers enough
module _ {S : Type 0} (o : Ops S) (law : LocalLaws o) (v : TableView S) (c : Channel) (i : ℕ) (numbers : List ℕ) (home : Declares o v i c) (enabled : IsEnabled o (Meet c) v) (lists : ListsSharers o v c i numbers) (rp : Path) (root : Node S)
    (kept : TableInvariant o rp v root) where
  sharing : AreSharers o rp v c (place o rp home.state) numbers
  sharing = lists rp root home.first home.state home.status kept home.has
      (home_shares o rp v.states (map record_view v.records) root kept.represents law c i home.first home.state home.status home.has home.its (can_meet o (tree_of o root) c (enabled rp (tree_of o root) kept)).0)

  share_all : AreReceivers o v c numbers
  share_all = record {
    distinct = distinct o rp v c (place o rp home.state) numbers sharing;
    all = λ j f s has e.
        let there = seen_live (at (place o rp s) root) s (kept.represents.agrees.shown j f s lives has) in
        let shares = stands_shares o law c s (sound_at o (place o rp s) root (Live s) kept.represents.sound.below there) e in
        let w = below_home o rp v.states (map record_view v.records) root kept.represents c i j home.first f home.state s home.status lives home.has home.its has shares in
        sharing.all j (record { first = f; state = s; status = lives; has = has; shares = shares; further = w.0; is_there = w.1 });
  }

pub sharers_receive : {S : Type 0} (o : Ops S) → LocalLaws o → SharersReceive o
sharers_receive o law v c i numbers home enabled lists rp root kept = share_all o law v c i numbers home enabled lists rp root kept

module _ {S : Type 0} (o : Ops S) (law : LocalLaws o) (before behind : TableView S) (c : Channel) (numbers : List ℕ) (x : ℤ) (enabled : IsEnabled o (Meet c) before) (lists : ListsReceivers o before c numbers)
    (value : HasValue o before c x) (all : ReceiveAll o c x numbers before behind) (rp : Path) (t : Tree S) (kept : TableInvariant o rp before t.root) where
  abbrev u : Tree S
  u = met o c (value_of o c (source o c t.root)) t

  can : (meets o c t.root ≡ true) × (after o (Meet c) t ≡ Some u)
  can = can_meet o t c (enabled rp t kept)

  are : AreReceivers o before c numbers
  are = lists rp t.root kept

  chain : (new : Node S) × TableInvariant o rp behind new
  chain = all_keep o law c x rp t.root all kept

  -- who isn't among them isn't at the channel
  not_there : (j f : ℕ) (s : S) (k : ProcessStatus) → HasProcessState before j f s k → (IsAmong j numbers → ⊥) → k ≡ lives → is_next (o.stop s) c ≡ false
  not_there j f s k has out is_live = elim (true_or_false (is_next (o.stop s) c)) [
    | inr e ↦ e
    | inl e ↦ absurd (out (are.all j f s (subst (HasProcessState before j f s) is_live has) e))
  ]

  have : HaveReceived o c x (map record_view before.records) before.states behind.states
  have = record {
    gets = λ j f s k has. elim (among_or_not j numbers) [
      | inl g ↦ all_get o law c x j f s k all are.distinct has g
      | inr out ↦ untouched o law c x j all out ∙ (has.state_is ∙ ap Some (sym (got_none o law c x k s (not_there j f s k has out))))
    ];
    had = λ j s e. all_had o law c x j s all e;
  }

  shown : Represents o rp behind.states (map record_view before.records) u.root
  shown = (events_preserve o law).met rp before.states behind.states (map record_view before.records) t u c x kept.represents can.1 (value rp t.root kept) have

  same : chain.0 ≡ u.root
  same = one_tree o rp behind.states (map record_view before.records) chain.0 u.root shown.rooted (subst (λ z. Represents o rp behind.states z chain.0) (all_views o law c x all) chain.1.represents).agrees shown.agrees

  moved : (u : Tree S) × (after o (Meet c) t ≡ Some u) × TableInvariant o rp behind u.root
  moved = (u, can.1, subst (TableInvariant o rp behind) same chain.1)

pub meeting_preserves : {S : Type 0} (o : Ops S) → LocalLaws o → MeetingPreserves o
meeting_preserves o law before behind c numbers x enabled lists value all = (
  (λ rp t kept. moved o law before behind c numbers x enabled lists value all rp t kept),
  (λ rp root kept. (all_views o law c x all, have o law before behind c numbers x enabled lists value all rp (tree_of o root) kept)),
)
