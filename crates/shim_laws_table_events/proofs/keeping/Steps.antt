-- Quiet steps of a process with a record: they can be done, and what stays of it.
use Rattle.std.proofs.Common.{◌≡◌, ◌≢◌, ◌≤◌, ℕ, zero, suc, Bool, true, false, Option, Some, None, List, [], ◌++◌, inl, inr, refl, sym, ap, subst, ◌∙◌}
use Rattle.std.specs.Prelude.{replicate, slice_set, map}
use Rattle.std.specs.FinMap as fin
use Rattle.std.proofs.lemmas.List.{append-nil}
use Rattle.shim_base.specs.Paths.{Path, Channel}
use Rattle.shim_base.proofs.Facts.{some_same}
use Rattle.shim_local.specs.Process.{Ops, AtQuiet}
use Rattle.shim_local.specs.Laws.{LocalLaws, by_quiet}
use Rattle.shim_local.specs.Quiets.{QuietSteps}
use Rattle.shim_local.proofs.Quiets.{first_quiet}
use Rattle.shim_semantics.specs.Nodes.{Node, Live, is_next}
use Rattle.shim_semantics.specs.Acts.{nothing, act_live}
use Rattle.shim_semantics.specs.Places.{at}
use Rattle.shim_semantics.specs.Sound.{carriers}
use Rattle.shim_semantics.specs.Quiets.{Advances}
use Rattle.shim_semantics.specs.Systems.{run, on_some}
use Rattle.shim_semantics.specs.Trees.{Tree, Own, after, own_action_at}
use Rattle.shim_semantics.proofs.HowMany.{no_less, no_less_than, one_for_one}
use Rattle.shim_semantics.proofs.Replaced.{sound_at}
use Rattle.shim_laws_table.specs.NodeStatus.{lives, place}
use Rattle.shim_laws_table.specs.Agrees.{RecordView, Has, Represents}
use Rattle.shim_laws_table.specs.Places.{IsReplaced}
use Rattle.shim_laws_table.specs.Changes.{HasChanged}
use Rattle.shim_laws_table.proofs.SameTrees.{seen_live, put_replaces}
use Rattle.shim_laws_table.proofs.OneTree.{one_tree}
use Rattle.shim_laws_table.proofs.Shown.{events_preserve, one_change_is_represented}
use Rattle.shim_laws_table.proofs.CanHappen.{enabled_by_records}
use Rattle.shim_semantics.proofs.ReplacedNodes.{put}
use Rattle.shim_records.proofs.Stepping.{set_there, set_elsewhere}
use Rattle.shim_records.specs.Pairs.{record_view}
use Rattle.shim_records.specs.declared.record.Record.{Record}
use Rattle.shim_laws_table_events.specs.keeping.Tables.{TableInvariant}
use Rattle.shim_laws_table_events.specs.keeping.Propagating.{PropagatesStop}
use Rattle.shim_laws_table_events.proofs.keeping.Knowing.{Elsewhere}
use Rattle.shim_laws_table_events.proofs.keeping.Moved.{Stays, moved}

-- a tree of which its root alone matters
pub bare : {S : Type 0} → Node S → Tree S
bare root = record { root = root; output = []; histories = fin.empty; logs = fin.empty; counts = fin.empty; events = 0 }

pub some_of : {A : Type 0} (x : Option A) → x ≢ None → (y : A) × (x ≡ Some y)
some_of None h = absurd (h refl)
some_of (Some y) h = (y, refl)

module _ {S : Type 0} (o : Ops S) (law : LocalLaws o) where
  -- what stays of a process, and that its last state is sound
  quiet_stays : (n : ℕ) (l last : S) → o.sound l → QuietSteps o n l last → Stays o l last × o.sound last
  quiet_stays zero l last sound taken =
      let same = some_same l last taken in
      (record { path = ap o.path (sym same); given = ap o.given (sym same); shares = λ c far. ap (λ z. o.shares z c) same; carries = λ c far. subst (λ z. carriers o c (Live z) ≤ carriers o c (Live l)) same (no_less (carriers o c (Live l))) }, subst o.sound same sound)
  quiet_stays (suc n) l last sound taken =
      let first = first_quiet o n l last taken in
      let move = by_quiet first.0 refl in
      let path = law.moved_path l (o.quiet l) sound move in
      let more = quiet_stays n (o.quiet l) last (law.moved_sound l (o.quiet l) sound move) first.1 in (
        record {
          path = more.0.path ∙ path;
          given = more.0.given ∙ law.moved_given l (o.quiet l) sound move;
          shares = λ c far. one first.0 c far (o.shares l c) (o.shares (o.quiet l) c) refl refl ∙ more.0.shares c (λ e. far (e ∙ path));
          carries = λ c far. no_less_than (carriers o c (Live l)) (carriers o c (Live (o.quiet l))) (carriers o c (Live last)) (more.0.carries c (λ r e. far r (e ∙ ap (λ z. z ++ r) path))) (fewer first.0 c far);
        },
        more.1,
      )
    where
      fewer : o.stop l ≡ AtQuiet → (c : Channel) → Elsewhere (o.path l) c → carriers o c (Live (o.quiet l)) ≤ carriers o c (Live l)
      fewer quiet c far = one_for_one (λ k. o.carries k c) l (o.quiet l) (λ y. elim (law.quiet_carries l c sound quiet y) [ inl w ↦ w | inr w ↦ absurd (far [] (w.0 ∙ sym (append-nil (o.path l)))) ])

      one : o.stop l ≡ AtQuiet → (c : Channel) → c.home ≢ o.path l → (a b : Bool) → o.shares l c ≡ a → o.shares (o.quiet l) c ≡ b → o.shares l c ≡ o.shares (o.quiet l) c
      one quiet c far true b e f = e ∙ sym (law.quiet_shares l c sound quiet e)
      one quiet c far false true e f = absurd (far (law.quiet_adds l c sound quiet e f))
      one quiet c far false false e f = e ∙ sym f

  module _ (rp : Path) (views : List RecordView) where
    -- a record gets another state
    has_set : (states : List S) (x f : ℕ) (l s : S) → Has states views x f l lives → Has (slice_set states x s) views x f s lives
    has_set states x f l s has = record { state_is = set_there states x l s has.state_is; view_is = has.view_is }

    pub set_changed : (states : List S) (x f : ℕ) (l s : S) → Has states views x f l lives → HasChanged states (slice_set states x s) views views x s lives
    set_changed states x f l s has = record {
      first = f;
      mine = has_set states x f l s has;
      others = λ j d t k n h. record { state_is = set_elsewhere states x j s n ∙ h.state_is; view_is = h.view_is };
      only = λ j d t k n h. record { state_is = sym (set_elsewhere states x j s n) ∙ h.state_is; view_is = h.view_is };
    }

    -- so many of them can be done in the tree that is shown
    can_advance : (n x f : ℕ) (states : List S) (t : Tree S) (l last : S) (p : Path) → Represents o rp states views t.root → Has states views x f l lives → p ≡ o.path l → QuietSteps o n l last → (u : Tree S) × Advances o p n t u
    can_advance zero x f states t l last p represents has is taken = (t, refl)
    can_advance (suc n) x f states t l last p represents has is taken =
        let first = first_quiet o n l last taken in
        let there : at (place o rp l) t.root ≡ Some (Live l) = seen_live (at (place o rp l) t.root) l (represents.agrees.shown x f l lives has) in
        let sound = sound_at o (place o rp l) t.root (Live l) represents.sound.below there in
        let can = ((enabled_by_records o law).steps rp states views t x f l represents has).1 (ap own_action_at first.0) in
        let next = some_of (after o (Own (o.path l)) t) can in
        let change = set_changed states x f l (o.quiet l) has in
        let does : act_live o l (o.stop l) ≡ Some (record { node = Live (o.quiet l); effects = nothing }) = ap (act_live o l) first.0 in
        let shown = (events_preserve o law).stepped rp states (slice_set states x (o.quiet l)) views views t next.0 (Own (o.path l)) x f l (record { node = Live (o.quiet l); effects = nothing }) represents has refl next.1 does refl change in
        let more = can_advance n x f (slice_set states x (o.quiet l)) next.0 (o.quiet l) last p shown (has_set states x f l (o.quiet l) has) (is ∙ sym (law.moved_path l (o.quiet l) sound (by_quiet first.0 refl))) first.1 in
        (more.0, ap (on_some (run (after o) (replicate n (Own p)))) (ap (λ z. after o (Own z) t) is ∙ next.1) ∙ more.1)

  unread : (l : S) → o.stop l ≡ AtQuiet → (c : Channel) → is_next (o.stop l) c ≡ false
  unread l e c = ap (λ z. is_next z c) e

  -- the process has done them, and came where it is
  pub advanced : (rp : Path) (t : Tree S) (states : List S) (rs behind : List Record) (n x f : ℕ) (l last : S) → TableInvariant o rp (record { states = states; records = rs }) t.root → Has states (map record_view rs) x f l lives
      → o.stop l ≡ AtQuiet → QuietSteps o n l last → PropagatesStop o last 4294967295 x rs behind → (u : Tree S) × Advances o (o.path l) n t u × TableInvariant o rp (record { states = slice_set states x last; records = behind }) u.root
  advanced rp t states rs behind n x f l last kept has stop taken propagates =
      let st = map record_view rs in
      let there : at (place o rp l) t.root ≡ Some (Live l) = seen_live (at (place o rp l) t.root) l (kept.represents.agrees.shown x f l lives has) in
      let sound = sound_at o (place o rp l) t.root (Live l) kept.represents.sound.below there in
      let stay = quiet_stays n l last sound taken in
      let does = can_advance rp st n x f states t l last (o.path l) kept.represents has refl taken in
      let change = set_changed rp st states x f l last has in
      let shown = (events_preserve o law).advanced rp states (slice_set states x last) st st t does.0 x f n l last kept.represents has taken does.1 change in
      let rep = put_replaces (place o rp l) (Live l) (Live last) t.root there in
      let agrees = one_change_is_represented o rp states (slice_set states x last) st st t.root (put (place o rp l) (Live last) t.root) (Live l) (Live last) x f kept.represents.agrees has refl refl stay.0.path rep change in
      let same = one_tree o rp (slice_set states x last) st (put (place o rp l) (Live last) t.root) does.0.root shown.rooted agrees shown.agrees in
      (does.0, does.1, moved o law rp states rs behind t.root does.0.root l last x f kept has shown (subst (IsReplaced (place o rp l) (Live l) (Live last) t.root) same rep) stay.0 (unread l stop) propagates stay.1)
