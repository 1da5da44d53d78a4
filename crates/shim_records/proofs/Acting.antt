-- A process has done anything by itself: the updates above it bring all counts up to date.
use Rattle.std.proofs.Common.{◌≡◌, ◌≢◌, ◌≤◌, inl, inr, ℕ, true, false, Option, Some, List, [], ◌++◌, map, length, refl, sym, ap, subst, ◌∙◌}
use Rattle.std.proofs.lemmas.List.{append-nil}
use Rattle.shim_base.specs.Paths.{Path, Channel}
use Rattle.shim_base.proofs.Facts.{some_same}
use Rattle.shim_local.specs.Process.{Ops}
use Rattle.shim_local.specs.Laws.{LocalLaws}
use Rattle.shim_semantics.specs.Nodes.{Node, state}
use Rattle.shim_semantics.specs.Acts.{Acted, act_here}
use Rattle.shim_semantics.specs.Sound.{IsSound}
use Rattle.shim_semantics.proofs.Replaced.{sound_at}
use Rattle.shim_semantics.proofs.SoundEvents.{here_keeps}
use Rattle.shim_laws_table.specs.NodeStatus.{ProcessStatus, process_status, seen, is_leaf, place}
use Rattle.shim_laws_table.specs.Agrees.{RecordView, Has, Represents}
use Rattle.shim_laws_table.specs.Places.{IsReplaced}
use Rattle.shim_laws_table.specs.Counts.{Tally, ChildStatus as Read, child_status}
use Rattle.shim_laws_table.specs.Tallied.{Tallied, OnTheWay, HaveCounts, is_above}
use Rattle.shim_laws_table.specs.Updating.{AreLinked, AreAtMost, UpdatedAbove, too_far, at_top, no_counts, stays, goes_on}
use Rattle.shim_laws_table.specs.Sufficing.{leaf_status}
use Rattle.shim_laws_table.proofs.PlacesAbove.{above_its_own}
use Rattle.shim_laws_table.proofs.Brought.{counts_follow}
use Rattle.shim_laws_table.proofs.Foreign.{foreign_stays}
use Rattle.shim_laws_table.proofs.Hanging.{tied, counts_share, none_above}
use Rattle.shim_laws_table.proofs.Suffices.{below_or_not, given_suffice, actors_are_read}
use Rattle.shim_records.specs.Pairs.{counts_in, up_in, rest_of, record_view}
use Rattle.shim_records.specs.Acted.{acting, StepUpdatesCounts}
use Rattle.shim_records.proofs.ManyPropagations.{rest_same, others, its_way, among_or_not}
use Rattle.shim_records.proofs.ReadOff.{same_views}

module _ {S : Type 0} (o : Ops S) (law : LocalLaws o) (rp : Path) (states : List S) (views : List RecordView) (up : ℕ → Option ℕ) (c : Channel) (old new m : Node S) (a : Acted S) (n x f : ℕ) (s : S) (k : ProcessStatus)
    (sound : IsSound o old) (shown : Represents o rp states views new) (linked : AreLinked states views up) (few : AreAtMost 4294967295 states views)
    (has : Has states views x f s k) (rep : IsReplaced (place o rp s) m a.node old new) (acts : act_here o m ≡ Some a) (leaf : is_leaf a.node ≡ true) where
  -- its state and status are what the record says
  is_seen : ◌≡◌ {A = S × ProcessStatus} (state a.node, process_status a.node) (s, k)
  is_seen = some_same (state a.node, process_status a.node) (s, k) (ap seen (sym rep.is) ∙ shown.agrees.shown x f s k has)

  its_state : state a.node ≡ s
  its_state = ap (λ z. z.0) is_seen

  its_status : process_status a.node ≡ k
  its_status = ap (λ z. z.1) is_seen

  same_path : o.path (state m) ≡ o.path s
  same_path = sym ((here_keeps o law m a (sound_at o (place o rp s) old m sound.below rep.was) acts).follows.path) ∙ ap o.path its_state

  -- what is read of it, of a channel of others
  pub was_read : ((r : Path) → c.home ≢ o.path s ++ r) → child_status o c m ≡ acting o s c
  was_read out =
      let far : c.home ≢ o.path (state m) = λ e. out [] (e ∙ (same_path ∙ sym (append-nil (o.path s)))) in
      let shares = sym ((foreign_stays o law).shares old m (place o rp s) a c sound rep.was acts far) ∙ ap (λ z. o.shares z c) its_state in
      (actors_are_read o).before c m a acts ∙ ap {B = Read} (λ b. record { going = b; ready_on = false; dead_on = false }) shares

  pub is_read : child_status o c a.node ≡ leaf_status o c s k
  is_read = (actors_are_read o).behind c a.node leaf ∙ (λ i. leaf_status o c (its_state i) (its_status i))

  -- no fork above counts a channel of its own
  uncounted : (counts : ℕ → Option Tally) → HaveCounts o rp states views c counts new → (r : Path) → c.home ≡ o.path s ++ r → (j : ℕ) (y : Tally) → up x ≡ Some j → counts j ≡ Some y → ⊥
  uncounted counts have r home j y e is =
      let w = tied o rp states views new shown up linked x f j s k has e in
      let b = w.0 in
      none_above o rp states views new shown c x f b.number b.first b.many s b.parent k r has home b.has (ap (is_above (place o rp b.parent)) b.is ∙ above_its_own (place o rp b.parent) b.branch)
      (counts_share o rp states views new shown c counts have b.number b.first b.many b.parent y b.has (ap counts w.1 ∙ is))

  -- so nothing is done for it
  nothing_done : {p : ℕ} {was is : Read} {before behind : ℕ → Option Tally} → UpdatedAbove up 4294967295 p before x was is behind → HaveCounts o rp states views c before new → (r : Path) → c.home ≡ o.path s ++ r → behind ≡ before
  nothing_done (too_far before x was is) have r home = refl
  nothing_done (at_top p before x was is e) have r home = refl
  nothing_done (no_counts p before x j was is e none) have r home = refl
  nothing_done (stays p before behind x j was is y z e step same) have r home = absurd (uncounted before have r home j y e step.old)
  nothing_done (goes_on p before between behind x j was is y z e step rest) have r home = absurd (uncounted before have r home j y e step.old)

  abbrev pub Both : (ℕ → Option Tally) → Type 0
  Both counts = Tallied o rp states views c counts new × HaveCounts o rp states views c counts new

  pub updated_one : (before behind : ℕ → Option Tally) → length (place o rp s) ≤ n → o.shares s c ≡ true → HaveCounts o rp states views c before new → OnTheWay o rp states views c before old new (place o rp s)
      → UpdatedAbove up 4294967295 n before x (acting o s c) (leaf_status o c s k) behind → Both behind
  updated_one before behind far shares have way updated = elim (below_or_not (o.path s) c.home) [
    | inl e ↦ subst Both (sym (nothing_done updated have e.0 e.1)) ((counts_follow o law).own rp states views c old new x f s k e.0 before shown has e.1 have way, have)
    | inr out ↦
        (counts_follow o law).updated rp states views up c old new m a.node 4294967295 n x f s k (acting o s c) (leaf_status o c s k) before behind shown linked few has rep (was_read out) is_read far shares have way updated
  ]

pub step_updates_counts : {S : Type 0} (o : Ops S) → LocalLaws o → StepUpdatesCounts o
step_updates_counts {S} o law rp states rs behind old new m a n x f s k sound shown linked few has rep acts leaf far have way done = (rest, each)
  where
    rest : map rest_of behind ≡ map rest_of rs
    rest = rest_same (acting o s) (λ c. leaf_status o c s k) n x done.updated

    Right : List RecordView → Channel → (ℕ → Option Tally) → Type 0
    Right views c counts = Tallied o rp states views c counts new × HaveCounts o rp states views c counts new

    brought : (c : Channel) → Right (map record_view rs) c (counts_in c behind)
    brought c = elim (among_or_not c done.chans) [
      | inl g ↦
          updated_one o law rp states (map record_view rs) (up_in rs) c old new m a n x f s k sound shown linked few has rep acts leaf (counts_in c rs) (counts_in c behind) far (done.shared c g) (have c) (way c)
          (its_way (acting o s) (λ d. leaf_status o d s k) n x c done.updated g).updated
      | inr out ↦ subst (Right (map record_view rs) c) (sym (others (acting o s) (λ d. leaf_status o d s k) n x c done.updated out)) (
        (given_suffice o law).counts rp states (map record_view rs) c old new m a x f s k (counts_in c rs) sound shown has rep acts (λ given shares. out (done.all c given shares)) (have c) (way c),
        have c,
      )
    ]

    each : (c : Channel) → Right (map record_view behind) c (counts_in c behind)
    each c = subst (λ z. Right z c (counts_in c behind)) (sym (same_views rs behind rest)) (brought c)
