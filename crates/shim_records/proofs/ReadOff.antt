-- The labels of forks read off their children, on the way up through the records.
use Rattle.std.proofs.Common.{◌≡◌, ◌≤◌, ℕ, suc, ◌+◌, ◌-◌, ◌<◌, Bool, true, false, cond, Option, Some, None, List, [], ◌∷◌, map, get_or, refl, sym, ap, subst, ◌∙◌, arith}
use Rattle.std.specs.Prelude.{slice_get}
use Rattle.std.specs.Option.{option_map}
use Rattle.shim_base.specs.Paths.{Channel, same_channel}
use Rattle.shim_base.proofs.Facts.{some_same}
use Rattle.shim_local.specs.Process.{Ops}
use Rattle.shim_laws_table.specs.NodeStatus.{forks}
use Rattle.shim_laws_table.specs.Agrees.{RecordView, free, used}
use Rattle.shim_laws_table.specs.Dooms.{lesser}
use Rattle.shim_laws_table.specs.Recomputing.{label_at, min_label_among, IsReadOff, Recomputed, all_the_way, at_the_root, uncounted, as_before, recomputes}
use Rattle.shim_laws_table.proofs.MinLabels.{lesser_nothing, lesser_further}
use Rattle.shim_records.specs.Pairs.{fork_size, pair_index, pair_of, min_label_of, counts_in, min_labels_in, up_in, UncountedRecord, rest_of, status_view, record_view}
use Rattle.shim_records.specs.Labels.{OnlyLabels}
use Rattle.shim_records.specs.Recomputing.{Recomputes, RecomputesOne, IsRecomputed}
use Rattle.shim_records.specs.declared.pair.Pair.{Pair}
use Rattle.shim_records.specs.declared.record.Record.{Record}
use Rattle.shim_records.specs.declared.record.Status.{Status}
use Rattle.shim_records.specs.declared.record.Status.TheVariants as code
use Rattle.shim_records.proofs.Lowering.{put_there, Relabelled, same_labels, nothing_changed, only_both}
use Rattle.shim_records.proofs.Representing.{map_get}
use Rattle.shim_records.proofs.FullPropagation.{rest_ups}

-- the label of a pair that is found, and none where there is none
pub its_label : (c : Channel) (ps : List Pair) (i : ℕ) (p : Pair) → pair_index c ps ≡ Some i → p ≡ get_or ps i p → p.min_dead_label ≡ min_label_of (pair_of c ps)
its_label c ps i p e g = sym (ap min_label_of (put_there c ps i p p e g refl refl).found)

pub no_label : (c : Channel) (ps : List Pair) → pair_index c ps ≡ None → None ≡ min_label_of (pair_of c ps)
no_label c [] e = refl
no_label c (p ∷ ps) e = on (same_channel p.chan.channel c) (pair_index c ps) (no_label c ps) e
  where
    on : (b : Bool) (o : Option ℕ) → (o ≡ None → None ≡ min_label_of (pair_of c ps)) → cond b (Some 0) (option_map suc o) ≡ None → None ≡ min_label_of (cond b (Some p) (pair_of c ps))
    on true o f e = absurd cc
    on false None f e = f refl
    on false (Some k) f e = absurd cc

module _ {S : Type 0} (o : Ops S) (c : Channel) (states : List S) (views : List RecordView) (labels : ℕ → Option ℕ) where
  -- one more of the children read
  pub one_more : (g n i : ℕ) (y z : Option ℕ) → i < n → z ≡ lesser y (label_at o c states views labels (g + i)) → lesser y (min_label_among o c states views labels (g + i) (n - i)) ≡ min_label_among o c states views labels g n
      → lesser z (min_label_among o c states views labels (g + (i + 1)) (n - (i + 1))) ≡ min_label_among o c states views labels g n
  one_more g n i y z less e h =
      let left : n - i ≡ suc (n - (i + 1)) = omega (arith, less) in
      let next : g + (i + 1) ≡ g + i + 1 = omega arith in
      ap (λ w. lesser w (min_label_among o c states views labels (g + (i + 1)) (n - (i + 1)))) e
      ∙ (ap (λ w. lesser (lesser y (label_at o c states views labels (g + i))) (min_label_among o c states views labels w (n - (i + 1)))) next
      ∙ (sym (lesser_further y (label_at o c states views labels (g + i)) (min_label_among o c states views labels (g + i + 1) (n - (i + 1))))
      ∙ (ap (λ w. lesser y (min_label_among o c states views labels (g + i) w)) (sym left) ∙ h)))

  -- at first none of them
  pub none_yet : (g n : ℕ) → lesser None (min_label_among o c states views labels (g + 0) (n - 0)) ≡ min_label_among o c states views labels g n
  none_yet g n =
      let start : g + 0 ≡ g = omega arith in
      let all : n - 0 ≡ n = omega arith in
      ap (λ w. min_label_among o c states views labels w (n - 0)) start ∙ ap (min_label_among o c states views labels g) all

  -- in the end all
  pub all_read : (g n i : ℕ) (y : Option ℕ) → n ≤ i → lesser y (min_label_among o c states views labels (g + i) (n - i)) ≡ min_label_among o c states views labels g n → y ≡ min_label_among o c states views labels g n
  all_read g n i y past h =
      let none : n - i ≡ 0 = omega (arith, past) in
      sym (lesser_nothing y) ∙ (ap (λ w. lesser y (min_label_among o c states views labels (g + i) w)) (sym none) ∙ h)

abbrev first_of : RecordView → ℕ
first_of free = 0
first_of (used f k) = f

abbrev many_of : RecordView → ℕ
many_of (used f (forks n)) = n
many_of _ = 0

-- a fork's first child and how many they are
forked : (f g n : ℕ) (k : Status) → status_view f k ≡ used g (forks n) → (f ≡ g) × (fork_size k ≡ n)
forked f g n code.Free e = absurd cc
forked f g n code.Live e = absurd cc
forked f g n (code.Forked m) e = (ap first_of e, ap many_of e)
forked f g n code.Ended e = absurd cc
forked f g n (code.Dead x) e = absurd cc

-- what came of a process follows from what its record says beside the pairs
abbrev uncounted_view : UncountedRecord → RecordView
uncounted_view r = status_view r.first r.status

all_from : (rs : List Record) → map uncounted_view (map rest_of rs) ≡ map record_view rs
all_from [] = refl
all_from (r ∷ rs) = ap (λ z. record_view r ∷ z) (all_from rs)

pub same_views : (before behind : List Record) → map rest_of behind ≡ map rest_of before → map record_view behind ≡ map record_view before
same_views before behind h = sym (all_from behind) ∙ (ap (map uncounted_view) h ∙ all_from before)

module _ {S : Type 0} (o : Ops S) (c : Channel) (states : List S) where
  -- what was read off the children of a record
  pub read : (rs seen : List Record) (j n : ℕ) (r q : Record) (y : Option ℕ) → slice_get rs j ≡ Some r → slice_get rs j ≡ Some q → seen ≡ rs → n ≡ fork_size q.status
      → y ≡ min_label_among o c states (map record_view seen) (min_labels_in c seen) r.first n → IsReadOff o c states (map record_view rs) (min_labels_in c rs) j y
  read rs seen j n r q y record_before record_was same many is g m s has =
      let so : record_view r ≡ used g (forks m) = some_same (record_view r) (used g (forks m)) (sym (ap (option_map record_view) record_before) ∙ (sym (map_get record_view rs j) ∙ has.view_is)) in
      let fork_is = forked r.first g m r.status so in
      let how_many : n ≡ m = many ∙ (ap (λ z. fork_size z.status) (some_same q r (sym record_was ∙ record_before)) ∙ fork_is.1) in
      is ∙ (ap (λ z. min_label_among o c states (map record_view z) (min_labels_in c z) r.first n) same
      ∙ (ap (λ z. min_label_among o c states (map record_view rs) (min_labels_in c rs) z n) fork_is.0 ∙ ap (min_label_among o c states (map record_view rs) (min_labels_in c rs) g) how_many))

  module _ (rs : List Record) (x : ℕ) where
    pub top : up_in rs x ≡ None → RecomputesOne o c states rs x None rs
    top e = ((λ n. at_the_root n (min_labels_in c rs) x e), nothing_changed c rs)

    pub without : (j : ℕ) → up_in rs x ≡ Some j → counts_in c rs j ≡ None → RecomputesOne o c states rs x None rs
    without j e f = ((λ n. uncounted n (min_labels_in c rs) x j e f), nothing_changed c rs)

    pub stops : (j : ℕ) (now : List Record) (was is : Option ℕ) → up_in rs x ≡ Some j → Relabelled c rs j was is now → IsReadOff o c states (map record_view rs) (min_labels_in c rs) j is → is ≡ was → RecomputesOne o c states rs x None now
    stops j now was is up h off same = (
      (λ n. subst (λ z. Recomputes o c states rs n (min_labels_in c rs) x z) (sym (same_labels c rs j was is now h same))
          (as_before n (min_labels_in c rs) x j up h.counted (subst (IsReadOff o c states (map record_view rs) (min_labels_in c rs) j) (same ∙ sym h.label_was) off))),
      h.only,
    )

    pub goes : (j : ℕ) (now : List Record) (was is : Option ℕ) → up_in rs x ≡ Some j → Relabelled c rs j was is now → IsReadOff o c states (map record_view rs) (min_labels_in c rs) j is → RecomputesOne o c states rs x (Some j) now
    goes j now was is up h off = (
      (λ n end rest. recomputes n (min_labels_in c rs) (min_labels_in c now) end x j up h.counted (subst (IsReadOff o c states (map record_view rs) (min_labels_in c rs) j) (sym h.label_is) off) h.others rest),
      h.only,
    )

  -- statuses, parents and counts stay
  over : (a b : List Record) (k : ℕ) (labels : ℕ → Option ℕ) (x : ℕ) (end : ℕ → Option ℕ) → OnlyLabels c a b → Recomputes o c states b k labels x end → Recomputes o c states a k labels x end
  over a b k labels x end h way =
      subst (λ z. Recomputed o c states z (up_in a) (counts_in c a) k labels x end) (same_views a b h.rest)
      (subst (λ z. Recomputed o c states (map record_view b) z (counts_in c a) k labels x end) (rest_ups a b h.rest)
      (subst (λ z. Recomputed o c states (map record_view b) (up_in b) z k labels x end) (λ t i. h.counts c i t) way))

  back : (a b : List Record) (k : ℕ) (labels : ℕ → Option ℕ) (x : ℕ) (end : ℕ → Option ℕ) → OnlyLabels c a b → Recomputes o c states a k labels x end → Recomputes o c states b k labels x end
  back a b k labels x end h way =
      subst (λ z. Recomputed o c states z (up_in b) (counts_in c b) k labels x end) (sym (same_views a b h.rest))
      (subst (λ z. Recomputed o c states (map record_view a) z (counts_in c b) k labels x end) (sym (rest_ups a b h.rest))
      (subst (λ z. Recomputed o c states (map record_view a) (up_in a) z k labels x end) (λ t i. sym (h.counts c i) t) way))

  module _ (n x : ℕ) (start now : List Record) (here walked : ℕ) where
    abbrev pub OnIt : ℕ → List Record → ℕ → Type 0
    OnIt left now here = ((end : ℕ → Option ℕ) → Recomputes o c states start left (min_labels_in c now) here end → Recomputes o c states start n (min_labels_in c start) x end) × OnlyLabels c start now

    next_left : (n walked : ℕ) → walked < n → suc (n - (walked + 1)) ≡ n - walked
    next_left n walked h = omega (arith, h)

    pub ended : (behind : List Record) → OnIt (n - walked) now here → RecomputesOne o c states now here None behind → IsRecomputed o c states n x start behind
    ended behind on step = (on.0 (min_labels_in c behind) (over start now (n - walked) (min_labels_in c now) here (min_labels_in c behind) on.1 (step.0 (n - walked))), only_both c start now behind on.1 step.1)

    pub further : (behind : List Record) (j : ℕ) → walked < n → OnIt (n - walked) now here → RecomputesOne o c states now here (Some j) behind → OnIt (n - (walked + 1)) behind j
    further behind j less on step = (
      (λ end rest. on.0 end (subst (λ k. Recomputes o c states start k (min_labels_in c now) here end) (next_left n walked less)
          (over start now (suc (n - (walked + 1))) (min_labels_in c now) here end on.1 (step.0 (n - (walked + 1)) end (back start now (n - (walked + 1)) (min_labels_in c behind) j end on.1 rest))))),
      only_both c start now behind on.1 step.1,
    )

    pub stopped : n ≤ walked → OnIt (n - walked) now here → IsRecomputed o c states n x start now
    stopped past on =
        let none : n - walked ≡ 0 = omega (arith, past) in
        (on.0 (min_labels_in c now) (subst (λ k. Recomputes o c states start k (min_labels_in c now) here (min_labels_in c now)) (sym none) (all_the_way (min_labels_in c now) here)), on.1)

  -- at first nothing is read off again
  pub begun : (n x : ℕ) (start : List Record) → OnIt n x start start x 0 (n - 0) start x
  begun n x start =
      let all : n - 0 ≡ n = omega arith in
      ((λ end way. subst (λ k. Recomputes o c states start k (min_labels_in c start) x end) all way), nothing_changed c start)
