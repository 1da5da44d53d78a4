-- Where a process has forked, the records keep all that they kept.
use Rattle.std.proofs.Common.{◌≡◌, ◌≢◌, ◌≤◌, ◌+◌, inl, inr, ℕ, zero, suc, Bool, true, false, Option, Some, None, List, [], ◌∷◌, ◌++◌, map, drop, length, slice_set, refl, sym, ap, subst, ◌∙◌, arith}
use Rattle.std.specs.Prelude.{slice_get}
use Rattle.std.specs.Option.{option_map}
use Rattle.std.proofs.lemmas.List.{length-map, length-set}
use Rattle.shim_base.specs.Paths.{Path, Channel}
use Rattle.shim_base.proofs.Facts.{some_same, none_some}
use Rattle.shim_local.specs.Process.{Ops, AtFork, Parted}
use Rattle.shim_local.specs.Laws.{LocalLaws}
use Rattle.shim_semantics.specs.Nodes.{Nodes, Live, Forked, all_live}
use Rattle.shim_semantics.specs.Acts.{act_live, parted, nothing}
use Rattle.shim_semantics.specs.Places.{at, branches}
use Rattle.shim_semantics.specs.Trees.{Tree, Own, after, own_action_at}
use Rattle.shim_laws_table.specs.NodeStatus.{ProcessStatus, lives, forks, place}
use Rattle.shim_laws_table.specs.Agrees.{Has, Represents}
use Rattle.shim_laws_table.specs.Places.{IsReplaced}
use Rattle.shim_laws_table.specs.Changes.{HasForked}
use Rattle.shim_laws_table.specs.Counts.{going_of}
use Rattle.shim_laws_table.specs.Tallied.{is_above, Tallied, HaveCounts}
use Rattle.shim_laws_table.specs.Updating.{AreLinked, AreAtMost}
use Rattle.shim_laws_table.specs.LoweredLabels.{Labelled}
use Rattle.shim_laws_table.proofs.SameTrees.{same_or_not, fork_count, aside_or_further}
use Rattle.shim_laws_table.proofs.Forking.{there_is}
use Rattle.shim_laws_table.proofs.Begun.{fork_parts, lives_no_fork, none_there}
use Rattle.shim_laws_table.proofs.Linked.{links_follow}
use Rattle.shim_laws_table.proofs.Sources.{sources_by_records}
use Rattle.shim_laws_table.proofs.Tallies.{counts_tell}
use Rattle.shim_records.specs.Pairs.{UncountedRecord, rest_of, record_view, up_at, up_in, counts_in, min_labels_in, known_at, known_in, AreOrdered}
use Rattle.shim_records.specs.declared.pair.Sharing.{Sharing}
use Rattle.shim_records.specs.declared.record.Record.{Record}
use Rattle.shim_records.proofs.ManyPropagations.{rest_same}
use Rattle.shim_records.proofs.ReadOff.{same_views}
use Rattle.shim_records.proofs.Representing.{map_get}
use Rattle.shim_records.proofs.FullPropagation.{rest_ups, kept_order}
use Rattle.shim_records.proofs.SharingFound.{rest_known}
use Rattle.shim_laws_table_events.specs.keeping.Knowing.{Knows, AreKnown}
use Rattle.shim_laws_table_events.proofs.keeping.Knowing.{knows_aside, acts_fewer}
use Rattle.shim_laws_table_events.specs.keeping.Tables.{TableView, HasProcessState, IsFit, TableInvariant}
use Rattle.shim_laws_table_events.specs.forks.Forking.{ForksAt, ForkPreserves}
use Rattle.shim_laws_table_events.proofs.forks.Above.{fork_was, same_aside, as_many_go}
use Rattle.shim_laws_table_events.proofs.forks.Block as block
use Rattle.shim_laws_table_events.proofs.forks.Counted as counted
use Rattle.shim_laws_table_events.proofs.forks.Handed as handed
use Rattle.shim_laws_table_events.proofs.forks.Lists.{block_long}
use Rattle.shim_laws_table_events.proofs.forks.Orders.{put_ordered}
use Rattle.shim_laws_table_events.proofs.forks.OwnSteps.{live_there, can_step}
use Rattle.shim_laws_table_events.proofs.forks.Readied.{going, all_ways, labels_same, ready_once}

same_behind : (g b d : ℕ) → g + b ≡ g + d → b ≡ d
same_behind g b d e = omega (arith, e)

no_channel : Channel
no_channel = record { home = []; serial = 0 }

-- a place is no longer than its path
short : (n : ℕ) (p : Path) → length (branches (drop n p)) ≤ length p
short zero [] = omega arith
short zero (x ∷ p) = let w = short zero p in omega (arith, w)
short (suc n) [] = omega arith
short (suc n) (x ∷ p) = let w = short n p in omega (arith, w)

from_map : {A B : Type 0} (f : A → B) (x : Option A) (y : B) → option_map f x ≡ Some y → (z : A) × (x ≡ Some z) × (f z ≡ y)
from_map f None y e = none_some y e
from_map f (Some z) y e = (z, refl, some_same (f z) y e)

-- the record before the ways up
was_record : (before behind : List Record) (i : ℕ) (r : Record) → map rest_of behind ≡ map rest_of before → slice_get behind i ≡ Some r → (q : Record) × (slice_get before i ≡ Some q) × (rest_of q ≡ rest_of r)
was_record before behind i r h e = from_map rest_of (slice_get before i) (rest_of r) (sym (map_get rest_of before i) ∙ (ap (λ z. slice_get z i) (sym h) ∙ (map_get rest_of behind i ∙ ap (option_map rest_of) e)))

module _ {S : Type 0} (o : Ops S) (law : LocalLaws o) (rp : Path) (t u : Tree S) (before behind : TableView S) (x g f : ℕ) (l p : S) (ks : List S)
    (kept : TableInvariant o rp before t.root) (has : HasProcessState before x f l lives) (forked : ForksAt o x g p ks before behind) (stop : o.stop l ≡ AtFork) (parts : o.fork l ≡ Parted p ks)
    (happens : after o (Own (o.path l)) t ≡ Some u) where
  abbrev states : List S
  states = block.states o law rp t before behind x g f l p ks kept has forked

  abbrev records : List Record
  records = block.records o law rp t before behind x g f l p ks kept has forked

  abbrev its : Record
  its = forked.is

  its_own : slice_get records x ≡ Some its
  its_own = block.its_own o law rp t before behind x g f l p ks kept has forked

  as_before : (j d : ℕ) (s : S) (k : ProcessStatus) → HasProcessState before j d s k → j ≢ x → slice_get records j ≡ slice_get before.records j
  as_before = block.as_before o law rp t before behind x g f l p ks kept has forked

  born_at : (b : ℕ) (k : S) → slice_get ks b ≡ Some k → block.Born o law rp t before behind x g f l p ks kept has forked b k
  born_at = block.born_at o law rp t before behind x g f l p ks kept has forked

  has_forked : HasForked before.states states (map record_view before.records) (map record_view records) x g p ks
  has_forked = block.has_forked o law rp t before behind x g f l p ks kept has forked

  path : o.path p ≡ o.path l
  path = block.path o law rp t before behind x g f l p ks kept has forked stop parts

  given : o.given p ≡ o.given l
  given = block.given o law rp t before behind x g f l p ks kept has forked stop parts

  shown : Represents o rp states (map record_view records) u.root
  shown = block.shown o law rp t before behind x g f l p ks kept has forked stop parts u happens

  replaced : IsReplaced (place o rp l) (Live l) (Forked p (all_live ks)) t.root u.root
  replaced = block.replaced o law rp t before behind x g f l p ks kept has forked stop parts u happens

  same_place : place o rp p ≡ place o rp l
  same_place = ap (λ z. branches (drop (length rp) z)) path

  fits : IsFit o rp l forked.was
  fits = kept.fit x f l lives forked.was has forked.had

  near : length (place o rp p) ≤ 4294967295
  near = subst (λ z. length z ≤ 4294967295) (sym same_place) fits.near

  -- ---- parents, and how many children

  linked : AreLinked states (map record_view records) (up_in records)
  linked =
      (links_follow o).forked rp before.states states (map record_view before.records) (map record_view records) t.root x f g l p ks (up_in before.records) (up_in records) kept.represents has has_forked
      (λ b less. let k = there_is ks b less in let r = born_at b k.0 k.1 in ap up_at r.there ∙ r.says.parent)
      (λ j d s k h. elim (same_or_not j x) [
        | inl w ↦ ap (up_in records) w ∙ (ap up_at its_own ∙ (forked.parent.parent ∙ (sym (ap up_at forked.had) ∙ ap (up_in before.records) (sym w))))
        | inr w ↦ ap up_at (as_before j d s k h w)
      ])
      kept.linked

  few : AreAtMost 4294967295 states (map record_view records)
  few j d n s h = elim (has_forked.only j d s (forks n) h) [
    | inl w ↦ subst (λ z. z ≤ 4294967295) (sym (fork_count n (length ks) w.2)) forked.few
    | inr (inl w) ↦ lives_no_fork o n (forks n) w.3 refl
    | inr (inr w) ↦ kept.few j d n s w.1
  ]

  -- ---- the order of pairs

  ordered : AreOrdered records
  ordered = put_ordered o x g ks before.records forked.born its kept.ordered forked.parent.pairs.ordered forked.children

  -- ---- after the ways up

  rest : map rest_of behind.records ≡ map rest_of records
  rest = rest_same (going false) (going true) 4294967295 x (all_ways 4294967295 x (ready_once its.pairs.items forked.parent.pairs.ordered) forked.records)

  same : map record_view behind.records ≡ map record_view records
  same = same_views records behind.records rest

  -- the states and records behind say that it forked
  says : HasForked before.states behind.states (map record_view before.records) (map record_view behind.records) x g p ks
  says = subst (λ z. HasForked before.states z (map record_view before.records) (map record_view behind.records) x g p ks) (sym forked.states) (subst (λ z. HasForked before.states states (map record_view before.records) z x g p ks) (sym same) has_forked)

  brought : (c : Channel) → Tallied o rp states (map record_view records) c (counts_in c behind.records) u.root × HaveCounts o rp states (map record_view records) c (counts_in c behind.records) u.root
  brought c =
      counted.brought o law rp t.root u.root before states records x g f l p ks its kept has (block.sound o law rp t before behind x g f l p ks kept has forked) stop parts its_own as_before has_forked shown replaced path given forked.parent.pairs
      linked few near c behind.records forked.records

  labelled : (c : Channel) → Labelled o rp states (map record_view records) c (counts_in c behind.records) (min_labels_in c behind.records) u.root
  labelled c =
      subst (λ z. Labelled o rp states (map record_view records) c (counts_in c behind.records) z u.root) (sym (labels_same 4294967295 x c forked.records))
      (counted.labelled o law rp t.root u.root before states records x g f l p ks its kept has (block.sound o law rp t before behind x g f l p ks kept has forked) stop parts its_own as_before has_forked shown replaced path given forked.parent.pairs
      linked few near c (counts_in c behind.records) (brought c).1)

  -- ---- how many go on

  fork_before : (j d n : ℕ) (s m : S) (js : Nodes S) (r : Record) → HasProcessState before j d s (forks n) → slice_get before.records j ≡ Some r → at (place o rp s) u.root ≡ Some (Forked m js) → r.going_children ≡ going_of js
  fork_before j d n s m js r h e there = elim (aside_or_further (place o rp l) (place o rp s)) [
    | inr w ↦ none_there o rp before.states (map record_view before.records) t.root l n j d s w.0 kept.represents.agrees h (live_there o law rp before.states (map record_view before.records) t x f l kept.represents has) w.1
    | inl far ↦ on far (is_above (place o rp s) (place o rp l)) refl
  ]
    where
      on : ((q : List ℕ) → place o rp s ≢ place o rp l ++ q) → (b : Bool) → is_above (place o rp s) (place o rp l) ≡ b → r.going_children ≡ going_of js
      on far true w =
          let v = fork_was o (place o rp l) (Live l) (Forked p (all_live ks)) t.root u.root replaced (place o rp s) m js w there in
          kept.going_children j d n s m v.0 r h e v.1 ∙ sym (as_many_go o (place o rp l) (Live l) (Forked p (all_live ks)) t.root u.root replaced refl (place o rp s) m v.0 js w v.1 there)
      on far false w = kept.going_children j d n s m js r h e (sym (same_aside o (place o rp l) (Live l) (Forked p (all_live ks)) t.root u.root replaced (place o rp s) w far) ∙ there)

  going_children : (j d n : ℕ) (s m : S) (js : Nodes S) (r : Record) → Has states (map record_view records) j d s (forks n) → slice_get records j ≡ Some r → at (place o rp s) u.root ≡ Some (Forked m js) → r.going_children ≡ going_of js
  going_children j d n s m js r h e there = elim (has_forked.only j d s (forks n) h) [
    | inl w ↦
        let is : r ≡ its = some_same r its (sym e ∙ (ap (slice_get records) w.0 ∙ its_own)) in
        let now : at (place o rp s) u.root ≡ Some (Forked p (all_live ks)) = ap (λ z. at (place o rp z) u.root) w.1 ∙ (ap (λ z. at z u.root) same_place ∙ replaced.is) in
        ap (λ (z : Record). z.going_children) is ∙ (forked.parent.going_children ∙ (sym ((counts_tell o).all_go ks) ∙ ap going_of (fork_parts o no_channel p m (all_live ks) js (sym now ∙ there)).1))
    | inr (inl w) ↦ lives_no_fork o n (forks n) w.3 refl
    | inr (inr w) ↦ fork_before j d n s m js r w.1 (sym (as_before j d s (forks n) w.1 w.0) ∙ e) there
  ]

  -- ---- paths

  fit : (j d : ℕ) (s : S) (k : ProcessStatus) (r : Record) → Has states (map record_view records) j d s k → slice_get records j ≡ Some r → IsFit o rp s r
  fit j d s k r h e = elim (has_forked.only j d s k h) [
    | inl w ↦
        let is : its ≡ r = some_same its r (sym its_own ∙ (ap (slice_get records) (sym w.0) ∙ e)) in
        subst (λ z. IsFit o rp z r) (sym w.1) (subst (IsFit o rp p) is (record {
          path = forked.parent.path ∙ (fits.path ∙ sym path);
          near = near;
          few = subst (λ z. length z ≤ 18446744073709551615) (sym given) fits.few;
        }))
    | inr (inl w) ↦
        let b = born_at w.0 s w.1 in
        let is : b.its ≡ r = some_same b.its r (sym b.there ∙ (ap (slice_get records) (sym w.2) ∙ e)) in
        let within = forked.children.within w.0 s w.1 in
        subst (IsFit o rp s) is (record {
          path = b.says.path;
          near = let z = short (length rp) (o.path s) in let y = within.near in omega (arith, z, y);
          few = within.few;
        })
    | inr (inr w) ↦ kept.fit j d s k r w.1 (sym (as_before j d s k w.1 w.0) ∙ e)
  ]

  fit_behind : (j d : ℕ) (s : S) (k : ProcessStatus) (r : Record) → Has states (map record_view records) j d s k → slice_get behind.records j ≡ Some r → IsFit o rp s r
  fit_behind j d s k r h e =
      let q = was_record records behind.records j r rest e in
      let fit_was = fit j d s k q.0 h q.1 in
      record { path = sym (ap (λ (z : UncountedRecord). z.path) q.2) ∙ fit_was.path; near = fit_was.near; few = fit_was.few }

  going_behind : (j d n : ℕ) (s m : S) (js : Nodes S) (r : Record) → Has states (map record_view records) j d s (forks n) → slice_get behind.records j ≡ Some r → at (place o rp s) u.root ≡ Some (Forked m js) → r.going_children ≡ going_of js
  going_behind j d n s m js r h e there =
      let q = was_record records behind.records j r rest e in
      ap (λ (z : UncountedRecord). z.going_children) (sym q.2) ∙ going_children j d n s m js q.0 h q.1 there

  -- ---- who shares a channel

  one_carrier : (c : Channel) (b d : ℕ) (s t : S) → slice_get ks b ≡ Some s → slice_get ks d ≡ Some t → o.carries s c ≡ true → o.carries t c ≡ true → b ≡ d
  one_carrier c b d s t e h has_s has_t =
      let i = has_forked.born b s e in
      let j = has_forked.born d t h in
      same_behind g b d ((sources_by_records o).once rp states (map record_view records) u.root c (g + b) (g + d) i.0 j.0 s t lives lives shown i.1 j.1 has_s has_t)

  known_before : (c : Channel) (j d n : ℕ) (s : S) (k : Sharing) (m : S) (js : Nodes S) → HasProcessState before j d s (forks n) → known_in c before.records j ≡ Some k → at (place o rp s) u.root ≡ Some (Forked m js) → Knows o c m js k
  known_before c j d n s k m js h e there = elim (aside_or_further (place o rp l) (place o rp s)) [
    | inr w ↦ none_there o rp before.states (map record_view before.records) t.root l n j d s w.0 kept.represents.agrees h (live_there o law rp before.states (map record_view before.records) t x f l kept.represents has) w.1
    | inl far ↦
        knows_aside o rp before t.root u.root kept x f l lives has (Live l) (Forked p (all_live ks)) replaced given c
        (λ out. acts_fewer o law (Live l) (record { node = Forked p (all_live ks); effects = nothing }) c (block.sound o law rp t before behind x g f l p ks kept has forked) (ap (act_live o l) stop ∙ ap (λ z. Some (record { node = parted z; effects = nothing })) parts) out) j d n s k m js h e far there
  ]

  known : (c : Channel) → AreKnown o rp states (map record_view records) c (known_in c behind.records) u.root
  known c j d n s k m js h e there =
      let e' : known_in c records j ≡ Some k = sym (rest_known records behind.records rest c j) ∙ e in
      elim (has_forked.only j d s (forks n) h) [
        | inl w ↦
            let now : at (place o rp s) u.root ≡ Some (Forked p (all_live ks)) = ap (λ z. at (place o rp z) u.root) w.1 ∙ (ap (λ z. at z u.root) same_place ∙ replaced.is) in
            let both = fork_parts o no_channel p m (all_live ks) js (sym now ∙ there) in
            let knows = handed.knows o law l p ks c k (block.sound o law rp t before behind x g f l p ks kept has forked) (stop, parts) (forked.parent.pairs.known c k (sym (ap (known_at c) (ap (slice_get records) w.0 ∙ its_own)) ∙ e')) (one_carrier c) in
            subst (λ z. Knows o c m z k) both.1 (subst (λ z. Knows o c z (all_live ks) k) both.0 knows)
        | inr (inl w) ↦ lives_no_fork o n (forks n) w.3 refl
        | inr (inr w) ↦ known_before c j d n s k m js w.1 (sym (ap (known_at c) (as_before j d s (forks n) w.1 w.0)) ∙ e') there
      ]

  beside : length states ≡ length behind.records
  beside =
      block_long g ks forked.born (slice_set before.states x p) (slice_set before.records x its) (sym forked.children.as_many) (length-set before.states x p ∙ (kept.beside ∙ sym (length-set before.records x its)))
      ∙ (sym (length-map records rest_of) ∙ (ap length (sym rest) ∙ length-map behind.records rest_of))

  pub keeps : TableInvariant o rp (record { states = states; records = behind.records }) u.root
  keeps = record {
    represents = subst (λ z. Represents o rp states z u.root) (sym same) shown;
    linked = subst (λ z. AreLinked states z (up_in behind.records)) (sym same) (subst (AreLinked states (map record_view records)) (sym (rest_ups records behind.records rest)) linked);
    few = subst (AreAtMost 4294967295 states) (sym same) few;
    ordered = kept_order records behind.records rest ordered;
    right = λ c. record {
      there = subst (λ z. HaveCounts o rp states z c (counts_in c behind.records) u.root) (sym same) (brought c).1;
      counts = subst (λ z. Tallied o rp states z c (counts_in c behind.records) u.root) (sym same) (brought c).0;
      labels = subst (λ z. Labelled o rp states z c (counts_in c behind.records) (min_labels_in c behind.records) u.root) (sym same) (labelled c);
    };
    going_children = λ j d n s m js r h e there. going_behind j d n s m js r (subst (λ z. Has states z j d s (forks n)) same h) e there;
    known = λ c. subst (λ z. AreKnown o rp states z c (known_in c behind.records) u.root) (sym same) (known c);
    fit = λ j d s k r h e. fit_behind j d s k r (subst (λ z. Has states z j d s k) same h) e;
    beside = beside;
  }

pub fork_preserves : {S : Type 0} (o : Ops S) → LocalLaws o → ForkPreserves o
fork_preserves o law x g f l p ks before behind has stop parts forked rp t kept =
    let next = can_step o law rp before.states (map record_view before.records) t x f l kept.represents has (ap own_action_at stop) in (
      next.0,
      next.1,
      subst (λ z. TableInvariant o rp (record { states = z; records = behind.records }) next.0.root) (sym forked.states) (keeps o law rp t next.0 before behind x g f l p ks kept has forked stop parts next.1),
    )

-- what the states and records behind say
pub forks_say : {S : Type 0} (o : Ops S) → LocalLaws o → (x g f : ℕ) (l p : S) (ks : List S) (before behind : TableView S) → HasProcessState before x f l lives → o.stop l ≡ AtFork → o.fork l ≡ Parted p ks → ForksAt o x g p ks before behind
    → (rp : Path) (t : Tree S) → TableInvariant o rp before t.root → HasForked before.states behind.states (map record_view before.records) (map record_view behind.records) x g p ks
forks_say o law x g f l p ks before behind has stop parts forked rp t kept =
    let next = can_step o law rp before.states (map record_view before.records) t x f l kept.represents has (ap own_action_at stop) in
    says o law rp t next.0 before behind x g f l p ks kept has forked stop parts next.1
