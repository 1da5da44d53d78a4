-- The name that a channel's first rendezvous brings, found among all that share the channel.
use Rattle.std.proofs.Common.{◌≡◌, ℕ, suc, true, false, Option, Some, None, List, [], ◌∷◌, map, inl, inr, refl, sym, ap, subst, ◌∙◌}
use Rattle.std.specs.Prelude.{unwrap_or}
use Rattle.shim_base.specs.Paths.{Path, Channel, NamedChannel}
use Rattle.shim_base.proofs.Facts.{some_same, false_unless}
use Rattle.shim_local.specs.Process.{Ops, AtNext}
use Rattle.shim_local.specs.Laws.{LocalLaws}
use Rattle.shim_semantics.specs.Nodes.{Node, Nodes, Live, Forked, Ended, Dead, no_node, node_and, is_next, or_else, first_name, first_name_among}
use Rattle.shim_semantics.specs.Places.{at, child_at}
use Rattle.shim_semantics.proofs.Replaced.{sound_at}
use Rattle.shim_semantics.proofs.HowMany.{clash}
use Rattle.shim_laws_schedules.proofs.Unshared.{no_name, stands_shares}
use Rattle.shim_laws_table.specs.NodeStatus.{lives, place}
use Rattle.shim_laws_table.specs.Sources.{is_before}
use Rattle.shim_laws_table.proofs.SameTrees.{seen_live}
use Rattle.shim_laws_table.proofs.OneChange.{one_state}
use Rattle.shim_laws_table.proofs.OneTree.{covered}
use Rattle.shim_laws_table.proofs.Hanging.{tree_of}
use Rattle.shim_laws_table.proofs.Sources.{sources_by_records}
use Rattle.shim_records.specs.Members.{IsAmong}
use Rattle.shim_records.specs.Pairs.{record_view}
use Rattle.shim_laws_table_events.specs.keeping.Tables.{TableView, HasProcessState}
use Rattle.shim_laws_table_events.specs.meetings.Sharers.{Precedes, InOrder, AreSharers}
use Rattle.shim_laws_table_events.specs.meetings.Names.{IsFirstName, nobody, later, first, NamesFound}
use Rattle.shim_laws_table_events.proofs.meetings.Among.{none_among, among_split, not_before, not_behind}
use Rattle.shim_laws_table_events.proofs.meetings.AtHome.{below_home, home_shares, can_meet}

module _ {S : Type 0} (o : Ops S) (c : Channel) where
  mutual
    nobody_named : (n : Node S) → ((p : List ℕ) (t : S) → at p n ≡ Some (Live t) → is_next (o.stop t) c ≡ true → ⊥) → first_name o c n ≡ None
    nobody_named (Live l) h = no_name (o.stop l) c (false_unless (is_next (o.stop l) c) (λ y. h [] l refl y))
    nobody_named (Ended l) h = refl
    nobody_named (Dead l d) h = refl
    nobody_named (Forked l ks) h = nobody_in ks (λ i p t e y. h (i ∷ p) t e y)

    nobody_in : (ks : Nodes S) → ((i : ℕ) (p : List ℕ) (t : S) → child_at i p ks ≡ Some (Live t) → is_next (o.stop t) c ≡ true → ⊥) → first_name_among o c ks ≡ None
    nobody_in no_node h = refl
    nobody_in (node_and k ks) h = ap (λ z. or_else z (first_name_among o c ks)) (nobody_named k (λ p t e y. h 0 p t e y)) ∙ nobody_in ks (λ i p t e y. h (suc i) p t e y)

  module _ (rp : Path) (v : TableView S) where
    -- who stands first of these, if one does
    pub data Firsts (numbers : List ℕ) (x : Option ℕ) : Type 0 where
      none_waits : x ≡ None → ((j g : ℕ) (t : S) → IsAmong j numbers → HasProcessState v j g t lives → is_next (o.stop t) c ≡ false) → Firsts numbers x
      one_waits : (i f : ℕ) (l : S) (d : NamedChannel) → HasProcessState v i f l lives → o.stop l ≡ AtNext d → d.channel ≡ c → x ≡ Some d.name
          → ((j g : ℕ) (t : S) → IsAmong j numbers → HasProcessState v j g t lives → is_next (o.stop t) c ≡ true → is_before (place o rp t) (place o rp l) ≡ false) → Firsts numbers x

    firsts : {numbers : List ℕ} {x : Option ℕ} → IsFirstName o v c numbers x → InOrder (Precedes o rp v) numbers → Firsts numbers x
    firsts nobody ordered = none_waits refl (λ j g t among has. none_among j among)
    firsts (later i is x none more) ordered = on (firsts more ordered.1)
      where
        on : Firsts is x → Firsts (i ∷ is) x
        on (none_waits e rest) = none_waits e (λ j g t among has. elim (among_split j i is among) [
          | inl same ↦ none g t (subst (λ z. HasProcessState v z g t lives) (sym same) has)
          | inr h ↦ rest j g t h has
        ])
        on (one_waits j f l d has stop its e rest) = one_waits j f l d has stop its e (λ k g t among status y. elim (among_split k i is among) [
          | inl same ↦ clash (is_next (o.stop t) c) y (none g t (subst (λ z. HasProcessState v z g t lives) (sym same) status))
          | inr h ↦ rest k g t h status y
        ])
    firsts (first i f l d is has stop its) ordered = one_waits i f l d has stop its refl (λ j g t among status y. elim (among_split j i is among) [
      | inl same ↦
          let is_l : t ≡ l = one_state v.states (map record_view v.records) i g f t l lives lives (subst (λ z. HasProcessState v z g t lives) (sym same) status) has in
          ap (λ z. is_before (place o rp z) (place o rp l)) is_l ∙ not_before (place o rp l)
      | inr h ↦ not_behind (place o rp l) (place o rp t) (ordered.0 j h f g l t lives lives has status)
    ])

pub names_found : {S : Type 0} (o : Ops S) → LocalLaws o → NamesFound o
names_found {S} o law v c i numbers x home enabled lists named rp root kept = ap (λ z. unwrap_or z 0) (sym (on (firsts o c rp v named are.ordered)))
  where
    are : AreSharers o rp v c (place o rp home.state) numbers
    are = lists rp root home.first home.state home.status kept home.has (home_shares o rp v.states (map record_view v.records) root kept.represents law c i home.first home.state home.status home.has home.its (can_meet o (tree_of o root) c (enabled rp (tree_of o root) kept)).0)

    -- whoever is at the channel shares it, and so is among them
    waiter_among : (j g : ℕ) (t : S) → HasProcessState v j g t lives → is_next (o.stop t) c ≡ true → IsAmong j numbers
    waiter_among j g t has y =
        let there = seen_live (at (place o rp t) root) t (kept.represents.agrees.shown j g t lives has) in
        let shares = stands_shares o law c t (sound_at o (place o rp t) root (Live t) kept.represents.sound.below there) y in
        let w = below_home o rp v.states (map record_view v.records) root kept.represents c i j home.first g home.state t home.status lives home.has home.its has shares in
        are.all j (record { first = g; state = t; status = lives; has = has; shares = shares; further = w.0; is_there = w.1 })

    on : Firsts o c rp v numbers x → first_name o c root ≡ x
    on (none_waits e none) = nobody_named o c root (λ p t there y.
        let w = covered o rp v.states (map record_view v.records) kept.represents.rooted root kept.represents.agrees p (Live t) there in
        let same = some_same (w.state_is, w.status_is) (t, lives) w.is_seen in
        let has : HasProcessState v w.number w.first t lives = subst (λ z. HasProcessState v w.number w.first t z) (ap (λ z. z.1) same) (subst (λ z. HasProcessState v w.number w.first z w.status_is) (ap (λ z. z.0) same) w.has) in
        clash (is_next (o.stop t) c) y (none w.number w.first t (waiter_among w.number w.first t has y) has)) ∙ sym e
    on (one_waits j f l d has stop its e before) =
        (sources_by_records o).name rp v.states (map record_view v.records) root c j f l d kept.represents has stop its (λ k g t status y. before k g t (waiter_among k g t status y) status y) ∙ sym e
