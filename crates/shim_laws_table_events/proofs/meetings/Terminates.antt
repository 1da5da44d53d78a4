-- A process goes on no more: of its fork one child less goes on, and of every other fork as many as before.
use Rattle.std.proofs.Common.{◌≡◌, ◌≢◌, ℕ, zero, suc, ◌+◌, ◌-◌, ◌<◌, Bool, true, false, Some, List, [], ◌∷◌, ◌++◌, map, length, inl, inr, refl, sym, ap, subst, ◌∙◌, arith}
use Rattle.std.specs.Prelude.{slice_get}
use Rattle.std.proofs.lemmas.List.{length-append}
use Rattle.shim_base.specs.Paths.{Path}
use Rattle.shim_base.proofs.Facts.{some_same}
use Rattle.shim_local.specs.Process.{Ops}
use Rattle.shim_semantics.specs.Nodes.{Node, Nodes, Live, Forked, goes}
use Rattle.shim_semantics.specs.Places.{at}
use Rattle.shim_semantics.proofs.HowMany.{clash}
use Rattle.shim_laws_table.specs.NodeStatus.{lives, forks, seen, how_many_nodes, is_leaf, place, IsAside}
use Rattle.shim_laws_table.specs.Agrees.{Has}
use Rattle.shim_laws_table.specs.Places.{IsReplaced}
use Rattle.shim_laws_table.specs.Counts.{going_of, bit}
use Rattle.shim_laws_table.specs.Tallied.{is_above}
use Rattle.shim_laws_table.proofs.Aside.{at_split}
use Rattle.shim_laws_table.proofs.SameTrees.{aside_or_further, is_put, fork_count, child_counted}
use Rattle.shim_laws_table.proofs.OneChange.{one_state}
use Rattle.shim_laws_table.proofs.PlacesAbove.{way_from, fork_above, untouched, leaf_no_fork, above_its_own}
use Rattle.shim_laws_table.proofs.Linked.{running_follow}
use Rattle.shim_laws_table.proofs.Hanging.{tied}
use Rattle.shim_records.specs.Pairs.{record_view, up_in}
use Rattle.shim_records.specs.declared.record.Record.{Record}
use Rattle.shim_laws_table_events.specs.keeping.Tables.{GoRight, TableInvariant}
use Rattle.shim_laws_table_events.proofs.keeping.Forks.{Was, carried}

no_longer : (p t : List ℕ) (b d e : ℕ) → p ++ b ∷ [] ≡ p ++ d ∷ e ∷ t → ⊥
no_longer p t b d e w = let x = ap length w in let y = length-append p (b ∷ []) in let z = length-append p (d ∷ e ∷ t) in let u : length (b ∷ []) ≡ 1 = refl in let v : length (d ∷ e ∷ t) ≡ suc (suc (length t)) = refl in omega (arith, x, y, z, u, v)

one_less_is : (now was kept is : ℕ) → now + 1 ≡ was + 0 → kept ≡ was → is ≡ kept - 1 → is ≡ now
one_less_is now was kept is e f g = omega (arith, e, f, g)

module _ {S : Type 0} (o : Ops S) (rp : Path) (states states' : List S) (rs behind : List Record) (old new : Node S) (l : S) (a : Node S) (x f : ℕ)
    (kept : TableInvariant o rp (record { states = states; records = rs }) old) (has : Has states (map record_view rs) x f l lives) (leaf : is_leaf a ≡ true) (done : goes a ≡ false) (rep : IsReplaced (place o rp l) (Live l) a old new)
    (was_fork : (j d n : ℕ) (t : S) → Has states' (map record_view behind) j d t (forks n) → (j ≢ x) × Has states (map record_view rs) j d t (forks n))
    (less : (j : ℕ) (r : Record) → slice_get behind j ≡ Some r → (q : Record) × (slice_get rs j ≡ Some q) × (up_in rs x ≡ Some j → r.going_children ≡ q.going_children - 1) × (up_in rs x ≢ Some j → r.going_children ≡ q.going_children)) where
  abbrev q : List ℕ
  q = place o rp l

  module _ (j g n : ℕ) (t u : S) (ks : Nodes S) (r : Record) (fork : Has states' (map record_view behind) j g t (forks n)) (e : slice_get behind j ≡ Some r) (now : at (place o rp t) new ≡ Some (Forked u ks)) where
    abbrev p : List ℕ
    p = place o rp t

    its : Has states (map record_view rs) j g t (forks n)
    its = (was_fork j g n t fork).1

    known : (w : Record) × (slice_get rs j ≡ Some w) × (up_in rs x ≡ Some j → r.going_children ≡ w.going_children - 1) × (up_in rs x ≢ Some j → r.going_children ≡ w.going_children)
    known = less j r e

    -- the parent is right above
    right_above : up_in rs x ≡ Some j → (b : ℕ) × (q ≡ p ++ b ∷ [])
    right_above up =
        let y = tied o rp states (map record_view rs) old kept.represents (up_in rs) kept.linked x f j l lives has up in
        let b = y.0 in
        let same : b.parent ≡ t = one_state states (map record_view rs) j b.first g b.parent t (forks b.many) (forks n) (subst (λ z. Has states (map record_view rs) z b.first b.parent (forks b.many)) y.1 b.has) its in
        (b.branch, b.is ∙ ap (λ z. place o rp z ++ b.branch ∷ []) same)

    -- and who is right above is the parent
    parent_is : (b : ℕ) → q ≡ p ++ b ∷ [] → up_in rs x ≡ Some j
    parent_is b w =
        let v = fork_above p b [] old (Live l) (ap (λ z. at z old) (sym w) ∙ rep.was) in
        let many = fork_count (how_many_nodes v.children) n (ap (λ z. z.1) (some_same (v.state, forks (how_many_nodes v.children)) (t, forks n) (sym (ap seen v.there) ∙ kept.represents.agrees.shown j g t (forks n) its))) in
        let less = subst (λ z. b < z) many (child_counted b [] v.children (Live l) v.child) in
        let z = kept.represents.agrees.below j g n t its b less in
        ap (up_in rs) (kept.represents.agrees.apart x (g + b) f z.0 l z.1 lives z.2 has z.3 (w ∙ sym z.4)) ∙ kept.linked.parents j g n t its b less

    before : Was o q (Live l) a old new rep leaf {X = ℕ} (λ js. zero) p u ks
    before = carried o q (Live l) a old new rep leaf (λ js. zero) (λ r v is js above was now. refl) p u ks now

    children_are : known.0.going_children ≡ going_of before.children
    children_are = kept.going_children j g n t u before.children known.0 its known.1 before.there

    above : (b : ℕ) (rest : List ℕ) → q ≡ p ++ b ∷ rest → r.going_children ≡ going_of ks
    above b [] z = one_less_is (going_of ks) (going_of before.children) known.0.going_children r.going_children
        ((running_follow o).right_above old new (Live l) a p b u before.children ks (subst (λ d. IsReplaced d (Live l) a old new) z rep) before.there now ∙ ap (λ d. going_of before.children + bit d) done)
        children_are (known.2 (parent_is b z))
    above b (d ∷ rest) z =
        known.3 (λ up. let y = right_above up in no_longer p rest y.0 b d (sym y.1 ∙ z))
        ∙ (children_are ∙ sym ((running_follow o).further_above old new (Live l) a p b d rest u before.children ks (subst (λ d. IsReplaced d (Live l) a old new) z rep) before.there now))

    beside : IsAside p q → (b : Bool) → is_above p q ≡ b → r.going_children ≡ going_of ks
    beside far false w =
        let was : at p old ≡ Some (Forked u ks) = sym (untouched q p (Live l) a old rep.was w far) ∙ (ap (at p) (sym (is_put q (Live l) a old new rep)) ∙ now) in
        known.3 (λ up. let b = right_above up in clash (is_above p q) (ap (is_above p) b.1 ∙ above_its_own p b.0) w) ∙ kept.going_children j g n t u ks known.0 its known.1 was
    beside far true w = let y = way_from p q w in above y.branch y.rest y.is

    going_is : r.going_children ≡ going_of ks
    going_is = elim (aside_or_further q p) [
      | inr y ↦ leaf_no_fork y.0 a u ks leaf (sym (at_split q y.0 new a rep.is) ∙ (ap (λ z. at z new) (sym y.1) ∙ now))
      | inl far ↦ beside far (is_above p q) refl
    ]

  pub one_less : GoRight o rp (record { states = states'; records = behind }) new
  one_less j g n t u ks r fork e now = going_is j g n t u ks r fork e now
