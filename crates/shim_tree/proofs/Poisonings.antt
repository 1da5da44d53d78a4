-- Poison, child by child, and the descent to the fork of the child.
use Rattle.std.proofs.Common.{◌≡◌, ℕ, zero, suc, ◌+◌, ◌<◌, ◌≤◌, ◌-◌, Bool, true, false, ltb, Option, Some, None, List, [], ◌∷◌, length, get_or, slice_set, drop, cond, inl, inr, refl, sym, ap, ◌∙◌, ltb-true, arith}
use Rattle.std.specs.declared.vec.Vec.{Vec}
use Rattle.std.specs.declared.alloc.Global.{Global}
use Rattle.shim_base.specs.Paths.{Path, Channel, same_pair}
use Rattle.shim_local.specs.Process.{Ops}
use Rattle.shim_semantics.specs.Nodes as model
use Rattle.shim_semantics.specs.Nodes.{state}
use Rattle.shim_semantics.specs.Poison.{dooms, any_dooms, is_doomed, is_ready_child, poisoned, all_poisoned, one_poisoned, can_poison, poison_node, above, before_rest, after_one, poison_route}
use Rattle.shim_tree.specs.Poisoning.{poison_by, poison_among}
use Rattle.shim_semantics.specs.Places.{after_front, branches, option_branches, route, led_to, has_path}
use Rattle.shim_semantics.specs.Trees.{poisons}
use Rattle.shim_tree.specs.NodeStatus.{node, nodes, together}
use Rattle.shim_tree.specs.declared.node_status.NodeStatus.{NodeStatus}
use Rattle.shim_tree.specs.declared.node_status.NodeStatus.TheVariants as code
use Rattle.shim_tree.proofs.Children.{node_forked, at_forked}
use Rattle.shim_base.proofs.Facts.{some_same, first_holds, second_holds, either_holds, cond_there}

-- the children from a place on are poisoned
abbrev pub poisoned_from : {S : Type 0} → Ops S → Channel → model.Death → ℕ → model.Nodes S → model.Nodes S
poisoned_from o c x zero ks = all_poisoned o c x ks
poisoned_from o c x (suc i) model.no_node = model.no_node
poisoned_from o c x (suc i) (model.node_and k ks) = model.node_and k (poisoned_from o c x i ks)

module _ {S : Type 0} (o : Ops S) (c : Channel) where
  poisoned_one : (x : model.Death) (i : ℕ) (ls : List S) (bs : List (NodeStatus S)) (l : S) (b b' : NodeStatus S) → i < length ls → i < length bs → l ≡ get_or ls i l → b ≡ get_or bs i b → node l b' ≡ poisoned o c x (node l b)
      → poisoned_from o c x (suc i) (together ls (nodes (slice_set bs i b'))) ≡ poisoned_from o c x i (together ls (nodes bs))
  poisoned_one x i [] bs l b b' h k e f n = absurd (omega (arith, h))
  poisoned_one x i (m ∷ ls) [] l b b' h k e f n = absurd (omega (arith, k))
  poisoned_one x zero (m ∷ ls) (d ∷ bs) l b b' h k e f n =
      ap (λ z. model.node_and z (all_poisoned o c x (together ls (nodes bs)))) ((λ t. node (sym e t) b') ∙ (n ∙ λ t. poisoned o c x (node (e t) (f t))))
  poisoned_one x (suc i) (m ∷ ls) (d ∷ bs) l b b' h k e f n = ap (model.node_and (node m d)) (poisoned_one x i ls bs l b b' (omega (arith, h)) (omega (arith, k)) e f n)

  pub poisoned_next : (x : model.Death) (i : ℕ) (ls : List S) (bs : List (NodeStatus S)) (l : S) (b b' : NodeStatus S) → i < length ls → i < length bs → l ≡ get_or ls i l → b ≡ get_or bs i b → node l b' ≡ poisoned o c x (node l b)
      → poisoned_from o c x (i + 1) (together ls (nodes (slice_set bs i b'))) ≡ poisoned_from o c x i (together ls (nodes bs))
  poisoned_next x i ls bs l b b' h k e f n =
      let w : i + 1 ≡ suc i = omega arith in
      ap (λ z. poisoned_from o c x z (together ls (nodes (slice_set bs i b')))) w ∙ poisoned_one x i ls bs l b b' h k e f n

  poisoned_end : (x : model.Death) (i : ℕ) (ls : List S) (bs : List (NodeStatus S)) → length ls ≤ i → poisoned_from o c x i (together ls (nodes bs)) ≡ together ls (nodes bs)
  poisoned_end x zero [] bs h = refl
  poisoned_end x (suc i) [] bs h = refl
  poisoned_end x zero (l ∷ ls) bs h = absurd (omega (arith, h))
  poisoned_end x (suc i) (l ∷ ls) [] h = ap (model.node_and (model.Live l)) (poisoned_end x i ls [] (omega (arith, h)))
  poisoned_end x (suc i) (l ∷ ls) (b ∷ bs) h = ap (model.node_and (node l b)) (poisoned_end x i ls bs (omega (arith, h)))

  pub poisoned_fork : (x : model.Death) (i : ℕ) (l : S) (b : NodeStatus S) (ls ls' : Vec S Global) (bs bs' : Vec (NodeStatus S) Global) → b ≡ code.Forked ls bs → length ls'.items ≤ i
      → poisoned_from o c x i (together ls'.items (nodes bs'.items)) ≡ all_poisoned o c x (together ls.items (nodes bs.items)) → node l (code.Forked ls' bs') ≡ poisoned o c x (node l b)
  poisoned_fork x i l b ls ls' bs bs' e h n =
      node_forked l ls' bs' ∙ (ap (model.Forked l) (sym (poisoned_end x i ls'.items bs'.items h) ∙ n) ∙ sym (ap (poisoned o c x) (at_forked l b ls bs e)))

  -- one child is
  pub one_there : (x : model.Death) (i : ℕ) (ls : List S) (bs : List (NodeStatus S)) (l : S) (b b' : NodeStatus S) → i < length ls → i < length bs → l ≡ get_or ls i l → b ≡ get_or bs i b → node l b' ≡ poisoned o c x (node l b)
      → together ls (nodes (slice_set bs i b')) ≡ one_poisoned o c x i (together ls (nodes bs))
  one_there x i [] bs l b b' h k e f n = absurd (omega (arith, h))
  one_there x i (m ∷ ls) [] l b b' h k e f n = absurd (omega (arith, k))
  one_there x zero (m ∷ ls) (d ∷ bs) l b b' h k e f n =
      ap (λ z. model.node_and z (together ls (nodes bs))) ((λ t. node (sym e t) b') ∙ (n ∙ λ t. poisoned o c x (node (e t) (f t))))
  one_there x (suc i) (m ∷ ls) (d ∷ bs) l b b' h k e f n = ap (model.node_and (node m d)) (one_there x i ls bs l b b' (omega (arith, h)) (omega (arith, k)) e f n)

  -- what is doomed is doomed by a label below those in force, so there are some
  mutual
    dooms_some : (h : ℕ) (k : model.Node S) → dooms o h c k ≡ true → 1 ≤ h
    dooms_some h (model.Live l) e = absurd cc
    dooms_some h (model.Forked l ks) e = any_dooms_some h ks e
    dooms_some h (model.Ended l) e = absurd cc
    dooms_some h (model.Dead l x) e = let w = ltb-true x.label h (second_holds (o.shares l c) (ltb x.label h) e) in omega (arith, w)

    any_dooms_some : (h : ℕ) (ks : model.Nodes S) → any_dooms o h c ks ≡ true → 1 ≤ h
    any_dooms_some h model.no_node e = absurd cc
    any_dooms_some h (model.node_and k ks) e = elim (either_holds (dooms o h c k) (any_dooms o h c ks) e) [
      | inl a ↦ dooms_some h k a
      | inr a ↦ any_dooms_some h ks a
    ]

  doomed_some : (h i : ℕ) (ks : model.Nodes S) → is_doomed o h c i ks ≡ true → 1 ≤ h
  doomed_some h i model.no_node e = absurd cc
  doomed_some h zero (model.node_and k ks) e = any_dooms_some h ks e
  doomed_some h (suc i) (model.node_and k ks) e = elim (either_holds (dooms o h c k) (is_doomed o h c i ks) e) [
    | inl a ↦ dooms_some h k a
    | inr a ↦ doomed_some h i ks a
  ]

  ready_there : (i : ℕ) (ls : List S) (fs : List (S → model.Node S)) → is_ready_child o c i (together ls fs) ≡ true → i < length ls
  ready_there i [] fs e = absurd cc
  ready_there zero (l ∷ ls) fs e = omega arith
  ready_there (suc i) (l ∷ ls) [] e = let w = ready_there i ls [] e in omega (arith, w)
  ready_there (suc i) (l ∷ ls) (f ∷ fs) e = let w = ready_there i ls fs e in omega (arith, w)

  -- what is known where the child in a place of the fork is poisoned
  pub record PoisonsNode (l : S) (b : NodeStatus S) (i : ℕ) (ls : List S) (bs : List (NodeStatus S)) : Type 0 where
    pub there : i < length ls
    pub some : 1 ≤ o.handlers l
    pub is : poison_node o c i (node l b) ≡ Some (model.Forked l (one_poisoned o c (model.death (o.handlers l - 1)) i (together ls (nodes bs))))

  pub poisons_here : (l : S) (b : NodeStatus S) (i : ℕ) (ls : Vec S Global) (bs : Vec (NodeStatus S) Global) → b ≡ code.Forked ls bs → (poison_node o c i (node l b) ≡ None → ⊥) → PoisonsNode l b i ls.items bs.items
  poisons_here l b i ls bs e h =
      let n = at_forked l b ls bs e in
      let ks = together ls.items (nodes bs.items) in
      let w = cond_there (can_poison o l c i ks) (Some (model.Forked l (one_poisoned o c (model.death (o.handlers l - 1)) i ks))) (λ z. h (ap (poison_node o c i) n ∙ z)) in
      record {
        there = ready_there i ls.items (nodes bs.items) (first_holds (is_ready_child o c i ks) (is_doomed o (o.handlers l) c i ks) w.0);
        some = doomed_some (o.handlers l) i ks (second_holds (is_ready_child o c i ks) (is_doomed o (o.handlers l) c i ks) w.0);
        is = ap (poison_node o c i) n ∙ w.1;
      }

  pub poison_done : (l : S) (b : NodeStatus S) (i x : ℕ) (ls ls' : Vec S Global) (bs bs' : Vec (NodeStatus S) Global) → PoisonsNode l b i ls.items bs.items → x ≡ o.handlers l - 1
      → together ls'.items (nodes bs'.items) ≡ one_poisoned o c (model.death x) i (together ls.items (nodes bs.items)) → poison_node o c i (node l b) ≡ Some (node l (code.Forked ls' bs'))
  poison_done l b i x ls ls' bs bs' p e n =
      p.is ∙ ap Some (ap (model.Forked l) (ap (λ z. one_poisoned o c (model.death z) i (together ls.items (nodes bs.items))) (sym e) ∙ sym n) ∙ sym (node_forked l ls' bs'))

  -- the descent: a child that is poisoned is there, and what is poisoned at its place is poisoned from here
  pub descent_there : (b i : ℕ) (p : Path) (ls : List S) (fs : List (S → model.Node S)) → (poison_among o c b i p (together ls fs) ≡ None → ⊥) → b < length ls
  descent_there b i p [] fs h = absurd (h refl)
  descent_there zero i p (l ∷ ls) fs h = omega arith
  descent_there (suc b) i p (l ∷ ls) [] h = let w = descent_there b i p ls [] (λ e. h (ap (after_one (model.Live l)) e)) in omega (arith, w)
  descent_there (suc b) i p (l ∷ ls) (f ∷ fs) h = let w = descent_there b i p ls fs (λ e. h (ap (after_one (f l)) e)) in omega (arith, w)

  pub descent_none : (n i : ℕ) (p : Path) (ls : List S) (bs : List (NodeStatus S)) (l : S) (b : NodeStatus S) → n < length ls → n < length bs → l ≡ get_or ls n l → b ≡ get_or bs n b
      → poison_by o c i p (node l b) ≡ None → poison_among o c n i p (together ls (nodes bs)) ≡ None
  descent_none n i p [] bs l b h k e f w = refl
  descent_none n i p (m ∷ ls) [] l b h k e f w = absurd (omega (arith, k))
  descent_none zero i p (m ∷ ls) (d ∷ bs) l b h k e f w = ap (before_rest (together ls (nodes bs))) (ap (poison_by o c i p) (λ t. node (sym e t) (sym f t)) ∙ w)
  descent_none (suc n) i p (m ∷ ls) (d ∷ bs) l b h k e f w = ap (after_one (node m d)) (descent_none n i p ls bs l b (omega (arith, h)) (omega (arith, k)) e f w)

  pub descent_some : (n i : ℕ) (p : Path) (ls : List S) (bs : List (NodeStatus S)) (l : S) (b b' : NodeStatus S) → n < length ls → n < length bs → l ≡ get_or ls n l → b ≡ get_or bs n b
      → poison_by o c i p (node l b) ≡ Some (node l b') → poison_among o c n i p (together ls (nodes bs)) ≡ Some (together ls (nodes (slice_set bs n b')))
  descent_some n i p [] bs l b b' h k e f w = absurd (omega (arith, h))
  descent_some n i p (m ∷ ls) [] l b b' h k e f w = absurd (omega (arith, k))
  descent_some zero i p (m ∷ ls) (d ∷ bs) l b b' h k e f w =
      ap (before_rest (together ls (nodes bs))) (ap (poison_by o c i p) (λ t. node (sym e t) (sym f t)) ∙ (w ∙ ap (λ z. Some (node z b')) e))
  descent_some (suc n) i p (m ∷ ls) (d ∷ bs) l b b' h k e f w = ap (after_one (node m d)) (descent_some n i p ls bs l b b' (omega (arith, h)) (omega (arith, k)) e f w)

  -- from a fork to its children, and back
  pub fork_leads : (l : S) (b : NodeStatus S) (ls : Vec S Global) (bs : Vec (NodeStatus S) Global) (i : ℕ) (x : ℕ × ℕ) (p q : Path) → b ≡ code.Forked ls bs → q ≡ x ∷ p
      → poison_by o c i q (node l b) ≡ above l (poison_among o c i x.1 p (together ls.items (nodes bs.items)))
  fork_leads l b ls bs i x p q e f = λ t. poison_by o c i (f t) (at_forked l b ls bs e t)

  pub fork_poisoned : (l : S) (b : NodeStatus S) (ls ls' : Vec S Global) (bs bs' : Vec (NodeStatus S) Global) (i : ℕ) (x : ℕ × ℕ) (p q : Path) → b ≡ code.Forked ls bs → q ≡ x ∷ p
      → poison_among o c i x.1 p (together ls.items (nodes bs.items)) ≡ Some (together ls'.items (nodes bs'.items)) → poison_by o c i q (node l b) ≡ Some (node l (code.Forked ls' bs'))
  fork_poisoned l b ls ls' bs bs' i x p q e f h = fork_leads l b ls bs i x p q e f ∙ (ap (above l) h ∙ ap Some (sym (node_forked l ls' bs')))

-- what is after a front of a path
front_rest : (r p q : Path) → after_front r p ≡ Some q → (length r ≤ length p) × (q ≡ drop (length r) p)
front_rest [] p q e = (omega arith, some_same q p (sym e))
front_rest (x ∷ r) [] q e = absurd cc
front_rest (x ∷ r) (y ∷ p) q e = rest (same_pair x y) (λ f. front_rest r p q f) e
  where
    rest : (b : Bool) → (after_front r p ≡ Some q → (length r ≤ length p) × (q ≡ drop (length r) p)) → cond b (after_front r p) None ≡ Some q → (length (x ∷ r) ≤ length (y ∷ p)) × (q ≡ drop (length r) p)
    rest true g f = let w = g f in let h = w.0 in (omega (arith, h), w.1)
    rest false g f = absurd cc

front_there : {S : Type 0} (o : Ops S) (c : Channel) (n : model.Node S) (s : Option Path) → (poison_route o c n (option_branches s) ≡ None → ⊥) → (q : Path) × (s ≡ Some q)
front_there o c n None h = absurd (h refl)
front_there o c n (Some q) h = (q, refl)

-- a path that leads to a child that is poisoned goes on from the root's
pub record Leads {S : Type 0} (o : Ops S) (c : Channel) (r p : Path) (n : model.Node S) : Type 0 where
  pub within : length r ≤ length p
  pub is : poisons o p c n ≡ poison_route o c n (Some (branches (drop (length r) p)))

pub leads : {S : Type 0} (o : Ops S) (c : Channel) (r p : Path) (n : model.Node S) → r ≡ o.path (state n) → (poisons o p c n ≡ None → ⊥) → Leads o c r p n
leads o c r p n e h =
    let w = cond_there (has_path o p (led_to o n p)) (poison_route o c n (route (o.path (state n)) p)) h in
    let v : poisons o p c n ≡ poison_route o c n (route r p) = w.1 ∙ ap (λ z. poison_route o c n (route z p)) (sym e) in
    let q = front_there o c n (after_front r p) (λ z. h (v ∙ z)) in
    let f = front_rest r p q.0 q.1 in
    record { within = f.0; is = v ∙ (ap (λ z. poison_route o c n (option_branches z)) q.1 ∙ ap (λ z. poison_route o c n (Some (branches z))) f.1) }

pub leads_on : {S : Type 0} (o : Ops S) (c : Channel) (r p : Path) (n : model.Node S) (x : ℕ × ℕ) (q : Path) → Leads o c r p n → drop (length r) p ≡ x ∷ q → poisons o p c n ≡ poison_by o c x.1 q n
leads_on o c r p n x q h e = h.is ∙ ap (λ z. poison_route o c n (Some (branches z))) e

nothing_left : (q : Path) → length q ≡ 0 → q ≡ []
nothing_left [] e = refl
nothing_left (x ∷ q) e = absurd (omega (arith, e))

-- the root is no child
pub leads_nowhere : {S : Type 0} (o : Ops S) (c : Channel) (r p q : Path) (n : model.Node S) → Leads o c r p n → q ≡ drop (length r) p → length q ≡ 0 → poisons o p c n ≡ None
leads_nowhere o c r p q n h f e = h.is ∙ ap (λ z. poison_route o c n (Some (branches z))) (sym f ∙ nothing_left q e)
