-- Records agree with one tree at most.
use Rattle.std.proofs.Common.{◌≡◌, ℕ, ◌+◌, Option, Some, None, List, [], ◌∷◌, ◌++◌, refl, sym, ap, subst, ◌∙◌}
use Rattle.std.proofs.lemmas.List.{append-nil, append_assoc}
use Rattle.shim_base.specs.Paths.{Path}
use Rattle.shim_local.specs.Process.{Ops}
use Rattle.shim_semantics.specs.Nodes.{Node, Live, Forked, Ended, Dead}
use Rattle.shim_semantics.specs.Places.{at}
use Rattle.shim_base.proofs.Facts.{some_same, none_some}
use Rattle.shim_laws_table.specs.NodeStatus.{ProcessStatus, forks, seen, place, how_many_nodes}
use Rattle.shim_laws_table.specs.Agrees.{RecordView, Has, Agrees, Rooted, OneTree}
use Rattle.shim_laws_table.proofs.Aside.{at_split}
use Rattle.shim_laws_table.proofs.SameTrees.{same_tree, child_counted, through}

module _ {S : Type 0} (o : Ops S) (rp : Path) (states : List S) (views : List RecordView) where
  -- a node of the tree has a record
  pub record Covered (q : List ℕ) (n : Node S) : Type 0 where
    pub number : ℕ
    pub first : ℕ
    pub state_is : S
    pub status_is : ProcessStatus
    pub has : Has states views number first state_is status_is
    pub is_there : place o rp state_is ≡ q
    pub is_seen : Some (state_is, status_is) ≡ seen (Some n)

  covered_from : (root : Node S) → Agrees o rp states views root → (p q : List ℕ) (n m : Node S) → at q root ≡ Some n → at p n ≡ Some m → Covered q n → Covered (q ++ p) m
  covered_from root ok [] q n m e f c = subst (λ z. Covered z m) (sym (append-nil q)) (subst (Covered q) (some_same n m f) c)
  covered_from root ok (b ∷ p) q (Live l) m e f c = none_some m f
  covered_from root ok (b ∷ p) q (Ended l) m e f c = none_some m f
  covered_from root ok (b ∷ p) q (Dead l x) m e f c = none_some m f
  covered_from root ok (b ∷ p) q (Forked l ks) m e f c =
      let count = child_counted b p ks m f in
      let t = through b p ks m f in
      let is : c.status_is ≡ forks (how_many_nodes ks) = ap (λ z. z.1) (some_same (c.state_is, c.status_is) (l, forks (how_many_nodes ks)) c.is_seen) in
      let w = ok.below c.number c.first (how_many_nodes ks) c.state_is (subst (Has states views c.number c.first c.state_is) is c.has) b count in
      let here : place o rp w.1 ≡ q ++ b ∷ [] = w.4 ∙ ap (λ z. z ++ b ∷ []) c.is_there in
      let led : at (q ++ b ∷ []) root ≡ Some t.0 = at_split q (b ∷ []) root (Forked l ks) e ∙ t.1 in
      let child : Covered (q ++ b ∷ []) t.0 = record {
        number = c.first + b;
        first = w.0;
        state_is = w.1;
        status_is = w.2;
        has = w.3;
        is_there = here;
        is_seen = sym (ok.shown (c.first + b) w.0 w.1 w.2 w.3) ∙ ap seen (ap (λ z. at z root) here ∙ led);
      } in
      subst (λ z. Covered z m) (append_assoc q (b ∷ []) p) (covered_from root ok p (q ++ b ∷ []) t.0 m led t.2 child)

  module _ (r : Rooted o rp states views) where
    pub covered : (root : Node S) → Agrees o rp states views root → (p : List ℕ) (m : Node S) → at p root ≡ Some m → Covered p m
    covered root ok p m e = covered_from root ok p [] root m refl e (record {
      number = 0;
      first = r.first;
      state_is = r.state;
      status_is = r.status;
      has = r.has;
      is_there = r.at_root;
      is_seen = sym (ok.shown 0 r.first r.state r.status r.has) ∙ ap (λ z. seen (at z root)) r.at_root;
    })

    -- what is in one of the trees is seen in the other
    seen_too : (t u : Node S) → Agrees o rp states views t → Agrees o rp states views u → (p : List ℕ) (m : Node S) → at p t ≡ Some m → seen (Some m) ≡ seen (at p u)
    seen_too t u ok also p m e =
        let c = covered t ok p m e in
        sym c.is_seen ∙ (sym (also.shown c.number c.first c.state_is c.status_is c.has) ∙ ap (λ z. seen (at z u)) c.is_there)

    seen_same : (t u : Node S) → Agrees o rp states views t → Agrees o rp states views u → (p : List ℕ) → seen (at p t) ≡ seen (at p u)
    seen_same t u ok also p = on (at p t) (at p u) (seen_too t u ok also p) (seen_too u t also ok p)
      where
        on : (x y : Option (Node S)) → ((m : Node S) → x ≡ Some m → seen (Some m) ≡ seen y) → ((m : Node S) → y ≡ Some m → seen (Some m) ≡ seen x) → seen x ≡ seen y
        on (Some n) y f g = f n refl
        on None None f g = refl
        on None (Some n) f g = sym (g n refl)

pub one_tree : {S : Type 0} (o : Ops S) → OneTree o
one_tree o rp states views t u r ok also = same_tree t u (seen_same o rp states views r t u ok also)
