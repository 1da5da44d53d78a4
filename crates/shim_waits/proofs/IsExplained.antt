-- What is explained is an explanation.
use Rattle.std.proofs.Common.{◌≡◌, ℕ, suc, Bool, true, false, List, [], ◌∷◌, inl, inr, if◌then◌else◌, map, refl, sym, ap, subst, ◌∙◌}
use Rattle.shim_base.specs.Paths.{Path, same_path}
use Rattle.shim_base.proofs.Facts.{some_same, true_or_false}
use Rattle.shim_base.proofs.SamePaths.{same_path_refl, same_path_is}
use Rattle.shim_local.specs.Process.{Ops}
use Rattle.shim_local.specs.Laws.{LocalLaws, AllOf, how_many}
use Rattle.shim_base.specs.Lists.{IsAmong}
use Rattle.shim_semantics.specs.Trees.{Tree}
use Rattle.shim_semantics.proofs.Members.{among_map}
use Rattle.shim_waits.specs.Cycles.{IsCycle, cycle_of}
use Rattle.shim_waits.specs.Holding.{lives}
use Rattle.shim_waits.specs.Holds.{IsRing, IsExplanation}
use Rattle.shim_waits.specs.Laws.{PathsAscend, IsBlockedTree}
use Rattle.shim_waits.specs.Waits.{wait_of_process, waits, explained, IsWait}
use Rattle.shim_waits.specs.declared.explained.Wait.{Wait}
use Rattle.shim_waits.proofs.Blocked.{waits_of_all, the_cycle}
use Rattle.shim_waits.proofs.Following.{no_less_itself}
use Rattle.shim_waits.proofs.HeldUp.{held_up, each}
use Rattle.shim_waits.proofs.Ordered.{in_order, of_behind}

chosen_more : (b : Bool) (n m : ℕ) → b ≡ true → n ≡ m → (if b then suc n else n) ≡ suc m
chosen_more true n m e h = ap suc h
chosen_more false n m e h = absurd cc

chosen_same : (b : Bool) (n m : ℕ) → b ≡ false → n ≡ m → (if b then suc n else n) ≡ m
chosen_same true n m e h = absurd cc
chosen_same false n m e h = h

none_of : (p : Path) (ps : List Path) → (IsAmong p ps → ⊥) → how_many (λ q. same_path q p) ps ≡ 0
none_of p [] f = refl
none_of p (q ∷ ps) f = elim (true_or_false (same_path q p)) [
  | inl y ↦ absurd (f (inl (sym (same_path_is q p y))))
  | inr n ↦ chosen_same (same_path q p) _ 0 n (none_of p ps (λ i. f (inr i)))
]

once_of : (p : Path) (ps : List Path) → PathsAscend ps → IsAmong p ps → how_many (λ q. same_path q p) ps ≡ 1
once_of p [] o i = absurd i
once_of p (q ∷ ps) o (inl h) = chosen_more (same_path q p) _ 0 (ap (λ z. same_path z p) (sym h) ∙ same_path_refl p) (none_of p ps (λ j. no_less_itself q p (of_behind q ps p o.0 j) (sym h)))
once_of p (q ∷ ps) o (inr h) = elim (true_or_false (same_path q p)) [
  | inl y ↦ absurd (no_less_itself q p (of_behind q ps p o.0 h) (same_path_is q p y))
  | inr n ↦ chosen_same (same_path q p) _ 1 n (once_of p ps o.1 h)
]

of_paths : (p : Path) (ws : List Wait) → how_many (λ w. same_path w.path p) ws ≡ how_many (λ q. same_path q p) (map (λ w. w.path) ws)
of_paths p [] = refl
of_paths p (w ∷ ws) = ap (λ n. if same_path w.path p then suc n else n) (of_paths p ws)

all_of : {A : Type 0} (P : A → Type 0) (xs : List A) → ((x : A) → IsAmong x xs → P x) → AllOf P xs
all_of P [] f = tt
all_of P (x ∷ xs) f = (f x (inl refl), all_of P xs (λ y i. f y (inr i)))

is_ring : (ws : List Wait) (cycle : List Path) → IsCycle ws cycle → IsRing ws cycle
is_ring ws cycle x = subst (IsRing ws) (sym x.is) x.leads

module _ {S : Type 0} (o : Ops S) where
  pub explanation : LocalLaws o → (t : Tree S) → IsBlockedTree o t → IsExplanation o t.root (explained o t.root)
  explanation law t b = record {
    once = λ l i.
        of_paths (o.path l) (waits o t.root)
        ∙ (ap (how_many (λ q. same_path q (o.path l))) (each o law t b)
        ∙ once_of (o.path l) (map o.path (lives t.root)) (in_order o t.root b.sound.below) (among_map o.path l (lives t.root) i));
    each = all_of (IsWait o t.root) (waits o t.root) (λ w i.
        let of = waits_of_all (wait_of_process o t.root) (lives t.root) w i in
        let h = held_up o law t of.0 b of.1 in
        subst (IsWait o t.root) (some_same h.wait w (sym h.is ∙ of.2)) h.waits);
    ring = is_ring (waits o t.root) (cycle_of (waits o t.root)) (the_cycle o law t b);
  }
