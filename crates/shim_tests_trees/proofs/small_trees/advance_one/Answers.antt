use Rattle.std.proofs.Common.{◌≡◌, ◌+◌, ℕ, zero, suc, Bool, true, false, Option, Some, None, List, [], ◌∷◌, inl, inr, cond, refl, sym, ap, subst, ◌∙◌, arith}
use Rattle.std.specs.Prelude.{slice_get, replicate}
use Rattle.std.specs.Option.{option_copied}
use Rattle.shim_local.specs.Process.{Ops}
use Rattle.shim_local.specs.Laws.{LocalLaws, by_quiet}
use Rattle.shim_local.specs.Quiets.{is_quiet, QuietSteps}
use Rattle.shim_local.proofs.Quiets.{first_quiet}
use Rattle.shim_base.specs.Lists.{IsAmong}
use Rattle.shim_semantics.specs.Nodes.{Node, Nodes, Live, Forked, Ended, Dead, no_node, node_and}
use Rattle.shim_semantics.specs.Places.{at, child_at, at_route, SoundBelow, SoundChildren}
use Rattle.shim_semantics.specs.Quiets.{quiets, all_quiets, ComesBy}
use Rattle.shim_semantics.specs.Systems.{run, on_some}
use Rattle.shim_semantics.specs.Trees.{Tree, Event, Own, after, steps}
use Rattle.shim_semantics.proofs.Counting.{event_counts}
use Rattle.shim_semantics.proofs.Members.{among_either}
use Rattle.shim_semantics.proofs.Routes.{route_of}
use Rattle.shim_tests_trees.proofs.small_trees.advance_one.Goals as goal
use Rattle.shim_base.proofs.Facts.{some_same, none_some}

-- what has a number in a list is among it
got_among : {A : Type 0} (xs : List A) (i : ℕ) (x : A) → slice_get xs i ≡ Some x → IsAmong x xs
got_among [] i x e = none_some x e
got_among (y ∷ ys) zero x e = inl (sym (some_same y x e))
got_among (y ∷ ys) (suc i) x e = inr (got_among ys i x e)

among_one : {A : Type 0} (b : Bool) (x y : A) → IsAmong x (cond b (y ∷ []) []) → x ≡ y
among_one true x y (inl h) = h
among_one true x y (inr h) = absurd h
among_one false x y h = absurd h

module _ {S : Type 0} (o : Ops S) where
  mutual
    -- a process that stands before a quiet step stands live at some branches, and is sound
    stands : (n : Node S) (l : S) → SoundBelow o n → IsAmong l (quiets o n) → (q : List ℕ) × (at q n ≡ Some (Live l)) × o.sound l
    stands (Live k) l s h =
        let same = among_one (is_quiet (o.stop k)) l k h in
        ([], ap (λ z. Some (Live z)) (sym same), subst o.sound (sym same) s)
    stands (Ended k) l s h = absurd h
    stands (Dead k x) l s h = absurd h
    stands (Forked k ks) l s h =
        let w = stands_among k s.number 0 ks l s.children h in
        (w.0 ∷ w.1, w.2, w.3)

    stands_among : (p : S) (f j : ℕ) (ks : Nodes S) (l : S) → SoundChildren o p f j ks → IsAmong l (all_quiets o ks) → (i : ℕ) × (q : List ℕ) × (child_at i q ks ≡ Some (Live l)) × o.sound l
    stands_among p f j no_node l s h = absurd h
    stands_among p f j (node_and k ks) l s h = elim (among_either l (quiets o k) (all_quiets o ks) h) [
      | inl z ↦ let w = stands k l s.1 z in (zero, w.0, w.1, w.2)
      | inr z ↦ let w = stands_among p f (j + 1) ks l s.2 z in (suc w.0, w.1, w.2, w.3)
    ]

  -- quiet steps leave the path
  quiet_path : LocalLaws o → (n : ℕ) (l m : S) → o.sound l → QuietSteps o n l m → o.path m ≡ o.path l
  quiet_path laws zero l m sound taken = ap o.path (sym (some_same l m taken))
  quiet_path laws (suc n) l m sound taken =
      let first = first_quiet o n l m taken in
      let moved = by_quiet first.0 refl in
      quiet_path laws n (o.quiet l) m (laws.moved_sound l (o.quiet l) sound moved) first.1 ∙ laws.moved_path l (o.quiet l) sound moved

  -- the process that has a number among those before a quiet step comes to what quiet steps make of it
  comes_by : LocalLaws o → (t : Tree S) (i n : ℕ) (l last : S) → SoundBelow o t.root → slice_get (quiets o t.root) i ≡ Some l → QuietSteps o n l last → ComesBy o t n last
  comes_by laws t i n l last sound got quiet =
      let w = stands t.root l sound (got_among (quiets o t.root) i l got) in
      let same : o.path l ≡ o.path last = sym (quiet_path laws n l last w.2 quiet) in record {
        start = l;
        in_tree = record { there = ap (at_route t.root) (route_of o t.root (Live l) w.0 (o.path last) sound w.1 same) ∙ w.1; is_its = same };
        steps = quiet;
      }

  -- one event, and others after it that count as many steps as they are
  one_counts : (e : Event) (n : ℕ) (t u : Tree S) (a : Option (Tree S)) → after o e t ≡ a → ((b : Tree S) → run (after o) (replicate n e) b ≡ Some u → steps u ≡ steps b + n)
      → on_some (run (after o) (replicate n e)) a ≡ Some u → steps u ≡ steps t + suc n
  one_counts e n t u None is rest h = none_some u h
  one_counts e n t u (Some b) is rest h = omega (arith, event_counts o e t b is, rest b h)

  -- so many events count so many steps
  events_count : (e : Event) (n : ℕ) (t u : Tree S) → run (after o) (replicate n e) t ≡ Some u → steps u ≡ steps t + n
  events_count e zero t u h = ap steps (sym (some_same t u h)) ∙ omega arith
  events_count e (suc n) t u h = one_counts e n t u (after o e t) refl (λ b. events_count e n b u) h

pub advance-requires-clause-comes : goal.advance-requires-clause-comes
advance-requires-clause-comes g c κs within =
    let o = g.L.Local.ops in
    let laws = (g.met.L.Local g.world.𝓛 g.world.𝓜 g.world.𝓡 ((λ s x. x), (λ x. x), (λ x. x), λ x. x)).laws in
    let taken = c.quiet-quiet.result.taken in
    let last = c.quiet-quiet.new.self in
    comes_by o laws c.args.tree.now c.args.at taken c.in-Some.process.now last
    c.quiescent-rests.ensures.sound.below
    (sym c.at_quiet.ensures ∙ ap option_copied c.in-Some.is)
    (subst (λ z. QuietSteps o taken z last) c.in_ok-last-in-Some.ensures c.quiet-quiet.ensures.steps)

pub returns : goal.returns
returns g c =
    let o = g.L.Local.ops in
    let counted = events_count o (Own (o.path c.quiet-quiet.new.self)) c.quiet-quiet.result.taken c.args.tree.now c.advance.new.self c.advance.ensures in
    omega (arith, counted, c.requires.fresh)
