-- Quiet steps that were done in place are the entry of a journal.
use Rattle.std.proofs.Common.{◌≡◌, ◌↔◌, ◌≤◌, ◌<◌, ◌+◌, ℕ, zero, suc, true, false, Option, Some, None, List, length, drop, refl, sym, ap, subst, ◌∙◌, arith}
use Rattle.std.specs.Prelude.{◌^◌, is_some}
use Rattle.std.specs.Borrow.{Bor}
use Rattle.std.specs.Option.{option_copied}
use Rattle.std.specs.FinMap.{FinMap}
use Rattle.shim_base.specs.Paths.{Path, path_order}
use Rattle.shim_local.specs.Process.{Ops, AtQuiet}
use Rattle.shim_local.specs.Laws.{LocalLaws, by_quiet}
use Rattle.shim_local.specs.Quiets.{QuietSteps}
use Rattle.shim_local.specs.declared.local.Quiet.{Quiet}
use Rattle.shim_local.proofs.Quiets.{first_quiet}
use Rattle.shim_semantics.specs.Nodes.{Node, Live, state}
use Rattle.shim_semantics.specs.Places.{StandsAt, at, branches, route}
use Rattle.shim_semantics.specs.Trees.{Tree, steps, count_of}
use Rattle.shim_semantics.specs.Quiets.{ComesBy}
use Rattle.shim_semantics.specs.Sound.{IsSound}
use Rattle.shim_semantics.proofs.Leading.{route_rest}
use Rattle.shim_semantics.proofs.Replaced.{sound_at}
use Rattle.shim_semantics.proofs.SoundEvents.{runs_stay_sound}
use Rattle.shim_laws_replay.specs.Journals.{quiet_steps}
use Rattle.shim_laws_replay.proofs.Entries.{pieces_are_entries}
use Rattle.shim_tree.specs.Advancing.{AllHaveCounts}
use Rattle.shim_run_log.specs.Reserved.{stepped, HasCount, more_steps}
use Rattle.shim_semantics.specs.Advancing.{with_state_at}
use Rattle.shim_tree.specs.Stepping.{DidQuietSteps, QuietAt, DoesQuietSteps}
use Rattle.shim_semantics.proofs.Advances.{moved_on}
use Rattle.shim_tree.proofs.AtOnce.{at_its_place, within_bounds, advances_from, stays_whole}
use Rattle.shim_tree.proofs.PathProcesses.{stands_behind}
use Rattle.shim_base.proofs.Facts.{some_same, none_some}

-- whether there is one
pub none_copied : {S : Type 0} (x : Option (Bor S)) → is_some x ≡ false → option_copied x ≡ None
none_copied None e = refl
none_copied (Some l) e = absurd cc

pub some_copied : {S : Type 0} (x : Option (Bor S)) → is_some x ≡ true → (l : S) × (option_copied x ≡ Some l)
some_copied None e = absurd cc
some_copied (Some l) e = (l.now, refl)

module _ {S : Type 0} (o : Ops S) where
  -- where more steps could be done, the process stands before a quiet one after fewer
  stands_between : (n m : ℕ) (l a b : S) → n < m → QuietSteps o n l a → QuietSteps o m l b → o.stop a ≡ AtQuiet
  stands_between n zero l a b h few many = absurd (omega (arith, h))
  stands_between zero (suc m) l a b h few many = ap o.stop (sym (some_same l a few)) ∙ (first_quiet o m l b many).0
  stands_between (suc n) (suc m) l a b h few many = stands_between n m (o.quiet l) a b (omega (arith, h)) (first_quiet o n l a few).1 (first_quiet o m l b many).1

  module _ (laws : LocalLaws o) where
    same_path_behind : (n : ℕ) (l m : S) → o.sound l → QuietSteps o n l m → o.path m ≡ o.path l
    same_path_behind zero l m sound taken = ap o.path (sym (some_same l m taken))
    same_path_behind (suc n) l m sound taken =
        let first = first_quiet o n l m taken in
        let moved = by_quiet first.0 refl in
        same_path_behind n (o.quiet l) m (laws.moved_sound l (o.quiet l) sound moved) first.1 ∙ laws.moved_path l (o.quiet l) sound moved

    -- where nobody of the path lives, no step of it can be done
    pub nobody_steps : (u : Tree S) (p : Path) (n : ℕ) → IsSound o u.root → 1 ≤ n → ((l : S) → (None ≡ Some l) ↔ StandsAt o u.root p (Live l)) → quiet_steps o p n u ≡ None
    nobody_steps u p n sound some none = by_entry (quiet_steps o p n u) refl
      where
        by_entry : (x : Option (Tree S)) → quiet_steps o p n u ≡ x → x ≡ None
        by_entry None e = refl
        by_entry (Some v) e =
            let w = (pieces_are_entries o laws).piece u v p n sound some e in
            none_some w.0 ((none w.0).1 (subst (λ z. StandsAt o u.root z (Live w.0)) w.3 w.2.in_tree))

    -- t is the tree that the code's parts mean, where m are the counts with their places
    module _ (t : Tree S) (m : FinMap path_order ℕ) (counts : t.counts ≡ stepped m) (u : Tree S) (e : t ≡ u) (p : Path) (first : S) (in_tree : StandsAt o u.root p (Live first)) (sound : IsSound o t.root)
        (most : ℕ) (few : steps u + most ≤ 4000000) (placed : AllHaveCounts o m t.root) (left : Path) (rest : left ≡ drop (length (o.path (state t.root))) p) (r : Quiet) (new : Node S)
        (quiet : QuietAt o (branches left) most r t.root new) where
      here : StandsAt o t.root p (Live first)
      here = subst (λ (z : Tree S). StandsAt o z.root p (Live first)) (sym e) in_tree

      sound_of : IsSound o u.root
      sound_of = subst (λ (z : Tree S). IsSound o z.root) e sound

      found : at (branches left) t.root ≡ Some (Live first)
      found = ap (λ z. at (branches z) t.root) rest ∙ (stands_behind o t.root p first here).1

      went : DidQuietSteps o (branches left) most r first t.root new
      went = quiet first found

      same : o.path went.last ≡ p
      same = same_path_behind r.taken first went.last (sound_at o (branches left) t.root (Live first) sound.below found) went.steps ∙ in_tree.is_its

      comes : ComesBy o u r.taken went.last
      comes = record { start = first; in_tree = subst (λ z. StandsAt o u.root z (Live first)) (sym same) in_tree; steps = went.steps }

      put : (q : List ℕ) → route (o.path (state t.root)) (o.path went.last) ≡ Some q → new ≡ with_state_at went.last q t.root
      put q i =
          went.put
          ∙ ap (λ z. with_state_at went.last z t.root) (ap branches rest ∙ sym (route_rest (o.path (state t.root)) p q (ap (route (o.path (state t.root))) (sym same) ∙ i)).1)

      pub has_place : HasCount m p
      has_place = at_its_place o t m counts r.taken went.last u e comes placed p (sym same)

      pub fits : count_of m p + r.taken < 2 ^ 64
      fits = within_bounds o t m counts r.taken went.last u e (let w = went.within in omega (arith, w, few)) p

      module _ (more : FinMap path_order ℕ) (grown : more ≡ more_steps m p r.taken) where
        pub stays : IsSound o new × AllHaveCounts o more new
        stays = stays_whole o t m counts r.taken went.last new put p (sym same) more grown laws sound (runs_stay_sound o laws) u e comes placed

        abbrev after_them : Tree S
        after_them = moved_on t new (stepped more)

        leads : quiet_steps o p r.taken u ≡ Some after_them
        leads = subst (λ z. quiet_steps o z r.taken u ≡ Some after_them) same
            ((pieces_are_entries o laws).entry u after_them r.taken went.last sound_of comes (advances_from o t m counts r.taken went.last new put p (sym same) more grown laws sound u e comes)).entry

        stops : r.taken < most → r.short ≡ false → quiet_steps o p most u ≡ None
        stops h short = by_entry (quiet_steps o p most u) refl
          where
            by_entry : (x : Option (Tree S)) → quiet_steps o p most u ≡ x → x ≡ None
            by_entry None i = refl
            by_entry (Some v) i =
                let w = (pieces_are_entries o laws).piece u v p most sound_of (omega (arith, h)) i in
                let other = subst (λ z. StandsAt o u.root z (Live w.0)) w.3 w.2.in_tree in
                let it : w.0 ≡ first = ap state (some_same (Live w.0) (Live first) (sym other.there ∙ in_tree.there)) in
                absurd (went.fewer h short (stands_between r.taken most first went.last w.1 h went.steps (subst (λ z. QuietSteps o most z w.1) it w.4)))

        pub goes : DoesQuietSteps o p most r u (moved_on t new (stepped more))
        goes = record { within = went.within; leads = leads; stops = stops }
