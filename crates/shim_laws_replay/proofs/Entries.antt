-- Pieces of work as entries: what they make of the tree, and that they leave what else is out.
use Rattle.std.proofs.Common.{◌≡◌, ◌≢◌, ◌≤◌, ℕ, zero, suc, Bool, true, false, Option, Some, None, ◌&&◌, cond, length, refl, sym, ap, subst, ◌∙◌, arith}
use Rattle.std.specs.Prelude.{replicate}
use Rattle.shim_base.specs.Paths.{Path, same_path}
use Rattle.shim_local.specs.Process.{Ops, AtQuiet}
use Rattle.shim_local.specs.Quiets.{is_quiet, quiet_run, QuietSteps}
use Rattle.shim_local.specs.Pieces.{FewerWithCause}
use Rattle.shim_local.specs.Laws.{LocalLaws, by_quiet}
use Rattle.shim_local.proofs.Quiets.{first_quiet}
use Rattle.shim_semantics.specs.Nodes.{Node, Live, Forked, Ended, Dead, state}
use Rattle.shim_semantics.specs.Acts.{Acted, act_here}
use Rattle.shim_semantics.specs.Places.{StandsAt, at, route, led_to}
use Rattle.shim_semantics.specs.Trees.{Tree, Event, Own, Steps, own_action_of, own_action_at, same_own_action, after}
use Rattle.shim_semantics.specs.Quiets.{ComesBy, Advances}
use Rattle.shim_semantics.specs.Systems.{run, on_some}
use Rattle.shim_semantics.specs.Laws.{IsSoundTree}
use Rattle.shim_semantics.proofs.Alone.{doer}
use Rattle.shim_semantics.proofs.ReplacedNodes.{put}
use Rattle.shim_semantics.proofs.Replaced.{sound_at}
use Rattle.shim_semantics.proofs.SoundEvents.{events_keep_sound, runs_stay_sound}
use Rattle.shim_laws_schedules.proofs.EventParts.{root_path, split_event, join_event}
use Rattle.shim_laws_schedules.proofs.Lengths.{went_on}
use Rattle.shim_laws_schedules.proofs.DeadBelow.{at_put}
use Rattle.shim_base.proofs.Facts.{some_same, first_holds, second_holds, both_hold, chosen}
use Rattle.shim_base.proofs.SamePaths.{same_path_refl, same_path_is}
use Rattle.shim_laws_replay.specs.Journals.{Entry, Quiet, Did, is_before_quiet, quiet_step, quiet_steps, entry_after}
use Rattle.shim_laws_replay.specs.Grants.{IsGrantable, IsOfOthers, IsNoQuietStep, OutStaysOut}
use Rattle.shim_laws_replay.specs.Moves.{IsTakenIn, PiecesAreEntries}
use Rattle.shim_laws_replay.proofs.Runs.{run_counts, quiet_steps_run}
use Rattle.shim_laws_replay.proofs.Listed.{quiet_stop}
use Rattle.shim_laws_replay.proofs.Undisturbed.{led_by, quieted, steps_here, again, quiet_undisturbed}

as_many : {A : Type 0} (n : ℕ) (x : A) → length (replicate n x) ≡ n
as_many zero x = refl
as_many (suc n) x = let rest = as_many n x in omega (arith, rest)

module _ {S : Type 0} (o : Ops S) where
  -- a step that was granted was taken, where the process can take it and has memory for it
  takes_some : (first last : S) (used grant : ℕ) (short : Bool) → o.stop first ≡ AtQuiet → 1 ≤ grant → QuietSteps o used first last → FewerWithCause o used grant short last → short ≡ false → 1 ≤ used
  takes_some first last zero grant short stop some taken fewer is = absurd (fewer (omega (arith, some)) is (ap o.stop (sym (some_same first last taken)) ∙ stop))
  takes_some first last (suc n) grant short stop some taken fewer is = omega arith

  module _ (law : LocalLaws o) where
    -- quiet steps leave the path
    quiet_path : (n : ℕ) (l m : S) → o.sound l → QuietSteps o n l m → o.path m ≡ o.path l
    quiet_path zero l m sound taken = ap o.path (sym (some_same l m taken))
    quiet_path (suc n) l m sound taken =
        let first = first_quiet o n l m taken in
        let moved = by_quiet first.0 refl in
        quiet_path n (o.quiet l) m (law.moved_sound l (o.quiet l) sound moved) first.1 ∙ law.moved_path l (o.quiet l) sound moved

    state_there : (t : Tree S) (p : Path) (l : S) → IsSoundTree o t → led_to o t.root p ≡ Some (Live l) → o.sound l
    state_there t p l s there = let w = led_by t.root (route (o.path (state t.root)) p) (Live l) there in sound_at o w.branches t.root (Live l) s.below w.there

    -- where the process stood it stands in its next state, once it has done its quiet step
    moved_there : (t v : Tree S) (p : Path) (l : S) → IsSoundTree o t → led_to o t.root p ≡ Some (Live l) → o.stop l ≡ AtQuiet → after o (Own p) t ≡ Some v → led_to o v.root p ≡ Some (Live (o.quiet l))
    moved_there t v p l s there stop h =
        let x = split_event o (Own p) t v (λ z. cc) h in
        let w = led_by t.root (route (o.path (state t.root)) p) (Live l) there in
        let place : w.branches ≡ x.place = some_same w.branches x.place (sym w.is ∙ x.route_is) in
        let old : x.old ≡ Live l = some_same x.old (Live l) (sym x.there ∙ (ap (λ y. at y t.root) (sym place) ∙ w.there)) in
        let new : x.new ≡ quieted o l = some_same x.new (quieted o l) (sym x.here ∙ (ap (act_here o) old ∙ steps_here o l stop)) in
        let left : at x.place (put x.place x.new.node t.root) ≡ Some (Live (o.quiet l)) = at_put x.place t.root x.old x.new.node x.there ∙ ap (λ (a : Acted S). Some a.node) new in
        let root = root_path o law x.place t.root x.old x.new s.below x.there x.here in
        subst (λ (z : Tree S). led_to o z.root p ≡ Some (Live (o.quiet l))) x.is (again o t.root (put x.place x.new.node t.root) p x.place (Live (o.quiet l)) root x.route_is left)

    before_quiet : (t : Tree S) (p : Path) (l : S) → led_to o t.root p ≡ Some (Live l) → o.path l ≡ p → o.stop l ≡ AtQuiet → is_before_quiet o p (led_to o t.root p) ≡ true
    before_quiet t p l there is stop = ap (is_before_quiet o p) there ∙ ((λ i. same_path (is i) p && is_quiet (stop i)) ∙ ap (λ b. b && true) (same_path_refl p))

    -- so steps of its own that are quiet steps of its state are an entry, which leaves its last state there
    steps_entry : (n : ℕ) (l last : S) (p : Path) (t u : Tree S) → QuietSteps o n l last → IsSoundTree o t → led_to o t.root p ≡ Some (Live l) → o.path l ≡ p → run (after o) (replicate n (Own p)) t ≡ Some u
        → (quiet_steps o p n t ≡ Some u) × (led_to o u.root p ≡ Some (Live last))
    steps_entry zero l last p t u taken s there is e =
        (e, ap (λ (z : Tree S). led_to o z.root p) (sym (some_same t u e)) ∙ (there ∙ ap (λ z. Some (Live z)) (some_same l last taken)))
    steps_entry (suc n) l last p t u taken s there is e =
        let first = first_quiet o n l last taken in
        let x = went_on (run (after o) (replicate n (Own p))) (after o (Own p) t) u e in
        let one : quiet_step o p t ≡ Some x.0 = ap (λ b. cond b (after o (Own p) t) None) (before_quiet t p l there is first.0) ∙ x.1 in
        let path = law.moved_path l (o.quiet l) (state_there t p l s there) (by_quiet first.0 refl) in
        let rest = steps_entry n (o.quiet l) last p x.0 u first.1 ((events_keep_sound o law).kept t s (Own p) x.0 x.1) (moved_there t x.0 p l s there first.0 x.1) (path ∙ is) x.2 in
        (ap (on_some (quiet_steps o p n)) one ∙ rest.0, rest.1)

    -- they can be done
    can_step : (t : Tree S) (p : Path) (l : S) → led_to o t.root p ≡ Some (Live l) → o.path l ≡ p → o.stop l ≡ AtQuiet → (u : Tree S) × (after o (Own p) t ≡ Some u)
    can_step t p l there is stop =
        let w = led_by t.root (route (o.path (state t.root)) p) (Live l) there in
        let its = both_hold (same_path (o.path l) p) (same_own_action Steps (own_action_of o (Live l))) (ap (λ z. same_path z p) is ∙ same_path_refl p) (ap (λ s. same_own_action Steps (own_action_at s)) stop) in
        (_, join_event o (Own p) t w.branches (Live l) (quieted o l) (λ z. cc) w.is w.there its (steps_here o l stop))

    steps_lead : (n : ℕ) (l last : S) (p : Path) (t : Tree S) → QuietSteps o n l last → IsSoundTree o t → led_to o t.root p ≡ Some (Live l) → o.path l ≡ p → (u : Tree S) × (run (after o) (replicate n (Own p)) t ≡ Some u)
    steps_lead zero l last p t taken s there is = (t, refl)
    steps_lead (suc n) l last p t taken s there is =
        let first = first_quiet o n l last taken in
        let v = can_step t p l there is first.0 in
        let path = law.moved_path l (o.quiet l) (state_there t p l s there) (by_quiet first.0 refl) in
        let rest = steps_lead n (o.quiet l) last p v.0 first.1 ((events_keep_sound o law).kept t s (Own p) v.0 v.1) (moved_there t v.0 p l s there first.0 v.1) (path ∙ is) in
        (rest.0, ap (on_some (run (after o) (replicate n (Own p)))) v.1 ∙ rest.1)

    -- the other way: what such an entry does are quiet steps of the state that stands there
    quiet_first : (n : ℕ) (l last : S) → is_quiet (o.stop l) ≡ true → QuietSteps o n (o.quiet l) last → QuietSteps o (suc n) l last
    quiet_first n l last test rest = ap (λ b. cond b (quiet_run o n (o.quiet l)) None) test ∙ rest

    before_live : (p : Path) (x : Option (Node S)) → is_before_quiet o p x ≡ true → (l : S) × (x ≡ Some (Live l)) × (o.path l ≡ p) × (o.stop l ≡ AtQuiet)
    before_live p None e = absurd cc
    before_live p (Some (Live l)) e = (l, refl, same_path_is (o.path l) p (first_holds (same_path (o.path l) p) (is_quiet (o.stop l)) e), quiet_stop o l (second_holds (same_path (o.path l) p) (is_quiet (o.stop l)) e))
    before_live p (Some (Forked l ks)) e = absurd cc
    before_live p (Some (Ended l)) e = absurd cc
    before_live p (Some (Dead l x)) e = absurd cc

    steps_taken_by : (n : ℕ) (l : S) (p : Path) (t u : Tree S) → IsSoundTree o t → led_to o t.root p ≡ Some (Live l) → o.path l ≡ p → quiet_steps o p n t ≡ Some u → (last : S) × QuietSteps o n l last
    steps_taken_by zero l p t u s there is e = (l, refl)
    steps_taken_by (suc n) l p t u s there is e =
        let x = went_on (quiet_steps o p n) (quiet_step o p t) u e in
        let c = chosen (is_before_quiet o p (led_to o t.root p)) (after o (Own p) t) x.0 x.1 in
        let test = second_holds (same_path (o.path l) p) (is_quiet (o.stop l)) (ap (is_before_quiet o p) (sym there) ∙ c.0) in
        let stop = quiet_stop o l test in
        let path = law.moved_path l (o.quiet l) (state_there t p l s there) (by_quiet stop refl) in
        let rest = steps_taken_by n (o.quiet l) p x.0 u ((events_keep_sound o law).kept t s (Own p) x.0 c.1) (moved_there t x.0 p l s there stop c.1) (path ∙ is) x.2 in
        (rest.0, quiet_first n l rest.0 test rest.1)

    piece_comes : (t : Tree S) (n : ℕ) (first last : S) → IsSoundTree o t → IsGrantable o t first → QuietSteps o n first last → ComesBy o t n last × (o.path last ≡ o.path first)
    piece_comes t n first last s g taken =
        let same = quiet_path n first last (state_there t (o.path first) first s g.in_tree.there) taken in
        (record { start = first; in_tree = subst (λ p. StandsAt o t.root p (Live first)) (sym same) g.in_tree; steps = taken }, same)

    piece_entry : (t u : Tree S) (n : ℕ) (last : S) → IsSoundTree o t → ComesBy o t n last → Advances o (o.path last) n t u → IsTakenIn o t u n last
    piece_entry t u n last s comes e =
        let w = steps_entry n comes.start last (o.path last) t u comes.steps s comes.in_tree.there comes.in_tree.is_its e in
        let many = run_counts o (replicate n (Own (o.path last))) t u e in
        record {
          entry = w.0;
          sound = runs_stay_sound o law t u (replicate n (Own (o.path last))) s e;
          counted = omega (arith, many, as_many n (Own (o.path last)));
          in_tree = record { there = w.1; is_its = refl };
        }

    piece_leads : (t : Tree S) (n : ℕ) (last : S) → IsSoundTree o t → ComesBy o t n last → (u : Tree S) × Advances o (o.path last) n t u
    piece_leads t n last s comes = steps_lead n comes.start last (o.path last) t comes.steps s comes.in_tree.there comes.in_tree.is_its

    entry_piece : (t u : Tree S) (p : Path) (n : ℕ) → IsSoundTree o t → 1 ≤ n → entry_after o (Quiet p n) t ≡ Some u
        → (first : S) × (last : S) × IsGrantable o t first × (o.path first ≡ p) × QuietSteps o n first last × IsTakenIn o t u n last
    entry_piece t u p zero s some e = absurd (omega (arith, some))
    entry_piece t u p (suc n) s some e =
        let x = went_on (quiet_steps o p n) (quiet_step o p t) u e in
        let c = chosen (is_before_quiet o p (led_to o t.root p)) (after o (Own p) t) x.0 x.1 in
        let w = before_live p (led_to o t.root p) c.0 in
        let taken = steps_taken_by (suc n) w.0 p t u s w.1 w.2 e in
        let grantable : IsGrantable o t w.0 = record { in_tree = record { there = ap (led_to o t.root) w.2 ∙ w.1; is_its = refl }; stop = w.3 } in
        let comes = piece_comes t (suc n) w.0 taken.0 s grantable taken.1 in
        let advances : Advances o (o.path taken.0) (suc n) t u = ap (λ q. run (after o) (replicate (suc n) (Own q)) t) (comes.1 ∙ w.2) ∙ quiet_steps_run o p (suc n) t u e in
        (w.0, taken.0, grantable, w.2, taken.1, piece_entry t u (suc n) taken.0 s comes.0 advances)

    pub pieces_are_entries : PiecesAreEntries o
    pieces_are_entries = record {
      comes = piece_comes;
      leads = piece_leads;
      entry = piece_entry;
      piece = entry_piece;
      some = takes_some;
    }

    -- ---- the others

    own_of_another : (p q : Path) → p ≢ q → Own p ≢ Own q
    own_of_another p q n e = n (ap doer e)

    others_stand : (n : ℕ) (p : Path) (t u : Tree S) (l : S) → IsSoundTree o t → p ≢ o.path l → run (after o) (replicate n (Own p)) t ≡ Some u → IsGrantable o t l → IsGrantable o u l
    others_stand zero p t u l s other e g = subst (λ (z : Tree S). IsGrantable o z l) (some_same t u e) g
    others_stand (suc n) p t u l s other e g =
        let x = went_on (run (after o) (replicate n (Own p))) (after o (Own p) t) u e in
        others_stand n p x.0 u l ((events_keep_sound o law).kept t s (Own p) x.0 x.1) other x.2
        (quiet_undisturbed o law t x.0 (Own p) l s x.1 (own_of_another p (o.path l) other) g)

    past_event : (t u : Tree S) (e : Event) (l : S) → IsSoundTree o t → after o e t ≡ Some u → IsNoQuietStep o t e → IsGrantable o t l → IsGrantable o u l
    past_event t u e l s h none g = quiet_undisturbed o law t u e l s h (λ is. none (o.path l) is (l, g.in_tree, g.stop)) g

    past_entry : (t u : Tree S) (j : Entry) (l : S) → IsSoundTree o t → entry_after o j t ≡ Some u → IsOfOthers (o.path l) j → IsGrantable o t l → IsGrantable o u l
    past_entry t u (Quiet p n) l s h other g = others_stand n p t u l s other (quiet_steps_run o p n t u h) g
    past_entry t u (Did e) l s h other g = quiet_undisturbed o law t u e l s h other g

    pub out_stays_out : OutStaysOut o
    out_stays_out = record { events = past_event; entries = past_entry }
