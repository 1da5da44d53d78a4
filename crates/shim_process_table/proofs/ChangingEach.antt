-- Processes that receive or die one after the other keep their numbers and their paths.
use Rattle.std.proofs.Common.{◌≡◌, inl, inr, ℕ, zero, suc, ℤ, Some, List, [], ◌∷◌, slice_set, refl, sym, ap, subst, ◌∙◌}
use Rattle.std.specs.Prelude.{slice_get}
use Rattle.shim_base.specs.Paths.{Path, Channel}
use Rattle.shim_base.proofs.Facts.{some_same, none_some}
use Rattle.shim_local.specs.Process.{Ops}
use Rattle.shim_local.specs.Laws.{LocalLaws, by_receive, by_call}
use Rattle.shim_semantics.specs.Nodes.{Node, death}
use Rattle.shim_semantics.proofs.Replaced.{sound_at, state_sound}
use Rattle.shim_laws_table.specs.NodeStatus.{ProcessStatus, lives, dies, place}
use Rattle.shim_laws_table.specs.Agrees.{used}
use Rattle.shim_laws_table.proofs.SameTrees.{same_or_not}
use Rattle.shim_records.specs.Members.{IsAmong}
use Rattle.shim_records.proofs.ReadOff.{same_views}
use Rattle.shim_records.proofs.Stepping.{set_there, set_elsewhere}
use Rattle.shim_laws_table_events.specs.keeping.Tables.{TableView, HasProcessState, TableInvariant, views}
use Rattle.shim_laws_table_events.specs.meetings.Meetings.{ReceivesOne, not_at_channel, received, ReceiveAll, none_left, one_more}
use Rattle.shim_laws_table_events.specs.meetings.Poisons.{DiesOne, survived, was_killed, AllDie, none_left as none_die, one_more as one_dies}
use Rattle.shim_laws_table_events.proofs.meetings.Among.{among_later}
use Rattle.shim_laws_table_events.proofs.meetings.AtHome.{node_at}
use Rattle.shim_laws_table_events.proofs.meetings.Dies.{views_now}
use Rattle.shim_laws_table_events.proofs.meetings.Meets.{one_keeps}
use Rattle.shim_laws_table_events.proofs.meetings.Receives.{moves_on_rest}
use Rattle.shim_process_table.specs.Stepping.{HasBecome}
use Rattle.shim_process_table.specs.Changing.{IsChanged, ChangesEach}

module _ {S : Type 0} (o : Ops S) where
  -- nothing has changed
  pub none_changed : (numbers : List ℕ) (before behind : TableView S) → behind ≡ before → IsChanged o numbers before behind
  none_changed numbers before behind e = record {
    still = λ i f s k h. (f, s, k, subst (λ z. HasProcessState z i f s k) (sym e) h, refl);
    only = λ i g t h w. (g, t, h, subst (λ z. HasProcessState z i g t h) e w, refl);
    living = λ i f l h. inr (subst (λ z. HasProcessState z i f l lives) e h);
  }

  -- one process has become this, with its path
  pub one_changed : (x f : ℕ) (l s : S) (h k : ProcessStatus) (before behind : TableView S) → HasProcessState before x f l h → HasBecome x s k before behind → o.path s ≡ o.path l → IsChanged o (x ∷ []) before behind
  one_changed x f l s h k before behind had become path = record {
    still = λ i g t z w. elim (same_or_not i x) [
      | inr far ↦ (g, t, z, become.others i g t z far w, refl)
      | inl e ↦ (become.first, s, k, subst (λ n. HasProcessState behind n become.first s k) (sym e) become.mine, path ∙ ap o.path (its before.states x l t (subst (λ n. slice_get before.states n ≡ Some t) e w.state_is) had.state_is))
    ];
    only = λ i g t z w. elim (same_or_not i x) [
      | inr far ↦ (g, t, z, become.only i g t z far w, refl)
      | inl e ↦ (f, l, h, subst (λ n. HasProcessState before n f l h) (sym e) had, ap o.path (its behind.states x t s become.mine.state_is (subst (λ n. slice_get behind.states n ≡ Some t) e w.state_is)) ∙ path)
    ];
    living = λ i g t w. elim (same_or_not i x) [
      | inr far ↦ inr (become.only i g t lives far w)
      | inl e ↦ inl (0, ap Some (sym e))
    ];
  }
    where
      its : (xs : List S) (n : ℕ) (a b : S) → slice_get xs n ≡ Some b → slice_get xs n ≡ Some a → a ≡ b
      its xs n a b e f = some_same a b (sym f ∙ e)

  -- first some, and then others
  pub changed_on : (x : ℕ) (xs : List ℕ) (a b d : TableView S) → IsChanged o (x ∷ []) a b → IsChanged o xs b d → IsChanged o (x ∷ xs) a d
  changed_on x xs a b d one more = record {
    still = λ i f s k h. let w = one.still i f s k h in let y = more.still i w.0 w.1 w.2 w.3 in (y.0, y.1, y.2, y.3, y.4 ∙ w.4);
    only = λ i g t h w. let y = more.only i g t h w in let z = one.only i y.0 y.1 y.2 y.3 in (z.0, z.1, z.2, z.3, y.4 ∙ z.4);
    living = λ i f l h. elim (more.living i f l h) [
      | inl g ↦ inl (among_later i x xs g)
      | inr was ↦ elim (one.living i f l was) [ inl g ↦ inl (the_first i g) | inr w ↦ inr w ]
    ];
  }
    where
      the_first : (i : ℕ) → IsAmong i (x ∷ []) → IsAmong i (x ∷ xs)
      the_first i (zero, e) = (0, e)
      the_first i (suc n, e) = none_some i e

  -- ---- one receives

  module _ (law : LocalLaws o) (c : Channel) (v : ℤ) where
    receives_changed : (i : ℕ) (before behind : TableView S) → ReceivesOne o c v i before behind → (rp : Path) (root : Node S) → TableInvariant o rp before root → IsChanged o (i ∷ []) before behind
    receives_changed i before behind (not_at_channel none same) rp root kept = none_changed (i ∷ []) before behind same
    receives_changed i before behind (received f l d has stop is states moves) rp root kept = one_changed i f l s lives lives before behind has become (law.moved_path l s sound (by_call (by_receive d v stop refl)))
      where
        s : S
        s = o.receive l v

        sound : o.sound l
        sound =
            let n = node_at o rp before.states (views before) root kept.represents i f l lives has in
            subst (λ z. o.sound z) n.2 (state_sound o n.0 (sound_at o (place o rp l) root n.0 kept.represents.sound.below n.1))

        stay : views behind ≡ views before
        stay = same_views before.records behind.records (moves_on_rest moves)

        become : HasBecome i s lives before behind
        become = record {
          first = f;
          mine = record { state_is = ap (λ z. slice_get z i) states ∙ set_there before.states i l s has.state_is; view_is = ap (λ z. slice_get z i) stay ∙ has.view_is };
          others = λ j g t x far h. record { state_is = ap (λ z. slice_get z j) states ∙ (set_elsewhere before.states i j s far ∙ h.state_is); view_is = ap (λ z. slice_get z j) stay ∙ h.view_is };
          only = λ j g t x far h. record { state_is = sym (ap (λ z. slice_get z j) states ∙ set_elsewhere before.states i j s far) ∙ h.state_is; view_is = sym (ap (λ z. slice_get z j) stay) ∙ h.view_is };
        }

    pub all_receive_changed : (numbers : List ℕ) (before behind : TableView S) → ReceiveAll o c v numbers before behind → ChangesEach o numbers before behind
    all_receive_changed numbers before behind (none_left w) rp root kept = none_changed [] w w refl
    all_receive_changed numbers before behind (one_more i js first between last one more) rp root kept =
        let next = one_keeps o law c v rp i first between root one kept in
        changed_on i js first between last (receives_changed i first between one rp root kept) (all_receive_changed js between last more rp next.0 next.1)

  -- ---- one dies

  module _ (label : ℕ) where
    dies_changed : (i : ℕ) (before behind : TableView S) → DiesOne o label i before behind → IsChanged o (i ∷ []) before behind
    dies_changed i before behind (survived none same) = none_changed (i ∷ []) before behind same
    dies_changed i before behind (was_killed f l has less states down) = one_changed i f l l lives dead before behind has become refl
      where
        dead : ProcessStatus
        dead = dies (death label)

        now : views behind ≡ slice_set (views before) i (used f dead)
        now = views_now o before.states before.records behind.records i f label l has down

        become : HasBecome i l dead before behind
        become = record {
          first = f;
          mine = record { state_is = ap (λ z. slice_get z i) states ∙ has.state_is; view_is = ap (λ z. slice_get z i) now ∙ set_there (views before) i (used f lives) (used f dead) has.view_is };
          others = λ j g t x far h. record { state_is = ap (λ z. slice_get z j) states ∙ h.state_is; view_is = ap (λ z. slice_get z j) now ∙ (set_elsewhere (views before) i j (used f dead) far ∙ h.view_is) };
          only = λ j g t x far h. record { state_is = sym (ap (λ z. slice_get z j) states) ∙ h.state_is; view_is = sym (ap (λ z. slice_get z j) now ∙ set_elsewhere (views before) i j (used f dead) far) ∙ h.view_is };
        }

    pub all_die_changed : (numbers : List ℕ) (before behind : TableView S) → AllDie o label numbers before behind → IsChanged o numbers before behind
    all_die_changed numbers before behind (none_die w) = none_changed [] w w refl
    all_die_changed numbers before behind (one_dies i js first between last one more) = changed_on i js first between last (dies_changed i first between one) (all_die_changed js between last more)
