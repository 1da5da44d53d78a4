-- All schedules that come to an end within one budget end alike, and the meaning is one of them.
use Rattle.std.proofs.Common.{◌≡◌, ◌≤◌, ℕ, zero, suc, Option, Some, None, List, [], ◌∷◌, ◌++◌, length, ◌⊎◌, inl, inr, refl, sym, ap, subst, ◌∙◌, arith}
use Rattle.std.proofs.lemmas.List.{length-append}
use Rattle.shim_local.specs.Process.{Ops}
use Rattle.shim_local.specs.Laws.{LocalLaws}
use Rattle.shim_semantics.specs.Trees.{Tree, Event, after, start, steps, IsQuiescent}
use Rattle.shim_semantics.specs.Systems.{run, on_some}
use Rattle.shim_semantics.specs.Walks.{first_event, after_first, or_stay, meaning}
use Rattle.shim_semantics.specs.Endings.{ended}
use Rattle.shim_semantics.specs.Laws.{IsSoundTree}
use Rattle.shim_semantics.proofs.SoundEvents.{events_keep_sound}
use Rattle.shim_semantics.proofs.Enabled.{first_enabled, none_first}
use Rattle.shim_laws_schedules.specs.Orders.{IsAtRest, HasOneLength}
use Rattle.shim_laws_schedules.proofs.EveryPair.{events_commute}
use Rattle.shim_laws_schedules.proofs.Orders.{runs_agree}
use Rattle.shim_laws_schedules.proofs.Rounds.{run_on, run_one}
use Rattle.shim_laws_replay.specs.Journals.{Entry, replay, all_events}
use Rattle.shim_laws_replay.specs.Ends.{HasEnded, EndAlike, JournalsAgree, JournalsMean}
use Rattle.shim_laws_replay.proofs.Runs.{run_counts, journals_are_runs}

-- ---- events of any kind, where all runs to an end are as long

module _ {E T : Type 0} (step : E → T → Option T) (sound : T → Type 0) (agree : HasOneLength step sound) where
  -- beside a run to an end, each run that has as many events has ended
  no_further : (t u w : T) (es fs : List E) → sound t → run step es t ≡ Some u → IsAtRest step u → run step fs t ≡ Some w → length es ≤ length fs → IsAtRest step w
  no_further t u w es fs s r rests q long e = by_case (step e w) refl
    where
      by_case : (x : Option T) → step e w ≡ x → step e w ≡ None
      by_case None is = is
      by_case (Some v) is =
          let more = (agree t u es s r rests v (fs ++ e ∷ []) (run_on step fs (e ∷ []) t w v q (run_one step e w v is))).0 in
          absurd (omega (arith, more, long, length-append fs (e ∷ [])))

  -- so within one budget: where the first run ended, and the second ended or used the budget up, the second ended
  rests_too : (b : ℕ) (t u w : T) (es fs : List E) → sound t → run step es t ≡ Some u → length es ≤ b → IsAtRest step u → run step fs t ≡ Some w → IsAtRest step w ⊎ (length fs ≡ b) → IsAtRest step w
  rests_too b t u w es fs s r few rests q (inl there) = there
  rests_too b t u w es fs s r few rests q (inr full) = no_further t u w es fs s r rests q (omega (arith, few, full))

  -- both ends are then the same state
  same_end : (t u w : T) (es fs : List E) → sound t → run step es t ≡ Some u → IsAtRest step u → run step fs t ≡ Some w → IsAtRest step w → w ≡ u
  same_end t u w es fs s r rests q there = ((agree t u es s r rests w fs q).1 there).1

-- ---- of trees

-- a run within the budget leads to the second tree, and uses the budget up unless nothing can happen there
pub record EndsWithin {S : Type 0} (o : Ops S) (b : ℕ) (t u : Tree S) : Type 0 where
  pub events : List Event
  pub leads : run (after o) events t ≡ Some u
  pub few : length events ≤ b
  pub ends : IsQuiescent o u ⊎ (length events ≡ b)

module _ {S : Type 0} (o : Ops S) where
  -- ---- the first events of the walk

  stays : (b : ℕ) (t : Tree S) → first_event o t ≡ None → meaning o b t ≡ t
  unfolding meaning
  stays zero t none = refl
  stays (suc b) t none = ap (λ e. meaning o b (after_first o t e)) none ∙ stays b t none

  module _ (law : LocalLaws o) (b : ℕ) (rest : (v : Tree S) → IsSoundTree o v → EndsWithin o b v (meaning o b v)) where
    by_event : (t : Tree S) (e : Event) (x : Option (Tree S)) → IsSoundTree o t → first_event o t ≡ Some e → after o e t ≡ x → EndsWithin o (suc b) t (meaning o b (or_stay t x))
    by_event t e None s is h = absurd (first_enabled o t e s.below (sym is) h)
    by_event t e (Some v) s is h =
        let w = rest v ((events_keep_sound o law).kept t s e v h) in
        record {
          events = e ∷ w.events;
          leads = ap (on_some (run (after o) w.events)) h ∙ w.leads;
          few = omega (arith, w.few);
          ends = elim w.ends [ inl q ↦ inl q | inr q ↦ inr (omega (arith, q)) ];
        }

    by_first : (t : Tree S) (f : Option Event) → IsSoundTree o t → first_event o t ≡ f → EndsWithin o (suc b) t (meaning o b (after_first o t f))
    by_first t None s is =
        let same = stays b t is in
        record {
          events = [];
          leads = ap Some (sym same);
          few = omega arith;
          ends = inl (subst (IsQuiescent o) (sym same) (none_first o t (sym is)));
        }
    by_first t (Some e) s is = by_event t e (after o e t) s is refl

  pub meaning_ends : LocalLaws o → (b : ℕ) (t : Tree S) → IsSoundTree o t → EndsWithin o b t (meaning o b t)
  unfolding meaning
  meaning_ends law zero t s = record { events = []; leads = refl; few = omega arith; ends = inr refl }
  meaning_ends law (suc b) t s = by_first law b (meaning_ends law b) t (first_event o t) s refl

  -- ---- the events of a journal

  pub journal_ends : (root : S) (b : ℕ) (js : List Entry) (t : Tree S) → replay o root js ≡ Some t → HasEnded o b t → EndsWithin o b (start root) t
  journal_ends root b js t e end =
      let w = journals_are_runs o root js t e in
      record {
        events = all_events js;
        leads = w.leads;
        few = elim end [ inl x ↦ omega (arith, w.counted, x.0) | inr x ↦ omega (arith, w.counted, x.0) ];
        ends = elim end [ inl x ↦ inl x.1 | inr x ↦ inr (w.counted ∙ x.0) ];
      }

  -- ---- two that end within one budget end alike

  module _ (law : LocalLaws o) (b : ℕ) (t u w : Tree S) (s : IsSoundTree o t) (x : EndsWithin o b t u) (y : EndsWithin o b t w) where
    agree : HasOneLength (after o) (IsSoundTree o)
    agree = runs_agree o law (events_commute o law)

    to : IsQuiescent o u → IsQuiescent o w
    to q = rests_too (after o) (IsSoundTree o) agree b t u w x.events y.events s x.leads x.few q y.leads y.ends

    from : IsQuiescent o w → IsQuiescent o u
    from q = rests_too (after o) (IsSoundTree o) agree b t w u y.events x.events s y.leads y.few q x.leads x.ends

    one : IsQuiescent o w → u ≡ w
    one q = same_end (after o) (IsSoundTree o) agree t w u y.events x.events s y.leads q x.leads (from q)

    both_full : length x.events ≡ b → length y.events ≡ b → steps u ≡ steps w
    both_full m n =
        let first_counts = run_counts o x.events t u x.leads in
        let second_counts = run_counts o y.events t w y.leads in
        omega (arith, m, n, first_counts, second_counts)

    long : IsQuiescent o u ⊎ (length x.events ≡ b) → IsQuiescent o w ⊎ (length y.events ≡ b) → steps u ≡ steps w
    long (inl q) h = ap steps (one (to q))
    long (inr m) (inl q) = ap steps (one q)
    long (inr m) (inr n) = both_full m n

    pub end_alike : EndAlike o u w
    end_alike = record {
      rests = (to, from);
      same = one;
      read_alike = λ q. ap (ended o) (one q);
      as_long = long x.ends y.ends;
    }

    -- where the second can go on, the first has all events of the budget
    pub full : (IsQuiescent o w → ⊥) → length x.events ≡ b
    full n = elim x.ends [ inl q ↦ absurd (n (to q)) | inr m ↦ m ]

  pub journals_agree : LocalLaws o → JournalsAgree o
  journals_agree law root b js ks t u sound own first_leads first_end second_leads second_end =
      end_alike law b (start root) t u ((events_keep_sound o law).starts root sound own) (journal_ends root b js t first_leads first_end) (journal_ends root b ks u second_leads second_end)

  pub journals_mean : LocalLaws o → JournalsMean o
  journals_mean law root b journal t sound own leads end =
      let s = (events_keep_sound o law).starts root sound own in
      let x = journal_ends root b journal t leads end in
      let y = meaning_ends law b (start root) s in
      let w = journals_are_runs o root journal t leads in
      record {
        alike = end_alike law b (start root) t (meaning o b (start root)) s x y;
        reached = (all_events journal, w.leads, w.counted);
        spent = λ n. (x.events, x.leads, full law b (start root) t (meaning o b (start root)) s x y n);
      }
