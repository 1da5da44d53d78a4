-- Tied trees that are sound do the same, event by event and along each run.
use Rattle.std.proofs.Common.{◌≡◌, ℕ, zero, suc, Option, Some, None, List, [], ◌∷◌, refl, ap, ◌∙◌, subst}
use Rattle.shim_local.specs.Process.{Ops}
use Rattle.shim_local.specs.Laws.{LocalLaws}
use Rattle.shim_semantics.specs.Trees.{Tree, Event, after, start}
use Rattle.shim_semantics.specs.Systems.{on_some, run}
use Rattle.shim_semantics.specs.Sound.{SharesItsOwn}
use Rattle.shim_semantics.specs.Walks.{head, first_event, or_stay, after_first, meaning}
use Rattle.shim_semantics.proofs.SoundEvents.{events_keep_sound, went_on}
use Rattle.shim_base.proofs.Facts.{some_same}
use Rattle.shim_laws_tied.specs.Ties.{KeepsTied}
use Rattle.shim_laws_tied.specs.TiedTrees.{TreesTied}
use Rattle.shim_laws_tied.specs.Laws.{SoundAndTied, SameEnabled, SameWalks, StayTied, SameEnded, SameRuns, SameMeanings}
use Rattle.shim_laws_tied.proofs.Both.{BothOrNone, both_there, other_there, there_alike}
use Rattle.shim_laws_tied.proofs.SoundTies.{Tied, sound_tied}
use Rattle.shim_laws_tied.proofs.WalksAlike.{walk_alike}
use Rattle.shim_laws_tied.proofs.EventsTied.{event_tied}
use Rattle.shim_laws_tied.proofs.EndsAlike.{ends_alike}

event_and_run : {E T : Type 0} (step : E → T → Option T) (e : E) (es : List E) (t u v : T) → step e t ≡ Some u → run step es u ≡ Some v → run step (e ∷ es) t ≡ Some v
event_and_run step e es t u v here rest = ap (on_some (run step es)) here ∙ rest

module _ {A B : Type 0} (o : Ops A) (p : Ops B) (R : A → B → Type 0) (keeps : KeepsTied o p R) where
  roots_tied : (t : Tree A) (u : Tree B) → SoundAndTied o p R t u → Tied o p R t.root u.root
  roots_tied t u h = sound_tied o p R t.root u.root h.one.below h.other.below h.tied.root

  pub same_walks : SameWalks o p R
  same_walks t u h = walk_alike o p R keeps t.root u.root (roots_tied t u h)

  pub same_ended : SameEnded o p R
  same_ended t u h = ends_alike o p R keeps t u h.tied (roots_tied t u h)

  module _ (one : LocalLaws o) (other : LocalLaws p) where
    behind_event : (e : Event) (t : Tree A) (u : Tree B) → SoundAndTied o p R t u → BothOrNone (TreesTied R) (after o e t) (after p e u)
    behind_event e t u h = event_tied o p R keeps one other e t u h.tied (roots_tied t u h)

    pub same_enabled : SameEnabled o p R
    same_enabled t u e h = there_alike (TreesTied R) (after o e t) (after p e u) (behind_event e t u h)

    pub stay_tied : StayTied o p R
    stay_tied t a u b e h x y = record {
      one = (events_keep_sound o one).kept t h.one e a x;
      other = (events_keep_sound p other).kept u h.other e b y;
      tied = both_there (TreesTied R) (after o e t) (after p e u) a b (behind_event e t u h) x y;
    }

    pub same_runs : SameRuns o p R
    same_runs t a u [] h x = (u, refl, subst (λ z. SoundAndTied o p R z u) (some_same t a x) h)
    same_runs t a u (e ∷ es) h x =
        let there = went_on (run (after o) es) (after o e t) a x in
        let too = other_there (TreesTied R) (after o e t) (after p e u) there.0 (behind_event e t u h) there.1 in
        let rest = same_runs there.0 a too.0 es (stay_tied t there.0 u too.0 e h there.1 too.1) there.2 in
        (rest.0, event_and_run (after p) e es u too.0 rest.0 too.1 rest.1, rest.2)

    stay_or_go : (t : Tree A) (u : Tree B) (e : Event) → SoundAndTied o p R t u → (x : Option (Tree A)) (y : Option (Tree B)) → after o e t ≡ x → after p e u ≡ y → BothOrNone (TreesTied R) x y
        → SoundAndTied o p R (or_stay t x) (or_stay u y)
    stay_or_go t u e h (Some a) (Some b) x y g = stay_tied t a u b e h x y
    stay_or_go t u e h None None x y g = h
    stay_or_go t u e h (Some a) None x y g = absurd g
    stay_or_go t u e h None (Some b) x y g = absurd g

    behind_first : (t : Tree A) (u : Tree B) → SoundAndTied o p R t u → (x : Option Event) → SoundAndTied o p R (after_first o t x) (after_first p u x)
    behind_first t u h None = h
    behind_first t u h (Some e) = stay_or_go t u e h (after o e t) (after p e u) refl refl (behind_event e t u h)

    one_first : (t : Tree A) (u : Tree B) → SoundAndTied o p R t u → SoundAndTied o p R (after_first o t (first_event o t)) (after_first p u (first_event p u))
    one_first t u h = subst (λ x. SoundAndTied o p R (after_first o t (first_event o t)) (after_first p u x)) (ap head (same_walks t u h)) (behind_first t u h (first_event o t))

    meanings_tied : (b : ℕ) (t : Tree A) (u : Tree B) → SoundAndTied o p R t u → SoundAndTied o p R (meaning o b t) (meaning p b u)
    unfolding meaning
    meanings_tied zero t u h = h
    meanings_tied (suc b) t u h = meanings_tied b (after_first o t (first_event o t)) (after_first p u (first_event p u)) (one_first t u h)

    pub same_meanings : SameMeanings o p R
    same_meanings l m b s r h own =
        let others : SharesItsOwn p m = λ c shared. own c (keeps.shares l m c (s, r, h) ∙ shared) ∙ keeps.path l m (s, r, h) in
        let starts : SoundAndTied o p R (start l) (start m) = record {
          one = (events_keep_sound o one).starts l s own;
          other = (events_keep_sound p other).starts m r others;
          tied = record { root = h; output = refl; histories = refl; logs = refl; counts = refl; events = refl };
        } in
        let ends = meanings_tied b (start l) (start m) starts in
        (ends, same_ended (meaning o b (start l)) (meaning p b (start m)) ends)
