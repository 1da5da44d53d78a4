-- What a net keeps stays kept, whatever is done with it.
use Rattle.std.proofs.Common.{◌≡◌, ◌≤◌, ◌<◌, ◌+◌, ℕ, suc, Some, List, [], ◌∷◌, ◌++◌, length, ◌⊎◌, inl, inr, ltb, ltb-true, ltb-false, refl, sym, ap, subst, ◌∙◌, arith}
use Rattle.std.specs.Prelude.{slice_index_or, take, drop}
use Rattle.std.specs.List.{All, AllPairs, remove}
use Rattle.std.proofs.lemmas.List.{get_or_default}
use Rattle.std.proofs.lemmas.List.Elements.{All-append, All-push, All-take, All-drop}
use Rattle.std.proofs.lemmas.List.Edits.{length-remove, get_or-remove_below, get_or-remove_above}
use Rattle.std.proofs.lemmas.List.Sums.{sum_by-remove, sum_by-append}
use Rattle.std.proofs.lemmas.List.Quantifiers.{all_pairs_push, all_pairs_remove}
use Rattle.shim_local.specs.Process.{Ops}
use Rattle.shim_local.specs.Quiets.{QuietSteps}
use Rattle.shim_local.specs.Laws.{LocalLaws}
use Rattle.shim_semantics.specs.Trees.{Tree, Event, after, start, steps, IsQuiescent}
use Rattle.shim_semantics.specs.Quiets.{Advances, StandsQuiet}
use Rattle.shim_semantics.specs.Sound.{SharesItsOwn}
use Rattle.shim_semantics.specs.Laws.{IsSoundTree}
use Rattle.shim_semantics.proofs.Counting.{event_counts}
use Rattle.shim_base.proofs.Facts.{true_or_false, some_same}
use Rattle.shim_laws_replay.specs.Journals.{Entry, Quiet, Did, entry_after, replay, IsNonemptyEntry}
use Rattle.shim_laws_replay.specs.Grants.{IsNoQuietStep}
use Rattle.shim_laws_replay.specs.Ends.{HasEnded}
use Rattle.shim_laws_replay.specs.Nets.{Grant, reserved, IsOut, AreApart, NamesNoQuietStep, NetKeeps, NetsKeep}
use Rattle.shim_laws_replay.proofs.Runs.{starts_at_none, replay_none, replay_more, replay_sound}
use Rattle.shim_laws_replay.proofs.Entries.{out_stays_out, pieces_are_entries}

all_remove : {X : Type 0} (P : X → Type 0) (xs : List X) (i : ℕ) → All P xs → All P (remove xs i)
all_remove P xs i h = All-append P (take i xs) (drop (suc i) xs) (All-take P i xs h) (All-drop P (suc i) xs h)

same_tail : {X : Type 0} (x y : X) (xs ys : List X) → x ∷ xs ≡ y ∷ ys → xs ≡ ys
same_tail x y xs ys e = cc

event_of_did : (e f : Event) → Did e ≡ Did f → e ≡ f
event_of_did e f is = cc

none_there : {X : Type 0} (before behind : List X) (x : X) → [] ≡ before ++ x ∷ behind → ⊥
none_there [] behind x e = cc
none_there (b ∷ bs) behind x e = cc

-- a list with one element more, taken apart at an element: that is the last one, or it stands before that
last_or_before : {X : Type 0} (xs before behind : List X) (x y : X) → xs ++ y ∷ [] ≡ before ++ x ∷ behind
    → ((xs ≡ before) × (y ≡ x)) ⊎ ((rest : List X) × (xs ≡ before ++ x ∷ rest))
last_or_before [] [] behind x y e = inl (refl, cc)
last_or_before [] (b ∷ []) behind x y e = absurd (cc)
last_or_before [] (b ∷ c ∷ bs) behind x y e = absurd (cc)
last_or_before (a ∷ xs) [] behind x y e = inr (xs, cc)
last_or_before (a ∷ xs) (b ∷ bs) behind x y e =
    let t = same_tail a b (xs ++ y ∷ []) (bs ++ x ∷ behind) e in
    elim (last_or_before xs bs behind x y t) [
      | inl w ↦ inl (cc, w.1)
      | inr w ↦ inr (w.0, cc)
    ]

module _ {S : Type 0} (o : Ops S) where
  -- an entry more names no quiet step, if it names none where it comes
  names_more : (root : S) (js : List Entry) (j : Entry) (t : Tree S) → replay o root js ≡ Some t → NamesNoQuietStep o root js
      → ((e : Event) → j ≡ Did e → IsNoQuietStep o t e) → NamesNoQuietStep o root (js ++ j ∷ [])
  names_more root js j t h names own before behind e u is at p same =
      elim (last_or_before js before behind (Did e) j is) [
        | inl w ↦
            let one : t ≡ u = some_same t u (sym h ∙ ap (replay o root) w.0 ∙ at) in
            subst (λ z. StandsQuiet o z p → ⊥) one (own e w.1 p same)
        | inr w ↦ names before w.0 e u w.1 at p same
      ]

  begun : (root : S) (b : ℕ) → o.sound root → SharesItsOwn o root → NetKeeps o root b [] (start root) []
  begun root b sound own = record {
    sound = sound;
    own = own;
    replays = replay_none o root;
    nonempty = λ k d few. absurd (omega (arith, few));
    events_apart = λ before behind e t is. absurd (none_there before behind (Did e) is);
    fits = omega (arith, starts_at_none o root);
    out = λ k d few. absurd (omega (arith, few));
    apart = λ i j d less few. absurd (omega (arith, few));
  }

  -- of grants that are pairwise apart, those that remain are apart from the one that goes
  others_apart : (grants : List (Grant S)) (i : ℕ) (g : Grant S) → AllPairs (AreApart o) grants → i < length grants → g ≡ slice_index_or grants i g → All (λ h. AreApart o g h) (remove grants i)
  others_apart grants i g apart there is k d few = elim (true_or_false (ltb k i)) [
    | inl under ↦
        let less : k < i = ltb-true k i under in
        let e = get_or-remove_below grants i d k less there in
        let a = apart k i d less there in
        subst (λ z. AreApart o g z) (sym e) (λ p. subst (λ z. AreApart o (slice_index_or grants k d) z) (same d) a (sym p))
    | inr over ↦
        let more : i ≤ k = ltb-false k i over in
        let e = get_or-remove_above grants i d k more there in
        let a = apart i (k + 1) d (omega (arith, more)) (omega (arith, few, length-remove grants i there)) in
        subst (λ z. AreApart o g z) (sym e) (subst (λ z. AreApart o z (slice_index_or grants (k + 1) d)) (same d) a)
  ]
    where
      same : (d : Grant S) → slice_index_or grants i d ≡ g
      same d = get_or_default grants i d g there ∙ sym is

  -- one grant less reserves less
  less_reserved : (grants : List (Grant S)) (i : ℕ) (g : Grant S) → i < length grants → g ≡ slice_index_or grants i g → reserved (remove grants i) + g.most ≡ reserved grants
  less_reserved grants i g there is =
      let whole : reserved (remove grants i) + (slice_index_or grants i g).most ≡ reserved grants = sum_by-remove (λ (z : Grant S). z.most) grants i g there in
      let same : g.most ≡ (slice_index_or grants i g).most = ap (λ (z : Grant S). z.most) is in
      omega (arith, whole, same)

  taken_back : (root : S) (b : ℕ) (js : List Entry) (t : Tree S) (grants : List (Grant S)) (i : ℕ) (g : Grant S) → NetKeeps o root b js t grants → i < length grants → g ≡ slice_index_or grants i g → NetKeeps o root b js t (remove grants i)
  taken_back root b js t grants i g w there is = record {
    sound = w.sound;
    own = w.own;
    replays = w.replays;
    nonempty = w.nonempty;
    events_apart = w.events_apart;
    fits = omega (arith, w.fits, less_reserved grants i g there is);
    out = all_remove (IsOut o t) grants i w.out;
    apart = all_pairs_remove (AreApart o) grants i there w.apart;
  }

  granted : (root : S) (b : ℕ) (js : List Entry) (t : Tree S) (grants : List (Grant S)) (g : Grant S) → NetKeeps o root b js t grants → IsOut o t g → All (λ h. AreApart o h g) grants → steps t + reserved grants + g.most ≤ b → NetKeeps o root b js t (grants ++ g ∷ [])
  granted root b js t grants g w out apart room = record {
    sound = w.sound;
    own = w.own;
    replays = w.replays;
    nonempty = w.nonempty;
    events_apart = w.events_apart;
    fits = omega (arith, room, sum_by-append (λ (z : Grant S). z.most) grants (g ∷ []));
    out = All-push (IsOut o t) grants g w.out out;
    apart = all_pairs_push (AreApart o) grants g w.apart apart;
  }

  has_ended : (root : S) (b : ℕ) (js : List Entry) (t : Tree S) (grants : List (Grant S)) → NetKeeps o root b js t grants → IsQuiescent o t ⊎ ((steps t ≡ b) × (IsQuiescent o t → ⊥)) → HasEnded o b t
  has_ended root b js t grants w (inl q) = inl (omega (arith, w.fits), q)
  has_ended root b js t grants w (inr x) = inr x

  module _ (law : LocalLaws o) where
    tree_sound : (root : S) (b : ℕ) (js : List Entry) (t : Tree S) (grants : List (Grant S)) → NetKeeps o root b js t grants → IsSoundTree o t
    tree_sound root b js t grants w = replay_sound o law root js t w.sound w.own w.replays

    did : (root : S) (b : ℕ) (js : List Entry) (t u : Tree S) (grants : List (Grant S)) (e : Event) → NetKeeps o root b js t grants → after o e t ≡ Some u → IsNoQuietStep o t e → steps t + reserved grants < b → NetKeeps o root b (js ++ Did e ∷ []) u grants
    did root b js t u grants e w h none room =
        let sound = tree_sound root b js t grants w in
        record {
          sound = w.sound;
          own = w.own;
          replays = replay_more o root js (Did e) t u w.replays h;
          nonempty = All-push IsNonemptyEntry js (Did e) w.nonempty tt;
          events_apart = names_more root js (Did e) t w.replays w.events_apart (λ f is. subst (IsNoQuietStep o t) (event_of_did e f is) none);
          fits = omega (arith, event_counts o e t u h, room);
          out = λ k d few. let x = w.out k d few in record {
            grantable = (out_stays_out o law).events t u e (slice_index_or grants k d).start sound h none x.grantable;
            some = x.some;
          };
          apart = w.apart;
        }

    taken : (root : S) (b : ℕ) (js : List Entry) (t u : Tree S) (grants : List (Grant S)) (i : ℕ) (g : Grant S) (n : ℕ) (last : S) → NetKeeps o root b js t grants
        → i < length grants → g ≡ slice_index_or grants i g → QuietSteps o n g.start last → 1 ≤ n → n ≤ g.most → Advances o (o.path last) n t u
        → NetKeeps o root b (js ++ Quiet (o.path g.start) n ∷ []) u (remove grants i)
    taken root b js t u grants i g n last w there is ran some most advances =
        let sound = tree_sound root b js t grants w in
        let its : IsOut o t g = subst (IsOut o t) (sym is) (w.out i g there) in
        let pieces = pieces_are_entries o law in
        let comes = pieces.comes t n g.start last sound its.grantable ran in
        let whole = pieces.entry t u n last sound comes.0 advances in
        let entry : entry_after o (Quiet (o.path g.start) n) t ≡ Some u = subst (λ p. entry_after o (Quiet p n) t ≡ Some u) comes.1 whole.entry in
        let others = others_apart grants i g w.apart there is in
        record {
          sound = w.sound;
          own = w.own;
          replays = replay_more o root js (Quiet (o.path g.start) n) t u w.replays entry;
          nonempty = All-push IsNonemptyEntry js (Quiet (o.path g.start) n) w.nonempty some;
          events_apart = names_more root js (Quiet (o.path g.start) n) t w.replays w.events_apart (λ f is. absurd (cc));
          fits = omega (arith, w.fits, less_reserved grants i g there is, whole.counted, most);
          out = λ k d few.
              let x = all_remove (IsOut o t) grants i w.out k d few in
              record {
                grantable = (out_stays_out o law).entries t u (Quiet (o.path g.start) n) (slice_index_or (remove grants i) k d).start sound entry (others k d few) x.grantable;
                some = x.some;
              };
          apart = all_pairs_remove (AreApart o) grants i there w.apart;
        }

    pub nets_keep : NetsKeep o
    nets_keep = record {
      begun = begun;
      did = did;
      granted = granted;
      taken = taken;
      taken_back = taken_back;
      ended = has_ended;
    }
