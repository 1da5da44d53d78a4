-- What a net's type keeps stays kept, whatever is done with it.
use Rattle.std.proofs.Common.{◌≡◌, ◌≢◌, ◌≤◌, ◌<◌, ◌+◌, ◌-◌, ℕ, suc, Some, List, [], ◌∷◌, ◌++◌, length, refl, sym, ap, subst, ◌∙◌, arith}
use Rattle.std.specs.Prelude.{slice_index_or, map, take, drop}
use Rattle.std.specs.List.{All, AllPairs, remove}
use Rattle.std.proofs.lemmas.List.{get_or_default, get_or_push, get_or-map, append-nil, length_push, map-append, map_push, take-map, drop-map, length-map}
use Rattle.std.proofs.lemmas.List.Edits.{remove-append_right}
use Rattle.std.proofs.lemmas.List.Elements.{All-map}
use Rattle.std.proofs.lemmas.List.Quantifiers.{all_pairs_push, all_pairs_remove}
use Rattle.std.proofs.lemmas.List.Sums.{sum_by-remove, sum_by_push}
use Rattle.shim_local.specs.Process.{Ops}
use Rattle.shim_local.specs.Quiets.{QuietSteps}
use Rattle.shim_local.specs.Laws.{LocalLaws}
use Rattle.shim_semantics.specs.Trees.{Tree, Event, after, steps}
use Rattle.shim_semantics.specs.Quiets.{Advances}
use Rattle.shim_semantics.specs.Sound.{SharesItsOwn}
use Rattle.shim_semantics.specs.Laws.{IsSoundTree}
use Rattle.shim_laws_replay.specs.Journals.{Entry, Quiet, Did}
use Rattle.shim_laws_replay.specs.Grants.{IsGrantable, IsNoQuietStep}
use Rattle.shim_laws_replay.specs.Nets.{Grant, NetKeeps, IsOut, AreApart, reserved}
use Rattle.shim_laws_replay.proofs.Keeping.{nets_keep}
use Rattle.shim_laws_replay.proofs.Runs.{replay_sound}
use Rattle.shim_net.specs.Nets.{OpenGrant, NetView, IsNet, IsOpen, HaveOtherNumbers, HaveOtherPids, granted, reserved_in, started}

pub map-remove : {X Y : Type 0} (f : X → Y) (xs : List X) (i : ℕ) → map f (remove xs i) ≡ remove (map f xs) i
map-remove f xs i = map-append f (take i xs) (drop (suc i) xs) ∙ (λ j. sym (take-map f i xs) j ++ sym (drop-map f (suc i) xs) j)

-- whoever has numbers that no open grant has differs from each
others_differ : {S : Type 0} (grants : List (OpenGrant S)) (g : OpenGrant S) → (IsOpen g.slot g.round grants → ⊥) → (k : ℕ) (d : OpenGrant S) → k < length grants → HaveOtherNumbers (slice_index_or grants k d) g
others_differ grants g fresh k d few slot round = let h = slice_index_or grants k d in fresh (k, h, few, get_or_default grants k h d few, (slot, round))

module _ {S : Type 0} (o : Ops S) (law : LocalLaws o) where
  pub begun : (root : S) (b : ℕ) → o.sound root → o.path root ≡ [] → SharesItsOwn o root → 1 ≤ b → b ≤ 4000000 → IsNet o (started root b)
  begun root b sound path own has_budget most = record {
    has_budget = has_budget;
    most = most;
    at_root = path;
    keeps = (nets_keep o law).begun root b sound own;
    numbers = λ i j d less few. absurd (omega (arith, few));
    pids = λ i j d less few. absurd (omega (arith, few));
  }

  pub tree_sound : (n : NetView S) → IsNet o n → IsSoundTree o n.tree
  tree_sound n w = replay_sound o law n.root n.journal n.tree w.keeps.sound w.keeps.own w.keeps.replays

  pub happened : (n : NetView S) (u : Tree S) (e : Event) → IsNet o n → after o e n.tree ≡ Some u → IsNoQuietStep o n.tree e → steps n.tree + reserved_in n.grants < n.budget
      → (js : List Entry) → js ≡ n.journal ++ Did e ∷ [] → IsNet o (record { root = n.root; budget = n.budget; tree = u; journal = js; grants = n.grants })
  happened n u e w h other room js more = record {
    has_budget = w.has_budget;
    most = w.most;
    at_root = w.at_root;
    keeps = subst (λ z. NetKeeps o n.root n.budget z u (map granted n.grants)) (sym more) ((nets_keep o law).did n.root n.budget n.journal n.tree u (map granted n.grants) e w.keeps h other room);
    numbers = w.numbers;
    pids = w.pids;
  }

  pub given : (n : NetView S) (g : OpenGrant S) → IsNet o n → IsGrantable o n.tree g.start → 1 ≤ g.most → All (λ h. o.path h.start ≢ o.path g.start) n.grants → (IsOpen g.slot g.round n.grants → ⊥) → All (λ h. h.pid ≢ g.pid) n.grants
      → steps n.tree + reserved_in n.grants + g.most ≤ n.budget → (gs : List (OpenGrant S)) → gs ≡ n.grants ++ g ∷ [] → IsNet o (record { root = n.root; budget = n.budget; tree = n.tree; journal = n.journal; grants = gs })
  given n g w grantable some free fresh other room gs more = record {
    has_budget = w.has_budget;
    most = w.most;
    at_root = w.at_root;
    keeps = subst (NetKeeps o n.root n.budget n.journal n.tree) (sym (ap (map granted) more ∙ map_push granted n.grants g))
        ((nets_keep o law).granted n.root n.budget n.journal n.tree (map granted n.grants) (granted g) w.keeps
        (record { grantable = grantable; some = some }) (All-map (λ h. AreApart o h (granted g)) granted n.grants free) room);
    numbers = subst (AllPairs HaveOtherNumbers) (sym more) (all_pairs_push HaveOtherNumbers n.grants g w.numbers (others_differ n.grants g fresh));
    pids = subst (AllPairs HaveOtherPids) (sym more) (all_pairs_push HaveOtherPids n.grants g w.pids other);
  }

  -- a process at home does quiet steps: they are granted and taken in at once
  module _ (n : NetView S) (w : IsNet o n) (l last : S) (used : ℕ) (grantable : IsGrantable o n.tree l) (free : All (λ h. o.path h.start ≢ o.path l) n.grants) (some : 1 ≤ used) (room : steps n.tree + reserved_in n.grants + used ≤ n.budget)
      (ran : QuietSteps o used l last) (u : Tree S) (advances : Advances o (o.path last) used n.tree u) where
    abbrev one : Grant S
    one = record { start = l; most = used }

    abbrev more : List (Grant S)
    more = map granted n.grants ++ one ∷ []

    abbrev count : ℕ
    count = length (map granted n.grants)

    out : NetKeeps o n.root n.budget n.journal n.tree more
    out = (nets_keep o law).granted n.root n.budget n.journal n.tree (map granted n.grants) one w.keeps
        (record { grantable = grantable; some = some }) (All-map (λ h. AreApart o h one) granted n.grants free) room

    taken_out : remove more count ≡ map granted n.grants
    taken_out =
        let none : count - count ≡ 0 = omega arith in
        remove-append_right (map granted n.grants) (one ∷ []) count count refl (omega arith) ∙ (ap (λ z. map granted n.grants ++ remove (one ∷ []) z) none ∙ append-nil (map granted n.grants))

    in_again : NetKeeps o n.root n.budget (n.journal ++ Quiet (o.path l) used ∷ []) u (map granted n.grants)
    in_again = subst (NetKeeps o n.root n.budget (n.journal ++ Quiet (o.path l) used ∷ []) u) taken_out
        ((nets_keep o law).taken n.root n.budget n.journal n.tree u more count one used last out (let long = length_push (map granted n.grants) one in omega (arith, long)) (sym (get_or_push (map granted n.grants) one one count refl)) ran some (omega arith) advances)

    pub stepped : (js : List Entry) → js ≡ n.journal ++ Quiet (o.path l) used ∷ [] → IsNet o (record { root = n.root; budget = n.budget; tree = u; journal = js; grants = n.grants })
    stepped js more = record {
      has_budget = w.has_budget;
      most = w.most;
      at_root = w.at_root;
      keeps = subst (λ z. NetKeeps o n.root n.budget z u (map granted n.grants)) (sym more) in_again;
      numbers = w.numbers;
      pids = w.pids;
    }

  -- one grant more reserves more
  pub more_reserved : (reserves : ℕ) (grants gs : List (OpenGrant S)) (g : OpenGrant S) → reserves ≡ reserved_in grants → gs ≡ grants ++ g ∷ [] → reserves + g.most ≡ reserved_in gs
  more_reserved reserves grants gs g e more =
      let both : reserved_in gs ≡ reserved (map granted grants ++ granted g ∷ []) = ap reserved_in more ∙ ap reserved (map_push granted grants g) in
      let sums : reserved (map granted grants ++ granted g ∷ []) ≡ reserved_in grants + g.most = sum_by_push (λ (z : Grant S). z.most) (map granted grants) (granted g) in
      omega (arith, e, both, sums)

  -- a grant that is open, in its place
  module _ (n : NetView S) (w : IsNet o n) (i : ℕ) (g : OpenGrant S) (there : i < length n.grants) (its : g ≡ slice_index_or n.grants i g) where
    here : i < length (map granted n.grants)
    here = subst (λ z. i < z) (sym (length-map n.grants granted)) there

    seen : granted g ≡ slice_index_or (map granted n.grants) i (granted g)
    seen = ap granted its ∙ sym (get_or-map granted n.grants i g (granted g) there)

    pub is_out : IsOut o n.tree (granted g)
    is_out = subst (IsOut o n.tree) (sym seen) (w.keeps.out i (granted g) here)

    -- the others
    module _ (gs : List (OpenGrant S)) (less : gs ≡ remove n.grants i) where
      left : remove (map granted n.grants) i ≡ map granted gs
      left = sym (ap (map granted) less ∙ map-remove granted n.grants i)

      pub less_reserved : reserved_in gs + g.most ≡ reserved_in n.grants
      less_reserved =
          let whole : reserved (remove (map granted n.grants) i) + (slice_index_or (map granted n.grants) i (granted g)).most ≡ reserved_in n.grants = sum_by-remove (λ (z : Grant S). z.most) (map granted n.grants) i (granted g) here in
          let same : g.most ≡ (slice_index_or (map granted n.grants) i (granted g)).most = ap (λ (z : Grant S). z.most) seen in
          let rest : reserved (remove (map granted n.grants) i) ≡ reserved_in gs = ap reserved left in
          omega (arith, whole, same, rest)

      numbers : AllPairs HaveOtherNumbers gs
      numbers = subst (AllPairs HaveOtherNumbers) (sym less) (all_pairs_remove HaveOtherNumbers n.grants i there w.numbers)

      pids : AllPairs HaveOtherPids gs
      pids = subst (AllPairs HaveOtherPids) (sym less) (all_pairs_remove HaveOtherPids n.grants i there w.pids)

      pub taken : (used : ℕ) (last : S) (u : Tree S) → QuietSteps o used g.start last → 1 ≤ used → used ≤ g.most → Advances o (o.path last) used n.tree u
          → (js : List Entry) → js ≡ n.journal ++ Quiet (o.path g.start) used ∷ [] → IsNet o (record { root = n.root; budget = n.budget; tree = u; journal = js; grants = gs })
      taken used last u ran some most advances js more = record {
        has_budget = w.has_budget;
        most = w.most;
        at_root = w.at_root;
        keeps = subst (λ z. NetKeeps o n.root n.budget z u (map granted gs)) (sym more) (subst (NetKeeps o n.root n.budget (n.journal ++ Quiet (o.path g.start) used ∷ []) u) left
            ((nets_keep o law).taken n.root n.budget n.journal n.tree u (map granted n.grants) i (granted g) used last w.keeps here seen ran some most advances));
        numbers = numbers;
        pids = pids;
      }

      pub taken_back : IsNet o (record { root = n.root; budget = n.budget; tree = n.tree; journal = n.journal; grants = gs })
      taken_back = record {
        has_budget = w.has_budget;
        most = w.most;
        at_root = w.at_root;
        keeps = subst (NetKeeps o n.root n.budget n.journal n.tree) left ((nets_keep o law).taken_back n.root n.budget n.journal n.tree (map granted n.grants) i (granted g) w.keeps here seen);
        numbers = numbers;
        pids = pids;
      }
