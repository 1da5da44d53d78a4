-- Where a node is ready on a channel some live process stands at it; so the node that declared the channel lists the rendezvous just where it is ready.
use Rattle.std.proofs.Common.{◌≡◌, Bool, true, false, [], ◌∷◌, ◌&&◌, ◌||◌, inl, inr, not, cond, map, filter, refl, sym, ap, subst, ◌∙◌}
use Rattle.shim_base.specs.Paths.{Path, Channel, same_path, same_channel}
use Rattle.shim_local.specs.Process.{Ops, StopView, AtQuiet, AtNext, AtPut, AtFork, AtFinish, AtThrow, AtTrap}
use Rattle.shim_semantics.specs.Nodes.{Node, Nodes, Live, Forked, Ended, Dead, no_node, node_and, state, goes, is_dead, all_done, next_channel, is_next, any_sharer, ready, all_ready}
use Rattle.shim_base.specs.Lists.{IsAmong}
use Rattle.shim_semantics.specs.Trees.{Meet, Poison, Close}
use Rattle.shim_semantics.specs.Walks.{as_list, waited, all_waited, in_order, own_events, meets_here, here}
use Rattle.shim_semantics.proofs.Alone.{among_close}
use Rattle.shim_semantics.proofs.Members.{among_left, among_right, among_either, among_map, among_mapped, among_filter, among_filtered, among_order, among_ordered}
use Rattle.shim_base.proofs.Facts.{first_holds, second_holds, both_hold, either_holds}
use Rattle.shim_base.proofs.SamePaths.{same_channel_is, same_channel_refl}

next_waited : (s : StopView) (c : Channel) → is_next s c ≡ true → IsAmong c (as_list (next_channel s))
next_waited (AtNext d) c e = inl (sym (same_channel_is d.channel c e))
next_waited AtQuiet c e = absurd cc
next_waited AtPut c e = absurd cc
next_waited AtFork c e = absurd cc
next_waited AtFinish c e = absurd cc
next_waited (AtThrow label) c e = absurd cc
next_waited (AtTrap kind line) c e = absurd cc

-- a sharer that goes is ready where all are
must_be : (a g d r : Bool) → g && a ≡ true → not (a && (g || d)) || r ≡ true → r ≡ true
must_be true true d r e f = f
must_be true false d r e f = absurd cc
must_be false true d r e f = absurd cc
must_be false false d r e f = absurd cc

meet_same : (c d : Channel) → Meet c ≡ Meet d → c ≡ d
meet_same c d e = cc

live_meets : (c : Channel) (p : Path) (s : StopView) → IsAmong (Meet c) (own_events p s) → (same_path c.home p ≡ true) × (is_next s c ≡ true)
live_meets c p (AtNext d) h = one (same_path d.channel.home p) refl h
  where
    one : (b : Bool) → same_path d.channel.home p ≡ b → IsAmong (Meet c) (cond b (Meet d.channel ∷ []) []) → (same_path c.home p ≡ true) × (same_channel d.channel c ≡ true)
    one true e (inl i) =
        let same = meet_same c d.channel i in
        (ap (λ z. same_path z.home p) same ∙ e, ap (same_channel d.channel) same ∙ same_channel_refl d.channel)
    one true e (inr i) = absurd i
    one false e i = absurd i
live_meets c p AtQuiet (inl h) = absurd cc
live_meets c p AtQuiet (inr h) = absurd h
live_meets c p AtPut (inl h) = absurd cc
live_meets c p AtPut (inr h) = absurd h
live_meets c p AtFork (inl h) = absurd cc
live_meets c p AtFork (inr h) = absurd h
live_meets c p AtFinish (inl h) = absurd cc
live_meets c p AtFinish (inr h) = absurd h
live_meets c p (AtThrow label) (inl h) = absurd cc
live_meets c p (AtThrow label) (inr h) = absurd h
live_meets c p (AtTrap kind line) (inl h) = absurd cc
live_meets c p (AtTrap kind line) (inr h) = absurd h

-- a live process lists no poison
live_poisons : (p : Path) (c : Channel) (q : Path) (s : StopView) → IsAmong (Poison p c) (own_events q s) → ⊥
live_poisons p c q (AtNext d) h = one (same_path d.channel.home q) h
  where
    one : (b : Bool) → IsAmong (Poison p c) (cond b (Meet d.channel ∷ []) []) → ⊥
    one true (inl i) = cc
    one true (inr i) = i
    one false i = i
live_poisons p c q AtQuiet (inl h) = cc
live_poisons p c q AtQuiet (inr h) = h
live_poisons p c q AtPut (inl h) = cc
live_poisons p c q AtPut (inr h) = h
live_poisons p c q AtFork (inl h) = cc
live_poisons p c q AtFork (inr h) = h
live_poisons p c q AtFinish (inl h) = cc
live_poisons p c q AtFinish (inr h) = h
live_poisons p c q (AtThrow label) (inl h) = cc
live_poisons p c q (AtThrow label) (inr h) = h
live_poisons p c q (AtTrap kind line) (inl h) = cc
live_poisons p c q (AtTrap kind line) (inr h) = h

no_close : (p : Path) (c : Channel) (q : Path) → Poison p c ≡ Close q → ⊥
no_close p c q e = cc

no_meeting : (p : Path) (c d : Channel) → Poison p c ≡ Meet d → ⊥
no_meeting p c d e = cc

close_meets : {A : Type 0} (c : Channel) (q : Path) → Meet c ≡ Close q → A
close_meets c q e = absurd cc

module _ {S : Type 0} (o : Ops S) where
  mutual
    pub ready_waited : (c : Channel) (n : Node S) → ready o c n ≡ true → IsAmong c (waited o n)
    ready_waited c (Live l) e = next_waited (o.stop l) c e
    ready_waited c (Ended l) e = absurd cc
    ready_waited c (Dead l x) e = absurd cc
    ready_waited c (Forked l ks) e = all_ready_waited c ks (first_holds (any_sharer o c ks) (all_ready o c ks) e) (second_holds (any_sharer o c ks) (all_ready o c ks) e)

    all_ready_waited : (c : Channel) (ks : Nodes S) → any_sharer o c ks ≡ true → all_ready o c ks ≡ true → IsAmong c (all_waited o ks)
    all_ready_waited c no_node e h = absurd cc
    all_ready_waited c (node_and k ks) e h =
        let first = not (o.shares (state k) c && (goes k || is_dead k)) || ready o c k in
        elim (either_holds (goes k && o.shares (state k) c) (any_sharer o c ks) e) [
          | inl z ↦ among_left c (waited o k) (all_waited o ks) (ready_waited c k (must_be (o.shares (state k) c) (goes k) (is_dead k) (ready o c k) z (first_holds first (all_ready o c ks) h)))
          | inr z ↦ among_right c (waited o k) (all_waited o ks) (all_ready_waited c ks z (second_holds first (all_ready o c ks) h))
        ]

  -- the node that lists a rendezvous declared the channel, and is ready on it
  pub listed_meets : (c : Channel) (m : Node S) → IsAmong (Meet c) (here o m) → meets_here o m c ≡ true
  listed_meets c (Live l) h =
      let w = live_meets c (o.path l) (o.stop l) h in
      both_hold _ _ w.0 w.1
  listed_meets c (Ended l) h = absurd h
  listed_meets c (Dead l x) h = absurd h
  listed_meets c (Forked l ks) h =
      let cs = filter (meets_here o (Forked l ks)) (all_waited o ks) in
      elim (among_either (Meet c) (cond (all_done ks) (Close (o.path l) ∷ []) []) (map Meet (in_order cs)) h) [
        | inl z ↦ close_meets c (o.path l) (among_close (Meet c) (o.path l) (all_done ks) z).1
        | inr z ↦
            let w = among_mapped Meet (Meet c) (in_order cs) z in
            ap (meets_here o (Forked l ks)) (meet_same c w.0 w.1) ∙ (among_filtered (meets_here o (Forked l ks)) w.0 (all_waited o ks) (among_ordered w.0 cs w.2)).0
      ]

  -- and one that did and is lists it
  pub meets_listed : (c : Channel) (m : Node S) → meets_here o m c ≡ true → IsAmong (Meet c) (here o m)
  meets_listed c (Live l) h = live (o.stop l) (second_holds (same_path c.home (o.path l)) _ h)
    where
      live : (s : StopView) → is_next s c ≡ true → IsAmong (Meet c) (own_events (o.path l) s)
      live (AtNext d) e =
          let s = same_channel_is d.channel c e in
          subst (λ z. IsAmong (Meet c) (cond (same_path z.home (o.path l)) (Meet z ∷ []) [])) (sym s)
          (subst (λ b. IsAmong (Meet c) (cond b (Meet c ∷ []) [])) (sym (first_holds (same_path c.home (o.path l)) _ h)) (inl refl))
      live AtQuiet e = absurd cc
      live AtPut e = absurd cc
      live AtFork e = absurd cc
      live AtFinish e = absurd cc
      live (AtThrow label) e = absurd cc
      live (AtTrap kind line) e = absurd cc
  meets_listed c (Ended l) h = absurd (let e = second_holds (same_path c.home (o.path l)) _ h in cc)
  meets_listed c (Dead l x) h = absurd (let e = second_holds (same_path c.home (o.path l)) _ h in cc)
  meets_listed c (Forked l ks) h =
      let cs = filter (meets_here o (Forked l ks)) (all_waited o ks) in
      among_right (Meet c) (cond (all_done ks) (Close (o.path l) ∷ []) []) (map Meet (in_order cs))
      (among_map Meet c (in_order cs) (among_order c cs (among_filter (meets_here o (Forked l ks)) c (all_waited o ks) h
      (ready_waited c (Forked l ks) (second_holds (same_path c.home (o.path l)) _ h)))))

  -- no node lists a poison by itself
  pub no_poison_here : (p : Path) (c : Channel) (n : Node S) → IsAmong (Poison p c) (here o n) → ⊥
  no_poison_here p c (Live l) h = live_poisons p c (o.path l) (o.stop l) h
  no_poison_here p c (Ended l) h = h
  no_poison_here p c (Dead l x) h = h
  no_poison_here p c (Forked l ks) h =
      let cs = in_order (filter (meets_here o (Forked l ks)) (all_waited o ks)) in
      elim (among_either (Poison p c) (cond (all_done ks) (Close (o.path l) ∷ []) []) (map Meet cs) h) [
        | inl z ↦ no_close p c (o.path l) (among_close (Poison p c) (o.path l) (all_done ks) z).1
        | inr z ↦ let w = among_mapped Meet (Poison p c) cs z in no_meeting p c w.0 w.1
      ]
