-- In a run a process below another one threw a label: at the last event, or before it and the fork hasn't closed.
use Rattle.std.proofs.Common.{◌≡◌, ◌≢◌, ℕ, ℤ, true, Some, List, [], ◌∷◌, ◌++◌, inl, inr, refl, sym, ap, ◌∙◌}
use Rattle.std.proofs.lemmas.List.{append_assoc}
use Rattle.shim_base.specs.Paths.{Path}
use Rattle.shim_local.specs.Process.{Ops}
use Rattle.shim_semantics.specs.Nodes.{Node, Live, Forked, state}
use Rattle.shim_semantics.specs.Places.{at, at_route, branches, route, SoundBelow, StandsAt}
use Rattle.shim_semantics.specs.Trees.{Tree, Event, Own, Meet, Poison, Close, End, Steps, own_action_of, own_action_at, same_own_action, after}
use Rattle.shim_semantics.specs.Systems.{run}
use Rattle.shim_semantics.proofs.Members.{among_either}
use Rattle.shim_semantics.proofs.Alone.{does, doer}
use Rattle.shim_semantics.proofs.Replaced.{sound_at}
use Rattle.shim_semantics.proofs.Routes.{at_path, route_of}
use Rattle.shim_laws_schedules.specs.Throws.{ThrewBelow}
use Rattle.shim_laws_schedules.proofs.EventParts.{EventParts, its_path, its_kind}
use Rattle.shim_laws_schedules.proofs.Stood.{ThrowsBelow}

pub does_steps : (e : Event) → same_own_action (does e) Steps ≡ true → e ≡ Own (doer e)
does_steps (Own p) h = refl
does_steps (Meet c) h = absurd cc
does_steps (Poison p c) h = absurd cc
does_steps (Close p) h = absurd cc
does_steps (End p) h = absurd cc

goes_on : (r : Path) (i : ℕ) (q : List ℕ) → branches r ≡ i ∷ q → r ≢ []
goes_on [] i q e = λ z. absurd cc
goes_on (x ∷ r) i q e = λ z. absurd cc

module _ {S : Type 0} (o : Ops S) where
  -- another event since, which doesn't close the fork
  pub threw_before : (from : Tree S) (es : List Event) (e : Event) (p : Path) (l : S) (x : ℕ) (v : ℤ) → ThrewBelow o from es p l x v → (e ≡ Close p → ⊥) → ThrewBelow o from (es ++ e ∷ []) p l x v
  threw_before from es e p l x v h n = record {
    before = h.before;
    event = h.event;
    since = h.since ++ e ∷ [];
    splits = ap (λ z. z ++ e ∷ []) h.splits ∙ append_assoc h.before (h.event ∷ h.since) (e ∷ []);
    tree = h.tree;
    leads = h.leads;
    more = h.more;
    below = h.below;
    throws = h.throws;
    children = h.children;
    forked = h.forked;
    unclosed = λ a. elim (among_either (Close p) h.since (e ∷ []) a) [ inl z ↦ h.unclosed z | inr z ↦ elim z [ inl w ↦ n (sym w) | inr w ↦ w ] ];
  }

  -- the process of a fork is where its path leads
  in_tree : (t : Tree S) (q : List ℕ) (n : Node S) → SoundBelow o t.root → at q t.root ≡ Some n → StandsAt o t.root (o.path (state n)) n
  in_tree t q n s e = record { there = ap (at_route t.root) (route_of o t.root n q (o.path (state n)) s e refl) ∙ e; is_its = refl }

  -- and that of an event where its path leads
  pub split_in_tree : (e : Event) (t u : Tree S) → (w : EventParts o e t u) → (p : Path) (n : Node S) → p ≡ doer e → w.old ≡ n → StandsAt o t.root p n
  split_in_tree e t u w p n at is = record {
    there = ap (λ z. at_route t.root (route (o.path (state t.root)) z)) at ∙ (ap (at_route t.root) w.route_is ∙ (w.there ∙ ap Some is));
    is_its = ap (λ z. o.path (state z)) (sym is) ∙ (its_path o e t u w ∙ sym at);
  }

  -- the last event is the throw
  pub threw_now : (from t u : Tree S) (es : List Event) (e : Event) (q : List ℕ) (l : S) (x : ℕ) (v : ℤ) → SoundBelow o t.root → run (after o) es from ≡ Some t → (w : EventParts o e t u) → ThrowsBelow o t.root w.old q l x v
      → ThrewBelow o from (es ++ e ∷ []) (o.path l) l x v
  threw_now from t u es e q l x v s r w h =
      let fork = Forked l h.children in
      let path = at_path o fork w.old (h.branch ∷ h.rest) (sound_at o q t.root fork s h.there) h.leads in
      let steps : own_action_of o w.old ≡ Steps = ap (own_action_of o) h.live ∙ ap own_action_at h.throws in
      let is : e ≡ Own (doer e) = does_steps e (ap (same_own_action (does e)) (sym steps) ∙ its_kind o e t u w) in
      let to : doer e ≡ o.path l ++ path.0 = sym (its_path o e t u w) ∙ path.1 in
      record {
        before = es;
        event = e;
        since = [];
        splits = refl;
        tree = t;
        leads = r;
        more = path.0;
        below = goes_on path.0 h.branch h.rest path.2;
        throws = record {
          is = is ∙ ap Own to;
          thrower = h.thrower;
          in_tree = split_in_tree e t u w (o.path l ++ path.0) (Live h.thrower) (sym to) h.live;
          throws = h.throws;
          gives = h.gives;
        };
        children = h.children;
        forked = in_tree t q fork s h.there;
        unclosed = λ a. a;
      }
