-- What holds of a fork and its children where they are taken back.
use Rattle.std.proofs.Common.{◌≡◌, ◌≢◌, ◌<◌, ◌≤◌, ◌+◌, ◌⊎◌, ℕ, zero, suc, false, Some, List, map, length, inl, inr, refl, sym, ap, subst, ◌∙◌, arith}
use Rattle.std.specs.Prelude.{slice_get}
use Rattle.std.proofs.lemmas.Option.{slice_get_within}
use Rattle.shim_base.specs.Paths.{Path}
use Rattle.shim_base.proofs.Facts.{some_same}
use Rattle.shim_local.specs.Process.{Ops}
use Rattle.shim_local.specs.Laws.{LocalLaws, AllOf}
use Rattle.shim_semantics.specs.Nodes.{Node, Nodes, Forked, Death, no_node, node_and, states as states_of, prevailing_death}
use Rattle.shim_semantics.specs.Places.{at, IsFork, SoundChildren}
use Rattle.shim_semantics.proofs.CloseStays.{label_below}
use Rattle.shim_semantics.proofs.Replaced.{sound_at, states_sound}
use Rattle.shim_laws_table.specs.NodeStatus.{forks, place, how_many_nodes}
use Rattle.shim_laws_table.specs.Agrees.{Has}
use Rattle.shim_laws_table.specs.Changes.{segment, prevailing_among}
use Rattle.shim_laws_table.proofs.Children.{children_are_represented}
use Rattle.shim_laws_table.proofs.Forking.{no_shorter}
use Rattle.shim_laws_table.proofs.SameTrees.{seen_fork}
use Rattle.shim_records.specs.Pairs.{record_view}
use Rattle.shim_records.specs.declared.record.Record.{Record}
use Rattle.shim_laws_table_events.specs.keeping.Tables.{TableInvariant}

some_child : {S : Type 0} (ks : Nodes S) (n : ℕ) → ks ≢ no_node → how_many_nodes ks ≡ n → n ≢ 0
some_child no_node n some e none = absurd (some refl)
some_child (node_and k ks) n some e none = let w = e ∙ none in absurd (omega (arith, w))

less_or_not : (i j : ℕ) → (i < j) ⊎ (j ≤ i)
less_or_not i zero = inr (omega arith)
less_or_not zero (suc j) = inl (omega arith)
less_or_not (suc i) (suc j) = elim (less_or_not i j) [ inl h ↦ inl (omega (arith, h)) | inr h ↦ inr (omega (arith, h)) ]

-- a number that is none of some that lie together is before or after them
aside_of : (i g n : ℕ) → ((b : ℕ) → b < n → i ≢ g + b) → (i < g) ⊎ (g + n ≤ i)
aside_of i g zero h = elim (less_or_not i g) [ inl w ↦ inl w | inr w ↦ inr (omega (arith, w)) ]
aside_of i g (suc n) h = elim (aside_of i g n (λ b less. h b (omega (arith, less)))) [
  | inl w ↦ inl w
  | inr w ↦ let past = further i (g + n) w (h n (omega arith)) in inr (omega (arith, past))
]
  where
    further : (i j : ℕ) → j ≤ i → i ≢ j → j < i
    further zero zero h n = absurd (n refl)
    further zero (suc j) h n = absurd (omega (arith, h))
    further (suc i) zero h n = omega arith
    further (suc i) (suc j) h n = let w = further i j (omega (arith, h)) (λ e. n (ap suc e)) in omega (arith, w)

within_all : (g n m : ℕ) → n ≢ 0 → ((b : ℕ) → b < n → g + b < m) → g + n ≤ m
within_all g zero m some h = absurd (some refl)
within_all g (suc n) m some h = let w = h n (omega arith) in omega (arith, w)

module _ {S : Type 0} (o : Ops S) (law : LocalLaws o) (rp : Path) (states : List S) (rs : List Record) (root : Node S) (i g n : ℕ) (l : S) (kept : TableInvariant o rp (record { states = states; records = rs }) root)
    (has : Has states (map record_view rs) i g l (forks n)) where
  fork : (ks : Nodes S) × (at (place o rp l) root ≡ Some (Forked l ks)) × (how_many_nodes ks ≡ n)
  fork = seen_fork (at (place o rp l) root) l n (kept.represents.agrees.shown i g l (forks n) has)

  children_say : (how_many_nodes fork.0 ≡ n) × (states_of fork.0 ≡ segment g n states) × (prevailing_death fork.0 ≡ prevailing_among (segment g n (map record_view rs)))
  children_say = children_are_represented o rp states (map record_view rs) root i g n l fork.0 kept.represents.agrees has fork.1

  sound : IsFork o l fork.0 (λ f. SoundChildren o l f 0 fork.0)
  sound = sound_at o (place o rp l) root (Forked l fork.0) kept.represents.sound.below fork.1

  -- they are born of it
  pub born : o.born l (segment g n states)
  born = subst (o.born l) children_say.1 sound.born

  -- and the label that prevails is one of its exception places
  pub below : (d : Death) → prevailing_among (segment g n (map record_view rs)) ≡ Some d → d.label < o.handlers (o.join l (segment g n states) false)
  below d e =
      let all : AllOf o.sound (states_of fork.0) = states_sound o l sound.number 0 fork.0 sound.children in
      let is = law.join_handlers l (states_of fork.0) sound.sound all sound.born in
      subst (λ z. d.label < o.handlers (o.join l z false)) children_say.1 (subst (λ z. d.label < z) (sym is) (label_below o l sound.number 0 fork.0 d sound.children (children_say.2 ∙ e)))

  -- the states and records of its children are there, and none of them is its own
  pub within : g + n ≤ length states
  within = within_all g n (length states) (some_child fork.0 n sound.some fork.2) (λ b less. let z = kept.represents.agrees.below i g n l has b less in slice_get_within states (g + b) z.1 z.3.state_is)

  pub apart : (i < g) ⊎ (g + n ≤ i)
  apart = aside_of i g n (λ b less e.
      let z = kept.represents.agrees.below i g n l has b less in
      let same : l ≡ z.1 = some_same l z.1 (sym has.state_is ∙ (ap (slice_get states) e ∙ z.3.state_is)) in
      no_shorter (place o rp l) b (ap (place o rp) same ∙ z.4))
