-- What may stand in the place of a node in a sound tree.
use Rattle.std.proofs.Common.{◌≡◌, ◌≤◌, ◌⊎◌, ℕ, true, false, List, [], ◌∷◌, ◌++◌, inl, inr, sym, ap, subst, ◌∙◌}
use Rattle.shim_base.specs.Paths.{Channel}
use Rattle.shim_local.specs.Process.{Ops}
use Rattle.shim_local.specs.Laws.{LocalLaws, Moved, how_many}
use Rattle.shim_semantics.specs.Nodes.{Node, Live, state, everyone}
use Rattle.shim_semantics.specs.Places.{SoundBelow}
use Rattle.shim_semantics.specs.Sound.{carriers, holders}
use Rattle.shim_semantics.proofs.HowMany.{no_less, no_less_than}

-- the second state is the first, or comes of it by calls
pub record Follows {S : Type 0} (o : Ops S) (l m : S) : Type 0 where
  pub path : o.path m ≡ o.path l
  pub base : o.base m ≡ o.base l
  pub shares : (c : Channel) → o.shares m c ≡ true → (o.shares l c ≡ true) ⊎ (c.home ≡ o.path l)
  pub stays : (p : S) (xs ys : List S) → o.born p (xs ++ l ∷ ys) → o.born p (xs ++ m ∷ ys)

-- No process of a sound tree in which this node stands shares the channel: it is one of its process's own that this one doesn't share, or one of a child that a live process would have.
pub data IsNew {S : Type 0} (o : Ops S) (c : Channel) (m : Node S) : Type 0 where
  by_own : c.home ≡ o.path (state m) → o.shares (state m) c ≡ false → IsNew o c m
  by_child : (l : S) (x : ℕ × ℕ) → m ≡ Live l → c.home ≡ o.path l ++ x ∷ [] → IsNew o c m

-- what an event leaves in the place of a node, where it keeps the tree sound
pub record Keeps {S : Type 0} (o : Ops S) (m n : Node S) : Type 0 where
  pub below : SoundBelow o n
  pub follows : Follows o (state m) (state n)
  pub carried : (c : Channel) → (carriers o c n ≤ carriers o c m) ⊎ ((carriers o c n ≤ 1) × IsNew o c m)
  pub no_more_holders : holders o n ≤ holders o m

-- the same where no channel is new
pub record Stays {S : Type 0} (o : Ops S) (m n : Node S) : Type 0 where
  pub below : SoundBelow o n
  pub follows : Follows o (state m) (state n)
  pub carried : (c : Channel) → carriers o c n ≤ carriers o c m
  pub no_more_holders : holders o n ≤ holders o m

-- the same where a channel that is new is one of the process's own
pub record KeepsOwn {S : Type 0} (o : Ops S) (m n : Node S) : Type 0 where
  pub below : SoundBelow o n
  pub follows : Follows o (state m) (state n)
  pub carried : (c : Channel) → (carriers o c n ≤ carriers o c m) ⊎ ((carriers o c n ≤ 1) × (c.home ≡ o.path (state m)) × (o.shares (state m) c ≡ false))
  pub no_more_holders : holders o n ≤ holders o m

module _ {S : Type 0} (o : Ops S) where
  pub follows_same : (l m : S) → m ≡ l → Follows o l m
  follows_same l m e = record {
    path = ap o.path e;
    base = ap o.base e;
    shares = λ c y. inl (ap (λ z. o.shares z c) (sym e) ∙ y);
    stays = λ p xs ys b. subst (λ z. o.born p (xs ++ z ∷ ys)) (sym e) b;
  }

  pub follows_moved : LocalLaws o → (l m : S) → o.sound l → Moved o l m → ((c : Channel) → o.shares m c ≡ true → (o.shares l c ≡ true) ⊎ (c.home ≡ o.path l)) → Follows o l m
  follows_moved law l m s h shares = record {
    path = law.moved_path l m s h;
    base = law.moved_base l m s h;
    shares = shares;
    stays = λ p xs ys b. law.born_moved p l m xs ys s b h;
  }

  pub follows_after : (l m n : S) → Follows o l m → Follows o m n → Follows o l n
  follows_after l m n f g = record {
    path = g.path ∙ f.path;
    base = g.base ∙ f.base;
    shares = λ c y. elim (g.shares c y) [ inl z ↦ f.shares c z | inr z ↦ inr (z ∙ f.path) ];
    stays = λ p xs ys b. g.stays p xs ys (f.stays p xs ys b);
  }

  pub stays_keeps : (m n : Node S) → Stays o m n → Keeps o m n
  stays_keeps m n h = record { below = h.below; follows = h.follows; carried = λ c. inl (h.carried c); no_more_holders = h.no_more_holders }

  pub own_keeps : (m n : Node S) → KeepsOwn o m n → Keeps o m n
  own_keeps m n h = record { below = h.below; follows = h.follows; carried = λ c. elim (h.carried c) [ inl y ↦ inl y | inr y ↦ inr (y.0, by_own y.1 y.2) ]; no_more_holders = h.no_more_holders }

  pub stays_keeps_own : (m n : Node S) → Stays o m n → KeepsOwn o m n
  stays_keeps_own m n h = record { below = h.below; follows = h.follows; carried = λ c. inl (h.carried c); no_more_holders = h.no_more_holders }

  -- after a change after which the process shares the same
  pub keeps_own_after : (k m n : Node S) → Stays o k m → ((c : Channel) → o.shares (state m) c ≡ o.shares (state k) c) → KeepsOwn o m n → KeepsOwn o k n
  keeps_own_after k m n f alike g = record {
    below = g.below;
    follows = follows_after (state k) (state m) (state n) f.follows g.follows;
    carried = λ c. elim (g.carried c) [
      | inl y ↦ inl (no_less_than (carriers o c k) (carriers o c m) (carriers o c n) y (f.carried c))
      | inr y ↦ inr (y.0, y.1 ∙ f.follows.path, sym (alike c) ∙ y.2)
    ];
    no_more_holders = no_less_than (holders o k) (holders o m) (holders o n) g.no_more_holders f.no_more_holders;
  }

  -- the state is the same, and so are all others
  pub same_stays : (m n : Node S) → SoundBelow o n → state n ≡ state m → everyone n ≡ everyone m → Stays o m n
  same_stays m n s e h = record {
    below = s;
    follows = follows_same (state m) (state n) e;
    carried = λ c. subst (λ z. how_many (λ s. o.carries s c) z ≤ carriers o c m) (sym h) (no_less (carriers o c m));
    no_more_holders = subst (λ z. how_many o.holds_output z ≤ holders o m) (sym h) (no_less (holders o m));
  }
