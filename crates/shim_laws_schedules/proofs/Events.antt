-- Two events are the same or not.
use Rattle.std.proofs.Common.{◌≡◌, ◌⊎◌, inl, inr, sym, ap, ◌∙◌}
use Rattle.shim_base.specs.Paths.{Path, Channel, same_path, same_channel}
use Rattle.shim_semantics.specs.Trees.{Event, Own, Meet, Poison, Close, End}
use Rattle.shim_semantics.proofs.HowMany.{clash}
use Rattle.shim_base.proofs.Facts.{true_or_false}
use Rattle.shim_base.proofs.SamePaths.{same_path_refl, same_path_is, same_channel_is, same_channel_refl}

pub paths_same : (p q : Path) → (p ≡ q) ⊎ (p ≡ q → ⊥)
paths_same p q = elim (true_or_false (same_path p q)) [
  | inl y ↦ inl (same_path_is p q y)
  | inr n ↦ inr (λ e. clash (same_path p q) (ap (same_path p) (sym e) ∙ same_path_refl p) n)
]

pub channels_same : (c d : Channel) → (c ≡ d) ⊎ (c ≡ d → ⊥)
channels_same c d = elim (true_or_false (same_channel c d)) [
  | inl y ↦ inl (same_channel_is c d y)
  | inr n ↦ inr (λ e. clash (same_channel c d) (ap (same_channel c) (sym e) ∙ same_channel_refl c) n)
]

-- two that are made alike, of what is the same or not
made_alike : {A E : Type 0} (f : A → E) (x y : A) → (f x ≡ f y → x ≡ y) → (x ≡ y) ⊎ (x ≡ y → ⊥) → (f x ≡ f y) ⊎ (f x ≡ f y → ⊥)
made_alike f x y back (inl e) = inl (ap f e)
made_alike f x y back (inr n) = inr (λ e. n (back e))

poisons_same : (p q : Path) (c d : Channel) → (p ≡ q) ⊎ (p ≡ q → ⊥) → (c ≡ d) ⊎ (c ≡ d → ⊥) → (Poison p c ≡ Poison q d) ⊎ (Poison p c ≡ Poison q d → ⊥)
poisons_same p q c d (inl e) (inl f) = inl (λ i. Poison (e i) (f i))
poisons_same p q c d (inl e) (inr n) = inr (λ z. n (cc z))
poisons_same p q c d (inr n) x = inr (λ z. n (cc z))

pub events_same : (e f : Event) → (e ≡ f) ⊎ (e ≡ f → ⊥)
events_same (Own p) (Own q) = made_alike Own p q (λ e. cc e) (paths_same p q)
events_same (Meet c) (Meet d) = made_alike Meet c d (λ e. cc e) (channels_same c d)
events_same (Poison p c) (Poison q d) = poisons_same p q c d (paths_same p q) (channels_same c d)
events_same (Close p) (Close q) = made_alike Close p q (λ e. cc e) (paths_same p q)
events_same (End p) (End q) = made_alike End p q (λ e. cc e) (paths_same p q)
events_same (Own p) (Meet c) = inr (λ e. cc e)
events_same (Own p) (Poison q c) = inr (λ e. cc e)
events_same (Own p) (Close q) = inr (λ e. cc e)
events_same (Own p) (End q) = inr (λ e. cc e)
events_same (Meet c) (Own q) = inr (λ e. cc e)
events_same (Meet c) (Poison q d) = inr (λ e. cc e)
events_same (Meet c) (Close q) = inr (λ e. cc e)
events_same (Meet c) (End q) = inr (λ e. cc e)
events_same (Poison p c) (Own q) = inr (λ e. cc e)
events_same (Poison p c) (Meet d) = inr (λ e. cc e)
events_same (Poison p c) (Close q) = inr (λ e. cc e)
events_same (Poison p c) (End q) = inr (λ e. cc e)
events_same (Close p) (Own q) = inr (λ e. cc e)
events_same (Close p) (Meet c) = inr (λ e. cc e)
events_same (Close p) (Poison q c) = inr (λ e. cc e)
events_same (Close p) (End q) = inr (λ e. cc e)
events_same (End p) (Own q) = inr (λ e. cc e)
events_same (End p) (Meet c) = inr (λ e. cc e)
events_same (End p) (Poison q c) = inr (λ e. cc e)
events_same (End p) (Close q) = inr (λ e. cc e)
