-- Entries of a map in order of their keys.
use Rattle.std.specs.Prelude.{◌≡◌, Bool, true, false, Some, None, List, [], ◌∷◌, filter, cond, ◌&&◌}
use Rattle.std.proofs.Common.{refl, sym, ap, ◌∙◌, T}
use Rattle.std.specs.declared.cmp.Ordering.{Ordering}
use Rattle.std.specs.declared.cmp.Ordering.TheVariants.{Less, Equal, Greater}
use Rattle.std.specs.Ordering.{is_lt, is_eq}
use Rattle.std.specs.Cmp.{IsTotalOrder}
use Rattle.std.specs.FinMap.{find, put, is_sorted, entries, empty, from_entries, len-entries, len-empty, entries-insert}
use Rattle.std.specs.FinMap.Entries.{by_order, below_all}
use Rattle.shim_base.proofs.Facts.{no_items}

-- two tests that both hold, apart and together
pub first_holds : (a b : Bool) → T (a && b) → T a
first_holds true b p = tt
first_holds false b p = p

pub second_holds : (a b : Bool) → T (a && b) → T b
second_holds true b p = p
second_holds false b p = absurd p

both_hold : (a b : Bool) → T a → T b → T (a && b)
both_hold true b p q = q
both_hold false b p q = p

pub less : (r : Ordering) → T (is_lt r) → r ≡ Less
less Less p = refl
less Equal p = absurd p
less Greater p = absurd p

module _ {K X : Type 0} (R : K → K → Ordering) where
  -- the empty map has none
  pub no_entries : entries (empty {X = X} {R = R}) ≡ []
  no_entries = no_items _ (sym (len-entries (empty {X = X} {R = R})) ∙ len-empty R X)

  -- a key below all isn't among them, and is put first
  pub none_below : (k : K) (es : List (K × X)) → T (below_all R k es) → find R k es ≡ None
  none_below k [] h = refl
  none_below k (e ∷ es) h = ap (λ r. cond (is_eq r) (Some e.1) (find R k es)) (less (R k e.0) (first_holds _ _ h)) ∙ none_below k es (second_holds _ _ h)

  put_first : (k : K) (v : X) (es : List (K × X)) → T (below_all R k es) → put R k v es ≡ (k, v) ∷ es
  put_first k v [] h = refl
  put_first k v (e ∷ es) h = ap (λ r. by_order r ((k, v) ∷ e ∷ es) ((e.0, v) ∷ es) (e ∷ put R k v es)) (less (R k e.0) (first_holds _ _ h))

  -- those in order are those of the map that they make
  pub entries_from : IsTotalOrder R → (es : List (K × X)) → T (is_sorted R es) → entries (from_entries {R = R} es) ≡ es
  entries_from o [] h = no_entries
  entries_from o (e ∷ es) h = entries-insert o (from_entries es) e.0 e.1 ∙ ap (put R e.0 e.1) (entries_from o es (second_holds _ _ h)) ∙ put_first e.0 e.1 es (first_holds _ _ h)

  -- those that pass a test stay in order
  module _ (passes : K × X → Bool) where
    kept_below : (k : K) (b : Bool) (e : K × X) (es : List (K × X)) → T (is_lt (R k e.0)) → T (below_all R k es) → T (below_all R k (cond b (e ∷ es) es))
    kept_below k true e es h g = both_hold _ _ h g
    kept_below k false e es h g = g

    below_filtered : (k : K) (es : List (K × X)) → T (below_all R k es) → T (below_all R k (filter passes es))
    below_filtered k [] h = h
    below_filtered k (e ∷ es) h = kept_below k (passes e) e (filter passes es) (first_holds _ _ h) (below_filtered k es (second_holds _ _ h))

    kept_sorted : (b : Bool) (e : K × X) (es : List (K × X)) → T (below_all R e.0 es) → T (is_sorted R es) → T (is_sorted R (cond b (e ∷ es) es))
    kept_sorted true e es h g = both_hold _ _ h g
    kept_sorted false e es h g = g

    pub sorted_filtered : (es : List (K × X)) → T (is_sorted R es) → T (is_sorted R (filter passes es))
    sorted_filtered [] h = h
    sorted_filtered (e ∷ es) h = kept_sorted (passes e) e (filter passes es) (below_filtered e.0 es (first_holds _ _ h)) (sorted_filtered es (second_holds _ _ h))
