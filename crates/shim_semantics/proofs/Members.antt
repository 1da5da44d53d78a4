-- What is among lists, among their images, and among channels in order.
use Rattle.std.proofs.Common.{◌≡◌, Bool, true, false, List, [], ◌∷◌, ◌++◌, ◌⊎◌, inl, inr, cond, map, filter, refl, sym, ap, subst, ◌∙◌}
use Rattle.std.specs.declared.cmp.Ordering.{Ordering}
use Rattle.std.specs.declared.cmp.Ordering.TheVariants.{Less, Equal, Greater}
use Rattle.shim_base.specs.Paths.{Channel, channel_order}
use Rattle.shim_base.specs.PathLaws.{exact_channel, channel_order_total}
use Rattle.shim_base.proofs.Facts.{no_items}
use Rattle.std.specs.FinMap.{put, entries, empty, from_entries, entries-insert, len-entries, len-empty}
use Rattle.std.specs.FinMap.Entries.{by_order}
use Rattle.shim_base.specs.Lists.{IsAmong}
use Rattle.shim_semantics.specs.Walks.{as_key, in_order}

abbrev firsts : {A B : Type 0} → List (A × B) → List A
firsts es = map (λ e. e.0) es

pub among_left : {E : Type 0} (e : E) (xs ys : List E) → IsAmong e xs → IsAmong e (xs ++ ys)
among_left e [] ys h = absurd h
among_left e (x ∷ xs) ys (inl h) = inl h
among_left e (x ∷ xs) ys (inr h) = inr (among_left e xs ys h)

pub among_right : {E : Type 0} (e : E) (xs ys : List E) → IsAmong e ys → IsAmong e (xs ++ ys)
among_right e [] ys h = h
among_right e (x ∷ xs) ys h = inr (among_right e xs ys h)

pub among_either : {E : Type 0} (e : E) (xs ys : List E) → IsAmong e (xs ++ ys) → IsAmong e xs ⊎ IsAmong e ys
among_either e [] ys h = inr h
among_either e (x ∷ xs) ys (inl h) = inl (inl h)
among_either e (x ∷ xs) ys (inr h) = elim (among_either e xs ys h) [ inl z ↦ inl (inr z) | inr z ↦ inr z ]

pub among_map : {A E : Type 0} (f : A → E) (x : A) (xs : List A) → IsAmong x xs → IsAmong (f x) (map f xs)
among_map f x [] h = absurd h
among_map f x (y ∷ ys) (inl h) = inl (ap f h)
among_map f x (y ∷ ys) (inr h) = inr (among_map f x ys h)

pub among_mapped : {A E : Type 0} (f : A → E) (e : E) (xs : List A) → IsAmong e (map f xs) → (x : A) × (e ≡ f x) × IsAmong x xs
among_mapped f e [] h = absurd h
among_mapped f e (x ∷ xs) (inl h) = (x, h, inl refl)
among_mapped f e (x ∷ xs) (inr h) = let w = among_mapped f e xs h in (w.0, w.1, inr w.2)

among_cond : {A : Type 0} (b : Bool) (x y : A) (ys : List A) → IsAmong x (cond b (y ∷ ys) ys) → ((x ≡ y) × (b ≡ true)) ⊎ IsAmong x ys
among_cond true x y ys (inl h) = inl (h, refl)
among_cond true x y ys (inr h) = inr h
among_cond false x y ys h = inr h

among_kept : {A : Type 0} (b : Bool) (x y : A) (ys : List A) → IsAmong x ys → IsAmong x (cond b (y ∷ ys) ys)
among_kept true x y ys h = inr h
among_kept false x y ys h = h

among_there : {A : Type 0} (b : Bool) (x y : A) (ys : List A) → b ≡ true → x ≡ y → IsAmong x (cond b (y ∷ ys) ys)
among_there true x y ys e h = inl h
among_there false x y ys e h = absurd cc

pub among_filter : {A : Type 0} (f : A → Bool) (x : A) (xs : List A) → f x ≡ true → IsAmong x xs → IsAmong x (filter f xs)
among_filter f x [] e h = absurd h
among_filter f x (y ∷ ys) e (inl h) = among_there (f y) x y (filter f ys) (ap f (sym h) ∙ e) h
among_filter f x (y ∷ ys) e (inr h) = among_kept (f y) x y (filter f ys) (among_filter f x ys e h)

pub among_filtered : {A : Type 0} (f : A → Bool) (x : A) (xs : List A) → IsAmong x (filter f xs) → (f x ≡ true) × IsAmong x xs
among_filtered f x [] h = absurd h
among_filtered f x (y ∷ ys) h = elim (among_cond (f y) x y (filter f ys) h) [
  | inl z ↦ (ap f z.0 ∙ z.1, inl z.0)
  | inr z ↦ let w = among_filtered f x ys z in (w.0, inr w.1)
]

-- a list that is put in order has the same members
module _ {X : Type 0} where
  put_new : (r : Ordering) (c : Channel) (v : X) (e : Channel × X) (es more : List (Channel × X)) → (r ≡ Equal → c ≡ e.0) → IsAmong c (firsts more) → IsAmong c (firsts (by_order r ((c, v) ∷ e ∷ es) ((e.0, v) ∷ es) (e ∷ more)))
  put_new Less c v e es more is h = inl refl
  put_new Equal c v e es more is h = inl (is refl)
  put_new Greater c v e es more is h = inr h

  put_old : (r : Ordering) (x c : Channel) (v : X) (e : Channel × X) (es more : List (Channel × X)) → (IsAmong x (firsts es) → IsAmong x (firsts more)) → IsAmong x (firsts (e ∷ es))
      → IsAmong x (firsts (by_order r ((c, v) ∷ e ∷ es) ((e.0, v) ∷ es) (e ∷ more)))
  put_old Less x c v e es more f h = inr h
  put_old Equal x c v e es more f h = h
  put_old Greater x c v e es more f (inl h) = inl h
  put_old Greater x c v e es more f (inr h) = inr (f h)

  put_from : (r : Ordering) (x c : Channel) (v : X) (e : Channel × X) (es more : List (Channel × X)) → (IsAmong x (firsts more) → (x ≡ c) ⊎ IsAmong x (firsts es))
      → IsAmong x (firsts (by_order r ((c, v) ∷ e ∷ es) ((e.0, v) ∷ es) (e ∷ more))) → (x ≡ c) ⊎ IsAmong x (firsts (e ∷ es))
  put_from Less x c v e es more f h = h
  put_from Equal x c v e es more f h = inr h
  put_from Greater x c v e es more f (inl h) = inr (inl h)
  put_from Greater x c v e es more f (inr h) = elim (f h) [ inl z ↦ inl z | inr z ↦ inr (inr z) ]

  among_put : (c : Channel) (v : X) (es : List (Channel × X)) → IsAmong c (firsts (put channel_order c v es))
  among_put c v [] = inl refl
  among_put c v (e ∷ es) = put_new (channel_order c e.0) c v e es (put channel_order c v es) (λ z. exact_channel c e.0 z) (among_put c v es)

  among_others : (x c : Channel) (v : X) (es : List (Channel × X)) → IsAmong x (firsts es) → IsAmong x (firsts (put channel_order c v es))
  among_others x c v [] h = absurd h
  among_others x c v (e ∷ es) h = put_old (channel_order c e.0) x c v e es (put channel_order c v es) (λ z. among_others x c v es z) h

  among_before : (x c : Channel) (v : X) (es : List (Channel × X)) → IsAmong x (firsts (put channel_order c v es)) → (x ≡ c) ⊎ IsAmong x (firsts es)
  among_before x c v [] h = h
  among_before x c v (e ∷ es) h = put_from (channel_order c e.0) x c v e es (put channel_order c v es) (λ z. among_before x c v es z) h

-- one more that is put in order
ordered_more : (c : Channel) (cs : List Channel) → in_order (c ∷ cs) ≡ firsts (put channel_order c tt (entries (from_entries {R = channel_order} (map as_key cs))))
ordered_more c cs = ap firsts (entries-insert channel_order_total (from_entries (map as_key cs)) c tt)

pub among_order : (x : Channel) (cs : List Channel) → IsAmong x cs → IsAmong x (in_order cs)
among_order x [] h = absurd h
among_order x (c ∷ cs) (inl h) =
    let es = entries (from_entries {R = channel_order} (map as_key cs)) in
    subst (IsAmong x) (sym (ordered_more c cs)) (subst (λ z. IsAmong z (firsts (put channel_order c tt es))) (sym h) (among_put c tt es))
among_order x (c ∷ cs) (inr h) = subst (IsAmong x) (sym (ordered_more c cs)) (among_others x c tt _ (among_order x cs h))

-- the map of no entries has no keys
pub none_ordered : in_order [] ≡ []
none_ordered = ap firsts (no_items _ (sym (len-entries (empty {X = Unit {0}} {R = channel_order})) ∙ len-empty channel_order (Unit {0})))

pub among_ordered : (x : Channel) (cs : List Channel) → IsAmong x (in_order cs) → IsAmong x cs
among_ordered x [] h = subst (IsAmong x) none_ordered h
among_ordered x (c ∷ cs) h = elim (among_before x c tt _ (subst (IsAmong x) (ordered_more c cs) h)) [ inl z ↦ inl z | inr z ↦ inr (among_ordered x cs z) ]
