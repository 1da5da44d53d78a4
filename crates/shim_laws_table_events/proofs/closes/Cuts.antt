-- Free records at the end are cut off.
use Rattle.std.proofs.Common.{◌≡◌, ◌≤◌, ◌<◌, ◌⊎◌, ◌+◌, ℕ, zero, suc, Some, List, [], ◌∷◌, map, take, length, inl, inr, refl, sym, ap, ◌∙◌, arith}
use Rattle.std.specs.Prelude.{slice_get}
use Rattle.shim_base.specs.Paths.{Path}
use Rattle.shim_base.proofs.Facts.{none_some}
use Rattle.shim_local.specs.Process.{Ops}
use Rattle.shim_semantics.specs.Nodes.{Node}
use Rattle.shim_laws_table.specs.NodeStatus.{ProcessStatus}
use Rattle.shim_laws_table.specs.Agrees.{RecordView, free, used, Has}
use Rattle.shim_laws_table.specs.Changes.{HasClosed}
use Rattle.shim_records.specs.Pairs.{record_view, up_at, counts_at, min_label_at, known_at}
use Rattle.shim_records.specs.declared.record.Record.{Record}
use Rattle.shim_records.proofs.Representing.{map_get}
use Rattle.shim_laws_table_events.specs.keeping.Tables.{TableInvariant}
use Rattle.shim_laws_table_events.proofs.closes.Saying.{from_map}

less_or_not : (i m : ℕ) → (i < m) ⊎ (m ≤ i)
less_or_not i zero = inr (omega arith)
less_or_not zero (suc m) = inl (omega arith)
less_or_not (suc i) (suc m) = elim (less_or_not i m) [ inl h ↦ inl (omega (arith, h)) | inr h ↦ inr (omega (arith, h)) ]

-- the first items of a list
taken : {A : Type 0} (xs : List A) (m i : ℕ) → i < m → slice_get (take m xs) i ≡ slice_get xs i
taken xs zero i h = absurd (omega (arith, h))
taken [] (suc m) i h = refl
taken (x ∷ xs) (suc m) zero h = refl
taken (x ∷ xs) (suc m) (suc i) h = taken xs m i (omega (arith, h))

inside : {A : Type 0} (xs : List A) (m i : ℕ) (x : A) → slice_get (take m xs) i ≡ Some x → (i < m) × (slice_get xs i ≡ Some x)
inside [] zero i x e = none_some x e
inside (y ∷ xs) zero i x e = none_some x e
inside [] (suc m) i x e = none_some x e
inside (y ∷ xs) (suc m) zero x e = (omega arith, e)
inside (y ∷ xs) (suc m) (suc i) x e = let w = inside xs m i x e in let less = w.0 in (omega (arith, less), w.1)

map_take : {A B : Type 0} (f : A → B) (xs : List A) (m : ℕ) → map f (take m xs) ≡ take m (map f xs)
map_take f [] zero = refl
map_take f [] (suc m) = refl
map_take f (x ∷ xs) zero = refl
map_take f (x ∷ xs) (suc m) = ap (λ z. f x ∷ z) (map_take f xs m)

same_lengths : {A B : Type 0} (xs : List A) (ys : List B) (m : ℕ) → length xs ≡ length ys → length (take m xs) ≡ length (take m ys)
same_lengths [] [] zero e = refl
same_lengths [] [] (suc m) e = refl
same_lengths [] (y ∷ ys) m e = absurd cc
same_lengths (x ∷ xs) [] m e = absurd cc
same_lengths (x ∷ xs) (y ∷ ys) zero e = refl
same_lengths (x ∷ xs) (y ∷ ys) (suc m) e = ap suc (same_lengths xs ys m (one_less (length xs) (length ys) e))
  where
    one_less : (a b : ℕ) → suc a ≡ suc b → a ≡ b
    one_less a b e = omega (arith, e)

not_free : {B : Type 0} (f : ℕ) (k : ProcessStatus) → free ≡ used f k → B
not_free f k e = absurd cc

module _ {S : Type 0} (states : List S) (rs : List Record) (m : ℕ) (unused : (i : ℕ) (r : Record) → m ≤ i → slice_get rs i ≡ Some r → record_view r ≡ free) where
  abbrev old_views : List RecordView
  old_views = map record_view rs

  abbrev views : List RecordView
  views = map record_view (take m rs)

  -- a record in use is before the cut
  before : (i f : ℕ) (s : S) (k : ProcessStatus) → Has states old_views i f s k → i < m
  before i f s k h = elim (less_or_not i m) [
    | inl w ↦ w
    | inr w ↦ let r = from_map record_view (slice_get rs i) (used f k) (sym (map_get record_view rs i) ∙ h.view_is) in not_free f k (sym (unused i r.0 w r.1) ∙ r.2)
  ]

  has_now : (i f : ℕ) (s : S) (k : ProcessStatus) → Has states old_views i f s k → Has (take m states) views i f s k
  has_now i f s k h = record {
    state_is = taken states m i (before i f s k h) ∙ h.state_is;
    view_is = ap (λ z. slice_get z i) (map_take record_view rs m) ∙ (taken old_views m i (before i f s k h) ∙ h.view_is);
  }

  had : (i f : ℕ) (s : S) (k : ProcessStatus) → Has (take m states) views i f s k → Has states old_views i f s k
  had i f s k h = record {
    state_is = (inside states m i s h.state_is).1;
    view_is = (inside old_views m i (used f k) (ap (λ z. slice_get z i) (sym (map_take record_view rs m)) ∙ h.view_is)).1;
  }

  -- what it says is as before
  still : (i f : ℕ) (s : S) (k : ProcessStatus) → Has states old_views i f s k → slice_get (take m rs) i ≡ slice_get rs i
  still i f s k h = taken rs m i (before i f s k h)

  -- what came of a closed fork is as before
  pub closed_cut : (first : List S) (given : List RecordView) (i g n : ℕ) (s : S) (k : ProcessStatus) → HasClosed first states given old_views i g n s k → HasClosed first (take m states) given views i g n s k
  closed_cut first given i g n s k h = record {
    first = h.first;
    parent = has_now i h.first s k h.parent;
    others = λ j d t x far out was. has_now j d t x (h.others j d t x far out was);
    only = λ j d t x is. h.only j d t x (had j d t x is);
  }

module _ {S : Type 0} (o : Ops S) (rp : Path) (root : Node S) (states : List S) (rs : List Record) (m : ℕ) (kept : TableInvariant o rp (record { states = states; records = rs }) root)
    (unused : (i : ℕ) (r : Record) → m ≤ i → slice_get rs i ≡ Some r → record_view r ≡ free) where
  pub cut : TableInvariant o rp (record { states = take m states; records = take m rs }) root
  cut = record {
    represents = record {
      sound = kept.represents.sound;
      root_path = kept.represents.root_path;
      rooted = let r = kept.represents.rooted in record { first = r.first; state = r.state; status = r.status; has = has_now states rs m unused 0 r.first r.state r.status r.has; at_root = r.at_root };
      agrees = record {
        shown = λ i f s k h. kept.represents.agrees.shown i f s k (had states rs m unused i f s k h);
        apart = λ i j f g s t k h a b e. kept.represents.agrees.apart i j f g s t k h (had states rs m unused i f s k a) (had states rs m unused j g t h b) e;
        below = λ i f n s h b less. let w = kept.represents.agrees.below i f n s (had states rs m unused i f s _ h) b less in (w.0, w.1, w.2, has_now states rs m unused (f + b) w.0 w.1 w.2 w.3, w.4);
      };
    };
    linked = record {
      parents = λ i f n s h b less.
          let fork = had states rs m unused i f s _ h in
          let w = kept.represents.agrees.below i f n s fork b less in
          ap up_at (still states rs m unused (f + b) w.0 w.1 w.2 w.3) ∙ kept.linked.parents i f n s fork b less;
      top = let r = kept.represents.rooted in ap up_at (still states rs m unused 0 r.first r.state r.status r.has) ∙ kept.linked.top;
    };
    few = λ i f n s h. kept.few i f n s (had states rs m unused i f s _ h);
    ordered = λ i r e. kept.ordered i r (inside rs m i r e).1;
    right = λ c. record {
      there = λ i f n s l ks h e.
          let fork = had states rs m unused i f s _ h in
          let same = ap (counts_at c) (still states rs m unused i f s _ fork) in
          let w = (kept.right c).there i f n s l ks fork e in
          ((λ there. w.0 (λ none. there (same ∙ none))), λ counted none. w.1 counted (sym same ∙ none));
      counts = λ i f n s y l ks h e there. let fork = had states rs m unused i f s _ h in (kept.right c).counts i f n s y l ks fork (sym (ap (counts_at c) (still states rs m unused i f s _ fork)) ∙ e) there;
      labels = λ i f n s l ks h counted there.
          let fork = had states rs m unused i f s _ h in
          ap (min_label_at c) (still states rs m unused i f s _ fork) ∙ (kept.right c).labels i f n s l ks fork (λ none. counted (ap (counts_at c) (still states rs m unused i f s _ fork) ∙ none)) there;
    };
    going_children = λ i f n s l ks r h e there. kept.going_children i f n s l ks r (had states rs m unused i f s _ h) (inside rs m i r e).1 there;
    known = λ c i f n s k l ks h e there. let fork = had states rs m unused i f s _ h in kept.known c i f n s k l ks fork (sym (ap (known_at c) (still states rs m unused i f s _ fork)) ∙ e) there;
    fit = λ i f s k r h e. kept.fit i f s k r (had states rs m unused i f s k h) (inside rs m i r e).1;
    beside = same_lengths states rs m kept.beside;
  }
