-- Blocks of records that were put or freed, as what happened to the tree.
use Rattle.shim_laws_table.proofs.Tallies.{counts_tell}
use Rattle.shim_laws_table.specs.Dooms.{min_dead_label_among}
use Rattle.shim_local.specs.Laws.{AnyOf, IsGiven}
use Rattle.std.proofs.Common.{◌≡◌, ◌≢◌, ◌<◌, ◌≤◌, ◌⊎◌, ◌+◌, ℕ, zero, suc, Option, Some, None, List, [], ◌∷◌, map, length, slice_set, inl, inr, refl, sym, ap, subst, ◌∙◌, arith}
use Rattle.std.specs.Prelude.{slice_get}
use Rattle.std.specs.Option.{option_map}
use Rattle.std.proofs.lemmas.List.{length-set}
use Rattle.std.proofs.lemmas.Option.{slice_get_within}
use Rattle.shim_base.specs.Paths.{Path, Channel}
use Rattle.shim_local.specs.Process.{Ops}
use Rattle.shim_semantics.specs.Nodes.{Node, all_live, states}
use Rattle.shim_base.proofs.Facts.{some_same, none_some}
use Rattle.shim_laws_table.specs.NodeStatus.{ProcessStatus, lives, forks, place}
use Rattle.shim_laws_table.specs.Agrees.{RecordView, free, used, Has, Agrees}
use Rattle.shim_laws_table.specs.Changes.{HasForked, HasClosed}
use Rattle.shim_laws_table.proofs.SameTrees.{same_or_not}
use Rattle.shim_laws_table.proofs.Forking.{there_is, no_shorter}
use Rattle.shim_records.specs.Pairs.{record_view}
use Rattle.shim_records.specs.Blocks.{with_one, with_block}
use Rattle.shim_records.specs.Representing.{BlocksAreEvents, ForkInitialCounts}
use Rattle.shim_records.proofs.Stepping.{set_there, set_elsewhere}

pub map_get : {A B : Type 0} (f : A → B) (xs : List A) (i : ℕ) → slice_get (map f xs) i ≡ option_map f (slice_get xs i)
map_get f [] i = refl
map_get f (x ∷ xs) zero = refl
map_get f (x ∷ xs) (suc i) = map_get f xs i

map_one : {A B : Type 0} (f : A → B) (g : ℕ) (x : A) (ys : List A) → map f (with_one g x ys) ≡ with_one g (f x) (map f ys)
map_one f g x [] = refl
map_one f zero x (y ∷ ys) = refl
map_one f (suc g) x (y ∷ ys) = ap (λ z. f y ∷ z) (map_one f g x ys)

map_block : {A B : Type 0} (f : A → B) (g : ℕ) (xs ys : List A) → map f (with_block g xs ys) ≡ with_block g (map f xs) (map f ys)
map_block f g [] ys = refl
map_block f g (x ∷ xs) ys = map_block f (g + 1) xs (with_one g x ys) ∙ ap (with_block (g + 1) (map f xs)) (map_one f g x ys)

map_slice_set : {A B : Type 0} (f : A → B) (xs : List A) (i : ℕ) (x : A) → map f (slice_set xs i x) ≡ slice_set (map f xs) i (f x)
map_slice_set f [] i x = refl
map_slice_set f (y ∷ xs) zero x = refl
map_slice_set f (y ∷ xs) (suc i) x = ap (λ z. f y ∷ z) (map_slice_set f xs i x)

map_long : {A B : Type 0} (f : A → B) (xs : List A) → length (map f xs) ≡ length xs
map_long f [] = refl
map_long f (x ∷ xs) = ap suc (map_long f xs)

module _ {A : Type 0} where
  one_in : (g : ℕ) (x : A) (ys : List A) → g ≤ length ys → slice_get (with_one g x ys) g ≡ Some x
  one_in zero x [] h = refl
  one_in (suc g) x [] h = absurd (omega (arith, h))
  one_in zero x (y ∷ ys) h = refl
  one_in (suc g) x (y ∷ ys) h = one_in g x ys (omega (arith, h))

  one_out : (g : ℕ) (x : A) (ys : List A) (j : ℕ) → g ≤ length ys → j ≢ g → slice_get (with_one g x ys) j ≡ slice_get ys j
  one_out zero x [] zero h n = absurd (n refl)
  one_out zero x [] (suc j) h n = refl
  one_out (suc g) x [] j h n = absurd (omega (arith, h))
  one_out zero x (y ∷ ys) zero h n = absurd (n refl)
  one_out zero x (y ∷ ys) (suc j) h n = refl
  one_out (suc g) x (y ∷ ys) zero h n = refl
  one_out (suc g) x (y ∷ ys) (suc j) h n = one_out g x ys j (omega (arith, h)) (λ e. n (ap suc e))

  one_long : (g : ℕ) (x : A) (ys : List A) → g ≤ length ys → g + 1 ≤ length (with_one g x ys)
  one_long zero x [] h = omega arith
  one_long (suc g) x [] h = absurd (omega (arith, h))
  one_long zero x (y ∷ ys) h = omega arith
  one_long (suc g) x (y ∷ ys) h = let w = one_long g x ys (omega (arith, h)) in omega (arith, w)

  pub block_out : (g : ℕ) (xs ys : List A) (j : ℕ) → g ≤ length ys → ((b : ℕ) → b < length xs → j ≢ g + b) → slice_get (with_block g xs ys) j ≡ slice_get ys j
  block_out g [] ys j h n = refl
  block_out g (x ∷ xs) ys j h n =
      block_out (g + 1) xs (with_one g x ys) j (one_long g x ys h) (λ b less e. n (suc b) (omega (arith, less)) (e ∙ next g b))
      ∙ one_out g x ys j h (λ e. n 0 (omega arith) (e ∙ here g))
    where
      next : (g b : ℕ) → g + 1 + b ≡ g + suc b
      next g b = omega arith

      here : (g : ℕ) → g ≡ g + 0
      here g = omega arith

  pub block_in : (g : ℕ) (xs ys : List A) (b : ℕ) (x : A) → g ≤ length ys → slice_get xs b ≡ Some x → slice_get (with_block g xs ys) (g + b) ≡ Some x
  block_in g [] ys b x h e = none_some x e
  block_in g (y ∷ xs) ys zero x h e =
      let at : g + 0 ≡ g = omega arith in
      ap (slice_get (with_block (g + 1) xs (with_one g y ys))) at
      ∙ (block_out (g + 1) xs (with_one g y ys) g (one_long g y ys h) (λ b less w. past g b w) ∙ (one_in g y ys h ∙ e))
    where
      past : (g b : ℕ) → g ≡ g + 1 + b → ⊥
      past g b w = omega (arith, w)
  block_in g (y ∷ xs) ys (suc b) x h e =
      let at : g + suc b ≡ g + 1 + b = omega arith in
      ap (slice_get (with_block (g + 1) xs (with_one g y ys))) at ∙ block_in (g + 1) xs (with_one g y ys) b x (one_long g y ys h) e

-- a number is one of a block, or not
within : (g n j : ℕ) → ((b : ℕ) × (b < n) × (j ≡ g + b)) ⊎ ((b : ℕ) → b < n → j ≢ g + b)
within g zero j = inr (λ b less. absurd (omega (arith, less)))
within g (suc n) j = elim (same_or_not j (g + n)) [
  | inl e ↦ inl (n, omega arith, e)
  | inr far ↦ elim (within g n j) [
    | inl w ↦ let less = w.1 in inl (w.0, omega (arith, less), w.2)
    | inr w ↦ inr (λ b less e. elim (same_or_not b n) [ inl u ↦ far (e ∙ ap (λ z. g + z) u) | inr u ↦ w b (smaller b n u less) e ])
  ]
]
  where
    smaller : (b n : ℕ) → b ≢ n → b < suc n → b < n
    smaller b n u less = between b n u (omega (arith, less))
      where
        between : (b n : ℕ) → b ≢ n → b ≤ n → b < n
        between zero zero u w = absurd (u refl)
        between zero (suc n) u w = omega arith
        between (suc b) zero u w = absurd (omega (arith, w))
        between (suc b) (suc n) u w = let v = between b n (λ z. u (ap suc z)) (omega (arith, w)) in omega (arith, v)

used_status : (f g : ℕ) (k h : ProcessStatus) → Some (used f k) ≡ Some (used g h) → k ≡ h
used_status f g k h e = cc

free_used : {B : Type 0} (f : ℕ) (k : ProcessStatus) → free ≡ used f k → B
free_used f k e = absurd cc

module _ {S : Type 0} (states : List S) (old_views child_views : List RecordView) (i f g : ℕ) (l p : S) (ks : List S) (long : length states ≡ length old_views) (fits : g ≤ length old_views) (as_long : length child_views ≡ length ks)
    (live : (b : ℕ) (x : RecordView) → slice_get child_views b ≡ Some x → (d : ℕ) × (x ≡ used d lives)) (has : Has states old_views i f l lives) (clear : (b d : ℕ) (t : S) (x : ProcessStatus) → b < length ks → Has states old_views (g + b) d t x → ⊥) where
  abbrev states' : List S
  states' = with_block g ks (slice_set states i p)

  abbrev views' : List RecordView
  views' = with_block g child_views (slice_set old_views i (used g (forks (length ks))))

  fits_states : g ≤ length (slice_set states i p)
  fits_states = let a = length-set states i p in omega (arith, a, long, fits)

  fits_views : g ≤ length (slice_set old_views i (used g (forks (length ks))))
  fits_views = let a = length-set old_views i (used g (forks (length ks))) in omega (arith, a, fits)

  outside : (j : ℕ) → ((b : ℕ) → b < length ks → j ≢ g + b) → (slice_get states' j ≡ slice_get (slice_set states i p) j) × (slice_get views' j ≡ slice_get (slice_set old_views i (used g (forks (length ks)))) j)
  outside j far = (
    block_out g ks (slice_set states i p) j fits_states far,
    block_out g child_views (slice_set old_views i (used g (forks (length ks)))) j fits_views (λ b less. far b (omega (arith, less, as_long))),
  )

  used_far : (j d : ℕ) (t : S) (x : ProcessStatus) → Has states old_views j d t x → (b : ℕ) → b < length ks → j ≢ g + b
  used_far j d t x h b less e = clear b d t x less (record { state_is = ap (slice_get states) (sym e) ∙ h.state_is; view_is = ap (slice_get old_views) (sym e) ∙ h.view_is })

  pub has_forked : HasForked states states' old_views views' i g p ks
  has_forked = record {
    parent = let w = outside i (used_far i f l lives has) in record {
      state_is = w.0 ∙ set_there states i l p has.state_is;
      view_is = w.1 ∙ set_there old_views i (used f lives) (used g (forks (length ks))) has.view_is;
    };
    born = λ b k e.
        let less = slice_get_within ks b k e in
        let y = there_is child_views b (omega (arith, less, as_long)) in
        let d = live b y.0 y.1 in
        (d.0, record { state_is = block_in g ks (slice_set states i p) b k fits_states e; view_is = block_in g child_views _ b y.0 fits_views y.1 ∙ ap Some d.1 });
    others = λ j d t x other h. let w = outside j (used_far j d t x h) in record {
      state_is = w.0 ∙ (set_elsewhere states i j p other ∙ h.state_is);
      view_is = w.1 ∙ (set_elsewhere old_views i j (used g (forks (length ks))) other ∙ h.view_is);
    };
    only = λ j d t x h. elim (within g (length ks) j) [
      | inl w ↦
          let less = w.1 in
          let k = there_is ks w.0 w.1 in
          let y = there_is child_views w.0 (omega (arith, less, as_long)) in
          let at_state : slice_get states' j ≡ Some k.0 = ap (slice_get states') w.2 ∙ block_in g ks (slice_set states i p) w.0 k.0 fits_states k.1 in
          let at_view : slice_get views' j ≡ Some y.0 = ap (slice_get views') w.2 ∙ block_in g child_views _ w.0 y.0 fits_views y.1 in
          let z = live w.0 y.0 y.1 in
          inr (inl (w.0, k.1 ∙ (sym at_state ∙ h.state_is), w.2, used_status d z.0 x lives (sym h.view_is ∙ (at_view ∙ ap Some z.1))))
      | inr far ↦ elim (same_or_not j i) [
        | inl w ↦
            let at = outside j far in
            let its_state : t ≡ p = some_same t p (sym h.state_is ∙ (at.0 ∙ (ap (slice_get (slice_set states i p)) w ∙ set_there states i l p has.state_is))) in
            inl (w, its_state, used_status d g x (forks (length ks)) (sym h.view_is ∙ (at.1 ∙ (ap (slice_get (slice_set old_views i (used g (forks (length ks))))) w ∙ set_there old_views i (used f lives) (used g (forks (length ks))) has.view_is))))
        | inr w ↦
            let at = outside j far in
            inr (inr (
              w,
              record {
                state_is = sym (set_elsewhere states i j p w) ∙ (sym at.0 ∙ h.state_is);
                view_is = sym (set_elsewhere old_views i j (used g (forks (length ks))) w) ∙ (sym at.1 ∙ h.view_is);
              },
            ))
      ]
    ];
  }

module _ {S : Type 0} (o : Ops S) (rp : Path) (states : List S) (old_views freed : List RecordView) (root : Node S) (i g n f : ℕ) (l s : S) (k : ProcessStatus) (ok : Agrees o rp states old_views root) (has : Has states old_views i g l (forks n))
    (inside : (b : ℕ) (x : RecordView) → b < n → slice_get freed (g + b) ≡ Some x → x ≡ free) (outside : (j : ℕ) → ((b : ℕ) → b < n → j ≢ g + b) → slice_get freed j ≡ slice_get old_views j) where
  -- the fork's own record is none of its children's
  apart : (b : ℕ) → b < n → i ≢ g + b
  apart b less e =
      let z = ok.below i g n l has b less in
      let same : l ≡ z.1 = some_same l z.1 (sym has.state_is ∙ (ap (slice_get states) e ∙ z.3.state_is)) in
      no_shorter (place o rp l) b (ap (place o rp) same ∙ z.4)

  its_view : slice_get (slice_set freed i (used f k)) i ≡ Some (used f k)
  its_view = set_there freed i (used g (forks n)) (used f k) (outside i apart ∙ has.view_is)

  pub has_closed : HasClosed states (slice_set states i s) old_views (slice_set freed i (used f k)) i g n s k
  has_closed = record {
    first = f;
    parent = record { state_is = set_there states i l s has.state_is; view_is = its_view };
    others = λ j d t x other far h. record {
      state_is = set_elsewhere states i j s other ∙ h.state_is;
      view_is = set_elsewhere freed i j (used f k) other ∙ (outside j far ∙ h.view_is);
    };
    only = λ j d t x h. elim (same_or_not j i) [
      | inl w ↦ inl (
        w,
        some_same t s (sym h.state_is ∙ (ap (slice_get (slice_set states i s)) w ∙ set_there states i l s has.state_is)),
        used_status d f x k (sym h.view_is ∙ (ap (slice_get (slice_set freed i (used f k))) w ∙ its_view)),
      )
      | inr w ↦
          let view_now : slice_get freed j ≡ Some (used d x) = sym (set_elsewhere freed i j (used f k) w) ∙ h.view_is in
          let far : (b : ℕ) → b < n → j ≢ g + b = λ b less e. free_used d x (sym (inside b (used d x) less (ap (slice_get freed) (sym e) ∙ view_now))) in
          inr (w, far, record { state_is = sym (set_elsewhere states i j s w) ∙ h.state_is; view_is = sym (outside j far) ∙ view_now })
    ];
  }

module _ {S : Type 0} (o : Ops S) where
  map_some : {A B : Type 0} (f : A → B) (x : Option A) (y : B) → option_map f x ≡ Some y → (z : A) × (x ≡ Some z) × (f z ≡ y)
  map_some f None y e = none_some y e
  map_some f (Some z) y e = (z, refl, some_same (f z) y e)

  pub blocks_are_events : BlocksAreEvents o
  blocks_are_events = record {
    fork = λ states rs born i f g l p ks r long fits as_long live has clear says.
        let a = map_long record_view rs in
        let b = map_long record_view born in
        let is : map record_view (with_block g born (slice_set rs i r)) ≡ with_block g (map record_view born) (slice_set (map record_view rs) i (used g (forks (length ks)))) =
        map_block record_view g born (slice_set rs i r) ∙ (ap (with_block g (map record_view born)) (map_slice_set record_view rs i r) ∙ ap (λ z. with_block g (map record_view born) (slice_set (map record_view rs) i z)) says) in
        subst (λ z. HasForked states (with_block g ks (slice_set states i p)) (map record_view rs) z i g p ks) (sym is)
        (has_forked states (map record_view rs) (map record_view born) i f g l p ks (omega (arith, a, long)) (omega (arith, a, fits)) (omega (arith, b, as_long))
        (λ d x e. let w = map_some record_view (slice_get born d) x (sym (map_get record_view born d) ∙ e) in let y = live d w.0 w.1 in (y.0, sym w.2 ∙ y.1)) has clear);
    close = λ rp states rs ss root i g n f l s k r ok has freed says.
        let is : map record_view (slice_set ss i r) ≡ slice_set (map record_view ss) i (used f k) = map_slice_set record_view ss i r ∙ ap (slice_set (map record_view ss) i) says in
        subst (λ z. HasClosed states (slice_set states i s) (map record_view rs) z i g n s k) (sym is)
        (has_closed o rp states (map record_view rs) (map record_view ss) root i g n f l s k ok has
        (λ b x less e. let w = map_some record_view (slice_get ss (g + b)) x (sym (map_get record_view ss (g + b)) ∙ e) in sym w.2 ∙ freed.inside b w.0 less w.1)
        (λ j far. map_get record_view ss j ∙ (ap (option_map record_view) (freed.outside j far) ∙ sym (map_get record_view rs j))));
  }

-- ---- a new fork's pairs

states_of : {S : Type 0} (ks : List S) → states (all_live ks) ≡ ks
states_of [] = refl
states_of (k ∷ ks) = ap (λ z. k ∷ z) (states_of ks)

none_died : {S : Type 0} (o : Ops S) (c : Channel) (ks : List S) → min_dead_label_among o c (all_live ks) ≡ None
none_died o c [] = refl
none_died o c (k ∷ ks) = none_died o c ks

pub fork_initial_counts : {S : Type 0} (o : Ops S) → ForkInitialCounts o
fork_initial_counts o p ks pairs h c = (
  record {
    right = λ y e. h.right c y e ∙ sym ((counts_tell o).fresh c ks);
    there = (
      (λ some. let w = (h.there c).0 some in (w.0, subst (AnyOf (λ k. IsGiven o k c)) (sym (states_of ks)) w.1)),
      (λ counted. (h.there c).1 (counted.0, subst (AnyOf (λ k. IsGiven o k c)) (states_of ks) counted.1)),
    );
  },
  h.unlabelled c ∙ sym (none_died o c ks),
)
