-- Following waits from path to path: splits, joins and returns.
use Rattle.std.proofs.Common.{◌≡◌, Some, List, [], ◌∷◌, ◌++◌, ◌⊎◌, inl, inr, refl, sym, ap, subst, ◌∙◌}
use Rattle.std.specs.declared.cmp.Ordering.{Ordering}
use Rattle.std.specs.declared.cmp.Ordering.TheVariants.{Less, Equal, Greater}
use Rattle.std.specs.Ordering.{ordering_reverse}
use Rattle.shim_base.specs.Paths.{Path, path_order}
use Rattle.shim_base.specs.PathLaws.{path_order_total, exact_path}
use Rattle.shim_base.proofs.Facts.{some_same}
use Rattle.shim_base.specs.Lists.{IsAmong}
use Rattle.shim_semantics.proofs.Members.{among_either}
use Rattle.shim_waits.specs.declared.explained.Wait.{Wait}
use Rattle.shim_waits.specs.Cycles.{by_of, WaitInTurn, ComesByWaits, here, further, lesser_by, least_of}

-- ---- the order of paths

pub no_less_itself : (p q : Path) → path_order p q ≡ Less → p ≡ q → ⊥
no_less_itself p q e h = by (path_order q q) (ap (λ z. path_order z q) (sym h) ∙ e) (path_order_total.antisymm q q)
  where
    by : (r : Ordering) → r ≡ Less → r ≡ ordering_reverse r → ⊥
    by Less e f = cc
    by Equal e f = cc
    by Greater e f = cc

pub not_both_less : (p q : Path) → path_order p q ≡ Less → path_order q p ≡ Less → ⊥
not_both_less p q e f = no_less_itself p p (path_order_total.trans p q p e f) refl

-- the least of some paths: it is one of them, and each is it or comes after it
pub record IsLeast (m : Path) (ps : List Path) : Type 0 where
  pub among : IsAmong m ps
  pub least : (q : Path) → IsAmong q ps → (q ≡ m) ⊎ (path_order m q ≡ Less)

first_least : (p m : Path) (qs : List Path) → (path_order p m ≡ Less) ⊎ (p ≡ m) → IsLeast m qs → IsLeast p (p ∷ qs)
first_least p m qs c w = record {
  among = inl refl;
  least = λ q i. elim i [
    | inl z ↦ inl z
    | inr z ↦ elim c [
      | inl e ↦ elim (w.least q z) [ inl y ↦ inr (ap (path_order p) y ∙ e) | inr y ↦ inr (path_order_total.trans p m q e y) ]
      | inr e ↦ elim (w.least q z) [ inl y ↦ inl (y ∙ sym e) | inr y ↦ inr (ap (λ x. path_order x q) e ∙ y) ]
    ]
  ];
}

later_least : (p m : Path) (qs : List Path) → path_order m p ≡ Less → IsLeast m qs → IsLeast m (p ∷ qs)
later_least p m qs e w = record { among = inr w.among; least = λ q i. elim i [ inl z ↦ inr (ap (path_order m) z ∙ e) | inr z ↦ w.least q z ] }

lesser_least : (p m : Path) (qs : List Path) → IsLeast m qs → IsLeast (lesser_by (path_order p m) p m) (p ∷ qs)
lesser_least p m qs w = by (path_order p m) refl
  where
    by : (r : Ordering) → path_order p m ≡ r → IsLeast (lesser_by (path_order p m) p m) (p ∷ qs)
    by Less e = subst (λ r. IsLeast (lesser_by r p m) (p ∷ qs)) (sym e) (first_least p m qs (inl e) w)
    by Equal e = subst (λ r. IsLeast (lesser_by r p m) (p ∷ qs)) (sym e) (first_least p m qs (inr (exact_path p m e)) w)
    by Greater e = subst (λ r. IsLeast (lesser_by r p m) (p ∷ qs)) (sym e) (later_least p m qs (path_order_total.antisymm m p ∙ ap ordering_reverse e) w)

pub least_is : (p : Path) (ps : List Path) → IsLeast (least_of p ps) (p ∷ ps)
least_is p [] = record { among = inl refl; least = λ q h. elim h [ inl z ↦ inl z | inr z ↦ absurd z ] }
least_is p (q ∷ qs) = lesser_least p (least_of q qs) (q ∷ qs) (least_is q qs)

module _ (ws : List Wait) where
  -- ---- a way in two parts

  pub join : (p : Path) (xs : List Path) (m : Path) (ys : List Path) (z : Path) → WaitInTurn ws p xs m → WaitInTurn ws m ys z → WaitInTurn ws p (xs ++ m ∷ ys) z
  join p [] m ys z a b = (a, b)
  join p (x ∷ xs) m ys z a b = (a.0, join x xs m ys z a.1 b)

  pub record Split (p m z : Path) (xs : List Path) : Type 0 where
    pub before : List Path
    pub behind : List Path
    pub to : WaitInTurn ws p before m
    pub from : WaitInTurn ws m behind z
    pub first : (q : Path) → IsAmong q before → IsAmong q xs
    pub second : (q : Path) → IsAmong q behind → IsAmong q xs

  pub split : (p : Path) (xs : List Path) (z m : Path) → WaitInTurn ws p xs z → IsAmong m xs → Split p m z xs
  split p [] z m l i = absurd i
  split p (x ∷ xs) z m l (inl h) = record {
    before = [];
    behind = xs;
    to = l.0 ∙ ap Some (sym h);
    from = subst (λ y. WaitInTurn ws y xs z) (sym h) l.1;
    first = λ q i. absurd i;
    second = λ q i. inr i;
  }
  split p (x ∷ xs) z m l (inr h) =
      let w = split x xs z m l.1 h in
      record {
        before = x ∷ w.before;
        behind = w.behind;
        to = (l.0, w.to);
        from = w.from;
        first = λ q i. elim i [ inl y ↦ inl y | inr y ↦ inr (w.first q y) ];
        second = λ q i. inr (w.second q i);
      }

  -- a way there and back begins at each path on it
  pub around : (x : Path) (xs : List Path) (m : Path) → WaitInTurn ws x xs x → IsAmong m (x ∷ xs) → (zs : List Path) × WaitInTurn ws m zs m × ((q : Path) → IsAmong q zs → IsAmong q (x ∷ xs))
  around x xs m l (inl h) = (xs, subst (λ z. WaitInTurn ws z xs z) (sym h) l, λ q i. inr i)
  around x xs m l (inr h) =
      let w = split x xs x m l h in (
        w.behind ++ x ∷ w.before,
        join m w.behind x w.before m w.from w.to,
        λ q i. elim (among_either q w.behind (x ∷ w.before) i) [ inl y ↦ inr (w.second q y) | inr y ↦ elim y [ inl z ↦ inl z | inr z ↦ inr (w.first q z) ] ],
      )

  -- ---- who comes where

  pub comes_on : (s p : Path) (xs : List Path) (z m : Path) → ComesByWaits ws s p → WaitInTurn ws p xs z → IsAmong m xs → ComesByWaits ws s m
  comes_on s p [] z m c l i = absurd i
  comes_on s p (x ∷ xs) z m c l (inl h) = subst (ComesByWaits ws s) (sym h) (further p x c l.0)
  comes_on s p (x ∷ xs) z m c l (inr h) = comes_on s x xs z m (further p x c l.0) l.1 h

  pub comes_to : (s p : Path) (xs : List Path) (z : Path) → ComesByWaits ws s p → WaitInTurn ws p xs z → ComesByWaits ws s z
  comes_to s p [] z c l = further p z c l
  comes_to s p (x ∷ xs) z c l = comes_to s x xs z (further p x c l.0) l.1

  -- of two paths to which one comes, one comes from the one to the other
  one_step : (q a b : Path) → by_of ws q ≡ Some a → ComesByWaits ws q b → (q ≡ b) ⊎ ComesByWaits ws a b
  one_step q a b e here = inl refl
  one_step q a b e (further r d c f) = elim (one_step q a r e c) [
    | inl z ↦ inr (subst (ComesByWaits ws a) (some_same a b (sym e ∙ (ap (by_of ws) z ∙ f))) here)
    | inr z ↦ inr (further r b z f)
  ]

  pub either_way : (s a b : Path) → ComesByWaits ws s a → ComesByWaits ws s b → ComesByWaits ws a b ⊎ ComesByWaits ws b a
  either_way s a b here y = inl y
  either_way s a b (further q d x e) y = elim (either_way s q b x y) [
    | inl z ↦ elim (one_step q a b e z) [
      | inl w ↦ inr (further b a here (ap (by_of ws) (sym w) ∙ e))
      | inr w ↦ inl w
    ]
    | inr z ↦ inr (further q a z e)
  ]

  -- what comes next on a way is on it, or its end
  next_on : (p : Path) (xs : List Path) (z q r : Path) → WaitInTurn ws p xs z → IsAmong q (p ∷ xs) → by_of ws q ≡ Some r → (r ≡ z) ⊎ IsAmong r xs
  next_on p [] z q r l (inl h) e = inl (some_same r z (sym e ∙ (ap (by_of ws) h ∙ l)))
  next_on p [] z q r l (inr h) e = absurd h
  next_on p (x ∷ xs) z q r l (inl h) e = inr (inl (some_same r x (sym e ∙ (ap (by_of ws) h ∙ l.0))))
  next_on p (x ∷ xs) z q r l (inr h) e = elim (next_on x xs z q r l.1 h e) [ inl y ↦ inl y | inr y ↦ inr (inr y) ]

  -- so from a cycle one comes to nothing else
  pub stays_on : (m : Path) (xs : List Path) (b : Path) → WaitInTurn ws m xs m → ComesByWaits ws m b → IsAmong b (m ∷ xs)
  stays_on m xs b l here = inl refl
  stays_on m xs b l (further q d c e) = elim (next_on m xs m q b l (stays_on m xs q l c) e) [ inl y ↦ inl y | inr y ↦ inr y ]

  pub back_again : (m : Path) (xs : List Path) (b : Path) → WaitInTurn ws m xs m → IsAmong b (m ∷ xs) → ComesByWaits ws b m
  back_again m xs b l i = let w = around m xs b l i in by w.0 w.1 i
    where
      by : (zs : List Path) → WaitInTurn ws b zs b → IsAmong b (m ∷ xs) → ComesByWaits ws b m
      by zs k (inl h) = subst (ComesByWaits ws b) h here
      by zs k (inr h) = let w = split m xs m b l h in comes_to b b w.behind m here w.from

  -- two ways from a path to the first return to another one are the same
  pub same_rest : (p z : Path) (xs ys : List Path) → WaitInTurn ws p xs z → WaitInTurn ws p ys z → (IsAmong z xs → ⊥) → (IsAmong z ys → ⊥) → xs ≡ ys
  same_rest p z [] [] a b f g = refl
  same_rest p z [] (y ∷ ys) a b f g = absurd (g (inl (some_same z y (sym a ∙ b.0))))
  same_rest p z (x ∷ xs) [] a b f g = absurd (f (inl (some_same z x (sym b ∙ a.0))))
  same_rest p z (x ∷ xs) (y ∷ ys) a b f g =
      let h = some_same x y (sym a.0 ∙ b.0) in
      let t = same_rest x z xs ys a.1 (subst (λ w. WaitInTurn ws w ys z) (sym h) b.1) (λ i. f (inr i)) (λ i. g (inr i)) in
      λ i. h i ∷ t i
