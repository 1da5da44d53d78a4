-- Numbers in lists, and lists none of whose numbers is there twice.
use Rattle.std.proofs.Common.{◌≡◌, ◌<◌, ◌≤◌, ◌⊎◌, ℕ, zero, suc, Bool, true, false, ◌||◌, ◌&&◌, Some, List, [], ◌∷◌, inl, inr, refl, sym, ap, subst, ◌∙◌, arith}
use Rattle.std.specs.Prelude.{eqb, ltb}
use Rattle.std.proofs.lemmas.Bool.{le-ltb, ltb-true, eqb-true}
use Rattle.shim_base.specs.Paths.{Path, Channel}
use Rattle.shim_base.proofs.Facts.{some_same, none_some, either_holds, first_holds, second_holds, or_false, and_false}
use Rattle.shim_local.specs.Process.{Ops}
use Rattle.shim_semantics.proofs.HowMany.{clash}
use Rattle.shim_laws_table.specs.NodeStatus.{place}
use Rattle.shim_laws_table.specs.Sources.{is_before}
use Rattle.shim_laws_table.proofs.SameTrees.{same_or_not}
use Rattle.shim_records.specs.Members.{IsAmong}
use Rattle.shim_laws_table_events.specs.keeping.Tables.{TableView}
use Rattle.shim_laws_table_events.specs.meetings.Sharers.{SharesFrom, Precedes, InOrder, AreSharers}
pub use Rattle.shim_laws_table_events.specs.meetings.Sharers.{AreDistinct}

pub none_among : {A B : Type 0} (x : A) → IsAmong x [] → B
none_among x g = none_some x g.1

pub among_later : {A : Type 0} (x y : A) (xs : List A) → IsAmong x xs → IsAmong x (y ∷ xs)
among_later x y xs g = (suc g.0, g.1)

-- it is the first of them, or after it
pub among_split : {A : Type 0} (x y : A) (xs : List A) → IsAmong x (y ∷ xs) → (y ≡ x) ⊎ IsAmong x xs
among_split x y xs (zero, e) = inl (some_same y x e)
among_split x y xs (suc i, e) = inr (i, e)

pub among_or_not : (i : ℕ) (xs : List ℕ) → IsAmong i xs ⊎ (IsAmong i xs → ⊥)
among_or_not i [] = inr (λ g. none_among i g)
among_or_not i (x ∷ xs) = elim (same_or_not x i) [
  | inl e ↦ inl (0, ap Some e)
  | inr n ↦ elim (among_or_not i xs) [
    | inl g ↦ inl (among_later i x xs g)
    | inr out ↦ inr (λ g. elim (among_split i x xs g) [ inl e ↦ n e | inr h ↦ out h ])
  ]
]

-- no place comes before itself
pub not_before : (p : List ℕ) → is_before p p ≡ false
not_before [] = refl
not_before (x ∷ p) = (λ i. le-ltb x x (itself x) i || (eqb x x && not_before p i)) ∙ nothing (eqb x x)
  where
    itself : (x : ℕ) → x ≤ x
    itself x = omega arith

    nothing : (b : Bool) → false || (b && false) ≡ false
    nothing true = refl
    nothing false = refl

-- nor before one that comes before it
pub not_behind : (p q : List ℕ) → is_before p q ≡ true → is_before q p ≡ false
not_behind [] [] e = absurd cc
not_behind [] (y ∷ q) e = refl
not_behind (x ∷ p) [] e = absurd cc
not_behind (x ∷ p) (y ∷ q) e = elim (either_holds (ltb x y) (eqb x y && is_before p q) e) [
  | inl less ↦
      let w = ltb-true x y less in
      or_false (ltb y x) (eqb y x && is_before q p) (le-ltb y x (omega (arith, w))) (unless (eqb y x) (is_before q p) (λ same. let u = eqb-true y x same in more_or_less x y w u))
  | inr h ↦
      let same = eqb-true x y (first_holds (eqb x y) (is_before p q) h) in
      or_false (ltb y x) (eqb y x && is_before q p) (le-ltb y x (omega (arith, same))) (and_false (eqb y x) (is_before q p) (not_behind p q (second_holds (eqb x y) (is_before p q) h)))
]
  where
    unless : (a b : Bool) → (a ≡ true → ⊥) → a && b ≡ false
    unless true b h = absurd (h refl)
    unless false b h = refl

    more_or_less : (x y : ℕ) → x < y → y ≡ x → ⊥
    more_or_less x y less same = omega (arith, less, same)

module _ {S : Type 0} (o : Ops S) (rp : Path) (v : TableView S) (c : Channel) (q : List ℕ) where
  each_distinct : (numbers : List ℕ) → ((i : ℕ) → IsAmong i numbers → SharesFrom o rp v c q i) → InOrder (Precedes o rp v) numbers → AreDistinct numbers
  each_distinct [] only h = tt
  each_distinct (x ∷ xs) only h = (
    (λ y g same.
        let w = only x (0, refl) in
        clash (is_before (place o rp w.state) (place o rp w.state)) (h.0 x (subst (λ z. IsAmong z xs) (sym same) g) w.first w.first w.state w.state w.status w.status w.has w.has) (not_before (place o rp w.state))),
    each_distinct xs (λ i g. only i (among_later i x xs g)) h.1,
  )

  pub distinct : (numbers : List ℕ) → AreSharers o rp v c q numbers → AreDistinct numbers
  distinct numbers are = each_distinct numbers are.only are.ordered
