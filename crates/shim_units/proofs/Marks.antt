-- Numbers that are marked as they come, and those that came first.
use Rattle.std.proofs.Common.{ℕ, ◌≡◌, ◌∙◌, List, [], ◌∷◌, ◌++◌, Bool, true, false, ◌||◌, not, get_or, nat_eq, refl, sym, ap, eqb-true}
use Rattle.shim_units.specs.Lifting.{is_among}

-- whether the place is marked: past the end none is
abbrev pub is_marked : List Bool → ℕ → Bool
is_marked marks x = get_or marks x false

or_assoc : (a b c : Bool) → (a || b) || c ≡ a || (b || c)
or_assoc true b c = refl
or_assoc false b c = refl

or_false : (a : Bool) → a || false ≡ a
or_false true = refl
or_false false = refl

or_true : (a : Bool) → a || true ≡ true
or_true true = refl
or_true false = refl

-- one more among them
among_more : (ys : List ℕ) (r x : ℕ) → is_among (ys ++ r ∷ []) x ≡ is_among ys x || nat_eq r x
among_more [] r x = or_false (nat_eq r x)
among_more (y ∷ ys) r x = ap (λ b. nat_eq y x || b) (among_more ys r x) ∙ sym (or_assoc (nat_eq y x) (is_among ys x) (nat_eq r x))

-- those that are made are those that came, and they are marked
pub record AreMarked (marks : List Bool) (made come : List ℕ) : Type 0 where
  pub marked : (x : ℕ) → is_marked marks x ≡ is_among come x
  pub same : (x : ℕ) → is_among made x ≡ is_among come x

pub none_marked : AreMarked [] [] []
none_marked = record { marked = λ x. refl; same = λ x. refl }

module _ (marks new : List Bool) (made come : List ℕ) (r : ℕ) (old : AreMarked marks made come) (step : (x : ℕ) → is_marked new x ≡ is_marked marks x || nat_eq r x) where
  marked_more : (x : ℕ) → is_marked new x ≡ is_among (come ++ r ∷ []) x
  marked_more x = step x ∙ ap (λ b. b || nat_eq r x) (old.marked x) ∙ sym (among_more come r x)

  pub new_one : AreMarked new (made ++ r ∷ []) (come ++ r ∷ [])
  new_one = record {
    marked = marked_more;
    same = λ x. among_more made r x ∙ ap (λ b. b || nat_eq r x) (old.same x) ∙ sym (among_more come r x);
  }

  pub old_one : is_marked marks r ≡ true → AreMarked new made (come ++ r ∷ [])
  old_one known = record {
    marked = marked_more;
    same = λ x. old.same x ∙ by (nat_eq r x) x refl ∙ sym (among_more come r x);
  }
    where
      by : (b : Bool) (x : ℕ) → nat_eq r x ≡ b → is_among come x ≡ is_among come x || b
      by true x e =
          ap (is_among come) (sym (eqb-true r x e)) ∙ sym (old.marked r) ∙ known ∙ sym (or_true (is_among come x))
      by false x e = sym (or_false (is_among come x))

pub same_marked : (marks : List Bool) {made one come others : List ℕ} → made ≡ one → come ≡ others → AreMarked marks one others → AreMarked marks made come
same_marked marks e h old = rw e (rw h old)

pub was_marked : (b fresh : Bool) → fresh ≡ not b → fresh ≡ false → b ≡ true
was_marked true fresh e h = refl
was_marked false fresh e h = absurd (cc)
