-- What an expression of a unit reads is in scope and a number, where each variable that its text names is.
use Rattle.std.proofs.Common.{ℕ, ℤ, ◌≡◌, ◌∙◌, true, List, [], ◌∷◌, ◌++◌, Option, Some, None, refl, sym, ap, subst}
use Rattle.std.proofs.lemmas.Bool.{and_parts}
use Rattle.shim_base.specs.declared.operators.BinOp.{BinOp}
use Rattle.shim_base.specs.declared.operators.UnOp.{UnOp}
use Rattle.shim_scopes.specs.declared.tree.UExpr.{UExpr, UExpr-F, fold-roll-UExpr, ind-UExpr, map-UExpr, roll-UExpr}
use Rattle.shim_scopes.specs.declared.tree.UExpr.TheVariants as to
use Rattle.shim_units.specs.declared.found.Use.{Use}
use Rattle.shim_units.specs.declared.unit.Unit.{Unit as UnitOf}
use Rattle.shim_units.specs.Moving.{slot_index_of, moved_step, renumbered, moved_option}
use Rattle.shim_units.specs.Uses.{names_in, names_in_option}
use Rattle.shim_base.proofs.Facts.{both_hold}
use Rattle.shim_laws_stops.specs.InScope.{has_number, variables_step, variables_read, have_numbers, reads_right, option_right}
use Rattle.shim_laws_stops.proofs.Among.{first_of}
use Rattle.shim_laws_stops.proofs.ScopeLists.{Names, names_first, names_second}
use Rattle.shim_laws_stops.proofs.ScopeExprs.{names_variable, names_unary, names_binary}

-- what an expression of each kind reads

variables_number : (n : ℤ) → variables_read (to.Number n) ≡ []
unfolding variables_read roll-UExpr denote.Hole.Carrier.roll
variables_number n = fold-roll-UExpr (List ℕ) variables_step (UExpr-F.Number n)

pub variables_variable : (x : ℕ) → variables_read (to.Var x) ≡ x ∷ []
unfolding variables_read roll-UExpr denote.Hole.Carrier.roll
variables_variable x = fold-roll-UExpr (List ℕ) variables_step (UExpr-F.Var x)

variables_unary : (op : UnOp) (a : UExpr) → variables_read (to.Unary op a) ≡ variables_read a
unfolding variables_read roll-UExpr denote.Hole.Carrier.roll
variables_unary op a = fold-roll-UExpr (List ℕ) variables_step (UExpr-F.Unary op a)

variables_binary : (op : BinOp) (a b : UExpr) → variables_read (to.Binary op a b) ≡ variables_read a ++ variables_read b
unfolding variables_read roll-UExpr denote.Hole.Carrier.roll
variables_binary op a b = fold-roll-UExpr (List ℕ) variables_step (UExpr-F.Binary op a b)

-- an expression of each kind over a unit's slots

moved_number : (slots : List ℕ) (n : ℤ) → renumbered slots (to.Number n) ≡ to.Number n
unfolding renumbered roll-UExpr denote.Hole.Carrier.roll
moved_number slots n = fold-roll-UExpr UExpr (moved_step slots) (UExpr-F.Number n)

moved_variable : (slots : List ℕ) (x : ℕ) → renumbered slots (to.Var x) ≡ to.Var (slot_index_of slots x)
unfolding renumbered roll-UExpr denote.Hole.Carrier.roll
moved_variable slots x = fold-roll-UExpr UExpr (moved_step slots) (UExpr-F.Var x)

moved_unary : (slots : List ℕ) (op : UnOp) (a : UExpr) → renumbered slots (to.Unary op a) ≡ to.Unary op (renumbered slots a)
unfolding renumbered roll-UExpr denote.Hole.Carrier.roll
moved_unary slots op a = fold-roll-UExpr UExpr (moved_step slots) (UExpr-F.Unary op a)

moved_binary : (slots : List ℕ) (op : BinOp) (a b : UExpr) → renumbered slots (to.Binary op a b) ≡ to.Binary op (renumbered slots a) (renumbered slots b)
unfolding renumbered roll-UExpr denote.Hole.Carrier.roll
moved_binary slots op a b = fold-roll-UExpr UExpr (moved_step slots) (UExpr-F.Binary op a b)

module _ (slots : List ℕ) (u : UnitOf) (xs : List ℕ) where
  -- the place of each variable that these uses name is in scope, and that of a number
  abbrev pub AreRight : List Use → Type 0
  AreRight us = (y : ℕ) → Names us y → has_number u xs (slot_index_of slots y) ≡ true

  abbrev IsRight : UExpr → Type 0
  IsRight e = AreRight (names_in e) → reads_right u xs (renumbered slots e) ≡ true

  numbers_both : (ys zs : List ℕ) → have_numbers u xs ys ≡ true → have_numbers u xs zs ≡ true → have_numbers u xs (ys ++ zs) ≡ true
  numbers_both [] zs h k = k
  numbers_both (y ∷ ys) zs h k =
      let w = and_parts (has_number u xs y) (have_numbers u xs ys) h in
      both_hold (has_number u xs y) (have_numbers u xs (ys ++ zs)) w.0 (numbers_both ys zs w.1 k)

  abbrev Such : Type 0
  Such = (e : UExpr) × IsRight e

  by_kind : (y : UExpr-F Such) → IsRight (roll-UExpr (map-UExpr Such UExpr (λ e. e.0) y))
  unfolding roll-UExpr denote.Hole.Carrier.roll
  by_kind (UExpr-F.Number n) h = ap (reads_right u xs) (moved_number slots n) ∙ ap (have_numbers u xs) (variables_number n)
  by_kind (UExpr-F.Var x) h =
      let named = subst (λ us. Names us x) (sym (names_variable x)) (first_of x []) in
      ap (reads_right u xs) (moved_variable slots x) ∙ ap (have_numbers u xs) (variables_variable (slot_index_of slots x)) ∙ both_hold (has_number u xs (slot_index_of slots x)) true (h x named) refl
  by_kind (UExpr-F.Unary op a) h =
      ap (reads_right u xs) (moved_unary slots op a.0) ∙ ap (have_numbers u xs) (variables_unary op (renumbered slots a.0)) ∙ a.1 (λ y n. h y (subst (λ us. Names us y) (sym (names_unary op a.0)) n))
  by_kind (UExpr-F.Binary op a b) h =
      ap (reads_right u xs) (moved_binary slots op a.0 b.0) ∙ ap (have_numbers u xs) (variables_binary op (renumbered slots a.0) (renumbered slots b.0))
      ∙ numbers_both (variables_read (renumbered slots a.0)) (variables_read (renumbered slots b.0))
      (a.1 (λ y n. h y (subst (λ us. Names us y) (sym (names_binary op a.0 b.0)) (names_first (names_in a.0) (names_in b.0) y n))))
      (b.1 (λ y n. h y (subst (λ us. Names us y) (sym (names_binary op a.0 b.0)) (names_second (names_in a.0) (names_in b.0) y n))))

  pub reads_moved : (e : UExpr) → AreRight (names_in e) → reads_right u xs (renumbered slots e) ≡ true
  reads_moved = ind-UExpr IsRight (λ x y is. subst (λ z. IsRight (roll-UExpr z)) is (by_kind y))

  pub option_moved : (e : Option UExpr) → AreRight (names_in_option e) → option_right u xs (moved_option slots e) ≡ true
  option_moved None h = refl
  option_moved (Some e) h = reads_moved e h
