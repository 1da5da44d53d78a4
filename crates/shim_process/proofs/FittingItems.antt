-- What a unit has still to do is of statements that fit, wherever it goes from there.
use Rattle.std.proofs.Common.{◌≡◌, ◌∙◌, ℕ, zero, suc, ◌+◌, Bool, true, ◌&&◌, List, [], ◌∷◌, ◌++◌, take, map, Some, refl, sym, ap, subst}
use Rattle.std.proofs.lemmas.Bool.{and_parts}
use Rattle.std.specs.Prelude.{slice_get}
use Rattle.shim_units.specs.declared.form.Form.{Form}
use Rattle.shim_units.specs.declared.unit.Unit.{Unit as UnitOf}
use Rattle.shim_units.specs.declared.unit.UStmt.{UStmt, UStmt-F, ind-UStmt, roll-UStmt, fold-roll-UStmt}
use Rattle.shim_units.specs.declared.unit.UWhat.{UWhat, UWhat-F, out-UWhat, roll-UWhat, map-UWhat, fold-UWhat, fold-roll-UWhat, roll-out-UWhat}
use Rattle.shim_process.specs.Todo.{Item, Do, Leave, Successor, First, Second, what_items, items, items_all, follow_what, followed}
use Rattle.shim_units.specs.Numbering as numbering
use Rattle.shim_process.specs.LocalState.{ExceptionPlace}
use Rattle.shim_process.specs.OwnSlots.{is_own_variable, what_fits, fits, all_fit}
use Rattle.shim_process.specs.FittingFrames.{ItemsFit, VariableFits, PlacesFit}
use Rattle.shim_base.proofs.Facts.{some_same}
use Rattle.shim_process.proofs.TodoItems.{items_what, items_roll, line_of}

module _ (p : Form) (u : UnitOf) where
  abbrev pub fits_what : UWhat → Bool
  fits_what = fold-UWhat Bool Bool (what_fits p u) (λ s. s.what)

  abbrev pub fits_layer : UWhat-F UWhat UStmt → Bool
  fits_layer x = what_fits p u (map-UWhat UWhat UStmt Bool Bool fits_what (fits p u) x)

  fits_roll : (l : ℕ) (x : UWhat-F UWhat UStmt) → fits p u (line_of l (roll-UWhat x)) ≡ fits_layer x
  fits_roll l x =
      let d : UStmt-F UWhat UStmt = record { line = l; what = roll-UWhat x } in
      fold-roll-UStmt Bool Bool (what_fits p u) (λ s. s.what) d
      ∙ fold-roll-UWhat Bool Bool (what_fits p u) (λ s. s.what) x

  -- the statement fits as far as its kind
  pub fits_out : (s : UStmt) → fits p u s ≡ fits_layer (out-UWhat s.what)
  fits_out s =
      let a : fits p u s ≡ fits_what s.what = fold-roll-UStmt Bool Bool (what_fits p u) (λ s. s.what) (record { line = s.line; what = s.what }) in
      a ∙ (ap fits_what (sym (roll-out-UWhat s.what)) ∙ fold-roll-UWhat Bool Bool (what_fits p u) (λ s. s.what) (out-UWhat s.what))

  pub both_fit : (j k : List Item) → ItemsFit p u j → ItemsFit p u k → ItemsFit p u (j ++ k)
  both_fit [] k f g = g
  both_fit (Leave ∷ j) k f g = both_fit j k f g
  both_fit (Do n s ∷ j) k f g = (f.0, both_fit j k f.1 g)

  -- all that is to be done for the statement fits where it does
  abbrev Good : UStmt → Type 0
  Good s = (n : ℕ) → fits p u s ≡ true → ItemsFit p u (items s n)

  abbrev AllGood : List UStmt → Type 0
  AllGood [] = Unit {0}
  AllGood (s ∷ ss) = Good s × AllGood ss

  all_items : (ss : List UStmt) → AllGood ss → (n : ℕ) → all_fit p u ss ≡ true → ItemsFit p u (items_all ss n)
  all_items [] good n h = tt
  all_items (s ∷ ss) good n h =
      let w = and_parts (fits p u s) (all_fit p u ss) h in
      both_fit (items s n) (items_all ss (n + numbering.size_of s)) (good.0 n w.0) (all_items ss good.1 (n + numbering.size_of s) w.1)

  one_item : (s : UStmt) → ((n : ℕ) → items s n ≡ Do n s ∷ []) → Good s
  one_item s is n h = subst (ItemsFit p u) (sym (is n)) (h, tt)

  abbrev WhatGood : UWhat → Type 0
  WhatGood w = (l : ℕ) → Good (line_of l w)

  abbrev Such : Type 0
  Such = (s : UStmt) × Good s

  abbrev SuchWhat : Type 0
  SuchWhat = (w : UWhat) × WhatGood w

  abbrev bare : UWhat-F SuchWhat Such → UWhat-F UWhat UStmt
  bare = map-UWhat SuchWhat Such UWhat UStmt (λ e. e.0) (λ e. e.0)

  abbrev plain : List Such → List UStmt
  plain y = map (λ e. e.0) y

  all_good : (y : List Such) → AllGood (plain y)
  all_good [] = tt
  all_good (e ∷ es) = (e.1, all_good es)

  simple : (l : ℕ) (x : UWhat-F UWhat UStmt) → ((n : ℕ) → what_items (map-UWhat UWhat UStmt _ _ (λ y. (y, items_what y)) (λ y. (y, items y)) x) (line_of l (roll-UWhat x)) n ≡ Do n (line_of l (roll-UWhat x)) ∷ []) → Good (line_of l (roll-UWhat x))
  simple l x is = one_item (line_of l (roll-UWhat x)) (λ n. ap (λ f. f n) (items_roll l x) ∙ is n)

  good_cases : (y : UWhat-F SuchWhat Such) → WhatGood (roll-UWhat (bare y))
  good_cases (UWhat-F.Block a) l = λ n h.
      let x = bare (UWhat-F.Block a) in
      subst (ItemsFit p u) (sym (ap (λ f. f n) (items_roll l x))) (all_items (plain a) (all_good a) n (sym (fits_roll l x) ∙ h))
  good_cases (UWhat-F.For a e st b) l = λ n h.
      let x = bare (UWhat-F.For a e st b) in
      let w = and_parts (all_fit p u (plain a)) _ (sym (fits_roll l x) ∙ h) in
      subst (ItemsFit p u) (sym (ap (λ f. f n) (items_roll l x))) (both_fit (items_all (plain a) n) (Do _ (line_of l (roll-UWhat x)) ∷ []) (all_items (plain a) (all_good a) n w.0) (h, tt))
  good_cases (UWhat-F.Declare t v e) l = simple l (bare (UWhat-F.Declare t v e)) (λ n. refl)
  good_cases (UWhat-F.Assign v e) l = simple l (bare (UWhat-F.Assign v e)) (λ n. refl)
  good_cases (UWhat-F.Next v) l = simple l (bare (UWhat-F.Next v)) (λ n. refl)
  good_cases (UWhat-F.NextAssign v e) l = simple l (bare (UWhat-F.NextAssign v e)) (λ n. refl)
  good_cases (UWhat-F.AssignNext v w) l = simple l (bare (UWhat-F.AssignNext v w)) (λ n. refl)
  good_cases (UWhat-F.Get v w) l = simple l (bare (UWhat-F.Get v w)) (λ n. refl)
  good_cases (UWhat-F.Put v e) l = simple l (bare (UWhat-F.Put v e)) (λ n. refl)
  good_cases (UWhat-F.If e a b) l = simple l (bare (UWhat-F.If e a b)) (λ n. refl)
  good_cases (UWhat-F.While e a) l = simple l (bare (UWhat-F.While e a)) (λ n. refl)
  good_cases (UWhat-F.Call v) l = simple l (bare (UWhat-F.Call v)) (λ n. refl)
  good_cases (UWhat-F.Try a t v b) l = simple l (bare (UWhat-F.Try a t v b)) (λ n. refl)
  good_cases (UWhat-F.Throw v e) l = simple l (bare (UWhat-F.Throw v e)) (λ n. refl)
  good_cases (UWhat-F.Par v) l = simple l (bare (UWhat-F.Par v)) (λ n. refl)

  good : (s : UStmt) → Good s
  good = ind-UStmt WhatGood Good
      (λ x y is. subst (λ z. WhatGood (roll-UWhat z)) is (good_cases y))
      (λ x y is. subst (λ z. Good (roll-UStmt z)) is (y.what.1 y.line))

  every_good : (ss : List UStmt) → AllGood ss
  every_good [] = tt
  every_good (s ∷ ss) = (good s, every_good ss)

  -- a unit's body is such
  pub body_fits : (ss : List UStmt) (n : ℕ) → all_fit p u ss ≡ true → ItemsFit p u (items_all ss n)
  body_fits ss n h = all_items ss (every_good ss) n h

  -- on from the statement that is next

  what_follows : (x : UWhat-F UWhat UStmt) (successor : Successor) (n : ℕ) (s : UStmt) (k : List Item) → fits_layer x ≡ true → fits p u s ≡ true → ItemsFit p u k → ItemsFit p u (follow_what x successor n s k)
  what_follows (UWhat-F.If e a b) First n s k h own rest = both_fit (items_all a (n + 1)) k (body_fits a (n + 1) (and_parts (all_fit p u a) (all_fit p u b) h).0) rest
  what_follows (UWhat-F.If e a b) Second n s k h own rest = both_fit (items_all b (n + 1 + numbering.size_all a)) k (body_fits b (n + 1 + numbering.size_all a) (and_parts (all_fit p u a) (all_fit p u b) h).1) rest
  what_follows (UWhat-F.While e a) First n s k h own rest = both_fit (items_all a (n + 1)) (Do n s ∷ k) (body_fits a (n + 1) h) (own, rest)
  what_follows (UWhat-F.For a e st b) First n s k h own rest =
      let w = and_parts (all_fit p u a) (all_fit p u st && all_fit p u b) h in
      let v = and_parts (all_fit p u st) (all_fit p u b) w.1 in
      let step : List Item = items_all st (n + 1 + numbering.size_all b) in
      both_fit (items_all b (n + 1)) (step ++ Do n s ∷ k) (body_fits b (n + 1) v.1) (both_fit step (Do n s ∷ k) (body_fits st (n + 1 + numbering.size_all b) v.0) (own, rest))
  what_follows (UWhat-F.Try a t v b) First n s k h own rest =
      both_fit (items_all a (n + 1)) (Leave ∷ k) (body_fits a (n + 1) (and_parts (all_fit p u a) (is_own_variable u v && all_fit p u b) h).0) rest
  what_follows (UWhat-F.Try a t v b) Second n s k h own rest =
      let w = and_parts (all_fit p u a) (is_own_variable u v && all_fit p u b) h in
      both_fit (items_all b (n + 1 + numbering.size_all a)) k (body_fits b (n + 1 + numbering.size_all a) (and_parts (is_own_variable u v) (all_fit p u b) w.1).1) rest
  what_follows _ successor n s k h own rest = rest

  pub followed_fits : (successor : Successor) (k : List Item) → ItemsFit p u k → ItemsFit p u (followed successor k)
  followed_fits successor [] h = tt
  followed_fits successor (Leave ∷ k) h = h
  followed_fits successor (Do n s ∷ k) h = what_follows (out-UWhat s.what) successor n s k (sym (fits_out s) ∙ h.0) h.0 h.1

  -- exception places

  pub places_take : (i : ℕ) (es : List ExceptionPlace) → PlacesFit p u es → PlacesFit p u (take i es)
  places_take zero es h = tt
  places_take (suc i) [] h = tt
  places_take (suc i) (e ∷ es) h = (h.0, h.1, places_take i es h.2)

  pub places_more : (es fs : List ExceptionPlace) → PlacesFit p u es → PlacesFit p u fs → PlacesFit p u (es ++ fs)
  places_more [] fs h g = g
  places_more (e ∷ es) fs h g = (h.0, h.1, places_more es fs h.2 g)

  pub place_at : (es : List ExceptionPlace) (i : ℕ) (e : ExceptionPlace) → PlacesFit p u es → slice_get es i ≡ Some e → ItemsFit p u e.todo
  place_at [] i e h is = absurd cc
  place_at (x ∷ es) zero e h is = subst (λ (z : ExceptionPlace). ItemsFit p u z.todo) (some_same x e is) h.0
  place_at (x ∷ es) (suc i) e h is = place_at es i e h.2 is

  pub variable_at : (es : List ExceptionPlace) (i : ℕ) (e : ExceptionPlace) → PlacesFit p u es → slice_get es i ≡ Some e → VariableFits u e.variable
  variable_at [] i e h is = absurd cc
  variable_at (x ∷ es) zero e h is = subst (λ (z : ExceptionPlace). VariableFits u z.variable) (some_same x e is) h.1
  variable_at (x ∷ es) (suc i) e h is = variable_at es i e h.2 is
