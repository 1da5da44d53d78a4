-- What a unit has still to do throws what is known there, wherever it goes from there.
use Rattle.std.proofs.Common.{◌≡◌, ◌∙◌, ◌<◌, ◌⊎◌, ℕ, zero, suc, ◌+◌, ◌-◌, true, ◌&&◌, inl, inr, List, [], ◌∷◌, ◌++◌, length, take, map, Some, refl, sym, ap, subst, arith, append_assoc, length-append}
use Rattle.std.proofs.lemmas.Bool.{and_parts}
use Rattle.std.proofs.lemmas.List.{take-append-le, take-take, take_all}
use Rattle.std.specs.Prelude.{slice_get}
use Rattle.shim_units.specs.declared.form.Form.{Form}
use Rattle.shim_units.specs.declared.unit.UStmt.{UStmt, UStmt-F, ind-UStmt, roll-UStmt, fold-roll-UStmt}
use Rattle.shim_units.specs.declared.unit.UWhat.{UWhat, UWhat-F, out-UWhat, roll-UWhat, map-UWhat, fold-roll-UWhat, roll-out-UWhat}
use Rattle.shim_units.specs.Numbering as numbering
use Rattle.shim_process.specs.Todo.{Item, Do, Leave, On, Second, what_items, items, items_all, follow_what, followed}
use Rattle.shim_process.specs.LocalState.{ExceptionPlace}
use Rattle.shim_process.specs.StatementViews.{exceptions_of}
use Rattle.shim_process.specs.Ends.{without_last}
use Rattle.shim_process.proofs.TodoItems.{items_what, items_roll, line_of}
use Rattle.shim_base.proofs.Facts.{some_same}
use Rattle.shim_laws_stops.specs.InForce.{InForce, what_throws, throws, all_throw}
use Rattle.shim_laws_stops.specs.FrameLabels.{AreInScope, ItemsThrow, PlacesThrow}
use Rattle.shim_laws_stops.proofs.Among.{Among, first_of, among_cases, among_first, among_second}
use Rattle.shim_laws_stops.proofs.ThrowSteps.{throws_what}

-- lists of places

pub without_added : (es : List ExceptionPlace) (e : ExceptionPlace) → without_last (es ++ e ∷ []) ≡ es
without_added es e =
    let long : length (es ++ e ∷ []) ≡ length es + 1 = length-append es (e ∷ []) in
    let n : ℕ = length (es ++ e ∷ []) - 1 in
    let same : n ≡ length es = omega (arith, long) in
    ap (λ k. take k (es ++ e ∷ [])) same ∙ take-append-le (length es) es (e ∷ []) (omega arith) ∙ take_all (length es) es (omega arith)

pub exceptions_more : (es : List ExceptionPlace) (e : ExceptionPlace) → exceptions_of (es ++ e ∷ []) ≡ exceptions_of es ++ e.exception ∷ []
exceptions_more [] e = refl
exceptions_more (x ∷ es) e = ap (λ l. x.exception ∷ l) (exceptions_more es e)

module _ (p : Form) where
  abbrev pub throws_layer : UWhat-F UWhat UStmt → InForce
  throws_layer x = what_throws p (map-UWhat UWhat UStmt InForce InForce (throws_what p) (throws p) x)

  throws_roll : (l : ℕ) (x : UWhat-F UWhat UStmt) (xs : List ℕ) → throws p (line_of l (roll-UWhat x)) xs ≡ throws_layer x xs
  throws_roll l x xs =
      let d : UStmt-F UWhat UStmt = record { line = l; what = roll-UWhat x } in
      ap (λ (f : InForce). f xs) (fold-roll-UStmt InForce InForce (what_throws p) (λ s. s.what) d ∙ fold-roll-UWhat InForce InForce (what_throws p) (λ s. s.what) x)

  -- a statement throws what its kind does
  pub throws_out : (s : UStmt) (xs : List ℕ) → throws p s xs ≡ throws_layer (out-UWhat s.what) xs
  throws_out s xs =
      let a : throws p s ≡ throws_what p s.what = fold-roll-UStmt InForce InForce (what_throws p) (λ s. s.what) (record { line = s.line; what = s.what }) in
      ap (λ (f : InForce). f xs) (a ∙ (ap (throws_what p) (sym (roll-out-UWhat s.what)) ∙ fold-roll-UWhat InForce InForce (what_throws p) (λ s. s.what) (out-UWhat s.what)))

  module _ (given : ℕ) where
    -- all that is to be done for the statement throws what is known, before whatever does
    abbrev Good : UStmt → Type 0
    Good s = (n : ℕ) (xs : List ℕ) (places : List ExceptionPlace) (k : List Item) → throws p s xs ≡ true → AreInScope given places xs → ItemsThrow p given places k → ItemsThrow p given places (items s n ++ k)

    abbrev AllGood : List UStmt → Type 0
    AllGood [] = Unit {0}
    AllGood (s ∷ ss) = Good s × AllGood ss

    all_items : (ss : List UStmt) → AllGood ss → (n : ℕ) (xs : List ℕ) (places : List ExceptionPlace) (k : List Item) → all_throw p ss xs ≡ true → AreInScope given places xs → ItemsThrow p given places k
        → ItemsThrow p given places (items_all ss n ++ k)
    all_items [] good n xs places k h known rest = rest
    all_items (s ∷ ss) good n xs places k h known rest =
        let w = and_parts (throws p s xs) (all_throw p ss xs) h in
        let m : ℕ = n + numbering.size_of s in
        subst (ItemsThrow p given places) (sym (append_assoc (items s n) (items_all ss m) k))
        (good.0 n xs places (items_all ss m ++ k) w.0 known (all_items ss good.1 m xs places k w.1 known rest))

    one_item : (s : UStmt) → ((n : ℕ) → items s n ≡ Do n s ∷ []) → Good s
    one_item s is n xs places k h known rest = subst (λ j. ItemsThrow p given places (j ++ k)) (sym (is n)) (record { exceptions = xs; known = known; right = h }, rest)

    abbrev WhatGood : UWhat → Type 0
    WhatGood w = (l : ℕ) → Good (line_of l w)

    abbrev Such : Type 0
    Such = (s : UStmt) × Good s

    abbrev SuchWhat : Type 0
    SuchWhat = (w : UWhat) × WhatGood w

    abbrev bare : UWhat-F SuchWhat Such → UWhat-F UWhat UStmt
    bare = map-UWhat SuchWhat Such UWhat UStmt (λ e. e.0) (λ e. e.0)

    abbrev plain : List Such → List UStmt
    plain y = map (λ e. e.0) y

    all_good : (y : List Such) → AllGood (plain y)
    all_good [] = tt
    all_good (e ∷ es) = (e.1, all_good es)

    simple : (l : ℕ) (x : UWhat-F UWhat UStmt) → ((n : ℕ) → what_items (map-UWhat UWhat UStmt _ _ (λ y. (y, items_what y)) (λ y. (y, items y)) x) (line_of l (roll-UWhat x)) n ≡ Do n (line_of l (roll-UWhat x)) ∷ []) → Good (line_of l (roll-UWhat x))
    simple l x is = one_item (line_of l (roll-UWhat x)) (λ n. ap (λ f. f n) (items_roll l x) ∙ is n)

    good_cases : (y : UWhat-F SuchWhat Such) → WhatGood (roll-UWhat (bare y))
    good_cases (UWhat-F.Block a) l = λ n xs places k h known rest.
        let x = bare (UWhat-F.Block a) in
        subst (λ j. ItemsThrow p given places (j ++ k)) (sym (ap (λ f. f n) (items_roll l x))) (all_items (plain a) (all_good a) n xs places k (sym (throws_roll l x xs) ∙ h) known rest)
    good_cases (UWhat-F.For a e st b) l = λ n xs places k h known rest.
        let x = bare (UWhat-F.For a e st b) in
        let w = and_parts (all_throw p (plain a) xs) _ (sym (throws_roll l x xs) ∙ h) in
        let s : UStmt = line_of l (roll-UWhat x) in
        let m : ℕ = n + numbering.size_all (plain a) in
        subst (λ j. ItemsThrow p given places (j ++ k)) (sym (ap (λ f. f n) (items_roll l x)))
        (subst (ItemsThrow p given places) (sym (append_assoc (items_all (plain a) n) (Do _ s ∷ []) k))
        (all_items (plain a) (all_good a) n xs places (Do _ s ∷ k) w.0 known (record { exceptions = xs; known = known; right = h }, rest)))
    good_cases (UWhat-F.Declare t v e) l = simple l (bare (UWhat-F.Declare t v e)) (λ n. refl)
    good_cases (UWhat-F.Assign v e) l = simple l (bare (UWhat-F.Assign v e)) (λ n. refl)
    good_cases (UWhat-F.Next v) l = simple l (bare (UWhat-F.Next v)) (λ n. refl)
    good_cases (UWhat-F.NextAssign v e) l = simple l (bare (UWhat-F.NextAssign v e)) (λ n. refl)
    good_cases (UWhat-F.AssignNext v w) l = simple l (bare (UWhat-F.AssignNext v w)) (λ n. refl)
    good_cases (UWhat-F.Get v w) l = simple l (bare (UWhat-F.Get v w)) (λ n. refl)
    good_cases (UWhat-F.Put v e) l = simple l (bare (UWhat-F.Put v e)) (λ n. refl)
    good_cases (UWhat-F.If e a b) l = simple l (bare (UWhat-F.If e a b)) (λ n. refl)
    good_cases (UWhat-F.While e a) l = simple l (bare (UWhat-F.While e a)) (λ n. refl)
    good_cases (UWhat-F.Call v) l = simple l (bare (UWhat-F.Call v)) (λ n. refl)
    good_cases (UWhat-F.Try a t v b) l = simple l (bare (UWhat-F.Try a t v b)) (λ n. refl)
    good_cases (UWhat-F.Throw v e) l = simple l (bare (UWhat-F.Throw v e)) (λ n. refl)
    good_cases (UWhat-F.Par v) l = simple l (bare (UWhat-F.Par v)) (λ n. refl)

    good : (s : UStmt) → Good s
    good = ind-UStmt WhatGood Good
        (λ x y is. subst (λ z. WhatGood (roll-UWhat z)) is (good_cases y))
        (λ x y is. subst (λ z. Good (roll-UStmt z)) is (y.what.1 y.line))

    every_good : (ss : List UStmt) → AllGood ss
    every_good [] = tt
    every_good (s ∷ ss) = (good s, every_good ss)

    -- statements that throw what is known, before whatever does
    pub body_throws : (ss : List UStmt) (n : ℕ) (xs : List ℕ) (places : List ExceptionPlace) (k : List Item) → all_throw p ss xs ≡ true → AreInScope given places xs → ItemsThrow p given places k
        → ItemsThrow p given places (items_all ss n ++ k)
    body_throws ss n xs places k h known rest = all_items ss (every_good ss) n xs places k h known rest

    -- on from the statement that is next, but for the body of a `try`

    pub goes_on : (x : UWhat-F UWhat UStmt) (n : ℕ) (s : UStmt) (k : List Item) → follow_what x On n s k ≡ k
    goes_on (UWhat-F.If e a b) n s k = refl
    goes_on (UWhat-F.While e a) n s k = refl
    goes_on (UWhat-F.For a e st b) n s k = refl
    goes_on (UWhat-F.Try a t v b) n s k = refl
    goes_on _ n s k = refl

    pub on_throws : (places : List ExceptionPlace) (k : List Item) → ItemsThrow p given places k → ItemsThrow p given places (followed On k)
    on_throws places [] h = tt
    on_throws places (Leave ∷ k) h = h
    on_throws places (Do n s ∷ k) h = subst (ItemsThrow p given places) (sym (goes_on (out-UWhat s.what) n s k)) h.1

    second_follows : (places : List ExceptionPlace) (x : UWhat-F UWhat UStmt) (n : ℕ) (s : UStmt) (k : List Item) (xs : List ℕ) → throws_layer x xs ≡ true → AreInScope given places xs → ItemsThrow p given places k → ItemsThrow p given places (follow_what x Second n s k)
    second_follows places (UWhat-F.If e a b) n s k xs h known rest = body_throws b (n + 1 + numbering.size_all a) xs places k (and_parts (all_throw p a xs) (all_throw p b xs) h).1 known rest
    second_follows places (UWhat-F.Try a t v b) n s k xs h known rest = body_throws b (n + 1 + numbering.size_all a) xs places k (and_parts (all_throw p a (t ∷ xs)) (all_throw p b xs) h).1 known rest
    second_follows places _ n s k xs h known rest = rest

    pub second_throws : (places : List ExceptionPlace) (k : List Item) → ItemsThrow p given places k → ItemsThrow p given places (followed Second k)
    second_throws places [] h = tt
    second_throws places (Leave ∷ k) h = h
    second_throws places (Do n s ∷ k) h = second_follows places (out-UWhat s.what) n s k h.0.exceptions (sym (throws_out s h.0.exceptions) ∙ h.0.right) h.0.known h.1

    -- into the first block of an `if` or of a loop
    pub first_of_if : (places : List ExceptionPlace) (a b : List UStmt) (n : ℕ) (k : List Item) (xs : List ℕ) → (all_throw p a xs && all_throw p b xs) ≡ true → AreInScope given places xs → ItemsThrow p given places k → ItemsThrow p given places (items_all a (n + 1) ++ k)
    first_of_if places a b n k xs h known rest = body_throws a (n + 1) xs places k (and_parts (all_throw p a xs) (all_throw p b xs) h).0 known rest

    pub first_of_for : (places : List ExceptionPlace) (a st b : List UStmt) (n : ℕ) (s : UStmt) (k : List Item) (xs : List ℕ) → (all_throw p a xs && (all_throw p st xs && all_throw p b xs)) ≡ true → AreInScope given places xs
        → ItemsThrow p given places (Do n s ∷ k) → ItemsThrow p given places (items_all b (n + 1) ++ (items_all st (n + 1 + numbering.size_all b) ++ Do n s ∷ k))
    first_of_for places a st b n s k xs h known rest =
        let w = and_parts (all_throw p a xs) (all_throw p st xs && all_throw p b xs) h in
        let v = and_parts (all_throw p st xs) (all_throw p b xs) w.1 in
        body_throws b (n + 1) xs places (items_all st (n + 1 + numbering.size_all b) ++ Do n s ∷ k) v.1 known
        (body_throws st (n + 1 + numbering.size_all b) xs places (Do n s ∷ k) v.0 known rest)

    known_inside : (places : List ExceptionPlace) (e : ExceptionPlace) (xs : List ℕ) → AreInScope given places xs → AreInScope given (places ++ e ∷ []) (e.exception ∷ xs)
    known_inside places e xs known x a =
        let more : (y : ℕ) → Among (exceptions_of places ++ e.exception ∷ []) y → Among (exceptions_of (places ++ e ∷ [])) y = λ y h. subst (λ l. Among l y) (sym (exceptions_more places e)) h in
        elim (among_cases e.exception xs x a) [
          | inl is ↦ inr (more x (among_second (exceptions_of places) (e.exception ∷ []) x (subst (λ z. Among (e.exception ∷ []) z) is (first_of e.exception []))))
          | inr b ↦ elim (known x b) [ inl low ↦ inl low | inr there ↦ inr (more x (among_first (exceptions_of places) (e.exception ∷ []) x there)) ]
        ]

    -- into the body of a `try`, whose place is in force then
    pub first_of_try : (places : List ExceptionPlace) (e : ExceptionPlace) (a b : List UStmt) (n : ℕ) (k : List Item) (xs : List ℕ) → (all_throw p a (e.exception ∷ xs) && all_throw p b xs) ≡ true → AreInScope given places xs → ItemsThrow p given places k
        → ItemsThrow p given (places ++ e ∷ []) (items_all a (n + 1) ++ Leave ∷ k)
    first_of_try places e a b n k xs h known rest =
        body_throws a (n + 1) (e.exception ∷ xs) (places ++ e ∷ []) (Leave ∷ k) (and_parts (all_throw p a (e.exception ∷ xs)) (all_throw p b xs) h).0 (known_inside places e xs known)
        (subst (λ es. ItemsThrow p given es k) (sym (without_added places e)) rest)

    -- places

    at_taken : (es : List ExceptionPlace) (n i : ℕ) (e : ExceptionPlace) → slice_get (take n es) i ≡ Some e → (i < n) × (slice_get es i ≡ Some e)
    at_taken [] zero i e h = absurd (cc h)
    at_taken [] (suc n) i e h = absurd (cc h)
    at_taken (x ∷ es) zero i e h = absurd (cc h)
    at_taken (x ∷ es) (suc n) zero e h = (omega arith, h)
    at_taken (x ∷ es) (suc n) (suc i) e h = let w = at_taken es n i e h in (omega (arith, w.0), w.1)

    pub places_taken : (es : List ExceptionPlace) (n : ℕ) → PlacesThrow p given es → PlacesThrow p given (take n es)
    places_taken es n h i e is =
        let w = at_taken es n i e is in
        let low = w.0 in
        subst (λ l. ItemsThrow p given l e.todo) (sym (take-take i n es (omega (arith, low)))) (h i e w.1)

    split_at : (es : List ExceptionPlace) (e x : ExceptionPlace) (i : ℕ) → slice_get (es ++ e ∷ []) i ≡ Some x → ((i < length es) × (slice_get es i ≡ Some x)) ⊎ ((i ≡ length es) × (e ≡ x))
    split_at [] e x zero h = inr (refl, some_same e x h)
    split_at [] e x (suc i) h = absurd (cc h)
    split_at (y ∷ es) e x zero h = inl (omega arith, h)
    split_at (y ∷ es) e x (suc i) h = elim (split_at es e x i h) [
      | inl w ↦ let low = w.0 in inl (omega (arith, low), w.1)
      | inr w ↦ inr (ap suc w.0, w.1)
    ]

    pub places_more : (es : List ExceptionPlace) (e : ExceptionPlace) → PlacesThrow p given es → ItemsThrow p given es e.todo → PlacesThrow p given (es ++ e ∷ [])
    places_more es e h todo i x is = elim (split_at es e x i is) [
      | inl w ↦
          let low = w.0 in
          subst (λ l. ItemsThrow p given l x.todo) (sym (take-append-le i es (e ∷ []) (omega (arith, low)))) (h i x w.1)
      | inr w ↦
          let whole : take i (es ++ e ∷ []) ≡ es = ap (λ k. take k (es ++ e ∷ [])) w.0 ∙ take-append-le (length es) es (e ∷ []) (omega arith) ∙ take_all (length es) es (omega arith) in
          subst (λ l. ItemsThrow p given l x.todo) (sym whole) (subst (λ (y : ExceptionPlace). ItemsThrow p given es y.todo) w.1 todo)
    ]
