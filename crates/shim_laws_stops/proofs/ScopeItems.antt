-- What a unit has still to do names what has its location, wherever it goes from there.
use Rattle.std.proofs.Common.{◌≡◌, ◌∙◌, ◌⊎◌, ℕ, zero, suc, ◌+◌, true, ◌&&◌, inl, inr, List, [], ◌∷◌, ◌++◌, take, map, Option, Some, refl, sym, ap, subst, append_assoc}
use Rattle.std.proofs.lemmas.Bool.{and_parts}
use Rattle.std.specs.Prelude.{slice_get}
use Rattle.shim_units.specs.declared.form.Form.{Form}
use Rattle.shim_units.specs.declared.unit.Unit.{Unit as UnitOf}
use Rattle.shim_units.specs.declared.unit.UStmt.{UStmt, UStmt-F, ind-UStmt, roll-UStmt, fold-roll-UStmt}
use Rattle.shim_units.specs.declared.unit.UWhat.{UWhat, UWhat-F, out-UWhat, roll-UWhat, out-roll-UWhat, map-UWhat, fold-roll-UWhat, roll-out-UWhat}
use Rattle.shim_units.specs.Own.{some_slot}
use Rattle.shim_units.specs.Numbering as numbering
use Rattle.shim_process.specs.Todo.{Item, Do, Leave, On, Second, what_items, items, items_all, follow_what, followed}
use Rattle.shim_process.specs.LocalState.{ExceptionPlace}
use Rattle.shim_process.proofs.TodoItems.{items_what, items_roll, line_of}
use Rattle.shim_base.proofs.Facts.{some_same, second_holds}
use Rattle.shim_laws_stops.specs.InScope.{reads_right, Scoped, what_scoped, scoped, all_scoped}
use Rattle.shim_laws_stops.specs.FrameLocations.{scoped_kind, item_right, ItemScoped, ItemsScoped, next_declares, slot_taken, what_takes, next_takes, PlacesScoped}
use Rattle.shim_laws_stops.proofs.Among.{Among, none_among, among_first, among_second, among_either}
use Rattle.shim_laws_stops.proofs.ScopeSteps.{what_in, declared_in}
use Rattle.shim_laws_stops.proofs.ThrowItems.{goes_on}

module _ (p : Form) (u : UnitOf) where
  scoped_roll : (l : ℕ) (x : UWhat-F UWhat UStmt) → scoped p u (line_of l (roll-UWhat x)) ≡ scoped_kind p u x
  scoped_roll l x =
      let d : UStmt-F UWhat UStmt = record { line = l; what = roll-UWhat x } in
      fold-roll-UStmt Scoped Scoped (what_scoped p u) (λ s. s.what) d ∙ fold-roll-UWhat Scoped Scoped (what_scoped p u) (λ s. s.what) x

  -- a statement names what its kind does
  pub scoped_out : (s : UStmt) → scoped p u s ≡ scoped_kind p u (out-UWhat s.what)
  scoped_out s =
      let a : scoped p u s ≡ what_in p u s.what = fold-roll-UStmt Scoped Scoped (what_scoped p u) (λ s. s.what) (record { line = s.line; what = s.what }) in
      a ∙ (ap (what_in p u) (sym (roll-out-UWhat s.what)) ∙ fold-roll-UWhat Scoped Scoped (what_scoped p u) (λ s. s.what) (out-UWhat s.what))

  -- with more that has what is asked, or is declared before
  pub more_known : (A B : ℕ → Type 0) (ds es : List ℕ) (k : List Item) → ((x : ℕ) → A x → B x) → ((x : ℕ) → Among ds x → B x ⊎ Among es x) → ItemsScoped p u A ds k → ItemsScoped p u B es k
  more_known A B ds es [] f g h = tt
  more_known A B ds es (Leave ∷ k) f g h = more_known A B ds es k f g h
  more_known A B ds es (Do n s ∷ k) f g h =
      let top : List ℕ = (scoped p u s).declares in (
        record {
          slots = h.0.slots;
          known = λ x a. elim (h.0.known x a) [ inl b ↦ inl (f x b) | inr b ↦ g x b ];
          right = h.0.right;
        },
        more_known A B ((scoped p u s).declares ++ ds) ((scoped p u s).declares ++ es) k f (λ x a. elim (among_either (scoped p u s).declares ds x a) [
          | inl b ↦ inr (among_first (scoped p u s).declares es x b)
          | inr b ↦ elim (g x b) [ inl c ↦ inl c | inr c ↦ inr (among_second (scoped p u s).declares es x c) ]
        ]) h.1,
      )

  module _ (A : ℕ → Type 0) where
    -- these are in scope where those are declared before
    abbrev Known : List ℕ → List ℕ → Type 0
    Known ds xs = (x : ℕ) → Among xs x → A x ⊎ Among ds x

    pub after_more : (ds es : List ℕ) (k : List Item) → ((x : ℕ) → Among ds x → Among es x) → ItemsScoped p u A ds k → ItemsScoped p u A es k
    after_more ds es k f h = more_known A A ds es k (λ x a. a) (λ x a. inr (f x a)) h

    known_more : (ds xs top : List ℕ) → Known ds xs → Known (top ++ ds) (top ++ xs)
    known_more ds xs top h x a = elim (among_either top xs x a) [
      | inl b ↦ inr (among_first top ds x b)
      | inr b ↦ elim (h x b) [ inl c ↦ inl c | inr c ↦ inr (among_second top ds x c) ]
    ]

    -- all that is to be done for the statement names what is known, before whatever does with what it declares
    abbrev Good : UStmt → Type 0
    Good s = (n : ℕ) (xs ds : List ℕ) (k : List Item) → (scoped p u s).right xs ≡ true → Known ds xs → ItemsScoped p u A ((scoped p u s).declares ++ ds) k → ItemsScoped p u A ds (items s n ++ k)

    abbrev AllGood : List UStmt → Type 0
    AllGood [] = Unit {0}
    AllGood (s ∷ ss) = Good s × AllGood ss

    all_items : (ss : List UStmt) → AllGood ss → (n : ℕ) (xs ds : List ℕ) (k : List Item) → all_scoped p u ss xs ≡ true → Known ds xs → ItemsScoped p u A (declared_in p u ss ++ ds) k → ItemsScoped p u A ds (items_all ss n ++ k)
    all_items [] good n xs ds k h known rest = rest
    all_items (s ∷ ss) good n xs ds k h known rest =
        let top : List ℕ = (scoped p u s).declares in
        let w = and_parts ((scoped p u s).right xs) (all_scoped p u ss (top ++ xs)) h in
        let m : ℕ = n + numbering.size_of s in
        let k2 : ItemsScoped p u A (declared_in p u ss ++ ((scoped p u s).declares ++ ds)) k =
        after_more (((scoped p u s).declares ++ declared_in p u ss) ++ ds) (declared_in p u ss ++ ((scoped p u s).declares ++ ds)) k (λ x a. elim (among_either ((scoped p u s).declares ++ declared_in p u ss) ds x a) [
          | inl b ↦ elim (among_either (scoped p u s).declares (declared_in p u ss) x b) [
            | inl c ↦ among_second (declared_in p u ss) ((scoped p u s).declares ++ ds) x (among_first (scoped p u s).declares ds x c)
            | inr c ↦ among_first (declared_in p u ss) ((scoped p u s).declares ++ ds) x c
          ]
          | inr b ↦ among_second (declared_in p u ss) ((scoped p u s).declares ++ ds) x (among_second (scoped p u s).declares ds x b)
        ]) rest in
        subst (ItemsScoped p u A ds) (sym (append_assoc (items s n) (items_all ss m) k))
        (good.0 n xs ds (items_all ss m ++ k) w.0 known (all_items ss good.1 m ((scoped p u s).declares ++ xs) ((scoped p u s).declares ++ ds) k w.1 (known_more ds xs (scoped p u s).declares known) k2))

    -- a statement that isn't a loop with a first part
    one_item : (s : UStmt) → ((xs : List ℕ) → item_right p u (out-UWhat s.what) xs ≡ (scoped p u s).right xs) → ((n : ℕ) → items s n ≡ Do n s ∷ []) → Good s
    one_item s same is n xs ds k h known rest = subst (λ j. ItemsScoped p u A ds (j ++ k)) (sym (is n)) (record { slots = xs; known = known; right = same xs ∙ h }, rest)

    abbrev WhatGood : UWhat → Type 0
    WhatGood w = (l : ℕ) → Good (line_of l w)

    abbrev Such : Type 0
    Such = (s : UStmt) × Good s

    abbrev SuchWhat : Type 0
    SuchWhat = (w : UWhat) × WhatGood w

    abbrev bare : UWhat-F SuchWhat Such → UWhat-F UWhat UStmt
    bare = map-UWhat SuchWhat Such UWhat UStmt (λ e. e.0) (λ e. e.0)

    abbrev plain : List Such → List UStmt
    plain y = map (λ e. e.0) y

    all_good : (y : List Such) → AllGood (plain y)
    all_good [] = tt
    all_good (e ∷ es) = (e.1, all_good es)

    right_of : (l : ℕ) (x : UWhat-F UWhat UStmt) (xs : List ℕ) → (scoped p u (line_of l (roll-UWhat x))).right xs ≡ (scoped_kind p u x).right xs
    right_of l x xs = ap (λ (c : Scoped). c.right xs) (scoped_roll l x)

    declares_of : (l : ℕ) (x : UWhat-F UWhat UStmt) → (scoped p u (line_of l (roll-UWhat x))).declares ≡ (scoped_kind p u x).declares
    declares_of l x = ap (λ (c : Scoped). c.declares) (scoped_roll l x)

    simple : (l : ℕ) (x : UWhat-F UWhat UStmt) → ((xs : List ℕ) → item_right p u x xs ≡ (scoped_kind p u x).right xs)
        → ((n : ℕ) → what_items (map-UWhat UWhat UStmt _ _ (λ y. (y, items_what y)) (λ y. (y, items y)) x) (line_of l (roll-UWhat x)) n ≡ Do n (line_of l (roll-UWhat x)) ∷ []) → Good (line_of l (roll-UWhat x))
    simple l x same is =
        one_item (line_of l (roll-UWhat x)) (λ xs. ap (λ y. item_right p u y xs) (out-roll-UWhat x) ∙ same xs ∙ sym (right_of l x xs)) (λ n. ap (λ f. f n) (items_roll l x) ∙ is n)

    good_cases : (y : UWhat-F SuchWhat Such) → WhatGood (roll-UWhat (bare y))
    good_cases (UWhat-F.Block a) l = λ n xs ds k h known rest.
        let x = bare (UWhat-F.Block a) in
        let inner : ItemsScoped p u A ds k = subst (λ top. ItemsScoped p u A (top ++ ds) k) (declares_of l x) rest in
        subst (λ j. ItemsScoped p u A ds (j ++ k)) (sym (ap (λ f. f n) (items_roll l x)))
        (all_items (plain a) (all_good a) n xs ds k (sym (right_of l x xs) ∙ h) known (after_more ds (declared_in p u (plain a) ++ ds) k (λ z b. among_second (declared_in p u (plain a)) ds z b) inner))
    good_cases (UWhat-F.For a e st b) l = λ n xs ds k h known rest.
        let x = bare (UWhat-F.For a e st b) in
        let s : UStmt = line_of l (roll-UWhat x) in
        let top : List ℕ = declared_in p u (plain a) in
        let w = and_parts (all_scoped p u (plain a) xs) _ (sym (right_of l x xs) ∙ h) in
        let inner : ItemsScoped p u A ds k = subst (λ t. ItemsScoped p u A (t ++ ds) k) (declares_of l x) rest in
        let later : ItemsScoped p u A ((scoped p u (line_of l (roll-UWhat x))).declares ++ (declared_in p u (plain a) ++ ds)) k =
        subst (λ t. ItemsScoped p u A (t ++ (declared_in p u (plain a) ++ ds)) k) (sym (declares_of l x)) (after_more ds (declared_in p u (plain a) ++ ds) k (λ z c. among_second (declared_in p u (plain a)) ds z c) inner) in
        let loop : ItemScoped p u A (declared_in p u (plain a) ++ ds) (line_of l (roll-UWhat x)) = record {
          slots = declared_in p u (plain a) ++ xs;
          known = known_more ds xs (declared_in p u (plain a)) known;
          right = ap (λ y. item_right p u y (declared_in p u (plain a) ++ xs)) (out-roll-UWhat x) ∙ w.1;
        } in
        subst (λ j. ItemsScoped p u A ds (j ++ k)) (sym (ap (λ f. f n) (items_roll l x)))
        (subst (ItemsScoped p u A ds) (sym (append_assoc (items_all (plain a) n) (Do _ s ∷ []) k))
        (all_items (plain a) (all_good a) n xs ds (Do _ s ∷ k) w.0 known (loop, later)))
    good_cases (UWhat-F.Declare t v e) l = simple l (bare (UWhat-F.Declare t v e)) (λ xs. refl) (λ n. refl)
    good_cases (UWhat-F.Assign v e) l = simple l (bare (UWhat-F.Assign v e)) (λ xs. refl) (λ n. refl)
    good_cases (UWhat-F.Next v) l = simple l (bare (UWhat-F.Next v)) (λ xs. refl) (λ n. refl)
    good_cases (UWhat-F.NextAssign v e) l = simple l (bare (UWhat-F.NextAssign v e)) (λ xs. refl) (λ n. refl)
    good_cases (UWhat-F.AssignNext v w) l = simple l (bare (UWhat-F.AssignNext v w)) (λ xs. refl) (λ n. refl)
    good_cases (UWhat-F.Get v w) l = simple l (bare (UWhat-F.Get v w)) (λ xs. refl) (λ n. refl)
    good_cases (UWhat-F.Put v e) l = simple l (bare (UWhat-F.Put v e)) (λ xs. refl) (λ n. refl)
    good_cases (UWhat-F.If e a b) l = simple l (bare (UWhat-F.If e a b)) (λ xs. refl) (λ n. refl)
    good_cases (UWhat-F.While e a) l = simple l (bare (UWhat-F.While e a)) (λ xs. refl) (λ n. refl)
    good_cases (UWhat-F.Call v) l = simple l (bare (UWhat-F.Call v)) (λ xs. refl) (λ n. refl)
    good_cases (UWhat-F.Try a t v b) l = simple l (bare (UWhat-F.Try a t v b)) (λ xs. refl) (λ n. refl)
    good_cases (UWhat-F.Throw v e) l = simple l (bare (UWhat-F.Throw v e)) (λ xs. refl) (λ n. refl)
    good_cases (UWhat-F.Par v) l = simple l (bare (UWhat-F.Par v)) (λ xs. refl) (λ n. refl)

    good : (s : UStmt) → Good s
    good = ind-UStmt WhatGood Good
        (λ x y is. subst (λ z. WhatGood (roll-UWhat z)) is (good_cases y))
        (λ x y is. subst (λ z. Good (roll-UStmt z)) is (y.what.1 y.line))

    every_good : (ss : List UStmt) → AllGood ss
    every_good [] = tt
    every_good (s ∷ ss) = (good s, every_good ss)

    -- statements that name what is known, before whatever does
    pub body_scoped : (ss : List UStmt) (n : ℕ) (xs ds : List ℕ) (k : List Item) → all_scoped p u ss xs ≡ true → Known ds xs → ItemsScoped p u A ds k → ItemsScoped p u A ds (items_all ss n ++ k)
    body_scoped ss n xs ds k h known rest = all_items ss (every_good ss) n xs ds k h known (after_more ds (declared_in p u ss ++ ds) k (λ x a. among_second (declared_in p u ss) ds x a) rest)

    -- on from the statement that is next, which declares nothing

    pub on_scoped : (k : List Item) → next_declares p u k ≡ [] → ItemsScoped p u A [] k → ItemsScoped p u A [] (followed On k)
    on_scoped [] none h = tt
    on_scoped (Leave ∷ k) none h = h
    on_scoped (Do n s ∷ k) none h =
        subst (ItemsScoped p u A []) (sym (goes_on p 0 (out-UWhat s.what) n s k)) (subst (λ top. ItemsScoped p u A (top ++ []) k) none h.1)

    -- these have what is asked
    abbrev pub Taken : Option ℕ → Type 0
    Taken y = (x : ℕ) → Among (some_slot y) x → A x

    second_follows : (x : UWhat-F UWhat UStmt) (n : ℕ) (s : UStmt) (k : List Item) (xs : List ℕ) → Taken (what_takes x) → item_right p u x xs ≡ true → Known [] xs → ItemsScoped p u A [] k → ItemsScoped p u A [] (follow_what x Second n s k)
    second_follows (UWhat-F.If e a b) n s k xs taken h known rest =
        let w = second_holds (reads_right u xs e) (all_scoped p u a xs && all_scoped p u b xs) h in
        body_scoped b (n + 1 + numbering.size_all a) xs [] k (and_parts (all_scoped p u a xs) (all_scoped p u b xs) w).1 known rest
    second_follows (UWhat-F.Try a t v b) n s k xs taken h known rest =
        body_scoped b (n + 1 + numbering.size_all a) (some_slot v ++ xs) [] k (and_parts (all_scoped p u a xs) (all_scoped p u b (some_slot v ++ xs)) h).1
        (λ x i. elim (among_either (some_slot v) xs x i) [ inl here ↦ inl (taken x here) | inr there ↦ known x there ]) rest
    second_follows _ n s k xs taken h known rest = rest

    pub second_scoped : (k : List Item) → Taken (next_takes k) → next_declares p u k ≡ [] → ItemsScoped p u A [] k → ItemsScoped p u A [] (followed Second k)
    second_scoped [] taken none h = tt
    second_scoped (Leave ∷ k) taken none h = h
    second_scoped (Do n s ∷ k) taken none h = second_follows (out-UWhat s.what) n s k h.0.slots taken h.0.right h.0.known (subst (λ top. ItemsScoped p u A (top ++ []) k) none h.1)

    -- places

    pub places_taken : (i : ℕ) (es : List ExceptionPlace) → PlacesScoped p u A es → PlacesScoped p u A (take i es)
    places_taken zero es h = tt
    places_taken (suc i) [] h = tt
    places_taken (suc i) (e ∷ es) h = (h.0, h.1, h.2, places_taken i es h.3)

    pub places_more : (es : List ExceptionPlace) (e : ExceptionPlace) → PlacesScoped p u A es → ItemsScoped p u A [] e.todo → next_declares p u e.todo ≡ [] → next_takes e.todo ≡ slot_taken e.variable → PlacesScoped p u A (es ++ e ∷ [])
    places_more [] e h todo none taken = (todo, none, taken, tt)
    places_more (x ∷ es) e h todo none taken = (h.0, h.1, h.2, places_more es e h.3 todo none taken)

    pub place_at : (es : List ExceptionPlace) (i : ℕ) (e : ExceptionPlace) → PlacesScoped p u A es → slice_get es i ≡ Some e → ItemsScoped p u A [] e.todo × (next_declares p u e.todo ≡ []) × (next_takes e.todo ≡ slot_taken e.variable)
    place_at [] i e h is = absurd (cc is)
    place_at (x ∷ es) zero e h is = subst (λ (z : ExceptionPlace). ItemsScoped p u A [] z.todo × (next_declares p u z.todo ≡ []) × (next_takes z.todo ≡ slot_taken z.variable)) (some_same x e is) (h.0, h.1, h.2)
    place_at (x ∷ es) (suc i) e h is = place_at es i e h.3 is

  pub places_known : (A B : ℕ → Type 0) (es : List ExceptionPlace) → ((x : ℕ) → A x → B x) → PlacesScoped p u A es → PlacesScoped p u B es
  places_known A B [] f h = tt
  places_known A B (e ∷ es) f h = (more_known A B [] [] e.todo f (λ x a. none_among x a) h.0, h.1, h.2, places_known A B es f h.3)
