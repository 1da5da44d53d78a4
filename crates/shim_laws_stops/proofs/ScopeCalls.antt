-- The calls and the branches of a unit are right, where the calls of the text give what is asked for.
use Rattle.std.proofs.Common.{ℕ, ◌≡◌, ◌∙◌, ◌⊎◌, Bool, true, false, ◌&&◌, ◌||◌, inl, inr, List, [], ◌∷◌, ◌++◌, Option, Some, None, map, nat_eq, eq-eqb, eqb-true, slice_get, refl, sym, ap, subst}
use Rattle.shim_syntax.specs.declared.tree.Sort.{Sort}
use Rattle.shim_scopes.specs.declared.tree.RCall.{RCall}
use Rattle.shim_scopes.specs.declared.tree.RFunction.{RFunction}
use Rattle.shim_scopes.specs.declared.tree.UExpr.{UExpr}
use Rattle.shim_scopes.specs.declared.tree.UParam.{UParam}
use Rattle.shim_units.specs.declared.found.Given.{Given}
use Rattle.shim_units.specs.declared.found.How.TheVariants.{Written}
use Rattle.shim_units.specs.declared.found.Use.{Use}
use Rattle.shim_units.specs.declared.form.Form.{Form}
use Rattle.shim_units.specs.declared.unit.Unit.{Unit as UnitOf}
use Rattle.shim_units.specs.declared.unit.Arg.{Arg}
use Rattle.shim_units.specs.declared.unit.UBranch.{UBranch}
use Rattle.shim_units.specs.declared.unit.UCall.{UCall}
use Rattle.shim_units.specs.declared.slot_map.SlotMap.{SlotMap}
use Rattle.shim_units.specs.Calls.{lends, lends_first, behind_first, params_at, bare, paired_arguments}
use Rattle.shim_units.specs.Captures.{captures, taken_of, declares_variable, writes, names, is_reference}
use Rattle.shim_units.specs.Moving.{slot_index_of, by_mode, renumbered, arg_of, args_of, moved_call}
use Rattle.shim_units.specs.Rule.{is_bare, stands_in, GivesOnce, IsDisjointFromAll, ArePairwiseDisjoint}
use Rattle.shim_units.specs.Uses.{used, names_in, arg_uses, args_uses, call_uses, lent_uses}
use Rattle.shim_units.specs.Lifting.{is_among, sort_of, sort_or_bool}
use Rattle.shim_process.specs.LocalState.{unit_at}
use Rattle.shim_laws_sources.proofs.Placing.{some_first, some_second}
use Rattle.shim_base.proofs.Facts.{both_hold, either_holds}
use Rattle.shim_laws_stops.specs.InScope.{is_number, same_kind, has_number, reads_right, argument_right, arguments_right, references, distinct, call_right, are_apart, apart_from_all, branches_apart}
use Rattle.shim_laws_stops.proofs.Among.{Among, none_among, first_of, among_cases}
use Rattle.shim_laws_stops.proofs.ScopeExprs.{ArgSuits}
use Rattle.shim_laws_stops.proofs.ScopeLists.{Names, names_first, names_second, writes_names, once_more, at_place_of, same_place, apart_of}
use Rattle.shim_laws_stops.proofs.ScopeLifting.{OnlyNames, IsAround, number_there, kind_there}
use Rattle.shim_laws_stops.proofs.ScopeReads.{reads_moved}

-- an argument for each parameter, of its kind; one that is a variable alone names it
abbrev pub ArgsSuit : List Sort → List UParam → List UExpr → Type 0
ArgsSuit all [] [] = Unit {0}
ArgsSuit all [] (a ∷ rest) = ⊥
ArgsSuit all (p ∷ ps) [] = ⊥
ArgsSuit all (p ∷ ps) (a ∷ rest) = ArgSuits (lends p) all p a × ((x : ℕ) → bare a ≡ Some x → Names (names_in a) x) × ArgsSuit all ps rest

-- what the arguments of the call are, and what they name
pub record CallSuits (fs : List RFunction) (around : List ℕ) (all : List Sort) (c : RCall) : Type 0 where
  pub arguments : ArgsSuit all (params_at fs c.function) c.args
  pub names : OnlyNames around (call_uses fs c)

-- the place of each variable that is named, among the slots of the unit

module _ (all : List Sort) (f : RFunction) (same : f.slots ≡ all) (w : SlotMap) (u : UnitOf) (xs : List ℕ) (is : u.slots ≡ map (sort_of f) w.slots) where
  -- it is there, and in scope
  record IsHere (y : ℕ) : Type 0 where
    there : Among w.slots y
    known : Among xs (slot_index_of w.slots y)

  sort_here : (y : ℕ) → Among w.slots y → slice_get u.slots (slot_index_of w.slots y) ≡ Some (sort_or_bool (slice_get all y))
  sort_here y h = ap (λ l. slice_get l (slot_index_of w.slots y)) is ∙ at_place_of (sort_of f) w.slots y h ∙ ap (λ (l : List Sort). Some (sort_or_bool (slice_get l y))) same

  number_here : (y : ℕ) → IsHere y → is_number (slice_get all y) ≡ true → has_number u xs (slot_index_of w.slots y) ≡ true
  number_here y h number =
      let i : ℕ = slot_index_of w.slots y in
      both_hold (is_among xs i) (is_number (slice_get u.slots i)) h.known (ap is_number (sort_here y h.there) ∙ number_there (slice_get all y) number)

  bare_right : (b : Bool) (p : UParam) (x : ℕ) (a : UExpr) → ArgSuits b all p a → bare a ≡ Some x → Names (arg_uses b a) x → IsHere x → argument_right u xs p (by_mode b (slot_index_of w.slots x)) ≡ true
  bare_right true p x a (y, e, kind) b n h =
      let i : ℕ = slot_index_of w.slots x in
      let one : y ≡ x = cc (sym e ∙ b) in
      both_hold (is_among xs i) (same_kind p.sort (slice_get u.slots i)) h.known
      (ap (same_kind p.sort) (sort_here x h.there) ∙ kind_there p.sort (slice_get all x) (subst (λ z. same_kind p.sort (slice_get all z) ≡ true) one kind))
  bare_right false p x a (number, others) b n h = both_hold (is_number (Some p.sort)) (has_number u xs (slot_index_of w.slots x)) number (number_here x h (others x n))

  -- an argument is right where all that it names is here
  arg_right : (b : Bool) (p : UParam) (a : UExpr) (o : Option ℕ) → bare a ≡ o → ArgSuits b all p a → ((x : ℕ) → bare a ≡ Some x → Names (arg_uses b a) x) → ((x : ℕ) → Names (arg_uses b a) x → IsHere x) → argument_right u xs p (arg_of w.slots b o a) ≡ true
  arg_right true p a None e (y, k, kind) named h = absurd (cc (sym e ∙ k))
  arg_right false p a None e (number, others) named h = both_hold (is_number (Some p.sort)) (reads_right u xs (renumbered w.slots a)) number (reads_moved w.slots u xs a (λ y n. number_here y (h y n) (others y n)))
  arg_right b p a (Some x) e suits named h = bare_right b p x a suits e (named x e) (h x (named x e))

  -- a variable alone is named by its argument
  named_alone : (b : Bool) (a : UExpr) (o : Option ℕ) (x : ℕ) → bare a ≡ o → ((y : ℕ) → bare a ≡ Some y → Names (names_in a) y) → bare a ≡ Some x → Names (arg_uses b a) x
  named_alone true a None x e h k = absurd (cc (sym e ∙ k))
  named_alone true a (Some y) x e h k =
      let one : y ≡ x = cc (sym e ∙ k) in
      subst (λ (o : Option ℕ). Names (lent_uses o (names_in a)) x) (sym e) (subst (λ z. Names (used Written y ∷ []) z) one (first_of y []))
  named_alone false a o x e h k = h x k

  args_right : (ps : List UParam) (es : List UExpr) → ArgsSuit all ps es → ((y : ℕ) → Names (args_uses ps es) y → IsHere y) → arguments_right u xs ps (args_of w.slots ps es) ≡ true
  args_right [] [] s h = refl
  args_right [] (a ∷ rest) s h = absurd s
  args_right (p ∷ ps) [] s h = absurd s
  args_right (p ∷ ps) (a ∷ rest) s h =
      both_hold _ _
      (arg_right (lends p) p a (bare a) refl s.0 (λ x e. named_alone (lends p) a (bare a) x refl s.1 e) (λ x n. h x (names_first (arg_uses (lends p) a) (args_uses ps rest) x n)))
      (args_right ps rest s.2 (λ y n. h y (names_second (arg_uses (lends p) a) (args_uses ps rest) y n)))

-- what is given by reference

-- among the slots of the unit the number is the place of a variable that these uses write
pub record IsWritten (slots : List ℕ) (us : List Use) (j : ℕ) : Type 0 where
  pub variable : ℕ
  pub place : slot_index_of slots variable ≡ j
  pub written : writes us variable ≡ true

written_first : (us vs : List Use) (y : ℕ) → writes us y ≡ true → writes (us ++ vs) y ≡ true
written_first us vs y h = some_first _ us vs h

written_second : (us vs : List Use) (y : ℕ) → writes vs y ≡ true → writes (us ++ vs) y ≡ true
written_second us vs y h = some_second _ us vs h

itself_is_written : (x : ℕ) → writes (used Written x ∷ []) x ≡ true
itself_is_written x = by_same (nat_eq x x) (eq-eqb x x refl)
  where
    by_same : (b : Bool) → b ≡ true → ((b && true) || false) ≡ true
    by_same true h = refl
    by_same false h = absurd (cc h)

-- an argument by reference is a variable alone, and written
module _ (slots : List ℕ) where
  ref_alone : (b : Bool) (a : UExpr) (o : Option ℕ) (rest : List Arg) (j : ℕ) → bare a ≡ o → Among (references (arg_of slots b o a ∷ rest)) j → IsWritten slots (arg_uses b a) j ⊎ Among (references rest) j
  ref_alone true a None rest j e h = inr h
  ref_alone false a None rest j e h = inr h
  ref_alone false a (Some x) rest j e h = inr h
  ref_alone true a (Some x) rest j e h = elim (among_cases (slot_index_of slots x) (references rest) j h) [
    | inl same ↦ inl (record { variable = x; place = same; written = subst (λ (o : Option ℕ). writes (lent_uses o (names_in a)) x ≡ true) (sym e) (itself_is_written x) })
    | inr k ↦ inr k
  ]

  pub refs_written : (ps : List UParam) (es : List UExpr) (j : ℕ) → Among (references (args_of slots ps es)) j → IsWritten slots (args_uses ps es) j
  refs_written ps [] j h = none_among j h
  refs_written ps (a ∷ es) j h = elim (ref_alone (lends_first ps) a (bare a) (args_of slots (behind_first ps) es) j refl h) [
    | inl k ↦ record { variable = k.variable; place = k.place; written = written_first (arg_uses (lends_first ps) a) (args_uses (behind_first ps) es) k.variable k.written }
    | inr k ↦
        let r = refs_written (behind_first ps) es j k in
        record { variable = r.variable; place = r.place; written = written_second (arg_uses (lends_first ps) a) (args_uses (behind_first ps) es) r.variable r.written }
  ]

  -- it stands among the arguments that are variables alone
  record IsGivenAt (gs : List Given) (j : ℕ) : Type 0 where
    variable : ℕ
    place : slot_index_of slots variable ≡ j
    in_arguments : stands_in variable gs ≡ true

  bare_there : (x : ℕ) (gs : List Given) (g : Given) → g.bare ≡ Some x → stands_in x (g ∷ gs) ≡ true
  bare_there x gs g e = by_bare g.bare e
    where
      by_bare : (o : Option ℕ) → o ≡ Some x → (is_bare x o || stands_in x gs) ≡ true
      by_bare None e = absurd (cc e)
      by_bare (Some y) e = let same : y ≡ x = cc e in ap (λ (b : Bool). b || stands_in x gs) (eq-eqb y x same)

  stands_behind : (x : ℕ) (gs : List Given) (g : Given) → stands_in x gs ≡ true → stands_in x (g ∷ gs) ≡ true
  stands_behind x gs g h = or_behind (is_bare x g.bare) (stands_in x gs) h
    where
      or_behind : (a b : Bool) → b ≡ true → (a || b) ≡ true
      or_behind true b h = refl
      or_behind false b h = h

  ref_bare : (b : Bool) (a : UExpr) (o : Option ℕ) (rest : List Arg) (j : ℕ) → bare a ≡ o → Among (references (arg_of slots b o a ∷ rest)) j → ((x : ℕ) × (bare a ≡ Some x) × (slot_index_of slots x ≡ j)) ⊎ Among (references rest) j
  ref_bare true a None rest j e h = inr h
  ref_bare false a None rest j e h = inr h
  ref_bare false a (Some x) rest j e h = inr h
  ref_bare true a (Some x) rest j e h = elim (among_cases (slot_index_of slots x) (references rest) j h) [ inl same ↦ inl (x, e, same) | inr k ↦ inr k ]

  refs_given : (ps : List UParam) (es : List UExpr) (j : ℕ) → Among (references (args_of slots ps es)) j → IsGivenAt (paired_arguments ps es) j
  refs_given ps [] j h = none_among j h
  refs_given ps (a ∷ es) j h = elim (ref_bare (lends_first ps) a (bare a) (args_of slots (behind_first ps) es) j refl h) [
    | inl k ↦ record { variable = k.0; place = k.2; in_arguments = bare_there k.0 (paired_arguments (behind_first ps) es) (record { lent = lends_first ps; bare = bare a }) k.1 }
    | inr k ↦
        let r = refs_given (behind_first ps) es j k in
        record { variable = r.variable; place = r.place; in_arguments = stands_behind r.variable (paired_arguments (behind_first ps) es) (record { lent = lends_first ps; bare = bare a }) r.in_arguments }
  ]

  either_more : (x : ℕ) (g : Given) (before after : List Given) → (stands_in x before || stands_in x after) ≡ true → (stands_in x (g ∷ before) || stands_in x after) ≡ true
  either_more x g before after h = more (is_bare x g.bare) (stands_in x before) (stands_in x after) h
    where
      more : (a b c : Bool) → (b || c) ≡ true → ((a || b) || c) ≡ true
      more true b c h = refl
      more false b c h = h

  once_behind : (g : Given) (gs : List Given) → GivesOnce (g ∷ gs) → GivesOnce gs
  once_behind g gs h before k after x e lent is both = h (g ∷ before) k after x (ap (λ l. g ∷ l) e) lent is (either_more x g before after both)

  ref_once : (b : Bool) (a : UExpr) (o : Option ℕ) (rest : List Arg) → bare a ≡ o → distinct (references rest) ≡ true
      → ((x : ℕ) → b ≡ true → bare a ≡ Some x → Among (references rest) (slot_index_of slots x) → ⊥) → distinct (references (arg_of slots b o a ∷ rest)) ≡ true
  ref_once true a None rest e h f = h
  ref_once false a None rest e h f = h
  ref_once false a (Some x) rest e h f = h
  ref_once true a (Some x) rest e h f = once_more (slot_index_of slots x) (references rest) (f x refl e) h

  -- no two arguments by reference have one place
  pub refs_once : (ps : List UParam) (es : List UExpr) → ((y : ℕ) → stands_in y (paired_arguments ps es) ≡ true → Among slots y) → GivesOnce (paired_arguments ps es) → distinct (references (args_of slots ps es)) ≡ true
  refs_once ps [] there h = refl
  refs_once ps (a ∷ es) there h =
      let gs : List Given = paired_arguments (behind_first ps) es in
      let g : Given = record { lent = lends_first ps; bare = bare a } in
      ref_once (lends_first ps) a (bare a) (args_of slots (behind_first ps) es) refl
      (refs_once (behind_first ps) es (λ y k. there y (stands_behind y gs g k)) (once_behind g gs h))
      (λ x lent is k.
      let r = refs_given (behind_first ps) es (slot_index_of slots x) k in
      let one : r.variable ≡ x = same_place slots r.variable x (there r.variable (stands_behind r.variable gs g r.in_arguments)) (there x (bare_there x gs g is)) r.place in
      h [] g gs x refl lent is (subst (λ z. stands_in z gs ≡ true) one r.in_arguments))

-- what stands among the arguments as a variable alone is named by them

is_it : (y : ℕ) (o : Option ℕ) → is_bare y o ≡ true → o ≡ Some y
is_it y None h = absurd (cc h)
is_it y (Some z) h = ap Some (eqb-true z y h)

alone_there : (b : Bool) (a : UExpr) (o : Option ℕ) (y : ℕ) → bare a ≡ o → ((x : ℕ) → bare a ≡ Some x → Names (names_in a) x) → is_bare y o ≡ true → Names (arg_uses b a) y
alone_there true a None y e f k = absurd (cc k)
alone_there true a (Some x) y e f k =
    let one : x ≡ y = eqb-true x y k in
    subst (λ (o : Option ℕ). Names (lent_uses o (names_in a)) y) (sym e) (subst (λ z. Names (used Written x ∷ []) z) one (first_of x []))
alone_there false a o y e f k = f y (e ∙ is_it y o k)

alone_named : (all : List Sort) (ps : List UParam) (es : List UExpr) (y : ℕ) → ArgsSuit all ps es → stands_in y (paired_arguments ps es) ≡ true → Names (args_uses ps es) y
alone_named all [] [] y s h = absurd (cc h)
alone_named all [] (a ∷ es) y s h = absurd s
alone_named all (p ∷ ps) [] y s h = absurd s
alone_named all (p ∷ ps) (a ∷ es) y s h = elim (either_holds (is_bare y (bare a)) (stands_in y (paired_arguments ps es)) h) [
  | inl k ↦ names_first (arg_uses (lends p) a) (args_uses ps es) y (alone_there (lends p) a (bare a) y refl s.1 k)
  | inr k ↦ names_second (arg_uses (lends p) a) (args_uses ps es) y (alone_named all ps es y s.2 k)
]

-- a call of a function

module _ (form : Form) (fs : List RFunction) (around : List ℕ) (all : List Sort) (c : RCall) (suits : CallSuits fs around all c) (params : (unit_at form c.function).params ≡ params_at fs c.function) where
  pub moved_right : (f : RFunction) (w : SlotMap) (u : UnitOf) (xs : List ℕ) → f.slots ≡ all → u.slots ≡ map (sort_of f) w.slots → ((y : ℕ) → Names (call_uses fs c) y → Among w.slots y) → ((y : ℕ) → Names (call_uses fs c) y → Among xs (slot_index_of w.slots y))
      → GivesOnce (paired_arguments (params_at fs c.function) c.args) → call_right form u xs (moved_call fs c w) ≡ true
  moved_right f w u xs same is there known once =
      both_hold _ _
      (ap (λ (ps : List UParam). arguments_right u xs ps (args_of w.slots (params_at fs c.function) c.args)) params
      ∙ args_right all f same w u xs is (params_at fs c.function) c.args suits.arguments (λ y n. record { there = there y n; known = known y n }))
      (refs_once w.slots (params_at fs c.function) c.args (λ y h. there y (alone_named all (params_at fs c.function) c.args y suits.arguments h)) once)

-- which branch takes what by reference

-- each reference of the branch is the place of a variable that a text with these uses takes by reference
abbrev pub RefersTo : List Sort → SlotMap → List Use → UCall → Type 0
RefersTo all w us c = (j : ℕ) → Among (references c.args) j → (y : ℕ) × Among w.slots y × (slot_index_of w.slots y ≡ j) × (is_reference (captures all us y) ≡ true)

taken_written : (o : Option Sort) (s : Sort) (declared written named : Bool) → o ≡ Some s → (declared ≡ true → ⊥) → written ≡ true → is_reference (taken_of o declared written named) ≡ true
taken_written None s declared written named e f h = absurd (cc e)
taken_written (Some r) s true written named e f h = absurd (f refl)
taken_written (Some r) s false true named e f h = refl
taken_written (Some r) s false false named e f h = absurd (cc h)

pub call_refers : (fs : List RFunction) (around : List ℕ) (lo : ℕ) (all : List Sort) (c : RCall) (w : SlotMap) → IsAround around lo all → OnlyNames around (call_uses fs c) → ((y : ℕ) → Names (call_uses fs c) y → Among w.slots y)
    → RefersTo all w (call_uses fs c) (moved_call fs c w)
call_refers fs around lo all c w is only there j h =
    let r = refs_written w.slots (params_at fs c.function) c.args j h in
    let y : ℕ = r.variable in
    let us : List Use = call_uses fs c in
    let n : Names us y = writes_names us y r.written in
    let at = is y (only.among y n) in
    (y, there y n, r.place, taken_written (slice_get all y) at.1 (declares_variable us y) (writes us y) (names us y) at.2 (only.none y) r.written)

abbrev pub Refer : List Sort → SlotMap → List UBranch → List (List Use) → Type 0
Refer all w [] [] = Unit {0}
Refer all w [] (us ∷ uses) = ⊥
Refer all w (b ∷ bs) [] = ⊥
Refer all w (b ∷ bs) (us ∷ uses) = RefersTo all w us b.call × Refer all w bs uses

one_apart : (all : List Sort) (w : SlotMap) (c : UCall) (us : List Use) (bs : List UBranch) (uses : List (List Use)) → RefersTo all w us c → Refer all w bs uses → IsDisjointFromAll (captures all us) (map (captures all) uses)
    → apart_from_all (references c.args) bs ≡ true
one_apart all w c us [] [] r rest d = refl
one_apart all w c us [] (vs ∷ uses) r rest d = absurd rest
one_apart all w c us (b ∷ bs) [] r rest d = absurd rest
one_apart all w c us (b ∷ bs) (vs ∷ uses) r rest d =
    both_hold (are_apart (references c.args) (references b.call.args)) (apart_from_all (references c.args) bs)
    (apart_of (references c.args) (references b.call.args) (λ j h k.
    let x = r j k in
    let y = rest.0 j h in
    let one : y.0 ≡ x.0 = same_place w.slots y.0 x.0 y.1 x.1 (y.2 ∙ sym x.2) in
    d.0 x.0 x.3 (subst (λ z. is_reference (captures all vs z) ≡ true) one y.3)))
    (one_apart all w c us bs uses r rest.1 d.1)

-- so no two branches are given a slot by reference
pub all_apart : (all : List Sort) (w : SlotMap) (bs : List UBranch) (uses : List (List Use)) → Refer all w bs uses → ArePairwiseDisjoint (map (captures all) uses) → branches_apart bs ≡ true
all_apart all w [] [] r d = refl
all_apart all w [] (us ∷ uses) r d = absurd r
all_apart all w (b ∷ bs) [] r d = absurd r
all_apart all w (b ∷ bs) (us ∷ uses) r d =
    both_hold (apart_from_all (references b.call.args) bs) (branches_apart bs) (one_apart all w b.call us bs uses r.0 r.1 d.0) (all_apart all w bs uses r.1 d.1)
