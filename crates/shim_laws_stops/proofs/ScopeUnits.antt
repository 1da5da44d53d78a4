-- The units of an accepted program name what is in scope: those of its functions, and those that are lifted out of them.
use Rattle.std.proofs.Common.{ℕ, zero, suc, ◌+◌, ◌<◌, ◌≤◌, ◌≡◌, ◌∙◌, ◌⊎◌, true, inl, inr, List, [], ◌∷◌, ◌++◌, Some, Ok, length, map, slice_get, refl, sym, ap, subst, arith, length-append}
use Rattle.std.proofs.lemmas.List.{length-map}
use Rattle.shim_syntax.specs.declared.tree.Function.{Function}
use Rattle.shim_syntax.specs.declared.tree.Param.{Param}
use Rattle.shim_syntax.specs.declared.tree.Sort.{Sort}
use Rattle.shim_syntax.specs.Names.{Texts, name_index}
use Rattle.shim_scopes.specs.declared.form.Form.{Form as Resolved}
use Rattle.shim_scopes.specs.declared.scope.LocalDeclaration.{LocalDeclaration}
use Rattle.shim_scopes.specs.declared.tree.RFunction.{RFunction}
use Rattle.shim_scopes.specs.declared.tree.UParam.{UParam}
use Rattle.shim_scopes.specs.Functions.{bind_function, bind_functions, params_from, with_param, function_begin}
use Rattle.shim_scopes.specs.Resolving.{IsFormOfText}
use Rattle.shim_scopes.specs.Statements.{Whole, Before, local_of}
use Rattle.shim_units.specs.declared.form.Form.{Form}
use Rattle.shim_units.specs.declared.unit.Unit.{Unit as UnitOf}
use Rattle.shim_units.specs.declared.slot_map.SlotMap.{SlotMap}
use Rattle.shim_units.specs.Calls.{params_of, params_at}
use Rattle.shim_units.specs.Moving.{slot_index_of}
use Rattle.shim_units.specs.OfText.{IsUnitsOfText, IsAcceptedForm}
use Rattle.shim_units.specs.Parts.{LiftContext}
use Rattle.shim_units.specs.PartFold.{uses_in, declares_in}
use Rattle.shim_units.specs.Rule.{ObeyAll, Obeys}
use Rattle.shim_units.specs.Lifting.{sort_of, sort_or_bool}
use Rattle.shim_units.specs.Units.{upto, name_or_mark, function_slot_map, lift_function, lift_functions, lifted}
use Rattle.shim_units.proofs.Counting.{upto_length}
use Rattle.shim_process.specs.LocalState.{unit_or, unit_at}
use Rattle.shim_laws_binding.specs.LexicalScope.{Pairwise}
use Rattle.shim_laws_binding.specs.TextOrder.{AreInTextOrder, IsInTextOrder, Declaration, declared_param, declarations_in}
use Rattle.shim_laws_binding.proofs.Lists.{Each, each_of_both}
use Rattle.shim_laws_binding.proofs.TextOrderLemmas.{around_body, IsMade, is_made, whole_of, is_form, slots_are_in_text_order}
use Rattle.shim_laws_sources.proofs.Lists.{at_length, at_first}
use Rattle.shim_laws_sources.proofs.Lifting.{StandFrom, stand_first, stand_from}
use Rattle.shim_laws_sources.proofs.SortedBinding.{as_it_was}
use Rattle.shim_scopes.proofs.Refusals.{first_ok}
use Rattle.shim_base.proofs.Facts.{both_hold, some_same}
use Rattle.shim_laws_stops.specs.InScope.{is_number, same_kind, distinct, all_numbers, slots_right, all_scoped, unit_scoped, AllInScope}
use Rattle.shim_laws_stops.proofs.Among.{Among, none_among, first_of, among_behind, among_cases, among_first, among_second, placed_first, among_upto, under_upto}
use Rattle.shim_laws_stops.proofs.ScopeLists.{once_both}
use Rattle.shim_laws_stops.proofs.ScopeLifting.{Facts, Stands, Lies, UnitInScope, number_there, same_kind_itself}
use Rattle.shim_laws_stops.proofs.ScopeExprs.{slots, IsPlaced, ArePlaced}
use Rattle.shim_laws_stops.proofs.ScopeParts.{BodyIn}
use Rattle.shim_laws_stops.proofs.ScopeBinding.{ParamsSuit, HeadersSuit, placed_later}
use Rattle.shim_laws_stops.proofs.ScopeBodies.{ByValueNumber, FunctionText, program_text}
use Rattle.shim_laws_stops.proofs.ThrowUnits.{all_stand, own_length, has_unit, in_order_at, passes}

-- lists

pub map_at : {S T : Type 0} (g : S → T) (xs : List S) (i : ℕ) (x : S) → slice_get xs i ≡ Some x → slice_get (map g xs) i ≡ Some (g x)
map_at g [] i x e = absurd (cc e)
map_at g (y ∷ xs) zero x e = ap (λ z. Some (g z)) (some_same y x e)
map_at g (y ∷ xs) (suc i) x e = map_at g xs i x e

pub of_map : {S T : Type 0} (g : S → T) (xs : List S) (i : ℕ) (t : T) → slice_get (map g xs) i ≡ Some t → (x : S) × (slice_get xs i ≡ Some x) × (g x ≡ t)
of_map g [] i t e = absurd (cc e)
of_map g (y ∷ xs) zero t e = (y, refl, some_same (g y) t e)
of_map g (y ∷ xs) (suc i) t e = of_map g xs i t e

upto_at : (n i : ℕ) → i < n → slice_get (upto n) i ≡ Some i
upto_at zero i h = absurd (omega (arith, h))
upto_at (suc n) i h = elim (split n i h) [
  | inl low ↦ at_first (upto n) (n ∷ []) i i (upto_at n i low)
  | inr same ↦
      let long : i ≡ length (upto n) = sym same ∙ sym (upto_length n) in
      ap (slice_get (upto n ++ n ∷ [])) long ∙ at_length (upto n) n [] ∙ ap Some same
]
  where
    split : (n i : ℕ) → i < suc n → (i < n) ⊎ (n ≡ i)
    split zero zero h = inr refl
    split zero (suc i) h = absurd (omega (arith, h))
    split (suc n) zero h = inl (omega arith)
    split (suc n) (suc i) h = elim (split n i (omega (arith, h))) [ inl f ↦ inl (omega (arith, f)) | inr f ↦ inr (ap suc f) ]

there_among : (xs : List ℕ) (i x : ℕ) → slice_get xs i ≡ Some x → Among xs x
there_among [] i x e = absurd (cc e)
there_among (y ∷ xs) zero x e = subst (Among (y ∷ xs)) (some_same y x e) (first_of y xs)
there_among (y ∷ xs) (suc i) x e = among_behind y xs x (there_among xs i x e)

after_at : (xs ys : List ℕ) (i x : ℕ) → slice_get (xs ++ ys) i ≡ Some x → length xs ≤ i → Among ys x
after_at [] ys i x e h = there_among ys i x e
after_at (y ∷ xs) ys zero x e h = absurd (omega (arith, h))
after_at (y ∷ xs) ys (suc i) x e h = after_at xs ys i x e (omega (arith, h))

pub get_below : {T : Type 0} (xs : List T) (i : ℕ) (x : T) → slice_get xs i ≡ Some x → i < length xs
get_below [] i x e = absurd (cc e)
get_below (y ∷ xs) zero x e = omega arith
get_below (y ∷ xs) (suc i) x e = let k = get_below xs i x e in omega (arith, k)

upto_once : (n : ℕ) → distinct (upto n) ≡ true
upto_once zero = refl
upto_once (suc n) =
    once_both (upto n) (n ∷ []) (upto_once n) refl (λ y h k. elim (among_cases n [] y k) [ inl e ↦ (let low = under_upto n y h in absurd (omega (arith, low, e))) | inr j ↦ none_among y j ])

-- the first slots hold what the parameters say, and those after numbers
right_by : (ps : List UParam) (ss : List Sort) → ((i : ℕ) (p : UParam) → slice_get ps i ≡ Some p → slice_get ss i ≡ Some p.sort) → ((i : ℕ) (s : Sort) → length ps ≤ i → slice_get ss i ≡ Some s → is_number (Some s) ≡ true) → slots_right ps ss ≡ true
right_by [] [] f g = refl
right_by [] (s ∷ ss) f g = both_hold (is_number (Some s)) (all_numbers ss) (g 0 s (omega arith) refl) (right_by [] ss (λ i p e. absurd (cc e)) (λ i r low e. g (suc i) r (omega arith) e))
right_by (p ∷ ps) [] f g = absurd (cc (f 0 p refl))
right_by (p ∷ ps) (s ∷ ss) f g =
    let same : s ≡ p.sort = some_same s p.sort (f 0 p refl) in
    both_hold (same_kind p.sort (Some s)) (slots_right ps ss) (ap (λ z. same_kind p.sort (Some z)) same ∙ same_kind_itself p.sort) (right_by ps ss (λ i q e. f (suc i) q e) (λ i r low e. g (suc i) r (omega (arith, low)) e))

-- headers

params_suit : (names : Texts) (ps : List Param) → Each ByValueNumber ps → ParamsSuit ps (map (λ (p : Param). let q : UParam = record { sort = p.sort; by_ref = p.by_ref; name = name_index names p.name } in q) ps)
params_suit names [] h = tt
params_suit names (p ∷ ps) h = (refl, refl, h.0, params_suit names ps h.1)

pub each_at : {T : Type 0} (P : T → Type 0) (ts : List T) (n : ℕ) (t : T) → Each P ts → slice_get ts n ≡ Some t → P t
each_at P [] n t h e = absurd (cc e)
each_at P (x ∷ ts) zero t h e = subst P (some_same x t e) h.0
each_at P (x ∷ ts) (suc n) t h e = each_at P ts n t h.1 e

headers_suit : (p : Resolved) (w : Whole) → AreInTextOrder p.names w.functions p.functions → Each (FunctionText w) w.functions → HeadersSuit (lifted p) p.functions w.functions
unfolding unit_at
headers_suit p w order texts n f e =
    let r = lift_functions p.names p.functions 0 (length p.functions) p.functions in
    let g = in_order_at p.names w.functions p.functions n f order e in
    let u = has_unit p.names p.functions 0 (length p.functions) p.functions n g.function g.there in
    let at : slice_get (r.own ++ r.lifted) n ≡ Some u.unit = at_first r.own r.lifted n u.unit u.there in
    let here : params_at p.functions n ≡ g.function.params = ap params_of g.there in
    record {
      params = ap (λ o. (unit_or o).params) at ∙ u.params ∙ sym here;
      suits = subst (ParamsSuit f.params) (sym (here ∙ g.order.params)) (params_suit p.names f.params (each_at (FunctionText w) w.functions n f texts e).params);
    }

-- where a body begins its parameters are declared

placed_on : (lo : ℕ) (xs ys : List Sort) (ls : List LocalDeclaration) → ArePlaced lo xs ls → ArePlaced lo (xs ++ ys) ls
placed_on lo xs ys [] h = tt
placed_on lo xs ys (l ∷ ls) h = (record { sort = at_first xs ys l.bound.slot l.bound.sort h.0.sort; below = h.0.below }, placed_on lo xs ys ls h.1)

params_placed : (names : Texts) (ps : List Param) (b : Before) → ArePlaced (length b.slots) b.slots b.own → ArePlaced (length (params_from names b ps).slots) (params_from names b ps).slots (params_from names b ps).own
params_placed names [] b h = h
params_placed names (p ∷ ps) b h =
    let long : length (b.slots ++ p.sort ∷ []) ≡ length b.slots + 1 = length-append b.slots (p.sort ∷ []) in
    let l : LocalDeclaration = local_of p.name p.sort (length b.slots) in
    params_placed names ps (with_param names b p)
    (each_of_both (IsPlaced (length (b.slots ++ p.sort ∷ [])) (b.slots ++ p.sort ∷ [])) b.own (l ∷ [])
    (placed_later (length b.slots) (length (b.slots ++ p.sort ∷ [])) (b.slots ++ p.sort ∷ []) b.own (omega (arith, long)) (placed_on (length b.slots) b.slots (p.sort ∷ []) b.own h))
    (record { sort = at_length b.slots p.sort []; below = omega (arith, long) }, tt))

params_many : (names : Texts) (b : Before) (ps : List Param) → length (params_from names b ps).slots ≡ length b.slots + length ps
params_many names b [] = omega arith
params_many names b (p ∷ ps) = omega (arith, params_many names (with_param names b p) ps, length-append b.slots (p.sort ∷ []))

below_of : (lo : ℕ) (all : List Sort) (ls : List LocalDeclaration) (y : ℕ) → ArePlaced lo all ls → Among (slots ls) y → y < lo
below_of lo all [] y h a = none_among y a
below_of lo all (l ∷ ls) y h a = elim (among_cases l.bound.slot (slots ls) y a) [ inl e ↦ subst (λ z. z < lo) e h.0.below | inr b ↦ below_of lo all ls y h.1 b ]

-- a function

module _ (w : Whole) (form : Form) (fs : List RFunction) (headers : HeadersSuit form fs w.functions) where
  abbrev begins : Function → Before
  begins f = params_from w.names function_begin f.params

  record FunctionIn (f : Function) (r : RFunction) : Type 0 where
    around : List ℕ
    lo : ℕ
    hi : ℕ
    top : List ℕ
    low : (y : ℕ) → Among around y → y < lo
    many : lo ≡ length f.params
    body : BodyIn form fs around lo hi r.slots top r.body

  function_in : (f : Function) (r : RFunction) → FunctionText w f → IsMade w f r → FunctionIn f r
  function_in f r text m =
      let b : Before = begins f in
      let i = text.body form fs headers (around_body f) b m.body m.bound in
      let all : List Sort = m.body.before.slots in
      let first : ArePlaced (length b.slots) b.slots b.own = params_placed w.names f.params function_begin tt in
      let are : ArePlaced (length b.slots) all b.own = subst (λ l. ArePlaced (length b.slots) l b.own) (sym i.slots_on.whole) (placed_on (length b.slots) b.slots i.slots_on.more b.own first) in
      subst (FunctionIn f) m.made (record {
        around = slots b.own;
        lo = length b.slots;
        hi = length m.body.before.slots;
        top = slots i.more;
        low = λ y h. below_of (length b.slots) all b.own y are h;
        many = params_many w.names function_begin f.params ∙ (let e : 0 + length f.params ≡ length f.params = omega arith in e);
        body = i.tree all (as_it_was all) are;
      })

  -- its parameters are in scope where it begins
  function_stands : (f : Function) (r : RFunction) (h : FunctionIn f r) → length r.params ≡ length f.params → Stands h.around (uses_in fs r.body) (declares_in r.body) (function_slot_map r) (upto (length r.params))
  function_stands f r h same =
      let n : ℕ = length r.params in
      let ds : List ℕ = declares_in r.body in
      let lo = h.many in
      let facts : Facts h.around h.lo h.hi r.slots (uses_in fs r.body) (declares_in r.body) = h.body.facts in
      let first : (y : ℕ) → Among h.around y → Among (upto n) y = λ y a. let low = h.low y a in among_upto n y (omega (arith, low, lo, same)) in
      let long : length (upto n) ≡ n = upto_length n in
      record {
        there = λ y a k. among_first (upto n) ds y (first y a);
        known = λ y a k. let p = placed_first (upto n) ds y (first y a) in among_upto n (slot_index_of (upto n ++ ds) y) (omega (arith, p, long));
        own = λ y a. among_second (upto n) ds y a;
        once = once_both (upto n) ds (upto_once n) facts.once (λ y a k. let low = under_upto n y a in let high = facts.fresh y (facts.said y k) in absurd (omega (arith, low, high, lo, same)));
      }

  params_first : (names : Texts) (f : Function) (r : RFunction) (i : ℕ) (p : UParam) → IsInTextOrder names f r → slice_get r.params i ≡ Some p → slice_get r.slots i ≡ Some p.sort
  params_first names f r i p order e =
      let g : Param → UParam = λ q. record { sort = q.sort; by_ref = q.by_ref; name = name_index names q.name } in
      let q = of_map g f.params i p (ap (λ l. slice_get l i) (sym order.params) ∙ e) in
      ap (λ l. slice_get l i) order.slots
      ∙ map_at (λ (d : Declaration). d.sort) (map declared_param f.params ++ declarations_in f.body) i (declared_param q.0)
      (at_first (map declared_param f.params) (declarations_in f.body) i (declared_param q.0) (map_at declared_param f.params i q.0 q.1))
      ∙ ap (λ (z : UParam). Some z.sort) q.2

  slots_are_right : (names : Texts) (f : Function) (r : RFunction) → IsInTextOrder names f r → ((y : ℕ) → Among (declares_in r.body) y → is_number (slice_get r.slots y) ≡ true) → slots_right r.params (map (sort_of r) (function_slot_map r).slots) ≡ true
  slots_are_right names f r order numbers =
      let n : ℕ = length r.params in
      let ds : List ℕ = declares_in r.body in
      let long : length (upto n) ≡ n = upto_length n in
      right_by r.params (map (sort_of r) (upto n ++ ds))
      (λ i p e.
      let at : slice_get (upto n ++ ds) i ≡ Some i = at_first (upto n) ds i i (upto_at n i (get_below r.params i p e)) in
      map_at (sort_of r) (upto n ++ ds) i i at ∙ ap (λ o. Some (sort_or_bool o)) (params_first names f r i p order e))
      (λ i s low e.
      let q = of_map (sort_of r) (upto n ++ ds) i s e in
      let d : Among (declares_in r.body) q.0 = after_at (upto n) ds i q.0 q.1 (omega (arith, low, long)) in
      ap (λ z. is_number (Some z)) (sym q.2) ∙ number_there (slice_get r.slots q.0) (numbers q.0 d))

  -- the units of some functions, and what is lifted out of them
  record FunctionsIn (names : List (List ℕ)) (number next : ℕ) (rs : List RFunction) : Type 0 where
    own : Each (UnitInScope form fs) (lift_functions names fs number next rs).own
    lifted : Each (UnitInScope form fs) (lift_functions names fs number next rs).lifted

  functions_in : (names : List (List ℕ)) (number next : ℕ) (gs : List Function) (rs : List RFunction) → Pairwise (IsMade w) gs rs → AreInTextOrder names gs rs → Each (FunctionText w) gs → ObeyAll fs rs
      → StandFrom form next (lift_functions names fs number next rs).lifted → FunctionsIn names number next rs
  functions_in names number next [] [] made order texts obeys stand = record { own = tt; lifted = tt }
  functions_in names number next [] (r ∷ rs) made order texts obeys stand = absurd made
  functions_in names number next (g ∷ gs) [] made order texts obeys stand = absurd made
  functions_in names number next (g ∷ gs) (r ∷ rs) made order texts obeys stand =
      let context : LiftContext = record { functions = fs; function = r; number = number; name = name_or_mark names r.name; first = next } in
      let l = lift_function names fs number next r in
      let m : ℕ = next + length l.lifted in
      let rest = lift_functions names fs (number + 1) m rs in
      let h : FunctionIn g r = function_in g r texts.0 made.0 in
      let same : length r.params ≡ length g.params = ap length order.0.params ∙ length-map g.params _ in
      let s = function_stands g r h same in
      let w2 : SlotMap = function_slot_map r in
      let xs : List ℕ = upto (length r.params) in
      let lies : Lies form fs r.slots context (function_slot_map r) l.own = record { slots = refl; functions = refl; unit = refl } in
      let there = stand_first form next l.lifted rest.lifted stand in
      let more = functions_in names (number + 1) m gs rs made.1 order.1 texts.1 obeys.1 (stand_from form next m l.lifted rest.lifted refl stand) in
      record {
        own = (
          both_hold (slots_right l.own.params l.own.slots) (all_scoped form l.own l.own.body (upto (length l.own.params)))
              (slots_are_right names g r order.0 h.body.facts.numbers)
              (h.body.lifts.tree context w2 next l.own xs lies s obeys.0 there),
          more.own,
        );
        lifted = each_of_both (UnitInScope form fs) l.lifted rest.lifted (h.body.lifts.units context w2 next l.own xs lies s obeys.0 there) more.lifted;
      }

all_made : (w : Whole) (earlier : Texts) (fs : List Function) (rs : List RFunction) → bind_functions w earlier fs ≡ Ok rs → Pairwise (IsMade w) fs rs
all_made w earlier [] rs e = let none : [] ≡ rs = cc in subst (λ (l : List RFunction). Pairwise (IsMade w) [] l) none tt
all_made w earlier (f ∷ fs) rs e =
    let p = first_ok (bind_function w earlier f) _ rs e in
    let q = first_ok (bind_functions w (earlier ++ f.name ∷ []) fs) _ rs p.2 in
    let same : p.0 ∷ q.0 ≡ rs = cc in
    subst (λ (l : List RFunction). Pairwise (IsMade w) (f ∷ fs) l) same (is_made w earlier f p.0 p.1, all_made w (earlier ++ f.name ∷ []) fs q.0 q.1)

scoped_at : (form : Form) (fs : List RFunction) (us : List UnitOf) (n : ℕ) → Each (UnitInScope form fs) us → unit_scoped form (unit_or (slice_get us n)) ≡ true
scoped_at form fs [] n h = refl
scoped_at form fs (u ∷ us) zero h = h.0
scoped_at form fs (u ∷ us) (suc n) h = scoped_at form fs us n h.1

lifted_scoped : (p : Resolved) → IsFormOfText p → Obeys p → AllInScope (lifted p)
unfolding unit_at
lifted_scoped p t obeys n =
    let r = lift_functions p.names p.functions 0 (length p.functions) p.functions in
    let w : Whole = whole_of t.program in
    let order = slots_are_in_text_order t.program p t.meant in
    let texts = program_text (whole_of t.program) t.has.text.derives in
    let headers = headers_suit p (whole_of t.program) order texts in
    let stand = all_stand (lifted p) (length p.functions) r.own r.lifted (sym (own_length p.names p.functions 0 (length p.functions) p.functions)) refl in
    let made = all_made (whole_of t.program) [] t.program.functions p.functions (is_form t.program p t.meant).bound in
    let right = functions_in (whole_of t.program) (lifted p) p.functions headers p.names 0 (length p.functions) t.program.functions p.functions made order texts obeys stand in
    scoped_at (lifted p) p.functions (r.own ++ r.lifted) n (each_of_both (UnitInScope (lifted p) p.functions) r.own r.lifted right.own right.lifted)

scoped_of_text : (form : Form) → IsUnitsOfText form → AllInScope form
scoped_of_text form k n = passes _ k.of_text (λ t. subst (λ (f : Form). unit_scoped f (unit_at f n) ≡ true) k.meant (lifted_scoped k.resolved t k.obeys n))

pub all_in_scope : (form : Form) → IsAcceptedForm form → AllInScope form
all_in_scope form k n = passes _ k.of_text (λ u. scoped_of_text form u n)
