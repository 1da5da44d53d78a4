-- What is lifted out of a part names what is in scope, where the part names what stands around it or what it declares.
use Rattle.std.proofs.Common.{ℕ, ◌+◌, ◌<◌, ◌≤◌, ◌≡◌, ◌∙◌, ◌⊎◌, Bool, true, false, ◌&&◌, inl, inr, List, [], ◌∷◌, ◌++◌, Option, Some, None, length, map, slice_get, refl, sym, ap, subst, arith}
use Rattle.std.proofs.lemmas.Bool.{true≢false}
use Rattle.std.proofs.lemmas.List.{length-map}
use Rattle.shim_syntax.specs.declared.tree.Sort.{Sort}
use Rattle.shim_syntax.specs.declared.tree.Sort.TheVariants.{Value, Input, Output}
use Rattle.shim_scopes.specs.declared.tree.RFunction.{RFunction}
use Rattle.shim_scopes.specs.declared.tree.UParam.{UParam}
use Rattle.shim_units.specs.declared.found.Use.{Use}
use Rattle.shim_units.specs.declared.form.Form.{Form}
use Rattle.shim_units.specs.declared.unit.Unit.{Unit as UnitOf}
use Rattle.shim_units.specs.declared.unit.Arg.{Arg}
use Rattle.shim_units.specs.declared.unit.UStmt.{UStmt}
use Rattle.shim_units.specs.declared.slot_map.SlotMap.{SlotMap}
use Rattle.shim_units.specs.Captures.{Captures, captures, taken_of, declares_variable, writes, names, is_reference, is_taken}
use Rattle.shim_units.specs.Moving.{slot_index_of, by_mode}
use Rattle.shim_units.specs.Parts.{LiftContext, Part, SharingPlace, Lifts, all_uses, all_places, all_declares, all_tries}
use Rattle.shim_units.specs.Rule.{Obey}
use Rattle.shim_units.specs.Lifting.{lift_all, on_tree, lift_two, is_among, sort_of, sort_or_bool, branch_param, branch_arg, branch_call, branch_unit, branch_captures, branch_slots, branch_exceptions, branch_inner, lift_branch}
use Rattle.shim_units.specs.Units.{upto}
use Rattle.shim_process.specs.LocalState.{unit_at}
use Rattle.shim_laws_binding.proofs.Lists.{Each, each_of_both}
use Rattle.shim_laws_sources.proofs.Lifting.{StandFrom, stand_first, stand_from}
use Rattle.shim_base.proofs.Facts.{both_hold}
use Rattle.shim_laws_stops.specs.InScope.{is_number, same_kind, has_number, argument_right, arguments_right, references, distinct, call_right, Scoped, declares_none, all_scoped, all_numbers, slots_right, unit_scoped}
use Rattle.shim_laws_stops.proofs.Among.{Among, none_among, first_of, among_behind, among_cases, among_first, among_second, among_either, among_passed, was_among, passes, placed_first, among_upto}
use Rattle.shim_laws_stops.proofs.ScopeLists.{Names, Declares, names_first, names_second, names_either, declares_first, declares_second, declares_either, writes_names, once_first, once_rest, once_more, once_both, once_passed, at_place_of, same_place}
use Rattle.shim_laws_stops.proofs.ScopeSteps.{all_in}

-- What a part of a text names is around it, or it declares it; what it declares has the slots from lo on and below hi, which hold numbers, each slot once.
pub record Facts (around : List ℕ) (lo hi : ℕ) (all : List Sort) (us : List Use) (ds : List ℕ) : Type 0 where
  pub grows : lo ≤ hi
  pub used : (y : ℕ) → Names us y → Among around y ⊎ Declares us y
  pub fresh : (y : ℕ) → Declares us y → lo ≤ y
  pub numbers : (y : ℕ) → Among ds y → is_number (slice_get all y) ≡ true
  pub below : (y : ℕ) → Among ds y → y < hi
  pub said : (y : ℕ) → Among ds y → Declares us y
  pub once : distinct ds ≡ true

-- Where the part stands in a unit that has these of its function's slots: what it names of what is around it is there, and in scope; what it declares is there; and none is there twice.
pub record Stands (around : List ℕ) (us : List Use) (ds : List ℕ) (w : SlotMap) (xs : List ℕ) : Type 0 where
  pub there : (y : ℕ) → Among around y → Names us y → Among w.slots y
  pub known : (y : ℕ) → Among around y → Names us y → Among xs (slot_index_of w.slots y)
  pub own : (y : ℕ) → Among ds y → Among w.slots y
  pub once : distinct w.slots ≡ true

pub no_facts : (around : List ℕ) (lo : ℕ) (all : List Sort) → Facts around lo lo all [] []
no_facts around lo all = record {
  grows = omega arith;
  used = λ y h. absurd (cc h);
  fresh = λ y h. absurd (cc h);
  numbers = λ y h. none_among y h;
  below = λ y h. none_among y h;
  said = λ y h. none_among y h;
  once = refl;
}

-- two parts, where what is around the second was around the first, or the first one declared it
module _ (around next : List ℕ) (lo mi hi : ℕ) (all : List Sort) (us vs : List Use) (ds es : List ℕ) (from : (y : ℕ) → Among next y → Among around y ⊎ Among ds y) where
  pub both_facts : Facts around lo mi all us ds → Facts next mi hi all vs es → Facts around lo hi all (us ++ vs) (ds ++ es)
  both_facts a b =
      let up = a.grows in
      let on = b.grows in
      record {
        grows = omega (arith, up, on);
        used = λ y h. elim (names_either us vs y h) [
          | inl k ↦ elim (a.used y k) [ inl i ↦ inl i | inr i ↦ inr (declares_first us vs y i) ]
          | inr k ↦ elim (b.used y k) [
            | inl i ↦ elim (from y i) [ inl j ↦ inl j | inr j ↦ inr (declares_first us vs y (a.said y j)) ]
            | inr i ↦ inr (declares_second us vs y i)
          ]
        ];
        fresh = λ y h. elim (declares_either us vs y h) [
          | inl k ↦ a.fresh y k
          | inr k ↦ let low = b.fresh y k in omega (arith, low, up)
        ];
        numbers = λ y h. elim (among_either ds es y h) [ inl k ↦ a.numbers y k | inr k ↦ b.numbers y k ];
        below = λ y h. elim (among_either ds es y h) [ inl k ↦ let low = a.below y k in omega (arith, low, on) | inr k ↦ b.below y k ];
        said = λ y h. elim (among_either ds es y h) [ inl k ↦ declares_first us vs y (a.said y k) | inr k ↦ declares_second us vs y (b.said y k) ];
        once = once_both ds es a.once b.once (λ y h k. let low = a.below y h in let high = b.fresh y (b.said y k) in absurd (omega (arith, low, high)));
      }

module _ (around next : List ℕ) (us vs : List Use) (ds es : List ℕ) (from : (y : ℕ) → Among next y → Among around y ⊎ Among ds y) where
  pub stands_first : (w : SlotMap) (xs : List ℕ) → Stands around (us ++ vs) (ds ++ es) w xs → Stands around us ds w xs
  stands_first w xs s = record {
    there = λ y h k. s.there y h (names_first us vs y k);
    known = λ y h k. s.known y h (names_first us vs y k);
    own = λ y h. s.own y (among_first ds es y h);
    once = s.once;
  }

  pub stands_second : (w : SlotMap) (xs ys : List ℕ) → ((y : ℕ) → Among next y → Names vs y → Among ys (slot_index_of w.slots y)) → Stands around (us ++ vs) (ds ++ es) w xs → Stands next vs es w ys
  stands_second w xs ys known s = record {
    there = λ y h k. elim (from y h) [ inl i ↦ s.there y i (names_second us vs y k) | inr i ↦ s.own y (among_first ds es y i) ];
    known = known;
    own = λ y h. s.own y (among_second ds es y h);
    once = s.once;
  }

-- names alone before a part
pub record OnlyNames (around : List ℕ) (us : List Use) : Type 0 where
  pub among : (y : ℕ) → Names us y → Among around y
  pub none : (y : ℕ) → Declares us y → ⊥

-- names alone, of numbers, as those of an expression
pub record ReadsNumbers (around : List ℕ) (all : List Sort) (us : List Use) : Type 0 where
  pub names : OnlyNames around us
  pub numbers : (y : ℕ) → Names us y → is_number (slice_get all y) ≡ true

pub named_facts : (around : List ℕ) (lo hi : ℕ) (all : List Sort) (ns us : List Use) (ds : List ℕ) → OnlyNames around ns → Facts around lo hi all us ds → Facts around lo hi all (ns ++ us) ds
named_facts around lo hi all ns us ds n f = record {
  grows = f.grows;
  used = λ y h. elim (names_either ns us y h) [
    | inl k ↦ inl (n.among y k)
    | inr k ↦ elim (f.used y k) [ inl i ↦ inl i | inr i ↦ inr (declares_second ns us y i) ]
  ];
  fresh = λ y h. elim (declares_either ns us y h) [ inl k ↦ absurd (n.none y k) | inr k ↦ f.fresh y k ];
  numbers = f.numbers;
  below = f.below;
  said = λ y h. declares_second ns us y (f.said y h);
  once = f.once;
}

pub stands_named : (around : List ℕ) (ns us : List Use) (ds : List ℕ) (w : SlotMap) (xs : List ℕ) → Stands around (ns ++ us) ds w xs → Stands around us ds w xs
stands_named around ns us ds w xs s = record {
  there = λ y h k. s.there y h (names_second ns us y k);
  known = λ y h k. s.known y h (names_second ns us y k);
  own = s.own;
  once = s.once;
}

-- what some of the names alone are, where the part stands
pub stands_some : (around : List ℕ) (ns us : List Use) (ds : List ℕ) (w : SlotMap) (xs : List ℕ) → ((y : ℕ) → Names ns y → Names us y) → Stands around us ds w xs → Stands around ns [] w xs
stands_some around ns us ds w xs f s = record { there = λ y h k. s.there y h (f y k); known = λ y h k. s.known y h (f y k); own = λ y h. none_among y h; once = s.once }

-- the places of two parts
pub obeys_first : (sorts : List Sort) (ps qs : List SharingPlace) → Obey sorts (ps ++ qs) → Obey sorts ps
obeys_first sorts [] qs h = tt
obeys_first sorts (p ∷ ps) qs h = (h.0, obeys_first sorts ps qs h.1)

pub obeys_second : (sorts : List Sort) (ps qs : List SharingPlace) → Obey sorts (ps ++ qs) → Obey sorts qs
obeys_second sorts [] qs h = h
obeys_second sorts (p ∷ ps) qs h = obeys_second sorts ps qs h.1

-- the slots of a unit that has these of its function's
abbrev pub slots_of : LiftContext → SlotMap → List Sort
slots_of context w = map (sort_of context.function) w.slots

module _ (form : Form) (fs : List RFunction) where
  -- the part stands in a function with these slots, in this unit
  pub record Lies (all : List Sort) (context : LiftContext) (w : SlotMap) (u : UnitOf) : Type 0 where
    pub slots : context.function.slots ≡ all
    pub functions : context.functions ≡ fs
    pub unit : u.slots ≡ slots_of context w

  abbrev pub UnitInScope : UnitOf → Type 0
  UnitInScope u = unit_scoped form u ≡ true

  -- A part whose places obey the sharing rule. Its tree is right wherever it stands, and puts these into the scope of what follows it; the units that are lifted out of it are right.
  pub record LiftsScoped {T : Type 0} (check : UnitOf → T → Scoped) (around : List ℕ) (all : List Sort) (top : List ℕ) (us : List Use) (ds : List ℕ) (ps : List SharingPlace) (f : Lifts T) : Type 0 where
    pub tree : (context : LiftContext) (w : SlotMap) (n : ℕ) (u : UnitOf) (xs : List ℕ) → Lies all context w u → Stands around us ds w xs → Obey all ps → StandFrom form n (f context w n).units → (check u (f context w n).tree).right xs ≡ true
    pub declared : (context : LiftContext) (w : SlotMap) (n : ℕ) (u : UnitOf) (y : ℕ) → Among top y → Among (check u (f context w n).tree).declares (slot_index_of w.slots y)
    pub units : (context : LiftContext) (w : SlotMap) (n : ℕ) (u : UnitOf) (xs : List ℕ) → Lies all context w u → Stands around us ds w xs → Obey all ps → StandFrom form n (f context w n).units → Each UnitInScope (f context w n).units

  -- with something around the tree
  pub on_it : {S T : Type 0} (check : UnitOf → S → Scoped) (better : UnitOf → T → Scoped) (around : List ℕ) (all : List Sort) (top all_top : List ℕ) (us : List Use) (ds : List ℕ) (ps : List SharingPlace) (g : SlotMap → S → T) (f : Lifts S)
      → ((u : UnitOf) (w : SlotMap) (s : S) (xs : List ℕ) → (better u (g w s)).right xs ≡ (check u s).right xs)
      → ((u : UnitOf) (w : SlotMap) (s : S) (y : ℕ) → ((z : ℕ) → Among top z → Among (check u s).declares (slot_index_of w.slots z)) → Among all_top y → Among (better u (g w s)).declares (slot_index_of w.slots y))
      → LiftsScoped check around all top us ds ps f → LiftsScoped better around all all_top us ds ps (λ context w n. on_tree (g w) (f context w n))
  on_it check better around all top all_top us ds ps g f same tops h = record {
    tree = λ context w n u xs lies s o stand. same u w (f context w n).tree xs ∙ h.tree context w n u xs lies s o stand;
    declared = λ context w n u y a. tops u w (f context w n).tree y (h.declared context w n u) a;
    units = λ context w n u xs lies s o stand. h.units context w n u xs lies s o stand;
  }

  -- after what is read first, which puts nothing into scope
  pub after_reads : {S T : Type 0} (check : UnitOf → S → Scoped) (better : UnitOf → T → Scoped) (around : List ℕ) (all : List Sort) (top : List ℕ) (ns us : List Use) (ds : List ℕ) (ps : List SharingPlace) (g : SlotMap → S → T) (f : Lifts S) (reads : SlotMap → UnitOf → List ℕ → Bool)
      → ((u : UnitOf) (w : SlotMap) (s : S) (xs : List ℕ) → (better u (g w s)).right xs ≡ (reads w u xs && (check u s).right xs))
      → ((context : LiftContext) (w : SlotMap) (u : UnitOf) (xs : List ℕ) → Lies all context w u → Stands around ns [] w xs → reads w u xs ≡ true)
      → LiftsScoped check around all top us ds ps f → LiftsScoped better around all [] (ns ++ us) ds ps (λ context w n. on_tree (g w) (f context w n))
  after_reads check better around all top ns us ds ps g f reads same first h = record {
    tree = λ context w n u xs lies s o stand.
        same u w (f context w n).tree xs
        ∙ both_hold (reads w u xs) ((check u (f context w n).tree).right xs) (first context w u xs lies (stands_some around ns (ns ++ us) ds w xs (λ y k. names_first ns us y k) s))
        (h.tree context w n u xs lies (stands_named around ns us ds w xs s) o stand);
    declared = λ context w n u y a. none_among y a;
    units = λ context w n u xs lies s o stand. h.units context w n u xs lies (stands_named around ns us ds w xs s) o stand;
  }

  -- two, one after the other; the second one has these in scope, by those of the first
  pub two : {R S T : Type 0} (check : UnitOf → R → Scoped) (fine : UnitOf → S → Scoped) (better : UnitOf → T → Scoped) (around next : List ℕ) (all : List Sort) (top more all_top : List ℕ) (us vs : List Use) (ds es : List ℕ) (ps qs : List SharingPlace)
      (g : SlotMap → R → S → T) (f : Lifts R) (h : Lifts S) (scope : UnitOf → R → List ℕ → List ℕ)
      → ((y : ℕ) → Among next y → Among around y ⊎ Among ds y)
      → ((u : UnitOf) (w : SlotMap) (r : R) (xs : List ℕ) → ((z : ℕ) → Among top z → Among (check u r).declares (slot_index_of w.slots z)) → ((z : ℕ) → Among around z → Names (us ++ vs) z → Among xs (slot_index_of w.slots z))
      → (y : ℕ) → Among next y → Names vs y → Among (scope u r xs) (slot_index_of w.slots y))
      → ((u : UnitOf) (w : SlotMap) (r : R) (s : S) (xs : List ℕ) → (better u (g w r s)).right xs ≡ ((check u r).right xs && (fine u s).right (scope u r xs)))
      → ((u : UnitOf) (w : SlotMap) (r : R) (s : S) (y : ℕ) → ((z : ℕ) → Among top z → Among (check u r).declares (slot_index_of w.slots z)) → ((z : ℕ) → Among more z → Among (fine u s).declares (slot_index_of w.slots z))
      → Among all_top y → Among (better u (g w r s)).declares (slot_index_of w.slots y))
      → LiftsScoped check around all top us ds ps f → LiftsScoped fine next all more vs es qs h → LiftsScoped better around all all_top (us ++ vs) (ds ++ es) (ps ++ qs) (λ context w n. lift_two (g w) f h context w n)
  two check fine better around next all top more all_top us vs ds es ps qs g f h scope from behind same tops a b = record {
    tree = λ context w n u xs lies s o stand.
        let r = f context w n in
        let m : ℕ = n + length r.units in
        let q = h context w m in
        let ys : List ℕ = scope u r.tree xs in
        same u w r.tree q.tree xs
        ∙ both_hold ((check u r.tree).right xs) ((fine u q.tree).right ys)
        (a.tree context w n u xs lies (stands_first around next us vs ds es from w xs s) (obeys_first all ps qs o) (stand_first form n r.units q.units stand))
        (b.tree context w m u ys lies (stands_second around next us vs ds es from w xs ys (behind u w r.tree xs (a.declared context w n u) s.known) s) (obeys_second all ps qs o) (stand_from form n m r.units q.units refl stand));
    declared = λ context w n u y d.
        let r = f context w n in
        let m : ℕ = n + length r.units in
        let q = h context w m in
        tops u w r.tree q.tree y (a.declared context w n u) (b.declared context w m u) d;
    units = λ context w n u xs lies s o stand.
        let r = f context w n in
        let m : ℕ = n + length r.units in
        let q = h context w m in
        let ys : List ℕ = scope u r.tree xs in
        each_of_both UnitInScope r.units q.units
        (a.units context w n u xs lies (stands_first around next us vs ds es from w xs s) (obeys_first all ps qs o) (stand_first form n r.units q.units stand))
        (b.units context w m u ys lies (stands_second around next us vs ds es from w xs ys (behind u w r.tree xs (a.declared context w n u) s.known) s) (obeys_second all ps qs o) (stand_from form n m r.units q.units refl stand));
  }

-- how a branch takes a variable

taken_named : (o : Option Sort) (declared written named : Bool) → is_taken (taken_of o declared written named) ≡ true → (declared ≡ false) × ((named ≡ true) ⊎ (written ≡ true))
taken_named None declared written named h = absurd (cc h)
taken_named (Some s) true written named h = absurd (cc h)
taken_named (Some s) false true named h = (refl, inr refl)
taken_named (Some s) false false true h = (refl, inl refl)
taken_named (Some (Value t)) false false false h = absurd (cc h)
taken_named (Some Input) false false false h = absurd (cc h)
taken_named (Some Output) false false false h = absurd (cc h)

-- one by copy is a number
copied_number : (o : Option Sort) (declared written named : Bool) → is_taken (taken_of o declared written named) ≡ true → is_reference (taken_of o declared written named) ≡ false → is_number o ≡ true
copied_number None declared written named h k = absurd (cc h)
copied_number (Some (Value t)) declared written named h k = refl
copied_number (Some s) true written named h k = absurd (cc h)
copied_number (Some Input) false true named h k = absurd (cc k)
copied_number (Some Input) false false true h k = absurd (cc k)
copied_number (Some Input) false false false h k = absurd (cc h)
copied_number (Some Output) false true named h k = absurd (cc k)
copied_number (Some Output) false false true h k = absurd (cc k)
copied_number (Some Output) false false false h k = absurd (cc h)

-- what is named and not declared is taken
named_taken : (o : Option Sort) (s : Sort) (declared written named : Bool) → o ≡ Some s → (declared ≡ true → ⊥) → named ≡ true → is_taken (taken_of o declared written named) ≡ true
named_taken None s declared written named e never h = absurd (cc e)
named_taken (Some r) s true written named e never h = absurd (never refl)
named_taken (Some r) s false true named e never h = refl
named_taken (Some (Value t)) s false false true e never h = refl
named_taken (Some Input) s false false true e never h = refl
named_taken (Some Output) s false false true e never h = refl
named_taken (Some r) s false false false e never h = absurd (cc h)

pub number_there : (o : Option Sort) → is_number o ≡ true → is_number (Some (sort_or_bool o)) ≡ true
number_there None h = absurd (cc h)
number_there (Some s) h = h

pub kind_there : (s : Sort) (o : Option Sort) → same_kind s o ≡ true → same_kind s (Some (sort_or_bool o)) ≡ true
kind_there (Value t) o h = number_there o h
kind_there Input None h = absurd (cc h)
kind_there Input (Some s) h = h
kind_there Output None h = absurd (cc h)
kind_there Output (Some s) h = h

pub same_kind_itself : (s : Sort) → same_kind s (Some s) ≡ true
same_kind_itself (Value t) = refl
same_kind_itself Input = refl
same_kind_itself Output = refl

-- what is around a block has a slot below those that are declared in it
abbrev pub IsAround : List ℕ → ℕ → List Sort → Type 0
IsAround around lo all = (y : ℕ) → Among around y → (y < lo) × (s : Sort) × (slice_get all y ≡ Some s)

module _ (form : Form) (fs : List RFunction) where
  -- a block branch

  module _ (around : List ℕ) (lo hi : ℕ) (all : List Sort) (is_around : IsAround around lo all) (ps : List (Part UStmt)) (facts : Facts around lo hi all (all_uses fs ps) (all_declares ps)) where
    abbrev us : List Use
    us = all_uses fs ps

    abbrev ds : List ℕ
    ds = all_declares ps

    abbrev takes : Captures
    takes = captures all us

    not_declared : (y : ℕ) → Among around y → Declares us y → ⊥
    not_declared y h d = let low = (is_around y h).0 in let high = facts.fresh y d in absurd (omega (arith, low, high))

    around_taken : (y : ℕ) → Among around y → Names us y → is_taken (takes y) ≡ true
    around_taken y h n = let w = is_around y h in named_taken (slice_get all y) w.1 (declares_variable us y) (writes us y) (names us y) w.2 (not_declared y h) n

    -- a number that is taken is around the branch, and named in it
    taken_around : (y : ℕ) → is_taken (takes y) ≡ true → Among around y × Names us y
    taken_around y h =
        let w = taken_named (slice_get all y) (declares_variable us y) (writes us y) (names us y) h in
        let n : Names us y = elim w.1 [ inl e ↦ e | inr e ↦ writes_names us y e ] in
        elim (facts.used y n) [ inl a ↦ (a, n) | inr d ↦ absurd (true≢false (sym d ∙ w.0)) ]

    taken_not_own : (y : ℕ) → is_taken (takes y) ≡ true → Among ds y → ⊥
    taken_not_own y h d = let w = taken_around y h in not_declared y w.0 (facts.said y d)

    module _ (context : LiftContext) (same_slots : context.function.slots ≡ all) (same_functions : context.functions ≡ fs) where
      same_captures : branch_captures context ps ≡ takes
      same_captures = λ i. captures (same_slots i) (all_uses (same_functions i) ps)

      -- what the branch takes of these slots
      abbrev slots : SlotMap → List ℕ
      slots w = branch_slots context ps w

      its_slots : (w : SlotMap) (y : ℕ) → Among (slots w) y → Among w.slots y
      its_slots w y h = was_among (λ x. is_taken (branch_captures context ps x)) w.slots y h

      its_taken : (w : SlotMap) (y : ℕ) → Among (slots w) y → is_taken (takes y) ≡ true
      its_taken w y h = ap (λ (t : Captures). is_taken (t y)) (sym same_captures) ∙ passes (λ x. is_taken (branch_captures context ps x)) w.slots y h

      is_taken_there : (w : SlotMap) (y : ℕ) → Among w.slots y → is_taken (takes y) ≡ true → Among (slots w) y
      is_taken_there w y h k = among_passed (λ x. is_taken (branch_captures context ps x)) w.slots y h (ap (λ (t : Captures). is_taken (t y)) same_captures ∙ k)

      inside : (w : SlotMap) (xs : List ℕ) → Stands around us [] w xs → Stands around us ds (branch_inner context ps w) (upto (length (slots w)))
      inside w xs s = record {
        there = λ y h n. among_first (slots w) ds y (is_taken_there w y (s.there y h n) (around_taken y h n));
        known = λ y h n. among_upto (length (slots w)) (slot_index_of (slots w ++ ds) y) (placed_first (slots w) ds y (is_taken_there w y (s.there y h n) (around_taken y h n)));
        own = λ y h. among_second (slots w) ds y h;
        once = once_both (slots w) ds (once_passed (λ x. is_taken (branch_captures context ps x)) w.slots s.once) facts.once (λ y h k. taken_not_own y (its_taken w y h) k);
      }

      -- arguments and parameters

      sort_there : (w : SlotMap) (u : UnitOf) (y : ℕ) → u.slots ≡ slots_of context w → Among w.slots y → slice_get u.slots (slot_index_of w.slots y) ≡ Some (sort_of context.function y)
      sort_there w u y e h = ap (λ l. slice_get l (slot_index_of w.slots y)) e ∙ at_place_of (sort_of context.function) w.slots y h

      by_mode_right : (b : Bool) (u : UnitOf) (xs : List ℕ) (p : UParam) (i : ℕ) → Among xs i → same_kind p.sort (slice_get u.slots i) ≡ true → (b ≡ false → is_number (Some p.sort) ≡ true) → (b ≡ false → is_number (slice_get u.slots i) ≡ true) → argument_right u xs p (by_mode b i) ≡ true
      by_mode_right true u xs p i a k f g = both_hold (is_among xs i) (same_kind p.sort (slice_get u.slots i)) a k
      by_mode_right false u xs p i a k f g = both_hold (is_number (Some p.sort)) (has_number u xs i) (f refl) (both_hold (is_among xs i) (is_number (slice_get u.slots i)) a (g refl))

      one_right : (w : SlotMap) (u : UnitOf) (xs : List ℕ) (y : ℕ) → u.slots ≡ slots_of context w → Stands around us [] w xs → Among (slots w) y
          → argument_right u xs (branch_param context.function (branch_captures context ps) y) (branch_arg w.slots (branch_captures context ps) y) ≡ true
      one_right w u xs y e s h =
          let i : ℕ = slot_index_of w.slots y in
          let t = taken_around y (its_taken w y h) in
          let at : slice_get u.slots i ≡ Some (sort_of context.function y) = sort_there w u y e (its_slots w y h) in
          let number : is_reference (branch_captures context ps y) ≡ false → is_number (Some (sort_of context.function y)) ≡ true = λ no.
          ap (λ (l : List Sort). is_number (Some (sort_or_bool (slice_get l y)))) same_slots
          ∙ number_there (slice_get all y) (copied_number (slice_get all y) (declares_variable us y) (writes us y) (names us y) (its_taken w y h) (ap (λ (c : Captures). is_reference (c y)) (sym same_captures) ∙ no)) in
          by_mode_right (is_reference (branch_captures context ps y)) u xs (branch_param context.function (branch_captures context ps) y) i (s.known y t.0 t.1)
          (ap (same_kind (sort_of context.function y)) at ∙ same_kind_itself (sort_of context.function y)) number (λ no. ap is_number at ∙ number no)

      all_arguments_right : (w : SlotMap) (u : UnitOf) (xs ys : List ℕ) → u.slots ≡ slots_of context w → Stands around us [] w xs → ((y : ℕ) → Among ys y → Among (slots w) y)
          → arguments_right u xs (map (branch_param context.function (branch_captures context ps)) ys) (map (branch_arg w.slots (branch_captures context ps)) ys) ≡ true
      all_arguments_right w u xs [] e s f = refl
      all_arguments_right w u xs (y ∷ ys) e s f =
          both_hold _ _ (one_right w u xs y e s (f y (first_of y ys))) (all_arguments_right w u xs ys e s (λ z h. f z (among_behind y ys z h)))

      -- none is given by reference twice

      reference_of : (b : Bool) (i j : ℕ) (rest : List Arg) → Among (references (by_mode b i ∷ rest)) j → ((b ≡ true) × (i ≡ j)) ⊎ Among (references rest) j
      reference_of true i j rest h = elim (among_cases i (references rest) j h) [ inl e ↦ inl (refl, e) | inr e ↦ inr e ]
      reference_of false i j rest h = inr h

      pub referred : (w : SlotMap) (ys : List ℕ) (j : ℕ) → Among (references (map (branch_arg w.slots (branch_captures context ps)) ys)) j
          → (y : ℕ) × Among ys y × (slot_index_of w.slots y ≡ j) × (is_reference (takes y) ≡ true)
      referred w [] j h = none_among j h
      referred w (y ∷ ys) j h = elim (reference_of (is_reference (branch_captures context ps y)) (slot_index_of w.slots y) j (map (branch_arg w.slots (branch_captures context ps)) ys) h) [
        | inl e ↦ (y, first_of y ys, e.1, ap (λ (c : Captures). is_reference (c y)) (sym same_captures) ∙ e.0)
        | inr k ↦ let r = referred w ys j k in (r.0, among_behind y ys r.0 r.1, r.2, r.3)
      ]

      once_given : (b : Bool) (i : ℕ) (rest : List Arg) → distinct (references rest) ≡ true → (Among (references rest) i → ⊥) → distinct (references (by_mode b i ∷ rest)) ≡ true
      once_given true i rest h f = once_more i (references rest) f h
      once_given false i rest h f = h

      references_once : (w : SlotMap) (ys : List ℕ) → ((y : ℕ) → Among ys y → Among w.slots y) → distinct ys ≡ true → distinct (references (map (branch_arg w.slots (branch_captures context ps)) ys)) ≡ true
      references_once w [] f once = refl
      references_once w (y ∷ ys) f once =
          once_given (is_reference (branch_captures context ps y)) (slot_index_of w.slots y) (map (branch_arg w.slots (branch_captures context ps)) ys)
          (references_once w ys (λ z h. f z (among_behind y ys z h)) (once_rest y ys once))
          (λ h. let r = referred w ys (slot_index_of w.slots y) h in
          once_first y ys once (subst (Among ys) (same_place w.slots r.0 y (f r.0 (among_behind y ys r.0 r.1)) (f y (first_of y ys)) r.2) r.1))

      -- its unit

      params_right : (ys zs : List ℕ) → ((y : ℕ) → Among zs y → is_number (slice_get all y) ≡ true)
          → slots_right (map (branch_param context.function (branch_captures context ps)) ys) (map (sort_of context.function) (ys ++ zs)) ≡ true
      params_right [] [] f = refl
      params_right [] (z ∷ zs) f =
          both_hold (is_number (Some (sort_of context.function z))) (all_numbers (map (sort_of context.function) zs))
          (ap (λ (l : List Sort). is_number (Some (sort_or_bool (slice_get l z)))) same_slots ∙ number_there (slice_get all z) (f z (first_of z zs)))
          (params_right [] zs (λ y h. f y (among_behind z zs y h)))
      params_right (y ∷ ys) zs f =
          both_hold (same_kind (sort_of context.function y) (Some (sort_of context.function y))) (slots_right (map (branch_param context.function (branch_captures context ps)) ys) (map (sort_of context.function) (ys ++ zs)))
          (same_kind_itself (sort_of context.function y)) (params_right ys zs f)

      call_is_right : (w : SlotMap) (n : ℕ) (u : UnitOf) (xs : List ℕ) (v : UnitOf) → u.slots ≡ slots_of context w → Stands around us [] w xs → unit_at form n ≡ v → v.params ≡ map (branch_param context.function (branch_captures context ps)) (slots w)
          → call_right form u xs (branch_call w n (branch_captures context ps) (slots w) (branch_exceptions ps w)) ≡ true
      call_is_right w n u xs v e s there is =
          both_hold _ _
          (ap (λ (qs : List UParam). arguments_right u xs qs (map (branch_arg w.slots (branch_captures context ps)) (slots w))) (ap (λ (o : UnitOf). o.params) there ∙ is) ∙ all_arguments_right w u xs (slots w) e s (λ y h. h))
          (references_once w (slots w) (its_slots w) (once_passed (λ x. is_taken (branch_captures context ps x)) w.slots s.once))

      unit_is_right : (w : SlotMap) (n : ℕ) (body : List UStmt)
          → (let v : UnitOf = branch_unit context n (branch_captures context ps) (slots w) (branch_exceptions ps w) (branch_inner context ps w) (all_tries ps) body in
          all_scoped form v body (upto (length (slots w))) ≡ true → unit_scoped form v ≡ true)
      unit_is_right w n body h =
          let v : UnitOf = branch_unit context n (branch_captures context ps) (slots w) (branch_exceptions ps w) (branch_inner context ps w) (all_tries ps) body in
          both_hold (slots_right v.params v.slots) (all_scoped form v body (upto (length v.params)))
          (params_right (slots w) ds facts.numbers)
          (ap (λ k. all_scoped form v body (upto k)) (length-map (slots w) (branch_param context.function (branch_captures context ps))) ∙ h)

    pub block_branch : (top : List ℕ) → LiftsScoped form fs (all_in form) around all top us ds (all_places fs ps) (lift_all ps)
        → LiftsScoped form fs (λ u c. declares_none (λ xs. call_right form u xs c)) around all [] us [] (all_places fs ps) (lift_branch ps)
    block_branch top body = record {
      tree = λ context w n u xs lies s o stand. call_is_right context lies.slots lies.functions w n u xs _ lies.unit s stand.0 refl;
      declared = λ context w n u y h. none_among y h;
      units = λ context w n u xs lies s o stand.
          let inner : SlotMap = branch_inner context ps w in
          let tree : List UStmt = (lift_all ps context inner (n + 1)).tree in
          let v : UnitOf = branch_unit context n (branch_captures context ps) (branch_slots context ps w) (branch_exceptions ps w) inner (all_tries ps) tree in
          let ys : List ℕ = upto (length (branch_slots context ps w)) in
          let here = inside context lies.slots lies.functions w xs s in
          let there : Lies form fs all context inner v = record { slots = lies.slots; functions = lies.functions; unit = refl } in
          (unit_is_right context lies.slots lies.functions w n tree (body.tree context inner (n + 1) v ys there here o stand.1), body.units context inner (n + 1) v ys there here o stand.1);
    }
