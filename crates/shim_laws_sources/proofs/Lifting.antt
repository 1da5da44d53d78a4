-- What is lifted out of a part, and the tree that is left, fit where the part's declarations have places of their own and its calls suit.
use Rattle.std.proofs.Common.{ℕ, ◌+◌, ◌≡◌, ◌∙◌, Bool, true, ◌&&◌, List, [], ◌∷◌, ◌++◌, length, eq-eqb, refl, sym, ap, subst, arith}
use Rattle.std.proofs.lemmas.List.{length-map}
use Rattle.shim_scopes.specs.declared.tree.RCall.{RCall}
use Rattle.shim_scopes.specs.declared.tree.RFunction.{RFunction}
use Rattle.shim_scopes.specs.declared.tree.UExpr.{UExpr}
use Rattle.shim_scopes.specs.declared.tree.UParam.{UParam}
use Rattle.shim_units.specs.declared.form.Form.{Form}
use Rattle.shim_units.specs.declared.found.Use.{Use}
use Rattle.shim_units.specs.declared.unit.Unit.{Unit as UnitOf}
use Rattle.shim_units.specs.declared.unit.UCall.{UCall}
use Rattle.shim_units.specs.declared.unit.UStmt.{UStmt}
use Rattle.shim_units.specs.declared.slot_map.SlotMap.{SlotMap}
use Rattle.shim_units.specs.Calls.{behind_first, params_at}
use Rattle.shim_process.specs.LocalState.{unit_at}
use Rattle.shim_units.specs.Moving.{slot_index_of, args_of, moved_call}
use Rattle.shim_units.specs.Parts.{LiftContext, Part, Lifts, all_uses, all_declares, all_tries}
use Rattle.shim_units.specs.Captures.{declares_variable}
use Rattle.shim_units.specs.Lifting.{lift_all, unlifted, on_tree, lift_two, lift_three, sort_of, branch_arg, branch_param, branch_call, branch_unit, branch_captures, branch_slots, branch_exceptions, branch_inner, lift_branch, is_among}
use Rattle.shim_laws_binding.specs.HandedOn.{Calls}
use Rattle.shim_laws_binding.proofs.Lists.{Each, each_of_both, each_of_first, each_of_second}
use Rattle.shim_process.specs.OwnSlots.{has_arguments, is_own_slot, all_fit}
use Rattle.shim_laws_sources.proofs.Lists.{each_by_two}
use Rattle.shim_laws_sources.proofs.Placing.{all_among, declared_not_taken, some_first, some_second, own_place}
use Rattle.shim_base.proofs.Facts.{both_hold}

-- the text declares each of these
abbrev pub AreDeclared : List Use → List ℕ → Type 0
AreDeclared us ys = Each (λ y. declares_variable us y ≡ true) ys

pub declared_before : (us vs : List Use) (ys : List ℕ) → AreDeclared us ys → AreDeclared (us ++ vs) ys
declared_before us vs [] h = tt
declared_before us vs (y ∷ ys) h = (some_first _ us vs h.0, declared_before us vs ys h.1)

pub declared_behind : (us vs : List Use) (ys : List ℕ) → AreDeclared vs ys → AreDeclared (us ++ vs) ys
declared_behind us vs [] h = tt
declared_behind us vs (y ∷ ys) h = (some_second _ us vs h.0, declared_behind us vs ys h.1)

pub declared_in_both : (us vs : List Use) (ys zs : List ℕ) → AreDeclared us ys → AreDeclared vs zs → AreDeclared (us ++ vs) (ys ++ zs)
declared_in_both us vs ys zs h k = each_of_both (λ y. declares_variable (us ++ vs) y ≡ true) ys zs (declared_before us vs ys h) (declared_behind us vs zs k)

module _ (form : Form) where
  -- the units stand in the form from that number on
  abbrev pub StandFrom : ℕ → List UnitOf → Type 0
  StandFrom n [] = Unit {0}
  StandFrom n (u ∷ us) = (unit_at form n ≡ u) × StandFrom (n + 1) us

  pub stand_first : (n : ℕ) (us vs : List UnitOf) → StandFrom n (us ++ vs) → StandFrom n us
  stand_first n [] vs h = tt
  stand_first n (u ∷ us) vs h = (h.0, stand_first (n + 1) us vs h.1)

  pub stand_from : (n m : ℕ) (us vs : List UnitOf) → m ≡ n + length us → StandFrom n (us ++ vs) → StandFrom m vs
  stand_from n m [] vs e h = let same : n ≡ m = omega (arith, e) in subst (λ k. StandFrom k vs) same h
  stand_from n m (u ∷ us) vs e h = stand_from (n + 1) m us vs (omega (arith, e)) h.1

  -- the call has an argument for each parameter of the unit of that number
  abbrev pub IsGiven : RCall → Type 0
  IsGiven c = length c.args ≡ length (unit_at form c.function).params

  -- what the unit does fits in it
  abbrev pub FitsWell : UnitOf → Type 0
  FitsWell u = all_fit form u u.body ≡ true

  -- among these slots the variable's place is one of the unit's own
  abbrev pub IsOwn : UnitOf → SlotMap → ℕ → Type 0
  IsOwn u w y = is_own_slot u (slot_index_of w.slots y) ≡ true

  -- a part that declares these and has these calls
  pub record LiftFits {T : Type 0} (good : UnitOf → T → Bool) (ds : List ℕ) (cs : Calls) (f : Lifts T) : Type 0 where
    pub tree : (context : LiftContext) (w : SlotMap) (n : ℕ) (u : UnitOf) → Each (IsOwn u w) ds → Each IsGiven cs → StandFrom n (f context w n).units → good u (f context w n).tree ≡ true
    pub units : (context : LiftContext) (w : SlotMap) (n : ℕ) → Each IsGiven cs → StandFrom n (f context w n).units → Each FitsWell (f context w n).units

  -- a part that nothing is lifted out of
  pub alone : {T : Type 0} (good : UnitOf → T → Bool) (ds : List ℕ) (cs : Calls) (f : LiftContext → SlotMap → T)
      → ((context : LiftContext) (w : SlotMap) (u : UnitOf) → Each (IsOwn u w) ds → Each IsGiven cs → good u (f context w) ≡ true) → LiftFits good ds cs (λ context w n. unlifted (f context w))
  alone good ds cs f h = record { tree = λ context w n u own given stand. h context w u own given; units = λ context w n given stand. tt }

  -- with something around the tree
  pub around : {S T : Type 0} (good : UnitOf → S → Bool) (better : UnitOf → T → Bool) (ds : List ℕ) (cs : Calls) (g : SlotMap → S → T) (f : Lifts S)
      → ((u : UnitOf) (w : SlotMap) (s : S) → better u (g w s) ≡ good u s) → LiftFits good ds cs f → LiftFits better ds cs (λ context w n. on_tree (g w) (f context w n))
  around good better ds cs g f same h = record {
    tree = λ context w n u own given stand. same u w (f context w n).tree ∙ h.tree context w n u own given stand;
    units = λ context w n given stand. h.units context w n given stand;
  }

  -- two, one after the other
  pub two : {R S T : Type 0} (good : UnitOf → R → Bool) (fine : UnitOf → S → Bool) (better : UnitOf → T → Bool) (ds es : List ℕ) (cs bs : Calls) (g : SlotMap → R → S → T) (f : Lifts R) (h : Lifts S)
      → ((u : UnitOf) (w : SlotMap) (r : R) (s : S) → better u (g w r s) ≡ (good u r && fine u s)) → LiftFits good ds cs f → LiftFits fine es bs h
      → LiftFits better (ds ++ es) (cs ++ bs) (λ context w n. lift_two (g w) f h context w n)
  two good fine better ds es cs bs g f h same a b = record {
    tree = λ context w n u own given stand.
        let r = f context w n in
        let m : ℕ = n + length r.units in
        let q = h context w m in
        same u w r.tree q.tree
        ∙ both_hold _ _
        (a.tree context w n u (each_of_first (IsOwn u w) ds es own) (each_of_first IsGiven cs bs given) (stand_first n r.units q.units stand))
        (b.tree context w m u (each_of_second (IsOwn u w) ds es own) (each_of_second IsGiven cs bs given) (stand_from n m r.units q.units refl stand));
    units = λ context w n given stand.
        let r = f context w n in
        let m : ℕ = n + length r.units in
        let q = h context w m in
        each_of_both FitsWell r.units q.units
        (a.units context w n (each_of_first IsGiven cs bs given) (stand_first n r.units q.units stand))
        (b.units context w m (each_of_second IsGiven cs bs given) (stand_from n m r.units q.units refl stand));
  }

  -- three are one and then two
  pub three : {Q R S T : Type 0} (good : UnitOf → Q → Bool) (fine : UnitOf → R → Bool) (well : UnitOf → S → Bool) (better : UnitOf → T → Bool) (ds es ys : List ℕ) (cs bs os : Calls)
      (g : SlotMap → Q → R → S → T) (e : Lifts Q) (f : Lifts R) (h : Lifts S)
      → ((u : UnitOf) (w : SlotMap) (q : Q) (r : R) (s : S) → better u (g w q r s) ≡ (good u q && (fine u r && well u s)))
      → LiftFits good ds cs e → LiftFits fine es bs f → LiftFits well ys os h → LiftFits better (ds ++ (es ++ ys)) (cs ++ (bs ++ os)) (λ context w n. lift_three (g w) e f h context w n)
  three {R = R} {S = S} good fine well better ds es ys cs bs os g e f h same a b d =
      two good (λ u p. fine u p.0 && well u p.1) better ds (es ++ ys) cs (bs ++ os) (λ w q (p : R × S). g w q p.0 p.1) e (λ context w n. lift_two (λ r s. (r, s)) f h context w n)
      (λ u w q p. same u w q p.0 p.1) a
      (two fine well (λ u p. fine u p.0 && well u p.1) es ys bs os (λ w r s. (r, s)) f h (λ u w r s. refl) b d)

  -- a part with its calls: what it declares is among its declared uses, and what is lifted fits
  pub record PartFits {T : Type 0} (good : UnitOf → T → Bool) (cs : Calls) (p : Part T) : Type 0 where
    pub declared : (fs : List RFunction) → AreDeclared (p.uses fs) p.declares
    pub lifts : LiftFits good p.declares cs p.lift

  -- the parts of a list
  pub record PartsFit {T : Type 0} (good : UnitOf → List T → Bool) (cs : Calls) (ps : List (Part T)) : Type 0 where
    pub declared : (fs : List RFunction) → AreDeclared (all_uses fs ps) (all_declares ps)
    pub lifts : LiftFits good (all_declares ps) cs (lift_all ps)

  -- a block branch, its unit and its call

  own_in_branch : (context : LiftContext) (w : SlotMap) (n : ℕ) (ps : List (Part UStmt)) (body : List UStmt) → AreDeclared (all_uses context.functions ps) (all_declares ps)
      → Each (IsOwn (branch_unit context n (branch_captures context ps) (branch_slots context ps w) (branch_exceptions ps w) (branch_inner context ps w) (all_tries ps) body) (branch_inner context ps w)) (all_declares ps)
  own_in_branch context w n ps body h =
      let unit = branch_unit context n (branch_captures context ps) (branch_slots context ps w) (branch_exceptions ps w) (branch_inner context ps w) (all_tries ps) body in
      each_by_two (λ y. declares_variable (all_uses context.functions ps) y ≡ true) (λ y. is_among (all_declares ps) y ≡ true) (IsOwn unit (branch_inner context ps w))
      (λ y declared among. own_place unit (branch_slots context ps w) (all_declares ps) y
      (length-map (branch_slots context ps w) (branch_param context.function (branch_captures context ps)))
      (length-map (branch_slots context ps w ++ all_declares ps) (sort_of context.function))
      (declared_not_taken context.function.slots (all_uses context.functions ps) w.slots y declared) among)
      (all_declares ps) h (all_among (all_declares ps))

  -- as many arguments as parameters
  suits_unit : (c : UCall) (u : UnitOf) → unit_at form c.unit ≡ u → length c.args ≡ length u.params → has_arguments form c ≡ true
  suits_unit c u there same = eq-eqb (length c.args) (length (unit_at form c.unit).params) (same ∙ ap (λ (v : UnitOf). length v.params) (sym there))

  pub block_branch : (cs : Calls) (ps : List (Part UStmt)) → PartsFit (all_fit form) cs ps → LiftFits (λ u c. has_arguments form c) [] cs (lift_branch ps)
  block_branch cs ps one = record {
    tree = λ context w n u own given stand.
        suits_unit (branch_call w n (branch_captures context ps) (branch_slots context ps w) (branch_exceptions ps w)) _ stand.0
        (length-map (branch_slots context ps w) (branch_arg w.slots (branch_captures context ps)) ∙ sym (length-map (branch_slots context ps w) (branch_param context.function (branch_captures context ps))));
    units = λ context w n given stand.
        let inner : SlotMap = branch_inner context ps w in
        let body : List UStmt = (lift_all ps context inner (n + 1)).tree in
        let unit : UnitOf = branch_unit context n (branch_captures context ps) (branch_slots context ps w) (branch_exceptions ps w) inner (all_tries ps) body in
        (one.lifts.tree context inner (n + 1) unit (own_in_branch context w n ps body (one.declared context.functions)) given stand.1, one.lifts.units context inner (n + 1) given stand.1);
  }

  -- a call of a function

  args_kept : (slots : List ℕ) (ps : List UParam) (es : List UExpr) → length (args_of slots ps es) ≡ length es
  args_kept slots ps [] = refl
  args_kept slots ps (e ∷ es) = omega (arith, args_kept slots (behind_first ps) es)

  pub moved_suits : (fs : List RFunction) (c : RCall) (w : SlotMap) → IsGiven c → has_arguments form (moved_call fs c w) ≡ true
  moved_suits fs c w h = suits_unit (moved_call fs c w) (unit_at form c.function) refl (args_kept w.slots (params_at fs c.function) c.args ∙ h)
