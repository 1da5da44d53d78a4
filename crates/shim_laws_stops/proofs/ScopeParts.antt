-- What is lifted out of statements of each kind names what is in scope, by what is lifted out of their parts.
use Rattle.std.proofs.Common.{ℕ, ◌+◌, ◌<◌, ◌≡◌, ◌∙◌, ◌⊎◌, Bool, true, false, ◌&&◌, inl, inr, List, [], ◌∷◌, ◌++◌, Option, Some, None, length, nat_eq, eqb-true, slice_get, refl, sym, ap, subst, arith}
use Rattle.shim_base.specs.declared.types.Ty.{Ty}
use Rattle.shim_syntax.specs.declared.tree.Sort.{Sort}
use Rattle.shim_scopes.specs.declared.tree.RCall.{RCall}
use Rattle.shim_scopes.specs.declared.tree.RFunction.{RFunction}
use Rattle.shim_scopes.specs.declared.tree.UExpr.{UExpr}
use Rattle.shim_scopes.specs.declared.tree.RStmt.{RStmt, fold-roll-RStmt}
use Rattle.shim_scopes.specs.declared.tree.RWhat.{RWhat, RWhat-F, fold-roll-RWhat, map-RWhat, roll-RWhat}
use Rattle.shim_scopes.specs.declared.tree.RWhat.TheVariants as r
use Rattle.shim_scopes.specs.declared.tree.RBranch.{RBranch, fold-roll-RBranch}
use Rattle.shim_scopes.specs.declared.tree.RBranchWhat.{RBranchWhat, RBranchWhat-F, fold-roll-RBranchWhat, map-RBranchWhat, roll-RBranchWhat}
use Rattle.shim_scopes.specs.declared.tree.RBranchWhat.TheVariants as rb
use Rattle.shim_units.specs.declared.found.How.TheVariants.{Declared, Written, Named}
use Rattle.shim_units.specs.declared.found.Use.{Use}
use Rattle.shim_units.specs.declared.form.Form.{Form}
use Rattle.shim_units.specs.declared.unit.Unit.{Unit as UnitOf}
use Rattle.shim_units.specs.declared.unit.UBranch.{UBranch}
use Rattle.shim_units.specs.declared.unit.UCall.{UCall}
use Rattle.shim_units.specs.declared.unit.UStmt.{UStmt}
use Rattle.shim_units.specs.declared.unit.UWhat.{UWhat}
use Rattle.shim_units.specs.declared.unit.UWhat.TheVariants as u
use Rattle.shim_units.specs.declared.slot_map.SlotMap.{SlotMap}
use Rattle.shim_units.specs.Calls.{params_at}
use Rattle.shim_units.specs.Moving.{slot_index_of, slot_index_of_option, renumbered, moved_option, moved_call}
use Rattle.shim_units.specs.Parts.{LiftContext, Part, SharingPlace, Lifts, all_uses, all_places, all_declares, each_uses}
use Rattle.shim_units.specs.Uses.{used, names_in, names_in_option, variable_uses, call_uses}
use Rattle.shim_units.specs.Own.{some_slot}
use Rattle.shim_units.specs.Places.{call_place}
use Rattle.shim_units.specs.Rule.{Obey}
use Rattle.shim_units.specs.Lifting.{lift_all, unlifted, on_tree, lift_two, is_among, sort_of, sort_or_bool, branch_slots}
use Rattle.shim_units.specs.PartFold.{branch_what_step, what_step, branch_step, stmt_step, part, parts, branch_part, branch_parts}
use Rattle.shim_units.proofs.PartSteps.{branch_what_part, what_part}
use Rattle.shim_process.specs.LocalState.{unit_at}
use Rattle.shim_laws_sources.proofs.Placing.{declares_it}
use Rattle.shim_base.proofs.Facts.{both_hold, either_holds}
use Rattle.shim_laws_stops.specs.InScope.{is_number, is_input_at, is_output_at, has_number, has_input, has_output, reads_right, option_right, call_right, all_calls_right, branches_apart, Scoped, declares_none, scoped, all_scoped}
use Rattle.shim_laws_stops.proofs.Among.{Among, none_among, first_of, among_cases, among_first, among_second, among_either, was_among}
use Rattle.shim_laws_stops.proofs.ScopeLists.{Names, Declares, names_first, names_second, at_place_of}
use Rattle.shim_laws_stops.proofs.ScopeSteps.{what_in, declared_in, all_in, in_line, in_declare, in_assign, in_next, in_next_assign, in_assign_next, in_get, in_put, in_if, in_while, in_for, in_block, in_call, in_try, in_throw, in_par}
use Rattle.shim_laws_stops.proofs.ScopeExprs.{only_both, only_named, only_written, only_none}
use Rattle.shim_laws_stops.proofs.ScopeLifting.{Facts, Stands, no_facts, both_facts, stands_second, OnlyNames, ReadsNumbers, named_facts, stands_some, Lies, LiftsScoped, on_it, after_reads, two, IsAround, number_there, block_branch, referred}
use Rattle.shim_laws_stops.proofs.ScopeReads.{AreRight, reads_moved, option_moved}
use Rattle.shim_laws_stops.proofs.ScopeCalls.{CallSuits, moved_right, RefersTo, Refer, call_refers, all_apart}

input_there : (o : Option Sort) → is_input_at o ≡ true → is_input_at (Some (sort_or_bool o)) ≡ true
input_there None h = absurd (cc h)
input_there (Some s) h = h

output_there : (o : Option Sort) → is_output_at o ≡ true → is_output_at (Some (sort_or_bool o)) ≡ true
output_there None h = absurd (cc h)
output_there (Some s) h = h

-- the rest of a text of names alone
pub only_facts : (around : List ℕ) (lo : ℕ) (all : List Sort) (us : List Use) → OnlyNames around us → Facts around lo lo all us []
only_facts around lo all us n = record {
  grows = omega arith;
  used = λ y h. inl (n.among y h);
  fresh = λ y h. absurd (n.none y h);
  numbers = λ y h. none_among y h;
  below = λ y h. none_among y h;
  said = λ y h. none_among y h;
  once = refl;
}

module _ (form : Form) (fs : List RFunction) where
  pub record InScope {T : Type 0} (check : UnitOf → T → Scoped) (around : List ℕ) (lo hi : ℕ) (all : List Sort) (top : List ℕ) (us : List Use) (ds : List ℕ) (ps : List SharingPlace) (f : Lifts T) : Type 0 where
    pub facts : Facts around lo hi all us ds
    pub tops : (y : ℕ) → Among top y → Among ds y
    pub lifts : LiftsScoped form fs check around all top us ds ps f

  abbrev pub PartIn : {T : Type 0} → (UnitOf → T → Scoped) → List ℕ → ℕ → ℕ → List Sort → List ℕ → Part T → Type 0
  PartIn check around lo hi all top a = InScope check around lo hi all top (a.uses fs) a.declares (a.places fs) a.lift

  abbrev pub BodyIn : List ℕ → ℕ → ℕ → List Sort → List ℕ → List RStmt → Type 0
  BodyIn around lo hi all top body = InScope (all_in form) around lo hi all top (all_uses fs (parts body)) (all_declares (parts body)) (all_places fs (parts body)) (lift_all (parts body))

  abbrev pub WhatIn : List ℕ → ℕ → ℕ → List Sort → List ℕ → RWhat → Type 0
  WhatIn around lo hi all top t = (line : ℕ) → PartIn (what_in form) around lo hi all top (what_part t line)

  abbrev pub StmtIn : List ℕ → ℕ → ℕ → List Sort → List ℕ → RStmt → Type 0
  StmtIn around lo hi all top s = PartIn (scoped form) around lo hi all top (part s)

  -- calls and branches

  abbrev call_in : UnitOf → UCall → Scoped
  call_in u c = declares_none (λ xs. call_right form u xs c)

  abbrev branch_in : UnitOf → UBranch → Scoped
  branch_in u b = declares_none (λ xs. call_right form u xs b.call)

  abbrev calls_in : UnitOf → List UBranch → Scoped
  calls_in u bs = declares_none (λ xs. all_calls_right form u xs bs)

  -- what a branch is, and what it takes by reference
  pub record OneBranch {T : Type 0} (check : UnitOf → T → Scoped) (its : T → UCall) (around : List ℕ) (lo hi : ℕ) (all : List Sort) (us : List Use) (ps : List SharingPlace) (f : Lifts T) : Type 0 where
    pub inside : InScope check around lo hi all [] us [] ps f
    pub refers : (context : LiftContext) (w : SlotMap) (n : ℕ) → context.function.slots ≡ all → context.functions ≡ fs → ((y : ℕ) → Among around y → Names us y → Among w.slots y) → RefersTo all w us (its (f context w n).tree)

  abbrev pub BranchWhatIn : List ℕ → ℕ → ℕ → List Sort → RBranchWhat → Type 0
  BranchWhatIn around lo hi all t = (line : ℕ) → OneBranch call_in (λ c. c) around lo hi all ((branch_what_part t line).uses fs) ((branch_what_part t line).places fs) (branch_what_part t line).lift

  abbrev pub BranchIn : List ℕ → ℕ → ℕ → List Sort → RBranch → Type 0
  BranchIn around lo hi all b = OneBranch branch_in (λ (c : UBranch). c.call) around lo hi all ((branch_part b).uses fs) ((branch_part b).places fs) (branch_part b).lift

  pub record ForkIn (around : List ℕ) (lo hi : ℕ) (all : List Sort) (bs : List RBranch) : Type 0 where
    pub inside : InScope calls_in around lo hi all [] (all_uses fs (branch_parts bs)) [] (all_places fs (branch_parts bs)) (lift_all (branch_parts bs))
    pub refers : (context : LiftContext) (w : SlotMap) (n : ℕ) → context.function.slots ≡ all → context.functions ≡ fs → ((y : ℕ) → Among around y → Names (all_uses fs (branch_parts bs)) y → Among w.slots y)
        → Refer all w (lift_all (branch_parts bs) context w n).tree (each_uses fs (branch_parts bs))

  -- statements

  at_part : (around : List ℕ) (lo hi : ℕ) (all : List Sort) (top : List ℕ) (line : ℕ) (y : RWhat-F RBranchWhat RWhat RBranch RStmt)
      → PartIn (what_in form) around lo hi all top (what_step (map-RWhat RBranchWhat RWhat RBranch RStmt (ℕ → Part UCall) (ℕ → Part UWhat) (Part UBranch) (Part UStmt) branch_what_part what_part branch_part part y) line)
      → PartIn (what_in form) around lo hi all top (what_part (roll-RWhat y) line)
  at_part around lo hi all top line y h =
      subst (λ (a : ℕ → Part UWhat). PartIn (what_in form) around lo hi all top (a line)) (sym (fold-roll-RWhat (ℕ → Part UCall) (ℕ → Part UWhat) (Part UBranch) (Part UStmt) branch_what_step what_step branch_step stmt_step y)) h

  right_of : (c d : Scoped) (xs : List ℕ) → c ≡ d → c.right xs ≡ d.right xs
  right_of c d xs e = ap (λ (z : Scoped). z.right xs) e

  -- a statement that declares nothing and has no parts
  plain : (around : List ℕ) (lo : ℕ) (all : List Sort) (us : List Use) (ps : List SharingPlace) (f : LiftContext → SlotMap → UWhat) → OnlyNames around us
      → ((context : LiftContext) (w : SlotMap) (v : UnitOf) (xs : List ℕ) → Lies form fs all context w v → Stands around us [] w xs → Obey all ps → (what_in form v (f context w)).right xs ≡ true)
      → InScope (what_in form) around lo lo all [] us [] ps (λ context w n. unlifted (f context w))
  plain around lo all us ps f n h = record {
    facts = only_facts around lo all us n;
    tops = λ y a. a;
    lifts = record {
      tree = λ context w i v xs lies s o stand. h context w v xs lies s o;
      declared = λ context w i v y a. none_among y a;
      units = λ context w i v xs lies s o stand. tt;
    };
  }

  module _ (around : List ℕ) (all : List Sort) (us : List Use) (context : LiftContext) (w : SlotMap) (v : UnitOf) (xs : List ℕ) (lies : Lies form fs all context w v) (s : Stands around us [] w xs) (x : ℕ) (a : Among around x) (n : Names us x) where
    sort_here : slice_get v.slots (slot_index_of w.slots x) ≡ Some (sort_or_bool (slice_get all x))
    sort_here =
        ap (λ l. slice_get l (slot_index_of w.slots x)) lies.unit ∙ at_place_of (sort_of context.function) w.slots x (s.there x a n) ∙ ap (λ (l : List Sort). Some (sort_or_bool (slice_get l x))) lies.slots

    number_here : is_number (slice_get all x) ≡ true → has_number v xs (slot_index_of w.slots x) ≡ true
    number_here h =
        both_hold (is_among xs (slot_index_of w.slots x)) (is_number (slice_get v.slots (slot_index_of w.slots x))) (s.known x a n) (ap is_number sort_here ∙ number_there (slice_get all x) h)

    input_here : is_input_at (slice_get all x) ≡ true → has_input v xs (slot_index_of w.slots x) ≡ true
    input_here h =
        both_hold (is_among xs (slot_index_of w.slots x)) (is_input_at (slice_get v.slots (slot_index_of w.slots x))) (s.known x a n) (ap is_input_at sort_here ∙ input_there (slice_get all x) h)

    output_here : is_output_at (slice_get all x) ≡ true → has_output v xs (slot_index_of w.slots x) ≡ true
    output_here h =
        both_hold (is_among xs (slot_index_of w.slots x)) (is_output_at (slice_get v.slots (slot_index_of w.slots x))) (s.known x a n) (ap is_output_at sort_here ∙ output_there (slice_get all x) h)

  -- what is read among these uses is right
  read_here : (around : List ℕ) (all : List Sort) (ns us : List Use) (ds : List ℕ) → ReadsNumbers around all ns → ((y : ℕ) → Names ns y → Names us y) → (context : LiftContext) (w : SlotMap) (v : UnitOf) (xs : List ℕ) → Lies form fs all context w v → Stands around us ds w xs
      → AreRight w.slots v xs ns
  read_here around all ns us ds r f context w v xs lies s y n = number_here around all ns context w v xs lies (stands_some around ns us ds w xs f s) y (r.names.among y n) n (r.numbers y n)

  first_named : (x : ℕ) (us : List Use) → Names (used Named x ∷ us) x
  first_named x us = names_first (used Named x ∷ []) us x (first_of x [])

  first_written : (x : ℕ) (us : List Use) → Names (used Written x ∷ us) x
  first_written x us = names_first (used Written x ∷ []) us x (first_of x [])

  declare_facts : (around : List ℕ) (lo hi : ℕ) (all : List Sort) (us : List Use) → lo < hi → is_number (slice_get all lo) ≡ true → OnlyNames around us → Facts around lo hi all (used Declared lo ∷ us) (lo ∷ [])
  declare_facts around lo hi all us less number n = record {
    grows = omega (arith, less);
    used = λ y h. elim (either_holds (nat_eq lo y) _ h) [
      | inl e ↦ inr (subst (Declares (used Declared lo ∷ us)) (eqb-true lo y e) (declares_it lo us))
      | inr k ↦ inl (n.among y k)
    ];
    fresh = λ y h. elim (either_holds (nat_eq lo y && true) _ h) [
      | inl e ↦ omega (arith, eqb-true lo y (and_true (nat_eq lo y) e))
      | inr k ↦ absurd (n.none y k)
    ];
    numbers = λ y h. subst (λ z. is_number (slice_get all z) ≡ true) (one y h) number;
    below = λ y h. subst (λ z. z < hi) (one y h) less;
    said = λ y h. subst (Declares (used Declared lo ∷ us)) (one y h) (declares_it lo us);
    once = refl;
  }
    where
      and_true : (b : Bool) → (b && true) ≡ true → b ≡ true
      and_true true h = refl
      and_true false h = absurd (cc h)

      one : (y : ℕ) → Among (lo ∷ []) y → lo ≡ y
      one y h = elim (among_cases lo [] y h) [ inl e ↦ e | inr k ↦ none_among y k ]

  pub part_declare : (around : List ℕ) (lo hi : ℕ) (all : List Sort) (ty : Ty) (e : Option UExpr) → lo < hi → is_number (slice_get all lo) ≡ true → ReadsNumbers around all (names_in_option e) → WhatIn around lo hi all (lo ∷ []) (r.Declare ty lo e)
  unfolding roll-RWhat denote.Hole.Carrier.roll
  part_declare around lo hi all ty e less number n line = at_part around lo hi all (lo ∷ []) line (RWhat-F.Declare ty lo e) (record {
    facts = declare_facts around lo hi all (names_in_option e) less number n.names;
    tops = λ y a. a;
    lifts = record {
      tree = λ context w i v xs lies s o stand.
          right_of _ _ xs (in_declare form v ty (slot_index_of w.slots lo) (moved_option w.slots e))
          ∙ option_moved w.slots v xs e (read_here around all (names_in_option e) (used Declared lo ∷ names_in_option e) (lo ∷ []) n (λ y k. names_second (used Declared lo ∷ []) (names_in_option e) y k) context w v xs lies s);
      declared = λ context w i v y a.
          subst (λ (c : Scoped). Among c.declares (slot_index_of w.slots y)) (sym (in_declare form v ty (slot_index_of w.slots lo) (moved_option w.slots e)))
          (subst (λ z. Among (slot_index_of w.slots lo ∷ []) (slot_index_of w.slots z)) (only_one lo y a) (first_of (slot_index_of w.slots lo) []));
      units = λ context w i v xs lies s o stand. tt;
    };
  })
    where
      only_one : (lo y : ℕ) → Among (lo ∷ []) y → lo ≡ y
      only_one lo y h = elim (among_cases lo [] y h) [ inl e ↦ e | inr k ↦ none_among y k ]

  pub part_assign : (around : List ℕ) (lo : ℕ) (all : List Sort) (x : ℕ) (e : UExpr) → Among around x → is_number (slice_get all x) ≡ true → ReadsNumbers around all (names_in e) → WhatIn around lo lo all [] (r.Assign x e)
  unfolding roll-RWhat denote.Hole.Carrier.roll
  part_assign around lo all x e a number n line =
      let us : List Use = used Written x ∷ names_in e in
      at_part around lo lo all [] line (RWhat-F.Assign x e) (plain around lo all us [] (λ context w. u.Assign (slot_index_of w.slots x) (renumbered w.slots e)) (only_both around (used Written x ∷ []) (names_in e) (only_written around x a) n.names)
      (λ context w v xs lies s o. right_of _ _ xs (in_assign form v (slot_index_of w.slots x) (renumbered w.slots e))
      ∙ both_hold (has_number v xs (slot_index_of w.slots x)) (reads_right v xs (renumbered w.slots e)) (number_here around all us context w v xs lies s x a (first_written x (names_in e)) number)
      (reads_moved w.slots v xs e (read_here around all (names_in e) us [] n (λ y k. names_second (used Written x ∷ []) (names_in e) y k) context w v xs lies s))))

  pub part_next : (around : List ℕ) (lo : ℕ) (all : List Sort) (x : ℕ) → Among around x → is_number (slice_get all x) ≡ true → WhatIn around lo lo all [] (r.Next x)
  unfolding roll-RWhat denote.Hole.Carrier.roll
  part_next around lo all x a number line =
      let us : List Use = used Named x ∷ [] in
      at_part around lo lo all [] line (RWhat-F.Next x) (plain around lo all us [] (λ context w. u.Next (slot_index_of w.slots x)) (only_named around x a)
      (λ context w v xs lies s o. right_of _ _ xs (in_next form v (slot_index_of w.slots x)) ∙ number_here around all us context w v xs lies s x a (first_named x []) number))

  pub part_next_assign : (around : List ℕ) (lo : ℕ) (all : List Sort) (x : ℕ) (e : UExpr) → Among around x → is_number (slice_get all x) ≡ true → ReadsNumbers around all (names_in e) → WhatIn around lo lo all [] (r.NextAssign x e)
  unfolding roll-RWhat denote.Hole.Carrier.roll
  part_next_assign around lo all x e a number n line =
      let us : List Use = used Written x ∷ names_in e in
      at_part around lo lo all [] line (RWhat-F.NextAssign x e) (plain around lo all us [] (λ context w. u.NextAssign (slot_index_of w.slots x) (renumbered w.slots e)) (only_both around (used Written x ∷ []) (names_in e) (only_written around x a) n.names)
      (λ context w v xs lies s o. right_of _ _ xs (in_next_assign form v (slot_index_of w.slots x) (renumbered w.slots e))
      ∙ both_hold (has_number v xs (slot_index_of w.slots x)) (reads_right v xs (renumbered w.slots e)) (number_here around all us context w v xs lies s x a (first_written x (names_in e)) number)
      (reads_moved w.slots v xs e (read_here around all (names_in e) us [] n (λ y k. names_second (used Written x ∷ []) (names_in e) y k) context w v xs lies s))))

  pub part_assign_next : (around : List ℕ) (lo : ℕ) (all : List Sort) (x y : ℕ) → Among around x → is_number (slice_get all x) ≡ true → Among around y → is_number (slice_get all y) ≡ true → WhatIn around lo lo all [] (r.AssignNext x y)
  unfolding roll-RWhat denote.Hole.Carrier.roll
  part_assign_next around lo all x y a number b other line =
      let us : List Use = used Written x ∷ (used Named y ∷ []) in
      at_part around lo lo all [] line (RWhat-F.AssignNext x y) (plain around lo all us [] (λ context w. u.AssignNext (slot_index_of w.slots x) (slot_index_of w.slots y))
      (only_both around (used Written x ∷ []) (used Named y ∷ []) (only_written around x a) (only_named around y b))
      (λ context w v xs lies s o. right_of _ _ xs (in_assign_next form v (slot_index_of w.slots x) (slot_index_of w.slots y))
      ∙ both_hold (has_number v xs (slot_index_of w.slots x)) (has_number v xs (slot_index_of w.slots y)) (number_here around all us context w v xs lies s x a (first_written x (used Named y ∷ [])) number)
      (number_here around all us context w v xs lies s y b (names_second (used Written x ∷ []) (used Named y ∷ []) y (first_named y [])) other)))

  pub part_get : (around : List ℕ) (lo : ℕ) (all : List Sort) (x y : ℕ) → Among around x → is_number (slice_get all x) ≡ true → Among around y → is_input_at (slice_get all y) ≡ true → WhatIn around lo lo all [] (r.Get x y)
  unfolding roll-RWhat denote.Hole.Carrier.roll
  part_get around lo all x y a number b input line =
      let us : List Use = used Written x ∷ (used Named y ∷ []) in
      at_part around lo lo all [] line (RWhat-F.Get x y) (plain around lo all us [] (λ context w. u.Get (slot_index_of w.slots x) (slot_index_of w.slots y))
      (only_both around (used Written x ∷ []) (used Named y ∷ []) (only_written around x a) (only_named around y b))
      (λ context w v xs lies s o. right_of _ _ xs (in_get form v (slot_index_of w.slots x) (slot_index_of w.slots y))
      ∙ both_hold (has_number v xs (slot_index_of w.slots x)) (has_input v xs (slot_index_of w.slots y)) (number_here around all us context w v xs lies s x a (first_written x (used Named y ∷ [])) number)
      (input_here around all us context w v xs lies s y b (names_second (used Written x ∷ []) (used Named y ∷ []) y (first_named y [])) input)))

  pub part_put : (around : List ℕ) (lo : ℕ) (all : List Sort) (x : ℕ) (e : UExpr) → Among around x → is_output_at (slice_get all x) ≡ true → ReadsNumbers around all (names_in e) → WhatIn around lo lo all [] (r.Put x e)
  unfolding roll-RWhat denote.Hole.Carrier.roll
  part_put around lo all x e a output n line =
      let us : List Use = used Named x ∷ names_in e in
      at_part around lo lo all [] line (RWhat-F.Put x e) (plain around lo all us [] (λ context w. u.Put (slot_index_of w.slots x) (renumbered w.slots e)) (only_both around (used Named x ∷ []) (names_in e) (only_named around x a) n.names)
      (λ context w v xs lies s o. right_of _ _ xs (in_put form v (slot_index_of w.slots x) (renumbered w.slots e))
      ∙ both_hold (has_output v xs (slot_index_of w.slots x)) (reads_right v xs (renumbered w.slots e)) (output_here around all us context w v xs lies s x a (first_named x (names_in e)) output)
      (reads_moved w.slots v xs e (read_here around all (names_in e) us [] n (λ y k. names_second (used Named x ∷ []) (names_in e) y k) context w v xs lies s))))

  pub part_throw : (around : List ℕ) (lo : ℕ) (all : List Sort) (x : ℕ) (e : Option UExpr) → ReadsNumbers around all (names_in_option e) → WhatIn around lo lo all [] (r.Throw x e)
  unfolding roll-RWhat denote.Hole.Carrier.roll
  part_throw around lo all x e n line =
      let us : List Use = names_in_option e in
      at_part around lo lo all [] line (RWhat-F.Throw x e) (plain around lo all us [] (λ context w. u.Throw (slot_index_of w.exceptions x) (moved_option w.slots e)) n.names
      (λ context w v xs lies s o. right_of _ _ xs (in_throw form v (slot_index_of w.exceptions x) (moved_option w.slots e))
      ∙ option_moved w.slots v xs e (read_here around all us us [] n (λ y k. k) context w v xs lies s)))

  -- a call of a function, by what it gives

  call_is_right : (around : List ℕ) (all : List Sort) (c : RCall) (line : ℕ) → CallSuits fs around all c → (unit_at form c.function).params ≡ params_at fs c.function
      → (context : LiftContext) (w : SlotMap) (v : UnitOf) (xs : List ℕ) → Lies form fs all context w v → Stands around (call_uses fs c) [] w xs → Obey all (call_place fs c line ∷ []) → call_right form v xs (moved_call context.functions c w) ≡ true
  call_is_right around all c line suits params context w v xs lies s o =
      ap (λ (gs : List RFunction). call_right form v xs (moved_call gs c w)) lies.functions
      ∙ moved_right form fs around all c suits params context.function w v xs lies.slots lies.unit (λ y n. s.there y (suits.names.among y n) n) (λ y n. s.known y (suits.names.among y n) n) o.0

  pub part_call : (around : List ℕ) (lo : ℕ) (all : List Sort) (c : RCall) → CallSuits fs around all c → (unit_at form c.function).params ≡ params_at fs c.function → WhatIn around lo lo all [] (r.Call c)
  unfolding roll-RWhat denote.Hole.Carrier.roll
  part_call around lo all c suits params line =
      at_part around lo lo all [] line (RWhat-F.RWhat::Call c) (plain around lo all (call_uses fs c) (call_place fs c line ∷ []) (λ context w. u.Call (moved_call context.functions c w)) suits.names
      (λ context w v xs lies s o. right_of _ _ xs (in_call form v (moved_call context.functions c w)) ∙ call_is_right around all c line suits params context w v xs lies s o))

  -- lists of statements

  module _ (around : List ℕ) (lo mi hi : ℕ) (all : List Sort) where
    from_top : (top ds : List ℕ) → ((y : ℕ) → Among top y → Among ds y) → (y : ℕ) → Among (around ++ top) y → Among around y ⊎ Among ds y
    from_top top ds h y a = elim (among_either around top y a) [ inl b ↦ inl b | inr b ↦ inr (h y b) ]

    -- two, of which the second one has what the first declares in scope
    pub sequence : {R S T : Type 0} (check : UnitOf → R → Scoped) (fine : UnitOf → S → Scoped) (better : UnitOf → T → Scoped) (top more all_top : List ℕ) (us vs : List Use) (ds es : List ℕ) (ps qs : List SharingPlace) (g : SlotMap → R → S → T) (f : Lifts R) (h : Lifts S)
        → ((v : UnitOf) (w : SlotMap) (x : R) (y : S) (xs : List ℕ) → (better v (g w x y)).right xs ≡ ((check v x).right xs && (fine v y).right ((check v x).declares ++ xs)))
        → ((v : UnitOf) (w : SlotMap) (x : R) (y : S) (z : ℕ) → ((i : ℕ) → Among top i → Among (check v x).declares (slot_index_of w.slots i)) → ((i : ℕ) → Among more i → Among (fine v y).declares (slot_index_of w.slots i))
        → Among all_top z → Among (better v (g w x y)).declares (slot_index_of w.slots z))
        → ((y : ℕ) → Among all_top y → Among (ds ++ es) y)
        → InScope check around lo mi all top us ds ps f → InScope fine (around ++ top) mi hi all more vs es qs h → InScope better around lo hi all all_top (us ++ vs) (ds ++ es) (ps ++ qs) (λ context w n. lift_two (g w) f h context w n)
    sequence check fine better top more all_top us vs ds es ps qs g f h same tops there a b = record {
      facts = both_facts around (around ++ top) lo mi hi all us vs ds es (from_top top ds a.tops) a.facts b.facts;
      tops = there;
      lifts = two form fs check fine better around (around ++ top) all top more all_top us vs ds es ps qs g f h (λ v x xs. (check v x).declares ++ xs) (from_top top ds a.tops)
          (λ v w x xs declared known y i n. elim (among_either around top y i) [
            | inl j ↦ among_second (check v x).declares xs (slot_index_of w.slots y) (known y j (names_second us vs y n))
            | inr j ↦ among_first (check v x).declares xs (slot_index_of w.slots y) (declared y j)
          ])
          same tops a.lifts b.lifts;
    }

    -- two blocks
    pub blocks : {R S T : Type 0} (check : UnitOf → R → Scoped) (fine : UnitOf → S → Scoped) (better : UnitOf → T → Scoped) (top more : List ℕ) (us vs : List Use) (ds es : List ℕ) (ps qs : List SharingPlace) (g : SlotMap → R → S → T) (f : Lifts R) (h : Lifts S)
        → ((v : UnitOf) (w : SlotMap) (x : R) (y : S) (xs : List ℕ) → (better v (g w x y)).right xs ≡ ((check v x).right xs && (fine v y).right xs))
        → InScope check around lo mi all top us ds ps f → InScope fine around mi hi all more vs es qs h → InScope better around lo hi all [] (us ++ vs) (ds ++ es) (ps ++ qs) (λ context w n. lift_two (g w) f h context w n)
    blocks check fine better top more us vs ds es ps qs g f h same a b = record {
      facts = both_facts around around lo mi hi all us vs ds es (λ y i. inl i) a.facts b.facts;
      tops = λ y i. none_among y i;
      lifts = two form fs check fine better around around all top more [] us vs ds es ps qs g f h (λ v x xs. xs) (λ y i. inl i) (λ v w x xs declared known y i n. known y i (names_second us vs y n)) same (λ v w x y z declared more i. none_among z i) a.lifts b.lifts;
    }

  -- something around one, which declares nothing
  pub enclosed : {S T : Type 0} (check : UnitOf → S → Scoped) (better : UnitOf → T → Scoped) (around : List ℕ) (lo hi : ℕ) (all : List Sort) (top : List ℕ) (us : List Use) (ds : List ℕ) (ps : List SharingPlace) (g : SlotMap → S → T) (f : Lifts S)
      → ((v : UnitOf) (w : SlotMap) (s : S) (xs : List ℕ) → (better v (g w s)).right xs ≡ (check v s).right xs)
      → InScope check around lo hi all top us ds ps f → InScope better around lo hi all [] us ds ps (λ context w n. on_tree (g w) (f context w n))
  enclosed check better around lo hi all top us ds ps g f same h = record {
    facts = h.facts;
    tops = λ y i. none_among y i;
    lifts = on_it form fs check better around all top [] us ds ps g f same (λ v w s y declared i. none_among y i) h.lifts;
  }

  -- something around one, which reads first, and declares nothing
  pub behind_reads : {S T : Type 0} (check : UnitOf → S → Scoped) (better : UnitOf → T → Scoped) (around : List ℕ) (lo hi : ℕ) (all : List Sort) (top : List ℕ) (ns us : List Use) (ds : List ℕ) (ps : List SharingPlace) (g : SlotMap → S → T) (f : Lifts S) (reads : SlotMap → UnitOf → List ℕ → Bool)
      → ((v : UnitOf) (w : SlotMap) (s : S) (xs : List ℕ) → (better v (g w s)).right xs ≡ (reads w v xs && (check v s).right xs))
      → ReadsNumbers around all ns → ((w : SlotMap) (v : UnitOf) (xs : List ℕ) → AreRight w.slots v xs ns → reads w v xs ≡ true)
      → InScope check around lo hi all top us ds ps f → InScope better around lo hi all [] (ns ++ us) ds ps (λ context w n. on_tree (g w) (f context w n))
  behind_reads check better around lo hi all top ns us ds ps g f reads same n first h = record {
    facts = named_facts around lo hi all ns us ds n.names h.facts;
    tops = λ y i. none_among y i;
    lifts = after_reads form fs check better around all top ns us ds ps g f reads same (λ context w v xs lies s. first w v xs (read_here around all ns ns [] n (λ y k. k) context w v xs lies s)) h.lifts;
  }

  pub no_stmts : (around : List ℕ) (lo : ℕ) (all : List Sort) → BodyIn around lo lo all [] []
  no_stmts around lo all = record {
    facts = no_facts around lo all;
    tops = λ y i. i;
    lifts = record { tree = λ context w n v xs lies s o stand. refl; declared = λ context w n v y i. none_among y i; units = λ context w n v xs lies s o stand. tt };
  }

  pub more_stmts : (around : List ℕ) (lo mi hi : ℕ) (all : List Sort) (top more : List ℕ) (s : RStmt) (body : List RStmt) → StmtIn around lo mi all top s → BodyIn (around ++ top) mi hi all more body → BodyIn around lo hi all (top ++ more) (s ∷ body)
  more_stmts around lo mi hi all top more s body h k =
      sequence around lo mi hi all (scoped form) (all_in form) (all_in form) top more (top ++ more) ((part s).uses fs) (all_uses fs (parts body)) (part s).declares (all_declares (parts body)) ((part s).places fs) (all_places fs (parts body))
      (λ w t ts. t ∷ ts) (part s).lift (lift_all (parts body)) (λ v w x y xs. refl)
      (λ v w x y z declared others i. elim (among_either top more z i) [
        | inl j ↦ among_first (scoped form v x).declares (declared_in form v y) (slot_index_of w.slots z) (declared z j)
        | inr j ↦ among_second (scoped form v x).declares (declared_in form v y) (slot_index_of w.slots z) (others z j)
      ])
      (λ y i. elim (among_either top more y i) [
        | inl j ↦ among_first (part s).declares (all_declares (parts body)) y (h.tops y j)
        | inr j ↦ among_second (part s).declares (all_declares (parts body)) y (k.tops y j)
      ])
      h k

  abbrev pair_in : UnitOf → List UStmt × List UStmt → Scoped
  pair_in v x = declares_none (λ xs. all_scoped form v x.0 xs && all_scoped form v x.1 xs)

  pub part_if : (around : List ℕ) (lo mi hi : ℕ) (all : List Sort) (top more : List ℕ) (e : UExpr) (a b : List RStmt) → ReadsNumbers around all (names_in e) → BodyIn around lo mi all top a → BodyIn around mi hi all more b → WhatIn around lo hi all [] (r.If e a b)
  unfolding roll-RWhat denote.Hole.Carrier.roll
  part_if around lo mi hi all top more e a b n h k line =
      let us : List Use = all_uses fs (parts a) in
      let vs : List Use = all_uses fs (parts b) in
      let f : Lifts (List UStmt × List UStmt) = λ context w i. lift_two (λ x y. (x, y)) (lift_all (parts a)) (lift_all (parts b)) context w i in
      at_part around lo hi all [] line (RWhat-F.If e a b)
      (behind_reads pair_in (what_in form) around lo hi all [] (names_in e) (us ++ vs) (all_declares (parts a) ++ all_declares (parts b)) (all_places fs (parts a) ++ all_places fs (parts b))
      (λ w x. u.If (renumbered w.slots e) x.0 x.1) f (λ w v xs. reads_right v xs (renumbered w.slots e)) (λ v w x xs. right_of _ _ xs (in_if form v (renumbered w.slots e) x.0 x.1)) n (λ w v xs h. reads_moved w.slots v xs e h)
      (blocks around lo mi hi all (all_in form) (all_in form) pair_in top more us vs (all_declares (parts a)) (all_declares (parts b)) (all_places fs (parts a)) (all_places fs (parts b)) (λ w x y. (x, y)) (lift_all (parts a)) (lift_all (parts b)) (λ v w x y xs. refl) h k))

  pub part_while : (around : List ℕ) (lo hi : ℕ) (all : List Sort) (top : List ℕ) (e : UExpr) (body : List RStmt) → ReadsNumbers around all (names_in e) → BodyIn around lo hi all top body → WhatIn around lo hi all [] (r.While e body)
  unfolding roll-RWhat denote.Hole.Carrier.roll
  part_while around lo hi all top e body n h line =
      at_part around lo hi all [] line (RWhat-F.While e body)
      (behind_reads (all_in form) (what_in form) around lo hi all top (names_in e) (all_uses fs (parts body)) (all_declares (parts body)) (all_places fs (parts body)) (λ w s. u.While (renumbered w.slots e) s) (lift_all (parts body))
      (λ w v xs. reads_right v xs (renumbered w.slots e)) (λ v w s xs. right_of _ _ xs (in_while form v (renumbered w.slots e) s)) n (λ w v xs h. reads_moved w.slots v xs e h) h)

  -- the test of a loop, and its step and its body
  abbrev loop_in : UnitOf → Option UExpr × List UStmt × List UStmt → Scoped
  loop_in v x = declares_none (λ xs. option_right v xs x.0 && (all_scoped form v x.1 xs && all_scoped form v x.2 xs))

  -- the step declares nothing
  pub part_for : (around : List ℕ) (lo mi ni hi : ℕ) (all : List Sort) (top more : List ℕ) (a : List RStmt) (test : Option UExpr) (b c : List RStmt) → BodyIn around lo mi all top a → ReadsNumbers (around ++ top) all (names_in_option test)
      → BodyIn (around ++ top) mi ni all [] b → BodyIn (around ++ top) ni hi all more c → WhatIn around lo hi all [] (r.For a test b c)
  unfolding roll-RWhat denote.Hole.Carrier.roll
  part_for around lo mi ni hi all top more a test b c h n k l line =
      let us : List Use = all_uses fs (parts a) in
      let vs : List Use = all_uses fs (parts b) in
      let os : List Use = all_uses fs (parts c) in
      let g : SlotMap → List UStmt → Option UExpr × List UStmt × List UStmt → UWhat = λ w x y. u.For x y.0 y.1 y.2 in
      let m : SlotMap → List UStmt × List UStmt → Option UExpr × List UStmt × List UStmt = λ w x. (moved_option w.slots test, x.0, x.1) in
      let f : Lifts (List UStmt × List UStmt) = λ context w i. lift_two (λ x y. (x, y)) (lift_all (parts b)) (lift_all (parts c)) context w i in
      let o : Lifts (Option UExpr × List UStmt × List UStmt) = λ context w i. on_tree (m w) (f context w i) in
      at_part around lo hi all [] line (RWhat-F.For a test b c)
      (sequence around lo mi hi all (all_in form) loop_in (what_in form) top [] [] us (names_in_option test ++ (vs ++ os)) (all_declares (parts a)) (all_declares (parts b) ++ all_declares (parts c)) (all_places fs (parts a)) (all_places fs (parts b) ++ all_places fs (parts c))
      g (lift_all (parts a)) o
      (λ v w x y xs. right_of _ _ xs (in_for form v x y.0 y.1 y.2)) (λ v w x y z declared others i. none_among z i) (λ y i. none_among y i) h
      (behind_reads pair_in loop_in (around ++ top) mi hi all [] (names_in_option test) (vs ++ os) (all_declares (parts b) ++ all_declares (parts c)) (all_places fs (parts b) ++ all_places fs (parts c)) m f
      (λ w v xs. option_right v xs (moved_option w.slots test)) (λ v w x xs. refl) n (λ w v xs h. option_moved w.slots v xs test h)
      (blocks (around ++ top) mi ni hi all (all_in form) (all_in form) pair_in [] more vs os (all_declares (parts b)) (all_declares (parts c)) (all_places fs (parts b)) (all_places fs (parts c)) (λ w x y. (x, y)) (lift_all (parts b)) (lift_all (parts c)) (λ v w x y xs. refl) k l)))

  pub part_block : (around : List ℕ) (lo hi : ℕ) (all : List Sort) (top : List ℕ) (body : List RStmt) → BodyIn around lo hi all top body → WhatIn around lo hi all [] (r.Block body)
  unfolding roll-RWhat denote.Hole.Carrier.roll
  part_block around lo hi all top body h line =
      at_part around lo hi all [] line (RWhat-F.RWhat::Block body)
      (enclosed (all_in form) (what_in form) around lo hi all top (all_uses fs (parts body)) (all_declares (parts body)) (all_places fs (parts body)) (λ w s. u.Block s) (lift_all (parts body)) (λ v w s xs. right_of _ _ xs (in_block form v s)) h)

  -- a handler, which has its variable in scope

  abbrev handler_in : UnitOf → Option ℕ × List UStmt → Scoped
  handler_in v p = declares_none (λ xs. all_scoped form v p.1 (some_slot p.0 ++ xs))

  abbrev pub HandlerIn : Option ℕ → List ℕ → ℕ → ℕ → List Sort → List RStmt → Type 0
  HandlerIn y around lo hi all b =
      InScope handler_in around lo hi all [] (variable_uses y ++ all_uses fs (parts b)) (some_slot y ++ all_declares (parts b)) (all_places fs (parts b)) (λ context w n. on_tree (λ t. (slot_index_of_option w.slots y, t)) (lift_all (parts b) context w n))

  -- the variable has the next slot, which holds a number
  abbrev pub Begins : Option ℕ → ℕ → ℕ → List Sort → Type 0
  Begins None lo mi all = lo ≡ mi
  Begins (Some y) lo mi all = (lo ≡ y) × (lo < mi) × (is_number (slice_get all lo) ≡ true)

  variable_facts : (around : List ℕ) (y : Option ℕ) (lo mi : ℕ) (all : List Sort) → Begins y lo mi all → Facts around lo mi all (variable_uses y) (some_slot y)
  variable_facts around None lo mi all h = subst (λ n. Facts around lo n all [] []) h (no_facts around lo all)
  variable_facts around (Some y) lo mi all h = subst (λ z. Facts around lo mi all (used Declared z ∷ []) (z ∷ [])) h.0 (declare_facts around lo mi all [] h.1 h.2 (only_none around))

  variable_moved : (ys : List ℕ) (y : Option ℕ) (z : ℕ) → Among (some_slot y) z → Among (some_slot (slot_index_of_option ys y)) (slot_index_of ys z)
  variable_moved ys None z a = none_among z a
  variable_moved ys (Some x) z a = elim (among_cases x [] z a) [
    | inl e ↦ subst (λ v. Among (slot_index_of ys x ∷ []) (slot_index_of ys v)) e (first_of (slot_index_of ys x) [])
    | inr b ↦ none_among z b
  ]

  handler_stands : (around : List ℕ) (y : Option ℕ) (us : List Use) (ds : List ℕ) (w : SlotMap) (xs : List ℕ) → Stands around (variable_uses y ++ us) (some_slot y ++ ds) w xs → Stands (around ++ some_slot y) us ds w (some_slot (slot_index_of_option w.slots y) ++ xs)
  handler_stands around y us ds w xs s =
      let top : List ℕ = some_slot (slot_index_of_option w.slots y) in
      stands_second around (around ++ some_slot y) (variable_uses y) us (some_slot y) ds (λ z i. among_either around (some_slot y) z i) w xs (top ++ xs)
      (λ z i n. elim (among_either around (some_slot y) z i) [
        | inl j ↦ among_second top xs (slot_index_of w.slots z) (s.known z j (names_second (variable_uses y) us z n))
        | inr j ↦ among_first top xs (slot_index_of w.slots z) (variable_moved w.slots y z j)
      ])
      s

  pub handler_is_in : (around : List ℕ) (lo mi hi : ℕ) (all : List Sort) (more : List ℕ) (y : Option ℕ) (b : List RStmt) → Begins y lo mi all → BodyIn (around ++ some_slot y) mi hi all more b → HandlerIn y around lo hi all b
  handler_is_in around lo mi hi all more y b begins h = record {
    facts = both_facts around (around ++ some_slot y) lo mi hi all (variable_uses y) (all_uses fs (parts b)) (some_slot y) (all_declares (parts b)) (λ z i. among_either around (some_slot y) z i) (variable_facts around y lo mi all begins) h.facts;
    tops = λ z i. none_among z i;
    lifts = record {
      tree = λ context w n v xs lies s o stand.
          h.lifts.tree context w n v (some_slot (slot_index_of_option w.slots y) ++ xs) lies (handler_stands around y (all_uses fs (parts b)) (all_declares (parts b)) w xs s) o stand;
      declared = λ context w n v z i. none_among z i;
      units = λ context w n v xs lies s o stand.
          h.lifts.units context w n v (some_slot (slot_index_of_option w.slots y) ++ xs) lies (handler_stands around y (all_uses fs (parts b)) (all_declares (parts b)) w xs s) o stand;
    };
  }

  pub part_try : (around : List ℕ) (lo mi hi : ℕ) (all : List Sort) (top : List ℕ) (a : List RStmt) (x : ℕ) (y : Option ℕ) (b : List RStmt) → BodyIn around lo mi all top a → HandlerIn y around mi hi all b → WhatIn around lo hi all [] (r.Try a x y b)
  unfolding roll-RWhat denote.Hole.Carrier.roll
  part_try around lo mi hi all top a x y b h k line =
      at_part around lo hi all [] line (RWhat-F.Try a x y b)
      (blocks around lo mi hi all (all_in form) handler_in (what_in form) top [] (all_uses fs (parts a)) (variable_uses y ++ all_uses fs (parts b)) (all_declares (parts a)) (some_slot y ++ all_declares (parts b)) (all_places fs (parts a)) (all_places fs (parts b))
      (λ w r (s : Option ℕ × List UStmt). u.Try r (slot_index_of w.exceptions x) s.0 s.1) (lift_all (parts a)) (λ context w n. on_tree (λ t. (slot_index_of_option w.slots y, t)) (lift_all (parts b) context w n))
      (λ v w r s xs. right_of _ _ xs (in_try form v r (slot_index_of w.exceptions x) s.0 s.1)) h k)

  -- forks

  at_branch_part : (around : List ℕ) (lo hi : ℕ) (all : List Sort) (line : ℕ) (y : RBranchWhat-F RBranchWhat RWhat RBranch RStmt)
      → (let a : Part UCall = branch_what_step (map-RBranchWhat RBranchWhat RWhat RBranch RStmt (ℕ → Part UCall) (ℕ → Part UWhat) (Part UBranch) (Part UStmt) branch_what_part what_part branch_part part y) line in
      OneBranch call_in (λ c. c) around lo hi all (a.uses fs) (a.places fs) a.lift)
      → OneBranch call_in (λ c. c) around lo hi all ((branch_what_part (roll-RBranchWhat y) line).uses fs) ((branch_what_part (roll-RBranchWhat y) line).places fs) (branch_what_part (roll-RBranchWhat y) line).lift
  at_branch_part around lo hi all line y h =
      subst (λ (a : ℕ → Part UCall). OneBranch call_in (λ c. c) around lo hi all ((a line).uses fs) ((a line).places fs) (a line).lift)
      (sym (fold-roll-RBranchWhat (ℕ → Part UCall) (ℕ → Part UWhat) (Part UBranch) (Part UStmt) branch_what_step what_step branch_step stmt_step y)) h

  pub part_block_branch : (around : List ℕ) (lo hi : ℕ) (all : List Sort) (top : List ℕ) (body : List RStmt) → IsAround around lo all → BodyIn around lo hi all top body → BranchWhatIn around lo hi all (rb.Block body)
  unfolding roll-RBranchWhat denote.Hole.Carrier.roll
  part_block_branch around lo hi all top body is h line =
      let ps : List (Part UStmt) = parts body in
      let f : Facts around lo hi all (all_uses fs (parts body)) (all_declares (parts body)) = h.facts in
      at_branch_part around lo hi all line (RBranchWhat-F.RBranchWhat::Block body) (record {
        inside = record {
          facts = record { grows = f.grows; used = f.used; fresh = f.fresh; numbers = λ y i. none_among y i; below = λ y i. none_among y i; said = λ y i. none_among y i; once = refl };
          tops = λ y i. i;
          lifts = block_branch form fs around lo hi all is ps f top h.lifts;
        };
        refers = λ context w n slots functions there j i.
            let x = referred form fs around lo hi all is ps f context slots functions w (branch_slots context ps w) j i in
            (x.0, was_among _ w.slots x.0 x.1, x.2, x.3);
      })

  pub part_call_branch : (around : List ℕ) (lo : ℕ) (all : List Sort) (c : RCall) → IsAround around lo all → CallSuits fs around all c → (unit_at form c.function).params ≡ params_at fs c.function → BranchWhatIn around lo lo all (rb.Call c)
  unfolding roll-RBranchWhat denote.Hole.Carrier.roll
  part_call_branch around lo all c is suits params line =
      at_branch_part around lo lo all line (RBranchWhat-F.RBranchWhat::Call c) (record {
        inside = record {
          facts = only_facts around lo all (call_uses fs c) suits.names;
          tops = λ y i. i;
          lifts = record {
            tree = λ context w n v xs lies s o stand. call_is_right around all c line suits params context w v xs lies s o;
            declared = λ context w n v y i. none_among y i;
            units = λ context w n v xs lies s o stand. tt;
          };
        };
        refers = λ context w n slots functions there.
            subst (λ (gs : List RFunction). RefersTo all w (call_uses fs c) (moved_call gs c w)) (sym functions) (call_refers fs around lo all c w is suits.names (λ y k. there y (suits.names.among y k) k));
      })

  pub part_branch : (around : List ℕ) (lo hi : ℕ) (all : List Sort) (line : ℕ) (t : RBranchWhat) → BranchWhatIn around lo hi all t → BranchIn around lo hi all (record { line = line; what = t })
  part_branch around lo hi all line t h =
      let k = h line in
      subst (λ (a : Part UBranch). OneBranch branch_in (λ (c : UBranch). c.call) around lo hi all (a.uses fs) (a.places fs) a.lift)
      (sym (fold-roll-RBranch (ℕ → Part UCall) (ℕ → Part UWhat) (Part UBranch) (Part UStmt) branch_what_step what_step branch_step stmt_step (record { line = line; what = t })))
      (record {
        inside = enclosed call_in branch_in around lo hi all [] ((branch_what_part t line).uses fs) [] ((branch_what_part t line).places fs) (λ w c. record { line = line; call = c }) (branch_what_part t line).lift (λ v w c xs. refl) k.inside;
        refers = k.refers;
      })

  pub no_branches : (around : List ℕ) (lo : ℕ) (all : List Sort) → ForkIn around lo lo all []
  no_branches around lo all = record {
    inside = record {
      facts = no_facts around lo all;
      tops = λ y i. i;
      lifts = record { tree = λ context w n v xs lies s o stand. refl; declared = λ context w n v y i. none_among y i; units = λ context w n v xs lies s o stand. tt };
    };
    refers = λ context w n slots functions there. tt;
  }

  pub more_branches : (around : List ℕ) (lo mi hi : ℕ) (all : List Sort) (b : RBranch) (bs : List RBranch) → BranchIn around lo mi all b → ForkIn around mi hi all bs → ForkIn around lo hi all (b ∷ bs)
  more_branches around lo mi hi all b bs h k = record {
    inside = blocks around lo mi hi all branch_in calls_in calls_in [] [] ((branch_part b).uses fs) (all_uses fs (branch_parts bs)) [] [] ((branch_part b).places fs) (all_places fs (branch_parts bs)) (λ w c cs. c ∷ cs) (branch_part b).lift (lift_all (branch_parts bs))
        (λ v w c cs xs. refl) h.inside k.inside;
    refers = λ context w n slots functions there. (
      h.refers context w n slots functions (λ y i j. there y i (names_first ((branch_part b).uses fs) (all_uses fs (branch_parts bs)) y j)),
      k.refers context w (n + length ((branch_part b).lift context w n).units) slots functions (λ y i j. there y i (names_second ((branch_part b).uses fs) (all_uses fs (branch_parts bs)) y j)),
    );
  }

  -- a fork of a branch and others
  pub part_par : (around : List ℕ) (lo hi : ℕ) (all : List Sort) (b : RBranch) (bs : List RBranch) → ForkIn around lo hi all (b ∷ bs) → WhatIn around lo hi all [] (r.Par (b ∷ bs))
  unfolding roll-RWhat denote.Hole.Carrier.roll
  part_par around lo hi all b bs h line =
      let us : List Use = all_uses fs (branch_parts (b ∷ bs)) in
      let f : Lifts (List UBranch) = lift_all (branch_parts (b ∷ bs)) in
      at_part around lo hi all [] line (RWhat-F.Par (b ∷ bs)) (record {
        facts = h.inside.facts;
        tops = λ y i. none_among y i;
        lifts = record {
          tree = λ context w n v xs lies s o stand.
              right_of _ _ xs (in_par form v (f context w n).tree)
              ∙ both_hold (branches_apart (f context w n).tree) (all_calls_right form v xs (f context w n).tree)
              (all_apart all w (f context w n).tree (each_uses fs (branch_parts (b ∷ bs))) (h.refers context w n lies.slots lies.functions s.there) o.0)
              (h.inside.lifts.tree context w n v xs lies s o.1 stand);
          declared = λ context w n v y i. none_among y i;
          units = λ context w n v xs lies s o stand. h.inside.lifts.units context w n v xs lies s o.1 stand;
        };
      })

  pub part_stmt : (around : List ℕ) (lo hi : ℕ) (all : List Sort) (top : List ℕ) (line : ℕ) (t : RWhat) → WhatIn around lo hi all top t → StmtIn around lo hi all top (record { line = line; what = t })
  part_stmt around lo hi all top line t h =
      let k = h line in
      subst (λ (a : Part UStmt). PartIn (scoped form) around lo hi all top a)
      (sym (fold-roll-RStmt (ℕ → Part UCall) (ℕ → Part UWhat) (Part UBranch) (Part UStmt) branch_what_step what_step branch_step stmt_step (record { line = line; what = t })))
      (record {
        facts = k.facts;
        tops = k.tops;
        lifts = on_it form fs (what_in form) (scoped form) around all top top ((what_part t line).uses fs) (what_part t line).declares ((what_part t line).places fs) (λ w v. record { line = line; what = v }) (what_part t line).lift
            (λ v w s xs. right_of _ _ xs (in_line form v line s)) (λ v w s y declared i. subst (λ (c : Scoped). Among c.declares (slot_index_of w.slots y)) (sym (in_line form v line s)) (declared y i)) k.lifts;
      })
