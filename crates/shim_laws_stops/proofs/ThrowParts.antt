-- What is lifted out of a bound body throws and hands on what is in force: by induction over the rules of scope.
use Rattle.std.proofs.Common.{ℕ, suc, ◌+◌, ◌≡◌, ◌∙◌, true, ◌&&◌, inl, inr, List, [], ◌∷◌, ◌++◌, Option, Some, None, length, map, slice_get, refl, sym, ap, subst, arith}
use Rattle.shim_base.specs.declared.types.Ty.{Ty}
use Rattle.shim_syntax.specs.declared.tree.Call.{Call}
use Rattle.shim_syntax.specs.declared.tree.Function.{Function}
use Rattle.shim_syntax.specs.declared.tree.Stmt.{Stmt}
use Rattle.shim_syntax.specs.declared.tree.What.{What}
use Rattle.shim_syntax.specs.declared.tree.Branch.{Branch}
use Rattle.shim_syntax.specs.declared.tree.BranchWhat.{BranchWhat}
use Rattle.shim_syntax.specs.Names.{Texts}
use Rattle.shim_scopes.specs.declared.scope.Handled.{Handled}
use Rattle.shim_scopes.specs.declared.tree.RCall.{RCall}
use Rattle.shim_scopes.specs.declared.tree.UExpr.{UExpr}
use Rattle.shim_scopes.specs.declared.tree.RStmt.{RStmt, fold-roll-RStmt}
use Rattle.shim_scopes.specs.declared.tree.RWhat.{RWhat, RWhat-F, fold-roll-RWhat, map-RWhat, roll-RWhat}
use Rattle.shim_scopes.specs.declared.tree.RWhat.TheVariants as r
use Rattle.shim_scopes.specs.declared.tree.RBranch.{RBranch, fold-roll-RBranch}
use Rattle.shim_scopes.specs.declared.tree.RBranchWhat.{RBranchWhat, RBranchWhat-F, fold-roll-RBranchWhat, map-RBranchWhat, roll-RBranchWhat}
use Rattle.shim_scopes.specs.declared.tree.RBranchWhat.TheVariants as rb
use Rattle.shim_units.specs.declared.form.Form.{Form}
use Rattle.shim_units.specs.declared.unit.UBranch.{UBranch}
use Rattle.shim_units.specs.declared.unit.UCall.{UCall}
use Rattle.shim_units.specs.declared.unit.UStmt.{UStmt}
use Rattle.shim_units.specs.declared.unit.UWhat.{UWhat}
use Rattle.shim_units.specs.declared.unit.UWhat.TheVariants as u
use Rattle.shim_units.specs.declared.slot_map.SlotMap.{SlotMap}
use Rattle.shim_units.specs.Moving.{slot_index_of, slot_index_of_option, renumbered, moved_option, moved_call}
use Rattle.shim_units.specs.Parts.{LiftContext, Part, Lifts, all_raises, all_tries}
use Rattle.shim_units.specs.Lifting.{lift_all, unlifted, on_tree, lift_two}
use Rattle.shim_units.specs.PartFold.{branch_what_step, what_step, branch_step, stmt_step, part, parts, branch_part, branch_parts}
use Rattle.shim_units.proofs.PartSteps.{branch_what_part, what_part}
use Rattle.shim_process.specs.LocalState.{unit_at}
use Rattle.shim_laws_binding.specs.Innermost.{IsNumberOfInnermost}
use Rattle.shim_laws_binding.specs.LexicalScope as is
use Rattle.shim_laws_binding.specs.LexicalScope.{Point, Pairwise, inside_try, point_after_block, point_after_variable, slot_of_variable, BindsCall, BindsWhat, BindsStmt, BindsStmts, BindsBlock, BindsBranchWhat, BindsBranch, BindsBranches}
use Rattle.shim_laws_binding.proofs.Lists.{each_of_both}
use Rattle.shim_laws_sources.proofs.Lifting.{stand_first, stand_from}
use Rattle.shim_base.proofs.Facts.{both_hold}
use Rattle.shim_laws_stops.specs.InForce.{InForce, hands_on, all_hand_on, throws, all_throw, ThrowsInForce}
use Rattle.shim_laws_stops.proofs.Among.{Among, first_of, among_behind, among_cases, none_among, among_first, among_second, among_either}
use Rattle.shim_laws_stops.proofs.ThrowSteps.{throws_what, throws_line, throws_declare, throws_assign, throws_next, throws_next_assign, throws_assign_next, throws_get, throws_put, throws_if, throws_while, throws_for, throws_block, throws_call, throws_try, throws_throw, throws_par}
use Rattle.shim_laws_stops.proofs.ThrowLifting.{IsBetween, Numbered, Stands, numbered_both, numbered_none, LiftsRight, alone, around, two, block_branch, call_right}

-- the numbers of the exceptions in force
abbrev pub numbers : List Handled → List ℕ
numbers hs = map (λ (h : Handled). h.number) hs

numbers_more : (hs : List Handled) (h : Handled) → numbers (hs ++ h ∷ []) ≡ numbers hs ++ h.number ∷ []
numbers_more [] h = refl
numbers_more (g ∷ hs) h = ap (λ l. g.number ∷ l) (numbers_more hs h)

-- the exception of that number is in force
stands_among : (outer inner : List Handled) (at : Handled) (n : ℕ) → at.number ≡ n → Among (numbers (outer ++ at ∷ inner)) n
stands_among [] inner at n e = subst (λ k. Among (numbers (at ∷ inner)) k) e (first_of at.number (numbers inner))
stands_among (h ∷ outer) inner at n e = among_behind h.number (numbers (outer ++ at ∷ inner)) n (stands_among outer inner at n e)

innermost_among : (x : List ℕ) (hs : List Handled) (n : ℕ) → IsNumberOfInnermost x hs n → Among (numbers hs) n
innermost_among x hs n i = subst (λ l. Among (numbers l) n) (sym i.1.whole) (stands_among i.1.outer i.1.inner i.0 n i.2)

all_innermost : (hs : List Handled) (xs : Texts) (ns : List ℕ) → Pairwise (λ x number. IsNumberOfInnermost x hs number) xs ns → (n : ℕ) → Among ns n → Among (numbers hs) n
all_innermost hs [] [] h n a = none_among n a
all_innermost hs [] (m ∷ ns) h n a = absurd h
all_innermost hs (x ∷ xs) [] h n a = absurd h
all_innermost hs (x ∷ xs) (m ∷ ns) h n a = elim (among_cases m ns n a) [
  | inl e ↦ subst (λ k. Among (numbers hs) k) e (innermost_among x hs m h.0)
  | inr b ↦ all_innermost hs xs ns h.1 n b
]

pair_lengths : (hs : List Handled) (xs : Texts) (ns : List ℕ) → Pairwise (λ x number. IsNumberOfInnermost x hs number) xs ns → length ns ≡ length xs
pair_lengths hs [] [] h = refl
pair_lengths hs [] (m ∷ ns) h = absurd h
pair_lengths hs (x ∷ xs) [] h = absurd h
pair_lengths hs (x ∷ xs) (m ∷ ns) h = ap suc (pair_lengths hs xs ns h.1)

-- each function of the text has its unit at its number, which is given an exception for each of its `throws`
abbrev pub HaveUnits : Form → List Function → Type 0
HaveUnits form functions = (n : ℕ) (f : Function) → slice_get functions n ≡ Some f → (unit_at form n).throws ≡ length f.throws

module _ (form : Form) where
  -- a part of the text from the one point to the other
  pub record Throwing {T : Type 0} (right : T → InForce) (p q : Point) (rs ts : List ℕ) (f : Lifts T) : Type 0 where
    pub same : q.handled ≡ p.handled
    pub numbered : Numbered (numbers p.handled) p.exceptions q.exceptions rs ts
    pub lifts : LiftsRight form right (numbers p.handled) p.exceptions q.exceptions rs ts f

  abbrev pub PartThrows : {T : Type 0} → (T → InForce) → Point → Point → Part T → Type 0
  PartThrows right p q a = Throwing right p q a.raises a.tries a.lift

  abbrev pub BodyThrows : Point → Point → List RStmt → Type 0
  BodyThrows p q body = Throwing (all_throw form) p q (all_raises (parts body)) (all_tries (parts body)) (lift_all (parts body))

  abbrev pub WhatThrows : Point → Point → RWhat → Type 0
  WhatThrows p q t = (line : ℕ) → PartThrows (throws_what form) p q (what_part t line)

  abbrev branch_throws : UBranch → InForce
  branch_throws b = hands_on form b.call

  abbrev ForkThrows : Point → Point → List RBranch → Type 0
  ForkThrows p q bs = Throwing (all_hand_on form) p q (all_raises (branch_parts bs)) [] (lift_all (branch_parts bs))

  abbrev BranchWhatThrows : Point → Point → RBranchWhat → Type 0
  BranchWhatThrows p q t = (line : ℕ) → Throwing (hands_on form) p q (branch_what_part t line).raises [] (branch_what_part t line).lift

  -- what throws nothing and has no parts
  plain : (p q : Point) (f : LiftContext → SlotMap → UWhat) → q.handled ≡ p.handled → q.exceptions ≡ p.exceptions → ((context : LiftContext) (w : SlotMap) (xs : List ℕ) → throws_what form (f context w) xs ≡ true)
      → Throwing (throws_what form) p q [] [] (λ context w n. unlifted (f context w))
  plain p q f same still h = record {
    same = same;
    numbered = subst (λ n. Numbered (numbers p.handled) p.exceptions n [] []) (sym still) (numbered_none (numbers p.handled) p.exceptions);
    lifts = alone form (throws_what form) (numbers p.handled) p.exceptions q.exceptions [] [] f (λ context w xs s. h context w xs);
  }

  with_around : {S T : Type 0} (right : S → InForce) (better : T → InForce) (p q : Point) (rs ts : List ℕ) (g : SlotMap → S → T) (f : Lifts S) → ((w : SlotMap) (s : S) (xs : List ℕ) → better (g w s) xs ≡ right s xs)
      → Throwing right p q rs ts f → Throwing better p q rs ts (λ context w n. on_tree (g w) (f context w n))
  with_around right better p q rs ts g f same h = record {
    same = h.same;
    numbered = h.numbered;
    lifts = around form right better (numbers p.handled) p.exceptions q.exceptions rs ts g f same h.lifts;
  }

  both_parts : {R S T : Type 0} (right : R → InForce) (fine : S → InForce) (better : T → InForce) (p m q : Point) (rs qs ts us : List ℕ) (g : SlotMap → R → S → T) (f : Lifts R) (h : Lifts S)
      → ((w : SlotMap) (r : R) (s : S) (xs : List ℕ) → better (g w r s) xs ≡ (right r xs && fine s xs)) → Throwing right p m rs ts f → Throwing fine m q qs us h
      → Throwing better p q (rs ++ qs) (ts ++ us) (λ context w n. lift_two (g w) f h context w n)
  both_parts right fine better p m q rs qs ts us g f h same a b =
      let next : Numbered (numbers p.handled) m.exceptions q.exceptions qs us = subst (λ hs. Numbered (numbers hs) m.exceptions q.exceptions qs us) a.same b.numbered in
      let lifts : LiftsRight form fine (numbers p.handled) m.exceptions q.exceptions qs us h = subst (λ hs. LiftsRight form fine (numbers hs) m.exceptions q.exceptions qs us h) a.same b.lifts in
      record {
        same = b.same ∙ a.same;
        numbered = numbered_both (numbers p.handled) p.exceptions m.exceptions q.exceptions rs qs ts us a.numbered next;
        lifts = two form right fine better (numbers p.handled) p.exceptions m.exceptions q.exceptions rs qs ts us g f h same a.numbered next a.lifts lifts;
      }

  in_block : (p q : Point) (body : List RStmt) → BodyThrows p q body → BodyThrows p (point_after_block p q) body
  in_block p q body h = record { same = refl; numbered = h.numbered; lifts = h.lifts }

  no_stmts : (p : Point) → BodyThrows p p []
  no_stmts p = record {
    same = refl;
    numbered = numbered_none (numbers p.handled) p.exceptions;
    lifts = alone form (all_throw form) (numbers p.handled) p.exceptions p.exceptions [] [] (λ context w. []) (λ context w xs s. refl);
  }

  more_stmts : (p m q : Point) (s : RStmt) (body : List RStmt) → PartThrows (throws form) p m (part s) → BodyThrows m q body → BodyThrows p q (s ∷ body)
  more_stmts p m q s body h k = both_parts (throws form) (all_throw form) (all_throw form) p m q (part s).raises (all_raises (parts body)) (part s).tries (all_tries (parts body)) (λ w t ts. t ∷ ts) (part s).lift (lift_all (parts body))
      (λ w t ts xs. refl) h k

  no_branches : (p : Point) → ForkThrows p p []
  no_branches p = record {
    same = refl;
    numbered = numbered_none (numbers p.handled) p.exceptions;
    lifts = alone form (all_hand_on form) (numbers p.handled) p.exceptions p.exceptions [] [] (λ context w. []) (λ context w xs s. refl);
  }

  more_branches : (p m q : Point) (b : RBranch) (bs : List RBranch) → Throwing branch_throws p m (branch_part b).raises [] (branch_part b).lift → ForkThrows m q bs → ForkThrows p q (b ∷ bs)
  more_branches p m q b bs h k = both_parts branch_throws (all_hand_on form) (all_hand_on form) p m q (branch_part b).raises (all_raises (branch_parts bs)) [] [] (λ w c cs. c ∷ cs) (branch_part b).lift (lift_all (branch_parts bs))
      (λ w c cs xs. refl) h k

  at_part : (p q : Point) (line : ℕ) (y : RWhat-F RBranchWhat RWhat RBranch RStmt)
      → PartThrows (throws_what form) p q (what_step (map-RWhat RBranchWhat RWhat RBranch RStmt (ℕ → Part UCall) (ℕ → Part UWhat) (Part UBranch) (Part UStmt) branch_what_part what_part branch_part part y) line)
      → PartThrows (throws_what form) p q (what_part (roll-RWhat y) line)
  at_part p q line y h = subst (λ (a : ℕ → Part UWhat). PartThrows (throws_what form) p q (a line)) (sym (fold-roll-RWhat (ℕ → Part UCall) (ℕ → Part UWhat) (Part UBranch) (Part UStmt) branch_what_step what_step branch_step stmt_step y)) h

  part_declare : (p q : Point) (ty : Ty) (x : ℕ) (e : Option UExpr) → q.handled ≡ p.handled → q.exceptions ≡ p.exceptions → WhatThrows p q (r.Declare ty x e)
  unfolding roll-RWhat denote.Hole.Carrier.roll
  part_declare p q ty x e same still line =
      at_part p q line (RWhat-F.Declare ty x e) (plain p q (λ context w. u.Declare ty (slot_index_of w.slots x) (moved_option w.slots e)) same still (λ context w xs. throws_declare form ty (slot_index_of w.slots x) (moved_option w.slots e) xs))

  part_assign : (p : Point) (x : ℕ) (e : UExpr) → WhatThrows p p (r.Assign x e)
  unfolding roll-RWhat denote.Hole.Carrier.roll
  part_assign p x e line = at_part p p line (RWhat-F.Assign x e) (plain p p (λ context w. u.Assign (slot_index_of w.slots x) (renumbered w.slots e)) refl refl (λ context w xs. throws_assign form (slot_index_of w.slots x) (renumbered w.slots e) xs))

  part_next : (p : Point) (x : ℕ) → WhatThrows p p (r.Next x)
  unfolding roll-RWhat denote.Hole.Carrier.roll
  part_next p x line = at_part p p line (RWhat-F.Next x) (plain p p (λ context w. u.Next (slot_index_of w.slots x)) refl refl (λ context w xs. throws_next form (slot_index_of w.slots x) xs))

  part_next_assign : (p : Point) (x : ℕ) (e : UExpr) → WhatThrows p p (r.NextAssign x e)
  unfolding roll-RWhat denote.Hole.Carrier.roll
  part_next_assign p x e line =
      at_part p p line (RWhat-F.NextAssign x e) (plain p p (λ context w. u.NextAssign (slot_index_of w.slots x) (renumbered w.slots e)) refl refl (λ context w xs. throws_next_assign form (slot_index_of w.slots x) (renumbered w.slots e) xs))

  part_assign_next : (p : Point) (x y : ℕ) → WhatThrows p p (r.AssignNext x y)
  unfolding roll-RWhat denote.Hole.Carrier.roll
  part_assign_next p x y line =
      at_part p p line (RWhat-F.AssignNext x y) (plain p p (λ context w. u.AssignNext (slot_index_of w.slots x) (slot_index_of w.slots y)) refl refl (λ context w xs. throws_assign_next form (slot_index_of w.slots x) (slot_index_of w.slots y) xs))

  part_get : (p : Point) (x y : ℕ) → WhatThrows p p (r.Get x y)
  unfolding roll-RWhat denote.Hole.Carrier.roll
  part_get p x y line = at_part p p line (RWhat-F.Get x y) (plain p p (λ context w. u.Get (slot_index_of w.slots x) (slot_index_of w.slots y)) refl refl (λ context w xs. throws_get form (slot_index_of w.slots x) (slot_index_of w.slots y) xs))

  part_put : (p : Point) (x : ℕ) (e : UExpr) → WhatThrows p p (r.Put x e)
  unfolding roll-RWhat denote.Hole.Carrier.roll
  part_put p x e line = at_part p p line (RWhat-F.Put x e) (plain p p (λ context w. u.Put (slot_index_of w.slots x) (renumbered w.slots e)) refl refl (λ context w xs. throws_put form (slot_index_of w.slots x) (renumbered w.slots e) xs))

  part_if : (p m q : Point) (e : UExpr) (a b : List RStmt) → BodyThrows p m a → BodyThrows m q b → WhatThrows p q (r.If e a b)
  unfolding roll-RWhat denote.Hole.Carrier.roll
  part_if p m q e a b h k line = at_part p q line (RWhat-F.If e a b)
      (both_parts (all_throw form) (all_throw form) (throws_what form) p m q (all_raises (parts a)) (all_raises (parts b)) (all_tries (parts a)) (all_tries (parts b)) (λ w x y. u.If (renumbered w.slots e) x y) (lift_all (parts a)) (lift_all (parts b))
      (λ w x y xs. throws_if form (renumbered w.slots e) x y xs) h k)

  part_while : (p q : Point) (e : UExpr) (body : List RStmt) → BodyThrows p q body → WhatThrows p q (r.While e body)
  unfolding roll-RWhat denote.Hole.Carrier.roll
  part_while p q e body h line = at_part p q line (RWhat-F.While e body)
      (with_around (all_throw form) (throws_what form) p q (all_raises (parts body)) (all_tries (parts body)) (λ w s. u.While (renumbered w.slots e) s) (lift_all (parts body)) (λ w s xs. throws_while form (renumbered w.slots e) s xs) h)

  -- three parts are one and then two
  part_for : (p m n q : Point) (a : List RStmt) (test : Option UExpr) (b c : List RStmt) → BodyThrows p m a → BodyThrows m n b → BodyThrows n q c → WhatThrows p q (r.For a test b c)
  unfolding roll-RWhat denote.Hole.Carrier.roll
  part_for p m n q a test b c h k l line = at_part p q line (RWhat-F.For a test b c)
      (both_parts (all_throw form) (λ (x : List UStmt × List UStmt) xs. all_throw form x.0 xs && all_throw form x.1 xs) (throws_what form) p m q (all_raises (parts a)) (all_raises (parts b) ++ all_raises (parts c)) (all_tries (parts a)) (all_tries (parts b) ++ all_tries (parts c))
      (λ w x (y : List UStmt × List UStmt). u.For x (moved_option w.slots test) y.0 y.1) (lift_all (parts a)) (λ context w i. lift_two (λ x y. (x, y)) (lift_all (parts b)) (lift_all (parts c)) context w i)
      (λ w x y xs. throws_for form x (moved_option w.slots test) y.0 y.1 xs) h
      (both_parts (all_throw form) (all_throw form) (λ (x : List UStmt × List UStmt) xs. all_throw form x.0 xs && all_throw form x.1 xs) m n q (all_raises (parts b)) (all_raises (parts c)) (all_tries (parts b)) (all_tries (parts c))
      (λ w x y. (x, y)) (lift_all (parts b)) (lift_all (parts c)) (λ w x y xs. refl) k l))

  part_block : (p q : Point) (body : List RStmt) → BodyThrows p q body → WhatThrows p q (r.Block body)
  unfolding roll-RWhat denote.Hole.Carrier.roll
  part_block p q body h line = at_part p q line (RWhat-F.RWhat::Block body)
      (with_around (all_throw form) (throws_what form) p q (all_raises (parts body)) (all_tries (parts body)) (λ w s. u.Block s) (lift_all (parts body)) (λ w s xs. throws_block form s xs) h)

  -- what is in force goes by, in whatever unit
  called_numbered : (p : Point) (rs : List ℕ) → ((x : ℕ) → Among rs x → Among (numbers p.handled) x) → Numbered (numbers p.handled) p.exceptions p.exceptions rs []
  called_numbered p rs h = record { grows = omega arith; raised = λ x a. inl (h x a); tried = λ x t. none_among x t }

  part_call : (p : Point) (c : RCall) → ((x : ℕ) → Among c.throws x → Among (numbers p.handled) x) → length c.throws ≡ (unit_at form c.function).throws → WhatThrows p p (r.Call c)
  unfolding roll-RWhat denote.Hole.Carrier.roll
  part_call p c h many line = at_part p p line (RWhat-F.RWhat::Call c) (record {
    same = refl;
    numbered = called_numbered p c.throws h;
    lifts = alone form (throws_what form) (numbers p.handled) p.exceptions p.exceptions c.throws [] (λ context w. u.Call (moved_call context.functions c w))
        (λ context w xs s. throws_call form (moved_call context.functions c w) xs ∙ call_right form context.functions c (numbers p.handled) p.exceptions p.exceptions w xs h many s);
  })

  part_throw : (p : Point) (x : ℕ) (e : Option UExpr) → Among (numbers p.handled) x → WhatThrows p p (r.Throw x e)
  unfolding roll-RWhat denote.Hole.Carrier.roll
  part_throw p x e h line = at_part p p line (RWhat-F.Throw x e) (record {
    same = refl;
    numbered = called_numbered p (x ∷ []) (λ y a. elim (among_cases x [] y a) [ inl same ↦ subst (λ z. Among (numbers p.handled) z) same h | inr b ↦ none_among y b ]);
    lifts = alone form (throws_what form) (numbers p.handled) p.exceptions p.exceptions (x ∷ []) [] (λ context w. u.Throw (slot_index_of w.exceptions x) (moved_option w.slots e))
        (λ context w xs s. throws_throw form (slot_index_of w.exceptions x) (moved_option w.slots e) xs ∙ s.known x h (first_of x []));
  })

  part_par : (p q : Point) (bs : List RBranch) → ForkThrows p q bs → WhatThrows p q (r.Par bs)
  unfolding roll-RWhat denote.Hole.Carrier.roll
  part_par p q bs h line = at_part p q line (RWhat-F.Par bs)
      (with_around (all_hand_on form) (throws_what form) p q (all_raises (branch_parts bs)) [] (λ w s. u.Par s) (lift_all (branch_parts bs)) (λ w s xs. throws_par form s xs) h)

  -- a `try`: its exception is in force in the body
  module _ (hs : List ℕ) (lo mi hi : ℕ) (rs qs ts us : List ℕ) (one : Numbered (hs ++ lo ∷ []) (suc lo) mi rs ts) (next : Numbered hs mi hi qs us) where
    numbered_try : Numbered hs lo hi (rs ++ qs) (lo ∷ (ts ++ us))
    numbered_try =
        let up = one.grows in
        let on = next.grows in
        let here : IsBetween lo hi lo = record { from = omega arith; under = omega (arith, up, on) } in
        let wide : (x : ℕ) → IsBetween (suc lo) mi x → IsBetween lo hi x = λ x b. let from = b.from in let under = b.under in record { from = omega (arith, from); under = omega (arith, under, on) } in
        let high : (x : ℕ) → IsBetween mi hi x → IsBetween lo hi x = λ x b. let from = b.from in let under = b.under in record { from = omega (arith, from, up); under = under } in
        record {
          grows = omega (arith, up, on);
          raised = λ x a. elim (among_either rs qs x a) [
            | inl b ↦ elim (one.raised x b) [
              | inl h ↦ elim (among_either hs (lo ∷ []) x h) [
                | inl i ↦ inl i
                | inr i ↦ elim (among_cases lo [] x i) [ inl e ↦ inr (subst (λ z. IsBetween lo hi z) e here) | inr j ↦ none_among x j ]
              ]
              | inr b ↦ inr (wide x b)
            ]
            | inr b ↦ elim (next.raised x b) [ inl h ↦ inl h | inr c ↦ inr (high x c) ]
          ];
          tried = λ x a. elim (among_cases lo (ts ++ us) x a) [
            | inl e ↦ subst (λ z. IsBetween lo hi z) e here
            | inr b ↦ elim (among_either ts us x b) [ inl c ↦ wide x (one.tried x c) | inr c ↦ high x (next.tried x c) ]
          ];
        }

    stands_body : (w : SlotMap) (xs : List ℕ) → Stands hs lo hi (rs ++ qs) (lo ∷ (ts ++ us)) w xs → Stands (hs ++ lo ∷ []) (suc lo) mi rs ts w (slot_index_of w.exceptions lo ∷ xs)
    stands_body w xs s =
        let on = next.grows in
        let i : ℕ = slot_index_of w.exceptions lo in
        record {
          there = λ x h a. elim (among_either hs (lo ∷ []) x h) [
            | inl k ↦ s.there x k (among_first rs qs x a)
            | inr k ↦ elim (among_cases lo [] x k) [ inl e ↦ subst (λ z. Among w.exceptions z) e (s.own lo (first_of lo (ts ++ us))) | inr j ↦ none_among x j ]
          ];
          known = λ x h a. elim (among_either hs (lo ∷ []) x h) [
            | inl k ↦ among_behind i xs (slot_index_of w.exceptions x) (s.known x k (among_first rs qs x a))
            | inr k ↦ elim (among_cases lo [] x k) [ inl e ↦ subst (λ z. Among (i ∷ xs) (slot_index_of w.exceptions z)) e (first_of i xs) | inr j ↦ none_among x j ]
          ];
          own = λ x t. s.own x (among_behind lo (ts ++ us) x (among_first ts us x t));
          alone = λ x a b.
              let from = b.from in
              let under = b.under in
              elim (among_cases lo (ts ++ us) x (s.alone x a (record { from = omega (arith, from); under = omega (arith, under, on) }))) [
                | inl e ↦ absurd (omega (arith, e, from))
                | inr t ↦ elim (among_either ts us x t) [ inl c ↦ c | inr c ↦ let k = next.tried x c in let low = k.from in absurd (omega (arith, low, under)) ]
              ];
        }

    stands_handler : (w : SlotMap) (xs : List ℕ) → Stands hs lo hi (rs ++ qs) (lo ∷ (ts ++ us)) w xs → Stands hs mi hi qs us w xs
    stands_handler w xs s =
        let up = one.grows in
        record {
          there = λ x h a. s.there x h (among_second rs qs x a);
          known = λ x h a. s.known x h (among_second rs qs x a);
          own = λ x t. s.own x (among_behind lo (ts ++ us) x (among_second ts us x t));
          alone = λ x a b.
              let from = b.from in
              let under = b.under in
              elim (among_cases lo (ts ++ us) x (s.alone x a (record { from = omega (arith, from, up); under = under }))) [
                | inl e ↦ absurd (omega (arith, e, from, up))
                | inr t ↦ elim (among_either ts us x t) [ inl c ↦ let k = one.tried x c in let high = k.under in absurd (omega (arith, high, from)) | inr c ↦ c ]
              ];
        }

    lifts_try : (z : Option ℕ) (a b : List (Part UStmt)) → all_raises a ≡ rs → all_tries a ≡ ts → all_raises b ≡ qs → all_tries b ≡ us
        → LiftsRight form (all_throw form) (hs ++ lo ∷ []) (suc lo) mi rs ts (lift_all a) → LiftsRight form (all_throw form) hs mi hi qs us (lift_all b)
        → LiftsRight form (throws_what form) hs lo hi (rs ++ qs) (lo ∷ (ts ++ us)) (λ context w n. lift_two (λ x y. u.Try x (slot_index_of w.exceptions lo) (slot_index_of_option w.slots z) y) (lift_all a) (lift_all b) context w n)
    lifts_try z a b ra ta qb ub h k = record {
      tree = λ context w n xs s stand.
          let i : ℕ = slot_index_of w.exceptions lo in
          let x = lift_all a context w n in
          let m : ℕ = n + length x.units in
          let y = lift_all b context w m in
          throws_try form x.tree i (slot_index_of_option w.slots z) y.tree xs
          ∙ both_hold (all_throw form x.tree (i ∷ xs)) (all_throw form y.tree xs)
          (h.tree context w n (i ∷ xs) (stands_body w xs s) (stand_first form n x.units y.units stand))
          (k.tree context w m xs (stands_handler w xs s) (stand_from form n m x.units y.units refl stand));
      units = λ context w n xs s stand.
          let i : ℕ = slot_index_of w.exceptions lo in
          let x = lift_all a context w n in
          let m : ℕ = n + length x.units in
          let y = lift_all b context w m in
          each_of_both (ThrowsInForce form) x.units y.units
          (h.units context w n (i ∷ xs) (stands_body w xs s) (stand_first form n x.units y.units stand))
          (k.units context w m xs (stands_handler w xs s) (stand_from form n m x.units y.units refl stand));
    }

  -- a handler's variable is no exception
  handler_throws : (p m q : Point) (y : Option (List ℕ)) (b : List RStmt) → BodyThrows (point_after_variable y (point_after_block p m)) q b → BodyThrows (point_after_block p m) (point_after_block p q) b
  handler_throws p m q None b k = record { same = refl; numbered = k.numbered; lifts = k.lifts }
  handler_throws p m q (Some y) b k = record { same = refl; numbered = k.numbered; lifts = k.lifts }

  part_try : (p m q : Point) (x : List ℕ) (z : Option ℕ) (a b : List RStmt) → BodyThrows (inside_try x p) m a → BodyThrows (point_after_block p m) q b → WhatThrows p q (r.Try a p.exceptions z b)
  unfolding roll-RWhat denote.Hole.Carrier.roll
  part_try p m q x z a b h k line =
      let hs : List ℕ = numbers p.handled in
      let lo : ℕ = p.exceptions in
      let more : numbers (inside_try x p).handled ≡ hs ++ lo ∷ [] = numbers_more p.handled (record { name = x; number = lo }) in
      let rs : List ℕ = all_raises (parts a) in
      let ts : List ℕ = all_tries (parts a) in
      let qs : List ℕ = all_raises (parts b) in
      let us : List ℕ = all_tries (parts b) in
      let one : Numbered (hs ++ lo ∷ []) (suc lo) m.exceptions rs ts = subst (λ l. Numbered l (suc lo) m.exceptions rs ts) more h.numbered in
      let lifts : LiftsRight form (all_throw form) (hs ++ lo ∷ []) (suc lo) m.exceptions rs ts (lift_all (parts a)) = subst (λ l. LiftsRight form (all_throw form) l (suc lo) m.exceptions rs ts (lift_all (parts a))) more h.lifts in
      at_part p q line (RWhat-F.Try a lo z b) (record {
        same = k.same;
        numbered = numbered_try hs lo m.exceptions q.exceptions rs qs ts us one k.numbered;
        lifts = lifts_try hs lo m.exceptions q.exceptions rs qs ts us one k.numbered z (parts a) (parts b) refl refl refl refl lifts k.lifts;
      })

  at_branch_part : (p q : Point) (line : ℕ) (y : RBranchWhat-F RBranchWhat RWhat RBranch RStmt)
      → Throwing (hands_on form) p q (branch_what_step (map-RBranchWhat RBranchWhat RWhat RBranch RStmt (ℕ → Part UCall) (ℕ → Part UWhat) (Part UBranch) (Part UStmt) branch_what_part what_part branch_part part y) line).raises []
      (branch_what_step (map-RBranchWhat RBranchWhat RWhat RBranch RStmt (ℕ → Part UCall) (ℕ → Part UWhat) (Part UBranch) (Part UStmt) branch_what_part what_part branch_part part y) line).lift
      → Throwing (hands_on form) p q (branch_what_part (roll-RBranchWhat y) line).raises [] (branch_what_part (roll-RBranchWhat y) line).lift
  at_branch_part p q line y h =
      subst (λ (a : ℕ → Part UCall). Throwing (hands_on form) p q (a line).raises [] (a line).lift) (sym (fold-roll-RBranchWhat (ℕ → Part UCall) (ℕ → Part UWhat) (Part UBranch) (Part UStmt) branch_what_step what_step branch_step stmt_step y)) h

  part_block_branch : (p q : Point) (body : List RStmt) → BodyThrows p q body → BranchWhatThrows p q (rb.Block body)
  unfolding roll-RBranchWhat denote.Hole.Carrier.roll
  part_block_branch p q body h line = at_branch_part p q line (RBranchWhat-F.RBranchWhat::Block body) (record {
    same = h.same;
    numbered = record { grows = h.numbered.grows; raised = h.numbered.raised; tried = λ x t. none_among x t };
    lifts = block_branch form (numbers p.handled) p.exceptions q.exceptions (parts body) h.numbered h.lifts;
  })

  part_call_branch : (p : Point) (c : RCall) → ((x : ℕ) → Among c.throws x → Among (numbers p.handled) x) → length c.throws ≡ (unit_at form c.function).throws → BranchWhatThrows p p (rb.Call c)
  unfolding roll-RBranchWhat denote.Hole.Carrier.roll
  part_call_branch p c h many line = at_branch_part p p line (RBranchWhat-F.RBranchWhat::Call c) (record {
    same = refl;
    numbered = called_numbered p c.throws h;
    lifts = alone form (hands_on form) (numbers p.handled) p.exceptions p.exceptions c.throws [] (λ context w. moved_call context.functions c w)
        (λ context w xs s. call_right form context.functions c (numbers p.handled) p.exceptions p.exceptions w xs h many s);
  })

  part_stmt : (p q : Point) (line : ℕ) (t : RWhat) → WhatThrows p q t → PartThrows (throws form) p q (part (record { line = line; what = t }))
  part_stmt p q line t h = subst (λ (a : Part UStmt). PartThrows (throws form) p q a)
      (sym (fold-roll-RStmt (ℕ → Part UCall) (ℕ → Part UWhat) (Part UBranch) (Part UStmt) branch_what_step what_step branch_step stmt_step (record { line = line; what = t })))
      (with_around (throws_what form) (throws form) p q (what_part t line).raises (what_part t line).tries (λ w v. record { line = line; what = v }) (what_part t line).lift (λ w v xs. throws_line form line v xs) (h line))

  part_branch : (p q : Point) (line : ℕ) (t : RBranchWhat) → BranchWhatThrows p q t → Throwing branch_throws p q (branch_part (record { line = line; what = t })).raises [] (branch_part (record { line = line; what = t })).lift
  part_branch p q line t h = subst (λ (a : Part UBranch). Throwing branch_throws p q a.raises [] a.lift)
      (sym (fold-roll-RBranch (ℕ → Part UCall) (ℕ → Part UWhat) (Part UBranch) (Part UStmt) branch_what_step what_step branch_step stmt_step (record { line = line; what = t })))
      (with_around (hands_on form) branch_throws p q (branch_what_part t line).raises [] (λ w c. record { line = line; call = c }) (branch_what_part t line).lift (λ w c xs. refl) (h line))

  -- by the rules of scope
  module _ (functions : List Function) (units : HaveUnits form functions) where
    many_handed : {p : Point} {c : Call} {d : RCall} → BindsCall functions p c d → length d.throws ≡ (unit_at form d.function).throws
    many_handed {p = p} {c = c} {d = d} h = pair_lengths p.handled h.callee.throws d.throws h.exceptions ∙ sym (units d.function h.callee h.called)

    handed : {p : Point} {c : Call} {d : RCall} → BindsCall functions p c d → (x : ℕ) → Among d.throws x → Among (numbers p.handled) x
    handed {p = p} {c = c} {d = d} h = all_innermost p.handled h.callee.throws d.throws h.exceptions

    mutual
      what_right : {p q : Point} {s : What} {t : RWhat} → BindsWhat functions p s t q → WhatThrows p q t
      what_right (is.declare {p = p} {ty = ty} {x = x} {r = v} a) = part_declare p _ ty p.slots v refl refl
      what_right (is.assign {p = p} {slot = slot} {r = v} i a) = part_assign p slot v
      what_right (is.next {p = p} {slot = slot} i) = part_next p slot
      what_right (is.next_assign {p = p} {slot = slot} {r = v} i a) = part_next_assign p slot v
      what_right (is.assign_next {p = p} {slot = slot} {other = other} i j) = part_assign_next p slot other
      what_right (is.get {p = p} {slot = slot} {stream = stream} i j) = part_get p slot stream
      what_right (is.put {p = p} {stream = stream} {r = v} i a) = part_put p stream v
      what_right (is.if_else {p = p} {m = m} {q = q} {t = t} {f = f} {o = o} a b c) = part_if p m q t f o (block_right b) (block_right c)
      what_right (is.while {p = p} {q = q} {t = t} {b = b} a c) = part_while p q t b (block_right c)
      what_right (is.for_loop {p = p} {m = m} {n = n} {q = q} {f = f} {s = s} {b = b} {t = t} i a j k) =
          λ line. let h = part_for p m n q f t s b (stmts_right i) (stmts_right j) (block_right k) line in record { same = refl; numbered = h.numbered; lifts = h.lifts }
      what_right (is.block {p = p} {q = q} {b = b} h) = part_block p q b (block_right h)
      what_right (is.call {p = p} {r = d} h) = part_call p d (handed h) (many_handed h)
      what_right (is.try {p = p} {m = m} {q = q} {x = x} {y = y} {b = b} {h = h} i j) = part_try p m (point_after_block p q) x (slot_of_variable y m) b h (block_right i) (handler_throws p m q y h (stmts_right j))
      what_right (is.throw {p = p} {x = x} {number = number} {r = e} i a) = part_throw p number e (innermost_among x p.handled number i)
      what_right (is.par {p = p} {q = q} {rs = rs} h) = part_par p q rs (branches_right h)

      stmt_right : {p q : Point} {s : Stmt} {t : RStmt} → BindsStmt functions p s t q → PartThrows (throws form) p q (part t)
      stmt_right (is.stmt {p = p} {q = q} {line = line} {r = t} h) = part_stmt p q line t (what_right h)

      pub stmts_right : {p q : Point} {ss : List Stmt} {ts : List RStmt} → BindsStmts functions p ss ts q → BodyThrows p q ts
      stmts_right (is.no_stmts {p = p}) = no_stmts p
      stmts_right (is.stmts {p = p} {m = m} {q = q} {r = t} {rs = ts} h k) = more_stmts p m q t ts (stmt_right h) (stmts_right k)

      block_right : {p q : Point} {ss : List Stmt} {ts : List RStmt} → BindsBlock functions p ss ts q → BodyThrows p q ts
      block_right (is.in_block {p = p} {q = q} {rs = ts} h) = in_block p q ts (stmts_right h)

      branch_what_right : {p q : Point} {s : BranchWhat} {t : RBranchWhat} → BindsBranchWhat functions p s t q → BranchWhatThrows p q t
      branch_what_right (is.block_branch {p = p} {q = q} {b = b} h) = part_block_branch p q b (block_right h)
      branch_what_right (is.call_branch {p = p} {r = d} h) = part_call_branch p d (handed h) (many_handed h)

      branch_right : {p q : Point} {s : Branch} {t : RBranch} → BindsBranch functions p s t q → Throwing branch_throws p q (branch_part t).raises [] (branch_part t).lift
      branch_right (is.branch {p = p} {q = q} {line = line} {r = t} h) = part_branch p q line t (branch_what_right h)

      branches_right : {p q : Point} {ss : List Branch} {ts : List RBranch} → BindsBranches functions p ss ts q → ForkThrows p q ts
      branches_right (is.no_branches {p = p}) = no_branches p
      branches_right (is.branches {p = p} {m = m} {q = q} {r = t} {rs = ts} h k) = more_branches p m q t ts (branch_right h) (branches_right k)
