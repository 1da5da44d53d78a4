-- One step from a mark.
use Rattle.std.proofs.Common.{◌≡◌, ℕ, suc, pos, ◌+◌, ◌<◌, ◌-◌, false, true, Bool, List, [], ◌∷◌, ◌++◌, length, Some, Ok, refl, sym, ap, ◌∙◌, subst, arith, length-append, if◌then◌else◌, Option, None}
use Rattle.shim_scopes.specs.declared.tree.UExpr.{UExpr}
use Rattle.shim_units.specs.Numbering.{size_all}
use Rattle.shim_units.specs.declared.unit.UStmt.{UStmt}
use Rattle.shim_units.specs.declared.unit.UWhat.{UWhat, UWhat-F, out-UWhat}
use Rattle.shim_process.specs.Ends.{past_ends, settled, gone, went}
use Rattle.shim_process.specs.LocalState.{LocalState, env_of, is_full, trapped, unit_at}
use Rattle.shim_process.specs.StatementViews.{statement_view}
use Rattle.shim_process.specs.Steps.{Action, Enter, Go, Install, Make, Read, Store, StoreFirst, Trapped, Wait, action, installing, limited, line_of, made_in, next_action, next_byte, read_in, read_on, stmt_action, stored_in, try_name, what_action}
use Rattle.shim_process.specs.Todo.{Item, Do, On, First, followed, items_all, next_stmt}
use Rattle.shim_process.specs.Values.{value}
use Rattle.shim_code.specs.declared.instr.MarkKind.TheVariants as kind
use Rattle.shim_code.specs.declared.machine_instr.MachineInstr.TheVariants.{Var, Set, Get, Declare as Declares}
use Rattle.shim_code.specs.Layout.{sequence, one}
use Rattle.shim_code.specs.MachineCode.{machine_expr, machine_expr_or, machine_marked, machine_stmts, statements_in}
use Rattle.shim_machine.specs.Machine.{CodedUnit, Codes, Machine, ReturnPlace, becomes, machine}
use Rattle.shim_machine.specs.Correspondence.{Handles, HasStatement, HasAt, HasHalves, IsPlaceOf, IsRestOf, Returns, IsCodeOf, Corresponds, at_do, at_end, at_half, half_what, mark, point_what}
use Rattle.shim_machine.specs.CodeRuns.{RunsTo, machine_at}
use Rattle.shim_machine.specs.Simulation.{AreCodesOf, AreBounded, ComesToMark, ComesToTrap, Does, NextSuits, Suits, step_room}
use Rattle.shim_machine.proofs.Exprs.{has_front, has_back, leads_one, or_runs, runs, step}
use Rattle.shim_machine.proofs.Enters.{count_all, count_both, enters_list}
use Rattle.shim_machine.proofs.Steps.{From, call_case, half_case, if_case, resumes_at, loop_case, make_case, no_stmts, no_stmts_or, renumber, store_case, rest_after, try_case}

module _ (codes : Codes) (most : ℕ) (short : AreBounded codes most) (n : ℕ) (s : UStmt) (k : List Item) (l : LocalState) (back : List ReturnPlace) (hs : List ℕ) (r : Returns codes back l.callers) (hd : Handles (codes l.frame.unit) hs l.frame.places) (same : l.frame.todo ≡ Do n s ∷ k)
    (is_rest : IsRestOf (codes l.frame.unit).body (Do n s ∷ k)) where
  abbrev u : CodedUnit
  u = codes l.frame.unit

  abbrev at : ℕ → Machine
  at pc = machine pc hs back s.line l

  abbrev Gives : ℕ → UWhat-F UWhat UStmt → Action → Type 0
  Gives pc x a = From codes most short n s k l back hs r hd same is_rest (at pc) x a

  -- an assignment, and the first part of one that meets after it
  assign_first : (y : ℕ) (e : UExpr) (pc stop : ℕ) → (let x : UWhat-F UWhat UStmt = UWhat-F.NextAssign y e in out-UWhat s.what ≡ x → HasAt u n pc (point_what u.units x s.line pc) → stop ≡ pc + length (point_what u.units x s.line pc) → IsCodeOf u stop k → Gives (pc + 1) x (action (StoreFirst y) (value e (env_of l.locations l.frame.slots))))
  assign_first y e pc stop ex has ends rest =
      let x : UWhat-F UWhat UStmt = UWhat-F.NextAssign y e in
      let m = at (pc + 1) in
      let c = machine_expr e (pc + 1) in
      let ca = machine_marked kind.Quiet s.line false (sequence (machine_expr e) (one (Set y))) pc in
      let pc1 = pc + 1 + length c in
      let there_at = pc + length ca in
      let second = half_what x s.line there_at in
      let h = has_front u n pc ca second has in
      let hc = has_front u (n + 1) (pc + 1) c (Set y ∷ []) h.1 in
      let z1 : there_at ≡ pc1 + 1 = omega (arith, length-append c (Set y ∷ [])) in
      let e1 : stop ≡ pc1 + 1 + 2 = omega (arith, ends, z1, length-append ca second) in
      let one_more : n + statements_in ca ≡ n + 1 = omega (arith, count_both c (Set y ∷ []), no_stmts u.units e pc) in
      let back_at = renumber u _ (n + 1) there_at second one_more (has_back u n pc ca second has) in
      let there = subst (λ p. HasAt u (n + 1) p (half_what x s.line p)) z1 back_at in
      let same_number : n + 1 - 1 ≡ n = omega arith in
      let hm = there.0 ∙ ap (λ i. Some (mark kind.Next s.line i true)) same_number in
      half_case codes most short n s k l back hs r hd same is_rest x (pc + 1) pc1 stop y kind.Next _ ex tt (runs codes e m (n + 1) hc) (has_back u (n + 1) (pc + 1) c (Set y ∷ []) h.1).0 hm there e1 rest

  read_case : (y i pc stop : ℕ) → (let x : UWhat-F UWhat UStmt = UWhat-F.Get y i in out-UWhat s.what ≡ x → HasAt u n pc (point_what u.units x s.line pc) → stop ≡ pc + length (point_what u.units x s.line pc) → IsCodeOf u stop k → Gives (pc + 1) x (Read y))
  read_case y i pc stop ex has ends rest =
      let m = at (pc + 1) in
      let l' = read_in y l in
      let m1 = becomes (next_byte l.input_at l.input ∷ []) (record l { input_at = read_on l.input_at l.input }) m in
      let m2 = machine (pc + 1 + 1 + 1) hs back s.line l' in
      let e1 : pc + 1 + 1 + 1 ≡ stop = omega (arith, ends) in
      let lead : RunsTo codes m m2 = record { by = λ j. (suc (suc j), omega arith, step codes m (Get i) has.1.0 (suc j) ∙ step codes m1 (Set y) has.1.1.0 j) } in
      resumes_at codes most short n s k l back hs r hd same is_rest (pc + 1) stop k l'.locations l'.made l'.input_at (rest_after codes most short n s k l back hs r hd same is_rest (UWhat-F.Get y i) On ex) rest
      (subst (λ p. RunsTo codes m (machine p hs back s.line l')) e1 lead)

  as_tried : (a : List UStmt) (y : ℕ) (z : Option ℕ) (b : List UStmt) (pc : ℕ) → (let x : UWhat-F UWhat UStmt = UWhat-F.Try a y z b in Gives (pc + 1) x (limited (is_full l) (Install y (try_name (unit_at l.program l.frame.unit) y) z)) → Gives (pc + 1) x (what_action x (statement_view l)))
  unfolding unit_at
  as_tried a y z b pc g = g

  from_kind : (x : UWhat-F UWhat UStmt) (pc stop : ℕ) → AreCodesOf codes l.program → l.frame.halfway ≡ false → Suits x l → out-UWhat s.what ≡ x → HasStatement u pc n s stop → HasAt u n pc (point_what u.units x s.line pc) → stop ≡ pc + length (point_what u.units x s.line pc) → IsCodeOf u stop k
      → Gives (pc + 1) x (what_action x (statement_view l))
  from_kind (UWhat-F.Declare t y e) pc stop of eh fit ex whole has ends rest =
      let m = at (pc + 1) in
      let c = machine_expr_or (pos 0) e (pc + 1) in
      let pc1 = pc + 1 + length c in
      let e1 : stop ≡ pc1 + 1 = omega (arith, ends, length-append c (Declares t y ∷ [])) in
      make_case codes most short n s k l back hs r hd same is_rest (pc + 1) pc1 stop y t (UWhat-F.Declare t y e) _ ex refl (or_runs codes (pos 0) e m (n + 1) (has_front u (n + 1) (pc + 1) c (Declares t y ∷ []) has.1)) (has_back u (n + 1) (pc + 1) c (Declares t y ∷ []) has.1).0 e1 rest
  from_kind (UWhat-F.Assign y e) pc stop of eh fit ex whole has ends rest =
      let m = at (pc + 1) in
      let c = machine_expr e (pc + 1) in
      let pc1 = pc + 1 + length c in
      let e1 : stop ≡ pc1 + 1 = omega (arith, ends, length-append c (Set y ∷ [])) in
      store_case codes most short n s k l back hs r hd same is_rest (pc + 1) pc1 stop y (UWhat-F.Assign y e) _ ex refl (runs codes e m (n + 1) (has_front u (n + 1) (pc + 1) c (Set y ∷ []) has.1)) (has_back u (n + 1) (pc + 1) c (Set y ∷ []) has.1).0 e1 rest
  from_kind (UWhat-F.NextAssign y e) pc stop of eh fit ex whole has ends rest =
      subst (λ b. Gives (pc + 1) (UWhat-F.NextAssign y e) (if b then Wait else action (StoreFirst y) (value e (env_of l.locations l.frame.slots)))) (sym eh) (assign_first y e pc stop ex has ends rest)
  from_kind (UWhat-F.AssignNext y z) pc stop of eh fit ex whole has ends rest =
      subst (λ b. Gives (pc + 1) (UWhat-F.AssignNext y z) (if b then Store y (env_of l.locations l.frame.slots z) else Wait)) (sym eh) tt
  from_kind (UWhat-F.Get y i) pc stop of eh fit ex whole has ends rest = read_case y i pc stop ex has ends rest
  from_kind (UWhat-F.If e a b) pc stop of eh fit ex whole has ends rest = if_case codes most short n s k l back hs r hd same is_rest e a b pc stop ex has ends rest
  from_kind (UWhat-F.While e a) pc stop of eh fit ex whole has ends rest =
      loop_case codes most short n s k l back hs r hd same is_rest (UWhat-F.While e a) (machine_expr e) _ (machine_stmts u.units a) (λ k. items_all a (n + 1) ++ k) pc stop ex (no_stmts u.units e pc) whole has ends rest refl refl
      (λ h. runs codes e (at (pc + 1)) (n + 1) h)
      (λ place k h st. enters_list u a place (n + 1) k h st)
  from_kind (UWhat-F.For f e st b) pc stop of eh fit ex whole has ends rest =
      loop_case codes most short n s k l back hs r hd same is_rest (UWhat-F.For f e st b) (machine_expr_or (pos 1) e) _ (sequence (machine_stmts u.units b) (machine_stmts u.units st)) (λ k. items_all b (n + 1) ++ (items_all st (n + 1 + size_all b) ++ k)) pc stop ex (no_stmts_or u.units (pos 1) e pc) whole has ends rest refl refl
      (λ h. or_runs codes (pos 1) e (at (pc + 1)) (n + 1) h)
      (λ place k h is_code.
      let cb = machine_stmts u.units b place in
      let cs = machine_stmts u.units st (place + length cb) in
      let z : place + length (cb ++ cs) ≡ place + length cb + length cs = omega (arith, length-append cb cs) in
      let counted : n + 1 + statements_in cb ≡ n + 1 + size_all b = ap (λ c. n + 1 + c) (count_all u.units b place) in
      let hs = renumber u _ (n + 1 + size_all b) (place + length cb) cs counted (has_back u (n + 1) place cb cs h) in
      enters_list u b place (n + 1) (items_all st (n + 1 + size_all b) ++ k) (has_front u (n + 1) place cb cs h) (enters_list u st (place + length cb) (n + 1 + size_all b) k hs (subst (λ p. IsCodeOf u p k) z is_code)))
  from_kind (UWhat-F.Call c) pc stop of eh fit ex whole has ends rest = call_case codes most short n s k l back hs r hd same is_rest c pc stop of fit ex has ends rest
  from_kind (UWhat-F.Try a y z b) pc stop of eh fit ex whole has ends rest = as_tried a y z b pc (try_case codes most short n s k l back hs r hd same is_rest a y z b pc stop ex has ends rest)
  from_kind (UWhat-F.Block a) pc stop of eh fit ex whole has ends rest = tt
  from_kind (UWhat-F.Next y) pc stop of eh fit ex whole has ends rest = tt
  from_kind (UWhat-F.Put o e) pc stop of eh fit ex whole has ends rest = tt
  from_kind (UWhat-F.Throw y e) pc stop of eh fit ex whole has ends rest = tt
  from_kind (UWhat-F.Par bs) pc stop of eh fit ex whole has ends rest = tt

  -- the second part of a statement
  from_half : (x : UWhat-F UWhat UStmt) (pc stop : ℕ) → l.frame.halfway ≡ true → HasHalves x → out-UWhat s.what ≡ x → HasAt u (n + 1) pc (half_what x s.line pc) → stop ≡ pc + length (half_what x s.line pc) → IsCodeOf u stop k
      → Gives (pc + 1) x (what_action x (statement_view l))
  from_half (UWhat-F.NextAssign y e) pc stop eh is ex has ends rest =
      subst (λ b. Gives (pc + 1) (UWhat-F.NextAssign y e) (if b then Wait else action (StoreFirst y) (value e (env_of l.locations l.frame.slots)))) (sym eh) tt
  from_half (UWhat-F.AssignNext y z) pc stop eh is ex has ends rest =
      let v = env_of l.locations l.frame.slots z in
      let lt : pc + 1 < pc + 1 + 1 = omega arith in
      let lead = leads_one codes (at (pc + 1)) (machine_at (at (pc + 1)) (pc + 1 + 1) (v ∷ [])) (Var z) has.1.0 lt (λ go. refl) in
      let e1 : stop ≡ pc + 1 + 1 + 1 = omega (arith, ends) in
      subst (λ b. Gives (pc + 1) (UWhat-F.AssignNext y z) (if b then Store y v else Wait)) (sym eh)
      (store_case codes most short n s k l back hs r hd same is_rest (pc + 1) (pc + 1 + 1) stop y (UWhat-F.AssignNext y z) (Ok v) ex refl lead has.1.1.0 e1 rest)
  from_half (UWhat-F.Declare t y e) pc stop eh is ex has ends rest = absurd is
  from_half (UWhat-F.Assign y e) pc stop eh is ex has ends rest = absurd is
  from_half (UWhat-F.Next y) pc stop eh is ex has ends rest = absurd is
  from_half (UWhat-F.Get y i) pc stop eh is ex has ends rest = absurd is
  from_half (UWhat-F.Put o e) pc stop eh is ex has ends rest = absurd is
  from_half (UWhat-F.If e a b) pc stop eh is ex has ends rest = absurd is
  from_half (UWhat-F.While e a) pc stop eh is ex has ends rest = absurd is
  from_half (UWhat-F.For f e st b) pc stop eh is ex has ends rest = absurd is
  from_half (UWhat-F.Block a) pc stop eh is ex has ends rest = absurd is
  from_half (UWhat-F.Call c) pc stop eh is ex has ends rest = absurd is
  from_half (UWhat-F.Try a y z b) pc stop eh is ex has ends rest = absurd is
  from_half (UWhat-F.Throw y e) pc stop eh is ex has ends rest = absurd is
  from_half (UWhat-F.Par bs) pc stop eh is ex has ends rest = absurd is

  -- what is proved of a statement is what the definition says, at a state that stands at it
  does : (pc : ℕ) (a : Action) → Gives pc (out-UWhat s.what) a → Does codes (step_room most (length l.callers)) (at pc) a l
  unfolding gone went
  does pc Wait f = tt
  does pc (Trapped t) f = subst (λ j. ComesToTrap codes (step_room most (length l.callers)) (at pc) (trapped t j l)) (ap line_of (sym same)) f
  does pc (Go c) f = subst (λ z. ComesToMark codes (step_room most (length l.callers)) (at pc) (settled l.callers (past_ends (followed c z) l.frame.places (record l.frame { halfway = false })) l)) (sym same) f
  does pc (Store y v) f = subst (λ z. ComesToMark codes (step_room most (length l.callers)) (at pc) (settled l.callers (past_ends (followed On z) l.frame.places (record l.frame { halfway = false })) (stored_in y v l))) (sym same) f
  does pc (StoreFirst y v) f = f
  does pc (Make t y v) f = subst (λ z. ComesToMark codes (step_room most (length l.callers)) (at pc) (settled l.callers (past_ends (followed On z) l.frame.places (record l.frame { halfway = false })) (made_in t y v l))) (sym same) f
  does pc (Read y) f = subst (λ z. ComesToMark codes (step_room most (length l.callers)) (at pc) (settled l.callers (past_ends (followed On z) l.frame.places (record l.frame { halfway = false })) (read_in y l))) (sym same) f
  does pc (Enter unit given labels) f = f
  does pc (Install y name None) f =
      let l' = installing y name None l in
      subst (λ z. ComesToMark codes (step_room most (length l.callers)) (at pc) (settled l.callers (past_ends (followed First z) l'.frame.places (record l'.frame { halfway = false })) l')) (sym same) f
  does pc (Install y name (Some x)) f =
      let l' = installing y name (Some x) l in
      subst (λ z. ComesToMark codes (step_room most (length l.callers)) (at pc) (settled l.callers (past_ends (followed First z) l'.frame.places (record l'.frame { halfway = false })) l')) (sym same) f

-- by where it stands
from_mark : (codes : Codes) (most : ℕ) → AreBounded codes most → (l : LocalState) (pc : ℕ) (back : List ReturnPlace) (hs : List ℕ) (h : Bool) (todo : List Item) → AreCodesOf codes l.program → l.frame.todo ≡ todo → l.frame.halfway ≡ h → NextSuits todo l → IsRestOf (codes l.frame.unit).body todo
    → IsPlaceOf (codes l.frame.unit) pc todo h → Handles (codes l.frame.unit) hs l.frame.places → Returns codes back l.callers → Does codes (step_room most (length l.callers)) (machine (pc + 1) hs back (line_of todo) l) (stmt_action (next_stmt todo) (statement_view l)) l
from_mark codes most short l _ back hs false _ of e eh fit is_rest (at_end pc n h) hd r = tt
from_mark codes most short l _ back hs false _ of e eh fit is_rest (at_do pc n stop s k has rest) hd r =
    does codes most short n s k l back hs r hd e is_rest (pc + 1) (what_action (out-UWhat s.what) (statement_view l))
    (from_kind codes most short n s k l back hs r hd e is_rest (out-UWhat s.what) pc stop of eh fit refl has has.all has.ends rest)
from_mark codes most short l _ back hs true _ of e eh fit is_rest (at_half pc n stop s k ih has rest) hd r =
    does codes most short n s k l back hs r hd e is_rest (pc + 1) (what_action (out-UWhat s.what) (statement_view l))
    (from_half codes most short n s k l back hs r hd e is_rest (out-UWhat s.what) pc stop eh ih refl has.0 has.1 rest)

pub one_step : (codes : Codes) (most : ℕ) (l : LocalState) (pc : ℕ) (handlers : List ℕ) (back : List ReturnPlace) → AreCodesOf codes l.program → AreBounded codes most → NextSuits l.frame.todo l → Corresponds codes pc handlers back l
    → Does codes (step_room most (length l.callers)) (machine (pc + 1) handlers back (line_of l.frame.todo) l) (next_action l) l
unfolding next_action
one_step codes most l pc handlers back of short fit st = from_mark codes most short l pc back handlers l.frame.halfway l.frame.todo of refl refl fit st.is_rest st.here st.handles st.returns
