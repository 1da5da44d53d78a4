-- A `put`, a throw and a rendezvous, from the mark on.
use Rattle.std.proofs.Common.{◌≡◌, ℕ, ℤ, pos, ◌+◌, ◌-◌, ◌<◌, false, true, Bool, List, [], ◌∷◌, length, Option, Some, None, Ok, Err, refl, sym, ap, ◌∙◌, subst, arith, length-append, if◌then◌else◌}
use Rattle.shim_base.specs.Paths.{NamedChannel}
use Rattle.shim_units.specs.declared.unit.UBranch.{UBranch}
use Rattle.shim_units.specs.declared.unit.UStmt.{UStmt}
use Rattle.shim_units.specs.declared.unit.UWhat.{UWhat, UWhat-F, out-UWhat}
use Rattle.shim_scopes.specs.declared.tree.UExpr.{UExpr}
use Rattle.shim_local.specs.Process.{StopView, AtFinish, AtNext, AtPut, AtQuiet, AtThrow}
use Rattle.shim_process.specs.Ends.{gone, went}
use Rattle.shim_process.specs.Locations.{Location}
use Rattle.shim_process.specs.LocalState.{LocalState, TrappedAt, env_of, location_of, trapped}
use Rattle.shim_process.specs.StatementViews.{StatementView, label_of, statement_view}
use Rattle.shim_process.specs.Steps.{half, line_of, stored_in, value_or}
use Rattle.shim_process.specs.Stops.{at_fork, at_next, at_put, put_value, receive, stmt_put, stmt_receive, stmt_stop, stmt_thrown, stop, stop_or, thrown_value, what_put, what_receive, what_stop, what_thrown}
use Rattle.shim_process.specs.Todo.{Item, Do, On, follow_what, followed, next_stmt}
use Rattle.shim_process.specs.Values.{Value, value}
use Rattle.shim_code.specs.declared.instr.MarkKind.TheVariants as kind
use Rattle.shim_code.specs.declared.machine_instr.MachineInstr.{MachineInstr}
use Rattle.shim_code.specs.declared.machine_instr.MachineInstr.TheVariants.{Next, Put, Throw}
use Rattle.shim_code.specs.MachineCode.{machine_expr, machine_expr_or}
use Rattle.shim_machine.specs.Machine.{At, CodedUnit, Codes, ReturnPlace, Traps, fetch, machine, between_steps}
use Rattle.shim_machine.specs.Correspondence.{AtHalf, Handles, HasAt, HasHalves, IsPlaceOf, IsRestOf, Returns, IsCodeOf, Corresponds, at_do, at_end, at_half, half_what, mark, point_what}
use Rattle.shim_machine.specs.CodeRuns.{Evaluates, machine_at}
use Rattle.shim_machine.specs.Simulation.{AreBounded, ComesToMark, DoesPut, DoesThrow, MeetsAt, room}
use Rattle.shim_machine.proofs.Exprs.{has_back, has_front, or_runs, runs, step}
use Rattle.shim_machine.proofs.Resuming.{resumes, some_room, within_code}
use Rattle.shim_machine.proofs.Steps.{renumber}
use Rattle.shim_machine.proofs.RestOfBody.{rest_followed}

-- what a process that isn't trapped stands at
untrapped_put : (t : Option TrappedAt) (o : StopView) → stop_or t o ≡ AtPut → o ≡ AtPut
untrapped_put None o e = e
untrapped_put (Some t) o e = absurd (cc)

untrapped_next : (t : Option TrappedAt) (o : StopView) (c : NamedChannel) → stop_or t o ≡ AtNext c → o ≡ AtNext c
untrapped_next None o c e = e
untrapped_next (Some t) o c e = absurd (cc)

finish_put : AtFinish ≡ AtPut → ⊥
finish_put e = cc

quiet_put : AtQuiet ≡ AtPut → ⊥
quiet_put e = cc

next_put : (o : Option Location) → at_next o ≡ AtPut → ⊥
next_put None e = cc
next_put (Some l) e = cc

fork_put : (bs : List UBranch) → at_fork bs ≡ AtPut → ⊥
fork_put [] e = cc
fork_put (b ∷ bs) e = cc

finish_next : (c : NamedChannel) → AtFinish ≡ AtNext c → ⊥
finish_next c e = cc

quiet_next : (c : NamedChannel) → AtQuiet ≡ AtNext c → ⊥
quiet_next c e = cc

put_next : (b : Bool) (c : NamedChannel) → at_put b ≡ AtNext c → ⊥
put_next true c e = cc
put_next false c e = cc

fork_next : (bs : List UBranch) (c : NamedChannel) → at_fork bs ≡ AtNext c → ⊥
fork_next [] c e = cc
fork_next (b ∷ bs) c e = cc

throw_put : (s : StatementView) (y : ℕ) (a : Option UExpr) → what_stop (UWhat-F.Throw y a) s ≡ AtPut → ⊥
throw_put s y a e = cc

throw_next : (s : StatementView) (y : ℕ) (a : Option UExpr) (c : NamedChannel) → what_stop (UWhat-F.Throw y a) s ≡ AtNext c → ⊥
throw_next s y a c e = cc

untrapped_throw : (t : Option TrappedAt) (o : StopView) (z : ℕ) → stop_or t o ≡ AtThrow z → o ≡ AtThrow z
untrapped_throw None o z e = e
untrapped_throw (Some t) o z e = absurd (cc)

same_label : (a z : ℕ) → AtThrow a ≡ AtThrow z → a ≡ z
same_label a z e = cc

finish_throw : (z : ℕ) → AtFinish ≡ AtThrow z → ⊥
finish_throw z e = cc

quiet_throw : (z : ℕ) → AtQuiet ≡ AtThrow z → ⊥
quiet_throw z e = cc

put_throw : (b : Bool) (z : ℕ) → at_put b ≡ AtThrow z → ⊥
put_throw true z e = cc
put_throw false z e = cc

next_throw : (o : Option Location) (z : ℕ) → at_next o ≡ AtThrow z → ⊥
next_throw None z e = cc
next_throw (Some l) z e = cc

fork_throw : (bs : List UBranch) (z : ℕ) → at_fork bs ≡ AtThrow z → ⊥
fork_throw [] z e = cc
fork_throw (b ∷ bs) z e = cc

module _ (codes : Codes) (most : ℕ) (short : AreBounded codes most) (n : ℕ) (s : UStmt) (k : List Item) (l : LocalState) (back : List ReturnPlace) (hs : List ℕ) (r : Returns codes back l.callers) (hd : Handles (codes l.frame.unit) hs l.frame.places) (same : l.frame.todo ≡ Do n s ∷ k)
    (is_rest : IsRestOf (codes l.frame.unit).body (Do n s ∷ k)) where
  abbrev u : CodedUnit
  u = codes l.frame.unit

  abbrev bound : ℕ
  bound = room most (length l.callers)

  near : (pc : ℕ) (i : MachineInstr) → fetch u pc ≡ Some i → pc < most
  near pc i h = let a = within_code u.code pc i h in let b = short l.frame.unit in omega (arith, a, b)

  -- on with what follows
  goes_on : (x : UWhat-F UWhat UStmt) (line pc y : ℕ) (v : ℤ) → out-UWhat s.what ≡ x → follow_what x On n s k ≡ k → IsCodeOf u pc k → ComesToMark codes bound (machine pc hs back line (stored_in y v l)) (gone On (stored_in y v l))
  unfolding gone went
  goes_on x line pc y v ex f st =
      let on : k ≡ followed On l.frame.todo = sym (ap (followed On) same ∙ ap (λ z. follow_what z On n s k) ex ∙ f) in
      let t : IsRestOf u.body (followed On l.frame.todo) = subst (λ z. IsRestOf u.body (followed On z)) (sym same) (rest_followed u.body On (Do n s ∷ k) is_rest) in
      resumes codes most short line l.callers back hs l.frame (stored_in y v l) r pc (followed On l.frame.todo) l.frame.places t hd (subst (IsCodeOf u pc) on st)

  goes_plain : (x : UWhat-F UWhat UStmt) (line pc : ℕ) → out-UWhat s.what ≡ x → follow_what x On n s k ≡ k → IsCodeOf u pc k → ComesToMark codes bound (machine pc hs back line l) (gone On l)
  unfolding gone went
  goes_plain x line pc ex f st =
      let on : k ≡ followed On l.frame.todo = sym (ap (followed On) same ∙ ap (λ z. follow_what z On n s k) ex ∙ f) in
      let t : IsRestOf u.body (followed On l.frame.todo) = subst (λ z. IsRestOf u.body (followed On z)) (sym same) (rest_followed u.body On (Do n s ∷ k) is_rest) in
      resumes codes most short line l.callers back hs l.frame l r pc (followed On l.frame.todo) l.frame.places t hd (subst (IsCodeOf u pc) on st)

  put_case : (o : ℕ) (e : UExpr) (pc stop : ℕ) → (let x : UWhat-F UWhat UStmt = UWhat-F.Put o e in out-UWhat s.what ≡ x → HasAt u n pc (point_what u.units x s.line pc) → stop ≡ pc + length (point_what u.units x s.line pc) → IsCodeOf u stop k
      → DoesPut codes bound (machine (pc + 1) hs back s.line l) (value e (env_of l.locations l.frame.slots)) l)
  put_case o e pc stop ex has ends rest =
      let c = machine_expr e (pc + 1) in
      from (value e (env_of l.locations l.frame.slots)) (has_back u (n + 1) (pc + 1) c (Put o ∷ []) has.1).0 (runs codes e (machine (pc + 1) hs back s.line l) (n + 1) (has_front u (n + 1) (pc + 1) c (Put o ∷ []) has.1))
    where
      pc1 : ℕ
      pc1 = pc + 1 + length (machine_expr e (pc + 1))

      from : (v : Value) → fetch u pc1 ≡ Some (Put o) → Evaluates codes (machine (pc + 1) hs back s.line l) pc1 v → DoesPut codes bound (machine (pc + 1) hs back s.line l) v l
      from (Ok v) h g =
          let m = machine (pc + 1) hs back s.line l in
          let m1 = machine_at m pc1 (v ∷ []) in
          let a = g.by 1 in
          let lt = near pc1 (Put o) h in
          let some = some_room codes most short s.line l.callers in
          let e1 : stop ≡ pc1 + 1 = omega (arith, ends, length-append (machine_expr e (pc + 1)) (Put o ∷ [])) in
          record {
            pc = pc1 + 1;
            count = a.0;
            within = omega (arith, a.1, lt, some);
            puts = a.2 ∙ step codes m1 (Put o) h 0;
            goes_on = goes_plain (UWhat-F.Put o e) s.line (pc1 + 1) ex refl (subst (λ p. IsCodeOf u p k) e1 rest);
          }
      from (Err t) h g =
          let w = g.within in
          let lt = near pc1 (Put o) h in
          let some = some_room codes most short s.line l.callers in
          record { count = g.count; within = omega (arith, w, lt, some); traps = g.trapped ∙ ap (λ i. Traps (trapped t i l)) (ap line_of (sym same)) }

  throw_case : (y : ℕ) (e : Option UExpr) (z pc stop : ℕ) → label_of (statement_view l) y ≡ z → (let x : UWhat-F UWhat UStmt = UWhat-F.Throw y e in HasAt u n pc (point_what u.units x s.line pc)
      → DoesThrow codes bound (machine (pc + 1) hs back s.line l) z (value_or (pos 0) e (env_of l.locations l.frame.slots)) l)
  throw_case y e z pc stop label has =
      let c = machine_expr_or (pos 0) e (pc + 1) in
      from (value_or (pos 0) e (env_of l.locations l.frame.slots)) (has_back u (n + 1) (pc + 1) c (Throw y ∷ []) has.1).0 (or_runs codes (pos 0) e (machine (pc + 1) hs back s.line l) (n + 1) (has_front u (n + 1) (pc + 1) c (Throw y ∷ []) has.1))
    where
      pc1 : ℕ
      pc1 = pc + 1 + length (machine_expr_or (pos 0) e (pc + 1))

      from : (v : Value) → fetch u pc1 ≡ Some (Throw y) → Evaluates codes (machine (pc + 1) hs back s.line l) pc1 v → DoesThrow codes bound (machine (pc + 1) hs back s.line l) z v l
      from (Ok v) h g =
          let m1 = machine_at (machine (pc + 1) hs back s.line l) pc1 (v ∷ []) in
          let a = g.by 1 in
          let lt = near pc1 (Throw y) h in
          let some = some_room codes most short s.line l.callers in
          record { exception = y; is_labelled = label; count = a.0; within = omega (arith, a.1, lt, some); throws = a.2 ∙ step codes m1 (Throw y) h 0 }
      from (Err t) h g =
          let w = g.within in
          let lt = near pc1 (Throw y) h in
          let some = some_room codes most short s.line l.callers in
          record { count = g.count; within = omega (arith, w, lt, some); traps = g.trapped ∙ ap (λ i. Traps (trapped t i l)) (ap line_of (sym same)) }

  -- what the machine does at a statement that stands at a throw
  throws_kind : (x : UWhat-F UWhat UStmt) (z pc stop : ℕ) → l.frame.halfway ≡ false → what_stop x (statement_view l) ≡ AtThrow z → HasAt u n pc (point_what u.units x s.line pc)
      → DoesThrow codes bound (machine (pc + 1) hs back s.line l) z (what_thrown x (statement_view l)) l
  throws_kind (UWhat-F.Throw y e) z pc stop eh at has = throw_case y e z pc stop (same_label _ z at) has
  throws_kind (UWhat-F.Put o e) z pc stop eh at has = absurd (put_throw l.holds_output z at)
  throws_kind (UWhat-F.Next y) z pc stop eh at has = absurd (next_throw (location_of l.locations l.frame.slots y) z at)
  throws_kind (UWhat-F.NextAssign y e) z pc stop eh at has = absurd (quiet_throw z (sym (ap (λ b. if b then at_next (location_of l.locations l.frame.slots y) else AtQuiet) eh) ∙ at))
  throws_kind (UWhat-F.AssignNext y w) z pc stop eh at has = absurd (next_throw (location_of l.locations l.frame.slots w) z (sym (ap (λ b. if b then AtQuiet else at_next (location_of l.locations l.frame.slots w)) eh) ∙ at))
  throws_kind (UWhat-F.Par bs) z pc stop eh at has = absurd (fork_throw bs z at)
  throws_kind (UWhat-F.Declare t y e) z pc stop eh at has = absurd (quiet_throw z at)
  throws_kind (UWhat-F.Assign y e) z pc stop eh at has = absurd (quiet_throw z at)
  throws_kind (UWhat-F.Get y i) z pc stop eh at has = absurd (quiet_throw z at)
  throws_kind (UWhat-F.If e a b) z pc stop eh at has = absurd (quiet_throw z at)
  throws_kind (UWhat-F.While e a) z pc stop eh at has = absurd (quiet_throw z at)
  throws_kind (UWhat-F.For f e st b) z pc stop eh at has = absurd (quiet_throw z at)
  throws_kind (UWhat-F.Block a) z pc stop eh at has = absurd (quiet_throw z at)
  throws_kind (UWhat-F.Call c) z pc stop eh at has = absurd (quiet_throw z at)
  throws_kind (UWhat-F.Try a y w b) z pc stop eh at has = absurd (quiet_throw z at)

  no_half_throw : (x : UWhat-F UWhat UStmt) (z : ℕ) → l.frame.halfway ≡ true → HasHalves x → what_stop x (statement_view l) ≡ AtThrow z → ⊥
  no_half_throw (UWhat-F.NextAssign y e) z eh is at = next_throw (location_of l.locations l.frame.slots y) z (sym (ap (λ b. if b then at_next (location_of l.locations l.frame.slots y) else AtQuiet) eh) ∙ at)
  no_half_throw (UWhat-F.AssignNext y w) z eh is at = quiet_throw z (sym (ap (λ b. if b then AtQuiet else at_next (location_of l.locations l.frame.slots w)) eh) ∙ at)
  no_half_throw (UWhat-F.Declare t y e) z eh is at = is
  no_half_throw (UWhat-F.Assign y e) z eh is at = is
  no_half_throw (UWhat-F.Next y) z eh is at = is
  no_half_throw (UWhat-F.Get y i) z eh is at = is
  no_half_throw (UWhat-F.Put o e) z eh is at = is
  no_half_throw (UWhat-F.If e a b) z eh is at = is
  no_half_throw (UWhat-F.While e a) z eh is at = is
  no_half_throw (UWhat-F.For f e st b) z eh is at = is
  no_half_throw (UWhat-F.Block a) z eh is at = is
  no_half_throw (UWhat-F.Call c) z eh is at = is
  no_half_throw (UWhat-F.Try a y w b) z eh is at = is
  no_half_throw (UWhat-F.Throw y e) z eh is at = is
  no_half_throw (UWhat-F.Par bs) z eh is at = is

  -- what the machine does at a statement that stands at a `put`
  puts_kind : (x : UWhat-F UWhat UStmt) (pc stop : ℕ) → l.frame.halfway ≡ false → what_stop x (statement_view l) ≡ AtPut → out-UWhat s.what ≡ x → HasAt u n pc (point_what u.units x s.line pc) → stop ≡ pc + length (point_what u.units x s.line pc) → IsCodeOf u stop k
      → DoesPut codes bound (machine (pc + 1) hs back s.line l) (what_put x (statement_view l)) l
  puts_kind (UWhat-F.Put o e) pc stop eh at ex has ends rest = put_case o e pc stop ex has ends rest
  puts_kind (UWhat-F.Next y) pc stop eh at ex has ends rest = absurd (next_put (location_of l.locations l.frame.slots y) at)
  puts_kind (UWhat-F.NextAssign y e) pc stop eh at ex has ends rest = absurd (quiet_put (sym (ap (λ b. if b then at_next (location_of l.locations l.frame.slots y) else AtQuiet) eh) ∙ at))
  puts_kind (UWhat-F.AssignNext y z) pc stop eh at ex has ends rest = absurd (next_put (location_of l.locations l.frame.slots z) (sym (ap (λ b. if b then AtQuiet else at_next (location_of l.locations l.frame.slots z)) eh) ∙ at))
  puts_kind (UWhat-F.Throw y a) pc stop eh at ex has ends rest = absurd (throw_put (statement_view l) y a at)
  puts_kind (UWhat-F.Par bs) pc stop eh at ex has ends rest = absurd (fork_put bs at)
  puts_kind (UWhat-F.Declare t y e) pc stop eh at ex has ends rest = absurd (quiet_put at)
  puts_kind (UWhat-F.Assign y e) pc stop eh at ex has ends rest = absurd (quiet_put at)
  puts_kind (UWhat-F.Get y i) pc stop eh at ex has ends rest = absurd (quiet_put at)
  puts_kind (UWhat-F.If e a b) pc stop eh at ex has ends rest = absurd (quiet_put at)
  puts_kind (UWhat-F.While e a) pc stop eh at ex has ends rest = absurd (quiet_put at)
  puts_kind (UWhat-F.For f e st b) pc stop eh at ex has ends rest = absurd (quiet_put at)
  puts_kind (UWhat-F.Block a) pc stop eh at ex has ends rest = absurd (quiet_put at)
  puts_kind (UWhat-F.Call c) pc stop eh at ex has ends rest = absurd (quiet_put at)
  puts_kind (UWhat-F.Try a y z b) pc stop eh at ex has ends rest = absurd (quiet_put at)

  no_half_put : (x : UWhat-F UWhat UStmt) → l.frame.halfway ≡ true → HasHalves x → what_stop x (statement_view l) ≡ AtPut → ⊥
  no_half_put (UWhat-F.NextAssign y e) eh is at = next_put (location_of l.locations l.frame.slots y) (sym (ap (λ b. if b then at_next (location_of l.locations l.frame.slots y) else AtQuiet) eh) ∙ at)
  no_half_put (UWhat-F.AssignNext y z) eh is at = quiet_put (sym (ap (λ b. if b then AtQuiet else at_next (location_of l.locations l.frame.slots z)) eh) ∙ at)
  no_half_put (UWhat-F.Declare t y e) eh is at = is
  no_half_put (UWhat-F.Assign y e) eh is at = is
  no_half_put (UWhat-F.Next y) eh is at = is
  no_half_put (UWhat-F.Get y i) eh is at = is
  no_half_put (UWhat-F.Put o e) eh is at = is
  no_half_put (UWhat-F.If e a b) eh is at = is
  no_half_put (UWhat-F.While e a) eh is at = is
  no_half_put (UWhat-F.For f e st b) eh is at = is
  no_half_put (UWhat-F.Block a) eh is at = is
  no_half_put (UWhat-F.Call c) eh is at = is
  no_half_put (UWhat-F.Try a y z b) eh is at = is
  no_half_put (UWhat-F.Throw y a) eh is at = is
  no_half_put (UWhat-F.Par bs) eh is at = is

  abbrev Meets : UWhat-F UWhat UStmt → ℕ → Type 0
  Meets x pc = (slot : ℕ) × (fetch u (pc + 1) ≡ Some (Next slot)) × ((line : ℕ) (v : ℤ) → ComesToMark codes bound (machine (pc + 1 + 1) hs back line (stored_in slot v l)) (what_receive x v l))

  -- the rendezvous of a statement that assigns after it
  meets_first : (y z pc stop : ℕ) → (let x : UWhat-F UWhat UStmt = UWhat-F.AssignNext y z in out-UWhat s.what ≡ x → HasAt u n pc (point_what u.units x s.line pc) → stop ≡ pc + length (point_what u.units x s.line pc) → IsCodeOf u stop k
      → (line : ℕ) (v : ℤ) → ComesToMark codes bound (machine (pc + 1 + 1) hs back line (stored_in z v l)) (record (stored_in z v l) { frame = half l.frame }))
  meets_first y z pc stop ex has ends rest line v =
      let x : UWhat-F UWhat UStmt = UWhat-F.AssignNext y z in
      let at = pc + 1 + 1 in
      let l' = stored_in z v l in
      let m = machine at hs back line l' in
      let e : n + 1 + 0 - 1 ≡ n = omega arith in
      let z0 : n + 1 + 0 ≡ n + 1 = omega arith in
      let there = renumber u _ (n + 1) at (half_what x s.line at) z0 has.1.1 in
      let hm : fetch u at ≡ Some (mark kind.Quiet s.line n true) = has.1.1.0 ∙ ap (λ i. Some (mark kind.Quiet s.line i true)) e in
      let lt = near at (mark kind.Quiet s.line n true) hm in
      let some = some_room codes most short line l.callers in
      let stops : stop ≡ at + 3 = omega (arith, ends) in
      let second_half : AtHalf u at (Do n s ∷ k) =
      subst (λ z. HasHalves z → (let c = half_what z s.line at in HasAt u (n + 1) at c × (stop ≡ at + length c)) → AtHalf u at (Do n s ∷ k)) ex (λ i h. at_half at n stop s k i h rest) tt (there, stops) in
      let tail = is_rest ∙ sym same in
      record {
        pc = at;
        handlers = hs;
        back = back;
        count = 1;
        within = omega (arith, lt, some);
        comes = step codes m (mark kind.Quiet s.line n true) hm 0 ∙ ap (λ t. At (between_steps at hs back (record l' { frame = record l.frame { todo = t; halfway = true } }))) tail;
        corresponds = record { is_rest = subst (IsRestOf u.body) (sym same) is_rest; here = subst (AtHalf u at) (sym same) second_half; handles = hd; returns = r };
      }

  meets_kind : (x : UWhat-F UWhat UStmt) (pc stop : ℕ) (c : NamedChannel) → l.frame.halfway ≡ false → what_stop x (statement_view l) ≡ AtNext c → out-UWhat s.what ≡ x → HasAt u n pc (point_what u.units x s.line pc) → stop ≡ pc + length (point_what u.units x s.line pc) → IsCodeOf u stop k → Meets x pc
  meets_kind (UWhat-F.Next y) pc stop c eh at ex has ends rest = let e : stop ≡ pc + 1 + 1 = omega (arith, ends) in (y, has.1.0, λ line v. goes_on (UWhat-F.Next y) line (pc + 1 + 1) y v ex refl (subst (λ p. IsCodeOf u p k) e rest))
  meets_kind (UWhat-F.AssignNext y z) pc stop c eh at ex has ends rest = (z, has.1.0, meets_first y z pc stop ex has ends rest)
  meets_kind (UWhat-F.NextAssign y e) pc stop c eh at ex has ends rest = absurd (quiet_next c (sym (ap (λ b. if b then at_next (location_of l.locations l.frame.slots y) else AtQuiet) eh) ∙ at))
  meets_kind (UWhat-F.Put o e) pc stop c eh at ex has ends rest = absurd (put_next l.holds_output c at)
  meets_kind (UWhat-F.Throw y a) pc stop c eh at ex has ends rest = absurd (throw_next (statement_view l) y a c at)
  meets_kind (UWhat-F.Par bs) pc stop c eh at ex has ends rest = absurd (fork_next bs c at)
  meets_kind (UWhat-F.Declare t y e) pc stop c eh at ex has ends rest = absurd (quiet_next c at)
  meets_kind (UWhat-F.Assign y e) pc stop c eh at ex has ends rest = absurd (quiet_next c at)
  meets_kind (UWhat-F.Get y i) pc stop c eh at ex has ends rest = absurd (quiet_next c at)
  meets_kind (UWhat-F.If e a b) pc stop c eh at ex has ends rest = absurd (quiet_next c at)
  meets_kind (UWhat-F.While e a) pc stop c eh at ex has ends rest = absurd (quiet_next c at)
  meets_kind (UWhat-F.For f e st b) pc stop c eh at ex has ends rest = absurd (quiet_next c at)
  meets_kind (UWhat-F.Block a) pc stop c eh at ex has ends rest = absurd (quiet_next c at)
  meets_kind (UWhat-F.Call f) pc stop c eh at ex has ends rest = absurd (quiet_next c at)
  meets_kind (UWhat-F.Try a y z b) pc stop c eh at ex has ends rest = absurd (quiet_next c at)

  meets_half : (x : UWhat-F UWhat UStmt) (pc stop : ℕ) (c : NamedChannel) → l.frame.halfway ≡ true → HasHalves x → what_stop x (statement_view l) ≡ AtNext c → out-UWhat s.what ≡ x → HasAt u (n + 1) pc (half_what x s.line pc) → stop ≡ pc + length (half_what x s.line pc) → IsCodeOf u stop k → Meets x pc
  meets_half (UWhat-F.NextAssign y e) pc stop c eh is at ex has ends rest = let z : stop ≡ pc + 1 + 1 = omega (arith, ends) in (y, has.1.0, λ line v. goes_on (UWhat-F.NextAssign y e) line (pc + 1 + 1) y v ex refl (subst (λ p. IsCodeOf u p k) z rest))
  meets_half (UWhat-F.AssignNext y z) pc stop c eh is at ex has ends rest = absurd (quiet_next c (sym (ap (λ b. if b then AtQuiet else at_next (location_of l.locations l.frame.slots z)) eh) ∙ at))
  meets_half (UWhat-F.Declare t y e) pc stop c eh is at ex has ends rest = absurd is
  meets_half (UWhat-F.Assign y e) pc stop c eh is at ex has ends rest = absurd is
  meets_half (UWhat-F.Next y) pc stop c eh is at ex has ends rest = absurd is
  meets_half (UWhat-F.Get y i) pc stop c eh is at ex has ends rest = absurd is
  meets_half (UWhat-F.Put o e) pc stop c eh is at ex has ends rest = absurd is
  meets_half (UWhat-F.If e a b) pc stop c eh is at ex has ends rest = absurd is
  meets_half (UWhat-F.While e a) pc stop c eh is at ex has ends rest = absurd is
  meets_half (UWhat-F.For f e st b) pc stop c eh is at ex has ends rest = absurd is
  meets_half (UWhat-F.Block a) pc stop c eh is at ex has ends rest = absurd is
  meets_half (UWhat-F.Call f) pc stop c eh is at ex has ends rest = absurd is
  meets_half (UWhat-F.Try a y z b) pc stop c eh is at ex has ends rest = absurd is
  meets_half (UWhat-F.Throw y a) pc stop c eh is at ex has ends rest = absurd is
  meets_half (UWhat-F.Par bs) pc stop c eh is at ex has ends rest = absurd is

puts_at : (codes : Codes) (most : ℕ) → AreBounded codes most → (l : LocalState) (pc : ℕ) (back : List ReturnPlace) (hs : List ℕ) (h : Bool) (todo : List Item) → l.frame.todo ≡ todo → l.frame.halfway ≡ h → IsRestOf (codes l.frame.unit).body todo → IsPlaceOf (codes l.frame.unit) pc todo h
    → Handles (codes l.frame.unit) hs l.frame.places → Returns codes back l.callers → stmt_stop (next_stmt todo) (statement_view l) ≡ AtPut → DoesPut codes (room most (length l.callers)) (machine (pc + 1) hs back (line_of todo) l) (stmt_put (next_stmt todo) (statement_view l)) l
puts_at codes most short l _ back hs false _ e eh is_rest (at_end pc n h) hd r at = absurd (finish_put at)
puts_at codes most short l _ back hs false _ e eh is_rest (at_do pc n stop s k has rest) hd r at = puts_kind codes most short n s k l back hs r hd e is_rest (out-UWhat s.what) pc stop eh at refl has.all has.ends rest
puts_at codes most short l _ back hs true _ e eh is_rest (at_half pc n stop s k ih has rest) hd r at = absurd (no_half_put codes most short n s k l back hs r hd e is_rest (out-UWhat s.what) eh ih at)

pub does_put : (codes : Codes) (most : ℕ) (l : LocalState) (pc : ℕ) (handlers : List ℕ) (back : List ReturnPlace) → AreBounded codes most → Corresponds codes pc handlers back l → stop l ≡ AtPut → DoesPut codes (room most (length l.callers)) (machine (pc + 1) handlers back (line_of l.frame.todo) l) (put_value l) l
unfolding stop
does_put codes most l pc handlers back short st at = puts_at codes most short l pc back handlers l.frame.halfway l.frame.todo refl refl st.is_rest st.here st.handles st.returns (untrapped_put l.trap _ at)

throws_at : (codes : Codes) (most : ℕ) → AreBounded codes most → (l : LocalState) (pc : ℕ) (back : List ReturnPlace) (hs : List ℕ) (h : Bool) (todo : List Item) (z : ℕ) → l.frame.todo ≡ todo → l.frame.halfway ≡ h → IsRestOf (codes l.frame.unit).body todo → IsPlaceOf (codes l.frame.unit) pc todo h
    → Handles (codes l.frame.unit) hs l.frame.places → Returns codes back l.callers → stmt_stop (next_stmt todo) (statement_view l) ≡ AtThrow z → DoesThrow codes (room most (length l.callers)) (machine (pc + 1) hs back (line_of todo) l) z (stmt_thrown (next_stmt todo) (statement_view l)) l
throws_at codes most short l _ back hs false _ z e eh is_rest (at_end pc n h) hd r at = absurd (finish_throw z at)
throws_at codes most short l _ back hs false _ z e eh is_rest (at_do pc n stop s k has rest) hd r at = throws_kind codes most short n s k l back hs r hd e is_rest (out-UWhat s.what) z pc stop eh at has.all
throws_at codes most short l _ back hs true _ z e eh is_rest (at_half pc n stop s k ih has rest) hd r at = absurd (no_half_throw codes most short n s k l back hs r hd e is_rest (out-UWhat s.what) z eh ih at)

pub does_throw : (codes : Codes) (most : ℕ) (l : LocalState) (pc : ℕ) (handlers : List ℕ) (back : List ReturnPlace) (z : ℕ) → AreBounded codes most → Corresponds codes pc handlers back l → stop l ≡ AtThrow z
    → DoesThrow codes (room most (length l.callers)) (machine (pc + 1) handlers back (line_of l.frame.todo) l) z (thrown_value l) l
unfolding stop
does_throw codes most l pc handlers back z short st at = throws_at codes most short l pc back handlers l.frame.halfway l.frame.todo z refl refl st.is_rest st.here st.handles st.returns (untrapped_throw l.trap _ z at)

meets_at : (codes : Codes) (most : ℕ) → AreBounded codes most → (l : LocalState) (pc : ℕ) (back : List ReturnPlace) (hs : List ℕ) (h : Bool) (todo : List Item) (c : NamedChannel) → l.frame.todo ≡ todo → l.frame.halfway ≡ h → IsRestOf (codes l.frame.unit).body todo → IsPlaceOf (codes l.frame.unit) pc todo h
    → Handles (codes l.frame.unit) hs l.frame.places → Returns codes back l.callers → stmt_stop (next_stmt todo) (statement_view l) ≡ AtNext c
    → (slot : ℕ) × (fetch (codes l.frame.unit) (pc + 1) ≡ Some (Next slot)) × ((line : ℕ) (v : ℤ) → ComesToMark codes (room most (length l.callers)) (machine (pc + 1 + 1) hs back line (stored_in slot v l)) (stmt_receive (next_stmt todo) v l))
meets_at codes most short l _ back hs false _ c e eh is_rest (at_end pc n h) hd r at = absurd (finish_next c at)
meets_at codes most short l _ back hs false _ c e eh is_rest (at_do pc n stop s k has rest) hd r at = meets_kind codes most short n s k l back hs r hd e is_rest (out-UWhat s.what) pc stop c eh at refl has.all has.ends rest
meets_at codes most short l _ back hs true _ c e eh is_rest (at_half pc n stop s k ih has rest) hd r at = meets_half codes most short n s k l back hs r hd e is_rest (out-UWhat s.what) pc stop c eh ih at refl has.0 has.1 rest

pub does_meet : (codes : Codes) (most : ℕ) (l : LocalState) (pc : ℕ) (handlers : List ℕ) (back : List ReturnPlace) (c : NamedChannel) → AreBounded codes most → Corresponds codes pc handlers back l → stop l ≡ AtNext c → MeetsAt codes (room most (length l.callers)) pc handlers back l
unfolding stop receive
does_meet codes most l pc handlers back c short st at =
    let m = meets_at codes most short l pc back handlers l.frame.halfway l.frame.todo c refl refl st.is_rest st.here st.handles st.returns (untrapped_next l.trap _ c at) in
    record { slot = m.0; named = m.1; goes_on = m.2 }
