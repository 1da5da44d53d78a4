-- A stretch of code that has come to its end comes to the same with a larger bound.
use Rattle.std.proofs.Common.{◌≡◌, ℕ, ℤ, zero, suc, ◌≤◌, List, [], ◌∷◌, Option, Some, None, Ok, Err, true, false, refl, arith, if◌then◌else◌}
use Rattle.std.specs.Prelude.{Bool as Boolean, ◌||◌}
use Rattle.shim_base.specs.Operators.{applied, applied1, is_zero}
use Rattle.shim_units.specs.declared.unit.UStmt.{UStmt}
use Rattle.shim_process.specs.LocalState.{Frame, is_deep, is_full}
use Rattle.shim_process.specs.Values.{Value}
use Rattle.shim_code.specs.declared.machine_instr.MachineInstr.{MachineInstr}
use Rattle.shim_code.specs.declared.machine_instr.MachineInstr.TheVariants.{Mark, Num, Var, Un, Bin, Bool, Jump, JumpZ, Declare, Set, Get, Put, Next, Ref, Pass, Fresh, Call, Branch, Fork, Try, TryInto, Untry, Throw, End}
use Rattle.shim_machine.specs.Machine.{Codes, Go, Machine, StretchEnd, ReturnPlace, execute, fetch, leaves_unit, on_result, on_top, on_two, run_code, unit_of}
use Rattle.shim_machine.specs.Simulation.{HasHalted}

abbrev Same : StretchEnd → StretchEnd → Type 0
Same o o' = HasHalted o → o' ≡ o

top : (stack : List ℤ) (f f' : ℤ → List ℤ → StretchEnd) → ((x : ℤ) (rest : List ℤ) → Same (f x rest) (f' x rest)) → Same (on_top stack f) (on_top stack f')
top [] f f' h e = refl
top (x ∷ rest) f f' h e = h x rest e

two : (stack : List ℤ) (f f' : ℤ → ℤ → List ℤ → StretchEnd) → ((x y : ℤ) (rest : List ℤ) → Same (f x y rest) (f' x y rest)) → Same (on_two stack f) (on_two stack f')
two [] f f' h e = refl
two (y ∷ []) f f' h e = refl
two (y ∷ x ∷ rest) f f' h e = h x y rest e

result : (m : Machine) (v : Value) (f f' : ℤ → StretchEnd) → ((x : ℤ) → Same (f x) (f' x)) → Same (on_result m v f) (on_result m v f')
result m (Ok x) f f' h e = h x e
result m (Err t) f f' h e = refl

either : (b : Boolean) (x x' y y' : StretchEnd) → Same x x' → Same y y' → Same (if b then x else y) (if b then x' else y')
either true x x' y y' hx hy e = hx e
either false x x' y y' hx hy e = hy e

over : (back : List ReturnPlace) (callers : List Frame) (body : List UStmt) (i : MachineInstr) (go go' : Go) (m : Machine) → ((m : Machine) → Same (go m) (go' m)) → Same (leaves_unit back callers body i go m) (leaves_unit back callers body i go' m)
over back [] body i go go' m h e = refl
over [] (f ∷ callers) body i go go' m h e = refl
over (b ∷ back) (f ∷ callers) body i go go' m h e = h _ e

one : (body : List UStmt) (i : Option MachineInstr) (go go' : Go) (m : Machine) → ((m : Machine) → Same (go m) (go' m)) → Same (execute body i go m) (execute body i go' m)
one body None go go' m h e = refl
one body (Some (Mark k)) go go' m h e = refl
one body (Some (Num n)) go go' m h e = h _ e
one body (Some (Var x)) go go' m h e = h _ e
one body (Some (Un op)) go go' m h e = top m.stack _ _ (λ v rest. result m (applied1 op v) _ _ (λ w. h _)) e
one body (Some (Bin op)) go go' m h e = two m.stack _ _ (λ x y rest. result m (applied op x y) _ _ (λ w. h _)) e
one body (Some Bool) go go' m h e = top m.stack _ _ (λ v rest. h _) e
one body (Some (Jump t)) go go' m h e = h _ e
one body (Some (JumpZ t)) go go' m h e = top m.stack _ _ (λ v rest. either (is_zero v) _ _ _ _ (h _) (h _)) e
one body (Some (Declare t x)) go go' m h e = top m.stack _ _ (λ v rest. either (is_full m.state) _ _ _ _ (λ e. refl) (h _)) e
one body (Some (Set x)) go go' m h e = top m.stack _ _ (λ v rest. h _) e
one body (Some (Get i)) go go' m h e = h _ e
one body (Some (Put o)) go go' m h e = refl
one body (Some (Next x)) go go' m h e = refl
one body (Some (Ref x)) go go' m h e = h _ e
one body (Some (Pass x s)) go go' m h e = h _ e
one body (Some (Fresh s x)) go go' m h e = top m.stack _ _ (λ v rest. h _) e
one body (Some (Call c)) go go' m h e = either (is_deep m.state || is_full m.state) _ _ _ _ (λ e. refl) (h _) e
one body (Some (Branch c)) go go' m h e = h _ e
one body (Some (Fork n)) go go' m h e = refl
one body (Some (Try t x)) go go' m h e = either (is_full m.state) _ _ _ _ (λ e. refl) (h _) e
one body (Some (TryInto t x y)) go go' m h e = either (is_full m.state) _ _ _ _ (λ e. refl) (h _) e
one body (Some Untry) go go' m h e = h _ e
one body (Some (Throw x)) go go' m h e = top m.stack _ _ (λ v rest e. refl) e
one body (Some (End n)) go go' m h e = over m.back m.state.callers body (End n) go go' m h e

pub longer : (codes : Codes) (n more : ℕ) (m : Machine) → n ≤ more → HasHalted (run_code codes n m) → run_code codes more m ≡ run_code codes n m
longer codes zero more m le e = absurd e
longer codes (suc n) zero m le e = absurd (omega (arith, le))
longer codes (suc n) (suc more) m le e = one (unit_of codes m).body (fetch (unit_of codes m) m.pc) (run_code codes n) (run_code codes more) m (λ m. longer codes n more m (omega (arith, le))) e
