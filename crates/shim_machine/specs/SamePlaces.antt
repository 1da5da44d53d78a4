-- What is known of the places of a process in its code by its state alone.
use Rattle.std.specs.Prelude.{◌≡◌, ◌≤◌, ℕ, suc, ◌+◌, List, [], ◌∷◌, Some}
use Rattle.shim_process.specs.LocalState.{Frame, LocalState}
use Rattle.shim_process.specs.Steps.{Action, Trapped, Wait, done}
use Rattle.shim_code.specs.declared.machine_instr.Mark.{Mark as MarkOf}
use Rattle.shim_code.specs.declared.machine_instr.MachineInstr.TheVariants.{Mark, Jump, Untry, End}
use Rattle.shim_machine.specs.Machine.{At, CodedUnit, Codes, Machine, ReturnPlace, fetch, between_steps, run_code}
use Rattle.shim_machine.specs.Simulation.{ComesToTrap}

-- A place leads to that of a mark, or of the unit's end, past jumps and past the ends of so many `try` blocks.
pub data JumpsTo (u : CodedUnit) : ℕ → ℕ → ℕ → Type 0 where
  is_mark : (pc : ℕ) (m : MarkOf) → fetch u pc ≡ Some (Mark m) → JumpsTo u pc 0 pc
  is_end : (pc n : ℕ) → fetch u pc ≡ Some (End n) → JumpsTo u pc 0 pc
  past_jump : (pc t blocks to : ℕ) → fetch u pc ≡ Some (Jump t) → JumpsTo u t blocks to → JumpsTo u pc blocks to
  past_block : (pc blocks to : ℕ) → fetch u pc ≡ Some Untry → JumpsTo u (pc + 1) blocks to → JumpsTo u pc (suc blocks) to

-- both places lead to the same mark or end of the unit, past equally many ends of `try` blocks
pub record LeadAlike (u : CodedUnit) (a b : ℕ) : Type 0 where
  pub blocks : ℕ
  pub to : ℕ
  pub first : JumpsTo u a blocks to
  pub second : JumpsTo u b blocks to

-- each handler's places in the two lists lead to the same mark or end of the unit
abbrev pub AllLeadAlike : CodedUnit → List ℕ → List ℕ → Type 0
AllLeadAlike u [] [] = Unit {0}
AllLeadAlike u (x ∷ xs) (y ∷ ys) = LeadAlike u x y × AllLeadAlike u xs ys
AllLeadAlike u _ _ = ⊥

-- The two return places of each caller lead to the same mark or end of its unit. So do the two places of each of the caller's handlers.
abbrev pub ReturnAlike : Codes → List Frame → List ReturnPlace → List ReturnPlace → Type 0
ReturnAlike codes [] [] [] = Unit {0}
ReturnAlike codes (f ∷ callers) (x ∷ xs) (y ∷ ys) = LeadAlike (codes f.unit) x.place y.place × (AllLeadAlike (codes f.unit) x.handlers y.handlers × ReturnAlike codes callers xs ys)
ReturnAlike codes _ _ _ = ⊥

-- The handlers and the callers of a process lead to the same marks by either places. The places themselves may differ, since a jump to a mark may stand in place of the mark.
pub record GoOnAlike (codes : Codes) (l : LocalState) (handlers : List ℕ) (back : List ReturnPlace) (handlers' : List ℕ) (back' : List ReturnPlace) : Type 0 where
  pub caught : AllLeadAlike (codes l.frame.unit) handlers handlers'
  pub returned : ReturnAlike codes l.callers back back'

-- The machine `m` runs to this very place, as this state. The handlers and callers that it has there lead to the same marks as the given ones.
pub record ComesToPlace (codes : Codes) (bound : ℕ) (m : Machine) (pc : ℕ) (handlers : List ℕ) (back : List ReturnPlace) (l : LocalState) : Type 0 where
  pub own_handlers : List ℕ
  pub own_back : List ReturnPlace
  pub count : ℕ
  pub within : count + m.pc ≤ bound
  pub comes : run_code codes count m ≡ At (between_steps pc own_handlers own_back l)
  pub alike : GoOnAlike codes l own_handlers own_back handlers back

-- what the definition says of a statement, the machine does, and comes to this place unless it traps; of `Wait` this claims nothing
abbrev pub DoesTo : Codes → ℕ → Machine → Action → ℕ → List ℕ → List ReturnPlace → LocalState → Type 0
DoesTo codes bound m Wait pc handlers back l = Unit {0}
DoesTo codes bound m (Trapped t) pc handlers back l = ComesToTrap codes bound m (done (Trapped t) l)
DoesTo codes bound m a pc handlers back l = ComesToPlace codes bound m pc handlers back (done a l)
