-- Of two machines that correspond to one state, each place leads where the other's does.
use Rattle.std.proofs.Common.{◌≡◌, ℕ, suc, ◌+◌, ◌-◌, false, true, List, [], ◌∷◌, length, Some, refl, sym, ap, ◌∙◌, subst, arith}
use Rattle.std.specs.Prelude.{Bool as TruthValue}
use Rattle.shim_units.specs.declared.form.Form.{Form}
use Rattle.shim_units.specs.declared.unit.UStmt.{UStmt}
use Rattle.shim_units.specs.declared.unit.UWhat.{UWhat, UWhat-F, out-UWhat}
use Rattle.shim_process.specs.Todo.{Item, Do, Leave}
use Rattle.shim_process.specs.LocalState.{ExceptionPlace, Frame, LocalState}
use Rattle.shim_process.specs.Steps.{Action, Trapped, Wait, done, line_of, next_action}
use Rattle.shim_code.specs.declared.instr.MarkKind.{MarkKind}
use Rattle.shim_code.specs.declared.instr.MarkKind.TheVariants as kind
use Rattle.shim_code.specs.declared.machine_instr.MachineInstr.TheVariants.{End}
use Rattle.shim_code.specs.MachineCode.{machine_unit}
use Rattle.shim_machine.specs.Machine.{At, CodedUnit, Codes, Machine, ReturnPlace, fetch, machine, between_steps}
use Rattle.shim_machine.specs.Correspondence.{AtHalf, AtStatement, Handles, HasAt, HasHalves, IsPlaceOf, Returns, IsCodeOf, Corresponds, at_do, at_end, at_half, half_what, mark, code_back, code_do, code_end, code_jump, code_leave}
use Rattle.shim_machine.specs.Simulation.{AreCodesOf, AreBounded, ComesToMark, Does, NextSuits, step_room}
use Rattle.shim_machine.specs.SamePlaces.{AllLeadAlike, ComesToPlace, DoesTo, GoOnAlike, LeadAlike, JumpsTo, ReturnAlike, is_end, is_mark, past_block, past_jump}
use Rattle.shim_machine.proofs.MarkPlaces.{end_once, mark_once}
use Rattle.shim_machine.proofs.OneStep.{one_step}

-- the mark at a place has this number and half; where nothing is to be done, the end stands there
record MarkAt (u : CodedUnit) (pc n : ℕ) (h : TruthValue) : Type 0 where
  pub kind : MarkKind
  pub line : ℕ
  pub is : fetch u pc ≡ Some (mark kind line n h)

abbrev MarkIs : CodedUnit → ℕ → List Item → TruthValue → Type 0
MarkIs u pc [] h = (n : ℕ) × (fetch u pc ≡ Some (End n))
MarkIs u pc (Do n s ∷ k) h = MarkAt u pc n h
MarkIs u pc (Leave ∷ k) h = ⊥

at_statement_mark : (u : CodedUnit) (pc : ℕ) (k : List Item) → AtStatement u pc k → MarkIs u pc k false
at_statement_mark u _ _ (at_end pc n h) = (n, h)
at_statement_mark u _ _ (at_do pc n stop s k has rest) = record { kind = has.kind; line = s.line; is = has.marked }

-- the second mark of a statement has the number of the first
half_is : (u : CodedUnit) (x : UWhat-F UWhat UStmt) (pc n line : ℕ) → HasHalves x → HasAt u (n + 1) pc (half_what x line pc) → MarkAt u pc n true
half_is u (UWhat-F.NextAssign x e) pc n line h has = let z : n + 1 - 1 ≡ n = omega arith in record { kind = kind.Next; line = line; is = has.0 ∙ ap (λ m. Some (mark kind.Next line m true)) z }
half_is u (UWhat-F.AssignNext x y) pc n line h has = let z : n + 1 - 1 ≡ n = omega arith in record { kind = kind.Quiet; line = line; is = has.0 ∙ ap (λ m. Some (mark kind.Quiet line m true)) z }
half_is u x pc n line h has = absurd h

at_half_mark : (u : CodedUnit) (pc : ℕ) (k : List Item) → AtHalf u pc k → MarkIs u pc k true
at_half_mark u _ _ (at_half pc n stop s k ih has rest) = half_is u (out-UWhat s.what) pc n s.line ih has.0

mark_here : (u : CodedUnit) (pc : ℕ) (k : List Item) (h : TruthValue) → IsPlaceOf u pc k h → MarkIs u pc k h
mark_here u pc k false = at_statement_mark u pc k
mark_here u pc k true = at_half_mark u pc k

-- what is to be done after ends of `try` blocks, and how many these are
abbrev behind_blocks : List Item → List Item
behind_blocks [] = []
behind_blocks (Leave ∷ k) = behind_blocks k
behind_blocks (Do n s ∷ k) = Do n s ∷ k

abbrev blocks_of : List Item → ℕ
blocks_of [] = 0
blocks_of (Leave ∷ k) = suc (blocks_of k)
blocks_of (Do n s ∷ k) = 0

-- where such a place leads
record Leading (u : CodedUnit) (pc : ℕ) (k : List Item) : Type 0 where
  pub to : ℕ
  pub leads : JumpsTo u pc (blocks_of k) to
  pub at : AtStatement u to (behind_blocks k)

leading : (u : CodedUnit) (pc : ℕ) (k : List Item) → IsCodeOf u pc k → Leading u pc k
leading u _ _ (code_end pc n h) = record { to = pc; leads = is_end pc n h; at = at_end pc n h }
leading u _ _ (code_do pc n stop s k has rest) = record { to = pc; leads = is_mark pc _ has.marked; at = at_do pc n stop s k has rest }
leading u _ _ (code_leave pc k h rest) = let l = leading u (pc + 1) k rest in record { to = l.to; leads = past_block pc (blocks_of k) l.to h l.leads; at = l.at }
leading u _ _ (code_jump pc t k h lt rest) = let l = leading u t k rest in record { to = l.to; leads = past_jump pc t (blocks_of k) l.to h l.leads; at = l.at }
leading u _ _ (code_back pc t n stop s k h has rest) = record { to = t; leads = past_jump pc t 0 t h (is_mark t _ has.marked); at = at_do t n stop s k has rest }

module _ (u : CodedUnit) (e : u.code ≡ machine_unit u.units u.body) where
  rest_once : (a b : ℕ) (k : List Item) (h : TruthValue) → MarkIs u a k h → MarkIs u b k h → a ≡ b
  rest_once a b [] h ha hb = end_once u e a b ha.0 hb.0 ha.1 hb.1
  rest_once a b (Do n s ∷ k) h ha hb = mark_once u e a b _ _ ha.is hb.is refl refl
  rest_once a b (Leave ∷ k) h ha hb = absurd ha

  here_once : (a b : ℕ) (k : List Item) (h : TruthValue) → IsPlaceOf u a k h → IsPlaceOf u b k h → a ≡ b
  here_once a b k h ha hb = rest_once a b k h (mark_here u a k h ha) (mark_here u b k h hb)

  lead_alike : (a b : ℕ) (k : List Item) → IsCodeOf u a k → IsCodeOf u b k → LeadAlike u a b
  lead_alike a b k ha hb =
      let la = leading u a k ha in
      let lb = leading u b k hb in
      let same : lb.to ≡ la.to = here_once lb.to la.to (behind_blocks k) false lb.at la.at in
      record { blocks = blocks_of k; to = la.to; first = la.leads; second = subst (JumpsTo u b (blocks_of k)) same lb.leads }

  handlers_alike : (xs ys : List ℕ) (places : List ExceptionPlace) → Handles u xs places → Handles u ys places → AllLeadAlike u xs ys
  handlers_alike [] [] [] ha hb = tt
  handlers_alike (x ∷ xs) (y ∷ ys) (p ∷ places) ha hb = (lead_alike x y _ ha.1.0 hb.1.0, handlers_alike xs ys places ha.1.1 hb.1.1)
  handlers_alike [] (y ∷ ys) [] ha hb = absurd hb
  handlers_alike (x ∷ xs) ys [] ha hb = absurd ha
  handlers_alike [] ys (p ∷ places) ha hb = absurd ha
  handlers_alike (x ∷ xs) [] (p ∷ places) ha hb = absurd hb

abbrev HasCodes : Codes → Type 0
HasCodes codes = (n : ℕ) → (codes n).code ≡ machine_unit (codes n).units (codes n).body

has_codes : (codes : Codes) (program : Form) → AreCodesOf codes program → HasCodes codes
has_codes codes program of n = subst (λ u. u.code ≡ machine_unit u.units u.body) (sym (of n)) refl

returns_alike : (codes : Codes) → HasCodes codes → (xs ys : List ReturnPlace) (callers : List Frame) → Returns codes xs callers → Returns codes ys callers → ReturnAlike codes callers xs ys
returns_alike codes e [] [] [] ha hb = tt
returns_alike codes e (x ∷ xs) (y ∷ ys) (f ∷ callers) ha hb =
    let u = codes f.unit in
    (lead_alike u (e f.unit) x.place y.place _ ha.0.behind hb.0.behind, (handlers_alike u (e f.unit) x.handlers y.handlers f.places ha.0.handles hb.0.handles, returns_alike codes e xs ys callers ha.1 hb.1))
returns_alike codes e [] (y ∷ ys) [] ha hb = absurd hb
returns_alike codes e (x ∷ xs) ys [] ha hb = absurd ha
returns_alike codes e [] ys (f ∷ callers) ha hb = absurd ha
returns_alike codes e (x ∷ xs) [] (f ∷ callers) ha hb = absurd hb

pub go_on_alike : (codes : Codes) (program : Form) (l : LocalState) (pc pc' : ℕ) (handlers handlers' : List ℕ) (back back' : List ReturnPlace) → AreCodesOf codes program → Corresponds codes pc handlers back l → Corresponds codes pc' handlers' back' l → (pc ≡ pc') × GoOnAlike codes l handlers back handlers' back'
go_on_alike codes program l pc pc' handlers handlers' back back' of a b =
    let has = has_codes codes program of in
    let u = codes l.frame.unit in
    let e = has l.frame.unit in (
      here_once u e pc pc' l.frame.todo l.frame.halfway a.here b.here,
      record { caught = handlers_alike u e handlers handlers' l.frame.places a.handles b.handles; returned = returns_alike codes has back back' l.callers a.returns b.returns },
    )

pub comes_to : (codes : Codes) (program : Form) (bound : ℕ) (m : Machine) (l : LocalState) (pc : ℕ) (handlers : List ℕ) (back : List ReturnPlace) → AreCodesOf codes program → ComesToMark codes bound m l → Corresponds codes pc handlers back l → ComesToPlace codes bound m pc handlers back l
comes_to codes program bound m l pc handlers back of c st =
    let same = go_on_alike codes program l c.pc pc c.handlers handlers c.back back of c.corresponds st in
    record { own_handlers = c.handlers; own_back = c.back; count = c.count; within = c.within; comes = c.comes ∙ ap (λ p. At (between_steps p c.handlers c.back l)) same.0; alike = same.1 }

does_to : (codes : Codes) (program : Form) (bound : ℕ) (m : Machine) (a : Action) (l : LocalState) (pc : ℕ) (handlers : List ℕ) (back : List ReturnPlace) → AreCodesOf codes program → Does codes bound m a l → Corresponds codes pc handlers back (done a l) → DoesTo codes bound m a pc handlers back l
does_to codes program bound m Wait l pc handlers back of d st = tt
does_to codes program bound m (Trapped t) l pc handlers back of d st = d
does_to codes program bound m a l pc handlers back of d st = comes_to codes program bound m (done a l) pc handlers back of d st

pub one_step_to : (codes : Codes) (most : ℕ) (l : LocalState) (pc pc' : ℕ) (handlers handlers' : List ℕ) (back back' : List ReturnPlace) → AreCodesOf codes l.program → AreBounded codes most → NextSuits l.frame.todo l → Corresponds codes pc handlers back l → Corresponds codes pc' handlers' back' (done (next_action l) l)
    → DoesTo codes (step_room most (length l.callers)) (machine (pc + 1) handlers back (line_of l.frame.todo) l) (next_action l) pc' handlers' back' l
one_step_to codes most l pc pc' handlers handlers' back back' of short suits st st' =
    let m = machine (pc + 1) handlers back (line_of l.frame.todo) l in
    does_to codes l.program (step_room most (length l.callers)) m (next_action l) l pc' handlers' back' of (one_step codes most l pc handlers back of short suits st) st'
