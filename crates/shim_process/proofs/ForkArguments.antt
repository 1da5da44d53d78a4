-- The arguments of a fork's branches go with what is written.
use Rattle.std.proofs.Common.{◌≡◌, ◌∙◌, ℕ, true, List, [], ◌∷◌, length, Ok, refl, sym, subst, eqb-true}
use Rattle.std.proofs.lemmas.Bool.{and_parts}
use Rattle.shim_units.specs.declared.form.Form.{Form}
use Rattle.shim_units.specs.declared.unit.Unit.{Unit as UnitOf}
use Rattle.shim_units.specs.declared.unit.UBranch.{UBranch}
use Rattle.shim_units.specs.declared.unit.UStmt.{UStmt}
use Rattle.shim_units.specs.declared.unit.UWhat.{UWhat, UWhat-F, out-UWhat}
use Rattle.shim_process.specs.Todo.{Item, Do, Leave}
use Rattle.shim_process.specs.LocalState.{LocalState, unit_at}
use Rattle.shim_process.specs.Arguments.{Argument, on_value, arguments}
use Rattle.shim_process.specs.Forks.{what_branches, item_branches, all_arguments}
use Rattle.shim_process.specs.OwnSlots.{has_arguments}
use Rattle.shim_process.specs.OwnSlots as own
use Rattle.shim_process.specs.FittingFrames.{ItemsFit, FrameFits, parameters_of, IsFitting}
use Rattle.shim_process.proofs.CallSlots.{given_many}
use Rattle.shim_process.proofs.ChildChannels.{Matches, they_match}
use Rattle.shim_process.proofs.FittingItems.{fits_out, fits_layer}
use Rattle.shim_process.proofs.FittingFrames.{inner_fits}
use Rattle.shim_process.proofs.ForkLending.{from_value, ok_same}

-- each branch has an argument for each parameter

what_suits : (program : Form) (u : UnitOf) (w : UWhat-F UWhat UStmt) → fits_layer program u w ≡ true → own.all_suit program (what_branches w) ≡ true
what_suits program u (UWhat-F.Par bs) h = h
what_suits program u _ h = refl

pub branches_suit : (program : Form) (u : UnitOf) (todo : List Item) → ItemsFit program u todo → own.all_suit program (item_branches todo) ≡ true
branches_suit program u [] h = refl
branches_suit program u (Leave ∷ k) h = refl
branches_suit program u (Do n s ∷ k) h = what_suits program u (out-UWhat s.what) (sym (fits_out program u s) ∙ h.0)

-- the arguments of a branch go with what is written, and there is one for each parameter
pub record BranchMatches (slots : List ℕ) (program : Form) (b : UBranch) (given : List Argument) : Type 0 where
  pub matches : Matches slots b.call.args given
  pub many : length given ≡ length (unit_at program b.call.unit).params
  pub written : length b.call.args ≡ length (unit_at program b.call.unit).params

-- those of all branches do
abbrev pub AllMatch : List ℕ → Form → List UBranch → List (List Argument) → Type 0
AllMatch slots program [] [] = Unit {0}
AllMatch slots program (b ∷ bs) (g ∷ gs) = BranchMatches slots program b g × AllMatch slots program bs gs
AllMatch _ _ _ _ = ⊥

pub all_match : (l : LocalState) (bs : List UBranch) (given : List (List Argument)) → own.all_suit l.program bs ≡ true → all_arguments l bs ≡ Ok given → AllMatch l.frame.slots l.program bs given
all_match l [] given h e = subst (AllMatch l.frame.slots l.program []) (ok_same [] given e) tt
all_match l (b ∷ bs) given h e =
    let w = from_value (λ one. on_value (λ others. Ok (one ∷ others)) (all_arguments l bs)) (arguments l.locations l.frame.slots (unit_at l.program b.call.unit).params b.call.args) given e in
    let o = from_value (λ others. Ok (w.0 ∷ others)) (all_arguments l bs) given w.2 in
    let s = and_parts (has_arguments l.program b.call) (own.all_suit l.program bs) h in
    let many : length b.call.args ≡ length (unit_at l.program b.call.unit).params = eqb-true (length b.call.args) (length (unit_at l.program b.call.unit).params) s.0 in
    subst (AllMatch l.frame.slots l.program (b ∷ bs)) (ok_same (w.0 ∷ o.0) given o.2) (
      record {
        matches = they_match l.locations l.frame.slots (unit_at l.program b.call.unit).params b.call.args w.0 w.1 many;
        many = given_many l.program l.locations l.frame.slots b.call w.0 s.0 w.1;
        written = many;
      },
      all_match l bs o.0 s.1 o.1,
    )

-- where a process stands at a fork and its frames fit
pub fork_matches : (l : LocalState) (given : List (List Argument)) → IsFitting l → all_arguments l (item_branches l.frame.todo) ≡ Ok given → AllMatch l.frame.slots l.program (item_branches l.frame.todo) given
fork_matches l given h e =
    let inner : FrameFits l.program (parameters_of l) l.frame = inner_fits l.program (parameters_of l) l.frame l.callers h.fit in
    all_match l (item_branches l.frame.todo) given (branches_suit l.program (unit_at l.program l.frame.unit) l.frame.todo inner.todo) e
