-- What is lifted out of a part throws and hands on what is in force, where the numbers of the part's exceptions stand between two others.
use Rattle.std.proofs.Common.{ℕ, ◌+◌, ◌<◌, ◌≤◌, ◌≡◌, ◌∙◌, ◌⊎◌, true, ◌&&◌, inl, inr, List, [], ◌++◌, length, eq-eqb, refl, sym, ap, arith}
use Rattle.std.proofs.lemmas.List.{length-map}
use Rattle.shim_scopes.specs.declared.tree.RCall.{RCall}
use Rattle.shim_scopes.specs.declared.tree.RFunction.{RFunction}
use Rattle.shim_units.specs.declared.form.Form.{Form}
use Rattle.shim_units.specs.declared.unit.Unit.{Unit as UnitOf}
use Rattle.shim_units.specs.declared.unit.UCall.{UCall}
use Rattle.shim_units.specs.declared.unit.UStmt.{UStmt}
use Rattle.shim_units.specs.declared.slot_map.SlotMap.{SlotMap}
use Rattle.shim_units.specs.Moving.{slot_index_of, slot_indices_of, moved_call}
use Rattle.shim_units.specs.Parts.{LiftContext, Part, Lifts, all_raises, all_tries}
use Rattle.shim_units.specs.Lifting.{lift_all, unlifted, on_tree, lift_two, is_among, branch_call, branch_captures, branch_slots, branch_exceptions, branch_inner, lift_branch}
use Rattle.shim_units.specs.Units.{upto}
use Rattle.shim_process.specs.LocalState.{unit_at}
use Rattle.shim_laws_binding.proofs.Lists.{Each, each_of_both}
use Rattle.shim_laws_sources.proofs.Lifting.{StandFrom, stand_first, stand_from}
use Rattle.shim_base.proofs.Facts.{both_hold}
use Rattle.shim_laws_stops.specs.InForce.{InForce, hands_on, all_throw, ThrowsInForce}
use Rattle.shim_laws_stops.proofs.Among.{Among, none_among, among_first, among_second, among_either, among_passed, was_among, passes, placed_first, among_upto, places_are_among}

-- from the first number on, and below the second
pub record IsBetween (lo hi x : ℕ) : Type 0 where
  pub from : lo ≤ x
  pub under : x < hi

-- What a part throws or passes on is in force around it, or of its own text; its own exceptions have the numbers from lo on and below hi.
pub record Numbered (hs : List ℕ) (lo hi : ℕ) (rs ts : List ℕ) : Type 0 where
  pub grows : lo ≤ hi
  pub raised : (x : ℕ) → Among rs x → Among hs x ⊎ IsBetween lo hi x
  pub tried : (x : ℕ) → Among ts x → IsBetween lo hi x

-- Where such a part stands in a unit that has these exceptions, of which those are in force there: what the part throws is there, and in force where it is in force around the part; and of the part's text the unit has those of its own `try` statements.
pub record Stands (hs : List ℕ) (lo hi : ℕ) (rs ts : List ℕ) (w : SlotMap) (xs : List ℕ) : Type 0 where
  pub there : (x : ℕ) → Among hs x → Among rs x → Among w.exceptions x
  pub known : (x : ℕ) → Among hs x → Among rs x → Among xs (slot_index_of w.exceptions x)
  pub own : (x : ℕ) → Among ts x → Among w.exceptions x
  pub alone : (x : ℕ) → Among w.exceptions x → IsBetween lo hi x → Among ts x

module _ (hs : List ℕ) (lo mi hi : ℕ) (rs qs ts us : List ℕ) (w : SlotMap) (xs : List ℕ) where
  pub stands_first : lo ≤ mi → Numbered hs mi hi qs us → Stands hs lo hi (rs ++ qs) (ts ++ us) w xs → Stands hs lo mi rs ts w xs
  stands_first less next s = record {
    there = λ x h r. s.there x h (among_first rs qs x r);
    known = λ x h r. s.known x h (among_first rs qs x r);
    own = λ x t. s.own x (among_first ts us x t);
    alone = λ x a b.
        let from = b.from in
        let under = b.under in
        let grows = next.grows in
        elim (among_either ts us x (s.alone x a (record { from = from; under = omega (arith, under, grows) }))) [
          | inl t ↦ t
          | inr t ↦ let k = next.tried x t in let low = k.from in absurd (omega (arith, low, under))
        ];
  }

  pub stands_second : Numbered hs lo mi rs ts → mi ≤ hi → Stands hs lo hi (rs ++ qs) (ts ++ us) w xs → Stands hs mi hi qs us w xs
  stands_second one less s = record {
    there = λ x h r. s.there x h (among_second rs qs x r);
    known = λ x h r. s.known x h (among_second rs qs x r);
    own = λ x t. s.own x (among_second ts us x t);
    alone = λ x a b.
        let from = b.from in
        let under = b.under in
        let grows = one.grows in
        elim (among_either ts us x (s.alone x a (record { from = omega (arith, from, grows); under = under }))) [
          | inl t ↦ let k = one.tried x t in let high = k.under in absurd (omega (arith, high, from))
          | inr t ↦ t
        ];
  }

pub numbered_both : (hs : List ℕ) (lo mi hi : ℕ) (rs qs ts us : List ℕ) → Numbered hs lo mi rs ts → Numbered hs mi hi qs us → Numbered hs lo hi (rs ++ qs) (ts ++ us)
numbered_both hs lo mi hi rs qs ts us one next =
    let up = one.grows in
    let on = next.grows in
    let wide : (x : ℕ) → IsBetween lo mi x → IsBetween lo hi x = λ x b. let from = b.from in let under = b.under in record { from = from; under = omega (arith, under, on) } in
    let high : (x : ℕ) → IsBetween mi hi x → IsBetween lo hi x = λ x b. let from = b.from in let under = b.under in record { from = omega (arith, from, up); under = under } in
    record {
      grows = omega (arith, up, on);
      raised = λ x r. elim (among_either rs qs x r) [
        | inl a ↦ elim (one.raised x a) [ inl h ↦ inl h | inr b ↦ inr (wide x b) ]
        | inr a ↦ elim (next.raised x a) [ inl h ↦ inl h | inr b ↦ inr (high x b) ]
      ];
      tried = λ x t. elim (among_either ts us x t) [ inl a ↦ wide x (one.tried x a) | inr a ↦ high x (next.tried x a) ];
    }

pub numbered_none : (hs : List ℕ) (lo : ℕ) → Numbered hs lo lo [] []
numbered_none hs lo = record { grows = omega arith; raised = λ x r. none_among x r; tried = λ x t. none_among x t }

module _ (form : Form) where
  -- A part whose exceptions are numbered so. Its tree is right wherever it stands, and so are the units that are lifted out of it.
  pub record LiftsRight {T : Type 0} (right : T → InForce) (hs : List ℕ) (lo hi : ℕ) (rs ts : List ℕ) (f : Lifts T) : Type 0 where
    pub tree : (context : LiftContext) (w : SlotMap) (n : ℕ) (xs : List ℕ) → Stands hs lo hi rs ts w xs → StandFrom form n (f context w n).units → right (f context w n).tree xs ≡ true
    pub units : (context : LiftContext) (w : SlotMap) (n : ℕ) (xs : List ℕ) → Stands hs lo hi rs ts w xs → StandFrom form n (f context w n).units → Each (ThrowsInForce form) (f context w n).units

  pub alone : {T : Type 0} (right : T → InForce) (hs : List ℕ) (lo hi : ℕ) (rs ts : List ℕ) (f : LiftContext → SlotMap → T)
      → ((context : LiftContext) (w : SlotMap) (xs : List ℕ) → Stands hs lo hi rs ts w xs → right (f context w) xs ≡ true) → LiftsRight right hs lo hi rs ts (λ context w n. unlifted (f context w))
  alone right hs lo hi rs ts f h = record { tree = λ context w n xs s stand. h context w xs s; units = λ context w n xs s stand. tt }

  -- with something around the tree
  pub around : {S T : Type 0} (right : S → InForce) (better : T → InForce) (hs : List ℕ) (lo hi : ℕ) (rs ts : List ℕ) (g : SlotMap → S → T) (f : Lifts S)
      → ((w : SlotMap) (s : S) (xs : List ℕ) → better (g w s) xs ≡ right s xs) → LiftsRight right hs lo hi rs ts f → LiftsRight better hs lo hi rs ts (λ context w n. on_tree (g w) (f context w n))
  around right better hs lo hi rs ts g f same h = record {
    tree = λ context w n xs s stand. same w (f context w n).tree xs ∙ h.tree context w n xs s stand;
    units = λ context w n xs s stand. h.units context w n xs s stand;
  }

  -- two, one after the other
  pub two : {R S T : Type 0} (right : R → InForce) (fine : S → InForce) (better : T → InForce) (hs : List ℕ) (lo mi hi : ℕ) (rs qs ts us : List ℕ) (g : SlotMap → R → S → T) (f : Lifts R) (h : Lifts S)
      → ((w : SlotMap) (r : R) (s : S) (xs : List ℕ) → better (g w r s) xs ≡ (right r xs && fine s xs)) → Numbered hs lo mi rs ts → Numbered hs mi hi qs us
      → LiftsRight right hs lo mi rs ts f → LiftsRight fine hs mi hi qs us h → LiftsRight better hs lo hi (rs ++ qs) (ts ++ us) (λ context w n. lift_two (g w) f h context w n)
  two right fine better hs lo mi hi rs qs ts us g f h same one next a b = record {
    tree = λ context w n xs s stand.
        let r = f context w n in
        let m : ℕ = n + length r.units in
        let q = h context w m in
        same w r.tree q.tree xs
        ∙ both_hold (right r.tree xs) (fine q.tree xs)
        (a.tree context w n xs (stands_first hs lo mi hi rs qs ts us w xs one.grows next s) (stand_first form n r.units q.units stand))
        (b.tree context w m xs (stands_second hs lo mi hi rs qs ts us w xs one next.grows s) (stand_from form n m r.units q.units refl stand));
    units = λ context w n xs s stand.
        let r = f context w n in
        let m : ℕ = n + length r.units in
        let q = h context w m in
        each_of_both (ThrowsInForce form) r.units q.units
        (a.units context w n xs (stands_first hs lo mi hi rs qs ts us w xs one.grows next s) (stand_first form n r.units q.units stand))
        (b.units context w m xs (stands_second hs lo mi hi rs qs ts us w xs one next.grows s) (stand_from form n m r.units q.units refl stand));
  }

  -- a block branch: its unit and its call

  module _ (hs : List ℕ) (lo hi : ℕ) (ps : List (Part UStmt)) (one : Numbered hs lo hi (all_raises ps) (all_tries ps)) where
    abbrev raised : List ℕ
    raised = all_raises ps

    stands_inside : (context : LiftContext) (w : SlotMap) (xs : List ℕ) → Stands hs lo hi raised [] w xs
        → Stands hs lo hi raised (all_tries ps) (branch_inner context ps w) (upto (length (branch_exceptions ps w)))
    stands_inside context w xs s =
        let given : List ℕ = branch_exceptions ps w in
        let tries : List ℕ = all_tries ps in
        record {
          there = λ x h r. among_first given tries x (among_passed (is_among raised) w.exceptions x (s.there x h r) r);
          known = λ x h r. among_upto (length given) (slot_index_of (given ++ tries) x) (placed_first given tries x (among_passed (is_among raised) w.exceptions x (s.there x h r) r));
          own = λ x t. among_second given tries x t;
          alone = λ x a b. elim (among_either given tries x a) [
            | inl g ↦ none_among x (s.alone x (was_among (is_among raised) w.exceptions x g) b)
            | inr t ↦ t
          ];
        }

    -- each exception that the branch is given is in force at the fork
    given_known : (w : SlotMap) (xs : List ℕ) → Stands hs lo hi raised [] w xs → (x : ℕ) → Among (branch_exceptions ps w) x → Among xs (slot_index_of w.exceptions x)
    given_known w xs s x g =
        let r : Among raised x = passes (is_among raised) w.exceptions x g in
        elim (one.raised x r) [
          | inl h ↦ s.known x h r
          | inr b ↦ none_among x (s.alone x (was_among (is_among raised) w.exceptions x g) b)
        ]

    as_many : (w : SlotMap) (n m : ℕ) → m ≡ length (branch_exceptions ps w) → length (slot_indices_of w.exceptions (branch_exceptions ps w)) ≡ m
    as_many w n m e = length-map (branch_exceptions ps w) (slot_index_of w.exceptions) ∙ sym e

    pub block_branch : LiftsRight (all_throw form) hs lo hi raised (all_tries ps) (lift_all ps) → LiftsRight (hands_on form) hs lo hi raised [] (lift_branch ps)
    block_branch body = record {
      tree = λ context w n xs s stand.
          let c : UCall = branch_call w n (branch_captures context ps) (branch_slots context ps w) (branch_exceptions ps w) in
          both_hold _ _
          (places_are_among w.exceptions xs (branch_exceptions ps w) (given_known w xs s))
          (eq-eqb (length c.throws) (unit_at form n).throws (as_many w n (unit_at form n).throws (ap (λ (u : UnitOf). u.throws) stand.0)));
      units = λ context w n xs s stand.
          let inner : SlotMap = branch_inner context ps w in
          let ys : List ℕ = upto (length (branch_exceptions ps w)) in
          let here = stands_inside context w xs s in
          (body.tree context inner (n + 1) ys here stand.1, body.units context inner (n + 1) ys here stand.1);
    }

  -- a call of a function

  pub call_right : (fs : List RFunction) (c : RCall) (hs : List ℕ) (lo hi : ℕ) (w : SlotMap) (xs : List ℕ) → ((x : ℕ) → Among c.throws x → Among hs x) → length c.throws ≡ (unit_at form c.function).throws
      → Stands hs lo hi c.throws [] w xs → hands_on form (moved_call fs c w) xs ≡ true
  call_right fs c hs lo hi w xs around many s =
      both_hold _ _
      (places_are_among w.exceptions xs c.throws (λ x r. s.known x (around x r) r))
      (eq-eqb (length (slot_indices_of w.exceptions c.throws)) (unit_at form c.function).throws (length-map c.throws (slot_index_of w.exceptions) ∙ many))
