-- What each call on a net makes of it, as a step of a run in rounds.
use Rattle.std.proofs.Common.{◌≡◌, ◌≤◌, ◌<◌, ◌+◌, ◌⊎◌, inl, inr, ℕ, Bool, true, false, Option, Some, None, Result, Ok, Err, IfOk, OnOk, List, [], ◌∷◌, ◌++◌, length, sym, ap, subst, ◌∙◌, arith}
use Rattle.std.specs.Option.{is_some}
use Rattle.std.proofs.lemmas.List.{append-nil, length_push}
use Rattle.std.proofs.lemmas.List.Elements.{All-nil, All-push}
use Rattle.shim_local.specs.Process.{Ops, AtQuiet}
use Rattle.shim_local.specs.Quiets.{QuietSteps}
use Rattle.shim_local.specs.Pieces.{FewerWithCause}
use Rattle.shim_semantics.specs.Trees.{Tree, steps}
use Rattle.shim_net.specs.Nets.{OpenGrant, NetView, IsOpen}
use Rattle.shim_net.specs.Granting.{GivesNone, Grants}
use Rattle.shim_net.specs.Absorbing.{Absorbs}
use Rattle.shim_net.specs.Settling.{Settles}
use Rattle.shim_net.specs.Stepping.{IsNextHome}
use Rattle.shim_net.specs.Progress.{GoesOn, CanGive}
use Rattle.shim_net.proofs.Progress.{closed_on, closed_all, some_used, settled_on, settled_same}
use Rattle.shim_workers.specs.Progress.{HasSteps, HaveSteps, HaveSlotsBelow, StepsOn}

-- who is next at home is read, and nothing has changed
pub same_behind : {S : Type 0} (o : Ops S) (before after : NetView S) (next : Option ℕ) → IsNextHome o before after next → after ≡ before
same_behind o before after None h = h.0
same_behind o before after (Some pid) h = h.0

-- with more steps or grants than before, and in the end no grant, there are more steps
pub more_steps : {S : Type 0} (o : Ops S) (a b c : NetView S) → a.grants ≡ [] → steps a.tree + length a.grants < steps b.tree + length b.grants → GoesOn o b c → c.grants ≡ [] → steps a.tree < steps c.tree
more_steps o a b c none more p none' =
    let few : length a.grants ≡ 0 = ap length none in
    let few' : length c.grants ≡ 0 = ap length none' in
    omega (arith, few, few', more, p.at_least)

pub none_below : {S : Type 0} (slot : ℕ) (grants : List (OpenGrant S)) → grants ≡ [] → HaveSlotsBelow slot grants
none_below slot grants none = subst (HaveSlotsBelow slot) (sym none) (All-nil (λ g. g.slot < slot))

pub none_have : {S : Type 0} (o : Ops S) (grants : List (OpenGrant S)) → grants ≡ [] → HaveSteps o grants
none_have o grants none = subst (HaveSteps o) (sym none) (All-nil (HasSteps o))

-- a piece in place that answers how many steps it did has done some, and one that doesn't found nobody
pub did_some : {S : Type 0} (o : Ops S) (before after_it : NetView S) (taken : Option ℕ) → StepsOn o before after_it taken → is_some taken ≡ true → CanGive o before × (steps before.tree < steps after_it.tree)
did_some o before after_it None h some = absurd (cc)
did_some o before after_it (Some n) h some = h

pub did_none : {S : Type 0} (o : Ops S) (before after_it : NetView S) (taken : Option ℕ) → StepsOn o before after_it taken → is_some taken ≡ false → GivesNone o before after_it
did_none o before after_it None h none = h
did_none o before after_it (Some n) h none = absurd (cc)

-- no grant has a slot above all of them
pub fresh : {S : Type 0} (slot round : ℕ) (grants : List (OpenGrant S)) → HaveSlotsBelow slot grants → IsOpen slot round grants → ⊥
fresh {S} slot round grants below out =
    let less : out.1.slot < slot = subst (λ (z : OpenGrant S). z.slot < slot) out.3 (below out.0 out.1 out.2) in
    let same : out.1.slot ≡ slot = out.4.0 in
    absurd (omega (arith, less, same))

module _ {S : Type 0} (o : Ops S) where
  -- a piece was given out
  module _ (before after_it : NetView S) (most slot round pid : ℕ) (start : S) (grant : ℕ) (g : Grants o before after_it most slot round pid start grant) where
    abbrev made : OpenGrant S
    made = record { pid = pid; slot = slot; round = round; most = grant; start = start }

    grants_are : after_it.grants ≡ before.grants ++ made ∷ []
    grants_are = ap (λ (z : NetView S). z.grants) g.after_is

    tree_is : after_it.tree ≡ before.tree
    tree_is = ap (λ (z : NetView S). z.tree) g.after_is

    one_more : length after_it.grants ≡ length before.grants + 1
    one_more = ap length grants_are ∙ length_push before.grants made

    pub gave_more : steps before.tree + length before.grants < steps after_it.tree + length after_it.grants
    gave_more = let same : steps after_it.tree ≡ steps before.tree = ap steps tree_is in omega (arith, same, one_more)

    pub gave_on : GoesOn o before after_it
    gave_on =
        let more = gave_more in
        record {
          root = ap (λ (z : NetView S). z.root) g.after_is;
          budget = ap (λ (z : NetView S). z.budget) g.after_is;
          done = [];
          journal = ap (λ (z : NetView S). z.journal) g.after_is ∙ sym (append-nil before.journal);
          leads = ap (λ (t : Tree S). Some t) (sym tree_is);
          at_least = omega (arith, more);
        }

    pub gave_steps : HaveSteps o before.grants → HaveSteps o after_it.grants
    gave_steps h = subst (HaveSteps o) (sym grants_are) (All-push (HasSteps o) before.grants made h (record { some = g.some; stop = g.process.grantable.stop }))

    wider : HaveSlotsBelow slot before.grants → HaveSlotsBelow (slot + 1) before.grants
    wider h k d inside = omega (arith, h k d inside)

    pub gave_below : HaveSlotsBelow slot before.grants → HaveSlotsBelow (slot + 1) after_it.grants
    gave_below h = subst (HaveSlotsBelow (slot + 1)) (sym grants_are) (All-push (λ (z : OpenGrant S). z.slot < slot + 1) before.grants made (wider h) (omega arith))

  pub gave_none_below : (slot : ℕ) (before after_it : NetView S) → GivesNone o before after_it → HaveSlotsBelow slot before.grants → HaveSlotsBelow (slot + 1) after_it.grants
  gave_none_below slot before after_it h below = subst (λ (z : NetView S). HaveSlotsBelow (slot + 1) z.grants) (sym h.0) (λ k d inside. omega (arith, below k d inside))

  pub gave_none_steps : (before after_it : NetView S) → GivesNone o before after_it → HaveSteps o before.grants → HaveSteps o after_it.grants
  gave_none_steps before after_it h some = subst (λ (z : NetView S). HaveSteps o z.grants) (sym h.0) some

  -- a piece was taken in
  module _ (before after_it : NetView S) (pid slot round most : ℕ) (start : S) (used : ℕ) (t : Absorbs o before after_it pid slot round most start used) (h : HaveSteps o before.grants) where
    its : HasSteps o t.closes.grant
    its = subst (HasSteps o) (sym t.closes.its) (h t.place t.closes.grant t.there)

    pub took_on : (last : S) (short : Bool) → QuietSteps o used start last → FewerWithCause o used most short last → short ≡ false → GoesOn o before after_it
    took_on last short ran fewer whole =
        let quiet : o.stop start ≡ AtQuiet = ap o.stop (sym t.matches.start_is) ∙ its.stop in
        let some : 1 ≤ most = subst (λ n. 1 ≤ n) t.matches.most_is its.some in
        closed_on o before after_it t.place used t.there t.closes (some_used o start last used most short quiet some ran fewer whole)

    pub took_steps : HaveSteps o after_it.grants
    took_steps = closed_all o before after_it t.place used t.there t.closes (HasSteps o) h

  -- what came of settling
  module _ (before after_it : NetView S) {E : Type 0} where
    pub settle_on : (r : Result ℕ E) → IfOk r (Settles o before after_it) → OnOk r (GoesOn o before after_it)
    settle_on (Ok n) s = settled_on o before after_it n s
    settle_on (Err e) s = tt

    pub settle_home : (r : Result ℕ E) → IfOk r (Settles o before after_it) → before.grants ≡ [] → OnOk r (after_it.grants ≡ [])
    settle_home (Ok n) s none = settled_same o before after_it n s ∙ none
    settle_home (Err e) s none = tt

  -- more steps and open grants than before, and then on
  pub more_and_on : (a b c : NetView S) → steps a.tree + length a.grants < steps b.tree + length b.grants → GoesOn o b c → steps a.tree + length a.grants < steps c.tree + length c.grants
  more_and_on a b c more p = omega (arith, more, p.at_least)

  pub on_and_more : (a b c : NetView S) → GoesOn o a b → steps b.tree + length b.grants < steps c.tree + length c.grants → steps a.tree + length a.grants < steps c.tree + length c.grants
  on_and_more a b c p more = omega (arith, p.at_least, more)

  -- what was given out, when nothing more can be
  pub no_more : (a b c : NetView S) (slot : ℕ) → ((slot ≡ 0) × (b ≡ a)) ⊎ (steps a.tree + length a.grants < steps b.tree + length b.grants) → CanGive o a → (CanGive o b → ⊥) → GoesOn o b c
      → steps a.tree + length a.grants < steps c.tree + length c.grants
  no_more a b c slot so can none p = elim so [ inl first ↦ absurd (none (subst (CanGive o) (sym first.1) can)) | inr more ↦ more_and_on a b c more p ]

-- what was given out, when there is no further slot
pub all_slots : {S : Type 0} (a b : NetView S) (slot : ℕ) → ((slot ≡ 0) × (b ≡ a)) ⊎ (steps a.tree + length a.grants < steps b.tree + length b.grants) → 18446744073709551615 ≤ slot
    → steps a.tree + length a.grants < steps b.tree + length b.grants
all_slots a b slot so last = elim so [ inl first ↦ (let none : slot ≡ 0 = first.0 in absurd (omega (arith, none, last))) | inr more ↦ more ]
