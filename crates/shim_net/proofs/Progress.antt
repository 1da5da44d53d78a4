-- What each call on a net makes of it while it is run.
use Rattle.std.proofs.Common.{◌≡◌, ◌≤◌, ◌<◌, ◌+◌, ◌-◌, inl, inr, ℕ, zero, suc, Bool, false, Some, None, List, [], ◌∷◌, ◌++◌, length, refl, sym, ap, subst, ◌∙◌, arith}
use Rattle.std.specs.Prelude.{min, map, take, drop, replicate, slice_index_or}
use Rattle.std.specs.List.{All, Any, remove}
use Rattle.std.proofs.lemmas.Bool.{cases_lt}
use Rattle.std.proofs.lemmas.List.{append-nil, append_assoc, get_or_default, length-replicate}
use Rattle.std.proofs.lemmas.List.Elements.{All-append, All-take, All-drop}
use Rattle.std.proofs.lemmas.List.Edits.{length-remove}
use Rattle.shim_base.specs.Paths.{Path}
use Rattle.shim_base.proofs.Facts.{some_same}
use Rattle.shim_local.specs.Process.{Ops, AtQuiet}
use Rattle.shim_local.specs.Quiets.{QuietSteps}
use Rattle.shim_local.specs.Pieces.{FewerWithCause}
use Rattle.shim_local.specs.declared.local.Quiet.{Quiet}
use Rattle.shim_semantics.specs.Nodes.{Live}
use Rattle.shim_semantics.specs.Places.{StandsAt}
use Rattle.shim_semantics.specs.Trees.{Tree, Event, Own, after, steps, IsQuiescent}
use Rattle.shim_semantics.specs.Systems.{run, on_some}
use Rattle.shim_laws_schedules.proofs.Rounds.{run_on, run_one}
use Rattle.shim_laws_replay.specs.Journals as journals
use Rattle.shim_laws_replay.specs.Journals.{Entry, Did, entry_after, quiet_steps}
use Rattle.shim_laws_replay.specs.Grants.{IsGrantable}
use Rattle.shim_laws_replay.proofs.Runs.{run_counts, quiet_steps_run}
use Rattle.shim_net.specs.Nets.{OpenGrant, NetView, IsNet, reserved_in}
use Rattle.shim_net.specs.Granting.{NoneAtHome, GivesNone}
use Rattle.shim_net.specs.Stepping.{StepsInPlace, left_of}
use Rattle.shim_net.specs.Absorbing.{Closes, Redoes, with_piece}
use Rattle.shim_net.specs.Settling.{IsQuietStep, RestsButForQuiet, AllHappen, Settles}
use Rattle.shim_net.specs.Standings.{IsQuiescentNet, IsSpentNet}
use Rattle.shim_net.specs.Progress.{GoesOn, AreAmong, CanGive, HasSettled}
use Rattle.shim_net.proofs.Settling.{all_happen_count}

pub all_remove : {X : Type 0} (P : X → Type 0) (xs : List X) (n : ℕ) → All P xs → All P (remove xs n)
all_remove P xs n h = All-append P (take n xs) (drop (suc n) xs) (All-take P n xs h) (All-drop P (suc n) xs h)

-- grants are among themselves
pub among : {S : Type 0} (grants : List (OpenGrant S)) → AreAmong grants grants
among grants k d few = let g = slice_index_or grants k d in (k, g, few, get_or_default grants k g d few, refl)

pub none_among : {S : Type 0} (these those : List (OpenGrant S)) → these ≡ [] → AreAmong these those
none_among these those none k d few = let none' : length these ≡ 0 = ap length none in absurd (omega (arith, few, none'))

-- the journal with a piece has that after it
with_it : (p : Path) (n : ℕ) (js : List Entry) → with_piece p n js ≡ js ++ with_piece p n []
with_it p zero js = sym (append-nil js)
with_it p (suc n) js = refl

module _ {S : Type 0} (o : Ops S) where
  pub stays : (n : NetView S) → GoesOn o n n
  stays n = record {
    root = refl;
    budget = refl;
    done = [];
    journal = sym (append-nil n.journal);
    leads = refl;
    at_least = omega arith;
  }

  -- a net that is as it was
  pub same_net : (n m : NetView S) → m ≡ n → GoesOn o n m
  same_net n m e = subst (GoesOn o n) (sym e) (stays n)

  pub on_and_on : (a b c : NetView S) → GoesOn o a b → GoesOn o b c → GoesOn o a c
  on_and_on a b c p q = record {
    root = q.root ∙ p.root;
    budget = q.budget ∙ p.budget;
    done = p.done ++ q.done;
    journal = q.journal ∙ (ap (λ z. z ++ q.done) p.journal ∙ append_assoc a.journal p.done q.done);
    leads = run_on (entry_after o) p.done q.done a.tree b.tree c.tree p.leads q.leads;
    at_least = omega (arith, p.at_least, q.at_least);
  }

  piece_leads : (p : Path) (n : ℕ) (t u : Tree S) → quiet_steps o p n t ≡ Some u → run (entry_after o) (with_piece p n []) t ≡ Some u
  piece_leads p zero t u h = h
  piece_leads p (suc n) t u h = run_one (entry_after o) (journals.Quiet p (suc n)) t u h

  piece_counts : (p : Path) (n : ℕ) (t u : Tree S) → quiet_steps o p n t ≡ Some u → steps u ≡ steps t + n
  piece_counts p n t u h = run_counts o (replicate n (Own p)) t u (quiet_steps_run o p n t u h) ∙ ap (λ z. steps t + z) (length-replicate n (Own p))

  -- a grant has closed
  module _ (before after_it : NetView S) (place used : ℕ) (there : place < length before.grants) (c : Closes o before after_it place used) where
    left_are : after_it.grants ≡ remove before.grants place
    left_are = ap (λ (z : NetView S). z.grants) c.after_is

    closed_fewer : length after_it.grants + 1 ≡ length before.grants
    closed_fewer = ap (λ (gs : List (OpenGrant S)). length gs + 1) left_are ∙ length-remove before.grants place there

    pub closed_on : 1 ≤ used → GoesOn o before after_it
    closed_on some =
        let counted = piece_counts (o.path c.grant.start) used before.tree after_it.tree c.tree in
        let fewer = closed_fewer in
        record {
          root = ap (λ (z : NetView S). z.root) c.after_is;
          budget = ap (λ (z : NetView S). z.budget) c.after_is;
          done = with_piece (o.path c.grant.start) used [];
          journal = ap (λ (z : NetView S). z.journal) c.after_is ∙ with_it (o.path c.grant.start) used before.journal;
          leads = piece_leads (o.path c.grant.start) used before.tree after_it.tree c.tree;
          at_least = omega (arith, fewer, counted, some);
        }

    -- what holds of each grant that was open holds of each that still is
    pub closed_all : (P : OpenGrant S → Type 0) → All P before.grants → All P after_it.grants
    closed_all P h = subst (All P) (sym left_are) (all_remove P before.grants place h)

  -- work that was granted to a process before a quiet step, and that didn't want memory, has a step
  pub some_used : (first last : S) (used most : ℕ) (short : Bool) → o.stop first ≡ AtQuiet → 1 ≤ most → QuietSteps o used first last → FewerWithCause o used most short last → short ≡ false → 1 ≤ used
  some_used first last zero most short burst some ran fewer whole = absurd (fewer (omega (arith, some)) whole (ap o.stop (sym (some_same first last ran)) ∙ burst))
  some_used first last (suc n) most short burst some ran fewer whole = omega arith

  -- a process did quiet steps in place
  module _ (before after_it : NetView S) (most : ℕ) (burst : Quiet) (s : StepsInPlace o before after_it most burst) where
    has_more : steps after_it.tree ≡ steps before.tree + burst.taken
    has_more = piece_counts (o.path s.process) burst.taken before.tree after_it.tree s.leads

    pub stepped_same : after_it.grants ≡ before.grants
    stepped_same = ap (λ (z : NetView S). z.grants) s.after_is

    pub stepped_on : GoesOn o before after_it
    stepped_on =
        let all = has_more in
        let same : length after_it.grants ≡ length before.grants = ap length stepped_same in
        record {
          root = ap (λ (z : NetView S). z.root) s.after_is;
          budget = ap (λ (z : NetView S). z.budget) s.after_is;
          done = with_piece (o.path s.process) burst.taken [];
          journal = ap (λ (z : NetView S). z.journal) s.after_is ∙ with_it (o.path s.process) burst.taken before.journal;
          leads = piece_leads (o.path s.process) burst.taken before.tree after_it.tree s.leads;
          at_least = omega (arith, all, same);
        }

    pub stepped_more : 1 ≤ most → burst.short ≡ false → steps before.tree < steps after_it.tree
    stepped_more some whole =
        let all = has_more in
        let left = s.left in
        let one = some_used s.process s.last burst.taken (min most (left_of before)) burst.short s.home.grantable.stop (omega (arith, some, left)) s.chain s.fewer whole in
        omega (arith, all, one)

    pub stepped_could : CanGive o before
    stepped_could =
        let left = s.left in
        record {
          left = omega (arith, left);
          some = λ none. let x = none s.process s.home.grantable in s.home.free x.0 x.1 x.2 (ap (λ (g : OpenGrant S). o.path g.start) x.3 ∙ x.4);
        }

  -- where something could be given out, something is
  pub gave_none : (before after_it : NetView S) → GivesNone o before after_it → CanGive o before → ⊥
  gave_none before after_it h can = elim h.1 [ inl full ↦ absurd (omega (arith, full, can.left)) | inr none ↦ can.some none ]

  -- work of an open grant was done again
  module _ (before after_it : NetView S) (r : Redoes o before after_it) where
    pub redid_on : GoesOn o before after_it
    redid_on = closed_on before after_it r.place r.used r.there r.closes r.some

    pub redid_fewer : length after_it.grants < length before.grants
    redid_fewer = let fewer = closed_fewer before after_it r.place r.used r.there r.closes in omega (arith, fewer)

    pub redid_among : (those : List (OpenGrant S)) → AreAmong before.grants those → AreAmong after_it.grants those
    redid_among those h = closed_all before after_it r.place r.used r.there r.closes (λ g. Any (λ h. h ≡ g) those) h

  happenings_lead : (es : List Event) (t u : Tree S) → AllHappen o es t u → run (entry_after o) (map Did es) t ≡ Some u
  happenings_lead [] t u same = ap Some same
  happenings_lead (e ∷ es) t u h = ap (on_some (run (entry_after o) (map Did es))) h.2 ∙ happenings_lead es h.0 u h.3

  -- events other than quiet steps happened
  module _ (before after_it : NetView S) (n : ℕ) (s : Settles o before after_it n) where
    pub settled_same : after_it.grants ≡ before.grants
    settled_same = ap (λ (z : NetView S). z.grants) s.after_is

    pub settled_on : GoesOn o before after_it
    settled_on =
        let count = all_happen_count o s.events before.tree after_it.tree s.happened in
        let same : length after_it.grants ≡ length before.grants = ap length settled_same in
        record {
          root = ap (λ (z : NetView S). z.root) s.after_is;
          budget = ap (λ (z : NetView S). z.budget) s.after_is;
          done = map Did s.events;
          journal = ap (λ (z : NetView S). z.journal) s.after_is;
          leads = happenings_lead s.events before.tree after_it.tree s.happened;
          at_least = omega (arith, count, same);
        }

  -- the process of a quiet step that could be done has not been given out
  quiet_grantable : (t : Tree S) (e : Event) → IsQuietStep o t e → (l : S) × IsGrantable o t l
  quiet_grantable t e q =
      let l = q.2.0 in
      (l, record { in_tree = subst (λ p. StandsAt o t.root p (Live l)) (sym q.2.1.is_its) q.2.1; stop = q.2.2 })

  not_out : (grants : List (OpenGrant S)) (t : Tree S) (e : Event) → grants ≡ [] → NoneAtHome o t grants → IsQuietStep o t e → ⊥
  not_out grants t e none home q =
      let k = quiet_grantable t e q in
      let out = home k.0 k.1 in
      let few : length grants ≡ 0 = ap length none in
      let inside : out.0 < length grants = out.2 in
      absurd (omega (arith, few, inside))

  rests : (grants : List (OpenGrant S)) (t : Tree S) → grants ≡ [] → NoneAtHome o t grants → RestsButForQuiet o t → IsQuiescent o t
  rests grants t none home ended e =
      elim (after o e t) as (λ r. after o e t ≡ r → after o e t ≡ None) [
        | None ↦ λ p. p
        | Some u ↦ λ p. absurd (not_out grants t e none home (ended e (λ q. absurd (cc))))
      ] refl

  -- a net that has settled with nothing out, and has not come to its end, can give something out
  pub can_give : (n : NetView S) → IsNet o n → n.grants ≡ [] → HasSettled o n → (IsQuiescentNet o n → ⊥) → (IsSpentNet o n → ⊥) → CanGive o n
  can_give n w none end not_quiet not_spent =
      let zero_reserved : reserved_in n.grants ≡ 0 = ap reserved_in none in
      let not_full : (steps n.tree + reserved_in n.grants ≡ n.budget) → ⊥ = λ full. not_spent (none, omega (arith, full, zero_reserved), λ ended. not_quiet (none, ended)) in
      let fits : steps n.tree + reserved_in n.grants ≤ n.budget = w.keeps.fits in
      record {
        left = elim (cases_lt (steps n.tree + reserved_in n.grants) n.budget) [ inl less ↦ less | inr most ↦ absurd (not_full (omega (arith, fits, most))) ];
        some = λ home. elim end [ inl ended ↦ not_quiet (none, rests n.grants n.tree none home ended) | inr full ↦ not_full full ];
      }

  -- a turn of it with a step leaves less of the budget
  pub closer : (a b c : NetView S) → CanGive o a → steps a.tree < steps b.tree → GoesOn o a b → GoesOn o b c → b.grants ≡ [] → c.grants ≡ [] → c.budget - steps c.tree < a.budget - steps a.tree
  closer a b c can more p q none none' =
      let few : length b.grants ≡ 0 = ap length none in
      let few' : length c.grants ≡ 0 = ap length none' in
      omega (arith, few, few', p.budget, q.budget, q.at_least, can.left, more)
