-- The journal of a net is in the ranges of a text, and is accepted where the net has ended.
use Rattle.std.proofs.Common.{◌≡◌, ◌≤◌, ◌⊎◌, inl, inr, ◌∙◌, ℕ, ◌+◌, List, [], ◌∷◌, length, sym, arith}
use Rattle.std.specs.List.{All, AllByRecursion}
use Rattle.std.proofs.lemmas.List.Elements.{All-from_recursion, recursion_from_All}
use Rattle.shim_local.specs.Process.{Ops}
use Rattle.shim_semantics.specs.Trees.{Tree, steps, IsQuiescent}
use Rattle.shim_laws_replay.specs.Journals.{Entry, Quiet, Did, IsNonemptyEntry}
use Rattle.shim_laws_replay.specs.Nets.{Grant, NetKeeps}
use Rattle.shim_laws_replay.specs.Ends.{HasEnded}
use Rattle.shim_laws_replay.proofs.Runs.{journals_are_runs}
use Rattle.shim_laws_journals.specs.Ranges.{HasStepsInRange, IsInRange, steps_in_all}
use Rattle.shim_laws_journals.specs.Traces.{IsTrace, NetsAreTraced}
use Rattle.shim_laws_journals.proofs.Counts.{all_counted}

each_in_range : (es : List Entry) → AllByRecursion IsNonemptyEntry es → steps_in_all es ≤ 4000000 → AllByRecursion HasStepsInRange es
each_in_range [] nonempty few = tt
each_in_range (Quiet p n ∷ es) nonempty few = ((nonempty.0, omega (arith, few)), each_in_range es nonempty.1 (omega (arith, few)))
each_in_range (Did e ∷ es) nonempty few = (tt, each_in_range es nonempty.1 (omega (arith, few)))

fewer_entries : (es : List Entry) → AllByRecursion IsNonemptyEntry es → length es ≤ steps_in_all es
fewer_entries [] nonempty = omega arith
fewer_entries (Quiet p n ∷ es) nonempty = let some = nonempty.0 in let h = fewer_entries es nonempty.1 in omega (arith, some, h)
fewer_entries (Did e ∷ es) nonempty = let h = fewer_entries es nonempty.1 in omega (arith, h)

module _ {S : Type 0} (o : Ops S) where
  has_ended : (b : ℕ) (t : Tree S) → steps t ≤ b → IsQuiescent o t ⊎ ((steps t ≡ b) × (IsQuiescent o t → ⊥)) → HasEnded o b t
  has_ended b t within (inl rests) = inl (within, rests)
  has_ended b t within (inr spent) = inr spent

  pub nets_are_traced : NetsAreTraced o
  nets_are_traced root b es t grants least most k =
      let nonempty = recursion_from_All IsNonemptyEntry es k.nonempty in
      let run = (journals_are_runs o root es t k.replays).counted in
      let all = all_counted es in
      let fits = k.fits in
      let inside : steps t ≤ b = omega (arith, fits) in
      let total : steps_in_all es ≤ 4000000 = omega (arith, all, run, inside, most) in
      let entries = fewer_entries es nonempty in
      record {
        in_range = record { least = least; most = most; steps = All-from_recursion HasStepsInRange es (each_in_range es nonempty total); few = omega (arith, entries, total) };
        within = omega (arith, all, run, inside);
        few = omega (arith, entries, all, run, inside);
        counted = sym all ∙ run;
        accepted = λ stopped. record { replays = k.replays; ended = has_ended b t inside stopped };
      }
