-- A process at home does quiet steps in place.
use Rattle.std.proofs.Common.{◌≡◌, ◌≤◌, ◌+◌, ℕ, zero, suc, Some, List, refl, sym, ap, subst, ◌∙◌, arith}
use Rattle.std.specs.Prelude.{min}
use Rattle.shim_base.proofs.Facts.{some_same}
use Rattle.shim_local.specs.Process.{Ops}
use Rattle.shim_local.specs.Quiets.{QuietSteps}
use Rattle.shim_local.specs.Pieces.{FewerWithCause}
use Rattle.shim_local.specs.Laws.{LocalLaws}
use Rattle.shim_local.specs.declared.local.Quiet.{Quiet}
use Rattle.shim_semantics.specs.Trees.{Tree, steps}
use Rattle.shim_semantics.specs.Quiets.{ComesBy, Advances}
use Rattle.shim_laws_replay.specs.Journals as journals
use Rattle.shim_laws_replay.specs.Journals.{quiet_steps}
use Rattle.shim_laws_replay.proofs.Entries.{pieces_are_entries}
use Rattle.shim_net.specs.Nets.{NetView, IsNet, reserved_in}
use Rattle.shim_net.specs.Granting.{IsAtHome}
use Rattle.shim_net.specs.Stepping.{StepsInPlace, left_of}
use Rattle.shim_net.specs.Absorbing.{with_piece}
use Rattle.shim_net.proofs.Closing.{with_more}
use Rattle.shim_net.proofs.Keeping.{tree_sound, stepped}

-- v is the net as the code holds it, and n as its contract names it
module _ {S : Type 0} (o : Ops S) (law : LocalLaws o) (v n : NetView S) (same : v ≡ n) (w : IsNet o v) (l last : S) (home : IsAtHome o v.tree v.grants l) (most : ℕ) (burst : Quiet)
    (left : 1 ≤ left_of v) (chain : QuietSteps o burst.taken l last) (within : burst.taken ≤ min most (left_of v)) (u : Tree S) (advances : Advances o (o.path l) burst.taken v.tree u) where
  both : ComesBy o v.tree burst.taken last × (o.path last ≡ o.path l)
  both = (pieces_are_entries o law).comes v.tree burst.taken l last (tree_sound o law v w) home.grantable chain

  its_advances : Advances o (o.path last) burst.taken v.tree u
  its_advances = subst (λ p. Advances o p burst.taken v.tree u) (sym both.1) advances

  leads : quiet_steps o (o.path l) burst.taken v.tree ≡ Some u
  leads = subst (λ p. quiet_steps o p burst.taken v.tree ≡ Some u) both.1 ((pieces_are_entries o law).entry v.tree u burst.taken last (tree_sound o law v w) both.0 its_advances).entry

  room : steps v.tree + reserved_in v.grants + burst.taken ≤ v.budget
  room = omega (arith, within, w.keeps.fits)

  in_place : FewerWithCause o burst.taken (min most (left_of v)) burst.short last → (js : List journals.Entry) → js ≡ with_piece (o.path l) burst.taken v.journal
      → StepsInPlace o n (record { root = v.root; budget = v.budget; tree = u; journal = js; grants = v.grants }) most burst
  in_place fewer js journal = subst (λ (z : NetView S). StepsInPlace o z (record { root = v.root; budget = v.budget; tree = u; journal = js; grants = v.grants }) most burst) same (record {
    process = l;
    last = last;
    home = home;
    left = left;
    chain = chain;
    within = within;
    fewer = fewer;
    leads = leads;
    after_is = λ i. record { root = v.root; budget = v.budget; tree = u; journal = journal i; grants = v.grants };
  })

  module _ (js : List journals.Entry) (more : js ≡ with_piece (o.path l) burst.taken v.journal) where
    back : burst.taken ≡ 0 → v.tree ≡ u
    back none = some_same v.tree u (subst (λ z. Advances o (o.path l) z v.tree u) none advances)

    keeps_by : (taken : ℕ) → burst.taken ≡ taken → IsNet o (record { root = v.root; budget = v.budget; tree = u; journal = js; grants = v.grants })
    keeps_by zero none = let same_js : js ≡ v.journal = more ∙ ap (λ z. with_piece (o.path l) z v.journal) none in
        subst (IsNet o) (λ i. record { root = v.root; budget = v.budget; tree = back none i; journal = sym same_js i; grants = v.grants }) w
    keeps_by (suc t) e = let some : 1 ≤ burst.taken = omega (arith, e) in
        stepped o law v w l last burst.taken home.grantable home.free some room chain u its_advances js (more ∙ with_more (o.path l) burst.taken v.journal some)

    pub keeps_steps : IsNet o (record { root = v.root; budget = v.budget; tree = u; journal = js; grants = v.grants })
    keeps_steps = keeps_by burst.taken refl

    pub does_steps : FewerWithCause o burst.taken (min most (left_of v)) burst.short last → StepsInPlace o n (record { root = v.root; budget = v.budget; tree = u; journal = js; grants = v.grants }) most burst
    does_steps fewer = in_place fewer js more
