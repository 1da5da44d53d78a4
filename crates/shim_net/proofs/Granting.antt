-- What is given out, as the code gives it.
use Rattle.std.proofs.Common.{◌≡◌, ◌≤◌, ◌+◌, ◌-◌, ◌↔◌, inr, ℕ, List, [], ◌∷◌, ◌++◌, sym, ap, subst, ◌∙◌, arith}
use Rattle.std.specs.Prelude.{min}
use Rattle.shim_local.specs.Process.{Ops}
use Rattle.shim_semantics.specs.Trees.{Tree, steps}
use Rattle.shim_laws_replay.specs.Journals.{Entry}
use Rattle.shim_net.specs.Nets.{OpenGrant, NetView, IsNet, reserved_in}
use Rattle.shim_net.specs.Stepping.{IsHomeNumber}
use Rattle.shim_net.specs.Granting.{IsAtHome, NoneAtHome, Grants, GivesNone}

-- what is given is left
pub has_room : (left b s r most n : ℕ) → left ≡ b - (s + r) → s + r ≤ b → n ≡ min most left → s + r + n ≤ b
has_room left b s r most n e fits is_min = omega (arith, e, fits, is_min)

-- the number of a process at home says whether it is the root
pub home_number : {S : Type 0} (o : Ops S) (v : NetView S) → IsNet o v → (number : ℕ) (l : S) → IsAtHome o v.tree v.grants l → (number ≡ 0) ↔ (o.path l ≡ []) → IsHomeNumber o v number
home_number o v w number l home root = record { process = l; home = home; root_is = (λ none. root.0 none ∙ sym w.at_root, λ same. root.1 (same ∙ w.at_root)) }

module _ {S : Type 0} (o : Ops S) (v : NetView S) (w : IsNet o v) (l : S) (home : IsAtHome o v.tree v.grants l) where
  pub gives : (most slot round left n : ℕ) → left ≡ v.budget - (steps v.tree + reserved_in v.grants) → n ≡ min most left → 1 ≤ n → (number : ℕ) → (number ≡ 0) ↔ (o.path l ≡ []) → (pid : ℕ) (start : S) (grant : ℕ) → pid ≡ number → start ≡ l → grant ≡ n
      → (after : NetView S) → after ≡ record { root = v.root; budget = v.budget; tree = v.tree; journal = v.journal; grants = v.grants ++ record { pid = number; slot = slot; round = round; most = n; start = l } ∷ [] }
      → Grants o v after most slot round pid start grant
  gives most slot round left n is is_min some number at_root pid start grant pid_is start_is grant_is after after_is =
      subst (λ p. Grants o v after most slot round p start grant) (sym pid_is)
      (subst (λ s. Grants o v after most slot round number s grant) (sym start_is)
      (subst (λ m. Grants o v after most slot round number l m) (sym grant_is) (record {
        process = home;
        lesser = is_min ∙ ap (min most) is;
        some = some;
        root_is = (λ none. at_root.0 none ∙ sym w.at_root, λ same. at_root.1 (same ∙ w.at_root));
        after_is = after_is;
      })))

-- n is the net as the contract names it, and the parts are those of the code
module _ {S : Type 0} (o : Ops S) (n : NetView S) (root : S) (budget : ℕ) (t u : Tree S) (js : List Entry) (grants : List (OpenGrant S)) (same : record { root = root; budget = budget; tree = t; journal = js; grants = grants } ≡ n) (stays : u ≡ t) where
  pub is_same : record { root = root; budget = budget; tree = u; journal = js; grants = grants } ≡ n
  is_same = (λ i. record { root = root; budget = budget; tree = stays i; journal = js; grants = grants }) ∙ same

  pub gives_none : NoneAtHome o t grants → GivesNone o n (record { root = root; budget = budget; tree = u; journal = js; grants = grants })
  gives_none none = (is_same, inr (subst (λ (z : NetView S). NoneAtHome o z.tree z.grants) same none))
