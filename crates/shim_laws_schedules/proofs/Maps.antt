-- What is counted and logged of two processes may be written in either order.
use Rattle.std.proofs.Common.{◌≡◌, ℕ, ◌+◌, List, [], ◌∷◌, ◌++◌, refl}
use Rattle.std.specs.Prelude.{unwrap_or}
use Rattle.std.specs.FinMap as map
use Rattle.shim_base.specs.Paths.{Path, path_order}
use Rattle.shim_base.specs.PathLaws.{path_order_total, exact_path}
use Rattle.shim_local.specs.declared.LogWhat.{LogWhat}
use Rattle.shim_semantics.specs.Trees.{with_step_counted, with_logs}
use Rattle.shim_laws_schedules.proofs.Entries.{change_swap}

-- the counts of steps of two processes
pub counts_swap : (p q : Path) (m : map.FinMap path_order ℕ) → (p ≡ q → ⊥) → with_step_counted (with_step_counted m p) q ≡ with_step_counted (with_step_counted m q) p
counts_swap p q m n = change_swap path_order_total exact_path m p q (λ z. unwrap_or z 0 + 1) (λ z. unwrap_or z 0 + 1) n

-- what is logged of two processes
pub logs_swap : (p q : Path) (m : map.FinMap path_order (List LogWhat)) (ps qs : List LogWhat) → (p ≡ q → ⊥) → with_logs (with_logs m p ps) q qs ≡ with_logs (with_logs m q qs) p ps
logs_swap p q m [] [] n = refl
logs_swap p q m [] (y ∷ qs) n = refl
logs_swap p q m (x ∷ ps) [] n = refl
logs_swap p q m (x ∷ ps) (y ∷ qs) n = change_swap path_order_total exact_path m p q (λ z. unwrap_or z [] ++ x ∷ ps) (λ z. unwrap_or z [] ++ y ∷ qs) n
