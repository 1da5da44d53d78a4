-- What was logged in the order of the events is gathered by process.
use Rattle.std.proofs.Common.{◌≡◌, ◌≤◌, ◌+◌, ℕ, zero, suc, List, [], ◌∷◌, ◌++◌, length, drop, refl, sym, ap, ◌∙◌, arith}
use Rattle.std.specs.FinMap as finite
use Rattle.shim_base.specs.Paths.{path_order}
use Rattle.shim_local.specs.declared.Log.{Log}
use Rattle.shim_local.specs.declared.LogWhat.{LogWhat}
use Rattle.shim_semantics.specs.Trees.{with_logs}
use Rattle.shim_run_log.specs.Logged.{with_each, logged}

-- nothing is left after the end
drop_past : {A : Type 0} (xs : List A) (i : ℕ) → length xs ≤ i → drop i xs ≡ []
drop_past [] zero h = refl
drop_past [] (suc i) h = refl
drop_past (x ∷ xs) zero h = absurd (omega (arith, h))
drop_past (x ∷ xs) (suc i) h = drop_past xs i (omega (arith, h))

-- one thing more is logged after the others
pub with_one_more : (m : finite.FinMap path_order (List LogWhat)) (es : List Log) (e : Log) → with_each m (es ++ e ∷ []) ≡ with_logs (with_each m es) e.path (e.what ∷ [])
with_one_more m [] e = refl
with_one_more m (f ∷ es) e = with_one_more (with_logs m f.path (f.what ∷ [])) es e

-- of what was logged, the rest is gathered after what was
pub gathered_one : (all m m' : finite.FinMap path_order (List LogWhat)) (es : List Log) (i : ℕ) (e : Log) → drop i es ≡ e ∷ drop (i + 1) es → m' ≡ with_logs m e.path (e.what ∷ []) → with_each m (drop i es) ≡ all → with_each m' (drop (i + 1) es) ≡ all
gathered_one all m m' es i e d more h = ap (λ z. with_each z (drop (i + 1) es)) more ∙ (sym (ap (with_each m) d) ∙ h)

-- and at the end all is gathered
pub gathered_all : (all m : finite.FinMap path_order (List LogWhat)) (es : List Log) (i : ℕ) → length es ≤ i → with_each m (drop i es) ≡ all → m ≡ all
gathered_all all m es i h e = sym (ap (with_each m) (drop_past es i h)) ∙ e
