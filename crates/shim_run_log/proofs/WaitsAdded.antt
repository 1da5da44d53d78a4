-- Waits added one after another are the map of all of them.
use Rattle.std.proofs.Common.{◌≡◌, Bool, true, false, Option, Some, None, List, [], ◌∷◌, ◌++◌, map, cond, refl, sym, ap, ◌∙◌}
use Rattle.std.specs.Option.{is_some}
use Rattle.std.specs.Ordering.{eq_by_cmp}
use Rattle.std.specs.FinMap.{FinMap, find, get, insert, entries, empty, contains_key, from_entries, get-empty, get-insert, get-from_entries, get_tied, same_map}
use Rattle.shim_base.specs.Paths.{Path, NamedChannel, path_order}
use Rattle.shim_base.specs.PathLaws.{path_order_total, exact_path}
use Rattle.shim_local.specs.Process.{Ops}
use Rattle.shim_local.specs.declared.Outcome.TheVariants.{Blocked}
use Rattle.shim_semantics.specs.Nodes as model
use Rattle.shim_semantics.specs.Endings.{wait_at, waits_of, waiting}
use Rattle.shim_run_log.specs.Waits.{with_wait, with_waits}
use Rattle.std.proofs.lemmas.Bool.{true≢false, false≢true}
use Rattle.shim_run_log.proofs.Mapped.{tied}

pub with_both : (m : FinMap path_order NamedChannel) (xs ys : List (Path × NamedChannel)) → with_waits m (xs ++ ys) ≡ with_waits (with_waits m xs) ys
with_both m [] ys = refl
with_both m (x ∷ xs) ys = with_both (with_wait m x.0 x.1) xs ys

-- what the first map has at a key, or else what the entries have there
abbrev or_found : Option NamedChannel → Option NamedChannel → Option NamedChannel
or_found (Some c) o = Some c
or_found None o = o

or_nothing : (x : Option NamedChannel) → x ≡ or_found x None
or_nothing (Some c) = refl
or_nothing None = refl

or_itself : (b : Bool) (x : Option NamedChannel) (c : NamedChannel) → (b ≡ true → is_some x ≡ true) → x ≡ or_found x (cond b (Some c) None)
or_itself b (Some d) c h = refl
or_itself true None c h = absurd (false≢true (h refl))
or_itself false None c h = refl

or_new : (b : Bool) (x : Option NamedChannel) (c : NamedChannel) → (b ≡ true → is_some x ≡ false) → cond b (Some c) x ≡ or_found x (cond b (Some c) None)
or_new true (Some d) c h = absurd (true≢false (h refl))
or_new false (Some d) c h = refl
or_new true None c h = refl
or_new false None c h = refl

or_later : (b : Bool) (x y : Option NamedChannel) (c : NamedChannel) → or_found (or_found x (cond b (Some c) None)) y ≡ or_found x (cond b (Some c) y)
or_later b (Some d) y c = refl
or_later true None y c = refl
or_later false None y c = refl

same_wait : (m : FinMap path_order NamedChannel) (p q : Path) → eq_by_cmp path_order q p ≡ true → contains_key m q ≡ contains_key m p
same_wait m p q t = sym (ap is_some (get_tied path_order_total m q p (tied (path_order q p) t)))

get_wait : (m : FinMap path_order NamedChannel) (p : Path) (c : NamedChannel) (b : Bool) (q : Path) → contains_key m p ≡ b
    → get (cond b m (insert m p c)) q ≡ or_found (get m q) (cond (eq_by_cmp path_order q p) (Some c) None)
get_wait m p c true q is = or_itself (eq_by_cmp path_order q p) (get m q) c (λ t. same_wait m p q t ∙ is)
get_wait m p c false q is = get-insert path_order_total m p c q ∙ or_new (eq_by_cmp path_order q p) (get m q) c (λ t. same_wait m p q t ∙ is)

get_waits : (m : FinMap path_order NamedChannel) (ws : List (Path × NamedChannel)) (q : Path) → get (with_waits m ws) q ≡ or_found (get m q) (find path_order q ws)
get_waits m [] q = or_nothing (get m q)
get_waits m (w ∷ ws) q =
    get_waits (with_wait m w.0 w.1) ws q
    ∙ ap (λ x. or_found x (find path_order q ws)) (get_wait m w.0 w.1 _ q refl)
    ∙ or_later (eq_by_cmp path_order q w.0) (get m q) (find path_order q ws) w.1

-- the waits that are kept in the order of a walk are the entries' map
pub all_waits : (ws : List (Path × NamedChannel)) → with_waits empty ws ≡ from_entries ws
all_waits ws = same_map path_order_total exact_path _ _ (λ q.
    get_waits empty ws q ∙ ap (λ x. or_found x (find path_order q ws)) (get-empty path_order q) ∙ sym (get-from_entries path_order_total ws q))

module _ {S : Type 0} (o : Ops S) where
  pub blocked_waits : (w none : FinMap path_order NamedChannel) (n : model.Node S) → none ≡ empty → w ≡ with_waits none (waiting o n) → map wait_at (entries w) ≡ waits_of o n Blocked
  blocked_waits w none n e is = ap (λ z. map wait_at (entries z)) (is ∙ ap (λ z. with_waits z (waiting o n)) e ∙ all_waits (waiting o n))
