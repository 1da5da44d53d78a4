-- What an event of the code leaves is what it means: the parts of a tree, put together.
use Rattle.std.proofs.Common.{◌≡◌, ◌<◌, ◌≤◌, ◌+◌, ℕ, zero, suc, Bool, true, Some, None, List, [], ◌∷◌, ◌++◌, length, drop, refl, sym, ap, subst, ◌∙◌, arith}
use Rattle.std.specs.Prelude.{◌↔◌, IsTrue}
use Rattle.std.proofs.lemmas.List.{append-nil}
use Rattle.std.specs.FinMap as finite
use Rattle.shim_base.specs.Paths.{Path, path_order}
use Rattle.shim_local.specs.Process.{Ops}
use Rattle.shim_local.specs.Laws.{LocalLaws}
use Rattle.shim_local.specs.declared.Log.{Log}
use Rattle.shim_local.specs.declared.LogWhat.{LogWhat}
use Rattle.shim_semantics.specs.Nodes.{Node, Live, state}
use Rattle.shim_semantics.specs.Acts.{nothing}
use Rattle.shim_semantics.specs.Places.{route, led_to, has_path}
use Rattle.shim_semantics.specs.Trees.{Tree, start, with_logs, count_own, acts, OwnAction, is_its, act_route, count_of, sum}
use Rattle.shim_tree.specs.Acting.{effects_of, acted_on, ActsOn}
use Rattle.shim_tree.specs.Advancing.{AllHaveCounts}
use Rattle.shim_run_log.specs.Reserved.{stepped, HasCount, KeepsCounts, with_count, more_steps}
use Rattle.shim_semantics.specs.Sound.{IsSound}
use Rattle.shim_run_log.specs.Logged.{logged}
use Rattle.shim_run_log.proofs.Logged.{with_one_more}
use Rattle.shim_tree.specs.OwnStepEffects.{DoesOwnStep}
use Rattle.shim_tree.specs.declared.effects.Effects.{Effects}
use Rattle.shim_tree.specs.declared.effects.Effects.TheVariants as variant
use Rattle.shim_run_log.proofs.Reserved.{few_steps, placed, steps_placed, none_stepped, more_stay, steps_more}
use Rattle.shim_tree.proofs.Placed.{still_placed}
use Rattle.shim_semantics.proofs.SoundEvents.{route_sound}
use Rattle.shim_base.proofs.Facts.{first_holds, cond_there}

-- the effects of an event by the code, put or logged
module _ {S : Type 0} (o : Ops S) (p : Path) (before after : Node S) (put put' : List ℕ) (logs logs' : List Log) (t : Effects) (acts_so : ActsOn o p before (effects_of t) after) where
  pub nothing_done : t ≡ variant.Nothing → put' ≡ put → logs' ≡ logs → DoesOwnStep o p before after put put' (logged logs) (logged logs')
  nothing_done is puts same = record {
    effects = nothing;
    acts = subst (λ z. ActsOn o p before (effects_of z) after) is acts_so;
    puts = puts ∙ sym (append-nil put);
    logs_more = ap logged same;
  }

  pub byte_put : (b : ℕ) → t ≡ variant.Byte b → put' ≡ put ++ b ∷ [] → logs' ≡ logs → DoesOwnStep o p before after put put' (logged logs) (logged logs')
  byte_put b is puts same = record {
    effects = effects_of (variant.Byte b);
    acts = subst (λ z. ActsOn o p before (effects_of z) after) is acts_so;
    puts = puts;
    logs_more = ap logged same;
  }

  pub log_added : (w : LogWhat) (e : Log) → t ≡ variant.Log w → put' ≡ put → e.path ≡ p → e.what ≡ w → logs' ≡ logs ++ e ∷ [] → DoesOwnStep o p before after put put' (logged logs) (logged logs')
  log_added w e is puts path what more = record {
    effects = effects_of (variant.Log w);
    acts = subst (λ z. ActsOn o p before (effects_of z) after) is acts_so;
    puts = puts ∙ sym (append-nil put);
    logs_more = ap logged more ∙ (with_one_more finite.empty logs e ∙ (λ i. with_logs (logged logs) (path i) (what i ∷ [])));
  }

-- t is the tree that the code's parts mean, and u the one that they mean afterwards
module _ {S : Type 0} (o : Ops S) (p : Path) (t u v : Tree S) (is : t ≡ v) (did : DoesOwnStep o p t.root u.root t.output u.output t.logs u.logs) (histories : u.histories ≡ t.histories) where
  -- a step of its own, with one count more
  pub own_done : (m m' : finite.FinMap path_order ℕ) → t.counts ≡ stepped m → u.counts ≡ stepped m' → m' ≡ more_steps m p 1 → u.events ≡ t.events → count_own p v (acted_on o p v.root) ≡ Some u
  own_done m m' counts counts' more events =
      let grown = counts' ∙ (ap stepped more ∙ (steps_more m p 1 ∙ ap (λ z. finite.insert z p (count_of z p + 1)) (sym counts))) in
      subst (λ z. count_own p z (acted_on o p z.root) ≡ Some u) is
      (ap (count_own p t) did.acts ∙ (λ i. Some (record { root = u.root; output = sym did.puts i; histories = sym histories i; logs = sym did.logs_more i; counts = sym grown i; events = sym events i })))

-- what a process does by itself leaves a sound tree
pub own_step_sound : {S : Type 0} (o : Ops S) → LocalLaws o → (p : Path) (n n' : Node S) (put put' : List ℕ) (logs logs' : finite.FinMap path_order (List LogWhat)) → IsSound o n → DoesOwnStep o p n n' put put' logs logs' → IsSound o n'
own_step_sound o law p n n' put put' logs logs' s did = route_sound o law (route (o.path (state n)) p) n (record { node = n'; effects = did.effects }) s did.acts

-- one step more takes no place away
pub more_placed : {S : Type 0} (o : Ops S) (m m' : finite.FinMap path_order ℕ) (p : Path) (n : Node S) → m' ≡ more_steps m p 1 → AllHaveCounts o m n → AllHaveCounts o m' n
more_placed o m m' p n e h = still_placed o m m' n (subst (KeepsCounts m) (sym e) (more_stay m p 1)) h

-- a count has room for one step more
pub few_counted : (m : finite.FinMap path_order ℕ) (p : Path) (counts : finite.FinMap path_order ℕ) → stepped m ≡ counts → sum (finite.values counts) < 4000000 → count_of m p + 1 < 18446744073709551616
few_counted m p counts e few =
    let same : sum (finite.values (stepped m)) ≡ sum (finite.values counts) = ap (λ z. sum (finite.values z)) e in
    omega (arith, few_steps m p, same, few)

-- where an event of a process is enabled, its path leads to it
pub its_path : {S : Type 0} (o : Ops S) (k : OwnAction) (p : Path) (root : Node S) → (acts o k p root ≡ None → ⊥) → has_path o p (led_to o root p) ≡ true
its_path {S} o k p root h = its (led_to o root p) (cond_there (is_its o k p (led_to o root p)) (act_route o root (route (o.path (state root)) p)) h).0
  where
    its : (x : _) → is_its o k p x ≡ true → has_path o p x ≡ true
    its None e = absurd cc
    its (Some n) e = first_holds _ _ e

-- the process of a tree in which nothing has happened has its place
pub first_placed : {S : Type 0} (o : Ops S) (l : S) (m m' : finite.FinMap path_order ℕ) (p : Path) → p ≡ o.path l → m' ≡ with_count m p → AllHaveCounts o m' (Live l)
first_placed o l m m' p its e = (subst (HasCount m') its (subst (λ z. HasCount z p) (sym e) (placed m p)), tt)

-- and this is what its parts mean
pub started : {S : Type 0} (l : S) (t : Tree S) → t.root ≡ Live l → t.output ≡ [] → t.histories ≡ finite.empty → (logs : List Log) → logs ≡ [] → (m m' : finite.FinMap path_order ℕ) (p : Path) → m ≡ finite.empty → m' ≡ with_count m p
    → t.logs ≡ logged logs → t.counts ≡ stepped m' → t.events ≡ 0 → t ≡ start l
started l t root output histories logs none m m' p fresh e logs_are counts events =
    let no_logs = logs_are ∙ ap logged none in
    let no_counts = counts ∙ (ap stepped e ∙ (steps_placed m p ∙ (ap stepped fresh ∙ none_stepped))) in
    λ i. record { root = root i; output = output i; histories = histories i; logs = no_logs i; counts = no_counts i; events = events i }

-- the test of the code says what the walk's emptiness does
pub answered_quiescent : (b x : Bool) (Q : Type 0) → b ≡ x → (x ≡ true) ↔ Q → IsTrue b ↔ Q
answered_quiescent b x Q e w = (λ t. w.0 (sym e ∙ t), λ q. e ∙ w.1 q)
