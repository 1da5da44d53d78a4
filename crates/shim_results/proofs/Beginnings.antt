-- A run that is stopped: what was put and met in its tree begins what the meaning gives in as many rounds.
use Rattle.std.proofs.Common.{◌≡◌, ◌≤◌, ◌⊎◌, arith, ℕ, zero, suc, ℤ, Option, Some, None, List, [], ◌∷◌, ◌++◌, inl, inr, refl, sym, ap, ◌∙◌, subst}
use Rattle.shim_command.specs.declared.mode.Course.{Course}
use Rattle.shim_command.specs.declared.mode.Course.TheVariants.{ByFirstEvents, InSomeOrder}
use Rattle.shim_local.specs.declared.Ended.{Ended}
use Rattle.shim_process.specs.Forks.{root}
use Rattle.shim_process.specs.LocalState.{LocalState}
use Rattle.shim_process.specs.OwnSlots.{UsesOwnSlots}
use Rattle.shim_process.specs.Ops.{process_ops}
use Rattle.shim_process.proofs.AllLaws.{process_laws}
use Rattle.shim_process.proofs.PlaceRoot.{root_sound}
use Rattle.shim_base.proofs.Facts.{some_same}
use Rattle.shim_local.specs.Process.{Ops}
use Rattle.shim_semantics.specs.Trees.{Tree, Event, Met, after, start}
use Rattle.shim_semantics.specs.Walks.{walk}
use Rattle.shim_semantics.proofs.SoundEvents.{events_keep_sound}
use Rattle.shim_laws_schedules.specs.Orders.{IsPrefix, do_all, or_same, round_of, rounds_of}
use Rattle.shim_laws_schedules.specs.Laws.{IsPrefixOf}
use Rattle.shim_laws_schedules.specs.Rounds.{rounds}
use Rattle.shim_laws_schedules.proofs.EveryPair.{events_commute}
use Rattle.shim_laws_schedules.proofs.Longer.{event_longer, longer_further, longer_same}
use Rattle.shim_laws_schedules.proofs.Orders.{rounds_lead}
use Rattle.shim_reference.proofs.RootChannels.{main_shares_its_own}
use Rattle.shim_results.specs.RunEnds.{AreComparable, BeginAlike, Execution, IsBeginning, IsStoppedAt, IsStoppedEnd, LeadsTo, read_off, status_of, tree_of}
use Rattle.shim_results.proofs.Causes.{spent_steps, decides_spent}
use Rattle.shim_results.proofs.TreeEnds.{end_is, tree_is}
use Rattle.shim_results.proofs.Reached.{is_reached_whole}

-- a tree to which as many events lead as the budget has
pub begins_by : (x : Execution) (t : Tree LocalState) → UsesOwnSlots x.source → LeadsTo x.budget x t → IsBeginning x t
begins_by x t own (es, leads, many) =
    let first = root x.source x.input in
    let sound = (events_keep_sound process_ops process_laws).starts first (root_sound x.source x.input own) (main_shares_its_own first x.source x.input refl) in
    subst (λ (n : ℕ). IsPrefixOf t (rounds process_ops n (start first))) many
    (rounds_lead process_ops process_laws (events_commute process_ops process_laws) (start first) t es sound leads)

-- the meaning, where it is stopped
meaning_stopped : (x : Execution) → UsesOwnSlots x.source → status_of x ≡ 4 → IsStoppedAt x (tree_of x)
meaning_stopped x own four = record { reached = is_reached_whole x own four; counted = spent_steps x own four; goes_on = decides_spent.only x own four }

-- what is printed of a stopped run is read off such a tree
pub stopped_tree : (course : Course) (x : Execution) (e : Ended) → UsesOwnSlots x.source → status_of x ≡ 4 → IsStoppedEnd course x e
    → (t : Tree LocalState) × IsStoppedAt x t × IsBeginning x t × (e ≡ read_off x t)
stopped_tree ByFirstEvents x e own four is =
    let at = meaning_stopped x own four in
    (tree_of x, at, begins_by x (tree_of x) own at.reached, is ∙ (end_is x ∙ ap (read_off x) (sym (tree_is x))))
stopped_tree InSomeOrder x e own four (t, at, is) = (t, at, begins_by x t own at.reached, is)

-- of two lists that begin one list, one begins the other
both_begin : {A : Type 0} (xs ys zs : List A) → IsPrefix xs zs → IsPrefix ys zs → AreComparable xs ys
both_begin [] ys zs one other = inl (ys, refl)
both_begin (x ∷ xs) [] zs one other = inr (x ∷ xs, refl)
both_begin {A = A} (x ∷ xs) (y ∷ ys) zs (more, one) (rest, other) = on (both_begin xs ys) zs one other where
  longer : x ≡ y → AreComparable xs ys → AreComparable (x ∷ xs) (y ∷ ys)
  longer same (inl (between, is)) = inl (between, λ i. same i ∷ is i)
  longer same (inr (between, is)) = inr (between, λ i. sym same i ∷ is i)

  on : ((zs : List A) → IsPrefix xs zs → IsPrefix ys zs → AreComparable xs ys) → (zs : List A) → (x ∷ xs) ++ more ≡ zs → (y ∷ ys) ++ rest ≡ zs → AreComparable (x ∷ xs) (y ∷ ys)
  on shorter [] e f = absurd (cc e)
  on shorter (z ∷ zs) e f =
      let heads : x ≡ y = cc (e, f) in
      let tails : xs ++ more ≡ zs = cc e in
      let others : ys ++ rest ≡ zs = cc f in
      longer heads (shorter zs (more, tails) (rest, others))

-- the values of a channel, under one name
met : (w : Option Met) (h k : Met) (more rest : List ℤ) → w ≡ Some (record { name = h.name; values = h.values ++ more }) → w ≡ Some (record { name = k.name; values = k.values ++ rest })
    → (h.name ≡ k.name) × AreComparable h.values k.values
met w h k more rest one other =
    let same = some_same (record { name = h.name; values = h.values ++ more }) (record { name = k.name; values = k.values ++ rest }) (sym one ∙ other) in
    (ap (λ (m : Met). m.name) same, both_begin h.values k.values (h.values ++ more) (more, refl) (rest, sym (ap (λ (m : Met). m.values) same)))

module _ {S : Type 0} (o : Ops S) where
  -- the events that still happen take nothing back, nor does a round
  done_longer : (es : List Event) (t : Tree S) → IsPrefixOf t (do_all (after o) es t)
  done_longer [] t = longer_same t
  done_longer (e ∷ es) t = by_event (done_longer es) (after o e t) refl where
    by_event : ((u : Tree S) → IsPrefixOf u (do_all (after o) es u)) → (x : Option (Tree S)) → after o e t ≡ x → IsPrefixOf t (do_all (after o) es (or_same t x))
    by_event later None is = later t
    by_event later (Some u) is = longer_further t u (do_all (after o) es u) (event_longer o e t u is) (later u)

  -- more rounds put and meet more
  later_longer : (m : ℕ) (t : Tree S) → IsPrefixOf t (rounds_of (after o) (λ z. walk o z.root) m t)
  later_longer zero t = longer_same t
  later_longer (suc m) t =
      let next = round_of (after o) (λ z. walk o z.root) t in
      longer_further t next (rounds_of (after o) (λ z. walk o z.root) m next) (done_longer (walk o t.root) t) (later_longer m next)

  more_longer : (n m : ℕ) (t : Tree S) → n ≤ m → IsPrefixOf (rounds_of (after o) (λ z. walk o z.root) n t) (rounds_of (after o) (λ z. walk o z.root) m t)
  more_longer zero m t few = later_longer m t
  more_longer (suc n) zero t few = absurd (omega (arith, few))
  more_longer (suc n) (suc m) t few = more_longer n m (round_of (after o) (λ z. walk o z.root) t) (omega (arith, few))

  pub rounds_longer : (n m : ℕ) (t : Tree S) → n ≤ m → IsPrefixOf (rounds o n t) (rounds o m t)
  unfolding rounds
  rounds_longer n m t few = more_longer n m t few

begins_longer : (x y : Execution) (t : Tree LocalState) → x.source ≡ y.source → x.input ≡ y.input → x.budget ≤ y.budget → IsBeginning x t → IsBeginning y t
begins_longer x y t source input few begins =
    let there : IsPrefixOf t (rounds process_ops x.budget (start (root y.source y.input))) =
    subst (λ (l : LocalState). IsPrefixOf t (rounds process_ops x.budget (start l))) (λ i. root (source i) (input i)) begins in
    longer_further t _ _ there (rounds_longer process_ops x.budget y.budget (start (root y.source y.input)) few)

both_alike : (y : Execution) (t u : Tree LocalState) → IsBeginning y t → IsBeginning y u → BeginAlike t u
both_alike y t u one other = record {
  output = both_begin t.output u.output _ one.output other.output;
  histories = λ c h k here there. let more = one.histories c h here in let rest = other.histories c k there in met _ h k more.0 rest.0 more.1 rest.1;
}

-- so it is with what was put and met in two trees that begin what one source gives on one input
pub begin_alike : (x y : Execution) (t u : Tree LocalState) → x.source ≡ y.source → x.input ≡ y.input → IsBeginning x t → IsBeginning y u → BeginAlike t u
begin_alike x y t u source input one other = by_budget (ordered x.budget y.budget) where
  ordered : (n m : ℕ) → (n ≤ m) ⊎ (m ≤ n)
  ordered zero m = inl (omega arith)
  ordered (suc n) zero = inr (omega arith)
  ordered (suc n) (suc m) = more (ordered n m) where
    more : (n ≤ m) ⊎ (m ≤ n) → (suc n ≤ suc m) ⊎ (suc m ≤ suc n)
    more (inl few) = inl (omega (arith, few))
    more (inr few) = inr (omega (arith, few))

  by_budget : (x.budget ≤ y.budget) ⊎ (y.budget ≤ x.budget) → BeginAlike t u
  by_budget (inl few) = both_alike y t u (begins_longer x y t source input few one) other
  by_budget (inr few) = both_alike x t u one (begins_longer y x u (sym source) (sym input) few other)
