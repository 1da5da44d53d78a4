-- What a fork in place comes to, for the tree that is shown.
use Rattle.std.proofs.Common.{◌≡◌, ◌≤◌, ℕ, zero, suc, ◌+◌, List, [], ◌∷◌, length, slice_set, refl, sym, ap, subst, ◌∙◌, arith}
use Rattle.std.specs.Prelude.{get_or}
use Rattle.std.proofs.lemmas.List.{length-set}
use Rattle.std.proofs.lemmas.Option.{slice_get_read, slice_get_within}
use Rattle.shim_base.proofs.Facts.{some_same}
use Rattle.shim_local.specs.Process.{Ops, AtFork, Parted, Trapped}
use Rattle.shim_local.specs.Laws.{LocalLaws}
use Rattle.shim_laws_table.specs.NodeStatus.{lives}
use Rattle.shim_laws_table.proofs.Hanging.{tree_of}
use Rattle.shim_records.specs.declared.record.Record.{Record}
use Rattle.shim_records.proofs.Stepping.{set_elsewhere}
use Rattle.shim_laws_table_events.specs.keeping.Tables.{TableView, HasProcessState, HasTableInvariant}
use Rattle.shim_records.specs.Blocks.{with_one, with_block}
use Rattle.shim_laws_table_events.specs.forks.Forking.{ForksAt}
use Rattle.shim_laws_table_events.proofs.forks.Forks.{fork_preserves, forks_say}
use Rattle.shim_laws_table_events.proofs.forks.Traps.{fork_trap_preserves}
use Rattle.shim_process_table.specs.Forking.{HasForkedHere, HasTrappedHere}
use Rattle.shim_process_table.specs.Touching.{ChangesOnlyForking}
use Rattle.shim_process_table.proofs.Touching.{touches_none, touches_above}

-- a block that is put makes a list longer by its own length at most
block_long : {A : Type 0} (g : ℕ) (xs ys : List A) → length (with_block g xs ys) ≤ length ys + length xs
block_long g [] ys = omega arith
block_long g (x ∷ xs) ys = let w = block_long (g + 1) xs (with_one g x ys) in let y = one_long g x ys in omega (arith, w, y)
  where
    one_long : {A : Type 0} (g : ℕ) (x : A) (ys : List A) → length (with_one g x ys) ≤ length ys + 1
    one_long g x [] = omega arith
    one_long zero x (y ∷ ys) = omega arith
    one_long (suc g) x (y ∷ ys) = let w = one_long g x ys in omega (arith, w)

module _ {S : Type 0} (o : Ops S) (law : LocalLaws o) (before behind : TableView S) (x f : ℕ) (l p : S) (has : HasProcessState before x f l lives) (stop : o.stop l ≡ AtFork) where
  module _ (g n : ℕ) (ks : List S) (parts : o.fork l ≡ Parted p ks) (put : ForksAt o x g p ks before behind) where
    -- the records still show a tree
    pub still_kept : HasTableInvariant o before → HasTableInvariant o behind
    still_kept kept = let m = fork_preserves o law x g f l p ks before behind has stop parts put kept.0 (tree_of o kept.1) kept.2 in (kept.0, m.0.root, m.2)

    pub forked_here : HasTableInvariant o before → length ks ≡ n → g + length ks ≤ 4294967295 → (m : ℕ) → ChangesOnlyForking m x g (length ks) before behind → HasForkedHere o m x g n before behind
    forked_here kept many few m touches =
        let says = forks_say o law x g f l p ks before behind has stop parts put kept.0 (tree_of o kept.1) kept.2 in
        record {
          was_first = f;
          was = l;
          is = p;
          born = ks;
          lived = has;
          stop_was = stop;
          forked = parts;
          many = many;
          fits = omega (arith, many, few);
          unused = λ b d t k less h. put.unused b d t k (omega (arith, less, many)) h;
          becomes = says;
          moves = fork_preserves o law x g f l p ks before behind has stop parts put;
          touches = subst (λ z. ChangesOnlyForking m x g z before behind) many touches;
        }

    -- there are as many records more as there are children, at most
    pub few_more : HasTableInvariant o before → length behind.records ≤ length before.records + length ks
    few_more kept =
        let m = fork_preserves o law x g f l p ks before behind has stop parts put kept.0 (tree_of o kept.1) kept.2 in
        let was = kept.2.beside in
        let is = m.2.beside in
        let long = ap length put.states in
        let set = length-set before.states x p in
        let most = block_long g ks (slice_set before.states x p) in
        omega (arith, was, is, long, set, most)

module _ {S : Type 0} (o : Ops S) (law : LocalLaws o) (before : TableView S) (x f : ℕ) (l p : S) (has : HasProcessState before x f l lives) (stop : o.stop l ≡ AtFork) (traps : o.fork l ≡ Trapped p) where
  abbrev trapped : TableView S
  trapped = record { states = slice_set before.states x p; records = before.records }

  pub trapped_here : HasTrappedHere o x before trapped
  trapped_here = record {
    first = f;
    was = l;
    is = p;
    lived = has;
    stop_was = stop;
    trapped = traps;
    behind_is = refl;
    moves = fork_trap_preserves o law x f l p before has stop traps;
    touches = touches_above 0 x before trapped (touches_none 0 x before.records before.records refl) (λ i far. set_elsewhere before.states x i p far);
  }

  pub trapped_kept : HasTableInvariant o before → HasTableInvariant o trapped
  trapped_kept kept = let m = fork_trap_preserves o law x f l p before has stop traps kept.0 (tree_of o kept.1) kept.2 in (kept.0, m.0.root, m.2)

-- it is the state that was copied
pub is_copied : {S : Type 0} (o : Ops S) (i f : ℕ) (states : List S) (rs : List Record) (l copy : S) → HasProcessState (record { states = states; records = rs }) i f l lives → copy ≡ get_or states i copy → l ≡ copy
is_copied o i f states rs l copy h e = some_same l copy (sym h.state_is ∙ slice_get_read states (length states) i copy refl (slice_get_within states i l h.state_is) e)
