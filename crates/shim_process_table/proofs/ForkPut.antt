-- A fork's children were put: what `ForksAt` says, from what each call did.
use Rattle.std.proofs.Common.{◌≡◌, ◌≤◌, ◌<◌, ◌+◌, ℕ, Option, Some, None, List, map, length, slice_set, refl, sym, ap, subst, ◌∙◌, arith}
use Rattle.std.specs.Prelude.{slice_get}
use Rattle.std.specs.Option.{option_map}
use Rattle.shim_base.specs.Paths.{NamedChannel}
use Rattle.shim_base.proofs.Facts.{some_same, none_some}
use Rattle.shim_local.specs.Process.{Ops}
use Rattle.shim_laws_table.specs.NodeStatus.{ProcessStatus, forks}
use Rattle.shim_laws_table.specs.Agrees.{free, used, Has}
use Rattle.shim_records.specs.Pairs.{record_view}
use Rattle.shim_records.specs.Fresh.{channels, FreshPairs}
use Rattle.shim_records.specs.Blocks.{with_block}
use Rattle.shim_records.specs.declared.pair.Pair.{Pair}
use Rattle.shim_records.specs.declared.record.Record.{Record}
use Rattle.shim_records.proofs.Representing.{map_get}
use Rattle.shim_laws_table_events.specs.forks.Forking.{AreOfChildren, IsOfFork, ready_chans, EachUpdatedAbove, ForksAt}
use Rattle.shim_process_table.specs.Forking.{IsFreeBlock}

free_used : {B : Type 0} (f : ℕ) (k : ProcessStatus) → free ≡ used f k → B
free_used f k e = absurd cc

from_map : {A B : Type 0} (f : A → B) (x : Option A) (y : B) → option_map f x ≡ Some y → (z : A) × (x ≡ Some z) × (f z ≡ y)
from_map f None y e = none_some y e
from_map f (Some z) y e = (z, refl, some_same (f z) y e)

-- no process has a number of a free block
pub none_used : {S B : Type 0} (g n : ℕ) (states : List S) (rs : List Record) → IsFreeBlock g n rs → (b d : ℕ) (t : S) (k : ProcessStatus) → b < n → Has states (map record_view rs) (g + b) d t k → B
none_used g n states rs block b d t k less h =
    let r = from_map record_view (slice_get rs (g + b)) (used d k) (sym (map_get record_view rs (g + b)) ∙ h.view_is) in
    free_used d k (sym (block.free_ones b r.0 less r.1) ∙ r.2)

pub its_record : {S : Type 0} (o : Ops S) (g n : ℕ) (p : S) (ks : List S) (was is : Record) (pairs : List Pair) → length ks ≡ n → record_view is ≡ used g (forks n) → is.parent ≡ was.parent → is.path ≡ was.path → is.going_children ≡ n → is.pairs.items ≡ pairs
    → FreshPairs o p ks pairs → IsOfFork o g p ks was is
its_record o g n p ks was is pairs many forked parent path going_children same fresh = record {
  forked = forked ∙ ap (λ z. used g (forks z)) (sym many);
  parent = parent;
  path = path;
  going_children = going_children ∙ sym many;
  pairs = subst (FreshPairs o p ks) (sym same) fresh;
}

pub put : {S : Type 0} (o : Ops S) (x g n : ℕ) (p : S) (ks states states' : List S) (rs records behind : List Record) (was is : Record) (born : List Record) (chans : List NamedChannel)
    → slice_get rs x ≡ Some was → IsFreeBlock g n rs → length ks ≡ n → n ≤ 4294967295 → AreOfChildren o x ks born → IsOfFork o g p ks was is → states' ≡ with_block g ks (slice_set states x p)
    → channels chans ≡ ready_chans is.pairs.items → records ≡ with_block g born (slice_set rs x is) → EachUpdatedAbove 4294967295 x (channels chans) records behind
    → ForksAt o x g p ks (record { states = states; records = rs }) (record { states = states'; records = behind })
put o x g n p ks states states' rs records behind was is born chans had block many few children parent put_in ready at_first walked = record {
  was = was;
  is = is;
  born = born;
  had = had;
  inside = block.inside;
  unused = λ b d t k less h. none_used g n states rs block b d t k (omega (arith, less, many)) h;
  few = omega (arith, many, few);
  children = children;
  parent = parent;
  states = put_in;
  records = subst (λ z. EachUpdatedAbove 4294967295 x z (with_block g born (slice_set rs x is)) behind) ready (subst (λ z. EachUpdatedAbove 4294967295 x (channels chans) z behind) at_first walked);
}
