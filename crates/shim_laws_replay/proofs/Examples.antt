-- Journals at work, of a process that has so many quiet steps to do and then ends.
use Rattle.std.specs.Prelude.{◌≡◌, ℕ, zero, suc, pos, true, false, Some, None, [], ◌∷◌, refl}
use Rattle.shim_local.specs.Process.{Ops, StopView, AtQuiet, AtFinish, Trapped}
use Rattle.shim_semantics.specs.Nodes.{Ended}
use Rattle.shim_semantics.specs.Trees.{Tree, Own, End, start}
use Rattle.shim_laws_replay.specs.Journals.{Quiet, Did, replay}

abbrev stop_with : ℕ → StopView
stop_with zero = AtFinish
stop_with (suc n) = AtQuiet

abbrev after_one : ℕ → ℕ
after_one zero = zero
after_one (suc n) = n

abbrev counting_down : Ops ℕ
counting_down = record {
  sound = λ n. Unit {0};
  stop = stop_with;
  quiet = after_one;
  byte = λ n. None;
  put = λ n. n;
  receive = λ n v. n;
  fork = λ n. Trapped n;
  join = λ n ks goes_on. n;
  born = λ n ks. ⊥;
  number = λ n. None;
  thrown = λ n. n;
  unwind = λ n label v. n;
  value = λ n c. pos 0;
  shares = λ n c. false;
  carries = λ n c. false;
  given = λ n. [];
  holds_output = λ n. true;
  path = λ n. [];
  base = λ n. 1;
  handlers = λ n. 1;
  handler = λ n label. (0, 0);
}

-- all its steps in one entry, and then its end
pub whole : (t : Tree ℕ) × (replay counting_down 2 (Quiet [] 2 ∷ Did (End []) ∷ []) ≡ Some t) × (t.root ≡ Ended 0)
unfolding replay
whole = (_, refl, refl)

-- in two entries, one of which has a quiet step as an event
pub in_parts : replay counting_down 2 (Did (Own []) ∷ Quiet [] 1 ∷ []) ≡ replay counting_down 2 (Quiet [] 2 ∷ [])
unfolding replay
in_parts = refl

-- no more quiet steps than it has, none of another process, and no end before them
pub too_many : replay counting_down 2 (Quiet [] 3 ∷ []) ≡ None
unfolding replay
too_many = refl

pub of_another : replay counting_down 2 (Quiet ((0, 0) ∷ []) 1 ∷ []) ≡ None
unfolding replay
of_another = refl

pub too_early : replay counting_down 2 (Quiet [] 1 ∷ Did (End []) ∷ []) ≡ None
unfolding replay
too_early = refl

-- an entry without a step leaves the tree
pub without_a_step : replay counting_down 2 (Quiet [] 0 ∷ []) ≡ Some (start 2)
unfolding replay
without_a_step = refl
