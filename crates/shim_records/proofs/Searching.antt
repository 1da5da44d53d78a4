-- The search for the pair of a channel.
use Rattle.std.proofs.Common.{◌≡◌, ℕ, suc, ◌+◌, Bool, true, false, Option, Some, None, List, [], ◌∷◌, cond, refl, ap, ◌∙◌, arith}
use Rattle.std.specs.Prelude.{position}
use Rattle.std.specs.List.{position_from}
use Rattle.std.specs.Option.{option_map}
use Rattle.std.proofs.lemmas.Iterator.Adapters.{position_from-zero}
use Rattle.shim_base.specs.Paths.{Channel, same_channel}
use Rattle.shim_records.specs.Pairs.{pair_index}
use Rattle.shim_records.specs.declared.pair.Pair.{Pair}

-- a place after the first one, counted from a number on
behind_first : (i : ℕ) (o : Option ℕ) → option_map (λ k. i + 1 + k) o ≡ option_map (λ k. i + k) (option_map suc o)
behind_first i None = refl
behind_first i (Some k) = ap Some (omega arith)

-- a search that counts from a number on finds the pair as many places after it
found_from : (c : Channel) (i : ℕ) (ps : List Pair) → position_from (λ (p : Pair). same_channel p.chan.channel c) i ps ≡ option_map (λ k. i + k) (pair_index c ps)
found_from c i [] = refl
found_from c i (p ∷ ps) = at_first (same_channel p.chan.channel c) (found_from c (i + 1) ps)
  where
    at_first : (b : Bool) → position_from (λ (q : Pair). same_channel q.chan.channel c) (i + 1) ps ≡ option_map (λ k. i + 1 + k) (pair_index c ps)
        → cond b (Some i) (position_from (λ (q : Pair). same_channel q.chan.channel c) (i + 1) ps) ≡ option_map (λ k. i + k) (cond b (Some 0) (option_map suc (pair_index c ps)))
    at_first true e = ap Some (omega arith)
    at_first false e = e ∙ behind_first i (pair_index c ps)

from_zero : (o : Option ℕ) → option_map (λ k. 0 + k) o ≡ o
from_zero None = refl
from_zero (Some k) = ap Some (omega arith)

-- what a search from the front finds is where the pair stands
pub place_found : (c : Channel) (ps : List Pair) → position (λ (p : Pair). same_channel p.chan.channel c) ps ≡ pair_index c ps
place_found c ps = position_from-zero (λ (p : Pair). same_channel p.chan.channel c) ps ∙ (found_from c 0 ps ∙ from_zero (pair_index c ps))
