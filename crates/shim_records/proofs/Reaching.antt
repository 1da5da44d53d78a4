-- How many forks a way up led to, and that no counts have moved beyond them.
use Rattle.std.proofs.Common.{◌≡◌, ◌≤◌, ℕ, zero, suc, ◌+◌, Bool, true, false, Option, Some, List, refl, sym, ap, subst, ◌∙◌, arith}
use Rattle.shim_base.specs.Paths.{Channel, same_channel}
use Rattle.shim_base.proofs.SamePaths.{same_channel_is}
use Rattle.shim_records.specs.Pairs.{up_in}
use Rattle.shim_records.specs.Ways.{IsAbove, its_fork, further, CountsMovedWithin, AllCountsMovedWithin, OnlyCounts, ChangesParent}
use Rattle.shim_records.specs.declared.record.Record.{Record}
use Rattle.shim_records.specs.declared.upward.CountChange.{CountChange}
use Rattle.shim_records.proofs.FullPropagation.{same_ups}

module _ (up : ℕ → Option ℕ) where
  -- the first few of them are among the first ones of more
  pub among_more : {n i j : ℕ} (m : ℕ) → n ≤ m → IsAbove up n i j → IsAbove up m i j
  among_more zero less (its_fork n i j e) = absurd (omega (arith, less))
  among_more (suc m) less (its_fork n i j e) = its_fork m i j e
  among_more zero less (further n i j k e w) = absurd (omega (arith, less))
  among_more (suc m) less (further n i j k e w) = further m i j k e (among_more m (omega (arith, less)) w)

  -- the fork of one of them is the next
  pub one_above : {n i j : ℕ} (k : ℕ) → IsAbove up n i j → up j ≡ Some k → IsAbove up (suc n) i k
  one_above k (its_fork n i j e) h = further (suc n) i j k e (its_fork n j k h)
  one_above k (further n i m j e w) h = further (suc n) i m k e (one_above k w h)

-- no counts are moved but those of the first so many
pub farther : (c : Channel) (n m x : ℕ) (before behind : List Record) → n ≤ m → CountsMovedWithin c n x before behind → CountsMovedWithin c m x before behind
farther c n m x before behind less h i out = h i (λ w. out (among_more (up_in before) m less w))

module _ (c : Channel) (x : ℕ) (start : List Record) where
  -- where the way has led through so many forks, and is to go on from a record
  pub record Led (walked : ℕ) (now : List Record) (at : ℕ) : Type 0 where
    pub reached : CountsMovedWithin c walked x start now
    pub next : (i : ℕ) → up_in start at ≡ Some i → IsAbove (up_in start) (suc walked) x i

  pub at_start : Led 0 start x
  at_start = record { reached = λ i out. refl; next = λ i e. its_fork 0 x i e }

  module _ (walked : ℕ) (now : List Record) (here : CountChange) (led : Led walked now here.at) (only : OnlyCounts c start now) where
    its_parent : (i : ℕ) → up_in now here.at ≡ Some i → up_in start here.at ≡ Some i
    its_parent i e = sym (ap (λ u. u here.at) (same_ups c start now only)) ∙ e

    one_more : suc walked ≡ walked + 1
    one_more = omega arith

    -- one fork more
    pub led_to : (next : Option CountChange) (behind : List Record) → ChangesParent c now here next behind → CountsMovedWithin c (walked + 1) x start behind
    led_to next behind moves i out =
        moves.others i (λ e. out (subst (λ n. IsAbove (up_in start) n x i) one_more (led.next i (its_parent i e)))) ∙ led.reached i (λ w. out (among_more (up_in start) (walked + 1) (omega arith) w))

    pub led_on : (next : CountChange) (behind : List Record) → ChangesParent c now here (Some next) behind → Led (walked + 1) behind next.at
    led_on next behind moves = record {
      reached = led_to (Some next) behind moves;
      next = λ i e. subst (λ n. IsAbove (up_in start) (suc n) x i) one_more (one_above (up_in start) i (led.next next.at (its_parent next.at (moves.goes_on next refl))) e);
    }

-- a way moves the counts for its own channel alone
pub one_alone : (c : Channel) (n x : ℕ) (before behind : List Record) → OnlyCounts c before behind → CountsMovedWithin c n x before behind → AllCountsMovedWithin n x before behind
one_alone c n x before behind only reaches d = on (same_channel c d) refl
  where
    on : (b : Bool) → same_channel c d ≡ b → CountsMovedWithin d n x before behind
    on true e = subst (λ z. CountsMovedWithin z n x before behind) (same_channel_is c d e) reaches
    on false e = λ i out. only.elsewhere d e i

-- of several ways one after the other the one that led furthest
pub both_ways : (n m k x : ℕ) (start now behind : List Record) → up_in now ≡ up_in start → n ≤ k → m ≤ k → AllCountsMovedWithin n x start now → AllCountsMovedWithin m x now behind → AllCountsMovedWithin k x start behind
both_ways n m k x start now behind same less more first then c =
    λ i out. then c i (λ w. out (among_more (up_in start) k more (subst (λ u. IsAbove u m x i) same w))) ∙ first c i (λ w. out (among_more (up_in start) k less w))
