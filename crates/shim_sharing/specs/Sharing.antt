-- The first place of a function that the sharing rule refuses.
use Rattle.std.specs.Prelude.{ℕ, ◌+◌, zero, suc, List, [], ◌∷◌, ◌++◌, Option, Some, None, Bool, true, false, ◌&&◌, ◌||◌, length, map}
use Rattle.std.specs.Option.{option_or}
use Rattle.shim_syntax.specs.declared.tree.Sort.{Sort}
use Rattle.shim_units.specs.declared.found.Given.{Given}
use Rattle.shim_sharing.specs.declared.found.Offence.{Offence}
use Rattle.shim_sharing.specs.declared.found.Offence.TheVariants.{TwoWriters, Alias}
use Rattle.shim_sharing.specs.declared.fork.Clash.{Clash}
use Rattle.shim_units.specs.Parts.{SharingPlace}
use Rattle.shim_units.specs.Parts.SharingPlace.{Fork, Called}
use Rattle.shim_units.specs.Rule.{stands_in}
use Rattle.shim_units.specs.Captures.{Captures, captures, is_reference}

-- the value `a` if the truth value is `true`, and else none
abbrev pub if_true : {A : Type 0} → A → Bool → Option A
if_true a true = Some a
if_true a false = None

-- the least number below n for which p gives `true`, if there is one
abbrev pub least_below : ℕ → (ℕ → Bool) → Option ℕ
least_below zero p = None
least_below (suc n) p = option_or (least_below n p) (if_true n (p n))

-- the least slot below n whose variable both take by reference, if there is one
abbrev pub common : ℕ → Captures → Captures → Option ℕ
common n s t = least_below n (λ x. is_reference (s x) && is_reference (t x))

-- the clash of branches i and j on a variable that both take by reference, if there is one
abbrev pub clash_at : ℕ → ℕ → Option ℕ → Option Clash
clash_at i j None = None
clash_at i j (Some x) = Some (record { first = i; second = j; slot = x })

-- the first clash of branch `i`, which has the captures s, with a branch of the list; the first branch of the list has the number `j`
abbrev pub clash_with : ℕ → ℕ → Captures → ℕ → List Captures → Option Clash
clash_with n i s j [] = None
clash_with n i s j (t ∷ ts) = option_or (clash_at i j (common n s t)) (clash_with n i s (j + 1) ts)

-- the least pair of branches that take one variable by reference; the first branch of the list has the number i
abbrev pub clash_from : ℕ → ℕ → List Captures → Option Clash
clash_from n i [] = None
clash_from n i (t ∷ ts) = option_or (clash_with n i t (i + 1) ts) (clash_from n (i + 1) ts)

-- the offence of a fork on the line, by the clash of two of its branches, if any
abbrev pub clash_offence : ℕ → Option Clash → Option Offence
clash_offence line None = None
clash_offence line (Some c) = Some (TwoWriters line c.first c.second c.slot)

-- the variable of an argument given by reference, if it is another bare argument, too
abbrev pub again : Bool → List Given → List Given → Option ℕ → Option ℕ
again false before after x = None
again true before after None = None
again true before after (Some x) = if_true x (stands_in x before || stands_in x after)

-- the variable of the leftmost argument by reference in the second list that is another bare argument, too; the first list has the arguments before these
abbrev pub given_again : List Given → List Given → Option ℕ
given_again before [] = None
given_again before (g ∷ gs) = option_or (again g.lent before gs g.bare) (given_again (before ++ g ∷ []) gs)

-- the offence of a call on the line, by the variable that it gives by reference and as another bare argument, if any
abbrev pub alias : ℕ → Option ℕ → Option Offence
alias line None = None
alias line (Some x) = Some (Alias line x)

-- Why a place is refused, if it is. Of a fork it is the least clash, and of a call the leftmost alias.
abbrev pub offence_at : List Sort → SharingPlace → Option Offence
offence_at sorts (Fork line branches) = clash_offence line (clash_from (length sorts) 0 (map (captures sorts) branches))
offence_at sorts (Called line gs) = alias line (given_again [] gs)

-- the offence of the first place, in textual order, that the sharing rule refuses
abbrev pub first_offence : List Sort → List SharingPlace → Option Offence
first_offence sorts [] = None
first_offence sorts (p ∷ ps) = option_or (offence_at sorts p) (first_offence sorts ps)
