-- Two answers that are related: of what may be there, and of tests that agree.
use Rattle.std.proofs.Common.{◌≡◌, ◌≢◌, ◌↔◌, Bool, true, false, Option, Some, None, cond, refl, subst}
use Rattle.shim_semantics.specs.Nodes.{or_else}
use Rattle.shim_base.proofs.Facts.{some_same, none_some}

-- nothing is there on both sides, or what is there is related
abbrev pub BothOrNone : {A B : Type 0} → (A → B → Type 0) → Option A → Option B → Type 0
BothOrNone R (Some x) (Some y) = R x y
BothOrNone R None None = Unit {0}
BothOrNone R (Some x) None = ⊥
BothOrNone R None (Some y) = ⊥

-- two tests that agree choose on the same side
pub both_chosen : {A B : Type 0} (R : A → B → Type 0) (b d : Bool) (x w : A) (y z : B) → b ≡ d → (b ≡ true → R x y) → (b ≡ false → R w z) → R (cond b x w) (cond d y z)
both_chosen R true true x w y z e f g = f refl
both_chosen R false false x w y z e f g = g refl
both_chosen R true false x w y z e f g = absurd cc
both_chosen R false true x w y z e f g = absurd cc

pub both_or_else : {A B : Type 0} (R : A → B → Type 0) (x w : Option A) (y z : Option B) → BothOrNone R x y → BothOrNone R w z → BothOrNone R (or_else x w) (or_else y z)
both_or_else R (Some x) w (Some y) z h g = h
both_or_else R None w None z h g = g
both_or_else R (Some x) w None z h g = absurd h
both_or_else R None w (Some y) z h g = absurd h

-- what is there on both sides is related
pub both_there : {A B : Type 0} (R : A → B → Type 0) (x : Option A) (y : Option B) (a : A) (b : B) → BothOrNone R x y → x ≡ Some a → y ≡ Some b → R a b
both_there R (Some x) (Some y) a b h e f = subst (λ z. R z b) (some_same x a e) (subst (λ z. R x z) (some_same y b f) h)
both_there R None y a b h e f = none_some a e
both_there R (Some x) None a b h e f = none_some b f

-- where one is there, so is the other
pub other_there : {A B : Type 0} (R : A → B → Type 0) (x : Option A) (y : Option B) (a : A) → BothOrNone R x y → x ≡ Some a → (b : B) × (y ≡ Some b)
other_there R (Some x) (Some y) a h e = (y, refl)
other_there R None y a h e = none_some a e
other_there R (Some x) None a h e = absurd h

pub there_alike : {A B : Type 0} (R : A → B → Type 0) (x : Option A) (y : Option B) → BothOrNone R x y → (x ≢ None) ↔ (y ≢ None)
there_alike R (Some x) (Some y) h = (λ n e. absurd cc, λ n e. absurd cc)
there_alike R None None h = (λ n e. n refl, λ n e. n refl)
there_alike R (Some x) None h = absurd h
there_alike R None (Some y) h = absurd h
