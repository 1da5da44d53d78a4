-- When two kinds of process are tied: a relation of their states that every call keeps.
use Rattle.std.specs.Prelude.{◌≡◌, ◌<◌, ◌≤◌, ℕ, ℤ, Bool, true, List, [], ◌∷◌}
use Rattle.shim_base.specs.Paths.{Channel, NamedChannel}
use Rattle.shim_local.specs.Process.{Ops, ForkedView, Parted, Trapped, AtQuiet, AtNext, AtPut, AtFork, AtThrow}
use Rattle.shim_local.specs.Laws.{AllOf}

-- there are as many of one kind as of the other, and those in the same place are tied
abbrev pub AllTied : {A B : Type 0} → (A → B → Type 0) → List A → List B → Type 0
AllTied R [] [] = Unit {0}
AllTied R (l ∷ ls) (m ∷ ms) = R l m × AllTied R ls ms
AllTied R [] (m ∷ ms) = ⊥
AllTied R (l ∷ ls) [] = ⊥

-- both forks trap, and leave tied processes; or they leave tied parents, with as many children, which are tied one by one
abbrev pub ForksTied : {A B : Type 0} → (A → B → Type 0) → ForkedView A → ForkedView B → Type 0
ForksTied R (Parted l ls) (Parted m ms) = R l m × AllTied R ls ms
ForksTied R (Trapped l) (Trapped m) = R l m
ForksTied R (Parted l ls) (Trapped m) = ⊥
ForksTied R (Trapped l) (Parted m ms) = ⊥

-- the two states are tied, and each is sound
abbrev pub AreTied : {A B : Type 0} → Ops A → Ops B → (A → B → Type 0) → A → B → Type 0
AreTied o p R l m = o.sound l × p.sound m × R l m

-- Every call keeps the relation. Of tied states it answers the same and leaves tied states, wherever it may be called of both.
pub record KeepsTied {A B : Type 0} (o : Ops A) (p : Ops B) (R : A → B → Type 0) : Type 0 where
  pub stop : (l : A) (m : B) → AreTied o p R l m → o.stop l ≡ p.stop m
  pub quiet : (l : A) (m : B) → AreTied o p R l m → o.stop l ≡ AtQuiet → R (o.quiet l) (p.quiet m)
  pub byte : (l : A) (m : B) → AreTied o p R l m → o.stop l ≡ AtPut → o.byte l ≡ p.byte m
  pub put : (l : A) (m : B) → AreTied o p R l m → o.stop l ≡ AtPut → R (o.put l) (p.put m)
  pub receive : (l : A) (m : B) (c : NamedChannel) (v : ℤ) → AreTied o p R l m → o.stop l ≡ AtNext c → R (o.receive l v) (p.receive m v)
  pub fork : (l : A) (m : B) → AreTied o p R l m → o.stop l ≡ AtFork → ForksTied R (o.fork l) (p.fork m)
  pub join : (l : A) (m : B) (ls : List A) (ms : List B) (goes_on : Bool) → AreTied o p R l m → AllOf o.sound ls → AllOf p.sound ms → AllTied R ls ms
      → o.born l ls → p.born m ms → R (o.join l ls goes_on) (p.join m ms goes_on)
  pub number : (l : A) (m : B) (label : ℕ) → AreTied o p R l m → o.stop l ≡ AtThrow label → o.number l ≡ p.number m
  pub thrown : (l : A) (m : B) (label : ℕ) → AreTied o p R l m → o.stop l ≡ AtThrow label → R (o.thrown l) (p.thrown m)
  pub unwind : (l : A) (m : B) (label : ℕ) (v : ℤ) → AreTied o p R l m → o.base l ≤ label → label < o.handlers l → R (o.unwind l label v) (p.unwind m label v)
  pub value : (l : A) (m : B) (c : Channel) → AreTied o p R l m → o.carries l c ≡ true → o.value l c ≡ p.value m c
  pub shares : (l : A) (m : B) (c : Channel) → AreTied o p R l m → o.shares l c ≡ p.shares m c
  pub carries : (l : A) (m : B) (c : Channel) → AreTied o p R l m → o.carries l c ≡ p.carries m c
  pub given : (l : A) (m : B) → AreTied o p R l m → o.given l ≡ p.given m
  pub holds_output : (l : A) (m : B) → AreTied o p R l m → o.holds_output l ≡ p.holds_output m
  pub path : (l : A) (m : B) → AreTied o p R l m → o.path l ≡ p.path m
  pub base : (l : A) (m : B) → AreTied o p R l m → o.base l ≡ p.base m
  pub handlers : (l : A) (m : B) → AreTied o p R l m → o.handlers l ≡ p.handlers m
  pub handler : (l : A) (m : B) (label : ℕ) → AreTied o p R l m → o.base l ≤ label → label < o.handlers l → o.handler l label ≡ p.handler m label
