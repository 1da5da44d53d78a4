-- A place that is refused. Of several, the first to be asked about is the one reported.
use Rattle.std.specs.Prelude.{ℕ, ◌≡◌, List, Option, Some, None, Result, Ok, Err}
use Rattle.shim_scopes.specs.declared.fault.ScopeKind.{ScopeKind}
use Rattle.shim_scopes.specs.declared.fault.ScopeFault.{ScopeFault}
use Rattle.shim_scopes.specs.declared.fault.ScopeFault.TheVariants.{Refused, NoMemory}

-- a place that is refused
pub record Refusal : Type 0 where
  pub line : ℕ
  pub kind : ScopeKind
  pub name : List ℕ

-- what `f` gives for the value, or the refusal if the place is refused
abbrev pub and_then : {A B : Type 0} → Result A Refusal → (A → Result B Refusal) → Result B Refusal
and_then (Ok a) f = f a
and_then (Err r) f = Err r

-- the refusal of the place for the name, where there is one, and else `rest`
abbrev pub refused_for : {A : Type 0} → ℕ → ScopeKind → Option (List ℕ) → Result A Refusal → Result A Refusal
refused_for line kind None rest = rest
refused_for line kind (Some x) rest = Err (record { line = line; kind = kind; name = x })

-- The answer is the one that is meant: its value, or its first place that is refused. `NoMemory` may come in place of either.
abbrev pub Gives : {T : Type 0} → Result T ScopeFault → Result T Refusal → Type 0
Gives (Ok t) meant = meant ≡ Ok t
Gives (Err (Refused line kind name)) meant = meant ≡ Err (record { line = line; kind = kind; name = name })
Gives (Err NoMemory) meant = Unit {0}
