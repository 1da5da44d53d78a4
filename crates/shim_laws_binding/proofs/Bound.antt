-- What an answer that was given says of the parts that it is made of.
use Rattle.std.proofs.Common.{ℕ, ◌≡◌, List, Option, Some, None, Result, Ok, refl, sym, ap}
use Rattle.shim_scopes.specs.declared.fault.ScopeKind.{ScopeKind}
use Rattle.shim_scopes.specs.Refusals.{Refusal, refused_for}
use Rattle.shim_scopes.specs.Statements.{Before, BoundTo}
use Rattle.shim_scopes.proofs.Refusals.{bound}

-- a question that was asked has no name to refuse for
pub asked : {A : Type 0} (line : ℕ) (kind : ScopeKind) (o : Option (List ℕ)) (rest : Result A Refusal) (x : A) → refused_for line kind o rest ≡ Ok x → o ≡ None
asked line kind None rest x e = refl
asked line kind (Some n) rest x e = absurd (cc)

pub is_bound : {T : Type 0} (t : T) (b : Before) (r : BoundTo T) → bound t b ≡ Ok r → r ≡ record { tree = t; before = b }
is_bound {T = T} t b r e = let s : BoundTo T = record { tree = t; before = b } in let p : s ≡ r = cc in sym p

pub its_before : {T : Type 0} (t : T) (b : Before) (r : BoundTo T) → bound t b ≡ Ok r → b ≡ r.before
its_before {T = T} t b r e = ap (λ (s : BoundTo T). s.before) (sym (is_bound t b r e))
