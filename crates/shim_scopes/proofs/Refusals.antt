-- What an answer of binding that isn't a refusal comes of.
use Rattle.std.proofs.Common.{◌≡◌, ℕ, List, Option, Some, None, Result, Ok, Err, refl, ap}
use Rattle.shim_scopes.specs.declared.fault.ScopeKind.{ScopeKind}
use Rattle.shim_scopes.specs.Refusals.{Refusal, and_then, refused_for}
use Rattle.shim_scopes.specs.Statements.{Before, BoundTo, Meant}

pub passed : {A : Type 0} (line : ℕ) (kind : ScopeKind) (o : Option (List ℕ)) (rest : Result A Refusal) (x : A) → refused_for line kind o rest ≡ Ok x → rest ≡ Ok x
passed line kind None rest x e = e
passed line kind (Some n) rest x e = absurd (cc)

pub first_ok : {A B : Type 0} (m : Result A Refusal) (f : A → Result B Refusal) (y : B) → and_then m f ≡ Ok y → (x : A) × (m ≡ Ok x) × (f x ≡ Ok y)
first_ok (Ok x) f y e = (x, refl, e)
first_ok (Err r) f y e = absurd (cc)

-- a tree, and what then stands before the next place
abbrev pub bound : {T : Type 0} → T → Before → Meant T
bound t b = Ok (record { tree = t; before = b })

pub its_tree : {T : Type 0} (t : T) (b : Before) (r : BoundTo T) → bound t b ≡ Ok r → t ≡ r.tree
its_tree {T = T} t b r e = let s : BoundTo T = record { tree = t; before = b } in let p : s ≡ r = cc in ap (λ (s : BoundTo T). s.tree) p
