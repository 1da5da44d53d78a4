use Rattle.std.proofs.Common.{◌≡◌, true, refl, subst}
use Rattle.shim_base.specs.declared.types.Ty.{Ty}
use Rattle.shim_base.specs.declared.types.Ty.TheVariants.{Bool, Int8, Int16, Int32, Uint8, Uint16, Uint32, Int64}
use Rattle.shim_scopes.specs.Calls.{same_type}
use Rattle.shim_laws_binding.proofs.laws.same_types_are_equal.Goals as goal

equal : (a b : Ty) → same_type a b ≡ true → a ≡ b
equal Bool Bool e = refl
equal Int8 Int8 e = refl
equal Int16 Int16 e = refl
equal Int32 Int32 e = refl
equal Uint8 Uint8 e = refl
equal Uint16 Uint16 e = refl
equal Uint32 Uint32 e = refl
equal Int64 Int64 e = refl
equal _ _ e = absurd (cc e)

itself : (a : Ty) → same_type a a ≡ true
itself Bool = refl
itself Int8 = refl
itself Int16 = refl
itself Int32 = refl
itself Uint8 = refl
itself Uint16 = refl
itself Uint32 = refl
itself Int64 = refl

pub returns : goal.returns
returns c a b = (equal a b, λ same. subst (λ t. same_type a t ≡ true) same (itself a))
