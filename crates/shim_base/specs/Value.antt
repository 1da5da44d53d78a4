-- What a variable of a type keeps of a number that is stored into it.
use Rattle.std.specs.Prelude.{◌≡◌, zero, ℤ, pos, negsuc, ◌+ℤ◌, ◌-ℤ◌, ◌*ℤ◌, ◌≤ℤ◌, ◌<ℤ◌}
use Rattle.std.specs.Int.{int_rem_euclid}
use Rattle.shim_base.specs.declared.types.Ty.{Ty}
use Rattle.shim_base.specs.declared.types.Ty.TheVariants.{Bool, Int8, Int16, Int32, Uint8, Uint16, Uint32, Int64}

-- the least number of the type
abbrev least : Ty → ℤ
least Bool = pos 0
least Int8 = negsuc 127
least Int16 = negsuc 32767
least Int32 = negsuc 2147483647
least Uint8 = pos 0
least Uint16 = pos 0
least Uint32 = pos 0
least Int64 = negsuc 9223372036854775807

-- how many numbers the type has
abbrev pub size : Ty → ℤ
size Bool = pos 2
size Int8 = pos 256
size Int16 = pos 65536
size Int32 = pos 4294967296
size Uint8 = pos 256
size Uint16 = pos 65536
size Uint32 = pos 4294967296
size Int64 = pos 18446744073709551616

-- the number lies in the type's range
abbrev pub FitsType : Ty → ℤ → Type 0
FitsType ty n = (least ty ≤ℤ n) × (n <ℤ (least ty +ℤ size ty))

-- the number of the type's range that differs from v by a multiple of the type's size
abbrev pub reduced : Ty → ℤ → ℤ
reduced ty v = int_rem_euclid (v -ℤ least ty) (size ty) +ℤ least ty

-- what a variable of the type keeps of v: of `Bool` 0 for 0 and else 1, of each other type v reduced
abbrev pub stored : Ty → ℤ → ℤ
stored Bool (pos zero) = pos 0
stored Bool v = pos 1
stored ty v = reduced ty v

-- v and n are some whole multiple of the type's size apart
pub record DiffersByMultiple (ty : Ty) (v n : ℤ) : Type 0 where
  pub factor : ℤ
  pub is : v ≡ n +ℤ factor *ℤ size ty
