-- The map in which a table of names has their numbers.
use Rattle.std.specs.Prelude.{ℕ, ◌≡◌, List, Option, position}
use Rattle.std.specs.declared.cmp.Ordering.{Ordering}
use Rattle.std.specs.BTreeMap.{BTreeMap, get_by}
use Rattle.std.specs.Cmp.Lexicographic.{slice_cmp}
use Rattle.std.specs.Global.{Vec}
use Rattle.std.specs.Ordering.{nat_cmp}
use Rattle.std.specs.Str.{bytes_eq}
use Rattle.shim_syntax.specs.Names.{Texts}

-- how a name compares to a key
abbrev pub against_key : List ℕ → Vec ℕ → Ordering
against_key x key = slice_cmp nat_cmp x key.items

-- what the map has for a name
abbrev pub number_at : BTreeMap (Vec ℕ) ℕ → List ℕ → Option ℕ
number_at numbers x = get_by (against_key x) numbers

-- each name of the list has its place there as its number, and no other name has one
abbrev pub IsIndex : Texts → BTreeMap (Vec ℕ) ℕ → Type 0
IsIndex names numbers = (x : List ℕ) → number_at numbers x ≡ position (λ n. bytes_eq n x) names
