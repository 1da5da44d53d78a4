-- A source that is read up to one byte past a limit.
use Rattle.std.proofs.Common.{◌≡◌, ℕ, ◌+◌, ◌-◌, ◌^◌, ◌<◌, ◌≤◌, List, [], ◌++◌, length, take, min, Option, Some, None, IfSome, option_map, ap, sym, ◌∙◌, arith}
use Rattle.std.proofs.lemmas.List.{length-take, take_all}

-- no more bytes than asked for are all of them
pub is_whole : (source : Option (List ℕ)) (limit most : ℕ) (bytes : List ℕ) → limit ≡ min (most + 1) (2 ^ 64 - 1) →
    IfSome (option_map (λ known. take limit known) source) (λ read. bytes ≡ [] ++ read) → length bytes ≤ most → length bytes < 2 ^ 63 →
    IfSome source (λ known. known ≡ bytes)
is_whole None limit most bytes limit_is read within small = tt
is_whole (Some known) limit most bytes limit_is read within small =
    let counted : length bytes ≡ min limit (length known) = ap length read ∙ length-take limit known in
    let all : length known ≤ limit = omega arith in
    sym (read ∙ take_all limit known all)

-- one byte more than asked for shows that there are more
pub is_longer : (source : Option (List ℕ)) (limit most : ℕ) (bytes : List ℕ) →
    IfSome (option_map (λ known. take limit known) source) (λ read. bytes ≡ [] ++ read) → most < length bytes →
    IfSome source (λ known. most < length known)
is_longer None limit most bytes read more = tt
is_longer (Some known) limit most bytes read more =
    let counted : length bytes ≡ min limit (length known) = ap length read ∙ length-take limit known in
    omega arith
