-- Sums, and their residues modulo a million.
use Rattle.std.proofs.Common.{◌≡◌, ◌∙◌, ◌<◌, ◌+◌, ◌*◌, ◌%◌, ℕ, ℤ, pos, negsuc, ◌+ℤ◌, List, [], ◌∷◌, ◌++◌, drop, get_or, length, refl, sym, ap, arith}
use Rattle.std.proofs.lemmas.Int.{int_rem_euclid_is, ints}
use Rattle.std.proofs.lemmas.List.{at_drop_more}
use Rattle.std.specs.Int.RustNames.{unsigned_abs}
use Rattle.shim_local.specs.declared.ended.History.{History}
use Rattle.shim_report.specs.Summary.{all_values, residue, sum_of_values}

-- a number that some millions bring to a natural one
shifted : (z : ℤ) → (k : ℕ) × (m : ℕ) × (z +ℤ pos (k * 1000000) ≡ pos m)
shifted (pos a) = (0, a, omega (arith, ints))
shifted (negsuc a) = (a + 1, (a + 1) * 999999, omega (arith, ints))

residue_by : (z : ℤ) (k m : ℕ) → z +ℤ pos (k * 1000000) ≡ pos m → residue z ≡ m % 1000000
residue_by z k m e = ap unsigned_abs (int_rem_euclid_is z (pos 1000000) 1000000 k m (omega arith) refl e)

-- a number may be replaced by its residue before another one is added
residue_first : (z t : ℤ) → residue (pos (residue z) +ℤ t) ≡ residue (z +ℤ t)
residue_first z t =
    let a = shifted z in
    let b = shifted t in
    let ra = residue_by z a.0 a.1 a.2 in
    let one = residue_by (pos (residue z) +ℤ t) b.0 (residue z + b.1) (let e = b.2 in omega (arith, ints)) in
    let two = residue_by (z +ℤ t) (a.0 + b.0) (a.1 + b.1) (let e = a.2 in let f = b.2 in omega (arith, ints)) in
    one ∙ ap (λ r. (r + b.1) % 1000000) ra ∙ omega arith ∙ sym two

-- so may one that is added
residue_second : (s : ℕ) (v : ℤ) → (s + residue v) % 1000000 ≡ residue (pos s +ℤ v)
residue_second s v =
    let b = shifted v in
    let rb = residue_by v b.0 b.1 b.2 in
    let two = residue_by (pos s +ℤ v) b.0 (s + b.1) (let e = b.2 in omega (arith, ints)) in
    ap (λ r. (s + r) % 1000000) rb ∙ omega arith ∙ sym two

-- one value is added
pub one_added : (s : ℕ) (v t : ℤ) → residue (pos ((s + residue v) % 1000000) +ℤ t) ≡ residue (pos s +ℤ (v +ℤ t))
one_added s v t =
    ap (λ n. residue (pos n +ℤ t)) (residue_second s v) ∙ residue_first (pos s +ℤ v) t
    ∙ ap residue (omega (arith, ints))

total_joined : (a b : List ℤ) → sum_of_values (a ++ b) ≡ sum_of_values a +ℤ sum_of_values b
total_joined [] b = omega (arith, ints)
total_joined (v ∷ vs) b = let e = total_joined vs b in omega (arith, ints)

-- the values of a list are added
pub list_added : (s : ℕ) (a b : List ℤ) → residue (pos (residue (pos s +ℤ sum_of_values a)) +ℤ sum_of_values b) ≡ residue (pos s +ℤ sum_of_values (a ++ b))
list_added s a b = residue_first (pos s +ℤ sum_of_values a) (sum_of_values b) ∙ ap residue (let e = total_joined a b in omega (arith, ints))

-- So the values after a place are brought to the same residue from the sum that has the value of that place as from the one that lacks it.
pub value_added : (s r i g : ℕ) (vs : List ℤ) (d : ℤ) → i < length vs → r ≡ residue (get_or vs i d) → residue (pos s +ℤ sum_of_values (drop i vs)) ≡ g → residue (pos ((s + r) % 1000000) +ℤ sum_of_values (drop (i + 1) vs)) ≡ g
value_added s r i g vs d inside is e =
    ap (λ x. residue (pos ((s + x) % 1000000) +ℤ sum_of_values (drop (i + 1) vs))) is ∙ one_added s (get_or vs i d) (sum_of_values (drop (i + 1) vs))
    ∙ sym (at_drop_more (λ l. residue (pos s +ℤ sum_of_values l)) vs i d inside) ∙ e

-- and the histories after a place likewise
pub history_added : (s r i g : ℕ) (hs : List History) (d : History) → i < length hs → r ≡ residue (pos s +ℤ sum_of_values (get_or hs i d).values) → residue (pos s +ℤ sum_of_values (all_values (drop i hs))) ≡ g
    → residue (pos r +ℤ sum_of_values (all_values (drop (i + 1) hs))) ≡ g
history_added s r i g hs d inside is e =
    ap (λ x. residue (pos x +ℤ sum_of_values (all_values (drop (i + 1) hs)))) is ∙ list_added s (get_or hs i d).values (all_values (drop (i + 1) hs))
    ∙ sym (at_drop_more (λ l. residue (pos s +ℤ sum_of_values (all_values l))) hs i d inside) ∙ e
