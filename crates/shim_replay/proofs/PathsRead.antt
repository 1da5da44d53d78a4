-- Paths and channels that are read are those that were written, and what was written is read again.
use Rattle.std.proofs.Common.{◌≡◌, ◌≤◌, ◌<◌, ◌^◌, ◌∙◌, inl, inr, ℕ, zero, suc, false, eqb, List, [], ◌∷◌, ◌++◌, drop, length, Option, Some, refl, sym, ap, subst, append_assoc, arith}
use Rattle.std.specs.Prelude.{codes, decimal, flat_map}
use Rattle.std.specs.List.{starts_with}
use Rattle.std.proofs.lemmas.List.{length-append}
use Rattle.shim_base.specs.Paths.{Path, Channel}
use Rattle.shim_base.specs.PathTexts.{pair_text, path_text, channel_text}
use Rattle.shim_replay.specs.JournalTexts.{FitsPath, FitsChannel}
use Rattle.shim_replay.specs.Scanning.{◌>>=◌, number_limit, scan_number, scan_word, scan_pair, scan_pairs, scan_path, scan_channel}
use Rattle.shim_replay.proofs.NumbersRead.{bind_some, some_is, chosen, word_takes, begins_is, Stops, Takes, number_takes, number_again}
use Rattle.shim_replay.proofs.Pairs.{one_more, other}

abbrev FitsPair : ℕ × ℕ → Type 0
FitsPair p = (p.0 < 2 ^ 32) × (p.1 < 2 ^ 32)

pair_takes : (bytes : List ℕ) (x : (ℕ × ℕ) × List ℕ) → scan_pair bytes ≡ Some x → Takes (47 ∷ bytes) (pair_text x.0) x.1 × FitsPair x.0
unfolding scan_pair
pair_takes bytes x e =
    let a = bind_some (scan_number number_limit bytes) (λ fork. scan_word (codes ".") fork.1 >>= λ behind. scan_number number_limit behind >>= λ branch. Some ((fork.0, branch.0), branch.1)) x e in
    let b = bind_some (scan_word (codes ".") a.0.1) (λ behind. scan_number number_limit behind >>= λ branch. Some ((a.0.0, branch.0), branch.1)) x a.2 in
    let c = bind_some (scan_number number_limit b.0) (λ branch. Some ((a.0.0, branch.0), branch.1)) x b.2 in
    let ta = number_takes number_limit bytes a.0 (omega arith) (omega arith) a.1 in
    let tb = word_takes (codes ".") a.0.1 b.0 b.1 in
    let tc = number_takes number_limit b.0 c.0 (omega arith) (omega arith) c.1 in
    let whole : 47 ∷ bytes ≡ pair_text (a.0.0, c.0.0) ++ c.0.1 =
    ap (λ (r : List ℕ). 47 ∷ r) (ta.0 ∙ ap (λ (r : List ℕ). decimal a.0.0 ++ r) (tb ∙ ap (λ (r : List ℕ). 46 ∷ r) tc.0) ∙ sym (append_assoc (decimal a.0.0) (46 ∷ decimal c.0.0) c.0.1)) in
    subst (λ (y : (ℕ × ℕ) × List ℕ). Takes (47 ∷ bytes) (pair_text y.0) y.1 × FitsPair y.0) (some_is ((a.0.0, c.0.0), c.0.1) x c.2) (whole, (ta.1, tc.1))

pair_again : (p : ℕ × ℕ) (rest : List ℕ) → FitsPair p → Stops rest → scan_pair (decimal p.0 ++ (46 ∷ (decimal p.1 ++ rest))) ≡ Some (p, rest)
unfolding scan_pair
pair_again p rest fits s =
    rw (number_again number_limit p.0 (46 ∷ (decimal p.1 ++ rest)) (omega arith) fits.0 refl, number_again number_limit p.1 rest (omega arith) fits.1 s) refl

-- neither a digit nor a further pair comes first
abbrev pub Ends : List ℕ → Type 0
Ends rest = Stops rest × (starts_with eqb rest (codes "/") ≡ false)

pairs_takes : (n : ℕ) (bytes : List ℕ) (x : Path × List ℕ) → scan_pairs n bytes ≡ Some x → Takes bytes (flat_map pair_text x.0) x.1 × FitsPath x.0
unfolding scan_pairs
pairs_takes zero bytes x e = subst (λ (y : Path × List ℕ). Takes bytes (flat_map pair_text y.0) y.1 × FitsPath y.0) (some_is ([], bytes) x e) (refl, tt)
pairs_takes (suc n) bytes x e =
    elim (chosen (starts_with eqb bytes (codes "/")) (scan_pair (drop 1 bytes) >>= λ pair. scan_pairs n pair.1 >>= λ pairs. Some (pair.0 ∷ pairs.0, pairs.1)) (Some ([], bytes)) x e) [
      | inl h ↦
          let a = bind_some (scan_pair (drop 1 bytes)) (λ pair. scan_pairs n pair.1 >>= λ pairs. Some (pair.0 ∷ pairs.0, pairs.1)) x h.1 in
          let b = bind_some (scan_pairs n a.0.1) (λ pairs. Some (a.0.0 ∷ pairs.0, pairs.1)) x a.2 in
          let ta = pair_takes (drop 1 bytes) a.0 a.1 in
          let tb = pairs_takes n a.0.1 b.0 b.1 in
          let whole : bytes ≡ flat_map pair_text (a.0.0 ∷ b.0.0) ++ b.0.1 =
          begins_is (codes "/") bytes h.0 ∙ ta.0 ∙ ap (λ (r : List ℕ). pair_text a.0.0 ++ r) tb.0 ∙ sym (append_assoc (pair_text a.0.0) (flat_map pair_text b.0.0) b.0.1) in
          subst (λ (y : Path × List ℕ). Takes bytes (flat_map pair_text y.0) y.1 × FitsPath y.0) (some_is (a.0.0 ∷ b.0.0, b.0.1) x b.2) (whole, (ta.1, tb.1))
      | inr h ↦ subst (λ (y : Path × List ℕ). Takes bytes (flat_map pair_text y.0) y.1 × FitsPath y.0) (some_is ([], bytes) x h.1) (refl, tt)
    ]

stops_behind : (ps : Path) (rest : List ℕ) → Stops rest → Stops (flat_map pair_text ps ++ rest)
stops_behind [] rest s = s
stops_behind (p ∷ ps) rest s = refl

pairs_again : (n : ℕ) (ps : Path) (rest : List ℕ) → length ps ≤ n → FitsPath ps → Ends rest → scan_pairs n (flat_map pair_text ps ++ rest) ≡ Some (ps, rest)
pairs_again n [] rest l fits s = other n rest s.1
pairs_again zero (p ∷ ps) rest l fits s = absurd (omega (arith, l))
pairs_again (suc n) (p ∷ ps) rest l fits s =
    let tail = flat_map pair_text ps ++ rest in
    let text : flat_map pair_text (p ∷ ps) ++ rest ≡ 47 ∷ (decimal p.0 ++ (46 ∷ (decimal p.1 ++ tail))) =
    append_assoc (pair_text p) (flat_map pair_text ps) rest ∙ ap (λ (r : List ℕ). 47 ∷ r) (append_assoc (decimal p.0) (46 ∷ decimal p.1) tail) in
    let whole = 47 ∷ (decimal p.0 ++ (46 ∷ (decimal p.1 ++ tail))) in
    let one : scan_pairs (suc n) whole ≡ (scan_pairs n tail >>= λ x. Some (p ∷ x.0, x.1)) = one_more n whole p tail refl (pair_again p tail fits.0 (stops_behind ps rest s.0)) in
    let few : length ps ≤ n = omega (arith, l) in
    let others = pairs_again n ps rest few fits.1 s in
    ap (scan_pairs (suc n)) text ∙ one ∙ ap (λ (o : Option (Path × List ℕ)). o >>= λ x. Some (p ∷ x.0, x.1)) others

long_enough : (ps : Path) (rest : List ℕ) → length ps ≤ length (flat_map pair_text ps ++ rest)
long_enough [] rest = omega arith
long_enough (p ∷ ps) rest =
    let e = ap (λ (l : List ℕ). length l) (append_assoc (pair_text p) (flat_map pair_text ps) rest) in
    let a = length-append (decimal p.0 ++ (46 ∷ decimal p.1)) (flat_map pair_text ps ++ rest) in
    omega (arith, long_enough ps rest, e, a)

pub path_takes : (bytes : List ℕ) (x : Path × List ℕ) → scan_path bytes ≡ Some x → Takes bytes (path_text x.0) x.1 × FitsPath x.0
unfolding scan_path
path_takes bytes x e =
    let a = bind_some (scan_word (codes "main") bytes) (λ behind. scan_pairs (length behind) behind) x e in
    let t = pairs_takes (length a.0) a.0 x a.2 in
    (word_takes (codes "main") bytes a.0 a.1 ∙ ap (λ (r : List ℕ). codes "main" ++ r) t.0, t.1)

pub path_again : (p : Path) (rest : List ℕ) → FitsPath p → Ends rest → scan_path (path_text p ++ rest) ≡ Some (p, rest)
unfolding scan_path
path_again p rest fits s = pairs_again (length (flat_map pair_text p ++ rest)) p rest (long_enough p rest) fits s

pub channel_takes : (bytes : List ℕ) (x : Channel × List ℕ) → scan_channel bytes ≡ Some x → Takes bytes (channel_text x.0) x.1 × FitsChannel x.0
unfolding scan_channel
channel_takes bytes x e =
    let a = bind_some (scan_path bytes) (λ home. scan_word (codes "#") home.1 >>= λ behind. scan_number number_limit behind >>= λ serial. Some (record { home = home.0; serial = serial.0 }, serial.1)) x e in
    let b = bind_some (scan_word (codes "#") a.0.1) (λ behind. scan_number number_limit behind >>= λ serial. Some (record { home = a.0.0; serial = serial.0 }, serial.1)) x a.2 in
    let c = bind_some (scan_number number_limit b.0) (λ serial. Some (record { home = a.0.0; serial = serial.0 }, serial.1)) x b.2 in
    let ta = path_takes bytes a.0 a.1 in
    let tb = word_takes (codes "#") a.0.1 b.0 b.1 in
    let tc = number_takes number_limit b.0 c.0 (omega arith) (omega arith) c.1 in
    let made : Channel = record { home = a.0.0; serial = c.0.0 } in
    let whole : bytes ≡ channel_text made ++ c.0.1 =
    ta.0 ∙ ap (λ (r : List ℕ). path_text a.0.0 ++ r) (tb ∙ ap (λ (r : List ℕ). 35 ∷ r) tc.0) ∙ sym (append_assoc (path_text a.0.0) (35 ∷ decimal c.0.0) c.0.1) in
    subst (λ (y : Channel × List ℕ). Takes bytes (channel_text y.0) y.1 × FitsChannel y.0) (some_is (made, c.0.1) x c.2) (whole, (ta.1, tc.1))

pub channel_again : (c : Channel) (rest : List ℕ) → FitsChannel c → Stops rest → scan_channel (channel_text c ++ rest) ≡ Some (c, rest)
unfolding scan_channel
channel_again c rest fits s =
    let text : channel_text c ++ rest ≡ path_text c.home ++ (35 ∷ (decimal c.serial ++ rest)) = append_assoc (path_text c.home) (35 ∷ decimal c.serial) rest in
    rw (text, path_again c.home (35 ∷ (decimal c.serial ++ rest)) fits.0 (refl, refl), number_again number_limit c.serial rest (omega arith) fits.1 s) refl
