-- What is passed over: that it is one thing at most and no token, and where a comment ends.
use Rattle.std.proofs.Common.{ℕ, suc, ◌≤◌, ◌<◌, ◌≡◌, ◌≢◌, true, false, List, [], ◌∷◌, ◌++◌, length, take, drop, get_or, refl, sym, ap, subst, ◌∙◌, arith, inl, inr, ◌⊎◌, drop-cons}
use Rattle.std.specs.Prelude.{All}
use Rattle.std.specs.List.{prefix_len}
use Rattle.std.proofs.lemmas.List.{get_or-take, get_or_append_left, drop_all, append_assoc, length-append, take-append-drop, length-take-le}
use Rattle.std.proofs.lemmas.List.Sums.{prefix_len-le-length, prefix_len_passes, prefix_len_stops}
use Rattle.std.proofs.lemmas.Bool.{cases_lt}
use Rattle.std.proofs.lemmas.Bool.Decides.{nat_tests}
use Rattle.shim_base.specs.declared.token.TokenKind.{TokenKind}
use Rattle.shim_base.specs.declared.token.LexKind.TheVariants.{OpenComment}
use Rattle.shim_base.specs.Tokens.{is_spacing, Spells, IsLongestToken, Begins, IsComment, block_opener, block_closer, Skips, spacing, line_comment, block_comment, IsFault}
use Rattle.shim_base.proofs.FirstToken.{is_on_line, no_spacing_first, front_cons, front_of}

-- a byte of spacing is passed over
pub record IsSpace (bytes over rest : List ℕ) : Type 0 where
  pub b : ℕ
  pub is : is_spacing b ≡ true
  pub whole : bytes ≡ b ∷ rest
  pub over_is : over ≡ b ∷ []

-- a comment up to the end of its line is passed over
pub record IsLine (bytes over rest : List ℕ) : Type 0 where
  pub inside : List ℕ
  pub no_feed : All (λ b. b ≢ 10) inside
  pub ends : (rest ≡ []) ⊎ Begins rest (10 ∷ [])
  pub whole : bytes ≡ 47 ∷ 47 ∷ (inside ++ rest)
  pub over_is : over ≡ 47 ∷ 47 ∷ inside

-- a comment up to its closer is passed over
pub record IsBlock (bytes over rest : List ℕ) : Type 0 where
  pub inside : List ℕ
  pub first : (front : List ℕ) → Begins (inside ++ block_closer) (front ++ block_closer) → length inside ≤ length front
  pub whole : bytes ≡ 47 ∷ 42 ∷ (inside ++ (block_closer ++ rest))
  pub over_is : over ≡ 47 ∷ 42 ∷ (inside ++ block_closer)

-- what is passed over is one of the three
pub one_of_three : (bytes over rest : List ℕ) → Skips bytes over rest → IsSpace bytes over rest ⊎ (IsLine bytes over rest ⊎ IsBlock bytes over rest)
one_of_three _ _ _ (spacing b rest is) = inl (record { b = b; is = is; whole = refl; over_is = refl })
one_of_three _ _ _ (line_comment inside rest no_feed ends) = inr (inl (record { inside = inside; no_feed = no_feed; ends = ends; whole = refl; over_is = refl }))
one_of_three _ _ _ (block_comment inside rest first) = inr (inr (record { inside = inside; first = first; whole = refl; over_is = refl }))

-- bytes of one text, up to one length, are the same
pub same_front : (bytes front rest other_front other_rest : List ℕ) → bytes ≡ front ++ rest → bytes ≡ other_front ++ other_rest → length front ≡ length other_front →
    (front ≡ other_front) × (rest ≡ other_rest)
same_front bytes front rest other_front other_rest whole other_whole n =
    let f = front_of bytes front rest whole in
    let g = front_of bytes other_front other_rest other_whole in
    (f.0 ∙ ap (λ (m : ℕ). take m bytes) n ∙ sym g.0, f.1 ∙ ap (λ (m : ℕ). drop m bytes) n ∙ sym g.1)

-- the bytes up to the first line feed are those that a line comment has
line-prefix : (inside rest : List ℕ) → All (λ b. b ≢ 10) inside → (rest ≡ []) ⊎ Begins rest (10 ∷ []) → prefix_len is_on_line (inside ++ rest) ≡ length inside
line-prefix [] rest no_feed (inl none) = rw none refl
line-prefix [] rest no_feed (inr begins) = let e = begins.1 in rw e refl
line-prefix (b ∷ inside) rest no_feed ends =
    let other : b ≢ 10 = no_feed 0 0 (omega arith) in
    let more = line-prefix inside rest (λ k d lt. no_feed (suc k) d (omega arith)) ends in
    let passes : is_on_line b ≡ true = grind (arith, nat_tests) in
    rw passes (omega (arith, more))

-- a front of bytes begins each longer front of them
begins_longer : (bytes front rest longer after : List ℕ) → bytes ≡ front ++ rest → bytes ≡ longer ++ after → length front ≤ length longer → Begins longer front
begins_longer bytes [] rest longer after whole other_whole le = (longer, refl)
begins_longer bytes (b ∷ front) rest [] after whole other_whole le = absurd (omega arith)
begins_longer bytes (b ∷ front) rest (a ∷ longer) after whole other_whole le =
    let e : b ∷ (front ++ rest) ≡ a ∷ (longer ++ after) = sym whole ∙ other_whole in
    let tail : front ++ rest ≡ longer ++ after = cc in
    let head : a ≡ b = cc in
    let more = begins_longer (front ++ rest) front rest longer after refl tail (omega arith) in
    (more.0, ap (λ (x : ℕ). x ∷ longer) head ∙ ap (λ (l : List ℕ). b ∷ l) more.1)

-- two block comments at the front of a text end at one place
block_end : (text inside rest other other_rest : List ℕ) → text ≡ inside ++ (block_closer ++ rest) → text ≡ other ++ (block_closer ++ other_rest) →
    ((front : List ℕ) → Begins (other ++ block_closer) (front ++ block_closer) → length other ≤ length front) → length other ≤ length inside
block_end text inside rest other other_rest whole other_whole first = by_size (cases_lt (length inside) (length other)) where
  by_size : (length inside < length other) ⊎ (length other ≤ length inside) → length other ≤ length inside
  by_size (inr le) = le
  by_size (inl lt) =
      first inside (
      begins_longer text (inside ++ block_closer) rest (other ++ block_closer) other_rest (whole ∙ sym (append_assoc inside block_closer rest))
      (other_whole ∙ sym (append_assoc other block_closer other_rest))
      (omega (arith, length-append inside block_closer, length-append other block_closer))
      )

-- spacing is no slash
no_slash : (b : ℕ) → is_spacing b ≡ true → (l m : List ℕ) → b ∷ l ≡ 47 ∷ m → ⊥
no_slash b is l m e = let head : b ≡ 47 = cc in let f : is_spacing 47 ≡ true = ap is_spacing (sym head) ∙ is in absurd (cc)

-- two bytes of spacing
one_space : (bytes over rest other other_rest : List ℕ) → IsSpace bytes over rest → IsSpace bytes other other_rest → (over ≡ other) × (rest ≡ other_rest)
one_space bytes over rest other other_rest s t =
    let e : s.b ∷ rest ≡ t.b ∷ other_rest = sym s.whole ∙ t.whole in
    let head : s.b ≡ t.b = cc in
    let tail : rest ≡ other_rest = cc in
    (s.over_is ∙ ap (λ (x : ℕ). x ∷ []) head ∙ sym t.over_is, tail)

-- two line comments
one_line : (bytes over rest other other_rest : List ℕ) → IsLine bytes over rest → IsLine bytes other other_rest → (over ≡ other) × (rest ≡ other_rest)
one_line bytes over rest other other_rest s t =
    let e : 47 ∷ 47 ∷ (s.inside ++ rest) ≡ 47 ∷ 47 ∷ (t.inside ++ other_rest) = sym s.whole ∙ t.whole in
    let tail : s.inside ++ rest ≡ t.inside ++ other_rest = cc in
    let n : length s.inside ≡ length t.inside =
    sym (line-prefix s.inside rest s.no_feed s.ends) ∙ ap (λ (l : List ℕ). prefix_len is_on_line l) tail ∙ line-prefix t.inside other_rest t.no_feed t.ends in
    let same = same_front (s.inside ++ rest) s.inside rest t.inside other_rest refl tail n in
    (s.over_is ∙ ap (λ (l : List ℕ). 47 ∷ 47 ∷ l) same.0 ∙ sym t.over_is, same.1)

-- two block comments
one_block : (bytes over rest other other_rest : List ℕ) → IsBlock bytes over rest → IsBlock bytes other other_rest → (over ≡ other) × (rest ≡ other_rest)
one_block bytes over rest other other_rest s t =
    let e : 47 ∷ 42 ∷ (s.inside ++ (block_closer ++ rest)) ≡ 47 ∷ 42 ∷ (t.inside ++ (block_closer ++ other_rest)) = sym s.whole ∙ t.whole in
    let tail : s.inside ++ (block_closer ++ rest) ≡ t.inside ++ (block_closer ++ other_rest) = cc in
    let le = block_end (s.inside ++ (block_closer ++ rest)) s.inside rest t.inside other_rest refl tail t.first in
    let ge = block_end (s.inside ++ (block_closer ++ rest)) t.inside other_rest s.inside rest tail refl s.first in
    let n : length s.inside ≡ length t.inside = omega arith in
    let same = same_front (s.inside ++ (block_closer ++ rest)) s.inside (block_closer ++ rest) t.inside (block_closer ++ other_rest) refl tail n in
    let f = same.1 in
    let g : 42 ∷ 47 ∷ rest ≡ 42 ∷ 47 ∷ other_rest = f in
    let behind : rest ≡ other_rest = cc in
    (s.over_is ∙ ap (λ (l : List ℕ). 47 ∷ 42 ∷ (l ++ block_closer)) same.0 ∙ sym t.over_is, behind)

-- spacing begins no line comment
no_space_line : (bytes over rest other other_rest : List ℕ) → IsSpace bytes over rest → IsLine bytes other other_rest → ⊥
no_space_line bytes over rest other other_rest s t = no_slash s.b s.is rest (47 ∷ (t.inside ++ other_rest)) (sym s.whole ∙ t.whole)

-- spacing begins no block comment
no_space_block : (bytes over rest other other_rest : List ℕ) → IsSpace bytes over rest → IsBlock bytes other other_rest → ⊥
no_space_block bytes over rest other other_rest s t = no_slash s.b s.is rest (42 ∷ (t.inside ++ (block_closer ++ other_rest))) (sym s.whole ∙ t.whole)

-- the two openers differ
openers_differ : (l m : List ℕ) → 47 ∷ 47 ∷ l ≡ 47 ∷ 42 ∷ m → ⊥
openers_differ l m e = absurd (cc)

-- a line comment is no block comment
no_line_block : (bytes over rest other other_rest : List ℕ) → IsLine bytes over rest → IsBlock bytes other other_rest → ⊥
no_line_block bytes over rest other other_rest s t = openers_differ (s.inside ++ rest) (t.inside ++ (block_closer ++ other_rest)) (sym s.whole ∙ t.whole)

-- two of one kind are one, and there are no two of different kinds
one_kind : (bytes over rest other other_rest : List ℕ) → IsSpace bytes over rest ⊎ (IsLine bytes over rest ⊎ IsBlock bytes over rest) →
    IsSpace bytes other other_rest ⊎ (IsLine bytes other other_rest ⊎ IsBlock bytes other other_rest) → (over ≡ other) × (rest ≡ other_rest)
one_kind bytes over rest other other_rest (inl s) (inl t) = one_space bytes over rest other other_rest s t
one_kind bytes over rest other other_rest (inl s) (inr (inl t)) = absurd (no_space_line bytes over rest other other_rest s t)
one_kind bytes over rest other other_rest (inl s) (inr (inr t)) = absurd (no_space_block bytes over rest other other_rest s t)
one_kind bytes over rest other other_rest (inr (inl s)) (inl t) = absurd (no_space_line bytes other other_rest over rest t s)
one_kind bytes over rest other other_rest (inr (inl s)) (inr (inl t)) = one_line bytes over rest other other_rest s t
one_kind bytes over rest other other_rest (inr (inl s)) (inr (inr t)) = absurd (no_line_block bytes over rest other other_rest s t)
one_kind bytes over rest other other_rest (inr (inr s)) (inl t) = absurd (no_space_block bytes other other_rest over rest t s)
one_kind bytes over rest other other_rest (inr (inr s)) (inr (inl t)) = absurd (no_line_block bytes other other_rest over rest t s)
one_kind bytes over rest other other_rest (inr (inr s)) (inr (inr t)) = one_block bytes over rest other other_rest s t

-- two things that are passed over are one
pub one_pass : (bytes over rest other other_rest : List ℕ) → Skips bytes over rest → Skips bytes other other_rest → (over ≡ other) × (rest ≡ other_rest)
one_pass bytes over rest other other_rest h k = one_kind bytes over rest other other_rest (one_of_three bytes over rest h) (one_of_three bytes other other_rest k)

-- where no bytes are left, nothing is passed over
pub no_pass_of_none : (over rest : List ℕ) → Skips [] over rest → ⊥
no_pass_of_none over rest h = by_kind (one_of_three [] over rest h) where
  by_kind : IsSpace [] over rest ⊎ (IsLine [] over rest ⊎ IsBlock [] over rest) → ⊥
  by_kind (inl s) = absurd (let w = s.whole in cc)
  by_kind (inr (inl s)) = absurd (let w = s.whole in cc)
  by_kind (inr (inr s)) = absurd (let w = s.whole in cc)

-- a line comment is a comment
line_is : (bytes over rest : List ℕ) → IsLine bytes over rest → IsComment bytes
line_is bytes over rest s = inl (s.inside ++ rest, s.whole)

-- a block comment is a comment
block_is : (bytes over rest : List ℕ) → IsBlock bytes over rest → IsComment bytes
block_is bytes over rest s = inr (s.inside ++ (block_closer ++ rest), s.whole)

-- where neither spacing nor a comment stands, nothing is passed over
pub no_pass : (b : ℕ) (bytes over rest : List ℕ) → is_spacing b ≡ false → (IsComment (b ∷ bytes) → ⊥) → Skips (b ∷ bytes) over rest → ⊥
no_pass b bytes over rest no_space no_comment h = by_kind (one_of_three (b ∷ bytes) over rest h) where
  by_kind : IsSpace (b ∷ bytes) over rest ⊎ (IsLine (b ∷ bytes) over rest ⊎ IsBlock (b ∷ bytes) over rest) → ⊥
  by_kind (inl s) = absurd (let w = s.whole in let head : s.b ≡ b = cc in let f = ap is_spacing head in let g = s.is in cc)
  by_kind (inr (inl s)) = no_comment (line_is (b ∷ bytes) over rest s)
  by_kind (inr (inr s)) = no_comment (block_is (b ∷ bytes) over rest s)

-- where a token stands and no comment, nothing is passed over
pub no_pass_of_token : (bytes text behind over rest : List ℕ) (kind : TokenKind) → (IsComment bytes → ⊥) → IsLongestToken bytes text behind kind → Skips bytes over rest → ⊥
no_pass_of_token [] text behind over rest kind no_comment first h = no_pass_of_none over rest h
no_pass_of_token (b ∷ bytes) text behind over rest kind no_comment first h =
    let c = front_cons b bytes text behind kind first.whole first.spells in
    let P : List ℕ → Type 0 = λ t. Spells t kind in
    no_pass b bytes over rest (no_spacing_first b c.0 kind (subst P c.1 first.spells)) no_comment h

-- a line comment is passed over up to the first line feed
pub line_passes : (text : List ℕ) (n : ℕ) → n ≡ prefix_len is_on_line text → Skips (47 ∷ 47 ∷ text) (47 ∷ 47 ∷ take n text) (drop n text)
line_passes text n is =
    let P : List ℕ → Type 0 = λ t. Skips (47 ∷ 47 ∷ t) (47 ∷ 47 ∷ take n text) (drop n text) in
    subst P (take-append-drop n text) (line_comment (take n text) (drop n text) no_feed (by_end (cases_lt (prefix_len is_on_line text) (length text)))) where
      within : prefix_len is_on_line text ≤ length text
      within = prefix_len-le-length is_on_line text

      no_feed : All (λ b. b ≢ 10) (take n text)
      no_feed k d lt =
          let size = length-take-le n text (rw is within) in
          let same : get_or (take n text) k d ≡ get_or text k d = get_or-take n text k d (omega (arith, size)) in
          let passes = prefix_len_passes is_on_line text k d (omega (arith, size, is)) in
          let other : get_or text k d ≢ 10 = grind (arith, nat_tests) in
          λ e. other (sym same ∙ e)

      by_end : (prefix_len is_on_line text < length text) ⊎ (length text ≤ prefix_len is_on_line text) → (drop n text ≡ []) ⊎ Begins (drop n text) (10 ∷ [])
      by_end (inl lt) =
          let stops = prefix_len_stops is_on_line text 0 lt in
          let feed : get_or text (prefix_len is_on_line text) 0 ≡ 10 = grind (arith, nat_tests) in
          let e = drop-cons text (prefix_len is_on_line text) 0 lt in
          inr (drop (suc (prefix_len is_on_line text)) text, ap (λ (m : ℕ). drop m text) is ∙ e ∙ ap (λ (b : ℕ). b ∷ drop (suc (prefix_len is_on_line text)) text) feed)
      by_end (inr le) = inl (drop_all n text (omega (arith, is)))

-- a comment's closer begins at this place
pub record IsCloserAt (text : List ℕ) (k : ℕ) : Type 0 where
  pub within : suc (suc k) ≤ length text
  pub star : get_or text k 0 ≡ 42
  pub slash : get_or text (suc k) 0 ≡ 47

-- the bytes after a closer
closer_parts : (text : List ℕ) (n : ℕ) → IsCloserAt text n → text ≡ take n text ++ (block_closer ++ drop (suc (suc n)) text)
closer_parts text n c =
    let within = c.within in
    let e = drop-cons text n 0 (omega (arith, within)) in
    let f = drop-cons text (suc n) 0 (omega (arith, within)) in
    let g : drop n text ≡ 42 ∷ 47 ∷ drop (suc (suc n)) text =
    e ∙ ap (λ (l : List ℕ). get_or text n 0 ∷ l) f ∙ ap (λ (b : ℕ). b ∷ get_or text (suc n) 0 ∷ drop (suc (suc n)) text) c.star
    ∙ ap (λ (b : ℕ). 42 ∷ b ∷ drop (suc (suc n)) text) c.slash in
    sym (take-append-drop n text) ∙ ap (λ (l : List ℕ). take n text ++ l) g

-- what stands after a front
closer_behind : (front rest : List ℕ) → IsCloserAt (front ++ (block_closer ++ rest)) (length front)
closer_behind [] rest = record { within = omega arith; star = refl; slash = refl }
closer_behind (b ∷ front) rest =
    let c = closer_behind front rest in
    let within = c.within in
    record { within = omega arith; star = c.star; slash = c.slash }

-- a closer stands in a longer text too
closer_more : (text rest : List ℕ) (k : ℕ) → IsCloserAt text k → IsCloserAt (text ++ rest) k
closer_more text rest k c =
    let within = c.within in
    record {
      within = omega (arith, length-append text rest);
      star = get_or_append_left text rest 0 k (omega arith) ∙ c.star;
      slash = get_or_append_left text rest 0 (suc k) (omega arith) ∙ c.slash;
    }

-- a block comment is passed over up to the first closer, and with it
pub block_passes : (text : List ℕ) (n : ℕ) → IsCloserAt text n → ((k : ℕ) → k < n → IsCloserAt text k → ⊥) →
    Skips (47 ∷ 42 ∷ text) (47 ∷ 42 ∷ (take n text ++ block_closer)) (drop (suc (suc n)) text)
block_passes text n c before =
    let P : List ℕ → Type 0 = λ t. Skips (47 ∷ 42 ∷ t) (47 ∷ 42 ∷ (take n text ++ block_closer)) (drop (suc (suc n)) text) in
    subst P (sym (closer_parts text n c)) (block_comment (take n text) (drop (suc (suc n)) text) first) where
      size : length (take n text) ≡ n
      size = let within = c.within in length-take-le n text (omega (arith, within))

      first : (front : List ℕ) → Begins (take n text ++ block_closer) (front ++ block_closer) → length (take n text) ≤ length front
      first front begins = by_size (cases_lt (length front) n) where
        by_size : (length front < n) ⊎ (n ≤ length front) → length (take n text) ≤ length front
        by_size (inr le) = omega (arith, size)
        by_size (inl lt) =
            let e : take n text ++ block_closer ≡ front ++ (block_closer ++ begins.0) = begins.1 ∙ append_assoc front block_closer begins.0 in
            let P : List ℕ → Type 0 = λ t. IsCloserAt t (length front) in
            let f : IsCloserAt (take n text ++ block_closer) (length front) = subst P (sym e) (closer_behind front begins.0) in
            let g : IsCloserAt ((take n text ++ block_closer) ++ drop (suc (suc n)) text) (length front) = closer_more (take n text ++ block_closer) (drop (suc (suc n)) text) (length front) f in
            let whole : (take n text ++ block_closer) ++ drop (suc (suc n)) text ≡ text = append_assoc (take n text) block_closer (drop (suc (suc n)) text) ∙ sym (closer_parts text n c) in
            absurd (before (length front) lt (subst P whole g))

-- a block comment without a closer is open
pub block_open : (text : List ℕ) → ((k : ℕ) → IsCloserAt text k → ⊥) → IsFault OpenComment (47 ∷ 42 ∷ text)
block_open text none = ((text, refl), closed) where
  closed : (inside : List ℕ) → Begins (47 ∷ 42 ∷ text) (block_opener ++ (inside ++ block_closer)) → ⊥
  closed inside begins =
      let e : 47 ∷ 42 ∷ text ≡ 47 ∷ 42 ∷ ((inside ++ block_closer) ++ begins.0) = begins.1 in
      let f : text ≡ (inside ++ block_closer) ++ begins.0 = cc in
      let P : List ℕ → Type 0 = λ t. IsCloserAt t (length inside) in
      none (length inside) (subst P (sym (f ∙ append_assoc inside block_closer begins.0)) (closer_behind inside begins.0))

-- an open comment isn't closed
open_not_block : (bytes over rest : List ℕ) → IsFault OpenComment bytes → IsBlock bytes over rest → ⊥
open_not_block bytes over rest fault s =
    fault.1 s.inside (rest, s.whole ∙ ap (λ (l : List ℕ). 47 ∷ 42 ∷ l) (sym (append_assoc s.inside block_closer rest)))

-- nor is it a line comment
open_not_line : (bytes over rest : List ℕ) → IsFault OpenComment bytes → IsLine bytes over rest → ⊥
open_not_line bytes over rest fault s = openers_differ (s.inside ++ rest) fault.0.0 (sym s.whole ∙ fault.0.1)

-- nor spacing
open_not_space : (bytes over rest : List ℕ) → IsFault OpenComment bytes → IsSpace bytes over rest → ⊥
open_not_space bytes over rest fault s = no_slash s.b s.is rest (42 ∷ fault.0.0) (sym s.whole ∙ fault.0.1)

-- what is open is not passed over
open_kind : (bytes over rest : List ℕ) → IsFault OpenComment bytes → IsSpace bytes over rest ⊎ (IsLine bytes over rest ⊎ IsBlock bytes over rest) → ⊥
open_kind bytes over rest fault (inl s) = open_not_space bytes over rest fault s
open_kind bytes over rest fault (inr (inl s)) = open_not_line bytes over rest fault s
open_kind bytes over rest fault (inr (inr s)) = open_not_block bytes over rest fault s

-- what is open is not passed over
pub no_pass_of_open : (bytes over rest : List ℕ) → IsFault OpenComment bytes → Skips bytes over rest → ⊥
no_pass_of_open bytes over rest fault h = open_kind bytes over rest fault (one_of_three bytes over rest h)
