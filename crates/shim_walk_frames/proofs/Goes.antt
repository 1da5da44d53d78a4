-- At each number of a unit: what is left there, the statement that stands there, and where each way leads.
use Rattle.std.proofs.Common.{◌≡◌, ℕ, ◌+◌, ◌-◌, ◌<◌, ◌≤◌, List, [], ◌∷◌, ◌++◌, map, None, refl, sym, ap, ◌∙◌, arith, subst, append_assoc, append-nil, ⊎_elim}
use Rattle.std.proofs.lemmas.Bool.{cases_lt}
use Rattle.shim_units.specs.declared.unit.UStmt.{UStmt, ind-UStmt, roll-UStmt}
use Rattle.shim_units.specs.declared.unit.UWhat.{UWhat, UWhat-F, roll-UWhat, map-UWhat, out-roll-UWhat}
use Rattle.shim_process.specs.Todo.{Item, Do, Successor as SuccessorOf, follow, follow_what, items, items_all, whole_size, next_stmt}
use Rattle.shim_units.specs.Numbering as numbering
use Rattle.shim_process.specs.Todo as todo
use Rattle.shim_walk_frames.specs.declared.successors.Successor.{Successor}
use Rattle.shim_walk_frames.specs.declared.successors.Successor.TheVariants.{On}
use Rattle.shim_walk_frames.specs.Successors.{Successors, successors, successors_all, size_of, size_all, go_all, two, loop_successors, in_sequence}
use Rattle.shim_walk_frames.specs.Pieces.{StmtPiece, StmtPart, stmt_part_of, piece, piece_all, pieces_of, whole_piece, part_of, one_piece, two_piece, loop_piece, joined_piece, at_all, left_all, leaves}
use Rattle.shim_walk_frames.specs.Turns.{successor_of}
use Rattle.shim_walk_frames.proofs.Rolls.{successors_roll, size_roll, part_roll, pieces_is, successor_all}
use Rattle.shim_walk_frames.proofs.Sound.{Goes, Sound, past, past_in, past_out, skip, begins, sound_none, sound_one, sound_joined, sound_two, sound_loop, TwoFollows, LoopFollows}
use Rattle.shim_process.proofs.TodoItems.{items_roll, line_of}

-- a statement's numbers are counted alike, and it is sound
pub record Good (s : UStmt) : Type 0 where
  pub size : size_of s ≡ numbering.size_of s
  pub sound : Sound (piece s)

abbrev pub AllGood : List UStmt → Type 0
AllGood [] = Unit {0}
AllGood (s ∷ ss) = Good s × AllGood ss

pub all_size : (ss : List UStmt) → AllGood ss → size_all ss ≡ numbering.size_all ss
all_size [] h = refl
all_size (s ∷ ss) h = let x = h.0.size in let y = all_size ss h.1 in omega arith

pub all_items : (ss : List UStmt) → AllGood ss → (n : ℕ) → (piece_all ss).items n ≡ items_all ss n
all_items [] h n = refl
all_items (s ∷ ss) h n = ap (λ m. items s n ++ (piece_all ss).items (n + m)) h.0.size ∙ ap (λ i. items s n ++ i) (all_items ss h.1 (n + numbering.size_of s))

pub all_sound : (ss : List UStmt) → AllGood ss → Sound (piece_all ss)
all_sound [] h = sound_none
all_sound (s ∷ ss) h = sound_joined (piece s) (piece_all ss) h.0.sound (all_sound ss h.1)

whole_is : (w w' : Successors) (i i' : ℕ → List Item) (p p' : StmtPart) → w ≡ w' → i ≡ i' → p ≡ p' → whole_piece w i p ≡ whole_piece w' i' p'
whole_is w w' i i' p p' e f g = ap (λ v. whole_piece v i p) e ∙ ap (λ v. whole_piece w' v p) f ∙ ap (λ v. whole_piece w' i' v) g

follows : (l : ℕ) (x : UWhat-F UWhat UStmt) (successor : SuccessorOf) (n : ℕ) (k : List Item) → follow successor n (line_of l (roll-UWhat x)) k ≡ follow_what x successor n (line_of l (roll-UWhat x)) k
follows l x successor n k = ap (λ v. follow_what v successor n (line_of l (roll-UWhat x)) k) (out-roll-UWhat x)

-- a statement of one number
simple : (s : UStmt) → successors s ≡ (one_piece s).successors → items s ≡ (one_piece s).items → stmt_part_of s ≡ part_of (one_piece s) → numbering.size_of s ≡ 1 → ((successor : SuccessorOf) (n : ℕ) (k : List Item) → follow successor n s k ≡ k) → Good s
simple s w i p z f = record {
  size = ap (λ v. v.size) w ∙ sym z;
  sound = subst Sound (sym (whole_is _ _ _ _ _ _ w i p)) (sound_one s (λ c n k. f (successor_of c) n k));
}

-- a statement of two blocks
two_good : (s : UStmt) (u : ℕ) (a b : List UStmt) → AllGood a → AllGood b
    → successors s ≡ two u (successors_all a) (successors_all b) → items s ≡ (λ n. Do n s ∷ [])
    → stmt_part_of s ≡ part_of (two_piece s u (pieces_of (map (λ y. (y, stmt_part_of y)) a)) (pieces_of (map (λ y. (y, stmt_part_of y)) b)))
    → numbering.size_of s ≡ 1 + numbering.size_all a + numbering.size_all b
    → ((n : ℕ) (k : List Item) → follow todo.On n s k ≡ k)
    → ((n : ℕ) (k : List Item) → follow todo.First n s k ≡ items_all a (n + 1) ++ leaves u k)
    → ((n : ℕ) (k : List Item) → follow todo.Second n s k ≡ items_all b (n + 1 + numbering.size_all a) ++ k)
    → Good s
two_good s u a b ga gb w i p z on first second =
    let pa = piece_all a in
    let pb = piece_all b in
    let wa = successor_all a in
    let wb = successor_all b in
    let za = all_size a ga in
    let zb = all_size b gb in
    let successor : successors s ≡ (two_piece s u pa pb).successors = w ∙ ap (λ v. two u v (successors_all b)) (sym wa) ∙ ap (λ v. two u pa.successors v) (sym wb) in
    let is_part : stmt_part_of s ≡ part_of (two_piece s u pa pb) =
    p ∙ ap (λ q. part_of (two_piece s u q (pieces_of (map (λ y. (y, stmt_part_of y)) b)))) (pieces_is a) ∙ ap (λ q. part_of (two_piece s u pa q)) (pieces_is b) in
    let size_a : pa.successors.size ≡ numbering.size_all a = ap (λ v. v.size) wa ∙ za in
    let f : TwoFollows s u pa pb = record {
      on = on;
      first = λ n k. first n k ∙ ap (λ j. j ++ leaves u k) (sym (all_items a ga (n + 1)));
      second = λ n k. second n k ∙ ap (λ m. items_all b (n + 1 + m) ++ k) (sym size_a) ∙ ap (λ j. j ++ k) (sym (all_items b gb (n + 1 + pa.successors.size)));
    } in
    record {
      size = ap (λ v. v.size) w ∙ ap (λ m. 1 + m + size_all b) za ∙ ap (λ m. 1 + numbering.size_all a + m) zb ∙ sym z;
      sound = subst Sound (sym (whole_is _ _ _ _ _ _ successor i is_part)) (sound_two s u pa pb (all_sound a ga) (all_sound b gb) f);
    }

-- a loop
while_good : (s : UStmt) (a : List UStmt) → AllGood a
    → successors s ≡ loop_successors (successors_all a) → items s ≡ (λ n. Do n s ∷ [])
    → stmt_part_of s ≡ part_of (loop_piece s (pieces_of (map (λ y. (y, stmt_part_of y)) a)))
    → numbering.size_of s ≡ 1 + numbering.size_all a
    → ((n : ℕ) (k : List Item) → follow todo.On n s k ≡ k)
    → ((n : ℕ) (k : List Item) → follow todo.First n s k ≡ items_all a (n + 1) ++ Do n s ∷ k)
    → ((n : ℕ) (k : List Item) → follow todo.Second n s k ≡ k)
    → Good s
while_good s a ga w i p z on first second =
    let pa = piece_all a in
    let wa = successor_all a in
    let successor : successors s ≡ (loop_piece s pa).successors = w ∙ ap loop_successors (sym wa) in
    let is_part : stmt_part_of s ≡ part_of (loop_piece s pa) = p ∙ ap (λ q. part_of (loop_piece s q)) (pieces_is a) in
    let f : LoopFollows s pa = record {
      on = on;
      first = λ n k. first n k ∙ ap (λ j. j ++ Do n s ∷ k) (sym (all_items a ga (n + 1)));
      second = second;
    } in
    record {
      size = ap (λ v. v.size) w ∙ ap (λ m. 1 + m) (all_size a ga) ∙ sym z;
      sound = subst Sound (sym (whole_is _ _ _ _ _ _ successor i is_part)) (sound_loop s pa (all_sound a ga) f);
    }

-- a block
block_good : (s : UStmt) (a : List UStmt) → AllGood a
    → successors s ≡ successors_all a → items s ≡ items_all a
    → stmt_part_of s ≡ part_of (pieces_of (map (λ y. (y, stmt_part_of y)) a))
    → numbering.size_of s ≡ numbering.size_all a
    → Good s
block_good s a ga w i p z =
    let pa = piece_all a in
    let is_items : items s ≡ pa.items = λ j n. (ap (λ f. f n) i ∙ sym (all_items a ga n)) j in
    record {
      size = ap (λ v. v.size) w ∙ all_size a ga ∙ sym z;
      sound = subst Sound (sym (whole_is _ _ _ _ _ _ (w ∙ sym (successor_all a)) is_items (p ∙ ap part_of (pieces_is a)))) (all_sound a ga);
    }

-- a loop after its first part
abbrev for_piece : UStmt → StmtPiece → StmtPiece → StmtPiece → StmtPiece
for_piece s first body step = joined_piece first (loop_piece s (joined_piece body step))

for_good : (s : UStmt) (a st b : List UStmt) → AllGood a → AllGood st → AllGood b
    → successors s ≡ in_sequence (successors_all a) (loop_successors (in_sequence (successors_all b) (successors_all st)))
    → items s ≡ (λ n. items_all a n ++ Do (n + whole_size (map (λ y. (y, items y)) a)) s ∷ [])
    → stmt_part_of s ≡ part_of (for_piece s (pieces_of (map (λ y. (y, stmt_part_of y)) a)) (pieces_of (map (λ y. (y, stmt_part_of y)) b)) (pieces_of (map (λ y. (y, stmt_part_of y)) st)))
    → numbering.size_of s ≡ numbering.size_all a + (1 + (numbering.size_all b + numbering.size_all st))
    → ((n : ℕ) (k : List Item) → follow todo.On n s k ≡ k)
    → ((n : ℕ) (k : List Item) → follow todo.First n s k ≡ items_all b (n + 1) ++ (items_all st (n + 1 + numbering.size_all b) ++ Do n s ∷ k))
    → ((n : ℕ) (k : List Item) → follow todo.Second n s k ≡ k)
    → Good s
for_good s a st b ga gst gb w i p z on first second =
    let pa = piece_all a in
    let pb = piece_all b in
    let ps = piece_all st in
    let wa = successor_all a in
    let wb = successor_all b in
    let ws = successor_all st in
    let za = all_size a ga in
    let zb = all_size b gb in
    let zs = all_size st gst in
    let size_a : pa.successors.size ≡ numbering.size_all a = ap (λ v. v.size) wa ∙ za in
    let size_b : pb.successors.size ≡ numbering.size_all b = ap (λ v. v.size) wb ∙ zb in
    let size_s : ps.successors.size ≡ numbering.size_all st = ap (λ v. v.size) ws ∙ zs in
    let successor : successors s ≡ (for_piece s pa pb ps).successors =
    w ∙ ap (λ v. in_sequence v (loop_successors (in_sequence (successors_all b) (successors_all st)))) (sym wa)
    ∙ ap (λ v. in_sequence pa.successors (loop_successors (in_sequence v (successors_all st)))) (sym wb)
    ∙ ap (λ v. in_sequence pa.successors (loop_successors (in_sequence pb.successors v))) (sym ws) in
    let is_part : stmt_part_of s ≡ part_of (for_piece s pa pb ps) =
    p
    ∙ ap (λ q. part_of (for_piece s q (pieces_of (map (λ y. (y, stmt_part_of y)) b)) (pieces_of (map (λ y. (y, stmt_part_of y)) st)))) (pieces_is a)
    ∙ ap (λ q. part_of (for_piece s pa q (pieces_of (map (λ y. (y, stmt_part_of y)) st)))) (pieces_is b)
    ∙ ap (λ q. part_of (for_piece s pa pb q)) (pieces_is st) in
    let is_items : items s ≡ (for_piece s pa pb ps).items = λ j n. (for_items n) j in
    let f : LoopFollows s (joined_piece pb ps) = record {
      on = on;
      first = λ n k.
          first n k
          ∙ ap (λ m. items_all b (n + 1) ++ (items_all st (n + 1 + m) ++ Do n s ∷ k)) (sym size_b)
          ∙ ap (λ j. items_all b (n + 1) ++ (j ++ Do n s ∷ k)) (sym (all_items st gst (n + 1 + pb.successors.size)))
          ∙ ap (λ j. j ++ (ps.items (n + 1 + pb.successors.size) ++ Do n s ∷ k)) (sym (all_items b gb (n + 1)))
          ∙ sym (append_assoc (pb.items (n + 1)) (ps.items (n + 1 + pb.successors.size)) (Do n s ∷ k));
      second = second;
    } in
    let size : size_of s ≡ numbering.size_of s =
    ap (λ v. v.size) w
    ∙ ap (λ m. m + (1 + (size_all b + size_all st))) za
    ∙ ap (λ m. numbering.size_all a + (1 + (m + size_all st))) zb
    ∙ ap (λ m. numbering.size_all a + (1 + (numbering.size_all b + m))) zs
    ∙ sym z in
    record {
      size = size;
      sound = subst Sound (sym (whole_is _ _ _ _ _ _ successor is_items is_part)) (sound_joined pa (loop_piece s (joined_piece pb ps)) (all_sound a ga) (sound_loop s (joined_piece pb ps) (sound_joined pb ps (all_sound b gb) (all_sound st gst)) f));
    }
  where
    sizes_of : (ss : List UStmt) → whole_size (map (λ y. (y, items y)) ss) ≡ numbering.size_all ss
    sizes_of [] = refl
    sizes_of (x ∷ xs) = ap (λ m. numbering.size_of x + m) (sizes_of xs)

    for_items : (n : ℕ) → items s n ≡ (piece_all a).items n ++ Do (n + (piece_all a).successors.size) s ∷ []
    for_items n =
        ap (λ f. f n) i
        ∙ ap (λ m. items_all a n ++ Do (n + m) s ∷ []) (sizes_of a ∙ sym (ap (λ v. v.size) (successor_all a) ∙ all_size a ga))
        ∙ ap (λ j. j ++ Do (n + (piece_all a).successors.size) s ∷ []) (sym (all_items a ga n))

abbrev WhatGood : UWhat → Type 0
WhatGood w = (l : ℕ) → Good (line_of l w)

abbrev Such : Type 0
Such = (s : UStmt) × Good s

abbrev SuchWhat : Type 0
SuchWhat = (w : UWhat) × WhatGood w

abbrev bare : UWhat-F SuchWhat Such → UWhat-F UWhat UStmt
bare = map-UWhat SuchWhat Such UWhat UStmt (λ e. e.0) (λ e. e.0)

abbrev plain : List Such → List UStmt
plain y = map (λ e. e.0) y

all_good : (y : List Such) → AllGood (plain y)
all_good [] = tt
all_good (e ∷ es) = (e.1, all_good es)

good_cases : (y : UWhat-F SuchWhat Such) → WhatGood (roll-UWhat (bare y))
good_cases (UWhat-F.If e a b) l =
    let x = bare (UWhat-F.If e a b) in
    let s = line_of l (roll-UWhat x) in
    two_good s 0 (plain a) (plain b) (all_good a) (all_good b) (successors_roll l x) (items_roll l x) (part_roll l x) (size_roll l x) (follows l x todo.On) (follows l x todo.First) (follows l x todo.Second)
good_cases (UWhat-F.Try a t y b) l =
    let x = bare (UWhat-F.Try a t y b) in
    let s = line_of l (roll-UWhat x) in
    two_good s 1 (plain a) (plain b) (all_good a) (all_good b) (successors_roll l x) (items_roll l x) (part_roll l x) (size_roll l x) (follows l x todo.On) (follows l x todo.First) (follows l x todo.Second)
good_cases (UWhat-F.Declare t v e) l = let x = bare (UWhat-F.Declare t v e) in simple (line_of l (roll-UWhat x)) (successors_roll l x) (items_roll l x) (part_roll l x) (size_roll l x) (follows l x)
good_cases (UWhat-F.Assign v e) l = let x = bare (UWhat-F.Assign v e) in simple (line_of l (roll-UWhat x)) (successors_roll l x) (items_roll l x) (part_roll l x) (size_roll l x) (follows l x)
good_cases (UWhat-F.Next v) l = let x = bare (UWhat-F.Next v) in simple (line_of l (roll-UWhat x)) (successors_roll l x) (items_roll l x) (part_roll l x) (size_roll l x) (follows l x)
good_cases (UWhat-F.NextAssign v e) l = let x = bare (UWhat-F.NextAssign v e) in simple (line_of l (roll-UWhat x)) (successors_roll l x) (items_roll l x) (part_roll l x) (size_roll l x) (follows l x)
good_cases (UWhat-F.AssignNext v w) l = let x = bare (UWhat-F.AssignNext v w) in simple (line_of l (roll-UWhat x)) (successors_roll l x) (items_roll l x) (part_roll l x) (size_roll l x) (follows l x)
good_cases (UWhat-F.Get v w) l = let x = bare (UWhat-F.Get v w) in simple (line_of l (roll-UWhat x)) (successors_roll l x) (items_roll l x) (part_roll l x) (size_roll l x) (follows l x)
good_cases (UWhat-F.Put v e) l = let x = bare (UWhat-F.Put v e) in simple (line_of l (roll-UWhat x)) (successors_roll l x) (items_roll l x) (part_roll l x) (size_roll l x) (follows l x)
good_cases (UWhat-F.Call v) l = let x = bare (UWhat-F.Call v) in simple (line_of l (roll-UWhat x)) (successors_roll l x) (items_roll l x) (part_roll l x) (size_roll l x) (follows l x)
good_cases (UWhat-F.Throw v e) l = let x = bare (UWhat-F.Throw v e) in simple (line_of l (roll-UWhat x)) (successors_roll l x) (items_roll l x) (part_roll l x) (size_roll l x) (follows l x)
good_cases (UWhat-F.Par v) l = let x = bare (UWhat-F.Par v) in simple (line_of l (roll-UWhat x)) (successors_roll l x) (items_roll l x) (part_roll l x) (size_roll l x) (follows l x)
good_cases (UWhat-F.While e a) l =
    let x = bare (UWhat-F.While e a) in
    while_good (line_of l (roll-UWhat x)) (plain a) (all_good a) (successors_roll l x) (items_roll l x) (part_roll l x) (size_roll l x) (follows l x todo.On) (follows l x todo.First) (follows l x todo.Second)
good_cases (UWhat-F.Block a) l =
    let x = bare (UWhat-F.Block a) in
    block_good (line_of l (roll-UWhat x)) (plain a) (all_good a) (successors_roll l x) (items_roll l x) (part_roll l x) (size_roll l x)
good_cases (UWhat-F.For a e st b) l =
    let x = bare (UWhat-F.For a e st b) in
    for_good (line_of l (roll-UWhat x)) (plain a) (plain st) (plain b) (all_good a) (all_good st) (all_good b) (successors_roll l x) (items_roll l x) (part_roll l x) (size_roll l x) (follows l x todo.On) (follows l x todo.First) (follows l x todo.Second)

pub good : (s : UStmt) → Good s
good = ind-UStmt WhatGood Good
    (λ x y is. subst (λ z. WhatGood (roll-UWhat z)) is (good_cases y))
    (λ x y is. subst (λ z. Good (roll-UStmt z)) is (y.what.1 y.line))

pub every_good : (ss : List UStmt) → AllGood ss
every_good [] = tt
every_good (s ∷ ss) = (good s, every_good ss)

-- the numbers are those of the definition
pub sizes_agree : (ss : List UStmt) → size_all ss ≡ numbering.size_all ss
sizes_agree ss = all_size ss (every_good ss)

-- after its last number nothing is left
pub ends_all : (ss : List UStmt) (base n : ℕ) (k : List Item) → size_all ss ≤ n → (piece_all ss).left base n k ≡ k
ends_all [] base n k h = refl
ends_all (s ∷ ss) base n k h =
    let le : size_of s ≤ n = omega arith in
    let lt : size_all ss ≤ n - size_of s = omega arith in
    skip _ _ _ _ le ∙ ends_all ss (base + size_of s) (n - size_of s) k lt

pub ends : (ss : List UStmt) (n : ℕ) → size_all ss ≤ n → left_all ss n ≡ []
ends ss n h = ends_all ss 0 n [] h

past_all : (ss : List UStmt) (n : ℕ) → past (piece_all ss) 0 [] n ≡ left_all ss n
past_all ss n =
    let w = ap (λ v. v.size) (successor_all ss) in
    ⊎_elim
    (λ lt. past_in (piece_all ss) 0 [] n lt)
    (λ le. let h : size_all ss ≤ n = omega arith in past_out (piece_all ss) 0 [] n le ∙ sym (ends ss n h))
    (cases_lt n (piece_all ss).successors.size)

-- at a unit's first number all of it is left
pub left_first : (ss : List UStmt) → left_all ss 0 ≡ items_all ss 0
left_first ss = sym (past_all ss 0) ∙ begins (piece_all ss) (all_sound ss (every_good ss)) 0 [] ∙ append-nil _ ∙ all_items ss (every_good ss) 0

-- at each of its numbers
pub goes_at : (ss : List UStmt) (n : ℕ) (c : Successor) → n < size_all ss → Goes (left_all ss n) (at_all ss n) n c (go_all ss c n) (size_all ss) (left_all ss (go_all ss c n).at)
goes_at ss n c h =
    let w = successor_all ss in
    let z = ap (λ v. v.size) w in
    let lt : n < (piece_all ss).successors.size = omega arith in
    let g = (all_sound ss (every_good ss)).goes 0 n c [] lt in
    let p = go_all ss c n in
    let e : (piece_all ss).successors.go c n ≡ p = ap (λ v. v.go c n) w in
    let zero : 0 + n ≡ n = omega arith in
    record {
      stmt = g.stmt;
      rest = g.rest;
      here_is = g.here_is ∙ ap (λ m. Do m g.stmt ∷ g.rest) zero;
      found = g.found;
      goes = ap (λ m. follow (successor_of c) m g.stmt g.rest) (sym zero) ∙ g.goes ∙ ap (λ q. leaves q.left (past (piece_all ss) 0 [] q.at)) e ∙ ap (leaves p.left) (past_all ss p.at);
      at_most = (let b = g.at_most in let f = ap (λ q. q.at) e in omega arith);
    }

none_at_all : (ss : List UStmt) (n : ℕ) → size_all ss ≤ n → at_all ss n ≡ None
none_at_all [] n h = refl
none_at_all (s ∷ ss) n h =
    let le : size_of s ≤ n = omega arith in
    let lt : size_all ss ≤ n - size_of s = omega arith in
    skip _ _ _ _ le ∙ none_at_all ss (n - size_of s) lt

pub none_at : (ss : List UStmt) (n : ℕ) → size_all ss ≤ n → at_all ss n ≡ None
none_at = none_at_all

-- the statement of a number is the next one of what is left from there on
pub next_at : (ss : List UStmt) (n : ℕ) → at_all ss n ≡ next_stmt (left_all ss n)
next_at ss n =
    ⊎_elim
    (λ lt. let g = goes_at ss n On lt in g.found ∙ sym (ap next_stmt g.here_is))
    (λ le. none_at ss n le ∙ sym (ap next_stmt (ends ss n le)))
    (cases_lt n (size_all ss))

-- two numbers of a unit where the same is left are one
pub one_place : (ss : List UStmt) (p q : ℕ) → p ≤ size_all ss → q ≤ size_all ss → left_all ss p ≡ left_all ss q → p ≡ q
one_place ss p q hp hq e =
    ⊎_elim
    (λ lp. let g = goes_at ss p On lp in
    ⊎_elim
    (λ lq. let h = goes_at ss q On lq in
    let both : Do p g.stmt ∷ g.rest ≡ Do q h.stmt ∷ h.rest = sym g.here_is ∙ e ∙ h.here_is in
    cc)
    (λ lq. let n : Do p g.stmt ∷ g.rest ≡ [] = sym g.here_is ∙ e ∙ ends ss q lq in absurd (cc))
    (cases_lt q (size_all ss)))
    (λ lp.
    ⊎_elim
    (λ lq. let h = goes_at ss q On lq in
    let n : [] ≡ Do q h.stmt ∷ h.rest = sym (ends ss p lp) ∙ e ∙ h.here_is in absurd (cc))
    (λ lq. omega arith)
    (cases_lt q (size_all ss)))
    (cases_lt p (size_all ss))
