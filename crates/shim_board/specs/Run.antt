-- Lists of steps by any chairs in any order, and what holds after each of them.
use Rattle.std.specs.Prelude.{◌≡◌, ◌⊎◌, ◌==◌, ◌&&◌, nat_lt, ℕ, ◌+◌, ◌*◌, ◌%◌, ◌/◌, ◌<◌, ◌≤◌, cond, not, Bool, true, false, List, [], ◌∷◌, ◌++◌, length, slice_index, slice_set, replicate, Option, Some, None}
use mathlib.Core.Option.{some, none}
use mathlib.Core.Option as maybe
use lib.ListN.{get_elem?}
use Rattle.shim_board.specs.declared.view.View.{View}
use Rattle.shim_board.specs.Counting.{one_pair, times}
use Rattle.shim_base.specs.Lists.{total, IsAmong}
use Rattle.shim_board.specs.Views.{first_chair, spent, split_off, after_split, after_join, after_look, after_turn_seen, after_reserve, after_put, after_claim, after_give, after_collect, after_take, after_leave}
use Rattle.shim_board.specs.Kept.{word_of}

-- The kinds of step, each with its slot, if it has one, and with the piece or the net that it brings. `join` has the number of the chair that joins chair 0. `look_turn` is a look at the turn's word.
pub data StepKind (T N : Type 0) : Type 0 where
  split : StepKind T N
  join : ℕ → StepKind T N
  look : ℕ → StepKind T N
  look_turn : StepKind T N
  reserve : ℕ → StepKind T N
  put : ℕ → T → StepKind T N
  claim : ℕ → StepKind T N
  give : ℕ → T → StepKind T N
  collect : ℕ → StepKind T N
  take_turn : StepKind T N
  leave_turn : N → StepKind T N

-- a step of a run: the number of the chair that does it, and the kind
pub record BoardStep (T N : Type 0) : Type 0 where
  pub chair : ℕ
  pub kind : StepKind T N

-- one step that took a slot's word on by one: the slot, its word before, and the piece
pub record SlotEntry (T : Type 0) : Type 0 where
  pub slot : ℕ
  pub word : ℕ
  pub value : T

-- The words, the piece that each slot has or none, the net of the turn or none, and the views. `done` has the steps so far that took a slot's word on, the last first.
pub record BoardRun (T N M : Type 0) : Type 0 where
  pub words : List ℕ
  pub piece : ℕ → Option T
  pub net : Option N
  pub views : List (View M)
  pub done : List (SlotEntry T)

-- whether a chair with these numbers is spent: it is where there is no number
abbrev pub is_spent : List ℕ → Bool
is_spent [] = true
is_spent (x ∷ xs) = false

-- whether no slot is given, as the one in hand or the claimed one
abbrev pub is_none : Option (ℕ × ℕ) → Bool
is_none None = true
is_none (Some p) = false

-- this slot, in hand or claimed, is k
abbrev pub is_slot : Option (ℕ × ℕ) → ℕ → Bool
is_slot None k = false
is_slot (Some p) k = p.0 == k

-- the slot k is noted, of a round below 2^62 - 1
abbrev pub is_noted_below : ℕ → List (ℕ × ℕ) → Bool
is_noted_below k [] = false
is_noted_below k (p ∷ ps) = cond ((p.0 == k) && nat_lt p.1 4611686018427387903) true (is_noted_below k ps)

-- f, but y at k
abbrev pub changed_at : {A : Type 0} → (ℕ → A) → ℕ → A → ℕ → A
changed_at f k y j = cond (j == k) y (f j)

-- whether a chair has neither the turn nor a claimed slot nor a slot in hand
abbrev pub holds_nothing : {M : Type 0} → View M → Bool
holds_nothing w = (w.turn == 0) && is_none w.claimed && is_none w.hand

module _ {T N M : Type 0} where
  -- the chair id has the view w from then on
  abbrev pub with_view : BoardRun T N M → ℕ → View M → BoardRun T N M
  with_view s id w = record s { views = slice_set s.views id w }

  -- The word of the slot k goes on by one, with the piece y. From then on the slot has `piece`, and the chair id has the view w.
  abbrev pub moves : BoardRun T N M → ℕ → View M → ℕ → Option T → T → BoardRun T N M
  moves s id w k piece y = record {
    words = slice_set s.words (k + 1) (word_of s.words k + 1);
    piece = changed_at s.piece k piece;
    net = s.net;
    views = slice_set s.views id w;
    done = record { slot = k; word = word_of s.words k; value = y } ∷ s.done;
  }

  -- The word of the slot k goes on by one, with the piece y that the slot has. From then on the slot has no piece, and the chair id has the view w. Where the slot has no piece, nothing changes.
  abbrev pub moves_out : BoardRun T N M → ℕ → View M → ℕ → Option T → BoardRun T N M
  moves_out s id w k None = s
  moves_out s id w k (Some y) = moves s id w k None y

  -- Chair 0 takes in the chair `other`, which is spent from then on. Nothing changes where there is no such chair, or where it is chair 0, is spent, or holds something.
  abbrev pub joins : BoardRun T N M → View M → ℕ → maybe.Option (View M) → BoardRun T N M
  joins s v other none = s
  joins s v other (some w) = cond (not (other == 0) && not (is_spent w.numbers) && holds_nothing w) record s { views = slice_set (slice_set s.views 0 (after_join v w)) other spent } s

  module _ (s : BoardRun T N M) (id : ℕ) (v : View M) where
    -- whether the board has the slot k
    abbrev pub has_slot : ℕ → Bool
    has_slot k = nat_lt (k + 1) (length s.words)

    abbrev pub word : ℕ → ℕ
    word k = word_of s.words k

    -- whether the word and the chair allow the step
    abbrev pub may : StepKind T N → Bool
    may split = id == 0
    may (join other) = id == 0
    may (look k) = has_slot k
    may look_turn = true
    may (reserve k) = has_slot k && (v.turn == 1) && is_none v.hand && not (word k % 4 == 1) && not (word k % 4 == 2)
    may (put k y) = has_slot k && (v.turn == 1) && is_slot v.hand k && (word k % 4 == 0) && is_noted_below k v.noted
    may (claim k) = has_slot k && (word k % 4 == 1) && is_none v.claimed
    may (give k y) = has_slot k && (word k % 4 == 2) && is_slot v.claimed k
    may (collect k) = has_slot k && (v.turn == 1) && is_slot v.hand k && (word k % 4 == 3)
    may take_turn = slice_index s.words 0 == 0
    may (leave_turn net) = (v.turn == 1) && is_none v.hand

    -- the run after the step, where `may` allows it
    abbrev pub does : StepKind T N → BoardRun T N M
    does split = record s { views = slice_set s.views 0 (after_split v) ++ split_off v ∷ [] }
    does (join other) = joins s v other (get_elem? s.views other)
    does (look k) = with_view s id (after_look v k (word k))
    does look_turn = with_view s id (after_turn_seen v (slice_index s.words 0))
    does (reserve k) = with_view s id (after_reserve v k (word k))
    does (put k y) = moves s id (after_put v k (word k / 4)) k (Some y) y
    does (claim k) = moves_out s id (after_claim v k (word k / 4)) k (s.piece k)
    does (give k y) = moves s id (after_give v) k (Some y) y
    does (collect k) = moves_out s id (after_collect v k (word k / 4)) k (s.piece k)
    does take_turn = record s { words = slice_set s.words 0 1; net = None; views = slice_set s.views id (after_take v) }
    does (leave_turn net) = record s { words = slice_set s.words 0 0; net = Some net; views = slice_set s.views id (after_leave v) }

  -- The run after a step whose chair has this view. Nothing changes where the board has no chair of the step's number, where the chair is spent, or where `may` refuses the step.
  abbrev pub after_step : BoardRun T N M → BoardStep T N → maybe.Option (View M) → BoardRun T N M
  after_step s step none = s
  after_step s step (some v) = cond (not (is_spent v.numbers) && may s step.chair v step.kind) (does s step.chair v step.kind) s

  -- s after these steps, one after another, of which those that are not allowed change nothing
  abbrev pub after : BoardRun T N M → List (BoardStep T N) → BoardRun T N M
  after s [] = s
  after s (step ∷ steps) = after (after_step s step (get_elem? s.views step.chair)) steps

  -- a board of so many slots, all of them EMPTY of round 0, whose turn is free and has the net, with chair 0 alone
  abbrev pub opened : (N → M) → N → ℕ → BoardRun T N M
  opened label net slots = record { words = replicate (slots + 1) 0; piece = λ k. None; net = Some net; views = first_chair (label net) ∷ []; done = [] }

  -- a board of the given number of slots with the net, after these steps
  abbrev pub board_run : (N → M) → N → ℕ → List (BoardStep T N) → BoardRun T N M
  board_run label net slots steps = after (opened label net slots) steps

-- how often the word of the slot k went on from x
abbrev pub passed : {T : Type 0} → ℕ → ℕ → List (SlotEntry T) → ℕ
passed k x [] = 0
passed k x (e ∷ es) = one_pair k x (e.slot, e.word) + passed k x es

module _ {T N M : Type 0} (s : BoardRun T N M) where
  -- a step so far took the word of the slot k on from x, with the piece y
  abbrev pub Went : ℕ → ℕ → T → Type 0
  Went k x y = IsAmong {A = SlotEntry T} record { slot = k; word = x; value = y } s.done

  -- `WasPut`: the piece y was put into the slot k in the round r. The next three definitions say the same of claiming, giving and collecting.
  abbrev pub WasPut : ℕ → ℕ → T → Type 0
  WasPut k r y = Went k (4 * r) y

  abbrev pub WasClaimed : ℕ → ℕ → T → Type 0
  WasClaimed k r y = Went k (4 * r + 1) y

  abbrev pub WasGiven : ℕ → ℕ → T → Type 0
  WasGiven k r y = Went k (4 * r + 2) y

  abbrev pub WasCollected : ℕ → ℕ → T → Type 0
  WasCollected k r y = Went k (4 * r + 3) y

  -- `times_put`: how often a piece was put into the slot k in the round r. The next three definitions count claiming, giving and collecting.
  abbrev pub times_put : ℕ → ℕ → ℕ
  times_put k r = passed k (4 * r) s.done

  abbrev pub times_claimed : ℕ → ℕ → ℕ
  times_claimed k r = passed k (4 * r + 1) s.done

  abbrev pub times_given : ℕ → ℕ → ℕ
  times_given k r = passed k (4 * r + 2) s.done

  abbrev pub times_collected : ℕ → ℕ → ℕ
  times_collected k r = passed k (4 * r + 3) s.done

  -- `StandsFull`: the slot k is FULL, of the round r, with the piece y. `StandsBack` says the same of BACK.
  abbrev pub StandsFull : ℕ → ℕ → T → Type 0
  StandsFull k r y = (word_of s.words k ≡ 4 * r + 1) × (s.piece k ≡ Some y)

  abbrev pub StandsBack : ℕ → ℕ → T → Type 0
  StandsBack k r y = (word_of s.words k ≡ 4 * r + 3) × (s.piece k ≡ Some y)

  -- the chair that claimed the slot k in the round r has it still as its claimed slot
  abbrev pub IsHeldByItsChair : ℕ → ℕ → Type 0
  IsHeldByItsChair k r = (j : ℕ) × (v : View M) × (get_elem? s.views j ≡ some v) × (v.claimed ≡ Some (k, r)) × (0 < times k r v.claims)

  -- In the run s each slot was put, claimed, given and collected at most once in each round. What was claimed was put, what was collected was given, and at most one chair has the turn.
  pub record AtMostOnce : Type 0 where
    -- In each round each slot is put, claimed, given and collected at most once. The chairs' lists have each put, claim and collection as often as it was done; they have no gives.
    pub once : (k r : ℕ) → (times_put k r ≤ 1) × (times_claimed k r ≤ 1) × (times_given k r ≤ 1) × (times_collected k r ≤ 1)
    pub lists : (k r : ℕ) → (total (λ v. times k r v.puts) s.views ≡ times_put k r) × (total (λ v. times k r v.claims) s.views ≡ times_claimed k r) × (total (λ v. times k r v.collections) s.views ≡ times_collected k r)
    -- what is claimed is what was put, and what is collected is what was given
    pub claimed : (k r : ℕ) (y : T) → WasClaimed k r y → WasPut k r y
    pub collected : (k r : ℕ) (y : T) → WasCollected k r y → WasGiven k r y
    -- at most one chair has the turn
    pub turn : (i j : ℕ) (u v : View M) → get_elem? s.views i ≡ some u → get_elem? s.views j ≡ some v → u.turn ≡ 1 → v.turn ≡ 1 → i ≡ j

  -- In the run s no piece is lost: each that was put or given was taken out of its slot, or is in it. Each that was claimed is with its chair, or another was given for it.
  pub record NothingLost : Type 0 where
    -- each piece that was put was claimed, or stands in a FULL slot
    pub put : (k r : ℕ) (y : T) → WasPut k r y → WasClaimed k r y ⊎ StandsFull k r y
    -- each piece that was given was collected, or stands in a BACK slot
    pub given : (k r : ℕ) (y : T) → WasGiven k r y → WasCollected k r y ⊎ StandsBack k r y
    -- a FULL slot has a piece, which was put there, and a BACK slot one that was given there
    pub full : (k r : ℕ) → word_of s.words k ≡ 4 * r + 1 → (y : T) × (s.piece k ≡ Some y) × WasPut k r y
    pub back : (k r : ℕ) → word_of s.words k ≡ 4 * r + 3 → (y : T) × (s.piece k ≡ Some y) × WasGiven k r y
    -- The chair that claimed a piece still has its slot as claimed slot, or it gave a piece for it. That piece was collected, or lies in a BACK slot.
    pub claimed : (k r : ℕ) (y : T) → WasClaimed k r y → IsHeldByItsChair k r ⊎ ((z : T) × WasGiven k r z × (WasCollected k r z ⊎ StandsBack k r z))

-- a step of the chair j
abbrev pub by : {T N : Type 0} → ℕ → StepKind T N → BoardStep T N
by j kind = record { chair = j; kind = kind }

-- The piece y goes out over the slot 0 from chair 0 to chair 1, and z comes back
abbrev pub one_round : {T N : Type 0} → T → T → List (BoardStep T N)
one_round y z = by 0 split ∷ by 0 take_turn ∷ by 0 (look 0) ∷ by 0 (reserve 0) ∷ by 0 (put 0 y) ∷ by 1 (claim 0) ∷ by 1 (give 0 z) ∷ by 0 (reserve 0) ∷ by 0 (collect 0) ∷ []
