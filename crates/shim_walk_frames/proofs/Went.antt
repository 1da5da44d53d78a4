-- A unit at a number of its text goes on as the definition says.
use Rattle.std.proofs.Common.{◌≡◌, ℕ, zero, suc, ◌-◌, ◌<◌, ◌≤◌, List, length, take, Option, false, sym, ap, ◌∙◌, arith, ⊎_elim}
use Rattle.std.proofs.lemmas.Bool.{cases_lt}
use Rattle.std.proofs.lemmas.List.{take-take, take-map, length-take-le, length-map}
use Rattle.std.proofs.Math.Seq.{take-length}
use Rattle.shim_units.specs.declared.unit.UStmt.{UStmt}
use Rattle.shim_process.specs.Todo.{Item, followed}
use Rattle.shim_process.specs.LocalState.{Frame, ExceptionPlace}
use Rattle.shim_process.specs.Ends.{went, past_ends, without_last}
use Rattle.shim_walk_frames.specs.declared.cursor.Cursor.{Cursor}
use Rattle.shim_walk_frames.specs.declared.successors.Successor.{Successor}
use Rattle.shim_walk_frames.specs.declared.successors.Successor.TheVariants.{On}
use Rattle.shim_walk_frames.specs.Successors.{size_all, go_all}
use Rattle.shim_walk_frames.specs.Pieces.{left_all, leaves}
use Rattle.shim_walk_frames.specs.Turns.{successor_of}
use Rattle.shim_walk_frames.specs.FrameViews.{FrameView, frame_of, exception_place_of}
use Rattle.shim_walk_frames.proofs.Goes.{goes_at, ends}

-- the rest begins with no end of a `try` block
no_ends : (body : List UStmt) (n : ℕ) (places : List ExceptionPlace) (f : Frame) → past_ends (left_all body n) places f ≡ record f { todo = left_all body n; places = places }
no_ends body n places f =
    ⊎_elim
    (λ lt. let g = goes_at body n On lt in ap (λ k. past_ends k places f) g.here_is ∙ ap (λ k. record f { todo = k; places = places }) (sym g.here_is))
    (λ le. let e = ends body n le in ap (λ k. past_ends k places f) e ∙ ap (λ k. record f { todo = k; places = places }) (sym e))
    (cases_lt n (size_all body))

-- so many places from the end go out of force
kept : (u : ℕ) (places : List ExceptionPlace) → take (length (without_last places) - u) (without_last places) ≡ take (length places - suc u) places
kept u places =
    let n = length places in
    let le : n - 1 ≤ n = omega arith in
    let e : length (without_last places) ≡ n - 1 = length-take-le (n - 1) places le in
    let le2 : length (without_last places) - u ≤ n - 1 = omega arith in
    take-take (length (without_last places) - u) (n - 1) places le2 ∙ ap (λ m. take m places) (let z : length (without_last places) - u ≡ n - suc u = omega arith in z)

some_ends : (u : ℕ) (k : List Item) (places : List ExceptionPlace) (f : Frame) → past_ends (leaves u k) places f ≡ past_ends k (take (length places - u) places) f
some_ends zero k places f =
    let z : length places - 0 ≡ length places = omega arith in
    ap (λ p. past_ends k p f) (sym (ap (λ m. take m places) z ∙ take-length places))
some_ends (suc u) k places f = some_ends u k (without_last places) f ∙ ap (λ p. past_ends k p f) (kept u places)

-- on from one of its statements
pub goes_on : (body : List UStmt) (s : FrameView) (cursor : Option Cursor) (c : Successor) (at left : ℕ) → s.at < size_all body → at ≡ (go_all body c s.at).at → left ≡ (go_all body c s.at).left
    → frame_of body (record s { at = at; cursor = cursor; halfway = false; places = take (length s.places - left) s.places }) ≡ went (successor_of c) (frame_of body s)
unfolding went
goes_on body s cursor c at left lt e1 e2 =
    let f = frame_of body s in
    let h = record f { halfway = false } in
    let g = goes_at body s.at c lt in
    let p = go_all body c s.at in
    let m = length-map s.places (exception_place_of body) in
    sym (ap (λ k. past_ends (followed (successor_of c) k) f.places h) g.here_is
    ∙ ap (λ k. past_ends k f.places h) g.goes
    ∙ some_ends p.left (left_all body p.at) f.places h
    ∙ no_ends body p.at (take (length f.places - p.left) f.places) h
    ∙ ap (λ n. record h { todo = left_all body n; places = take (length f.places - p.left) f.places }) (sym e1)
    ∙ ap (λ n. record h { todo = left_all body at; places = take (length f.places - n) f.places }) (sym e2)
    ∙ ap (λ n. record h { todo = left_all body at; places = take (n - left) f.places }) m
    ∙ ap (λ ps. record h { todo = left_all body at; places = ps }) (take-map (exception_place_of body) (length s.places - left) s.places))

-- after the last one nothing is left
pub stays : (body : List UStmt) (s : FrameView) (c : Successor) → size_all body ≤ s.at → frame_of body (record s { halfway = false }) ≡ went (successor_of c) (frame_of body s)
unfolding went
stays body s c le =
    let f = frame_of body s in
    let e = ends body s.at le in
    ap (λ k. record f { todo = k; halfway = false }) e ∙ sym (ap (λ k. past_ends (followed (successor_of c) k) f.places (record f { halfway = false })) e)
