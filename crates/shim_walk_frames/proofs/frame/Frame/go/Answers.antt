use Rattle.std.proofs.Common.{◌≡◌, ◌≤◌, ◌-◌, ◌∙◌, sym, ap, subst, arith, length, take, false, Some}
use Rattle.shim_process.specs.Ends.{went}
use Rattle.shim_walk_frames.specs.FrameViews.{FrameView, frame_of}
use Rattle.shim_walk_frames.specs.Turns.{successor_of}
use Rattle.shim_walk_frames.specs.Successors.{size_all}
use Rattle.shim_walk_frames.specs.Variables.{variables_of}
use Rattle.shim_walk_frames.proofs.Counting.{variables_take}
use Rattle.shim_walk_frames.proofs.Went.{goes_on, stays}
use Rattle.shim_walk_frames.proofs.frame.Frame.go.Goals as goal

pub returns-in_default-clause-value : goal.returns-in_default-clause-value
returns-in_default-clause-value c =
    let s = c.args.self.now in
    let body = c.args.body.now in
    let v = c.self.view_is in
    let at : c.self.inside.at ≡ s.at = ap (λ (x : FrameView). x.at) v in
    let le : size_all body ≤ s.at = omega (arith, c.in_default.ensures) in
    ap (λ (x : FrameView). frame_of body (record x { halfway = false })) v ∙ stays body s c.args.successor le

pub returns-clause-value : goal.returns-clause-value
returns-clause-value c =
    let s = c.args.self.now in
    let body = c.args.body.now in
    let v = c.self.view_is in
    let i = c.self.inside in
    let position = c.in-Some.position in
    let h = c.in-Some.ensures in
    let cursor = Some c.advance.result in
    let k : c.saturating_sub-kept.result ≡ length i.places.items - position.left = c.saturating_sub-kept.ensures ∙ ap (λ n. n - position.left) (c.len.ensures ∙ i.places.ok.0) in
    let ps : c.truncate.new.self.items ≡ take (length i.places.items - position.left) i.places.items = c.truncate.ensures.items ∙ ap (λ n. take n i.places.items) k in
    let t : FrameView = record { unit = i.unit; at = i.at; cursor = i.cursor; halfway = i.halfway; slots = i.slots.items; labels = i.labels.items; floor = i.floor; outer = i.outer; places = i.places.items } in
    ap (λ l. frame_of body (record t { at = position.at; cursor = cursor; halfway = false; places = l })) ps
    ∙ goes_on body t cursor c.args.successor position.at position.left h.0 (ap (λ p. p.at) h.1) (ap (λ p. p.left) h.1)
    ∙ ap (λ (x : FrameView). went (successor_of c.args.successor) (frame_of body x)) v

pub returns-clause-fewer : goal.returns-clause-fewer
returns-clause-fewer c =
    let i = c.self.inside in
    let places : i.places.items ≡ c.args.self.now.places = ap (λ (x : FrameView). x.places) c.self.view_is in
    subst (λ ps. variables_of c.truncate.new.self.items ≤ variables_of ps) places
    (subst (λ ps. variables_of ps ≤ variables_of i.places.items) (sym c.truncate.ensures.items) (variables_take c.saturating_sub-kept.result i.places.items))
