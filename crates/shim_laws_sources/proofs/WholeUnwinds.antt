-- What a throw that is caught leaves of a process has what it had, and the variable of its handler.
use Rattle.std.proofs.Common.{◌≡◌, ℕ, ℤ, ◌-◌, ◌≤◌, inl, inr, List, [], ◌∷◌, take, Option, Some, None, nat_lt, refl, sym, ap, subst, arith}
use Rattle.std.specs.Prelude.{slice_get, slice_set}
use Rattle.shim_base.specs.Paths.{Path, NamedChannel}
use Rattle.shim_units.specs.declared.form.Form.{Form}
use Rattle.shim_process.specs.declared.handler_variable.HandlerVariable.{HandlerVariable}
use Rattle.shim_process.specs.Locations.{Location, Locations, Own}
use Rattle.shim_process.specs.LocalState.{LocalState, Frame, ExceptionPlace, unit_at, number_of}
use Rattle.shim_process.specs.Ends.{settled}
use Rattle.shim_process.specs.Unwinding.{handling, caught_location, taking, catching, unwound, unwind}
use Rattle.shim_process.specs.FittingFrames.{VariableFits, FrameFits, parameters}
use Rattle.shim_process.proofs.PlaceLocations.{at_set}
use Rattle.shim_process.proofs.PlaceChannels.{length_put}
use Rattle.shim_process.proofs.FittingEnds.{catching_around, fitting_over}
use Rattle.shim_process.proofs.FittingItems.{place_at, variable_at}
use Rattle.shim_process.proofs.FittingFrames.{GoesOn, handling_fits, inner_fits}
use Rattle.shim_laws_sources.specs.Anchored.{Anchored, NoneLent, IsAnchoredWhole}
use Rattle.shim_laws_sources.proofs.AtPlaces.{still_at}
use Rattle.shim_laws_sources.proofs.Floors.{floors_below}
use Rattle.shim_laws_sources.proofs.Ownerships.{own_not_copy, own_not_lent}
use Rattle.shim_laws_sources.proofs.WholeEnds.{Moves, stays_same, moves_on, anchored_on, anchored_left, left_stays, none_taken, settled_whole, frame_stays}
use Rattle.shim_laws_sources.proofs.WholeStores.{not_there, put_anchor}
use Rattle.shim_base.proofs.Facts.{some_same, choose}

caught_own : (c : NamedChannel) (v : ℤ) (x : Location) → Some (caught_location c v) ≡ Some x → x.ownership ≡ Own
caught_own c v x e = sym (ap (λ (r : Location). r.ownership) (some_same (caught_location c v) x e))

taking_whole : (o : Option HandlerVariable) (v : ℤ) (l : LocalState) (f : Frame) (cs : List Frame) → VariableFits (unit_at l.program f.unit) o → Anchored l.path l.program f cs l.locations → NoneLent l.locations
    → Moves (record l { frame = f; callers = cs }) (record (taking o v f l) { frame = f; callers = cs })
taking_whole None v l f cs own h none = ((h, none), stays_same (record l { frame = f; callers = cs }))
taking_whole (Some y) v l f cs own h none =
    let xs : Locations = l.locations in
    let k : ℕ = number_of f.slots y.slot in
    let new : Option Location = Some (caught_location y.channel v) in
    let inner : FrameFits l.program (parameters l.path l.program f cs) f = inner_fits l.program (parameters l.path l.program f cs) f cs h.fitting.fit in
    let at : (f.floor ≤ number_of f.slots y.slot) × (parameters l.path l.program f cs ≤ number_of f.slots y.slot) = inner.slots y.slot own in
    let floor : f.floor ≤ k = at.0 in
    let kept : parameters l.path l.program f cs ≤ k = at.1 in (
      (
        record {
          fitting = fitting_over l.path l.program f cs xs (slice_set xs k new) (length_put xs k new) h.fitting;
          anchors = λ m z e ownership home. elim (at_set xs k m new z e) [
            | inl w ↦ own_not_copy z.ownership (caught_own y.channel v z w.1) ownership
            | inr there ↦ put_anchor f cs xs k new m z.channel.channel
                (λ bound is. let b = floors_below l.program (parameters l.path l.program f cs) bound f cs h.fitting.fit is in omega (arith, b, floor))
                (h.anchors m z there ownership home)
          ];
        },
        λ n z e lent. elim (at_set xs k n new z e) [
          | inl w ↦ own_not_lent z.ownership (caught_own y.channel v z w.1) lent
          | inr there ↦ none n z there lent
        ],
      ),
      record {
        path = refl;
        given = refl;
        many = refl;
        owned = λ n c below w. record { place = w.place; at = still_at new xs k n w.place (not_there k n (parameters l.path l.program f cs) kept below) w.at; owned = w.owned; on = w.on };
      },
    )

catching_whole : (o : Option ExceptionPlace) (v : ℤ) (l : LocalState) (f : Frame) (cs : List Frame) → ((e : ExceptionPlace) → o ≡ Some e → VariableFits (unit_at l.program f.unit) e.variable)
    → Anchored l.path l.program f cs l.locations → NoneLent l.locations → Moves (record l { frame = f; callers = cs }) (record (catching o v f l) { frame = f; callers = cs })
catching_whole None v l f cs own h none = ((h, none), stays_same (record l { frame = f; callers = cs }))
catching_whole (Some e) v l f cs own h none = taking_whole e.variable v l f cs (own e refl) h none

handled : (l : LocalState) (f : Frame) (cs : List Frame) (i : ℕ) → Anchored l.path l.program f cs l.locations → GoesOn l.program (parameters l.path l.program f cs) f (handling (slice_get f.places i) i f)
handled l f cs i h =
    let inner : FrameFits l.program (parameters l.path l.program f cs) f = inner_fits l.program (parameters l.path l.program f cs) f cs h.fitting.fit in
    handling_fits l.program (parameters l.path l.program f cs) (slice_get f.places i) i f inner (λ e is. place_at l.program (unit_at l.program f.unit) f.places i e inner.places is)

-- on with the handler, from the state with its variable
on_handler : (k : LocalState) (f g : Frame) (cs : List Frame) → Anchored k.path k.program f cs k.locations → NoneLent k.locations → GoesOn k.program (parameters k.path k.program f cs) f g
    → Moves (record k { frame = f; callers = cs }) (settled cs g k)
on_handler k f g cs h none w =
    moves_on (record k { frame = f; callers = cs }) (record k { frame = g; callers = cs }) (settled cs g k) (frame_stays (record k { frame = f; callers = cs }) g w.unit)
    (settled_whole cs g k (anchored_on k.path k.program f g cs k.locations h w) none)

stopped : (l : LocalState) (f : Frame) (cs : List Frame) (i : ℕ) (v : ℤ) → Anchored l.path l.program f cs l.locations → NoneLent l.locations
    → Moves (record l { frame = f; callers = cs }) (settled cs (handling (slice_get f.places i) i f) (catching (slice_get f.places i) v f l))
stopped l f cs i v h none =
    let o : Option ExceptionPlace = slice_get f.places i in
    let k : LocalState = catching o v f l in
    let inner : FrameFits l.program (parameters l.path l.program f cs) f = inner_fits l.program (parameters l.path l.program f cs) f cs h.fitting.fit in
    let c : Moves (record l { frame = f; callers = cs }) (record k { frame = f; callers = cs }) =
    catching_whole o v l f cs (λ e is. variable_at l.program (unit_at l.program f.unit) f.places i e inner.places is) h none in
    let on : GoesOn k.program (parameters k.path k.program f cs) f (handling o i f) =
    subst (λ (z : Form). GoesOn z (parameters k.path z f cs) f (handling o i f)) (sym (catching_around o v f l).1)
    (subst (λ (z : Path). GoesOn l.program (parameters z l.program f cs) f (handling o i f)) (sym (catching_around o v f l).0) (handled l f cs i h)) in
    moves_on (record l { frame = f; callers = cs }) (record k { frame = f; callers = cs }) (settled cs (handling o i f) k) c.1 (on_handler k f (handling o i f) cs c.0.0 c.0.1 on)

unwound_whole : (cs : List Frame) (f : Frame) (n : ℕ) (v : ℤ) (l : LocalState) → Anchored l.path l.program f cs l.locations → NoneLent l.locations → Moves (record l { frame = f; callers = cs }) (unwound cs f n v l)
unwound_whole [] f n v l h none = stopped l f [] (n - f.outer) v h none
unwound_whole (c ∷ cs) f n v l h none =
    let o : Option ExceptionPlace = slice_get f.places (n - f.outer) in
    let out : LocalState = record l { locations = take f.floor l.locations } in
    choose (λ (z : LocalState). Moves (record l { frame = f; callers = c ∷ cs }) z) (nat_lt n f.outer) (unwound cs c n v out) (settled (c ∷ cs) (handling o (n - f.outer) f) (catching o v f l))
    (moves_on (record l { frame = f; callers = c ∷ cs }) (record out { frame = c; callers = cs }) (unwound cs c n v out)
    (left_stays l f c c cs refl h.fitting.fit.1)
    (unwound_whole cs c n v out (anchored_left l.path l.program f c cs l.locations h) (none_taken f.floor l.locations none)))
    (stopped l f (c ∷ cs) (n - f.outer) v h none)

pub unwind_whole : (l : LocalState) (label : ℕ) (v : ℤ) → IsAnchoredWhole l → Moves l (unwind l label v)
unfolding unwind
unwind_whole l label v h = unwound_whole l.callers l.frame (label - l.base) v l h.0 h.1
