use Rattle.std.proofs.Common.{◌+◌, ◌∙◌, ◌≤◌, ap, arith, length, refl, slice_get, subst, sym, true}
use Rattle.shim_vm.specs.declared.resuming.ResumePoint.TheVariants.{At}
use Rattle.shim_vm.specs.Resuming.{resume_step}
use Rattle.shim_vm.proofs.Passing.{Along, at_second, jumped, resumes_at_end, resumes_at_mark, lands_back, not_end, not_jump, not_untry, same_mark, seen, seen_end, starts, untried}
use Rattle.shim_vm.proofs.resuming.skip_jumps.Goals as goal

pub loop-place-init : goal.loop-place-init
loop-place-init c = record { on = λ u k same st. starts u k c.args.many c.args.place st; half = λ u n s k same h. (refl, refl) }

pub returns-in-Mark-clause-on : goal.returns-in-Mark-clause-on
returns-in-Mark-clause-on c = λ u k same st.
    resumes_at_mark u k c.args.many c.loop-place.place c.loop-place.kept c.in-Mark.number c.in-Mark.halfway
    (seen u c.args.code.now c.loop-place.place _ _ _ same c.instr_at.ensures.value c.rest_of.ensures c.in-Mark.is)
    (c.loop-place.invariant.on u k same st)

pub returns-in-Mark-clause-half : goal.returns-in-Mark-clause-half
returns-in-Mark-clause-half c = λ u n s k same h.
    let i = c.loop-place.invariant.half u n s k same h in
    let e = seen u c.args.code.now c.loop-place.place _ _ _ same c.instr_at.ensures.value c.rest_of.ensures c.in-Mark.is in
    let m = same_mark e (ap (λ p. resume_step (slice_get u.code p)) i.0 ∙ at_second u c.args.place n s k h) in
    ap (λ p. At p c.in-Mark.number c.in-Mark.halfway c.loop-place.kept) i.0
    ∙ ap (λ x. At c.args.place x c.in-Mark.halfway c.loop-place.kept) m.0
    ∙ ap (λ b. At c.args.place n b c.loop-place.kept) m.1
    ∙ ap (At c.args.place n true) i.1

pub loop-place-preserved-then-place-to : goal.loop-place-preserved-then-place-to
loop-place-preserved-then-place-to c = record {
  on = λ u k same st.
      jumped u k c.args.many c.loop-place.place c.loop-place.kept c.in-Jump.to
      (seen u c.args.code.now c.loop-place.place _ _ _ same c.instr_at.ensures.value c.rest_of.ensures c.in-Jump.is)
      (c.loop-place.invariant.on u k same st);
  half = λ u n s k same h.
      let i = c.loop-place.invariant.half u n s k same h in
      let e = seen u c.args.code.now c.loop-place.place _ _ _ same c.instr_at.ensures.value c.rest_of.ensures c.in-Jump.is in
      absurd (not_jump (ap (λ p. resume_step (slice_get u.code p)) i.0 ∙ at_second u c.args.place n s k h) e);
}

pub returns-in-Jump-2-clause-on : goal.returns-in-Jump-2-clause-on
returns-in-Jump-2-clause-on c = λ u k same st.
    lands_back u k c.args.many c.loop-place.place c.loop-place.kept c.in-Jump.to c.back_at.result
    (seen u c.args.code.now c.loop-place.place _ _ _ same c.instr_at.ensures.value c.rest_of.ensures c.in-Jump.is)
    (λ lt. absurd (omega (arith, lt, c.if-place-to.false)))
    (λ number halfway e. c.back_at.ensures number halfway (ap (λ x. resume_step (slice_get x c.in-Jump.to)) (sym same) ∙ e))
    (c.loop-place.invariant.on u k same st)

pub loop-place-preserved : goal.loop-place-preserved
loop-place-preserved c = record {
  on = λ u k same st.
      subst (λ n. Along u k c.args.many (c.loop-place.place + 1) n) (sym c.saturating_sub-kept.ensures)
      (untried u k c.args.many c.loop-place.place c.loop-place.kept
      (seen u c.args.code.now c.loop-place.place _ _ _ same c.instr_at.ensures.value c.rest_of.ensures c.in-Untry.is)
      (c.loop-place.invariant.on u k same st));
  half = λ u n s k same h.
      let i = c.loop-place.invariant.half u n s k same h in
      let e = seen u c.args.code.now c.loop-place.place _ _ _ same c.instr_at.ensures.value c.rest_of.ensures c.in-Untry.is in
      absurd (not_untry (ap (λ p. resume_step (slice_get u.code p)) i.0 ∙ at_second u c.args.place n s k h) e);
}

pub returns-in-End-clause-on : goal.returns-in-End-clause-on
returns-in-End-clause-on c = λ u k same st.
    resumes_at_end u k c.args.many c.loop-place.place c.loop-place.kept
    (seen u c.args.code.now c.loop-place.place _ _ _ same c.instr_at.ensures.value c.rest_of.ensures c.in-End.is)
    (c.loop-place.invariant.on u k same st)

pub returns-clause-on : goal.returns-clause-on
returns-clause-on c = λ u k same st.
    let le : length c.args.code.now ≤ c.loop-place.place = omega (arith, c.loop-place-test.false) in
    resumes_at_end u k c.args.many c.loop-place.place c.loop-place.kept (seen_end u c.args.code.now c.loop-place.place same le) (c.loop-place.invariant.on u k same st)

pub returns-clause-half : goal.returns-clause-half
returns-clause-half c = λ u n s k same h.
    let le : length c.args.code.now ≤ c.loop-place.place = omega (arith, c.loop-place-test.false) in
    let i = c.loop-place.invariant.half u n s k same h in
    let e = seen_end u c.args.code.now c.loop-place.place same le in
    absurd (not_end (ap (λ p. resume_step (slice_get u.code p)) i.0 ∙ at_second u c.args.place n s k h) e)
