use Rattle.std.proofs.Common.{rules, arith, refl, ap, sym, subst, ◌∙◌, ◌≡◌, ◌+◌, ◌-◌, ◌∷◌, ◌++◌, [], false, get_or, append-nil}
use Rattle.std.specs.Mem.Slots.{slots_len, slots_counts, IsFull}
use Rattle.std.specs.Slots.{slots_filled}
use mathlib.Core.Option.{some, some-injective}
use Rattle.shim_board.specs.declared.content.Content.TheVariants.{Net}
use Rattle.shim_board.specs.Closing.{left_in}
use Rattle.shim_board.proofs.Ends.{EndsAs, piece_of, no_piece, net_left, left_more, others_are_spent, others_filled, now_empty, same_net, ended}
use Rattle.shim_board.proofs.RuleHolds.{holds}
use Rattle.shim_board.proofs.board.Board.empty.Goals.{in-Piece, in_default-take+in-Net-1, in_default-take+in-Nothing-1}
use Rattle.shim_board.proofs.board.Board.empty.Goals as goal

pub unreachable-requires : goal.unreachable-requires
unreachable-requires g c = let r = c.requires.seat in let e0 = ended g.N.Named.name (g.N.Named.name c.args.self.table.shared.key.value) c.args.seat.id c.args.seat.me.0 _ _ r.1 c.close_with-closed.ensures.values.2 in
    let z = net_left _ _ _ _ r.3 r.2 e0.0 e0.1 in
    let e : c.take.result ≡ Net z.0 = some-injective _ _ (sym c.take.ensures.value ∙ z.1) in search rules

pub loop-slot-init : goal.loop-slot-init
loop-slot-init g c = let r = c.requires.seat in let e0 = ended g.N.Named.name (g.N.Named.name c.args.self.table.shared.key.value) c.args.seat.id c.args.seat.me.0 _ _ r.1 c.close_with-closed.ensures.values.2 in
    let z = net_left _ _ _ _ r.3 r.2 e0.0 e0.1 in let e = some-injective _ _ (sym c.take.ensures.value ∙ z.1) in let same = same_net _ _ _ _ c.in-Net.is refl e in let sized = c.args.self.sized in let n = c.close_with-closed.ensures.counts.1 in let l = c.take.ensures.others.2 in (
      omega arith,
      l ∙ n,
      search rules,
      c.requires.room.1,
      ap g.N.Named.name same ∙ z.2,
      (λ k low high. ap (λ fs. get_or fs k false) c.take.ensures.others.1 ∙ others_filled (slots_filled c.close_with-closed.result.slots) 0 k (λ e. omega arith) (c.close_with-closed.ensures.values.1 k (omega arith) (omega arith))),
      (λ k low. ap (λ fs. get_or fs k false) c.take.ensures.others.1 ∙ now_empty (slots_filled c.close_with-closed.result.slots) 0 k (λ h. absurd (omega arith)) low),
      (e0.0, subst (λ xs. EndsAs g.N.Named.name (g.N.Named.name c.args.self.table.shared.key.value) c.args.seat.me.0 xs e0.0) (sym c.take.ensures.others.0) e0.1, c.requires.room.0, z.3 ∙ ap (λ x. some (some (Net x))) (sym same)),
      ap slots_len c.take.ensures.others.3 ∙ c.close_with-closed.ensures.counts.0,
      subst IsFull (sym c.take.ensures.others.3) c.close_with-closed.ensures.values.0,
    )

pub loop-slot-preserved : goal.loop-slot-preserved
loop-slot-preserved g c = let i = c.loop-slot.invariant in let t = c.take-in-loop-slot.ensures in let o = t.others in let r = c.requires.seat in let s = i.7.0 in let counts = (slots_counts c.loop-slot.closed.slots).0 in
    let more = left_more g.N.Named.name (g.N.Named.name c.args.self.table.shared.key.value) c.args.seat.me.0 _ r.3 r.2 s i.7.1 c.loop-slot.slot (omega arith) c.take-in-loop-slot.result t.value in (
      omega arith,
      o.2 ∙ i.1,
      elim c.match-take-2.branch [ in-Piece w ↦ search rules | in_default-take+in-Net-1 w ↦ search rules | in_default-take+in-Nothing-1 w ↦ search rules ],
      elim c.match-take-2.branch [ in-Piece w ↦ search rules | in_default-take+in-Net-1 w ↦ search rules | in_default-take+in-Nothing-1 w ↦ search rules ],
      i.4,
      (λ k low high. let l = o.2 in ap (λ fs. get_or fs k false) o.1 ∙ others_filled (slots_filled c.loop-slot.closed.slots) (c.loop-slot.slot + 1) k (λ e. omega arith) (i.5 k (omega arith) (omega arith))),
      (λ k low. ap (λ fs. get_or fs k false) o.1 ∙ now_empty (slots_filled c.loop-slot.closed.slots) (c.loop-slot.slot + 1) k (i.6 k) low),
      (
        s,
        subst (λ xs. EndsAs g.N.Named.name (g.N.Named.name c.args.self.table.shared.key.value) c.args.seat.me.0 xs s) (sym o.0) i.7.1,
        elim c.match-take-2.branch [
          | in-Piece w ↦ ap (λ v. v.items) w.left-is ∙ w.push_reserved.ensures.items ∙ ap (λ l. l ++ (c.loop-slot.slot, w.in-Piece.value) ∷ []) i.7.2 ∙ sym (more ∙ ap (λ d. left_in s c.loop-slot.slot ++ piece_of c.loop-slot.slot d) w.in-Piece.is)
          | in_default-take+in-Net-1 w ↦ ap (λ v. v.items) w.left-is ∙ i.7.2 ∙ sym (more ∙ ap (λ l. left_in s c.loop-slot.slot ++ l) (no_piece c.loop-slot.slot _ w.in_default-take.not-Piece) ∙ append-nil _)
          | in_default-take+in-Nothing-1 w ↦ ap (λ v. v.items) w.left-is ∙ i.7.2 ∙ sym (more ∙ ap (λ l. left_in s c.loop-slot.slot ++ l) (no_piece c.loop-slot.slot _ w.in_default-take.not-Piece) ∙ append-nil _)
        ],
        i.7.3,
      ),
      ap slots_len o.3 ∙ i.8,
      subst IsFull (sym o.3) i.9,
    )

pub returns-clause-left : goal.returns-clause-left
returns-clause-left g c = let i = c.loop-slot.invariant in let r = c.requires.seat in let s = i.7.0 in let counts = (slots_counts c.loop-slot.closed.slots).0 in let sized = c.args.self.sized in let stop = c.loop-slot-test.false in let n = c.slot_count.ensures in let long = i.7.1.long in
    let low = i.0 in let len = i.1 in let all : c.loop-slot.slot ≡ c.args.self.table.shared.table_id.slots - 1 = omega arith in
    (s, record { rule = holds g.N.Named.name (g.N.Named.name c.args.self.table.shared.key.value) s i.7.1.kept; first = i.7.1.at; others = others_are_spent _ _ _ _ r.3 r.2 s i.7.1; places = omega arith }, i.7.3, c.from.ensures ∙ i.7.2 ∙ ap (left_in s) all)
