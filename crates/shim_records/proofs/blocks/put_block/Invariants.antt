use Rattle.std.proofs.Common.{◌≡◌, ◌≤◌, ◌+◌, vec_len, vec_capacity, length}
use Rattle.shim_records.specs.Blocks.{with_block}
use Rattle.shim_records.proofs.blocks.put_block.Given as goal

abbrev pub invariant-loop-item : goal.invariant-loop-item
invariant-loop-item g l =
    (with_block l.at l.item-iterator.rest.items l.items.items ≡ with_block l.first l.fn.block.items l.initial.items.items)
    × (l.at ≤ vec_len l.items) × (l.at + length l.item-iterator.rest.items ≤ vec_capacity l.items)
