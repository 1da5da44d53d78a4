-- A channel's value as the code asks for it, and what a rendezvous leaves of the children from a place on.
use Rattle.std.specs.Prelude.{ℕ, ℤ, zero, suc, Option, Some, None, cond}
use Rattle.shim_base.specs.Paths.{Channel}
use Rattle.shim_local.specs.Process.{Ops}
use Rattle.shim_semantics.specs.Nodes as model

-- the value of the channel at this process, if there is one
abbrev pub valued : {S : Type 0} → Ops S → Channel → Option S → Option ℤ
valued o c None = None
valued o c (Some l) = Some (o.value l c)

-- the value of the channel, where the process carries it
abbrev pub value_carried : {S : Type 0} → Ops S → Channel → S → Option ℤ
value_carried o c l = cond (o.carries l c) (Some (o.value l c)) None

-- each live process that stands at the channel, at and below the children from a place on, receives the value
abbrev pub received_from : {S : Type 0} → Ops S → Channel → ℤ → ℕ → model.Nodes S → model.Nodes S
received_from o c v zero ks = model.all_received o c v ks
received_from o c v (suc i) model.no_node = model.no_node
received_from o c v (suc i) (model.node_and k ks) = model.node_and k (received_from o c v i ks)
