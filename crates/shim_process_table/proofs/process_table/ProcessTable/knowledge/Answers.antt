use Rattle.std.proofs.Common.{Some, None, sym, subst, ◌∙◌, arith}
use Rattle.std.proofs.lemmas.Option.{slice_get_read}
use Rattle.shim_laws_table.proofs.Forking.{there_is}
use Rattle.shim_records.proofs.Stepping.{past_end}
use Rattle.shim_process_table.specs.Planning.{KnowledgeAt}
use Rattle.shim_process_table.proofs.Visiting.{past_states, past_records, no_fork, nothing_known, is_known}
use Rattle.shim_process_table.proofs.process_table.ProcessTable.knowledge.Goals as goal

pub returns-then-at-len : goal.returns-then-at-len
returns-then-at-len g c =
    let v = c.self.inside in
    subst (λ z. KnowledgeAt z c.args.c.now.channel c.args.at None) c.self.view_is
    (past_states (record { states = v.states.items; records = v.records.items }) c.args.c.now.channel c.args.at (let w = c.len.ensures in let y = v.states.ok.0 in omega (arith, c.if-at-len.true, w, y)))

pub returns-then-at-len-2 : goal.returns-then-at-len-2
returns-then-at-len-2 g c =
    let v = c.self.inside in
    subst (λ z. KnowledgeAt z c.args.c.now.channel c.args.at None) c.self.view_is
    (past_records (record { states = v.states.items; records = v.records.items }) c.args.c.now.channel c.args.at (past_end v.records.items c.args.at (let w = c.len-2.ensures in let y = v.records.ok.0 in omega (arith, c.if-at-len-2.true, w, y))))

pub returns-in-None : goal.returns-in-None
returns-in-None g c =
    let v = c.self.inside in
    let r = c.index-fork.result.now in
    subst (λ z. KnowledgeAt z c.args.c.now.channel c.args.at None) c.self.view_is
    (no_fork (record { states = v.states.items; records = v.records.items }) c.args.c.now.channel c.args.at r (slice_get_read v.records.items c.len-2.result c.args.at r (c.len-2.ensures ∙ v.records.ok.0) (omega (arith, c.if-at-len-2.false)) c.index-fork.ensures)
    (sym c.forked_into.ensures ∙ c.in-None.is))

pub returns-in-None-sharing_of : goal.returns-in-None-sharing_of
returns-in-None-sharing_of g c =
    let v = c.self.inside in
    let r = c.index-fork.result.now in
    subst (λ z. KnowledgeAt z c.args.c.now.channel c.args.at None) c.self.view_is
    (nothing_known (record { states = v.states.items; records = v.records.items }) c.args.c.now.channel c.args.at r (slice_get_read v.records.items c.len-2.result c.args.at r (c.len-2.ensures ∙ v.records.ok.0) (omega (arith, c.if-at-len-2.false)) c.index-fork.ensures)
    (sym c.sharing_of.ensures ∙ c.in-None-sharing_of.is))

pub returns-in-Some-sharing_of : goal.returns-in-Some-sharing_of
returns-in-Some-sharing_of g c =
    let v = c.self.inside in
    let r = c.index-fork.result.now in
    let its = there_is v.states.items c.args.at (let past = c.if-at-len.false in let len = c.len.ensures in let same = v.states.ok.0 in omega (arith, past, len, same)) in
    subst (λ z. KnowledgeAt z c.args.c.now.channel c.args.at (Some (record { first = r.first; count = c.in-Some.count; sharing = c.in-Some-sharing_of.sharing }))) c.self.view_is
    (is_known (record { states = v.states.items; records = v.records.items }) c.args.c.now.channel c.args.at r
    (slice_get_read v.records.items c.len-2.result c.args.at r (c.len-2.ensures ∙ v.records.ok.0) (omega (arith, c.if-at-len-2.false)) c.index-fork.ensures) its.0 c.in-Some.count c.in-Some-sharing_of.sharing its.1
    (sym c.forked_into.ensures ∙ c.in-Some.is) (sym c.sharing_of.ensures ∙ c.in-Some-sharing_of.is))
