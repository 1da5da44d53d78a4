-- Which of this crate's types may cross threads: all, since they hold numbers and lists, and share what says the same to every thread. Those that hold statements
-- are shown part by part, since a `search` that goes down through all of them runs out of steps.
use denote.Builtin.{u8}
use denote.RattleType.{RattleType}
use denote.Param.Send.{IsSend, IsSync, sendable}
use Rattle.std.proofs.Crossing.{crosses}
use Rattle.std.specs.contracts.option.Option as Option
use Rattle.shim_base.specs.contracts.boxed.Boxed as Boxed
use Rattle.shim_base.specs.contracts.list.List as List
use Rattle.shim_base.specs.contracts.shared.Shared as Shared
use Rattle.shim_scopes.proofs.tree.UExpr.TheLaws.TheKnot as expressions
use Rattle.shim_scopes.specs.contracts.tree.UExpr as UExpr
use Rattle.shim_scopes.specs.contracts.tree.UParam as UParam
use Rattle.shim_syntax.specs.contracts.tree.Sort as Sort
use Rattle.shim_units.proofs.unit.UWhat.TheLaws.TheKnot as statements
use Rattle.shim_units.specs.contracts.accepted.Accepted as Accepted
use Rattle.shim_units.specs.contracts.form.Form as Form
use Rattle.shim_units.specs.contracts.unit.UBranch as UBranch
use Rattle.shim_units.specs.contracts.unit.UCall as UCall
use Rattle.shim_units.specs.contracts.unit.UStmt as UStmt
use Rattle.shim_units.specs.contracts.unit.Unit as Unit'

pub list_send : (T : RattleType) → IsSend T → IsSend (List.the_row T)
list_send T s = search (sendable, crosses) depth 20

pub list_sync : (T : RattleType) → IsSync T → IsSync (List.the_row T)
list_sync T y = search (sendable, crosses) depth 20

list_field_send : (T : RattleType) → IsSend T → IsSend (List.the_field T).row
list_field_send T s = search (sendable, crosses) depth 20

list_field_sync : (T : RattleType) → IsSync T → IsSync (List.the_field T).row
list_field_sync T y = search (sendable, crosses) depth 20

boxed_send : (T : RattleType) → IsSend T → IsSend (Boxed.the_row T)
boxed_send T s = search (sendable, crosses) depth 20

boxed_sync : (T : RattleType) → IsSync T → IsSync (Boxed.the_row T)
boxed_sync T y = search (sendable, crosses) depth 20

pub shared_send : (T : RattleType) → IsSend T → IsSync T → IsSend (Shared.the_row T)
shared_send T s y = search (sendable, crosses) depth 20

pub shared_sync : (T : RattleType) → IsSend T → IsSync T → IsSync (Shared.the_row T)
shared_sync T s y = search (sendable, crosses) depth 20

shared_field_send : (T : RattleType) → IsSend T → IsSync T → IsSend (Shared.the_field T).row
shared_field_send T s y = search (sendable, crosses) depth 20

shared_field_sync : (T : RattleType) → IsSend T → IsSync T → IsSync (Shared.the_field T).row
shared_field_sync T s y = search (sendable, crosses) depth 20

boxed_field_send : (T : RattleType) → IsSend T → IsSend (Boxed.the_field T).row
boxed_field_send T s = search (sendable, crosses) depth 20

boxed_field_sync : (T : RattleType) → IsSync T → IsSync (Boxed.the_field T).row
boxed_field_sync T y = search (sendable, crosses) depth 20

expression_send : IsSend (UExpr.the_field).row
expression_send = expressions.send-UExpr (search sendable) (search sendable) (search sendable depth 20) boxed_send (search sendable depth 20)

expression_sync : IsSync (UExpr.the_field).row
expression_sync = expressions.sync-UExpr (search sendable) (search sendable) (search sendable depth 20) boxed_sync (search sendable depth 20)

option_send : IsSend (Option.the_field UExpr.the_row).row
option_send = let s = expression_send in search sendable depth 20

option_sync : IsSync (Option.the_field UExpr.the_row).row
option_sync = let y = expression_sync in search sendable depth 20

call_send : IsSend (UCall.the_field).row
call_send = let s = expression_send in search (list_field_send, boxed_field_send, sendable) depth 20

call_sync : IsSync (UCall.the_field).row
call_sync = let y = expression_sync in search (list_field_sync, boxed_field_sync, sendable) depth 20

branches_send : IsSend (List.the_field UBranch.the_row).row
branches_send = let s = call_send in search (list_field_send, sendable) depth 20

branches_sync : IsSync (List.the_field UBranch.the_row).row
branches_sync = let y = call_sync in search (list_field_sync, sendable) depth 20

statement_send : IsSend (UStmt.the_field).row
statement_send = statements.send-UStmt (search sendable depth 20) (search sendable) option_send expression_send list_send call_send (search sendable depth 20) branches_send

statement_sync : IsSync (UStmt.the_field).row
statement_sync = statements.sync-UStmt (search sendable depth 20) (search sendable) option_sync expression_sync list_sync call_sync (search sendable depth 20) branches_sync

pub unit_send : IsSend (Unit'.the_field).row
unit_send =
    let params = list_field_send UParam.the_row (search sendable depth 20) in
    let slots = list_field_send Sort.the_row (search sendable depth 20) in
    let s : IsSend UStmt.the_row = let s = statement_send in search sendable in
    let body = list_field_send UStmt.the_row s in
    search (list_field_send, sendable) depth 20

pub unit_sync : IsSync (Unit'.the_field).row
unit_sync =
    let params = list_field_sync UParam.the_row (search sendable depth 20) in
    let slots = list_field_sync Sort.the_row (search sendable depth 20) in
    let y : IsSync UStmt.the_row = let y = statement_sync in search sendable in
    let body = list_field_sync UStmt.the_row y in
    search (list_field_sync, sendable) depth 20

form_send : IsSend (Form.the_field).row
form_send =
    let s : IsSend Unit'.the_row = let s = unit_send in search sendable in
    let units = list_field_send Unit'.the_row s in
    search (list_field_send, sendable) depth 20

form_sync : IsSync (Form.the_field).row
form_sync =
    let y : IsSync Unit'.the_row = let y = unit_sync in search sendable in
    let units = list_field_sync Unit'.the_row y in
    search (list_field_sync, sendable) depth 20

form_row_send : IsSend Form.the_row
form_row_send = let s = form_send in search sendable

form_row_sync : IsSync Form.the_row
form_row_sync = let y = form_sync in search sendable

bytes_send : IsSend (List.the_row u8)
bytes_send = search (list_send, sendable) depth 20

bytes_sync : IsSync (List.the_row u8)
bytes_sync = search (list_sync, sendable) depth 20

option_field_send : (T : RattleType) → IsSend T → IsSend (Option.the_field T).row
option_field_send T s = search (sendable, crosses) depth 20

option_field_sync : (T : RattleType) → IsSync T → IsSync (Option.the_field T).row
option_field_sync T y = search (sendable, crosses) depth 20

text_send : IsSend (Option.the_field (Shared.the_row (List.the_row u8))).row
text_send = option_field_send (Shared.the_row (List.the_row u8)) (shared_send (List.the_row u8) bytes_send bytes_sync)

text_sync : IsSync (Option.the_field (Shared.the_row (List.the_row u8))).row
text_sync = option_field_sync (Shared.the_row (List.the_row u8)) (shared_sync (List.the_row u8) bytes_send bytes_sync)

pub accepted_send : IsSend Accepted.the_row
accepted_send =
    let s = shared_field_send Form.the_row form_row_send form_row_sync in
    let t = text_send in
    search sendable depth 20

pub accepted_sync : IsSync Accepted.the_row
accepted_sync =
    let y = shared_field_sync Form.the_row form_row_send form_row_sync in
    let t = text_sync in
    search sendable depth 20
