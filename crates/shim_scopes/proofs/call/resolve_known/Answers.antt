use Rattle.std.proofs.Common.{rules, ◌≡◌, Some, length, ap}
use Rattle.shim_syntax.specs.Names.{position_else}
use Rattle.shim_scopes.specs.Calls.{function_of, function_number}
use Rattle.shim_scopes.proofs.Numbers.{callee_at}
use Rattle.shim_scopes.proofs.Seams.{seam}
use Rattle.shim_scopes.proofs.call.resolve_known.Goals as goal

pub returns-in_err-throws : goal.returns-in_err-throws
returns-in_err-throws c =
    let f = c.index-functions-at.result in
    let e : function_of c.args.functions.now c.args.call.now.function ≡ Some f = callee_at c.args.functions.now c.args.call.now.function c.args.at f c.requires.found c.index-functions-at.is in
    rw e (search (rules, seam))

pub returns-in_err-check : goal.returns-in_err-check
returns-in_err-check c =
    let f = c.index-functions-at.result in
    let e : function_of c.args.functions.now c.args.call.now.function ≡ Some f = callee_at c.args.functions.now c.args.call.now.function c.args.at f c.requires.found c.index-functions-at.is in
    rw e (search (rules, seam))

pub returns-in_err-check-2 : goal.returns-in_err-check-2
returns-in_err-check-2 c =
    let f = c.index-functions-at.result in
    let e : function_of c.args.functions.now c.args.call.now.function ≡ Some f = callee_at c.args.functions.now c.args.call.now.function c.args.at f c.requires.found c.index-functions-at.is in
    rw e (search (rules, seam))

pub returns : goal.returns
returns c =
    let f = c.index-functions-at.result in
    let e : function_of c.args.functions.now c.args.call.now.function ≡ Some f = callee_at c.args.functions.now c.args.call.now.function c.args.at f c.requires.found c.index-functions-at.is in
    let n : function_number c.args.functions.now c.args.call.now.function ≡ c.args.at = ap (position_else (length c.args.functions.now)) c.requires.found in
    rw e (search (rules, seam))
