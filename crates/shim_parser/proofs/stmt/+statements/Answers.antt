use Rattle.std.proofs.Common.{suc, ◌∷◌, [], length, rules, arith, ap, sym, ◌∙◌, refl, subst, add-one}
use Rattle.shim_base.specs.declared.token.Keyword.TheVariants as k
use Rattle.shim_grammar.specs.declared.punctuation.Punctuation.TheVariants as punctuation
use Rattle.shim_grammar.specs.Machine.{AfterEqual, AfterNext, Body, Expression, First, Fixed, Operators, Step, Test, ThrowRest, Word}
use Rattle.shim_syntax.specs.declared.tree.What.TheVariants as st
use Rattle.shim_syntax.specs.declared.tree.BranchWhat.TheVariants as br
use Rattle.shim_parser.specs.Statements.{IsAssigned, IsNamed, IsAfterPar}
use Rattle.shim_parser.proofs.StmtExits.{advanced_same}
use Rattle.shim_parser.specs.OpeningView.{opening_view}
use Rattle.shim_parser.specs.ReaderViews.{ReaderView, Reads}
use Rattle.shim_parser.proofs.Exits.{propagates}
use Rattle.shim_parser.proofs.BodyExits as body
use Rattle.shim_parser.proofs.NestedExits as nested
use Rattle.shim_parser.proofs.StatementExits as cases
use Rattle.shim_parser.proofs.Shorter as shorter
use Rattle.shim_parser.proofs.StmtExits as exits
use Rattle.shim_parser.proofs.stmt.+statements.Goals as goal

pub block-returns-then-is_sign : goal.block-returns-then-is_sign
block-returns-then-is_sign t c = exits.block_end c.args.level c.args.tokens.now c.statements.tokens c.advance.new.self c.statements.all c.is_sign.result c.statements.invariant c.is_sign.ensures c.if-is_sign.true c.advance.ensures

pub block-returns-in_err-more : goal.block-returns-in_err-more
block-returns-in_err-more t c = propagates _ _ _ _ _ _ c.from_residual.ensures
    (exits.block_fails c.args.level c.args.tokens.now c.statements.tokens c.statement.new.tokens c.statements.all c.is_sign.result _ c.statements.invariant c.is_sign.ensures c.if-is_sign.false c.in_err-more.ensures)

pub block-statements-smaller : goal.block-statements-smaller
block-statements-smaller t c = omega (arith, shorter.stmt_shorter (c.in_ok-more.ensures.1))

pub block-statements-preserved : goal.block-statements-preserved
block-statements-preserved t c = exits.block_go c.args.level c.args.tokens.now c.statements.tokens c.statement.new.tokens c.statements.all c.in_ok-more.more c.append.new.self c.statements.invariant c.in_ok-more.ensures c.in_ok-append.ensures.ok

pub block_branch-returns-in_err-statements : goal.block_branch-returns-in_err-statements
block_branch-returns-in_err-statements t c = propagates _ _ _ _ _ _ c.from_residual-in_err-statements.ensures
    (exits.block_branch_fails c.args.n c.args.level _ (add-one c.args.level) c.requires.brace.0 c.args.tokens.now c.advance.new.self (sym c.requires.brace.1) c.in_ok-number.ensures.0 c.advance.ensures c.block.new.tokens _ c.in_err-statements.ensures)

pub block_branch-returns : goal.block_branch-returns
block_branch-returns t c = exits.block_branch_reads c.args.n c.args.level _ (add-one c.args.level) c.requires.brace.0 c.args.tokens.now c.advance.new.self (sym c.requires.brace.1) c.in_ok-number.ensures.0 c.advance.ensures c.block.new.tokens c.peek-line.result.line c.in_ok-statements.statements _ c.in_ok-statements.ensures (exits.line_is c.peek-line.result.what (record { at = c.peek-line.result.at; line = c.peek-line.result.line }) _ (c.peek-line.ensures.is ∙ c.requires.brace.1)) refl

pub body-returns-then-not-is_sign : goal.body-returns-then-not-is_sign
body-returns-then-not-is_sign t c = body.body_statement c.args.level c.args.tokens.now c.statement.new.tokens c.is_sign.result c.statement.result c.is_sign.ensures c.if-not-is_sign.true c.statement.ensures

pub body-returns-in_err-statements : goal.body-returns-in_err-statements
body-returns-in_err-statements t c = propagates _ _ _ _ _ _ c.from_residual.ensures
    (body.body_block_fails c.args.level c.args.tokens.now c.advance.new.self c.begin_body-outside.new.self c.is_sign.result c.is_sign.ensures c.if-not-is_sign.false c.advance.ensures c.begin_body-outside.ensures.body c.block.new.tokens _ c.in_err-statements.ensures)

pub body-returns-then-not-is_key : goal.body-returns-then-not-is_key
body-returns-then-not-is_key t c = body.body_block_reads c.args.level c.args.tokens.now c.advance.new.self c.begin_body-outside.new.self c.is_sign.result c.is_sign.ensures c.if-not-is_sign.false c.advance.ensures c.begin_body-outside.ensures.body c.block.new.tokens c.end_body.new.self c.in_ok-statements.statements c.in_ok-statements.ensures c.begin_body-outside.result (c.begin_body-outside.ensures.outside ∙ ap (λ (u : ReaderView). u.counts.deepest) (advanced_same _ _ c.advance.ensures)) c.end_body.ensures c.is_key.result c.is_key.ensures c.if-not-is_key.true

pub body-returns-in_err-enter : goal.body-returns-in_err-enter
body-returns-in_err-enter t c = propagates _ _ _ _ _ _ c.from_residual-in_err-enter.ensures
    (body.body_enter_fails c.args.level c.args.tokens.now c.advance.new.self c.begin_body-outside.new.self c.is_sign.result c.is_sign.ensures c.if-not-is_sign.false c.advance.ensures c.begin_body-outside.ensures.body c.block.new.tokens c.end_body-2.new.self c.in_ok-statements.statements c.in_ok-statements.ensures c.begin_body-outside.result (c.begin_body-outside.ensures.outside ∙ ap (λ (u : ReaderView). u.counts.deepest) (advanced_same _ _ c.advance.ensures)) c.end_body-2.ensures c.is_key.result c.is_key.ensures c.if-not-is_key.false _ c.as_branch-deeper.ensures c.enter.new.self _ c.in_err-enter.ensures.0 c.in_err-enter.ensures.1 c.in_err-enter.ensures.2)

pub body-returns-in_err-branches : goal.body-returns-in_err-branches
body-returns-in_err-branches t c = propagates _ _ _ _ _ _ c.from_residual-in_err-branches.ensures
    (body.body_branches_fails c.args.level c.args.tokens.now c.advance.new.self c.begin_body-outside.new.self c.is_sign.result c.is_sign.ensures c.if-not-is_sign.false c.advance.ensures c.begin_body-outside.ensures.body c.block.new.tokens c.end_body-2.new.self c.in_ok-statements.statements c.in_ok-statements.ensures c.begin_body-outside.result (c.begin_body-outside.ensures.outside ∙ ap (λ (u : ReaderView). u.counts.deepest) (advanced_same _ _ c.advance.ensures)) c.end_body-2.ensures c.is_key.result c.is_key.ensures c.if-not-is_key.false _ c.as_branch-deeper.ensures c.enter.new.self c.in_ok-enter.ensures.0 c.in_ok-enter.ensures.1 c.branches.new.tokens _ c.in_err-branches.ensures)

pub body-returns : goal.body-returns
body-returns t c = body.body_fork_reads c.args.level c.args.tokens.now c.advance.new.self c.begin_body-outside.new.self c.is_sign.result c.is_sign.ensures c.if-not-is_sign.false c.advance.ensures c.begin_body-outside.ensures.body c.block.new.tokens c.end_body-2.new.self c.in_ok-statements.statements c.in_ok-statements.ensures c.begin_body-outside.result (c.begin_body-outside.ensures.outside ∙ ap (λ (u : ReaderView). u.counts.deepest) (advanced_same _ _ c.advance.ensures)) c.end_body-2.ensures c.is_key.result c.is_key.ensures c.if-not-is_key.false _ c.as_branch-deeper.ensures c.enter.new.self c.in_ok-enter.ensures.0 c.in_ok-enter.ensures.1 c.branches.new.tokens c.peek-line.result.line c.in_ok-branches.field-0 _
    (exits.line_is c.peek-line.result.what (record { at = c.peek-line.result.at; line = c.peek-line.result.line }) _ (c.peek-line.ensures.is ∙ (c.is_sign.ensures.0 c.if-not-is_sign.false).1)) c.in_ok-branches.ensures c.in_ok-alone.ensures

pub braced-returns-in_err-statements : goal.braced-returns-in_err-statements
braced-returns-in_err-statements t c = propagates _ _ _ _ _ _ c.from_residual.ensures
    (exits.braced_fails c.args.level c.args.line _ (add-one c.args.level) c.args.tokens.now c.block.new.tokens _ c.in_err-statements.ensures)

pub braced-returns-then-not-is_key : goal.braced-returns-then-not-is_key
braced-returns-then-not-is_key t c = exits.braced_block c.args.level c.args.line _ (add-one c.args.level) c.args.tokens.now c.block.new.tokens c.in_ok-statements.statements c.in_ok-statements.ensures c.is_key.result c.is_key.ensures c.if-not-is_key.true

pub braced-returns-in_err-branches : goal.braced-returns-in_err-branches
braced-returns-in_err-branches t c = propagates _ _ _ _ _ _ c.from_residual-in_err-branches.ensures
    (exits.braced_branches_fails c.args.level c.args.line _ (add-one c.args.level) c.args.tokens.now c.block.new.tokens c.in_ok-statements.statements c.in_ok-statements.ensures c.is_key.result c.is_key.ensures c.branches.new.tokens _ c.in_err-branches.ensures)

pub braced-returns : goal.braced-returns
braced-returns t c = exits.braced_fork c.args.level c.args.line _ (add-one c.args.level) c.args.tokens.now c.block.new.tokens c.in_ok-statements.statements c.in_ok-statements.ensures c.is_key.result c.is_key.ensures c.branches.new.tokens c.in_ok-branches.field-0 c.in_ok-branches.ensures

pub branch-returns-in_err-args : goal.branch-returns-in_err-args
branch-returns-in_err-args t c = propagates _ _ _ _ _ _ c.from_residual-in_err-args.ensures
    (exits.branch_args_fails c.args.n c.args.level c.in-Name.text.now (record { at = c.peek-token.result.at; line = c.peek-token.result.line }) c.args.tokens.now c.args.tokens.now c.advance.new.self (search rules) c.in_ok-number.ensures.0 c.advance.ensures c.punctuation.new.tokens c.call.new.tokens _ c.in_ok-punctuation.ensures c.in_err-args.ensures)

pub branch-returns : goal.branch-returns
branch-returns t c = exits.branch_call_reads c.args.n c.args.level c.in-Name.text.now (record { at = c.peek-token.result.at; line = c.peek-token.result.line }) c.args.tokens.now c.args.tokens.now c.advance.new.self (search rules) c.in_ok-number.ensures.0 c.advance.ensures c.punctuation.new.tokens c.call.new.tokens c.in_ok-new.field-0 c.in_ok-args.args _ c.in_ok-punctuation.ensures c.in_ok-args.ensures c.in_ok-new.ensures refl

pub branches-returns-then-not-is_key : goal.branches-returns-then-not-is_key
branches-returns-then-not-is_key t c = exits.fork_end c.args.level c.branches.count c.args.first_branch c.args.tokens.now c.branches.tokens c.branches.all c.is_key.result c.branches.invariant c.is_key.ensures c.if-not-is_key.true

pub branches-returns-in_err-next : goal.branches-returns-in_err-next
branches-returns-in_err-next t c = propagates _ _ _ _ _ _ c.from_residual-in_err-next.ensures
    (exits.fork_fails c.args.level c.branches.count c.args.first_branch c.args.tokens.now c.branches.tokens c.advance.new.self c.branches.all _ (add-one c.branches.count) c.is_key.result c.branches.invariant c.is_key.ensures c.if-not-is_key.false c.advance.ensures c.branch-alloc.new.tokens _ c.in_err-next.ensures)

pub branches-branches-smaller : goal.branches-branches-smaller
branches-branches-smaller t c = omega (arith, shorter.branch_shorter (c.in_ok-next.ensures.1), ap (λ (u : ReaderView). length u.rest) c.advance.ensures)

pub branches-branches-preserved : goal.branches-branches-preserved
branches-branches-preserved t c = exits.fork_go c.args.level c.branches.count c.args.first_branch c.args.tokens.now c.branches.tokens c.advance.new.self c.branches.all _ (add-one c.branches.count) c.is_key.result c.branches.invariant c.is_key.ensures c.if-not-is_key.false c.advance.ensures c.branch-alloc.new.tokens c.in_ok-next.next _ c.in_ok-next.ensures c.in_ok-push.ensures.ok (exits.few_branches _ c.in_ok-next.ensures.0)

pub for_loop-returns-in_err-repeated : goal.for_loop-returns-in_err-repeated
for_loop-returns-in_err-repeated t c = propagates _ _ _ _ _ _ c.from_residual-in_err-repeated.ensures
    (nested.for_body_fails c.args.level _ (add-one c.args.level) c.args.tokens.now c.header.new.tokens c.in_ok-first.field-0 c.in_ok-first.ensures c.body.new.tokens _ c.in_err-repeated.ensures)

pub for_loop-returns : goal.for_loop-returns
for_loop-returns t c = nested.for_reads c.args.level _ (add-one c.args.level) c.args.tokens.now c.header.new.tokens c.in_ok-first.field-0 c.in_ok-first.ensures c.body.new.tokens c.in_ok-repeated.repeated c.in_ok-repeated.ensures

pub if_statement-returns-in_err-then_do : goal.if_statement-returns-in_err-then_do
if_statement-returns-in_err-then_do t c = propagates _ _ _ _ _ _ c.from_residual-in_err-then_do.ensures
    (nested.if_then_fails c.args.level _ (add-one c.args.level) c.args.tokens.now c.test.new.tokens c.in_ok-test.test c.in_ok-test.ensures c.body.new.tokens _ c.in_err-then_do.ensures)

pub if_statement-returns-in_err-else_do : goal.if_statement-returns-in_err-else_do
if_statement-returns-in_err-else_do t c = propagates _ _ _ _ _ _ c.from_residual-in_err-else_do.ensures
    (nested.if_else_fails c.args.level _ (add-one c.args.level) c.args.tokens.now c.test.new.tokens c.in_ok-test.test c.in_ok-test.ensures c.body.new.tokens c.in_ok-then_do.then_do c.in_ok-then_do.ensures c.is_key.result c.is_key.ensures c.if-is_key.true c.advance.new.self c.advance.ensures c.body-then-is_key.new.tokens _ c.in_err-else_do.ensures)

pub if_statement-returns-then-is_key : goal.if_statement-returns-then-is_key
if_statement-returns-then-is_key t c = nested.if_else_reads c.args.level _ (add-one c.args.level) c.args.tokens.now c.test.new.tokens c.in_ok-test.test c.in_ok-test.ensures c.body.new.tokens c.in_ok-then_do.then_do c.in_ok-then_do.ensures c.is_key.result c.is_key.ensures c.if-is_key.true c.advance.new.self c.advance.ensures c.body-then-is_key.new.tokens c.in_ok-else_do.else_do c.in_ok-else_do.ensures

pub if_statement-returns : goal.if_statement-returns
if_statement-returns t c = nested.if_alone_reads c.args.level _ (add-one c.args.level) c.args.tokens.now c.test.new.tokens c.in_ok-test.test c.in_ok-test.ensures c.body.new.tokens c.in_ok-then_do.then_do c.in_ok-then_do.ensures c.is_key.result c.is_key.ensures _ c.new.ensures c.if-is_key.false

pub named-returns-then-is_sign : goal.named-returns-then-is_sign
named-returns-then-is_sign t c = exits.named_equal c.args.level c.args.line c.args.text.now c.args.tokens.now c.advance.new.self c.assignment.new.tokens c.is_sign.result c.assignment.result c.is_sign.ensures c.if-is_sign.true c.advance.ensures (subst (λ u. Reads (IsAssigned u c.args.level) (AfterEqual c.args.level ∷ []) c.assignment.result c.advance.new.self c.assignment.new.tokens) c.in_ok-name.ensures c.assignment.ensures)

pub named-returns-in_err-punctuation : goal.named-returns-in_err-punctuation
named-returns-in_err-punctuation t c = propagates _ _ _ _ _ _ c.from_residual-in_err-punctuation.ensures
    (exits.named_punctuation_fails c.args.level c.args.line c.args.text.now c.args.tokens.now c.is_sign.result c.is_sign.ensures c.if-is_sign.false c.punctuation.new.tokens _ c.in_err-punctuation.ensures)

pub named-returns-in_err-args : goal.named-returns-in_err-args
named-returns-in_err-args t c = propagates _ _ _ _ _ _ c.from_residual-in_err-args.ensures
    (exits.named_args_fails c.args.level c.args.line c.args.text.now c.args.tokens.now c.is_sign.result c.is_sign.ensures c.if-is_sign.false c.punctuation.new.tokens c.in_ok-punctuation.ensures c.call.new.tokens _ c.in_err-args.ensures)

pub named-returns-then-not-is_key : goal.named-returns-then-not-is_key
named-returns-then-not-is_key t c = subst (λ u. IsNamed c.args.text.now c.args.line c.args.level c.args.tokens.now.counts c.call.new.tokens.counts c.args.tokens.now.rest c.call.new.tokens.rest (st.Call (record { function = u; args = c.in_ok-args.args }))) (sym c.in_ok-name.ensures) (exits.named_call c.args.level c.args.line c.args.text.now c.args.tokens.now c.is_sign.result c.is_sign.ensures c.if-is_sign.false c.punctuation.new.tokens c.in_ok-punctuation.ensures c.call.new.tokens c.in_ok-args.args c.in_ok-args.ensures c.is_key.result c.is_key.ensures c.if-not-is_key.true)

pub named-returns-in_err-branches : goal.named-returns-in_err-branches
named-returns-in_err-branches t c = propagates _ _ _ _ _ _ c.from_residual-in_err-branches.ensures
    (exits.named_branches_fails c.args.level c.args.line c.args.text.now c.args.tokens.now c.is_sign.result c.is_sign.ensures c.if-is_sign.false c.punctuation.new.tokens c.in_ok-punctuation.ensures c.call.new.tokens c.in_ok-args.args c.in_ok-args.ensures c.is_key.result c.is_key.ensures c.branches.new.tokens _ c.in_err-branches.ensures)

pub named-returns : goal.named-returns
named-returns t c = exits.named_fork c.args.level c.args.line c.args.text.now c.args.tokens.now c.is_sign.result c.is_sign.ensures c.if-is_sign.false c.punctuation.new.tokens c.in_ok-punctuation.ensures c.call.new.tokens c.in_ok-args.args c.in_ok-args.ensures c.is_key.result c.is_key.ensures c.branches.new.tokens c.in_ok-branches.field-0
    (subst (λ u. IsAfterPar (record { line = c.args.line; what = br.Call (record { function = u; args = c.in_ok-args.args }) }) c.args.level c.call.new.tokens.counts c.branches.new.tokens.counts c.call.new.tokens.rest c.branches.new.tokens.rest c.in_ok-branches.field-0) c.in_ok-name.ensures c.in_ok-branches.ensures)

pub statement-returns-in-Empty : goal.statement-returns-in-Empty
statement-returns-in-Empty t c = cases.empty_case c.args.level (record { at = c.peek-token.result.at; line = c.peek-token.result.line }) c.args.tokens.now c.enter.new.self c.advance.new.self c.in_ok-enter.ensures.0 c.in_ok-enter.ensures.1 c.advance.ensures (sym c.peek-token.ensures.is ∙ c.in-Some.ensures (record { at = c.peek-token.result.at; line = c.peek-token.result.line }) ∙ ap (λ o. opening_view o (record { at = c.peek-token.result.at; line = c.peek-token.result.line })) c.in-Empty.is) c.new.result c.new.ensures

pub statement-returns-in-Declaration : goal.statement-returns-in-Declaration
statement-returns-in-Declaration t c = cases.declaration_case c.args.level (record { at = c.peek-token.result.at; line = c.peek-token.result.line }) c.args.tokens.now c.enter.new.self c.advance.new.self c.in_ok-enter.ensures.0 c.in_ok-enter.ensures.1 c.advance.ensures c.in-Declaration.ty (sym c.peek-token.ensures.is ∙ c.in-Some.ensures (record { at = c.peek-token.result.at; line = c.peek-token.result.line }) ∙ ap (λ o. opening_view o (record { at = c.peek-token.result.at; line = c.peek-token.result.line })) c.in-Declaration.is) c.declarations.new.tokens c.declarations.result c.declarations.ensures

pub statement-returns-in-Name : goal.statement-returns-in-Name
statement-returns-in-Name t c = cases.named_case c.args.level (record { at = c.peek-token.result.at; line = c.peek-token.result.line }) c.args.tokens.now c.enter.new.self c.advance.new.self c.in_ok-enter.ensures.0 c.in_ok-enter.ensures.1 c.advance.ensures c.in-Name.text.now (sym c.peek-token.ensures.is ∙ c.in-Some.ensures (record { at = c.peek-token.result.at; line = c.peek-token.result.line }) ∙ ap (λ o. opening_view o (record { at = c.peek-token.result.at; line = c.peek-token.result.line })) c.in-Name.is) c.named.new.tokens c.named.result c.one-in-Name.result c.named.ensures c.one-in-Name.ensures

pub statement-returns-in-Next : goal.statement-returns-in-Next
statement-returns-in-Next t c = cases.keyed_case c.args.level (record { at = c.peek-token.result.at; line = c.peek-token.result.line }) c.args.tokens.now c.enter.new.self c.advance.new.self c.in_ok-enter.ensures.0 c.in_ok-enter.ensures.1 c.advance.ensures k.Next (sym c.peek-token.ensures.is ∙ c.in-Some.ensures (record { at = c.peek-token.result.at; line = c.peek-token.result.line }) ∙ ap (λ o. opening_view o (record { at = c.peek-token.result.at; line = c.peek-token.result.line })) c.in-Next.is) (Word ∷ AfterNext c.args.level ∷ []) (λ z s u. refl)
    c.next.new.tokens c.next.result c.one-in-Next.result c.next.ensures c.one-in-Next.ensures

pub statement-returns-in-Put : goal.statement-returns-in-Put
statement-returns-in-Put t c = cases.keyed_case c.args.level (record { at = c.peek-token.result.at; line = c.peek-token.result.line }) c.args.tokens.now c.enter.new.self c.advance.new.self c.in_ok-enter.ensures.0 c.in_ok-enter.ensures.1 c.advance.ensures k.Put (sym c.peek-token.ensures.is ∙ c.in-Some.ensures (record { at = c.peek-token.result.at; line = c.peek-token.result.line }) ∙ ap (λ o. opening_view o (record { at = c.peek-token.result.at; line = c.peek-token.result.line })) c.in-Put.is) (Word ∷ Fixed punctuation.Comma ∷ Expression c.args.level ∷ Operators c.args.level ∷ Fixed punctuation.Semicolon ∷ []) (λ z s u. refl)
    c.put.new.tokens c.put.result c.one-in-Put.result c.put.ensures c.one-in-Put.ensures

pub statement-returns-in-If : goal.statement-returns-in-If
statement-returns-in-If t c = cases.keyed_case c.args.level (record { at = c.peek-token.result.at; line = c.peek-token.result.line }) c.args.tokens.now c.enter.new.self c.advance.new.self c.in_ok-enter.ensures.0 c.in_ok-enter.ensures.1 c.advance.ensures k.If (sym c.peek-token.ensures.is ∙ c.in-Some.ensures (record { at = c.peek-token.result.at; line = c.peek-token.result.line }) ∙ ap (λ o. opening_view o (record { at = c.peek-token.result.at; line = c.peek-token.result.line })) c.in-If.is) (nested.IfStack c.args.level) (λ z s u. refl)
    c.if_statement.new.tokens c.if_statement.result c.one-in-If.result c.if_statement.ensures c.one-in-If.ensures

pub statement-returns-in-While : goal.statement-returns-in-While
statement-returns-in-While t c = cases.keyed_case c.args.level (record { at = c.peek-token.result.at; line = c.peek-token.result.line }) c.args.tokens.now c.enter.new.self c.advance.new.self c.in_ok-enter.ensures.0 c.in_ok-enter.ensures.1 c.advance.ensures k.While (sym c.peek-token.ensures.is ∙ c.in-Some.ensures (record { at = c.peek-token.result.at; line = c.peek-token.result.line }) ∙ ap (λ o. opening_view o (record { at = c.peek-token.result.at; line = c.peek-token.result.line })) c.in-While.is) (Fixed punctuation.LeftParen ∷ Expression c.args.level ∷ Operators c.args.level ∷ Fixed punctuation.RightParen ∷ Body (suc c.args.level) ∷ []) (λ z s u. refl)
    c.while_loop.new.tokens c.while_loop.result c.one-in-While.result c.while_loop.ensures c.one-in-While.ensures

pub statement-returns-in-For : goal.statement-returns-in-For
statement-returns-in-For t c = cases.keyed_case c.args.level (record { at = c.peek-token.result.at; line = c.peek-token.result.line }) c.args.tokens.now c.enter.new.self c.advance.new.self c.in_ok-enter.ensures.0 c.in_ok-enter.ensures.1 c.advance.ensures k.For (sym c.peek-token.ensures.is ∙ c.in-Some.ensures (record { at = c.peek-token.result.at; line = c.peek-token.result.line }) ∙ ap (λ o. opening_view o (record { at = c.peek-token.result.at; line = c.peek-token.result.line })) c.in-For.is) (Fixed punctuation.LeftParen ∷ First (suc c.args.level) ∷ Test c.args.level ∷ Step (suc c.args.level) ∷ Body (suc c.args.level) ∷ []) (λ z s u. refl)
    c.for_loop.new.tokens c.for_loop.result c.one-in-For.result c.for_loop.ensures c.one-in-For.ensures

pub statement-returns-in-Try : goal.statement-returns-in-Try
statement-returns-in-Try t c = cases.keyed_case c.args.level (record { at = c.peek-token.result.at; line = c.peek-token.result.line }) c.args.tokens.now c.enter.new.self c.advance.new.self c.in_ok-enter.ensures.0 c.in_ok-enter.ensures.1 c.advance.ensures k.Try (sym c.peek-token.ensures.is ∙ c.in-Some.ensures (record { at = c.peek-token.result.at; line = c.peek-token.result.line }) ∙ ap (λ o. opening_view o (record { at = c.peek-token.result.at; line = c.peek-token.result.line })) c.in-Try.is) (nested.TryStack c.args.level) (λ z s u. refl)
    c.try_statement.new.tokens c.try_statement.result c.one-in-Try.result c.try_statement.ensures c.one-in-Try.ensures

pub statement-returns-in-Throw : goal.statement-returns-in-Throw
statement-returns-in-Throw t c = cases.keyed_case c.args.level (record { at = c.peek-token.result.at; line = c.peek-token.result.line }) c.args.tokens.now c.enter.new.self c.advance.new.self c.in_ok-enter.ensures.0 c.in_ok-enter.ensures.1 c.advance.ensures k.Throw (sym c.peek-token.ensures.is ∙ c.in-Some.ensures (record { at = c.peek-token.result.at; line = c.peek-token.result.line }) ∙ ap (λ o. opening_view o (record { at = c.peek-token.result.at; line = c.peek-token.result.line })) c.in-Throw.is) (Word ∷ ThrowRest c.args.level ∷ []) (λ z s u. refl)
    c.throw.new.tokens c.throw.result c.one-in-Throw.result c.throw.ensures c.one-in-Throw.ensures

pub try_statement-returns-in_err-tried : goal.try_statement-returns-in_err-tried
try_statement-returns-in_err-tried t c = propagates _ _ _ _ _ _ c.from_residual-in_err-tried.ensures
    (nested.tried_fails c.args.level _ (add-one c.args.level) c.args.tokens.now c.punctuation.new.tokens c.in_ok-punctuation.ensures c.block.new.tokens _ c.in_err-tried.ensures)

pub try_statement-returns-in_err-punctuation-2 : goal.try_statement-returns-in_err-punctuation-2
try_statement-returns-in_err-punctuation-2 t c = propagates _ _ _ _ _ _ c.from_residual-in_err-punctuation-2.ensures
    (nested.catch_fails c.args.level _ (add-one c.args.level) c.args.tokens.now c.punctuation.new.tokens c.in_ok-punctuation.ensures c.block.new.tokens c.in_ok-tried.tried c.in_ok-tried.ensures c.punctuation-2.new.tokens _ c.in_err-punctuation-2.ensures)

pub try_statement-returns-in_err-punctuation-3 : goal.try_statement-returns-in_err-punctuation-3
try_statement-returns-in_err-punctuation-3 t c = propagates _ _ _ _ _ _ c.from_residual-in_err-punctuation-3.ensures
    (nested.catch_paren_fails c.args.level _ (add-one c.args.level) c.args.tokens.now c.punctuation.new.tokens c.in_ok-punctuation.ensures c.block.new.tokens c.in_ok-tried.tried c.in_ok-tried.ensures c.punctuation-2.new.tokens c.in_ok-punctuation-2.ensures c.punctuation-3.new.tokens _ c.in_err-punctuation-3.ensures)

pub try_statement-returns-in_err-exception : goal.try_statement-returns-in_err-exception
try_statement-returns-in_err-exception t c = propagates _ _ _ _ _ _ c.from_residual-in_err-exception.ensures
    (nested.exception_fails c.args.level _ (add-one c.args.level) c.args.tokens.now c.punctuation.new.tokens c.in_ok-punctuation.ensures c.block.new.tokens c.in_ok-tried.tried c.in_ok-tried.ensures c.punctuation-2.new.tokens c.in_ok-punctuation-2.ensures c.punctuation-3.new.tokens c.in_ok-punctuation-3.ensures c.name.new.tokens _ c.in_err-exception.ensures)

pub try_statement-returns-in_err-variable : goal.try_statement-returns-in_err-variable
try_statement-returns-in_err-variable t c = propagates _ _ _ _ _ _ c.from_residual-in_err-variable.ensures
    (nested.catch_rest_fails c.args.level _ (add-one c.args.level) c.args.tokens.now c.punctuation.new.tokens c.in_ok-punctuation.ensures c.block.new.tokens c.in_ok-tried.tried c.in_ok-tried.ensures c.punctuation-2.new.tokens c.in_ok-punctuation-2.ensures c.punctuation-3.new.tokens c.in_ok-punctuation-3.ensures c.name.new.tokens c.in_ok-exception.exception c.in_ok-exception.ensures c.catch_rest.new.tokens _ c.in_err-variable.ensures)

pub try_statement-returns-in_err-handler : goal.try_statement-returns-in_err-handler
try_statement-returns-in_err-handler t c = propagates _ _ _ _ _ _ c.from_residual-in_err-handler.ensures
    (nested.handler_fails c.args.level _ (add-one c.args.level) c.args.tokens.now c.punctuation.new.tokens c.in_ok-punctuation.ensures c.block.new.tokens c.in_ok-tried.tried c.in_ok-tried.ensures c.punctuation-2.new.tokens c.in_ok-punctuation-2.ensures c.punctuation-3.new.tokens c.in_ok-punctuation-3.ensures c.name.new.tokens c.in_ok-exception.exception c.in_ok-exception.ensures c.catch_rest.new.tokens c.in_ok-variable.variable c.in_ok-variable.ensures c.block-2.new.tokens _ c.in_err-handler.ensures)

pub try_statement-returns : goal.try_statement-returns
try_statement-returns t c = nested.try_reads c.args.level _ (add-one c.args.level) c.args.tokens.now c.punctuation.new.tokens c.in_ok-punctuation.ensures c.block.new.tokens c.in_ok-tried.tried c.in_ok-tried.ensures c.punctuation-2.new.tokens c.in_ok-punctuation-2.ensures c.punctuation-3.new.tokens c.in_ok-punctuation-3.ensures c.name.new.tokens c.in_ok-exception.exception c.in_ok-exception.ensures c.catch_rest.new.tokens c.in_ok-variable.variable c.in_ok-variable.ensures c.block-2.new.tokens c.in_ok-handler.handler c.in_ok-handler.ensures

pub while_loop-returns-in_err-repeated : goal.while_loop-returns-in_err-repeated
while_loop-returns-in_err-repeated t c = propagates _ _ _ _ _ _ c.from_residual-in_err-repeated.ensures
    (nested.while_body_fails c.args.level _ (add-one c.args.level) c.args.tokens.now c.test.new.tokens c.in_ok-test.test c.in_ok-test.ensures c.body.new.tokens _ c.in_err-repeated.ensures)

pub while_loop-returns : goal.while_loop-returns
while_loop-returns t c = nested.while_reads c.args.level _ (add-one c.args.level) c.args.tokens.now c.test.new.tokens c.in_ok-test.test c.in_ok-test.ensures c.body.new.tokens c.in_ok-repeated.repeated c.in_ok-repeated.ensures
