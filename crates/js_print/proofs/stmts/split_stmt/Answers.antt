use Rattle.std.proofs.Common.{refl}
use Rattle.js_print.proofs.StmtSplits.{as_stmt, on_break, on_continue, on_empty, on_expr_stmt, on_return}
use Rattle.js_print.proofs.stmts.split_stmt.Goals as goal

pub returns-in-Declare : goal.returns-in-Declare
returns-in-Declare c = as_stmt _ _ _ _ _ c.in-Declare.is c.put_declare.ensures

pub returns-in-DeclareFunction : goal.returns-in-DeclareFunction
returns-in-DeclareFunction c = as_stmt _ _ _ _ _ c.in-DeclareFunction.is c.put_declare_function.ensures

pub returns-in-Block : goal.returns-in-Block
returns-in-Block c = as_stmt _ _ _ _ _ c.in-Block.is c.put_block.ensures

pub returns-in-If : goal.returns-in-If
returns-in-If c = as_stmt _ _ _ _ _ c.in-If.is c.put_if.ensures

pub returns-in-For : goal.returns-in-For
returns-in-For c = as_stmt _ _ _ _ _ c.in-For.is c.put_for.ensures

pub returns-in-ForOf : goal.returns-in-ForOf
returns-in-ForOf c = as_stmt _ _ _ _ _ c.in-ForOf.is c.put_for_of.ensures

pub returns-in-While : goal.returns-in-While
returns-in-While c = as_stmt _ _ _ _ _ c.in-While.is c.put_while.ensures

pub returns-in-Break : goal.returns-in-Break
returns-in-Break c = on_break _ _ _ _ _ c.put.ensures c.in-Break.is

pub returns-in-Continue : goal.returns-in-Continue
returns-in-Continue c = on_continue _ _ _ _ _ c.put-in-Continue.ensures c.in-Continue.is

pub returns-in-Return : goal.returns-in-Return
returns-in-Return c = on_return _ _ _ _ _ _ _ c.put-in-Return.ensures c.in-Return.is refl

pub returns-in-Throw : goal.returns-in-Throw
returns-in-Throw c = as_stmt _ _ _ _ _ c.in-Throw.is c.put_throw.ensures

pub returns-in-Try : goal.returns-in-Try
returns-in-Try c = as_stmt _ _ _ _ _ c.in-Try.is c.put_try.ensures

pub returns-in-Empty : goal.returns-in-Empty
returns-in-Empty c = on_empty _ _ _ _ c.put-in-Empty.ensures c.in-Empty.is

pub returns-in-Expr : goal.returns-in-Expr
returns-in-Expr c = on_expr_stmt _ _ _ _ _ _ c.put-in-Expr.ensures c.in-Expr.is refl
