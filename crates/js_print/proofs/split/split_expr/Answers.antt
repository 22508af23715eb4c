use Rattle.std.proofs.Common.{refl}
use Rattle.js_print.proofs.Splits.{as_expr, on_await, on_false, on_name, on_null, on_number, on_template, on_text, on_this, on_true, on_unary, on_update}
use Rattle.js_print.proofs.split.split_expr.Goals as goal

pub returns-in-Name : goal.returns-in-Name
returns-in-Name c = on_name _ _ _ _ _ _ c.put.ensures c.in-Name.is refl

pub returns-in-Number : goal.returns-in-Number
returns-in-Number c = on_number _ _ _ _ _ c.put-in-Number.ensures c.in-Number.is

pub returns-in-Text : goal.returns-in-Text
returns-in-Text c = on_text _ _ _ _ _ _ c.put-in-Text.ensures c.in-Text.is c.as_slice.ensures

pub returns-in-True : goal.returns-in-True
returns-in-True c = on_true _ _ _ _ c.put-in-True.ensures c.in-True.is

pub returns-in-False : goal.returns-in-False
returns-in-False c = on_false _ _ _ _ c.put-in-False.ensures c.in-False.is

pub returns-in-Null : goal.returns-in-Null
returns-in-Null c = on_null _ _ _ _ c.put-in-Null.ensures c.in-Null.is

pub returns-in-This : goal.returns-in-This
returns-in-This c = on_this _ _ _ _ c.put-in-This.ensures c.in-This.is

pub returns-in-Template : goal.returns-in-Template
returns-in-Template c = on_template _ _ _ _ _ _ _ _ c.put_template.ensures c.in-Template.is c.as_slice-in-Template.ensures c.as_slice-in-Template-2.ensures

pub returns-in-Array : goal.returns-in-Array
returns-in-Array c = as_expr _ _ _ _ _ c.in-Array.is c.put_array.ensures

pub returns-in-Object : goal.returns-in-Object
returns-in-Object c = as_expr _ _ _ _ _ c.in-Object.is c.put_object.ensures

pub returns-in-Function : goal.returns-in-Function
returns-in-Function c = as_expr _ _ _ _ _ c.in-Function.is c.put_function.ensures

pub returns-in-Arrow : goal.returns-in-Arrow
returns-in-Arrow c = as_expr _ _ _ _ _ c.in-Arrow.is c.put_arrow.ensures

pub returns-in-Group : goal.returns-in-Group
returns-in-Group c = as_expr _ _ _ _ _ c.in-Group.is c.put_group.ensures

pub returns-in-Unary : goal.returns-in-Unary
returns-in-Unary c = on_unary _ _ _ _ _ _ _ c.put_unary.ensures c.in-Unary.is c.get.ensures

pub returns-in-Await : goal.returns-in-Await
returns-in-Await c = on_await _ _ _ _ _ _ _ c.put-in-Await.ensures c.in-Await.is c.get-in-Await.ensures

pub returns-in-Update : goal.returns-in-Update
returns-in-Update c = on_update _ _ _ _ _ _ _ c.put_update.ensures c.in-Update.is

pub returns-in-Binary : goal.returns-in-Binary
returns-in-Binary c = as_expr _ _ _ _ _ c.in-Binary.is c.put_binary.ensures

pub returns-in-Conditional : goal.returns-in-Conditional
returns-in-Conditional c = as_expr _ _ _ _ _ c.in-Conditional.is c.put_conditional.ensures

pub returns-in-Assign : goal.returns-in-Assign
returns-in-Assign c = as_expr _ _ _ _ _ c.in-Assign.is c.put_assign.ensures

pub returns-in-Call : goal.returns-in-Call
returns-in-Call c = as_expr _ _ _ _ _ c.in-Call.is c.put_call.ensures

pub returns-in-New : goal.returns-in-New
returns-in-New c = as_expr _ _ _ _ _ c.in-New.is c.put_new.ensures

pub returns-in-Member : goal.returns-in-Member
returns-in-Member c = as_expr _ _ _ _ _ c.in-Member.is c.put_member.ensures

pub returns-in-Index : goal.returns-in-Index
returns-in-Index c = as_expr _ _ _ _ _ c.in-Index.is c.put_index.ensures
