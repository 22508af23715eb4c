use Rattle.std.proofs.Common.{refl}
use Rattle.js_lex.specs.declared.token.TokenKind.TheVariants as tok
use Rattle.js_print.proofs.WalkLaws.{token_step, ascii_step, split_step}
use Rattle.js_print.proofs.walk.step.Goals as goal

pub returns-in-Sign : goal.returns-in-Sign
returns-in-Sign c = ascii_step _ _ _ _ _ _ _ (tok.Punctuator c.in-Sign.sign) c.in-Sign.is c.write_ascii.ensures c.sign_text.ensures refl

pub returns-in-Word : goal.returns-in-Word
returns-in-Word c = ascii_step _ _ _ _ _ _ _ (tok.Reserved c.in-Word.word) c.in-Word.is c.write_ascii-in-Word.ensures c.word_text.ensures refl

pub returns-in-Plain : goal.returns-in-Plain
returns-in-Plain c = ascii_step _ _ _ _ _ _ _ (tok.Name c.in-Plain.name.now) c.in-Plain.is c.write_ascii-in-Plain.ensures refl refl

pub returns-in-Name : goal.returns-in-Name
returns-in-Name c = token_step _ _ _ _ _ _ _ c.in-Name.is c.write_name.ensures refl

pub returns-in-Number : goal.returns-in-Number
returns-in-Number c = token_step _ _ _ _ _ _ _ c.in-Number.is c.write_number.ensures refl

pub returns-in-Text : goal.returns-in-Text
returns-in-Text c = token_step _ _ _ _ _ _ _ c.in-Text.is c.write_string.ensures refl

pub returns-in-Part : goal.returns-in-Part
returns-in-Part c = token_step _ _ _ _ _ _ _ c.in-Part.is c.write_part.ensures refl

pub returns-in-Async : goal.returns-in-Async
returns-in-Async c = split_step _ _ _ _ _ _ c.in-Async.is c.split_async.ensures

pub returns-in-Key : goal.returns-in-Key
returns-in-Key c = split_step _ _ _ _ _ _ c.in-Key.is c.split_key.ensures

pub returns-in-OptionalName : goal.returns-in-OptionalName
returns-in-OptionalName c = split_step _ _ _ _ _ _ c.in-OptionalName.is c.split_optional_name.ensures

pub returns-in-CatchName : goal.returns-in-CatchName
returns-in-CatchName c = split_step _ _ _ _ _ _ c.in-CatchName.is c.split_catch_name.ensures

pub returns-in-Names : goal.returns-in-Names
returns-in-Names c = split_step _ _ _ _ _ _ c.in-Names.is c.split_names.ensures

pub returns-in-ArrowParameters : goal.returns-in-ArrowParameters
returns-in-ArrowParameters c = split_step _ _ _ _ _ _ c.in-ArrowParameters.is c.split_arrow_parameters.ensures

pub returns-in-ArrowBody : goal.returns-in-ArrowBody
returns-in-ArrowBody c = split_step _ _ _ _ _ _ c.in-ArrowBody.is c.split_arrow_body.ensures

pub returns-in-Function : goal.returns-in-Function
returns-in-Function c = split_step _ _ _ _ _ _ c.in-Function.is c.split_function.ensures

pub returns-in-Target : goal.returns-in-Target
returns-in-Target c = split_step _ _ _ _ _ _ c.in-Target.is c.split_target.ensures

pub returns-in-Expr : goal.returns-in-Expr
returns-in-Expr c = split_step _ _ _ _ _ _ c.in-Expr.is c.split_expr.ensures

pub returns-in-OptionalExpr : goal.returns-in-OptionalExpr
returns-in-OptionalExpr c = split_step _ _ _ _ _ _ c.in-OptionalExpr.is c.split_optional_expr.ensures

pub returns-in-Exprs : goal.returns-in-Exprs
returns-in-Exprs c = split_step _ _ _ _ _ _ c.in-Exprs.is c.split_exprs.ensures

pub returns-in-TemplateRest : goal.returns-in-TemplateRest
returns-in-TemplateRest c = split_step _ _ _ _ _ _ c.in-TemplateRest.is c.split_template_rest.ensures

pub returns-in-Property : goal.returns-in-Property
returns-in-Property c = split_step _ _ _ _ _ _ c.in-Property.is c.split_property.ensures

pub returns-in-Properties : goal.returns-in-Properties
returns-in-Properties c = split_step _ _ _ _ _ _ c.in-Properties.is c.split_properties.ensures

pub returns-in-Declaration : goal.returns-in-Declaration
returns-in-Declaration c = split_step _ _ _ _ _ _ c.in-Declaration.is c.split_declaration.ensures

pub returns-in-Declarations : goal.returns-in-Declarations
returns-in-Declarations c = split_step _ _ _ _ _ _ c.in-Declarations.is c.split_declarations.ensures

pub returns-in-MoreDeclarations : goal.returns-in-MoreDeclarations
returns-in-MoreDeclarations c = split_step _ _ _ _ _ _ c.in-MoreDeclarations.is c.split_more_declarations.ensures

pub returns-in-ForBegin : goal.returns-in-ForBegin
returns-in-ForBegin c = split_step _ _ _ _ _ _ c.in-ForBegin.is c.split_begin.ensures

pub returns-in-Stmt : goal.returns-in-Stmt
returns-in-Stmt c = split_step _ _ _ _ _ _ c.in-Stmt.is c.split_stmt.ensures

pub returns-in-Stmts : goal.returns-in-Stmts
returns-in-Stmts c = split_step _ _ _ _ _ _ c.in-Stmts.is c.split_stmts.ensures

pub returns-in-Else : goal.returns-in-Else
returns-in-Else c = split_step _ _ _ _ _ _ c.in-Else.is c.split_else.ensures

pub returns-in-Catch : goal.returns-in-Catch
returns-in-Catch c = split_step _ _ _ _ _ _ c.in-Catch.is c.split_catch.ensures

pub returns-in-Finally : goal.returns-in-Finally
returns-in-Finally c = split_step _ _ _ _ _ _ c.in-Finally.is c.split_finally.ensures
