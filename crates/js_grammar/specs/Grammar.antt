-- The grammar: what a tree is written as (ECMA-262, sections 13 to 16, without what scripts here have not).
use Rattle.std.specs.Prelude.{ℕ, ◌+◌, Bool, true, false, cond, List, [], ◌∷◌, ◌++◌, map, flat_map, Option, Some, None}
use Rattle.js_lex.specs.declared.token.Punctuator.{Punctuator}
use Rattle.js_lex.specs.declared.token.Punctuator.TheVariants as p
use Rattle.js_lex.specs.declared.token.Reserved.{Reserved}
use Rattle.js_lex.specs.declared.token.Reserved.TheVariants as r
use Rattle.js_lex.specs.declared.token.TemplatePart.{TemplatePart}
use Rattle.js_lex.specs.declared.token.TemplatePart.TheVariants as part
use Rattle.js_lex.specs.declared.token.TokenKind.TheVariants as tok
use Rattle.js_lex.specs.Front.{name_kind}
use Rattle.js_tree.specs.declared.tree.AssignOp.{AssignOp}
use Rattle.js_tree.specs.declared.tree.AssignOp.TheVariants as assign
use Rattle.js_tree.specs.declared.tree.BinaryOp.{BinaryOp}
use Rattle.js_tree.specs.declared.tree.BinaryOp.TheVariants as binary
use Rattle.js_tree.specs.declared.tree.DeclareKind.{DeclareKind}
use Rattle.js_tree.specs.declared.tree.DeclareKind.TheVariants as declare
use Rattle.js_tree.specs.declared.tree.UnaryOp.{UnaryOp}
use Rattle.js_tree.specs.declared.tree.UnaryOp.TheVariants as unary
use Rattle.js_tree.specs.declared.tree.UpdateOp.{UpdateOp}
use Rattle.js_tree.specs.declared.tree.UpdateOp.TheVariants as update
use Rattle.js_tree.specs.declared.tree.UpdateSide.{UpdateSide}
use Rattle.js_tree.specs.declared.tree.UpdateSide.TheVariants as side
use Rattle.js_tree.specs.declared.tree.Name.{Name}
use Rattle.js_tree.specs.declared.tree.Key.{Key}
use Rattle.js_tree.specs.declared.tree.Key.TheVariants as keys
use Rattle.js_tree.specs.declared.tree.Item.{Item}
use Rattle.js_tree.specs.declared.tree.Item.TheVariants as item
use Rattle.js_tree.specs.declared.tree.ArrowBody.{ArrowBody}
use Rattle.js_tree.specs.declared.tree.Catch.{Catch}
use Rattle.js_tree.specs.declared.tree.Declaration.{Declaration}
use Rattle.js_tree.specs.declared.tree.Expr.{Expr}
use Rattle.js_tree.specs.declared.tree.ForBegin.{ForBegin}
use Rattle.js_tree.specs.declared.tree.Function.{Function}
use Rattle.js_tree.specs.declared.tree.Target.{Target}
use Rattle.js_tree.specs.declared.tree.TemplateItem.{TemplateItem}
use Rattle.js_tree.specs.declared.tree.Stmt.{Stmt, out-Stmt}
use Rattle.js_tree.specs.declared.tree.Property.{Property}
use Rattle.js_tree.specs.declared.tree.ArrowBody.TheOpen.{ArrowBody-F, Expr-F, ForBegin-F, Property-F, Stmt-F, Target-F, Catch-F, Declaration-F, Function-F, TemplateItem-F}
use Rattle.js_tree.specs.declared.tree.ArrowBody.TheFolds.{fold-ArrowBody, fold-Expr, fold-ForBegin, fold-Property, fold-Stmt, fold-Target, fold-Catch, fold-Declaration, fold-Function, fold-TemplateItem}
use Rattle.js_grammar.specs.Marks.{Just, At, Mark, Form, mark, sign, word, unbroken, one, just, end, maybe, deeper, on_one_line, enclosed, separated, listed}

-- ---- words and names

-- a reserved word stands there, at any place
abbrev pub reserved : Reserved → Form
reserved x = one (word x)

-- a word whose place the tree keeps
abbrev pub reserved_at : ℕ → Reserved → Form
reserved_at q x = one (mark (At q (tok.Reserved x)))

-- the token of a name, at the place that the tree keeps
abbrev pub name_mark : Name → Mark
name_mark n = mark (At n.place (tok.Name n.units))

-- section 13.1, Identifier
abbrev pub name : Name → Form
name n = one (name_mark n)

-- what a name alone is written as
abbrev pub name_forms : Name → List Form
name_forms n = name n ∷ []

-- section 12.7, IdentifierName: a name, or the reserved word of these letters
abbrev pub any_name : Name → Form
any_name n = (name_mark n ∷ []) ∷ (mark (At n.place (name_kind n.units)) ∷ []) ∷ []

-- the word `async`, which is no reserved one
abbrev pub async : Form
async = one (mark (Just (tok.Name (97 ∷ 115 ∷ 121 ∷ 110 ∷ 99 ∷ []))))

-- `async`, and what follows it on its line
abbrev pub perhaps_async : Bool → List Form → List Form
perhaps_async true fs = async ∷ on_one_line fs
perhaps_async false fs = fs

-- what a part is written as that may be missing: nothing where it is
abbrev pub optional : Option (List Form) → List Form
optional (Some fs) = fs
optional None = []

-- section 13.2.5, LiteralPropertyName
abbrev pub key : Key → Form
key (keys.Name n) = any_name n
key (keys.Text u) = one (mark (Just (tok.Text u)))
key (keys.Number n) = one (mark (Just (tok.Number n)))

-- ---- operators

-- the sign of an operator between two operands (ECMA-262, sections 13.7 to 13.13)
abbrev pub binary_sign : BinaryOp → Punctuator
binary_sign binary.Coalesce = p.QuestionQuestion
binary_sign binary.Or = p.OrOr
binary_sign binary.And = p.AndAnd
binary_sign binary.Identical = p.Identical
binary_sign binary.NotIdentical = p.NotIdentical
binary_sign binary.Less = p.Less
binary_sign binary.LessEqual = p.LessEqual
binary_sign binary.Greater = p.Greater
binary_sign binary.GreaterEqual = p.GreaterEqual
binary_sign binary.Add = p.Plus
binary_sign binary.Subtract = p.Minus
binary_sign binary.Multiply = p.Star
binary_sign binary.Divide = p.Slash
binary_sign binary.Remainder = p.Percent

-- the sign or the word of an operator before its operand (ECMA-262, section 13.5)
abbrev pub unary_form : UnaryOp → Form
unary_form unary.Not = just p.Not
unary_form unary.Negate = just p.Minus
unary_form unary.TypeOf = reserved r.TypeOf

-- the sign of an operator that counts up or down: `++` or `--` (ECMA-262, section 13.4)
abbrev pub update_sign : UpdateOp → Punctuator
update_sign update.Increment = p.PlusPlus
update_sign update.Decrement = p.MinusMinus

-- the sign of an operator that writes: `=`, `+=` or `-=` (ECMA-262, section 13.15)
abbrev pub assign_sign : AssignOp → Punctuator
assign_sign assign.Set = p.Equal
assign_sign assign.Add = p.PlusEqual
assign_sign assign.Subtract = p.MinusEqual

-- the word of a declaration: `let` or `const` (ECMA-262, section 14.3.1)
abbrev pub declare_word : DeclareKind → Reserved
declare_word declare.Let = r.Let
declare_word declare.Const = r.Const

-- ---- what each node is written as

-- an expression, or a target: its chain has so many binary operators, and so many calls and member accesses
pub record Written : Type 0 where
  pub forms : List Form
  pub operators : ℕ
  pub accesses : ℕ

-- a statement; the braces of a block are the construct that a body is
pub record WrittenStmt : Type 0 where
  pub forms : List Form
  pub is_block : Bool

-- parameters and body
pub record WrittenFunction : Type 0 where
  pub is_async : Bool
  pub forms : List Form

-- a part of a template and the value behind it
pub record WrittenPart : Type 0 where
  pub units : List ℕ
  pub value : List Form

-- an expression whose chain has no binary operator, no call and no member access
abbrev pub alone : List Form → Written
alone fs = record { forms = fs; operators = 0; accesses = 0 }

-- statements, one behind another (ECMA-262, section 14.2, StatementList)
abbrev pub statements : List WrittenStmt → List Form
statements ss = flat_map (λ s. s.forms) ss

-- section 14.2, Block, and section 15.2, FunctionBody
abbrev pub block : List WrittenStmt → List Form
block ss = enclosed p.OpenBrace (statements ss) p.CloseBrace

-- these between `(` and `)`
abbrev pub parenthesized : List Form → List Form
parenthesized fs = enclosed p.OpenParen fs p.CloseParen

-- section 15.1, FormalParameters
abbrev pub parameters : List Name → List Form
parameters ns = parenthesized (listed (map name_forms ns))

-- what each of these expressions is written as
abbrev pub values : List Written → List (List Form)
values xs = map (λ x. x.forms) xs

-- ---- expressions

-- section 13.3: one access more in the chain of an operand
abbrev pub accessed : Written → List Form → Written
accessed x fs = record { forms = x.forms ++ deeper x.accesses fs; operators = 0; accesses = x.accesses + 1 }

-- .. that has no brackets
abbrev pub member : Written → Name → Written
member x n = accessed x (deeper 1 (just p.Dot ∷ any_name n ∷ []))

-- an operand with `[key]` behind it
abbrev pub index : Written → Written → Written
index x k = accessed x (enclosed p.OpenBracket k.forms p.CloseBracket)

-- an operand with arguments in brackets behind it (ECMA-262, section 13.3.8)
abbrev pub call : Written → List Written → Written
call x xs = accessed x (parenthesized (listed (values xs)))

-- sections 13.6 to 13.13: one operator more in the chain of the left operand; then the right one
abbrev pub joined : BinaryOp → Written → Written → Written
joined o x y = record {
  forms = x.forms ++ deeper (x.operators + 1) (just (binary_sign o) ∷ y.forms);
  operators = x.operators + 1 + y.operators;
  accesses = 0;
}

-- section 13.2.8, TemplateLiteral
abbrev pub template_mark : TemplatePart → List ℕ → Form
template_mark k u = one (mark (Just (tok.Template k u)))

-- a template behind the value that a `${` of it holds, with the parts and the last units that are left
abbrev pub template_rest : List WrittenPart → List ℕ → List Form
template_rest [] u = template_mark part.Tail u ∷ []
template_rest (i ∷ is) u = template_mark part.Middle i.units ∷ (i.value ++ template_rest is u)

-- a template: one token where it holds no value, else its head, its values and the parts behind them
abbrev pub template : List WrittenPart → List ℕ → List Form
template [] u = template_mark part.Whole u ∷ []
template (i ∷ is) u = deeper 1 (template_mark part.Head i.units ∷ (i.value ++ template_rest is u))

-- section 15.3, ArrowParameters: one name may stand without brackets
abbrev pub bracketed_mark : Mark → Mark
bracketed_mark m = record { want = m.want; unbroken = false; constructs = 1 }

-- one parameter of an arrow: without brackets, or in brackets, perhaps with a comma behind it
abbrev pub arrow_name : Name → Form
arrow_name n =
    (name_mark n ∷ [])
    ∷ (bracketed_mark (sign p.OpenParen) ∷ bracketed_mark (name_mark n) ∷ bracketed_mark (sign p.CloseParen) ∷ [])
    ∷ (bracketed_mark (sign p.OpenParen) ∷ bracketed_mark (name_mark n) ∷ bracketed_mark (sign p.Comma) ∷ bracketed_mark (sign p.CloseParen) ∷ [])
    ∷ []

-- the parameters of an arrow in brackets; one alone may stand without them (ECMA-262, section 15.3)
abbrev pub arrow_parameters : List Name → List Form
arrow_parameters (n ∷ []) = arrow_name n ∷ []
arrow_parameters ns = parameters ns

-- the arrow and the body
-- `=>`, with no line end before it (section 15.3, ArrowFunction)
abbrev pub arrow_sign : Form
arrow_sign = one (unbroken (sign p.Arrow))

-- an arrow function, `async` or not: its parameters, then `=>` and the body
abbrev pub arrow : Bool → List Name → List Form → List Form
arrow is_async ns body = perhaps_async is_async (arrow_parameters ns) ++ body

-- section 15.2, FunctionExpression, and section 15.8, AsyncFunctionExpression
abbrev pub function : List Form → WrittenFunction → List Form
function named f = perhaps_async f.is_async (reserved r.Function ∷ (named ++ f.forms))

-- what a function's name is written as: nothing where it has none
abbrev pub option_name : Option Name → List Form
option_name None = []
option_name (Some n) = name n ∷ []

-- `++` or `--` before its target, or behind it on the same line (ECMA-262, section 13.4)
abbrev pub update_forms : UpdateSide → UpdateOp → Written → List Form
update_forms side.Before o x = deeper 1 (just (update_sign o) ∷ x.forms)
update_forms side.Behind o x = x.forms ++ one (unbroken (sign (update_sign o))) ∷ []

-- `test ? yes : no`, where both values stand one construct deeper (ECMA-262, section 13.14)
abbrev pub conditional : Written → Written → Written → List Form
conditional test a b = test.forms ++ (deeper 1 (just p.Question ∷ a.forms) ++ deeper 1 (just p.Colon ∷ b.forms))

-- ---- the layers of the tree: what each is written as, where its parts are so written

-- an arrow's body whose parts are written already
abbrev pub ArrowLayer : Type 0
ArrowLayer = ArrowBody-F (List Form) Written (List Form) (List Form) WrittenStmt Written (List Form) (List Form) WrittenFunction WrittenPart

-- an expression whose parts are written already
abbrev pub ExprLayer : Type 0
ExprLayer = Expr-F (List Form) Written (List Form) (List Form) WrittenStmt Written (List Form) (List Form) WrittenFunction WrittenPart

-- the begin of a `for` whose parts are written already
abbrev pub ForLayer : Type 0
ForLayer = ForBegin-F (List Form) Written (List Form) (List Form) WrittenStmt Written (List Form) (List Form) WrittenFunction WrittenPart

-- a member of an object whose parts are written already
abbrev pub PropertyLayer : Type 0
PropertyLayer = Property-F (List Form) Written (List Form) (List Form) WrittenStmt Written (List Form) (List Form) WrittenFunction WrittenPart

-- a statement whose parts are written already
abbrev pub StmtLayer : Type 0
StmtLayer = Stmt-F (List Form) Written (List Form) (List Form) WrittenStmt Written (List Form) (List Form) WrittenFunction WrittenPart

-- what can be written to, whose parts are written already
abbrev pub TargetLayer : Type 0
TargetLayer = Target-F (List Form) Written (List Form) (List Form) WrittenStmt Written (List Form) (List Form) WrittenFunction WrittenPart

-- a `catch` whose block is written already
abbrev pub CatchLayer : Type 0
CatchLayer = Catch-F (List Form) Written (List Form) (List Form) WrittenStmt Written (List Form) (List Form) WrittenFunction WrittenPart

-- a declaration whose value is written already
abbrev pub DeclarationLayer : Type 0
DeclarationLayer = Declaration-F (List Form) Written (List Form) (List Form) WrittenStmt Written (List Form) (List Form) WrittenFunction WrittenPart

-- a function whose body is written already
abbrev pub FunctionLayer : Type 0
FunctionLayer = Function-F (List Form) Written (List Form) (List Form) WrittenStmt Written (List Form) (List Form) WrittenFunction WrittenPart

-- a part of a template, and the value behind it, which is written already
abbrev pub TemplateLayer : Type 0
TemplateLayer = TemplateItem-F (List Form) Written (List Form) (List Form) WrittenStmt Written (List Form) (List Form) WrittenFunction WrittenPart

-- what can be written to: a name, `object.name` or `object[key]`
abbrev pub target_step : TargetLayer → Written
target_step (Target-F.Variable n) = alone (name n ∷ [])
target_step (Target-F.Field x n) = member x n
target_step (Target-F.Item x k) = index x k

-- section 13.2.5, PropertyDefinition
abbrev pub method : Key → WrittenFunction → List Form
method k f = perhaps_async f.is_async (key k ∷ f.forms)

-- a member of an object: `key: value`, a name alone, or a method
abbrev pub property_step : PropertyLayer → List Form
property_step (Property-F.Pair k x) = key k ∷ just p.Colon ∷ x.forms
property_step (Property-F.Short n) = name n ∷ []
property_step (Property-F.Method k f) = method k f

-- an object: its members between braces, with a comma between each two (ECMA-262, section 13.2.5)
abbrev pub object : List (List Form) → List Form
object xs = enclosed p.OpenBrace (listed xs) p.CloseBrace

-- a function behind its name: the parameters, then the statements in braces (ECMA-262, section 15.2)
abbrev pub function_step : FunctionLayer → WrittenFunction
function_step f = record { is_async = f.is_async; forms = parameters f.parameters ++ block f.body }

-- section 15.3, ConciseBody: a value is open from the arrow on
abbrev pub arrow_body_step : ArrowLayer → List Form
arrow_body_step (ArrowBody-F.Statements ss) = arrow_sign ∷ block ss
arrow_body_step (ArrowBody-F.Value x) = deeper 1 (arrow_sign ∷ x.forms)

-- a part of a template as its units and what the value behind it is written as
abbrev pub template_step : TemplateLayer → WrittenPart
template_step i = record { units = i.units; value = i.value.forms }

-- what an expression is written as (ECMA-262, sections 13.2 to 13.15)
abbrev pub expr_step : ExprLayer → Written
expr_step (Expr-F.Name n) = alone (name n ∷ [])
expr_step (Expr-F.Number n) = alone (one (mark (Just (tok.Number n))) ∷ [])
expr_step (Expr-F.Text u) = alone (one (mark (Just (tok.Text u))) ∷ [])
expr_step Expr-F.True = alone (reserved r.True ∷ [])
expr_step Expr-F.False = alone (reserved r.False ∷ [])
expr_step Expr-F.Null = alone (reserved r.Null ∷ [])
expr_step Expr-F.This = alone (reserved r.This ∷ [])
expr_step (Expr-F.Template is u) = alone (template is u)
expr_step (Expr-F.Array xs) = alone (enclosed p.OpenBracket (listed (values xs)) p.CloseBracket)
expr_step (Expr-F.Object xs) = alone (object xs)
expr_step (Expr-F.Function n f) = alone (function (option_name n) f)
expr_step (Expr-F.Arrow a ns body) = alone (arrow a ns body)
expr_step (Expr-F.Group x) = alone (parenthesized x.forms)
expr_step (Expr-F.Unary o x) = alone (deeper 1 (unary_form o ∷ x.forms))
expr_step (Expr-F.Await q x) = alone (deeper 1 (reserved_at q r.Await ∷ x.forms))
expr_step (Expr-F.Update s o x) = alone (update_forms s o x)
expr_step (Expr-F.Binary o x y) = joined o x y
expr_step (Expr-F.Conditional test a b) = alone (conditional test a b)
expr_step (Expr-F.Assign o x y) = alone (x.forms ++ deeper 1 (just (assign_sign o) ∷ y.forms))
expr_step (Expr-F.Call x xs) = call x xs
expr_step (Expr-F.New n xs) = alone (reserved r.New ∷ name n ∷ parenthesized (listed (values xs)))
expr_step (Expr-F.Member x n) = member x n
expr_step (Expr-F.Index x k) = index x k

-- ---- statements

-- a statement that is no block
abbrev pub other : List Form → WrittenStmt
other fs = record { forms = fs; is_block = false }

-- a statement as the body of another: a block is one construct by its braces, each other statement is one from its first token on
abbrev pub body : WrittenStmt → List Form
body s = cond s.is_block s.forms (deeper 1 s.forms)

-- a declared name, and `=` and its value where it has one (ECMA-262, section 14.3.1, LexicalBinding)
abbrev pub declaration_step : DeclarationLayer → List Form
declaration_step d = name d.name ∷ initial d.value
  where
    initial : Option Written → List Form
    initial None = []
    initial (Some x) = just p.Equal ∷ x.forms

-- section 14.3.1, LexicalDeclaration, without its end
abbrev pub declared : DeclareKind → List (List Form) → List Form
declared k ds = reserved (declare_word k) ∷ separated ds

-- what a `for` begins with: nothing, declarations, or an expression
abbrev pub for_step : ForLayer → List Form
for_step ForBegin-F.Nothing = []
for_step (ForBegin-F.Declarations k ds) = declared k ds
for_step (ForBegin-F.Start x) = x.forms

-- `catch`, the name in brackets where it has one, and the block (ECMA-262, section 14.15)
abbrev pub catch_step : CatchLayer → List Form
catch_step c = reserved r.Catch ∷ (named c.name ++ block c.body)
  where
    named : Option Name → List Form
    named None = []
    named (Some n) = parenthesized (name n ∷ [])

-- what a value is written as that may be missing: nothing where it is
abbrev pub option_value : Option Written → List Form
option_value None = []
option_value (Some x) = x.forms

-- `else` and the statement behind it, or nothing
abbrev pub option_else : Option WrittenStmt → List Form
option_else None = []
option_else (Some s) = reserved r.Else ∷ body s

-- `finally` and its block, or nothing
abbrev pub option_finally : Option (List WrittenStmt) → List Form
option_finally None = []
option_finally (Some ss) = reserved r.Finally ∷ block ss

-- section 14.7.4, ForStatement
abbrev pub for_head : List Form → Option Written → Option Written → List Form
for_head begin test update = begin ++ just p.Semicolon ∷ (option_value test ++ just p.Semicolon ∷ option_value update)

-- section 14.7.5, ForInOfStatement
abbrev pub of_word : Form
of_word = one (mark (Just (tok.Name (111 ∷ 102 ∷ []))))

-- what stands in the brackets of a `for` over values: `const name of value`
abbrev pub for_of_head : DeclareKind → Name → Written → List Form
for_of_head k n x = reserved (declare_word k) ∷ name n ∷ of_word ∷ x.forms

-- what a statement is written as (ECMA-262, sections 14.2 to 14.15)
abbrev pub stmt_step : StmtLayer → WrittenStmt
stmt_step (Stmt-F.Declare k ds) = other (declared k ds ++ end ∷ [])
stmt_step (Stmt-F.DeclareFunction n f) = other (function (name_forms n) f)
stmt_step (Stmt-F.Block ss) = record { forms = block ss; is_block = true }
stmt_step (Stmt-F.If test a b) = other (reserved r.If ∷ (parenthesized test.forms ++ (body a ++ option_else b)))
stmt_step (Stmt-F.For begin test update s) = other (reserved r.For ∷ (parenthesized (for_head begin test update) ++ body s))
stmt_step (Stmt-F.ForOf k n x s) = other (reserved r.For ∷ (parenthesized (for_of_head k n x) ++ body s))
stmt_step (Stmt-F.While test s) = other (reserved r.While ∷ (parenthesized test.forms ++ body s))
stmt_step (Stmt-F.Break q) = other (reserved_at q r.Break ∷ end ∷ [])
stmt_step (Stmt-F.Continue q) = other (reserved_at q r.Continue ∷ end ∷ [])
stmt_step (Stmt-F.Return q x) = other (reserved_at q r.Return ∷ (on_one_line (option_value x) ++ end ∷ []))
stmt_step (Stmt-F.Throw x) = other (reserved r.Throw ∷ (on_one_line x.forms ++ end ∷ []))
stmt_step (Stmt-F.Try ss c f) = other (reserved r.Try ∷ (block ss ++ (optional c ++ option_finally f)))
stmt_step Stmt-F.Empty = other (just p.Semicolon ∷ [])
stmt_step (Stmt-F.Expr x) = other (x.forms ++ end ∷ [])

-- ---- whole trees

-- a statement as the check sees one node of it
abbrev pub StmtNode : Type 0
StmtNode = Stmt-F ArrowBody Expr ForBegin Property Stmt Target Catch Declaration Function TemplateItem

-- what an arrow's body is written as, the `=>` before it too
abbrev pub of_arrow_body : ArrowBody → List Form
of_arrow_body = fold-ArrowBody (List Form) Written (List Form) (List Form) WrittenStmt Written (List Form) (List Form) WrittenFunction WrittenPart arrow_body_step expr_step for_step property_step stmt_step target_step catch_step declaration_step function_step template_step

-- what an expression is written as, with all its parts
abbrev pub of_expr : Expr → Written
of_expr = fold-Expr (List Form) Written (List Form) (List Form) WrittenStmt Written (List Form) (List Form) WrittenFunction WrittenPart arrow_body_step expr_step for_step property_step stmt_step target_step catch_step declaration_step function_step template_step

-- what the begin of a `for` is written as, with all its parts
abbrev pub of_for : ForBegin → List Form
of_for = fold-ForBegin (List Form) Written (List Form) (List Form) WrittenStmt Written (List Form) (List Form) WrittenFunction WrittenPart arrow_body_step expr_step for_step property_step stmt_step target_step catch_step declaration_step function_step template_step

-- what a member of an object is written as, with all its parts
abbrev pub of_property : Property → List Form
of_property = fold-Property (List Form) Written (List Form) (List Form) WrittenStmt Written (List Form) (List Form) WrittenFunction WrittenPart arrow_body_step expr_step for_step property_step stmt_step target_step catch_step declaration_step function_step template_step

-- what a statement is written as, with all its parts
abbrev pub of_stmt : Stmt → WrittenStmt
of_stmt = fold-Stmt (List Form) Written (List Form) (List Form) WrittenStmt Written (List Form) (List Form) WrittenFunction WrittenPart arrow_body_step expr_step for_step property_step stmt_step target_step catch_step declaration_step function_step template_step

-- what can be written to, as it is written with all its parts
abbrev pub of_target : Target → Written
of_target = fold-Target (List Form) Written (List Form) (List Form) WrittenStmt Written (List Form) (List Form) WrittenFunction WrittenPart arrow_body_step expr_step for_step property_step stmt_step target_step catch_step declaration_step function_step template_step

-- what a `catch` is written as, with all its parts
abbrev pub of_catch : Catch → List Form
of_catch = fold-Catch (List Form) Written (List Form) (List Form) WrittenStmt Written (List Form) (List Form) WrittenFunction WrittenPart arrow_body_step expr_step for_step property_step stmt_step target_step catch_step declaration_step function_step template_step

-- what a declaration is written as, with its value
abbrev pub of_declaration : Declaration → List Form
of_declaration = fold-Declaration (List Form) Written (List Form) (List Form) WrittenStmt Written (List Form) (List Form) WrittenFunction WrittenPart arrow_body_step expr_step for_step property_step stmt_step target_step catch_step declaration_step function_step template_step

-- what a function is written as behind its name, with all its parts
abbrev pub of_function : Function → WrittenFunction
of_function = fold-Function (List Form) Written (List Form) (List Form) WrittenStmt Written (List Form) (List Form) WrittenFunction WrittenPart arrow_body_step expr_step for_step property_step stmt_step target_step catch_step declaration_step function_step template_step

-- a part of a template, and what the value behind it is written as
abbrev pub of_template : TemplateItem → WrittenPart
of_template = fold-TemplateItem (List Form) Written (List Form) (List Form) WrittenStmt Written (List Form) (List Form) WrittenFunction WrittenPart arrow_body_step expr_step for_step property_step stmt_step target_step catch_step declaration_step function_step template_step

-- section 16.2.3, `export default` before an object
abbrev pub of_export : List Property → List Form
of_export xs = reserved r.Export ∷ reserved r.Default ∷ object (map of_property xs)

-- the statement is `;` alone (ECMA-262, section 14.4)
abbrev pub is_empty : Stmt → Bool
is_empty s = empty (out-Stmt s)
  where
    empty : StmtNode → Bool
    empty Stmt-F.Empty = true
    empty _ = false

-- A `;` behind it is its own, and no empty statement.
abbrev pub export_end : List Item → Form
export_end (item.Stmt s ∷ is) = cond (is_empty s) (just p.Semicolon) (maybe (sign p.Semicolon))
export_end _ = maybe (sign p.Semicolon)

-- what a script's items are written as, one behind another (ECMA-262, section 16.2)
abbrev pub of_tree : List Item → List Form
of_tree [] = []
of_tree (item.Stmt s ∷ is) = (of_stmt s).forms ++ of_tree is
of_tree (item.Export xs ∷ is) = of_export xs ++ export_end is ∷ of_tree is
