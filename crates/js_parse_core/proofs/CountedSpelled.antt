-- What a state has read, as forms with how many constructs are open: by the frames from the outermost on, and then by the innermost.
use Rattle.std.proofs.Common.{ℕ, ◌+◌, Bool, true, false, cond, List, [], ◌∷◌, ◌++◌, map, Option, Some, None}
use Rattle.js_lex.specs.declared.token.Punctuator.TheVariants as p
use Rattle.js_lex.specs.declared.token.Reserved.TheVariants as r
use Rattle.js_lex.specs.declared.token.TemplatePart.{TemplatePart}
use Rattle.js_lex.specs.declared.token.TemplatePart.TheVariants as part
use Rattle.js_tree.specs.declared.tree.ArrowBody.TheOpen.{Stmt-F}
use Rattle.js_tree.specs.declared.tree.DeclareKind.{DeclareKind}
use Rattle.js_tree.specs.declared.tree.Item.{Item}
use Rattle.js_tree.specs.declared.tree.Item.TheVariants as item
use Rattle.js_tree.specs.declared.tree.Name.{Name}
use Rattle.js_tree.specs.declared.tree.Property.{Property}
use Rattle.js_tree.specs.declared.tree.Expr.{Expr}
use Rattle.js_tree.specs.declared.tree.Stmt.{Stmt, out-Stmt}
use Rattle.js_tree.specs.declared.tree.TemplateItem.{TemplateItem}
use Rattle.js_parse_core.specs.declared.machine.At.{At}
use Rattle.js_parse_core.specs.declared.machine.At.TheVariants as at
use Rattle.js_parse_core.specs.declared.machine.Block.{Block}
use Rattle.js_parse_core.specs.declared.machine.Block.TheVariants as block
use Rattle.js_parse_core.specs.declared.machine.Body.{Body}
use Rattle.js_parse_core.specs.declared.machine.Body.TheVariants as body
use Rattle.js_parse_core.specs.declared.machine.Callee.{Callee}
use Rattle.js_parse_core.specs.declared.machine.Callee.TheVariants as callee
use Rattle.js_parse_core.specs.declared.machine.Cover.{Cover}
use Rattle.js_parse_core.specs.declared.machine.Cover.TheVariants as covers
use Rattle.js_parse_core.specs.declared.machine.Declared.{Declared}
use Rattle.js_parse_core.specs.declared.machine.Frame.{Frame}
use Rattle.js_parse_core.specs.declared.machine.Frame.TheVariants as frame
use Rattle.js_parse_core.specs.declared.machine.Head.{Head}
use Rattle.js_parse_core.specs.declared.machine.Head.TheVariants as head
use Rattle.js_parse_core.specs.declared.machine.Open.{Open}
use Rattle.js_parse_core.specs.declared.machine.Operator.{Operator}
use Rattle.js_parse_core.specs.declared.machine.Operator.TheVariants as operator
use Rattle.js_parse_core.specs.declared.machine.Purpose.{Purpose}
use Rattle.js_parse_core.specs.declared.machine.Purpose.TheVariants as purpose
use Rattle.js_parse_core.specs.declared.machine.State.{State}
use Rattle.js_parse_core.specs.declared.machine.Tail.{Tail}
use Rattle.js_parse_core.specs.declared.machine.Tail.TheVariants as tail
use Rattle.js_parse_core.specs.Outer.{first_frame, is_body}
use Rattle.js_grammar.specs.Marks.{Form, unbroken, one, just, sign, maybe}
use Rattle.js_grammar.specs.Grammar.{StmtNode, name, key, reserved, reserved_at, unary_form, binary_sign, update_sign, assign_sign, declare_word, template_mark, arrow_sign, of_word, is_empty}
use Rattle.js_parse_core.proofs.Spelled.{unread, async_name, opening_word, is_line, lined, ends_with_export}
use Rattle.js_parse_core.proofs.CountedForms.{up, more_at, listed_at, name_at, names_at, perhaps_at, option_name_at, expr_at, target_at, property_at, stmt_at, stmts_at, access_at, operand_at, accesses, braced_at, parameters_at, arrow_at}
use Rattle.js_parse_core.proofs.CountedStatements.{declaration_at, for_at, catch_at, body_at, option_at, option_catch_at}

-- ---- parts

-- items that each have a comma
abbrev pub commaed_at : ℕ → List (List Form) → List Form
commaed_at n [] = []
commaed_at n (x ∷ xs) = x ++ up n (just p.Comma) ∷ commaed_at n xs

-- one item or more, and no comma behind the last
abbrev pub ended_at : ℕ → List (List Form) → List Form
ended_at n [] = unread
ended_at n (x ∷ xs) = x ++ more_at n xs

-- ---- how many constructs are open within a frame, where n are open round it

abbrev pub operator_level : ℕ → Operator → ℕ
operator_level n (operator.Binary x o) = operand_at n x
operator_level n _ = n + 1

abbrev pub callee_level : ℕ → Callee → ℕ
callee_level n (callee.Value x k) = access_at n x
callee_level n (callee.New m) = n + 1

abbrev pub declared_level : ℕ → Bool → ℕ
declared_level n true = n + 1
declared_level n false = n

abbrev pub purpose_level : ℕ → Purpose → ℕ
purpose_level n (purpose.Argument c xs) = callee_level n c
purpose_level n (purpose.Index y k) = access_at n y
purpose_level n purpose.Statement = n
purpose_level n (purpose.Initial d m) = declared_level n d.in_for
purpose_level n (purpose.Return q) = n
purpose_level n purpose.Throw = n
purpose_level n _ = n + 1

abbrev pub head_level : ℕ → Head → ℕ
head_level n (head.Method a xs k) = n + 1 + 1
head_level n _ = n + 1

-- the braces of a body are the body
abbrev pub plain_level : ℕ → Bool → ℕ
plain_level n true = n
plain_level n false = n + 1

abbrev pub block_level : ℕ → Bool → Block → ℕ
block_level n b block.Plain = plain_level n b
block_level n b (block.Function h ns) = head_level n h
block_level n b _ = n + 1

abbrev pub frame_level : ℕ → Bool → Frame → ℕ
frame_level n b (frame.Operator x) = operator_level n x
frame_level n b (frame.Tail x) = n + 1
frame_level n b (frame.Purpose x) = purpose_level n x
frame_level n b (frame.Body x) = n + 1
frame_level n b (frame.Block x ss) = block_level n b x
frame_level n b frame.Export = n

abbrev pub levels : List Open → ℕ
levels [] = 0
levels (f ∷ fs) = frame_level (levels fs) (is_body (first_frame fs)) f.frame

-- .. and at what was read of the innermost
abbrev pub at_level : ℕ → At → ℕ
at_level n (at.Operand x k) = n + accesses x
at_level n (at.MemberName x k) = access_at n x
at_level n (at.NextArgument c xs) = callee_level n c
at_level n (at.Parameters h ns) = head_level n h
at_level n (at.ParameterRead h ns m) = head_level n h
at_level n (at.CoverOpen c ns) = n + 1
at_level n (at.CoverName c ns m) = n + 1
at_level n (at.NextElement xs) = n + 1
at_level n (at.Key xs) = n + 1
at_level n (at.NameKey xs m) = n + 1
at_level n (at.OtherKey xs k) = n + 1
at_level n (at.AsyncKey xs m) = n + 1
at_level n (at.AsyncMethod xs k) = n + 1
at_level n (at.PropertyEnd xs) = n + 1
at_level n at.ForHead = n + 1
at_level n (at.ForTest b) = n + 1
at_level n (at.ForUpdate b test) = n + 1
at_level n (at.CatchName ss) = n + 1
at_level n (at.CatchClose ss m) = n + 1
at_level n _ = n

abbrev pub level : State → ℕ
level s = at_level (levels s.outer.frames) s.at

-- ---- frames

abbrev pub operator_front : ℕ → Operator → List Form
operator_front n (operator.Binary x o) = expr_at n x ++ up (operand_at n x) (just (binary_sign o)) ∷ []
operator_front n (operator.Unary o) = up (n + 1) (unary_form o) ∷ []
operator_front n (operator.Await q) = up (n + 1) (reserved_at q r.Await) ∷ []
operator_front n (operator.Update o) = up (n + 1) (just (update_sign o)) ∷ []

abbrev pub tail_front : ℕ → Tail → List Form
tail_front n (tail.Assign o t) = target_at n t ++ up (n + 1) (just (assign_sign o)) ∷ []
tail_front n (tail.Else test x) = expr_at n test ++ up (n + 1) (just p.Question) ∷ (expr_at (n + 1) x ++ up (n + 1) (just p.Colon) ∷ [])
tail_front n (tail.Arrow a ns) = perhaps_at n a (arrow_at n ns) ++ up (n + 1) arrow_sign ∷ []

abbrev pub callee_at : ℕ → Callee → List Form
callee_at n (callee.Value x k) = expr_at n x
callee_at n (callee.New m) = up n (reserved r.New) ∷ up n (name m) ∷ []

-- items with m constructs open
abbrev pub argument_front : ℕ → ℕ → Callee → List (List Form) → List Form
argument_front n m c xs = callee_at n c ++ up m (just p.OpenParen) ∷ commaed_at m xs

abbrev pub arguments_front : ℕ → Callee → List Expr → List Form
arguments_front n c xs = argument_front n (callee_level n c) c (map (expr_at (callee_level n c)) xs)

-- m constructs are open behind the brace
abbrev pub object_front : ℕ → List Property → List Form
object_front m xs = up m (just p.OpenBrace) ∷ commaed_at m (map (property_at m) xs)

-- parts of a template, the last one without a value behind it
abbrev pub hole_front : ℕ → TemplatePart → List TemplateItem → List ℕ → List Form
hole_front m k [] u = up m (template_mark k u) ∷ []
hole_front m k (i ∷ is) u = up m (template_mark k i.units) ∷ (expr_at m i.value ++ hole_front m part.Middle is u)

abbrev pub for_open : ℕ → List Form → List Form
for_open n fs = up n (reserved r.For) ∷ up (n + 1) (just p.OpenParen) ∷ fs

abbrev pub declared_head : ℕ → Bool → DeclareKind → List Form
declared_head n true k = for_open n (up (n + 1) (reserved (declare_word k)) ∷ [])
declared_head n false k = up n (reserved (declare_word k)) ∷ []

abbrev pub declared_front : ℕ → Declared → List Form
declared_front n d = declared_head n d.in_for d.kind ++ commaed_at (declared_level n d.in_for) (map (declaration_at (declared_level n d.in_for)) d.declarations)

abbrev pub purpose_front : ℕ → Purpose → List Form
purpose_front n (purpose.Then test) = expr_at n test ++ up (n + 1) (just p.Question) ∷ []
purpose_front n purpose.Group = up (n + 1) (just p.OpenParen) ∷ []
purpose_front n (purpose.Argument c xs) = arguments_front n c xs
purpose_front n (purpose.Index y k) = expr_at n y ++ up (access_at n y) (just p.OpenBracket) ∷ []
purpose_front n (purpose.Element xs) = up (n + 1) (just p.OpenBracket) ∷ commaed_at (n + 1) (map (expr_at (n + 1)) xs)
purpose_front n (purpose.Pair xs k) = object_front (n + 1) xs ++ up (n + 1) (key k) ∷ up (n + 1) (just p.Colon) ∷ []
purpose_front n (purpose.Hole is u) = hole_front (n + 1) part.Head is u
purpose_front n purpose.If = up n (reserved r.If) ∷ up (n + 1) (just p.OpenParen) ∷ []
purpose_front n purpose.While = up n (reserved r.While) ∷ up (n + 1) (just p.OpenParen) ∷ []
purpose_front n purpose.ForStart = for_open n []
purpose_front n (purpose.ForTest b) = for_open n (for_at (n + 1) b ++ up (n + 1) (just p.Semicolon) ∷ [])
purpose_front n (purpose.ForUpdate b test) = for_open n (for_at (n + 1) b ++ up (n + 1) (just p.Semicolon) ∷ (option_at (n + 1) test ++ up (n + 1) (just p.Semicolon) ∷ []))
purpose_front n (purpose.ForOf k m) = for_open n (up (n + 1) (reserved (declare_word k)) ∷ up (n + 1) (name m) ∷ up (n + 1) of_word ∷ [])
purpose_front n purpose.Statement = []
purpose_front n (purpose.Initial d m) = declared_front n d ++ up (declared_level n d.in_for) (name m) ∷ up (declared_level n d.in_for) (just p.Equal) ∷ []
purpose_front n (purpose.Return q) = up n (reserved_at q r.Return) ∷ []
purpose_front n purpose.Throw = up n (reserved r.Throw) ∷ []

abbrev pub tested : ℕ → Expr → List Form → List Form
tested n test fs = up (n + 1) (just p.OpenParen) ∷ (expr_at (n + 1) test ++ up (n + 1) (just p.CloseParen) ∷ fs)

abbrev pub body_front : ℕ → Body → List Form
body_front n (body.Then test) = up n (reserved r.If) ∷ tested n test []
body_front n (body.Else test a) = up n (reserved r.If) ∷ tested n test (body_at n a ++ up n (reserved r.Else) ∷ [])
body_front n (body.For b test update) = for_open n (for_at (n + 1) b ++ up (n + 1) (just p.Semicolon) ∷ (option_at (n + 1) test ++ up (n + 1) (just p.Semicolon) ∷ (option_at (n + 1) update ++ up (n + 1) (just p.CloseParen) ∷ [])))
body_front n (body.ForOf k m x) = for_open n (up (n + 1) (reserved (declare_word k)) ∷ up (n + 1) (name m) ∷ up (n + 1) of_word ∷ (expr_at (n + 1) x ++ up (n + 1) (just p.CloseParen) ∷ []))
body_front n (body.While test) = up n (reserved r.While) ∷ tested n test []

abbrev pub head_front : ℕ → Head → List Form
head_front n (head.Declaration a m) = perhaps_at n a (up n (reserved r.Function) ∷ up n (name m) ∷ [])
head_front n (head.Expression a m) = perhaps_at n a (up n (reserved r.Function) ∷ option_name_at n m)
head_front n (head.Method a xs k) = object_front (n + 1) xs ++ perhaps_at (n + 1) a (up (n + 1) (key k) ∷ [])

abbrev pub catch_front : ℕ → Option Name → List Form
catch_front n None = up n (reserved r.Catch) ∷ []
catch_front n (Some m) = up n (reserved r.Catch) ∷ up (n + 1) (just p.OpenParen) ∷ up (n + 1) (name m) ∷ up (n + 1) (just p.CloseParen) ∷ []

abbrev pub tried_front : ℕ → List Stmt → List Form
tried_front n ss = up n (reserved r.Try) ∷ braced_at (n + 1) (stmts_at (n + 1) ss)

abbrev pub block_front : ℕ → Bool → Block → List Form
block_front n b block.Plain = up (plain_level n b) (just p.OpenBrace) ∷ []
block_front n b (block.Function h ns) = head_front n h ++ (parameters_at (head_level n h) ns ++ up (head_level n h) (just p.OpenBrace) ∷ [])
block_front n b (block.Arrow a ns) = perhaps_at n a (arrow_at n ns) ++ up n arrow_sign ∷ up (n + 1) (just p.OpenBrace) ∷ []
block_front n b block.Try = up n (reserved r.Try) ∷ up (n + 1) (just p.OpenBrace) ∷ []
block_front n b (block.Catch tried m) = tried_front n tried ++ (catch_front n m ++ up (n + 1) (just p.OpenBrace) ∷ [])
block_front n b (block.Finally tried c) = tried_front n tried ++ (option_catch_at n c ++ up n (reserved r.Finally) ∷ up (n + 1) (just p.OpenBrace) ∷ [])

-- `export default` stands at the top level
abbrev pub export_front : ℕ → List Open → List Form
export_front n [] = up n (reserved r.Export) ∷ up n (reserved r.Default) ∷ []
export_front n (f ∷ fs) = unread

-- what a frame within these has before what stands in it
abbrev pub front_at : ℕ → Bool → List Open → Frame → List Form
front_at n b fs (frame.Operator x) = operator_front n x
front_at n b fs (frame.Tail x) = tail_front n x
front_at n b fs (frame.Purpose x) = purpose_front n x
front_at n b fs (frame.Body x) = body_front n x
front_at n b fs (frame.Block x ss) = block_front n b x ++ stmts_at (block_level n b x) ss
front_at n b fs frame.Export = export_front n fs

abbrev pub front : List Open → Frame → List Form
front fs f = front_at (levels fs) (is_body (first_frame fs)) fs f

-- the frames, and these forms in the innermost
abbrev pub spell : List Open → List Form → List Form
spell [] r = r
spell (f ∷ fs) r = spell fs (lined (is_line f.frame) (front fs f.frame) r)

abbrev pub waits_in : List Open → Frame → List Form → List Form
waits_in fs (frame.Purpose (purpose.Return q)) outer = unread
waits_in fs (frame.Purpose purpose.Throw) outer = unread
waits_in fs (frame.Purpose purpose.Statement) outer = outer
waits_in fs f outer = spell fs (front fs f)

-- .. and nothing in the innermost: what begins with the next token may begin behind a line end
abbrev pub waits : List Open → List Form
waits [] = []
waits (f ∷ fs) = waits_in fs f.frame (waits fs)

-- ---- the innermost, where n constructs are open round it; an arrow is counted as before a block

abbrev pub cover_front : ℕ → Cover → List Form
cover_front n covers.Plain = up (n + 1) (just p.OpenParen) ∷ []
cover_front n (covers.Async m) = up n (async_name m) ∷ up (n + 1) (one (unbroken (sign p.OpenParen))) ∷ []

-- within brackets: one name with no comma, or names as parameters are
abbrev pub covered_names : ℕ → List Name → Bool → List Form
covered_names m ns false = listed_at m (names_at m ns)
covered_names m (n ∷ []) true = name_at m n
covered_names m ns true = unread

abbrev pub jump_layer : ℕ → StmtNode → List Form
jump_layer n (Stmt-F.Break q) = up n (reserved_at q r.Break) ∷ []
jump_layer n (Stmt-F.Continue q) = up n (reserved_at q r.Continue) ∷ []
jump_layer n _ = unread

abbrev pub at_forms : ℕ → At → List Form
at_forms n at.Statement = []
at_forms n at.Begin = []
at_forms n (at.Operand x k) = expr_at n x
at_forms n (at.Updated x) = expr_at n x
at_forms n (at.Whole x) = expr_at n x
at_forms n (at.Async m) = up n (async_name m) ∷ []
at_forms n (at.CoverOpen c ns) = cover_front n c ++ commaed_at (n + 1) (names_at (n + 1) ns)
at_forms n (at.CoverName c ns m) = cover_front n c ++ (commaed_at (n + 1) (names_at (n + 1) ns) ++ up (n + 1) (name m) ∷ [])
at_forms n (at.Covered c ns b) = cover_front n c ++ (covered_names (n + 1) ns b ++ up (n + 1) (just p.CloseParen) ∷ [])
at_forms n (at.Arrow a ns) = perhaps_at n a (arrow_at n ns)
at_forms n (at.ArrowBody a ns) = perhaps_at n a (arrow_at n ns) ++ up n arrow_sign ∷ []
at_forms n at.NewName = up n (reserved r.New) ∷ []
at_forms n (at.NewOpen m) = up n (reserved r.New) ∷ up n (name m) ∷ []
at_forms n (at.MemberName x k) = expr_at n x ++ up (access_at n x) (just p.Dot) ∷ []
at_forms n (at.NextArgument c xs) = arguments_front n c xs
at_forms n (at.NextElement xs) = up (n + 1) (just p.OpenBracket) ∷ commaed_at (n + 1) (map (expr_at (n + 1)) xs)
at_forms n (at.Key xs) = object_front (n + 1) xs
at_forms n (at.NameKey xs m) = object_front (n + 1) xs ++ up (n + 1) (name m) ∷ []
at_forms n (at.OtherKey xs k) = object_front (n + 1) xs ++ up (n + 1) (key k) ∷ []
at_forms n (at.AsyncKey xs m) = object_front (n + 1) xs ++ up (n + 1) (async_name m) ∷ []
at_forms n (at.AsyncMethod xs k) = object_front (n + 1) xs ++ perhaps_at (n + 1) true (up (n + 1) (key k) ∷ [])
at_forms n (at.PropertyEnd xs) = up (n + 1) (just p.OpenBrace) ∷ ended_at (n + 1) (map (property_at (n + 1)) xs)
at_forms n (at.FunctionName d a) = perhaps_at n a (up n (reserved r.Function) ∷ [])
at_forms n (at.ParametersOpen h) = head_front n h
at_forms n (at.Parameters h ns) = head_front n h ++ up (head_level n h) (just p.OpenParen) ∷ commaed_at (head_level n h) (names_at (head_level n h) ns)
at_forms n (at.ParameterRead h ns m) = head_front n h ++ up (head_level n h) (just p.OpenParen) ∷ (commaed_at (head_level n h) (names_at (head_level n h) ns) ++ up (head_level n h) (name m) ∷ [])
at_forms n (at.BodyOpen h ns) = head_front n h ++ parameters_at (head_level n h) ns
at_forms n (at.DeclaredName d) = declared_front n d
at_forms n (at.NameDeclared d m) = declared_front n d ++ up (declared_level n d.in_for) (name m) ∷ []
at_forms n (at.Opening x) = up n (reserved (opening_word x)) ∷ []
at_forms n at.ForHead = for_open n []
at_forms n (at.ForTest b) = purpose_front n (purpose.ForTest b)
at_forms n (at.ForUpdate b test) = purpose_front n (purpose.ForUpdate b test)
at_forms n (at.AfterThen test s) = up n (reserved r.If) ∷ tested n test (body_at n s)
at_forms n (at.Jump s) = jump_layer n (out-Stmt s)
at_forms n (at.Return q) = up n (reserved_at q r.Return) ∷ []
at_forms n at.Throw = up n (reserved r.Throw) ∷ []
at_forms n at.TryOpen = up n (reserved r.Try) ∷ []
at_forms n (at.AfterTry ss) = tried_front n ss
at_forms n (at.CatchOpen ss) = tried_front n ss ++ up n (reserved r.Catch) ∷ []
at_forms n (at.CatchName ss) = tried_front n ss ++ up n (reserved r.Catch) ∷ up (n + 1) (just p.OpenParen) ∷ []
at_forms n (at.CatchClose ss m) = tried_front n ss ++ up n (reserved r.Catch) ∷ up (n + 1) (just p.OpenParen) ∷ up (n + 1) (name m) ∷ []
at_forms n (at.CatchBody ss m) = tried_front n ss ++ catch_front n (Some m)
at_forms n (at.AfterCatch ss c) = tried_front n ss ++ catch_at n c
at_forms n (at.FinallyOpen ss c) = tried_front n ss ++ (option_catch_at n c ++ up n (reserved r.Finally) ∷ [])
at_forms n at.ExportDefault = up n (reserved r.Export) ∷ []
at_forms n at.ExportObject = up n (reserved r.Export) ∷ up n (reserved r.Default) ∷ []
at_forms n at.AfterExport = []

-- ---- the items

abbrev pub export_forms : List Property → List Form
export_forms xs = up 0 (reserved r.Export) ∷ up 0 (reserved r.Default) ∷ braced_at (0 + 1) (listed_at (0 + 1) (map (property_at (0 + 1)) xs))

-- between an `export default` and the item behind it
abbrev pub end_before : Item → Form
end_before (item.Stmt s) = cond (is_empty s) (up 0 (just p.Semicolon)) (up 0 (maybe (sign p.Semicolon)))
end_before (item.Export xs) = up 0 (maybe (sign p.Semicolon))

-- items, and behind an `export default` that is the last one these forms
abbrev pub items_with : List Form → List Item → List Form
items_with e [] = []
items_with e (item.Stmt s ∷ is) = stmt_at 0 s ++ items_with e is
items_with e (item.Export xs ∷ []) = export_forms xs ++ e
items_with e (item.Export xs ∷ i ∷ is) = export_forms xs ++ end_before i ∷ items_with e (i ∷ is)

-- the end of an `export default` may have been read or not
abbrev pub whole_items : List Item → List Form
whole_items is = items_with (up 0 (maybe (sign p.Semicolon)) ∷ []) is

-- ---- states

-- between statements: at the top level behind an `export default`, its `;` was read
abbrev pub between : List Item → List Open → List Form
between is [] = items_with (up 0 (just p.Semicolon) ∷ []) is
between is (f ∷ fs) = whole_items is ++ waits (f ∷ fs)

abbrev pub at_top : List Item → List Open → List Form → List Form
at_top is [] r = whole_items is ++ r
at_top is (f ∷ fs) r = unread

abbrev pub behind_export : List Item → List Open → List Form
behind_export is [] = cond (ends_with_export is) (items_with [] is) unread
behind_export is (f ∷ fs) = unread

abbrev pub spelled_at : List Item → List Open → At → List Form
spelled_at is fs at.Statement = between is fs
spelled_at is fs at.Begin = whole_items is ++ waits fs
spelled_at is fs at.ExportDefault = at_top is fs (at_forms 0 at.ExportDefault)
spelled_at is fs at.ExportObject = at_top is fs (at_forms 0 at.ExportObject)
spelled_at is fs at.AfterExport = behind_export is fs
spelled_at is fs a = whole_items is ++ spell fs (at_forms (levels fs) a)

abbrev pub spelled : State → List Form
spelled s = spelled_at s.outer.items s.outer.frames s.at
