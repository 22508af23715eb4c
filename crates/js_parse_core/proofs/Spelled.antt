-- What a state has read, as forms: by the frames from the outermost on, and then by the innermost.
use Rattle.std.proofs.Common.{ℕ, Bool, true, false, cond, List, [], ◌∷◌, ◌++◌, map, Option, Some, None}
use Rattle.js_lex.specs.declared.token.Punctuator.TheVariants as p
use Rattle.js_lex.specs.declared.token.Reserved.{Reserved}
use Rattle.js_lex.specs.declared.token.Reserved.TheVariants as r
use Rattle.js_lex.specs.declared.token.TemplatePart.{TemplatePart}
use Rattle.js_lex.specs.declared.token.TemplatePart.TheVariants as part
use Rattle.js_tree.specs.declared.tree.ArrowBody.TheOpen.{Stmt-F}
use Rattle.js_tree.specs.declared.tree.DeclareKind.{DeclareKind}
use Rattle.js_tree.specs.declared.tree.Item.{Item}
use Rattle.js_tree.specs.declared.tree.Item.TheVariants as item
use Rattle.js_tree.specs.declared.tree.Name.{Name}
use Rattle.js_tree.specs.declared.tree.Property.{Property}
use Rattle.js_tree.specs.declared.tree.Stmt.{Stmt, out-Stmt}
use Rattle.js_tree.specs.declared.tree.TemplateItem.{TemplateItem}
use Rattle.js_grammar.specs.Marks.{Form, unbroken, one, just, sign, maybe, on_one_line, more, listed}
use Rattle.js_grammar.specs.Grammar.{StmtNode, name, name_forms, key, reserved, reserved_at, perhaps_async, option_name, unary_form, binary_sign, update_sign, assign_sign, declare_word, template_mark, arrow_sign, of_word, is_empty}
use Rattle.js_parse_core.specs.declared.machine.At.{At}
use Rattle.js_parse_core.specs.declared.machine.At.TheVariants as at
use Rattle.js_parse_core.specs.declared.machine.Block.{Block}
use Rattle.js_parse_core.specs.declared.machine.Block.TheVariants as block
use Rattle.js_parse_core.specs.declared.machine.Body.{Body}
use Rattle.js_parse_core.specs.declared.machine.Body.TheVariants as body
use Rattle.js_parse_core.specs.declared.machine.Callee.{Callee}
use Rattle.js_parse_core.specs.declared.machine.Callee.TheVariants as callee
use Rattle.js_parse_core.specs.declared.machine.Cover.{Cover}
use Rattle.js_parse_core.specs.declared.machine.Cover.TheVariants as covers
use Rattle.js_parse_core.specs.declared.machine.Declared.{Declared}
use Rattle.js_parse_core.specs.declared.machine.Frame.{Frame}
use Rattle.js_parse_core.specs.declared.machine.Frame.TheVariants as frame
use Rattle.js_parse_core.specs.declared.machine.Head.{Head}
use Rattle.js_parse_core.specs.declared.machine.Head.TheVariants as head
use Rattle.js_parse_core.specs.declared.machine.Open.{Open}
use Rattle.js_parse_core.specs.declared.machine.Opening.{Opening}
use Rattle.js_parse_core.specs.declared.machine.Opening.TheVariants as opening
use Rattle.js_parse_core.specs.declared.machine.Operator.{Operator}
use Rattle.js_parse_core.specs.declared.machine.Operator.TheVariants as operator
use Rattle.js_parse_core.specs.declared.machine.Purpose.{Purpose}
use Rattle.js_parse_core.specs.declared.machine.Purpose.TheVariants as purpose
use Rattle.js_parse_core.specs.declared.machine.State.{State}
use Rattle.js_parse_core.specs.declared.machine.Tail.{Tail}
use Rattle.js_parse_core.specs.declared.machine.Tail.TheVariants as tail
use Rattle.js_parse_core.specs.Tokens.{is_async}
use Rattle.js_parse_core.proofs.Bare.{expr_forms, target_forms, property_forms, stmt_forms, stmts_forms, braced, bracketed, arrow_names}
use Rattle.js_parse_core.proofs.BareStatements.{declaration_forms, for_forms, catch_forms, option_forms, option_catch_forms}

-- ---- parts

-- what no pieces fit: no run comes to such a state
abbrev pub unread : List Form
unread = [] ∷ []

-- items that each have a comma
abbrev pub commaed : List (List Form) → List Form
commaed [] = []
commaed (x ∷ xs) = x ++ just p.Comma ∷ commaed xs

-- one item or more, and no comma behind the last
abbrev pub ended : List (List Form) → List Form
ended [] = unread
ended (x ∷ xs) = x ++ more xs

abbrev pub names_forms : List Name → List (List Form)
names_forms ns = map name_forms ns

-- a name, which is `async`
abbrev pub async_name : Name → Form
async_name n = cond (is_async n.units) (name n) []

-- ---- frames

abbrev pub operator_front : Operator → List Form
operator_front (operator.Binary x o) = expr_forms x ++ just (binary_sign o) ∷ []
operator_front (operator.Unary o) = unary_form o ∷ []
operator_front (operator.Await q) = reserved_at q r.Await ∷ []
operator_front (operator.Update o) = just (update_sign o) ∷ []

abbrev pub tail_front : Tail → List Form
tail_front (tail.Assign o t) = target_forms t ++ just (assign_sign o) ∷ []
tail_front (tail.Else test x) = expr_forms test ++ just p.Question ∷ (expr_forms x ++ just p.Colon ∷ [])
tail_front (tail.Arrow a ns) = perhaps_async a (arrow_names ns) ++ arrow_sign ∷ []

abbrev pub callee_forms : Callee → List Form
callee_forms (callee.Value x n) = expr_forms x
callee_forms (callee.New n) = reserved r.New ∷ name n ∷ []

abbrev pub argument_front : Callee → List (List Form) → List Form
argument_front c xs = callee_forms c ++ just p.OpenParen ∷ commaed xs

abbrev pub object_front : List Property → List Form
object_front xs = just p.OpenBrace ∷ commaed (map property_forms xs)

-- parts of a template, the last one without a value behind it
abbrev pub hole_front : TemplatePart → List TemplateItem → List ℕ → List Form
hole_front k [] u = template_mark k u ∷ []
hole_front k (i ∷ is) u = template_mark k i.units ∷ (expr_forms i.value ++ hole_front part.Middle is u)

abbrev pub declared_head : Bool → DeclareKind → List Form
declared_head true k = reserved r.For ∷ just p.OpenParen ∷ reserved (declare_word k) ∷ []
declared_head false k = reserved (declare_word k) ∷ []

abbrev pub declared_front : Declared → List Form
declared_front d = declared_head d.in_for d.kind ++ commaed (map declaration_forms d.declarations)

abbrev pub opening_word : Opening → Reserved
opening_word opening.If = r.If
opening_word opening.While = r.While
opening_word opening.For = r.For

abbrev pub purpose_front : Purpose → List Form
purpose_front (purpose.Then test) = expr_forms test ++ just p.Question ∷ []
purpose_front purpose.Group = just p.OpenParen ∷ []
purpose_front (purpose.Argument c xs) = argument_front c (map expr_forms xs)
purpose_front (purpose.Index y n) = expr_forms y ++ just p.OpenBracket ∷ []
purpose_front (purpose.Element xs) = just p.OpenBracket ∷ commaed (map expr_forms xs)
purpose_front (purpose.Pair xs k) = object_front xs ++ key k ∷ just p.Colon ∷ []
purpose_front (purpose.Hole is u) = hole_front part.Head is u
purpose_front purpose.If = reserved r.If ∷ just p.OpenParen ∷ []
purpose_front purpose.While = reserved r.While ∷ just p.OpenParen ∷ []
purpose_front purpose.ForStart = reserved r.For ∷ just p.OpenParen ∷ []
purpose_front (purpose.ForTest b) = reserved r.For ∷ just p.OpenParen ∷ (for_forms b ++ just p.Semicolon ∷ [])
purpose_front (purpose.ForUpdate b test) = reserved r.For ∷ just p.OpenParen ∷ (for_forms b ++ just p.Semicolon ∷ (option_forms test ++ just p.Semicolon ∷ []))
purpose_front (purpose.ForOf k n) = reserved r.For ∷ just p.OpenParen ∷ reserved (declare_word k) ∷ name n ∷ of_word ∷ []
purpose_front purpose.Statement = []
purpose_front (purpose.Initial d n) = declared_front d ++ name n ∷ just p.Equal ∷ []
purpose_front (purpose.Return q) = reserved_at q r.Return ∷ []
purpose_front purpose.Throw = reserved r.Throw ∷ []

abbrev pub body_front : Body → List Form
body_front (body.Then test) = reserved r.If ∷ just p.OpenParen ∷ (expr_forms test ++ just p.CloseParen ∷ [])
body_front (body.Else test a) = reserved r.If ∷ just p.OpenParen ∷ (expr_forms test ++ just p.CloseParen ∷ (stmt_forms a ++ reserved r.Else ∷ []))
body_front (body.For b test update) = reserved r.For ∷ just p.OpenParen ∷ (for_forms b ++ just p.Semicolon ∷ (option_forms test ++ just p.Semicolon ∷ (option_forms update ++ just p.CloseParen ∷ [])))
body_front (body.ForOf k n x) = reserved r.For ∷ just p.OpenParen ∷ reserved (declare_word k) ∷ name n ∷ of_word ∷ (expr_forms x ++ just p.CloseParen ∷ [])
body_front (body.While test) = reserved r.While ∷ just p.OpenParen ∷ (expr_forms test ++ just p.CloseParen ∷ [])

abbrev pub head_front : Head → List Form
head_front (head.Declaration a n) = perhaps_async a (reserved r.Function ∷ name n ∷ [])
head_front (head.Expression a n) = perhaps_async a (reserved r.Function ∷ option_name n)
head_front (head.Method a xs k) = object_front xs ++ perhaps_async a (key k ∷ [])

abbrev pub catch_front : Option Name → List Form
catch_front None = reserved r.Catch ∷ []
catch_front (Some n) = reserved r.Catch ∷ just p.OpenParen ∷ name n ∷ just p.CloseParen ∷ []

abbrev pub tried_front : List Stmt → List Form
tried_front ss = reserved r.Try ∷ braced (stmts_forms ss)

abbrev pub block_front : Block → List Form
block_front block.Plain = just p.OpenBrace ∷ []
block_front (block.Function h ns) = head_front h ++ (bracketed (listed (names_forms ns)) ++ just p.OpenBrace ∷ [])
block_front (block.Arrow a ns) = perhaps_async a (arrow_names ns) ++ arrow_sign ∷ just p.OpenBrace ∷ []
block_front block.Try = reserved r.Try ∷ just p.OpenBrace ∷ []
block_front (block.Catch tried n) = tried_front tried ++ (catch_front n ++ just p.OpenBrace ∷ [])
block_front (block.Finally tried c) = tried_front tried ++ (option_catch_forms c ++ reserved r.Finally ∷ just p.OpenBrace ∷ [])

-- `export default` stands at the top level
abbrev pub export_front : List Open → List Form
export_front [] = reserved r.Export ∷ reserved r.Default ∷ []
export_front (f ∷ fs) = unread

-- what a frame within these has before what stands in it
abbrev pub front : List Open → Frame → List Form
front fs (frame.Operator x) = operator_front x
front fs (frame.Tail x) = tail_front x
front fs (frame.Purpose x) = purpose_front x
front fs (frame.Body x) = body_front x
front fs (frame.Block b ss) = block_front b ++ stmts_forms ss
front fs frame.Export = export_front fs

-- .. with no line end behind it
abbrev pub is_line : Frame → Bool
is_line (frame.Purpose (purpose.Return q)) = true
is_line (frame.Purpose purpose.Throw) = true
is_line _ = false

abbrev pub lined : Bool → List Form → List Form → List Form
lined true c fs = c ++ on_one_line fs
lined false c fs = c ++ fs

-- the frames, and these forms in the innermost
abbrev pub spell : List Open → List Form → List Form
spell [] r = r
spell (f ∷ fs) r = spell fs (lined (is_line f.frame) (front fs f.frame) r)

abbrev pub waits_in : List Open → Frame → List Form → List Form
waits_in fs (frame.Purpose (purpose.Return q)) outer = unread
waits_in fs (frame.Purpose purpose.Throw) outer = unread
waits_in fs (frame.Purpose purpose.Statement) outer = outer
waits_in fs f outer = spell fs (front fs f)

-- .. and nothing in the innermost: what begins with the next token may begin behind a line end
abbrev pub waits : List Open → List Form
waits [] = []
waits (f ∷ fs) = waits_in fs f.frame (waits fs)

-- ---- the innermost

abbrev pub cover_front : Cover → List Form
cover_front covers.Plain = just p.OpenParen ∷ []
cover_front (covers.Async n) = async_name n ∷ one (unbroken (sign p.OpenParen)) ∷ []

-- within brackets: one name with no comma, or names as parameters are
abbrev pub covered_names : List Name → Bool → List Form
covered_names ns false = listed (names_forms ns)
covered_names (n ∷ []) true = name n ∷ []
covered_names ns true = unread

abbrev pub jump_layer : StmtNode → List Form
jump_layer (Stmt-F.Break q) = reserved_at q r.Break ∷ []
jump_layer (Stmt-F.Continue q) = reserved_at q r.Continue ∷ []
jump_layer _ = unread

abbrev pub at_forms : At → List Form
at_forms at.Statement = []
at_forms at.Begin = []
at_forms (at.Operand x n) = expr_forms x
at_forms (at.Updated x) = expr_forms x
at_forms (at.Whole x) = expr_forms x
at_forms (at.Async n) = async_name n ∷ []
at_forms (at.CoverOpen c ns) = cover_front c ++ commaed (names_forms ns)
at_forms (at.CoverName c ns n) = cover_front c ++ (commaed (names_forms ns) ++ name n ∷ [])
at_forms (at.Covered c ns b) = cover_front c ++ (covered_names ns b ++ just p.CloseParen ∷ [])
at_forms (at.Arrow a ns) = perhaps_async a (arrow_names ns)
at_forms (at.ArrowBody a ns) = perhaps_async a (arrow_names ns) ++ arrow_sign ∷ []
at_forms at.NewName = reserved r.New ∷ []
at_forms (at.NewOpen n) = reserved r.New ∷ name n ∷ []
at_forms (at.MemberName x n) = expr_forms x ++ just p.Dot ∷ []
at_forms (at.NextArgument c xs) = argument_front c (map expr_forms xs)
at_forms (at.NextElement xs) = just p.OpenBracket ∷ commaed (map expr_forms xs)
at_forms (at.Key xs) = object_front xs
at_forms (at.NameKey xs n) = object_front xs ++ name n ∷ []
at_forms (at.OtherKey xs k) = object_front xs ++ key k ∷ []
at_forms (at.AsyncKey xs n) = object_front xs ++ async_name n ∷ []
at_forms (at.AsyncMethod xs k) = object_front xs ++ perhaps_async true (key k ∷ [])
at_forms (at.PropertyEnd xs) = just p.OpenBrace ∷ ended (map property_forms xs)
at_forms (at.FunctionName d a) = perhaps_async a (reserved r.Function ∷ [])
at_forms (at.ParametersOpen h) = head_front h
at_forms (at.Parameters h ns) = head_front h ++ just p.OpenParen ∷ commaed (names_forms ns)
at_forms (at.ParameterRead h ns n) = head_front h ++ just p.OpenParen ∷ (commaed (names_forms ns) ++ name n ∷ [])
at_forms (at.BodyOpen h ns) = head_front h ++ bracketed (listed (names_forms ns))
at_forms (at.DeclaredName d) = declared_front d
at_forms (at.NameDeclared d n) = declared_front d ++ name n ∷ []
at_forms (at.Opening x) = reserved (opening_word x) ∷ []
at_forms at.ForHead = reserved r.For ∷ just p.OpenParen ∷ []
at_forms (at.ForTest b) = purpose_front (purpose.ForTest b)
at_forms (at.ForUpdate b test) = purpose_front (purpose.ForUpdate b test)
at_forms (at.AfterThen test s) = reserved r.If ∷ just p.OpenParen ∷ (expr_forms test ++ just p.CloseParen ∷ stmt_forms s)
at_forms (at.Jump s) = jump_layer (out-Stmt s)
at_forms (at.Return q) = reserved_at q r.Return ∷ []
at_forms at.Throw = reserved r.Throw ∷ []
at_forms at.TryOpen = reserved r.Try ∷ []
at_forms (at.AfterTry ss) = tried_front ss
at_forms (at.CatchOpen ss) = tried_front ss ++ reserved r.Catch ∷ []
at_forms (at.CatchName ss) = tried_front ss ++ reserved r.Catch ∷ just p.OpenParen ∷ []
at_forms (at.CatchClose ss n) = tried_front ss ++ reserved r.Catch ∷ just p.OpenParen ∷ name n ∷ []
at_forms (at.CatchBody ss n) = tried_front ss ++ catch_front (Some n)
at_forms (at.AfterCatch ss c) = tried_front ss ++ catch_forms c
at_forms (at.FinallyOpen ss c) = tried_front ss ++ (option_catch_forms c ++ reserved r.Finally ∷ [])
at_forms at.ExportDefault = reserved r.Export ∷ []
at_forms at.ExportObject = reserved r.Export ∷ reserved r.Default ∷ []
at_forms at.AfterExport = []

-- ---- the items

abbrev pub export_forms : List Property → List Form
export_forms xs = reserved r.Export ∷ reserved r.Default ∷ braced (listed (map property_forms xs))

-- between an `export default` and the item behind it
abbrev pub end_before : Item → Form
end_before (item.Stmt s) = cond (is_empty s) (just p.Semicolon) (maybe (sign p.Semicolon))
end_before (item.Export xs) = maybe (sign p.Semicolon)

-- items, and behind an `export default` that is the last one these forms
abbrev pub items_with : List Form → List Item → List Form
items_with e [] = []
items_with e (item.Stmt s ∷ is) = stmt_forms s ++ items_with e is
items_with e (item.Export xs ∷ []) = export_forms xs ++ e
items_with e (item.Export xs ∷ i ∷ is) = export_forms xs ++ end_before i ∷ items_with e (i ∷ is)

-- the end of an `export default` may have been read or not
abbrev pub whole_items : List Item → List Form
whole_items is = items_with (maybe (sign p.Semicolon) ∷ []) is

abbrev pub ends_with_export : List Item → Bool
ends_with_export [] = false
ends_with_export (item.Stmt s ∷ is) = ends_with_export is
ends_with_export (item.Export xs ∷ []) = true
ends_with_export (item.Export xs ∷ i ∷ is) = ends_with_export (i ∷ is)

-- ---- states

-- between statements: at the top level behind an `export default`, its `;` was read
abbrev pub between : List Item → List Open → List Form
between is [] = items_with (just p.Semicolon ∷ []) is
between is (f ∷ fs) = whole_items is ++ waits (f ∷ fs)

abbrev pub at_top : List Item → List Open → List Form → List Form
at_top is [] r = whole_items is ++ r
at_top is (f ∷ fs) r = unread

abbrev pub behind_export : List Item → List Open → List Form
behind_export is [] = cond (ends_with_export is) (items_with [] is) unread
behind_export is (f ∷ fs) = unread

abbrev pub spelled_at : List Item → List Open → At → List Form
spelled_at is fs at.Statement = between is fs
spelled_at is fs at.Begin = whole_items is ++ waits fs
spelled_at is fs at.ExportDefault = at_top is fs (at_forms at.ExportDefault)
spelled_at is fs at.ExportObject = at_top is fs (at_forms at.ExportObject)
spelled_at is fs at.AfterExport = behind_export is fs
spelled_at is fs a = whole_items is ++ spell fs (at_forms a)

abbrev pub spelled : State → List Form
spelled s = spelled_at s.outer.items s.outer.frames s.at
