-- What is known of each place but those where a value or a statement is whole.
use Rattle.std.proofs.Common.{◌≡◌, ℕ, Bool, true, false, List, [], ◌∷◌, Option, Some, None, refl}
use Rattle.js_lex.specs.declared.token.TokenKind.TheVariants as tok
use Rattle.js_lex.specs.declared.token.Token.{Token}
use Rattle.js_tree.specs.declared.tree.Catch.{Catch}
use Rattle.js_tree.specs.declared.tree.Expr.{Expr}
use Rattle.js_tree.specs.declared.tree.ForBegin.{ForBegin}
use Rattle.js_tree.specs.declared.tree.Key.{Key}
use Rattle.js_tree.specs.declared.tree.Name.{Name}
use Rattle.js_tree.specs.declared.tree.Property.{Property}
use Rattle.js_tree.specs.declared.tree.Stmt.{Stmt}
use Rattle.js_words.specs.declared.word.Spot.TheVariants as spot
use Rattle.js_parse_core.specs.declared.machine.At.{At}
use Rattle.js_parse_core.specs.declared.machine.At.TheVariants as at
use Rattle.js_parse_core.specs.declared.machine.Callee.{Callee}
use Rattle.js_parse_core.specs.declared.machine.Cover.{Cover}
use Rattle.js_parse_core.specs.declared.machine.Cover.TheVariants as covers
use Rattle.js_parse_core.specs.declared.machine.Declared.{Declared}
use Rattle.js_parse_core.specs.declared.machine.Head.{Head}
use Rattle.js_parse_core.specs.declared.machine.Opening.{Opening}
use Rattle.js_parse_core.specs.declared.machine.Outer.{Outer}
use Rattle.js_parse_core.specs.Machine.{step_in}
use Rattle.js_parse_core.specs.Objects.{on_key_name}
use Rattle.js_parse_core.specs.Outer.{Step, begins_statement}
use Rattle.js_parse_core.specs.Tokens.{is_async, name}
use Rattle.js_parse_core.proofs.Accepts.{stands}
use Rattle.js_parse_core.proofs.Known.{Known, begin_safe}
use Rattle.js_parse_core.proofs.Pieces.{no_limit}
use Rattle.js_parse_core.proofs.Says.{tk, NameSafe, NameLaw, law_begin, law_member}

-- a place of the machine
abbrev pub place : Outer → At → Token → Step
place o a t = step_in no_limit true o a t

pub known_statement : (brace : Bool) (o : Outer) → Known brace false false (place o at.Statement)
known_statement brace o = record { here = (Some spot.StatementBegin); statement = refl; expression = refl; operand = refl; declared = refl; parameter = refl; key = refl; later = refl; on_line = λ q. (refl, refl, refl, refl, refl, refl, refl); behind = λ q. (refl, refl, refl, refl, refl, refl, refl); names = λ q l u. begin_safe _ (name q u) (is_async u); pairs = refl; law = λ q l u. law_begin true _ (name q u) (is_async u) refl; throws = refl }

pub known_begin : (o : Outer) → begins_statement o ≡ false → Known false false false (place o at.Begin)
known_begin o e = record { here = (Some spot.ExpressionBegin); statement = refl; expression = refl; operand = refl; declared = refl; parameter = refl; key = refl; later = refl; on_line = λ q. (refl, refl, refl, refl, refl, refl, refl); behind = λ q. (refl, refl, refl, refl, refl, refl, refl); names = λ q l u. begin_safe _ (name q u) (is_async u); pairs = refl; law = λ q l u. law_begin false o (name q u) (is_async u) e; throws = refl }

pub known_arrow : (o : Outer) (a : Bool) (ns : List Name) → Known false false false (place o (at.Arrow a ns))
known_arrow o a ns = record { here = None; statement = refl; expression = refl; operand = refl; declared = refl; parameter = refl; key = refl; later = refl; on_line = λ q. (refl, refl, refl, refl, refl, refl, refl); behind = λ q. (refl, refl, refl, refl, refl, refl, refl); names = λ q l u. (refl, tt); pairs = refl; law = λ q l u. tt; throws = refl }

pub known_new_name : (o : Outer) → Known false false false (place o at.NewName)
known_new_name o = record { here = None; statement = refl; expression = refl; operand = refl; declared = refl; parameter = refl; key = refl; later = refl; on_line = λ q. (refl, refl, refl, refl, refl, refl, refl); behind = λ q. (refl, refl, refl, refl, refl, refl, refl); names = λ q l u. tt; pairs = refl; law = λ q l u. refl; throws = refl }

pub known_new_open : (o : Outer) (n : Name) → Known false false false (place o (at.NewOpen n))
known_new_open o n = record { here = None; statement = refl; expression = refl; operand = refl; declared = refl; parameter = refl; key = refl; later = refl; on_line = λ q. (refl, refl, refl, refl, refl, refl, refl); behind = λ q. (refl, refl, refl, refl, refl, refl, refl); names = λ q l u. (refl, tt); pairs = refl; law = λ q l u. tt; throws = refl }

pub known_member_name : (o : Outer) (x : Expr) (n : ℕ) → Known false false false (place o (at.MemberName x n))
known_member_name o x n = record { here = None; statement = refl; expression = refl; operand = refl; declared = refl; parameter = refl; key = refl; later = refl; on_line = λ q. (refl, refl, refl, refl, refl, refl, refl); behind = λ q. (refl, refl, refl, refl, refl, refl, refl); names = λ q l u. tt; pairs = refl; law = λ q l u. law_member o x (name q u); throws = refl }

pub known_argument : (o : Outer) (c : Callee) (xs : List Expr) → Known false false false (place o (at.NextArgument c xs))
known_argument o c xs = record { here = (Some spot.ExpressionBegin); statement = refl; expression = refl; operand = refl; declared = refl; parameter = refl; key = refl; later = refl; on_line = λ q. (refl, refl, refl, refl, refl, refl, refl); behind = λ q. (refl, refl, refl, refl, refl, refl, refl); names = λ q l u. begin_safe _ (name q u) (is_async u); pairs = refl; law = λ q l u. law_begin false _ (name q u) (is_async u) refl; throws = refl }

pub known_element : (o : Outer) (xs : List Expr) → Known false false false (place o (at.NextElement xs))
known_element o xs = record { here = (Some spot.ExpressionBegin); statement = refl; expression = refl; operand = refl; declared = refl; parameter = refl; key = refl; later = refl; on_line = λ q. (refl, refl, refl, refl, refl, refl, refl); behind = λ q. (refl, refl, refl, refl, refl, refl, refl); names = λ q l u. begin_safe _ (name q u) (is_async u); pairs = refl; law = λ q l u. law_begin false _ (name q u) (is_async u) refl; throws = refl }

pub known_name_key : (o : Outer) (xs : List Property) (n : Name) → Known false false false (place o (at.NameKey xs n))
known_name_key o xs n = record { here = None; statement = refl; expression = refl; operand = refl; declared = refl; parameter = refl; key = refl; later = refl; on_line = λ q. (refl, refl, refl, refl, refl, refl, refl); behind = λ q. (refl, refl, refl, refl, refl, refl, refl); names = λ q l u. (refl, tt); pairs = refl; law = λ q l u. tt; throws = refl }

pub known_other_key : (o : Outer) (xs : List Property) (n : Key) → Known false false false (place o (at.OtherKey xs n))
known_other_key o xs n = record { here = None; statement = refl; expression = refl; operand = refl; declared = refl; parameter = refl; key = refl; later = refl; on_line = λ q. (refl, refl, refl, refl, refl, refl, refl); behind = λ q. (refl, refl, refl, refl, refl, refl, refl); names = λ q l u. (refl, tt); pairs = refl; law = λ q l u. tt; throws = refl }

pub known_async_method : (o : Outer) (xs : List Property) (n : Key) → Known false false false (place o (at.AsyncMethod xs n))
known_async_method o xs n = record { here = None; statement = refl; expression = refl; operand = refl; declared = refl; parameter = refl; key = refl; later = refl; on_line = λ q. (refl, refl, refl, refl, refl, refl, refl); behind = λ q. (refl, refl, refl, refl, refl, refl, refl); names = λ q l u. (refl, tt); pairs = refl; law = λ q l u. tt; throws = refl }

pub known_function_name : (o : Outer) (d a : Bool) → Known false false false (place o (at.FunctionName d a))
known_function_name o d a = record { here = None; statement = refl; expression = refl; operand = refl; declared = refl; parameter = refl; key = refl; later = refl; on_line = λ q. (refl, refl, refl, refl, refl, refl, refl); behind = λ q. (refl, refl, refl, refl, refl, refl, refl); names = λ q l u. tt; pairs = refl; law = λ q l u. refl; throws = refl }

pub known_parameters_open : (o : Outer) (h : Head) → Known false false false (place o (at.ParametersOpen h))
known_parameters_open o h = record { here = None; statement = refl; expression = refl; operand = refl; declared = refl; parameter = refl; key = refl; later = refl; on_line = λ q. (refl, refl, refl, refl, refl, refl, refl); behind = λ q. (refl, refl, refl, refl, refl, refl, refl); names = λ q l u. (refl, tt); pairs = refl; law = λ q l u. tt; throws = refl }

pub known_parameters : (o : Outer) (h : Head) (ns : List Name) → Known false false false (place o (at.Parameters h ns))
known_parameters o h ns = record { here = (Some spot.Parameter); statement = refl; expression = refl; operand = refl; declared = refl; parameter = refl; key = refl; later = refl; on_line = λ q. (refl, refl, refl, refl, refl, refl, refl); behind = λ q. (refl, refl, refl, refl, refl, refl, refl); names = λ q l u. tt; pairs = refl; law = λ q l u. refl; throws = refl }

pub known_parameter_read : (o : Outer) (h : Head) (ns : List Name) (n : Name) → Known false false false (place o (at.ParameterRead h ns n))
known_parameter_read o h ns n = record { here = (Some spot.Parameter); statement = refl; expression = refl; operand = refl; declared = refl; parameter = refl; key = refl; later = refl; on_line = λ q. (refl, refl, refl, refl, refl, refl, refl); behind = λ q. (refl, refl, refl, refl, refl, refl, refl); names = λ q l u. (refl, tt); pairs = refl; law = λ q l u. tt; throws = refl }

pub known_body_open : (o : Outer) (h : Head) (ns : List Name) → Known false false false (place o (at.BodyOpen h ns))
known_body_open o h ns = record { here = None; statement = refl; expression = refl; operand = refl; declared = refl; parameter = refl; key = refl; later = refl; on_line = λ q. (refl, refl, refl, refl, refl, refl, refl); behind = λ q. (refl, refl, refl, refl, refl, refl, refl); names = λ q l u. (refl, tt); pairs = refl; law = λ q l u. tt; throws = refl }

pub known_declared_name : (o : Outer) (d : Declared) → Known false false false (place o (at.DeclaredName d))
known_declared_name o d = record { here = (Some spot.DeclaredName); statement = refl; expression = refl; operand = refl; declared = refl; parameter = refl; key = refl; later = refl; on_line = λ q. (refl, refl, refl, refl, refl, refl, refl); behind = λ q. (refl, refl, refl, refl, refl, refl, refl); names = λ q l u. tt; pairs = refl; law = λ q l u. refl; throws = refl }

pub known_opening : (o : Outer) (x : Opening) → Known false false false (place o (at.Opening x))
known_opening o x = record { here = None; statement = refl; expression = refl; operand = refl; declared = refl; parameter = refl; key = refl; later = refl; on_line = λ q. (refl, refl, refl, refl, refl, refl, refl); behind = λ q. (refl, refl, refl, refl, refl, refl, refl); names = λ q l u. (refl, tt); pairs = refl; law = λ q l u. tt; throws = refl }

pub known_for_head : (o : Outer) → Known false false false (place o at.ForHead)
known_for_head o = record { here = (Some spot.ExpressionBegin); statement = refl; expression = refl; operand = refl; declared = refl; parameter = refl; key = refl; later = refl; on_line = λ q. (refl, refl, refl, refl, refl, refl, refl); behind = λ q. (refl, refl, refl, refl, refl, refl, refl); names = λ q l u. begin_safe _ (name q u) (is_async u); pairs = refl; law = λ q l u. law_begin false _ (name q u) (is_async u) refl; throws = refl }

pub known_for_test : (o : Outer) (b : ForBegin) → Known false false false (place o (at.ForTest b))
known_for_test o b = record { here = (Some spot.ExpressionBegin); statement = refl; expression = refl; operand = refl; declared = refl; parameter = refl; key = refl; later = refl; on_line = λ q. (refl, refl, refl, refl, refl, refl, refl); behind = λ q. (refl, refl, refl, refl, refl, refl, refl); names = λ q l u. begin_safe _ (name q u) (is_async u); pairs = refl; law = λ q l u. law_begin false _ (name q u) (is_async u) refl; throws = refl }

pub known_for_update : (o : Outer) (b : ForBegin) (test : Option Expr) → Known false false false (place o (at.ForUpdate b test))
known_for_update o b test = record { here = (Some spot.ExpressionBegin); statement = refl; expression = refl; operand = refl; declared = refl; parameter = refl; key = refl; later = refl; on_line = λ q. (refl, refl, refl, refl, refl, refl, refl); behind = λ q. (refl, refl, refl, refl, refl, refl, refl); names = λ q l u. begin_safe _ (name q u) (is_async u); pairs = refl; law = λ q l u. law_begin false _ (name q u) (is_async u) refl; throws = refl }

pub known_try_open : (o : Outer) → Known false false false (place o at.TryOpen)
known_try_open o = record { here = None; statement = refl; expression = refl; operand = refl; declared = refl; parameter = refl; key = refl; later = refl; on_line = λ q. (refl, refl, refl, refl, refl, refl, refl); behind = λ q. (refl, refl, refl, refl, refl, refl, refl); names = λ q l u. (refl, tt); pairs = refl; law = λ q l u. tt; throws = refl }

pub known_after_try : (brace : Bool) (o : Outer) (ss : List Stmt) → Known brace false false (place o (at.AfterTry ss))
known_after_try brace o ss = record { here = None; statement = refl; expression = refl; operand = refl; declared = refl; parameter = refl; key = refl; later = refl; on_line = λ q. (refl, refl, refl, refl, refl, refl, refl); behind = λ q. (refl, refl, refl, refl, refl, refl, refl); names = λ q l u. (refl, tt); pairs = refl; law = λ q l u. tt; throws = refl }

pub known_catch_open : (o : Outer) (ss : List Stmt) → Known false false false (place o (at.CatchOpen ss))
known_catch_open o ss = record { here = None; statement = refl; expression = refl; operand = refl; declared = refl; parameter = refl; key = refl; later = refl; on_line = λ q. (refl, refl, refl, refl, refl, refl, refl); behind = λ q. (refl, refl, refl, refl, refl, refl, refl); names = λ q l u. (refl, tt); pairs = refl; law = λ q l u. tt; throws = refl }

pub known_catch_name : (o : Outer) (ss : List Stmt) → Known false false false (place o (at.CatchName ss))
known_catch_name o ss = record { here = (Some spot.DeclaredName); statement = refl; expression = refl; operand = refl; declared = refl; parameter = refl; key = refl; later = refl; on_line = λ q. (refl, refl, refl, refl, refl, refl, refl); behind = λ q. (refl, refl, refl, refl, refl, refl, refl); names = λ q l u. tt; pairs = refl; law = λ q l u. refl; throws = refl }

pub known_catch_close : (o : Outer) (ss : List Stmt) (n : Name) → Known false false false (place o (at.CatchClose ss n))
known_catch_close o ss n = record { here = None; statement = refl; expression = refl; operand = refl; declared = refl; parameter = refl; key = refl; later = refl; on_line = λ q. (refl, refl, refl, refl, refl, refl, refl); behind = λ q. (refl, refl, refl, refl, refl, refl, refl); names = λ q l u. (refl, tt); pairs = refl; law = λ q l u. tt; throws = refl }

pub known_catch_body : (o : Outer) (ss : List Stmt) (n : Name) → Known false false false (place o (at.CatchBody ss n))
known_catch_body o ss n = record { here = None; statement = refl; expression = refl; operand = refl; declared = refl; parameter = refl; key = refl; later = refl; on_line = λ q. (refl, refl, refl, refl, refl, refl, refl); behind = λ q. (refl, refl, refl, refl, refl, refl, refl); names = λ q l u. (refl, tt); pairs = refl; law = λ q l u. tt; throws = refl }

pub known_finally_open : (o : Outer) (ss : List Stmt) (c : Option Catch) → Known false false false (place o (at.FinallyOpen ss c))
known_finally_open o ss c = record { here = None; statement = refl; expression = refl; operand = refl; declared = refl; parameter = refl; key = refl; later = refl; on_line = λ q. (refl, refl, refl, refl, refl, refl, refl); behind = λ q. (refl, refl, refl, refl, refl, refl, refl); names = λ q l u. (refl, tt); pairs = refl; law = λ q l u. tt; throws = refl }

pub known_export_default : (o : Outer) → Known false false false (place o at.ExportDefault)
known_export_default o = record { here = None; statement = refl; expression = refl; operand = refl; declared = refl; parameter = refl; key = refl; later = refl; on_line = λ q. (refl, refl, refl, refl, refl, refl, refl); behind = λ q. (refl, refl, refl, refl, refl, refl, refl); names = λ q l u. (refl, tt); pairs = refl; law = λ q l u. tt; throws = refl }

pub known_export_object : (o : Outer) → Known false false false (place o at.ExportObject)
known_export_object o = record { here = None; statement = refl; expression = refl; operand = refl; declared = refl; parameter = refl; key = refl; later = refl; on_line = λ q. (refl, refl, refl, refl, refl, refl, refl); behind = λ q. (refl, refl, refl, refl, refl, refl, refl); names = λ q l u. (refl, tt); pairs = refl; law = λ q l u. tt; throws = refl }

pub known_after_export : (brace : Bool) (o : Outer) → Known brace false false (place o at.AfterExport)
known_after_export brace o = record { here = (Some spot.StatementBegin); statement = refl; expression = refl; operand = refl; declared = refl; parameter = refl; key = refl; later = refl; on_line = λ q. (refl, refl, refl, refl, refl, refl, refl); behind = λ q. (refl, refl, refl, refl, refl, refl, refl); names = λ q l u. begin_safe _ (name q u) (is_async u); pairs = refl; law = λ q l u. law_begin true _ (name q u) (is_async u) refl; throws = refl }

key_safe : (o : Outer) (xs : List Property) (n : Name) (b : Bool) → NameSafe (on_key_name o xs n b)
key_safe o xs n true = tt
key_safe o xs n false = tt

key_law : (o : Outer) (xs : List Property) (n : Name) (b : Bool) → NameLaw false (on_key_name o xs n b)
key_law o xs n true = refl
key_law o xs n false = refl

pub known_key : (o : Outer) (xs : List Property) → Known false true false (place o (at.Key xs))
known_key o xs = record { here = (Some spot.Key); statement = refl; expression = refl; operand = refl; declared = refl; parameter = refl; key = refl; later = refl; on_line = λ q. (refl, refl, refl, refl, refl, refl, refl); behind = λ q. (refl, refl, refl, refl, refl, refl, refl); names = λ q l u. key_safe o xs (name q u) (is_async u); pairs = refl; law = λ q l u. key_law o xs (name q u) (is_async u); throws = refl }

async_key_safe : (o : Outer) (xs : List Property) (n : Name) (q : ℕ) (l : Bool) (u : List ℕ) → NameSafe (place o (at.AsyncKey xs n) (tk q l (tok.Name u)))
async_key_safe o xs n q true u = (refl, tt)
async_key_safe o xs n q false u = tt

async_key_law : (o : Outer) (xs : List Property) (n : Name) (q : ℕ) (l : Bool) (u : List ℕ) → NameLaw (stands false spot.StatementBegin l (place o (at.AsyncKey xs n))) (place o (at.AsyncKey xs n) (tk q l (tok.Name u)))
async_key_law o xs n q true u = tt
async_key_law o xs n q false u = refl

pub known_async_key : (o : Outer) (xs : List Property) (n : Name) → Known false false false (place o (at.AsyncKey xs n))
known_async_key o xs n = record { here = (Some spot.Key); statement = refl; expression = refl; operand = refl; declared = refl; parameter = refl; key = refl; later = refl; on_line = λ q. (refl, refl, refl, refl, refl, refl, refl); behind = λ q. (refl, refl, refl, refl, refl, refl, refl); names = λ q l u. async_key_safe o xs n q l u; pairs = refl; law = λ q l u. async_key_law o xs n q l u; throws = refl }

pub known_cover_open : (o : Outer) (c : Cover) (ns : List Name) → Known false false false (place o (at.CoverOpen c ns))
known_cover_open o covers.Plain [] = record { here = (Some spot.ExpressionBegin); statement = refl; expression = refl; operand = refl; declared = refl; parameter = refl; key = refl; later = refl; on_line = λ q. (refl, refl, refl, refl, refl, refl, refl); behind = λ q. (refl, refl, refl, refl, refl, refl, refl); names = λ q l u. tt; pairs = refl; law = λ q l u. refl; throws = refl }
known_cover_open o covers.Plain (n ∷ ns) = record { here = (Some spot.Parameter); statement = refl; expression = refl; operand = refl; declared = refl; parameter = refl; key = refl; later = refl; on_line = λ q. (refl, refl, refl, refl, refl, refl, refl); behind = λ q. (refl, refl, refl, refl, refl, refl, refl); names = λ q l u. tt; pairs = refl; law = λ q l u. refl; throws = refl }
known_cover_open o (covers.Async n) ns = record { here = (Some spot.ExpressionBegin); statement = refl; expression = refl; operand = refl; declared = refl; parameter = refl; key = refl; later = refl; on_line = λ q. (refl, refl, refl, refl, refl, refl, refl); behind = λ q. (refl, refl, refl, refl, refl, refl, refl); names = λ q l u. tt; pairs = refl; law = λ q l u. refl; throws = refl }

throw_safe : (o : Outer) (q : ℕ) (l : Bool) (u : List ℕ) → NameSafe (place o at.Throw (tk q l (tok.Name u)))
throw_safe o q true u = tt
throw_safe o q false u = begin_safe _ (name q u) (is_async u)

throw_law : (o : Outer) (q : ℕ) (l : Bool) (u : List ℕ) → NameLaw (stands false spot.StatementBegin l (place o at.Throw)) (place o at.Throw (tk q l (tok.Name u)))
throw_law o q true u = tt
throw_law o q false u = law_begin false _ (name q u) (is_async u) refl

pub known_throw : (o : Outer) → Known false false true (place o at.Throw)
known_throw o = record { here = (Some spot.ExpressionBegin); statement = refl; expression = refl; operand = refl; declared = refl; parameter = refl; key = refl; later = refl; on_line = λ q. (refl, refl, refl, refl, refl, refl, refl); behind = λ q. (refl, refl, refl, refl, refl, refl, refl); names = λ q l u. throw_safe o q l u; pairs = refl; law = λ q l u. throw_law o q l u; throws = refl }
