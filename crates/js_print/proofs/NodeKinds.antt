-- The tokens of each node, by those of its parts, before other tokens.
use Rattle.std.proofs.Common.{◌≡◌, ℕ, ◌≤◌, ◌+◌, arith, Bool, List, [], ◌∷◌, ◌++◌, map, Option, Result, Ok, Err, OnOk, refl, sym, ap, ◌∙◌}
use Rattle.js_lex.specs.declared.token.TokenKind.TheVariants as tok
use Rattle.js_lex.specs.declared.token.Punctuator.TheVariants as p
use Rattle.js_lex.specs.declared.token.Reserved.{Reserved}
use Rattle.js_lex.specs.declared.token.Reserved.TheVariants as r
use Rattle.js_tree.specs.declared.tree.Name.{Name}
use Rattle.js_tree.specs.declared.tree.Key.{Key}
use Rattle.js_tree.specs.declared.tree.Key.TheVariants as keys
use Rattle.js_tree.specs.declared.tree.Function.{Function}
use Rattle.js_tree.specs.declared.tree.Stmt.{Stmt}
use Rattle.js_grammar.specs.Marks.{Form, just, end, deeper, on_one_line, enclosed, listed}
use Rattle.js_grammar.specs.Grammar.{Written, WrittenStmt, WrittenFunction, reserved, any_name, key, perhaps_async, name_forms, values, statements, block, parenthesized, parameters, arrow, arrow_parameters, option_value, for_head, accessed, member, index, call, conditional, function, method, body, of_function, of_stmt}
use Rattle.js_grammar.proofs.Equations as eq
use Rattle.js_print.specs.declared.piece.Piece.{Piece}
use Rattle.js_print.specs.Printed.{first_of, plain}
use Rattle.js_print.specs.Walk.{IsSplit, kinds, total}
use Rattle.js_print.proofs.PlainLaws.{Kinds, plain_then, plain_deeper, plain_line, plain_enclosed, plain_async, plain_body}

abbrev pub Tasks : Type 0
Tasks = List Piece

pub on_ok : {T E : Type 0} {A B : Type 0} (r : Result T E) → OnOk r A → (A → B) → OnOk r B
on_ok (Ok x) a f = f a
on_ok (Err e) a f = tt

pub split_as : {T E : Type 0} (r : Result T E) (old new put : Tasks) (fs : List Form) (n : ℕ) → OnOk r (new ≡ put) → plain fs ++ kinds old ≡ kinds put → total put ≤ n + total old → OnOk r (IsSplit old fs n new)
split_as r old new put fs n a same le = on_ok r a (λ e. record { same = ap kinds e ∙ sym same; heavier = omega (arith, ap total e, le) })

-- the same forms by another name, and lighter
pub seen_as : {T E : Type 0} (got : Result T E) (old new : Tasks) (fs gs : List Form) (m n : ℕ) → plain fs ≡ plain gs → m ≤ n → OnOk got (IsSplit old gs m new) → OnOk got (IsSplit old fs n new)
seen_as got old new fs gs m n e le a = on_ok got a (λ i. record { same = i.same ∙ ap (λ (x : Kinds). x ++ kinds old) (sym e); heavier = omega (arith, le, i.heavier) })

pub deeper_kinds : (n : ℕ) (fs : List Form) (ks : Kinds) → plain (deeper n fs) ++ ks ≡ plain fs ++ ks
deeper_kinds n fs ks = ap (λ (x : Kinds). x ++ ks) (plain_deeper n fs)

pub then_deeper : (fs : List Form) (n : ℕ) (gs : List Form) (ks : Kinds) → plain (fs ++ deeper n gs) ++ ks ≡ plain fs ++ (plain gs ++ ks)
then_deeper fs n gs ks = plain_then fs (deeper n gs) ks ∙ ap (λ (x : Kinds). plain fs ++ x) (deeper_kinds n gs ks)

pub member_kinds : (x : Written) (n : Name) (ks : Kinds) → plain (member x n).forms ++ ks ≡ plain x.forms ++ tok.Punctuator p.Dot ∷ tok.Name n.units ∷ ks
member_kinds x n ks = then_deeper x.forms x.accesses (deeper 1 (just p.Dot ∷ any_name n ∷ [])) ks ∙ ap (λ (y : Kinds). plain x.forms ++ y) (deeper_kinds 1 (just p.Dot ∷ any_name n ∷ []) ks)

pub index_kinds : (x k : Written) (ks : Kinds) → plain (index x k).forms ++ ks ≡ plain x.forms ++ tok.Punctuator p.OpenBracket ∷ (plain k.forms ++ tok.Punctuator p.CloseBracket ∷ ks)
index_kinds x k ks = then_deeper x.forms x.accesses (enclosed p.OpenBracket k.forms p.CloseBracket) ks ∙ ap (λ (y : Kinds). plain x.forms ++ y) (plain_enclosed p.OpenBracket k.forms p.CloseBracket ks)

pub call_kinds : (x : Written) (xs : List Written) (ks : Kinds) → plain (call x xs).forms ++ ks ≡ plain x.forms ++ tok.Punctuator p.OpenParen ∷ (plain (listed (values xs)) ++ tok.Punctuator p.CloseParen ∷ ks)
call_kinds x xs ks = then_deeper x.forms x.accesses (parenthesized (listed (values xs))) ks ∙ ap (λ (y : Kinds). plain x.forms ++ y) (plain_enclosed p.OpenParen (listed (values xs)) p.CloseParen ks)

pub conditional_kinds : (t x y : Written) (ks : Kinds) → plain (conditional t x y) ++ ks ≡ plain t.forms ++ tok.Punctuator p.Question ∷ (plain x.forms ++ tok.Punctuator p.Colon ∷ (plain y.forms ++ ks))
conditional_kinds t x y ks =
    let a = just p.Question ∷ x.forms in
    let b = just p.Colon ∷ y.forms in
    plain_then t.forms (deeper 1 a ++ deeper 1 b) ks ∙ ap (λ (z : Kinds). plain t.forms ++ z) (then_deeper (deeper 1 a) 1 b ks ∙ deeper_kinds 1 a (plain b ++ ks))

same_async : (f : Function) → (of_function f).is_async ≡ f.is_async
same_async f = ap (λ (w : WrittenFunction). w.is_async) (eq.written_function f)

pub function_kinds : (f : Function) (named : List Form) (ks : Kinds) → plain (function named (of_function f)) ++ ks ≡ plain (perhaps_async f.is_async []) ++ tok.Reserved r.Function ∷ (plain named ++ (plain (of_function f).forms ++ ks))
function_kinds f named ks =
    plain_async (of_function f).is_async (reserved r.Function ∷ (named ++ (of_function f).forms)) ks
    ∙ ap (λ (b : Bool). plain (perhaps_async b []) ++ tok.Reserved r.Function ∷ (plain (named ++ (of_function f).forms) ++ ks)) (same_async f)
    ∙ ap (λ (x : Kinds). plain (perhaps_async f.is_async []) ++ tok.Reserved r.Function ∷ x) (plain_then named (of_function f).forms ks)

pub arrow_kinds : (a : Bool) (ns : List Name) (fs : List Form) (ks : Kinds) → plain (arrow a ns fs) ++ ks ≡ plain (perhaps_async a []) ++ (plain (arrow_parameters ns) ++ (plain fs ++ ks))
arrow_kinds a ns fs ks = plain_then (perhaps_async a (arrow_parameters ns)) fs ks ∙ plain_async a (arrow_parameters ns) (plain fs ++ ks)

pub key_kinds : (k : Key) (xs ks : Kinds) → first_of (key k) ++ xs ++ ks ≡ plain (key k ∷ []) ++ (xs ++ ks)
key_kinds (keys.Name n) xs ks = refl
key_kinds (keys.Text u) xs ks = refl
key_kinds (keys.Number n) xs ks = refl

pub method_kinds : (k : Key) (f : Function) (ks : Kinds) → plain (method k (of_function f)) ++ ks ≡ plain (perhaps_async f.is_async []) ++ (plain (key k ∷ []) ++ (plain (of_function f).forms ++ ks))
method_kinds k f ks =
    plain_async (of_function f).is_async (key k ∷ (of_function f).forms) ks
    ∙ ap (λ (b : Bool). plain (perhaps_async b []) ++ (plain (key k ∷ (of_function f).forms) ++ ks)) (same_async f)
    ∙ ap (λ (x : Kinds). plain (perhaps_async f.is_async []) ++ x) (key_kinds k (plain (of_function f).forms) ks)

-- a word, something in parentheses and a body
pub headed_kinds : (w : Reserved) (fs : List Form) (s : WrittenStmt) (gs : List Form) (ks : Kinds) → plain (reserved w ∷ (parenthesized fs ++ (body s ++ gs))) ++ ks ≡ tok.Reserved w ∷ tok.Punctuator p.OpenParen ∷ (plain fs ++ tok.Punctuator p.CloseParen ∷ (plain s.forms ++ (plain gs ++ ks)))
headed_kinds w fs s gs ks = ap (λ (x : Kinds). tok.Reserved w ∷ x)
    (plain_then (parenthesized fs) (body s ++ gs) ks
    ∙ ap (λ (x : Kinds). plain (parenthesized fs) ++ x) (plain_then (body s) gs ks ∙ ap (λ (x : Kinds). x ++ (plain gs ++ ks)) (plain_body s))
    ∙ plain_enclosed p.OpenParen fs p.CloseParen (plain s.forms ++ (plain gs ++ ks)))

pub headed_body : (w : Reserved) (fs : List Form) (s : WrittenStmt) (ks : Kinds) → plain (reserved w ∷ (parenthesized fs ++ body s)) ++ ks ≡ tok.Reserved w ∷ tok.Punctuator p.OpenParen ∷ (plain fs ++ tok.Punctuator p.CloseParen ∷ (plain s.forms ++ ks))
headed_body w fs s ks = ap (λ (x : Kinds). tok.Reserved w ∷ x)
    (plain_then (parenthesized fs) (body s) ks
    ∙ ap (λ (x : Kinds). plain (parenthesized fs) ++ (x ++ ks)) (plain_body s)
    ∙ plain_enclosed p.OpenParen fs p.CloseParen (plain s.forms ++ ks))

head_kinds : (fs : List Form) (t u : Option Written) (ks : Kinds) → plain (for_head fs t u) ++ ks ≡ plain fs ++ tok.Punctuator p.Semicolon ∷ (plain (option_value t) ++ tok.Punctuator p.Semicolon ∷ (plain (option_value u) ++ ks))
head_kinds fs t u ks =
    plain_then fs (just p.Semicolon ∷ (option_value t ++ just p.Semicolon ∷ option_value u)) ks
    ∙ ap (λ (x : Kinds). plain fs ++ tok.Punctuator p.Semicolon ∷ x) (plain_then (option_value t) (just p.Semicolon ∷ option_value u) ks)

pub for_kinds : (fs : List Form) (t u : Option Written) (s : WrittenStmt) (ks : Kinds) → plain (reserved r.For ∷ (parenthesized (for_head fs t u) ++ body s)) ++ ks ≡ tok.Reserved r.For ∷ tok.Punctuator p.OpenParen ∷ (plain fs ++ tok.Punctuator p.Semicolon ∷ (plain (option_value t) ++ tok.Punctuator p.Semicolon ∷ (plain (option_value u) ++ tok.Punctuator p.CloseParen ∷ (plain s.forms ++ ks))))
for_kinds fs t u s ks = headed_body r.For (for_head fs t u) s ks ∙ ap (λ (x : Kinds). tok.Reserved r.For ∷ tok.Punctuator p.OpenParen ∷ x) (head_kinds fs t u (tok.Punctuator p.CloseParen ∷ (plain s.forms ++ ks)))

-- a word, what follows it on its line, and the end
pub line_kinds : (w : Reserved) (fs : List Form) (ks : Kinds) → tok.Reserved w ∷ (plain (on_one_line fs ++ end ∷ []) ++ ks) ≡ tok.Reserved w ∷ (plain fs ++ tok.Punctuator p.Semicolon ∷ ks)
line_kinds w fs ks = ap (λ (x : Kinds). tok.Reserved w ∷ x) (plain_then (on_one_line fs) (end ∷ []) ks ∙ ap (λ (x : Kinds). x ++ tok.Punctuator p.Semicolon ∷ ks) (plain_line fs))

-- a block before other forms
pub block_kinds : (ss : List WrittenStmt) (fs : List Form) (ks : Kinds) → plain (block ss ++ fs) ++ ks ≡ tok.Punctuator p.OpenBrace ∷ (plain (statements ss) ++ tok.Punctuator p.CloseBrace ∷ (plain fs ++ ks))
block_kinds ss fs ks = plain_then (block ss) fs ks ∙ plain_enclosed p.OpenBrace (statements ss) p.CloseBrace (plain fs ++ ks)

pub try_kinds : (ss : List WrittenStmt) (fs gs : List Form) (ks : Kinds) → plain (reserved r.Try ∷ (block ss ++ (fs ++ gs))) ++ ks ≡ tok.Reserved r.Try ∷ tok.Punctuator p.OpenBrace ∷ (plain (statements ss) ++ tok.Punctuator p.CloseBrace ∷ (plain fs ++ (plain gs ++ ks)))
try_kinds ss fs gs ks = ap (λ (x : Kinds). tok.Reserved r.Try ∷ x) (block_kinds ss (fs ++ gs) ks ∙ ap (λ (x : Kinds). tok.Punctuator p.OpenBrace ∷ (plain (statements ss) ++ tok.Punctuator p.CloseBrace ∷ x)) (plain_then fs gs ks))

-- the parameters and the body of a function
pub called_kinds : (f : Function) (ks : Kinds) → plain (of_function f).forms ++ ks ≡ tok.Punctuator p.OpenParen ∷ (plain (listed (map name_forms f.parameters)) ++ tok.Punctuator p.CloseParen ∷ tok.Punctuator p.OpenBrace ∷ (plain (statements (map of_stmt f.body)) ++ tok.Punctuator p.CloseBrace ∷ ks))
called_kinds f ks =
    ap (λ (w : WrittenFunction). plain w.forms ++ ks) (eq.written_function f)
    ∙ plain_then (parameters f.parameters) (block (map of_stmt f.body)) ks
    ∙ plain_enclosed p.OpenParen (listed (map name_forms f.parameters)) p.CloseParen (plain (block (map of_stmt f.body)) ++ ks)
    ∙ ap (λ (x : Kinds). tok.Punctuator p.OpenParen ∷ (plain (listed (map name_forms f.parameters)) ++ tok.Punctuator p.CloseParen ∷ x)) (plain_enclosed p.OpenBrace (statements (map of_stmt f.body)) p.CloseBrace ks)
