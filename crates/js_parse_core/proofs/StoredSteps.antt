-- Each step, and each run, stores the counts of what it has read.
use Rattle.js_lex.specs.declared.token.Punctuator.{Punctuator}
use Rattle.js_lex.specs.declared.token.Reserved.{Reserved}
use Rattle.js_lex.specs.declared.token.Token.{Token}
use Rattle.js_lex.specs.declared.token.TokenKind.{TokenKind}
use Rattle.js_parse_core.specs.Expressions.{after_operand, declares_async, async_kind, after_async, as_values, uncovered, uncover, has_none, may_be_values, on_cover_other, on_cover_kind, after_name, on_cover_name, is_async_cover, only_name, group_of, covered_value, arrow_value, on_arrow_body, on_new, member_of, callee_accesses, on_argument}
use Rattle.js_parse_core.specs.Machine.{step_in, is_shallow, if_shallow, step, start}
use Rattle.js_parse_core.specs.Objects.{close_object, on_key_name, on_key_sign, on_found_key, on_key, on_other_key, on_name_key, on_async_name, on_async_found, on_function_name, on_parameters, on_parameter_read, head_constructs, on_body_open}
use Rattle.js_parse_core.specs.Outer.{Step, because, refuse, to, framed, opened, push, plus, constructs, wait, wait_body, open_block, complete, settle, refuse_at, without, first_frame, in_body, begins_statement, is_whole}
use Rattle.js_parse_core.specs.Tokens.{is_async, is_close_paren, is_open_paren, is_open_brace, is_close_bracket, is_comma, is_arrow, is_close_brace, is_open_bracket, is_semicolon, is_equal, is_else, is_finally, is_default, is_of, may_end}
use Rattle.js_parse_core.specs.Values.{call}
use Rattle.js_parse_core.specs.declared.machine.At.{At}
use Rattle.js_parse_core.specs.declared.machine.Block.{Block}
use Rattle.js_parse_core.specs.declared.machine.Callee.{Callee}
use Rattle.js_parse_core.specs.declared.machine.Cover.{Cover}
use Rattle.js_parse_core.specs.declared.machine.Declared.{Declared}
use Rattle.js_parse_core.specs.declared.machine.Frame.{Frame}
use Rattle.js_parse_core.specs.declared.machine.Head.{Head}
use Rattle.js_parse_core.specs.declared.machine.Open.{Open}
use Rattle.js_parse_core.specs.declared.machine.Opening.{Opening}
use Rattle.js_parse_core.specs.declared.machine.Outer.{Outer}
use Rattle.js_parse_core.specs.declared.machine.State.{State}
use Rattle.js_tree.specs.declared.tree.DeclareKind.{DeclareKind}
use Rattle.js_tree.specs.declared.tree.Expr.{Expr}
use Rattle.js_tree.specs.declared.tree.Key.{Key}
use Rattle.js_tree.specs.declared.tree.Name.{Name}
use Rattle.js_tree.specs.declared.tree.Property.{Property}
use Rattle.js_tree.specs.declared.tree.Stmt.{Stmt}
use Rattle.std.proofs.Common.{◌≡◌, ℕ, ◌+◌, Bool, true, false, List, [], ◌∷◌, Option, Some, None, refl, sym, ◌∙◌, ap, subst, arith, Ok, Err, cond, ◌++◌}
use Rattle.js_lex.specs.declared.token.Punctuator.TheVariants as p
use Rattle.js_lex.specs.declared.token.Reserved.TheVariants as r
use Rattle.js_lex.specs.declared.token.TokenKind.TheVariants as tok
use Rattle.js_parse_core.specs.Objects.{key as key_of}
use Rattle.js_parse_core.specs.Tokens.{any_name as any_named}
use Rattle.js_parse_core.specs.Tokens.{name as named}
use Rattle.js_parse_core.specs.declared.machine.At.TheVariants as at
use Rattle.js_parse_core.specs.declared.machine.Block.TheVariants as block
use Rattle.js_parse_core.specs.declared.machine.Body.TheVariants as body
use Rattle.js_parse_core.specs.declared.machine.Callee.TheVariants as callee
use Rattle.js_parse_core.specs.declared.machine.Cover.TheVariants as covers
use Rattle.js_parse_core.specs.declared.machine.Frame.TheVariants as frame
use Rattle.js_parse_core.specs.declared.machine.Head.TheVariants as head
use Rattle.js_parse_core.specs.declared.machine.Opening.TheVariants as opening
use Rattle.js_parse_core.specs.declared.machine.Purpose.TheVariants as purpose
use Rattle.js_parse_core.specs.declared.machine.Refusal.TheVariants as refusal
use Rattle.js_parse_core.specs.declared.machine.Tail.TheVariants as tail
use Rattle.js_tree.specs.declared.tree.DeclareKind.TheVariants as declare
use Rattle.js_tree.specs.declared.tree.Expr.TheVariants as expr
use Rattle.js_tree.specs.declared.tree.ForBegin.TheVariants as for_begin
use Rattle.js_tree.specs.declared.tree.Key.TheVariants as keys
use Rattle.js_tree.specs.declared.tree.Property.TheVariants as property
use Rattle.js_tree.specs.declared.tree.Stmt.TheVariants as stmt
use Rattle.js_words.specs.declared.word.Spot.TheVariants as spot
use Rattle.std.specs.Prelude.{◌&&◌, ◌||◌, not, nat_le, drop}
use Rattle.js_parse_core.specs.Begin.{operand, begin}
use Rattle.js_grammar.specs.Marks.{Piece, Read, Ended}
use Rattle.js_parse_core.proofs.Pieces.{no_limit, end_token, is_between, is_last, take}
use Rattle.js_parse_core.proofs.CountedForms.{accesses, accesses_call, accesses_member}
use Rattle.js_parse_core.specs.Machine.{more_constructs}
use Rattle.js_parse_core.proofs.CountedSpelled.{at_level, callee_level, declared_level, head_level, plain_level, levels, level}
use Rattle.js_parse_core.proofs.CountedChains.{plain_name, plain_array, plain_function_expr, plain_group}
use Rattle.js_parse_core.proofs.Stored.{Stores, stores_same, plus_stores, stores_more, stores_is, CalleeStored, AllStored, Here, here_stores, AtStored, Stored, StoredStep, stored_cond, pushed, one_more, no_more, access_stores, operand_stored, begin_stored, flat_name, flat_array, flat_function_expr, flat_group, flat_call, flat_member}
use Rattle.js_parse_core.specs.Statements.{end as end_of}
use Rattle.js_parse_core.specs.Statements.{is_top, not_in_body, declares, expression_statement, begin_by_word, block_constructs, function, close_function, close, close_frame, begin_by_sign, on_statement_kind, on_statement, to_else, else_behind, statement_behind, resume, open_head, on_for_kind, on_declared_name, declared_in, on_bare_name, without_value, is_first, after_try, on_catch, on_catch_name, with_declaration}
use Rattle.js_parse_core.proofs.StoredValues.{stays, waits, bodies, within, dropped, complete_stored, settle_in_stored, end_stored, object_stored, call_stored, whole_stored, after_value_stored, after_operand_stored}

-- ---- a block ends

close_function_stored : (o : Outer) (h : Head) (ns : List Name) (ss : List Stmt) → Here o → StoredStep (close_function o h ns ss)
close_function_stored o (head.Declaration a n) ns ss k = complete_stored o _ k
close_function_stored o (head.Expression a n) ns ss k = operand_stored o _ k (plain_function_expr n (function a ns ss)) (flat_function_expr n (function a ns ss))
close_function_stored o (head.Method a xs key) ns ss k = stays o _ k tt

close_stored : (o : Outer) (b : Block) (ss : List Stmt) → Here o → StoredStep (close o b ss)
close_stored o block.Plain ss h = complete_stored o _ h
close_stored o (block.Function x ns) ss h = close_function_stored o x ns ss h
close_stored o (block.Arrow a ns) ss h = stays o _ h tt
close_stored o block.Try ss h = stays o _ h tt
close_stored o (block.Catch tried n) ss h = stays o _ h tt
close_stored o (block.Finally tried c) ss h = complete_stored o _ h

close_block_stored : (o : Outer) (fs : List Open) → AllStored fs → StoredStep (close_frame (framed o (drop 1 fs)) (first_frame fs))
close_block_stored o [] h = tt
close_block_stored o (f ∷ fs) h = in_frame f.frame
  where
    in_frame : (g : Frame) → StoredStep (close_frame (framed o fs) (Some g))
    in_frame (frame.Block b ss) = close_stored (framed o fs) b ss h.2
    in_frame _ = tt

-- ---- a statement begins

plain_stored : (o : Outer) → Here o → StoredStep (open_block o (block_constructs (in_body o)) block.Plain)
plain_stored o h = record { frames = pushed o (frame.Block block.Plain []) (plus (constructs o) (block_constructs (in_body o))) h (counted (in_body o)) tt; here = tt }
  where
    counted : (b : Bool) → Stores (plus (constructs o) (block_constructs b)) (plain_level (levels o.frames) b)
    counted true = no_more o h
    counted false = one_more o h

expression_stored : (o : Outer) (t : Token) → Here o → StoredStep (expression_statement o t)
expression_stored o t h = within o 0 purpose.Statement t h (no_more o h) tt

place_stored : (o : Outer) (a : At) → Here o → AtStored a → StoredStep (not_in_body o a)
place_stored o a h k = stored_cond (in_body o) (refuse_at spot.StatementBegin) (to o a) tt (stays o a h k)

word_stored : (o : Outer) (t : Token) (x : Reserved) → Here o → StoredStep (begin_by_word o t x)
word_stored o t r.If h = stays o _ h tt
word_stored o t r.While h = stays o _ h tt
word_stored o t r.For h = stays o _ h tt
word_stored o t r.Break h = stays o _ h tt
word_stored o t r.Continue h = stays o _ h tt
word_stored o t r.Return h = stays o _ h tt
word_stored o t r.Throw h = stays o _ h tt
word_stored o t r.Try h = stays o _ h tt
word_stored o t r.Function h = place_stored o (at.FunctionName true false) h tt
word_stored o t r.Export h = stored_cond (is_top o.frames && not o.exported) (to o at.ExportDefault) (refuse_at spot.StatementBegin) (stays o _ h tt) tt
word_stored o t r.Let h = place_stored o (at.DeclaredName (declares declare.Let false)) h tt
word_stored o t r.Const h = place_stored o (at.DeclaredName (declares declare.Const false)) h tt
word_stored o t _ h = expression_stored o t h

sign_stored : (o : Outer) (t : Token) (s : Punctuator) → Here o → StoredStep (begin_by_sign o t s)
sign_stored o t p.OpenBrace h = plain_stored o h
sign_stored o t p.CloseBrace h = close_block_stored o o.frames h
sign_stored o t p.Semicolon h = complete_stored o _ h
sign_stored o t _ h = expression_stored o t h

kind_stored : (o : Outer) (t : Token) (k : TokenKind) → Here o → StoredStep (on_statement_kind o t k)
kind_stored o t (tok.Punctuator s) h = sign_stored o t s h
kind_stored o t (tok.Reserved x) h = word_stored o t x h
kind_stored o t tok.End h = stored_cond (is_top o.frames) (to o at.Statement) (refuse_at spot.StatementBegin) (stays o _ h tt) tt
kind_stored o t _ h = expression_stored o t h

statement_stored : (o : Outer) (t : Token) → Here o → StoredStep (on_statement o t)
statement_stored o t h = kind_stored o t t.kind h

-- ---- behind a statement

to_else_stored : (o : Outer) (a : At) → Here o → StoredStep (to_else o a)
to_else_stored o (at.AfterThen test s) h = bodies o (body.Else test s) h
to_else_stored o _ h = tt

else_stored : (x : Step) → StoredStep x → StoredStep (else_behind x)
else_stored (Ok n) h = to_else_stored n.outer n.at h.frames
else_stored (Err k) h = tt

behind_stored : (x : Step) (t : Token) → StoredStep x → StoredStep (statement_behind x t)
behind_stored (Ok n) t h = statement_stored n.outer t h.frames
behind_stored (Err k) t h = tt

resume_stored : (o : Outer) (s : Stmt) (t : Token) → Here o → StoredStep (resume o s t)
resume_stored o s t h = stored_cond (is_else t.kind) (else_behind (complete o s)) (statement_behind (settle o s) t) (else_stored (complete o s) (complete_stored o s h)) (behind_stored (settle o s) t (settle_in_stored o o.frames s h))

-- ---- heads

open_head_stored : (o : Outer) (x : Opening) → Here o → StoredStep (open_head o x)
open_head_stored o opening.If h = waits o purpose.If h refl tt
open_head_stored o opening.While h = waits o purpose.While h refl tt
open_head_stored o opening.For h = stays o _ h tt

for_kind_stored : (o : Outer) (t : Token) (k : TokenKind) → Here o → StoredStep (on_for_kind o t k)
for_kind_stored o t (tok.Reserved r.Let) h = stays o _ h tt
for_kind_stored o t (tok.Reserved r.Const) h = stays o _ h tt
for_kind_stored o t (tok.Punctuator p.Semicolon) h = stays o _ h tt
for_kind_stored o t _ h = within o 1 purpose.ForStart t h (one_more o h) tt

block_stored : (o : Outer) (b : Block) → Here o → Stores (plus (constructs o) 1) (levels (opened 0 (frame.Block b []) ∷ o.frames)) → StoredStep (open_block o 1 b)
block_stored o b h s = record { frames = pushed o (frame.Block b []) (plus (constructs o) 1) h s tt; here = tt }

-- ---- declarations

declared_in_stored : (o : Outer) (d : Declared) (t : Token) (b : Bool) → Here o → StoredStep (declared_in false o d t b)
declared_in_stored o d t true h = stored_cond (is_semicolon t.kind) (to o (at.ForTest (for_begin.Declarations d.kind d.declarations))) refuse (stays o _ h tt) tt
declared_in_stored o d t false h = end_stored o _ t _ h

bare_name_stored : (o : Outer) (d : Declared) (t : Token) → Here o → StoredStep (on_bare_name false o d t)
bare_name_stored o d t h = stored_cond (is_comma t.kind) (to o (at.DeclaredName d)) (declared_in false o d t d.in_for) (stays o _ h tt) (declared_in_stored o d t d.in_for h)

without_value_stored : (o : Outer) (d : Declared) (n : Name) (t : Token) (k : DeclareKind) → Here o → StoredStep (without_value false o d n t k)
without_value_stored o d n t declare.Let h = bare_name_stored o (with_declaration d n None) t h
without_value_stored o d n t declare.Const h = tt

initial_stored : (o : Outer) (d : Declared) (n : Name) → Here o → StoredStep (wait o (cond d.in_for 1 0) (purpose.Initial d n))
initial_stored o d n h = record { frames = pushed o (frame.Purpose (purpose.Initial d n)) (plus (constructs o) (cond d.in_for 1 0)) h (counted d.in_for) tt; here = tt }
  where
    counted : (b : Bool) → Stores (plus (constructs o) (cond b 1 0)) (declared_level (levels o.frames) b)
    counted true = one_more o h
    counted false = no_more o h

-- ---- names in brackets

uncovered_stored : (o : Outer) (c : Cover) (ns : List Name) → Here o → Here (uncover o c ns)
uncovered_stored o covers.Plain ns h = pushed o (frame.Purpose purpose.Group) (plus (constructs o) 1) h (one_more o h) tt
uncovered_stored o (covers.Async m) ns h =
    let k : Stores 0 (accesses (expr.Name m)) = subst (Stores 0) (sym (plain_name m)) (stores_same 0) in
    pushed o (frame.Purpose (uncovered (covers.Async m) ns)) (plus (constructs o) 1) h (access_stores o 0 (expr.Name m) h k) k

operand_name_stored : (o : Outer) (n : Name) (t : Token) → Here o → StoredStep (after_operand false o (expr.Name n) 0 t)
operand_name_stored o n t h = after_operand_stored o (expr.Name n) 0 t h (subst (Stores 0) (sym (plain_name n)) (stores_same 0)) (flat_name n)

without_stored : (o : Outer) → Here o → Here (without o)
without_stored o h = dropped o.frames h

async_kind_stored : (o : Outer) (n : Name) (t : Token) (k : TokenKind) → Here o → StoredStep (async_kind false o n t k)
async_kind_stored o n t (tok.Reserved r.Function) h =
    stored_cond (begins_statement o) (declares_async (without o)) (to o (at.FunctionName false true))
    (stored_cond (in_body (without o)) refuse (to (without o) (at.FunctionName true true)) tt (stays (without o) _ (without_stored o h) tt)) (stays o _ h tt)
async_kind_stored o n t (tok.Name u) h = stored_cond (is_whole o) (to o (at.Arrow true (named t.place u ∷ []))) (after_operand false o (expr.Name n) 0 t) (stays o _ h tt) (operand_name_stored o n t h)
async_kind_stored o n t (tok.Punctuator p.OpenParen) h =
    stored_cond (is_whole o) (to o (at.CoverOpen (covers.Async n) [])) (to o (at.NextArgument (callee.Value (expr.Name n) 0) [])) (stays o _ h tt) (stays o (at.NextArgument (callee.Value (expr.Name n) 0) []) h (subst (Stores 0) (sym (plain_name n)) (stores_same 0)))
async_kind_stored o n t _ h = operand_name_stored o n t h

async_stored : (o : Outer) (n : Name) (t : Token) → Here o → StoredStep (after_async false o n t)
async_stored o n t h = stored_cond t.after_line_end (after_operand false o (expr.Name n) 0 t) (async_kind false o n t t.kind) (operand_name_stored o n t h) (async_kind_stored o n t t.kind h)

cover_other_stored : (o : Outer) (c : Cover) (ns : List Name) (t : Token) → Here o → StoredStep (on_cover_other o c ns t)
cover_other_stored o c ns t h =
    stored_cond (is_close_paren t.kind) (to o (at.Covered c ns false)) (cond (may_be_values c ns) (begin (uncover o c ns) t) (refuse_at spot.Parameter)) (stays o _ h tt)
    (stored_cond (may_be_values c ns) (begin (uncover o c ns) t) (refuse_at spot.Parameter) (begin_stored (uncover o c ns) t (uncovered_stored o c ns h)) tt)

cover_kind_stored : (o : Outer) (c : Cover) (ns : List Name) (t : Token) (k : TokenKind) → Here o → StoredStep (on_cover_kind o c ns t k)
cover_kind_stored o c ns t (tok.Name u) h = stays o _ h tt
cover_kind_stored o c ns t _ h = cover_other_stored o c ns t h

after_name_stored : (o : Outer) (n : Name) (t : Token) → Here o → StoredStep (after_name false o n t)
after_name_stored o n t h = stored_cond (is_async n.units) (after_async false o n t) (after_operand false o (expr.Name n) 0 t) (async_stored o n t h) (operand_name_stored o n t h)

cover_name_stored : (o : Outer) (c : Cover) (ns : List Name) (n : Name) (t : Token) → Here o → StoredStep (on_cover_name false o c ns n t)
cover_name_stored o c ns n t h =
    let values : Step = cond (may_be_values c ns) (after_name false (uncover o c ns) n t) (refuse_at spot.Parameter) in
    stored_cond (is_comma t.kind) (to o (at.CoverOpen c (ns ++ n ∷ []))) (cond (is_close_paren t.kind) (to o (at.Covered c (ns ++ n ∷ []) (has_none ns))) values) (stays o _ h tt)
    (stored_cond (is_close_paren t.kind) (to o (at.Covered c (ns ++ n ∷ []) (has_none ns))) values (stays o _ h tt)
    (stored_cond (may_be_values c ns) (after_name false (uncover o c ns) n t) (refuse_at spot.Parameter) (after_name_stored (uncover o c ns) n t (uncovered_stored o c ns h)) tt))

group_stored : (o : Outer) (t : Token) (n : Option Name) → Here o → StoredStep (group_of false o t n)
group_stored o t (Some n) h = after_operand_stored o (expr.Group (expr.Name n)) 0 t h (subst (Stores 0) (sym (plain_group (expr.Name n))) (stores_same 0)) (flat_group (expr.Name n))
group_stored o t None h = tt

covered_value_stored : (o : Outer) (c : Cover) (ns : List Name) (b : Bool) (t : Token) → Here o → StoredStep (covered_value false o c ns b t)
covered_value_stored o (covers.Async n) ns b t h =
    after_operand_stored o (expr.Call (expr.Name n) (as_values ns)) 1 t h (subst (Stores 1) (sym (accesses_call (expr.Name n) (as_values ns) ∙ ap (λ (z : ℕ). z + 1) (plain_name n))) (stores_same 1)) (flat_call (expr.Name n) (as_values ns))
covered_value_stored o covers.Plain ns true t h = group_stored o t (only_name ns) h
covered_value_stored o covers.Plain ns false t h = tt

arrow_body_stored : (most : ℕ) (o : Outer) (a : Bool) (ns : List Name) (t : Token) → Here o → StoredStep (on_arrow_body most o a ns t)
arrow_body_stored most o a ns t h =
    stored_cond (is_open_brace t.kind) (open_block o 1 (block.Arrow a ns)) (arrow_value (nat_le most (constructs o)) (begin (push o 1 (frame.Tail (tail.Arrow a ns))) t))
    (block_stored o (block.Arrow a ns) h (one_more o h))
    (valued (nat_le most (constructs o)) (begin (push o 1 (frame.Tail (tail.Arrow a ns))) t) (begin_stored (push o 1 (frame.Tail (tail.Arrow a ns))) t (pushed o (frame.Tail (tail.Arrow a ns)) (plus (constructs o) 1) h (one_more o h) tt)))
  where
    valued : (b : Bool) (x : Step) → StoredStep x → StoredStep (arrow_value b x)
    valued true (Ok n) k = tt
    valued true (Err e) k = tt
    valued false x k = k

argument_stored : (o : Outer) (c : Callee) (xs : List Expr) (t : Token) → Here o → CalleeStored c → StoredStep (on_argument o c xs t)
argument_stored o c xs t h k =
    stored_cond (is_close_paren t.kind) (call o c xs) (begin (push o (plus (callee_accesses c) 1) (frame.Purpose (purpose.Argument c xs))) t) (call_stored o c xs h k)
    (within o (plus (callee_accesses c) 1) (purpose.Argument c xs) t h (counted c k) k)
  where
    counted : (x : Callee) → CalleeStored x → Stores (plus (constructs o) (plus (callee_accesses x) 1)) (callee_level (levels o.frames) x)
    counted (callee.Value x n) s = access_stores o n x h s
    counted (callee.New n) s = one_more o h

-- ---- objects

other_key_stored : (o : Outer) (xs : List Property) (k : Key) (x : TokenKind) → Here o → StoredStep (on_other_key o xs k x)
other_key_stored o xs k (tok.Punctuator p.Colon) h = waits o (purpose.Pair xs k) h refl tt
other_key_stored o xs k (tok.Punctuator p.OpenParen) h = stays o _ h tt
other_key_stored o xs k _ h = tt

name_key_stored : (o : Outer) (xs : List Property) (n : Name) (k : TokenKind) → Here o → StoredStep (on_name_key o xs n k)
name_key_stored o xs n k h =
    stored_cond (is_comma k) (to o (at.Key (xs ++ property.Short n ∷ []))) (cond (is_close_brace k) (close_object o (xs ++ property.Short n ∷ [])) (on_other_key o xs (keys.Name n) k)) (stays o _ h tt)
    (stored_cond (is_close_brace k) (close_object o (xs ++ property.Short n ∷ [])) (on_other_key o xs (keys.Name n) k) (object_stored o _ h) (other_key_stored o xs (keys.Name n) k h))

key_name_stored : (o : Outer) (xs : List Property) (n : Name) (b : Bool) → Here o → StoredStep (on_key_name o xs n b)
key_name_stored o xs n true h = stays o _ h tt
key_name_stored o xs n false h = stays o _ h tt

found_key_stored : (o : Outer) (xs : List Property) (k : Option Key) → Here o → StoredStep (on_found_key o xs k)
found_key_stored o xs (Some k) h = stays o _ h tt
found_key_stored o xs None h = tt

key_sign_stored : (o : Outer) (xs : List Property) (s : Punctuator) → Here o → StoredStep (on_key_sign o xs s)
key_sign_stored o xs p.CloseBrace h = object_stored o xs h
key_sign_stored o xs _ h = tt

key_stored : (o : Outer) (xs : List Property) (q : ℕ) (k : TokenKind) → Here o → StoredStep (on_key o xs q k)
key_stored o xs q (tok.Name u) h = key_name_stored o xs (named q u) (is_async u) h
key_stored o xs q (tok.Punctuator s) h = key_sign_stored o xs s h
key_stored o xs q k h = found_key_stored o xs (key_of q k) h

async_key_name_stored : (o : Outer) (xs : List Property) (n : Name) (k : TokenKind) → Here o → StoredStep (on_async_name o xs n k)
async_key_name_stored o xs n k h = stored_cond (is_open_bracket k) (refuse_at spot.Key) (on_name_key o xs n k) tt (name_key_stored o xs n k h)

async_found_stored : (o : Outer) (xs : List Property) (n : Name) (k : TokenKind) (x : Option Key) → Here o → StoredStep (on_async_found o xs n k x)
async_found_stored o xs n k (Some x) h = stays o _ h tt
async_found_stored o xs n k None h = async_key_name_stored o xs n k h

-- ---- functions

function_name_stored : (o : Outer) (d a : Bool) (q : ℕ) (k : TokenKind) → Here o → StoredStep (on_function_name o d a q k)
function_name_stored o d a q (tok.Name u) h = stays o _ h tt
function_name_stored o true a q (tok.Punctuator p.OpenParen) h = tt
function_name_stored o false a q (tok.Punctuator p.OpenParen) h = stays o _ h tt
function_name_stored o d a q _ h = tt

parameters_stored : (o : Outer) (x : Head) (ns : List Name) (q : ℕ) (k : TokenKind) → Here o → StoredStep (on_parameters o x ns q k)
parameters_stored o x ns q (tok.Name u) h = stays o _ h tt
parameters_stored o x ns q (tok.Punctuator p.CloseParen) h = stays o _ h tt
parameters_stored o x ns q _ h = tt

parameter_read_stored : (o : Outer) (x : Head) (ns : List Name) (n : Name) (k : TokenKind) → Here o → StoredStep (on_parameter_read o x ns n k)
parameter_read_stored o x ns n (tok.Punctuator p.Comma) h = stays o _ h tt
parameter_read_stored o x ns n (tok.Punctuator p.CloseParen) h = stays o _ h tt
parameter_read_stored o x ns n _ h = tt

body_open_stored : (o : Outer) (x : Head) (ns : List Name) (k : TokenKind) → Here o → StoredStep (on_body_open o x ns k)
body_open_stored o x ns k h =
    stored_cond (is_open_brace k) (open_block o (head_constructs x) (block.Function x ns)) refuse
    (record { frames = pushed o (frame.Block (block.Function x ns) []) (plus (constructs o) (head_constructs x)) h (counted x) tt; here = tt }) tt
  where
    counted : (y : Head) → Stores (plus (constructs o) (head_constructs y)) (head_level (levels o.frames) y)
    counted (head.Method a xs key) = stores_is _ _ _ (omega arith) (stores_more (constructs o) (levels o.frames) 2 (here_stores o h))
    counted (head.Declaration a n) = one_more o h
    counted (head.Expression a n) = one_more o h

member_stored : (o : Outer) (x : Expr) (n : ℕ) (m : Option Name) → Here o → Stores n (accesses x) → StoredStep (member_of o x n m)
member_stored o x n (Some m) h k = record { frames = h; here = (stores_is _ _ _ (sym (accesses_member x m)) (stores_more n (accesses x) 1 k), flat_member x m) }
member_stored o x n None h k = tt

-- ---- `try`

after_try_stored : (o : Outer) (ss : List Stmt) (k : TokenKind) → Here o → StoredStep (after_try o ss k)
after_try_stored o ss (tok.Reserved r.Catch) h = stays o _ h tt
after_try_stored o ss (tok.Reserved r.Finally) h = stays o _ h tt
after_try_stored o ss _ h = tt

catch_stored : (o : Outer) (ss : List Stmt) (k : TokenKind) → Here o → StoredStep (on_catch o ss k)
catch_stored o ss (tok.Punctuator p.OpenParen) h = stays o _ h tt
catch_stored o ss (tok.Punctuator p.OpenBrace) h = block_stored o (block.Catch ss None) h (one_more o h)
catch_stored o ss _ h = tt

catch_name_stored : (o : Outer) (ss : List Stmt) (q : ℕ) (k : TokenKind) → Here o → StoredStep (on_catch_name o ss q k)
catch_name_stored o ss q (tok.Name u) h = stays o _ h tt
catch_name_stored o ss q _ h = tt

new_stored : (o : Outer) (q : ℕ) (k : TokenKind) → Here o → StoredStep (on_new o q k)
new_stored o q (tok.Name u) h = stays o _ h tt
new_stored o q _ h = tt

declared_name_stored : (o : Outer) (d : Declared) (q : ℕ) (k : TokenKind) → Here o → StoredStep (on_declared_name o d q k)
declared_name_stored o d q (tok.Name u) h = stays o _ h tt
declared_name_stored o d q _ h = tt

-- ---- each state

in_stored : (most : ℕ) (o : Outer) (a : At) (t : Token) → Here o → AtStored a → StoredStep (step_in most false o a t)
in_stored most o at.Statement t h k = statement_stored o t h
in_stored most o at.Begin t h k = begin_stored o t h
in_stored most o (at.Operand x n) t h k = after_operand_stored o x n t h k.0 k.1
in_stored most o (at.Updated x) t h k = after_value_stored o x t h k
in_stored most o (at.Whole x) t h k = whole_stored o x t h
in_stored most o (at.Async n) t h k = async_stored o n t h
in_stored most o (at.CoverOpen c ns) t h k = cover_kind_stored o c ns t t.kind h
in_stored most o (at.CoverName c ns n) t h k = cover_name_stored o c ns n t h
in_stored most o (at.Covered c ns b) t h k = stored_cond (is_arrow t.kind && not t.after_line_end) (to o (at.ArrowBody (is_async_cover c) ns)) (covered_value false o c ns b t) (stays o _ h tt) (covered_value_stored o c ns b t h)
in_stored most o (at.Arrow a ns) t h k = stored_cond (is_arrow t.kind && not t.after_line_end) (to o (at.ArrowBody a ns)) refuse (stays o _ h tt) tt
in_stored most o (at.ArrowBody a ns) t h k = arrow_body_stored most o a ns t h
in_stored most o at.NewName t h k = new_stored o t.place t.kind h
in_stored most o (at.NewOpen n) t h k = stored_cond (is_open_paren t.kind) (to o (at.NextArgument (callee.New n) [])) refuse (stays o (at.NextArgument (callee.New n) []) h tt) tt
in_stored most o (at.MemberName x n) t h k = member_stored o x n (any_named t.place t.kind) h k
in_stored most o (at.NextArgument c xs) t h k = argument_stored o c xs t h k
in_stored most o (at.NextElement xs) t h k = stored_cond (is_close_bracket t.kind) (operand o (expr.Array xs)) (begin (push o 1 (frame.Purpose (purpose.Element xs))) t) (operand_stored o (expr.Array xs) h (plain_array xs) (flat_array xs)) (within o 1 (purpose.Element xs) t h (one_more o h) tt)
in_stored most o (at.Key xs) t h k = key_stored o xs t.place t.kind h
in_stored most o (at.NameKey xs n) t h k = name_key_stored o xs n t.kind h
in_stored most o (at.OtherKey xs key) t h k = other_key_stored o xs key t.kind h
in_stored most o (at.AsyncKey xs n) t h k = stored_cond t.after_line_end (on_async_name o xs n t.kind) (on_async_found o xs n t.kind (key_of t.place t.kind)) (async_key_name_stored o xs n t.kind h) (async_found_stored o xs n t.kind (key_of t.place t.kind) h)
in_stored most o (at.AsyncMethod xs key) t h k = stored_cond (is_open_paren t.kind) (to o (at.Parameters (head.Method true xs key) [])) refuse (stays o _ h tt) tt
in_stored most o (at.PropertyEnd xs) t h k = stored_cond (is_comma t.kind) (to o (at.Key xs)) (cond (is_close_brace t.kind) (close_object o xs) refuse) (stays o _ h tt) (stored_cond (is_close_brace t.kind) (close_object o xs) refuse (object_stored o xs h) tt)
in_stored most o (at.FunctionName d a) t h k = function_name_stored o d a t.place t.kind h
in_stored most o (at.ParametersOpen x) t h k = stored_cond (is_open_paren t.kind) (to o (at.Parameters x [])) refuse (stays o _ h tt) tt
in_stored most o (at.Parameters x ns) t h k = parameters_stored o x ns t.place t.kind h
in_stored most o (at.ParameterRead x ns n) t h k = parameter_read_stored o x ns n t.kind h
in_stored most o (at.BodyOpen x ns) t h k = body_open_stored o x ns t.kind h
in_stored most o (at.DeclaredName d) t h k = declared_name_stored o d t.place t.kind h
in_stored most o (at.NameDeclared d n) t h k =
    stored_cond (is_equal t.kind) (wait o (cond d.in_for 1 0) (purpose.Initial d n)) (cond (d.in_for && (is_first d.declarations && is_of t.kind)) (wait o 1 (purpose.ForOf d.kind n)) (without_value false o d n t d.kind)) (initial_stored o d n h)
    (stored_cond (d.in_for && (is_first d.declarations && is_of t.kind)) (wait o 1 (purpose.ForOf d.kind n)) (without_value false o d n t d.kind) (waits o (purpose.ForOf d.kind n) h refl tt) (without_value_stored o d n t d.kind h))
in_stored most o (at.Opening x) t h k = stored_cond (is_open_paren t.kind) (open_head o x) refuse (open_head_stored o x h) tt
in_stored most o at.ForHead t h k = for_kind_stored o t t.kind h
in_stored most o (at.ForTest b) t h k = stored_cond (is_semicolon t.kind) (to o (at.ForUpdate b None)) (begin (push o 1 (frame.Purpose (purpose.ForTest b))) t) (stays o _ h tt) (within o 1 (purpose.ForTest b) t h (one_more o h) tt)
in_stored most o (at.ForUpdate b test) t h k = stored_cond (is_close_paren t.kind) (wait_body o (body.For b test None)) (begin (push o 1 (frame.Purpose (purpose.ForUpdate b test))) t) (bodies o (body.For b test None) h) (within o 1 (purpose.ForUpdate b test) t h (one_more o h) tt)
in_stored most o (at.AfterThen test s) t h k = stored_cond (is_else t.kind) (wait_body o (body.Else test s)) (resume o (stmt.If test s None) t) (bodies o (body.Else test s) h) (resume_stored o (stmt.If test s None) t h)
in_stored most o (at.Jump s) t h k = end_stored o s t _ h
in_stored most o (at.Return q) t h k = stored_cond (may_end t || is_semicolon t.kind) (end_of false o (stmt.Return q None) t (because None (Some spot.ExpressionBegin))) (begin (push o 0 (frame.Purpose (purpose.Return q))) t) (end_stored o _ t _ h) (within o 0 (purpose.Return q) t h (no_more o h) tt)
in_stored most o at.Throw t h k = stored_cond t.after_line_end (Err refusal.Plain) (begin (push o 0 (frame.Purpose purpose.Throw)) t) tt (within o 0 purpose.Throw t h (no_more o h) tt)
in_stored most o at.TryOpen t h k = stored_cond (is_open_brace t.kind) (open_block o 1 block.Try) refuse (block_stored o block.Try h (one_more o h)) tt
in_stored most o (at.AfterTry ss) t h k = after_try_stored o ss t.kind h
in_stored most o (at.CatchOpen ss) t h k = catch_stored o ss t.kind h
in_stored most o (at.CatchName ss) t h k = catch_name_stored o ss t.place t.kind h
in_stored most o (at.CatchClose ss n) t h k = stored_cond (is_close_paren t.kind) (to o (at.CatchBody ss n)) refuse (stays o _ h tt) tt
in_stored most o (at.CatchBody ss n) t h k = stored_cond (is_open_brace t.kind) (open_block o 1 (block.Catch ss (Some n))) refuse (block_stored o (block.Catch ss (Some n)) h (one_more o h)) tt
in_stored most o (at.AfterCatch ss c) t h k = stored_cond (is_finally t.kind) (to o (at.FinallyOpen ss (Some c))) (resume o (stmt.Try ss (Some c) None) t) (stays o _ h tt) (resume_stored o (stmt.Try ss (Some c) None) t h)
in_stored most o (at.FinallyOpen ss c) t h k = stored_cond (is_open_brace t.kind) (open_block o 1 (block.Finally ss c)) refuse (block_stored o (block.Finally ss c) h (one_more o h)) tt
in_stored most o at.ExportDefault t h k = stored_cond (is_default t.kind) (to o at.ExportObject) refuse (stays o _ h tt) tt
in_stored most o at.ExportObject t h k = stored_cond (is_open_brace t.kind) (to (push o 0 frame.Export) (at.Key [])) refuse (record { frames = pushed o frame.Export (plus (constructs o) 0) h (no_more o h) tt; here = tt }) tt
in_stored most o at.AfterExport t h k = stored_cond (is_semicolon t.kind) (to o at.Statement) (on_statement o t) (stays o _ h tt) (statement_stored o t h)

shallow_stored : (most : ℕ) (x : Step) → StoredStep x → StoredStep (if_shallow most x)
shallow_stored most (Ok n) h = stored_cond (is_shallow most n) (Ok n) (Err refusal.Nesting) h tt
shallow_stored most (Err k) h = tt

step_stored : (most : ℕ) (s : State) (t : Token) → Stored s → StoredStep (step most false s t)
step_stored most s t h = shallow_stored most (step_in most false s.outer s.at t) (in_stored most s.outer s.at t h.frames h.here)

pub piece_stored : (s : State) (q : Piece) → Stored s → StoredStep (take s q)
piece_stored s (Read t) h = stored_cond (is_last t.kind) refuse (step no_limit false s t) tt (step_stored no_limit s t h)
piece_stored s Ended h = stored_cond (is_between s.at) refuse (step no_limit false s end_token) tt (step_stored no_limit s end_token h)

pub take_stored : (s : State) (q : Piece) (n : State) → Stored s → take s q ≡ Ok n → Stored n
take_stored s q n h e = let r : StoredStep (Ok n) = subst StoredStep e (piece_stored s q h) in r

pub start_stored : Stored start
start_stored = record { frames = tt; here = tt }

-- ---- the whole count

-- how many constructs are open behind what was read, as the state stores it
abbrev pub stored_count : State → ℕ
stored_count s = plus (constructs s.outer) (more_constructs s.at)

at_stores : (o : Outer) (a : At) → Here o → AtStored a → Stores (plus (constructs o) (more_constructs a)) (at_level (levels o.frames) a)
at_stores o (at.Operand x n) h k = plus_stores (constructs o) n (levels o.frames) (accesses x) (here_stores o h) k.0
at_stores o (at.MemberName x n) h k = access_stores o n x h k
at_stores o (at.NextArgument (callee.Value x n) xs) h k = access_stores o n x h k
at_stores o (at.NextArgument (callee.New n) xs) h k = one_more o h
at_stores o (at.Parameters (head.Method a xs key) ns) h k = stores_is _ _ _ (omega arith) (stores_more (constructs o) (levels o.frames) 2 (here_stores o h))
at_stores o (at.Parameters (head.Declaration a n) ns) h k = one_more o h
at_stores o (at.Parameters (head.Expression a n) ns) h k = one_more o h
at_stores o (at.ParameterRead (head.Method a xs key) ns m) h k = stores_is _ _ _ (omega arith) (stores_more (constructs o) (levels o.frames) 2 (here_stores o h))
at_stores o (at.ParameterRead (head.Declaration a n) ns m) h k = one_more o h
at_stores o (at.ParameterRead (head.Expression a n) ns m) h k = one_more o h
at_stores o (at.CoverOpen c ns) h k = one_more o h
at_stores o (at.CoverName c ns m) h k = one_more o h
at_stores o (at.NextElement xs) h k = one_more o h
at_stores o (at.Key xs) h k = one_more o h
at_stores o (at.NameKey xs m) h k = one_more o h
at_stores o (at.OtherKey xs key) h k = one_more o h
at_stores o (at.AsyncKey xs m) h k = one_more o h
at_stores o (at.AsyncMethod xs key) h k = one_more o h
at_stores o (at.PropertyEnd xs) h k = one_more o h
at_stores o at.ForHead h k = one_more o h
at_stores o (at.ForTest b) h k = one_more o h
at_stores o (at.ForUpdate b test) h k = one_more o h
at_stores o (at.CatchName ss) h k = one_more o h
at_stores o (at.CatchClose ss m) h k = one_more o h
at_stores o _ h k = no_more o h

-- The count that a state stores is how many constructs are open behind what it has read, up to where counts stand still.
pub state_stores : (s : State) → Stored s → Stores (stored_count s) (level s)
state_stores s h = at_stores s.outer s.at h.frames h.here
