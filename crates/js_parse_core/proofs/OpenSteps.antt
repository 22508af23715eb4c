-- What each token leaves open.
use Rattle.std.proofs.Common.{◌≡◌, ℕ, Bool, true, false, cond, List, [], ◌∷◌, ◌++◌, Option, Some, None, Ok, Err, refl, sym, ◌∙◌, subst}
use Rattle.std.proofs.lemmas.Bool.{false≢true}
use Rattle.std.specs.Prelude.{IsTrue, Result, not, ◌&&◌, ◌||◌, nat_le}
use Rattle.js_lex.specs.declared.token.Punctuator.{Punctuator}
use Rattle.js_lex.specs.declared.token.Punctuator.TheVariants as p
use Rattle.js_lex.specs.declared.token.Reserved.{Reserved}
use Rattle.js_lex.specs.declared.token.Reserved.TheVariants as r
use Rattle.js_lex.specs.declared.token.TemplatePart.{TemplatePart}
use Rattle.js_lex.specs.declared.token.TemplatePart.TheVariants as part
use Rattle.js_lex.specs.declared.token.TokenKind.{TokenKind}
use Rattle.js_lex.specs.declared.token.TokenKind.TheVariants as tok
use Rattle.js_lex.specs.declared.token.Token.{Token}
use Rattle.js_tree.specs.Targets.{target_of, Node}
use Rattle.js_tree.specs.declared.tree.ArrowBody.TheOpen.{Expr-F}
use Rattle.js_tree.specs.declared.tree.AssignOp.{AssignOp}
use Rattle.js_tree.specs.declared.tree.BinaryOp.{BinaryOp}
use Rattle.js_tree.specs.declared.tree.BinaryOp.TheVariants as binary
use Rattle.js_tree.specs.declared.tree.Catch.{Catch}
use Rattle.js_tree.specs.declared.tree.DeclareKind.{DeclareKind}
use Rattle.js_tree.specs.declared.tree.DeclareKind.TheVariants as declare
use Rattle.js_tree.specs.declared.tree.Expr.{Expr, out-Expr}
use Rattle.js_tree.specs.declared.tree.Expr.TheVariants as expr
use Rattle.js_tree.specs.declared.tree.ForBegin.{ForBegin}
use Rattle.js_tree.specs.declared.tree.ForBegin.TheVariants as for_begin
use Rattle.js_tree.specs.declared.tree.Key.{Key}
use Rattle.js_tree.specs.declared.tree.Key.TheVariants as keys
use Rattle.js_tree.specs.declared.tree.Name.{Name}
use Rattle.js_tree.specs.declared.tree.Property.{Property}
use Rattle.js_tree.specs.declared.tree.Stmt.{Stmt}
use Rattle.js_tree.specs.declared.tree.Stmt.TheVariants as stmt
use Rattle.js_tree.specs.declared.tree.Target.{Target}
use Rattle.js_tree.specs.declared.tree.TemplateItem.{TemplateItem}
use Rattle.js_tree.specs.declared.tree.UpdateOp.{UpdateOp}
use Rattle.js_words.specs.declared.word.Spot.TheVariants as spot
use Rattle.js_grammar.specs.Marks.{Piece, Read, Ended}
use Rattle.js_grammar.specs.Shapes.{strength}
use Rattle.js_parse_core.specs.declared.machine.At.{At}
use Rattle.js_parse_core.specs.declared.machine.At.TheVariants as at
use Rattle.js_parse_core.specs.declared.machine.Block.{Block}
use Rattle.js_parse_core.specs.declared.machine.Block.TheVariants as block
use Rattle.js_parse_core.specs.declared.machine.Body.{Body}
use Rattle.js_parse_core.specs.declared.machine.Body.TheVariants as body
use Rattle.js_parse_core.specs.declared.machine.Callee.{Callee}
use Rattle.js_parse_core.specs.declared.machine.Callee.TheVariants as callee
use Rattle.js_parse_core.specs.declared.machine.Cover.{Cover}
use Rattle.js_parse_core.specs.declared.machine.Cover.TheVariants as covers
use Rattle.js_parse_core.specs.declared.machine.Declared.{Declared}
use Rattle.js_parse_core.specs.declared.machine.Frame.{Frame}
use Rattle.js_parse_core.specs.declared.machine.Frame.TheVariants as frame
use Rattle.js_parse_core.specs.declared.machine.Head.{Head}
use Rattle.js_parse_core.specs.declared.machine.Head.TheVariants as head
use Rattle.js_parse_core.specs.declared.machine.Open.{Open}
use Rattle.js_parse_core.specs.declared.machine.Opening.{Opening}
use Rattle.js_parse_core.specs.declared.machine.Opening.TheVariants as opening
use Rattle.js_parse_core.specs.declared.machine.Operator.{Operator}
use Rattle.js_parse_core.specs.declared.machine.Operator.TheVariants as operator
use Rattle.js_parse_core.specs.declared.machine.Outer.{Outer}
use Rattle.js_parse_core.specs.declared.machine.Purpose.{Purpose}
use Rattle.js_parse_core.specs.declared.machine.Purpose.TheVariants as purpose
use Rattle.js_parse_core.specs.declared.machine.Refusal.{Refusal}
use Rattle.js_parse_core.specs.declared.machine.Refusal.TheVariants as refusal
use Rattle.js_parse_core.specs.declared.machine.State.{State}
use Rattle.js_parse_core.specs.declared.machine.Tail.{Tail}
use Rattle.js_parse_core.specs.declared.machine.Tail.TheVariants as tail
use Rattle.js_parse_core.specs.Begin.{operand, begin_name, begin_template, prefix_at, prefix, begin_by_word, begin_paren, begin_by_sign, begin_kind, begin}
use Rattle.js_parse_core.specs.Expressions.{assign_op, assign_to, on_assign, update_of, update_at, on_update, arrow_of, arrow_behind, perhaps_assign, operand_sign, operand_kind, after_operand, async_function, async_paren, async_kind, after_async, uncover, has_none, may_be_values, on_cover_other, on_cover_kind, after_name, on_cover_name, is_async_cover, only_name, group_of, covered_value, on_covered, on_arrow, arrow_value, on_arrow_body, on_new, on_new_open, member_of, on_argument, on_element}
use Rattle.js_parse_core.specs.Machine.{step_in, step, start}
use Rattle.js_parse_core.specs.Objects.{close_object, key, on_key_name, on_key_sign, on_found_key, on_key, on_other_key, on_name_key, on_async_name, on_async_found, on_async_key, on_async_method, on_property_end, named_head, nameless, on_function_name, on_parameters_open, on_parameters, on_parameter_read, on_body_open}
use Rattle.js_parse_core.specs.Statements as st
use Rattle.js_parse_core.specs.Tokens.{is_async, is_comma, is_close_brace, is_open_bracket, is_open_paren, is_open_brace, is_else, is_close_paren, is_close_bracket, is_semicolon, is_equal, is_finally, is_default, is_of, may_end, is_colon, name, any_name, is_arrow}
use Rattle.js_parse_core.specs.Values.{Over, Folded, over, apply, applied, fold_frame, fold, fold_tail, fold_tails, call, on_argument_end, on_element_end, on_pair_end, on_hole_end, on_initial_done, on_initial_end, on_head_end, on_part_end, on_value, on_over, on_folded, after_whole, are_mixed, logic_of, outermost, waiting, joins_folded, binary_behind, on_binary, tests, no_binary, after_operator, binary_op, after_sign, after_value}
use Rattle.js_parse_core.specs.Outer.{Step, refuse, refuse_at, in_body, push, to, opened, framed, first_frame, position, position_in, is_whole_position, complete_body, complete_frame, complete_in, complete, settle_frame, settle_in, settle, wait, wait_operand, wait_tail, wait_body, open_block, plus, constructs, is_whole}
use Rattle.js_parse_core.proofs.First.{Ending, ending}
use Rattle.js_parse_core.proofs.OpenStates.{Place, Statements, Operands, Values, Wholes, Objects, is_within, place_of_head, place_of_name, place_of_block, place_of_purpose, Stands, place_of, IsOpen}
use Rattle.js_parse_core.proofs.PieceLemmas.{no_limit_is}
use Rattle.js_parse_core.proofs.Pieces.{no_limit, end_token, is_between, is_last, take, taken, run}

-- the frames stand where they may, and the innermost one is such
abbrev Fits : Place → List Open → Type 0
Fits q fs = IsTrue (is_within q (first_frame fs)) × Stands fs

-- the state behind the step is open as it may be
abbrev OpenStep : Step → Type 0
OpenStep (Ok n) = IsOpen n
OpenStep (Err k) = Unit {0}

cond_open : (b : Bool) (x y : Step) → OpenStep x → OpenStep y → OpenStep (cond b x y)
cond_open true x y h k = h
cond_open false x y h k = k

to_open : (o : Outer) (a : At) → Fits (place_of a) o.frames → OpenStep (to o a)
to_open o a h = record { here = h.0; below = h.1 }

-- ---- places within places

values_operands_in : (f : Option Frame) → IsTrue (is_within Values f) → IsTrue (is_within Operands f)
values_operands_in (Some (frame.Operator o)) h = refl
values_operands_in _ h = h

wholes_operands_in : (f : Option Frame) → IsTrue (is_within Wholes f) → IsTrue (is_within Operands f)
wholes_operands_in (Some (frame.Operator o)) h = refl
wholes_operands_in _ h = h

operands_objects_in : (f : Option Frame) → IsTrue (is_within Operands f) → IsTrue (is_within Objects f)
operands_objects_in (Some frame.Export) h = refl
operands_objects_in _ h = h

values_operands : (fs : List Open) → Fits Values fs → Fits Operands fs
values_operands fs h = (values_operands_in (first_frame fs) h.0, h.1)

wholes_operands : (fs : List Open) → Fits Wholes fs → Fits Operands fs
wholes_operands fs h = (wholes_operands_in (first_frame fs) h.0, h.1)

operands_objects : (fs : List Open) → Fits Operands fs → Fits Objects fs
operands_objects fs h = (operands_objects_in (first_frame fs) h.0, h.1)

-- ---- a statement is whole

complete_open : (o : Outer) (fs : List Open) (s : Stmt) → Fits Statements fs → OpenStep (complete_in o fs s)
complete_open o [] s h = record { here = refl; below = tt }
complete_open o (f ∷ fs) s h = go f.frame h (λ t i. complete_open o fs t i)
  where
    in_body : (k : Body) → Fits Statements fs → ((t : Stmt) → Fits Statements fs → OpenStep (complete_in o fs t)) → OpenStep (complete_body (framed o fs) k s (λ t. complete_in o fs t))
    in_body (body.Then test) i c = record { here = i.0; below = i.1 }
    in_body (body.Else test a) i c = c _ i
    in_body (body.For b test u) i c = c _ i
    in_body (body.ForOf k n x) i c = c _ i
    in_body (body.While test) i c = c _ i

    go : (k : Frame) → Fits Statements (opened f.constructs k ∷ fs) → ((t : Stmt) → Fits Statements fs → OpenStep (complete_in o fs t)) → OpenStep (complete_frame (framed o fs) f.constructs k s (λ t. complete_in o fs t))
    go (frame.Block b ss) i c = record { here = refl; below = i.1 }
    go (frame.Body k) i c = in_body k i.1 c
    go _ i c = tt

-- .. and no `else` follows
abbrev SettledStep : Step → Type 0
SettledStep (Ok n) = Fits Statements n.outer.frames
SettledStep (Err k) = Unit {0}

settle_open : (o : Outer) (fs : List Open) (s : Stmt) → Fits Statements fs → SettledStep (settle_in o fs s)
settle_open o [] s h = (refl, tt)
settle_open o (f ∷ fs) s h = go f.frame h (λ t i. settle_open o fs t i)
  where
    go : (k : Frame) → Fits Statements (opened f.constructs k ∷ fs) → ((t : Stmt) → Fits Statements fs → SettledStep (settle_in o fs t)) → SettledStep (settle_frame (framed o fs) f.constructs k s (λ t. settle_in o fs t))
    go (frame.Block b ss) i c = (refl, i.1)
    go (frame.Body k) i c = c _ i.1
    go _ i c = tt

-- ---- an operand begins

prefix_open : (o : Outer) (x : Operator) → Fits Operands o.frames → OpenStep (prefix o x)
prefix_open o x h = go (first_frame o.frames) h.0 (λ i. record { here = refl; below = (i, h.1) })
  where
    go : (f : Option Frame) → IsTrue (is_within Operands f) → (IsTrue (is_within Values f) → OpenStep (wait_operand o (plus (constructs o) 1) x)) → OpenStep (prefix_at o x (position_in f))
    go (Some (frame.Operator (operator.Update u))) i c = tt
    go (Some (frame.Operator (operator.Binary l u))) i c = c refl
    go (Some (frame.Operator (operator.Unary u))) i c = c refl
    go (Some (frame.Operator (operator.Await u))) i c = c refl
    go (Some (frame.Tail u)) i c = c refl
    go (Some (frame.Purpose u)) i c = c refl
    go _ i c = absurd (false≢true i)

-- where an assignment or an arrow may stand
whole_open : (o : Outer) (x y : Step) → Fits Operands o.frames → (Fits Wholes o.frames → OpenStep x) → OpenStep y → OpenStep (cond (is_whole o) x y)
whole_open o x y h c d = go (first_frame o.frames) h.0 (λ i. c (i, h.1))
  where
    go : (f : Option Frame) → IsTrue (is_within Operands f) → (IsTrue (is_within Wholes f) → OpenStep x) → OpenStep (cond (is_whole_position (position_in f)) x y)
    go (Some (frame.Operator (operator.Update u))) i c = d
    go (Some (frame.Operator (operator.Binary l u))) i c = d
    go (Some (frame.Operator (operator.Unary u))) i c = d
    go (Some (frame.Operator (operator.Await u))) i c = d
    go (Some (frame.Tail u)) i c = c refl
    go (Some (frame.Purpose u)) i c = c refl
    go _ i c = absurd (false≢true i)

paren_open : (o : Outer) → Fits Operands o.frames → OpenStep (begin_paren o (is_whole o))
paren_open o h = go (first_frame o.frames) h.0 (λ i. record { here = i; below = h.1 })
  where
    go : (f : Option Frame) → IsTrue (is_within Operands f) → (IsTrue (is_within Wholes f) → OpenStep (to o (at.CoverOpen covers.Plain []))) → OpenStep (begin_paren o (is_whole_position (position_in f)))
    go (Some (frame.Operator (operator.Update u))) i c = record { here = refl; below = h }
    go (Some (frame.Operator (operator.Binary l u))) i c = record { here = refl; below = h }
    go (Some (frame.Operator (operator.Unary u))) i c = record { here = refl; below = h }
    go (Some (frame.Operator (operator.Await u))) i c = record { here = refl; below = h }
    go (Some (frame.Tail u)) i c = c refl
    go (Some (frame.Purpose u)) i c = c refl
    go _ i c = absurd (false≢true i)

begin_name_open : (o : Outer) (n : Name) (b : Bool) → Fits Operands o.frames → OpenStep (begin_name o n b)
begin_name_open o n true h = record { here = h.0; below = h.1 }
begin_name_open o n false h = record { here = h.0; below = h.1 }

begin_template_open : (o : Outer) (x : TemplatePart) (u : List ℕ) → Fits Operands o.frames → OpenStep (begin_template o x u)
begin_template_open o part.Whole u h = record { here = h.0; below = h.1 }
begin_template_open o part.Head u h = record { here = refl; below = h }
begin_template_open o part.Middle u h = tt
begin_template_open o part.Tail u h = tt

begin_word_open : (o : Outer) (q : ℕ) (x : Reserved) → Fits Operands o.frames → OpenStep (begin_by_word o q x)
begin_word_open o q r.True h = record { here = h.0; below = h.1 }
begin_word_open o q r.False h = record { here = h.0; below = h.1 }
begin_word_open o q r.Null h = record { here = h.0; below = h.1 }
begin_word_open o q r.This h = record { here = h.0; below = h.1 }
begin_word_open o q r.Function h = record { here = h.0; below = h.1 }
begin_word_open o q r.New h = record { here = h.0; below = h.1 }
begin_word_open o q r.TypeOf h = prefix_open o _ h
begin_word_open o q r.Await h = prefix_open o _ h
begin_word_open o q _ h = tt

begin_sign_open : (o : Outer) (s : Punctuator) → Fits Operands o.frames → OpenStep (begin_by_sign o s)
begin_sign_open o p.OpenParen h = paren_open o h
begin_sign_open o p.OpenBracket h = record { here = h.0; below = h.1 }
begin_sign_open o p.OpenBrace h = to_open o (at.Key []) (operands_objects o.frames h)
begin_sign_open o p.Not h = prefix_open o _ h
begin_sign_open o p.Minus h = prefix_open o _ h
begin_sign_open o p.PlusPlus h = prefix_open o _ h
begin_sign_open o p.MinusMinus h = prefix_open o _ h
begin_sign_open o _ h = tt

begin_kind_open : (o : Outer) (q : ℕ) (k : TokenKind) → Fits Operands o.frames → OpenStep (begin_kind o q k)
begin_kind_open o q (tok.Name u) h = begin_name_open o _ (is_async u) h
begin_kind_open o q (tok.Number n) h = record { here = h.0; below = h.1 }
begin_kind_open o q (tok.Text u) h = record { here = h.0; below = h.1 }
begin_kind_open o q (tok.Template x u) h = begin_template_open o x u h
begin_kind_open o q (tok.Reserved x) h = begin_word_open o q x h
begin_kind_open o q (tok.Punctuator s) h = begin_sign_open o s h
begin_kind_open o q tok.End h = tt
begin_kind_open o q (tok.Bad f) h = tt

begin_open : (o : Outer) (t : Token) → Fits Operands o.frames → OpenStep (begin o t)
begin_open o t h = begin_kind_open o t.place t.kind h

-- ---- objects and functions

close_object_open : (o : Outer) (xs : List Property) → Fits Objects o.frames → OpenStep (close_object o xs)
close_object_open o xs h = go o.frames h
  where
    by_frame : (n : ℕ) (k : Frame) (fs : List Open) → Fits Objects (opened n k ∷ fs) → OpenStep (close_object (framed o (opened n k ∷ fs)) xs)
    by_frame n frame.Export fs i = record { here = i.1.0; below = i.1.1 }
    by_frame n (frame.Operator u) fs i = record { here = refl; below = i.1 }
    by_frame n (frame.Tail u) fs i = record { here = refl; below = i.1 }
    by_frame n (frame.Purpose u) fs i = record { here = refl; below = i.1 }
    by_frame n (frame.Body k) fs i = absurd (false≢true i.0)
    by_frame n (frame.Block b ss) fs i = absurd (false≢true i.0)

    go : (fs : List Open) → Fits Objects fs → OpenStep (close_object (framed o fs) xs)
    go [] i = absurd (false≢true i.0)
    go (f ∷ fs) i = by_frame f.constructs f.frame fs i

on_key_name_open : (o : Outer) (xs : List Property) (n : Name) (b : Bool) → Fits Objects o.frames → OpenStep (on_key_name o xs n b)
on_key_name_open o xs n true h = record { here = h.0; below = h.1 }
on_key_name_open o xs n false h = record { here = h.0; below = h.1 }

on_key_sign_open : (o : Outer) (xs : List Property) (s : Punctuator) → Fits Objects o.frames → OpenStep (on_key_sign o xs s)
on_key_sign_open o xs p.CloseBrace h = close_object_open o xs h
on_key_sign_open o xs _ h = tt

on_found_key_open : (o : Outer) (xs : List Property) (k : Option Key) → Fits Objects o.frames → OpenStep (on_found_key o xs k)
on_found_key_open o xs (Some k) h = record { here = h.0; below = h.1 }
on_found_key_open o xs None h = tt

on_key_open : (o : Outer) (xs : List Property) (q : ℕ) (k : TokenKind) → Fits Objects o.frames → OpenStep (on_key o xs q k)
on_key_open o xs q (tok.Name u) h = on_key_name_open o xs _ (is_async u) h
on_key_open o xs q (tok.Punctuator s) h = on_key_sign_open o xs s h
on_key_open o xs q (tok.Reserved x) h = on_found_key_open o xs (key q (tok.Reserved x)) h
on_key_open o xs q (tok.Number n) h = on_found_key_open o xs (key q (tok.Number n)) h
on_key_open o xs q (tok.Text u) h = on_found_key_open o xs (key q (tok.Text u)) h
on_key_open o xs q (tok.Template x u) h = on_found_key_open o xs (key q (tok.Template x u)) h
on_key_open o xs q tok.End h = tt
on_key_open o xs q (tok.Bad f) h = on_found_key_open o xs (key q (tok.Bad f)) h

on_other_key_open : (o : Outer) (xs : List Property) (k : Key) (t : TokenKind) → Fits Objects o.frames → OpenStep (on_other_key o xs k t)
on_other_key_open o xs k (tok.Punctuator p.Colon) h = record { here = refl; below = h }
on_other_key_open o xs k (tok.Punctuator p.OpenParen) h = record { here = h.0; below = h.1 }
on_other_key_open o xs k _ h = tt

on_name_key_open : (o : Outer) (xs : List Property) (n : Name) (k : TokenKind) → Fits Objects o.frames → OpenStep (on_name_key o xs n k)
on_name_key_open o xs n k h = cond_open (is_comma k) _ _ (to_open o (at.Key _) h) (cond_open (is_close_brace k) _ _ (close_object_open o _ h) (on_other_key_open o xs (keys.Name n) k h))

on_async_name_open : (o : Outer) (xs : List Property) (n : Name) (k : TokenKind) → Fits Objects o.frames → OpenStep (on_async_name o xs n k)
on_async_name_open o xs n k h = cond_open (is_open_bracket k) (refuse_at spot.Key) _ tt (on_name_key_open o xs n k h)

on_async_found_open : (o : Outer) (xs : List Property) (n : Name) (k : TokenKind) (found : Option Key) → Fits Objects o.frames → OpenStep (on_async_found o xs n k found)
on_async_found_open o xs n k (Some f) h = record { here = h.0; below = h.1 }
on_async_found_open o xs n k None h = on_async_name_open o xs n k h

on_async_key_open : (o : Outer) (xs : List Property) (n : Name) (t : Token) → Fits Objects o.frames → OpenStep (on_async_key o xs n t)
on_async_key_open o xs n t h = cond_open t.after_line_end _ _ (on_async_name_open o xs n t.kind h) (on_async_found_open o xs n t.kind (key t.place t.kind) h)

on_async_method_open : (o : Outer) (xs : List Property) (k : Key) (t : TokenKind) → Fits Objects o.frames → OpenStep (on_async_method o xs k t)
on_async_method_open o xs k t h = cond_open (is_open_paren t) _ refuse (to_open o (at.Parameters (head.Method true xs k) []) h) tt

on_property_end_open : (o : Outer) (xs : List Property) (k : TokenKind) → Fits Objects o.frames → OpenStep (on_property_end o xs k)
on_property_end_open o xs k h = cond_open (is_comma k) _ _ (to_open o (at.Key xs) h) (cond_open (is_close_brace k) _ refuse (close_object_open o xs h) tt)

named_head_open : (o : Outer) (d a : Bool) (n : Name) → Fits (place_of_name d) o.frames → OpenStep (to o (at.ParametersOpen (named_head d a n)))
named_head_open o true a n h = record { here = h.0; below = h.1 }
named_head_open o false a n h = record { here = h.0; below = h.1 }

nameless_open : (o : Outer) (d a : Bool) → Fits (place_of_name d) o.frames → OpenStep (nameless o d a)
nameless_open o true a h = tt
nameless_open o false a h = record { here = h.0; below = h.1 }

on_function_name_open : (o : Outer) (d a : Bool) (q : ℕ) (k : TokenKind) → Fits (place_of_name d) o.frames → OpenStep (on_function_name o d a q k)
on_function_name_open o d a q (tok.Name u) h = named_head_open o d a _ h
on_function_name_open o d a q (tok.Punctuator p.OpenParen) h = nameless_open o d a h
on_function_name_open o d a q _ h = tt

on_parameters_open_open : (o : Outer) (k : Head) (t : TokenKind) → Fits (place_of_head k) o.frames → OpenStep (on_parameters_open o k t)
on_parameters_open_open o k t h = cond_open (is_open_paren t) _ refuse (to_open o (at.Parameters k []) h) tt

on_parameters_open_at : (o : Outer) (k : Head) (ns : List Name) (q : ℕ) (t : TokenKind) → Fits (place_of_head k) o.frames → OpenStep (on_parameters o k ns q t)
on_parameters_open_at o k ns q (tok.Name u) h = record { here = h.0; below = h.1 }
on_parameters_open_at o k ns q (tok.Punctuator p.CloseParen) h = record { here = h.0; below = h.1 }
on_parameters_open_at o k ns q _ h = tt

on_parameter_read_open : (o : Outer) (k : Head) (ns : List Name) (n : Name) (t : TokenKind) → Fits (place_of_head k) o.frames → OpenStep (on_parameter_read o k ns n t)
on_parameter_read_open o k ns n (tok.Punctuator p.Comma) h = record { here = h.0; below = h.1 }
on_parameter_read_open o k ns n (tok.Punctuator p.CloseParen) h = record { here = h.0; below = h.1 }
on_parameter_read_open o k ns n _ h = tt

on_body_open_open : (o : Outer) (k : Head) (ns : List Name) (t : TokenKind) → Fits (place_of_head k) o.frames → OpenStep (on_body_open o k ns t)
on_body_open_open o k ns t h = cond_open (is_open_brace t) _ refuse (record { here = refl; below = h }) tt

-- ---- statements

not_in_body_open : (o : Outer) (a : At) → Fits (place_of a) o.frames → OpenStep (st.not_in_body o a)
not_in_body_open o a h = cond_open (in_body o) (refuse_at spot.StatementBegin) _ tt (to_open o a h)

expression_statement_open : (o : Outer) (t : Token) → Fits Statements o.frames → OpenStep (st.expression_statement o t)
expression_statement_open o t h = begin_open _ t (refl, h)

statement_word_open : (o : Outer) (t : Token) (x : Reserved) → Fits Statements o.frames → OpenStep (st.begin_by_word o t x)
statement_word_open o t r.If h = record { here = h.0; below = h.1 }
statement_word_open o t r.While h = record { here = h.0; below = h.1 }
statement_word_open o t r.For h = record { here = h.0; below = h.1 }
statement_word_open o t r.Break h = record { here = h.0; below = h.1 }
statement_word_open o t r.Continue h = record { here = h.0; below = h.1 }
statement_word_open o t r.Return h = record { here = h.0; below = h.1 }
statement_word_open o t r.Throw h = record { here = h.0; below = h.1 }
statement_word_open o t r.Try h = record { here = h.0; below = h.1 }
statement_word_open o t r.Function h = not_in_body_open o (at.FunctionName true false) h
statement_word_open o t r.Export h = cond_open (st.is_top o.frames && not o.exported) _ (refuse_at spot.StatementBegin) (to_open o at.ExportDefault h) tt
statement_word_open o t r.Let h = not_in_body_open o (at.DeclaredName _) h
statement_word_open o t r.Const h = not_in_body_open o (at.DeclaredName _) h
statement_word_open o t _ h = expression_statement_open o t h

close_open : (o : Outer) (b : Block) (ss : List Stmt) → Fits (place_of_block b) o.frames → OpenStep (st.close o b ss)
close_open o block.Plain ss h = complete_open o o.frames _ h
close_open o (block.Function (head.Declaration a n) ns) ss h = complete_open o o.frames _ h
close_open o (block.Function (head.Expression a n) ns) ss h = record { here = h.0; below = h.1 }
close_open o (block.Function (head.Method a xs k) ns) ss h = record { here = h.0; below = h.1 }
close_open o (block.Arrow a ns) ss h = record { here = h.0; below = h.1 }
close_open o block.Try ss h = record { here = h.0; below = h.1 }
close_open o (block.Catch tried n) ss h = record { here = h.0; below = h.1 }
close_open o (block.Finally tried c) ss h = complete_open o o.frames _ h

close_block_open : (o : Outer) → Fits Statements o.frames → OpenStep (st.close_block o)
close_block_open o h = go o.frames h
  where
    by_frame : (n : ℕ) (k : Frame) (fs : List Open) → Fits Statements (opened n k ∷ fs) → OpenStep (st.close_block (framed o (opened n k ∷ fs)))
    by_frame n (frame.Block b ss) fs i = close_open (framed o fs) b ss i.1
    by_frame n _ fs i = tt

    go : (fs : List Open) → Fits Statements fs → OpenStep (st.close_block (framed o fs))
    go [] i = tt
    go (f ∷ fs) i = by_frame f.constructs f.frame fs i

statement_sign_open : (o : Outer) (t : Token) (s : Punctuator) → Fits Statements o.frames → OpenStep (st.begin_by_sign o t s)
statement_sign_open o t p.OpenBrace h = record { here = refl; below = h }
statement_sign_open o t p.CloseBrace h = close_block_open o h
statement_sign_open o t p.Semicolon h = complete_open o o.frames _ h
statement_sign_open o t _ h = expression_statement_open o t h

on_statement_kind_open : (o : Outer) (t : Token) (k : TokenKind) → Fits Statements o.frames → OpenStep (st.on_statement_kind o t k)
on_statement_kind_open o t (tok.Punctuator s) h = statement_sign_open o t s h
on_statement_kind_open o t (tok.Reserved x) h = statement_word_open o t x h
on_statement_kind_open o t tok.End h = cond_open (st.is_top o.frames) _ (refuse_at spot.StatementBegin) (to_open o at.Statement h) tt
on_statement_kind_open o t _ h = expression_statement_open o t h

on_statement_open : (o : Outer) (t : Token) → Fits Statements o.frames → OpenStep (st.on_statement o t)
on_statement_open o t h = on_statement_kind_open o t t.kind h

else_open : (x : Step) → OpenStep x → OpenStep (st.else_behind x)
else_open (Err k) h = tt
else_open (Ok n) h = go n.at h.here
  where
    go : (a : At) → IsTrue (is_within (place_of a) (first_frame n.outer.frames)) → OpenStep (st.to_else n.outer a)
    go (at.AfterThen test s) i = record { here = refl; below = (i, h.below) }
    go _ i = tt

behind_open : (x : Step) (t : Token) → SettledStep x → OpenStep (st.statement_behind x t)
behind_open (Err k) t h = tt
behind_open (Ok n) t h = on_statement_open n.outer t h

resume_open : (o : Outer) (s : Stmt) (t : Token) → Fits Statements o.frames → OpenStep (st.resume o s t)
resume_open o s t h = cond_open (is_else t.kind) _ _ (else_open (complete o s) (complete_open o o.frames s h)) (behind_open (settle o s) t (settle_open o o.frames s h))

end_open : (o : Outer) (s : Stmt) (t : Token) (k : Refusal) → Fits Statements o.frames → OpenStep (st.end false o s t k)
end_open o s t k h = cond_open (st.ends_statement false t.kind) _ (Err k) (complete_open o o.frames s h) tt

after_then_open : (o : Outer) (test : Expr) (s : Stmt) (t : Token) → Fits Statements o.frames → OpenStep (st.after_then o test s t)
after_then_open o test s t h = cond_open (is_else t.kind) (wait_body o (body.Else test s)) _ (record { here = refl; below = h }) (resume_open o _ t h)

open_head_open : (o : Outer) (x : Opening) → Fits Statements o.frames → OpenStep (st.open_head o x)
open_head_open o opening.If h = record { here = refl; below = h }
open_head_open o opening.While h = record { here = refl; below = h }
open_head_open o opening.For h = record { here = h.0; below = h.1 }

on_opening_open : (o : Outer) (x : Opening) (k : TokenKind) → Fits Statements o.frames → OpenStep (st.on_opening o x k)
on_opening_open o x k h = cond_open (is_open_paren k) _ refuse (open_head_open o x h) tt

on_for_kind_open : (o : Outer) (t : Token) (k : TokenKind) → Fits Statements o.frames → OpenStep (st.on_for_kind o t k)
on_for_kind_open o t (tok.Reserved r.Let) h = record { here = h.0; below = h.1 }
on_for_kind_open o t (tok.Reserved r.Const) h = record { here = h.0; below = h.1 }
on_for_kind_open o t (tok.Punctuator p.Semicolon) h = record { here = h.0; below = h.1 }
on_for_kind_open o t _ h = begin_open _ t (refl, h)

on_for_test_open : (o : Outer) (b : ForBegin) (t : Token) → Fits Statements o.frames → OpenStep (st.on_for_test o b t)
on_for_test_open o b t h = cond_open (is_semicolon t.kind) (to o (at.ForUpdate b None)) _ (record { here = h.0; below = h.1 }) (begin_open _ t (refl, h))

on_for_update_open : (o : Outer) (b : ForBegin) (test : Option Expr) (t : Token) → Fits Statements o.frames → OpenStep (st.on_for_update o b test t)
on_for_update_open o b test t h = cond_open (is_close_paren t.kind) (wait_body o (body.For b test None)) _ (record { here = refl; below = h }) (begin_open _ t (refl, h))

on_return_open : (o : Outer) (q : ℕ) (t : Token) → Fits Statements o.frames → OpenStep (st.on_return false o q t)
on_return_open o q t h = cond_open (may_end t || is_semicolon t.kind) _ _ (end_open o (stmt.Return q None) t _ h) (begin_open _ t (refl, h))

on_throw_open : (o : Outer) (t : Token) → Fits Statements o.frames → OpenStep (st.on_throw o t)
on_throw_open o t h = cond_open t.after_line_end (Err refusal.Plain) _ tt (begin_open _ t (refl, h))

on_declared_name_open : (o : Outer) (d : Declared) (q : ℕ) (k : TokenKind) → Fits Statements o.frames → OpenStep (st.on_declared_name o d q k)
on_declared_name_open o d q (tok.Name u) h = record { here = h.0; below = h.1 }
on_declared_name_open o d q _ h = tt

declared_in_open : (o : Outer) (d : Declared) (t : Token) (b : Bool) → Fits Statements o.frames → OpenStep (st.declared_in false o d t b)
declared_in_open o d t true h = cond_open (is_semicolon t.kind) (to o (at.ForTest (for_begin.Declarations d.kind d.declarations))) refuse (record { here = h.0; below = h.1 }) tt
declared_in_open o d t false h = end_open o _ t _ h

on_bare_name_open : (o : Outer) (d : Declared) (t : Token) → Fits Statements o.frames → OpenStep (st.on_bare_name false o d t)
on_bare_name_open o d t h = cond_open (is_comma t.kind) (to o (at.DeclaredName d)) _ (record { here = h.0; below = h.1 }) (declared_in_open o d t d.in_for h)

without_value_open : (o : Outer) (d : Declared) (n : Name) (t : Token) (k : DeclareKind) → Fits Statements o.frames → OpenStep (st.without_value false o d n t k)
without_value_open o d n t declare.Let h = on_bare_name_open o _ t h
without_value_open o d n t declare.Const h = tt

on_name_declared_open : (o : Outer) (d : Declared) (n : Name) (t : Token) → Fits Statements o.frames → OpenStep (st.on_name_declared false o d n t)
on_name_declared_open o d n t h =
    cond_open (is_equal t.kind) (wait o (cond d.in_for 1 0) (purpose.Initial d n)) _ (record { here = refl; below = h })
    (cond_open (d.in_for && (st.is_first d.declarations && is_of t.kind)) (wait o 1 (purpose.ForOf d.kind n)) _ (record { here = refl; below = h }) (without_value_open o d n t d.kind h))

on_try_open : (o : Outer) (k : TokenKind) → Fits Statements o.frames → OpenStep (st.on_try o k)
on_try_open o k h = cond_open (is_open_brace k) (open_block o 1 block.Try) refuse (record { here = refl; below = h }) tt

after_try_open : (o : Outer) (ss : List Stmt) (k : TokenKind) → Fits Statements o.frames → OpenStep (st.after_try o ss k)
after_try_open o ss (tok.Reserved r.Catch) h = record { here = h.0; below = h.1 }
after_try_open o ss (tok.Reserved r.Finally) h = record { here = h.0; below = h.1 }
after_try_open o ss _ h = tt

on_catch_open : (o : Outer) (ss : List Stmt) (k : TokenKind) → Fits Statements o.frames → OpenStep (st.on_catch o ss k)
on_catch_open o ss (tok.Punctuator p.OpenParen) h = record { here = h.0; below = h.1 }
on_catch_open o ss (tok.Punctuator p.OpenBrace) h = record { here = refl; below = h }
on_catch_open o ss _ h = tt

on_catch_name_open : (o : Outer) (ss : List Stmt) (q : ℕ) (k : TokenKind) → Fits Statements o.frames → OpenStep (st.on_catch_name o ss q k)
on_catch_name_open o ss q (tok.Name u) h = record { here = h.0; below = h.1 }
on_catch_name_open o ss q _ h = tt

on_catch_close_open : (o : Outer) (ss : List Stmt) (n : Name) (k : TokenKind) → Fits Statements o.frames → OpenStep (st.on_catch_close o ss n k)
on_catch_close_open o ss n k h = cond_open (is_close_paren k) (to o (at.CatchBody ss n)) refuse (record { here = h.0; below = h.1 }) tt

on_catch_body_open : (o : Outer) (ss : List Stmt) (n : Name) (k : TokenKind) → Fits Statements o.frames → OpenStep (st.on_catch_body o ss n k)
on_catch_body_open o ss n k h = cond_open (is_open_brace k) (open_block o 1 (block.Catch ss (Some n))) refuse (record { here = refl; below = h }) tt

after_catch_open : (o : Outer) (ss : List Stmt) (c : Catch) (t : Token) → Fits Statements o.frames → OpenStep (st.after_catch o ss c t)
after_catch_open o ss c t h = cond_open (is_finally t.kind) (to o (at.FinallyOpen ss (Some c))) _ (record { here = h.0; below = h.1 }) (resume_open o _ t h)

on_finally_open : (o : Outer) (ss : List Stmt) (c : Option Catch) (k : TokenKind) → Fits Statements o.frames → OpenStep (st.on_finally o ss c k)
on_finally_open o ss c k h = cond_open (is_open_brace k) (open_block o 1 (block.Finally ss c)) refuse (record { here = refl; below = h }) tt

on_export_word_open : (o : Outer) (k : TokenKind) → Fits Statements o.frames → OpenStep (st.on_export_word o k)
on_export_word_open o k h = cond_open (is_default k) (to o at.ExportObject) refuse (record { here = h.0; below = h.1 }) tt

on_export_object_open : (o : Outer) (k : TokenKind) → Fits Statements o.frames → OpenStep (st.on_export_object o k)
on_export_object_open o k h = cond_open (is_open_brace k) (to (push o 0 frame.Export) (at.Key [])) refuse (record { here = refl; below = h }) tt

after_export_open : (o : Outer) (t : Token) → Fits Statements o.frames → OpenStep (st.after_export o t)
after_export_open o t h = cond_open (is_semicolon t.kind) (to o at.Statement) _ (record { here = h.0; below = h.1 }) (on_statement_open o t h)

-- ---- values

abbrev OpenFolded : Place → Folded → Type 0
OpenFolded q (Ok v) = Fits q v.frames
OpenFolded q (Err k) = Unit {0}

applied_open : (q : Place) (x : Result Expr Refusal) (go : Expr → Folded) → ((y : Expr) → OpenFolded q (go y)) → OpenFolded q (applied x go)
applied_open q (Ok x) go c = c x
applied_open q (Err k) go c = tt

fold_open_by : (q : Place) (least : ℕ)
    → ((t : Tail) → IsTrue (is_within q (Some (frame.Tail t)))) → ((w : Purpose) → IsTrue (is_within q (Some (frame.Purpose w))))
    → ((l : Expr) (o : BinaryOp) → nat_le least (strength o) ≡ false → IsTrue (is_within q (Some (frame.Operator (operator.Binary l o)))))
    → (fs : List Open) (x : Expr) → Fits Operands fs → OpenFolded q (fold least fs x)
fold_open_by q least tails purposes stops [] x h = absurd (false≢true h.0)
fold_open_by q least tails purposes stops (f ∷ fs) x h = by_frame f.frame h (λ y i. fold_open_by q least tails purposes stops fs y (values_operands fs i))
  where
    binary : (l : Expr) (o : BinaryOp) (b : Bool) → nat_le least (strength o) ≡ b → Fits Values fs → ((y : Expr) → OpenFolded q (fold least fs y))
        → OpenFolded q (cond b (fold least fs (expr.Binary o l x)) (over (opened f.constructs (frame.Operator (operator.Binary l o)) ∷ fs) x))
    binary l o true e i c = c _
    binary l o false e i c = (stops l o e, i)

    by_operator : (o : Operator) → Fits Values fs → ((y : Expr) → OpenFolded q (fold least fs y)) → OpenFolded q (fold_frame least (opened f.constructs (frame.Operator o)) (frame.Operator o) fs x (λ y. fold least fs y))
    by_operator (operator.Binary l o) i c = binary l o (nat_le least (strength o)) refl i c
    by_operator (operator.Unary o) i c = c _
    by_operator (operator.Await n) i c = c _
    by_operator (operator.Update o) i c = applied_open q (apply (operator.Update o) x) (λ y. fold least fs y) c

    by_frame : (k : Frame) → Fits Operands (opened f.constructs k ∷ fs) → ((y : Expr) → Fits Values fs → OpenFolded q (fold least fs y)) → OpenFolded q (fold_frame least (opened f.constructs k) k fs x (λ y. fold least fs y))
    by_frame (frame.Operator o) i c = by_operator o i.1 (λ y. c y i.1)
    by_frame (frame.Tail t) i c = (tails t, i.1)
    by_frame (frame.Purpose w) i c = (purposes w, i.1)
    by_frame (frame.Body k) i c = absurd (false≢true i.0)
    by_frame (frame.Block b ss) i c = absurd (false≢true i.0)
    by_frame frame.Export i c = absurd (false≢true i.0)

fold_open : (least : ℕ) (fs : List Open) (x : Expr) → Fits Operands fs → OpenFolded Values (fold least fs x)
fold_open least fs x h = fold_open_by Values least (λ t. refl) (λ w. refl) (λ l o e. refl) fs x h

-- each binary operator binds so tightly
strength_some : (o : BinaryOp) → nat_le 1 (strength o) ≡ true
strength_some binary.Coalesce = refl
strength_some binary.Or = refl
strength_some binary.And = refl
strength_some binary.Identical = refl
strength_some binary.NotIdentical = refl
strength_some binary.Less = refl
strength_some binary.LessEqual = refl
strength_some binary.Greater = refl
strength_some binary.GreaterEqual = refl
strength_some binary.Add = refl
strength_some binary.Subtract = refl
strength_some binary.Multiply = refl
strength_some binary.Divide = refl
strength_some binary.Remainder = refl

fold_all_open : (fs : List Open) (x : Expr) → Fits Operands fs → OpenFolded Wholes (fold 1 fs x)
fold_all_open fs x h = fold_open_by Wholes 1 (λ t. refl) (λ w. refl) (λ l o e. absurd (false≢true (sym e ∙ strength_some o))) fs x h

fold_tails_open : (fs : List Open) (x : Expr) → Stands fs → Stands (fold_tails fs x).frames
fold_tails_open [] x h = h
fold_tails_open (f ∷ fs) x h = by_frame f.frame h (λ y. fold_tails_open fs y h.1)
  where
    by_frame : (k : Frame) → Stands (opened f.constructs k ∷ fs) → ((y : Expr) → Stands (fold_tails fs y).frames) → Stands (fold_tail (opened f.constructs k) k fs x (λ y. fold_tails fs y)).frames
    by_frame (frame.Tail t) i c = c _
    by_frame _ i c = i

-- ---- behind a value

call_open : (o : Outer) (c : Callee) (xs : List Expr) → Fits Operands o.frames → OpenStep (call o c xs)
call_open o (callee.Value x n) xs h = record { here = h.0; below = h.1 }
call_open o (callee.New n) xs h = record { here = h.0; below = h.1 }

on_argument_end_open : (o : Outer) (c : Callee) (xs : List Expr) (k : TokenKind) → Fits Operands o.frames → OpenStep (on_argument_end o c xs k)
on_argument_end_open o c xs (tok.Punctuator p.Comma) h = record { here = h.0; below = h.1 }
on_argument_end_open o c xs (tok.Punctuator p.CloseParen) h = call_open o c xs h
on_argument_end_open o c xs _ h = tt

on_element_end_open : (o : Outer) (xs : List Expr) (k : TokenKind) → Fits Operands o.frames → OpenStep (on_element_end o xs k)
on_element_end_open o xs (tok.Punctuator p.Comma) h = record { here = h.0; below = h.1 }
on_element_end_open o xs (tok.Punctuator p.CloseBracket) h = record { here = h.0; below = h.1 }
on_element_end_open o xs _ h = tt

on_pair_end_open : (o : Outer) (xs : List Property) (k : TokenKind) → Fits Objects o.frames → OpenStep (on_pair_end o xs k)
on_pair_end_open o xs (tok.Punctuator p.Comma) h = record { here = h.0; below = h.1 }
on_pair_end_open o xs (tok.Punctuator p.CloseBrace) h = close_object_open o xs h
on_pair_end_open o xs _ h = tt

on_hole_end_open : (o : Outer) (is : List TemplateItem) (k : TokenKind) → Fits Operands o.frames → OpenStep (on_hole_end o is k)
on_hole_end_open o is (tok.Template part.Middle u) h = record { here = refl; below = h }
on_hole_end_open o is (tok.Template part.Tail u) h = record { here = h.0; below = h.1 }
on_hole_end_open o is _ h = tt

on_initial_done_open : (o : Outer) (d : Declared) (t : Token) (b : Bool) → Fits Statements o.frames → OpenStep (on_initial_done false o d t b)
on_initial_done_open o d t false h = end_open o _ t _ h
on_initial_done_open o d t true h = cond_open (is_semicolon t.kind) (to o (at.ForTest (for_begin.Declarations d.kind d.declarations))) (refuse_at spot.OperandEnd) (record { here = h.0; below = h.1 }) tt

on_initial_end_open : (o : Outer) (d : Declared) (t : Token) → Fits Statements o.frames → OpenStep (on_initial_end false o d t)
on_initial_end_open o d t h = cond_open (is_comma t.kind) (to o (at.DeclaredName d)) _ (record { here = h.0; below = h.1 }) (on_initial_done_open o d t d.in_for h)

on_head_end_open : (o : Outer) (b : Body) (t : Token) → Fits Statements o.frames → OpenStep (on_head_end o b t)
on_head_end_open o b t h = cond_open (is_close_paren t.kind) (wait_body o b) (refuse_at spot.OperandEnd) (record { here = refl; below = h }) tt

on_part_end_open : (o : Outer) (a : At) (b : Bool) → Fits (place_of a) o.frames → OpenStep (on_part_end o a b)
on_part_end_open o a true h = to_open o a h
on_part_end_open o a false h = tt

on_value_open : (o : Outer) (w : Purpose) (x : Expr) (t : Token) → Fits (place_of_purpose w) o.frames → OpenStep (on_value false o w x t)
on_value_open o (purpose.Then test) x t h = cond_open (is_colon t.kind) (wait_tail o (tail.Else test x)) (refuse_at spot.OperandEnd) (record { here = refl; below = h }) tt
on_value_open o purpose.Group x t h = on_part_end_open o (at.Operand _ 0) (is_close_paren t.kind) h
on_value_open o (purpose.Argument c xs) x t h = on_argument_end_open o c _ t.kind h
on_value_open o (purpose.Index y n) x t h = on_part_end_open o (at.Operand _ _) (is_close_bracket t.kind) h
on_value_open o (purpose.Element xs) x t h = on_element_end_open o _ t.kind h
on_value_open o (purpose.Pair xs k) x t h = on_pair_end_open o _ t.kind h
on_value_open o (purpose.Hole is u) x t h = on_hole_end_open o _ t.kind h
on_value_open o purpose.If x t h = on_head_end_open o _ t h
on_value_open o purpose.While x t h = on_head_end_open o _ t h
on_value_open o (purpose.ForOf k n) x t h = on_head_end_open o _ t h
on_value_open o (purpose.ForUpdate b test) x t h = on_head_end_open o _ t h
on_value_open o purpose.ForStart x t h = on_part_end_open o (at.ForTest _) (is_semicolon t.kind) h
on_value_open o (purpose.ForTest b) x t h = on_part_end_open o (at.ForUpdate b (Some x)) (is_semicolon t.kind) h
on_value_open o purpose.Statement x t h = end_open o _ t _ h
on_value_open o (purpose.Initial d n) x t h = on_initial_end_open o _ t h
on_value_open o (purpose.Return q) x t h = end_open o _ t _ h
on_value_open o purpose.Throw x t h = end_open o _ t _ h

on_over_open : (o : Outer) (t : Token) (v : Over) → Stands v.frames → OpenStep (on_over false o t v)
on_over_open o t v h = go v.frames h
  where
    by_frame : (n : ℕ) (k : Frame) (fs : List Open) → Stands (opened n k ∷ fs) → OpenStep (on_over false o t (record { frames = opened n k ∷ fs; value = v.value }))
    by_frame n (frame.Purpose w) fs i = on_value_open (framed o fs) w v.value t i
    by_frame n _ fs i = tt

    go : (fs : List Open) → Stands fs → OpenStep (on_over false o t (record { frames = fs; value = v.value }))
    go [] i = tt
    go (f ∷ fs) i = by_frame f.constructs f.frame fs i

after_whole_open : (o : Outer) (x : Expr) (t : Token) → Fits Operands o.frames → OpenStep (after_whole false o x t)
after_whole_open o x t h = go (fold 0 o.frames x) (fold_open 0 o.frames x h)
  where
    go : (v : Folded) → OpenFolded Values v → OpenStep (on_folded false o t v)
    go (Ok v) i = on_over_open o t (fold_tails v.frames v.value) (fold_tails_open v.frames v.value i.1)
    go (Err k) i = tt

joins_open : (o : Outer) (x : BinaryOp) (n : ℕ) (t : Token) (v : Folded) → OpenFolded Values v → OpenStep (joins_folded false o x n t v)
joins_open o x n t (Err k) h = tt
joins_open o x n t (Ok v) h = cond_open (are_mixed (logic_of x) (outermost v.value) || are_mixed (logic_of x) (waiting (framed o v.frames))) _ (wait_operand (framed o v.frames) (plus n 1) (operator.Binary v.value x))
    (after_whole_open (framed o v.frames) v.value t (values_operands v.frames h)) (record { here = refl; below = h })

on_binary_open : (o : Outer) (x : BinaryOp) (y : Expr) (t : Token) → Fits Operands o.frames → OpenStep (on_binary false o x y t)
on_binary_open o x y t h = go (fold 7 o.frames y) (fold_open 7 o.frames y h)
  where
    go : (v : Folded) → OpenFolded Values v → OpenStep (binary_behind false o x t v)
    go (Ok v) i = joins_open o x _ t (fold (strength x) v.frames v.value) (fold_open (strength x) v.frames v.value (values_operands v.frames i))
    go (Err k) i = tt

tests_open : (o : Outer) (v : Folded) → OpenFolded Wholes v → OpenStep (tests o v)
tests_open o (Ok v) h = record { here = refl; below = h }
tests_open o (Err k) h = tt

no_binary_open : (o : Outer) (x : Expr) (t : Token) (s : Punctuator) → Fits Operands o.frames → OpenStep (no_binary false o x t s)
no_binary_open o x t p.Question h = tests_open o (fold 1 o.frames x) (fold_all_open o.frames x h)
no_binary_open o x t _ h = after_whole_open o x t h

after_operator_open : (o : Outer) (x : Expr) (t : Token) (s : Punctuator) (b : Option BinaryOp) → Fits Operands o.frames → OpenStep (after_operator false o x t s b)
after_operator_open o x t s (Some b) h = on_binary_open o b x t h
after_operator_open o x t s None h = no_binary_open o x t s h

after_sign_open : (o : Outer) (x : Expr) (t : Token) (k : TokenKind) → Fits Operands o.frames → OpenStep (after_sign false o x t k)
after_sign_open o x t (tok.Punctuator s) h = after_operator_open o x t s (binary_op s) h
after_sign_open o x t _ h = after_whole_open o x t h

after_value_open : (o : Outer) (x : Expr) (t : Token) → Fits Operands o.frames → OpenStep (after_value false o x t)
after_value_open o x t h = after_sign_open o x t t.kind h

-- ---- behind an operand

on_assign_open : (o : Outer) (x : AssignOp) (y : Expr) (t : Token) → Fits Operands o.frames → OpenStep (on_assign false o x y t)
on_assign_open o x y t h = whole_open o _ _ h (λ i. go (target_of y) i) (after_whole_open o y t h)
  where
    go : (r : Result Target Expr) → Fits Wholes o.frames → OpenStep (assign_to false o x t r)
    go (Ok u) i = record { here = refl; below = i }
    go (Err z) i = after_whole_open o z t h

update_at_open : (o : Outer) (x : UpdateOp) (y : Expr) (t : Token) → Fits Operands o.frames → OpenStep (update_at false o x y t (position o))
update_at_open o x y t h = go (first_frame o.frames) h.0 (λ i. update_of_open (target_of y) i)
  where
    update_of_open : (r : Result Target Expr) → IsTrue (is_within Values (first_frame o.frames)) → OpenStep (update_of false o x t r)
    update_of_open (Ok u) i = record { here = i; below = h.1 }
    update_of_open (Err z) i = after_whole_open o z t h

    go : (f : Option Frame) → IsTrue (is_within Operands f) → (IsTrue (is_within Values f) → OpenStep (update_of false o x t (target_of y))) → OpenStep (update_at false o x y t (position_in f))
    go (Some (frame.Operator (operator.Update u))) i c = after_whole_open o y t h
    go (Some (frame.Operator (operator.Binary l u))) i c = c refl
    go (Some (frame.Operator (operator.Unary u))) i c = c refl
    go (Some (frame.Operator (operator.Await u))) i c = c refl
    go (Some (frame.Tail u)) i c = c refl
    go (Some (frame.Purpose u)) i c = c refl
    go _ i c = absurd (false≢true i)

on_update_open : (o : Outer) (x : UpdateOp) (y : Expr) (t : Token) → Fits Operands o.frames → OpenStep (on_update false o x y t)
on_update_open o x y t h = cond_open t.after_line_end _ _ (after_whole_open o y t h) (update_at_open o x y t h)

arrow_of_open : (o : Outer) (y : Expr) (t : Token) (n : Node) → Fits Wholes o.frames → OpenStep (arrow_of false o y t n)
arrow_of_open o y t (Expr-F.Name n) h = record { here = h.0; below = h.1 }
arrow_of_open o y t _ h = after_whole_open o y t (wholes_operands o.frames h)

arrow_behind_open : (o : Outer) (y : Expr) (t : Token) → Fits Operands o.frames → OpenStep (arrow_behind false o y t)
arrow_behind_open o y t h = by_line t.after_line_end
  where
    turn : (b : Bool) → OpenStep (cond b (arrow_of false o y t (out-Expr y)) (after_whole false o y t)) → OpenStep (cond (not b) (after_whole false o y t) (arrow_of false o y t (out-Expr y)))
    turn true i = i
    turn false i = i

    by_line : (l : Bool) → OpenStep (cond (l || not (is_whole o)) (after_whole false o y t) (arrow_of false o y t (out-Expr y)))
    by_line true = after_whole_open o y t h
    by_line false = turn (is_whole o) (whole_open o _ _ h (λ i. arrow_of_open o y t (out-Expr y) i) (after_whole_open o y t h))

perhaps_assign_open : (o : Outer) (y : Expr) (t : Token) (x : Option AssignOp) → Fits Operands o.frames → OpenStep (perhaps_assign false o y t x)
perhaps_assign_open o y t (Some x) h = on_assign_open o x y t h
perhaps_assign_open o y t None h = after_value_open o y t h

operand_sign_open : (o : Outer) (y : Expr) (n : ℕ) (t : Token) (s : Punctuator) → Fits Operands o.frames → OpenStep (operand_sign false o y n t s)
operand_sign_open o y n t p.Dot h = record { here = h.0; below = h.1 }
operand_sign_open o y n t p.OpenParen h = record { here = h.0; below = h.1 }
operand_sign_open o y n t p.OpenBracket h = record { here = refl; below = h }
operand_sign_open o y n t p.PlusPlus h = on_update_open o _ y t h
operand_sign_open o y n t p.MinusMinus h = on_update_open o _ y t h
operand_sign_open o y n t p.Arrow h = arrow_behind_open o y t h
operand_sign_open o y n t s h = perhaps_assign_open o y t (assign_op s) h

operand_kind_open : (o : Outer) (y : Expr) (n : ℕ) (t : Token) (k : TokenKind) → Fits Operands o.frames → OpenStep (operand_kind false o y n t k)
operand_kind_open o y n t (tok.Punctuator s) h = operand_sign_open o y n t s h
operand_kind_open o y n t _ h = after_whole_open o y t h

after_operand_open : (o : Outer) (y : Expr) (n : ℕ) (t : Token) → Fits Operands o.frames → OpenStep (after_operand false o y n t)
after_operand_open o y n t h = operand_kind_open o y n t t.kind h

-- ---- `async`, and brackets round names

async_function_open : (o : Outer) → Fits Operands o.frames → OpenStep (async_function o)
async_function_open o h = go o.frames h
  where
    by_purpose : (n : ℕ) (w : Purpose) (fs : List Open) → Fits Operands (opened n (frame.Purpose w) ∷ fs) → OpenStep (async_function (framed o (opened n (frame.Purpose w) ∷ fs)))
    by_purpose n purpose.Statement fs i = cond_open (in_body (framed o fs)) refuse _ tt (to_open (framed o fs) (at.FunctionName true true) i.1)
    by_purpose n _ fs i = record { here = refl; below = i.1 }

    by_frame : (n : ℕ) (k : Frame) (fs : List Open) → Fits Operands (opened n k ∷ fs) → OpenStep (async_function (framed o (opened n k ∷ fs)))
    by_frame n (frame.Purpose w) fs i = by_purpose n w fs i
    by_frame n (frame.Operator u) fs i = record { here = refl; below = i.1 }
    by_frame n (frame.Tail u) fs i = record { here = refl; below = i.1 }
    by_frame n (frame.Body k) fs i = absurd (false≢true i.0)
    by_frame n (frame.Block b ss) fs i = absurd (false≢true i.0)
    by_frame n frame.Export fs i = absurd (false≢true i.0)

    go : (fs : List Open) → Fits Operands fs → OpenStep (async_function (framed o fs))
    go [] i = absurd (false≢true i.0)
    go (f ∷ fs) i = by_frame f.constructs f.frame fs i

async_paren_open : (o : Outer) (n : Name) → Fits Operands o.frames → OpenStep (async_paren o n)
async_paren_open o n h = whole_open o (to o (at.CoverOpen (covers.Async n) [])) (to o (at.NextArgument (callee.Value (expr.Name n) 0) [])) h (λ i. record { here = i.0; below = i.1 }) (record { here = h.0; below = h.1 })

async_kind_open : (o : Outer) (n : Name) (t : Token) (k : TokenKind) → Fits Operands o.frames → OpenStep (async_kind false o n t k)
async_kind_open o n t (tok.Reserved r.Function) h = async_function_open o h
async_kind_open o n t (tok.Name u) h = whole_open o (to o (at.Arrow true (name t.place u ∷ []))) _ h (λ i. record { here = i.0; below = i.1 }) (after_operand_open o _ 0 t h)
async_kind_open o n t (tok.Punctuator p.OpenParen) h = async_paren_open o n h
async_kind_open o n t _ h = after_operand_open o _ 0 t h

after_async_open : (o : Outer) (n : Name) (t : Token) → Fits Operands o.frames → OpenStep (after_async false o n t)
after_async_open o n t h = cond_open t.after_line_end _ _ (after_operand_open o _ 0 t h) (async_kind_open o n t t.kind h)

uncover_open : (o : Outer) (c : Cover) (ns : List Name) → Fits Wholes o.frames → Fits Operands (uncover o c ns).frames
uncover_open o covers.Plain ns h = (refl, wholes_operands o.frames h)
uncover_open o (covers.Async n) ns h = (refl, wholes_operands o.frames h)

on_cover_other_open : (o : Outer) (c : Cover) (ns : List Name) (t : Token) → Fits Wholes o.frames → OpenStep (on_cover_other o c ns t)
on_cover_other_open o c ns t h = cond_open (is_close_paren t.kind) (to o (at.Covered c ns false)) _ (record { here = h.0; below = h.1 })
    (cond_open (may_be_values c ns) _ (refuse_at spot.Parameter) (begin_open (uncover o c ns) t (uncover_open o c ns h)) tt)

on_cover_kind_open : (o : Outer) (c : Cover) (ns : List Name) (t : Token) (k : TokenKind) → Fits Wholes o.frames → OpenStep (on_cover_kind o c ns t k)
on_cover_kind_open o c ns t (tok.Name u) h = record { here = h.0; below = h.1 }
on_cover_kind_open o c ns t _ h = on_cover_other_open o c ns t h

after_name_open : (o : Outer) (n : Name) (t : Token) → Fits Operands o.frames → OpenStep (after_name false o n t)
after_name_open o n t h = cond_open (is_async n.units) _ _ (after_async_open o n t h) (after_operand_open o _ 0 t h)

on_cover_name_open : (o : Outer) (c : Cover) (ns : List Name) (n : Name) (t : Token) → Fits Wholes o.frames → OpenStep (on_cover_name false o c ns n t)
on_cover_name_open o c ns n t h = cond_open (is_comma t.kind) (to o (at.CoverOpen c (ns ++ n ∷ []))) _ (record { here = h.0; below = h.1 })
    (cond_open (is_close_paren t.kind) (to o (at.Covered c (ns ++ n ∷ []) (has_none ns))) _ (record { here = h.0; below = h.1 })
    (cond_open (may_be_values c ns) _ (refuse_at spot.Parameter) (after_name_open (uncover o c ns) n t (uncover_open o c ns h)) tt))

group_of_open : (o : Outer) (t : Token) (n : Option Name) → Fits Operands o.frames → OpenStep (group_of false o t n)
group_of_open o t (Some n) h = after_operand_open o _ 0 t h
group_of_open o t None h = tt

covered_value_open : (o : Outer) (c : Cover) (ns : List Name) (b : Bool) (t : Token) → Fits Operands o.frames → OpenStep (covered_value false o c ns b t)
covered_value_open o (covers.Async n) ns b t h = after_operand_open o _ 1 t h
covered_value_open o covers.Plain ns true t h = group_of_open o t (only_name ns) h
covered_value_open o covers.Plain ns false t h = tt

on_covered_open : (o : Outer) (c : Cover) (ns : List Name) (b : Bool) (t : Token) → Fits Wholes o.frames → OpenStep (on_covered false o c ns b t)
on_covered_open o c ns b t h = cond_open (is_arrow t.kind && not t.after_line_end) (to o (at.ArrowBody (is_async_cover c) ns)) _ (record { here = h.0; below = h.1 }) (covered_value_open o c ns b t (wholes_operands o.frames h))

on_arrow_open : (o : Outer) (a : Bool) (ns : List Name) (t : Token) → Fits Wholes o.frames → OpenStep (on_arrow o a ns t)
on_arrow_open o a ns t h = cond_open (is_arrow t.kind && not t.after_line_end) (to o (at.ArrowBody a ns)) refuse (record { here = h.0; below = h.1 }) tt

arrow_value_open : (b : Bool) (x : Step) → OpenStep x → OpenStep (arrow_value b x)
arrow_value_open true (Ok n) h = tt
arrow_value_open true (Err k) h = tt
arrow_value_open false x h = h

on_arrow_body_open : (most : ℕ) (o : Outer) (a : Bool) (ns : List Name) (t : Token) → Fits Wholes o.frames → OpenStep (on_arrow_body most o a ns t)
on_arrow_body_open most o a ns t h = cond_open (is_open_brace t.kind) (open_block o 1 (block.Arrow a ns)) _ (record { here = refl; below = h })
    (arrow_value_open (nat_le most (constructs o)) _ (begin_open (push o 1 (frame.Tail (tail.Arrow a ns))) t (refl, h)))

on_new_at_open : (o : Outer) (q : ℕ) (k : TokenKind) → Fits Operands o.frames → OpenStep (on_new o q k)
on_new_at_open o q (tok.Name u) h = record { here = h.0; below = h.1 }
on_new_at_open o q _ h = tt

on_new_open_open : (o : Outer) (n : Name) (k : TokenKind) → Fits Operands o.frames → OpenStep (on_new_open o n k)
on_new_open_open o n k h = cond_open (is_open_paren k) (to o (at.NextArgument (callee.New n) [])) refuse (record { here = h.0; below = h.1 }) tt

member_of_open : (o : Outer) (x : Expr) (n : ℕ) (m : Option Name) → Fits Operands o.frames → OpenStep (member_of o x n m)
member_of_open o x n (Some m) h = record { here = h.0; below = h.1 }
member_of_open o x n None h = tt

on_argument_open : (o : Outer) (c : Callee) (xs : List Expr) (t : Token) → Fits Operands o.frames → OpenStep (on_argument o c xs t)
on_argument_open o c xs t h = cond_open (is_close_paren t.kind) _ _ (call_open o c xs h) (begin_open _ t (refl, h))

on_element_open : (o : Outer) (xs : List Expr) (t : Token) → Fits Operands o.frames → OpenStep (on_element o xs t)
on_element_open o xs t h = cond_open (is_close_bracket t.kind) (operand o (expr.Array xs)) _ (record { here = h.0; below = h.1 }) (begin_open _ t (refl, h))

-- ---- each spot

step_in_open : (o : Outer) (a : At) (t : Token) → Fits (place_of a) o.frames → OpenStep (step_in no_limit false o a t)
step_in_open o at.Statement t h = on_statement_open o t h
step_in_open o at.Begin t h = begin_open o t h
step_in_open o (at.Operand x n) t h = after_operand_open o x n t h
step_in_open o (at.Updated x) t h = after_value_open o x t (values_operands o.frames h)
step_in_open o (at.Whole x) t h = after_whole_open o x t (wholes_operands o.frames h)
step_in_open o (at.Async n) t h = after_async_open o n t h
step_in_open o (at.CoverOpen c ns) t h = on_cover_kind_open o c ns t t.kind h
step_in_open o (at.CoverName c ns n) t h = on_cover_name_open o c ns n t h
step_in_open o (at.Covered c ns b) t h = on_covered_open o c ns b t h
step_in_open o (at.Arrow a ns) t h = on_arrow_open o a ns t h
step_in_open o (at.ArrowBody a ns) t h = on_arrow_body_open no_limit o a ns t h
step_in_open o at.NewName t h = on_new_at_open o t.place t.kind h
step_in_open o (at.NewOpen n) t h = on_new_open_open o n t.kind h
step_in_open o (at.MemberName x n) t h = member_of_open o x n (any_name t.place t.kind) h
step_in_open o (at.NextArgument c xs) t h = on_argument_open o c xs t h
step_in_open o (at.NextElement xs) t h = on_element_open o xs t h
step_in_open o (at.Key xs) t h = on_key_open o xs t.place t.kind h
step_in_open o (at.NameKey xs n) t h = on_name_key_open o xs n t.kind h
step_in_open o (at.OtherKey xs k) t h = on_other_key_open o xs k t.kind h
step_in_open o (at.AsyncKey xs n) t h = on_async_key_open o xs n t h
step_in_open o (at.AsyncMethod xs k) t h = on_async_method_open o xs k t.kind h
step_in_open o (at.PropertyEnd xs) t h = on_property_end_open o xs t.kind h
step_in_open o (at.FunctionName d a) t h = on_function_name_open o d a t.place t.kind h
step_in_open o (at.ParametersOpen k) t h = on_parameters_open_open o k t.kind h
step_in_open o (at.Parameters k ns) t h = on_parameters_open_at o k ns t.place t.kind h
step_in_open o (at.ParameterRead k ns n) t h = on_parameter_read_open o k ns n t.kind h
step_in_open o (at.BodyOpen k ns) t h = on_body_open_open o k ns t.kind h
step_in_open o (at.DeclaredName d) t h = on_declared_name_open o d t.place t.kind h
step_in_open o (at.NameDeclared d n) t h = on_name_declared_open o d n t h
step_in_open o (at.Opening x) t h = on_opening_open o x t.kind h
step_in_open o at.ForHead t h = on_for_kind_open o t t.kind h
step_in_open o (at.ForTest b) t h = on_for_test_open o b t h
step_in_open o (at.ForUpdate b test) t h = on_for_update_open o b test t h
step_in_open o (at.AfterThen test s) t h = after_then_open o test s t h
step_in_open o (at.Jump s) t h = end_open o s t _ h
step_in_open o (at.Return q) t h = on_return_open o q t h
step_in_open o at.Throw t h = on_throw_open o t h
step_in_open o at.TryOpen t h = on_try_open o t.kind h
step_in_open o (at.AfterTry ss) t h = after_try_open o ss t.kind h
step_in_open o (at.CatchOpen ss) t h = on_catch_open o ss t.kind h
step_in_open o (at.CatchName ss) t h = on_catch_name_open o ss t.place t.kind h
step_in_open o (at.CatchClose ss n) t h = on_catch_close_open o ss n t.kind h
step_in_open o (at.CatchBody ss n) t h = on_catch_body_open o ss n t.kind h
step_in_open o (at.AfterCatch ss c) t h = after_catch_open o ss c t h
step_in_open o (at.FinallyOpen ss c) t h = on_finally_open o ss c t.kind h
step_in_open o at.ExportDefault t h = on_export_word_open o t.kind h
step_in_open o at.ExportObject t h = on_export_object_open o t.kind h
step_in_open o at.AfterExport t h = after_export_open o t h

step_open : (s : State) (t : Token) → IsOpen s → OpenStep (step no_limit false s t)
step_open s t h = subst OpenStep (sym (no_limit_is (step_in no_limit false s.outer s.at t))) (step_in_open s.outer s.at t (h.here, h.below))

take_step_open : (s : State) (q : Piece) → IsOpen s → OpenStep (take s q)
take_step_open s (Read t) h = cond_open (is_last t.kind) refuse _ tt (step_open s t h)
take_step_open s Ended h = cond_open (is_between s.at) refuse _ tt (step_open s end_token h)

-- ---- the laws

pub start_open : IsOpen start
start_open = record { here = refl; below = tt }

-- Each piece leads from such a state to such a state.
pub take_open : (s n : State) (q : Piece) → IsOpen s → take s q ≡ Ok n → IsOpen n
take_open s n q h e = subst OpenStep e (take_step_open s q h)

taken_open : (o : Step) (ps : List Piece) → OpenStep o → ((m : State) → IsOpen m → OpenStep (run m ps)) → OpenStep (taken o (λ m. run m ps))
taken_open (Ok m) ps h c = c m h
taken_open (Err k) ps h c = tt

run_step_open : (ps : List Piece) (s : State) → IsOpen s → OpenStep (run s ps)
run_step_open [] s h = h
run_step_open (q ∷ ps) s h = taken_open (take s q) ps (take_step_open s q h) (λ m i. run_step_open ps m i)

pub run_open : (ps : List Piece) (s n : State) → IsOpen s → run s ps ≡ Ok n → IsOpen n
run_open ps s n h e = subst OpenStep e (run_step_open ps s h)

-- Each state that a script leads to has an end.
pub reached_ending : (ps : List Piece) (s : State) → run start ps ≡ Ok s → Ending s
reached_ending ps s e = ending s (run_open ps start s start_open e)
