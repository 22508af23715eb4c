-- Each state has an end: some tokens lead from it to where a script may end.
use Rattle.std.proofs.Common.{◌≡◌, ℕ, Bool, true, false, cond, List, [], ◌∷◌, map, Option, Some, None, Ok, Err, refl, sym, ap, ◌∙◌, subst, arith}
use Rattle.std.specs.Prelude.{IsTrue, Result, not}
use Rattle.std.proofs.lemmas.Bool.{le-leb, false≢true}
use Rattle.js_lex.specs.declared.token.Punctuator.TheVariants as p
use Rattle.js_lex.specs.declared.token.Reserved.TheVariants as r
use Rattle.js_lex.specs.declared.token.TemplatePart.TheVariants as part
use Rattle.js_lex.specs.declared.token.TokenKind.{TokenKind}
use Rattle.js_lex.specs.declared.token.TokenKind.TheVariants as tok
use Rattle.js_lex.specs.declared.token.Token.{Token}
use Rattle.js_tree.specs.Targets.{target_of, target_in}
use Rattle.js_tree.specs.declared.tree.ArrowBody.TheOpen.{Expr-F}
use Rattle.js_tree.specs.declared.tree.BinaryOp.{BinaryOp}
use Rattle.js_tree.specs.declared.tree.Catch.{Catch}
use Rattle.js_tree.specs.declared.tree.Expr.{Expr, out-Expr, out-roll-Expr}
use Rattle.js_tree.specs.declared.tree.Expr.TheVariants as expr
use Rattle.js_tree.specs.declared.tree.ForBegin.{ForBegin}
use Rattle.js_tree.specs.declared.tree.Item.{Item}
use Rattle.js_tree.specs.declared.tree.Name.{Name}
use Rattle.js_tree.specs.declared.tree.Property.{Property}
use Rattle.js_tree.specs.declared.tree.Stmt.{Stmt}
use Rattle.js_tree.specs.declared.tree.Target.{Target}
use Rattle.js_tree.specs.declared.tree.Target.TheVariants as target
use Rattle.js_tree.specs.declared.tree.UpdateOp.{UpdateOp}
use Rattle.js_tree.specs.declared.tree.UpdateSide.TheVariants as side
use Rattle.js_grammar.specs.Marks.{Read}
use Rattle.js_grammar.specs.Shapes.{strength}
use Rattle.js_parse_core.specs.declared.machine.At.{At}
use Rattle.js_parse_core.specs.declared.machine.At.TheVariants as at
use Rattle.js_parse_core.specs.declared.machine.Block.{Block}
use Rattle.js_parse_core.specs.declared.machine.Block.TheVariants as block
use Rattle.js_parse_core.specs.declared.machine.Body.{Body}
use Rattle.js_parse_core.specs.declared.machine.Body.TheVariants as body
use Rattle.js_parse_core.specs.declared.machine.Callee.{Callee}
use Rattle.js_parse_core.specs.declared.machine.Callee.TheVariants as callee
use Rattle.js_parse_core.specs.declared.machine.Cover.{Cover}
use Rattle.js_parse_core.specs.declared.machine.Declared.{Declared}
use Rattle.js_parse_core.specs.declared.machine.Frame.{Frame}
use Rattle.js_parse_core.specs.declared.machine.Frame.TheVariants as frame
use Rattle.js_parse_core.specs.declared.machine.Head.{Head}
use Rattle.js_parse_core.specs.declared.machine.Head.TheVariants as head
use Rattle.js_parse_core.specs.declared.machine.Open.{Open}
use Rattle.js_parse_core.specs.declared.machine.Opening.{Opening}
use Rattle.js_parse_core.specs.declared.machine.Opening.TheVariants as opening
use Rattle.js_parse_core.specs.declared.machine.Operator.{Operator}
use Rattle.js_parse_core.specs.declared.machine.Operator.TheVariants as operator
use Rattle.js_parse_core.specs.declared.machine.Outer.{Outer}
use Rattle.js_parse_core.specs.declared.machine.Purpose.{Purpose}
use Rattle.js_parse_core.specs.declared.machine.Purpose.TheVariants as purpose
use Rattle.js_parse_core.specs.declared.machine.State.{State}
use Rattle.js_parse_core.specs.declared.machine.Tail.{Tail}
use Rattle.js_parse_core.specs.Expressions.{after_operand}
use Rattle.js_parse_core.specs.Machine.{step_in}
use Rattle.js_parse_core.specs.Objects.{close_object}
use Rattle.js_parse_core.specs.Outer.{Step, opened, first_frame, plus, constructs, complete, settle}
use Rattle.js_parse_core.specs.Statements.{statement_behind, with_declaration, close}
use Rattle.js_parse_core.specs.Values.{Folded, over, applied, updated, fold, end_tail, on_initial_done, on_value, on_folded, after_whole, after_value}
use Rattle.js_parse_core.proofs.OpenStates.{Place, Statements, Operands, Values, Wholes, Objects, is_within, is_update, place_of_head, place_of_name, place_of_block, place_of_purpose, place_of_frame, Stands, place_of, IsOpen}
use Rattle.js_parse_core.proofs.PieceLemmas.{run_step, take_is}
use Rattle.js_parse_core.proofs.Pieces.{no_limit, is_last, take, run, finish}

abbrev plain : TokenKind → Token
plain k = record { place = 0; after_line_end = false; kind = k }

abbrev outer : List Item → Bool → List Open → Outer
outer is b fs = record { items = is; exported = b; frames = fs }

-- ---- ends

pub record Ending (s : State) : Type 0 where
  pub more : List Token
  pub last : State
  pub over : State
  pub ran : run s (map Read more) ≡ Ok last
  pub ends : finish last ≡ Ok over

-- the step leads to a state that has an end
abbrev Ends : Step → Type 0
Ends (Ok n) = Ending n
Ends (Err k) = ⊥

then : (s : State) (k : TokenKind) → is_last k ≡ false → Ends (step_in no_limit false s.outer s.at (plain k)) → Ending s
then s k l e = go (take s (Read (plain k))) refl (subst Ends (sym (take_is s (plain k) l)) e)
  where
    go : (o : Step) → take s (Read (plain k)) ≡ o → Ends o → Ending s
    go (Ok n) i r = record { more = plain k ∷ r.more; last = r.last; over = r.over; ran = run_step s n (Read (plain k)) (map Read r.more) i ∙ r.ran; ends = r.ends }
    go (Err f) i r = absurd r

-- a state of these items
abbrev state : List Item → Bool → List Open → At → State
state is b fs a = record { outer = outer is b fs; at = a }

end_top : (is : List Item) (b : Bool) → Ending (state is b [] at.Statement)
end_top is b = record { more = []; last = state is b [] at.Statement; over = state is b [] at.Statement; ran = refl; ends = refl }

-- ---- a token that ends the value that stands there

-- no operator follows by it
record Closes (k : TokenKind) : Type 0 where
  read : is_last k ≡ false
  operand : (o : Outer) (x : Expr) (n : ℕ) → after_operand false o x n (plain k) ≡ after_whole false o x (plain k)
  value : (o : Outer) (x : Expr) → after_value false o x (plain k) ≡ after_whole false o x (plain k)

close_paren : Closes (tok.Punctuator p.CloseParen)
close_paren = record { read = refl; operand = λ o x n. refl; value = λ o x. refl }

close_bracket : Closes (tok.Punctuator p.CloseBracket)
close_bracket = record { read = refl; operand = λ o x n. refl; value = λ o x. refl }

close_brace : Closes (tok.Punctuator p.CloseBrace)
close_brace = record { read = refl; operand = λ o x n. refl; value = λ o x. refl }

semicolon : Closes (tok.Punctuator p.Semicolon)
semicolon = record { read = refl; operand = λ o x n. refl; value = λ o x. refl }

colon : Closes (tok.Punctuator p.Colon)
colon = record { read = refl; operand = λ o x n. refl; value = λ o x. refl }

template_tail : Closes (tok.Template part.Tail [])
template_tail = record { read = refl; operand = λ o x n. refl; value = λ o x. refl }

-- .. over these frames
record Closing (is : List Item) (b : Bool) (fs : List Open) (x : Expr) : Type 0 where
  token : TokenKind
  closes : Closes token
  ends : Ends (on_folded false (outer is b []) (plain token) (fold 0 fs x))

same_folded : (is : List Item) (b : Bool) (fs gs : List Open) (t : Token) (v : Folded) → on_folded false (outer is b fs) t v ≡ on_folded false (outer is b gs) t v
same_folded is b fs gs t (Ok v) = refl
same_folded is b fs gs t (Err k) = refl

closed : (is : List Item) (b : Bool) (fs : List Open) (x : Expr) → (c : Closing is b fs x) → Ends (after_whole false (outer is b fs) x (plain c.token))
closed is b fs x c = subst Ends (same_folded is b [] fs (plain c.token) (fold 0 fs x)) c.ends

end_operand : (is : List Item) (b : Bool) (fs : List Open) (x : Expr) (n : ℕ) → Closing is b fs x → Ending (state is b fs (at.Operand x n))
end_operand is b fs x n c = then _ c.token c.closes.read (subst Ends (sym (c.closes.operand (outer is b fs) x n)) (closed is b fs x c))

end_updated : (is : List Item) (b : Bool) (fs : List Open) (x : Expr) → Closing is b fs x → Ending (state is b fs (at.Updated x))
end_updated is b fs x c = then _ c.token c.closes.read (subst Ends (sym (c.closes.value (outer is b fs) x)) (closed is b fs x c))

end_whole : (is : List Item) (b : Bool) (fs : List Open) (x : Expr) → Closing is b fs x → Ending (state is b fs (at.Whole x))
end_whole is b fs x c = then _ c.token c.closes.read (closed is b fs x c)

-- ---- what each frame may stand in has an end

abbrev Is : Place → List Open → Type 0
Is q fs = IsTrue (is_within q (first_frame fs))

record EndsOver (fs : List Open) : Type 0 where
  between : (is : List Item) (b : Bool) → Is Statements fs → Ending (state is b fs at.Statement)
  complete : (is : List Item) (b : Bool) (s : Stmt) → Is Statements fs → Ends (complete (outer is b fs) s)
  settle : (is : List Item) (b : Bool) (s : Stmt) → Is Statements fs → Ends (statement_behind (settle (outer is b fs) s) (plain (tok.Punctuator p.Semicolon)))
  closing : (is : List Item) (b : Bool) (x : Expr) → Is Values fs → Closing is b fs x
  operand : (is : List Item) (b : Bool) (x : Expr) (n : ℕ) → Is Operands fs → Ending (state is b fs (at.Operand x n))
  object : (is : List Item) (b : Bool) (xs : List Property) → Is Objects fs → Ends (close_object (outer is b fs) xs)

wholes_values : (fs : List Open) → Is Wholes fs → Is Values fs
wholes_values [] h = h
wholes_values (f ∷ fs) h = go f.frame h
  where
    go : (k : Frame) → IsTrue (is_within Wholes (Some k)) → IsTrue (is_within Values (Some k))
    go (frame.Tail t) i = i
    go (frame.Purpose w) i = i
    go (frame.Operator o) i = absurd (false≢true i)
    go (frame.Body b) i = i
    go (frame.Block b ss) i = i
    go frame.Export i = i

over_none : EndsOver []
over_none = record {
  between = λ is b h. end_top is b;
  complete = λ is b s h. end_top _ b;
  settle = λ is b s h. end_top _ b;
  closing = λ is b x h. absurd (false≢true h);
  operand = λ is b x n h. absurd (false≢true h);
  object = λ is b xs h. absurd (false≢true h);
}

-- ---- behind braces

-- `}` behind the statements of a block
close_ends : (fs : List Open) → EndsOver fs → (is : List Item) (b : Bool) (k : Block) (ss : List Stmt) → Is (place_of_block k) fs → Ends (close (outer is b fs) k ss)
close_ends fs e is b block.Plain ss h = e.complete is b _ h
close_ends fs e is b (block.Function (head.Declaration a n) ns) ss h = e.complete is b _ h
close_ends fs e is b (block.Function (head.Expression a n) ns) ss h = e.operand is b _ _ h
close_ends fs e is b (block.Function (head.Method a xs k) ns) ss h = then _ (tok.Punctuator p.CloseBrace) refl (e.object is b _ h)
close_ends fs e is b (block.Arrow a ns) ss h = end_whole is b fs _ (e.closing is b _ (wholes_values fs h))
close_ends fs e is b block.Try ss h =
    then _ (tok.Reserved r.Finally) refl
    (then (state is b fs (at.FinallyOpen ss None)) (tok.Punctuator p.OpenBrace) refl
    (then (state is b (opened _ (frame.Block (block.Finally ss None) []) ∷ fs) at.Statement) (tok.Punctuator p.CloseBrace) refl (e.complete is b _ h)))
close_ends fs e is b (block.Catch tried n) ss h = then _ (tok.Punctuator p.Semicolon) refl (e.settle is b _ h)
close_ends fs e is b (block.Finally tried c) ss h = e.complete is b _ h

end_block : (fs : List Open) → EndsOver fs → (is : List Item) (b : Bool) (n : ℕ) (k : Block) (ss : List Stmt) → Is (place_of_block k) fs → Ending (state is b (opened n (frame.Block k ss) ∷ fs) at.Statement)
end_block fs e is b n k ss h = then _ (tok.Punctuator p.CloseBrace) refl (close_ends fs e is b k ss h)

over_block : (fs : List Open) → EndsOver fs → (n : ℕ) (k : Block) (ss : List Stmt) → Is (place_of_block k) fs → EndsOver (opened n (frame.Block k ss) ∷ fs)
over_block fs e n k ss h = record {
  between = λ is b i. end_block fs e is b n k ss h;
  complete = λ is b s i. end_block fs e is b n k _ h;
  settle = λ is b s i. end_block fs e is b n k _ h;
  closing = λ is b x i. absurd (false≢true i);
  operand = λ is b x m i. absurd (false≢true i);
  object = λ is b xs i. absurd (false≢true i);
}

-- ---- behind a body

end_then : (fs : List Open) → EndsOver fs → (is : List Item) (b : Bool) (test : Expr) (s : Stmt) → Is Statements fs → Ending (state is b fs (at.AfterThen test s))
end_then fs e is b test s h = then _ (tok.Punctuator p.Semicolon) refl (e.settle is b _ h)

end_of_body : (fs : List Open) → EndsOver fs → (is : List Item) (b : Bool) (n : ℕ) (k : Body) (s : Stmt) → Is Statements fs → Ends (complete (outer is b (opened n (frame.Body k) ∷ fs)) s)
end_of_body fs e is b n (body.Then test) s h = end_then fs e is b test s h
end_of_body fs e is b n (body.Else test a) s h = e.complete is b _ h
end_of_body fs e is b n (body.For begin test update) s h = e.complete is b _ h
end_of_body fs e is b n (body.ForOf k m x) s h = e.complete is b _ h
end_of_body fs e is b n (body.While test) s h = e.complete is b _ h

over_body : (fs : List Open) → EndsOver fs → (n : ℕ) (k : Body) → Is Statements fs → EndsOver (opened n (frame.Body k) ∷ fs)
over_body fs e n k h = record {
  between = λ is b i. then _ (tok.Punctuator p.Semicolon) refl (end_of_body fs e is b n k _ h);
  complete = λ is b s i. end_of_body fs e is b n k s h;
  settle = λ is b s i. e.settle is b _ h;
  closing = λ is b x i. absurd (false≢true i);
  operand = λ is b x m i. absurd (false≢true i);
  object = λ is b xs i. absurd (false≢true i);
}

-- behind the head of a loop or of an `if`
end_head : (fs : List Open) → EndsOver fs → (is : List Item) (b : Bool) (n : ℕ) (k : Body) → Is Statements fs → Ending (state is b (opened n (frame.Body k) ∷ fs) at.Statement)
end_head fs e is b n k h = (over_body fs e n k h).between is b refl

-- ---- behind a value

over_export : (fs : List Open) → EndsOver fs → (n : ℕ) → Is Statements fs → EndsOver (opened n frame.Export ∷ fs)
over_export fs e n h = record {
  between = λ is b i. absurd (false≢true i);
  complete = λ is b s i. absurd (false≢true i);
  settle = λ is b s i. absurd (false≢true i);
  closing = λ is b x i. absurd (false≢true i);
  operand = λ is b x m i. absurd (false≢true i);
  object = λ is b xs i. then _ (tok.Punctuator p.Semicolon) refl (e.between _ true h);
}

-- no operator waits
fold_wholes : (fs : List Open) (x : Expr) → Is Wholes fs → fold 0 fs x ≡ over fs x
fold_wholes [] x h = absurd (false≢true h)
fold_wholes (f ∷ fs) x h = go f.frame h
  where
    go : (k : Frame) → IsTrue (is_within Wholes (Some k)) → fold 0 (opened f.constructs k ∷ fs) x ≡ over (opened f.constructs k ∷ fs) x
    go (frame.Tail t) i = refl
    go (frame.Purpose w) i = refl
    go (frame.Operator o) i = absurd (false≢true i)
    go (frame.Body b) i = absurd (false≢true i)
    go (frame.Block b ss) i = absurd (false≢true i)
    go frame.Export i = absurd (false≢true i)

over_tail : (fs : List Open) → EndsOver fs → (n : ℕ) (t : Tail) → Is Wholes fs → EndsOver (opened n (frame.Tail t) ∷ fs)
over_tail fs e n t h = record {
  between = λ is b i. absurd (false≢true i);
  complete = λ is b s i. absurd (false≢true i);
  settle = λ is b s i. absurd (false≢true i);
  closing = λ is b x i. close is b x;
  operand = λ is b x m i. end_operand is b _ x m (close is b x);
  object = λ is b xs i. end_operand is b _ _ 0 (close is b _);
}
  where
    close : (is : List Item) (b : Bool) (x : Expr) → Closing is b (opened n (frame.Tail t) ∷ fs) x
    close is b x =
        let c : Closing is b fs (end_tail t x) = e.closing is b (end_tail t x) (wholes_values fs h) in
        record { token = c.token; closes = c.closes; ends = subst (λ (v : Folded). Ends (on_folded false (outer is b []) (plain c.token) v)) (fold_wholes fs (end_tail t x) h) c.ends }

-- each operator that waits gets its operand
fold_binary : (n : ℕ) (l : Expr) (o : BinaryOp) (fs : List Open) (x : Expr) → fold 0 (opened n (frame.Operator (operator.Binary l o)) ∷ fs) x ≡ fold 0 fs (expr.Binary o l x)
fold_binary n l o fs x = ap (λ (b : Bool). cond b (fold 0 fs (expr.Binary o l x)) (over (opened n (frame.Operator (operator.Binary l o)) ∷ fs) x)) (le-leb 0 (strength o) (omega arith))

member_target : (x : Expr) (m : Name) → target_of (expr.Member x m) ≡ Ok (target.Field x m)
member_target x m = ap (target_in (expr.Member x m)) (ap out-Expr (sym (expr.rolls-Member x m)) ∙ out-roll-Expr (Expr-F.Member x m))

fold_update : (n : ℕ) (o : UpdateOp) (fs : List Open) (x : Expr) (m : Name) → fold 0 (opened n (frame.Operator (operator.Update o)) ∷ fs) (expr.Member x m) ≡ fold 0 fs (expr.Update side.Before o (target.Field x m))
fold_update n o fs x m = ap (λ (z : Result Target Expr). applied (updated z (λ t. expr.Update side.Before o t)) (λ y. fold 0 fs y)) (member_target x m)

over_operator : (fs : List Open) → EndsOver fs → (n : ℕ) (o : Operator) → Is Values fs → EndsOver (opened n (frame.Operator o) ∷ fs)
over_operator fs e n o h = record {
  between = λ is b i. absurd (false≢true i);
  complete = λ is b s i. absurd (false≢true i);
  settle = λ is b s i. absurd (false≢true i);
  closing = λ is b x i. close o i is b x;
  operand = λ is b x m i. named o is b x m;
  object = λ is b xs i. named o is b _ 0;
}
  where
    close : (o : Operator) → IsTrue (not (is_update o)) → (is : List Item) (b : Bool) (x : Expr) → Closing is b (opened n (frame.Operator o) ∷ fs) x
    close (operator.Binary l o) i is b x =
        let c : Closing is b fs (expr.Binary o l x) = e.closing is b (expr.Binary o l x) h in
        record { token = c.token; closes = c.closes; ends = subst (λ (v : Folded). Ends (on_folded false (outer is b []) (plain c.token) v)) (sym (fold_binary n l o fs x)) c.ends }
    close (operator.Unary o) i is b x =
        let c : Closing is b fs (expr.Unary o x) = e.closing is b (expr.Unary o x) h in
        record { token = c.token; closes = c.closes; ends = c.ends }
    close (operator.Await q) i is b x =
        let c : Closing is b fs (expr.Await q x) = e.closing is b (expr.Await q x) h in
        record { token = c.token; closes = c.closes; ends = c.ends }
    close (operator.Update o) i is b x = absurd (false≢true i)

    -- a member of it can be written to
    updates : (o : UpdateOp) (is : List Item) (b : Bool) (x : Expr) (m : ℕ) → Ending (state is b (opened n (frame.Operator (operator.Update o)) ∷ fs) (at.Operand x m))
    updates o is b x m =
        let y : Expr = expr.Member x (record { place = 0; units = [] }) in
        let z : Expr = expr.Update side.Before o (target.Field x (record { place = 0; units = [] })) in
        let c : Closing is b fs z = e.closing is b z h in
        then _ (tok.Punctuator p.Dot) refl
        (then (state is b (opened n (frame.Operator (operator.Update o)) ∷ fs) (at.MemberName x m)) (tok.Name []) refl
        (end_operand is b (opened n (frame.Operator (operator.Update o)) ∷ fs) y (plus m 1) (record {
          token = c.token;
          closes = c.closes;
          ends = subst (λ (v : Folded). Ends (on_folded false (outer is b []) (plain c.token) v)) (sym (fold_update n o fs x (record { place = 0; units = [] }))) c.ends;
        })))

    named : (o : Operator) (is : List Item) (b : Bool) (x : Expr) (m : ℕ) → Ending (state is b (opened n (frame.Operator o) ∷ fs) (at.Operand x m))
    named (operator.Update o) is b x m = updates o is b x m
    named (operator.Binary l o) is b x m = end_operand is b _ x m (close (operator.Binary l o) refl is b x)
    named (operator.Unary o) is b x m = end_operand is b _ x m (close (operator.Unary o) refl is b x)
    named (operator.Await q) is b x m = end_operand is b _ x m (close (operator.Await q) refl is b x)

-- an operand begins
end_begin : (fs : List Open) → EndsOver fs → (is : List Item) (b : Bool) → Is Operands fs → Ending (state is b fs at.Begin)
end_begin fs e is b h = then _ (tok.Name []) refl (e.operand is b _ 0 h)

-- within the brackets of a `for`
end_for_update : (fs : List Open) → EndsOver fs → (is : List Item) (b : Bool) (k : ForBegin) (test : Option Expr) → Is Statements fs → Ending (state is b fs (at.ForUpdate k test))
end_for_update fs e is b k test h = then _ (tok.Punctuator p.CloseParen) refl (end_head fs e is b _ _ h)

end_for_test : (fs : List Open) → EndsOver fs → (is : List Item) (b : Bool) (k : ForBegin) → Is Statements fs → Ending (state is b fs (at.ForTest k))
end_for_test fs e is b k h = then _ (tok.Punctuator p.Semicolon) refl (end_for_update fs e is b k None h)

end_initial : (fs : List Open) → EndsOver fs → (is : List Item) (b : Bool) (d : Declared) → Is Statements fs → (c : Bool) → Ends (on_initial_done false (outer is b fs) d (plain (tok.Punctuator p.Semicolon)) c)
end_initial fs e is b d h true = end_for_test fs e is b _ h
end_initial fs e is b d h false = e.complete is b _ h

-- a token that ends the value, which is for this
record EndedBy (is : List Item) (b : Bool) (fs : List Open) (w : Purpose) (x : Expr) : Type 0 where
  token : TokenKind
  closes : Closes token
  ends : Ends (on_value false (outer is b fs) w x (plain token))

ended_by : (fs : List Open) → EndsOver fs → (is : List Item) (b : Bool) (w : Purpose) (x : Expr) → Is (place_of_purpose w) fs → EndedBy is b fs w x
ended_by fs e is b (purpose.Then test) x h = record { token = tok.Punctuator p.Colon; closes = colon; ends = end_begin _ (over_tail fs e _ _ h) is b refl }
ended_by fs e is b purpose.Group x h = record { token = tok.Punctuator p.CloseParen; closes = close_paren; ends = e.operand is b _ _ h }
ended_by fs e is b (purpose.Argument (callee.Value y n) xs) x h = record { token = tok.Punctuator p.CloseParen; closes = close_paren; ends = e.operand is b _ _ h }
ended_by fs e is b (purpose.Argument (callee.New n) xs) x h = record { token = tok.Punctuator p.CloseParen; closes = close_paren; ends = e.operand is b _ _ h }
ended_by fs e is b (purpose.Index y n) x h = record { token = tok.Punctuator p.CloseBracket; closes = close_bracket; ends = e.operand is b _ _ h }
ended_by fs e is b (purpose.Element xs) x h = record { token = tok.Punctuator p.CloseBracket; closes = close_bracket; ends = e.operand is b _ _ h }
ended_by fs e is b (purpose.Pair xs k) x h = record { token = tok.Punctuator p.CloseBrace; closes = close_brace; ends = e.object is b _ h }
ended_by fs e is b (purpose.Hole js u) x h = record { token = tok.Template part.Tail []; closes = template_tail; ends = e.operand is b _ _ h }
ended_by fs e is b purpose.If x h = record { token = tok.Punctuator p.CloseParen; closes = close_paren; ends = end_head fs e is b _ _ h }
ended_by fs e is b purpose.While x h = record { token = tok.Punctuator p.CloseParen; closes = close_paren; ends = end_head fs e is b _ _ h }
ended_by fs e is b purpose.ForStart x h = record { token = tok.Punctuator p.Semicolon; closes = semicolon; ends = end_for_test fs e is b _ h }
ended_by fs e is b (purpose.ForTest k) x h = record { token = tok.Punctuator p.Semicolon; closes = semicolon; ends = end_for_update fs e is b _ _ h }
ended_by fs e is b (purpose.ForUpdate k test) x h = record { token = tok.Punctuator p.CloseParen; closes = close_paren; ends = end_head fs e is b _ _ h }
ended_by fs e is b (purpose.ForOf k n) x h = record { token = tok.Punctuator p.CloseParen; closes = close_paren; ends = end_head fs e is b _ _ h }
ended_by fs e is b purpose.Statement x h = record { token = tok.Punctuator p.Semicolon; closes = semicolon; ends = e.complete is b _ h }
ended_by fs e is b (purpose.Initial d n) x h = record { token = tok.Punctuator p.Semicolon; closes = semicolon; ends = end_initial fs e is b (with_declaration d n (Some x)) h d.in_for }
ended_by fs e is b (purpose.Return q) x h = record { token = tok.Punctuator p.Semicolon; closes = semicolon; ends = e.complete is b _ h }
ended_by fs e is b purpose.Throw x h = record { token = tok.Punctuator p.Semicolon; closes = semicolon; ends = e.complete is b _ h }

over_purpose : (fs : List Open) → EndsOver fs → (n : ℕ) (w : Purpose) → Is (place_of_purpose w) fs → EndsOver (opened n (frame.Purpose w) ∷ fs)
over_purpose fs e n w h = record {
  between = λ is b i. absurd (false≢true i);
  complete = λ is b s i. absurd (false≢true i);
  settle = λ is b s i. absurd (false≢true i);
  closing = λ is b x i. close is b x;
  operand = λ is b x m i. end_operand is b _ x m (close is b x);
  object = λ is b xs i. end_operand is b _ _ 0 (close is b _);
}
  where
    close : (is : List Item) (b : Bool) (x : Expr) → Closing is b (opened n (frame.Purpose w) ∷ fs) x
    close is b x = let c : EndedBy is b fs w x = ended_by fs e is b w x h in record { token = c.token; closes = c.closes; ends = c.ends }

over_frame : (fs : List Open) → EndsOver fs → (n : ℕ) (k : Frame) → Is (place_of_frame k) fs → EndsOver (opened n k ∷ fs)
over_frame fs e n (frame.Operator o) h = over_operator fs e n o h
over_frame fs e n (frame.Tail t) h = over_tail fs e n t h
over_frame fs e n (frame.Purpose w) h = over_purpose fs e n w h
over_frame fs e n (frame.Body k) h = over_body fs e n k h
over_frame fs e n (frame.Block k ss) h = over_block fs e n k ss h
over_frame fs e n frame.Export h = over_export fs e n h

ends_over : (fs : List Open) → Stands fs → EndsOver fs
ends_over [] h = over_none
ends_over (f ∷ fs) h = over_frame fs (ends_over fs h.1) f.constructs f.frame h.0

-- ---- each spot

end_arrow_body : (fs : List Open) → EndsOver fs → (is : List Item) (b : Bool) (a : Bool) (ns : List Name) → Is Wholes fs → Ending (state is b fs (at.ArrowBody a ns))
end_arrow_body fs e is b a ns h = then _ (tok.Punctuator p.OpenBrace) refl (end_block fs e is b _ (block.Arrow a ns) _ h)

end_covered : (fs : List Open) → EndsOver fs → (is : List Item) (b : Bool) (c : Cover) (ns : List Name) (d : Bool) → Is Wholes fs → Ending (state is b fs (at.Covered c ns d))
end_covered fs e is b c ns d h = then _ (tok.Punctuator p.Arrow) refl (end_arrow_body fs e is b _ _ h)

end_arguments : (fs : List Open) → EndsOver fs → (is : List Item) (b : Bool) (c : Callee) (xs : List Expr) → Is Operands fs → Ending (state is b fs (at.NextArgument c xs))
end_arguments fs e is b (callee.Value y n) xs h = then _ (tok.Punctuator p.CloseParen) refl (e.operand is b _ _ h)
end_arguments fs e is b (callee.New n) xs h = then _ (tok.Punctuator p.CloseParen) refl (e.operand is b _ _ h)

end_new : (fs : List Open) → EndsOver fs → (is : List Item) (b : Bool) (n : Name) → Is Operands fs → Ending (state is b fs (at.NewOpen n))
end_new fs e is b n h = then _ (tok.Punctuator p.OpenParen) refl (end_arguments fs e is b _ _ h)

end_member : (fs : List Open) → EndsOver fs → (is : List Item) (b : Bool) (x : Expr) (n : ℕ) → Is Operands fs → Ending (state is b fs (at.MemberName x n))
end_member fs e is b x n h = then _ (tok.Name []) refl (e.operand is b _ _ h)

end_body_open : (fs : List Open) → EndsOver fs → (is : List Item) (b : Bool) (k : Head) (ns : List Name) → Is (place_of_head k) fs → Ending (state is b fs (at.BodyOpen k ns))
end_body_open fs e is b k ns h = then _ (tok.Punctuator p.OpenBrace) refl (end_block fs e is b _ (block.Function k ns) _ h)

end_parameters : (fs : List Open) → EndsOver fs → (is : List Item) (b : Bool) (k : Head) (ns : List Name) → Is (place_of_head k) fs → Ending (state is b fs (at.Parameters k ns))
end_parameters fs e is b k ns h = then _ (tok.Punctuator p.CloseParen) refl (end_body_open fs e is b k ns h)

end_parameters_open : (fs : List Open) → EndsOver fs → (is : List Item) (b : Bool) (k : Head) → Is (place_of_head k) fs → Ending (state is b fs (at.ParametersOpen k))
end_parameters_open fs e is b k h = then _ (tok.Punctuator p.OpenParen) refl (end_parameters fs e is b k _ h)

end_function_name : (fs : List Open) → EndsOver fs → (is : List Item) (b : Bool) (d a : Bool) → Is (place_of_name d) fs → Ending (state is b fs (at.FunctionName d a))
end_function_name fs e is b true a h = then _ (tok.Name []) refl (end_parameters_open fs e is b _ h)
end_function_name fs e is b false a h = then _ (tok.Name []) refl (end_parameters_open fs e is b _ h)

end_declared : (fs : List Open) → EndsOver fs → (is : List Item) (b : Bool) (d : Declared) (n : Name) → Is Statements fs → Ending (state is b fs (at.NameDeclared d n))
end_declared fs e is b d n h = then _ (tok.Punctuator p.Equal) refl (end_begin _ (over_purpose fs e _ (purpose.Initial d n) h) is b refl)

end_for_head : (fs : List Open) → EndsOver fs → (is : List Item) (b : Bool) → Is Statements fs → Ending (state is b fs at.ForHead)
end_for_head fs e is b h = then _ (tok.Punctuator p.Semicolon) refl (end_for_test fs e is b _ h)

end_opening : (fs : List Open) → EndsOver fs → (is : List Item) (b : Bool) (x : Opening) → Is Statements fs → Ending (state is b fs (at.Opening x))
end_opening fs e is b opening.If h = then _ (tok.Punctuator p.OpenParen) refl (end_begin _ (over_purpose fs e _ purpose.If h) is b refl)
end_opening fs e is b opening.While h = then _ (tok.Punctuator p.OpenParen) refl (end_begin _ (over_purpose fs e _ purpose.While h) is b refl)
end_opening fs e is b opening.For h = then _ (tok.Punctuator p.OpenParen) refl (end_for_head fs e is b h)

end_finally : (fs : List Open) → EndsOver fs → (is : List Item) (b : Bool) (ss : List Stmt) (c : Option Catch) → Is Statements fs → Ending (state is b fs (at.FinallyOpen ss c))
end_finally fs e is b ss c h = then _ (tok.Punctuator p.OpenBrace) refl (end_block fs e is b _ (block.Finally ss c) _ h)

end_catch_body : (fs : List Open) → EndsOver fs → (is : List Item) (b : Bool) (ss : List Stmt) (n : Name) → Is Statements fs → Ending (state is b fs (at.CatchBody ss n))
end_catch_body fs e is b ss n h = then _ (tok.Punctuator p.OpenBrace) refl (end_block fs e is b _ (block.Catch ss (Some n)) _ h)

end_catch_close : (fs : List Open) → EndsOver fs → (is : List Item) (b : Bool) (ss : List Stmt) (n : Name) → Is Statements fs → Ending (state is b fs (at.CatchClose ss n))
end_catch_close fs e is b ss n h = then _ (tok.Punctuator p.CloseParen) refl (end_catch_body fs e is b ss n h)

end_export : (fs : List Open) → EndsOver fs → (is : List Item) (b : Bool) → Is Statements fs → Ending (state is b fs at.ExportObject)
end_export fs e is b h =
    then _ (tok.Punctuator p.OpenBrace) refl
    (then (state is b (opened (plus (constructs (outer is b fs)) 0) frame.Export ∷ fs) (at.Key [])) (tok.Punctuator p.CloseBrace) refl ((over_export fs e (plus (constructs (outer is b fs)) 0) h).object is b [] refl))

end_at : (fs : List Open) → EndsOver fs → (is : List Item) (b : Bool) (a : At) → Is (place_of a) fs → Ending (state is b fs a)
end_at fs e is b at.Statement h = e.between is b h
end_at fs e is b at.Begin h = end_begin fs e is b h
end_at fs e is b (at.Operand x n) h = e.operand is b x n h
end_at fs e is b (at.Updated x) h = end_updated is b fs x (e.closing is b x h)
end_at fs e is b (at.Whole x) h = end_whole is b fs x (e.closing is b x (wholes_values fs h))
end_at fs e is b (at.Async n) h = then _ (tok.Punctuator p.Dot) refl (end_member fs e is b _ _ h)
end_at fs e is b (at.CoverOpen c ns) h = then _ (tok.Punctuator p.CloseParen) refl (end_covered fs e is b _ _ _ h)
end_at fs e is b (at.CoverName c ns n) h = then _ (tok.Punctuator p.CloseParen) refl (end_covered fs e is b _ _ _ h)
end_at fs e is b (at.Covered c ns d) h = end_covered fs e is b c ns d h
end_at fs e is b (at.Arrow a ns) h = then _ (tok.Punctuator p.Arrow) refl (end_arrow_body fs e is b _ _ h)
end_at fs e is b (at.ArrowBody a ns) h = end_arrow_body fs e is b a ns h
end_at fs e is b at.NewName h = then _ (tok.Name []) refl (end_new fs e is b _ h)
end_at fs e is b (at.NewOpen n) h = end_new fs e is b n h
end_at fs e is b (at.MemberName x n) h = end_member fs e is b x n h
end_at fs e is b (at.NextArgument c xs) h = end_arguments fs e is b c xs h
end_at fs e is b (at.NextElement xs) h = then _ (tok.Punctuator p.CloseBracket) refl (e.operand is b _ _ h)
end_at fs e is b (at.Key xs) h = then _ (tok.Punctuator p.CloseBrace) refl (e.object is b _ h)
end_at fs e is b (at.NameKey xs n) h = then _ (tok.Punctuator p.CloseBrace) refl (e.object is b _ h)
end_at fs e is b (at.OtherKey xs k) h = then _ (tok.Punctuator p.OpenParen) refl (end_parameters fs e is b _ _ h)
end_at fs e is b (at.AsyncKey xs n) h = then _ (tok.Punctuator p.CloseBrace) refl (e.object is b _ h)
end_at fs e is b (at.AsyncMethod xs k) h = then _ (tok.Punctuator p.OpenParen) refl (end_parameters fs e is b _ _ h)
end_at fs e is b (at.PropertyEnd xs) h = then _ (tok.Punctuator p.CloseBrace) refl (e.object is b _ h)
end_at fs e is b (at.FunctionName d a) h = end_function_name fs e is b d a h
end_at fs e is b (at.ParametersOpen k) h = end_parameters_open fs e is b k h
end_at fs e is b (at.Parameters k ns) h = end_parameters fs e is b k ns h
end_at fs e is b (at.ParameterRead k ns n) h = then _ (tok.Punctuator p.CloseParen) refl (end_body_open fs e is b k _ h)
end_at fs e is b (at.BodyOpen k ns) h = end_body_open fs e is b k ns h
end_at fs e is b (at.DeclaredName d) h = then _ (tok.Name []) refl (end_declared fs e is b d _ h)
end_at fs e is b (at.NameDeclared d n) h = end_declared fs e is b d n h
end_at fs e is b (at.Opening x) h = end_opening fs e is b x h
end_at fs e is b at.ForHead h = end_for_head fs e is b h
end_at fs e is b (at.ForTest k) h = end_for_test fs e is b k h
end_at fs e is b (at.ForUpdate k test) h = end_for_update fs e is b k test h
end_at fs e is b (at.AfterThen test s) h = end_then fs e is b test s h
end_at fs e is b (at.Jump s) h = then _ (tok.Punctuator p.Semicolon) refl (e.complete is b _ h)
end_at fs e is b (at.Return q) h = then _ (tok.Punctuator p.Semicolon) refl (e.complete is b _ h)
end_at fs e is b at.Throw h = then _ (tok.Name []) refl ((over_purpose fs e _ purpose.Throw h).operand is b _ _ refl)
end_at fs e is b at.TryOpen h = then _ (tok.Punctuator p.OpenBrace) refl (end_block fs e is b _ block.Try _ h)
end_at fs e is b (at.AfterTry ss) h = then _ (tok.Reserved r.Finally) refl (end_finally fs e is b ss None h)
end_at fs e is b (at.CatchOpen ss) h = then _ (tok.Punctuator p.OpenBrace) refl (end_block fs e is b _ (block.Catch ss None) _ h)
end_at fs e is b (at.CatchName ss) h = then _ (tok.Name []) refl (end_catch_close fs e is b ss _ h)
end_at fs e is b (at.CatchClose ss n) h = end_catch_close fs e is b ss n h
end_at fs e is b (at.CatchBody ss n) h = end_catch_body fs e is b ss n h
end_at fs e is b (at.AfterCatch ss c) h = then _ (tok.Punctuator p.Semicolon) refl (e.settle is b _ h)
end_at fs e is b (at.FinallyOpen ss c) h = end_finally fs e is b ss c h
end_at fs e is b at.ExportDefault h = then _ (tok.Reserved r.Default) refl (end_export fs e is b h)
end_at fs e is b at.ExportObject h = end_export fs e is b h
end_at fs e is b at.AfterExport h = then _ (tok.Punctuator p.Semicolon) refl (e.between is b h)

-- A state that is open as it may be has an end.
pub ending : (s : State) → IsOpen s → Ending s
ending s h = end_at s.outer.frames (ends_over s.outer.frames h.below) s.outer.items s.outer.exported s.at h.here
