-- A token where ends are put in, against one where they stand among the tokens.
use Rattle.std.proofs.Common.{◌≡◌, ℕ, Bool, true, false, cond, List, [], ◌∷◌, ◌++◌, Option, Some, None, Ok, Err, refl, sym, ap, ◌∙◌, subst, arith}
use Rattle.std.proofs.lemmas.Bool.{le-leb, false≢true, true≢false, and_parts, or_parts, not-true}
use Rattle.std.specs.Prelude.{Result, not, ◌&&◌, ◌||◌, nat_le}
use Rattle.js_lex.specs.declared.token.Punctuator.{Punctuator}
use Rattle.js_lex.specs.declared.token.Punctuator.TheVariants as p
use Rattle.js_lex.specs.declared.token.Reserved.TheVariants as r
use Rattle.js_lex.specs.declared.token.TokenKind.{TokenKind}
use Rattle.js_lex.specs.declared.token.TokenKind.TheVariants as tok
use Rattle.js_lex.specs.declared.token.Token.{Token}
use Rattle.js_tree.specs.Targets.{target_of, target_in, Node}
use Rattle.js_tree.specs.declared.tree.ArrowBody.TheOpen.{Expr-F}
use Rattle.js_tree.specs.declared.tree.AssignOp.{AssignOp}
use Rattle.js_tree.specs.declared.tree.AssignOp.TheVariants as assign
use Rattle.js_tree.specs.declared.tree.BinaryOp.{BinaryOp}
use Rattle.js_tree.specs.declared.tree.BinaryOp.TheVariants as binary
use Rattle.js_tree.specs.declared.tree.DeclareKind.{DeclareKind}
use Rattle.js_tree.specs.declared.tree.DeclareKind.TheVariants as declare
use Rattle.js_tree.specs.declared.tree.Expr.{Expr, out-Expr}
use Rattle.js_tree.specs.declared.tree.Expr.TheVariants as expr
use Rattle.js_tree.specs.declared.tree.Item.TheVariants as item
use Rattle.js_tree.specs.declared.tree.Name.{Name}
use Rattle.js_tree.specs.declared.tree.Stmt.{Stmt}
use Rattle.js_tree.specs.declared.tree.Stmt.TheVariants as stmt
use Rattle.js_tree.specs.declared.tree.Target.{Target}
use Rattle.js_tree.specs.declared.tree.UpdateOp.{UpdateOp}
use Rattle.js_tree.specs.declared.tree.UpdateOp.TheVariants as update
use Rattle.js_words.specs.declared.word.Spot.TheVariants as spot
use Rattle.js_grammar.specs.Marks.{Read, Ended}
use Rattle.js_grammar.specs.Shapes.{strength}
use Rattle.js_parse_core.specs.declared.machine.At.{At}
use Rattle.js_parse_core.specs.declared.machine.At.TheVariants as at
use Rattle.js_parse_core.specs.declared.machine.Body.{Body}
use Rattle.js_parse_core.specs.declared.machine.Body.TheVariants as body
use Rattle.js_parse_core.specs.declared.machine.Cover.{Cover}
use Rattle.js_parse_core.specs.declared.machine.Cover.TheVariants as covers
use Rattle.js_parse_core.specs.declared.machine.Declared.{Declared}
use Rattle.js_parse_core.specs.declared.machine.Frame.{Frame}
use Rattle.js_parse_core.specs.declared.machine.Frame.TheVariants as frame
use Rattle.js_parse_core.specs.declared.machine.Open.{Open}
use Rattle.js_parse_core.specs.declared.machine.Operator.{Operator}
use Rattle.js_parse_core.specs.declared.machine.Operator.TheVariants as operator
use Rattle.js_parse_core.specs.declared.machine.Outer.{Outer}
use Rattle.js_parse_core.specs.declared.machine.Position.{Position}
use Rattle.js_parse_core.specs.declared.machine.Position.TheVariants as positions
use Rattle.js_parse_core.specs.declared.machine.Purpose.{Purpose}
use Rattle.js_parse_core.specs.declared.machine.Purpose.TheVariants as purpose
use Rattle.js_parse_core.specs.declared.machine.Refusal.{Refusal}
use Rattle.js_parse_core.specs.declared.machine.Refusal.TheVariants as refusal
use Rattle.js_parse_core.specs.declared.machine.State.{State}
use Rattle.js_parse_core.specs.Begin.{begin}
use Rattle.js_parse_core.specs.Expressions.{assign_to, on_assign, update_of, update_at, on_update, arrow_of, arrow_behind, operand_sign, after_operand, async_function, async_paren, async_kind, after_async, uncover, as_values, may_be_values, after_name, on_cover_name, only_name, group_of, covered_value, on_covered, arrow_value}
use Rattle.js_parse_core.specs.Machine.{step_in, step}
use Rattle.js_parse_core.specs.Statements as st
use Rattle.js_parse_core.specs.Tokens.{is_async, is_comma, is_close_brace, is_else, is_close_paren, is_semicolon, is_equal, is_of, may_end, is_arrow, is_end}
use Rattle.js_parse_core.specs.Values.{Over, Folded, over, apply, applied, fold, fold_tails, on_initial_done, on_initial_end, on_value, on_over, on_folded, after_whole, are_mixed, logic_of, outermost, waiting, joins, joins_folded, binary_behind, on_binary, tests, after_operator, binary_op, after_value}
use Rattle.js_parse_core.specs.Outer.{Step, because, refuse, with_body, push_at, refuse_at, push, opened, framed, position, complete_body, complete_frame, complete_in, complete, settle_frame, settle_in, settle, wait, wait_body, constructs, is_whole}
use Rattle.js_parse_core.proofs.PieceLemmas.{no_limit_is, take_is}
use Rattle.js_parse_core.proofs.Pieces.{no_limit, end_token, is_between, is_last, take, taken, finish}

abbrev tk : ℕ → Bool → TokenKind → Token
tk q l k = record { place = q; after_line_end = l; kind = k }

-- ---- steps that lead to one state, or to none

abbrev pub Same : Step → Step → Type 0
Same (Ok a) (Ok b) = a ≡ b
Same (Err j) (Err k) = Unit {0}
Same _ _ = ⊥

abbrev Refused : Step → Type 0
Refused (Ok n) = ⊥
Refused (Err k) = Unit {0}

-- one of the two is refused
abbrev pub Bar : Step → Step → Type 0
Bar (Ok m) (Ok n) = ⊥
Bar _ _ = Unit {0}

same_refl : (x : Step) → Same x x
same_refl (Ok n) = refl
same_refl (Err k) = tt

same_is : (x y z : Step) → y ≡ z → Same x y → Same x z
same_is x y z e h = subst (Same x) e h

same_refused : (x y : Step) → Refused x → Refused y → Same x y
same_refused (Err j) (Err k) h i = tt
same_refused (Err j) (Ok n) h i = absurd i
same_refused (Ok m) y h i = absurd h

-- t behind the step
abbrev pub behind : Step → Token → Step
behind (Ok m) t = step_in no_limit false m.outer m.at t
behind (Err k) t = Err k

-- the token's own step; else, where an end may stand, the step behind one
abbrev pub or_end : Step → Bool → Step → Token → Step
or_end (Ok n) b ended t = Ok n
or_end (Err k) true ended t = behind ended t
or_end (Err k) false ended t = Err k

-- an `End` is no token of the text
abbrev own : TokenKind → Step → Step
own k x = cond (is_end k) refuse x

record Follows (full strict ended : Step) (q : ℕ) (l : Bool) (k : TokenKind) : Type 0 where
  next : Same full (or_end (own k strict) (may_end (tk q l k)) ended (tk q l k))
  brace : is_close_brace k ≡ true → Bar strict ended

-- ---- kinds of tokens

abbrev is_other : TokenKind → Bool
is_other k = not (is_end k || is_close_brace k)

comma_other : (k : TokenKind) → is_comma k ≡ true → is_other k ≡ true
comma_other (tok.Punctuator p.Comma) h = refl
comma_other _ h = absurd (false≢true h)

close_paren_other : (k : TokenKind) → is_close_paren k ≡ true → is_other k ≡ true
close_paren_other (tok.Punctuator p.CloseParen) h = refl
close_paren_other _ h = absurd (false≢true h)

semicolon_other : (k : TokenKind) → is_semicolon k ≡ true → is_other k ≡ true
semicolon_other (tok.Punctuator p.Semicolon) h = refl
semicolon_other _ h = absurd (false≢true h)

equal_other : (k : TokenKind) → is_equal k ≡ true → is_other k ≡ true
equal_other (tok.Punctuator p.Equal) h = refl
equal_other _ h = absurd (false≢true h)

arrow_other : (k : TokenKind) → is_arrow k ≡ true → is_other k ≡ true
arrow_other (tok.Punctuator p.Arrow) h = refl
arrow_other _ h = absurd (false≢true h)

of_other : (k : TokenKind) → is_of k ≡ true → is_other k ≡ true
of_other (tok.Name u) h = refl
of_other _ h = absurd (false≢true h)

other_end : (k : TokenKind) → is_other k ≡ true → is_end k ≡ false
other_end k h = (or_parts (is_end k) (is_close_brace k) (not-true (is_end k || is_close_brace k) h)).0

other_brace : (k : TokenKind) → is_other k ≡ true → is_close_brace k ≡ true → ⊥
other_brace k h i = true≢false (sym i ∙ (or_parts (is_end k) (is_close_brace k) (not-true (is_end k || is_close_brace k) h)).1)

-- ---- a step that is made or refused whatever ends are put in

own_ok : (k : TokenKind) (n : State) → is_end k ≡ false → own k (Ok n) ≡ Ok n
own_ok k n e = ap (λ (b : Bool). cond b refuse (Ok n)) e

made : (n : State) (ended : Step) (q : ℕ) (l : Bool) (k : TokenKind) → is_other k ≡ true → Follows (Ok n) (Ok n) ended q l k
made n ended q l k h = record {
  next = subst (λ (z : Step). Same (Ok n) (or_end z (may_end (tk q l k)) ended (tk q l k))) (sym (own_ok k n (other_end k h))) refl;
  brace = λ i. absurd (other_brace k h i);
}

own_refused : (k : TokenKind) (x : Step) → Refused x → Refused (own k x)
own_refused k x h = go (is_end k)
  where
    go : (b : Bool) → Refused (cond b refuse x)
    go true = tt
    go false = h

or_end_refused : (x : Step) (b : Bool) (ended : Step) (t : Token) → Refused x → Refused ended → Refused (or_end x b ended t)
or_end_refused (Ok n) b ended t h i = absurd h
or_end_refused (Err k) true (Ok n) t h i = absurd i
or_end_refused (Err k) true (Err j) t h i = tt
or_end_refused (Err k) false ended t h i = tt

bar_refused : (x ended : Step) → Refused ended → Bar x ended
bar_refused (Ok m) (Err k) h = tt
bar_refused (Ok m) (Ok n) h = absurd h
bar_refused (Err j) (Ok n) h = absurd h
bar_refused (Err j) (Err k) h = tt

refused : (x y ended : Step) (q : ℕ) (l : Bool) (k : TokenKind) → Refused x → Refused y → Refused ended → Follows x y ended q l k
refused x y ended q l k g h i = record {
  next = same_refused x _ g (or_end_refused (own k y) (may_end (tk q l k)) ended (tk q l k) (own_refused k y h) i);
  brace = λ b. bar_refused y ended i;
}

-- what no end follows
plain : (f : TokenKind → Step) (ended : Step) (q : ℕ) (l : Bool) (k : TokenKind) → Refused (f tok.End) → Refused ended → Follows (f k) (f k) ended q l k
plain f ended q l k h i = record { next = go (is_end k) refl; brace = λ b. bar_refused (f k) ended i }
  where
    at_end : (k : TokenKind) → is_end k ≡ true → Refused (f k)
    at_end tok.End e = h
    at_end _ e = absurd (false≢true e)

    either : (x : Step) (b : Bool) → Same x (or_end x b ended (tk q l k))
    either (Ok n) b = refl
    either (Err j) b = same_refused (Err j) _ tt (or_end_refused (Err j) b ended (tk q l k) tt i)

    go : (b : Bool) → is_end k ≡ b → Same (f k) (or_end (cond b refuse (f k)) (may_end (tk q l k)) ended (tk q l k))
    go true e = same_refused (f k) _ (at_end k e) (or_end_refused refuse (may_end (tk q l k)) ended (tk q l k) tt i)
    go false e = either (f k) (may_end (tk q l k))

cond_follows : (b : Bool) (f1 f2 s1 s2 ended : Step) (q : ℕ) (l : Bool) (k : TokenKind) → Follows f1 s1 ended q l k → Follows f2 s2 ended q l k → Follows (cond b f1 f2) (cond b s1 s2) ended q l k
cond_follows true f1 f2 s1 s2 ended q l k h i = h
cond_follows false f1 f2 s1 s2 ended q l k h i = i

-- a token that leads on where this holds of it
cond_made : (b : Bool) (n : State) (f s ended : Step) (q : ℕ) (l : Bool) (k : TokenKind) → (b ≡ true → is_other k ≡ true) → Follows f s ended q l k → Follows (cond b (Ok n) f) (cond b (Ok n) s) ended q l k
cond_made true n f s ended q l k h i = made n ended q l k (h refl)
cond_made false n f s ended q l k h i = i

-- ---- behind a statement that is whole

settle_same : (o : Outer) (gs fs : List Open) (s : Stmt) → settle_in (framed o gs) fs s ≡ settle_in o fs s
settle_same o gs [] s = refl
settle_same o gs (f ∷ fs) s = go f.frame (λ t. settle_same o gs fs t)
  where
    go : (k : Frame) → ((t : Stmt) → settle_in (framed o gs) fs t ≡ settle_in o fs t)
        → settle_frame (framed o fs) f.constructs k s (λ t. settle_in (framed o gs) fs t) ≡ settle_frame (framed o fs) f.constructs k s (λ t. settle_in o fs t)
    go (frame.Block b ss) c = refl
    go (frame.Body b) c = c _
    go (frame.Operator x) c = refl
    go (frame.Tail x) c = refl
    go (frame.Purpose x) c = refl
    go frame.Export c = refl

abbrev resumed : Outer → List Open → Stmt → Token → Step
resumed o fs s t = cond (is_else t.kind) (st.else_behind (complete_in o fs s)) (st.statement_behind (settle_in o fs s) t)

-- whole statements stand there: `else` begins none
between_same : (o : Outer) (q : ℕ) (l : Bool) (k : TokenKind) → Same (cond (is_else k) (refuse_at spot.StatementBegin) (st.on_statement o (tk q l k))) (st.on_statement o (tk q l k))
between_same o q l k = go (is_else k) refl
  where
    at_else : (k : TokenKind) → is_else k ≡ true → Refused (st.on_statement o (tk q l k))
    at_else (tok.Reserved r.Else) e = tt
    at_else _ e = absurd (false≢true e)

    go : (b : Bool) → is_else k ≡ b → Same (cond b (refuse_at spot.StatementBegin) (st.on_statement o (tk q l k))) (st.on_statement o (tk q l k))
    go true e = same_refused (refuse_at spot.StatementBegin) _ tt (at_else k e)
    go false e = same_refl _

then_same : (o : Outer) (fs : List Open) (test : Expr) (s : Stmt) (t : Token) (b : Bool)
    → Same (cond b (wait_body (framed o fs) (body.Else test s)) (st.statement_behind (settle_in o fs (stmt.If test s None)) t))
    (cond b (wait_body (framed o fs) (body.Else test s)) (cond b (st.else_behind (complete (framed o fs) (stmt.If test s None))) (st.statement_behind (settle (framed o fs) (stmt.If test s None)) t)))
then_same o fs test s t true = refl
then_same o fs test s t false = same_is _ _ _ (ap (λ (z : Step). st.statement_behind z t) (sym (settle_same o fs fs (stmt.If test s None)))) (same_refl (st.statement_behind (settle_in o fs (stmt.If test s None)) t))

refused_cond : (b : Bool) (x y : Step) → Refused x → Refused y → Refused (cond b x y)
refused_cond true x y h i = h
refused_cond false x y h i = i

-- .. over these frames
resumed_behind : (o : Outer) (fs : List Open) (s : Stmt) (q : ℕ) (l : Bool) (k : TokenKind) → Same (resumed o fs s (tk q l k)) (behind (complete_in o fs s) (tk q l k))
resumed_behind o [] s q l k = between_same (record { items = o.items ++ item.Stmt s ∷ []; exported = o.exported; frames = [] }) q l k
resumed_behind o (f ∷ fs) s q l k = go f.frame (λ u. resumed_behind o fs u q l k)
  where
    in_body : (b : Body) → ((u : Stmt) → Same (resumed o fs u (tk q l k)) (behind (complete_in o fs u) (tk q l k)))
        → Same (cond (is_else k) (st.else_behind (complete_body (framed o fs) b s (λ u. complete_in o fs u))) (st.statement_behind (settle_in o fs (with_body b s)) (tk q l k)))
        (behind (complete_body (framed o fs) b s (λ u. complete_in o fs u)) (tk q l k))
    in_body (body.Then test) c = then_same o fs test s (tk q l k) (is_else k)
    in_body (body.Else test a) c = c _
    in_body (body.For b test u) c = c _
    in_body (body.ForOf m n x) c = c _
    in_body (body.While test) c = c _

    go : (m : Frame) → ((u : Stmt) → Same (resumed o fs u (tk q l k)) (behind (complete_in o fs u) (tk q l k)))
        → Same (cond (is_else k) (st.else_behind (complete_frame (framed o fs) f.constructs m s (λ u. complete_in o fs u))) (st.statement_behind (settle_frame (framed o fs) f.constructs m s (λ u. settle_in o fs u)) (tk q l k)))
        (behind (complete_frame (framed o fs) f.constructs m s (λ u. complete_in o fs u)) (tk q l k))
    go (frame.Block b ss) c = between_same (push_at (framed o fs) f.constructs (frame.Block b (ss ++ s ∷ []))) q l k
    go (frame.Body b) c = in_body b c
    go (frame.Operator x) c = same_refused _ refuse (refused_cond (is_else k) refuse refuse tt tt) tt
    go (frame.Tail x) c = same_refused _ refuse (refused_cond (is_else k) refuse refuse tt tt) tt
    go (frame.Purpose x) c = same_refused _ refuse (refused_cond (is_else k) refuse refuse tt tt) tt
    go frame.Export c = same_refused _ refuse (refused_cond (is_else k) refuse refuse tt tt) tt

behind_end_same : (x y : Step) (k : Refusal) → Same x y → Same (st.behind_end x k) y
behind_end_same (Ok m) y k h = h
behind_end_same (Err (refusal.Token a)) (Err i) k h = tt
behind_end_same (Err refusal.Plain) (Err i) k h = tt
behind_end_same (Err refusal.Nesting) (Err i) k h = tt
behind_end_same (Err refusal.NestingBefore) (Err i) k h = tt
behind_end_same (Err j) (Ok n) k h = absurd h

-- What stands behind a statement that is whole does what it does where the statement's end was.
pub resume_is_behind : (o : Outer) (s : Stmt) (t : Token) → Same (st.resume o s t) (behind (complete o s) t)
resume_is_behind o s t = resumed_behind o o.frames s t.place t.after_line_end t.kind

-- ---- the end of a statement

brace_refused : (o : Outer) (s : Stmt) (q : ℕ) (l : Bool) (k : TokenKind) (why : Refusal) → is_close_brace k ≡ true → Refused (st.end false o s (tk q l k) why)
brace_refused o s q l (tok.Punctuator p.CloseBrace) why h = tt
brace_refused o s q l _ why h = absurd (false≢true h)

refused_bar : (x ended : Step) → Refused x → Bar x ended
refused_bar (Ok m) ended h = absurd h
refused_bar (Err j) (Ok n) h = tt
refused_bar (Err j) (Err k) h = tt

end_follows : (o : Outer) (s : Stmt) (q : ℕ) (l : Bool) (k : TokenKind) (i : Refusal) → Follows (st.end true o s (tk q l k) i) (st.end false o s (tk q l k) i) (complete o s) q l k
end_follows o s q l k i = record {
  next = go (is_semicolon k) (is_end k) (l || is_close_brace k) (λ h. other_end k (semicolon_other k h));
  brace = λ b. refused_bar (st.end false o s (tk q l k) i) (complete o s) (brace_refused o s q l k i b);
}
  where
    either : (x : Step) (b : Bool) → Same x (or_end x b x (tk q l k))
    either (Ok n) b = refl
    either (Err e) true = tt
    either (Err e) false = tt

    -- it is `;`, an `End`, or a token that an end may stand before
    go : (c e m : Bool) → (c ≡ true → e ≡ false)
        → Same (cond c (complete o s) (cond (e || m) (st.behind_end (st.resume o s (tk q l k)) i) (Err i)))
        (or_end (cond e refuse (cond (c || e) (complete o s) (Err i))) (e || m) (complete o s) (tk q l k))
    go true true m h = absurd (true≢false (h refl))
    go true false m h = either (complete o s) m
    go false true m h = behind_end_same (st.resume o s (tk q l k)) _ i (resume_is_behind o s (tk q l k))
    go false false true h = behind_end_same (st.resume o s (tk q l k)) _ i (resume_is_behind o s (tk q l k))
    go false false false h = tt

-- ---- values

-- the operators that bind at least so tightly, and then all
abbrev Again : Folded → Folded → Type 0
Again (Ok v) all = fold 0 v.frames v.value ≡ all
Again (Err k) (Ok v) = ⊥
Again (Err k) (Err j) = Unit {0}

applied_again : (x : Result Expr Refusal) (f g : Expr → Folded) → ((y : Expr) → Again (f y) (g y)) → Again (applied x f) (applied x g)
applied_again (Ok y) f g h = h y
applied_again (Err k) f g h = tt

zero_binds : (l : Expr) (o : BinaryOp) → nat_le 0 (strength o) ≡ true
zero_binds l o = le-leb 0 (strength o) (omega arith)

fold_again : (n : ℕ) (fs : List Open) (x : Expr) → Again (fold n fs x) (fold 0 fs x)
fold_again n [] x = refl
fold_again n (f ∷ fs) x = by_frame f.frame (λ y. fold_again n fs y)
  where
    binary : (l : Expr) (o : BinaryOp) (b : Bool) → ((y : Expr) → Again (fold n fs y) (fold 0 fs y))
        → Again (cond b (fold n fs (expr.Binary o l x)) (over (opened f.constructs (frame.Operator (operator.Binary l o)) ∷ fs) x)) (fold 0 (opened f.constructs (frame.Operator (operator.Binary l o)) ∷ fs) x)
    binary l o true c = subst (λ (b : Bool). Again (fold n fs (expr.Binary o l x)) (cond b (fold 0 fs (expr.Binary o l x)) (over (opened f.constructs (frame.Operator (operator.Binary l o)) ∷ fs) x))) (sym (zero_binds l o)) (c _)
    binary l o false c = refl

    by_operator : (o : Operator) → ((y : Expr) → Again (fold n fs y) (fold 0 fs y)) → Again (fold n (opened f.constructs (frame.Operator o) ∷ fs) x) (fold 0 (opened f.constructs (frame.Operator o) ∷ fs) x)
    by_operator (operator.Binary l o) c = binary l o (nat_le n (strength o)) c
    by_operator (operator.Unary o) c = c _
    by_operator (operator.Await q) c = c _
    by_operator (operator.Update o) c = applied_again (apply (operator.Update o) x) (λ y. fold n fs y) (λ y. fold 0 fs y) c

    by_frame : (k : Frame) → ((y : Expr) → Again (fold n fs y) (fold 0 fs y)) → Again (fold n (opened f.constructs k ∷ fs) x) (fold 0 (opened f.constructs k ∷ fs) x)
    by_frame (frame.Operator o) c = by_operator o c
    by_frame (frame.Tail t) c = refl
    by_frame (frame.Purpose w) c = refl
    by_frame (frame.Body b) c = refl
    by_frame (frame.Block b ss) c = refl
    by_frame frame.Export c = refl

-- ---- behind a value

initial_done_follows : (o : Outer) (d : Declared) (q : ℕ) (l : Bool) (k : TokenKind) (b : Bool) → Follows (on_initial_done true o d (tk q l k) b) (on_initial_done false o d (tk q l k) b) (on_initial_done false o d end_token b) q l k
initial_done_follows o d q l k false = end_follows o _ q l k _
initial_done_follows o d q l k true = plain (λ z. on_initial_done true o d (tk q l z) true) _ q l k tt tt

initial_follows : (o : Outer) (d : Declared) (q : ℕ) (l : Bool) (k : TokenKind) → Follows (on_initial_end true o d (tk q l k)) (on_initial_end false o d (tk q l k)) (on_initial_end false o d end_token) q l k
initial_follows o d q l k = cond_made (is_comma k) _ _ _ _ q l k (comma_other k) (initial_done_follows o d q l k d.in_for)

value_follows : (o : Outer) (w : Purpose) (x : Expr) (q : ℕ) (l : Bool) (k : TokenKind) → Follows (on_value true o w x (tk q l k)) (on_value false o w x (tk q l k)) (on_value false o w x end_token) q l k
value_follows o (purpose.Then test) x q l k = plain (λ z. on_value true o (purpose.Then test) x (tk q l z)) _ q l k tt tt
value_follows o purpose.Group x q l k = plain (λ z. on_value true o purpose.Group x (tk q l z)) _ q l k tt tt
value_follows o (purpose.Argument c xs) x q l k = plain (λ z. on_value true o (purpose.Argument c xs) x (tk q l z)) _ q l k tt tt
value_follows o (purpose.Index y n) x q l k = plain (λ z. on_value true o (purpose.Index y n) x (tk q l z)) _ q l k tt tt
value_follows o (purpose.Element xs) x q l k = plain (λ z. on_value true o (purpose.Element xs) x (tk q l z)) _ q l k tt tt
value_follows o (purpose.Pair xs m) x q l k = plain (λ z. on_value true o (purpose.Pair xs m) x (tk q l z)) _ q l k tt tt
value_follows o (purpose.Hole is u) x q l k = plain (λ z. on_value true o (purpose.Hole is u) x (tk q l z)) _ q l k tt tt
value_follows o purpose.If x q l k = plain (λ z. on_value true o purpose.If x (tk q l z)) _ q l k tt tt
value_follows o purpose.While x q l k = plain (λ z. on_value true o purpose.While x (tk q l z)) _ q l k tt tt
value_follows o (purpose.ForOf m n) x q l k = plain (λ z. on_value true o (purpose.ForOf m n) x (tk q l z)) _ q l k tt tt
value_follows o (purpose.ForUpdate b test) x q l k = plain (λ z. on_value true o (purpose.ForUpdate b test) x (tk q l z)) _ q l k tt tt
value_follows o purpose.ForStart x q l k = plain (λ z. on_value true o purpose.ForStart x (tk q l z)) _ q l k tt tt
value_follows o (purpose.ForTest b) x q l k = plain (λ z. on_value true o (purpose.ForTest b) x (tk q l z)) _ q l k tt tt
value_follows o purpose.Statement x q l k = end_follows o _ q l k _
value_follows o (purpose.Initial d n) x q l k = initial_follows o _ q l k
value_follows o (purpose.Return m) x q l k = end_follows o _ q l k _
value_follows o purpose.Throw x q l k = end_follows o _ q l k _

over_follows : (o : Outer) (q : ℕ) (l : Bool) (k : TokenKind) (v : Over) → Follows (on_over true o (tk q l k) v) (on_over false o (tk q l k) v) (on_over false o end_token v) q l k
over_follows o q l k v = go v.frames
  where
    by_frame : (n : ℕ) (m : Frame) (fs : List Open) → let w : Over = record { frames = opened n m ∷ fs; value = v.value } in Follows (on_over true o (tk q l k) w) (on_over false o (tk q l k) w) (on_over false o end_token w) q l k
    by_frame n (frame.Purpose w) fs = value_follows (framed o fs) w v.value q l k
    by_frame n (frame.Operator x) fs = refused refuse refuse refuse q l k tt tt tt
    by_frame n (frame.Tail x) fs = refused refuse refuse refuse q l k tt tt tt
    by_frame n (frame.Body x) fs = refused refuse refuse refuse q l k tt tt tt
    by_frame n (frame.Block b ss) fs = refused refuse refuse refuse q l k tt tt tt
    by_frame n frame.Export fs = refused refuse refuse refuse q l k tt tt tt

    go : (fs : List Open) → let w : Over = record { frames = fs; value = v.value } in Follows (on_over true o (tk q l k) w) (on_over false o (tk q l k) w) (on_over false o end_token w) q l k
    go [] = refused refuse refuse refuse q l k tt tt tt
    go (f ∷ fs) = by_frame f.constructs f.frame fs

-- the frames of the outer are those of the value
folded_follows : (o : Outer) (gs : List Open) (q : ℕ) (l : Bool) (k : TokenKind) (v : Folded) → Follows (on_folded true (framed o gs) (tk q l k) v) (on_folded false (framed o gs) (tk q l k) v) (on_folded false o end_token v) q l k
folded_follows o gs q l k (Ok v) = over_follows o q l k (fold_tails v.frames v.value)
folded_follows o gs q l k (Err e) = refused (Err e) (Err e) (Err e) q l k tt tt tt

whole_follows : (o : Outer) (x : Expr) (q : ℕ) (l : Bool) (k : TokenKind) → Follows (after_whole true o x (tk q l k)) (after_whole false o x (tk q l k)) (after_whole false o x end_token) q l k
whole_follows o x q l k = folded_follows o o.frames q l k (fold 0 o.frames x)

binary_follows : (o : Outer) (b : BinaryOp) (y : Expr) (q : ℕ) (l : Bool) (k : TokenKind) → is_other k ≡ true → Follows (on_binary true o b y (tk q l k)) (on_binary false o b y (tk q l k)) (after_whole false o y end_token) q l k
binary_follows o b y q l k h = go (fold 7 o.frames y) (fold 0 o.frames y) (fold_again 7 o.frames y)
  where
    joined : (v : Over) (n : ℕ) (all : Folded) → fold 0 v.frames v.value ≡ all → Follows (joins true o b n (tk q l k) v) (joins false o b n (tk q l k) v) (on_folded false o end_token all) q l k
    joined v n all e = subst (λ (z : Folded). Follows (joins true o b n (tk q l k) v) (joins false o b n (tk q l k) v) (on_folded false o end_token z) q l k) e
        (cond_follows (are_mixed (logic_of b) (outermost v.value) || are_mixed (logic_of b) (waiting (framed o v.frames))) _ _ _ _ _ q l k
        (folded_follows o v.frames q l k (fold 0 v.frames v.value)) (made _ _ q l k h))

    folded : (n : ℕ) (f g all : Folded) → Again f g → g ≡ all → Follows (joins_folded true o b n (tk q l k) f) (joins_folded false o b n (tk q l k) f) (on_folded false o end_token all) q l k
    folded n (Ok v) g all a e = joined v n all (a ∙ e)
    folded n (Err i) (Ok w) all a e = absurd a
    folded n (Err i) (Err j) all a e = subst (λ (z : Folded). Follows (Err i) (Err i) (on_folded false o end_token z) q l k) e (refused (Err i) (Err i) (Err j) q l k tt tt tt)

    go : (f all : Folded) → Again f all → Follows (binary_behind true o b (tk q l k) f) (binary_behind false o b (tk q l k) f) (on_folded false o end_token all) q l k
    go (Ok v) all a = folded (constructs (framed o v.frames)) (fold (strength b) v.frames v.value) (fold 0 v.frames v.value) all (fold_again (strength b) v.frames v.value) a
    go (Err i) (Ok w) a = absurd a
    go (Err i) (Err j) a = refused (Err i) (Err i) (Err j) q l k tt tt tt

tests_follows : (o : Outer) (y : Expr) (q : ℕ) (l : Bool) (k : TokenKind) → is_other k ≡ true → Follows (tests o (fold 1 o.frames y)) (tests o (fold 1 o.frames y)) (after_whole false o y end_token) q l k
tests_follows o y q l k h = go (fold 1 o.frames y) (fold 0 o.frames y) (fold_again 1 o.frames y)
  where
    go : (f all : Folded) → Again f all → Follows (tests o f) (tests o f) (on_folded false o end_token all) q l k
    go (Ok v) all a = made _ _ q l k h
    go (Err i) (Ok w) a = absurd a
    go (Err i) (Err j) a = refused (Err i) (Err i) (Err j) q l k tt tt tt

value_sign_follows : (o : Outer) (y : Expr) (q : ℕ) (l : Bool) (s : Punctuator)
    → Follows (after_operator true o y (tk q l (tok.Punctuator s)) s (binary_op s)) (after_operator false o y (tk q l (tok.Punctuator s)) s (binary_op s)) (after_whole false o y end_token) q l (tok.Punctuator s)
value_sign_follows o y q l p.QuestionQuestion = binary_follows o binary.Coalesce y q l (tok.Punctuator p.QuestionQuestion) refl
value_sign_follows o y q l p.OrOr = binary_follows o binary.Or y q l (tok.Punctuator p.OrOr) refl
value_sign_follows o y q l p.AndAnd = binary_follows o binary.And y q l (tok.Punctuator p.AndAnd) refl
value_sign_follows o y q l p.Identical = binary_follows o binary.Identical y q l (tok.Punctuator p.Identical) refl
value_sign_follows o y q l p.NotIdentical = binary_follows o binary.NotIdentical y q l (tok.Punctuator p.NotIdentical) refl
value_sign_follows o y q l p.Less = binary_follows o binary.Less y q l (tok.Punctuator p.Less) refl
value_sign_follows o y q l p.LessEqual = binary_follows o binary.LessEqual y q l (tok.Punctuator p.LessEqual) refl
value_sign_follows o y q l p.Greater = binary_follows o binary.Greater y q l (tok.Punctuator p.Greater) refl
value_sign_follows o y q l p.GreaterEqual = binary_follows o binary.GreaterEqual y q l (tok.Punctuator p.GreaterEqual) refl
value_sign_follows o y q l p.Plus = binary_follows o binary.Add y q l (tok.Punctuator p.Plus) refl
value_sign_follows o y q l p.Minus = binary_follows o binary.Subtract y q l (tok.Punctuator p.Minus) refl
value_sign_follows o y q l p.Star = binary_follows o binary.Multiply y q l (tok.Punctuator p.Star) refl
value_sign_follows o y q l p.Slash = binary_follows o binary.Divide y q l (tok.Punctuator p.Slash) refl
value_sign_follows o y q l p.Percent = binary_follows o binary.Remainder y q l (tok.Punctuator p.Percent) refl
value_sign_follows o y q l p.Question = tests_follows o y q l (tok.Punctuator p.Question) refl
value_sign_follows o y q l s = whole_follows o y q l (tok.Punctuator s)

after_value_follows : (o : Outer) (y : Expr) (q : ℕ) (l : Bool) (k : TokenKind) → Follows (after_value true o y (tk q l k)) (after_value false o y (tk q l k)) (after_whole false o y end_token) q l k
after_value_follows o y q l (tok.Punctuator s) = value_sign_follows o y q l s
after_value_follows o y q l k = whole_follows o y q l k

-- ---- behind an operand

-- what is no target is given back
abbrev TargetOf : Expr → Result Target Expr → Type 0
TargetOf y (Ok u) = Unit {0}
TargetOf y (Err z) = y ≡ z

target_of_is : (y : Expr) → TargetOf y (target_of y)
target_of_is y = go (out-Expr y)
  where
    go : (n : Node) → TargetOf y (target_in y n)
    go (Expr-F.Name n) = tt
    go (Expr-F.Member x n) = tt
    go (Expr-F.Index x n) = tt
    go _ = refl

assign_follows : (o : Outer) (x : AssignOp) (y : Expr) (q : ℕ) (l : Bool) (k : TokenKind) → is_other k ≡ true → Follows (on_assign true o x y (tk q l k)) (on_assign false o x y (tk q l k)) (after_whole false o y end_token) q l k
assign_follows o x y q l k h = cond_follows (is_whole o) _ _ _ _ _ q l k (go (target_of y) (target_of_is y)) (whole_follows o y q l k)
  where
    go : (r : Result Target Expr) → TargetOf y r → Follows (assign_to true o x (tk q l k) r) (assign_to false o x (tk q l k) r) (after_whole false o y end_token) q l k
    go (Ok u) i = made _ _ q l k h
    go (Err z) i = subst (λ (w : Expr). Follows (after_whole true o w (tk q l k)) (after_whole false o w (tk q l k)) (after_whole false o y end_token) q l k) i (whole_follows o y q l k)

update_follows : (o : Outer) (x : UpdateOp) (y : Expr) (q : ℕ) (l : Bool) (k : TokenKind) → is_other k ≡ true → Follows (on_update true o x y (tk q l k)) (on_update false o x y (tk q l k)) (after_whole false o y end_token) q l k
update_follows o x y q l k h = cond_follows l _ _ _ _ _ q l k (whole_follows o y q l k) (by_position (position o))
  where
    of : (r : Result Target Expr) → TargetOf y r → Follows (update_of true o x (tk q l k) r) (update_of false o x (tk q l k) r) (after_whole false o y end_token) q l k
    of (Ok u) i = made _ _ q l k h
    of (Err z) i = subst (λ (w : Expr). Follows (after_whole true o w (tk q l k)) (after_whole false o w (tk q l k)) (after_whole false o y end_token) q l k) i (whole_follows o y q l k)

    by_position : (z : Position) → Follows (update_at true o x y (tk q l k) z) (update_at false o x y (tk q l k) z) (after_whole false o y end_token) q l k
    by_position positions.Target = whole_follows o y q l k
    by_position positions.Whole = of (target_of y) (target_of_is y)
    by_position positions.Operand = of (target_of y) (target_of_is y)

arrow_follows : (o : Outer) (y : Expr) (q : ℕ) (l : Bool) (k : TokenKind) → is_other k ≡ true → Follows (arrow_behind true o y (tk q l k)) (arrow_behind false o y (tk q l k)) (after_whole false o y end_token) q l k
arrow_follows o y q l k h = cond_follows (l || not (is_whole o)) _ _ _ _ _ q l k (whole_follows o y q l k) (of (out-Expr y))
  where
    of : (n : Node) → Follows (arrow_of true o y (tk q l k) n) (arrow_of false o y (tk q l k) n) (after_whole false o y end_token) q l k
    of (Expr-F.Name n) = made _ _ q l k h
    of _ = whole_follows o y q l k

operand_sign_follows : (o : Outer) (y : Expr) (n q : ℕ) (l : Bool) (s : Punctuator)
    → Follows (operand_sign true o y n (tk q l (tok.Punctuator s)) s) (operand_sign false o y n (tk q l (tok.Punctuator s)) s) (after_whole false o y end_token) q l (tok.Punctuator s)
operand_sign_follows o y n q l p.Dot = made _ _ q l (tok.Punctuator p.Dot) refl
operand_sign_follows o y n q l p.OpenParen = made _ _ q l (tok.Punctuator p.OpenParen) refl
operand_sign_follows o y n q l p.OpenBracket = made _ _ q l (tok.Punctuator p.OpenBracket) refl
operand_sign_follows o y n q l p.PlusPlus = update_follows o update.Increment y q l (tok.Punctuator p.PlusPlus) refl
operand_sign_follows o y n q l p.MinusMinus = update_follows o update.Decrement y q l (tok.Punctuator p.MinusMinus) refl
operand_sign_follows o y n q l p.Arrow = arrow_follows o y q l (tok.Punctuator p.Arrow) refl
operand_sign_follows o y n q l p.Equal = assign_follows o assign.Set y q l (tok.Punctuator p.Equal) refl
operand_sign_follows o y n q l p.PlusEqual = assign_follows o assign.Add y q l (tok.Punctuator p.PlusEqual) refl
operand_sign_follows o y n q l p.MinusEqual = assign_follows o assign.Subtract y q l (tok.Punctuator p.MinusEqual) refl
operand_sign_follows o y n q l s = value_sign_follows o y q l s

operand_follows : (o : Outer) (y : Expr) (n q : ℕ) (l : Bool) (k : TokenKind) → Follows (after_operand true o y n (tk q l k)) (after_operand false o y n (tk q l k)) (after_whole false o y end_token) q l k
operand_follows o y n q l (tok.Punctuator s) = operand_sign_follows o y n q l s
operand_follows o y n q l k = whole_follows o y q l k

-- ---- `async`, and brackets round names

async_function_follows : (o : Outer) (ended : Step) (q : ℕ) → Follows (async_function o) (async_function o) ended q false (tok.Reserved r.Function)
async_function_follows o ended q = record { next = go (async_function o); brace = λ b. absurd (false≢true b) }
  where
    go : (x : Step) → Same x (or_end x false ended (tk q false (tok.Reserved r.Function)))
    go (Ok n) = refl
    go (Err k) = tt

async_paren_follows : (o : Outer) (n : Name) (ended : Step) (q : ℕ) (l : Bool) → Follows (async_paren o n) (async_paren o n) ended q l (tok.Punctuator p.OpenParen)
async_paren_follows o n ended q l = cond_follows (is_whole o) _ _ _ _ _ q l _ (made _ _ q l (tok.Punctuator p.OpenParen) refl) (made _ _ q l (tok.Punctuator p.OpenParen) refl)

async_kind_follows : (o : Outer) (n : Name) (q : ℕ) (k : TokenKind) → Follows (async_kind true o n (tk q false k) k) (async_kind false o n (tk q false k) k) (after_operand false o (expr.Name n) 0 end_token) q false k
async_kind_follows o n q (tok.Reserved r.Function) = async_function_follows o _ q
async_kind_follows o n q (tok.Name u) = cond_follows (is_whole o) _ _ _ _ _ q false (tok.Name u) (made _ _ q false (tok.Name u) refl) (operand_follows o (expr.Name n) 0 q false (tok.Name u))
async_kind_follows o n q (tok.Punctuator p.OpenParen) = async_paren_follows o n _ q false
async_kind_follows o n q k = operand_follows o (expr.Name n) 0 q false k

async_follows : (o : Outer) (n : Name) (q : ℕ) (l : Bool) (k : TokenKind) → Follows (after_async true o n (tk q l k)) (after_async false o n (tk q l k)) (after_async false o n end_token) q l k
async_follows o n q true k = operand_follows o (expr.Name n) 0 q true k
async_follows o n q false k = async_kind_follows o n q k

after_name_follows : (o : Outer) (n : Name) (q : ℕ) (l : Bool) (k : TokenKind) → Follows (after_name true o n (tk q l k)) (after_name false o n (tk q l k)) (after_name false o n end_token) q l k
after_name_follows o n q l k = go (is_async n.units)
  where
    go : (b : Bool) → Follows (cond b (after_async true o n (tk q l k)) (after_operand true o (expr.Name n) 0 (tk q l k))) (cond b (after_async false o n (tk q l k)) (after_operand false o (expr.Name n) 0 (tk q l k)))
        (cond b (after_async false o n end_token) (after_operand false o (expr.Name n) 0 end_token)) q l k
    go true = async_follows o n q l k
    go false = operand_follows o (expr.Name n) 0 q l k

cover_name_follows : (o : Outer) (c : Cover) (ns : List Name) (n : Name) (q : ℕ) (l : Bool) (k : TokenKind) → Follows (on_cover_name true o c ns n (tk q l k)) (on_cover_name false o c ns n (tk q l k)) (on_cover_name false o c ns n end_token) q l k
cover_name_follows o c ns n q l k = cond_made (is_comma k) _ _ _ _ q l k (comma_other k) (cond_made (is_close_paren k) _ _ _ _ q l k (close_paren_other k) (go (may_be_values c ns)))
  where
    go : (b : Bool) → Follows (cond b (after_name true (uncover o c ns) n (tk q l k)) (refuse_at spot.Parameter)) (cond b (after_name false (uncover o c ns) n (tk q l k)) (refuse_at spot.Parameter))
        (cond b (after_name false (uncover o c ns) n end_token) (refuse_at spot.Parameter)) q l k
    go true = after_name_follows (uncover o c ns) n q l k
    go false = refused (refuse_at spot.Parameter) (refuse_at spot.Parameter) (refuse_at spot.Parameter) q l k tt tt tt

group_follows : (o : Outer) (n : Option Name) (q : ℕ) (l : Bool) (k : TokenKind) → Follows (group_of true o (tk q l k) n) (group_of false o (tk q l k) n) (group_of false o end_token n) q l k
group_follows o (Some n) q l k = operand_follows o (expr.Group (expr.Name n)) 0 q l k
group_follows o None q l k = refused refuse refuse refuse q l k tt tt tt

covered_value_follows : (o : Outer) (c : Cover) (ns : List Name) (b : Bool) (q : ℕ) (l : Bool) (k : TokenKind) → Follows (covered_value true o c ns b (tk q l k)) (covered_value false o c ns b (tk q l k)) (covered_value false o c ns b end_token) q l k
covered_value_follows o (covers.Async n) ns b q l k = operand_follows o (expr.Call (expr.Name n) (as_values ns)) 1 q l k
covered_value_follows o covers.Plain ns true q l k = group_follows o (only_name ns) q l k
covered_value_follows o covers.Plain ns false q l k = refused refuse refuse refuse q l k tt tt tt

covered_follows : (o : Outer) (c : Cover) (ns : List Name) (b : Bool) (q : ℕ) (l : Bool) (k : TokenKind) → Follows (on_covered true o c ns b (tk q l k)) (on_covered false o c ns b (tk q l k)) (on_covered false o c ns b end_token) q l k
covered_follows o c ns b q l k = cond_made (is_arrow k && not l) _ _ _ _ q l k (λ h. arrow_other k (and_parts (is_arrow k) (not l) h).0) (covered_value_follows o c ns b q l k)

-- ---- statements

return_follows : (o : Outer) (m q : ℕ) (l : Bool) (k : TokenKind) → Follows (st.on_return true o m (tk q l k)) (st.on_return false o m (tk q l k)) (st.on_return false o m end_token) q l k
return_follows o m q l k = go (may_end (tk q l k) || is_semicolon k) refl
  where
    no_brace : may_end (tk q l k) ≡ false → is_close_brace k ≡ true → ⊥
    no_brace h i = true≢false (sym i ∙ (or_parts l (is_close_brace k) (or_parts (is_end k) (l || is_close_brace k) h).1).1)

    either : (x ended : Step) → Same x (or_end x false ended (tk q l k))
    either (Ok n) ended = refl
    either (Err j) ended = tt

    -- an expression begins
    begins : (x ended : Step) → may_end (tk q l k) ≡ false → Follows x x ended q l k
    begins x ended h = record {
      next = subst (λ (b : Bool). Same x (or_end (own k x) b ended (tk q l k))) (sym h)
          (subst (λ (b : Bool). Same x (or_end (cond b refuse x) false ended (tk q l k))) (sym (or_parts (is_end k) (l || is_close_brace k) h).0) (either x ended));
      brace = λ b. absurd (no_brace h b);
    }

    go : (b : Bool) → (may_end (tk q l k) || is_semicolon k) ≡ b
        → Follows (cond b (st.end true o (stmt.Return m None) (tk q l k) (because None (Some spot.ExpressionBegin))) (begin (push o 0 (frame.Purpose (purpose.Return m))) (tk q l k)))
        (cond b (st.end false o (stmt.Return m None) (tk q l k) (because None (Some spot.ExpressionBegin))) (begin (push o 0 (frame.Purpose (purpose.Return m))) (tk q l k)))
        (complete o (stmt.Return m None)) q l k
    go true h = end_follows o (stmt.Return m None) q l k _
    go false h = begins _ _ (or_parts (may_end (tk q l k)) (is_semicolon k) h).0

declared_in_follows : (o : Outer) (d : Declared) (q : ℕ) (l : Bool) (k : TokenKind) (b : Bool) → Follows (st.declared_in true o d (tk q l k) b) (st.declared_in false o d (tk q l k) b) (st.declared_in false o d end_token b) q l k
declared_in_follows o d q l k true = plain (λ z. st.declared_in true o d (tk q l z) true) _ q l k tt tt
declared_in_follows o d q l k false = end_follows o _ q l k _

bare_name_follows : (o : Outer) (d : Declared) (q : ℕ) (l : Bool) (k : TokenKind) → Follows (st.on_bare_name true o d (tk q l k)) (st.on_bare_name false o d (tk q l k)) (st.on_bare_name false o d end_token) q l k
bare_name_follows o d q l k = cond_made (is_comma k) _ _ _ _ q l k (comma_other k) (declared_in_follows o d q l k d.in_for)

without_value_follows : (o : Outer) (d : Declared) (n : Name) (q : ℕ) (l : Bool) (k : TokenKind) (z : DeclareKind) → Follows (st.without_value true o d n (tk q l k) z) (st.without_value false o d n (tk q l k) z) (st.without_value false o d n end_token z) q l k
without_value_follows o d n q l k declare.Let = bare_name_follows o _ q l k
without_value_follows o d n q l k declare.Const = refused refuse refuse refuse q l k tt tt tt

name_declared_follows : (o : Outer) (d : Declared) (n : Name) (q : ℕ) (l : Bool) (k : TokenKind) → Follows (st.on_name_declared true o d n (tk q l k)) (st.on_name_declared false o d n (tk q l k)) (st.on_name_declared false o d n end_token) q l k
name_declared_follows o d n q l k = cond_made (is_equal k) _ _ _ _ q l k (equal_other k)
    (go d.in_for (st.is_first d.declarations) (is_of k) (of_other k))
  where
    go : (a b c : Bool) → (c ≡ true → is_other k ≡ true)
        → Follows (cond (a && (b && c)) (wait o 1 (purpose.ForOf d.kind n)) (st.without_value true o d n (tk q l k) d.kind)) (cond (a && (b && c)) (wait o 1 (purpose.ForOf d.kind n)) (st.without_value false o d n (tk q l k) d.kind))
        (cond (a && (b && false)) (wait o 1 (purpose.ForOf d.kind n)) (st.without_value false o d n end_token d.kind)) q l k
    go true true true h = made _ _ q l k (h refl)
    go true true false h = without_value_follows o d n q l k d.kind
    go true false c h = without_value_follows o d n q l k d.kind
    go false b c h = without_value_follows o d n q l k d.kind

-- ---- each spot

step_follows : (o : Outer) (a : At) (q : ℕ) (l : Bool) (k : TokenKind) → is_between a ≡ false
    → Follows (step_in no_limit true o a (tk q l k)) (step_in no_limit false o a (tk q l k)) (step_in no_limit false o a end_token) q l k
step_follows o (at.Operand x n) q l k h = operand_follows o x n q l k
step_follows o (at.Updated x) q l k h = after_value_follows o x q l k
step_follows o (at.Whole x) q l k h = whole_follows o x q l k
step_follows o (at.Async n) q l k h = async_follows o n q l k
step_follows o (at.CoverName c ns n) q l k h = cover_name_follows o c ns n q l k
step_follows o (at.Covered c ns b) q l k h = covered_follows o c ns b q l k
step_follows o (at.NameDeclared d n) q l k h = name_declared_follows o d n q l k
step_follows o (at.Jump s) q l k h = end_follows o s q l k _
step_follows o (at.Return m) q l k h = return_follows o m q l k
step_follows o at.Statement q l k h = absurd (true≢false h)
step_follows o (at.AfterThen test s) q l k h = absurd (true≢false h)
step_follows o (at.AfterCatch ss c) q l k h = absurd (true≢false h)
step_follows o at.AfterExport q l k h = absurd (true≢false h)
step_follows o (at.CoverOpen c ns) q l k h = plain (λ z. step_in no_limit true o (at.CoverOpen c ns) (tk q l z)) _ q l k
    (refused_cond (may_be_values c ns) (refuse_at spot.ExpressionBegin) (refuse_at spot.Parameter) tt tt) (refused_cond (may_be_values c ns) (refuse_at spot.ExpressionBegin) (refuse_at spot.Parameter) tt tt)
step_follows o (at.ArrowBody a ns) q l k h = plain (λ z. step_in no_limit true o (at.ArrowBody a ns) (tk q l z)) _ q l k
    (arrow_value_refused (nat_le no_limit (constructs o))) (arrow_value_refused (nat_le no_limit (constructs o)))
  where
    arrow_value_refused : (b : Bool) → Refused (arrow_value b (refuse_at spot.ExpressionBegin))
    arrow_value_refused true = tt
    arrow_value_refused false = tt
step_follows o (at.AsyncKey xs n) q l k h = plain (λ z. step_in no_limit true o (at.AsyncKey xs n) (tk q l z)) _ q l k (refused_cond l _ _ tt tt) tt
step_follows o at.Throw q l k h = plain (λ z. step_in no_limit true o at.Throw (tk q l z)) _ q l k (refused_cond l _ _ tt tt) tt
step_follows o at.Begin q l k h = plain (λ z. step_in no_limit true o at.Begin (tk q l z)) _ q l k tt tt
step_follows o (at.Arrow a ns) q l k h = plain (λ z. step_in no_limit true o (at.Arrow a ns) (tk q l z)) _ q l k tt tt
step_follows o at.NewName q l k h = plain (λ z. step_in no_limit true o at.NewName (tk q l z)) _ q l k tt tt
step_follows o (at.NewOpen n) q l k h = plain (λ z. step_in no_limit true o (at.NewOpen n) (tk q l z)) _ q l k tt tt
step_follows o (at.MemberName x n) q l k h = plain (λ z. step_in no_limit true o (at.MemberName x n) (tk q l z)) _ q l k tt tt
step_follows o (at.NextArgument c xs) q l k h = plain (λ z. step_in no_limit true o (at.NextArgument c xs) (tk q l z)) _ q l k tt tt
step_follows o (at.NextElement xs) q l k h = plain (λ z. step_in no_limit true o (at.NextElement xs) (tk q l z)) _ q l k tt tt
step_follows o (at.Key xs) q l k h = plain (λ z. step_in no_limit true o (at.Key xs) (tk q l z)) _ q l k tt tt
step_follows o (at.NameKey xs n) q l k h = plain (λ z. step_in no_limit true o (at.NameKey xs n) (tk q l z)) _ q l k tt tt
step_follows o (at.OtherKey xs m) q l k h = plain (λ z. step_in no_limit true o (at.OtherKey xs m) (tk q l z)) _ q l k tt tt
step_follows o (at.AsyncMethod xs m) q l k h = plain (λ z. step_in no_limit true o (at.AsyncMethod xs m) (tk q l z)) _ q l k tt tt
step_follows o (at.PropertyEnd xs) q l k h = plain (λ z. step_in no_limit true o (at.PropertyEnd xs) (tk q l z)) _ q l k tt tt
step_follows o (at.FunctionName d a) q l k h = plain (λ z. step_in no_limit true o (at.FunctionName d a) (tk q l z)) _ q l k tt tt
step_follows o (at.ParametersOpen m) q l k h = plain (λ z. step_in no_limit true o (at.ParametersOpen m) (tk q l z)) _ q l k tt tt
step_follows o (at.Parameters m ns) q l k h = plain (λ z. step_in no_limit true o (at.Parameters m ns) (tk q l z)) _ q l k tt tt
step_follows o (at.ParameterRead m ns n) q l k h = plain (λ z. step_in no_limit true o (at.ParameterRead m ns n) (tk q l z)) _ q l k tt tt
step_follows o (at.BodyOpen m ns) q l k h = plain (λ z. step_in no_limit true o (at.BodyOpen m ns) (tk q l z)) _ q l k tt tt
step_follows o (at.DeclaredName d) q l k h = plain (λ z. step_in no_limit true o (at.DeclaredName d) (tk q l z)) _ q l k tt tt
step_follows o (at.Opening x) q l k h = plain (λ z. step_in no_limit true o (at.Opening x) (tk q l z)) _ q l k tt tt
step_follows o at.ForHead q l k h = plain (λ z. step_in no_limit true o at.ForHead (tk q l z)) _ q l k tt tt
step_follows o (at.ForTest b) q l k h = plain (λ z. step_in no_limit true o (at.ForTest b) (tk q l z)) _ q l k tt tt
step_follows o (at.ForUpdate b test) q l k h = plain (λ z. step_in no_limit true o (at.ForUpdate b test) (tk q l z)) _ q l k tt tt
step_follows o at.TryOpen q l k h = plain (λ z. step_in no_limit true o at.TryOpen (tk q l z)) _ q l k tt tt
step_follows o (at.AfterTry ss) q l k h = plain (λ z. step_in no_limit true o (at.AfterTry ss) (tk q l z)) _ q l k tt tt
step_follows o (at.CatchOpen ss) q l k h = plain (λ z. step_in no_limit true o (at.CatchOpen ss) (tk q l z)) _ q l k tt tt
step_follows o (at.CatchName ss) q l k h = plain (λ z. step_in no_limit true o (at.CatchName ss) (tk q l z)) _ q l k tt tt
step_follows o (at.CatchClose ss n) q l k h = plain (λ z. step_in no_limit true o (at.CatchClose ss n) (tk q l z)) _ q l k tt tt
step_follows o (at.CatchBody ss n) q l k h = plain (λ z. step_in no_limit true o (at.CatchBody ss n) (tk q l z)) _ q l k tt tt
step_follows o (at.FinallyOpen ss c) q l k h = plain (λ z. step_in no_limit true o (at.FinallyOpen ss c) (tk q l z)) _ q l k tt tt
step_follows o at.ExportDefault q l k h = plain (λ z. step_in no_limit true o at.ExportDefault (tk q l z)) _ q l k tt tt
step_follows o at.ExportObject q l k h = plain (λ z. step_in no_limit true o at.ExportObject (tk q l z)) _ q l k tt tt

-- ---- behind an end stands a statement

abbrev EndsBetween : Step → Type 0
EndsBetween (Ok m) = is_between m.at ≡ true
EndsBetween (Err k) = Unit {0}

complete_between : (o : Outer) (fs : List Open) (s : Stmt) → EndsBetween (complete_in o fs s)
complete_between o [] s = refl
complete_between o (f ∷ fs) s = go f.frame (λ t. complete_between o fs t)
  where
    in_body : (b : Body) → ((t : Stmt) → EndsBetween (complete_in o fs t)) → EndsBetween (complete_body (framed o fs) b s (λ t. complete_in o fs t))
    in_body (body.Then test) c = refl
    in_body (body.Else test a) c = c _
    in_body (body.For b test u) c = c _
    in_body (body.ForOf m n x) c = c _
    in_body (body.While test) c = c _

    go : (k : Frame) → ((t : Stmt) → EndsBetween (complete_in o fs t)) → EndsBetween (complete_frame (framed o fs) f.constructs k s (λ t. complete_in o fs t))
    go (frame.Block b ss) c = refl
    go (frame.Body b) c = in_body b c
    go _ c = tt

initial_between : (o : Outer) (d : Declared) (b : Bool) → EndsBetween (on_initial_done false o d end_token b)
initial_between o d true = tt
initial_between o d false = complete_between o o.frames _

value_between : (o : Outer) (w : Purpose) (x : Expr) → EndsBetween (on_value false o w x end_token)
value_between o purpose.Statement x = complete_between o o.frames _
value_between o (purpose.Initial d n) x = initial_between o (st.with_declaration d n (Some x)) d.in_for
value_between o (purpose.Return q) x = complete_between o o.frames _
value_between o purpose.Throw x = complete_between o o.frames _
value_between o _ x = tt

over_between : (o : Outer) (v : Over) → EndsBetween (on_over false o end_token v)
over_between o v = go v.frames
  where
    by_frame : (n : ℕ) (m : Frame) (fs : List Open) → EndsBetween (on_over false o end_token (record { frames = opened n m ∷ fs; value = v.value }))
    by_frame n (frame.Purpose w) fs = value_between (framed o fs) w v.value
    by_frame n _ fs = tt

    go : (fs : List Open) → EndsBetween (on_over false o end_token (record { frames = fs; value = v.value }))
    go [] = tt
    go (f ∷ fs) = by_frame f.constructs f.frame fs

whole_between : (o : Outer) (x : Expr) → EndsBetween (after_whole false o x end_token)
whole_between o x = go (fold 0 o.frames x)
  where
    go : (v : Folded) → EndsBetween (on_folded false o end_token v)
    go (Ok v) = over_between o (fold_tails v.frames v.value)
    go (Err k) = tt

cond_between : (b : Bool) (x y : Step) → EndsBetween x → EndsBetween y → EndsBetween (cond b x y)
cond_between true x y h i = h
cond_between false x y h i = i

covered_between : (o : Outer) (c : Cover) (ns : List Name) (b : Bool) → EndsBetween (covered_value false o c ns b end_token)
covered_between o (covers.Async n) ns b = whole_between o _
covered_between o covers.Plain ns false = tt
covered_between o covers.Plain ns true = go (only_name ns)
  where
    go : (n : Option Name) → EndsBetween (group_of false o end_token n)
    go (Some n) = whole_between o _
    go None = tt

declared_between : (o : Outer) (d : Declared) (b : Bool) → EndsBetween (st.declared_in false o d end_token b)
declared_between o d true = tt
declared_between o d false = complete_between o o.frames _

without_between : (o : Outer) (d : Declared) (n : Name) (k : DeclareKind) → EndsBetween (st.without_value false o d n end_token k)
without_between o d n declare.Let = declared_between o (st.with_declaration d n None) d.in_for
without_between o d n declare.Const = tt

ended_between : (o : Outer) (a : At) → is_between a ≡ false → EndsBetween (step_in no_limit false o a end_token)
ended_between o (at.Operand x n) h = whole_between o x
ended_between o (at.Updated x) h = whole_between o x
ended_between o (at.Whole x) h = whole_between o x
ended_between o (at.Async n) h = whole_between o _
ended_between o (at.CoverName c ns n) h = cond_between (may_be_values c ns) _ (refuse_at spot.Parameter) (cond_between (is_async n.units) _ _ (whole_between (uncover o c ns) _) (whole_between (uncover o c ns) _)) tt
ended_between o (at.Covered c ns b) h = covered_between o c ns b
ended_between o (at.NameDeclared d n) h = go d.in_for (st.is_first d.declarations)
  where
    go : (a b : Bool) → EndsBetween (cond (a && (b && false)) (wait o 1 (purpose.ForOf d.kind n)) (st.without_value false o d n end_token d.kind))
    go true true = without_between o d n d.kind
    go true false = without_between o d n d.kind
    go false b = without_between o d n d.kind
ended_between o (at.Jump s) h = complete_between o o.frames s
ended_between o (at.Return m) h = complete_between o o.frames _
ended_between o at.Statement h = absurd (true≢false h)
ended_between o (at.AfterThen test s) h = absurd (true≢false h)
ended_between o (at.AfterCatch ss c) h = absurd (true≢false h)
ended_between o at.AfterExport h = absurd (true≢false h)
ended_between o (at.CoverOpen c ns) h = cond_between (may_be_values c ns) (refuse_at spot.ExpressionBegin) (refuse_at spot.Parameter) tt tt
ended_between o (at.ArrowBody a ns) h = go (nat_le no_limit (constructs o))
  where
    go : (b : Bool) → EndsBetween (arrow_value b (refuse_at spot.ExpressionBegin))
    go true = tt
    go false = tt
ended_between o _ h = tt

-- ---- the laws

-- the token's own step; else, where an end may stand, an end and the token
abbrev pub or_next : Step → Bool → Step → Step
or_next (Ok n) b ended = Ok n
or_next (Err k) true ended = ended
or_next (Err k) false ended = Err k

abbrev pub next : State → Token → Step
next s t = or_next (take s (Read t)) (may_end t) (taken (take s Ended) (λ m. take m (Read t)))

not_end : (k : TokenKind) → is_last k ≡ false → is_end k ≡ false
not_end tok.End h = absurd (true≢false h)
not_end (tok.Bad f) h = absurd (true≢false h)
not_end (tok.Name u) h = refl
not_end (tok.Reserved x) h = refl
not_end (tok.Number n) h = refl
not_end (tok.Text u) h = refl
not_end (tok.Template x u) h = refl
not_end (tok.Punctuator x) h = refl

-- an end is taken where no whole statements stand
pub ended_is : (s : State) → is_between s.at ≡ false → take s Ended ≡ step_in no_limit false s.outer s.at end_token
ended_is s h = ap (λ (b : Bool). cond b refuse (step no_limit false s end_token)) h ∙ no_limit_is (step_in no_limit false s.outer s.at end_token)

pub ended_refused : (s : State) → is_between s.at ≡ true → take s Ended ≡ refuse
ended_refused s h = ap (λ (b : Bool). cond b refuse (step no_limit false s end_token)) h

-- between statements no ends are put in
between_step : (o : Outer) (a : At) (t : Token) → is_between a ≡ true → step_in no_limit true o a t ≡ step_in no_limit false o a t
between_step o at.Statement t h = refl
between_step o (at.AfterThen test s) t h = refl
between_step o (at.AfterCatch ss c) t h = refl
between_step o at.AfterExport t h = refl
between_step o _ t h = absurd (false≢true h)

behind_taken : (x : Step) (t : Token) → is_last t.kind ≡ false → behind x t ≡ taken x (λ m. take m (Read t))
behind_taken (Ok m) t h = sym (take_is m t h)
behind_taken (Err k) t h = refl

or_end_next : (x : Step) (b : Bool) (ended : Step) (t : Token) → is_last t.kind ≡ false → or_end x b ended t ≡ or_next x b (taken ended (λ m. take m (Read t)))
or_end_next (Ok n) b ended t h = refl
or_end_next (Err k) true ended t h = behind_taken ended t h
or_end_next (Err k) false ended t h = refl

either_next : (x : Step) (b : Bool) → Same x (or_next x b refuse)
either_next (Ok n) b = refl
either_next (Err k) true = tt
either_next (Err k) false = tt

-- A token of the text does what the strict machine does by it, with an end before it where one is wanted and may stand.
pub step_is_next : (s : State) (t : Token) → is_last t.kind ≡ false → Same (step no_limit true s t) (next s t)
step_is_next s t h = go (is_between s.at) refl
  where
    own_is : own t.kind (step_in no_limit false s.outer s.at t) ≡ take s (Read t)
    own_is = ap (λ (b : Bool). cond b refuse (step_in no_limit false s.outer s.at t)) (not_end t.kind h) ∙ sym (take_is s t h)

    go : (b : Bool) → is_between s.at ≡ b → Same (step no_limit true s t) (next s t)
    go true e = subst (λ (z : Step). Same z (next s t)) (sym (no_limit_is (step_in no_limit true s.outer s.at t) ∙ between_step s.outer s.at t e ∙ sym (take_is s t h)))
        (subst (λ (z : Step). Same (take s (Read t)) (or_next (take s (Read t)) (may_end t) (taken z (λ m. take m (Read t))))) (sym (ended_refused s e)) (either_next (take s (Read t)) (may_end t)))
    go false e =
        let f : Follows (step_in no_limit true s.outer s.at t) (step_in no_limit false s.outer s.at t) (step_in no_limit false s.outer s.at end_token) t.place t.after_line_end t.kind = step_follows s.outer s.at t.place t.after_line_end t.kind e in
        subst (λ (z : Step). Same z (next s t)) (sym (no_limit_is (step_in no_limit true s.outer s.at t)))
        (same_is _ _ _
        (ap (λ (z : Step). or_end z (may_end t) (step_in no_limit false s.outer s.at end_token) t) own_is
        ∙ ap (λ (z : Step). or_end (take s (Read t)) (may_end t) z t) (sym (ended_is s e))
        ∙ or_end_next (take s (Read t)) (may_end t) (take s Ended) t h)
        f.next)

-- Where an end stands, `}` does not.
pub brace_behind_end : (s : State) (t : Token) → t.kind ≡ tok.Punctuator p.CloseBrace → Bar (take s (Read t)) (take s Ended)
brace_behind_end s t h = go (is_between s.at) refl
  where
    is_read : is_last t.kind ≡ false
    is_read = ap is_last h

    is_brace : is_close_brace t.kind ≡ true
    is_brace = ap is_close_brace h

    go : (b : Bool) → is_between s.at ≡ b → Bar (take s (Read t)) (take s Ended)
    go true e = subst (λ (z : Step). Bar (take s (Read t)) z) (sym (ended_refused s e)) (bar_refused (take s (Read t)) refuse tt)
    go false e =
        let f : Follows (step_in no_limit true s.outer s.at t) (step_in no_limit false s.outer s.at t) (step_in no_limit false s.outer s.at end_token) t.place t.after_line_end t.kind = step_follows s.outer s.at t.place t.after_line_end t.kind e in
        subst (λ (z : Step). Bar z (take s Ended)) (sym (take_is s t is_read)) (subst (λ (z : Step). Bar (step_in no_limit false s.outer s.at t) z) (sym (ended_is s e)) (f.brace is_brace))

-- ---- the end of the text

-- where the script may end, perhaps with an end put in
abbrev pub finished : State → Step
finished s = cond (is_between s.at) (finish s) (taken (take s Ended) finish)

pub ends_between : (s m : State) → take s Ended ≡ Ok m → is_between m.at ≡ true
ends_between s m h = go (is_between s.at) refl
  where
    go : (b : Bool) → is_between s.at ≡ b → is_between m.at ≡ true
    go true e = (let i : refuse ≡ Ok m = sym (ended_refused s e) ∙ h in cc)
    go false e = subst EndsBetween (sym (ended_is s e) ∙ h) (ended_between s.outer s.at e)

last_behind : (x : Step) (q : ℕ) (l : Bool) → st.statement_behind x (tk q l tok.End) ≡ st.statement_behind x end_token
last_behind (Ok n) q l = refl
last_behind (Err k) q l = refl

-- wherever the last token stands
last_step : (o : Outer) (a : At) (q : ℕ) (l : Bool) → is_between a ≡ true → step_in no_limit false o a (tk q l tok.End) ≡ step_in no_limit false o a end_token
last_step o at.Statement q l h = refl
last_step o (at.AfterThen test s) q l h = last_behind (settle o (stmt.If test s None)) q l
last_step o (at.AfterCatch ss c) q l h = last_behind (settle o (stmt.Try ss (Some c) None)) q l
last_step o at.AfterExport q l h = refl
last_step o _ q l h = absurd (false≢true h)

last_finish : (s : State) (q : ℕ) (l : Bool) → is_between s.at ≡ true → step_in no_limit false s.outer s.at (tk q l tok.End) ≡ finish s
last_finish s q l h = last_step s.outer s.at q l h ∙ sym (no_limit_is (step_in no_limit false s.outer s.at end_token)) ∙ sym (ap (λ (b : Bool). cond b (step no_limit false s end_token) refuse) h)

-- The last token is taken where the script may end, and to that end.
pub last_is_finished : (s : State) (t : Token) → t.kind ≡ tok.End → Same (step no_limit true s t) (finished s)
last_is_finished s t h = subst (λ (k : TokenKind). Same (step no_limit true s (tk t.place t.after_line_end k)) (finished s)) (sym h) (go (is_between s.at) refl)
  where
    behind_finish : (x : Step) → ((m : State) → x ≡ Ok m → is_between m.at ≡ true) → behind x (tk t.place t.after_line_end tok.End) ≡ taken x finish
    behind_finish (Ok m) c = last_finish m t.place t.after_line_end (c m refl)
    behind_finish (Err k) c = refl

    go : (b : Bool) → is_between s.at ≡ b → Same (step no_limit true s (tk t.place t.after_line_end tok.End)) (finished s)
    go true e = subst (λ (z : Step). Same z (finished s)) (sym (no_limit_is (step_in no_limit true s.outer s.at (tk t.place t.after_line_end tok.End)) ∙ between_step s.outer s.at (tk t.place t.after_line_end tok.End) e ∙ last_finish s t.place t.after_line_end e))
        (subst (λ (b : Bool). Same (finish s) (cond b (finish s) (taken (take s Ended) finish))) (sym e) (same_refl (finish s)))
    go false e =
        let f = step_follows s.outer s.at t.place t.after_line_end tok.End e in
        subst (λ (z : Step). Same z (finished s)) (sym (no_limit_is (step_in no_limit true s.outer s.at (tk t.place t.after_line_end tok.End))))
        (same_is _ _ _
        (ap (λ (z : Step). behind z (tk t.place t.after_line_end tok.End)) (sym (ended_is s e))
        ∙ behind_finish (take s Ended) (λ m i. ends_between s m i)
        ∙ ap (λ (b : Bool). cond b (finish s) (taken (take s Ended) finish)) (sym e))
        f.next)
