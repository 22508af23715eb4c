-- Expressions with operators are read.
use Rattle.js_parse_core.specs.declared.machine.Purpose.TheVariants as purpose
use Rattle.js_tree.specs.declared.tree.BinaryOp.TheVariants as binary
use Rattle.js_tree.specs.declared.tree.BinaryOp.{BinaryOp}
use Rattle.std.proofs.Common.{◌≡◌, ℕ, ◌≤◌, Bool, true, false, cond, List, [], ◌∷◌, ◌++◌, Ok, refl, sym, ap, ◌∙◌, subst, arith, ◌<◌, append_assoc, ◌+◌}
use Rattle.std.specs.Prelude.{nat_le, ◌&&◌, nat_lt}
use Rattle.std.proofs.lemmas.Bool.{leb-true, ltb-true}
use Rattle.js_lex.specs.declared.token.Punctuator.TheVariants as p
use Rattle.js_lex.specs.declared.token.Reserved.TheVariants as r
use Rattle.js_lex.specs.declared.token.TokenKind.{TokenKind}
use Rattle.js_lex.specs.declared.token.TokenKind.TheVariants as tok
use Rattle.js_lex.specs.declared.token.Token.{Token}
use Rattle.js_tree.specs.Targets.{target_of, target_in}
use Rattle.js_tree.specs.declared.tree.ArrowBody.TheOpen.{Expr-F}
use Rattle.js_tree.specs.declared.tree.AssignOp.{AssignOp}
use Rattle.js_tree.specs.declared.tree.AssignOp.TheVariants as assign
use Rattle.js_tree.specs.declared.tree.Expr.{Expr, out-Expr, out-roll-Expr}
use Rattle.js_tree.specs.declared.tree.Expr.TheVariants as expr
use Rattle.js_tree.specs.declared.tree.Target.{Target}
use Rattle.js_tree.specs.declared.tree.Target.TheVariants as target
use Rattle.js_tree.specs.declared.tree.UnaryOp.{UnaryOp}
use Rattle.js_tree.specs.declared.tree.UnaryOp.TheVariants as unary
use Rattle.js_tree.specs.declared.tree.UpdateOp.{UpdateOp}
use Rattle.js_tree.specs.declared.tree.UpdateOp.TheVariants as update
use Rattle.js_tree.specs.declared.tree.UpdateSide.{UpdateSide}
use Rattle.js_tree.specs.declared.tree.UpdateSide.TheVariants as side
use Rattle.js_tree.specs.declared.tree.Name.{Name}
use Rattle.js_grammar.specs.Marks.{Piece, Read, Just, Form, mark, sign, one, just, deeper, unbroken}
use Rattle.js_grammar.specs.Grammar as grammar
use Rattle.js_grammar.specs.Shapes as shapes
use Rattle.js_grammar.specs.Shapes.{strength}
use Rattle.js_parse_core.specs.declared.machine.Logic.{Logic}
use Rattle.js_parse_core.specs.declared.machine.At.TheVariants as at
use Rattle.js_parse_core.specs.declared.machine.Frame.TheVariants as frame
use Rattle.js_parse_core.specs.declared.machine.Operator.{Operator}
use Rattle.js_parse_core.specs.declared.machine.Operator.TheVariants as operator
use Rattle.js_parse_core.specs.declared.machine.Open.{Open}
use Rattle.js_parse_core.specs.declared.machine.Outer.{Outer}
use Rattle.js_parse_core.specs.declared.machine.State.{State}
use Rattle.js_parse_core.specs.declared.machine.Tail.{Tail}
use Rattle.js_parse_core.specs.declared.machine.Tail.TheVariants as tail
use Rattle.js_parse_core.specs.Begin.{begin, prefix}
use Rattle.js_parse_core.specs.Expressions.{assign_to, update_of}
use Rattle.js_parse_core.specs.Outer.{Step, plus, constructs, push, push_at, opened, wait_tail}
use Rattle.js_parse_core.specs.Tokens.{is_open_paren}
use Rattle.js_parse_core.specs.Values.{are_mixed, operator_logic, fold, end_tail, after_whole, waiting, logic_of, joins_folded, tests}
use Rattle.js_parse_core.proofs.Pieces.{Fits, taken, run}
use Rattle.js_parse_core.proofs.PieceLemmas.{Split, fits_split, fits_shallow, run_step}
use Rattle.js_parse_core.proofs.Readings.{token, token_of, Place, free, admits, starts, ends_parameter, Begins, FirstOn, ReadsValue, plus_low, begins_waiting, take_proper, begins_purpose, free_admits}
use Rattle.js_parse_core.proofs.Folding.{follows, behind, needs, operator_needs, behind_alike, behind_ends, chained, operand_behind, updated_behind, fold_update, prefix_is, update_is, whole, tail_ends, logic_in, strength_small, logic_is, left_unmixed, unmixed_left, unmixed_right, mixed_either, joins_is, outermost_is, fold_binary, no_fold, nothing_waits}
use Rattle.js_parse_core.proofs.FirstTokens.{Then, ThenAt, then_just, then_at, first_on}
use Rattle.js_parse_core.proofs.Operands.{Next, Stands, ReadsOperand, waiting_at, follows_small, out_name, reads_name}
use Rattle.js_parse_core.proofs.Words.{both}
use Rattle.js_parse_core.proofs.Chains.{reads_member, reads_index, ready_left, next_token, joined_pieces, no_paren, value_of, value_waits}
use Rattle.js_grammar.proofs.Equations.{written_unary, written_await, written_update, written_assign, written_name, written_member, written_index, written_variable, written_field, written_item, written_binary, written_conditional}
use Rattle.js_parse_core.proofs.ShapeEquations.{shape_unary, shape_await, shape_update, shape_assign, shape_name, shape_member, shape_index, shape_variable, shape_field, shape_item, shape_binary, shape_conditional}

-- ---- prefix operators

-- the token of a prefix operator, and its operand's pieces
pub record Prefixed (op : Operator) (fs : List Form) (ps : List Piece) : Type 0 where
  pub place : ℕ
  pub line : Bool
  pub kind : TokenKind
  pub rest : List Piece
  pub are : ps ≡ Read (token place line kind) ∷ rest
  pub starts : (w : Place) → starts w kind ≡ true
  pub begins : (o : Outer) → begin o (token place line kind) ≡ prefix o op
  pub fits : Fits fs rest

-- x under the operator is y
pub reads_prefix : (x y : Expr) (op : Operator) → ReadsOperand x → ((ps : List Piece) → Fits (grammar.of_expr y).forms ps → Prefixed op (grammar.of_expr x).forms ps)
    → ((least c : ℕ) (fs : List Open) → fold least (opened c (frame.Operator op) ∷ fs) x ≡ fold least fs y) → (shapes.of_expr y).level ≡ 7
    → ((shapes.of_expr y).fits ≡ true → ((shapes.of_expr x).fits ≡ true) × (operator_needs op ≤ (shapes.of_expr x).level))
    → 7 ≤ operator_needs op → are_mixed (operator_logic op) (logic_in (shapes.of_expr x).logic) ≡ false → ReadsOperand y
reads_prefix x y op i starting folds level fits seven unmixed = record {
  reads = λ w s o ps q rest ready next line h.
      let t : Prefixed op (grammar.of_expr x).forms ps = starting ps h in
      let tk : Token = token t.place t.line t.kind in
      let on : w.line ≡ true → t.line ≡ false = first_on w.line tk (t.rest ++ q ∷ rest) (subst (λ (z : List Piece). FirstOn w.line (z ++ q ∷ rest)) t.are line) in
      let n = ready.needs in
      let g : ((shapes.of_expr x).fits ≡ true) × (operator_needs op ≤ (shapes.of_expr x).level) = fits ready.fits in
      let c = plus (constructs o) 1 in
      let under = push_at o c (frame.Operator op) in
      let small = next.follows in
      let enough = g.1 in
      let st : Stands (waiting_at under) under x t.rest q rest = i.reads free (waiting_at under) under t.rest q rest
      (record { begins = begins_waiting under (plus_low (constructs o) 1) refl refl; fits = g.0; admits = free_admits (shapes.of_expr x).first; needs = enough; unmixed = unmixed })
      (record { proper = next.proper; follows = omega (arith, small, level, seven, enough); paren = λ a. no_paren (token_of q).kind 7 (omega arith) (omega (arith, small, level)); cover = λ a b. cc })
      tt t.fits in
      record {
        accesses = st.accesses;
        chain = st.chain;
        runs = ap (λ (z : List Piece). run s (z ++ q ∷ rest)) t.are
            ∙ run_step s (waiting_at under) (Read tk) (t.rest ++ q ∷ rest) (ready.begins.begins t.place t.line t.kind on (t.starts w) ∙ t.begins o ∙ prefix_is o op (omega (arith, n, level)))
            ∙ st.runs
            ∙ ap (λ (z : Step). taken z (λ m. run m rest)) (behind_alike o (opened c (frame.Operator op)) x y st.accesses st.accesses st.chain 7 (token_of q) (omega arith) (λ least d. folds least c o.frames) (omega (arith, small, level)));
      };
}

prefixed_by : (op : Operator) (k : TokenKind) (fs : List Form) (ps : List Piece) → ((w : Place) → starts w k ≡ true) → ((o : Outer) (q : ℕ) (l : Bool) → begin o (token q l k) ≡ prefix o op) → Fits (one (mark (Just k)) ∷ fs) ps → Prefixed op fs ps
prefixed_by op k fs ps a b h =
    let t : Then false k fs ps = then_just false k 0 fs ps h in
    record { place = t.place; line = t.line; kind = k; rest = t.rest; are = t.are; starts = a; begins = λ o. b o t.place t.line; fits = t.fits }

unary_prefixed : (u : UnaryOp) (fs : List Form) (ps : List Piece) → Fits (grammar.unary_form u ∷ fs) ps → Prefixed (operator.Unary u) fs ps
unary_prefixed unary.Not fs ps h = prefixed_by (operator.Unary unary.Not) (tok.Punctuator p.Not) fs ps (λ w. refl) (λ o q l. refl) h
unary_prefixed unary.Negate fs ps h = prefixed_by (operator.Unary unary.Negate) (tok.Punctuator p.Minus) fs ps (λ w. refl) (λ o q l. refl) h
unary_prefixed unary.TypeOf fs ps h = prefixed_by (operator.Unary unary.TypeOf) (tok.Reserved r.TypeOf) fs ps (λ w. refl) (λ o q l. refl) h

operand_bound : (x : shapes.Shape) (n : ℕ) → shapes.at_least n x ≡ true → (x.fits ≡ true) × (n ≤ x.level)
operand_bound x n h =
    let e : (x.fits ≡ true) × (nat_le n x.level ≡ true) = both x.fits (nat_le n x.level) h in
    (e.0, leb-true n x.level e.1)

pub reads_unary : (u : UnaryOp) (x : Expr) → ReadsOperand x → ReadsOperand (expr.Unary u x)
reads_unary u x i = reads_prefix x (expr.Unary u x) (operator.Unary u) i
    (λ ps h. unary_prefixed u (grammar.of_expr x).forms ps (fits_shallow 1 (grammar.unary_form u ∷ (grammar.of_expr x).forms) ps (subst (λ (z : grammar.Written). Fits z.forms ps) (written_unary u x) h)))
    (λ least c fs. refl) (ap (λ (z : shapes.Shape). z.level) (shape_unary u x))
    (λ h. operand_bound (shapes.of_expr x) 7 (sym (ap (λ (z : shapes.Shape). z.fits) (shape_unary u x)) ∙ h)) (omega arith) refl

pub reads_await : (place : ℕ) (x : Expr) → ReadsOperand x → ReadsOperand (expr.Await place x)
reads_await place x i = reads_prefix x (expr.Await place x) (operator.Await place) i
    (λ ps h. let t : ThenAt place false (tok.Reserved r.Await) (grammar.of_expr x).forms ps = then_at place false (tok.Reserved r.Await) 0 (grammar.of_expr x).forms ps
    (fits_shallow 1 (grammar.reserved_at place r.Await ∷ (grammar.of_expr x).forms) ps (subst (λ (z : grammar.Written). Fits z.forms ps) (written_await place x) h)) in
    record { place = place; line = t.line; kind = tok.Reserved r.Await; rest = t.rest; are = t.are; starts = λ w. refl; begins = λ o. refl; fits = t.fits })
    (λ least c fs. refl) (ap (λ (z : shapes.Shape). z.level) (shape_await place x))
    (λ h. operand_bound (shapes.of_expr x) 7 (sym (ap (λ (z : shapes.Shape). z.fits) (shape_await place x)) ∙ h)) (omega arith) refl

-- ---- targets

-- t is written and read as the expression x
pub record ReadsTarget (t : Target) : Type 0 where
  pub value : Expr
  pub is : target_of value ≡ Ok t
  pub forms : (grammar.of_target t).forms ≡ (grammar.of_expr value).forms
  pub shape : shapes.of_target t ≡ shapes.of_expr value
  pub level : (shapes.of_target t).level ≡ 9
  pub reads : ReadsOperand value

pub reads_variable : (n : Name) → ReadsTarget (target.Variable n)
reads_variable n = record {
  value = expr.Name n;
  is = ap (target_in (expr.Name n)) (out_name n);
  forms = ap (λ (z : grammar.Written). z.forms) (written_variable n ∙ sym (written_name n));
  shape = shape_variable n ∙ sym (shape_name n);
  level = ap (λ (z : shapes.Shape). z.level) (shape_variable n);
  reads = reads_name n;
}

pub reads_field : (x : Expr) (n : Name) → ReadsOperand x → ReadsTarget (target.Field x n)
reads_field x n i = record {
  value = expr.Member x n;
  is = ap (target_in (expr.Member x n)) (ap out-Expr (sym (expr.rolls-Member x n)) ∙ out-roll-Expr (Expr-F.Member x n));
  forms = ap (λ (z : grammar.Written). z.forms) (written_field x n ∙ sym (written_member x n));
  shape = shape_field x n ∙ sym (shape_member x n);
  level = ap (λ (z : shapes.Shape). z.level) (shape_field x n);
  reads = reads_member x n i;
}

pub reads_item : (x k : Expr) → ReadsOperand x → ReadsValue k → ReadsTarget (target.Item x k)
reads_item x k i j = record {
  value = expr.Index x k;
  is = ap (target_in (expr.Index x k)) (ap out-Expr (sym (expr.rolls-Index x k)) ∙ out-roll-Expr (Expr-F.Index x k));
  forms = ap (λ (z : grammar.Written). z.forms) (written_item x k ∙ sym (written_index x k));
  shape = shape_item x k ∙ sym (shape_index x k);
  level = ap (λ (z : shapes.Shape). z.level) (shape_item x k);
  reads = reads_index x k i j;
}

-- ---- `++` and `--`

update_prefixed : (u : UpdateOp) (fs : List Form) (ps : List Piece) → Fits (just (grammar.update_sign u) ∷ fs) ps → Prefixed (operator.Update u) fs ps
update_prefixed update.Increment fs ps h = prefixed_by (operator.Update update.Increment) (tok.Punctuator p.PlusPlus) fs ps (λ w. refl) (λ o q l. refl) h
update_prefixed update.Decrement fs ps h = prefixed_by (operator.Update update.Decrement) (tok.Punctuator p.MinusMinus) fs ps (λ w. refl) (λ o q l. refl) h

pub reads_update_before : (u : UpdateOp) (t : Target) → ReadsTarget t → ReadsOperand (expr.Update side.Before u t)
reads_update_before u t i =
    let x = i.value in
    reads_prefix x (expr.Update side.Before u t) (operator.Update u) i.reads
    (λ ps h. update_prefixed u (grammar.of_expr x).forms ps (subst (λ (z : List Form). Fits (just (grammar.update_sign u) ∷ z) ps) i.forms
    (fits_shallow 1 (just (grammar.update_sign u) ∷ (grammar.of_target t).forms) ps (subst (λ (z : grammar.Written). Fits z.forms ps) (written_update side.Before u t) h))))
    (λ least c fs. fold_update least c u fs x t i.is) (ap (λ (z : shapes.Shape). z.level) (shape_update side.Before u t))
    (λ h. (
      ap (λ (z : shapes.Shape). z.fits) (sym i.shape) ∙ sym (ap (λ (z : shapes.Shape). z.fits) (shape_update side.Before u t)) ∙ h,
      (let a : (shapes.of_expr x).level ≡ 9 = ap (λ (z : shapes.Shape). z.level) (sym i.shape) ∙ i.level in omega (arith, a)),
    )) (omega arith) refl

-- the sign behind a target
update_follows : (o : Outer) (u : UpdateOp) (x : Expr) (n c q : ℕ) (t : Target) → target_of x ≡ Ok t → needs o.frames ≤ 8
    → behind o x n c (token q false (tok.Punctuator (grammar.update_sign u))) ≡ Ok (record { outer = o; at = at.Updated (expr.Update side.Behind u t) })
update_follows o update.Increment x n c q t e h = update_is o update.Increment x (token q false (tok.Punctuator p.PlusPlus)) h ∙ ap (update_of false o update.Increment (token q false (tok.Punctuator p.PlusPlus))) e
update_follows o update.Decrement x n c q t e h = update_is o update.Decrement x (token q false (tok.Punctuator p.MinusMinus)) h ∙ ap (update_of false o update.Decrement (token q false (tok.Punctuator p.MinusMinus))) e

update_sign_follows : (u : UpdateOp) → follows (tok.Punctuator (grammar.update_sign u)) ≡ 9
update_sign_follows update.Increment = refl
update_sign_follows update.Decrement = refl

update_no_paren : (u : UpdateOp) → is_open_paren (tok.Punctuator (grammar.update_sign u)) ≡ false
update_no_paren update.Increment = refl
update_no_paren update.Decrement = refl

update_no_end : (u : UpdateOp) → ends_parameter (tok.Punctuator (grammar.update_sign u)) ≡ false
update_no_end update.Increment = refl
update_no_end update.Decrement = refl

pub reads_update_behind : (u : UpdateOp) (t : Target) → ReadsTarget t → ReadsOperand (expr.Update side.Behind u t)
reads_update_behind u t i = record {
  reads = λ w s o ps q rest ready next line h.
      let x = i.value in
      let y = expr.Update side.Behind u t in
      let k = tok.Punctuator (grammar.update_sign u) in
      let sign_form : List Form = one (unbroken (sign (grammar.update_sign u))) ∷ [] in
      let c : Split (grammar.of_expr x).forms sign_form ps = fits_split (grammar.of_expr x).forms sign_form ps
      (subst (λ (z : List Form). Fits (z ++ sign_form) ps) i.forms (subst (λ (z : grammar.Written). Fits z.forms ps) (written_update side.Behind u t) h)) in
      let m : Then true k [] c.back = then_just true k 0 [] c.back c.fits_back in
      let tk : Piece = Read (token m.place m.line k) in
      let whole : ps ++ q ∷ rest ≡ c.front ++ tk ∷ (q ∷ rest) = joined_pieces ps c.front c.back m.rest (q ∷ rest) tk c.parts m.are ∙ ap (λ (z : List Piece). c.front ++ tk ∷ (z ++ q ∷ rest)) m.fits in
      let nine : (shapes.of_expr x).level ≡ 9 = ap (λ (z : shapes.Shape). z.level) (sym i.shape) ∙ i.level in
      let eight : (shapes.of_expr y).level ≡ 8 = ap (λ (z : shapes.Shape). z.level) (shape_update side.Behind u t) in
      let n = ready.needs in
      let small = next.follows in
      let f = update_sign_follows u in
      let fits : (shapes.of_expr x).fits ≡ true = ap (λ (z : shapes.Shape). z.fits) (sym i.shape) ∙ sym (ap (λ (z : shapes.Shape). z.fits) (shape_update side.Behind u t)) ∙ ready.fits in
      let first : (shapes.of_expr y).first ≡ (shapes.of_expr x).first = ap (λ (z : shapes.Shape). z.first) (shape_update side.Behind u t) ∙ ap (λ (z : shapes.Shape). z.first) i.shape in
      let st : Stands s o x c.front tk (q ∷ rest) = i.reads.reads w s o c.front tk (q ∷ rest)
      (ready_left w s o y x ready fits (omega (arith, nine)) first)
      (next_token w x m.place m.line k refl (omega (arith, nine, f)) (λ a. update_no_paren u) (update_no_end u))
      (subst (FirstOn w.line) whole line) c.fits_front in
      let now : State = record { outer = o; at = at.Updated y } in
      record {
        accesses = 0;
        chain = chained o y;
        runs = ap (run s) whole ∙ st.runs
            ∙ ap (λ (z : Bool). taken (behind o x st.accesses st.chain (token m.place z k)) (λ m. run m (q ∷ rest))) (m.unbroken refl)
            ∙ ap (λ (z : Step). taken z (λ m. run m (q ∷ rest))) (update_follows o u x st.accesses st.chain m.place t i.is (omega (arith, n, eight)))
            ∙ ap (λ (z : Step). taken z (λ m. run m rest))
            (take_proper now q next.proper refl
            ∙ updated_behind o y 0 (token_of q).place (token_of q).after_line_end (token_of q).kind (omega (arith, small, eight))
            ∙ operand_behind o y 0 (token_of q).place (token_of q).after_line_end (token_of q).kind (follows_small w y q next));
      };
}

pub reads_update : (s : UpdateSide) (u : UpdateOp) (t : Target) → ReadsTarget t → ReadsOperand (expr.Update s u t)
reads_update side.Before u t i = reads_update_before u t i
reads_update side.Behind u t i = reads_update_behind u t i

-- ---- `=`

assign_follows : (o : Outer) (a : AssignOp) (x : Expr) (n c q : ℕ) (l : Bool) (t : Target) → target_of x ≡ Ok t → needs o.frames ≤ 0
    → behind o x n c (token q l (tok.Punctuator (grammar.assign_sign a))) ≡ wait_tail o (tail.Assign a t)
assign_follows o assign.Set x n c q l t e h = ap (λ (b : Bool). cond b (assign_to false o assign.Set (token q l (tok.Punctuator p.Equal)) (target_of x)) (after_whole false o x (token q l (tok.Punctuator p.Equal)))) (whole o h)
    ∙ ap (assign_to false o assign.Set (token q l (tok.Punctuator p.Equal))) e
assign_follows o assign.Add x n c q l t e h = ap (λ (b : Bool). cond b (assign_to false o assign.Add (token q l (tok.Punctuator p.PlusEqual)) (target_of x)) (after_whole false o x (token q l (tok.Punctuator p.PlusEqual)))) (whole o h)
    ∙ ap (assign_to false o assign.Add (token q l (tok.Punctuator p.PlusEqual))) e
assign_follows o assign.Subtract x n c q l t e h = ap (λ (b : Bool). cond b (assign_to false o assign.Subtract (token q l (tok.Punctuator p.MinusEqual)) (target_of x)) (after_whole false o x (token q l (tok.Punctuator p.MinusEqual)))) (whole o h)
    ∙ ap (assign_to false o assign.Subtract (token q l (tok.Punctuator p.MinusEqual))) e

assign_sign_follows : (a : AssignOp) → follows (tok.Punctuator (grammar.assign_sign a)) ≡ 9
assign_sign_follows assign.Set = refl
assign_sign_follows assign.Add = refl
assign_sign_follows assign.Subtract = refl

assign_no_paren : (a : AssignOp) → is_open_paren (tok.Punctuator (grammar.assign_sign a)) ≡ false
assign_no_paren assign.Set = refl
assign_no_paren assign.Add = refl
assign_no_paren assign.Subtract = refl

assign_no_end : (a : AssignOp) → ends_parameter (tok.Punctuator (grammar.assign_sign a)) ≡ false
assign_no_end assign.Set = refl
assign_no_end assign.Add = refl
assign_no_end assign.Subtract = refl

-- The value of a tail, and with it the whole.
pub tail_value : (x y : Expr) (a : Tail) (w : Place) (o : Outer) (ps : List Piece) (q : Piece) (rest : List Piece) → ReadsOperand x → end_tail a x ≡ y → (shapes.of_expr y).level ≡ 0 → Next w y q → needs o.frames ≤ 0
    → (shapes.of_expr x).fits ≡ true → (v : Place) (s : State) → Begins v s (push o 1 (frame.Tail a)) → admits v (shapes.of_expr x).first ≡ true → v.covering ≡ false → FirstOn v.line (ps ++ q ∷ rest) → Fits (grammar.of_expr x).forms ps
    → run s (ps ++ q ∷ rest) ≡ taken (after_whole false o y (token_of q)) (λ n. run n rest)
tail_value x y a w o ps q rest i e level next whole f v s b ad cover line h =
    let small = next.follows in
    let z : follows (token_of q).kind ≡ 0 = omega (arith, small, level) in
    let under = push o 1 (frame.Tail a) in
    let st : Stands s under x ps q rest = i.reads v s under ps q rest
    (record { begins = b; fits = f; admits = ad; needs = omega arith; unmixed = refl })
    (record { proper = next.proper; follows = omega (arith, z); paren = λ c. no_paren (token_of q).kind 0 (omega arith) (omega (arith, z)); cover = λ c d. cc })
    line h in
    st.runs ∙ ap (λ (c : Step). taken c (λ n. run n rest))
    (behind_ends under x st.accesses st.chain (token_of q) z ∙ tail_ends o (plus (constructs o) 1) a x (token_of q) whole ∙ ap (λ (c : Expr). after_whole false o c (token_of q)) e)

-- a whole that nothing continues
pub stands_whole : (w : Place) (s : State) (o : Outer) (y : Expr) (ps : List Piece) (q : Piece) (rest : List Piece) → Next w y q → (shapes.of_expr y).level ≡ 0
    → run s (ps ++ q ∷ rest) ≡ taken (after_whole false o y (token_of q)) (λ n. run n rest) → Stands s o y ps q rest
stands_whole w s o y ps q rest next level e =
    let small = next.follows in
    record { accesses = 0; chain = 0; runs = e ∙ ap (λ (c : Step). taken c (λ n. run n rest)) (sym (behind_ends o y 0 0 (token_of q) (omega (arith, small, level)))) }

pub reads_assign : (a : AssignOp) (t : Target) (y : Expr) → ReadsTarget t → ReadsOperand y → ReadsOperand (expr.Assign a t y)
reads_assign a t y i j = record {
  reads = λ w s o ps q rest ready next line h.
      let x = i.value in
      let z = expr.Assign a t y in
      let k = tok.Punctuator (grammar.assign_sign a) in
      let inner = one (mark (Just k)) ∷ (grammar.of_expr y).forms in
      let c : Split (grammar.of_expr x).forms (deeper 1 inner) ps = fits_split (grammar.of_expr x).forms (deeper 1 inner) ps
      (subst (λ (d : List Form). Fits (d ++ deeper 1 inner) ps) i.forms (subst (λ (d : grammar.Written). Fits d.forms ps) (written_assign a t y) h)) in
      let m : Then false k (grammar.of_expr y).forms c.back = then_just false k 0 (grammar.of_expr y).forms c.back (fits_shallow 1 inner c.back c.fits_back) in
      let tk : Piece = Read (token m.place m.line k) in
      let all : ps ++ q ∷ rest ≡ c.front ++ tk ∷ (m.rest ++ q ∷ rest) = joined_pieces ps c.front c.back m.rest (q ∷ rest) tk c.parts m.are in
      let nine : (shapes.of_expr x).level ≡ 9 = ap (λ (d : shapes.Shape). d.level) (sym i.shape) ∙ i.level in
      let zero_level : (shapes.of_expr z).level ≡ 0 = ap (λ (d : shapes.Shape). d.level) (shape_assign a t y) in
      let n = ready.needs in
      let f = assign_sign_follows a in
      let fits : ((shapes.of_target t).fits ≡ true) × ((shapes.of_expr y).fits ≡ true) = both (shapes.of_target t).fits (shapes.of_expr y).fits (sym (ap (λ (d : shapes.Shape). d.fits) (shape_assign a t y)) ∙ ready.fits) in
      let first : (shapes.of_expr z).first ≡ (shapes.of_expr x).first = ap (λ (d : shapes.Shape). d.first) (shape_assign a t y) ∙ ap (λ (d : shapes.Shape). d.first) i.shape in
      let st : Stands s o x c.front tk (m.rest ++ q ∷ rest) = i.reads.reads w s o c.front tk (m.rest ++ q ∷ rest)
      (ready_left w s o z x ready (ap (λ (d : shapes.Shape). d.fits) (sym i.shape) ∙ fits.0) (omega (arith, nine)) first)
      (next_token w x m.place m.line k refl (omega (arith, nine, f)) (λ b. assign_no_paren a) (assign_no_end a))
      (subst (FirstOn w.line) all line) c.fits_front in
      let under = push o 1 (frame.Tail (tail.Assign a t)) in
      stands_whole w s o z ps q rest next zero_level
      (ap (run s) all ∙ st.runs
      ∙ ap (λ (d : Step). taken d (λ b. run b (m.rest ++ q ∷ rest))) (assign_follows o a x st.accesses st.chain m.place m.line t i.is (omega (arith, n, zero_level)))
      ∙ tail_value y z (tail.Assign a t) w o m.rest q rest j refl zero_level next (omega (arith, n, zero_level)) fits.1 free (waiting_at under) (begins_waiting under (plus_low (constructs o) 1) refl refl)
      (free_admits (shapes.of_expr y).first) refl tt m.fits);
}

-- ---- binary operators

binary_behind_is : (o : Outer) (x : Expr) (n c q : ℕ) (l : Bool) (b : BinaryOp)
    → behind o x n c (token q l (tok.Punctuator (grammar.binary_sign b))) ≡ joins_folded false o b c (token q l (tok.Punctuator (grammar.binary_sign b))) (fold (strength b) o.frames x)
binary_behind_is o x n c q l binary.Coalesce = refl
binary_behind_is o x n c q l binary.Or = refl
binary_behind_is o x n c q l binary.And = refl
binary_behind_is o x n c q l binary.Identical = refl
binary_behind_is o x n c q l binary.NotIdentical = refl
binary_behind_is o x n c q l binary.Less = refl
binary_behind_is o x n c q l binary.LessEqual = refl
binary_behind_is o x n c q l binary.Greater = refl
binary_behind_is o x n c q l binary.GreaterEqual = refl
binary_behind_is o x n c q l binary.Add = refl
binary_behind_is o x n c q l binary.Subtract = refl
binary_behind_is o x n c q l binary.Multiply = refl
binary_behind_is o x n c q l binary.Divide = refl
binary_behind_is o x n c q l binary.Remainder = refl

record BinarySign (b : BinaryOp) : Type 0 where
  follows_is : follows (tok.Punctuator (grammar.binary_sign b)) ≡ strength b
  no_paren_is : is_open_paren (tok.Punctuator (grammar.binary_sign b)) ≡ false
  no_end_is : ends_parameter (tok.Punctuator (grammar.binary_sign b)) ≡ false

binary_sign_is : (b : BinaryOp) → BinarySign b
binary_sign_is binary.Coalesce = record { follows_is = refl; no_paren_is = refl; no_end_is = refl }
binary_sign_is binary.Or = record { follows_is = refl; no_paren_is = refl; no_end_is = refl }
binary_sign_is binary.And = record { follows_is = refl; no_paren_is = refl; no_end_is = refl }
binary_sign_is binary.Identical = record { follows_is = refl; no_paren_is = refl; no_end_is = refl }
binary_sign_is binary.NotIdentical = record { follows_is = refl; no_paren_is = refl; no_end_is = refl }
binary_sign_is binary.Less = record { follows_is = refl; no_paren_is = refl; no_end_is = refl }
binary_sign_is binary.LessEqual = record { follows_is = refl; no_paren_is = refl; no_end_is = refl }
binary_sign_is binary.Greater = record { follows_is = refl; no_paren_is = refl; no_end_is = refl }
binary_sign_is binary.GreaterEqual = record { follows_is = refl; no_paren_is = refl; no_end_is = refl }
binary_sign_is binary.Add = record { follows_is = refl; no_paren_is = refl; no_end_is = refl }
binary_sign_is binary.Subtract = record { follows_is = refl; no_paren_is = refl; no_end_is = refl }
binary_sign_is binary.Multiply = record { follows_is = refl; no_paren_is = refl; no_end_is = refl }
binary_sign_is binary.Divide = record { follows_is = refl; no_paren_is = refl; no_end_is = refl }
binary_sign_is binary.Remainder = record { follows_is = refl; no_paren_is = refl; no_end_is = refl }

record Operands (b : BinaryOp) (x y : shapes.Shape) : Type 0 where
  left : x.fits ≡ true
  right : y.fits ≡ true
  least : strength b ≤ x.level
  above : strength b < y.level
  unmixed : shapes.unmixed (shapes.logic b) x y ≡ true

operands_fit : (b : BinaryOp) (x y : shapes.Shape) → ((shapes.at_least (strength b) x && shapes.above (strength b) y) && shapes.unmixed (shapes.logic b) x y) ≡ true → Operands b x y
operands_fit b x y h =
    let d : ((shapes.at_least (strength b) x && shapes.above (strength b) y) ≡ true) × (shapes.unmixed (shapes.logic b) x y ≡ true) = both (shapes.at_least (strength b) x && shapes.above (strength b) y) (shapes.unmixed (shapes.logic b) x y) h in
    let e : (shapes.at_least (strength b) x ≡ true) × (shapes.above (strength b) y ≡ true) = both (shapes.at_least (strength b) x) (shapes.above (strength b) y) d.0 in
    let f : (x.fits ≡ true) × (nat_le (strength b) x.level ≡ true) = both x.fits (nat_le (strength b) x.level) e.0 in
    let g : (y.fits ≡ true) × (nat_lt (strength b) y.level ≡ true) = both y.fits (nat_lt (strength b) y.level) e.1 in
    record { left = f.0; right = g.0; least = leb-true (strength b) x.level f.1; above = ltb-true (strength b) y.level g.1; unmixed = d.1 }

pub reads_binary : (b : BinaryOp) (x y : Expr) → ReadsOperand x → ReadsOperand y → ReadsOperand (expr.Binary b x y)
reads_binary b x y i j = record {
  reads = λ w s o ps q rest ready next line h.
      let z = expr.Binary b x y in
      let k = tok.Punctuator (grammar.binary_sign b) in
      let n1 = (grammar.of_expr x).operators + 1 in
      let inner = one (mark (Just k)) ∷ (grammar.of_expr y).forms in
      let c : Split (grammar.of_expr x).forms (deeper n1 inner) ps = fits_split (grammar.of_expr x).forms (deeper n1 inner) ps (subst (λ (d : grammar.Written). Fits d.forms ps) (written_binary b x y) h) in
      let m : Then false k (grammar.of_expr y).forms c.back = then_just false k 0 (grammar.of_expr y).forms c.back (fits_shallow n1 inner c.back c.fits_back) in
      let tk : Piece = Read (token m.place m.line k) in
      let all : ps ++ q ∷ rest ≡ c.front ++ tk ∷ (m.rest ++ q ∷ rest) = joined_pieces ps c.front c.back m.rest (q ∷ rest) tk c.parts m.are in
      let level : (shapes.of_expr z).level ≡ strength b = ap (λ (d : shapes.Shape). d.level) (shape_binary b x y) in
      let first : (shapes.of_expr z).first ≡ (shapes.of_expr x).first = ap (λ (d : shapes.Shape). d.first) (shape_binary b x y) in
      let f : Operands b (shapes.of_expr x) (shapes.of_expr y) = operands_fit b (shapes.of_expr x) (shapes.of_expr y) (sym (ap (λ (d : shapes.Shape). d.fits) (shape_binary b x y)) ∙ ready.fits) in
      let needed = ready.needs in
      let small = next.follows in
      let least = f.least in
      let above = f.above in
      let six = strength_small b in
      let sign_is = binary_sign_is b in
      let sf = sign_is.follows_is in
      let waits : are_mixed (waiting o) (logic_of b) ≡ false = ap (are_mixed (waiting o)) (logic_is b ∙ ap logic_in (sym (ap (λ (d : shapes.Shape). d.logic) (shape_binary b x y)))) ∙ ready.unmixed in
      let st : Stands s o x c.front tk (m.rest ++ q ∷ rest) = i.reads w s o c.front tk (m.rest ++ q ∷ rest)
      (record {
        begins = ready.begins;
        fits = f.left;
        admits = ap (admits w) (sym first) ∙ ready.admits;
        needs = omega (arith, needed, level, least);
        unmixed = left_unmixed o b x (omega (arith, needed, level)) least waits;
      })
      (next_token w x m.place m.line k refl (omega (arith, sf, least)) (λ a. sign_is.no_paren_is) sign_is.no_end_is)
      (subst (FirstOn w.line) all line) c.fits_front in
      let count = plus st.chain 1 in
      let op = operator.Binary x b in
      let under = push_at o count (frame.Operator op) in
      let su : Stands (waiting_at under) under y m.rest q rest = j.reads free (waiting_at under) under m.rest q rest
      (record {
        begins = begins_waiting under (plus_low st.chain 1) refl refl;
        fits = f.right;
        admits = free_admits (shapes.of_expr y).first;
        needs = omega (arith, above);
        unmixed = unmixed_right b (shapes.of_expr x) (shapes.of_expr y) f.unmixed;
      })
      (record { proper = next.proper; follows = omega (arith, small, level, above); paren = λ a. no_paren (token_of q).kind 6 (omega arith) (omega (arith, small, level, six)); cover = λ a d. cc })
      tt m.fits in
      record {
        accesses = su.accesses;
        chain = su.chain;
        runs = ap (run s) all ∙ st.runs
            ∙ ap (λ (d : Step). taken d (λ a. run a (m.rest ++ q ∷ rest)))
            (binary_behind_is o x st.accesses st.chain m.place m.line b
            ∙ joins_is o b x st.chain (token m.place m.line k) (omega (arith, needed, level)) (ap (are_mixed (logic_of b)) (outermost_is x).same ∙ unmixed_left b (shapes.of_expr x) (shapes.of_expr y) f.unmixed) (mixed_either (logic_of b) (waiting o) ∙ waits))
            ∙ su.runs
            ∙ ap (λ (d : Step). taken d (λ a. run a rest)) (behind_alike o (opened count (frame.Operator op)) y z su.accesses su.accesses su.chain (strength b) (token_of q) (omega (arith, six)) (λ d e. fold_binary d count x b o.frames y e) (omega (arith, small, level)));
      };
}

-- ---- `? :`

pub reads_conditional : (test x y : Expr) → ReadsOperand test → ReadsOperand x → ReadsOperand y → ReadsOperand (expr.Conditional test x y)
reads_conditional test x y i j k = record {
  reads = λ w s o ps q rest ready next line h.
      let z = expr.Conditional test x y in
      let fy = (grammar.of_expr y).forms in
      let ft = (grammar.of_expr test).forms in
      let fx = (grammar.of_expr x).forms in
      let inner = just p.Question ∷ fx in
      let other = just p.Colon ∷ fy in
      let c : Split ft (deeper 1 inner ++ deeper 1 other) ps = fits_split ft (deeper 1 inner ++ deeper 1 other) ps (subst (λ (d : grammar.Written). Fits d.forms ps) (written_conditional test x y) h) in
      let d : Split (deeper 1 inner) (deeper 1 other) c.back = fits_split (deeper 1 inner) (deeper 1 other) c.back c.fits_back in
      let m : Then false (tok.Punctuator p.Question) fx d.front = then_just false (tok.Punctuator p.Question) 0 fx d.front (fits_shallow 1 inner d.front d.fits_front) in
      let n : Then false (tok.Punctuator p.Colon) fy d.back = then_just false (tok.Punctuator p.Colon) 0 fy d.back (fits_shallow 1 other d.back d.fits_back) in
      let question : Piece = Read (token m.place m.line (tok.Punctuator p.Question)) in
      let colon : Piece = Read (token n.place n.line (tok.Punctuator p.Colon)) in
      let behind_all : List Piece = m.rest ++ colon ∷ (n.rest ++ q ∷ rest) in
      let all : ps ++ q ∷ rest ≡ c.front ++ question ∷ behind_all =
      joined_pieces ps c.front c.back (m.rest ++ d.back) (q ∷ rest) question c.parts (d.parts ∙ ap (λ (a : List Piece). a ++ d.back) m.are)
      ∙ ap (λ (a : List Piece). c.front ++ question ∷ a) (append_assoc m.rest d.back (q ∷ rest) ∙ ap (λ (a : List Piece). m.rest ++ (a ++ q ∷ rest)) n.are) in
      let zero_level : (shapes.of_expr z).level ≡ 0 = ap (λ (a : shapes.Shape). a.level) (shape_conditional test x y) in
      let first : (shapes.of_expr z).first ≡ (shapes.of_expr test).first = ap (λ (a : shapes.Shape). a.first) (shape_conditional test x y) in
      let f : (shapes.at_least 1 (shapes.of_expr test) ≡ true) × (((shapes.of_expr x).fits && (shapes.of_expr y).fits) ≡ true) =
      both (shapes.at_least 1 (shapes.of_expr test)) ((shapes.of_expr x).fits && (shapes.of_expr y).fits) (sym (ap (λ (a : shapes.Shape). a.fits) (shape_conditional test x y)) ∙ ready.fits) in
      let ftest : ((shapes.of_expr test).fits ≡ true) × (1 ≤ (shapes.of_expr test).level) = operand_bound (shapes.of_expr test) 1 f.0 in
      let fothers : ((shapes.of_expr x).fits ≡ true) × ((shapes.of_expr y).fits ≡ true) = both (shapes.of_expr x).fits (shapes.of_expr y).fits f.1 in
      let needed = ready.needs in
      let zero_needs : needs o.frames ≤ 0 = omega (arith, needed, zero_level) in
      let one_level = ftest.1 in
      let st : Stands s o test c.front question behind_all = i.reads w s o c.front question behind_all
      (record {
        begins = ready.begins;
        fits = ftest.0;
        admits = ap (admits w) (sym first) ∙ ready.admits;
        needs = omega (arith, zero_needs);
        unmixed = ap (λ (a : Logic). are_mixed a (logic_in (shapes.of_expr test).logic)) (nothing_waits o zero_needs);
      })
      (next_token w test m.place m.line (tok.Punctuator p.Question) refl (omega (arith, one_level)) (λ a. refl) refl)
      (subst (FirstOn w.line) all line) c.fits_front in
      let v = purpose.Then test in
      let under = push o 1 (frame.Tail (tail.Else test x)) in
      stands_whole w s o z ps q rest next zero_level
      (ap (run s) all ∙ st.runs
      ∙ ap (λ (a : Step). taken a (λ e. run e behind_all)) (ap (tests o) (no_fold 1 o.frames test (omega (arith, zero_needs)) (omega (arith, zero_needs))))
      ∙ value_waits x (value_of x j) o 1 v m.rest colon (n.rest ++ q ∷ rest) (begins_purpose o (plus (constructs o) 1) v (plus_low (constructs o) 1) refl) fothers.0 m.fits refl
      ∙ tail_value y z (tail.Else test x) w o n.rest q rest k refl zero_level next zero_needs fothers.1 free (waiting_at under) (begins_waiting under (plus_low (constructs o) 1) refl refl)
      (free_admits (shapes.of_expr y).first) refl tt n.fits);
}
