-- Groups, templates, objects and functions are read.
use Rattle.std.proofs.Common.{◌≡◌, ℕ, ◌≤◌, Bool, true, false, cond, not, List, [], ◌∷◌, ◌++◌, ◌⊎◌, refl, sym, ap, ◌∙◌, subst, arith, inl, inr}
use Rattle.std.specs.Prelude.{◌&&◌}
use Rattle.js_lex.specs.declared.token.Punctuator.{Punctuator}
use Rattle.js_lex.specs.declared.token.Punctuator.TheVariants as p
use Rattle.js_lex.specs.declared.token.TokenKind.{TokenKind}
use Rattle.js_lex.specs.declared.token.TokenKind.TheVariants as tok
use Rattle.js_lex.specs.declared.token.Token.{Token}
use Rattle.js_tree.specs.Targets.{Node}
use Rattle.js_tree.specs.declared.tree.ArrowBody.TheOpen.{Expr-F}
use Rattle.js_tree.specs.declared.tree.Expr.{Expr, roll-Expr, out-Expr, out-roll-Expr, roll-out-Expr}
use Rattle.js_tree.specs.declared.tree.Expr.TheVariants as expr
use Rattle.js_tree.specs.declared.tree.Name.{Name}
use Rattle.js_grammar.specs.Marks.{Piece, Read, just}
use Rattle.js_grammar.specs.Grammar as grammar
use Rattle.js_grammar.specs.Shapes as shapes
use Rattle.js_parse_core.specs.declared.machine.At.TheVariants as at
use Rattle.js_parse_core.specs.declared.machine.Cover.{Cover}
use Rattle.js_parse_core.specs.declared.machine.Cover.TheVariants as covers
use Rattle.js_parse_core.specs.declared.machine.Frame.TheVariants as frame
use Rattle.js_parse_core.specs.declared.machine.Outer.{Outer}
use Rattle.js_parse_core.specs.declared.machine.Purpose.TheVariants as purpose
use Rattle.js_parse_core.specs.declared.machine.State.{State}
use Rattle.js_parse_core.specs.Begin.{begin, begin_paren}
use Rattle.js_parse_core.specs.Expressions.{after_name, on_cover_other, uncover, may_be_values, covered_value, is_async_cover, has_none}
use Rattle.js_parse_core.specs.Outer.{Step, plus, constructs, push, is_whole, to, refuse_at}
use Rattle.js_words.specs.declared.word.Spot.TheVariants as spot
use Rattle.js_parse_core.specs.Tokens.{name, is_close_paren, is_comma, is_arrow}
use Rattle.js_parse_core.proofs.Pieces.{Fits, take, taken, run}
use Rattle.js_parse_core.proofs.PieceLemmas.{Split, fits_split, fits_shallow, take_is}
use Rattle.js_parse_core.proofs.Readings.{token, token_of, is_proper, Place, covered, starts, ends_parameter, Begins, FirstOn, plus_low, begins_purpose, take_proper, covered_admits}
use Rattle.js_parse_core.proofs.Folding.{follows, behind, chained, operand_behind}
use Rattle.js_parse_core.proofs.FirstTokens.{Then, ThenAt, then_just, then_at, go, first_on}
use Rattle.js_parse_core.proofs.Operands.{Next, ReadsOperand, is_bare, name_node, operand_at, waiting_at, follows_small}
use Rattle.js_parse_core.proofs.Chains.{joined_pieces, value_of, value_covered, value_waits}
use Rattle.js_grammar.proofs.Equations.{written_group, written_name}
use Rattle.js_parse_core.proofs.ShapeEquations.{shape_group}

-- ---- behind a bracket that may begin parameters

abbrev pub cover_at : Outer → Cover → List Name → State
cover_at o c ns = record { outer = o; at = at.CoverOpen c ns }

abbrev pub covered_name : Outer → Cover → List Name → Name → State
covered_name o c ns n = record { outer = o; at = at.CoverName c ns n }

cover_begins : (o : Outer) (c : Cover) (ns : List Name) (q : ℕ) (l : Bool) (k : TokenKind) → may_be_values c ns ≡ true → starts covered k ≡ true → take (cover_at o c ns) (Read (token q l k)) ≡ begin (uncover o c ns) (token q l k)
cover_begins o c ns q l k m h = by_kind k h
  where
    others : (a : TokenKind) → is_close_paren a ≡ false → on_cover_other o c ns (token q l a) ≡ begin (uncover o c ns) (token q l a)
    others a e = ap (λ (z : Bool). cond z (to o (at.Covered c ns false)) (cond (may_be_values c ns) (begin (uncover o c ns) (token q l a)) (refuse_at spot.Parameter))) e
        ∙ ap (λ (z : Bool). cond z (begin (uncover o c ns) (token q l a)) (refuse_at spot.Parameter)) m

    not_closed : (a : Punctuator) → starts covered (tok.Punctuator a) ≡ true → is_close_paren (tok.Punctuator a) ≡ false
    not_closed p.CloseParen h = cc
    not_closed _ h = refl

    by_kind : (k : TokenKind) → starts covered k ≡ true → take (cover_at o c ns) (Read (token q l k)) ≡ begin (uncover o c ns) (token q l k)
    by_kind (tok.Punctuator a) h = take_is (cover_at o c ns) (token q l (tok.Punctuator a)) refl ∙ others (tok.Punctuator a) (not_closed a h)
    by_kind (tok.Number n) h = take_is (cover_at o c ns) (token q l (tok.Number n)) refl ∙ others (tok.Number n) refl
    by_kind (tok.Text u) h = take_is (cover_at o c ns) (token q l (tok.Text u)) refl ∙ others (tok.Text u) refl
    by_kind (tok.Template x u) h = take_is (cover_at o c ns) (token q l (tok.Template x u)) refl ∙ others (tok.Template x u) refl
    by_kind (tok.Reserved x) h = take_is (cover_at o c ns) (token q l (tok.Reserved x)) refl ∙ others (tok.Reserved x) refl
    by_kind _ h = cc

name_covers : (o : Outer) (c : Cover) (ns : List Name) (n : Name) (x : Piece) → may_be_values c ns ≡ true → is_proper x ≡ true → ends_parameter (token_of x).kind ≡ false → take (covered_name o c ns n) x ≡ after_name false (uncover o c ns) n (token_of x)
name_covers o c ns n x m h e = take_proper (covered_name o c ns n) x h refl
    ∙ ap (λ (z : Bool). cond z (to o (at.CoverOpen c (ns ++ n ∷ []))) (cond (is_close_paren (token_of x).kind) (to o (at.Covered c (ns ++ n ∷ []) (has_none ns))) (cond (may_be_values c ns) (after_name false (uncover o c ns) n (token_of x)) (refuse_at spot.Parameter)))) (no_comma (token_of x).kind e)
    ∙ ap (λ (z : Bool). cond z (to o (at.Covered c (ns ++ n ∷ []) (has_none ns))) (cond (may_be_values c ns) (after_name false (uncover o c ns) n (token_of x)) (refuse_at spot.Parameter))) (no_close (token_of x).kind e)
    ∙ ap (λ (z : Bool). cond z (after_name false (uncover o c ns) n (token_of x)) (refuse_at spot.Parameter)) m
  where
    no_comma : (k : TokenKind) → ends_parameter k ≡ false → is_comma k ≡ false
    no_comma (tok.Punctuator p.Comma) h = cc
    no_comma (tok.Punctuator _) h = refl
    no_comma _ h = refl

    no_close : (k : TokenKind) → ends_parameter k ≡ false → is_close_paren k ≡ false
    no_close (tok.Punctuator p.CloseParen) h = cc
    no_close (tok.Punctuator _) h = refl
    no_close _ h = refl

pub begins_cover : (o : Outer) (c : Cover) (ns : List Name) → may_be_values c ns ≡ true → Begins covered (cover_at o c ns) (uncover o c ns)
begins_cover o covers.Plain ns m = record {
  low = plus_low (constructs o) 1;
  no_export = refl;
  no_statement = λ h. refl;
  begins = λ q l k line h. cover_begins o covers.Plain ns q l k m h;
  names = λ q l u line. record { next = covered_name o covers.Plain ns (name q u); takes = take_is (cover_at o covers.Plain ns) (token q l (tok.Name u)) refl; acts = λ x h e. name_covers o covers.Plain ns (name q u) x m h (e refl) };
}
begins_cover o (covers.Async a) ns m = record {
  low = plus_low (constructs o) 1;
  no_export = refl;
  no_statement = λ h. refl;
  begins = λ q l k line h. cover_begins o (covers.Async a) ns q l k m h;
  names = λ q l u line. record { next = covered_name o (covers.Async a) ns (name q u); takes = take_is (cover_at o (covers.Async a) ns) (token q l (tok.Name u)) refl; acts = λ x h e. name_covers o (covers.Async a) ns (name q u) x m h (e refl) };
}

-- ---- groups

pub record BareName (x : Expr) : Type 0 where
  pub name : Name
  pub is : x ≡ expr.Name name

-- a name, or another expression
pub bare_or_not : (x : Expr) → BareName x ⊎ (is_bare x ≡ false)
bare_or_not x = subst (λ (z : Expr). BareName z ⊎ (is_bare z ≡ false)) (roll-out-Expr x) (by_node (out-Expr x))
  where
    other : (y : Node) → name_node y ≡ false → is_bare (roll-Expr y) ≡ false
    other y e = ap name_node (out-roll-Expr y) ∙ e

    by_node : (y : Node) → BareName (roll-Expr y) ⊎ (is_bare (roll-Expr y) ≡ false)
    by_node (Expr-F.Name n) = inl (record { name = n; is = expr.rolls-Name n })
    by_node y = inr (other y refl)

no_arrow : (k : TokenKind) → follows k ≤ 9 → is_arrow k ≡ false
no_arrow (tok.Punctuator p.Arrow) h = absurd (omega (arith, h))
no_arrow (tok.Punctuator _) h = refl
no_arrow _ h = refl

-- names in brackets that no arrow follows
pub covered_acts : (o : Outer) (c : Cover) (ns : List Name) (b : Bool) (q : Piece) → is_proper q ≡ true → follows (token_of q).kind ≤ 9 → take (record { outer = o; at = at.Covered c ns b }) q ≡ covered_value false o c ns b (token_of q)
covered_acts o c ns b q h g = take_proper (record { outer = o; at = at.Covered c ns b }) q h refl
    ∙ ap (λ (z : Bool). cond (z && not (token_of q).after_line_end) (to o (at.ArrowBody (is_async_cover c) ns)) (covered_value false o c ns b (token_of q))) (no_arrow (token_of q).kind g)

-- `(x)` from behind its first bracket on
record Grouped (s : State) (o : Outer) (x : Expr) : Type 0 where
  grouped : (ps : List Piece) (l : Bool) (at : ℕ) (w : Place) (q : Piece) (rest : List Piece) → Next w (expr.Group x) q → Fits (grammar.of_expr x).forms ps
      → run s (ps ++ Read (token at l (tok.Punctuator p.CloseParen)) ∷ q ∷ rest) ≡ taken (behind o (expr.Group x) 0 (chained o (expr.Group x)) (token_of q)) (λ n. run n rest)

operand_runs : (w : Place) (o : Outer) (x : Expr) (q : Piece) (rest : List Piece) → Next w x q → run (operand_at o x 0) (q ∷ rest) ≡ taken (behind o x 0 (chained o x) (token_of q)) (λ n. run n rest)
operand_runs w o x q rest h = ap (λ (z : Step). taken z (λ m. run m rest)) (take_proper (operand_at o x 0) q h.proper refl
    ∙ operand_behind o x 0 (token_of q).place (token_of q).after_line_end (token_of q).kind (follows_small w x q h))

group_waits : (o : Outer) (x : Expr) → ReadsOperand x → (shapes.of_expr x).fits ≡ true → Grouped (waiting_at (push o 1 (frame.Purpose purpose.Group))) o x
group_waits o x i f = record {
  grouped = λ ps l a w q rest next h.
      value_waits x (value_of x i) o 1 purpose.Group ps (Read (token a l (tok.Punctuator p.CloseParen))) (q ∷ rest) (begins_purpose o (plus (constructs o) 1) purpose.Group (plus_low (constructs o) 1) refl) f h refl
      ∙ operand_runs w o (expr.Group x) q rest next;
}

group_covered : (o : Outer) (x : Expr) → ReadsOperand x → (shapes.of_expr x).fits ≡ true → is_bare x ≡ false → Grouped (cover_at o covers.Plain []) o x
group_covered o x i f b = record {
  grouped = λ ps l a w q rest next h.
      value_covered x i covered (cover_at o covers.Plain []) o (plus (constructs o) 1) purpose.Group ps (Read (token a l (tok.Punctuator p.CloseParen))) (q ∷ rest) (begins_cover o covers.Plain [] refl) f (covered_admits (shapes.of_expr x).first) (λ e. b) tt h refl
      ∙ operand_runs w o (expr.Group x) q rest next;
}

group_name : (o : Outer) (n : Name) → Grouped (cover_at o covers.Plain []) o (expr.Name n)
group_name o n = record {
  grouped = λ ps l a w q rest next h.
      let x = expr.Name n in
      let k = tok.Name n.units in
      let t : ThenAt n.place false k [] ps = then_at n.place false k 0 [] ps (subst (λ (z : grammar.Written). Fits z.forms ps) (written_name n) h) in
      let close : Token = token a l (tok.Punctuator p.CloseParen) in
      let named : Token = token n.place t.line k in
      ap (λ (z : List Piece). run (cover_at o covers.Plain []) (z ++ Read close ∷ q ∷ rest)) (t.are ∙ ap (λ (z : List Piece). Read named ∷ z) t.fits)
      ∙ go (cover_at o covers.Plain []) (covered_name o covers.Plain [] n) n.place t.line k (Read close ∷ q ∷ rest) refl refl
      ∙ go (covered_name o covers.Plain [] n) (record { outer = o; at = at.Covered covers.Plain (n ∷ []) true }) a l (tok.Punctuator p.CloseParen) (q ∷ rest) refl refl
      ∙ ap (λ (z : Step). taken z (λ m. run m rest)) (covered_acts o covers.Plain (n ∷ []) true q next.proper (follows_small w (expr.Group x) q next)
      ∙ operand_behind o (expr.Group x) 0 (token_of q).place (token_of q).after_line_end (token_of q).kind (follows_small w (expr.Group x) q next));
}

group_place : (x : Expr) → ReadsOperand x → (o : Outer) → (shapes.of_expr x).fits ≡ true → (b : Bool) → BareName x ⊎ (is_bare x ≡ false) → (ps : List Piece) (l : Bool) (a : ℕ) (w : Place) (q : Piece) (rest : List Piece) → Next w (expr.Group x) q → Fits (grammar.of_expr x).forms ps
    → taken (begin_paren o b) (λ n. run n (ps ++ Read (token a l (tok.Punctuator p.CloseParen)) ∷ q ∷ rest)) ≡ taken (behind o (expr.Group x) 0 (chained o (expr.Group x)) (token_of q)) (λ n. run n rest)
group_place x i o f false d ps l a w q rest next h = (group_waits o x i f).grouped ps l a w q rest next h
group_place x i o f true (inl n) ps l a w q rest next h = (subst (λ (z : Expr). Grouped (cover_at o covers.Plain []) o z) (sym n.is) (group_name o n.name)).grouped ps l a w q rest next h
group_place x i o f true (inr e) ps l a w q rest next h = (group_covered o x i f e).grouped ps l a w q rest next h

pub reads_group : (x : Expr) → ReadsOperand x → ReadsOperand (expr.Group x)
reads_group x i = record {
  reads = λ w s o ps q rest ready next line h.
      let fx = (grammar.of_expr x).forms in
      let inner = fx ++ just p.CloseParen ∷ [] in
      let tail = just p.OpenParen ∷ inner in
      let t : Then false (tok.Punctuator p.OpenParen) inner ps = then_just false (tok.Punctuator p.OpenParen) 0 inner ps (fits_shallow 1 tail ps (subst (λ (z : grammar.Written). Fits z.forms ps) (written_group x) h)) in
      let c : Split fx (just p.CloseParen ∷ []) t.rest = fits_split fx (just p.CloseParen ∷ []) t.rest t.fits in
      let u : Then false (tok.Punctuator p.CloseParen) [] c.back = then_just false (tok.Punctuator p.CloseParen) 0 [] c.back c.fits_back in
      let paren : Token = token t.place t.line (tok.Punctuator p.OpenParen) in
      let close : Token = token u.place u.line (tok.Punctuator p.CloseParen) in
      let on : w.line ≡ true → t.line ≡ false = first_on w.line paren (t.rest ++ q ∷ rest) (subst (λ (z : List Piece). FirstOn w.line (z ++ q ∷ rest)) t.are line) in
      let f : (shapes.of_expr x).fits ≡ true = sym (ap (λ (z : shapes.Shape). z.fits) (shape_group x)) ∙ ready.fits in
      let last : t.rest ++ q ∷ rest ≡ c.front ++ Read close ∷ (q ∷ rest) = joined_pieces t.rest c.front c.back u.rest (q ∷ rest) (Read close) c.parts u.are ∙ ap (λ (z : List Piece). c.front ++ Read close ∷ (z ++ q ∷ rest)) u.fits in
      record {
        accesses = 0;
        chain = chained o (expr.Group x);
        runs = ap (λ (z : List Piece). run s (z ++ q ∷ rest)) t.are
            ∙ ap (λ (z : Step). taken z (λ n. run n (t.rest ++ q ∷ rest))) (ready.begins.begins t.place t.line (tok.Punctuator p.OpenParen) on refl)
            ∙ ap (λ (z : List Piece). taken (begin_paren o (is_whole o)) (λ n. run n z)) last
            ∙ group_place x i o f (is_whole o) (bare_or_not x) c.front u.line u.place w q rest next c.fits_front;
      };
}
