-- Templates, objects and functions are read.
use Rattle.std.proofs.Common.{◌≡◌, ℕ, Bool, true, false, cond, List, [], ◌∷◌, ◌++◌, map, Some, None, refl, sym, ap, ◌∙◌, subst, append_assoc}
use Rattle.std.specs.Prelude.{Option}
use Rattle.js_lex.specs.declared.token.Punctuator.TheVariants as p
use Rattle.js_lex.specs.declared.token.Reserved.TheVariants as r
use Rattle.js_lex.specs.declared.token.TemplatePart.TheVariants as part
use Rattle.js_lex.specs.declared.token.TokenKind.TheVariants as tok
use Rattle.js_lex.specs.declared.token.Token.{Token}
use Rattle.js_tree.specs.declared.tree.Expr.TheVariants as expr
use Rattle.js_tree.specs.declared.tree.Function.{Function}
use Rattle.js_tree.specs.declared.tree.Name.{Name}
use Rattle.js_tree.specs.declared.tree.Property.{Property}
use Rattle.js_tree.specs.declared.tree.TemplateItem.{TemplateItem}
use Rattle.js_grammar.specs.Marks.{Piece, Read, just, deeper, listed, on_one_line}
use Rattle.js_grammar.specs.Grammar as grammar
use Rattle.js_grammar.specs.Shapes as shapes
use Rattle.js_parse_core.specs.declared.machine.At.TheVariants as at
use Rattle.js_parse_core.specs.declared.machine.Frame.TheVariants as frame
use Rattle.js_parse_core.specs.declared.machine.Head.TheVariants as head
use Rattle.js_parse_core.specs.declared.machine.Outer.{Outer}
use Rattle.js_parse_core.specs.declared.machine.Purpose.TheVariants as purpose
use Rattle.js_parse_core.specs.declared.machine.State.{State}
use Rattle.js_parse_core.specs.Expressions.{after_name, declares_async}
use Rattle.js_parse_core.specs.Objects.{export}
use Rattle.js_parse_core.specs.Outer.{Step, plus, constructs, push, to, without}
use Rattle.js_parse_core.specs.Statements.{close_function}
use Rattle.js_parse_core.specs.Tokens.{name}
use Rattle.js_parse_core.proofs.Pieces.{Fits, taken, run}
use Rattle.js_parse_core.proofs.PieceLemmas.{Split, fits_split, fits_shallow, run_step}
use Rattle.js_parse_core.proofs.Readings.{token, Place, admits, NameRead, Begins, FirstOn, ReadsObject, ReadsFunction, plus_low, begins_purpose}
use Rattle.js_parse_core.proofs.FirstTokens.{Then, ThenAt, then_just, then_at, go, first_on}
use Rattle.js_parse_core.proofs.Operands.{ReadsOperand, operand_at, waiting_at, stands_operand, reads_token}
use Rattle.js_parse_core.proofs.Words.{both}
use Rattle.js_parse_core.proofs.Chains.{value_of, value_waits}
use Rattle.js_grammar.proofs.Equations.{written_template, written_object, written_function_expr, written_function, written_part}
use Rattle.js_parse_core.proofs.ShapeEquations.{shape_template, shape_object, shape_function_expr, shape_part}

-- ---- templates

-- a part of a template, whose value is read
abbrev pub EachPart : Type 0
EachPart = (i : TemplateItem) × ReadsOperand i.value

abbrev pub parts_of : List EachPart → List TemplateItem
parts_of ys = map (λ y. y.0) ys

abbrev hole_at : Outer → List TemplateItem → List ℕ → State
hole_at o is u = waiting_at (push o 1 (frame.Purpose (purpose.Hole is u)))

part_fits : (y : TemplateItem) → shapes.of_template y ≡ true → (shapes.of_expr y.value).fits ≡ true
part_fits y h = sym (shape_part y) ∙ h

-- the value of a hole, and what follows it up to the template's end
holes_read : (o : Outer) (y : EachPart) (ys : List EachPart) (is : List TemplateItem) (u : List ℕ) (a b rest : List Piece) → (shapes.of_expr y.0.value).fits ≡ true → shapes.all_true (map shapes.of_template (parts_of ys)) ≡ true
    → Fits (grammar.of_expr y.0.value).forms a → Fits (grammar.template_rest (map grammar.of_template (parts_of ys)) u) b
    → run (hole_at o is y.0.units) (a ++ (b ++ rest)) ≡ run (operand_at o (expr.Template (is ++ y.0 ∷ parts_of ys) u) 0) rest
holes_read o y [] is u a b rest f g h k =
    let t : Then false (tok.Template part.Tail u) [] b = then_just false (tok.Template part.Tail u) 0 [] b k in
    let z : Piece = Read (token t.place t.line (tok.Template part.Tail u)) in
    ap (λ (c : List Piece). run (hole_at o is y.0.units) (a ++ (c ++ rest))) (t.are ∙ ap (λ (c : List Piece). z ∷ c) t.fits)
    ∙ value_waits y.0.value (value_of y.0.value y.1) o 1 (purpose.Hole is y.0.units) a z rest (begins_purpose o (plus (constructs o) 1) (purpose.Hole is y.0.units) (plus_low (constructs o) 1) refl) f h refl
holes_read o y (x ∷ ys) is u a b rest f g h k =
    let fx = (grammar.of_expr x.0.value).forms in
    let others = grammar.template_rest (map grammar.of_template (parts_of ys)) u in
    let k2 : Fits (grammar.template_mark part.Middle x.0.units ∷ (fx ++ others)) b = subst (λ (c : grammar.WrittenPart). Fits (grammar.template_mark part.Middle c.units ∷ (c.value ++ others)) b) (written_part x.0) k in
    let t : Then false (tok.Template part.Middle x.0.units) (fx ++ others) b = then_just false (tok.Template part.Middle x.0.units) 0 (fx ++ others) b k2 in
    let c : Split fx others t.rest = fits_split fx others t.rest t.fits in
    let z : Piece = Read (token t.place t.line (tok.Template part.Middle x.0.units)) in
    let g2 : (shapes.of_template x.0 ≡ true) × (shapes.all_true (map shapes.of_template (parts_of ys)) ≡ true) = both (shapes.of_template x.0) (shapes.all_true (map shapes.of_template (parts_of ys))) g in
    let is2 = is ++ y.0 ∷ [] in
    ap (λ (d : List Piece). run (hole_at o is y.0.units) (a ++ (d ++ rest))) (t.are ∙ ap (λ (d : List Piece). z ∷ d) c.parts)
    ∙ value_waits y.0.value (value_of y.0.value y.1) o 1 (purpose.Hole is y.0.units) a z ((c.front ++ c.back) ++ rest) (begins_purpose o (plus (constructs o) 1) (purpose.Hole is y.0.units) (plus_low (constructs o) 1) refl) f h refl
    ∙ ap (run (hole_at o is2 x.0.units)) (append_assoc c.front c.back rest)
    ∙ holes_read o x ys is2 u c.front c.back rest (part_fits x.0 g2.0) g2.1 c.fits_front c.fits_back
    ∙ ap (λ (d : List TemplateItem). run (operand_at o (expr.Template d u) 0) rest) (append_assoc is (y.0 ∷ []) (x.0 ∷ parts_of ys))

pub reads_template : (ys : List EachPart) (u : List ℕ) → ReadsOperand (expr.Template (parts_of ys) u)
reads_template [] u = reads_token (expr.Template [] u) (tok.Template part.Whole u) (ap (λ (z : grammar.Written). z.forms) (written_template [] u)) (λ w. refl) (λ o q l. refl)
reads_template (y ∷ ys) u = record {
  reads = λ w s o ps q rest ready next line h.
      let fy = (grammar.of_expr y.0.value).forms in
      let others = grammar.template_rest (map grammar.of_template (parts_of ys)) u in
      let tail = grammar.template_mark part.Head y.0.units ∷ (fy ++ others) in
      let e : Fits (deeper 1 tail) ps = subst (λ (c : grammar.WrittenPart). Fits (deeper 1 (grammar.template_mark part.Head c.units ∷ (c.value ++ others))) ps) (written_part y.0) (subst (λ (z : grammar.Written). Fits z.forms ps) (written_template (y.0 ∷ parts_of ys) u) h) in
      let k = tok.Template part.Head y.0.units in
      let t : Then false k (fy ++ others) ps = then_just false k 0 (fy ++ others) ps (fits_shallow 1 tail ps e) in
      let c : Split fy others t.rest = fits_split fy others t.rest t.fits in
      let tk : Token = token t.place t.line k in
      let on : w.line ≡ true → t.line ≡ false = first_on w.line tk (t.rest ++ q ∷ rest) (subst (λ (z : List Piece). FirstOn w.line (z ++ q ∷ rest)) t.are line) in
      let f : shapes.all_true (map shapes.of_template (y.0 ∷ parts_of ys)) ≡ true = sym (ap (λ (z : shapes.Shape). z.fits) (shape_template (y.0 ∷ parts_of ys) u)) ∙ ready.fits in
      let g : (shapes.of_template y.0 ≡ true) × (shapes.all_true (map shapes.of_template (parts_of ys)) ≡ true) = both (shapes.of_template y.0) (shapes.all_true (map shapes.of_template (parts_of ys))) f in
      stands_operand w s o (expr.Template (y.0 ∷ parts_of ys) u) 0 ps q rest next
      (ap (λ (z : List Piece). run s (z ++ q ∷ rest)) t.are
      ∙ run_step s (hole_at o [] y.0.units) (Read tk) (t.rest ++ q ∷ rest) (ready.begins.begins t.place t.line k on refl)
      ∙ ap (run (hole_at o [] y.0.units)) (ap (λ (z : List Piece). z ++ q ∷ rest) c.parts ∙ append_assoc c.front c.back (q ∷ rest))
      ∙ holes_read o y ys [] u c.front c.back (q ∷ rest) (part_fits y.0 g.0) g.1 c.fits_front c.fits_back);
}

-- ---- objects

pub reads_object : (xs : List Property) → ReadsObject xs → ReadsOperand (expr.Object xs)
reads_object xs i = record {
  reads = λ w s o ps q rest ready next line h.
      let inner = listed (map grammar.of_property xs) ++ just p.CloseBrace ∷ [] in
      let tail = just p.OpenBrace ∷ inner in
      let k = tok.Punctuator p.OpenBrace in
      let t : Then false k inner ps = then_just false k 0 inner ps (fits_shallow 1 tail ps (subst (λ (z : grammar.Written). Fits z.forms ps) (written_object xs) h)) in
      let tk : Token = token t.place t.line k in
      let on : w.line ≡ true → t.line ≡ false = first_on w.line tk (t.rest ++ q ∷ rest) (subst (λ (z : List Piece). FirstOn w.line (z ++ q ∷ rest)) t.are line) in
      let braces : w.braces ≡ true = sym (ap (admits w) (ap (λ (z : shapes.Shape). z.first) (shape_object xs))) ∙ ready.admits in
      stands_operand w s o (expr.Object xs) 0 ps q rest next
      (ap (λ (z : List Piece). run s (z ++ q ∷ rest)) t.are
      ∙ run_step s (record { outer = o; at = at.Key [] }) (Read tk) (t.rest ++ q ∷ rest) (ready.begins.begins t.place t.line k on braces)
      ∙ i.reads o t.rest (q ∷ rest) (sym (ap (λ (z : shapes.Shape). z.fits) (shape_object xs)) ∙ ready.fits) t.fits
      ∙ ap (λ (z : Bool). taken (cond z (export (without o) xs) (to o (at.Operand (expr.Object xs) 0))) (λ n. run n (q ∷ rest))) ready.begins.no_export);
}

-- ---- functions

abbrev function_at : Outer → Bool → State
function_at o a = record { outer = o; at = at.FunctionName false a }

-- behind the word `function`
function_head : (n : Option Name) (f : Function) → ReadsFunction f → (o : Outer) (a : Bool) (ps rest : List Piece) → shapes.of_function f ≡ true → Fits (grammar.option_name n ++ (grammar.of_function f).forms) ps
    → run (function_at o a) (ps ++ rest) ≡ taken (close_function o (head.Expression a n) f.parameters f.body) (λ m. run m rest)
function_head (Some n) f i o a ps rest g h =
    let k = tok.Name n.units in
    let t : ThenAt n.place false k (grammar.of_function f).forms ps = then_at n.place false k 0 (grammar.of_function f).forms ps h in
    ap (λ (z : List Piece). run (function_at o a) (z ++ rest)) t.are
    ∙ go (function_at o a) (record { outer = o; at = at.ParametersOpen (head.Expression a (Some n)) }) n.place t.line k (t.rest ++ rest) refl refl
    ∙ i.reads o (head.Expression a (Some n)) t.rest rest g t.fits
function_head None f i o a ps rest g h =
    let k = tok.Punctuator p.OpenParen in
    let inner = deeper 1 (listed (map grammar.name_forms f.parameters) ++ just p.CloseParen ∷ []) ++ grammar.block (map grammar.of_stmt f.body) in
    let t : Then false k inner ps = then_just false k 1 inner ps (subst (λ (z : grammar.WrittenFunction). Fits z.forms ps) (written_function f) h) in
    let here : State = record { outer = o; at = at.ParametersOpen (head.Expression a None) } in
    let then : State = record { outer = o; at = at.Parameters (head.Expression a None) [] } in
    ap (λ (z : List Piece). run (function_at o a) (z ++ rest)) t.are
    ∙ go (function_at o a) then t.place t.line k (t.rest ++ rest) refl refl
    ∙ sym (ap (λ (z : List Piece). run here (z ++ rest)) t.are ∙ go here then t.place t.line k (t.rest ++ rest) refl refl)
    ∙ i.reads o (head.Expression a None) ps rest g h

-- the word `async`
abbrev pub async_units : List ℕ
async_units = 97 ∷ 115 ∷ 121 ∷ 110 ∷ 99 ∷ []

-- `async` and, on its line, `function`
pub async_then_function : (w : Place) (s : State) (o : Outer) (q a : ℕ) (l m : Bool) (rest : List Piece) → Begins w s o → w.functions ≡ true → (w.line ≡ true → l ≡ false) → m ≡ false
    → run s (Read (token q l (tok.Name async_units)) ∷ Read (token a m (tok.Reserved r.Function)) ∷ rest) ≡ run (function_at o true) rest
async_then_function w s o q a l m rest b f on e =
    let d : NameRead w s o q l async_units = b.names q l async_units on in
    let t : Bool → Token = λ z. token a z (tok.Reserved r.Function) in
    run_step s d.next (Read (token q l (tok.Name async_units))) (Read (t m) ∷ rest) d.takes
    ∙ ap (λ (z : Step). taken z (λ n. run n rest))
    (d.acts (Read (t m)) refl (λ c. refl)
    ∙ ap (λ (z : Bool). after_name false o (name q async_units) (t z)) e
    ∙ ap (λ (z : Bool). cond z (declares_async (without o)) (to o (at.FunctionName false true))) (b.no_statement f))

-- up to the end of the function
function_word : (w : Place) (s : State) (o : Outer) (n : Option Name) (f : Function) → ReadsFunction f → Begins w s o → w.functions ≡ true → shapes.of_function f ≡ true → (ps rest : List Piece) → FirstOn w.line (ps ++ rest)
    → (a : Bool) → Fits (grammar.perhaps_async a (grammar.reserved r.Function ∷ (grammar.option_name n ++ (grammar.of_function f).forms))) ps
    → run s (ps ++ rest) ≡ taken (close_function o (head.Expression a n) f.parameters f.body) (λ m. run m rest)
function_word w s o n f i b functions g ps rest line false h =
    let inner = grammar.option_name n ++ (grammar.of_function f).forms in
    let k = tok.Reserved r.Function in
    let t : Then false k inner ps = then_just false k 0 inner ps h in
    let on : w.line ≡ true → t.line ≡ false = first_on w.line (token t.place t.line k) (t.rest ++ rest) (subst (λ (z : List Piece). FirstOn w.line (z ++ rest)) t.are line) in
    ap (λ (z : List Piece). run s (z ++ rest)) t.are
    ∙ run_step s (function_at o false) (Read (token t.place t.line k)) (t.rest ++ rest) (b.begins t.place t.line k on functions)
    ∙ function_head n f i o false t.rest rest g t.fits
function_word w s o n f i b functions g ps rest line true h =
    let inner = grammar.option_name n ++ (grammar.of_function f).forms in
    let k = tok.Reserved r.Function in
    let ka = tok.Name async_units in
    let t : Then false ka (on_one_line (grammar.reserved r.Function ∷ inner)) ps = then_just false ka 0 (on_one_line (grammar.reserved r.Function ∷ inner)) ps h in
    let u : Then true k inner t.rest = then_just true k 0 inner t.rest t.fits in
    let all : ps ≡ Read (token t.place t.line ka) ∷ Read (token u.place u.line k) ∷ u.rest = t.are ∙ ap (λ (z : List Piece). Read (token t.place t.line ka) ∷ z) u.are in
    let on : w.line ≡ true → t.line ≡ false = first_on w.line (token t.place t.line ka) (Read (token u.place u.line k) ∷ (u.rest ++ rest)) (subst (λ (z : List Piece). FirstOn w.line (z ++ rest)) all line) in
    ap (λ (z : List Piece). run s (z ++ rest)) all
    ∙ async_then_function w s o t.place u.place t.line u.line (u.rest ++ rest) b functions on (u.unbroken refl)
    ∙ function_head n f i o true u.rest rest g u.fits

pub reads_function : (n : Option Name) (f : Function) → ReadsFunction f → ReadsOperand (expr.Function n f)
reads_function n f i = record {
  reads = λ w s o ps q rest ready next line h.
      let inner = grammar.option_name n ++ (grammar.of_function f).forms in
      let e : Fits (grammar.perhaps_async f.is_async (grammar.reserved r.Function ∷ inner)) ps =
      subst (λ (z : Bool). Fits (grammar.perhaps_async z (grammar.reserved r.Function ∷ inner)) ps) (ap (λ (z : grammar.WrittenFunction). z.is_async) (written_function f)) (subst (λ (z : grammar.Written). Fits z.forms ps) (written_function_expr n f) h) in
      let functions : w.functions ≡ true = sym (ap (admits w) (ap (λ (z : shapes.Shape). z.first) (shape_function_expr n f))) ∙ ready.admits in
      let g : shapes.of_function f ≡ true = sym (ap (λ (z : shapes.Shape). z.fits) (shape_function_expr n f)) ∙ ready.fits in
      stands_operand w s o (expr.Function n f) 0 ps q rest next
      (function_word w s o n f i ready.begins functions g ps (q ∷ rest) line f.is_async e);
}
