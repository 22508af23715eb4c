-- What is known of each place behind a value.
use Rattle.std.proofs.Common.{◌≡◌, ℕ, Bool, true, false, cond, List, [], ◌∷◌, ◌++◌, Option, Some, None, Ok, Err, refl, sym, ap, ◌∙◌, subst}
use Rattle.std.specs.Prelude.{IsTrue, Result, not, ◌&&◌, ◌||◌}
use Rattle.std.proofs.lemmas.Bool.{false≢true}
use Rattle.js_lex.specs.declared.token.Punctuator.{Punctuator}
use Rattle.js_lex.specs.declared.token.Punctuator.TheVariants as p
use Rattle.js_lex.specs.declared.token.Reserved.TheVariants as r
use Rattle.js_lex.specs.declared.token.TokenKind.{TokenKind}
use Rattle.js_lex.specs.declared.token.TokenKind.TheVariants as tok
use Rattle.js_lex.specs.declared.token.Token.{Token}
use Rattle.js_tree.specs.declared.tree.Expr.{Expr}
use Rattle.js_tree.specs.declared.tree.Expr.TheVariants as expr
use Rattle.js_tree.specs.declared.tree.Name.{Name}
use Rattle.js_tree.specs.declared.tree.Property.{Property}
use Rattle.js_words.specs.declared.word.Spot.{Spot}
use Rattle.js_words.specs.declared.word.Spot.TheVariants as spot
use Rattle.js_parse_core.specs.declared.machine.At.TheVariants as at
use Rattle.js_parse_core.specs.declared.machine.Cover.{Cover}
use Rattle.js_parse_core.specs.declared.machine.Cover.TheVariants as covers
use Rattle.js_parse_core.specs.declared.machine.Frame.TheVariants as frame
use Rattle.js_parse_core.specs.declared.machine.Outer.{Outer}
use Rattle.js_parse_core.specs.declared.machine.Tail.TheVariants as tail
use Rattle.js_parse_core.specs.declared.machine.Refusal.{Refusal}
use Rattle.js_parse_core.specs.declared.machine.State.{State}
use Rattle.std.specs.Prelude.{nat_le}
use Rattle.js_tree.specs.Targets.{target_of, target_in, Node}
use Rattle.js_tree.specs.declared.tree.ArrowBody.TheOpen.{Expr-F}
use Rattle.js_tree.specs.declared.tree.AssignOp.TheVariants as assign
use Rattle.js_tree.specs.declared.tree.BinaryOp.{BinaryOp}
use Rattle.js_tree.specs.declared.tree.BinaryOp.TheVariants as binary
use Rattle.js_tree.specs.declared.tree.Expr.{out-Expr, out-roll-Expr}
use Rattle.js_tree.specs.declared.tree.Target.{Target}
use Rattle.js_tree.specs.declared.tree.Target.TheVariants as target
use Rattle.js_grammar.specs.Shapes.{strength}
use Rattle.js_grammar.specs.Spots.{token, a_statement, an_expression, a_name, a_text, a_word, comma, equal, close_paren}
use Rattle.js_parse_core.specs.declared.machine.Block.TheVariants as block
use Rattle.js_parse_core.specs.declared.machine.Frame.{Frame}
use Rattle.js_parse_core.specs.declared.machine.Logic.{Logic}
use Rattle.js_parse_core.specs.declared.machine.Open.{Open}
use Rattle.js_parse_core.specs.declared.machine.Operator.TheVariants as operator
use Rattle.js_parse_core.specs.Begin.{begin}
use Rattle.js_parse_core.specs.Expressions.{assign_to, after_operand, after_async, after_name, as_values, uncover, has_none, only_name, group_of, arrow_value, is_async_cover}
use Rattle.js_parse_core.specs.Outer.{Step, because, refuse, push, to, plus, constructs, framed, first_frame, is_whole, wait_operand, open_block}
use Rattle.js_parse_core.specs.Tokens.{is_async, is_arrow, is_comma, is_close_paren, is_open_brace, name}
use Rattle.js_parse_core.specs.Values.{Over, Folded, fold, after_whole, after_value, on_binary, joins_folded, binary_behind, logic_of, are_mixed, outermost, waiting}
use Rattle.js_parse_core.proofs.Accepts.{accepted, accepts, takes, stands, ends_block}
use Rattle.js_parse_core.proofs.Known.{Known, is_spot, begin_safe, safe_cond}
use Rattle.js_parse_core.proofs.KnownPlaces.{place}
use Rattle.js_parse_core.proofs.OpenStates.{Operands, Values, Wholes, is_within}
use Rattle.js_parse_core.proofs.Pieces.{no_limit}
use Rattle.js_parse_core.proofs.Says.{tk, sign_word, Says, SaysAll, NameSafe, NameLaw, law_begin, law_cond, Refused, yes}
use Rattle.js_parse_core.proofs.ValueWords.{Fits, done, ValuesFolded, fold_values, fold_done, fold_same, values_operands, comma_rule, begins_later, ends_later, ValueFacts, whole_facts}

-- ---- Bools

and_false : (a : Bool) → (a && false) ≡ false
and_false true = refl
and_false false = refl

or_false : (a : Bool) → (a || false) ≡ a
or_false true = refl
or_false false = refl

none_taken : (made : Step) (go : State → Bool) → Refused made → accepted made go ≡ false
none_taken (Ok n) go h = absurd h
none_taken (Err k) go h = refl

-- the end of an operand stands, if what waits for the value may get it
abbrev pub at_end : Bool → Option Spot
at_end ok = cond ok (Some spot.OperandEnd) None

no_statement : (ok : Bool) → is_spot spot.StatementBegin (at_end ok) ≡ false
no_statement true = refl
no_statement false = refl

no_expression : (ok : Bool) → is_spot spot.ExpressionBegin (at_end ok) ≡ false
no_expression true = refl
no_expression false = refl

is_operand : (ok : Bool) → is_spot spot.OperandEnd (at_end ok) ≡ ok
is_operand true = refl
is_operand false = refl

no_declared : (ok : Bool) → is_spot spot.DeclaredName (at_end ok) ≡ false
no_declared true = refl
no_declared false = refl

no_parameter : (ok : Bool) → is_spot spot.Parameter (at_end ok) ≡ false
no_parameter true = refl
no_parameter false = refl

no_key : (ok : Bool) → is_spot spot.Key (at_end ok) ≡ false
no_key true = refl
no_key false = refl

-- ---- a place behind a value

record Behind (brace ok : Bool) (f : Token → Step) : Type 0 where
  statement : Refused (f (token false a_statement))
  this : Refused (f (token false an_expression))
  text : Refused (f (token false a_text))
  name_equal : takes f false (a_name ∷ equal ∷ []) ≡ false
  name_close : takes f false (a_name ∷ close_paren ∷ []) ≡ false
  name_comma : takes f false (a_name ∷ comma ∷ []) ≡ false
  operand : stands brace spot.OperandEnd false f ≡ ok
  parameter : (not (takes f false (equal ∷ [])) && comma_rule f) ≡ false
  later : begins_later f ≡ false
  on_line : (q : ℕ) → SaysAll (at_end ok) (ends_later f) false (λ g. f (tk q false (tok.Punctuator g)))
  behind : (q : ℕ) → SaysAll (at_end ok) (ends_later f) true (λ g. f (tk q true (tok.Punctuator g)))
  names : (q : ℕ) (l : Bool) (u : List ℕ) → NameSafe (f (tk q l (tok.Name u)))
  law : (q : ℕ) (u : List ℕ) → NameLaw (ends_later f) (f (tk q true (tok.Name u)))
  on_line_law : (q : ℕ) (u : List ℕ) → NameLaw false (f (tk q false (tok.Name u)))

name_law : (brace ok : Bool) (f : Token → Step) → Behind brace ok f → stands brace spot.StatementBegin false f ≡ false → (q : ℕ) (l : Bool) (u : List ℕ) → NameLaw (stands brace spot.StatementBegin l f) (f (tk q l (tok.Name u)))
name_law brace ok f v e q true u = v.law q u
name_law brace ok f v e q false u = subst (λ (b : Bool). NameLaw b (f (tk q false (tok.Name u)))) (sym e) (v.on_line_law q u)

law_refused : (st : Bool) (made : Step) → Refused made → NameLaw st made
law_refused st (Ok n) h = absurd h
law_refused st (Err k) h = tt

behind_known : (brace ok : Bool) (f : Token → Step) → Behind brace ok f → Known brace false false f
behind_known brace ok f v =
    let s : takes f false (a_statement ∷ []) ≡ false = none_taken (f (token false a_statement)) yes v.statement in
    let t : takes f false (an_expression ∷ []) ≡ false = none_taken (f (token false an_expression)) yes v.this in
    let x : takes f false (a_text ∷ []) ≡ false = none_taken (f (token false a_text)) yes v.text in
    record {
      here = at_end ok;
      statement = ap (λ (b : Bool). b && not (takes f false (a_word ∷ []))) s ∙ sym (no_statement ok);
      expression = ap (λ (b : Bool). b && not (takes f false (a_statement ∷ []))) t ∙ sym (no_expression ok);
      operand = v.operand ∙ sym (is_operand ok);
      declared =
          ap (λ (b : Bool). not (takes f false (an_expression ∷ [])) && (b || (takes f false (a_name ∷ close_paren ∷ []) && not (takes f false (a_name ∷ comma ∷ []))))) v.name_equal
          ∙ ap (λ (b : Bool). not (takes f false (an_expression ∷ [])) && (false || (b && not (takes f false (a_name ∷ comma ∷ []))))) v.name_close
          ∙ and_false (not (takes f false (an_expression ∷ []))) ∙ sym (no_declared ok);
      parameter =
          ap (λ (b : Bool). (not (takes f false (an_expression ∷ [])) && (not (takes f false (a_name ∷ equal ∷ [])) && b)) || (not (takes f false (equal ∷ [])) && comma_rule f)) v.name_comma
          ∙ ap (λ (b : Bool). (not (takes f false (an_expression ∷ [])) && b) || (not (takes f false (equal ∷ [])) && comma_rule f)) (and_false (not (takes f false (a_name ∷ equal ∷ []))))
          ∙ ap (λ (b : Bool). b || (not (takes f false (equal ∷ [])) && comma_rule f)) (and_false (not (takes f false (an_expression ∷ []))))
          ∙ v.parameter ∙ sym (no_parameter ok);
      key = ap (λ (b : Bool). b && takes f false (a_word ∷ [])) x ∙ sym (no_key ok);
      later = ap (λ (b : Bool). b && not (is_spot spot.ExpressionBegin (at_end ok))) v.later;
      on_line = v.on_line;
      behind = v.behind;
      names = v.names;
      pairs = ap (λ (b : Bool). b && takes f false (a_word ∷ tok.Punctuator p.Colon ∷ [])) x;
      law = name_law brace ok f v (ap (λ (b : Bool). b && not (takes f false (a_word ∷ []))) s);
      throws = ap (λ (b : Bool). (b && not (takes f false (a_statement ∷ []))) && not (takes f true (an_expression ∷ []))) t;
    }

-- ---- a binary operator is taken, where what waits for the value may get it

abbrev BinaryStep : Bool → Step → Type 0
BinaryStep ok (Ok n) = ok ≡ true
BinaryStep ok (Err k) = (ok ≡ false) × (k ≡ because None None)

binary_step : (o : Outer) (b : BinaryOp) (y : Expr) (t : Token) → ((l : Logic) → are_mixed (logic_of b) l ≡ false) → Fits Operands o.frames → BinaryStep (done (fold 0 o.frames y)) (on_binary true o b y t)
binary_step o b y t unmixed h = go (fold 7 o.frames y) (fold_values 7 o.frames y h) (fold_same 7 o.frames y h)
  where
    joined : (c : Bool) (x z : Step) → c ≡ false → BinaryStep (done (fold 0 o.frames y)) z → BinaryStep (done (fold 0 o.frames y)) (cond c x z)
    joined true x z e i = absurd (false≢true (sym e))
    joined false x z e i = i

    mixed : (v : Over) → (are_mixed (logic_of b) (outermost v.value) || are_mixed (logic_of b) (waiting (framed o v.frames))) ≡ false
    mixed v = ap (λ (c : Bool). c || are_mixed (logic_of b) (waiting (framed o v.frames))) (unmixed (outermost v.value)) ∙ unmixed (waiting (framed o v.frames))

    second : (n : ℕ) (v : Folded) → done v ≡ true → done (fold 0 o.frames y) ≡ true → BinaryStep (done (fold 0 o.frames y)) (joins_folded true o b n t v)
    second n (Ok v) d e = joined (are_mixed (logic_of b) (outermost v.value) || are_mixed (logic_of b) (waiting (framed o v.frames))) (after_whole true (framed o v.frames) v.value t)
        (wait_operand (framed o v.frames) (plus n 1) (operator.Binary v.value b)) (mixed v) e
    second n (Err k) d e = absurd (false≢true d)

    go : (v : Folded) → ValuesFolded v → done v ≡ done (fold 0 o.frames y) → BinaryStep (done (fold 0 o.frames y)) (binary_behind true o b t v)
    go (Ok v) i e = second (constructs (framed o v.frames)) (fold (strength b) v.frames v.value) (fold_done (strength b) v.frames v.value i) (sym e)
    go (Err k) i e = (sym e, i)

binary_taken : (ok : Bool) (made : Step) → BinaryStep ok made → accepted made yes ≡ ok
binary_taken ok (Ok n) h = sym h
binary_taken ok (Err k) h = sym h.0

ends_false : (ok e : Bool) → (ok || not e) ≡ true → ok ≡ false → e ≡ false
ends_false true e h i = absurd (false≢true (sym i))
ends_false false true h i = absurd (false≢true h)
ends_false false false h i = refl

says_binary : (ok e l : Bool) (g : Punctuator) (made : Step) → (ok || not e) ≡ true → BinaryStep ok made → Says (at_end ok) e l g made
says_binary ok e l g (Ok n) n0 h = refl
says_binary ok e l g (Err k) n0 h =
    subst (λ (z : Refusal). Says (at_end ok) e l g (Err z)) (sym h.1)
    (ap (λ (z : Bool). sign_word (at_end z) (false && l) g) (sym h.0) ∙ ap (λ (z : Bool). sign_word (at_end ok) (z && l) g) (sym (ends_false ok e n0 h.0)))

-- ---- `=` behind an operand

abbrev FoundSame : Expr → Result Target Expr → Type 0
FoundSame x (Ok t) = Unit {0}
FoundSame x (Err y) = y ≡ x

target_same : (x : Expr) → FoundSame x (target_of x)
target_same x = go (out-Expr x)
  where
    go : (n : Node) → FoundSame x (target_in x n)
    go (Expr-F.Name n) = tt
    go (Expr-F.Member y n) = tt
    go (Expr-F.Index y k) = tt
    go _ = refl

says_cond : (sp : Option Spot) (e l : Bool) (g : Punctuator) (b : Bool) (x y : Step) → Says sp e l g x → Says sp e l g y → Says sp e l g (cond b x y)
says_cond sp e l g true x y h i = h
says_cond sp e l g false x y h i = i

says_assign : (sp : Option Spot) (e l : Bool) (o : Outer) (x : Expr) (t : Token) (found : Result Target Expr) → FoundSame x found → Says sp e l p.Equal (after_whole true o x t) → Says sp e l p.Equal (assign_to true o assign.Set t found)
says_assign sp e l o x t (Ok z) s h = refl
says_assign sp e l o x t (Err y) s h = subst (λ (z : Expr). Says sp e l p.Equal (after_whole true o z t)) (sym s) h

-- ---- the places

behind_operand : (brace : Bool) (o : Outer) (x : Expr) (n : ℕ) → Fits Operands o.frames → Behind brace (done (fold 0 o.frames x)) (λ t. after_operand true o x n t)
behind_operand brace o x n h =
    let w : ValueFacts (done (fold 0 o.frames x)) (λ t. after_whole true o x t) = whole_facts o x h in
    let ok : Bool = done (fold 0 o.frames x) in
    record {
      statement = w.words 0 r.While;
      this = w.words 0 r.This;
      text = w.texts 0 [];
      name_equal = none_taken (after_whole true o x (token false a_name)) (λ m. accepts m false (equal ∷ [])) (w.named 0 (97 ∷ []));
      name_close = none_taken (after_whole true o x (token false a_name)) (λ m. accepts m false (close_paren ∷ [])) (w.named 0 (97 ∷ []));
      name_comma = none_taken (after_whole true o x (token false a_name)) (λ m. accepts m false (comma ∷ [])) (w.named 0 (97 ∷ []));
      operand = ap (λ (b : Bool). b || false) (binary_taken (done (fold 0 o.frames x)) _ (binary_step o binary.Multiply x (token false (tok.Punctuator p.Star)) (λ l. refl) h)) ∙ or_false (done (fold 0 o.frames x));
      parameter = ap (λ (b : Bool). not (takes (λ t. after_operand true o x n t) false (equal ∷ [])) && b) w.comma ∙ and_false (not (takes (λ t. after_operand true o x n t) false (equal ∷ [])));
      later = w.later;
      on_line = λ q. (let s = w.on_line q in (
        says_binary _ _ false p.Plus _ w.ends (binary_step o binary.Add x (tk q false (tok.Punctuator p.Plus)) (λ l. refl) h),
        says_binary _ _ false p.Slash _ w.ends (binary_step o binary.Divide x (tk q false (tok.Punctuator p.Slash)) (λ l. refl) h),
        s.2,
        s.3,
        refl,
        s.5,
        says_cond _ _ false p.Equal (is_whole o) (assign_to true o assign.Set (tk q false (tok.Punctuator p.Equal)) (target_of x)) (after_whole true o x (tk q false (tok.Punctuator p.Equal)))
            (says_assign _ _ false o x (tk q false (tok.Punctuator p.Equal)) (target_of x) (target_same x) s.6) s.6,
      ));
      behind = λ q. (let s = w.behind q in (
        says_binary _ _ true p.Plus _ w.ends (binary_step o binary.Add x (tk q true (tok.Punctuator p.Plus)) (λ l. refl) h),
        says_binary _ _ true p.Slash _ w.ends (binary_step o binary.Divide x (tk q true (tok.Punctuator p.Slash)) (λ l. refl) h),
        s.2,
        s.3,
        refl,
        s.5,
        says_cond _ _ true p.Equal (is_whole o) (assign_to true o assign.Set (tk q true (tok.Punctuator p.Equal)) (target_of x)) (after_whole true o x (tk q true (tok.Punctuator p.Equal)))
            (says_assign _ _ true o x (tk q true (tok.Punctuator p.Equal)) (target_of x) (target_same x) s.6) s.6,
      ));
      names = λ q l u. w.names q l u;
      law = w.law;
      on_line_law = λ q u. law_refused false (after_whole true o x (tk q false (tok.Name u))) (w.named q u);
    }

pub known_operand : (brace : Bool) (o : Outer) (x : Expr) (n : ℕ) → Fits Operands o.frames → Known brace false false (place o (at.Operand x n))
known_operand brace o x n h = behind_known brace (done (fold 0 o.frames x)) (λ t. after_operand true o x n t) (behind_operand brace o x n h)

behind_updated : (o : Outer) (x : Expr) → Fits Operands o.frames → Behind false (done (fold 0 o.frames x)) (λ t. after_value true o x t)
behind_updated o x h =
    let w : ValueFacts (done (fold 0 o.frames x)) (λ t. after_whole true o x t) = whole_facts o x h in
    record {
      statement = w.words 0 r.While;
      this = w.words 0 r.This;
      text = w.texts 0 [];
      name_equal = none_taken (after_whole true o x (token false a_name)) (λ m. accepts m false (equal ∷ [])) (w.named 0 (97 ∷ []));
      name_close = none_taken (after_whole true o x (token false a_name)) (λ m. accepts m false (close_paren ∷ [])) (w.named 0 (97 ∷ []));
      name_comma = none_taken (after_whole true o x (token false a_name)) (λ m. accepts m false (comma ∷ [])) (w.named 0 (97 ∷ []));
      operand = ap (λ (b : Bool). takes (λ t. after_value true o x t) false (tok.Punctuator p.Star ∷ []) || b)
          (and_false (not (takes (λ t. after_value true o x t) false (tok.Punctuator p.Dot ∷ [])) && (not (takes (λ t. after_value true o x t) false (a_statement ∷ [])) && not (takes (λ t. after_value true o x t) false (tok.Reserved r.Finally ∷ [])))))
          ∙ ap (λ (b : Bool). b || false) (binary_taken (done (fold 0 o.frames x)) _ (binary_step o binary.Multiply x (token false (tok.Punctuator p.Star)) (λ l. refl) h)) ∙ or_false (done (fold 0 o.frames x));
      parameter = ap (λ (b : Bool). not (takes (λ t. after_value true o x t) false (equal ∷ [])) && b) w.comma ∙ and_false (not (takes (λ t. after_value true o x t) false (equal ∷ [])));
      later = w.later;
      on_line = λ q. (let s = w.on_line q in (
        says_binary _ _ false p.Plus _ w.ends (binary_step o binary.Add x (tk q false (tok.Punctuator p.Plus)) (λ l. refl) h),
        says_binary _ _ false p.Slash _ w.ends (binary_step o binary.Divide x (tk q false (tok.Punctuator p.Slash)) (λ l. refl) h),
        s.2,
        s.3,
        s.4,
        s.5,
        s.6,
      ));
      behind = λ q. (let s = w.behind q in (
        says_binary _ _ true p.Plus _ w.ends (binary_step o binary.Add x (tk q true (tok.Punctuator p.Plus)) (λ l. refl) h),
        says_binary _ _ true p.Slash _ w.ends (binary_step o binary.Divide x (tk q true (tok.Punctuator p.Slash)) (λ l. refl) h),
        s.2,
        s.3,
        s.4,
        s.5,
        s.6,
      ));
      names = λ q l u. w.names q l u;
      law = w.law;
      on_line_law = λ q u. law_refused false (after_whole true o x (tk q false (tok.Name u))) (w.named q u);
    }

pub known_updated : (o : Outer) (x : Expr) → Fits Values o.frames → Known false false false (place o (at.Updated x))
known_updated o x h = behind_known false (done (fold 0 o.frames x)) (λ t. after_value true o x t) (behind_updated o x (values_operands o.frames h))

-- an arrow with a block
wholes_values : (fs : List Open) → Fits Wholes fs → Fits Values fs
wholes_values fs h = (go (first_frame fs) h.0, h.1)
  where
    go : (f : Option Frame) → IsTrue (is_within Wholes f) → IsTrue (is_within Values f)
    go (Some (frame.Operator o)) i = absurd (false≢true i)
    go (Some (frame.Tail t)) i = i
    go (Some (frame.Purpose w)) i = i
    go (Some (frame.Body b)) i = i
    go (Some (frame.Block b ss)) i = i
    go (Some frame.Export) i = i
    go None i = i

pub wholes_operands : (fs : List Open) → Fits Wholes fs → Fits Operands fs
wholes_operands fs h = values_operands fs (wholes_values fs h)

block_ends : (a b c : Bool) → a ≡ false → b ≡ false → c ≡ false → ((not a && (not b && not c)) && true) ≡ true
block_ends a b c d e f = ap (λ (z : Bool). (not z && (not b && not c)) && true) d ∙ ap (λ (z : Bool). (not z && not c) && true) e ∙ ap (λ (z : Bool). not z && true) f

behind_whole : (o : Outer) (x : Expr) → Fits Operands o.frames → ValueFacts true (λ t. after_whole true o x t) → Behind true true (λ t. after_whole true o x t)
behind_whole o x h w =
    record {
      statement = w.words 0 r.While;
      this = w.words 0 r.This;
      text = w.texts 0 [];
      name_equal = none_taken (after_whole true o x (token false a_name)) (λ m. accepts m false (equal ∷ [])) (w.named 0 (97 ∷ []));
      name_close = none_taken (after_whole true o x (token false a_name)) (λ m. accepts m false (close_paren ∷ [])) (w.named 0 (97 ∷ []));
      name_comma = none_taken (after_whole true o x (token false a_name)) (λ m. accepts m false (comma ∷ [])) (w.named 0 (97 ∷ []));
      operand = ap (λ (b : Bool). b || ends_block true (λ t. after_whole true o x t)) (none_taken (after_whole true o x (token false (tok.Punctuator p.Star))) yes w.star)
          ∙ block_ends _ _ _ (none_taken (after_whole true o x (token false (tok.Punctuator p.Dot))) yes w.dot) (none_taken (after_whole true o x (token false a_statement)) yes (w.words 0 r.While))
          (none_taken (after_whole true o x (token false (tok.Reserved r.Finally))) yes (w.words 0 r.Finally));
      parameter = ap (λ (b : Bool). not (takes (λ t. after_whole true o x t) false (equal ∷ [])) && b) w.comma ∙ and_false (not (takes (λ t. after_whole true o x t) false (equal ∷ [])));
      later = w.later;
      on_line = w.on_line;
      behind = w.behind;
      names = w.names;
      law = w.law;
      on_line_law = λ q u. law_refused false (after_whole true o x (tk q false (tok.Name u))) (w.named q u);
    }

pub known_whole : (o : Outer) (x : Expr) → Fits Wholes o.frames → Known true false false (place o (at.Whole x))
known_whole o x h = behind_known true true (λ t. after_whole true o x t)
    (behind_whole o x (wholes_operands o.frames h) (subst (λ (b : Bool). ValueFacts b (λ t. after_whole true o x t)) (fold_done 0 o.frames x (wholes_values o.frames h)) (whole_facts o x (wholes_operands o.frames h))))

-- ---- `async`

async_safe : (o : Outer) (n : Name) (q : ℕ) (l : Bool) (u : List ℕ) → NameSafe (after_operand true o (expr.Name n) 0 (tk q l (tok.Name u))) → NameSafe (after_async true o n (tk q l (tok.Name u)))
async_safe o n q true u h = h
async_safe o n q false u h = safe_cond (is_whole o) (to o (at.Arrow true (name q u ∷ []))) (after_operand true o (expr.Name n) 0 (tk q false (tok.Name u))) tt h

async_name : (b : Bool) (o : Outer) (ns : List Name) (made : Step) (k : TokenKind) → (let a : Token → Step = place o (at.Arrow true ns) in Refused (a (token false k))) → Refused made → accepted (cond b (to o (at.Arrow true ns)) made) (λ m. accepts m false (k ∷ [])) ≡ false
async_name true o ns made k h i = none_taken (place o (at.Arrow true ns) (token false k)) yes h
async_name false o ns made k h i = none_taken made (λ m. accepts m false (k ∷ [])) i

behind_async : (brace : Bool) (o : Outer) (n : Name) → Fits Operands o.frames → Behind false (done (fold 0 o.frames (expr.Name n))) (λ t. after_async true o n t)
behind_async brace o n h =
    let v : Behind false (done (fold 0 o.frames (expr.Name n))) (λ t. after_operand true o (expr.Name n) 0 t) = behind_operand false o (expr.Name n) 0 h in
    let w : ValueFacts (done (fold 0 o.frames (expr.Name n))) (λ t. after_whole true o (expr.Name n) t) = whole_facts o (expr.Name n) h in
    record {
      statement = v.statement;
      this = v.this;
      text = v.text;
      name_equal = async_name (is_whole o) o (name 0 (97 ∷ []) ∷ []) (after_whole true o (expr.Name n) (token false a_name)) equal tt (w.named 0 (97 ∷ []));
      name_close = async_name (is_whole o) o (name 0 (97 ∷ []) ∷ []) (after_whole true o (expr.Name n) (token false a_name)) close_paren tt (w.named 0 (97 ∷ []));
      name_comma = async_name (is_whole o) o (name 0 (97 ∷ []) ∷ []) (after_whole true o (expr.Name n) (token false a_name)) comma tt (w.named 0 (97 ∷ []));
      operand = v.operand;
      parameter = v.parameter;
      later = v.later;
      on_line = v.on_line;
      behind = v.behind;
      names = λ q l u. async_safe o n q l u (v.names q l u);
      law = v.law;
      on_line_law = λ q u. law_cond false (is_whole o) (to o (at.Arrow true (name q u ∷ []))) (after_operand true o (expr.Name n) 0 (tk q false (tok.Name u))) refl (v.on_line_law q u);
    }

pub known_async : (o : Outer) (n : Name) → Fits Operands o.frames → Known false false false (place o (at.Async n))
known_async o n h = behind_known false (done (fold 0 o.frames (expr.Name n))) (λ t. after_async true o n t) (behind_async false o n h)

-- ---- brackets round names

-- the token is no arrow
arrow_known : (ok : Bool) (o : Outer) (c : Cover) (ns : List Name) (f : Token → Step) → Behind false ok f → Known false false false (λ t. cond (is_arrow t.kind && not t.after_line_end) (to o (at.ArrowBody (is_async_cover c) ns)) (f t))
arrow_known ok o c ns f v = behind_known false ok (λ t. cond (is_arrow t.kind && not t.after_line_end) (to o (at.ArrowBody (is_async_cover c) ns)) (f t)) (record {
  statement = v.statement;
  this = v.this;
  text = v.text;
  name_equal = v.name_equal;
  name_close = v.name_close;
  name_comma = v.name_comma;
  operand = v.operand;
  parameter = v.parameter;
  later = v.later;
  on_line = v.on_line;
  behind = v.behind;
  names = v.names;
  law = v.law;
  on_line_law = v.on_line_law;
})

behind_refused : Behind false false (λ t. refuse)
behind_refused = record {
  statement = tt;
  this = tt;
  text = tt;
  name_equal = refl;
  name_close = refl;
  name_comma = refl;
  operand = refl;
  parameter = refl;
  later = refl;
  on_line = λ q. (refl, refl, refl, refl, refl, refl, refl);
  behind = λ q. (refl, refl, refl, refl, refl, refl, refl);
  names = λ q l u. (refl, tt);
  law = λ q u. tt;
  on_line_law = λ q u. tt;
}

pub known_covered : (o : Outer) (c : Cover) (ns : List Name) (b : Bool) → Fits Wholes o.frames → Known false false false (place o (at.Covered c ns b))
known_covered o (covers.Async n) ns b h = arrow_known _ o (covers.Async n) ns _ (behind_operand false o (expr.Call (expr.Name n) (as_values ns)) 1 (wholes_operands o.frames h))
known_covered o covers.Plain ns true h = group (only_name ns)
  where
    group : (m : Option Name) → Known false false false (λ t. cond (is_arrow t.kind && not t.after_line_end) (to o (at.ArrowBody false ns)) (group_of true o t m))
    group (Some m) = arrow_known _ o covers.Plain ns _ (behind_operand false o (expr.Group (expr.Name m)) 0 (wholes_operands o.frames h))
    group None = arrow_known false o covers.Plain ns (λ t. refuse) behind_refused
known_covered o covers.Plain ns false h = arrow_known false o covers.Plain ns (λ t. refuse) behind_refused

-- a name within brackets, which is a value there
abbrev named_value : Outer → Name → Token → Step
named_value o n t = after_name true o n t

behind_name : (o : Outer) (n : Name) → Fits Operands o.frames → Behind false (done (fold 0 o.frames (expr.Name n))) (named_value o n)
behind_name o n h = go (is_async n.units)
  where
    go : (b : Bool) → Behind false (done (fold 0 o.frames (expr.Name n))) (λ t. cond b (after_async true o n t) (after_operand true o (expr.Name n) 0 t))
    go true = behind_async false o n h
    go false = behind_operand false o (expr.Name n) 0 h

name_target : (n : Name) → target_of (expr.Name n) ≡ Ok (target.Variable n)
name_target n = ap (target_in (expr.Name n)) (ap out-Expr (sym (expr.rolls-Name n)) ∙ out-roll-Expr (Expr-F.Name n))

-- `=` may stand behind it
equal_by : (o : Outer) (n : Name) → is_whole o ≡ true → takes (λ t. after_operand true o (expr.Name n) 0 t) false (equal ∷ []) ≡ true
equal_by o n e =
    ap (λ (b : Bool). accepted (cond b (assign_to true o assign.Set (token false equal) (target_of (expr.Name n))) (after_whole true o (expr.Name n) (token false equal))) yes) e
    ∙ ap (λ (z : Result Target Expr). accepted (assign_to true o assign.Set (token false equal) z) yes) (name_target n)

equal_taken : (b : Bool) (o : Outer) (n : Name) → is_whole o ≡ true → takes (λ t. cond b (after_async true o n t) (after_operand true o (expr.Name n) 0 t)) false (equal ∷ []) ≡ true
equal_taken true o n e = equal_by o n e
equal_taken false o n e = equal_by o n e

abbrev cover_by : Outer → Cover → List Name → Name → (Token → Step) → Token → Step
cover_by o c ns n f t = cond (is_comma t.kind) (to o (at.CoverOpen c (ns ++ n ∷ []))) (cond (is_close_paren t.kind) (to o (at.Covered c (ns ++ n ∷ []) (has_none ns))) (f t))

behind_cover : (ok : Bool) (o : Outer) (c : Cover) (ns : List Name) (n : Name) (f : Token → Step) → Behind false ok f → (not (takes f false (equal ∷ [])) && comma_rule (cover_by o c ns n f)) ≡ false → Behind false ok (cover_by o c ns n f)
behind_cover ok o c ns n f v e = record {
  statement = v.statement;
  this = v.this;
  text = v.text;
  name_equal = v.name_equal;
  name_close = v.name_close;
  name_comma = v.name_comma;
  operand = v.operand;
  parameter = e;
  later = v.later;
  on_line = λ q. (let s = v.on_line q in (s.0, s.1, s.2, refl, s.4, s.5, s.6));
  behind = λ q. (let s = v.behind q in (s.0, s.1, s.2, refl, s.4, s.5, s.6));
  names = v.names;
  law = v.law;
  on_line_law = v.on_line_law;
}

uncover_fits : (o : Outer) (c : Cover) (ns : List Name) → Fits Wholes o.frames → Fits Operands (uncover o c ns).frames
uncover_fits o covers.Plain ns h = let w : Fits Operands o.frames = wholes_operands o.frames h in (refl, w)
uncover_fits o (covers.Async m) ns h = let w : Fits Operands o.frames = wholes_operands o.frames h in (refl, w)

not_and : (a b : Bool) → a ≡ true → (not a && b) ≡ false
not_and a b e = ap (λ (z : Bool). not z && b) e

pub known_cover_name : (o : Outer) (c : Cover) (ns : List Name) (n : Name) → Fits Wholes o.frames → Known false false false (place o (at.CoverName c ns n))
known_cover_name o covers.Plain [] n h =
    behind_known false _ _ (behind_cover _ o covers.Plain [] n (named_value (uncover o covers.Plain []) n) (behind_name (uncover o covers.Plain []) n (uncover_fits o covers.Plain [] h))
    (not_and _ _ (equal_taken (is_async n.units) (uncover o covers.Plain []) n refl)))
known_cover_name o covers.Plain (m ∷ ns) n h = record { here = (Some spot.Parameter); statement = refl; expression = refl; operand = refl; declared = refl; parameter = refl; key = refl; later = refl; on_line = λ q. (refl, refl, refl, refl, refl, refl, refl); behind = λ q. (refl, refl, refl, refl, refl, refl, refl); names = λ q l u. (refl, tt); pairs = refl; law = λ q l u. tt; throws = refl }
known_cover_name o (covers.Async m) ns n h =
    behind_known false _ _ (behind_cover _ o (covers.Async m) ns n (named_value (uncover o (covers.Async m) ns) n) (behind_name (uncover o (covers.Async m) ns) n (uncover_fits o (covers.Async m) ns h))
    (and_false (not (takes (named_value (uncover o (covers.Async m) ns) n) false (equal ∷ [])))))

-- ---- the rest

abbrev body_by : Bool → Outer → Bool → List Name → Token → Step
body_by full o a ns t = cond (is_open_brace t.kind) (open_block o 1 (block.Arrow a ns)) (arrow_value full (begin (push o 1 (frame.Tail (tail.Arrow a ns))) t))

body_known : (o : Outer) (a : Bool) (ns : List Name) → Known false false false (body_by false o a ns)
body_known o a ns = record { here = (Some spot.ExpressionBegin); statement = refl; expression = refl; operand = refl; declared = refl; parameter = refl; key = refl; later = refl; on_line = λ q. (refl, refl, refl, refl, refl, refl, refl); behind = λ q. (refl, refl, refl, refl, refl, refl, refl); names = λ q l u. begin_safe _ (name q u) (is_async u); pairs = refl; law = λ q l u. law_begin false _ (name q u) (is_async u) refl; throws = refl }

pub known_arrow_body : (o : Outer) (a : Bool) (ns : List Name) → nat_le no_limit (constructs o) ≡ false → Known false false false (place o (at.ArrowBody a ns))
known_arrow_body o a ns e = subst (λ (b : Bool). Known false false false (body_by b o a ns)) (sym e) (body_known o a ns)

pub known_property_end : (brace : Bool) (o : Outer) (xs : List Property) → Known brace false false (place o (at.PropertyEnd xs))
known_property_end true o xs = record { here = (Some spot.OperandEnd); statement = refl; expression = refl; operand = refl; declared = refl; parameter = refl; key = refl; later = refl; on_line = λ q. (refl, refl, refl, refl, refl, refl, refl); behind = λ q. (refl, refl, refl, refl, refl, refl, refl); names = λ q l u. (refl, tt); pairs = refl; law = λ q l u. tt; throws = refl }
known_property_end false o xs = record { here = None; statement = refl; expression = refl; operand = refl; declared = refl; parameter = refl; key = refl; later = refl; on_line = λ q. (refl, refl, refl, refl, refl, refl, refl); behind = λ q. (refl, refl, refl, refl, refl, refl, refl); names = λ q l u. (refl, tt); pairs = refl; law = λ q l u. tt; throws = refl }
