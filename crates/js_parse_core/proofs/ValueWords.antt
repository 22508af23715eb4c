-- What is taken and what is told behind a whole value.
use Rattle.std.proofs.Common.{◌≡◌, ℕ, Bool, true, false, cond, List, [], ◌∷◌, Option, Some, None, Ok, Err, refl, sym, ◌∙◌, subst, arith}
use Rattle.std.specs.Prelude.{IsTrue, Result, not, ◌&&◌, ◌||◌, nat_le}
use Rattle.std.proofs.lemmas.Bool.{false≢true, le-leb}
use Rattle.js_lex.specs.declared.token.Punctuator.TheVariants as p
use Rattle.js_lex.specs.declared.token.Reserved.{Reserved}
use Rattle.js_lex.specs.declared.token.TokenKind.TheVariants as tok
use Rattle.js_lex.specs.declared.token.Token.{Token}
use Rattle.js_tree.specs.Targets.{target_of}
use Rattle.js_tree.specs.declared.tree.BinaryOp.{BinaryOp}
use Rattle.js_tree.specs.declared.tree.DeclareKind.{DeclareKind}
use Rattle.js_tree.specs.declared.tree.DeclareKind.TheVariants as declare
use Rattle.js_tree.specs.declared.tree.Expr.{Expr}
use Rattle.js_tree.specs.declared.tree.Expr.TheVariants as expr
use Rattle.js_tree.specs.declared.tree.Name.{Name}
use Rattle.js_tree.specs.declared.tree.Stmt.{Stmt}
use Rattle.js_tree.specs.declared.tree.Stmt.TheVariants as stmt
use Rattle.js_tree.specs.declared.tree.Target.{Target}
use Rattle.js_tree.specs.declared.tree.UpdateOp.{UpdateOp}
use Rattle.js_tree.specs.declared.tree.UpdateSide.TheVariants as side
use Rattle.js_words.specs.declared.word.Spot.{Spot}
use Rattle.js_words.specs.declared.word.Spot.TheVariants as spot
use Rattle.js_grammar.specs.Shapes.{strength}
use Rattle.js_grammar.specs.Spots.{token, a_statement, an_expression, a_name, a_word, comma, close_paren}
use Rattle.js_parse_core.specs.declared.machine.At.TheVariants as at
use Rattle.js_parse_core.specs.declared.machine.Declared.{Declared}
use Rattle.js_parse_core.specs.declared.machine.Frame.{Frame}
use Rattle.js_parse_core.specs.declared.machine.Frame.TheVariants as frame
use Rattle.js_parse_core.specs.declared.machine.Open.{Open}
use Rattle.js_parse_core.specs.declared.machine.Operator.TheVariants as operator
use Rattle.js_parse_core.specs.declared.machine.Outer.{Outer}
use Rattle.js_parse_core.specs.declared.machine.Purpose.{Purpose}
use Rattle.js_parse_core.specs.declared.machine.Purpose.TheVariants as purpose
use Rattle.js_parse_core.specs.declared.machine.Refusal.{Refusal}
use Rattle.js_parse_core.specs.declared.machine.State.{State}
use Rattle.js_parse_core.specs.Begin.{begin_name}
use Rattle.js_parse_core.specs.Outer.{Step, because, refuse, opened, framed, first_frame, with_body, settle_in, settle_frame, complete, push, to}
use Rattle.js_parse_core.specs.Statements.{end, ends_statement, behind_end, else_behind, statement_behind, on_name_declared, without_value, declared_in, is_first, with_declaration}
use Rattle.js_parse_core.specs.Tokens.{is_async, is_else, is_comma, may_end, name}
use Rattle.js_parse_core.specs.Values.{Folded, over, applied, updated, fold, fold_frame, fold_tail, fold_tails, end_tail, on_value, on_over, on_folded, on_initial_done, after_whole}
use Rattle.js_parse_core.proofs.Accepts.{accepted, accepts}
use Rattle.js_parse_core.proofs.Came.{label_of}
use Rattle.js_parse_core.proofs.OpenStates.{Place, Statements, Operands, Values, Wholes, is_within, place_of_purpose, Stands}
use Rattle.js_parse_core.proofs.Says.{tk, SaysAll, NameSafe, Refused, yes, NameLaw, law_behind}

-- the frames stand where they may, and the innermost one is such
abbrev pub Fits : Place → List Open → Type 0
Fits q fs = IsTrue (is_within q (first_frame fs)) × Stands fs

abbrev pub done : Folded → Bool
done (Ok v) = true
done (Err k) = false

-- ---- what waits for the value gets it

zero_least : (n : ℕ) → nat_le 0 n ≡ true
zero_least n = le-leb 0 n (omega arith)

pub values_operands : (fs : List Open) → Fits Values fs → Fits Operands fs
values_operands fs h = (go (first_frame fs) h.0, h.1)
  where
    go : (f : Option Frame) → IsTrue (is_within Values f) → IsTrue (is_within Operands f)
    go (Some (frame.Operator o)) i = refl
    go (Some (frame.Tail t)) i = i
    go (Some (frame.Purpose w)) i = i
    go (Some (frame.Body b)) i = i
    go (Some (frame.Block b ss)) i = i
    go (Some frame.Export) i = i
    go None i = i

abbrev FoldedFits : Folded → Type 0
FoldedFits (Ok v) = Fits Wholes v.frames
FoldedFits (Err k) = k ≡ because None None

fold_fits : (fs : List Open) (x : Expr) → Fits Operands fs → FoldedFits (fold 0 fs x)
fold_fits [] x h = absurd (false≢true h.0)
fold_fits (f ∷ fs) x h = go f.frame h (λ y i. fold_fits fs y (values_operands fs i))
  where
    write : (o : UpdateOp) (found : Result Target Expr) → ((y : Expr) → FoldedFits (fold 0 fs y)) → FoldedFits (applied (updated found (λ t. expr.Update side.Before o t)) (λ y. fold 0 fs y))
    write o (Ok t) c = c _
    write o (Err y) c = refl

    binds : (l : Expr) (o : BinaryOp) (b : Bool) → b ≡ true → ((y : Expr) → FoldedFits (fold 0 fs y)) → FoldedFits (cond b (fold 0 fs (expr.Binary o l x)) (over (opened f.constructs (frame.Operator (operator.Binary l o)) ∷ fs) x))
    binds l o true e c = c _
    binds l o false e c = absurd (false≢true e)

    go : (k : Frame) → Fits Operands (opened f.constructs k ∷ fs) → ((y : Expr) → Fits Values fs → FoldedFits (fold 0 fs y)) → FoldedFits (fold_frame 0 (opened f.constructs k) k fs x (λ y. fold 0 fs y))
    go (frame.Operator (operator.Binary l o)) i c = binds l o (nat_le 0 (strength o)) (zero_least (strength o)) (λ y. c y i.1)
    go (frame.Operator (operator.Unary o)) i c = c _ i.1
    go (frame.Operator (operator.Await n)) i c = c _ i.1
    go (frame.Operator (operator.Update o)) i c = write o (target_of x) (λ y. c y i.1)
    go (frame.Tail t) i c = (refl, i.1)
    go (frame.Purpose w) i c = (refl, i.1)
    go (frame.Body k) i c = absurd (false≢true i.0)
    go (frame.Block b ss) i c = absurd (false≢true i.0)
    go frame.Export i c = absurd (false≢true i.0)

abbrev pub ValuesFolded : Folded → Type 0
ValuesFolded (Ok v) = Fits Values v.frames
ValuesFolded (Err k) = k ≡ because None None

pub fold_values : (least : ℕ) (fs : List Open) (x : Expr) → Fits Operands fs → ValuesFolded (fold least fs x)
fold_values least [] x h = absurd (false≢true h.0)
fold_values least (f ∷ fs) x h = go f.frame h (λ y i. fold_values least fs y (values_operands fs i))
  where
    write : (o : UpdateOp) (found : Result Target Expr) → ((y : Expr) → ValuesFolded (fold least fs y)) → ValuesFolded (applied (updated found (λ t. expr.Update side.Before o t)) (λ y. fold least fs y))
    write o (Ok t) c = c _
    write o (Err y) c = refl

    binds : (l : Expr) (o : BinaryOp) (b : Bool) → Fits Values fs → ((y : Expr) → ValuesFolded (fold least fs y)) → ValuesFolded (cond b (fold least fs (expr.Binary o l x)) (over (opened f.constructs (frame.Operator (operator.Binary l o)) ∷ fs) x))
    binds l o true i c = c _
    binds l o false i c = (refl, i)

    go : (k : Frame) → Fits Operands (opened f.constructs k ∷ fs) → ((y : Expr) → Fits Values fs → ValuesFolded (fold least fs y)) → ValuesFolded (fold_frame least (opened f.constructs k) k fs x (λ y. fold least fs y))
    go (frame.Operator (operator.Binary l o)) i c = binds l o (nat_le least (strength o)) i.1 (λ y. c y i.1)
    go (frame.Operator (operator.Unary o)) i c = c _ i.1
    go (frame.Operator (operator.Await n)) i c = c _ i.1
    go (frame.Operator (operator.Update o)) i c = write o (target_of x) (λ y. c y i.1)
    go (frame.Tail t) i c = (refl, i.1)
    go (frame.Purpose w) i c = (refl, i.1)
    go (frame.Body k) i c = absurd (false≢true i.0)
    go (frame.Block b ss) i c = absurd (false≢true i.0)
    go frame.Export i c = absurd (false≢true i.0)

pub fold_done : (least : ℕ) (fs : List Open) (x : Expr) → Fits Values fs → done (fold least fs x) ≡ true
fold_done least [] x h = refl
fold_done least (f ∷ fs) x h = go f.frame h (λ y i. fold_done least fs y i)
  where
    stops : (l : Expr) (o : BinaryOp) (b : Bool) → ((y : Expr) → done (fold least fs y) ≡ true) → done (cond b (fold least fs (expr.Binary o l x)) (over (opened f.constructs (frame.Operator (operator.Binary l o)) ∷ fs) x)) ≡ true
    stops l o true c = c _
    stops l o false c = refl

    go : (k : Frame) → Fits Values (opened f.constructs k ∷ fs) → ((y : Expr) → Fits Values fs → done (fold least fs y) ≡ true) → done (fold_frame least (opened f.constructs k) k fs x (λ y. fold least fs y)) ≡ true
    go (frame.Operator (operator.Binary l o)) i c = stops l o (nat_le least (strength o)) (λ y. c y i.1)
    go (frame.Operator (operator.Unary o)) i c = c _ i.1
    go (frame.Operator (operator.Await n)) i c = c _ i.1
    go (frame.Operator (operator.Update o)) i c = absurd (false≢true i.0)
    go (frame.Tail t) i c = refl
    go (frame.Purpose w) i c = refl
    go (frame.Body k) i c = absurd (false≢true i.0)
    go (frame.Block b ss) i c = absurd (false≢true i.0)
    go frame.Export i c = absurd (false≢true i.0)

-- whether they can does not depend on how tightly they bind
pub fold_same : (least : ℕ) (fs : List Open) (x : Expr) → Fits Operands fs → done (fold least fs x) ≡ done (fold 0 fs x)
fold_same least [] x h = refl
fold_same least (f ∷ fs) x h = go f.frame h
  where
    write : (o : UpdateOp) (found : Result Target Expr) → Fits Values fs
        → done (applied (updated found (λ t. expr.Update side.Before o t)) (λ y. fold least fs y)) ≡ done (applied (updated found (λ t. expr.Update side.Before o t)) (λ y. fold 0 fs y))
    write o (Ok t) i = fold_done least fs _ i ∙ sym (fold_done 0 fs _ i)
    write o (Err y) i = refl

    both : (k : Frame) → Fits Values (opened f.constructs k ∷ fs) → done (fold least (opened f.constructs k ∷ fs) x) ≡ done (fold 0 (opened f.constructs k ∷ fs) x)
    both k i = fold_done least (opened f.constructs k ∷ fs) x i ∙ sym (fold_done 0 (opened f.constructs k ∷ fs) x i)

    go : (k : Frame) → Fits Operands (opened f.constructs k ∷ fs) → done (fold least (opened f.constructs k ∷ fs) x) ≡ done (fold 0 (opened f.constructs k ∷ fs) x)
    go (frame.Operator (operator.Binary l o)) i = both (frame.Operator (operator.Binary l o)) (refl, i.1)
    go (frame.Operator (operator.Unary o)) i = both (frame.Operator (operator.Unary o)) (refl, i.1)
    go (frame.Operator (operator.Await n)) i = both (frame.Operator (operator.Await n)) (refl, i.1)
    go (frame.Operator (operator.Update o)) i = write o (target_of x) i.1
    go (frame.Tail t) i = refl
    go (frame.Purpose w) i = refl
    go (frame.Body k) i = absurd (false≢true i.0)
    go (frame.Block b ss) i = absurd (false≢true i.0)
    go frame.Export i = absurd (false≢true i.0)

-- ---- a statement is whole

pub settled : (o : Outer) (fs : List Open) (s : Stmt) → Fits Statements fs → (n : State) × (settle_in o fs s ≡ Ok n)
settled o [] s h = (_, refl)
settled o (f ∷ fs) s h = go f.frame h (λ t i. settled o fs t i)
  where
    go : (k : Frame) → Fits Statements (opened f.constructs k ∷ fs) → ((t : Stmt) → Fits Statements fs → (n : State) × (settle_in o fs t ≡ Ok n))
        → (n : State) × (settle_frame (framed o fs) f.constructs k s (λ t. settle_in o fs t) ≡ Ok n)
    go (frame.Block b ss) i c = (_, refl)
    go (frame.Body k) i c = c (with_body k s) i.1
    go (frame.Operator o) i c = absurd (false≢true i.0)
    go (frame.Tail t) i c = absurd (false≢true i.0)
    go (frame.Purpose w) i c = absurd (false≢true i.0)
    go frame.Export i c = absurd (false≢true i.0)

-- ---- what is known of the tokens behind a value

abbrev pub comma_rule : (Token → Step) → Bool
comma_rule f = not (accepted (f (token false comma)) (λ n. accepts n false (an_expression ∷ []))) && accepted (f (token false comma)) (λ n. accepts n false (a_name ∷ close_paren ∷ []))

abbrev pub begins_later : (Token → Step) → Bool
begins_later f = accepted (f (token true an_expression)) yes && not (accepted (f (token true a_statement)) yes)

abbrev pub ends_later : (Token → Step) → Bool
ends_later f = accepted (f (token true a_statement)) yes && not (accepted (f (token true a_word)) yes)

pub record ValueFacts (ok : Bool) (f : Token → Step) : Type 0 where
  pub words : (q : ℕ) (x : Reserved) → Refused (f (tk q false (tok.Reserved x)))
  pub named : (q : ℕ) (u : List ℕ) → Refused (f (tk q false (tok.Name u)))
  pub texts : (q : ℕ) (u : List ℕ) → Refused (f (tk q false (tok.Text u)))
  pub dot : Refused (f (token false (tok.Punctuator p.Dot)))
  pub star : Refused (f (token false (tok.Punctuator p.Star)))
  pub comma : comma_rule f ≡ false
  pub ends : (ok || not (ends_later f)) ≡ true
  pub later : begins_later f ≡ false
  pub on_line : (q : ℕ) → SaysAll (cond ok (Some spot.OperandEnd) None) (ends_later f) false (λ g. f (tk q false (tok.Punctuator g)))
  pub behind : (q : ℕ) → SaysAll (cond ok (Some spot.OperandEnd) None) (ends_later f) true (λ g. f (tk q true (tok.Punctuator g)))
  pub names : (q : ℕ) (l : Bool) (u : List ℕ) → NameSafe (f (tk q l (tok.Name u)))
  pub law : (q : ℕ) (u : List ℕ) → NameLaw (ends_later f) (f (tk q true (tok.Name u)))

pub failed_facts : ValueFacts false (λ t. refuse)
failed_facts = record {
  words = λ q x. tt;
  named = λ q u. tt;
  texts = λ q u. tt;
  dot = tt;
  star = tt;
  comma = refl;
  ends = refl;
  later = refl;
  on_line = λ q. (refl, refl, refl, refl, refl, refl, refl);
  behind = λ q. (refl, refl, refl, refl, refl, refl, refl);
  names = λ q l u. (refl, tt);
  law = λ q u. tt;
}

-- the value is a statement's last part
abbrev pub end_by : Step → Outer → Stmt → Option Spot → Option Spot → Token → Step
end_by made o s before here t = cond (ends_statement true t.kind) (complete o s)
    (cond (true && may_end t) (behind_end (cond (is_else t.kind) (else_behind (complete o s)) (statement_behind made t)) (because before here)) (Err (because before here)))

pub behind_safe : (o : Outer) (k : Refusal) (n : Name) (b : Bool) → NameSafe (behind_end (begin_name o n b) k)
behind_safe o k n true = tt
behind_safe o k n false = tt

end_facts_by : (n : State) (o : Outer) (s : Stmt) (before : Option Spot) → ValueFacts true (λ t. end_by (Ok n) o s before (Some spot.OperandEnd) t)
end_facts_by n o s before = record {
  words = λ q x. tt;
  named = λ q u. tt;
  texts = λ q u. tt;
  dot = tt;
  star = tt;
  comma = refl;
  ends = refl;
  later = refl;
  on_line = λ q. (refl, refl, refl, refl, refl, refl, refl);
  behind = λ q. (refl, refl, refl, refl, refl, refl, refl);
  names = by_name;
  law = λ q u. law_behind true (push n.outer 0 (frame.Purpose purpose.Statement)) (because before (Some spot.OperandEnd)) (name q u) (is_async u) refl;
}
  where
    by_name : (q : ℕ) (l : Bool) (u : List ℕ) → NameSafe (end_by (Ok n) o s before (Some spot.OperandEnd) (tk q l (tok.Name u)))
    by_name q true u = behind_safe (push n.outer 0 (frame.Purpose purpose.Statement)) (because before (Some spot.OperandEnd)) (name q u) (is_async u)
    by_name q false u = (refl, tt)

end_facts : (o : Outer) (s : Stmt) (before : Option Spot) → Fits Statements o.frames → ValueFacts true (λ t. end true o s t (because before (Some spot.OperandEnd)))
end_facts o s before h =
    let x : (n : State) × (settle_in o o.frames s ≡ Ok n) = settled o o.frames s h in
    subst (λ (made : Step). ValueFacts true (λ t. end_by made o s before (Some spot.OperandEnd) t)) (sym x.1) (end_facts_by x.0 o s before)

and_none : (a b : Bool) → (a && (b && false)) ≡ false
and_none true true = refl
and_none true false = refl
and_none false b = refl

refused_cond : (b : Bool) (x y : Step) → b ≡ false → Refused y → Refused (cond b x y)
refused_cond true x y e h = absurd (false≢true (sym e))
refused_cond false x y e h = h

declared_close : (o : Outer) (d : Declared) (b : Bool) → Refused (declared_in true o d (token false close_paren) b)
declared_close o d true = tt
declared_close o d false = tt

kind_close : (o : Outer) (d : Declared) (n : Name) (k : DeclareKind) → Refused (without_value true o d n (token false close_paren) k)
kind_close o d n declare.Let = declared_close o (with_declaration d n None) d.in_for
kind_close o d n declare.Const = tt

-- no bracket closes behind a name that is declared
pub no_close : (o : Outer) (d : Declared) (n : Name) → Refused (on_name_declared true o d n (token false close_paren))
no_close o d n = refused_cond (d.in_for && (is_first d.declarations && false)) _ _ (and_none d.in_for (is_first d.declarations)) (kind_close o d n d.kind)

none_accepted : (made : Step) (go : State → Bool) → Refused made → accepted made go ≡ false
none_accepted (Ok n) go h = absurd h
none_accepted (Err k) go h = refl

abbrev initial_by : Bool → Outer → Declared → Token → Step
initial_by b o d t = cond (is_comma t.kind) (to o (at.DeclaredName d)) (on_initial_done true o d t b)

initial_facts : (b : Bool) (o : Outer) (d : Declared) → Fits Statements o.frames → ValueFacts true (initial_by b o d)
initial_facts true o d h = record {
  words = λ q x. tt;
  named = λ q u. tt;
  texts = λ q u. tt;
  dot = tt;
  star = tt;
  ends = refl;
  later = refl;
  comma = none_accepted (on_name_declared true o d (name 0 (97 ∷ [])) (token false close_paren)) yes (no_close o d (name 0 (97 ∷ [])));
  on_line = λ q. (refl, refl, refl, refl, refl, refl, refl);
  behind = λ q. (refl, refl, refl, refl, refl, refl, refl);
  names = λ q l u. (refl, tt);
  law = λ q u. tt;
}
initial_facts false o d h =
    let e : ValueFacts true (λ t. end true o (stmt.Declare d.kind d.declarations) t (because None (Some spot.OperandEnd))) = end_facts o (stmt.Declare d.kind d.declarations) None h in
    record {
      words = λ q x. e.words q x;
      named = λ q u. e.named q u;
      texts = λ q u. e.texts q u;
      dot = tt;
      star = tt;
      ends = refl;
      later = e.later;
      comma = none_accepted (on_name_declared true o d (name 0 (97 ∷ [])) (token false close_paren)) yes (no_close o d (name 0 (97 ∷ [])));
      on_line = λ q. (let s = e.on_line q in (s.0, s.1, s.2, refl, s.4, s.5, s.6));
      behind = λ q. (let s = e.behind q in (s.0, s.1, s.2, refl, s.4, s.5, s.6));
      names = λ q l u. e.names q l u;
      law = λ q u. e.law q u;
    }

part_facts : (o : Outer) (w : Purpose) (x : Expr) → Fits (place_of_purpose w) o.frames → ValueFacts true (on_value true o w x)
part_facts o (purpose.Then test) x h = record { words = λ q y. tt; named = λ q u. tt; texts = λ q u. tt; dot = tt; star = tt; comma = refl; ends = refl; later = refl; on_line = λ q. (refl, refl, refl, refl, refl, refl, refl); behind = λ q. (refl, refl, refl, refl, refl, refl, refl); names = λ q l u. (refl, tt); law = λ q u. tt }
part_facts o purpose.Group x h = record { words = λ q y. tt; named = λ q u. tt; texts = λ q u. tt; dot = tt; star = tt; comma = refl; ends = refl; later = refl; on_line = λ q. (refl, refl, refl, refl, refl, refl, refl); behind = λ q. (refl, refl, refl, refl, refl, refl, refl); names = λ q l u. (refl, tt); law = λ q u. tt }
part_facts o (purpose.Argument c xs) x h = record { words = λ q y. tt; named = λ q u. tt; texts = λ q u. tt; dot = tt; star = tt; comma = refl; ends = refl; later = refl; on_line = λ q. (refl, refl, refl, refl, refl, refl, refl); behind = λ q. (refl, refl, refl, refl, refl, refl, refl); names = λ q l u. (refl, tt); law = λ q u. tt }
part_facts o (purpose.Index y n) x h = record { words = λ q y. tt; named = λ q u. tt; texts = λ q u. tt; dot = tt; star = tt; comma = refl; ends = refl; later = refl; on_line = λ q. (refl, refl, refl, refl, refl, refl, refl); behind = λ q. (refl, refl, refl, refl, refl, refl, refl); names = λ q l u. (refl, tt); law = λ q u. tt }
part_facts o (purpose.Element xs) x h = record { words = λ q y. tt; named = λ q u. tt; texts = λ q u. tt; dot = tt; star = tt; comma = refl; ends = refl; later = refl; on_line = λ q. (refl, refl, refl, refl, refl, refl, refl); behind = λ q. (refl, refl, refl, refl, refl, refl, refl); names = λ q l u. (refl, tt); law = λ q u. tt }
part_facts o (purpose.Pair xs k) x h = record { words = λ q y. tt; named = λ q u. tt; texts = λ q u. tt; dot = tt; star = tt; comma = refl; ends = refl; later = refl; on_line = λ q. (refl, refl, refl, refl, refl, refl, refl); behind = λ q. (refl, refl, refl, refl, refl, refl, refl); names = λ q l u. (refl, tt); law = λ q u. tt }
part_facts o (purpose.Hole is u) x h = record { words = λ q y. tt; named = λ q u. tt; texts = λ q u. tt; dot = tt; star = tt; comma = refl; ends = refl; later = refl; on_line = λ q. (refl, refl, refl, refl, refl, refl, refl); behind = λ q. (refl, refl, refl, refl, refl, refl, refl); names = λ q l u. (refl, tt); law = λ q u. tt }
part_facts o purpose.If x h = record { words = λ q y. tt; named = λ q u. tt; texts = λ q u. tt; dot = tt; star = tt; comma = refl; ends = refl; later = refl; on_line = λ q. (refl, refl, refl, refl, refl, refl, refl); behind = λ q. (refl, refl, refl, refl, refl, refl, refl); names = λ q l u. (refl, tt); law = λ q u. tt }
part_facts o purpose.While x h = record { words = λ q y. tt; named = λ q u. tt; texts = λ q u. tt; dot = tt; star = tt; comma = refl; ends = refl; later = refl; on_line = λ q. (refl, refl, refl, refl, refl, refl, refl); behind = λ q. (refl, refl, refl, refl, refl, refl, refl); names = λ q l u. (refl, tt); law = λ q u. tt }
part_facts o (purpose.ForOf k n) x h = record { words = λ q y. tt; named = λ q u. tt; texts = λ q u. tt; dot = tt; star = tt; comma = refl; ends = refl; later = refl; on_line = λ q. (refl, refl, refl, refl, refl, refl, refl); behind = λ q. (refl, refl, refl, refl, refl, refl, refl); names = λ q l u. (refl, tt); law = λ q u. tt }
part_facts o (purpose.ForUpdate b test) x h = record { words = λ q y. tt; named = λ q u. tt; texts = λ q u. tt; dot = tt; star = tt; comma = refl; ends = refl; later = refl; on_line = λ q. (refl, refl, refl, refl, refl, refl, refl); behind = λ q. (refl, refl, refl, refl, refl, refl, refl); names = λ q l u. (refl, tt); law = λ q u. tt }
part_facts o purpose.ForStart x h = record { words = λ q y. tt; named = λ q u. tt; texts = λ q u. tt; dot = tt; star = tt; comma = refl; ends = refl; later = refl; on_line = λ q. (refl, refl, refl, refl, refl, refl, refl); behind = λ q. (refl, refl, refl, refl, refl, refl, refl); names = λ q l u. (refl, tt); law = λ q u. tt }
part_facts o (purpose.ForTest b) x h = record { words = λ q y. tt; named = λ q u. tt; texts = λ q u. tt; dot = tt; star = tt; comma = refl; ends = refl; later = refl; on_line = λ q. (refl, refl, refl, refl, refl, refl, refl); behind = λ q. (refl, refl, refl, refl, refl, refl, refl); names = λ q l u. (refl, tt); law = λ q u. tt }
part_facts o purpose.Statement x h = end_facts o (stmt.Expr x) (label_of x) h
part_facts o (purpose.Initial d n) x h = initial_facts d.in_for o (with_declaration d n (Some x)) h
part_facts o (purpose.Return q) x h = end_facts o (stmt.Return q (Some x)) None h
part_facts o purpose.Throw x h = end_facts o (stmt.Throw x) None h

over_facts : (o : Outer) (fs : List Open) (x : Expr) → Fits Wholes fs → ValueFacts true (λ t. on_over true o t (fold_tails fs x))
over_facts o [] x h = absurd (false≢true h.0)
over_facts o (f ∷ fs) x h = go f.frame h (λ y i. over_facts o fs y i)
  where
    go : (k : Frame) → Fits Wholes (opened f.constructs k ∷ fs) → ((y : Expr) → Fits Wholes fs → ValueFacts true (λ t. on_over true o t (fold_tails fs y)))
        → ValueFacts true (λ t. on_over true o t (fold_tail (opened f.constructs k) k fs x (λ y. fold_tails fs y)))
    go (frame.Tail t) i c = c (end_tail t x) i.1
    go (frame.Purpose w) i c = part_facts (framed o fs) w x i.1
    go (frame.Operator w) i c = absurd (false≢true i.0)
    go (frame.Body k) i c = absurd (false≢true i.0)
    go (frame.Block b ss) i c = absurd (false≢true i.0)
    go frame.Export i c = absurd (false≢true i.0)

-- Behind a value: what waits for it may get it or not.
pub whole_facts : (o : Outer) (x : Expr) → Fits Operands o.frames → ValueFacts (done (fold 0 o.frames x)) (λ t. after_whole true o x t)
whole_facts o x h = go (fold 0 o.frames x) (fold_fits o.frames x h)
  where
    go : (v : Folded) → FoldedFits v → ValueFacts (done v) (λ t. on_folded true o t v)
    go (Ok v) i = over_facts o v.frames v.value i
    go (Err k) i = subst (λ (e : Refusal). ValueFacts false (λ t. Err e)) (sym i) failed_facts
