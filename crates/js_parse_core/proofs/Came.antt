-- Where each token leads, and what is asked of the token before where one is refused.
use Rattle.std.proofs.Common.{◌≡◌, ℕ, Bool, true, false, cond, List, ◌⊎◌, Option, Some, None, Ok, Err, sym, ap, ◌∙◌, inl, inr}
use Rattle.std.specs.Prelude.{Result}
use Rattle.js_lex.specs.declared.token.TokenKind.{TokenKind}
use Rattle.js_lex.specs.declared.token.TokenKind.TheVariants as tok
use Rattle.js_tree.specs.Targets.{target_of, target_in, Node}
use Rattle.js_tree.specs.declared.tree.ArrowBody.{ArrowBody}
use Rattle.js_tree.specs.declared.tree.ArrowBody.TheOpen.{Expr-F}
use Rattle.js_tree.specs.declared.tree.AssignOp.{AssignOp}
use Rattle.js_tree.specs.declared.tree.BinaryOp.{BinaryOp}
use Rattle.js_tree.specs.declared.tree.Expr.{Expr, out-Expr, out-roll-Expr}
use Rattle.js_tree.specs.declared.tree.Expr.TheVariants as expr
use Rattle.js_tree.specs.declared.tree.Function.{Function}
use Rattle.js_tree.specs.declared.tree.Name.{Name}
use Rattle.js_tree.specs.declared.tree.Property.{Property}
use Rattle.js_tree.specs.declared.tree.Target.{Target}
use Rattle.js_tree.specs.declared.tree.TemplateItem.{TemplateItem}
use Rattle.js_tree.specs.declared.tree.UnaryOp.{UnaryOp}
use Rattle.js_tree.specs.declared.tree.UpdateOp.{UpdateOp}
use Rattle.js_tree.specs.declared.tree.UpdateSide.{UpdateSide}
use Rattle.js_words.specs.declared.word.Spot.{Spot}
use Rattle.js_words.specs.declared.word.Spot.TheVariants as spot
use Rattle.js_parse_core.specs.declared.machine.At.{At}
use Rattle.js_parse_core.specs.declared.machine.At.TheVariants as at
use Rattle.js_parse_core.specs.declared.machine.Cover.{Cover}
use Rattle.js_parse_core.specs.declared.machine.Cover.TheVariants as covers
use Rattle.js_parse_core.specs.declared.machine.Open.{Open}
use Rattle.js_parse_core.specs.declared.machine.Outer.{Outer}
use Rattle.js_parse_core.specs.declared.machine.Refusal.{Refusal}
use Rattle.js_parse_core.specs.declared.machine.Refusal.TheVariants as refusal
use Rattle.js_parse_core.specs.Expressions.{uncover}
use Rattle.js_parse_core.specs.Outer.{Step, first_frame, is_statement, begins_statement}
use Rattle.js_parse_core.specs.Statements.{with_end}
use Rattle.js_parse_core.specs.Tokens.{is_close_brace}
use Rattle.js_parse_core.specs.Values.{label_before}

abbrev pub is_name : TokenKind → Bool
is_name (tok.Name u) = true
is_name _ = false

-- a name alone may be a label
abbrev pub label_of : Expr → Option Spot
label_of x = label_before (out-Expr x)

-- where a token of this kind leads; `keyed`: a key stood next
abbrev pub Landed : Bool → TokenKind → Outer → At → Type 0
Landed keyed k o (at.Whole x) = (is_close_brace k ≡ true) × (label_of x ≡ None)
Landed keyed k o (at.Updated x) = label_of x ≡ None
Landed keyed k o (at.Operand x n) = (label_of x ≡ None) ⊎ (is_name k ≡ true)
Landed keyed k o (at.Async n) = is_name k ≡ true
Landed keyed k o (at.NameKey xs n) = keyed ≡ true
Landed keyed k o (at.OtherKey xs n) = keyed ≡ true
Landed keyed k o (at.AsyncKey xs n) = keyed ≡ true
Landed keyed k o at.Begin = begins_statement o ≡ false
Landed keyed k o _ = Unit {0}

-- what a place asks of the token before
pub data Loud : Type 0 where
  Quiet : Loud
  -- a statement's first name
  Label : Loud
  -- a key
  KeyAsked : Loud
  -- nothing, and no word is told behind a line end
  Throws : Loud

abbrev pub BeforeCalm : Loud → Option Spot → Type 0
BeforeCalm loud None = Unit {0}
BeforeCalm loud (Some spot.StatementBegin) = loud ≡ Label
BeforeCalm loud (Some spot.Key) = loud ≡ KeyAsked
BeforeCalm loud (Some s) = ⊥

abbrev pub HereCalm : Bool → Loud → Option Spot → Type 0
HereCalm keyed loud (Some spot.Key) = (keyed ≡ true) ⊎ (loud ≡ KeyAsked)
HereCalm keyed loud _ = Unit {0}

-- nothing is asked that the place does not ask
abbrev pub Calm : Bool → Loud → Refusal → Type 0
Calm keyed loud (refusal.Token a) = BeforeCalm loud a.before × HereCalm keyed loud a.here
Calm keyed loud refusal.Plain = loud ≡ Throws
Calm keyed loud _ = Unit {0}

pub label_calm : (loud : Loud) (x : Expr) → (label_of x ≡ None) ⊎ (loud ≡ Label) → BeforeCalm loud (label_of x)
label_calm loud x h = go (out-Expr x) h
  where
    go : (n : Node) → (label_before n ≡ None) ⊎ (loud ≡ Label) → BeforeCalm loud (label_before n)
    go (Expr-F.Name n) (inl i) = absurd cc
    go (Expr-F.Name n) (inr i) = i
    go _ i = tt

abbrev pub Lands : Bool → Loud → TokenKind → Step → Type 0
Lands keyed loud k (Ok s) = Landed keyed k s.outer s.at
Lands keyed loud k (Err e) = Calm keyed loud e

pub came_cond : (keyed : Bool) (loud : Loud) (k : TokenKind) (b : Bool) (x y : Step) → Lands keyed loud k x → Lands keyed loud k y → Lands keyed loud k (cond b x y)
came_cond keyed loud k true x y h i = h
came_cond keyed loud k false x y h i = i

pub came_with_end : (keyed : Bool) (loud : Loud) (k : Refusal) → Calm keyed loud k → Calm keyed loud (with_end k)
came_with_end keyed loud (refusal.Token a) h = h
came_with_end keyed loud refusal.Plain h = h
came_with_end keyed loud refusal.Nesting h = h
came_with_end keyed loud refusal.NestingBefore h = h

-- a name alone is no statement here
abbrev pub Silent : Loud → List Open → Expr → Type 0
Silent loud fs x = is_statement (first_frame fs) ≡ true → (label_of x ≡ None) ⊎ (loud ≡ Label)

abbrev pub FoundSilent : Loud → List Open → Result Target Expr → Type 0
FoundSilent loud fs (Ok target) = Unit {0}
FoundSilent loud fs (Err y) = Silent loud fs y

pub silent_target : (loud : Loud) (fs : List Open) (x : Expr) → Silent loud fs x → FoundSilent loud fs (target_of x)
silent_target loud fs x h = go (out-Expr x)
  where
    go : (n : Node) → FoundSilent loud fs (target_in x n)
    go (Expr-F.Name n) = tt
    go (Expr-F.Member y n) = tt
    go (Expr-F.Index y k) = tt
    go _ = h

pub silent_cover : (loud : Loud) (o : Outer) (c : Cover) (ns : List Name) (n : Name) → Silent loud (uncover o c ns).frames (expr.Name n)
silent_cover loud o covers.Plain ns n h = absurd cc
silent_cover loud o (covers.Async m) ns n h = absurd cc

-- ---- expressions that are no name alone

pub bare_Number : (n : ℕ) → label_of (expr.Number n) ≡ None
bare_Number n = ap label_before (ap out-Expr (sym (expr.rolls-Number n)) ∙ out-roll-Expr (Expr-F.Number n))

pub bare_Text : (u : List ℕ) → label_of (expr.Text u) ≡ None
bare_Text u = ap label_before (ap out-Expr (sym (expr.rolls-Text u)) ∙ out-roll-Expr (Expr-F.Text u))

pub bare_True : label_of expr.True ≡ None
bare_True = ap label_before (ap out-Expr (sym expr.rolls-True) ∙ out-roll-Expr Expr-F.True)

pub bare_False : label_of expr.False ≡ None
bare_False = ap label_before (ap out-Expr (sym expr.rolls-False) ∙ out-roll-Expr Expr-F.False)

pub bare_Null : label_of expr.Null ≡ None
bare_Null = ap label_before (ap out-Expr (sym expr.rolls-Null) ∙ out-roll-Expr Expr-F.Null)

pub bare_This : label_of expr.This ≡ None
bare_This = ap label_before (ap out-Expr (sym expr.rolls-This) ∙ out-roll-Expr Expr-F.This)

pub bare_Template : (is : List TemplateItem) (u : List ℕ) → label_of (expr.Template is u) ≡ None
bare_Template is u = ap label_before (ap out-Expr (sym (expr.rolls-Template is u)) ∙ out-roll-Expr (Expr-F.Template is u))

pub bare_Array : (xs : List Expr) → label_of (expr.Array xs) ≡ None
bare_Array xs = ap label_before (ap out-Expr (sym (expr.rolls-Array xs)) ∙ out-roll-Expr (Expr-F.Array xs))

pub bare_Object : (xs : List Property) → label_of (expr.Object xs) ≡ None
bare_Object xs = ap label_before (ap out-Expr (sym (expr.rolls-Object xs)) ∙ out-roll-Expr (Expr-F.Object xs))

pub bare_Function : (n : Option Name) (f : Function) → label_of (expr.Function n f) ≡ None
bare_Function n f = ap label_before (ap out-Expr (sym (expr.rolls-Function n f)) ∙ out-roll-Expr (Expr-F.Function n f))

pub bare_Arrow : (a : Bool) (ns : List Name) (b : ArrowBody) → label_of (expr.Arrow a ns b) ≡ None
bare_Arrow a ns b = ap label_before (ap out-Expr (sym (expr.rolls-Arrow a ns b)) ∙ out-roll-Expr (Expr-F.Arrow a ns b))

pub bare_Group : (x : Expr) → label_of (expr.Group x) ≡ None
bare_Group x = ap label_before (ap out-Expr (sym (expr.rolls-Group x)) ∙ out-roll-Expr (Expr-F.Group x))

pub bare_Unary : (o : UnaryOp) (x : Expr) → label_of (expr.Unary o x) ≡ None
bare_Unary o x = ap label_before (ap out-Expr (sym (expr.rolls-Unary o x)) ∙ out-roll-Expr (Expr-F.Unary o x))

pub bare_Await : (q : ℕ) (x : Expr) → label_of (expr.Await q x) ≡ None
bare_Await q x = ap label_before (ap out-Expr (sym (expr.rolls-Await q x)) ∙ out-roll-Expr (Expr-F.Await q x))

pub bare_Update : (s : UpdateSide) (o : UpdateOp) (x : Target) → label_of (expr.Update s o x) ≡ None
bare_Update s o x = ap label_before (ap out-Expr (sym (expr.rolls-Update s o x)) ∙ out-roll-Expr (Expr-F.Update s o x))

pub bare_Binary : (o : BinaryOp) (x : Expr) (y : Expr) → label_of (expr.Binary o x y) ≡ None
bare_Binary o x y = ap label_before (ap out-Expr (sym (expr.rolls-Binary o x y)) ∙ out-roll-Expr (Expr-F.Binary o x y))

pub bare_Conditional : (x : Expr) (y : Expr) (z : Expr) → label_of (expr.Conditional x y z) ≡ None
bare_Conditional x y z = ap label_before (ap out-Expr (sym (expr.rolls-Conditional x y z)) ∙ out-roll-Expr (Expr-F.Conditional x y z))

pub bare_Assign : (o : AssignOp) (x : Target) (y : Expr) → label_of (expr.Assign o x y) ≡ None
bare_Assign o x y = ap label_before (ap out-Expr (sym (expr.rolls-Assign o x y)) ∙ out-roll-Expr (Expr-F.Assign o x y))

pub bare_Call : (x : Expr) (xs : List Expr) → label_of (expr.Call x xs) ≡ None
bare_Call x xs = ap label_before (ap out-Expr (sym (expr.rolls-Call x xs)) ∙ out-roll-Expr (Expr-F.Call x xs))

pub bare_New : (n : Name) (xs : List Expr) → label_of (expr.New n xs) ≡ None
bare_New n xs = ap label_before (ap out-Expr (sym (expr.rolls-New n xs)) ∙ out-roll-Expr (Expr-F.New n xs))

pub bare_Member : (x : Expr) (n : Name) → label_of (expr.Member x n) ≡ None
bare_Member x n = ap label_before (ap out-Expr (sym (expr.rolls-Member x n)) ∙ out-roll-Expr (Expr-F.Member x n))

pub bare_Index : (x : Expr) (k : Expr) → label_of (expr.Index x k) ≡ None
bare_Index x k = ap label_before (ap out-Expr (sym (expr.rolls-Index x k)) ∙ out-roll-Expr (Expr-F.Index x k))

pub bare_label : (n : Name) → label_of (expr.Name n) ≡ Some spot.StatementBegin
bare_label n = ap label_before (ap out-Expr (sym (expr.rolls-Name n)) ∙ out-roll-Expr (Expr-F.Name n))
