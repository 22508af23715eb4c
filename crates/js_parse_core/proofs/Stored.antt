-- The counts that a state stores are those of what it has read, up to where counts stand still.
use Rattle.std.proofs.Common.{◌≡◌, ℕ, ◌+◌, ◌≤◌, Bool, true, false, List, [], ◌∷◌, Option, Some, refl, sym, ◌∙◌, ap, subst, le_refl, arith, Ok, Err, cond, ◌<◌}
use Rattle.js_tree.specs.declared.tree.Expr.{Expr}
use Rattle.js_tree.specs.declared.tree.Expr.TheVariants as expr
use Rattle.js_tree.specs.declared.tree.Function.{Function}
use Rattle.js_tree.specs.declared.tree.Name.{Name}
use Rattle.js_tree.specs.declared.tree.Property.{Property}
use Rattle.js_tree.specs.declared.tree.Target.{Target}
use Rattle.js_tree.specs.declared.tree.TemplateItem.{TemplateItem}
use Rattle.js_tree.specs.declared.tree.UnaryOp.{UnaryOp}
use Rattle.js_tree.specs.declared.tree.UpdateOp.{UpdateOp}
use Rattle.js_tree.specs.declared.tree.UpdateSide.{UpdateSide}
use Rattle.js_grammar.specs.Grammar.{Written}
use Rattle.js_grammar.proofs.Equations.{written_name, written_number, written_text, written_true, written_false, written_null, written_this, written_template, written_array, written_object, written_function_expr, written_group, written_unary, written_await, written_update, written_new, written_call, written_member, written_index}
use Rattle.std.specs.Prelude.{◌&&◌, nat_lt, nat_le}
use Rattle.std.proofs.lemmas.Bool.{false≢true, ltb-true, ltb-false}
use Rattle.js_lex.specs.declared.token.Punctuator.{Punctuator}
use Rattle.js_lex.specs.declared.token.Punctuator.TheVariants as p
use Rattle.js_lex.specs.declared.token.Reserved.{Reserved}
use Rattle.js_lex.specs.declared.token.Reserved.TheVariants as r
use Rattle.js_lex.specs.declared.token.TemplatePart.{TemplatePart}
use Rattle.js_lex.specs.declared.token.TemplatePart.TheVariants as part
use Rattle.js_lex.specs.declared.token.TokenKind.{TokenKind}
use Rattle.js_lex.specs.declared.token.TokenKind.TheVariants as tok
use Rattle.js_lex.specs.declared.token.Token.{Token}
use Rattle.js_tree.specs.declared.tree.BinaryOp.{BinaryOp}
use Rattle.js_tree.specs.declared.tree.BinaryOp.TheVariants as binary
use Rattle.js_tree.specs.declared.tree.UnaryOp.TheVariants as unary
use Rattle.js_tree.specs.declared.tree.UpdateOp.TheVariants as update
use Rattle.js_tree.specs.declared.tree.UpdateSide.TheVariants as side
use Rattle.js_tree.specs.Targets.{target_of}
use Rattle.std.specs.Prelude.{Result}
use Rattle.js_parse_core.specs.declared.machine.At.{At}
use Rattle.js_parse_core.specs.declared.machine.At.TheVariants as at
use Rattle.js_parse_core.specs.declared.machine.Callee.{Callee}
use Rattle.js_parse_core.specs.declared.machine.Callee.TheVariants as callee
use Rattle.js_parse_core.specs.declared.machine.Frame.{Frame}
use Rattle.js_parse_core.specs.declared.machine.Frame.TheVariants as frame
use Rattle.js_parse_core.specs.declared.machine.Open.{Open}
use Rattle.js_parse_core.specs.declared.machine.Operator.{Operator}
use Rattle.js_parse_core.specs.declared.machine.Operator.TheVariants as operator
use Rattle.js_parse_core.specs.declared.machine.Outer.{Outer}
use Rattle.js_parse_core.specs.declared.machine.Position.{Position}
use Rattle.js_parse_core.specs.declared.machine.Position.TheVariants as positions
use Rattle.js_parse_core.specs.declared.machine.Purpose.TheVariants as purpose
use Rattle.js_parse_core.specs.declared.machine.Refusal.{Refusal}
use Rattle.js_parse_core.specs.declared.machine.State.{State}
use Rattle.js_parse_core.specs.Begin.{operand, begin_name, begin_template, prefix_at, begin_by_word, begin_paren, begin_by_sign, begin_kind, begin}
use Rattle.js_parse_core.specs.Outer.{Step, plus, most_counted, constructs, constructs_in, opened, push_at, first_frame, position, is_whole}
use Rattle.js_parse_core.specs.Tokens.{is_async}
use Rattle.js_parse_core.specs.Tokens.{name as named}
use Rattle.js_grammar.specs.Shapes.{strength}
use Rattle.js_parse_core.specs.Values.{Over, Folded, over, updated, apply, applied, operator_binds, fold_frame, fold, fold_tail, fold_tails}
use Rattle.js_parse_core.proofs.CountedForms.{accesses, operators, access_at, operand_at, operators_binary}
use Rattle.js_parse_core.proofs.CountedSpelled.{levels}
use Rattle.js_parse_core.proofs.CountedChains.{plain_name, plain_number, plain_text, plain_true, plain_false, plain_null, plain_this, plain_template}

-- ---- chains without operators

pub flat_name : (m : Name) → operators (expr.Name m) ≡ 0
unfolding operators
flat_name m = ap (λ (w : Written). w.operators) (written_name m)

pub flat_number : (v : ℕ) → operators (expr.Number v) ≡ 0
unfolding operators
flat_number v = ap (λ (w : Written). w.operators) (written_number v)

pub flat_text : (u : List ℕ) → operators (expr.Text u) ≡ 0
unfolding operators
flat_text u = ap (λ (w : Written). w.operators) (written_text u)

pub flat_true : operators expr.True ≡ 0
unfolding operators
flat_true = ap (λ (w : Written). w.operators) (written_true)

pub flat_false : operators expr.False ≡ 0
unfolding operators
flat_false = ap (λ (w : Written). w.operators) (written_false)

pub flat_null : operators expr.Null ≡ 0
unfolding operators
flat_null = ap (λ (w : Written). w.operators) (written_null)

pub flat_this : operators expr.This ≡ 0
unfolding operators
flat_this = ap (λ (w : Written). w.operators) (written_this)

pub flat_template : (is : List TemplateItem) (u : List ℕ) → operators (expr.Template is u) ≡ 0
unfolding operators
flat_template is u = ap (λ (w : Written). w.operators) (written_template is u)

pub flat_array : (xs : List Expr) → operators (expr.Array xs) ≡ 0
unfolding operators
flat_array xs = ap (λ (w : Written). w.operators) (written_array xs)

pub flat_object : (xs : List Property) → operators (expr.Object xs) ≡ 0
unfolding operators
flat_object xs = ap (λ (w : Written). w.operators) (written_object xs)

pub flat_function_expr : (m : Option Name) (f : Function) → operators (expr.Function m f) ≡ 0
unfolding operators
flat_function_expr m f = ap (λ (w : Written). w.operators) (written_function_expr m f)

pub flat_group : (x : Expr) → operators (expr.Group x) ≡ 0
unfolding operators
flat_group x = ap (λ (w : Written). w.operators) (written_group x)

pub flat_unary : (o : UnaryOp) (x : Expr) → operators (expr.Unary o x) ≡ 0
unfolding operators
flat_unary o x = ap (λ (w : Written). w.operators) (written_unary o x)

pub flat_await : (q : ℕ) (x : Expr) → operators (expr.Await q x) ≡ 0
unfolding operators
flat_await q x = ap (λ (w : Written). w.operators) (written_await q x)

pub flat_update : (s : UpdateSide) (o : UpdateOp) (x : Target) → operators (expr.Update s o x) ≡ 0
unfolding operators
flat_update s o x = ap (λ (w : Written). w.operators) (written_update s o x)

pub flat_new : (m : Name) (xs : List Expr) → operators (expr.New m xs) ≡ 0
unfolding operators
flat_new m xs = ap (λ (w : Written). w.operators) (written_new m xs)

pub flat_call : (x : Expr) (xs : List Expr) → operators (expr.Call x xs) ≡ 0
unfolding operators
flat_call x xs = ap (λ (w : Written). w.operators) (written_call x xs)

pub flat_member : (x : Expr) (m : Name) → operators (expr.Member x m) ≡ 0
unfolding operators
flat_member x m = ap (λ (w : Written). w.operators) (written_member x m)

pub flat_index : (x k : Expr) → operators (expr.Index x k) ≡ 0
unfolding operators
flat_index x k = ap (λ (w : Written). w.operators) (written_index x k)

-- ---- counts that are stored

-- the count m is n, or it stands still, and is no more
abbrev pub Stores : ℕ → ℕ → Type 0
Stores m n = (m ≤ n) × (m < 1000 → m ≡ n)

pub stores_same : (n : ℕ) → Stores n n
stores_same n = (le_refl n, λ h. refl)

pub plus_stores : (a b m n : ℕ) → Stores a m → Stores b n → Stores (plus a b) (m + n)
plus_stores a b m n h k = by_tests (nat_lt a most_counted) (nat_lt b most_counted) (λ e. ltb-true a most_counted e) (λ e. ltb-false a most_counted e) (λ e. ltb-true b most_counted e) (λ e. ltb-false b most_counted e)
  where
    by_tests : (c d : Bool) → (c ≡ true → a < 1000) → (c ≡ false → 1000 ≤ a) → (d ≡ true → b < 1000) → (d ≡ false → 1000 ≤ b) → Stores (cond (c && d) (a + b) 1000) (m + n)
    by_tests true true f g i j = let x : a ≡ m = h.1 (f refl) in let y : b ≡ n = k.1 (i refl) in (omega arith, λ e. omega arith)
    by_tests true false f g i j = let y : 1000 ≤ b = j refl in let z : b ≤ n = k.0 in (omega arith, λ e. omega arith)
    by_tests false d f g i j = let y : 1000 ≤ a = g refl in let z : a ≤ m = h.0 in (omega arith, λ e. omega arith)

pub stores_more : (a m k : ℕ) → Stores a m → Stores (plus a k) (m + k)
stores_more a m k h = plus_stores a k m k h (stores_same k)

pub stores_none : (a m : ℕ) → Stores a m → Stores (plus a 0) m
stores_none a m h = subst (λ (z : ℕ). Stores (plus a 0) z) (omega arith) (stores_more a m 0 h)

pub stores_is : (a m n : ℕ) → m ≡ n → Stores a m → Stores a n
stores_is a m n e h = subst (Stores a) e h

-- ---- frames

-- an operator that is no binary one
abbrev pub is_prefix : Option Frame → Bool
is_prefix (Some (frame.Operator (operator.Binary x o))) = false
is_prefix (Some (frame.Operator x)) = true
is_prefix _ = false

abbrev pub CalleeStored : Callee → Type 0
CalleeStored (callee.Value x k) = Stores k (accesses x)
CalleeStored (callee.New m) = Unit {0}

abbrev pub FrameStored : List Open → Frame → Type 0
FrameStored fs (frame.Operator (operator.Binary x o)) = is_prefix (first_frame fs) ≡ false
FrameStored fs (frame.Purpose (purpose.Argument c xs)) = CalleeStored c
FrameStored fs (frame.Purpose (purpose.Index y k)) = Stores k (accesses y)
FrameStored fs _ = Unit {0}

abbrev pub AllStored : List Open → Type 0
AllStored [] = Unit {0}
AllStored (f ∷ fs) = Stores f.constructs (levels (f ∷ fs)) × FrameStored fs f.frame × AllStored fs

pub count_stores : (fs : List Open) → AllStored fs → Stores (constructs_in fs) (levels fs)
count_stores [] h = stores_same 0
count_stores (f ∷ fs) h = h.0

abbrev pub Here : Outer → Type 0
Here o = AllStored o.frames

pub here_stores : (o : Outer) → Here o → Stores (constructs o) (levels o.frames)
here_stores o h = count_stores o.frames h

-- ---- the innermost

abbrev pub AtStored : At → Type 0
AtStored (at.Operand x k) = Stores k (accesses x) × (operators x ≡ 0)
AtStored (at.Updated x) = operators x ≡ 0
AtStored (at.MemberName x k) = Stores k (accesses x)
AtStored (at.NextArgument c xs) = CalleeStored c
AtStored _ = Unit {0}

pub record Stored (s : State) : Type 0 where
  pub frames : AllStored s.outer.frames
  pub here : AtStored s.at

abbrev pub StoredStep : Step → Type 0
StoredStep (Ok n) = Stored n
StoredStep (Err k) = Unit {0}

pub stored_cond : (b : Bool) (x y : Step) → StoredStep x → StoredStep y → StoredStep (cond b x y)
stored_cond true x y h k = h
stored_cond false x y h k = k

pub stored_when : (b : Bool) (x y : Step) → (b ≡ true → StoredStep x) → (b ≡ false → StoredStep y) → StoredStep (cond b x y)
stored_when true x y h k = h refl
stored_when false x y h k = k refl

-- ---- what is pushed

pub pushed : (o : Outer) (f : Frame) (c : ℕ) → Here o → Stores c (levels (opened c f ∷ o.frames)) → FrameStored o.frames f → Here (push_at o c f)
pushed o f c h s k = (s, k, h)

pub one_more : (o : Outer) → Here o → Stores (plus (constructs o) 1) (levels o.frames + 1)
one_more o h = stores_more (constructs o) (levels o.frames) 1 (here_stores o h)

pub no_more : (o : Outer) → Here o → Stores (plus (constructs o) 0) (levels o.frames)
no_more o h = stores_none (constructs o) (levels o.frames) (here_stores o h)

pub access_stores : (o : Outer) (k : ℕ) (x : Expr) → Here o → Stores k (accesses x) → Stores (plus (constructs o) (plus k 1)) (access_at (levels o.frames) x)
access_stores o k x h s = stores_is _ (levels o.frames + (accesses x + 1)) _ (assoc (levels o.frames) (accesses x)) (plus_stores (constructs o) (plus k 1) (levels o.frames) (accesses x + 1) (here_stores o h) (stores_more k (accesses x) 1 s))
  where
    assoc : (n a : ℕ) → n + (a + 1) ≡ (n + a) + 1
    assoc n a = omega arith

pub operand_stored : (o : Outer) (x : Expr) → Here o → accesses x ≡ 0 → operators x ≡ 0 → StoredStep (operand o x)
operand_stored o x h e f = record { frames = h; here = (subst (Stores 0) (sym e) (stores_same 0), f) }

-- ---- an operand begins

prefix_stored : (o : Outer) (x : Operator) (q : Position) → Here o → Stores (plus (constructs o) 1) (levels (opened (plus (constructs o) 1) (frame.Operator x) ∷ o.frames)) → FrameStored o.frames (frame.Operator x) → StoredStep (prefix_at o x q)
prefix_stored o x positions.Target h s k = tt
prefix_stored o x positions.Whole h s k = record { frames = pushed o (frame.Operator x) (plus (constructs o) 1) h s k; here = tt }
prefix_stored o x positions.Operand h s k = record { frames = pushed o (frame.Operator x) (plus (constructs o) 1) h s k; here = tt }

word_stored : (o : Outer) (q : ℕ) (x : Reserved) → Here o → StoredStep (begin_by_word o q x)
word_stored o q r.True h = operand_stored o expr.True h plain_true flat_true
word_stored o q r.False h = operand_stored o expr.False h plain_false flat_false
word_stored o q r.Null h = operand_stored o expr.Null h plain_null flat_null
word_stored o q r.This h = operand_stored o expr.This h plain_this flat_this
word_stored o q r.Function h = record { frames = h; here = tt }
word_stored o q r.New h = record { frames = h; here = tt }
word_stored o q r.TypeOf h = prefix_stored o (operator.Unary unary.TypeOf) (position o) h (one_more o h) tt
word_stored o q r.Await h = prefix_stored o (operator.Await q) (position o) h (one_more o h) tt
word_stored o q _ h = tt

name_stored : (o : Outer) (n : Name) (b : Bool) → Here o → StoredStep (begin_name o n b)
name_stored o n true h = record { frames = h; here = tt }
name_stored o n false h = operand_stored o (expr.Name n) h (plain_name n) (flat_name n)

template_stored : (o : Outer) (k : TemplatePart) (u : List ℕ) → Here o → StoredStep (begin_template o k u)
template_stored o part.Whole u h = operand_stored o (expr.Template [] u) h (plain_template [] u) (flat_template [] u)
template_stored o part.Head u h = record { frames = pushed o (frame.Purpose (purpose.Hole [] u)) (plus (constructs o) 1) h (one_more o h) tt; here = tt }
template_stored o part.Middle u h = tt
template_stored o part.Tail u h = tt

paren_stored : (o : Outer) (b : Bool) → Here o → StoredStep (begin_paren o b)
paren_stored o true h = record { frames = h; here = tt }
paren_stored o false h = record { frames = pushed o (frame.Purpose purpose.Group) (plus (constructs o) 1) h (one_more o h) tt; here = tt }

sign_stored : (o : Outer) (x : Punctuator) → Here o → StoredStep (begin_by_sign o x)
sign_stored o p.OpenParen h = paren_stored o (is_whole o) h
sign_stored o p.OpenBracket h = record { frames = h; here = tt }
sign_stored o p.OpenBrace h = record { frames = h; here = tt }
sign_stored o p.Not h = prefix_stored o (operator.Unary unary.Not) (position o) h (one_more o h) tt
sign_stored o p.Minus h = prefix_stored o (operator.Unary unary.Negate) (position o) h (one_more o h) tt
sign_stored o p.PlusPlus h = prefix_stored o (operator.Update update.Increment) (position o) h (one_more o h) tt
sign_stored o p.MinusMinus h = prefix_stored o (operator.Update update.Decrement) (position o) h (one_more o h) tt
sign_stored o _ h = tt

kind_stored : (o : Outer) (q : ℕ) (k : TokenKind) → Here o → StoredStep (begin_kind o q k)
kind_stored o q (tok.Name u) h = name_stored o (named q u) (is_async u) h
kind_stored o q (tok.Number v) h = operand_stored o (expr.Number v) h (plain_number v) (flat_number v)
kind_stored o q (tok.Text u) h = operand_stored o (expr.Text u) h (plain_text u) (flat_text u)
kind_stored o q (tok.Template x u) h = template_stored o x u h
kind_stored o q (tok.Reserved x) h = word_stored o q x h
kind_stored o q (tok.Punctuator s) h = sign_stored o s h
kind_stored o q tok.End h = tt
kind_stored o q (tok.Bad f) h = tt

pub begin_stored : (o : Outer) (t : Token) → Here o → StoredStep (begin o t)
begin_stored o t h = kind_stored o t.place t.kind h

-- ---- operators get their operand

-- prefix operators end: no operator is left outermost
abbrev pub Ended : Folded → Type 0
Ended (Ok v) = AllStored v.frames × (operators v.value ≡ 0) × (is_prefix (first_frame v.frames) ≡ false)
Ended (Err k) = Unit {0}

-- operators of a chain end: as many constructs are open in all
abbrev pub Joined : ℕ → Folded → Type 0
Joined n (Ok v) = AllStored v.frames × (levels v.frames + operators v.value ≡ n) × (is_prefix (first_frame v.frames) ≡ false)
Joined n (Err k) = Unit {0}

abbrev pub Kept : Folded → Type 0
Kept (Ok v) = AllStored v.frames
Kept (Err k) = Unit {0}

kept_applied : (r : Result Expr Refusal) (go : Expr → Folded) → ((x : Expr) → Kept (go x)) → Kept (applied r go)
kept_applied (Ok x) go h = h x
kept_applied (Err k) go h = tt

kept_frame : (least n : ℕ) (f : Frame) (fs : List Open) (x : Expr) (go : Expr → Folded) → AllStored (opened n f ∷ fs) → ((y : Expr) → Kept (go y)) → Kept (fold_frame least (opened n f) f fs x go)
kept_frame least n (frame.Operator o) fs x go h g = either (operator_binds least o)
  where
    either : (b : Bool) → Kept (cond b (applied (apply o x) go) (over (opened n (frame.Operator o) ∷ fs) x))
    either true = kept_applied (apply o x) go g
    either false = h
kept_frame least n _ fs x go h g = h

pub kept_fold : (least : ℕ) (fs : List Open) (x : Expr) → AllStored fs → Kept (fold least fs x)
kept_fold least [] x h = tt
kept_fold least (f ∷ fs) x h = kept_frame least f.constructs f.frame fs x (λ y. fold least fs y) h (λ y. kept_fold least fs y h.2)

kept_tail : (n : ℕ) (f : Frame) (fs : List Open) (x : Expr) (go : Expr → Over) → AllStored (opened n f ∷ fs) → ((y : Expr) → AllStored (go y).frames) → AllStored (fold_tail (opened n f) f fs x go).frames
kept_tail n (frame.Tail t) fs x go h g = g _
kept_tail n _ fs x go h g = h

pub kept_tails : (fs : List Open) (x : Expr) → AllStored fs → AllStored (fold_tails fs x).frames
kept_tails [] x h = tt
kept_tails (f ∷ fs) x h = kept_tail f.constructs f.frame fs x (λ y. fold_tails fs y) h (λ y. kept_tails fs y h.2)

abbrev Flat : Result Expr Refusal → Type 0
Flat (Ok y) = operators y ≡ 0
Flat (Err k) = Unit {0}

flat_updated : (f : Target → Expr) (r : Result Target Expr) → ((t : Target) → operators (f t) ≡ 0) → Flat (updated r f)
flat_updated f (Ok t) h = h t
flat_updated f (Err x) h = tt

ended_applied : (r : Result Expr Refusal) (go : Expr → Folded) → Flat r → ((x : Expr) → operators x ≡ 0 → Ended (go x)) → Ended (applied r go)
ended_applied (Ok x) go e h = h x e
ended_applied (Err k) go e h = tt

weak : (o : BinaryOp) → nat_le 7 (strength o) ≡ false
weak binary.Coalesce = refl
weak binary.Or = refl
weak binary.And = refl
weak binary.Identical = refl
weak binary.NotIdentical = refl
weak binary.Less = refl
weak binary.LessEqual = refl
weak binary.Greater = refl
weak binary.GreaterEqual = refl
weak binary.Add = refl
weak binary.Subtract = refl
weak binary.Multiply = refl
weak binary.Divide = refl
weak binary.Remainder = refl

ended_frame : (n : ℕ) (f : Frame) (fs : List Open) (x : Expr) (go : Expr → Folded) → AllStored (opened n f ∷ fs) → operators x ≡ 0 → ((y : Expr) → operators y ≡ 0 → Ended (go y)) → Ended (fold_frame 7 (opened n f) f fs x go)
ended_frame n (frame.Operator (operator.Binary l o)) fs x go h e g =
    subst (λ (c : Bool). Ended (cond c (applied (apply (operator.Binary l o) x) go) (over (opened n (frame.Operator (operator.Binary l o)) ∷ fs) x))) (sym (weak o)) (h, e, refl)
ended_frame n (frame.Operator (operator.Unary o)) fs x go h e g = g _ (flat_unary o x)
ended_frame n (frame.Operator (operator.Await q)) fs x go h e g = g _ (flat_await q x)
ended_frame n (frame.Operator (operator.Update o)) fs x go h e g = ended_applied (apply (operator.Update o) x) go (flat_updated (λ t. expr.Update side.Before o t) (target_of x) (λ t. flat_update side.Before o t)) g
ended_frame n (frame.Tail t) fs x go h e g = (h, e, refl)
ended_frame n (frame.Purpose w) fs x go h e g = (h, e, refl)
ended_frame n (frame.Body b) fs x go h e g = (h, e, refl)
ended_frame n (frame.Block b ss) fs x go h e g = (h, e, refl)
ended_frame n frame.Export fs x go h e g = (h, e, refl)

pub ended_fold : (fs : List Open) (x : Expr) → AllStored fs → operators x ≡ 0 → Ended (fold 7 fs x)
ended_fold [] x h e = (tt, e, refl)
ended_fold (f ∷ fs) x h e = ended_frame f.constructs f.frame fs x (λ y. fold 7 fs y) h e (λ y i. ended_fold fs y h.2 i)

sums : (n a b : ℕ) → n + (a + 1 + b) ≡ (n + (a + 1)) + b
sums n a b = omega arith

joined_frame : (least n : ℕ) (f : Frame) (fs : List Open) (x : Expr) (go : Expr → Folded) → AllStored (opened n f ∷ fs) → is_prefix (Some f) ≡ false
    → ((y : Expr) (m : ℕ) → is_prefix (first_frame fs) ≡ false → levels fs + operators y ≡ m → Joined m (go y)) → Joined (levels (opened n f ∷ fs) + operators x) (fold_frame least (opened n f) f fs x go)
joined_frame least n (frame.Operator (operator.Binary l o)) fs x go h e g = either (nat_le least (strength o))
  where
    either : (b : Bool) → Joined (operand_at (levels fs) l + operators x) (cond b (applied (apply (operator.Binary l o) x) go) (over (opened n (frame.Operator (operator.Binary l o)) ∷ fs) x))
    either true = g (expr.Binary o l x) _ h.1 (ap (λ (k : ℕ). levels fs + k) (operators_binary o l x) ∙ sums (levels fs) (operators l) (operators x))
    either false = (h, refl, refl)
joined_frame least n (frame.Operator (operator.Unary o)) fs x go h e g = absurd (false≢true (sym e))
joined_frame least n (frame.Operator (operator.Await q)) fs x go h e g = absurd (false≢true (sym e))
joined_frame least n (frame.Operator (operator.Update o)) fs x go h e g = absurd (false≢true (sym e))
joined_frame least n (frame.Tail t) fs x go h e g = (h, refl, refl)
joined_frame least n (frame.Purpose w) fs x go h e g = (h, refl, refl)
joined_frame least n (frame.Body b) fs x go h e g = (h, refl, refl)
joined_frame least n (frame.Block b ss) fs x go h e g = (h, refl, refl)
joined_frame least n frame.Export fs x go h e g = (h, refl, refl)

pub joined_fold : (least : ℕ) (fs : List Open) (x : Expr) (m : ℕ) → AllStored fs → is_prefix (first_frame fs) ≡ false → levels fs + operators x ≡ m → Joined m (fold least fs x)
joined_fold least [] x m h e i = (tt, i, refl)
joined_fold least (f ∷ fs) x m h e i = subst (λ (k : ℕ). Joined k (fold least (f ∷ fs) x)) i (joined_frame least f.constructs f.frame fs x (λ y. fold least fs y) h e (λ y k j q. joined_fold least fs y k h.2 j q))
