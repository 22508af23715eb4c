-- What is known of each state that is reached.
use Rattle.std.proofs.Common.{◌≡◌, ℕ, Bool, true, false, cond, List, [], ◌∷◌, Option, Some, None, Ok, Err, refl, sym, subst}
use Rattle.std.specs.Prelude.{◌&&◌}
use Rattle.std.proofs.lemmas.Bool.{false≢true}
use Rattle.js_lex.specs.declared.token.Punctuator.TheVariants as p
use Rattle.js_lex.specs.declared.token.TokenKind.TheVariants as tok
use Rattle.js_lex.specs.declared.token.Token.{Token}
use Rattle.js_tree.specs.declared.tree.DeclareKind.{DeclareKind}
use Rattle.js_tree.specs.declared.tree.DeclareKind.TheVariants as declare
use Rattle.js_tree.specs.declared.tree.Expr.{Expr}
use Rattle.js_tree.specs.declared.tree.Expr.TheVariants as expr
use Rattle.js_tree.specs.declared.tree.Name.{Name}
use Rattle.js_tree.specs.declared.tree.Property.{Property}
use Rattle.js_tree.specs.declared.tree.Stmt.{Stmt}
use Rattle.js_tree.specs.declared.tree.Stmt.TheVariants as stmt
use Rattle.js_words.specs.declared.word.Spot.TheVariants as spot
use Rattle.js_parse_core.specs.declared.machine.At.{At}
use Rattle.js_parse_core.specs.declared.machine.At.TheVariants as at
use Rattle.js_parse_core.specs.declared.machine.Cover.{Cover}
use Rattle.js_parse_core.specs.declared.machine.Cover.TheVariants as covers
use Rattle.js_parse_core.specs.declared.machine.Declared.{Declared}
use Rattle.js_parse_core.specs.declared.machine.Frame.TheVariants as frame
use Rattle.js_parse_core.specs.declared.machine.Outer.{Outer}
use Rattle.js_parse_core.specs.declared.machine.Purpose.TheVariants as purpose
use Rattle.js_parse_core.specs.declared.machine.Body.TheVariants as body
use Rattle.js_parse_core.specs.declared.machine.Tail.TheVariants as tail
use Rattle.js_parse_core.specs.declared.machine.Refusal.{Refusal}
use Rattle.js_parse_core.specs.declared.machine.Refusal.TheVariants as refusal
use Rattle.js_parse_core.specs.declared.machine.State.{State}
use Rattle.std.specs.Prelude.{nat_le}
use Rattle.js_parse_core.specs.declared.machine.Block.{Block}
use Rattle.js_parse_core.specs.declared.machine.Block.TheVariants as block
use Rattle.js_parse_core.specs.declared.machine.Frame.{Frame}
use Rattle.js_parse_core.specs.declared.machine.Head.TheVariants as head
use Rattle.js_parse_core.specs.declared.machine.Open.{Open}
use Rattle.js_parse_core.specs.declared.machine.Purpose.{Purpose}
use Rattle.js_parse_core.specs.Begin.{begin}
use Rattle.js_parse_core.specs.Expressions as ex
use Rattle.js_parse_core.specs.Objects.{close_object, is_export, export}
use Rattle.js_parse_core.specs.Outer.{Step, refuse_at, opened, framed, without, innermost, push, to, complete_in, complete_frame, settle, constructs, begins_statement}
use Rattle.js_parse_core.specs.Statements as st
use Rattle.js_parse_core.specs.Tokens.{is_async}
use Rattle.js_parse_core.specs.Values.{Over, Folded, fold, fold_tails, on_value, on_initial_done, on_over, on_folded, after_whole}
use Rattle.js_parse_core.proofs.Accepts.{machine}
use Rattle.js_parse_core.proofs.CameSteps.{is_key}
use Rattle.js_parse_core.proofs.Known.{Known}
use Rattle.js_parse_core.proofs.KnownPlaces as kp
use Rattle.js_parse_core.proofs.KnownPlaces.{place}
use Rattle.js_parse_core.proofs.KnownStatements.{known_after_then, known_after_catch, known_jump, known_return, known_name_declared}
use Rattle.js_parse_core.proofs.KnownValues.{known_operand, known_updated, known_whole, known_async, known_covered, known_cover_name, known_arrow_body, known_property_end}
use Rattle.js_parse_core.proofs.OpenStates.{IsOpen}
use Rattle.js_parse_core.proofs.Pieces.{no_limit}
use Rattle.js_parse_core.proofs.Says.{tk}

-- ---- the last token is `}` or not

abbrev pub BraceFits : Bool → At → Type 0
BraceFits brace at.Statement = Unit {0}
BraceFits brace (at.Operand x n) = Unit {0}
BraceFits brace (at.Whole x) = brace ≡ true
BraceFits brace (at.AfterThen test s) = Unit {0}
BraceFits brace (at.AfterTry ss) = Unit {0}
BraceFits brace (at.AfterCatch ss c) = Unit {0}
BraceFits brace at.AfterExport = Unit {0}
BraceFits brace (at.PropertyEnd xs) = Unit {0}
BraceFits brace _ = brace ≡ false

abbrev pub is_throw : At → Bool
is_throw at.Throw = true
is_throw _ = false

-- an operand does not begin right at a statement's begin
abbrev pub BeginKept : Outer → At → Type 0
BeginKept o at.Begin = begins_statement o ≡ false
BeginKept o _ = Unit {0}

plain : (keyed thrown brace : Bool) (f : Token → Step) → brace ≡ false → Known false keyed thrown f → Known brace keyed thrown f
plain keyed thrown brace f e k = subst (λ (b : Bool). Known b keyed thrown f) (sym e) k

abbrev OpenAt : Outer → At → Type 0
OpenAt o a = IsOpen (record { outer = o; at = a })

known_at : (brace : Bool) (o : Outer) (a : At) → OpenAt o a → nat_le no_limit (constructs o) ≡ false → BeginKept o a → BraceFits brace a → Known brace (is_key a) (is_throw a) (place o a)
known_at brace o at.Statement h low c e = kp.known_statement brace o
known_at brace o at.Begin h low c e = plain _ _ brace _ e (kp.known_begin o c)
known_at brace o (at.Operand x n) h low c e = known_operand brace o x n (h.here, h.below)
known_at brace o (at.Updated x) h low c e = plain _ _ brace _ e (known_updated o x (h.here, h.below))
known_at brace o (at.Whole x) h low c e = subst (λ (b : Bool). Known b false false (place o (at.Whole x))) (sym e) (known_whole o x (h.here, h.below))
known_at brace o (at.Async n) h low c e = plain _ _ brace _ e (known_async o n (h.here, h.below))
known_at brace o (at.CoverOpen w ns) h low c e = plain _ _ brace _ e (kp.known_cover_open o w ns)
known_at brace o (at.CoverName w ns n) h low c e = plain _ _ brace _ e (known_cover_name o w ns n (h.here, h.below))
known_at brace o (at.Covered w ns d) h low c e = plain _ _ brace _ e (known_covered o w ns d (h.here, h.below))
known_at brace o (at.Arrow a ns) h low c e = plain _ _ brace _ e (kp.known_arrow o a ns)
known_at brace o (at.ArrowBody a ns) h low c e = plain _ _ brace _ e (known_arrow_body o a ns low)
known_at brace o at.NewName h low c e = plain _ _ brace _ e (kp.known_new_name o)
known_at brace o (at.NewOpen n) h low c e = plain _ _ brace _ e (kp.known_new_open o n)
known_at brace o (at.MemberName x n) h low c e = plain _ _ brace _ e (kp.known_member_name o x n)
known_at brace o (at.NextArgument w xs) h low c e = plain _ _ brace _ e (kp.known_argument o w xs)
known_at brace o (at.NextElement xs) h low c e = plain _ _ brace _ e (kp.known_element o xs)
known_at brace o (at.Key xs) h low c e = plain _ _ brace _ e (kp.known_key o xs)
known_at brace o (at.NameKey xs n) h low c e = plain _ _ brace _ e (kp.known_name_key o xs n)
known_at brace o (at.OtherKey xs n) h low c e = plain _ _ brace _ e (kp.known_other_key o xs n)
known_at brace o (at.AsyncKey xs n) h low c e = plain _ _ brace _ e (kp.known_async_key o xs n)
known_at brace o (at.AsyncMethod xs n) h low c e = plain _ _ brace _ e (kp.known_async_method o xs n)
known_at brace o (at.PropertyEnd xs) h low c e = known_property_end brace o xs
known_at brace o (at.FunctionName d a) h low c e = plain _ _ brace _ e (kp.known_function_name o d a)
known_at brace o (at.ParametersOpen w) h low c e = plain _ _ brace _ e (kp.known_parameters_open o w)
known_at brace o (at.Parameters w ns) h low c e = plain _ _ brace _ e (kp.known_parameters o w ns)
known_at brace o (at.ParameterRead w ns n) h low c e = plain _ _ brace _ e (kp.known_parameter_read o w ns n)
known_at brace o (at.BodyOpen w ns) h low c e = plain _ _ brace _ e (kp.known_body_open o w ns)
known_at brace o (at.DeclaredName d) h low c e = plain _ _ brace _ e (kp.known_declared_name o d)
known_at brace o (at.NameDeclared d n) h low c e = plain _ _ brace _ e (known_name_declared o d n (h.here, h.below))
known_at brace o (at.Opening x) h low c e = plain _ _ brace _ e (kp.known_opening o x)
known_at brace o at.ForHead h low c e = plain _ _ brace _ e (kp.known_for_head o)
known_at brace o (at.ForTest b) h low c e = plain _ _ brace _ e (kp.known_for_test o b)
known_at brace o (at.ForUpdate b test) h low c e = plain _ _ brace _ e (kp.known_for_update o b test)
known_at brace o (at.AfterThen test s) h low c e = known_after_then brace o test s (h.here, h.below)
known_at brace o (at.Jump s) h low c e = plain _ _ brace _ e (known_jump o s (h.here, h.below))
known_at brace o (at.Return q) h low c e = plain _ _ brace _ e (known_return o q (h.here, h.below))
known_at brace o at.Throw h low c e = plain _ _ brace _ e (kp.known_throw o)
known_at brace o at.TryOpen h low c e = plain _ _ brace _ e (kp.known_try_open o)
known_at brace o (at.AfterTry ss) h low c e = kp.known_after_try brace o ss
known_at brace o (at.CatchOpen ss) h low c e = plain _ _ brace _ e (kp.known_catch_open o ss)
known_at brace o (at.CatchName ss) h low c e = plain _ _ brace _ e (kp.known_catch_name o ss)
known_at brace o (at.CatchClose ss n) h low c e = plain _ _ brace _ e (kp.known_catch_close o ss n)
known_at brace o (at.CatchBody ss n) h low c e = plain _ _ brace _ e (kp.known_catch_body o ss n)
known_at brace o (at.AfterCatch ss w) h low c e = known_after_catch brace o ss w (h.here, h.below)
known_at brace o (at.FinallyOpen ss w) h low c e = plain _ _ brace _ e (kp.known_finally_open o ss w)
known_at brace o at.ExportDefault h low c e = plain _ _ brace _ e (kp.known_export_default o)
known_at brace o at.ExportObject h low c e = plain _ _ brace _ e (kp.known_export_object o)
known_at brace o at.AfterExport h low c e = kp.known_after_export brace o

-- The counts stand low, and the last token is `}` or not.
pub known : (brace : Bool) (s : State) → IsOpen s → nat_le no_limit (constructs s.outer) ≡ false → BeginKept s.outer s.at → BraceFits brace s.at → Known brace (is_key s.at) (is_throw s.at) (machine s)
known brace s h low c e = known_at brace s.outer s.at h low c e

-- ---- where a `}` leads

abbrev pub BraceAt : At → Type 0
BraceAt at.Statement = Unit {0}
BraceAt (at.Operand x n) = Unit {0}
BraceAt (at.Whole x) = Unit {0}
BraceAt (at.AfterThen test s) = Unit {0}
BraceAt (at.AfterTry ss) = Unit {0}
BraceAt (at.AfterCatch ss c) = Unit {0}
BraceAt at.AfterExport = Unit {0}
BraceAt (at.PropertyEnd xs) = Unit {0}
BraceAt _ = ⊥

abbrev BraceStep : Step → Type 0
BraceStep (Ok n) = BraceAt n.at
BraceStep (Err k) = Unit {0}

abbrev brace_token : ℕ → Bool → Token
brace_token q l = tk q l (tok.Punctuator p.CloseBrace)

brace_cond : (b : Bool) (x y : Step) → BraceStep x → BraceStep y → BraceStep (cond b x y)
brace_cond true x y h i = h
brace_cond false x y h i = i

brace_complete : (o : Outer) (fs : List Open) (s : Stmt) → BraceStep (complete_in o fs s)
brace_complete o [] s = tt
brace_complete o (f ∷ fs) s = go f.frame (λ u. brace_complete o fs u)
  where
    go : (k : Frame) → ((u : Stmt) → BraceStep (complete_in o fs u)) → BraceStep (complete_frame (framed o fs) f.constructs k s (λ u. complete_in o fs u))
    go (frame.Block b ss) c = tt
    go (frame.Body (body.Then test)) c = tt
    go (frame.Body (body.Else test a)) c = c _
    go (frame.Body (body.For b test u)) c = c _
    go (frame.Body (body.ForOf k n x)) c = c _
    go (frame.Body (body.While test)) c = c _
    go _ c = tt

brace_close : (o : Outer) (b : Block) (ss : List Stmt) → BraceStep (st.close o b ss)
brace_close o block.Plain ss = brace_complete o o.frames _
brace_close o (block.Function (head.Declaration a n) ns) ss = brace_complete o o.frames _
brace_close o (block.Function (head.Expression a n) ns) ss = tt
brace_close o (block.Function (head.Method a xs k) ns) ss = tt
brace_close o (block.Arrow a ns) ss = tt
brace_close o block.Try ss = tt
brace_close o (block.Catch tried n) ss = tt
brace_close o (block.Finally tried c) ss = brace_complete o o.frames _

brace_frame : (o : Outer) (f : Option Frame) → BraceStep (st.close_frame o f)
brace_frame o (Some (frame.Block b ss)) = brace_close o b ss
brace_frame o _ = tt

brace_statement : (o : Outer) (q : ℕ) (l : Bool) → BraceStep (st.on_statement o (brace_token q l))
brace_statement o q l = brace_frame (without o) (innermost o)

brace_behind : (made : Step) (q : ℕ) (l : Bool) → BraceStep (st.statement_behind made (brace_token q l))
brace_behind (Ok n) q l = brace_statement n.outer q l
brace_behind (Err k) q l = tt

brace_end_by : (made : Step) (k : Refusal) → BraceStep made → BraceStep (st.behind_end made k)
brace_end_by (Ok n) k h = h
brace_end_by (Err (refusal.Token a)) k h = tt
brace_end_by (Err refusal.Plain) k h = tt
brace_end_by (Err refusal.Nesting) k h = tt
brace_end_by (Err refusal.NestingBefore) k h = tt

brace_end : (o : Outer) (s : Stmt) (q : ℕ) (l : Bool) (k : Refusal) → BraceStep (st.end true o s (brace_token q l) k)
brace_end o s q true k = brace_end_by (st.resume o s (brace_token q true)) k (brace_behind (settle o s) q true)
brace_end o s q false k = brace_end_by (st.resume o s (brace_token q false)) k (brace_behind (settle o s) q false)

brace_object : (o : Outer) (xs : List Property) → BraceStep (close_object o xs)
brace_object o xs = brace_cond (is_export (innermost o)) (export (without o) xs) (to o (at.Operand (expr.Object xs) 0)) tt tt

brace_initial : (o : Outer) (d : Declared) (q : ℕ) (l : Bool) (b : Bool) → BraceStep (on_initial_done true o d (brace_token q l) b)
brace_initial o d q l false = brace_end o _ q l _
brace_initial o d q l true = tt

brace_value : (o : Outer) (w : Purpose) (x : Expr) (q : ℕ) (l : Bool) → BraceStep (on_value true o w x (brace_token q l))
brace_value o (purpose.Then test) x q l = tt
brace_value o purpose.Group x q l = tt
brace_value o (purpose.Argument c xs) x q l = tt
brace_value o (purpose.Index y n) x q l = tt
brace_value o (purpose.Element xs) x q l = tt
brace_value o (purpose.Pair xs k) x q l = brace_object o _
brace_value o (purpose.Hole is u) x q l = tt
brace_value o purpose.If x q l = tt
brace_value o purpose.While x q l = tt
brace_value o (purpose.ForOf k n) x q l = tt
brace_value o (purpose.ForUpdate b test) x q l = tt
brace_value o purpose.ForStart x q l = tt
brace_value o (purpose.ForTest b) x q l = tt
brace_value o purpose.Statement x q l = brace_end o _ q l _
brace_value o (purpose.Initial d n) x q l = brace_initial o (st.with_declaration d n (Some x)) q l d.in_for
brace_value o (purpose.Return r) x q l = brace_end o _ q l _
brace_value o purpose.Throw x q l = brace_end o _ q l _

brace_over : (o : Outer) (v : Over) (q : ℕ) (l : Bool) → BraceStep (on_over true o (brace_token q l) v)
brace_over o v q l = go v.frames
  where
    by_frame : (n : ℕ) (k : Frame) (fs : List Open) → BraceStep (on_over true o (brace_token q l) (record { frames = opened n k ∷ fs; value = v.value }))
    by_frame n (frame.Purpose w) fs = brace_value (framed o fs) w v.value q l
    by_frame n _ fs = tt

    go : (fs : List Open) → BraceStep (on_over true o (brace_token q l) (record { frames = fs; value = v.value }))
    go [] = tt
    go (f ∷ fs) = by_frame f.constructs f.frame fs

brace_folded : (o : Outer) (q : ℕ) (l : Bool) (v : Folded) → BraceStep (on_folded true o (brace_token q l) v)
brace_folded o q l (Ok v) = brace_over o (fold_tails v.frames v.value) q l
brace_folded o q l (Err k) = tt

brace_whole : (o : Outer) (x : Expr) (q : ℕ) (l : Bool) → BraceStep (after_whole true o x (brace_token q l))
brace_whole o x q l = brace_folded o q l (fold 0 o.frames x)

brace_async : (o : Outer) (n : Name) (q : ℕ) (l : Bool) → BraceStep (ex.after_async true o n (brace_token q l))
brace_async o n q true = brace_whole o (expr.Name n) q true
brace_async o n q false = brace_whole o (expr.Name n) q false

brace_name : (o : Outer) (n : Name) (q : ℕ) (l : Bool) → BraceStep (ex.after_name true o n (brace_token q l))
brace_name o n q l = brace_cond (is_async n.units) (ex.after_async true o n (brace_token q l)) (ex.after_operand true o (expr.Name n) 0 (brace_token q l)) (brace_async o n q l) (brace_whole o (expr.Name n) q l)

brace_cover : (o : Outer) (c : Cover) (ns : List Name) (n : Name) (q : ℕ) (l : Bool) → BraceStep (ex.on_cover_name true o c ns n (brace_token q l))
brace_cover o c ns n q l = brace_cond (ex.may_be_values c ns) (ex.after_name true (ex.uncover o c ns) n (brace_token q l)) (refuse_at spot.Parameter) (brace_name (ex.uncover o c ns) n q l) tt

brace_group : (o : Outer) (n : Option Name) (q : ℕ) (l : Bool) → BraceStep (ex.group_of true o (brace_token q l) n)
brace_group o (Some n) q l = brace_whole o (expr.Group (expr.Name n)) q l
brace_group o None q l = tt

brace_covered : (o : Outer) (c : Cover) (ns : List Name) (b : Bool) (q : ℕ) (l : Bool) → BraceStep (ex.covered_value true o c ns b (brace_token q l))
brace_covered o (covers.Async n) ns b q l = brace_whole o (expr.Call (expr.Name n) (ex.as_values ns)) q l
brace_covered o covers.Plain ns true q l = brace_group o (ex.only_name ns) q l
brace_covered o covers.Plain ns false q l = tt

brace_cover_open : (o : Outer) (c : Cover) (ns : List Name) (q : ℕ) (l : Bool) → BraceStep (ex.on_cover_open o c ns (brace_token q l))
brace_cover_open o c ns q l = brace_cond (ex.may_be_values c ns) (begin (ex.uncover o c ns) (brace_token q l)) (refuse_at spot.Parameter) tt tt

brace_arrow : (b : Bool) (o : Outer) (q : ℕ) (l : Bool) → BraceStep (ex.arrow_value b (begin o (brace_token q l)))
brace_arrow true o q l = tt
brace_arrow false o q l = tt

brace_named : (o : Outer) (d : Declared) (k : DeclareKind) (b : Bool) (q : ℕ) (l : Bool) → BraceStep (st.declared_in true o d (brace_token q l) b)
brace_named o d k true q l = tt
brace_named o d k false q l = brace_end o _ q l _

and_none : (a b : Bool) → (a && (b && false)) ≡ false
and_none true true = refl
and_none true false = refl
and_none false b = refl

brace_declared : (o : Outer) (d : Declared) (n : Name) (k : DeclareKind) (q : ℕ) (l : Bool) → BraceStep (st.without_value true o d n (brace_token q l) k)
brace_declared o d n declare.Let q l = brace_named o (st.with_declaration d n None) declare.Let d.in_for q l
brace_declared o d n declare.Const q l = tt

brace_skip : (b : Bool) (x y : Step) → b ≡ false → BraceStep y → BraceStep (cond b x y)
brace_skip true x y e h = absurd (false≢true (sym e))
brace_skip false x y e h = h

brace_async_key : (o : Outer) (xs : List Property) (n : Name) (q : ℕ) (l : Bool) → BraceStep (place o (at.AsyncKey xs n) (brace_token q l))
brace_async_key o xs n q true = brace_object o _
brace_async_key o xs n q false = brace_object o _

brace_return : (o : Outer) (r : ℕ) (q : ℕ) (l : Bool) → BraceStep (place o (at.Return r) (brace_token q l))
brace_return o r q true = brace_end o _ q true _
brace_return o r q false = brace_end o _ q false _

brace_throw : (o : Outer) (q : ℕ) (l : Bool) → BraceStep (place o at.Throw (brace_token q l))
brace_throw o q true = tt
brace_throw o q false = tt

brace_at : (o : Outer) (a : At) (q : ℕ) (l : Bool) → BraceStep (place o a (brace_token q l))
brace_at o at.Statement q l = brace_statement o q l
brace_at o at.Begin q l = tt
brace_at o (at.Operand x n) q l = brace_whole o x q l
brace_at o (at.Updated x) q l = brace_whole o x q l
brace_at o (at.Whole x) q l = brace_whole o x q l
brace_at o (at.Async n) q l = brace_async o n q l
brace_at o (at.CoverOpen w ns) q l = brace_cover_open o w ns q l
brace_at o (at.CoverName w ns n) q l = brace_cover o w ns n q l
brace_at o (at.Covered w ns d) q l = brace_covered o w ns d q l
brace_at o (at.Arrow a ns) q l = tt
brace_at o (at.ArrowBody a ns) q l = brace_arrow (nat_le no_limit (constructs o)) (push o 1 (frame.Tail (tail.Arrow a ns))) q l
brace_at o at.NewName q l = tt
brace_at o (at.NewOpen n) q l = tt
brace_at o (at.MemberName x n) q l = tt
brace_at o (at.NextArgument w xs) q l = tt
brace_at o (at.NextElement xs) q l = tt
brace_at o (at.Key xs) q l = brace_object o xs
brace_at o (at.NameKey xs n) q l = brace_object o _
brace_at o (at.OtherKey xs n) q l = tt
brace_at o (at.AsyncKey xs n) q l = brace_async_key o xs n q l
brace_at o (at.AsyncMethod xs n) q l = tt
brace_at o (at.PropertyEnd xs) q l = brace_object o xs
brace_at o (at.FunctionName d a) q l = tt
brace_at o (at.ParametersOpen w) q l = tt
brace_at o (at.Parameters w ns) q l = tt
brace_at o (at.ParameterRead w ns n) q l = tt
brace_at o (at.BodyOpen w ns) q l = tt
brace_at o (at.DeclaredName d) q l = tt
brace_at o (at.NameDeclared d n) q l = brace_skip (d.in_for && (st.is_first d.declarations && false)) _ _ (and_none d.in_for (st.is_first d.declarations)) (brace_declared o d n d.kind q l)
brace_at o (at.Opening x) q l = tt
brace_at o at.ForHead q l = tt
brace_at o (at.ForTest b) q l = tt
brace_at o (at.ForUpdate b test) q l = tt
brace_at o (at.AfterThen test s) q l = brace_behind (settle o (stmt.If test s None)) q l
brace_at o (at.Jump s) q l = brace_end o s q l _
brace_at o (at.Return r) q l = brace_return o r q l
brace_at o at.Throw q l = brace_throw o q l
brace_at o at.TryOpen q l = tt
brace_at o (at.AfterTry ss) q l = tt
brace_at o (at.CatchOpen ss) q l = tt
brace_at o (at.CatchName ss) q l = tt
brace_at o (at.CatchClose ss n) q l = tt
brace_at o (at.CatchBody ss n) q l = tt
brace_at o (at.AfterCatch ss w) q l = brace_behind (settle o (stmt.Try ss (Some w) None)) q l
brace_at o (at.FinallyOpen ss w) q l = tt
brace_at o at.ExportDefault q l = tt
brace_at o at.ExportObject q l = tt
brace_at o at.AfterExport q l = brace_statement o q l

pub brace_leads : (s : State) (q : ℕ) (l : Bool) (n : State) → machine s (brace_token q l) ≡ Ok n → BraceAt n.at
brace_leads s q l n e = subst BraceStep e (brace_at s.outer s.at q l)
