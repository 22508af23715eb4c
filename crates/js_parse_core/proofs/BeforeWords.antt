-- The word of a token that is refused, by the token before it.
use Rattle.std.proofs.Common.{◌≡◌, ℕ, Bool, true, false, cond, List, [], ◌∷◌, ◌⊎◌, Option, Some, None, Ok, Err, refl, sym, ap, ◌∙◌, subst, inl, inr}
use Rattle.std.specs.Prelude.{◌&&◌, codes}
use Rattle.std.proofs.lemmas.Bool.{false≢true}
use Rattle.std.proofs.lemmas.Slice.Eq.{bytes_eq-Decides}
use Rattle.js_lex.specs.declared.token.Punctuator.{Punctuator}
use Rattle.js_lex.specs.declared.token.Punctuator.TheVariants as p
use Rattle.js_lex.specs.declared.token.Reserved.{Reserved}
use Rattle.js_lex.specs.declared.token.Reserved.TheVariants as r
use Rattle.js_lex.specs.declared.token.TokenKind.{TokenKind}
use Rattle.js_lex.specs.declared.token.TokenKind.TheVariants as tok
use Rattle.js_lex.specs.declared.token.Token.{Token}
use Rattle.js_tree.specs.Targets.{Node}
use Rattle.js_tree.specs.declared.tree.ArrowBody.TheOpen.{Expr-F}
use Rattle.js_tree.specs.declared.tree.Expr.{Expr, out-Expr}
use Rattle.js_tree.specs.declared.tree.Expr.TheVariants as expr
use Rattle.js_tree.specs.declared.tree.Key.{Key}
use Rattle.js_tree.specs.declared.tree.Key.TheVariants as key_of
use Rattle.js_tree.specs.declared.tree.Name.{Name}
use Rattle.js_tree.specs.declared.tree.Property.{Property}
use Rattle.js_tree.specs.declared.tree.Stmt.{Stmt}
use Rattle.js_tree.specs.declared.tree.Stmt.TheVariants as stmt
use Rattle.js_words.specs.declared.word.Spot.{Spot}
use Rattle.js_words.specs.declared.word.Spot.TheVariants as spot
use Rattle.js_words.specs.declared.word.Word.{Word}
use Rattle.js_words.specs.declared.word.Word.TheVariants as w
use Rattle.js_words.specs.Words.{word_before, accessor, begins_key, is_colon, reserved_word, begin_word}
use Rattle.js_parse_core.specs.declared.machine.Asked.{Asked}
use Rattle.js_parse_core.specs.declared.machine.At.{At}
use Rattle.js_parse_core.specs.declared.machine.At.TheVariants as at
use Rattle.js_parse_core.specs.declared.machine.Frame.{Frame}
use Rattle.js_parse_core.specs.declared.machine.Frame.TheVariants as frame
use Rattle.js_parse_core.specs.declared.machine.Open.{Open}
use Rattle.js_parse_core.specs.declared.machine.Outer.{Outer}
use Rattle.js_parse_core.specs.declared.machine.Purpose.TheVariants as purpose
use Rattle.js_parse_core.specs.declared.machine.Refusal.TheVariants as refusal
use Rattle.js_parse_core.specs.declared.machine.State.{State}
use Rattle.js_parse_core.specs.Objects.{on_key_name, on_name_key, on_other_key, on_async_name, on_async_found, close_object, is_export, export, key}
use Rattle.js_parse_core.specs.Outer.{Step, opened, framed, first_frame, is_statement, begins_statement, settle_in, to, innermost, without}
use Rattle.js_parse_core.specs.Tokens.{is_async, is_comma, is_close_brace, is_open_bracket, name}
use Rattle.js_parse_core.specs.Told.{or_else}
use Rattle.js_parse_core.specs.Values.{label_before, after_whole}
use Rattle.js_parse_core.proofs.Accepts.{stands, pairs, machine}
use Rattle.js_parse_core.proofs.Came.{Loud, Quiet, Label, KeyAsked, Throws, is_name, label_of, bare_label, Landed, Lands, BeforeCalm}
use Rattle.js_parse_core.proofs.CameSteps.{is_key, is_some, loud_at, loud, Kept, came}
use Rattle.js_parse_core.proofs.Known.{Known}
use Rattle.js_parse_core.proofs.KnownPlaces.{place}
use Rattle.js_parse_core.proofs.OpenStates.{IsOpen, Operands, Statements}
use Rattle.js_parse_core.proofs.Pieces.{no_limit}
use Rattle.js_parse_core.proofs.RefusedWords.{asked_in}
use Rattle.js_parse_core.proofs.Says.{tk, NameLaw, is_label}
use Rattle.js_parse_core.proofs.Standing.{Good, landed}
use Rattle.js_parse_core.proofs.ValueWords.{Fits, settled, end_by}

-- a label, and no other word
abbrev pub only_label : Option Word → Option Word
only_label (Some w.Label) = Some w.Label
only_label _ = None

-- what the token t' before t is told as: a statement begins with it, or it is a key
abbrev pub before_word : Bool → Bool → TokenKind → Token → Option Word
before_word begins keyed k t = or_else (cond begins (only_label (word_before spot.StatementBegin k (Some t))) None) (cond keyed (word_before spot.Key k (Some t)) None)

-- ---- what is asked of the token before

abbrev BeforeIs : Option Spot → Step → Type 0
BeforeIs b (Err (refusal.Token a)) = a.before ≡ b
BeforeIs b _ = Unit {0}

before_cond : (b : Option Spot) (c : Bool) (x y : Step) → BeforeIs b x → BeforeIs b y → BeforeIs b (cond c x y)
before_cond b true x y h i = h
before_cond b false x y h i = i

other_before : (o : Outer) (xs : List Property) (n : Key) (k : TokenKind) → BeforeIs (Some spot.Key) (on_other_key o xs n k)
other_before o xs n (tok.Punctuator p.Colon) = tt
other_before o xs n (tok.Punctuator p.OpenParen) = tt
other_before o xs n _ = refl

close_before : (b : Option Spot) (o : Outer) (xs : List Property) → BeforeIs b (close_object o xs)
close_before b o xs = before_cond b (is_export (innermost o)) (export (without o) xs) (to o (at.Operand (expr.Object xs) 0)) tt tt

name_before_is : (o : Outer) (xs : List Property) (n : Name) (k : TokenKind) → BeforeIs (Some spot.Key) (on_name_key o xs n k)
name_before_is o xs n k = before_cond (Some spot.Key) (is_comma k) _ _ tt (before_cond (Some spot.Key) (is_close_brace k) _ _ (close_before (Some spot.Key) o _) (other_before o xs (key_of.Name n) k))

-- `async` as a key
abbrev MayKey : Step → Type 0
MayKey (Err (refusal.Token a)) = (a.before ≡ None) ⊎ (a.before ≡ Some spot.Key)
MayKey _ = Unit {0}

may_key : (made : Step) → BeforeIs (Some spot.Key) made → MayKey made
may_key (Err (refusal.Token a)) h = inr h
may_key (Err refusal.Plain) h = tt
may_key (Err refusal.Nesting) h = tt
may_key (Err refusal.NestingBefore) h = tt
may_key (Ok n) h = tt

async_name_key : (o : Outer) (xs : List Property) (n : Name) (b : Bool) (x y : Step) → MayKey x → MayKey y → MayKey (cond b x y)
async_name_key o xs n true x y h i = h
async_name_key o xs n false x y h i = i

async_name : (o : Outer) (xs : List Property) (n : Name) (k : TokenKind) → MayKey (on_async_name o xs n k)
async_name o xs n k = async_name_key o xs n (is_open_bracket k) _ _ (inl refl) (may_key (on_name_key o xs n k) (name_before_is o xs n k))

async_found : (o : Outer) (xs : List Property) (n : Name) (k : TokenKind) (f : Option Key) → MayKey (on_async_found o xs n k f)
async_found o xs n k (Some f) = tt
async_found o xs n k None = async_name o xs n k

async_key : (o : Outer) (xs : List Property) (n : Name) (t : Token) → MayKey (place o (at.AsyncKey xs n) t)
async_key o xs n t = async_name_key o xs n t.after_line_end _ _ (async_name o xs n t.kind) (async_found o xs n t.kind (key t.place t.kind))

-- ---- `:` behind a statement's first name

abbrev colon_token : ℕ → Bool → Token
colon_token q l = tk q l (tok.Punctuator p.Colon)

end_colon : (n : State) (o : Outer) (s : Stmt) (b : Option Spot) (q : ℕ) (l : Bool) → BeforeIs b (end_by (Ok n) o s b (Some spot.OperandEnd) (colon_token q l))
end_colon n o s b q true = refl
end_colon n o s b q false = refl

statement_colon : (o : Outer) (x : Expr) (q : ℕ) (l : Bool) → Fits Statements o.frames → BeforeIs (label_of x) (end_by (settle_in o o.frames (stmt.Expr x)) o (stmt.Expr x) (label_of x) (Some spot.OperandEnd) (colon_token q l))
statement_colon o x q l h =
    let y : (n : State) × (settle_in o o.frames (stmt.Expr x) ≡ Ok n) = settled o o.frames (stmt.Expr x) h in
    subst (λ (made : Step). BeforeIs (label_of x) (end_by made o (stmt.Expr x) (label_of x) (Some spot.OperandEnd) (colon_token q l))) (sym y.1) (end_colon y.0 o (stmt.Expr x) (label_of x) q l)

whole_colon : (o : Outer) (fs : List Open) (x : Expr) (q : ℕ) (l : Bool) → is_statement (first_frame fs) ≡ true → Fits Operands fs → BeforeIs (label_of x) (after_whole true (framed o fs) x (colon_token q l))
whole_colon o [] x q l e h = absurd (false≢true e)
whole_colon o (f ∷ fs) x q l e h = go f.frame e h
  where
    go : (k : Frame) → is_statement (Some k) ≡ true → Fits Operands (opened f.constructs k ∷ fs) → BeforeIs (label_of x) (after_whole true (framed o (opened f.constructs k ∷ fs)) x (colon_token q l))
    go (frame.Purpose purpose.Statement) e i = statement_colon (framed o fs) x q l i.1
    go (frame.Purpose _) e i = absurd (false≢true e)
    go (frame.Operator w) e i = absurd (false≢true e)
    go (frame.Tail t) e i = absurd (false≢true e)
    go (frame.Body b) e i = absurd (false≢true e)
    go (frame.Block b ss) e i = absurd (false≢true e)
    go frame.Export e i = absurd (false≢true e)

label_some : (x : Expr) → is_some (label_of x) ≡ true → label_of x ≡ Some spot.StatementBegin
label_some x e = go (out-Expr x) e
  where
    go : (n : Node) → is_some (label_before n) ≡ true → label_before n ≡ Some spot.StatementBegin
    go (Expr-F.Name n) i = refl
    go _ i = absurd (false≢true i)

both_true : (a b : Bool) → cond (a && b) Label Quiet ≡ Label → (a ≡ true) × (b ≡ true)
both_true true true e = (refl, refl)
both_true true false e = absurd cc
both_true false b e = absurd cc

one_true : (a : Bool) → cond a Label Quiet ≡ Label → a ≡ true
one_true true e = refl
one_true false e = absurd cc

colon_async : (o : Outer) (n : Name) (q : ℕ) (l : Bool) → BeforeIs (label_of (expr.Name n)) (after_whole true o (expr.Name n) (colon_token q l)) → BeforeIs (label_of (expr.Name n)) (place o (at.Async n) (colon_token q l))
colon_async o n q true h = h
colon_async o n q false h = h

colon_before : (o : Outer) (a : At) (q : ℕ) (l : Bool) → IsOpen (record { outer = o; at = a }) → loud_at o a ≡ Label → BeforeIs (Some spot.StatementBegin) (place o a (colon_token q l))
colon_before o (at.Operand x n) q l h e =
    let i : (begins_statement o ≡ true) × (is_some (label_of x) ≡ true) = both_true (begins_statement o) (is_some (label_of x)) e in
    subst (λ (b : Option Spot). BeforeIs b (place o (at.Operand x n) (colon_token q l))) (label_some x i.1) (whole_colon o o.frames x q l i.0 (h.here, h.below))
colon_before o (at.Async n) q l h e =
    subst (λ (b : Option Spot). BeforeIs b (place o (at.Async n) (colon_token q l))) (bare_label n)
    (colon_async o n q l (whole_colon o o.frames (expr.Name n) q l (one_true (begins_statement o) e) (h.here, h.below)))
colon_before o _ q l h e = absurd cc

-- ---- a key stood before

async_accessor : (u : List ℕ) → is_async u ≡ true → accessor u ≡ None
async_accessor u e = ap accessor ((bytes_eq-Decides u (codes "async")).0 e)

name_word_none : (u : List ℕ) (b : Bool) → accessor u ≡ None → cond b (accessor u) None ≡ None
name_word_none u true e = e
name_word_none u false e = refl

sign_none : (q : ℕ) (l : Bool) (t : Option Token) (h : Option Spot) → asked_in (Some (tk q l (tok.Punctuator p.CloseBrace))) t h ≡ None
sign_none q l t (Some spot.ExpressionBegin) = refl
sign_none q l t (Some spot.StatementBegin) = refl
sign_none q l t (Some spot.OperandEnd) = refl
sign_none q l t (Some spot.DeclaredName) = refl
sign_none q l t (Some spot.Parameter) = refl
sign_none q l t (Some spot.Key) = refl
sign_none q l t None = refl

abbrev KeyClaim : ℕ → Bool → TokenKind → Step → Type 0
KeyClaim q l k made = (s : State) → made ≡ Ok s → (t : Token) (a : Asked) → machine s t ≡ Err (refusal.Token a) → asked_in (Some (tk q l k)) (Some t) a.before ≡ word_before spot.Key k (Some t)

key_asked : (q : ℕ) (l : Bool) (k : TokenKind) (t : Token) (a : Asked) → a.before ≡ Some spot.Key → asked_in (Some (tk q l k)) (Some t) a.before ≡ word_before spot.Key k (Some t)
key_asked q l k t a e = ap (asked_in (Some (tk q l k)) (Some t)) e

other_claim : (o : Outer) (xs : List Property) (n : Key) (q : ℕ) (l : Bool) (k : TokenKind) → KeyClaim q l k (to o (at.OtherKey xs n))
other_claim o xs n q l k s e t a i =
    let j : place o (at.OtherKey xs n) t ≡ Err (refusal.Token a) = ap (λ (z : State). machine z t) (same s e) ∙ i in
    key_asked q l k t a (subst (BeforeIs (Some spot.Key)) j (other_before o xs n t.kind))
  where
    same : (s : State) → to o (at.OtherKey xs n) ≡ Ok s → (record { outer = o; at = at.OtherKey xs n }) ≡ s
    same s e = cc

name_claim : (o : Outer) (xs : List Property) (n : Name) (q : ℕ) (l : Bool) (u : List ℕ) (b : Bool) → is_async u ≡ b → KeyClaim q l (tok.Name u) (on_key_name o xs n b)
name_claim o xs n q l u true i s e t a j = go (subst MayKey (ap (λ (z : State). machine z t) (same s e) ∙ j) (async_key o xs n t))
  where
    same : (s : State) → to o (at.AsyncKey xs n) ≡ Ok s → (record { outer = o; at = at.AsyncKey xs n }) ≡ s
    same s e = cc

    go : (a.before ≡ None) ⊎ (a.before ≡ Some spot.Key) → asked_in (Some (tk q l (tok.Name u))) (Some t) a.before ≡ word_before spot.Key (tok.Name u) (Some t)
    go (inl f) = ap (asked_in (Some (tk q l (tok.Name u))) (Some t)) f ∙ sym (name_word_none u (begins_key t.kind) (async_accessor u i))
    go (inr f) = key_asked q l (tok.Name u) t a f
name_claim o xs n q l u false i s e t a j = key_asked q l (tok.Name u) t a (subst (BeforeIs (Some spot.Key)) (ap (λ (z : State). machine z t) (same s e) ∙ j) (name_before_is o xs n t.kind))
  where
    same : (s : State) → to o (at.NameKey xs n) ≡ Ok s → (record { outer = o; at = at.NameKey xs n }) ≡ s
    same s e = cc

key_claim : (o : Outer) (xs : List Property) (q : ℕ) (l : Bool) (k : TokenKind) → KeyClaim q l k (place o (at.Key xs) (tk q l k))
key_claim o xs q l (tok.Name u) = name_claim o xs (name q u) q l u (is_async u) refl
key_claim o xs q l (tok.Reserved x) = other_claim o xs _ q l (tok.Reserved x)
key_claim o xs q l (tok.Text u) = other_claim o xs _ q l (tok.Text u)
key_claim o xs q l (tok.Number n) = other_claim o xs _ q l (tok.Number n)
key_claim o xs q l (tok.Punctuator p.CloseBrace) = λ s e t a i. sign_none q l (Some t) a.before
key_claim o xs q l (tok.Punctuator _) = λ s e t a i. absurd cc
key_claim o xs q l _ = λ s e t a i. absurd cc

-- ---- no key stood before

no_key : (o : Outer) (a : At) (k : TokenKind) → Landed false k o a → loud_at o a ≡ KeyAsked → ⊥
no_key o (at.NameKey xs n) k h e = false≢true h
no_key o (at.OtherKey xs n) k h e = false≢true h
no_key o (at.AsyncKey xs n) k h e = false≢true h
no_key o (at.Operand x n) k h e = go (begins_statement o && is_some (label_of x)) e
  where
    go : (b : Bool) → cond b Label Quiet ≡ KeyAsked → ⊥
    go true i = cc
    go false i = cc
no_key o (at.Async n) k h e = go (begins_statement o) e
  where
    go : (b : Bool) → cond b Label Quiet ≡ KeyAsked → ⊥
    go true i = cc
    go false i = cc
no_key o _ k h e = cc

label_name : (o : Outer) (a : At) (k : TokenKind) → Landed false k o a → loud_at o a ≡ Label → is_name k ≡ true
label_name o (at.Operand x n) k (inr h) e = h
label_name o (at.Operand x n) k (inl h) e = absurd (false≢true (sym (ap is_some h) ∙ (both_true (begins_statement o) (is_some (label_of x)) e).1))
label_name o (at.Async n) k h e = h
label_name o _ k h e = absurd cc

-- what is asked, by what the place asks
by_loud : (k : TokenKind) (s : State) (b : Option Spot) → Landed false k s.outer s.at → BeforeCalm (loud s) b → (b ≡ None) ⊎ ((b ≡ Some spot.StatementBegin) × (loud s ≡ Label))
by_loud k s None h c = inl refl
by_loud k s (Some spot.StatementBegin) h c = inr (refl, c)
by_loud k s (Some spot.Key) h c = absurd (no_key s.outer s.at k h c)
by_loud k s (Some spot.ExpressionBegin) h c = absurd c
by_loud k s (Some spot.OperandEnd) h c = absurd c
by_loud k s (Some spot.DeclaredName) h c = absurd c
by_loud k s (Some spot.Parameter) h c = absurd c

cond_none : (b : Bool) (v : Option Word) → v ≡ None → or_else (cond b v None) None ≡ None
cond_none true v e = ap (λ (z : Option Word). or_else z None) e
cond_none false v e = refl

no_label_sign : (g : Punctuator) → only_label (begin_word g) ≡ None
no_label_sign p.Plus = refl
no_label_sign _ = refl

no_label_word : (x : Reserved) → only_label (reserved_word x) ≡ None
no_label_word r.Class = refl
no_label_word _ = refl

-- a token that is no name has none
other_before_word : (q : ℕ) (l : Bool) (k : TokenKind) (s : State) (t : Token) (a : Asked) (begins : Bool) → is_name k ≡ false → Landed false k s.outer s.at → BeforeCalm (loud s) a.before → only_label (word_before spot.StatementBegin k (Some t)) ≡ None
    → asked_in (Some (tk q l k)) (Some t) a.before ≡ before_word begins false k t
other_before_word q l k s t a begins n h c e = go (by_loud k s a.before h c) ∙ sym (cond_none begins (only_label (word_before spot.StatementBegin k (Some t))) e)
  where
    go : (a.before ≡ None) ⊎ ((a.before ≡ Some spot.StatementBegin) × (loud s ≡ Label)) → asked_in (Some (tk q l k)) (Some t) a.before ≡ None
    go (inl i) = ap (asked_in (Some (tk q l k)) (Some t)) i
    go (inr i) = absurd (false≢true (sym n ∙ label_name s.outer s.at k h i.1))

-- the token behind is no `:`
plain_before_word : (q : ℕ) (l : Bool) (u : List ℕ) (s : State) (t : Token) (a : Asked) (begins : Bool) → is_colon t.kind ≡ false → Landed false (tok.Name u) s.outer s.at → BeforeCalm (loud s) a.before
    → asked_in (Some (tk q l (tok.Name u))) (Some t) a.before ≡ before_word begins false (tok.Name u) t
plain_before_word q l u s t a begins n h c =
    go (by_loud (tok.Name u) s a.before h c) ∙ sym (cond_none begins (only_label (cond (is_colon t.kind) (Some w.Label) None)) (ap (λ (b : Bool). only_label (cond b (Some w.Label) None)) n))
  where
    go : (a.before ≡ None) ⊎ ((a.before ≡ Some spot.StatementBegin) × (loud s ≡ Label)) → asked_in (Some (tk q l (tok.Name u))) (Some t) a.before ≡ None
    go (inl i) = ap (asked_in (Some (tk q l (tok.Name u))) (Some t)) i
    go (inr i) = ap (asked_in (Some (tk q l (tok.Name u))) (Some t)) i.0 ∙ ap (λ (b : Bool). cond b (Some w.Label) None) n

not_label : (x : Loud) → is_label x ≡ false → x ≡ Label → ⊥
not_label x h e = false≢true (sym h ∙ ap is_label e)

is_label_so : (x : Loud) → is_label x ≡ true → x ≡ Label
is_label_so Label h = refl
is_label_so Quiet h = absurd (false≢true h)
is_label_so KeyAsked h = absurd (false≢true h)
is_label_so Throws h = absurd (false≢true h)

colon_before_word : (q : ℕ) (l : Bool) (u : List ℕ) (s : State) (m : ℕ) (z : Bool) (a : Asked) (begins : Bool) → IsOpen s → is_label (loud s) ≡ begins → Landed false (tok.Name u) s.outer s.at → BeforeCalm (loud s) a.before → machine s (colon_token m z) ≡ Err (refusal.Token a)
    → asked_in (Some (tk q l (tok.Name u))) (Some (colon_token m z)) a.before ≡ before_word begins false (tok.Name u) (colon_token m z)
colon_before_word q l u s m z a true o b h c e = ap (asked_in (Some (tk q l (tok.Name u))) (Some (colon_token m z))) (subst (BeforeIs (Some spot.StatementBegin)) e (colon_before s.outer s.at m z o (is_label_so (loud s) b)))
colon_before_word q l u s m z a false o b h c e = go (by_loud (tok.Name u) s a.before h c)
  where
    go : (a.before ≡ None) ⊎ ((a.before ≡ Some spot.StatementBegin) × (loud s ≡ Label)) → asked_in (Some (tk q l (tok.Name u))) (Some (colon_token m z)) a.before ≡ None
    go (inl i) = ap (asked_in (Some (tk q l (tok.Name u))) (Some (colon_token m z))) i
    go (inr i) = absurd (not_label (loud s) b i.1)

name_before_word : (q : ℕ) (l : Bool) (u : List ℕ) (s : State) (m : ℕ) (z : Bool) (k : TokenKind) (a : Asked) (begins : Bool) → IsOpen s → is_label (loud s) ≡ begins → Landed false (tok.Name u) s.outer s.at → BeforeCalm (loud s) a.before → machine s (tk m z k) ≡ Err (refusal.Token a)
    → asked_in (Some (tk q l (tok.Name u))) (Some (tk m z k)) a.before ≡ before_word begins false (tok.Name u) (tk m z k)
name_before_word q l u s m z (tok.Punctuator p.Colon) a begins o b h c e = colon_before_word q l u s m z a begins o b h c e
name_before_word q l u s m z (tok.Punctuator g) a begins o b h c e = plain_before_word q l u s (tk m z (tok.Punctuator g)) a begins refl h c
name_before_word q l u s m z k a begins o b h c e = plain_before_word q l u s (tk m z k) a begins refl h c

-- The word of the token before, by what the machine asks of it, and by what stands there.
free_before : (q : ℕ) (l : Bool) (k : TokenKind) (s : State) (t : Token) (a : Asked) (begins : Bool) → IsOpen s → ((u : List ℕ) → k ≡ tok.Name u → is_label (loud s) ≡ begins) → Landed false k s.outer s.at → BeforeCalm (loud s) a.before → machine s t ≡ Err (refusal.Token a)
    → asked_in (Some (tk q l k)) (Some t) a.before ≡ before_word begins false k t
free_before q l (tok.Name u) s t a begins o b h c e = name_before_word q l u s t.place t.after_line_end t.kind a begins o (b u refl) h c e
free_before q l (tok.Reserved x) s t a begins o b h c e = other_before_word q l (tok.Reserved x) s t a begins refl h c (no_label_word x)
free_before q l (tok.Punctuator g) s t a begins o b h c e = other_before_word q l (tok.Punctuator g) s t a begins refl h c (no_label_sign g)
free_before q l (tok.Number n) s t a begins o b h c e = other_before_word q l (tok.Number n) s t a begins refl h c refl
free_before q l (tok.Text u) s t a begins o b h c e = other_before_word q l (tok.Text u) s t a begins refl h c refl
free_before q l (tok.Template x u) s t a begins o b h c e = other_before_word q l (tok.Template x u) s t a begins refl h c refl
free_before q l tok.End s t a begins o b h c e = other_before_word q l tok.End s t a begins refl h c refl
free_before q l (tok.Bad f) s t a begins o b h c e = other_before_word q l (tok.Bad f) s t a begins refl h c refl

calm_before : (s : State) (t : Token) (a : Asked) → Kept s → machine s t ≡ Err (refusal.Token a) → BeforeCalm (loud s) a.before
calm_before s t a h e = (subst (Lands (is_key s.at) (loud s) t.kind) e (came no_limit true s t h)).0

by_place : (brace thrown : Bool) (o : Outer) (b : At) (q : ℕ) (l : Bool) (k : TokenKind) (s : State) (t : Token) (a : Asked) → Known brace (is_key b) thrown (place o b) → place o b (tk q l k) ≡ Ok s → IsOpen s → Landed (is_key b) k s.outer s.at → BeforeCalm (loud s) a.before → machine s t ≡ Err (refusal.Token a)
    → asked_in (Some (tk q l k)) (Some t) a.before ≡ before_word (stands brace spot.StatementBegin l (place o b)) (is_key b) k t
by_place brace thrown o (at.Key xs) q l k s t a n m i h c e = key_claim o xs q l k s m t a e
by_place brace thrown o b q l k s t a n m i h c e = free_before q l k s t a (stands brace spot.StatementBegin l (place o b)) i (λ u j. subst (NameLaw (stands brace spot.StatementBegin l (place o b))) (ap (λ (z : TokenKind). place o b (tk q l z)) (sym j) ∙ m) (n.law q l u)) h c e

pub told_before : (brace thrown : Bool) (by s : State) (before t : Token) (a : Asked) → Known brace (is_key by.at) thrown (machine by) → Good by → machine by before ≡ Ok s → Good s → machine s t ≡ Err (refusal.Token a)
    → asked_in (Some before) (Some t) a.before ≡ before_word (stands brace spot.StatementBegin before.after_line_end (machine by)) (pairs (machine by)) before.kind t
told_before brace thrown by s before t a n g m h e =
    by_place brace thrown by.outer by.at before.place before.after_line_end before.kind s t a n m h.is_open (landed by s before g.kept m) (calm_before s t a h.kept e) e
    ∙ ap (λ (b : Bool). before_word (stands brace spot.StatementBegin before.after_line_end (machine by)) b before.kind t) (sym n.pairs)
