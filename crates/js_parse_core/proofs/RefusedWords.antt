-- The word of a token that is refused, by the spot that stands there.
use Rattle.std.proofs.Common.{◌≡◌, ℕ, suc, ◌+◌, Bool, true, false, cond, List, [], ◌∷◌, ◌++◌, ◌⊎◌, length, take, Option, Some, None, Err, refl, sym, ap, ◌∙◌, subst, inl, inr, arith}
use Rattle.std.specs.Prelude.{◌&&◌, slice_get}
use Rattle.js_lex.specs.declared.token.Punctuator.{Punctuator}
use Rattle.js_lex.specs.declared.token.Punctuator.TheVariants as p
use Rattle.js_lex.specs.declared.token.Reserved.{Reserved}
use Rattle.js_lex.specs.declared.token.Reserved.TheVariants as r
use Rattle.js_lex.specs.declared.token.TokenKind.{TokenKind}
use Rattle.js_lex.specs.declared.token.TokenKind.TheVariants as tok
use Rattle.js_lex.specs.declared.token.Token.{Token}
use Rattle.js_words.specs.declared.word.Spot.{Spot}
use Rattle.js_words.specs.declared.word.Spot.TheVariants as spot
use Rattle.js_words.specs.declared.word.Word.{Word}
use Rattle.js_words.specs.declared.word.Word.TheVariants as w
use Rattle.js_words.specs.Words.{word_by, word_before, name_before, reserved_word, reserved_before}
use Rattle.js_words.specs.Words as words
use Rattle.js_parse_core.specs.declared.machine.Asked.{Asked}
use Rattle.js_parse_core.specs.declared.machine.At.{At}
use Rattle.js_parse_core.specs.declared.machine.At.TheVariants as at
use Rattle.js_parse_core.specs.declared.machine.Outer.{Outer}
use Rattle.js_parse_core.specs.declared.machine.Refusal.TheVariants as refusal
use Rattle.js_parse_core.specs.declared.machine.State.{State}
use Rattle.js_parse_core.specs.Outer.{Step, begins_statement}
use Rattle.js_parse_core.specs.Told.{or_else, but_comma, behind_end}
use Rattle.js_parse_core.proofs.Accepts.{stands, machine}
use Rattle.js_parse_core.proofs.Came.{Quiet, Label, KeyAsked, label_of, Lands, HereCalm}
use Rattle.js_parse_core.proofs.CameSteps.{is_key, is_some, loud_at, loud, Kept, came}
use Rattle.js_parse_core.proofs.Known.{Known}
use Rattle.js_parse_core.proofs.KnownPlaces.{place}
use Rattle.js_parse_core.proofs.Pieces.{no_limit}
use Rattle.js_parse_core.proofs.Says.{tk, sign_at, sign_anywhere, sign_word, Says, SaysAll, NameSafe, IsNameless}

-- ---- places of a list

pub get_at : (ts us : List Token) (k : ℕ) → slice_get (ts ++ us) (length ts + k) ≡ slice_get us k
get_at [] us k = let e : 0 + k ≡ k = omega arith in ap (slice_get us) e
get_at (t ∷ ts) us k = let e : suc (length ts) + k ≡ suc (length ts + k) = omega arith in ap (slice_get (t ∷ (ts ++ us))) e ∙ get_at ts us k

pub take_at : (ts us : List Token) (k : ℕ) → take (length ts + k) (ts ++ us) ≡ ts ++ take k us
take_at [] us k = let e : 0 + k ≡ k = omega arith in ap (λ (n : ℕ). take n us) e
take_at (t ∷ ts) us k = let e : suc (length ts) + k ≡ suc (length ts + k) = omega arith in ap (λ (n : ℕ). take n (t ∷ (ts ++ us))) e ∙ ap (λ (l : List Token). t ∷ l) (take_at ts us k)

-- ---- a claim on words that holds of one at most

pub record Finds (claim : Word → Type 0) (found : Option Word) : Type 0 where
  pub holds : (x : Word) → claim x → found ≡ Some x
  pub is : (x : Word) → found ≡ Some x → claim x

pub none_some : (x : Word) → (let n : Option Word = None in n) ≡ Some x → ⊥
none_some x e = cc

pub finds_none : Finds (λ x. ⊥) None
finds_none = record { holds = λ x h. absurd h; is = λ x e. none_some x e }

pub finds_first : (c d : Word → Type 0) (v u : Option Word) → Finds c v → (v ≡ None → Finds d u) → Finds (λ x. c x ⊎ (((y : Word) → c y → ⊥) × d x)) (or_else v u)
finds_first c d (Some y) u f g = record { holds = go; is = λ x e. inl (f.is x e) }
  where
    go : (x : Word) → c x ⊎ (((z : Word) → c z → ⊥) × d x) → Some y ≡ Some x
    go x (inl h) = f.holds x h
    go x (inr h) = absurd (h.0 y (f.is y refl))
finds_first c d None u f g = record { holds = go; is = λ x e. inr ((λ y h. none_some y (f.holds y h)), (g refl).is x e) }
  where
    go : (x : Word) → c x ⊎ (((z : Word) → c z → ⊥) × d x) → u ≡ Some x
    go x (inl h) = absurd (none_some x (f.holds x h))
    go x (inr h) = (g refl).holds x h.1

pub finds_as : (c d : Word → Type 0) (v : Option Word) → Finds c v → ((x : Word) → d x → c x) → ((x : Word) → c x → d x) → Finds d v
finds_as c d v f g h = record { holds = λ x i. f.holds x (g x i); is = λ x e. h x (f.is x e) }

or_none : (v : Option Word) → or_else v None ≡ v
or_none (Some x) = refl
or_none None = refl

-- the last claim of some
pub finds_last : (c : Word → Type 0) (v : Option Word) → Finds c v → Finds (λ x. c x ⊎ (((y : Word) → c y → ⊥) × ⊥)) v
finds_last c v f = subst (Finds (λ x. c x ⊎ (((y : Word) → c y → ⊥) × ⊥))) (or_none v) (finds_first c (λ x. ⊥) v None f (λ e. finds_none))

pub finds_anywhere : (v : Option Word) → Finds (λ x. (v ≡ Some x) × (x ≡ w.Comma → ⊥)) (but_comma v)
finds_anywhere None = record { holds = λ x h. absurd (none_some x h.0); is = λ x e. absurd (none_some x e) }
finds_anywhere (Some w.Comma) = record { holds = λ x h. absurd (h.1 (same x h.0)); is = λ x e. absurd (none_some x e) }
  where
    same : (x : Word) → Some w.Comma ≡ Some x → x ≡ w.Comma
    same x e = cc
finds_anywhere (Some _) = record { holds = λ x h. h.0; is = λ x e. (e, (λ i. cc)) }

-- ---- the word of a token at a spot, whatever follows it

abbrev pub alone : Spot → TokenKind → Option Word
alone sp k = word_before sp k None

abbrev pub by_spot : Option Spot → TokenKind → Option Word
by_spot (Some sp) k = alone sp k
by_spot None k = None

abbrev pub asked_in : Option Token → Option Token → Option Spot → Option Word
asked_in t next (Some sp) = words.word_at sp t next
asked_in t next None = None

-- what is told by the spot that stands, and by the begin of a statement behind a line end
abbrev pub rest_word : Option Spot → Bool → Bool → TokenKind → Option Token → Option Word
rest_word here ends line k next = or_else (by_spot here k) (or_else (cond line (cond ends (alone spot.StatementBegin k) None) None) (but_comma (word_before spot.OperandEnd k next)))

abbrev pub machine_word : Option Spot → Bool → Token → Option Token → Option Word
machine_word here ended t next = or_else (asked_in (Some t) next here) (or_else (asked_in (Some t) next (behind_end ended)) (but_comma (word_before spot.OperandEnd t.kind next)))

-- ---- signs

abbrev special : Punctuator → Bool
special p.Plus = true
special p.Slash = true
special p.SlashEqual = true
special p.Comma = true
special p.OpenBracket = true
special p.OpenBrace = true
special p.Equal = true
special _ = false

flat_at : (sp : Spot) (g : Punctuator) → special g ≡ false → word_by sp g ≡ words.sign_word g
flat_at spot.ExpressionBegin p.Plus e = absurd cc
flat_at spot.ExpressionBegin p.Slash e = absurd cc
flat_at spot.ExpressionBegin p.SlashEqual e = absurd cc
flat_at spot.ExpressionBegin p.Comma e = absurd cc
flat_at spot.ExpressionBegin p.OpenBracket e = absurd cc
flat_at spot.ExpressionBegin p.OpenBrace e = absurd cc
flat_at spot.ExpressionBegin p.Equal e = absurd cc
flat_at spot.ExpressionBegin _ e = refl
flat_at spot.StatementBegin p.Plus e = absurd cc
flat_at spot.StatementBegin p.Slash e = absurd cc
flat_at spot.StatementBegin p.SlashEqual e = absurd cc
flat_at spot.StatementBegin p.Comma e = absurd cc
flat_at spot.StatementBegin p.OpenBracket e = absurd cc
flat_at spot.StatementBegin p.OpenBrace e = absurd cc
flat_at spot.StatementBegin p.Equal e = absurd cc
flat_at spot.StatementBegin _ e = refl
flat_at spot.OperandEnd p.Plus e = absurd cc
flat_at spot.OperandEnd p.Slash e = absurd cc
flat_at spot.OperandEnd p.SlashEqual e = absurd cc
flat_at spot.OperandEnd p.Comma e = absurd cc
flat_at spot.OperandEnd p.OpenBracket e = absurd cc
flat_at spot.OperandEnd p.OpenBrace e = absurd cc
flat_at spot.OperandEnd p.Equal e = absurd cc
flat_at spot.OperandEnd _ e = refl
flat_at spot.DeclaredName p.Plus e = absurd cc
flat_at spot.DeclaredName p.Slash e = absurd cc
flat_at spot.DeclaredName p.SlashEqual e = absurd cc
flat_at spot.DeclaredName p.Comma e = absurd cc
flat_at spot.DeclaredName p.OpenBracket e = absurd cc
flat_at spot.DeclaredName p.OpenBrace e = absurd cc
flat_at spot.DeclaredName p.Equal e = absurd cc
flat_at spot.DeclaredName _ e = refl
flat_at spot.Parameter p.Plus e = absurd cc
flat_at spot.Parameter p.Slash e = absurd cc
flat_at spot.Parameter p.SlashEqual e = absurd cc
flat_at spot.Parameter p.Comma e = absurd cc
flat_at spot.Parameter p.OpenBracket e = absurd cc
flat_at spot.Parameter p.OpenBrace e = absurd cc
flat_at spot.Parameter p.Equal e = absurd cc
flat_at spot.Parameter _ e = refl
flat_at spot.Key p.Plus e = absurd cc
flat_at spot.Key p.Slash e = absurd cc
flat_at spot.Key p.SlashEqual e = absurd cc
flat_at spot.Key p.Comma e = absurd cc
flat_at spot.Key p.OpenBracket e = absurd cc
flat_at spot.Key p.OpenBrace e = absurd cc
flat_at spot.Key p.Equal e = absurd cc
flat_at spot.Key _ e = refl

no_comma : (g : Punctuator) → but_comma (words.sign_word g) ≡ words.sign_word g
no_comma p.Comma = refl
no_comma _ = refl

-- each is none, or this word
abbrev IsFlat : Option Word → Option Word → Type 0
IsFlat v u = (v ≡ None) ⊎ (v ≡ u)

flat_or : (u a b : Option Word) → IsFlat a u → IsFlat b u → or_else a (or_else b u) ≡ u
flat_or u a b (inl e) (inl i) = ap (λ (z : Option Word). or_else z (or_else b u)) e ∙ ap (λ (z : Option Word). or_else z u) i
flat_or u a b (inl e) (inr i) = ap (λ (z : Option Word). or_else z (or_else b u)) e ∙ ap (λ (z : Option Word). or_else z u) i ∙ twice u
  where
    twice : (u : Option Word) → or_else u u ≡ u
    twice (Some x) = refl
    twice None = refl
flat_or u a b (inr e) h = ap (λ (z : Option Word). or_else z (or_else b u)) e ∙ by_rest u b h
  where
    by_rest : (u b : Option Word) → IsFlat b u → or_else u (or_else b u) ≡ u
    by_rest (Some x) b h = refl
    by_rest None b (inl i) = ap (λ (z : Option Word). or_else z None) i
    by_rest None b (inr i) = ap (λ (z : Option Word). or_else z None) i

flat_sign : (h : Option Spot) (g : Punctuator) → special g ≡ false → IsFlat (sign_at h g) (words.sign_word g)
flat_sign (Some sp) g e = inr (flat_at sp g e)
flat_sign None g e = inl refl

flat_word : (h : Option Spot) (b : Bool) (g : Punctuator) → special g ≡ false → sign_word h b g ≡ words.sign_word g
flat_word h b g e =
    ap (λ (z : Option Word). or_else (sign_at h g) (or_else (sign_at (behind_end b) g) (but_comma z))) (flat_at spot.OperandEnd g e)
    ∙ ap (λ (z : Option Word). or_else (sign_at h g) (or_else (sign_at (behind_end b) g) z)) (no_comma g)
    ∙ flat_or (words.sign_word g) (sign_at h g) (sign_at (behind_end b) g) (flat_sign h g e) (flat_sign (behind_end b) g e)

flat_same : (h i : Option Spot) (b c : Bool) (g : Punctuator) → special g ≡ false → sign_word h b g ≡ sign_word i c g
flat_same h i b c g e = flat_word h b g e ∙ sym (flat_word i c g e)

says_is : (sp : Option Spot) (ends line : Bool) (g : Punctuator) (made : Step) (a : Asked) → Says sp ends line g made → made ≡ Err (refusal.Token a) → sign_word a.here a.ended g ≡ sign_word sp (ends && line) g
says_is sp ends line g made a h e = subst (Says sp ends line g) e h

signs_are : (sp : Option Spot) (ends line : Bool) (f : Punctuator → Step) (g : Punctuator) (a : Asked) → SaysAll sp ends line f → f g ≡ Err (refusal.Token a) → sign_word a.here a.ended g ≡ sign_word sp (ends && line) g
signs_are sp ends line f p.Plus a h e = says_is sp ends line p.Plus (f p.Plus) a h.0 e
signs_are sp ends line f p.Slash a h e = says_is sp ends line p.Slash (f p.Slash) a h.1 e
signs_are sp ends line f p.SlashEqual a h e = says_is sp ends line p.SlashEqual (f p.SlashEqual) a h.2 e
signs_are sp ends line f p.Comma a h e = says_is sp ends line p.Comma (f p.Comma) a h.3 e
signs_are sp ends line f p.OpenBracket a h e = says_is sp ends line p.OpenBracket (f p.OpenBracket) a h.4 e
signs_are sp ends line f p.OpenBrace a h e = says_is sp ends line p.OpenBrace (f p.OpenBrace) a h.5 e
signs_are sp ends line f p.Equal a h e = says_is sp ends line p.Equal (f p.Equal) a h.6 e
signs_are sp ends line f g a h e = flat_same a.here sp a.ended (ends && line) g refl

asked_sign : (q : ℕ) (l : Bool) (g : Punctuator) (next : Option Token) (h : Option Spot) → asked_in (Some (tk q l (tok.Punctuator g))) next h ≡ sign_at h g
asked_sign q l g next (Some sp) = refl
asked_sign q l g next None = refl

spot_sign : (g : Punctuator) (h : Option Spot) → by_spot h (tok.Punctuator g) ≡ sign_at h g
spot_sign g (Some sp) = refl
spot_sign g None = refl

ends_sign : (ends line : Bool) (g : Punctuator) → cond line (cond ends (alone spot.StatementBegin (tok.Punctuator g)) None) None ≡ sign_at (behind_end (ends && line)) g
ends_sign true true g = refl
ends_sign true false g = refl
ends_sign false true g = refl
ends_sign false false g = refl

sign_rest : (q : ℕ) (l : Bool) (g : Punctuator) (next : Option Token) (h sp : Option Spot) (ended ends : Bool) → sign_word h ended g ≡ sign_word sp (ends && l) g
    → machine_word h ended (tk q l (tok.Punctuator g)) next ≡ rest_word sp ends l (tok.Punctuator g) next
sign_rest q l g next h sp ended ends e =
    ap (λ (z : Option Word). or_else z (or_else (asked_in (Some (tk q l (tok.Punctuator g))) next (behind_end ended)) (sign_anywhere g))) (asked_sign q l g next h)
    ∙ ap (λ (z : Option Word). or_else (sign_at h g) (or_else z (sign_anywhere g))) (asked_sign q l g next (behind_end ended))
    ∙ e
    ∙ ap (λ (z : Option Word). or_else (sign_at sp g) (or_else z (sign_anywhere g))) (sym (ends_sign ends l g))
    ∙ ap (λ (z : Option Word). or_else z (or_else (cond l (cond ends (alone spot.StatementBegin (tok.Punctuator g)) None) None) (sign_anywhere g))) (sym (spot_sign g sp))

-- ---- words

abbrev IsNoKey : Option Spot → Type 0
IsNoKey (Some spot.Key) = ⊥
IsNoKey _ = Unit {0}

asked_word : (q : ℕ) (l : Bool) (x : Reserved) (next : Option Token) (h : Option Spot) → IsNoKey h → IsFlat (asked_in (Some (tk q l (tok.Reserved x))) next h) (reserved_word x)
asked_word q l x next (Some spot.Key) n = absurd n
asked_word q l x next (Some spot.ExpressionBegin) n = inr refl
asked_word q l x next (Some spot.StatementBegin) n = inr refl
asked_word q l x next (Some spot.OperandEnd) n = inr refl
asked_word q l x next (Some spot.DeclaredName) n = inr refl
asked_word q l x next (Some spot.Parameter) n = inr refl
asked_word q l x next None n = inl refl

spot_word : (x : Reserved) (h : Option Spot) → IsFlat (by_spot h (tok.Reserved x)) (reserved_word x)
spot_word x (Some spot.Key) = inr refl
spot_word x (Some spot.ExpressionBegin) = inr refl
spot_word x (Some spot.StatementBegin) = inr refl
spot_word x (Some spot.OperandEnd) = inr refl
spot_word x (Some spot.DeclaredName) = inr refl
spot_word x (Some spot.Parameter) = inr refl
spot_word x None = inl refl

ends_word : (ends line : Bool) (x : Reserved) → IsFlat (cond line (cond ends (alone spot.StatementBegin (tok.Reserved x)) None) None) (reserved_word x)
ends_word true true x = inr refl
ends_word true false x = inl refl
ends_word false true x = inl refl
ends_word false false x = inl refl

behind_no_key : (b : Bool) → IsNoKey (behind_end b)
behind_no_key true = tt
behind_no_key false = tt

no_comma_word : (x : Reserved) → but_comma (reserved_word x) ≡ reserved_word x
no_comma_word r.Class = refl
no_comma_word _ = refl

word_rest : (q : ℕ) (l : Bool) (x : Reserved) (next : Option Token) (h sp : Option Spot) (ended ends : Bool) → IsNoKey h → machine_word h ended (tk q l (tok.Reserved x)) next ≡ rest_word sp ends l (tok.Reserved x) next
word_rest q l x next h sp ended ends n =
    let a : Option Word = asked_in (Some (tk q l (tok.Reserved x))) next h in
    let b : Option Word = asked_in (Some (tk q l (tok.Reserved x))) next (behind_end ended) in
    let c : Option Word = by_spot sp (tok.Reserved x) in
    let d : Option Word = cond l (cond ends (alone spot.StatementBegin (tok.Reserved x)) None) None in
    ap (λ (z : Option Word). or_else a (or_else b z)) (no_comma_word x)
    ∙ flat_or (reserved_word x) a b (asked_word q l x next h n) (asked_word q l x next (behind_end ended) (behind_no_key ended))
    ∙ sym (flat_or (reserved_word x) c d (spot_word x sp) (ends_word ends l x))
    ∙ ap (λ (z : Option Word). or_else c (or_else d z)) (sym (no_comma_word x))

-- ---- names

asked_name : (q : ℕ) (l : Bool) (u : List ℕ) (next : Option Token) (h : Option Spot) → IsNameless h → asked_in (Some (tk q l (tok.Name u))) next h ≡ None
asked_name q l u (Some n) (Some spot.Key) i = absurd i
asked_name q l u (Some n) (Some spot.StatementBegin) i = absurd i
asked_name q l u (Some n) (Some spot.ExpressionBegin) i = refl
asked_name q l u (Some n) (Some spot.OperandEnd) i = refl
asked_name q l u (Some n) (Some spot.DeclaredName) i = refl
asked_name q l u (Some n) (Some spot.Parameter) i = refl
asked_name q l u None (Some sp) i = refl
asked_name q l u next None i = refl

spot_name : (u : List ℕ) (h : Option Spot) → by_spot h (tok.Name u) ≡ None
spot_name u (Some sp) = refl
spot_name u None = refl

ends_name : (ends line : Bool) (u : List ℕ) → cond line (cond ends (alone spot.StatementBegin (tok.Name u)) None) None ≡ None
ends_name true true u = refl
ends_name true false u = refl
ends_name false true u = refl
ends_name false false u = refl

name_rest : (q : ℕ) (l : Bool) (u : List ℕ) (next : Option Token) (h sp : Option Spot) (ended ends : Bool) → ended ≡ false → IsNameless h → machine_word h ended (tk q l (tok.Name u)) next ≡ rest_word sp ends l (tok.Name u) next
name_rest q l u next h sp ended ends e n =
    let z : Option Word = but_comma (name_before spot.OperandEnd u next) in
    ap (λ (y : Option Word). or_else y (or_else (asked_in (Some (tk q l (tok.Name u))) next (behind_end ended)) z)) (asked_name q l u next h n)
    ∙ ap (λ (b : Bool). or_else (asked_in (Some (tk q l (tok.Name u))) next (behind_end b)) z) e
    ∙ sym (ap (λ (y : Option Word). or_else y (or_else (cond l (cond ends (alone spot.StatementBegin (tok.Name u)) None) None) z)) (spot_name u sp)
    ∙ ap (λ (y : Option Word). or_else y z) (ends_name ends l u))

-- ---- the rest has none

none_of : (a b c : Option Word) → a ≡ None → b ≡ None → or_else a (or_else b c) ≡ c
none_of a b c e f = ap (λ (z : Option Word). or_else z (or_else b c)) e ∙ ap (λ (z : Option Word). or_else z c) f

abbrev IsPlain : TokenKind → Type 0
IsPlain k = (sp : Spot) (next : Option Token) → word_before sp k next ≡ None

plain_asked : (q : ℕ) (l : Bool) (k : TokenKind) (next : Option Token) (h : Option Spot) → IsPlain k → asked_in (Some (tk q l k)) next h ≡ None
plain_asked q l k next (Some sp) n = n sp next
plain_asked q l k next None n = refl

plain_spot : (k : TokenKind) (h : Option Spot) → IsPlain k → by_spot h k ≡ None
plain_spot k (Some sp) n = n sp None
plain_spot k None n = refl

plain_ends : (ends line : Bool) (k : TokenKind) → IsPlain k → cond line (cond ends (alone spot.StatementBegin k) None) None ≡ None
plain_ends true true k n = n spot.StatementBegin None
plain_ends false true k n = refl
plain_ends ends false k n = refl

plain_rest : (q : ℕ) (l : Bool) (k : TokenKind) (next : Option Token) (h sp : Option Spot) (ended ends : Bool) → IsPlain k → machine_word h ended (tk q l k) next ≡ rest_word sp ends l k next
plain_rest q l k next h sp ended ends n =
    none_of _ _ (but_comma (word_before spot.OperandEnd k next)) (plain_asked q l k next h n) (plain_asked q l k next (behind_end ended) n)
    ∙ sym (none_of _ _ (but_comma (word_before spot.OperandEnd k next)) (plain_spot k sp n) (plain_ends ends l k n))

-- ---- no key is asked for where a reserved word is refused

abbrev KeySafe : Step → Type 0
KeySafe (Err (refusal.Token a)) = IsNoKey a.here
KeySafe _ = Unit {0}

cond_key : (b : Bool) → cond b Label Quiet ≡ KeyAsked → ⊥
cond_key true e = cc
cond_key false e = cc

asks_safe : (o : Outer) (a : At) (q : ℕ) (l : Bool) (x : Reserved) → (is_key a ≡ true) ⊎ (loud_at o a ≡ KeyAsked) → KeySafe (place o a (tk q l (tok.Reserved x)))
asks_safe o (at.Key xs) q l x h = tt
asks_safe o (at.NameKey xs n) q l x h = tt
asks_safe o (at.OtherKey xs n) q l x h = tt
asks_safe o (at.AsyncKey xs n) q true x h = tt
asks_safe o (at.AsyncKey xs n) q false x h = tt
asks_safe o (at.Operand y n) q l x (inr e) = absurd (cond_key (begins_statement o && is_some (label_of y)) e)
asks_safe o (at.Async n) q l x (inr e) = absurd (cond_key (begins_statement o) e)
asks_safe o _ q l x (inl e) = absurd cc
asks_safe o _ q l x (inr e) = absurd cc

here_safe : (o : Outer) (a : At) (q : ℕ) (l : Bool) (x : Reserved) (d : Asked) → HereCalm (is_key a) (loud_at o a) d.here → place o a (tk q l (tok.Reserved x)) ≡ Err (refusal.Token d) → IsNoKey d.here
here_safe o a q l x d h e = go d.here h (subst KeySafe e)
  where
    go : (s : Option Spot) → HereCalm (is_key a) (loud_at o a) s → (KeySafe (place o a (tk q l (tok.Reserved x))) → IsNoKey s) → IsNoKey s
    go (Some spot.Key) i c = c (asks_safe o a q l x i)
    go (Some spot.ExpressionBegin) i c = tt
    go (Some spot.StatementBegin) i c = tt
    go (Some spot.OperandEnd) i c = tt
    go (Some spot.DeclaredName) i c = tt
    go (Some spot.Parameter) i c = tt
    go None i c = tt

-- The word by what the machine asks of the token, and by the spot that stands there.
pub told_rest : (brace keyed thrown : Bool) (s : State) (k : Known brace keyed thrown (machine s)) (q : ℕ) (l : Bool) (kind : TokenKind) (next : Option Token) (a : Asked) → Kept s → machine s (tk q l kind) ≡ Err (refusal.Token a)
    → machine_word a.here a.ended (tk q l kind) next ≡ rest_word k.here (stands brace spot.StatementBegin true (machine s)) l kind next
told_rest brace keyed thrown s k q true (tok.Punctuator g) next a kept e = sign_rest q true g next a.here k.here a.ended (stands brace spot.StatementBegin true (machine s))
    (signs_are k.here (stands brace spot.StatementBegin true (machine s)) true (λ (z : Punctuator). machine s (tk q true (tok.Punctuator z))) g a (k.behind q) e)
told_rest brace keyed thrown s k q false (tok.Punctuator g) next a kept e = sign_rest q false g next a.here k.here a.ended (stands brace spot.StatementBegin true (machine s))
    (signs_are k.here (stands brace spot.StatementBegin true (machine s)) false (λ (z : Punctuator). machine s (tk q false (tok.Punctuator z))) g a (k.on_line q) e)
told_rest brace keyed thrown s k q l (tok.Reserved x) next a kept e =
    let c : Lands (is_key s.at) (loud s) (tok.Reserved x) (Err (refusal.Token a)) = subst (Lands (is_key s.at) (loud s) (tok.Reserved x)) e (came no_limit true s (tk q l (tok.Reserved x)) kept) in
    word_rest q l x next a.here k.here a.ended (stands brace spot.StatementBegin true (machine s)) (here_safe s.outer s.at q l x a c.1 e)
told_rest brace keyed thrown s k q l (tok.Name u) next a kept e =
    let n : NameSafe (Err (refusal.Token a)) = subst NameSafe e (k.names q l u) in
    name_rest q l u next a.here k.here a.ended (stands brace spot.StatementBegin true (machine s)) n.0 n.1
told_rest brace keyed thrown s k q l (tok.Number n) next a kept e = plain_rest q l (tok.Number n) next a.here k.here a.ended (stands brace spot.StatementBegin true (machine s)) (λ sp z. refl)
told_rest brace keyed thrown s k q l (tok.Text u) next a kept e = plain_rest q l (tok.Text u) next a.here k.here a.ended (stands brace spot.StatementBegin true (machine s)) (λ sp z. refl)
told_rest brace keyed thrown s k q l (tok.Template y u) next a kept e = plain_rest q l (tok.Template y u) next a.here k.here a.ended (stands brace spot.StatementBegin true (machine s)) (λ sp z. refl)
told_rest brace keyed thrown s k q l tok.End next a kept e = plain_rest q l tok.End next a.here k.here a.ended (stands brace spot.StatementBegin true (machine s)) (λ sp z. refl)
told_rest brace keyed thrown s k q l (tok.Bad f) next a kept e = plain_rest q l (tok.Bad f) next a.here k.here a.ended (stands brace spot.StatementBegin true (machine s)) (λ sp z. refl)
