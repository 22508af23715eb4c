-- A token in objects and in the heads of functions.
use Rattle.std.proofs.Common.{◌≡◌, ℕ, Bool, true, false, cond, List, [], ◌∷◌, ◌++◌, map, Option, Some, None, refl, sym, ◌∙◌, ap, append_assoc, inl, inr}
use Rattle.std.proofs.lemmas.List.{append-nil}
use Rattle.js_lex.specs.declared.token.Punctuator.{Punctuator}
use Rattle.js_lex.specs.declared.token.Punctuator.TheVariants as p
use Rattle.js_lex.specs.declared.token.Reserved.TheVariants as r
use Rattle.js_lex.specs.declared.token.TokenKind.{TokenKind}
use Rattle.js_lex.specs.declared.token.TokenKind.TheVariants as tok
use Rattle.js_lex.specs.declared.token.Token.{Token}
use Rattle.js_tree.specs.declared.tree.Key.{Key}
use Rattle.js_tree.specs.declared.tree.Key.TheVariants as keys
use Rattle.js_tree.specs.declared.tree.Name.{Name}
use Rattle.js_tree.specs.declared.tree.Property.{Property}
use Rattle.js_tree.specs.declared.tree.Property.TheVariants as property
use Rattle.js_words.specs.declared.word.Spot.TheVariants as spot
use Rattle.js_grammar.specs.Marks.{Form, just, listed, first_unbroken}
use Rattle.js_grammar.specs.Grammar.{name, any_name, name_forms, key, reserved, perhaps_async}
use Rattle.js_parse_core.specs.declared.machine.At.TheVariants as at
use Rattle.js_parse_core.specs.declared.machine.Block.TheVariants as block
use Rattle.js_parse_core.specs.declared.machine.Head.{Head}
use Rattle.js_parse_core.specs.declared.machine.Head.TheVariants as head
use Rattle.js_parse_core.specs.declared.machine.Outer.{Outer}
use Rattle.js_parse_core.specs.Outer.{refuse, refuse_at, to, open_block}
use Rattle.js_parse_core.specs.Tokens.{is_async, is_open_paren, is_open_brace, is_close_brace, is_open_bracket, is_comma}
use Rattle.js_parse_core.specs.Tokens.{name as named}
use Rattle.js_parse_core.specs.Objects.{close_object, on_key_name, on_key_sign, on_found_key, on_key, on_other_key, on_name_key, on_async_name, on_async_found, on_async_key, on_async_method, on_property_end, named_head, nameless, on_function_name, on_parameters_open, on_parameters, on_parameter_read, head_constructs, on_body_open}
use Rattle.js_parse_core.specs.Objects.{key as key_of}
use Rattle.js_parse_core.proofs.Covers.{Covers, covers_before, covers_wider, within_same, within_trans, within_behind}
use Rattle.js_parse_core.proofs.Bare.{property_forms, bracketed, property_short}
use Rattle.js_parse_core.proofs.Spelled.{commaed, ended, names_forms, async_name, object_front, head_front, block_front}
use Rattle.js_parse_core.proofs.SpelledLemmas.{filled_cons, filled_before, filled_head, filled_async, within_front, ended_listed, ended_comma, close_item, close_none, comma_item}
use Rattle.js_parse_core.proofs.ArrowForms.{async_name_within, async_word_within, names_push}
use Rattle.js_parse_core.proofs.Grows.{shows_sign, shows_at, open_paren_is, open_brace_is, close_brace_is, comma_is, name_is_async, Grows, adds_in, adds_same, grows_cond, grows_from}
use Rattle.js_parse_core.proofs.NameShows.{KeyShows, key_shows, LineKeyShows, line_key_shows}
use Rattle.js_parse_core.proofs.SoundValues.{inside, close_object_grows, property_comma, property_close}
use Rattle.js_parse_core.proofs.SoundArrows.{inside_covers}

-- ---- keys

key_name_grows : (o : Outer) (xs : List Property) (t : Token) (u : List ℕ) (b : Bool) → t.kind ≡ tok.Name u → is_async u ≡ b → Grows (inside o (object_front xs)) t (on_key_name o xs (named t.place u) b)
key_name_grows o xs t u true e h = adds_same o.items o.frames (object_front xs) _ (name (named t.place u)) t (filled_cons _ _) (ap (λ (f : Form). object_front xs ++ f ∷ []) (name_is_async (named t.place u) h)) (shows_at t (tok.Name u) e refl)
key_name_grows o xs t u false e h = adds_same o.items o.frames (object_front xs) _ (name (named t.place u)) t (filled_cons _ _) refl (shows_at t (tok.Name u) e refl)

key_sign_grows : (o : Outer) (xs : List Property) (t : Token) (s : Punctuator) → t.kind ≡ tok.Punctuator s → Grows (inside o (object_front xs)) t (on_key_sign o xs s)
key_sign_grows o xs t p.CloseBrace e = close_object_grows o xs (object_front xs) t (filled_cons _ _) (close_none [] p.OpenBrace p.CloseBrace (map property_forms xs)) (shows_sign p.CloseBrace t e)
key_sign_grows o xs t _ e = tt

found_key_grows : (o : Outer) (xs : List Property) (t : Token) (k : Option Key) → KeyShows t k → Grows (inside o (object_front xs)) t (on_found_key o xs k)
found_key_grows o xs t (Some k) h = adds_same o.items o.frames (object_front xs) _ (key k) t (filled_cons _ _) refl h
found_key_grows o xs t None h = tt

key_kind_grows : (o : Outer) (xs : List Property) (t : Token) (k : TokenKind) → t.kind ≡ k → Grows (inside o (object_front xs)) t (on_key o xs t.place k)
key_kind_grows o xs t (tok.Name u) e = key_name_grows o xs t u (is_async u) e refl
key_kind_grows o xs t (tok.Punctuator s) e = key_sign_grows o xs t s e
key_kind_grows o xs t k e = found_key_grows o xs t (key_of t.place k) (key_shows t k e)

pub key_grows : (o : Outer) (xs : List Property) (t : Token) → Grows (inside o (object_front xs)) t (on_key o xs t.place t.kind)
key_grows o xs t = key_kind_grows o xs t t.kind refl

pub other_key_grows : (o : Outer) (xs : List Property) (k : Key) (t : Token) (x : TokenKind) → t.kind ≡ x → Grows (inside o (object_front xs ++ key k ∷ [])) t (on_other_key o xs k x)
other_key_grows o xs k t (tok.Punctuator p.Colon) e = adds_same o.items o.frames (object_front xs ++ key k ∷ []) (object_front xs ++ key k ∷ just p.Colon ∷ []) (just p.Colon) t (filled_cons _ _) (append_assoc (object_front xs) (key k ∷ []) (just p.Colon ∷ [])) (shows_sign p.Colon t e)
other_key_grows o xs k t (tok.Punctuator p.OpenParen) e = adds_same o.items o.frames (object_front xs ++ key k ∷ []) _ (just p.OpenParen) t (filled_cons _ _) refl (shows_sign p.OpenParen t e)
other_key_grows o xs k t _ e = tt

name_any_name : (n : Name) (fs : List Form) → Covers (name n ∷ fs) (any_name n ∷ fs)
name_any_name n fs = covers_wider (name n) (any_name n) fs (λ ps h. elim h [ inl a ↦ inl a | inr b ↦ absurd b ])

short_forms : (xs : List Property) (n : Name) → object_front xs ++ name n ∷ [] ≡ object_front xs ++ property_forms (property.Short n)
short_forms xs n = ap (λ (z : List Form). object_front xs ++ z) (sym (property_short n))

pub name_key_grows : (o : Outer) (xs : List Property) (n : Name) (t : Token) → Grows (inside o (object_front xs ++ name n ∷ [])) t (on_name_key o xs n t.kind)
name_key_grows o xs n t =
    grows_cond _ t (is_comma t.kind) (to o (at.Key (xs ++ property.Short n ∷ []))) (cond (is_close_brace t.kind) (close_object o (xs ++ property.Short n ∷ [])) (on_other_key o xs (keys.Name n) t.kind))
    (λ h. property_comma o xs (property.Short n) _ t (short_forms xs n) (comma_is t.kind h))
    (λ h. grows_cond _ t (is_close_brace t.kind) (close_object o (xs ++ property.Short n ∷ [])) (on_other_key o xs (keys.Name n) t.kind)
    (λ k. property_close o xs (property.Short n) _ t (short_forms xs n) (close_brace_is t.kind k))
    (λ k. grows_from _ (inside o (object_front xs ++ key (keys.Name n) ∷ [])) t (on_other_key o xs (keys.Name n) t.kind) (inside_covers o _ _ (within_front (object_front xs) _ _ (filled_cons _ _) (name_any_name n []))) (other_key_grows o xs (keys.Name n) t t.kind refl)))

async_key_name : (o : Outer) (xs : List Property) (n : Name) (t : Token) → Grows (inside o (object_front xs ++ async_name n ∷ [])) t (on_async_name o xs n t.kind)
async_key_name o xs n t =
    grows_cond _ t (is_open_bracket t.kind) (refuse_at spot.Key) (on_name_key o xs n t.kind) (λ h. tt)
    (λ h. grows_from _ (inside o (object_front xs ++ name n ∷ [])) t (on_name_key o xs n t.kind) (inside_covers o _ _ (within_front (object_front xs) _ _ (filled_cons _ _) (async_name_within n []).all)) (name_key_grows o xs n t))

async_found_grows : (o : Outer) (xs : List Property) (n : Name) (t : Token) (k : Option Key) → LineKeyShows t k → Grows (inside o (object_front xs ++ async_name n ∷ [])) t (on_async_found o xs n t.kind k)
async_found_grows o xs n t (Some k) h =
    adds_in o.items o.frames (object_front xs ++ async_name n ∷ []) (object_front xs ++ perhaps_async true (key k ∷ [])) (map first_unbroken (key k)) t (filled_cons _ _)
    (within_trans _ (object_front xs ++ async_name n ∷ map first_unbroken (key k) ∷ []) _ (within_same _ _ (append_assoc (object_front xs) (async_name n ∷ []) (map first_unbroken (key k) ∷ [])))
    (within_front (object_front xs) _ _ (filled_cons _ _) (async_word_within n (map first_unbroken (key k) ∷ [])).all)) h
async_found_grows o xs n t None h = async_key_name o xs n t

pub async_key_grows : (o : Outer) (xs : List Property) (n : Name) (t : Token) → Grows (inside o (object_front xs ++ async_name n ∷ [])) t (on_async_key o xs n t)
async_key_grows o xs n t =
    grows_cond _ t t.after_line_end (on_async_name o xs n t.kind) (on_async_found o xs n t.kind (key_of t.place t.kind))
    (λ h. async_key_name o xs n t) (λ h. async_found_grows o xs n t (key_of t.place t.kind) (line_key_shows t t.kind refl h))

pub async_method_grows : (o : Outer) (xs : List Property) (k : Key) (t : Token) → Grows (inside o (object_front xs ++ perhaps_async true (key k ∷ []))) t (on_async_method o xs k t.kind)
async_method_grows o xs k t =
    grows_cond _ t (is_open_paren t.kind) (to o (at.Parameters (head.Method true xs k) [])) refuse
    (λ h. adds_same o.items o.frames (object_front xs ++ perhaps_async true (key k ∷ [])) _ (just p.OpenParen) t (filled_cons _ _) refl (shows_sign p.OpenParen t (open_paren_is t.kind h))) (λ h. tt)

pub property_end_grows : (o : Outer) (xs : List Property) (t : Token) → Grows (inside o (just p.OpenBrace ∷ ended (map property_forms xs))) t (on_property_end o xs t.kind)
property_end_grows o xs t =
    grows_cond _ t (is_comma t.kind) (to o (at.Key xs)) (cond (is_close_brace t.kind) (close_object o xs) refuse)
    (λ h. adds_in o.items o.frames (just p.OpenBrace ∷ ended (map property_forms xs)) (object_front xs) (just p.Comma) t (filled_cons _ _) (within_behind (just p.OpenBrace) _ _ (ended_comma (map property_forms xs))) (shows_sign p.Comma t (comma_is t.kind h)))
    (λ h. grows_cond _ t (is_close_brace t.kind) (close_object o xs) refuse
    (λ k. close_object_grows o xs (just p.OpenBrace ∷ ended (map property_forms xs)) t (filled_cons _ _) (within_behind (just p.OpenBrace) _ _ (covers_before _ _ (just p.CloseBrace ∷ []) (ended_listed (map property_forms xs)))) (shows_sign p.CloseBrace t (close_brace_is t.kind k)))
    (λ k. tt))

-- ---- functions

pub async_append : (a : Bool) (f : Form) (fs x : List Form) → perhaps_async a (f ∷ fs) ++ x ≡ perhaps_async a (f ∷ (fs ++ x))
async_append true f fs x = refl
async_append false f fs x = refl

named_head_forms : (d a : Bool) (n : Name) → perhaps_async a (reserved r.Function ∷ []) ++ name n ∷ [] ≡ head_front (named_head d a n)
named_head_forms true a n = async_append a (reserved r.Function) [] (name n ∷ [])
named_head_forms false a n = async_append a (reserved r.Function) [] (name n ∷ [])

nameless_grows : (o : Outer) (d a : Bool) (t : Token) → t.kind ≡ tok.Punctuator p.OpenParen → Grows (inside o (perhaps_async a (reserved r.Function ∷ []))) t (nameless o d a)
nameless_grows o true a t e = tt
nameless_grows o false a t e = adds_same o.items o.frames (perhaps_async a (reserved r.Function ∷ [])) _ (just p.OpenParen) t (filled_async a _ _) refl (shows_sign p.OpenParen t e)

pub function_name_grows : (o : Outer) (d a : Bool) (t : Token) (k : TokenKind) → t.kind ≡ k → Grows (inside o (perhaps_async a (reserved r.Function ∷ []))) t (on_function_name o d a t.place k)
function_name_grows o d a t (tok.Name u) e = adds_same o.items o.frames (perhaps_async a (reserved r.Function ∷ [])) _ (name (named t.place u)) t (filled_async a _ _) (named_head_forms d a (named t.place u)) (shows_at t (tok.Name u) e refl)
function_name_grows o d a t (tok.Punctuator p.OpenParen) e = nameless_grows o d a t e
function_name_grows o d a t _ e = tt

pub parameters_open_grows : (o : Outer) (h : Head) (t : Token) → Grows (inside o (head_front h)) t (on_parameters_open o h t.kind)
parameters_open_grows o h t =
    grows_cond _ t (is_open_paren t.kind) (to o (at.Parameters h [])) refuse
    (λ e. adds_same o.items o.frames (head_front h) _ (just p.OpenParen) t (filled_head h) refl (shows_sign p.OpenParen t (open_paren_is t.kind e))) (λ e. tt)

pub parameters_grows : (o : Outer) (h : Head) (ns : List Name) (t : Token) (k : TokenKind) → t.kind ≡ k → Grows (inside o (head_front h ++ just p.OpenParen ∷ commaed (names_forms ns))) t (on_parameters o h ns t.place k)
parameters_grows o h ns t (tok.Name u) e =
    adds_same o.items o.frames (head_front h ++ just p.OpenParen ∷ commaed (names_forms ns)) _ (name (named t.place u)) t (filled_before _ _ (filled_head h))
    (append_assoc (head_front h) (just p.OpenParen ∷ commaed (names_forms ns)) (name (named t.place u) ∷ [])) (shows_at t (tok.Name u) e refl)
parameters_grows o h ns t (tok.Punctuator p.CloseParen) e =
    adds_in o.items o.frames (head_front h ++ just p.OpenParen ∷ commaed (names_forms ns)) (head_front h ++ bracketed (listed (names_forms ns))) (just p.CloseParen) t (filled_before _ _ (filled_head h))
    (close_none (head_front h) p.OpenParen p.CloseParen (names_forms ns)) (shows_sign p.CloseParen t e)
parameters_grows o h ns t _ e = tt

read_forms : (h : Head) (ns : List Name) (n : Name) → head_front h ++ just p.OpenParen ∷ (commaed (names_forms ns) ++ name n ∷ []) ≡ (head_front h ++ just p.OpenParen ∷ commaed (names_forms ns)) ++ name_forms n
read_forms h ns n = sym (append_assoc (head_front h) (just p.OpenParen ∷ commaed (names_forms ns)) (name n ∷ []))

pub parameter_read_grows : (o : Outer) (h : Head) (ns : List Name) (n : Name) (t : Token) (k : TokenKind) → t.kind ≡ k → Grows (inside o (head_front h ++ just p.OpenParen ∷ (commaed (names_forms ns) ++ name n ∷ []))) t (on_parameter_read o h ns n k)
parameter_read_grows o h ns n t (tok.Punctuator p.Comma) e =
    adds_same o.items o.frames (head_front h ++ just p.OpenParen ∷ (commaed (names_forms ns) ++ name n ∷ [])) (head_front h ++ just p.OpenParen ∷ commaed (names_forms (ns ++ n ∷ []))) (just p.Comma) t (filled_before _ _ (filled_head h))
    (ap (λ (z : List Form). z ++ just p.Comma ∷ []) (read_forms h ns n) ∙ comma_item (head_front h) p.OpenParen (names_forms ns) (name_forms n) ∙ ap (λ (z : List (List Form)). head_front h ++ just p.OpenParen ∷ commaed z) (names_push ns n)) (shows_sign p.Comma t e)
parameter_read_grows o h ns n t (tok.Punctuator p.CloseParen) e =
    adds_in o.items o.frames (head_front h ++ just p.OpenParen ∷ (commaed (names_forms ns) ++ name n ∷ [])) (head_front h ++ bracketed (listed (names_forms (ns ++ n ∷ [])))) (just p.CloseParen) t (filled_before _ _ (filled_head h))
    (within_trans _ _ _ (within_same _ _ (ap (λ (z : List Form). z ++ just p.CloseParen ∷ []) (read_forms h ns n)))
    (within_trans _ _ _ (close_item (head_front h) p.OpenParen p.CloseParen (names_forms ns) (name_forms n)) (within_same _ _ (ap (λ (z : List (List Form)). head_front h ++ bracketed (listed z)) (names_push ns n))))) (shows_sign p.CloseParen t e)
parameter_read_grows o h ns n t _ e = tt

pub body_open_grows : (o : Outer) (h : Head) (ns : List Name) (t : Token) → Grows (inside o (head_front h ++ bracketed (listed (names_forms ns)))) t (on_body_open o h ns t.kind)
body_open_grows o h ns t =
    grows_cond _ t (is_open_brace t.kind) (open_block o (head_constructs h) (block.Function h ns)) refuse
    (λ e. adds_same o.items o.frames (head_front h ++ bracketed (listed (names_forms ns))) _ (just p.OpenBrace) t (filled_before _ _ (filled_head h))
    (append_assoc (head_front h) (bracketed (listed (names_forms ns))) (just p.OpenBrace ∷ []) ∙ sym (append-nil (block_front (block.Function h ns)))) (shows_sign p.OpenBrace t (open_brace_is t.kind e))) (λ e. tt)
