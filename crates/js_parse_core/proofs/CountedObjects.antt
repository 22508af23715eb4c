-- A token in objects and in the heads of functions, with how many constructs are open.
use Rattle.std.proofs.Common.{◌≡◌, ℕ, ◌+◌, ◌≤◌, Bool, true, false, cond, List, [], ◌∷◌, ◌++◌, map, Option, Some, None, refl, sym, ◌∙◌, ap, append_assoc, inl, inr}
use Rattle.std.proofs.lemmas.List.{append-nil}
use Rattle.js_lex.specs.declared.token.Punctuator.{Punctuator}
use Rattle.js_lex.specs.declared.token.Punctuator.TheVariants as p
use Rattle.js_lex.specs.declared.token.Reserved.TheVariants as r
use Rattle.js_lex.specs.declared.token.TokenKind.{TokenKind}
use Rattle.js_lex.specs.declared.token.TokenKind.TheVariants as tok
use Rattle.js_lex.specs.declared.token.Token.{Token}
use Rattle.js_tree.specs.declared.tree.Key.{Key}
use Rattle.js_tree.specs.declared.tree.Key.TheVariants as keys
use Rattle.js_tree.specs.declared.tree.Name.{Name}
use Rattle.js_tree.specs.declared.tree.Property.{Property}
use Rattle.js_tree.specs.declared.tree.Property.TheVariants as property
use Rattle.js_words.specs.declared.word.Spot.TheVariants as spot
use Rattle.js_grammar.specs.Marks.{Form, just, first_unbroken}
use Rattle.js_grammar.specs.Grammar.{name, any_name, key, reserved}
use Rattle.js_parse_core.specs.declared.machine.At.TheVariants as at
use Rattle.js_parse_core.specs.declared.machine.Block.TheVariants as block
use Rattle.js_parse_core.specs.declared.machine.Head.{Head}
use Rattle.js_parse_core.specs.declared.machine.Head.TheVariants as head
use Rattle.js_parse_core.specs.declared.machine.Outer.{Outer}
use Rattle.js_parse_core.specs.Outer.{refuse, refuse_at, to, open_block}
use Rattle.js_parse_core.specs.Tokens.{is_async, is_open_paren, is_open_brace, is_close_brace, is_open_bracket, is_comma}
use Rattle.js_parse_core.specs.Tokens.{name as named}
use Rattle.js_parse_core.specs.Objects.{close_object, on_key_name, on_key_sign, on_found_key, on_key, on_other_key, on_name_key, on_async_name, on_async_found, on_async_key, on_async_method, on_property_end, named_head, nameless, on_function_name, on_parameters_open, on_parameters, on_parameter_read, head_constructs, on_body_open}
use Rattle.js_parse_core.specs.Objects.{key as key_of}
use Rattle.js_parse_core.proofs.NameShows.{KeyShows, key_shows, LineKeyShows, line_key_shows}
use Rattle.js_parse_core.proofs.Spelled.{async_name}
use Rattle.js_parse_core.proofs.SpelledLemmas.{filled_cons, filled_before}
use Rattle.js_parse_core.proofs.Grows.{name_is_async, open_paren_is, close_brace_is, open_brace_is, comma_is}
use Rattle.js_parse_core.proofs.CountedCovers.{Covers, covers_before, covers_wider, within_same, within_trans, within_behind}
use Rattle.js_parse_core.proofs.CountedForms.{up, property_at, name_at, names_at, listed_at, perhaps_at, bracketed_at, parameters_at, property_short}
use Rattle.js_parse_core.proofs.CountedSpelled.{commaed_at, ended_at, head_level, object_front, head_front, block_front}
use Rattle.js_parse_core.proofs.CountedLemmas.{filled_async, filled_head, close_none, close_item, comma_item, ended_comma, ended_listed, within_front}
use Rattle.js_parse_core.proofs.CountedArrowForms.{async_name_within, async_word_within, names_push}
use Rattle.js_parse_core.proofs.CountedGrows.{shows, shows_sign, shows_at, key_flat, IsFlat, at_open, at_close, Grows, adds_in, adds_same, grows_cond, grows_from}
use Rattle.js_parse_core.proofs.CountedFolds.{head_rises}
use Rattle.js_parse_core.proofs.CountedValues.{inside, here, close_object_grows, property_comma, property_close}
use Rattle.js_parse_core.proofs.CountedArrows.{inside_covers}

-- ---- keys

abbrev object_at : Outer → List Property → List Form
object_at o xs = object_front (here o + 1) xs

key_name_grows : (l : ℕ) (o : Outer) (xs : List Property) (t : Token) (u : List ℕ) (b : Bool) → t.kind ≡ tok.Name u → is_async u ≡ b → Grows l (inside o (object_at o xs)) t (on_key_name o xs (named t.place u) b)
key_name_grows l o xs t u true e h =
    adds_same l _ o.items o.frames (object_at o xs) _ (here o + 1) (name (named t.place u)) t (at_open l _) (filled_cons _ _) (ap (λ (f : Form). object_at o xs ++ up (here o + 1) f ∷ []) (name_is_async (named t.place u) h)) (shows_at (here o + 1) t (tok.Name u) e refl)
key_name_grows l o xs t u false e h = adds_same l _ o.items o.frames (object_at o xs) _ (here o + 1) (name (named t.place u)) t (at_open l _) (filled_cons _ _) refl (shows_at (here o + 1) t (tok.Name u) e refl)

key_sign_grows : (l : ℕ) (o : Outer) (xs : List Property) (t : Token) (s : Punctuator) → here o + 1 ≤ l → t.kind ≡ tok.Punctuator s → Grows l (inside o (object_at o xs)) t (on_key_sign o xs s)
key_sign_grows l o xs t p.CloseBrace v e = close_object_grows l o xs (object_at o xs) t v (filled_cons _ _) (close_none (here o + 1) [] p.OpenBrace p.CloseBrace (map (property_at (here o + 1)) xs)) (shows_sign (here o + 1) p.CloseBrace t e)
key_sign_grows l o xs t _ v e = tt

found_key_grows : (l : ℕ) (o : Outer) (xs : List Property) (t : Token) (k : Option Key) → KeyShows t k → Grows l (inside o (object_at o xs)) t (on_found_key o xs k)
found_key_grows l o xs t (Some k) h = adds_same l _ o.items o.frames (object_at o xs) _ (here o + 1) (key k) t (at_open l _) (filled_cons _ _) refl (shows (here o + 1) (key k) t (key_flat k) h)
found_key_grows l o xs t None h = tt

key_kind_grows : (l : ℕ) (o : Outer) (xs : List Property) (t : Token) (k : TokenKind) → here o + 1 ≤ l → t.kind ≡ k → Grows l (inside o (object_at o xs)) t (on_key o xs t.place k)
key_kind_grows l o xs t (tok.Name u) v e = key_name_grows l o xs t u (is_async u) e refl
key_kind_grows l o xs t (tok.Punctuator s) v e = key_sign_grows l o xs t s v e
key_kind_grows l o xs t k v e = found_key_grows l o xs t (key_of t.place k) (key_shows t k e)

pub key_grows : (l : ℕ) (o : Outer) (xs : List Property) (t : Token) → here o + 1 ≤ l → Grows l (inside o (object_at o xs)) t (on_key o xs t.place t.kind)
key_grows l o xs t v = key_kind_grows l o xs t t.kind v refl

pub other_key_grows : (l : ℕ) (o : Outer) (xs : List Property) (k : Key) (t : Token) (x : TokenKind) → t.kind ≡ x → Grows l (inside o (object_at o xs ++ up (here o + 1) (key k) ∷ [])) t (on_other_key o xs k x)
other_key_grows l o xs k t (tok.Punctuator p.Colon) e =
    adds_same l _ o.items o.frames (object_at o xs ++ up (here o + 1) (key k) ∷ []) (object_at o xs ++ up (here o + 1) (key k) ∷ up (here o + 1) (just p.Colon) ∷ []) (here o + 1) (just p.Colon) t (at_open l _) (filled_cons _ _)
    (append_assoc (object_at o xs) (up (here o + 1) (key k) ∷ []) (up (here o + 1) (just p.Colon) ∷ [])) (shows_sign (here o + 1) p.Colon t e)
other_key_grows l o xs k t (tok.Punctuator p.OpenParen) e = adds_same l _ o.items o.frames (object_at o xs ++ up (here o + 1) (key k) ∷ []) _ (here o + 1 + 1) (just p.OpenParen) t (at_open l _) (filled_cons _ _) refl (shows_sign (here o + 1 + 1) p.OpenParen t e)
other_key_grows l o xs k t _ e = tt

name_any_name : (m : ℕ) (n : Name) (fs : List Form) → Covers (up m (name n) ∷ fs) (up m (any_name n) ∷ fs)
name_any_name m n fs = covers_wider (up m (name n)) (up m (any_name n)) fs (λ ps h. elim h [ inl a ↦ inl a | inr b ↦ absurd b ])

short_forms : (m : ℕ) (xs : List Property) (n : Name) → object_front m xs ++ up m (name n) ∷ [] ≡ object_front m xs ++ property_at m (property.Short n)
short_forms m xs n = ap (λ (z : List Form). object_front m xs ++ z) (sym (property_short m n))

pub name_key_grows : (l : ℕ) (o : Outer) (xs : List Property) (n : Name) (t : Token) → here o + 1 ≤ l → Grows l (inside o (object_at o xs ++ up (here o + 1) (name n) ∷ [])) t (on_name_key o xs n t.kind)
name_key_grows l o xs n t v =
    grows_cond l _ t (is_comma t.kind) (to o (at.Key (xs ++ property.Short n ∷ []))) (cond (is_close_brace t.kind) (close_object o (xs ++ property.Short n ∷ [])) (on_other_key o xs (keys.Name n) t.kind))
    (λ h. property_comma l o xs (property.Short n) _ t (short_forms (here o + 1) xs n) (comma_is t.kind h))
    (λ h. grows_cond l _ t (is_close_brace t.kind) (close_object o (xs ++ property.Short n ∷ [])) (on_other_key o xs (keys.Name n) t.kind)
    (λ k. property_close l o xs (property.Short n) _ t v (short_forms (here o + 1) xs n) (close_brace_is t.kind k))
    (λ k. grows_from l _ (inside o (object_at o xs ++ up (here o + 1) (key (keys.Name n)) ∷ [])) t (on_other_key o xs (keys.Name n) t.kind) (inside_covers o _ _ (within_front (object_at o xs) _ _ (filled_cons _ _) (name_any_name (here o + 1) n []))) (other_key_grows l o xs (keys.Name n) t t.kind refl)))

async_key_name : (l : ℕ) (o : Outer) (xs : List Property) (n : Name) (t : Token) → here o + 1 ≤ l → Grows l (inside o (object_at o xs ++ up (here o + 1) (async_name n) ∷ [])) t (on_async_name o xs n t.kind)
async_key_name l o xs n t v =
    grows_cond l _ t (is_open_bracket t.kind) (refuse_at spot.Key) (on_name_key o xs n t.kind) (λ h. tt)
    (λ h. grows_from l _ (inside o (object_at o xs ++ up (here o + 1) (name n) ∷ [])) t (on_name_key o xs n t.kind) (inside_covers o _ _ (within_front (object_at o xs) _ _ (filled_cons _ _) (async_name_within (here o + 1) n []).all)) (name_key_grows l o xs n t v))

line_flat : (k : Key) → IsFlat (map first_unbroken (key k))
line_flat (keys.Name n) = ((refl, tt), ((refl, tt), tt))
line_flat (keys.Text u) = ((refl, tt), tt)
line_flat (keys.Number n) = ((refl, tt), tt)

line_up : (m : ℕ) (k : Key) → up m (map first_unbroken (key k)) ≡ map first_unbroken (up m (key k))
line_up m (keys.Name n) = refl
line_up m (keys.Text u) = refl
line_up m (keys.Number n) = refl

async_found_grows : (l : ℕ) (o : Outer) (xs : List Property) (n : Name) (t : Token) (k : Option Key) → here o + 1 ≤ l → LineKeyShows t k → Grows l (inside o (object_at o xs ++ up (here o + 1) (async_name n) ∷ [])) t (on_async_found o xs n t.kind k)
async_found_grows l o xs n t (Some k) v h =
    let m : ℕ = here o + 1 in
    adds_in l _ o.items o.frames (object_at o xs ++ up m (async_name n) ∷ []) (object_at o xs ++ perhaps_at m true (up m (key k) ∷ [])) m (map first_unbroken (key k)) t (at_open l _) (filled_cons _ _)
    (within_trans _ (object_at o xs ++ up m (async_name n) ∷ map first_unbroken (up m (key k)) ∷ []) _
    (within_same _ _ (append_assoc (object_at o xs) (up m (async_name n) ∷ []) (up m (map first_unbroken (key k)) ∷ []) ∙ ap (λ (z : Form). object_at o xs ++ up m (async_name n) ∷ z ∷ []) (line_up m k)))
    (within_front (object_at o xs) _ _ (filled_cons _ _) (async_word_within m n (map first_unbroken (up m (key k)) ∷ [])).all)) (shows m (map first_unbroken (key k)) t (line_flat k) h)
async_found_grows l o xs n t None v h = async_key_name l o xs n t v

pub async_key_grows : (l : ℕ) (o : Outer) (xs : List Property) (n : Name) (t : Token) → here o + 1 ≤ l → Grows l (inside o (object_at o xs ++ up (here o + 1) (async_name n) ∷ [])) t (on_async_key o xs n t)
async_key_grows l o xs n t v =
    grows_cond l _ t t.after_line_end (on_async_name o xs n t.kind) (on_async_found o xs n t.kind (key_of t.place t.kind))
    (λ h. async_key_name l o xs n t v) (λ h. async_found_grows l o xs n t (key_of t.place t.kind) v (line_key_shows t t.kind refl h))

pub async_method_grows : (l : ℕ) (o : Outer) (xs : List Property) (k : Key) (t : Token) → Grows l (inside o (object_at o xs ++ perhaps_at (here o + 1) true (up (here o + 1) (key k) ∷ []))) t (on_async_method o xs k t.kind)
async_method_grows l o xs k t =
    grows_cond l _ t (is_open_paren t.kind) (to o (at.Parameters (head.Method true xs k) [])) refuse
    (λ h. adds_same l _ o.items o.frames (object_at o xs ++ perhaps_at (here o + 1) true (up (here o + 1) (key k) ∷ [])) _ (here o + 1 + 1) (just p.OpenParen) t (at_open l _) (filled_cons _ _) refl (shows_sign (here o + 1 + 1) p.OpenParen t (open_paren_is t.kind h))) (λ h. tt)

pub property_end_grows : (l : ℕ) (o : Outer) (xs : List Property) (t : Token) → here o + 1 ≤ l → Grows l (inside o (up (here o + 1) (just p.OpenBrace) ∷ ended_at (here o + 1) (map (property_at (here o + 1)) xs))) t (on_property_end o xs t.kind)
property_end_grows l o xs t v =
    let m : ℕ = here o + 1 in
    grows_cond l _ t (is_comma t.kind) (to o (at.Key xs)) (cond (is_close_brace t.kind) (close_object o xs) refuse)
    (λ h. adds_in l _ o.items o.frames (up m (just p.OpenBrace) ∷ ended_at m (map (property_at m) xs)) (object_at o xs) m (just p.Comma) t (at_open l _) (filled_cons _ _) (within_behind (up m (just p.OpenBrace)) _ _ (ended_comma m (map (property_at m) xs))) (shows_sign m p.Comma t (comma_is t.kind h)))
    (λ h. grows_cond l _ t (is_close_brace t.kind) (close_object o xs) refuse
    (λ k. close_object_grows l o xs (up m (just p.OpenBrace) ∷ ended_at m (map (property_at m) xs)) t v (filled_cons _ _) (within_behind (up m (just p.OpenBrace)) _ _ (covers_before _ _ (up m (just p.CloseBrace) ∷ []) (ended_listed m (map (property_at m) xs)))) (shows_sign m p.CloseBrace t (close_brace_is t.kind k)))
    (λ k. tt))

-- ---- functions

pub async_append : (n : ℕ) (a : Bool) (f : Form) (fs x : List Form) → perhaps_at n a (f ∷ fs) ++ x ≡ perhaps_at n a (f ∷ (fs ++ x))
async_append n true f fs x = refl
async_append n false f fs x = refl

abbrev function_word : ℕ → Bool → List Form
function_word n a = perhaps_at n a (up n (reserved r.Function) ∷ [])

named_head_forms : (n : ℕ) (d a : Bool) (x : Name) → function_word n a ++ up n (name x) ∷ [] ≡ head_front n (named_head d a x)
named_head_forms n true a x = async_append n a (up n (reserved r.Function)) [] (up n (name x) ∷ [])
named_head_forms n false a x = async_append n a (up n (reserved r.Function)) [] (up n (name x) ∷ [])

nameless_grows : (l : ℕ) (o : Outer) (d a : Bool) (t : Token) → t.kind ≡ tok.Punctuator p.OpenParen → Grows l (inside o (function_word (here o) a)) t (nameless o d a)
nameless_grows l o true a t e = tt
nameless_grows l o false a t e = adds_same l _ o.items o.frames (function_word (here o) a) _ (here o + 1) (just p.OpenParen) t (at_open l _) (filled_async (here o) a _ _) refl (shows_sign (here o + 1) p.OpenParen t e)

pub function_name_grows : (l : ℕ) (o : Outer) (d a : Bool) (t : Token) (k : TokenKind) → t.kind ≡ k → Grows l (inside o (function_word (here o) a)) t (on_function_name o d a t.place k)
function_name_grows l o d a t (tok.Name u) e =
    adds_same l _ o.items o.frames (function_word (here o) a) _ (here o) (name (named t.place u)) t (at_open l _) (filled_async (here o) a _ _) (named_head_forms (here o) d a (named t.place u)) (shows_at (here o) t (tok.Name u) e refl)
function_name_grows l o d a t (tok.Punctuator p.OpenParen) e = nameless_grows l o d a t e
function_name_grows l o d a t _ e = tt

pub parameters_open_grows : (l : ℕ) (o : Outer) (h : Head) (t : Token) → Grows l (inside o (head_front (here o) h)) t (on_parameters_open o h t.kind)
parameters_open_grows l o h t =
    grows_cond l _ t (is_open_paren t.kind) (to o (at.Parameters h [])) refuse
    (λ e. adds_same l _ o.items o.frames (head_front (here o) h) _ (head_level (here o) h) (just p.OpenParen) t (at_open l _) (filled_head (here o) h) refl (shows_sign (head_level (here o) h) p.OpenParen t (open_paren_is t.kind e))) (λ e. tt)

abbrev parameters_front : ℕ → Head → List Name → List Form
parameters_front n h ns = head_front n h ++ up (head_level n h) (just p.OpenParen) ∷ commaed_at (head_level n h) (names_at (head_level n h) ns)

pub parameters_grows : (l : ℕ) (o : Outer) (h : Head) (ns : List Name) (t : Token) (k : TokenKind) → head_level (here o) h ≤ l → t.kind ≡ k → Grows l (inside o (parameters_front (here o) h ns)) t (on_parameters o h ns t.place k)
parameters_grows l o h ns t (tok.Name u) v e =
    let m : ℕ = head_level (here o) h in
    adds_same l _ o.items o.frames (parameters_front (here o) h ns) _ m (name (named t.place u)) t (at_open l _) (filled_before _ _ (filled_head (here o) h))
    (append_assoc (head_front (here o) h) (up m (just p.OpenParen) ∷ commaed_at m (names_at m ns)) (up m (name (named t.place u)) ∷ [])) (shows_at m t (tok.Name u) e refl)
parameters_grows l o h ns t (tok.Punctuator p.CloseParen) v e =
    let m : ℕ = head_level (here o) h in
    adds_in l _ o.items o.frames (parameters_front (here o) h ns) (head_front (here o) h ++ parameters_at m ns) m (just p.CloseParen) t (at_close l m (here o) (head_rises (here o) h) v) (filled_before _ _ (filled_head (here o) h))
    (close_none m (head_front (here o) h) p.OpenParen p.CloseParen (names_at m ns)) (shows_sign m p.CloseParen t e)
parameters_grows l o h ns t _ v e = tt

abbrev parameter_read : ℕ → Head → List Name → Name → List Form
parameter_read n h ns x = head_front n h ++ up (head_level n h) (just p.OpenParen) ∷ (commaed_at (head_level n h) (names_at (head_level n h) ns) ++ up (head_level n h) (name x) ∷ [])

read_forms : (n : ℕ) (h : Head) (ns : List Name) (x : Name) → parameter_read n h ns x ≡ parameters_front n h ns ++ name_at (head_level n h) x
read_forms n h ns x = sym (append_assoc (head_front n h) (up (head_level n h) (just p.OpenParen) ∷ commaed_at (head_level n h) (names_at (head_level n h) ns)) (up (head_level n h) (name x) ∷ []))

pub parameter_read_grows : (l : ℕ) (o : Outer) (h : Head) (ns : List Name) (n : Name) (t : Token) (k : TokenKind) → head_level (here o) h ≤ l → t.kind ≡ k → Grows l (inside o (parameter_read (here o) h ns n)) t (on_parameter_read o h ns n k)
parameter_read_grows l o h ns n t (tok.Punctuator p.Comma) v e =
    let m : ℕ = head_level (here o) h in
    adds_same l _ o.items o.frames (parameter_read (here o) h ns n) (parameters_front (here o) h (ns ++ n ∷ [])) m (just p.Comma) t (at_open l _) (filled_before _ _ (filled_head (here o) h))
    (ap (λ (z : List Form). z ++ up m (just p.Comma) ∷ []) (read_forms (here o) h ns n) ∙ comma_item m (head_front (here o) h) p.OpenParen (names_at m ns) (name_at m n) ∙ ap (λ (z : List (List Form)). head_front (here o) h ++ up m (just p.OpenParen) ∷ commaed_at m z) (names_push m ns n)) (shows_sign m p.Comma t e)
parameter_read_grows l o h ns n t (tok.Punctuator p.CloseParen) v e =
    let m : ℕ = head_level (here o) h in
    adds_in l _ o.items o.frames (parameter_read (here o) h ns n) (head_front (here o) h ++ parameters_at m (ns ++ n ∷ [])) m (just p.CloseParen) t (at_close l m (here o) (head_rises (here o) h) v) (filled_before _ _ (filled_head (here o) h))
    (within_trans _ _ _ (within_same _ _ (ap (λ (z : List Form). z ++ up m (just p.CloseParen) ∷ []) (read_forms (here o) h ns n)))
    (within_trans _ _ _ (close_item m (head_front (here o) h) p.OpenParen p.CloseParen (names_at m ns) (name_at m n)) (within_same _ _ (ap (λ (z : List (List Form)). head_front (here o) h ++ bracketed_at m (listed_at m z)) (names_push m ns n))))) (shows_sign m p.CloseParen t e)
parameter_read_grows l o h ns n t _ v e = tt

pub body_open_grows : (l : ℕ) (o : Outer) (h : Head) (ns : List Name) (t : Token) → Grows l (inside o (head_front (here o) h ++ parameters_at (head_level (here o) h) ns)) t (on_body_open o h ns t.kind)
body_open_grows l o h ns t =
    let m : ℕ = head_level (here o) h in
    grows_cond l _ t (is_open_brace t.kind) (open_block o (head_constructs h) (block.Function h ns)) refuse
    (λ e. adds_same l _ o.items o.frames (head_front (here o) h ++ parameters_at m ns) _ m (just p.OpenBrace) t (at_open l _) (filled_before _ _ (filled_head (here o) h))
    (append_assoc (head_front (here o) h) (parameters_at m ns) (up m (just p.OpenBrace) ∷ []) ∙ sym (append-nil (block_front (here o) false (block.Function h ns)))) (shows_sign m p.OpenBrace t (open_brace_is t.kind e))) (λ e. tt)
