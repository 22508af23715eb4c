-- Members of objects are read.
use Rattle.std.proofs.Common.{◌≡◌, ℕ, Bool, true, false, List, [], ◌∷◌, ◌++◌, ◌⊎◌, map, Option, Some, None, Ok, refl, sym, ap, ◌∙◌, subst, inl, inr}
use Rattle.js_lex.specs.declared.token.Punctuator.TheVariants as p
use Rattle.js_lex.specs.declared.token.Reserved.{Reserved}
use Rattle.js_lex.specs.declared.token.TokenKind.{TokenKind}
use Rattle.js_lex.specs.declared.token.TokenKind.TheVariants as tok
use Rattle.js_lex.specs.declared.token.Token.{Token}
use Rattle.js_lex.specs.Front.{name_kind}
use Rattle.js_tree.specs.declared.tree.Name.{Name}
use Rattle.js_tree.specs.declared.tree.Key.{Key}
use Rattle.js_tree.specs.declared.tree.Key.TheVariants as keys
use Rattle.js_tree.specs.declared.tree.Expr.{Expr}
use Rattle.js_tree.specs.declared.tree.Function.{Function}
use Rattle.js_tree.specs.declared.tree.Property.{Property}
use Rattle.js_tree.specs.declared.tree.Property.TheVariants as property
use Rattle.js_grammar.specs.Marks.{Piece, Read, Form, At, mark, sign, just, one, deeper_mark, deeper, listed, unbroken, first_unbroken}
use Rattle.js_grammar.specs.Grammar.{WrittenFunction, name, key, perhaps_async, of_expr, of_property, of_function, block, of_stmt, name_forms}
use Rattle.js_grammar.specs.Shapes as shape
use Rattle.js_parse_core.specs.declared.machine.At.TheVariants as at
use Rattle.js_parse_core.specs.declared.machine.Frame.TheVariants as frame
use Rattle.js_parse_core.specs.declared.machine.Head.{Head}
use Rattle.js_parse_core.specs.declared.machine.Head.TheVariants as head
use Rattle.js_parse_core.specs.declared.machine.Outer.{Outer}
use Rattle.js_parse_core.specs.declared.machine.Purpose.TheVariants as purpose
use Rattle.js_parse_core.specs.declared.machine.State.{State}
use Rattle.js_parse_core.specs.Outer.{to, plus, constructs, push, wait}
use Rattle.js_parse_core.specs.Objects.{on_property_end, on_found_key, on_key_name, named_key, on_async_found}
use Rattle.js_parse_core.specs.Statements.{close_function}
use Rattle.js_parse_core.specs.Tokens.{any_name, is_async}
use Rattle.js_parse_core.specs.Tokens as tokens
use Rattle.js_parse_core.specs.Values.{on_value}
use Rattle.js_parse_core.proofs.Pieces.{Fits, is_last, take}
use Rattle.js_parse_core.proofs.PieceLemmas.{take_is}
use Rattle.js_grammar.proofs.Equations.{written_pair, written_short, written_method, written_function}
use Rattle.js_parse_core.proofs.ShapeEquations.{shape_pair, shape_method}
use Rattle.js_parse_core.proofs.Words.{any_name_is, word_is_read}
use Rattle.js_parse_core.proofs.Readings.{token, kind_closes, free, ReadsValue, ReadsFunction}
use Rattle.js_parse_core.proofs.Reaches.{Goal, Leads, Reaches, did, leads_is, leads_piece, leads_same, leads_run, take_token, reaches_none, reaches_same, reaches_either, reaches_each, reaches_token, reaches_at, reaches_just, piece_leads, First, first_one, TokenRead, token_read}
use Rattle.js_parse_core.proofs.Completes.{takes}
use Rattle.js_parse_core.proofs.ReadsStatements.{ReadsProperty, EndsProperty}
use Rattle.js_parse_core.proofs.ValueSteps.{value_reaches, stands_waiting}
use Rattle.js_parse_core.proofs.Literals.{async_units}

-- ---- behind a key

-- a state in which this key was read
pub record KeyState (k : Key) (o : Outer) (xs : List Property) (s : State) : Type 0 where
  pub colon : (q : ℕ) (l : Bool) → did s (token q l (tok.Punctuator p.Colon)) ≡ wait o 1 (purpose.Pair xs k)
  pub paren : (q : ℕ) (l : Bool) → did s (token q l (tok.Punctuator p.OpenParen)) ≡ to o (at.Parameters (head.Method false xs k) [])

other_key : (k : Key) (o : Outer) (xs : List Property) → KeyState k o xs (record { outer = o; at = at.OtherKey xs k })
other_key k o xs = record { colon = λ q l. refl; paren = λ q l. refl }

async_colon : (n : Name) (o : Outer) (xs : List Property) (q : ℕ) (l : Bool) → did (record { outer = o; at = at.AsyncKey xs n }) (token q l (tok.Punctuator p.Colon)) ≡ wait o 1 (purpose.Pair xs (keys.Name n))
async_colon n o xs q true = refl
async_colon n o xs q false = refl

async_paren : (n : Name) (o : Outer) (xs : List Property) (q : ℕ) (l : Bool) → did (record { outer = o; at = at.AsyncKey xs n }) (token q l (tok.Punctuator p.OpenParen)) ≡ to o (at.Parameters (head.Method false xs (keys.Name n)) [])
async_paren n o xs q true = refl
async_paren n o xs q false = refl

-- a name as the key, and the state behind it
record Named (n : Name) (o : Outer) (xs : List Property) (s : State) : Type 0 where
  steps : on_key_name o xs n (is_async n.units) ≡ Ok s
  key : KeyState (keys.Name n) o xs s
  comma : (q : ℕ) (l : Bool) → did s (token q l (tok.Punctuator p.Comma)) ≡ on_property_end o (xs ++ property.Short n ∷ []) (tok.Punctuator p.Comma)
  brace : (q : ℕ) (l : Bool) → did s (token q l (tok.Punctuator p.CloseBrace)) ≡ on_property_end o (xs ++ property.Short n ∷ []) (tok.Punctuator p.CloseBrace)

abbrev named_state : Outer → List Property → Name → Bool → State
named_state o xs n true = record { outer = o; at = at.AsyncKey xs n }
named_state o xs n false = record { outer = o; at = at.NameKey xs n }

async_comma : (n : Name) (o : Outer) (xs : List Property) (q : ℕ) (l : Bool) → did (record { outer = o; at = at.AsyncKey xs n }) (token q l (tok.Punctuator p.Comma)) ≡ on_property_end o (xs ++ property.Short n ∷ []) (tok.Punctuator p.Comma)
async_comma n o xs q true = refl
async_comma n o xs q false = refl

async_brace : (n : Name) (o : Outer) (xs : List Property) (q : ℕ) (l : Bool) → did (record { outer = o; at = at.AsyncKey xs n }) (token q l (tok.Punctuator p.CloseBrace)) ≡ on_property_end o (xs ++ property.Short n ∷ []) (tok.Punctuator p.CloseBrace)
async_brace n o xs q true = refl
async_brace n o xs q false = refl

named_by : (n : Name) (o : Outer) (xs : List Property) (b : Bool) → is_async n.units ≡ b → Named n o xs (named_state o xs n b)
named_by n o xs true e = record {
  steps = ap (on_key_name o xs n) e;
  key = record { colon = async_colon n o xs; paren = async_paren n o xs };
  comma = async_comma n o xs;
  brace = async_brace n o xs;
}
named_by n o xs false e = record {
  steps = ap (on_key_name o xs n) e;
  key = record { colon = λ q l. refl; paren = λ q l. refl };
  comma = λ q l. refl;
  brace = λ q l. refl;
}

named : (n : Name) (o : Outer) (xs : List Property) → Named n o xs (named_state o xs n (is_async n.units))
named n o xs = named_by n o xs (is_async n.units) refl

abbrev units_in : Option Name → List ℕ
units_in (Some n) = n.units
units_in None = []

-- a token that a name stands for is that name or a reserved word
name_or_word : (q : ℕ) (u : List ℕ) (k : TokenKind) → any_name q k ≡ Some (tokens.name q u) → (k ≡ tok.Name u) ⊎ ((x : Reserved) × (k ≡ tok.Reserved x))
name_or_word q u (tok.Name z) e = inl (ap (λ (y : List ℕ). tok.Name y) (ap units_in e))
name_or_word q u (tok.Reserved x) e = inr (x, refl)
name_or_word q u _ e = cc

-- the key n, and what stands behind it
name_reads : (n : Name) (o : Outer) (xs : List Property) (k : TokenKind) (fs : List Form) (g : Goal) (rest : List Piece) → any_name n.place k ≡ Some n → is_last k ≡ false
    → ((s : State) → KeyState (keys.Name n) o xs s → Reaches g (Ok s) fs rest) → Reaches g (to o (at.Key xs)) (one (mark (At n.place k)) ∷ fs) rest
name_reads n o xs k fs g rest e i h = elim (name_or_word n.place n.units k e) [
  | inl c ↦ (let v = named n o xs in
      reaches_at g (record { outer = o; at = at.Key xs }) (Ok (named_state o xs n (is_async n.units))) n.place k false 0 fs rest i
      (λ l u. ap (λ (z : TokenKind). did (record { outer = o; at = at.Key xs }) (token n.place l z)) c ∙ v.steps) (h (named_state o xs n (is_async n.units)) v.key))
  | inr c ↦ reaches_at g (record { outer = o; at = at.Key xs }) (to o (at.OtherKey xs (keys.Name n))) n.place k false 0 fs rest i
      (λ l u. ap (λ (z : TokenKind). did (record { outer = o; at = at.Key xs }) (token n.place l z)) c.1
      ∙ ap (λ (z : Option Name). on_found_key o xs (named_key z)) (sym (ap (any_name n.place) c.1) ∙ e))
      (h (record { outer = o; at = at.OtherKey xs (keys.Name n) }) (other_key (keys.Name n) o xs))
]

pub key_reads : (k : Key) (o : Outer) (xs : List Property) (fs : List Form) (g : Goal) (rest : List Piece) → ((s : State) → KeyState k o xs s → Reaches g (Ok s) fs rest) → Reaches g (to o (at.Key xs)) (key k ∷ fs) rest
key_reads (keys.Name n) o xs fs g rest h = reaches_either g (to o (at.Key xs)) [] (mark (At n.place (tok.Name n.units))) (mark (At n.place (name_kind n.units))) fs rest
    (name_reads n o xs (tok.Name n.units) fs g rest refl refl h)
    (name_reads n o xs (name_kind n.units) fs g rest (any_name_is n.place n.units) (word_is_read n.units) h)
key_reads (keys.Text u) o xs fs g rest h = reaches_token g (record { outer = o; at = at.Key xs }) (to o (at.OtherKey xs (keys.Text u))) (tok.Text u) false 0 fs rest refl (λ q l z. refl)
    (h (record { outer = o; at = at.OtherKey xs (keys.Text u) }) (other_key (keys.Text u) o xs))
key_reads (keys.Number n) o xs fs g rest h = reaches_token g (record { outer = o; at = at.Key xs }) (to o (at.OtherKey xs (keys.Number n))) (tok.Number n) false 0 fs rest refl (λ q l z. refl)
    (h (record { outer = o; at = at.OtherKey xs (keys.Number n) }) (other_key (keys.Number n) o xs))

-- ---- a key and a value

pair_ends : (o : Outer) (xs : List Property) (k : Key) (x : Expr) (t : Token) → EndsProperty t.kind → on_value false o (purpose.Pair xs k) x t ≡ on_property_end o (xs ++ property.Pair k x ∷ []) t.kind
pair_ends o xs k x t e = elim e [
  | inl c ↦ ap (λ (z : TokenKind). on_value false o (purpose.Pair xs k) x (token t.place t.after_line_end z)) c ∙ sym (ap (on_property_end o (xs ++ property.Pair k x ∷ [])) c)
  | inr c ↦ ap (λ (z : TokenKind). on_value false o (purpose.Pair xs k) x (token t.place t.after_line_end z)) c ∙ sym (ap (on_property_end o (xs ++ property.Pair k x ∷ [])) c)
]

ends_closes : (k : TokenKind) → EndsProperty k → kind_closes k ≡ true
ends_closes k e = elim e [
  | inl c ↦ ap kind_closes c
  | inr c ↦ ap kind_closes c
]

pub reads_pair : (k : Key) (x : Expr) → ReadsValue x → ReadsProperty (property.Pair k x)
reads_pair k x rv = record {
  reads = λ o xs t g rest f e c.
      reaches_same g (to o (at.Key xs)) (of_property (property.Pair k x)) (key k ∷ just p.Colon ∷ (of_expr x).forms) (Read t ∷ rest) (written_pair k x)
      (key_reads k o xs (just p.Colon ∷ (of_expr x).forms) g (Read t ∷ rest) (λ s a.
      reaches_just g s (wait o 1 (purpose.Pair xs k)) p.Colon (of_expr x).forms (Read t ∷ rest) a.colon
      (value_reaches x free (record { outer = push o 1 (frame.Purpose (purpose.Pair xs k)); at = at.Begin }) o (plus (constructs o) 1) (purpose.Pair xs k) (of_expr x).forms (Read t) g rest
      (stands_waiting x o 1 (purpose.Pair xs k) rv (sym (shape_pair k x) ∙ f) refl) (ends_closes t.kind e)
      (leads_is g (on_value false o (purpose.Pair xs k) x t) (on_property_end o (xs ++ property.Pair k x ∷ []) t.kind) rest (pair_ends o xs k x t e) c))));
}

-- ---- a name alone

short_leads : (n : Name) (o : Outer) (xs : List Property) (t : Token) (g : Goal) (rest : List Piece) → EndsProperty t.kind → Leads g (on_property_end o (xs ++ property.Short n ∷ []) t.kind) rest
    → Leads g (Ok (named_state o xs n (is_async n.units))) (Read t ∷ rest)
short_leads n o xs t g rest e k =
    let s : State = named_state o xs n (is_async n.units) in
    let v : Named n o xs s = named n o xs in
    leads_piece g s (Read t) rest (elim e [
      | inl c ↦ leads_is g _ (on_property_end o (xs ++ property.Short n ∷ []) t.kind) rest (take_token s t (tok.Punctuator p.Comma) c refl ∙ v.comma t.place t.after_line_end ∙ sym (ap (on_property_end o (xs ++ property.Short n ∷ [])) c)) k
      | inr c ↦ leads_is g _ (on_property_end o (xs ++ property.Short n ∷ []) t.kind) rest (take_token s t (tok.Punctuator p.CloseBrace) c refl ∙ v.brace t.place t.after_line_end ∙ sym (ap (on_property_end o (xs ++ property.Short n ∷ [])) c)) k
    ])

pub reads_short : (n : Name) → ReadsProperty (property.Short n)
reads_short n = record {
  reads = λ o xs t g rest f e c.
      let s : State = named_state o xs n (is_async n.units) in
      let v : Named n o xs s = named n o xs in
      reaches_same g (to o (at.Key xs)) (of_property (property.Short n)) (name n ∷ []) (Read t ∷ rest) (written_short n)
      (reaches_at g (record { outer = o; at = at.Key xs }) (Ok s) n.place (tok.Name n.units) false 0 [] (Read t ∷ rest) refl (λ l u. v.steps)
      (reaches_none g (Ok s) (Read t ∷ rest) (short_leads n o xs t g rest e c)));
}

-- ---- methods

-- the parameters and the body, from a state that takes the bracket
pub function_from : (s : State) (o : Outer) (h : Head) (f : Function) (g : Goal) (rest : List Piece) → ReadsFunction f → ((q : ℕ) (l : Bool) → did s (token q l (tok.Punctuator p.OpenParen)) ≡ to o (at.Parameters h [])) → shape.of_function f ≡ true
    → Leads g (close_function o h f.parameters f.body) rest → Reaches g (Ok s) (of_function f).forms rest
function_from s o h f g rest rf e fits k = record {
  reaches = λ ps fit.
      let begin : State = record { outer = o; at = at.ParametersOpen h } in
      let others : List Form = deeper 1 (listed (map name_forms f.parameters) ++ just p.CloseParen ∷ []) ++ block (map of_stmt f.body) in
      let x : First (deeper_mark 1 (sign p.OpenParen)) others ps = first_one (deeper_mark 1 (sign p.OpenParen)) others ps (subst (λ (z : WrittenFunction). Fits z.forms ps) (written_function f) fit) in
      let t : TokenRead (tok.Punctuator p.OpenParen) x.piece = token_read (tok.Punctuator p.OpenParen) x.piece x.wanted in
      let bracket : Piece = Read (token t.place t.line (tok.Punctuator p.OpenParen)) in
      let are : ps ++ rest ≡ bracket ∷ (x.others ++ rest) = ap (λ (z : List Piece). z ++ rest) x.are ∙ ap (λ (z : Piece). z ∷ (x.others ++ rest)) t.is in
      let whole : Leads g (Ok begin) (ps ++ rest) = leads_run g begin (ps ++ rest) rest (close_function o h f.parameters f.body) (rf.reads o h ps rest fits fit) k in
      let behind : Leads g (take begin bracket) (x.others ++ rest) = piece_leads g begin bracket (x.others ++ rest) (leads_same g (Ok begin) (bracket ∷ (x.others ++ rest)) (ps ++ rest) (sym are) whole) in
      leads_same g (Ok s) (ps ++ rest) (bracket ∷ (x.others ++ rest)) are
      (leads_piece g s bracket (x.others ++ rest) (leads_is g (take s bracket) (take begin bracket) (x.others ++ rest)
      (take_is s (token t.place t.line (tok.Punctuator p.OpenParen)) refl ∙ e t.place t.line ∙ sym (take_is begin (token t.place t.line (tok.Punctuator p.OpenParen)) refl)) behind));
}

ends_read : (k : TokenKind) → EndsProperty k → is_last k ≡ false
ends_read k e = elim e [
  | inl c ↦ ap is_last c
  | inr c ↦ ap is_last c
]

method_closes : (o : Outer) (a : Bool) (xs : List Property) (k : Key) (f : Function) (t : Token) (g : Goal) (rest : List Piece) → a ≡ f.is_async → EndsProperty t.kind → Leads g (on_property_end o (xs ++ property.Method k f ∷ []) t.kind) rest
    → Leads g (close_function o (head.Method a xs k) f.parameters f.body) (Read t ∷ rest)
method_closes o a xs k f t g rest e d h =
    leads_is g (close_function o (head.Method a xs k) f.parameters f.body) (to o (at.PropertyEnd (xs ++ property.Method k f ∷ []))) (Read t ∷ rest) (ap (λ (z : Bool). close_function o (head.Method z xs k) f.parameters f.body) e)
    (takes g (record { outer = o; at = at.PropertyEnd (xs ++ property.Method k f ∷ []) }) t rest (ends_read t.kind d) h)

-- behind `async`, on its line
async_named : (o : Outer) (xs : List Property) (n m : Name) (k : TokenKind) (l : Bool) → l ≡ false → any_name m.place k ≡ Some m → did (record { outer = o; at = at.AsyncKey xs n }) (token m.place l k) ≡ to o (at.AsyncMethod xs (keys.Name m))
async_named o xs n m k true e d = cc
async_named o xs n m k false e d = elim (name_or_word m.place m.units k d) [
  | inl c ↦ ap (λ (z : TokenKind). did (record { outer = o; at = at.AsyncKey xs n }) (token m.place false z)) c
  | inr c ↦ ap (λ (z : TokenKind). did (record { outer = o; at = at.AsyncKey xs n }) (token m.place false z)) c.1
      ∙ ap (λ (z : Option Name). on_async_found o xs n (tok.Reserved c.0) (named_key z)) (sym (ap (any_name m.place) c.1) ∙ d)
]

async_text : (o : Outer) (xs : List Property) (n : Name) (u : List ℕ) (q : ℕ) (l : Bool) → l ≡ false → did (record { outer = o; at = at.AsyncKey xs n }) (token q l (tok.Text u)) ≡ to o (at.AsyncMethod xs (keys.Text u))
async_text o xs n u q true e = cc
async_text o xs n u q false e = refl

async_number : (o : Outer) (xs : List Property) (n : Name) (u : ℕ) (q : ℕ) (l : Bool) → l ≡ false → did (record { outer = o; at = at.AsyncKey xs n }) (token q l (tok.Number u)) ≡ to o (at.AsyncMethod xs (keys.Number u))
async_number o xs n u q true e = cc
async_number o xs n u q false e = refl

key_line : (k : Key) (o : Outer) (xs : List Property) (n : Name) (fs : List Form) (g : Goal) (rest : List Piece) → Reaches g (to o (at.AsyncMethod xs k)) fs rest → Reaches g (to o (at.AsyncKey xs n)) (map first_unbroken (key k) ∷ fs) rest
key_line (keys.Name m) o xs n fs g rest h =
    let s : State = record { outer = o; at = at.AsyncKey xs n } in
    reaches_either g (Ok s) [] (unbroken (mark (At m.place (tok.Name m.units)))) (unbroken (mark (At m.place (name_kind m.units)))) fs rest
    (reaches_at g s (to o (at.AsyncMethod xs (keys.Name m))) m.place (tok.Name m.units) true 0 fs rest refl (λ l u. async_named o xs n m (tok.Name m.units) l (u refl) refl) h)
    (reaches_at g s (to o (at.AsyncMethod xs (keys.Name m))) m.place (name_kind m.units) true 0 fs rest (word_is_read m.units) (λ l u. async_named o xs n m (name_kind m.units) l (u refl) (any_name_is m.place m.units)) h)
key_line (keys.Text u) o xs n fs g rest h = reaches_token g (record { outer = o; at = at.AsyncKey xs n }) (to o (at.AsyncMethod xs (keys.Text u))) (tok.Text u) true 0 fs rest refl (λ q l z. async_text o xs n u q l (z refl)) h
key_line (keys.Number m) o xs n fs g rest h = reaches_token g (record { outer = o; at = at.AsyncKey xs n }) (to o (at.AsyncMethod xs (keys.Number m))) (tok.Number m) true 0 fs rest refl (λ q l z. async_number o xs n m q l (z refl)) h

pub reads_method : (k : Key) (f : Function) → ReadsFunction f → ReadsProperty (property.Method k f)
reads_method k f rf = record {
  reads = λ o xs t g rest fit e c.
      reaches_same g (to o (at.Key xs)) (of_property (property.Method k f)) (perhaps_async f.is_async (key k ∷ (of_function f).forms)) (Read t ∷ rest)
      (written_method k f ∙ ap (λ (z : WrittenFunction). perhaps_async z.is_async (key k ∷ (of_function f).forms)) (written_function f))
      (by_async o xs t g rest (sym (shape_method k f) ∙ fit) e c f.is_async refl);
}
  where
    by_async : (o : Outer) (xs : List Property) (t : Token) (g : Goal) (rest : List Piece) → shape.of_function f ≡ true → EndsProperty t.kind → Leads g (on_property_end o (xs ++ property.Method k f ∷ []) t.kind) rest → (a : Bool) → f.is_async ≡ a
        → Reaches g (to o (at.Key xs)) (perhaps_async a (key k ∷ (of_function f).forms)) (Read t ∷ rest)
    by_async o xs t g rest fits e c false d =
        key_reads k o xs (of_function f).forms g (Read t ∷ rest) (λ s b. function_from s o (head.Method false xs k) f g (Read t ∷ rest) rf b.paren fits (method_closes o false xs k f t g rest (sym d) e c))
    by_async o xs t g rest fits e c true d =
        reaches_each g (record { outer = o; at = at.Key xs }) (tok.Name async_units) false 0 (map first_unbroken (key k) ∷ (of_function f).forms) (Read t ∷ rest) refl (λ q l u.
        key_line k o xs (tokens.name q async_units) (of_function f).forms g (Read t ∷ rest)
        (function_from (record { outer = o; at = at.AsyncMethod xs k }) o (head.Method true xs k) f g (Read t ∷ rest) rf (λ q l. refl) fits (method_closes o true xs k f t g rest (sym d) e c)))
