-- A token, and the piece that it is, behind what a state has read.
use Rattle.std.proofs.Common.{◌≡◌, Bool, true, false, cond, List, [], ◌∷◌, ◌++◌, Ok, Err, refl, sym, ◌∙◌, ap, subst, append_assoc, inl, inr}
use Rattle.std.specs.Prelude.{codes}
use Rattle.std.proofs.lemmas.Bool.{false≢true}
use Rattle.std.proofs.lemmas.Slice.Eq.{bytes_eq-Decides}
use Rattle.js_lex.specs.declared.token.Punctuator.{Punctuator}
use Rattle.js_lex.specs.declared.token.Punctuator.TheVariants as p
use Rattle.js_lex.specs.declared.token.Reserved.{Reserved}
use Rattle.js_lex.specs.declared.token.Reserved.TheVariants as r
use Rattle.js_lex.specs.declared.token.TokenKind.{TokenKind}
use Rattle.js_lex.specs.declared.token.TokenKind.TheVariants as tok
use Rattle.js_lex.specs.declared.token.Token.{Token}
use Rattle.js_tree.specs.declared.tree.Item.{Item}
use Rattle.js_tree.specs.declared.tree.Name.{Name}
use Rattle.js_grammar.specs.Marks.{Piece, Read, Ended, Want, Just, At, Auto, Form, IsWanted, mark, unbroken, one, just, sign, word, end}
use Rattle.js_grammar.specs.Grammar.{name, reserved}
use Rattle.js_parse_core.specs.declared.machine.Open.{Open}
use Rattle.js_parse_core.specs.Outer.{Step}
use Rattle.js_parse_core.specs.Tokens.{is_open_paren, is_close_paren, is_open_brace, is_close_brace, is_close_bracket, is_semicolon, is_comma, is_colon, is_equal, is_arrow, is_else, is_finally, is_default, is_end, is_async, is_of}
use Rattle.js_parse_core.specs.Statements.{ends_statement}
use Rattle.js_parse_core.proofs.Pieces.{SpellsOne, Fits}
use Rattle.js_parse_core.proofs.PieceLemmas.{fits_append}
use Rattle.js_parse_core.proofs.Covers.{Covers, covers_same, covers_trans, covers_behind, Within, within_same}
use Rattle.js_parse_core.proofs.Spelled.{unread, front, is_line, lined, spell, whole_items, async_name, spelled}
use Rattle.js_parse_core.proofs.SpelledLemmas.{Filled, Enters, spell_append, spell_within, enters_front, enters_behind}

-- ---- pieces

-- where no ends are put in, `End` stands for one
abbrev pub piece_of : Token → TokenKind → Piece
piece_of t tok.End = Ended
piece_of t _ = Read t

abbrev pub piece : Token → Piece
piece t = piece_of t t.kind

-- the token is of this form
abbrev pub Shows : Form → Token → Type 0
Shows f t = SpellsOne f (piece t ∷ [])

pub piece_read : (t : Token) (k : TokenKind) → is_end k ≡ false → piece_of t k ≡ Read t
piece_read t tok.End h = absurd (false≢true (sym h))
piece_read t _ h = refl

read_of : (t : Token) (k : TokenKind) → t.kind ≡ k → is_end k ≡ false → Read t ≡ piece t
read_of t k e h = sym (ap (piece_of t) e ∙ piece_read t k h)

pub shows_read : (f : Form) (t : Token) (k : TokenKind) → t.kind ≡ k → is_end k ≡ false → SpellsOne f (Read t ∷ []) → Shows f t
shows_read f t k e h o = subst (λ (z : Piece). SpellsOne f (z ∷ [])) (read_of t k e h) o

pub shows_just : (t : Token) (k : TokenKind) → t.kind ≡ k → is_end k ≡ false → Shows (one (mark (Just k))) t
shows_just t k e h = shows_read (one (mark (Just k))) t k e h (inl (Read t, [], refl, (e, tt), refl))

pub shows_sign : (x : Punctuator) (t : Token) → t.kind ≡ tok.Punctuator x → Shows (just x) t
shows_sign x t e = shows_just t (tok.Punctuator x) e refl

pub shows_line_sign : (x : Punctuator) (t : Token) → t.kind ≡ tok.Punctuator x → t.after_line_end ≡ false → Shows (one (unbroken (sign x))) t
shows_line_sign x t e l = shows_read (one (unbroken (sign x))) t (tok.Punctuator x) e refl (inl (Read t, [], refl, (e, l), refl))

pub shows_word : (x : Reserved) (t : Token) → t.kind ≡ tok.Reserved x → Shows (reserved x) t
shows_word x t e = shows_just t (tok.Reserved x) e refl

pub shows_line_word : (x : Reserved) (t : Token) → t.kind ≡ tok.Reserved x → t.after_line_end ≡ false → Shows (one (unbroken (word x))) t
shows_line_word x t e l = shows_read (one (unbroken (word x))) t (tok.Reserved x) e refl (inl (Read t, [], refl, (e, l), refl))

pub shows_at : (t : Token) (k : TokenKind) → t.kind ≡ k → is_end k ≡ false → Shows (one (mark (At t.place k))) t
shows_at t k e h = shows_read (one (mark (At t.place k))) t k e h (inl (Read t, [], refl, (e, refl, tt), refl))

pub shows_line_at : (t : Token) (k : TokenKind) → t.kind ≡ k → is_end k ≡ false → t.after_line_end ≡ false → Shows (one (unbroken (mark (At t.place k)))) t
shows_line_at t k e h l = shows_read (one (unbroken (mark (At t.place k)))) t k e h (inl (Read t, [], refl, (e, refl, l), refl))

pub want_just : (t : Token) (k : TokenKind) → t.kind ≡ k → is_end k ≡ false → IsWanted (Just k) false (piece t)
want_just t k e h = subst (λ (z : Piece). IsWanted (Just k) false z) (read_of t k e h) (e, tt)

pub want_at : (t : Token) (k : TokenKind) → t.kind ≡ k → is_end k ≡ false → IsWanted (At t.place k) false (piece t)
want_at t k e h = subst (λ (z : Piece). IsWanted (At t.place k) false z) (read_of t k e h) (e, refl, tt)

pub want_line : (w : Want) (t : Token) (k : TokenKind) → t.after_line_end ≡ false → IsWanted w false (piece_of t k) → IsWanted w true (piece_of t k)
want_line (Just x) t tok.End l h = h
want_line (Just x) t _ l h = (h.0, l)
want_line (At q x) t tok.End l h = h
want_line (At q x) t _ l h = (h.0, h.1, l)
want_line Auto t tok.End l h = h
want_line Auto t _ l h = h

-- `;`, or an end
pub shows_end : (t : Token) (k : TokenKind) → t.kind ≡ k → ends_statement false k ≡ true → Shows end t
shows_end t tok.End e h = subst (λ (z : Piece). SpellsOne end (z ∷ [])) (sym (ap (piece_of t) e)) (inr (inl (Ended, [], refl, tt, refl)))
shows_end t (tok.Punctuator p.Semicolon) e h = shows_read end t (tok.Punctuator p.Semicolon) e refl (inl (Read t, [], refl, (e, tt), refl))
shows_end t _ e h = absurd (false≢true h)

-- ---- what tokens are

pub open_paren_is : (k : TokenKind) → is_open_paren k ≡ true → k ≡ tok.Punctuator p.OpenParen
open_paren_is (tok.Punctuator p.OpenParen) h = refl
open_paren_is _ h = absurd (false≢true h)

pub close_paren_is : (k : TokenKind) → is_close_paren k ≡ true → k ≡ tok.Punctuator p.CloseParen
close_paren_is (tok.Punctuator p.CloseParen) h = refl
close_paren_is _ h = absurd (false≢true h)

pub open_brace_is : (k : TokenKind) → is_open_brace k ≡ true → k ≡ tok.Punctuator p.OpenBrace
open_brace_is (tok.Punctuator p.OpenBrace) h = refl
open_brace_is _ h = absurd (false≢true h)

pub close_brace_is : (k : TokenKind) → is_close_brace k ≡ true → k ≡ tok.Punctuator p.CloseBrace
close_brace_is (tok.Punctuator p.CloseBrace) h = refl
close_brace_is _ h = absurd (false≢true h)

pub close_bracket_is : (k : TokenKind) → is_close_bracket k ≡ true → k ≡ tok.Punctuator p.CloseBracket
close_bracket_is (tok.Punctuator p.CloseBracket) h = refl
close_bracket_is _ h = absurd (false≢true h)

pub semicolon_is : (k : TokenKind) → is_semicolon k ≡ true → k ≡ tok.Punctuator p.Semicolon
semicolon_is (tok.Punctuator p.Semicolon) h = refl
semicolon_is _ h = absurd (false≢true h)

pub comma_is : (k : TokenKind) → is_comma k ≡ true → k ≡ tok.Punctuator p.Comma
comma_is (tok.Punctuator p.Comma) h = refl
comma_is _ h = absurd (false≢true h)

pub colon_is : (k : TokenKind) → is_colon k ≡ true → k ≡ tok.Punctuator p.Colon
colon_is (tok.Punctuator p.Colon) h = refl
colon_is _ h = absurd (false≢true h)

pub equal_is : (k : TokenKind) → is_equal k ≡ true → k ≡ tok.Punctuator p.Equal
equal_is (tok.Punctuator p.Equal) h = refl
equal_is _ h = absurd (false≢true h)

pub arrow_is : (k : TokenKind) → is_arrow k ≡ true → k ≡ tok.Punctuator p.Arrow
arrow_is (tok.Punctuator p.Arrow) h = refl
arrow_is _ h = absurd (false≢true h)

pub else_is : (k : TokenKind) → is_else k ≡ true → k ≡ tok.Reserved r.Else
else_is (tok.Reserved r.Else) h = refl
else_is _ h = absurd (false≢true h)

pub finally_is : (k : TokenKind) → is_finally k ≡ true → k ≡ tok.Reserved r.Finally
finally_is (tok.Reserved r.Finally) h = refl
finally_is _ h = absurd (false≢true h)

pub default_is : (k : TokenKind) → is_default k ≡ true → k ≡ tok.Reserved r.Default
default_is (tok.Reserved r.Default) h = refl
default_is _ h = absurd (false≢true h)

pub of_is : (k : TokenKind) → is_of k ≡ true → k ≡ tok.Name (codes "of")
of_is (tok.Name u) h = ap tok.Name ((bytes_eq-Decides u (codes "of")).0 h)
of_is _ h = absurd (false≢true h)

-- ---- what was read grows

pub record Adds (a : List Form) (t : Token) (b : List Form) : Type 0 where
  pub adds : (ps : List Piece) → Fits a ps → Fits b (ps ++ piece t ∷ [])

-- the token comes, and the state that it leads to has read it too
abbrev pub Grows : List Form → Token → Step → Type 0
Grows a t (Ok n) = Adds a t (spelled n)
Grows a t (Err k) = Unit {0}

pub adds_form : (a : List Form) (f : Form) (t : Token) → Shows f t → Adds a t (a ++ f ∷ [])
adds_form a f t o = record { adds = λ ps h. fits_append a (f ∷ []) ps (piece t ∷ []) h (piece t ∷ [], [], refl, o, refl) }

pub adds_to : (a : List Form) (t : Token) (b c : List Form) → Adds a t b → Covers b c → Adds a t c
adds_to a t b c h w = record { adds = λ ps k. w.covers (ps ++ piece t ∷ []) (h.adds ps k) }

pub adds_from : (a b : List Form) (t : Token) (c : List Form) → Covers a b → Adds b t c → Adds a t c
adds_from a b t c w h = record { adds = λ ps k. h.adds ps (w.covers ps k) }

pub grows_cond : (a : List Form) (t : Token) (b : Bool) (x y : Step) → (b ≡ true → Grows a t x) → (b ≡ false → Grows a t y) → Grows a t (cond b x y)
grows_cond a t true x y h k = h refl
grows_cond a t false x y h k = k refl

pub grows_from : (a b : List Form) (t : Token) (x : Step) → Covers a b → Grows b t x → Grows a t x
grows_from a b t (Ok n) w h = adds_from a b t (spelled n) w h
grows_from a b t (Err k) w h = tt

pub grows_same : (a b : List Form) (t : Token) (x : Step) → a ≡ b → Grows b t x → Grows a t x
grows_same a b t x e h = subst (λ (z : List Form). Grows z t x) (sym e) h

-- what no pieces fit grows to anything
pub adds_none : (a : List Form) (t : Token) (b : List Form) → Covers a unread → Adds a t b
adds_none a t b c = record { adds = λ ps h. absurd (c.covers ps h).3 }

pub grows_none : (a : List Form) (t : Token) (x : Step) → Covers a unread → Grows a t x
grows_none a t (Ok n) c = adds_none a t (spelled n) c
grows_none a t (Err k) c = tt

-- within the frames
pub adds_in : (is : List Item) (fs : List Open) (r y : List Form) (f : Form) (t : Token) → Filled r → Within (r ++ f ∷ []) y → Shows f t → Adds (whole_items is ++ spell fs r) t (whole_items is ++ spell fs y)
adds_in is fs r y f t s w o =
    adds_to (whole_items is ++ spell fs r) t ((whole_items is ++ spell fs r) ++ f ∷ []) (whole_items is ++ spell fs y) (adds_form _ f t o)
    (covers_trans _ (whole_items is ++ spell fs (r ++ f ∷ [])) _
    (covers_same _ _ (append_assoc (whole_items is) (spell fs r) (f ∷ []) ∙ ap (λ (z : List Form). whole_items is ++ z) (sym (spell_append fs r (f ∷ []) s))))
    (covers_behind (whole_items is) _ _ (spell_within fs (r ++ f ∷ []) y w).all))

pub adds_same : (is : List Item) (fs : List Open) (r y : List Form) (f : Form) (t : Token) → Filled r → r ++ f ∷ [] ≡ y → Shows f t → Adds (whole_items is ++ spell fs r) t (whole_items is ++ spell fs y)
adds_same is fs r y f t s e o = adds_in is fs r y f t s (within_same _ _ e) o

-- ---- where an operand begins

-- a token that may stand behind a line end comes into the innermost frame
pub record Opens (a : List Form) (is : List Item) (fs : List Open) (t : Token) : Type 0 where
  pub opens : (w : Want) → IsWanted w false (piece t) → Adds a t (whole_items is ++ spell fs (one (mark w) ∷ []))

pub opens_enters : (a : List Form) (is : List Item) (b : List Form) (fs : List Open) (t : Token) → Covers a (whole_items is ++ b) → Enters b fs → Opens a is fs t
opens_enters a is b fs t c n = record {
  opens = λ w h.
      adds_from a (whole_items is ++ b) t _ c
      (adds_to _ t _ _ (adds_form (whole_items is ++ b) (one (mark w)) t (inl (piece t, [], refl, h, refl))) (enters_behind (whole_items is) b fs (one (mark w) ∷ []) n));
}

pub opens_frame : (is : List Item) (fs : List Open) (c : List Form) (f : Open) (t : Token) → Filled c → c ≡ front fs f.frame → is_line f.frame ≡ false → Opens (whole_items is ++ spell fs c) is (f ∷ fs) t
opens_frame is fs c f t s e l = opens_enters _ is (spell fs c) (f ∷ fs) t (covers_same _ _ refl) (enters_front fs c f s e l)

-- behind `return` and `throw`
pub opens_line : (is : List Item) (fs : List Open) (f : Open) (t : Token) → Filled (front fs f.frame) → is_line f.frame ≡ true → t.after_line_end ≡ false → Opens (whole_items is ++ spell fs (front fs f.frame)) is (f ∷ fs) t
opens_line is fs f t s e l = record {
  opens = λ w h.
      subst (λ (b : Bool). Adds (whole_items is ++ spell fs (front fs f.frame)) t (whole_items is ++ spell fs (lined b (front fs f.frame) (one (mark w) ∷ [])))) (sym e)
      (adds_same is fs (front fs f.frame) (front fs f.frame ++ one (unbroken (mark w)) ∷ []) (one (unbroken (mark w))) t s refl (inl (piece t, [], refl, want_line w t t.kind l h, refl)));
}

pub opened_as : (a : List Form) (is : List Item) (fs : List Open) (t : Token) (w : Want) (y : List Form) → Opens a is fs t → IsWanted w false (piece t) → one (mark w) ∷ [] ≡ y → Adds a t (whole_items is ++ spell fs y)
opened_as a is fs t w y o h e = subst (λ (z : List Form). Adds a t (whole_items is ++ spell fs z)) e (o.opens w h)

-- ---- the name `async`

pub name_is_async : (n : Name) → is_async n.units ≡ true → name n ≡ async_name n
name_is_async n e = ap (λ (b : Bool). cond b (name n) []) (sym e)
