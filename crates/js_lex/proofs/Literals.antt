-- Strings and parts of templates.
use Rattle.std.proofs.Common.{◌≡◌, ℕ, suc, ◌+◌, Bool, true, false, List, [], ◌∷◌, ◌++◌, length, Option, Some, None, refl, sym, ◌∙◌, ap, subst, arith, append_assoc, ◌⊎◌, inl, inr}
use Rattle.std.proofs.lemmas.List.{length-append}
use Rattle.js_lex.specs.declared.token.TokenKind.TheVariants as tok
use Rattle.js_lex.specs.declared.letters.Quote.{Quote}
use Rattle.js_lex.specs.declared.letters.Quote.TheVariants as quote
use Rattle.js_lex.specs.declared.letters.Ending.{Ending}
use Rattle.js_lex.specs.declared.letters.Ending.TheVariants as ending
use Rattle.js_lex.specs.declared.letters.Body.{Body}
use Rattle.js_lex.specs.declared.front.Front.TheVariants as front
use Rattle.js_lex.specs.Units.{Text}
use Rattle.js_lex.specs.Letters.{ending_units, body_of}
use Rattle.js_lex.specs.Values.{part_of}
use Rattle.js_lex.specs.Front as code
use Rattle.js_lex.specs.Characters.{Character, characters_units, characters_value, AreCharacters, mark, ending_text}
use Rattle.js_lex.specs.Elements.{string_quote, part_begin, Element, White, LineEnd, LineComment, BlockComment, Word, Numeric, String, Part, Sign, units, Stands}
use Rattle.js_lex.specs.Grammar.{Token}
use Rattle.js_lex.proofs.Which.{Which, AtString, AtPart, which, sort}
use Rattle.js_lex.proofs.Characters.{MayEnd, body, body_whole, BodyIs, body_sound}
use Rattle.js_lex.proofs.Longest.{Found, FrontIs, sort_of, word_sort, number_sort}

-- the letters behind the mark, where an element of n units stands
record Quoted (q : Quote) (z : Text) (n : ℕ) : Type 0 where
  chars : List Character
  end : Ending
  whole : body_of q 0 z ≡ Some (body chars end)
  size : n ≡ 1 + (length (characters_units chars) + ending_units end)

pub end_size : (q : Quote) (e : Ending) → MayEnd q e → length (ending_text q e) ≡ ending_units e
end_size q ending.Closed h = refl
end_size q ending.Hole h = refl

quoted : (q : Quote) (cs : List Character) (e : Ending) (more z : Text) → AreCharacters q cs (ending_text q e ++ more) → MayEnd q e → (characters_units cs ++ ending_text q e) ++ more ≡ z → Quoted q z (suc (length (characters_units cs ++ ending_text q e)))
quoted q cs e more z a m k =
    record {
      chars = cs;
      end = e;
      whole = ap (body_of q 0) (sym k ∙ append_assoc (characters_units cs) (ending_text q e) more) ∙ body_whole q cs e more a m;
      size = omega (arith, length-append (characters_units cs) (ending_text q e), end_size q e m);
    }

quoted_none : (q : Quote) (z : Text) (n : ℕ) → body_of q 0 z ≡ None → Quoted q z n → ⊥
quoted_none q z n e k = (let a : None ≡ Some (body k.chars k.end) = sym e ∙ k.whole in cc)

quoted_size : (q : Quote) (z : Text) (n : ℕ) (b : Body) → body_of q 0 z ≡ Some b → Quoted q z n → n ≡ 1 + b.units
quoted_size q z n b e k =
    let a : Some b ≡ Some (body k.chars k.end) = sym e ∙ k.whole in
    let same : b ≡ body k.chars k.end = cc in
    let sizes = ap (λ (x : Body). x.units) same in
    omega (arith, k.size, sizes)

-- ---- strings

string_is : (h d : Bool) (f : Element) (more : Text) (u : ℕ) (z : Text) → sort f more ≡ AtString d → Stands h f more → units f ++ more ≡ u ∷ z → Quoted (string_quote d) z (length (units f))
string_is h d (String c cs) more u z e s k =
    let same : c ≡ d = cc in
    let rest : (characters_units cs ++ mark (string_quote c) ∷ []) ++ more ≡ z = cc in
    subst (λ (x : Bool). Quoted (string_quote x) z (suc (length (characters_units cs ++ mark (string_quote c) ∷ [])))) same (quoted (string_quote c) cs ending.Closed more z s (inl refl) rest)
string_is h d (White v) more u z e s k = cc
string_is h d (LineEnd v) more u z e s k = cc
string_is h d (LineComment w) more u z e s k = cc
string_is h d (BlockComment w) more u z e s k = cc
string_is h d (Word v w) more u z e s k = cc
string_is h d (Numeric n) more u z e s k = absurd (number_sort (λ (k : Which). k ≡ AtString d → ⊥) (λ e. cc) (λ e. cc) n e)
string_is h d (Part b_ cs x) more u z e s k = cc
string_is h d (Sign w y) more u z e s k = absurd (word_sort (λ (k : Which). k ≡ AtString d → ⊥) (λ e. cc) (λ e. cc) (λ e. cc) w more e)

no_template : (d : Bool) → string_quote d ≡ quote.Template → ⊥
no_template true e = cc
no_template false e = cc

closed_only : (d : Bool) (e : Ending) → MayEnd (string_quote d) e → e ≡ ending.Closed
closed_only d e (inl h) = h
closed_only d e (inr h) = absurd (no_template d h)

found_body : (h d : Bool) (u : ℕ) (z : Text) (b : Body) → which h u z ≡ AtString d → u ≡ mark (string_quote d) → body_of (string_quote d) 0 z ≡ Some b → BodyIs (string_quote d) z b → Found h (u ∷ z) (front.Token (tok.Text b.value) b.units)
found_body h d u z b w m e i =
    let q = string_quote d in
    let end = closed_only d b.ending i.may in
    let are : AreCharacters (string_quote d) i.chars (mark (string_quote d) ∷ i.rest) = subst (λ (x : Ending). AreCharacters (string_quote d) i.chars (ending_text (string_quote d) x ++ i.rest)) end i.are in
    let text : z ≡ (characters_units i.chars ++ mark (string_quote d) ∷ []) ++ i.rest = i.text ∙ ap (λ (x : Ending). characters_units i.chars ++ (ending_text (string_quote d) x ++ i.rest)) end ∙ sym (append_assoc (characters_units i.chars) (mark (string_quote d) ∷ []) i.rest) in
    let whole : u ∷ z ≡ mark (string_quote d) ∷ ((characters_units i.chars ++ mark (string_quote d) ∷ []) ++ i.rest) = ap (λ (v : ℕ). v ∷ z) m ∙ ap (λ (x : Text). mark (string_quote d) ∷ x) text in
    let one = ap ending_units end in
    let size : b.units ≡ length (characters_units i.chars ++ mark (string_quote d) ∷ []) = omega (arith, i.size, one, length-append (characters_units i.chars) (mark (string_quote d) ∷ [])) in
    record {
      element = String d i.chars;
      rest = i.rest;
      reading = Token (tok.Text (characters_value i.chars));
      begins = record {
        is_text = whole;
        stands = are;
        longest = λ f more s k.
            let n = quoted_size (string_quote d) z (length (units f)) b e (string_is h d f more u z (sort_of h f more u z s (k ∙ sym whole) ∙ w) s (k ∙ sym whole)) in
            omega (arith, n, size);
      };
      reads = refl;
      is = ap (λ (x : List ℕ). front.Token (tok.Text x) b.units) i.value_ ∙ ap (front.Token (tok.Text (characters_value i.chars))) (omega (arith, size));
    }

string_at : (h d : Bool) (u : ℕ) (z : Text) (o : Option Body) → which h u z ≡ AtString d → u ≡ mark (string_quote d) → body_of (string_quote d) 0 z ≡ o → FrontIs h (u ∷ z) (code.string_of o)
string_at h d u z None w m e =
    inr ((λ f more s k. quoted_none (string_quote d) z (length (units f)) e (string_is h d f more u z (sort_of h f more u z s (sym k) ∙ w) s (sym k))), refl)
string_at h d u z (Some b) w m e = inl (found_body h d u z b w m e (body_sound (string_quote d) z 0 b e))

pub found_string : (h d : Bool) (u : ℕ) (z : Text) → which h u z ≡ AtString d → u ≡ mark (string_quote d) → FrontIs h (u ∷ z) (code.string (string_quote d) z)
found_string h d u z w m = string_at h d u z (body_of (string_quote d) 0 z) w m refl

pub string_only : (d : Bool) (cs : List Character) (z : Text) → AreCharacters (string_quote d) cs (mark (string_quote d) ∷ z) → code.string (string_quote d) ((characters_units cs ++ mark (string_quote d) ∷ []) ++ z) ≡ front.Token (tok.Text (characters_value cs)) (length (characters_units cs) + 1)
string_only d cs z a =
    ap code.string_of (ap (body_of (string_quote d) 0) (append_assoc (characters_units cs) (mark (string_quote d) ∷ []) z) ∙ body_whole (string_quote d) cs ending.Closed z a (inl refl))

-- ---- parts of templates

part_is : (h b : Bool) (f : Element) (more : Text) (u : ℕ) (z : Text) → sort f more ≡ AtPart b → Stands h f more → units f ++ more ≡ u ∷ z → Quoted quote.Template z (length (units f))
part_is h b (Part c cs x) more u z e s k =
    let rest : (characters_units cs ++ ending_text quote.Template x) ++ more ≡ z = cc in
    quoted quote.Template cs x more z s.1 (inr refl) rest
part_is h b (White v) more u z e s k = cc
part_is h b (LineEnd v) more u z e s k = cc
part_is h b (LineComment w) more u z e s k = cc
part_is h b (BlockComment w) more u z e s k = cc
part_is h b (Word v w) more u z e s k = cc
part_is h b (Numeric n) more u z e s k = absurd (number_sort (λ (k : Which). k ≡ AtPart b → ⊥) (λ e. cc) (λ e. cc) n e)
part_is h b (String d_ cs) more u z e s k = cc
part_is h b (Sign w y) more u z e s k = absurd (word_sort (λ (k : Which). k ≡ AtPart b → ⊥) (λ e. cc) (λ e. cc) (λ e. cc) w more e)

found_part_body : (h b : Bool) (u : ℕ) (z : Text) (y : Body) → which h u z ≡ AtPart b → u ≡ part_begin b → (b ≡ true) ⊎ (h ≡ true) → body_of quote.Template 0 z ≡ Some y → BodyIs quote.Template z y → Found h (u ∷ z) (front.Token (tok.Template (part_of b y.ending) y.value) y.units)
found_part_body h b u z y w m g e i =
    let text : z ≡ (characters_units i.chars ++ ending_text quote.Template y.ending) ++ i.rest = i.text ∙ sym (append_assoc (characters_units i.chars) (ending_text quote.Template y.ending) i.rest) in
    let whole : u ∷ z ≡ part_begin b ∷ ((characters_units i.chars ++ ending_text quote.Template y.ending) ++ i.rest) = ap (λ (v : ℕ). v ∷ z) m ∙ ap (λ (x : Text). part_begin b ∷ x) text in
    let size : y.units ≡ length (characters_units i.chars ++ ending_text quote.Template y.ending) = omega (arith, i.size, end_size quote.Template y.ending (inr refl), length-append (characters_units i.chars) (ending_text quote.Template y.ending)) in
    record {
      element = Part b i.chars y.ending;
      rest = i.rest;
      reading = Token (tok.Template (part_of b y.ending) (characters_value i.chars));
      begins = record {
        is_text = whole;
        stands = (g, i.are);
        longest = λ f more s k.
            let n = quoted_size quote.Template z (length (units f)) y e (part_is h b f more u z (sort_of h f more u z s (k ∙ sym whole) ∙ w) s (k ∙ sym whole)) in
            omega (arith, n, size);
      };
      reads = refl;
      is = ap (λ (x : List ℕ). front.Token (tok.Template (part_of b y.ending) x) y.units) i.value_ ∙ ap (front.Token (tok.Template (part_of b y.ending) (characters_value i.chars))) (omega (arith, size));
    }

part_at : (h b : Bool) (u : ℕ) (z : Text) (o : Option Body) → which h u z ≡ AtPart b → u ≡ part_begin b → (b ≡ true) ⊎ (h ≡ true) → body_of quote.Template 0 z ≡ o → FrontIs h (u ∷ z) (code.template_of b o)
part_at h b u z None w m g e =
    inr ((λ f more s k. quoted_none quote.Template z (length (units f)) e (part_is h b f more u z (sort_of h f more u z s (sym k) ∙ w) s (sym k))), refl)
part_at h b u z (Some y) w m g e = inl (found_part_body h b u z y w m g e (body_sound quote.Template z 0 y e))

pub found_part : (h b : Bool) (u : ℕ) (z : Text) → which h u z ≡ AtPart b → u ≡ part_begin b → (b ≡ true) ⊎ (h ≡ true) → FrontIs h (u ∷ z) (code.template b z)
found_part h b u z w m g = part_at h b u z (body_of quote.Template 0 z) w m g refl

pub part_only : (b : Bool) (cs : List Character) (e : Ending) (z : Text) → AreCharacters quote.Template cs (ending_text quote.Template e ++ z) → code.template b ((characters_units cs ++ ending_text quote.Template e) ++ z) ≡ front.Token (tok.Template (part_of b e) (characters_value cs)) (length (characters_units cs) + ending_units e)
part_only b cs e z a =
    ap (code.template_of b) (ap (body_of quote.Template 0) (append_assoc (characters_units cs) (ending_text quote.Template e) z) ∙ body_whole quote.Template cs e z a (inr refl))
