-- Lists of tokens that leave the open braces as they were.
use Rattle.std.proofs.Common.{◌≡◌, ℕ, Bool, true, false, List, [], ◌∷◌, ◌++◌, refl, sym, ◌∙◌, ap, subst}
use Rattle.js_lex.specs.declared.token.TokenKind.{TokenKind}
use Rattle.js_lex.specs.declared.token.TokenKind.TheVariants as tok
use Rattle.js_lex.specs.declared.token.TemplatePart.TheVariants as part
use Rattle.js_lex.specs.declared.token.Punctuator.{Punctuator}
use Rattle.js_lex.specs.declared.token.Punctuator.TheVariants as p
use Rattle.js_lex.specs.declared.token.Reserved.{Reserved}
use Rattle.js_lex.specs.declared.scan.Brace.{Brace}
use Rattle.js_lex.specs.declared.scan.Brace.TheVariants as brace
use Rattle.js_lex.specs.Places.{in_hole, braces}
use Rattle.js_lex.proofs.Signs.{no_truth}
use Rattle.js_print.proofs.Printable.{MayStand, Nests, open_behind}

-- they nest within any braces, and close what they open
pub record Balanced (ks : List TokenKind) : Type 0 where
  pub nests : (bs : List Brace) → Nests bs ks
  pub closes : (bs : List Brace) → open_behind bs ks ≡ bs

pub open_append : (bs : List Brace) (ks ls : List TokenKind) → open_behind bs (ks ++ ls) ≡ open_behind (open_behind bs ks) ls
open_append bs [] ls = refl
open_append bs (k ∷ ks) ls = open_append (braces k bs) ks ls

pub nests_append : (bs : List Brace) (ks ls : List TokenKind) → Nests bs ks → Nests (open_behind bs ks) ls → Nests bs (ks ++ ls)
nests_append bs [] ls a b = b
nests_append bs (k ∷ ks) ls a b = (a.0, nests_append (braces k bs) ks ls a.1 b)

pub balanced_none : Balanced []
balanced_none = record { nests = λ bs. tt; closes = λ bs. refl }

pub balanced_append : (ks ls : List TokenKind) → Balanced ks → Balanced ls → Balanced (ks ++ ls)
balanced_append ks ls a b =
    record {
      nests = λ bs. nests_append bs ks ls (a.nests bs) (b.nests (open_behind bs ks));
      closes = λ bs. open_append bs ks ls ∙ ap (λ (cs : List Brace). open_behind cs ls) (a.closes bs) ∙ b.closes bs;
    }

-- what such a token leaves
pub record Leaves (k : TokenKind) : Type 0 where
  pub stands : (h : Bool) → MayStand h k
  pub same : (bs : List Brace) → braces k bs ≡ bs

pub balanced_one : (k : TokenKind) → Leaves k → Balanced (k ∷ [])
balanced_one k f = record { nests = λ bs. (f.stands (in_hole bs), tt); closes = f.same }

pub balanced_more : (k : TokenKind) (ks : List TokenKind) → Leaves k → Balanced ks → Balanced (k ∷ ks)
balanced_more k ks f a = balanced_append (k ∷ []) ks (balanced_one k f) a

-- ---- tokens that open and close nothing

pub leaves_name : (w : List ℕ) → Leaves (tok.Name w)
leaves_name w = record { stands = λ h. tt; same = λ bs. refl }

pub leaves_word : (x : Reserved) → Leaves (tok.Reserved x)
leaves_word x = record { stands = λ h. tt; same = λ bs. refl }

pub leaves_number : (n : ℕ) → Leaves (tok.Number n)
leaves_number n = record { stands = λ h. tt; same = λ bs. refl }

pub leaves_text : (w : List ℕ) → Leaves (tok.Text w)
leaves_text w = record { stands = λ h. tt; same = λ bs. refl }

pub leaves_whole : (w : List ℕ) → Leaves (tok.Template part.Whole w)
leaves_whole w = record { stands = λ h. tt; same = λ bs. refl }

abbrev pub is_brace : Punctuator → Bool
is_brace p.OpenBrace = true
is_brace p.CloseBrace = true
is_brace _ = false

pub leaves_sign : (x : Punctuator) → is_brace x ≡ false → Leaves (tok.Punctuator x)
leaves_sign p.OpenBrace e = absurd (no_truth e)
leaves_sign p.CloseBrace e = absurd (no_truth e)
leaves_sign p.OpenParen e = record { stands = λ h. tt; same = λ bs. refl }
leaves_sign p.CloseParen e = record { stands = λ h. tt; same = λ bs. refl }
leaves_sign p.OpenBracket e = record { stands = λ h. tt; same = λ bs. refl }
leaves_sign p.CloseBracket e = record { stands = λ h. tt; same = λ bs. refl }
leaves_sign p.Dot e = record { stands = λ h. tt; same = λ bs. refl }
leaves_sign p.Ellipsis e = record { stands = λ h. tt; same = λ bs. refl }
leaves_sign p.Semicolon e = record { stands = λ h. tt; same = λ bs. refl }
leaves_sign p.Comma e = record { stands = λ h. tt; same = λ bs. refl }
leaves_sign p.Less e = record { stands = λ h. tt; same = λ bs. refl }
leaves_sign p.Greater e = record { stands = λ h. tt; same = λ bs. refl }
leaves_sign p.LessEqual e = record { stands = λ h. tt; same = λ bs. refl }
leaves_sign p.GreaterEqual e = record { stands = λ h. tt; same = λ bs. refl }
leaves_sign p.EqualEqual e = record { stands = λ h. tt; same = λ bs. refl }
leaves_sign p.NotEqual e = record { stands = λ h. tt; same = λ bs. refl }
leaves_sign p.Identical e = record { stands = λ h. tt; same = λ bs. refl }
leaves_sign p.NotIdentical e = record { stands = λ h. tt; same = λ bs. refl }
leaves_sign p.Plus e = record { stands = λ h. tt; same = λ bs. refl }
leaves_sign p.Minus e = record { stands = λ h. tt; same = λ bs. refl }
leaves_sign p.Star e = record { stands = λ h. tt; same = λ bs. refl }
leaves_sign p.Slash e = record { stands = λ h. tt; same = λ bs. refl }
leaves_sign p.Percent e = record { stands = λ h. tt; same = λ bs. refl }
leaves_sign p.StarStar e = record { stands = λ h. tt; same = λ bs. refl }
leaves_sign p.PlusPlus e = record { stands = λ h. tt; same = λ bs. refl }
leaves_sign p.MinusMinus e = record { stands = λ h. tt; same = λ bs. refl }
leaves_sign p.ShiftLeft e = record { stands = λ h. tt; same = λ bs. refl }
leaves_sign p.ShiftRight e = record { stands = λ h. tt; same = λ bs. refl }
leaves_sign p.ShiftRightUnsigned e = record { stands = λ h. tt; same = λ bs. refl }
leaves_sign p.Ampersand e = record { stands = λ h. tt; same = λ bs. refl }
leaves_sign p.Bar e = record { stands = λ h. tt; same = λ bs. refl }
leaves_sign p.Caret e = record { stands = λ h. tt; same = λ bs. refl }
leaves_sign p.Not e = record { stands = λ h. tt; same = λ bs. refl }
leaves_sign p.Tilde e = record { stands = λ h. tt; same = λ bs. refl }
leaves_sign p.AndAnd e = record { stands = λ h. tt; same = λ bs. refl }
leaves_sign p.OrOr e = record { stands = λ h. tt; same = λ bs. refl }
leaves_sign p.QuestionQuestion e = record { stands = λ h. tt; same = λ bs. refl }
leaves_sign p.Question e = record { stands = λ h. tt; same = λ bs. refl }
leaves_sign p.QuestionDot e = record { stands = λ h. tt; same = λ bs. refl }
leaves_sign p.Colon e = record { stands = λ h. tt; same = λ bs. refl }
leaves_sign p.Equal e = record { stands = λ h. tt; same = λ bs. refl }
leaves_sign p.PlusEqual e = record { stands = λ h. tt; same = λ bs. refl }
leaves_sign p.MinusEqual e = record { stands = λ h. tt; same = λ bs. refl }
leaves_sign p.StarEqual e = record { stands = λ h. tt; same = λ bs. refl }
leaves_sign p.SlashEqual e = record { stands = λ h. tt; same = λ bs. refl }
leaves_sign p.PercentEqual e = record { stands = λ h. tt; same = λ bs. refl }
leaves_sign p.StarStarEqual e = record { stands = λ h. tt; same = λ bs. refl }
leaves_sign p.ShiftLeftEqual e = record { stands = λ h. tt; same = λ bs. refl }
leaves_sign p.ShiftRightEqual e = record { stands = λ h. tt; same = λ bs. refl }
leaves_sign p.ShiftRightUnsignedEqual e = record { stands = λ h. tt; same = λ bs. refl }
leaves_sign p.AmpersandEqual e = record { stands = λ h. tt; same = λ bs. refl }
leaves_sign p.BarEqual e = record { stands = λ h. tt; same = λ bs. refl }
leaves_sign p.CaretEqual e = record { stands = λ h. tt; same = λ bs. refl }
leaves_sign p.AndAndEqual e = record { stands = λ h. tt; same = λ bs. refl }
leaves_sign p.OrOrEqual e = record { stands = λ h. tt; same = λ bs. refl }
leaves_sign p.QuestionQuestionEqual e = record { stands = λ h. tt; same = λ bs. refl }
leaves_sign p.Arrow e = record { stands = λ h. tt; same = λ bs. refl }

-- ---- braces

-- `{`, tokens, `}`
block : (bs : List Brace) (ks : List TokenKind) → Balanced ks → Nests (open_behind (brace.Block ∷ bs) ks) (tok.Punctuator p.CloseBrace ∷ [])
block bs ks a = subst (λ (cs : List Brace). Nests cs (tok.Punctuator p.CloseBrace ∷ [])) (sym (a.closes (brace.Block ∷ bs))) (refl, tt)

pub balanced_block : (ks : List TokenKind) → Balanced ks → Balanced (tok.Punctuator p.OpenBrace ∷ (ks ++ tok.Punctuator p.CloseBrace ∷ []))
balanced_block ks a =
    record {
      nests = λ bs. (tt, nests_append (brace.Block ∷ bs) ks (tok.Punctuator p.CloseBrace ∷ []) (a.nests (brace.Block ∷ bs)) (block bs ks a));
      closes = λ bs. open_append (brace.Block ∷ bs) ks (tok.Punctuator p.CloseBrace ∷ []) ∙ ap (λ (cs : List Brace). open_behind cs (tok.Punctuator p.CloseBrace ∷ [])) (a.closes (brace.Block ∷ bs));
    }

-- ---- templates

-- what stands behind `${` of a template, up to the template's end
pub record Fills (ks : List TokenKind) : Type 0 where
  pub nests : (bs : List Brace) → Nests (brace.Hole ∷ bs) ks
  pub closes : (bs : List Brace) → open_behind (brace.Hole ∷ bs) ks ≡ bs

pub fills_tail : (w : List ℕ) → Fills (tok.Template part.Tail w ∷ [])
fills_tail w = record { nests = λ bs. (refl, tt); closes = λ bs. refl }

pub fills_middle : (w : List ℕ) (ks : List TokenKind) → Fills ks → Fills (tok.Template part.Middle w ∷ ks)
fills_middle w ks f = record { nests = λ bs. (refl, f.nests bs); closes = f.closes }

pub fills_append : (ks ls : List TokenKind) → Balanced ks → Fills ls → Fills (ks ++ ls)
fills_append ks ls a f =
    record {
      nests = λ bs. nests_append (brace.Hole ∷ bs) ks ls (a.nests (brace.Hole ∷ bs)) (subst (λ (cs : List Brace). Nests cs ls) (sym (a.closes (brace.Hole ∷ bs))) (f.nests bs));
      closes = λ bs. open_append (brace.Hole ∷ bs) ks ls ∙ ap (λ (cs : List Brace). open_behind cs ls) (a.closes (brace.Hole ∷ bs)) ∙ f.closes bs;
    }

pub balanced_template : (w : List ℕ) (ks : List TokenKind) → Fills ks → Balanced (tok.Template part.Head w ∷ ks)
balanced_template w ks f = record { nests = λ bs. (tt, f.nests bs); closes = f.closes }
