-- What literals stand for (ECMA-262, section 12.9).
use Rattle.std.specs.Prelude.{ℕ, ◌+◌, ◌-◌, ◌/◌, ◌%◌, Bool, true, false, cond, ◌==◌, nat_le, List, [], ◌∷◌}
use Rattle.js_lex.specs.declared.token.TemplatePart.{TemplatePart}
use Rattle.js_lex.specs.declared.token.TemplatePart.TheVariants as part
use Rattle.js_lex.specs.declared.letters.Ending.{Ending}
use Rattle.js_lex.specs.declared.letters.Ending.TheVariants as ending

-- the largest safe integer, 2^53 - 1 (section 21.1.2.8)
abbrev pub max_safe : ℕ
max_safe = 9007199254740991

-- ECMA-262, section 11.1.1, UTF16EncodeCodePoint: a unit, or a pair of surrogates
abbrev pub code_units : ℕ → List ℕ
code_units c = cond (nat_le 65536 c) ((55296 + (c - 65536) / 1024) ∷ (56320 + (c - 65536) % 1024) ∷ []) (c ∷ [])

-- section 12.9.4, SingleEscapeCharacter and NonEscapeCharacter: n t r b f v, and any other unit for itself
abbrev pub escaped : ℕ → ℕ
escaped u = cond (u == 110) 10 (cond (u == 116) 9 (cond (u == 114) 13 (cond (u == 98) 8 (cond (u == 102) 12 (cond (u == 118) 11 u)))))

-- section 12.9.6: NoSubstitutionTemplate, TemplateHead, TemplateTail and TemplateMiddle; `true` from the backtick on
abbrev pub part_of : Bool → Ending → TemplatePart
part_of true ending.Closed = part.Whole
part_of true ending.Hole = part.Head
part_of false ending.Closed = part.Tail
part_of false ending.Hole = part.Middle
