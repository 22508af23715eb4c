-- What stands at the front of a text, of its first unit u and the units z behind it: what private functions tell. A length counts the units of z.
-- The contract of `lex` speaks of Grammar alone.
use Rattle.std.specs.Prelude.{◌≤◌, ℕ, ◌+◌, ◌-◌, Bool, true, false, cond, ◌&&◌, ◌||◌, ◌==◌, nat_le, nat_lt, List, [], ◌∷◌, take, drop, length, slice_index, Option, Some, None}
use Rattle.js_lex.specs.declared.token.TokenKind.{TokenKind}
use Rattle.js_lex.specs.declared.token.TokenKind.TheVariants as tok
use Rattle.js_lex.specs.declared.token.Reserved.{Reserved}
use Rattle.js_lex.specs.declared.token.Punctuator.{Punctuator}
use Rattle.js_lex.specs.declared.token.Punctuator.TheVariants as p
use Rattle.js_lex.specs.declared.units.Class.{Class}
use Rattle.js_lex.specs.declared.units.Class.TheVariants as class
use Rattle.js_lex.specs.declared.letters.Quote.{Quote}
use Rattle.js_lex.specs.declared.letters.Quote.TheVariants as quote
use Rattle.js_lex.specs.declared.letters.Body.{Body}
use Rattle.js_lex.specs.declared.front.Front.{Front}
use Rattle.js_lex.specs.declared.front.Front.TheVariants as front
use Rattle.js_lex.specs.declared.front.Unread.TheVariants as bad
use Rattle.js_lex.specs.Tables.{reserved_words, punctuators}
use Rattle.js_lex.specs.Units.{Text, is_line_end, is_white, is_digit, is_name, is_part, digit_of}
use Rattle.std.specs.Str.{bytes_eq}
use Rattle.js_lex.specs.Runs.{past, past_digits, past_some, numeral, begins}
use Rattle.js_lex.specs.Values.{max_safe, part_of}
use Rattle.js_lex.specs.Lists.{is, some}
use Rattle.js_lex.specs.Letters.{body_of}

-- how many units it has behind the first
abbrev pub more_units : Front → ℕ
more_units (front.Gap m ends) = m
more_units (front.Token k m) = m
more_units (front.Bad why) = 0

-- it has no more units behind the first than these
abbrev pub Fits : Front → ℕ → Type 0
Fits f n = more_units f ≤ n

-- ---- names (ECMA-262, section 12.7)

-- the reserved word that a text is, if the table has it
abbrev pub find_word : List (Text × Reserved) → Text → Option Reserved
find_word [] z = None
find_word (r ∷ rs) z = cond (bytes_eq z r.0) (Some r.1) (find_word rs z)

-- the token of a text: the reserved word that it is, or a name
abbrev pub word_or_name : Text → Option Reserved → TokenKind
word_or_name z (Some r) = tok.Reserved r
word_or_name z None = tok.Name z

-- a reserved word, or else a name
abbrev pub name_kind : Text → TokenKind
name_kind z = word_or_name z (find_word reserved_words z)

-- a name of which the first unit and the n behind it are of ASCII
abbrev pub is_ascii : ℕ → Text → ℕ → Bool
is_ascii u z n = is_part u && (n == past class.Part z 0)

-- the token of a name or a reserved word that has n units behind the first
abbrev pub word : ℕ → Text → ℕ → Front
word u z n = front.Token (name_kind (u ∷ take n z)) n

-- the longest name; one that is not of ASCII alone is left out
abbrev pub name : ℕ → Text → Front
name u z = let n = past class.Name z 0 in cond (is_ascii u z n) (word u z n) (front.Bad bad.Identifier)

-- ---- numbers (section 12.9.3)

-- a literal that ends before place `at`: neither a digit nor a name may stand there
abbrev pub ended : Text → ℕ → Front → Front
ended z at f = cond (is_name (slice_index z at)) (front.Bad bad.Syntax) f

-- a number as a token, where it has a value that can be read; else it is left out
abbrev pub sized : ℕ → Option ℕ → Front
sized n None = front.Bad bad.Number
sized n (Some v) = front.Token (tok.Number v) n

-- digits that end before place `at`; with the suffix `n` they are left out
abbrev pub integer : Text → ℕ → Option ℕ → Front
integer z at v = cond (slice_index z at == 110) (ended z (at + 1) (front.Bad bad.Number)) (ended z at (sized at v))

-- the class of the digits behind `0x`, `0o` and `0b`
abbrev pub radix : ℕ → Option Class
radix u =
    cond (u == 120 || u == 88) (Some class.Hex) (cond (u == 111 || u == 79) (Some class.Octal) (cond (u == 98 || u == 66) (Some class.Binary) None))

-- the base of the digits of a class (section 12.9.3)
abbrev pub base : Class → ℕ
base class.Hex = 16
base class.Octal = 8
base class.Binary = 2
base _ = 10

-- the place behind a point and its digits, where a point stands
abbrev pub past_fraction : Text → ℕ → ℕ
past_fraction z at = cond (slice_index z at == 46) (past_some class.Digit z (at + 1)) at

-- within the text, `e` or `E`, and a digit, or a sign and a digit
abbrev pub begins_exponent : Text → ℕ → Bool
begins_exponent z at =
    let e = slice_index z at in
    let next = slice_index z (at + 1) in
    nat_le (at + 2) (length z) && ((e == 101 || e == 69) && (is_digit next || ((next == 43 || next == 45) && is_digit (slice_index z (at + 2)))))

-- ExponentPart, where one stands
abbrev pub past_exponent : Text → ℕ → ℕ
past_exponent z at = cond (begins_exponent z at) (past_digits class.Digit z (at + 2)) at

-- a `0` before a digit or a separator, which is none in strict mode (LegacyOctalIntegerLiteral, NonOctalDecimalIntegerLiteral)
abbrev pub is_legacy : ℕ → Text → Bool
is_legacy u z = u == 48 && (is_digit (slice_index z 0) || slice_index z 0 == 95)

-- the value of digits, where it is safe and no separator stands among them
abbrev pub safe_value : ℕ → ℕ → Text → Option ℕ
safe_value base n ds = cond (some (is 95) ds) None (numeral max_safe base n ds)

-- digits up to place `whole`; in a longer literal, one with a fraction or an exponent, they are left out
abbrev pub literal : ℕ → Text → ℕ → ℕ → Front
literal u z whole end =
    cond (end == whole) (integer z whole (safe_value 10 (digit_of u) (take whole z))) (ended z end (front.Bad bad.Number))

-- a decimal literal, with its fraction and its exponent where it has them
abbrev pub digits : ℕ → Text → Front
digits u z = let whole = past_digits class.Digit z 0 in literal u z whole (past_exponent z (past_fraction z whole))

-- a decimal literal; one with a `0` before its other digits is none
abbrev pub decimal : ℕ → Text → Front
decimal u z = cond (is_legacy u z) (front.Bad bad.Syntax) (digits u z)

-- a literal of another base, which has a digit
abbrev pub in_base : Class → Text → Front
in_base c z = let end = past_some c z 1 in cond (end == 1) (front.Bad bad.Syntax) (integer z end (safe_value (base c) 0 (take (end - 1) (drop 1 z))))

-- a literal by the base that its second unit tells, where its first is `0`; else a decimal one
abbrev pub number_by : ℕ → Text → Option Class → Front
number_by u z None = decimal u z
number_by u z (Some c) = cond (u == 48) (in_base c z) (decimal u z)

-- a number that begins with a digit
abbrev pub number : ℕ → Text → Front
number u z = number_by u z (radix (slice_index z 0))

-- a fraction that begins with its point
abbrev pub point : Text → Front
point z = ended z (past_exponent z (past_some class.Digit z 0)) (front.Bad bad.Number)

-- ---- strings and templates (sections 12.9.4 and 12.9.6)

-- the token of a string, where its text has an end
abbrev pub string_of : Option Body → Front
string_of None = front.Bad bad.Syntax
string_of (Some b) = front.Token (tok.Text b.value) b.units

-- a string behind its quote (section 12.9.4)
abbrev pub string : Quote → Text → Front
string q z = string_of (body_of q 0 z)

-- the token of a part of a template, where its text has an end
abbrev pub template_of : Bool → Option Body → Front
template_of begins_ None = front.Bad bad.Syntax
template_of begins_ (Some b) = front.Token (tok.Template (part_of begins_ b.ending) b.value) b.units

-- a part of a template, behind its backtick or its `}` (section 12.9.6)
abbrev pub template : Bool → Text → Front
template begins_ z = template_of begins_ (body_of quote.Template 0 z)

-- ---- comments (section 12.4)

-- a place so many units further on, where there is one
abbrev pub later : ℕ → Option ℕ → Option ℕ
later n None = None
later n (Some m) = Some (n + m)

-- how many units stand up to the end of `*/`
abbrev pub comment : Text → Option ℕ
comment [] = None
comment (u ∷ z) = cond (u == 42 && slice_index z 0 == 47) (Some 2) (later 1 (comment z))

-- a line end is among the units
abbrev pub has_line_end : Text → Bool
has_line_end z = nat_lt (past class.Line z 0) (length z)

-- a comment of so many units as a gap; one without an end is an error of syntax
abbrev pub gap_of : Text → Option ℕ → Front
gap_of z None = front.Bad bad.Syntax
gap_of z (Some n) = front.Gap (1 + n) (has_line_end (take (1 + n) z))

-- a comment from its `*` on
abbrev pub commented : Text → Front
commented z = gap_of z (comment (drop 1 z))

-- ---- punctuators (section 12.8)

-- the first of the table that the text begins with
abbrev pub longest : List (Text × Punctuator) → ℕ → Text → Front
longest [] u z = front.Bad bad.Syntax
longest (t ∷ ts) u z = cond (begins (u ∷ z) t.0) (front.Token (tok.Punctuator t.1) (length t.0 - 1)) (longest ts u z)

-- the longest punctuator; before a digit `?.` is none (OptionalChainingPunctuator)
abbrev pub punctuator : ℕ → Text → Front
punctuator u z =
    cond (u == 63 && (slice_index z 0 == 46 && is_digit (slice_index z 1))) (front.Token (tok.Punctuator p.Question) 0) (longest punctuators u z)

-- `//` up to a line end, `/*` up to `*/`, or a punctuator
abbrev pub slash : Text → Front
slash z =
    cond (slice_index z 0 == 47) (front.Gap (past class.Line z 1) false)
    (cond (slice_index z 0 == 42) (commented z) (punctuator 47 z))

-- what is no literal of text
abbrev pub plain : ℕ → Text → Front
plain u z =
    cond (is_digit u) (number u z)
    (cond (is_name u) (name u z) (cond (u == 46 && is_digit (slice_index z 0)) (point z) (cond (u == 47) (slash z) (punctuator u z))))

-- What stands at the front; `in_hole` where `}` goes on with a template.
abbrev pub front_of : Bool → ℕ → Text → Front
front_of in_hole u z =
    cond (is_line_end u) (front.Gap 0 true)
    (cond (is_white u) (front.Gap 0 false)
    (cond (u == 34) (string quote.Double z)
    (cond (u == 39) (string quote.Single z)
    (cond (u == 96) (template true z) (cond (u == 125 && in_hole) (template false z) (plain u z))))))
