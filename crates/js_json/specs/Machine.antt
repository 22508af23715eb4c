-- What each unit does.
use Rattle.std.specs.Prelude.{ℕ, ◌+◌, ◌-◌, ◌*◌, ◌^◌, min, Bool, true, false, cond, ◌==◌, ◌&&◌, nat_le, nat_lt, List, [], ◌∷◌, ◌++◌, length, Option, Some, None}
use Rattle.js_names.specs.Names.{is_one_of, refused_names}
use Rattle.js_json.specs.declared.levels.Level.{Level}
use Rattle.js_json.specs.declared.levels.Level.TheVariants as level
use Rattle.js_json.specs.declared.machine.Word.{Word}
use Rattle.js_json.specs.declared.machine.Word.TheVariants as word
use Rattle.js_json.specs.declared.machine.Inner.{Inner}
use Rattle.js_json.specs.declared.machine.Inner.TheVariants as inner
use Rattle.js_json.specs.declared.machine.Digits.{Digits}
use Rattle.js_json.specs.declared.machine.Digits.TheVariants as digits
use Rattle.js_json.specs.declared.machine.NumberAt.{NumberAt}
use Rattle.js_json.specs.declared.machine.NumberAt.TheVariants as number
use Rattle.js_json.specs.declared.machine.Part.{Part}
use Rattle.js_json.specs.declared.machine.Part.TheVariants as part
use Rattle.js_json.specs.declared.machine.Taken.{Taken}
use Rattle.js_json.specs.declared.machine.Taken.TheVariants as taken
use Rattle.js_json.specs.declared.machine.Spot.{Spot}
use Rattle.js_json.specs.declared.machine.Spot.TheVariants as spot
use Rattle.js_json.specs.declared.machine.State.{State}
use Rattle.js_json.specs.Units.{is_blank, is_digit, is_hex, code_of, is_escape, escaped, is_mark}

-- ---- words

-- the unit that comes next
abbrev pub next_of : Word → ℕ
next_of word.Rue = 114
next_of word.Ue = 117
next_of word.E = 101
next_of word.Alse = 97
next_of word.Lse = 108
next_of word.Se = 115
next_of word.Ull = 117
next_of word.Ll = 108
next_of word.L = 108

-- it came
abbrev pub word_on : Word → Taken
word_on word.Rue = taken.More (part.Word word.Ue)
word_on word.Ue = taken.More (part.Word word.E)
word_on word.E = taken.Closed
word_on word.Alse = taken.More (part.Word word.Lse)
word_on word.Lse = taken.More (part.Word word.Se)
word_on word.Se = taken.More (part.Word word.E)
word_on word.Ull = taken.More (part.Word word.Ll)
word_on word.Ll = taken.More (part.Word word.L)
word_on word.L = taken.Closed

-- a unit within `true`, `false` or `null`: it is the next one, or the word is refused
abbrev pub in_word : Word → ℕ → Taken
in_word w u = cond (u == next_of w) (word_on w) taken.Bad

-- ---- texts

-- the front of a name with one more unit; more than 21 are not kept, since no refused name is so long
abbrev pub name_with : List ℕ → ℕ → List ℕ
name_with name u = cond (nat_lt (length name) 21) (name ++ u ∷ []) name

-- the text goes on: a key or not, what it spells so far, and what was read of the next letter
abbrev pub text : Bool → List ℕ → Inner → Taken
text key name i = taken.More (part.Text key name i)

-- the text ends with its quote; a key that is a refused name is refused
abbrev pub closed : Bool → List ℕ → Taken
closed key name = cond (key && is_one_of name refused_names) taken.Bad taken.Closed

-- a unit where a letter begins: the end of the text, `\`, or a unit for itself
abbrev pub in_plain : Bool → List ℕ → ℕ → Taken
in_plain key name u = cond (u == 34) (closed key name) (cond (u == 92) (text key name inner.Escape) (cond (nat_lt u 32) taken.Bad (text key (name_with name u) inner.Plain)))

-- a unit behind `\`: `u` before four digits, or an escape
abbrev pub in_escape : Bool → List ℕ → ℕ → Taken
in_escape key name u = cond (u == 117) (text key name inner.Code0) (cond (is_escape u) (text key (name_with name (escaped u)) inner.Plain) taken.Bad)

-- a unit where a hexadecimal digit has to come
abbrev pub in_code : Bool → List ℕ → Inner → ℕ → Taken
in_code key name i u = cond (is_hex u) (text key name i) taken.Bad

-- a unit where the last of four hexadecimal digits has to come
abbrev pub in_last : Bool → List ℕ → ℕ → ℕ → ℕ → ℕ → Taken
in_last key name a b c u = cond (is_hex u) (text key (name_with name (code_of a b c u)) inner.Plain) taken.Bad

-- a unit within a text, by what was read of the letter (ECMA-404, section 9)
abbrev pub in_text : Bool → List ℕ → Inner → ℕ → Taken
in_text key name inner.Plain u = in_plain key name u
in_text key name inner.Escape u = in_escape key name u
in_text key name inner.Code0 u = in_code key name (inner.Code1 u) u
in_text key name (inner.Code1 a) u = in_code key name (inner.Code2 a u) u
in_text key name (inner.Code2 a b) u = in_code key name (inner.Code3 a b u) u
in_text key name (inner.Code3 a b c) u = in_last key name a b c u

-- ---- numbers

-- the greatest safe integer, 2 ^ 53 - 1
abbrev pub most_safe : ℕ
most_safe = 9007199254740991

-- the counter's end
abbrev pub most : ℕ
most = 2 ^ 64 - 1

-- the digits of this number: itself, or that it is above the greatest safe integer
abbrev pub fitted : ℕ → Digits
fitted n = cond (nat_le n most_safe) (digits.Exact n 0) digits.Wide

-- one more digit of this value
abbrev pub grown : ℕ → ℕ → ℕ → Digits
grown n zeros v = cond (nat_lt zeros 16) (fitted (n * 10 ^ (zeros + 1) + v)) digits.Wide

-- the digits with one more behind them
abbrev pub push : Digits → ℕ → Digits
push digits.Zero u = cond (u == 48) digits.Zero (digits.Exact (u - 48) 0)
push (digits.Exact n zeros) u = cond (u == 48) (digits.Exact n (min (zeros + 1) most)) (grown n zeros (u - 48))
push digits.Wide u = digits.Wide

-- one more digit of the exponent
abbrev pub raised : ℕ → ℕ → ℕ
raised e u = min (min (e * 10) most + (u - 48)) most

-- n times 10 to the up by 10 to the down is a safe integer
abbrev pub fits : ℕ → ℕ → ℕ → Bool
fits n up down = nat_le down up && (nat_lt (up - down) 16 && nat_le (n * 10 ^ (up - down)) most_safe)

-- the number of these digits, by 10 to the `up` and over 10 to the `down`, is a safe integer
abbrev pub is_safe : Digits → ℕ → ℕ → Bool
is_safe digits.Zero up down = true
is_safe (digits.Exact n zeros) up down = fits n (zeros + up) down
is_safe digits.Wide up down = false

-- the number with an exponent is a safe integer; `true` where the exponent is below zero
abbrev pub is_safe_with : Digits → ℕ → Bool → ℕ → Bool
is_safe_with ds places true e = is_safe ds 0 (places + e)
is_safe_with ds places false e = is_safe ds e places

-- the number is whole and safe
abbrev pub is_whole : NumberAt → Bool
is_whole number.Zero = true
is_whole (number.Whole ds) = is_safe ds 0 0
is_whole (number.Fraction ds places) = is_safe ds 0 places
is_whole (number.Exponent ds places down e) = is_safe_with ds places down e
is_whole _ = false

-- the number goes on, and so much of it was read
abbrev pub number_at : NumberAt → Taken
number_at n = taken.More (part.Number n)

-- the unit stands behind the number, which is refused where it is not safe
abbrev pub ended : Bool → Taken
ended safe = cond safe taken.Ended taken.Bad

-- a unit that is no digit, behind a number without an exponent: `e` or `E`, or what follows the number
abbrev pub behind_fraction : Digits → ℕ → ℕ → Taken
behind_fraction ds places u = cond (is_mark u) (number_at (number.Mark ds places)) (ended (is_safe ds 0 places))

-- a unit that is no digit, behind the whole digits: a point, or what may stand behind a fraction
abbrev pub behind_whole : Digits → ℕ → Taken
behind_whole ds u = cond (u == 46) (number_at (number.Point ds)) (behind_fraction ds 0 u)

-- a unit behind `-`, which must be a digit
abbrev pub in_minus : ℕ → Taken
in_minus u = cond (u == 48) (number_at number.Zero) (cond (is_digit u) (number_at (number.Whole (push digits.Zero u))) taken.Bad)

-- a unit behind a whole digit that is not a lone 0
abbrev pub in_whole : Digits → ℕ → Taken
in_whole ds u = cond (is_digit u) (number_at (number.Whole (push ds u))) (behind_whole ds u)

-- a unit behind the point, which must be a digit
abbrev pub in_point : Digits → ℕ → Taken
in_point ds u = cond (is_digit u) (number_at (number.Fraction (push ds u) 1)) taken.Bad

-- a unit behind a digit of the fraction
abbrev pub in_fraction : Digits → ℕ → ℕ → Taken
in_fraction ds places u = cond (is_digit u) (number_at (number.Fraction (push ds u) (min (places + 1) most))) (behind_fraction ds places u)

-- a unit where the first digit of the exponent has to come
abbrev pub in_sign : Digits → ℕ → Bool → ℕ → Taken
in_sign ds places down u = cond (is_digit u) (number_at (number.Exponent ds places down (raised 0 u))) taken.Bad

-- a unit behind `e` or `E`: a sign or a digit
abbrev pub in_mark : Digits → ℕ → ℕ → Taken
in_mark ds places u = cond (u == 43) (number_at (number.Sign ds places false)) (cond (u == 45) (number_at (number.Sign ds places true)) (in_sign ds places false u))

-- a unit behind a digit of the exponent
abbrev pub in_exponent : Digits → ℕ → Bool → ℕ → ℕ → Taken
in_exponent ds places down e u = cond (is_digit u) (number_at (number.Exponent ds places down (raised e u))) (ended (is_safe_with ds places down e))

-- a unit within a number, by what was read of it (ECMA-404, section 8)
abbrev pub in_number : NumberAt → ℕ → Taken
in_number number.Minus u = in_minus u
in_number number.Zero u = behind_whole digits.Zero u
in_number (number.Whole ds) u = in_whole ds u
in_number (number.Point ds) u = in_point ds u
in_number (number.Fraction ds places) u = in_fraction ds places u
in_number (number.Mark ds places) u = in_mark ds places u
in_number (number.Sign ds places down) u = in_sign ds places down u
in_number (number.Exponent ds places down e) u = in_exponent ds places down e u

-- ---- tokens

-- a token that begins with this unit
abbrev pub first_part : ℕ → Option Part
first_part u =
    cond (u == 34) (Some (part.Text false [] inner.Plain))
    (cond (u == 45) (Some (part.Number number.Minus))
    (cond (u == 48) (Some (part.Number number.Zero))
    (cond (is_digit u) (Some (part.Number (number.Whole (push digits.Zero u))))
    (cond (u == 116) (Some (part.Word word.Rue))
    (cond (u == 102) (Some (part.Word word.Alse))
    (cond (u == 110) (Some (part.Word word.Ull)) None))))))

-- a unit within a token, by what was read of it
abbrev pub token : Part → ℕ → Taken
token (part.Word w) u = in_word w u
token (part.Text key name i) u = in_text key name i u
token (part.Number n) u = in_number n u

-- the token may end with the text
abbrev pub may_end : Part → Bool
may_end (part.Word w) = false
may_end (part.Text key name i) = false
may_end (part.Number n) = is_whole n

-- ---- values

-- the state behind a unit, or nothing where the unit is refused
abbrev pub Step : Type 0
Step = Option State

-- the same levels are open, and this is the place in them
abbrev pub stay : List Level → Spot → Step
stay ls s = Some (record { levels = ls; spot = s })

-- so many arrays and objects may be open at once
abbrev pub most_levels : ℕ
most_levels = 64

-- one more array or object is open, unless that is one too many
abbrev pub open_one : Level → Spot → List Level → Step
open_one l s ls = cond (nat_lt (length ls) most_levels) (stay (l ∷ ls) s) None

-- a token has begun, if the unit begins one
abbrev pub begin_part : List Level → Option Part → Step
begin_part ls (Some p) = stay ls (spot.In p)
begin_part ls None = None

-- a unit where a value has to begin: an array, an object or a token (ECMA-404, section 5)
abbrev pub begin : List Level → ℕ → Step
begin ls u = cond (u == 91) (open_one level.Array spot.FirstItem ls) (cond (u == 123) (open_one level.Object spot.FirstKey ls) (begin_part ls (first_part u)))

-- a unit where a key has to begin, which must be a quote
abbrev pub begin_key : List Level → ℕ → Step
begin_key ls u = cond (u == 34) (stay ls (spot.In (part.Text true [] inner.Plain))) None

-- `]`: the innermost level ends, which must be an array
abbrev pub close_array : List Level → Step
close_array (level.Array ∷ ls) = stay ls spot.Done
close_array _ = None

-- `}`: the innermost level ends, which must be an object
abbrev pub close_object : List Level → Step
close_object (level.Object ∷ ls) = stay ls spot.Done
close_object _ = None

-- a comma: the next item of an array, or the next key of an object
abbrev pub next : List Level → Step
next (level.Array ∷ ls) = stay (level.Array ∷ ls) spot.Begin
next (level.Object ∷ ls) = stay (level.Object ∷ ls) spot.NextKey
next [] = None

-- a unit behind a value that is no blank: `]`, `}` or a comma
abbrev pub after : List Level → ℕ → Step
after ls u = cond (u == 93) (close_array ls) (cond (u == 125) (close_object ls) (cond (u == 44) (next ls) None))

-- a unit before a value: a blank, or the value's begin
abbrev pub on_begin : List Level → ℕ → Step
on_begin ls u = cond (is_blank u) (stay ls spot.Begin) (begin ls u)

-- a unit behind `[`: a blank, `]`, or the first item's begin (ECMA-404, section 7)
abbrev pub on_first_item : List Level → ℕ → Step
on_first_item ls u = cond (is_blank u) (stay ls spot.FirstItem) (cond (u == 93) (close_array ls) (begin ls u))

-- a unit behind `{`: a blank, `}`, or the first key's begin (ECMA-404, section 6)
abbrev pub on_first_key : List Level → ℕ → Step
on_first_key ls u = cond (is_blank u) (stay ls spot.FirstKey) (cond (u == 125) (close_object ls) (begin_key ls u))

-- a unit behind a comma of an object: a blank, or the next key's begin
abbrev pub on_next_key : List Level → ℕ → Step
on_next_key ls u = cond (is_blank u) (stay ls spot.NextKey) (begin_key ls u)

-- a unit behind a key: a blank or the colon
abbrev pub on_colon : List Level → ℕ → Step
on_colon ls u = cond (is_blank u) (stay ls spot.Colon) (cond (u == 58) (stay ls spot.Begin) None)

-- a unit behind a value: a blank, or what ends the value or goes on behind it
abbrev pub on_done : List Level → ℕ → Step
on_done ls u = cond (is_blank u) (stay ls spot.Done) (after ls u)

-- the place behind a text: a colon follows a key, anything else is a whole value
abbrev pub behind : Bool → Spot
behind key = cond key spot.Colon spot.Done

-- the token is a text that is a key
abbrev pub is_key : Part → Bool
is_key (part.Text key name i) = key
is_key _ = false

-- what comes of a unit that was given to a token
abbrev pub on_taken : List Level → Bool → Taken → ℕ → Step
on_taken ls key (taken.More p) u = stay ls (spot.In p)
on_taken ls key taken.Closed u = stay ls (behind key)
on_taken ls key taken.Ended u = on_done ls u
on_taken ls key taken.Bad u = None

-- what a unit does at this place within these levels
abbrev pub step_at : List Level → Spot → ℕ → Step
step_at ls spot.Begin u = on_begin ls u
step_at ls spot.FirstItem u = on_first_item ls u
step_at ls spot.FirstKey u = on_first_key ls u
step_at ls spot.NextKey u = on_next_key ls u
step_at ls spot.Colon u = on_colon ls u
step_at ls spot.Done u = on_done ls u
step_at ls (spot.In p) u = on_taken ls (is_key p) (token p u) u

-- what a unit does in a state
abbrev pub step : State → ℕ → Step
step s u = step_at s.levels s.spot u

-- the text may end here
abbrev pub stops_at : List Level → Spot → Bool
stops_at [] spot.Done = true
stops_at [] (spot.In p) = may_end p
stops_at _ _ = false

-- the text may end in this state
abbrev pub stops : State → Bool
stops s = stops_at s.levels s.spot

-- what holds of the state behind a step; nothing holds where the unit was refused
abbrev pub went : Step → (State → Bool) → Bool
went (Some n) f = f n
went None f = false

-- the units are taken one by one, and the text may end behind them
abbrev pub accepts : State → List ℕ → Bool
accepts s [] = stops s
accepts s (u ∷ us) = went (step s u) (λ n. accepts n us)

-- before the first unit: nothing is open, and a value has to come
abbrev pub start : State
start = record { levels = []; spot = spot.Begin }
