-- What a Worker's script comes to, and the scripts that answer every request with one text.
use Rattle.std.specs.Prelude.{◌≡◌, ℕ, Bool, not, ◌&&◌, ◌==◌, nat_le, nat_lt, nat_eq, List, [], ◌∷◌, ◌++◌, ◌-◌, length}
use Rattle.std.specs.Prelude.{take, drop, Option, Some, None, codes, option_map, if◌then◌else◌}
use Rattle.std.specs.Option.{option_and_then}
use Rattle.std.specs.Cmp.Lexicographic.{pointwise}
use Rattle.wd_base.specs.declared.config.Form.{Form}
use Rattle.wd_base.specs.declared.config.Form.TheVariants as form
use Rattle.wd_base.specs.declared.config.WorkerDef.{WorkerDef}
use Rattle.wd_base.specs.Text.{utf16_of}
use Rattle.js_check.specs.Verdict.{Checked}
use Rattle.wd_plan.specs.declared.reason.Reason.TheVariants.{Faulty, OtherForm}
use Rattle.wd_plan.specs.declared.script.Verdict.{Verdict}
use Rattle.wd_plan.specs.declared.script.Verdict.TheVariants.{Answers, Refused}

-- up to the string literal's first quotation mark, and with it
abbrev pub front : List ℕ
front = codes "export default {" ++ 10 ∷ codes "  async fetch(request) {" ++ 10 ∷ codes "    return new Response("
    ++ 34 ∷ []

-- from the string literal's other quotation mark on
abbrev pub back : List ℕ
back = 34 ∷ codes ");" ++ 10 ∷ codes "  }" ++ 10 ∷ codes "};" ++ 10 ∷ []

-- the bytes behind the front
abbrev pub behind_front : List ℕ → Option (List ℕ)
behind_front bytes = if pointwise nat_eq (take (length front) bytes) front then Some (drop (length front) bytes) else
    None

-- the bytes before the back
abbrev pub before_back : List ℕ → Option (List ℕ)
before_back bytes = if pointwise nat_eq (drop (length bytes - length back) bytes) back then Some
    (take (length bytes - length back) bytes) else None

-- what stands between the marks of the script's string literal
abbrev pub inner : List ℕ → Option (List ℕ)
inner source = option_and_then before_back (behind_front source)

-- printable ASCII that stands for itself in a string literal
unfoldable pub is_plain : ℕ → Bool
is_plain b = nat_le 32 b && (nat_lt b 127 && (not (b == 34) && not (b == 92)))

-- the value with bytes in front of it, where there is one
unfoldable pub behind : List ℕ → Option (List ℕ) → Option (List ℕ)
behind bytes value = option_map (λ v. bytes ++ v) value

-- the value of what stands between the marks of a string literal (ECMA-262, section 12.9.4),
-- where `\n` is the only escape
unfoldable pub literal_value : List ℕ → Option (List ℕ)
literal_value [] = Some []
literal_value (b ∷ []) = if is_plain b then Some (b ∷ []) else None
literal_value (b ∷ c ∷ rest) = if (b == 92) && (c == 110) then behind (10 ∷ []) (literal_value rest)
    else (if is_plain b then behind (b ∷ []) (literal_value (c ∷ rest)) else None)

-- the text that a script answers to every request, where it has the one form that is read
abbrev pub answer_of : List ℕ → Option (List ℕ)
answer_of source = option_and_then literal_value (inner source)

-- the same of a script of this form: only a module has the one form
abbrev pub answer_as : Form → List ℕ → Option (List ℕ)
answer_as form.Module source = answer_of source
answer_as form.Script source = None

-- the text that a Worker's script answers to every request, where there is one
abbrev pub answer_for : WorkerDef → Option (List ℕ)
answer_for def = answer_as def.form def.source

-- what a script comes to that passes the check, by the text that it answers to every request, where there is one
abbrev pub answered : Option (List ℕ) → Verdict
answered None = Refused OtherForm
answered (Some text) = Answers text

-- What a Worker's script comes to: it is refused for what the check of it finds, or else by its form.
abbrev pub Comes : WorkerDef → Verdict → Type 0
Comes def (Refused (Faulty refusal)) = Checked (utf16_of def.source) (Some refusal)
Comes def (Refused OtherForm) = Checked (utf16_of def.source) None × (answer_for def ≡ None)
Comes def (Answers text) = Checked (utf16_of def.source) None × (answer_for def ≡ Some text)

-- the value of the literal from a character on, whose place in the literal ends at the number
abbrev pub value_from : Option (ℕ × ℕ) → List ℕ → Option (List ℕ)
value_from None literal = None
value_from (Some found) literal = behind (found.0 ∷ []) (literal_value (drop found.1 literal))
