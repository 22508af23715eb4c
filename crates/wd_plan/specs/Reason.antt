-- What is printed of the reason for which a script is refused.
use Rattle.std.specs.Prelude.{ℕ, List, ◌++◌, codes, encode_utf8_all}
use Rattle.std.specs.Char.Utf16.{utf16_lossy_chars}
use Rattle.std.specs.Fmt.{decimal}
use Rattle.js_check.specs.declared.script.ScriptRefusal.{ScriptRefusal}
use Rattle.js_check.specs.declared.script.ScriptRefusal.TheVariants.{Grammar, Early}
use Rattle.js_lex.specs.declared.token.ScriptKind.{ScriptKind}
use Rattle.js_lex.specs.declared.token.ScriptKind.TheVariants.{Syntax, LeftOut}
use Rattle.js_scope.specs.declared.fault.EarlyKind.{EarlyKind}
use Rattle.js_scope.specs.declared.fault.EarlyKind.TheVariants.{DoubleName, ReturnOutside, AwaitOutside, BreakOutside}
use Rattle.wd_plan.specs.declared.reason.Reason.{Reason}
use Rattle.wd_plan.specs.declared.reason.Reason.TheVariants.{Faulty, OtherForm}

-- the UTF-8 of UTF-16 units
abbrev pub utf8_of : List ℕ → List ℕ
utf8_of units = encode_utf8_all (utf16_lossy_chars units)

-- a kind with its place
unfoldable pub placed : List ℕ → ℕ → List ℕ
placed kind place = kind ++ (codes " at " ++ decimal place)

-- what is left out, by its word
unfoldable pub left_out_text : List ℕ → ℕ → List ℕ
left_out_text word place = placed (codes "LeftOut " ++ utf8_of word) place

-- a fault of the grammar, of this kind and word
abbrev pub grammar_text : ScriptKind → List ℕ → ℕ → List ℕ
grammar_text Syntax word place = placed (codes "Syntax") place
grammar_text LeftOut word place = left_out_text word place

-- the name of a kind of early fault
abbrev pub early_kind : EarlyKind → List ℕ
early_kind DoubleName = codes "DoubleName"
early_kind ReturnOutside = codes "ReturnOutside"
early_kind AwaitOutside = codes "AwaitOutside"
early_kind BreakOutside = codes "BreakOutside"

-- the reason that is printed for a script that is refused, with its offset
abbrev pub refusal_text : ScriptRefusal → List ℕ
refusal_text (Grammar fault) = grammar_text fault.kind fault.word fault.place
refusal_text (Early fault) = placed (early_kind fault.kind) fault.place

-- what is printed of a reason: a kind, with a word where something is left out, and a place
abbrev pub reason_text : Reason → List ℕ
reason_text (Faulty refusal) = refusal_text refusal
reason_text OtherForm = placed (codes "LeftOut form") 0
