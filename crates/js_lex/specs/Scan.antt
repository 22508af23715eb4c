-- One step of the reading of a text. The contract of `lex` speaks of Grammar alone.
use Rattle.std.specs.Prelude.{◌+◌, false, ◌||◌, [], ◌∷◌, ◌++◌}
use Rattle.js_lex.specs.declared.token.TokenKind.TheVariants as tok
use Rattle.js_lex.specs.declared.scan.State.{State}
use Rattle.js_lex.specs.declared.scan.Step.{Step}
use Rattle.js_lex.specs.declared.scan.Step.TheVariants as step
use Rattle.js_lex.specs.declared.front.Front.{Front}
use Rattle.js_lex.specs.declared.front.Front.TheVariants as front
use Rattle.js_lex.specs.Places.{braces, fault, token}

-- with what stands at the front
abbrev pub taken : State → Front → Step
taken s (front.Gap more ends) =
    step.Next (record { tokens = s.tokens; braces = s.braces; place = s.place + (1 + more); after_line_end = s.after_line_end || ends })
taken s (front.Token k more) =
    step.Next (record { tokens = s.tokens ++ token s.place s.after_line_end k ∷ []; braces = braces k s.braces; place = s.place + (1 + more); after_line_end = false })
taken s (front.Bad why) = step.Stop (s.tokens ++ token s.place s.after_line_end (tok.Bad (fault s.place why)) ∷ [])
