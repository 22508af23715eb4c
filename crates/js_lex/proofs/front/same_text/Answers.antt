use Rattle.std.proofs.Common.{sym, ◌∙◌, ap}
use Rattle.std.specs.Prelude.{Bool, ◌&&◌, ◌==◌, length}
use Rattle.js_lex.proofs.Words.{same_told}
use Rattle.js_lex.proofs.front.same_text.Goals as goal

pub returns-then-begins : goal.returns-then-begins
returns-then-begins c =
    let t = c.args.text.now in
    let w = c.args.word.now in
    ap (λ (r : Bool). r && (length t == length w)) (sym c.if-begins.true ∙ c.begins.ensures.value) ∙ same_told t w

pub returns-else-begins : goal.returns-else-begins
returns-else-begins c =
    let t = c.args.text.now in
    let w = c.args.word.now in
    c.if-begins.false ∙ ap (λ (r : Bool). r && (length t == length w)) (sym c.if-begins.false ∙ c.begins.ensures.value) ∙ same_told t w
