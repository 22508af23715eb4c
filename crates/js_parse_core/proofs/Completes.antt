-- A statement is whole, and what may follow it.
use Rattle.std.proofs.Common.{◌≡◌, ℕ, Bool, true, false, cond, List, [], ◌∷◌, ◌⊎◌, Some, None, Ok, Err, refl, sym, ap, ◌∙◌, inl, inr}
use Rattle.std.proofs.lemmas.Bool.{false_from_ne_true}
use Rattle.js_lex.specs.declared.token.Punctuator.TheVariants as p
use Rattle.js_lex.specs.declared.token.Reserved.TheVariants as r
use Rattle.js_lex.specs.declared.token.TokenKind.{TokenKind}
use Rattle.js_lex.specs.declared.token.TokenKind.TheVariants as tok
use Rattle.js_lex.specs.declared.token.Token.{Token}
use Rattle.js_tree.specs.declared.tree.Catch.{Catch}
use Rattle.js_tree.specs.declared.tree.Expr.{Expr}
use Rattle.js_tree.specs.declared.tree.Stmt.{Stmt}
use Rattle.js_tree.specs.declared.tree.Stmt.TheVariants as stmt
use Rattle.js_grammar.specs.Marks.{Piece, Read, Ended}
use Rattle.js_parse_core.specs.declared.machine.At.TheVariants as at
use Rattle.js_parse_core.specs.declared.machine.Body.TheVariants as body
use Rattle.js_parse_core.specs.declared.machine.Frame.{Frame}
use Rattle.js_parse_core.specs.declared.machine.Frame.TheVariants as frame
use Rattle.js_parse_core.specs.declared.machine.Open.{Open}
use Rattle.js_parse_core.specs.declared.machine.Outer.{Outer}
use Rattle.js_parse_core.specs.declared.machine.Refusal.{Refusal}
use Rattle.js_parse_core.specs.declared.machine.State.{State}
use Rattle.js_parse_core.specs.Outer.{Step, refuse, to, framed, wait_body, complete, complete_in, complete_frame, settle, settle_in, settle_frame}
use Rattle.js_parse_core.specs.Statements.{on_statement, resume, else_behind, statement_behind, after_then, after_catch}
use Rattle.js_parse_core.specs.Tokens.{is_else, is_finally}
use Rattle.js_parse_core.specs.Machine.{step, step_in}
use Rattle.js_parse_core.proofs.Pieces.{no_limit, end_token, is_between, is_last, take, finish}
use Rattle.js_parse_core.proofs.PieceLemmas.{no_limit_is, take_is}
use Rattle.js_parse_core.proofs.Readings.{token}
use Rattle.js_parse_core.proofs.Reaches.{Goal, Leads, did, leads_is, leads_end, leads_piece, piece_leads}
use Rattle.js_parse_core.proofs.ReadsStatements.{Settles, Ends, begins_else}

-- ---- the frames of the outer do not matter beside those that are walked

complete_frame_framed : (o : Outer) (gs fs : List Open) (n : ℕ) (x : Frame) (s : Stmt) → ((y : Stmt) → complete_in (framed o gs) fs y ≡ complete_in o fs y)
    → complete_frame (framed (framed o gs) fs) n x s (λ t. complete_in (framed o gs) fs t) ≡ complete_frame (framed o fs) n x s (λ t. complete_in o fs t)
complete_frame_framed o gs fs n (frame.Block b ss) s h = refl
complete_frame_framed o gs fs n (frame.Body (body.Then test)) s h = refl
complete_frame_framed o gs fs n (frame.Body (body.Else test a)) s h = h (stmt.If test a (Some s))
complete_frame_framed o gs fs n (frame.Body (body.For b test update)) s h = h (stmt.For b test update s)
complete_frame_framed o gs fs n (frame.Body (body.ForOf k m x)) s h = h (stmt.ForOf k m x s)
complete_frame_framed o gs fs n (frame.Body (body.While test)) s h = h (stmt.While test s)
complete_frame_framed o gs fs n _ s h = refl

pub complete_framed : (o : Outer) (gs fs : List Open) (s : Stmt) → complete_in (framed o gs) fs s ≡ complete_in o fs s
complete_framed o gs [] s = refl
complete_framed o gs (f ∷ fs) s = complete_frame_framed o gs fs f.constructs f.frame s (λ y. complete_framed o gs fs y)

settle_frame_framed : (o : Outer) (gs fs : List Open) (n : ℕ) (x : Frame) (s : Stmt) → ((y : Stmt) → settle_in (framed o gs) fs y ≡ settle_in o fs y)
    → settle_frame (framed (framed o gs) fs) n x s (λ t. settle_in (framed o gs) fs t) ≡ settle_frame (framed o fs) n x s (λ t. settle_in o fs t)
settle_frame_framed o gs fs n (frame.Block b ss) s h = refl
settle_frame_framed o gs fs n (frame.Body (body.Then test)) s h = h (stmt.If test s None)
settle_frame_framed o gs fs n (frame.Body (body.Else test a)) s h = h (stmt.If test a (Some s))
settle_frame_framed o gs fs n (frame.Body (body.For b test update)) s h = h (stmt.For b test update s)
settle_frame_framed o gs fs n (frame.Body (body.ForOf k m x)) s h = h (stmt.ForOf k m x s)
settle_frame_framed o gs fs n (frame.Body (body.While test)) s h = h (stmt.While test s)
settle_frame_framed o gs fs n _ s h = refl

pub settle_framed : (o : Outer) (gs fs : List Open) (s : Stmt) → settle_in (framed o gs) fs s ≡ settle_in o fs s
settle_framed o gs [] s = refl
settle_framed o gs (f ∷ fs) s = settle_frame_framed o gs fs f.constructs f.frame s (λ y. settle_framed o gs fs y)

-- ---- what completing gives: a place between statements, or one behind the first body of an `if`

-- what was made where `else` may follow, and where it does not
abbrev Cases : Step → Step → Type 0
Cases made settled = ((k : Refusal) × (made ≡ Err k) × (settled ≡ Err k))
    ⊎ (((n : Outer) × (made ≡ to n at.Statement) × (settled ≡ to n at.Statement))
    ⊎ ((n : Outer) × (test : Expr) × (a : Stmt) × (made ≡ to n (at.AfterThen test a)) × (settled ≡ settle n (stmt.If test a None))))

cases_frame : (o : Outer) (fs : List Open) (n : ℕ) (x : Frame) (s : Stmt) → ((y : Stmt) → Cases (complete_in o fs y) (settle_in o fs y))
    → Cases (complete_frame (framed o fs) n x s (λ t. complete_in o fs t)) (settle_frame (framed o fs) n x s (λ t. settle_in o fs t))
cases_frame o fs n (frame.Block b ss) s h = inr (inl (_, refl, refl))
cases_frame o fs n (frame.Body (body.Then test)) s h = inr (inr (framed o fs, test, s, refl, sym (settle_framed o fs fs (stmt.If test s None))))
cases_frame o fs n (frame.Body (body.Else test a)) s h = h (stmt.If test a (Some s))
cases_frame o fs n (frame.Body (body.For b test update)) s h = h (stmt.For b test update s)
cases_frame o fs n (frame.Body (body.ForOf k m x)) s h = h (stmt.ForOf k m x s)
cases_frame o fs n (frame.Body (body.While test)) s h = h (stmt.While test s)
cases_frame o fs n _ s h = inl (_, refl, refl)

cases_in : (o : Outer) (fs : List Open) (s : Stmt) → Cases (complete_in o fs s) (settle_in o fs s)
cases_in o [] s = inr (inl (_, refl, refl))
cases_in o (f ∷ fs) s = cases_frame o fs f.constructs f.frame s (λ y. cases_in o fs y)

cases : (o : Outer) (s : Stmt) → Cases (complete o s) (settle o s)
cases o s = cases_in o o.frames s

-- ---- words that begin no statement

pub else_is : (k : TokenKind) → is_else k ≡ true → k ≡ tok.Reserved r.Else
else_is (tok.Reserved r.Else) e = refl
else_is _ e = cc

pub finally_is : (k : TokenKind) → is_finally k ≡ true → k ≡ tok.Reserved r.Finally
finally_is (tok.Reserved r.Finally) e = refl
finally_is _ e = cc

pub no_step : (g : Goal) (k : Refusal) (ps : List Piece) → Leads g (Err k) ps → ⊥
no_step g k ps h = let e = h.leads in cc

begins_no_else : (g : Goal) (o : Outer) (t : Token) (ps : List Piece) → t.kind ≡ tok.Reserved r.Else → Leads g (on_statement o t) ps → ⊥
begins_no_else g o t ps e h = no_step g _ ps (leads_is g _ (on_statement o t) ps (ap (λ (k : TokenKind). on_statement o (token t.place t.after_line_end k)) (sym e)) h)

begins_no_finally : (g : Goal) (o : Outer) (t : Token) (ps : List Piece) → t.kind ≡ tok.Reserved r.Finally → Leads g (on_statement o t) ps → ⊥
begins_no_finally g o t ps e h = no_step g _ ps (leads_is g _ (on_statement o t) ps (ap (λ (k : TokenKind). on_statement o (token t.place t.after_line_end k)) (sym e)) h)

-- ---- what follows a statement

-- a token that leads on is no last one, and is taken by its spot
pub record Took (g : Goal) (s : State) (t : Token) (ps : List Piece) : Type 0 where
  pub is_not_last : is_last t.kind ≡ false
  pub leads : Leads g (did s t) ps

pub took : (g : Goal) (s : State) (t : Token) (ps : List Piece) → Leads g (Ok s) (Read t ∷ ps) → Took g s t ps
took g s t ps h = by_last (is_last t.kind) refl
  where
    by_last : (b : Bool) → is_last t.kind ≡ b → Took g s t ps
    by_last false e = record { is_not_last = e; leads = leads_is g (did s t) (take s (Read t)) ps (sym (take_is s t e)) (piece_leads g s (Read t) ps h) }
    by_last true e = absurd (no_step g _ ps (leads_is g refuse (take s (Read t)) ps (sym (ap (λ (b : Bool). cond b refuse (step no_limit false s t)) e)) (piece_leads g s (Read t) ps h)))

pub takes : (g : Goal) (s : State) (t : Token) (ps : List Piece) → is_last t.kind ≡ false → Leads g (did s t) ps → Leads g (Ok s) (Read t ∷ ps)
takes g s t ps e h = leads_piece g s (Read t) ps (leads_is g (take s (Read t)) (did s t) ps (take_is s t e) h)

-- a token that leads on behind a whole statement
record Resumed (g : Goal) (o : Outer) (x : Stmt) (t : Token) (ps : List Piece) : Type 0 where
  is_not_last : is_last t.kind ≡ false
  is_not_finally : is_finally t.kind ≡ false
  leads : Leads g (resume o x t) ps

-- `else` goes where else_behind says, another token where statement_behind does
resume_is : (g : Goal) (o : Outer) (x : Stmt) (t : Token) (ps : List Piece) → (is_else t.kind ≡ true → Leads g (else_behind (complete o x)) ps)
    → (is_else t.kind ≡ false → Leads g (statement_behind (settle o x) t) ps) → Leads g (resume o x t) ps
resume_is g o x t ps h k = by_else (is_else t.kind) refl
  where
    by_else : (b : Bool) → is_else t.kind ≡ b → Leads g (resume o x t) ps
    by_else true e = leads_is g (resume o x t) (else_behind (complete o x)) ps (ap (λ (b : Bool). cond b (else_behind (complete o x)) (statement_behind (settle o x) t)) e) (h e)
    by_else false e = leads_is g (resume o x t) (statement_behind (settle o x) t) ps (ap (λ (b : Bool). cond b (else_behind (complete o x)) (statement_behind (settle o x) t)) e) (k e)

resumed_statement : (g : Goal) (o n : Outer) (x : Stmt) (t : Token) (ps : List Piece) → settle o x ≡ to n at.Statement → Took g (record { outer = n; at = at.Statement }) t ps → Resumed g o x t ps
resumed_statement g o n x t ps e k = record {
  is_not_last = k.is_not_last;
  is_not_finally = false_from_ne_true (is_finally t.kind) (λ f. begins_no_finally g n t ps (finally_is t.kind f) k.leads);
  leads = resume_is g o x t ps (λ f. absurd (begins_no_else g n t ps (else_is t.kind f) k.leads))
      (λ f. leads_is g (statement_behind (settle o x) t) (on_statement n t) ps (ap (λ (z : Step). statement_behind z t) e) k.leads);
}

-- behind the first body of an `if`
then_else : (g : Goal) (n : Outer) (test : Expr) (a : Stmt) (t : Token) (ps : List Piece) → is_else t.kind ≡ true → Leads g (after_then n test a t) ps → Leads g (wait_body n (body.Else test a)) ps
then_else g n test a t ps e h = leads_is g _ (after_then n test a t) ps (sym (ap (λ (b : Bool). cond b (wait_body n (body.Else test a)) (resume n (stmt.If test a None) t)) e)) h

then_other : (g : Goal) (n : Outer) (test : Expr) (a : Stmt) (t : Token) (ps : List Piece) → is_else t.kind ≡ false → Leads g (after_then n test a t) ps → Leads g (statement_behind (settle n (stmt.If test a None)) t) ps
then_other g n test a t ps e h = leads_is g _ (after_then n test a t) ps
    (sym (ap (λ (b : Bool). cond b (wait_body n (body.Else test a)) (resume n (stmt.If test a None) t)) e
    ∙ ap (λ (b : Bool). cond b (else_behind (complete n (stmt.If test a None))) (statement_behind (settle n (stmt.If test a None)) t)) e)) h

behind_no_finally : (g : Goal) (made : Step) (t : Token) (ps : List Piece) → t.kind ≡ tok.Reserved r.Finally → Leads g (statement_behind made t) ps → ⊥
behind_no_finally g (Ok n) t ps e h = begins_no_finally g n.outer t ps e h
behind_no_finally g (Err k) t ps e h = no_step g k ps h

finally_no_else : (k : TokenKind) → k ≡ tok.Reserved r.Finally → is_else k ≡ false
finally_no_else k e = ap is_else e

resumed_then : (g : Goal) (o n : Outer) (test : Expr) (a x : Stmt) (t : Token) (ps : List Piece) → complete o x ≡ to n (at.AfterThen test a) → settle o x ≡ settle n (stmt.If test a None)
    → Took g (record { outer = n; at = at.AfterThen test a }) t ps → Resumed g o x t ps
resumed_then g o n test a x t ps c e k = record {
  is_not_last = k.is_not_last;
  is_not_finally = false_from_ne_true (is_finally t.kind) (λ f. let w = finally_is t.kind f in behind_no_finally g (settle n (stmt.If test a None)) t ps w (then_other g n test a t ps (finally_no_else t.kind w) k.leads));
  leads = resume_is g o x t ps
      (λ f. leads_is g (else_behind (complete o x)) (wait_body n (body.Else test a)) ps (ap else_behind c) (then_else g n test a t ps f k.leads))
      (λ f. leads_is g (statement_behind (settle o x) t) (statement_behind (settle n (stmt.If test a None)) t) ps (ap (λ (z : Step). statement_behind z t) e) (then_other g n test a t ps f k.leads));
}

resumed : (g : Goal) (o : Outer) (x : Stmt) (t : Token) (ps : List Piece) → Leads g (complete o x) (Read t ∷ ps) → Resumed g o x t ps
resumed g o x t ps h = elim (cases o x) [
  | inl c ↦ absurd (no_step g c.0 (Read t ∷ ps) (leads_is g (Err c.0) (complete o x) (Read t ∷ ps) (sym c.1) h))
  | inr d ↦ elim d [
    | inl c ↦ resumed_statement g o c.0 x t ps c.2 (took g _ t ps (leads_is g (to c.0 at.Statement) (complete o x) (Read t ∷ ps) (sym c.1) h))
    | inr c ↦ resumed_then g o c.0 c.1 c.2 x t ps c.3 c.4 (took g _ t ps (leads_is g (to c.0 (at.AfterThen c.1 c.2)) (complete o x) (Read t ∷ ps) (sym c.3) h))
  ]
]

-- no automatic end stands behind a whole statement
no_end_behind : (g : Goal) (o : Outer) (x : Stmt) (ps : List Piece) → Leads g (complete o x) (Ended ∷ ps) → ⊥
no_end_behind g o x ps h = elim (cases o x) [
  | inl c ↦ no_step g c.0 (Ended ∷ ps) (leads_is g (Err c.0) (complete o x) (Ended ∷ ps) (sym c.1) h)
  | inr d ↦ elim d [
    | inl c ↦ no_step g _ ps (piece_leads g _ Ended ps (leads_is g (to c.0 at.Statement) (complete o x) (Ended ∷ ps) (sym c.1) h))
    | inr c ↦ no_step g _ ps (piece_leads g _ Ended ps (leads_is g (to c.0 (at.AfterThen c.1 c.2)) (complete o x) (Ended ∷ ps) (sym c.3) h))
  ]
]

-- ---- an `if` and a `try` that may go on

pub then_leads : (g : Goal) (o : Outer) (test : Expr) (a : Stmt) (rest : List Piece) → begins_else rest ≡ false → Ends g rest → Leads g (complete o (stmt.If test a None)) rest → Leads g (to o (at.AfterThen test a)) rest
then_leads g o test a [] b e h = record { leads = ap (λ (z : Step). Ok z) ((e refl).after_then o test a h) }
then_leads g o test a (Ended ∷ ps) b e h = absurd (no_end_behind g o (stmt.If test a None) ps h)
then_leads g o test a (Read t ∷ ps) b e h =
    let k : Resumed g o (stmt.If test a None) t ps = resumed g o (stmt.If test a None) t ps h in
    takes g (record { outer = o; at = at.AfterThen test a }) t ps k.is_not_last
    (leads_is g (after_then o test a t) (resume o (stmt.If test a None) t) ps (ap (λ (z : Bool). cond z (wait_body o (body.Else test a)) (resume o (stmt.If test a None) t)) b) k.leads)

pub catch_leads : (g : Goal) (o : Outer) (ss : List Stmt) (c : Catch) (rest : List Piece) → Ends g rest → Leads g (complete o (stmt.Try ss (Some c) None)) rest → Leads g (to o (at.AfterCatch ss c)) rest
catch_leads g o ss c [] e h = record { leads = ap (λ (z : Step). Ok z) ((e refl).after_catch o ss c h) }
catch_leads g o ss c (Ended ∷ ps) e h = absurd (no_end_behind g o (stmt.Try ss (Some c) None) ps h)
catch_leads g o ss c (Read t ∷ ps) e h =
    let k : Resumed g o (stmt.Try ss (Some c) None) t ps = resumed g o (stmt.Try ss (Some c) None) t ps h in
    takes g (record { outer = o; at = at.AfterCatch ss c }) t ps k.is_not_last
    (leads_is g (after_catch o ss c t) (resume o (stmt.Try ss (Some c) None) t) ps (ap (λ (z : Bool). cond z (to o (at.FinallyOpen ss (Some c))) (resume o (stmt.Try ss (Some c) None) t)) k.is_not_finally) k.leads)

-- ---- a token that ends all as an end

-- at the end, the token t does its step where a statement may be whole
pub record LastBy (g : Goal) (t : Token) : Type 0 where
  pub no_else : is_else t.kind ≡ false
  pub no_finally : is_finally t.kind ≡ false
  pub last_is : (n : State) → is_between n.at ≡ true → g.last n ≡ did n t

resume_other : (o : Outer) (x : Stmt) (t : Token) → is_else t.kind ≡ false → resume o x t ≡ statement_behind (settle o x) t
resume_other o x t e = ap (λ (b : Bool). cond b (else_behind (complete o x)) (statement_behind (settle o x) t)) e

then_resumes : (o : Outer) (test : Expr) (a : Stmt) (t : Token) → is_else t.kind ≡ false → after_then o test a t ≡ statement_behind (settle o (stmt.If test a None)) t
then_resumes o test a t e = ap (λ (b : Bool). cond b (wait_body o (body.Else test a)) (resume o (stmt.If test a None) t)) e ∙ resume_other o (stmt.If test a None) t e

settled_last : (g : Goal) (t : Token) (o : Outer) (x : Stmt) → LastBy g t → Leads g (complete o x) [] → statement_behind (settle o x) t ≡ g.final
settled_last g t o x l h = elim (cases o x) [
  | inl c ↦ absurd (no_step g c.0 [] (leads_is g (Err c.0) (complete o x) [] (sym c.1) h))
  | inr d ↦ elim d [
    | inl c ↦ ap (λ (z : Step). statement_behind z t) c.2 ∙ sym (l.last_is (record { outer = c.0; at = at.Statement }) refl)
        ∙ leads_end g (record { outer = c.0; at = at.Statement }) (leads_is g (to c.0 at.Statement) (complete o x) [] (sym c.1) h)
    | inr c ↦ ap (λ (z : Step). statement_behind z t) c.4 ∙ sym (then_resumes c.0 c.1 c.2 t l.no_else) ∙ sym (l.last_is (record { outer = c.0; at = at.AfterThen c.1 c.2 }) refl)
        ∙ leads_end g (record { outer = c.0; at = at.AfterThen c.1 c.2 }) (leads_is g (to c.0 (at.AfterThen c.1 c.2)) (complete o x) [] (sym c.3) h)
  ]
]

pub settles_by : (g : Goal) (t : Token) → LastBy g t → Settles g
settles_by g t l = record {
  after_then = λ o test s h. l.last_is (record { outer = o; at = at.AfterThen test s }) refl ∙ then_resumes o test s t l.no_else ∙ settled_last g t o (stmt.If test s None) l h;
  after_catch = λ o ss c h. l.last_is (record { outer = o; at = at.AfterCatch ss c }) refl
      ∙ ap (λ (b : Bool). cond b (to o (at.FinallyOpen ss (Some c))) (resume o (stmt.Try ss (Some c) None) t)) l.no_finally
      ∙ resume_other o (stmt.Try ss (Some c) None) t l.no_else ∙ settled_last g t o (stmt.Try ss (Some c) None) l h;
}

-- the end of a script
pub finish_settles : (final : Step) → Settles (record { last = finish; final = final })
finish_settles final = settles_by (record { last = finish; final = final }) end_token (record {
  no_else = refl;
  no_finally = refl;
  last_is = λ n b. ap (λ (z : Bool). cond z (step no_limit false n end_token) refuse) b ∙ no_limit_is (step_in no_limit false n.outer n.at end_token);
})

-- .. of a block
pub brace_settles : (q : ℕ) (l : Bool) (final : Step) → Settles (record { last = λ n. take n (Read (token q l (tok.Punctuator p.CloseBrace))); final = final })
brace_settles q l final = settles_by (record { last = λ n. take n (Read (token q l (tok.Punctuator p.CloseBrace))); final = final }) (token q l (tok.Punctuator p.CloseBrace)) (record {
  no_else = refl;
  no_finally = refl;
  last_is = λ n b. take_is n (token q l (tok.Punctuator p.CloseBrace)) refl;
})

-- ---- where nothing else but a statement follows, no `else` does

pub no_else_between : (g : Goal) (o : Outer) (rest : List Piece) → Leads g (to o at.Statement) rest → begins_else rest ≡ false
no_else_between g o [] h = refl
no_else_between g o (Ended ∷ ps) h = refl
no_else_between g o (Read t ∷ ps) h =
    let k : Took g (record { outer = o; at = at.Statement }) t ps = took g (record { outer = o; at = at.Statement }) t ps h in
    false_from_ne_true (is_else t.kind) (λ f. begins_no_else g o t ps (else_is t.kind f) k.leads)
