-- A whole statement ends what waits for it, whatever frames are kept beside those that it meets.
use Rattle.std.proofs.Common.{◌≡◌, ℕ, List, [], ◌∷◌, Result, refl, sym, ap, subst, ◌∙◌}
use Rattle.js_parse_core.specs.Steps.{Steps}
use Rattle.js_tree.specs.declared.tree.Expr.{Expr}
use Rattle.js_tree.specs.declared.tree.Stmt.{Stmt}
use Rattle.js_parse_core.specs.declared.machine.Body.{Body}
use Rattle.js_parse_core.specs.declared.machine.Body.TheVariants as body
use Rattle.js_parse_core.specs.declared.machine.Frame.{Frame}
use Rattle.js_parse_core.specs.declared.machine.Frame.TheVariants as frame
use Rattle.js_parse_core.specs.declared.machine.Open.{Open}
use Rattle.js_parse_core.specs.declared.machine.Outer.{Outer}
use Rattle.js_parse_core.specs.declared.machine.State.{State}
use Rattle.js_parse_core.specs.declared.machine.StepEnd.{StepEnd}
use Rattle.js_parse_core.specs.Outer.{Step, framed, with_body, complete, complete_body, complete_frame, complete_in, settle, settle_frame, settle_in}

completes_body : (o : Outer) (b : Body) (s : Stmt) (go other : Stmt → Step) → ((t : Stmt) → go t ≡ other t) → complete_body o b s go ≡ complete_body o b s other
completes_body o (body.Then test) s go other same = refl
completes_body o (body.Else test a) s go other same = same _
completes_body o (body.For begin test update) s go other same = same _
completes_body o (body.ForOf k n x) s go other same = same _
completes_body o (body.While test) s go other same = same _

completes_frame : (o : Outer) (n : ℕ) (f : Frame) (s : Stmt) (go other : Stmt → Step) → ((t : Stmt) → go t ≡ other t) → complete_frame o n f s go ≡ complete_frame o n f s other
completes_frame o n (frame.Operator x) s go other same = refl
completes_frame o n (frame.Tail x) s go other same = refl
completes_frame o n (frame.Purpose x) s go other same = refl
completes_frame o n (frame.Body b) s go other same = completes_body o b s go other same
completes_frame o n (frame.Block b ss) s go other same = refl
completes_frame o n frame.Export s go other same = refl

pub completes : (o : Outer) (gs fs : List Open) (s : Stmt) → complete_in (framed o gs) fs s ≡ complete_in o fs s
completes o gs [] s = refl
completes o gs (f ∷ fs) s = completes_frame (framed o fs) f.constructs f.frame s (λ t. complete_in (framed o gs) fs t) (λ t. complete_in o fs t) (λ t. completes o gs fs t)

ends_body : (o : Outer) (b : Body) (s : Stmt) (go : Stmt → Step) → ((x : Expr) → b ≡ body.Then x → ⊥) → complete_body o b s go ≡ go (with_body b s)
ends_body o (body.Then test) s go other = absurd (other test refl)
ends_body o (body.Else test a) s go other = refl
ends_body o (body.For begin test update) s go other = refl
ends_body o (body.ForOf k n x) s go other = refl
ends_body o (body.While test) s go other = refl

-- the statement that this one ends as its body is whole too
pub completes_outer : (o : Outer) (f : Open) (fs : List Open) (b : Body) (s whole : Stmt) (made : Result State StepEnd) → o.frames ≡ f ∷ fs → f.frame ≡ frame.Body b → ((x : Expr) → b ≡ body.Then x → ⊥) → whole ≡ with_body b s → Steps (complete (framed o fs) whole) made → Steps (complete o s) made
completes_outer o f fs b s whole made opened is other is_whole steps =
    let in_body : complete o s ≡ complete_body (framed o fs) b s (λ t. complete_in o fs t) = ap (λ (gs : List Open). complete_in o gs s) opened ∙ ap (λ (x : Frame). complete_frame (framed o fs) f.constructs x s (λ t. complete_in o fs t)) is in
    let in_outer : complete o s ≡ complete (framed o fs) whole = in_body ∙ (ends_body (framed o fs) b s (λ t. complete_in o fs t) other ∙ (sym (completes o fs fs (with_body b s)) ∙ ap (λ (t : Stmt). complete (framed o fs) t) (sym is_whole))) in
    subst (λ (step : Step). Steps step made) (sym in_outer) steps

settles_frame : (o : Outer) (n : ℕ) (f : Frame) (s : Stmt) (go other : Stmt → Step) → ((t : Stmt) → go t ≡ other t) → settle_frame o n f s go ≡ settle_frame o n f s other
settles_frame o n (frame.Operator x) s go other same = refl
settles_frame o n (frame.Tail x) s go other same = refl
settles_frame o n (frame.Purpose x) s go other same = refl
settles_frame o n (frame.Body b) s go other same = same _
settles_frame o n (frame.Block b ss) s go other same = refl
settles_frame o n frame.Export s go other same = refl

pub settles : (o : Outer) (gs fs : List Open) (s : Stmt) → settle_in (framed o gs) fs s ≡ settle_in o fs s
settles o gs [] s = refl
settles o gs (f ∷ fs) s = settles_frame (framed o fs) f.constructs f.frame s (λ t. settle_in (framed o gs) fs t) (λ t. settle_in o fs t) (λ t. settles o gs fs t)

-- the statement that this one ends as its body is settled too
pub settles_outer : (o : Outer) (f : Open) (fs : List Open) (b : Body) (s whole : Stmt) (made : Result State StepEnd) → o.frames ≡ f ∷ fs → f.frame ≡ frame.Body b → whole ≡ with_body b s → Steps (settle (framed o fs) whole) made → Steps (settle o s) made
settles_outer o f fs b s whole made opened is is_whole steps =
    let in_body : settle o s ≡ settle_in o fs (with_body b s) = ap (λ (gs : List Open). settle_in o gs s) opened ∙ ap (λ (x : Frame). settle_frame (framed o fs) f.constructs x s (λ t. settle_in o fs t)) is in
    let in_outer : settle o s ≡ settle (framed o fs) whole = in_body ∙ (sym (settles o fs fs (with_body b s)) ∙ ap (λ (t : Stmt). settle (framed o fs) t) (sym is_whole)) in
    subst (λ (step : Step). Steps step made) (sym in_outer) steps
