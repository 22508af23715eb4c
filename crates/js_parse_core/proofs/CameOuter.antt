-- Where a token leads behind a statement that is whole.
use Rattle.std.specs.Prelude.{ℕ, Bool, List, [], ◌∷◌}
use Rattle.js_tree.specs.declared.tree.Stmt.{Stmt}
use Rattle.js_parse_core.specs.declared.machine.Body.{Body}
use Rattle.js_parse_core.specs.declared.machine.Frame.{Frame}
use Rattle.js_parse_core.specs.declared.machine.Open.{Open}
use Rattle.js_parse_core.specs.declared.machine.Outer.{Outer}
use Rattle.js_lex.specs.declared.token.TokenKind.{TokenKind}
use Rattle.js_parse_core.specs.Outer.{Step, complete, settle, framed, with_body, complete_body, complete_frame, complete_in, settle_frame, settle_in}
use Rattle.js_parse_core.specs.declared.machine.Body.TheVariants as body
use Rattle.js_parse_core.specs.declared.machine.Frame.TheVariants as frame
use Rattle.js_parse_core.proofs.Came.{Loud, Lands}

pub came_complete_body : (keyed : Bool) (loud : Loud) (kind : TokenKind) (o : Outer) (b : Body) (s : Stmt) (go : Stmt → Step) → ((z : Stmt) → Lands keyed loud kind (go z)) → Lands keyed loud kind (complete_body o b s go)
came_complete_body keyed loud kind o (body.Then test) s go told = tt
came_complete_body keyed loud kind o b s go told = told (with_body b s)

pub came_complete_frame : (keyed : Bool) (loud : Loud) (kind : TokenKind) (o : Outer) (n : ℕ) (held : Frame) (s : Stmt) (go : Stmt → Step) → ((z : Stmt) → Lands keyed loud kind (go z)) → Lands keyed loud kind (complete_frame o n held s go)
came_complete_frame keyed loud kind o n (frame.Block b ss) s go told = tt
came_complete_frame keyed loud kind o n (frame.Body b) s go told = came_complete_body keyed loud kind o b s go told
came_complete_frame keyed loud kind o n _ s go told = (tt, tt)

pub came_complete_in : (keyed : Bool) (loud : Loud) (kind : TokenKind) (o : Outer) (fs : List Open) (s : Stmt) → Lands keyed loud kind (complete_in o fs s)
came_complete_in keyed loud kind o [] s = tt
came_complete_in keyed loud kind o (f ∷ fs) s = came_complete_frame keyed loud kind (framed o fs) f.constructs f.frame s (λ t. complete_in o fs t) (λ t. (came_complete_in keyed loud kind o fs t))

pub came_complete : (keyed : Bool) (loud : Loud) (kind : TokenKind) (o : Outer) (s : Stmt) → Lands keyed loud kind (complete o s)
came_complete keyed loud kind o s = came_complete_in keyed loud kind o o.frames s

pub came_settle_frame : (keyed : Bool) (loud : Loud) (kind : TokenKind) (o : Outer) (n : ℕ) (held : Frame) (s : Stmt) (go : Stmt → Step) → ((z : Stmt) → Lands keyed loud kind (go z)) → Lands keyed loud kind (settle_frame o n held s go)
came_settle_frame keyed loud kind o n (frame.Block b ss) s go told = tt
came_settle_frame keyed loud kind o n (frame.Body b) s go told = told (with_body b s)
came_settle_frame keyed loud kind o n _ s go told = (tt, tt)

pub came_settle_in : (keyed : Bool) (loud : Loud) (kind : TokenKind) (o : Outer) (fs : List Open) (s : Stmt) → Lands keyed loud kind (settle_in o fs s)
came_settle_in keyed loud kind o [] s = tt
came_settle_in keyed loud kind o (f ∷ fs) s = came_settle_frame keyed loud kind (framed o fs) f.constructs f.frame s (λ t. settle_in o fs t) (λ t. (came_settle_in keyed loud kind o fs t))

pub came_settle : (keyed : Bool) (loud : Loud) (kind : TokenKind) (o : Outer) (s : Stmt) → Lands keyed loud kind (settle o s)
came_settle keyed loud kind o s = came_settle_in keyed loud kind o o.frames s
