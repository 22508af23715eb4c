-- No step of those that end a statement is refused for what is open.

use Rattle.std.specs.Prelude.{ℕ, List, [], ◌∷◌}
use Rattle.js_tree.specs.declared.tree.Stmt.{Stmt}
use Rattle.js_parse_core.specs.declared.machine.Body.{Body}
use Rattle.js_parse_core.specs.declared.machine.Body.TheVariants as body
use Rattle.js_parse_core.specs.declared.machine.Frame.{Frame}
use Rattle.js_parse_core.specs.declared.machine.Frame.TheVariants as frame
use Rattle.js_parse_core.specs.declared.machine.Open.{Open}
use Rattle.js_parse_core.specs.declared.machine.Outer.{Outer}
use Rattle.js_parse_core.specs.Outer.{Step, complete, complete_body, complete_frame, complete_in, framed, settle, settle_frame, settle_in, with_body}
use Rattle.js_parse_core.proofs.Told.{Told}

pub told_complete_body : (o : Outer) (b : Body) (s : Stmt) (go : Stmt → Step) → ((z : Stmt) → Told (go z)) → Told (complete_body o b s go)
told_complete_body o (body.Then test) s go told = tt
told_complete_body o b s go told = told (with_body b s)

pub told_complete_frame : (o : Outer) (n : ℕ) (held : Frame) (s : Stmt) (go : Stmt → Step) → ((z : Stmt) → Told (go z)) → Told (complete_frame o n held s go)
told_complete_frame o n (frame.Block b ss) s go told = tt
told_complete_frame o n (frame.Body b) s go told = told_complete_body o b s go told
told_complete_frame o n _ s go told = tt

pub told_complete_in : (o : Outer) (fs : List Open) (s : Stmt) → Told (complete_in o fs s)
told_complete_in o [] s = tt
told_complete_in o (f ∷ fs) s = told_complete_frame (framed o fs) f.constructs f.frame s (λ t. complete_in o fs t) (λ t. (told_complete_in o fs t))

pub told_complete : (o : Outer) (s : Stmt) → Told (complete o s)
told_complete o s = told_complete_in o o.frames s

pub told_settle_frame : (o : Outer) (n : ℕ) (held : Frame) (s : Stmt) (go : Stmt → Step) → ((z : Stmt) → Told (go z)) → Told (settle_frame o n held s go)
told_settle_frame o n (frame.Block b ss) s go told = tt
told_settle_frame o n (frame.Body b) s go told = told (with_body b s)
told_settle_frame o n _ s go told = tt

pub told_settle_in : (o : Outer) (fs : List Open) (s : Stmt) → Told (settle_in o fs s)
told_settle_in o [] s = tt
told_settle_in o (f ∷ fs) s = told_settle_frame (framed o fs) f.constructs f.frame s (λ t. settle_in o fs t) (λ t. (told_settle_in o fs t))

pub told_settle : (o : Outer) (s : Stmt) → Told (settle o s)
told_settle o s = told_settle_in o o.frames s
