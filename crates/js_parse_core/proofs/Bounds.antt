-- All that the strict machine reads, without limit, fits its place; and the tree of a script that may end fits.
use Rattle.std.proofs.Common.{◌≡◌, ℕ, Bool, true, false, List, [], ◌∷◌, map, Some, None, Ok, Err, IsTrue, refl, sym, ◌∙◌, ap, subst, arith, nat_le, true≢false}
use Rattle.std.proofs.lemmas.Bool.{and_from, cond_both}
use Rattle.js_lex.specs.declared.token.Token.{Token}
use Rattle.js_tree.specs.declared.tree.Item.{Item}
use Rattle.js_tree.specs.declared.tree.Stmt.TheVariants as stmt
use Rattle.js_grammar.specs.Marks.{Piece, Read, Ended}
use Rattle.js_grammar.specs.Shapes.{postfix_level, all_true, item_fits, tree_fits}
use Rattle.js_parse_core.specs.declared.machine.At.{At}
use Rattle.js_parse_core.specs.declared.machine.At.TheVariants as at
use Rattle.js_parse_core.specs.declared.machine.Outer.{Outer}
use Rattle.js_parse_core.specs.declared.machine.State.{State}
use Rattle.js_parse_core.specs.Outer.{Step, settle}
use Rattle.js_parse_core.specs.Statements.{is_top, end_script, statement_behind}
use Rattle.js_parse_core.specs.Machine.{step_in, is_shallow, if_shallow, step, start}
use Rattle.js_parse_core.proofs.Pieces.{no_limit, end_token, is_between, is_last, take, taken, run, finish}
use Rattle.js_parse_core.proofs.Fine.{count, FineAt, FineItems, FineOuter, Fine, FineStep}
use Rattle.js_parse_core.proofs.FineLemmas.{either}
use Rattle.js_parse_core.proofs.BoundsBegin.{first_of, fine_begin}
use Rattle.js_parse_core.proofs.BoundsValues.{fine_after_whole, fine_after_value}
use Rattle.js_parse_core.proofs.BoundsOperands.{fine_after_operand, fine_after_async, fine_cover_open, fine_cover_name, fine_covered, fine_arrow, fine_arrow_body, fine_new, fine_new_open, fine_member, fine_argument, fine_element}
use Rattle.js_parse_core.proofs.BoundsObjects.{fine_key, fine_name_key, fine_other_key, fine_async_key, fine_async_method, fine_property_end, fine_function_name, fine_parameters_open, fine_parameters, fine_parameter_read, fine_body_open}
use Rattle.js_parse_core.proofs.BoundsStatements.{top_empty, fine_statement, fine_after_then, fine_opening, fine_for_head, fine_for_test, fine_for_update, fine_return, fine_throw, fine_jump, fine_declared_name, fine_name_declared, fine_try, fine_after_try, fine_catch, fine_catch_name, fine_catch_close, fine_catch_body, fine_after_catch, fine_finally, fine_export_word, fine_export_object, fine_after_export}

-- ---- a token

fine_step_in : (most : ℕ) (o : Outer) (a : At) (t : Token) → FineOuter o → FineAt o.exported o.frames a → FineStep (step_in most false o a t)
fine_step_in most o at.Statement t f h = fine_statement o t f
fine_step_in most o at.Begin t f h = fine_begin o t f (h (first_of t.kind))
fine_step_in most o (at.Operand x n) t f h = fine_after_operand o x n t f h
fine_step_in most o (at.Updated x) t f h = fine_after_value o postfix_level x t (omega arith) f h
fine_step_in most o (at.Whole x) t f h = fine_after_whole o x t f h
fine_step_in most o (at.Async n) t f h = fine_after_async o n t f
fine_step_in most o (at.CoverOpen c ns) t f h = fine_cover_open o c ns t f h
fine_step_in most o (at.CoverName c ns n) t f h = fine_cover_name o c ns n t f h
fine_step_in most o (at.Covered c ns b) t f h = fine_covered o c ns b t f h
fine_step_in most o (at.Arrow a ns) t f h = fine_arrow o a ns t f h
fine_step_in most o (at.ArrowBody a ns) t f h = fine_arrow_body most o a ns t f h
fine_step_in most o at.NewName t f h = fine_new o t.place t.kind f
fine_step_in most o (at.NewOpen n) t f h = fine_new_open o n t.kind f
fine_step_in most o (at.MemberName x n) t f h = fine_member o x n t f h
fine_step_in most o (at.NextArgument c xs) t f h = fine_argument o c xs t f h.0 h.1
fine_step_in most o (at.NextElement xs) t f h = fine_element o xs t f h
fine_step_in most o (at.Key xs) t f h = fine_key o xs t.place t.kind f h
fine_step_in most o (at.NameKey xs n) t f h = fine_name_key o xs n t.kind f h
fine_step_in most o (at.OtherKey xs k) t f h = fine_other_key o xs k t.kind f h
fine_step_in most o (at.AsyncKey xs n) t f h = fine_async_key o xs n t f h
fine_step_in most o (at.AsyncMethod xs k) t f h = fine_async_method o xs k t.kind f h
fine_step_in most o (at.PropertyEnd xs) t f h = fine_property_end o xs t.kind f h
fine_step_in most o (at.FunctionName d a) t f h = fine_function_name o d a t.place t.kind f h
fine_step_in most o (at.ParametersOpen x) t f h = fine_parameters_open o x t.kind f h
fine_step_in most o (at.Parameters x ns) t f h = fine_parameters o x ns t.place t.kind f h
fine_step_in most o (at.ParameterRead x ns n) t f h = fine_parameter_read o x ns n t.kind f h
fine_step_in most o (at.BodyOpen x ns) t f h = fine_body_open o x ns t.kind f h
fine_step_in most o (at.DeclaredName d) t f h = fine_declared_name o d t.place t.kind f h
fine_step_in most o (at.NameDeclared d n) t f h = fine_name_declared o d n t f h
fine_step_in most o (at.Opening x) t f h = fine_opening o x t.kind f
fine_step_in most o at.ForHead t f h = fine_for_head o t f
fine_step_in most o (at.ForTest b) t f h = fine_for_test o b t f h
fine_step_in most o (at.ForUpdate b test) t f h = fine_for_update o b test t f h.0 h.1
fine_step_in most o (at.AfterThen test s) t f h = fine_after_then o test s t f h.0 h.1
fine_step_in most o (at.Jump s) t f h = fine_jump o s t f h
fine_step_in most o (at.Return q) t f h = fine_return o q t f
fine_step_in most o at.Throw t f h = fine_throw o t f
fine_step_in most o at.TryOpen t f h = fine_try o t.kind f
fine_step_in most o (at.AfterTry ss) t f h = fine_after_try o ss t.kind f h
fine_step_in most o (at.CatchOpen ss) t f h = fine_catch o ss t.kind f h
fine_step_in most o (at.CatchName ss) t f h = fine_catch_name o ss t.place t.kind f h
fine_step_in most o (at.CatchClose ss n) t f h = fine_catch_close o ss n t.kind f h
fine_step_in most o (at.CatchBody ss n) t f h = fine_catch_body o ss n t.kind f h
fine_step_in most o (at.AfterCatch ss c) t f h = fine_after_catch o ss c t f h.0 h.1
fine_step_in most o (at.FinallyOpen ss c) t f h = fine_finally o ss c t.kind f h.0 h.1
fine_step_in most o at.ExportDefault t f h = fine_export_word o t.kind f h
fine_step_in most o at.ExportObject t f h = fine_export_object o t.kind f h
fine_step_in most o at.AfterExport t f h = fine_after_export o t f

fine_shallow : (most : ℕ) (a : Step) → FineStep a → FineStep (if_shallow most a)
fine_shallow most (Ok n) h = either (is_shallow most n) _ _ (λ _. h) (λ _. tt)
fine_shallow most (Err k) h = tt

-- however many constructs may be open
pub fine_step : (most : ℕ) (s : State) (t : Token) → Fine s → FineStep (step most false s t)
fine_step most s t f = fine_shallow most (step_in most false s.outer s.at t) (fine_step_in most s.outer s.at t f.outer f.here)

-- ---- pieces

pub fine_take : (s : State) (q : Piece) → Fine s → FineStep (take s q)
fine_take s (Read t) f = either (is_last t.kind) _ _ (λ _. tt) (λ _. fine_step no_limit s t f)
fine_take s Ended f = either (is_between s.at) _ _ (λ _. tt) (λ _. fine_step no_limit s end_token f)

fine_taken : (a : Step) (go : State → Step) → FineStep a → ((n : State) → Fine n → FineStep (go n)) → FineStep (taken a go)
fine_taken (Ok n) go f g = g n f
fine_taken (Err k) go f g = tt

pub fine_run : (ps : List Piece) (s : State) → Fine s → FineStep (run s ps)
fine_run [] s f = f
fine_run (q ∷ ps) s f = fine_taken (take s q) (λ n. run n ps) (fine_take s q f) (λ n g. fine_run ps n g)

pub fine_finish : (s : State) → Fine s → FineStep (finish s)
fine_finish s f = either (is_between s.at) _ _ (λ _. fine_step no_limit s end_token f) (λ _. tt)

-- ---- the laws

pub start_fine : Fine start
start_fine = record { outer = record { items = record { fit = refl; exported_once = refl }; frames = tt }; here = tt }

pub take_fine : (s : State) (q : Piece) (n : State) → Fine s → take s q ≡ Ok n → Fine n
take_fine s q n f is = subst FineStep is (fine_take s q f)

pub run_fine : (s : State) (ps : List Piece) (n : State) → Fine s → run s ps ≡ Ok n → Fine n
run_fine s ps n f is = subst FineStep is (fine_run ps s f)

once : (e : Bool) → nat_le (count e) 1 ≡ true
once true = refl
once false = refl

pub items_fit : (e : Bool) (is : List Item) → FineItems e is → IsTrue (tree_fits is)
items_fit e is f = and_from (all_true (map item_fits is)) _ f.fit (ap (λ n. nat_le n 1) f.exported_once ∙ once e)

pub finish_fits : (s n : State) → Fine s → finish s ≡ Ok n → IsTrue (tree_fits n.outer.items)
finish_fits s n f is = let g : Fine n = subst FineStep is (fine_finish s f) in items_fit n.outer.exported n.outer.items g.outer.items

-- ---- a script that may end leaves nothing open

pub record IsDone (n : State) : Type 0 where
  pub frames : n.outer.frames ≡ []
  pub at_statement : n.at ≡ at.Statement

abbrev pub DoneStep : Step → Type 0
DoneStep (Ok n) = IsDone n
DoneStep (Err k) = Unit {0}

done_script : (o : Outer) → DoneStep (end_script o)
done_script o = cond_both (is_top o.frames) _ _ DoneStep (λ b. record { frames = top_empty o.frames b; at_statement = refl }) (λ _. tt)

done_behind : (a : Step) → DoneStep (statement_behind a end_token)
done_behind (Ok n) = done_script n.outer
done_behind (Err k) = tt

done_in : (most : ℕ) (o : Outer) (a : At) → is_between a ≡ true → DoneStep (step_in most false o a end_token)
done_in most o at.Statement h = done_script o
done_in most o at.AfterExport h = done_script o
done_in most o (at.AfterThen test s) h = done_behind (settle o (stmt.If test s None))
done_in most o (at.AfterCatch ss c) h = done_behind (settle o (stmt.Try ss (Some c) None))
done_in most o _ h = absurd (true≢false (sym h))

done_shallow : (most : ℕ) (a : Step) → DoneStep a → DoneStep (if_shallow most a)
done_shallow most (Ok n) h = cond_both (is_shallow most n) _ _ DoneStep (λ _. h) (λ _. tt)
done_shallow most (Err k) h = tt

done_finish : (s : State) → DoneStep (finish s)
done_finish s = cond_both (is_between s.at) _ _ DoneStep (λ b. done_shallow no_limit (step_in no_limit false s.outer s.at end_token) (done_in no_limit s.outer s.at b)) (λ _. tt)

pub finish_done : (s n : State) → finish s ≡ Ok n → IsDone n
finish_done s n is = subst DoneStep is (done_finish s)

-- .. so a script that was read whole fits, and nothing of it is open
pub script_fits : (ps : List Piece) (s n : State) → run start ps ≡ Ok s → finish s ≡ Ok n → IsTrue (tree_fits n.outer.items) × IsDone n
script_fits ps s n a b = (finish_fits s n (run_fine start ps s start_fine a) b, finish_done s n b)
