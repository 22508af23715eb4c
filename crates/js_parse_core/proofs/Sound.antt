-- What was read is spelled by the state. So what a run reads up to an end is in the grammar.
use Rattle.std.proofs.Common.{◌≡◌, ℕ, Bool, true, false, cond, List, [], ◌∷◌, ◌++◌, Some, None, Ok, Err, refl, sym, ◌∙◌, ap, subst, append_assoc}
use Rattle.std.proofs.lemmas.Bool.{false≢true}
use Rattle.std.proofs.lemmas.List.{append-nil}
use Rattle.js_lex.specs.declared.token.TokenKind.{TokenKind}
use Rattle.js_lex.specs.declared.token.TokenKind.TheVariants as tok
use Rattle.js_lex.specs.declared.token.Token.{Token}
use Rattle.js_tree.specs.declared.tree.Item.{Item}
use Rattle.js_tree.specs.declared.tree.Stmt.{Stmt}
use Rattle.js_tree.specs.declared.tree.Stmt.TheVariants as stmt
use Rattle.js_grammar.specs.Marks.{Piece, Read, Ended, Form}
use Rattle.js_grammar.specs.Grammar.{is_empty, of_tree}
use Rattle.js_parse_core.specs.declared.machine.At.{At}
use Rattle.js_parse_core.specs.declared.machine.At.TheVariants as at
use Rattle.js_parse_core.specs.declared.machine.Open.{Open}
use Rattle.js_parse_core.specs.declared.machine.Outer.{Outer}
use Rattle.js_parse_core.specs.declared.machine.Refusal.TheVariants as refusal
use Rattle.js_parse_core.specs.declared.machine.State.{State}
use Rattle.js_parse_core.specs.Machine.{step_in, is_shallow, if_shallow, step, start}
use Rattle.js_parse_core.specs.Outer.{Step, refuse, framed, settle}
use Rattle.js_parse_core.specs.Statements.{statement_behind, end_script}
use Rattle.js_parse_core.specs.Tokens.{is_end}
use Rattle.js_parse_core.proofs.Pieces.{Fits, no_limit, end_token, is_between, is_last, take, taken, run, finish}
use Rattle.js_parse_core.proofs.Covers.{Covers, covers_same, covers_trans, covers_none}
use Rattle.js_parse_core.proofs.Bare.{stmt_forms, bare_fits}
use Rattle.js_parse_core.proofs.BareStatements.{stmt_if, full_if, full_try}
use Rattle.js_parse_core.proofs.Spelled.{unread, waits, items_with, whole_items, ends_with_export, behind_export, spelled_at, spelled}
use Rattle.js_parse_core.proofs.SpelledLemmas.{enters_waits, tree_items}
use Rattle.js_parse_core.proofs.Grows.{piece, piece_read, Grows, grows_cond, opens_enters}
use Rattle.js_parse_core.proofs.SoundBegin.{begin_grows}
use Rattle.js_parse_core.proofs.SoundEnds.{Settles, settle_full, between_covers}
use Rattle.js_parse_core.proofs.SoundValues.{inside}
use Rattle.js_parse_core.proofs.SoundOperators.{operand_grows, after_value_grows, whole_grows}
use Rattle.js_parse_core.proofs.SoundArrows.{async_grows, cover_open_grows, cover_name_grows, covered_grows, arrow_grows, arrow_body_grows, new_grows, new_open_grows, member_grows, argument_grows, element_grows}
use Rattle.js_parse_core.proofs.SoundObjects.{key_grows, name_key_grows, other_key_grows, async_key_grows, async_method_grows, property_end_grows, function_name_grows, parameters_open_grows, parameters_grows, parameter_read_grows, body_open_grows}
use Rattle.js_parse_core.proofs.SoundStatements.{statement_grows}
use Rattle.js_parse_core.proofs.SoundHeads.{after_then_grows, opening_grows, for_head_grows, for_test_grows, for_update_grows, return_grows, throw_grows, jump_grows, declared_name_grows, name_declared_grows, try_grows, after_try_grows, catch_grows, catch_name_grows, catch_close_grows, catch_body_grows, catch_forms_end, after_catch_grows, finally_grows, export_word_grows, export_object_grows, export_items, after_export_grows}

-- ---- steps

-- between statements no end may be put in
at_grows : (most : ℕ) (o : Outer) (a : At) (t : Token) → (is_between a ≡ true → is_end t.kind ≡ false) → Grows (spelled_at o.items o.frames a) t (step_in most false o a t)
at_grows most o at.Statement t e = statement_grows _ o t (between_covers o.items o.frames) (λ h. covers_same _ _ refl) (e refl)
at_grows most o at.Begin t e = begin_grows _ o t (opens_enters _ o.items (waits o.frames) o.frames t (covers_same _ _ refl) (enters_waits o.frames))
at_grows most o (at.Operand x n) t e = operand_grows o x n t
at_grows most o (at.Updated x) t e = after_value_grows o x t
at_grows most o (at.Whole x) t e = whole_grows o x t
at_grows most o (at.Async n) t e = async_grows o n t
at_grows most o (at.CoverOpen c ns) t e = cover_open_grows o c ns t
at_grows most o (at.CoverName c ns n) t e = cover_name_grows o c ns n t
at_grows most o (at.Covered c ns b) t e = covered_grows o c ns b t
at_grows most o (at.Arrow a ns) t e = arrow_grows o a ns t
at_grows most o (at.ArrowBody a ns) t e = arrow_body_grows most o a ns t
at_grows most o at.NewName t e = new_grows o t t.kind refl
at_grows most o (at.NewOpen n) t e = new_open_grows o n t
at_grows most o (at.MemberName x n) t e = member_grows o x n t
at_grows most o (at.NextArgument c xs) t e = argument_grows o c xs t
at_grows most o (at.NextElement xs) t e = element_grows o xs t
at_grows most o (at.Key xs) t e = key_grows o xs t
at_grows most o (at.NameKey xs n) t e = name_key_grows o xs n t
at_grows most o (at.OtherKey xs k) t e = other_key_grows o xs k t t.kind refl
at_grows most o (at.AsyncKey xs n) t e = async_key_grows o xs n t
at_grows most o (at.AsyncMethod xs k) t e = async_method_grows o xs k t
at_grows most o (at.PropertyEnd xs) t e = property_end_grows o xs t
at_grows most o (at.FunctionName d a) t e = function_name_grows o d a t t.kind refl
at_grows most o (at.ParametersOpen h) t e = parameters_open_grows o h t
at_grows most o (at.Parameters h ns) t e = parameters_grows o h ns t t.kind refl
at_grows most o (at.ParameterRead h ns n) t e = parameter_read_grows o h ns n t t.kind refl
at_grows most o (at.BodyOpen h ns) t e = body_open_grows o h ns t
at_grows most o (at.DeclaredName d) t e = declared_name_grows o d t t.kind refl
at_grows most o (at.NameDeclared d n) t e = name_declared_grows o d n t
at_grows most o (at.Opening x) t e = opening_grows o x t
at_grows most o at.ForHead t e = for_head_grows o t
at_grows most o (at.ForTest b) t e = for_test_grows o b t
at_grows most o (at.ForUpdate b test) t e = for_update_grows o b test t
at_grows most o (at.AfterThen test s) t e = after_then_grows o test s t (e refl)
at_grows most o (at.Jump s) t e = jump_grows o s t
at_grows most o (at.Return q) t e = return_grows o q t
at_grows most o at.Throw t e = throw_grows o t
at_grows most o at.TryOpen t e = try_grows o t
at_grows most o (at.AfterTry ss) t e = after_try_grows o ss t t.kind refl
at_grows most o (at.CatchOpen ss) t e = catch_grows o ss t t.kind refl
at_grows most o (at.CatchName ss) t e = catch_name_grows o ss t t.kind refl
at_grows most o (at.CatchClose ss n) t e = catch_close_grows o ss n t
at_grows most o (at.CatchBody ss n) t e = catch_body_grows o ss n t
at_grows most o (at.AfterCatch ss c) t e = after_catch_grows o ss c t (e refl)
at_grows most o (at.FinallyOpen ss c) t e = finally_grows o ss c t
at_grows most o at.ExportDefault t e = export_word_grows o t
at_grows most o at.ExportObject t e = export_object_grows o t
at_grows most o at.AfterExport t e = after_export_grows o t (e refl)

shallow_grows : (a : List Form) (t : Token) (most : ℕ) (x : Step) → Grows a t x → Grows a t (if_shallow most x)
shallow_grows a t most (Ok n) h = grows_cond a t (is_shallow most n) (Ok n) (Err refusal.Nesting) (λ e. h) (λ e. tt)
shallow_grows a t most (Err k) h = tt

step_grows : (most : ℕ) (s : State) (t : Token) → (is_between s.at ≡ true → is_end t.kind ≡ false) → Grows (spelled s) t (step most false s t)
step_grows most s t e = shallow_grows (spelled s) t most (step_in most false s.outer s.at t) (at_grows most s.outer s.at t e)

-- ---- pieces

-- the piece comes, and the state that it leads to has read it too
abbrev pub Takes : List Form → Piece → Step → Type 0
Takes a q (Ok n) = (ps : List Piece) → Fits a ps → Fits (spelled n) (ps ++ q ∷ [])
Takes a q (Err k) = Unit {0}

takes_grows : (a : List Form) (t : Token) (x : Step) → Grows a t x → Takes a (piece t) x
takes_grows a t (Ok n) h = h.adds
takes_grows a t (Err k) h = tt

takes_cond : (a : List Form) (q : Piece) (b : Bool) (x y : Step) → (b ≡ true → Takes a q x) → (b ≡ false → Takes a q y) → Takes a q (cond b x y)
takes_cond a q true x y h k = h refl
takes_cond a q false x y h k = k refl

pub not_last : (k : TokenKind) → is_last k ≡ false → is_end k ≡ false
not_last tok.End h = h
not_last _ h = refl

piece_takes : (s : State) (q : Piece) → Takes (spelled s) q (take s q)
piece_takes s (Read t) =
    takes_cond (spelled s) (Read t) (is_last t.kind) refuse (step no_limit false s t) (λ h. tt)
    (λ h. subst (λ (q : Piece). Takes (spelled s) q (step no_limit false s t)) (piece_read t t.kind (not_last t.kind h)) (takes_grows (spelled s) t (step no_limit false s t) (step_grows no_limit s t (λ e. not_last t.kind h))))
piece_takes s Ended =
    takes_cond (spelled s) Ended (is_between s.at) refuse (step no_limit false s end_token) (λ h. tt)
    (λ h. takes_grows (spelled s) end_token (step no_limit false s end_token) (step_grows no_limit s end_token (λ e. absurd (false≢true (sym h ∙ e)))))

pub take_sound : (s : State) (q : Piece) (n : State) (ps : List Piece) → Fits (spelled s) ps → take s q ≡ Ok n → Fits (spelled n) (ps ++ q ∷ [])
take_sound s q n ps h e = let takes : Takes (spelled s) q (Ok n) = subst (Takes (spelled s) q) e (piece_takes s q) in takes ps h

-- ---- runs

abbrev pub Whole : List Piece → Step → Type 0
Whole ps (Ok n) = Fits (spelled n) ps
Whole ps (Err k) = Unit {0}

whole_taken : (a : List Form) (ps qs : List Piece) (q : Piece) (x : Step) → Takes a q x → Fits a ps
    → ((n : State) → Fits (spelled n) (ps ++ q ∷ []) → Whole ((ps ++ q ∷ []) ++ qs) (run n qs)) → Whole (ps ++ q ∷ qs) (taken x (λ n. run n qs))
whole_taken a ps qs q (Err k) g h i = tt
whole_taken a ps qs q (Ok n) g h i = subst (λ (z : List Piece). Whole z (run n qs)) (append_assoc ps (q ∷ []) qs) (i n (g ps h))

whole_run : (qs : List Piece) (s : State) (ps : List Piece) → Fits (spelled s) ps → Whole (ps ++ qs) (run s qs)
whole_run [] s ps h = subst (Fits (spelled s)) (sym (append-nil ps)) h
whole_run (q ∷ qs) s ps h = whole_taken (spelled s) ps qs q (take s q) (piece_takes s q) h (λ n k. whole_run qs n (ps ++ q ∷ []) k)

-- The state that a run reaches spells what was read.
pub run_sound : (s n : State) (ps qs : List Piece) → Fits (spelled s) ps → run s qs ≡ Ok n → Fits (spelled n) (ps ++ qs)
run_sound s n ps qs h e = let whole : Whole (ps ++ qs) (Ok n) = subst (Whole (ps ++ qs)) e (whole_run qs s ps h) in whole

-- ---- the end

abbrev Finishes : List Form → Step → Type 0
Finishes a (Ok n) = Covers a (whole_items n.outer.items)
Finishes a (Err k) = Unit {0}

shallow_finishes : (a : List Form) (most : ℕ) (x : Step) → Finishes a x → Finishes a (if_shallow most x)
shallow_finishes a most (Ok n) h = either (is_shallow most n)
  where
    either : (b : Bool) → Finishes a (cond b (Ok n) (Err refusal.Nesting))
    either true = h
    either false = tt
shallow_finishes a most (Err k) h = tt

end_finishes : (a : List Form) (o : Outer) (fs : List Open) → Covers a (whole_items o.items ++ waits fs) → Finishes a (end_script (framed o fs))
end_finishes a o [] c = covers_trans a _ _ c (covers_same _ _ (append-nil (whole_items o.items)))
end_finishes a o (f ∷ fs) c = tt

behind_finishes : (a : List Form) (x : Step) → Settles a x → Finishes a (statement_behind x end_token)
behind_finishes a (Ok n) c = end_finishes a n.outer n.outer.frames (covers_trans a _ _ c (between_covers n.outer.items n.outer.frames))
behind_finishes a (Err k) c = tt

resumed_finishes : (a : List Form) (o : Outer) (s : Stmt) → is_empty s ≡ false → a ≡ inside o (stmt_forms s) → Finishes a (statement_behind (settle o s) end_token)
resumed_finishes a o s e h = subst (λ (z : List Form). Finishes z (statement_behind (settle o s) end_token)) (sym h) (behind_finishes _ (settle o s) (settle_full o s e))

export_covers : (is : List Item) (fs : List Open) → Covers (behind_export is fs) (whole_items is ++ waits fs)
export_covers is [] = either (ends_with_export is)
  where
    either : (b : Bool) → Covers (cond b (items_with [] is) unread) (whole_items is ++ [])
    either true = export_items is
    either false = covers_none [] _
export_covers is (f ∷ fs) = covers_none [] _

at_finishes : (o : Outer) (a : At) → Finishes (spelled_at o.items o.frames a) (cond (is_between a) (step no_limit false (record { outer = o; at = a }) end_token) refuse)
at_finishes o at.Statement = shallow_finishes _ no_limit (end_script o) (end_finishes _ o o.frames (between_covers o.items o.frames))
at_finishes o at.AfterExport = shallow_finishes _ no_limit (end_script o) (end_finishes _ o o.frames (export_covers o.items o.frames))
at_finishes o (at.AfterThen test s) = shallow_finishes _ no_limit (statement_behind (settle o (stmt.If test s None)) end_token) (resumed_finishes _ o (stmt.If test s None) (full_if test s None) (ap (inside o) (sym (stmt_if test s))))
at_finishes o (at.AfterCatch ss c) = shallow_finishes _ no_limit (statement_behind (settle o (stmt.Try ss (Some c) None)) end_token) (resumed_finishes _ o (stmt.Try ss (Some c) None) (full_try ss (Some c) None) (ap (inside o) (catch_forms_end ss c)))
at_finishes o _ = tt

tree_covers : (is : List Item) → Covers (whole_items is) (of_tree is)
tree_covers is = record { covers = λ ps h. bare_fits (of_tree is) ps (subst (λ (z : List Form). Fits z ps) (sym (tree_items is)) h) }

pub finish_sound : (s n : State) (ps : List Piece) → Fits (spelled s) ps → finish s ≡ Ok n → Fits (of_tree n.outer.items) ps
finish_sound s n ps h e =
    let finishes : Finishes (spelled s) (Ok n) = subst (Finishes (spelled s)) e (at_finishes s.outer s.at) in
    (tree_covers n.outer.items).covers ps (finishes.covers ps h)

-- What a run reads up to an end is written as the tree that it gives.
pub script_sound : (ps : List Piece) (m n : State) → run start ps ≡ Ok m → finish m ≡ Ok n → Fits (of_tree n.outer.items) ps
script_sound ps m n e f = finish_sound m n ps (run_sound start m [] ps refl e) f
