-- An automatic end opens nothing.
use Rattle.std.proofs.Common.{◌≡◌, ℕ, ◌+◌, ◌≤◌, Bool, true, false, cond, List, [], ◌∷◌, Option, Some, None, Ok, Err, refl, sym, ◌∙◌, subst, le_refl, le_trans, arith}
use Rattle.std.proofs.lemmas.Bool.{true≢false}
use Rattle.std.specs.Prelude.{◌&&◌, nat_le}
use Rattle.js_tree.specs.declared.tree.DeclareKind.{DeclareKind}
use Rattle.js_tree.specs.declared.tree.DeclareKind.TheVariants as declare
use Rattle.js_tree.specs.declared.tree.Expr.{Expr}
use Rattle.js_tree.specs.declared.tree.Name.{Name}
use Rattle.js_tree.specs.declared.tree.Stmt.{Stmt}
use Rattle.js_words.specs.declared.word.Spot.TheVariants as spot
use Rattle.js_grammar.specs.Marks.{Form, Ended}
use Rattle.js_parse_core.specs.declared.machine.At.{At}
use Rattle.js_parse_core.specs.declared.machine.At.TheVariants as at
use Rattle.js_parse_core.specs.declared.machine.Body.{Body}
use Rattle.js_parse_core.specs.declared.machine.Body.TheVariants as body
use Rattle.js_parse_core.specs.declared.machine.Cover.{Cover}
use Rattle.js_parse_core.specs.declared.machine.Cover.TheVariants as covers
use Rattle.js_parse_core.specs.declared.machine.Declared.{Declared}
use Rattle.js_parse_core.specs.declared.machine.Frame.{Frame}
use Rattle.js_parse_core.specs.declared.machine.Frame.TheVariants as frame
use Rattle.js_parse_core.specs.declared.machine.Open.{Open}
use Rattle.js_parse_core.specs.declared.machine.Outer.{Outer}
use Rattle.js_parse_core.specs.declared.machine.Purpose.{Purpose}
use Rattle.js_parse_core.specs.declared.machine.Purpose.TheVariants as purpose
use Rattle.js_parse_core.specs.declared.machine.State.{State}
use Rattle.js_parse_core.specs.Expressions.{uncover, may_be_values, only_name, group_of, covered_value, arrow_value}
use Rattle.js_parse_core.specs.Machine.{step_in}
use Rattle.js_parse_core.specs.Outer.{Step, refuse, refuse_at, framed, opened, complete_body, complete_frame, complete_in, constructs, wait, is_body, first_frame}
use Rattle.js_parse_core.specs.Statements as st
use Rattle.js_parse_core.specs.Tokens.{is_async}
use Rattle.js_parse_core.specs.Values.{Over, Folded, fold, fold_tails, on_initial_done, on_value, on_over, on_folded, after_whole}
use Rattle.js_parse_core.proofs.CountedArrows.{uncovered_level}
use Rattle.js_parse_core.proofs.CountedFolds.{levels_rise, FoldSame, fold_same, fold_tails_same}
use Rattle.js_parse_core.proofs.CountedSpelled.{frame_level, levels, at_level, level}
use Rattle.js_parse_core.proofs.Counts.{at_rises}
use Rattle.js_parse_core.proofs.EndSteps.{ends_between, ended_is, ended_refused}
use Rattle.js_parse_core.proofs.Pieces.{no_limit, end_token, is_between, take}

-- no more than k constructs are open behind
abbrev EndLow : ℕ → Step → Type 0
EndLow k (Ok m) = levels m.outer.frames ≤ k
EndLow k (Err e) = Unit {0}

lower : (k l : ℕ) (x : Step) → k ≤ l → EndLow k x → EndLow l x
lower k l (Ok m) w h = le_trans h w
lower k l (Err e) w h = tt

one_more : (k : ℕ) → k ≤ k + 1
one_more k = omega arith

complete_low : (o : Outer) (fs : List Open) (s : Stmt) → EndLow (levels fs) (complete_in o fs s)
complete_low o [] s = le_refl 0
complete_low o (f ∷ fs) s = go f.frame (λ t. complete_low o fs t)
  where
    in_body : (b : Body) → ((t : Stmt) → EndLow (levels fs) (complete_in o fs t)) → EndLow (levels fs + 1) (complete_body (framed o fs) b s (λ t. complete_in o fs t))
    in_body (body.Then test) c = one_more (levels fs)
    in_body (body.Else test a) c = lower _ _ (complete_in o fs _) (one_more (levels fs)) (c _)
    in_body (body.For b test u) c = lower _ _ (complete_in o fs _) (one_more (levels fs)) (c _)
    in_body (body.ForOf m n x) c = lower _ _ (complete_in o fs _) (one_more (levels fs)) (c _)
    in_body (body.While test) c = lower _ _ (complete_in o fs _) (one_more (levels fs)) (c _)

    go : (k : Frame) → ((t : Stmt) → EndLow (levels fs) (complete_in o fs t)) → EndLow (frame_level (levels fs) (is_body (first_frame fs)) k) (complete_frame (framed o fs) f.constructs k s (λ t. complete_in o fs t))
    go (frame.Block b ss) c = le_refl _
    go (frame.Body b) c = in_body b c
    go _ c = tt

initial_low : (o : Outer) (d : Declared) (b : Bool) → EndLow (levels o.frames) (on_initial_done false o d end_token b)
initial_low o d true = tt
initial_low o d false = complete_low o o.frames _

value_low : (o : Outer) (w : Purpose) (x : Expr) → EndLow (levels o.frames) (on_value false o w x end_token)
value_low o purpose.Statement x = complete_low o o.frames _
value_low o (purpose.Initial d n) x = initial_low o (st.with_declaration d n (Some x)) d.in_for
value_low o (purpose.Return q) x = complete_low o o.frames _
value_low o purpose.Throw x = complete_low o o.frames _
value_low o _ x = tt

over_low : (o : Outer) (v : Over) → EndLow (levels v.frames) (on_over false o end_token v)
over_low o v = go v.frames
  where
    by_frame : (f : Open) (m : Frame) (fs : List Open) → f.frame ≡ m → EndLow (levels (opened f.constructs m ∷ fs)) (on_over false o end_token (record { frames = opened f.constructs m ∷ fs; value = v.value }))
    by_frame f (frame.Purpose w) fs e = lower _ _ (on_value false (framed o fs) w v.value end_token) (levels_rise (opened f.constructs (frame.Purpose w)) fs) (value_low (framed o fs) w v.value)
    by_frame f _ fs e = tt

    go : (fs : List Open) → EndLow (levels fs) (on_over false o end_token (record { frames = fs; value = v.value }))
    go [] = tt
    go (f ∷ fs) = by_frame f f.frame fs refl

whole_low : (o : Outer) (x : Expr) → EndLow (levels o.frames) (after_whole false o x end_token)
whole_low o x = go _ (fold 0 o.frames x) (fold_same 0 o.frames x)
  where
    go : (z : List Form) (v : Folded) → FoldSame (levels o.frames) z v → EndLow (levels o.frames) (on_folded false o end_token v)
    go z (Ok v) h = lower _ _ (on_over false o end_token (fold_tails v.frames v.value)) (le_trans (fold_tails_same v.frames v.value).less h.1) (over_low o (fold_tails v.frames v.value))
    go z (Err k) h = tt

cond_low : (k : ℕ) (b : Bool) (x y : Step) → EndLow k x → EndLow k y → EndLow k (cond b x y)
cond_low k true x y h i = h
cond_low k false x y h i = i

covered_low : (o : Outer) (c : Cover) (ns : List Name) (b : Bool) → EndLow (levels o.frames) (covered_value false o c ns b end_token)
covered_low o (covers.Async n) ns b = whole_low o _
covered_low o covers.Plain ns false = tt
covered_low o covers.Plain ns true = go (only_name ns)
  where
    go : (n : Option Name) → EndLow (levels o.frames) (group_of false o end_token n)
    go (Some n) = whole_low o _
    go None = tt

declared_low : (o : Outer) (d : Declared) (b : Bool) → EndLow (levels o.frames) (st.declared_in false o d end_token b)
declared_low o d true = tt
declared_low o d false = complete_low o o.frames _

without_low : (o : Outer) (d : Declared) (n : Name) (k : DeclareKind) → EndLow (levels o.frames) (st.without_value false o d n end_token k)
without_low o d n declare.Let = declared_low o (st.with_declaration d n None) d.in_for
without_low o d n declare.Const = tt

uncovered_low : (o : Outer) (c : Cover) (ns : List Name) (x : Step) → EndLow (levels (uncover o c ns).frames) x → EndLow (levels o.frames + 1) x
uncovered_low o c ns x h = lower _ _ x (subst (λ (z : ℕ). z ≤ levels o.frames + 1) (sym (uncovered_level (levels o.frames) c ns)) (le_refl (levels o.frames + 1))) h

ended_low : (o : Outer) (a : At) → is_between a ≡ false → EndLow (at_level (levels o.frames) a) (step_in no_limit false o a end_token)
ended_low o (at.Operand x n) h = lower _ _ (after_whole false o x end_token) (at_rises (levels o.frames) (at.Operand x n)) (whole_low o x)
ended_low o (at.Updated x) h = whole_low o x
ended_low o (at.Whole x) h = whole_low o x
ended_low o (at.Async n) h = whole_low o _
ended_low o (at.CoverName c ns n) h =
    uncovered_low o c ns _ (cond_low _ (may_be_values c ns) _ (refuse_at spot.Parameter) (cond_low _ (is_async n.units) _ _ (whole_low (uncover o c ns) _) (whole_low (uncover o c ns) _)) tt)
ended_low o (at.Covered c ns b) h = covered_low o c ns b
ended_low o (at.NameDeclared d n) h = lower _ _ _ (at_rises (levels o.frames) (at.NameDeclared d n)) (go d.in_for (st.is_first d.declarations))
  where
    go : (a b : Bool) → EndLow (levels o.frames) (cond (a && (b && false)) (wait o 1 (purpose.ForOf d.kind n)) (st.without_value false o d n end_token d.kind))
    go true true = without_low o d n d.kind
    go true false = without_low o d n d.kind
    go false b = without_low o d n d.kind
ended_low o (at.Jump s) h = complete_low o o.frames s
ended_low o (at.Return m) h = complete_low o o.frames _
ended_low o at.Statement h = absurd (true≢false h)
ended_low o (at.AfterThen test s) h = absurd (true≢false h)
ended_low o (at.AfterCatch ss c) h = absurd (true≢false h)
ended_low o at.AfterExport h = absurd (true≢false h)
ended_low o (at.CoverOpen c ns) h = cond_low _ (may_be_values c ns) (refuse_at spot.ExpressionBegin) (refuse_at spot.Parameter) tt tt
ended_low o (at.ArrowBody a ns) h = go (nat_le no_limit (constructs o))
  where
    go : (b : Bool) → EndLow (levels o.frames) (arrow_value b (refuse_at spot.ExpressionBegin))
    go true = tt
    go false = tt
ended_low o _ h = tt

between_level : (n : ℕ) (a : At) → is_between a ≡ true → at_level n a ≡ n
between_level n at.Statement h = refl
between_level n (at.AfterThen test s) h = refl
between_level n (at.AfterCatch ss c) h = refl
between_level n at.AfterExport h = refl
between_level n _ h = absurd (true≢false (sym h))

pub end_level : (s m : State) → take s Ended ≡ Ok m → level m ≤ level s
end_level s m e = go (is_between s.at) refl
  where
    go : (b : Bool) → is_between s.at ≡ b → level m ≤ level s
    go true i = (let j : refuse ≡ Ok m = sym (ended_refused s i) ∙ e in cc)
    go false i =
        subst (λ (z : ℕ). z ≤ level s) (sym (between_level (levels m.outer.frames) m.at (ends_between s m e)))
        (subst (EndLow (level s)) (sym (ended_is s i) ∙ e) (ended_low s.outer s.at i))
