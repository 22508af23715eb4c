-- The counts of constructs that a run gives each piece: the tree's, and no state behind the pieces so far has more.
use Rattle.std.proofs.Common.{◌≡◌, ℕ, ◌+◌, ◌≤◌, Bool, true, false, cond, List, [], ◌∷◌, ◌++◌, ◌⊎◌, map, Some, None, Ok, Err, refl, sym, ◌∙◌, ap, subst, append_assoc, inl, inr, le_refl, le_trans, add-zero, zero-add, arith}
use Rattle.std.proofs.lemmas.Bool.{false≢true}
use Rattle.std.proofs.lemmas.List.{append-nil}
use Rattle.js_lex.specs.declared.token.TokenKind.{TokenKind}
use Rattle.js_lex.specs.declared.token.TokenKind.TheVariants as tok
use Rattle.js_lex.specs.declared.token.Token.{Token}
use Rattle.js_tree.specs.declared.tree.Item.{Item}
use Rattle.js_tree.specs.declared.tree.Stmt.{Stmt}
use Rattle.js_tree.specs.declared.tree.Stmt.TheVariants as stmt
use Rattle.js_parse_core.specs.declared.machine.At.{At}
use Rattle.js_parse_core.specs.declared.machine.At.TheVariants as at
use Rattle.js_parse_core.specs.declared.machine.Open.{Open}
use Rattle.js_parse_core.specs.declared.machine.Outer.{Outer}
use Rattle.js_parse_core.specs.declared.machine.Refusal.TheVariants as refusal
use Rattle.js_parse_core.specs.declared.machine.State.{State}
use Rattle.js_parse_core.specs.Machine.{step_in, is_shallow, if_shallow, step, start}
use Rattle.js_parse_core.specs.Outer.{Step, refuse, framed, settle}
use Rattle.js_parse_core.specs.Statements.{statement_behind, end_script}
use Rattle.js_parse_core.specs.Tokens.{is_end}
use Rattle.js_parse_core.proofs.Pieces.{no_limit, end_token, is_between, is_last, take, taken, run, finish}
use Rattle.js_grammar.specs.Marks.{Piece, Read, Ended, Seen, Mark, Form, IsOneOf, Matches, deeper_mark, just, sign, maybe}
use Rattle.js_grammar.specs.Grammar.{is_empty, of_tree, of_export, of_stmt, export_end, arrow_sign, reserved}
use Rattle.js_grammar.specs.Script.{pieces}
use Rattle.js_lex.specs.declared.token.Punctuator.TheVariants as p
use Rattle.js_tree.specs.declared.tree.Item.TheVariants as item
use Rattle.js_tree.specs.declared.tree.Name.{Name}
use Rattle.js_tree.specs.declared.tree.Property.{Property}
use Rattle.js_parse_core.specs.declared.machine.Tail.TheVariants as tail
use Rattle.js_parse_core.specs.Expressions.{arrow_value, on_arrow_body}
use Rattle.js_lex.specs.declared.token.Punctuator.{Punctuator}
use Rattle.js_lex.specs.declared.token.Reserved.{Reserved}
use Rattle.js_lex.specs.declared.token.Reserved.TheVariants as r
use Rattle.js_lex.specs.declared.token.TemplatePart.{TemplatePart}
use Rattle.js_lex.specs.declared.token.TemplatePart.TheVariants as part
use Rattle.js_tree.specs.declared.tree.Expr.TheVariants as expr
use Rattle.js_tree.specs.declared.tree.UnaryOp.TheVariants as unary
use Rattle.js_tree.specs.declared.tree.UpdateOp.TheVariants as update
use Rattle.js_parse_core.specs.declared.machine.Block.TheVariants as block
use Rattle.js_parse_core.specs.declared.machine.Cover.TheVariants as cover
use Rattle.js_parse_core.specs.declared.machine.Frame.TheVariants as frame
use Rattle.js_parse_core.specs.declared.machine.Operator.{Operator}
use Rattle.js_parse_core.specs.declared.machine.Operator.TheVariants as operator
use Rattle.js_parse_core.specs.declared.machine.Position.{Position}
use Rattle.js_parse_core.specs.declared.machine.Position.TheVariants as positions
use Rattle.js_parse_core.specs.declared.machine.Purpose.TheVariants as purpose
use Rattle.js_parse_core.specs.Begin.{begin_name, begin_template, prefix_at, begin_by_word, begin_paren, begin_by_sign, begin_kind, begin}
use Rattle.js_parse_core.specs.Outer.{to, plus, opened, push, open_block, position, is_whole, constructs}
use Rattle.js_parse_core.specs.Tokens.{is_async, is_open_brace}
use Rattle.js_parse_core.specs.Tokens.{name as named}
use Rattle.std.specs.Prelude.{nat_le, not}
use Rattle.js_parse_core.proofs.UniqueForms.{Parted, parted}
use Rattle.js_parse_core.proofs.BareStatements.{full_if, full_try}
use Rattle.js_parse_core.proofs.Spelled.{unread, ends_with_export}
use Rattle.js_parse_core.proofs.Grows.{piece_of, piece, piece_read}
use Rattle.js_parse_core.proofs.Sound.{not_last}
use Rattle.js_parse_core.proofs.CountedCovers.{matches_append, Covers, covers_same, covers_trans, covers_none}
use Rattle.js_parse_core.proofs.CountedForms.{accesses, up, raised, raised_append, perhaps_at, arrow_at, stmt_at, object_raised}
use Rattle.js_parse_core.proofs.CountedStatements.{is_block, stmt_if, other_if, other_try}
use Rattle.js_parse_core.proofs.CountedSpelled.{callee_level, head_level, levels, at_level, level, tail_front, spell, waits, export_forms, end_before, items_with, whole_items, behind_export, spelled_at, spelled}
use Rattle.js_parse_core.proofs.CountedLemmas.{filled_names, spell_append, enters_waits}
use Rattle.js_parse_core.proofs.CountedGrows.{AllBelow, seen_of, Reaches, Added, Grows, opens_enters}
use Rattle.js_parse_core.proofs.CountedFolds.{access_rises, callee_rises, head_rises, levels_rise}
use Rattle.js_parse_core.proofs.CountedBegin.{begin_grows}
use Rattle.js_parse_core.proofs.CountedEnds.{Settles, placed_other, settle_full, between_covers}
use Rattle.js_parse_core.proofs.CountedValues.{inside, here}
use Rattle.js_parse_core.proofs.CountedOperators.{operand_grows, after_value_grows, whole_grows}
use Rattle.js_parse_core.proofs.CountedArrows.{async_grows, cover_open_grows, cover_name_grows, covered_grows, arrow_grows, arrow_block_grows, arrow_value_grows, new_grows, new_open_grows, member_grows, argument_grows, element_grows}
use Rattle.js_parse_core.proofs.CountedObjects.{key_grows, name_key_grows, other_key_grows, async_key_grows, async_method_grows, property_end_grows, function_name_grows, parameters_open_grows, parameters_grows, parameter_read_grows, body_open_grows}
use Rattle.js_parse_core.proofs.CountedBlocks.{statement_grows}
use Rattle.js_parse_core.proofs.CountedHeads.{after_then_grows, opening_grows, for_head_grows, for_test_grows, for_update_grows, return_grows, throw_grows, jump_grows, declared_name_grows, name_declared_grows, try_grows, after_try_grows, catch_grows, catch_name_grows, catch_close_grows, catch_body_grows, catch_forms_end, after_catch_grows, finally_grows, export_word_grows, export_object_grows, export_items, after_export_grows}

-- ---- the same pieces, with as many constructs open or more

-- one piece for each, and no more than k constructs are open where more are
abbrev pub Over : ℕ → List Seen → List Seen → Type 0
Over k [] b = b ≡ []
Over k (s ∷ a) b = (x : Seen) × (rest : List Seen) × (b ≡ x ∷ rest) × (x.piece ≡ s.piece) × (s.constructs ≤ x.constructs) × ((x.constructs ≤ s.constructs) ⊎ (x.constructs ≤ k)) × Over k a rest

over_same : (k : ℕ) (a : List Seen) → Over k a a
over_same k [] = refl
over_same k (s ∷ a) = (s, a, refl, refl, le_refl s.constructs, inl (le_refl s.constructs), over_same k a)

over_append : (k : ℕ) (a b c d : List Seen) → Over k a c → Over k b d → Over k (a ++ b) (c ++ d)
over_append k [] b c d h i = subst (λ (z : List Seen). Over k b (z ++ d)) (sym h) i
over_append k (s ∷ a) b c d (x, rest, e, q, l, m, h) i = (x, rest ++ d, ap (λ (z : List Seen). z ++ d) e, q, l, m, over_append k a b rest d h i)

-- one piece for each, with as many constructs open at least
abbrev pub Atop : List Seen → List Seen → Type 0
Atop [] b = b ≡ []
Atop (s ∷ a) b = (x : Seen) × (rest : List Seen) × (b ≡ x ∷ rest) × (x.piece ≡ s.piece) × (s.constructs ≤ x.constructs) × Atop a rest

atop_same : (a : List Seen) → Atop a a
atop_same [] = refl
atop_same (s ∷ a) = (s, a, refl, refl, le_refl s.constructs, atop_same a)

over_atop : (k : ℕ) (a b c : List Seen) → Over k a b → Atop b c → Atop a c
over_atop k [] b c h i = nothing b h i
  where
    nothing : (z : List Seen) → z ≡ [] → Atop z c → c ≡ []
    nothing z e m = subst (λ (y : List Seen). Atop y c) e m
over_atop k (s ∷ a) b c (x, rest, e, q, l, m, h) i = next (λ others j. over_atop k a rest others h j) (subst (λ (z : List Seen). Atop z c) e i)
  where
    next : ((others : List Seen) → Atop rest others → Atop a others) → Atop (x ∷ rest) c → Atop (s ∷ a) c
    next go (y, others, f, p, n, j) = (y, others, f, p ∙ q, le_trans l n, go others j)

atop_reaches : (n : ℕ) (a b : List Seen) → Atop a b → Reaches n a → Reaches n b
atop_reaches n [] b h r = subst (Reaches n) (sym h) r
atop_reaches n (s ∷ a) b (x, rest, e, q, l, h) (inl r) = subst (Reaches n) (sym e) (inl (le_trans r l))
atop_reaches n (s ∷ a) b (x, rest, e, q, l, h) (inr r) = subst (Reaches n) (sym e) (inr (atop_reaches n a rest h r))

pub below_append : (most : ℕ) (a b : List Seen) → AllBelow most a → AllBelow most b → AllBelow most (a ++ b)
below_append most [] b h i = i
below_append most (s ∷ a) b h i = (h.0, below_append most a b h.1 i)

over_below : (most k : ℕ) (a b : List Seen) → k ≤ most → Over k a b → AllBelow most a → AllBelow most b
over_below most k [] b w h r = subst (AllBelow most) (sym h) tt
over_below most k (s ∷ a) b w (x, rest, e, q, l, m, h) r = subst (AllBelow most) (sym e) (small m, over_below most k a rest w h r.1)
  where
    small : (x.constructs ≤ s.constructs) ⊎ (x.constructs ≤ k) → x.constructs ≤ most
    small (inl c) = le_trans c r.0
    small (inr c) = le_trans c w

-- ---- steps

-- the same pieces but for the last one
abbrev pub NearTo : List Seen → List Seen → Type 0
NearTo ss b = (i : List Seen) (x : Seen) → ss ≡ i ++ x ∷ [] → (y : Seen) × (b ≡ i ++ y ∷ [])

abbrev IsNil : List Seen → Type 0
IsNil [] = Unit {0}
IsNil (s ∷ ss) = ⊥

pub nil_snoc : (j : List Seen) (y : Seen) → [] ≡ j ++ y ∷ [] → ⊥
nil_snoc [] y e = subst IsNil e tt
nil_snoc (b ∷ j) y e = subst IsNil e tt

abbrev rest_of : List Seen → List Seen
rest_of [] = []
rest_of (s ∷ ss) = ss

abbrev first_of : Seen → List Seen → Seen
first_of d [] = d
first_of d (s ∷ ss) = s

snoc_same : (i j : List Seen) (x y : Seen) → i ++ x ∷ [] ≡ j ++ y ∷ [] → i ≡ j
snoc_same [] [] x y e = refl
snoc_same [] (b ∷ j) x y e = absurd (nil_snoc j y (ap rest_of e))
snoc_same (a ∷ i) [] x y e = absurd (nil_snoc i x (sym (ap rest_of e)))
snoc_same (a ∷ i) (b ∷ j) x y e = ap (λ (z : Seen). z ∷ i) (ap (first_of a) e) ∙ ap (λ (z : List Seen). b ∷ z) (snoc_same i j x y (ap rest_of e))

-- the piece raises the count of the arrow before it
abbrev pub raises : At → Piece → Bool
raises (at.ArrowBody a ns) (Read t) = not (is_open_brace t.kind)
raises (at.ArrowBody a ns) Ended = true
raises _ q = false

-- the last of these has k constructs open
abbrev pub EndsAt : ℕ → List Seen → Type 0
EndsAt k b = (i : List Seen) × (y : Seen) × (b ≡ i ++ y ∷ []) × (y.constructs ≡ k)

-- the piece comes: what was read with perhaps more constructs open at the piece before, and the piece
pub record Took (raised : Bool) (l : ℕ) (ss : List Seen) (q : Piece) (b : List Form) (n : ℕ) : Type 0 where
  pub front : List Seen
  pub last : Seen
  pub is : last.piece ≡ q
  pub over : Over n ss front
  pub near : NearTo ss front
  pub kept : raised ≡ false → front ≡ ss
  pub ends : raised ≡ true → EndsAt (l + 1) front
  pub matches : Matches b (front ++ last ∷ [])
  pub above : Reaches n (front ++ last ∷ [])
  pub below : (most : ℕ) → AllBelow most front → l ≤ most → n ≤ most → last.constructs ≤ most

abbrev pub Takes : Bool → ℕ → List Form → Piece → Step → Type 0
Takes raised l a q (Ok n) = (ss : List Seen) → Matches a ss → Took raised l ss q (spelled n) (level n)
Takes raised l a q (Err k) = Unit {0}

takes_grows : (raised : Bool) (l : ℕ) (a : List Form) (t : Token) (x : Step) → raised ≡ false → Grows l a t x → Takes raised l a (piece t) x
takes_grows raised l a t (Ok n) i h =
    λ ss m.
    let r : Added l ss t (spelled n) (level n) = h.adds ss m in
    record { front = ss; last = seen_of t r.constructs; is = refl; over = over_same (level n) ss; near = λ i x e. (x, e); kept = λ e. refl; ends = λ e. absurd (false≢true (sym i ∙ e)); matches = r.matches; above = r.above; below = r.below }
takes_grows raised l a t (Err k) i h = tt

takes_cond : (raised : Bool) (l : ℕ) (a : List Form) (q : Piece) (b : Bool) (x y : Step) → (b ≡ true → Takes raised l a q x) → (b ≡ false → Takes raised l a q y) → Takes raised l a q (cond b x y)
takes_cond raised l a q true x y h k = h refl
takes_cond raised l a q false x y h k = k refl

-- ---- the arrow before a value is counted with the value

record Turned (n : ℕ) (b : List Form) (ss : List Seen) : Type 0 where
  seen : List Seen
  over : Over n ss seen
  near : NearTo ss seen
  ends : EndsAt n seen
  matches : Matches b seen

turn_last : (n : ℕ) (a : List Form) (f : Form) (ss : List Seen) → ((s : List Seen) → IsOneOf (up n f) s → Turned (n + 1) (up (n + 1) f ∷ []) s) → ((s : List Seen) → IsOneOf (up n f) s → (x : Seen) × (s ≡ x ∷ [])) → Matches (a ++ up n f ∷ []) ss → Turned (n + 1) (a ++ up (n + 1) f ∷ []) ss
turn_last n a f ss g only h = from (parted a (up n f ∷ []) ss h)
  where
    from : Parted a (up n f ∷ []) ss → Turned (n + 1) (a ++ up (n + 1) f ∷ []) ss
    from r =
        let t : Turned (n + 1) (up (n + 1) f ∷ []) r.is_back.0 = g r.is_back.0 r.is_back.3 in
        let back_is : r.back ≡ r.is_back.0 = r.is_back.2 ∙ ap (λ (z : List Seen). r.is_back.0 ++ z) r.is_back.4 ∙ append-nil r.is_back.0 in
        record {
          seen = r.front ++ t.seen;
          over = subst (λ (z : List Seen). Over (n + 1) z (r.front ++ t.seen)) (sym (r.parts ∙ ap (λ (z : List Seen). r.front ++ z) back_is)) (over_append (n + 1) r.front r.is_back.0 r.front t.seen (over_same (n + 1) r.front) t.over);
          near = λ i x e.
              let y : (y : Seen) × (t.seen ≡ y ∷ []) = t.near [] (only r.is_back.0 r.is_back.3).0 (only r.is_back.0 r.is_back.3).1 in
              let same : r.front ≡ i = snoc_same r.front i (only r.is_back.0 r.is_back.3).0 x (sym (r.parts ∙ ap (λ (z : List Seen). r.front ++ z) (back_is ∙ (only r.is_back.0 r.is_back.3).1)) ∙ e) in
              (y.0, ap (λ (z : List Seen). r.front ++ z) y.1 ∙ ap (λ (z : List Seen). z ++ y.0 ∷ []) same);
          ends = (r.front ++ t.ends.0, t.ends.1, ap (λ (z : List Seen). r.front ++ z) t.ends.2 ∙ sym (append_assoc r.front t.ends.0 (t.ends.1 ∷ [])), t.ends.3);
          matches = matches_append a (up (n + 1) f ∷ []) r.front t.seen r.is_front t.matches;
        }

turn_arrow : (n : ℕ) (s : List Seen) → IsOneOf (up n arrow_sign) s → Turned (n + 1) (up (n + 1) arrow_sign ∷ []) s
turn_arrow n s (inl h) =
    let x : Seen = record { piece = h.0.piece; constructs = n + 1 } in
    record {
      seen = x ∷ [];
      over = subst (λ (z : List Seen). Over (n + 1) z (x ∷ [])) (sym (h.2 ∙ ap (λ (z : List Seen). h.0 ∷ z) h.4))
          (x, [], refl, refl, subst (λ (c : ℕ). c ≤ n + 1) (sym (h.3.constructs ∙ add-zero n)) (omega arith), inr (le_refl (n + 1)), refl);
      near = λ i y e. (x, ap (λ (z : List Seen). z ++ x ∷ []) (snoc_same [] i h.0 y (sym (h.2 ∙ ap (λ (z : List Seen). h.0 ∷ z) h.4) ∙ e)));
      ends = ([], x, refl, refl);
      matches = (x ∷ [], [], refl, inl (x, [], refl, record { wanted = h.3.wanted; constructs = sym (add-zero (n + 1)) }, refl), refl);
    }
turn_arrow n s (inr h) = absurd h

only_arrow : (n : ℕ) (s : List Seen) → IsOneOf (up n arrow_sign) s → (x : Seen) × (s ≡ x ∷ [])
only_arrow n s (inl h) = (h.0, h.2 ∙ ap (λ (z : List Seen). h.0 ∷ z) h.4)
only_arrow n s (inr h) = absurd h

raise_arrow : (o : Outer) (a : Bool) (ns : List Name) (ss : List Seen) → Matches (inside o (perhaps_at (here o) a (arrow_at (here o) ns) ++ up (here o) arrow_sign ∷ [])) ss
    → Turned (here o + 1) (inside o (tail_front (here o) (tail.Arrow a ns))) ss
raise_arrow o a ns ss h =
    let front : List Form = whole_items o.items ++ spell o.frames (perhaps_at (here o) a (arrow_at (here o) ns)) in
    let is : (f : Form) → inside o (perhaps_at (here o) a (arrow_at (here o) ns) ++ f ∷ []) ≡ front ++ f ∷ [] =
    λ f. ap (λ (z : List Form). whole_items o.items ++ z) (spell_append o.frames (perhaps_at (here o) a (arrow_at (here o) ns)) (f ∷ []) (filled_names (here o) a ns)) ∙ sym (append_assoc (whole_items o.items) _ (f ∷ [])) in
    let t : Turned (here o + 1) (front ++ up (here o + 1) arrow_sign ∷ []) ss = turn_last (here o) front arrow_sign ss (λ s k. turn_arrow (here o) s k) (λ s k. only_arrow (here o) s k) (subst (λ (z : List Form). Matches z ss) (is (up (here o) arrow_sign)) h) in
    record { seen = t.seen; over = t.over; near = t.near; ends = t.ends; matches = subst (λ (z : List Form). Matches z t.seen) (sym (is (up (here o + 1) arrow_sign))) t.matches }

over_more : (k j : ℕ) (a b : List Seen) → k ≤ j → Over k a b → Over j a b
over_more k j [] b w h = h
over_more k j (s ∷ a) b w (x, rest, e, q, l, m, h) = (x, rest, e, q, l, more m, over_more k j a rest w h)
  where
    more : (x.constructs ≤ s.constructs) ⊎ (x.constructs ≤ k) → (x.constructs ≤ s.constructs) ⊎ (x.constructs ≤ j)
    more (inl c) = inl c
    more (inr c) = inr (le_trans c w)

-- no fewer constructs are open behind the step
abbrev pub AtLeast : ℕ → Step → Type 0
AtLeast k (Ok n) = k ≤ level n
AtLeast k (Err e) = Unit {0}

sum_rises : (n k : ℕ) → n ≤ n + k
sum_rises n k = omega arith

pub at_rises : (n : ℕ) (a : At) → n ≤ at_level n a
at_rises n (at.Operand x k) = sum_rises n (accesses x)
at_rises n (at.MemberName x k) = access_rises n x
at_rises n (at.NextArgument c xs) = callee_rises n c
at_rises n (at.Parameters h ns) = head_rises n h
at_rises n (at.ParameterRead h ns m) = head_rises n h
at_rises n (at.CoverOpen c ns) = sum_rises n 1
at_rises n (at.CoverName c ns m) = sum_rises n 1
at_rises n (at.NextElement xs) = sum_rises n 1
at_rises n (at.Key xs) = sum_rises n 1
at_rises n (at.NameKey xs m) = sum_rises n 1
at_rises n (at.OtherKey xs k) = sum_rises n 1
at_rises n (at.AsyncKey xs m) = sum_rises n 1
at_rises n (at.AsyncMethod xs k) = sum_rises n 1
at_rises n (at.PropertyEnd xs) = sum_rises n 1
at_rises n at.ForHead = sum_rises n 1
at_rises n (at.ForTest b) = sum_rises n 1
at_rises n (at.ForUpdate b test) = sum_rises n 1
at_rises n (at.CatchName ss) = sum_rises n 1
at_rises n (at.CatchClose ss m) = sum_rises n 1
at_rises n _ = le_refl n

to_rises : (o : Outer) (a : At) → AtLeast (here o) (to o a)
to_rises o a = at_rises (here o) a

prefix_rises : (o : Outer) (x : Operator) (q : Position) → AtLeast (here o) (prefix_at o x q)
prefix_rises o x positions.Target = tt
prefix_rises o x positions.Whole = levels_rise (opened (plus (constructs o) 1) (frame.Operator x)) o.frames
prefix_rises o x positions.Operand = levels_rise (opened (plus (constructs o) 1) (frame.Operator x)) o.frames

name_rises : (o : Outer) (n : Name) (b : Bool) → AtLeast (here o) (begin_name o n b)
name_rises o n true = to_rises o (at.Async n)
name_rises o n false = to_rises o (at.Operand (expr.Name n) 0)

template_rises : (o : Outer) (k : TemplatePart) (u : List ℕ) → AtLeast (here o) (begin_template o k u)
template_rises o part.Whole u = to_rises o (at.Operand (expr.Template [] u) 0)
template_rises o part.Head u = levels_rise (opened (plus (constructs o) 1) (frame.Purpose (purpose.Hole [] u))) o.frames
template_rises o part.Middle u = tt
template_rises o part.Tail u = tt

word_rises : (o : Outer) (q : ℕ) (x : Reserved) → AtLeast (here o) (begin_by_word o q x)
word_rises o q r.True = to_rises o (at.Operand expr.True 0)
word_rises o q r.False = to_rises o (at.Operand expr.False 0)
word_rises o q r.Null = to_rises o (at.Operand expr.Null 0)
word_rises o q r.This = to_rises o (at.Operand expr.This 0)
word_rises o q r.Function = to_rises o (at.FunctionName false false)
word_rises o q r.New = to_rises o at.NewName
word_rises o q r.TypeOf = prefix_rises o (operator.Unary unary.TypeOf) (position o)
word_rises o q r.Await = prefix_rises o (operator.Await q) (position o)
word_rises o q _ = tt

paren_rises : (o : Outer) (b : Bool) → AtLeast (here o) (begin_paren o b)
paren_rises o true = to_rises o (at.CoverOpen cover.Plain [])
paren_rises o false = levels_rise (opened (plus (constructs o) 1) (frame.Purpose purpose.Group)) o.frames

sign_rises : (o : Outer) (x : Punctuator) → AtLeast (here o) (begin_by_sign o x)
sign_rises o p.OpenParen = paren_rises o (is_whole o)
sign_rises o p.OpenBracket = to_rises o (at.NextElement [])
sign_rises o p.OpenBrace = to_rises o (at.Key [])
sign_rises o p.Not = prefix_rises o (operator.Unary unary.Not) (position o)
sign_rises o p.Minus = prefix_rises o (operator.Unary unary.Negate) (position o)
sign_rises o p.PlusPlus = prefix_rises o (operator.Update update.Increment) (position o)
sign_rises o p.MinusMinus = prefix_rises o (operator.Update update.Decrement) (position o)
sign_rises o _ = tt

kind_rises : (o : Outer) (q : ℕ) (k : TokenKind) → AtLeast (here o) (begin_kind o q k)
kind_rises o q (tok.Name u) = name_rises o (named q u) (is_async u)
kind_rises o q (tok.Number n) = to_rises o (at.Operand (expr.Number n) 0)
kind_rises o q (tok.Text u) = to_rises o (at.Operand (expr.Text u) 0)
kind_rises o q (tok.Template x u) = template_rises o x u
kind_rises o q (tok.Reserved x) = word_rises o q x
kind_rises o q (tok.Punctuator s) = sign_rises o s
kind_rises o q tok.End = tt
kind_rises o q (tok.Bad f) = tt

pub begin_rises : (o : Outer) (t : Token) → AtLeast (here o) (begin o t)
begin_rises o t = kind_rises o t.place t.kind

takes_turned : (raised : Bool) (l : ℕ) (a b : List Form) (t : Token) (x : Step) → raised ≡ true → Grows l b t x → AtLeast (l + 1) x → ((ss : List Seen) → Matches a ss → Turned (l + 1) b ss) → Takes raised l a (piece t) x
takes_turned raised l a b t (Ok n) i h w g =
    λ ss m.
    let u : Turned (l + 1) b ss = g ss m in
    let r : Added l u.seen t (spelled n) (level n) = h.adds u.seen u.matches in
    record { front = u.seen; last = seen_of t r.constructs; is = refl; over = over_more (l + 1) (level n) ss u.seen w u.over; near = u.near; ends = λ e. u.ends; kept = λ e. absurd (false≢true (sym e ∙ i)); matches = r.matches; above = r.above; below = r.below }
takes_turned raised l a b t (Err e) i h w g = tt

takes_value : (raised : Bool) (l : ℕ) (a : List Form) (q : Piece) (b : Bool) (x : Step) → Takes raised l a q x → Takes raised l a q (arrow_value b x)
takes_value raised l a q true (Ok n) h = tt
takes_value raised l a q true (Err k) h = tt
takes_value raised l a q false x h = h

raises_piece : (a : Bool) (ns : List Name) (t : Token) (k : TokenKind) → t.kind ≡ k → is_open_brace t.kind ≡ false → raises (at.ArrowBody a ns) (piece_of t k) ≡ true
raises_piece a ns t tok.End e h = refl
raises_piece a ns t _ e h = ap not h

raises_brace : (a : Bool) (ns : List Name) (t : Token) (k : TokenKind) → t.kind ≡ k → is_open_brace t.kind ≡ true → raises (at.ArrowBody a ns) (piece_of t k) ≡ false
raises_brace a ns t tok.End e h = absurd (false≢true (sym (ap is_open_brace e) ∙ h))
raises_brace a ns t _ e h = ap not h

arrow_body_takes : (most : ℕ) (o : Outer) (a : Bool) (ns : List Name) (t : Token)
    → Takes (raises (at.ArrowBody a ns) (piece t)) (here o) (inside o (perhaps_at (here o) a (arrow_at (here o) ns) ++ up (here o) arrow_sign ∷ [])) (piece t) (on_arrow_body most o a ns t)
arrow_body_takes most o a ns t =
    let inner : Outer = push o 1 (frame.Tail (tail.Arrow a ns)) in
    let raised : Bool = raises (at.ArrowBody a ns) (piece t) in
    takes_cond raised (here o) _ (piece t) (is_open_brace t.kind) (open_block o 1 (block.Arrow a ns)) (arrow_value (nat_le most (constructs o)) (begin inner t))
    (λ h. takes_grows raised (here o) _ t (open_block o 1 (block.Arrow a ns)) (raises_brace a ns t t.kind refl h) (arrow_block_grows (here o) o a ns t h))
    (λ h. takes_value raised (here o) _ (piece t) (nat_le most (constructs o)) (begin inner t)
    (takes_turned raised (here o) _ (inside o (tail_front (here o) (tail.Arrow a ns))) t (begin inner t) (raises_piece a ns t t.kind refl h) (arrow_value_grows (here o) o a ns t) (begin_rises inner t) (λ ss m. raise_arrow o a ns ss m)))

-- ---- each state

abbrev at_most : Outer → At → ℕ
at_most o a = at_level (levels o.frames) a

-- between statements no end may be put in
at_takes : (most : ℕ) (o : Outer) (a : At) (t : Token) → (is_between a ≡ true → is_end t.kind ≡ false) → Takes (raises a (piece t)) (at_most o a) (spelled_at o.items o.frames a) (piece t) (step_in most false o a t)
at_takes most o at.Statement t e = takes_grows _ _ _ t (step_in most false o at.Statement t) refl (statement_grows _ _ o t (le_refl (here o)) (between_covers o.items o.frames) (λ h. covers_same _ _ refl) (e refl))
at_takes most o at.Begin t e = takes_grows _ _ _ t (step_in most false o at.Begin t) refl (begin_grows _ _ o t (opens_enters _ _ o.items (waits o.frames) o.frames t (covers_same _ _ refl) (enters_waits o.frames)))
at_takes most o (at.Operand x n) t e = takes_grows _ _ _ t (step_in most false o (at.Operand x n) t) refl (operand_grows _ o x n t (sum_rises (here o) (accesses x)))
at_takes most o (at.Updated x) t e = takes_grows _ _ _ t (step_in most false o (at.Updated x) t) refl (after_value_grows _ o x t (le_refl (here o)))
at_takes most o (at.Whole x) t e = takes_grows _ _ _ t (step_in most false o (at.Whole x) t) refl (whole_grows _ o x t (le_refl (here o)))
at_takes most o (at.Async n) t e = takes_grows _ _ _ t (step_in most false o (at.Async n) t) refl (async_grows _ o n t (le_refl (here o)))
at_takes most o (at.CoverOpen c ns) t e = takes_grows _ _ _ t (step_in most false o (at.CoverOpen c ns) t) refl (cover_open_grows _ o c ns t (le_refl (here o + 1)))
at_takes most o (at.CoverName c ns n) t e = takes_grows _ _ _ t (step_in most false o (at.CoverName c ns n) t) refl (cover_name_grows _ o c ns n t (le_refl (here o + 1)))
at_takes most o (at.Covered c ns b) t e = takes_grows _ _ _ t (step_in most false o (at.Covered c ns b) t) refl (covered_grows _ o c ns b t (le_refl (here o)))
at_takes most o (at.Arrow a ns) t e = takes_grows _ _ _ t (step_in most false o (at.Arrow a ns) t) refl (arrow_grows _ o a ns t)
at_takes most o (at.ArrowBody a ns) t e = arrow_body_takes most o a ns t
at_takes most o at.NewName t e = takes_grows _ _ _ t (step_in most false o at.NewName t) refl (new_grows _ o t t.kind refl)
at_takes most o (at.NewOpen n) t e = takes_grows _ _ _ t (step_in most false o (at.NewOpen n) t) refl (new_open_grows _ o n t)
at_takes most o (at.MemberName x n) t e = takes_grows _ _ _ t (step_in most false o (at.MemberName x n) t) refl (member_grows _ o x n t)
at_takes most o (at.NextArgument c xs) t e = takes_grows _ _ _ t (step_in most false o (at.NextArgument c xs) t) refl (argument_grows _ o c xs t (le_refl (callee_level (here o) c)))
at_takes most o (at.NextElement xs) t e = takes_grows _ _ _ t (step_in most false o (at.NextElement xs) t) refl (element_grows _ o xs t (le_refl (here o + 1)))
at_takes most o (at.Key xs) t e = takes_grows _ _ _ t (step_in most false o (at.Key xs) t) refl (key_grows _ o xs t (le_refl (here o + 1)))
at_takes most o (at.NameKey xs n) t e = takes_grows _ _ _ t (step_in most false o (at.NameKey xs n) t) refl (name_key_grows _ o xs n t (le_refl (here o + 1)))
at_takes most o (at.OtherKey xs k) t e = takes_grows _ _ _ t (step_in most false o (at.OtherKey xs k) t) refl (other_key_grows _ o xs k t t.kind refl)
at_takes most o (at.AsyncKey xs n) t e = takes_grows _ _ _ t (step_in most false o (at.AsyncKey xs n) t) refl (async_key_grows _ o xs n t (le_refl (here o + 1)))
at_takes most o (at.AsyncMethod xs k) t e = takes_grows _ _ _ t (step_in most false o (at.AsyncMethod xs k) t) refl (async_method_grows _ o xs k t)
at_takes most o (at.PropertyEnd xs) t e = takes_grows _ _ _ t (step_in most false o (at.PropertyEnd xs) t) refl (property_end_grows _ o xs t (le_refl (here o + 1)))
at_takes most o (at.FunctionName d a) t e = takes_grows _ _ _ t (step_in most false o (at.FunctionName d a) t) refl (function_name_grows _ o d a t t.kind refl)
at_takes most o (at.ParametersOpen h) t e = takes_grows _ _ _ t (step_in most false o (at.ParametersOpen h) t) refl (parameters_open_grows _ o h t)
at_takes most o (at.Parameters h ns) t e = takes_grows _ _ _ t (step_in most false o (at.Parameters h ns) t) refl (parameters_grows _ o h ns t t.kind (le_refl (head_level (here o) h)) refl)
at_takes most o (at.ParameterRead h ns n) t e = takes_grows _ _ _ t (step_in most false o (at.ParameterRead h ns n) t) refl (parameter_read_grows _ o h ns n t t.kind (le_refl (head_level (here o) h)) refl)
at_takes most o (at.BodyOpen h ns) t e = takes_grows _ _ _ t (step_in most false o (at.BodyOpen h ns) t) refl (body_open_grows _ o h ns t)
at_takes most o (at.DeclaredName d) t e = takes_grows _ _ _ t (step_in most false o (at.DeclaredName d) t) refl (declared_name_grows _ o d t t.kind (le_refl (here o)) refl)
at_takes most o (at.NameDeclared d n) t e = takes_grows _ _ _ t (step_in most false o (at.NameDeclared d n) t) refl (name_declared_grows _ o d n t (le_refl (here o)))
at_takes most o (at.Opening x) t e = takes_grows _ _ _ t (step_in most false o (at.Opening x) t) refl (opening_grows _ o x t)
at_takes most o at.ForHead t e = takes_grows _ _ _ t (step_in most false o at.ForHead t) refl (for_head_grows _ o t (le_refl (here o + 1)))
at_takes most o (at.ForTest b) t e = takes_grows _ _ _ t (step_in most false o (at.ForTest b) t) refl (for_test_grows _ o b t)
at_takes most o (at.ForUpdate b test) t e = takes_grows _ _ _ t (step_in most false o (at.ForUpdate b test) t) refl (for_update_grows _ o b test t)
at_takes most o (at.AfterThen test s) t e = takes_grows _ _ _ t (step_in most false o (at.AfterThen test s) t) refl (after_then_grows _ o test s t (le_refl (here o)) (e refl))
at_takes most o (at.Jump s) t e = takes_grows _ _ _ t (step_in most false o (at.Jump s) t) refl (jump_grows _ o s t (le_refl (here o)))
at_takes most o (at.Return q) t e = takes_grows _ _ _ t (step_in most false o (at.Return q) t) refl (return_grows _ o q t (le_refl (here o)))
at_takes most o at.Throw t e = takes_grows _ _ _ t (step_in most false o at.Throw t) refl (throw_grows _ o t)
at_takes most o at.TryOpen t e = takes_grows _ _ _ t (step_in most false o at.TryOpen t) refl (try_grows _ o t)
at_takes most o (at.AfterTry ss) t e = takes_grows _ _ _ t (step_in most false o (at.AfterTry ss) t) refl (after_try_grows _ o ss t t.kind refl)
at_takes most o (at.CatchOpen ss) t e = takes_grows _ _ _ t (step_in most false o (at.CatchOpen ss) t) refl (catch_grows _ o ss t t.kind refl)
at_takes most o (at.CatchName ss) t e = takes_grows _ _ _ t (step_in most false o (at.CatchName ss) t) refl (catch_name_grows _ o ss t t.kind refl)
at_takes most o (at.CatchClose ss n) t e = takes_grows _ _ _ t (step_in most false o (at.CatchClose ss n) t) refl (catch_close_grows _ o ss n t (le_refl (here o + 1)))
at_takes most o (at.CatchBody ss n) t e = takes_grows _ _ _ t (step_in most false o (at.CatchBody ss n) t) refl (catch_body_grows _ o ss n t)
at_takes most o (at.AfterCatch ss c) t e = takes_grows _ _ _ t (step_in most false o (at.AfterCatch ss c) t) refl (after_catch_grows _ o ss c t (le_refl (here o)) (e refl))
at_takes most o (at.FinallyOpen ss c) t e = takes_grows _ _ _ t (step_in most false o (at.FinallyOpen ss c) t) refl (finally_grows _ o ss c t)
at_takes most o at.ExportDefault t e = takes_grows _ _ _ t (step_in most false o at.ExportDefault t) refl (export_word_grows _ o t)
at_takes most o at.ExportObject t e = takes_grows _ _ _ t (step_in most false o at.ExportObject t) refl (export_object_grows _ o t)
at_takes most o at.AfterExport t e = takes_grows _ _ _ t (step_in most false o at.AfterExport t) refl (after_export_grows _ o t (e refl))

shallow_takes : (raised : Bool) (l : ℕ) (a : List Form) (q : Piece) (most : ℕ) (x : Step) → Takes raised l a q x → Takes raised l a q (if_shallow most x)
shallow_takes raised l a q most (Ok n) h = takes_cond raised l a q (is_shallow most n) (Ok n) (Err refusal.Nesting) (λ e. h) (λ e. tt)
shallow_takes raised l a q most (Err k) h = tt

step_takes : (most : ℕ) (s : State) (t : Token) → (is_between s.at ≡ true → is_end t.kind ≡ false) → Takes (raises s.at (piece t)) (level s) (spelled s) (piece t) (step most false s t)
step_takes most s t e = shallow_takes (raises s.at (piece t)) (level s) (spelled s) (piece t) most (step_in most false s.outer s.at t) (at_takes most s.outer s.at t e)

pub piece_takes : (s : State) (q : Piece) → Takes (raises s.at q) (level s) (spelled s) q (take s q)
piece_takes s (Read t) =
    takes_cond (raises s.at (Read t)) (level s) (spelled s) (Read t) (is_last t.kind) refuse (step no_limit false s t) (λ h. tt)
    (λ h. subst (λ (q : Piece). Takes (raises s.at q) (level s) (spelled s) q (step no_limit false s t)) (piece_read t t.kind (not_last t.kind h)) (step_takes no_limit s t (λ e. not_last t.kind h)))
piece_takes s Ended =
    takes_cond (raises s.at Ended) (level s) (spelled s) Ended (is_between s.at) refuse (step no_limit false s end_token) (λ h. tt)
    (λ h. step_takes no_limit s end_token (λ e. absurd (false≢true (sym h ∙ e))))

-- ---- runs

-- behind each piece of b no more constructs are open than at one of the pieces up to it; from s on, with a before
abbrev pub Above : State → List Seen → List Seen → Type 0
Above s a [] = Unit {0}
Above s a (x ∷ b) = (n : State) → take s x.piece ≡ Ok n → Reaches (level n) (a ++ x ∷ []) × Above n (a ++ x ∷ []) b

-- at most so many constructs are open behind each of these pieces
abbrev pub Low : ℕ → State → List Piece → Type 0
Low most s [] = Unit {0}
Low most s (q ∷ qs) = (n : State) → take s q ≡ Ok n → (level n ≤ most) × Low most n qs

abbrev pub first_raises : State → List Piece → Bool
first_raises s [] = false
first_raises s (q ∷ qs) = raises s.at q

-- the counts: a stands over what was read before, b for the pieces of the run
pub record Counted (s : State) (ss : List Seen) (qs : List Piece) (forms : List Form) : Type 0 where
  pub front : List Seen
  pub back : List Seen
  pub atop : Atop ss front
  pub near : NearTo ss front
  pub kept : first_raises s qs ≡ false → front ≡ ss
  pub ends : first_raises s qs ≡ true → EndsAt (level s + 1) front
  pub are : pieces back ≡ qs
  pub matches : Matches forms (front ++ back)
  pub above : Above s front back
  pub below : (most : ℕ) → level s ≤ most → AllBelow most ss → Low most s qs → AllBelow most front × AllBelow most back

abbrev pub RunCounted : State → List Seen → List Piece → Step → Type 0
RunCounted s ss qs (Ok n) = Counted s ss qs (spelled n)
RunCounted s ss qs (Err k) = Unit {0}

pub same_state : (s : State) (q : Piece) (m n : State) → take s q ≡ Ok m → take s q ≡ Ok n → m ≡ n
same_state s q m n e f = ap (state_of m) (sym e ∙ f)
  where
    state_of : State → Step → State
    state_of d (Ok x) = x
    state_of d (Err k) = d

-- one piece for each, the last one apart
split_last : (a : List Seen) (x : Seen) (c : List Seen) → Atop (a ++ x ∷ []) c → (front : List Seen) × (last : Seen) × (c ≡ front ++ last ∷ []) × Atop a front × (last.piece ≡ x.piece)
split_last [] x c (y, rest, e, q, l, h) = ([], y, e ∙ ap (λ (z : List Seen). y ∷ z) h, refl, q)
split_last (s ∷ a) x c (y, rest, e, q, l, h) = behind (split_last a x rest h)
  where
    behind : ((front : List Seen) × (last : Seen) × (rest ≡ front ++ last ∷ []) × Atop a front × (last.piece ≡ x.piece)) → (front : List Seen) × (last : Seen) × (c ≡ front ++ last ∷ []) × Atop (s ∷ a) front × (last.piece ≡ x.piece)
    behind (front, last, i, j, k) = (y ∷ front, last, e ∙ ap (λ (z : List Seen). y ∷ z) i, (y, front, refl, q, l, j), k)

pub below_split : (most : ℕ) (a b : List Seen) → AllBelow most (a ++ b) → AllBelow most a × AllBelow most b
below_split most [] b h = (tt, h)
below_split most (s ∷ a) b h = let r : AllBelow most a × AllBelow most b = below_split most a b h.1 in ((h.0, r.0), r.1)

counted_step : (s : State) (ss : List Seen) (q : Piece) (qs : List Piece) (n : State) (forms : List Form) → take s q ≡ Ok n → (t : Took (raises s.at q) (level s) ss q (spelled n) (level n)) → Counted n (t.front ++ t.last ∷ []) qs forms → Counted s ss (q ∷ qs) forms
counted_step s ss q qs n forms e t c = from (split_last t.front t.last c.front c.atop)
  where
    same : (front : List Seen) (last : Seen) → c.front ≡ front ++ last ∷ [] → front ≡ t.front
    same front last i = let y : (y : Seen) × (c.front ≡ t.front ++ y ∷ []) = c.near t.front t.last refl in snoc_same front t.front last y.0 (sym i ∙ y.1)

    from : ((front : List Seen) × (last : Seen) × (c.front ≡ front ++ last ∷ []) × Atop t.front front × (last.piece ≡ t.last.piece)) → Counted s ss (q ∷ qs) forms
    from (front, last, i, j, k) = record {
      front = front;
      back = last ∷ c.back;
      atop = over_atop (level n) ss t.front front t.over j;
      near = λ a x h. let y : (y : Seen) × (t.front ≡ a ++ y ∷ []) = t.near a x h in (y.0, same front last i ∙ y.1);
      kept = λ h. same front last i ∙ t.kept h;
      ends = λ h. subst (EndsAt (level s + 1)) (sym (same front last i)) (t.ends h);
      are = ap (λ (z : Piece). z ∷ pieces c.back) (k ∙ t.is) ∙ ap (λ (z : List Piece). q ∷ z) c.are;
      matches = subst (Matches forms) (ap (λ (z : List Seen). z ++ c.back) i ∙ append_assoc front (last ∷ []) c.back) c.matches;
      above = λ m h.
          let is : n ≡ m = same_state s q n m e (subst (λ (z : Piece). take s z ≡ Ok m) (k ∙ t.is) h) in
          subst (λ (z : State). Reaches (level z) (front ++ last ∷ []) × Above z (front ++ last ∷ []) c.back) is
          (subst (Reaches (level n)) i (atop_reaches (level n) (t.front ++ t.last ∷ []) c.front c.atop t.above), subst (λ (z : List Seen). Above n z c.back) i c.above);
      below = λ most u v w.
          let low : (level n ≤ most) × Low most n qs = w n e in
          let all : AllBelow most t.front = over_below most (level n) ss t.front low.0 t.over v in
          let b : AllBelow most c.front × AllBelow most c.back = c.below most low.0 (below_append most t.front (t.last ∷ []) all (t.below most all u low.0, tt)) low.1 in
          let parts : AllBelow most front × AllBelow most (last ∷ []) = below_split most front (last ∷ []) (subst (AllBelow most) i b.0) in
          (parts.0, (parts.1.0, b.1));
    }

run_taken : (s : State) (ss : List Seen) (q : Piece) (qs : List Piece) (x : Step) → take s q ≡ x → Takes (raises s.at q) (level s) (spelled s) q x → Matches (spelled s) ss
    → ((n : State) (ts : List Seen) → Matches (spelled n) ts → RunCounted n ts qs (run n qs)) → RunCounted s ss (q ∷ qs) (taken x (λ n. run n qs))
run_taken s ss q qs (Err k) e g h go = tt
run_taken s ss q qs (Ok n) e g h go = behind (run n qs) (go n (t.front ++ t.last ∷ []) t.matches)
  where
    t : Took (raises s.at q) (level s) ss q (spelled n) (level n)
    t = g ss h

    behind : (x : Step) → RunCounted n (t.front ++ t.last ∷ []) qs x → RunCounted s ss (q ∷ qs) x
    behind (Ok m) c = counted_step s ss q qs n (spelled m) e t c
    behind (Err k) c = tt

run_counted : (qs : List Piece) (s : State) (ss : List Seen) → Matches (spelled s) ss → RunCounted s ss qs (run s qs)
run_counted [] s ss h = record {
  front = ss;
  back = [];
  atop = atop_same ss;
  near = λ i x e. (x, e);
  kept = λ e. refl;
  ends = λ e. absurd (false≢true e);
  are = refl;
  matches = subst (Matches (spelled s)) (sym (append-nil ss)) h;
  above = tt;
  below = λ most u v w. (v, tt);
}
run_counted (q ∷ qs) s ss h = run_taken s ss q qs (take s q) refl (piece_takes s q) h (λ n ts k. run_counted qs n ts k)

-- The state that a run reaches spells what was read, with counts that no state behind the pieces so far is above.
pub run_counts : (s n : State) (ss : List Seen) (qs : List Piece) → Matches (spelled s) ss → run s qs ≡ Ok n → Counted s ss qs (spelled n)
run_counts s n ss qs h e = let c : RunCounted s ss qs (Ok n) = subst (RunCounted s ss qs) e (run_counted qs s ss h) in c

-- ---- the end

abbrev Finishes : List Form → Step → Type 0
Finishes a (Ok n) = Covers a (whole_items n.outer.items)
Finishes a (Err k) = Unit {0}

shallow_finishes : (a : List Form) (most : ℕ) (x : Step) → Finishes a x → Finishes a (if_shallow most x)
shallow_finishes a most (Ok n) h = either (is_shallow most n)
  where
    either : (b : Bool) → Finishes a (cond b (Ok n) (Err refusal.Nesting))
    either true = h
    either false = tt
shallow_finishes a most (Err k) h = tt

end_finishes : (a : List Form) (o : Outer) (fs : List Open) → Covers a (whole_items o.items ++ waits fs) → Finishes a (end_script (framed o fs))
end_finishes a o [] c = covers_trans a _ _ c (covers_same _ _ (append-nil (whole_items o.items)))
end_finishes a o (f ∷ fs) c = tt

behind_finishes : (m : ℕ) (a : List Form) (x : Step) → Settles m a x → Finishes a (statement_behind x end_token)
behind_finishes m a (Ok n) c = end_finishes a n.outer n.outer.frames (covers_trans a _ _ c.0 (between_covers n.outer.items n.outer.frames))
behind_finishes m a (Err k) c = tt

resumed_finishes : (a : List Form) (o : Outer) (s : Stmt) → is_empty s ≡ false → is_block s ≡ false → a ≡ inside o (stmt_at (here o) s) → Finishes a (statement_behind (settle o s) end_token)
resumed_finishes a o s e b h = subst (λ (z : List Form). Finishes z (statement_behind (settle o s) end_token)) (sym (h ∙ ap (inside o) (sym (placed_other o.frames s b)))) (behind_finishes (here o) _ (settle o s) (settle_full o s e))

export_covers : (is : List Item) (fs : List Open) → Covers (behind_export is fs) (whole_items is ++ waits fs)
export_covers is [] = either (ends_with_export is)
  where
    either : (b : Bool) → Covers (cond b (items_with [] is) unread) (whole_items is ++ [])
    either true = export_items is
    either false = covers_none [] _
export_covers is (f ∷ fs) = covers_none [] _

at_finishes : (o : Outer) (a : At) → Finishes (spelled_at o.items o.frames a) (cond (is_between a) (step no_limit false (record { outer = o; at = a }) end_token) refuse)
at_finishes o at.Statement = shallow_finishes _ no_limit (end_script o) (end_finishes _ o o.frames (between_covers o.items o.frames))
at_finishes o at.AfterExport = shallow_finishes _ no_limit (end_script o) (end_finishes _ o o.frames (export_covers o.items o.frames))
at_finishes o (at.AfterThen test s) = shallow_finishes _ no_limit (statement_behind (settle o (stmt.If test s None)) end_token) (resumed_finishes _ o (stmt.If test s None) (full_if test s None) (other_if test s None) (ap (inside o) (sym (stmt_if (here o) test s))))
at_finishes o (at.AfterCatch ss c) = shallow_finishes _ no_limit (statement_behind (settle o (stmt.Try ss (Some c) None)) end_token) (resumed_finishes _ o (stmt.Try ss (Some c) None) (full_try ss (Some c) None) (other_try ss (Some c) None) (ap (inside o) (catch_forms_end (here o) ss c)))
at_finishes o _ = tt

-- ---- nothing is open round a tree

mark_zero : (m : Mark) → deeper_mark 0 m ≡ m
mark_zero m = ap (λ (c : ℕ). let r : Mark = record { want = m.want; unbroken = m.unbroken; constructs = c } in r) (zero-add m.constructs)

marks_zero : (ms : List Mark) → map (deeper_mark 0) ms ≡ ms
marks_zero [] = refl
marks_zero (m ∷ ms) = ap (λ (z : Mark). z ∷ map (deeper_mark 0) ms) (mark_zero m) ∙ ap (λ (z : List Mark). m ∷ z) (marks_zero ms)

up_zero : (f : Form) → up 0 f ≡ f
up_zero [] = refl
up_zero (ms ∷ f) = ap (λ (z : List Mark). z ∷ up 0 f) (marks_zero ms) ∙ ap (λ (z : Form). ms ∷ z) (up_zero f)

raised_zero : (fs : List Form) → raised 0 fs ≡ fs
unfolding raised
raised_zero [] = refl
raised_zero (f ∷ fs) = ap (λ (z : Form). z ∷ raised 0 fs) (up_zero f) ∙ ap (λ (z : List Form). f ∷ z) (raised_zero fs)

export_raised : (xs : List Property) → raised 0 (of_export xs) ≡ export_forms xs
unfolding raised
export_raised xs = ap (λ (z : List Form). up 0 (reserved r.Export) ∷ up 0 (reserved r.Default) ∷ z) (object_raised 0 xs)

end_raised : (i : Item) (is : List Item) → up 0 (export_end (i ∷ is)) ≡ end_before i
end_raised (item.Stmt s) is = either (is_empty s)
  where
    either : (b : Bool) → up 0 (cond b (just p.Semicolon) (maybe (sign p.Semicolon))) ≡ cond b (up 0 (just p.Semicolon)) (up 0 (maybe (sign p.Semicolon)))
    either true = refl
    either false = refl
end_raised (item.Export xs) is = refl

tree_items : (is : List Item) → raised 0 (of_tree is) ≡ whole_items is
unfolding raised stmt_at
tree_items [] = refl
tree_items (item.Stmt s ∷ is) = raised_append 0 (of_stmt s).forms (of_tree is) ∙ ap (λ (z : List Form). raised 0 (of_stmt s).forms ++ z) (tree_items is)
tree_items (item.Export xs ∷ []) = raised_append 0 (of_export xs) (maybe (sign p.Semicolon) ∷ []) ∙ ap (λ (z : List Form). z ++ up 0 (maybe (sign p.Semicolon)) ∷ []) (export_raised xs)
tree_items (item.Export xs ∷ i ∷ is) =
    raised_append 0 (of_export xs) (export_end (i ∷ is) ∷ of_tree (i ∷ is))
    ∙ ap (λ (z : List Form). z ++ up 0 (export_end (i ∷ is)) ∷ raised 0 (of_tree (i ∷ is))) (export_raised xs)
    ∙ ap (λ (z : Form). export_forms xs ++ z ∷ raised 0 (of_tree (i ∷ is))) (end_raised i is)
    ∙ ap (λ (z : List Form). export_forms xs ++ end_before i ∷ z) (tree_items (i ∷ is))

pub tree_is : (is : List Item) → whole_items is ≡ of_tree is
tree_is is = sym (tree_items is) ∙ raised_zero (of_tree is)

-- What a state that may end has read is written as its tree.
pub finish_matches : (s n : State) (ss : List Seen) → Matches (spelled s) ss → finish s ≡ Ok n → Matches (of_tree n.outer.items) ss
finish_matches s n ss h f =
    let finishes : Finishes (spelled s) (Ok n) = subst (Finishes (spelled s)) f (at_finishes s.outer s.at) in
    subst (λ (z : List Form). Matches z ss) (tree_is n.outer.items) (finishes.covers ss h)

-- The counts of a run that finishes are those of its tree.
pub script_counts : (ps : List Piece) (s n : State) → run start ps ≡ Ok s → finish s ≡ Ok n → Counted start [] ps (of_tree n.outer.items)
script_counts ps s n e f =
    let c : Counted start [] ps (spelled s) = run_counts start s [] ps refl e in
    record {
      front = c.front;
      back = c.back;
      atop = c.atop;
      near = c.near;
      kept = c.kept;
      ends = c.ends;
      are = c.are;
      matches = finish_matches s n (c.front ++ c.back) c.matches f;
      above = c.above;
      below = c.below;
    }
