-- Names in brackets, as parameters and as values, with how many constructs are open.
use Rattle.std.proofs.Common.{◌≡◌, ℕ, ◌+◌, Bool, true, false, cond, List, [], ◌∷◌, ◌++◌, ◌⊎◌, map, refl, sym, ◌∙◌, ap, subst, inl, inr, add-zero}
use Rattle.std.specs.Prelude.{codes}
use Rattle.std.proofs.lemmas.List.{append-nil, map-append}
use Rattle.std.proofs.lemmas.Slice.Eq.{bytes_eq-Decides}
use Rattle.js_lex.specs.declared.token.Punctuator.TheVariants as p
use Rattle.js_lex.specs.declared.token.TokenKind.TheVariants as tok
use Rattle.js_tree.specs.declared.tree.Expr.TheVariants as expr
use Rattle.js_tree.specs.declared.tree.Name.{Name}
use Rattle.js_grammar.specs.Grammar.{name, name_mark, async}
use Rattle.js_parse_core.specs.declared.machine.Cover.{Cover}
use Rattle.js_parse_core.specs.declared.machine.Cover.TheVariants as covers
use Rattle.js_parse_core.specs.Expressions.{as_values, is_async_cover}
use Rattle.js_parse_core.specs.Tokens.{is_async}
use Rattle.js_grammar.specs.Marks.{Seen, Want, Just, At, Mark, Form, IsWanted, AreOf, IsOneOf, Matches, deeper_mark, unbroken, one, just, sign, maybe, first_unbroken}
use Rattle.js_parse_core.proofs.ArrowForms.{loosen, word_of_name}
use Rattle.js_parse_core.proofs.UniqueForms.{Parted, parted}
use Rattle.js_parse_core.proofs.Spelled.{async_name}
use Rattle.js_parse_core.proofs.SpelledLemmas.{Filled, filled_cons}
use Rattle.js_parse_core.proofs.CountedCovers.{matches_append, Covers, covers_same, covers_trans, covers_behind, covers_before, covers_none, covers_wider, Within, within_same, within_trans, within_behind, within_before, within_none}
use Rattle.js_parse_core.proofs.CountedForms.{up, raised, name_at, names_at, listed_at, perhaps_at, arrow_at, bracketed_at, parameters_at, expr_at, access_at, expr_name, expr_call, parameters_raised}
use Rattle.js_parse_core.proofs.CountedSpelled.{cover_front, covered_names}
use Rattle.js_parse_core.proofs.CountedLemmas.{nil_maybe}
use Rattle.js_parse_core.proofs.CountedChains.{plain_name}

-- ---- forms of single marks

gather : (ms : List Mark) (ps : List Seen) → Matches (map one ms) ps → AreOf ms ps
gather [] ps e = e
gather (m ∷ ms) ps (a, b, e, o, h) = gathered o (gather ms b h)
  where
    gathered : IsOneOf (one m) a → AreOf ms b → AreOf (m ∷ ms) ps
    gathered (inl s) k = (s.0, b, e ∙ ap (λ (z : List Seen). z ++ b) s.2 ∙ ap (λ (z : List Seen). s.0 ∷ (z ++ b)) s.4, s.3, k)
    gathered (inr s) k = absurd s

maybe_cases : (c : List Form) (m : Mark) (fs : List Form) (ps : List Seen) → Matches (c ++ maybe m ∷ fs) ps → Matches (c ++ one m ∷ fs) ps ⊎ Matches (c ++ fs) ps
maybe_cases c m fs ps h = cases (parted c (maybe m ∷ fs) ps h)
  where
    either : (r : Parted c (maybe m ∷ fs) ps) → IsOneOf (maybe m) r.is_back.0 → Matches (c ++ one m ∷ fs) ps ⊎ Matches (c ++ fs) ps
    either r (inl s) = inl (subst (Matches (c ++ one m ∷ fs)) (sym r.parts) (matches_append c (one m ∷ fs) r.front r.back r.is_front (r.is_back.0, r.is_back.1, r.is_back.2, inl s, r.is_back.4)))
    either r (inr (inl s)) = inr (subst (Matches (c ++ fs)) (sym (r.parts ∙ ap (λ (z : List Seen). r.front ++ z) (r.is_back.2 ∙ ap (λ (z : List Seen). z ++ r.is_back.1) s))) (matches_append c fs r.front r.is_back.1 r.is_front r.is_back.4))
    either r (inr (inr s)) = absurd s

    cases : Parted c (maybe m ∷ fs) ps → Matches (c ++ one m ∷ fs) ps ⊎ Matches (c ++ fs) ps
    cases r = either r r.is_back.3

matches_one : (f : Form) (ps : List Seen) → IsOneOf f ps → Matches (f ∷ []) ps
matches_one f ps o = (ps, [], sym (append-nil ps), o, refl)

pub within_wider : (f g : Form) (fs : List Form) → ((ps : List Seen) → IsOneOf f ps → IsOneOf g ps) → ((ps : List Seen) → IsOneOf (map first_unbroken f) ps → IsOneOf (map first_unbroken g) ps) → Within (f ∷ fs) (g ∷ fs)
within_wider f g fs h k = record { all = covers_wider f g fs h; on_line = covers_wider _ _ fs k }

pub within_append : (a b c : List Form) → Filled a → Filled b → Within a b → Within (a ++ c) (b ++ c)
within_append a b c s u w =
    within_trans _ ((s.first ∷ s.others) ++ c) _ (within_same _ _ (ap (λ (z : List Form). z ++ c) s.is))
    (within_trans _ ((u.first ∷ u.others) ++ c) _ (within_before s.first u.first s.others u.others c (within_trans _ a _ (within_same _ _ (sym s.is)) (within_trans _ b _ w (within_same _ _ u.is))))
    (within_same _ _ (ap (λ (z : List Form). z ++ c) (sym u.is))))

-- a token that stands on its line may stand anywhere
loosen_one : (m : Mark) (ps : List Seen) → m.unbroken ≡ false → IsOneOf (one (unbroken m)) ps → IsOneOf (one m) ps
loosen_one m ps e (inl s) = inl (s.0, s.1, s.2, record { wanted = subst (λ (b : Bool). IsWanted m.want b s.0.piece) (sym e) (loosen m.want s.0.piece s.3.wanted); constructs = s.3.constructs }, s.4)
loosen_one m ps e (inr s) = absurd s

pub loose_covers : (m : Mark) (fs : List Form) → m.unbroken ≡ false → Covers (one (unbroken m) ∷ fs) (one m ∷ fs)
loose_covers m fs e = covers_wider (one (unbroken m)) (one m) fs (λ ps o. loosen_one m ps e o)

-- ---- the name `async`

abbrev wanted_mark : ℕ → Bool → Want → Mark
wanted_mark n u w = record { want = w; unbroken = u; constructs = n + 0 }

renamed : (n : ℕ) (m : Name) (u : Bool) → m.units ≡ codes "async" → (ps : List Seen) → IsOneOf (one (wanted_mark n u (At m.place (tok.Name m.units)))) ps → IsOneOf (one (wanted_mark n u (Just (tok.Name (codes "async"))))) ps
renamed n m u e ps (inl s) = inl (s.0, s.1, s.2, record { wanted = word_of_name m u e s.0.piece s.3.wanted; constructs = s.3.constructs }, s.4)
renamed n m u e ps (inr s) = absurd s

async_either : (n : ℕ) (m : Name) (fs : List Form) (g : Form) (b : Bool) → is_async m.units ≡ b → (m.units ≡ codes "async" → Within (up n (name m) ∷ fs) (g ∷ fs)) → Within (up n (cond b (name m) []) ∷ fs) (g ∷ fs)
async_either n m fs g true e h = h ((bytes_eq-Decides m.units (codes "async")).0 e)
async_either n m fs g false e h = within_none fs (g ∷ fs)

pub async_name_within : (n : ℕ) (m : Name) (fs : List Form) → Within (up n (async_name m) ∷ fs) (up n (name m) ∷ fs)
async_name_within n m fs = async_either n m fs (up n (name m)) (is_async m.units) refl (λ e. within_same _ _ refl)

pub async_word_within : (n : ℕ) (m : Name) (fs : List Form) → Within (up n (async_name m) ∷ fs) (up n async ∷ fs)
async_word_within n m fs =
    async_either n m fs (up n async) (is_async m.units) refl
    (λ e. within_wider (up n (name m)) (up n async) fs (λ ps o. renamed n m false e ps o) (λ ps o. renamed n m true e ps o))

-- ---- parameters of arrows

abbrev bracket_mark : ℕ → Want → Mark
bracket_mark c w = record { want = w; unbroken = false; constructs = c }

-- one name, which may stand without brackets; and these, and a comma
abbrev one_parameter : Mark → Mark → ℕ → Name → Form
one_parameter m a c x =
    (m ∷ [])
    ∷ (a ∷ bracket_mark c (At x.place (tok.Name x.units)) ∷ bracket_mark c (Just (tok.Punctuator p.CloseParen)) ∷ [])
    ∷ (a ∷ bracket_mark c (At x.place (tok.Name x.units)) ∷ bracket_mark c (Just (tok.Punctuator p.Comma)) ∷ bracket_mark c (Just (tok.Punctuator p.CloseParen)) ∷ [])
    ∷ []

abbrev open_mark : ℕ → Mark
open_mark c = bracket_mark c (Just (tok.Punctuator p.OpenParen))

one_bracketed : (m a : Mark) (n : ℕ) (x : Name) → Covers (one a ∷ up n (name x) ∷ up n (just p.CloseParen) ∷ []) (one_parameter m a (n + 0) x ∷ [])
one_bracketed m a n x = record { covers = λ ps h. matches_one (one_parameter m a (n + 0) x) ps (inr (inl (gather (a ∷ deeper_mark n (name_mark x) ∷ deeper_mark n (sign p.CloseParen) ∷ []) ps h))) }

one_listed : (m a : Mark) (n : ℕ) (x : Name) → Covers (one a ∷ up n (name x) ∷ up n (maybe (sign p.Comma)) ∷ up n (just p.CloseParen) ∷ []) (one_parameter m a (n + 0) x ∷ [])
one_listed m a n x = record {
  covers = λ ps h. elim (maybe_cases (one a ∷ up n (name x) ∷ []) (deeper_mark n (sign p.Comma)) (up n (just p.CloseParen) ∷ []) ps h) [
    | inl k ↦ matches_one (one_parameter m a (n + 0) x) ps (inr (inr (inl (gather (a ∷ deeper_mark n (name_mark x) ∷ deeper_mark n (sign p.Comma) ∷ deeper_mark n (sign p.CloseParen) ∷ []) ps k))))
    | inr k ↦ matches_one (one_parameter m a (n + 0) x) ps (inr (inl (gather (a ∷ deeper_mark n (name_mark x) ∷ deeper_mark n (sign p.CloseParen) ∷ []) ps k)))
  ];
}

one_name : (n : ℕ) (x : Name) → arrow_at n (x ∷ []) ≡ one_parameter (deeper_mark n (name_mark x)) (open_mark (n + 1 + 0)) (n + 1 + 0) x ∷ []
unfolding raised
one_name n x = ap (λ (c : ℕ). one_parameter (deeper_mark n (name_mark x)) (open_mark c) c x ∷ []) (sym (add-zero (n + 1)))

-- a name without brackets
pub bare_parameter : (n : ℕ) (x : Name) (fs : List Form) → Within (up n (name x) ∷ fs) (arrow_at n (x ∷ []) ++ fs)
bare_parameter n x fs =
    within_trans _ (one_parameter (deeper_mark n (name_mark x)) (open_mark (n + 1 + 0)) (n + 1 + 0) x ∷ fs) _
    (within_wider (up n (name x)) (one_parameter (deeper_mark n (name_mark x)) (open_mark (n + 1 + 0)) (n + 1 + 0) x) fs (λ ps o. elim o [ inl a ↦ inl a | inr b ↦ absurd b ]) (λ ps o. elim o [ inl a ↦ inl a | inr b ↦ absurd b ]))
    (within_same _ _ (ap (λ (z : List Form). z ++ fs) (sym (one_name n x))))

-- brackets round names
pub brackets_within : (n : ℕ) (ns : List Name) (b : Bool) → Within (up (n + 1) (just p.OpenParen) ∷ (covered_names (n + 1) ns b ++ up (n + 1) (just p.CloseParen) ∷ [])) (arrow_at n ns)
brackets_within n [] true = within_trans _ (parameters_at (n + 1) []) _ (within_behind (up (n + 1) (just p.OpenParen)) _ _ (covers_none _ _)) (within_same _ _ (sym (parameters_raised n [])))
brackets_within n [] false = within_same _ _ (sym (parameters_raised n []))
brackets_within n (x ∷ []) true =
    within_trans _ (one_parameter (deeper_mark n (name_mark x)) (open_mark (n + 1 + 0)) (n + 1 + 0) x ∷ []) _
    (record { all = one_bracketed (deeper_mark n (name_mark x)) (open_mark (n + 1 + 0)) (n + 1) x; on_line = one_bracketed (unbroken (deeper_mark n (name_mark x))) (unbroken (open_mark (n + 1 + 0))) (n + 1) x })
    (within_same _ _ (sym (one_name n x)))
brackets_within n (x ∷ []) false =
    within_trans _ (one_parameter (deeper_mark n (name_mark x)) (open_mark (n + 1 + 0)) (n + 1 + 0) x ∷ []) _
    (record { all = one_listed (deeper_mark n (name_mark x)) (open_mark (n + 1 + 0)) (n + 1) x; on_line = one_listed (unbroken (deeper_mark n (name_mark x))) (unbroken (open_mark (n + 1 + 0))) (n + 1) x })
    (within_same _ _ (sym (one_name n x)))
brackets_within n (x ∷ y ∷ ns) true = within_trans _ (parameters_at (n + 1) (x ∷ y ∷ ns)) _ (within_behind (up (n + 1) (just p.OpenParen)) _ _ (covers_none _ _)) (within_same _ _ (sym (parameters_raised n (x ∷ y ∷ ns))))
brackets_within n (x ∷ y ∷ ns) false = within_same _ _ (sym (parameters_raised n (x ∷ y ∷ ns)))

pub filled_cover : (n : ℕ) (c : Cover) → Filled (cover_front n c)
filled_cover n covers.Plain = filled_cons _ _
filled_cover n (covers.Async m) = filled_cons _ _

-- .. as the parameters of an arrow
pub cover_parameters : (n : ℕ) (c : Cover) (ns : List Name) (b : Bool) → Within (cover_front n c ++ (covered_names (n + 1) ns b ++ up (n + 1) (just p.CloseParen) ∷ [])) (perhaps_at n (is_async_cover c) (arrow_at n ns))
cover_parameters n covers.Plain ns b = brackets_within n ns b
cover_parameters n (covers.Async m) ns b =
    within_trans _ (up n async ∷ up (n + 1) (one (unbroken (sign p.OpenParen))) ∷ (covered_names (n + 1) ns b ++ up (n + 1) (just p.CloseParen) ∷ [])) _ (async_word_within n m _)
    (within_behind (up n async) _ _ (brackets_within n ns b).on_line)

covered_listed : (m : ℕ) (ns : List Name) (b : Bool) → Covers (covered_names m ns b) (listed_at m (names_at m ns))
covered_listed m ns false = covers_same _ _ refl
covered_listed m [] true = covers_none _ _
covered_listed m (x ∷ []) true = nil_maybe m (name_at m x) (sign p.Comma)
covered_listed m (x ∷ y ∷ ns) true = covers_none _ _

pub as_values_at : (m : ℕ) (ns : List Name) → map (expr_at m) (as_values ns) ≡ names_at m ns
as_values_at m [] = refl
as_values_at m (x ∷ ns) = ap (λ (z : List Form). z ∷ map (expr_at m) (as_values ns)) (expr_name m x) ∙ ap (λ (z : List (List Form)). name_at m x ∷ z) (as_values_at m ns)

-- the access behind a name
pub access_name : (n : ℕ) (x : Name) → access_at n (expr.Name x) ≡ n + 1
access_name n x = ap (λ (k : ℕ). (n + k) + 1) (plain_name x) ∙ ap (λ (k : ℕ). k + 1) (add-zero n)

-- `async` and `(` on its line, as a call
pub async_call : (n : ℕ) (m : Name) (a b : List Form) → Covers a b → Within (up n (async_name m) ∷ up (n + 1) (one (unbroken (sign p.OpenParen))) ∷ a) (expr_at n (expr.Name m) ++ up (n + 1) (just p.OpenParen) ∷ b)
async_call n m a b c =
    within_trans _ (up n (name m) ∷ up (n + 1) (one (unbroken (sign p.OpenParen))) ∷ a) _ (async_name_within n m _)
    (within_trans _ (up n (name m) ∷ up (n + 1) (just p.OpenParen) ∷ b) _
    (within_behind (up n (name m)) _ _ (covers_trans _ (up (n + 1) (just p.OpenParen) ∷ a) _ (loose_covers (deeper_mark (n + 1) (sign p.OpenParen)) a refl) (covers_behind (up (n + 1) (just p.OpenParen) ∷ []) a b c)))
    (within_same _ _ (ap (λ (z : List Form). z ++ up (n + 1) (just p.OpenParen) ∷ b) (sym (expr_name n m)))))

pub async_arguments : (n : ℕ) (m : Name) (ns : List Name) (b : Bool) → Within (cover_front n (covers.Async m) ++ (covered_names (n + 1) ns b ++ up (n + 1) (just p.CloseParen) ∷ [])) (expr_at n (expr.Call (expr.Name m) (as_values ns)))
async_arguments n m ns b =
    within_trans _ (expr_at n (expr.Name m) ++ bracketed_at (n + 1) (listed_at (n + 1) (names_at (n + 1) ns))) _
    (async_call n m _ (listed_at (n + 1) (names_at (n + 1) ns) ++ up (n + 1) (just p.CloseParen) ∷ []) (covers_before _ _ (up (n + 1) (just p.CloseParen) ∷ []) (covered_listed (n + 1) ns b)))
    (within_same _ _
    (ap (λ (z : List (List Form)). expr_at n (expr.Name m) ++ bracketed_at (n + 1) (listed_at (n + 1) z)) (sym (as_values_at (n + 1) ns))
    ∙ ap (λ (k : ℕ). expr_at n (expr.Name m) ++ bracketed_at k (listed_at k (map (expr_at k) (as_values ns)))) (sym (access_name n m))
    ∙ sym (expr_call n (expr.Name m) (as_values ns))))

pub names_push : (m : ℕ) (ns : List Name) (x : Name) → names_at m ns ++ name_at m x ∷ [] ≡ names_at m (ns ++ x ∷ [])
names_push m ns x = sym (map-append (name_at m) ns (x ∷ []))
