-- Names in brackets, as parameters and as values.
use Rattle.std.proofs.Common.{◌≡◌, Bool, true, false, cond, List, [], ◌∷◌, ◌++◌, ◌⊎◌, map, refl, sym, ◌∙◌, ap, subst, inl, inr}
use Rattle.std.specs.Prelude.{codes}
use Rattle.std.proofs.lemmas.List.{append-nil, map-append}
use Rattle.std.proofs.lemmas.Slice.Eq.{bytes_eq-Decides}
use Rattle.js_lex.specs.declared.token.Punctuator.TheVariants as p
use Rattle.js_lex.specs.declared.token.TokenKind.TheVariants as tok
use Rattle.js_tree.specs.declared.tree.Expr.TheVariants as expr
use Rattle.js_tree.specs.declared.tree.Name.{Name}
use Rattle.js_grammar.specs.Marks.{Piece, Read, Ended, Want, Just, At, Auto, Mark, Form, IsWanted, unbroken, one, just, sign, maybe, first_unbroken, listed}
use Rattle.js_grammar.specs.Grammar.{name, name_mark, name_forms, async, perhaps_async}
use Rattle.js_parse_core.specs.declared.machine.Cover.{Cover}
use Rattle.js_parse_core.specs.declared.machine.Cover.TheVariants as covers
use Rattle.js_parse_core.specs.Expressions.{as_values, is_async_cover}
use Rattle.js_parse_core.specs.Tokens.{is_async}
use Rattle.js_parse_core.proofs.Pieces.{Spells, SpellsOne, Fits}
use Rattle.js_parse_core.proofs.PieceLemmas.{Split, fits_split, fits_append}
use Rattle.js_parse_core.proofs.Covers.{Covers, covers_same, covers_trans, covers_behind, covers_before, covers_none, covers_wider, Within, within_same, within_trans, within_behind, within_before}
use Rattle.js_parse_core.proofs.Bare.{bare, bracketed, arrow_names, expr_forms, expr_name, expr_call, parameters_bare}
use Rattle.js_parse_core.proofs.Spelled.{names_forms, async_name, cover_front, covered_names}
use Rattle.js_parse_core.proofs.SpelledLemmas.{Filled, filled_cons, nil_maybe}

-- ---- forms of single marks

gather : (ms : List Mark) (ps : List Piece) → Fits (map one ms) ps → Spells ms ps
gather [] ps e = e
gather (m ∷ ms) ps (a, b, e, o, h) = gathered o (gather ms b h)
  where
    gathered : SpellsOne (one m) a → Spells ms b → Spells (m ∷ ms) ps
    gathered (inl s) k = (s.0, b, e ∙ ap (λ (z : List Piece). z ++ b) s.2 ∙ ap (λ (z : List Piece). s.0 ∷ (z ++ b)) s.4, s.3, k)
    gathered (inr s) k = absurd s

maybe_cases : (c : List Form) (m : Mark) (fs : List Form) (ps : List Piece) → Fits (c ++ maybe m ∷ fs) ps → Fits (c ++ one m ∷ fs) ps ⊎ Fits (c ++ fs) ps
maybe_cases c m fs ps h = cases (fits_split c (maybe m ∷ fs) ps h)
  where
    either : (r : Split c (maybe m ∷ fs) ps) → SpellsOne (maybe m) r.fits_back.0 → Fits (c ++ one m ∷ fs) ps ⊎ Fits (c ++ fs) ps
    either r (inl s) = inl (subst (Fits (c ++ one m ∷ fs)) (sym r.parts) (fits_append c (one m ∷ fs) r.front r.back r.fits_front (r.fits_back.0, r.fits_back.1, r.fits_back.2, inl s, r.fits_back.4)))
    either r (inr (inl s)) = inr (subst (Fits (c ++ fs)) (sym (r.parts ∙ ap (λ (z : List Piece). r.front ++ z) (r.fits_back.2 ∙ ap (λ (z : List Piece). z ++ r.fits_back.1) s))) (fits_append c fs r.front r.fits_back.1 r.fits_front r.fits_back.4))
    either r (inr (inr s)) = absurd s

    cases : Split c (maybe m ∷ fs) ps → Fits (c ++ one m ∷ fs) ps ⊎ Fits (c ++ fs) ps
    cases r = either r r.fits_back.3

fits_one : (f : Form) (ps : List Piece) → SpellsOne f ps → Fits (f ∷ []) ps
fits_one f ps o = (ps, [], sym (append-nil ps), o, refl)

within_wider : (f g : Form) (fs : List Form) → ((ps : List Piece) → SpellsOne f ps → SpellsOne g ps) → ((ps : List Piece) → SpellsOne (map first_unbroken f) ps → SpellsOne (map first_unbroken g) ps) → Within (f ∷ fs) (g ∷ fs)
within_wider f g fs h k = record { all = covers_wider f g fs h; on_line = covers_wider _ _ fs k }

pub within_append : (a b c : List Form) → Filled a → Filled b → Within a b → Within (a ++ c) (b ++ c)
within_append a b c s u w =
    within_trans _ ((s.first ∷ s.others) ++ c) _ (within_same _ _ (ap (λ (z : List Form). z ++ c) s.is))
    (within_trans _ ((u.first ∷ u.others) ++ c) _ (within_before s.first u.first s.others u.others c (within_trans _ a _ (within_same _ _ (sym s.is)) (within_trans _ b _ w (within_same _ _ u.is))))
    (within_same _ _ (ap (λ (z : List Form). z ++ c) (sym u.is))))

-- a token that stands on its line may stand anywhere
pub loosen : (w : Want) (q : Piece) → IsWanted w true q → IsWanted w false q
loosen (Just k) (Read t) h = (h.0, tt)
loosen (Just k) Ended h = h
loosen (At n k) (Read t) h = (h.0, h.1, tt)
loosen (At n k) Ended h = h
loosen Auto (Read t) h = h
loosen Auto Ended h = h

loosen_one : (m : Mark) (ps : List Piece) → m.unbroken ≡ false → SpellsOne (one (unbroken m)) ps → SpellsOne (one m) ps
loosen_one m ps e (inl s) = inl (s.0, s.1, s.2, subst (λ (b : Bool). IsWanted m.want b s.0) (sym e) (loosen m.want s.0 s.3), s.4)
loosen_one m ps e (inr s) = absurd s

pub loose_covers : (m : Mark) (fs : List Form) → m.unbroken ≡ false → Covers (one (unbroken m) ∷ fs) (one m ∷ fs)
loose_covers m fs e = covers_wider (one (unbroken m)) (one m) fs (λ ps o. loosen_one m ps e o)

-- ---- the name `async`

abbrev AsyncWider : Name → Form → Type 0
AsyncWider n f = (ps : List Piece) → SpellsOne (async_name n) ps → SpellsOne f ps

line_name : (n : Name) → Form
line_name n = one (unbroken (name_mark n))

async_cases : (n : Name) (b : Bool) (g f : Form) → is_async n.units ≡ b → (n.units ≡ codes "async" → (ps : List Piece) → SpellsOne g ps → SpellsOne f ps) → (ps : List Piece) → SpellsOne (cond b g []) ps → SpellsOne f ps
async_cases n true g f e h ps o = h ((bytes_eq-Decides n.units (codes "async")).0 e) ps o
async_cases n false g f e h ps o = absurd o

async_line : (b : Bool) (g : Form) → map first_unbroken (cond b g []) ≡ cond b (map first_unbroken g) []
async_line true g = refl
async_line false g = refl

pub word_of_name : (n : Name) (u : Bool) → n.units ≡ codes "async" → (q : Piece) → IsWanted (At n.place (tok.Name n.units)) u q → IsWanted (Just (tok.Name (codes "async"))) u q
word_of_name n u e (Read t) h = (h.0 ∙ ap tok.Name e, h.2)
word_of_name n u e Ended h = h

pub async_name_within : (n : Name) (fs : List Form) → Within (async_name n ∷ fs) (name n ∷ fs)
async_name_within n fs =
    within_wider (async_name n) (name n) fs (async_cases n (is_async n.units) (name n) (name n) refl (λ e ps o. o))
    (λ ps o. async_cases n (is_async n.units) (map first_unbroken (name n)) (map first_unbroken (name n)) refl (λ e qs k. k) ps (subst (λ (z : Form). SpellsOne z ps) (async_line (is_async n.units) (name n)) o))

pub async_word_within : (n : Name) (fs : List Form) → Within (async_name n ∷ fs) (async ∷ fs)
async_word_within n fs =
    within_wider (async_name n) async fs (async_cases n (is_async n.units) (name n) async refl (λ e ps o. renamed false e ps o))
    (λ ps o. async_cases n (is_async n.units) (map first_unbroken (name n)) (map first_unbroken async) refl (λ e qs k. renamed true e qs k) ps (subst (λ (z : Form). SpellsOne z ps) (async_line (is_async n.units) (name n)) o))
  where
    renamed : (u : Bool) → n.units ≡ codes "async" → (ps : List Piece)
        → SpellsOne (one (record { want = At n.place (tok.Name n.units); unbroken = u; constructs = 0 })) ps → SpellsOne (one (record { want = Just (tok.Name (codes "async")); unbroken = u; constructs = 0 })) ps
    renamed u e ps (inl s) = inl (s.0, s.1, s.2, word_of_name n u e s.0 s.3, s.4)
    renamed u e ps (inr s) = absurd s

-- ---- parameters of arrows

-- one name, which may stand without brackets; and these, and a comma
abbrev one_parameter : Mark → Mark → Name → Form
one_parameter m a n =
    (m ∷ [])
    ∷ (a ∷ name_mark n ∷ sign p.CloseParen ∷ [])
    ∷ (a ∷ name_mark n ∷ sign p.Comma ∷ sign p.CloseParen ∷ [])
    ∷ []

one_bracketed : (m a : Mark) (n : Name) → Covers (one a ∷ name n ∷ just p.CloseParen ∷ []) (one_parameter m a n ∷ [])
one_bracketed m a n = record { covers = λ ps h. fits_one (one_parameter m a n) ps (inr (inl (gather (a ∷ name_mark n ∷ sign p.CloseParen ∷ []) ps h))) }

one_listed : (m a : Mark) (n : Name) → Covers (one a ∷ name n ∷ maybe (sign p.Comma) ∷ just p.CloseParen ∷ []) (one_parameter m a n ∷ [])
one_listed m a n = record {
  covers = λ ps h. elim (maybe_cases (one a ∷ name n ∷ []) (sign p.Comma) (just p.CloseParen ∷ []) ps h) [
    | inl k ↦ fits_one (one_parameter m a n) ps (inr (inr (inl (gather (a ∷ name_mark n ∷ sign p.Comma ∷ sign p.CloseParen ∷ []) ps k))))
    | inr k ↦ fits_one (one_parameter m a n) ps (inr (inl (gather (a ∷ name_mark n ∷ sign p.CloseParen ∷ []) ps k)))
  ];
}

one_name : (n : Name) → arrow_names (n ∷ []) ≡ one_parameter (name_mark n) (sign p.OpenParen) n ∷ []
unfolding bare
one_name n = refl

-- a name without brackets
pub bare_parameter : (n : Name) (fs : List Form) → Within (name n ∷ fs) (arrow_names (n ∷ []) ++ fs)
bare_parameter n fs =
    within_trans _ (one_parameter (name_mark n) (sign p.OpenParen) n ∷ fs) _
    (within_wider (name n) (one_parameter (name_mark n) (sign p.OpenParen) n) fs (λ ps o. elim o [ inl a ↦ inl a | inr b ↦ absurd b ]) (λ ps o. elim o [ inl a ↦ inl a | inr b ↦ absurd b ]))
    (within_same _ _ (ap (λ (z : List Form). z ++ fs) (sym (one_name n))))

-- brackets round names
pub brackets_within : (ns : List Name) (b : Bool) → Within (just p.OpenParen ∷ (covered_names ns b ++ just p.CloseParen ∷ [])) (arrow_names ns)
brackets_within [] true = within_trans _ (bracketed (listed (names_forms []))) _ (within_behind (just p.OpenParen) _ _ (covers_none _ _)) (within_same _ _ (sym (parameters_bare [])))
brackets_within [] false = within_same _ _ (sym (parameters_bare []))
brackets_within (n ∷ []) true =
    within_trans _ (one_parameter (name_mark n) (sign p.OpenParen) n ∷ []) _
    (record { all = one_bracketed (name_mark n) (sign p.OpenParen) n; on_line = one_bracketed (unbroken (name_mark n)) (unbroken (sign p.OpenParen)) n })
    (within_same _ _ (sym (one_name n)))
brackets_within (n ∷ []) false =
    within_trans _ (one_parameter (name_mark n) (sign p.OpenParen) n ∷ []) _
    (record { all = one_listed (name_mark n) (sign p.OpenParen) n; on_line = one_listed (unbroken (name_mark n)) (unbroken (sign p.OpenParen)) n })
    (within_same _ _ (sym (one_name n)))
brackets_within (n ∷ m ∷ ns) true = within_trans _ (bracketed (listed (names_forms (n ∷ m ∷ ns)))) _ (within_behind (just p.OpenParen) _ _ (covers_none _ _)) (within_same _ _ (sym (parameters_bare (n ∷ m ∷ ns))))
brackets_within (n ∷ m ∷ ns) false = within_same _ _ (sym (parameters_bare (n ∷ m ∷ ns)))

pub filled_cover : (c : Cover) → Filled (cover_front c)
filled_cover covers.Plain = filled_cons _ _
filled_cover (covers.Async n) = filled_cons _ _

-- .. as the parameters of an arrow
pub cover_parameters : (c : Cover) (ns : List Name) (b : Bool) → Within (cover_front c ++ (covered_names ns b ++ just p.CloseParen ∷ [])) (perhaps_async (is_async_cover c) (arrow_names ns))
cover_parameters covers.Plain ns b = brackets_within ns b
cover_parameters (covers.Async m) ns b =
    within_trans _ (async ∷ one (unbroken (sign p.OpenParen)) ∷ (covered_names ns b ++ just p.CloseParen ∷ [])) _ (async_word_within m _)
    (within_behind async _ _ (brackets_within ns b).on_line)

covered_listed : (ns : List Name) (b : Bool) → Covers (covered_names ns b) (listed (names_forms ns))
covered_listed ns false = covers_same _ _ refl
covered_listed [] true = covers_none _ _
covered_listed (n ∷ []) true = nil_maybe (name n ∷ []) (sign p.Comma)
covered_listed (n ∷ m ∷ ns) true = covers_none _ _

pub as_values_forms : (ns : List Name) → map expr_forms (as_values ns) ≡ names_forms ns
as_values_forms [] = refl
as_values_forms (n ∷ ns) = ap (λ (z : List Form). z ∷ map expr_forms (as_values ns)) (expr_name n) ∙ ap (λ (z : List (List Form)). name_forms n ∷ z) (as_values_forms ns)

-- `async` and `(` on its line, as a call
pub async_call : (m : Name) (a b : List Form) → Covers a b → Within (async_name m ∷ one (unbroken (sign p.OpenParen)) ∷ a) (expr_forms (expr.Name m) ++ just p.OpenParen ∷ b)
async_call m a b c =
    within_trans _ (name m ∷ one (unbroken (sign p.OpenParen)) ∷ a) _ (async_name_within m _)
    (within_trans _ (name m ∷ just p.OpenParen ∷ b) _
    (within_behind (name m) _ _ (covers_trans _ (just p.OpenParen ∷ a) _ (loose_covers (sign p.OpenParen) a refl) (covers_behind (just p.OpenParen ∷ []) a b c)))
    (within_same _ _ (ap (λ (z : List Form). z ++ just p.OpenParen ∷ b) (sym (expr_name m)))))

pub async_arguments : (m : Name) (ns : List Name) (b : Bool) → Within (cover_front (covers.Async m) ++ (covered_names ns b ++ just p.CloseParen ∷ [])) (expr_forms (expr.Call (expr.Name m) (as_values ns)))
async_arguments m ns b =
    within_trans _ (expr_forms (expr.Name m) ++ bracketed (listed (names_forms ns))) _ (async_call m _ (listed (names_forms ns) ++ just p.CloseParen ∷ []) (covers_before _ _ (just p.CloseParen ∷ []) (covered_listed ns b)))
    (within_same _ _ (ap (λ (z : List (List Form)). expr_forms (expr.Name m) ++ bracketed (listed z)) (sym (as_values_forms ns)) ∙ sym (expr_call (expr.Name m) (as_values ns))))

pub names_push : (ns : List Name) (n : Name) → names_forms ns ++ name_forms n ∷ [] ≡ names_forms (ns ++ n ∷ [])
names_push ns n = sym (map-append name_forms ns (n ∷ []))
