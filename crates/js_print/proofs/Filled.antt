-- Forms with other places: a list of places, one for each form.
use Rattle.std.proofs.Common.{◌≡◌, ℕ, ◌+◌, Bool, true, false, cond, List, [], ◌∷◌, ◌++◌, map, refl, sym, ap, ap₂, ◌∙◌, subst}
use Rattle.std.specs.Prelude.{flat_map}
use Rattle.std.proofs.lemmas.List.Concat.{flat_map-cons}
use Rattle.js_lex.specs.declared.token.Punctuator.{Punctuator}
use Rattle.js_lex.specs.declared.token.Punctuator.TheVariants as p
use Rattle.js_lex.specs.declared.token.Reserved.{Reserved}
use Rattle.js_lex.specs.declared.token.Reserved.TheVariants as r
use Rattle.js_tree.specs.declared.tree.BinaryOp.{BinaryOp}
use Rattle.js_tree.specs.declared.tree.UnaryOp.{UnaryOp}
use Rattle.js_tree.specs.declared.tree.UnaryOp.TheVariants as unary
use Rattle.js_tree.specs.declared.tree.Name.{Name}
use Rattle.js_tree.specs.declared.tree.Key.{Key}
use Rattle.js_tree.specs.declared.tree.Key.TheVariants as keys
use Rattle.js_grammar.specs.Marks.{Want, Just, At, Auto, Mark, Form, sign, just, maybe, end, deeper_mark, deeper, first_unbroken, on_one_line, enclosed, more, separated, listed}
use Rattle.js_grammar.specs.Grammar.{reserved, reserved_at, name, name_forms, any_name, perhaps_async, key, binary_sign, unary_form, Written, WrittenStmt, WrittenFunction, statements, block, parameters, arrow_name, arrow_parameters, accessed, joined, body}
use Rattle.js_print.specs.Same.{unplaced_name, unplaced_key}

abbrev pub fill_want : ℕ → Want → Want
fill_want q (At n k) = At q k
fill_want q (Just k) = Just k
fill_want q Auto = Auto

abbrev pub fill_mark : ℕ → Mark → Mark
fill_mark q m = record { want = fill_want q m.want; unbroken = m.unbroken; constructs = m.constructs }

abbrev pub fill : ℕ → Form → Form
fill q f = map (map (fill_mark q)) f

abbrev pub rest : List ℕ → List ℕ
rest [] = []
rest (q ∷ qs) = qs

-- a form stays as it is where the places end
abbrev pub fill_first : List ℕ → Form → Form
fill_first [] f = f
fill_first (q ∷ qs) f = fill q f

abbrev pub fill_all : List ℕ → List Form → List Form
fill_all qs [] = []
fill_all qs (f ∷ fs) = fill_first qs f ∷ fill_all (rest qs) fs

-- the places behind those of the forms
abbrev pub behind : List Form → List ℕ → List ℕ
behind [] qs = qs
behind (f ∷ fs) qs = behind fs (rest qs)

pub record Fills (qs : List ℕ) (fs gs : List Form) : Type 0 where
  pub is : gs ≡ fill_all qs fs

-- ---- one behind the other

fill_append : (qs : List ℕ) (fs gs : List Form) → fill_all qs (fs ++ gs) ≡ fill_all qs fs ++ fill_all (behind fs qs) gs
fill_append qs [] gs = refl
fill_append qs (f ∷ fs) gs = ap (λ (z : List Form). fill_first qs f ∷ z) (fill_append (rest qs) fs gs)

pub fills_none : (qs : List ℕ) → Fills qs [] []
fills_none qs = record { is = refl }

pub fills_append : (qs : List ℕ) (fs fs2 gs gs2 : List Form) → Fills qs fs fs2 → Fills (behind fs qs) gs gs2 → Fills qs (fs ++ gs) (fs2 ++ gs2)
fills_append qs fs fs2 gs gs2 a b = record { is = ap₂ (λ (x y : List Form). x ++ y) a.is b.is ∙ sym (fill_append qs fs gs) }

fills_first : (qs : List ℕ) (f f2 : Form) (gs gs2 : List Form) → f2 ≡ fill_first qs f → Fills (rest qs) gs gs2 → Fills qs (f ∷ gs) (f2 ∷ gs2)
fills_first qs f f2 gs gs2 e b = record { is = ap₂ (λ (x : Form) (y : List Form). x ∷ y) e b.is }

-- a form of which no place is kept
pub record Fixed (f : Form) : Type 0 where
  pub same : (q : ℕ) → fill q f ≡ f

fixed_first : (qs : List ℕ) (f : Form) → Fixed f → f ≡ fill_first qs f
fixed_first [] f h = refl
fixed_first (q ∷ qs) f h = sym (h.same q)

pub fills_fixed : (qs : List ℕ) (f : Form) (gs gs2 : List Form) → Fixed f → Fills (rest qs) gs gs2 → Fills qs (f ∷ gs) (f ∷ gs2)
fills_fixed qs f gs gs2 h b = fills_first qs f f gs gs2 (fixed_first qs f h) b

pub fills_only : (qs : List ℕ) (f : Form) → Fixed f → Fills qs (f ∷ []) (f ∷ [])
fills_only qs f h = fills_fixed qs f [] [] h (fills_none (rest qs))

pub fixed_sign : (x : Punctuator) → Fixed (just x)
fixed_sign x = record { same = λ q. refl }

fixed_word : (x : Reserved) → Fixed (reserved x)
fixed_word x = record { same = λ q. refl }

pub fills_sign : (qs : List ℕ) (x : Punctuator) (gs gs2 : List Form) → Fills (rest qs) gs gs2 → Fills qs (just x ∷ gs) (just x ∷ gs2)
fills_sign qs x gs gs2 b = fills_fixed qs (just x) gs gs2 (fixed_sign x) b

pub fills_word : (qs : List ℕ) (x : Reserved) (gs gs2 : List Form) → Fills (rest qs) gs gs2 → Fills qs (reserved x ∷ gs) (reserved x ∷ gs2)
fills_word qs x gs gs2 b = fills_fixed qs (reserved x) gs gs2 (fixed_word x) b

pub fills_end : (qs : List ℕ) → Fills qs (end ∷ []) (end ∷ [])
fills_end qs = fills_only qs end (record { same = λ q. refl })

pub fills_ended : (qs : List ℕ) (fs gs : List Form) → Fills qs fs gs → Fills qs (fs ++ end ∷ []) (gs ++ end ∷ [])
fills_ended qs fs gs a = fills_append qs fs gs (end ∷ []) (end ∷ []) a (fills_end (behind fs qs))

-- ---- with more constructs, and on one line

marks_deeper : (n q : ℕ) (ms : List Mark) → map (deeper_mark n) (map (fill_mark q) ms) ≡ map (fill_mark q) (map (deeper_mark n) ms)
marks_deeper n q [] = refl
marks_deeper n q (m ∷ ms) = ap (λ (z : List Mark). deeper_mark n (fill_mark q m) ∷ z) (marks_deeper n q ms)

form_deeper : (n q : ℕ) (f : Form) → map (map (deeper_mark n)) (fill q f) ≡ fill q (map (map (deeper_mark n)) f)
form_deeper n q [] = refl
form_deeper n q (ms ∷ f) = ap₂ (λ (x : List Mark) (y : Form). x ∷ y) (marks_deeper n q ms) (form_deeper n q f)

first_deeper : (n : ℕ) (qs : List ℕ) (f : Form) → map (map (deeper_mark n)) (fill_first qs f) ≡ fill_first qs (map (map (deeper_mark n)) f)
first_deeper n [] f = refl
first_deeper n (q ∷ qs) f = form_deeper n q f

fill_deeper : (n : ℕ) (qs : List ℕ) (fs : List Form) → deeper n (fill_all qs fs) ≡ fill_all qs (deeper n fs)
fill_deeper n qs [] = refl
fill_deeper n qs (f ∷ fs) = ap₂ (λ (x : Form) (y : List Form). x ∷ y) (first_deeper n qs f) (fill_deeper n (rest qs) fs)

pub fills_deeper : (n m : ℕ) (qs : List ℕ) (fs gs : List Form) → m ≡ n → Fills qs fs gs → Fills qs (deeper n fs) (deeper m gs)
fills_deeper n m qs fs gs e a = record { is = ap₂ (λ (x : ℕ) (y : List Form). deeper x y) e a.is ∙ fill_deeper n qs fs }

marks_unbroken : (q : ℕ) (ms : List Mark) → first_unbroken (map (fill_mark q) ms) ≡ map (fill_mark q) (first_unbroken ms)
marks_unbroken q [] = refl
marks_unbroken q (m ∷ ms) = refl

form_unbroken : (q : ℕ) (f : Form) → map first_unbroken (fill q f) ≡ fill q (map first_unbroken f)
form_unbroken q [] = refl
form_unbroken q (ms ∷ f) = ap₂ (λ (x : List Mark) (y : Form). x ∷ y) (marks_unbroken q ms) (form_unbroken q f)

fill_one_line : (qs : List ℕ) (fs : List Form) → on_one_line (fill_all qs fs) ≡ fill_all qs (on_one_line fs)
fill_one_line qs [] = refl
fill_one_line [] (f ∷ fs) = refl
fill_one_line (q ∷ qs) (f ∷ fs) = ap (λ (x : Form). x ∷ fill_all qs fs) (form_unbroken q f)

pub fills_one_line : (qs : List ℕ) (fs gs : List Form) → Fills qs fs gs → Fills qs (on_one_line fs) (on_one_line gs)
fills_one_line qs fs gs a = record { is = ap on_one_line a.is ∙ fill_one_line qs fs }

pub fills_enclosed : (qs : List ℕ) (a b : Punctuator) (fs gs : List Form) → Fills (rest qs) fs gs → Fills qs (enclosed a fs b) (enclosed a gs b)
fills_enclosed qs a b fs gs s =
    fills_deeper 1 1 qs (just a ∷ (fs ++ just b ∷ [])) (just a ∷ (gs ++ just b ∷ [])) refl
    (fills_sign qs a (fs ++ just b ∷ []) (gs ++ just b ∷ []) (fills_append (rest qs) fs gs (just b ∷ []) (just b ∷ []) s (fills_only (behind fs (rest qs)) (just b) (fixed_sign b))))

-- ---- names

abbrev pub place_at : List ℕ → ℕ → ℕ
place_at [] n = n
place_at (q ∷ qs) n = q

abbrev pub moved_name : List ℕ → Name → Name
moved_name qs n = record { place = place_at qs n.place; units = n.units }

first_name : (qs : List ℕ) (n : Name) → name (moved_name qs n) ≡ fill_first qs (name n)
first_name [] n = refl
first_name (q ∷ qs) n = refl

pub fills_name : (qs : List ℕ) (n : Name) (gs gs2 : List Form) → Fills (rest qs) gs gs2 → Fills qs (name n ∷ gs) (name (moved_name qs n) ∷ gs2)
fills_name qs n gs gs2 b = fills_first qs (name n) (name (moved_name qs n)) gs gs2 (first_name qs n) b

first_any_name : (qs : List ℕ) (n : Name) → any_name (moved_name qs n) ≡ fill_first qs (any_name n)
first_any_name [] n = refl
first_any_name (q ∷ qs) n = refl

pub fills_any_name : (qs : List ℕ) (n : Name) (gs gs2 : List Form) → Fills (rest qs) gs gs2 → Fills qs (any_name n ∷ gs) (any_name (moved_name qs n) ∷ gs2)
fills_any_name qs n gs gs2 b = fills_first qs (any_name n) (any_name (moved_name qs n)) gs gs2 (first_any_name qs n) b

first_word_at : (qs : List ℕ) (n : ℕ) (x : Reserved) → reserved_at (place_at qs n) x ≡ fill_first qs (reserved_at n x)
first_word_at [] n x = refl
first_word_at (q ∷ qs) n x = refl

pub fills_word_at : (qs : List ℕ) (n : ℕ) (x : Reserved) (gs gs2 : List Form) → Fills (rest qs) gs gs2 → Fills qs (reserved_at n x ∷ gs) (reserved_at (place_at qs n) x ∷ gs2)
fills_word_at qs n x gs gs2 b = fills_first qs (reserved_at n x) (reserved_at (place_at qs n) x) gs gs2 (first_word_at qs n x) b

abbrev pub moved_key : List ℕ → Key → Key
moved_key qs (keys.Name n) = keys.Name (moved_name qs n)
moved_key qs (keys.Text u) = keys.Text u
moved_key qs (keys.Number n) = keys.Number n

pub same_key : (qs : List ℕ) (k : Key) → unplaced_key (moved_key qs k) ≡ unplaced_key k
same_key qs (keys.Name n) = refl
same_key qs (keys.Text u) = refl
same_key qs (keys.Number n) = refl

pub fills_key : (qs : List ℕ) (k : Key) (gs gs2 : List Form) → Fills (rest qs) gs gs2 → Fills qs (key k ∷ gs) (key (moved_key qs k) ∷ gs2)
fills_key qs (keys.Name n) gs gs2 b = fills_any_name qs n gs gs2 b
fills_key qs (keys.Text u) gs gs2 b = fills_fixed qs _ gs gs2 (record { same = λ q. refl }) b
fills_key qs (keys.Number n) gs gs2 b = fills_fixed qs _ gs gs2 (record { same = λ q. refl }) b

pub fills_unary : (qs : List ℕ) (o : UnaryOp) (gs gs2 : List Form) → Fills (rest qs) gs gs2 → Fills qs (unary_form o ∷ gs) (unary_form o ∷ gs2)
fills_unary qs unary.Not gs gs2 b = fills_sign qs p.Not gs gs2 b
fills_unary qs unary.Negate gs gs2 b = fills_sign qs p.Minus gs gs2 b
fills_unary qs unary.TypeOf gs gs2 b = fills_word qs r.TypeOf gs gs2 b

-- ---- lists

first_same : (f g : Form) (fs gs : List Form) → f ∷ fs ≡ g ∷ gs → fs ≡ gs
first_same f g fs gs e = cc

-- behind the comma that stands before each
pub fills_separated : (qs : List ℕ) (xs ys : List (List Form)) → Fills (0 ∷ qs) (more xs) (more ys) → Fills qs (separated xs) (separated ys)
fills_separated qs [] [] a = fills_none qs
fills_separated qs [] (y ∷ ys) a = absurd (let e : more (y ∷ ys) ≡ [] = a.is in cc)
fills_separated qs (x ∷ xs) [] a = absurd (let e : [] ≡ fill_all (0 ∷ qs) (more (x ∷ xs)) = a.is in cc)
fills_separated qs (x ∷ xs) (y ∷ ys) a = record { is = first_same (just p.Comma) (fill 0 (just p.Comma)) (y ++ more ys) (fill_all qs (x ++ more xs)) a.is }

pub fills_listed : (qs : List ℕ) (xs ys : List (List Form)) → Fills (0 ∷ qs) (more xs) (more ys) → Fills qs (listed xs) (listed ys)
fills_listed qs [] [] a = fills_none qs
fills_listed qs [] (y ∷ ys) a = absurd (let e : more (y ∷ ys) ≡ [] = a.is in cc)
fills_listed qs (x ∷ xs) [] a = absurd (let e : [] ≡ fill_all (0 ∷ qs) (more (x ∷ xs)) = a.is in cc)
fills_listed qs (x ∷ xs) (y ∷ ys) a =
    fills_append qs (x ++ more xs) (y ++ more ys) (maybe (sign p.Comma) ∷ []) (maybe (sign p.Comma) ∷ []) (fills_separated qs (x ∷ xs) (y ∷ ys) a)
    (fills_only (behind (x ++ more xs) qs) (maybe (sign p.Comma)) (record { same = λ q. refl }))

pub fills_more : (qs : List ℕ) (x y : List Form) (xs ys : List (List Form)) → Fills (rest qs) x y → Fills (behind x (rest qs)) (more xs) (more ys) → Fills qs (more (x ∷ xs)) (more (y ∷ ys))
fills_more qs x y xs ys a b = fills_sign qs p.Comma (x ++ more xs) (y ++ more ys) (fills_append (rest qs) x y (more xs) (more ys) a b)

abbrev pub moved_names : List ℕ → List Name → List Name
moved_names qs [] = []
moved_names qs (n ∷ ns) = moved_name (rest qs) n ∷ moved_names (rest (rest qs)) ns

pub same_names : (qs : List ℕ) (ns : List Name) → map unplaced_name (moved_names qs ns) ≡ map unplaced_name ns
same_names qs [] = refl
same_names qs (n ∷ ns) = ap (λ (z : List Name). unplaced_name n ∷ z) (same_names (rest (rest qs)) ns)

fills_names : (qs : List ℕ) (ns : List Name) → Fills qs (more (map name_forms ns)) (more (map name_forms (moved_names qs ns)))
fills_names qs [] = fills_none qs
fills_names qs (n ∷ ns) =
    fills_more qs (name_forms n) (name_forms (moved_name (rest qs) n)) (map name_forms ns) (map name_forms (moved_names (rest (rest qs)) ns))
    (fills_name (rest qs) n [] [] (fills_none _)) (fills_names (rest (rest qs)) ns)

abbrev pub moved_parameters : List ℕ → List Name → List Name
moved_parameters qs ns = moved_names (0 ∷ rest qs) ns

pub fills_parameters : (qs : List ℕ) (ns : List Name) → Fills qs (parameters ns) (parameters (moved_parameters qs ns))
fills_parameters qs ns = fills_enclosed qs p.OpenParen p.CloseParen _ _ (fills_listed (rest qs) _ _ (fills_names (0 ∷ rest qs) ns))

abbrev pub moved_arrow : List ℕ → List Name → List Name
moved_arrow qs [] = []
moved_arrow qs (n ∷ []) = moved_name qs n ∷ []
moved_arrow qs (n ∷ m ∷ ns) = moved_parameters qs (n ∷ m ∷ ns)

pub same_arrow : (qs : List ℕ) (ns : List Name) → map unplaced_name (moved_arrow qs ns) ≡ map unplaced_name ns
same_arrow qs [] = refl
same_arrow qs (n ∷ []) = refl
same_arrow qs (n ∷ m ∷ ns) = same_names (0 ∷ rest qs) (n ∷ m ∷ ns)

first_arrow_name : (qs : List ℕ) (n : Name) → arrow_name (moved_name qs n) ≡ fill_first qs (arrow_name n)
first_arrow_name [] n = refl
first_arrow_name (q ∷ qs) n = refl

pub fills_arrow : (qs : List ℕ) (ns : List Name) → Fills qs (arrow_parameters ns) (arrow_parameters (moved_arrow qs ns))
fills_arrow qs [] = fills_parameters qs []
fills_arrow qs (n ∷ []) = fills_first qs (arrow_name n) (arrow_name (moved_name qs n)) [] [] (first_arrow_name qs n) (fills_none _)
fills_arrow qs (n ∷ m ∷ ns) = fills_parameters qs (n ∷ m ∷ ns)

-- ---- `async`

abbrev pub after_async : Bool → List ℕ → List ℕ
after_async true qs = rest qs
after_async false qs = qs

pub fills_async : (b c : Bool) (qs : List ℕ) (fs gs : List Form) → c ≡ b → Fills (after_async b qs) fs gs → Fills qs (perhaps_async b fs) (perhaps_async c gs)
fills_async b c qs fs gs e a = subst (λ (z : Bool). Fills qs (perhaps_async b fs) (perhaps_async z gs)) (sym e) (by_case b a)
  where
    by_case : (z : Bool) → Fills (after_async z qs) fs gs → Fills qs (perhaps_async z fs) (perhaps_async z gs)
    by_case true h = fills_fixed qs _ _ _ (record { same = λ q. refl }) (fills_one_line (rest qs) fs gs h)
    by_case false h = h

-- ---- what nodes are written as

pub record FilledWritten (qs : List ℕ) (w v : Written) : Type 0 where
  pub forms : Fills qs w.forms v.forms
  pub operators : v.operators ≡ w.operators
  pub accesses : v.accesses ≡ w.accesses

pub record FilledStmt (qs : List ℕ) (w v : WrittenStmt) : Type 0 where
  pub forms : Fills qs w.forms v.forms
  pub is_block : v.is_block ≡ w.is_block

pub record FilledFunction (qs : List ℕ) (w v : WrittenFunction) : Type 0 where
  pub forms : Fills qs w.forms v.forms
  pub is_async : v.is_async ≡ w.is_async

pub fills_body : (qs : List ℕ) (w v : WrittenStmt) → FilledStmt qs w v → Fills qs (body w) (body v)
fills_body qs w v h = subst (λ (z : Bool). Fills qs (body w) (cond z v.forms (deeper 1 v.forms))) (sym h.is_block) (by_case w.is_block)
  where
    by_case : (z : Bool) → Fills qs (cond z w.forms (deeper 1 w.forms)) (cond z v.forms (deeper 1 v.forms))
    by_case true = h.forms
    by_case false = fills_deeper 1 1 qs w.forms v.forms refl h.forms

pub filled_accessed : (qs : List ℕ) (w v : Written) (fs gs : List Form) → FilledWritten qs w v → Fills (behind w.forms qs) fs gs → FilledWritten qs (accessed w fs) (accessed v gs)
filled_accessed qs w v fs gs h k = record {
  forms = fills_append qs w.forms v.forms (deeper w.accesses fs) (deeper v.accesses gs) h.forms (fills_deeper w.accesses v.accesses (behind w.forms qs) fs gs h.accesses k);
  operators = refl;
  accesses = ap (λ (n : ℕ). n + 1) h.accesses;
}

pub filled_joined : (qs : List ℕ) (o : BinaryOp) (w v x y : Written) → FilledWritten qs w v → FilledWritten (rest (behind w.forms qs)) x y → FilledWritten qs (joined o w x) (joined o v y)
filled_joined qs o w v x y h k = record {
  forms = fills_append qs w.forms v.forms _ _ h.forms
      (fills_deeper (w.operators + 1) (v.operators + 1) (behind w.forms qs) (just (binary_sign o) ∷ x.forms) (just (binary_sign o) ∷ y.forms) (ap (λ (n : ℕ). n + 1) h.operators)
      (fills_sign (behind w.forms qs) (binary_sign o) x.forms y.forms k.forms));
  operators = ap₂ (λ (m n : ℕ). m + 1 + n) h.operators k.operators;
  accesses = refl;
}

abbrev pub forms_of : WrittenStmt → List Form
forms_of s = s.forms

pub fills_statements : (qs : List ℕ) (w v : WrittenStmt) (ws vs : List WrittenStmt) → Fills qs w.forms v.forms → Fills (behind w.forms qs) (statements ws) (statements vs) → Fills qs (statements (w ∷ ws)) (statements (v ∷ vs))
fills_statements qs w v ws vs a b =
    subst (λ (z : List Form). Fills qs z (flat_map forms_of (v ∷ vs))) (sym (flat_map-cons forms_of w ws))
    (subst (λ (z : List Form). Fills qs (w.forms ++ flat_map forms_of ws) z) (sym (flat_map-cons forms_of v vs)) (fills_append qs w.forms v.forms (statements ws) (statements vs) a b))

pub fills_block : (qs : List ℕ) (ws vs : List WrittenStmt) → Fills (rest qs) (statements ws) (statements vs) → Fills qs (block ws) (block vs)
fills_block qs ws vs a = fills_enclosed qs p.OpenBrace p.CloseBrace (statements ws) (statements vs) a
