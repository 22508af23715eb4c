-- Where one more bracket may be open: the same steps, and one more where a bracket was too deep.
use Rattle.std.proofs.Common.{◌≡◌, ℕ, ◌+◌, ◌<◌, ◌≤◌, Bool, true, false, cond, List, [], ◌∷◌, length, Result, Ok, Err, refl, sym, ap, ◌∙◌, arith}
use Rattle.std.specs.Prelude.{codes, nat_lt}
use Rattle.std.specs.Str.{bytes_eq}
use Rattle.std.proofs.lemmas.Bool.{lt-ltb, ltb-true}
use Rattle.capnp_text.specs.declared.token.TokenKind.{TokenKind}
use Rattle.capnp_text.specs.declared.token.TokenKind.TheVariants as tok
use Rattle.capnp_text.specs.declared.token.Token.{Token}
use Rattle.capnp_text.specs.declared.tree.Placed.{Placed}
use Rattle.capnp_text.specs.declared.tree.Value.{Value}
use Rattle.capnp_text.specs.declared.tree.Value.TheVariants as value
use Rattle.capnp_text.specs.declared.tree.Field.{Field}
use Rattle.capnp_text.specs.declared.tree.Decl.{Decl}
use Rattle.capnp_text.specs.declared.machine.Head.{Head}
use Rattle.capnp_text.specs.declared.machine.Frame.{Frame}
use Rattle.capnp_text.specs.declared.machine.Frame.TheVariants as frame
use Rattle.capnp_text.specs.declared.machine.Spot.{Spot}
use Rattle.capnp_text.specs.declared.machine.Spot.TheVariants as spot
use Rattle.capnp_text.specs.declared.machine.At.{At}
use Rattle.capnp_text.specs.declared.machine.At.TheVariants as at
use Rattle.capnp_text.specs.declared.machine.State.{State}
use Rattle.capnp_text.specs.declared.machine.Refusal.{Refusal}
use Rattle.capnp_text.specs.declared.machine.Refusal.TheVariants as refusal
use Rattle.capnp_text.specs.Run.{Stuck, taken, run}
use Rattle.capnp_text.specs.Machine.{Step, embed, if_room, on_word, begin, after_const, after_item, after_field, after, on_decl, begin_decl, on_id, on_id_end, on_using_name, on_using_equals, on_import, on_using_import, on_using_path, on_using_end, on_const_name, on_const_colon, on_type, on_typed, on_embed, on_dot, on_item, on_name, on_equals, in_value, step_at, step, start, read}
use Rattle.capnp_text.proofs.Bounds.{FineSpot, FineAt, Fine, FineStep, Fine-step, fine_start}

-- ---- steps that refuse as a bad token alone

abbrev Plain : Step → Type 0
Plain (Ok n) = Unit {0}
Plain (Err refusal.BadToken) = Unit {0}
Plain (Err refusal.BadDecl) = ⊥
Plain (Err refusal.TooDeep) = ⊥

plain_const : (ds : List Decl) (h : Head) (v : Value) (t : TokenKind) → Plain (after_const ds h v t)
plain_const ds h v tok.Semicolon = tt
plain_const ds h v _ = tt

plain_item : (ds : List Decl) (h : Head) (fs : List Frame) (q : ℕ) (vs : List Value) (t : TokenKind) → Plain (after_item ds h fs q vs t)
plain_item ds h fs q vs tok.Comma = tt
plain_item ds h fs q vs tok.CloseBracket = tt
plain_item ds h fs q vs _ = tt

plain_field : (ds : List Decl) (h : Head) (fs : List Frame) (q : ℕ) (xs : List Field) (t : TokenKind) → Plain (after_field ds h fs q xs t)
plain_field ds h fs q xs tok.Comma = tt
plain_field ds h fs q xs tok.CloseParen = tt
plain_field ds h fs q xs _ = tt

plain_after : (ds : List Decl) (h : Head) (fs : List Frame) (v : Value) (t : TokenKind) → Plain (after ds h fs v t)
plain_after ds h [] v t = plain_const ds h v t
plain_after ds h (frame.List q vs ∷ fs) v t = plain_item ds h fs q _ t
plain_after ds h (frame.Struct q xs n ∷ fs) v t = plain_field ds h fs q _ t

plain_embed : (ds : List Decl) (h : Head) (fs : List Frame) (q p : ℕ) (t : TokenKind) → Plain (on_embed ds h fs q p t)
plain_embed ds h fs q p (tok.Text b) = tt
plain_embed ds h fs q p t = plain_after ds h fs (value.Word (embed q)) t

plain_dot : (ds : List Decl) (h : Head) (fs : List Frame) (q p : ℕ) (t : TokenKind) → Plain (on_dot ds h fs q p t)
plain_dot ds h fs q p (tok.Name b) = tt
plain_dot ds h fs q p _ = tt

plain_name : (ds : List Decl) (h : Head) (fs : List Frame) (q : ℕ) (xs : List Field) (p : ℕ) (t : TokenKind) → Plain (on_name ds h fs q xs p t)
plain_name ds h fs q xs p tok.CloseParen = tt
plain_name ds h fs q xs p (tok.Name b) = tt
plain_name ds h fs q xs p _ = tt

plain_equals : (ds : List Decl) (h : Head) (fs : List Frame) (q : ℕ) (xs : List Field) (n : Placed) (t : TokenKind) → Plain (on_equals ds h fs q xs n t)
plain_equals ds h fs q xs n tok.Equals = tt
plain_equals ds h fs q xs n _ = tt

plain_id : (ds : List Decl) (p : ℕ) (t : TokenKind) → Plain (on_id ds p t)
plain_id ds p (tok.Hex w) = tt
plain_id ds p _ = tt

plain_id_end : (ds : List Decl) (id : Placed) (t : TokenKind) → Plain (on_id_end ds id t)
plain_id_end ds id tok.Semicolon = tt
plain_id_end ds id _ = tt

plain_using_name : (ds : List Decl) (p : ℕ) (t : TokenKind) → Plain (on_using_name ds p t)
plain_using_name ds p (tok.Name w) = tt
plain_using_name ds p _ = tt

plain_using_equals : (ds : List Decl) (n : Placed) (t : TokenKind) → Plain (on_using_equals ds n t)
plain_using_equals ds n tok.Equals = tt
plain_using_equals ds n _ = tt

plain_import : (ds : List Decl) (n : Placed) (r : Bool) → Plain (on_import ds n r)
plain_import ds n true = tt
plain_import ds n false = tt

plain_using_import : (ds : List Decl) (n : Placed) (t : TokenKind) → Plain (on_using_import ds n t)
plain_using_import ds n (tok.Name w) = plain_import ds n (bytes_eq w (codes "import"))
plain_using_import ds n _ = tt

plain_using_path : (ds : List Decl) (n : Placed) (p : ℕ) (t : TokenKind) → Plain (on_using_path ds n p t)
plain_using_path ds n p (tok.Text w) = tt
plain_using_path ds n p _ = tt

plain_using_end : (ds : List Decl) (n w : Placed) (t : TokenKind) → Plain (on_using_end ds n w t)
plain_using_end ds n w tok.Semicolon = tt
plain_using_end ds n w _ = tt

plain_const_name : (ds : List Decl) (p : ℕ) (t : TokenKind) → Plain (on_const_name ds p t)
plain_const_name ds p (tok.Name w) = tt
plain_const_name ds p _ = tt

plain_const_colon : (ds : List Decl) (n : Placed) (t : TokenKind) → Plain (on_const_colon ds n t)
plain_const_colon ds n tok.Colon = tt
plain_const_colon ds n _ = tt

plain_type : (ds : List Decl) (h : Head) (p : ℕ) (t : TokenKind) → Plain (on_type ds h p t)
plain_type ds h p (tok.Name w) = tt
plain_type ds h p _ = tt

plain_typed : (ds : List Decl) (h : Head) (w : Placed) (t : TokenKind) → Plain (on_typed ds h w t)
plain_typed ds h w tok.Dot = tt
plain_typed ds h w tok.Equals = tt
plain_typed ds h w _ = tt

-- ---- a bad declaration

no_decl : (o : Step) → Plain o → o ≡ Err refusal.BadDecl → ⊥
no_decl (Ok n) p h = cc
no_decl (Err refusal.BadToken) p h = cc
no_decl (Err refusal.BadDecl) p h = p
no_decl (Err refusal.TooDeep) p h = p

room_decl : (n : State) (r : Bool) → (let o : Step = cond r (Ok n) (Err refusal.TooDeep) in o) ≡ Err refusal.BadDecl → ⊥
room_decl n true h = cc
room_decl n false h = cc

begin_no_decl : (most : ℕ) (ds : List Decl) (h : Head) (fs : List Frame) (p : ℕ) (t : TokenKind) → begin most ds h fs p t ≡ Err refusal.BadDecl → ⊥
begin_no_decl most ds h fs p (tok.Name b) e = by_word (bytes_eq b (codes "embed")) e
  where
    by_word : (r : Bool) → on_word ds h fs p b r ≡ Err refusal.BadDecl → ⊥
    by_word true e = cc
    by_word false e = cc
begin_no_decl most ds h fs p tok.OpenParen e = room_decl _ (nat_lt (length fs) most) e
begin_no_decl most ds h fs p tok.OpenBracket e = room_decl _ (nat_lt (length fs) most) e
begin_no_decl most ds h fs p _ e = cc

item_no_decl : (most : ℕ) (ds : List Decl) (h : Head) (fs : List Frame) (q : ℕ) (vs : List Value) (p : ℕ) (t : TokenKind) → on_item most ds h fs q vs p t ≡ Err refusal.BadDecl → ⊥
item_no_decl most ds h fs q vs p tok.CloseBracket e = cc
item_no_decl most ds h fs q vs p t e = begin_no_decl most ds h (frame.List q vs ∷ fs) p t e

no_value_decl : (most : ℕ) (ds : List Decl) (h : Head) (fs : List Frame) (s : Spot) (p : ℕ) (t : TokenKind) → in_value most ds h fs s p t ≡ Err refusal.BadDecl → ⊥
no_value_decl most ds h fs spot.Begin p t e = begin_no_decl most ds h fs p t e
no_value_decl most ds h fs (spot.Embed q) p t e = no_decl _ (plain_embed ds h fs q p t) e
no_value_decl most ds h fs (spot.Dot q) p t e = no_decl _ (plain_dot ds h fs q p t) e
no_value_decl most ds h fs (spot.Item q vs) p t e = item_no_decl most ds h fs q vs p t e
no_value_decl most ds h fs (spot.Name q xs) p t e = no_decl _ (plain_name ds h fs q xs p t) e
no_value_decl most ds h fs (spot.Equals q xs n) p t e = no_decl _ (plain_equals ds h fs q xs n t) e
no_value_decl most ds h fs (spot.Done v) p t e = no_decl _ (plain_after ds h fs v t) e

pub decl_refused : (ds : List Decl) (t : TokenKind) (k : Refusal) → begin_decl ds t ≡ Err k → k ≡ refusal.BadDecl
decl_refused ds (tok.Name w) k h = by_words (bytes_eq w (codes "const")) (bytes_eq w (codes "using")) h
  where
    by_words : (a b : Bool) → on_decl ds a b ≡ Err k → k ≡ refusal.BadDecl
    by_words true b e = cc
    by_words false true e = cc
    by_words false false e = let same : refusal.BadDecl ≡ k = cc in sym same
decl_refused ds tok.At k h = cc
decl_refused ds _ k h = let same : refusal.BadDecl ≡ k = cc in sym same

-- ---- one more bracket

-- the step is made too where one more bracket may be open, and refused for the same reason but for that bracket
abbrev pub Wider : Step → Step → Type 0
Wider (Ok n) wide = wide ≡ Ok n
Wider (Err refusal.BadToken) wide = wide ≡ Err refusal.BadToken
Wider (Err refusal.BadDecl) wide = wide ≡ Err refusal.BadDecl
Wider (Err refusal.TooDeep) wide = (n : State) × (wide ≡ Ok n)

wider_plain : (o : Step) → Plain o → Wider o o
wider_plain (Ok n) h = refl
wider_plain (Err refusal.BadToken) h = refl
wider_plain (Err refusal.BadDecl) h = absurd h
wider_plain (Err refusal.TooDeep) h = absurd h

wider_decl : (ds : List Decl) (t : TokenKind) (o : Step) → begin_decl ds t ≡ o → Wider o o
wider_decl ds t (Ok n) h = refl
wider_decl ds t (Err refusal.BadToken) h = refl
wider_decl ds t (Err refusal.BadDecl) h = refl
wider_decl ds t (Err refusal.TooDeep) h = let e : refusal.TooDeep ≡ refusal.BadDecl = decl_refused ds t refusal.TooDeep h in cc

module _ (most : ℕ) where
  wider_room : (fs : List Frame) (n : State) (r : Bool) → (r ≡ true → length fs < most) → length fs ≤ most → nat_lt (length fs) most ≡ r → Wider (cond r (Ok n) (Err refusal.TooDeep)) (if_room (most + 1) fs (Ok n))
  wider_room fs n true f l e = ap (λ (b : Bool). let o : Step = cond b (Ok n) (Err refusal.TooDeep) in o) (lt-ltb (length fs) (most + 1) (omega arith))
  wider_room fs n false f l e = (n, ap (λ (b : Bool). let o : Step = cond b (Ok n) (Err refusal.TooDeep) in o) (lt-ltb (length fs) (most + 1) (omega arith)))

  room : (fs : List Frame) (n : State) → length fs ≤ most → Wider (if_room most fs (Ok n)) (if_room (most + 1) fs (Ok n))
  room fs n l = wider_room fs n (nat_lt (length fs) most) (ltb-true (length fs) most) l refl

  wider_begin : (ds : List Decl) (h : Head) (fs : List Frame) (p : ℕ) (t : TokenKind) → length fs ≤ most → Wider (begin most ds h fs p t) (begin (most + 1) ds h fs p t)
  wider_begin ds h fs p (tok.Name b) l = by_word (bytes_eq b (codes "embed"))
    where
      by_word : (r : Bool) → Wider (on_word ds h fs p b r) (on_word ds h fs p b r)
      by_word true = refl
      by_word false = refl
  wider_begin ds h fs p tok.OpenParen l = room fs _ l
  wider_begin ds h fs p tok.OpenBracket l = room fs _ l
  wider_begin ds h fs p _ l = refl

  wider_item : (ds : List Decl) (h : Head) (fs : List Frame) (q : ℕ) (vs : List Value) (p : ℕ) (t : TokenKind) → length fs + 1 ≤ most → Wider (on_item most ds h fs q vs p t) (on_item (most + 1) ds h fs q vs p t)
  wider_item ds h fs q vs p tok.CloseBracket l = refl
  wider_item ds h fs q vs p t l = wider_begin ds h (frame.List q vs ∷ fs) p t (omega arith)

  wider_value : (ds : List Decl) (h : Head) (fs : List Frame) (s : Spot) (p : ℕ) (t : TokenKind) → FineSpot most (length fs) s → Wider (in_value most ds h fs s p t) (in_value (most + 1) ds h fs s p t)
  wider_value ds h fs spot.Begin p t f = wider_begin ds h fs p t f
  wider_value ds h fs (spot.Embed q) p t f = wider_plain _ (plain_embed ds h fs q p t)
  wider_value ds h fs (spot.Dot q) p t f = wider_plain _ (plain_dot ds h fs q p t)
  wider_value ds h fs (spot.Item q vs) p t f = wider_item ds h fs q vs p t (omega (arith, f.below))
  wider_value ds h fs (spot.Name q xs) p t f = wider_plain _ (plain_name ds h fs q xs p t)
  wider_value ds h fs (spot.Equals q xs n) p t f = wider_plain _ (plain_equals ds h fs q xs n t)
  wider_value ds h fs (spot.Done v) p t f = wider_plain _ (plain_after ds h fs v t)

  wider_at : (ds : List Decl) (a : At) (p : ℕ) (t : TokenKind) → FineAt most a → Wider (step_at most ds a p t) (step_at (most + 1) ds a p t)
  wider_at ds at.Decl p t f = wider_decl ds t (begin_decl ds t) refl
  wider_at ds at.Id p t f = wider_plain _ (plain_id ds p t)
  wider_at ds (at.IdEnd id) p t f = wider_plain _ (plain_id_end ds id t)
  wider_at ds at.UsingName p t f = wider_plain _ (plain_using_name ds p t)
  wider_at ds (at.UsingEquals n) p t f = wider_plain _ (plain_using_equals ds n t)
  wider_at ds (at.UsingImport n) p t f = wider_plain _ (plain_using_import ds n t)
  wider_at ds (at.UsingPath n) p t f = wider_plain _ (plain_using_path ds n p t)
  wider_at ds (at.UsingEnd n w) p t f = wider_plain _ (plain_using_end ds n w t)
  wider_at ds at.ConstName p t f = wider_plain _ (plain_const_name ds p t)
  wider_at ds (at.ConstColon n) p t f = wider_plain _ (plain_const_colon ds n t)
  wider_at ds (at.Type h) p t f = wider_plain _ (plain_type ds h p t)
  wider_at ds (at.Typed h w) p t f = wider_plain _ (plain_typed ds h w t)
  wider_at ds (at.In h fs s) p t f = wider_value ds h fs s p t f.2

  pub wider_step : (s : State) (t : Token) → Fine most s → Wider (step most s t) (step (most + 1) s t)
  wider_step s t f = wider_at s.decls s.at t.place t.kind f.here

  wider_taken : (t : Token) (ts : List Token) (n : State) (o wide : Step) → Wider o wide → FineStep most o → ((m : State) → Fine most m → run (step most) m ts ≡ Ok n → run (step (most + 1)) m ts ≡ Ok n)
      → taken o t ts (λ x. run (step most) x ts) ≡ Ok n → taken wide t ts (λ x. run (step (most + 1)) x ts) ≡ Ok n
  wider_taken t ts n (Ok m) wide w f i h = ap (λ (x : Step). taken x t ts (λ y. run (step (most + 1)) y ts)) w ∙ i m f h
  wider_taken t ts n (Err k) wide w f i h = cc

  wider_run : (ts : List Token) (s n : State) → Fine most s → run (step most) s ts ≡ Ok n → run (step (most + 1)) s ts ≡ Ok n
  wider_run [] s n f h = let same : s ≡ n = cc in ap (λ (z : State). let r : Result State (Stuck Token Refusal) = Ok z in r) same
  wider_run (t ∷ ts) s n f h = wider_taken t ts n (step most s t) (step (most + 1) s t) (wider_step s t f) (Fine-step most s t f) (λ m. wider_run ts m n) h

  -- What is read is read to the same state where one more bracket may be open.
  pub wider_read : (ts : List Token) (n : State) → read most ts ≡ Ok n → read (most + 1) ts ≡ Ok n
  wider_read ts n h = wider_run ts start n (fine_start most) h

  -- A bad declaration is refused between declarations.
  bad_decl_at : (ds : List Decl) (a : At) (p : ℕ) (t : TokenKind) → FineAt most a → step_at most ds a p t ≡ Err refusal.BadDecl → a ≡ at.Decl
  bad_decl_at ds at.Decl p t f h = refl
  bad_decl_at ds at.Id p t f h = absurd (no_decl _ (plain_id ds p t) h)
  bad_decl_at ds (at.IdEnd id) p t f h = absurd (no_decl _ (plain_id_end ds id t) h)
  bad_decl_at ds at.UsingName p t f h = absurd (no_decl _ (plain_using_name ds p t) h)
  bad_decl_at ds (at.UsingEquals n) p t f h = absurd (no_decl _ (plain_using_equals ds n t) h)
  bad_decl_at ds (at.UsingImport n) p t f h = absurd (no_decl _ (plain_using_import ds n t) h)
  bad_decl_at ds (at.UsingPath n) p t f h = absurd (no_decl _ (plain_using_path ds n p t) h)
  bad_decl_at ds (at.UsingEnd n w) p t f h = absurd (no_decl _ (plain_using_end ds n w t) h)
  bad_decl_at ds at.ConstName p t f h = absurd (no_decl _ (plain_const_name ds p t) h)
  bad_decl_at ds (at.ConstColon n) p t f h = absurd (no_decl _ (plain_const_colon ds n t) h)
  bad_decl_at ds (at.Type w) p t f h = absurd (no_decl _ (plain_type ds w p t) h)
  bad_decl_at ds (at.Typed w v) p t f h = absurd (no_decl _ (plain_typed ds w v t) h)
  bad_decl_at ds (at.In w fs s) p t f h = absurd (no_value_decl most ds w fs s p t h)

  pub bad_decl : (s : State) (t : Token) → Fine most s → step most s t ≡ Err refusal.BadDecl → s.at ≡ at.Decl
  bad_decl s t f h = bad_decl_at s.decls s.at t.place t.kind f.here h
