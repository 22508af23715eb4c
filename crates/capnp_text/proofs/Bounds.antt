-- No more brackets are open in what was read than may be, and each type has a part.
use Rattle.std.proofs.Common.{◌≡◌, ℕ, ◌+◌, ◌<◌, ◌≤◌, Bool, true, false, cond, List, [], ◌∷◌, ◌++◌, map, length, Result, Ok, Err, refl, sym, subst, arith}
use Rattle.std.specs.Prelude.{codes, nat_lt}
use Rattle.std.specs.Str.{bytes_eq}
use Rattle.std.proofs.lemmas.Bool.{ltb-true}
use Rattle.std.proofs.lemmas.List.{map-append}
use Rattle.capnp_text.specs.declared.token.TokenKind.{TokenKind}
use Rattle.capnp_text.specs.declared.token.TokenKind.TheVariants as tok
use Rattle.capnp_text.specs.declared.token.Token.{Token}
use Rattle.capnp_text.specs.declared.tree.Placed.{Placed}
use Rattle.capnp_text.specs.declared.tree.Value.{Value}
use Rattle.capnp_text.specs.declared.tree.Value.TheVariants as value
use Rattle.capnp_text.specs.declared.tree.Field.{Field}
use Rattle.capnp_text.specs.declared.tree.Decl.{Decl}
use Rattle.capnp_text.specs.declared.tree.Decl.TheVariants as decl
use Rattle.capnp_text.specs.declared.machine.Head.{Head}
use Rattle.capnp_text.specs.declared.machine.Frame.{Frame}
use Rattle.capnp_text.specs.declared.machine.Frame.TheVariants as frame
use Rattle.capnp_text.specs.declared.machine.Spot.{Spot}
use Rattle.capnp_text.specs.declared.machine.Spot.TheVariants as spot
use Rattle.capnp_text.specs.declared.machine.At.{At}
use Rattle.capnp_text.specs.declared.machine.At.TheVariants as at
use Rattle.capnp_text.specs.declared.machine.State.{State}
use Rattle.capnp_text.specs.declared.machine.Refusal.{Refusal}
use Rattle.capnp_text.specs.declared.machine.Refusal.TheVariants as refusal
use Rattle.capnp_text.specs.Grammar.{deepest, depth, field_depth, HasParts, Fits, AllFit}
use Rattle.capnp_text.specs.Run.{Stuck, taken, run}
use Rattle.capnp_text.specs.Machine.{Step, to, stay, word, field, embed, with_part, on_word, begin, after_const, after_item, after_field, after, on_decl, begin_decl, on_id, on_id_end, on_using_name, on_using_equals, on_import, on_using_import, on_using_path, on_using_end, on_const_name, on_const_colon, on_type, on_typed, on_embed, on_dot, on_item, on_name, on_equals, in_value, step_at, step, start}
use Rattle.capnp_text.proofs.Equations.{depth_list, depth_struct, depth_field, depth_text, depth_data, depth_number, depth_word, depth_constant, depth_embed}

AllFit-push : (most : ℕ) (ds : List Decl) (d : Decl) → AllFit most ds → Fits most d → AllFit most (ds ++ d ∷ [])
AllFit-push most [] d h f = (f, tt)
AllFit-push most (x ∷ xs) d h f = (h.0, AllFit-push most xs d h.1 f)

HasParts-push : (ws : List Placed) (w : Placed) → HasParts (ws ++ w ∷ [])
HasParts-push [] w = tt
HasParts-push (v ∷ ws) w = tt

deepest-push : (most : ℕ) (ns : List ℕ) (n l : ℕ) → l + deepest ns ≤ most → l + n ≤ most → l + deepest (ns ++ n ∷ []) ≤ most
deepest-push most [] n l h k = omega arith
deepest-push most (m ∷ ns) n l h k = let i = deepest-push most ns n l (omega arith) k in omega arith

-- l brackets are open around the values
pub record Shallow (most l : ℕ) (vs : List Value) : Type 0 where
  pub below : l + deepest (map depth vs) ≤ most

pub record ShallowFields (most l : ℕ) (xs : List Field) : Type 0 where
  pub below : l + deepest (map field_depth xs) ≤ most

abbrev pub FineSpot : ℕ → ℕ → Spot → Type 0
FineSpot most l (spot.Item p vs) = Shallow most (l + 1) vs
FineSpot most l (spot.Name p xs) = ShallowFields most (l + 1) xs
FineSpot most l (spot.Equals p xs n) = ShallowFields most (l + 1) xs
FineSpot most l (spot.Done v) = l + depth v ≤ most
FineSpot most l _ = l ≤ most

abbrev pub FineFrames : ℕ → List Frame → Type 0
FineFrames most [] = Unit {0}
FineFrames most (frame.List p vs ∷ fs) = Shallow most (length fs + 1) vs × FineFrames most fs
FineFrames most (frame.Struct p xs n ∷ fs) = ShallowFields most (length fs + 1) xs × FineFrames most fs

abbrev pub FineAt : ℕ → At → Type 0
FineAt most (at.In h fs s) = HasParts h.type_ × FineFrames most fs × FineSpot most (length fs) s
FineAt most _ = Unit {0}

pub record Fine (most : ℕ) (s : State) : Type 0 where
  pub decls : AllFit most s.decls
  pub here : FineAt most s.at

abbrev pub FineStep : ℕ → Step → Type 0
FineStep most (Ok s) = Fine most s
FineStep most (Err k) = Unit {0}

module _ (most : ℕ) where
  with_value : (l : ℕ) (vs : List Value) (v : Value) → Shallow most l vs → l + depth v ≤ most → Shallow most l (vs ++ v ∷ [])
  with_value l vs v h k = record { below = subst (λ (z : List ℕ). l + deepest z ≤ most) (sym (map-append depth vs (v ∷ []))) (deepest-push most (map depth vs) (depth v) l h.below k) }

  with_field : (l : ℕ) (xs : List Field) (n : Placed) (v : Value) → ShallowFields most l xs → l + depth v ≤ most → ShallowFields most l (xs ++ field n v ∷ [])
  with_field l xs n v h k =
      let e = depth_field n v in
      record { below = subst (λ (z : List ℕ). l + deepest z ≤ most) (sym (map-append field_depth xs (field n v ∷ []))) (deepest-push most (map field_depth xs) (field_depth (field n v)) l h.below (omega arith)) }

  list_depth : (l p : ℕ) (vs : List Value) → Shallow most (l + 1) vs → l + depth (value.List p vs) ≤ most
  list_depth l p vs h = let e = depth_list p vs in omega (arith, h.below)

  struct_depth : (l p : ℕ) (xs : List Field) → ShallowFields most (l + 1) xs → l + depth (value.Struct p xs) ≤ most
  struct_depth l p xs h = let e = depth_struct p xs in omega (arith, h.below)

  leaf : (l : ℕ) (v : Value) → depth v ≡ 0 → l ≤ most → l + depth v ≤ most
  leaf l v e h = omega arith

  -- ---- values

  stays : (ds : List Decl) (h : Head) (fs : List Frame) (s : Spot) → AllFit most ds → HasParts h.type_ → FineFrames most fs → FineSpot most (length fs) s → FineStep most (stay ds h fs s)
  stays ds h fs s a b c d = record { decls = a; here = (b, c, d) }

  Fine-word : (ds : List Decl) (h : Head) (fs : List Frame) (p : ℕ) (b : List ℕ) (r : Bool) → AllFit most ds → HasParts h.type_ → FineFrames most fs → length fs ≤ most → FineStep most (on_word ds h fs p b r)
  Fine-word ds h fs p b true a c d e = stays ds h fs (spot.Embed p) a c d e
  Fine-word ds h fs p b false a c d e = stays ds h fs (spot.Done (value.Word (word p b))) a c d (leaf (length fs) (value.Word (word p b)) (depth_word (word p b)) e)

  Fine-room : (fs : List Frame) (o : Step) (r : Bool) → (r ≡ true → length fs < most) → (length fs < most → FineStep most o) → FineStep most (cond r o (Err refusal.TooDeep))
  Fine-room fs o true e f = f (e refl)
  Fine-room fs o false e f = tt

  Fine-begin : (ds : List Decl) (h : Head) (fs : List Frame) (p : ℕ) (t : TokenKind) → AllFit most ds → HasParts h.type_ → FineFrames most fs → length fs ≤ most → FineStep most (begin most ds h fs p t)
  Fine-begin ds h fs p (tok.Text b) a c d e = stays ds h fs (spot.Done (value.Text (word p b))) a c d (leaf (length fs) (value.Text (word p b)) (depth_text (word p b)) e)
  Fine-begin ds h fs p (tok.Data b) a c d e = stays ds h fs (spot.Done (value.Data (word p b))) a c d (leaf (length fs) (value.Data (word p b)) (depth_data (word p b)) e)
  Fine-begin ds h fs p (tok.Number b) a c d e = stays ds h fs (spot.Done (value.Number (word p b))) a c d (leaf (length fs) (value.Number (word p b)) (depth_number (word p b)) e)
  Fine-begin ds h fs p (tok.Name b) a c d e = Fine-word ds h fs p b (bytes_eq b (codes "embed")) a c d e
  Fine-begin ds h fs p tok.Dot a c d e = stays ds h fs (spot.Dot p) a c d e
  Fine-begin ds h fs p tok.OpenParen a c d e = Fine-room fs (stay ds h fs (spot.Name p [])) (nat_lt (length fs) most) (ltb-true (length fs) most) (λ l. stays ds h fs (spot.Name p []) a c d (record { below = omega arith }))
  Fine-begin ds h fs p tok.OpenBracket a c d e = Fine-room fs (stay ds h fs (spot.Item p [])) (nat_lt (length fs) most) (ltb-true (length fs) most) (λ l. stays ds h fs (spot.Item p []) a c d (record { below = omega arith }))
  Fine-begin ds h fs p _ a c d e = tt

  Fine-const : (ds : List Decl) (h : Head) (v : Value) (t : TokenKind) → AllFit most ds → HasParts h.type_ → depth v ≤ most → FineStep most (after_const ds h v t)
  Fine-const ds h v tok.Semicolon a c e = record { decls = AllFit-push most ds (decl.Const h.name h.type_ v) a (c, e); here = tt }
  Fine-const ds h v _ a c e = tt

  Fine-list : (ds : List Decl) (h : Head) (fs : List Frame) (q : ℕ) (vs : List Value) (t : TokenKind) → AllFit most ds → HasParts h.type_ → FineFrames most fs → Shallow most (length fs + 1) vs → FineStep most (after_item ds h fs q vs t)
  Fine-list ds h fs q vs tok.Comma a c d e = stays ds h fs (spot.Item q vs) a c d e
  Fine-list ds h fs q vs tok.CloseBracket a c d e = stays ds h fs (spot.Done (value.List q vs)) a c d (list_depth (length fs) q vs e)
  Fine-list ds h fs q vs _ a c d e = tt

  Fine-struct : (ds : List Decl) (h : Head) (fs : List Frame) (q : ℕ) (xs : List Field) (t : TokenKind) → AllFit most ds → HasParts h.type_ → FineFrames most fs → ShallowFields most (length fs + 1) xs → FineStep most (after_field ds h fs q xs t)
  Fine-struct ds h fs q xs tok.Comma a c d e = stays ds h fs (spot.Name q xs) a c d e
  Fine-struct ds h fs q xs tok.CloseParen a c d e = stays ds h fs (spot.Done (value.Struct q xs)) a c d (struct_depth (length fs) q xs e)
  Fine-struct ds h fs q xs _ a c d e = tt

  Fine-after : (ds : List Decl) (h : Head) (fs : List Frame) (v : Value) (t : TokenKind) → AllFit most ds → HasParts h.type_ → FineFrames most fs → length fs + depth v ≤ most → FineStep most (after ds h fs v t)
  Fine-after ds h [] v t a c d e = Fine-const ds h v t a c (omega arith)
  Fine-after ds h (frame.List q vs ∷ fs) v t a c d e = Fine-list ds h fs q (vs ++ v ∷ []) t a c d.1 (with_value (length fs + 1) vs v d.0 (omega arith))
  Fine-after ds h (frame.Struct q xs n ∷ fs) v t a c d e = Fine-struct ds h fs q (xs ++ field n v ∷ []) t a c d.1 (with_field (length fs + 1) xs n v d.0 (omega arith))

  Fine-embed : (ds : List Decl) (h : Head) (fs : List Frame) (q p : ℕ) (t : TokenKind) → AllFit most ds → HasParts h.type_ → FineFrames most fs → length fs ≤ most → FineStep most (on_embed ds h fs q p t)
  Fine-embed ds h fs q p (tok.Text b) a c d e = stays ds h fs (spot.Done (value.Embed q (word p b))) a c d (leaf (length fs) (value.Embed q (word p b)) (depth_embed q (word p b)) e)
  Fine-embed ds h fs q p t a c d e = Fine-after ds h fs (value.Word (embed q)) t a c d (leaf (length fs) (value.Word (embed q)) (depth_word (embed q)) e)

  Fine-dot : (ds : List Decl) (h : Head) (fs : List Frame) (q p : ℕ) (t : TokenKind) → AllFit most ds → HasParts h.type_ → FineFrames most fs → length fs ≤ most → FineStep most (on_dot ds h fs q p t)
  Fine-dot ds h fs q p (tok.Name b) a c d e = stays ds h fs (spot.Done (value.Constant q (word p b))) a c d (leaf (length fs) (value.Constant q (word p b)) (depth_constant q (word p b)) e)
  Fine-dot ds h fs q p _ a c d e = tt

  Fine-item : (ds : List Decl) (h : Head) (fs : List Frame) (q : ℕ) (vs : List Value) (p : ℕ) (t : TokenKind) → AllFit most ds → HasParts h.type_ → FineFrames most fs → Shallow most (length fs + 1) vs → FineStep most (on_item most ds h fs q vs p t)
  Fine-item ds h fs q vs p tok.CloseBracket a c d e = stays ds h fs (spot.Done (value.List q vs)) a c d (list_depth (length fs) q vs e)
  Fine-item ds h fs q vs p t a c d e = Fine-begin ds h (frame.List q vs ∷ fs) p t a c (e, d) (omega (arith, e.below))

  Fine-name : (ds : List Decl) (h : Head) (fs : List Frame) (q : ℕ) (xs : List Field) (p : ℕ) (t : TokenKind) → AllFit most ds → HasParts h.type_ → FineFrames most fs → ShallowFields most (length fs + 1) xs → FineStep most (on_name ds h fs q xs p t)
  Fine-name ds h fs q xs p tok.CloseParen a c d e = stays ds h fs (spot.Done (value.Struct q xs)) a c d (struct_depth (length fs) q xs e)
  Fine-name ds h fs q xs p (tok.Name b) a c d e = stays ds h fs (spot.Equals q xs (word p b)) a c d e
  Fine-name ds h fs q xs p _ a c d e = tt

  Fine-equals : (ds : List Decl) (h : Head) (fs : List Frame) (q : ℕ) (xs : List Field) (n : Placed) (t : TokenKind) → AllFit most ds → HasParts h.type_ → FineFrames most fs → ShallowFields most (length fs + 1) xs → FineStep most (on_equals ds h fs q xs n t)
  Fine-equals ds h fs q xs n tok.Equals a c d e = stays ds h (frame.Struct q xs n ∷ fs) spot.Begin a c (e, d) (omega (arith, e.below))
  Fine-equals ds h fs q xs n _ a c d e = tt

  Fine-value : (ds : List Decl) (h : Head) (fs : List Frame) (s : Spot) (p : ℕ) (t : TokenKind) → AllFit most ds → HasParts h.type_ → FineFrames most fs → FineSpot most (length fs) s → FineStep most (in_value most ds h fs s p t)
  Fine-value ds h fs spot.Begin p t a c d e = Fine-begin ds h fs p t a c d e
  Fine-value ds h fs (spot.Embed q) p t a c d e = Fine-embed ds h fs q p t a c d e
  Fine-value ds h fs (spot.Dot q) p t a c d e = Fine-dot ds h fs q p t a c d e
  Fine-value ds h fs (spot.Item q vs) p t a c d e = Fine-item ds h fs q vs p t a c d e
  Fine-value ds h fs (spot.Name q xs) p t a c d e = Fine-name ds h fs q xs p t a c d e
  Fine-value ds h fs (spot.Equals q xs n) p t a c d e = Fine-equals ds h fs q xs n t a c d e
  Fine-value ds h fs (spot.Done v) p t a c d e = Fine-after ds h fs v t a c d e

  -- ---- declarations

  goes : (ds : List Decl) (a : At) → AllFit most ds → FineAt most a → FineStep most (to ds a)
  goes ds a f h = record { decls = f; here = h }

  Fine-decl : (ds : List Decl) (a b : Bool) → AllFit most ds → FineStep most (on_decl ds a b)
  Fine-decl ds true b f = goes ds at.ConstName f tt
  Fine-decl ds false true f = goes ds at.UsingName f tt
  Fine-decl ds false false f = tt

  Fine-begin_decl : (ds : List Decl) (t : TokenKind) → AllFit most ds → FineStep most (begin_decl ds t)
  Fine-begin_decl ds (tok.Name w) f = Fine-decl ds (bytes_eq w (codes "const")) (bytes_eq w (codes "using")) f
  Fine-begin_decl ds tok.At f = goes ds at.Id f tt
  Fine-begin_decl ds _ f = tt

  Fine-id : (ds : List Decl) (p : ℕ) (t : TokenKind) → AllFit most ds → FineStep most (on_id ds p t)
  Fine-id ds p (tok.Hex w) f = goes ds (at.IdEnd (word p w)) f tt
  Fine-id ds p _ f = tt

  Fine-id_end : (ds : List Decl) (id : Placed) (t : TokenKind) → AllFit most ds → FineStep most (on_id_end ds id t)
  Fine-id_end ds id tok.Semicolon f = goes (ds ++ decl.Id id ∷ []) at.Decl (AllFit-push most ds (decl.Id id) f tt) tt
  Fine-id_end ds id _ f = tt

  Fine-using_name : (ds : List Decl) (p : ℕ) (t : TokenKind) → AllFit most ds → FineStep most (on_using_name ds p t)
  Fine-using_name ds p (tok.Name w) f = goes ds (at.UsingEquals (word p w)) f tt
  Fine-using_name ds p _ f = tt

  Fine-using_equals : (ds : List Decl) (n : Placed) (t : TokenKind) → AllFit most ds → FineStep most (on_using_equals ds n t)
  Fine-using_equals ds n tok.Equals f = goes ds (at.UsingImport n) f tt
  Fine-using_equals ds n _ f = tt

  Fine-import : (ds : List Decl) (n : Placed) (r : Bool) → AllFit most ds → FineStep most (on_import ds n r)
  Fine-import ds n true f = goes ds (at.UsingPath n) f tt
  Fine-import ds n false f = tt

  Fine-using_import : (ds : List Decl) (n : Placed) (t : TokenKind) → AllFit most ds → FineStep most (on_using_import ds n t)
  Fine-using_import ds n (tok.Name w) f = Fine-import ds n (bytes_eq w (codes "import")) f
  Fine-using_import ds n _ f = tt

  Fine-using_path : (ds : List Decl) (n : Placed) (p : ℕ) (t : TokenKind) → AllFit most ds → FineStep most (on_using_path ds n p t)
  Fine-using_path ds n p (tok.Text w) f = goes ds (at.UsingEnd n (word p w)) f tt
  Fine-using_path ds n p _ f = tt

  Fine-using_end : (ds : List Decl) (n w : Placed) (t : TokenKind) → AllFit most ds → FineStep most (on_using_end ds n w t)
  Fine-using_end ds n w tok.Semicolon f = goes (ds ++ decl.Using n w ∷ []) at.Decl (AllFit-push most ds (decl.Using n w) f tt) tt
  Fine-using_end ds n w _ f = tt

  Fine-const_name : (ds : List Decl) (p : ℕ) (t : TokenKind) → AllFit most ds → FineStep most (on_const_name ds p t)
  Fine-const_name ds p (tok.Name w) f = goes ds (at.ConstColon (word p w)) f tt
  Fine-const_name ds p _ f = tt

  Fine-const_colon : (ds : List Decl) (n : Placed) (t : TokenKind) → AllFit most ds → FineStep most (on_const_colon ds n t)
  Fine-const_colon ds n tok.Colon f = goes ds (at.Type (record { name = n; type_ = [] })) f tt
  Fine-const_colon ds n _ f = tt

  Fine-type : (ds : List Decl) (h : Head) (p : ℕ) (t : TokenKind) → AllFit most ds → FineStep most (on_type ds h p t)
  Fine-type ds h p (tok.Name w) f = goes ds (at.Typed h (word p w)) f tt
  Fine-type ds h p _ f = tt

  Fine-typed : (ds : List Decl) (h : Head) (w : Placed) (t : TokenKind) → AllFit most ds → FineStep most (on_typed ds h w t)
  Fine-typed ds h w tok.Dot f = goes ds (at.Type (with_part h w)) f tt
  Fine-typed ds h w tok.Equals f = stays ds (with_part h w) [] spot.Begin f (HasParts-push h.type_ w) tt (omega arith)
  Fine-typed ds h w _ f = tt

  Fine-at : (ds : List Decl) (a : At) (p : ℕ) (t : TokenKind) → AllFit most ds → FineAt most a → FineStep most (step_at most ds a p t)
  Fine-at ds at.Decl p t f g = Fine-begin_decl ds t f
  Fine-at ds at.Id p t f g = Fine-id ds p t f
  Fine-at ds (at.IdEnd id) p t f g = Fine-id_end ds id t f
  Fine-at ds at.UsingName p t f g = Fine-using_name ds p t f
  Fine-at ds (at.UsingEquals n) p t f g = Fine-using_equals ds n t f
  Fine-at ds (at.UsingImport n) p t f g = Fine-using_import ds n t f
  Fine-at ds (at.UsingPath n) p t f g = Fine-using_path ds n p t f
  Fine-at ds (at.UsingEnd n w) p t f g = Fine-using_end ds n w t f
  Fine-at ds at.ConstName p t f g = Fine-const_name ds p t f
  Fine-at ds (at.ConstColon n) p t f g = Fine-const_colon ds n t f
  Fine-at ds (at.Type h) p t f g = Fine-type ds h p t f
  Fine-at ds (at.Typed h w) p t f g = Fine-typed ds h w t f
  Fine-at ds (at.In h fs s) p t f g = Fine-value ds h fs s p t f g.0 g.1 g.2

  pub Fine-step : (s : State) (t : Token) → Fine most s → FineStep most (step most s t)
  Fine-step s t f = Fine-at s.decls s.at t.place t.kind f.decls f.here

  -- ---- runs

  abbrev pub FineRun : Result State (Stuck Token Refusal) → Type 0
  FineRun (Ok s) = Fine most s
  FineRun (Err k) = Unit {0}

  Fine-taken : (o : Step) (t : Token) (ts : List Token) → FineStep most o → ((n : State) → Fine most n → FineRun (run (step most) n ts)) → FineRun (taken o t ts (λ n. run (step most) n ts))
  Fine-taken (Ok n) t ts f g = g n f
  Fine-taken (Err k) t ts f g = tt

  pub Fine-run : (ts : List Token) (s : State) → Fine most s → FineRun (run (step most) s ts)
  Fine-run [] s f = f
  Fine-run (t ∷ ts) s f = Fine-taken (step most s t) t ts (Fine-step s t f) (λ n. Fine-run ts n)

  pub fine_start : Fine most start
  fine_start = record { decls = tt; here = tt }
