-- What the machine does not take, no file goes on with.
use Rattle.std.proofs.Common.{◌≡◌, ℕ, List, [], ◌∷◌, ◌++◌, Ok, Err, refl, ◌∙◌, subst}
use Rattle.std.specs.Prelude.{codes}
use Rattle.capnp_text.specs.declared.token.TokenKind.{TokenKind}
use Rattle.capnp_text.specs.declared.token.TokenKind.TheVariants as tok
use Rattle.capnp_text.specs.declared.token.Token.{Token}
use Rattle.capnp_text.specs.declared.tree.Placed.{Placed}
use Rattle.capnp_text.specs.declared.tree.Value.{Value}
use Rattle.capnp_text.specs.declared.tree.Value.TheVariants as value
use Rattle.capnp_text.specs.declared.tree.Decl.{Decl}
use Rattle.capnp_text.specs.declared.machine.Head.{Head}
use Rattle.capnp_text.specs.declared.machine.Frame.{Frame}
use Rattle.capnp_text.specs.declared.machine.Frame.TheVariants as frame
use Rattle.capnp_text.specs.declared.machine.Spot.{Spot}
use Rattle.capnp_text.specs.declared.machine.Spot.TheVariants as spot
use Rattle.capnp_text.specs.declared.machine.At.{At}
use Rattle.capnp_text.specs.declared.machine.At.TheVariants as at
use Rattle.capnp_text.specs.declared.machine.State.{State}
use Rattle.capnp_text.specs.declared.machine.Refusal.{Refusal}
use Rattle.capnp_text.specs.Grammar.{IsFile, IsViable}
use Rattle.capnp_text.specs.Run.{run}
use Rattle.capnp_text.specs.Machine.{word, step, start, read}
use Rattle.capnp_text.proofs.Runs.{run_step, run_stuck, run_append, Front, front}
use Rattle.capnp_text.proofs.Sound.{placed, Whole, run_sound}
use Rattle.capnp_text.proofs.Bounds.{Fine, FineRun, Fine-run, fine_start}
use Rattle.capnp_text.proofs.Complete.{inside, between, state_at, complete}

module _ (most : ℕ) where
  -- ---- each state has an end

  record Ending (s : State) : Type 0 where
    more : List Token
    decls : List Decl
    ran : run (step most) s more ≡ Ok (between decls)

  then : (s n : State) (t : TokenKind) → step most s (placed 0 t) ≡ Ok n → Ending n → Ending s
  then s n t e r = record { more = placed 0 t ∷ r.more; decls = r.decls; ran = run_step (step most) s n (placed 0 t) r.more e ∙ r.ran }

  ended : (ds : List Decl) → Ending (between ds)
  ended ds = record { more = []; decls = ds; ran = refl }

  end_done : (fs : List Frame) (ds : List Decl) (h : Head) (v : Value) → Ending (inside ds h fs (spot.Done v))
  end_done [] ds h v = then _ (between _) tok.Semicolon refl (ended _)
  end_done (frame.List p vs ∷ fs) ds h v = then _ (inside ds h fs (spot.Done _)) tok.CloseBracket refl (end_done fs ds h _)
  end_done (frame.Struct p xs n ∷ fs) ds h v = then _ (inside ds h fs (spot.Done _)) tok.CloseParen refl (end_done fs ds h _)

  abbrev none : Placed
  none = word 0 []

  end_begin : (ds : List Decl) (h : Head) (fs : List Frame) → Ending (inside ds h fs spot.Begin)
  end_begin ds h fs = then _ (inside ds h fs (spot.Done (value.Text none))) (tok.Text []) refl (end_done fs ds h (value.Text none))

  end_value : (ds : List Decl) (h : Head) (fs : List Frame) (s : Spot) → Ending (inside ds h fs s)
  end_value ds h fs spot.Begin = end_begin ds h fs
  end_value ds h fs (spot.Embed q) = then _ (inside ds h fs (spot.Done (value.Embed q none))) (tok.Text []) refl (end_done fs ds h (value.Embed q none))
  end_value ds h fs (spot.Dot q) = then _ (inside ds h fs (spot.Done (value.Constant q none))) (tok.Name []) refl (end_done fs ds h (value.Constant q none))
  end_value ds h fs (spot.Item q vs) = then _ (inside ds h fs (spot.Done (value.List q vs))) tok.CloseBracket refl (end_done fs ds h (value.List q vs))
  end_value ds h fs (spot.Name q xs) = then _ (inside ds h fs (spot.Done (value.Struct q xs))) tok.CloseParen refl (end_done fs ds h (value.Struct q xs))
  end_value ds h fs (spot.Equals q xs n) = then _ (inside ds h (frame.Struct q xs n ∷ fs) spot.Begin) tok.Equals refl (end_begin ds h (frame.Struct q xs n ∷ fs))
  end_value ds h fs (spot.Done v) = end_done fs ds h v

  end_typed : (ds : List Decl) (h : Head) (w : Placed) → Ending (state_at ds (at.Typed h w))
  end_typed ds h w = then _ (inside ds _ [] spot.Begin) tok.Equals refl (end_begin ds _ [])

  end_type : (ds : List Decl) (h : Head) → Ending (state_at ds (at.Type h))
  end_type ds h = then _ (state_at ds (at.Typed h none)) (tok.Name []) refl (end_typed ds h none)

  end_colon : (ds : List Decl) (n : Placed) → Ending (state_at ds (at.ConstColon n))
  end_colon ds n = then _ (state_at ds (at.Type _)) tok.Colon refl (end_type ds _)

  end_using : (ds : List Decl) (n w : Placed) → Ending (state_at ds (at.UsingEnd n w))
  end_using ds n w = then _ (between _) tok.Semicolon refl (ended _)

  end_path : (ds : List Decl) (n : Placed) → Ending (state_at ds (at.UsingPath n))
  end_path ds n = then _ (state_at ds (at.UsingEnd n none)) (tok.Text []) refl (end_using ds n none)

  end_import : (ds : List Decl) (n : Placed) → Ending (state_at ds (at.UsingImport n))
  end_import ds n = then _ (state_at ds (at.UsingPath n)) (tok.Name (codes "import")) refl (end_path ds n)

  end_equals : (ds : List Decl) (n : Placed) → Ending (state_at ds (at.UsingEquals n))
  end_equals ds n = then _ (state_at ds (at.UsingImport n)) tok.Equals refl (end_import ds n)

  end_id : (ds : List Decl) (n : Placed) → Ending (state_at ds (at.IdEnd n))
  end_id ds n = then _ (between _) tok.Semicolon refl (ended _)

  end_at : (ds : List Decl) (a : At) → Ending (state_at ds a)
  end_at ds at.Decl = ended ds
  end_at ds at.Id = then _ (state_at ds (at.IdEnd none)) (tok.Hex []) refl (end_id ds none)
  end_at ds (at.IdEnd n) = end_id ds n
  end_at ds at.UsingName = then _ (state_at ds (at.UsingEquals none)) (tok.Name []) refl (end_equals ds none)
  end_at ds (at.UsingEquals n) = end_equals ds n
  end_at ds (at.UsingImport n) = end_import ds n
  end_at ds (at.UsingPath n) = end_path ds n
  end_at ds (at.UsingEnd n w) = end_using ds n w
  end_at ds at.ConstName = then _ (state_at ds (at.ConstColon none)) (tok.Name []) refl (end_colon ds none)
  end_at ds (at.ConstColon n) = end_colon ds n
  end_at ds (at.Type h) = end_type ds h
  end_at ds (at.Typed h w) = end_typed ds h w
  end_at ds (at.In h fs s) = end_value ds h fs s

  -- ---- the laws

  -- What is read is in the grammar.
  pub sound : (ts : List Token) (ds : List Decl) → read most ts ≡ Ok (between ds) → IsFile most ds ts
  sound ts ds h =
      let f : Fine most (between ds) = subst (FineRun most) h (Fine-run most ts start (fine_start most)) in
      record { fits = f.decls; tokens = subst (Whole ts) h (run_sound most ts start [] refl) }

  -- What the machine has taken, a file goes on with.
  pub viable : (ts : List Token) (s : State) → read most ts ≡ Ok s → IsViable most ts
  viable ts s h =
      let e : Ending s = end_at s.decls s.at in
      record { decls = e.decls; more = e.more; file = sound (ts ++ e.more) e.decls (run_append (step most) ts e.more start s h ∙ e.ran) }

  -- What a file goes on with, the machine takes.
  pub taken_so : (ts : List Token) → IsViable most ts → Front (step most) start ts
  taken_so ts v = front (step most) ts v.more start (between v.decls) (complete most v.decls (ts ++ v.more) v.file)

  -- What it refuses, no file goes on with.
  pub no_file : (before : List Token) (t : Token) (r : State) (k : Refusal) → read most before ≡ Ok r → step most r t ≡ Err k → IsViable most (before ++ t ∷ []) → ⊥
  no_file before t r k h e v =
      let f : Front (step most) start (before ++ t ∷ []) = taken_so (before ++ t ∷ []) v in
      let stuck : read most (before ++ t ∷ []) ≡ Err (record { why = k; item = t; rest = [] }) = run_append (step most) before (t ∷ []) start r h ∙ run_stuck (step most) r t [] k e in
      let ran = f.ran in cc

  -- A file is read to its own end.
  pub whole_file : (ts : List Token) (s : State) (ds : List Decl) → read most ts ≡ Ok s → IsFile most ds ts → s ≡ between ds
  whole_file ts s ds h f = let r = complete most ds ts f in cc

  pub taken_more : (before : List Token) (t : Token) (r n : State) → read most before ≡ Ok r → step most r t ≡ Ok n → read most (before ++ t ∷ []) ≡ Ok n
  taken_more before t r n h e = run_append (step most) before (t ∷ []) start r h ∙ run_step (step most) r n t [] e
