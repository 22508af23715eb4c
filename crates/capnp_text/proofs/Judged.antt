-- What is answered is the text's tree, or its first fault.
use Rattle.std.proofs.Common.{◌≡◌, ℕ, ◌+◌, false, List, [], ◌∷◌, ◌++◌, length, Result, Ok, Err, refl, sym, ap, ◌∙◌, subst, ◌⊎◌, inl, inr}
use Rattle.std.specs.Prelude.{IfOk}
use Rattle.capnp_text.specs.declared.token.Token.{Token}
use Rattle.capnp_text.specs.declared.scan.Stop.{Stop}
use Rattle.capnp_text.specs.declared.scan.Stop.TheVariants as stop
use Rattle.capnp_text.specs.declared.scan.Tokens.{Tokens}
use Rattle.capnp_text.specs.declared.tree.Decl.{Decl}
use Rattle.capnp_text.specs.declared.machine.At.{At}
use Rattle.capnp_text.specs.declared.machine.At.TheVariants as at
use Rattle.capnp_text.specs.declared.machine.State.{State}
use Rattle.capnp_text.specs.declared.machine.Refusal.{Refusal}
use Rattle.capnp_text.specs.declared.machine.Refusal.TheVariants as refusal
use Rattle.capnp_text.specs.declared.reader.TextKind.{TextKind}
use Rattle.capnp_text.specs.declared.reader.TextKind.TheVariants as kind
use Rattle.capnp_text.specs.declared.reader.TextFault.{TextFault}
use Rattle.capnp_text.specs.declared.reader.ParseEnd.{ParseEnd}
use Rattle.capnp_text.specs.declared.reader.ParseEnd.TheVariants.{Fault, NoMemory}
use Rattle.capnp_text.specs.Lexed.{StopsSo}
use Rattle.capnp_text.specs.Scan.{scanned}
use Rattle.capnp_text.specs.Grammar.{IsFile, IsViable, most_open}
use Rattle.capnp_text.specs.Run.{Stuck}
use Rattle.capnp_text.specs.Machine.{begin_decl, step, start, read}
use Rattle.capnp_text.specs.Fault.{IsText, Because, AtToken, EndsSo, AtStop, IsFirstFault, IfFault, IsOnly, IsOnlyFault}
use Rattle.capnp_text.specs.Answer.{kind_of, ran, fault, finished, at_stop, judged, answer, Tells}
use Rattle.capnp_text.proofs.LexComplete.{cut_complete}
use Rattle.capnp_text.proofs.LexLaws.{has_tokens, tokens_only}
use Rattle.capnp_text.proofs.Runs.{StopsAt, stops_at, Front, run_append, run_stuck}
use Rattle.capnp_text.proofs.Ends.{not_finished}
use Rattle.capnp_text.proofs.Bounds.{Fine, FineRun, Fine-run, fine_start}
use Rattle.capnp_text.proofs.Complete.{between, complete}
use Rattle.capnp_text.proofs.First.{sound, viable, taken_so, no_file, whole_file, taken_more}
use Rattle.capnp_text.proofs.Wider.{Wider, wider_step, wider_read, bad_decl, decl_refused}

-- ---- why a token is refused

fine_at : (ts : List Token) (s : State) → read most_open ts ≡ Ok s → Fine most_open s
fine_at ts s h = subst (FineRun most_open) h (Fine-run most_open ts start (fine_start most_open))

-- between declarations the state is that of whole ones
at_decl : (s : State) → s.at ≡ at.Decl → s ≡ between s.decls
at_decl s e = ap (λ (a : At). let n : State = record { decls = s.decls; at = a } in n) e

because_deep : (before : List Token) (t : Token) (s : State) → read most_open before ≡ Ok s → step most_open s t ≡ Err refusal.TooDeep → IsViable (most_open + 1) (before ++ t ∷ [])
because_deep before t s h e =
    let w : (n : State) × (step (most_open + 1) s t ≡ Ok n) = subst (λ o. Wider o (step (most_open + 1) s t)) e (wider_step most_open s t (fine_at before s h)) in
    viable (most_open + 1) (before ++ t ∷ []) w.0 (taken_more (most_open + 1) before t s w.0 (wider_read most_open before s h) w.1)

because_decl : (before : List Token) (t : Token) (s : State) → read most_open before ≡ Ok s → step most_open s t ≡ Err refusal.BadDecl → (ds : List Decl) × IsFile most_open ds before
because_decl before t s h e =
    let same : s ≡ between s.decls = at_decl s (bad_decl most_open s t (fine_at before s h) e) in
    (s.decls, sound most_open before s.decls (h ∙ ap (λ (z : State). let r : Result State (Stuck Token Refusal) = Ok z in r) same))

no_bad_token : (s : State) (ds : List Decl) (t : Token) → s ≡ between ds → step most_open s t ≡ Err refusal.BadToken → ⊥
no_bad_token s ds t same e =
    let here : begin_decl ds t.kind ≡ Err refusal.BadToken = subst (λ (z : State). step most_open z t ≡ Err refusal.BadToken) same e in
    let wrong : refusal.BadToken ≡ refusal.BadDecl = decl_refused ds t.kind refusal.BadToken here in cc

because_token : (before : List Token) (t : Token) (s : State) → read most_open before ≡ Ok s → step most_open s t ≡ Err refusal.BadToken → Because kind.BadToken before t
because_token before t s h e =
    let w : step (most_open + 1) s t ≡ Err refusal.BadToken = subst (λ o. Wider o (step (most_open + 1) s t)) e (wider_step most_open s t (fine_at before s h)) in
    (λ ds f. no_bad_token s ds t (whole_file most_open before s ds h f) e, no_file (most_open + 1) before t s refusal.BadToken (wider_read most_open before s h) w)

because : (before : List Token) (t : Token) (s : State) (k : Refusal) → read most_open before ≡ Ok s → step most_open s t ≡ Err k → Because (kind_of k) before t
because before t s refusal.BadToken h e = because_token before t s h e
because before t s refusal.BadDecl h e = because_decl before t s h e
because before t s refusal.TooDeep h e = because_deep before t s h e

-- between declarations no bracket is too deep
no_deep_decl : (before : List Token) (t : Token) (s : State) (k : Refusal) → read most_open before ≡ Ok s → step most_open s t ≡ Err k → (ds : List Decl) → IsFile most_open ds before → IsViable (most_open + 1) (before ++ t ∷ []) → ⊥
no_deep_decl before t s k h e ds f v =
    let same : s ≡ between ds = whole_file most_open before s ds h f in
    let here : begin_decl ds t.kind ≡ Err k = subst (λ (z : State). step most_open z t ≡ Err k) same e in
    let wide : step (most_open + 1) s t ≡ Err k = subst (λ (z : State). step (most_open + 1) z t ≡ Err k) (sym same) here in
    no_file (most_open + 1) before t s k (wider_read most_open before s h) wide v

-- the reason tells the kind
one_kind : (before : List Token) (t : Token) (s : State) (k : Refusal) (j : TextKind) → read most_open before ≡ Ok s → step most_open s t ≡ Err k → Because (kind_of k) before t → Because j before t → kind_of k ≡ j
one_kind before t s refusal.BadToken kind.BadToken h e b c = refl
one_kind before t s refusal.BadToken kind.BadDecl h e b c = absurd (b.0 c.0 c.1)
one_kind before t s refusal.BadToken kind.TooDeep h e b c = absurd (b.1 c)
one_kind before t s refusal.BadDecl kind.BadToken h e b c = absurd (c.0 b.0 b.1)
one_kind before t s refusal.BadDecl kind.BadDecl h e b c = refl
one_kind before t s refusal.BadDecl kind.TooDeep h e b c = absurd (no_deep_decl before t s refusal.BadDecl h e b.0 b.1 c)
one_kind before t s refusal.TooDeep kind.BadToken h e b c = absurd (c.1 b)
one_kind before t s refusal.TooDeep kind.BadDecl h e b c = absurd (no_deep_decl before t s refusal.TooDeep h e c.0 c.1 b)
one_kind before t s refusal.TooDeep kind.TooDeep h e b c = refl
one_kind before t s k kind.BadByte h e b c = absurd c
one_kind before t s k kind.Unclosed h e b c = absurd c

-- ---- a tree

finished_at : (p : ℕ) (ds es : List Decl) (a : At) → finished p ds a ≡ Ok es → (a ≡ at.Decl) × (ds ≡ es)
finished_at p ds es at.Decl h = (refl, cc)
finished_at p ds es _ h = cc

tree_read : (bs : List ℕ) (ts : List Token) (p : ℕ) (stop_ : Stop) (read_ : Result State (Stuck Token Refusal)) (ds : List Decl) → StopsSo bs ts p stop_ → read most_open ts ≡ read_ → judged stop_ p (ran read_) ≡ Ok ds → IsText ds bs
tree_read bs ts p stop.End (Ok s) ds h r e =
    let f : (s.at ≡ at.Decl) × (s.decls ≡ ds) = finished_at p s.decls ds s.at e in
    let same : s ≡ between ds = at_decl s f.0 ∙ ap between f.1 in
    record { tokens = ts; lexed = h.0; is_file = sound most_open ts ds (r ∙ ap (λ (z : State). let k : Result State (Stuck Token Refusal) = Ok z in k) same) }
tree_read bs ts p stop.Open (Ok s) ds h r e = cc
tree_read bs ts p stop.BadByte (Ok s) ds h r e = cc
tree_read bs ts p stop_ (Err k) ds h r e = cc

-- An answered tree is the text's.
tree_sound : (bs : List ℕ) (ds : List Decl) → answer (scanned bs) ≡ Ok ds → IsText ds bs
tree_sound bs ds h = let t = scanned bs in tree_read bs t.tokens t.place t.stop (read most_open t.tokens) ds (has_tokens bs).stops refl h

-- The text's tree is answered.
tree_complete : (bs : List ℕ) (ds : List Decl) → IsText ds bs → answer (scanned bs) ≡ Ok ds
tree_complete bs ds f =
    ap answer (cut_complete bs f.tokens false f.lexed) ∙ ap (λ r. judged stop.End (length bs) (ran r)) (complete most_open ds f.tokens f.is_file)

-- ---- a fault

at_token : (ts : List Token) (k : Stuck Token Refusal) → read most_open ts ≡ Err k → AtToken ts (record { kind = kind_of k.why; place = k.item.place })
at_token ts k h =
    let r : StopsAt (step most_open) start ts k = stops_at (step most_open) ts start k h in
    record {
      before = r.before;
      token = k.item;
      rest = k.rest;
      is = r.is;
      viable = viable most_open r.before r.reached r.ran;
      refused = no_file most_open r.before k.item r.reached k.why r.ran r.refused;
      at = refl;
      because = because r.before k.item r.reached k.why r.ran r.refused;
    }

unfinished : (p : ℕ) (ds : List Decl) (a : At) (f : TextFault) → finished p ds a ≡ Err f → (a ≡ at.Decl → ⊥) × (record { kind = kind.Unclosed; place = p } ≡ f)
unfinished p ds at.Decl f h = cc
unfinished p ds _ f h = (λ e. cc, cc)

at_end : (bs : List ℕ) (ts : List Token) (p : ℕ) (stop_ : Stop) (s : State) (f : TextFault) → read most_open ts ≡ Ok s → at_stop stop_ p s ≡ Err f → AtStop (record { tokens = ts; stop = stop_; place = p }) f
at_end bs ts p stop.End s f r e =
    let u : (s.at ≡ at.Decl → ⊥) × (record { kind = kind.Unclosed; place = p } ≡ f) = unfinished p s.decls s.at f e in
    record {
      viable = viable most_open ts s r;
      at = sym (ap (λ (z : TextFault). z.place) u.1);
      ends = (sym (ap (λ (z : TextFault). z.kind) u.1), λ ds g. u.0 (ap (λ (z : State). z.at) (whole_file most_open ts s ds r g)));
    }
at_end bs ts p stop.Open s f r e =
    let u : record { kind = kind.Unclosed; place = p } ≡ f = cc in
    record { viable = viable most_open ts s r; at = sym (ap (λ (z : TextFault). z.place) u); ends = sym (ap (λ (z : TextFault). z.kind) u) }
at_end bs ts p stop.BadByte s f r e =
    let u : record { kind = kind.BadByte; place = p } ≡ f = cc in
    record { viable = viable most_open ts s r; at = sym (ap (λ (z : TextFault). z.place) u); ends = sym (ap (λ (z : TextFault). z.kind) u) }

fault_read : (bs : List ℕ) (t : Tokens) (read_ : Result State (Stuck Token Refusal)) (f : TextFault) → read most_open t.tokens ≡ read_ → judged t.stop t.place (ran read_) ≡ Err f → AtToken t.tokens f ⊎ AtStop t f
fault_read bs t (Ok s) f r e = inr (at_end bs t.tokens t.place t.stop s f r e)
fault_read bs t (Err k) f r e = let same : record { kind = kind_of k.why; place = k.item.place } ≡ f = cc in inl (subst (AtToken t.tokens) same (at_token t.tokens k r))

-- An answered fault is the text's first.
fault_sound : (bs : List ℕ) (f : TextFault) → answer (scanned bs) ≡ Err f → IsFirstFault f bs
fault_sound bs f h = record { tokens = scanned bs; are = has_tokens bs; fault = fault_read bs (scanned bs) (read most_open (scanned bs).tokens) f refl h }

refused_so : (before : List Token) (t : Token) (s : State) (made : Result State Refusal) → read most_open before ≡ Ok s → step most_open s t ≡ made → (IsViable most_open (before ++ t ∷ []) → ⊥) → (k : Refusal) × (made ≡ Err k)
refused_so before t s (Ok n) h e f = absurd (f (viable most_open (before ++ t ∷ []) n (taken_more most_open before t s n h e)))
refused_so before t s (Err k) h e f = (k, refl)

token_only : (t : Tokens) (f : TextFault) → AtToken t.tokens f → answer t ≡ Err f
token_only t f a =
    let r : Front (step most_open) start a.before = taken_so most_open a.before a.viable in
    let d : (k : Refusal) × (step most_open r.reached a.token ≡ Err k) = refused_so a.before a.token r.reached (step most_open r.reached a.token) r.ran refl a.refused in
    let stuck : read most_open (a.before ++ a.token ∷ a.rest) ≡ Err (record { why = d.0; item = a.token; rest = a.rest }) = run_append (step most_open) a.before (a.token ∷ a.rest) start r.reached r.ran ∙ run_stuck (step most_open) r.reached a.token a.rest d.0 d.1 in
    let same : kind_of d.0 ≡ f.kind = one_kind a.before a.token r.reached d.0 f.kind r.ran d.1 (because a.before a.token r.reached d.0 r.ran d.1) a.because in
    ap (λ x. judged t.stop t.place (ran x)) (ap (read most_open) a.is ∙ stuck)
    ∙ ap (λ (k : TextKind). fault k a.token.place) same ∙ ap (fault f.kind) (sym a.at)

stop_only : (ts : List Token) (p : ℕ) (stop_ : Stop) (k : TextKind) (s : State) → read most_open ts ≡ Ok s → EndsSo stop_ k ts → at_stop stop_ p s ≡ fault k p
stop_only ts p stop.End k s r e =
    not_finished p s.decls s.at (λ d. e.1 s.decls (sound most_open ts s.decls (r ∙ ap (λ (z : State). let x : Result State (Stuck Token Refusal) = Ok z in x) (at_decl s d)))) ∙ ap (λ (z : TextKind). fault z p) (sym e.0)
stop_only ts p stop.Open k s r e = ap (λ (z : TextKind). fault z p) (sym e)
stop_only ts p stop.BadByte k s r e = ap (λ (z : TextKind). fault z p) (sym e)

at_stop_only : (t : Tokens) (f : TextFault) → AtStop t f → answer t ≡ Err f
at_stop_only t f a =
    let r : Front (step most_open) start t.tokens = taken_so most_open t.tokens a.viable in
    ap (λ x. judged t.stop t.place (ran x)) r.ran ∙ stop_only t.tokens t.place t.stop f.kind r.reached r.ran a.ends ∙ ap (fault f.kind) (sym a.at)

by_fault : (t : Tokens) (f : TextFault) → AtToken t.tokens f ⊎ AtStop t f → answer t ≡ Err f
by_fault t f (inl a) = token_only t f a
by_fault t f (inr a) = at_stop_only t f a

-- The text's first fault is answered.
fault_complete : (bs : List ℕ) (f : TextFault) → IsFirstFault f bs → answer (scanned bs) ≡ Err f
fault_complete bs f h = ap answer (sym (tokens_only bs h.tokens h.are)) ∙ by_fault h.tokens f h.fault

-- ---- the clauses

pub found_law : (bs : List ℕ) (r : Result (List Decl) ParseEnd) → Tells (answer (scanned bs)) r → IfOk r (λ file. IsText file bs)
found_law bs (Ok ds) h = tree_sound bs ds h
found_law bs (Err e) h = tt

pub only_law : (bs : List ℕ) (r : Result (List Decl) ParseEnd) → Tells (answer (scanned bs)) r → (ds : List Decl) → IsText ds bs → IsOnly ds r
only_law bs (Ok found) h ds f = let e = tree_complete bs ds f in cc
only_law bs (Err (Fault g)) h ds f = let e = tree_complete bs ds f in cc
only_law bs (Err NoMemory) h ds f = tt

pub first_law : (bs : List ℕ) (r : Result (List Decl) ParseEnd) → Tells (answer (scanned bs)) r → IfFault r (λ f. IsFirstFault f bs)
first_law bs (Ok ds) h = tt
first_law bs (Err (Fault f)) h = fault_sound bs f h
first_law bs (Err NoMemory) h = tt

pub only_fault_law : (bs : List ℕ) (r : Result (List Decl) ParseEnd) → Tells (answer (scanned bs)) r → (f : TextFault) → IsFirstFault f bs → IsOnlyFault f r
only_fault_law bs (Ok ds) h f g = let e = fault_complete bs f g in cc
only_fault_law bs (Err (Fault k)) h f g = let e = fault_complete bs f g in cc
only_fault_law bs (Err NoMemory) h f g = tt
