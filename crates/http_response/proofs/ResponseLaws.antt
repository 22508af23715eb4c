-- The response in bytes is read in one way alone, and a refusal stays one whatever comes behind.
use Rattle.std.proofs.Common.{◌≡◌, ℕ, ◌+◌, inl, inr, Bool, List, [], ◌∷◌, ◌++◌, length, refl, sym, ap, ap₂, ◌∙◌, subst, arith, length-append}
use Rattle.std.proofs.lemmas.Bool.{false≢true}
use Rattle.httparse.specs.Grammar.{ResponseHead, print_response}
use Rattle.http_message.specs.declared.extent.Refusal.{Refusal}
use Rattle.http_message.specs.declared.extent.Refusal.TheVariants as refusal
use Rattle.http_message.proofs.ChunkLaws.{chunked_unique, chunked_refused, chunked_refused_more, chunked_refused_unique}
use Rattle.wd_base.specs.declared.http.Reply.{Reply}
use Rattle.http_response.specs.declared.reach.Reach.{Reach}
use Rattle.http_response.specs.declared.reach.Reach.TheVariants as reach
use Rattle.http_response.specs.declared.reach.Told.{Told}
use Rattle.http_response.specs.declared.reach.Told.TheVariants as told
use Rattle.http_response.specs.declared.reader.Heard.{Heard}
use Rattle.http_response.specs.declared.reader.Heard.TheVariants as heard
use Rattle.http_response.specs.Head.{ReadsTelling, Skips, HasSkipped}
use Rattle.http_response.specs.Response.{ReadsBody, RefusesBody, reply_of, HoldsNext, RefusesBehind, RefusesNext, Holds, Refuses, Hears}
use Rattle.http_response.proofs.HeadLaws.{head_unique, head_refused, refused_head_more, refused_head_unique, head_more, told_unique, told_more, told_refused, untold_unique}

-- ---- bodies

same_front : (d d' t t' : List ℕ) → length d ≡ length d' → d ++ t ≡ d' ++ t' → d ≡ d'
same_front [] [] t t' e x = refl
same_front [] (y ∷ d') t t' e x = absurd (omega (arith, e))
same_front (y ∷ d) [] t t' e x = absurd (omega (arith, e))
same_front (y ∷ d) (z ∷ d') t t' e x =
    let h : y ≡ z = cc in
    let r : d ++ t ≡ d' ++ t' = cc in
    let l : length d ≡ length d' = omega (arith, e) in
    ap₂ (λ a b. a ∷ b) h (same_front d d' t t' l r)

pub body_unique : (ended : Bool) (e : Reach) (b body body' : List ℕ) → ReadsBody ended e b body → ReadsBody ended e b body' → body ≡ body'
body_unique ended reach.Nothing b body body' x y = x ∙ sym y
body_unique ended (reach.Length n) b body body' (r, l, s) (r', l', s') = same_front body body' r r' (l ∙ sym l') (sym s ∙ s')
body_unique ended reach.Chunked b body body' (r, c) (r', c') = (chunked_unique b body body' r r' c c').0
body_unique ended reach.End b body body' (e, is, s) (e', is', s') = is ∙ sym is'

pub body_refused : (ended : Bool) (e : Reach) (b body : List ℕ) (why : Refusal) → ReadsBody ended e b body → RefusesBody e b why → ⊥
body_refused ended reach.Nothing b body why x y = y
body_refused ended (reach.Length n) b body why x y = y
body_refused ended reach.Chunked b body why (r, c) y = chunked_refused b body r why c y
body_refused ended reach.End b body why (e, is, small) (w, large) = omega (arith, small, large)

pub refused_body_more : (e : Reach) (b more : List ℕ) (why : Refusal) → RefusesBody e b why → RefusesBody e (b ++ more) why
refused_body_more reach.Nothing b more why x = absurd x
refused_body_more (reach.Length n) b more why x = absurd x
refused_body_more reach.Chunked b more why x = chunked_refused_more b more why x
refused_body_more reach.End b more why (w, large) = let l = length-append b more in (w, omega (arith, large, l))

pub refused_body_unique : (e : Reach) (b : List ℕ) (why why' : Refusal) → RefusesBody e b why → RefusesBody e b why' → why ≡ why'
refused_body_unique reach.Nothing b why why' x y = absurd x
refused_body_unique (reach.Length n) b why why' x y = absurd x
refused_body_unique reach.Chunked b why why' x y = chunked_refused_unique b why why' x y
refused_body_unique reach.End b why why' (w, large) (w', large') = w ∙ sym w'

-- ---- interim heads

pub skips_more : (to : Bool) (n : ℕ) (b : List ℕ) (hs : List ResponseHead) (m : ℕ) (r more : List ℕ) → Skips to n b hs m r → Skips to n (b ++ more) hs m (r ++ more)
skips_more to n b [] m r more (e, f) = (e, ap (λ t. t ++ more) f)
skips_more to n b (h ∷ hs) m r more (mid, x, xs) =
    (mid ++ more, told_more to n b h told.Interim mid more x, skips_more to (n + length (print_response h)) mid hs m r more xs)

pub skipped_more : (to : Bool) (b : List ℕ) (n : ℕ) (r more : List ℕ) → HasSkipped to b n r → HasSkipped to (b ++ more) n (r ++ more)
skipped_more to b n r more x = record { heads = x.heads; skips = skips_more to 0 b x.heads n r more x.skips }

-- no interim head stands there
abbrev pub Stops : Bool → ℕ → List ℕ → Type 0
Stops to n b = (h : ResponseHead) (r : List ℕ) → ReadsTelling to n b h told.Interim r → ⊥

stops_at : (to : Bool) (n m : ℕ) (b r : List ℕ) → n ≡ m → b ≡ r → Stops to m r → Stops to n b
stops_at to n m b r e f s = subst (λ k. Stops to k b) (sym e) (subst (Stops to m) (sym f) s)

-- interim heads up to a place where none stands are these alone
skips_unique : (to : Bool) (n : ℕ) (b : List ℕ) (hs gs : List ResponseHead) (m k : ℕ) (r q : List ℕ) → Skips to n b hs m r → Skips to n b gs k q → Stops to m r → Stops to k q → (m ≡ k) × (r ≡ q)
skips_unique to n b [] [] m k r q (e, f) (e', f') s t = (sym e ∙ e', sym f ∙ f')
skips_unique to n b [] (g ∷ gs) m k r q (e, f) (mid, y, ys) s t = absurd (stops_at to n m b r e f s g mid y)
skips_unique to n b (h ∷ hs) [] m k r q (mid, x, xs) (e, f) s t = absurd (stops_at to n k b q e f t h mid x)
skips_unique to n b (h ∷ hs) (g ∷ gs) m k r q (mid, x, xs) (mid', y, ys) s t =
    let u = head_unique n b h g mid mid' x.reads y.reads in
    let l : n + length (print_response g) ≡ n + length (print_response h) = ap (λ z. n + length (print_response z)) (sym u.0) in
    let z : Skips to (n + length (print_response h)) mid gs k q = subst (λ w. Skips to w mid gs k q) l (subst (λ w. Skips to (n + length (print_response g)) w gs k q) (sym u.1) ys) in
    skips_unique to (n + length (print_response h)) mid hs gs m k r q xs z s t

pub skipped_unique : (to : Bool) (b : List ℕ) (n m : ℕ) (r q : List ℕ) → HasSkipped to b n r → HasSkipped to b m q → Stops to n r → Stops to m q → (n ≡ m) × (r ≡ q)
skipped_unique to b n m r q x y s t = skips_unique to 0 b x.heads y.heads n m r q x.skips y.skips s t

-- ---- what stops them

told_apart : (e : Reach) → ◌≡◌ {A = Told} told.Interim (told.Last e) → ⊥
told_apart e x = cc

pub last_stops : (to : Bool) (n : ℕ) (b : List ℕ) (h : ResponseHead) (e : Reach) (r : List ℕ) → ReadsTelling to n b h (told.Last e) r → Stops to n b
last_stops to n b h e r x k q y = told_apart e (told_unique to n b k h told.Interim (told.Last e) q r y x).what

pub next_stops : (to : Bool) (n : ℕ) (b : List ℕ) (why : Refusal) → RefusesNext to n b why → Stops to n b
next_stops to n b why (inl head) k q y = head_refused n b k q why y.reads head
next_stops to n b why (inr (inl t)) k q y = told_refused to n b k t.head told.Interim q t.rest why y t.reads t.refuses
next_stops to n b why (inr (inr t)) k q y = last_stops to n b t.head t.reach t.behind t.tells k q y

-- ---- behind interim heads

pub last_is : (a b : Reach) → ◌≡◌ {A = Told} (told.Last a) (told.Last b) → a ≡ b
last_is a b e = cc

next_unique : (to ended : Bool) (n : ℕ) (b : List ℕ) (p q : Reply) → HoldsNext to ended n b p → HoldsNext to ended n b q → p ≡ q
next_unique to ended n b p q x y =
    let u = told_unique to n b x.head y.head (told.Last x.reach) (told.Last y.reach) x.behind y.behind x.tells y.tells in
    let e : x.reach ≡ y.reach = last_is x.reach y.reach u.what in
    let z : ReadsBody ended x.reach x.behind y.body = subst (λ t. ReadsBody ended x.reach t y.body) (sym u.left) (subst (λ w. ReadsBody ended w y.behind y.body) (sym e) y.reads) in
    x.made ∙ ap₂ reply_of u.head (body_unique ended x.reach x.behind x.body y.body x.reads z) ∙ sym y.made

-- a refusal of the body behind one head
pub body_at : (to : Bool) (n : ℕ) (b : List ℕ) (why : Refusal) (h : ResponseHead) (e : Reach) (r : List ℕ) → ReadsTelling to n b h (told.Last e) r → RefusesBehind to n b why → RefusesBody e r why
body_at to n b why h e r x y =
    let u = told_unique to n b h y.head (told.Last e) (told.Last y.reach) r y.behind x y.tells in
    subst (λ t. RefusesBody e t why) (sym u.left) (subst (λ w. RefusesBody w y.behind why) (sym (last_is e y.reach u.what)) y.refuses)

pub next_refused : (to ended : Bool) (n : ℕ) (b : List ℕ) (p : Reply) (why : Refusal) → HoldsNext to ended n b p → RefusesNext to n b why → ⊥
next_refused to ended n b p why x (inl head) = head_refused n b x.head x.behind why x.tells.reads head
next_refused to ended n b p why x (inr (inl t)) = told_refused to n b x.head t.head (told.Last x.reach) x.behind t.rest why x.tells t.reads t.refuses
next_refused to ended n b p why x (inr (inr t)) = body_refused ended x.reach x.behind x.body why x.reads (body_at to n b why x.head x.reach x.behind x.tells t)

pub next_refused_more : (to : Bool) (n : ℕ) (b more : List ℕ) (why : Refusal) → RefusesNext to n b why → RefusesNext to n (b ++ more) why
next_refused_more to n b more why (inl head) = inl (refused_head_more n b more why head)
next_refused_more to n b more why (inr (inl t)) = inr (inl (record { head = t.head; rest = t.rest ++ more; reads = head_more n b t.head t.rest more t.reads; refuses = t.refuses }))
next_refused_more to n b more why (inr (inr t)) = inr (inr (record {
  head = t.head;
  reach = t.reach;
  behind = t.behind ++ more;
  tells = told_more to n b t.head (told.Last t.reach) t.behind more t.tells;
  refuses = refused_body_more t.reach t.behind more why t.refuses;
}))

next_refused_unique : (to : Bool) (n : ℕ) (b : List ℕ) (why why' : Refusal) → RefusesNext to n b why → RefusesNext to n b why' → why ≡ why'
next_refused_unique to n b why why' (inl x) (inl y) = refused_head_unique n b why why' x y
next_refused_unique to n b why why' (inl x) (inr (inl t)) = absurd (head_refused n b t.head t.rest why t.reads x)
next_refused_unique to n b why why' (inl x) (inr (inr t)) = absurd (head_refused n b t.head t.behind why t.tells.reads x)
next_refused_unique to n b why why' (inr (inl t)) (inl y) = absurd (head_refused n b t.head t.rest why' t.reads y)
next_refused_unique to n b why why' (inr (inr t)) (inl y) = absurd (head_refused n b t.head t.behind why' t.tells.reads y)
next_refused_unique to n b why why' (inr (inl t)) (inr (inl s)) = untold_unique to n b t.head s.head t.rest s.rest why why' t.reads t.refuses s.reads s.refuses
next_refused_unique to n b why why' (inr (inl t)) (inr (inr s)) = absurd (told_refused to n b s.head t.head (told.Last s.reach) s.behind t.rest why s.tells t.reads t.refuses)
next_refused_unique to n b why why' (inr (inr t)) (inr (inl s)) = absurd (told_refused to n b t.head s.head (told.Last t.reach) t.behind s.rest why' t.tells s.reads s.refuses)
next_refused_unique to n b why why' (inr (inr t)) (inr (inr s)) = refused_body_unique t.reach t.behind why why' t.refuses (body_at to n b why' t.head t.reach t.behind t.tells s)

-- ---- all bytes

holds_stops : (to ended : Bool) (n : ℕ) (b : List ℕ) (p : Reply) → HoldsNext to ended n b p → Stops to n b
holds_stops to ended n b p x = last_stops to n b x.head x.reach x.behind x.tells

-- what stands behind interim heads is what the bytes hold, where none stands behind these
pub holds_at : (to ended : Bool) (b : List ℕ) (n : ℕ) (r : List ℕ) (p : Reply) → HasSkipped to b n r → Stops to n r → Holds to ended b p → HoldsNext to ended n r p
holds_at to ended b n r p x s y =
    let u = skipped_unique to b n y.before r y.rest x y.skipped s (holds_stops to ended y.before y.rest p y.holds) in
    subst (λ k. HoldsNext to ended k r p) (sym u.0) (subst (λ t. HoldsNext to ended y.before t p) (sym u.1) y.holds)

pub refuses_at : (to : Bool) (b : List ℕ) (n : ℕ) (r : List ℕ) (why : Refusal) → HasSkipped to b n r → Stops to n r → Refuses to b why → RefusesNext to n r why
refuses_at to b n r why x s y =
    let u = skipped_unique to b n y.before r y.rest x y.skipped s (next_stops to y.before y.rest why y.refuses) in
    subst (λ k. RefusesNext to k r why) (sym u.0) (subst (λ t. RefusesNext to y.before t why) (sym u.1) y.refuses)

-- the bytes hold one reply at most
pub holds_unique : (to ended : Bool) (b : List ℕ) (p q : Reply) → Holds to ended b p → Holds to ended b q → p ≡ q
holds_unique to ended b p q x y =
    next_unique to ended x.before x.rest p q x.holds (holds_at to ended b x.before x.rest q x.skipped (holds_stops to ended x.before x.rest p x.holds) y)

-- bytes that hold a reply are not refused
pub holds_refused : (to ended : Bool) (b : List ℕ) (p : Reply) (why : Refusal) → Holds to ended b p → Refuses to b why → ⊥
holds_refused to ended b p why x y =
    next_refused to ended x.before x.rest p why x.holds (refuses_at to b x.before x.rest why x.skipped (holds_stops to ended x.before x.rest p x.holds) y)

-- bytes are refused for one cause at most
pub refuses_unique : (to : Bool) (b : List ℕ) (why why' : Refusal) → Refuses to b why → Refuses to b why' → why ≡ why'
refuses_unique to b why why' x y =
    next_refused_unique to x.before x.rest why why' x.refuses (refuses_at to b x.before x.rest why' x.skipped (next_stops to x.before x.rest why x.refuses) y)

-- a refusal stays whatever comes behind: so of two causes the one that fewer bytes show stands
pub refuses_more : (to : Bool) (b more : List ℕ) (why : Refusal) → Refuses to b why → Refuses to (b ++ more) why
refuses_more to b more why x = record { before = x.before; rest = x.rest ++ more; skipped = skipped_more to b x.before x.rest more x.skipped; refuses = next_refused_more to x.before x.rest more why x.refuses }

apart : ◌≡◌ {A = Refusal} refusal.Malformed refusal.TooLarge → ⊥
apart e = cc

-- ---- the answer to bytes is one

pub hears_unique : (to ended : Bool) (b : List ℕ) (h k : Heard) → Hears to ended b h → Hears to ended b k → h ≡ k
hears_unique to ended b heard.Later heard.Later x y = refl
hears_unique to ended b heard.Bad heard.Bad x y = refl
hears_unique to ended b heard.Large heard.Large x y = refl
hears_unique to ended b (heard.Reply p) (heard.Reply q) x y = ap heard.Reply (holds_unique to ended b p q x y)
hears_unique to ended b heard.Later (heard.Reply q) (e, u) y = absurd (u.reply q y)
hears_unique to ended b (heard.Reply p) heard.Later x (e, u) = absurd (u.reply p x)
hears_unique to ended b heard.Later heard.Large (e, u) y = absurd (u.refusal refusal.TooLarge y)
hears_unique to ended b heard.Large heard.Later x (e, u) = absurd (u.refusal refusal.TooLarge x)
hears_unique to ended b heard.Later heard.Bad (e, u) (inl y) = absurd (u.refusal refusal.Malformed y)
hears_unique to ended b heard.Later heard.Bad (e, u) (inr (e', y)) = absurd (false≢true (sym e ∙ e'))
hears_unique to ended b heard.Bad heard.Later (inl x) (e, u) = absurd (u.refusal refusal.Malformed x)
hears_unique to ended b heard.Bad heard.Later (inr (e', x)) (e, u) = absurd (false≢true (sym e ∙ e'))
hears_unique to ended b heard.Bad heard.Large (inl x) y = absurd (apart (refuses_unique to b refusal.Malformed refusal.TooLarge x y))
hears_unique to ended b heard.Bad heard.Large (inr (e, u)) y = absurd (u.refusal refusal.TooLarge y)
hears_unique to ended b heard.Large heard.Bad x (inl y) = absurd (apart (refuses_unique to b refusal.Malformed refusal.TooLarge y x))
hears_unique to ended b heard.Large heard.Bad x (inr (e, u)) = absurd (u.refusal refusal.TooLarge x)
hears_unique to ended b heard.Bad (heard.Reply q) (inl x) y = absurd (holds_refused to ended b q refusal.Malformed y x)
hears_unique to ended b heard.Bad (heard.Reply q) (inr (e, u)) y = absurd (u.reply q y)
hears_unique to ended b (heard.Reply p) heard.Bad x (inl y) = absurd (holds_refused to ended b p refusal.Malformed x y)
hears_unique to ended b (heard.Reply p) heard.Bad x (inr (e, u)) = absurd (u.reply p x)
hears_unique to ended b heard.Large (heard.Reply q) x y = absurd (holds_refused to ended b q refusal.TooLarge y x)
hears_unique to ended b (heard.Reply p) heard.Large x y = absurd (holds_refused to ended b p refusal.TooLarge x y)
