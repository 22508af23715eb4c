-- A reader of a response goes on, and what it finds is what the bytes show.
use Rattle.std.proofs.Common.{◌≡◌, ℕ, ◌+◌, ◌-◌, ◌<◌, ◌≤◌, inl, inr, Bool, true, false, List, [], ◌∷◌, ◌++◌, length, take, drop, refl, sym, ap, ◌∙◌, subst, arith, length-append, length-drop, length-take-le, take-append-drop, drop-drop}
use Rattle.std.proofs.lemmas.Bool.{false≢true}
use Rattle.std.proofs.lemmas.List.{drop-append-le}
use Rattle.httparse.specs.Grammar.{ResponseHead, print_response}
use Rattle.http_message.specs.declared.chunks.ChunkReader.{ChunkReader}
use Rattle.http_message.specs.declared.chunks.Chunked.TheVariants as chunked
use Rattle.http_message.specs.declared.extent.Refusal.{Refusal}
use Rattle.http_message.specs.declared.extent.Refusal.TheVariants as refusal
use Rattle.http_message.specs.Limits.{max_body}
use Rattle.http_message.specs.Steps.{IsReading, ShowsChunked}
use Rattle.http_message.proofs.ChunkSteps.{reading_nothing, reading_more}
use Rattle.wd_base.specs.declared.http.Reply.{Reply}
use Rattle.http_response.specs.declared.reach.Reach.{Reach}
use Rattle.http_response.specs.declared.reach.Reach.TheVariants as reach
use Rattle.http_response.specs.declared.reach.Told.TheVariants as told
use Rattle.http_response.specs.declared.head.HeadSeen.TheVariants as head_seen
use Rattle.http_response.specs.declared.response.Begun.{Begun}
use Rattle.http_response.specs.declared.response.Progress.{Progress}
use Rattle.http_response.specs.declared.response.Progress.TheVariants as progress
use Rattle.http_response.specs.Head.{ReadsTelling, Skips, HasSkipped}
use Rattle.http_response.specs.Response.{ReadsBody, RefusesBody, Holds, Refuses, RefusesNext, IsUnfinished}
use Rattle.http_response.specs.Steps.{HasNoHead, BeginsWith, IsHead, IsSkipped, IsBegun, HasBegun, IsProgress}
use Rattle.http_response.proofs.HeadLaws.{head_long, head_refused, told_unique, told_more, told_refused}
use Rattle.http_response.proofs.ResponseLaws.{Stops, skipped_more, last_is, last_stops, holds_at, refuses_at, body_at}

-- ---- interim heads

skips_push : (to : Bool) (n : ℕ) (b : List ℕ) (hs : List ResponseHead) (m : ℕ) (r : List ℕ) (h : ResponseHead) (q : List ℕ) → Skips to n b hs m r → ReadsTelling to m r h told.Interim q → Skips to n b (hs ++ h ∷ []) (m + length (print_response h)) q
skips_push to n b [] m r h q (e, f) x =
    (q, subst (λ k. ReadsTelling to k b h told.Interim q) (sym e) (subst (λ t. ReadsTelling to m t h told.Interim q) (sym f) x), (ap (λ k. k + length (print_response h)) e, refl))
skips_push to n b (g ∷ hs) m r h q (mid, y, ys) x = (mid, y, skips_push to (n + length (print_response g)) mid hs m r h q ys x)

pub skipped_nothing : (to : Bool) (b : List ℕ) → IsSkipped to b 0
skipped_nothing to b = record { within = omega arith; fits = omega arith; skipped = record { heads = []; skips = (refl, refl) } }

-- an interim head more
pub skipped_on : (to : Bool) (b : List ℕ) (at size : ℕ) → IsSkipped to b at → IsHead to at (drop at b) told.Interim size → IsSkipped to b (at + size)
skipped_on to b at size x h =
    let inside = x.within in
    let within = h.within in
    let fits = h.tells.reads.fits in
    let size_is = h.size_is in
    let l = length-drop at b in
    let pushed : Skips to 0 b (x.skipped.heads ++ h.head ∷ []) (at + length (print_response h.head)) (drop size (drop at b)) =
    skips_push to 0 b x.skipped.heads at (drop at b) h.head (drop size (drop at b)) x.skipped.skips h.tells in
    record {
      within = omega (arith, inside, within, l);
      fits = omega (arith, fits, size_is);
      skipped = record {
        heads = x.skipped.heads ++ h.head ∷ [];
        skips = subst (λ k. Skips to 0 b (x.skipped.heads ++ h.head ∷ []) (at + k) (drop (at + size) b)) (sym size_is)
            (subst (Skips to 0 b (x.skipped.heads ++ h.head ∷ []) (at + length (print_response h.head))) (drop-drop size at b) pushed);
      };
    }

-- a head leaves fewer bytes
pub fewer_left : (to : Bool) (b : List ℕ) (at size : ℕ) → IsSkipped to b at → IsHead to at (drop at b) told.Interim size → length b - (at + size) < length b - at
fewer_left to b at size x h =
    let inside = x.within in
    let within = h.within in
    let size_is = h.size_is in
    let long = head_long h.head in
    let l = length-drop at b in
    omega (arith, inside, within, size_is, long, l)

pub skipped_along : (to : Bool) (b more : List ℕ) (at : ℕ) → IsSkipped to b at → IsSkipped to (b ++ more) at
skipped_along to b more at x =
    let inside = x.within in
    let l = length-append b more in
    record {
      within = omega (arith, inside, l);
      fits = x.fits;
      skipped = subst (HasSkipped to (b ++ more) at) (sym (drop-append-le at b more inside)) (skipped_more to b at (drop at b) more x.skipped);
    }

-- where less than a head stands behind interim heads, the response is unfinished
pub heads_unfinished : (to ended : Bool) (b : List ℕ) (at : ℕ) → IsSkipped to b at → HasNoHead at (drop at b) → IsUnfinished to ended b
heads_unfinished to ended b at x none = record {
  reply = λ r y. let z = holds_at to ended b at (drop at b) r x.skipped stops y in none.head z.head z.behind z.tells.reads;
  refusal = λ why y. unrefused why (refuses_at to b at (drop at b) why x.skipped stops y);
}
  where
    stops : Stops to at (drop at b)
    stops h r y = none.head h r y.reads

    unrefused : (why : Refusal) → RefusesNext to at (drop at b) why → ⊥
    unrefused why (inl y) = none.refusal why y
    unrefused why (inr (inl y)) = none.head y.head y.rest y.reads
    unrefused why (inr (inr y)) = none.head y.head y.behind y.tells.reads

-- the last head, and what it tells
pub begun_at : (to : Bool) (b : List ℕ) (at size : ℕ) (reply : Reply) (e : Reach) (reader : ChunkReader) → IsSkipped to b at → BeginsWith to at (drop at b) (head_seen.Last reply e size) → reader ≡ record { at = 0; body = [] }
    → HasBegun to b (record { to_head = to; reply = reply; reach = e; size = at + size; reader = reader })
begun_at to b at size reply e reader x (h, made) fresh =
    let inside = x.within in
    let within = h.within in
    let l = length-drop at b in (
      refl,
      record {
        before = at;
        rest = drop at b;
        skipped = x.skipped;
        head = h.head;
        within = omega (arith, inside, within, l);
        tells = subst (ReadsTelling to at (drop at b) h.head (told.Last e)) (drop-drop size at b) h.tells;
        made = made;
        reading = subst (IsReading (drop (at + size) b)) (sym fresh) (reading_nothing (drop (at + size) b));
      },
    )

-- ---- behind the last head

-- what was read stays read whatever comes behind
pub begun_more : (b m : List ℕ) (x : Begun) → IsBegun b x → IsBegun (b ++ m) x
begun_more b m x y =
    let l = length-append b m in
    let within = y.within in
    let d : drop x.size (b ++ m) ≡ drop x.size b ++ m = drop-append-le x.size b m within in
    record {
      before = y.before;
      rest = y.rest ++ m;
      skipped = skipped_more x.to_head b y.before y.rest m y.skipped;
      head = y.head;
      within = omega (arith, within, l);
      tells = subst (ReadsTelling x.to_head y.before (y.rest ++ m) y.head (told.Last x.reach)) (sym d) (told_more x.to_head y.before y.rest y.head (told.Last x.reach) (drop x.size b) m y.tells);
      made = y.made;
      reading = subst (λ t. IsReading t x.reader) (sym d) (reading_more (drop x.size b) m x.reader y.reading);
    }

pub progress_more : (to : Bool) (b m : List ℕ) (p : Progress) → IsProgress to b p → IsProgress to (b ++ m) p
progress_more to b m (progress.Heads at) x = skipped_along to b m at x
progress_more to b m (progress.Body b') (e, x) = (e, begun_more b m b' x)

-- where neither the body nor what is refused is there, the response is unfinished
pub begun_unfinished : (ended : Bool) (b : List ℕ) (x : Begun) → IsBegun b x → ((body : List ℕ) → ReadsBody ended x.reach (drop x.size b) body → ⊥) → ((why : Refusal) → RefusesBody x.reach (drop x.size b) why → ⊥) → IsUnfinished x.to_head ended b
begun_unfinished ended b x y none fine = record {
  reply = λ r z.
      let w = holds_at x.to_head ended b y.before y.rest r y.skipped stops z in
      let u = told_unique x.to_head y.before y.rest y.head w.head (told.Last x.reach) (told.Last w.reach) (drop x.size b) w.behind y.tells w.tells in
      none w.body (subst (λ t. ReadsBody ended x.reach t w.body) (sym u.left) (subst (λ e. ReadsBody ended e w.behind w.body) (sym (last_is x.reach w.reach u.what)) w.reads));
  refusal = λ why z. unrefused why (refuses_at x.to_head b y.before y.rest why y.skipped stops z);
}
  where
    stops : Stops x.to_head y.before y.rest
    stops = last_stops x.to_head y.before y.rest y.head x.reach (drop x.size b) y.tells

    unrefused : (why : Refusal) → RefusesNext x.to_head y.before y.rest why → ⊥
    unrefused why (inl z) = head_refused y.before y.rest y.head (drop x.size b) why y.tells.reads z
    unrefused why (inr (inl z)) = told_refused x.to_head y.before y.rest y.head z.head (told.Last x.reach) (drop x.size b) z.rest why y.tells z.reads z.refuses
    unrefused why (inr (inr z)) = fine why (body_at x.to_head y.before y.rest why y.head x.reach (drop x.size b) y.tells z)

-- with the body behind it, it is a reply
pub begun_whole : (ended : Bool) (b : List ℕ) (x : Begun) (e : Reach) (body : List ℕ) (r : Reply) → IsBegun b x → x.reach ≡ e → ReadsBody ended e (drop x.size b) body → r ≡ record x.reply { body = body } → Holds x.to_head ended b r
begun_whole ended b x e body r y is z made = record {
  before = y.before;
  rest = y.rest;
  skipped = y.skipped;
  holds = record {
    head = y.head;
    reach = x.reach;
    behind = drop x.size b;
    body = body;
    tells = y.tells;
    reads = subst (λ w. ReadsBody ended w (drop x.size b) body) (sym is) z;
    made = made ∙ ap (λ (q : Reply). record q { body = body }) y.made;
  };
}

pub begun_refused : (b : List ℕ) (x : Begun) (e : Reach) (why : Refusal) → IsBegun b x → x.reach ≡ e → RefusesBody e (drop x.size b) why → Refuses x.to_head b why
begun_refused b x e why y is z = record {
  before = y.before;
  rest = y.rest;
  skipped = y.skipped;
  refuses = inr (inr (record { head = y.head; reach = x.reach; behind = drop x.size b; tells = y.tells; refuses = subst (λ w. RefusesBody w (drop x.size b) why) (sym is) z }));
}

-- the same of a reach that is known
unfinished_at : (ended : Bool) (b : List ℕ) (x : Begun) (e : Reach) → IsBegun b x → x.reach ≡ e → ((body : List ℕ) → ReadsBody ended e (drop x.size b) body → ⊥) → ((why : Refusal) → RefusesBody e (drop x.size b) why → ⊥) → IsUnfinished x.to_head ended b
unfinished_at ended b x e y is none fine = begun_unfinished ended b x y
    (λ body r. none body (subst (λ w. ReadsBody ended w (drop x.size b) body) is r))
    (λ why r. fine why (subst (λ w. RefusesBody w (drop x.size b) why) is r))

-- ---- a body of a length

pub counted_later : (ended : Bool) (b : List ℕ) (x : Begun) (size : ℕ) → IsBegun b x → x.reach ≡ reach.Length size → length (drop x.size b) < size → IsUnfinished x.to_head ended b
counted_later ended b x size y is short =
    unfinished_at ended b x (reach.Length size) y is
    (λ body r.
    let all = ap length r.2 in
    let l = length-append body r.0 in
    let long = r.1 in
    omega (arith, short, all, l, long))
    (λ why r. r)

pub counted_whole : (ended : Bool) (b : List ℕ) (x : Begun) (size : ℕ) (r : Reply) → IsBegun b x → x.reach ≡ reach.Length size → size ≤ length (drop x.size b) → r ≡ record x.reply { body = take size (drop x.size b) } → Holds x.to_head ended b r
counted_whole ended b x size r y is fits made =
    let d = drop x.size b in
    begun_whole ended b x (reach.Length size) (take size d) r y is (drop size d, length-take-le size d fits, sym (take-append-drop size d)) made

-- ---- a body by chunks

pub chunked_later : (ended : Bool) (b : List ℕ) (x : Begun) (reader : ChunkReader) → IsBegun b x → x.reach ≡ reach.Chunked → IsReading (drop x.size b) reader → ShowsChunked (drop x.size b) reader.body chunked.Later
    → IsUnfinished x.to_head ended b × HasBegun x.to_head b (record x { reader = reader })
chunked_later ended b x reader y is reading shown = (
  unfinished_at ended b x reach.Chunked y is (λ body r. shown.0 body r.0 r.1) (λ why r. shown.1 why r),
  (refl, record { before = y.before; rest = y.rest; skipped = y.skipped; head = y.head; within = y.within; tells = y.tells; made = y.made; reading = reading }),
)

pub chunked_whole : (ended : Bool) (b : List ℕ) (x : Begun) (text : List ℕ) (size : ℕ) (r : Reply) → IsBegun b x → x.reach ≡ reach.Chunked → ShowsChunked (drop x.size b) text (chunked.Whole size) → r ≡ record x.reply { body = text } → Holds x.to_head ended b r
chunked_whole ended b x text size r y is shown made = begun_whole ended b x reach.Chunked text r y is (drop size (drop x.size b), shown.1) made

-- ---- a body up to the end

pub end_later : (b : List ℕ) (x : Begun) → IsBegun b x → x.reach ≡ reach.End → length (drop x.size b) ≤ max_body → IsUnfinished x.to_head false b
end_later b x y is small =
    unfinished_at false b x reach.End y is (λ body r. false≢true r.0) (λ why r. let large = r.1 in omega (arith, small, large))

pub end_whole : (b : List ℕ) (x : Begun) (r : Reply) → IsBegun b x → x.reach ≡ reach.End → length (drop x.size b) ≤ max_body → r ≡ record x.reply { body = drop x.size b } → Holds x.to_head true b r
end_whole b x r y is small made = begun_whole true b x reach.End (drop x.size b) r y is (refl, refl, small) made

pub end_large : (b : List ℕ) (x : Begun) → IsBegun b x → x.reach ≡ reach.End → max_body < length (drop x.size b) → Refuses x.to_head b refusal.TooLarge
end_large b x y is large = begun_refused b x reach.End refusal.TooLarge y is (refl, large)
