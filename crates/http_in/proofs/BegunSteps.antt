-- A head that was read, and what stands behind it.
use Rattle.std.proofs.Common.{◌≡◌, ℕ, ◌+◌, ◌<◌, ◌≤◌, List, ◌++◌, length, take, drop, refl, sym, ap, subst, arith, Option, Some, None, inl, inr, length-append, length-drop, length-take-le, take-append-drop, drop-drop}
use Rattle.std.proofs.lemmas.List.{drop-append-le}
use Rattle.http_message.specs.declared.extent.Extent.TheVariants as extent
use Rattle.http_message.specs.declared.chunks.ChunkReader.{ChunkReader}
use Rattle.http_message.specs.declared.chunks.Chunked.TheVariants as chunked
use Rattle.http_message.specs.declared.extent.Refusal.{Refusal}
use Rattle.http_message.proofs.ChunkSteps.{reading_more}
use Rattle.http_message.specs.Steps.{IsReading, ShowsChunked}
use Rattle.wd_base.specs.declared.http.ReqData.{ReqData}
use Rattle.http_in.specs.declared.request.Begun.{Begun}
use Rattle.http_in.specs.Steps.{IsBegun, MayBegin}
use Rattle.http_in.specs.Stream.{ReadsBody, RefusesBody, ReadsAsked, Reads, Refuses, IsUnfinished}
use Rattle.http_in.proofs.HeadLaws.{head_refused}
use Rattle.http_in.proofs.StreamLaws.{asked_unique, asked_more, asked_refused, body_at}

-- what was read stays read whatever comes behind
pub begun_more : (b m : List ℕ) (x : Begun) → IsBegun b x → IsBegun (b ++ m) x
begun_more b m x y =
    let l = length-append b m in
    let within = y.within in
    let d : drop x.size (b ++ m) ≡ drop x.size b ++ m = drop-append-le x.size b m within in
    record {
      head = y.head;
      url = y.url;
      within = omega (arith, within, l);
      asks = subst (ReadsAsked (b ++ m) y.head (y.url, x.extent)) (sym d) (asked_more b y.head (y.url, x.extent) (drop x.size b) m y.asks);
      made = y.made;
      close = y.close;
      reading = subst (λ t. IsReading t x.reader) (sym d) (reading_more (drop x.size b) m x.reader y.reading);
    }

pub may_more : (b m : List ℕ) (x : Option Begun) → MayBegin b x → MayBegin (b ++ m) x
may_more b m None y = y
may_more b m (Some x) y = begun_more b m x y

-- where neither the whole body nor what is refused is there, the request is unfinished
pub begun_unfinished : (b : List ℕ) (x : Begun) → IsBegun b x → ((body : Option (List ℕ)) (rest : List ℕ) → ReadsBody x.extent (drop x.size b) body rest → ⊥) → ((why : Refusal) → RefusesBody x.extent (drop x.size b) why → ⊥) → IsUnfinished b
begun_unfinished b x y none fine = record {
  request = λ r c rest z.
      let u = asked_unique b y.head z.head (y.url, x.extent) z.what (drop x.size b) z.behind y.asks z.asks in
      none z.body rest (subst (λ t. ReadsBody x.extent t z.body rest) (sym u.left) (subst (λ w. ReadsBody w.1 z.behind z.body rest) (sym u.what) z.reads));
  fault = λ why f. elim f [
    | inl h ↦ head_refused b y.head (drop x.size b) why y.asks.reads h
    | inr o ↦ elim o [
      | inl z ↦ asked_refused b y.head (y.url, x.extent) (drop x.size b) why y.asks z
      | inr z ↦ fine why (body_at b why y.head (y.url, x.extent) (drop x.size b) y.asks z)
    ]
  ];
}

-- with the body behind it, it is a request
pub begun_whole : (b : List ℕ) (x : Begun) (body : Option (List ℕ)) (rest : List ℕ) → IsBegun b x → ReadsBody x.extent (drop x.size b) body rest → Reads b (record x.request { body = body }) x.close rest
begun_whole b x body rest y z = record {
  head = y.head;
  what = (y.url, x.extent);
  behind = drop x.size b;
  body = body;
  asks = y.asks;
  reads = z;
  made = ap (λ (r : ReqData). record r { body = body }) y.made;
  closing = y.close;
}

pub begun_refused : (b : List ℕ) (x : Begun) (why : Refusal) → IsBegun b x → RefusesBody x.extent (drop x.size b) why → Refuses b why
begun_refused b x why y z = inr (inr (record { head = y.head; what = (y.url, x.extent); behind = drop x.size b; asks = y.asks; refuses = z }))

-- fewer bytes than a body of this length has
short_body : (size : ℕ) (bytes : List ℕ) → length bytes < size → (body : Option (List ℕ)) (rest : List ℕ) → ReadsBody (extent.Length size) bytes body rest → ⊥
short_body size bytes short body rest r =
    let all = ap length r.3 in
    let l = length-append r.0 rest in
    let long = r.2 in
    omega (arith, short, all, l, long)

-- where a body of a length is not whole, the request is unfinished
pub counted_later : (b : List ℕ) (x : Begun) (size : ℕ) → IsBegun b x → x.extent ≡ extent.Length size → length (drop x.size b) < size → IsUnfinished b
counted_later b x size y is short = begun_unfinished b x y
    (λ body rest r. short_body size (drop x.size b) short body rest (subst (λ e. ReadsBody e (drop x.size b) body rest) is r))
    (λ why r. subst (λ e. RefusesBody e (drop x.size b) why) is r)

-- what stands behind a head and so many bytes
behind : (b : List ℕ) (x : Begun) (size : ℕ) → IsBegun b x → size ≤ length (drop x.size b) → x.size + size ≤ length b
behind b x size y fits = let l = length-drop x.size b in let within = y.within in omega (arith, l, within, fits)

-- a body of a length is whole
pub counted_whole : (b : List ℕ) (x : Begun) (size : ℕ) (r : ReqData) → IsBegun b x → x.extent ≡ extent.Length size → size ≤ length (drop x.size b) → r ≡ record x.request { body = Some (take size (drop x.size b)) } → (x.size + size ≤ length b) × Reads b r x.close (drop (x.size + size) b)
counted_whole b x size r y is fits made =
    let d = drop x.size b in
    let read : ReadsBody (extent.Length size) d (Some (take size d)) (drop size d) = (take size d, refl, length-take-le size d fits, sym (take-append-drop size d)) in
    let whole = begun_whole b x (Some (take size d)) (drop size d) y (subst (λ e. ReadsBody e d (Some (take size d)) (drop size d)) (sym is) read) in
    (behind b x size y fits, subst (λ q. Reads b q x.close (drop (x.size + size) b)) (sym made) (subst (Reads b (record x.request { body = Some (take size d) }) x.close) (drop-drop size x.size b) whole))

-- where neither a body by chunks nor what is refused is there, the request is unfinished, and the chunks that were read stay read
pub chunked_later : (b : List ℕ) (x : Begun) (reader : ChunkReader) → IsBegun b x → x.extent ≡ extent.Chunked → IsReading (drop x.size b) reader → ShowsChunked (drop x.size b) reader.body chunked.Later → IsUnfinished b × IsBegun b (record x { reader = reader })
chunked_later b x reader y is reading shown = (
  begun_unfinished b x y
      (λ body rest r. let read = subst (λ e. ReadsBody e (drop x.size b) body rest) is r in shown.0 read.0 rest read.2)
      (λ why r. shown.1 why (subst (λ e. RefusesBody e (drop x.size b) why) is r)),
  record { head = y.head; url = y.url; within = y.within; asks = y.asks; made = y.made; close = y.close; reading = reading },
)

-- a body by chunks is whole
pub chunked_whole : (b : List ℕ) (x : Begun) (text : List ℕ) (size : ℕ) (r : ReqData) → IsBegun b x → x.extent ≡ extent.Chunked → ShowsChunked (drop x.size b) text (chunked.Whole size) → r ≡ record x.request { body = Some text } → (x.size + size ≤ length b) × Reads b r x.close (drop (x.size + size) b)
chunked_whole b x text size r y is shown made =
    let d = drop x.size b in
    let read : ReadsBody extent.Chunked d (Some text) (drop size d) = (text, refl, shown.1) in
    let whole = begun_whole b x (Some text) (drop size d) y (subst (λ e. ReadsBody e d (Some text) (drop size d)) (sym is) read) in
    (behind b x size y shown.0, subst (λ q. Reads b q x.close (drop (x.size + size) b)) (sym made) (subst (Reads b (record x.request { body = Some text }) x.close) (drop-drop size x.size b) whole))
