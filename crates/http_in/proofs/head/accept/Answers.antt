use Rattle.std.proofs.Common.{ℕ, List, map, None, sym, ap, ◌∙◌}
use Rattle.httparse.specs.Spans.{header_bytes}
use Rattle.wd_base.specs.declared.http.ReqData.{ReqData}
use Rattle.http_in.specs.Stream.{small_names}
use Rattle.http_in.proofs.HeadSteps.{found_head, found_within, found_without, found_refused, found_begun}
use Rattle.http_in.proofs.head.accept.Goals as goal

pub returns-in-None : goal.returns-in-None
returns-in-None c =
    let r = c.requires in
    found_without _ _ _ _ (found_head _ _ _ _ c.first_bytes-window.ensures r.within r.whole r.few r.found)
    (sym c.in-None.is ∙ c.in_ok-url.ensures)

pub extent_of-requires : goal.extent_of-requires
extent_of-requires c =
    let r = c.requires in
    found_within _ _ _ _ (found_head _ _ _ _ c.first_bytes-window.ensures r.within r.whole r.few r.found)

pub returns-in-Err : goal.returns-in-Err
returns-in-Err c =
    let r = c.requires in
    found_refused _ _ _ _ c.in-Some.url c.in-Err.why (found_head _ _ _ _ c.first_bytes-window.ensures r.within r.whole r.few r.found)
    (sym c.in-Some.is ∙ c.in_ok-url.ensures) (sym c.in-Err.is ∙ c.extent_of.ensures)

pub request_of-requires : goal.request_of-requires
request_of-requires c =
    let r = c.requires in
    found_within _ _ _ _ (found_head _ _ _ _ c.first_bytes-window.ensures r.within r.whole r.few r.found)

pub closes-requires : goal.closes-requires
closes-requires c =
    let r = c.requires in
    found_within _ _ _ _ (found_head _ _ _ _ c.first_bytes-window.ensures r.within r.whole r.few r.found)

pub returns : goal.returns
returns c =
    let r = c.requires in
    let f = found_head _ _ _ _ c.first_bytes-window.ensures r.within r.whole r.few r.found in
    found_begun _ _ _ _ c.in-Some.url c.in-Ok.extent c.in_ok-request.request c.closes.result c.new.result f
    (sym c.in-Some.is ∙ c.in_ok-url.ensures) (sym c.in-Ok.is ∙ c.extent_of.ensures)
    (c.in_ok-request.ensures ∙ ap (λ (m : List ℕ). let q : ReqData = record { method = m; url = c.in-Some.url; fields = small_names (map (header_bytes c.first_bytes-window.result.now) c.args.fields.now); body = None } in q) c.of.ensures)
    c.closes.ensures c.new.ensures
