-- The text of a request on a link of its own (RFC 9112, sections 3, 5 and 6).
use Rattle.std.specs.Prelude.{ℕ, List, [], ◌∷◌, ◌++◌, codes, length, flat_map}
use Rattle.std.specs.Prelude.{bytes_eq, unwrap_or, option_map, Option, Some, None, if◌then◌else◌}
use Rattle.url.specs.Parts.{Parts, has_host}
use Rattle.wd_base.specs.declared.http.ReqData.{ReqData}
use Rattle.wd_url.specs.Url.{url_of, host_and_port, path_and_query}
use Rattle.http_text.specs.Fields.{crlf, field_line, kept_line, length_line, closing_line}

-- the URL, where it has a host
abbrev pub hosted : Option Parts → Option Parts
hosted None = None
hosted (Some url) = if has_host url then Some url else None

-- where a request goes: the URL that the bytes spell, where it has a host
abbrev pub destination : List ℕ → Option Parts
destination bytes = hosted (url_of bytes)

-- the path with the query, and nothing for no destination
abbrev pub target : Option Parts → List ℕ
target url = unwrap_or (option_map path_and_query url) []

-- the host with the port, and nothing for no destination
abbrev pub host : Option Parts → List ℕ
host url = unwrap_or (option_map host_and_port url) []

-- the request line (RFC 9112, section 3)
unfoldable pub request_line : List ℕ → List ℕ → List ℕ
request_line method path = method ++ (32 ∷ (path ++ (codes " HTTP/1.1" ++ crlf)))

-- the line of the Host field (RFC 9112, section 3.2)
unfoldable pub host_line : List ℕ → List ℕ
host_line name = field_line (codes "host", name)

-- the line of a request's own field: Host is of the URL
abbrev pub request_field : List ℕ × List ℕ → List ℕ
request_field field = if bytes_eq field.0 (codes "host") then [] else kept_line field

-- the length that a request states: nothing where it has no body (RFC 9110, section 8.6)
abbrev pub body_length : Option (List ℕ) → List ℕ
body_length None = []
body_length (Some body) = length_line (length body)

-- the bytes behind the head
abbrev pub body_bytes : Option (List ℕ) → List ℕ
body_bytes body = unwrap_or body []

-- the last lines of the head: the other side closes the link behind its reply
unfoldable pub last_lines : List ℕ
last_lines = closing_line ++ crlf

-- the head of a request to a destination
unfoldable pub head_to : Option Parts → ReqData → List ℕ
head_to url request = request_line request.method (target url)
    ++ (host_line (host url) ++ (flat_map request_field request.fields ++ (body_length request.body ++ last_lines)))

-- the head and the body
abbrev pub text_to : Option Parts → ReqData → List ℕ
text_to url request = head_to url request ++ body_bytes request.body

-- a request's bytes on a link, which the other side closes behind its reply
unfoldable pub request_text : ReqData → List ℕ
request_text request = text_to (destination request.url) request
