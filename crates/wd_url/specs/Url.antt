-- The URL that bytes spell, and its parts as a request names them.
use Rattle.std.specs.Prelude.{ℕ, List, [], ◌∷◌, ◌++◌, decimal, option_map, Option, Some, None, Result, Ok, Err, if◌then◌else◌}
use Rattle.std.specs.Str.{is_utf8}
use Rattle.url.specs.Host.{host_text}
use Rattle.url.specs.Parser.{parse_url}
use Rattle.url.specs.Parts.{Parts, nonempty_host, serialize}
use Rattle.url.specs.declared.error.ParseError.{ParseError}
use Rattle.url.specs.declared.host.Host.{Host}

-- what a parser gives, without the reason for which it gives nothing
abbrev pub given : Result Parts ParseError → Option Parts
given (Ok url) = Some url
given (Err e) = None

-- the URL that a text spells, or None where it does not parse (URL Standard, section 4.4)
unfoldable pub url_of_text : List ℕ → Option Parts
url_of_text text = given (parse_url None text)

-- the URL that bytes spell: there is none where they are not UTF-8
abbrev pub url_of : List ℕ → Option Parts
url_of bytes = if is_utf8 bytes then url_of_text bytes else None

-- the text of the URL that bytes spell (URL Standard, section 4.5)
abbrev pub url_text : List ℕ → Option (List ℕ)
url_text bytes = option_map serialize (url_of bytes)

-- a port behind its colon, and nothing for none
abbrev pub port_text : Option ℕ → List ℕ
port_text None = []
port_text (Some port) = 58 ∷ decimal port

-- a host with a port, and nothing where there is no host
abbrev pub authority : Option (Host (List ℕ)) → Option ℕ → List ℕ
authority None port = []
authority (Some host) port = host_text host ++ port_text port

-- the host of a URL and the port that its text has, as a Host field states them (RFC 9112, section 3.2)
abbrev pub host_and_port : Parts → List ℕ
host_and_port url = authority (nonempty_host url) url.port

-- a query behind its question mark, and nothing for none
abbrev pub query_text : Option (List ℕ) → List ℕ
query_text None = []
query_text (Some query) = 63 ∷ query

-- the path and the query, as a request line states them (RFC 9112, section 3.2.1)
abbrev pub path_and_query : Parts → List ℕ
path_and_query url = url.path ++ query_text url.query
