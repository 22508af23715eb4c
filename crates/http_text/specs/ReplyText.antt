-- The text of a reply on a link (RFC 9112, sections 4 to 6).
use Rattle.std.specs.Prelude.{ℕ, List, [], ◌∷◌, ◌++◌, ◌&&◌, ◌||◌, ◌==◌, Bool}
use Rattle.std.specs.Prelude.{codes, decimal, length, flat_map, unwrap_or, nat_le, nat_lt, if◌then◌else◌}
use Rattle.http.specs.StatusCode.{reason_phrase}
use Rattle.wd_base.specs.declared.http.Reply.{Reply}
use Rattle.wd_base.specs.declared.http.Why.TheVariants as why
use Rattle.http_text.specs.Fields.{crlf, kept_line, length_line, closing_line}

-- the phrase of a status code (RFC 9110, section 15), or nothing for a code that has none
unfoldable pub phrase_of : ℕ → List ℕ
phrase_of status = if nat_le 100 status && nat_lt status 1000 then unwrap_or (reason_phrase status) [] else []

-- the status line (RFC 9112, section 4): the space behind the code stands there without a phrase too
abbrev pub status_line : ℕ → List ℕ
status_line status = codes "HTTP/1.1 " ++ (decimal status ++ (32 ∷ (phrase_of status ++ crlf)))

-- a reply of this code is interim: another one follows it (RFC 9110, section 15.2)
abbrev pub is_interim : ℕ → Bool
is_interim status = nat_le 100 status && nat_lt status 200

-- replies of these codes have neither a body nor a length (RFC 9110, section 8.6; RFC 9112, section 6.3)
abbrev pub is_unsized : ℕ → Bool
is_unsized status = is_interim status || (status == 204 || status == 304)

-- a reply of this code has no body (RFC 9110, section 15.3.6), and its length is 0
abbrev pub is_reset : ℕ → Bool
is_reset status = status == 205

-- the length that a reply states, of its code and of its body's size
abbrev pub stated_length : ℕ → ℕ → List ℕ
stated_length status size = if is_unsized status then [] else length_line (if is_reset status then 0 else size)

-- the bytes behind the head: nothing in a reply to HEAD (RFC 9110, section 9.3.2)
abbrev pub sent_body : Reply → Bool → List ℕ
sent_body reply head = if head || is_unsized reply.status || is_reset reply.status then [] else reply.body

-- the last lines of the head
abbrev pub head_end : Bool → List ℕ
head_end close = if close then closing_line ++ crlf else crlf

-- a reply's bytes on a link, to a HEAD request or another, where the link closes behind it or not
unfoldable pub reply_text : Reply → Bool → Bool → List ℕ
reply_text reply head close = status_line reply.status ++ (flat_map kept_line reply.fields
    ++ (stated_length reply.status (length reply.body) ++ (head_end close ++ sent_body reply head)))

-- the reply whose text is the phrase of its code
abbrev pub bad_reply : ℕ → Reply
bad_reply status = record {
  status = status;
  fields = (codes "content-type", codes "text/plain;charset=UTF-8") ∷ [];
  body = phrase_of status;
  why = why.Service;
}
