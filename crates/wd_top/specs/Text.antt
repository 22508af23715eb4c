-- What a link carries.
use Rattle.std.specs.Prelude.{List, [], ◌∷◌, ◌++◌, ℕ, codes, bytes_eq, Option, Some, None}
use Rattle.wd_base.specs.declared.http.Reply.{Reply}
use Rattle.http_text.specs.ReplyText.{reply_text}
use Rattle.http_in.specs.Stream.{Requests}

-- the reply texts of requests in order, up to the first that has no reply yet
abbrev pub line : Requests → List (Option Reply) → List ℕ
line [] replies = []
line (r ∷ rs) [] = []
line (r ∷ rs) (None ∷ replies) = []
line (r ∷ rs) (Some reply ∷ replies) = reply_text reply (bytes_eq r.0.method (codes "HEAD")) r.1 ++ line rs replies
