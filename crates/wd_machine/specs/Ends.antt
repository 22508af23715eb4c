-- When a turn ends its request, and the reply that a request gets that can have no other.
use Rattle.std.specs.Prelude.{ℕ, ◌==◌, Bool, not, ◌&&◌, ◌||◌, if◌then◌else◌, List, [], ◌∷◌, ◌++◌, length, filter, Option, Some, codes, is_some}
use Rattle.std.specs.List.{list_any}
use Rattle.wd_base.specs.declared.http.Reply.{Reply}
use Rattle.wd_base.specs.declared.http.Why.{Why}
use Rattle.wd_base.specs.declared.http.Why.TheVariants.{Hung}
use Rattle.wd_base.specs.declared.ids.Obj.{Obj}
use Rattle.wd_machine.specs.declared.state.RequestState.{RequestState}
use Rattle.wd_machine.specs.declared.state.Waiter.{Waiter}
use Rattle.wd_machine.specs.declared.turn.Out.{Out}
use Rattle.wd_machine.specs.Meaning.{has_obj}

-- the name of the field
abbrev pub content_type : List ℕ
content_type = codes "content-type"

-- its value for a text
abbrev pub plain_text : List ℕ
plain_text = codes "text/plain;charset=UTF-8"

-- the text of status 500
abbrev pub internal_server_error : List ℕ
internal_server_error = codes "Internal Server Error"

-- the reply of a request that its script gave none (RFC 9110, section 15.6.1)
abbrev pub failure : Why → Reply
failure why = record { status = 500; fields = (content_type, plain_text) ∷ []; body = internal_server_error; why = why }

-- the request waits for a turn
abbrev pub waits_in : ℕ → List Waiter → Bool
waits_in req waiters = list_any (λ w. w.req.0 == req) waiters

-- the request has replied, or its caller is gone
abbrev pub is_settled : RequestState → Out → Bool
is_settled r out = r.replied || (is_some out.reply || r.detached)

-- nothing is left that could go on with the request: no operation in flight, and it does not wait for a turn
abbrev pub is_idle : RequestState → Bool → Out → Bool
is_idle r waiting out = (length r.flights == 0) && ((length out.ops == 0) && not waiting)

-- the turn ends its request: it was condemned, the request is settled and waits for no promise, or nothing is left of it
abbrev pub ends : RequestState → Bool → Out → Bool
ends r waiting out = out.condemned || (((out.waits == 0) && is_settled r out) || is_idle r waiting out)

-- nothing is left of the request, and it has no reply
abbrev pub is_hung : RequestState → Bool → Out → Bool
is_hung r waiting out = is_idle r waiting out && not (is_settled r out)

-- the reply that stands in the entry: the turn's, or that of a hung request
abbrev pub whole_reply : RequestState → Bool → Out → Option Reply
whole_reply r waiting out = if is_hung r waiting out then Some (failure Hung) else out.reply

-- the `Out` that stands in the entry
abbrev pub whole_out : RequestState → Bool → Out → Out
whole_out r waiting out = record out { reply = whole_reply r waiting out }

-- the objects that are not among those that were freed
abbrev pub without : List Obj → List Obj → List Obj
without freed objs = filter (λ o. not (has_obj freed o.0)) objs

-- the objects that are left when the turn has freed its own
abbrev pub left_live : RequestState → Out → List Obj
left_live r out = without out.freed (r.live ++ out.made)

-- what a turn frees: what its `Out` says, and at the request's end every object that is left
abbrev pub freed_by : RequestState → Bool → Out → List Obj
freed_by r waiting out = out.freed ++ (if ends r waiting out then left_live r out else [])
