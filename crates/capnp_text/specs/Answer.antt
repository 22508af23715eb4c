-- What is answered to the tokens of a text.
use Rattle.std.specs.Prelude.{◌≡◌, ℕ, List, Result, Ok, Err}
use Rattle.capnp_text.specs.declared.token.Token.{Token}
use Rattle.capnp_text.specs.declared.scan.Stop.{Stop}
use Rattle.capnp_text.specs.declared.scan.Stop.TheVariants as stop
use Rattle.capnp_text.specs.declared.scan.Tokens.{Tokens}
use Rattle.capnp_text.specs.declared.tree.Decl.{Decl}
use Rattle.capnp_text.specs.declared.machine.At.{At}
use Rattle.capnp_text.specs.declared.machine.At.TheVariants as at
use Rattle.capnp_text.specs.declared.machine.State.{State}
use Rattle.capnp_text.specs.declared.machine.Refusal.{Refusal}
use Rattle.capnp_text.specs.declared.machine.Refusal.TheVariants as refusal
use Rattle.capnp_text.specs.declared.reader.TextKind.{TextKind}
use Rattle.capnp_text.specs.declared.reader.TextKind.TheVariants as kind
use Rattle.capnp_text.specs.declared.reader.TextFault.{TextFault}
use Rattle.capnp_text.specs.declared.reader.ParseEnd.{ParseEnd}
use Rattle.capnp_text.specs.declared.reader.ParseEnd.TheVariants.{Fault, NoMemory}
use Rattle.capnp_text.specs.Grammar.{most_open}
use Rattle.capnp_text.specs.Machine.{read}
use Rattle.capnp_text.specs.Run.{Stuck}

-- the kind of fault that is answered for each reason to refuse a token
abbrev pub kind_of : Refusal → TextKind
kind_of refusal.BadToken = kind.BadToken
kind_of refusal.BadDecl = kind.BadDecl
kind_of refusal.TooDeep = kind.TooDeep

-- the state that was reached, or the fault at the token that was refused
abbrev pub ran : Result State (Stuck Token Refusal) → Result State TextFault
ran (Ok s) = Ok s
ran (Err k) = Err (record { kind = kind_of k.why; place = k.item.place })

-- no file: a fault of this kind at this offset
abbrev pub fault : TextKind → ℕ → Result (List Decl) TextFault
fault k p = Err (record { kind = k; place = p })

-- what a text that ends here is: its declarations, if the last of them is whole; else an unclosed one
abbrev pub finished : ℕ → List Decl → At → Result (List Decl) TextFault
finished p ds at.Decl = Ok ds
finished p ds _ = fault kind.Unclosed p

-- what a text is whose tokens stop so at this offset, once all of them are taken
abbrev pub at_stop : Stop → ℕ → State → Result (List Decl) TextFault
at_stop stop.End p s = finished p s.decls s.at
at_stop stop.Open p s = fault kind.Unclosed p
at_stop stop.BadByte p s = fault kind.BadByte p

-- the first fault: of a token, if one was refused, and else of how the tokens stop
abbrev pub judged : Stop → ℕ → Result State TextFault → Result (List Decl) TextFault
judged stop p (Ok s) = at_stop stop p s
judged stop p (Err f) = Err f

-- what a text of these tokens is: its declarations, or its first fault
abbrev pub answer : Tokens → Result (List Decl) TextFault
answer t = judged t.stop t.place (ran (read most_open t.tokens))

-- this answer, unless memory ran out
abbrev pub Tells : {A : Type 0} → Result A TextFault → Result A ParseEnd → Type 0
Tells told (Ok x) = told ≡ Ok x
Tells told (Err (Fault f)) = told ≡ Err f
Tells told (Err NoMemory) = Unit {0}
