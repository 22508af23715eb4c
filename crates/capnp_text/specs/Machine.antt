-- What each token does, where so many brackets may be open.
use Rattle.std.specs.Prelude.{ℕ, nat_lt, Bool, true, false, cond, List, [], ◌∷◌, ◌++◌, length, codes, Result, Ok, Err}
use Rattle.std.specs.Str.{bytes_eq}
use Rattle.capnp_text.specs.declared.token.TokenKind.{TokenKind}
use Rattle.capnp_text.specs.declared.token.TokenKind.TheVariants as tok
use Rattle.capnp_text.specs.declared.token.Token.{Token}
use Rattle.capnp_text.specs.declared.tree.Placed.{Placed}
use Rattle.capnp_text.specs.declared.tree.Value.{Value}
use Rattle.capnp_text.specs.declared.tree.Value.TheVariants as value
use Rattle.capnp_text.specs.declared.tree.Field.{Field, roll-Field}
use Rattle.capnp_text.specs.declared.tree.Decl.{Decl}
use Rattle.capnp_text.specs.declared.tree.Decl.TheVariants as decl
use Rattle.capnp_text.specs.declared.machine.Head.{Head}
use Rattle.capnp_text.specs.declared.machine.Frame.{Frame}
use Rattle.capnp_text.specs.declared.machine.Frame.TheVariants as frame
use Rattle.capnp_text.specs.declared.machine.Spot.{Spot}
use Rattle.capnp_text.specs.declared.machine.Spot.TheVariants as spot
use Rattle.capnp_text.specs.declared.machine.At.{At}
use Rattle.capnp_text.specs.declared.machine.At.TheVariants as at
use Rattle.capnp_text.specs.declared.machine.State.{State}
use Rattle.capnp_text.specs.declared.machine.Refusal.{Refusal}
use Rattle.capnp_text.specs.declared.machine.Refusal.TheVariants as refusal
use Rattle.capnp_text.specs.Run.{Stuck, run}

-- what a token leads to: the next state of the parser, or why it is refused
abbrev pub Step : Type 0
Step = Result State Refusal

-- the token is taken, and the parser goes on at this position
abbrev pub to : List Decl → At → Step
to ds a = Ok (record { decls = ds; at = a })

-- the token is taken, and the parser stays within the value of this constant
abbrev pub stay : List Decl → Head → List Frame → Spot → Step
stay ds h fs s = to ds (at.In h fs s)

-- a token that cannot stand here
abbrev pub bad : Step
bad = Err refusal.BadToken

-- bytes of the text, with the offset at which they stand
abbrev pub word : ℕ → List ℕ → Placed
word p b = record { place = p; bytes = b }

-- a struct's field of this name and value
abbrev pub field : Placed → Value → Field
field n v = roll-Field (record { name = n; value = v })

-- the word `embed`, at a place
abbrev pub embed : ℕ → Placed
embed p = word p (codes "embed")

-- ---- values

-- a name as a value: `embed` waits for its path, and any other is a word
abbrev pub on_word : List Decl → Head → List Frame → ℕ → List ℕ → Bool → Step
on_word ds h fs p b true = stay ds h fs (spot.Embed p)
on_word ds h fs p b false = stay ds h fs (spot.Done (value.Word (word p b)))

-- the brackets in fs are open; may one more be?
abbrev pub if_room : ℕ → List Frame → Step → Step
if_room most fs o = cond (nat_lt (length fs) most) o (Err refusal.TooDeep)

-- a value begins
abbrev pub begin : ℕ → List Decl → Head → List Frame → ℕ → TokenKind → Step
begin most ds h fs p (tok.Text b) = stay ds h fs (spot.Done (value.Text (word p b)))
begin most ds h fs p (tok.Data b) = stay ds h fs (spot.Done (value.Data (word p b)))
begin most ds h fs p (tok.Number b) = stay ds h fs (spot.Done (value.Number (word p b)))
begin most ds h fs p (tok.Name b) = on_word ds h fs p b (bytes_eq b (codes "embed"))
begin most ds h fs p tok.Dot = stay ds h fs (spot.Dot p)
begin most ds h fs p tok.OpenParen = if_room most fs (stay ds h fs (spot.Name p []))
begin most ds h fs p tok.OpenBracket = if_room most fs (stay ds h fs (spot.Item p []))
begin most ds h fs p _ = bad

-- a value is complete, and a token comes
-- a constant's value is whole: a semicolon ends its declaration
abbrev pub after_const : List Decl → Head → Value → TokenKind → Step
after_const ds h v tok.Semicolon = to (ds ++ decl.Const h.name h.type_ v ∷ []) at.Decl
after_const ds h v _ = bad

-- a list's item is whole: a comma or the closing bracket follows
abbrev pub after_item : List Decl → Head → List Frame → ℕ → List Value → TokenKind → Step
after_item ds h fs p vs tok.Comma = stay ds h fs (spot.Item p vs)
after_item ds h fs p vs tok.CloseBracket = stay ds h fs (spot.Done (value.List p vs))
after_item ds h fs p vs _ = bad

-- a struct's field is whole: a comma or the closing parenthesis follows
abbrev pub after_field : List Decl → Head → List Frame → ℕ → List Field → TokenKind → Step
after_field ds h fs p xs tok.Comma = stay ds h fs (spot.Name p xs)
after_field ds h fs p xs tok.CloseParen = stay ds h fs (spot.Done (value.Struct p xs))
after_field ds h fs p xs _ = bad

-- a value is whole: the innermost open bracket, or the declaration, says what may follow
abbrev pub after : List Decl → Head → List Frame → Value → TokenKind → Step
after ds h [] v t = after_const ds h v t
after ds h (frame.List p vs ∷ fs) v t = after_item ds h fs p (vs ++ v ∷ []) t
after ds h (frame.Struct p xs n ∷ fs) v t = after_field ds h fs p (xs ++ field n v ∷ []) t

-- after `embed`: a text is the path of a file; otherwise `embed` was a word of its own
abbrev pub on_embed : List Decl → Head → List Frame → ℕ → ℕ → TokenKind → Step
on_embed ds h fs q p (tok.Text b) = stay ds h fs (spot.Done (value.Embed q (word p b)))
on_embed ds h fs q p t = after ds h fs (value.Word (embed q)) t

-- after a dot: the name of a constant
abbrev pub on_dot : List Decl → Head → List Frame → ℕ → ℕ → TokenKind → Step
on_dot ds h fs q p (tok.Name b) = stay ds h fs (spot.Done (value.Constant q (word p b)))
on_dot ds h fs q p _ = bad

-- in a list, where an item or the closing bracket may stand
abbrev pub on_item : ℕ → List Decl → Head → List Frame → ℕ → List Value → ℕ → TokenKind → Step
on_item most ds h fs q vs p tok.CloseBracket = stay ds h fs (spot.Done (value.List q vs))
on_item most ds h fs q vs p t = begin most ds h (frame.List q vs ∷ fs) p t

-- in a struct, where a field's name or the closing parenthesis may stand
abbrev pub on_name : List Decl → Head → List Frame → ℕ → List Field → ℕ → TokenKind → Step
on_name ds h fs q xs p tok.CloseParen = stay ds h fs (spot.Done (value.Struct q xs))
on_name ds h fs q xs p (tok.Name b) = stay ds h fs (spot.Equals q xs (word p b))
on_name ds h fs q xs p _ = bad

-- after a field's name: an equals sign, and nothing else
abbrev pub on_equals : List Decl → Head → List Frame → ℕ → List Field → Placed → TokenKind → Step
on_equals ds h fs q xs n tok.Equals = stay ds h (frame.Struct q xs n ∷ fs) spot.Begin
on_equals ds h fs q xs n _ = bad

-- a token within a constant's value, by what was read last there
abbrev pub in_value : ℕ → List Decl → Head → List Frame → Spot → ℕ → TokenKind → Step
in_value most ds h fs spot.Begin p t = begin most ds h fs p t
in_value most ds h fs (spot.Embed q) p t = on_embed ds h fs q p t
in_value most ds h fs (spot.Dot q) p t = on_dot ds h fs q p t
in_value most ds h fs (spot.Item q vs) p t = on_item most ds h fs q vs p t
in_value most ds h fs (spot.Name q xs) p t = on_name ds h fs q xs p t
in_value most ds h fs (spot.Equals q xs n) p t = on_equals ds h fs q xs n t
in_value most ds h fs (spot.Done v) p t = after ds h fs v t

-- ---- declarations

-- a word that begins a declaration: `const` or `using`, and no other
abbrev pub on_decl : List Decl → Bool → Bool → Step
on_decl ds true _ = to ds at.ConstName
on_decl ds false true = to ds at.UsingName
on_decl ds false false = Err refusal.BadDecl

-- where a declaration may begin: with `const`, `using` or the sign `@`
abbrev pub begin_decl : List Decl → TokenKind → Step
begin_decl ds (tok.Name w) = on_decl ds (bytes_eq w (codes "const")) (bytes_eq w (codes "using"))
begin_decl ds tok.At = to ds at.Id
begin_decl ds _ = Err refusal.BadDecl

-- after `@`: the file's identifier, a hexadecimal number
abbrev pub on_id : List Decl → ℕ → TokenKind → Step
on_id ds p (tok.Hex w) = to ds (at.IdEnd (word p w))
on_id ds p _ = bad

-- after the file's identifier: a semicolon
abbrev pub on_id_end : List Decl → Placed → TokenKind → Step
on_id_end ds id tok.Semicolon = to (ds ++ decl.Id id ∷ []) at.Decl
on_id_end ds id _ = bad

-- after `using`: the alias that is declared
abbrev pub on_using_name : List Decl → ℕ → TokenKind → Step
on_using_name ds p (tok.Name w) = to ds (at.UsingEquals (word p w))
on_using_name ds p _ = bad

-- after the alias: an equals sign
abbrev pub on_using_equals : List Decl → Placed → TokenKind → Step
on_using_equals ds n tok.Equals = to ds (at.UsingImport n)
on_using_equals ds n _ = bad

-- the word after the equals sign: `import`, and no other
abbrev pub on_import : List Decl → Placed → Bool → Step
on_import ds n true = to ds (at.UsingPath n)
on_import ds n false = bad

-- where `import` must stand
abbrev pub on_using_import : List Decl → Placed → TokenKind → Step
on_using_import ds n (tok.Name w) = on_import ds n (bytes_eq w (codes "import"))
on_using_import ds n _ = bad

-- after `import`: the path, as a text
abbrev pub on_using_path : List Decl → Placed → ℕ → TokenKind → Step
on_using_path ds n p (tok.Text w) = to ds (at.UsingEnd n (word p w))
on_using_path ds n p _ = bad

-- after the path: a semicolon
abbrev pub on_using_end : List Decl → Placed → Placed → TokenKind → Step
on_using_end ds n w tok.Semicolon = to (ds ++ decl.Using n w ∷ []) at.Decl
on_using_end ds n w _ = bad

-- after `const`: the name of the constant
abbrev pub on_const_name : List Decl → ℕ → TokenKind → Step
on_const_name ds p (tok.Name w) = to ds (at.ConstColon (word p w))
on_const_name ds p _ = bad

-- after the constant's name: a colon
abbrev pub on_const_colon : List Decl → Placed → TokenKind → Step
on_const_colon ds n tok.Colon = to ds (at.Type (record { name = n; type_ = [] }))
on_const_colon ds n _ = bad

-- where a part of the type's name must stand
abbrev pub on_type : List Decl → Head → ℕ → TokenKind → Step
on_type ds h p (tok.Name w) = to ds (at.Typed h (word p w))
on_type ds h p _ = bad

-- a constant whose type's name has one part more
abbrev pub with_part : Head → Placed → Head
with_part h w = record { name = h.name; type_ = h.type_ ++ w ∷ [] }

-- after a part of the type's name: a dot and a further part, or an equals sign and the value
abbrev pub on_typed : List Decl → Head → Placed → TokenKind → Step
on_typed ds h w tok.Dot = to ds (at.Type (with_part h w))
on_typed ds h w tok.Equals = stay ds (with_part h w) [] spot.Begin
on_typed ds h w _ = bad

-- what a token does at each position of the parser
abbrev pub step_at : ℕ → List Decl → At → ℕ → TokenKind → Step
step_at most ds at.Decl p t = begin_decl ds t
step_at most ds at.Id p t = on_id ds p t
step_at most ds (at.IdEnd id) p t = on_id_end ds id t
step_at most ds at.UsingName p t = on_using_name ds p t
step_at most ds (at.UsingEquals n) p t = on_using_equals ds n t
step_at most ds (at.UsingImport n) p t = on_using_import ds n t
step_at most ds (at.UsingPath n) p t = on_using_path ds n p t
step_at most ds (at.UsingEnd n w) p t = on_using_end ds n w t
step_at most ds at.ConstName p t = on_const_name ds p t
step_at most ds (at.ConstColon n) p t = on_const_colon ds n t
step_at most ds (at.Type h) p t = on_type ds h p t
step_at most ds (at.Typed h w) p t = on_typed ds h w t
step_at most ds (at.In h fs s) p t = in_value most ds h fs s p t

-- what a token does in a state of the parser
abbrev pub step : ℕ → State → Token → Step
step most s t = step_at most s.decls s.at t.place t.kind

-- the state before the first token: no declaration, and one may begin
abbrev pub start : State
start = record { decls = []; at = at.Decl }

-- the run from the beginning of a file
abbrev pub read : ℕ → List Token → Result State (Stuck Token Refusal)
read most ts = run (step most) start ts
