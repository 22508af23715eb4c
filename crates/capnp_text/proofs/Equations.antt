-- The marks and the depth of each value.
use Rattle.std.proofs.Common.{◌≡◌, ℕ, ◌+◌, List, [], ◌∷◌, ◌++◌, map, sym, ap, ◌∙◌}
use Rattle.std.specs.Prelude.{codes}
use Rattle.capnp_text.specs.declared.token.TokenKind.TheVariants as tok
use Rattle.capnp_text.specs.declared.tree.Placed.{Placed}
use Rattle.capnp_text.specs.declared.tree.Value.{Value}
use Rattle.capnp_text.specs.declared.tree.Value.TheVariants as value
use Rattle.capnp_text.specs.declared.tree.Value.TheOpen.{Value-F}
use Rattle.capnp_text.specs.declared.tree.Value.TheFolds.{fold-roll-Value, fold-roll-Field}
use Rattle.capnp_text.specs.declared.tree.Field.{Field}
use Rattle.capnp_text.specs.Marks.{Mark, Just, At}
use Rattle.capnp_text.specs.Grammar.{name, text, listed, of_value, of_field, depth, field_depth, deepest, value_step, field_step, depth_step, depth_of_field}
use Rattle.capnp_text.specs.Machine.{field}

pub of_text : (w : Placed) → of_value (value.Text w) ≡ text w ∷ []
of_text w = ap of_value (sym (value.rolls-Text w)) ∙ fold-roll-Value (List Mark) (List Mark) value_step field_step (Value-F.Text w)

pub of_data : (w : Placed) → of_value (value.Data w) ≡ At w.place (tok.Data w.bytes) ∷ []
of_data w = ap of_value (sym (value.rolls-Data w)) ∙ fold-roll-Value (List Mark) (List Mark) value_step field_step (Value-F.Data w)

pub of_number : (w : Placed) → of_value (value.Number w) ≡ At w.place (tok.Number w.bytes) ∷ []
of_number w = ap of_value (sym (value.rolls-Number w)) ∙ fold-roll-Value (List Mark) (List Mark) value_step field_step (Value-F.Number w)

pub of_word : (w : Placed) → of_value (value.Word w) ≡ name w ∷ []
of_word w = ap of_value (sym (value.rolls-Word w)) ∙ fold-roll-Value (List Mark) (List Mark) value_step field_step (Value-F.Word w)

pub of_constant : (p : ℕ) (w : Placed) → of_value (value.Constant p w) ≡ At p tok.Dot ∷ name w ∷ []
of_constant p w = ap of_value (sym (value.rolls-Constant p w)) ∙ fold-roll-Value (List Mark) (List Mark) value_step field_step (Value-F.Constant p w)

pub of_embed : (p : ℕ) (w : Placed) → of_value (value.Embed p w) ≡ At p (tok.Name (codes "embed")) ∷ text w ∷ []
of_embed p w = ap of_value (sym (value.rolls-Embed p w)) ∙ fold-roll-Value (List Mark) (List Mark) value_step field_step (Value-F.Embed p w)

pub of_struct : (p : ℕ) (fs : List Field) → of_value (value.Struct p fs) ≡ At p tok.OpenParen ∷ (listed (map of_field fs) ++ Just tok.CloseParen ∷ [])
of_struct p fs = ap of_value (sym (value.rolls-Struct p fs)) ∙ fold-roll-Value (List Mark) (List Mark) value_step field_step (Value-F.Struct p fs)

pub of_list : (p : ℕ) (vs : List Value) → of_value (value.List p vs) ≡ At p tok.OpenBracket ∷ (listed (map of_value vs) ++ Just tok.CloseBracket ∷ [])
of_list p vs = ap of_value (sym (value.rolls-List p vs)) ∙ fold-roll-Value (List Mark) (List Mark) value_step field_step (Value-F.List p vs)

pub of_a_field : (n : Placed) (v : Value) → of_field (field n v) ≡ name n ∷ Just tok.Equals ∷ of_value v
of_a_field n v = fold-roll-Field (List Mark) (List Mark) value_step field_step (record { name = n; value = v })

pub depth_text : (w : Placed) → depth (value.Text w) ≡ 0
depth_text w = ap depth (sym (value.rolls-Text w)) ∙ fold-roll-Value ℕ ℕ depth_step depth_of_field (Value-F.Text w)

pub depth_data : (w : Placed) → depth (value.Data w) ≡ 0
depth_data w = ap depth (sym (value.rolls-Data w)) ∙ fold-roll-Value ℕ ℕ depth_step depth_of_field (Value-F.Data w)

pub depth_number : (w : Placed) → depth (value.Number w) ≡ 0
depth_number w = ap depth (sym (value.rolls-Number w)) ∙ fold-roll-Value ℕ ℕ depth_step depth_of_field (Value-F.Number w)

pub depth_word : (w : Placed) → depth (value.Word w) ≡ 0
depth_word w = ap depth (sym (value.rolls-Word w)) ∙ fold-roll-Value ℕ ℕ depth_step depth_of_field (Value-F.Word w)

pub depth_constant : (p : ℕ) (w : Placed) → depth (value.Constant p w) ≡ 0
depth_constant p w = ap depth (sym (value.rolls-Constant p w)) ∙ fold-roll-Value ℕ ℕ depth_step depth_of_field (Value-F.Constant p w)

pub depth_embed : (p : ℕ) (w : Placed) → depth (value.Embed p w) ≡ 0
depth_embed p w = ap depth (sym (value.rolls-Embed p w)) ∙ fold-roll-Value ℕ ℕ depth_step depth_of_field (Value-F.Embed p w)

pub depth_struct : (p : ℕ) (fs : List Field) → depth (value.Struct p fs) ≡ 1 + deepest (map field_depth fs)
depth_struct p fs = ap depth (sym (value.rolls-Struct p fs)) ∙ fold-roll-Value ℕ ℕ depth_step depth_of_field (Value-F.Struct p fs)

pub depth_list : (p : ℕ) (vs : List Value) → depth (value.List p vs) ≡ 1 + deepest (map depth vs)
depth_list p vs = ap depth (sym (value.rolls-List p vs)) ∙ fold-roll-Value ℕ ℕ depth_step depth_of_field (Value-F.List p vs)

pub depth_field : (n : Placed) (v : Value) → field_depth (field n v) ≡ depth v
depth_field n v = fold-roll-Field ℕ ℕ depth_step depth_of_field (record { name = n; value = v })
