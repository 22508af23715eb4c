-- A token that is no text.
use Rattle.std.proofs.Common.{◌≡◌, List, ℕ, refl}
use Rattle.capnp_text.specs.declared.token.TokenKind.{TokenKind}
use Rattle.capnp_text.specs.declared.token.TokenKind.TheVariants as tok
use Rattle.capnp_text.specs.declared.tree.Value.TheVariants as value
use Rattle.capnp_text.specs.declared.tree.Decl.{Decl}
use Rattle.capnp_text.specs.declared.machine.Head.{Head}
use Rattle.capnp_text.specs.declared.machine.Frame.{Frame}
use Rattle.capnp_text.specs.Machine.{on_embed, after, embed}

pub embed_other : (ds : List Decl) (h : Head) (fs : List Frame) (q p : ℕ) (t : TokenKind) → ((b : List ℕ) → t ≡ tok.Text b → ⊥) → on_embed ds h fs q p t ≡ after ds h fs (value.Word (embed q)) t
embed_other ds h fs q p (tok.Text b) n = absurd (n b refl)
embed_other ds h fs q p _ n = refl
