-- Bodies are read in one way alone, and what comes behind them changes nothing.
use Rattle.std.proofs.Common.{◌≡◌, ℕ, List, [], ◌∷◌, ◌++◌, length, refl, sym, ap, ap₂, ◌∙◌, arith, append_assoc, Option, Some}
use Rattle.http_message.specs.declared.extent.Extent.{Extent}
use Rattle.http_message.specs.declared.extent.Extent.TheVariants as extent
use Rattle.http_message.specs.declared.extent.Refusal.{Refusal}
use Rattle.http_message.proofs.ChunkLaws.{chunked_more, chunked_unique, chunked_refused_more, chunked_refused, chunked_refused_unique}
use Rattle.http_in.specs.Stream.{ReadsBody, RefusesBody}

same_front : (d d' t t' : List ℕ) → length d ≡ length d' → d ++ t ≡ d' ++ t' → (d ≡ d') × (t ≡ t')
same_front [] [] t t' e x = (refl, x)
same_front [] (y ∷ d') t t' e x = absurd (omega (arith, e))
same_front (y ∷ d) [] t t' e x = absurd (omega (arith, e))
same_front (y ∷ d) (z ∷ d') t t' e x =
    let h : y ≡ z = cc in
    let r : d ++ t ≡ d' ++ t' = cc in
    let l : length d ≡ length d' = omega (arith, e) in
    let u = same_front d d' t t' l r in
    (ap₂ (λ a b. a ∷ b) h u.0, u.1)

pub body_unique : (e : Extent) (b : List ℕ) (body body' : Option (List ℕ)) (r q : List ℕ) → ReadsBody e b body r → ReadsBody e b body' q → (body ≡ body') × (r ≡ q)
body_unique extent.Nothing b body body' r q x y = (x.0 ∙ sym y.0, sym x.1 ∙ y.1)
body_unique (extent.Length n) b body body' r q (t, is, l, s) (t', is', l', s') =
    let u = same_front t t' r q (l ∙ sym l') (sym s ∙ s') in
    (is ∙ ap Some u.0 ∙ sym is', u.1)
body_unique extent.Chunked b body body' r q (t, is, c) (t', is', c') =
    let u = chunked_unique b t t' r q c c' in
    (is ∙ ap Some u.0 ∙ sym is', u.1)

pub body_more : (e : Extent) (b : List ℕ) (body : Option (List ℕ)) (r more : List ℕ) → ReadsBody e b body r → ReadsBody e (b ++ more) body (r ++ more)
body_more extent.Nothing b body r more x = (x.0, ap (λ t. t ++ more) x.1)
body_more (extent.Length n) b body r more (t, is, l, s) = (t, is, l, ap (λ z. z ++ more) s ∙ append_assoc t r more)
body_more extent.Chunked b body r more (t, is, c) = (t, is, chunked_more b t r more c)

pub refused_body_more : (e : Extent) (b more : List ℕ) (why : Refusal) → RefusesBody e b why → RefusesBody e (b ++ more) why
refused_body_more extent.Nothing b more why x = absurd x
refused_body_more (extent.Length n) b more why x = absurd x
refused_body_more extent.Chunked b more why x = chunked_refused_more b more why x

pub body_refused : (e : Extent) (b : List ℕ) (body : Option (List ℕ)) (r : List ℕ) (why : Refusal) → ReadsBody e b body r → RefusesBody e b why → ⊥
body_refused extent.Nothing b body r why x y = y
body_refused (extent.Length n) b body r why x y = y
body_refused extent.Chunked b body r why (t, is, c) y = chunked_refused b t r why c y

pub refused_body_unique : (e : Extent) (b : List ℕ) (why why' : Refusal) → RefusesBody e b why → RefusesBody e b why' → why ≡ why'
refused_body_unique extent.Nothing b why why' x y = absurd x
refused_body_unique (extent.Length n) b why why' x y = absurd x
refused_body_unique extent.Chunked b why why' x y = chunked_refused_unique b why why' x y
