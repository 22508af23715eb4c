-- The URL of bytes by whether they are UTF-8.
use Rattle.std.specs.Prelude.{◌≡◌, ℕ, Bool, true, false, List, None, IsUtf8, if◌then◌else◌}
use Rattle.std.proofs.Common.{refl}
use Rattle.std.specs.Str.{is_utf8}
use Rattle.std.proofs.lemmas.Str.{IsUtf8-from_is_utf8, is_utf8-from_IsUtf8}
use Rattle.wd_url.specs.Url.{url_of, url_of_text}

-- bytes that are UTF-8 spell the URL of their text
pub of_utf8 : (bytes : List ℕ) → IsUtf8 bytes → url_of bytes ≡ url_of_text bytes
of_utf8 bytes utf8 = rw (is_utf8-from_IsUtf8 bytes utf8)

none_by : (bytes : List ℕ) (test : Bool) → (test ≡ true → IsUtf8 bytes) → (IsUtf8 bytes → ⊥) → (if test then url_of_text bytes else None) ≡ None
none_by bytes true told not = absurd (not (told refl))
none_by bytes false told not = refl

-- bytes that are not UTF-8 spell none
pub of_others : (bytes : List ℕ) → (IsUtf8 bytes → ⊥) → url_of bytes ≡ None
of_others bytes not = none_by bytes (is_utf8 bytes) (IsUtf8-from_is_utf8 bytes) not
