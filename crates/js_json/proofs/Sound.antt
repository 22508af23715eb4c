-- What is accepted is in the grammar.
use Rattle.std.proofs.Common.{◌≡◌, ℕ, zero, suc, ◌+◌, ◌-◌, ◌^◌, ◌<◌, Bool, true, false, List, [], ◌∷◌, ◌++◌, ◌⊎◌, inl, inr, length, Option, Some, None, refl, sym, ◌∙◌, ap, subst, append_assoc, arith}
use Rattle.std.specs.Prelude.{◌==◌, nat_lt}
use Rattle.std.proofs.lemmas.Bool.{eqb-true, ltb-true, cond_both}
use Rattle.std.proofs.lemmas.List.{length-append}
use Rattle.js_json.specs.declared.levels.Level.{Level}
use Rattle.js_json.specs.declared.levels.Level.TheVariants as level
use Rattle.js_json.specs.declared.machine.Part.{Part}
use Rattle.js_json.specs.declared.machine.Part.TheVariants as part
use Rattle.js_json.specs.declared.machine.Taken.{Taken}
use Rattle.js_json.specs.declared.machine.Taken.TheVariants as taken
use Rattle.js_json.specs.declared.machine.Spot.{Spot}
use Rattle.js_json.specs.declared.machine.Spot.TheVariants as spot
use Rattle.js_json.specs.declared.machine.State.{State}
use Rattle.js_json.specs.Units.{is_blank}
use Rattle.js_json.specs.Lists.{Then, Many, Either, One}
use Rattle.js_json.specs.Grammar.{Blanks, IsKey, IsScalar, Parted, Between, Item, Member, IsArray, IsObject, IsValue, IsJson}
use Rattle.js_json.specs.Machine.{Step, stay, begin_part, begin, begin_key, close_array, close_object, next, on_first_item, on_first_key, on_done, behind, is_key, on_taken, step_at, step, stops_at, went, accepts, start, first_part, token, may_end}
use Rattle.js_json.proofs.Tokens.{Spelled, IsToken, Ends, GoesOn, token_goes, token_ends, Begun, first_begun, text_begun}

-- ---- lists one behind the other

pub then_assoc : (P Q R : List ℕ → Type 0) (us : List ℕ) → Then P (Then Q R) us → Then (Then P Q) R us
then_assoc P Q R us t =
    let s = t.second in
    record {
      front = t.front ++ s.front;
      back = s.back;
      is = t.is ∙ ap (λ (z : List ℕ). t.front ++ z) s.is ∙ sym (append_assoc t.front s.front s.back);
      first = record { front = t.front; back = s.front; is = refl; first = t.first; second = s.first };
      second = s.second;
    }

pub then_first : (P Q R : List ℕ → Type 0) (us : List ℕ) → ((vs : List ℕ) → P vs → Q vs) → Then P R us → Then Q R us
then_first P Q R us f t = record { front = t.front; back = t.back; is = t.is; first = f t.front t.first; second = t.second }

pub then_second : (P Q R : List ℕ → Type 0) (us : List ℕ) → ((vs : List ℕ) → Q vs → R vs) → Then P Q us → Then P R us
then_second P Q R us f t = record { front = t.front; back = t.back; is = t.is; first = t.first; second = f t.back t.second }

one_then : (n : ℕ) (P : List ℕ → Type 0) (u : ℕ) (us : List ℕ) → (u == n) ≡ true → P us → Then (One n) P (u ∷ us)
one_then n P u us e p = record { front = u ∷ []; back = us; is = refl; first = ap (λ (z : ℕ). z ∷ []) (eqb-true u n e); second = p }

no_blanks : (P : List ℕ → Type 0) (us : List ℕ) → P us → Then Blanks P us
no_blanks P us p = record { front = []; back = us; is = refl; first = tt; second = p }

blank_more : (P : List ℕ → Type 0) (u : ℕ) (us : List ℕ) → is_blank u ≡ true → Then Blanks P us → Then Blanks P (u ∷ us)
blank_more P u us h t = record { front = u ∷ t.front; back = t.back; is = ap (λ (z : List ℕ). u ∷ z) t.is; first = (h, t.first); second = t.second }

none_many : (P R : List ℕ → Type 0) (us : List ℕ) → R us → Then (Many P) R us
none_many P R us r = record { front = []; back = us; is = refl; first = record { parts = []; every = tt; is = refl }; second = r }

one_more : (P R : List ℕ → Type 0) (us : List ℕ) → Then P (Then (Many P) R) us → Then (Many P) R us
one_more P R us t =
    let s = t.second in
    record {
      front = t.front ++ s.front;
      back = s.back;
      is = t.is ∙ ap (λ (z : List ℕ). t.front ++ z) s.is ∙ sym (append_assoc t.front s.front s.back);
      first = record { parts = t.front ∷ s.first.parts; every = (t.first, s.first.every); is = ap (λ (z : List ℕ). t.front ++ z) s.first.is };
      second = s.second;
    }

-- ---- what may follow a state

-- the values that may stand within these levels
abbrev pub Val : List Level → List ℕ → Type 0
Val ls us = IsValue (64 - length ls) us

abbrev pub ItemIn : List Level → List ℕ → Type 0
ItemIn ls us = Item (Val ls) us

abbrev pub MemberIn : List Level → List ℕ → Type 0
MemberIn ls us = Member (Val ls) us

-- behind a value
abbrev pub After : List Level → List ℕ → Type 0
After [] us = Blanks us
After (level.Array ∷ ls) us = Then Blanks (Then (Many (Then (One 44) (ItemIn (level.Array ∷ ls)))) (Then (One 93) (After ls))) us
After (level.Object ∷ ls) us = Then Blanks (Then (Many (Then (One 44) (MemberIn (level.Object ∷ ls)))) (Then (One 125) (After ls))) us

abbrev pub ValueThen : List Level → List ℕ → Type 0
ValueThen ls us = Then (Val ls) (After ls) us

abbrev pub BeginThen : List Level → List ℕ → Type 0
BeginThen ls us = Then Blanks (ValueThen ls) us

abbrev pub ColonThen : List Level → List ℕ → Type 0
ColonThen ls us = Then Blanks (Then (One 58) (BeginThen ls)) us

abbrev pub KeyThen : List Level → List ℕ → Type 0
KeyThen ls us = Then IsKey (ColonThen ls) us

abbrev pub ClosesArray : List Level → List ℕ → Type 0
ClosesArray (level.Array ∷ ls) us = Then (One 93) (After ls) us
ClosesArray _ us = ⊥

abbrev pub ClosesObject : List Level → List ℕ → Type 0
ClosesObject (level.Object ∷ ls) us = Then (One 125) (After ls) us
ClosesObject _ us = ⊥

abbrev pub TokenThen : Bool → List Level → List ℕ → Type 0
TokenThen true ls us = KeyThen ls us
TokenThen false ls us = Then IsScalar (After ls) us

abbrev pub Follows : List Level → Spot → List ℕ → Type 0
Follows ls spot.Begin us = BeginThen ls us
Follows ls spot.FirstItem us = BeginThen ls us ⊎ Then Blanks (ClosesArray ls) us
Follows ls spot.FirstKey us = Then Blanks (KeyThen ls) us ⊎ Then Blanks (ClosesObject ls) us
Follows ls spot.NextKey us = Then Blanks (KeyThen ls) us
Follows ls spot.Colon us = ColonThen ls us
Follows ls spot.Done us = After ls us
Follows ls (spot.In p) us = (w : List ℕ) → Spelled p w → length w + length us < 2 ^ 63 → TokenThen (is_key p) ls (w ++ us)

-- a unit leads on to what may follow, so it may stand before that
abbrev pub Makes : (List ℕ → Type 0) → ℕ → List ℕ → Step → Type 0
Makes P u us None = Unit {0}
Makes P u us (Some n) = Follows n.levels n.spot us → P (u ∷ us)

makes_map : (P Q : List ℕ → Type 0) (u : ℕ) (us : List ℕ) (o : Step) → (P (u ∷ us) → Q (u ∷ us)) → Makes P u us o → Makes Q u us o
makes_map P Q u us None f m = tt
makes_map P Q u us (Some n) f m = λ h. f (m h)

-- ---- items and members

item_then : (V Y : List ℕ → Type 0) (us : List ℕ) → Then Blanks (Then V (Then Blanks Y)) us → Then (Item V) Y us
item_then V Y us t = then_assoc Blanks (Then V Blanks) Y us (then_second Blanks (Then V (Then Blanks Y)) (Then (Then V Blanks) Y) us (λ vs s. then_assoc V Blanks Y vs s) t)

member_then : (V Y : List ℕ → Type 0) (us : List ℕ) → Then Blanks (Then IsKey (Then Blanks (Then (One 58) (Then Blanks (Then V (Then Blanks Y)))))) us → Then (Member V) Y us
member_then V Y us t =
    let A = Then (One 58) (Item V) in
    let B = Then Blanks A in
    let C = Then IsKey B in
    then_assoc Blanks C Y us (then_second Blanks _ (Then C Y) us
    (λ vs s. then_assoc IsKey B Y vs (then_second IsKey _ (Then B Y) vs
    (λ ws r. then_assoc Blanks A Y ws (then_second Blanks _ (Then A Y) ws
    (λ xs q. then_assoc (One 58) (Item V) Y xs (then_second (One 58) _ (Then (Item V) Y) xs (λ ys p. item_then V Y ys p) q)) r)) s)) t)

-- brackets with what stands between them, and what is behind
bracket_then : (a b : ℕ) (E R : List ℕ → Type 0) (u : ℕ) (us : List ℕ) → (u == a) ≡ true → Then E (Then (One b) R) us → Then (Between a E b) R (u ∷ us)
bracket_then a b E R u us e t = then_assoc (One a) (Then E (One b)) R (u ∷ us) (one_then a (Then (Then E (One b)) R) u us e (then_assoc E (One b) R us t))

room : (l : Level) (ls : List Level) → length ls < 64 → 64 - length ls ≡ suc (64 - length (l ∷ ls))
room l ls h = omega (arith, h)

array_value : (ls : List Level) (us : List ℕ) → length ls < 64 → IsArray (Val (level.Array ∷ ls)) us → Val ls us
array_value ls us h a = subst (λ (n : ℕ). IsValue n us) (sym (room level.Array ls h)) (inr (inl a))

object_value : (ls : List Level) (us : List ℕ) → length ls < 64 → IsObject (Val (level.Object ∷ ls)) us → Val ls us
object_value ls us h a = subst (λ (n : ℕ). IsValue n us) (sym (room level.Object ls h)) (inr (inr a))

array_then : (ls : List Level) (u : ℕ) (us : List ℕ) → length ls < 64 → (u == 91) ≡ true → Then (Either Blanks (Parted (ItemIn (level.Array ∷ ls)))) (Then (One 93) (After ls)) us → ValueThen ls (u ∷ us)
array_then ls u us h e t = then_first _ (Val ls) (After ls) (u ∷ us) (λ vs a. array_value ls vs h a) (bracket_then 91 93 (Either Blanks (Parted (ItemIn (level.Array ∷ ls)))) (After ls) u us e t)

object_then : (ls : List Level) (u : ℕ) (us : List ℕ) → length ls < 64 → (u == 123) ≡ true → Then (Either Blanks (Parted (MemberIn (level.Object ∷ ls)))) (Then (One 125) (After ls)) us → ValueThen ls (u ∷ us)
object_then ls u us h e t = then_first _ (Val ls) (After ls) (u ∷ us) (λ vs a. object_value ls vs h a) (bracket_then 123 125 (Either Blanks (Parted (MemberIn (level.Object ∷ ls)))) (After ls) u us e t)

parted_then : (I R : List ℕ → Type 0) (us : List ℕ) → Then I (Then (Many (Then (One 44) I)) R) us → Then (Either Blanks (Parted I)) R us
parted_then I R us t = then_first (Parted I) (Either Blanks (Parted I)) R us (λ vs a. inr a) (then_assoc I (Many (Then (One 44) I)) R us t)

blanks_then : (I R : List ℕ → Type 0) (us : List ℕ) → Then Blanks R us → Then (Either Blanks (Parted I)) R us
blanks_then I R us t = then_first Blanks (Either Blanks (Parted I)) R us (λ vs a. inl a) t

array_opens : (ls : List Level) (u : ℕ) (us : List ℕ) → length ls < 64 → (u == 91) ≡ true → Follows (level.Array ∷ ls) spot.FirstItem us → ValueThen ls (u ∷ us)
array_opens ls u us h e (inl t) = array_then ls u us h e (parted_then (ItemIn (level.Array ∷ ls)) _ us (item_then (Val (level.Array ∷ ls)) _ us t))
array_opens ls u us h e (inr t) = array_then ls u us h e (blanks_then (ItemIn (level.Array ∷ ls)) _ us t)

object_opens : (ls : List Level) (u : ℕ) (us : List ℕ) → length ls < 64 → (u == 123) ≡ true → Follows (level.Object ∷ ls) spot.FirstKey us → ValueThen ls (u ∷ us)
object_opens ls u us h e (inl t) = object_then ls u us h e (parted_then (MemberIn (level.Object ∷ ls)) _ us (member_then (Val (level.Object ∷ ls)) _ us t))
object_opens ls u us h e (inr t) = object_then ls u us h e (blanks_then (MemberIn (level.Object ∷ ls)) _ us t)

scalar_value : (n : ℕ) (us : List ℕ) → IsScalar us → IsValue n us
scalar_value zero us s = s
scalar_value (suc n) us s = inl s

-- ---- values

key_false : (b : Bool) (ls : List Level) (us : List ℕ) → b ≡ false → TokenThen b ls us → Then IsScalar (After ls) us
key_false true ls us e t = cc
key_false false ls us e t = t

part_makes : (ls : List Level) (u : ℕ) (us : List ℕ) (o : Option Part) → length us + 1 < 2 ^ 63 → Begun u o → Makes (ValueThen ls) u us (begin_part ls o)
part_makes ls u us None l b = tt
part_makes ls u us (Some p) l b = λ f. then_first IsScalar (Val ls) (After ls) (u ∷ us) (λ vs s. scalar_value (64 - length ls) vs s) (key_false (is_key p) ls (u ∷ us) b.1 (f (u ∷ []) b.0 (omega (arith, l))))

begin_makes : (ls : List Level) (u : ℕ) (us : List ℕ) → length us + 1 < 2 ^ 63 → Makes (ValueThen ls) u us (begin ls u)
begin_makes ls u us l =
    cond_both (u == 91) _ _ (Makes (ValueThen ls) u us)
    (λ e. cond_both (nat_lt (length ls) 64) (stay (level.Array ∷ ls) spot.FirstItem) None (Makes (ValueThen ls) u us) (λ t f. array_opens ls u us (ltb-true (length ls) 64 t) e f) (λ t. tt))
    (λ a. cond_both (u == 123) _ _ (Makes (ValueThen ls) u us)
    (λ e. cond_both (nat_lt (length ls) 64) (stay (level.Object ∷ ls) spot.FirstKey) None (Makes (ValueThen ls) u us) (λ t f. object_opens ls u us (ltb-true (length ls) 64 t) e f) (λ t. tt))
    (λ b. part_makes ls u us (first_part u) l (first_begun u)))

key_makes : (ls : List Level) (u : ℕ) (us : List ℕ) → length us + 1 < 2 ^ 63 → Makes (KeyThen ls) u us (begin_key ls u)
key_makes ls u us l = cond_both (u == 34) _ _ (Makes (KeyThen ls) u us) (λ e f. f (u ∷ []) (text_begun true u e) (omega (arith, l))) (λ e. tt)

close_array_makes : (ls : List Level) (u : ℕ) (us : List ℕ) → (u == 93) ≡ true → Makes (ClosesArray ls) u us (close_array ls)
close_array_makes [] u us e = tt
close_array_makes (level.Array ∷ ls) u us e = λ f. one_then 93 (After ls) u us e f
close_array_makes (level.Object ∷ ls) u us e = tt

close_object_makes : (ls : List Level) (u : ℕ) (us : List ℕ) → (u == 125) ≡ true → Makes (ClosesObject ls) u us (close_object ls)
close_object_makes [] u us e = tt
close_object_makes (level.Array ∷ ls) u us e = tt
close_object_makes (level.Object ∷ ls) u us e = λ f. one_then 125 (After ls) u us e f

array_after : (ls : List Level) (us : List ℕ) → ClosesArray ls us → After ls us
array_after [] us c = absurd c
array_after (level.Array ∷ ls) us c = no_blanks _ us (none_many _ _ us c)
array_after (level.Object ∷ ls) us c = absurd c

object_after : (ls : List Level) (us : List ℕ) → ClosesObject ls us → After ls us
object_after [] us c = absurd c
object_after (level.Array ∷ ls) us c = absurd c
object_after (level.Object ∷ ls) us c = no_blanks _ us (none_many _ _ us c)

comma_then : (I R : List ℕ → Type 0) (u : ℕ) (us : List ℕ) → (u == 44) ≡ true → Then I (Then (Many (Then (One 44) I)) R) us → Then Blanks (Then (Many (Then (One 44) I)) R) (u ∷ us)
comma_then I R u us e t =
    no_blanks _ (u ∷ us) (one_more (Then (One 44) I) R (u ∷ us) (then_assoc (One 44) I (Then (Many (Then (One 44) I)) R) (u ∷ us) (one_then 44 (Then I (Then (Many (Then (One 44) I)) R)) u us e t)))

next_makes : (ls : List Level) (u : ℕ) (us : List ℕ) → (u == 44) ≡ true → Makes (After ls) u us (next ls)
next_makes [] u us e = tt
next_makes (level.Array ∷ ls) u us e = λ f. comma_then (ItemIn (level.Array ∷ ls)) _ u us e (item_then (Val (level.Array ∷ ls)) _ us f)
next_makes (level.Object ∷ ls) u us e = λ f. comma_then (MemberIn (level.Object ∷ ls)) _ u us e (member_then (Val (level.Object ∷ ls)) _ us f)

after_blank : (ls : List Level) (u : ℕ) (us : List ℕ) → is_blank u ≡ true → After ls us → After ls (u ∷ us)
after_blank [] u us h a = (h, a)
after_blank (level.Array ∷ ls) u us h a = blank_more _ u us h a
after_blank (level.Object ∷ ls) u us h a = blank_more _ u us h a

done_makes : (ls : List Level) (u : ℕ) (us : List ℕ) → Makes (After ls) u us (on_done ls u)
done_makes ls u us =
    cond_both (is_blank u) _ _ (Makes (After ls) u us) (λ h f. after_blank ls u us h f)
    (λ a. cond_both (u == 93) _ _ (Makes (After ls) u us) (λ e. makes_map (ClosesArray ls) (After ls) u us (close_array ls) (array_after ls (u ∷ us)) (close_array_makes ls u us e))
    (λ b. cond_both (u == 125) _ _ (Makes (After ls) u us) (λ e. makes_map (ClosesObject ls) (After ls) u us (close_object ls) (object_after ls (u ∷ us)) (close_object_makes ls u us e))
    (λ c. cond_both (u == 44) _ _ (Makes (After ls) u us) (λ e. next_makes ls u us e) (λ e. tt))))

-- ---- tokens

closed_then : (key : Bool) (ls : List Level) (w : List ℕ) (u : ℕ) (us : List ℕ) → IsToken key (w ++ u ∷ []) → Follows ls (behind key) us → TokenThen key ls (w ++ u ∷ us)
closed_then true ls w u us t f = record { front = w ++ u ∷ []; back = us; is = sym (append_assoc w (u ∷ []) us); first = t; second = f }
closed_then false ls w u us t f = record { front = w ++ u ∷ []; back = us; is = sym (append_assoc w (u ∷ []) us); first = t; second = f }

ended_then : (key : Bool) (ls : List Level) (w us : List ℕ) → Ends key w → After ls us → TokenThen key ls (w ++ us)
ended_then true ls w us t f = absurd t
ended_then false ls w us t f = record { front = w; back = us; is = refl; first = t; second = f }

-- what is left of a token and what is behind it
abbrev Rests : Bool → List Level → List ℕ → List ℕ → Type 0
Rests key ls w us = TokenThen key ls (w ++ us)

taken_makes : (key : Bool) (ls : List Level) (w : List ℕ) (u : ℕ) (us : List ℕ) (t : Taken) → length w + length (u ∷ us) < 2 ^ 63 → GoesOn key w u t → Makes (Rests key ls w) u us (on_taken ls key t u)
taken_makes key ls w u us (taken.More p) l g =
    λ f. let len = length-append w (u ∷ []) in
    subst (λ (k : Bool). TokenThen k ls (w ++ u ∷ us)) g.1 (subst (TokenThen (is_key p) ls) (append_assoc w (u ∷ []) us) (f (w ++ u ∷ []) g.0 (omega (arith, l, len))))
taken_makes key ls w u us taken.Closed l g = λ f. closed_then key ls w u us g f
taken_makes key ls w u us taken.Ended l g = makes_map (After ls) (Rests key ls w) u us (on_done ls u) (ended_then key ls w (u ∷ us) g) (done_makes ls u us)
taken_makes key ls w u us taken.Bad l g = tt

in_makes : (ls : List Level) (p : Part) (u : ℕ) (us : List ℕ) (o : Step) → ((w : List ℕ) → Spelled p w → length w + length (u ∷ us) < 2 ^ 63 → Makes (Rests (is_key p) ls w) u us o) → Makes (Follows ls (spot.In p)) u us o
in_makes ls p u us None f = tt
in_makes ls p u us (Some n) f = λ h w r k. f w r k h

-- ---- steps

blank_either : (P Q : List ℕ → Type 0) (u : ℕ) (us : List ℕ) → is_blank u ≡ true → Then Blanks P us ⊎ Then Blanks Q us → Then Blanks P (u ∷ us) ⊎ Then Blanks Q (u ∷ us)
blank_either P Q u us h (inl t) = inl (blank_more P u us h t)
blank_either P Q u us h (inr t) = inr (blank_more Q u us h t)

first_item_makes : (ls : List Level) (u : ℕ) (us : List ℕ) → length us + 1 < 2 ^ 63 → Makes (Follows ls spot.FirstItem) u us (on_first_item ls u)
first_item_makes ls u us l =
    cond_both (is_blank u) _ _ (Makes (Follows ls spot.FirstItem) u us) (λ h f. blank_either (ValueThen ls) (ClosesArray ls) u us h f)
    (λ a. cond_both (u == 93) _ _ (Makes (Follows ls spot.FirstItem) u us)
    (λ e. makes_map (ClosesArray ls) (Follows ls spot.FirstItem) u us (close_array ls) (λ c. inr (no_blanks _ (u ∷ us) c)) (close_array_makes ls u us e))
    (λ b. makes_map (ValueThen ls) (Follows ls spot.FirstItem) u us (begin ls u) (λ v. inl (no_blanks _ (u ∷ us) v)) (begin_makes ls u us l)))

first_key_makes : (ls : List Level) (u : ℕ) (us : List ℕ) → length us + 1 < 2 ^ 63 → Makes (Follows ls spot.FirstKey) u us (on_first_key ls u)
first_key_makes ls u us l =
    cond_both (is_blank u) _ _ (Makes (Follows ls spot.FirstKey) u us) (λ h f. blank_either (KeyThen ls) (ClosesObject ls) u us h f)
    (λ a. cond_both (u == 125) _ _ (Makes (Follows ls spot.FirstKey) u us)
    (λ e. makes_map (ClosesObject ls) (Follows ls spot.FirstKey) u us (close_object ls) (λ c. inr (no_blanks _ (u ∷ us) c)) (close_object_makes ls u us e))
    (λ b. makes_map (KeyThen ls) (Follows ls spot.FirstKey) u us (begin_key ls u) (λ v. inl (no_blanks _ (u ∷ us) v)) (key_makes ls u us l)))

step_makes : (ls : List Level) (s : Spot) (u : ℕ) (us : List ℕ) → length us + 1 < 2 ^ 63 → Makes (Follows ls s) u us (step_at ls s u)
step_makes ls spot.Begin u us l =
    cond_both (is_blank u) _ _ (Makes (BeginThen ls) u us) (λ h f. blank_more (ValueThen ls) u us h f)
    (λ a. makes_map (ValueThen ls) (BeginThen ls) u us (begin ls u) (no_blanks (ValueThen ls) (u ∷ us)) (begin_makes ls u us l))
step_makes ls spot.FirstItem u us l = first_item_makes ls u us l
step_makes ls spot.FirstKey u us l = first_key_makes ls u us l
step_makes ls spot.NextKey u us l =
    cond_both (is_blank u) _ _ (Makes (Then Blanks (KeyThen ls)) u us) (λ h f. blank_more (KeyThen ls) u us h f)
    (λ a. makes_map (KeyThen ls) (Then Blanks (KeyThen ls)) u us (begin_key ls u) (no_blanks (KeyThen ls) (u ∷ us)) (key_makes ls u us l))
step_makes ls spot.Colon u us l =
    cond_both (is_blank u) _ _ (Makes (ColonThen ls) u us) (λ h f. blank_more (Then (One 58) (BeginThen ls)) u us h f)
    (λ a. cond_both (u == 58) _ _ (Makes (ColonThen ls) u us) (λ e f. no_blanks _ (u ∷ us) (one_then 58 (BeginThen ls) u us e f)) (λ e. tt))
step_makes ls spot.Done u us l = done_makes ls u us
step_makes ls (spot.In p) u us l = in_makes ls p u us (on_taken ls (is_key p) (token p u) u) (λ w r k. taken_makes (is_key p) ls w u us (token p u) k (token_goes p w u r (omega (arith, k))))

-- ---- texts

key_ends : (p : Part) → may_end p ≡ true → is_key p ≡ false
key_ends (part.Word x) e = refl
key_ends (part.Text k n i) e = cc
key_ends (part.Number n) e = refl

key_none : (b : Bool) (w : List ℕ) → b ≡ false → IsScalar w → TokenThen b [] (w ++ [])
key_none true w e s = cc
key_none false w e s = record { front = w; back = []; is = refl; first = s; second = tt }

stop_follows : (ls : List Level) (s : Spot) → stops_at ls s ≡ true → Follows ls s []
stop_follows [] spot.Done h = tt
stop_follows [] (spot.In p) h = λ w r l. key_none (is_key p) w (key_ends p h) (token_ends p w r (omega (arith, l)) h)
stop_follows [] spot.Begin h = cc
stop_follows [] spot.FirstItem h = cc
stop_follows [] spot.FirstKey h = cc
stop_follows [] spot.NextKey h = cc
stop_follows [] spot.Colon h = cc
stop_follows (l ∷ ls) s h = cc

went_makes : (P : List ℕ → Type 0) (u : ℕ) (us : List ℕ) (o : Step) → Makes P u us o → ((n : State) → accepts n us ≡ true → Follows n.levels n.spot us) → went o (λ n. accepts n us) ≡ true → P (u ∷ us)
went_makes P u us None m f h = cc
went_makes P u us (Some n) m f h = m (f n h)

follows : (us : List ℕ) (s : State) → length us < 2 ^ 63 → accepts s us ≡ true → Follows s.levels s.spot us
follows [] s l h = stop_follows s.levels s.spot h
follows (u ∷ us) s l h = went_makes (Follows s.levels s.spot) u us (step s u) (step_makes s.levels s.spot u us (omega (arith, l))) (λ n. follows us n (omega (arith, l))) h

-- What is accepted is in the grammar.
pub sound : (us : List ℕ) → length us < 2 ^ 63 → accepts start us ≡ true → IsJson us
sound us l h = follows us start l h
