-- What is read is sound.
use Rattle.std.specs.Prelude.{◌≡◌, ◌<◌, ◌≤◌, ◌+◌, ◌^◌, suc, length, not, ℕ, Bool, true, false, cond, List, [], ◌∷◌, ◌++◌, map, Option, Some, None, Result, Ok, Err, IfSome, IfOk, codes, refl}
use Rattle.std.proofs.Common.{sym, ap, subst, arith}
use Rattle.std.specs.Str.{bytes_eq, is_utf8}
use Rattle.std.proofs.lemmas.Bool.{false≢true}
use Rattle.std.proofs.lemmas.List.{length-append, map-append}
use Rattle.wd_base.specs.declared.config.Config.{Config}
use Rattle.wd_base.specs.declared.config.Kind.{Kind}
use Rattle.wd_base.specs.declared.config.Service.{Service}
use Rattle.capnp_text.specs.declared.tree.Placed.{Placed}
use Rattle.wd_config.specs.declared.faults.RefusedKind.TheVariants as refused
use Rattle.wd_config.specs.declared.faults.Stop.{Stop}
use Rattle.wd_config.specs.declared.items.Item.{Item}
use Rattle.wd_config.specs.declared.items.Item.TheVariants as item
use Rattle.wd_config.specs.declared.items.Entry.{Entry}
use Rattle.wd_config.specs.declared.lists.Listed.{Listed}
use Rattle.wd_config.specs.declared.schema.Leaf.{Leaf}
use Rattle.wd_config.specs.declared.schema.Leaf.TheVariants as leaf
use Rattle.wd_config.specs.declared.schema.ListKind.{ListKind}
use Rattle.wd_config.specs.declared.schema.ListKind.TheVariants as list
use Rattle.wd_config.specs.declared.schema.Rule.{Rule}
use Rattle.wd_config.specs.declared.schema.Rule.TheVariants.{LeftOut, Read as Reads}
use Rattle.wd_config.specs.declared.schema.Shape.{Shape}
use Rattle.wd_config.specs.declared.schema.Shape.TheVariants as shape
use Rattle.wd_config.specs.declared.schema.Slot.{Slot}
use Rattle.wd_config.specs.declared.schema.Slot.TheVariants as slot
use Rattle.wd_config.specs.declared.schema.StructKind.{StructKind}
use Rattle.wd_config.specs.declared.schema.StructKind.TheVariants as struct
use Rattle.wd_config.specs.declared.schema.WordKind.{WordKind}
use Rattle.wd_config.specs.Answer.{Differ}
use Rattle.wd_config.specs.Build.{built, needed, text_of, kind_of, services_of, sockets_of}
use Rattle.wd_config.specs.Configured.{config_in}
use Rattle.wd_config.specs.Given.{Given, Gives, fault, ◌>>=◌}
use Rattle.wd_config.specs.Items.{item_of}
use Rattle.wd_config.specs.Names.{Names, has_name, put}
use Rattle.wd_config.specs.Room.{most_bytes}
use Rattle.wd_config.specs.Schema.{Row, rule_in, rule_of, same_slot, config_rows, service_rows}
use Rattle.wd_config.specs.Sound.{Apart, AreSound, ApartConfig, ApartServices, FreeService, FreeText, Sound, SoundFields, SoundItems, TakenServices, names_of}
use Rattle.wd_config.specs.Values.{allowed, allowed_by, bare, checked, empty_list, entry, item_shape, with_item, with_name, wrong}
use Rattle.wd_config.proofs.DifferLemmas.{apart_more, apart_none, apart_wider}

-- what holds of each value that may be given
if_gives : {A : Type 0} (t : Given A) (P : A → Type 0) (y : Result A Stop) → ((x : A) → t ≡ Ok x → P x) → Gives t y → IfOk y P
if_gives t P (Ok x) h g = h x g
if_gives t P (Err s) h g = tt

if_any : {A : Type 0} (P : A → Type 0) (y : Result A Stop) → ((x : A) → P x) → IfOk y P
if_any P (Ok x) h = h x
if_any P (Err s) h = tt

-- ---- leaves and words

name_at : (taken : Names) (label w : Placed) (i : Item) (u b : Bool) → has_name taken w.bytes ≡ b
    → cond (not u) (wrong label w.place) (cond b (fault refused.DoubleName w.place w.bytes) (Ok (item.Text w.bytes))) ≡ Ok i → FreeText taken i
name_at taken label w i true true h e = cc
name_at taken label w i true false h e = let f : item.Text w.bytes ≡ i = cc in subst (FreeText taken) f h
name_at taken label w i false b h e = cc

leaf_at : (taken : Names) (label : Placed) (k : Leaf) (w : Placed) (i : Item) → checked taken label k w ≡ Ok i → Sound taken (shape.Leaf k) i
unfolding Sound
leaf_at taken label leaf.Name w i e = name_at taken label w i (is_utf8 w.bytes) (has_name taken w.bytes) refl e
leaf_at taken label _ w i e = tt

pub leaf_sound : (taken : Names) (label : Placed) (k : Leaf) (w : Placed) (y : Result Item Stop) → Gives (checked taken label k w) y → IfOk y (Sound taken (shape.Leaf k))
leaf_sound taken label k w y g = if_gives (checked taken label k w) (Sound taken (shape.Leaf k)) y (leaf_at taken label k w) g

pub word_sound : (taken : Names) (k : WordKind) (y : Result Item Stop) → IfOk y (Sound taken (shape.Word k))
unfolding Sound
word_sound taken k y = if_any (Sound taken (shape.Word k)) y (λ i. tt)

-- a bare text stands for no service and for no configuration
bare_at : (taken : Names) (k : StructKind) (b : Slot × Leaf) (i : Item) → bare k ≡ Some b → Sound taken (shape.Struct k) i
unfolding Sound
bare_at taken struct.Service b i e = cc
bare_at taken struct.Config b i e = cc
bare_at taken _ b i e = tt

pub bare_sound : (taken : Names) (k : StructKind) (b : Slot × Leaf) (y : Result Item Stop) → bare k ≡ Some b → IfOk y (Sound taken (shape.Struct k))
bare_sound taken k b y e = if_any (Sound taken (shape.Struct k)) y (λ i. bare_at taken k b i e)

-- ---- fields

last_item : (P : Item → Type 0) (e : Entry) (b : Bool) → (b ≡ true → P e.item) → IfSome (cond b (Some e.item) None) P
last_item P e true f = f refl
last_item P e false f = tt

first_item : (P : Item → Type 0) (d : Entry) (a c : Option Item) (b : Bool) → (IfSome a P → IfSome c P) → IfSome (cond b (Some d.item) a) P → IfSome (cond b (Some d.item) c) P
first_item P d a c true go h = h
first_item P d a c false go h = go h

more_items : (P : Item → Type 0) (es : List Entry) (s : Slot) (e : Entry) → IfSome (item_of es s) P → (same_slot e.slot s ≡ true → P e.item) → IfSome (item_of (es ++ e ∷ []) s) P
more_items P [] s e h f = last_item P e (same_slot e.slot s) f
more_items P (d ∷ es) s e h f = first_item P d (item_of es s) (item_of (es ++ e ∷ []) s) (same_slot d.slot s) (λ g. more_items P es s e g f) h

abbrev pub Each : (Rule → Type 0) → List Row → Type 0
Each P [] = Unit {0}
Each P (r ∷ rs) = P r.rule × Each P rs

found_at : (P : Rule → Type 0) (row : Row) (rs : List Row) (name : List ℕ) (r : Rule) (b : Bool) → P row.rule → (rule_in rs name ≡ Some r → P r) → cond b (Some row.rule) (rule_in rs name) ≡ Some r → P r
found_at P row rs name r true p go e = let f : row.rule ≡ r = cc in subst P f p
found_at P row rs name r false p go e = go e

pub found : (P : Rule → Type 0) (rs : List Row) (name : List ℕ) (r : Rule) → Each P rs → rule_in rs name ≡ Some r → P r
found P [] name r all e = cc
found P (row ∷ rs) name r (p, all) e = found_at P row rs name r (bytes_eq name row.name) p (λ f. found P rs name r all f) e

-- what is read for the slot is read as this
abbrev ReadsAs : Slot → Shape → Rule → Type 0
ReadsAs s x LeftOut = Unit {0}
ReadsAs s x (Reads t y) = same_slot t s ≡ true → y ≡ x

other : (x y : Shape) → false ≡ true → y ≡ x
other x y e = absurd (false≢true e)

names_read : Each (ReadsAs slot.Name (shape.Leaf leaf.Name)) service_rows
names_read = ((λ e. refl), ((λ e. other _ _ e), ((λ e. other _ _ e), ((λ e. other _ _ e), ((λ e. other _ _ e), tt)))))

services_read : Each (ReadsAs slot.Services (shape.List list.Services)) config_rows
services_read = ((λ e. refl), ((λ e. other _ _ e), (tt, (tt, (tt, tt)))))

allowed_at : (n : Placed) (t : Slot) (y : Shape) (b : Bool) (s : Slot) (x : Shape) → cond b (fault {A = Slot × Shape} refused.DoubleName n.place n.bytes) (Ok (t, y)) ≡ Ok (s, x) → Some (Reads t y) ≡ Some (Reads s x)
allowed_at n t y true s x e = cc
allowed_at n t y false s x e = let a : Slot × Shape = (t, y) in let f : a ≡ (s, x) = cc in ap (λ (p : Slot × Shape). Some (Reads p.0 p.1)) f

pub allowed_rule : (es : List Entry) (n : Placed) (r : Option Rule) (s : Slot) (x : Shape) → allowed_by es n r ≡ Ok (s, x) → r ≡ Some (Reads s x)
allowed_rule es n None s x e = cc
allowed_rule es n (Some LeftOut) s x e = cc
allowed_rule es n (Some (Reads t y)) s x e = allowed_at n t y _ s x e

slot_sound : (taken : Names) (rs : List Row) (want : Slot) (as_ : Shape) (es : List Entry) (n : Placed) (s : Slot) (x : Shape) (i : Item) → Each (ReadsAs want as_) rs → allowed_by es n (rule_in rs n.bytes) ≡ Ok (s, x)
    → Sound taken x i → IfSome (item_of es want) (Sound taken as_) → IfSome (item_of (es ++ entry s i ∷ []) want) (Sound taken as_)
slot_sound taken rs want as_ es n s x i all a h p =
    more_items (Sound taken as_) es want (entry s i) p
    (λ same. subst (λ (y : Shape). Sound taken y i) (found (ReadsAs want as_) rs n.bytes (Reads s x) all (allowed_rule es n (rule_in rs n.bytes) s x a) same) h)

pub fields_more : (taken : Names) (k : StructKind) (es : List Entry) (n : Placed) (s : Slot) (x : Shape) (i : Item) → allowed k es n ≡ Ok (s, x) → Sound taken x i
    → SoundFields taken k es → SoundFields taken k (es ++ entry s i ∷ [])
unfolding SoundFields allowed rule_of
fields_more taken struct.Service es n s x i a h p = slot_sound taken service_rows slot.Name (shape.Leaf leaf.Name) es n s x i names_read a h p
fields_more taken struct.Config es n s x i a h p = slot_sound taken config_rows slot.Services (shape.List list.Services) es n s x i services_read a h p
fields_more taken _ es n s x i a h p = tt

pub fields_none : (taken : Names) (k : StructKind) → SoundFields taken k []
unfolding SoundFields
fields_none taken struct.Service = tt
fields_none taken struct.Config = tt
fields_none taken _ = tt

-- ---- structs

service_at : (taken : Names) (p : ℕ) (name : Option Item) (k : Option Kind) (i : Item) → IfSome name (FreeText taken)
    → (needed p (codes "name") (text_of name) >>= λ n. needed p (codes "worker") k >>= λ w. Ok (item.Service (record { name = n; kind = w }))) ≡ Ok i → FreeService taken i
service_at taken p None k i h e = cc
service_at taken p (Some (item.Text t)) None i h e = cc
service_at taken p (Some (item.Text t)) (Some w) i h e = let f : item.Service (record { name = t; kind = w }) ≡ i = cc in subst (FreeService taken) f h
service_at taken p (Some _) k i h e = cc

services_at : (found : Option Item) → IfSome found ApartServices → AreSound (services_of found)
services_at None h = (tt, omega arith)
services_at (Some (item.Services ss)) h = h
services_at (Some _) h = (tt, omega arith)

built_at : (taken : Names) (k : StructKind) (p : ℕ) (es : List Entry) (i : Item) → SoundFields taken k es → built k p es ≡ Ok i → Sound taken (shape.Struct k) i
unfolding SoundFields Sound built
built_at taken struct.Service p es i h e = service_at taken p (item_of es slot.Name) (kind_of (item_of es slot.Kind)) i h e
built_at taken struct.Config p es i h e =
    let f : item.Config (record { services = services_of (item_of es slot.Services); sockets = sockets_of (item_of es slot.Sockets) }) ≡ i = cc in subst ApartConfig f (services_at (item_of es slot.Services) h)
built_at taken _ p es i h e = tt

pub built_sound : (taken : Names) (k : StructKind) (p : ℕ) (es : List Entry) (y : Result Item Stop) → SoundFields taken k es → Gives (built k p es) y → IfOk y (Sound taken (shape.Struct k))
built_sound taken k p es y h g = if_gives (built k p es) (Sound taken (shape.Struct k)) y (λ i e. built_at taken k p es i h e) g

-- ---- lists

pub items_none : (k : ListKind) (n : ℕ) → n ≤ most_bytes → SoundItems k n (record { items = empty_list k; taken = [] })
unfolding SoundItems
items_none list.Services n h = (apart_none, omega (arith, h))
items_none _ n h = tt

more_room : (l m n k : ℕ) → m ≡ l + 1 → l + suc n ≤ k → m + n ≤ k
more_room l m n k e h = omega arith

same_room : (l n k : ℕ) → l + suc n ≤ k → l + n ≤ k
same_room l n k h = omega arith

one_service : (n : ℕ) (taken : Names) (ss : List Service) (i : Item) → Apart taken (names_of ss) → length ss + suc n ≤ most_bytes → FreeService taken i → TakenServices n (with_name taken i) (with_item (item.Services ss) i)
unfolding with_item with_name
one_service n taken ss (item.Service s) a r h =
    (subst (Apart (put taken s.name 0)) (sym (map-append (λ (t : Service). t.name) ss (s ∷ []))) (apart_more taken (names_of ss) s.name 0 a h), more_room (length ss) (length (ss ++ s ∷ [])) n most_bytes (length-append ss (s ∷ [])) r)
one_service n taken ss (item.Binding b) a r h = (apart_wider taken (names_of ss) b.name 0 a, same_room (length ss) n most_bytes r)
one_service n taken ss (item.Socket s) a r h = (apart_wider taken (names_of ss) s.name 0 a, same_room (length ss) n most_bytes r)
one_service n taken ss _ a r h = (a, same_room (length ss) n most_bytes r)

services_more : (n : ℕ) (taken : Names) (items i : Item) → TakenServices (suc n) taken items → FreeService taken i → TakenServices n (with_name taken i) (with_item items i)
services_more n taken (item.Services ss) i (a, r) h = one_service n taken ss i a r h
services_more n taken _ i a h = absurd a

pub items_more : (k : ListKind) (n : ℕ) (l : Listed) (i : Item) → Sound l.taken (item_shape k) i → SoundItems k (suc n) l → SoundItems k n (record { items = with_item l.items i; taken = with_name l.taken i })
unfolding SoundItems Sound
items_more list.Services n l i h a = services_more n l.taken l.items i a h
items_more _ n l i h a = tt

services_apart : (n : ℕ) (taken : Names) (items : Item) → TakenServices n taken items → ApartServices items
services_apart n taken (item.Services ss) (a, r) = (a.differ, omega (arith, r))
services_apart n taken _ a = absurd a

pub items_sound : (taken : Names) (k : ListKind) (n : ℕ) (l : Listed) → SoundItems k n l → Sound taken (shape.List k) l.items
unfolding SoundItems Sound
items_sound taken list.Services n l a = services_apart n l.taken l.items a
items_sound taken _ n l a = tt

-- ---- the whole

config_at : (i : Item) (c : Config) → config_in i ≡ Ok c → ApartConfig i → AreSound c.services
config_at (item.Config d) c e h = let f : d ≡ c = cc in subst (λ (z : Config). AreSound z.services) f h
config_at _ c e h = cc

pub config_sound : (taken : Names) (i : Item) (y : Result Config Stop) → Sound taken (shape.Struct struct.Config) i → Gives (config_in i) y → IfOk y (λ c. Differ (names_of c.services))
unfolding Sound
config_sound taken i y h g = if_gives (config_in i) (λ c. Differ (names_of c.services)) y (λ c e. (config_at i c e h).0) g

pub config_few : (taken : Names) (i : Item) (y : Result Config Stop) → Sound taken (shape.Struct struct.Config) i → Gives (config_in i) y → IfOk y (λ c. length c.services < 2 ^ 31)
unfolding Sound
config_few taken i y h g = if_gives (config_in i) (λ c. length c.services < 2 ^ 31) y (λ c e. (config_at i c e h).1) g
