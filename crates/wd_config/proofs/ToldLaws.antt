-- Where the files are told, every reading is.
use Rattle.std.specs.Prelude.{◌≡◌, ◌⊎◌, ℕ, zero, suc, Bool, true, false, List, [], ◌∷◌, ◌++◌, Option, Some, None, Ok, Err, refl, if◌then◌else◌}
use Rattle.std.proofs.Common.{sym, ap, subst, ◌∙◌, inl, inr}
use Rattle.std.proofs.lemmas.Bool.{false≢true}
use Rattle.std.specs.Option.{option_map}
use Rattle.wd_base.specs.declared.config.Config.{Config}
use Rattle.wd_ports.specs.Told.{Stored, file_at}
use Rattle.capnp_text.specs.declared.tree.Placed.{Placed}
use Rattle.capnp_text.specs.declared.tree.Value.{Value}
use Rattle.capnp_text.specs.declared.tree.Field.{Field}
use Rattle.capnp_text.specs.declared.tree.Decl.{Decl}
use Rattle.wd_config.specs.declared.faults.RefusedKind.TheVariants as kind
use Rattle.wd_config.specs.declared.schema.Leaf.{Leaf}
use Rattle.wd_config.specs.declared.schema.ListKind.{ListKind}
use Rattle.wd_config.specs.declared.schema.StructKind.{StructKind}
use Rattle.wd_config.specs.declared.schema.StructKind.TheVariants as struct
use Rattle.wd_config.specs.declared.schema.Shape.{Shape}
use Rattle.wd_config.specs.declared.schema.Shape.TheVariants as shape
use Rattle.wd_config.specs.declared.schema.Slot.{Slot}
use Rattle.wd_config.specs.declared.items.Item.{Item}
use Rattle.wd_config.specs.declared.lists.Listed.{Listed}
use Rattle.wd_config.specs.declared.items.Entry.{Entry}
use Rattle.wd_config.specs.Answer.{Answers}
use Rattle.wd_config.specs.Configured.{Rooted, chosen, config_in, configured, declared, imports, no_tables, root, rooted_config, types}
use Rattle.wd_config.specs.Given.{Given, fault}
use Rattle.wd_config.specs.Names.{Names}
use Rattle.wd_config.specs.Reading.{Answer, Found, Refused, Untold, Read, then_read, done, given, along, ◌>>=◌}
use Rattle.wd_config.specs.Values.{Context, Reader, InPlace, allowed, as_data, as_embed, as_list, as_struct, as_text, bare, bared, checked, data_for, entry, field_step, file_for, full_path, in_place, is_left_out, item_shape, item_step, leaf_item, listed, most_levels, load, load_at, loaded, place_of, shaped, source, sourced, structured, utf8_of, value_item, with_item, with_name, empty_list}

-- the answer is told
abbrev pub is_told : {A : Type 0} → Answer A → Bool
is_told (Found x) = true
is_told (Refused f) = true
is_told Untold = false

-- the reading's answer is told
abbrev pub IsTold : {A : Type 0} → Read A → Type 0
IsTold r = is_told r.answer ≡ true

then_told : {A B : Type 0} (ws : List Placed) (a : Answer A) (k : A → Read B) → is_told a ≡ true → ((x : A) → IsTold (k x)) → IsTold (then_read ws a k)
then_told ws (Found x) k h all = all x
then_told ws (Refused f) k h all = refl
then_told ws Untold k h all = absurd (false≢true h)

bind_told : {A B : Type 0} (r : Read A) (k : A → Read B) → IsTold r → ((x : A) → IsTold (k x)) → IsTold (r >>= k)
unfolding ◌>>=◌
bind_told r k h all = then_told r.embeds r.answer k h all

given_told : {A : Type 0} (g : Given A) → IsTold (given g)
given_told (Ok x) = refl
given_told (Err f) = refl

along_told : {S X : Type 0} (step : S → X → Read S) (s : S) (xs : List X) → ((t : S) (x : X) → IsTold (step t x)) → IsTold (along step s xs)
along_told step s [] h = refl
along_told step s (x ∷ xs) h = bind_told (step s x) (λ t. along step t xs) (h s x) (λ t. along_told step t xs h)

-- the files of the context are told
abbrev WithFiles : Context → Type 0
WithFiles c = (s : Stored) × (c.files ≡ Some s)

loaded_told : (p : ℕ) (w : Placed) (o : Option (List ℕ)) → IsTold (loaded p w (Some o))
loaded_told p w None = refl
loaded_told p w (Some bytes) = refl

file_told : (c : Context) (p : ℕ) (w : Placed) (path : List ℕ) → WithFiles c → IsTold (loaded p w (file_for c.files path))
file_told c p w path (s, e) = subst (λ f. IsTold (loaded p w (file_for f path))) (sym e) (loaded_told p w (file_at s path))

load_told : (c : Context) (label : Placed) (p : ℕ) (w : Placed) (path : Option (List ℕ)) → WithFiles c → IsTold (load_at c label p w path)
load_told c label p w None h = refl
load_told c label p w (Some path) h = file_told c p w (full_path c.folder path) h

sourced_told : (c : Context) (label : Placed) (p : ℕ) (t d : Option Placed) (e : Option (ℕ × Placed)) → WithFiles c → IsTold (sourced c label p t d e)
sourced_told c label p (Some w) d e h = refl
sourced_told c label p None (Some w) e h = refl
sourced_told c label p None None (Some (q, w)) h = load_told c label q w (utf8_of w.bytes) h
sourced_told c label p None None None h = refl

leaf_told : (c : Context) (taken : Names) (label : Placed) (k : Leaf) (v : Value) → WithFiles c → IsTold (leaf_item c taken label k v)
unfolding leaf_item source
leaf_told c taken label k v h = bind_told (source c label k v) (λ w. given (checked taken label k w)) (sourced_told c label (place_of v) (as_text v) (data_for k v) (as_embed v) h) (λ w. given_told (checked taken label k w))

-- a reader of values, that reads nothing that is not told
abbrev ReadsTold : Reader → Type 0
ReadsTold read = (taken : Names) (label : Placed) (x : Shape) (v : Value) → IsTold (read taken label x v)

item_told : (read : Reader) (label : Placed) (k : ListKind) (l : Listed) (v : Value) → ReadsTold read → IsTold (item_step read label k l v)
item_told read label k l v h = bind_told (read l.taken label (item_shape k) v) (λ i. done (record { items = with_item l.items i; taken = with_name l.taken i })) (h l.taken label (item_shape k) v) (λ i. refl)

pick_told : (b : Bool) (x y : Read Item) → IsTold x → IsTold y → IsTold (if b then x else y)
pick_told true x y hx hy = hx
pick_told false x y hx hy = hy

-- no item, and no name is taken
abbrev no_items : ListKind → Listed
no_items k = record { items = empty_list k; taken = [] }

all_told : (read : Reader) (label : Placed) (k : ListKind) (vs : List Value) → ReadsTold read → IsTold (along (item_step read label k) (no_items k) vs >>= λ made. done made.items)
all_told read label k vs h = bind_told {A = Listed} {B = Item} (along (item_step read label k) (no_items k) vs) (λ made. done made.items) (along_told (item_step read label k) (no_items k) vs (λ l v. item_told read label k l v h)) (λ made. refl)

listed_told : (read : Reader) (label : Placed) (k : ListKind) (p : ℕ) (vs : Option (List Value)) → ReadsTold read → IsTold (listed read label k p vs)
listed_told read label k p None h = refl
listed_told read label k p (Some vs) h = pick_told (is_left_out k vs) (given (fault kind.LeftOut label.place label.bytes)) (along (item_step read label k) (no_items k) vs >>= λ made. done made.items) refl (all_told read label k vs h)

field_told : (read : Reader) (taken : Names) (k : StructKind) (es : List Entry) (f : Field) → ReadsTold read → IsTold (field_step read taken k es f)
field_told read taken k es f h =
    bind_told {A = Slot × Shape} {B = List Entry} (given (allowed k es f.name)) (λ a. read taken f.name a.1 f.value >>= λ i. done (es ++ entry a.0 i ∷ [])) (given_told (allowed k es f.name))
    (λ a. bind_told {A = Item} {B = List Entry} (read taken f.name a.1 f.value) (λ i. done (es ++ entry a.0 i ∷ [])) (h taken f.name a.1 f.value) (λ i. refl))

bared_told : (c : Context) (taken : Names) (label : Placed) (k : StructKind) (v : Value) (b : Option (Slot × Leaf)) → WithFiles c → IsTold (bared c taken label k v b)
bared_told c taken label k v None h = refl
bared_told c taken label k v (Some (s, l)) h = bind_told (leaf_item c taken label l v) _ (leaf_told c taken label l v h) (λ i. given_told _)

structured_told : (read : Reader) (c : Context) (taken : Names) (label : Placed) (k : StructKind) (v : Value) (b : Option (ℕ × List Field)) → ReadsTold read → WithFiles c → IsTold (structured read c taken label k v b)
structured_told read c taken label k v (Some (p, fs)) h files = bind_told (along (field_step read taken k) [] fs) _ (along_told (field_step read taken k) [] fs (λ es f. field_told read taken k es f h)) (λ es. given_told _)
structured_told read c taken label k v None h files = bared_told c taken label k v (bare k) files

shaped_told : (read : Reader) (c : Context) (taken : Names) (label : Placed) (x : Shape) (v : Value) → ReadsTold read → WithFiles c → IsTold (shaped read c taken label x v)
shaped_told read c taken label (shape.Word k) v h files = given_told _
shaped_told read c taken label (shape.Leaf k) v h files = leaf_told c taken label k v files
shaped_told read c taken label (shape.List k) v h files = listed_told read label k (place_of v) (as_list v) h
shaped_told read c taken label (shape.Struct k) v h files = structured_told read c taken label k v (as_struct v) h files

pub value_told : (n : ℕ) (c : Context) (open_ : List ℕ) → WithFiles c → ReadsTold (value_item n c open_)
unfolding value_item
value_told zero c open_ files taken label x v = refl
value_told (suc n) c open_ files taken label x v = bind_told (given (in_place c.file c.constants open_ v)) _ (given_told (in_place c.file c.constants open_ v)) (λ o. shaped_told (value_item n c o.0) c taken label x o.1 (value_told n c o.0 files) files)

rooted_told : (c : Context) (r : Rooted) → WithFiles c → IsTold (rooted_config c r)
rooted_told c r files = bind_told {A = Item} {B = Config} (value_item most_levels c (r.at ∷ []) [] r.label (shape.Struct struct.Config) r.value) (λ i. given (config_in i)) (value_told most_levels c (r.at ∷ []) files [] r.label (shape.Struct struct.Config) r.value) (λ i. given_told (config_in i))

configured_told : (name : Option (List ℕ)) (folder : List ℕ) (s : Stored) (file : List Decl) → IsTold (configured name folder (Some s) file)
unfolding configured
configured_told name folder s file =
    bind_told _ _ (given_told (declared 0 no_tables file)) (λ t.
    bind_told _ _ (given_told (imports file)) (λ u.
    bind_told _ _ (given_told (types t.aliases file)) (λ v.
    bind_told _ _ (given_told (chosen name file)) (λ n.
    bind_told _ _ (given_told (root t.constants file n)) (λ r.
    rooted_told (record { file = file; constants = t.constants; folder = folder; files = Some s }) r (s, refl))))))

untold : {A : Type 0} (a : Answer A) → is_told a ≡ true → a ≡ Untold → ⊥
untold a told e = false≢true (sym (ap is_told e) ∙ told)

-- told files tell what every reading comes to
pub answer_told : (bytes : List ℕ) (name : Option (List ℕ)) (folder : List ℕ) (s : Stored) (r : Read Config) → Answers bytes name folder (Some s) r → r.answer ≡ Untold → ⊥
answer_told bytes name folder s r (inl of) e = untold r.answer (subst IsTold (sym of.is) (configured_told name folder s of.file)) e
answer_told bytes name folder s r (inr of) e = untold r.answer (subst IsTold (sym of.is) refl) e
