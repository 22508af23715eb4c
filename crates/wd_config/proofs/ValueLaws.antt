-- The turns of the reading of values.
use Rattle.std.proofs.Common.{◌≡◌, ℕ, ◌-◌, suc, ◌<◌, List, [], ◌∷◌, ◌++◌, Result, Ok, Err, sym, ap, subst, ◌∙◌, arith}
use Rattle.capnp_text.specs.declared.tree.Placed.{Placed}
use Rattle.capnp_text.specs.declared.tree.Value.{Value}
use Rattle.capnp_text.specs.declared.tree.Field.{Field}
use Rattle.wd_config.specs.declared.items.Item.{Item}
use Rattle.wd_config.specs.declared.items.Entry.{Entry}
use Rattle.wd_config.specs.declared.lists.Listed.{Listed}
use Rattle.wd_config.specs.declared.schema.ListKind.{ListKind}
use Rattle.wd_config.specs.declared.schema.StructKind.{StructKind}
use Rattle.wd_config.specs.declared.schema.Slot.{Slot}
use Rattle.wd_config.specs.declared.schema.Shape.{Shape}
use Rattle.wd_config.specs.declared.faults.Stop.{Stop}
use Rattle.wd_config.specs.Given.{StopsAt}
use Rattle.wd_ports.specs.Told.{Told}
use Rattle.wd_config.specs.declared.scope.Scope.{Scope}
use Rattle.wd_config.specs.Scope.{context}
use Rattle.wd_config.specs.Names.{Names}
use Rattle.wd_config.specs.Reading.{Found, done, given, ◌>>=◌, Comes}
use Rattle.wd_config.specs.Values.{Context, Reader, in_place, shaped, value_item, allowed, field_step, entry, item_step, item_shape, with_item, with_name}
use Rattle.wd_config.proofs.Comes.{comes_then, stops_then, given_comes, stops_comes}

one_level : (n m : ℕ) (c : Context) (o : List ℕ) (taken : Names) (label : Placed) (x : Shape) (v : Value) → n ≡ suc m
    → value_item n c o taken label x v ≡ (given (in_place c.file c.constants o v) >>= λ p. shaped (value_item m c p.0) c taken label x p.1)
unfolding value_item
one_level n m c o taken label x v e = ap (λ (k : ℕ). value_item k c o taken label x v) e

pred : (n : ℕ) → 0 < n → n ≡ suc (n - 1)
pred n h = omega arith

pub value_comes : (n : ℕ) (c : Context) (o p : List ℕ) (taken : Names) (label : Placed) (x : Shape) (v w : Value) (y : Result Item Stop) → 0 < n → in_place c.file c.constants o v ≡ Ok (p, w)
    → Comes (shaped (value_item (n - 1) c p) c taken label x w) y → Comes (value_item n c o taken label x v) y
value_comes n c o p taken label x v w y h e d =
    subst (λ r. Comes r y) (sym (one_level n (n - 1) c o taken label x v (pred n h)))
    (comes_then (given (in_place c.file c.constants o v)) (λ q. shaped (value_item (n - 1) c q.0) c taken label x q.1) (p, w) y (given_comes (in_place c.file c.constants o v) (p, w) e) d)

pub value_stops : (n : ℕ) (c : Context) (o : List ℕ) (taken : Names) (label : Placed) (x : Shape) (v : Value) (s : Stop) → 0 < n → StopsAt (in_place c.file c.constants o v) s
    → Comes (value_item n c o taken label x v) (Err s)
value_stops n c o taken label x v s h e =
    subst (λ r. Comes r (Err s)) (sym (one_level n (n - 1) c o taken label x v (pred n h)))
    (stops_then (given (in_place c.file c.constants o v)) (λ q. shaped (value_item (n - 1) c q.0) c taken label x q.1) s (stops_comes (in_place c.file c.constants o v) s e))

-- ---- fields and items

pub field_refused : (read : Reader) (taken : Names) (k : StructKind) (es : List Entry) (f : Field) (s : Stop) → StopsAt (allowed k es f.name) s → Comes (field_step read taken k es f) (Err s)
field_refused read taken k es f s h =
    stops_then (given (allowed k es f.name)) (λ a. read taken f.name a.1 f.value >>= λ i. done (es ++ entry a.0 i ∷ [])) s (stops_comes (allowed k es f.name) s h)

pub field_comes : (read : Reader) (taken : Names) (k : StructKind) (es : List Entry) (f : Field) (a : Slot × Shape) (y : Result (List Entry) Stop) → allowed k es f.name ≡ Ok a
    → Comes (read taken f.name a.1 f.value >>= λ i. done (es ++ entry a.0 i ∷ [])) y → Comes (field_step read taken k es f) y
field_comes read taken k es f a y h c =
    comes_then (given (allowed k es f.name)) (λ a. read taken f.name a.1 f.value >>= λ i. done (es ++ entry a.0 i ∷ [])) a y (given_comes (allowed k es f.name) a h) c

pub field_stops : (read : Reader) (taken : Names) (k : StructKind) (es : List Entry) (f : Field) (a : Slot × Shape) (s : Stop) → allowed k es f.name ≡ Ok a
    → Comes (read taken f.name a.1 f.value) (Err s) → Comes (field_step read taken k es f) (Err s)
field_stops read taken k es f a s h c = field_comes read taken k es f a (Err s) h (stops_then (read taken f.name a.1 f.value) (λ i. done (es ++ entry a.0 i ∷ [])) s c)

pub field_reads : (read : Reader) (taken : Names) (k : StructKind) (es : List Entry) (f : Field) (a : Slot × Shape) (i : Item) (more : List Entry) → allowed k es f.name ≡ Ok a
    → Comes (read taken f.name a.1 f.value) (Ok i) → more ≡ es ++ entry a.0 i ∷ [] → Comes (field_step read taken k es f) (Ok more)
field_reads read taken k es f a i more h c e =
    field_comes read taken k es f a (Ok more) h (comes_then (read taken f.name a.1 f.value) (λ i. done (es ++ entry a.0 i ∷ [])) i (Ok more) c (ap Found (sym e)))

pub item_stops : (read : Reader) (label : Placed) (k : ListKind) (l : Listed) (v : Value) (x : Shape) (s : Stop) → x ≡ item_shape k → Comes (read l.taken label x v) (Err s) → Comes (item_step read label k l v) (Err s)
item_stops read label k l v x s e c =
    stops_then (read l.taken label (item_shape k) v) (λ i. done (record { items = with_item l.items i; taken = with_name l.taken i })) s (subst (λ (z : Shape). Comes (read l.taken label z v) (Err s)) e c)

pub item_reads : (read : Reader) (label : Placed) (k : ListKind) (l : Listed) (v : Value) (x : Shape) (i : Item) (more : Listed) → x ≡ item_shape k → Comes (read l.taken label x v) (Ok i)
    → more ≡ record { items = with_item l.items i; taken = with_name l.taken i } → Comes (item_step read label k l v) (Ok more)
item_reads read label k l v x i more e c m =
    comes_then (read l.taken label (item_shape k) v) (λ i. done (record { items = with_item l.items i; taken = with_name l.taken i })) i (Ok more)
    (subst (λ (z : Shape). Comes (read l.taken label z v) (Ok i)) e c) (ap Found (sym m))

-- the same files are told, and the same constants are open
pub moved : (n : ℕ) (s : Scope) (t u : Told) (o p : List ℕ) → t ≡ u → o ≡ p → value_item n (context s t) o ≡ value_item n (context s u) p
moved n s t u o p e f = ap (λ (z : Told). value_item n (context s z) o) e ∙ ap (λ (q : List ℕ). value_item n (context s u) q) f
