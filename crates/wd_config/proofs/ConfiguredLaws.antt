-- The passes over a file.
use Rattle.std.proofs.Common.{◌≡◌, ℕ, List, [], ◌∷◌, Option, Result, Ok, Err, sym, ap, subst, ◌∙◌}
use Rattle.wd_base.specs.declared.config.Config.{Config}
use Rattle.wd_ports.specs.Told.{Stored}
use Rattle.capnp_text.specs.declared.tree.Decl.{Decl}
use Rattle.wd_config.specs.declared.faults.Stop.{Stop}
use Rattle.wd_config.specs.declared.items.Item.{Item}
use Rattle.wd_config.specs.declared.declarations.Tables.{Tables}
use Rattle.wd_config.specs.declared.schema.StructKind.TheVariants as struct
use Rattle.wd_config.specs.declared.schema.Shape.TheVariants as shape
use Rattle.wd_config.specs.Given.{Given, StopsAt, Gives}
use Rattle.wd_config.specs.Names.{Names}
use Rattle.wd_config.specs.Reading.{Read, given, ◌>>=◌, Comes}
use Rattle.wd_config.specs.Values.{Context, value_item, most_levels}
use Rattle.wd_config.specs.Configured.{no_tables, declared, imports, types, chosen, root, Rooted, config_in, rooted_config, configured}
use Rattle.wd_config.proofs.Comes.{comes_then, stops_then, given_comes, stops_comes, gives_comes}

before : {A B : Type 0} (t : Given A) (k : A → Read B) (s : Stop) → StopsAt t s → Comes (given t >>= k) (Err s)
before t k s h = stops_then (given t) k s (stops_comes t s h)

after : {A B : Type 0} (t : Given A) (k : A → Read B) (x : A) (y : Result B Stop) → t ≡ Ok x → Comes (k x) y → Comes (given t >>= k) y
after t k x y h c = comes_then (given t) k x y (given_comes t x h) c

abbrev the_context : List ℕ → Option Stored → List Decl → Tables → Context
the_context folder files file t = record { file = file; constants = t.constants; folder = folder; files = files }

abbrev from_name : List ℕ → Option Stored → List Decl → Tables → List ℕ → Read Config
from_name folder files file t n = given (root t.constants file n) >>= λ r. rooted_config (the_context folder files file t) r

abbrev from_types : Option (List ℕ) → List ℕ → Option Stored → List Decl → Tables → Read Config
from_types name folder files file t = given (chosen name file) >>= λ n. from_name folder files file t n

abbrev from_imports : Option (List ℕ) → List ℕ → Option Stored → List Decl → Tables → Read Config
from_imports name folder files file t = given (types t.aliases file) >>= λ u. from_types name folder files file t

abbrev from_tables : Option (List ℕ) → List ℕ → Option Stored → List Decl → Tables → Read Config
from_tables name folder files file t = given (imports file) >>= λ u. from_imports name folder files file t

pub tables_stop : (name : Option (List ℕ)) (folder : List ℕ) (files : Option Stored) (file : List Decl) (s : Stop) → StopsAt (declared 0 no_tables file) s → Comes (configured name folder files file) (Err s)
unfolding configured
tables_stop name folder files file s h = before (declared 0 no_tables file) (from_tables name folder files file) s h

by_tables : (name : Option (List ℕ)) (folder : List ℕ) (files : Option Stored) (file : List Decl) (t : Tables) (y : Result Config Stop) → declared 0 no_tables file ≡ Ok t → Comes (from_tables name folder files file t) y → Comes (configured name folder files file) y
unfolding configured
by_tables name folder files file t y h c = after (declared 0 no_tables file) (from_tables name folder files file) t y h c

pub imports_stop : (name : Option (List ℕ)) (folder : List ℕ) (files : Option Stored) (file : List Decl) (t : Tables) (s : Stop) → declared 0 no_tables file ≡ Ok t → StopsAt (imports file) s → Comes (configured name folder files file) (Err s)
imports_stop name folder files file t s h i = by_tables name folder files file t (Err s) h (before (imports file) (λ u. from_imports name folder files file t) s i)

by_imports : (name : Option (List ℕ)) (folder : List ℕ) (files : Option Stored) (file : List Decl) (t : Tables) (u : Unit {0}) (y : Result Config Stop) → declared 0 no_tables file ≡ Ok t → imports file ≡ Ok u → Comes (from_imports name folder files file t) y → Comes (configured name folder files file) y
by_imports name folder files file t u y h i c = by_tables name folder files file t y h (after (imports file) (λ u. from_imports name folder files file t) u y i c)

pub types_stop : (name : Option (List ℕ)) (folder : List ℕ) (files : Option Stored) (file : List Decl) (t : Tables) (u : Unit {0}) (s : Stop) → declared 0 no_tables file ≡ Ok t → imports file ≡ Ok u → StopsAt (types t.aliases file) s → Comes (configured name folder files file) (Err s)
types_stop name folder files file t u s h i j = by_imports name folder files file t u (Err s) h i (before (types t.aliases file) (λ v. from_types name folder files file t) s j)

by_types : (name : Option (List ℕ)) (folder : List ℕ) (files : Option Stored) (file : List Decl) (t : Tables) (u v : Unit {0}) (y : Result Config Stop) → declared 0 no_tables file ≡ Ok t → imports file ≡ Ok u → types t.aliases file ≡ Ok v → Comes (from_types name folder files file t) y → Comes (configured name folder files file) y
by_types name folder files file t u v y h i j c = by_imports name folder files file t u y h i (after (types t.aliases file) (λ v. from_types name folder files file t) v y j c)

pub name_stops : (name : Option (List ℕ)) (folder : List ℕ) (files : Option Stored) (file : List Decl) (t : Tables) (u v : Unit {0}) (s : Stop) → declared 0 no_tables file ≡ Ok t → imports file ≡ Ok u → types t.aliases file ≡ Ok v → StopsAt (chosen name file) s → Comes (configured name folder files file) (Err s)
name_stops name folder files file t u v s h i j k = by_types name folder files file t u v (Err s) h i j (before (chosen name file) (from_name folder files file t) s k)

by_name : (name : Option (List ℕ)) (folder : List ℕ) (files : Option Stored) (file : List Decl) (t : Tables) (u v : Unit {0}) (n : List ℕ) (y : Result Config Stop) → declared 0 no_tables file ≡ Ok t → imports file ≡ Ok u → types t.aliases file ≡ Ok v → chosen name file ≡ Ok n → Comes (from_name folder files file t n) y → Comes (configured name folder files file) y
by_name name folder files file t u v n y h i j k c = by_types name folder files file t u v y h i j (after (chosen name file) (from_name folder files file t) n y k c)

pub root_stops : (name : Option (List ℕ)) (folder : List ℕ) (files : Option Stored) (file : List Decl) (t : Tables) (u v : Unit {0}) (n m : List ℕ) (s : Stop) → declared 0 no_tables file ≡ Ok t → imports file ≡ Ok u → types t.aliases file ≡ Ok v → chosen name file ≡ Ok n → m ≡ n
    → StopsAt (root t.constants file m) s → Comes (configured name folder files file) (Err s)
root_stops name folder files file t u v n m s h i j k e r =
    by_name name folder files file t u v n (Err s) h i j k (before (root t.constants file n) (rooted_config (the_context folder files file t)) s (subst (λ (z : List ℕ). StopsAt (root t.constants file z) s) e r))

pub config_comes : (name : Option (List ℕ)) (folder : List ℕ) (files : Option Stored) (file : List Decl) (t : Tables) (u v : Unit {0}) (n m : List ℕ) (r : Rooted) (y : Result Config Stop) → declared 0 no_tables file ≡ Ok t → imports file ≡ Ok u → types t.aliases file ≡ Ok v → chosen name file ≡ Ok n → m ≡ n
    → root t.constants file m ≡ Ok r → Comes (rooted_config (record { file = file; constants = t.constants; folder = folder; files = files }) r) y → Comes (configured name folder files file) y
config_comes name folder files file t u v n m r y h i j k e q c =
    by_name name folder files file t u v n y h i j k (after (root t.constants file n) (rooted_config (the_context folder files file t)) r y (ap (root t.constants file) (sym e) ∙ q) c)

-- ---- the constant

abbrev read_root : Context → Rooted → List ℕ → Names → Read Item
read_root c r o taken = value_item most_levels c o taken r.label (shape.Struct struct.Config) r.value

opened_root : (c : Context) (r : Rooted) (o : List ℕ) (taken : Names) (y : Result Item Stop) → o ≡ r.at ∷ [] → taken ≡ [] → Comes (read_root c r o taken) y → Comes (read_root c r (r.at ∷ []) []) y
opened_root c r o taken y e f h = subst (λ (z : Names). Comes (read_root c r (r.at ∷ []) z) y) f (subst (λ (p : List ℕ). Comes (read_root c r p taken) y) e h)

pub rooted_stops : (c : Context) (r : Rooted) (o : List ℕ) (taken : Names) (s : Stop) → o ≡ r.at ∷ [] → taken ≡ [] → Comes (value_item most_levels c o taken r.label (shape.Struct struct.Config) r.value) (Err s) → Comes (rooted_config c r) (Err s)
rooted_stops c r o taken s e f h = stops_then (read_root c r (r.at ∷ []) []) (λ i. given (config_in i)) s (opened_root c r o taken (Err s) e f h)

pub rooted_comes : (c : Context) (r : Rooted) (o : List ℕ) (taken : Names) (i : Item) (y : Result Config Stop) → o ≡ r.at ∷ [] → taken ≡ [] → Comes (value_item most_levels c o taken r.label (shape.Struct struct.Config) r.value) (Ok i)
    → Gives (config_in i) y → Comes (rooted_config c r) y
rooted_comes c r o taken i y e f h g = comes_then (read_root c r (r.at ∷ []) []) (λ i. given (config_in i)) i y (opened_root c r o taken (Ok i) e f h) (gives_comes (config_in i) y g)
