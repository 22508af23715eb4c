-- The names in a folder.
use Rattle.std.proofs.Common.{◌≡◌, ℕ, add-one, get_or, ◌+◌, ◌-◌, ◌<◌, ◌≤◌, List, [], ◌∷◌, ◌++◌, length, map, take, drop, ap, sym, ◌∙◌, Bool, true, false, not, nat_eq, cond, append_assoc, append-nil}
use Rattle.std.specs.List.{filter, list_any, starts_with}
use Rattle.std.proofs.lemmas.List.Elements.{filter-append}
use Rattle.std.proofs.lemmas.List.{map-append, drop_all, drop-drop}
use Rattle.std.proofs.Math.Seq.{drop-cons}
use Rattle.wd_ports.specs.declared.told.FileKind.{FileKind}
use Rattle.wd_ports.specs.declared.told.Name.{Name}
use Rattle.wd_ports.specs.Told.{is_child, part_of, names_in, slash}
use Rattle.wd_ports.proofs.OneLink.{rest_of}

-- the name of a path that stands in the folder is added
pub name_added : (kind : FileKind) (folder path : List ℕ) (names : List Name) → is_child folder path ≡ true → names ++ record { text = take (length path - (length folder + 1)) (drop (length folder + 1) path); kind = kind } ∷ [] ≡ names ++ names_in kind folder (path ∷ [])
unfolding names_in
name_added kind folder path names h = ap (λ text. names ++ record { text = text; kind = kind } ∷ []) (rest_of (length folder + 1) path) ∙ ap (λ b. names ++ map (λ p. record { text = part_of folder p; kind = kind }) (cond b (path ∷ []) [])) (sym h)

-- another path adds none
pub name_passed : (kind : FileKind) (folder path : List ℕ) (names : List Name) → is_child folder path ≡ false → names ≡ names ++ names_in kind folder (path ∷ [])
unfolding names_in
name_passed kind folder path names h = sym (append-nil names) ∙ ap (λ b. names ++ map (λ p. record { text = part_of folder p; kind = kind }) (cond b (path ∷ []) [])) (sym h)

-- the names of paths, one after another
pub names_step : (kind : FileKind) (folder path : List ℕ) (paths : List (List ℕ)) (names : List Name) → (names ++ names_in kind folder (path ∷ [])) ++ names_in kind folder paths ≡ names ++ names_in kind folder (path ∷ paths)
unfolding names_in
names_step kind folder path paths names = append_assoc names _ _ ∙ ap (λ ns. names ++ ns) (sym (ap (map (λ p. record { text = part_of folder p; kind = kind })) (filter-append (is_child folder) (path ∷ []) paths) ∙ map-append _ (filter (is_child folder) (path ∷ [])) (filter (is_child folder) paths)))

-- a list from a place on: the item there, and the rest
pub drop_next : {A : Type 0} (xs : List A) (i : ℕ) (d : A) → i < length xs → drop i xs ≡ get_or xs i d ∷ drop (i + 1) xs
drop_next xs i d h = rw add-one (drop-cons xs i d h)

-- a loop over folders has added the names of those before a place
pub folders_next : (kind : FileKind) (folder : List ℕ) (paths : List (List ℕ)) (i : ℕ) (d path : List ℕ) (names new : List Name) → i < length paths → path ≡ get_or paths i d → new ≡ names ++ names_in kind folder (path ∷ []) → new ++ names_in kind folder (drop (i + 1) paths) ≡ names ++ names_in kind folder (drop i paths)
folders_next kind folder paths i d path names new h at e = ap (λ ns. ns ++ names_in kind folder (drop (i + 1) paths)) (e ∙ ap (λ p. names ++ names_in kind folder (p ∷ [])) at) ∙ names_step kind folder (get_or paths i d) (drop (i + 1) paths) names ∙ ap (λ ps. names ++ names_in kind folder ps) (sym (drop_next paths i d h))

pub folders_end : (kind : FileKind) (folder : List ℕ) (paths : List (List ℕ)) (i : ℕ) (names : List Name) → length paths ≤ i → names ++ names_in kind folder (drop i paths) ≡ names
unfolding names_in
folders_end kind folder paths i names h = rw (drop_all i paths h) (append-nil names)

-- the same of files
pub files_next : (kind : FileKind) (folder : List ℕ) (files : List (List ℕ × List ℕ)) (i : ℕ) (d : List ℕ × List ℕ) (path : List ℕ) (names new : List Name) → i < length files → path ≡ (get_or files i d).0 → new ≡ names ++ names_in kind folder (path ∷ []) → new ++ names_in kind folder (map (λ f. f.0) (drop (i + 1) files)) ≡ names ++ names_in kind folder (map (λ f. f.0) (drop i files))
files_next kind folder files i d path names new h at e = ap (λ ns. ns ++ names_in kind folder (map (λ f. f.0) (drop (i + 1) files))) (e ∙ ap (λ p. names ++ names_in kind folder (p ∷ [])) at) ∙ names_step kind folder (get_or files i d).0 (map (λ f. f.0) (drop (i + 1) files)) names ∙ ap (λ fs. names ++ names_in kind folder (map (λ f. f.0) fs)) (sym (drop_next files i d h))

pub files_end : (kind : FileKind) (folder : List ℕ) (files : List (List ℕ × List ℕ)) (i : ℕ) (names : List Name) → length files ≤ i → names ++ names_in kind folder (map (λ f. f.0) (drop i files)) ≡ names
unfolding names_in
files_end kind folder files i names h = rw (drop_all i files h) (append-nil names)

-- what follows a place, as a slice's slice has it
rest_twice : (i j : ℕ) (bytes : List ℕ) → take (length (take (length bytes - i) (drop i bytes)) - j) (drop j (take (length bytes - i) (drop i bytes))) ≡ drop (i + j) bytes
rest_twice i j bytes = rest_of j _ ∙ ap (drop j) (rest_of i bytes) ∙ drop-drop j i bytes

-- the three tests together
pub child_value : (folder path : List ℕ) (found : Bool) → starts_with nat_eq path folder ≡ true → starts_with nat_eq (take (length path - length folder) (drop (length folder) path)) (slash ∷ []) ≡ true → found ≡ list_any (λ b. nat_eq b slash) (take (length (take (length path - length folder) (drop (length folder) path)) - 1) (drop 1 (take (length path - length folder) (drop (length folder) path)))) → not found ≡ is_child folder path
child_value folder path found first second third = rw (first, sym (rest_of (length folder) path), second) (ap not (third ∙ ap (list_any (λ b. nat_eq b slash)) (rest_twice (length folder) 1 path)))
