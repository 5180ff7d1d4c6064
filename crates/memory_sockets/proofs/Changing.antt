-- Lists that are changed, and searched, place by place.
use Rattle.std.proofs.Common.{ℕ, ◌≡◌, ◌+◌, ◌<◌, ◌≤◌, ◌||◌, if◌then◌else◌, Bool, true, false, List, [], ◌∷◌, ◌++◌, Option, Some, None, length, map, take, drop, set, get_or, ap, ap₂, sym, ◌∙◌, append_assoc, append-nil, add-one, arith}
use Rattle.std.specs.List.{list_any}
use Rattle.std.proofs.lemmas.List.{drop_more, drop_all, take_all, take_more, take_more_set, drop-set-lt, set_split, set-get_or}
use Rattle.proxy_net.specs.declared.bound_files.FoundFile.{FoundFile}
use Rattle.memory_sockets.specs.declared.listeners.ListenerInMemory.{ListenerInMemory}
use Rattle.memory_sockets.specs.declared.listeners.FileInMemory.{FileInMemory}
use Rattle.memory_sockets.specs.Listeners.{has_client, is_file_at, other_file, served, taken, found_from}

-- a list from a place on, by the item at that place
from_place : {X : Type 0} (xs : List X) (i : ℕ) (x : X) → i < length xs → x ≡ get_or xs i x → drop i xs ≡ x ∷ drop (i + 1) xs
from_place {X} xs i x lt is = drop_more xs i x lt ∙ ap (λ (y : X). y ∷ drop (i + 1) xs) (sym is)

-- one place more is changed
pub mapped_more : {X : Type 0} (f : X → X) (xs all : List X) (i : ℕ) (x y : X) → i < length xs → x ≡ get_or xs i x → y ≡ f (get_or xs i x) → take i xs ++ map f (drop i xs) ≡ map f all
    → take (i + 1) (set xs i y) ++ map f (drop (i + 1) (set xs i y)) ≡ map f all
mapped_more {X} f xs all i x y lt is same so_far =
    ap₂ (λ (a b : List X). a ++ map f b) (take_more_set xs i y lt) (drop-set-lt (i + 1) xs i y (omega arith))
    ∙ ap (λ (z : X). (take i xs ++ z ∷ []) ++ map f (drop (i + 1) xs)) (same ∙ ap f (sym is))
    ∙ append_assoc (take i xs) (f x ∷ []) (map f (drop (i + 1) xs))
    ∙ ap (λ (b : List X). take i xs ++ map f b) (sym (from_place xs i x lt is))
    ∙ so_far

-- all places are changed
pub mapped_all : {X : Type 0} (f : X → X) (xs all : List X) (i : ℕ) → length xs ≤ i → take i xs ++ map f (drop i xs) ≡ map f all → xs ≡ map f all
mapped_all {X} f xs all i le so_far = sym (ap₂ (λ (a b : List X). a ++ map f b) (take_all i xs le) (drop_all i xs le) ∙ append-nil xs) ∙ so_far

-- no client waits at the listener of one place more
pub none_more : (number : ℕ) (xs : List ListenerInMemory) (i : ℕ) (x : ListenerInMemory) → i < length xs → x ≡ get_or xs i x → has_client number (get_or xs i x) ≡ false
    → list_any (has_client number) (drop (i + 1) (set xs i (get_or xs i x))) ≡ list_any (has_client number) (drop i xs)
none_more number xs i x lt is none =
    ap (λ (l : List ListenerInMemory). list_any (has_client number) (drop (i + 1) l)) (set-get_or xs i x)
    ∙ sym (ap (λ (l : List ListenerInMemory). list_any (has_client number) l) (from_place xs i x lt is) ∙ ap (λ (b : Bool). b || list_any (has_client number) (drop (i + 1) xs)) (ap (has_client number) is ∙ none))

pub one_here : (number : ℕ) (xs : List ListenerInMemory) (i : ℕ) (x : ListenerInMemory) → i < length xs → x ≡ get_or xs i x → has_client number (get_or xs i x) ≡ true
    → list_any (has_client number) (drop i xs) ≡ true
one_here number xs i x lt is some =
    ap (λ (l : List ListenerInMemory). list_any (has_client number) l) (from_place xs i x lt is) ∙ ap (λ (b : Bool). b || list_any (has_client number) (drop (i + 1) xs)) (ap (has_client number) is ∙ some)

taken_from : (number : ℕ) (xs : List ListenerInMemory) (i : ℕ) (x : ListenerInMemory) (b : Bool) → i < length xs → x ≡ get_or xs i x → has_client number (get_or xs i x) ≡ b
    → taken number (drop i xs) ≡ (if b then served x ∷ drop (i + 1) xs else x ∷ taken number (drop (i + 1) xs))
taken_from number xs i x b lt is some =
    ap (λ (l : List ListenerInMemory). taken number l) (from_place xs i x lt is)
    ∙ ap (λ (c : Bool). if c then served x ∷ drop (i + 1) xs else x ∷ taken number (drop (i + 1) xs)) (ap (has_client number) is ∙ some)

pub taken_more : (number : ℕ) (xs all : List ListenerInMemory) (i : ℕ) (x : ListenerInMemory) → i < length xs → x ≡ get_or xs i x → has_client number (get_or xs i x) ≡ false
    → take i xs ++ taken number (drop i xs) ≡ taken number all → take (i + 1) (set xs i (get_or xs i x)) ++ taken number (drop (i + 1) (set xs i (get_or xs i x))) ≡ taken number all
taken_more number xs all i x lt is none so_far =
    ap (λ (l : List ListenerInMemory). take (i + 1) l ++ taken number (drop (i + 1) l)) (set-get_or xs i x)
    ∙ ap (λ (l : List ListenerInMemory). l ++ taken number (drop (i + 1) xs)) (take_more xs i x lt ∙ ap (λ (y : ListenerInMemory). take i xs ++ y ∷ []) (sym is))
    ∙ append_assoc (take i xs) (x ∷ []) (taken number (drop (i + 1) xs))
    ∙ ap (λ (l : List ListenerInMemory). take i xs ++ l) (sym (taken_from number xs i x false lt is none))
    ∙ so_far

-- the client of this place is taken
pub taken_here : (number : ℕ) (xs all : List ListenerInMemory) (i : ℕ) (x y : ListenerInMemory) → i < length xs → x ≡ get_or xs i x → y ≡ served (get_or xs i x) → has_client number (get_or xs i x) ≡ true
    → take i xs ++ taken number (drop i xs) ≡ taken number all → set xs i y ≡ taken number all
taken_here number xs all i x y lt is same some so_far =
    set_split xs i y lt
    ∙ ap₂ (λ (z : ListenerInMemory) (j : ℕ). take i xs ++ z ∷ drop j xs) (same ∙ ap served (sym is)) (sym (add-one i))
    ∙ ap (λ (l : List ListenerInMemory). take i xs ++ l) (sym (taken_from number xs i x true lt is some))
    ∙ so_far

-- no client was taken at any place
pub taken_none : (number : ℕ) (xs all : List ListenerInMemory) (i : ℕ) → length xs ≤ i → take i xs ++ taken number (drop i xs) ≡ taken number all → xs ≡ taken number all
taken_none number xs all i le so_far = sym (ap₂ (λ (a b : List ListenerInMemory). a ++ taken number b) (take_all i xs le) (drop_all i xs le) ∙ append-nil xs) ∙ so_far

found_at : (path : List ℕ) (files : List FileInMemory) (i : ℕ) (file : FileInMemory) (b : Bool) → i < length files → file ≡ get_or files i file → is_file_at path file ≡ b
    → found_from path i (drop i files) ≡ (if b then Some (other_file i file) else found_from path (i + 1) (drop (i + 1) files))
found_at path files i file b lt is at =
    ap (λ (l : List FileInMemory). found_from path i l) (from_place files i file lt is)
    ∙ ap (λ (c : Bool). if c then Some (other_file i file) else found_from path (i + 1) (drop (i + 1) files)) at

-- the file of one place more isn't at the path
pub found_more : (path : List ℕ) (files : List FileInMemory) (i : ℕ) (file : FileInMemory) (all : Option FoundFile) → i < length files → file ≡ get_or files i file → is_file_at path file ≡ false
    → found_from path i (drop i files) ≡ all → found_from path (i + 1) (drop (i + 1) files) ≡ all
found_more path files i file all lt is none so_far = sym (found_at path files i file false lt is none) ∙ so_far

-- .. or is
pub found_here : (path : List ℕ) (files : List FileInMemory) (i : ℕ) (file : FileInMemory) (all : Option FoundFile) → i < length files → file ≡ get_or files i file → is_file_at path file ≡ true
    → found_from path i (drop i files) ≡ all → Some (other_file i file) ≡ all
found_here path files i file all lt is some so_far = sym (found_at path files i file true lt is some) ∙ so_far

pub found_none : (path : List ℕ) (files : List FileInMemory) (i : ℕ) (all : Option FoundFile) → length files ≤ i → found_from path i (drop i files) ≡ all → None ≡ all
found_none path files i all le so_far = sym (ap (λ (l : List FileInMemory). found_from path i l) (drop_all i files le)) ∙ so_far
