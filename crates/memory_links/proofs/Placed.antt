-- A file replaces the first one with a path in a list.
use Rattle.std.proofs.Common.{◌≡◌, ◌≢◌, ◌+◌, ℕ, zero, suc, Bool, true, false, List, [], ◌∷◌, ◌++◌, Option, None, Some, refl, ap, sym, ◌∙◌, subst, arith, string_bytes, cond, ◌<◌, length, drop, drop-cons, add-zero}
use Rattle.std.specs.List.{slice_index_or, slice_set}
use Rattle.std.specs.Str.{bytes_eq}
use Rattle.std.proofs.lemmas.Slice.Eq.{bytes_eq-Decides}
use Rattle.std.proofs.lemmas.Bool.{false_from_ne_true}
use Rattle.memory_links.specs.Memory.{file_of, fails_in, IsPlace}
use Rattle.memory_links.specs.declared.memory.MemFile.{MemFile}

-- a file has no other path than its own
other_path : (own path p : List ℕ) → bytes_eq own path ≡ true → p ≢ path → bytes_eq own p ≡ false
other_path own path p e n = false_from_ne_true _ (λ t. n (sym ((bytes_eq-Decides own p).0 t) ∙ (bytes_eq-Decides own path).0 e))

-- the file at the place is the first with the path
pub file_of-place : (fs : List MemFile) (path : List ℕ) (k : ℕ) (r : MemFile) → IsPlace fs path k → r ≡ slice_index_or fs k r → file_of fs path ≡ Some r
file_of-place [] path k r h e = absurd h
file_of-place (f ∷ fs) path zero r h e = rw h (ap Some (sym e))
file_of-place (f ∷ fs) path (suc k) r h e = rw h.0 (file_of-place fs path k r h.1 e)

-- another in its place is the first with the path
pub file_of-set : (fs : List MemFile) (path : List ℕ) (k : ℕ) (r g : MemFile) → IsPlace fs path k → r ≡ slice_index_or fs k r →
    string_bytes g.path ≡ string_bytes r.path → file_of (slice_set fs k g) path ≡ Some g
file_of-set [] path k r g h e same = absurd h
file_of-set (f ∷ fs) path zero r g h e same =
    let t : bytes_eq (string_bytes g.path) path ≡ true = ap (λ (b : List ℕ). bytes_eq b path) (same ∙ ap (λ (m : MemFile). string_bytes m.path) e) ∙ h in
    rw t refl
file_of-set (f ∷ fs) path (suc k) r g h e same = rw h.0 (file_of-set fs path k r g h.1 e same)

-- .. and what has another path stays
pub file_of-set_other : (fs : List MemFile) (path : List ℕ) (k : ℕ) (r g : MemFile) (p : List ℕ) → IsPlace fs path k → r ≡ slice_index_or fs k r →
    string_bytes g.path ≡ string_bytes r.path → p ≢ path → file_of (slice_set fs k g) p ≡ file_of fs p
file_of-set_other [] path k r g p h e same n = absurd h
file_of-set_other (f ∷ fs) path zero r g p h e same n =
    let old : bytes_eq (string_bytes f.path) p ≡ false = other_path (string_bytes f.path) path p h n in
    let new : bytes_eq (string_bytes g.path) p ≡ false = ap (λ (b : List ℕ). bytes_eq b p) (same ∙ ap (λ (m : MemFile). string_bytes m.path) e) ∙ old in
    rw (old, new) refl
file_of-set_other (f ∷ fs) path (suc k) r g p h e same n =
    ap (λ (rest : Option MemFile). cond (bytes_eq (string_bytes f.path) p) (Some f) rest) (file_of-set_other fs path k r g p h.1 e same n)

-- what is equal for both files is equal for the first file with any path
pub kept-set : {B : Type 0} (of : Option MemFile → B) (fs : List MemFile) (path : List ℕ) (k : ℕ) (r g : MemFile) (p : List ℕ) → IsPlace fs path k →
    r ≡ slice_index_or fs k r → string_bytes g.path ≡ string_bytes r.path → of (Some g) ≡ of (Some r) → of (file_of (slice_set fs k g) p) ≡ of (file_of fs p)
kept-set of [] path k r g p h e same both = absurd h
kept-set of (f ∷ fs) path zero r g p h e same both =
    let test : bytes_eq (string_bytes g.path) p ≡ bytes_eq (string_bytes f.path) p = ap (λ (b : List ℕ). bytes_eq b p) (same ∙ ap (λ (m : MemFile). string_bytes m.path) e) in
    let is : of (Some g) ≡ of (Some f) = both ∙ ap (λ (m : MemFile). of (Some m)) e in
    rw test (at_test (bytes_eq (string_bytes f.path) p) is)
  where
    at_test : (b : Bool) → of (Some g) ≡ of (Some f) → of (cond b (Some g) (file_of fs p)) ≡ of (cond b (Some f) (file_of fs p))
    at_test true is = is
    at_test false is = refl
kept-set of (f ∷ fs) path (suc k) r g p h e same both = at_test (bytes_eq (string_bytes f.path) p) (kept-set of fs path k r g p h.1 e same both)
  where
    at_test : (b : Bool) → of (file_of (slice_set fs k g) p) ≡ of (file_of fs p) →
        of (cond b (Some f) (file_of (slice_set fs k g) p)) ≡ of (cond b (Some f) (file_of fs p))
    at_test true is = refl
    at_test false is = is

-- ---- a file more at the end

pub file_of-last : (fs : List MemFile) (path : List ℕ) (g : MemFile) → file_of fs path ≡ None → string_bytes g.path ≡ path → file_of (fs ++ g ∷ []) path ≡ Some g
file_of-last [] path g none own = rw ((bytes_eq-Decides (string_bytes g.path) path).1 own) refl
file_of-last (f ∷ fs) path g none own = at_test (bytes_eq (string_bytes f.path) path) none (λ rest. file_of-last fs path g rest own)
  where
    at_test : (b : Bool) → ◌≡◌ {A = Option MemFile} (cond b (Some f) (file_of fs path)) None → (file_of fs path ≡ None → file_of (fs ++ g ∷ []) path ≡ Some g) →
        ◌≡◌ {A = Option MemFile} (cond b (Some f) (file_of (fs ++ g ∷ []) path)) (Some g)
    at_test true some rest = absurd (cc)
    at_test false none rest = rest none

pub file_of-last_other : (fs : List MemFile) (path : List ℕ) (g : MemFile) (p : List ℕ) → string_bytes g.path ≡ path → p ≢ path → file_of (fs ++ g ∷ []) p ≡ file_of fs p
file_of-last_other [] path g p own n = rw (other_path (string_bytes g.path) path p ((bytes_eq-Decides (string_bytes g.path) path).1 own) n) refl
file_of-last_other (f ∷ fs) path g p own n =
    ap (λ (rest : Option MemFile). cond (bytes_eq (string_bytes f.path) p) (Some f) rest) (file_of-last_other fs path g p own n)

pub fails-last : (fs : List MemFile) (g : MemFile) (p : List ℕ) → g.fails ≡ false → fails_in (file_of (fs ++ g ∷ []) p) ≡ fails_in (file_of fs p)
fails-last [] g p fails = at_test (bytes_eq (string_bytes g.path) p)
  where
    at_test : (b : Bool) → fails_in (cond b (Some g) None) ≡ false
    at_test true = fails
    at_test false = refl
fails-last (f ∷ fs) g p fails = at_test (bytes_eq (string_bytes f.path) p) (fails-last fs g p fails)
  where
    at_test : (b : Bool) → fails_in (file_of (fs ++ g ∷ []) p) ≡ fails_in (file_of fs p) →
        fails_in (cond b (Some f) (file_of (fs ++ g ∷ []) p)) ≡ fails_in (cond b (Some f) (file_of fs p))
    at_test true is = refl
    at_test false is = is

-- ---- the search for the first file with a path

-- the files before this place have other paths
pub record PassedTo (fs : List MemFile) (path : List ℕ) (i : ℕ) : Type 0 where
  pub file : file_of (drop i fs) path ≡ file_of fs path
  pub place : (k : ℕ) → IsPlace (drop i fs) path k → IsPlace fs path (i + k)

pub passed-start : (fs : List MemFile) (path : List ℕ) → PassedTo fs path 0
passed-start fs path = record { file = refl; place = λ k h. subst (λ (n : ℕ). IsPlace fs path n) (omega arith) h }

pub passed-found : (fs : List MemFile) (path : List ℕ) (i : ℕ) (d : MemFile) → i < length fs → PassedTo fs path i →
    bytes_eq (string_bytes (slice_index_or fs i d).path) path ≡ true → IsPlace fs path i
passed-found fs path i d below passed e =
    let here : IsPlace (drop i fs) path 0 = subst (λ (l : List MemFile). IsPlace l path 0) (sym (drop-cons fs i d below)) e in
    subst (λ (n : ℕ). IsPlace fs path n) (add-zero i) (passed.place 0 here)

pub passed-next : (fs : List MemFile) (path : List ℕ) (i : ℕ) (d : MemFile) → i < length fs → PassedTo fs path i →
    bytes_eq (string_bytes (slice_index_or fs i d).path) path ≡ false → PassedTo fs path (i + 1)
passed-next fs path i d below passed e =
    let one : suc i ≡ i + 1 = omega arith in
    subst (λ (n : ℕ). PassedTo fs path n) one (record {
      file = sym (ap (λ (l : List MemFile). file_of l path) (drop-cons fs i d below) ∙ rw e refl) ∙ passed.file;
      place = λ k h.
          let next : IsPlace (slice_index_or fs i d ∷ drop (suc i) fs) path (suc k) = (e, h) in
          let all : IsPlace (drop i fs) path (suc k) = subst (λ (l : List MemFile). IsPlace l path (suc k)) (sym (drop-cons fs i d below)) next in
          subst (λ (n : ℕ). IsPlace fs path n) (omega arith) (passed.place (suc k) all);
    })

pub passed-all : (fs : List MemFile) (path : List ℕ) (i : ℕ) → drop i fs ≡ [] → PassedTo fs path i → file_of fs path ≡ None
passed-all fs path i none passed = sym passed.file ∙ ap (λ (l : List MemFile). file_of l path) none
