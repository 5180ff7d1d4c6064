-- Reading texts at a place that is a multiple of 8 further on.
use Rattle.std.proofs.Common.{◌≡◌, ℕ, zero, suc, ◌+◌, ◌%◌, Bool, true, false, cond, List, [], ◌∷◌, length, take, drop, Option, Some, None, refl, ap, ◌∙◌, arith}
use Rattle.std.specs.Prelude.{nat_le}
use Rattle.std.specs.Int.{w32}
use Rattle.dbus_names.specs.Names.{is_empty}
use Rattle.dbus_values.specs.Values.{padding, is_text}
use Rattle.dbus_values.specs.Reading.{At, ◌>>=◌, when, some_bytes, all_zero, aligned, number_of, a_width, ended_by_nul, text_at}
use Rattle.dbus_values.specs.Bodies.{texts_at, elements_in}
use Rattle.dbus_values.specs.declared.Order.{Order}
use Rattle.dbus_values.proofs.TextBytes.{if_text}

abbrev pub shift : ℕ → At → At
shift p a = record { place = p + a.place; bytes = a.bytes }

abbrev pub shifted : {A : Type 0} → ℕ → Option (A × At) → Option (A × At)
shifted p None = None
shifted p (Some x) = Some (x.0, shift p x.1)

abbrev pub shifted_at : ℕ → Option At → Option At
shifted_at p None = None
shifted_at p (Some a) = Some (shift p a)

further : (p a n : ℕ) → p + a + n ≡ p + (a + n)
further p a n = omega arith

-- ---- steps

some_bytes-shift : (p n : ℕ) (a : At) → some_bytes n (shift p a) ≡ shifted p (some_bytes n a)
some_bytes-shift p n a = go (nat_le n (length a.bytes))
  where
    there : ℕ → List ℕ × At
    there q = (take n a.bytes, record { place = q; bytes = drop n a.bytes })

    go : (b : Bool) → when b (there (p + a.place + n)) ≡ shifted p (when b (there (a.place + n)))
    go true = ap (λ (q : ℕ). when true (there q)) (further p a.place n)
    go false = refl

abbrev zeroed : List ℕ × At → Option At
zeroed x = when (all_zero x.0) x.1

same_padding : (p q : ℕ) → p % 8 ≡ 0 → padding 4 (p + q) ≡ padding 4 q
same_padding p q e = omega (arith, e)

aligned-shift : (p : ℕ) (a : At) → p % 8 ≡ 0 → aligned 4 (shift p a) ≡ shifted_at p (aligned 4 a)
aligned-shift p a e = ap (λ (n : ℕ). some_bytes n (shift p a) >>= zeroed) (same_padding p a.place e) ∙ ap (λ (x : Option (List ℕ × At)). x >>= zeroed) (some_bytes-shift p (padding 4 a.place) a) ∙ go (some_bytes (padding 4 a.place) a)
  where
    test : (b : Bool) (x : At) → when b (shift p x) ≡ shifted_at p (when b x)
    test true x = refl
    test false x = refl

    go : (x : Option (List ℕ × At)) → (shifted p x >>= zeroed) ≡ shifted_at p (x >>= zeroed)
    go None = refl
    go (Some x) = test (all_zero x.0) x.1

abbrev numbered : Order → List ℕ × At → Option (ℕ × At)
numbered o x = Some (number_of o w32 x.0, x.1)

number-shift : (o : Order) (p : ℕ) (a : At) → a_width o w32 (shift p a) ≡ shifted p (a_width o w32 a)
number-shift o p a = ap (λ (x : Option (List ℕ × At)). x >>= numbered o) (some_bytes-shift p 4 a) ∙ go (some_bytes 4 a)
  where
    go : (x : Option (List ℕ × At)) → (shifted p x >>= numbered o) ≡ shifted p (x >>= numbered o)
    go None = refl
    go (Some x) = refl

nul-shift : (p n : ℕ) (a : At) → ended_by_nul n (shift p a) ≡ shifted p (ended_by_nul n a)
nul-shift p n a = ap (λ (x : Option (List ℕ × At)). x >>= ended) (some_bytes-shift p n a) ∙ go (some_bytes n a)
  where
    if_nul : List ℕ → List ℕ × At → Option (List ℕ × At)
    if_nul text y = when (all_zero y.0) (text, y.1)

    ended : List ℕ × At → Option (List ℕ × At)
    ended x = some_bytes 1 x.1 >>= if_nul x.0

    test : (b : Bool) (text : List ℕ) (x : At) → when b (text, shift p x) ≡ shifted p (when b (text, x))
    test true text x = refl
    test false text x = refl

    nul : (text : List ℕ) (y : Option (List ℕ × At)) → (shifted p y >>= if_nul text) ≡ shifted p (y >>= if_nul text)
    nul text None = refl
    nul text (Some y) = test (all_zero y.0) text y.1

    go : (x : Option (List ℕ × At)) → (shifted p x >>= ended) ≡ shifted p (x >>= ended)
    go None = refl
    go (Some x) = ap (λ (y : Option (List ℕ × At)). y >>= if_nul x.0) (some_bytes-shift p 1 x.1) ∙ nul x.0 (some_bytes 1 x.1)

-- ---- texts

pub text-shift : (o : Order) (p : ℕ) (a : At) → p % 8 ≡ 0 → text_at o (shift p a) ≡ shifted p (text_at o a)
text-shift o p a e = ap (λ (s : Option At). s >>= λ b. a_width o w32 b >>= λ n. ended_by_nul n.0 n.1 >>= if_text) (aligned-shift p a e) ∙ start (aligned 4 a)
  where
    test : (b : Bool) (x : List ℕ × At) → when b (x.0, shift p x.1) ≡ shifted p (when b x)
    test true x = refl
    test false x = refl

    text : (x : Option (List ℕ × At)) → (shifted p x >>= if_text) ≡ shifted p (x >>= if_text)
    text None = refl
    text (Some x) = test (is_text x.0) x

    len : (n : Option (ℕ × At)) → (shifted p n >>= λ m. ended_by_nul m.0 m.1 >>= if_text) ≡ shifted p (n >>= λ m. ended_by_nul m.0 m.1 >>= if_text)
    len None = refl
    len (Some n) = ap (λ (x : Option (List ℕ × At)). x >>= if_text) (nul-shift p n.0 n.1) ∙ text (ended_by_nul n.0 n.1)

    start : (s : Option At) → (shifted_at p s >>= λ b. a_width o w32 b >>= λ n. ended_by_nul n.0 n.1 >>= if_text) ≡ shifted p (s >>= λ b. a_width o w32 b >>= λ n. ended_by_nul n.0 n.1 >>= if_text)
    start None = refl
    start (Some b) = ap (λ (n : Option (ℕ × At)). n >>= λ m. ended_by_nul m.0 m.1 >>= if_text) (number-shift o p b) ∙ len (a_width o w32 b)

pub texts-shift : (o : Order) (p : ℕ) (fuel : ℕ) (a : At) → p % 8 ≡ 0 → texts_at o fuel (shift p a) ≡ texts_at o fuel a
texts-shift o p zero a e = refl
texts-shift o p (suc fuel) a e = ap (λ (x : Option (List ℕ × At)). cond (is_empty a.bytes) (Some []) (x >>= more)) (text-shift o p a e) ∙ ap (λ (x : Option (List (List ℕ))). cond (is_empty a.bytes) (Some []) x) (go (λ b. texts-shift o p fuel b e) (text_at o a))
  where
    more : List ℕ × At → Option (List (List ℕ))
    more x = texts_at o fuel x.1 >>= λ texts. Some (x.0 ∷ texts)

    go : ((b : At) → texts_at o fuel (shift p b) ≡ texts_at o fuel b) → (x : Option (List ℕ × At)) → (shifted p x >>= more) ≡ (x >>= more)
    go ih None = refl
    go ih (Some x) = ap (λ (t : Option (List (List ℕ))). t >>= λ texts. Some (x.0 ∷ texts)) (ih x.1)

pub elements-shift : (o : Order) (p : ℕ) (a : At) → p % 8 ≡ 0 → elements_in o (shift p a) ≡ shifted_at p (elements_in o a)
elements-shift o p a e = ap (λ (s : Option At). s >>= λ b. a_width o w32 b >>= λ n. aligned 4 n.1 >>= λ f. some_bytes n.0 f >>= found f) (aligned-shift p a e) ∙ start (aligned 4 a)
  where
    found : At → List ℕ × At → Option At
    found f x = Some (record { place = f.place; bytes = x.0 })

    body : (f : At) (x : Option (List ℕ × At)) → (shifted p x >>= found (shift p f)) ≡ shifted_at p (x >>= found f)
    body f None = refl
    body f (Some x) = refl

    first : (n : ℕ) (f : Option At) → (shifted_at p f >>= λ g. some_bytes n g >>= found g) ≡ shifted_at p (f >>= λ g. some_bytes n g >>= found g)
    first n None = refl
    first n (Some f) = ap (λ (x : Option (List ℕ × At)). x >>= found (shift p f)) (some_bytes-shift p n f) ∙ body f (some_bytes n f)

    len : (n : Option (ℕ × At)) → (shifted p n >>= λ m. aligned 4 m.1 >>= λ f. some_bytes m.0 f >>= found f) ≡ shifted_at p (n >>= λ m. aligned 4 m.1 >>= λ f. some_bytes m.0 f >>= found f)
    len None = refl
    len (Some n) = ap (λ (f : Option At). f >>= λ g. some_bytes n.0 g >>= found g) (aligned-shift p n.1 e) ∙ first n.0 (aligned 4 n.1)

    start : (s : Option At) → (shifted_at p s >>= λ b. a_width o w32 b >>= λ n. aligned 4 n.1 >>= λ f. some_bytes n.0 f >>= found f) ≡ shifted_at p (s >>= λ b. a_width o w32 b >>= λ n. aligned 4 n.1 >>= λ f. some_bytes n.0 f >>= found f)
    start None = refl
    start (Some b) = ap (λ (n : Option (ℕ × At)). n >>= λ m. aligned 4 m.1 >>= λ f. some_bytes m.0 f >>= found f) (number-shift o p b) ∙ len (a_width o w32 b)
