-- What a record without a fault is.
use Rattle.std.proofs.Common.{◌≡◌, ℕ, ◌+◌, ◌≤◌, Bool, true, false, cond, List, length, take, drop, get_or, Result, Ok, Err, refl, sym, ap, ◌∙◌, arith}
use Rattle.std.specs.Prelude.{not, ◌&&◌, ◌==◌, nat_lt}
use Rattle.std.specs.Int.{w32, from_le_bytes}
use Rattle.std.proofs.lemmas.Bool.{ltb-false}
use Rattle.recording.specs.declared.RecordingKind.{RecordingKind}
use Rattle.recording.specs.declared.RecordingKind.TheVariants.{BadKind, Cut, BadLength}
use Rattle.recording.specs.declared.BadRecording.{BadRecording}
use Rattle.recording.specs.Recording.{◌>>=◌, record_len, refused}

abbrev pub ok : {A : Type 0} → A → Result A BadRecording
ok x = Ok x

pub ok_is : {A : Type 0} (x y : A) → ok x ≡ ok y → x ≡ y
ok_is x y e = cc

-- a guard that let through
pub passed : {A : Type 0} (b : Bool) (kind : RecordingKind) (at : ℕ) (r : Result A BadRecording) (x : A) → cond b (refused kind at) r ≡ Ok x → (b ≡ false) × (r ≡ Ok x)
passed false kind at r x e = (refl, e)
passed true kind at r x e = absurd cc

pub bind : {A B P : Type 0} (r : Result A BadRecording) (f : A → Result B BadRecording) (y : B) → (r >>= f) ≡ Ok y → ((x : A) → r ≡ Ok x → f x ≡ Ok y → P) → P
bind (Ok x) f y e k = k x refl e
bind (Err d) f y e k = absurd cc

-- ---- one record

pub record Front (bytes : List ℕ) (len : ℕ) : Type 0 where
  pub kind : get_or bytes 0 0 ≤ 3
  pub head : 5 ≤ length bytes
  pub len_is : len ≡ from_le_bytes w32 (take 4 (drop 1 bytes))
  pub none : (nat_lt 1 (get_or bytes 0 0) && not (len == 0)) ≡ false
  pub all : 5 + len ≤ length bytes

pub front_is : (place : ℕ) (bytes : List ℕ) (len : ℕ) → record_len place bytes ≡ Ok len → Front bytes len
unfolding record_len
front_is place bytes len e =
    let n = from_le_bytes w32 (take 4 (drop 1 bytes)) in
    let a = passed (nat_lt 3 (get_or bytes 0 0)) BadKind place _ len e in
    let b = passed (nat_lt (length bytes) 5) Cut (place + length bytes) _ len a.1 in
    let c = passed (nat_lt 1 (get_or bytes 0 0) && not (n == 0)) BadLength (place + 1) _ len b.1 in
    let d = passed (nat_lt (length bytes) (5 + n)) Cut (place + length bytes) _ len c.1 in
    let same : n ≡ len = ok_is n len d.1 in
    record {
      kind = ltb-false 3 (get_or bytes 0 0) a.0;
      head = ltb-false (length bytes) 5 b.0;
      len_is = sym same;
      none = ap (λ (k : ℕ). nat_lt 1 (get_or bytes 0 0) && not (k == 0)) (sym same) ∙ c.0;
      all = omega (arith, same, ltb-false (length bytes) (5 + n) d.0);
    }
