-- What a record of a file of version 2 without a fault is.
use Rattle.std.proofs.Common.{◌≡◌, ℕ, ◌+◌, ◌≤◌, Bool, true, false, List, length, get_or, Ok, refl, sym, ap, ◌∙◌, arith}
use Rattle.std.specs.Prelude.{not, ◌==◌, nat_lt}
use Rattle.std.proofs.lemmas.Bool.{ltb-false, eqb-true}
use Rattle.recording.specs.declared.RecordingKind.TheVariants.{BadKind, Cut, BadLength, BadSession, TooManySessions, BadEnd}
use Rattle.recording.specs.declared.TheConstants.{SESSION_LIMIT}
use Rattle.recording.specs.Sessions.{number_at, with_session, record_session, session_record_len, is_wrong_length, is_wrong_end}
use Rattle.recording.proofs.Fronts.{ok_is, passed}

-- its kind and its session have no fault after records of these sessions
pub record NamesSession (before bytes : List ℕ) (session : ℕ) : Type 0 where
  pub kind : get_or bytes 0 0 ≤ 4
  pub head : 5 ≤ length bytes
  pub is : session ≡ number_at 1 bytes
  pub not_zero : (session == 0) ≡ false
  pub few : length (with_session before session) ≤ SESSION_LIMIT

pub names_session : (before : List ℕ) (place : ℕ) (bytes : List ℕ) (session : ℕ) → record_session before place bytes ≡ Ok session → NamesSession before bytes session
unfolding record_session
names_session before place bytes session e =
    let n = number_at 1 bytes in
    let a = passed (nat_lt 4 (get_or bytes 0 0)) BadKind place _ session e in
    let b = passed (nat_lt (length bytes) 5) Cut (place + length bytes) _ session a.1 in
    let c = passed (n == 0) BadSession (place + 1) _ session b.1 in
    let d = passed (nat_lt SESSION_LIMIT (length (with_session before n))) TooManySessions place _ session c.1 in
    let same : n ≡ session = ok_is n session d.1 in
    record {
      kind = ltb-false 4 (get_or bytes 0 0) a.0;
      head = ltb-false (length bytes) 5 b.0;
      is = sym same;
      not_zero = ap (λ (k : ℕ). k == 0) (sym same) ∙ c.0;
      few = ltb-false SESSION_LIMIT (length (with_session before session)) (ap (λ (k : ℕ). nat_lt SESSION_LIMIT (length (with_session before k))) (sym same) ∙ d.0);
    }

-- the bytes that it counts and their number have no fault
pub record SessionFront (bytes : List ℕ) (len : ℕ) : Type 0 where
  pub head : 9 ≤ length bytes
  pub len_is : len ≡ number_at 5 bytes
  pub fits : is_wrong_length (get_or bytes 0 0) len ≡ false
  pub all : 9 + len ≤ length bytes
  pub ends : is_wrong_end (get_or bytes 0 0) (get_or bytes 9 0) ≡ false

pub session_front_is : (place : ℕ) (bytes : List ℕ) (len : ℕ) → session_record_len place bytes ≡ Ok len → SessionFront bytes len
unfolding session_record_len
session_front_is place bytes len e =
    let kind = get_or bytes 0 0 in
    let n = number_at 5 bytes in
    let a = passed (nat_lt (length bytes) 9) Cut (place + length bytes) _ len e in
    let b = passed (is_wrong_length kind n) BadLength (place + 5) _ len a.1 in
    let c = passed (nat_lt (length bytes) (9 + n)) Cut (place + length bytes) _ len b.1 in
    let d = passed (is_wrong_end kind (get_or bytes 9 0)) BadEnd (place + 9) _ len c.1 in
    let same : n ≡ len = ok_is n len d.1 in
    record {
      head = ltb-false (length bytes) 9 a.0;
      len_is = sym same;
      fits = ap (is_wrong_length kind) (sym same) ∙ b.0;
      all = omega (arith, same, ltb-false (length bytes) (9 + n) c.0);
      ends = d.0;
    }

-- a stop has a byte
pub stop_has_byte : (kind len : ℕ) → kind ≡ 4 → is_wrong_length kind len ≡ false → len ≡ 1
stop_has_byte kind len k e = one (len == 1) refl (ap (λ (x : ℕ). is_wrong_length x len) (sym k) ∙ e)
  where
    one : (b : Bool) → (len == 1) ≡ b → not (len == 1) ≡ false → len ≡ 1
    one true h n = eqb-true len 1 h
    one false h n = absurd cc
