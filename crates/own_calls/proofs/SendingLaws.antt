-- Messages that are sent one after the other.
use Rattle.std.proofs.Common.{◌≡◌, ℕ, ◌+◌, true, List, [], ◌∷◌, ◌++◌, length, OnErr, Result, Ok, Err, refl, ap, ap₂, sym, ◌∙◌, arith, append_assoc, append-nil, length-append}
use Rattle.std.specs.Bool.{if◌then◌else◌}
use Rattle.std.specs.Ordering.{nat_cmp}
use Rattle.std.specs.FinMap.{FinMap, insert}
use Rattle.dbus_header.specs.Message.{spell, with_serial}
use Rattle.policy_view.specs.Sent.{Sent, expected_of, expects_answer, message_of, spelled_from}
use Rattle.reply_ledger.specs.Ledger.{Ledger}
use Rattle.reply_ledger.specs.declared.kind.Kind.{Kind}
use Rattle.own_calls.specs.Sending.{AreCutOff, AreSent, OfFront, expecting}

pub spelled_from-append : (n : ℕ) (a b : List Sent) → spelled_from n (a ++ b) ≡ spelled_from n a ++ spelled_from (n + length a) b
spelled_from-append n [] b = ap (λ k. spelled_from k b) (omega arith)
spelled_from-append n (s ∷ a) b =
    ap (λ t. spell (with_serial n (message_of s)) ++ t) (spelled_from-append (n + 1) a b ∙ ap (λ k. spelled_from (n + 1) a ++ spelled_from k b) (omega arith))
    ∙ sym (append_assoc (spell (with_serial n (message_of s))) (spelled_from (n + 1) a) (spelled_from (n + length (s ∷ a)) b))

pub expecting-append : (expected : FinMap nat_cmp Kind) (n : ℕ) (a b : List Sent) → expecting expected n (a ++ b) ≡ expecting (expecting expected n a) (n + length a) b
expecting-append expected n [] b = ap (λ k. expecting expected k b) (omega arith)
expecting-append expected n (s ∷ a) b =
    let first = if expects_answer s then insert expected n (expected_of s) else expected in
    expecting-append first (n + 1) a b ∙ ap (λ k. expecting (expecting first (n + 1) a) k b) (omega arith)

-- ---- messages that are sent

pub none-sent : (calls : List ℕ) (given : ℕ) (ledger : Ledger) → AreSent [] calls given ledger calls given ledger
none-sent calls given ledger = record { bytes = sym (append-nil calls); serials = omega arith; expected = refl }

pub one-sent : (s : Sent) (calls calls_then : List ℕ) (given given_then n : ℕ) (ledger ledger_then : Ledger) → expects_answer s ≡ true → n ≡ given + 1 →
    calls_then ≡ calls ++ spell (with_serial n (message_of s)) → given_then ≡ given + 1 → ledger_then ≡ record ledger { expected = insert ledger.expected (given + 1) (expected_of s) } →
    AreSent (s ∷ []) calls given ledger calls_then given_then ledger_then
one-sent s calls calls_then given given_then n ledger ledger_then answered n_is bytes serials expected =
    record {
      bytes = bytes ∙ ap (λ k. calls ++ spell (with_serial k (message_of s))) n_is ∙ ap (λ t. calls ++ t) (sym (append-nil (spell (with_serial (given + 1) (message_of s)))));
      serials = serials;
      expected = expected
          ∙ ap (λ b. record ledger { expected = if b then insert ledger.expected (given + 1) (expected_of s) else ledger.expected }) (sym answered);
    }

-- the next of them, from the first one's serial on
next-serial : (a : List Sent) (given given_between : ℕ) → given_between ≡ given + length a → given_between + 1 ≡ given + 1 + length a
next-serial a given given_between is = omega (arith, is)

both-spelled : (a b : List Sent) (calls calls_between calls_then : List ℕ) (given given_between : ℕ) → calls_between ≡ calls ++ spelled_from (given + 1) a → given_between ≡ given + length a →
    calls_then ≡ calls_between ++ spelled_from (given_between + 1) b → calls_then ≡ calls ++ spelled_from (given + 1) (a ++ b)
both-spelled a b calls calls_between calls_then given given_between first between second =
    second
    ∙ ap₂ (λ (c : List ℕ) k. c ++ spelled_from k b) first (next-serial a given given_between between)
    ∙ append_assoc calls (spelled_from (given + 1) a) (spelled_from (given + 1 + length a) b)
    ∙ ap (λ t. calls ++ t) (sym (spelled_from-append (given + 1) a b))

both-given : (a b : List Sent) (given given_between given_then : ℕ) → given_between ≡ given + length a → given_then ≡ given_between + length b → given_then ≡ given + length (a ++ b)
both-given a b given given_between given_then first second = omega (arith, first, second, length-append a b)

both-expected : (a b : List Sent) (ledger ledger_between ledger_then : Ledger) (given given_between : ℕ) → ledger_between ≡ record ledger { expected = expecting ledger.expected (given + 1) a } →
    given_between ≡ given + length a → ledger_then ≡ record ledger_between { expected = expecting ledger_between.expected (given_between + 1) b } →
    ledger_then ≡ record ledger { expected = expecting ledger.expected (given + 1) (a ++ b) }
both-expected a b ledger ledger_between ledger_then given given_between first between second =
    second
    ∙ ap₂ (λ (l : Ledger) k. record l { expected = expecting l.expected k b }) first (next-serial a given given_between between)
    ∙ ap (λ e. record ledger { expected = e }) (sym (expecting-append ledger.expected (given + 1) a b))

pub both-sent : (a b : List Sent) (calls calls_between calls_then : List ℕ) (given given_between given_then : ℕ) (ledger ledger_between ledger_then : Ledger) →
    AreSent a calls given ledger calls_between given_between ledger_between → AreSent b calls_between given_between ledger_between calls_then given_then ledger_then →
    AreSent (a ++ b) calls given ledger calls_then given_then ledger_then
both-sent a b calls calls_between calls_then given given_between given_then ledger ledger_between ledger_then first second =
    record {
      bytes = both-spelled a b calls calls_between calls_then given given_between first.bytes first.serials second.bytes;
      serials = both-given a b given given_between given_then first.serials second.serials;
      expected = both-expected a b ledger ledger_between ledger_then given given_between first.expected first.serials second.expected;
    }

-- ---- messages amid which memory was refused

no-front : {A : Type 0} (whole : List A) (IsSo : List A → Type 0) → IsSo [] → OfFront whole IsSo
no-front whole IsSo is = record { front = []; rest = whole; joined = refl; is_so = is }

whole-front : {A : Type 0} (whole : List A) (IsSo : List A → Type 0) → IsSo whole → OfFront whole IsSo
whole-front whole IsSo is = record { front = whole; rest = []; joined = append-nil whole; is_so = is }

longer-front : {A : Type 0} (a b : List A) (IsSo : List A → Type 0) → OfFront a IsSo → OfFront (a ++ b) IsSo
longer-front a b IsSo f = record { front = f.front; rest = f.rest ++ b; joined = sym (append_assoc f.front f.rest b) ∙ ap (λ t. t ++ b) f.joined; is_so = f.is_so }

later-front : {A : Type 0} (a b : List A) (IsSo IsSoThen : List A → Type 0) → ((front : List A) → IsSo front → IsSoThen (a ++ front)) → OfFront b IsSo → OfFront (a ++ b) IsSoThen
later-front a b IsSo IsSoThen goes_on f =
    record { front = a ++ f.front; rest = f.rest; joined = append_assoc a f.front f.rest ∙ ap (λ t. a ++ t) f.joined; is_so = goes_on f.front f.is_so }

-- what always holds also holds if memory was refused
pub refused : {A E : Type 0} (r : Result A E) {P : Type 0} → P → OnErr r P
refused (Ok x) p = tt
refused (Err e) p = p

-- before the first of them
pub cut_at_once : (sent : List Sent) (calls : List ℕ) (given : ℕ) (ledger : Ledger) → AreCutOff sent calls given ledger calls given ledger
cut_at_once sent calls given ledger =
    record { bytes = no-front sent _ (sym (append-nil calls)); serials = no-front sent _ (omega arith); expected = no-front sent _ refl }

-- at one that has its serial
pub cut_given : (s : Sent) (calls : List ℕ) (given : ℕ) (ledger : Ledger) → AreCutOff (s ∷ []) calls given ledger calls (given + 1) ledger
cut_given s calls given ledger =
    record { bytes = no-front (s ∷ []) _ (sym (append-nil calls)); serials = whole-front (s ∷ []) _ refl; expected = no-front (s ∷ []) _ refl }

-- and whose answer is expected
pub cut_expected : (s : Sent) (calls calls_then : List ℕ) (given given_then : ℕ) (ledger ledger_then : Ledger) → expects_answer s ≡ true → calls_then ≡ calls → given_then ≡ given + 1 →
    ledger_then ≡ record ledger { expected = insert ledger.expected (given + 1) (expected_of s) } → AreCutOff (s ∷ []) calls given ledger calls_then given_then ledger_then
cut_expected s calls calls_then given given_then ledger ledger_then answered bytes serials expected =
    record {
      bytes = no-front (s ∷ []) _ (bytes ∙ sym (append-nil calls));
      serials = whole-front (s ∷ []) _ serials;
      expected = whole-front (s ∷ []) _ (expected ∙ ap (λ b. record ledger { expected = if b then insert ledger.expected (given + 1) (expected_of s) else ledger.expected }) (sym answered));
    }

-- amid the first messages
pub cut_first : {calls calls_then : List ℕ} {given given_then : ℕ} {ledger ledger_then : Ledger} (a b : List Sent) → AreCutOff a calls given ledger calls_then given_then ledger_then →
    AreCutOff (a ++ b) calls given ledger calls_then given_then ledger_then
cut_first a b cut = record { bytes = longer-front a b _ cut.bytes; serials = longer-front a b _ cut.serials; expected = longer-front a b _ cut.expected }

-- and amid those that follow what was sent
pub cut_later : {calls calls_between calls_then : List ℕ} {given given_between given_then : ℕ} {ledger ledger_between ledger_then : Ledger} (a b : List Sent) →
    AreSent a calls given ledger calls_between given_between ledger_between → AreCutOff b calls_between given_between ledger_between calls_then given_then ledger_then →
    AreCutOff (a ++ b) calls given ledger calls_then given_then ledger_then
cut_later {calls} {calls_between} {calls_then} {given} {given_between} {given_then} {ledger} {ledger_between} {ledger_then} a b first cut =
    record {
      bytes = later-front a b _ _ (λ front is. both-spelled a front calls calls_between calls_then given given_between first.bytes first.serials is) cut.bytes;
      serials = later-front a b _ _ (λ front is. both-given a front given given_between given_then first.serials is) cut.serials;
      expected = later-front a b _ _ (λ front is. both-expected a front ledger ledger_between ledger_then given given_between first.expected first.serials is) cut.expected;
    }
