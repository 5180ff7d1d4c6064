-- Messages that are sent one after the other, and what is expected then.
use Rattle.std.specs.Prelude.{◌≡◌, ℕ, ◌+◌, List, [], ◌∷◌, ◌++◌, length, if◌then◌else◌}
use Rattle.std.specs.Ordering.{nat_cmp}
use Rattle.std.specs.FinMap.{FinMap, insert}
use Rattle.policy_view.specs.Sent.{Sent, expected_of, expects_answer, spelled_from}
use Rattle.reply_ledger.specs.Ledger.{Ledger}
use Rattle.reply_ledger.specs.declared.kind.Kind.{Kind}

-- what is expected when these messages are sent, the first with serial n
abbrev pub expecting : FinMap nat_cmp Kind → ℕ → List Sent → FinMap nat_cmp Kind
expecting expected n [] = expected
expecting expected n (s ∷ rest) = expecting (if expects_answer s then insert expected n (expected_of s) else expected) (n + 1) rest

-- these messages were sent: their bytes follow the calls, they took the next serials, and their answers are expected
pub record AreSent (sent : List Sent) (calls : List ℕ) (given : ℕ) (ledger : Ledger) (calls_then : List ℕ) (given_then : ℕ) (ledger_then : Ledger) : Type 0 where
  pub bytes : calls_then ≡ calls ++ spelled_from (given + 1) sent
  pub serials : given_then ≡ given + length sent
  pub expected : ledger_then ≡ record ledger { expected = expecting ledger.expected (given + 1) sent }

-- it holds of a prefix of the list
pub record OfFront {A : Type 0} (whole : List A) (IsSo : List A → Type 0) : Type 0 where
  pub front : List A
  pub rest : List A
  pub joined : front ++ rest ≡ whole
  pub is_so : IsSo front

-- memory was refused between these messages: those whose bytes follow the calls, those that took their serials and
-- those whose answers are expected are each a prefix of them
pub record AreCutOff (sent : List Sent) (calls : List ℕ) (given : ℕ) (ledger : Ledger) (calls_then : List ℕ) (given_then : ℕ) (ledger_then : Ledger) : Type 0 where
  pub bytes : OfFront sent (λ front. calls_then ≡ calls ++ spelled_from (given + 1) front)
  pub serials : OfFront sent (λ front. given_then ≡ given + length front)
  pub expected : OfFront sent (λ front. ledger_then ≡ record ledger { expected = expecting ledger.expected (given + 1) front })
