-- The replies that are owed, after one more call and after a reply.
use Rattle.std.proofs.Common.{◌≡◌, ◌≢◌, ◌<◌, ◌+◌, ◌-◌, ◌==◌, ℕ, Bool, true, false, Some, None, refl, ap, sym, ◌∙◌, arith, unwrap_or}
use Rattle.std.proofs.lemmas.Bool.Decides.{Decides-eqb}
use Rattle.std.specs.Bool.{if◌then◌else◌}
use Rattle.std.specs.Ordering.{nat_cmp}
use Rattle.std.specs.FinMap.{empty, get, insert, len, remove, empty_of_len, get-empty, len-empty}
use Rattle.dbus_names.specs.Texts.{Text}
use Rattle.reply_ledger.specs.Owed.{IsKept, Replies, Serials, calls_of, count_in, count_of, is_pair, left_in, one_less, one_less_in, one_more, one_more_in, with_calls}
use Rattle.reply_ledger.proofs.Counting.{by_sender, calls_out, calls_put, count_empty, had-count, less-counted, more-counted, none-less, only-count}
use Rattle.reply_ledger.proofs.Maps.{at_self, put_out}

-- by whether a number is 0
by_zero : (P : Bool → Type 0) (n : ℕ) → (n ≡ 0 → P true) → (0 < n → P false) → P (n == 0)
by_zero P n none some = by (n == 0) (Decides-eqb n 0).0 (Decides-eqb n 0).1
  where
    by : (b : Bool) → (b ≡ true → n ≡ 0) → (n ≡ 0 → b ≡ true) → P b
    by true is there = none (is refl)
    by false is there = let ne : n ≢ 0 = λ e. let both : false ≡ true = there e in cc in some (omega arith)

-- ---- a sender's calls put, or the sender forgotten

pub some-put : (owed : Replies) (s : Text) (calls : Serials) → (calls ≡ empty → ⊥) → with_calls owed s calls ≡ insert owed s calls
some-put owed s calls some =
    by_zero (λ b. (if b then remove owed s else insert owed s calls) ≡ insert owed s calls) (len calls) (λ none. absurd (some (empty_of_len calls none))) (λ lt. refl)

pub none-put : (owed : Replies) (s : Text) (calls : Serials) → calls ≡ empty → with_calls owed s calls ≡ remove owed s
none-put owed s calls none =
    let zero_is : len calls ≡ 0 = ap (λ (m : Serials). len m) none ∙ len-empty nat_cmp ℕ in
    by_zero (λ b. (if b then remove owed s else insert owed s calls) ≡ remove owed s) (len calls) (λ is. refl) (λ lt. absurd (omega arith))

-- a sender without calls is owed nothing, forgotten or not
pub same_forgotten : (owed : Replies) (s : Text) (calls : Serials) (t : Text) (k : ℕ) → count_of (with_calls owed s calls) t k ≡ count_of (insert owed s calls) t k
same_forgotten owed s calls t k =
    by_zero (λ b. count_of (if b then remove owed s else insert owed s calls) t k ≡ count_of (insert owed s calls) t k) (len calls)
    (λ none. forgotten (empty_of_len calls none)) (λ lt. refl)
  where
    forgotten : calls ≡ empty → count_of (remove owed s) t k ≡ count_of (insert owed s calls) t k
    forgotten none =
        ap (λ o. count_in (unwrap_or o empty) k) (calls_out owed s t)
        ∙ by_sender (λ b. count_in (unwrap_or (if b then None else get owed t) empty) k ≡ count_in (unwrap_or (if b then Some calls else get owed t) empty) k) s t
        (λ same. ap (λ (m : Serials). count_in m k) (sym none)) refl
        ∙ ap (λ o. count_in (unwrap_or o empty) k) (sym (calls_put owed s calls t))

-- ---- one less

-- if none is owed, nothing changes
pub same-less : (owed : Replies) (s : Text) (n : ℕ) → count_of owed s n ≡ 0 → owed ≡ one_less owed s n
same-less owed s n none =
    by_zero (λ b. owed ≡ (if b then owed else with_calls owed s (one_less_in (calls_of owed s) n))) (count_of owed s n) (λ is. refl) (λ lt. absurd (omega arith))

some-less : (owed : Replies) (s : Text) (n : ℕ) → 0 < count_of owed s n → one_less owed s n ≡ with_calls owed s (one_less_in (calls_of owed s) n)
some-less owed s n some =
    by_zero (λ b. (if b then owed else with_calls owed s (one_less_in (calls_of owed s) n)) ≡ with_calls owed s (one_less_in (calls_of owed s) n)) (count_of owed s n)
    (λ is. absurd (omega arith)) (λ lt. refl)

-- others are owed to the sender, too
pub taken-less : (owed : Replies) (s : Text) (n : ℕ) (calls left : Serials) → get owed s ≡ Some calls → 0 < count_in calls n → left ≡ one_less_in calls n → IsKept left →
    insert owed s left ≡ one_less owed s n
taken-less owed s n calls left had some is kept =
    let count_is : count_of owed s n ≡ count_in calls n = had-count owed s n calls had in
    sym (some-put owed s left kept.some)
    ∙ ap (λ m. with_calls owed s m) (is ∙ ap (λ (m : Serials). one_less_in m n) (sym (ap (λ o. unwrap_or o empty) had)))
    ∙ sym (some-less owed s n (omega arith))

-- it was the only one that was owed to the sender
pub last-less : (owed : Replies) (s : Text) (n : ℕ) → get owed s ≡ Some (one_more_in empty n) → remove owed s ≡ one_less owed s n
last-less owed s n only =
    let count_is : count_of owed s n ≡ 1 = only-count owed s n only in
    sym (none-put owed s (one_less_in (calls_of owed s) n) (ap (λ o. one_less_in (unwrap_or o empty) n) only ∙ nothing))
    ∙ sym (some-less owed s n (omega arith))
  where
    nothing : one_less_in (one_more_in empty n) n ≡ empty
    nothing =
        ap (λ c. one_less_in (insert empty n (c + 1)) n) (count_empty n)
        ∙ ap (left_in (insert empty n 1) n) (at_self empty n 1)
        ∙ put_out empty n 1 (get-empty nat_cmp n)

-- ---- how many replies are owed then

pub one_more-counted : (owed : Replies) (s : Text) (n : ℕ) (t : Text) (k : ℕ) →
    count_of (one_more owed s n) t k ≡ (if is_pair s n t k then count_of owed t k + 1 else count_of owed t k)
one_more-counted owed s n = more-counted owed s n (calls_of owed s) refl

pub one_less-counted : (owed : Replies) (s : Text) (n : ℕ) (t : Text) (k : ℕ) →
    count_of (one_less owed s n) t k ≡ (if is_pair s n t k then count_of owed t k - 1 else count_of owed t k)
one_less-counted owed s n t k =
    by_zero (λ b. count_of (if b then owed else with_calls owed s left) t k ≡ (if is_pair s n t k then count_of owed t k - 1 else count_of owed t k)) (count_of owed s n)
    (λ none. none-less owed s n none t k)
    (λ some. same_forgotten owed s left t k ∙ less-counted owed s n (calls_of owed s) refl t k)
  where
    left : Serials
    left = one_less_in (calls_of owed s) n
