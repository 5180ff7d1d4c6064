-- How many replies are owed after one more call, and after a reply.
use Rattle.std.proofs.Common.{◌≡◌, ◌≤◌, ◌+◌, ◌-◌, ◌==◌, ◌&&◌, ℕ, zero, suc, Bool, true, false, Option, Some, None, cond, refl, ap, ap₂, sym, subst, ◌∙◌, arith, unwrap_or}
use Rattle.std.proofs.lemmas.Bool.Decides.{Decides-eqb}
use Rattle.std.proofs.lemmas.Slice.Eq.{bytes_eq-Decides}
use Rattle.std.specs.Bool.{if◌then◌else◌}
use Rattle.std.specs.Str.{bytes_eq}
use Rattle.std.specs.Ordering.{nat_cmp}
use Rattle.std.specs.Cmp.{eq_by_cmp_equiv}
use Rattle.std.specs.Cmp.Lexicographic.{slice_cmp}
use Rattle.std.proofs.lemmas.Cmp.{nat_list_cmp_total}
use Rattle.std.proofs.lemmas.Option.{same_Some}
use Rattle.std.proofs.lemmas.Map.Text.{is_eq-slice_cmp}
use Rattle.std.specs.FinMap.{empty, get, insert, remove, get-empty, get-insert, get-remove}
use Rattle.dbus_names.specs.Texts.{Text}
use Rattle.reply_ledger.specs.Owed.{IsKept, KeepsOwedAlone, Replies, Serials, calls_of, count_in, count_of, is_pair, left_in, one_less_in, one_more_in, with_count}
use Rattle.reply_ledger.proofs.Maps.{at_out, at_put, by_number}

-- ---- one sender

pub count_more : (calls : Serials) (n k : ℕ) → count_in (one_more_in calls n) k ≡ (if n == k then count_in calls k + 1 else count_in calls k)
count_more calls n k =
    ap (λ o. unwrap_or o 0) (at_put calls n (count_in calls n + 1) k)
    ∙ by_number (λ b. unwrap_or (if b then Some (count_in calls n + 1) else get calls k) 0 ≡ (if b then count_in calls k + 1 else count_in calls k)) n k
    (λ same. ap (λ s. count_in calls s + 1) same) refl

with_count-at : (calls : Serials) (n v k : ℕ) → count_in (with_count calls n v) k ≡ (if n == k then v else count_in calls k)
with_count-at calls n zero k =
    ap (λ o. unwrap_or o 0) (at_out calls n k)
    ∙ by_number (λ b. unwrap_or (if b then None else get calls k) 0 ≡ (if b then 0 else count_in calls k)) n k (λ same. refl) refl
with_count-at calls n (suc v) k =
    ap (λ o. unwrap_or o 0) (at_put calls n (suc v) k)
    ∙ by_number (λ b. unwrap_or (if b then Some (suc v) else get calls k) 0 ≡ (if b then suc v else count_in calls k)) n k (λ same. refl) refl

pub count_less : (calls : Serials) (n k : ℕ) → count_in (one_less_in calls n) k ≡ (if n == k then count_in calls k - 1 else count_in calls k)
count_less calls n k = by (get calls n) refl
  where
    by : (o : Option ℕ) → get calls n ≡ o → count_in (left_in calls n o) k ≡ (if n == k then count_in calls k - 1 else count_in calls k)
    by None is =
        by_number (λ b. count_in calls k ≡ (if b then count_in calls k - 1 else count_in calls k)) n k
        (λ same. let none : count_in calls k ≡ 0 = ap (λ s. count_in calls s) (sym same) ∙ ap (λ o. unwrap_or o 0) is in omega arith) refl
    by (Some v) is =
        with_count-at calls n (v - 1) k
        ∙ by_number (λ b. (if b then v - 1 else count_in calls k) ≡ (if b then count_in calls k - 1 else count_in calls k)) n k
        (λ same. ap (λ o. unwrap_or o 0 - 1) (sym is) ∙ ap (λ s. count_in calls s - 1) same) refl

-- ---- all senders

pub calls_put : (owed : Replies) (s : Text) (calls : Serials) (t : Text) → get (insert owed s calls) t ≡ (if bytes_eq s t then Some calls else get owed t)
calls_put owed s calls t =
    get-insert nat_list_cmp_total owed s calls t
    ∙ ap (λ b. cond b (Some calls) (get owed t)) ((eq_by_cmp_equiv nat_list_cmp_total).symm t s ∙ is_eq-slice_cmp s t)

pub calls_out : (owed : Replies) (s t : Text) → get (remove owed s) t ≡ (if bytes_eq s t then None else get owed t)
calls_out owed s t =
    get-remove nat_list_cmp_total owed s t
    ∙ ap (λ b. cond b None (get owed t)) ((eq_by_cmp_equiv nat_list_cmp_total).symm t s ∙ is_eq-slice_cmp s t)

pub by_sender : (P : Bool → Type 0) (s t : Text) → (s ≡ t → P true) → P false → P (bytes_eq s t)
by_sender P s t same other = by (bytes_eq s t) (bytes_eq-Decides s t).0
  where
    by : (b : Bool) → (b ≡ true → s ≡ t) → P b
    by true is = same (is refl)
    by false is = other

-- a sender's calls with another count at a serial
pub pair_put : (f : ℕ → ℕ) (owed : Replies) (s : Text) (n : ℕ) (calls : Serials) →
    ((k : ℕ) → count_in calls k ≡ (if n == k then f (count_of owed s k) else count_of owed s k)) →
    (t : Text) (k : ℕ) → count_of (insert owed s calls) t k ≡ (if is_pair s n t k then f (count_of owed t k) else count_of owed t k)
pair_put f owed s n calls is t k =
    ap (λ o. count_in (unwrap_or o empty) k) (calls_put owed s calls t)
    ∙ by_sender (λ b. count_in (unwrap_or (if b then Some calls else get owed t) empty) k ≡ (if b && n == k then f (count_of owed t k) else count_of owed t k)) s t
    (λ same. is k ∙ ap (λ u. if n == k then f (count_of owed u k) else count_of owed u k) same) refl

-- a sender's only call is answered
pub pair_out : (owed : Replies) (s : Text) (n : ℕ) → get owed s ≡ Some (one_more_in empty n) →
    (t : Text) (k : ℕ) → count_of (remove owed s) t k ≡ (if is_pair s n t k then count_of owed t k - 1 else count_of owed t k)
pair_out owed s n only t k =
    ap (λ o. count_in (unwrap_or o empty) k) (calls_out owed s t)
    ∙ by_sender (λ b. count_in (unwrap_or (if b then None else get owed t) empty) k ≡ (if b && n == k then count_of owed t k - 1 else count_of owed t k)) s t
    (λ same. none ∙ ap (λ u. if n == k then count_of owed u k - 1 else count_of owed u k) same) refl
  where
    empty_at : (j : ℕ) → count_in empty j ≡ 0
    empty_at j = ap (λ o. unwrap_or o 0) (get-empty nat_cmp j)

    was : count_of owed s k ≡ (if n == k then 1 else 0)
    was = ap (λ o. count_in (unwrap_or o empty) k) only ∙ count_more empty n k ∙ ap (λ c. if n == k then c + 1 else c) (empty_at k)

    none : count_in empty k ≡ (if n == k then count_of owed s k - 1 else count_of owed s k)
    none =
        empty_at k
        ∙ by_number (λ b. 0 ≡ (if b then (if b then 1 else 0) - 1 else (if b then 1 else 0))) n k (λ same. refl) refl
        ∙ ap (λ c. if n == k then c - 1 else c) (sym was)

-- ---- nothing is kept of what isn't owed

some_in : (calls : Serials) (n v : ℕ) → get calls n ≡ Some v → calls ≡ empty → ⊥
some_in calls n v is none = let both : Some v ≡ None = sym is ∙ ap (λ m. get m n) none ∙ get-empty nat_cmp n in cc

pub put_kept : (calls : Serials) (n v : ℕ) → ((k : ℕ) → get calls k ≡ Some 0 → ⊥) → 1 ≤ v → IsKept (insert calls n v)
put_kept calls n v positive counted =
    record {
      some = some_in (insert calls n v) n v (at_put calls n v n ∙ ap (λ b. if b then Some v else get calls n) ((Decides-eqb n n).1 refl));
      positive = λ k is. by k (at_put calls n v k) is;
    }
  where
    by : (k : ℕ) → get (insert calls n v) k ≡ (if n == k then Some v else get calls k) → get (insert calls n v) k ≡ Some 0 → ⊥
    by k at is = by_number (λ b. (if b then Some v else get calls k) ≡ Some 0 → ⊥) n k (λ same e. let zero_is : v ≡ 0 = cc in omega arith) (λ e. positive k e) (sym at ∙ is)

pub more-kept : (calls : Serials) (n : ℕ) → ((k : ℕ) → get calls k ≡ Some 0 → ⊥) → IsKept (one_more_in calls n)
more-kept calls n positive = put_kept calls n (count_in calls n + 1) positive (omega arith)

pub with_count-some : (calls : Serials) (n v : ℕ) → 1 ≤ v → with_count calls n v ≡ insert calls n v
with_count-some calls n zero le = absurd (omega arith)
with_count-some calls n (suc v) le = refl

pub with_count-none : (calls : Serials) (n v : ℕ) → v ≤ 0 → with_count calls n v ≡ remove calls n
with_count-none calls n zero le = refl
with_count-none calls n (suc v) le = absurd (omega arith)

pub count_empty : (n : ℕ) → count_in empty n ≡ 0
count_empty n = ap (λ o. unwrap_or o 0) (get-empty nat_cmp n)

pub none-kept : KeepsOwedAlone empty
none-kept = record { each = λ s calls is. let both : None ≡ Some calls = sym (get-empty (slice_cmp nat_cmp) s) ∙ is in cc }

pub put-kept : (owed : Replies) (s : Text) (calls : Serials) → IsKept calls → KeepsOwedAlone owed → KeepsOwedAlone (insert owed s calls)
put-kept owed s calls kept all =
    record { each = λ t others is. by (bytes_eq s t) t others (sym (calls_put owed s calls t) ∙ is) }
  where
    by : (b : Bool) (t : Text) (others : Serials) → (if b then Some calls else get owed t) ≡ Some others → IsKept others
    by true t others e = let same : calls ≡ others = same_Some calls others e in subst (λ (c : Serials). IsKept c) same kept
    by false t others e = all.each t others e

pub out-kept : (owed : Replies) (s : Text) → KeepsOwedAlone owed → KeepsOwedAlone (remove owed s)
out-kept owed s all =
    record { each = λ t others is. by (bytes_eq s t) t others (sym (calls_out owed s t) ∙ is) }
  where
    by : (b : Bool) (t : Text) (others : Serials) → (if b then None else get owed t) ≡ Some others → IsKept others
    by true t others e = let no : None ≡ Some others = e in cc
    by false t others e = all.each t others e

-- ---- one sender's call, seen among all

pub had-count : (owed : Replies) (s : Text) (n : ℕ) (calls : Serials) → get owed s ≡ Some calls → count_of owed s n ≡ count_in calls n
had-count owed s n calls had = ap (λ o. count_in (unwrap_or o empty) n) had

pub none-count : (owed : Replies) (s : Text) (n : ℕ) → get owed s ≡ None → count_of owed s n ≡ 0
none-count owed s n none = ap (λ o. count_in (unwrap_or o empty) n) none ∙ count_empty n

pub absent-count : (owed : Replies) (s : Text) (n : ℕ) (calls : Serials) → get owed s ≡ Some calls → get calls n ≡ None → count_of owed s n ≡ 0
absent-count owed s n calls had none = had-count owed s n calls had ∙ ap (λ o. unwrap_or o 0) none

pub only-count : (owed : Replies) (s : Text) (n : ℕ) → get owed s ≡ Some (one_more_in empty n) → count_of owed s n ≡ 1
only-count owed s n only =
    had-count owed s n (one_more_in empty n) only ∙ count_more empty n n
    ∙ ap (λ b. if b then count_in empty n + 1 else count_in empty n) ((Decides-eqb n n).1 refl) ∙ ap (λ c. c + 1) (count_empty n)

pub more-counted : (owed : Replies) (s : Text) (n : ℕ) (calls : Serials) → calls_of owed s ≡ calls →
    (t : Text) (k : ℕ) → count_of (insert owed s (one_more_in calls n)) t k ≡ (if is_pair s n t k then count_of owed t k + 1 else count_of owed t k)
more-counted owed s n calls is =
    pair_put (λ c. c + 1) owed s n (one_more_in calls n)
    (λ k. count_more calls n k ∙ ap (λ (m : Serials). if n == k then count_in m k + 1 else count_in m k) (sym is))

pub less-counted : (owed : Replies) (s : Text) (n : ℕ) (calls : Serials) → calls_of owed s ≡ calls →
    (t : Text) (k : ℕ) → count_of (insert owed s (one_less_in calls n)) t k ≡ (if is_pair s n t k then count_of owed t k - 1 else count_of owed t k)
less-counted owed s n calls is =
    pair_put (λ c. c - 1) owed s n (one_less_in calls n)
    (λ k. count_less calls n k ∙ ap (λ (m : Serials). if n == k then count_in m k - 1 else count_in m k) (sym is))

pub none-less : (owed : Replies) (s : Text) (n : ℕ) → count_of owed s n ≡ 0 →
    (t : Text) (k : ℕ) → count_of owed t k ≡ (if is_pair s n t k then count_of owed t k - 1 else count_of owed t k)
none-less owed s n none t k =
    by_sender (λ b. count_of owed t k ≡ (if b && n == k then count_of owed t k - 1 else count_of owed t k)) s t
    (λ same. by_number (λ b. count_of owed t k ≡ (if b then count_of owed t k - 1 else count_of owed t k)) n k
    (λ as_well. let zero : count_of owed t k ≡ 0 = ap₂ (count_of owed) (sym same) (sym as_well) ∙ none in omega arith) refl)
    refl

pub more-all-kept : (owed : Replies) (s : Text) (n : ℕ) (calls : Serials) → get owed s ≡ Some calls → KeepsOwedAlone owed → KeepsOwedAlone (insert owed s (one_more_in calls n))
more-all-kept owed s n calls had all = put-kept owed s (one_more_in calls n) (more-kept calls n (all.each s calls had).positive) all

pub first-all-kept : (owed : Replies) (s : Text) (n : ℕ) → KeepsOwedAlone owed → KeepsOwedAlone (insert owed s (one_more_in empty n))
first-all-kept owed s n all =
    put-kept owed s (one_more_in empty n) (more-kept empty n (λ k is. let no : None ≡ Some 0 = sym (get-empty nat_cmp k) ∙ is in cc)) all
