-- The replies that are owed, as the ledger and as the definitions count them.
use Rattle.std.proofs.Common.{ℕ, ◌≡◌, ◌+◌, ◌-◌, Bool, true, false, cond, List, [], ◌∷◌, Option, Some, None, refl, ap, ap₂, ◌∙◌, sym, arith}
use Rattle.std.specs.Prelude.{◌==◌, ◌&&◌}
use Rattle.std.specs.Str.{bytes_eq}
use Rattle.std.proofs.lemmas.Bool.Decides.{nat_tests}
use Rattle.std.proofs.lemmas.Slice.Eq.{bytes_eq-Decides}
use Rattle.dbus_names.specs.Texts.{Text}
use Rattle.policy_view.specs.Sent.{Exchange, is_same}
use Rattle.policy_view.proofs.RepliesLaws.{times, times_append, times_one}
use Rattle.reply_ledger.specs.Owed.{Replies, count_of, is_pair}
use Rattle.reply_ledger.proofs.OneLess.{one_less-counted, one_more-counted}
use Rattle.verdicts.specs.Kept.{owed_by, owed_to}
use Rattle.proxy_core.specs.Messages.{less_for, less_to, more_for, more_to}

bytes_symmetric : (s t : Text) → bytes_eq s t ≡ bytes_eq t s
bytes_symmetric s t = by (bytes_eq s t) (bytes_eq t s) (λ e. (bytes_eq-Decides t s).1 (sym ((bytes_eq-Decides s t).0 e))) (λ e. (bytes_eq-Decides s t).1 (sym ((bytes_eq-Decides t s).0 e)))
  where
    by : (a b : Bool) → (a ≡ true → b ≡ true) → (b ≡ true → a ≡ true) → a ≡ b
    by true b f g = sym (f refl)
    by false true f g = g refl
    by false false f g = refl

number_symmetric : (n k : ℕ) → (n == k) ≡ (k == n)
number_symmetric n k = grind (arith, nat_tests)

pair_is : (s t : Text) (n k : ℕ) → is_pair s n t k ≡ is_same (record { peer = Some t; number = k }) (record { peer = Some s; number = n })
pair_is s t n k = ap₂ (λ (a b : Bool). a && b) (bytes_symmetric s t) (number_symmetric n k)

-- one reply less
less_owed : (owed : Replies) (p q : Option Text) (n k : ℕ) →
    owed_to (less_to owed p n) q k ≡ owed_to owed q k - cond (is_same (record { peer = q; number = k }) (record { peer = p; number = n })) 1 0
less_owed owed None None n k = refl
less_owed owed None (Some t) n k = omega arith
less_owed owed (Some s) None n k = refl
less_owed owed (Some s) (Some t) n k = one_less-counted owed s n t k ∙ by (is_pair s n t k) ∙ ap (λ (b : Bool). count_of owed t k - cond b 1 0) (pair_is s t n k)
  where
    by : (b : Bool) → cond b (count_of owed t k - 1) (count_of owed t k) ≡ count_of owed t k - cond b 1 0
    by true = refl
    by false = omega arith

pub less_for_owed : (xs : List Exchange) (owed : Replies) (e : Exchange) → owed_by (less_for owed xs) e ≡ owed_by owed e - times e xs
less_for_owed [] owed e = omega arith
less_for_owed (x ∷ xs) owed e =
    less_for_owed xs (less_to owed x.peer x.number) e
    ∙ ap (λ (n : ℕ). n - times e xs) (less_owed owed x.peer e.peer x.number e.number)
    ∙ twice (owed_by owed e) (cond (is_same e x) 1 0) (times e xs)
    ∙ ap (λ (n : ℕ). owed_by owed e - n) (ap (λ (k : ℕ). k + times e xs) (sym (times_one e x)) ∙ sym (times_append e (x ∷ []) xs))
  where
    twice : (a b c : ℕ) → (a - b) - c ≡ a - (b + c)
    twice a b c = omega arith

-- one reply more
more_owed : (owed : Replies) (p q : Option Text) (n k : ℕ) →
    owed_to (more_to owed p n) q k ≡ owed_to owed q k + cond (is_same (record { peer = q; number = k }) (record { peer = p; number = n })) 1 0
more_owed owed None None n k = refl
more_owed owed None (Some t) n k = omega arith
more_owed owed (Some s) None n k = refl
more_owed owed (Some s) (Some t) n k = one_more-counted owed s n t k ∙ by (is_pair s n t k) ∙ ap (λ (b : Bool). count_of owed t k + cond b 1 0) (pair_is s t n k)
  where
    by : (b : Bool) → cond b (count_of owed t k + 1) (count_of owed t k) ≡ count_of owed t k + cond b 1 0
    by true = refl
    by false = omega arith

pub more_for_owed : (xs : List Exchange) (owed : Replies) (e : Exchange) → owed_by (more_for owed xs) e ≡ owed_by owed e + times e xs
more_for_owed [] owed e = omega arith
more_for_owed (x ∷ xs) owed e =
    more_for_owed xs (more_to owed x.peer x.number) e
    ∙ ap (λ (n : ℕ). n + times e xs) (more_owed owed x.peer e.peer x.number e.number)
    ∙ twice (owed_by owed e) (cond (is_same e x) 1 0) (times e xs)
    ∙ ap (λ (n : ℕ). owed_by owed e + n) (ap (λ (k : ℕ). k + times e xs) (sym (times_one e x)) ∙ sym (times_append e (x ∷ []) xs))
  where
    twice : (a b c : ℕ) → (a + b) + c ≡ a + (b + c)
    twice a b c = omega arith
