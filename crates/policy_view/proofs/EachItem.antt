-- What holds of each item that events bring, and of each End, holds of each item of their history.
use Rattle.std.proofs.Common.{ℕ, zero, suc, Bool, true, false, ◌+◌, if◌then◌else◌, List, [], ◌∷◌, ◌++◌, drop, length, map, nat_le, Option, Some, None}
use Rattle.std.specs.List.{AllByRecursion}
use Rattle.policy_args.specs.Policy.{Policy}
use Rattle.policy_view.specs.History.{Event, arrived, end_of, followed_by, followed_by_all, followed_unless, history, most_sent, placed}
use Rattle.policy_view.specs.Past.{Item, Ended, History, due, past}
use Rattle.policy_view.specs.declared.End.{End}
use Rattle.policy_view.specs.declared.End.TheVariants.{SerialsSpent}
use Rattle.policy_view.specs.declared.Mode.{Mode}

pub all_append : {A : Type 0} (P : A → Type 0) (xs ys : List A) → AllByRecursion P xs → AllByRecursion P ys → AllByRecursion P (xs ++ ys)
all_append P [] ys all more = more
all_append P (x ∷ xs) ys all more = (all.0, all_append P xs ys all.1 more)

pub all_drop : {A : Type 0} (P : A → Type 0) (n : ℕ) (xs : List A) → AllByRecursion P xs → AllByRecursion P (drop n xs)
all_drop P zero xs all = all
all_drop P (suc n) [] all = tt
all_drop P (suc n) (x ∷ xs) all = all_drop P n xs all.1

pub all_map : {A B : Type 0} (P : B → Type 0) (f : A → B) (xs : List A) → AllByRecursion (λ x. P (f x)) xs → AllByRecursion P (map f xs)
all_map P f [] all = tt
all_map P f (x ∷ xs) all = (all.0, all_map P f xs all.1)

module _ (P : Item → Type 0) (of_end : (end : End) → P (Ended end)) (policy : Policy) where
  of_placed : (before : History) (item : Item) → P item → P (placed policy (past policy before) item)
  unfolding placed
  of_placed before item is = by (nat_le (length (past policy before).told.sent + length (due policy (past policy before) item)) most_sent)
    where
      by : (b : Bool) → P (if b then item else Ended SerialsSpent)
      by true = is
      by false = of_end SerialsSpent

  all_unless : (last : Option End) (before : History) (item : Item) → P item → AllByRecursion P before → AllByRecursion P (followed_unless last policy before item)
  all_unless (Some end) before item is all = all
  all_unless None before item is all = (of_placed before item is, all)

  all_followed : (before : History) (items : List Item) → AllByRecursion P before → AllByRecursion P items → AllByRecursion P (followed_by_all policy before items)
  unfolding followed_by_all followed_by
  all_followed before [] all new = all
  all_followed before (item ∷ items) all new = all_followed (followed_by policy before item) items (all_unless (end_of before) before item new.0 all) new.1

  pub each_item : (mode : Mode) (Q : List Event → Type 0) → ((event : Event) (events : List Event) → Q (event ∷ events) → Q events)
      → ((event : Event) (events : List Event) → Q (event ∷ events) → AllByRecursion P (arrived mode events event)) → (events : List Event) → Q events → AllByRecursion P (history policy mode events)
  unfolding history
  each_item mode Q earlier brings [] q = tt
  each_item mode Q earlier brings (event ∷ events) q =
      all_followed (history policy mode events) (arrived mode events event) (each_item mode Q earlier brings events (earlier event events q)) (brings event events q)
